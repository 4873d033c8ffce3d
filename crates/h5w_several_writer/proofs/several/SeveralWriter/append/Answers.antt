use Rattle.std.proofs.Common.{◌≡◌, ◌∙◌, ◌⊎◌, ◌<◌, false, length, IfErr, OnOk, Some, Option, slice_get, slice_set, sym, ap, subst, arith}
use Rattle.h5w_writer.specs.Refusals.{append_refusal}
use Rattle.h5w_writer.specs.Sessions.{Session}
use Rattle.h5w_writer.specs.declared.refusal.AppendError.{AppendError}
use Rattle.h5w_writer.specs.declared.refusal.AppendError.TheVariants.{Failed, OutOfMemory}
use Rattle.h5w_several_writer.specs.Refusals.{append_refusal_in}
use Rattle.h5w_several_writer_laws.specs.Sessions.{AppendsTo, Sessions, all_pending}
use Rattle.h5w_several_writer.proofs.CountedLemmas.{added_either, added_to, room_at, rows_at, within_at}
use Rattle.h5w_several_writer.proofs.EndLemmas.{get_at, refusal_in, same_part}
use Rattle.h5w_several_writer.proofs.StandLemmas.{append_stands}
use Rattle.h5w_several_writer.proofs.several.SeveralWriter.append.Goals as goal

pub invariant_of-self : goal.invariant_of-self
invariant_of-self g c =
    let s = c.index_mut.result.now in
    let e = c.append_waiting.ensures in
    let inside : c.args.d < length c.self.inside.parts.items = omega (arith, c.requires.inside, ap (λ (S : Sessions). length S.parts) c.self.view_is) in
    let at = get_at c.self.inside.parts.items c.args.d s inside ∙ ap (λ (v : Session). Some v) (sym c.index_mut.ensures.value) in
    added_either _ c.args.d s c.append_waiting.new.self c.args.values.now c.append_waiting.result c.self.invariant at e.added e.is e.kept

pub returns-clause-added : goal.returns-clause-added
returns-clause-added g c =
    let i = c.self.inside in
    let v : Sessions = record { root = i.root; places = i.places; parts = i.parts.items; stopped = i.stopped; keeps = i.keeps } in
    let s = c.index_mut.result.now in
    let u = c.append_waiting.new.self in
    let r = c.append_waiting.result in
    let inside : c.args.d < length i.parts.items = omega (arith, c.requires.inside, ap (λ (S : Sessions). length S.parts) c.self.view_is) in
    let at = get_at i.parts.items c.args.d s inside ∙ ap (λ (w : Session). Some w) (sym c.index_mut.ensures.value) in
    subst (λ (S : Sessions). OnOk r (AppendsTo c.args.d c.args.values.now S (record v { parts = slice_set v.parts c.args.d u }))) c.self.view_is (added_to v c.args.d s u c.args.values.now r at c.append_waiting.ensures.added)

pub returns-clause-rows : goal.returns-clause-rows
returns-clause-rows g c =
    let i = c.self.inside in
    let inside : c.args.d < length i.parts.items = omega (arith, c.requires.inside, ap (λ (S : Sessions). length S.parts) c.self.view_is) in
    rows_at i.parts.items c.args.d c.append_waiting.new.self c.append_waiting.result inside c.append_waiting.ensures.rows

pub returns-clause-within : goal.returns-clause-within
returns-clause-within g c =
    let i = c.self.inside in
    let inside : c.args.d < length i.parts.items = omega (arith, c.requires.inside, ap (λ (S : Sessions). length S.parts) c.self.view_is) in
    within_at i.parts.items c.args.d c.append_waiting.new.self c.append_waiting.result inside c.append_waiting.ensures.within

pub returns-clause-refused : goal.returns-clause-refused
returns-clause-refused g c t e there is =
    let S = c.args.self.now in
    let i = c.self.inside in
    let values = c.args.values.now in
    let s = c.index_mut.result.now in
    let inside : c.args.d < length i.parts.items = omega (arith, c.requires.inside, ap (λ (v : Sessions). length v.parts) c.self.view_is) in
    let at = get_at i.parts.items c.args.d s inside ∙ ap (λ (w : Session). Some w) (sym c.index_mut.ensures.value) in
    let here : slice_get S.parts c.args.d ≡ Some s = sym (ap (λ (v : Sessions). slice_get v.parts c.args.d) c.self.view_is) ∙ at in
    let going : S.stopped ≡ false = sym (ap (λ (v : Sessions). v.stopped) c.self.view_is) ∙ c.if-self.false in
    let idle : length (all_pending S.parts) ≡ 0 = omega (arith, c.pending-pending.ensures, c.if-pending-gt0.false) in
    c.append_waiting.ensures.refused e (sym (refusal_in S s values going idle) ∙ ap (λ (w : Session). append_refusal_in S w values) (same_part S.parts c.args.d s t here there) ∙ is)

pub returns-clause-causes : goal.returns-clause-causes
returns-clause-causes g c t there =
    let S = c.args.self.now in
    let i = c.self.inside in
    let values = c.args.values.now in
    let s = c.index_mut.result.now in
    let inside : c.args.d < length i.parts.items = omega (arith, c.requires.inside, ap (λ (v : Sessions). length v.parts) c.self.view_is) in
    let at = get_at i.parts.items c.args.d s inside ∙ ap (λ (w : Session). Some w) (sym c.index_mut.ensures.value) in
    let here : slice_get S.parts c.args.d ≡ Some s = sym (ap (λ (v : Sessions). slice_get v.parts c.args.d) c.self.view_is) ∙ at in
    let going : S.stopped ≡ false = sym (ap (λ (v : Sessions). v.stopped) c.self.view_is) ∙ c.if-self.false in
    let idle : length (all_pending S.parts) ≡ 0 = omega (arith, c.pending-pending.ensures, c.if-pending-gt0.false) in
    let same : append_refusal s values ≡ append_refusal_in S t values = sym (refusal_in S s values going idle) ∙ ap (λ (w : Session). append_refusal_in S w values) (same_part S.parts c.args.d s t here there) in
    subst (λ (o : Option AppendError). IfErr c.append_waiting.result (λ e. (o ≡ Some e) ⊎ (e ≡ Failed) ⊎ (e ≡ OutOfMemory))) same c.append_waiting.ensures.causes

pub returns-clause-room : goal.returns-clause-room
returns-clause-room g c =
    let i = c.self.inside in
    let v : Sessions = record { root = i.root; places = i.places; parts = i.parts.items; stopped = i.stopped; keeps = i.keeps } in
    let s = c.index_mut.result.now in
    let inside : c.args.d < length i.parts.items = omega (arith, c.requires.inside, ap (λ (S : Sessions). length S.parts) c.self.view_is) in
    let at = get_at i.parts.items c.args.d s inside ∙ ap (λ (w : Session). Some w) (sym c.index_mut.ensures.value) in
    let idle : length (all_pending i.parts.items) ≡ 0 = omega (arith, c.pending-pending.ensures, c.if-pending-gt0.false, ap (λ (S : Sessions). length (all_pending S.parts)) c.self.view_is) in
    room_at v c.args.d s c.append_waiting.new.self c.args.values.now c.append_waiting.result _ c.self.invariant at idle c.append_waiting.ensures.added c.append_waiting.ensures.room

pub returns-clause-stands : goal.returns-clause-stands
returns-clause-stands g c =
    let S = c.args.self.now in
    let going : S.stopped ≡ false = sym (ap (λ (v : Sessions). v.stopped) c.self.view_is) ∙ c.if-self.false in
    let idle : length (all_pending S.parts) ≡ 0 = omega (arith, c.pending-pending.ensures, c.if-pending-gt0.false) in
    append_stands c.append_waiting.result S _ c.args.d c.args.values.now going idle c.requires.rows (returns-clause-refused g c) (returns-clause-added g c)

pub returns-clause-sessions : goal.returns-clause-sessions
returns-clause-sessions g c = (invariant_of-self g c).sessions
