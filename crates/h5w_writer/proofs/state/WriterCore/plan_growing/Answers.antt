use Rattle.std.proofs.Common.{◌≡◌, ◌<◌, ◌-◌, ◌*◌, ◌^◌, ◌∙◌, [], List, Some, ℕ, length, slice_get, refl, ap, sym, subst, arith}
use Rattle.std.specs.List.{All}
use Rattle.std.specs.Prelude.{vec_capacity}
use Rattle.std.specs.Global.{Vec}
use Rattle.h5w_model.specs.declared.piece.Write.{Write}
use Rattle.h5w_model.specs.Tables.{keys_across}
use Rattle.h5w_model.specs.declared.cell.Key.{Key}
use Rattle.h5w_chunks.proofs.Geometry.{is_cut}
use Rattle.h5w_space.specs.Space.{Space}
use Rattle.h5w_index.specs.Held.{view_of}
use Rattle.h5w_chunks.specs.declared.grid.ChunkPlace.{ChunkPlace}
use Rattle.h5w_index.specs.Full.{IsFullPart}
use Rattle.h5w_index.specs.Placing.{AreInside, IsPartly}
use Rattle.h5w_index.specs.Views.{HasSlot}
use Rattle.h5w_writer.specs.ChunkPlaces.{CanPrepare}
use Rattle.h5w_writer.specs.Refusals.{IsDeepPart}
use Rattle.h5w_writer.specs.Sessions.{ArePieces, IsRoomy, IsSession, IsWhole, Session, most_lines, next_row, rows_of}
use Rattle.h5w_writer.specs.Halves.{IsReady, PlansGrowth, grown_of}
use Rattle.h5w_writer.specs.declared.planned.Growing.{Growing}
use Rattle.h5w_writer.proofs.SessionFields.{session_of}
use Rattle.h5w_writer.proofs.CarriedLemmas.{asks_for, can_prepare, refused_is, refused_same, same_error}
use Rattle.h5w_writer.proofs.HalfLemmas.{after_growth, grown_is, grown_now, grown_pieces, ready_of}
use Rattle.h5w_writer.proofs.state.WriterCore.plan_growing.Goals as goal

pub prepare-requires-clause-can : goal.prepare-requires-clause-can
prepare-requires-clause-can c =
    let i = c.self.inside in
    let v = session_of i in
    let is : IsSession v = c.self.invariant.0 in
    let back = sym c.self.view_is in
    let places_are : c.args.taking.places ≡ v.places = c.requires.places ∙ ap (λ (s : Session). s.places) back in
    let to_is : c.rows-to.result ≡ rows_of v = c.rows-to.ensures.value ∙ ap rows_of back in
    let waits : 0 < v.waits = subst (λ (s : Session). 0 < s.waits) back c.requires.waits in
    let own = can_prepare v is (is_cut i.grid c.self.invariant.1) waits v.index c.next_row-mid.result c.rows-to.result c.as_slice.result.now c.deref.result.now v.places (c.next_row-mid.ensures.exact ∙ ap next_row back) to_is c.as_slice.ensures c.deref.ensures.value
    is.sound is.fits (asks_for v c.rows-to.result is to_is).takes is.inside is.small is.limit is.placed is.ends in
    subst (λ (s : Space). CanPrepare v.dataset v.index c.next_row-mid.result c.rows-to.result c.as_slice.result.now c.deref.result.now s) (sym places_are) own

-- what the code shows of the flush
ready_by : (c : goal.After-drop-taking) → IsReady (session_of c.self.inside) (view_of c.self.inside.index) c.self.inside.places c.in-Ok.prepared c.prepare.new.taking.added.items (view_of c.prepare.new.index) c.replace-before.new.dest
ready_by c =
    let v = session_of c.self.inside in
    let back = sym c.self.view_is in
    let places_are : c.args.taking.places ≡ v.places = c.requires.places ∙ ap (λ (s : Session). s.places) back in
    let own = ready_of v v.index v.places c.next_row-mid.result c.rows-to.result c.as_slice.result.now c.deref.result.now c.args.taking.places c.in-Ok.prepared c.prepare.new.taking.chunks.items c.prepare.new.taking.added.items
    (view_of c.prepare.new.index) c.prepare.new.taking.places (c.next_row-mid.ensures.exact ∙ ap next_row back) (c.rows-to.ensures.value ∙ ap rows_of back) c.as_slice.ensures c.deref.ensures.value places_are c.prepare.ensures.roomy c.in-Ok.ensures.prepared in
    subst (λ (t : Space). IsReady v v.index v.places c.in-Ok.prepared c.prepare.new.taking.added.items (view_of c.prepare.new.index) t) (sym c.replace-before.ensures.after) own

-- what the session is then
grown_by : (c : goal.After-drop-taking) → after_growth (session_of c.self.inside) c.rows-to.result (view_of c.prepare.new.index) c.replace-before.new.dest c.take_rows-rows.new.self ≡ grown_of (session_of c.self.inside) (view_of c.prepare.new.index) c.replace-before.new.dest
grown_by c =
    grown_now (session_of c.self.inside) c.rows-to.result (view_of c.prepare.new.index) c.replace-before.new.dest c.self.inside.backlog c.take_rows-rows.new.self (c.rows-to.ensures.value ∙ ap rows_of (sym c.self.view_is)) c.take_rows-rows.ensures.left refl refl

pub invariant_of-self : goal.invariant_of-self
invariant_of-self c =
    let i = c.self.inside in
    let v = session_of i in
    let is : IsSession v = c.self.invariant.0 in
    let grid = c.self.invariant.1 in
    let there : IsWhole v = subst IsWhole (sym c.self.view_is) c.requires.there in
    let e = c.take_rows-rows.ensures.left in
    let t = c.replace-before.new.dest in (
      subst IsSession (sym (grown_by c)) (grown_is v is there c.in-Ok.prepared c.prepare.new.taking.added.items (view_of c.prepare.new.index) t (ready_by c)),
      record {
        shaped = grid.shaped;
        typed = grid.typed;
        chunked = record { rows = grid.chunked.rows; cols = grid.chunked.cols; line = grid.chunked.line; small = grid.chunked.small; index = grid.chunked.index };
        filled = grid.filled;
      },
      subst (λ (ws : List Write). ArePieces t.end ws) (sym (ap (λ (ws : Vec Write). ws.items) e.plan))
          (grown_pieces v is there c.in-Ok.prepared c.prepare.new.taking.added.items (view_of c.prepare.new.index) t (ready_by c) i.backlog.plan.items c.self.invariant.2),
      omega (arith, e.shown, ap (λ (ws : Vec Write). length ws.items) e.plan, c.self.invariant.3),
      omega (arith, ap (λ (ws : Vec Write). vec_capacity ws) e.plan, c.self.invariant.4),
    )

pub returns-in-Ok-clause-growth : goal.returns-in-Ok-clause-growth
returns-in-Ok-clause-growth c =
    let i = c.self.inside in
    let v = session_of i in
    let t = c.replace-before.new.dest in
    let w = view_of c.prepare.new.index in
    let rows = c.take_rows-rows.ensures.rows in
    let p : Growing = record { prepared = c.in-Ok.prepared; rows = c.take_rows-rows.result; before = c.replace-before.result; added = c.prepare.new.taking.added } in
    let mid : Session = after_growth v c.rows-to.result w t c.take_rows-rows.new.self in
    let own : PlansGrowth v mid p = record {
      session = c.self.invariant.0;
      idle = ap (λ (s : Session). s.pending) c.self.view_is ∙ c.requires.idle;
      there = subst IsWhole (sym c.self.view_is) c.requires.there;
      waits = subst (λ (s : Session). 0 < s.waits) (sym c.self.view_is) c.requires.waits;
      rows = record { waits = rows.waits; waiting = rows.waiting; early = rows.early; chunks = rows.chunks };
      before = c.replace-before.ensures.value;
      ready = ready_by c;
      grown = grown_by c;
    } in
    subst (λ (s : Session). PlansGrowth s mid p) c.self.view_is own

pub unset-requires-clause-slots : goal.unset-requires-clause-slots
unset-requires-clause-slots c = subst (λ (ks : List Key). All (HasSlot (view_of c.prepare.new.index)) ks) (sym c.deref-in-Err.ensures.value) c.in-Err.ensures.partly.slots

pub invariant_of-self-in-Err-1 : goal.invariant_of-self-in-Err-1
invariant_of-self-in-Err-1 c =
    let i = c.self.inside in
    let v = session_of i in
    let is : IsSession v = c.self.invariant.0 in
    let to = c.rows-to.result in
    let u = view_of c.unset.new.index in
    let to_is : to ≡ rows_of v = c.rows-to.ensures.value ∙ ap rows_of (sym c.self.view_is) in
    let p : IsPartly v.dataset to v.index [] u =
    c.unset.ensures.taken_back v.dataset to v.index (subst (λ (ks : List Key). IsPartly v.dataset to v.index ks (view_of c.prepare.new.index)) (sym c.deref-in-Err.ensures.value) c.in-Err.ensures.partly) in
    (refused_is v to u to_is p is, c.self.invariant.1, c.self.invariant.2, c.self.invariant.3, c.self.invariant.4)

pub returns-in-Err-clause-kept : goal.returns-in-Err-clause-kept
returns-in-Err-clause-kept c =
    let i = c.self.inside in
    let v = session_of i in
    let to = c.rows-to.result in
    let u = view_of c.unset.new.index in
    let to_is : to ≡ rows_of v = c.rows-to.ensures.value ∙ ap rows_of (sym c.self.view_is) in
    let p : IsPartly v.dataset to v.index [] u =
    c.unset.ensures.taken_back v.dataset to v.index (subst (λ (ks : List Key). IsPartly v.dataset to v.index ks (view_of c.prepare.new.index)) (sym c.deref-in-Err.ensures.value) c.in-Err.ensures.partly) in
    let there : IsWhole v = subst IsWhole (sym c.self.view_is) c.requires.there in
    let roomy : IsRoomy v.dataset v.index → IsRoomy v.dataset u = λ r. c.unset.ensures.within (most_lines v.dataset) (keys_across v.dataset) (c.prepare.ensures.roomy r) in
    refused_same v to u to_is p there roomy c.args.self.now c.self.view_is

pub returns-in-Err-clause-full : goal.returns-in-Err-clause-full
returns-in-Err-clause-full c full told =
    let i = c.self.inside in
    let v = session_of i in
    let to = c.rows-to.result in
    let to_is : to ≡ rows_of v = c.rows-to.ensures.value ∙ ap rows_of (sym c.self.view_is) in
    let places_are : c.args.taking.places ≡ v.places = c.requires.places ∙ ap (λ (s : Session). s.places) (sym c.self.view_is) in
    let part = c.in-Err.ensures.full full (same_error c.in-Err.e _ told) in
    let now : IsFullPart v.dataset to v.index v.chunks v.places full =
    subst (λ (early : List ChunkPlace). IsFullPart v.dataset to v.index early v.places full) c.deref.ensures.value (subst (λ (s : Space). IsFullPart v.dataset to v.index c.deref.result.now s full) places_are part) in
    subst (λ (s : Session). IsFullPart s.dataset (rows_of s) s.index s.chunks s.places full) c.self.view_is (subst (λ (n : ℕ). IsFullPart v.dataset n v.index v.chunks v.places full) to_is now)

pub returns-in-Err-clause-deep : goal.returns-in-Err-clause-deep
returns-in-Err-clause-deep c told =
    let i = c.self.inside in
    let v = session_of i in
    let to = c.rows-to.result in
    let to_is : to ≡ rows_of v = c.rows-to.ensures.value ∙ ap rows_of (sym c.self.view_is) in
    let part = c.in-Err.ensures.deep (same_error c.in-Err.e _ told) in
    subst (λ (s : Session). IsDeepPart s.dataset (rows_of s) s.index) c.self.view_is (subst (λ (n : ℕ). IsDeepPart v.dataset n v.index) to_is part)
