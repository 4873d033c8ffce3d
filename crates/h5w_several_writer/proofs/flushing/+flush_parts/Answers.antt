use Rattle.std.proofs.Common.{◌≡◌, ◌∙◌, ◌+◌, ◌^◌, ◌<◌, ◌≤◌, ◌++◌, ℕ, List, ◌∷◌, length, refl, sym, ap, subst, inl, inr, arith}
use Rattle.std.proofs.Math.Nat.{le_trans}
use Rattle.h5w_model.specs.declared.piece.Write.{Write}
use Rattle.h5w_model.specs.declared.root.Super.{Super}
use Rattle.h5w_space.specs.Space.{Space}
use Rattle.h5w_writer.specs.Halves.{most_of, places_of}
use Rattle.h5w_writer.specs.Sessions.{Session}
use Rattle.h5w_writer.specs.Told.{told_of}
use Rattle.h5w_writer.proofs.CarriedLemmas.{same_error}
use Rattle.h5w_writer.proofs.HalfLemmas.{same_kept}
use Rattle.h5w_several_writer.specs.Parts.{AreIdle}
use Rattle.h5w_several_writer.specs.Refusals.{IsDeepAmong, IsFullAmong}
use Rattle.h5w_several_writer_laws.specs.Sessions.{AreFlushed, AreSameBut, all_pending, bare}
use Rattle.h5w_several_writer.proofs.PartLemmas.{same_all}
use Rattle.h5w_several_writer.proofs.TurnLemmas.{bared, done_not, fewer_before, planned_cause, planned_not_failed, some_before, turned}
use Rattle.h5w_several_writer.proofs.flushing.+flush_parts.Goals as goal

pub returns-in-Ok-flush_parts-clause-flushed : goal.returns-in-Ok-flush_parts-clause-flushed
returns-in-Ok-flush_parts-clause-flushed g t c =
    let root = c.args.root.now in
    let places = c.args.places.now in
    let s = c.in-Some.part.now in
    let rest = c.in-Some.rest.now in
    let x = c.in-Ok-begin_part in
    let b = x.ensures.begun in
    let r = c.flush_parts-in-Ok-begin_part.new in
    let u = c.end_part.new.part in
    let waits : 0 < s.waits = omega (arith, c.waits.ensures, c.if-waits-eq0.false) in
    let f = turned root places s rest c.begin_part.new.part x.turn.planned x.turn.root x.turn.places r.root r.places u r.parts r.places.end c.args.limit waits
    (c.end_part.ensures.turned (told_of s root places) b.planned.half) refl c.in-Ok-flush_parts.ensures.limit b.planned.root_is b.planned.places_are c.in-Ok-flush_parts.ensures.flushed in
    subst (λ (ss : List Session). AreFlushed root places ss c.end_part.new.root c.end_part.new.places (u ∷ r.parts)) (sym c.in-Some.ensures.cases.0)
    (subst (λ (v : Super). AreFlushed root places (s ∷ rest) v c.end_part.new.places (u ∷ r.parts)) (sym c.end_part.ensures.root)
    (subst (λ (v : Space). AreFlushed root places (s ∷ rest) r.root v (u ∷ r.parts)) (sym c.end_part.ensures.places) f))

pub returns-in-Ok-flush_parts-clause-sessions : goal.returns-in-Ok-flush_parts-clause-sessions
returns-in-Ok-flush_parts-clause-sessions g t c =
    let b = c.in-Ok-begin_part.ensures.begun in
    ((c.end_part.ensures.turned (told_of c.in-Some.part.now c.args.root.now c.args.places.now) b.planned.half).is, c.in-Ok-flush_parts.ensures.sessions)

pub returns-in-Err-flush_parts-clause-kept : goal.returns-in-Err-flush_parts-clause-kept
returns-in-Err-flush_parts-clause-kept g t c =
    let b = c.in-Ok-begin_part.ensures.begun in
    let k = c.undo_part.ensures.kept c.in-Some.part.now c.args.root.now c.args.places.now b.planned.half b.root_is b.places_are in
    subst (λ (ss : List Session). AreSameBut ss (c.undo_part.new.part ∷ c.flush_parts-in-Ok-begin_part.new.parts)) (sym c.in-Some.ensures.cases.0) (k.0, c.in-Err-flush_parts.ensures.kept)

pub returns-in-Err-flush_parts-clause-root : goal.returns-in-Err-flush_parts-clause-root
returns-in-Err-flush_parts-clause-root g t c =
    let b = c.in-Ok-begin_part.ensures.begun in
    (c.undo_part.ensures.kept c.in-Some.part.now c.args.root.now c.args.places.now b.planned.half b.root_is b.places_are).1

pub returns-in-Err-flush_parts-clause-places : goal.returns-in-Err-flush_parts-clause-places
returns-in-Err-flush_parts-clause-places g t c =
    let b = c.in-Ok-begin_part.ensures.begun in
    (c.undo_part.ensures.kept c.in-Some.part.now c.args.root.now c.args.places.now b.planned.half b.root_is b.places_are).2

pub returns-in-Err-flush_parts-clause-full : goal.returns-in-Err-flush_parts-clause-full
returns-in-Err-flush_parts-clause-full g t c full same =
    let root = c.args.root.now in
    let places = c.args.places.now in
    let s = c.in-Some.part.now in
    let rest = c.in-Some.rest.now in
    let x = c.in-Ok-begin_part in
    let b = x.ensures.begun in
    let mid = c.begin_part.new.part in
    let then = places_of mid x.turn.planned in
    let waits : 0 < s.waits = omega (arith, c.waits.ensures, c.if-waits-eq0.false) in
    let e = b.planned.places_are in
    let super : x.turn.root ≡ record root { end = then.end } = b.planned.root_is ∙ ap (λ (v : Space). record root { end = v.end }) e in
    let f = subst (λ (r : Super). IsFullAmong r then rest full) super (subst (λ (v : Space). IsFullAmong x.turn.root v rest full) e (c.in-Err-flush_parts.ensures.full full same)) in
    subst (λ (ss : List Session). IsFullAmong root places ss full) (sym c.in-Some.ensures.cases.0) (inr (inr (mid, x.turn.planned, record { waits = waits; half = b.planned.half }, f)))

pub returns-in-Err-begin_part-clause-kept : goal.returns-in-Err-begin_part-clause-kept
returns-in-Err-begin_part-clause-kept g t c =
    let e = c.in-Some.ensures.cases.0 in
    let idle = subst (AreIdle c.args.from) e c.requires.idle in
    subst (λ (ss : List Session). AreSameBut ss (c.begin_part.new.part ∷ c.in-Some.rest.now)) (sym e) (c.in-Err-begin_part.ensures.kept, same_all c.args.from c.in-Some.rest.now idle.1)

pub returns-in-Err-begin_part-clause-full : goal.returns-in-Err-begin_part-clause-full
returns-in-Err-begin_part-clause-full g t c full same =
    let waits : 0 < c.in-Some.part.now.waits = omega (arith, c.waits.ensures, c.if-waits-eq0.false) in
    subst (λ (ss : List Session). IsFullAmong c.args.root.now c.args.places.now ss full) (sym c.in-Some.ensures.cases.0) (inl (waits, c.in-Err-begin_part.ensures.full full (same_error _ _ same)))

pub returns-in-Ok-clause-flushed : goal.returns-in-Ok-clause-flushed
returns-in-Ok-clause-flushed g t c =
    let root = c.args.root.now in
    let places = c.args.places.now in
    let s = c.in-Some.part.now in
    let r = c.flush_parts.new in
    let u : c.set_aside.new.part ≡ told_of s r.root (bare r.places) =
    c.set_aside.ensures.session ∙ ap (λ (v : Space). told_of s r.root v) (bared c.end-in-Ok.result c.args.limit r.places c.end-in-Ok.ensures c.in-Ok.ensures.limit) in
    subst (λ (ss : List Session). AreFlushed root places ss r.root r.places (c.set_aside.new.part ∷ r.parts)) (sym c.in-Some.ensures.cases.0) (inl (sym c.waits.ensures ∙ c.if-waits-eq0.true, u, c.in-Ok.ensures.flushed))

pub returns-in-Ok-clause-sessions : goal.returns-in-Ok-clause-sessions
returns-in-Ok-clause-sessions g t c = (c.set_aside.ensures.is, c.in-Ok.ensures.sessions)

pub returns-in-Ok-clause-version : goal.returns-in-Ok-clause-version
returns-in-Ok-clause-version g t c = c.in-Ok.ensures.version

pub returns-in-Ok-clause-rises : goal.returns-in-Ok-clause-rises
returns-in-Ok-clause-rises g t c = c.in-Ok.ensures.rises

pub returns-in-Ok-clause-limit : goal.returns-in-Ok-clause-limit
returns-in-Ok-clause-limit g t c = c.in-Ok.ensures.limit

pub returns-in-Ok-clause-end : goal.returns-in-Ok-clause-end
returns-in-Ok-clause-end g t c = c.in-Ok.ensures.end

pub returns-in-Ok-clause-pieces : goal.returns-in-Ok-clause-pieces
returns-in-Ok-clause-pieces g t c =
    let none = ap (λ (s : Session). s.pending) c.set_aside.ensures.session ∙ (subst (AreIdle c.args.from) c.in-Some.ensures.cases.0 c.requires.idle).0.1 in
    subst (λ (ws : List Write). c.args.pieces + length (ws ++ all_pending c.flush_parts.new.parts) + 1 ≤ (g.W.PieceRead.view c.flush_parts.new.image).pieces) (sym none) c.in-Ok.ensures.pieces

pub returns-in-Ok-clause-few : goal.returns-in-Ok-clause-few
returns-in-Ok-clause-few g t c =
    let none = ap (λ (s : Session). s.pending) c.set_aside.ensures.session ∙ (subst (AreIdle c.args.from) c.in-Some.ensures.cases.0 c.requires.idle).0.1 in
    subst (λ (ws : List Write). c.args.pieces + length (ws ++ all_pending c.flush_parts.new.parts) + 1 < 2 ^ 64) (sym none) c.in-Ok.ensures.few

pub returns-in-Ok-clause-kept : goal.returns-in-Ok-clause-kept
returns-in-Ok-clause-kept g t c = tt

pub returns-in-Ok-clause-root : goal.returns-in-Ok-clause-root
returns-in-Ok-clause-root g t c = tt

pub returns-in-Ok-clause-places : goal.returns-in-Ok-clause-places
returns-in-Ok-clause-places g t c = tt

pub returns-in-Ok-clause-causes : goal.returns-in-Ok-clause-causes
returns-in-Ok-clause-causes g t c = tt

pub returns-in-Ok-clause-full : goal.returns-in-Ok-clause-full
returns-in-Ok-clause-full g t c full same = absurd (done_not _ same)

pub returns-in-Ok-clause-deep : goal.returns-in-Ok-clause-deep
returns-in-Ok-clause-deep g t c same = absurd (done_not _ same)

pub returns-in-Ok-clause-fault : goal.returns-in-Ok-clause-fault
returns-in-Ok-clause-fault g t c same = absurd (done_not _ same)

pub returns-in-Ok-clause-image : goal.returns-in-Ok-clause-image
returns-in-Ok-clause-image g t c = c.in-Ok.ensures.image

pub returns-in-Err-clause-flushed : goal.returns-in-Err-clause-flushed
returns-in-Err-clause-flushed g t c = tt

pub returns-in-Err-clause-sessions : goal.returns-in-Err-clause-sessions
returns-in-Err-clause-sessions g t c = tt

pub returns-in-Err-clause-version : goal.returns-in-Err-clause-version
returns-in-Err-clause-version g t c = tt

pub returns-in-Err-clause-rises : goal.returns-in-Err-clause-rises
returns-in-Err-clause-rises g t c = tt

pub returns-in-Err-clause-limit : goal.returns-in-Err-clause-limit
returns-in-Err-clause-limit g t c = tt

pub returns-in-Err-clause-pieces : goal.returns-in-Err-clause-pieces
returns-in-Err-clause-pieces g t c = tt

pub returns-in-Err-clause-few : goal.returns-in-Err-clause-few
returns-in-Err-clause-few g t c = tt

pub returns-in-Err-clause-end : goal.returns-in-Err-clause-end
returns-in-Err-clause-end g t c = tt

pub returns-in-Err-clause-kept : goal.returns-in-Err-clause-kept
returns-in-Err-clause-kept g t c =
    let s = c.in-Some.part.now in
    let idle = subst (AreIdle c.args.from) c.in-Some.ensures.cases.0 c.requires.idle in
    subst (λ (ss : List Session). AreSameBut ss (s ∷ c.flush_parts.new.parts)) (sym c.in-Some.ensures.cases.0) (same_kept s idle.0.0, c.in-Err.ensures.kept)

pub returns-in-Err-clause-root : goal.returns-in-Err-clause-root
returns-in-Err-clause-root g t c = c.in-Err.ensures.root

pub returns-in-Err-clause-places : goal.returns-in-Err-clause-places
returns-in-Err-clause-places g t c = c.in-Err.ensures.places

pub returns-in-Err-clause-causes : goal.returns-in-Err-clause-causes
returns-in-Err-clause-causes g t c = c.in-Err.ensures.causes

pub returns-in-Err-clause-fault : goal.returns-in-Err-clause-fault
returns-in-Err-clause-fault g t c = c.in-Err.ensures.fault

pub returns-in-Err-clause-image : goal.returns-in-Err-clause-image
returns-in-Err-clause-image g t c = c.in-Err.ensures.image

pub returns-in-Err-clause-full : goal.returns-in-Err-clause-full
returns-in-Err-clause-full g t c full same =
    subst (λ (ss : List Session). IsFullAmong c.args.root.now c.args.places.now ss full) (sym c.in-Some.ensures.cases.0) (inr (inl (sym c.waits.ensures ∙ c.if-waits-eq0.true, c.in-Err.ensures.full full same)))

pub returns-in-Err-clause-deep : goal.returns-in-Err-clause-deep
returns-in-Err-clause-deep g t c same = subst IsDeepAmong (sym c.in-Some.ensures.cases.0) (inr (c.in-Err.ensures.deep same))

pub begin_part-requires-clause-session : goal.begin_part-requires-clause-session
begin_part-requires-clause-session g t c = (subst (AreIdle c.args.from) c.in-Some.ensures.cases.0 c.requires.idle).0.0

pub begin_part-requires-clause-idle : goal.begin_part-requires-clause-idle
begin_part-requires-clause-idle g t c = (subst (AreIdle c.args.from) c.in-Some.ensures.cases.0 c.requires.idle).0.1

pub begin_part-requires-clause-version : goal.begin_part-requires-clause-version
begin_part-requires-clause-version g t c = c.requires.version

pub begin_part-requires-clause-rises : goal.begin_part-requires-clause-rises
begin_part-requires-clause-rises g t c = le_trans (subst (AreIdle c.args.from) c.in-Some.ensures.cases.0 c.requires.idle).0.2 c.requires.from

pub begin_part-requires-clause-limit : goal.begin_part-requires-clause-limit
begin_part-requires-clause-limit g t c = subst (λ (n : ℕ). n ≤ 2 ^ 40) c.requires.limit c.requires.within

pub end_part-requires-clause-half : goal.end_part-requires-clause-half
end_part-requires-clause-half g t c = record { old = told_of c.in-Some.part.now c.args.root.now c.args.places.now; half = c.in-Ok-begin_part.ensures.begun.planned.half }

pub end_part-requires-clause-version : goal.end_part-requires-clause-version
end_part-requires-clause-version g t c = c.in-Ok-flush_parts.ensures.version

pub end_part-requires-clause-rises : goal.end_part-requires-clause-rises
end_part-requires-clause-rises g t c =
    subst (λ (v : Space). v.end ≤ c.flush_parts-in-Ok-begin_part.new.places.end) c.in-Ok-begin_part.ensures.begun.planned.places_are c.in-Ok-flush_parts.ensures.rises

pub end_part-requires-clause-begun : goal.end_part-requires-clause-begun
end_part-requires-clause-begun g t c = le_trans c.requires.begun (le_trans c.in-Ok-begin_part.ensures.rises c.in-Ok-flush_parts.ensures.rises)

pub end_part-requires-clause-limit : goal.end_part-requires-clause-limit
end_part-requires-clause-limit g t c = c.requires.within

pub undo_part-requires : goal.undo_part-requires
undo_part-requires g t c =
    let b = c.in-Ok-begin_part.ensures.begun in
    record {
      begun = record {
        old = c.in-Some.part.now;
        root = c.args.root.now;
        places = c.args.places.now;
        session = b.session;
        idle = b.idle;
        half = b.planned.half;
        root_is = b.root_is;
        places_are = b.places_are;
      };
    }

pub set_aside-requires-clause-version : goal.set_aside-requires-clause-version
set_aside-requires-clause-version g t c = c.in-Ok.ensures.version

pub set_aside-requires-clause-rises : goal.set_aside-requires-clause-rises
set_aside-requires-clause-rises g t c =
    subst (λ (n : ℕ). c.in-Some.part.now.places.end ≤ n) (sym c.end-in-Ok.ensures) (le_trans (subst (AreIdle c.args.from) c.in-Some.ensures.cases.0 c.requires.idle).0.2 (le_trans c.requires.from c.in-Ok.ensures.rises))

pub set_aside-requires-clause-begun : goal.set_aside-requires-clause-begun
set_aside-requires-clause-begun g t c = subst (λ (n : ℕ). 48 ≤ n) (sym c.end-in-Ok.ensures) (le_trans c.requires.begun c.in-Ok.ensures.rises)

pub set_aside-requires-clause-limit : goal.set_aside-requires-clause-limit
set_aside-requires-clause-limit g t c = c.requires.within

pub returns-in-Ok-flush_parts-clause-version : goal.returns-in-Ok-flush_parts-clause-version
returns-in-Ok-flush_parts-clause-version g t c = ap (λ (r : Super). r.version) c.end_part.ensures.root ∙ c.in-Ok-flush_parts.ensures.version

pub returns-in-Ok-flush_parts-clause-rises : goal.returns-in-Ok-flush_parts-clause-rises
returns-in-Ok-flush_parts-clause-rises g t c =
    subst (λ (v : Space). c.args.places.now.end ≤ v.end) (sym c.end_part.ensures.places) (le_trans c.in-Ok-begin_part.ensures.rises c.in-Ok-flush_parts.ensures.rises)

pub returns-in-Ok-flush_parts-clause-limit : goal.returns-in-Ok-flush_parts-clause-limit
returns-in-Ok-flush_parts-clause-limit g t c = ap (λ (v : Space). v.limit) c.end_part.ensures.places ∙ c.in-Ok-flush_parts.ensures.limit

pub returns-in-Ok-flush_parts-clause-pieces : goal.returns-in-Ok-flush_parts-clause-pieces
returns-in-Ok-flush_parts-clause-pieces g t c =
    some_before c.args.pieces (most_of c.in-Ok-begin_part.turn.planned) c.in-Ok-begin_part.turn.pieces (g.W.PieceRead.view c.flush_parts-in-Ok-begin_part.new.image).pieces c.end_part.new.part c.flush_parts-in-Ok-begin_part.new.parts c.end_part.ensures.few
    c.in-Ok-begin_part.ensures.begun.planned.count c.in-Ok-flush_parts.ensures.pieces

pub returns-in-Ok-flush_parts-clause-few : goal.returns-in-Ok-flush_parts-clause-few
returns-in-Ok-flush_parts-clause-few g t c =
    fewer_before c.args.pieces (most_of c.in-Ok-begin_part.turn.planned) c.in-Ok-begin_part.turn.pieces (2 ^ 64) c.end_part.new.part c.flush_parts-in-Ok-begin_part.new.parts c.end_part.ensures.few
    c.in-Ok-begin_part.ensures.begun.planned.count c.in-Ok-flush_parts.ensures.few

pub returns-in-Ok-flush_parts-clause-end : goal.returns-in-Ok-flush_parts-clause-end
returns-in-Ok-flush_parts-clause-end g t c =
    subst (λ (v : Space). v.end ≤ (g.W.PieceRead.view c.flush_parts-in-Ok-begin_part.new.image).end) (sym c.end_part.ensures.places) c.in-Ok-flush_parts.ensures.end

pub returns-in-Ok-flush_parts-clause-kept : goal.returns-in-Ok-flush_parts-clause-kept
returns-in-Ok-flush_parts-clause-kept g t c = tt

pub returns-in-Ok-flush_parts-clause-root : goal.returns-in-Ok-flush_parts-clause-root
returns-in-Ok-flush_parts-clause-root g t c = tt

pub returns-in-Ok-flush_parts-clause-places : goal.returns-in-Ok-flush_parts-clause-places
returns-in-Ok-flush_parts-clause-places g t c = tt

pub returns-in-Ok-flush_parts-clause-causes : goal.returns-in-Ok-flush_parts-clause-causes
returns-in-Ok-flush_parts-clause-causes g t c = tt

pub returns-in-Ok-flush_parts-clause-full : goal.returns-in-Ok-flush_parts-clause-full
returns-in-Ok-flush_parts-clause-full g t c full same = absurd (done_not _ same)

pub returns-in-Ok-flush_parts-clause-deep : goal.returns-in-Ok-flush_parts-clause-deep
returns-in-Ok-flush_parts-clause-deep g t c same = absurd (done_not _ same)

pub returns-in-Ok-flush_parts-clause-fault : goal.returns-in-Ok-flush_parts-clause-fault
returns-in-Ok-flush_parts-clause-fault g t c same = absurd (done_not _ same)

pub returns-in-Ok-flush_parts-clause-image : goal.returns-in-Ok-flush_parts-clause-image
returns-in-Ok-flush_parts-clause-image g t c = c.in-Ok-flush_parts.ensures.image

pub returns-in-Err-flush_parts-clause-flushed : goal.returns-in-Err-flush_parts-clause-flushed
returns-in-Err-flush_parts-clause-flushed g t c = tt

pub returns-in-Err-flush_parts-clause-sessions : goal.returns-in-Err-flush_parts-clause-sessions
returns-in-Err-flush_parts-clause-sessions g t c = tt

pub returns-in-Err-flush_parts-clause-version : goal.returns-in-Err-flush_parts-clause-version
returns-in-Err-flush_parts-clause-version g t c = tt

pub returns-in-Err-flush_parts-clause-rises : goal.returns-in-Err-flush_parts-clause-rises
returns-in-Err-flush_parts-clause-rises g t c = tt

pub returns-in-Err-flush_parts-clause-limit : goal.returns-in-Err-flush_parts-clause-limit
returns-in-Err-flush_parts-clause-limit g t c = tt

pub returns-in-Err-flush_parts-clause-pieces : goal.returns-in-Err-flush_parts-clause-pieces
returns-in-Err-flush_parts-clause-pieces g t c = tt

pub returns-in-Err-flush_parts-clause-few : goal.returns-in-Err-flush_parts-clause-few
returns-in-Err-flush_parts-clause-few g t c = tt

pub returns-in-Err-flush_parts-clause-end : goal.returns-in-Err-flush_parts-clause-end
returns-in-Err-flush_parts-clause-end g t c = tt

pub returns-in-Err-flush_parts-clause-causes : goal.returns-in-Err-flush_parts-clause-causes
returns-in-Err-flush_parts-clause-causes g t c = c.in-Err-flush_parts.ensures.causes

pub returns-in-Err-flush_parts-clause-fault : goal.returns-in-Err-flush_parts-clause-fault
returns-in-Err-flush_parts-clause-fault g t c = c.in-Err-flush_parts.ensures.fault

pub returns-in-Err-flush_parts-clause-image : goal.returns-in-Err-flush_parts-clause-image
returns-in-Err-flush_parts-clause-image g t c = c.in-Err-flush_parts.ensures.image

pub returns-in-Err-flush_parts-clause-deep : goal.returns-in-Err-flush_parts-clause-deep
returns-in-Err-flush_parts-clause-deep g t c same = subst IsDeepAmong (sym c.in-Some.ensures.cases.0) (inr (c.in-Err-flush_parts.ensures.deep same))

pub returns-in-Err-begin_part-clause-flushed : goal.returns-in-Err-begin_part-clause-flushed
returns-in-Err-begin_part-clause-flushed g t c = tt

pub returns-in-Err-begin_part-clause-sessions : goal.returns-in-Err-begin_part-clause-sessions
returns-in-Err-begin_part-clause-sessions g t c = tt

pub returns-in-Err-begin_part-clause-version : goal.returns-in-Err-begin_part-clause-version
returns-in-Err-begin_part-clause-version g t c = tt

pub returns-in-Err-begin_part-clause-rises : goal.returns-in-Err-begin_part-clause-rises
returns-in-Err-begin_part-clause-rises g t c = tt

pub returns-in-Err-begin_part-clause-limit : goal.returns-in-Err-begin_part-clause-limit
returns-in-Err-begin_part-clause-limit g t c = tt

pub returns-in-Err-begin_part-clause-pieces : goal.returns-in-Err-begin_part-clause-pieces
returns-in-Err-begin_part-clause-pieces g t c = tt

pub returns-in-Err-begin_part-clause-few : goal.returns-in-Err-begin_part-clause-few
returns-in-Err-begin_part-clause-few g t c = tt

pub returns-in-Err-begin_part-clause-end : goal.returns-in-Err-begin_part-clause-end
returns-in-Err-begin_part-clause-end g t c = tt

pub returns-in-Err-begin_part-clause-root : goal.returns-in-Err-begin_part-clause-root
returns-in-Err-begin_part-clause-root g t c = c.in-Err-begin_part.ensures.root

pub returns-in-Err-begin_part-clause-places : goal.returns-in-Err-begin_part-clause-places
returns-in-Err-begin_part-clause-places g t c = c.in-Err-begin_part.ensures.places

pub returns-in-Err-begin_part-clause-deep : goal.returns-in-Err-begin_part-clause-deep
returns-in-Err-begin_part-clause-deep g t c same =
    let waits : 0 < c.in-Some.part.now.waits = omega (arith, c.waits.ensures, c.if-waits-eq0.false) in
    subst IsDeepAmong (sym c.in-Some.ensures.cases.0) (inl (waits, c.in-Err-begin_part.ensures.deep (same_error _ _ same)))

pub returns-in-Err-begin_part-clause-causes : goal.returns-in-Err-begin_part-clause-causes
returns-in-Err-begin_part-clause-causes g t c = planned_cause _ c.in-Err-begin_part.ensures.causes

pub returns-in-Err-begin_part-clause-fault : goal.returns-in-Err-begin_part-clause-fault
returns-in-Err-begin_part-clause-fault g t c same = absurd (planned_not_failed _ c.in-Err-begin_part.ensures.causes same)
