use Rattle.std.proofs.Common.{◌≡◌, ◌∙◌, ◌<◌, ◌≤◌, Result, Err, refl, sym, ap, subst, inr}
use Rattle.h5w_model.specs.declared.root.Super.{Super}
use Rattle.h5w_space.specs.declared.Full.{Full}
use Rattle.h5w_writer.specs.Flushes.{SameBut}
use Rattle.h5w_writer.specs.Refusals.{IsDeepFor, IsFullFor}
use Rattle.h5w_writer.specs.Sessions.{Session}
use Rattle.h5w_writer.specs.Told.{told_of}
use Rattle.h5w_writer.specs.declared.refusal.FlushError.{FlushError}
use Rattle.h5w_writer.specs.declared.refusal.FlushError.TheVariants.{Deep, OutOfMemory, Space}
use Rattle.h5w_writer.proofs.HalfLemmas.{same_kept}
use Rattle.h5w_several_writer.specs.Turns.{IsPlannedThen}
use Rattle.h5w_several_writer.specs.declared.planning.Turn.{Turn}
use Rattle.h5w_several_writer.proofs.PartLemmas.{same_back}
use Rattle.h5w_several_writer.proofs.TurnLemmas.{planned_not}
use Rattle.h5w_several_writer.proofs.planning.begin_part.Goals as goal

memory_not_space : (full : Full) → ◌≡◌ {A = Result Turn FlushError} (Err OutOfMemory) (Err (Space full)) → ⊥
memory_not_space full is = cc

memory_not_deep : ◌≡◌ {A = Result Turn FlushError} (Err OutOfMemory) (Err Deep) → ⊥
memory_not_deep is = cc

pub returns-then-not-live-clause-begun : goal.returns-then-not-live-clause-begun
returns-then-not-live-clause-begun c = tt

pub returns-then-not-live-clause-version : goal.returns-then-not-live-clause-version
returns-then-not-live-clause-version c = tt

pub returns-then-not-live-clause-rises : goal.returns-then-not-live-clause-rises
returns-then-not-live-clause-rises c = tt

pub returns-then-not-live-clause-limit : goal.returns-then-not-live-clause-limit
returns-then-not-live-clause-limit c = tt

pub returns-then-not-live-clause-root : goal.returns-then-not-live-clause-root
returns-then-not-live-clause-root c = refl

pub returns-then-not-live-clause-places : goal.returns-then-not-live-clause-places
returns-then-not-live-clause-places c = refl

pub returns-then-not-live-clause-kept : goal.returns-then-not-live-clause-kept
returns-then-not-live-clause-kept c = same_kept c.args.part.now c.requires.session

pub returns-then-not-live-clause-full : goal.returns-then-not-live-clause-full
returns-then-not-live-clause-full c full same = absurd (memory_not_space full same)

pub returns-then-not-live-clause-deep : goal.returns-then-not-live-clause-deep
returns-then-not-live-clause-deep c same = absurd (memory_not_deep same)

pub returns-then-not-live-clause-causes : goal.returns-then-not-live-clause-causes
returns-then-not-live-clause-causes c = inr (inr refl)

pub lend-requires-clause-version : goal.lend-requires-clause-version
lend-requires-clause-version c = c.requires.version

pub lend-requires-clause-rises : goal.lend-requires-clause-rises
lend-requires-clause-rises c = c.requires.rises

pub lend-requires-clause-limit : goal.lend-requires-clause-limit
lend-requires-clause-limit c = c.requires.limit

pub plan_part-requires-clause-waits : goal.plan_part-requires-clause-waits
plan_part-requires-clause-waits c = subst (λ (s : Session). 0 < s.waits) (sym c.lend.ensures.session) c.requires.waits

pub plan_part-requires-clause-idle : goal.plan_part-requires-clause-idle
plan_part-requires-clause-idle c = ap (λ (s : Session). s.pending) c.lend.ensures.session ∙ c.requires.idle

pub reclaim-requires-clause-idle : goal.reclaim-requires-clause-idle
reclaim-requires-clause-idle c = ap (λ (s : Session). s.pending) c.in-Err.ensures.kept.session ∙ ap (λ (s : Session). s.pending) c.lend.ensures.session ∙ c.requires.idle

pub reclaim-requires-clause-lent : goal.reclaim-requires-clause-lent
reclaim-requires-clause-lent c = record {
  old = c.args.part.now;
  session = c.requires.session;
  lent_root = c.args.root.now;
  lent = c.args.places.now;
  same = subst (λ (s : Session). SameBut s c.plan_part.new.part) c.lend.ensures.session c.in-Err.ensures.kept;
  root_is = c.lend.ensures.root;
  places = c.lend.ensures.places;
}

pub returns-in-Ok-clause-begun : goal.returns-in-Ok-clause-begun
returns-in-Ok-clause-begun c = record {
  planned = subst (λ (s : Session). IsPlannedThen s c.plan_part.new.part c.args.pieces c.in-Ok.turn) c.lend.ensures.session c.in-Ok.ensures.planned;
  session = c.requires.session;
  idle = c.requires.idle;
  root_is = c.lend.ensures.root;
  places_are = c.lend.ensures.places;
}

pub returns-in-Ok-clause-version : goal.returns-in-Ok-clause-version
returns-in-Ok-clause-version c = ap (λ (r : Super). r.version) c.in-Ok.ensures.planned.root_is ∙ ap (λ (s : Session). s.root.version) c.lend.ensures.session ∙ c.requires.version

pub returns-in-Ok-clause-rises : goal.returns-in-Ok-clause-rises
returns-in-Ok-clause-rises c = subst (λ (s : Session). s.places.end ≤ c.in-Ok.turn.places.end) c.lend.ensures.session c.in-Ok.ensures.planned.further.rises

pub returns-in-Ok-clause-limit : goal.returns-in-Ok-clause-limit
returns-in-Ok-clause-limit c = c.in-Ok.ensures.planned.further.limit ∙ ap (λ (s : Session). s.places.limit) c.lend.ensures.session

pub returns-in-Ok-clause-root : goal.returns-in-Ok-clause-root
returns-in-Ok-clause-root c = tt

pub returns-in-Ok-clause-places : goal.returns-in-Ok-clause-places
returns-in-Ok-clause-places c = tt

pub returns-in-Ok-clause-kept : goal.returns-in-Ok-clause-kept
returns-in-Ok-clause-kept c = tt

pub returns-in-Ok-clause-full : goal.returns-in-Ok-clause-full
returns-in-Ok-clause-full c full same = absurd (planned_not _ _ same)

pub returns-in-Ok-clause-deep : goal.returns-in-Ok-clause-deep
returns-in-Ok-clause-deep c same = absurd (planned_not _ _ same)

pub returns-in-Ok-clause-causes : goal.returns-in-Ok-clause-causes
returns-in-Ok-clause-causes c = tt

pub returns-in-Err-clause-begun : goal.returns-in-Err-clause-begun
returns-in-Err-clause-begun c = tt

pub returns-in-Err-clause-version : goal.returns-in-Err-clause-version
returns-in-Err-clause-version c = tt

pub returns-in-Err-clause-rises : goal.returns-in-Err-clause-rises
returns-in-Err-clause-rises c = tt

pub returns-in-Err-clause-limit : goal.returns-in-Err-clause-limit
returns-in-Err-clause-limit c = tt

pub returns-in-Err-clause-root : goal.returns-in-Err-clause-root
returns-in-Err-clause-root c = c.reclaim.ensures.root ∙ ap (λ (s : Session). s.root) c.in-Err.ensures.kept.session ∙ ap (λ (s : Session). s.root) c.lend.ensures.session

pub returns-in-Err-clause-places : goal.returns-in-Err-clause-places
returns-in-Err-clause-places c = c.reclaim.ensures.places ∙ ap (λ (s : Session). s.places) c.in-Err.ensures.kept.session ∙ ap (λ (s : Session). s.places) c.lend.ensures.session

pub returns-in-Err-clause-kept : goal.returns-in-Err-clause-kept
returns-in-Err-clause-kept c =
    let s = c.args.part.now in
    let mid = c.plan_part.new.part in
    let same : SameBut (told_of s c.args.root.now c.args.places.now) mid = subst (λ (v : Session). SameBut v mid) c.lend.ensures.session c.in-Err.ensures.kept in
    let is : c.reclaim.new.part ≡ told_of mid s.root s.places = c.reclaim.ensures.session ∙ (λ i. told_of mid (c.lend.ensures.root i) (c.lend.ensures.places i)) in
    subst (SameBut s) (sym is) (same_back s c.args.root.now c.args.places.now mid same)

pub returns-in-Err-clause-full : goal.returns-in-Err-clause-full
returns-in-Err-clause-full c full same = subst (λ (s : Session). IsFullFor s full) c.lend.ensures.session (c.in-Err.ensures.full full same)

pub returns-in-Err-clause-deep : goal.returns-in-Err-clause-deep
returns-in-Err-clause-deep c same =
    let deep = subst IsDeepFor c.lend.ensures.session (c.in-Err.ensures.deep same) in
    (record { named = deep.0.named; made = deep.0.made }, deep.1)

pub returns-in-Err-clause-causes : goal.returns-in-Err-clause-causes
returns-in-Err-clause-causes c = c.in-Err.ensures.causes
