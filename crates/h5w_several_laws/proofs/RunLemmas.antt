-- A flush of several datasets over the log of each.
use Rattle.std.proofs.Common.{◌≡◌, ◌≢◌, ℕ, List, [], ◌∷◌, ◌++◌, length, sym, ◌∙◌, ap, subst, arith}
use Rattle.std.specs.Prelude.{nat_lt, if◌then◌else◌}
use Rattle.std.proofs.lemmas.Bool.{cond-false, le-ltb}
use Rattle.h5w_model.specs.Images.{image}
use Rattle.h5w_model.specs.Logs.{Log, plans, and_now, flushed_in}
use Rattle.h5w_model.specs.Findings.{Used}
use Rattle.h5w_model.specs.declared.piece.Write.{Write}
use Rattle.h5w_step_laws.specs.Moments.{Moment}
use Rattle.h5w_step_laws.specs.Logs.{Goes, image_now}
use Rattle.h5w_step_laws.specs.Sessions.{Runs}
use Rattle.h5w_step_laws.specs.Plans.{Plan, Flush}
use Rattle.h5w_step_laws.proofs.PlanLaws.{plan_from}
use Rattle.h5w_step_laws.proofs.SessionLaws.{some_piece}
use Rattle.h5w_flush_laws.specs.Parts.{Parts, early_of, flushed_to, pieces_of}
use Rattle.h5w_several_laws.specs.Dues.{RunsTo, Waits}
use Rattle.h5w_several_laws.proofs.DueLemmas.{plan_due}
use Rattle.h5w_several_laws.specs.Turns.{TurnRuns}

-- from a rest the pieces of earlier parts are waited for
waits_from : (name : List ℕ) (log : Log) (m at : Moment) (held : List Used) (ws : List Write) → Runs name log [] m held → Plan (image_now log) m held ws at held → Waits name log ws at held
waits_from name log m at held ws r p = record {
  before = r.before;
  was = r.held;
  goes = r.goes;
  plan = plan_from (image_now log) r.before m at r.held held held ws r.flush.0 r.flush.1 p;
  flushed = λ k. r.flushed k ∙ cond-false (nat_lt k 0) r.before.values m.values (le-ltb k 0 (omega arith)) ∙ ap (λ (x : Moment). x.values) r.flush.0;
}

not_none : (ws : List Write) (w : Write) → ws ++ w ∷ [] ≢ []
not_none [] w h = some_piece w [] h
not_none (v ∷ ws) w h = some_piece v (ws ++ w ∷ []) h

pieces_some : (img : List ℕ) (m : Moment) (f : Parts) → pieces_of img m f ≢ []
pieces_some img m f = not_none (early_of f) _

again_from : (name : List ℕ) (log : Log) (due : ℕ) (n b m : Moment) (after held now : List Used) (own others : List Write) → [] ≡ own ++ others → due ≡ length own → Goes name log b held → Flush (image_now log) b held own m now
    → Plan (image (image_now log) own) m now others n after → ((k : ℕ) → flushed_in k log.values log.events ≡ (if nat_lt k due then b.values else n.values)) → Runs name log [] n after
again_from name log due n b m after held now [] [] cut is g f p fl = record {
  before = b;
  held = held;
  goes = g;
  flush = (p.0 ∙ f.0, p.1 ∙ f.1);
  flushed = λ k. subst (λ (d : ℕ). flushed_in k log.values log.events ≡ (if nat_lt k d then b.values else n.values)) is (fl k);
}
again_from name log due n b m after held now [] (w ∷ ws) cut is g f p fl = absurd (some_piece w ws (sym cut))
again_from name log due n b m after held now (w ∷ ws) others cut is g f p fl = absurd (some_piece w (ws ++ others) (sym cut))

pub turn_runs : TurnRuns
turn_runs = record {
  part = λ name log all m held f r h values.
      let at : Moment = record m { super = h.super } in
      let last : Moment = record (flushed_to m f) { super = h.last } in
      let count : ℕ = length (h.before ++ h.own) in
      let some : h.own ≢ [] = λ e. pieces_some (image (image_now log) h.before) m f (sym h.own_is ∙ e) in
      subst (λ (ws : List Write). RunsTo name (and_now (plans count) log) count ws last f.behind) (sym h.cut)
      (plan_due.part name log h.before h.own h.behind at (flushed_to at f) last held f.behind f.behind (waits_from name log m at held h.before r h.waits) h.flush some values h.rests);
  none = λ name log all count m held r h values. plan_due.none name log all count (record m { super = h.super }) held (waits_from name log m (record m { super = h.super }) held all r h.plan) values;
  again = λ name log due n after r. again_from name log due n r.before r.middle after r.held r.now r.own r.others r.cut r.due_is r.goes r.flush r.plan r.flushed;
}
