use Rattle.std.proofs.Common.{◌≡◌, ◌≢◌, ◌∷◌, [], ◌+◌, ◌++◌, List, sym, ◌∙◌, subst, rules}
use Rattle.h5w_stop.specs.Outcomes.{AreRuns}
use Rattle.h5w_stop.specs.declared.report.Run.{Run}
use Rattle.h5w_stop.proofs.RunLemmas.{begins_one, goes_on}
use Rattle.h5w_stop.proofs.runs.Runs.add.Goals as goal

pub returns-then-eq : goal.returns-then-eq
returns-then-eq c = λ at is before.
    let i = c.self.inside in
    let same : i.last.outcome ≡ c.args.outcome = search rules in
    let runs : AreRuns at 0 c.args.position (i.closed.items ++ i.last ∷ []) = subst (λ (rs : List Run). AreRuns at 0 c.args.position rs) (sym c.self.view_is) before in
    goes_on at 0 c.args.position i.closed.items i.last (is ∙ sym same) runs

pub returns : goal.returns
returns c = λ at is before.
    let i = c.self.inside in
    let other : i.last.outcome ≢ c.args.outcome = search rules in
    let runs : AreRuns at 0 c.args.position (i.closed.items ++ i.last ∷ []) = subst (λ (rs : List Run). AreRuns at 0 c.args.position rs) (sym c.self.view_is) before in
    subst (λ (rs : List Run). AreRuns at 0 (c.args.position + 1) (rs ++ record { outcome = c.args.outcome; first = c.args.position; last = c.args.position } ∷ [])) (sym c.in_ok-push.ensures.items)
    (begins_one at 0 c.args.position i.closed.items i.last c.args.outcome is other runs)
