-- What is pending once a flush was planned.
use Rattle.std.proofs.Common.{◌≡◌, ℕ, ◌≤◌, List, length, drop, ap, sym, ◌∙◌, arith}
use Rattle.h5w_model.specs.declared.piece.Write.{Write}
use Rattle.h5w_writer.specs.Backlogs.{IsPlanned}
use Rattle.h5w_writer.specs.declared.backlog.Backlog.{Backlog}

module _ (ws : List Write) (q : Backlog) (x : IsPlanned ws q) where
  pub pending_is : drop q.shown q.plan.items ≡ ws
  pending_is = ap (λ (n : ℕ). drop n q.plan.items) x.shown ∙ x.plan

  pub shown_few : q.shown ≤ length q.plan.items
  shown_few = omega (arith, x.shown)

  pub pieces_told : (n : ℕ) → n ≡ length ws → n ≡ length (drop q.shown q.plan.items)
  pieces_told n is = is ∙ ap length (sym pending_is)
