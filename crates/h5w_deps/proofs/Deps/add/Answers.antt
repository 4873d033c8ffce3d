use Rattle.std.proofs.Common.{◌≡◌, ◌++◌, ◌∷◌, [], List, ℕ, subst, sym, ap, ◌∙◌, inr, refl}
use Rattle.h5w_deps.specs.declared.Edge.{Edge}
use Rattle.h5w_deps.specs.Edges.{edge, Reaches, here, IsAcyclic}
use Rattle.h5w_deps.proofs.Paths.{IsAcyclic-push}
use Rattle.h5w_deps.proofs.Deps.add.Goals as goal

pub returns-then-child-parent-clause-cycle : goal.returns-then-child-parent-clause-cycle
returns-then-child-parent-clause-cycle c =
    let way : Reaches c.args.self.now c.args.parent c.args.child = subst (λ (v : ℕ). Reaches c.args.self.now v c.args.child) c.if-child-parent.true (here c.args.child) in
    inr (λ _. way, λ _. refl)

pub returns-clause-acyclic : goal.returns-clause-acyclic
returns-clause-acyclic c = λ h.
    let e : Edge = edge c.args.child c.args.parent in
    let none : Reaches c.args.self.now c.args.parent c.args.child → ⊥ = λ r.
    let found = c.in_ok-reaches.ensures.1 (subst (λ (l : List Edge). Reaches l c.args.parent c.args.child) (sym c.self.view_is) r) in
    let not_found = c.if-branch.false in
    absurd cc in
    let grown : c.push.new.self.items ≡ c.args.self.now ++ e ∷ [] = c.in_ok-push.ensures.items ∙ ap (λ (l : List Edge). l ++ e ∷ []) c.self.view_is in
    subst IsAcyclic (sym grown) (IsAcyclic-push c.args.self.now c.args.child c.args.parent h none)
