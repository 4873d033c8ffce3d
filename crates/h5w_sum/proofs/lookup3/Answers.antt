use Rattle.std.proofs.Common.{arith, ◌≡◌, length, List, ℕ, [], ◌∙◌, sym, ap, subst}
use Rattle.std.proofs.lemmas.Bool.{eqb-true}
use Rattle.std.proofs.lemmas.List.{nil_from_length}
use Rattle.h5w_model.specs.Checksum.{Words, begun, sum_of}
use Rattle.h5w_sum.specs.Fronts.{IsFront}
use Rattle.h5w_sum.proofs.Rounds.{front_none}
use Rattle.h5w_sum.proofs.lookup3.Goals as goal

pub returns-then-is_empty : goal.returns-then-is_empty
unfolding sum_of
returns-then-is_empty c =
    let none : c.args.b.now ≡ [] = nil_from_length c.args.b.now (eqb-true (length c.args.b.now) 0 (sym c.is_empty.ensures ∙ c.if-is_empty.true)) in
    let begun_with : c.begun-begun.result ≡ begun 0 = c.begun-begun.ensures ∙ ap (λ (b : List ℕ). begun (length b)) none in
    c.last.ensures ∙ ap (λ (w : Words). w.c) begun_with ∙ ap sum_of (sym none)

pub returns : goal.returns
returns c =
    let b = c.args.b.now in
    let goes : IsFront (length b) [] c.begun-begun.result = subst (λ (w : Words). IsFront (length b) [] w) (sym c.begun-begun.ensures) (front_none (length b)) in
    c.sum_behind.ensures (length b) [] goes (omega arith)
