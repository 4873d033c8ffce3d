use Rattle.std.proofs.Common.{◌≡◌, ◌++◌, ◌∙◌, ap, sym, List, ℕ, take, drop}
use Rattle.std.proofs.lemmas.List.{append-nil, take-append-drop}
use Rattle.h5w_model.specs.Integers.{in_order}
use Rattle.h5w_model.proofs.IntegerLemmas.{int_size_bounds}
use Rattle.h5w_types.specs.Numbers.{le}
use Rattle.h5w_types.proofs.RunLemmas.{cell-is}
use Rattle.h5w_types.proofs.int_type.cell.Goals.{then-t, else-t}
use Rattle.h5w_types.proofs.int_type.cell.Goals as goal

pub returns : goal.returns
returns c =
    let t = c.args.t.now in
    let n = c.args.n in
    let put = c.put.ensures.written ∙ append-nil (le 8 n) in
    let size = c.from-size.ensures in
    let made : c.if-t.bytes ≡ in_order t.big (take t.size (le 8 n)) ++ drop t.size (le 8 n) =
    elim c.if-t.branch [
      | then-t w ↦ w.bytes-is ∙ ap (λ (bs : List ℕ). bs ++ drop c.from-size.result c.put.new.b) w.reverse.ensures.after
          ∙ (λ i. in_order (sym w.if-t.true i) (take (size i) (put i)) ++ drop (size i) (put i))
      | else-t w ↦ w.bytes-is ∙ put ∙ sym (take-append-drop t.size (le 8 n)) ∙ (λ i. in_order (sym w.if-t.false i) (take t.size (le 8 n)) ++ drop t.size (le 8 n))
    ] in
    let short = (int_size_bounds t.size c.requires.typed).1 in
    ap (λ (bs : List ℕ). record { bytes = bs; size = t.size }) made ∙ cell-is t.big t.size n short c.requires.fits
