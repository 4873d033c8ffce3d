use Rattle.std.proofs.Common.{arith, rules, ◌≡◌, ◌+◌, ◌*◌, ◌++◌, ◌∙◌, replicate, ap, sym, List, ℕ, Option, vec_len}
use Rattle.std.specs.Option.{option_map, unwrap_or}
use Rattle.h5w_model.specs.Integers.{cell_bytes}
use Rattle.h5w_model.specs.declared.cell.Cell.{Cell}
use Rattle.h5w_chunks.specs.Grids.{copies, dataset_of, fill_cell}
use Rattle.h5w_chunks.proofs.Loops.{fill_zeros}
use Rattle.h5w_chunks.proofs.grid.Grid.put_fill.Goals as goal

pub returns-in_ok-resize-in-None : goal.returns-in_ok-resize-in-None
returns-in_ok-resize-in-None c =
    let g = c.args.self.now in
    let size = g.int_type.size in
    let none : fill_cell (dataset_of g) ≡ replicate size 0 = ap (λ (o : Option Cell). unwrap_or (option_map cell_bytes o) (replicate size 0)) c.in-None.is in
    let sized : c.args.count * c.size.result ≡ c.args.count * size = ap (λ (n : ℕ). c.args.count * n) c.size.ensures in
    let filled = fill_zeros c.args.out.now.items c.resize.new.self.items (c.len.result + c.args.count * c.size.result) (vec_len c.args.out.now) c.args.count size c.in_ok-resize-in-None.ensures.items (omega (arith, sized, c.len.ensures)) (search rules) in
    filled ∙ ap (λ (b : List ℕ). c.args.out.now.items ++ copies c.args.count b) (sym none)
