use Rattle.std.proofs.Common.{arith, rules, to_z, of_z, ◌≡◌, ◌<◌, ◌≤◌, ◌++◌, length, get_or, pos, ◌∙◌, ap, Some, ℤ}
use Rattle.std.proofs.lemmas.Option.{slice_get-get_or}
use Rattle.std.specs.Int.{w128}
use Rattle.h5w_model.specs.Integers.{cell_bytes_of}
use Rattle.h5w_types.specs.Fields.{int_type_of}
use Rattle.h5w_chunks.specs.Grids.{FitsType, cells_of, dataset_of}
use Rattle.h5w_types.proofs.RunLemmas.{run_all, run_more}
use Rattle.h5w_chunks.proofs.grid.Grid.put_cells.Goals as goal

pub loop-v-preserved : goal.loop-v-preserved
loop-v-preserved c =
    let values = c.args.values.now in
    let d = dataset_of c.args.self.now in
    let i = c.loop-v.v-index in
    let v = get_or values i (pos 0) in
    let inside : i < length values = c.loop-v-test.true in
    let fits : FitsType d v = c.requires.fit i v (slice_get-get_or values i (pos 0) inside) in
    let is : to_z w128 (of_z w128 v) ≡ v = search rules in
    let made : cell_bytes_of (to_z w128 (of_z w128 v)) (int_type_of c.args.self.now.int_type) ≡ Some fits.0 = ap (λ (x : ℤ). cell_bytes_of x (int_type_of c.args.self.now.int_type)) is ∙ fits.1 in
    run_more d.int_type c.loop-v.out.items c.put_cell.new.out.items (c.args.out.now.items ++ cells_of d values) fits.0 values i inside fits.1 (c.in_ok-put_cell.ensures fits.0 made) c.loop-v.invariant

pub returns : goal.returns
returns c =
    let past : length c.args.values.now ≤ c.loop-v.v-index = omega arith in
    run_all (int_type_of c.args.self.now.int_type) c.loop-v.out.items (c.args.out.now.items ++ cells_of (dataset_of c.args.self.now) c.args.values.now) c.args.values.now c.loop-v.v-index past c.loop-v.invariant
