use Rattle.std.proofs.Common.{arith, ◌≡◌, ◌++◌, ◌∙◌, length, ap, List, ℕ}
use Rattle.h5w_chunks.specs.Grids.{dataset_of}
use Rattle.h5w_chunks.specs.Shares.{share_rows}
use Rattle.h5w_chunks.proofs.Geometry.{is_cut}
use Rattle.h5w_chunks.proofs.RowLaws.{length-share_rows}
use Rattle.h5w_chunks.proofs.grid.Grid.put_whole_rows.Goals as goal

pub push_pieces-requires : goal.push_pieces-requires
push_pieces-requires c =
    let d = dataset_of c.args.self.now in
    let long = length-share_rows d c.args.cells.now c.args.share.now (is_cut c.args.self.now c.requires.grid) c.requires.share in
    omega (arith, ap length c.run.ensures, long, c.requires.ends)

pub push_pieces-requires-2 : goal.push_pieces-requires-2
push_pieces-requires-2 c =
    let d = dataset_of c.args.self.now in
    let rows = share_rows d c.args.cells.now c.args.share.now in
    let long = length-share_rows d c.args.cells.now c.args.share.now (is_cut c.args.self.now c.requires.grid) c.requires.share in
    let made : c.deref.result.now ≡ rows = c.deref.ensures.value ∙ c.in_ok-put_rows.ensures ∙ ap (λ (b : List ℕ). b ++ rows) c.in_ok-bytes.ensures.items in
    omega (arith, ap length made, long, c.requires.ends)
