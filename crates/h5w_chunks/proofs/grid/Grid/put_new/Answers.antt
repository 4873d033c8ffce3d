use Rattle.std.proofs.Common.{arith, ◌≡◌, ◌+◌, ◌*◌, ◌++◌, ◌∙◌, length, length-append, ap, subst, List, ℕ, OnOk}
use Rattle.h5w_model.specs.Images.{pieces}
use Rattle.h5w_chunks.specs.Grids.{copies, dataset_of, fill_cell, row_len}
use Rattle.h5w_chunks.specs.Shares.{new_chunk, share_rows}
use Rattle.h5w_chunks.proofs.Geometry.{is_cut}
use Rattle.h5w_chunks.proofs.RowLaws.{back_fits, front_fits, length-front, length-new_chunk, length-share_rows, new_chunk_made}
use Rattle.h5w_chunks.proofs.grid.Grid.put_new.Goals as goal

pub put_rows-requires-clause-bound : goal.put_rows-requires-clause-bound
put_rows-requires-clause-bound c =
    let d = dataset_of c.args.self.now in
    let cells = c.args.cells.now in
    let s = c.args.share.now in
    let cut = is_cut c.args.self.now c.requires.grid in
    let front = copies (s.first * d.layout.chunk_cols) (fill_cell d) in
    let made : c.put_fill.new.out.items ≡ front = c.in_ok-put_fill.ensures ∙ ap (λ (b : List ℕ). b ++ front) c.in_ok-bytes.ensures.items in
    let long : length c.put_fill.new.out.items ≡ s.first * row_len d = ap length made ∙ length-front d cells s cut c.requires.share in
    omega (arith, long, front_fits d cells s cut c.requires.share)

pub put_fill-requires-2-clause-bound : goal.put_fill-requires-2-clause-bound
put_fill-requires-2-clause-bound c =
    let d = dataset_of c.args.self.now in
    let cells = c.args.cells.now in
    let s = c.args.share.now in
    let cut = is_cut c.args.self.now c.requires.grid in
    let front = copies (s.first * d.layout.chunk_cols) (fill_cell d) in
    let rows = share_rows d cells s in
    let made : c.put_fill.new.out.items ≡ front = c.in_ok-put_fill.ensures ∙ ap (λ (b : List ℕ). b ++ front) c.in_ok-bytes.ensures.items in
    let both : c.put_rows.new.out.items ≡ front ++ rows = c.in_ok-put_rows.ensures ∙ ap (λ (b : List ℕ). b ++ rows) made in
    let long : length c.put_rows.new.out.items ≡ s.first * row_len d + length rows = ap length both ∙ length-append front rows ∙ ap (λ (n : ℕ). n + length rows) (length-front d cells s cut c.requires.share) in
    omega (arith, long, length-share_rows d cells s cut c.requires.share, back_fits d cells s cut c.requires.share)

pub push_pieces-requires : goal.push_pieces-requires
push_pieces-requires c =
    let d = dataset_of c.args.self.now in
    let cells = c.args.cells.now in
    let s = c.args.share.now in
    let cut = is_cut c.args.self.now c.requires.grid in
    let made : c.deref.result.now ≡ new_chunk d cells s =
    new_chunk_made d cells s (is_cut c.args.self.now c.requires.grid) c.requires.share c.in_ok-bytes.bytes.items c.put_fill.new.out.items c.put_rows.new.out.items c.put_fill-2.new.out.items c.deref.result.now c.in_ok-bytes.ensures.items c.in_ok-put_fill.ensures c.in_ok-put_rows.ensures c.in_ok-put_fill-2.ensures c.deref.ensures.value in
    omega (arith, ap length made, length-new_chunk d cells s cut c.requires.share, c.requires.ends)

pub returns : goal.returns
returns c =
    let d = dataset_of c.args.self.now in
    let cells = c.args.cells.now in
    let s = c.args.share.now in
    let made : c.deref.result.now ≡ new_chunk d cells s =
    new_chunk_made d cells s (is_cut c.args.self.now c.requires.grid) c.requires.share c.in_ok-bytes.bytes.items c.put_fill.new.out.items c.put_rows.new.out.items c.put_fill-2.new.out.items c.deref.result.now c.in_ok-bytes.ensures.items c.in_ok-put_fill.ensures c.in_ok-put_rows.ensures c.in_ok-put_fill-2.ensures c.deref.ensures.value in
    subst (λ (b : List ℕ). OnOk c.push_pieces.result (c.push_pieces.new.out.items ≡ c.args.out.now.items ++ pieces c.args.address b)) made c.push_pieces.ensures
