use Rattle.std.proofs.Common.{arith, ◌≡◌, ◌+◌, ◌*◌, ◌++◌, ap, subst, sym, List, ℕ, OnOk}
use Rattle.h5w_model.specs.Images.{pieces}
use Rattle.h5w_model.specs.declared.piece.Write.{Write}
use Rattle.h5w_chunks.specs.Grids.{dataset_of, row_len}
use Rattle.h5w_chunks.specs.Shares.{own_row, row_blocks, share_rows, writes_of}
use Rattle.h5w_chunks.proofs.Geometry.{is_cut}
use Rattle.h5w_chunks.proofs.RowLaws.{rows_fit, writes_new, writes_rows, writes_whole}
use Rattle.h5w_chunks.proofs.grid.Grid.put_share.Goals as goal

pub returns-then-not-place : goal.returns-then-not-place
returns-then-not-place c =
    let d = dataset_of c.args.self.now in
    let writes = writes_new d c.args.cells.now c.args.share.now (is_cut c.args.self.now c.requires.grid) c.requires.share c.args.place.now c.if-not-place.true in
    subst (λ (ws : List Write). OnOk c.put_new.result (c.put_new.new.out.items ≡ c.args.out.now.items ++ ws)) (sym writes) c.put_new.ensures

pub put_whole_rows-requires-clause-ends : goal.put_whole_rows-requires-clause-ends
put_whole_rows-requires-clause-ends c =
    let d = dataset_of c.args.self.now in
    let s = c.args.share.now in
    let front : s.first * c.row_len.result ≡ s.first * row_len d = ap (λ (n : ℕ). s.first * n) c.row_len.ensures in
    let fits = rows_fit d c.args.cells.now s (is_cut c.args.self.now c.requires.grid) c.requires.share in
    omega (arith, front, fits, c.requires.ends)

pub put_each_row-requires-clause-ends : goal.put_each_row-requires-clause-ends
put_each_row-requires-clause-ends c =
    let d = dataset_of c.args.self.now in
    let s = c.args.share.now in
    let front : s.first * c.row_len.result ≡ s.first * row_len d = ap (λ (n : ℕ). s.first * n) c.row_len.ensures in
    let fits = rows_fit d c.args.cells.now s (is_cut c.args.self.now c.requires.grid) c.requires.share in
    omega (arith, front, fits, c.requires.ends)

pub returns-then-share-self : goal.returns-then-share-self
returns-then-share-self c =
    let d = dataset_of c.args.self.now in
    let s = c.args.share.now in
    let p = c.args.place.now in
    let writes = writes_whole d c.args.cells.now s (is_cut c.args.self.now c.requires.grid) c.requires.share p c.if-not-place.false c.if-share-self.true in
    let put : OnOk c.put_whole_rows.result (c.put_whole_rows.new.out.items ≡ c.args.out.now.items ++ pieces (p.address + s.first * row_len d) (share_rows d c.args.cells.now s)) =
    subst (λ (n : ℕ). OnOk c.put_whole_rows.result (c.put_whole_rows.new.out.items ≡ c.args.out.now.items ++ pieces (p.address + s.first * n) (share_rows d c.args.cells.now s))) c.row_len.ensures c.put_whole_rows.ensures in
    subst (λ (ws : List Write). OnOk c.put_whole_rows.result (c.put_whole_rows.new.out.items ≡ c.args.out.now.items ++ ws)) (sym writes) put

pub returns-else-share-self : goal.returns-else-share-self
returns-else-share-self c =
    let d = dataset_of c.args.self.now in
    let s = c.args.share.now in
    let p = c.args.place.now in
    let writes = writes_rows d c.args.cells.now s (is_cut c.args.self.now c.requires.grid) c.requires.share p c.if-not-place.false c.if-share-self.false in
    let put : OnOk c.put_each_row.result (c.put_each_row.new.out.items ≡ c.args.out.now.items ++ writes_of (row_blocks (own_row d c.args.cells.now s) (p.address + s.first * row_len d) (row_len d) 0 s.rows)) =
    subst (λ (n : ℕ). OnOk c.put_each_row.result (c.put_each_row.new.out.items ≡ c.args.out.now.items ++ writes_of (row_blocks (own_row d c.args.cells.now s) (p.address + s.first * n) (row_len d) 0 s.rows))) c.row_len.ensures c.put_each_row.ensures in
    subst (λ (ws : List Write). OnOk c.put_each_row.result (c.put_each_row.new.out.items ≡ c.args.out.now.items ++ ws)) (sym writes) put
