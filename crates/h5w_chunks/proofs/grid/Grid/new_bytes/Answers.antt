use Rattle.std.proofs.Common.{arith, rules, ◌≡◌, ◌≤◌, ◌++◌, ◌∙◌, length, get_or, false, ap, subst, sym}
use Rattle.std.proofs.lemmas.Option.{slice_get-get_or}
use Rattle.h5w_chunks.specs.Grids.{dataset_of}
use Rattle.h5w_chunks.specs.Rows.{IsShare}
use Rattle.h5w_chunks.specs.Shares.{new_writes, share_blocks, writes_of}
use Rattle.h5w_chunks.specs.declared.grid.ChunkPlace.{ChunkPlace}
use Rattle.h5w_chunks.specs.declared.share.Share.{Share}
use Rattle.h5w_chunks.proofs.Geometry.{is_cut}
use Rattle.h5w_chunks.proofs.WriteLaws.{chunk_writes, from_all, from_more, is_share, rows_written}
use Rattle.h5w_chunks.proofs.grid.Grid.new_bytes.Goals as goal

abbrev none : ChunkPlace
none = record { address = 0; stored = false }

pub loop-k-init : goal.loop-k-init
loop-k-init c = search rules

pub put_share-requires-clause-share : goal.put_share-requires-clause-share
put_share-requires-clause-share c =
    let d = dataset_of c.args.self.now in
    let test = c.loop-k-test.true in
    subst (λ (s : Share). IsShare d c.args.cells.now s) (sym c.share-share.ensures)
    (is_share d c.args.cells.now c.args.from c.args.to c.loop-k.k (is_cut c.args.self.now c.requires.grid) c.requires.count (omega (arith, c.requires.places)))

pub put_share-requires-clause-ends : goal.put_share-requires-clause-ends
put_share-requires-clause-ends c = c.requires.ends c.loop-k.k (get_or c.args.places.now c.loop-k.k none) (slice_get-get_or c.args.places.now c.loop-k.k none c.loop-k-test.true)

pub returns-in_err-put_share-clause-does : goal.returns-in_err-put_share-clause-does
returns-in_err-put_share-clause-does c =
    rows_written (dataset_of c.args.self.now) c.args.cells.now c.args.from c.args.to c.args.places.now (is_cut c.args.self.now c.requires.grid) c.requires.order c.requires.count c.requires.places

pub loop-k-preserved : goal.loop-k-preserved
loop-k-preserved c =
    let d = dataset_of c.args.self.now in
    let cells = c.args.cells.now in
    let places = c.args.places.now in
    let p = get_or places c.loop-k.k none in
    let put : c.put_share.new.out.items ≡ c.loop-k.out.items ++ chunk_writes d cells c.args.from c.args.to c.loop-k.k p =
    c.in_ok-put_share.ensures ∙ ap (λ (s : Share). c.loop-k.out.items ++ writes_of (share_blocks d cells s p)) c.share-share.ensures in
    from_more d cells c.args.from c.args.to c.loop-k.k places p c.loop-k.out.items c.put_share.new.out.items (c.args.out.now.items ++ new_writes d cells c.args.from c.args.to places)
    (slice_get-get_or places c.loop-k.k none c.loop-k-test.true) put c.loop-k.invariant

pub returns-clause-exact : goal.returns-clause-exact
returns-clause-exact c =
    let d = dataset_of c.args.self.now in
    let past : length c.args.places.now ≤ c.loop-k.k = omega (arith, c.loop-k-test.false) in
    from_all d c.args.cells.now c.args.from c.args.to c.loop-k.k c.args.places.now c.loop-k.out.items (c.args.out.now.items ++ new_writes d c.args.cells.now c.args.from c.args.to c.args.places.now) past c.loop-k.invariant

pub returns-clause-does : goal.returns-clause-does
returns-clause-does c =
    rows_written (dataset_of c.args.self.now) c.args.cells.now c.args.from c.args.to c.args.places.now (is_cut c.args.self.now c.requires.grid) c.requires.order c.requires.count c.requires.places
