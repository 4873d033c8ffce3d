use Rattle.std.proofs.Common.{length}
use Rattle.h5w_model.specs.Programs.{fed}
use Rattle.h5w_reader.specs.Walking.{block_left, walked, walking}
use Rattle.h5w_lookup.proofs.GatherLemmas.{fed_more, fed_whole, fits_gather}
use Rattle.h5w_lookup.proofs.PieceLemmas.{along}
use Rattle.h5w_reader.proofs.walk.Block.feed.Goals as goal

pub feed-requires : goal.feed-requires
feed-requires c =
    let s = c.args.self in
    fits_gather s.gather (block_left s.walk s.gather.start s.len) (length c.args.piece.now) c.requires

pub returns-in-Looks : goal.returns-in-Looks
returns-in-Looks c =
    let s = c.args.self in
    let e = rw c.in-Looks.is at c.in_ok-gather.ensures in
    rw e.start (fed_more s.gather c.in-Looks.gather c.args.piece.now (block_left s.walk s.gather.start s.len) e.left)

pub returns-in-Done : goal.returns-in-Done
returns-in-Done c =
    let s = c.args.self in
    let e = rw c.in-Done.is at c.in_ok-gather.ensures in
    along walked c.enter.result (block_left s.walk c.start-place.result s.len c.deref.result.now) (fed c.args.piece.now (walking s)) c.enter.ensures
    (rw (c.start-place.ensures, c.deref.ensures.value) (fed_whole s.gather c.in-Done.bytes.items c.args.piece.now (block_left s.walk s.gather.start s.len) e.left))
