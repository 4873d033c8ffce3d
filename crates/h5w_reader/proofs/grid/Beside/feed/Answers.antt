use Rattle.std.proofs.Common.{length}
use Rattle.h5w_model.specs.Programs.{fed}
use Rattle.h5w_reader.specs.Bands.{reading_with}
use Rattle.h5w_reader.specs.Grids.{grid_given}
use Rattle.h5w_reader.specs.Gridding.{grid_left}
use Rattle.h5w_reader.specs.Values.{valued}
use Rattle.h5w_lookup.proofs.GatherLemmas.{fed_more, fed_whole, fits_gather}
use Rattle.h5w_lookup.proofs.PieceLemmas.{along}
use Rattle.h5w_reader.proofs.grid.Beside.feed.Goals as goal

pub feed-requires : goal.feed-requires
feed-requires c =
    let s = c.args.self in
    let r = reading_with c.args.known.now s.grid.dataset in
    fits_gather s.gather (grid_given r s.grid.from s.grid.to s.band (length s.ranges.items) s.values.items s.ranges.items s.gather.start) (length c.args.piece.now) c.requires

pub returns-in-Looks : goal.returns-in-Looks
returns-in-Looks c =
    let s = c.args.self in
    let r = reading_with c.args.known.now s.grid.dataset in
    let e = rw c.in-Looks.is at c.in_ok-gather.ensures in
    rw e.start (fed_more s.gather c.in-Looks.gather c.args.piece.now (grid_given r s.grid.from s.grid.to s.band (length s.ranges.items) s.values.items s.ranges.items s.gather.start) e.left)

pub returns-in-Done : goal.returns-in-Done
returns-in-Done c =
    let s = c.args.self in
    let k = c.args.known.now in
    let r = reading_with k s.grid.dataset in
    let e = rw c.in-Done.is at c.in_ok-gather.ensures in
    let next = grid_given r s.grid.from s.grid.to s.band (length s.ranges.items) s.values.items s.ranges.items in
    along (valued k) c.enter.result (next c.start-place.result c.in-Done.bytes.items) (fed c.args.piece.now (grid_left k s)) c.enter.ensures
    (rw c.start-place.ensures (fed_whole s.gather c.in-Done.bytes.items c.args.piece.now (next s.gather.start) e.left))
