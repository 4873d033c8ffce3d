use Rattle.std.proofs.Common.{length}
use Rattle.h5w_model.specs.Programs.{fed}
use Rattle.h5w_reader.specs.Values.{range_values, reading_with, band_rest, valued}
use Rattle.h5w_lookup.proofs.GatherLemmas.{fed_more, fed_whole, fits_gather}
use Rattle.h5w_lookup.proofs.PieceLemmas.{along}
use Rattle.h5w_reader.proofs.values.Ranged.feed.Goals as goal

pub feed-requires : goal.feed-requires
feed-requires c =
    let s = c.args.self in
    let r = reading_with c.args.known.now s.span.dataset in
    fits_gather s.gather (band_rest r s.span.from s.span.to s.band s.values.items s.gather.start) (length c.args.piece.now) c.requires

pub returns-in-Looks : goal.returns-in-Looks
returns-in-Looks c =
    let s = c.args.self in
    let r = reading_with c.args.known.now s.span.dataset in
    let e = rw c.in-Looks.is at c.in_ok-gather.ensures in
    rw e.start (fed_more s.gather c.in-Looks.gather c.args.piece.now (band_rest r s.span.from s.span.to s.band s.values.items s.gather.start) e.left)

pub returns-in-Done : goal.returns-in-Done
returns-in-Done c =
    let s = c.args.self in
    let k = c.args.known.now in
    let r = reading_with k s.span.dataset in
    let e = rw c.in-Done.is at c.in_ok-gather.ensures in
    along (valued k) c.enter.result (band_rest r s.span.from s.span.to s.band s.values.items c.start-place.result c.deref.result.now) (fed c.args.piece.now (range_values k s)) c.enter.ensures
    (rw (c.start-place.ensures, c.deref.ensures.value) (fed_whole s.gather c.in-Done.bytes.items c.args.piece.now (band_rest r s.span.from s.span.to s.band s.values.items s.gather.start) e.left))
