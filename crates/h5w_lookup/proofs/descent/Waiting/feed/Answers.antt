use Rattle.std.proofs.Common.{length}
use Rattle.h5w_model.specs.Programs.{fed}
use Rattle.h5w_lookup.specs.Attempts.{known_of, rules_of}
use Rattle.h5w_lookup.specs.Seeking.{wait_given}
use Rattle.h5w_lookup.specs.Stores.{kept}
use Rattle.h5w_lookup.specs.Descents.{after_next, waiting, descended}
use Rattle.h5w_lookup.proofs.PieceLemmas.{along}
use Rattle.h5w_lookup.proofs.GatherLemmas.{fed_more, fed_whole, fits_gather}
use Rattle.h5w_lookup.proofs.descent.Waiting.feed.Goals as goal

pub feed-requires : goal.feed-requires
feed-requires c =
    let s = c.args.self in
    let g = rules_of c.args.rules.now (known_of c.args.known.now) in
    fits_gather s.gather (wait_given (kept s.descent.store) s.wait (after_next g s.descent)) (length c.args.piece.now) c.requires

pub returns-in_ok-new-in-Looks : goal.returns-in_ok-new-in-Looks
returns-in_ok-new-in-Looks c =
    let s = c.args.self in
    let g = rules_of c.args.rules.now (known_of c.args.known.now) in
    let e = rw c.in-Looks.is at c.in_ok-gather.ensures in
    rw c.in_ok-new-in-Looks.ensures.ok (fed_more s.gather c.in-Looks.gather c.args.piece.now (wait_given (kept s.descent.store) s.wait (after_next g s.descent)) e.left)

pub returns-in-Done : goal.returns-in-Done
returns-in-Done c =
    let s = c.args.self in
    let g = rules_of c.args.rules.now (known_of c.args.known.now) in
    let next = wait_given (kept s.descent.store) s.wait (after_next g s.descent) in
    let e = rw c.in-Done.is at c.in_ok-gather.ensures in
    along (descended g) c.enter.result (next c.in-Done.bytes.items) (fed c.args.piece.now (waiting g s)) c.enter.ensures (fed_whole s.gather c.in-Done.bytes.items c.args.piece.now next e.left)
