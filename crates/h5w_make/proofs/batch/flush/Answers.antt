use Rattle.std.proofs.Common.{rules, ap, Err}
use Rattle.h5w_make.proofs.BatchLemmas.{only_memory}
use Rattle.h5w_make.proofs.batch.flush.Goals as goal

pub unreachable-requires : goal.unreachable-requires
unreachable-requires c =
    let e = c.in-Err.field-0 in
    let log = c.requires.places.0 in
    let memory = only_memory c.args.session.now e c.requires.taken c.in-Err.ensures.causes
    (λ full is. c.requires.places.3 full (c.in-Err.ensures.bounds full (ap Err is) log c.requires.places.1)) (λ is. c.in-Err.ensures.shallow log c.requires.places.1 c.requires.places.2 (ap Err is))
    (λ is. let rose = c.in-Err.ensures.fault (ap Err is) in search (rules, rose)) in
    search (rules, memory)
