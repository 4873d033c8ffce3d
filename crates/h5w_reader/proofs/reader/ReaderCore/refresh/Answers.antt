use Rattle.std.proofs.Common.{sym, subst, refl}
use Rattle.h5w_model.specs.Asked.{Asked, beginning}
use Rattle.h5w_model.specs.Unfinished.{Reader, rows_left, rows_program}
use Rattle.h5w_lookup.specs.Attempts.{known_of}
use Rattle.h5w_reader.specs.Readers.{reader_rules}
use Rattle.h5w_reader.specs.Cores.{reader}
use Rattle.h5w_reader.proofs.CoreLemmas.{refreshed_known, refreshed_new}
use Rattle.h5w_reader.proofs.StageLemmas.{rows_want}
use Rattle.h5w_reader.proofs.AskedLemmas.{asked_begin}
use Rattle.h5w_reader.proofs.reader.ReaderCore.refresh.Goals as goal
use Rattle.h5w_reader.proofs.reader.ReaderCore.refresh.Goals.{in-Some, in-None}

pub returns-clause-begun : goal.returns-clause-begun
returns-clause-begun c =
    let s = c.args.self.now in
    elim c.match-self.branch [
      | in-Some w ↦ refreshed_known s.attempts s.name s.known w.in-Some.known c.match-self.stage w.rows-stage.result w.in-Some.is w.stage-is w.rows-stage.ensures
      | in-None w ↦ refreshed_new s.attempts s.name s.known c.match-self.stage w.open-stage.result w.in-None.is w.stage-is w.open-stage.ensures
    ]

pub returns-clause-wanting : goal.returns-clause-wanting
returns-clause-wanting c = let s = c.args.self.now in rows_want s.attempts s.name s.known c.match-self.stage

pub returns-clause-asked : goal.returns-clause-asked
returns-clause-asked c = λ asks asked.
    let s = c.args.self.now in
    let p = rows_left (rows_program (reader_rules s.name s.attempts) (known_of s.known)) in
    subst (λ (r : Reader). Asked r (beginning p asks)) (sym (returns-clause-begun c)) (asked_begin (reader s) asks p asked refl)
