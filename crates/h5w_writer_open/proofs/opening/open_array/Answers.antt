use Rattle.std.proofs.Common.{ℕ, ◌<◌, sym, subst}
use Rattle.h5w_dataset.specs.Described.{described_of}
use Rattle.h5w_writer_open.proofs.OpenLineLemmas.{open_few}
use Rattle.h5w_writer_open.proofs.OpenStepLemmas.{bad_array, empty_array, good_array}
use Rattle.h5w_writer_open.proofs.opening.open_array.Goals as goal

pub open-requires : goal.open-requires
open-requires g c =
    let d = c.args.d.now in
    subst (λ (n : ℕ). n < 131060) (sym c.first_open_line.ensures) (open_few (described_of d) d.tall c.requires.few c.requires.array)

pub returns-in-Err-clause-step : goal.returns-in-Err-clause-step
returns-in-Err-clause-step g c =
    bad_array (described_of c.args.d.now) c.first_open_line.result c.in-Err.e c.array_error.result c.requires.array c.requires.named c.first_open_line.ensures c.array_error.ensures c.in-Err.ensures.loads

pub returns-in-Ok-Some-clause-step : goal.returns-in-Ok-Some-clause-step
returns-in-Ok-Some-clause-step g c =
    let e = c.in-Ok-Some.ensures in
    let f = rw c.in-Ok-Some.field-0-is at e in
    good_array (described_of c.args.d.now) c.first_open_line.result c.requires.array c.requires.named e.loads.looked c.in-Ok-Some.array c.first_open_line.ensures f.at f.array f.clean f.opened

pub returns-in-Ok-Some-clause-named : goal.returns-in-Ok-Some-clause-named
returns-in-Ok-Some-clause-named g c =
    let f = rw c.in-Ok-Some.field-0-is at c.in-Ok-Some.ensures in
    record { kind = c.requires.array; named = c.requires.named; at = f.at; array = f.array; clean = f.clean }

pub returns-in-Ok-None-clause-step : goal.returns-in-Ok-None-clause-step
returns-in-Ok-None-clause-step g c =
    let e = c.in-Ok-None.ensures in
    let f = rw c.in-Ok-None.field-0-is at e in
    empty_array (described_of c.args.d.now) c.first_open_line.result c.requires.array c.requires.named e.loads.looked f.nowhere

pub returns-in-Ok-None-clause-named : goal.returns-in-Ok-None-clause-named
returns-in-Ok-None-clause-named g c = record { kind = c.requires.array; named = c.requires.named }

pub returns-in-Err-clause-named : goal.returns-in-Err-clause-named
returns-in-Err-clause-named g c = tt
