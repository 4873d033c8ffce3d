use Rattle.std.proofs.Common.{Some}
use Rattle.h5w_reader.specs.Cores.{reader}
use Rattle.h5w_core.specs.Readers.{ReadLooks, placed}
use Rattle.h5w_core.proofs.PlaceLemmas.{read_begins, read_nothing}
use Rattle.h5w_core.proofs.readers.read.Goals as goal

pub returns-in-Ok-None-clause-gives : goal.returns-in-Ok-None-clause-gives
returns-in-Ok-None-clause-gives c =
    rw c.in-Some.is (read_begins c.args.reader c.args.from c.args.count (reader c.in-Some.core) (reader c.read.new.self) c.read.result c.in-Ok-None.field-0 c.in-Ok-None.is c.read.ensures.refused
    (rw c.in-Ok-None.field-0-is at c.in-Ok-None.ensures.begun) (c.in-Ok-None.ensures.wanting c.in-Ok-None.field-0-is))

pub returns-in-Ok-Some-clause-gives : goal.returns-in-Ok-Some-clause-gives
returns-in-Ok-Some-clause-gives c =
    let looks : ReadLooks c.args.from c.args.count (placed (Some c.in-Some.core)) = rw c.in-Some.is at c.requires in
    rw c.in-Some.is
    (read_nothing c.args.reader c.args.from c.args.count (reader c.in-Some.core) (reader c.read.new.self) c.in-Ok-Some.values c.read.result c.in-Ok-Some.field-0 c.in-Ok-Some.is looks c.read.ensures.refused
    (rw c.in-Ok-Some.field-0-is at c.in-Ok-Some.ensures.begun))
