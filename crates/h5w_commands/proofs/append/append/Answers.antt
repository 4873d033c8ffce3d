use Rattle.std.proofs.Common.{arith}
use Rattle.h5w_words.proofs.NameLemmas.{some_names}
use Rattle.h5w_commands.proofs.AppendLemmas.{append_told, append_whole, only_told, several_told}
use Rattle.h5w_commands.proofs.NameLemmas.{may_append, only_fits}
use Rattle.h5w_commands.proofs.append.append.Goals as goal

pub append-requires-clause-name : goal.append-requires-clause-name
append-requires-clause-name g c = only_fits c.args.names.now c.in-Some.name.now c.in-Some.ensures c.requires.names

pub append-requires-clause-low : goal.append-requires-clause-low
append-requires-clause-low g c = let counts = some_names c.args.names.now c.requires.names in omega (arith, counts.0, c.requires.low)

pub append-requires-in-None-clause-some : goal.append-requires-in-None-clause-some
append-requires-in-None-clause-some g c = (some_names c.args.names.now c.requires.names).0

pub append-requires-in-None-clause-few : goal.append-requires-in-None-clause-few
append-requires-in-None-clause-few g c = (some_names c.args.names.now c.requires.names).1

pub append-requires-in-None-clause-names : goal.append-requires-in-None-clause-names
append-requires-in-None-clause-names g c = may_append c.args.names.now c.requires.names

pub append-requires-in-None-clause-low : goal.append-requires-in-None-clause-low
append-requires-in-None-clause-low g c = let counts = some_names c.args.names.now c.requires.names in omega (arith, counts.0, c.requires.low)

pub returns-in-Some-clause-inside : goal.returns-in-Some-clause-inside
returns-in-Some-clause-inside g c =
    only_told c.args.terms.by (g.S.Source.view c.args.source.now) (g.S.Source.view c.append.new.source) (g.K.Sink.view c.args.sink.now) (g.K.Sink.view c.append.new.sink) (g.D.Disk.view c.args.disk.now) (g.D.Disk.view c.append.new.disk)
    c.args.terms.file.now c.args.names.now c.in-Some.name.now c.args.terms.limit c.args.terms.budget c.args.terms.keeps c.append.result c.in-Some.ensures c.append.ensures.appends

pub returns-in-Some-clause-tells : goal.returns-in-Some-clause-tells
returns-in-Some-clause-tells g c =
    append_told c.args.terms.by (g.S.Source.view c.args.source.now) (g.S.Source.view c.append.new.source) (g.K.Sink.view c.args.sink.now) (g.K.Sink.view c.append.new.sink) (g.D.Disk.view c.args.disk.now) (g.D.Disk.view c.append.new.disk)
    c.args.terms.file.now c.args.names.now c.args.terms.limit c.args.terms.budget c.args.terms.keeps c.append.result (returns-in-Some-clause-inside g c)

pub returns-in-Some-clause-completes : goal.returns-in-Some-clause-completes
returns-in-Some-clause-completes g c =
    append_whole c.args.terms.by (g.S.Source.view c.args.source.now) (g.S.Source.view c.append.new.source) (g.K.Sink.view c.args.sink.now) (g.K.Sink.view c.append.new.sink) (g.D.Disk.view c.args.disk.now) (g.D.Disk.view c.append.new.disk)
    c.args.terms.file.now c.args.names.now c.args.terms.limit c.args.terms.budget c.args.terms.keeps c.append.result (returns-in-Some-clause-inside g c)

pub returns-in-None-clause-inside : goal.returns-in-None-clause-inside
returns-in-None-clause-inside g c =
    several_told c.args.terms.by (g.S.Source.view c.args.source.now) (g.S.Source.view c.append-in-None.new.source) (g.K.Sink.view c.args.sink.now) (g.K.Sink.view c.append-in-None.new.sink) (g.D.Disk.view c.args.disk.now) (g.D.Disk.view c.append-in-None.new.disk)
    c.args.terms.file.now c.args.names.now c.args.terms.limit c.args.terms.budget c.args.terms.keeps c.append-in-None.result c.in-None.ensures c.append-in-None.ensures.ends

pub returns-in-None-clause-tells : goal.returns-in-None-clause-tells
returns-in-None-clause-tells g c =
    append_told c.args.terms.by (g.S.Source.view c.args.source.now) (g.S.Source.view c.append-in-None.new.source) (g.K.Sink.view c.args.sink.now) (g.K.Sink.view c.append-in-None.new.sink) (g.D.Disk.view c.args.disk.now) (g.D.Disk.view c.append-in-None.new.disk)
    c.args.terms.file.now c.args.names.now c.args.terms.limit c.args.terms.budget c.args.terms.keeps c.append-in-None.result (returns-in-None-clause-inside g c)

pub returns-in-None-clause-completes : goal.returns-in-None-clause-completes
returns-in-None-clause-completes g c =
    append_whole c.args.terms.by (g.S.Source.view c.args.source.now) (g.S.Source.view c.append-in-None.new.source) (g.K.Sink.view c.args.sink.now) (g.K.Sink.view c.append-in-None.new.sink) (g.D.Disk.view c.args.disk.now) (g.D.Disk.view c.append-in-None.new.disk)
    c.args.terms.file.now c.args.names.now c.args.terms.limit c.args.terms.budget c.args.terms.keeps c.append-in-None.result (returns-in-None-clause-inside g c)
