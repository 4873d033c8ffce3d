use Rattle.std.proofs.Common.{List, subst}
use Rattle.h5w_creation_laws.specs.CreatedFiles.{CreatedFile}
use Rattle.h5w_several_creation_laws.specs.SeveralFiles.{end_of}
use Rattle.h5w_files.specs.Ends.{EndsWell}
use Rattle.h5w_appending.specs.Creates.{CreateEnds, end_given}
use Rattle.h5w_commands.proofs.NewLemmas.{by_options, names_may}
use Rattle.h5w_commands.proofs.new.new.Goals as goal

pub create-requires-clause-names : goal.create-requires-clause-names
create-requires-clause-names g c = (names_may c.args.names.now c.requires.names).0

pub create-requires-clause-named : goal.create-requires-clause-named
create-requires-clause-named g c = (names_may c.args.names.now c.requires.names).1

pub returns-clause-creates : goal.returns-clause-creates
returns-clause-creates g c =
    subst (λ (fs : List CreatedFile). CreateEnds c.args.file.now fs (g.D.Disk.view c.args.disk.now) (g.D.Disk.view c.create.new.disk) c.create.result (g.K.Sink.view c.args.sink.now) (g.K.Sink.view c.create.new.sink))
    (by_options c.args.names.now c.form_of.result c.args.options.now c.form_of.ensures.file) c.create.ensures.creates

pub returns-clause-completes : goal.returns-clause-completes
returns-clause-completes g c =
    subst (λ (fs : List CreatedFile). EndsWell (end_given (end_of fs)) c.args.file.now (g.D.Disk.view c.args.disk.now) (g.D.Disk.view c.create.new.disk) c.create.result (g.K.Sink.view c.args.sink.now) (g.K.Sink.view c.create.new.sink))
    (by_options c.args.names.now c.form_of.result c.args.options.now c.form_of.ensures.file) c.create.ensures.completes
