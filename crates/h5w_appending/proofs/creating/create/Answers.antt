use Rattle.h5w_several_creation.specs.Forms.{all_by}
use Rattle.h5w_appending.proofs.CreateLemmas.{creates_refused}
use Rattle.h5w_appending.proofs.creating.create.Goals as goal

pub returns-in-Err-Exists-clause-creates : goal.returns-in-Err-Exists-clause-creates
returns-in-Err-Exists-clause-creates g c =
    creates_refused c.args.file.now (all_by c.args.names.now c.args.form.now) c.in-Err-Exists.field-0 _ c.say_line.result c.in-Err-Exists.field-0-is c.in-Err-Exists.ensures.creates c.say_line.ensures

pub returns-clause-creates : goal.returns-clause-creates
returns-clause-creates g c =
    creates_refused c.args.file.now (all_by c.args.names.now c.args.form.now) c.in-Err-OutOfMemory.field-0 _ c.say_line-in-Err-OutOfMemory.result c.in-Err-OutOfMemory.field-0-is c.in-Err-OutOfMemory.ensures.creates
    c.say_line-in-Err-OutOfMemory.ensures
