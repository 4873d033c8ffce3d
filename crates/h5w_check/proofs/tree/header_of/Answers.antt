use Rattle.std.proofs.Common.{◌∙◌, sym, ap}
use Rattle.h5w_model.specs.Checked.{viewed}
use Rattle.h5w_bt.specs.Fields.{bthd_of}
use Rattle.h5w_laws.proofs.NodeLemmas.{root_is}
use Rattle.h5w_check.proofs.tree.header_of.Goals as goal

pub returns-in-Ok-clause-shallow : goal.returns-in-Ok-clause-shallow
returns-in-Ok-clause-shallow c = (root_is c.args.b.now c.args.at (bthd_of c.in-Ok.t) (sym c.decode.ensures.exact ∙ ap (viewed bthd_of) c.in-Ok.is)).shallow

pub returns-in-Ok-clause-few : goal.returns-in-Ok-clause-few
returns-in-Ok-clause-few c = (root_is c.args.b.now c.args.at (bthd_of c.in-Ok.t) (sym c.decode.ensures.exact ∙ ap (viewed bthd_of) c.in-Ok.is)).few
