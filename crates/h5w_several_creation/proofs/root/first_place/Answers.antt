use Rattle.std.proofs.Common.{arith}
use Rattle.h5w_several_creation.proofs.SetLemmas.{names_few, place_is}
use Rattle.h5w_several_creation.proofs.root.first_place.Goals as goal

pub links_len-size-requires : goal.links_len-size-requires
links_len-size-requires c = omega (arith, names_few c.args.names.now c.requires)

pub returns : goal.returns
returns c = λ forms many. place_is c.args.names.now forms c.links_len-size.result c.head_of.result many c.links_len-size.ensures.exact c.head_of.ensures.exact
