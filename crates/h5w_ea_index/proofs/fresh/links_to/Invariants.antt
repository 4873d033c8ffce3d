use Rattle.std.proofs.Common.{◌≡◌, map}
use Rattle.std.specs.List.{range_with_len}
use Rattle.h5w_array_laws.specs.Parts.{data_of, links_from}
use Rattle.h5w_ea_index.proofs.fresh.links_to.Given as goal

abbrev pub invariant-loop-block : goal.invariant-loop-block
invariant-loop-block l = l.links.items ≡ links_from 18 (map (data_of l.sblock) (range_with_len 0 l.block))
