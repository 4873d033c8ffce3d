use Rattle.std.proofs.Common.{◌≡◌, ◌+◌, ◌∙◌, ℕ, ap, arith}
use Rattle.std.specs.Prelude.{if◌then◌else◌, map, nat_le}
use Rattle.h5w_several_creation_laws.specs.Links.{names_len}
use Rattle.h5w_packing.specs.Plans.{first_place, wanted_names, wanted_of}
use Rattle.h5w_packing.proofs.SoFarLemmas.{links_low, links_sum}
use Rattle.h5w_packing.proofs.planning.first_place.Goals as goal

pub links_len-size-requires : goal.links_len-size-requires
links_len-size-requires c = omega (arith, links_low c.args.sources.now c.requires.each, c.requires.few)

pub returns-clause-exact : goal.returns-clause-exact
returns-clause-exact c =
    let ws = map wanted_of c.args.sources.now in
    let n : c.links_len-size.result ≡ names_len (wanted_names ws) = c.links_len-size.ensures.exact ∙ links_sum c.args.sources.now in
    ap (λ m. 48 + (m + (28 + c.links_len-size.result))) c.head_of.ensures.exact
    ∙ ap (λ (m : ℕ). 48 + ((if nat_le (28 + m) 255 then 11 else 12) + (28 + m))) n

pub returns-clause-bound : goal.returns-clause-bound
returns-clause-bound c = omega (arith, links_low c.args.sources.now c.requires.each, c.links_len-size.ensures.exact, c.head_of.ensures.bound)
