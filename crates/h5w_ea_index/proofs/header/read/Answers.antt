use Rattle.std.proofs.Common.{◌≡◌, ◌+◌, ◌*◌, ap, ◌∙◌, sym, refl, false}
use Rattle.std.specs.Prelude.{is_some, IsSome}
use Rattle.h5w_model.specs.Numbers.{field}
use Rattle.h5w_cache.specs.Stores.{block_of}
use Rattle.h5w_array_laws.specs.Parts.{header}
use Rattle.h5w_ea_index.proofs.WayLemmas.{read_is}
use Rattle.h5w_ea_index.proofs.header.read.Goals as goal

pub returns-in-Some : goal.returns-in-Some
returns-in-Some c = c.number.ensures ∙ ap (λ l. field l (12 + 8 * c.args.index) 8) c.bytes.ensures.value ∙ read_is c.args.cache.now c.in-Some.block.now c.args.index (sym c.in-Some.ensures.exact) c.requires.index

pub returns-in-None : goal.returns-in-None
returns-in-None c =
    let h : IsSome (block_of c.args.cache.now 846) = (c.requires.array.in_place header tt refl).0 in
    let t : false ≡ is_some (block_of c.args.cache.now 846) = ap is_some c.in-None.ensures.exact in
    absurd (cc)
