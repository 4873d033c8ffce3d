use Rattle.std.proofs.Common.{◌≡◌, Option, Some, None, nat_eq, sym, ap, ◌∙◌}
use Rattle.std.specs.Prelude.{option_map, option_copied}
use Rattle.std.specs.Map.{lookup}
use Rattle.h5w_lookup.specs.Blocks.{block_number}
use Rattle.h5w_lookup.specs.Contents.{bytes_in}
use Rattle.h5w_lookup.specs.declared.block.Block.{Block}
use Rattle.h5w_lookup.proofs.StoreLemmas.{IsSmall, find_bytes, keeps_found}
use Rattle.h5w_lookup.proofs.store.Store.look.Goals as goal

pub returns-in-None : goal.returns-in-None
returns-in-None c =
    let a = c.args in
    let es = a.self.now.cache.entries in
    let small : IsSmall a.place a.len = record { low = c.ranges.place.fits; small = c.requires } in
    let none : lookup (nat_eq (block_number a.kind a.place a.len)) es ≡ None = rw (← c.number-key.ensures) (sym c.peek.ensures ∙ ap (λ o. option_copied o) c.in-None.is) in
    find_bytes a.kind a.place a.len es small a.self.now.keyed ∙ ap (λ (o : Option Block). option_map (λ (b : Block). bytes_in b.content) o) none

pub returns-in-Some : goal.returns-in-Some
returns-in-Some c =
    let a = c.args in
    let es = a.self.now.cache.entries in
    let small : IsSmall a.place a.len = record { low = c.ranges.place.fits; small = c.requires } in
    let found : lookup (nat_eq (block_number a.kind a.place a.len)) es ≡ Some c.in-Some.block.now = rw (← c.number-key.ensures) (sym c.peek.ensures ∙ ap (λ o. option_copied o) c.in-Some.is) in
    keeps_found a.kind a.place a.len es c.in-Some.block.now small a.self.now.keyed found
