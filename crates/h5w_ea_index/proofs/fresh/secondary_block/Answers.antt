use Rattle.std.proofs.Common.{◌≡◌, ◌+◌, ◌*◌, ap, ◌∙◌, sym, subst, replicate, length, map, arith}
use Rattle.std.specs.List.{range_with_len}
use Rattle.h5w_model.specs.Numbers.{undefined}
use Rattle.h5w_array_laws.specs.Parts.{data_of, links_from}
use Rattle.h5w_cache.specs.Blocks.{BlockView, AreInside}
use Rattle.h5w_ea_index.proofs.FreshLemmas.{fresh_secondary, same_secondary_bytes, links_fit}
use Rattle.h5w_ea_index.proofs.fresh.secondary_block.Goals as goal

pub new-requires-clause-inside : goal.new-requires-clause-inside
new-requires-clause-inside c =
    let l = c.in_ok-bytes.ensures.len in
    let n : length c.in_ok-bytes.bytes.items ≡ 22 + 8 * c.super_block-blocks.result.0 = omega arith in
    subst (AreInside c.in_ok-links.links.items) (sym n)
    (subst (λ ls. AreInside ls (22 + 8 * c.super_block-blocks.result.0)) (sym c.in_ok-links.ensures) (links_fit c.args.sblock c.super_block-blocks.result.0 c.super_block-blocks.result.0 (omega arith)))

pub returns : goal.returns
returns c =
    let e = c.super_block-blocks.ensures.blocks in
    let f = c.super_block-blocks.ensures.start in
    fresh_secondary c.args.header c.args.sblock c.new.result c.requires
    (ap (λ (b : BlockView). b.bytes) c.new.ensures ∙ c.in_ok-bytes.ensures.bytes ∙ same_secondary_bytes c.args.header _ _ _ _ f (c.in_ok-slots.ensures ∙ ap (λ n. replicate n undefined) e))
    (ap (λ (b : BlockView). b.links) c.new.ensures ∙ c.in_ok-links.ensures ∙ ap (λ n. links_from 18 (map (data_of c.args.sblock) (range_with_len 0 n))) e)
    (ap (λ (b : BlockView). b.turn) c.new.ensures ∙ c.from-turn.ensures ∙ c.secondary_number.ensures.value)
    (ap (λ (b : BlockView). b.in_place) c.new.ensures)
    (ap (λ (b : BlockView). b.sealed) c.new.ensures ∙ ap (λ n. 22 + 8 * n) e)
