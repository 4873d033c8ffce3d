use Rattle.std.proofs.Common.{◌≡◌, ◌+◌, ◌*◌, ap, ◌∙◌, replicate}
use Rattle.h5w_model.specs.Numbers.{undefined}
use Rattle.h5w_model.specs.Arrays.{super_block_of}
use Rattle.h5w_cache.specs.Blocks.{BlockView}
use Rattle.h5w_ea_index.proofs.FreshLemmas.{fresh_data, same_data_bytes}
use Rattle.h5w_ea_index.proofs.fresh.data_block.Goals as goal

pub returns : goal.returns
returns c =
    let e = c.super_block-slots.ensures.slots in
    let f = c.super_block-slots.ensures.start in
    fresh_data c.args.header c.args.sblock c.args.block c.new-2.result c.requires
    (ap (λ (b : BlockView). b.bytes) c.new-2.ensures ∙ c.in_ok-bytes.ensures.bytes ∙ same_data_bytes c.args.header _ _ _ _ (let o : c.super_block-slots.result.2 + c.from.result * c.super_block-slots.result.1 ≡ (super_block_of c.args.sblock).start + c.args.block * (super_block_of c.args.sblock).slots = cc in o) (c.in_ok-slots.ensures ∙ ap (λ n. replicate n undefined) e))
    (ap (λ (b : BlockView). b.links) c.new-2.ensures ∙ c.new.ensures.items)
    (ap (λ (b : BlockView). b.turn) c.new-2.ensures ∙ c.from-turn.ensures ∙ c.data_number.ensures.value)
    (ap (λ (b : BlockView). b.in_place) c.new-2.ensures)
    (ap (λ (b : BlockView). b.sealed) c.new-2.ensures ∙ ap (λ n. 22 + 8 * n) e)
