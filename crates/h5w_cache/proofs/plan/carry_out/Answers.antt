use Rattle.std.proofs.Common.{◌∙◌, ap, arith, List, ℕ}
use Rattle.std.proofs.lemmas.List.{with_items_is}
use Rattle.std.specs.Prelude.{Option}
use Rattle.h5w_cache.specs.Blocks.{BlockView}
use Rattle.h5w_cache.specs.Plans.{moved, respelled}
use Rattle.h5w_cache.specs.Stores.{place_in}
use Rattle.h5w_cache.proofs.plan.carry_out.Goals as goal

pub returns-clause-blocks : goal.returns-clause-blocks
returns-clause-blocks c =
    with_items_is c.args.blocks.now c.spell_all.new.blocks (omega (arith, c.spell_all.auto.blocks, c.deref_mut-3.ensures.len))
    ∙ c.spell_all.ensures.spelled
    ∙ ap (λ (b : List (Option BlockView)). respelled (place_in c.deref.result.now) c.args.moves.now b) c.deref_mut-3.ensures.value
    ∙ ap (λ (p : List ℕ). respelled (place_in p) c.args.moves.now c.args.blocks.now.items)
    (c.deref.ensures.value ∙ with_items_is c.args.places.now c.settle.new.places (omega (arith, c.settle.auto.places, c.deref_mut.ensures.len)) ∙ c.settle.ensures ∙ ap (moved c.args.moves.now) c.deref_mut.ensures.value)
