use Rattle.std.proofs.Common.{◌++◌, ◌∙◌, ap, sym, subst, arith, replicate, false, vec_capacity}
use Rattle.std.specs.Prelude.{None}
use Rattle.h5w_model.specs.Numbers.{undefined}
use Rattle.h5w_cache.specs.Stores.{IsStore}
use Rattle.h5w_cache.proofs.StoreLemmas.{IsStore-grown}
use Rattle.h5w_cache.proofs.store.Cache.reserve.Goals as goal

pub invariant_of-self-2 : goal.invariant_of-self-2
invariant_of-self-2 c =
    IsStore-grown _ _ _ _ _ _ _ c.saturating_sub-more.result _ _
    (c.grow_blocks.ensures ∙ ap (λ l. l ++ replicate c.saturating_sub-more.result None) c.make_room.ensures.blocks)
    (c.grow.ensures ∙ ap (λ l. l ++ replicate c.saturating_sub-more.result undefined) c.make_room.ensures.places)
    (c.grow-2.ensures ∙ ap (λ l. l ++ replicate c.saturating_sub-more.result false) c.make_room.ensures.marks)
    (subst (λ l. IsStore c.self.inside.blocks.items c.self.inside.places.items c.self.inside.marks.items l (vec_capacity c.self.inside.changed)) (sym c.reserve.ensures.items) c.self.invariant)
    (omega (arith, c.in_ok-reserve.ensures.ok, c.reserve.ensures.len, c.self.inside.blocks.ok, c.reserve.new.self.ok))
