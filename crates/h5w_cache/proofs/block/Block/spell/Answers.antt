use Rattle.std.proofs.Common.{◌≡◌, ◌∙◌, ap, List, ℕ, arith, slice_index_or}
use Rattle.std.proofs.lemmas.Grind.{common_steps}
use Rattle.h5w_model.specs.Numbers.{undefined}
use Rattle.h5w_cache.specs.declared.block.Link.{Link}
use Rattle.h5w_cache.specs.Blocks.{patched, sealed_front}
use Rattle.h5w_cache.proofs.block.Block.spell.Goals as goal

pub returns-clause-spelled : goal.returns-clause-spelled
returns-clause-spelled c =
    let from : List Link → List ℕ → List ℕ = λ ls b. sealed_front c.self.inside.sealed (patched (λ n. slice_index_or c.args.places.now n undefined) ls b) in
    let e : c.spell.new.bytes ≡ from c.self.inside.links.items c.self.inside.bytes.items =
    c.spell.ensures ∙ ap (λ ls. from ls c.deref_mut.result.now) c.deref.ensures.value ∙ ap (from c.self.inside.links.items) c.deref_mut.ensures.value in
    rw (← c.self.view_is) (grind (arith, common_steps, e))
