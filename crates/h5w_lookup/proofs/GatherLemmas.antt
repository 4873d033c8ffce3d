-- A look at a block that is gathered, with what follows the block.
use Rattle.std.proofs.Common.{◌≡◌, ℕ, ◌≤◌, List, refl, sym, ◌∙◌, ap, subst, min}
use Rattle.h5w_model.specs.Programs.{Prog, ret, bind, fed, next_look}
use Rattle.h5w_lookup.specs.Looks.{IsWithinLook}
use Rattle.h5w_lookup.specs.Gathering.{gathering}
use Rattle.h5w_lookup.specs.declared.gather.Gather.{Gather}
use Rattle.h5w_lookup.proofs.PieceLemmas.{fed_gather, wants_gather}

-- what goes on with a gathered block's pieces
pub fed_more : {A : Type 0} (g n : Gather) (b : List ℕ) (f : List ℕ → Prog A) → gathering n ≡ fed b (gathering g) → bind (gathering n) f ≡ fed b (bind (gathering g) f)
fed_more g n b f e = ap (λ p. bind p f) e ∙ sym (fed_gather g.place g.rest g.got.items b f g.more)

pub fed_whole : {A : Type 0} (g : Gather) (bytes b : List ℕ) (f : List ℕ → Prog A) → ret bytes ≡ fed b (gathering g) → f bytes ≡ fed b (bind (gathering g) f)
fed_whole g bytes b f e = ap (λ p. bind p f) e ∙ sym (fed_gather g.place g.rest g.got.items b f g.more)

-- what a look asks for is what is left of its block
pub fits_gather : {A : Type 0} (g : Gather) (f : List ℕ → Prog A) (n : ℕ) → IsWithinLook (next_look (bind (gathering g) f)) n → n ≤ min 512 g.rest
fits_gather g f n h = subst (λ l. IsWithinLook l n) (wants_gather g.place g.rest (min 512 g.rest) g.got.items f g.more refl) h
