-- Blocks that are written one before the other: all of them stand, and their ranges do not meet.
use Rattle.std.proofs.Common.{◌≡◌, ℕ, ◌+◌, ◌<◌, ◌≤◌, List, [], ◌∷◌, length, refl, ◌∙◌, subst, inl, inr, arith}
use Rattle.std.specs.Prelude.{map}
use Rattle.h5w_model.specs.Images.{apply, image, At, Holds}
use Rattle.h5w_model.specs.Findings.{Used}
use Rattle.h5w_model.proofs.ImageLemmas.{At-apply, At-apply_missed, length-apply}
use Rattle.h5w_step_laws.specs.Ranges.{Among, Disjoint}
use Rattle.h5w_creation_laws.specs.CreatedFiles.{block_write}

-- each block ends where the one that is written before it begins, or earlier; the first ends by a place
abbrev pub Below : ℕ → List (ℕ × List ℕ) → Type 0
Below limit [] = Unit {0}
Below limit (b ∷ bs) = (b.0 + length b.1 ≤ limit) × Below b.0 bs

abbrev pub written : List ℕ → List (ℕ × List ℕ) → List ℕ
written img bs = image img (map block_write bs)

-- what stands from the place on stays
pub stays_above : (img : List ℕ) (limit place : ℕ) (bytes : List ℕ) (bs : List (ℕ × List ℕ)) → Below limit bs → limit ≤ place → At img place bytes → At (written img bs) place bytes
stays_above img limit place bytes [] below high stands = stands
stays_above img limit place bytes (b ∷ bs) below high stands =
    let here = below.0 in
    stays_above (apply (block_write b) img) b.0 place bytes bs below.1 (omega arith) (At-apply_missed (block_write b) img place bytes (inl (omega arith)) stands)

pub all_stand : (img : List ℕ) (limit : ℕ) (bs : List (ℕ × List ℕ)) → Below limit bs → Holds (written img bs) bs
all_stand img limit [] below = tt
all_stand img limit (b ∷ bs) below = (
  stays_above (apply (block_write b) img) b.0 b.0 b.1 bs below.1 (omega arith) (At-apply (block_write b) img),
  all_stand (apply (block_write b) img) b.0 bs below.1,
)

-- and the image gets no longer
pub length_written : (img : List ℕ) (limit : ℕ) (bs : List (ℕ × List ℕ)) → Below limit bs → limit ≤ length img → length (written img bs) ≡ length img
length_written img limit [] below high = refl
length_written img limit (b ∷ bs) below high =
    let here = below.0 in
    let one : length (apply (block_write b) img) ≡ length img = length-apply (block_write b) img ∙ omega arith in
    length_written (apply (block_write b) img) b.0 bs below.1 (omega arith) ∙ one

-- the first block is the last of the image
pub length_from : (b : ℕ × List ℕ) (bs : List (ℕ × List ℕ)) → Below b.0 bs → length (written [] (b ∷ bs)) ≡ b.0 + length b.1
length_from b bs below =
    let one : length (apply (block_write b) []) ≡ b.0 + length b.1 = length-apply (block_write b) [] ∙ omega arith in
    length_written (apply (block_write b) []) b.0 bs below (omega arith) ∙ one

-- ---- Ranges

-- none is empty, and each begins where the one before it ends, or later
abbrev pub Stacked : ℕ → List Used → Type 0
Stacked from [] = Unit {0}
Stacked from (u ∷ us) = (from ≤ u.place) × (0 < u.len) × Stacked (u.place + u.len) us

stacked_from : (from : ℕ) (us : List Used) (v : Used) → Stacked from us → Among v us → from ≤ v.place
stacked_from from [] v h a = absurd a
stacked_from from (u ∷ us) v h (inl e) = subst (λ (x : Used). from ≤ x.place) e h.0
stacked_from from (u ∷ us) v h (inr a) = let later = stacked_from (u.place + u.len) us v h.2 a in let here = h.0 in omega arith

pub stacked_apart : (from : ℕ) (us : List Used) → Stacked from us → Disjoint us
stacked_apart from [] h = tt
stacked_apart from (u ∷ us) h = (h.1, (λ v a. inl (stacked_from (u.place + u.len) us v h.2 a)), stacked_apart (u.place + u.len) us h.2)
