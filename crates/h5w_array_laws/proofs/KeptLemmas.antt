-- What is known of each block of an array: whether it is kept, and how it is spelled.
use Rattle.std.proofs.Common.{◌≡◌, ◌⊎◌, ℕ, true, false, List, [], ◌++◌, length, take, refl, sym, ap, ◌∙◌, subst, inl, inr, arith, length-append}
use Rattle.std.specs.Prelude.{Option, Some, None, IsSome, IfSome, is_some}
use Rattle.std.proofs.lemmas.List.{take-take, take_at}
use Rattle.h5w_model.specs.Numbers.{undefined}
use Rattle.h5w_model.specs.Arrays.{super_block_of, slots_len, eahd_len, eaib_len}
use Rattle.h5w_model.specs.Images.{At}
use Rattle.h5w_cache.specs.Blocks.{BlockView}
use Rattle.h5w_cache.specs.Stores.{Store, is_changed, is_listed}
use Rattle.h5w_cache.specs.Plans.{bytes_of}
use Rattle.h5w_cache.specs.StoreLaws.{IsPlaced}
use Rattle.h5w_array_laws.specs.Parts.{Part, data_of, secondary_of, index_block, header, IsPart, number_of, length_of, sign_of, stays_in_place}
use Rattle.h5w_array_laws.specs.ArrayStores.{IsArray, IsBlock, IsWhole, Names, block_at_part, place_at_part, bytes_at_part}
use Rattle.h5w_array_laws.proofs.BlockLemmas.{IsSealed, data_head, secondary_head, index_head, header_head}
use Rattle.h5w_array_laws.proofs.VisitLemmas.{IsThere}

-- ---- A block that may be kept

pub some_or_none : {A : Type 0} (o : Option A) → (o ≡ None) ⊎ ((x : A) × (o ≡ Some x))
some_or_none None = inl refl
some_or_none (Some x) = inr (x, refl)

pub of_some : {A : Type 0} (P : A → Type 0) (o : Option A) (x : A) → o ≡ Some x → IfSome o P → P x
of_some P o x e h = subst (λ q. IfSome q P) e h

pub some_is : {A : Type 0} (o : Option A) (x : A) → o ≡ Some x → IsSome o
some_is o x e = subst (λ q. IsSome q) (sym e) refl

pub none_is : {A : Type 0} (o : Option A) → o ≡ None → IsSome o → ⊥
none_is {A} o e h = absurd (let f : false ≡ true = sym (ap is_some e) ∙ h in cc)

pub is_some_of : {A : Type 0} (o : Option A) → IsSome o → (x : A) × (o ≡ Some x)
is_some_of None h = absurd cc
is_some_of (Some x) h = (x, refl)

-- a block of an array that is kept, and did not change since it was written
pub record IsKept (v : Store) (k : Part) (b : BlockView) : Type 0 where
  pub kept : block_at_part v k ≡ Some b
  pub block : IsBlock k b
  pub names : Names v k b
  pub whole : IsWhole v k b

-- where nothing changed
pub unchanged : (v : Store) → v.changed ≡ [] → (n : ℕ) → is_changed v n ≡ false
unchanged v e n = ap (λ l. is_listed n l) e

pub kept_as : (v : Store) → IsArray v → (k : Part) → IsPart k → is_changed v (number_of k) ≡ false → (b : BlockView) → block_at_part v k ≡ Some b → IsKept v k b
kept_as v a k is clean b e = record {
  kept = e;
  block = of_some (IsBlock k) (block_at_part v k) b e (a.each k is);
  names = of_some (Names v k) (block_at_part v k) b e (a.names k is);
  whole = of_some (IsWhole v k) (block_at_part v k) b e (a.whole k is clean);
}

-- it is kept, or is nowhere
abbrev pub KeptOrNone : Store → Part → Type 0
KeptOrNone v k = ((block_at_part v k ≡ None) × (place_at_part v k ≡ undefined)) ⊎ ((b : BlockView) × IsKept v k b)

pub kept_or_none : (v : Store) → IsArray v → (k : Part) → IsPart k → is_changed v (number_of k) ≡ false → KeptOrNone v k
kept_or_none v a k is clean = elim (some_or_none (block_at_part v k)) as (λ _. KeptOrNone v k) [
  | inl e ↦ inl (e, a.unplaced k is e)
  | inr t ↦ inr (t.0, kept_as v a k is clean t.0 t.1)
]

-- the blocks in place are kept
pub kept_in_place : (v : Store) → IsArray v → (k : Part) → IsPart k → stays_in_place k ≡ true → is_changed v (number_of k) ≡ false → (b : BlockView) × IsKept v k b
kept_in_place v a k is stays clean =
    let t = is_some_of (block_at_part v k) (a.in_place k is stays).0 in
    (t.0, kept_as v a k is clean t.0 t.1)

pub kept_placed : (v : Store) (k : Part) (b : BlockView) → IsKept v k b → IsPlaced v (number_of k)
kept_placed v k b h = record { kept = some_is (block_at_part v k) b h.kept; placed = h.whole.placed }

pub kept_bytes : (v : Store) (k : Part) (b : BlockView) → IsKept v k b → bytes_at_part v k ≡ b.bytes
kept_bytes v k b h = ap bytes_of h.kept

-- ---- How it is spelled

-- the first bytes of a block by more of them
pub begins_shorter : (front rest b : List ℕ) → take (length (front ++ rest)) b ≡ front ++ rest → take (length front) b ≡ front
begins_shorter front rest b h =
    sym (take-take (length front) (length (front ++ rest)) b (omega (arith, length-append front rest)))
    ∙ ap (take (length front)) h
    ∙ take_at front rest (length front) refl

pub sealed_as : (v : Store) (k : Part) (b : BlockView) → IsKept v k b → IsSealed (sign_of k) (length_of k) b.bytes
sealed_as v k b h = record { long = h.block.len; begins = h.block.signed; sealed = h.whole.sealed }

pub data_sealed : (v : Store) (s n : ℕ) (b : BlockView) → IsKept v (data_of s n) b → IsSealed data_head (slots_len (super_block_of s).slots) b.bytes
data_sealed v s n b h = sealed_as v (data_of s n) b h

pub secondary_sealed : (v : Store) (s : ℕ) (b : BlockView) → IsKept v (secondary_of s) b → IsSealed secondary_head (slots_len (super_block_of s).blocks) b.bytes
secondary_sealed v s b h = sealed_as v (secondary_of s) b h

pub index_sealed : (v : Store) (b : BlockView) → IsKept v index_block b → IsSealed index_head eaib_len b.bytes
index_sealed v b h = sealed_as v index_block b h

pub header_sealed : (v : Store) (b : BlockView) → IsKept v header b → IsSealed header_head eahd_len b.bytes
header_sealed v b h = sealed_as v header b h

-- it stands on the image
pub kept_there : (v : Store) (img : List ℕ) (k : Part) (b : BlockView) (front : List ℕ) (len : ℕ) → IsKept v k b → IsSealed front len b.bytes → At img (place_at_part v k) (bytes_at_part v k)
    → IsThere img front len (place_at_part v k) b.bytes
kept_there v img k b front len h s at = record { spelled = s; there = subst (λ x. At img (place_at_part v k) x) (kept_bytes v k b h) at }
