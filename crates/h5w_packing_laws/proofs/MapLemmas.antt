-- The map and the chunks' ranges of an index whose chunks are those of a table.
use Rattle.std.proofs.Common.{◌≡◌, ◌≢◌, ◌⊎◌, ℕ, zero, suc, ◌+◌, ◌*◌, ◌/◌, ◌<◌, true, false, List, [], ◌∷◌, get_or, length, refl, sym, ◌∙◌, ap, subst, inl, inr, arith}
use Rattle.std.specs.Prelude.{◌==◌, map, if◌then◌else◌}
use Rattle.std.specs.List.{range_with_len}
use Rattle.std.proofs.Math.Nat.{zero-div}
use Rattle.std.proofs.lemmas.Bool.{cond-false, cond-true, eq-eqb, ne_eqb}
use Rattle.std.proofs.lemmas.Bool.Decides.{eqb_tells}
use Rattle.std.proofs.lemmas.List.{get_or_past}
use Rattle.h5w_model.specs.Numbers.{undefined}
use Rattle.h5w_model.specs.Datasets.{Described}
use Rattle.h5w_model.specs.Tables.{chunks_across, index_key}
use Rattle.h5w_model.specs.Findings.{Used}
use Rattle.h5w_model.specs.declared.cell.Key.{Key}
use Rattle.h5w_step_laws.specs.Ranges.{Among, chunk_at}
use Rattle.h5w_chunks.specs.Shares.{touched_key}
use Rattle.h5w_array_laws.specs.ArrayStores.{chunks_in}
use Rattle.h5w_array_laws.proofs.AmongLemmas.{chunks_some, chunks_undefined}
use Rattle.h5w_index.specs.Views.{IndexView, is_key}
use Rattle.h5w_index.specs.Placing.{Fits}
use Rattle.h5w_index.proofs.PartlyLemmas.{apart_keys, own_key}
use Rattle.h5w_packing_laws.specs.Growing.{named_from}
use Rattle.h5w_packing_laws.proofs.GrownLemmas.{address_after, chunks_of}

pub chunk_there : (d : Described) (n a : ℕ) (rest : List ℕ) → a ≢ undefined → named_from d n (a ∷ rest) ≡ (index_key d n, a) ∷ named_from d (n + 1) rest
chunk_there d n a rest there = cond-false (a == undefined) _ _ (ne_eqb a undefined there)

pub chunk_absent : (d : Described) (n a : ℕ) (rest : List ℕ) → a ≡ undefined → named_from d n (a ∷ rest) ≡ named_from d (n + 1) rest
chunk_absent d n a rest e = cond-true (a == undefined) _ _ (eq-eqb a undefined e)

-- whether an address is there
abbrev pub Tells : ℕ → Type 0
Tells a = (((a == undefined) ≡ true) × (a ≡ undefined)) ⊎ (((a == undefined) ≡ false) × (a ≢ undefined))

-- ---- Ranges

pub chunks_same : (bytes : ℕ) (d : Described) (n : ℕ) (table : List ℕ) → chunks_of bytes (named_from d n table) ≡ chunks_in bytes table
chunks_same bytes d n [] = refl
chunks_same bytes d n (a ∷ rest) = go (eqb_tells a undefined) (chunks_same bytes d (n + 1) rest)
  where
    go : Tells a → chunks_of bytes (named_from d (n + 1) rest) ≡ chunks_in bytes rest → chunks_of bytes (named_from d n (a ∷ rest)) ≡ chunks_in bytes (a ∷ rest)
    go (inl e) later = ap (chunks_of bytes) (chunk_absent d n a rest e.1) ∙ later ∙ sym (chunks_undefined bytes a rest e.1)
    go (inr e) later = ap (chunks_of bytes) (chunk_there d n a rest e.1) ∙ ap (λ (us : List Used). chunk_at a bytes ∷ us) later ∙ sym (chunks_some bytes a rest e.1)

-- what holds of each chunk that is there holds of these ranges
pub chunks_each : (P : Used → Type 0) (bytes : ℕ) (table : List ℕ) → ((n : ℕ) → get_or table n undefined ≢ undefined → P (chunk_at (get_or table n undefined) bytes)) → (u : Used) → Among u (chunks_in bytes table) → P u
chunks_each P bytes [] each u a = absurd a
chunks_each P bytes (x ∷ rest) each u a = go (eqb_tells x undefined) (chunks_each P bytes rest (λ n. each (suc n)) u)
  where
    one : x ≢ undefined → (Among u (chunks_in bytes rest) → P u) → (chunk_at x bytes ≡ u) ⊎ Among u (chunks_in bytes rest) → P u
    one there later (inl e) = subst P e (each 0 there)
    one there later (inr b) = later b

    go : Tells x → (Among u (chunks_in bytes rest) → P u) → P u
    go (inl e) later = later (subst (λ (us : List Used). Among u us) (chunks_undefined bytes x rest e.1) a)
    go (inr e) later = one e.1 later (subst (λ (us : List Used). Among u us) (chunks_some bytes x rest e.1) a)

-- ---- The map

-- where no two numbers have one key
module _ (u : IndexView) (d : Described) (differ : (j k : ℕ) → j ≢ k → is_key u (index_key d j) (index_key d k) ≡ false) where
  -- chunks of higher numbers leave an address
  higher : (table : List ℕ) (from n old : ℕ) → n < from → address_after u (named_from d from table) (index_key d n) old ≡ old
  higher [] from n old low = refl
  higher (a ∷ rest) from n old low = go (eqb_tells a undefined) (λ x. higher rest (from + 1) n x (omega (arith, low)))
    where
      other : from ≢ n
      other e = absurd (omega (arith, low, e))

      go : Tells a → ((x : ℕ) → address_after u (named_from d (from + 1) rest) (index_key d n) x ≡ x) → address_after u (named_from d from (a ∷ rest)) (index_key d n) old ≡ old
      go (inl e) later = ap (λ (l : List (Key × ℕ)). address_after u l (index_key d n) old) (chunk_absent d from a rest e.1) ∙ later old
      go (inr e) later =
          ap (λ (l : List (Key × ℕ)). address_after u l (index_key d n) old) (chunk_there d from a rest e.1)
          ∙ later (if is_key u (index_key d from) (index_key d n) then a else old)
          ∙ cond-false (is_key u (index_key d from) (index_key d n)) a old (differ from n other)

  -- the first one's
  first : (a : ℕ) (rest : List ℕ) (from : ℕ) → address_after u (named_from d from (a ∷ rest)) (index_key d from) undefined ≡ a
  first a rest from = go (eqb_tells a undefined)
    where
      later : (x : ℕ) → address_after u (named_from d (from + 1) rest) (index_key d from) x ≡ x
      later x = higher rest (from + 1) from x (omega arith)

      go : Tells a → address_after u (named_from d from (a ∷ rest)) (index_key d from) undefined ≡ a
      go (inl e) = ap (λ (l : List (Key × ℕ)). address_after u l (index_key d from) undefined) (chunk_absent d from a rest e.1) ∙ later undefined ∙ sym e.1
      go (inr e) =
          ap (λ (l : List (Key × ℕ)). address_after u l (index_key d from) undefined) (chunk_there d from a rest e.1)
          ∙ later (if is_key u (index_key d from) (index_key d from) then a else undefined)
          ∙ cond-true (is_key u (index_key d from) (index_key d from)) a undefined (own_key u (index_key d from))

  -- each has its own
  pub mapped : (table : List ℕ) (from k : ℕ) → address_after u (named_from d from table) (index_key d (from + k)) undefined ≡ get_or table k undefined
  mapped [] from k = sym (get_or_past [] k undefined (omega arith))
  mapped (a ∷ rest) from zero = let e : from + 0 ≡ from = omega arith in ap (λ n. address_after u (named_from d from (a ∷ rest)) (index_key d n) undefined) e ∙ first a rest from
  mapped (a ∷ rest) from (suc k) = go (eqb_tells a undefined) (mapped rest (from + 1) k)
    where
      n : ℕ
      n = from + suc k

      other : from ≢ from + suc k
      other e = absurd (omega (arith, e))

      next : from + 1 + k ≡ from + suc k
      next = omega arith

      go : Tells a → address_after u (named_from d (from + 1) rest) (index_key d (from + 1 + k)) undefined ≡ get_or rest k undefined → address_after u (named_from d from (a ∷ rest)) (index_key d (from + suc k)) undefined ≡ get_or rest k undefined
      go (inl e) later =
          ap (λ (l : List (Key × ℕ)). address_after u l (index_key d (from + suc k)) undefined) (chunk_absent d from a rest e.1)
          ∙ ap (λ i. address_after u (named_from d (from + 1) rest) (index_key d i) undefined) (sym next) ∙ later
      go (inr e) later =
          ap (λ (l : List (Key × ℕ)). address_after u l (index_key d (from + suc k)) undefined) (chunk_there d from a rest e.1)
          ∙ ap (address_after u (named_from d (from + 1) rest) (index_key d (from + suc k))) (cond-false (is_key u (index_key d from) (index_key d (from + suc k))) a undefined (differ from (from + suc k) other))
          ∙ ap (λ i. address_after u (named_from d (from + 1) rest) (index_key d i) undefined) (sym next) ∙ later

-- the keys of two chunks are not one to an index of the dataset's kind
pub keys_differ : (d : Described) (u : IndexView) → Fits d u → (j k : ℕ) → j ≢ k → is_key u (index_key d j) (index_key d k) ≡ false
keys_differ d u fits j k ne =
    let same : (n : ℕ) → touched_key d 0 n ≡ index_key d n = λ n. ap (index_key d) (zero_first n) in
    ap (λ (x : Key). is_key u x (index_key d k)) (sym (same j)) ∙ ap (is_key u (touched_key d 0 j)) (sym (same k)) ∙ apart_keys d u 0 j k fits ne
  where
    zero_first : (n : ℕ) → 0 / d.layout.chunk_rows * chunks_across d + n ≡ n
    zero_first n = ap (λ x. x * chunks_across d + n) (zero-div d.layout.chunk_rows) ∙ omega arith

-- ---- A table by its elements

pub listed_is : (f : ℕ → ℕ) (table : List ℕ) (from : ℕ) → ((k : ℕ) → k < length table → f (from + k) ≡ get_or table k undefined) → map f (range_with_len from (length table)) ≡ table
listed_is f [] from each = refl
listed_is f (a ∷ rest) from each =
    let e : from + 0 ≡ from = omega arith in
    let first : f from ≡ a = ap f (sym e) ∙ each 0 (omega arith) in
    let later : map f (range_with_len (from + 1) (length rest)) ≡ rest = listed_is f rest (from + 1) (λ k low. ap f (let n : from + 1 + k ≡ from + suc k = omega arith in n) ∙ each (suc k) (omega (arith, low))) in
    ap (λ (x : ℕ). x ∷ map f (range_with_len (from + 1) (length rest))) first ∙ ap (λ (l : List ℕ). a ∷ l) later
