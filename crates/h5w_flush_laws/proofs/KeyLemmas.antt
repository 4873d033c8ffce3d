-- The needed keys, and the table of their addresses by a map.
use Rattle.std.proofs.Common.{◌≡◌, ℕ, zero, suc, ◌+◌, ◌*◌, ◌<◌, List, [], ◌∷◌, length, get_or, Ok, refl, sym, ◌∙◌, ap, subst, inl, inr, arith}
use Rattle.std.specs.Prelude.{map}
use Rattle.std.specs.List.{AllByRecursion, range_with_len}
use Rattle.std.proofs.lemmas.Bool.{cases_lt}
use Rattle.std.proofs.lemmas.List.{get_or-map}
use Rattle.std.proofs.lemmas.List.FromFn.{get_or-map-range_with_len, length-map-range_with_len}
use Rattle.h5w_model.specs.Numbers.{undefined}
use Rattle.h5w_model.specs.Programs.{ret, eval, and_then}
use Rattle.h5w_model.specs.Datasets.{Described}
use Rattle.h5w_model.specs.Tables.{InPlace, address_behind, each_of, table_of, bands, chunks_across, index_key, keys_across, needed, needed_keys}
use Rattle.h5w_model.specs.Prefixed.{StaysDefined}
use Rattle.h5w_model.specs.declared.cell.Key.{Key}
use Rattle.h5w_chunks.proofs.KeyLemmas.{index_side, key_at}
use Rattle.h5w_laws.proofs.ResultLemmas.{and_then_from}
use Rattle.h5w_step_laws.specs.Indexes.{IsNamed}
use Rattle.h5w_step_laws.specs.Needed.{AreFew}
use Rattle.h5w_step_laws.proofs.NeededLaws.{needed_named, by_blocks, addresses_are, same_addresses}
use Rattle.h5w_flush_laws.specs.Knowledge.{IsAsked, AnswersBy, IsMap}

-- ---- By number

-- the address of a needed chunk in the table of its key
pub needed_at : (f : Key → ℕ) (d : Described) (n : ℕ) → n < needed d → get_or (map f (needed_keys d)) n undefined ≡ f (index_key d n)
needed_at f d n low =
    let long = length-map-range_with_len (index_key d) 0 (needed d) in
    get_or-map f (needed_keys d) n (key_at 0 0) undefined (omega (arith, long, low))
    ∙ ap f (get_or-map-range_with_len (index_key d) 0 (needed d) n n (key_at 0 0) low (let e : 0 + n ≡ n = omega arith in e))

-- ---- All needed keys are asked for

numbers_across : (d : Described) → 0 < chunks_across d → (from count : ℕ) → AllByRecursion (λ (k : Key). k.j < keys_across d) (map (index_key d) (range_with_len from count))
numbers_across d some from zero = tt
numbers_across d some from (suc count) = (index_side d from some, numbers_across d some (from + 1) count)

needed_across : (d : Described) → AllByRecursion (λ (k : Key). k.j < keys_across d) (needed_keys d)
needed_across d =
    elim (cases_lt 0 (chunks_across d)) [
      | inl some ↦ numbers_across d some 0 (needed d)
      | inr none ↦
          let zero_across : chunks_across d ≡ 0 = omega (arith, none) in
          let zero_needed : needed d ≡ 0 = ap (λ n. bands d * n) zero_across ∙ omega arith in
          subst (λ n. AllByRecursion (λ (k : Key). k.j < keys_across d) (map (index_key d) (range_with_len 0 n))) (sym zero_needed) tt
    ]

all_asked : (d : Described) (ks : List Key) → AllByRecursion (IsNamed d) ks → AllByRecursion (λ (k : Key). k.j < keys_across d) ks → AllByRecursion (IsAsked d) ks
all_asked d [] n c = tt
all_asked d (k ∷ ks) n c = (record { named = n.0; across = c.0 }, all_asked d ks n.1 c.1)

pub needed_asked : (d : Described) → AreFew d → AllByRecursion (IsAsked d) (needed_keys d)
needed_asked d few = all_asked d (needed_keys d) (needed_named d few) (needed_across d)

-- what is defined of all keys in a table stays in the other's
pub stay_defined : (d : Described) (f g : Key → ℕ) (ks : List Key) → AllByRecursion (IsAsked d) ks → ((key : Key) → IsAsked d key → StaysDefined (f key) (g key))
    → (k : ℕ) → k < length (map f ks) → StaysDefined (get_or (map f ks) k undefined) (get_or (map g ks) k undefined)
stay_defined d f g [] asked stays k low = absurd (omega (arith, low))
stay_defined d f g (key ∷ ks) asked stays zero low = stays key asked.0
stay_defined d f g (key ∷ ks) asked stays (suc k) low = stay_defined d f g ks asked.1 stays k (omega (arith, low))

-- ---- The table of a map

each_map : (img : List ℕ) (d : Described) (blocks : InPlace) (f : Key → ℕ) (ks : List Key) → AnswersBy img d blocks f → AllByRecursion (IsNamed d) ks → eval img (each_of (address_behind blocks) ks) ≡ addresses_are (map f ks)
each_map img d blocks f [] a n = refl
each_map img d blocks f (k ∷ ks) a n =
    let p = address_behind blocks in
    let rest = each_map img d blocks f ks a n.1 in
    and_then_from img (p k) (λ x. and_then (each_of p ks) (λ xs. ret (Ok (x ∷ xs)))) (f k) (f k ∷ map f ks) (a k n.0)
    (and_then_from img (each_of p ks) (λ xs. ret (Ok (f k ∷ xs))) (map f ks) (f k ∷ map f ks) rest refl)

pub table_behind : (img : List ℕ) (d : Described) (blocks : InPlace) (f : Key → ℕ) → AreFew d → AnswersBy img d blocks f → eval img (each_of (address_behind blocks) (needed_keys d)) ≡ Ok (map f (needed_keys d))
table_behind img d blocks f few a = each_map img d blocks f (needed_keys d) a (needed_named d few)

pub table_of_map : (img : List ℕ) (d : Described) (f : Key → ℕ) → AreFew d → IsMap img d f → eval img (table_of d (needed_keys d)) ≡ Ok (map f (needed_keys d))
table_of_map img d f few m = by_blocks img d m.blocks (needed_keys d) m.read ∙ table_behind img d m.blocks f few m.answers

-- so a table that is found is the map's
pub found_table : (img : List ℕ) (d : Described) (f : Key → ℕ) (table : List ℕ) → AreFew d → IsMap img d f → eval img (table_of d (needed_keys d)) ≡ Ok table → table ≡ map f (needed_keys d)
found_table img d f table few m h = same_addresses table (map f (needed_keys d)) (sym h ∙ table_of_map img d f few m)
