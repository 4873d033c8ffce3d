-- A check behind the index block finds the ranges of an array that stands on an image.
use Rattle.std.proofs.Common.{◌≡◌, ◌⊎◌, ℕ, zero, suc, ◌+◌, ◌/◌, ◌<◌, ◌≤◌, cond, List, [], ◌∷◌, ◌++◌, length, take, drop, Ok, refl, sym, ap, ◌∙◌, subst, inl, inr, arith, append-nil}
use Rattle.std.specs.Prelude.{Some, None, IsSome, map, flat_map}
use Rattle.std.specs.List.{AllByRecursion, range_with_len}
use Rattle.std.proofs.Math.Pow.{pow_mono}
use Rattle.std.proofs.lemmas.Grind.{flat_map-append}
use Rattle.std.proofs.lemmas.List.{take_at, drop_at, length-map}
use Rattle.std.proofs.lemmas.List.FromFn.{length-range_with_len}
use Rattle.std.proofs.lemmas.Bool.{le-ltb}
use Rattle.h5w_model.specs.Programs.{ret, eval}
use Rattle.h5w_model.specs.Arrays.{super_block_of, slots_len, numbers_in, eaib_fields}
use Rattle.h5w_model.specs.Tables.{in_array}
use Rattle.h5w_model.specs.Findings.{Used, both, chunk_ranges, first_visits, second_visits, data_block_visit, secondary_block_visit, visit_each}
use Rattle.h5w_model.proofs.ArrayLemmas.{length-numbers_in}
use Rattle.h5w_cache.specs.Blocks.{BlockView}
use Rattle.h5w_cache.specs.Stores.{Store}
use Rattle.h5w_step_laws.specs.Ranges.{AllEndBy}
use Rattle.h5w_step_laws.specs.Indexes.{behind_visit}
use Rattle.h5w_step_laws.proofs.RangeLemmas.{ends_left, ends_right}
use Rattle.h5w_array_laws.specs.Parts.{Part, data_of, secondary_of, index_block, children, parent, first_parts, second_parts, data_blocks_of, visit_order}
use Rattle.h5w_array_laws.specs.ArrayStores.{IsArray, block_at_part, place_at_part, chunks_in, slots_in, ranges_of, behind_of, blocks_in_place}
use Rattle.h5w_array_laws.specs.ArrayImages.{BehindStands}
use Rattle.h5w_array_laws.proofs.VisitLemmas.{with_behind, both_from, each_found, chunks_found, data_found, secondary_found}
use Rattle.h5w_array_laws.proofs.KeptLemmas.{IsKept, KeptOrNone, kept_in_place, kept_bytes, unchanged, none_is, some_is, some_or_none}
use Rattle.h5w_array_laws.proofs.ReadLemmas.{numbers_in-parts, flat_map-flat_map, flat_map-none, ends_each, all_data, all_both, FirstsFound, firsts_found, SecondsFound, seconds_found, ranges_none, data_ranges, secondary_ranges, fate, data_there, secondary_there}

pub few_blocks : (s : ℕ) → s ≤ 12 → (super_block_of s).blocks ≤ 64
few_blocks s h = let half : s / 2 ≤ 6 = omega arith in pow_mono half

-- a block and those that it names
abbrev pub group : Part → List Part
group k = k ∷ children k

abbrev pub group_ranges : ℕ → Store → Part → List Used
group_ranges bytes v k = flat_map (ranges_of bytes v) (group k)

-- the ranges behind, block by block that the index block names
pub behind_groups : (bytes : ℕ) (v : Store) → flat_map (ranges_of bytes v) visit_order ≡ flat_map (group_ranges bytes v) first_parts ++ flat_map (group_ranges bytes v) second_parts
unfolding visit_order
behind_groups bytes v =
    flat_map-flat_map (ranges_of bytes v) (λ k. k ∷ children k) (first_parts ++ second_parts)
    ∙ flat_map-append (group_ranges bytes v) first_parts second_parts

-- a data block under a secondary block that is nowhere is nowhere
pub none_under : (v : Store) → IsArray v → (s n : ℕ) → 4 ≤ s → s ≤ 12 → n < (super_block_of s).blocks → block_at_part v (secondary_of s) ≡ None → block_at_part v (data_of s n) ≡ None
none_under v a s n far low inside none = go (some_or_none (block_at_part v (data_of s n)))
  where
    go : (block_at_part v (data_of s n) ≡ None) ⊎ ((x : BlockView) × (block_at_part v (data_of s n) ≡ Some x)) → block_at_part v (data_of s n) ≡ None
    go (inl e) = e
    go (inr t) =
        let named : parent (data_of s n) ≡ secondary_of s = ap (λ c. cond c index_block (secondary_of s)) (le-ltb s 4 far) in
        absurd (none_is (block_at_part v (secondary_of s)) none
        (subst (λ (k : Part). IsSome (block_at_part v k)) named (a.held (data_of s n) (low, inside) (some_is (block_at_part v (data_of s n)) t.0 t.1))))

module _ (v : Store) (img : List ℕ) (a : IsArray v) (clean : v.changed ≡ []) (stands : BehindStands v img) (end bytes : ℕ) where
  pub data_visited : (s n : ℕ) → s ≤ 12 → n < (super_block_of s).blocks → AllEndBy end (ranges_of bytes v (data_of s n))
      → eval img (data_block_visit end bytes (super_block_of s).slots (place_at_part v (data_of s n))) ≡ Ok (ranges_of bytes v (data_of s n))
  data_visited s n low inside ends = go (fate v img a clean stands (data_of s n) (low, inside))
    where
      go : KeptOrNone v (data_of s n) → eval img (data_block_visit end bytes (super_block_of s).slots (place_at_part v (data_of s n))) ≡ Ok (ranges_of bytes v (data_of s n))
      go (inl t) = ap (λ p. eval img (data_block_visit end bytes (super_block_of s).slots p)) t.1 ∙ ap Ok (sym (ranges_none bytes v (data_of s n) t.0 t.1))
      go (inr t) =
          let are = data_ranges bytes v s n t.0 t.1 in
          data_found img end bytes (super_block_of s).slots (place_at_part v (data_of s n)) t.0.bytes
          (λ placed. data_there v img a clean stands s n t.0 low (omega (arith, inside, few_blocks s low)) t.1)
          (subst (λ (us : List Used). AllEndBy end us) are ends)
          ∙ ap Ok (sym are)

  pub group_data : (s n : ℕ) → s ≤ 12 → n < (super_block_of s).blocks → AllEndBy end (group_ranges bytes v (data_of s n))
      → eval img (data_block_visit end bytes (super_block_of s).slots (place_at_part v (data_of s n))) ≡ Ok (group_ranges bytes v (data_of s n))
  group_data s n low inside ends =
      data_visited s n low inside (ends_left end (ranges_of bytes v (data_of s n)) [] ends) ∙ ap Ok (sym (append-nil (ranges_of bytes v (data_of s n))))

  pub secondary_visited : (s : ℕ) → 4 ≤ s → s ≤ 12 → AllEndBy end (group_ranges bytes v (secondary_of s))
      → eval img (secondary_block_visit end bytes s (place_at_part v (secondary_of s))) ≡ Ok (group_ranges bytes v (secondary_of s))
  secondary_visited s far low ends = go (fate v img a clean stands (secondary_of s) (far, low))
    where
      blocks : List Part
      blocks = data_blocks_of s

      behind : List Used
      behind = flat_map (ranges_of bytes v) (data_blocks_of s)

      none : block_at_part v (secondary_of s) ≡ None → flat_map (ranges_of bytes v) (data_blocks_of s) ≡ []
      none e = flat_map-none (ranges_of bytes v) (data_blocks_of s) (all_data (λ k. ranges_of bytes v k ≡ []) s (λ n inside.
          let gone = none_under v a s n far low inside e in
          ranges_none bytes v (data_of s n) gone (a.unplaced (data_of s n) (low, inside) gone)))

      count : length (data_blocks_of s) ≡ (super_block_of s).blocks
      count = length-map (range_with_len 0 (super_block_of s).blocks) (data_of s) ∙ length-range_with_len 0 (super_block_of s).blocks

      each : AllEndBy end (flat_map (ranges_of bytes v) (data_blocks_of s)) → AllByRecursion (λ k. eval img (data_block_visit end bytes (super_block_of s).slots (place_at_part v k)) ≡ Ok (ranges_of bytes v k)) (data_blocks_of s)
      each e = all_both (λ k. AllEndBy end (ranges_of bytes v k) → eval img (data_block_visit end bytes (super_block_of s).slots (place_at_part v k)) ≡ Ok (ranges_of bytes v k))
          (λ k. AllEndBy end (ranges_of bytes v k)) (λ k. eval img (data_block_visit end bytes (super_block_of s).slots (place_at_part v k)) ≡ Ok (ranges_of bytes v k)) (data_blocks_of s) (λ k f x. f x)
          (all_data (λ k. AllEndBy end (ranges_of bytes v k) → eval img (data_block_visit end bytes (super_block_of s).slots (place_at_part v k)) ≡ Ok (ranges_of bytes v k)) s (λ n inside. data_visited s n low inside))
          (ends_each end (ranges_of bytes v) (data_blocks_of s) e)

      go : KeptOrNone v (secondary_of s) → eval img (secondary_block_visit end bytes s (place_at_part v (secondary_of s))) ≡ Ok (group_ranges bytes v (secondary_of s))
      go (inl t) =
          let gone : group_ranges bytes v (secondary_of s) ≡ [] = ap (λ us. us ++ behind) (ranges_none bytes v (secondary_of s) t.0 t.1) ∙ none t.0 in
          ap (λ p. eval img (secondary_block_visit end bytes s p)) t.1 ∙ ap Ok (sym gone)
      go (inr t) =
          let are : group_ranges bytes v (secondary_of s) ≡ with_behind (place_at_part v (secondary_of s)) (slots_len (super_block_of s).blocks) behind = secondary_ranges bytes v s t.0 behind t.1 in
          let names : numbers_in t.0.bytes (super_block_of s).blocks 18 ≡ map (place_at_part v) blocks = ap (λ n. numbers_in t.0.bytes n 18) (sym count) ∙ t.1.names in
          let found : eval img (visit_each (data_block_visit end bytes (super_block_of s).slots) (numbers_in t.0.bytes (super_block_of s).blocks 18)) ≡ Ok behind =
          ap (λ l. eval img (visit_each (data_block_visit end bytes (super_block_of s).slots) l)) names
          ∙ each_found img (data_block_visit end bytes (super_block_of s).slots) (place_at_part v) (ranges_of bytes v) blocks (each (ends_right end (ranges_of bytes v (secondary_of s)) behind ends)) in
          secondary_found img end bytes s (place_at_part v (secondary_of s)) t.0.bytes behind
          (λ placed. secondary_there v img a clean stands s t.0 low t.1)
          (λ placed. found)
          (subst (λ (us : List Used). AllEndBy end us) are ends)
          ∙ ap Ok (sym are)

  pub firsts_visited : AllEndBy end (flat_map (group_ranges bytes v) first_parts) → FirstsFound img end bytes (place_at_part v) (group_ranges bytes v) 0 first_parts
  firsts_visited h =
      let e = ends_each end (group_ranges bytes v) first_parts h in (
        group_data 0 0 (omega arith) (omega arith) e.0,
        (
          group_data 1 0 (omega arith) (omega arith) e.1.0,
          (
            group_data 2 0 (omega arith) (omega arith) e.1.1.0,
            (
              group_data 2 1 (omega arith) (omega arith) e.1.1.1.0,
              (group_data 3 0 (omega arith) (omega arith) e.1.1.1.1.0, (group_data 3 1 (omega arith) (omega arith) e.1.1.1.1.1.0, tt)),
            ),
          ),
        ),
      )

  -- the secondary blocks from one on
  pub seconds_from : (s n : ℕ) → 4 ≤ s → s + n ≡ 13 → AllEndBy end (flat_map (group_ranges bytes v) (map secondary_of (range_with_len s n)))
      → SecondsFound img end bytes (place_at_part v) (group_ranges bytes v) s (map secondary_of (range_with_len s n))
  seconds_from s zero far last h = tt
  seconds_from s (suc n) far last h =
      let rest : List Used = flat_map (group_ranges bytes v) (map secondary_of (range_with_len (s + 1) n)) in (
        secondary_visited s far (omega arith) (ends_left end (group_ranges bytes v (secondary_of s)) rest h),
        seconds_from (s + 1) n (omega arith) (omega arith) (ends_right end (group_ranges bytes v (secondary_of s)) rest h),
      )

-- the addresses in the index block
pub record IndexNames (v : Store) (b : List ℕ) : Type 0 where
  pub first : numbers_in b 6 46 ≡ map (place_at_part v) first_parts
  pub second : numbers_in b 25 94 ≡ map (place_at_part v) second_parts ++ numbers_in b 16 166

pub index_names : (v : Store) → IsArray v → (b : BlockView) → IsKept v index_block b → IndexNames v b.bytes
index_names v a b h =
    let bytes : List ℕ = b.bytes in
    let both : numbers_in b.bytes 6 46 ++ numbers_in b.bytes 9 94 ≡ map (place_at_part v) first_parts ++ map (place_at_part v) second_parts = sym (numbers_in-parts b.bytes 6 9 46) ∙ h.names in
    let len : length (numbers_in b.bytes 6 46) ≡ 6 = length-numbers_in b.bytes 6 46 in
    record {
      first = sym (take_at (numbers_in b.bytes 6 46) (numbers_in b.bytes 9 94) 6 len) ∙ ap (take 6) both;
      second =
          numbers_in-parts b.bytes 9 16 94
          ∙ ap (λ l. l ++ numbers_in b.bytes 16 166) (sym (drop_at (numbers_in b.bytes 6 46) (numbers_in b.bytes 9 94) 6 len) ∙ ap (drop 6) both);
    }

pub visited : (v : Store) (img : List ℕ) → IsArray v → v.changed ≡ [] → BehindStands v img → (end bytes : ℕ) → AllEndBy end (behind_of bytes v)
    → eval img (behind_visit end bytes (blocks_in_place v)) ≡ Ok (behind_of bytes v)
visited v img a clean stands end bytes ends =
    let t = kept_in_place v a index_block tt refl (unchanged v clean 845) in
    let names = index_names v a t.0 t.1 in
    let own : List Used = chunks_in bytes (numbers_in t.0.bytes 4 14) in
    let first : List Used = flat_map (group_ranges bytes v) first_parts in
    let second : List Used = flat_map (group_ranges bytes v) second_parts in
    let are : behind_of bytes v ≡ own ++ (first ++ second) = ap (λ o. chunks_in bytes (slots_in o index_block) ++ flat_map (ranges_of bytes v) visit_order) t.1.kept ∙ ap (λ us. own ++ us) (behind_groups bytes v) in
    let all : AllEndBy end (own ++ (first ++ second)) = subst (λ (us : List Used). AllEndBy end us) are ends in
    let behind : AllEndBy end (first ++ second) = ends_right end own (first ++ second) all in
    ap (λ b. eval img (behind_visit end bytes (in_array (eaib_fields b)))) (kept_bytes v index_block t.0 t.1)
    ∙ both_from img (ret (chunk_ranges end bytes (numbers_in t.0.bytes 4 14))) (both (first_visits end bytes 0 (numbers_in t.0.bytes 6 46)) (second_visits end bytes 4 (numbers_in t.0.bytes 25 94))) own (first ++ second)
    (chunks_found end bytes (numbers_in t.0.bytes 4 14) (ends_left end own (first ++ second) all))
    (both_from img (first_visits end bytes 0 (numbers_in t.0.bytes 6 46)) (second_visits end bytes 4 (numbers_in t.0.bytes 25 94)) first second
    (ap (λ l. eval img (first_visits end bytes 0 l)) names.first
    ∙ firsts_found img end bytes (place_at_part v) (group_ranges bytes v) 0 first_parts (firsts_visited v img a clean stands end bytes (ends_left end first second behind)))
    (ap (λ l. eval img (second_visits end bytes 4 l)) names.second
    ∙ seconds_found img end bytes (place_at_part v) (group_ranges bytes v) 4 second_parts (numbers_in t.0.bytes 16 166) refl (seconds_from v img a clean stands end bytes 4 9 (omega arith) (omega arith) (ends_right end first second behind))))
    ∙ ap Ok (sym are)
