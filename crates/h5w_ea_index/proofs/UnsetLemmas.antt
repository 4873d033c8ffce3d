-- What an address that is taken back comes to.
use Rattle.std.proofs.Common.{◌≡◌, ◌≢◌, inl, inr, ◌⊎◌, ℕ, ◌+◌, ◌-◌, ◌<◌, ◌≤◌, List, [], ◌∷◌, get_or, false, sym, ap, subst, ◌∙◌, arith, eq-eqb, ne_eqb}
use Rattle.std.proofs.lemmas.Bool.{cases_eq, cases_lt}
use Rattle.std.proofs.lemmas.Bool.Decides.{nat_tests}
use Rattle.std.specs.Prelude.{is_some, cond, nat_lt}
use Rattle.h5w_model.specs.Numbers.{undefined}
use Rattle.h5w_model.specs.Findings.{Used}
use Rattle.h5w_cache.specs.Stores.{Store, block_of}
use Rattle.h5w_array_laws.specs.Among.{AreAmong}
use Rattle.h5w_array_laws.specs.Parts.{Part, holder, slot_count, slot_offset}
use Rattle.h5w_array_laws.specs.ArrayStores.{IsNumbered, IsMaxSet, block_at_part, address_in, map_of, behind_of, total, one_secondary, one_data, secondary_bytes, data_bytes}
use Rattle.h5w_ea_index.specs.Steps.{IsHeld, IsUnset}
use Rattle.h5w_ea_index.specs.Counts.{IsCounted, with_at}
use Rattle.h5w_ea_index.specs.Reach.{KeepsReach, six, number_at}
use Rattle.h5w_ea_index.proofs.CountLemmas.{total_same}
use Rattle.h5w_ea_index.proofs.SetLemmas.{unset_from}
use Rattle.h5w_ea_index.proofs.WayLemmas.{Setting, setting_block, setting_kept, setting_six, setting_top_number, top_written}

pub unset_then : (i : ℕ) (u v w : Store) → IsUnset i u v → IsHeld v w → IsUnset i u w
unset_then i u v w a b = record {
  map = λ j. b.map j ∙ a.map j;
  behind = λ n. subst (λ (l : List Used). AreAmong l (behind_of n u)) (sym (b.behind n)) (a.behind n);
  places = λ n. b.places n ∙ a.places n;
  standing = λ s h. b.standing s (a.standing s h);
  stands = λ img h. b.stands img (a.stands img h);
  marks = λ n h. b.marks n (a.marks n h);
  headed = λ h. b.headed (a.headed h);
}

pub setting_unset : (v u : Store) (i : ℕ) → Setting v u i undefined → IsUnset i v u
setting_unset v u i s = let k = setting_block v u i undefined s in subst (IsUnset i v) (sym k.2) (unset_from v i k.0 k.1)

-- no chunk number from 131,060 on has an address
map_high : (v : Store) (i : ℕ) → map_of v i ≢ undefined → i < 131060
map_high v i d =
    elim (cases_lt i 131060) [
      | inl lt ↦ lt
      | inr ge ↦
          let f : nat_lt i 131060 ≡ false = grind (arith, nat_tests) in
          absurd (d (ap (λ t. cond t (address_in (block_at_part v (holder i)) (slot_offset i)) undefined) f))
    ]

pub max_below : (v : Store) (m : ℕ) → IsMaxSet v m → m ≤ 131060
max_below v m h = elim h.least [ inl z ↦ omega arith | inr d ↦ let b = map_high v (m - 1) d in omega arith ]

pub top_number : (v u : Store) (i x : ℕ) → Setting v u i x → (h : IsNumbered v) → number_at 4 u ≡ h.max
top_number v u i x s h = ap (λ l. get_or l 4 0) (setting_six v u i x s ∙ h.six)

-- the greatest chunk number that has an address is sought below the greatest that had one
max_unset : (v u w : Store) (i m count : ℕ) → IsUnset i v u → IsHeld u w → IsMaxSet v m → ((j : ℕ) → count ≤ j → j < m → map_of u j ≡ undefined) → (count ≡ 0) ⊎ (map_of u (count - 1) ≢ undefined) → IsMaxSet w count
max_unset v u w i m count s h g above least = record {
  above = λ j d.
      elim (cases_lt j count) [
        | inl lt ↦ lt
        | inr ge ↦
            elim (cases_lt j m) [
              | inl lt ↦ absurd (d (h.map j ∙ above j (omega arith) lt))
              | inr high ↦
                  elim (cases_eq j i) [
                    | inl e ↦ absurd (d (h.map j ∙ s.map j ∙ ap (λ t. cond t undefined (map_of v j)) (eq-eqb j i e)))
                    | inr ne ↦
                        let same : map_of w j ≡ map_of v j = h.map j ∙ s.map j ∙ ap (λ t. cond t undefined (map_of v j)) (ne_eqb j i ne) in
                        let b = g.above j (λ u. d (same ∙ u)) in
                        absurd (omega arith)
                  ]
            ]
      ];
  least = elim least [ inl z ↦ inl z | inr d ↦ inr (λ u. d (sym (h.map (count - 1)) ∙ u)) ];
}

pub unset_numbered : (v u w : Store) (i count : ℕ) → Setting v u i undefined → IsNumbered v → ((j : ℕ) → count ≤ j → j < number_at 4 u → map_of u j ≡ undefined) → (count ≡ 0) ⊎ (map_of u (count - 1) ≢ undefined)
    → IsCounted (with_at 4 count (six u)) u w → IsNumbered w
unset_numbered v u w i count s h above least c =
    let e : six u ≡ total one_secondary v ∷ total secondary_bytes v ∷ total one_data v ∷ total data_bytes v ∷ h.max ∷ (4 + total slot_count v) ∷ [] = setting_six v u i undefined s ∙ h.six in
    let kept : (n : ℕ) → is_some (block_of w n) ≡ is_some (block_of v n) = λ n. c.kept n ∙ setting_kept v u i undefined n s in
    let same : (weight : Part → ℕ) → total weight v ≡ total weight w = λ weight. sym (total_same weight v w kept) in
    let bound : number_at 4 u ≡ h.max = top_number v u i undefined s h in
    record {
      max = count;
      greatest = max_unset v u w i h.max count (setting_unset v u i s) c.held h.greatest (λ j from below. above j from (omega arith)) least;
      six = c.six ∙ ap (λ l. with_at 4 count l) e
          ∙ (λ t. same one_secondary t ∷ same secondary_bytes t ∷ same one_data t ∷ same data_bytes t ∷ count ∷ (4 + same slot_count t) ∷ []);
    }

-- what was reached and has an address is reached
pub unset_reach : (v u w : Store) (i count : ℕ) → Setting v u i undefined → ((j : ℕ) → count ≤ j → j < number_at 4 u → j < 131060 → map_of u j ≡ undefined) → IsCounted (with_at 4 count (six u)) u w → KeepsReach v w
unset_reach v u w i count s above c j there was =
    let now = top_written u w count c in
    let same = setting_top_number v u i undefined s in
    elim (cases_lt j count) [
      | inl lt ↦ omega (arith, now, lt)
      | inr ge ↦ absurd (there (c.held.map j ∙ above j ge (omega (arith, was, same)) (map_high w j there)))
    ]
