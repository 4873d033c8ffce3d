-- Which trees a session keeps.
use Rattle.std.proofs.Common.{◌≡◌, ℕ, zero, suc, ◌+◌, ◌-◌, ◌<◌, ◌≤◌, ◌&&◌, Bool, true, false, List, [], ◌∷◌, drop, length, refl, sym, ap, ap₂, ◌∙◌, arith, slice_index_or}
use Rattle.std.proofs.lemmas.Bool.{and_from}
use Rattle.std.proofs.lemmas.List.Elements.{All-head}
use Rattle.h5w_model.specs.Trees.{capacity_of}
use Rattle.h5w_model.specs.Tables.{key_below}
use Rattle.h5w_model.specs.Findings.{are_rising}
use Rattle.h5w_bt.specs.declared.records.Record.{Record}
use Rattle.h5w_bt_index.specs.Sound.{IsRising, IsSound}
use Rattle.h5w_bt_index.specs.Index.{Index, IsIndex, IsShaped, keys_of, records}
use Rattle.h5w_bt_open.proofs.StepLemmas.{drop_here}

-- ---- Keys that rise

-- by neighbours
pub rises_so : (rs : List Record) → IsRising rs → are_rising (keys_of rs) ≡ true
rises_so [] h = refl
rises_so (r ∷ []) h = refl
rises_so (r ∷ s ∷ rs) h =
    and_from (key_below r.key s.key) (are_rising (keys_of (s ∷ rs))) (All-head (λ (x : Record). key_below r.key x.key ≡ true) s rs h.0) (rises_so (s ∷ rs) h.1)

module _ (rs : List Record) (at : ℕ) (d : Record) (some : 1 ≤ at) (inside : at < length rs) (b : Bool) (is : key_below (slice_index_or rs (at - 1) d).key (slice_index_or rs at d).key ≡ b) where
  abbrev first : Record
  first = slice_index_or rs (at - 1) d

  abbrev second : Record
  second = slice_index_or rs at d

  from_second : drop at rs ≡ second ∷ drop (suc at) rs
  from_second = drop_here rs at d inside

  from_first : drop (at - 1) rs ≡ first ∷ second ∷ drop (suc at) rs
  from_first =
      let same : suc (at - 1) ≡ at = omega arith in
      drop_here rs (at - 1) d (omega (arith, inside)) ∙ ap (λ (k : ℕ). first ∷ drop k rs) same ∙ ap (λ (l : List Record). first ∷ l) from_second

  tested : are_rising (keys_of (drop (at - 1) rs)) ≡ (b && are_rising (keys_of (drop at rs)))
  tested =
      ap (λ (l : List Record). are_rising (keys_of l)) from_first
      ∙ ap₂ (λ (x : Bool) (l : List Record). x && are_rising (keys_of l)) is (sym from_second)

  -- the next pair rises
  pub rising_step : b ≡ true → are_rising (keys_of (drop (at - 1) rs)) ≡ are_rising (keys_of rs) → are_rising (keys_of (drop (at + 1 - 1) rs)) ≡ are_rising (keys_of rs)
  rising_step above so_far =
      let same : at + 1 - 1 ≡ at = omega arith in
      ap (λ (k : ℕ). are_rising (keys_of (drop k rs))) same ∙ ap (λ (x : Bool). x && are_rising (keys_of (drop at rs))) (sym above) ∙ sym tested ∙ so_far

  -- it does not
  pub rising_stop : b ≡ false → are_rising (keys_of (drop (at - 1) rs)) ≡ are_rising (keys_of rs) → are_rising (keys_of rs) ≡ false
  rising_stop not_above so_far = sym so_far ∙ tested ∙ ap (λ (x : Bool). x && are_rising (keys_of (drop at rs))) not_above

one_left : (rs : List Record) (i : ℕ) → length rs ≤ suc i → are_rising (keys_of (drop i rs)) ≡ true
one_left [] zero h = refl
one_left [] (suc i) h = refl
one_left (r ∷ []) zero h = refl
one_left (r ∷ s ∷ rs) zero h = absurd (omega (arith, h))
one_left (r ∷ rs) (suc i) h = one_left rs i (omega (arith, h))

pub rising_end : (rs : List Record) (at : ℕ) → 1 ≤ at → length rs ≤ at → are_rising (keys_of (drop (at - 1) rs)) ≡ are_rising (keys_of rs) → are_rising (keys_of rs) ≡ true
rising_end rs at some past so_far = sym so_far ∙ one_left rs (at - 1) (omega (arith, past, some))

-- ---- The tree

-- keys rise, and totals are true
pub kept_index : (v : Index) → IsShaped v → IsSound v.depth (capacity_of v.depth) v.root → IsRising (records v) → IsIndex v
kept_index v shaped sound rises = record { shallow = shaped.shallow; sound = sound; rises = rises; marked = shaped.marked }
