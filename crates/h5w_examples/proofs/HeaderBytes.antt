-- What of chunk 0 of a dataset header stays, by three comparisons.
use Rattle.std.proofs.Common.{◌≡◌, ◌⊎◌, ℕ, ◌+◌, ◌-◌, ◌<◌, ◌≤◌, List, length, take, drop, get_or, Option, Some, sym, ◌∙◌, ap, subst, inl, inr, arith}
use Rattle.std.proofs.lemmas.List.{get_or-take, get_or-drop}
use Rattle.h5w_model.specs.Headers.{rows_in_header, index_in_header}
use Rattle.h5w_model.specs.Prefixed.{SameHeader, IsOutside}

-- the same bytes before a place, and from 8 bytes behind it up to the sum
outside_same : (old new : List ℕ) (place n k : ℕ) → take place new ≡ take place old → drop (place + 8) (take n new) ≡ drop (place + 8) (take n old)
    → k < n → (k < place) ⊎ (place + 8 ≤ k) → get_or new k 0 ≡ get_or old k 0
outside_same old new place n k before behind low (inl h) = sym (get_or-take place new k 0 h) ∙ ap (λ (b : List ℕ). get_or b k 0) before ∙ get_or-take place old k 0 h
outside_same old new place n k before behind low (inr h) = sym (at new) ∙ ap (λ (b : List ℕ). get_or b (k - (place + 8)) 0) behind ∙ at old
  where
    at : (b : List ℕ) → get_or (drop (place + 8) (take n b)) (k - (place + 8)) 0 ≡ get_or b k 0
    at b =
        get_or-drop (place + 8) (take n b) (k - (place + 8)) 0
        ∙ ap (λ i. get_or (take n b) i 0) (omega (arith, h))
        ∙ get_or-take n b k 0 low

pub header_stays : (old new : List ℕ) (address place : ℕ) → length new ≡ length old → rows_in_header old ≡ Some place → rows_in_header new ≡ Some place
    → index_in_header new ≡ index_in_header old → take place new ≡ take place old
    → drop (place + 8) (take (length old - 4) new) ≡ drop (place + 8) (take (length old - 4) old) → SameHeader old new address
header_stays old new address place size here there index before behind = record {
  size = size;
  rows_place = there ∙ sym here;
  index_place = index;
  bytes = λ k low rows others. outside_same old new place (length old - 4) k before behind (omega (arith, low)) (subst (λ (o : Option ℕ). IsOutside o k) here rows);
}
