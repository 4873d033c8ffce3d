-- No byte lies in two places: what that says of a place that is taken, retired or made free.
use Rattle.std.proofs.Common.{◌≡◌, ℕ, ◌+◌, ◌<◌, ◌≤◌, min, max, List, [], ◌∷◌, ◌++◌, get_or, ◌⊎◌, inl, inr, sym, ap, subst, ◌∙◌, arith, append_assoc, append-nil, eq-eqb, true, ◌==◌, ◌||◌}
use Rattle.std.proofs.lemmas.Bool.{cases_lt}
use Rattle.std.proofs.lemmas.Bool.Decides.{nat_tests}
use Rattle.std.proofs.lemmas.List.Elements.{All-append, All-head, All-tail, All-cons, All-nil, All-weaker}
use Rattle.std.proofs.lemmas.List.Sorted.{All-permutation, sum_by-IsPermutation, IsPermutation-append_left, IsPermutation-sym, IsPermutation-to_front, IsPermutation-middle, list_any-IsPermutation}
use Rattle.std.proofs.lemmas.List.Sums.{sum_by-append, sum_by-cons, sum_by-le, get_or-le-sum_by}
use Rattle.std.specs.List.{All, sum_by}
use Rattle.std.specs.List.Sorted.{IsPermutation}
use Rattle.h5w_space.specs.declared.Extent.{Extent}
use Rattle.h5w_space.specs.Space.{Apart, IsLive, Space, extent, has_size}
use Rattle.h5w_space.specs.Groups.{holds, IsSound}

holds_in : (b : ℕ) (r : Extent) → r.at ≤ b → b < r.at + r.size → holds b r ≡ 1
holds_in b r low high = grind (arith, nat_tests)

holds_off : (b : ℕ) (r s : Extent) → Apart r s → r.at ≤ b → b < r.at + r.size → holds b s ≤ 0
holds_off b r s h low high = grind (arith, nat_tests)

holds_before : (b : ℕ) (r : Extent) → b < r.at → holds b r ≤ 0
holds_before b r h = grind (arith, nat_tests)

holds_behind : (b : ℕ) (r : Extent) → r.at + r.size ≤ b → holds b r ≤ 0
holds_behind b r h = grind (arith, nat_tests)

holds-le : (b : ℕ) (r : Extent) → holds b r ≤ 1
holds-le b r = grind (arith, nat_tests)

pub Apart-sym : (r s : Extent) → Apart r s → Apart s r
Apart-sym r s h = omega arith

both : (r s : Extent) → ((b : ℕ) → holds b r + holds b s ≤ 1) → (max r.at s.at < min (r.at + r.size) (s.at + s.size)) ⊎ (min (r.at + r.size) (s.at + s.size) ≤ max r.at s.at) → Apart r s
both r s h (inl lt) =
    let b : ℕ = max r.at s.at in
    let x = holds_in b r (omega arith) (omega arith) in
    let y = holds_in b s (omega arith) (omega arith) in
    absurd (omega (arith, h b, x, y))
both r s h (inr le) = le

-- a place among others that share no byte with it
pub apart_of : (r : Extent) (places : List Extent) → ((b : ℕ) → sum_by (holds b) (r ∷ places) ≤ 1) → All (Apart r) places
apart_of r places h = λ k d l.
    let s : Extent = get_or places k d in
    both r s (λ b. omega (arith, h b, sum_by-cons (holds b) r places, get_or-le-sum_by (holds b) places k d l)) (cases_lt (max r.at s.at) (min (r.at + r.size) (s.at + s.size)))

nothing_in : (b : ℕ) (r : Extent) (places : List Extent) → All (Apart r) places → r.at ≤ b → b < r.at + r.size → sum_by (holds b) places ≤ 0
nothing_in b r places h low high =
    omega (arith, sum_by-le (holds b) 0 places (All-weaker (Apart r) (λ s. holds b s ≤ 0) (λ s a. holds_off b r s a low high) places h))

at_most : (b : ℕ) (r : Extent) (places : List Extent) → sum_by (holds b) places ≤ 1 → All (Apart r) places → (b < r.at) ⊎ (r.at ≤ b) → (b < r.at + r.size) ⊎ (r.at + r.size ≤ b) → holds b r + sum_by (holds b) places ≤ 1
at_most b r places h a (inr low) (inl high) = omega (arith, nothing_in b r places a low high, holds-le b r)
at_most b r places h a (inl low) x = omega (arith, holds_before b r low)
at_most b r places h a (inr low) (inr high) = omega (arith, holds_behind b r high)

pub IsSound-cons : (end : ℕ) (r : Extent) (places : List Extent) → IsSound end places → r.at + r.size ≤ end → All (Apart r) places → IsSound end (r ∷ places)
IsSound-cons end r places s w a = record {
  within = All-cons (λ (p : Extent). p.at + p.size ≤ end) r places w s.within;
  once = λ b. omega (arith, sum_by-cons (holds b) r places, at_most b r places (s.once b) a (cases_lt b r.at) (cases_lt b (r.at + r.size)));
}

pub IsSound-permutation : (end : ℕ) (xs ys : List Extent) → IsPermutation xs ys → IsSound end xs → IsSound end ys
IsSound-permutation end xs ys p s = record {
  within = All-permutation (λ (q : Extent). q.at + q.size ≤ end) xs ys p s.within;
  once = λ b. omega (arith, s.once b, sum_by-IsPermutation (holds b) xs ys p);
}

pub IsSound-tail : (end : ℕ) (r : Extent) (places : List Extent) → IsSound end (r ∷ places) → IsSound end places
IsSound-tail end r places s = record {
  within = All-tail (λ (q : Extent). q.at + q.size ≤ end) r places s.within;
  once = λ b. omega (arith, s.once b, sum_by-cons (holds b) r places);
}

-- a place behind the end shares no byte with those before it
pub behind : (end : ℕ) (r : Extent) (places : List Extent) → end ≤ r.at → IsSound end places → All (Apart r) places
behind end r places h s = All-weaker (λ (q : Extent). q.at + q.size ≤ end) (λ q. Apart r q) (λ q k. omega arith) places s.within

All-front : (P : Extent → Type 0) (xs ys : List Extent) → All P (xs ++ ys) → All P xs
All-front P [] ys h = λ k d l. absurd (omega arith)
All-front P (x ∷ xs) ys h = All-cons P x xs (All-head P x (xs ++ ys) h) (All-front P xs ys (All-tail P x (xs ++ ys) h))

All-back : (P : Extent → Type 0) (xs ys : List Extent) → All P (xs ++ ys) → All P ys
All-back P [] ys h = h
All-back P (x ∷ xs) ys h = All-back P xs ys (All-tail P x (xs ++ ys) h)

-- a free place is taken
pub record IsTaken (end size : ℕ) (p : Extent) (old new retired : List Extent) : Type 0 where
  pub sized : p.size ≡ size
  pub order : IsPermutation old (p ∷ new)
  pub sound : IsSound end (old ++ retired)

whole : {size : ℕ} → (p : Extent) → p.size ≡ size → extent p.at size ≡ p
whole p e = ap (extent p.at) (sym e)

left_sound : (end size : ℕ) (p : Extent) (old new retired : List Extent) → IsTaken end size p old new retired → IsSound end (p ∷ (new ++ retired))
left_sound end size p old new retired t = IsSound-permutation end (old ++ retired) ((p ∷ new) ++ retired) (IsPermutation-append_left retired old (p ∷ new) t.order) t.sound

pub taken_sound : (end size : ℕ) (p : Extent) (old new retired : List Extent) → IsTaken end size p old new retired → IsSound end (new ++ retired)
taken_sound end size p old new retired t = IsSound-tail end p (new ++ retired) (left_sound end size p old new retired t)

taken_apart : (end size : ℕ) (p : Extent) (old new retired : List Extent) → IsTaken end size p old new retired → All (Apart (extent p.at size)) (new ++ retired)
taken_apart end size p old new retired t =
    subst (λ r. All (Apart r) (new ++ retired)) (sym (whole p t.sized)) (apart_of p (new ++ retired) (left_sound end size p old new retired t).once)

pub taken_off_retired : (end size : ℕ) (p : Extent) (old new retired : List Extent) → IsTaken end size p old new retired → All (Apart (extent p.at size)) retired
taken_off_retired end size p old new retired t = All-back (Apart (extent p.at size)) new retired (taken_apart end size p old new retired t)

pub taken_off_free : (end size : ℕ) (p : Extent) (old new retired : List Extent) → IsTaken end size p old new retired → All (Apart (extent p.at size)) new
taken_off_free end size p old new retired t = All-front (Apart (extent p.at size)) new retired (taken_apart end size p old new retired t)

pub taken_within : (end size : ℕ) (p : Extent) (old new retired : List Extent) → IsTaken end size p old new retired → p.at + size ≤ end
taken_within end size p old new retired t =
    omega (arith, All-head (λ (q : Extent). q.at + q.size ≤ end) p (new ++ retired) (left_sound end size p old new retired t).within, t.sized)

-- what shares no byte with a free place shares none with the taken one, nor with those that are left
pub taken_off_live : (end size : ℕ) (p : Extent) (old new retired : List Extent) (r : Extent) → IsTaken end size p old new retired → All (Apart r) old → Apart (extent p.at size) r
taken_off_live end size p old new retired r t a =
    subst (λ q. Apart q r) (sym (whole p t.sized)) (Apart-sym r p (All-head (Apart r) p new (All-permutation (Apart r) old (p ∷ new) t.order a)))

pub taken_stays : (end size : ℕ) (p : Extent) (old new retired : List Extent) (r : Extent) → IsTaken end size p old new retired → All (Apart r) old → All (Apart r) new
taken_stays end size p old new retired r t a = All-tail (Apart r) p new (All-permutation (Apart r) old (p ∷ new) t.order a)

-- a live range is retired
pub retired_sound : (end : ℕ) (r : Extent) (free retired : List Extent) → IsSound end (free ++ retired) → r.at + r.size ≤ end → All (Apart r) free → All (Apart r) retired → IsSound end (free ++ (retired ++ r ∷ []))
retired_sound end r free retired s w f t =
    let all : IsSound end (r ∷ (free ++ retired)) = IsSound-cons end r (free ++ retired) s w (All-append (Apart r) free retired f t) in
    subst (λ l. IsSound end l) (append_assoc free retired (r ∷ []))
    (IsSound-permutation end (r ∷ (free ++ retired)) ((free ++ retired) ++ r ∷ []) (IsPermutation-sym ((free ++ retired) ++ r ∷ []) (r ∷ (free ++ retired)) (IsPermutation-to_front (free ++ retired) r)) all)

pub taken_has : (end size : ℕ) (p : Extent) (old new retired : List Extent) → IsTaken end size p old new retired → has_size size old ≡ true
taken_has end size p old new retired t =
    list_any-IsPermutation (λ (q : Extent). q.size == size) old (p ∷ new) t.order ∙ ap (λ b. b || has_size size new) (eq-eqb p.size size t.sized)

-- what was retired is free
pub committed_sound : (end : ℕ) (free retired new : List Extent) → IsSound end (free ++ retired) → IsPermutation (free ++ retired) new → IsSound end (new ++ [])
committed_sound end free retired new s p = subst (λ l. IsSound end l) (sym (append-nil new)) (IsSound-permutation end (free ++ retired) new p s)

-- a place at the end shares no byte with what is free or retired
pub end_off : (end size : ℕ) (free retired : List Extent) → IsSound end (free ++ retired) → All (Apart (extent end size)) free × All (Apart (extent end size)) retired
end_off end size free retired s =
    let all = behind end (extent end size) (free ++ retired) (omega arith) s in
    (All-front (Apart (extent end size)) free retired all, All-back (Apart (extent end size)) free retired all)

-- what shares no byte with the free and the retired places shares none with the new free ones
pub committed_off : (r : Extent) (free retired new : List Extent) → All (Apart r) free → All (Apart r) retired → IsPermutation (free ++ retired) new → All (Apart r) new
committed_off r free retired new f t p = All-permutation (Apart r) (free ++ retired) new p (All-append (Apart r) free retired f t)

-- some first places are sound by themselves
pub front_sound : (end : ℕ) (xs ys : List Extent) → IsSound end (xs ++ ys) → IsSound end xs
front_sound end xs ys s = record {
  within = All-front (λ (r : Extent). r.at + r.size ≤ end) xs ys s.within;
  once = λ b. omega (arith, s.once b, sum_by-append (holds b) xs ys);
}

-- a place behind others shares no byte with them
pub forgotten_off : (end : ℕ) (free retired : List Extent) → IsSound end (free ++ retired) → All (λ r. All (Apart r) free) retired
forgotten_off end free [] s = All-nil (λ (r : Extent). All (Apart r) free)
forgotten_off end free (r ∷ rs) s =
    let all : IsSound end (r ∷ (free ++ rs)) = IsSound-permutation end (free ++ r ∷ rs) (r ∷ (free ++ rs)) (IsPermutation-middle free r rs) s in
    All-cons (λ (q : Extent). All (Apart q) free) r rs (All-front (Apart r) free rs (apart_of r (free ++ rs) all.once)) (forgotten_off end free rs (IsSound-tail end r (free ++ rs) all))

-- what was retired is live where nothing is retired any more
pub forgotten_live : (s : Space) → IsSound s.end (s.free ++ s.retired) → All (IsLive (record s { retired = [] })) s.retired
forgotten_live s sound =
    let ends = All-back (λ (r : Extent). r.at + r.size ≤ s.end) s.free s.retired sound.within in
    let off = forgotten_off s.end s.free s.retired sound in
    λ k d lt. record { within = ends k d lt; off_free = off k d lt; off_retired = All-nil (Apart (get_or s.retired k d)) }
