-- The rounds of a checksum, block by block.
use Rattle.std.proofs.Common.{◌≡◌, ℕ, suc, ◌+◌, ◌-◌, ◌/◌, ◌%◌, ◌<◌, ◌≤◌, List, [], ◌++◌, length, take, drop, replicate, refl, ap, sym, subst, ◌∙◌, arith, append_assoc}
use Rattle.std.proofs.lemmas.List.{append-nil, drop_at, drop-replicate, length-append, drop-take, take-take, take-append-drop, nil_from_length}
use Rattle.h5w_model.specs.Checksum.{Words, added, mixed, finished, rounds, begun, sum_of}
use Rattle.h5w_model.proofs.NumberLemmas.{field-append-left, field-padded}
use Rattle.h5w_model.proofs.ChecksumLemmas.{sum_of-some}
use Rattle.h5w_sum.specs.Fronts.{IsFront, IsMixed}

-- only the first twelve bytes are added
added-first : (w : Words) (x rest : List ℕ) → length x ≡ 12 → added w (x ++ rest) ≡ added w x
unfolding added
added-first w x rest len =
    let first = field-append-left x rest 0 4 (omega arith) in
    let second = field-append-left x rest 4 4 (omega arith) in
    let third = field-append-left x rest 8 4 (omega arith) in
    rw (first, second, third) refl

added-zeros : (w : Words) (end : List ℕ) (n : ℕ) → added w (end ++ replicate n 0) ≡ added w end
unfolding added
added-zeros w end n = rw (field-padded end n 0 4, field-padded end n 4 4, field-padded end n 8 4) refl

-- the zeros that fill up to twelve bytes add nothing
pub added-padded : (w : Words) (end : List ℕ) → added w (end ++ drop (length end) (replicate 12 0)) ≡ added w end
added-padded w end =
    ap (λ (zeros : List ℕ). added w (end ++ zeros)) (drop-replicate {X = ℕ} (length end) 12 0)
    ∙ added-zeros w end (12 - length end)

-- a round takes a block of twelve bytes
round : (n : ℕ) (w : Words) (x rest : List ℕ) → length x ≡ 12 → rounds (suc n) w (x ++ rest) ≡ rounds n (mixed (added w x)) rest
unfolding rounds
round n w x rest len = rw (added-first w x rest len, drop_at x rest 12 len) refl

-- ---- A front

-- before the first byte
pub front_none : (len : ℕ) → IsFront len [] (begun len)
front_none len rest e some =
    let all : length rest ≡ len = omega (arith, e) in
    ap (λ n. rounds ((length rest - 1) / 12) (begun n) rest) (sym all) ∙ sym (sum_of-some rest some)

-- and with a block more
front_more : (len : ℕ) (front x : List ℕ) (w : Words) → IsFront len front w → length x ≡ 12 → IsFront len (front ++ x) (mixed (added w x))
front_more len front x w goes twelve rest e some =
    let both = length-append x rest in
    let longer = length-append front x in
    let count : (length (x ++ rest) - 1) / 12 ≡ suc ((length rest - 1) / 12) = omega (arith, both, twelve, some) in
    sym (round ((length rest - 1) / 12) w x rest twelve)
    ∙ ap (λ n. rounds n w (x ++ rest)) (sym count)
    ∙ goes (x ++ rest) (omega (arith, both, longer, e)) (omega (arith, both, some))
    ∙ ap sum_of (sym (append_assoc front x rest))

-- the bytes behind it that are the last
pub front_ends : (len : ℕ) (front end : List ℕ) (w : Words) → IsFront len front w → length front + length end ≡ len → 0 < length end → length end ≤ 12 → finished (added w end) ≡ sum_of (front ++ end)
unfolding rounds
front_ends len front end w goes e some few =
    let none : (length end - 1) / 12 ≡ 0 = omega (arith, some, few) in
    sym (ap (λ n. rounds n w end) none) ∙ goes end e some

-- it goes on with the bytes behind it that come next
pub front_next : (b front : List ℕ) (n m : ℕ) (w : Words) → front ≡ take (n + m) b → IsFront (length b) (take n b ++ take (n + m - n) (drop n b)) w → IsFront (length b) front w
front_next b front n m w is goes =
    let count : n + m - n ≡ m = omega arith in
    let both : take n b ++ take (n + m - n) (drop n b) ≡ front =
    ap (λ k. take n b ++ take k (drop n b)) count
    ∙ ap (λ (xs : List ℕ). xs ++ take m (drop n b)) (sym (take-take n (n + m) b (omega arith)))
    ∙ ap (λ (xs : List ℕ). take n (take (n + m) b) ++ xs) (sym (drop-take n m b))
    ∙ take-append-drop n (take (n + m) b)
    ∙ sym is in
    subst (λ (xs : List ℕ). IsFront (length b) xs w) both goes

-- ---- Blocks, one behind another

pub mixed_none : (len : ℕ) (front blocks left : List ℕ) (w : Words) → left ≡ blocks → length blocks % 12 ≡ 0 → IsFront len front w → IsMixed len front blocks left w
mixed_none len front blocks left w same whole goes = record {
  done = [];
  both = sym same;
  whole = ap (λ (xs : List ℕ). length xs % 12) same ∙ whole;
  goes = subst (λ (xs : List ℕ). IsFront len xs w) (sym (append-nil front)) goes;
}

pub mixed_more : (len : ℕ) (front blocks old x left : List ℕ) (w : Words) → IsMixed len front blocks old w → old ≡ x ++ left → length x ≡ 12 → IsMixed len front blocks left (mixed (added w x))
mixed_more len front blocks old x left w m is twelve = record {
  done = m.done ++ x;
  both = m.both ∙ ap (λ (xs : List ℕ). m.done ++ xs) is ∙ sym (append_assoc m.done x left);
  whole = omega (arith, m.whole, ap length is, length-append x left, twelve);
  goes = subst (λ (xs : List ℕ). IsFront len xs (mixed (added w x))) (append_assoc front m.done x) (front_more len (front ++ m.done) x w m.goes twelve);
}

pub mixed_all : (len : ℕ) (front blocks left : List ℕ) (w : Words) → IsMixed len front blocks left w → length left < 12 → IsFront len (front ++ blocks) w
mixed_all len front blocks left w m short =
    let none : left ≡ [] = nil_from_length left (omega (arith, m.whole, short)) in
    let all : blocks ≡ m.done = m.both ∙ ap (λ (xs : List ℕ). m.done ++ xs) none ∙ append-nil m.done in
    subst (λ (xs : List ℕ). IsFront len (front ++ xs) w) (sym all) m.goes
