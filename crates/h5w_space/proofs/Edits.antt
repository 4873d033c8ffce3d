-- A place leaves a group, or joins one: what the groups and the places are then.
use Rattle.std.proofs.Common.{◌≡◌, ℕ, zero, suc, ◌+◌, ◌-◌, ◌<◌, ◌≤◌, List, [], ◌∷◌, ◌++◌, length, get_or, take, drop, set, replicate, Option, Some, None, refl, sym, ap, subst, ◌∙◌, arith, append_assoc, length-append, false, ◌==◌, ◌||◌}
use Rattle.std.proofs.lemmas.List.{take_rest, take_at, drop_at, get_or_at, set_split, map_push, same_from_push, length-replicate}
use Rattle.std.proofs.lemmas.List.Elements.{All-set, All-append, All-take, All-drop, All-push, recursion_from_All}
use Rattle.std.proofs.lemmas.List.Sorted.{IsPermutation-trans, IsPermutation-to_front}
use Rattle.std.proofs.lemmas.Bool.Decides.{nat_tests}
use Rattle.std.specs.List.{All, AllByRecursion, remove, list_any}
use Rattle.std.specs.List.Sorted.{IsPermutation}
use Rattle.std.specs.Option.{IsSomeAnd, IsSome, option_to_list}
use Rattle.h5w_space.specs.declared.Extent.{Extent}
use Rattle.h5w_space.specs.declared.groups.Group.{Group}
use Rattle.h5w_space.specs.Groups.{laid, sizes, laid_less, IsGroup, IsGrouped}
use Rattle.h5w_space.specs.Space.{has_size}
use Rattle.h5w_space.proofs.Laid.{laid-append, laid-take_more, laid-drop_more, laid_split, length_laid-take, length_laid-take_more, length-sizes, replicate-cons}

-- what an index past the groups would give
abbrev pub empty : Group
empty = record { size = 0; count = 0 }

-- the sizes with one of the i-th group's between what is before and behind it
laid_around : (gs : List Group) (i c size : ℕ) → i < length gs → (get_or gs i empty).count ≡ suc c → (get_or gs i empty).size ≡ size →
    laid gs ≡ (laid (take i gs) ++ replicate c size) ++ size ∷ laid (drop (i + 1) gs)
laid_around gs i c size h ec es =
    laid_split gs i
    ∙ ap (λ l. laid (take i gs) ++ l) (laid-drop_more gs i empty h ∙ ap (λ n. replicate n (get_or gs i empty).size ++ laid (drop (i + 1) gs)) ec ∙ ap (λ s. replicate (suc c) s ++ laid (drop (i + 1) gs)) es ∙ replicate-cons c size (laid (drop (i + 1) gs)))
    ∙ sym (append_assoc (laid (take i gs)) (replicate c size) (size ∷ laid (drop (i + 1) gs)))

-- the groups with the i-th one changed
pub laid-set : (gs : List Group) (i : ℕ) (g : Group) → i < length gs → laid (set gs i g) ≡ laid (take i gs) ++ (replicate g.count g.size ++ laid (drop (i + 1) gs))
laid-set gs i g h =
    ap laid (set_split gs i g h) ∙ laid-append (take i gs) (g ∷ drop (suc i) gs)
    ∙ ap (λ n. laid (take i gs) ++ (replicate g.count g.size ++ laid (drop n gs))) (let e : suc i ≡ i + 1 = omega arith in e)

-- a place of a group that has one: its number is c, and one more place has its size
pub record IsAt (gs : List Group) (places : List Extent) (size i end : ℕ) : Type 0 where
  pub count : ℕ
  pub counted : (get_or gs i empty).count ≡ suc count
  pub sized : (get_or gs i empty).size ≡ size
  pub around : sizes places ≡ (laid (take i gs) ++ replicate count size) ++ size ∷ laid (drop (i + 1) gs)
  pub before : length (laid (take i gs) ++ replicate count size) ≡ end - 1
  pub low : 1 ≤ end
  pub high : end ≤ length places

pred_of : (n : ℕ) → 0 < n → (k : ℕ) × (n ≡ suc k)
pred_of zero h = absurd (omega arith)
pred_of (suc k) h = (k, refl)

pub IsAt-group : (gs : List Group) (places : List Extent) (size i end : ℕ) → IsGrouped gs places → IsGroup gs size i end → IsAt gs places size i end
IsAt-group gs places size i end f g =
    let p = pred_of (get_or gs i empty).count (f.filled i empty g.inside) in
    let k = length_laid-take_more gs i empty g.inside in
    let whole = length_laid-take gs (i + 1) in
    record {
      count = p.0;
      counted = p.1;
      sized = g.is empty;
      around = f.by_size ∙ laid_around gs i p.0 size g.inside p.1 (g.is empty);
      before = omega (arith, length-append (laid (take i gs)) (replicate p.0 size), length-replicate p.0 size, k, p.1, g.ends);
      low = omega (arith, k, p.1, g.ends);
      high = omega (arith, whole, g.ends, length-sizes places, ap length f.by_size);
    }

pub pulled_rest : (gs : List Group) (places : List Extent) (size i end : ℕ) → IsAt gs places size i end → drop ((end - 1) + 1) (sizes places) ≡ laid (drop (i + 1) gs)
pulled_rest gs places size i end a =
    let front : List ℕ = laid (take i gs) ++ replicate a.count size in
    ap (λ l. drop ((end - 1) + 1) l) (a.around ∙ sym (append_assoc front (size ∷ []) (laid (drop (i + 1) gs))))
    ∙ drop_at (front ++ size ∷ []) (laid (drop (i + 1) gs)) ((end - 1) + 1) (omega (arith, length-append front (size ∷ []), a.before))

-- the sizes of all once the place has moved behind the others
pub pulled_sizes : (gs hs : List Group) (places qs all : List Extent) (size i end : ℕ) (a : IsAt gs places size i end) → hs ≡ gs → qs ≡ places →
    sizes all ≡ (take (end - 1) (sizes qs) ++ laid (take (length hs - (i + 1)) (drop (i + 1) hs))) ++ get_or (sizes qs) (end - 1) 0 ∷ [] →
    sizes all ≡ ((laid (take i gs) ++ replicate a.count size) ++ laid (drop (i + 1) gs)) ++ size ∷ []
pulled_sizes gs hs places qs all size i end a eh eq e =
    let front : List ℕ = laid (take i gs) ++ replicate a.count size in
    let rest : List ℕ = laid (drop (i + 1) gs) in
    let head : take (end - 1) (sizes qs) ≡ front = ap (λ l. take (end - 1) (sizes l)) eq ∙ ap (λ l. take (end - 1) l) a.around ∙ take_at front (size ∷ rest) (end - 1) a.before in
    let here : get_or (sizes qs) (end - 1) 0 ≡ size = ap (λ l. get_or (sizes l) (end - 1) 0) eq ∙ ap (λ l. get_or l (end - 1) 0) a.around ∙ get_or_at front size rest 0 (end - 1) a.before in
    let left : laid (take (length hs - (i + 1)) (drop (i + 1) hs)) ≡ rest = ap laid (take_rest hs (i + 1) ∙ ap (drop (i + 1)) eh) in
    e ∙ ap (λ l. (l ++ laid (take (length hs - (i + 1)) (drop (i + 1) hs))) ++ get_or (sizes qs) (end - 1) 0 ∷ []) head
    ∙ ap (λ l. (front ++ l) ++ get_or (sizes qs) (end - 1) 0 ∷ []) left
    ∙ ap (λ s. (front ++ rest) ++ s ∷ []) here

-- the groups stand for these sizes without that place's
pub pulled_less : (gs : List Group) (places : List Extent) (size i end : ℕ) (a : IsAt gs places size i end) →
    (laid (take i gs) ++ replicate a.count size) ++ laid (drop (i + 1) gs) ≡ laid_less gs i (get_or gs i empty)
pulled_less gs places size i end a =
    let g : Group = get_or gs i empty in
    append_assoc (laid (take i gs)) (replicate a.count size) (laid (drop (i + 1) gs))
    ∙ ap (λ n. laid (take i gs) ++ (replicate n size ++ laid (drop (i + 1) gs))) (let k : a.count ≡ g.count - 1 = omega (arith, a.counted) in k)
    ∙ ap (λ s. laid (take i gs) ++ (replicate (g.count - 1) s ++ laid (drop (i + 1) gs))) (sym a.sized)

-- the last place leaves
pub popped : (places all left : List Extent) (front : List ℕ) (size : ℕ) (r : Option Extent) → IsSome r → all ≡ left ++ option_to_list r → sizes all ≡ front ++ size ∷ [] → IsPermutation places all →
    IsSomeAnd r (λ p. (p.size ≡ size) × IsPermutation places (p ∷ left))
popped places all left front size None h e es o = cc
popped places all left front size (Some p) h e es o =
    let f : Extent → ℕ = λ x. x.size in
    let same = same_from_push (sizes left) front p.size size (sym (map_push f left p) ∙ ap sizes (sym e) ∙ es) in
    (same.1, IsPermutation-trans places (left ++ p ∷ []) (p ∷ left) (subst (λ l. IsPermutation places l) e o) (IsPermutation-to_front left p))

pub popped_sizes : (all left : List Extent) (front : List ℕ) (size : ℕ) (r : Option Extent) → IsSome r → all ≡ left ++ option_to_list r → sizes all ≡ front ++ size ∷ [] → sizes left ≡ front
popped_sizes all left front size None h e es = cc
popped_sizes all left front size (Some p) h e es =
    let f : Extent → ℕ = λ x. x.size in
    (same_from_push (sizes left) front p.size size (sym (map_push f left p) ∙ ap sizes (sym e) ∙ es)).0

pub laid-remove : (gs : List Group) (i : ℕ) → i < length gs → (get_or gs i empty).count ≡ 1 → laid (remove gs i) ≡ laid_less gs i (get_or gs i empty)
laid-remove gs i h e =
    let g : Group = get_or gs i empty in
    ap (λ n. laid (take i gs ++ drop n gs)) (let k : suc i ≡ i + 1 = omega arith in k)
    ∙ laid-append (take i gs) (drop (i + 1) gs)
    ∙ ap (λ n. laid (take i gs) ++ (replicate n g.size ++ laid (drop (i + 1) gs))) (let k : 0 ≡ g.count - 1 = omega arith in k)

-- a place joins its group
pub joined_rest : (gs : List Group) (places : List Extent) (place : Extent) (size i end : ℕ) → IsGrouped gs places → IsGroup gs size i end →
    drop end (take (length (places ++ place ∷ []) - 1) (sizes (places ++ place ∷ []))) ≡ laid (drop (i + 1) gs)
joined_rest gs places place size i end f g =
    let p : Extent → ℕ = λ x. x.size in
    let n : length (places ++ place ∷ []) - 1 ≡ length (sizes places) = omega (arith, length-append places (place ∷ []), length-sizes places) in
    ap (λ l. drop end (take (length (places ++ place ∷ []) - 1) l)) (map_push p places place)
    ∙ ap (drop end) (take_at (sizes places) (place.size ∷ []) (length (places ++ place ∷ []) - 1) (sym n) ∙ f.by_size ∙ laid_split gs (i + 1))
    ∙ drop_at (laid (take (i + 1) gs)) (laid (drop (i + 1) gs)) end (sym g.ends)

pub joined_sizes : (gs : List Group) (places : List Extent) (place : Extent) (size i end : ℕ) → IsGrouped gs places → IsGroup gs size i end →
    take end (sizes (places ++ place ∷ [])) ++ get_or (sizes (places ++ place ∷ [])) (length (places ++ place ∷ []) - 1) 0 ∷ laid (drop (i + 1) gs)
    ≡ laid (take (i + 1) gs) ++ place.size ∷ laid (drop (i + 1) gs)
joined_sizes gs places place size i end f g =
    let p : Extent → ℕ = λ x. x.size in
    let n : length (places ++ place ∷ []) - 1 ≡ length (sizes places) = omega (arith, length-append places (place ∷ []), length-sizes places) in
    let all : sizes (places ++ place ∷ []) ≡ laid (take (i + 1) gs) ++ (laid (drop (i + 1) gs) ++ place.size ∷ []) =
    map_push p places place ∙ ap (λ l. l ++ place.size ∷ []) (f.by_size ∙ laid_split gs (i + 1)) ∙ append_assoc (laid (take (i + 1) gs)) (laid (drop (i + 1) gs)) (place.size ∷ []) in
    ap (λ l. l ++ get_or (sizes (places ++ place ∷ [])) (length (places ++ place ∷ []) - 1) 0 ∷ laid (drop (i + 1) gs))
    (ap (take end) all ∙ take_at (laid (take (i + 1) gs)) (laid (drop (i + 1) gs) ++ place.size ∷ []) end (sym g.ends))
    ∙ ap (λ v. laid (take (i + 1) gs) ++ v ∷ laid (drop (i + 1) gs))
    (ap (λ l. get_or l (length (places ++ place ∷ []) - 1) 0) (map_push p places place) ∙ get_or_at (sizes places) place.size [] 0 (length (places ++ place ∷ []) - 1) (sym n))

pub joined_all : (gs hs : List Group) (places qs all : List Extent) (place : Extent) (size i end : ℕ) → IsGrouped gs places → IsGroup gs size i end → hs ≡ gs → qs ≡ places ++ place ∷ [] →
    sizes all ≡ take end (sizes qs) ++ get_or (sizes qs) (length qs - 1) 0 ∷ laid (take (length hs - (i + 1)) (drop (i + 1) hs)) →
    sizes all ≡ laid (take (i + 1) gs) ++ place.size ∷ laid (drop (i + 1) gs)
joined_all gs hs places qs all place size i end f g eh eq e =
    e ∙ ap (λ l. take end (sizes l) ++ get_or (sizes l) (length l - 1) 0 ∷ laid (take (length hs - (i + 1)) (drop (i + 1) hs))) eq
    ∙ ap (λ l. take end (sizes (places ++ place ∷ [])) ++ get_or (sizes (places ++ place ∷ [])) (length (places ++ place ∷ []) - 1) 0 ∷ laid l) (take_rest hs (i + 1) ∙ ap (drop (i + 1)) eh)
    ∙ joined_sizes gs places place size i end f g

pub IsGrouped-more : (gs : List Group) (places new : List Extent) (size i end : ℕ) (g : Group) → IsGrouped gs places → i < length gs →
    sizes new ≡ laid (take (i + 1) gs) ++ size ∷ laid (drop (i + 1) gs) → (get_or gs i empty).size ≡ size → g.size ≡ size → g.count ≡ (get_or gs i empty).count + 1 → IsGrouped (set gs i g) new
IsGrouped-more gs places new size i end g f h e os es ec =
    let c : ℕ = (get_or gs i empty).count in
    let rest : List ℕ = laid (drop (i + 1) gs) in
    let all : laid (set gs i g) ≡ laid (take i gs) ++ (size ∷ (replicate c size ++ rest)) =
    laid-set gs i g h ∙ ap (λ n. laid (take i gs) ++ (replicate n g.size ++ rest)) (let k : g.count ≡ suc c = omega (arith, ec) in k) ∙ ap (λ s. laid (take i gs) ++ (replicate (suc c) s ++ rest)) es in
    record {
      by_size = e
          ∙ ap (λ l. l ++ size ∷ rest) (laid-take_more gs i empty h ∙ ap (λ s. laid (take i gs) ++ replicate c s) os)
          ∙ append_assoc (laid (take i gs)) (replicate c size) (size ∷ rest)
          ∙ ap (λ l. laid (take i gs) ++ l) (sym (replicate-cons c size rest))
          ∙ sym all;
      filled = All-set (λ (x : Group). 0 < x.count) gs i g (omega (arith, ec)) f.filled;
    }

pub IsGrouped-new : (gs : List Group) (places : List Extent) (place : Extent) → IsGrouped gs places → IsGrouped (gs ++ (record { size = place.size; count = 1 }) ∷ []) (places ++ place ∷ [])
IsGrouped-new gs places place f =
    let p : Extent → ℕ = λ x. x.size in
    let g : Group = record { size = place.size; count = 1 } in
    record {
      by_size = map_push p places place ∙ ap (λ l. l ++ place.size ∷ []) f.by_size ∙ sym (laid-append gs (g ∷ []));
      filled = All-push (λ (x : Group). 0 < x.count) gs g f.filled (omega arith);
    }

eqb_off : (n size : ℕ) → ((n ≡ size) → ⊥) → (n == size) ≡ false
eqb_off n size h = grind (arith, nat_tests)

-- no group has the size, so no place has it
none_in : (c n size : ℕ) (rest : List ℕ) → ((n ≡ size) → ⊥) → list_any (λ m. m == size) rest ≡ false → list_any (λ m. m == size) (replicate c n ++ rest) ≡ false
none_in zero n size rest h e = e
none_in (suc c) n size rest h e = ap (λ b. b || list_any (λ m. m == size) (replicate c n ++ rest)) (eqb_off n size h) ∙ none_in c n size rest h e

laid-none : (gs : List Group) (size : ℕ) → AllByRecursion (λ (g : Group). (g.size ≡ size) → ⊥) gs → list_any (λ n. n == size) (laid gs) ≡ false
laid-none [] size h = refl
laid-none (g ∷ gs) size h = none_in g.count g.size size (laid gs) h.0 (laid-none gs size h.1)

any_size : (places : List Extent) (size : ℕ) → list_any (λ p. p.size == size) places ≡ list_any (λ n. n == size) (sizes places)
any_size [] size = refl
any_size (p ∷ places) size = ap (λ b. (p.size == size) || b) (any_size places size)

pub has_size-none : (gs : List Group) (places : List Extent) (size : ℕ) → IsGrouped gs places → All (λ g. (g.size ≡ size) → ⊥) gs → has_size size places ≡ false
has_size-none gs places size f h =
    any_size places size ∙ ap (list_any (λ n. n == size)) f.by_size ∙ laid-none gs size (recursion_from_All (λ (g : Group). (g.size ≡ size) → ⊥) gs h)
