-- Places that stand by their sizes, and what a swap of two of them leaves.
use Rattle.std.proofs.Common.{◌≡◌, ℕ, zero, suc, ◌+◌, ◌-◌, ◌<◌, ◌≤◌, List, [], ◌∷◌, ◌++◌, length, get_or, take, drop, set, replicate, refl, sym, ap, subst, ◌∙◌, arith, append_assoc, length-append}
use Rattle.std.proofs.lemmas.List.{append-nil, take_more, drop_more, take-append-drop, length-replicate, map-set, get_or-map, get_or_at, set_at, length-map, set-get_or, take_all, take-take}
use Rattle.std.proofs.lemmas.List.Edits.{swap_is}
use Rattle.std.specs.List.{swap}
use Rattle.h5w_space.specs.declared.Extent.{Extent}
use Rattle.h5w_space.specs.declared.groups.Group.{Group}
use Rattle.h5w_space.specs.Groups.{laid, sizes}

pub laid-append : (fs gs : List Group) → laid (fs ++ gs) ≡ laid fs ++ laid gs
laid-append [] gs = refl
laid-append (f ∷ fs) gs = ap (λ l. replicate f.count f.size ++ l) (laid-append fs gs) ∙ sym (append_assoc (replicate f.count f.size) (laid fs) (laid gs))

pub laid-one : (g : Group) → laid (g ∷ []) ≡ replicate g.count g.size
laid-one g = append-nil (replicate g.count g.size)

pub laid-take_more : (gs : List Group) (i : ℕ) (d : Group) → i < length gs → laid (take (i + 1) gs) ≡ laid (take i gs) ++ replicate (get_or gs i d).count (get_or gs i d).size
laid-take_more gs i d h =
    ap laid (take_more gs i d h) ∙ laid-append (take i gs) (get_or gs i d ∷ []) ∙ ap (λ l. laid (take i gs) ++ l) (laid-one (get_or gs i d))

pub laid-drop_more : (gs : List Group) (i : ℕ) (d : Group) → i < length gs → laid (drop i gs) ≡ replicate (get_or gs i d).count (get_or gs i d).size ++ laid (drop (i + 1) gs)
laid-drop_more gs i d h = ap laid (drop_more gs i d h)

pub laid_split : (gs : List Group) (i : ℕ) → laid gs ≡ laid (take i gs) ++ laid (drop i gs)
laid_split gs i = ap laid (sym (take-append-drop i gs)) ∙ laid-append (take i gs) (drop i gs)

pub length_laid-take : (gs : List Group) (i : ℕ) → length (laid (take i gs)) ≤ length (laid gs)
length_laid-take gs i = omega (arith, ap length (laid_split gs i), length-append (laid (take i gs)) (laid (drop i gs)))

-- a swap moves the sizes with the places
pub sizes-swap : (places : List Extent) (i j : ℕ) → i < length places → j < length places → sizes (swap places i j) ≡ set (set (sizes places) i (get_or (sizes places) j 0)) j (get_or (sizes places) i 0)
sizes-swap places i j hi hj =
    let d : Extent = record { at = 0; size = 0 } in
    let f : Extent → ℕ = λ p. p.size in
    ap sizes (sym (swap_is places i j d hi hj))
    ∙ map-set f (set places i (get_or places j d)) j (get_or places i d)
    ∙ ap (λ l. set l j (get_or places i d).size) (map-set f places i (get_or places j d))
    ∙ ap (λ v. set (set (sizes places) i v) j (get_or places i d).size) (sym (get_or-map f places j d 0 hj))
    ∙ ap (λ v. set (set (sizes places) i (get_or (sizes places) j 0)) j v) (sym (get_or-map f places i d 0 hi))

-- two elements change places
pub swapped_ends : (front middle back : List ℕ) (x y : ℕ) (i j : ℕ) → length front ≡ i → i + suc (length middle) ≡ j →
    (l : List ℕ) → l ≡ front ++ x ∷ (middle ++ y ∷ back) → set (set l i (get_or l j 0)) j (get_or l i 0) ≡ front ++ y ∷ (middle ++ x ∷ back)
swapped_ends front middle back x y i j ei ej l el =
    let at_i : get_or l i 0 ≡ x = ap (λ k. get_or k i 0) el ∙ get_or_at front x (middle ++ y ∷ back) 0 i ei in
    let l2 : List ℕ = front ++ x ∷ middle in
    let shape : front ++ x ∷ (middle ++ y ∷ back) ≡ (front ++ x ∷ middle) ++ y ∷ back = sym (append_assoc front (x ∷ middle) (y ∷ back)) in
    let len : length (front ++ x ∷ middle) ≡ j = omega (arith, length-append front (x ∷ middle), ei, ej) in
    let at_j : get_or l j 0 ≡ y = ap (λ k. get_or k j 0) (el ∙ shape) ∙ get_or_at (front ++ x ∷ middle) y back 0 j len in
    let len' : length (front ++ y ∷ middle) ≡ j = omega (arith, length-append front (y ∷ middle), ei, ej) in
    ap (λ v. set (set l i v) j (get_or l i 0)) at_j
    ∙ ap (λ v. set (set l i y) j v) at_i
    ∙ ap (λ k. set (set k i y) j x) el
    ∙ ap (λ k. set k j x) (set_at front x (middle ++ y ∷ back) y i ei)
    ∙ ap (λ k. set k j x) (sym (append_assoc front (y ∷ middle) (y ∷ back)))
    ∙ set_at (front ++ y ∷ middle) y back x j len'
    ∙ append_assoc front (y ∷ middle) (x ∷ back)

pub replicate-cons : (c y : ℕ) (back : List ℕ) → y ∷ (replicate c y ++ back) ≡ replicate c y ++ y ∷ back
replicate-cons zero y back = refl
replicate-cons (suc c) y back = ap (λ l. y ∷ l) (replicate-cons c y back)

pub length-sizes : (places : List Extent) → length (sizes places) ≡ length places
length-sizes places = let f : Extent → ℕ = λ p. p.size in length-map places f

-- the place before a group goes behind it, in exchange for the group's last
pub sizes-back : (places : List Extent) (front back : List ℕ) (x y c i : ℕ) → sizes places ≡ front ++ x ∷ (replicate c y ++ back) → i ≡ length front →
    sizes (swap places i (i + c)) ≡ (front ++ replicate c y) ++ x ∷ back
sizes-back places front back x y zero i e ei =
    let inside : i < length places = omega (arith, length-sizes places, ap length e, length-append front (x ∷ back)) in
    let same : i + zero ≡ i = omega arith in
    ap (λ j. sizes (swap places i j)) same
    ∙ sizes-swap places i i inside inside
    ∙ ap (λ l. set l i (get_or (sizes places) i 0)) (set-get_or (sizes places) i 0)
    ∙ set-get_or (sizes places) i 0
    ∙ e
    ∙ ap (λ l. l ++ x ∷ back) (sym (append-nil front))
sizes-back places front back x y (suc c) i e ei =
    let count : length places ≡ length front + suc (suc c + length back) = omega (arith, length-sizes places, ap length e, length-append front (x ∷ (y ∷ (replicate c y ++ back))), length-append (replicate c y) back, length-replicate c y) in
    let low : i < length places = omega arith in
    let high : i + suc c < length places = omega arith in
    let shape : sizes places ≡ front ++ x ∷ (replicate c y ++ y ∷ back) = e ∙ ap (λ l. front ++ x ∷ l) (replicate-cons c y back) in
    sizes-swap places i (i + suc c) low high
    ∙ swapped_ends front (replicate c y) back x y i (i + suc c) (sym ei) (omega (arith, length-replicate c y)) (sizes places) shape
    ∙ sym (append_assoc front (y ∷ replicate c y) (x ∷ back))

pub moves_back : (gs : List Group) (i : ℕ) (d : Group) (places : List Extent) (front : List ℕ) (x hole : ℕ) → i < length gs →
    sizes places ≡ (front ++ laid (take i gs)) ++ x ∷ laid (drop i gs) → hole ≡ length front + length (laid (take i gs)) →
    sizes (swap places hole (hole + (get_or gs i d).count)) ≡ (front ++ laid (take (i + 1) gs)) ++ x ∷ laid (drop (i + 1) gs)
moves_back gs i d places front x hole h e eh =
    let g : Group = get_or gs i d in
    sizes-back places (front ++ laid (take i gs)) (laid (drop (i + 1) gs)) x g.size g.count hole (e ∙ ap (λ l. (front ++ laid (take i gs)) ++ x ∷ l) (laid-drop_more gs i d h)) (eh ∙ sym (length-append front (laid (take i gs))))
    ∙ ap (λ l. l ++ x ∷ laid (drop (i + 1) gs)) (append_assoc front (laid (take i gs)) (replicate g.count g.size) ∙ ap (λ l. front ++ l) (sym (laid-take_more gs i d h)))

pub length_laid-take_more : (gs : List Group) (i : ℕ) (d : Group) → i < length gs → length (laid (take (i + 1) gs)) ≡ length (laid (take i gs)) + (get_or gs i d).count
length_laid-take_more gs i d h =
    let g : Group = get_or gs i d in
    ap length (laid-take_more gs i d h) ∙ length-append (laid (take i gs)) (replicate g.count g.size) ∙ ap (λ n. length (laid (take i gs)) + n) (length-replicate g.count g.size)

-- the group's last place is one of the places
pub back_inside : (gs : List Group) (i : ℕ) (d : Group) (places : List Extent) (front : List ℕ) (x hole : ℕ) → i < length gs →
    sizes places ≡ (front ++ laid (take i gs)) ++ x ∷ laid (drop i gs) → hole ≡ length front + length (laid (take i gs)) → hole + (get_or gs i d).count < length places
back_inside gs i d places front x hole h e eh =
    let g : Group = get_or gs i d in
    omega (arith, length-sizes places, ap length e, length-append (front ++ laid (take i gs)) (x ∷ laid (drop i gs)), length-append front (laid (take i gs)), ap length (laid-drop_more gs i d h), length-append (replicate g.count g.size) (laid (drop (i + 1) gs)), length-replicate g.count g.size)

-- places in front of which `front` stands with the last size behind it go on so once that place was exchanged
pub sizes-front : (places : List Extent) (last i c y w : ℕ) (front back : List ℕ) → sizes places ≡ (front ++ y ∷ (replicate c y ++ back)) ++ w ∷ [] →
    i ≡ length front → last + 1 ≡ length places → sizes (swap places i last) ≡ (front ++ w ∷ (replicate c y ++ back)) ++ y ∷ []
sizes-front places last i c y w front back e ei el =
    let middle : List ℕ = replicate c y ++ back in
    let shape : sizes places ≡ front ++ y ∷ ((replicate c y ++ back) ++ w ∷ []) = e ∙ append_assoc front (y ∷ (replicate c y ++ back)) (w ∷ []) in
    let count : length places ≡ length front + suc (length (replicate c y ++ back) + 1) = omega (arith, length-sizes places, ap length shape, length-append front (y ∷ ((replicate c y ++ back) ++ w ∷ [])), length-append (replicate c y ++ back) (w ∷ [])) in
    sizes-swap places i last (omega arith) (omega arith)
    ∙ swapped_ends front (replicate c y ++ back) [] y w i last (sym ei) (omega arith) (sizes places) shape
    ∙ sym (append_assoc front (w ∷ (replicate c y ++ back)) (y ∷ []))

replicate-suc : (c y : ℕ) → replicate c y ++ y ∷ [] ≡ replicate (suc c) y
replicate-suc zero y = refl
replicate-suc (suc c) y = ap (λ l. y ∷ l) (replicate-suc c y)

-- what is done, but for its last size, then what is left, then that last size
pub record IsFronted (all done left : List ℕ) : Type 0 where
  pub front : List ℕ
  pub held : ℕ
  pub all_is : all ≡ (front ++ left) ++ held ∷ []
  pub done_is : front ++ held ∷ [] ≡ done

fronted_more : (places : List Extent) (i last c y : ℕ) (done back : List ℕ) → i + 1 ≡ length done → last + 1 ≡ length places → 0 < c →
    IsFronted (sizes places) done (replicate c y ++ back) → IsFronted (sizes (swap places i last)) (done ++ replicate c y) back
fronted_more places i last zero y done back ei el h f = absurd (omega arith)
fronted_more places i last (suc c) y done back ei el h f =
    let count : i ≡ length f.front = omega (arith, ap length f.done_is, length-append f.front (f.held ∷ [])) in
    record {
      front = f.front ++ f.held ∷ replicate c y;
      held = y;
      all_is = sizes-front places last i c y f.held f.front back f.all_is count el ∙ ap (λ l. l ++ y ∷ []) (sym (append_assoc f.front (f.held ∷ replicate c y) back));
      done_is = append_assoc f.front (f.held ∷ replicate c y) (y ∷ [])
          ∙ ap (λ l. f.front ++ f.held ∷ l) (replicate-suc c y)
          ∙ sym (append_assoc f.front (f.held ∷ []) (replicate (suc c) y))
          ∙ ap (λ l. l ++ replicate (suc c) y) f.done_is;
    }

-- the groups from the k-th on, of which the first is done
pub IsFronted-more : (gs : List Group) (k : ℕ) (d : Group) (places : List Extent) (start : List ℕ) (i last : ℕ) → k < length gs → i + 1 ≡ length start + length (laid (take k gs)) → last + 1 ≡ length places →
    0 < (get_or gs k d).count → IsFronted (sizes places) (start ++ laid (take k gs)) (laid (drop k gs)) →
    IsFronted (sizes (swap places i last)) (start ++ laid (take (k + 1) gs)) (laid (drop (k + 1) gs))
IsFronted-more gs k d places start i last h ei el filled f =
    let g : Group = get_or gs k d in
    let step = fronted_more places i last g.count g.size (start ++ laid (take k gs)) (laid (drop (k + 1) gs)) (ei ∙ sym (length-append start (laid (take k gs)))) el filled
    (subst (λ l. IsFronted (sizes places) (start ++ laid (take k gs)) l) (laid-drop_more gs k d h) f) in
    subst (λ l. IsFronted (sizes (swap places i last)) l (laid (drop (k + 1) gs))) (append_assoc start (laid (take k gs)) (replicate g.count g.size) ∙ ap (λ l. start ++ l) (sym (laid-take_more gs k d h))) step

-- a group of at least one place does not reach past the last place
pub front_inside : (gs : List Group) (k : ℕ) (d : Group) (places : List Extent) (start : List ℕ) (i last : ℕ) → k < length gs → i + 1 ≡ length start + length (laid (take k gs)) → last + 1 ≡ length places →
    IsFronted (sizes places) (start ++ laid (take k gs)) (laid (drop k gs)) → i + (get_or gs k d).count ≤ last
front_inside gs k d places start i last h ei el f =
    let g : Group = get_or gs k d in
    omega (arith, length-sizes places, ap length f.all_is, length-append (f.front ++ laid (drop k gs)) (f.held ∷ []), length-append f.front (laid (drop k gs)), ap length f.done_is, length-append start (laid (take k gs)), length-append f.front (f.held ∷ []), ap length (laid-drop_more gs k d h), length-append (replicate g.count g.size) (laid (drop (k + 1) gs)), length-replicate g.count g.size)
