-- What an array uses after a plan it used before, or its copies took.
use Rattle.std.proofs.Common.{◌≡◌, ◌≢◌, ◌⊎◌, ℕ, ◌<◌, ◌≤◌, true, false, cond, List, [], ◌∷◌, ◌++◌, length, get_or, refl, sym, ap, ◌∙◌, subst, inl, inr, arith}
use Rattle.std.specs.Prelude.{◌==◌, Some, flat_map}
use Rattle.std.specs.List.{AllByRecursion}
use Rattle.std.proofs.lemmas.Bool.{cases_lt, cases_Bool}
use Rattle.std.proofs.lemmas.Bool.Decides.{eqb_tells}
use Rattle.h5w_model.specs.Numbers.{undefined}
use Rattle.h5w_model.specs.Findings.{Used}
use Rattle.h5w_model.specs.declared.piece.Write.{Write}
use Rattle.h5w_space.specs.Space.{Space, Apart, extent}
use Rattle.h5w_space.proofs.Sound.{Apart-sym}
use Rattle.h5w_cache.specs.Blocks.{BlockView}
use Rattle.h5w_cache.specs.Stores.{Store, block_of, place_of, is_changed}
use Rattle.h5w_cache.specs.Plans.{IsPlan, bytes_of}
use Rattle.h5w_cache.specs.declared.moves.Move.{Move}
use Rattle.h5w_cache.proofs.MoveLemmas.{Apart-sides, two_apart}
use Rattle.h5w_cache.proofs.LawLemmas.{no_move}
use Rattle.h5w_step_laws.specs.Ranges.{Among, AreApart, Disjoint, block_at}
use Rattle.h5w_step_laws.proofs.RangeLemmas.{among_split}
use Rattle.h5w_step_laws.specs.Counts.{count_at}
use Rattle.h5w_step_laws.proofs.PartLemmas.{at_most_one, counted_one, counted_else}
use Rattle.h5w_array_laws.specs.Parts.{Part, index_block, number_of, length_of, visit_order}
use Rattle.h5w_array_laws.specs.Among.{AreAmong}
use Rattle.h5w_array_laws.specs.ArrayPlans.{fresh}
use Rattle.h5w_array_laws.specs.ArrayStores.{IsArray, IsBlock, block_at_part, place_at_part, chunks_in, slots_in, own_range, ranges_of, behind_of}
use Rattle.h5w_array_laws.proofs.AmongLemmas.{part_itself, part_onward, part_right, part_joined, part_more, each-among}
use Rattle.h5w_array_laws.proofs.StoreLemmas.{move_at, new_at, changed_moved}
use Rattle.h5w_array_laws.proofs.KeptLemmas.{is_some_of, of_some}
use Rattle.h5w_array_laws.proofs.PlanLemmas.{someAnd_of}
use Rattle.h5w_array_laws.proofs.PlannedLemmas.{for_all, is_clean, is_marked, clean_place}
use Rattle.h5w_array_laws.proofs.MapLemmas.{slots_stay}
use Rattle.h5w_array_laws.proofs.OrderLemmas.{IsCopied, AreDistinct, visited_copied, visited_distinct}
use Rattle.h5w_array_laws.proofs.FreshLemmas.{moves_on, fresh_has}

-- what holds of each range of some parts
pub among_each : {X : Type 0} (Q : Used → Type 0) (R : X → Type 0) (more : X → List Used) (xs : List X) → AllByRecursion R xs → ((x : X) → R x → (u : Used) → Among u (more x) → Q u) → (u : Used) → Among u (flat_map more xs) → Q u
among_each Q R more [] h f u a = absurd a
among_each Q R more (x ∷ xs) h f u a = go (among_split u (more x) (flat_map more xs) a) (among_each Q R more xs h.1 f u)
  where
    go : Among u (more x) ⊎ Among u (flat_map more xs) → (Among u (flat_map more xs) → Q u) → Q u
    go (inl b) later = f x h.0 u b
    go (inr b) later = later b

-- where a range begins at a place there is one
pub counted_some : (p : ℕ) (us : List Used) → 0 < count_at p us → (u : Used) × Among u us × (u.place ≡ p)
counted_some p [] h = absurd (omega arith)
counted_some p (x ∷ us) h = go (eqb_tells x.place p) (counted_some p us)
  where
    go : ((x.place == p) ≡ true) × (x.place ≡ p) ⊎ ((x.place == p) ≡ false) × (x.place ≢ p) → (0 < count_at p us → (u : Used) × Among u us × (u.place ≡ p)) → (u : Used) × Among u (x ∷ us) × (u.place ≡ p)
    go (inl t) later = (x, inl refl, t.1)
    go (inr t) later = let f = later (omega (arith, h, counted_else p x us t.0)) in (f.0, inr f.1, f.2)

-- the new place of a part that changed
abbrev pub moved_range : Store → Store → Part → List Used
moved_range v w k = cond (is_changed v (number_of k)) (own_range w k) []

pub changed_range : (v w : Store) (k : Part) → is_changed v (number_of k) ≡ true → moved_range v w k ≡ own_range w k
changed_range v w k e = ap (λ c. cond c (own_range w k) []) e

pub same_range : (v w : Store) (k : Part) → is_changed v (number_of k) ≡ false → moved_range v w k ≡ []
same_range v w k e = ap (λ c. cond c (own_range w k) []) e

-- a part's own range is none, or one
pub own_cases : (w : Store) (k : Part) → (own_range w k ≡ []) ⊎ (own_range w k ≡ block_at (place_at_part w k) (length_of k) ∷ [])
own_cases w k = go (cases_Bool (place_at_part w k == undefined))
  where
    go : ((place_at_part w k == undefined) ≡ true) ⊎ ((place_at_part w k == undefined) ≡ false) → (own_range w k ≡ []) ⊎ (own_range w k ≡ block_at (place_at_part w k) (length_of k) ∷ [])
    go (inl e) = inl (ap (λ c. cond c [] (block_at (place_at_part w k) (length_of k) ∷ [])) e)
    go (inr e) = inr (ap (λ c. cond c [] (block_at (place_at_part w k) (length_of k) ∷ [])) e)

pub own_is : (w : Store) (k : Part) (u : Used) → Among u (own_range w k) → block_at (place_at_part w k) (length_of k) ≡ u
own_is w k u a = go (own_cases w k)
  where
    one : Among u (block_at (place_at_part w k) (length_of k) ∷ []) → block_at (place_at_part w k) (length_of k) ≡ u
    one (inl e) = e
    one (inr b) = absurd b

    go : (own_range w k ≡ []) ⊎ (own_range w k ≡ block_at (place_at_part w k) (length_of k) ∷ []) → block_at (place_at_part w k) (length_of k) ≡ u
    go (inl e) = absurd (subst (λ (us : List Used). Among u us) e a)
    go (inr e) = one (subst (λ (us : List Used). Among u us) e a)

-- the ranges of one part with none other, before those of later ones
pub disjoint_put : (us vs : List Used) (x : Used) → (us ≡ []) ⊎ (us ≡ x ∷ []) → (Among x us → 0 < x.len) → (Among x us → (u : Used) → Among u vs → AreApart x u) → Disjoint vs → Disjoint (us ++ vs)
disjoint_put us vs x (inl e) some apart d = subst (λ (l : List Used). Disjoint (l ++ vs)) (sym e) d
disjoint_put us vs x (inr e) some apart d =
    let there : Among x us = subst (λ (l : List Used). Among x l) (sym e) (inl refl) in
    subst (λ (l : List Used). Disjoint (l ++ vs)) (sym e) (some there, apart there, d)

module _ (v : Store) (s : Space) (ms : List Move) (cs fs : List Write) (w : Store) (t : Space) (p : IsPlan v s ms cs fs w t) (a : IsArray v) where
  -- the move of a part that was copied
  pub record IsCopy (k : Part) (u : Used) : Type 0 where
    pub index : ℕ
    pub inside : index < length ms
    pub number : (get_or ms index no_move).number ≡ number_of k
    pub moves : (get_or ms index no_move).in_place ≡ false
    pub is : block_at (get_or ms index no_move).new (get_or ms index no_move).len ≡ u

  pub copy_of : (k : Part) → IsCopied k → (u : Used) → Among u (moved_range v w k) → IsCopy k u
  copy_of k copied u b = go (cases_Bool (is_changed v (number_of k)))
    where
      go : (is_changed v (number_of k) ≡ true) ⊎ (is_changed v (number_of k) ≡ false) → IsCopy k u
      go (inr e) = absurd (subst (λ (us : List Used). Among u us) (same_range v w k e) b)
      go (inl e) =
          let f = changed_moved v s ms cs fs w t p (number_of k) (is_marked v (number_of k) e) in
          let m : Move = get_or ms f.0 no_move in
          let at = move_at v s ms cs fs w t p f.0 f.1 in
          let c = is_some_of (block_of v (number_of k)) (a.kept (number_of k) e) in
          let known : IsBlock k c.0 = of_some (IsBlock k) (block_at_part v k) c.0 c.1 (a.each k copied.part) in
          let here : block_of v m.number ≡ Some c.0 = ap (block_of v) f.2 ∙ c.1 in
          let moves : m.in_place ≡ false = someAnd_of (λ (x : BlockView). m.in_place ≡ x.in_place) (block_of v m.number) c.0 here at.step.in_place ∙ known.in_place ∙ copied.moves in
          let len : m.len ≡ length_of k = at.step.len ∙ ap (λ o. length (bytes_of o)) here ∙ known.len in
          let new : m.new ≡ place_at_part w k = sym (new_at v s ms cs fs w t p f.0 f.1) ∙ ap (place_of w) f.2 in
          let own : block_at (place_at_part w k) (length_of k) ≡ u = own_is w k u (subst (λ (us : List Used). Among u us) (changed_range v w k e) b) in
          record {
            index = f.0;
            inside = f.1;
            number = f.2;
            moves = moves;
            is = ap (λ q. block_at q m.len) new ∙ ap (λ n. block_at (place_at_part w k) n) len ∙ own;
          }

  -- what was taken for a copy
  pub copy_fresh : (k : Part) (u : Used) → IsCopy k u → Among u (fresh ms)
  copy_fresh k u c = subst (λ (x : Used). Among x (fresh ms)) c.is (fresh_has ms c.index c.inside c.moves)

  pub copy_some : (k : Part) (u : Used) → IsCopy k u → 0 < u.len
  copy_some k u c = let some = (move_at v s ms cs fs w t p c.index c.inside).step.some in subst (λ (x : Used). 0 < x.len) c.is some

  pub moves_apart : (i j : ℕ) → i < length ms → j < length ms → i ≢ j → (get_or ms i no_move).in_place ≡ false → (get_or ms j no_move).in_place ≡ false
      → Apart (extent (get_or ms i no_move).new (get_or ms i no_move).len) (extent (get_or ms j no_move).new (get_or ms j no_move).len)
  moves_apart i j li lj ne mi mj = go (cases_lt i j)
    where
      m : Move
      m = get_or ms i no_move

      n : Move
      n = get_or ms j no_move

      go : (i < j) ⊎ (j ≤ i) → Apart (extent (get_or ms i no_move).new (get_or ms i no_move).len) (extent (get_or ms j no_move).new (get_or ms j no_move).len)
      go (inl lt) =
          Apart-sym (extent n.new n.len) (extent m.new m.len)
          (two_apart v.blocks v.places s ms p.taken.taken i j no_move p.taken.moves lt lj (moves_on m.in_place m.old mi) (moves_on n.in_place n.old mj))
      go (inr le) = two_apart v.blocks v.places s ms p.taken.taken j i no_move p.taken.moves (omega (arith, le, ne)) li (moves_on n.in_place n.old mj) (moves_on m.in_place m.old mi)

  pub copies_apart : (k m : Part) (u x : Used) → number_of m ≢ number_of k → IsCopy k u → IsCopy m x → AreApart u x
  copies_apart k m u x ne c d =
      let other : c.index ≢ d.index = λ e. absurd (ne (sym d.number ∙ ap (λ i. (get_or ms i no_move).number) (sym e) ∙ c.number)) in
      let far = moves_apart c.index d.index c.inside d.inside other c.moves d.moves in
      let sides : AreApart (block_at (get_or ms c.index no_move).new (get_or ms c.index no_move).len) (block_at (get_or ms d.index no_move).new (get_or ms d.index no_move).len) =
      Apart-sides (extent (get_or ms c.index no_move).new (get_or ms c.index no_move).len) (extent (get_or ms d.index no_move).new (get_or ms d.index no_move).len)
      (move_at v s ms cs fs w t p c.index c.inside).step.some (move_at v s ms cs fs w t p d.index d.inside).step.some far in
      subst (λ (y : Used). AreApart y x) c.is (subst (λ (y : Used). AreApart (block_at (get_or ms c.index no_move).new (get_or ms c.index no_move).len) y) d.is sides)

  pub moved_cases : (k : Part) → (moved_range v w k ≡ []) ⊎ (moved_range v w k ≡ block_at (place_at_part w k) (length_of k) ∷ [])
  moved_cases k = go (cases_Bool (is_changed v (number_of k))) (own_cases w k)
    where
      go : (is_changed v (number_of k) ≡ true) ⊎ (is_changed v (number_of k) ≡ false) → (own_range w k ≡ []) ⊎ (own_range w k ≡ block_at (place_at_part w k) (length_of k) ∷ [])
          → (moved_range v w k ≡ []) ⊎ (moved_range v w k ≡ block_at (place_at_part w k) (length_of k) ∷ [])
      go (inl e) (inl h) = inl (changed_range v w k e ∙ h)
      go (inl e) (inr h) = inr (changed_range v w k e ∙ h)
      go (inr e) h = inl (same_range v w k e)

  -- what is asked of a later part
  pub record IsOther (k m : Part) : Type 0 where
    pub copied : IsCopied m
    pub differs : number_of m ≢ number_of k

  pub others_of : (k : Part) (ks : List Part) → AllByRecursion IsCopied ks → AllByRecursion (λ m. number_of m ≢ number_of k) ks → AllByRecursion (IsOther k) ks
  others_of k [] h g = tt
  others_of k (m ∷ ms) h g = (record { copied = h.0; differs = g.0 }, others_of k ms h.1 g.1)

  pub moved_disjoint : (ks : List Part) → AllByRecursion IsCopied ks → AreDistinct ks → Disjoint (flat_map (moved_range v w) ks)
  moved_disjoint [] h d = tt
  moved_disjoint (k ∷ ks) h d =
      let x : Used = block_at (place_at_part w k) (length_of k) in
      disjoint_put (moved_range v w k) (flat_map (moved_range v w) ks) x (moved_cases k)
      (λ b. copy_some k x (copy_of k h.0 x b))
      (λ b u c. among_each (λ y. AreApart x y) (IsOther k) (moved_range v w) ks (others_of k ks h.1 d.0)
      (λ m o y e. copies_apart k m x y o.differs (copy_of k h.0 x b) (copy_of m o.copied y e)) u c)
      (moved_disjoint ks h.1 d.1)

  -- the new places are among those that the copies took
  pub moved_fresh : AreAmong (flat_map (moved_range v w) visit_order) (fresh ms)
  moved_fresh = record { among = member; counts = λ q. counted q (cases_lt 0 (count_at q (flat_map (moved_range v w) visit_order))) }
    where
      member : (u : Used) → Among u (flat_map (moved_range v w) visit_order) → Among u (fresh ms)
      member u b = among_each (λ y. Among y (fresh ms)) IsCopied (moved_range v w) visit_order visited_copied (λ k h y c. copy_fresh k y (copy_of k h y c)) u b

      counted : (q : ℕ) → (0 < count_at q (flat_map (moved_range v w) visit_order)) ⊎ (count_at q (flat_map (moved_range v w) visit_order) ≤ 0) → count_at q (flat_map (moved_range v w) visit_order) ≤ count_at q (fresh ms)
      counted q (inr none) = omega arith
      counted q (inl some) =
          let f = counted_some q (flat_map (moved_range v w) visit_order) some in
          let one = at_most_one q (flat_map (moved_range v w) visit_order) (moved_disjoint visit_order visited_copied visited_distinct) in
          omega (arith, one, counted_one f.0 q (fresh ms) (member f.0 f.1) f.2)

  -- ---- Each part

  pub part_after : (bytes : ℕ) (k : Part) → IsCopied k → AreAmong (ranges_of bytes w k) (moved_range v w k ++ ranges_of bytes v k)
  part_after bytes k copied = go (cases_Bool (is_changed v (number_of k)))
    where
      chunks : List Used
      chunks = chunks_in bytes (slots_in (block_at_part v k) k)

      is : ranges_of bytes w k ≡ own_range w k ++ chunks
      is = ap (λ l. own_range w k ++ chunks_in bytes l) (slots_stay v s ms cs fs w t p a k copied.part)

      go : (is_changed v (number_of k) ≡ true) ⊎ (is_changed v (number_of k) ≡ false) → AreAmong (ranges_of bytes w k) (moved_range v w k ++ ranges_of bytes v k)
      go (inl e) =
          subst (λ (us : List Used). AreAmong us (moved_range v w k ++ ranges_of bytes v k)) (sym is)
          (subst (λ (us : List Used). AreAmong (own_range w k ++ chunks) (us ++ ranges_of bytes v k)) (sym (changed_range v w k e))
          (part_joined (own_range w k) chunks (own_range w k) (ranges_of bytes v k) (part_itself (own_range w k)) (part_right (own_range v k) chunks)))
      go (inr e) =
          let place : place_at_part w k ≡ place_at_part v k = clean_place v s ms cs fs w t p a (number_of k) (is_clean v (number_of k) e) in
          let same : ranges_of bytes w k ≡ ranges_of bytes v k = is ∙ ap (λ q. cond (q == undefined) [] (block_at q (length_of k) ∷ []) ++ chunks) place in
          subst (λ (us : List Used). AreAmong us (moved_range v w k ++ ranges_of bytes v k)) (sym same) (part_right (moved_range v w k) (ranges_of bytes v k))

  pub parts_after : (bytes : ℕ) (ks : List Part) → AllByRecursion IsCopied ks → AreAmong (flat_map (ranges_of bytes w) ks) (flat_map (moved_range v w) ks ++ flat_map (ranges_of bytes v) ks)
  parts_after bytes ks h = each-among (ranges_of bytes w) (moved_range v w) (ranges_of bytes v) ks
      (for_all IsCopied (λ k. AreAmong (ranges_of bytes w k) (moved_range v w k ++ ranges_of bytes v k)) ks (part_after bytes) h)

  pub behind_after : (bytes : ℕ) → AreAmong (behind_of bytes w) (fresh ms ++ behind_of bytes v)
  behind_after bytes =
      let own : List Used = chunks_in bytes (slots_in (block_at_part v index_block) index_block) in
      let old : List Used = flat_map (ranges_of bytes v) visit_order in
      let more : List Used = flat_map (moved_range v w) visit_order in
      let is : behind_of bytes w ≡ own ++ flat_map (ranges_of bytes w) visit_order = ap (λ l. chunks_in bytes l ++ flat_map (ranges_of bytes w) visit_order) (slots_stay v s ms cs fs w t p a index_block tt) in
      subst (λ (us : List Used). AreAmong us (fresh ms ++ behind_of bytes v)) (sym is)
      (part_onward (own ++ flat_map (ranges_of bytes w) visit_order) (more ++ (own ++ old)) (fresh ms ++ (own ++ old))
      (part_more own (flat_map (ranges_of bytes w) visit_order) [] more own old (part_itself own) (parts_after bytes visit_order visited_copied))
      (part_joined more (own ++ old) (fresh ms) (own ++ old) moved_fresh (part_itself (own ++ old))))
