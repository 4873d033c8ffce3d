-- A store of an array is one after a plan.
use Rattle.std.proofs.Common.{◌≡◌, ◌⊎◌, ℕ, ◌^◌, ◌<◌, ◌≤◌, true, false, List, [], ◌∷◌, length, get_or, refl, sym, ap, ◌∙◌, subst, inl, inr, arith}
use Rattle.std.specs.Prelude.{Option, Some, None, IfSome, map}
use Rattle.std.specs.Option.{option_map}
use Rattle.std.specs.List.{AllByRecursion}
use Rattle.std.proofs.lemmas.Bool.{cases_lt, cases_Bool, ltb-false, le-ltb, ltb-true}
use Rattle.h5w_model.specs.Numbers.{undefined}
use Rattle.h5w_model.specs.Checksum.{is_sealed}
use Rattle.h5w_model.specs.declared.piece.Write.{Write}
use Rattle.h5w_space.specs.Space.{Space}
use Rattle.h5w_cache.specs.Blocks.{BlockView, spelled}
use Rattle.h5w_cache.specs.Stores.{Store, block_of, place_of, place_in, times, is_changed}
use Rattle.h5w_cache.specs.Plans.{IsPlan, moved, stays}
use Rattle.h5w_cache.specs.declared.moves.Move.{Move}
use Rattle.h5w_cache.proofs.MoveLemmas.{stayed_of}
use Rattle.h5w_cache.proofs.PlannedLemmas.{length-moved, length-respelled}
use Rattle.h5w_cache.proofs.LawLemmas.{others_kept, each_spelled, no_move}
use Rattle.h5w_array_laws.specs.Parts.{Part, header, IsPart, number_of, children, parent}
use Rattle.h5w_array_laws.specs.ArrayStores.{HasHead, IsArray, IsBlock, IsHeaded, IsWhole, Names, block_at_part, place_at_part, header_place}
use Rattle.h5w_array_laws.proofs.StoreLemmas.{move_at, new_at, kept_before, kept_after, changed_moved, changed_placed}
use Rattle.h5w_array_laws.proofs.KeptLemmas.{some_or_none, of_some, some_is, is_some_of, none_is, unchanged}
use Rattle.h5w_array_laws.proofs.PlanLemmas.{place_stays, all_clean}
use Rattle.h5w_array_laws.proofs.SpelledLemmas.{MayName, IsChild, children_known, spelled_block, spelled_head, spelled_names, spelled_sealed}

-- ---- Whether a block changed

pub is_clean : (v : Store) (n : ℕ) → is_changed v n ≡ false → times n v.changed ≡ 0
is_clean v n h = let f = ltb-false 0 (times n v.changed) h in omega arith

pub clean_is : (v : Store) (n : ℕ) → times n v.changed ≡ 0 → is_changed v n ≡ false
clean_is v n h = le-ltb 0 (times n v.changed) (omega arith)

pub is_marked : (v : Store) (n : ℕ) → is_changed v n ≡ true → 0 < times n v.changed
is_marked v n h = ltb-true 0 (times n v.changed) h

pub for_all : {X : Type 0} (P Q : X → Type 0) (xs : List X) → ((x : X) → P x → Q x) → AllByRecursion P xs → AllByRecursion Q xs
for_all P Q [] f h = tt
for_all P Q (x ∷ xs) f h = (f x h.0, for_all P Q xs f h.1)

pub map_same : {X : Type 0} (f g : X → ℕ) (xs : List X) → AllByRecursion (λ x. f x ≡ g x) xs → map f xs ≡ map g xs
map_same f g [] h = refl
map_same f g (x ∷ xs) h = λ i. h.0 i ∷ map_same f g xs h.1 i

module _ (v : Store) (s : Space) (ms : List Move) (cs fs : List Write) (w : Store) (t : Space) (p : IsPlan v s ms cs fs w t) (a : IsArray v) where
  pub clean_block : (n : ℕ) → times n v.changed ≡ 0 → block_of w n ≡ block_of v n
  clean_block n h = (others_kept v s ms cs fs w t p n h).0

  pub clean_place : (n : ℕ) → times n v.changed ≡ 0 → place_of w n ≡ place_of v n
  clean_place n h = (others_kept v s ms cs fs w t p n h).1

  -- the block that stood under a number of one that is kept
  pub block_before : (n : ℕ) (c : BlockView) → block_of w n ≡ Some c → (b : BlockView) × (block_of v n ≡ Some b)
  block_before n c e = is_some_of (block_of v n) (kept_before v s ms cs fs w t p n (some_is (block_of w n) c e))

  pub clean_same : (n : ℕ) (b c : BlockView) → block_of v n ≡ Some b → block_of w n ≡ Some c → times n v.changed ≡ 0 → b ≡ c
  clean_same n b c e f h = let g : Some b ≡ Some c = sym e ∙ sym (clean_block n h) ∙ f in cc

  pub changed_spelled : (n : ℕ) (b c : BlockView) → block_of v n ≡ Some b → block_of w n ≡ Some c → 0 < times n v.changed → spelled (place_in w.places) b ≡ c
  changed_spelled n b c e f h =
      let g : Some (spelled (place_in w.places) b) ≡ Some c = ap (option_map (spelled (place_in w.places))) (sym e) ∙ sym (each_spelled v s ms cs fs w t p n h) ∙ f in
      cc

  -- ---- Places

  pub place_below : (n : ℕ) → place_of w n < 2 ^ 64
  place_below n = go (cases_lt 0 (times n v.changed))
    where
      go : (0 < times n v.changed) ⊎ (times n v.changed ≤ 0) → place_of w n < 2 ^ 64
      go (inr none) = subst (λ q. q < 2 ^ 64) (sym (clean_place n (omega arith))) (a.below n)
      go (inl some) =
          let f = changed_moved v s ms cs fs w t p n some in
          let m : Move = get_or ms f.0 no_move in
          let at = move_at v s ms cs fs w t p f.0 f.1 in
          let new : place_of w n ≡ m.new = ap (place_of w) (sym f.2) ∙ new_at v s ms cs fs w t p f.0 f.1 in
          elim (cases_Bool (stays m.in_place m.old)) [
            | inl still ↦
                let old : m.new ≡ place_of v n = stayed_of v.blocks v.places at.before m at.after at.step still ∙ at.step.old ∙ ap (place_of v) f.2 in
                subst (λ q. q < 2 ^ 64) (sym (new ∙ old)) (a.below n)
            | inr goes ↦ let ends = at.step.ends goes in omega (arith, new, ends)
          ]

  -- a part that has no place afterwards had none, and is not kept
  pub none_after : (k : Part) → IsPart k → place_at_part w k ≡ undefined → place_at_part v k ≡ undefined
  none_after k is e = go (cases_lt 0 (times (number_of k) v.changed))
    where
      go : (0 < times (number_of k) v.changed) ⊎ (times (number_of k) v.changed ≤ 0) → place_at_part v k ≡ undefined
      go (inl some) = absurd ((changed_placed v s ms cs fs w t p (number_of k) some).placed e)
      go (inr none) = sym (clean_place (number_of k) (omega arith)) ∙ e

  pub top_stays : header_place w ≡ header_place v
  top_stays = place_stays v s ms cs fs w t p a header tt refl

  -- ---- Each block

  pub block_after : (k : Part) → IsPart k → (c : BlockView) → block_at_part w k ≡ Some c → IsBlock k c
  block_after k is c e =
      let n : ℕ = number_of k in
      let b = block_before n c e in
      let was : IsBlock k b.0 = of_some (IsBlock k) (block_at_part v k) b.0 b.1 (a.each k is) in
      elim (cases_lt 0 (times n v.changed)) [
        | inl some ↦ subst (λ x. IsBlock k x) (changed_spelled n b.0 c b.1 e some) (spelled_block (place_in w.places) k b.0 was)
        | inr none ↦ subst (λ x. IsBlock k x) (clean_same n b.0 c b.1 e (omega arith)) was
      ]

  -- what a block that did not change names did not change
  pub children_clean : (k : Part) → IsPart k → times (number_of k) v.changed ≡ 0 → AllByRecursion (λ c. place_at_part v c ≡ place_at_part w c) (children k)
  children_clean k is clean =
      for_all (IsChild k) (λ c. place_at_part v c ≡ place_at_part w c) (children k) (λ c known. same c known (cases_Bool (is_changed v (number_of c)))) (children_known k is)
    where
      same : (c : Part) → IsChild k c → (is_changed v (number_of c) ≡ true) ⊎ (is_changed v (number_of c) ≡ false) → place_at_part v c ≡ place_at_part w c
      same c known (inl e) =
          let up : is_changed v (number_of k) ≡ true = subst (λ x. is_changed v (number_of x) ≡ true) known.1 (a.marked c known.0 e) in
          let some = is_marked v (number_of k) up in
          absurd (omega (arith, some, clean))
      same c known (inr e) = sym (clean_place (number_of c) (is_clean v (number_of c) e))

  pub children_may : (k : Part) → IsPart k → AllByRecursion (MayName (place_in w.places) (place_at_part v)) (children k)
  children_may k is =
      for_all (IsChild k) (MayName (place_in w.places) (place_at_part v)) (children k)
      (λ c known. record { fits = place_below (number_of c); none = λ e. none_after c known.0 e }) (children_known k is)

  pub names_after : (k : Part) → IsPart k → (c : BlockView) → block_at_part w k ≡ Some c → Names w k c
  names_after k is c e =
      let n : ℕ = number_of k in
      let b = block_before n c e in
      let was : IsBlock k b.0 = of_some (IsBlock k) (block_at_part v k) b.0 b.1 (a.each k is) in
      let named : Names v k b.0 = of_some (Names v k) (block_at_part v k) b.0 b.1 (a.names k is) in
      elim (cases_lt 0 (times n v.changed)) [
        | inl some ↦
            subst (λ x. Names w k x) (changed_spelled n b.0 c b.1 e some)
            (spelled_names (place_in w.places) k b.0 was (place_at_part v) (children_may k is) named)
        | inr none ↦
            subst (λ x. Names w k x) (clean_same n b.0 c b.1 e (omega arith))
            (named ∙ map_same (place_at_part v) (place_at_part w) (children k) (children_clean k is (omega arith)))
      ]

  pub whole_after : (k : Part) → IsPart k → (c : BlockView) → block_at_part w k ≡ Some c → IsWhole w k c
  whole_after k is c e =
      let n : ℕ = number_of k in
      let b = block_before n c e in
      let was : IsBlock k b.0 = of_some (IsBlock k) (block_at_part v k) b.0 b.1 (a.each k is) in
      elim (cases_lt 0 (times n v.changed)) [
        | inl some ↦ record {
          placed = (changed_placed v s ms cs fs w t p n some).placed;
          sealed = subst (λ x. is_sealed x.bytes ≡ true) (changed_spelled n b.0 c b.1 e some) (spelled_sealed (place_in w.places) k b.0 was);
        }
        | inr none ↦
            let clean : times n v.changed ≡ 0 = omega arith in
            let whole = of_some (IsWhole v k) (block_at_part v k) b.0 b.1 (a.whole k is (clean_is v n clean)) in
            record {
              placed = λ u. whole.placed (sym (clean_place n clean) ∙ u);
              sealed = subst (λ x. is_sealed x.bytes ≡ true) (clean_same n b.0 c b.1 e clean) whole.sealed;
            }
      ]

  -- ---- Heads

  pub head_after : IsHeaded v → (k : Part) → IsPart k → (c : BlockView) → block_at_part w k ≡ Some c → HasHead (header_place w) k c
  head_after h k is c e =
      let n : ℕ = number_of k in
      let b = block_before n c e in
      let known : IsBlock k b.0 = of_some (IsBlock k) (block_at_part v k) b.0 b.1 (a.each k is) in
      let was : HasHead (header_place v) k b.0 = of_some (HasHead (header_place v) k) (block_at_part v k) b.0 b.1 (h k is) in
      subst (λ q. HasHead q k c) (sym top_stays)
      (elim (cases_lt 0 (times n v.changed)) [
        | inl some ↦ subst (λ x. HasHead (header_place v) k x) (changed_spelled n b.0 c b.1 e some) (spelled_head (place_in w.places) k b.0 known (header_place v) was)
        | inr none ↦ subst (λ x. HasHead (header_place v) k x) (clean_same n b.0 c b.1 e (omega arith)) was
      ])

  -- ---- The store

  pub if_some : {A : Type 0} (o : Option A) (Q : A → Type 0) → ((x : A) → o ≡ Some x → Q x) → IfSome o Q
  if_some None Q h = tt
  if_some (Some x) Q h = h x refl

  pub none_before : (n : ℕ) → block_of w n ≡ None → block_of v n ≡ None
  none_before n e = go (some_or_none (block_of v n))
    where
      go : (block_of v n ≡ None) ⊎ ((x : BlockView) × (block_of v n ≡ Some x)) → block_of v n ≡ None
      go (inl h) = h
      go (inr x) = absurd (none_is (block_of w n) e (kept_after v s ms cs fs w t p n (some_is (block_of v n) x.0 x.1)))

  pub never : (n : ℕ) → is_changed w n ≡ true → ⊥
  never n h = let f : is_changed w n ≡ false = unchanged w (all_clean v s ms cs fs w t p) n in absurd cc

  pub array_after : IsArray w
  array_after = record {
    count = ap (λ (q : Store). length q.blocks) p.store ∙ length-respelled (place_in (moved ms v.places)) ms v.blocks ∙ a.count;
    each_place = ap (λ (q : Store). length q.places) p.store ∙ length-moved ms v.places ∙ a.each_place;
    below = place_below;
    known = λ n h. a.known n (kept_before v s ms cs fs w t p n h);
    each = λ k is. if_some (block_at_part w k) (IsBlock k) (block_after k is);
    names = λ k is. if_some (block_at_part w k) (Names w k) (names_after k is);
    in_place = λ k is stay. (
      kept_after v s ms cs fs w t p (number_of k) (a.in_place k is stay).0,
      λ u. (a.in_place k is stay).1 (sym (place_stays v s ms cs fs w t p a k is stay) ∙ u),
    );
    held = λ k is h. kept_after v s ms cs fs w t p (number_of (parent k)) (a.held k is (kept_before v s ms cs fs w t p (number_of k) h));
    unplaced = λ k is e.
        let none = none_before (number_of k) e in
        let clean : times (number_of k) v.changed ≡ 0 = elim (cases_Bool (is_changed v (number_of k))) [
          | inl m ↦ absurd (none_is (block_at_part v k) none (a.kept (number_of k) m))
          | inr m ↦ is_clean v (number_of k) m
        ] in
        clean_place (number_of k) clean ∙ a.unplaced k is none;
    marked = λ k is h. absurd (never (number_of k) h);
    kept = λ n h. absurd (never n h);
    together = λ h. absurd (never 846 h);
    whole = λ k is h. if_some (block_at_part w k) (IsWhole w k) (whole_after k is);
  }

  pub headed_after : IsHeaded v → IsHeaded w
  headed_after h k is = if_some (block_at_part w k) (HasHead (header_place w) k) (head_after h k is)
