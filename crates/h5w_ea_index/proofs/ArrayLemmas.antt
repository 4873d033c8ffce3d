-- A store of an array stays one where blocks are marked, a block is added, and a block's bytes change.
use Rattle.std.proofs.Common.{◌≡◌, ◌≢◌, inl, inr, ℕ, ◌^◌, ◌<◌, List, [], ◌∷◌, length, map, get_or, true, false, refl, sym, ap, subst, ◌∙◌, arith}
use Rattle.std.proofs.Math.ListN.{set}
use Rattle.std.proofs.lemmas.List.{length-set}
use Rattle.std.proofs.lemmas.Option.{IfSome_then}
use Rattle.std.proofs.lemmas.Bool.{cases_eq, cases_Bool}
use Rattle.std.specs.Prelude.{Option, Some, None, IsSome, IfSome, is_some}
use Rattle.h5w_model.specs.Numbers.{undefined}
use Rattle.h5w_cache.specs.Blocks.{BlockView}
use Rattle.h5w_cache.specs.Stores.{Store, block_of, place_of, is_changed, is_listed, marked, changed_to, kept_under}
use Rattle.h5w_array_laws.specs.Parts.{Part, index_block, header, IsPart, number_of, children, parent}
use Rattle.h5w_array_laws.specs.ArrayStores.{HasHead, IsArray, IsBlock, IsHeaded, IsWhole, Names, block_at_part, place_at_part, header_place}
use Rattle.h5w_ea_index.proofs.PartLemmas.{number_decides, number_inside}
use Rattle.h5w_ea_index.proofs.StoreLemmas.{marks, marked-is, marks-self, marks-more, marks-other, set-other, set-cases, place-same}

pub map-same : {A : Type 0} (f g : A → ℕ) (xs : List A) → ((x : A) → f x ≡ g x) → map f xs ≡ map g xs
map-same f g [] h = refl
map-same f g (x ∷ xs) h = λ i. h x i ∷ map-same f g xs h i

-- ---- Marks

-- what is asked of the list of changed numbers
pub record AreMarked (blocks : List (Option BlockView)) (d : List ℕ) : Type 0 where
  pub marked : (k : Part) → IsPart k → is_listed (number_of k) d ≡ true → is_listed (number_of (parent k)) d ≡ true
  pub kept : (n : ℕ) → is_listed n d ≡ true → IsSome (get_or blocks n None)
  pub together : is_listed (number_of header) d ≡ true → is_listed (number_of index_block) d ≡ true

-- the same blocks with more of them changed
pub remarked : (v : Store) (d : List ℕ) → IsArray v → AreMarked v.blocks d → ((n : ℕ) → is_listed n d ≡ false → is_listed n v.changed ≡ false) → IsArray (record v { changed = d })
remarked v d a m clean = record {
  count = a.count;
  each_place = a.each_place;
  below = a.below;
  known = a.known;
  each = a.each;
  names = a.names;
  in_place = a.in_place;
  held = a.held;
  unplaced = a.unplaced;
  marked = m.marked;
  kept = m.kept;
  together = m.together;
  whole = λ k p h. IfSome_then (block_at_part v k) (a.whole k p (clean (number_of k) h)) (λ b w. record { placed = w.placed; sealed = w.sealed });
}

listed_cases : (n m : ℕ) (c : List ℕ) (P : Type 0) → is_listed m (marks n c) ≡ true → (n ≡ m → P) → (n ≢ m → is_listed m c ≡ true → P) → P
listed_cases n m c P h same other =
    elim (cases_eq n m) [
      | inl e ↦ same e
      | inr ne ↦ other ne (sym (marks-other n m c ne) ∙ h)
    ]

unlisted : (n m : ℕ) (c : List ℕ) → is_listed m (marks n c) ≡ false → is_listed m c ≡ false
unlisted n m c h = elim (cases_Bool (is_listed m c)) [ inl e ↦ absurd (let t = marks-more n m c e in cc) | inr e ↦ e ]

-- a block whose parent is changed
pub marked_array : (v : Store) (k : Part) → IsPart k → k ≢ header → IsArray v → IsSome (block_at_part v k) → is_changed v (number_of (parent k)) ≡ true → IsArray (marked (number_of k) v)
marked_array v k p other a kept up =
    let n : ℕ = number_of k in
    subst IsArray (sym (marked-is n v)) (remarked v (marks n v.changed) a (record {
      marked = λ m q h. listed_cases n (number_of m) v.changed (is_listed (number_of (parent m)) (marks n v.changed) ≡ true) h
          (λ e. marks-more n (number_of (parent m)) v.changed (subst (λ x. is_listed (number_of (parent x)) v.changed ≡ true) (number_decides k m p q e) up))
          (λ ne l. marks-more n (number_of (parent m)) v.changed (a.marked m q l));
      kept = λ m h. listed_cases n m v.changed (IsSome (get_or v.blocks m None)) h (λ e. subst (λ x. IsSome (block_of v x)) e kept) (λ ne l. a.kept m l);
      together = λ h. listed_cases n (number_of header) v.changed (is_listed (number_of index_block) (marks n v.changed) ≡ true) h
          (λ e. absurd (other (number_decides k header p tt e))) (λ ne l. marks-more n (number_of index_block) v.changed (a.together l));
    }) (λ m h. unlisted n m v.changed h))

-- header and index block
pub marked_top : (v : Store) → IsArray v → IsArray (marked (number_of index_block) (marked (number_of header) v))
marked_top v a =
    let c : List ℕ = marks 846 v.changed in
    let d : List ℕ = marks 845 c in
    let u : Store = record v { changed = c } in
    let both : marked 845 (marked 846 v) ≡ record v { changed = d } = ap (marked 845) (marked-is 846 v) ∙ marked-is 845 u in
    let first : is_listed 845 d ≡ true = marks-self 845 c in
    let second : is_listed 846 d ≡ true = marks-more 845 846 c (marks-self 846 v.changed) in
    let more : (m : ℕ) → is_listed m v.changed ≡ true → is_listed m d ≡ true = λ m h. marks-more 845 m c (marks-more 846 m v.changed h) in
    subst IsArray (sym both) (remarked v d a (record {
      marked = λ m q h. listed_cases 845 (number_of m) c (is_listed (number_of (parent m)) d ≡ true) h
          (λ e. subst (λ x. is_listed (number_of (parent x)) d ≡ true) (number_decides index_block m tt q e) second)
          (λ ne l. listed_cases 846 (number_of m) v.changed (is_listed (number_of (parent m)) d ≡ true) l
          (λ e. subst (λ x. is_listed (number_of (parent x)) d ≡ true) (number_decides header m tt q e) second)
          (λ ne o. more (number_of (parent m)) (a.marked m q o)));
      kept = λ m h. listed_cases 845 m c (IsSome (get_or v.blocks m None)) h (λ e. subst (λ x. IsSome (block_of v x)) e (a.in_place index_block tt refl).0)
          (λ ne l. listed_cases 846 m v.changed (IsSome (get_or v.blocks m None)) l (λ e. subst (λ x. IsSome (block_of v x)) e (a.in_place header tt refl).0) (λ ne o. a.kept m o));
      together = λ h. first;
    }) (λ m h. unlisted 846 m v.changed (unlisted 845 m c h)))

-- ---- A block's bytes change

-- the block may stand for this part of the array
pub record Suits (v : Store) (k : Part) (b : BlockView) : Type 0 where
  pub block : IsBlock k b
  pub names : Names v k b

pub part_inside : (v : Store) (k : Part) → IsPart k → IsArray v → number_of k < length v.blocks
part_inside v k p a = let i = number_inside k p in let c = a.count in omega arith

was_kept : (v : Store) (n m : ℕ) (b : BlockView) → n < length v.blocks → IsSome (block_of v n) → IsSome (block_of (changed_to n b v) m) → IsSome (block_of v m)
was_kept v n m b inside kept h =
    elim (cases_eq n m) [
      | inl e ↦ subst (λ x. IsSome (block_of v x)) e kept
      | inr ne ↦ subst IsSome (set-other v.blocks n m b ne) h
    ]

pub changed_array : (v : Store) (k : Part) (b : BlockView) → IsPart k → IsArray v → is_changed v (number_of k) ≡ true → Suits v k b → IsArray (changed_to (number_of k) b v)
changed_array v k b p a up s =
    let n : ℕ = number_of k in
    let inside : n < length v.blocks = part_inside v k p a in
    let kept : IsSome (block_of v n) = a.kept n up in
    record {
      count = length-set v.blocks n (Some b) ∙ a.count;
      each_place = a.each_place;
      below = a.below;
      known = λ m h. a.known m (was_kept v n m b inside kept h);
      each = λ m q. set-cases (λ o. IfSome o (IsBlock m)) v.blocks n (number_of m) b inside
          (λ e. subst (λ x. IsBlock x b) (number_decides k m p q e) s.block) (λ ne. a.each m q);
      names = λ m q. set-cases (λ o. IfSome o (Names v m)) v.blocks n (number_of m) b inside (λ e. subst (λ x. Names v x b) (number_decides k m p q e) s.names) (λ ne. a.names m q);
      in_place = λ m q h. (set-cases IsSome v.blocks n (number_of m) b inside (λ e. refl) (λ ne. (a.in_place m q h).0), (a.in_place m q h).1);
      held = λ m q h. set-cases IsSome v.blocks n (number_of (parent m)) b inside (λ e. refl) (λ ne. a.held m q (was_kept v n (number_of m) b inside kept h));
      unplaced = λ m q. set-cases (λ o. o ≡ None → place_at_part v m ≡ undefined) v.blocks n (number_of m) b inside (λ e h. absurd (cc)) (λ ne h. a.unplaced m q h);
      marked = a.marked;
      kept = λ m h. set-cases IsSome v.blocks n m b inside (λ e. refl) (λ ne. a.kept m h);
      together = a.together;
      whole = λ m q h. set-cases (λ o. IfSome o (IsWhole (changed_to n b v) m)) v.blocks n (number_of m) b inside
          (λ e. absurd (let f : is_changed v n ≡ false = subst (λ x. is_changed v x ≡ false) (sym e) h in cc))
          (λ ne. IfSome_then (block_at_part v m) (a.whole m q h) (λ c x. record { placed = x.placed; sealed = x.sealed }));
    }

-- heads stay where the block keeps its own
pub headed_changed : (v : Store) (k : Part) (b c : BlockView) → IsPart k → IsArray v → block_at_part v k ≡ Some b → (HasHead (header_place v) k b → HasHead (header_place v) k c) → IsHeaded v → IsHeaded (changed_to (number_of k) c v)
headed_changed v k b c p a is f h m q =
    set-cases (λ o. IfSome o (HasHead (header_place v) m)) v.blocks (number_of k) (number_of m) c (part_inside v k p a)
    (λ e. subst (λ x. HasHead (header_place v) x c) (number_decides k m p q e) (f (subst (λ o. IfSome o (HasHead (header_place v) k)) is (h k p)))) (λ ne. h m q)

-- ---- A block is added

-- the store with a block under a number where none was, which has no place yet, and is changed
abbrev pub added : ℕ → BlockView → Store → Store
added n b v = marked n (kept_under n b undefined v)

abbrev pub added_as : ℕ → BlockView → Store → Store
added_as n b v = record { blocks = set v.blocks n (Some b); places = set v.places n undefined; changed = marks n v.changed }

pub added-is : (n : ℕ) (b : BlockView) (v : Store) → added n b v ≡ added_as n b v
added-is n b v = marked-is n (kept_under n b undefined v)

pub added_place : (v : Store) (k : Part) (b : BlockView) → IsPart k → IsArray v → block_at_part v k ≡ None → (m : ℕ) → place_of (added_as (number_of k) b v) m ≡ place_of v m
added_place v k b p a none m =
    let i = number_inside k p in
    let c = a.each_place in
    place-same v.places (number_of k) m undefined (omega arith) (a.unplaced k p none)

-- a block that none is kept for, whose parent is changed
pub record MayAdd (v : Store) (k : Part) : Type 0 where
  pub part : IsPart k
  pub array : IsArray v
  pub none : block_at_part v k ≡ None
  pub up : is_changed v (number_of (parent k)) ≡ true

not_kept : (v : Store) (n m : ℕ) → block_of v n ≡ None → IsSome (block_of v m) → n ≢ m
not_kept v n m none kept e = let h : IsSome (block_of v n) = subst (λ x. IsSome (block_of v x)) (sym e) kept in absurd (let t : is_some (block_of v n) ≡ false = ap is_some none in cc)

names_as : (v w : Store) (k : Part) (b : BlockView) → ((m : ℕ) → place_of w m ≡ place_of v m) → Names v k b → Names w k b
names_as v w k b same e = e ∙ map-same (λ c. place_at_part v c) (λ c. place_at_part w c) (children k) (λ c. sym (same (number_of c)))

-- it is no block in place, and unlike each block that is kept
added_array_as : (v : Store) (k : Part) (b : BlockView) → MayAdd v k → Suits v k b → IsArray (added_as (number_of k) b v)
added_array_as v k b may s =
    let a = may.array in
    let p = may.part in
    let n : ℕ = number_of k in
    let w : Store = added_as n b v in
    let inside : n < length v.blocks = part_inside v k p a in
    let same : (m : ℕ) → place_of w m ≡ place_of v m = added_place v k b p a may.none in
    let up : IsSome (block_at_part v (parent k)) = a.kept (number_of (parent k)) may.up in
    record {
      count = length-set v.blocks n (Some b) ∙ a.count;
      each_place = length-set v.places n undefined ∙ a.each_place;
      below = λ m. subst (λ x. x < 2 ^ 64) (sym (same m)) (a.below m);
      known = λ m. set-cases (λ o. IsSome o → (q : Part) × IsPart q × (number_of q ≡ m)) v.blocks n m b inside (λ e h. (k, p, e)) (λ ne h. a.known m h);
      each = λ m q. set-cases (λ o. IfSome o (IsBlock m)) v.blocks n (number_of m) b inside (λ e. subst (λ x. IsBlock x b) (number_decides k m p q e) s.block) (λ ne. a.each m q);
      names = λ m q. set-cases (λ o. IfSome o (Names w m)) v.blocks n (number_of m) b inside (λ e. subst (λ x. Names w x b) (number_decides k m p q e) (names_as v w k b same s.names))
          (λ ne. IfSome_then (block_at_part v m) (a.names m q) (λ c x. names_as v w m c same x));
      in_place = λ m q h. (set-cases IsSome v.blocks n (number_of m) b inside (λ e. refl) (λ ne. (a.in_place m q h).0), λ u. (a.in_place m q h).1 (sym (same (number_of m)) ∙ u));
      held = λ m q. set-cases (λ o. IsSome o → IsSome (block_at_part w (parent m))) v.blocks n (number_of m) b inside
          (λ e h. subst (λ x. IsSome (block_at_part w (parent x))) (number_decides k m p q e) (subst IsSome (sym (set-other v.blocks n (number_of (parent k)) b (not_kept v n (number_of (parent k)) may.none up))) up))
          (λ ne h. let was = a.held m q h in subst IsSome (sym (set-other v.blocks n (number_of (parent m)) b (not_kept v n (number_of (parent m)) may.none was))) was);
      unplaced = λ m q. set-cases (λ o. o ≡ None → place_at_part w m ≡ undefined) v.blocks n (number_of m) b inside (λ e h. absurd (cc)) (λ ne h. same (number_of m) ∙ a.unplaced m q h);
      marked = λ m q h. listed_cases n (number_of m) v.changed (is_listed (number_of (parent m)) (marks n v.changed) ≡ true) h
          (λ e. marks-more n (number_of (parent m)) v.changed (subst (λ x. is_listed (number_of (parent x)) v.changed ≡ true) (number_decides k m p q e) may.up))
          (λ ne l. marks-more n (number_of (parent m)) v.changed (a.marked m q l));
      kept = λ m h. set-cases IsSome v.blocks n m b inside (λ e. refl) (λ ne. listed_cases n m v.changed (IsSome (block_of v m)) h (λ e. absurd (ne e)) (λ x l. a.kept m l));
      together = λ h. listed_cases n 846 v.changed (is_listed 845 (marks n v.changed) ≡ true) h (λ e. absurd (not_kept v n 846 may.none (a.in_place header tt refl).0 e)) (λ ne l. marks-more n 845 v.changed (a.together l));
      whole = λ m q h. set-cases (λ o. IfSome o (IsWhole w m)) v.blocks n (number_of m) b inside
          (λ e. absurd (let f : is_listed n (marks n v.changed) ≡ false = subst (λ x. is_listed x (marks n v.changed) ≡ false) (sym e) h in let t = marks-self n v.changed in cc))
          (λ ne. IfSome_then (block_at_part v m) (a.whole m q (unlisted n (number_of m) v.changed h)) (λ c x. record { placed = λ u. x.placed (sym (same (number_of m)) ∙ u); sealed = x.sealed }));
    }

pub headed_added : (v : Store) (k : Part) (b : BlockView) → MayAdd v k → HasHead (header_place v) k b → IsHeaded v → IsHeaded (added_as (number_of k) b v)
headed_added v k b may head h m q =
    let n : ℕ = number_of k in
    let w : Store = added_as n b v in
    subst (λ t. IfSome (block_at_part w m) (HasHead t m)) (sym (added_place v k b may.part may.array may.none 846))
    (set-cases (λ o. IfSome o (HasHead (header_place v) m)) v.blocks n (number_of m) b (part_inside v k may.part may.array)
    (λ e. subst (λ x. HasHead (header_place v) x b) (number_decides k m may.part q e) head) (λ ne. h m q))

pub added_array : (v : Store) (k : Part) (b : BlockView) → MayAdd v k → Suits v k b → IsArray (added (number_of k) b v)
added_array v k b may s = subst IsArray (sym (added-is (number_of k) b v)) (added_array_as v k b may s)
