-- Which blocks of an index changed, call by call, and what a plan of them takes at most.
use Rattle.std.proofs.Common.{◌≡◌, ◌⊎◌, ℕ, zero, suc, ◌+◌, ◌-◌, ◌*◌, ◌/◌, ◌<◌, ◌≤◌, true, false, nat_lt, List, [], ◌∷◌, length, refl, sym, ap, ◌∙◌, subst, inl, inr, arith}
use Rattle.std.proofs.lemmas.Bool.{cases_Bool, cases_eq, cond-false, cond-true, lt-ltb, ltb-true}
use Rattle.std.proofs.lemmas.Nat.{le-div, mul-le}
use Rattle.std.proofs.Math.Nat.{div-mul-le_self, div-zero}
use Rattle.h5w_model.specs.Logs.{div_up}
use Rattle.h5w_model.specs.Datasets.{Described}
use Rattle.h5w_model.specs.Tables.{chunks_across}
use Rattle.h5w_model.specs.declared.cell.Key.{Key}
use Rattle.h5w_cache.specs.Stores.{Store, is_changed, is_listed, times}
use Rattle.h5w_cache.proofs.PlannedLemmas.{times-other, times-same}
use Rattle.h5w_chunks.specs.Shares.{touched, touched_key}
use Rattle.h5w_space.specs.Space.{Space}
use Rattle.h5w_array_laws.specs.Parts.{header, holder, index_block, number_of, parent}
use Rattle.h5w_ea_index.specs.Steps.{IsSlotOrHeader, OnWay, Touches}
use Rattle.h5w_bt.specs.declared.records.Record.{Record}
use Rattle.h5w_bt_index.specs.Marks.{clean_of}
use Rattle.h5w_bt_index.specs.Index.{Index, IsIndex, inserted}
use Rattle.h5w_bt_index.proofs.Placed.{clean_stood}
use Rattle.h5w_tree_index_laws.specs.TreeMarks.{HasChanged}
use Rattle.h5w_tree_index_laws.proofs.TreeChangeLemmas.{inserted_changes}
use Rattle.h5w_tree_index_laws.proofs.TreeMarkLemmas.{inserted_marks}
use Rattle.h5w_index.specs.Views.{IndexView, an_array, a_tree, IsClean, IsSound}
use Rattle.h5w_index.specs.Steps.{IsBegun, IsHeld, IsSet, IsUnset, ListsOnce, TreeSet, blank}
use Rattle.h5w_index.specs.declared.flush.IndexFlush.{IndexFlush}
use Rattle.h5w_index.specs.declared.flush.IndexFlush.TheVariants.{Array, Tree}
use Rattle.h5w_index.specs.Marks.{ArrayMarked, FullBounds, IsMarked, IsRaised, IsTouched, MarkLaws, PlanBounds, TreeMarked}
use Rattle.h5w_index.proofs.ArrayBoundLemmas.{array_begun, array_bound, array_full}
use Rattle.h5w_index.proofs.ToldLemmas.{unset_record}
use Rattle.h5w_index.proofs.TreeBoundLemmas.{tree_begun, tree_bound, tree_full}

-- ---- Where more rows wait

up_grows : (a b per : ℕ) → a ≤ b → div_up a per ≤ div_up b per
up_grows a b zero fewer = omega (arith, div-zero (a + 0 - 1), div-zero (b + 0 - 1))
up_grows a b (suc per) fewer = le-div (div_up a (suc per)) (b + suc per - 1) (suc per) (omega arith) (omega (arith, div-mul-le_self (a + suc per - 1) (suc per)))

by_two : (x y a b : ℕ) → x ≡ a → y ≡ b → a ≤ b → x ≤ y
by_two x y a b e f h = omega (arith, e, f, h)

touched_grows : (d : Described) (from to more : ℕ) → to ≤ more → touched d from to ≤ touched d from more
touched_grows d from to more fewer =
    let per = d.layout.chunk_rows in
    let across = chunks_across d in
    elim (cases_Bool (nat_lt from to)) [
      | inl some ↦
          let now = cond-true (nat_lt from to) ((div_up to per - from / per) * across) 0 some in
          let then = cond-true (nat_lt from more) ((div_up more per - from / per) * across) 0 (lt-ltb from more (omega (arith, ltb-true from to some, fewer))) in
          let up = up_grows to more per fewer in
          by_two (touched d from to) (touched d from more) ((div_up to per - from / per) * across) ((div_up more per - from / per) * across) now then
          (mul-le (div_up to per - from / per) across (div_up more per - from / per) across (omega (arith, up)) (omega arith))
      | inr none ↦ omega (arith, cond-false (nat_lt from to) ((div_up to per - from / per) * across) 0 none)
    ]

touched_more : (d : Described) (from to more : ℕ) (key : Key) → to ≤ more → IsTouched d from to key → IsTouched d from more key
touched_more d from to more key fewer t = record { number = t.number; inside = omega (arith, t.inside, touched_grows d from to more fewer); is = t.is }

-- ---- An array

-- a block that is changed after a call was changed before, or is one of the call's
by_touch : (P : ℕ → Type 0) (v w : Store) (n : ℕ) → (P n ⊎ (P n → ⊥)) → Touches P v w → is_changed w n ≡ true → P n ⊎ (is_changed v n ≡ true)
by_touch P v w n (inl p) touches changed = inl p
by_touch P v w n (inr other) touches changed = inr (sym (touches n other).1 ∙ changed)

either_is : (A B : Type 0) → (A ⊎ (A → ⊥)) → (B ⊎ (B → ⊥)) → (A ⊎ B) ⊎ (A ⊎ B → ⊥)
either_is A B (inl a) other = inl (inl a)
either_is A B (inr first) (inl b) = inl (inr b)
either_is A B (inr first) (inr second) = inr (λ e. elim e [ inl a ↦ first a | inr b ↦ second b ])

on_way : (i n : ℕ) → OnWay (holder i) n ⊎ (OnWay (holder i) n → ⊥)
on_way i n =
    let k = holder i in
    either_is (n ≡ number_of k) ((n ≡ number_of (parent k)) ⊎ ((n ≡ number_of index_block) ⊎ (n ≡ number_of header))) (cases_eq n (number_of k))
    (either_is (n ≡ number_of (parent k)) ((n ≡ number_of index_block) ⊎ (n ≡ number_of header)) (cases_eq n (number_of (parent k)))
    (either_is (n ≡ number_of index_block) (n ≡ number_of header) (cases_eq n (number_of index_block)) (cases_eq n (number_of header))))

slot_or_header : (i n : ℕ) → IsSlotOrHeader i n ⊎ (IsSlotOrHeader i n → ⊥)
slot_or_header i n = either_is (n ≡ number_of (holder i)) (n ≡ number_of header) (cases_eq n (number_of (holder i))) (cases_eq n (number_of header))

slot_way : (i n : ℕ) → IsSlotOrHeader i n → OnWay (holder i) n
slot_way i n (inl e) = inl e
slot_way i n (inr e) = inr (inr (inr e))

array_way : (d : Described) (from to : ℕ) (key : Key) (v w : Store) → IsTouched d from to key → Touches (OnWay (holder key.i)) v w → ArrayMarked d from to v → ArrayMarked d from to w
array_way d from to key v w t way m n changed = elim (by_touch (OnWay (holder key.i)) v w n (on_way key.i n) way changed) [ inl on ↦ (key, t, on) | inr before ↦ m n before ]

array_slot : (d : Described) (from to : ℕ) (key : Key) (v w : Store) → IsTouched d from to key → Touches (IsSlotOrHeader key.i) v w → ArrayMarked d from to v → ArrayMarked d from to w
array_slot d from to key v w t way m n changed = elim (by_touch (IsSlotOrHeader key.i) v w n (slot_or_header key.i n) way changed) [ inl on ↦ (key, t, slot_way key.i n on) | inr before ↦ m n before ]

never : (n : ℕ) → is_listed n [] ≡ true → ⊥
never n changed = let clash : false ≡ true = changed in cc

array_clean : (d : Described) (from to : ℕ) (v : Store) → v.changed ≡ [] → ArrayMarked d from to v
array_clean d from to v clean n changed = absurd (never n (subst (λ (c : List ℕ). is_listed n c ≡ true) clean changed))

-- ---- A tree

tree_clean : (d : Described) (from to : ℕ) (v : Index) → clean_of v.depth v.root ≡ true → TreeMarked d from to v
tree_clean d from to v clean = record {
  numbers = [];
  once = λ k. omega arith;
  inside = λ k l. absurd (omega (arith, l));
  changed = λ k l. absurd (omega (arith, l));
  few = omega (arith, ap length (clean_stood v.depth v.root clean));
}

tree_more : (d : Described) (from to more : ℕ) (v : Index) → to ≤ more → TreeMarked d from to v → TreeMarked d from more v
tree_more d from to more v fewer m = record { numbers = m.numbers; once = m.once; inside = λ k l. omega (arith, m.inside k l, touched_grows d from to more fewer); changed = m.changed; few = m.few }

-- a number that is listed, or not
listed_or : (n : ℕ) → (0 < n) ⊎ (n ≡ 0)
listed_or zero = inr refl
listed_or (suc n) = inl (omega arith)

module _ (d : Described) (from to : ℕ) (x : Record) (v : Index) (i : IsIndex v) (j : IsIndex (inserted x v)) (t : IsTouched d from to x.key) (m : TreeMarked d from to v) where
  put_listed : 0 < times t.number m.numbers → TreeMarked d from to (inserted x v)
  put_listed l =
      let marks = inserted_marks x v i in
      let same = marks.again (subst (HasChanged v) (sym t.is) (m.changed t.number l)) in
      record { numbers = m.numbers; once = m.once; inside = m.inside; changed = λ k listed. marks.others (touched_key d from k) (m.changed k listed); few = omega (arith, same, m.few) }

  put_new : times t.number m.numbers ≡ 0 → TreeMarked d from to (inserted x v)
  put_new none =
      let marks = inserted_marks x v i in
      let n = t.number in
      let ks = m.numbers in
      record {
        numbers = n ∷ ks;
        once = λ k. elim (cases_eq n k) [
          | inl e ↦ omega (arith, times-same k n ks e, none, ap (λ q. times q ks) e)
          | inr ne ↦ omega (arith, times-other k n ks ne, m.once k)
        ];
        inside = λ k l. elim (cases_eq n k) [
          | inl e ↦ omega (arith, e, t.inside)
          | inr ne ↦ m.inside k (omega (arith, times-other k n ks ne, l))
        ];
        changed = λ k l. elim (cases_eq n k) [
          | inl e ↦ subst (HasChanged (inserted x v)) (t.is ∙ ap (touched_key d from) e) marks.own
          | inr ne ↦ marks.others (touched_key d from k) (m.changed k (omega (arith, times-other k n ks ne, l)))
        ];
        few = omega (arith, inserted_changes x v i j, m.few);
      }

  tree_put : TreeMarked d from to (inserted x v)
  tree_put = elim (listed_or (times t.number m.numbers)) [ inl l ↦ put_listed l | inr none ↦ put_new none ]

tree_set : (d : Described) (from to : ℕ) (x : Record) (v w : Index) → IsIndex v → IsTouched d from to x.key → TreeSet x v w → TreeMarked d from to v → TreeMarked d from to w
tree_set d from to x v w i t h m = subst (TreeMarked d from to) (sym h.is) (tree_put d from to x v i (subst IsIndex h.is h.index) t m)

-- ---- Either

pub mark_laws : MarkLaws
mark_laws = record { clean = clean; more = more; held = held; set = set; unset = unset }
  where
    clean : (d : Described) (from to : ℕ) (v : IndexView) → IsClean v → IsMarked d from to v
    clean d from to (an_array v) e = array_clean d from to v e
    clean d from to (a_tree p v) e = tree_clean d from to v e

    more : (d : Described) (from to more : ℕ) (v : IndexView) → to ≤ more → IsMarked d from to v → IsMarked d from more v
    more d from to later (an_array v) fewer m = λ n changed. let way = m n changed in (way.0, touched_more d from to later way.0 fewer way.1, way.2)
    more d from to later (a_tree p v) fewer m = tree_more d from to later v fewer m

    held : (d : Described) (from to : ℕ) (key : Key) (v w : IndexView) → IsSound v → IsTouched d from to key → IsHeld key v w → IsMarked d from to v → IsMarked d from to w
    held d from to key (an_array v) (an_array w) is t h m = array_way d from to key v w t h.way m
    held d from to key (a_tree p v) (a_tree q w) is t h m = subst (TreeMarked d from to) (sym h.1) m
    held d from to key (an_array v) (a_tree q w) is t h m = absurd h
    held d from to key (a_tree p v) (an_array w) is t h m = absurd h

    set : (d : Described) (from to : ℕ) (key : Key) (address : ℕ) (v w : IndexView) → IsSound v → IsTouched d from to key → IsSet key address v w → IsMarked d from to v → IsMarked d from to w
    set d from to key address (an_array v) (an_array w) is t h m = array_way d from to key v w t h.way m
    set d from to key address (a_tree p v) (a_tree q w) is t h m = tree_set d from to (record { address = address; key = key }) v w is.index t h.1 m
    set d from to key address (an_array v) (a_tree q w) is t h m = absurd h
    set d from to key address (a_tree p v) (an_array w) is t h m = absurd h

    unset : (d : Described) (from to : ℕ) (key : Key) (v w : IndexView) → IsSound v → IsTouched d from to key → IsUnset key v w → IsMarked d from to v → IsMarked d from to w
    unset d from to key (an_array v) (an_array w) is t h m = array_slot d from to key v w t h.way m
    unset d from to key (a_tree p v) (a_tree q w) is t h m = tree_set d from to (blank key) v w is.index t (unset_record key v w h.1) m
    unset d from to key (an_array v) (a_tree q w) is t h m = absurd h
    unset d from to key (a_tree p v) (an_array w) is t h m = absurd h

pub plan_bounds : PlanBounds
plan_bounds d from to (an_array v) s ms copies fixed (an_array w) t is m plan = array_bound d from to v is m s ms copies fixed w t plan.plan
plan_bounds d from to (a_tree p v) s ms copies fixed (a_tree q w) t is m plan = tree_bound d from to p v is.index m s ms copies fixed w t plan.1
plan_bounds d from to (an_array v) s ms copies fixed (a_tree q w) t is m plan = absurd plan
plan_bounds d from to (a_tree p v) s ms copies fixed (an_array w) t is m plan = absurd plan

-- a plan that is begun raises the end by no more
pub begun_bound : (d : Described) (from to : ℕ) (v : IndexView) (s : Space) (b : IndexFlush) (t : Space) → IsSound v → IsMarked d from to v → ListsOnce v → IsBegun v s b t → IsRaised s t (touched d from to * 16428)
begun_bound d from to (an_array v) s (Array b) t is m once x = array_begun d from to v is m s b t once x
begun_bound d from to (a_tree p v) s (Tree b) t is m once x = tree_begun d from to p v is.index m s b t x
begun_bound d from to (an_array v) s (Tree b) t is m once x = absurd x
begun_bound d from to (a_tree p v) s (Array b) t is m once x = absurd x

pub full_bounds : FullBounds
full_bounds d from to (an_array v) s e is m none = array_full d from to v is m s e none
full_bounds d from to (a_tree p v) s e is m none = tree_full d from to p v is.index m s e none
