-- A record put in the place of the one with its key, and a tree that did not change.
use Rattle.std.proofs.Common.{◌≡◌, ℕ, zero, suc, Bool, true, false, max, List, [], ◌∷◌, refl, sym, ap, ◌∙◌, subst, arith, Option, Some, None, is_some, slice_get, if◌then◌else◌, inl, inr}
use Rattle.std.proofs.lemmas.Bool.{cond-true, cases_Bool}
use Rattle.h5w_model.specs.declared.cell.Key.{Key}
use Rattle.h5w_model.specs.Trees.{capacity_of}
use Rattle.h5w_model.specs.Tables.{key_equal}
use Rattle.h5w_space.specs.Space.{Space}
use Rattle.h5w_bt.specs.declared.records.Record.{Record}
use Rattle.h5w_bt.proofs.KeyLemmas.{equal-is}
use Rattle.h5w_bt_nodes.specs.Nodes.{Tree, address_in, found}
use Rattle.h5w_bt_nodes.specs.Puts.{is_over, put, put_record, raised, settled, with_divided}
use Rattle.h5w_bt_nodes.specs.Shapes.{IsShape}
use Rattle.h5w_bt_index.specs.Marks.{clean_of}
use Rattle.h5w_bt_index.specs.Index.{Index, IsIndex, IsShaped, IsReplaced, IsThere, found_by, inserted, keys_of, records}
use Rattle.h5w_bt_nodes.specs.Blocks.{AllRead, placed, writes_of, written}
use Rattle.h5w_bt_index.specs.Plans.{IsTreePlan}
use Rattle.h5w_bt_nodes.proofs.Records.{under, here, past, side, put-under, put-here, in-under, in-past, none_is_not_some}
use Rattle.h5w_bt_index.proofs.Rising.{put-finds_other}
use Rattle.h5w_bt_nodes.proofs.Steps.{is_there, there, not_there, put_here, put_below, went_down}
use Rattle.h5w_bt_nodes.proofs.Over.{over-blocked}
use Rattle.h5w_bt_index.proofs.Laws.{finds, index_shaped, inserted-clean, inserted-index, inserted-map, inserted-records, inserted-shaped, inserted-shares, put-there, same-index}
use Rattle.h5w_bt_index.proofs.Placed.{clean_stood}

-- ---- Its key has a record

some_found : (o : Option ℕ) → (o ≡ None → ⊥) → (a : ℕ) × (o ≡ Some a)
some_found (Some a) h = (a, refl)
some_found None h = absurd (h refl)

found_some : (o p : Option ℕ) → o ≡ p → (p ≡ None → ⊥) → is_some o ≡ true
found_some o p e h = let (a, f) = some_found p h in ap is_some (e ∙ f)

pub there_found : (v : Index) (key : Key) → IsIndex v → IsThere v key → is_some (found v.depth key v.root) ≡ true
there_found v key i has = found_some (found v.depth key v.root) (address_in key (records v)) (finds v key i) has

none_is_some : (o : Option ℕ) → is_some o ≡ true → o ≡ None → ⊥
none_is_some None h e = let clash : false ≡ true = h in cc
none_is_some (Some a) h e = absurd (none_is_not_some a e)

-- so no node gets a record too many
pub there_not_over : (d : ℕ) (x : Record) (t : Tree d) → IsShape d (capacity_of d) t → is_some (found d x.key t) ≡ true → is_over d (put d x t) ≡ false
there_not_over d x t s h = elim (cases_Bool (is_over d (put d x t))) [
  | inl o ↦ absurd (none_is_some (found d x.key t) h (over-blocked d x t s o).absent)
  | inr o ↦ o
]

pub replaced_index : (x : Record) (v : Index) (u : Tree v.depth) → IsShaped v → is_some (found v.depth x.key v.root) ≡ true → u ≡ put v.depth x v.root → record { depth = v.depth; root = u } ≡ inserted x v
replaced_index x v u i h e = same-index x v u (there_not_over v.depth x v.root i.shape h) e

-- ---- What changes, and what stays

put-keys : (x : Record) (rs : List Record) (a : ℕ) → address_in x.key rs ≡ Some a → keys_of (put_record x rs) ≡ keys_of rs
put-keys x [] a e = absurd (none_is_not_some a (sym e))
put-keys x (r ∷ rs) a e = elim (side r.key x.key) [
  | under u ↦ ap keys_of (put-under x r rs u) ∙ ap (λ (l : List Key). r.key ∷ l) (put-keys x rs a (sym (in-under x.key r rs u) ∙ e))
  | here u f ↦ ap keys_of (put-here x r rs u f) ∙ ap (λ (k : Key). k ∷ keys_of rs) (sym (equal-is r.key x.key f))
  | past u f ↦ absurd (none_is_not_some a (sym e ∙ in-past x.key r rs u f))
]

settled_changed : (d i : ℕ) (t : Tree (suc d)) → t.clean ≡ false → (settled d i t).clean ≡ false
settled_changed d i t e = go (slice_get t.children i)
  where
    divided : (c : Tree d) (b : Bool) → (let u : Tree (suc d) = if b then with_divided d i t c else t in u.clean) ≡ false
    divided c true = refl
    divided c false = e

    go : (o : Option (Tree d)) → (let u : Tree (suc d) = elim o as (λ q. Tree (suc d)) [ None ↦ t | Some c ↦ (if is_over d c then with_divided d i t c else t) ] in u.clean) ≡ false
    go None = e
    go (Some c) = divided c (is_over d c)

pub put_changed : (d : ℕ) (x : Record) (t : Tree d) → clean_of d (put d x t) ≡ false
put_changed zero x t = refl
put_changed (suc d) x t = elim (is_there x.key t.records) [
  | there a e ↦ ap (λ (u : Tree (suc d)). u.clean) (put_here d x a t e)
  | not_there e ↦ ap (λ (u : Tree (suc d)). u.clean) (put_below d x t e) ∙ settled_changed d _ (went_down d x t) refl
]

-- with a record more the root is changed
pub inserted_changed : (x : Record) (v : Index) → clean_of (inserted x v).depth (inserted x v).root ≡ false
inserted_changed x v = go (is_over v.depth (put v.depth x v.root))
  where
    go : (o : Bool) → (let u : Index = if o then record { depth = suc v.depth; root = raised v.depth (put v.depth x v.root) } else record { depth = v.depth; root = put v.depth x v.root } in clean_of u.depth u.root) ≡ false
    go true = refl
    go false = put_changed v.depth x v.root

-- what had a record has one
pub inserted_there : (x : Record) (v : Index) (key : Key) → IsIndex v → IsThere v key → IsThere (inserted x v) key
inserted_there x v key i h none =
    elim (cases_Bool (key_equal x.key key)) [
      | inl t ↦ put-there x v i (ap (λ (k : Key). address_in k (records (inserted x v))) (equal-is x.key key t) ∙ none)
      | inr f ↦ h (sym (ap (address_in key) (inserted-records x v i) ∙ put-finds_other x key (records v) f) ∙ none)
    ]

pub is_replaced : (x : Record) (v : Index) → IsIndex v → IsThere v x.key → IsReplaced x v (inserted x v)
is_replaced x v i h =
    let (a, e) = some_found (address_in x.key (records v)) h in
    let n = there_not_over v.depth x v.root (index_shaped v i).shape (there_found v x.key i h) in
    let same = same-index x v (put v.depth x v.root) n refl in
    record {
      map = λ key. inserted-map x v key i;
      sorted = inserted-records x v i;
      keys = ap keys_of (inserted-records x v i) ∙ put-keys x (records v) a e;
      depth = ap (λ (u : Index). u.depth) (sym same);
      there = λ key h. inserted_there x v key i h;
      index = inserted-index x v (λ o. let clash : true ≡ false = sym o ∙ n in absurd cc) i;
      shares = inserted-shares x v (index_shaped v i);
      clean = λ p. inserted-clean p x v (index_shaped v i);
      changed = subst (λ (u : Index). clean_of u.depth u.root ≡ false) same (put_changed v.depth x v.root);
    }

pub replaced_so : (x : Record) (v w : Index) → IsIndex v → IsThere v x.key → w ≡ inserted x v → IsReplaced x v w
replaced_so x v w i h e = subst (IsReplaced x v) (sym e) (is_replaced x v i h)

-- ---- Whether a record is found or not

-- a record that is found is put in its place, and the shape stays
pub replaced_shaped : (x : Record) (v w : Index) → IsShaped v → is_some (found_by v x.key) ≡ true → w ≡ inserted x v → IsShaped w
replaced_shaped x v w i h e =
    let n = there_not_over v.depth x v.root i.shape h in
    subst IsShaped (sym e) (inserted-shaped x v (λ o. let clash : true ≡ false = sym o ∙ n in absurd cc) i)

-- of an index, what has a record is found
pub not_missed : (v : Index) (key : Key) → IsIndex v → IsThere v key → found_by v key ≡ None → ⊥
not_missed v key i h e = h (sym (finds v key i) ∙ e)

-- ---- No node changed

pub clean_placed : (d : ℕ) (ps : List ℕ) (t : Tree d) → clean_of d t ≡ true → placed d ps t ≡ t
clean_placed zero ps t e = cond-true t.clean _ _ e
clean_placed (suc d) ps t e = cond-true t.clean _ _ e

clean_written : (d : ℕ) (ps : List ℕ) (t : Tree d) → clean_of d t ≡ true → written d ps t ≡ []
clean_written zero ps t e = cond-true t.clean _ _ e
clean_written (suc d) ps t e = cond-true t.clean _ _ e

both : (b : Bool) → b ≡ true → b ≡ false → ⊥
both b e f = let clash : true ≡ false = sym e ∙ f in cc

clean_read : (d : ℕ) (ps : List ℕ) (t : Tree d) → clean_of d t ≡ true → AllRead d ps t
clean_read zero ps t e = λ f. absurd (both t.clean e f)
clean_read (suc d) ps t e = λ f. absurd (both t.clean e f)

-- then a plan does nothing
pub plans_nothing : (place : ℕ) (v : Index) (s : Space) → clean_of v.depth v.root ≡ true → IsTreePlan place v s [] [] [] v s
plans_nothing place v s e =
    let spare : s.spare ≡ max s.spare 0 = omega arith in
    record {
      roomy = s;
      taken = record { old = sym (clean_stood v.depth v.root e); taken = s; moves = refl; roomy = ap (λ (n : ℕ). record s { spare = n }) spare };
      retired = refl;
      index = ap (λ (t : Tree v.depth). record v { root = t }) (sym (clean_placed v.depth [] v.root e));
      copies = ap writes_of (sym (clean_written v.depth [] v.root e));
      in_place = sym (cond-true (clean_of v.depth v.root) _ _ e);
      reads = clean_read v.depth [] v.root e;
      clean = clean_stood v.depth v.root e;
      records = refl;
    }

pub plans_nothing_so : (place : ℕ) (v : Index) (clean : Bool) → clean ≡ clean_of v.depth v.root → clean ≡ true → (s : Space) → IsTreePlan place v s [] [] [] v s
plans_nothing_so place v clean is told s = plans_nothing place v s (sym is ∙ told)
