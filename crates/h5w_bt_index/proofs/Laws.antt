-- What a record put into an index is to the map.
use Rattle.std.proofs.Common.{◌≡◌, ℕ, zero, suc, ◌≤◌, Bool, true, false, List, [], ◌∷◌, length, map, refl, sym, ap, ◌∙◌, subst, arith, Option, Some, None, if◌then◌else◌, inl, inr, Result, Ok, Err, OnOk, MatchOption}
use Rattle.std.proofs.lemmas.Bool.{ltb-false, cond-true, cond-false, cases_Bool, cases_eq}
use Rattle.std.specs.Option.{unwrap_or}
use Rattle.h5w_model.specs.declared.cell.Key.{Key}
use Rattle.h5w_model.specs.Numbers.{undefined}
use Rattle.h5w_model.specs.Tables.{key_below, key_equal, in_leaf}
use Rattle.h5w_model.specs.Trees.{capacity_of}
use Rattle.h5w_bt.specs.declared.records.Record.{Record}
use Rattle.h5w_bt.specs.Parts.{record_of}
use Rattle.h5w_bt.proofs.KeyLemmas.{equal-is}
use Rattle.h5w_bt_nodes.specs.Nodes.{Tree, all_records, records_of, address_in, found, total_of}
use Rattle.h5w_bt_nodes.specs.Puts.{put_record, put, is_over, raised}
use Rattle.h5w_bt_nodes.specs.Shapes.{IsShape}
use Rattle.h5w_bt_index.specs.Sound.{IsRising, IsSound}
use Rattle.h5w_bt_index.specs.Marks.{Part, IsMarked}
use Rattle.h5w_bt_index.specs.Index.{Index, records, address_of, regrown, inserted, IsBlocked, IsIndex, IsShaped, HasShares, KeepsShares, IsClean, IsDeep, IsThere, found_address}
use Rattle.h5w_bt_nodes.proofs.Records.{under, here, past, side, in-under, in-here, in-past}
use Rattle.h5w_bt_index.proofs.Rising.{put-finds_same, put-finds_other, put-rises}
use Rattle.h5w_bt_nodes.proofs.Parts.{over-half}
use Rattle.h5w_bt_index.proofs.Parts.{rebound, put_sound, raised_sound}
use Rattle.h5w_bt_index.proofs.Grown.{IsGood, parts_records, put_records, found_is, total_is}
use Rattle.h5w_bt_nodes.proofs.Shapes.{put_shape, raised_shape, shape_rebound}
use Rattle.h5w_bt_index.proofs.Bounds.{sound_shape}
use Rattle.h5w_bt_nodes.proofs.Over.{over-blocked}
use Rattle.h5w_bt_nodes.proofs.Places.{some_same, none_is_not}
use Rattle.h5w_bt_index.proofs.Shares.{least_less, put-share, raised-share}
use Rattle.h5w_bt_index.proofs.Marks.{put-clean, raised-clean, put-marked, raised-marked}

-- ---- The standard's search, and that of the code

leaf-under : (key : Key) (r : Record) (rs : List Record) → key_below r.key key ≡ true → in_leaf key (map record_of (r ∷ rs)) ≡ in_leaf key (map record_of rs)
leaf-under key r rs b = cond-true (key_below r.key key) _ _ b

leaf-here : (key : Key) (r : Record) (rs : List Record) → key_below r.key key ≡ false → key_equal r.key key ≡ true → in_leaf key (map record_of (r ∷ rs)) ≡ r.address
leaf-here key r rs b e = cond-false (key_below r.key key) _ _ b ∙ cond-true (key_equal r.key key) _ _ e

leaf-past : (key : Key) (r : Record) (rs : List Record) → key_below r.key key ≡ false → key_equal r.key key ≡ false → in_leaf key (map record_of (r ∷ rs)) ≡ undefined
leaf-past key r rs b e = cond-false (key_below r.key key) _ _ b ∙ cond-false (key_equal r.key key) _ _ e

pub in_leaf-is : (key : Key) (rs : List Record) → in_leaf key (map record_of rs) ≡ unwrap_or (address_in key rs) undefined
in_leaf-is key [] = refl
in_leaf-is key (r ∷ rs) =
    let F : Option ℕ → ℕ = λ o. unwrap_or o undefined in
    elim (side r.key key) [
      | under u ↦ leaf-under key r rs u ∙ in_leaf-is key rs ∙ ap F (sym (in-under key r rs u))
      | here u f ↦ leaf-here key r rs u f ∙ ap F (sym (in-here key r rs u f))
      | past u f ↦ leaf-past key r rs u f ∙ ap F (sym (in-past key r rs u f))
    ]

-- ---- The index

regrown-over : (d : ℕ) (t : Tree d) → is_over d t ≡ true → regrown d t ≡ record { depth = suc d; root = raised d t }
regrown-over d t o = cond-true (is_over d t) _ _ o

regrown-not : (d : ℕ) (t : Tree d) → is_over d t ≡ false → regrown d t ≡ record { depth = d; root = t }
regrown-not d t o = cond-false (is_over d t) _ _ o

regrown-records : (d : ℕ) (t : Tree d) → IsSound d (suc (capacity_of d)) t → records (regrown d t) ≡ all_records d t
regrown-records d t s = go (is_over d t) refl
  where
    go : (o : Bool) → is_over d t ≡ o → records (regrown d t) ≡ all_records d t
    go true o = ap records (regrown-over d t o) ∙ sym (parts_records d (suc (capacity_of d)) t s (over-half d t o))
    go false o = ap records (regrown-not d t o)

good_of : (v : Index) → IsIndex v → IsGood v.depth v.root
good_of v i = record { sound = i.sound; rises = i.rises }

-- an index has the shape of a tree
pub index_shaped : (v : Index) → IsIndex v → IsShaped v
index_shaped v i = record { shallow = i.shallow; shape = sound_shape v.depth (capacity_of v.depth) v.root i.shallow i.sound; marked = i.marked }

pub inserted-records : (x : Record) (v : Index) → IsIndex v → records (inserted x v) ≡ put_record x (records v)
inserted-records x v i = regrown-records v.depth (put v.depth x v.root) (put_sound v.depth x v.root i.sound) ∙ put_records v.depth x v.root (good_of v i)

pub inserted-map : (x : Record) (v : Index) (key : Key) → IsIndex v → address_of (inserted x v) key ≡ (if key_equal x.key key then x.address else address_of v key)
inserted-map x v key i =
    let F : Option ℕ → ℕ = λ o. unwrap_or o undefined in
    let e = in_leaf-is key (records (inserted x v)) ∙ ap (λ (rs : List Record). F (address_in key rs)) (inserted-records x v i) in
    elim (cases_Bool (key_equal x.key key)) [
      | inl t ↦ e ∙ ap (λ (k : Key). F (address_in k (put_record x (records v)))) (sym (equal-is x.key key t)) ∙ ap F (put-finds_same x (records v))
          ∙ sym (cond-true (key_equal x.key key) _ _ t)
      | inr f ↦ e ∙ ap F (put-finds_other x key (records v) f) ∙ sym (in_leaf-is key (records v)) ∙ sym (cond-false (key_equal x.key key) _ _ f)
    ]

room_some : (d : ℕ) → d ≤ 2 → 1 ≤ capacity_of (suc d)
room_some zero h = omega arith
room_some (suc zero) h = omega arith
room_some (suc (suc zero)) h = omega arith
room_some (suc (suc (suc d))) h = absurd (omega arith)

-- the root is not one of depth 3 with a record too many
regrown-index : (d : ℕ) (t : Tree d) → d ≤ 3 → (is_over d t ≡ true → d ≤ 2) → IsSound d (suc (capacity_of d)) t → IsRising (all_records d t) → IsMarked d t → IsIndex (regrown d t)
regrown-index d t h k s r m = go (is_over d t) refl
  where
    go : (o : Bool) → is_over d t ≡ o → IsIndex (regrown d t)
    go true o = subst IsIndex (sym (regrown-over d t o)) (record {
      shallow = omega (arith, k o);
      sound = rebound (suc d) 1 (capacity_of (suc d)) (raised d t) (room_some d (k o)) (raised_sound d t o s);
      rises = subst IsRising (parts_records d (suc (capacity_of d)) t s (over-half d t o)) r;
      marked = raised-marked d t m;
    })
    go false o = subst IsIndex (sym (regrown-not d t o)) (record {
      shallow = h;
      sound = rebound d (suc (capacity_of d)) (capacity_of d) t (ltb-false (capacity_of d) (length (records_of d t)) o) s;
      rises = r;
      marked = m;
    })

pub inserted-index : (x : Record) (v : Index) → (is_over v.depth (put v.depth x v.root) ≡ true → v.depth ≤ 2) → IsIndex v → IsIndex (inserted x v)
inserted-index x v k i = regrown-index v.depth (put v.depth x v.root) i.shallow k (put_sound v.depth x v.root i.sound)
    (subst IsRising (sym (put_records v.depth x v.root (good_of v i))) (put-rises x (records v) i.rises)) (put-marked v.depth x v.root (index_shaped v i).shape i.marked)

regrown-shaped : (d : ℕ) (t : Tree d) → d ≤ 3 → (is_over d t ≡ true → d ≤ 2) → IsShape d (suc (capacity_of d)) t → IsMarked d t → IsShaped (regrown d t)
regrown-shaped d t h k s m = go (is_over d t) refl
  where
    go : (o : Bool) → is_over d t ≡ o → IsShaped (regrown d t)
    go true o = subst IsShaped (sym (regrown-over d t o)) (record {
      shallow = omega (arith, k o);
      shape = shape_rebound (suc d) 1 (capacity_of (suc d)) (raised d t) (room_some d (k o)) (raised_shape d t (k o) o s);
      marked = raised-marked d t m;
    })
    go false o = subst IsShaped (sym (regrown-not d t o)) (record {
      shallow = h;
      shape = shape_rebound d (suc (capacity_of d)) (capacity_of d) t (ltb-false (capacity_of d) (length (records_of d t)) o) s;
      marked = m;
    })

pub inserted-shaped : (x : Record) (v : Index) → (is_over v.depth (put v.depth x v.root) ≡ true → v.depth ≤ 2) → IsShaped v → IsShaped (inserted x v)
inserted-shaped x v k i = regrown-shaped v.depth (put v.depth x v.root) i.shallow k (put_shape v.depth x v.root i.shallow i.shape) (put-marked v.depth x v.root i.shape i.marked)

pub inserted-shares : (x : Record) (v : Index) → IsShaped v → KeepsShares v (inserted x v)
inserted-shares x v i share f h = go (is_over v.depth (put v.depth x v.root)) refl
  where
    go : (o : Bool) → is_over v.depth (put v.depth x v.root) ≡ o → HasShares share (regrown v.depth (put v.depth x v.root))
    go true o = subst (HasShares share) (sym (regrown-over v.depth (put v.depth x v.root) o))
        (least_less share (suc v.depth) 1 0 (raised v.depth (put v.depth x v.root)) (omega arith)
        (raised-share share v.depth 0 (put v.depth x v.root) (f v.depth) o (put-share share f v.depth 0 x v.root i.shape h)))
    go false o = subst (HasShares share) (sym (regrown-not v.depth (put v.depth x v.root) o)) (put-share share f v.depth 0 x v.root i.shape h)

pub inserted-clean : (p : Part) (x : Record) (v : Index) → IsShaped v → IsClean p (inserted x v) → IsClean p v
inserted-clean p x v i h = go (is_over v.depth (put v.depth x v.root)) refl h
  where
    go : (o : Bool) → is_over v.depth (put v.depth x v.root) ≡ o → IsClean p (regrown v.depth (put v.depth x v.root)) → IsClean p v
    go true o h = put-clean p v.depth x v.root i.shape (raised-clean p v.depth (put v.depth x v.root) (subst (IsClean p) (regrown-over v.depth (put v.depth x v.root) o) h))
    go false o h = put-clean p v.depth x v.root i.shape (subst (IsClean p) (regrown-not v.depth (put v.depth x v.root) o) h)

-- ---- What the root of an index tells

pub finds : (v : Index) (key : Key) → IsIndex v → found v.depth key v.root ≡ address_in key (records v)
finds v key i = found_is v.depth key v.root (good_of v i)

pub counts : (v : Index) → IsIndex v → total_of v.depth v.root ≡ length (records v)
counts v i = total_is v.depth (capacity_of v.depth) v.root i.sound

-- where a key is not blocked, a record of it makes no tree of depth 4
pub not_blocked : (x : Record) (v : Index) → IsShaped v → (IsBlocked v x.key → ⊥) → is_over v.depth (put v.depth x v.root) ≡ true → v.depth ≤ 2
not_blocked x v i n o =
    let b = over-blocked v.depth x v.root i.shape o in
    elim (cases_eq v.depth 3) [
      | inl e ↦ absurd (n (record { absent = b.absent; deepest = e; full = b.full }))
      | inr e ↦ omega (arith, i.shallow, e)
    ]

-- of an index it is the same to say that no record is found and that there is none
pub blocked_deep : (v : Index) (key : Key) → IsIndex v → IsBlocked v key → IsDeep v key
blocked_deep v key i b = record { absent = sym (finds v key i) ∙ b.absent; deepest = b.deepest; full = b.full }

pub deep_blocked : (v : Index) (key : Key) → IsIndex v → IsDeep v key → IsBlocked v key
deep_blocked v key i d = record { absent = finds v key i ∙ d.absent; deepest = d.deepest; full = d.full }

-- what the way finds is the address of the key
pub address-found : (v : Index) (key : Key) → IsIndex v → found_address v key ≡ address_of v key
address-found v key i = sym (in_leaf-is key (records v) ∙ ap (λ (o : Option ℕ). unwrap_or o undefined) (sym (finds v key i)))

-- a key that was put is there
pub put-there : (x : Record) (v : Index) → IsIndex v → IsThere (inserted x v) x.key
put-there x v i e = absurd (no (sym (ap (address_in x.key) (inserted-records x v i) ∙ put-finds_same x (records v)) ∙ e))
  where
    no : Some x.address ≡ None → ⊥
    no h = cc

-- a root that was raised, and one that was not
pub raised-index : (x : Record) (v : Index) (u : Tree (suc v.depth)) → is_over v.depth (put v.depth x v.root) ≡ true → u ≡ raised v.depth (put v.depth x v.root) →
    record { depth = suc v.depth; root = u } ≡ inserted x v
raised-index x v u o e =
    let P : Tree (suc v.depth) → Index = λ w. record { depth = suc v.depth; root = w } in
    ap P e ∙ sym (regrown-over v.depth (put v.depth x v.root) o)

pub same-index : (x : Record) (v : Index) (u : Tree v.depth) → is_over v.depth (put v.depth x v.root) ≡ false → u ≡ put v.depth x v.root →
    record { depth = v.depth; root = u } ≡ inserted x v
same-index x v u o e =
    let P : Tree v.depth → Index = λ w. record { depth = v.depth; root = w } in
    ap P e ∙ sym (regrown-not v.depth (put v.depth x v.root) o)

pub on_ok : {T E : Type 0} (r : Result T E) (P Q : Type 0) → (P → Q) → OnOk r P → OnOk r Q
on_ok (Ok a) P Q f h = f h
on_ok (Err e) P Q f h = tt

-- what a root became by a record more
abbrev pub Became : {A : Type 0} → (d : ℕ) → Tree d → (A → Tree (suc d)) → Tree d → Record → Option A → Type 0
Became d t T n x o = MatchOption o ((is_over d (put d x t) ≡ false) × (n ≡ put d x t)) (λ r. (is_over d (put d x t) ≡ true) × (T r ≡ raised d (put d x t)))

pub became_raised : {A : Type 0} (d : ℕ) (t : Tree d) (T : A → Tree (suc d)) (n : Tree d) (x : Record) (o : Option A) (a : A) → o ≡ Some a → Became d t T n x o →
    (is_over d (put d x t) ≡ true) × (T a ≡ raised d (put d x t))
became_raised d t T n x None a e h = absurd (none_is_not a e)
became_raised d t T n x (Some b) a e h = subst (λ (r : _). (is_over d (put d x t) ≡ true) × (T r ≡ raised d (put d x t))) (some_same b a e) h

pub became_same : {A : Type 0} (d : ℕ) (t : Tree d) (T : A → Tree (suc d)) (n : Tree d) (x : Record) (o : Option A) → o ≡ None → Became d t T n x o →
    (is_over d (put d x t) ≡ false) × (n ≡ put d x t)
became_same d t T n x None e h = h
became_same d t T n x (Some b) e h = absurd (none_is_not b (sym e))

pub three-not_over : (x : Record) (v : Index) → (is_over v.depth (put v.depth x v.root) ≡ true → v.depth ≤ 2) → v.depth ≡ 3 → is_over v.depth (put v.depth x v.root) ≡ false
three-not_over x v k e = elim (cases_Bool (is_over v.depth (put v.depth x v.root))) [
  | inl o ↦ absurd (omega (arith, k o, e))
  | inr o ↦ o
]
