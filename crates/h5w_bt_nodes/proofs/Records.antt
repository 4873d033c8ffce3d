-- Lists of records: a record put at its place, what is found, and how many they are then.
use Rattle.std.proofs.Common.{◌≡◌, ℕ, suc, ◌+◌, true, false, List, [], ◌∷◌, length, inl, inr, refl, sym, ap, ◌∙◌, arith, Some, None}
use Rattle.std.proofs.lemmas.Bool.{cases_Bool, cond-true, cond-false}
use Rattle.h5w_model.specs.declared.cell.Key.{Key}
use Rattle.h5w_model.specs.Tables.{key_below, key_equal}
use Rattle.h5w_bt.specs.declared.records.Record.{Record}
use Rattle.h5w_bt_nodes.specs.Nodes.{rank, address_in}
use Rattle.h5w_bt_nodes.specs.Puts.{put_record}

pub none_is_not_some : (a : ℕ) → Some a ≡ None → ⊥
none_is_not_some a e = cc

-- a record is below a key, has it, or is above it
pub data Side (r key : Key) : Type 0 where
  under : key_below r key ≡ true → Side r key
  here : key_below r key ≡ false → key_equal r key ≡ true → Side r key
  past : key_below r key ≡ false → key_equal r key ≡ false → Side r key

pub side : (r key : Key) → Side r key
side r key = elim (cases_Bool (key_below r key)) [
  | inl b ↦ under b
  | inr b ↦ elim (cases_Bool (key_equal r key)) [ inl e ↦ here b e | inr e ↦ past b e ]
]

-- ---- One step

pub put-under : (x r : Record) (rs : List Record) → key_below r.key x.key ≡ true → put_record x (r ∷ rs) ≡ r ∷ put_record x rs
put-under x r rs b = cond-true (key_below r.key x.key) _ _ b

pub put-here : (x r : Record) (rs : List Record) → key_below r.key x.key ≡ false → key_equal r.key x.key ≡ true → put_record x (r ∷ rs) ≡ x ∷ rs
put-here x r rs b e = cond-false (key_below r.key x.key) _ _ b ∙ cond-true (key_equal r.key x.key) _ _ e

pub put-past : (x r : Record) (rs : List Record) → key_below r.key x.key ≡ false → key_equal r.key x.key ≡ false → put_record x (r ∷ rs) ≡ x ∷ r ∷ rs
put-past x r rs b e = cond-false (key_below r.key x.key) _ _ b ∙ cond-false (key_equal r.key x.key) _ _ e

pub in-under : (key : Key) (r : Record) (rs : List Record) → key_below r.key key ≡ true → address_in key (r ∷ rs) ≡ address_in key rs
in-under key r rs b = cond-true (key_below r.key key) _ _ b

pub in-here : (key : Key) (r : Record) (rs : List Record) → key_below r.key key ≡ false → key_equal r.key key ≡ true → address_in key (r ∷ rs) ≡ Some r.address
in-here key r rs b e = cond-false (key_below r.key key) _ _ b ∙ cond-true (key_equal r.key key) _ _ e

pub in-past : (key : Key) (r : Record) (rs : List Record) → key_below r.key key ≡ false → key_equal r.key key ≡ false → address_in key (r ∷ rs) ≡ None
in-past key r rs b e = cond-false (key_below r.key key) _ _ b ∙ cond-false (key_equal r.key key) _ _ e

pub rank-under : (key : Key) (r : Record) (rs : List Record) → key_below r.key key ≡ true → rank key (r ∷ rs) ≡ suc (rank key rs)
rank-under key r rs b = cond-true (key_below r.key key) _ _ b

pub rank-not_under : (key : Key) (r : Record) (rs : List Record) → key_below r.key key ≡ false → rank key (r ∷ rs) ≡ 0
rank-not_under key r rs b = cond-false (key_below r.key key) _ _ b

-- ---- How many

pub put-longer : (x : Record) (rs : List Record) → address_in x.key rs ≡ None → length (put_record x rs) ≡ length rs + 1
put-longer x [] e = refl
put-longer x (r ∷ rs) e = elim (side r.key x.key) [
  | under u ↦ (let ih = put-longer x rs (sym (in-under x.key r rs u) ∙ e) in ap length (put-under x r rs u) ∙ ap suc ih ∙ omega arith)
  | here u f ↦ (let c : Some r.address ≡ None = sym (in-here x.key r rs u f) ∙ e in absurd (none_is_not_some r.address c))
  | past u f ↦ (ap length (put-past x r rs u f) ∙ omega arith)
]

pub put-as_long : (x : Record) (rs : List Record) → (a : ℕ) → address_in x.key rs ≡ Some a → length (put_record x rs) ≡ length rs
put-as_long x [] a e = absurd (none_is_not_some a (sym e))
put-as_long x (r ∷ rs) a e = elim (side r.key x.key) [
  | under u ↦ ap length (put-under x r rs u) ∙ ap suc (put-as_long x rs a (sym (in-under x.key r rs u) ∙ e))
  | here u f ↦ ap length (put-here x r rs u f)
  | past u f ↦ absurd (none_is_not_some a (sym e ∙ in-past x.key r rs u f))
]
