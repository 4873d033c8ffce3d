-- What a put is, case by case.
use Rattle.std.proofs.Common.{◌≡◌, ℕ, suc, ◌≤◌, Bool, true, false, List, [], ◌∷◌, length, refl, ap, ◌∙◌, arith, Option, Some, None, is_some, slice_get, if◌then◌else◌, ◌==◌, ◌&&◌}
use Rattle.h5w_model.specs.Trees.{capacity_of}
use Rattle.std.proofs.lemmas.Bool.{cond-true, cond-false}
use Rattle.h5w_model.specs.declared.cell.Key.{Key}
use Rattle.h5w_bt.specs.declared.records.Record.{Record}
use Rattle.h5w_bt_nodes.specs.Nodes.{Tree, rank, address_in, found}
use Rattle.h5w_bt_nodes.specs.Puts.{put_record, changed_at, put, settled, with_divided, is_over, changed_node, is_full_path}
use Rattle.h5w_bt_nodes.proofs.Records.{under, here, past, side, rank-under, rank-not_under}

pub settled_some : (d i : ℕ) (t : Tree (suc d)) (c : Tree d) → slice_get t.children i ≡ Some c → settled d i t ≡ (if is_over d c then with_divided d i t c else t)
settled_some d i t c e = ap (λ (o : Option (Tree d)). elim o as (λ q. Tree (suc d)) [ None ↦ t | Some b ↦ (if is_over d b then with_divided d i t b else t) ]) e

pub settled_over : (d i : ℕ) (t : Tree (suc d)) (c : Tree d) → slice_get t.children i ≡ Some c → is_over d c ≡ true → settled d i t ≡ with_divided d i t c
settled_over d i t c e o = settled_some d i t c e ∙ cond-true (is_over d c) _ _ o

pub settled_not : (d i : ℕ) (t : Tree (suc d)) (c : Tree d) → slice_get t.children i ≡ Some c → is_over d c ≡ false → settled d i t ≡ t
settled_not d i t c e o = settled_some d i t c e ∙ cond-false (is_over d c) _ _ o

-- the node with the child on the way changed
abbrev pub went_down : (d : ℕ) → Record → Tree (suc d) → Tree (suc d)
went_down d x t = changed_node d t.records (changed_at (rank x.key t.records) (put d x) t.children) t.place

abbrev pub renewed : (d : ℕ) → Record → Tree (suc d) → Tree (suc d)
renewed d x t = record t { records = put_record x t.records; clean = false }

pub put_here : (d : ℕ) (x : Record) (a : ℕ) (t : Tree (suc d)) → address_in x.key t.records ≡ Some a → put (suc d) x t ≡ renewed d x t
put_here d x a t e = ap (λ (o : Option ℕ). if is_some o then renewed d x t else settled d (rank x.key t.records) (went_down d x t)) e

pub put_below : (d : ℕ) (x : Record) (t : Tree (suc d)) → address_in x.key t.records ≡ None → put (suc d) x t ≡ settled d (rank x.key t.records) (went_down d x t)
put_below d x t e = ap (λ (o : Option ℕ). if is_some o then renewed d x t else settled d (rank x.key t.records) (went_down d x t)) e

pub found_here : (d : ℕ) (key : Key) (a : ℕ) (t : Tree (suc d)) → address_in key t.records ≡ Some a → found (suc d) key t ≡ Some a
found_here d key a t e = ap (λ (o : Option ℕ). elim o as (λ q. Option ℕ) [
  | Some address ↦ Some address
  | None ↦ elim (slice_get t.children (rank key t.records)) as (λ q. Option ℕ) [ None ↦ None | Some c ↦ found d key c ]
]) e

pub found_below : (d : ℕ) (key : Key) (t : Tree (suc d)) (c : Tree d) → address_in key t.records ≡ None → slice_get t.children (rank key t.records) ≡ Some c →
    found (suc d) key t ≡ found d key c
found_below d key t c e f =
    ap (λ (o : Option ℕ). elim o as (λ q. Option ℕ) [
      | Some address ↦ Some address
      | None ↦ elim (slice_get t.children (rank key t.records)) as (λ q. Option ℕ) [ None ↦ None | Some b ↦ found d key b ]
    ]) e
    ∙ ap (λ (o : Option (Tree d)). elim o as (λ q. Option ℕ) [ None ↦ None | Some b ↦ found d key b ]) f

-- each node on the way is full where the first is and each further one
pub full_below : (d : ℕ) (key : Key) (t : Tree (suc d)) (c : Tree d) → slice_get t.children (rank key t.records) ≡ Some c →
    is_full_path (suc d) key t ≡ ((length t.records == capacity_of (suc d)) && is_full_path d key c)
full_below d key t c f =
    ap (λ (o : Option (Tree d)). (length t.records == capacity_of (suc d)) && elim o as (λ q. Bool) [ None ↦ false | Some b ↦ is_full_path d key b ]) f

pub rank-inside : (key : Key) (rs : List Record) → rank key rs ≤ length rs
rank-inside key [] = omega arith
rank-inside key (r ∷ rs) = elim (side r.key key) [
  | under u ↦ omega (arith, rank-under key r rs u, rank-inside key rs)
  | here u f ↦ omega (arith, rank-not_under key r rs u)
  | past u f ↦ omega (arith, rank-not_under key r rs u)
]

-- a key has a record in the list, or has none
pub data IsThere (key : Key) (rs : List Record) : Type 0 where
  there : (a : ℕ) → address_in key rs ≡ Some a → IsThere key rs
  not_there : address_in key rs ≡ None → IsThere key rs

pub is_there : (key : Key) (rs : List Record) → IsThere key rs
is_there key rs = go (address_in key rs) refl
  where
    go : (o : Option ℕ) → address_in key rs ≡ o → IsThere key rs
    go (Some a) e = there a e
    go None e = not_there e
