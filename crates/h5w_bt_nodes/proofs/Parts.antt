-- The two parts of a list that is divided, and how long they are.
use Rattle.std.proofs.Common.{◌≡◌, ℕ, suc, ◌+◌, ◌/◌, ◌<◌, ◌≤◌, true, List, length, take, drop, set, ap, ◌∙◌, arith, length-set, insert}
use Rattle.std.proofs.lemmas.List.{length-take, length-drop}
use Rattle.std.proofs.lemmas.List.Edits.{length-insert}
use Rattle.std.proofs.lemmas.Bool.{ltb-true}
use Rattle.h5w_model.specs.Trees.{capacity_of}
use Rattle.h5w_bt.specs.declared.records.Record.{Record}
use Rattle.h5w_bt_nodes.specs.Nodes.{Tree, records_of}
use Rattle.h5w_bt_nodes.specs.Puts.{put_record, changed_at, is_over, half}
use Rattle.h5w_bt_nodes.proofs.Records.{put-longer, put-as_long}
use Rattle.h5w_bt_nodes.proofs.Places.{length-changed}
use Rattle.h5w_bt_nodes.proofs.Steps.{there, not_there, is_there}

pub put-at_most : (x : Record) (rs : List Record) → length (put_record x rs) ≤ length rs + 1
put-at_most x rs = elim (is_there x.key rs) [
  | there a e ↦ omega (arith, put-as_long x rs a e)
  | not_there e ↦ omega (arith, put-longer x rs e)
]

pub half_fits : (c : ℕ) → c / 2 ≤ c
half_fits c = omega arith

pub taken_both : {A B : Type 0} (h : ℕ) (rs : List A) (cs : List B) → length cs ≡ length rs + 1 → h < length rs → length (take (suc h) cs) ≡ length (take h rs) + 1
taken_both h rs cs n lt = omega (arith, length-take h rs, length-take (suc h) cs)

pub dropped_both : {A B : Type 0} (h : ℕ) (rs : List A) (cs : List B) → length cs ≡ length rs + 1 → h < length rs → length (drop (suc h) cs) ≡ length (drop (suc h) rs) + 1
dropped_both h rs cs n lt = omega (arith, length-drop (suc h) rs, length-drop (suc h) cs)

pub taken_few : {A : Type 0} (h c : ℕ) (rs : List A) → h ≤ c → length (take h rs) ≤ c
taken_few h c rs n = omega (arith, length-take h rs)

pub dropped_few : {A : Type 0} (h c : ℕ) (rs : List A) → length rs ≤ suc c → length (drop (suc h) rs) ≤ c
dropped_few h c rs n = omega (arith, length-drop (suc h) rs)

-- a node with a record too many has one to go up
pub over-half : (d : ℕ) (t : Tree d) → is_over d t ≡ true → half d < length (records_of d t)
over-half d t o = omega (arith, ltb-true (capacity_of d) (length (records_of d t)) o, half_fits (capacity_of d))

-- ---- A child on the way changed, and divided where it has a record too many

pub divided_long : {A : Type 0} (f : A → A) (i : ℕ) (xs : List A) (l r : A) → i < length xs → length (insert (set (changed_at i f xs) i l) (suc i) r) ≡ length xs + 1
divided_long f i xs l r n =
    let e : length (set (changed_at i f xs) i l) ≡ length xs = length-set (changed_at i f xs) i l ∙ length-changed i f xs in
    length-insert (set (changed_at i f xs) i l) (suc i) r (omega (arith, n, e)) ∙ ap (λ (n : ℕ). n + 1) e
