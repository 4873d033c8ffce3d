-- A record at its place is a set or an insert there.
use Rattle.std.proofs.Common.{◌≡◌, ℕ, suc, ◌<◌, true, false, List, [], ◌∷◌, ◌++◌, length, take, get_or, set, insert, refl, sym, ap, subst, ◌∙◌, arith, Option, Some, None, is_some, add-one}
use Rattle.std.proofs.lemmas.List.{take_more, same_from_push}
use Rattle.h5w_model.specs.declared.cell.Key.{Key}
use Rattle.h5w_bt.specs.declared.records.Record.{Record}
use Rattle.h5w_bt_nodes.specs.Nodes.{rank, address_in}
use Rattle.h5w_bt_nodes.specs.Puts.{put_record}
use Rattle.h5w_bt_nodes.proofs.Records.{under, here, past, side, put-under, put-here, put-past, in-under, in-here, in-past, rank-under, rank-not_under, none_is_not_some}

pub there-inside : (key : Key) (a : ℕ) (rs : List Record) → address_in key rs ≡ Some a → rank key rs < length rs
there-inside key a [] e = absurd (none_is_not_some a (sym e))
there-inside key a (r ∷ rs) e = elim (side r.key key) [
  | under u ↦ omega (arith, rank-under key r rs u, there-inside key a rs (sym (in-under key r rs u) ∙ e))
  | here u f ↦ omega (arith, rank-not_under key r rs u)
  | past u f ↦ omega (arith, rank-not_under key r rs u)
]

pub put-set : (x : Record) (a : ℕ) (rs : List Record) → address_in x.key rs ≡ Some a → put_record x rs ≡ set rs (rank x.key rs) x
put-set x a [] e = absurd (none_is_not_some a (sym e))
put-set x a (r ∷ rs) e = elim (side r.key x.key) [
  | under u ↦ put-under x r rs u ∙ ap (λ (l : List Record). r ∷ l) (put-set x a rs (sym (in-under x.key r rs u) ∙ e))
      ∙ ap (λ (k : ℕ). set (r ∷ rs) k x) (sym (rank-under x.key r rs u))
  | here u f ↦ put-here x r rs u f ∙ ap (λ (k : ℕ). set (r ∷ rs) k x) (sym (rank-not_under x.key r rs u))
  | past u f ↦ absurd (none_is_not_some a (sym e ∙ in-past x.key r rs u f))
]

pub put-insert : (x : Record) (rs : List Record) → address_in x.key rs ≡ None → put_record x rs ≡ insert rs (rank x.key rs) x
put-insert x [] e = refl
put-insert x (r ∷ rs) e = elim (side r.key x.key) [
  | under u ↦ put-under x r rs u ∙ ap (λ (l : List Record). r ∷ l) (put-insert x rs (sym (in-under x.key r rs u) ∙ e))
      ∙ ap (λ (k : ℕ). insert (r ∷ rs) k x) (sym (rank-under x.key r rs u))
  | here u f ↦ absurd (none_is_not_some r.address (sym (in-here x.key r rs u f) ∙ e))
  | past u f ↦ put-past x r rs u f ∙ ap (λ (k : ℕ). insert (r ∷ rs) k x) (sym (rank-not_under x.key r rs u))
]

-- the same, from what a search answers
pub search-inside : (key : Key) (rs : List Record) (o : Option ℕ) → o ≡ address_in key rs → is_some o ≡ true → rank key rs < length rs
search-inside key rs None e h = absurd (no h)
  where
    no : false ≡ true → ⊥
    no h = cc
search-inside key rs (Some a) e h = there-inside key a rs (sym e)

pub search-set : (x : Record) (rs : List Record) (o : Option ℕ) → o ≡ address_in x.key rs → is_some o ≡ true → put_record x rs ≡ set rs (rank x.key rs) x
search-set x rs None e h = absurd (no h)
  where
    no : false ≡ true → ⊥
    no h = cc
search-set x rs (Some a) e h = put-set x a rs (sym e)

pub search-insert : (x : Record) (rs : List Record) (o : Option ℕ) → o ≡ address_in x.key rs → is_some o ≡ false → put_record x rs ≡ insert rs (rank x.key rs) x
search-insert x rs None e h = put-insert x rs (sym e)
search-insert x rs (Some a) e h = absurd (no h)
  where
    no : true ≡ false → ⊥
    no h = cc

-- what a search of the same records tells
pub set-searched : (x : Record) (rs ys : List Record) (k : ℕ) (o : Option ℕ) → ys ≡ rs → k ≡ rank x.key ys → o ≡ address_in x.key ys → is_some o ≡ true → set rs k x ≡ put_record x rs
set-searched x rs ys k o e p f h = subst (λ (l : List Record). set l k x ≡ put_record x l) e (ap (λ (n : ℕ). set ys n x) p ∙ sym (search-set x ys o f h))

pub insert-searched : (x : Record) (rs ys : List Record) (k : ℕ) (o : Option ℕ) → ys ≡ rs → k ≡ rank x.key ys → o ≡ address_in x.key ys → is_some o ≡ false → insert rs k x ≡ put_record x rs
insert-searched x rs ys k o e p f h = subst (λ (l : List Record). insert l k x ≡ put_record x l) e (ap (λ (n : ℕ). insert ys n x) p ∙ sym (search-insert x ys o f h))

-- the front of a list and the element behind it
pub front_of : {A : Type 0} (k : ℕ) (xs ys : List A) (y d : A) → k < length xs → take (suc k) xs ≡ ys ++ y ∷ [] → (ys ≡ take k xs) × (y ≡ get_or xs k d)
front_of k xs ys y d h e = same_from_push ys (take k xs) y (get_or xs k d) (sym e ∙ ap (λ (n : ℕ). take n xs) (sym (add-one k)) ∙ take_more xs k d h)
