-- What a search of a node's records tells of the way down.
use Rattle.std.proofs.Common.{◌≡◌, ℕ, suc, ◌+◌, ◌<◌, ◌≤◌, Bool, true, false, ◌&&◌, List, length, map, refl, sym, ap, ◌∙◌, arith, Option, Some, None, is_some, is_none, slice_get, eq-eqb}
use Rattle.std.proofs.lemmas.List.{length-map}
use Rattle.h5w_model.specs.declared.cell.Key.{Key}
use Rattle.h5w_model.specs.Trees.{capacity_of}
use Rattle.h5w_bt.specs.declared.records.Record.{Record}
use Rattle.h5w_bt_nodes.specs.Nodes.{Tree, rank, address_in, found}
use Rattle.h5w_bt_nodes.specs.Puts.{is_full_path}
use Rattle.h5w_bt_nodes.proofs.Steps.{found_here, found_below, full_below}

pub none_of : (o : Option ℕ) → is_some o ≡ false → o ≡ None
none_of None h = refl
none_of (Some a) h = absurd (no h)
  where
    no : true ≡ false → ⊥
    no h = cc

pub none-searched : (key : Key) (rs ys : List Record) (o : Option ℕ) → ys ≡ rs → o ≡ address_in key ys → is_some o ≡ false → address_in key rs ≡ None
none-searched key rs ys o v f h = ap (address_in key) (sym v) ∙ sym f ∙ none_of o h

pub inside-children : {A B : Type 0} (T : A → B) (cs : List A) (rs ys : List Record) (k : ℕ) → length (map T cs) ≡ length rs + 1 → ys ≡ rs → k ≤ length ys → k < length cs
inside-children T cs rs ys k n v h = omega (arith, n, ap (length {A = Record}) v, h, length-map cs T)

pub found-searched : (d : ℕ) (key : Key) (t : Tree (suc d)) (k : ℕ) (ys : List Record) (o : Option ℕ) (b : Tree d) → ys ≡ t.records → k ≡ rank key ys → o ≡ address_in key ys →
    is_some o ≡ false → slice_get t.children k ≡ Some b → found (suc d) key t ≡ found d key b
found-searched d key t k ys o b v p f h g =
    found_below d key t b (none-searched key t.records ys o v f h)
    (ap (λ (n : ℕ). slice_get t.children n) (sym (p ∙ ap (rank key) v)) ∙ g)

pub full-searched : (d : ℕ) (key : Key) (t : Tree (suc d)) (k : ℕ) (ys : List Record) (b : Tree d) → ys ≡ t.records → k ≡ rank key ys → length t.records ≡ capacity_of (suc d) →
    slice_get t.children k ≡ Some b → is_full_path (suc d) key t ≡ is_full_path d key b
full-searched d key t k ys b v p n g =
    full_below d key t b (ap (λ (n : ℕ). slice_get t.children n) (sym (p ∙ ap (rank key) v)) ∙ g)
    ∙ ap (λ (q : Bool). q && is_full_path d key b) (eq-eqb (length t.records) (capacity_of (suc d)) n)
