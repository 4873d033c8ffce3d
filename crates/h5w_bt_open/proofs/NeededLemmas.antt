-- The ranges of nodes to which keys lead, one child after another.
use Rattle.std.proofs.Common.{◌≡◌, ℕ, suc, ◌+◌, ◌<◌, ◌≤◌, List, [], ◌∷◌, ◌++◌, drop, length, map, Option, sym, ap, ap₂, ◌∙◌, add-one, append-nil, append_assoc, slice_index_or}
use Rattle.h5w_model.specs.declared.cell.Key.{Key}
use Rattle.h5w_bt.specs.declared.records.Record.{Record}
use Rattle.h5w_bt_open.specs.declared.span.Span.{Span}
use Rattle.h5w_bt_open.specs.Spans.{low_behind, rest, span_here}
use Rattle.h5w_bt_open.specs.Needed.{of_each}
use Rattle.h5w_bt_open.proofs.StepLemmas.{drop_here, none_left, rest_dropped}

module _ {T A B : Type 0} (f : Option Span → T → List B) (tree : A → T) (low high : Option Key) (rs : List Record) (xs : List A) (i : ℕ) where
  -- the child at a place passed
  pub needed_step : (x : A) (here : Option Span) (next : Option Key) (before after all : List B) → i < length xs → x ≡ slice_index_or xs i x → here ≡ span_here low high (drop i rs) → next ≡ low_behind low (drop i rs)
      → after ≡ before ++ f here (tree x) → before ++ of_each f low high (drop i rs) (map tree (drop i xs)) ≡ all → after ++ of_each f next high (drop (i + 1) rs) (map tree (drop (i + 1) xs)) ≡ all
  needed_step x here next before after all inside is h n a so_far =
      let later : List T = map tree (drop (i + 1) xs) in
      let e : drop i xs ≡ x ∷ drop (i + 1) xs = drop_here xs i x inside ∙ ap₂ (λ (y : A) (k : ℕ). y ∷ drop k xs) (sym is) (sym (add-one i)) in
      let r : rest (drop i rs) ≡ drop (i + 1) rs = rest_dropped rs i ∙ ap (λ (k : ℕ). drop k rs) (sym (add-one i)) in
      let own : List B = f (span_here low high (drop i rs)) (tree x) in
      let same : f here (tree x) ++ of_each f next high (drop (i + 1) rs) (map tree (drop (i + 1) xs)) ≡ of_each f low high (drop i rs) (map tree (drop i xs)) =
      ap (λ (s : Option Span). f s (tree x) ++ of_each f next high (drop (i + 1) rs) later) h
      ∙ ap (λ (o : Option Key). own ++ of_each f o high (drop (i + 1) rs) later) n
      ∙ ap (λ (l : List Record). own ++ of_each f (low_behind low (drop i rs)) high l later) (sym r)
      ∙ ap (λ (l : List A). of_each f low high (drop i rs) (map tree l)) (sym e) in
      ap (λ (l : List B). l ++ of_each f next high (drop (i + 1) rs) later) a
      ∙ append_assoc before (f here (tree x)) (of_each f next high (drop (i + 1) rs) later)
      ∙ ap (λ (l : List B). before ++ l) same
      ∙ so_far

  -- all children passed
  pub needed_end : (before all : List B) → length xs ≤ i → before ++ of_each f low high (drop i rs) (map tree (drop i xs)) ≡ all → before ≡ all
  needed_end before all past so_far =
      sym (append-nil before) ∙ ap (λ (l : List A). before ++ of_each f low high (drop i rs) (map tree l)) (sym (none_left xs i past)) ∙ so_far
