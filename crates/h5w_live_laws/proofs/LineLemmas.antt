-- The lines of a writer's flushes, and the flushed rows of its log.
use Rattle.std.proofs.Common.{◌≡◌, ◌⊎◌, ℕ, zero, suc, ◌+◌, ◌/◌, ◌<◌, ◌≤◌, ◌&&◌, Bool, true, false, cond, List, [], ◌∷◌, ◌++◌, length, ℤ, refl, sym, ◌∙◌, ap, arith, inl, inr, append_assoc}
use Rattle.std.specs.Prelude.{nat_le, nat_lt}
use Rattle.std.proofs.lemmas.Bool.{cases_lt, cond_both, cond-true, cond-false, and_from, lt-ltb, le-leb, le-ltb, lt-leb, ltb-true}
use Rattle.std.proofs.lemmas.List.{append-nil}
use Rattle.h5w_model.specs.Logs.{Log, flushed_at}
use Rattle.h5w_model.specs.Agrees.{FlushesAgree, flushes_within, rows_after, values_in}
use Rattle.h5w_model.specs.declared.report.FlushLine.{FlushLine}
use Rattle.h5w_reader_laws.specs.Headline.{rises}
use Rattle.h5w_live_laws.specs.Lines.{pieces_in, rows_told}

-- ---- How many flushes became whole

and_right : (x y : Bool) → y ≡ false → (x && y) ≡ false
and_right true y e = e
and_right false y e = refl

and_left : (x y : Bool) → x ≡ false → (x && y) ≡ false
and_left x y e = ap (λ (b : Bool). b && y) e

-- 1 where a line is whole behind one position and by another
abbrev whole_by : ℕ → ℕ → ℕ → ℕ
whole_by a b p = cond (nat_lt a p && nat_le p b) 1 0

whole_here : (a b p : ℕ) → a < p → p ≤ b → whole_by a b p ≡ 1
whole_here a b p low high = cond-true (nat_lt a p && nat_le p b) 1 0 (and_from (nat_lt a p) (nat_le p b) (lt-ltb a p low) (le-leb p b high))

whole_before : (a b p : ℕ) → p ≤ a → whole_by a b p ≡ 0
whole_before a b p low = cond-false (nat_lt a p && nat_le p b) 1 0 (and_left (nat_lt a p) (nat_le p b) (le-ltb a p low))

whole_later : (a b p : ℕ) → b < p → whole_by a b p ≡ 0
whole_later a b p high = cond-false (nat_lt a p && nat_le p b) 1 0 (and_right (nat_lt a p) (nat_le p b) (lt-leb p b high))

whole_onward : (a b c p : ℕ) → a ≤ b → b ≤ c → whole_by a c p ≡ whole_by a b p + whole_by b c p
whole_onward a b c p low high = go (cases_lt a p) (cases_lt b p) (cases_lt c p) where
  go : (a < p) ⊎ (p ≤ a) → (b < p) ⊎ (p ≤ b) → (c < p) ⊎ (p ≤ c) → whole_by a c p ≡ whole_by a b p + whole_by b c p
  go (inr x) y z = omega (arith, whole_before a c p x, whole_before a b p x, whole_before b c p (omega arith))
  go (inl x) (inr y) z = omega (arith, whole_here a c p x (omega arith), whole_here a b p x y, whole_before b c p y)
  go (inl x) (inl y) (inr z) = omega (arith, whole_here a c p x z, whole_later a b p y, whole_here b c p y z)
  go (inl x) (inl y) (inl z) = omega (arith, whole_later a c p z, whole_later a b p y, whole_later b c p z)

within_onward : (a b c : ℕ) (fs : List FlushLine) → a ≤ b → b ≤ c → flushes_within a c fs ≡ flushes_within a b fs + flushes_within b c fs
within_onward a b c [] low high = refl
within_onward a b c (f ∷ fs) low high = omega (arith, within_onward a b c fs low high, whole_onward a b c f.pieces low high)

-- rows that change by a position come by a line that is whole there
none_level : (q before : ℕ) (fs : List FlushLine) → flushes_within q (q + 1) fs ≡ 0 → rows_after before q fs ≡ rows_after before (q + 1) fs
none_level q before [] none = refl
none_level q before (f ∷ fs) none = go (λ b. none_level q b fs (omega (arith, none))) (cases_lt q f.pieces) where
  here : whole_by q (q + 1) f.pieces ≡ 0
  here = omega (arith, none)

  chosen : ℕ → ℕ
  chosen p = cond (nat_le f.pieces p) f.rows before

  both : ((b : ℕ) → rows_after b q fs ≡ rows_after b (q + 1) fs) → chosen q ≡ chosen (q + 1) → rows_after (chosen q) q fs ≡ rows_after (chosen (q + 1)) (q + 1) fs
  both rest e = ap (λ b. rows_after b q fs) e ∙ rest (chosen (q + 1))

  above : ((b : ℕ) → rows_after b q fs ≡ rows_after b (q + 1) fs) → q < f.pieces → (q + 1 < f.pieces) ⊎ (f.pieces ≤ q + 1) → rows_after (chosen q) q fs ≡ rows_after (chosen (q + 1)) (q + 1) fs
  above rest x (inl y) =
      both rest (cond-false (nat_le f.pieces q) f.rows before (lt-leb f.pieces q x) ∙ sym (cond-false (nat_le f.pieces (q + 1)) f.rows before (lt-leb f.pieces (q + 1) y)))
  above rest x (inr y) = let one = whole_here q (q + 1) f.pieces x y in absurd (omega (arith, here, one))

  go : ((b : ℕ) → rows_after b q fs ≡ rows_after b (q + 1) fs) → (q < f.pieces) ⊎ (f.pieces ≤ q) → rows_after (chosen q) q fs ≡ rows_after (chosen (q + 1)) (q + 1) fs
  go rest (inr x) =
      both rest (cond-true (nat_le f.pieces q) f.rows before (le-leb f.pieces q x) ∙ sym (cond-true (nat_le f.pieces (q + 1)) f.rows before (le-leb f.pieces (q + 1) (omega arith))))
  go rest (inl x) = above rest x (cases_lt (q + 1) f.pieces)

-- each rise of the flushed rows is a line
pub rises_lines : (log : Log) (fs : List FlushLine) (from n end : ℕ) → ((p : ℕ) → p ≤ end → flushed_at log p ≡ rows_after 0 p fs) → from + n ≤ end → rises log from n ≤ flushes_within from (from + n) fs
rises_lines log fs from zero end tells within = omega arith
rises_lines log fs from (suc n) end tells within =
    let q : ℕ = from + n in
    let before = rises_lines log fs from n end tells (omega arith) in
    let joined = within_onward from q (q + 1) fs (omega arith) (omega arith) in
    let same : from + suc n ≡ q + 1 = omega arith in
    let here : flushed_at log q ≡ rows_after 0 q fs = tells q (omega arith) in
    let there : flushed_at log (from + suc n) ≡ rows_after 0 (q + 1) fs = tells (from + suc n) within ∙ ap (λ p. rows_after 0 p fs) same in
    let all : flushes_within from (from + suc n) fs ≡ flushes_within from (q + 1) fs = ap (λ p. flushes_within from p fs) same in
    cond_both (nat_lt (flushed_at log q) (flushed_at log (from + suc n))) 1 0 (λ k. rises log from n + k ≤ flushes_within from (from + suc n) fs)
    (λ t. risen q before joined all here there (ltb-true (flushed_at log q) (flushed_at log (from + suc n)) t) (cases_lt 0 (flushes_within q (q + 1) fs)))
    (λ t. omega (arith, before, joined, all))
  where
    risen : (q : ℕ) → rises log from n ≤ flushes_within from q fs → flushes_within from (q + 1) fs ≡ flushes_within from q fs + flushes_within q (q + 1) fs
        → flushes_within from (from + suc n) fs ≡ flushes_within from (q + 1) fs → flushed_at log q ≡ rows_after 0 q fs → flushed_at log (from + suc n) ≡ rows_after 0 (q + 1) fs
        → flushed_at log q < flushed_at log (from + suc n) → (0 < flushes_within q (q + 1) fs) ⊎ (flushes_within q (q + 1) fs ≤ 0) → rises log from n + 1 ≤ flushes_within from (from + suc n) fs
    risen q before joined all here there less (inl some) = omega (arith, before, joined, all, some)
    risen q before joined all here there less (inr none) = absurd (omega (arith, here, there, less, none_level q 0 fs (omega arith)))

pub within_more : (a b c : ℕ) (fs : List FlushLine) → a ≤ b → b ≤ c → flushes_within a b fs ≤ flushes_within a c fs
within_more a b c fs low high = omega (arith, within_onward a b c fs low high)

-- ---- One line more

rows_append : (before p : ℕ) (fs : List FlushLine) (f : FlushLine) → rows_after before p (fs ++ f ∷ []) ≡ cond (nat_le f.pieces p) f.rows (rows_after before p fs)
rows_append before p [] f = refl
rows_append before p (g ∷ gs) f = rows_append (cond (nat_le g.pieces p) g.rows before) p gs f

pub agree_more : (columns pieces rows : ℕ) (bs : List (List ℤ)) (fs : List FlushLine) (v : ℤ) (vs : List ℤ) (f : FlushLine) → FlushesAgree columns pieces rows bs fs
    → pieces_in pieces fs < f.pieces → f.rows ≡ rows_told rows fs + length (v ∷ vs) / columns → FlushesAgree columns pieces rows (bs ++ (v ∷ vs) ∷ []) (fs ++ f ∷ [])
agree_more columns pieces rows [] [] v vs f h later more = (later, more, tt)
agree_more columns pieces rows [] (g ∷ gs) v vs f h later more = absurd h
agree_more columns pieces rows ([] ∷ bs) fs v vs f h later more = agree_more columns pieces rows bs fs v vs f h later more
agree_more columns pieces rows ((w ∷ ws) ∷ bs) [] v vs f h later more = absurd h
agree_more columns pieces rows ((w ∷ ws) ∷ bs) (g ∷ gs) v vs f h later more = (h.0, h.1, agree_more columns g.pieces g.rows bs gs v vs f h.2 later more)

pub agree_empty : (columns pieces rows : ℕ) (bs : List (List ℤ)) (fs : List FlushLine) → FlushesAgree columns pieces rows bs fs → FlushesAgree columns pieces rows (bs ++ [] ∷ []) fs
agree_empty columns pieces rows [] [] h = tt
agree_empty columns pieces rows [] (g ∷ gs) h = absurd h
agree_empty columns pieces rows ([] ∷ bs) fs h = agree_empty columns pieces rows bs fs h
agree_empty columns pieces rows ((w ∷ ws) ∷ bs) [] h = absurd h
agree_empty columns pieces rows ((w ∷ ws) ∷ bs) (g ∷ gs) h = (h.0, h.1, agree_empty columns g.pieces g.rows bs gs h.2)

pub values_more : (bs : List (List ℤ)) (b : List ℤ) → values_in (bs ++ b ∷ []) ≡ values_in bs ++ b
values_more [] b = append-nil b
values_more (c ∷ bs) b = ap (λ (vs : List ℤ). c ++ vs) (values_more bs b) ∙ sym (append_assoc c (values_in bs) b)

-- a line more, of the rows that are flushed at the last position
pub tells_more : (new : Log) (fs : List FlushLine) (f : FlushLine) (to : ℕ)
    → f.pieces ≡ to → ((p : ℕ) → p < to → flushed_at new p ≡ rows_after 0 p fs) → flushed_at new to ≡ f.rows → (p : ℕ) → p ≤ to → flushed_at new p ≡ rows_after 0 p (fs ++ f ∷ [])
tells_more new fs f to at below here p within = go (cases_lt p to) where
  go : (p < to) ⊎ (to ≤ p) → flushed_at new p ≡ rows_after 0 p (fs ++ f ∷ [])
  go (inl x) = below p x ∙ sym (rows_append 0 p fs f ∙ cond-false (nat_le f.pieces p) f.rows (rows_after 0 p fs) (lt-leb f.pieces p (omega (arith, at))))
  go (inr x) =
      let same : p ≡ to = omega arith in
      ap (flushed_at new) same ∙ here ∙ sym (rows_append 0 p fs f ∙ cond-true (nat_le f.pieces p) f.rows (rows_after 0 p fs) (le-leb f.pieces p (omega (arith, at))))
