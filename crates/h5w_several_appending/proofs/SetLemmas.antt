-- The batches of several datasets.
use Rattle.std.proofs.Common.{◌≡◌, ℕ, ◌+◌, ◌*◌, ◌/◌, ◌≤◌, Bool, true, false, List, [], ◌∷◌, ◌++◌, length, ℤ, refl, sym, ap, ◌∙◌, arith, append_assoc, append-nil}
use Rattle.std.specs.Prelude.{◌&&◌, ◌==◌, if◌then◌else◌}
use Rattle.std.proofs.lemmas.Bool.{ne_eqb, eq-eqb}
use Rattle.h5w_model.specs.Datasets.{Described}
use Rattle.h5w_batches.specs.Batches.{Batches, end_batch}
use Rattle.h5w_appending.specs.Taken.{rows_after, values_of}
use Rattle.h5w_appending.proofs.BatchLemmas.{rows-append, values-append, divides}
use Rattle.h5w_several_batches.specs.SetLines.{used_after, used_by}
use Rattle.h5w_several_batches.specs.declared.line.SetLine.{SetLine}
use Rattle.h5w_several_batches.specs.declared.line.SetLine.TheVariants.{Numbers, Use}
use Rattle.h5w_several_appending.specs.Taken.{SetBatches, after_all, after_said, close_each, end_each, none_waits, rows_with, told_line, told_text}

-- ---- The dataset in use

closed_used : (ds : List Described) (b : SetBatches) (t : Bool) → (if t then b else record b { sets = end_each b.sets; told = b.told ++ rows_with ds (end_each b.sets) ∷ [] }).used ≡ b.used
closed_used ds b true = refl
closed_used ds b false = refl

pub close_used : (ds : List Described) (b : SetBatches) → (close_each ds b).used ≡ b.used
close_used ds b = closed_used ds b (none_waits b.sets)

pub said_used : (ds : List Described) (b : SetBatches) (x : SetLine) → (after_said ds b x).used ≡ used_after b.used x
said_used ds b (Numbers []) = close_used ds b
said_used ds b (Numbers (v ∷ vs)) = refl
said_used ds b (Use d) = refl

pub all_used : (ds : List Described) (b : SetBatches) (xs : List SetLine) → (after_all ds b xs).used ≡ used_by b.used xs
all_used ds b [] = refl
all_used ds b (x ∷ xs) = all_used ds (after_said ds b x) xs ∙ ap (λ (n : ℕ). used_by n xs) (said_used ds b x)

pub all-append : (ds : List Described) (b : SetBatches) (xs : List SetLine) (x : SetLine) → after_all ds b (xs ++ x ∷ []) ≡ after_said ds (after_all ds b xs) x
all-append ds b [] x = refl
all-append ds b (y ∷ ys) x = all-append ds (after_said ds b y) ys x

-- ---- A batch that is closed

pub close_none : (ds : List Described) (b : SetBatches) → none_waits b.sets ≡ true → close_each ds b ≡ b
close_none ds b none = ap (λ (t : Bool). if t then b else record b { sets = end_each b.sets; told = b.told ++ rows_with ds (end_each b.sets) ∷ [] }) none

pub close_some : (ds : List Described) (b : SetBatches) → none_waits b.sets ≡ false → close_each ds b ≡ record b { sets = end_each b.sets; told = b.told ++ rows_with ds (end_each b.sets) ∷ [] }
close_some ds b some = ap (λ (t : Bool). if t then b else record b { sets = end_each b.sets; told = b.told ++ rows_with ds (end_each b.sets) ∷ [] }) some

pub ended_none : (bs : List Batches) → none_waits (end_each bs) ≡ true
ended_none [] = refl
ended_none (b ∷ bs) = ended_none bs

closed_cases : (ds : List Described) (b : SetBatches) (t : Bool) → none_waits b.sets ≡ t → none_waits (close_each ds b).sets ≡ true
closed_cases ds b true e = ap (λ (c : SetBatches). none_waits c.sets) (close_none ds b e) ∙ e
closed_cases ds b false e = ap (λ (c : SetBatches). none_waits c.sets) (close_some ds b e) ∙ ended_none b.sets

-- no value waits behind it
pub closed_none : (ds : List Described) (b : SetBatches) → none_waits (close_each ds b).sets ≡ true
closed_none ds b = closed_cases ds b (none_waits b.sets) refl

pub both_true : (a b : Bool) → (a && b) ≡ true → (a ≡ true) × (b ≡ true)
both_true true b e = (refl, e)
both_true false b e = let clash : false ≡ true = e in absurd (cc)

pub first_false : (a b : Bool) → a ≡ false → (a && b) ≡ false
first_false a b e = ap (λ (t : Bool). t && b) e

pub second_false : (a b : Bool) → b ≡ false → (a && b) ≡ false
second_false true b e = e
second_false false b e = refl

no_length : (xs : List ℤ) → (length xs == 0) ≡ true → xs ≡ []
no_length [] e = refl
no_length (x ∷ xs) e =
    let some : (length (x ∷ xs) == 0) ≡ false = ne_eqb (length (x ∷ xs)) 0 (λ z. omega (arith, z)) in
    let clash : true ≡ false = sym e ∙ some in absurd (cc)

-- where no value waits none waits in the first of the datasets, nor in the others
pub none_first : (b : Batches) (bs : List Batches) → none_waits (b ∷ bs) ≡ true → b.waiting ≡ []
none_first b bs e = no_length b.waiting (both_true (length b.waiting == 0) (none_waits bs) e).0

pub none_others : (b : Batches) (bs : List Batches) → none_waits (b ∷ bs) ≡ true → none_waits bs ≡ true
none_others b bs e = (both_true (length b.waiting == 0) (none_waits bs) e).1

pub waits_first : (b : Batches) (bs : List Batches) → 1 ≤ length b.waiting → none_waits (b ∷ bs) ≡ false
waits_first b bs some = first_false (length b.waiting == 0) (none_waits bs) (ne_eqb (length b.waiting) 0 (λ e. omega (arith, e, some)))

pub waits_others : (b : Batches) (bs : List Batches) → none_waits bs ≡ false → none_waits (b ∷ bs) ≡ false
waits_others b bs e = second_false (length b.waiting == 0) (none_waits bs) e

pub none_again : (b : Batches) (bs : List Batches) → length b.waiting ≡ 0 → none_waits bs ≡ true → none_waits (b ∷ bs) ≡ true
none_again b bs e f = ap (λ (t : Bool). t && none_waits bs) (eq-eqb (length b.waiting) 0 e) ∙ f

-- ---- Values

pub ended_values : (b : Batches) → values_of (end_batch b).closed ≡ values_of b.closed ++ b.waiting
ended_values b = values-append b.closed (b.waiting ∷ []) ∙ ap (λ (vs : List ℤ). values_of b.closed ++ vs) (append-nil b.waiting)

pub ended_rows : (c rows n : ℕ) (b : Batches) → 1 ≤ c → length b.waiting ≡ n * c → rows_after c rows (end_batch b).closed ≡ rows_after c rows b.closed + n
ended_rows c rows n b some e = rows-append c rows b.closed b.waiting ∙ ap (λ k. rows_after c rows b.closed + k) (ap (λ k. k / c) e ∙ divides n c some)

-- ---- Texts

pub told-append : (ts : List (List ℕ)) (t : List ℕ) → told_text (ts ++ t ∷ []) ≡ told_text ts ++ told_line t
told-append [] t = append-nil (told_line t)
told-append (x ∷ ts) t = ap (λ (y : List ℕ). told_line x ++ y) (told-append ts t) ∙ sym (append_assoc (told_line x) (told_text ts) (told_line t))

pub closed_text_is : (ds : List Described) (b : SetBatches) → none_waits b.sets ≡ false → told_text (close_each ds b).told ≡ told_text b.told ++ told_line (rows_with ds (end_each b.sets))
closed_text_is ds b some = ap (λ (c : SetBatches). told_text c.told) (close_some ds b some) ∙ told-append b.told (rows_with ds (end_each b.sets))
