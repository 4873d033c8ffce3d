-- The bytes of a still image, look by look.
use Rattle.std.proofs.Common.{◌≡◌, ℕ, ◌+◌, ◌-◌, ◌^◌, ◌<◌, ◌≤◌, min, List, ◌++◌, length, sym, ◌∙◌, ap, subst, arith, length-append, append_assoc, Option}
use Rattle.std.specs.Prelude.{Bool, IsTrue, IfSome}
use Rattle.h5w_model.specs.Numbers.{range}
use Rattle.h5w_model.specs.Programs.{below_end}
use Rattle.h5w_image.specs.View.{ImageView, Looked, GivesRange}
use Rattle.h5w_laws.proofs.LoweringLemmas.{range_cut, range_short, range_below, length_range}
use Rattle.h5w_looks.specs.Still.{IsStill}

-- looks leave a still image as it is
pub still_on : {v w : ImageView} (img : List ℕ) → Looked v w → IsStill v img → IsStill w img
still_on {v} {w} img looked still =
    let same = looked.still still.alone in
    record {
      told = same.bytes ∙ still.told;
      alone = subst (λ (b : Bool). IsTrue b) (sym same.alone) still.alone;
      short = still.short;
    }

pub next_piece : (img got more : List ℕ) (place rest n : ℕ) → more ≡ got ++ range img place 512 → length more ≡ length got + n → 512 ≤ n → 512 < rest
    → more ++ range img (place + 512) (rest - 512) ≡ got ++ range img place rest
next_piece img got more place rest n e counted full long =
    let k : length got + length (range img place 512) ≡ length got + n = sym (length-append got (range img place 512)) ∙ sym (ap length e) ∙ counted in
    let m : min 512 rest ≡ 512 = omega arith in
    let top = length_range img place 512 in
    let whole : length (range img place (min 512 rest)) ≡ min 512 rest = ap (λ x. length (range img place x)) m ∙ (omega arith) in
    ap (λ (x : List ℕ). x ++ range img (place + 512) (rest - 512)) e
    ∙ append_assoc got (range img place 512) (range img (place + 512) (rest - 512))
    ∙ ap (λ (x : List ℕ). got ++ x) (ap (λ x. range img place x ++ range img (place + 512) (rest - 512)) (sym m) ∙ range_cut img place rest whole)

pub short_piece : (img got more : List ℕ) (place rest n : ℕ) → more ≡ got ++ range img place 512 → length more ≡ length got + n → n < 512 → 512 < rest → more ≡ got ++ range img place rest
short_piece img got more place rest n e counted few long =
    let k : length got + length (range img place 512) ≡ length got + n = sym (length-append got (range img place 512)) ∙ sym (ap length e) ∙ counted in
    e ∙ ap (λ (x : List ℕ). got ++ x) (range_short img place 512 rest (λ full. absurd (omega arith)) (omega arith))

pub all_below : (img bytes : List ℕ) (place len : ℕ) → length img < 2 ^ 64 → bytes ≡ range img place (below_end place len) → bytes ≡ range img place len
all_below img bytes place len short e = e ∙ range_below img place len (omega arith)

-- the bytes that a look at a still image gave
pub given_there : (x : ImageView) (img : List ℕ) (at len : ℕ) (bytes : List ℕ) → IsStill x img → GivesRange x at len bytes → bytes ≡ range img at len
given_there x img at len bytes still gives = subst (λ (o : Option (List ℕ)). IfSome o (λ b. bytes ≡ range b at len)) still.told gives
