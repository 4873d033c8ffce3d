-- Batches, and their rows.
use Rattle.std.proofs.Common.{◌≡◌, ℕ, ◌%◌, Bool, true, false, Some, None, tests, ◌+◌, ◌*◌, ◌/◌, ◌≤◌, List, [], ◌∷◌, ◌++◌, length, ℤ, refl, sym, ap, ◌∙◌, subst, arith, length-append}
use Rattle.std.specs.Prelude.{◌==◌, nat_le, if◌then◌else◌, map}
use Rattle.h5w_input.specs.Lines.{line_limit, words_of}
use Rattle.h5w_input.specs.Lines.{values_of as values_in}
use Rattle.h5w_input.specs.LinesAhead.{IsLine}
use Rattle.h5w_input.specs.Scripts.{number_line_of, rows_of}
use Rattle.h5w_text.specs.Streams.{SourceView}
use Rattle.h5w_input.specs.declared.line.TextLine.{TextLine}
use Rattle.h5w_input.specs.declared.line.TextLine.TheVariants.{Long}
use Rattle.h5w_input.proofs.ScriptLemmas.{length_values, numbers_long}
use Rattle.h5w_batches.specs.Batches.{AreBatches, AreWholeRows, Batches, after_line, after_lines, batches_of, end_batch, no_batches, with_line, with_lines}
use Rattle.h5w_batches.specs.Inputs.{Spell}
use Rattle.h5w_batches.specs.Reads.{ReadsBatches}

pub lines-append : (b : Batches) (ls : List (List ℤ)) (l : List ℤ) → after_lines b (ls ++ l ∷ []) ≡ after_line (after_lines b ls) l
lines-append b [] l = refl
lines-append b (x ∷ ls) l = lines-append (after_line b x) ls l

pub with-append : (b : Batches) (ls : List (List ℤ)) (l : List ℤ) → with_lines b (ls ++ l ∷ []) ≡ with_line (with_lines b ls) l
with-append b [] l = refl
with-append b (x ∷ ls) l = with-append (with_line b x) ls l

-- a line that is too long is outside the grammar
pub long_outside : (c : ℕ) (line : TextLine) (bytes : List ℕ) → line ≡ Long → IsLine line bytes → number_line_of c bytes ≡ None
long_outside c line bytes e h = numbers_long c bytes (subst (λ (l : TextLine). IsLine l bytes) e h)

-- ---- The rows of a line

none_rows : (c : ℕ) → 0 ≡ 0 * c
none_rows c = omega arith

whole_part : (n c : ℕ) → 1 ≤ c → n % c ≡ 0 → n ≡ n / c * c
whole_part n c some e = omega (arith, e)

even_rows : (c : ℕ) (ws : List (List ℕ)) (t : Bool) (vs : List ℤ) → 1 ≤ c → (length ws % c == 0) ≡ t → (if t then values_in ws else None) ≡ Some vs → AreWholeRows c vs
even_rows c ws false vs some e h = absurd (cc)
even_rows c ws true vs some e h = let zero_rest : length ws % c ≡ 0 = grind (arith, tests) in (length ws / c, length_values ws vs h ∙ whole_part (length ws) c some zero_rest)

pub words_rows : (c : ℕ) (ws : List (List ℕ)) (vs : List ℤ) → 1 ≤ c → rows_of c ws ≡ Some vs → AreWholeRows c vs
words_rows c [] vs some h = absurd (cc)
words_rows c (w ∷ ws) vs some h = even_rows c (w ∷ ws) (length (w ∷ ws) % c == 0) vs some refl h

line_rows : (c : ℕ) (ws : List (List ℕ)) (t : Bool) (vs : List ℤ) → 1 ≤ c → (if t then rows_of c ws else None) ≡ Some vs → AreWholeRows c vs
line_rows c ws true vs some h = words_rows c ws vs some h
line_rows c ws false vs some h = absurd (cc)

pub spelled_rows : (c : ℕ) (line : List ℕ) (vs : List ℤ) → 1 ≤ c → number_line_of c line ≡ Some vs → AreWholeRows c vs
unfolding number_line_of
spelled_rows c [] vs some h = let is : [] ≡ vs = cc in (0, ap length (sym is) ∙ none_rows c)
spelled_rows c (b ∷ bs) vs some h = line_rows c (words_of (b ∷ bs)) (nat_le (length (b ∷ bs)) line_limit) vs some h

lines_rows : (c : ℕ) (lines : List (List ℕ)) (numbers : List (List ℤ)) → 1 ≤ c → Spell c lines numbers → AreBatches c numbers
lines_rows c lines [] some e = tt
lines_rows c [] (vs ∷ numbers) some e = absurd (cc)
lines_rows c (line ∷ lines) (vs ∷ numbers) some e =
    let one : number_line_of c line ≡ Some vs = cc in
    let more : map (number_line_of c) lines ≡ map Some numbers = cc in
    (spelled_rows c line vs some one, lines_rows c lines numbers some more)

-- ---- The rows of batches

both_rows : (m n c : ℕ) → m * c + n * c ≡ (m + n) * c
both_rows m n c = grind arith

rows-append : (c : ℕ) (us vs : List ℤ) → AreWholeRows c us → AreWholeRows c vs → AreWholeRows c (us ++ vs)
rows-append c us vs p q = (p.0 + q.0, length-append us vs ∙ ap (λ k. k + length vs) p.1 ∙ ap (λ k. p.0 * c + k) q.1 ∙ both_rows p.0 q.0 c)

batches-append : (c : ℕ) (bs cs : List (List ℤ)) → AreBatches c bs → AreBatches c cs → AreBatches c (bs ++ cs)
batches-append c [] cs h k = k
batches-append c (b ∷ bs) cs h k = (h.0, batches-append c bs cs h.1 k)

abbrev HaveRows : ℕ → Batches → Type 0
HaveRows c b = AreBatches c b.closed × AreWholeRows c b.waiting

closed_rows : (c : ℕ) (b : Batches) → HaveRows c b → HaveRows c (end_batch b)
closed_rows c b h = (batches-append c b.closed (b.waiting ∷ []) h.0 (h.1, tt), (0, none_rows c))

after_rows : (c : ℕ) (b : Batches) (l : List ℤ) → HaveRows c b → AreWholeRows c l → HaveRows c (with_line b l)
after_rows c b [] h k = closed_rows c b h
after_rows c b (v ∷ vs) h k = (h.0, rows-append c b.waiting (v ∷ vs) h.1 k)

all_rows : (c : ℕ) (b : Batches) (ls : List (List ℤ)) → HaveRows c b → AreBatches c ls → HaveRows c (with_lines b ls)
all_rows c b [] h k = h
all_rows c b (l ∷ ls) h k = all_rows c (with_line b l) ls (after_rows c b l h k.0) k.1

numbers_rows : (c : ℕ) (ls : List (List ℤ)) → AreBatches c ls → AreBatches c (batches_of ls)
numbers_rows c ls h = (closed_rows c (with_lines no_batches ls) (all_rows c no_batches ls (tt, (0, none_rows c)) h)).0

-- the batches of an input are whole rows
pub batches_rows : (c : ℕ) (s t : SourceView) (batches : List (List ℤ)) → 1 ≤ c → ReadsBatches c s t batches → AreBatches c batches
batches_rows c s t batches some h = subst (λ (bs : List (List ℤ)). AreBatches c bs) (sym h.batches_are) (numbers_rows c h.numbers (lines_rows c h.reads.lines h.numbers some h.reads.spell))
