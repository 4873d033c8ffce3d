-- An input has one answer.
use Rattle.std.proofs.Common.{◌≡◌, ◌⊎◌, ℕ, suc, ◌+◌, List, [], ◌∷◌, ◌++◌, length, ℤ, Option, Some, None, Result, Ok, Err, refl, sym, ap, ◌∙◌, subst, inl, inr, arith, append_assoc}
use Rattle.std.specs.Prelude.{IfErr, IfOk, IfSome, IsSome, map}
use Rattle.h5w_input.specs.Lines.{lines_of}
use Rattle.h5w_input.specs.Scripts.{number_line_of}
use Rattle.h5w_text.specs.Streams.{SourceView}
use Rattle.h5w_batches.specs.Inputs.{AreAll, AreFirst, AreWithin, HasNumbers, ReadsAll, ReadsOutside, ReadsTooMuch, Spell, input_limit}
use Rattle.h5w_batches.specs.Reads.{IsBeside, IsRefused, ReadsBatches, Refuses}
use Rattle.h5w_batches.specs.declared.error.BatchError.{BatchError}
use Rattle.h5w_batches.specs.declared.error.BatchError.TheVariants as errors

-- ---- The lines that are read

-- the lines that are read of an input
abbrev AreRead : List (List ℕ) → List ℕ → Type 0
AreRead lines input = AreAll lines input ⊎ AreWithin lines input

same_lines : (input : List ℕ) (ls ms : List (List ℕ)) → AreRead ls input → AreRead ms input → ls ≡ ms
same_lines input ls ms (inl a) (inl b) = sym a.1 ∙ b.1
same_lines input ls ms (inl a) (inr b) = let low = a.0 in let high = b.0 in absurd (omega (arith, low, high))
same_lines input ls ms (inr a) (inl b) = let high = a.0 in let low = b.0 in absurd (omega (arith, low, high))
same_lines input ls ms (inr a) (inr b) = sym a.1 ∙ b.1

-- of lines that have values none is outside the grammar
no_gap : (columns : ℕ) (lines more : List (List ℕ)) (line : List ℕ) (numbers : List (List ℤ)) → number_line_of columns line ≡ None → Spell columns (lines ++ line ∷ more) numbers → ⊥
no_gap columns [] more line [] none e = cc
no_gap columns [] more line (vs ∷ numbers) none e = cc
no_gap columns (x ∷ lines) more line [] none e = cc
no_gap columns (x ∷ lines) more line (vs ∷ numbers) none e = let f : map (number_line_of columns) (lines ++ line ∷ more) ≡ map Some numbers = cc in no_gap columns lines more line numbers none f

-- one line is the first that is outside
one_first : (columns : ℕ) (ls ms more rest : List (List ℕ)) (l m : List ℕ) (ns os : List (List ℤ)) → Spell columns ls ns → Spell columns ms os → number_line_of columns l ≡ None → number_line_of columns m ≡ None → ls ++ l ∷ more ≡ ms ++ m ∷ rest
    → length ls ≡ length ms
one_first columns [] [] more rest l m ns os e f none last same = refl
one_first columns [] (y ∷ ms) more rest l m ns [] e f none last same = absurd (cc)
one_first columns [] (y ∷ ms) more rest l m ns (o ∷ os) e f none last same = absurd (cc)
one_first columns (x ∷ ls) [] more rest l m [] os e f none last same = absurd (cc)
one_first columns (x ∷ ls) [] more rest l m (n ∷ ns) os e f none last same = absurd (cc)
one_first columns (x ∷ ls) (y ∷ ms) more rest l m [] os e f none last same = absurd (cc)
one_first columns (x ∷ ls) (y ∷ ms) more rest l m (n ∷ ns) [] e f none last same = absurd (cc)
one_first columns (x ∷ ls) (y ∷ ms) more rest l m (n ∷ ns) (o ∷ os) e f none last same =
    let first : map (number_line_of columns) ls ≡ map Some ns = cc in
    let second : map (number_line_of columns) ms ≡ map Some os = cc in
    let behind : ls ++ l ∷ more ≡ ms ++ m ∷ rest = cc in
    ap suc (one_first columns ls ms more rest l m ns os first second none last behind)

-- lines that begin with these are none that have values
none_outside : (columns : ℕ) (input : List ℕ) (all lines : List (List ℕ)) (line : List ℕ) (numbers : List (List ℤ)) → AreRead all input → Spell columns all numbers → AreFirst (lines ++ line ∷ []) input → number_line_of columns line ≡ None → ⊥
none_outside columns input all lines line numbers read spell first none =
    no_gap columns lines first.0 line numbers none
    (subst (λ (ls : List (List ℕ)). Spell columns ls numbers) (same_lines input all ((lines ++ line ∷ []) ++ first.0) read first.1 ∙ append_assoc lines (line ∷ []) first.0) spell)

same_first : (columns : ℕ) (input : List ℕ) (ls ms : List (List ℕ)) (l m : List ℕ) (ns os : List (List ℤ)) → Spell columns ls ns → Spell columns ms os → number_line_of columns l ≡ None → number_line_of columns m ≡ None → AreFirst (ls ++ l ∷ []) input
    → AreFirst (ms ++ m ∷ []) input → length ls ≡ length ms
same_first columns input ls ms l m ns os e f none last a b =
    one_first columns ls ms a.0 b.0 l m ns os e f none last
    (sym (append_assoc ls (l ∷ []) a.0) ∙ same_lines input ((ls ++ l ∷ []) ++ a.0) ((ms ++ m ∷ []) ++ b.0) a.1 b.1 ∙ append_assoc ms (m ∷ []) b.0)

-- ---- What a source tells

told : (o : Option (List ℕ)) → IsSome o → (input : List ℕ) × (o ≡ Some input)
told None some = absurd (cc)
told (Some input) some = (input, refl)

pub at_told : (o : Option (List ℕ)) (P : List ℕ → Type 0) (input : List ℕ) → o ≡ Some input → IfSome o P → P input
at_told o P input e h = subst (λ (q : Option (List ℕ)). IfSome q P) e h

all_not_outside : {columns : ℕ} {s t : SourceView} {number : ℕ} {numbers : List (List ℤ)} (input : List ℕ) → s.left ≡ Some input → ReadsAll columns s t numbers → ReadsOutside columns s number → ⊥
all_not_outside {columns} {s} {numbers = numbers} input e a r =
    none_outside columns input a.lines r.lines r.line numbers (inl (at_told s.left (AreAll a.lines) input e a.all)) a.spell (at_told s.left (AreFirst (r.lines ++ r.line ∷ [])) input e r.first) r.outside

long_not_outside : {columns : ℕ} {s : SourceView} {number : ℕ} {numbers : List (List ℤ)} (input : List ℕ) → s.left ≡ Some input → ReadsTooMuch columns s numbers → ReadsOutside columns s number → ⊥
long_not_outside {columns} {s} {numbers = numbers} input e a r =
    none_outside columns input a.lines r.lines r.line numbers (inr (at_told s.left (AreWithin a.lines) input e a.long)) a.spell (at_told s.left (AreFirst (r.lines ++ r.line ∷ [])) input e r.first) r.outside

all_not_long : {columns : ℕ} {s t : SourceView} {numbers others : List (List ℤ)} (input : List ℕ) → s.left ≡ Some input → ReadsAll columns s t numbers → ReadsTooMuch columns s others → ⊥
all_not_long {s = s} input e a r =
    let all = at_told s.left (AreAll a.lines) input e a.all in
    let long = at_told s.left (AreWithin r.lines) input e r.long in
    let low = all.0 in let high = long.0 in omega (arith, low, high)

one_outside : {columns : ℕ} {s : SourceView} {m n : ℕ} (input : List ℕ) → s.left ≡ Some input → ReadsOutside columns s m → ReadsOutside columns s n → m ≡ n
one_outside {columns} {s} input e a b =
    a.number_is ∙ ap (λ k. k + 1) (same_first columns input a.lines b.lines a.line b.line a.numbers b.numbers a.spell b.spell a.outside b.outside
    (at_told s.left (AreFirst (a.lines ++ a.line ∷ [])) input e a.first) (at_told s.left (AreFirst (b.lines ++ b.line ∷ [])) input e b.first)) ∙ sym b.number_is

-- ---- The answers

outside_refuses : (columns : ℕ) (s t : SourceView) (number : ℕ) (input : List ℕ) (e : BatchError) → s.left ≡ Some input → ReadsOutside columns s number → Refuses columns s t e → (e ≡ errors.Line number) ⊎ IsBeside e
outside_refuses columns s t number input (errors.Line n) is h r = inl (ap errors.Line (one_outside input is r h))
outside_refuses columns s t number input (errors.Input limit) is h r = absurd (long_not_outside input is r.2 h)
outside_refuses columns s t number input errors.Source is h r = inr tt
outside_refuses columns s t number input errors.OutOfMemory is h r = inr tt

pub outside_of : {T : Type 0} (columns : ℕ) (s t : SourceView) (r : Result T BatchError) (items : T → List (List ℤ)) (number : ℕ) → IsSome s.left → ReadsOutside columns s number → IfOk r (λ x. ReadsBatches columns s t (items x))
    → IfErr r (Refuses columns s t) → IsRefused (errors.Line number) r
outside_of columns s t (Ok x) items number some h ok err = let is = told s.left some in all_not_outside is.0 is.1 ok.reads h
outside_of columns s t (Err e) items number some h ok err = let is = told s.left some in outside_refuses columns s t number is.0 e is.1 h err

long_refuses : (columns : ℕ) (s t : SourceView) (numbers : List (List ℤ)) (input : List ℕ) (e : BatchError) → s.left ≡ Some input → ReadsTooMuch columns s numbers → Refuses columns s t e → (e ≡ errors.Input input_limit) ⊎ IsBeside e
long_refuses columns s t numbers input (errors.Line n) is h r = absurd (long_not_outside input is h r)
long_refuses columns s t numbers input (errors.Input limit) is h r = inl (ap errors.Input r.0)
long_refuses columns s t numbers input errors.Source is h r = inr tt
long_refuses columns s t numbers input errors.OutOfMemory is h r = inr tt

pub too_long_of : {T : Type 0} (columns : ℕ) (s t : SourceView) (r : Result T BatchError) (items : T → List (List ℤ)) (numbers : List (List ℤ)) → IsSome s.left → ReadsTooMuch columns s numbers → IfOk r (λ x. ReadsBatches columns s t (items x))
    → IfErr r (Refuses columns s t) → IsRefused (errors.Input input_limit) r
too_long_of columns s t (Ok x) items numbers some h ok err = let is = told s.left some in all_not_long is.0 is.1 ok.reads h
too_long_of columns s t (Err e) items numbers some h ok err = let is = told s.left some in long_refuses columns s t numbers is.0 e is.1 h err

-- an input of numbers, as it would be read
would_read : {columns : ℕ} {s : SourceView} (h : HasNumbers columns s) → ReadsAll columns s (record s { left = None }) h.numbers
would_read {columns} {s} h = record {
  lines = lines_of h.input;
  spell = h.spell;
  all = subst (λ (o : Option (List ℕ)). IfSome o (AreAll (lines_of h.input))) (sym h.told) (h.bound, refl);
  read = tt;
}

beside : (columns : ℕ) (s t : SourceView) (e : BatchError) → HasNumbers columns s → Refuses columns s t e → IsBeside e
beside columns s t (errors.Line number) h r = absurd (all_not_outside h.input h.told (would_read h) r)
beside columns s t (errors.Input limit) h r = absurd (all_not_long h.input h.told (would_read h) r.2)
beside columns s t errors.Source h r = tt
beside columns s t errors.OutOfMemory h r = tt

pub completes_of : {T : Type 0} (columns : ℕ) (s t : SourceView) (r : Result T BatchError) → HasNumbers columns s → IfErr r (Refuses columns s t) → IfErr r IsBeside
completes_of columns s t (Ok x) h f = tt
completes_of columns s t (Err e) h f = beside columns s t e h f

pub joined : (out one two x y : List ℕ) → one ≡ out ++ x → two ≡ one ++ y → two ≡ out ++ (x ++ y)
joined out one two x y p q = q ∙ ap (λ l. l ++ y) p ∙ append_assoc out x y
