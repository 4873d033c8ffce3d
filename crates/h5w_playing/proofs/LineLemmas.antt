-- Lines of an input that spell no line of a script, and those that do.
use Rattle.std.proofs.Common.{ℕ, ◌<◌, ◌≡◌, ◌∙◌, Bool, true, false, cond, List, [], ◌∷◌, length, Option, Some, None, ap, refl, subst, arith, tests}
use Rattle.std.proofs.Math.Bool.{and-false}
use Rattle.std.proofs.lemmas.Bool.{cond-false}
use Rattle.std.specs.Cmp.Lexicographic.{pointwise}
use Rattle.std.specs.Prelude.{◌&&◌, codes, nat_eq, option_map}
use Rattle.h5w_model.specs.Lawful.{Line, Rules}
use Rattle.h5w_input.specs.LinesAhead.{IsLine}
use Rattle.h5w_input.specs.Scripts.{script_line_of}
use Rattle.h5w_input.specs.declared.line.TextLine.{TextLine}
use Rattle.h5w_input.specs.declared.line.TextLine.TheVariants.{Long}
use Rattle.h5w_several_batches.specs.SetLines.{use_of}
use Rattle.h5w_several_script_laws.specs.Scripts.{asks, takes}
use Rattle.h5w_playing.specs.Answers.{play_line_of}
use Rattle.h5w_playing.specs.Lines.{Spelling, file_line_of, is_takeover, line_unless}

too_long : (columns : ℕ) (bytes : List ℕ) → 65536 < length bytes → script_line_of columns bytes ≡ None
unfolding script_line_of
too_long columns bytes h = grind (arith, tests)

-- a line of more than 65,536 bytes
pub long_is_outside : (g : Rules) (line : TextLine) (bytes : List ℕ) → line ≡ Long → IsLine line bytes → play_line_of g bytes ≡ None
long_is_outside g line bytes e h = too_long g.cutting.columns bytes (subst (λ (l : TextLine). IsLine l bytes) e h)

no_use : (sets : ℕ) (bytes : List ℕ) → 65536 < length bytes → use_of sets bytes ≡ None
no_use sets bytes h = grind (arith, tests)

-- what is longer is another list
longer : (xs ys : List ℕ) → length ys < length xs → pointwise nat_eq xs ys ≡ false
longer [] ys h = absurd (omega (arith, h))
longer (x ∷ xs) [] h = refl
longer (x ∷ xs) (y ∷ ys) h = ap (λ (b : Bool). nat_eq x y && b) (longer xs ys (omega (arith, h))) ∙ and-false (nat_eq x y)

no_takeover : (bytes : List ℕ) → 65536 < length bytes → is_takeover bytes ≡ false
no_takeover bytes h = longer bytes (codes "takeover") (omega (arith, h))

-- the same over several datasets
pub long_is_none : (g : Spelling) (line : TextLine) (bytes : List ℕ) → line ≡ Long → IsLine line bytes → file_line_of g bytes ≡ None
long_is_none g line bytes e h =
    let long : 65536 < length bytes = subst (λ (l : TextLine). IsLine l bytes) e h in
    cond-false (is_takeover bytes) (Some takes) (line_unless g.columns bytes (use_of g.sets bytes)) (no_takeover bytes long)
    ∙ ap (line_unless g.columns bytes) (no_use g.sets bytes long) ∙ ap (option_map asks) (too_long g.columns bytes long)

from_asks : (o : Option Line) (l : Line) → option_map asks o ≡ Some (asks l) → o ≡ Some l
from_asks None l e = absurd (cc)
from_asks (Some x) l e = let is : x ≡ l = cc in ap Some is

asked_cases : (columns : ℕ) (bytes : List ℕ) (o : Option ℕ) (l : Line) → line_unless columns bytes o ≡ Some (asks l) → script_line_of columns bytes ≡ Some l
asked_cases columns bytes None l e = from_asks (script_line_of columns bytes) l e
asked_cases columns bytes (Some d) l e = absurd (cc)

-- a line as a script of one dataset has it is spelled so there, too
pub asked_line : (g : Spelling) (bytes : List ℕ) (l : Line) → file_line_of g bytes ≡ Some (asks l) → script_line_of g.columns bytes ≡ Some l
asked_line g bytes l e = of_word (is_takeover bytes) e
  where
    of_word : (b : Bool) → cond b (Some takes) (line_unless g.columns bytes (use_of g.sets bytes)) ≡ Some (asks l) → script_line_of g.columns bytes ≡ Some l
    of_word true e = absurd (cc)
    of_word false e = asked_cases g.columns bytes (use_of g.sets bytes) l e
