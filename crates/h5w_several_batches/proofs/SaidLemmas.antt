-- The lines of an input of several datasets that were read, one after another.
use Rattle.std.proofs.Common.{◌≡◌, ◌⊎◌, ℕ, ◌+◌, ◌<◌, ◌≤◌, List, [], ◌∷◌, ◌++◌, length, Option, Some, None, refl, sym, ap, ◌∙◌, subst, inl, inr, arith, append_assoc, append-nil, length-append}
use Rattle.std.specs.Prelude.{IfSome, option_map, take}
use Rattle.std.proofs.lemmas.Bool.{cases_lt}
use Rattle.std.proofs.Math.Seq.{take-append-add}
use Rattle.h5w_input.specs.Bytes.{Lacks}
use Rattle.h5w_input.specs.Lines.{lines_of, whole_lines_of}
use Rattle.h5w_input.specs.LinesAhead.{Ended, Given, GivenUp, IntakeView, IsOver, IsWhole, LinesAhead, Passed, lines_ahead, lines_left}
use Rattle.h5w_text.specs.Streams.{SourceView}
use Rattle.h5w_input.proofs.LineLemmas.{lines_cut, passed_nothing, passed_twice, whole_cut, whole_lacks}
use Rattle.h5w_batches.specs.Inputs.{AreAll, AreFirst, AreWithin, input_limit, outside}
use Rattle.h5w_batches.proofs.LineLemmas.{first_all, first_none, none_behind}
use Rattle.h5w_several_batches.specs.SetLines.{set_line_of, used_after, used_by}
use Rattle.h5w_several_batches.specs.SetInputs.{AreSaid, SaysAll, SaysBefore, SaysFirst, SaysTooMuch, SaysWhole}
use Rattle.h5w_several_batches.specs.declared.line.SetLine.{SetLine}

-- ---- Lines that were passed over

-- So many whole lines were passed over.
pub record Passing (v w : LinesAhead) (lines : List (List ℕ)) : Type 0 where
  pub room : w.room + length lines ≤ v.room
  pub taken : List ℕ
  pub passed : Passed taken v w
  pub all : (rest : List ℕ) → lines_of (taken ++ rest) ≡ lines ++ lines_of rest
  pub whole : (rest : List ℕ) → whole_lines_of (taken ++ rest) ≡ lines ++ whole_lines_of rest

passing_first : (v : LinesAhead) → Passing v v []
passing_first v = record { room = omega arith; taken = []; passed = passed_nothing v; all = λ rest. refl; whole = λ rest. refl }

-- one more line, by how bytes are cut into lines
one_cut : (f : List ℕ → List (List ℕ)) (taken line rest : List ℕ) (lines : List (List ℕ)) → ((more : List ℕ) → f (taken ++ more) ≡ lines ++ f more) → f (line ++ 10 ∷ rest) ≡ line ∷ f rest
    → f ((taken ++ (line ++ 10 ∷ [])) ++ rest) ≡ (lines ++ line ∷ []) ++ f rest
one_cut f taken line rest lines before cut =
    ap f (append_assoc taken (line ++ 10 ∷ []) rest ∙ ap (λ (l : List ℕ). taken ++ l) (append_assoc line (10 ∷ []) rest)) ∙ before (line ++ 10 ∷ rest) ∙ ap (λ (ls : List (List ℕ)). lines ++ ls) cut
    ∙ sym (append_assoc lines (line ∷ []) (f rest))

passing_more : {v u w : LinesAhead} {lines : List (List ℕ)} (line : List ℕ) → Passing v u lines → Given line u w → IsWhole line u w → Passing v w (lines ++ line ∷ [])
passing_more {v} {u} {w} {lines} line x given is = record {
  room = omega (arith, x.room, given.room, length-append lines (line ∷ []));
  taken = x.taken ++ (line ++ 10 ∷ []);
  passed = passed_twice x.taken (line ++ 10 ∷ []) x.passed is.passed;
  all = λ rest. one_cut lines_of x.taken line rest lines x.all (lines_cut [] line rest is.lacks);
  whole = λ rest. one_cut whole_lines_of x.taken line rest lines x.whole (whole_cut [] line rest is.lacks);
}

-- ---- What they are of the input

-- the first lines of those that are read of an input of which so many bytes may be read
abbrev AreFirstIn : ℕ → List (List ℕ) → List ℕ → Type 0
AreFirstIn most lines input =
    (behind : List (List ℕ)) × (((length input ≤ most) × (lines_of input ≡ lines ++ behind)) ⊎ ((most < length input) × (whole_lines_of (take most input) ≡ lines ++ behind)))

long_taken : (taken b : List ℕ) (room most : ℕ) → most ≡ room + length taken → take most (taken ++ b) ≡ taken ++ take room b
long_taken taken b room most e = ap (λ n. take n (taken ++ b)) (let f : most ≡ length taken + room = omega (arith, e) in f) ∙ take-append-add taken b room

first_bytes : (taken b : List ℕ) (lines : List (List ℕ)) (room most : ℕ) → most ≡ room + length taken → ((rest : List ℕ) → lines_of (taken ++ rest) ≡ lines ++ lines_of rest) → ((rest : List ℕ) → whole_lines_of (taken ++ rest) ≡ lines ++ whole_lines_of rest)
    → AreFirstIn most lines (taken ++ b)
first_bytes taken b lines room most e all whole = elim (cases_lt most (length (taken ++ b))) [
  | inl long ↦ (whole_lines_of (take room b), inr (long, ap whole_lines_of (long_taken taken b room most e) ∙ whole (take room b)))
  | inr short ↦ (lines_of b, inl (short, all b))
]

first_told : (taken : List ℕ) (lines : List (List ℕ)) (a b : Option (List ℕ)) (room most : ℕ) → a ≡ option_map (λ rest. taken ++ rest) b → most ≡ room + length taken → ((rest : List ℕ) → lines_of (taken ++ rest) ≡ lines ++ lines_of rest)
    → ((rest : List ℕ) → whole_lines_of (taken ++ rest) ≡ lines ++ whole_lines_of rest) → IfSome a (AreFirstIn most lines)
first_told taken lines None b room most cut e all whole = tt
first_told taken lines (Some a) None room most cut e all whole = absurd (cc)
first_told taken lines (Some a) (Some b) room most cut e all whole = let is : a ≡ taken ++ b = cc in subst (λ (x : List ℕ). AreFirstIn most lines x) (sym is) (first_bytes taken b lines room most e all whole)

passing_are : {v u : LinesAhead} {lines : List (List ℕ)} → v.room ≡ input_limit → Passing v u lines → IfSome v.left (AreFirst lines)
passing_are {v} {u} {lines} room x = first_told x.taken lines v.left u.left u.room input_limit x.passed.left (sym room ∙ x.passed.room) x.all x.whole

-- all lines of an input of which so many bytes may be read
abbrev AreAllIn : ℕ → List (List ℕ) → List ℕ → Type 0
AreAllIn most lines input = (length input ≤ most) × (lines_of input ≡ lines)

ended_told : (taken : List ℕ) (lines : List (List ℕ)) (a b : Option (List ℕ)) (most : ℕ) → a ≡ option_map (λ rest. taken ++ rest) b → IfSome b (λ rest. rest ≡ []) → length taken ≤ most → ((rest : List ℕ) → lines_of (taken ++ rest) ≡ lines ++ lines_of rest)
    → IfSome a (AreAllIn most lines)
ended_told taken lines None b most cut none low all = tt
ended_told taken lines (Some a) None most cut none low all = absurd (cc)
ended_told taken lines (Some a) (Some b) most cut none low all =
    let is : a ≡ taken ++ b = cc in
    let whole : a ≡ taken = is ∙ ap (λ rest. taken ++ rest) none ∙ append-nil taken in (
      subst (λ (x : List ℕ). length x ≤ most) (sym whole) low,
      ap lines_of is ∙ all b ∙ ap (λ (rest : List ℕ). lines ++ lines_of rest) none ∙ append-nil lines,
    )

last_told : (taken bytes line : List ℕ) (lines : List (List ℕ)) (a b c : Option (List ℕ)) (most : ℕ) → a ≡ option_map (λ rest. taken ++ rest) b → b ≡ option_map (λ rest. bytes ++ rest) c → IfSome c (λ rest. rest ≡ []) → length taken + length bytes ≤ most
    → option_map lines_of b ≡ option_map (λ ls. line ∷ ls) (option_map lines_of c) → ((rest : List ℕ) → lines_of (taken ++ rest) ≡ lines ++ lines_of rest) → IfSome a (AreAllIn most (lines ++ line ∷ []))
last_told taken bytes line lines None b c most cut more none low is all = tt
last_told taken bytes line lines (Some a) None c most cut more none low is all = absurd (cc)
last_told taken bytes line lines (Some a) (Some b) None most cut more none low is all = absurd (cc)
last_told taken bytes line lines (Some a) (Some b) (Some c) most cut more none low is all =
    let whole : a ≡ taken ++ b = cc in
    let rest : b ≡ bytes ++ c = cc in
    let one : lines_of b ≡ line ∷ lines_of c = cc in
    let all_of : b ≡ bytes = rest ∙ ap (λ x. bytes ++ x) none ∙ append-nil bytes in
    let count : length a ≡ length taken + length bytes = ap length whole ∙ length-append taken b ∙ ap (λ (x : List ℕ). length taken + length x) all_of in (
      omega (arith, count, low),
      ap lines_of whole ∙ all b ∙ ap (λ (ls : List (List ℕ)). lines ++ ls) (one ∙ ap (λ (x : List ℕ). line ∷ lines_of x) none),
    )

last_are : {v u w : LinesAhead} {lines : List (List ℕ)} (line bytes : List ℕ) → v.room ≡ input_limit → Passing v u lines → Given line u w → Passed bytes u w → IfSome w.left (λ rest. rest ≡ []) → IfSome v.left (AreAll (lines ++ line ∷ []))
last_are {v} {u} {w} {lines} line bytes room x given p none =
    last_told x.taken bytes line lines v.left u.left w.left input_limit x.passed.left p.left none (omega (arith, x.passed.room, p.room, room)) given.lines x.all

-- ---- What they say

pub are_count : (columns : List ℕ) (d : ℕ) (lines : List (List ℕ)) (said : List SetLine) → AreSaid columns d lines said → length lines ≡ length said
are_count columns d [] [] h = refl
are_count columns d [] (x ∷ said) h = absurd h
are_count columns d (l ∷ lines) [] h = absurd h
are_count columns d (l ∷ lines) (x ∷ said) h = let rest = are_count columns (used_after d x) lines said h.1 in omega (arith, rest)

are_more : (columns : List ℕ) (d : ℕ) (lines : List (List ℕ)) (said : List SetLine) (line : List ℕ) (y : SetLine) → AreSaid columns d lines said → set_line_of columns (used_by d said) line ≡ Some y → AreSaid columns d (lines ++ line ∷ []) (said ++ y ∷ [])
are_more columns d [] [] line y h is = (is, tt)
are_more columns d [] (x ∷ said) line y h is = absurd h
are_more columns d (l ∷ lines) [] line y h is = absurd h
are_more columns d (l ∷ lines) (x ∷ said) line y h is = (h.0, are_more columns (used_after d x) lines said line y h.1 is)

pub used-append : (d : ℕ) (said : List SetLine) (y : SetLine) → used_by d (said ++ y ∷ []) ≡ used_after (used_by d said) y
used-append d [] y = refl
used-append d (x ∷ said) y = used-append (used_after d x) said y

-- So many first lines of the input were read, and say this.
pub record Saying (columns : List ℕ) (v w : LinesAhead) (number : ℕ) (said : List SetLine) : Type 0 where
  pub lines : List (List ℕ)
  pub are : AreSaid columns 0 lines said
  pub number_is : number ≡ length said
  pub passing : Passing v w lines

pub saying_first : (columns : List ℕ) (v : LinesAhead) → Saying columns v v 0 []
saying_first columns v = record { lines = []; are = tt; number_is = refl; passing = passing_first v }

pub saying_more : {columns : List ℕ} {v u w : LinesAhead} {number : ℕ} {said : List SetLine} (line : List ℕ) (y : SetLine) → Saying columns v u number said → Given line u w → IsWhole line u w → set_line_of columns (used_by 0 said) line ≡ Some y
    → Saying columns v w (number + 1) (said ++ y ∷ [])
saying_more {columns} {number = number} {said} line y x given is spelled = record {
  lines = x.lines ++ line ∷ [];
  are = are_more columns 0 x.lines said line y x.are spelled;
  number_is = let e = x.number_is in omega (arith, e, length-append said (y ∷ []));
  passing = passing_more line x.passing given is;
}

-- ---- What was read

pub says_none : (columns : List ℕ) (s : SourceView) → SaysFirst columns s []
says_none columns s = record { lines = []; are = tt; first = first_none s.left }

pub says_first : {columns : List ℕ} {v u : LinesAhead} {number : ℕ} {said : List SetLine} → v.room ≡ input_limit → Saying columns v u number said → SaysFirst columns (outside v) said
says_first room x = record { lines = x.lines; are = x.are; first = passing_are room x.passing }

pub first_of_all : {columns : List ℕ} {s t : SourceView} {said : List SetLine} → SaysAll columns s t said → SaysFirst columns s said
first_of_all {s = s} h = record { lines = h.lines; are = h.are; first = first_all h.lines s.left h.all }

-- one more line
pub says_before : {columns : List ℕ} {v u w : LinesAhead} {number : ℕ} {said : List SetLine} (line : List ℕ) → v.room ≡ input_limit → Saying columns v u number said → Given line u w → IsWhole line u w → SaysBefore columns (outside v) said line
says_before {columns} {said = said} line room x given is = record { lines = x.lines; are = x.are; count = are_count columns 0 x.lines said x.are; first = passing_are room (passing_more line x.passing given is) }

-- the last one, which may have no end
last_first : {v u w : LinesAhead} {lines : List (List ℕ)} (line : List ℕ) → v.room ≡ input_limit → Passing v u lines → Given line u w → IfSome w.left (λ rest. rest ≡ []) → IfSome v.left (AreAll (lines ++ line ∷ []))
last_first line room x given none = elim given.passed [
  | inl p ↦ last_are line line room x given p none
  | inr p ↦ last_are line (line ++ 10 ∷ []) room x given p none
]

pub says_before_last : {columns : List ℕ} {v u w : LinesAhead} {number : ℕ} {said : List SetLine} (line : List ℕ) → v.room ≡ input_limit → Saying columns v u number said → Given line u w → IfSome w.left (λ rest. rest ≡ []) → SaysBefore columns (outside v) said line
says_before_last {columns} {v} {said = said} line room x given none =
    record { lines = x.lines; are = x.are; count = are_count columns 0 x.lines said x.are; first = first_all (x.lines ++ line ∷ []) v.left (last_first line room x.passing given none) }

-- and it says this
pub says_then : {columns : List ℕ} {s : SourceView} {said : List SetLine} {line : List ℕ} (y : SetLine) → SaysBefore columns s said line → set_line_of columns (used_by 0 said) line ≡ Some y → SaysFirst columns s (said ++ y ∷ [])
says_then {columns} {said = said} {line} y x spelled = record { lines = x.lines ++ line ∷ []; are = are_more columns 0 x.lines said line y x.are spelled; first = x.first }

-- no line is left
pub says_all : {columns : List ℕ} {v u : LinesAhead} {number : ℕ} {said : List SetLine} (t : SourceView) (j : IntakeView) → v.room ≡ input_limit → Saying columns v u number said → Ended u (lines_ahead t j) → SaysAll columns (outside v) t said
says_all {v = v} {u} t j room x e = record {
  lines = x.lines;
  are = x.are;
  all = ended_told x.passing.taken x.lines v.left u.left input_limit x.passing.passed.left e.before (omega (arith, x.passing.passed.room, room)) x.passing.all;
  read = none_behind t.left j.held e.now;
}

pub says_last : {columns : List ℕ} {v u : LinesAhead} {number : ℕ} {said : List SetLine} (line : List ℕ) (y : SetLine) (t : SourceView) (j : IntakeView) → v.room ≡ input_limit → Saying columns v u number said → Given line u (lines_ahead t j)
    → IfSome (lines_ahead t j).left (λ rest. rest ≡ []) → set_line_of columns (used_by 0 said) line ≡ Some y → SaysAll columns (outside v) t (said ++ y ∷ [])
says_last {columns} {said = said} line y t j room x given none spelled = record {
  lines = x.lines ++ line ∷ [];
  are = are_more columns 0 x.lines said line y x.are spelled;
  all = last_first line room x.passing given none;
  read = none_behind t.left j.held none;
}

whole_taken : (taken front : List ℕ) (lines : List (List ℕ)) → Lacks 10 front → ((rest : List ℕ) → whole_lines_of (taken ++ rest) ≡ lines ++ whole_lines_of rest) → whole_lines_of (taken ++ front) ≡ lines
whole_taken taken front lines lacks whole = whole front ∙ ap (λ (ls : List (List ℕ)). lines ++ ls) (whole_lacks [] front lacks) ∙ append-nil lines

held_none : (held : List ℕ) (a : Option (List ℕ)) → held ≡ [] → option_map (λ rest. held ++ rest) a ≡ a
held_none held None e = refl
held_none held (Some a) e = ap (λ (h : List ℕ). Some (h ++ a)) e

-- the source failed behind whole lines
pub says_whole : {columns : List ℕ} {v u : LinesAhead} {number : ℕ} {said : List SetLine} (t : SourceView) (j : IntakeView) → v.room ≡ input_limit → Saying columns v u number said → GivenUp u (lines_ahead t j) j.held → SaysWhole columns (outside v) t said
says_whole {columns} {said = said} t j room x up =
    let both = passed_twice x.passing.taken up.front x.passing.passed up.passed in
    record {
      taken = x.passing.taken ++ up.front;
      bound = omega (arith, both.room, room);
      read = both.left ∙ ap (option_map (λ rest. (x.passing.taken ++ up.front) ++ rest)) (held_none j.held t.left up.none);
      are = subst (λ (ls : List (List ℕ)). AreSaid columns 0 ls said) (sym (whole_taken x.passing.taken up.front x.lines up.lacks x.passing.whole)) x.are;
    }

long_told : (taken : List ℕ) (lines : List (List ℕ)) (a b : Option (List ℕ)) (room most : ℕ) → a ≡ option_map (λ rest. taken ++ rest) b → most ≡ room + length taken → ((rest : List ℕ) → whole_lines_of (taken ++ rest) ≡ lines ++ whole_lines_of rest)
    → IfSome b (λ left. (room < length left) × Lacks 10 (take room left)) → IfSome a (λ input. (most < length input) × (whole_lines_of (take most input) ≡ lines))
long_told taken lines None b room most cut e whole over = tt
long_told taken lines (Some a) None room most cut e whole over = absurd (cc)
long_told taken lines (Some a) (Some b) room most cut e whole over =
    let is : a ≡ taken ++ b = cc in
    let more = over.0 in
    let count : length a ≡ length taken + length b = ap length is ∙ length-append taken b in
    (omega (arith, count, more, e), ap (λ (x : List ℕ). whole_lines_of (take most x)) is ∙ ap whole_lines_of (long_taken taken b room most e) ∙ whole_taken taken (take room b) lines over.1 whole)

-- the input has too many bytes
pub says_too_much : {columns : List ℕ} {v u : LinesAhead} {number : ℕ} {said : List SetLine} → v.room ≡ input_limit → Saying columns v u number said → IsOver u → SaysTooMuch columns (outside v) said
says_too_much {v = v} {u} room x over = record {
  lines = x.lines;
  are = x.are;
  long = long_told x.passing.taken x.lines v.left u.left u.room input_limit x.passing.passed.left (sym room ∙ x.passing.passed.room) x.passing.whole over;
}
