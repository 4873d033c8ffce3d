-- The lines of an input that were read, one after another.
use Rattle.std.proofs.Common.{◌≡◌, ◌⊎◌, ℕ, ◌+◌, ◌<◌, ◌≤◌, List, [], ◌∷◌, ◌++◌, length, ℤ, Option, Some, None, refl, sym, ap, ◌∙◌, subst, inl, inr, arith, append_assoc, append-nil, length-append}
use Rattle.std.specs.Prelude.{IfSome, map, option_map, take}
use Rattle.std.proofs.lemmas.Bool.{cases_lt}
use Rattle.std.proofs.lemmas.List.{length-map, map-append}
use Rattle.std.proofs.Math.Seq.{take-append-add}
use Rattle.h5w_input.specs.Bytes.{Lacks}
use Rattle.h5w_input.specs.Lines.{lines_of, whole_lines_of}
use Rattle.h5w_input.specs.LinesAhead.{Ended, Given, GivenUp, IntakeView, IsOver, IsWhole, LinesAhead, Passed, lines_ahead, lines_left}
use Rattle.h5w_input.specs.Scripts.{number_line_of}
use Rattle.h5w_text.specs.Streams.{SourceView}
use Rattle.h5w_input.proofs.LineLemmas.{lines_done, lines_more, passed_nothing, passed_twice, whole_cut, whole_lacks}
use Rattle.h5w_batches.specs.Inputs.{AreAll, AreFirst, ReadsAll, ReadsTooMuch, ReadsWhole, Spell, input_limit, outside}

-- as many lines as lists of values
pub spell_count : (columns : ℕ) (lines : List (List ℕ)) (numbers : List (List ℤ)) → Spell columns lines numbers → length lines ≡ length numbers
spell_count columns lines numbers e = sym (length-map lines (number_line_of columns)) ∙ ap length e ∙ length-map numbers Some

-- with the values of one more line
pub spell_more : (columns : ℕ) (lines : List (List ℕ)) (numbers : List (List ℤ)) (line : List ℕ) (values : List ℤ) → Spell columns lines numbers → number_line_of columns line ≡ Some values → Spell columns (lines ++ line ∷ []) (numbers ++ values ∷ [])
spell_more columns lines numbers line values e spelled =
    map-append (number_line_of columns) lines (line ∷ []) ∙ ap (λ ls. ls ++ number_line_of columns line ∷ []) e ∙ ap (λ o. map Some numbers ++ o ∷ []) spelled ∙ sym (map-append Some numbers (values ∷ []))

-- so many first lines of the input were read, and have these values
pub record Going (columns : ℕ) (v w : LinesAhead) (number : ℕ) (numbers : List (List ℤ)) : Type 0 where
  pub lines : List (List ℕ)
  pub spell : Spell columns lines numbers
  pub count : number ≡ length lines
  pub room : w.room + number ≤ v.room
  pub taken : List ℕ
  pub passed : Passed taken v w
  pub first : lines_left v ≡ option_map (λ ls. lines ++ ls) (lines_left w)

all_left : (o : Option (List ℕ)) → option_map lines_of o ≡ option_map (λ ls. [] ++ ls) (option_map lines_of o)
all_left None = refl
all_left (Some ls) = refl

-- what is ahead where neither the source nor what is held has changed
pub ahead_kept : {s t : SourceView} {i j : IntakeView} → s ≡ t → i ≡ j → lines_ahead s i ≡ lines_ahead t j
ahead_kept {s} {t} {i} {j} p q = ap (λ (x : SourceView). lines_ahead x i) p ∙ ap (λ (y : IntakeView). lines_ahead t y) q

going_first : (columns : ℕ) (v : LinesAhead) → Going columns v v 0 []
going_first columns v = record { lines = []; spell = refl; count = refl; room = omega arith; taken = []; passed = passed_nothing v; first = all_left v.left }

-- after one more line, whose bytes were passed over
going_more : {columns : ℕ} {v u w : LinesAhead} {number : ℕ} {numbers : List (List ℤ)} (line bytes : List ℕ) (values : List ℤ) → Going columns v u number numbers → Given line u w → Passed bytes u w → number_line_of columns line ≡ Some values
    → Going columns v w (number + 1) (numbers ++ values ∷ [])
going_more {columns} {v} {u} {w} {number} {numbers} line bytes values x given passed spelled = record {
  lines = x.lines ++ line ∷ [];
  spell = spell_more columns x.lines numbers line values x.spell spelled;
  count = omega (arith, x.count, length-append x.lines (line ∷ []));
  room = omega (arith, x.room, given.room);
  taken = x.taken ++ bytes;
  passed = passed_twice x.taken bytes x.passed passed;
  first = lines_more (lines_left v) x.lines line u w x.first given;
}

-- and they are the whole lines of what was taken
pub record GoingWhole (columns : ℕ) (v w : LinesAhead) (number : ℕ) (numbers : List (List ℤ)) : Type 0 where
  pub going : Going columns v w number numbers
  pub whole : (rest : List ℕ) → whole_lines_of (going.taken ++ rest) ≡ going.lines ++ whole_lines_of rest

pub whole_first : (columns : ℕ) (v : LinesAhead) → GoingWhole columns v v 0 []
unfolding going_first
whole_first columns v = record { going = going_first columns v; whole = λ rest. refl }

one_whole : (taken line rest : List ℕ) (lines : List (List ℕ)) → Lacks 10 line → ((more : List ℕ) → whole_lines_of (taken ++ more) ≡ lines ++ whole_lines_of more)
    → whole_lines_of ((taken ++ (line ++ 10 ∷ [])) ++ rest) ≡ (lines ++ line ∷ []) ++ whole_lines_of rest
one_whole taken line rest lines lacks whole =
    ap whole_lines_of (append_assoc taken (line ++ 10 ∷ []) rest ∙ ap (λ l. taken ++ l) (append_assoc line (10 ∷ []) rest)) ∙ whole (line ++ 10 ∷ rest)
    ∙ ap (λ ls. lines ++ ls) (whole_cut [] line rest lacks) ∙ sym (append_assoc lines (line ∷ []) (whole_lines_of rest))

pub whole_more : {columns : ℕ} {v u w : LinesAhead} {number : ℕ} {numbers : List (List ℤ)} (line : List ℕ) (values : List ℤ) → GoingWhole columns v u number numbers → Given line u w → IsWhole line u w → number_line_of columns line ≡ Some values
    → GoingWhole columns v w (number + 1) (numbers ++ values ∷ [])
unfolding going_more
whole_more line values x given is spelled = record {
  going = going_more line (line ++ 10 ∷ []) values x.going given is.passed spelled;
  whole = λ rest. one_whole x.going.taken line rest x.going.lines is.lacks x.whole;
}

-- the last line, which may have no end
pub last_more : {columns : ℕ} {v u w : LinesAhead} {number : ℕ} {numbers : List (List ℤ)} (line : List ℕ) (values : List ℤ) → Going columns v u number numbers → Given line u w → Passed line u w ⊎ Passed (line ++ 10 ∷ []) u w
    → number_line_of columns line ≡ Some values → Going columns v w (number + 1) (numbers ++ values ∷ [])
last_more line values x given (inl p) spelled = going_more line line values x given p spelled
last_more line values x given (inr p) spelled = going_more line (line ++ 10 ∷ []) values x given p spelled

-- ---- The first bytes of an input

-- the whole lines among the first bytes, where so many were taken and so many more may be
abbrev AreWithinOf : ℕ → List (List ℕ) → List ℕ → Type 0
AreWithinOf all lines input = (all < length input) × (whole_lines_of (take all input) ≡ lines)

first_of_long : (taken b : List ℕ) (room all : ℕ) → all ≡ room + length taken → take all (taken ++ b) ≡ taken ++ take room b
first_of_long taken b room all e = let f : all ≡ length taken + room = omega (arith, e) in ap (λ n. take n (taken ++ b)) f ∙ take-append-add taken b room

abbrev AreFirstOf : ℕ → List (List ℕ) → List ℕ → Type 0
AreFirstOf all lines input = (behind : List (List ℕ)) × (((length input ≤ all) × (lines_of input ≡ lines ++ behind)) ⊎ AreWithinOf all (lines ++ behind) input)

within_first : (taken b : List ℕ) (lines : List (List ℕ)) (room all : ℕ) → all ≡ room + length taken → ((more : List ℕ) → whole_lines_of (taken ++ more) ≡ lines ++ whole_lines_of more) → lines_of (taken ++ b) ≡ lines ++ lines_of b → AreFirstOf all lines (taken ++ b)
within_first taken b lines room all e whole first = elim (cases_lt all (length (taken ++ b))) [
  | inl long ↦ (whole_lines_of (take room b), inr (long, ap whole_lines_of (first_of_long taken b room all e) ∙ whole (take room b)))
  | inr short ↦ (lines_of b, inl (short, first))
]

none_first : (input : List ℕ) (all : ℕ) → AreFirstOf all [] input
none_first input all = elim (cases_lt all (length input)) [
  | inl long ↦ (whole_lines_of (take all input), inr (long, refl))
  | inr short ↦ (lines_of input, inl (short, refl))
]

-- no lines are the first ones
pub first_none : (o : Option (List ℕ)) → IfSome o (AreFirst [])
first_none None = tt
first_none (Some input) = none_first input input_limit

-- whole lines were taken
whole_cases : (taken : List ℕ) (lines : List (List ℕ)) (a b : Option (List ℕ)) (room all : ℕ) → all ≡ room + length taken → ((more : List ℕ) → whole_lines_of (taken ++ more) ≡ lines ++ whole_lines_of more) → a ≡ option_map (λ rest. taken ++ rest) b
    → option_map lines_of a ≡ option_map (λ ls. lines ++ ls) (option_map lines_of b) → IfSome a (AreFirstOf all lines)
whole_cases taken lines None b room all e whole cut first = tt
whole_cases taken lines (Some a) None room all e whole cut first = absurd (cc)
whole_cases taken lines (Some a) (Some b) room all e whole cut first =
    let is : a ≡ taken ++ b = cc in
    let these : lines_of a ≡ lines ++ lines_of b = cc in
    subst (λ (x : List ℕ). AreFirstOf all lines x) (sym is) (within_first taken b lines room all e whole (sym (ap lines_of is) ∙ these))

-- all bytes were taken
last_cases : (taken : List ℕ) (lines : List (List ℕ)) (a b : Option (List ℕ)) (room all : ℕ) → all ≡ room + length taken → IfSome b (λ rest. rest ≡ []) → a ≡ option_map (λ rest. taken ++ rest) b
    → option_map lines_of a ≡ option_map (λ ls. lines ++ ls) (option_map lines_of b) → IfSome a (AreFirstOf all lines)
last_cases taken lines None b room all e none cut first = tt
last_cases taken lines (Some a) None room all e none cut first = absurd (cc)
last_cases taken lines (Some a) (Some b) room all e none cut first =
    let is : a ≡ taken ++ b = cc in
    let same : length a ≡ length taken = ap length is ∙ ap (λ rest. length (taken ++ rest)) none ∙ ap length (append-nil taken) in
    let these : lines_of a ≡ lines ++ lines_of b = cc in
    (lines_of b, inl (omega (arith, same, e), these))

-- lines with their ends were read
pub first_read : {columns : ℕ} {v u : LinesAhead} {number : ℕ} {numbers : List (List ℤ)} → v.room ≡ input_limit → (x : GoingWhole columns v u number numbers) → IfSome v.left (AreFirst x.going.lines)
first_read {v = v} {u} room x = whole_cases x.going.taken x.going.lines v.left u.left u.room input_limit (sym room ∙ x.going.passed.room) x.whole x.going.passed.left x.going.first

-- all lines are the first ones
pub first_all : (lines : List (List ℕ)) (o : Option (List ℕ)) → IfSome o (AreAll lines) → IfSome o (AreFirst lines)
first_all lines None h = tt
first_all lines (Some input) h = ([], inl (h.0, h.1 ∙ sym (append-nil lines)))

-- a line with its end was read behind the others
pub first_whole : {columns : ℕ} {v u w : LinesAhead} {number : ℕ} {numbers : List (List ℤ)} (line : List ℕ) → v.room ≡ input_limit → (x : GoingWhole columns v u number numbers) → Given line u w → IsWhole line u w
    → IfSome v.left (AreFirst (x.going.lines ++ line ∷ []))
first_whole {columns} {v} {u} {w} line room x given is =
    let both = passed_twice x.going.taken (line ++ 10 ∷ []) x.going.passed is.passed in
    whole_cases (x.going.taken ++ (line ++ 10 ∷ [])) (x.going.lines ++ line ∷ []) v.left w.left w.room input_limit (sym room ∙ both.room) (λ rest. one_whole x.going.taken line rest x.going.lines is.lacks x.whole) both.left
    (lines_more (lines_left v) x.going.lines line u w x.going.first given)

-- the last line was read behind the others
pub first_last : {columns : ℕ} {v u w : LinesAhead} {number : ℕ} {numbers : List (List ℤ)} (line : List ℕ) → v.room ≡ input_limit → (x : Going columns v u number numbers) → Given line u w → IfSome w.left (λ rest. rest ≡ [])
    → IfSome v.left (AreFirst (x.lines ++ line ∷ []))
first_last {columns} {v} {u} {w} line room x given none =
    let first = lines_more (lines_left v) x.lines line u w x.first given in
    elim given.passed [
      | inl p ↦ (let both = passed_twice x.taken line x.passed p in last_cases (x.taken ++ line) (x.lines ++ line ∷ []) v.left w.left w.room input_limit (sym room ∙ both.room) none both.left first)
      | inr p ↦ (let both = passed_twice x.taken (line ++ 10 ∷ []) x.passed p in last_cases (x.taken ++ (line ++ 10 ∷ [])) (x.lines ++ line ∷ []) v.left w.left w.room input_limit (sym room ∙ both.room) none both.left first)
    ]

-- ---- What was read

none_more : (taken front : List ℕ) (lines : List (List ℕ)) → Lacks 10 front → ((more : List ℕ) → whole_lines_of (taken ++ more) ≡ lines ++ whole_lines_of more) → lines ≡ whole_lines_of (taken ++ front)
none_more taken front lines lacks whole = sym (whole front ∙ ap (λ ls. lines ++ ls) (whole_lacks [] front lacks) ∙ append-nil lines)

all_of_left : (a : Option (List ℕ)) (held : List ℕ) → held ≡ [] → option_map (λ rest. held ++ rest) a ≡ a
all_of_left None held e = refl
all_of_left (Some a) held e = ap (λ h. Some (h ++ a)) e

-- the source failed behind whole lines
pub reads_whole : {columns : ℕ} {v u : LinesAhead} {number : ℕ} {numbers : List (List ℤ)} (t : SourceView) (j : IntakeView) → v.room ≡ input_limit → GoingWhole columns v u number numbers → GivenUp u (lines_ahead t j) j.held
    → ReadsWhole columns (outside v) t numbers
reads_whole {columns} {v} {u} {number} {numbers} t j room x up = let both = passed_twice x.going.taken up.front x.going.passed up.passed in record {
  taken = x.going.taken ++ up.front;
  bound = omega (arith, both.room, room);
  read = both.left ∙ ap (option_map (λ rest. (x.going.taken ++ up.front) ++ rest)) (all_of_left t.left j.held up.none);
  spell = subst (λ (ls : List (List ℕ)). Spell columns ls numbers) (none_more x.going.taken up.front x.going.lines up.lacks x.whole) x.going.spell;
}

too_long : (taken : List ℕ) (lines : List (List ℕ)) (a b : Option (List ℕ)) (room all : ℕ) → ((more : List ℕ) → whole_lines_of (taken ++ more) ≡ lines ++ whole_lines_of more) → a ≡ option_map (λ rest. taken ++ rest) b → all ≡ room + length taken
    → IfSome b (λ left. (room < length left) × Lacks 10 (take room left)) → IfSome a (AreWithinOf all lines)
too_long taken lines a None room all whole e f over = subst (λ (o : Option (List ℕ)). IfSome o (AreWithinOf all lines)) (sym e) tt
too_long taken lines a (Some b) room all whole e f over = subst (λ (o : Option (List ℕ)). IfSome o (AreWithinOf all lines)) (sym e) (
  omega (arith, length-append taken b, over.0),
  ap whole_lines_of (first_of_long taken b room all f) ∙ sym (none_more taken (take room b) lines over.1 whole),
)

-- the input has too many bytes
pub reads_too_much : {columns : ℕ} {v u : LinesAhead} {number : ℕ} {numbers : List (List ℤ)} → v.room ≡ input_limit → GoingWhole columns v u number numbers → IsOver u → ReadsTooMuch columns (outside v) numbers
reads_too_much {columns} {v} {u} room x over = record {
  lines = x.going.lines;
  spell = x.going.spell;
  long = too_long x.going.taken x.going.lines v.left u.left u.room input_limit x.whole x.going.passed.left (sym room ∙ x.going.passed.room) over;
}

empty_behind : (held rest : List ℕ) → held ++ rest ≡ [] → rest ≡ []
empty_behind [] rest e = e
empty_behind (b ∷ held) rest e = absurd (cc)

pub none_behind : (a : Option (List ℕ)) (held : List ℕ) → IfSome (option_map (λ rest. held ++ rest) a) (λ rest. rest ≡ []) → IfSome a (λ rest. rest ≡ [])
none_behind None held h = tt
none_behind (Some a) held h = empty_behind held a h

all_taken : (taken : List ℕ) (lines : List (List ℕ)) (a b : Option (List ℕ)) → a ≡ option_map (λ rest. taken ++ rest) b → IfSome b (λ rest. rest ≡ []) → length taken ≤ input_limit → IfSome (option_map lines_of a) (λ ls. ls ≡ lines) → IfSome a (AreAll lines)
all_taken taken lines None b e none bound these = tt
all_taken taken lines (Some a) None e none bound these = absurd (cc)
all_taken taken lines (Some a) (Some b) e none bound these =
    let is : a ≡ taken ++ b = cc in
    let same : length a ≡ length taken = ap length is ∙ ap (λ rest. length (taken ++ rest)) none ∙ ap length (append-nil taken) in
    (omega (arith, same, bound), these)

-- no line is left
pub reads_all : {columns : ℕ} {v u : LinesAhead} {number : ℕ} {numbers : List (List ℤ)} (t : SourceView) (j : IntakeView) → v.room ≡ input_limit → Going columns v u number numbers → Ended u (lines_ahead t j)
    → ReadsAll columns (outside v) t numbers
reads_all {columns} {v} {u} t j room x e = record {
  lines = x.lines;
  spell = x.spell;
  all = all_taken x.taken x.lines v.left u.left x.passed.left e.before (omega (arith, x.passed.room, room)) (lines_done (lines_left v) x.lines u (lines_ahead t j) x.first e);
  read = none_behind t.left j.held e.now;
}

-- ---- The lines of a source

-- nothing is held at first
pub starts : (s : SourceView) (i : IntakeView) → i.held ≡ [] → outside (lines_ahead s i) ≡ s
starts s i e = ap (λ o. record s { left = o }) (all_of_left s.left i.held e)
