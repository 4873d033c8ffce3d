-- A script under way: its first lines were answered.
use Rattle.std.proofs.Common.{ℕ, ◌+◌, ◌≤◌, ◌<◌, ◌≡◌, ◌⊎◌, List, [], ◌∷◌, ◌++◌, length, map, take, Option, Some, None, Result, Ok, Err, sym, refl, ap, ◌∙◌, subst, inl, inr, arith, append_assoc, append-nil, length-append}
use Rattle.std.specs.Prelude.{IfErr, IfSome, OnOk, flat_map, option_map}
use Rattle.std.proofs.lemmas.List.{map-append, flat_map_more}
use Rattle.std.proofs.Math.Seq.{take-append-add}
use Rattle.h5w_model.specs.Causes.{Rose}
use Rattle.h5w_text.specs.Streams.{SourceView, SinkView, Gave}
use Rattle.h5w_input.specs.Bytes.{Lacks}
use Rattle.h5w_input.specs.Lines.{lines_of, whole_lines_of}
use Rattle.h5w_input.specs.LinesAhead.{Ended, Given, GivenUp, IntakeView, IsLine, IsOver, IsWhole, Passed, LinesAhead, Stays, lines_left, lines_ahead}
use Rattle.h5w_text.specs.Errors.{error_text}
use Rattle.h5w_text.specs.declared.error.ErrorLine.TheVariants as errors
use Rattle.h5w_input.specs.declared.line.TextLine as text_lines
use Rattle.h5w_input.specs.declared.line.LineError.{LineError}
use Rattle.h5w_input.specs.declared.line.LineError.TheVariants.{Failed, Input, OutOfMemory}
use Rattle.h5w_input.proofs.LineLemmas.{lines_more, lines_done, passed_nothing, passed_twice, whole_cut, whole_lacks}
use Rattle.h5w_several_script_laws.specs.Scripts.{FileLine, FileReply, FileState, AllowedAll, LawfulAll, next_all}
use Rattle.h5w_playing.specs.Lines.{Spelling, file_line_of}
use Rattle.h5w_playing.specs.Replies.{file_reply_text}
use Rattle.h5w_playing.specs.Endings.{Answered, EndsAt, Runs, ending_of}
use Rattle.h5w_playing.specs.Plays.{Begun, Finished, HasFirst, Replied, Stopped}
use Rattle.h5w_batches.proofs.InputLemmas.{rose_before}
use Rattle.h5w_batches.proofs.LineLemmas.{none_behind, starts}
use Rattle.h5w_files.proofs.SinkLemmas.{gave_both, gave_nothing, gave_then_some}
use Rattle.h5w_batches.specs.Inputs.{SameSource, input_limit, outside}
use Rattle.h5w_playing.specs.declared.ending.Ending.{Ending}
use Rattle.h5w_playing.specs.declared.ending.Ending.TheVariants as endings
use Rattle.h5w_text.specs.declared.status.Status.TheVariants as statuses

-- ---- First lines

-- replies that may be given to some lines, with their text, lead to a state
pub record SoFar (g : Spelling) (F : FileState) (lines : List (List ℕ)) (text : List ℕ) (state : FileState) : Type 0 where
  pub script : List FileLine
  pub replies : List FileReply
  pub spelled : map (file_line_of g) lines ≡ map Some script
  pub lawful : (ls : List FileLine) (rs : List FileReply) → LawfulAll state ls rs → LawfulAll F (script ++ ls) (replies ++ rs)
  pub is : text ≡ flat_map file_reply_text replies

nothing_so_far : (g : Spelling) (F : FileState) → SoFar g F [] [] F
nothing_so_far g F = record { script = []; replies = []; spelled = refl; lawful = λ ls rs h. h; is = refl }

pub replied_nothing : (g : Spelling) (F : FileState) → Replied g F [] []
replied_nothing g F = record { script = []; replies = []; spelled = refl; lawful = tt; is = refl }

lawful_behind : (F : FileState) (script ls : List FileLine) (replies rs : List FileReply) (l : FileLine) (r : FileReply) → LawfulAll F (script ++ (l ∷ ls)) (replies ++ (r ∷ rs)) → LawfulAll F ((script ++ l ∷ []) ++ ls) ((replies ++ r ∷ []) ++ rs)
lawful_behind F script ls replies rs l r h =
    subst (λ (x : List FileLine). LawfulAll F x ((replies ++ r ∷ []) ++ rs)) (sym (append_assoc script (l ∷ []) ls))
    (subst (λ (y : List FileReply). LawfulAll F (script ++ (l ∷ ls)) y) (sym (append_assoc replies (r ∷ []) rs)) h)

more_so_far : (g : Spelling) (F : FileState) (lines : List (List ℕ)) (text : List ℕ) (state : FileState) (line : List ℕ) (l : FileLine) (r : FileReply)
    → SoFar g F lines text state → file_line_of g line ≡ Some l → AllowedAll state l r → SoFar g F (lines ++ line ∷ []) (text ++ file_reply_text r) (next_all state l r)
more_so_far g F lines text state line l r x spelled allowed = record {
  script = x.script ++ l ∷ [];
  replies = x.replies ++ r ∷ [];
  spelled = map-append (file_line_of g) lines (line ∷ []) ∙ ap (λ ls. ls ++ file_line_of g line ∷ []) x.spelled ∙ ap (λ o. map Some x.script ++ o ∷ []) spelled ∙ sym (map-append Some x.script (l ∷ []));
  lawful = λ ls rs h. lawful_behind F x.script ls x.replies rs l r (x.lawful (l ∷ ls) (r ∷ rs) (allowed, h));
  is = ap (λ t. t ++ file_reply_text r) x.is ∙ flat_map_more file_reply_text [] x.replies r;
}

replied_of : (g : Spelling) (F : FileState) (lines : List (List ℕ)) (text : List ℕ) (state : FileState) → SoFar g F lines text state → Replied g F lines text
replied_of g F lines text state x = record {
  script = x.script;
  replies = x.replies;
  spelled = x.spelled;
  lawful = subst (λ (ls : List FileLine). LawfulAll F ls x.replies) (append-nil x.script)
      (subst (λ (rs : List FileReply). LawfulAll F (x.script ++ []) rs) (append-nil x.replies) (x.lawful [] [] tt));
  is = x.is;
}

-- so many first lines of the input were answered, and what is fitted now is known
pub record Going (v w : LinesAhead) (g : Spelling) (F : FileState) (has : FileState → Type 0) (number : ℕ) (k l : SinkView) : Type 0 where
  pub lines : List (List ℕ)
  pub text : List ℕ
  pub state : FileState
  pub so_far : SoFar g F lines text state
  pub count : number ≡ length lines
  pub room : w.room + number ≤ v.room
  pub taken : List ℕ
  pub passed : Passed taken v w
  pub first : lines_left v ≡ option_map (λ ls. lines ++ ls) (lines_left w)
  pub fits : has state
  pub gave : Gave text k l

pub all_left : (o : Option (List ℕ)) → option_map lines_of o ≡ option_map (λ ls. [] ++ ls) (option_map lines_of o)
all_left None = refl
all_left (Some ls) = refl

-- before the first line
pub going_first : (v : LinesAhead) (g : Spelling) (F : FileState) (has : FileState → Type 0) (l : SinkView) → has F → Going v v g F has 0 l l
going_first v g F has l fits = record {
  lines = [];
  text = [];
  state = F;
  so_far = nothing_so_far g F;
  count = refl;
  room = omega arith;
  taken = [];
  passed = passed_nothing v;
  first = all_left v.left;
  fits = fits;
  gave = gave_nothing l;
}

-- after one more line, whose bytes were passed over
pub going_more : {v u w : LinesAhead} {g : Spelling} {F : FileState} {before after : FileState → Type 0} {number : ℕ} {k l m : SinkView} (line bytes : List ℕ) → Going v u g F before number k l → Given line u w → Passed bytes u w
    → Answered g line before after l m → Going v w g F after (number + 1) k m
going_more {v} {u} {w} {g} {F} {before} {after} {number} {k} {l} {m} line bytes x given passed a =
    let s = a.lawful x.state x.fits in record {
      lines = x.lines ++ line ∷ [];
      text = x.text ++ file_reply_text a.reply;
      state = next_all x.state a.line a.reply;
      so_far = more_so_far g F x.lines x.text x.state line a.line a.reply x.so_far a.spelled s.0;
      count = omega (arith, x.count, length-append x.lines (line ∷ []));
      room = omega (arith, x.room, given.room);
      taken = x.taken ++ bytes;
      passed = passed_twice x.taken bytes x.passed passed;
      first = lines_more (lines_left v) x.lines line u w x.first given;
      fits = s.1;
      gave = gave_both x.text (file_reply_text a.reply) x.gave a.gave;
    }

-- so many first lines were answered, and they are the whole lines of what was taken
pub record GoingWhole (v w : LinesAhead) (g : Spelling) (F : FileState) (has : FileState → Type 0) (number : ℕ) (k l : SinkView) : Type 0 where
  pub going : Going v w g F has number k l
  pub whole : (rest : List ℕ) → whole_lines_of (going.taken ++ rest) ≡ going.lines ++ whole_lines_of rest

pub whole_first : (v : LinesAhead) (g : Spelling) (F : FileState) (has : FileState → Type 0) (l : SinkView) → has F → GoingWhole v v g F has 0 l l
unfolding going_first
whole_first v g F has l fits = record { going = going_first v g F has l fits; whole = λ rest. refl }

pub one_whole : (taken line rest : List ℕ) (lines : List (List ℕ)) → Lacks 10 line → ((more : List ℕ) → whole_lines_of (taken ++ more) ≡ lines ++ whole_lines_of more)
    → whole_lines_of ((taken ++ (line ++ 10 ∷ [])) ++ rest) ≡ (lines ++ line ∷ []) ++ whole_lines_of rest
one_whole taken line rest lines lacks whole =
    ap whole_lines_of (append_assoc taken (line ++ 10 ∷ []) rest ∙ ap (λ l. taken ++ l) (append_assoc line (10 ∷ []) rest)) ∙ whole (line ++ 10 ∷ rest)
    ∙ ap (λ ls. lines ++ ls) (whole_cut [] line rest lacks) ∙ sym (append_assoc lines (line ∷ []) (whole_lines_of rest))

pub whole_more : {v u w : LinesAhead} {g : Spelling} {F : FileState} {before after : FileState → Type 0} {number : ℕ} {k l m : SinkView} (line : List ℕ) → GoingWhole v u g F before number k l → Given line u w → IsWhole line u w
    → Answered g line before after l m → GoingWhole v w g F after (number + 1) k m
unfolding going_more
whole_more line x given is a = record {
  going = going_more line (line ++ 10 ∷ []) x.going given is.passed a;
  whole = λ rest. one_whole x.going.taken line rest x.going.lines is.lacks x.whole;
}

-- bytes without an end behind what was taken
pub none_more : (taken front : List ℕ) (lines : List (List ℕ)) → Lacks 10 front → ((more : List ℕ) → whole_lines_of (taken ++ more) ≡ lines ++ whole_lines_of more) → lines ≡ whole_lines_of (taken ++ front)
none_more taken front lines lacks whole = sym (whole front ∙ ap (λ ls. lines ++ ls) (whole_lacks [] front lacks) ∙ append-nil lines)

pub first_cases : (a b : Option (List ℕ)) (taken : List ℕ) (lines : List (List ℕ)) → length taken ≤ input_limit → a ≡ option_map (λ rest. taken ++ rest) b
    → option_map lines_of a ≡ option_map (λ ls. lines ++ ls) (option_map lines_of b) → IfSome a (HasFirst lines)
first_cases None b taken lines bound cut e = tt
first_cases (Some a) None taken lines bound cut e = absurd (cc)
first_cases (Some a) (Some b) taken lines bound cut e = record { taken = taken; rest = b; is = cc; bound = bound; lines_are = cc }

-- the bytes of a line that was given, behind those that were taken before
pub more_first : {v u w : LinesAhead} (taken line : List ℕ) (lines : List (List ℕ)) → v.room ≡ input_limit → Passed taken v u → Given line u w → lines_left v ≡ option_map (λ ls. lines ++ ls) (lines_left w)
    → IfSome v.left (HasFirst lines)
more_first {v} {u} {w} taken line lines room passed given first = elim given.passed [
  | inl p ↦ (let both = passed_twice taken line passed p in first_cases v.left w.left (taken ++ line) lines (omega (arith, both.room, room)) both.left first)
  | inr p ↦ (let both = passed_twice taken (line ++ 10 ∷ []) passed p in first_cases v.left w.left (taken ++ (line ++ 10 ∷ [])) lines (omega (arith, both.room, room)) both.left first)
]

begun_of : {v w : LinesAhead} {g : Spelling} {F : FileState} {has : FileState → Type 0} {number : ℕ} {k l : SinkView} (x : Going v w g F has number k l) (last text : List ℕ) → v.room ≡ input_limit → text ≡ x.text ++ last
    → Begun g F (outside v) last text
begun_of {v} {w} {g} {F} x last text room e = record {
  lines = x.lines;
  first = first_cases v.left w.left x.taken x.lines (omega (arith, x.passed.room, room)) x.passed.left x.first;
  answers = x.text;
  replied = replied_of g F x.lines x.text x.state x.so_far;
  is = e;
}

-- ---- Endings

abbrev Long : ℕ → List (List ℕ) → List ℕ → Type 0
Long all lines input = (all < length input) × (whole_lines_of (take all input) ≡ lines)

first_of_long : (taken b : List ℕ) (room all : ℕ) → all ≡ room + length taken → take all (taken ++ b) ≡ taken ++ take room b
first_of_long taken b room all e = let f : all ≡ length taken + room = omega (arith, e) in ap (λ n. take n (taken ++ b)) f ∙ take-append-add taken b room

pub too_long : (taken : List ℕ) (lines : List (List ℕ)) (a b : Option (List ℕ)) (room all : ℕ) → ((more : List ℕ) → whole_lines_of (taken ++ more) ≡ lines ++ whole_lines_of more) → a ≡ option_map (λ rest. taken ++ rest) b → all ≡ room + length taken
    → IfSome b (λ left. (room < length left) × Lacks 10 (take room left)) → IfSome a (Long all lines)
too_long taken lines a None room all whole e f over = subst (λ (o : Option (List ℕ)). IfSome o (Long all lines)) (sym e) tt
too_long taken lines a (Some b) room all whole e f over = subst (λ (o : Option (List ℕ)). IfSome o (Long all lines)) (sym e) (
  omega (arith, length-append taken b, over.0),
  ap whole_lines_of (first_of_long taken b room all f) ∙ sym (none_more taken (take room b) lines over.1 whole),
)

pub all_of_left : (a : Option (List ℕ)) (held : List ℕ) → held ≡ [] → option_map (λ rest. held ++ rest) a ≡ a
all_of_left None held e = refl
all_of_left (Some a) held e = ap (λ h. Some (h ++ a)) e

-- the source failed behind whole lines
stopped_of : {v u : LinesAhead} {g : Spelling} {F : FileState} {has : FileState → Type 0} {number : ℕ} {k l : SinkView} (t : SourceView) (j : IntakeView) (last : List ℕ) (x : GoingWhole v u g F has number k l) → v.room ≡ input_limit
    → GivenUp u (lines_ahead t j) j.held → Stopped g F (outside v) t last (x.going.text ++ last)
stopped_of {v} {u} {g} {F} t j last x room up = let both = passed_twice x.going.taken up.front x.going.passed up.passed in record {
  taken = x.going.taken ++ up.front;
  bound = omega (arith, both.room, room);
  read = both.left ∙ ap (option_map (λ rest. (x.going.taken ++ up.front) ++ rest)) (all_of_left t.left j.held up.none);
  answers = x.going.text;
  replied = subst (λ (ls : List (List ℕ)). Replied g F ls x.going.text) (none_more x.going.taken up.front x.going.lines up.lacks x.whole) (replied_of g F x.going.lines x.going.text x.going.state x.going.so_far);
  is = refl;
}

-- the next line is not there
pub ended_at_source : {v u : LinesAhead} {g : Spelling} {F : FileState} {has : FileState → Type 0} {number : ℕ} {k l : SinkView} (t : SourceView) (j : IntakeView) (e : LineError) → GoingWhole v u g F has number k l → v.room ≡ input_limit
    → (e ≡ Failed → Rose u.faults t.faults) → (e ≡ Failed → GivenUp u (lines_ahead t j) j.held) → ((limit : ℕ) → e ≡ Input limit → IsOver u) → Runs {A = Unit {0}} g F (Err (ending_of e)) (outside v) t k l
ended_at_source {v} {u} t j Failed x room rose up over = record {
  text = x.going.text;
  begun = begun_of x.going [] x.going.text room (sym (append-nil x.going.text));
  writes = (rose_before v.faults u.faults t.faults x.going.passed.stays.faults (rose refl), stopped_of t j (error_text errors.Source) x room (up refl));
  gave = x.going.gave;
}
ended_at_source {v} {u} {g} {F} t j (Input limit) x room rose up over = record {
  text = x.going.text;
  begun = begun_of x.going [] x.going.text room (sym (append-nil x.going.text));
  writes = inr (record {
    lines = x.going.lines;
    long = too_long x.going.taken x.going.lines v.left u.left u.room input_limit x.whole x.going.passed.left (sym room ∙ x.going.passed.room) (over limit refl);
    answers = x.going.text;
    replied = replied_of g F x.going.lines x.going.text x.going.state x.going.so_far;
    is = refl;
  });
  gave = x.going.gave;
}
ended_at_source t j OutOfMemory x room rose up over = record {
  text = x.going.text;
  begun = begun_of x.going [] x.going.text room (sym (append-nil x.going.text));
  writes = begun_of x.going (error_text errors.Memory) (x.going.text ++ error_text errors.Memory) room refl;
  gave = x.going.gave;
}

-- the next line is given no reply, or its reply is not written
pub ended_at_line : {v u w : LinesAhead} {g : Spelling} {F : FileState} {has : FileState → Type 0} {number : ℕ} {k l : SinkView} (t : SourceView) (m : SinkView) (line : List ℕ) (e : Ending) → v.room ≡ input_limit → Going v u g F has number k l → Given line u w
    → EndsAt g line (number + 1) has l m e → Runs {A = Unit {0}} g F (Err e) (outside v) t k m
ended_at_line {v} {u} {w} {g} {F} {has} {number} {k} {l} t m line (endings.Line n) room x given h = record {
  text = x.text;
  begun = begun_of x [] x.text room (sym (append-nil x.text));
  writes = inl (record {
    lines = x.lines;
    line = line;
    first = more_first x.taken line (x.lines ++ line ∷ []) room x.passed given (lines_more (lines_left v) x.lines line u w x.first given);
    outside = h.1;
    answers = x.text;
    replied = replied_of g F x.lines x.text x.state x.so_far;
    is = ap (λ i. x.text ++ error_text (errors.Line i)) (h.0 ∙ ap (λ i. i + 1) x.count);
  });
  gave = subst (λ (s : SinkView). Gave x.text k s) (sym h.2) x.gave;
}
ended_at_line t m line endings.Input room x given h = absurd h
ended_at_line t m line endings.Source room x given h = absurd h
ended_at_line {v} {u} {w} {g} {F} {has} {number} {k} {l} t m line endings.Sink room x given h = record {
  rose = rose_before k.faults l.faults m.faults x.gave.faults h.rose;
  status = statuses.Sink;
  text = x.text ++ file_reply_text h.reply;
  writes = record {
    lines = x.lines ++ line ∷ [];
    first = more_first x.taken line (x.lines ++ line ∷ []) room x.passed given (lines_more (lines_left v) x.lines line u w x.first given);
    answers = x.text ++ file_reply_text h.reply;
    replied = replied_of g F (x.lines ++ line ∷ []) (x.text ++ file_reply_text h.reply) (next_all x.state h.line h.reply)
        (more_so_far g F x.lines x.text x.state line h.line h.reply x.so_far h.spelled (h.lawful x.state x.fits));
    is = sym (append-nil (x.text ++ file_reply_text h.reply));
  };
  gave = gave_then_some x.text (file_reply_text h.reply) x.gave h.gave;
}
ended_at_line {k = k} t m line endings.Memory room x given h = record {
  text = x.text;
  begun = begun_of x [] x.text room (sym (append-nil x.text));
  writes = begun_of x (error_text errors.Memory) (x.text ++ error_text errors.Memory) room refl;
  gave = subst (λ (s : SinkView). Gave x.text k s) (sym h) x.gave;
}

pub all_cases : (a : Option (List ℕ)) (lines : List (List ℕ)) → IfSome (option_map lines_of a) (λ ls. ls ≡ lines) → IfSome a (λ input. lines_of input ≡ lines)
all_cases None lines h = tt
all_cases (Some a) lines h = h

-- where nothing is left all that there was was taken
pub all_taken : (a b : Option (List ℕ)) (taken : List ℕ) → a ≡ option_map (λ rest. taken ++ rest) b → IfSome b (λ rest. rest ≡ []) → length taken ≤ input_limit → IfSome a (λ input. length input ≤ input_limit)
all_taken None b taken e none bound = tt
all_taken (Some a) None taken e none bound = absurd (cc)
all_taken (Some a) (Some b) taken e none bound =
    let is : a ≡ taken ++ b = cc in
    let same : length a ≡ length taken = ap length is ∙ ap (λ rest. length (taken ++ rest)) none ∙ ap length (append-nil taken) in
    omega (arith, same, bound)

-- no line is left
pub ended_whole : {v u : LinesAhead} {g : Spelling} {F : FileState} {has : FileState → Type 0} {number : ℕ} {k l : SinkView} (t : SourceView) (j : IntakeView) → v.room ≡ input_limit → Going v u g F has number k l → Ended u (lines_ahead t j)
    → Finished g F statuses.Done (outside v) t k l
ended_whole {v} {u} {g} {F} t j room x e = record {
  text = x.text;
  writes = record {
    bound = all_taken v.left u.left x.taken x.passed.left e.before (omega (arith, x.passed.room, room));
    lines = x.lines;
    all = all_cases v.left x.lines (lines_done (lines_left v) x.lines u (lines_ahead t j) x.first e);
    read = none_behind t.left j.held e.now;
    replied = replied_of g F x.lines x.text x.state x.so_far;
  };
  gave = x.gave;
}

-- the last line was answered
last_more : {v u w : LinesAhead} {g : Spelling} {F : FileState} {before after : FileState → Type 0} {number : ℕ} {k l m : SinkView} (line : List ℕ) → Going v u g F before number k l → Given line u w → Passed line u w ⊎ Passed (line ++ 10 ∷ []) u w
    → Answered g line before after l m → Going v w g F after (number + 1) k m
last_more line x given (inl p) a = going_more line line x given p a
last_more line x given (inr p) a = going_more line (line ++ 10 ∷ []) x given p a

-- the last line, which no end follows, is answered, or the script ends at it
pub ended_at_last : {v u : LinesAhead} {g : Spelling} {F : FileState} {before : FileState → Type 0} {number : ℕ} {k l : SinkView} (after : FileState → Type 0) (t : SourceView) (j : IntakeView) (m : SinkView) (line : text_lines.TextLine) (r : Result (Unit {0}) Ending)
    → v.room ≡ input_limit → Going v u g F before number k l → (bytes : List ℕ) × IsLine line bytes × Given bytes u (lines_ahead t j) × IfSome (lines_ahead t j).left (λ left. left ≡ [])
    → OnOk r ((bytes : List ℕ) → IsLine line bytes → Answered g bytes before after l m) → IfErr r (λ e. (bytes : List ℕ) → IsLine line bytes → EndsAt g bytes (number + 1) before l m e) → Runs g F r (outside v) t k m
ended_at_last after t j m line (Ok a) room x given answered ended =
    ended_whole t j room (last_more given.0 x given.2 given.2.passed (answered given.0 given.1)) (record { before = given.3; now = given.3 })
ended_at_last after t j m line (Err e) room x given answered ended = ended_at_line t m given.0 e room x given.2 (ended given.0 given.1)

-- ---- The lines of a source

-- from the lines to the source, which is given back
pub runs_of : (g : Spelling) (F : FileState) (r : Result (Unit {0}) Ending) (a s b t : SourceView) (i : IntakeView) (k l : SinkView) → Runs g F r (outside (lines_ahead a i)) b k l → i.held ≡ [] → a ≡ s → b ≡ t → Runs g F r s t k l
runs_of g F r a s b t i k l h none same given =
    subst (λ (x : SourceView). Runs g F r x t k l) same
    (subst (λ (y : SourceView). Runs g F r a y k l) given
    (subst (λ (x : SourceView). Runs g F r x b k l) (starts a i none) h))

-- ---- The source

pub source_stays : (s t : SourceView) (i j : IntakeView) → Stays (lines_ahead s i) (lines_ahead t j) → SameSource s t
source_stays s t i j a = record { faults = a.faults; through = a.through }
