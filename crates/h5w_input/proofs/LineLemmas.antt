-- How an input is cut into lines.
use Rattle.std.proofs.Common.{ℕ, zero, suc, ◌+◌, ◌-◌, ◌<◌, ◌≤◌, ◌≡◌, Bool, true, false, List, [], ◌∷◌, ◌++◌, length, take, drop, Option, Some, None, MatchBool, ℤ, sym, refl, ap, ◌∙◌, subst, inl, inr, arith, rules, length-append, length-drop}
use Rattle.std.specs.Prelude.{IfSome, option_map, slice_range}
use Rattle.std.proofs.lemmas.List.{append_assoc, append-nil, length-take-le, take_all, take-append-drop, drop-drop, drop-take}
use Rattle.h5w_text.specs.Streams.{SourceView, Took}
use Rattle.h5w_input.specs.LinesAhead.{AreSingles, Cut, StandNext, Ended, Given, NextGives, IntakeView, IsLast, IsLine, Keeps, Passed, LinesAhead, Stays, TakesNumbers, lines_left, lines_ahead}
use Rattle.h5w_input.specs.Scripts.{number_line_of}
use Rattle.h5w_input.specs.declared.line.TextLine.{TextLine}
use Rattle.h5w_input.specs.declared.line.Next.{Next}
use Rattle.h5w_input.specs.declared.line.Next.TheVariants as nexts
use Rattle.h5w_input.specs.declared.line.Partial.{Partial}
use Rattle.h5w_input.specs.Bytes.{Lacks}
use Rattle.h5w_input.specs.WordLists.{IsAlone}
use Rattle.h5w_input.proofs.ScriptLemmas.{one_value}
use Rattle.h5w_input.specs.Lines.{last_line, lines_from, lines_of, whole_from, whole_lines_of}

pub lines_lacks : (front xs : List ℕ) → Lacks 10 xs → lines_from front xs ≡ last_line (front ++ xs)
lines_lacks front [] h = ap last_line (sym (append-nil front))
lines_lacks front (x ∷ xs) h = rw h.0 (lines_lacks (front ++ x ∷ []) xs h.1 ∙ ap last_line (append_assoc front (x ∷ []) xs))

pub lines_cut : (front xs rest : List ℕ) → Lacks 10 xs → lines_from front (xs ++ 10 ∷ rest) ≡ (front ++ xs) ∷ lines_of rest
lines_cut front [] rest h = ap (λ l. l ∷ lines_of rest) (sym (append-nil front))
lines_cut front (x ∷ xs) rest h = rw h.0 (lines_cut (front ++ x ∷ []) xs rest h.1 ∙ ap (λ l. l ∷ lines_of rest) (append_assoc front (x ∷ []) xs))

-- bytes without an end are no whole line
pub whole_lacks : (front xs : List ℕ) → Lacks 10 xs → whole_from front xs ≡ []
whole_lacks front [] h = refl
whole_lacks front (x ∷ xs) h = rw h.0 (whole_lacks (front ++ x ∷ []) xs h.1)

-- a line with its end is one, before those of the rest
pub whole_cut : (front xs rest : List ℕ) → Lacks 10 xs → whole_from front (xs ++ 10 ∷ rest) ≡ (front ++ xs) ∷ whole_lines_of rest
whole_cut front [] rest h = ap (λ l. l ∷ whole_lines_of rest) (sym (append-nil front))
whole_cut front (x ∷ xs) rest h = rw h.0 (whole_cut (front ++ x ∷ []) xs rest h.1 ∙ ap (λ l. l ∷ whole_lines_of rest) (append_assoc front (x ∷ []) xs))

pub lacks_append : (byte : ℕ) (xs ys : List ℕ) → Lacks byte xs → Lacks byte ys → Lacks byte (xs ++ ys)
lacks_append byte [] ys h k = k
lacks_append byte (x ∷ xs) ys h k = (h.0, lacks_append byte xs ys h.1 k)

-- the line under way has these bytes so far
pub record Before (line : Partial) (v w : LinesAhead) : Type 0 where
  pub front : List ℕ
  pub keeps : Keeps line front
  pub lacks : Lacks 10 front
  pub passed : Passed front v w

same_left : (b : Option (List ℕ)) → b ≡ option_map (λ rest. [] ++ rest) b
same_left None = refl
same_left (Some b) = refl

both_left : (xs ys : List ℕ) (a b c : Option (List ℕ)) → a ≡ option_map (λ rest. xs ++ rest) b → b ≡ option_map (λ rest. ys ++ rest) c → a ≡ option_map (λ rest. (xs ++ ys) ++ rest) c
both_left xs ys a b None p q = p ∙ ap (option_map (λ rest. xs ++ rest)) q
both_left xs ys a b (Some c) p q = p ∙ ap (option_map (λ rest. xs ++ rest)) q ∙ ap Some (sym (append_assoc xs ys c))

pub stays_itself : (v : LinesAhead) → Stays v v
stays_itself v = record { limit = refl; faults = omega arith; through = refl }

pub stays_twice : {u v w : LinesAhead} → Stays u v → Stays v w → Stays u w
stays_twice p q = record { limit = q.limit ∙ p.limit; faults = omega arith; through = q.through ∙ p.through }

pub passed_nothing : (v : LinesAhead) → Passed [] v v
passed_nothing v = record { left = same_left v.left; room = omega arith; stays = stays_itself v }

pub passed_twice : {u v w : LinesAhead} (xs ys : List ℕ) → Passed xs u v → Passed ys v w → Passed (xs ++ ys) u w
passed_twice {u} {v} {w} xs ys p q = record {
  left = both_left xs ys u.left v.left w.left p.left q.left;
  room = omega (arith, length-append xs ys);
  stays = stays_twice p.stays q.stays;
}

left_of_pieces : (piece held : List ℕ) (s : Option (List ℕ)) (whole : List ℕ) → whole ≡ piece ++ held → option_map (λ rest. whole ++ rest) s ≡ option_map (λ rest. piece ++ rest) (option_map (λ rest. held ++ rest) s)
left_of_pieces piece held None whole e = refl
left_of_pieces piece held (Some s) whole e = ap (λ l. Some (l ++ s)) e ∙ ap Some (append_assoc piece held s)

-- all that was held belongs to the line
pub cut_open : (s : SourceView) (piece : List ℕ) (i j : IntakeView) → Cut piece false i j → Passed piece (lines_ahead s i) (lines_ahead s j)
cut_open s piece i j c = let none : j.held ≡ [] = c.rest refl in
    let all : i.held ≡ piece ++ j.held = c.held ∙ sym (append-nil piece) ∙ ap (λ l. piece ++ l) (sym none) in record {
      left = left_of_pieces piece j.held s.left i.held all;
      room = omega (arith, ap length all, length-append piece j.held, c.more);
      stays = record { limit = c.limit; faults = omega arith; through = refl };
    }

-- the line is ended, and its end was passed over
pub cut_ended : (s : SourceView) (piece : List ℕ) (i j : IntakeView) → Cut piece true i j → Passed (piece ++ 10 ∷ []) (lines_ahead s i) (lines_ahead s j)
cut_ended s piece i j c = let all : i.held ≡ (piece ++ 10 ∷ []) ++ j.held = c.held ∙ sym (append_assoc piece (10 ∷ []) j.held) in record {
  left = left_of_pieces (piece ++ 10 ∷ []) j.held s.left i.held all;
  room = omega (arith, ap length all, length-append (piece ++ 10 ∷ []) j.held, c.more);
  stays = record { limit = c.limit; faults = omega arith; through = refl };
}

lines_of_whole : (line : List ℕ) (b : Option (List ℕ)) → Lacks 10 line → option_map lines_of (option_map (λ rest. (line ++ 10 ∷ []) ++ rest) b) ≡ option_map (λ ls. line ∷ ls) (option_map lines_of b)
lines_of_whole line None h = refl
lines_of_whole line (Some b) h = ap Some (ap lines_of (append_assoc line (10 ∷ []) b) ∙ lines_cut [] line b h)

not_over : (line rest : List ℕ) (room : ℕ) → length line < room → Lacks 10 (take room ((line ++ 10 ∷ []) ++ rest)) → ⊥
not_over line rest zero h lacks = absurd (omega arith)
not_over [] rest (suc room) h lacks = absurd (search (rules, lacks.0))
not_over (b ∷ line) rest (suc room) h lacks = not_over line rest room (omega arith) lacks.1

whole_within : (line : List ℕ) (room : ℕ) (b : Option (List ℕ)) → length line < room → IfSome (option_map (λ rest. (line ++ 10 ∷ []) ++ rest) b) (λ left. (room < length left) × Lacks 10 (take room left) → ⊥)
whole_within line room None h = tt
whole_within line room (Some b) h = λ over. not_over line b room h over.1

last_within : (line : List ℕ) (room : ℕ) (b : Option (List ℕ)) → length line ≤ room → IfSome b (λ rest. rest ≡ []) → IfSome (option_map (λ rest. line ++ rest) b) (λ left. (room < length left) × Lacks 10 (take room left) → ⊥)
last_within line room None h none = tt
last_within line room (Some b) h none = λ over. absurd (omega (arith, over.0, length-append line b, ap length none))

-- a line with its end was passed over
pub given_whole : (line : List ℕ) (v w : LinesAhead) → Lacks 10 line → Passed (line ++ 10 ∷ []) v w → Given line v w
given_whole line v w h p = record {
  lines = ap (option_map lines_of) p.left ∙ lines_of_whole line w.left h;
  room = omega (arith, length-append line (10 ∷ []), p.room);
  within = subst (λ (a : Option (List ℕ)). IfSome a (λ left. (v.room < length left) × Lacks 10 (take v.room left) → ⊥)) (sym p.left) (whole_within line v.room w.left (omega (arith, length-append line (10 ∷ []), p.room)));
  passed = inr p;
}

lines_of_last : (line : List ℕ) (b : Option (List ℕ)) → Lacks 10 line → last_line line ≡ line ∷ [] → IfSome b (λ rest. rest ≡ []) → option_map lines_of (option_map (λ rest. line ++ rest) b) ≡ option_map (λ ls. line ∷ ls) (option_map lines_of b)
lines_of_last line None h e none = refl
lines_of_last line (Some b) h e none = ap Some (ap (λ l. lines_of (line ++ l)) none ∙ ap lines_of (append-nil line) ∙ lines_lacks [] line h ∙ e ∙ ap (λ l. line ∷ lines_of l) (sym none))

-- the last line has no end
pub given_last : (line : List ℕ) (v w : LinesAhead) → Lacks 10 line → last_line line ≡ line ∷ [] → Passed line v w → 1 ≤ length line → IfSome w.left (λ rest. rest ≡ []) → Given line v w
given_last line v w h e p some none = record {
  lines = ap (option_map lines_of) p.left ∙ lines_of_last line w.left h e none;
  room = omega (arith, p.room);
  within = subst (λ (a : Option (List ℕ)). IfSome a (λ left. (v.room < length left) × Lacks 10 (take v.room left) → ⊥)) (sym p.left) (last_within line v.room w.left (omega (arith, p.room)) none);
  passed = inl p;
}

slice_front : (xs : List ℕ) (n : ℕ) → slice_range xs 0 n ≡ take n xs
slice_front xs n = let e : n - 0 ≡ n = omega arith in ap (λ k. take k xs) e

pub slice_none : (at end : ℕ) (xs : List ℕ) → end ≤ at → slice_range xs at end ≡ []
slice_none at end xs h = let e : end - at ≡ 0 = omega arith in ap (λ k. take k (drop at xs)) e

left_of_filled : (bytes held new : List ℕ) (a b : Option (List ℕ)) → a ≡ option_map (λ rest. bytes ++ rest) b → held ≡ [] → new ≡ bytes → option_map (λ rest. held ++ rest) a ≡ option_map (λ rest. [] ++ rest) (option_map (λ rest. new ++ rest) b)
left_of_filled bytes held new a b p e f = ap (λ l. option_map (λ rest. l ++ rest) a) e ∙ sym (same_left a) ∙ p ∙ ap (λ l. option_map (λ rest. l ++ rest) b) (sym f) ∙ same_left (option_map (λ rest. new ++ rest) b)

-- bytes were taken from the source where none were held
pub filled : (s t : SourceView) (i : IntakeView) (buffer : List ℕ) (n more limit : ℕ) → Took (take n buffer) s t → i.held ≡ [] → n ≤ length buffer → n ≤ i.more → more ≡ i.more - n → limit ≡ i.limit → Passed [] (lines_ahead s i) (lines_ahead t (record { held = slice_range buffer 0 n; more = more; limit = limit }))
filled s t i buffer n more limit took none bound within fewer same = record {
  left = left_of_filled (take n buffer) i.held (slice_range buffer 0 n) s.left t.left took.left none (slice_front buffer n);
  room = omega (arith, ap length none, ap length (slice_front buffer n), length-take-le n buffer bound);
  stays = record { limit = same; faults = took.faults; through = took.through };
}

-- all held bytes are of the line
pub cut_all : (at end place : ℕ) (buffer : List ℕ) (more limit : ℕ) → place ≡ length (take (end - at) (drop at buffer)) → Lacks 10 (take place (take (end - at) (drop at buffer)))
    → Cut (take place (take (end - at) (drop at buffer))) false (record { held = slice_range buffer at end; more = more; limit = limit }) (record { held = slice_range buffer end end; more = more; limit = limit })
cut_all at end place buffer more limit e h = record {
  lacks = h;
  held = sym (take_all place (take (end - at) (drop at buffer)) (omega arith));
  rest = λ _. slice_none end end buffer (omega arith);
  more = refl;
  limit = refl;
}

pub rest_of_slice : (at end k : ℕ) (buffer : List ℕ) → at + k ≤ end → drop k (take (end - at) (drop at buffer)) ≡ slice_range buffer (at + k) end
rest_of_slice at end k buffer h = let e : end - at ≡ k + (end - (at + k)) = omega arith in
    ap (λ n. drop k (take n (drop at buffer))) e ∙ drop-take k (end - (at + k)) (drop at buffer) ∙ ap (take (end - (at + k))) (drop-drop k at buffer)

-- the held bytes up to a line end are of the line
pub cut_here : (at end place : ℕ) (buffer : List ℕ) (more limit : ℕ) → at + (place + 1) ≤ end → Lacks 10 (take place (take (end - at) (drop at buffer)))
    → drop place (take (end - at) (drop at buffer)) ≡ 10 ∷ drop (place + 1) (take (end - at) (drop at buffer))
    → Cut (take place (take (end - at) (drop at buffer))) true (record { held = slice_range buffer at end; more = more; limit = limit }) (record { held = slice_range buffer (at + (place + 1)) end; more = more; limit = limit })
cut_here at end place buffer more limit bound h cut = record {
  lacks = h;
  held = sym (take-append-drop place (take (end - at) (drop at buffer))) ∙ ap (λ l. take place (take (end - at) (drop at buffer)) ++ l) (cut ∙ ap (λ l. 10 ∷ l) (rest_of_slice at end (place + 1) buffer bound));
  rest = λ e. absurd (search (rules, e));
  more = refl;
  limit = refl;
}

none_mapped : (xs : List ℕ) (b : Option (List ℕ)) → xs ≡ [] → IfSome b (λ l. l ≡ []) → IfSome (option_map (λ rest. xs ++ rest) b) (λ l. l ≡ [])
none_mapped xs None h none = tt
none_mapped xs (Some b) h none = ap (λ l. l ++ b) h ∙ none

none_left : (xs : List ℕ) (a b : Option (List ℕ)) → a ≡ option_map (λ rest. xs ++ rest) b → xs ≡ [] → IfSome b (λ l. l ≡ []) → IfSome a (λ l. l ≡ [])
none_left xs a b e h none = subst (λ (o : Option (List ℕ)). IfSome o (λ l. l ≡ [])) (sym e) (none_mapped xs b h none)

nonempty : (xs : List ℕ) → last_line xs ≡ xs ∷ [] → 1 ≤ length xs
nonempty [] e = absurd (omega (arith, ap length e))
nonempty (x ∷ xs) e = omega arith

passed_more : {u v w : LinesAhead} (xs : List ℕ) → Passed xs u v → Passed [] v w → Passed xs u w
passed_more {u} {v} {w} xs p q = subst (λ (l : List ℕ). Passed l u w) (append-nil xs) (passed_twice xs [] p q)

last_from : (line : Partial) (next : Next) (v u : LinesAhead) (t : SourceView) (j : IntakeView) → Before line v u → Passed [] u (lines_ahead t j) → (j.held ≡ []) × IfSome t.left (λ rest. rest ≡ [])
    → ((front : List ℕ) → Keeps line front → IsLast next front) → NextGives next v (lines_ahead t j)
last_from line (nexts.Line l) v u t j b p none k = absurd (k b.front b.keeps)
last_from line nexts.End v u t j b p none k = let now : IfSome (lines_ahead t j).left (λ l. l ≡ []) = none_mapped j.held t.left none.0 none.1 in record {
  before = none_left b.front v.left (lines_ahead t j).left (passed_more b.front b.passed p).left (k b.front b.keeps) now;
  now = now;
}
last_from line (nexts.Last l) v u t j b p none k = let r = k b.front b.keeps in
    let now : IfSome (lines_ahead t j).left (λ l. l ≡ []) = none_mapped j.held t.left none.0 none.1 in
    (b.front, r.0, given_last b.front v (lines_ahead t j) b.lacks r.1 (passed_more b.front b.passed p) (nonempty b.front r.1) now, now)

-- the input ends: what was kept is its last line
pub last_of : (line : Partial) (next : Next) (more : Bool) (v u : LinesAhead) (t : SourceView) (j : IntakeView) → Before line v u → Passed [] u (lines_ahead t j) → more ≡ false
    → MatchBool more (1 ≤ length j.held) ((j.held ≡ []) × IfSome t.left (λ rest. rest ≡ [])) → ((front : List ℕ) → Keeps line front → IsLast next front) → NextGives next v (lines_ahead t j)
last_of line next more v u t j b p is m k =
    last_from line next v u t j b p (subst (λ (e : Bool). MatchBool e (1 ≤ length j.held) ((j.held ≡ []) × IfSome t.left (λ rest. rest ≡ []))) is m) k

abbrev Advance : Partial → Partial → Bool → IntakeView → IntakeView → Type 0
Advance line kept ended j k = (piece : List ℕ) × Cut piece ended j k × ((front : List ℕ) → Keeps line front → Keeps kept (front ++ piece))

-- the line is ended
pub whole_of : (line kept : Partial) (l : TextLine) (ended : Bool) (v u : LinesAhead) (t : SourceView) (j k : IntakeView) → Before line v u → Passed [] u (lines_ahead t j) → ended ≡ true → Advance line kept ended j k
    → ((front : List ℕ) → Keeps kept front → IsLine l front) → NextGives (nexts.Line l) v (lines_ahead t k)
whole_of line kept l ended v u t j k b p is a finish =
    let cut : Cut a.0 true j k = subst (λ (e : Bool). Cut a.0 e j k) is a.1 in
    let all : Passed (b.front ++ (a.0 ++ 10 ∷ [])) v (lines_ahead t k) = passed_twice b.front (a.0 ++ 10 ∷ []) (passed_more b.front b.passed p) (cut_ended t a.0 j k cut) in
    let lacks : Lacks 10 (b.front ++ a.0) = lacks_append 10 b.front a.0 b.lacks cut.lacks in
    let passed : Passed ((b.front ++ a.0) ++ 10 ∷ []) v (lines_ahead t k) = subst (λ (x : List ℕ). Passed x v (lines_ahead t k)) (sym (append_assoc b.front a.0 (10 ∷ []))) all in (
      b.front ++ a.0,
      finish (b.front ++ a.0) (a.2 b.front b.keeps),
      given_whole (b.front ++ a.0) v (lines_ahead t k) lacks passed,
      record { lacks = lacks; passed = passed },
    )

-- a line that was held with its end was taken, and has these values
pub takes_numbers : (columns : ℕ) (values : List ℤ) (s : SourceView) (i j : IntakeView) → (line : List ℕ) × Cut line true i j × (number_line_of columns line ≡ Some values) → TakesNumbers columns values (lines_ahead s i) (lines_ahead s j)
takes_numbers columns values s i j h =
    let passed : Passed (h.0 ++ 10 ∷ []) (lines_ahead s i) (lines_ahead s j) = cut_ended s h.0 i j h.1 in
    record { line = h.0; spelled = h.2; given = given_whole h.0 (lines_ahead s i) (lines_ahead s j) h.1.lacks passed; whole = record { lacks = h.1.lacks; passed = passed } }

-- the line goes on
pub open_of : (line kept : Partial) (ended : Bool) (v u : LinesAhead) (t : SourceView) (j k : IntakeView) → Before line v u → Passed [] u (lines_ahead t j) → ended ≡ false → Advance line kept ended j k → Before kept v (lines_ahead t k)
open_of line kept ended v u t j k b p is a = let cut : Cut a.0 false j k = subst (λ (e : Bool). Cut a.0 e j k) is a.1 in record {
  front = b.front ++ a.0;
  keeps = a.2 b.front b.keeps;
  lacks = lacks_append 10 b.front a.0 b.lacks cut.lacks;
  passed = passed_twice b.front a.0 (passed_more b.front b.passed p) (cut_open t a.0 j k cut);
}

more_cases : (given : List (List ℕ)) (line : List ℕ) (o : Option (List (List ℕ))) → option_map (λ ls. given ++ ls) (option_map (λ ls. line ∷ ls) o) ≡ option_map (λ ls. (given ++ line ∷ []) ++ ls) o
more_cases given line None = refl
more_cases given line (Some ls) = ap Some (sym (append_assoc given (line ∷ []) ls))

done_cases : (given : List (List ℕ)) (left : Option (List ℕ)) → IfSome left (λ l. l ≡ []) → IfSome (option_map (λ ls. given ++ ls) (option_map lines_of left)) (λ ls. ls ≡ given)
done_cases given None h = tt
done_cases given (Some l) h = ap (λ x. given ++ lines_of x) h ∙ append-nil given

-- for a loop over the lines: those given so far and those that are left are all of them
pub lines_more : (all : Option (List (List ℕ))) (given : List (List ℕ)) (line : List ℕ) (v w : LinesAhead) → all ≡ option_map (λ ls. given ++ ls) (lines_left v) → Given line v w → all ≡ option_map (λ ls. (given ++ line ∷ []) ++ ls) (lines_left w)
lines_more all given line v w e g = e ∙ ap (option_map (λ ls. given ++ ls)) g.lines ∙ more_cases given line (lines_left w)

-- at the end those given are all of them
pub lines_done : (all : Option (List (List ℕ))) (given : List (List ℕ)) (v w : LinesAhead) → all ≡ option_map (λ ls. given ++ ls) (lines_left v) → Ended v w → IfSome all (λ ls. ls ≡ given)
lines_done all given v w e ended = subst (λ (o : Option (List (List ℕ))). IfSome o (λ ls. ls ≡ given)) (sym e) (done_cases given v.left ended.before)

-- ---- Lines of one value that stand next

pub singles_none : (held : List ℕ) → StandNext [] 0 held
singles_none held = record { within = omega arith; lines = refl }

-- one more line behind them
singles_more : (vs : List ℤ) (held behind line middle : List ℕ) (v : ℤ) → AreSingles vs held behind → Lacks 10 line → number_line_of 1 line ≡ Some (v ∷ []) → behind ≡ line ++ 10 ∷ middle → AreSingles (vs ++ v ∷ []) held middle
singles_more [] held behind line middle v same lacks is cut = (line, middle, lacks, is, same ∙ cut, refl)
singles_more (w ∷ ws) held behind line middle v h lacks is cut = (h.0, h.1, h.2, h.3, h.4, singles_more ws h.1 behind line middle v h.5 lacks is cut)

pub next_single : (vs : List ℤ) (at len : ℕ) (held : List ℕ) (v : ℤ) → StandNext vs at held → IsAlone (drop at held) len v → StandNext (vs ++ v ∷ []) (at + (len + 1)) held
next_single vs at len held v h alone =
    let behind : List ℕ = drop at held in
    let line : List ℕ = take len behind in
    let first = alone.first in
    let long = length-take-le len behind first.within in
    let rest : drop (len + 1) behind ≡ drop (at + (len + 1)) held = drop-drop (len + 1) at held in
    let cut : behind ≡ line ++ 10 ∷ drop (at + (len + 1)) held =
    sym (take-append-drop len behind) ∙ ap (λ (l : List ℕ). line ++ l) (alone.ends ∙ ap (λ (l : List ℕ). 10 ∷ l) rest) in
    record {
      within = omega (arith, alone.inside, length-drop at held, h.within);
      lines = singles_more vs held behind line (drop (at + (len + 1)) held) v h.lines first.line (one_value line v (omega (arith, long, first.some)) (omega (arith, long, first.few)) first.lacks first.value) cut;
    }
