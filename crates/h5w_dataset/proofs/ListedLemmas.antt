-- The messages of any bytes begin in them, and each continuation names a block whole.
use Rattle.std.proofs.Common.{◌≡◌, ℕ, zero, suc, ◌+◌, ◌-◌, ◌<◌, ◌≤◌, min, Bool, true, false, ◌&&◌, List, [], ◌∷◌, length, drop, Result, Ok, Err, Option, Some, None, ◌∙◌, ap, subst, ◌⊎◌, inl, inr, arith, ltb, length-take, length-drop, ◌++◌, map, reverse}
use Rattle.std.specs.Prelude.{◌==◌}
use Rattle.std.specs.List.{All}
use Rattle.std.proofs.lemmas.List.Elements.{All-nil, All-cons}
use Rattle.std.proofs.lemmas.Bool.{cases_lt, cases_Bool, or_parts, ltb-false}
use Rattle.std.proofs.lemmas.List.{reverse-append, map-append}
use Rattle.h5w_model.specs.Numbers.{range}
use Rattle.h5w_model.specs.Checked.{checked}
use Rattle.h5w_model.specs.Headers.{and_then, prefix_at, prefix_tests, prefix_fields, header_at, header_tests, inside_of, messages_at, whole_block, inside_block, block_at, block_tests, msgs_in, msg_at, data_size, overruns, before_data, all_known, first_unknown, unless_refused}
use Rattle.h5w_model.specs.declared.message.Msg.{Msg}
use Rattle.h5w_model.specs.declared.refusal.HeaderError.{HeaderError}
use Rattle.h5w_model.specs.declared.refusal.HeaderError.TheVariants.{OutOfMemory}
use Rattle.h5w_model.proofs.HeaderLemmas.{msgs_in-gap, msgs_in-overrun, msgs_in-more}
use Rattle.h5w_dataset.specs.Listed.{IsInside, OverrunBelow, Listed}
use Rattle.h5w_dataset.specs.Founds.{found_of, stack, founds}
use Rattle.h5w_dataset.specs.declared.found.FoundMessage.{FoundMessage}

-- a continuation's data are long enough
names_whole : (kind size : ℕ) → ((kind == 0x10) && ltb size 16) ≡ false → kind ≡ 16 → 16 ≤ size
names_whole kind size h e =
    let f : ltb size 16 ≡ false = subst (λ k. ((k == 0x10) && ltb size 16) ≡ false) e h in
    ltb-false size 16 f

first_inside : (before start limit : ℕ) (b : List ℕ) → 4 ≤ before → before ≤ length b → overruns before b ≡ false → start + length b ≤ limit → IsInside limit (msg_at before start b)
first_inside before start limit b low long ends inside =
    let parts = or_parts (ltb (length b) (before + data_size b)) ((msg_at before start b).kind == 0x10 && ltb (data_size b) 16) ends in
    let fits : before + data_size b ≤ length b = ltb-false (length b) (before + data_size b) parts.0 in
    let size : length (range b before (data_size b)) ≡ min (data_size b) (length b - before) = length-take (data_size b) (drop before b) ∙ ap (min (data_size b)) (length-drop before b) in
    record {
      below = omega arith;
      named = λ e. let w : 16 ≤ data_size b = names_whole (msg_at before start b).kind (data_size b) parts.1 e in omega arith;
    }

cons_listed : (limit : ℕ) (m : Msg) (r : Result (List Msg) HeaderError) → IsInside limit m → Listed limit r → Listed limit (and_then r (λ rest. Ok (m ∷ rest)))
cons_listed limit m (Ok ms) h g = All-cons (IsInside limit) m ms h g
cons_listed limit m (Err e) h g = g

pub msgs_listed : (fuel before start limit : ℕ) (b : List ℕ) → 4 ≤ before → (0 < length b → start + length b ≤ limit) → Listed limit (msgs_in fuel before start b)
unfolding msgs_in
msgs_listed zero before start limit b low h = All-nil (IsInside limit)
msgs_listed (suc fuel) before start limit b low h =
    elim (cases_lt (length b) before) [
      | inl short ↦ rw (msgs_in-gap (suc fuel) before start b short) (All-nil (IsInside limit))
      | inr long ↦
          let inside : start + length b ≤ limit = h (omega arith) in
          elim (cases_Bool (overruns before b)) [
            | inl over ↦ rw (msgs_in-overrun fuel before start b long over) (let k : start < limit = omega arith in k)
            | inr ends ↦
                let n = before + data_size b in
                let less : length (drop n b) ≡ length b - n = length-drop n b in
                rw (msgs_in-more fuel before start b long ends)
                (cons_listed limit (msg_at before start b) (msgs_in fuel before (start + n) (drop n b)) (first_inside before start limit b low long ends inside)
                (msgs_listed fuel before (start + n) limit (drop n b) low (λ some. omega arith)))
          ]
    ]

pub known_listed : (limit : ℕ) (refused : Option ℕ) (ms : List Msg) → All (IsInside limit) ms → Listed limit (unless_refused refused ms)
known_listed limit None ms h = h
known_listed limit (Some kind) ms h = tt

all_listed : (limit : ℕ) (r : Result (List Msg) HeaderError) → Listed limit r → Listed limit (and_then r all_known)
all_listed limit (Ok ms) h = known_listed limit (first_unknown 0x80 ms) ms h
all_listed limit (Err e) h = h

part_long : (b : List ℕ) (at n : ℕ) → 0 < length (range b at n) → at + length (range b at n) ≤ length b
part_long b at n h =
    let size : length (range b at n) ≡ min n (length b - at) = length-take n (drop at b) ∙ ap (min n) (length-drop at b) in
    omega arith

before_low : (tracked : Bool) → 4 ≤ before_data tracked
before_low true = omega arith
before_low false = omega arith

-- none of the tests is refused as a message that passes the end
abbrev NoOverrun : ℕ → List (Bool × HeaderError) → Type 0
NoOverrun limit [] = Unit {0}
NoOverrun limit (t ∷ ts) = OverrunBelow limit t.1 × NoOverrun limit ts

-- a refusal is not that of a message that passes the end, unless it begins below a place
abbrev Below : {A : Type 0} → ℕ → Result A HeaderError → Type 0
Below limit (Ok x) = Unit {0}
Below limit (Err e) = OverrunBelow limit e

tested_below : {A : Type 0} (limit : ℕ) (tests : List (Bool × HeaderError)) (x : A) → NoOverrun limit tests → Below limit (checked tests x)
tested_below limit [] x h = tt
tested_below limit ((true, e) ∷ tests) x h = tested_below limit tests x h.1
tested_below limit ((false, e) ∷ tests) x h = h.0

next_below : {A B : Type 0} (limit : ℕ) (r : Result A HeaderError) (f : A → Result B HeaderError) → Below limit r → ((x : A) → Below limit (f x)) → Below limit (and_then r f)
next_below limit (Ok x) f h g = g x
next_below limit (Err e) f h g = h

next_listed : {A : Type 0} (limit : ℕ) (r : Result A HeaderError) (f : A → Result (List Msg) HeaderError) → Below limit r → ((x : A) → Listed limit (f x)) → Listed limit (and_then r f)
next_listed limit (Ok x) f h g = g x
next_listed limit (Err e) f h g = h

header_below : (b : List ℕ) → Below (length b) (header_at b)
unfolding header_at prefix_at
header_below b =
    next_below (length b) (checked (prefix_tests b) (prefix_fields b)) (λ p. checked (header_tests b p) p)
    (tested_below (length b) (prefix_tests b) (prefix_fields b) (tt, (tt, (tt, (tt, tt)))))
    (λ p. tested_below (length b) (header_tests b p) p (tt, (tt, tt)))

pub prefix_never : (b : List ℕ) (e : HeaderError) → prefix_at b ≡ Err e → OverrunBelow 0 e
unfolding prefix_at
prefix_never b e h = subst (Below 0) h (tested_below 0 (prefix_tests b) (prefix_fields b) (tt, (tt, (tt, (tt, tt)))))

pub messages_listed : (b : List ℕ) → Listed (length b) (messages_at b)
unfolding messages_at
messages_listed b =
    next_listed (length b) (header_at b) (λ p. and_then (msgs_in p.len (before_data p.tracked) p.at (inside_of b p)) all_known) (header_below b)
    (λ p. all_listed (length b) (msgs_in p.len (before_data p.tracked) p.at (inside_of b p))
    (msgs_listed p.len (before_data p.tracked) p.at (length b) (inside_of b p) (before_low p.tracked) (part_long b p.at p.len)))

pub block_listed : (tracked : Bool) (b : List ℕ) → Listed (length b) (block_at tracked b)
unfolding block_at
block_listed tracked b =
    next_listed (length b) (whole_block b) (λ _. and_then (msgs_in (length b - 8) (before_data tracked) 4 (inside_block b)) all_known)
    (tested_below (length b) (block_tests b) tt (tt, (tt, (tt, tt))))
    (λ _. all_listed (length b) (msgs_in (length b - 8) (before_data tracked) 4 (inside_block b))
    (msgs_listed (length b - 8) (before_data tracked) 4 (length b) (inside_block b) (before_low tracked) (part_long b 4 (length b - 8))))

-- what a decoder answered lists messages as what is said does
pub listed_given : (limit : ℕ) (r said : Result (List Msg) HeaderError) → (r ≡ said) ⊎ (r ≡ Err OutOfMemory) → Listed limit said → Listed limit r
listed_given limit r said (inl e) h = rw e h
listed_given limit r said (inr e) h = rw e tt

pub listed_ok : (limit : ℕ) (r said : Result (List Msg) HeaderError) (ms : List Msg) → (r ≡ said) ⊎ (r ≡ Err OutOfMemory) → Listed limit said → r ≡ Ok ms → All (IsInside limit) ms
listed_ok limit r said ms g h e = subst (Listed limit) e (listed_given limit r said g h)

pub listed_err : (limit : ℕ) (r said : Result (List Msg) HeaderError) (f : HeaderError) → (r ≡ said) ⊎ (r ≡ Err OutOfMemory) → Listed limit said → r ≡ Err f → OverrunBelow limit f
listed_err limit r said f g h e = subst (Listed limit) e (listed_given limit r said g h)

pub stack_push : (fs : List FoundMessage) (f : FoundMessage) → stack (fs ++ f ∷ []) ≡ found_of f ∷ stack fs
stack_push fs f = ap reverse (map-append found_of fs (f ∷ [])) ∙ reverse-append (map found_of fs) (found_of f ∷ [])

pub founds_push : (fs : List FoundMessage) (f : FoundMessage) → founds (fs ++ f ∷ []) ≡ founds fs ++ found_of f ∷ []
founds_push fs f = map-append found_of fs (f ∷ [])
