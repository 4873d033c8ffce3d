-- Headers that are put together, and the walk over messages.
use Rattle.std.proofs.Common.{◌≡◌, ℕ, zero, suc, ◌+◌, ◌-◌, ◌^◌, ◌<◌, ◌≤◌, Bool, true, false, not, ◌&&◌, ◌||◌, cond, eqb, ltb, leb, List, [], ◌∷◌, ◌++◌, length, take, drop, Option, Some, None, Result, Ok, Err, refl, ap, sym, subst, ◌∙◌, arith, lit<, lit≤, inl, inr}
use Rattle.std.specs.List.{list_all, sum_by}
use Rattle.std.proofs.lemmas.Bool.{cases_lt, cases_Bool, lt-ltb, le-ltb, leb-true}
use Rattle.std.proofs.lemmas.List.{take_at, drop_at, length-append, length-drop, length-take, drop-drop}
use Rattle.h5w_model.specs.Numbers.{num, le, range, field}
use Rattle.h5w_model.specs.Headers.{and_then, data_size, msg_at, size_width, header_signature, overruns, msgs_in, continuation_kind, msg_bytes, msgs_bytes, prefix_bytes, header_bytes, placed, names_block, all_known, unless_refused, first_unknown, header_length, prefix_at, prefix_fields, prefix_tests, header_tests, end_of, header_at, inside_of, messages_at, before_data, with_number}
use Rattle.h5w_model.specs.Checked.{checked}
use Rattle.h5w_model.specs.declared.message.Msg.{Msg}
use Rattle.h5w_model.specs.declared.message.Prefix.{Prefix}
use Rattle.h5w_model.specs.declared.refusal.HeaderError.TheVariants.{Overrun}
use Rattle.std.specs.Prelude.{bit_and}
use Rattle.std.proofs.Math.Pow.{pow_mono}
use Rattle.std.proofs.lemmas.Nat.{and_le_r}
use Rattle.std.specs.Cmp.{first_so, second_so}
use Rattle.std.proofs.lemmas.List.Sums.{sum_by-cons}
use Rattle.h5w_model.specs.Checksum.{is_sealed}
use Rattle.h5w_model.proofs.CheckedLemmas.{checked-passed}
use Rattle.h5w_model.proofs.ChecksumLemmas.{length-sealed_block}
use Rattle.h5w_model.proofs.NumberLemmas.{num-le, num-one, length-le}

-- ---- What stands before the messages

-- the size of chunk 0 takes 1 to 8 bytes
pub size_width-within : (flags : ℕ) → (1 ≤ size_width flags) × (size_width flags ≤ 8)
size_width-within flags =
    let low : 2 ^ 0 ≤ 2 ^ bit_and flags 3 = pow_mono {i = 0} {j = bit_and flags 3} (omega arith) in
    let high : 2 ^ bit_and flags 3 ≤ 2 ^ 3 = pow_mono {i = bit_and flags 3} {j = 3} (and_le_r flags 3) in
    (omega arith, omega arith)

-- written, they take 7 bytes or 8
pub length-prefix_bytes : (size : ℕ) → (7 ≤ length (prefix_bytes size)) × (length (prefix_bytes size) ≤ 8)
unfolding le prefix_bytes
length-prefix_bytes size =
    elim (leb size 255) as (λ b. (7 ≤ length (header_signature ++ 2 ∷ cond b (0 ∷ le 1 size) (1 ∷ le 2 size))) × (length (header_signature ++ 2 ∷ cond b (0 ∷ le 1 size) (1 ∷ le 2 size)) ≤ 8)) [
      | true ↦ (lit≤ tt, lit≤ tt)
      | false ↦ (lit≤ tt, lit≤ tt)
    ]

pub length-msg_bytes : (m : Msg) (c : List ℕ) → length (msg_bytes m ++ c) ≡ 4 + (length m.body + length c)
unfolding le
length-msg_bytes m c = omega (arith, length-append m.body c)

-- how many bytes a message takes
pub length-one_msg : (m : Msg) → length (msg_bytes m) ≡ 4 + length m.body
unfolding le
length-one_msg m = omega arith

-- how many bytes messages take
pub length-msgs_bytes : (ms : List Msg) → length (msgs_bytes ms) ≡ sum_by (λ m. 4 + length m.body) ms
length-msgs_bytes [] = refl
length-msgs_bytes (m ∷ ms) =
    let rest = length-msgs_bytes ms in
    omega (arith, length-msg_bytes m (msgs_bytes ms), sum_by-cons (λ (n : Msg). 4 + length n.body) m ms)

-- how many bytes chunk 0 takes
pub length-header_bytes : (ms : List Msg) → length (header_bytes ms) ≡ length (prefix_bytes (length (msgs_bytes ms))) + length (msgs_bytes ms) + 4
unfolding header_bytes
length-header_bytes ms = omega (arith, length-sealed_block (prefix_bytes (length (msgs_bytes ms)) ++ msgs_bytes ms), length-append (prefix_bytes (length (msgs_bytes ms))) (msgs_bytes ms))

-- ---- A step of the walk

-- what is too short for a message is the gap
pub msgs_in-gap : (fuel before place : ℕ) (b : List ℕ) → length b < before → msgs_in fuel before place b ≡ Ok []
unfolding msgs_in
msgs_in-gap zero before place b h = refl
msgs_in-gap (suc fuel) before place b h = rw (lt-ltb (length b) before h, msgs_in) refl

-- a message that passes the end is the refusal
pub msgs_in-overrun : (fuel before place : ℕ) (b : List ℕ) → before ≤ length b → overruns before b ≡ true → msgs_in (suc fuel) before place b ≡ Err (Overrun place)
unfolding msgs_in
msgs_in-overrun fuel before place b h o = rw (le-ltb (length b) before h, o, msgs_in) refl

-- any other is the first of the list
pub msgs_in-more : (fuel before place : ℕ) (b : List ℕ) → before ≤ length b → overruns before b ≡ false
    → msgs_in (suc fuel) before place b ≡ and_then (msgs_in fuel before (place + (before + data_size b)) (drop (before + data_size b) b)) (λ rest. Ok (msg_at before place b ∷ rest))
unfolding msgs_in
msgs_in-more fuel before place b h o = rw (le-ltb (length b) before h, o, msgs_in) refl

-- more fuel than bytes changes nothing
pub msgs_in-enough : (f g before place : ℕ) (b : List ℕ) → 0 < before → length b ≤ f → length b ≤ g → msgs_in f before place b ≡ msgs_in g before place b
msgs_in-enough zero g before place b k hf hg = msgs_in-gap zero before place b (omega arith) ∙ sym (msgs_in-gap g before place b (omega arith))
msgs_in-enough (suc f) zero before place b k hf hg = msgs_in-gap (suc f) before place b (omega arith) ∙ sym (msgs_in-gap zero before place b (omega arith))
msgs_in-enough (suc f) (suc g) before place b k hf hg =
    elim (cases_lt (length b) before) [
      | inl short ↦ msgs_in-gap (suc f) before place b short ∙ sym (msgs_in-gap (suc g) before place b short)
      | inr long ↦ elim (cases_Bool (overruns before b)) [
        | inl over ↦ msgs_in-overrun f before place b long over ∙ sym (msgs_in-overrun g before place b long over)
        | inr ends ↦
            let less : length (drop (before + data_size b) b) + 1 ≤ length b = omega (arith, length-drop (before + data_size b) b) in
            let rest = msgs_in-enough f g before (place + (before + data_size b)) (drop (before + data_size b) b) k (omega arith) (omega arith) in
            msgs_in-more f before place b long ends
            ∙ ap (λ r. and_then r (λ rest. Ok (msg_at before place b ∷ rest))) rest
            ∙ sym (msgs_in-more g before place b long ends)
      ]
    ]

-- the first message and those behind it
pub msgs_in-first : (before place : ℕ) (b : List ℕ) → 0 < before → before ≤ length b → overruns before b ≡ false
    → msgs_in (length b) before place b
    ≡ and_then (msgs_in (length (drop (before + data_size b) b)) before (place + (before + data_size b)) (drop (before + data_size b) b)) (λ rest. Ok (msg_at before place b ∷ rest))
msgs_in-first before place b k long ends =
    let rest = drop (before + data_size b) b in
    let some : length b ≡ suc (length b - 1) = omega arith in
    let fuel = msgs_in-enough (length b - 1) (length rest) before (place + (before + data_size b)) rest k (omega (arith, length-drop (before + data_size b) b)) (omega arith) in
    ap (λ n. msgs_in n before place b) some
    ∙ msgs_in-more (length b - 1) before place b long ends
    ∙ ap (λ r. and_then r (λ rest. Ok (msg_at before place b ∷ rest))) fuel

-- a message that passes the end is the refusal of all
pub msgs_in-first_overruns : (before place : ℕ) (b : List ℕ) → 0 < before → before ≤ length b → overruns before b ≡ true → msgs_in (length b) before place b ≡ Err (Overrun place)
msgs_in-first_overruns before place b k long over =
    let some : length b ≡ suc (length b - 1) = omega arith in
    ap (λ n. msgs_in n before place b) some ∙ msgs_in-overrun (length b - 1) before place b long over

-- ---- What is written is walked over

-- the data size of a message as written
pub data_size-msg_bytes : (m : Msg) (c : List ℕ) → length m.body < 2 ^ 16 → data_size (msg_bytes m ++ c) ≡ length m.body
unfolding le num
data_size-msg_bytes m c h = num-le 2 (length m.body) h

pub overruns_not : (short continuation is : Bool) (len size : ℕ) → short ≡ false → continuation ≡ is → size ≡ len → (not is || leb 16 len) ≡ true → (short || (continuation && ltb size 16)) ≡ false
overruns_not short continuation true len size a e g k = rw (a, e, g) (le-ltb len 16 (leb-true 16 len k))
overruns_not short continuation false len size a e g k = rw (a, e) refl

pub range-msg_bytes : (m : Msg) (c : List ℕ) → range (msg_bytes m ++ c) 4 (length m.body) ≡ m.body
unfolding le
range-msg_bytes m c = take_at m.body c (length m.body) refl

pub flags-msg_bytes : (m : Msg) (c : List ℕ) → field (msg_bytes m ++ c) 3 1 ≡ m.flags
unfolding le
flags-msg_bytes m c = num-one m.flags

pub overruns-msg_bytes : (m : Msg) (c : List ℕ) → length m.body < 2 ^ 16 → names_block m ≡ true → overruns 4 (msg_bytes m ++ c) ≡ false
overruns-msg_bytes m c h k =
    let long : ltb (length (msg_bytes m ++ c)) (4 + length m.body) ≡ false = le-ltb (length (msg_bytes m ++ c)) (4 + length m.body) (omega (arith, length-msg_bytes m c)) in
    let size = data_size-msg_bytes m c h in
    let kind : field (msg_bytes m ++ c) 0 1 ≡ m.kind = num-one m.kind in
    overruns_not (ltb (length (msg_bytes m ++ c)) (4 + data_size (msg_bytes m ++ c))) (eqb (field (msg_bytes m ++ c) 0 1) continuation_kind) (eqb m.kind continuation_kind) (length m.body) (data_size (msg_bytes m ++ c))
    (rw size long) (ap (λ n. eqb n continuation_kind) kind) size k

pub drop-msg_bytes : (m : Msg) (c : List ℕ) → drop (4 + length m.body) (msg_bytes m ++ c) ≡ c
unfolding le
drop-msg_bytes m c = drop_at (msg_bytes m) c (4 + length m.body) (omega arith)

pub msg_at-msg_bytes : (m : Msg) (c : List ℕ) (place : ℕ) → length m.body < 2 ^ 16 → msg_at 4 place (msg_bytes m ++ c) ≡ record m { at = place }
msg_at-msg_bytes m c place h =
    let size = data_size-msg_bytes m c h in
    let body : range (msg_bytes m ++ c) 4 (length m.body) ≡ m.body = range-msg_bytes m c in
    let kind : field (msg_bytes m ++ c) 0 1 ≡ m.kind = num-one m.kind in
    let flags : field (msg_bytes m ++ c) 3 1 ≡ m.flags = flags-msg_bytes m c in
    rw (size, body, kind, flags) refl

-- the messages are those that were written, each at its place
pub msgs_in-msgs_bytes : (ms : List Msg) (fuel place : ℕ) → length (msgs_bytes ms) ≤ fuel → length (msgs_bytes ms) < 2 ^ 16 → list_all names_block ms ≡ true → msgs_in fuel 4 place (msgs_bytes ms) ≡ Ok (placed place ms)
msgs_in-msgs_bytes [] fuel place f h k = msgs_in-gap fuel 4 place [] (lit< tt)
msgs_in-msgs_bytes (m ∷ ms) zero place f h k = absurd (omega (arith, length-msg_bytes m (msgs_bytes ms)))
msgs_in-msgs_bytes (m ∷ ms) (suc fuel) place f h k =
    let len = length-msg_bytes m (msgs_bytes ms) in
    let small : length m.body < 2 ^ 16 = omega arith in
    let size = data_size-msg_bytes m (msgs_bytes ms) small in
    let rest = msgs_in-msgs_bytes ms fuel (place + (4 + length m.body)) (omega arith) (omega arith) (second_so (names_block m) (list_all names_block ms) k) in
    msgs_in-more fuel 4 place (msg_bytes m ++ msgs_bytes ms) (omega arith) (overruns-msg_bytes m (msgs_bytes ms) small (first_so (names_block m) (list_all names_block ms) k))
    ∙ rw (msg_at-msg_bytes m (msgs_bytes ms) place small, size, drop-msg_bytes m (msgs_bytes ms), rest) refl

-- ---- What the messages of a header say of its bytes

-- the step before gave something, and the next gave this
pub and_then-ok : {E A B : Type 0} (r : Result A E) (next : A → Result B E) (y : B) → and_then r next ≡ Ok y → (x : A) × (r ≡ Ok x) × (next x ≡ Ok y)
and_then-ok (Ok x) next y e = (x, refl, e)
and_then-ok (Err f) next y e = absurd cc

-- messages that are known are these
pub unless_refused-same : (refused : Option ℕ) (ms known : List Msg) → unless_refused refused ms ≡ Ok known → ms ≡ known
unless_refused-same None ms known e = cc
unless_refused-same (Some kind) ms known e = absurd cc

pub all_known-same : (ms known : List Msg) → all_known ms ≡ Ok known → ms ≡ known
all_known-same ms known e = unless_refused-same (first_unknown 0x80 ms) ms known e

-- a whole header, and what stands before its messages
pub record IsWhole (b : List ℕ) (p : Prefix) : Type 0 where
  pub prefix : prefix_at b ≡ Ok p
  pub fields : p ≡ prefix_fields b
  pub end : end_of p ≡ header_length b
  pub long : end_of p ≤ length b
  pub sealed : is_sealed (take (end_of p) b) ≡ true

pub header_at-ok : (b : List ℕ) (p : Prefix) → header_at b ≡ Ok p → IsWhole b p
unfolding header_at prefix_at
header_at-ok b p e =
    let one = and_then-ok (prefix_at b) (λ q. checked (header_tests b q) q) p e in
    let prefix = checked-passed (prefix_tests b) (prefix_fields b) one.0 one.1 in
    let whole = checked-passed (header_tests b one.0) one.0 p one.2 in
    let IsLong = λ (q : Prefix). end_of q ≤ length b in
    let IsSealed = λ (q : Prefix). is_sealed (take (end_of q) b) ≡ true in
    record {
      prefix = one.1 ∙ ap (λ q. Ok q) whole.1;
      fields = sym (prefix.1 ∙ whole.1);
      end = sym (ap end_of (prefix.1 ∙ whole.1));
      long = subst IsLong whole.1 (leb-true (end_of one.0) (length b) whole.0.0);
      sealed = subst IsSealed whole.1 whole.0.1.0;
    }

-- a header that is read
pub record IsHeader (b : List ℕ) (ms : List Msg) (p : Prefix) : Type 0 where
  pub header : header_at b ≡ Ok p
  pub whole : IsWhole b p
  pub listed : msgs_in p.len (before_data p.tracked) p.at (inside_of b p) ≡ Ok ms
  pub known : all_known ms ≡ Ok ms

pub messages_at-ok : (b : List ℕ) (ms : List Msg) → messages_at b ≡ Ok ms → (p : Prefix) × IsHeader b ms p
unfolding messages_at
messages_at-ok b ms e =
    let one = and_then-ok (header_at b) (λ p. and_then (msgs_in p.len (before_data p.tracked) p.at (inside_of b p)) all_known) ms e in
    let two = and_then-ok (msgs_in one.0.len (before_data one.0.tracked) one.0.at (inside_of b one.0)) all_known ms one.2 in
    let same = all_known-same two.0 ms two.2 in (
      one.0,
      record {
        header = one.1;
        whole = header_at-ok b one.0 one.1;
        listed = two.1 ∙ ap (λ ms. Ok ms) same;
        known = rw (← same) (two.2 ∙ ap (λ ms. Ok ms) (sym same));
      },
    )

-- ---- Numbers that are changed in a header

pub length-with_number : (b : List ℕ) (place number : ℕ) → place + 8 ≤ length b → length (with_number b place number) ≡ length b
length-with_number b place number h =
    omega (arith, length-append (take place b ++ le 8 number) (drop (place + 8) b), length-append (take place b) (le 8 number), length-take place b, length-le 8 number, length-drop (place + 8) b)

-- what stands behind such a number stays
pub drop-with_number : (b : List ℕ) (place number n : ℕ) → place + 8 ≤ n → place + 8 ≤ length b → drop n (with_number b place number) ≡ drop n b
drop-with_number b place number n h long =
    let front : length (take place b ++ le 8 number) ≡ place + 8 = omega (arith, length-append (take place b) (le 8 number), length-take place b, length-le 8 number) in
    let split : n ≡ (place + 8) + (n - (place + 8)) = omega arith in
    ap (λ k. drop k (with_number b place number)) split
    ∙ sym (drop-drop (n - (place + 8)) (place + 8) (with_number b place number))
    ∙ ap (drop (n - (place + 8))) (drop_at (take place b ++ le 8 number) (drop (place + 8) b) (place + 8) front)
    ∙ drop-drop (n - (place + 8)) (place + 8) b
    ∙ ap (λ k. drop k b) (sym split)
