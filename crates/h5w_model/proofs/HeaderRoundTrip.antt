-- What is written as chunk 0 is read again, whatever follows it.
use Rattle.std.proofs.Common.{◌≡◌, ℕ, ◌+◌, ◌-◌, ◌%◌, ◌/◌, ◌*◌, ◌^◌, ◌<◌, ◌≤◌, min, Bool, true, false, not, ◌&&◌, cond, leb, List, [], ◌∷◌, ◌++◌, length, take, drop, Option, Some, None, Ok, refl, ap, sym, ◌∙◌, append_assoc, arith, inl, inr}
use Rattle.std.specs.List.{find}
use Rattle.std.specs.Option.{option_map}
use Rattle.std.proofs.lemmas.Bool.{cases_Bool, le-leb, leb-true}
use Rattle.std.proofs.lemmas.List.{take_at, drop_at, length-append}
use Rattle.h5w_model.specs.Numbers.{num, le}
use Rattle.h5w_model.specs.Checked.{checked}
use Rattle.h5w_model.specs.Checksum.{is_sealed, sum_of}
use Rattle.h5w_model.specs.Headers.{and_then, prefix_at, prefix_tests, prefix_fields, header_tests, header_at, end_of, inside_of, messages_at, header_signature, all_known, unless_refused, first_unknown, is_known, has, msgs_bytes, prefix_bytes, header_bytes, placed, AreReadable, header_messages}
use Rattle.h5w_model.specs.declared.message.Msg.{Msg}
use Rattle.h5w_model.specs.declared.message.Prefix.{Prefix}
use Rattle.h5w_model.proofs.CheckedLemmas.{checked-ok}
use Rattle.h5w_model.proofs.ChecksumLemmas.{is_sealed-sealed_block}
use Rattle.h5w_model.proofs.HeaderLemmas.{msgs_in-msgs_bytes, length-header_bytes}

-- what stands before messages of so many bytes
abbrev pub written_prefix : ℕ → Prefix
written_prefix size = record { total = length (prefix_bytes size) + size + 4; at = length (prefix_bytes size); len = size; tracked = false }

pub small_prefix : (size : ℕ) (rest : List ℕ) → size ≤ 255 → prefix_at (header_signature ++ 2 ∷ 0 ∷ le 1 size ++ rest) ≡ Ok (record { total = 7 + size + 4; at = 7; len = size; tracked = false })
unfolding prefix_at le num
small_prefix size rest h =
    let b = header_signature ++ 2 ∷ 0 ∷ le 1 size ++ rest in
    let n : size % 256 + 256 * 0 ≡ size = omega arith in
    let t : min (7 + size + 4) (2 ^ 64 - 1) ≡ 7 + size + 4 = omega arith in
    checked-ok (prefix_tests b) (prefix_fields b) (le-leb 6 (length b) (omega arith), (refl, (refl, (le-leb 7 (length b) (omega arith), tt))))
    ∙ rw (n, t) refl

pub large_prefix : (size : ℕ) (rest : List ℕ) → size < 2 ^ 16 → prefix_at (header_signature ++ 2 ∷ 1 ∷ le 2 size ++ rest) ≡ Ok (record { total = 8 + size + 4; at = 8; len = size; tracked = false })
unfolding prefix_at le num
large_prefix size rest h =
    let b = header_signature ++ 2 ∷ 1 ∷ le 2 size ++ rest in
    let n : size % 256 + 256 * (size / 256 % 256 + 256 * 0) ≡ size = omega arith in
    let t : min (8 + size + 4) (2 ^ 64 - 1) ≡ 8 + size + 4 = omega arith in
    checked-ok (prefix_tests b) (prefix_fields b) (le-leb 6 (length b) (omega arith), (refl, (refl, (le-leb 8 (length b) (omega arith), tt))))
    ∙ rw (n, t) refl

pub prefix_bytes-small : (size : ℕ) → leb size 255 ≡ true → prefix_bytes size ≡ header_signature ++ 2 ∷ 0 ∷ le 1 size
unfolding prefix_bytes
prefix_bytes-small size e = rw e refl

pub prefix_bytes-large : (size : ℕ) → leb size 255 ≡ false → prefix_bytes size ≡ header_signature ++ 2 ∷ 1 ∷ le 2 size
unfolding prefix_bytes
prefix_bytes-large size e = rw e refl

-- it is read back, with how much is to follow
pub prefix_at-written : (size : ℕ) (rest : List ℕ) → size < 2 ^ 16 → prefix_at (prefix_bytes size ++ rest) ≡ Ok (written_prefix size)
unfolding le
prefix_at-written size rest h =
    elim (cases_Bool (leb size 255)) [
      | inl e ↦ rw (prefix_bytes-small size e) (small_prefix size rest (leb-true size 255 e))
      | inr e ↦ rw (prefix_bytes-large size e) (large_prefix size rest h)
    ]

-- ---- The whole header

pub regroup : (a b c d : List ℕ) → ((a ++ b) ++ c) ++ d ≡ a ++ (b ++ (c ++ d))
regroup a b c d = simp append_assoc

-- the messages and what follows them
abbrev pub behind_prefix : List Msg → List ℕ → List ℕ
behind_prefix ms c = msgs_bytes ms ++ (le 4 (sum_of (prefix_bytes (length (msgs_bytes ms)) ++ msgs_bytes ms)) ++ c)

pub regrouped : (ms : List Msg) (c : List ℕ) → header_bytes ms ++ c ≡ prefix_bytes (length (msgs_bytes ms)) ++ behind_prefix ms c
unfolding header_bytes
regrouped ms c = regroup (prefix_bytes (length (msgs_bytes ms))) (msgs_bytes ms) (le 4 (sum_of (prefix_bytes (length (msgs_bytes ms)) ++ msgs_bytes ms))) c

pub sealed_header : (ms : List Msg) → is_sealed (header_bytes ms) ≡ true
unfolding header_bytes
sealed_header ms = is_sealed-sealed_block (prefix_bytes (length (msgs_bytes ms)) ++ msgs_bytes ms)

-- it is whole and sealed
pub header_at-written : (ms : List Msg) (c : List ℕ) → length (msgs_bytes ms) < 2 ^ 16 → header_at (header_bytes ms ++ c) ≡ Ok (written_prefix (length (msgs_bytes ms)))
unfolding header_at
header_at-written ms c h =
    let size = length (msgs_bytes ms) in
    let p = written_prefix size in
    let b = header_bytes ms ++ c in
    let whole : end_of p ≡ length (header_bytes ms) = sym (length-header_bytes ms) in
    let long : end_of p ≤ length b = omega (arith, length-append (header_bytes ms) c) in
    let cut : take (end_of p) b ≡ header_bytes ms = take_at (header_bytes ms) c (end_of p) (sym whole) in
    let sealed : is_sealed (take (end_of p) b) ≡ true = ap is_sealed cut ∙ sealed_header ms in
    ap (λ r. and_then r (λ q. checked (header_tests b q) q)) (ap prefix_at (regrouped ms c) ∙ prefix_at-written size (behind_prefix ms c) h)
    ∙ checked-ok (header_tests b p) p (le-leb (end_of p) (length b) long, (sealed, tt))

-- its messages are cut off
pub inside_of-written : (ms : List Msg) (c : List ℕ) → inside_of (header_bytes ms ++ c) (written_prefix (length (msgs_bytes ms))) ≡ msgs_bytes ms
inside_of-written ms c =
    let size = length (msgs_bytes ms) in
    ap (λ b. take size (drop (length (prefix_bytes size)) b)) (regrouped ms c)
    ∙ ap (take size) (drop_at (prefix_bytes size) (behind_prefix ms c) (length (prefix_bytes size)) refl)
    ∙ take_at (msgs_bytes ms) (le 4 (sum_of (prefix_bytes size ++ msgs_bytes ms)) ++ c) size refl

-- places say nothing of what is known
pub kind_of : (tested : Bool) (one other : Msg) (first rest : Option Msg) → one.kind ≡ other.kind → option_map (λ m. m.kind) first ≡ option_map (λ m. m.kind) rest
    → option_map (λ m. m.kind) (cond tested (Some one) first) ≡ option_map (λ m. m.kind) (cond tested (Some other) rest)
kind_of true one other first rest e r = ap (λ k. Some k) e
kind_of false one other first rest e r = r

pub first_unknown-placed : (bit place : ℕ) (ms : List Msg) → first_unknown bit (placed place ms) ≡ first_unknown bit ms
first_unknown-placed bit place [] = refl
first_unknown-placed bit place (m ∷ ms) =
    kind_of (not (is_known m.kind) && has m.flags bit) (record m { at = place }) m
    (find (λ m. not (is_known m.kind) && has m.flags bit) (placed (place + (4 + length m.body)) ms)) (find (λ m. not (is_known m.kind) && has m.flags bit) ms)
    refl (first_unknown-placed bit (place + (4 + length m.body)) ms)

pub none_refused : (refused : Option ℕ) (ms : List Msg) → unless_refused refused ms ≡ Ok ms → refused ≡ None
none_refused None ms e = refl
none_refused (Some kind) ms e = absurd cc

pub all_known-placed : (place : ℕ) (ms : List Msg) → all_known ms ≡ Ok ms → all_known (placed place ms) ≡ Ok (placed place ms)
all_known-placed place ms known = ap (λ o. unless_refused o (placed place ms)) (first_unknown-placed 0x80 place ms ∙ none_refused (first_unknown 0x80 ms) ms known)

-- the messages are those that were written, each at its place
pub messages_at-written : (ms : List Msg) (c : List ℕ) → length (msgs_bytes ms) < 2 ^ 16 → AreReadable ms → messages_at (header_bytes ms ++ c) ≡ Ok (header_messages ms)
unfolding messages_at
messages_at-written ms c h readable =
    let size = length (msgs_bytes ms) in
    let place = length (prefix_bytes size) in
    let listed = msgs_in-msgs_bytes ms size place (omega arith) h readable.complete in
    rw (header_at-written ms c h, inside_of-written ms c, listed) (all_known-placed place ms readable.known)
