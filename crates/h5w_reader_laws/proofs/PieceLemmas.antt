-- A range in looks of at most 512 bytes at images that change: what lies within one of the looks is as in its image.
use Rattle.std.proofs.Common.{◌≡◌, ℕ, zero, suc, ◌+◌, ◌-◌, ◌*◌, ◌/◌, ◌^◌, ◌<◌, ◌≤◌, min, cond, List, [], ◌∷◌, ◌++◌, length, take, drop, refl, sym, ◌∙◌, ap, subst, arith, length-append, length-drop}
use Rattle.std.specs.Prelude.{◌==◌}
use Rattle.std.proofs.lemmas.Bool.{cond-true, eq-eqb}
use Rattle.std.proofs.lemmas.List.{append_assoc, append-nil, take-append-le, drop-append-le}
use Rattle.std.proofs.Math.Seq.{drop-append-add}
use Rattle.h5w_model.specs.Numbers.{range}
use Rattle.h5w_model.specs.Programs.{Prog, look_pieces, cut_up, below_end, Takes}
use Rattle.h5w_model.specs.Logs.{Log, hist}
use Rattle.h5w_model.specs.Prefixed.{image_at}
use Rattle.h5w_model.specs.Readers.{Placed, IsCall, looks_of}
use Rattle.h5w_laws.proofs.LookLemmas.{takes_whole}
use Rattle.h5w_laws.proofs.LoweringLemmas.{length_range, range_part}
use Rattle.h5w_reader_laws.proofs.LookLemmas.{call_earlier}

-- some bytes of a range are as in the image at a position
pub record IsAsAt (log : Log) (from place : ℕ) (bytes : List ℕ) (o n : ℕ) : Type 0 where
  pub at : ℕ
  pub low : from ≤ at
  pub high : at ≤ length (hist log.events)
  pub is : range bytes o n ≡ range (image_at log at) (place + o) n

-- The bytes of a range, and the looks behind it.
pub record PiecesRead (A : Type 0) (log : Log) (from place len : ℕ) (next : List ℕ → Prog A) (got : List ℕ) (a : A) : Type 0 where
  pub bytes : List ℕ
  pub full : length bytes ≡ len
  pub parts : (k o n : ℕ) → 0 < n → 512 * k ≤ o → o + n ≤ 512 * k + 512 → o + n ≤ len → IsAsAt log from place bytes o n
  pub rest : List Placed
  pub call : IsCall log from rest
  pub takes : Takes (next (got ++ bytes)) (looks_of rest) a

-- no image ends before the range does
abbrev pub HasRange : Log → ℕ → ℕ → ℕ → Type 0
HasRange log from place len = (u : ℕ) → from ≤ u → u ≤ length (hist log.events) → place + len ≤ length (image_at log u)

none_read : {A : Type 0} (log : Log) (from place : ℕ) (got : List ℕ) (next : List ℕ → Prog A) (ts : List Placed) (a : A) → IsCall log from ts
    → Takes (next got) (looks_of ts) a → PiecesRead A log from place 0 next got a
none_read {A} log from place got next ts a call takes =
    record {
      bytes = [];
      full = refl;
      parts = λ k o n some low high within. absurd (omega arith);
      rest = ts;
      call = call;
      takes = subst (λ (b : List ℕ). Takes (next b) (looks_of ts) a) (sym (append-nil got)) takes;
    }

-- within the first piece
first_part : (b more : List ℕ) (o n : ℕ) → o + n ≤ length b → range (b ++ more) o n ≡ range b o n
first_part b more o n h =
    let l : length (drop o b) ≡ length b - o = length-drop o b in
    ap (take n) (drop-append-le o b more (omega arith)) ∙ take-append-le n (drop o b) more (omega arith)

-- behind it
later_part : (b more : List ℕ) (o n : ℕ) → length b ≤ o → range (b ++ more) o n ≡ range more (o - length b) n
later_part b more o n h =
    let e : length b + (o - length b) ≡ o = omega arith in
    ap (λ m. range (b ++ more) m n) (sym e) ∙ ap (take n) (drop-append-add b more (o - length b))

joined_parts : (log : Log) (from place len at : ℕ) (b more : List ℕ) → length b ≡ min 512 len → b ≡ range (image_at log at) place (min 512 len) → from ≤ at → at ≤ length (hist log.events)
    → ((k o n : ℕ) → 0 < n → 512 * k ≤ o → o + n ≤ 512 * k + 512 → o + n ≤ len - 512 → IsAsAt log from (place + 512) more o n)
    → (k o n : ℕ) → 0 < n → 512 * k ≤ o → o + n ≤ 512 * k + 512 → o + n ≤ len → IsAsAt log from place (b ++ more) o n
joined_parts log from place len at b more full is low high parts zero o n some begins ends within = record {
  at = at;
  low = low;
  high = high;
  is =
      first_part b more o n (omega arith) ∙ ap (λ (x : List ℕ). range x o n) is
      ∙ sym (range_part (image_at log at) place (min 512 len) o n (omega arith));
}
joined_parts log from place len at b more full is low high parts (suc k) o n some begins ends within =
    let whole_look : length b ≡ 512 = omega arith in
    let p = parts k (o - 512) n some (omega arith) (omega arith) (omega arith) in
    let place_is : place + 512 + (o - 512) ≡ place + o = omega arith in
    record {
      at = p.at;
      low = p.low;
      high = p.high;
      is =
          later_part b more o n (omega arith) ∙ ap (λ m. range more (o - m) n) whole_look
          ∙ p.is ∙ ap (λ m. range (image_at log p.at) m n) place_is;
    }

pieces_read : {A : Type 0} (log : Log) (from fuel place len : ℕ) (got : List ℕ) (next : List ℕ → Prog A) (ts : List Placed) (a : A) → len ≤ 512 * fuel → IsCall log from ts
    → (0 < len → HasRange log from place len) → Takes (look_pieces fuel place len got next) (looks_of ts) a → PiecesRead A log from place len next got a
pieces_read {A} log from zero place len got next ts a enough call has takes =
    let e : 0 ≡ len = omega arith in
    subst (λ n. PiecesRead A log from place n next got a) e (none_read log from place got next ts a call takes)
pieces_read log from (suc fuel) place zero got next ts a enough call has takes = none_read log from place got next ts a call takes
pieces_read log from (suc fuel) place (suc r) got next [] a enough call has takes = cc
pieces_read {A} log from (suc fuel) place (suc r) got next (t ∷ ts) a enough call has takes =
    let len : ℕ = suc r in
    let m : ℕ = min 512 len in
    let img : List ℕ = image_at log t.position in
    let onward : List ℕ → Prog A = λ b. cond (length b == m) (look_pieces fuel (place + 512) (len - 512) (got ++ b) next) (next (got ++ b)) in
    let now = takes_whole place m onward t.look (looks_of ts) a takes in
    let b : List ℕ = t.look.bytes in
    let is : b ≡ range img place m = call.2 ∙ ap (λ x. range img x t.look.len) now.0.0 ∙ ap (λ n. range img place n) now.0.1 in
    let there : place + len ≤ length img = has (omega arith) t.position call.0 call.1 in
    let full : length b ≡ m = ap length is ∙ length_range img place m ∙ (let e : min m (length img - place) ≡ m = omega arith in e) in
    let goes = subst (λ (q : Prog A). Takes q (looks_of ts) a) (cond-true (length b == m) (look_pieces fuel (place + 512) (len - 512) (got ++ b) next) (next (got ++ b)) (eq-eqb (length b) m full)) now.1 in
    let later = pieces_read log from fuel (place + 512) (len - 512) (got ++ b) next ts a (omega arith) (call_earlier log from t.position ts call.0 call.3)
    (λ some u low high. omega (arith, has (omega arith) u low high)) goes in
    record {
      bytes = b ++ later.bytes;
      full = length-append b later.bytes ∙ (let e : length b + length later.bytes ≡ len = omega (arith, full, later.full) in e);
      parts = joined_parts log from place len t.position b later.bytes full is call.0 call.1 later.parts;
      rest = later.rest;
      call = later.call;
      takes = subst (λ (x : List ℕ). Takes (next x) (looks_of later.rest) a) (append_assoc got b later.bytes) later.takes;
    }

-- the looks at a range that every image has
pub cut_read : {A : Type 0} (log : Log) (from place len : ℕ) (next : List ℕ → Prog A) (ts : List Placed) (a : A) → place + len ≤ 2 ^ 64 → IsCall log from ts
    → HasRange log from place len → Takes (cut_up place len next) (looks_of ts) a → PiecesRead A log from place len next [] a
cut_read {A} log from place len next ts a fits call has takes =
    let all : below_end place len ≡ len = omega arith in
    pieces_read log from (len / 512 + 1) place len [] next ts a (omega arith) call (λ some. has)
    (subst (λ n. Takes (look_pieces (n / 512 + 1) place n [] next) (looks_of ts) a) all takes)
