-- The walk over messages, step by step.
use Rattle.std.proofs.Common.{◌≡◌, ℕ, ◌+◌, ◌-◌, ◌<◌, ◌≤◌, true, cond, eqb, List, [], ◌∷◌, length, take, drop, Option, Some, None, Result, Ok, Err, refl, ap, sym, ◌∙◌, arith}
use Rattle.std.specs.List.{find}
use Rattle.std.proofs.lemmas.Bool.{eq-eqb, ne_eqb}
use Rattle.std.proofs.lemmas.List.{drop-take, take_all, length-take}
use Rattle.h5w_model.specs.Headers.{and_then, data_size, msg_at, overruns, msgs_in}
use Rattle.h5w_model.specs.declared.message.Msg.{Msg}
use Rattle.h5w_model.specs.declared.refusal.HeaderError.{HeaderError}
use Rattle.h5w_model.proofs.HeaderLemmas.{msgs_in-gap, msgs_in-first, msgs_in-first_overruns}
use Rattle.h5w_ohdr.specs.Walk.{HasMessage}

abbrev answered : {A : Type 0} → A → Result A HeaderError
answered x = Ok x

ok_is : {A : Type 0} (x y : A) → answered x ≡ answered y → x ≡ y
ok_is x y e = cc

-- the messages behind the first
rest_of : (r : Result (List Msg) HeaderError) (m : Msg) (ms : List Msg) → and_then r (λ rest. Ok (m ∷ rest)) ≡ Ok ms → (rest : List Msg) × (r ≡ Ok rest) × (ms ≡ m ∷ rest)
rest_of (Ok rest) m ms e = (rest, refl, sym (ok_is (m ∷ rest) ms e))
rest_of (Err f) m ms e = absurd cc

-- what stands at the front of the rest of the bytes, and behind it
pub at_front : (before place : ℕ) (b : List ℕ) (kind flags size : ℕ) (ms : List Msg) → 4 ≤ before → HasMessage before b kind flags size → msgs_in (length b) before place b ≡ Ok ms
    → (rest : List Msg) × (msgs_in (length (drop (before + size) b)) before (place + (before + size)) (drop (before + size) b) ≡ Ok rest) × (ms ≡ msg_at before place b ∷ rest)
at_front before place b kind flags size ms low h e =
    let first = msgs_in-first before place b (omega arith) h.long h.whole in
    rw (h.size_is) (rest_of (msgs_in (length (drop (before + data_size b) b)) before (place + (before + data_size b)) (drop (before + data_size b) b)) (msg_at before place b) ms (sym first ∙ e))

abbrev first_in : ℕ → List Msg → Option Msg
first_in kind ms = find (λ m. eqb m.kind kind) ms

-- up to here no message had the type: the first of all is the first of the rest
pub record SoughtFrom (before start kind : ℕ) (b : List ℕ) (place : ℕ) (rest : List ℕ) : Type 0 where
  pub same : (ms : List Msg) → msgs_in (length b) before start b ≡ Ok ms → (more : List Msg) × (msgs_in (length rest) before place rest ≡ Ok more) × (find (λ m. eqb m.kind kind) ms ≡ find (λ m. eqb m.kind kind) more)

pub sought_more : (before start kind : ℕ) (b : List ℕ) (place : ℕ) (rest after : List ℕ) (next k f s : ℕ) → 4 ≤ before → HasMessage before rest k f s → (k ≡ kind → ⊥) → after ≡ drop (before + s) rest → next ≡ place + (before + s)
    → SoughtFrom before start kind b place rest → SoughtFrom before start kind b next after
sought_more before start kind b place rest after next k f s low h other a n so_far = record {
  same = λ ms e.
      let found = so_far.same ms e in
      let front = at_front before place rest k f s found.0 low h found.1 in
      let skipped : first_in kind found.0 ≡ first_in kind front.0 = ap (first_in kind) front.2 ∙ ap (λ t. cond t (Some (msg_at before place rest)) (first_in kind front.0)) (ne_eqb (msg_at before place rest).kind kind (λ is. other (h.kind_is ∙ is))) in
      (front.0, rw (a, n) front.1, found.2 ∙ skipped);
}

pub sought_found : (before start kind : ℕ) (b : List ℕ) (place : ℕ) (rest : List ℕ) (k f s : ℕ) → 4 ≤ before → HasMessage before rest k f s → k ≡ kind → SoughtFrom before start kind b place rest
    → (ms : List Msg) → msgs_in (length b) before start b ≡ Ok ms → first_in kind ms ≡ Some (msg_at before place rest)
sought_found before start kind b place rest k f s low h is so_far ms e =
    let found = so_far.same ms e in
    let front = at_front before place rest k f s found.0 low h found.1 in
    found.2 ∙ ap (first_in kind) front.2 ∙ ap (λ t. cond t (Some (msg_at before place rest)) (first_in kind front.0)) (eq-eqb (msg_at before place rest).kind kind (sym h.kind_is ∙ is))

pub sought_none : (before start kind : ℕ) (b : List ℕ) (place : ℕ) (rest : List ℕ) → length rest < before → SoughtFrom before start kind b place rest
    → (ms : List Msg) → msgs_in (length b) before start b ≡ Ok ms → first_in kind ms ≡ None
sought_none before start kind b place rest gap so_far ms e =
    let found = so_far.same ms e in
    let nothing = ok_is [] found.0 (sym (msgs_in-gap (length rest) before place rest gap) ∙ found.1) in
    found.2 ∙ ap (first_in kind) (sym nothing)

pub sought_overrun : (before start kind : ℕ) (b : List ℕ) (place : ℕ) (rest : List ℕ) → 4 ≤ before → before ≤ length rest → overruns before rest ≡ true → SoughtFrom before start kind b place rest
    → (ms : List Msg) → msgs_in (length b) before start b ≡ Ok ms → ⊥
sought_overrun before start kind b place rest low long over so_far ms e =
    let found = so_far.same ms e in
    let refused = msgs_in-first_overruns before place rest (omega arith) long over in
    cc

-- the data of a message that was cut off
pub body_of : (before size : ℕ) (rest message : List ℕ) → message ≡ take (before + size) rest → length message ≡ before + size → take (length message - before) (drop before message) ≡ take size (drop before rest)
body_of before size rest message m len =
    let n : length message - before ≡ size = omega arith in
    rw (n, m) (rw (drop-take before size rest) (take_all size (take size (drop before rest)) (omega (arith, length-take size (drop before rest)))))
