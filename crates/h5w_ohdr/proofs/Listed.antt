-- The messages of some bytes, listed one after another.
use Rattle.std.proofs.Common.{◌≡◌, ℕ, ◌+◌, ◌<◌, ◌≤◌, true, List, [], ◌∷◌, ◌++◌, length, take, drop, Result, Ok, Err, refl, ap, sym, ◌∙◌, append_assoc, arith}
use Rattle.std.proofs.lemmas.List.{append-nil}
use Rattle.h5w_model.specs.Headers.{and_then, data_size, msg_at, overruns, msgs_in}
use Rattle.h5w_model.specs.declared.message.Msg.{Msg}
use Rattle.h5w_model.specs.declared.refusal.HeaderError.{HeaderError}
use Rattle.h5w_model.specs.declared.refusal.HeaderError.TheVariants.{Overrun}
use Rattle.h5w_model.proofs.HeaderLemmas.{msgs_in-gap, msgs_in-first, msgs_in-first_overruns}
use Rattle.h5w_ohdr.specs.Walk.{HasMessage}

-- what was listed before, and what is still to come
abbrev pub behind : List Msg → Result (List Msg) HeaderError → Result (List Msg) HeaderError
behind ms r = and_then r (λ more. Ok (ms ++ more))

-- up to here these were listed: with those of the rest they are all
pub record ListedTo (before start : ℕ) (b : List ℕ) (place : ℕ) (rest : List ℕ) (ms : List Msg) : Type 0 where
  pub all : behind ms (msgs_in (length rest) before place rest) ≡ msgs_in (length b) before start b

behind_more : (ms : List Msg) (m : Msg) (r : Result (List Msg) HeaderError) → behind ms (and_then r (λ rest. Ok (m ∷ rest))) ≡ behind (ms ++ m ∷ []) r
behind_more ms m (Ok rest) = ap (λ xs. Ok xs) (sym (append_assoc ms (m ∷ []) rest))
behind_more ms m (Err e) = refl

pub listed_more : (before start : ℕ) (b : List ℕ) (place : ℕ) (rest after : List ℕ) (next k f s : ℕ) (body : List ℕ) (ms : List Msg) → 4 ≤ before → HasMessage before rest k f s → after ≡ drop (before + s) rest → next ≡ place + (before + s) → body ≡ take s (drop before rest)
    → ListedTo before start b place rest ms → ListedTo before start b next after (ms ++ record { kind = k; flags = f; at = place; body = body } ∷ [])
listed_more before start b place rest after next k f s body ms low h a n t so_far =
    let step = msgs_in-first before place rest (omega arith) h.long h.whole in
    record {
      all =
          rw (a, n, t, h.kind_is, h.flags_are, h.size_is)
          (sym (behind_more ms (msg_at before place rest) (msgs_in (length (drop (before + data_size rest) rest)) before (place + (before + data_size rest)) (drop (before + data_size rest) rest)))
          ∙ ap (behind ms) (sym step) ∙ so_far.all);
    }

-- where the gap begins they are all
pub listed_gap : (before start : ℕ) (b : List ℕ) (place : ℕ) (rest : List ℕ) (ms : List Msg) → length rest < before → ListedTo before start b place rest ms → msgs_in (length b) before start b ≡ Ok ms
listed_gap before start b place rest ms gap so_far =
    sym so_far.all ∙ ap (behind ms) (msgs_in-gap (length rest) before place rest gap) ∙ ap (λ xs. Ok xs) (append-nil ms)

-- a message that passes the end refuses all
pub listed_overrun : (before start : ℕ) (b : List ℕ) (place : ℕ) (rest : List ℕ) (ms : List Msg) → 4 ≤ before → before ≤ length rest → overruns before rest ≡ true → ListedTo before start b place rest ms → msgs_in (length b) before start b ≡ Err (Overrun place)
listed_overrun before start b place rest ms low long over so_far =
    sym so_far.all ∙ ap (behind ms) (msgs_in-first_overruns before place rest (omega arith) long over)
