-- The log of a file with several datasets, whose batches are stored.
use Rattle.std.proofs.Common.{◌≡◌, ℕ, zero, suc, ◌+◌, ◌<◌, ◌≤◌, Bool, true, false, List, [], ◌∷◌, ◌++◌, length, take, ℤ, refl, sym, ap, ◌∙◌, inl, inr, arith, append_assoc, append-nil, length-append}
use Rattle.std.specs.Prelude.{◌==◌, if◌then◌else◌}
use Rattle.std.proofs.lemmas.Bool.{cases_lt, ne_eqb, eq-eqb}
use Rattle.std.proofs.lemmas.List.Sums.{sum_by-cons}
use Rattle.h5w_model.specs.Logs.{appended_in, appends, flushed_in}
use Rattle.h5w_model.specs.Several.{Begun, FileLog, Happened, appends_to, pieces_in, plans_each, seen_by, shows_all, up_to}
use Rattle.h5w_model.specs.declared.piece.Write.{Write}
use Rattle.h5w_writer.specs.Sessions.{Session}
use Rattle.h5w_batches.specs.Batches.{Batches, end_batch}
use Rattle.h5w_appending.specs.Taken.{values_of}
use Rattle.h5w_appending.proofs.BatchLemmas.{plan_done, plan_open}
use Rattle.h5w_several_writer_laws.specs.Sessions.{all_pending, counts_of}
use Rattle.h5w_several_writer_laws.specs.Standing.{and_then}
use Rattle.h5w_several_appending.specs.Puts.{all_shown}
use Rattle.h5w_several_appending.specs.Stores.{EachSet, IsEither, IsSettled, IsStored}
use Rattle.h5w_several_appending.specs.Taken.{add_to, end_each}
use Rattle.h5w_several_appending.proofs.SetLemmas.{ended_values}

-- ---- Pieces that are shown

pub shown_same : (ws : List Write) (log : FileLog) → all_shown ws log ≡ record log { events = (all_shown ws log).events }
shown_same [] log = refl
shown_same (w ∷ ws) log = shown_same ws (and_then (shows_all w) log)

pub shown_pieces : (ws : List Write) (log : FileLog) → pieces_in (all_shown ws log).events ≡ pieces_in log.events ++ ws
shown_pieces [] log = sym (append-nil (pieces_in log.events))
shown_pieces (w ∷ ws) log = shown_pieces ws (and_then (shows_all w) log) ∙ append_assoc (pieces_in log.events) (w ∷ []) ws

shown_appended : (d : ℕ) (ws : List Write) (log : FileLog) → appended_in (seen_by d (all_shown ws log).events) ≡ appended_in (seen_by d log.events)
shown_appended d [] log = refl
shown_appended d (w ∷ ws) log = shown_appended d ws (and_then (shows_all w) log)

shown_flushed : (d n : ℕ) (base : List ℤ) (ws : List Write) (log : FileLog) → flushed_in n base (seen_by d (all_shown ws log).events) ≡ flushed_in (n + length ws) base (seen_by d log.events)
shown_flushed d n base [] log = ap (λ (k : ℕ). flushed_in k base (seen_by d log.events)) (let e : n ≡ n + 0 = omega arith in e)
shown_flushed d n base (w ∷ ws) log =
    shown_flushed d n base ws (and_then (shows_all w) log) ∙ ap (λ (k : ℕ). flushed_in k base (seen_by d log.events)) (let e : n + length ws + 1 ≡ n + length (w ∷ ws) = omega arith in e)

-- ---- Each dataset

pub each_map : {P Q : ℕ → Begun → Batches → Type 0} (k : ℕ) (ss : List Begun) (bs : List Batches) → ((d : ℕ) (s : Begun) (b : Batches) → P d s b → Q d s b) → EachSet P k ss bs → EachSet Q k ss bs
each_map k [] [] f h = tt
each_map k [] (b ∷ bs) f h = absurd h
each_map k (s ∷ ss) [] f h = absurd h
each_map k (s ∷ ss) (b ∷ bs) f h = (f k s b h.0, each_map (suc k) ss bs f h.1)

pub each_end : {P : ℕ → Begun → Batches → Type 0} (Q : ℕ → Begun → Batches → Type 0) (k : ℕ) (ss : List Begun) (bs : List Batches) → ((d : ℕ) (s : Begun) (b : Batches) → P d s b → Q d s (end_batch b)) → EachSet P k ss bs → EachSet Q k ss (end_each bs)
each_end Q k [] [] f h = tt
each_end Q k [] (b ∷ bs) f h = absurd h
each_end Q k (s ∷ ss) [] f h = absurd h
each_end Q k (s ∷ ss) (b ∷ bs) f h = (f k s b h.0, each_end Q (suc k) ss bs f h.1)

-- ---- Pieces of no flush

pub settled_shown : (ws : List Write) (log : FileLog) (d : ℕ) (s : Begun) (b : Batches) → IsSettled log.events d s b → IsSettled (all_shown ws log).events d s b
settled_shown ws log d s b h = record { flushed_are = λ n. shown_flushed d n s.values ws log ∙ h.flushed_are (n + length ws); appended_are = shown_appended d ws log ∙ h.appended_are }

pub settled_stored : (es : List Happened) (d : ℕ) (s : Begun) (b : Batches) → IsSettled es d s b → IsStored es d s b
settled_stored es d s b h = record { flushed_are = h.flushed_are 0; appended_are = h.appended_are }

pub settled_either : (es : List Happened) (d : ℕ) (s : Begun) (b : Batches) → IsSettled es d s b → IsEither es d s b
settled_either es d s b h = record { flushed_are = inl (h.flushed_are 0); appended_are = h.appended_are }

-- ---- A flush

-- no part ends behind all pieces
pub up_to_all : (d : ℕ) (ss : List Session) → up_to d (counts_of ss) ≤ length (all_pending ss)
up_to_all d [] = omega arith
up_to_all zero (s ∷ ss) =
    let one = sum_by-cons (λ (n : ℕ). n) (length s.pending) (take 0 (counts_of ss)) in
    let all = length-append s.pending (all_pending ss) in
    omega (arith, one, all)
up_to_all (suc d) (s ∷ ss) =
    let one = sum_by-cons (λ (n : ℕ). n) (length s.pending) (take (suc d) (counts_of ss)) in
    let rest = up_to_all d ss in
    let all = length-append s.pending (all_pending ss) in
    omega (arith, one, rest, all)

-- all its pieces are shown
pub settled_planned : (counts : List ℕ) (ws : List Write) (log : FileLog) (d : ℕ) (s : Begun) (b : Batches) → up_to d counts ≤ length ws → IsSettled log.events d s b → IsSettled (all_shown ws (and_then (plans_each counts) log)).events d s (end_batch b)
settled_planned counts ws log d s b all h =
    let plan = and_then (plans_each counts) log in record {
      flushed_are = λ n. shown_flushed d n s.values ws plan ∙ plan_done (up_to d counts) (n + length ws) s.values (seen_by d log.events) (omega (arith, all)) ∙ ap (λ (vs : List ℤ). s.values ++ vs) (h.appended_are ∙ sym (ended_values b));
      appended_are = shown_appended d ws plan ∙ h.appended_are ∙ sym (ended_values b) ∙ sym (append-nil (values_of (end_batch b).closed));
    }

-- some of them are
pub settled_broken : (counts : List ℕ) (ws : List Write) (log : FileLog) (d : ℕ) (s : Begun) (b : Batches) → IsSettled log.events d s b → IsEither (all_shown ws (and_then (plans_each counts) log)).events d s b
settled_broken counts ws log d s b h =
    let plan = and_then (plans_each counts) log in
    let es = seen_by d log.events in record {
      flushed_are = elim (cases_lt (0 + length ws) (up_to d counts)) [
        | inl short ↦ inl (shown_flushed d 0 s.values ws plan ∙ plan_open (up_to d counts) (0 + length ws) s.values es short ∙ h.flushed_are (0 + length ws))
        | inr whole ↦ inr (shown_flushed d 0 s.values ws plan ∙ plan_done (up_to d counts) (0 + length ws) s.values es whole ∙ ap (λ (vs : List ℤ). s.values ++ vs) (h.appended_are ∙ sym (ended_values b)))
      ];
      appended_are = shown_appended d ws plan ∙ h.appended_are;
    }

-- ---- Values

-- of another dataset
other_settled : (es : List Happened) (d e : ℕ) (vs : List ℤ) (s : Begun) (b : Batches) → (d == e) ≡ false → IsSettled es e s b → IsSettled (appends_to d vs ∷ es) e s b
other_settled es d e vs s b other h =
    let same : seen_by e (appends_to d vs ∷ es) ≡ seen_by e es = ap (λ (t : Bool). if t then appends vs ∷ seen_by e es else seen_by e es) other in
    record { flushed_are = λ n. ap (flushed_in n s.values) same ∙ h.flushed_are n; appended_are = ap appended_in same ∙ h.appended_are }

-- of this one
own_settled : (es : List Happened) (d e : ℕ) (vs : List ℤ) (s : Begun) (b : Batches) → (d == e) ≡ true → IsSettled es e s b → IsSettled (appends_to d vs ∷ es) e s (record b { waiting = b.waiting ++ vs })
own_settled es d e vs s b own h =
    let same : seen_by e (appends_to d vs ∷ es) ≡ appends vs ∷ seen_by e es = ap (λ (t : Bool). if t then appends vs ∷ seen_by e es else seen_by e es) own in record {
      flushed_are = λ n. ap (flushed_in n s.values) same ∙ h.flushed_are n;
      appended_are = ap appended_in same ∙ ap (λ (xs : List ℤ). xs ++ vs) h.appended_are ∙ append_assoc (values_of b.closed) b.waiting vs;
    }

settled_behind : (es : List Happened) (d k : ℕ) (vs : List ℤ) (ss : List Begun) (bs : List Batches) → d < k → EachSet (IsSettled es) k ss bs → EachSet (IsSettled (appends_to d vs ∷ es)) k ss bs
settled_behind es d k vs [] [] low h = tt
settled_behind es d k vs [] (b ∷ bs) low h = absurd h
settled_behind es d k vs (s ∷ ss) [] low h = absurd h
settled_behind es d k vs (s ∷ ss) (b ∷ bs) low h = (other_settled es d k vs s b (ne_eqb d k (λ e. omega (arith, e, low))) h.0, settled_behind es d (suc k) vs ss bs (omega (arith, low)) h.1)

pub settled_added : (es : List Happened) (d k n : ℕ) (vs : List ℤ) (ss : List Begun) (bs : List Batches) → d ≡ k + n → EachSet (IsSettled es) k ss bs → EachSet (IsSettled (appends_to d vs ∷ es)) k ss (add_to n vs bs)
settled_added es d k n vs [] [] is h = tt
settled_added es d k n vs [] (b ∷ bs) is h = absurd h
settled_added es d k n vs (s ∷ ss) [] is h = absurd h
settled_added es d k zero vs (s ∷ ss) (b ∷ bs) is h = (own_settled es d k vs s b (eq-eqb d k (let e : d ≡ k = omega (arith, is) in e)) h.0, settled_behind es d (suc k) vs ss bs (omega (arith, is)) h.1)
settled_added es d k (suc n) vs (s ∷ ss) (b ∷ bs) is h =
    (other_settled es d k vs s b (ne_eqb d k (λ e. omega (arith, e, is))) h.0, settled_added es d (suc k) n vs ss bs (omega (arith, is)) h.1)
