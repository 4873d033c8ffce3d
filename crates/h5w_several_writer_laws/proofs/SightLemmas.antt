-- What each event makes of a part's own log beside what its dataset sees of the file's log.
use Rattle.std.proofs.Common.{◌≡◌, ℕ, zero, suc, ◌+◌, ◌/◌, ◌<◌, ◌≤◌, max, cond, Bool, false, List, [], ◌∷◌, ◌++◌, length, take, refl, sym, ◌∙◌, ap, subst, inl, inr, arith, length-append, append-nil, append_assoc}
use Rattle.std.specs.Prelude.{nat_le, ◌==◌, ℤ}
use Rattle.std.proofs.lemmas.Bool.{cases_lt, cond_both, cond-true, cond-false, eq-eqb, le-leb, lt-leb}
use Rattle.h5w_model.specs.Logs.{Log, Happening, and_now, appends, plans, shows, hist, appended, appended_in, flushed, flushed_in, flushed_rows, events_at}
use Rattle.h5w_model.specs.Images.{image}
use Rattle.h5w_model.specs.Several.{Begun, FileLog, Happened, appends_to, log_of, pieces_in, plans_each, seen_by, shows_all, up_to}
use Rattle.h5w_model.specs.declared.piece.Write.{Write}
use Rattle.h5w_laws.proofs.LogLemmas.{flushed_begins, rises_behind}
use Rattle.h5w_space.specs.Space.{Space}
use Rattle.h5w_writer.specs.Loads.{first_end_of}
use Rattle.h5w_writer.specs.Openings.{opened_log}
use Rattle.h5w_writer.specs.Told.{pausing, showing, told_log}
use Rattle.h5w_writer.proofs.ToldLemmas.{told_laws}
use Rattle.h5w_several_writer_laws.specs.Began.{BeginsOver, IsAmple, began_end}
use Rattle.h5w_several_writer_laws.specs.Seen.{IsOwn, IsSeen}
use Rattle.h5w_several_writer_laws.specs.Standing.{and_then}

-- no flush is under way
abbrev pub IsSettled : Log → Type 0
IsSettled l = (k : ℕ) → flushed_in k l.values l.events ≡ flushed l

-- ---- Pieces of others are told

flushed-pausing : (n k : ℕ) (base : List ℤ) (es : List Happening) → flushed_in k base (pausing n es) ≡ flushed_in k base es
flushed-pausing zero k base es = refl
flushed-pausing (suc n) k base es = flushed-pausing n k base es

flushed-showing : (ws : List Write) (k : ℕ) (base : List ℤ) (es : List Happening) → flushed_in k base (showing ws es) ≡ flushed_in (k + length ws) base es
flushed-showing [] k base es = ap (λ (n : ℕ). flushed_in n base es) (let e : k ≡ k + 0 = omega arith in e)
flushed-showing (w ∷ ws) k base es = flushed-showing ws k base (shows w ∷ es) ∙ ap (λ (n : ℕ). flushed_in n base es) (let e : (k + length ws) + 1 ≡ k + suc (length ws) = omega arith in e)

-- as much is flushed with more behind a part
squeezed : (m n : ℕ) (base : List ℤ) (es : List Happening) → m ≤ n → length (flushed_in n base es) ≤ length (flushed_in m base es) → flushed_in m base es ≡ flushed_in n base es
squeezed m n base es low least =
    let rises = rises_behind m n base es low in
    let same : length (flushed_in m base es) ≡ length (flushed_in n base es) = omega (arith, rises, least) in
    sym (flushed_begins m base es) ∙ ap (λ (k : ℕ). take k (base ++ appended_in es)) same ∙ flushed_begins n base es

-- ---- One event more that shows nothing

same_order : (a k j : ℕ) → nat_le (a + k) (a + j) ≡ nat_le k j
same_order a k j = elim (cases_lt j k) [
  | inl low ↦ lt-leb (a + k) (a + j) (omega (arith, low)) ∙ sym (lt-leb k j low)
  | inr high ↦ le-leb (a + k) (a + j) (omega (arith, high)) ∙ sym (le-leb k j high)
]

module _ {limit : ℕ} (log : FileLog) (d : ℕ) (b : Begun) (l : Log) (later : List Write) (s : IsOwn limit log d b l later) where
  abbrev sight : Log
  sight = log_of d b log

  -- as many rows are flushed
  pub own_rows : flushed_rows l ≡ flushed_rows (log_of d b log)
  own_rows = ap (λ (c : ℕ). length (flushed l) / c) s.columns ∙ ap (λ (vs : List ℤ). length vs / b.columns) s.now

  -- it is told of pieces of others
  pub seen_told : IsSettled l → (n : ℕ) (ws : List Write) → IsOwn limit log d b (told_log n ws l) (later ++ ws)
  seen_told settled n ws =
      let es = pausing n l.events in
      let all : (k : ℕ) → flushed_in k l.values es ≡ flushed l = λ k. flushed-pausing n k l.values l.events ∙ settled k in
      let whole : flushed (told_log n ws l) ≡ flushed l = flushed-showing ws 0 l.values es ∙ all (0 + length ws) in
      record {
        lead = s.lead;
        start = s.start;
        most = s.most;
        columns = s.columns;
        pieces =
            ap (λ (vs : List Write). s.lead ++ vs) (told_laws.pieces n ws l) ∙ sym (append_assoc s.lead (hist l.events) ws)
            ∙ ap (λ (vs : List Write). vs ++ ws) s.pieces ∙ append_assoc (pieces_in log.events) later ws;
        appended = told_laws.appended n ws l ∙ s.appended;
        now = whole ∙ s.now;
        ahead = λ k.
            flushed-showing ws k l.values es ∙ flushed-pausing n (k + length ws) l.values l.events ∙ s.ahead (k + length ws)
            ∙ ap (λ (m : ℕ). flushed_in m b.values (seen_by d log.events)) (let c = length-append later ws in let e : length later + (k + length ws) ≡ length (later ++ ws) + k = omega (arith, c) in e);
      }

  -- a flush is planned in which it has no part, since no row waits
  pub seen_planned : IsSettled l → appended l ≡ flushed l → (counts : List ℕ) → IsOwn limit (and_then (plans_each counts) log) d b l later
  seen_planned settled all counts =
      let m = up_to d counts in
      let now : appended sight ≡ flushed sight = sym s.appended ∙ all ∙ s.now in
      let planned : flushed sight ≡ flushed_in 0 b.values (plans m ∷ sight.events) = cond_both (nat_le m 0) (appended sight) (flushed sight) (λ (vs : List ℤ). flushed sight ≡ vs) (λ u. sym now) (λ u. refl) in
      record {
        lead = s.lead;
        start = s.start;
        most = s.most;
        columns = s.columns;
        pieces = s.pieces;
        appended = s.appended;
        now = s.now ∙ planned;
        ahead = λ k.
            cond_both (nat_le m (length later + k)) (appended sight) (flushed_in (length later + k) b.values sight.events) (λ (vs : List ℤ). flushed_in k l.values l.events ≡ vs)
            (λ t. settled k ∙ sym all ∙ s.appended)
            (λ t. s.ahead k);
      }

  -- a flush is planned in which these are its pieces
  pub seen_flushed : IsSettled l → (counts : List ℕ) (k : ℕ) → 0 < k → up_to d counts ≡ length later + k → IsOwn limit (and_then (plans_each counts) log) d b (and_now (plans k) l) later
  seen_flushed settled counts k some is = record {
    lead = s.lead;
    start = s.start;
    most = s.most;
    columns = s.columns;
    pieces = s.pieces;
    appended = s.appended;
    now =
        cond-false (nat_le k 0) (appended l) (flushed l) (lt-leb k 0 some) ∙ s.now
        ∙ sym (cond-false (nat_le (up_to d counts) 0) (appended sight) (flushed sight) (lt-leb (up_to d counts) 0 (omega (arith, some, is))));
    ahead = λ j.
        let order : nat_le (up_to d counts) (length later + j) ≡ nat_le k j = ap (λ (m : ℕ). nat_le m (length later + j)) is ∙ same_order (length later) k j in
        ap (λ (vs : List ℤ). cond (nat_le k j) vs (flushed_in j l.values l.events)) s.appended
        ∙ ap (λ (vs : List ℤ). cond (nat_le k j) (appended sight) vs) (s.ahead j)
        ∙ ap (λ (c : Bool). cond c (appended sight) (flushed_in (length later + j) b.values sight.events)) (sym order);
  }

-- ---- A piece that became visible

-- one that counted as shown
pub seen_shown : {limit : ℕ} (log : FileLog) (d : ℕ) (b : Begun) (l : Log) (w : Write) (later : List Write) → IsOwn limit log d b l (w ∷ later) → IsOwn limit (and_then (shows_all w) log) d b l later
seen_shown {limit} log d b l w later s =
    let view : Log = log_of d b log in
    let es = seen_by d log.events in
    let now : flushed l ≡ flushed view = s.now in
    let last : flushed l ≡ flushed_in (suc (length later) + 0) b.values es = s.ahead 0 in
    let one : flushed_in 1 b.values es ≡ flushed_in (suc (length later) + 0) b.values es =
    squeezed 1 (suc (length later) + 0) b.values es (omega arith) (let low = rises_behind 0 1 b.values es (omega arith) in omega (arith, low, ap length last, ap length now)) in
    record {
      lead = s.lead;
      start = s.start;
      most = s.most;
      columns = s.columns;
      pieces = s.pieces ∙ sym (append_assoc (pieces_in log.events) (w ∷ []) later);
      appended = s.appended;
      now = last ∙ sym one;
      ahead = λ k. s.ahead k ∙ ap (λ (m : ℕ). flushed_in m b.values es) (let e : suc (length later) + k ≡ (length later + k) + 1 = omega arith in e);
    }

-- its own
pub seen_own : {limit : ℕ} (log : FileLog) (d : ℕ) (b : Begun) (l : Log) (w : Write) → IsOwn limit log d b l [] → IsOwn limit (and_then (shows_all w) log) d b (and_now (shows w) l) []
seen_own {limit} log d b l w s =
    let es = seen_by d log.events in
    record {
      lead = s.lead;
      start = s.start;
      most = s.most;
      columns = s.columns;
      pieces =
          sym (append_assoc s.lead (hist l.events) (w ∷ [])) ∙ ap (λ (vs : List Write). vs ++ w ∷ []) (s.pieces ∙ append-nil (pieces_in log.events))
          ∙ sym (append-nil (pieces_in log.events ++ w ∷ []));
      appended = s.appended;
      now = s.ahead 1;
      ahead = λ k. s.ahead (k + 1) ∙ ap (λ (m : ℕ). flushed_in m b.values es) (let e : 0 + (k + 1) ≡ (0 + k) + 1 = omega arith in e);
    }

-- ---- Values are appended

-- to this dataset
pub seen_appended : {limit : ℕ} (log : FileLog) (d : ℕ) (b : Begun) (l : Log) (vs : List ℤ) → IsOwn limit log d b l [] → IsOwn limit (and_then (appends_to d vs) log) d b (and_now (appends vs) l) []
seen_appended {limit} log d b l vs s =
    let es = seen_by d log.events in
    let is : appends vs ∷ es ≡ seen_by d (appends_to d vs ∷ log.events) = sym (cond-true (d == d) (appends vs ∷ es) es (eq-eqb d d refl)) in
    record {
      lead = s.lead;
      start = s.start;
      most = s.most;
      columns = s.columns;
      pieces = s.pieces;
      appended =
          subst (λ (xs : List Happening). appended (and_now (appends vs) l) ≡ b.values ++ appended_in xs) is
          (sym (append_assoc l.values (appended_in l.events) vs) ∙ ap (λ (xs : List ℤ). xs ++ vs) s.appended ∙ append_assoc b.values (appended_in es) vs);
      now = subst (λ (xs : List Happening). flushed (and_now (appends vs) l) ≡ flushed_in 0 b.values xs) is s.now;
      ahead = λ k. subst (λ (xs : List Happening). flushed_in k l.values l.events ≡ flushed_in (0 + k) b.values xs) is (s.ahead k);
    }

-- a dataset does not see what is appended to another
pub others_values : (d e : ℕ) (vs : List ℤ) (es : List Happened) → (e == d) ≡ false → seen_by d (appends_to e vs ∷ es) ≡ seen_by d es
others_values d e vs es other = cond-false (e == d) (appends vs ∷ seen_by d es) (seen_by d es) other

pub seen_other : {limit : ℕ} (log : FileLog) (d e : ℕ) (b : Begun) (l : Log) (vs : List ℤ) (later : List Write) → (e == d) ≡ false → IsOwn limit log d b l later → IsOwn limit (and_then (appends_to e vs) log) d b l later
seen_other {limit} log d e b l vs later other s =
    let is = sym (others_values d e vs log.events other) in
    record {
      lead = s.lead;
      start = s.start;
      most = s.most;
      columns = s.columns;
      pieces = s.pieces;
      appended = subst (λ (xs : List Happening). appended l ≡ b.values ++ appended_in xs) is s.appended;
      now = subst (λ (xs : List Happening). flushed l ≡ flushed_in 0 b.values xs) is s.now;
      ahead = λ k. subst (λ (xs : List Happening). flushed_in k l.values l.events ≡ flushed_in (length later + k) b.values xs) is (s.ahead k);
    }

-- ---- The beginning

-- over a file that was opened, or behind the pieces by which it is created, nothing happened yet
pub seen_begun : (log : FileLog) (d : ℕ) (b : Begun) (ws : List Write) → log.events ≡ [] → log.first ≡ length ws → BeginsOver log (opened_log (image log.start ws) b.columns b.values) → IsSeen log d b (opened_log (image log.start ws) b.columns b.values) ws
seen_begun log d b ws none first begins =
    let es : [] ≡ log.events = sym none in
    record {
      lead = ws;
      start = refl;
      begins = begins;
      columns = refl;
      values = refl;
      first = first ∙ (let e : length ws ≡ length ws + 0 = omega arith in e);
      pieces = append-nil ws ∙ ap (λ (xs : List Happened). pieces_in xs ++ ws) es;
      appended = ap (λ (xs : List Happened). b.values ++ appended_in (seen_by d xs)) es;
      now = ap (λ (xs : List Happened). flushed_in 0 b.values (seen_by d xs)) es;
      alike = λ p low. ap (λ (xs : List Happened). flushed_in 0 b.values (events_at (length ws + p) (seen_by d xs))) es;
      level = λ p high. refl;
      ahead = λ k. ap (λ (xs : List Happened). flushed_in (length ws + k) b.values (seen_by d xs)) es;
    }

-- It is its own log, where the file that the log began with ends within the bounds.
pub seen_owns : (t : Space) (log : FileLog) (d : ℕ) (b : Begun) (l : Log) (later : List Write) → IsAmple t log → IsSeen log d b l later → IsOwn t.limit log d b l later
seen_owns t log d b l later ample s = record {
  lead = s.lead;
  start = s.start;
  most = elim s.begins [
    | inl same ↦ ap (max t.limit) same.1
    | inr new ↦ both (first_end_of l) (began_end log) t.limit (length log.start) new.1 ample (ap length new.0)
  ];
  columns = s.columns;
  pieces = s.pieces;
  appended = s.appended;
  now = s.now;
  ahead = s.ahead;
}
  where
    both : (x y c z : ℕ) → x ≤ y → y ≤ max c z → z ≡ 0 → max c x ≡ max c y
    both x y c z under fits none = omega (arith, under, fits, none)

-- over a file that was opened, but that pieces are pending, as the superblock's
pub seen_opened : (limit : ℕ) (img : List ℕ) (bs : List Begun) (d : ℕ) (b : Begun) (n : ℕ) (ws : List Write) → first_end_of (opened_log img b.columns b.values) ≡ began_end (record { start = img; sets = bs; first = 0; events = [] })
    → IsOwn limit (record { start = img; sets = bs; first = 0; events = [] }) d b (told_log n ws (opened_log img b.columns b.values)) ws
seen_opened limit img bs d b n ws end =
    let log : FileLog = record { start = img; sets = bs; first = 0; events = [] } in
    let s = seen_begun log d b [] refl refl (inl (refl, end)) in
    let own : IsOwn limit log d b (opened_log img b.columns b.values) [] = record { lead = s.lead; start = s.start; most = ap (max limit) end; columns = s.columns; pieces = s.pieces; appended = s.appended; now = s.now; ahead = s.ahead } in
    seen_told log d b (opened_log img b.columns b.values) [] own (λ k. refl) n ws
