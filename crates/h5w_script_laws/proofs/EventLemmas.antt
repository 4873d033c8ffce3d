-- One more event of a log leaves a reader's call as it was.
use Rattle.std.proofs.Common.{◌≡◌, ℕ, ◌+◌, ◌<◌, ◌≤◌, cond, List, [], ◌∷◌, ◌++◌, length, map, reverse, Option, Some, None, option_map, refl, sym, ◌∙◌, ap, subst, inl, inr, arith}
use Rattle.std.specs.Prelude.{nat_le, ◌==◌, ℤ}
use Rattle.std.proofs.lemmas.Bool.{cases_lt, cond_both, cond-true, cond-false, lt-leb}
use Rattle.h5w_model.specs.Programs.{IsLookAt}
use Rattle.h5w_model.specs.Logs.{Log, Happening, appends, plans, shows, shown, appended_in, flushed, flushed_rows, rows_in, flushed_at, and_now}
use Rattle.h5w_model.specs.Tables.{Reading, Shows, format_limits}
use Rattle.h5w_model.specs.Prefixed.{image_at}
use Rattle.h5w_model.specs.Readers.{Placed, IsCall}
use Rattle.h5w_model.specs.Lawful.{Calling, ReaderState, risen, reader_in}
use Rattle.h5w_model.specs.declared.piece.Write.{Write}
use Rattle.h5w_laws.proofs.LogLemmas.{length_hist, position_laws}
use Rattle.h5w_model.specs.Unfinished.{Reader}
use Rattle.h5w_script_laws.specs.Polling.{Polling, now, ShownAt, MoreThan, Rising, Knows, Calls, CallPolls, Polls}
use Rattle.h5w_script_laws.specs.Laws.{risen_reader, OtherEventLaws}

-- a log that another goes on from, with as much flushed at each of its positions
pub record GoesOn (old new : Log) : Type 0 where
  pub first : new.first ≡ old.first
  pub longer : now old ≤ now new
  pub images : (p : ℕ) → p ≤ now old → image_at new p ≡ image_at old p
  pub flushed : (p : ℕ) → p ≤ now old → flushed_at new p ≡ flushed_at old p

-- ---- What stays

shown_on : (g : Polling) (old new : Log) (p : ℕ) (r : Reading) → GoesOn old new → ShownAt g old p r → ShownAt g new p r
shown_on g old new p r on s =
    let at = s.position in
    let same = on.images p at.reached in
    record {
      position = record { begun = omega (arith, on.first, at.begun); reached = omega (arith, on.longer, at.reached) };
      shows = subst (λ (i : List ℕ). Shows format_limits i g.name r) (sym same) s.shows;
    }

pub knows_on : (g : Polling) (old new : Log) (until : ℕ) (known : Option Reading) → GoesOn old new → Knows g old until known → Knows g new until known
knows_on g old new until None on h = tt
knows_on g old new until (Some r) on h = record { position = h.position; earlier = h.earlier; shown = shown_on g old new h.position r on h.shown }

-- what was known earlier is known later
pub knows_later : (g : Polling) (log : Log) (p q : ℕ) (known : Option Reading) → p ≤ q → Knows g log p known → Knows g log q known
knows_later g log p q None below h = tt
knows_later g log p q (Some r) below h = record { position = h.position; earlier = omega (arith, h.earlier); shown = h.shown }

call_on : (old new : Log) (from : ℕ) (ls : List Placed) → GoesOn old new → IsCall old from ls → IsCall new from ls
call_on old new from [] on h = tt
call_on old new from (l ∷ ls) on h =
    (h.0, omega (arith, on.longer, h.1), subst (λ (i : List ℕ). IsLookAt i l.look) (sym (on.images l.position h.1)) h.2, call_on old new l.position ls on h.3)

rows_on : (old new : Log) (from : ℕ) (ls : List Placed) → GoesOn old new → IsCall old from ls → map (λ l. flushed_at new l.position) ls ≡ map (λ l. flushed_at old l.position) ls
rows_on old new from [] on h = refl
rows_on old new from (l ∷ ls) on h =
    let here : flushed_at new l.position ≡ flushed_at old l.position = on.flushed l.position h.1 in
    let behind = rows_on old new l.position ls on h.3 in
    cc

-- ---- Commits

rising_back : (old new : Log) (from to : ℕ) (ps : List ℕ) → GoesOn old new → to ≤ now old → Rising new from to ps → Rising old from to ps
rising_back old new from to [] on within h = tt
rising_back old new from to (p ∷ []) on within h = (h.0, h.1, tt, tt)
rising_back old new from to (p ∷ q ∷ qs) on within h =
    let behind = h.3 in
    let more : flushed_at new q < flushed_at new p = h.2 in
    let below : q ≤ now old = omega (arith, h.1, behind.1) in
    let there : p ≤ now old = omega (arith, h.1) in
    (h.0, h.1, omega (arith, more, on.flushed q below, on.flushed p there), rising_back old new from p (q ∷ qs) on there behind)

-- positions below one at which more is flushed than at the last of them
rising_under : (log : Log) (from p q : ℕ) (ps : List ℕ) → p ≡ q + 1 → MoreThan log p ps → Rising log from p ps → Rising log from q ps
rising_under log from p q [] e more h = tt
rising_under log from p q (x ∷ xs) e more h =
    elim (cases_lt x p) [
      | inl below ↦ (h.0, omega arith, h.2, h.3)
      | inr above ↦
          let same : x ≡ p = omega (arith, h.1) in
          let level : flushed_at log x ≡ flushed_at log p = ap (flushed_at log) same in
          absurd (omega (arith, level, more))
    ]

-- as much is flushed at a lower position
more_level : (log : Log) (p q : ℕ) (ps : List ℕ) → flushed_at log p ≡ flushed_at log q → MoreThan log p ps → MoreThan log q ps
more_level log p q [] e h = tt
more_level log p q (x ∷ xs) e h = omega (arith, e, h)

-- how many commits a call is over, in a log and in a longer one
abbrev pub Counts : Log → Log → (from before after : ℕ) → Type 0
Counts old new from before after = ((ps : List ℕ) → Rising old from (now old) ps → length ps ≤ before + 1) → (ps : List ℕ) → Rising new from (now new) ps → length ps ≤ after + 1

pub counts_same : (old new : Log) (from n : ℕ) → GoesOn old new → now new ≡ now old → Counts old new from n n
counts_same old new from n on e counted ps h =
    counted ps (rising_back old new from (now old) ps on (omega arith) (subst (λ (to : ℕ). Rising new from to ps) e h))

counts_quiet : (old new : Log) (from n : ℕ) → GoesOn old new → from ≤ now old → now new ≡ now old + 1 → flushed_at new (now new) ≡ flushed_at new (now old) → Counts old new from n n
counts_quiet old new from n on within e level counted [] h = omega arith
counts_quiet old new from n on within e level counted (p ∷ ps) h =
    elim (cases_lt (now old) p) [
      | inl above ↦
          let last : p ≡ now old + 1 = omega (arith, h.1) in
          let end : p ≡ now new = omega arith in
          let under = rising_under new from p (now old) ps last h.2 h.3 in
          let more = more_level new p (now old) ps (ap (flushed_at new) end ∙ level) h.2 in
          let known : length (now old ∷ ps) ≤ n + 1 =
          counted (now old ∷ ps) (rising_back old new from (now old) (now old ∷ ps) on (omega arith) (within, omega arith, more, under)) in
          omega (arith, known)
      | inr below ↦ counted (p ∷ ps) (rising_back old new from (now old) (p ∷ ps) on (omega arith) (h.0, below, h.2, h.3))
    ]

counts_commit : (old new : Log) (from n : ℕ) → GoesOn old new → now new ≡ now old + 1 → Counts old new from n (n + 1)
counts_commit old new from n on e counted [] h = omega arith
counts_commit old new from n on e counted (p ∷ ps) h =
    elim (cases_lt (now old) p) [
      | inl above ↦
          let last : p ≡ now old + 1 = omega (arith, h.1) in
          let under = rising_under new from p (now old) ps last h.2 h.3 in
          let known : length ps ≤ n + 1 = counted ps (rising_back old new from (now old) ps on (omega arith) under) in
          omega (arith, known)
      | inr below ↦
          let known : length (p ∷ ps) ≤ n + 1 = counted (p ∷ ps) (rising_back old new from (now old) (p ∷ ps) on (omega arith) (h.0, below, h.2, h.3)) in
          omega (arith, known)
    ]

-- ---- Events

positions_counted : (log : Log) → now log ≡ shown log.events
positions_counted log = length_hist log.events

-- an event that is no piece, and leaves what is flushed
pub goes_on_still : (e : Happening) (log : Log) → shown (e ∷ log.events) ≡ shown log.events → flushed_rows (and_now e log) ≡ flushed_rows log → GoesOn log (and_now e log)
goes_on_still e log same level =
    let before : now log ≡ shown log.events = positions_counted log in
    let after : now (and_now e log) ≡ shown (e ∷ log.events) = positions_counted (and_now e log) in
    record {
      first = refl;
      longer = omega arith;
      images = λ p h. position_laws.images e log p (omega arith);
      flushed = λ p h.
          elim (cases_lt p (shown log.events)) [
            | inl below ↦ ap flushed_rows (position_laws.earlier e log p (omega arith))
            | inr above ↦
                ap flushed_rows (position_laws.now (and_now e log) p (omega arith)) ∙ level
                ∙ sym (ap flushed_rows (position_laws.now log p above))
          ];
    }

goes_on_piece : (w : Write) (log : Log) → GoesOn log (and_now (shows w) log)
goes_on_piece w log =
    let before : now log ≡ shown log.events = positions_counted log in
    let after : now (and_now (shows w) log) ≡ shown log.events + 1 = positions_counted (and_now (shows w) log) in
    record {
      first = refl;
      longer = omega arith;
      images = λ p h. position_laws.images (shows w) log p (omega arith);
      flushed = λ p h. ap flushed_rows (position_laws.earlier (shows w) log p (omega arith));
    }

-- ---- Calls

calls_on : (g : Polling) (old new : Log) (r : Reader) (c : Calling) (n : ℕ) → GoesOn old new → ((from : ℕ) → from ≤ now old → Counts old new from c.rises n) → Calls g old r c
    → Calls g new r (record c { rises = n })
calls_on g old new r c n on counts h = record {
  program = h.program;
  looks = h.looks;
  asking = h.asking;
  wants = h.wants;
  from = h.from;
  after_first = omega (arith, on.first, h.after_first);
  within = omega (arith, on.longer, h.within);
  knew = knows_on g old new h.from r.known on h.knew;
  is_call = call_on old new h.from h.looks on h.is_call;
  kind = h.kind;
  count = h.count;
  begun = h.begun ∙ sym (on.flushed h.from h.within);
  at_looks = h.at_looks ∙ sym (ap reverse (rows_on old new h.from h.looks on h.is_call));
  rises = counts h.from h.within h.rises;
}

idle_on : (g : Polling) (old new : Log) (r : Reader) → GoesOn old new → CallPolls g old r None → CallPolls g new r None
idle_on g old new r on h = (h.0, knows_later g new (now old) (now new) r.known on.longer (knows_on g old new (now old) r.known on h.1))

polls_by : (g : Polling) (old new : Log) (r : Reader) (call : Option Calling) → GoesOn old new → ((from n : ℕ) → from ≤ now old → Counts old new from n n) → CallPolls g old r call → CallPolls g new r call
polls_by g old new r None on counts h = idle_on g old new r on h
polls_by g old new r (Some c) on counts h = calls_on g old new r c c.rises on (λ from within. counts from c.rises within) h

pub polls_on : (g : Polling) (old new : Log) (x : ReaderState) (r : Reader) → GoesOn old new → ((from n : ℕ) → from ≤ now old → Counts old new from n n) → Polls g old x r → Polls g new x r
polls_on g old new x r on counts h = record { rules = h.rules; seen = h.seen; call = polls_by g old new r x.call on counts h.call }

polls_risen : (g : Polling) (old new : Log) (seen : ℕ) (call : Option Calling) (r : Reader) → GoesOn old new → now new ≡ now old + 1
    → Polls g old (record { seen = seen; call = call }) r → Polls g new (risen_reader (record { seen = seen; call = call })) r
polls_risen g old new seen None r on e h = record { rules = h.rules; seen = h.seen; call = idle_on g old new r on h.call }
polls_risen g old new seen (Some c) r on e h = record {
  rules = h.rules;
  seen = h.seen;
  call = calls_on g old new r c (c.rises + 1) on (λ from within. counts_commit old new from c.rises on e) h.call;
}

one_more : (w : Write) (log : Log) → now (and_now (shows w) log) ≡ now log + 1
one_more w log = omega (arith, positions_counted log, positions_counted (and_now (shows w) log))

-- a plan of some pieces flushes nothing by itself
plans_level : (k : ℕ) (log : Log) → 1 ≤ k → flushed_rows (and_now (plans k) log) ≡ flushed_rows log
plans_level k log some = ap (λ (vs : List ℤ). rows_in log vs) (cond-false (nat_le k 0) (log.values ++ appended_in log.events) (flushed log) (lt-leb k 0 some))

level_now : (w : Write) (log : Log) → flushed_rows (and_now (shows w) log) ≡ flushed_rows log
    → flushed_at (and_now (shows w) log) (now (and_now (shows w) log)) ≡ flushed_at (and_now (shows w) log) (now log)
level_now w log level =
    let new = and_now (shows w) log in
    ap flushed_rows (position_laws.now new (now new) (omega (arith, positions_counted new))) ∙ level
    ∙ sym (ap flushed_rows (position_laws.now log (now log) (omega (arith, positions_counted log))))
    ∙ sym ((goes_on_piece w log).flushed (now log) (omega arith))

risen_in : (r : ℕ) (xs : List (ℕ × ReaderState)) → reader_in r (risen xs) ≡ option_map risen_reader (reader_in r xs)
risen_in r [] = refl
risen_in r (x ∷ xs) =
    cond_both (x.0 == r) (Some x.1) (reader_in r xs) (λ (o : Option ReaderState). cond (x.0 == r) (Some (risen_reader x.1)) (reader_in r (risen xs)) ≡ option_map risen_reader o)
    (λ t. cond-true (x.0 == r) (Some (risen_reader x.1)) (reader_in r (risen xs)) t)
    (λ t. cond-false (x.0 == r) (Some (risen_reader x.1)) (reader_in r (risen xs)) t ∙ risen_in r xs)

pub other_event_laws : OtherEventLaws
other_event_laws = record {
  appending = λ g log x r values h.
      let on = goes_on_still (appends values) log refl refl in
      polls_on g log (and_now (appends values) log) x r on (λ from n within. counts_same log (and_now (appends values) log) from n on refl) h;
  planning = λ g log x r pieces some h.
      let on = goes_on_still (plans pieces) log refl (plans_level pieces log some) in
      polls_on g log (and_now (plans pieces) log) x r on (λ from n within. counts_same log (and_now (plans pieces) log) from n on refl) h;
  showing = λ g log x r w level h.
      let on = goes_on_piece w log in
      polls_on g log (and_now (shows w) log) x r on
      (λ from n within. counts_quiet log (and_now (shows w) log) from n on within (one_more w log) (level_now w log level)) h;
  committing = λ g log x r w h. polls_risen g log (and_now (shows w) log) x.seen x.call r (goes_on_piece w log) (one_more w log) h;
  risen = risen_in;
}
