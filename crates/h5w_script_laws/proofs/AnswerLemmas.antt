-- The answers of calls for rows, as a script has them.
use Rattle.std.proofs.Common.{◌≡◌, ℕ, zero, suc, ◌+◌, ◌*◌, ◌≤◌, List, [], ◌∷◌, ◌++◌, length, take, drop, Contains, Option, Some, None, Result, Ok, Err, refl, sym, ◌∙◌, ap, subst, inl, inr, arith, length-append}
use Rattle.std.specs.List.{Any, AllByRecursion}
use Rattle.h5w_model.specs.Programs.{Takes}
use Rattle.h5w_model.specs.Logs.{Log, appended, flushed_at}
use Rattle.h5w_model.specs.Tables.{Reading, format_limits}
use Rattle.h5w_model.specs.Prefixed.{image_at}
use Rattle.h5w_model.specs.Readers.{Placed, IsCall, looks_of}
use Rattle.std.specs.Prelude.{ℤ}
use Rattle.h5w_model.specs.Calls.{values_call}
use Rattle.h5w_model.specs.Unfinished.{refresh_rules, rows_program}
use Rattle.h5w_model.specs.Lawful.{Rules}
use Rattle.h5w_model.specs.declared.refusal.ReadError.{ReadError}
use Rattle.h5w_model.specs.declared.refusal.ReadError.TheVariants.{Again}
use Rattle.h5w_laws.proofs.AnswerLemmas.{one_answer}
use Rattle.h5w_reader_laws.specs.Headline.{IsHeaderLook, GetsRows, EachChanges, GivesUp, IsAnswer}
use Rattle.h5w_reader_laws.proofs.CallLemmas.{opens_on_rows, refreshes_to_rows}
use Rattle.h5w_reader_laws.proofs.ValueLemmas.{reads_values}
use Rattle.h5w_script_laws.specs.Polling.{Polling, reader_rules, now, ShownAt, MoreThan, Rising, Knows}
use Rattle.h5w_script_laws.specs.Premises.{LogHolds}

-- a reading that is shown at the position of one of these looks
pub record IsFound (g : Polling) (log : Log) (ls : List Placed) (r : Reading) : Type 0 where
  pub look : Placed
  pub taken : Contains ls look
  pub shown : ShownAt g log look.position r

-- rows were flushed at least once an attempt
pub record IsOverCommits (g : Polling) (log : Log) (from attempts : ℕ) : Type 0 where
  pub all : attempts ≡ g.rules.attempts
  pub positions : List ℕ
  pub rising : Rising log from (now log) positions
  pub count : attempts + 1 ≤ length positions

abbrev pub RowsAnswer : Polling → Log → ℕ → List Placed → Result Reading ReadError → Type 0
RowsAnswer g log from ls (Ok r) = IsFound g log ls r
RowsAnswer g log from ls (Err (Again attempts place first last)) = IsOverCommits g log from attempts
RowsAnswer g log from ls (Err e) = ⊥

-- no look of a call is before its beginning, or past now
pub call_from : (log : Log) (from : ℕ) (ls : List Placed) (l : Placed) → IsCall log from ls → Contains ls l → (from ≤ l.position) × (l.position ≤ now log)
call_from log from [] l h (k, within, is) = absurd (omega arith)
call_from log from (x ∷ xs) l h (zero, within, is) = (omega (arith, h.0, ap (λ (l : Placed). l.position) is), omega (arith, h.1, ap (λ (l : Placed). l.position) is))
call_from log from (x ∷ xs) l h (suc k, within, is) =
    let behind = call_from log x.position xs l h.3 (k, omega arith, is) in
    (omega (arith, h.0, behind.0), behind.1)

found : (g : Polling) (log : Log) (from seen : ℕ) (ls : List Placed) (r : Reading) → GetsRows g.name log from seen ls r → IsFound g log ls r
found g log from seen ls r gets =
    let look = gets.looked.1 in
    let same : gets.shown ≡ look.position = sym gets.looked.4 in
    record {
      look = look;
      taken = (gets.looked.0, gets.looked.2, gets.looked.3);
      shown = subst (λ (p : ℕ). ShownAt g log p r) same (record { position = gets.position; shows = gets.shows });
    }

-- positions within a call
record IsWithin (log : Log) (from p : ℕ) : Type 0 where
  low : from ≤ p
  high : p ≤ now log

all_within : (log : Log) (from place : ℕ) (ls : List Placed) (ps : List ℕ) → IsCall log from ls → AllByRecursion (λ p. Any (IsHeaderLook place p) ls) ps → AllByRecursion (IsWithin log from) ps
all_within log from place ls [] call h = tt
all_within log from place ls (p ∷ ps) call h =
    let look = h.0 in
    let within = call_from log from ls look.1 call (look.0, look.2, look.3) in
    (record { low = omega (arith, within.0, look.4.position); high = omega (arith, within.1, look.4.position) }, all_within log from place ls ps call h.1)

-- positions at each of which more is flushed than at the one before, the last one first
rising_on : (g : Polling) (log : Log) (from place u : ℕ) (us acc : List ℕ) → LogHolds g log → log.first ≤ from → MoreThan log u acc → Rising log from u acc
    → EachChanges g.name log place (u ∷ us) → AllByRecursion (IsWithin log from) (u ∷ us) → (ps : List ℕ) × Rising log from (now log) ps × (length ps ≡ length acc + length (u ∷ us))
rising_on g log from place u [] acc holds first more rising changes within =
    (u ∷ acc, (within.0.low, within.0.high, more, rising), omega arith)
rising_on g log from place u (v ∷ vs) acc holds first more rising changes within =
    let change = changes.0 in
    let rest = rising_on g log from place v vs (u ∷ acc) holds first change.flushed (within.0.low, change.later, more, rising) changes.1 within.1 in
    (rest.0, rest.1, omega (arith, rest.2))

rising_of : (g : Polling) (log : Log) (from place : ℕ) (us : List ℕ) → LogHolds g log → log.first ≤ from
    → EachChanges g.name log place us → AllByRecursion (IsWithin log from) us → (ps : List ℕ) × Rising log from (now log) ps × (length ps ≡ length us)
rising_of g log from place [] holds first changes within = ([], tt, refl)
rising_of g log from place (u ∷ us) holds first changes within =
    let r = rising_on g log from place u us [] holds first tt tt changes within in
    (r.0, r.1, omega (arith, r.2))

gives_up : (g : Polling) (log : Log) (from : ℕ) (ls : List Placed) (a : Result Reading ReadError) → LogHolds g log → log.first ≤ from → IsCall log from ls
    → GivesUp g.name log from g.rules.attempts ls a → RowsAnswer g log from ls a
gives_up g log from ls a holds first call gives =
    let us : List ℕ = gives.earlier ++ gives.before ∷ gives.last ∷ [] in
    let rising = rising_of g log from gives.place us holds first gives.changed (all_within log from gives.place ls us call gives.looked) in
    let count : length us ≡ length gives.earlier + 2 = length-append gives.earlier (gives.before ∷ gives.last ∷ []) in
    subst (λ (x : Result Reading ReadError). RowsAnswer g log from ls x) (sym gives.answer)
    (record { all = refl; positions = rising.0; rising = rising.1; count = omega (arith, rising.2, count, gives.attempted) })

answer_is : (g : Polling) (log : Log) (from seen : ℕ) (ls : List Placed) (a : Result Reading ReadError) → LogHolds g log → log.first ≤ from → IsCall log from ls
    → IsAnswer g.name log from seen g.rules.attempts ls a → RowsAnswer g log from ls a
answer_is g log from seen ls a holds first call (inl gets) =
    subst (λ (x : Result Reading ReadError). RowsAnswer g log from ls x) (sym gets.1) (found g log from seen ls gets.0 gets.2)
answer_is g log from seen ls a holds first call (inr gives) = gives_up g log from ls a holds first call gives

pub rows_answered : (g : Polling) (log : Log) (from : ℕ) (known : Option Reading) (ls : List Placed) (a : Result Reading ReadError) → LogHolds g log → log.first ≤ from
    → Knows g log from known → IsCall log from ls → Takes (rows_program (reader_rules g) known) (looks_of ls) a → RowsAnswer g log from ls a
rows_answered g log from None ls a holds first knows call takes =
    answer_is g log from 0 ls a holds first call
    (opens_on_rows g.name log g.limits g.keeps g.rules.attempts from ls a holds.served holds.within holds.some_attempts first call takes)
rows_answered g log from (Some r) ls a holds first knows call takes =
    answer_is g log from r.dataset.shape.rows ls a holds first call
    (refreshes_to_rows g.name log (refresh_rules (reader_rules g) r) knows.position r from ls a
    holds.served holds.within holds.some_attempts knows.shown.position knows.earlier call knows.shown.shows refl refl takes)

-- ---- Rows and values

-- the values appended for some rows
abbrev pub values_in : Rules → Log → (from count : ℕ) → List ℤ
values_in g log from count = take (count * g.cutting.columns) (drop (from * g.cutting.columns) (appended log))

-- what a reading has where it is shown
record HasRows (g : Polling) (log : Log) (p : ℕ) (r : Reading) : Type 0 where
  rows : r.dataset.shape.rows ≡ flushed_at log p
  columns : r.dataset.shape.cols ≡ g.rules.cutting.columns

has_rows : (g : Polling) (log : Log) (p : ℕ) (r : Reading) → LogHolds g log → ShownAt g log p r → HasRows g log p r
has_rows g log p r holds s =
    let reads = (holds.served.prefixed p s.position).reads in
    let same : reads.shown ≡ r = one_answer.reading format_limits (image_at log p) g.name reads.shown r reads.shows s.shows in
    subst (λ (x : Reading). HasRows g log p x) same (record { rows = reads.rows_are; columns = reads.columns_are ∙ holds.columns })

-- a reading has the rows that are flushed where it is shown
pub rows_shown : (g : Polling) (log : Log) (p : ℕ) (r : Reading) → LogHolds g log → ShownAt g log p r → r.dataset.shape.rows ≡ flushed_at log p
rows_shown g log p r holds s = (has_rows g log p r holds s).rows

-- and the script's columns
pub columns_shown : (g : Polling) (log : Log) (p : ℕ) (r : Reading) → LogHolds g log → ShownAt g log p r → r.dataset.shape.cols ≡ g.rules.cutting.columns
columns_shown g log p r holds s = (has_rows g log p r holds s).columns

pub values_answered : (g : Polling) (log : Log) (from first count : ℕ) (r : Reading) (ls : List Placed) (a : Result (List ℤ) ReadError) → LogHolds g log → Knows g log from (Some r)
    → IsCall log from ls → 1 ≤ count → first + count ≤ r.dataset.shape.rows → Takes (values_call r first count) (looks_of ls) a → a ≡ Ok (values_in g.rules log first count)
values_answered g log from first count r ls a holds knows call some within takes =
    reads_values g.name log knows.position r from first count ls a holds.served knows.shown.position knows.earlier knows.shown.shows call some within takes
    ∙ ap (λ n. Ok (take (count * n) (drop (first * n) (appended log)))) (columns_shown g log knows.position r holds knows.shown)
