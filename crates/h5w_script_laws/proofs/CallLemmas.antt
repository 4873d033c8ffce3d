-- A call begins.
use Rattle.std.proofs.Common.{◌≡◌, ℕ, ◌+◌, ◌*◌, ◌≤◌, List, [], ◌∷◌, length, take, drop, Option, Some, None, refl, sym, ◌∙◌, ap, subst, arith}
use Rattle.std.specs.Prelude.{ℤ}
use Rattle.h5w_model.specs.Programs.{Prog, ret, whole, counted, stored, WantsMore, next_look}
use Rattle.h5w_model.specs.Logs.{Log, flushed_rows, flushed_at}
use Rattle.h5w_model.specs.Tables.{Reading}
use Rattle.h5w_model.specs.Calls.{rows_seen, values_call}
use Rattle.h5w_model.specs.Unfinished.{Unfinished, rows_left, values_left, wanted, ReaderRules, rows_program, Reader, with_left}
use Rattle.h5w_model.specs.Asked.{Begins}
use Rattle.h5w_model.specs.Lawful.{ScriptState, Calling, begun_call, values_of}
use Rattle.h5w_laws.proofs.LogLemmas.{length_hist, position_laws}
use Rattle.h5w_script_laws.specs.Polling.{Polling, reader_rules, now, Rising, Knows, Wants, kind_of, Calls, CallPolls}
use Rattle.h5w_script_laws.specs.Premises.{LogHolds, Follows}
use Rattle.h5w_script_laws.specs.Laws.{BeginLaws}
use Rattle.h5w_script_laws.proofs.AnswerLemmas.{values_in}
use Rattle.h5w_script_laws.proofs.ReadLemmas.{values_want}

-- at the last position all is flushed that is
pub flushed_now : (log : Log) → flushed_at log (now log) ≡ flushed_rows log
flushed_now log = ap flushed_rows (position_laws.now log (now log) (omega (arith, length_hist log.events)))

-- the rows that a script knows to be flushed are those at the last position
pub follows_now : (log : Log) (s : ScriptState) → Follows log s → s.flushed ≡ flushed_at log (now log)
follows_now log s follows = follows.flushed ∙ sym (flushed_now log)

-- and so are its values
pub script_values : (g : Polling) (log : Log) (s : ScriptState) (from count : ℕ) → Follows log s → values_in g.rules log from count ≡ values_of g.rules s from count
script_values g log s from count follows =
    ap (λ (vs : List ℤ). take (count * g.rules.cutting.columns) (drop (from * g.rules.cutting.columns) vs)) (sym follows.appended)

-- at one position there is no commit
rising_still : (log : Log) (p : ℕ) (ps : List ℕ) → Rising log p p ps → length ps ≤ 1
rising_still log p [] h = omega arith
rising_still log p (x ∷ []) h = omega arith
rising_still log p (x ∷ y ∷ ys) h =
    let same : y ≡ x = omega (arith, h.0, h.1, h.3.0, h.3.1) in
    let level : flushed_at log y ≡ flushed_at log x = ap (flushed_at log) same in
    absurd (omega (arith, level, h.2))

-- a program that is not at its end wants a look
pub wants_more : {A : Type 0} (p : Prog A) → WantsMore p → (place : ℕ) × (len : ℕ) × (next_look p ≡ Some (place, len))
wants_more (ret a) h = absurd h
wants_more (whole at n next) h = (at, n, refl)
wants_more (counted at counts next) h = absurd h
wants_more (stored k at n next) h = absurd h

-- a reader without a call, as the script has it
pub record IsIdle (g : Polling) (log : Log) (call : Option Calling) (r : Reader) : Type 0 where
  pub none : call ≡ None
  pub knows : Knows g log (now log) r.known

some_none : (x : ℕ × ℕ) → ◌≡◌ {A = Option (ℕ × ℕ)} None (Some x) → ⊥
some_none x h = cc

none_wanted : (left : Option Unfinished) → left ≡ None → Wants left → ⊥
none_wanted left e w = some_none (w.place, w.len) (sym (ap wanted e) ∙ w.is)

pub is_idle : (g : Polling) (log : Log) (call : Option Calling) (r : Reader) → CallPolls g log r call → r.left ≡ None → IsIdle g log call r
is_idle g log None r h e = record { none = refl; knows = h.1 }
is_idle g log (Some c) r h e = absurd (none_wanted r.left e h.wants)

begin_call : (g : Polling) (log : Log) (s : ScriptState) (r : Reader) (program : Unfinished) (begins : Begins r.rules r.known program) → Follows log s → log.first ≤ now log
    → Knows g log (now log) r.known → Wants (Some program) → Calls g log (with_left r (Some program)) (begun_call s (kind_of r.rules r.known program begins))
begin_call g log s r (rows_left p) begins follows first knows wants = record {
  program = rows_left p;
  looks = [];
  asking = (begins, refl);
  wants = wants;
  from = now log;
  after_first = first;
  within = omega arith;
  knew = knows;
  is_call = tt;
  kind = refl;
  count = refl;
  begun = follows_now log s follows;
  at_looks = refl;
  rises = λ ps h. rising_still log (now log) ps h;
}
begin_call g log s r (values_left p) begins follows first knows wants = record {
  program = values_left p;
  looks = [];
  asking = (begins, refl);
  wants = wants;
  from = now log;
  after_first = first;
  within = omega arith;
  knew = knows;
  is_call = tt;
  kind = refl;
  count = refl;
  begun = follows_now log s follows;
  at_looks = refl;
  rises = λ ps h. rising_still log (now log) ps h;
}

program_wants : (g : ReaderRules) (known : Option Reading) → Wants (Some (rows_left (rows_program g known)))
program_wants g None = record { place = 0; len = 48; is = refl }
program_wants g (Some r) = record { place = r.place; len = _; is = refl }

pub values_wants : (g : Polling) (log : Log) (until from count : ℕ) (r : Reading) → LogHolds g log → Knows g log until (Some r) → 1 ≤ count → from + count ≤ r.dataset.shape.rows
    → Wants (Some (values_left (values_call r from count)))
values_wants g log until from count r holds knows some within =
    let w = wants_more (values_call r from count) (values_want g log until from count r holds knows some within) in
    record { place = w.0; len = w.1; is = w.2 }

pub begin_laws : BeginLaws
begin_laws = record {
  opens = λ g log s follows first.
      let r : Reader = record { rules = reader_rules g; known = None; left = None } in
      record { rules = refl; seen = refl; call = begin_call g log s r (rows_left (rows_program r.rules None)) refl follows first tt (program_wants r.rules None) };
  refreshes = λ g log s x r follows first h none.
      let idle = is_idle g log x.call r h.call none in
      record { rules = h.rules; seen = h.seen; call = begin_call g log s r (rows_left (rows_program r.rules r.known)) refl follows first idle.knows (program_wants r.rules r.known) };
  reads = λ g log s x r what from count holds follows first h none known some within.
      let idle = is_idle g log x.call r h.call none in
      let knows : Knows g log (now log) (Some what) = subst (λ (o : Option Reading). Knows g log (now log) o) known idle.knows in
      let seen : from + count ≤ what.dataset.shape.rows = omega (arith, h.seen, ap rows_seen known) in
      let begins : Begins r.rules r.known (values_left (values_call what from count)) =
      record { reading = what; from = from; count = count; is_known = known; some = some; inside = seen; is = refl } in
      record {
        rules = h.rules;
        seen = h.seen;
        call = begin_call g log s r (values_left (values_call what from count)) begins follows first idle.knows (values_wants g log (now log) from count what holds knows some seen);
      };
}
