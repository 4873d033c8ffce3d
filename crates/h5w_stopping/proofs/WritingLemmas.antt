-- A writer's lines, of a world that does them.
use Rattle.std.proofs.Common.{◌≡◌, ◌⊎◌, ℕ, ◌+◌, ◌-◌, ◌<◌, ◌≤◌, Bool, true, false, if◌then◌else◌, nat_lt, List, [], ◌∷◌, ◌++◌, length, ℤ, Option, Some, None, Result, Ok, Err, sym, refl, ap, ◌∙◌, subst, inl, inr, arith, append_assoc}
use Rattle.std.specs.Prelude.{IfOk, MatchBool}
use Rattle.std.proofs.lemmas.Bool.{cond-false, cases_lt, le-ltb, ltb-true, ltb-false}
use Rattle.std.proofs.lemmas.List.{nil_from_length}
use Rattle.h5w_model.specs.Lawful.{Line, adds, flushes, Rules, ScriptState, Allowed, AppendAllowed, FlushAllowed, IsFull, IsPlanned, after_shows, append_reply, at_first, committed, first_outside, fitting_reply, load_of, next_state, rows_in, rows_of, shows_up_to, ends, opens, refreshes, reads, looks}
use Rattle.h5w_model.specs.Logs.{Cutting, Happening, needed_chunks, Log, and_now, appended, appended_in, appends, flushed_rows, load, plans, shows, spent, spent_in}
use Rattle.h5w_model.specs.declared.event.Event.TheVariants as events
use Rattle.h5w_model.specs.declared.piece.Write.{Write}
use Rattle.h5w_model.specs.declared.reply.Reply.{Reply}
use Rattle.h5w_model.specs.declared.reply.Reply.TheVariants as replies
use Rattle.h5w_space.specs.declared.Full.{Full}
use Rattle.h5w_creation_laws.specs.CreatedFiles.{created_log}
use Rattle.h5w_writer.specs.Creations.{log_of}
use Rattle.h5w_creation.specs.NewFiles.{new_file}
use Rattle.h5w_writer.specs.Refusals.{IsFullFor}
use Rattle.h5w_writer.proofs.LawLemmas.{standing_laws}
use Rattle.h5w_options.specs.declared.options.Options.{Options}
use Rattle.h5w_input.specs.Words.{line_of_script}
use Rattle.h5w_text.specs.declared.error.ErrorLine.{ErrorLine}
use Rattle.h5w_text.specs.declared.error.ErrorLine.TheVariants as errors
use Rattle.h5w_input.specs.declared.script.ScriptLine.{ScriptLine}
use Rattle.h5w_input.specs.declared.script.ScriptLine.TheVariants as script_lines
use Rattle.h5w_core.specs.Worlds.{HaveOneLog, IsNewWorld, StandsFor, WorldView, full_reply, logged, rules_of}
use Rattle.h5w_core.proofs.StateLemmas.{load_of-log}
use Rattle.h5w_writer.proofs.PastLemmas.{spent_in-events}
use Rattle.h5w_stop.specs.Sweeps.{Does, Rest, no_rows, rest_after, rest_of}
use Rattle.h5w_reader_laws.specs.Showing.{showing}
use Rattle.h5w_stop.proofs.LineLemmas.{appended_done, do_more, rest_level, rest_more}
use Rattle.h5w_stopping.specs.Writing.{Follows, IsAmid, Refuses, ShowsAll, at_rest, error_of, first_error, line_error, writing, writing_rules}

-- ---- Before the first line

pub follows_first : (o : Options) (w : WorldView) → IsNewWorld o w → HaveOneLog w at_first → rules_of w ≡ writing_rules o → Follows o [] w
follows_first o w n fits rules = record {
  log = n.log;
  is = n.is;
  stands = n.stands;
  done = record {
    begun = n.log.events;
    created = n.pieces;
    empty = ap (λ (base : List ℤ). base ++ appended_in n.log.events) (sym (ap (λ (l : Log). l.values) n.is)) ∙ n.none;
    all = refl;
  };
  name = n.name;
  rules = rules;
  accepted = refl;
  state = at_first;
  fits = fits;
  idle = refl;
  calm = refl;
  going = refl;
  appended = refl;
  flushed = refl;
  spent_is = sym n.loads ∙ ap (λ (g : Rules). spent g.cutting n.log) rules;
}

pub follows_new : {E : Type 0} (o : Options) (r : Result WorldView E) → IfOk r (IsNewWorld o) → IfOk r (λ w. HaveOneLog w at_first) → IfOk r (λ w. rules_of w ≡ writing_rules o) → IfOk r (Follows o [])
follows_new o (Ok w) n fits rules = follows_first o w n fits rules
follows_new o (Err e) n fits rules = tt

-- ---- One more line that is not refused

abbrev error_or : Rules → Rest → ℕ → Line → List Line → Option ErrorLine → Option ErrorLine
error_or g r number line lines o = elim o as (λ _. Option ErrorLine) [ Some e ↦ Some e | None ↦ first_error g (rest_after g r line) (number + 1) lines ]

pub both_none : (o other : Option ErrorLine) → (elim o as (λ _. Option ErrorLine) [ Some e ↦ Some e | None ↦ other ]) ≡ None → (o ≡ None) × (other ≡ None)
both_none (Some e) other is = absurd cc
both_none None other is = (refl, is)

first_more : (g : Rules) (r : Rest) (number : ℕ) (lines : List Line) (line : Line) → first_error g r number lines ≡ None → ((n : ℕ) → line_error g (rest_of g r lines) n line ≡ None) → first_error g r number (lines ++ line ∷ []) ≡ None
first_more g r number [] line none last = ap (error_or g r number line []) (last number)
first_more g r number (x ∷ lines) line none last =
    let before = both_none (line_error g r number x) (first_error g (rest_after g r x) (number + 1) lines) none in
    ap (error_or g r number x (lines ++ line ∷ [])) before.0 ∙ first_more g (rest_after g r x) (number + 1) lines line before.1 last

-- ---- Replies

-- of a writer that goes on, and waits for nothing
idle_reply : (g : Rules) (s : ScriptState) (r : Rest) (vs : List ℤ) → s.stopped ≡ false → s.pending ≡ 0 → s.appended ≡ r.appended → append_reply g s vs ≡ append_reply g (at_rest r) vs
idle_reply g s r vs going idle same = λ i. append_reply g (record s { stopped = going i; pending = idle i; appended = same i }) vs

-- it accepts what was given another reply than a refusal
accepts : (g : Rules) (s : ScriptState) (vs : List ℤ) (rows pending : ℕ) → AppendAllowed g s vs (replies.Appended rows pending) → (a : ℕ) × (b : ℕ) × (append_reply g s vs ≡ replies.Appended a b)
accepts g s vs rows pending (inl is) = (rows, pending, sym is)
accepts g s vs rows pending (inr early) = (rows_in g (s.appended ++ vs), 0, early.accepted)

refuses : (g : Rules) (s : ScriptState) (vs : List ℤ) (reply : Reply) → ((a b : ℕ) → reply ≡ replies.Appended a b → ⊥) → AppendAllowed g s vs reply → reply ≡ append_reply g s vs
refuses g s vs reply other (inl is) = is
refuses g s vs reply other (inr early) = absurd (other (rows_in g (s.appended ++ vs)) early.pieces early.is)

-- there are three
idle_three : (g : Rules) (r : Rest) (vs : List ℤ) (P : Reply → Type 0) → ((index : ℕ) (value : ℤ) → P (replies.OutOfRange index value)) → ((chunks limit : ℕ) → P (replies.FullChunks chunks limit)) → ((rows pending : ℕ) → P (replies.Appended rows pending))
    → P (append_reply g (at_rest r) vs)
idle_three g r vs P out full app = go (first_outside g.int_type 0 vs)
  where
    chosen : (b : Bool) (chunks limit rows : ℕ) → P (if b then replies.FullChunks chunks limit else replies.Appended rows 0)
    chosen true chunks limit rows = full chunks limit
    chosen false chunks limit rows = app rows 0

    go : (x : Option (ℕ × ℤ)) → P (elim x as (λ _. Reply) [ Some y ↦ replies.OutOfRange y.0 y.1 | None ↦ fitting_reply g (r.appended ++ vs) ])
    go (Some x) = out x.0 x.1
    go None =
        chosen (nat_lt g.chunk_limit (needed_chunks g.cutting (rows_in g (r.appended ++ vs)))) (needed_chunks g.cutting (rows_in g (r.appended ++ vs))) g.chunk_limit (rows_in g (r.appended ++ vs))

-- a flush by whether rows wait
abbrev Waiting : Rules → ScriptState → Reply → Type 0
Waiting g s reply = MatchBool (nat_lt s.flushed (rows_of g s)) (IsPlanned g s reply ⊎ IsFull g s reply) (reply ≡ replies.Flushing 0)

-- of a writer that goes on, and waits for nothing
flush_waits : (g : Rules) (s : ScriptState) (reply : Reply) → s.stopped ≡ false → s.pending ≡ 0 → FlushAllowed g s reply
    → ((s.flushed < rows_of g s) × (IsPlanned g s reply ⊎ IsFull g s reply)) ⊎ ((rows_of g s ≤ s.flushed) × (reply ≡ replies.Flushing 0))
flush_waits g s reply going idle h =
    waits (nat_lt s.flushed (rows_of g s)) refl
    (subst (λ (n : ℕ). MatchBool (nat_lt 0 n) (reply ≡ replies.Busy s.pending) (Waiting g s reply)) idle
    (subst (λ (b : Bool). MatchBool b (reply ≡ replies.Stopped) (MatchBool (nat_lt 0 s.pending) (reply ≡ replies.Busy s.pending) (Waiting g s reply))) going h))
  where
    waits : (b : Bool) → nat_lt s.flushed (rows_of g s) ≡ b → MatchBool b (IsPlanned g s reply ⊎ IsFull g s reply) (reply ≡ replies.Flushing 0)
        → ((s.flushed < rows_of g s) × (IsPlanned g s reply ⊎ IsFull g s reply)) ⊎ ((rows_of g s ≤ s.flushed) × (reply ≡ replies.Flushing 0))
    waits true is x = inl (ltb-true s.flushed (rows_of g s) is, x)
    waits false is x = inr (ltb-false s.flushed (rows_of g s) is, x)

abbrev pieces_in : Reply → ℕ
pieces_in (replies.Flushing pieces) = pieces
pieces_in reply = 0

-- pieces are planned just where rows wait
planned : (g : Rules) (s : ScriptState) (pieces : ℕ) → s.stopped ≡ false → s.pending ≡ 0 → FlushAllowed g s (replies.Flushing pieces) → (s.flushed < rows_of g s → 1 ≤ pieces) × (s.flushed ≡ rows_of g s → pieces ≡ 0)
planned g s pieces going idle h =
    elim (flush_waits g s (replies.Flushing pieces) going idle h) [
      | inl x ↦ elim x.1 [
        | inl p ↦ (let is : pieces ≡ p.pieces = ap pieces_in p.is in (λ less. omega (arith, is, p.positive), λ same. absurd (omega (arith, x.0, same))))
        | inr f ↦ absurd (let clash : replies.Flushing pieces ≡ replies.FullSpace f.place f.size g.space_limit = f.is in cc)
      ]
      | inr x ↦ (λ less. absurd (omega (arith, x.0, less)), λ same. ap pieces_in x.1)
    ]

is_full : (g : Rules) (s : ScriptState) (at size limit : ℕ) → s.stopped ≡ false → s.pending ≡ 0 → FlushAllowed g s (replies.FullSpace at size limit) → IsFull g s (replies.FullSpace at size limit)
is_full g s at size limit going idle h =
    elim (flush_waits g s (replies.FullSpace at size limit) going idle h) [
      | inl x ↦ elim x.1 [
        | inl p ↦ absurd (let clash : replies.FullSpace at size limit ≡ replies.Flushing p.pieces = p.is in cc)
        | inr f ↦ f
      ]
      | inr x ↦ absurd (let clash : replies.FullSpace at size limit ≡ replies.Flushing 0 = x.1 in cc)
    ]

flush_two : (g : Rules) (s : ScriptState) (reply : Reply) → s.stopped ≡ false → s.pending ≡ 0 → ((pieces : ℕ) → reply ≡ replies.Flushing pieces → ⊥) → ((at size limit : ℕ) → reply ≡ replies.FullSpace at size limit → ⊥)
    → FlushAllowed g s reply → ⊥
flush_two g s reply going idle flushing full h =
    elim (flush_waits g s reply going idle h) [
      | inl x ↦ elim x.1 [ inl p ↦ flushing p.pieces p.is | inr f ↦ full f.place f.size g.space_limit f.is ]
      | inr x ↦ flushing 0 x.1
    ]

-- the parts of a full file
abbrev at_in : Reply → ℕ
at_in (replies.FullSpace at size limit) = at
at_in reply = 0

abbrev size_in : Reply → ℕ
size_in (replies.FullSpace at size limit) = size
size_in reply = 0

abbrev limit_in : Reply → ℕ
limit_in (replies.FullSpace at size limit) = limit
limit_in reply = 0

-- a step between two worlds
abbrev pub Lawfully : WorldView → Line → Reply → WorldView → Type 0
Lawfully old line reply new = (s : ScriptState) → HaveOneLog old s → Allowed (rules_of old) s line reply × HaveOneLog new (next_state (rules_of old) s line reply)

-- ---- A line is begun

module _ (o : Options) (lines : List Line) (old new : WorldView) (f : Follows o lines old) where
  abbrev g : Rules
  g = writing_rules o

  abbrev rest : Rest
  rest = rest_of g no_rows lines

  values_there : appended f.log ≡ rest.appended
  values_there = ap (λ (base : List ℤ). base ++ appended_in f.log.events) (ap (λ (l : Log). l.values) f.is) ∙ appended_done g no_rows lines f.done.begun f.log.events f.done.all f.done.empty

  flushed_there : f.state.flushed ≡ flushed_rows f.log
  flushed_there = f.fits.state.flushed ∙ sym (standing_laws.flushed_rows old.session f.fits.log f.fits.stands.stands) ∙ standing_laws.flushed_rows old.session f.log f.stands.stands

  columns_there : f.log.columns ≡ g.cutting.columns
  columns_there = standing_laws.columns old.session f.log f.stands.stands ∙ ap (λ (h : Rules). h.cutting.columns) f.rules

  -- by the rules of the options
  stepped : (line : Line) (reply x : Reply) → reply ≡ x → Lawfully old line reply new → Allowed g f.state line x × HaveOneLog new (next_state g f.state line x)
  stepped line reply x is h =
      subst (λ (y : Reply). Allowed g f.state line y × HaveOneLog new (next_state g f.state line y)) is
      (subst (λ (r : Rules). Allowed r f.state line reply × HaveOneLog new (next_state r f.state line reply)) f.rules (h f.state f.fits))

  same_reply : (vs : List ℤ) → append_reply g f.state vs ≡ append_reply g (at_rest rest) vs
  same_reply vs = idle_reply g f.state rest vs f.going f.idle f.appended

  pub amid_append : (vs : List ℤ) (reply : Reply) (rows pending : ℕ) → reply ≡ replies.Appended rows pending → rules_of new ≡ rules_of old → new.session.name ≡ old.session.name
      → ((log : Log) → StandsFor old log → StandsFor new (logged old (events.Append vs) reply log)) → Lawfully old (adds vs) reply new → IsAmid o lines (adds vs) new
  amid_append vs reply rows pending is rules name logs lawful =
      let at = stepped (adds vs) reply (replies.Appended rows pending) is lawful in
      let ok = accepts g f.state vs rows pending at.0 in
      let log : Log = and_now (appends vs) f.log in
      let values : f.state.appended ++ vs ≡ appended log = ap (λ (xs : List ℤ). xs ++ vs) (f.appended ∙ sym values_there) ∙ append_assoc f.log.values (appended_in f.log.events) vs in
      let loads : load_of g f.state (f.state.appended ++ vs) ≡ load g.cutting log = load_of-log g f.state (f.state.appended ++ vs) log columns_there flushed_there values in
      record {
        before = f.log.events;
        done = f.done;
        event = appends vs;
        log = log;
        is = ap (and_now (appends vs)) f.is;
        stands = subst (λ (x : Reply). StandsFor new (logged old (events.Append vs) x f.log)) is (logs f.log f.stands);
        name = name ∙ f.name;
        rules = rules ∙ f.rules;
        accepted = first_more g no_rows 1 lines (adds vs) f.accepted (λ n. ap (error_of n) (sym (same_reply vs) ∙ ok.2));
        state = next_state g f.state (adds vs) (replies.Appended rows pending);
        fits = at.1;
        going = f.going;
        means = (refl, refl);
        appended = ap (λ (xs : List ℤ). xs ++ vs) f.appended ∙ ap (λ (r : Rest). r.appended) (sym (rest_more g no_rows lines (adds vs)));
        flushed = f.flushed;
        spent_is =
            ap (λ n. n + load_of g f.state (f.state.appended ++ vs)) (f.spent_is ∙ sym (spent_in-events g.cutting f.log (appends vs ∷ f.log.events) f.log.events))
            ∙ ap (λ n. spent_in g.cutting log f.log.events + n) loads;
      }

  pub out_of_range : (vs : List ℤ) (reply : Reply) (number index : ℕ) (value : ℤ) → reply ≡ replies.OutOfRange index value → Lawfully old (adds vs) reply new → Refuses o lines number (adds vs) (errors.Range number index value)
  out_of_range vs reply number index value is lawful =
      let at = stepped (adds vs) reply (replies.OutOfRange index value) is lawful in
      ap (error_of number) (sym (same_reply vs) ∙ sym (refuses g f.state vs (replies.OutOfRange index value) (λ a b e. let clash : replies.OutOfRange index value ≡ replies.Appended a b = e in cc) at.0))

  pub full_chunks : (vs : List ℤ) (reply : Reply) (number chunks limit : ℕ) → reply ≡ replies.FullChunks chunks limit → Lawfully old (adds vs) reply new → Refuses o lines number (adds vs) (errors.FullChunks chunks limit)
  full_chunks vs reply number chunks limit is lawful =
      let at = stepped (adds vs) reply (replies.FullChunks chunks limit) is lawful in
      ap (error_of number) (sym (same_reply vs) ∙ sym (refuses g f.state vs (replies.FullChunks chunks limit) (λ a b e. let clash : replies.FullChunks chunks limit ≡ replies.Appended a b = e in cc) at.0))

  pub no_other_append : (vs : List ℤ) (reply : Reply) → ((rows pending : ℕ) → reply ≡ replies.Appended rows pending → ⊥) → ((index : ℕ) (value : ℤ) → reply ≡ replies.OutOfRange index value → ⊥)
      → ((chunks limit : ℕ) → reply ≡ replies.FullChunks chunks limit → ⊥) → Lawfully old (adds vs) reply new → ⊥
  no_other_append vs reply app out full lawful =
      let at = stepped (adds vs) reply reply refl lawful in
      let is : reply ≡ append_reply g (at_rest rest) vs = refuses g f.state vs reply app at.0 ∙ same_reply vs in
      idle_three g rest vs (λ (x : Reply). reply ≡ x → ⊥) out full app is

  pub amid_flush : (reply : Reply) (pieces : ℕ) → reply ≡ replies.Flushing pieces → rules_of new ≡ rules_of old → new.session.name ≡ old.session.name
      → ((log : Log) → StandsFor old log → StandsFor new (logged old events.Flush reply log)) → Lawfully old flushes reply new → IsAmid o lines flushes new
  amid_flush reply pieces is rules name logs lawful =
      let at = stepped flushes reply (replies.Flushing pieces) is lawful in
      let log : Log = and_now (plans pieces) f.log in
      let count : pieces ≡ length new.session.pending = at.1.state.pending in
      let plan = planned g f.state pieces f.going f.idle at.0 in
      let rows : rows_of g f.state ≡ rows_in g rest.appended = ap (rows_in g) f.appended in
      let loads : load_of g f.state f.state.appended ≡ load g.cutting f.log = load_of-log g f.state f.state.appended f.log columns_there flushed_there (f.appended ∙ sym values_there) in
      record {
        before = f.log.events;
        done = f.done;
        event = plans pieces;
        log = log;
        is = ap (and_now (plans pieces)) f.is;
        stands = subst (λ (x : Reply). StandsFor new (logged old events.Flush x f.log)) is (logs f.log f.stands);
        name = name ∙ f.name;
        rules = rules ∙ f.rules;
        accepted = first_more g no_rows 1 lines flushes f.accepted (λ n. refl);
        state = next_state g f.state flushes (replies.Flushing pieces);
        fits = at.1;
        going = f.going;
        means = (ap plans count, ap (nat_lt 0) count, λ less. omega (arith, count, plan.0 (omega (arith, less, rows, f.flushed))), λ same. omega (arith, count, plan.1 (omega (arith, same, rows, f.flushed))));
        appended = f.appended ∙ ap (λ (r : Rest). r.appended) (sym (rest_more g no_rows lines flushes));
        flushed = f.flushed;
        spent_is =
            ap (λ n. n + load_of g f.state f.state.appended) (f.spent_is ∙ sym (spent_in-events g.cutting f.log (plans pieces ∷ f.log.events) f.log.events))
            ∙ ap (λ n. spent_in g.cutting log f.log.events + n) loads;
      }

  pub full_space : (reply : Reply) (number : ℕ) (full : Full) → reply ≡ full_reply full → IsFullFor old.session full → Lawfully old flushes reply new → Refuses o lines number flushes (errors.FullSpace full.at full.size full.limit)
  full_space reply number full is full_for lawful =
      let at = stepped flushes reply (full_reply full) is lawful in
      let e = is_full g f.state full.at full.size full.limit f.going f.idle at.0 in
      let loads : load_of g f.state f.state.appended ≡ load g.cutting f.log = load_of-log g f.state f.state.appended f.log columns_there flushed_there (f.appended ∙ sym values_there) in
      let place : full.at ≡ e.place = ap at_in e.is in
      let size : full.size ≡ e.size = ap size_in e.is in
      let limit : full.limit ≡ o.limit = ap limit_in e.is in
      let most : g.space_limit ≡ o.limit = refl in (
        refl,
        record {
          log = f.log;
          is = f.is;
          done = f.done;
          session = old.session;
          stands = f.stands.stands;
          full_for = full_for;
          limit = limit;
          some = omega (arith, e.positive, size);
          past = omega (arith, e.full, place, size, limit, most);
          size_bound = omega (arith, e.size_bound, size, loads);
          at_bound = omega (arith, e.place_bound, place, loads, f.spent_is);
        },
      )

  pub no_other_flush : (reply : Reply) → ((pieces : ℕ) → reply ≡ replies.Flushing pieces → ⊥) → ((at size limit : ℕ) → reply ≡ replies.FullSpace at size limit → ⊥) → Lawfully old flushes reply new → ⊥
  no_other_flush reply flushing full lawful =
      let at = stepped flushes reply reply refl lawful in
      flush_two g f.state reply f.going f.idle flushing full at.0

-- ---- A line is done

shows_spent : (c : Cutting) (log : Log) (ws : List Write) (es : List Happening) → spent_in c log (showing ws es) ≡ spent_in c log es
shows_spent c log [] es = refl
shows_spent c log (w ∷ ws) es = shows_spent c log ws (shows w ∷ es)

abbrev all_visible : Rules → ScriptState → Bool → ScriptState
all_visible g s b = if b then committed g s else record s { pending = 0 }

-- what is left of a state once all that is pending became visible
record Settled (g : Rules) (s t : ScriptState) (b : Bool) : Type 0 where
  idle : t.pending ≡ 0
  calm : t.ends_flush ≡ false
  going : t.stopped ≡ s.stopped
  appended : t.appended ≡ s.appended
  spent_is : t.spent ≡ s.spent
  flushed : t.flushed ≡ (if b then rows_of g s else s.flushed)

settled : (g : Rules) (s t : ScriptState) (b : Bool) → s.ends_flush ≡ b → t ≡ all_visible g s b → Settled g s t b
settled g s t true calm is = record {
  idle = ap (λ (x : ScriptState). x.pending) is;
  calm = ap (λ (x : ScriptState). x.ends_flush) is;
  going = ap (λ (x : ScriptState). x.stopped) is;
  appended = ap (λ (x : ScriptState). x.appended) is;
  spent_is = ap (λ (x : ScriptState). x.spent) is;
  flushed = ap (λ (x : ScriptState). x.flushed) is;
}
settled g s t false calm is = record {
  idle = ap (λ (x : ScriptState). x.pending) is;
  calm = ap (λ (x : ScriptState). x.ends_flush) is ∙ calm;
  going = ap (λ (x : ScriptState). x.stopped) is;
  appended = ap (λ (x : ScriptState). x.appended) is;
  spent_is = ap (λ (x : ScriptState). x.spent) is;
  flushed = ap (λ (x : ScriptState). x.flushed) is;
}

after_all : (g : Rules) (s : ScriptState) → Settled g s (after_shows g s s.pending) s.ends_flush
after_all g s =
    settled g s (after_shows g s s.pending) s.ends_flush refl
    (cond-false (nat_lt s.pending s.pending) (record s { pending = s.pending - s.pending }) (all_visible g s s.ends_flush) (le-ltb s.pending s.pending (omega arith)))

module _ (o : Options) (lines : List Line) (mid new : WorldView) where
  abbrev goes_by : Rules
  goes_by = writing_rules o

  abbrev rest_before : Rest
  rest_before = rest_of goes_by no_rows lines

  does : (line : Line) (a : IsAmid o lines line mid) (h : ShowsAll mid new) → Does goes_by rest_before line a.before (showing h.pieces (a.event ∷ a.before))
  does (adds vs) a h = record { pieces = h.pieces; is = ap (λ (e : Happening). showing h.pieces (e ∷ a.before)) a.means.0 }
  does flushes a h = record {
    pieces = h.pieces;
    is = ap (λ (e : Happening). showing h.pieces (e ∷ a.before)) (a.means.0 ∙ ap plans (sym h.count));
    some = λ less. omega (arith, h.count, a.means.2 less);
    none = λ same. nil_from_length h.pieces (h.count ∙ a.means.3 same);
  }
  does (shows_up_to k) a h = absurd a.means
  does ends a h = absurd a.means
  does (opens n) a h = absurd a.means
  does (refreshes n) a h = absurd a.means
  does (reads n from count) a h = absurd a.means
  does (looks n k) a h = absurd a.means

  -- the rows that are flushed then
  flushed_then : (line : Line) (a : IsAmid o lines line mid) (b : Bool) → a.state.ends_flush ≡ b → (if b then rows_of goes_by a.state else a.state.flushed) ≡ (rest_after goes_by rest_before line).flushed
  flushed_then (adds vs) a true calm = absurd (let clash : true ≡ false = sym calm ∙ a.means.1 in cc)
  flushed_then (adds vs) a false calm = a.flushed
  flushed_then flushes a true calm = ap (rows_in goes_by) (a.appended ∙ ap (λ (r : Rest). r.appended) (rest_more goes_by no_rows lines flushes))
  flushed_then flushes a false calm = a.flushed ∙ all_flushed (cases_lt rest_before.flushed (rows_in goes_by rest_before.appended))
    where
      none : length mid.session.pending ≤ 0
      none = ltb-false 0 (length mid.session.pending) (sym a.means.1 ∙ calm)

      all_flushed : (rest_before.flushed < rows_in goes_by rest_before.appended) ⊎ (rows_in goes_by rest_before.appended ≤ rest_before.flushed) → rest_before.flushed ≡ rows_in goes_by rest_before.appended
      all_flushed (inl less) = absurd (omega (arith, none, a.means.2 less))
      all_flushed (inr high) = omega (arith, high, rest_level goes_by no_rows lines (omega arith))
  flushed_then (shows_up_to k) a b calm = absurd a.means
  flushed_then ends a b calm = absurd a.means
  flushed_then (opens n) a b calm = absurd a.means
  flushed_then (refreshes n) a b calm = absurd a.means
  flushed_then (reads n from count) a b calm = absurd a.means
  flushed_then (looks n k) a b calm = absurd a.means

  pub follows_next : (line : Line) → IsAmid o lines line mid → ShowsAll mid new → Follows o (lines ++ line ∷ []) new
  follows_next line a h =
      let events : List Happening = showing h.pieces (a.event ∷ a.before) in
      let log : Log = log_of (new_file o) events in
      let rules : rules_of mid ≡ goes_by = a.rules in
      let t : ScriptState = after_shows (rules_of mid) a.state a.state.pending in
      let left : Settled goes_by a.state t a.state.ends_flush = subst (λ (r : Rules). Settled goes_by a.state (after_shows r a.state a.state.pending) a.state.ends_flush) (sym rules) (after_all goes_by a.state) in
      let over : spent goes_by.cutting a.log ≡ spent goes_by.cutting log =
      ap (spent goes_by.cutting) a.is
      ∙ spent_in-events goes_by.cutting (created_log (new_file o)) (a.event ∷ a.before) (a.event ∷ a.before)
      ∙ sym (spent_in-events goes_by.cutting (created_log (new_file o)) events (a.event ∷ a.before))
      ∙ sym (shows_spent goes_by.cutting log h.pieces (a.event ∷ a.before)) in
      record {
        log = log;
        is = refl;
        stands = subst (λ (l : Log). StandsFor new (record l { events = showing h.pieces l.events })) a.is (h.logs a.log a.stands);
        done = record { begun = a.done.begun; created = a.done.created; empty = a.done.empty; all = do_more goes_by no_rows lines line a.done.begun a.before events a.done.all (does line a h) };
        name = h.name ∙ a.name;
        rules = h.rules ∙ rules;
        accepted = a.accepted;
        state = t;
        fits = h.fits a.state a.fits;
        idle = left.idle;
        calm = left.calm;
        going = left.going ∙ a.going;
        appended = left.appended ∙ a.appended;
        flushed = left.flushed ∙ flushed_then line a a.state.ends_flush refl ∙ ap (λ (r : Rest). r.flushed) (sym (rest_more goes_by no_rows lines line));
        spent_is = left.spent_is ∙ a.spent_is ∙ over;
      }

  -- it is one of the writer
  pub is_writing : (line : Line) → IsAmid o lines line mid → writing line ≡ Some line
  is_writing (adds vs) a = refl
  is_writing flushes a = refl
  is_writing (shows_up_to k) a = absurd a.means
  is_writing ends a = absurd a.means
  is_writing (opens n) a = absurd a.means
  is_writing (refreshes n) a = absurd a.means
  is_writing (reads n from count) a = absurd a.means
  is_writing (looks n k) a = absurd a.means

pub no_writing : (line : ScriptLine) → ((values : List ℤ) → line ≡ script_lines.Append values → ⊥) → (line ≡ script_lines.Flush → ⊥) → writing (line_of_script line) ≡ None
no_writing (script_lines.Append values) app flush = absurd (app values refl)
no_writing script_lines.Flush app flush = absurd (flush refl)
no_writing (script_lines.Write pieces) app flush = refl
no_writing script_lines.Stop app flush = refl
no_writing (script_lines.Open reader) app flush = refl
no_writing (script_lines.Refresh reader) app flush = refl
no_writing (script_lines.Read reader from count) app flush = refl
no_writing (script_lines.Look reader most) app flush = refl
