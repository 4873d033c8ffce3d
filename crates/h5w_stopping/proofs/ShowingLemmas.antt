-- All pending pieces become visible.
use Rattle.std.proofs.Common.{◌≡◌, ℕ, ◌+◌, ◌-◌, ◌<◌, ◌≤◌, if◌then◌else◌, nat_lt, List, [], ◌∷◌, ◌++◌, length, length-append, sym, refl, ap, ◌∙◌, subst, arith}
use Rattle.std.proofs.lemmas.Bool.{cond_both, ltb-false}
use Rattle.h5w_model.specs.Lawful.{Rules, ScriptState, Allowed, after_shows, committed, next_state, shows_up_to}
use Rattle.h5w_model.specs.Logs.{Happening, Log, and_now, shows}
use Rattle.h5w_model.specs.declared.event.Event.TheVariants as events
use Rattle.h5w_model.specs.declared.piece.Write.{Write}
use Rattle.h5w_model.specs.declared.reply.Reply.{Reply}
use Rattle.h5w_core.specs.Worlds.{HaveOneLog, StandsFor, WorldView, logged, rules_of}
use Rattle.h5w_reader_laws.specs.Showing.{showing}
use Rattle.h5w_stopping.specs.Writing.{ShowsAll}
use Rattle.h5w_playing.proofs.ShowLemmas.{Shown, more_shown, none_shown}

showing_push : (ws : List Write) (w : Write) (es : List Happening) → showing (ws ++ w ∷ []) es ≡ shows w ∷ showing ws es
showing_push [] w es = refl
showing_push (x ∷ ws) w es = showing_push ws w (shows x ∷ es)

-- so many of the pieces that were pending became visible
pub record ShowsFirst (old now : WorldView) (j : ℕ) : Type 0 where
  pub pieces : List Write
  pub count : length pieces ≡ j
  pub logs : (log : Log) → StandsFor old log → StandsFor now (record log { events = showing pieces log.events })
  pub name : now.session.name ≡ old.session.name
  pub shown : Shown old now j

pub shows_none : (w : WorldView) → ShowsFirst w w 0
shows_none w = record { pieces = []; count = refl; logs = λ log stands. stands; name = refl; shown = none_shown w }

pending_after : (g : Rules) (s : ScriptState) (j : ℕ) → j ≤ s.pending → (after_shows g s j).pending ≡ s.pending - j
pending_after g s j low =
    cond_both (nat_lt j s.pending) (record s { pending = s.pending - j }) (if s.ends_flush then committed g s else record s { pending = 0 }) (λ (t : ScriptState). t.pending ≡ s.pending - j)
    (λ less. refl)
    (λ all.
    let none : 0 ≡ s.pending - j = omega (arith, low, ltb-false j s.pending all) in
    cond_both s.ends_flush (committed g s) (record s { pending = 0 }) (λ (t : ScriptState). t.pending ≡ s.pending - j) (λ b. none) (λ b. none))

first_of : (ps : List Write) → 1 ≤ length ps → (w : Write) × (ws : List Write) × (ps ≡ w ∷ ws)
first_of [] some = absurd (omega (arith, some))
first_of (w ∷ ws) some = (w, ws, refl)

next_shown : (now : WorldView) (reply : Reply) (w : Write) (ws : List Write) (log : Log) → now.session.pending ≡ w ∷ ws → logged now events.Visible reply log ≡ and_now (shows w) log
next_shown now reply w ws log is = ap (λ (ps : List Write). elim ps as (λ _. Log) [ [] ↦ log | piece ∷ pieces ↦ and_now (shows piece) log ]) is

pub shows_more : (old now new : WorldView) (j : ℕ) (reply : Reply) (s : ScriptState) → HaveOneLog old s → ShowsFirst old now j → j < length old.session.pending → rules_of new ≡ rules_of now → new.session.name ≡ now.session.name
    → ((log : Log) → StandsFor now log → StandsFor new (logged now events.Visible reply log))
    → ((s : ScriptState) → HaveOneLog now s → Allowed (rules_of now) s (shows_up_to 1) reply × HaveOneLog new (next_state (rules_of now) s (shows_up_to 1) reply)) → ShowsFirst old new (j + 1)
shows_more old now new j reply s fits h less rules name logs lawful =
    let fitting = h.shown.fits s fits in
    let left : length now.session.pending ≡ s.pending - j = sym fitting.state.pending ∙ pending_after (rules_of old) s j (omega (arith, less, fits.state.pending)) in
    let one = first_of now.session.pending (omega (arith, left, less, fits.state.pending)) in
    record {
      pieces = h.pieces ++ one.0 ∷ [];
      count = omega (arith, h.count, length-append h.pieces (one.0 ∷ []));
      logs = λ log stands.
          let behind : Log = record log { events = showing h.pieces log.events } in
          subst (StandsFor new) (next_shown now reply one.0 one.1 behind one.2 ∙ ap (λ (es : List Happening). record log { events = es }) (sym (showing_push h.pieces one.0 log.events))) (logs behind (h.logs log stands));
      name = name ∙ h.name;
      shown = more_shown old now new j reply h.shown less rules lawful;
    }

pub shows_all : (old now : WorldView) (j : ℕ) → j ≡ length old.session.pending → ShowsFirst old now j → ShowsAll old now
shows_all old now j all h = record {
  pieces = h.pieces;
  count = h.count ∙ all;
  logs = h.logs;
  rules = h.shown.rules;
  name = h.name;
  fits = λ s f. subst (λ n. HaveOneLog now (after_shows (rules_of old) s n)) (all ∙ sym f.state.pending) (h.shown.fits s f);
}
