-- A machine of several datasets answers the lines of a script.
use Rattle.std.proofs.Common.{ℕ, zero, suc, ◌+◌, ◌-◌, ◌<◌, ◌≤◌, ◌≡◌, ◌∙◌, min, List, [], ◌∷◌, length, Some, Result, Ok, Err, refl, sym, ap, subst, arith, tests}
use Rattle.std.specs.Prelude.{IfOk, nat_lt, false}
use Rattle.h5w_model.specs.Lawful.{Line, looks, shows_up_to}
use Rattle.h5w_model.specs.declared.reply.Reply.{Reply}
use Rattle.h5w_model.specs.declared.reply.Reply.TheVariants as replies
use Rattle.h5w_script_laws.specs.OneByOne.{EndsLine}
use Rattle.h5w_writer.specs.Sessions.{Session}
use Rattle.h5w_several_writer_laws.specs.Sessions.{all_pending}
use Rattle.h5w_several_script_laws.specs.Scripts.{FileReply, FileState, SetState, AllowedAll, asks, due, flushing_each, goes_on, left_after, next_all, pending_in, says, shown_sets, takes, took_over, total, using}
use Rattle.h5w_several_world_laws.specs.Worlds.{AreStatesOf}
use Rattle.h5w_several_world_laws.proofs.ShownLemmas.{total_left}
use Rattle.h5w_several_core.specs.Worlds.{HaveFileLog, SeveralView, reply_of, rules_of}
use Rattle.h5w_several_core.specs.declared.events.FileReply.{FileReply as Answer}
use Rattle.h5w_several_core.specs.declared.events.FileReply.TheVariants as answers
use Rattle.h5w_playing.specs.Lines.{file_line_of}
use Rattle.h5w_playing.specs.Machines.{GivesReply}
use Rattle.h5w_several_playing.specs.Sets.{AnswersIn, FitsAll, SaysIn, ScriptView, TakesIn, spelling_in}
use Rattle.h5w_several_playing.proofs.LookLemmas.{LookedAll, is_line}
use Rattle.h5w_several_playing.proofs.PieceLemmas.{left_none, line_allowed, one_more, set_none, shown_by}
use Rattle.h5w_several_playing.proofs.UsedLemmas.{keeps_used}

-- ---- Pieces

pending_is : (w : SeveralView) (F : FileState) → HaveFileLog w F → pending_in F ≡ length (all_pending w.session.parts)
pending_is w F f = ap total f.have.state.left ∙ total_left w.session.parts

idle_due : (before n : ℕ) → due before n ≡ 0 → nat_lt 0 n ≡ false
idle_due before zero e = grind (arith, tests)
idle_due before (suc n) e = absurd (omega (arith, e))

none_sets : (limit attempts before : ℕ) (ss : List Session) (xs : List SetState) → AreStatesOf limit attempts before ss xs → shown_sets 0 xs ≡ xs
none_sets limit attempts before [] [] h = refl
none_sets limit attempts before [] (x ∷ xs) h = absurd h
none_sets limit attempts before (s ∷ ss) [] h = absurd h
none_sets limit attempts before (s ∷ ss) (x ∷ xs) h =
    let own = set_none x (λ none. h.0.ends_flush ∙ idle_due before (length s.pending) (sym h.0.pending ∙ none)) in
    ap (λ (y : SetState). y ∷ shown_sets 0 xs) own ∙ ap (λ (ys : List SetState). x ∷ ys) (none_sets limit attempts (before + length s.pending) ss xs h.1)

-- so many pieces became visible between two machines
pub record Shown (old now : SeveralView) (j : ℕ) : Type 0 where
  pub rules : rules_of now ≡ rules_of old
  pub fits : (F : FileState) → HaveFileLog old F → HaveFileLog now (shown_by j F)

pub none_shown : (w : SeveralView) → Shown w w 0
none_shown w = record {
  rules = refl;
  fits = λ F f.
      let same : shown_by 0 F ≡ F =
      ap (λ (ys : List SetState). record F { sets = ys; left = left_after 0 F.left }) (none_sets _ _ _ _ F.sets f.have.state.states) ∙ ap (λ (ns : List ℕ). record F { left = ns }) (left_none F.left) in
      subst (λ (G : FileState). HaveFileLog w G) (sym same) f;
}

pub more_shown : (old now new : SeveralView) (j : ℕ) (reply : FileReply) → Shown old now j → j < length (all_pending old.session.parts) → rules_of new ≡ rules_of now
    → ((F : FileState) → HaveFileLog now F → Unit {0} → AllowedAll F (asks (shows_up_to 1)) reply × HaveFileLog new (next_all F (asks (shows_up_to 1)) reply)) → Shown old new (j + 1)
more_shown old now new j reply h bound same step = record {
  rules = same ∙ h.rules;
  fits = λ F f.
      let stepped = step (shown_by j F) (h.fits F f) tt in
      subst (λ (G : FileState). HaveFileLog new G) (one_more F j reply (omega (arith, pending_is old F f, bound)) stepped.0) stepped.1;
}

-- the pieces that one line asks for
pub line_shown : (used : ℕ) (old now : SeveralView) (most pieces q : ℕ) → Shown old now pieces → q ≡ length (all_pending old.session.parts) → pieces ≡ min most q → AnswersIn used old (shows_up_to most) (says (replies.Written pieces (q - pieces))) now
line_shown used old now most pieces q h all least = record {
  rules = h.rules;
  lawful = λ F f u. (line_allowed F most pieces q (pending_is old F f ∙ sym all) least, h.fits F f);
}

-- ---- Looks

-- so many looks of a reader were taken between two machines, and none was answered
pub record Looked (old now : SeveralView) (r j : ℕ) : Type 0 where
  pub rules : rules_of now ≡ rules_of old
  pub fits : (F : FileState) → HaveFileLog old F → (G : FileState) × HaveFileLog now G × LookedAll F r j G

-- what one more look does in each state that fits
abbrev pub LooksOnce : SeveralView → SeveralView → ℕ → FileReply → Type 0
LooksOnce now new r reply = (F : FileState) → HaveFileLog now F → Unit {0} → AllowedAll F (asks (looks r 1)) reply × HaveFileLog new (next_all F (asks (looks r 1)) reply)

pub none_looked : (w : SeveralView) (r : ℕ) → Looked w w r 0
none_looked w r = record { rules = refl; fits = λ F f. (F, f, refl) }

pub more_looked : (old now new : SeveralView) (r j reader : ℕ) → Looked old now r j → rules_of new ≡ rules_of now → LooksOnce now new r (says (replies.Looking reader)) → Looked old new r (suc j)
more_looked old now new r j reader h same step = record {
  rules = same ∙ h.rules;
  fits = λ F f.
      let l = h.fits F f in
      let once = step l.0 l.1 tt in
      (next_all l.0 (asks (looks r 1)) (says (replies.Looking reader)), once.1, (l.0, l.2, record { reader = reader; allowed = once.0; is = refl }));
}

-- the looks of a line, the last of which gives its reply
pub line_looked : (used : ℕ) (old now new : SeveralView) (r j k : ℕ) (reply : Reply) → Looked old now r j → rules_of new ≡ rules_of now → LooksOnce now new r (says reply) → EndsLine reply k (j + 1) → AnswersIn used old (looks r k) (says reply) new
line_looked used old now new r j k reply h same step ends = record {
  rules = same ∙ h.rules;
  lawful = λ F f u.
      let l = h.fits F f in
      let once = step l.0 l.1 tt in
      let line = is_line F l.0 r j k reply l.2 once.0 ends in
      (line.allowed, subst (λ (G : FileState). HaveFileLog new G) (sym line.same) once.1);
}

-- a look's reply is as a script of one dataset is given it
never_other : (F : FileState) (r : ℕ) (reply : FileReply) → ((own : Reply) → reply ≡ says own → ⊥) → AllowedAll F (asks (looks r 1)) reply → ⊥
never_other F r reply other a = other a.own a.is

-- this reply ends a line of at most k looks, after so many of them
abbrev pub EndsWith : Answer → ℕ → ℕ → Type 0
EndsWith (answers.Says reply) k j = EndsLine reply k j
EndsWith (answers.Flushing counts) k j = Unit {0}
EndsWith answers.Running k j = Unit {0}
EndsWith (answers.TakenOver rows) k j = Unit {0}

-- no other reply is given
other_looked : (used : ℕ) (old now new : SeveralView) (r j k : ℕ) (reply : FileReply) → Looked old now r j → rules_of new ≡ rules_of now → LooksOnce now new r reply → ((own : Reply) → reply ≡ says own → ⊥) → AnswersIn used old (looks r k) reply new
other_looked used old now new r j k reply h same step other = record {
  rules = same ∙ h.rules;
  lawful = λ F f u.
      let l = h.fits F f in
      absurd (never_other l.0 r reply other (step l.0 l.1 tt).0);
}

pub answer_looked : (used : ℕ) (old now new : SeveralView) (r j k : ℕ) (answer : Answer) → Looked old now r j → rules_of new ≡ rules_of now → LooksOnce now new r (reply_of answer) → EndsWith answer k (j + 1) → AnswersIn used old (looks r k) (reply_of answer) new
answer_looked used old now new r j k (answers.Says reply) h same step ends = line_looked used old now new r j k reply h same step ends
answer_looked used old now new r j k (answers.Flushing counts) h same step ends = other_looked used old now new r j k (flushing_each counts) h same step (λ own e. cc)
answer_looked used old now new r j k answers.Running h same step ends = other_looked used old now new r j k goes_on h same step (λ own e. cc)
answer_looked used old now new r j k (answers.TakenOver rows) h same step ends = other_looked used old now new r j k (took_over rows) h same step (λ own e. cc)

-- any other answer than that more looks are to be taken
pub ends_other : (answer : Answer) (k j : ℕ) → j ≤ k → ((reader : ℕ) → answer ≡ answers.Says (replies.Looking reader) → ⊥) → EndsWith answer k j
ends_other (answers.Says reply) k j within other = record { within = within; looking = λ reader e. absurd (other reader (ap answers.Says e)) }
ends_other (answers.Flushing counts) k j within other = tt
ends_other answers.Running k j within other = tt
ends_other (answers.TakenOver rows) k j within other = tt

ends_last : (answer : Answer) (k j : ℕ) → k ≡ j → EndsWith answer k j
ends_last (answers.Says reply) k j e = record { within = omega (arith, e); looking = λ reader is. e }
ends_last (answers.Flushing counts) k j e = tt
ends_last answers.Running k j e = tt
ends_last (answers.TakenOver rows) k j e = tt

-- the last look of a line
pub last_looked : {E : Type 0} (used : ℕ) (old now new : SeveralView) (r j k : ℕ) (result : Result Answer E) → Looked old now r j → rules_of new ≡ rules_of now → IfOk result (λ answer. LooksOnce now new r (reply_of answer)) → k ≡ j + 1
    → IfOk result (λ answer. AnswersIn used old (looks r k) (reply_of answer) new)
last_looked used old now new r j k (Ok answer) h same step e = answer_looked used old now new r j k answer h same step (ends_last answer k (j + 1) e)
last_looked used old now new r j k (Err x) h same step e = tt

-- ---- Lines

pub asked_in : (old new : ScriptView) (bytes : List ℕ) (line : Line) (before after : List ℕ) → file_line_of (spelling_in old) bytes ≡ Some (asks line) → SaysIn old line new before after
    → GivesReply (spelling_in old) bytes (FitsAll old) (FitsAll new) before after
asked_in old new bytes line before after spelled told = record {
  line = asks line;
  reply = told.reply;
  spelled = spelled;
  lawful = λ F f.
      let a = told.answers.lawful F f.fits f.used in
      (a.0, record { fits = a.1; used = keeps_used F line told.reply ∙ f.used ∙ sym told.used });
  text = told.text;
}

-- a takeover leaves which dataset is in use
used_taken : (F : FileState) (reply : FileReply) → (next_all F takes reply).used ≡ F.used
used_taken F (using i) = refl
used_taken F (flushing_each counts) = refl
used_taken F goes_on = refl
used_taken F (took_over rows) = refl
used_taken F (says reply) = refl

pub taken_in : (old new : ScriptView) (bytes : List ℕ) (before after : List ℕ) → file_line_of (spelling_in old) bytes ≡ Some takes → TakesIn old new before after → GivesReply (spelling_in old) bytes (FitsAll old) (FitsAll new) before after
taken_in old new bytes before after spelled took = record {
  line = takes;
  reply = took.reply;
  spelled = spelled;
  lawful = λ F f.
      let a = took.lawful F f.fits in
      (a.0, record { fits = a.1; used = used_taken F took.reply ∙ f.used ∙ sym took.used });
  text = took.text;
}
