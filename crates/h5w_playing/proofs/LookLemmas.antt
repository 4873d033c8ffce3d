-- Looks at a world that are taken one by one are the looks of one line.
use Rattle.std.proofs.Common.{ℕ, suc, ◌+◌, ◌≡◌, Result, Ok, Err, sym, refl, ◌∙◌, subst, arith}
use Rattle.std.specs.Prelude.{IfOk}
use Rattle.h5w_model.specs.Lawful.{looks, Rules, ScriptState, Allowed, next_state}
use Rattle.h5w_model.specs.declared.reply.Reply.{Reply}
use Rattle.h5w_model.specs.declared.reply.Reply.TheVariants as replies
use Rattle.h5w_script_laws.specs.OneByOne.{EndsLine, LookedOn}
use Rattle.h5w_script_laws.proofs.OneByOneLemmas.{looks_one_by_one}
use Rattle.h5w_core.specs.Worlds.{WorldView, HaveOneLog, rules_of}
use Rattle.h5w_playing.specs.Answers.{Answers}

-- so many looks of a reader were taken between two worlds, and none was answered
pub record Looked (old now : WorldView) (r j : ℕ) : Type 0 where
  pub rules : rules_of now ≡ rules_of old
  pub fits : (s : ScriptState) → HaveOneLog old s → (shown : ScriptState) × HaveOneLog now shown × LookedOn (rules_of old) s r j shown

-- what one more look does in each state that fits
abbrev LooksBy : Rules → WorldView → WorldView → ℕ → Reply → Type 0
LooksBy g now new r reply = (s : ScriptState) → HaveOneLog now s → Allowed g s (looks r 1) reply × HaveOneLog new (next_state g s (looks r 1) reply)

abbrev pub LooksOnce : WorldView → WorldView → ℕ → Reply → Type 0
LooksOnce now new r reply = LooksBy (rules_of now) now new r reply

looks_by : (old now new : WorldView) (r j : ℕ) (reply : Reply) → Looked old now r j → LooksOnce now new r reply → LooksBy (rules_of old) now new r reply
looks_by old now new r j reply h step = subst (λ (g : Rules). LooksBy g now new r reply) h.rules step

pub more_looked : (old now new : WorldView) (r j reader : ℕ) → Looked old now r j → rules_of new ≡ rules_of now → LooksOnce now new r (replies.Looking reader) → Looked old new r (suc j)
more_looked old now new r j reader h same step = record {
  rules = same ∙ h.rules;
  fits = λ s f.
      let l = h.fits s f in
      let once = looks_by old now new r j (replies.Looking reader) h step l.0 l.1 in
      (next_state (rules_of old) l.0 (looks r 1) (replies.Looking reader), once.1, (l.0, l.2, record { reader = reader; allowed = once.0; is = refl }));
}

-- the looks of a line, the last of which gives its reply
pub line_looked : (old now new : WorldView) (r j k : ℕ) (reply : Reply) → Looked old now r j → rules_of new ≡ rules_of now → LooksOnce now new r reply → EndsLine reply k (j + 1) → Answers old (looks r k) reply new
line_looked old now new r j k reply h same step ends = record {
  rules = same ∙ h.rules;
  lawful = λ s f.
      let g = rules_of old in
      let l = h.fits s f in
      let once = looks_by old now new r j reply h step l.0 l.1 in (
        looks_one_by_one.allowed g s l.0 r j k reply l.2 once.0 ends,
        subst (λ (t : ScriptState). HaveOneLog new t) (sym (looks_one_by_one.same g s l.0 r j k reply l.2 once.0 ends)) once.1,
      );
}

-- the last look of a line
pub last_looked : {E : Type 0} (old now new : WorldView) (r j k : ℕ) (result : Result Reply E) → Looked old now r j → rules_of new ≡ rules_of now → IfOk result (λ reply. LooksOnce now new r reply) → k ≡ j + 1
    → IfOk result (λ reply. Answers old (looks r k) reply new)
last_looked old now new r j k (Ok reply) h same step e =
    line_looked old now new r j k reply h same step (record { within = omega (arith, e); looking = λ reader is. e })
last_looked old now new r j k (Err x) h same step e = tt
