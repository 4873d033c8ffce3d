-- Pieces that become visible one by one are the pieces of one line.
use Rattle.std.proofs.Common.{ℕ, zero, suc, ◌+◌, ◌-◌, ◌<◌, ◌≡◌, min, Bool, true, false, if◌then◌else◌, nat_lt, length, sym, refl, ap, ◌∙◌, subst, arith, tests}
use Rattle.std.proofs.lemmas.List.{nil_from_length}
use Rattle.h5w_model.specs.Lawful.{Rules, ScriptState, Allowed, after_shows, committed, next_state, shows_up_to}
use Rattle.h5w_model.specs.declared.reply.Reply.{Reply}
use Rattle.h5w_model.specs.declared.reply.Reply.TheVariants.{Written}
use Rattle.h5w_core.specs.Worlds.{WorldView, HaveOneLog, rules_of}
use Rattle.h5w_playing.specs.Answers.{Answers}

-- the state where so many pieces are pending
abbrev pub with_pending : ScriptState → ℕ → ScriptState
with_pending s q = record s { pending = q }

abbrev shows_cases : Rules → ScriptState → Bool → ℕ → Bool → ScriptState
shows_cases g s fewer q ending = if fewer then with_pending s q else if ending then committed g s else with_pending s 0

nothing_at : (g : Rules) (s : ScriptState) (p : ℕ) → s.pending ≡ p → (s.pending ≡ 0 → s.ends_flush ≡ false) → after_shows g s 0 ≡ s
nothing_at g s zero e f =
    subst (λ (q : ℕ). shows_cases g s (nat_lt 0 q) (q - 0) s.ends_flush ≡ s) (sym e)
    (subst (λ (b : Bool). shows_cases g s false 0 b ≡ s) (sym (f e)) (ap (with_pending s) (sym e)))
nothing_at g s (suc p) e f =
    let some : nat_lt 0 s.pending ≡ true = grind (arith, tests) in
    let same : s.pending - 0 ≡ s.pending = omega arith in
    ap (λ b. shows_cases g s b (s.pending - 0) s.ends_flush) some ∙ ap (with_pending s) same

-- before the first piece
pub nothing_shown : (g : Rules) (s : ScriptState) → (s.pending ≡ 0 → s.ends_flush ≡ false) → after_shows g s 0 ≡ s
nothing_shown g s f = nothing_at g s s.pending refl f

pub fewer_shown : (g : Rules) (s : ScriptState) (j : ℕ) → j < s.pending → after_shows g s j ≡ with_pending s (s.pending - j)
fewer_shown g s j h = let fewer : nat_lt j s.pending ≡ true = grind (arith, tests) in ap (λ b. shows_cases g s b (s.pending - j) s.ends_flush) fewer

pub one_behind : (g : Rules) (s : ScriptState) (j : ℕ) → j < s.pending → after_shows g (with_pending s (s.pending - j)) 1 ≡ after_shows g s (j + 1)
one_behind g s j h =
    let same : nat_lt 1 (s.pending - j) ≡ nat_lt (j + 1) s.pending = grind (arith, tests) in
    let left : (s.pending - j) - 1 ≡ s.pending - (j + 1) = omega arith in
    ap (λ b. shows_cases g s b ((s.pending - j) - 1) s.ends_flush) same ∙ ap (λ q. shows_cases g s (nat_lt (j + 1) s.pending) q s.ends_flush) left

-- a reply to one more piece leads to the state of so many pieces and one more
one_more_of : (g : Rules) (s t : ScriptState) (j : ℕ) (reply : Reply) → t ≡ with_pending s (s.pending - j) → j < s.pending → Allowed g t (shows_up_to 1) reply → next_state g t (shows_up_to 1) reply ≡ after_shows g s (j + 1)
one_more_of g s t j reply e h allowed =
    let one : min 1 (t.pending) ≡ 1 = omega (arith, ap (λ (x : ScriptState). x.pending) e) in
    ap (next_state g t (shows_up_to 1)) allowed ∙ ap (after_shows g t) one ∙ ap (λ x. after_shows g x 1) e ∙ one_behind g s j h

one_more : (g : Rules) (s : ScriptState) (j : ℕ) (reply : Reply) → j < s.pending → Allowed g (after_shows g s j) (shows_up_to 1) reply → next_state g (after_shows g s j) (shows_up_to 1) reply ≡ after_shows g s (j + 1)
one_more g s j reply h allowed = one_more_of g s (after_shows g s j) j reply (fewer_shown g s j h) h allowed

-- so many pieces became visible between two worlds
pub record Shown (old now : WorldView) (j : ℕ) : Type 0 where
  pub rules : rules_of now ≡ rules_of old
  pub fits : (s : ScriptState) → HaveOneLog old s → HaveOneLog now (after_shows (rules_of old) s j)

pub none_shown : (w : WorldView) → Shown w w 0
none_shown w = record {
  rules = refl;
  fits = λ s f.
      let idle : s.pending ≡ 0 → s.ends_flush ≡ false = λ none. f.state.ends_flush ∙ f.state.idle (nil_from_length w.session.pending (sym f.state.pending ∙ none)) in
      subst (λ (t : ScriptState). HaveOneLog w t) (sym (nothing_shown (rules_of w) s idle)) f;
}

pub more_shown : (old now new : WorldView) (j : ℕ) (reply : Reply) → Shown old now j → j < length old.session.pending → rules_of new ≡ rules_of now
    → ((s : ScriptState) → HaveOneLog now s → Allowed (rules_of now) s (shows_up_to 1) reply × HaveOneLog new (next_state (rules_of now) s (shows_up_to 1) reply)) → Shown old new (j + 1)
more_shown old now new j reply h bound same step = record {
  rules = same ∙ h.rules;
  fits = λ s f.
      let g = rules_of old in
      let stepped = subst (λ (g : Rules). (s : ScriptState) → HaveOneLog now s → Allowed g s (shows_up_to 1) reply × HaveOneLog new (next_state g s (shows_up_to 1) reply)) h.rules step (after_shows g s j) (h.fits s f) in
      subst (λ (t : ScriptState). HaveOneLog new t) (one_more g s j reply (omega (arith, f.state.pending)) stepped.0) stepped.1;
}

-- the pieces that one line asks for
pub line_shown : (old now : WorldView) (most pieces : ℕ) → Shown old now pieces → pieces ≡ min most (length old.session.pending) → Answers old (shows_up_to most) (Written pieces (length old.session.pending - pieces)) now
line_shown old now most pieces h e = record {
  rules = h.rules;
  lawful = λ s f.
      let whole : pieces ≡ min most s.pending = e ∙ ap (min most) (sym f.state.pending) in
      (ap (λ q. Written pieces (q - pieces)) (sym f.state.pending) ∙ ap (λ p. Written p (s.pending - p)) whole, h.fits s f);
}
