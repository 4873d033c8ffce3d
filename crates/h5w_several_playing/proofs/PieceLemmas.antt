-- Pieces that become visible one by one are the pieces of one line, over all datasets of a file.
use Rattle.std.proofs.Common.{ℕ, ◌+◌, ◌-◌, ◌<◌, ◌≤◌, ◌≡◌, ◌∙◌, min, cond, Bool, true, false, nat_lt, List, [], ◌∷◌, refl, sym, ap, inl, inr, arith, tests}
use Rattle.std.proofs.lemmas.Bool.{cases_lt, cond-false}
use Rattle.h5w_model.specs.Lawful.{Rules, ScriptState, after_shows, committed, shows_up_to}
use Rattle.h5w_model.specs.declared.reply.Reply.TheVariants as replies
use Rattle.h5w_several_script_laws.specs.Scripts.{FileReply, FileState, SetState, AllowedAll, asks, left_after, next_all, pending_in, says, shown_sets, total, with_state}
use Rattle.h5w_playing.proofs.ShowLemmas.{fewer_shown, nothing_shown, one_behind}

-- the state once so many pieces became visible
abbrev pub shown_by : ℕ → FileState → FileState
shown_by j F = record F { sets = shown_sets j F.sets; left = left_after j F.left }

-- ---- What is left

pub left_none : (ns : List ℕ) → left_after 0 ns ≡ ns
left_none [] = refl
left_none (n ∷ ns) =
    let own : n - 0 ≡ n = omega arith in
    let none : 0 - n ≡ 0 = omega arith in
    ap (λ (m : ℕ). m ∷ left_after (0 - n) ns) own ∙ ap (λ (m : ℕ). n ∷ left_after m ns) none ∙ ap (λ (ms : List ℕ). n ∷ ms) (left_none ns)

left_more : (i j : ℕ) (ns : List ℕ) → left_after i (left_after j ns) ≡ left_after (j + i) ns
left_more i j [] = refl
left_more i j (n ∷ ns) =
    let own : (n - j) - i ≡ n - (j + i) = omega arith in
    let rest : (j - n) + (i - (n - j)) ≡ (j + i) - n = omega arith in
    ap (λ (m : ℕ). m ∷ left_after (i - (n - j)) (left_after (j - n) ns)) own ∙ ap (λ (ms : List ℕ). (n - (j + i)) ∷ ms) (left_more (i - (n - j)) (j - n) ns)
    ∙ ap (λ (m : ℕ). (n - (j + i)) ∷ left_after m ns) rest

left_total : (j : ℕ) (ns : List ℕ) → total (left_after j ns) ≡ total ns - j
left_total j [] = let none : 0 ≡ 0 - j = omega arith in none
left_total j (n ∷ ns) =
    let later = left_total (j - n) ns in
    let own : (n - j) + total (left_after (j - n) ns) ≡ (n + total ns) - j = omega (arith, later) in own

-- ---- Each dataset

past_shown : (g : Rules) (s : ScriptState) (j : ℕ) → s.pending ≤ j → after_shows g s j ≡ cond s.ends_flush (committed g s) (record s { pending = 0 })
past_shown g s j past =
    let none : nat_lt j s.pending ≡ false = grind (arith, tests) in
    cond-false (nat_lt j s.pending) (record s { pending = s.pending - j }) (cond s.ends_flush (committed g s) (record s { pending = 0 })) none

-- nothing is pending then, and no flush
once_ended : (g : Rules) (s : ScriptState) (b : Bool) → s.ends_flush ≡ b → after_shows g (cond b (committed g s) (record s { pending = 0 })) 1 ≡ cond b (committed g s) (record s { pending = 0 })
once_ended g s true e = refl
once_ended g s false e = cond-false s.ends_flush (committed g (record s { pending = 0 })) (record s { pending = 0 }) e

shows_more : (g : Rules) (s : ScriptState) (j : ℕ) → after_shows g (after_shows g s j) 1 ≡ after_shows g s (j + 1)
shows_more g s j = elim (cases_lt j s.pending) [
  | inl low ↦ ap (λ (t : ScriptState). after_shows g t 1) (fewer_shown g s j low) ∙ one_behind g s j low
  | inr past ↦ ap (λ (t : ScriptState). after_shows g t 1) (past_shown g s j past) ∙ once_ended g s s.ends_flush refl ∙ sym (past_shown g s (j + 1) (omega (arith, past)))
]

sets_more : (j : ℕ) (xs : List SetState) → shown_sets 1 (shown_sets j xs) ≡ shown_sets (j + 1) xs
sets_more j [] = refl
sets_more j (x ∷ xs) =
    ap (λ (t : ScriptState). with_state x t ∷ shown_sets 1 (shown_sets j xs)) (shows_more x.rules x.state j) ∙ ap (λ (ys : List SetState). with_state x (after_shows x.rules x.state (j + 1)) ∷ ys) (sets_more j xs)

-- a dataset of which nothing is pending is at rest
pub set_none : (x : SetState) → (x.state.pending ≡ 0 → x.state.ends_flush ≡ false) → with_state x (after_shows x.rules x.state 0) ≡ x
set_none x idle = ap (with_state x) (nothing_shown x.rules x.state idle)

-- ---- The line

-- one more piece, of those that are left
pub one_more : (F : FileState) (j : ℕ) (reply : FileReply) → j < pending_in F → AllowedAll (shown_by j F) (asks (shows_up_to 1)) reply → next_all (shown_by j F) (asks (shows_up_to 1)) reply ≡ shown_by (j + 1) F
one_more F j reply low allowed =
    let G = shown_by j F in
    let pieces : ℕ = min 1 (pending_in G) in
    let one : pieces ≡ 1 = omega (arith, left_total j F.left, low) in
    ap (next_all G (asks (shows_up_to 1))) allowed
    ∙ ap (λ (n : ℕ). record G { sets = shown_sets n G.sets; left = left_after n G.left }) one
    ∙ ap (λ (ys : List SetState). record F { sets = ys; left = left_after 1 (left_after j F.left) }) (sets_more j F.sets)
    ∙ ap (λ (ns : List ℕ). record F { sets = shown_sets (j + 1) F.sets; left = ns }) (left_more 1 j F.left)

-- so many pieces are those of a line that asks for so many at least
pub line_allowed : (F : FileState) (most pieces q : ℕ) → pending_in F ≡ q → pieces ≡ min most q → AllowedAll F (asks (shows_up_to most)) (says (replies.Written pieces (q - pieces)))
line_allowed F most pieces q pending least =
    let whole : pieces ≡ min most (pending_in F) = least ∙ ap (min most) (sym pending) in
    ap (λ (n : ℕ). says (replies.Written pieces (n - pieces))) (sym pending) ∙ ap (λ (p : ℕ). says (replies.Written p (pending_in F - p))) whole
