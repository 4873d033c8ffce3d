-- Looks of a reader that are taken one by one, and one line of as many looks.
use Rattle.std.specs.Prelude.{◌≡◌, ℕ, zero, suc, ◌+◌, ◌≤◌}
use Rattle.h5w_model.specs.Lawful.{Rules, looks, ScriptState, Allowed, next_state}
use Rattle.h5w_model.specs.declared.reply.Reply.{Reply}
use Rattle.h5w_model.specs.declared.reply.Reply.TheVariants as replies

-- after a line of one look that was answered that more are to be taken
pub record LooksOn (g : Rules) (s : ScriptState) (r : ℕ) (after : ScriptState) : Type 0 where
  pub reader : ℕ
  pub allowed : Allowed g s (looks r 1) (replies.Looking reader)
  pub is : after ≡ next_state g s (looks r 1) (replies.Looking reader)

-- after so many of them
abbrev pub LookedOn : Rules → ScriptState → ℕ → ℕ → ScriptState → Type 0
LookedOn g s r zero after = after ≡ s
LookedOn g s r (suc j) after = (before : ScriptState) × LookedOn g s r j before × LooksOn g before r after

-- The reply after j looks ends a line of at most k: an answer does, and that more are to be taken does after k of them.
pub record EndsLine (reply : Reply) (k j : ℕ) : Type 0 where
  pub within : j ≤ k
  pub looking : (reader : ℕ) → reply ≡ replies.Looking reader → k ≡ j

-- What the last of some looks that were taken one by one may be given, the line of all of them may be given, and the state
-- after it is the same: a line of at most k looks ends at the first answer, or at its last look.
pub record LooksOneByOne : Type 0 where
  pub allowed : (g : Rules) (s before : ScriptState) (r j k : ℕ) (reply : Reply) → LookedOn g s r j before → Allowed g before (looks r 1) reply → EndsLine reply k (j + 1)
      → Allowed g s (looks r k) reply
  pub same : (g : Rules) (s before : ScriptState) (r j k : ℕ) (reply : Reply) → LookedOn g s r j before → Allowed g before (looks r 1) reply → EndsLine reply k (j + 1)
      → next_state g s (looks r k) reply ≡ next_state g before (looks r 1) reply
