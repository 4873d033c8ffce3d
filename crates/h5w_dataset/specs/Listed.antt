-- What holds of the messages of any bytes, or of their refusal.
use Rattle.std.specs.Prelude.{◌≡◌, ℕ, ◌<◌, ◌≤◌, List, length, Result, Ok, Err}
use Rattle.std.specs.List.{All}
use Rattle.h5w_model.specs.declared.message.Msg.{Msg}
use Rattle.h5w_model.specs.declared.refusal.HeaderError.{HeaderError}
use Rattle.h5w_model.specs.declared.refusal.HeaderError.TheVariants.{Overrun}

-- it begins below a place, and names a block whole where it is a continuation
pub record IsInside (limit : ℕ) (m : Msg) : Type 0 where
  pub below : m.at < limit
  pub named : m.kind ≡ 16 → 16 ≤ length m.body

-- a message that passes the end begins below a place
abbrev pub OverrunBelow : ℕ → HeaderError → Type 0
OverrunBelow limit (Overrun at) = at < limit
OverrunBelow limit _ = Unit {0}

abbrev pub Listed : ℕ → Result (List Msg) HeaderError → Type 0
Listed limit (Ok ms) = All (IsInside limit) ms
Listed limit (Err e) = OverrunBelow limit e
