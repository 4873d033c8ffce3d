-- Events one after another.
use Rattle.std.specs.Prelude.{◌≡◌, List, [], ◌∷◌, map}
use Rattle.h5w_model.specs.Lawful.{Rules, Line, ScriptState, Lawful, line_of, next_state}
use Rattle.h5w_model.specs.declared.event.Event.{Event}
use Rattle.h5w_model.specs.declared.reply.Reply.{Reply}
use Rattle.h5w_core.specs.Worlds.{WorldView, HaveOneLog, Steps, rules_of}

-- these events were given these replies, one after another, between two worlds
abbrev pub Runs : WorldView → List Event → List Reply → WorldView → Type 0
Runs old [] [] new = new ≡ old
Runs old (event ∷ events) (reply ∷ replies) new = (next : WorldView) × Steps old event reply next × Runs next events replies new
Runs old [] (reply ∷ replies) new = ⊥
Runs old (event ∷ events) [] new = ⊥

-- the state after these lines were given these replies
abbrev pub state_after : Rules → ScriptState → List Line → List Reply → ScriptState
state_after g s (line ∷ lines) (reply ∷ replies) = state_after g (next_state g s line reply) lines replies
state_after g s lines replies = s

-- the replies are lawful, and the state after them fits the world that is left
abbrev pub RunsLawfully : Type 0
RunsLawfully = (old new : WorldView) (events : List Event) (replies : List Reply) (s : ScriptState) → HaveOneLog old s → Runs old events replies new
    → Lawful (rules_of old) s (map line_of events) replies × HaveOneLog new (state_after (rules_of old) s (map line_of events) replies) × (rules_of new ≡ rules_of old)
