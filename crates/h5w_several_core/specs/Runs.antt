-- Lines that take a dataset into use, and events one after another.
use Rattle.std.specs.Prelude.{◌≡◌, ℕ, ◌+◌, ◌-◌, ◌<◌, ◌≤◌, List, [], ◌∷◌, ◌++◌, length, None, Some, IfSome}
use Rattle.h5w_several_script_laws.specs.Scripts.{AllowedAll, FileLine, FileState, LawfulAll, next_all, uses, using}
use Rattle.h5w_several_script_laws.specs.Scripts as scripts
use Rattle.h5w_several_core.specs.Worlds.{FileSteps, HaveFileLog, SeveralView, line_of, reply_of, rules_of, set_in}
use Rattle.h5w_several_core.specs.declared.events.FileEvent.{FileEvent}
use Rattle.h5w_several_core.specs.declared.events.FileReply.{FileReply}

-- another dataset is in use, on the same machine
abbrev pub UsesLawfully : Type 0
UsesLawfully = (w : SeveralView) (F : FileState) (i : ℕ) → HaveFileLog w F → 1 ≤ i → i ≤ length (rules_of w) → AllowedAll F (uses i) (using i) × HaveFileLog w (record F { used = i - 1 })

-- ---- Events as lines

-- an event's line, behind one that takes its dataset into use where it names one
abbrev pub lines_of : FileEvent → List FileLine
lines_of event = elim (set_in event) [ None ↦ line_of event ∷ [] | Some d ↦ uses (d + 1) ∷ line_of event ∷ [] ]

abbrev pub replies_to : FileEvent → FileReply → List scripts.FileReply
replies_to event reply = elim (set_in event) [ None ↦ reply_of reply ∷ [] | Some d ↦ using (d + 1) ∷ reply_of reply ∷ [] ]

-- of all these events, in their order
abbrev pub lines_in : List FileEvent → List FileLine
lines_in [] = []
lines_in (event ∷ events) = lines_of event ++ lines_in events

abbrev pub replies_in : List FileEvent → List FileReply → List scripts.FileReply
replies_in [] replies = []
replies_in (event ∷ events) [] = []
replies_in (event ∷ events) (reply ∷ replies) = replies_to event reply ++ replies_in events replies

-- ---- Events one after another

-- these events were given these replies, one after another, between two machines; each dataset that is named is there
abbrev pub FileRuns : SeveralView → List FileEvent → List FileReply → SeveralView → Type 0
FileRuns old [] [] new = new ≡ old
FileRuns old (event ∷ events) (reply ∷ replies) new =
    (next : SeveralView) × IfSome (set_in event) (λ (d : ℕ). d < length (rules_of old)) × FileSteps old event (reply_of reply) next × FileRuns next events replies new
FileRuns old [] (reply ∷ replies) new = ⊥
FileRuns old (event ∷ events) [] new = ⊥

-- the state after these lines were given these replies
abbrev pub file_after : FileState → List FileLine → List scripts.FileReply → FileState
file_after F (line ∷ lines) (reply ∷ replies) = file_after (next_all F line reply) lines replies
file_after F lines replies = F

-- the replies are lawful, and the state after them fits the machine that is left
abbrev pub RunsLawfullyAll : Type 0
RunsLawfullyAll = (old new : SeveralView) (events : List FileEvent) (replies : List FileReply) (F : FileState) → HaveFileLog old F → FileRuns old events replies new
    → LawfulAll F (lines_in events) (replies_in events replies) × HaveFileLog new (file_after F (lines_in events) (replies_in events replies)) × (rules_of new ≡ rules_of old)
