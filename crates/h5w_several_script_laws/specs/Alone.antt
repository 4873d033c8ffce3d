-- A script over one dataset as a script over a file that has no other.
use Rattle.std.specs.Prelude.{◌≡◌, ℕ, List, [], ◌∷◌, map}
use Rattle.h5w_model.specs.Lawful.{Rules, Line, ScriptState, Allowed, Lawful, at_first, next_state}
use Rattle.h5w_model.specs.declared.reply.Reply.{Reply}
use Rattle.h5w_model.specs.declared.reply.Reply.TheVariants as replies
use Rattle.h5w_several_script_laws.specs.Scripts.{FileLine, asks, FileReply, flushing_each, says, FileState, AllowedAll, LawfulAll, first_in, next_all}

-- the state of a file whose one dataset has this state
abbrev pub alone : Rules → ScriptState → FileState
alone g s = record {
  sets = record { rules = g; state = s } ∷ [];
  used = 0;
  left = s.pending ∷ [];
  spent = s.spent;
  stopped = s.stopped;
  space_limit = g.space_limit;
  budget = g.budget;
}

-- the pieces of a flush are those of its one part
abbrev pub of_one : Reply → FileReply
of_one (replies.Flushing pieces) = flushing_each (pieces ∷ [])
of_one reply = says reply

-- Over one dataset a line may be given the same replies as in a script of one dataset, no others, and the states after
-- them are the same. So the same replies are lawful.
pub record OneDatasetLaws : Type 0 where
  pub first : (g : Rules) → first_in (g ∷ []) g.space_limit g.budget ≡ alone g at_first
  pub allowed : (g : Rules) (s : ScriptState) (line : Line) (reply : Reply) → Allowed g s line reply → AllowedAll (alone g s) (asks line) (of_one reply)
  pub only : (g : Rules) (s : ScriptState) (line : Line) (reply : FileReply) → AllowedAll (alone g s) (asks line) reply → (own : Reply) × (reply ≡ of_one own) × Allowed g s line own
  pub next : (g : Rules) (s : ScriptState) (line : Line) (reply : Reply) → next_all (alone g s) (asks line) (of_one reply) ≡ alone g (next_state g s line reply)
  pub lawful : (g : Rules) (s : ScriptState) (lines : List Line) (answers : List Reply) → Lawful g s lines answers → LawfulAll (alone g s) (map asks lines) (map of_one answers)
  pub only_lawful : (g : Rules) (s : ScriptState) (lines : List Line) (answers : List FileReply) → LawfulAll (alone g s) (map asks lines) answers
      → (own : List Reply) × (answers ≡ map of_one own) × Lawful g s lines own
