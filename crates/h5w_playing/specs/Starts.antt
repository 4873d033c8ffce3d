-- A script over the datasets of a file that is created for it: how its lines are read, its state before the first one, and what it leaves.
use Rattle.std.specs.Prelude.{ℕ, List, length, map}
use Rattle.h5w_options.specs.Options.{cutting_by}
use Rattle.h5w_options.specs.declared.options.Options.{Options}
use Rattle.h5w_text.specs.Streams.{SourceView, SinkView}
use Rattle.h5w_text.specs.declared.status.Status.{Status}
use Rattle.h5w_core.specs.Worlds.{rules_for}
use Rattle.h5w_several_script_laws.specs.Scripts.{FileState, first_in}
use Rattle.h5w_playing.specs.Lines.{Spelling}
use Rattle.h5w_playing.specs.Plays.{Completes, Plays}

-- by the columns that the options give
abbrev pub spelling_for : List (List ℕ) → Options → Spelling
spelling_for names options = record { columns = (cutting_by options).columns; sets = length names }

-- of datasets of these names without rows, each of them created by these options, with so many attempts in a reader's call
abbrev pub state_for : List (List ℕ) → Options → ℕ → FileState
state_for names options attempts = first_in (map (λ (name : List ℕ). rules_for options attempts) names) options.limit options.budget

abbrev pub PlayEnds : List (List ℕ) → Options → ℕ → Status → SourceView → SourceView → SinkView → SinkView → Type 0
PlayEnds names options attempts status s t k l = Plays (spelling_for names options) (state_for names options attempts) status s t k l

abbrev pub PlayEndsWell : List (List ℕ) → Options → ℕ → Status → SourceView → SourceView → SinkView → SinkView → Type 0
PlayEndsWell names options attempts status s t k l = Completes (spelling_for names options) (state_for names options attempts) status s t k l
