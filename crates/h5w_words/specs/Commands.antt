-- The command set, and what words of it ask for.
use Rattle.std.specs.Prelude.{List, [], ◌∷◌, if◌then◌else◌, Option, Some, None, codes}
use Rattle.clap.specs.Words.{App, Kinds, Row, Text, fault_of, new_app, subcommand_of, with_subcommand}
use Rattle.h5w_input.specs.Scripts.{is_word}
use Rattle.h5w_words.specs.Play.{play_app, play_of}
use Rattle.h5w_words.specs.Files.{creating_app, creating_of, check_app, check_of, poll_app, poll_of, clear_app, clear_of}
use Rattle.h5w_words.specs.Makes.{make_app, make_of}
use Rattle.h5w_words.specs.Appends.{append_app, append_of}
use Rattle.h5w_words.specs.Repacks.{repack_app, repack_of}
use Rattle.h5w_words.specs.Lives.{live_app, live_of}
use Rattle.h5w_words.specs.Stops.{stop_app, stop_of}
use Rattle.h5w_words.specs.declared.job.Job.{Job}
use Rattle.h5w_words.specs.declared.words.Known.{Known}
use Rattle.h5w_words.specs.declared.words.Known.TheVariants as commands

-- the program with its commands
abbrev pub program : App
program =
    with_subcommand (with_subcommand (with_subcommand (with_subcommand (with_subcommand (with_subcommand (with_subcommand (with_subcommand (with_subcommand (with_subcommand (new_app (codes "h5swmr")) play_app.top) creating_app.top) check_app.top)
    poll_app.top) clear_app.top) make_app.top) append_app.top) live_app.top) stop_app.top) repack_app.top

-- a command of the program
abbrev pub app_known : Known → App
app_known commands.Play = play_app
app_known commands.New = creating_app
app_known commands.Check = check_app
app_known commands.Poll = poll_app
app_known commands.Clear = clear_app
app_known commands.Make = make_app
app_known commands.Append = append_app
app_known commands.Live = live_app
app_known commands.Stop = stop_app
app_known commands.Repack = repack_app

-- a program with these commands more, in order
abbrev pub with_known : App → List Known → App
with_known app [] = app
with_known app (command ∷ rest) = with_known (with_subcommand app (app_known command).top) rest

-- what a command of this name asks for, by its options
abbrev pub named_of : Text → List Row → Option Job
named_of name rows =
    if is_word (codes "play") name then play_of rows
    else if is_word (codes "new") name then creating_of rows
    else if is_word (codes "check") name then check_of rows
    else if is_word (codes "poll") name then poll_of rows
    else if is_word (codes "clear") name then clear_of rows
    else if is_word (codes "make") name then make_of rows
    else if is_word (codes "append") name then append_of rows
    else if is_word (codes "live") name then live_of rows
    else if is_word (codes "stop") name then stop_of rows
    else if is_word (codes "repack") name then repack_of rows
    else None

-- what the command that was found asks for; without one nothing
abbrev pub asked_of : Option (Text × List Row) → Option Job
asked_of None = None
asked_of (Some command) = named_of command.0 command.1

-- the job, where no fault is found
abbrev pub without_fault : Kinds → Option Job → Option Job
without_fault [] job = job
without_fault (kind ∷ kinds) job = None

-- The job of some words, of which the first is the program's name. The command set is all words that have one: those that
-- the program's commands take, and whose values are within their limits.
unfoldable pub job_of : List Text → Option Job
job_of words = without_fault (fault_of program words) (asked_of (subcommand_of program words))
