-- The command that opens a reader at each piece of a writer's script: stop OPTS, OPTS being what a file is created by
use Rattle.std.specs.Prelude.{List, Option, option_map, codes}
use Rattle.clap.specs.Words.{App, Row, new_app}
use Rattle.h5w_words.specs.Creation.{options_of, with_creation}
use Rattle.h5w_words.specs.declared.job.Job.{Job}
use Rattle.h5w_words.specs.declared.job.Job.TheVariants.{Stop}

abbrev pub stop_app : App
stop_app = with_creation (new_app (codes "stop"))

-- the script that the command's options ask for
abbrev pub stop_of : List Row → Option Job
stop_of rows = option_map Stop (options_of rows)
