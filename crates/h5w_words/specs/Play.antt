-- The command that runs a script: play OPTS [--attempts A], OPTS being what a file is created by
use Rattle.std.specs.Prelude.{ℕ, false, List, Option, option_map, option_and_then, codes}
use Rattle.clap.specs.Words.{App, Row, first_of, new_app, with_rule}
use Rattle.h5w_words.specs.Arguments.{count_or, option_rule}
use Rattle.h5w_words.specs.Creation.{link_names_of, options_within, with_creation}
use Rattle.h5w_words.specs.declared.job.Job.{Job}
use Rattle.h5w_words.specs.declared.job.Job.TheVariants.{Play}

abbrev pub play_app : App
play_app = with_rule (with_creation (new_app (codes "play"))) (option_rule (codes "attempts") false)

-- 1 to 1,000; where none are given, 8
abbrev pub attempts_of : List Row → Option ℕ
attempts_of rows = count_or 8 1 1000 (first_of (codes "attempts") rows)

-- the script that the command's options ask for
abbrev pub play_of : List Row → Option Job
play_of rows =
    option_and_then (λ attempts. option_and_then (λ names. option_map (λ options. Play names options attempts) (options_within rows names)) (link_names_of rows)) (attempts_of rows)
