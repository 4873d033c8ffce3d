-- The command that runs a writer and readers in threads: live OPTS --readers N --polls P [--attempts A] [--mirrors M], OPTS being what a file is created by
use Rattle.std.specs.Prelude.{ℕ, true, false, List, Option, option_map, option_and_then, codes}
use Rattle.clap.specs.Words.{App, Row, first_of, new_app, with_rule}
use Rattle.h5w_words.specs.Arguments.{count_given, count_or, option_rule}
use Rattle.h5w_words.specs.Creation.{options_of, with_creation}
use Rattle.h5w_words.specs.Play.{attempts_of}
use Rattle.h5w_words.specs.declared.job.Job.{Job}
use Rattle.h5w_words.specs.declared.job.Job.TheVariants.{Live}

abbrev pub live_app : App
live_app =
    with_rule (with_rule (with_rule (with_rule (with_creation (new_app (codes "live"))) (option_rule (codes "readers") true)) (option_rule (codes "polls") true)) (option_rule (codes "attempts") false))
    (option_rule (codes "mirrors") false)

-- 1 to 16
abbrev pub readers_of : List Row → Option ℕ
readers_of rows = count_given 1 16 (first_of (codes "readers") rows)

-- how many calls of each reader, 1 to 10,000
abbrev pub polls_of : List Row → Option ℕ
polls_of rows = count_given 1 10000 (first_of (codes "polls") rows)

-- how many readers of a second image, 0 to 16; where none are given, 0
abbrev pub mirrors_of : List Row → Option ℕ
mirrors_of rows = count_or 0 0 16 (first_of (codes "mirrors") rows)

-- the run that the command's options ask for
abbrev pub live_of : List Row → Option Job
live_of rows =
    option_and_then (λ readers. option_and_then (λ polls. option_and_then (λ attempts. option_and_then (λ mirrors. option_map (λ options. Live options readers polls attempts mirrors) (options_of rows)) (mirrors_of rows)) (attempts_of rows)) (polls_of rows)) (readers_of rows)
