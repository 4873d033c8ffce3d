-- The command that makes a file in memory of a generator's values: make N SEED
use Rattle.std.specs.Prelude.{ℕ, ◌-◌, ◌^◌, List, Option, option_map, option_and_then, codes}
use Rattle.clap.specs.Words.{App, Row, first_of, new_app, with_rule}
use Rattle.h5w_words.specs.Arguments.{count_given, word_rule}
use Rattle.h5w_words.specs.declared.job.Job.{Job}
use Rattle.h5w_words.specs.declared.job.Job.TheVariants.{Make}

abbrev pub make_app : App
make_app = with_rule (with_rule (new_app (codes "make")) (word_rule (codes "N"))) (word_rule (codes "SEED"))

-- how many values, 0 to 1,000,000
abbrev pub made_count_of : List Row → Option ℕ
made_count_of rows = count_given 0 1000000 (first_of (codes "N") rows)

-- what the generator begins with, below 2^64
abbrev pub seed_of : List Row → Option ℕ
seed_of rows = count_given 0 (2 ^ 64 - 1) (first_of (codes "SEED") rows)

abbrev pub make_of : List Row → Option Job
make_of rows = option_and_then (λ count. option_map (λ seed. Make count seed) (seed_of rows)) (made_count_of rows)
