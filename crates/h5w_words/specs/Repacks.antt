-- The command that writes datasets of a file anew into another one: repack FILE TO [--name N,..] [--limit B] [--ranges]
use Rattle.std.specs.Prelude.{false, List, Option, option_map, option_and_then, codes}
use Rattle.clap.specs.Words.{App, Row, Text, first_of, new_app, with_rule}
use Rattle.h5w_words.specs.Arguments.{flag_rule, is_given, option_rule, word_rule}
use Rattle.h5w_words.specs.Creation.{limit_of}
use Rattle.h5w_words.specs.Files.{file_of, names_within}
use Rattle.h5w_words.specs.declared.job.Job.{Job}
use Rattle.h5w_words.specs.declared.job.Job.TheVariants.{Repack}

abbrev pub repack_app : App
repack_app =
    with_rule (with_rule (with_rule (with_rule (with_rule (new_app (codes "repack")) (word_rule (codes "FILE"))) (word_rule (codes "TO"))) (option_rule (codes "name") false)) (option_rule (codes "limit") false))
    (flag_rule (codes "ranges"))

-- the name of the new file
abbrev pub to_of : List Row → Option Text
to_of rows = first_of (codes "TO") rows

-- the ranges are printed where --ranges is given
abbrev pub repack_of : List Row → Option Job
repack_of rows =
    option_and_then (λ file. option_and_then (λ to. option_and_then (λ limit. option_map (λ names.
    Repack file to names limit (is_given (first_of (codes "ranges") rows))) (names_within rows limit)) (limit_of rows)) (to_of rows)) (file_of rows)
