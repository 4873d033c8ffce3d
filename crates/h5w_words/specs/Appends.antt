-- The command that appends to a file: append FILE [--name N,..] [--limit B] [--budget G] [--no-reuse] [--takeover]
use Rattle.std.specs.Prelude.{ℕ, ◌^◌, false, List, length, nat_lt, if◌then◌else◌, Option, option_map, option_and_then, codes}
use Rattle.clap.specs.Words.{App, Row, Text, first_of, new_app, with_rule}
use Rattle.h5w_words.specs.Arguments.{count_or, flag_rule, is_given, option_rule, word_rule}
use Rattle.h5w_words.specs.Creation.{budget_of, limit_of}
use Rattle.h5w_words.specs.Files.{file_of, names_within}
use Rattle.h5w_words.specs.declared.job.Job.{Job}
use Rattle.h5w_words.specs.declared.job.Job.TheVariants.{Append}

abbrev pub append_app : App
append_app =
    with_rule (with_rule (with_rule (with_rule (with_rule (with_rule (new_app (codes "append")) (word_rule (codes "FILE"))) (option_rule (codes "name") false)) (option_rule (codes "limit") false))
    (option_rule (codes "budget") false)) (flag_rule (codes "no-reuse"))) (flag_rule (codes "takeover"))

-- how many bytes of a dataset may wait unwritten; where it is not given, of one of several datasets as many as may be given
abbrev pub budget_for : List Row → List Text → Option ℕ
budget_for rows names = if nat_lt 1 (length names) then count_or (2 ^ 30) 1024 (2 ^ 30) (first_of (codes "budget") rows) else budget_of rows

-- what is retired stays so where --no-reuse is given, and the file is taken over where --takeover is
abbrev pub append_of : List Row → Option Job
append_of rows =
    option_and_then (λ file. option_and_then (λ limit. option_and_then (λ names. option_map (λ budget.
    Append file names limit budget (is_given (first_of (codes "no-reuse") rows)) (is_given (first_of (codes "takeover") rows))) (budget_for rows names)) (names_within rows limit)) (limit_of rows)) (file_of rows)
