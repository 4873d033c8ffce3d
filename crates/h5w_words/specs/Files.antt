-- The commands on files: new FILE OPTS, OPTS being what a file is created by, check FILE [--name N,..], poll FILE [--name N] [--times T] [--attempts A] [--values], clear FILE [--upgrade]
use Rattle.std.specs.Prelude.{ℕ, false, List, if◌then◌else◌, Option, Some, None, option_map, option_and_then, codes}
use Rattle.clap.specs.Words.{App, Row, Text, first_of, new_app, with_rule}
use Rattle.h5w_words.specs.Arguments.{count_or, flag_rule, is_given, link_name_or, option_rule, word_rule}
use Rattle.h5w_words.specs.Creation.{lacks_room, link_names_of, options_within, with_creation}
use Rattle.h5w_words.specs.Play.{attempts_of}
use Rattle.h5w_words.specs.declared.job.Job.{Job}
use Rattle.h5w_words.specs.declared.job.Job.TheVariants.{New, Check, Poll, Clear}

abbrev pub creating_app : App
creating_app = with_creation (with_rule (new_app (codes "new")) (word_rule (codes "FILE")))

abbrev pub check_app : App
check_app = with_rule (with_rule (new_app (codes "check")) (word_rule (codes "FILE"))) (option_rule (codes "name") false)

abbrev pub poll_app : App
poll_app =
    with_rule (with_rule (with_rule (with_rule (with_rule (new_app (codes "poll")) (word_rule (codes "FILE"))) (option_rule (codes "name") false))
    (option_rule (codes "times") false)) (option_rule (codes "attempts") false)) (flag_rule (codes "values"))

abbrev pub clear_app : App
clear_app = with_rule (with_rule (new_app (codes "clear")) (word_rule (codes "FILE"))) (flag_rule (codes "upgrade"))

-- the name of the file
abbrev pub file_of : List Row → Option Text
file_of rows = first_of (codes "FILE") rows

-- the name of the root group's link to the dataset; where none is given, data
abbrev pub link_name_of : List Row → Option Text
link_name_of rows = link_name_or (codes "data") (first_of (codes "name") rows)

-- the names of links, for which a file of so many bytes has room
abbrev pub names_within : List Row → ℕ → Option (List Text)
names_within rows limit = option_and_then (λ names. if lacks_room limit names then None else Some names) (link_names_of rows)

-- 1 to 1,000,000; where none are given, 1
abbrev pub times_of : List Row → Option ℕ
times_of rows = count_or 1 1 1000000 (first_of (codes "times") rows)

abbrev pub creating_of : List Row → Option Job
creating_of rows = option_and_then (λ file. option_and_then (λ names. option_map (λ options. New file names options) (options_within rows names)) (link_names_of rows)) (file_of rows)

abbrev pub check_of : List Row → Option Job
check_of rows = option_and_then (λ file. option_map (λ names. Check file names) (link_names_of rows)) (file_of rows)

-- the numbers of a poll of this file with this name
abbrev pub poll_numbers_of : List Row → Text → Text → Option Job
poll_numbers_of rows file name =
    option_and_then (λ times. option_map (λ attempts. Poll file name times attempts (is_given (first_of (codes "values") rows))) (attempts_of rows)) (times_of rows)

abbrev pub poll_of : List Row → Option Job
poll_of rows = option_and_then (λ file. option_and_then (poll_numbers_of rows file) (link_name_of rows)) (file_of rows)

abbrev pub clear_of : List Row → Option Job
clear_of rows = option_map (λ file. Clear file (is_given (first_of (codes "upgrade") rows))) (file_of rows)
