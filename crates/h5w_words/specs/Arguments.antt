-- The kinds of argument that a command may have, and their values.
use Rattle.std.specs.Prelude.{◌≡◌, ℕ, Bool, true, false, List, [], ◌∷◌, codes, if◌then◌else◌, IfOk, Result, Option, Some, None, option_and_then}
use Rattle.std.specs.declared.alloc.AllocError.{AllocError}
use Rattle.clap.specs.Words.{App, Rule, Text, app_of, new_rule, with_rule}
use Rattle.clap.specs.declared.builder.arg.Arg.{Arg}
use Rattle.clap.specs.declared.builder.action.ArgAction.TheVariants.{SetTrue}
use Rattle.clap.specs.declared.builder.command.Command.{Command}
use Rattle.clap.specs.declared.builder.command.Command.TheViews.{out-Command}
use Rattle.h5w_input.specs.Scripts.{count_in, is_word}
use Rattle.h5w_words.specs.Names.{are_link_names, is_link_name, is_name, parts_of}
use Rattle.h5w_words.specs.declared.arguments.Argument.{Argument}
use Rattle.h5w_words.specs.declared.arguments.Argument.TheVariants.{Word, Needed, Optional, Flag}

-- an option --name VALUE, which is required or may be left out
abbrev pub option_rule : Text → Bool → Rule
option_rule name required = record (new_rule name) { long = Some name; required = required }

-- a word, which is required
abbrev pub word_rule : Text → Rule
word_rule name = record (new_rule name) { required = true }

-- an option --name without a value
abbrev pub flag_rule : Text → Rule
flag_rule name = record (new_rule name) { long = Some name; action = Some SetTrue }

-- the argument of this name and kind
abbrev pub rule_named : Argument → Rule
rule_named (Word name) = word_rule name.now
rule_named (Needed name) = option_rule name.now true
rule_named (Optional name) = option_rule name.now false
rule_named (Flag name) = flag_rule name.now

-- a command with these arguments, in order
abbrev pub with_rules : App → List Rule → App
with_rules app [] = app
with_rules app (rule ∷ rules) = with_rules (with_rule app rule) rules

-- an argument holds for its command alone
abbrev pub IsLocal : Arg → Type 0
IsLocal a = a.global ≡ false

-- an argument holds for the command's subcommands too
abbrev pub has_globals : Command → Bool
has_globals c = (out-Command c).has_globals

-- where a command was made, it is this app, and no argument of it holds for its subcommands too
abbrev pub Makes : Result Command AllocError → App → Type 0
Makes made app = IfOk made (λ c. (app_of c ≡ app) × (has_globals c ≡ false))

-- a number from least to most, which has to be given
abbrev pub count_given : (least most : ℕ) → Option Text → Option ℕ
count_given least most given = option_and_then (count_in least most) given

-- a number from least to most, where one is given
abbrev pub count_or : (default least most : ℕ) → Option Text → Option ℕ
count_or default least most None = Some default
count_or default least most (Some text) = count_in least most text

-- a name, where one is given
abbrev pub name_or : Text → Option Text → Option Text
name_or default None = Some default
name_or default (Some text) = if is_name text then Some text else None

-- a name of a link, where one is given
abbrev pub link_name_or : Text → Option Text → Option Text
link_name_or default None = Some default
link_name_or default (Some text) = if is_link_name text then Some text else None

-- the names of links that a text has between its commas
abbrev pub link_names_in : Text → Option (List Text)
link_names_in text = if are_link_names (parts_of text) then Some (parts_of text) else None

-- names of links, where they are given
abbrev pub link_names_or : Text → Option Text → Option (List Text)
link_names_or default None = Some (default ∷ [])
link_names_or default (Some text) = link_names_in text

-- whether an option without a value is given, by its text
abbrev pub is_given : Option Text → Bool
is_given None = false
is_given (Some text) = is_word (codes "true") text
