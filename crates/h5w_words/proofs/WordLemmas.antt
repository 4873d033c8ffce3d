-- What `clap` finds in words.
use Rattle.std.proofs.Common.{◌≡◌, ◌≢◌, ◌⊎◌, ◌||◌, ◌∙◌, ◌+◌, ◌<◌, ◌++◌, ℕ, length, take, get_or, Bool, true, false, List, [], ◌∷◌, Option, Some, None, refl, sym, ap, ap₂, subst, inl, inr, option_map, add-one}
use Rattle.std.specs.Prelude.{Box, IfErr, IsErrAnd, Result, Ok, Err, map}
use Rattle.std.specs.Box.{box_value}
use Rattle.clap.specs.Words.{AddsArg, AddsSubcommand, App, HasKind, HasMatchesOf, Kinds, Row, Rule, Text, fault_of, first_of, first_value, app_of, is_simple, is_simple_and_free, kind_of, rows_of, rule_of, shape_of, subcommand_name_of, subcommand_of, subcommand_rows, subcommand_rows_of, with_rule, with_subcommand}
use Rattle.clap.specs.declared.builder.arg.Arg.{Arg}
use Rattle.clap.specs.declared.builder.command.Command.{Command}
use Rattle.clap.specs.declared.error.Error.{Error}
use Rattle.clap.specs.declared.error.kind.ErrorKind.TheVariants.{OutOfMemory}
use Rattle.clap.specs.declared.parser.matches.ArgMatches.{ArgMatches}
use Rattle.clap.specs.declared.parser.matches.ArgMatches.TheViews.{out-ArgMatches, out-SubCommand}
use Rattle.clap.specs.declared.parser.matches.Found.{Found}
use Rattle.clap.specs.declared.parser.matches.SubCommand.{SubCommand}
use Rattle.std.proofs.Math.Seq.{take-suc}
use Rattle.std.proofs.lemmas.List.{map-append}
use Rattle.clap.proofs.OnLiterals.{clap_on_literals}
use Rattle.clap.proofs.WalkLemmas.{first_value-rows}
use Rattle.h5w_words.specs.Arguments.{IsLocal, has_globals, rule_named, with_rules}
use Rattle.h5w_words.specs.declared.arguments.Argument.{Argument}
use Rattle.h5w_words.specs.Commands.{app_known, asked_of, job_of, program, with_known, without_fault}
use Rattle.h5w_words.specs.declared.job.Job.{Job}
use Rattle.h5w_words.specs.declared.words.Known.{Known}
use Rattle.h5w_words.specs.declared.job.WordsError.{WordsError}
use Rattle.h5w_words.specs.declared.job.WordsError.TheVariants as words_errors

or_false : (a b : Bool) → b ≡ false → (a || b) ≡ a
or_false true b h = refl
or_false false b h = h

with_rules_end : (app : App) (rules : List Rule) (rule : Rule) → with_rules app (rules ++ rule ∷ []) ≡ with_rule (with_rules app rules) rule
with_rules_end app [] rule = refl
with_rules_end app (first ∷ rest) rule = with_rules_end (with_rule app first) rest rule

-- a list's first elements, and the next of them
next_of : {T : Type 0} (table : List T) (i : ℕ) (d : T) → i < length table → take (i + 1) table ≡ take i table ++ get_or table i d ∷ []
next_of table i d inside = subst (λ n. take n table ≡ take i table ++ get_or table i d ∷ []) (sym (add-one i)) (take-suc table i d inside)

-- one more argument of a table
pub one_more : (old made new : Command) (a : Arg) (table : List Argument) (i : ℕ) (d : Argument) → i < length table
    → (app_of made ≡ with_rules (app_of old) (map rule_named (take i table))) × (has_globals made ≡ has_globals old)
    → AddsArg made a new → rule_of a ≡ rule_named (get_or table i d) → IsLocal a
    → (app_of new ≡ with_rules (app_of old) (map rule_named (take (i + 1) table))) × (has_globals new ≡ has_globals old)
one_more old made new a table i d inside before added same local =
    let rules : map rule_named (take (i + 1) table) ≡ map rule_named (take i table) ++ rule_named (get_or table i d) ∷ [] =
    ap (map rule_named) (next_of table i d inside) ∙ map-append rule_named (take i table) (get_or table i d ∷ []) in
    let shape : app_of new ≡ with_rule (with_rules (app_of old) (map rule_named (take i table))) (rule_named (get_or table i d)) =
    added.shape local ∙ ap₂ with_rule before.0 same in
    let table_so_far = with_rules_end (app_of old) (map rule_named (take i table)) (rule_named (get_or table i d)) in
    (shape ∙ sym table_so_far ∙ ap (with_rules (app_of old)) (sym rules), added.globals ∙ or_false (has_globals made) a.global local ∙ before.1)

with_known_end : (app : App) (table : List Known) (command : Known) → with_known app (table ++ command ∷ []) ≡ with_subcommand (with_known app table) (app_known command).top
with_known_end app [] command = refl
with_known_end app (first ∷ rest) command = with_known_end (with_subcommand app (app_known first).top) rest command

-- one more command of a table
pub one_more_known : (old : App) (made sub new : Command) (table : List Known) (i : ℕ) (d : Known) → i < length table → (app_of made ≡ with_known old (take i table)) × (has_globals made ≡ false)
    → AddsSubcommand made sub new → app_of sub ≡ app_known (get_or table i d) → has_globals sub ≡ false
    → (app_of new ≡ with_known old (take (i + 1) table)) × (has_globals new ≡ false)
one_more_known old made sub new table i d inside before added same local =
    let top : shape_of sub ≡ (app_known (get_or table i d)).top = ap (λ a. a.top) same in
    let shape : app_of new ≡ with_subcommand (with_known old (take i table)) (app_known (get_or table i d)).top = added.shape local ∙ ap₂ with_subcommand before.0 top in
    (shape ∙ sym (with_known_end old (take i table) (get_or table i d)) ∙ ap (with_known old) (sym (next_of table i d inside)), added.globals ∙ or_false (has_globals made) (has_globals sub) local ∙ before.1)

-- the text that is found for an id is that of its row
pub first_text : (f : Found) (id : Text) → first_value f id ≡ first_of id (rows_of f)
first_text f id = first_value-rows f id

-- the commands are such that `clap` says of them just which words it takes
pub free : is_simple_and_free program ≡ true
unfolding clap_on_literals
free = refl

simple : is_simple program ≡ true
unfolding clap_on_literals
simple = refl

-- an error that is no want of memory is a fault of the words
pub some_fault : (kinds : Kinds) (e : Error) → HasKind kinds e → kind_of e ≢ OutOfMemory → kinds ≢ []
some_fault [] e (inl memory) other = absurd (other memory)
some_fault [] e (inr h) other = absurd h
some_fault (k ∷ ks) e h other = λ none. cc

-- the command that was found
pub entered : (m : ArgMatches) (name : Text) (rows : List Row) → Some name ≡ subcommand_name_of m → Some rows ≡ option_map (λ p. p.1) (subcommand_rows_of m)
    → subcommand_rows_of m ≡ Some (name, rows)
entered m name rows named found = go (out-ArgMatches m).subcommand named found
  where
    go : {Z : Type 0} (o : Option (Box SubCommand Z)) → Some name ≡ option_map (λ b. (out-SubCommand (box_value b)).name.now) o
        → Some rows ≡ option_map (λ p. p.1) (subcommand_rows o) → subcommand_rows o ≡ Some (name, rows)
    go None named found = cc
    go (Some b) named found = cc

outside : (kinds : Kinds) (job : Option Job) → kinds ≢ [] → without_fault kinds job ≡ None
outside [] job h = absurd (h refl)
outside (k ∷ ks) job h = refl

-- words with a fault ask for nothing
pub no_job : (words : List Text) → fault_of program words ≢ [] → job_of words ≡ None
unfolding job_of
no_job words h = outside (fault_of program words) (asked_of (subcommand_of program words)) h

-- the others ask for what was found
pub known_job : (words : List Text) (m : ArgMatches) → fault_of program words ≡ [] → subcommand_rows_of m ≡ subcommand_of program words
    → job_of words ≡ asked_of (subcommand_rows_of m)
unfolding job_of
known_job words m good same = ap₂ without_fault good (ap asked_of (sym same))

-- words without a fault are matched as those of the program
pub matched : (a : App) (words : List Text) (m : ArgMatches) → a ≡ program → (is_simple_and_free a ≡ true → fault_of a words ≡ []) → HasMatchesOf a words m
    → (fault_of program words ≡ []) × (subcommand_rows_of m ≡ subcommand_of program words)
matched a words m is kinds matches =
    let good : fault_of program words ≡ [] = subst (λ b. is_simple_and_free b ≡ true → fault_of b words ≡ []) is kinds free in
    let own : HasMatchesOf program words m = subst (λ b. HasMatchesOf b words m) is matches in
    (good, (own simple).1)

-- others have a fault, where memory is not wanting
pub faulty : (a : App) (words : List Text) (e : Error) → a ≡ program → (is_simple_and_free a ≡ true → HasKind (fault_of a words) e) → kind_of e ≢ OutOfMemory → fault_of program words ≢ []
faulty a words e is kinds other = some_fault (fault_of program words) e (subst (λ b. is_simple_and_free b ≡ true → HasKind (fault_of b words) e) is kinds free) other

pub usage_alone : {T : Type 0} {P Q : Type 0} (r : Result T WordsError) → IsErrAnd r (λ e. (e ≡ words_errors.Usage → P) × (P → e ≡ words_errors.Usage)) → (P → Q) → IfErr r (λ e. (e ≡ words_errors.OutOfMemory) ⊎ Q)
usage_alone (Ok x) h f = tt
usage_alone (Err words_errors.Usage) h f = inr (f (h.0 refl))
usage_alone (Err words_errors.OutOfMemory) h f = inl refl
