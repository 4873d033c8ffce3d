use Rattle.std.proofs.Common.{rules}
use Rattle.h5w_commands.proofs.CompleteLemmas.{does_whole}
use Rattle.h5w_commands.proofs.InsideLemmas.{does_told}
use Rattle.h5w_commands.proofs.plain.plain.Goals as goal

pub returns-in-Play-clause-inside : goal.returns-in-Play-clause-inside
returns-in-Play-clause-inside g c = search rules

pub returns-in-Make-clause-inside : goal.returns-in-Make-clause-inside
returns-in-Make-clause-inside g c = search rules

pub returns-in-Append-clause-inside : goal.returns-in-Append-clause-inside
returns-in-Append-clause-inside g c = let ends = c.append.ensures.inside in search rules

pub returns-in-Stop-clause-inside : goal.returns-in-Stop-clause-inside
returns-in-Stop-clause-inside g c = search rules

pub returns-in_default-clause-inside : goal.returns-in_default-clause-inside
returns-in_default-clause-inside g c = c.on_files.ensures (g.S.Source.view c.args.source.now)

pub returns-in-Play-clause-completes : goal.returns-in-Play-clause-completes
returns-in-Play-clause-completes g c = does_whole _ _ _ _ _ _ _ _ (returns-in-Play-clause-inside g c)

pub returns-in-Make-clause-completes : goal.returns-in-Make-clause-completes
returns-in-Make-clause-completes g c = does_whole _ _ _ _ _ _ _ _ (returns-in-Make-clause-inside g c)

pub returns-in-Append-clause-completes : goal.returns-in-Append-clause-completes
returns-in-Append-clause-completes g c = does_whole _ _ _ _ _ _ _ _ (returns-in-Append-clause-inside g c)

pub returns-in-Stop-clause-completes : goal.returns-in-Stop-clause-completes
returns-in-Stop-clause-completes g c = does_whole _ _ _ _ _ _ _ _ (returns-in-Stop-clause-inside g c)

pub returns-in_default-clause-completes : goal.returns-in_default-clause-completes
returns-in_default-clause-completes g c = does_whole _ _ _ _ _ _ _ _ (returns-in_default-clause-inside g c)

pub returns-in-Play-clause-does : goal.returns-in-Play-clause-does
returns-in-Play-clause-does g c = does_told _ _ _ _ _ _ _ _ (returns-in-Play-clause-inside g c)

pub returns-in-Make-clause-does : goal.returns-in-Make-clause-does
returns-in-Make-clause-does g c = does_told _ _ _ _ _ _ _ _ (returns-in-Make-clause-inside g c)

pub returns-in-Append-clause-does : goal.returns-in-Append-clause-does
returns-in-Append-clause-does g c = does_told _ _ _ _ _ _ _ _ (returns-in-Append-clause-inside g c)

pub returns-in-Stop-clause-does : goal.returns-in-Stop-clause-does
returns-in-Stop-clause-does g c = does_told _ _ _ _ _ _ _ _ (returns-in-Stop-clause-inside g c)

pub returns-in_default-clause-does : goal.returns-in_default-clause-does
returns-in_default-clause-does g c = does_told _ _ _ _ _ _ _ _ (returns-in_default-clause-inside g c)
