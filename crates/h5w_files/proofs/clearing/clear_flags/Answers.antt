use Rattle.std.proofs.Common.{◌≡◌, List, ℕ, Ok, Err, rules, subst, sym}
use Rattle.h5w_files.specs.Clears.{Puts}
use Rattle.h5w_files.proofs.ClearLemmas.{clears_put, clears_refused, clears_wanting}
use Rattle.h5w_files.proofs.clearing.clear_flags.Goals as goal

pub returns-in_err-found-clause-clears : goal.returns-in_err-found-clause-clears
returns-in_err-found-clause-clears g c =
    let is : c.from_residual.result ≡ Err c.in_err-found.field-0.0 = search rules in
    rw is (clears_refused c.args.file.now c.superblock.new.piece c.args.upgrade c.in_err-found.field-0.0 c.in_err-found.ensures.finds)

pub returns-then-is_err-clause-clears : goal.returns-then-is_err-clause-clears
returns-then-is_err-clause-clears g c = clears_wanting c.args.file.now c.superblock.new.piece c.args.upgrade c.in_ok-found.found c.in_ok-found.ensures.finds

pub returns-clause-clears : goal.returns-clause-clears
returns-clause-clears g c =
    let name = c.args.file.now in
    let v = g.D.Disk.view c.superblock.new.disk in
    let w = g.D.Disk.view c.put_superblock.new.disk in
    let puts = subst (λ (b : List ℕ). Puts name b c.in-Some.flags v w (Ok c.in_ok-put_superblock.field-0)) c.as_slice.ensures.value c.in_ok-put_superblock.ensures.puts in
    clears_put name c.superblock.new.piece c.args.upgrade c.in_ok-found.found c.in-Some.flags c.in_ok-put_superblock.field-0 c.in_ok-found.ensures.finds (sym c.in-Some.ensures) puts
