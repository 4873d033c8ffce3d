use Rattle.std.proofs.Common.{◌≡◌, ◌++◌, take}
use Rattle.std.specs.Prelude.{flat_map}
use Rattle.h5w_running.specs.Texts.{flush_text}
use Rattle.h5w_running.proofs.text.write_flushes.Given as goal

abbrev pub invariant-loop-line : goal.invariant-loop-line
invariant-loop-line l = l.out.items ≡ l.initial.out.items ++ flat_map flush_text (take l.line-index l.lines)
