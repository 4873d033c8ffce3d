use Rattle.std.proofs.Common.{◌≡◌, ◌++◌, take}
use Rattle.std.specs.Prelude.{flat_map}
use Rattle.h5w_text.specs.Replies.{spaced_value}
use Rattle.h5w_text.proofs.reply.values.Given as goal

abbrev pub invariant-loop-v : goal.invariant-loop-v
invariant-loop-v l = l.out.items ≡ l.initial.out.items ++ flat_map spaced_value (take l.v-index l.values)
