use Rattle.std.proofs.Common.{◌≡◌, ◌++◌, vec_len}
use Rattle.std.specs.List.{All}
use Rattle.h5w_model.specs.Datasets.{found_at}
use Rattle.h5w_dataset.specs.Founds.{stack}
use Rattle.h5w_dataset.specs.Listed.{IsInside}
use Rattle.h5w_dataset.proofs.stack.put_before.Given as goal

abbrev pub invariant-loop-m : goal.invariant-loop-m
invariant-loop-m l = record {
  same : found_at l.place l.in_chunk_0 l.list.items ++ stack l.next.items ≡ found_at l.place l.in_chunk_0 l.initial.list.items ++ stack l.initial.next.items;
  listed : All (IsInside l.got) l.list.items;
}

abbrev pub decreases-loop-m : goal.decreases-loop-m
decreases-loop-m l = vec_len l.list
