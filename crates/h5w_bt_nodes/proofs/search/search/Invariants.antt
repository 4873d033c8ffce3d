use Rattle.std.proofs.Common.{◌≡◌, ◌+◌, drop}
use Rattle.h5w_bt_nodes.specs.Nodes.{rank, address_in}
use Rattle.h5w_bt_nodes.proofs.search.search.Given as goal

abbrev pub invariant-loop-i : goal.invariant-loop-i
invariant-loop-i l = record {
  place : rank l.key l.records ≡ l.i + rank l.key (drop l.i l.records);
  found : address_in l.key l.records ≡ address_in l.key (drop l.i l.records);
}
