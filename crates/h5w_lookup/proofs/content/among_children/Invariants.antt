use Rattle.std.proofs.Common.{◌≡◌, ℕ, true, Result, map, drop}
use Rattle.h5w_model.specs.Programs.{Prog}
use Rattle.h5w_model.specs.Tables.{in_node, key_below}
use Rattle.h5w_model.specs.Trees.{ChildFields}
use Rattle.h5w_model.specs.declared.cell.Key.{Key}
use Rattle.h5w_model.specs.declared.refusal.ReadError.{ReadError}
use Rattle.h5w_bt.specs.Parts.{record_of, child_of}
use Rattle.h5w_lookup.proofs.content.among_children.Given as goal

abbrev pub invariant-loop-i : goal.invariant-loop-i
invariant-loop-i l = record {
  same : (go : ChildFields → Prog (Result ℕ ReadError)) → in_node go l.key (drop l.i (map record_of l.records)) (drop l.i (map child_of l.children)) ≡ in_node go l.key (map record_of l.records) (map child_of l.children);
  ahead : (k : Key) → key_below l.key k ≡ true → (go : ChildFields → Prog (Result ℕ ReadError)) → in_node go k (drop l.i (map record_of l.records)) (drop l.i (map child_of l.children)) ≡ in_node go k (map record_of l.records) (map child_of l.children);
}
