-- The way to a key in a tree, from the content of a node on.
use Rattle.std.specs.Prelude.{ℕ, zero, suc, ◌-◌, Result, Ok}
use Rattle.h5w_model.specs.Programs.{Prog, ret}
use Rattle.h5w_model.specs.Tables.{in_leaf, in_node, tree_lookup}
use Rattle.h5w_model.specs.declared.cell.Key.{Key}
use Rattle.h5w_model.specs.declared.refusal.ReadError.{ReadError}
use Rattle.h5w_lookup.specs.Contents.{records_in, inner_in}
use Rattle.h5w_lookup.specs.Turns.{turned_by}
use Rattle.h5w_lookup.specs.declared.content.Content.{Content}
use Rattle.h5w_lookup.specs.declared.content.Turn.{Turn}

-- of a node of a depth
abbrev pub turned : ℕ → Key → Turn → Prog (Result ℕ ReadError)
turned depth key t = turned_by (λ c. tree_lookup (depth - 1) key c.address c.records) t

abbrev pub turning : ℕ → Key → Content → Prog (Result ℕ ReadError)
turning zero key c = ret (Ok (in_leaf key (records_in c)))
turning (suc depth) key c = in_node (λ x. tree_lookup depth key x.address x.records) key (inner_in c).records (inner_in c).children
