use Rattle.std.proofs.Common.{◌∙◌, ap, sym, ℕ}
use Rattle.h5w_bt_nodes.specs.Nodes.{Tree}
use Rattle.h5w_bt_index.specs.Index.{Index, index_of}
use Rattle.h5w_bt_index.proofs.root.Root.copy.Goals as goal

abbrev of_root : (d : ℕ) → Tree d → Index
of_root d t = record { depth = d; root = t }

pub returns-in_ok-copy-in-Zero : goal.returns-in_ok-copy-in-Zero
returns-in_ok-copy-in-Zero c = ap (of_root 0) c.in_ok-copy-in-Zero.ensures ∙ ap index_of (sym c.in-Zero.is)

pub returns-in_ok-copy-in-One : goal.returns-in_ok-copy-in-One
returns-in_ok-copy-in-One c = ap (of_root 1) c.in_ok-copy-in-One.ensures ∙ ap index_of (sym c.in-One.is)

pub returns-in_ok-copy-in-Two : goal.returns-in_ok-copy-in-Two
returns-in_ok-copy-in-Two c = ap (of_root 2) c.in_ok-copy-in-Two.ensures ∙ ap index_of (sym c.in-Two.is)

pub returns-in_ok-copy-in-Three : goal.returns-in_ok-copy-in-Three
returns-in_ok-copy-in-Three c = ap (of_root 3) c.in_ok-copy-in-Three.ensures ∙ ap index_of (sym c.in-Three.is)
