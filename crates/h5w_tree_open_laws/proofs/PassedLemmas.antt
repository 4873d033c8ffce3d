-- A tree whose keys rise has no node that stands for one that was passed over.
use Rattle.std.proofs.Common.{◌≡◌, ℕ, zero, suc, [], ◌∷◌, true, subst}
use Rattle.std.proofs.lemmas.Bool.{both_ways}
use Rattle.std.proofs.lemmas.List.Elements.{All-head}
use Rattle.h5w_model.specs.Trees.{ChildFields}
use Rattle.h5w_model.specs.Tables.{key_below}
use Rattle.h5w_bt.specs.declared.records.Record.{Record}
use Rattle.h5w_bt.proofs.KeyLemmas.{below-not_self}
use Rattle.h5w_bt_nodes.specs.Nodes.{Tree, all_records}
use Rattle.h5w_bt_index.specs.Sound.{IsRising}
use Rattle.h5w_bt_open.specs.Opened.{no_chunk, no_key, nowhere_below, passed_of}

-- two records of one key are under it, and do not rise
none_rises : (d : ℕ) (c : ChildFields) → IsRising (all_records d (passed_of d c)) → ⊥
none_rises zero c h = both_ways (key_below no_key no_key) (below-not_self no_key) (All-head (λ (s : Record). key_below no_key s.key ≡ true) no_chunk [] h.0)
none_rises (suc d) c h = none_rises d nowhere_below h

pub never_passed : (d : ℕ) (c : ChildFields) (t : Tree d) → IsRising (all_records d t) → t ≡ passed_of d c → ⊥
never_passed d c t rises is = none_rises d c (subst (λ (u : Tree d). IsRising (all_records d u)) is rises)
