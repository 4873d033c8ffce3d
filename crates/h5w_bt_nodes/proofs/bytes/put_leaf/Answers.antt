use Rattle.std.proofs.Common.{◌≡◌, ◌∙◌, ◌++◌, ap, drop, length, map, replicate, refl, List, ℕ}
use Rattle.h5w_model.specs.Images.{pieces}
use Rattle.h5w_model.specs.Trees.{RecordFields, btlf_bytes, btlf_len}
use Rattle.h5w_bt.specs.Parts.{record_of}
use Rattle.h5w_bt_nodes.proofs.NodeBytes.{leaf_length, zeros_padded}
use Rattle.h5w_bt_nodes.proofs.bytes.put_leaf.Goals as goal

pub returns-clause-written : goal.returns-clause-written
returns-clause-written c =
    let rs : List RecordFields = map record_of c.args.records.now.items in
    let same : c.from_vec.result ≡ rs = c.from_vec.ensures ∙ ap (map record_of) c.in_ok-copied.ensures in
    let spelled = c.encode.ensures.spelled ∙ ap (λ (l : List RecordFields). btlf_bytes l ++ drop (btlf_len (length l)) (replicate 2048 0)) same in
    c.in_ok-put_node.ensures
    ∙ ap (λ (b : List ℕ). c.args.out.now.items ++ pieces c.args.place b) (zeros_padded (btlf_bytes rs) c.encode.new.out (btlf_len (length rs)) spelled (leaf_length rs (length rs) refl))
