use Rattle.std.proofs.Common.{◌≡◌, ◌≤◌, ◌∙◌, ◌++◌, List, ℕ, ap, ap₂, sym, refl, subst, drop, length, map, replicate}
use Rattle.h5w_model.specs.Images.{pieces}
use Rattle.h5w_model.specs.Trees.{BtinFields, ChildFields, RecordFields, btin_bytes, btin_len}
use Rattle.h5w_bt.specs.Parts.{child_of, record_of}
use Rattle.h5w_bt_nodes.proofs.NodeBytes.{inner_fits, inner_length, zeros_padded}
use Rattle.h5w_bt_nodes.proofs.bytes.put_inner.Goals as goal

pub encode-requires-clause-room : goal.encode-requires-clause-room
encode-requires-clause-room c =
    let rs : List RecordFields = map record_of c.args.records.now.items in
    let same : c.from_vec.result ≡ rs = c.from_vec.ensures ∙ ap (map record_of) c.in_ok-copied.ensures in
    subst (λ (l : List RecordFields). btin_len (length l) c.args.depth ≤ 2048) (sym same) (inner_fits (length rs) c.args.depth c.requires.form.shallow c.requires.form.few)

pub returns-clause-written : goal.returns-clause-written
returns-clause-written c =
    let rs : List RecordFields = map record_of c.args.records.now.items in
    let cs : List ChildFields = map child_of c.args.children.items in
    let t : BtinFields = record { records = rs; children = cs } in
    let same : c.from_vec.result ≡ rs = c.from_vec.ensures ∙ ap (map record_of) c.in_ok-copied.ensures in
    let spelled = c.encode.ensures.spelled ∙ ap₂ (λ (a : List RecordFields) (b : List ChildFields). btin_bytes (record { records = a; children = b }) c.args.depth ++ drop (btin_len (length a) c.args.depth) (replicate 2048 0)) same c.from_vec-2.ensures in
    c.in_ok-put_node.ensures
    ∙ ap (λ (b : List ℕ). c.args.out.now.items ++ pieces c.args.place b)
    (zeros_padded (btin_bytes t c.args.depth) c.encode.new.out (btin_len (length rs) c.args.depth) spelled (inner_length t (length rs) c.args.depth c.requires.form.deep refl c.requires.form.count))
