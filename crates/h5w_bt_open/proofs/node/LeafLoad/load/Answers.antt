use Rattle.std.proofs.Common.{◌≡◌, ◌+◌, ◌*◌, ℕ, true, Err, List, refl, subst, rules}
use Rattle.h5w_model.specs.Trees.{ChildFields, btlf_at}
use Rattle.h5w_bt.specs.Parts.{child_of}
use Rattle.h5w_bt_nodes.specs.Typed.{leaf_of}
use Rattle.h5w_bt_open.specs.Calls.{IfDamaged}
use Rattle.h5w_bt_open.specs.Spans.{Leads}
use Rattle.h5w_bt_open.specs.Opened.{IsRefused, looked_up}
use Rattle.h5w_bt_open.proofs.CallLemmas.{loads_quiet}
use Rattle.h5w_bt_open.proofs.HeldLemmas.{leaf_held}
use Rattle.h5w_bt_open.proofs.RefusedLemmas.{leaf_first}
use Rattle.h5w_bt_open.proofs.node.LeafLoad.load.Goals as goal

pub returns-in_err-leaf-clause-loads : goal.returns-in_err-leaf-clause-loads
returns-in_err-leaf-clause-loads g c =
    let child : ChildFields = child_of c.args.child in
    let needed = c.is_some.result in
    let is : c.from_residual-in_err-leaf.result ≡ Err c.in_err-leaf.field-0.0 = search rules in
    rw is (loads_quiet (λ img at f. IsRefused (looked_up img 0 (child_of c.args.child)) (Leads c.args.span) at f)
    (λ a f. (a ≡ c.args.child.address) × ((btlf_at c.in_ok-bytes.bytes.items c.args.child.address c.args.child.records ≡ Err f) × (c.is_some.result ≡ true))) c.in_err-leaf.field-0.0 c.bytes_at.ensures.looked c.in_err-leaf.ensures.quiet
    (λ img still a f h. leaf_first img (child_of c.args.child) c.args.span c.in_ok-bytes.bytes.items (10 + 24 * c.args.child.records) a c.is_some.result f (c.in_ok-bytes.ensures.exact img still) refl c.requires.led c.is_some.ensures h)
    (subst (λ (b : List ℕ). IfDamaged c.in_err-leaf.field-0.0 (λ a f. (a ≡ c.args.child.address) × ((btlf_at b c.args.child.address c.args.child.records ≡ Err f) × (c.is_some.result ≡ true)))) c.deref.ensures.value c.in_err-leaf.ensures.damaged))

pub returns-clause-held : goal.returns-clause-held
returns-clause-held g c =
    leaf_held c.deref.result.now c.args.child.address c.args.child.records (child_of c.args.child) c.is_some.result (leaf_of c.in_ok-leaf.leaf) refl c.requires.few c.in_ok-leaf.ensures.found
