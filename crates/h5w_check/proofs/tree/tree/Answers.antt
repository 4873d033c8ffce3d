use Rattle.std.proofs.Common.{◌≡◌, ◌∙◌, ℕ, List, Result, Ok, Err, refl, subst, rules}
use Rattle.h5w_model.specs.Programs.{eval, ret, and_then}
use Rattle.h5w_model.specs.Datasets.{then_also}
use Rattle.h5w_model.specs.Trees.{BthdFields}
use Rattle.h5w_model.specs.Findings.{Used, Finding, node_visit}
use Rattle.h5w_bt.specs.Fields.{bthd_of}
use Rattle.h5w_check.specs.Ran.{Told}
use Rattle.h5w_check.specs.Nodes.{Spanned, root_found, under_after}
use Rattle.h5w_check.specs.declared.error.CheckError.{CheckError}
use Rattle.h5w_headers.proofs.RanLemmas.{ran_end, ran_on, ran_refused, ran_then_stop, told_ok, step_ok, step_err}
use Rattle.h5w_check.proofs.ArrayLemmas.{run_absent, run_there}
use Rattle.h5w_check.proofs.TreeLemmas.{tree_there, tree_node, root_rest}
use Rattle.h5w_check.proofs.FallenLemmas.{ran_root}
use Rattle.h5w_check.proofs.tree.tree.Goals as goal

abbrev lost : CheckError → Result BthdFields CheckError
lost e = Err e

pub returns-in_err-t : goal.returns-in_err-t
returns-in_err-t g c =
    let a = c.args in
    let pair : List ℕ × List Used = (c.in_ok-b.b.items, c.block.new.ranges) in
    let told = subst (λ (b : List ℕ). Told (root_found a.at b) (lost c.in_err-t.field-0.0)) c.deref.ensures.value c.in_err-t.ensures.exact in
    let is : c.from_residual-in_err-t.result ≡ Err c.in_err-t.field-0.0 = search rules in
    rw is (ran_refused _ pair (root_found a.at c.in_ok-b.b.items) c.in_err-t.field-0.0 _ c.in_ok-b.ensures.ran told (λ img f said gone.
    tree_there img a.ranges.now a.bounds.now.end a.bounds.now.chunk a.at
    ∙ step_ok _ pair (λ x. then_also (root_found a.at x.0) (root_rest img a.bounds.now.end a.bounds.now.chunk x.1)) said ∙ step_err _ f _ gone))

pub returns-then-t : goal.returns-then-t
returns-then-t g c =
    let a = c.args in
    let t = bthd_of c.in_ok-t.t in
    let pair : List ℕ × List Used = (c.in_ok-b.b.items, c.block.new.ranges) in
    let told = subst (λ (b : List ℕ). Told (root_found a.at b) (Ok t)) c.deref.ensures.value c.in_ok-t.ensures.exact in
    ran_end _ pair (Ok c.block.new.ranges) _ _ c.in_ok-b.ensures.ran (told_ok _ _ refl) (λ img said.
    tree_there img a.ranges.now a.bounds.now.end a.bounds.now.chunk a.at
    ∙ step_ok _ pair (λ x. then_also (root_found a.at x.0) (root_rest img a.bounds.now.end a.bounds.now.chunk x.1)) said
    ∙ step_ok _ t (root_rest img a.bounds.now.end a.bounds.now.chunk c.block.new.ranges) told.exact
    ∙ run_absent img c.block.new.ranges t.root (and_then (node_visit a.bounds.now.end a.bounds.now.chunk t.depth t.root t.records) (λ u. ret (Ok u.ranges))) c.if-t.true)

pub returns-in_err-node : goal.returns-in_err-node
returns-in_err-node g c =
    let a = c.args in
    let t = bthd_of c.in_ok-t.t in
    let pair : List ℕ × List Used = (c.in_ok-b.b.items, c.block.new.ranges) in
    let told = subst (λ (b : List ℕ). Told (root_found a.at b) (Ok t)) c.deref.ensures.value c.in_ok-t.ensures.exact in
    let is : c.from_residual-in_err-node.result ≡ Err c.in_err-node.field-0.0 = search rules in
    let ran = ran_root a.bounds.now.end a.bounds.now.chunk _ _ _ _ t.depth t.root t.records c.block.new.ranges _ c.new-nodes.ensures c.in_err-node.ensures.ran in
    rw is (ran_then_stop _ pair _ c.in_err-node.field-0.0 _ c.in_ok-b.ensures.ran ran (λ img f said gone.
    tree_there img a.ranges.now a.bounds.now.end a.bounds.now.chunk a.at
    ∙ step_ok _ pair (λ x. then_also (root_found a.at x.0) (root_rest img a.bounds.now.end a.bounds.now.chunk x.1)) said
    ∙ step_ok _ t (root_rest img a.bounds.now.end a.bounds.now.chunk c.block.new.ranges) told.exact
    ∙ run_there img c.block.new.ranges t.root (and_then (node_visit a.bounds.now.end a.bounds.now.chunk t.depth t.root t.records) (λ u. ret (Ok u.ranges))) c.if-t.false
    ∙ tree_node img c.block.new.ranges a.bounds.now.end a.bounds.now.chunk t ∙ step_err _ f _ gone))

pub returns : goal.returns
returns g c =
    let a = c.args in
    let t = bthd_of c.in_ok-t.t in
    let pair : List ℕ × List Used = (c.in_ok-b.b.items, c.block.new.ranges) in
    let told = subst (λ (b : List ℕ). Told (root_found a.at b) (Ok t)) c.deref.ensures.value c.in_ok-t.ensures.exact in
    let x : Spanned = (c.node.new.ranges, c.in_ok-node.field-0) in
    let under : List ℕ → Result Spanned Finding = λ img. under_after c.block.new.ranges (eval img (node_visit a.bounds.now.end a.bounds.now.chunk t.depth t.root t.records)) in
    let ran = ran_root a.bounds.now.end a.bounds.now.chunk _ _ _ _ t.depth t.root t.records c.block.new.ranges _ c.new-nodes.ensures c.in_ok-node.ensures.ran in
    ran_on _ pair (λ img. then_also (under img) (λ y. Ok y.0)) _ _ c.in_ok-b.ensures.ran
    (ran_end under x (Ok c.node.new.ranges) _ _ ran (told_ok _ _ refl) (λ img said. step_ok (under img) x (λ y. Ok y.0) said))
    (λ img said.
    tree_there img a.ranges.now a.bounds.now.end a.bounds.now.chunk a.at
    ∙ step_ok _ pair (λ x. then_also (root_found a.at x.0) (root_rest img a.bounds.now.end a.bounds.now.chunk x.1)) said
    ∙ step_ok _ t (root_rest img a.bounds.now.end a.bounds.now.chunk c.block.new.ranges) told.exact
    ∙ run_there img c.block.new.ranges t.root (and_then (node_visit a.bounds.now.end a.bounds.now.chunk t.depth t.root t.records) (λ u. ret (Ok u.ranges))) c.if-t.false
    ∙ tree_node img c.block.new.ranges a.bounds.now.end a.bounds.now.chunk t)
