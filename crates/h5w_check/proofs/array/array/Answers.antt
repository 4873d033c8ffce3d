use Rattle.std.proofs.Common.{◌≡◌, ◌∙◌, ℕ, List, Ok, Err, refl, rules}
use Rattle.h5w_model.specs.Datasets.{then_also}
use Rattle.h5w_model.specs.Findings.{index_block_visit, Used}
use Rattle.h5w_check.specs.Blocks.{header_found}
use Rattle.h5w_headers.proofs.RanLemmas.{ran_on, ran_end, ran_refused, told_ok, step_ok, step_err}
use Rattle.h5w_check.proofs.ArrayLemmas.{array_there, block_rest, run_absent, run_there}
use Rattle.h5w_check.proofs.array.array.Goals as goal

pub returns-in_err-named : goal.returns-in_err-named
returns-in_err-named g c =
    let a = c.args in
    let pair : List ℕ × List Used = (c.in_ok-b.b.items, c.block.new.ranges) in
    let told = rw c.deref.ensures.value at c.in_err-named.ensures in
    let is : c.from_residual-in_err-named.result ≡ Err c.in_err-named.field-0.0 = search rules in
    rw is (ran_refused _ pair (header_found a.at c.in_ok-b.b.items) c.in_err-named.field-0.0 _ c.in_ok-b.ensures.ran told (λ img f said gone.
    array_there img a.ranges.now a.bounds.now.end a.bounds.now.chunk a.at
    ∙ step_ok _ pair (λ x. then_also (header_found a.at x.0) (block_rest img a.bounds.now.end a.bounds.now.chunk x.1)) said ∙ step_err _ f _ gone))

pub returns-then-named : goal.returns-then-named
returns-then-named g c =
    let a = c.args in
    let pair : List ℕ × List Used = (c.in_ok-b.b.items, c.block.new.ranges) in
    let told = rw c.deref.ensures.value at c.in_ok-named.ensures in
    ran_end _ pair (Ok c.block.new.ranges) _ _ c.in_ok-b.ensures.ran (told_ok _ _ refl) (λ img said.
    array_there img a.ranges.now a.bounds.now.end a.bounds.now.chunk a.at
    ∙ step_ok _ pair (λ x. then_also (header_found a.at x.0) (block_rest img a.bounds.now.end a.bounds.now.chunk x.1)) said
    ∙ step_ok _ c.in_ok-named.named (block_rest img a.bounds.now.end a.bounds.now.chunk c.block.new.ranges) told.exact
    ∙ run_absent img c.block.new.ranges c.in_ok-named.named (index_block_visit a.bounds.now.end a.bounds.now.chunk c.in_ok-named.named) c.if-named.true)

pub returns : goal.returns
returns g c =
    let a = c.args in
    let pair : List ℕ × List Used = (c.in_ok-b.b.items, c.block.new.ranges) in
    let told = rw c.deref.ensures.value at c.in_ok-named.ensures in
    ran_on _ pair _ _ _ c.in_ok-b.ensures.ran c.index_block.ensures (λ img said.
    array_there img a.ranges.now a.bounds.now.end a.bounds.now.chunk a.at
    ∙ step_ok _ pair (λ x. then_also (header_found a.at x.0) (block_rest img a.bounds.now.end a.bounds.now.chunk x.1)) said
    ∙ step_ok _ c.in_ok-named.named (block_rest img a.bounds.now.end a.bounds.now.chunk c.block.new.ranges) told.exact
    ∙ run_there img c.block.new.ranges c.in_ok-named.named (index_block_visit a.bounds.now.end a.bounds.now.chunk c.in_ok-named.named) c.if-named.false)
