use Rattle.std.proofs.Common.{◌≡◌, ◌∙◌, ℕ, List, Err, rules}
use Rattle.h5w_model.specs.Arrays.{super_block_of}
use Rattle.h5w_model.specs.Findings.{Used}
use Rattle.h5w_check.specs.Blocks.{secondary_found}
use Rattle.h5w_headers.proofs.RanLemmas.{ran_on, ran_refused, step_ok, step_err}
use Rattle.h5w_check.proofs.ArrayLemmas.{second_there, second_rest}
use Rattle.h5w_check.proofs.array.secondary_block.Goals as goal

pub returns-in_err-s : goal.returns-in_err-s
returns-in_err-s g c =
    let a = c.args in
    let pair : List ℕ × List Used = (c.in_ok-b.b.items, c.block.new.ranges) in
    let ran = rw (c.slots_len-len.ensures, c.sizes-blocks.ensures.blocks) at c.in_ok-b.ensures.ran in
    let told = rw (c.sizes-blocks.ensures.blocks, c.deref.ensures.value) at c.in_err-s.ensures in
    let is : c.from_residual-in_err-s.result ≡ Err c.in_err-s.field-0.0 = search rules in
    rw is (ran_refused _ pair (secondary_found a.at (super_block_of a.sblock).blocks c.in_ok-b.b.items) c.in_err-s.field-0.0 _ ran told (λ img f said gone.
    second_there img a.ranges.now a.bounds.now.end a.bounds.now.chunk a.sblock a.at c.if-at-eq-UNDEFINED.false
    ∙ step_ok _ pair (second_rest img a.bounds.now.end a.bounds.now.chunk a.sblock a.at) said ∙ step_err _ f _ gone))

pub returns : goal.returns
returns g c =
    let a = c.args in
    let pair : List ℕ × List Used = (c.in_ok-b.b.items, c.block.new.ranges) in
    let ran = rw (c.slots_len-len.ensures, c.sizes-blocks.ensures.blocks) at c.in_ok-b.ensures.ran in
    let told = rw (c.sizes-blocks.ensures.blocks, c.deref.ensures.value) at c.in_ok-s.ensures in
    let last = rw (c.sizes-blocks.ensures.slots, c.as_slice.ensures) at c.data_blocks.ensures in
    ran_on _ pair _ _ _ ran last (λ img said.
    second_there img a.ranges.now a.bounds.now.end a.bounds.now.chunk a.sblock a.at c.if-at-eq-UNDEFINED.false
    ∙ step_ok _ pair (second_rest img a.bounds.now.end a.bounds.now.chunk a.sblock a.at) said ∙ step_ok _ c.in_ok-s.s.slots _ told.exact)
