use Rattle.std.proofs.Common.{◌∙◌, ℕ, List}
use Rattle.h5w_model.specs.Findings.{Used}
use Rattle.h5w_check.specs.Blocks.{data_found}
use Rattle.h5w_headers.proofs.RanLemmas.{ran_end, step_ok}
use Rattle.h5w_check.proofs.ArrayLemmas.{data_there}
use Rattle.h5w_check.proofs.array.data_block.Goals as goal

pub returns : goal.returns
returns g c =
    let a = c.args in
    let pair : List ℕ × List Used = (c.in_ok-b.b.items, c.block.new.ranges) in
    let ran = rw c.slots_len-len.ensures at c.in_ok-b.ensures.ran in
    let told = rw c.deref.ensures.value at c.put_slots.ensures in
    ran_end _ pair (data_found a.bounds.now.end a.bounds.now.chunk a.at a.n c.in_ok-b.b.items c.block.new.ranges) _ _ ran told (λ img said.
    data_there img a.ranges.now a.bounds.now.end a.bounds.now.chunk a.n a.at c.if-at-eq-UNDEFINED.false
    ∙ step_ok _ pair (λ x. data_found a.bounds.now.end a.bounds.now.chunk a.at a.n x.0 x.1) said)
