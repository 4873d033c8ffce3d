use Rattle.std.proofs.Common.{◌≡◌, ◌∙◌, ◌<◌, Err, length, arith, rules}
use Rattle.h5w_model.specs.Findings.{data_block_visit}
use Rattle.h5w_headers.proofs.RanLemmas.{going_stop, going_on, step_ok, step_err}
use Rattle.h5w_check.proofs.ArrayLemmas.{each_next}
use Rattle.h5w_check.proofs.array.data_blocks.Goals as goal

pub returns-in_err-data_block : goal.returns-in_err-data_block
returns-in_err-data_block g c =
    let a = c.args in
    let l = c.loop-address in
    let visit = data_block_visit a.bounds.now.end a.bounds.now.chunk a.n in
    let lt : l.address-index < length a.addresses.now = omega arith in
    let is : c.from_residual.result ≡ Err c.in_err-data_block.field-0.0 = search rules in
    rw is (going_stop _ _ _ c.in_err-data_block.field-0.0 l.invariant c.in_err-data_block.ensures (λ img f said. each_next img l.ranges visit a.addresses.now l.address-index lt ∙ step_err _ f _ said))

pub loop-address-preserved : goal.loop-address-preserved
loop-address-preserved g c =
    let a = c.args in
    let l = c.loop-address in
    let visit = data_block_visit a.bounds.now.end a.bounds.now.chunk a.n in
    let lt : l.address-index < length a.addresses.now = omega arith in
    going_on _ _ _ _ c.data_block.new.ranges l.invariant c.in_ok-data_block.ensures (λ img said. each_next img l.ranges visit a.addresses.now l.address-index lt ∙ step_ok _ c.data_block.new.ranges _ said)
