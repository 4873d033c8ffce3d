use Rattle.std.proofs.Common.{◌≡◌, ◌∙◌, ◌<◌, Err, length, get_or, sym, ap, arith, rules}
use Rattle.h5w_model.specs.Arrays.{super_block_of}
use Rattle.h5w_model.specs.Tables.{super_block_of_first}
use Rattle.h5w_model.specs.Findings.{data_block_visit}
use Rattle.h5w_headers.proofs.RanLemmas.{going_stop, going_on, step_ok, step_err}
use Rattle.h5w_check.proofs.ArrayLemmas.{run, first_next}
use Rattle.h5w_check.proofs.array.first_blocks.Goals as goal

pub returns-in_err-data_block : goal.returns-in_err-data_block
returns-in_err-data_block g c =
    let a = c.args in
    let l = c.loop-i in
    let lt : l.i < length a.addresses.now = omega arith in
    let n : c.sizes-slots.result.1 ≡ (super_block_of (super_block_of_first l.i)).slots = c.sizes-slots.ensures.slots ∙ ap (λ s. (super_block_of s).slots) c.first_super_block.ensures.exact in
    let is : c.from_residual.result ≡ Err c.in_err-data_block.field-0.0 = search rules in
    rw is (going_stop _ _ _ c.in_err-data_block.field-0.0 l.invariant c.in_err-data_block.ensures (λ img f said.
    first_next img l.ranges a.bounds.now.end a.bounds.now.chunk a.addresses.now l.i lt ∙ step_err _ f _ (ap (λ k. run img l.ranges (data_block_visit a.bounds.now.end a.bounds.now.chunk k (get_or a.addresses.now l.i 0))) (sym n) ∙ said)))

pub loop-i-preserved : goal.loop-i-preserved
loop-i-preserved g c =
    let a = c.args in
    let l = c.loop-i in
    let lt : l.i < length a.addresses.now = omega arith in
    let n : c.sizes-slots.result.1 ≡ (super_block_of (super_block_of_first l.i)).slots = c.sizes-slots.ensures.slots ∙ ap (λ s. (super_block_of s).slots) c.first_super_block.ensures.exact in
    going_on _ _ _ _ c.data_block.new.ranges l.invariant c.in_ok-data_block.ensures (λ img said.
    first_next img l.ranges a.bounds.now.end a.bounds.now.chunk a.addresses.now l.i lt ∙ step_ok _ c.data_block.new.ranges _ (ap (λ k. run img l.ranges (data_block_visit a.bounds.now.end a.bounds.now.chunk k (get_or a.addresses.now l.i 0))) (sym n) ∙ said))
