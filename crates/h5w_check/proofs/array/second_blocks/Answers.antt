use Rattle.std.proofs.Common.{◌≡◌, ◌∙◌, ◌<◌, Ok, Err, length, refl, arith, rules}
use Rattle.h5w_headers.proofs.RanLemmas.{going_stop, going_on, going_end, told_ok, step_ok, step_err}
use Rattle.h5w_check.proofs.ArrayLemmas.{second_next, second_past}
use Rattle.h5w_check.proofs.array.second_blocks.Goals as goal

pub returns-then-sblock-ge-SUPER_BLOCKS : goal.returns-then-sblock-ge-SUPER_BLOCKS
returns-then-sblock-ge-SUPER_BLOCKS g c =
    let a = c.args in
    let l = c.loop-address in
    let lt : l.address-index < length a.addresses.now = omega arith in
    let past : 12 < l.sblock = omega arith in
    going_end _ _ (Ok l.ranges) _ l.invariant (told_ok _ _ refl) (λ img. second_past img l.ranges a.bounds.now.end a.bounds.now.chunk l.sblock a.addresses.now l.address-index lt past)

pub returns-in_err-secondary_block : goal.returns-in_err-secondary_block
returns-in_err-secondary_block g c =
    let a = c.args in
    let l = c.loop-address in
    let lt : l.address-index < length a.addresses.now = omega arith in
    let low : l.sblock < 13 = omega arith in
    let is : c.from_residual.result ≡ Err c.in_err-secondary_block.field-0.0 = search rules in
    rw is (going_stop _ _ _ c.in_err-secondary_block.field-0.0 l.invariant c.in_err-secondary_block.ensures (λ img f said.
    second_next img l.ranges a.bounds.now.end a.bounds.now.chunk l.sblock a.addresses.now l.address-index lt low ∙ step_err _ f _ said))

pub loop-address-preserved : goal.loop-address-preserved
loop-address-preserved g c =
    let a = c.args in
    let l = c.loop-address in
    let lt : l.address-index < length a.addresses.now = omega arith in
    let low : l.sblock < 13 = omega arith in
    going_on _ _ _ _ c.secondary_block.new.ranges l.invariant c.in_ok-secondary_block.ensures (λ img said.
    second_next img l.ranges a.bounds.now.end a.bounds.now.chunk l.sblock a.addresses.now l.address-index lt low ∙ step_ok _ c.secondary_block.new.ranges _ said)
