use Rattle.std.proofs.Common.{◌≡◌, ◌∙◌, ◌<◌, ◌-◌, Ok, Err, refl, arith, rules}
use Rattle.h5w_dataset.specs.Founds.{founds, found_of, stack}
use Rattle.h5w_headers.specs.Headers.{ranges_of, entered}
use Rattle.h5w_headers.proofs.RanLemmas.{going_stop, going_on, going_end, told_ok, step_err, step_ok}
use Rattle.h5w_headers.proofs.WalkLemmas.{walk_step, walk_done, walk_on}
use Rattle.h5w_headers.proofs.walk.walk.Goals as goal

pub returns-in_err-enter-clause-ran : goal.returns-in_err-enter-clause-ran
returns-in_err-enter-clause-ran g c =
    let a = c.args in
    let l = c.loop-done in
    let some : 0 < l.more = omega arith in
    let passed = rw c.in-Some.is at c.in_ok-m.ensures.passed in
    let is : c.from_residual-in_err-enter.result ≡ Err c.in_err-enter.field-0.0 = search rules in
    rw is (going_stop _ _ (entered a.writing a.tracked (found_of c.in-Some.m) (stack c.pass.new.next.items) (ranges_of l.extents.items)) c.in_err-enter.field-0.0 l.invariant c.in_err-enter.ensures.ran
    (λ img f said. walk_step img a.writing l.more (l.more - 1) a.header a.tracked (ranges_of l.extents.items) (founds l.done.items) (stack l.next.items) (founds c.pass.new.done.items) (stack c.pass.new.next.items) c.in-Some.m some refl passed
    ∙ step_err _ f (walk_on a.writing (l.more - 1) a.header a.tracked (founds c.pass.new.done.items) img) said))

pub loop-done-preserved : goal.loop-done-preserved
loop-done-preserved g c =
    let a = c.args in
    let l = c.loop-done in
    let some : 0 < l.more = omega arith in
    let passed = rw c.in-Some.is at c.in_ok-m.ensures.passed in
    going_on _ _ _ (entered a.writing a.tracked (found_of c.in-Some.m) (stack c.pass.new.next.items) (ranges_of l.extents.items)) (stack c.enter.new.next.items, ranges_of c.enter.new.extents.items) l.invariant c.in_ok-enter.ensures.ran
    (λ img said. walk_step img a.writing l.more (l.more - 1) a.header a.tracked (ranges_of l.extents.items) (founds l.done.items) (stack l.next.items) (founds c.pass.new.done.items) (stack c.pass.new.next.items) c.in-Some.m some refl passed
    ∙ step_ok _ _ (walk_on a.writing (l.more - 1) a.header a.tracked (founds c.pass.new.done.items) img) said)

pub returns-clause-ran : goal.returns-clause-ran
returns-clause-ran g c =
    let a = c.args in
    let l = c.loop-done in
    let passed = rw c.in_default.is at c.in_ok-m.ensures.passed in
    going_end _ _ (Ok (record { messages = founds c.pass.new.done.items; ranges = ranges_of l.extents.items })) _ l.invariant (told_ok _ _ refl)
    (λ img. walk_done img a.writing l.more a.header a.tracked (ranges_of l.extents.items) (founds l.done.items) (stack l.next.items) (founds c.pass.new.done.items) (stack c.pass.new.next.items) passed)
