use Rattle.std.proofs.Common.{rules, ◌≡◌, ◌∙◌, ◌+◌, ◌*◌, ◌/◌, ◌%◌, ◌≤◌, ℕ, List, ℤ, subst, arith}
use Rattle.std.specs.Result.{OnOk}
use Rattle.h5w_make.specs.Commands.{full_batches}
use Rattle.h5w_make.specs.Generators.{generated}
use Rattle.h5w_make.specs.States.{IsAfter}
use Rattle.h5w_make.proofs.TakenLemmas.{batches_end, full_next, none_left, puts_next, state_next, taken_next}
use Rattle.h5w_make.proofs.batch.put_all.Goals as goal

pub put_batch-requires : goal.put_batch-requires
put_batch-requires c =
    let l = c.loop in
    let within : l.counter * 1000 + 1000 ≤ 1000000 = omega (arith, c.loop-test.true, c.requires.few) in
    let values : c.deref.result.now ≡ generated l.generator.state 1000 = search rules in
    (full_batches c.args.seed l.counter, taken_next c.args.seed l.counter 1000 l.generator.state c.deref.result.now (omega arith) (omega arith) within l.invariant.1 values, l.invariant.0)

pub loop-preserved : goal.loop-preserved
loop-preserved c =
    let l = c.loop in
    let within : l.counter * 1000 + 1000 ≤ 1000000 = omega (arith, c.loop-test.true, c.requires.few) in
    let values : c.deref.result.now ≡ generated l.generator.state 1000 = search rules in (
      full_next c.args.seed l.counter c.put_batch.new.session c.put_batch.new.image
          (puts_next c.args.seed l.counter 1000 l.generator.state l.session c.put_batch.new.session l.image c.put_batch.new.image c.deref.result.now (omega arith) (omega arith) within l.invariant.0 l.invariant.1
          values c.in_ok-put_batch.ensures),
      state_next c.args.seed l.counter l.generator.state c.fill.new.self.state l.invariant.1 c.in_ok-fill.ensures.state,
    )

pub returns-then-rest-eq0 : goal.returns-then-rest-eq0
returns-then-rest-eq0 c =
    let l = c.loop in
    let all : l.counter ≡ c.args.n / 1000 = omega (arith, c.loop-test.false, l.auto.counter-end) in
    let full = subst (λ (k : ℕ). IsAfter (full_batches c.args.seed k) l.session l.image) all l.invariant.0 in
    subst (λ (bs : List (List ℤ)). IsAfter bs l.session l.image) (none_left c.args.seed c.args.n c.if-rest-eq0.true) full

pub put_batch-requires-2 : goal.put_batch-requires-2
put_batch-requires-2 c =
    let l = c.loop in
    let some : 1 ≤ c.args.n % 1000 = omega (arith, c.if-rest-eq0.false) in
    let within : l.counter * 1000 + c.args.n % 1000 ≤ 1000000 = omega (arith, c.loop-test.false, l.auto.counter-end, c.requires.few) in
    let given = c.deref-2.ensures.value ∙ c.in_ok-fill-2.ensures.values in
    (full_batches c.args.seed l.counter, taken_next c.args.seed l.counter (c.args.n % 1000) l.generator.state c.deref-2.result.now some (omega arith) within l.invariant.1 given, l.invariant.0)

pub returns : goal.returns
returns c =
    let l = c.loop in
    let n = c.args.n in
    let values = c.deref-2.result.now in
    let some : 1 ≤ n % 1000 = omega (arith, c.if-rest-eq0.false) in
    let within : l.counter * 1000 + n % 1000 ≤ 1000000 = omega (arith, c.loop-test.false, l.auto.counter-end, c.requires.few) in
    let all : l.counter ≡ n / 1000 = omega (arith, c.loop-test.false, l.auto.counter-end) in
    let given = c.deref-2.ensures.value ∙ c.in_ok-fill-2.ensures.values in
    let takes = taken_next c.args.seed l.counter (n % 1000) l.generator.state values some (omega arith) within l.invariant.1 given in
    let is = batches_end c.args.seed l.counter n l.generator.state values all some l.invariant.1 given in
    subst (λ (bs : List (List ℤ)). OnOk c.put_batch-2.result (IsAfter bs c.put_batch-2.new.session c.put_batch-2.new.image)) is (c.put_batch-2.ensures (full_batches c.args.seed l.counter) takes l.invariant.0)
