use Rattle.std.proofs.Common.{arith, rules, ◌≡◌, ◌<◌, ◌^◌, ℕ, pos, get_or}
use Rattle.std.proofs.lemmas.List.Sums.{get_or-le-sum_by, sum_by_more, sum_by_more_le}
use Rattle.h5w_make.proofs.GeneratorLemmas.{inside, value_at}
use Rattle.h5w_make.proofs.reading.sum_of.Goals as goal

pub overflow_cast-sum : goal.overflow_cast-sum
overflow_cast-sum c =
    let vs = c.args.values.now in
    let i = c.loop-value.value-index in
    let ns = c.requires.0 in
    let within = inside ns vs i c.requires.1 c.loop-value-test.true in
    let small : get_or ns i 0 < 2 ^ 64 = omega (arith, get_or-le-sum_by (λ (n : ℕ). n) ns i 0 within, c.requires.2) in
    let value : get_or vs i (pos 0) ≡ pos (get_or ns i 0) = value_at ns vs i c.requires.1 in
    search (rules, value, small)

pub overflow_add-sum : goal.overflow_add-sum
overflow_add-sum c =
    let vs = c.args.values.now in
    let i = c.loop-value.value-index in
    let ns = c.requires.0 in
    let within = inside ns vs i c.requires.1 c.loop-value-test.true in
    let value : get_or vs i (pos 0) ≡ pos (get_or ns i 0) = value_at ns vs i c.requires.1 in
    let so = c.loop-value.invariant ns c.requires.1 in
    let more = sum_by_more_le (λ (n : ℕ). n) ns i 0 within in
    search (rules, value, so, more)

pub loop-value-preserved : goal.loop-value-preserved
loop-value-preserved c = λ ns is.
    let vs = c.args.values.now in
    let i = c.loop-value.value-index in
    let within = inside ns vs i is c.loop-value-test.true in
    let value : get_or vs i (pos 0) ≡ pos (get_or ns i 0) = value_at ns vs i is in
    let so = c.loop-value.invariant ns is in
    let more = sum_by_more (λ (n : ℕ). n) ns i 0 within in
    search (rules, value, so, more)
