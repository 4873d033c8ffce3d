use Rattle.std.proofs.Common.{rules, ◌≡◌, ◌∙◌, ◌≤◌, ◌<◌, ◌^◌, drop, take, length, map, pos, sum, sym, arith}
use Rattle.std.proofs.lemmas.List.{length-map}
use Rattle.h5w_reader.specs.Cores.{reader}
use Rattle.h5w_writer.proofs.StateLemmas.{some_is}
use Rattle.h5w_make.proofs.GeneratorLemmas.{part_numbers, sum_all, sum_more, sum_within}
use Rattle.h5w_make.proofs.ReadingLemmas.{same_rows, still_opened}
use Rattle.h5w_make.proofs.reading.sum_rows.Goals as goal

pub read_part-requires : goal.read_part-requires
read_part-requires c =
    let l = c.loop-from in
    let ns = c.requires.0 in
    let bytes = sym (some_is l.image.bytes c.args.image.now.bytes l.invariant.1.1.bytes) in
    let there = still_opened c.args.image.now.bytes l.image.bytes (map pos ns) (reader c.args.call.now) (reader l.call) bytes l.invariant.1.0 c.requires.1 in
    (map pos ns, there, omega (arith, length-map ns pos, c.requires.2))

pub sum_of-total-requires : goal.sum_of-total-requires
sum_of-total-requires c =
    let l = c.loop-from in
    let ns = c.requires.0 in
    let part = take c.min-count.result (drop l.from ns) in
    let bytes = sym (some_is l.image.bytes c.args.image.now.bytes l.invariant.1.1.bytes) in
    let there = still_opened c.args.image.now.bytes l.image.bytes (map pos ns) (reader c.args.call.now) (reader l.call) bytes l.invariant.1.0 c.requires.1 in
    let read : c.as_slice.result.now ≡ c.in_ok-values.values = search rules in
    let small : sum part < 2 ^ 64 = omega (arith, sum_within ns l.from c.min-count.result, c.requires.3) in
    (part, part_numbers ns c.as_slice.result.now l.from c.min-count.result (read ∙ c.in_ok-values.ensures.values (map pos ns) there), small)

pub overflow_add-total : goal.overflow_add-total
overflow_add-total c =
    let l = c.loop-from in
    let ns = c.requires.0 in
    let part = take c.min-count.result (drop l.from ns) in
    let bytes = sym (some_is l.image.bytes c.args.image.now.bytes l.invariant.1.1.bytes) in
    let there = still_opened c.args.image.now.bytes l.image.bytes (map pos ns) (reader c.args.call.now) (reader l.call) bytes l.invariant.1.0 c.requires.1 in
    let read : c.as_slice.result.now ≡ c.in_ok-values.values = search rules in
    let more : c.sum_of-total.result ≡ sum part = c.sum_of-total.ensures part (part_numbers ns c.as_slice.result.now l.from c.min-count.result (read ∙ c.in_ok-values.ensures.values (map pos ns) there)) in
    omega (arith, more, l.invariant.0 ns c.requires.1, sum_within ns l.from c.min-count.result, c.requires.3)

pub loop-from-preserved : goal.loop-from-preserved
loop-from-preserved c = (
  λ ns h.
      let l = c.loop-from in
      let part = take c.min-count.result (drop l.from ns) in
      let bytes = sym (some_is l.image.bytes c.args.image.now.bytes l.invariant.1.1.bytes) in
      let there = still_opened c.args.image.now.bytes l.image.bytes (map pos ns) (reader c.args.call.now) (reader l.call) bytes l.invariant.1.0 h in
      let read : c.as_slice.result.now ≡ c.in_ok-values.values = search rules in
      let more : c.sum_of-total.result ≡ sum part = c.sum_of-total.ensures part (part_numbers ns c.as_slice.result.now l.from c.min-count.result (read ∙ c.in_ok-values.ensures.values (map pos ns) there)) in
      omega (arith, more, l.invariant.0 ns h, sum_more ns l.from c.min-count.result),
  (c.in_ok-values.ensures.reader ∙ c.loop-from.invariant.1.0, search rules),
)

pub returns-clause-sum : goal.returns-clause-sum
returns-clause-sum c = λ ns h.
    let l = c.loop-from in
    let all : length ns ≤ l.from =
    omega (arith, c.loop-from-test.false, c.requires.2, length-map ns pos, length-map c.requires.0 pos, same_rows c.args.image.now.bytes (map pos c.requires.0) (map pos ns) (reader c.args.call.now) c.requires.1 h) in
    l.invariant.0 ns h ∙ sum_all ns l.from all
