use Rattle.std.proofs.Common.{rules, ◌+◌, ◌≤◌, length, drop, take, arith, subst}
use Rattle.h5w_reader.specs.Cores.{reader}
use Rattle.h5w_reader.specs.declared.step.Step.{Step}
use Rattle.h5w_make.proofs.ReadingLemmas.{IsRead, at_once, begun_left, ends_as_begun, read_answer, read_left, same_rows}
use Rattle.h5w_make.proofs.reading.read_part.Goals as goal
use Rattle.h5w_make.proofs.reading.read_part.Goals.{in_default-via-in-Refused+in_default, in_default-via-in_default}

pub returns-in-Ok-Some-clause-values : goal.returns-in-Ok-Some-clause-values
returns-in-Ok-Some-clause-values c = λ values h.
    let img = c.args.image.now.bytes in
    let old = reader c.args.call.now in
    let within : c.args.from + c.args.count ≤ length values = omega (arith, c.requires.2, same_rows img c.requires.0 values old c.requires.1 h) in
    (at_once img values c.args.from c.args.count old (reader c.read.new.self) h c.in-Ok-Some.field-0 c.in-Ok-Some.values within c.in-Ok-Some.field-0-is c.in-Ok-Some.ensures.begun).0

pub returns-in-Ok-Some-clause-reader : goal.returns-in-Ok-Some-clause-reader
returns-in-Ok-Some-clause-reader c =
    (at_once c.args.image.now.bytes c.requires.0 c.args.from c.args.count (reader c.args.call.now) (reader c.read.new.self) c.requires.1 c.in-Ok-Some.field-0 c.in-Ok-Some.values c.requires.2 c.in-Ok-Some.field-0-is c.in-Ok-Some.ensures.begun).1

pub unreachable-requires-in_default : goal.unreachable-requires-in_default
unreachable-requires-in_default c =
    let img = c.args.image.now.bytes in
    let values = c.requires.0 in
    let part = take c.args.count (drop c.args.from values) in
    let between = reader c.read.new.self in
    let left = begun_left img values c.args.from c.args.count (reader c.args.call.now) between c.requires.1 c.in-Ok-None.field-0 c.in-Ok-None.field-0-is c.in-Ok-None.ensures.begun in
    let told = read_answer img values c.args.from c.args.count between (reader c.answered.new.call) c.answered.result c.requires.1.readable c.requires.2 c.answered.ensures.answered (c.answered.ensures.answer (read_left c.requires.1.readable.reads.shown c.args.from c.args.count) left) in
    elim c.in_default.branch [
      | in_default-via-in-Refused+in_default w ↦
          let memory = subst (λ (s : Step). IsRead part between s (reader c.answered.new.call)) w.in_default.is told in
          search (rules, memory)
      | in_default-via-in_default w ↦ search (rules, told)
    ]

pub returns-in-Values-clause-values : goal.returns-in-Values-clause-values
returns-in-Values-clause-values c = λ values h.
    let img = c.args.image.now.bytes in
    let old = reader c.args.call.now in
    let between = reader c.read.new.self in
    let within : c.args.from + c.args.count ≤ length values = omega (arith, c.requires.2, same_rows img c.requires.0 values old c.requires.1 h) in
    let left = begun_left img values c.args.from c.args.count old between h c.in-Ok-None.field-0 c.in-Ok-None.field-0-is c.in-Ok-None.ensures.begun in
    let told = read_answer img values c.args.from c.args.count between (reader c.answered.new.call) c.answered.result h.readable within c.answered.ensures.answered (c.answered.ensures.answer (read_left h.readable.reads.shown c.args.from c.args.count) left) in
    (subst (λ (s : Step). IsRead (take c.args.count (drop c.args.from values)) between s (reader c.answered.new.call)) c.in-Values.is told).0

pub returns-in-Values-clause-reader : goal.returns-in-Values-clause-reader
returns-in-Values-clause-reader c =
    let img = c.args.image.now.bytes in
    let values = c.requires.0 in
    let old = reader c.args.call.now in
    let between = reader c.read.new.self in
    let left = begun_left img values c.args.from c.args.count old between c.requires.1 c.in-Ok-None.field-0 c.in-Ok-None.field-0-is c.in-Ok-None.ensures.begun in
    let told = read_answer img values c.args.from c.args.count between (reader c.answered.new.call) c.answered.result c.requires.1.readable c.requires.2 c.answered.ensures.answered (c.answered.ensures.answer (read_left c.requires.1.readable.reads.shown c.args.from c.args.count) left) in
    ends_as_begun img values c.args.from c.args.count old between c.requires.1 c.in-Ok-None.field-0 (reader c.answered.new.call) c.in-Ok-None.field-0-is c.in-Ok-None.ensures.begun
    (subst (λ (s : Step). IsRead (take c.args.count (drop c.args.from values)) between s (reader c.answered.new.call)) c.in-Values.is told).1
