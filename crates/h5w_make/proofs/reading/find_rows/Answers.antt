use Rattle.std.proofs.Common.{rules, ap, subst}
use Rattle.h5w_reader.specs.Cores.{reader}
use Rattle.h5w_reader.specs.declared.step.Step.{Step}
use Rattle.h5w_model.specs.Unfinished.{Reader}
use Rattle.h5w_make.proofs.ReadingLemmas.{IsOpened, open_left, opened}
use Rattle.h5w_make.proofs.reading.find_rows.Goals as goal
use Rattle.h5w_make.proofs.reading.find_rows.Goals.{in_default-via-in-Refused+in_default, in_default-via-in_default}

pub unreachable-requires : goal.unreachable-requires
unreachable-requires c =
    let img = c.args.image.now.bytes in
    let values = c.requires.readable.0 in
    let left = ap (λ (r : Reader). r.left) c.requires.begun in
    let told = opened img values (reader c.args.call.now) (reader c.answered.new.call) c.answered.result c.requires.readable.1 c.answered.ensures.answered (c.answered.ensures.answer open_left left) in
    elim c.in_default.branch [
      | in_default-via-in-Refused+in_default w ↦
          let memory = subst (λ (s : Step). IsOpened img values s (reader c.answered.new.call)) w.in_default.is told in
          search (rules, memory)
      | in_default-via-in_default w ↦ search (rules, told)
    ]

pub returns-in-Rows-clause-opened : goal.returns-in-Rows-clause-opened
returns-in-Rows-clause-opened c = λ values readable.
    let img = c.args.image.now.bytes in
    let left = ap (λ (r : Reader). r.left) c.requires.begun in
    let told = opened img values (reader c.args.call.now) (reader c.answered.new.call) c.answered.result readable c.answered.ensures.answered (c.answered.ensures.answer open_left left) in
    (subst (λ (s : Step). IsOpened img values s (reader c.answered.new.call)) c.in-Rows.is told).0

pub returns-in-Rows-clause-rows : goal.returns-in-Rows-clause-rows
returns-in-Rows-clause-rows c = λ values readable.
    let img = c.args.image.now.bytes in
    let left = ap (λ (r : Reader). r.left) c.requires.begun in
    let told = opened img values (reader c.args.call.now) (reader c.answered.new.call) c.answered.result readable c.answered.ensures.answered (c.answered.ensures.answer open_left left) in
    (subst (λ (s : Step). IsOpened img values s (reader c.answered.new.call)) c.in-Rows.is told).1
