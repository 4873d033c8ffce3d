use Rattle.std.proofs.Common.{◌∙◌, Ok, Err, ap, sym}
use Rattle.h5w_writer.specs.declared.refusal.FlushError.TheVariants as errors
use Rattle.h5w_several_core.specs.Worlds.{pollings_of}
use Rattle.h5w_several_core.proofs.FlushLemmas.{FlushTells, all_held, all_hold, all_polls, busy_steps, full_steps, full_told, memory_free, planned_steps, stopped_steps}
use Rattle.h5w_several_core.proofs.KeptLemmas.{kept_by}
use Rattle.h5w_several_core.proofs.world.SeveralWorld.flush.Goals as goal
use Rattle.h5w_several_core.proofs.world.SeveralWorld.flush.Goals.{in-Ok, in-Err-Stopped, in-Err-Busy, in-Err-Space, in-Err-Deep, in-Err-OutOfMemory}

pub returns-clause-steps : goal.returns-clause-steps
returns-clause-steps c =
    let i = c.self.inside in
    let w = c.args.self.now in
    let T = c.flush.new.self in
    let n = c.flush.new.image in
    elim c.match-flush.branch [
      | in-Ok b ↦
          let e = b.in-Ok.ensures in
          let tells : FlushTells i.session T (Ok b.in-Ok.pieces) = record { flushed = e.flushed; counts = e.counts; stands = e.stands; left = tt; refused = e.refused; causes = tt; kept = tt } in
          rw b.result-is (planned_steps i.session i.image i.attempts i.places.items w c.self.view_is T n e.image b.in-Ok.pieces tells)
      | in-Err-Stopped b ↦
          let e = b.in-Err-Stopped in
          let tells : FlushTells i.session T (Err e.field-0) = record { flushed = tt; counts = tt; stands = tt; left = e.ensures.left; refused = e.ensures.refused; causes = e.ensures.causes; kept = e.ensures.kept } in
          rw b.result-is (stopped_steps i.session i.image i.attempts i.places.items w c.self.view_is T n e.ensures.image e.field-0 tells e.field-0-is)
      | in-Err-Busy b ↦
          let e = b.in-Err-Busy in
          let tells : FlushTells i.session T (Err e.field-0) = record { flushed = tt; counts = tt; stands = tt; left = e.ensures.left; refused = e.ensures.refused; causes = e.ensures.causes; kept = e.ensures.kept } in
          rw b.result-is (busy_steps i.session i.image i.attempts i.places.items w c.self.view_is T n e.ensures.image e.field-0 tells e.pending e.field-0-is)
      | in-Err-Space b ↦
          let e = b.in-Err-Space in
          let tells : FlushTells i.session T (Err e.field-0) = record { flushed = tt; counts = tt; stands = tt; left = e.ensures.left; refused = e.ensures.refused; causes = e.ensures.causes; kept = e.ensures.kept } in
          rw b.result-is
          (full_steps i.session i.image i.attempts i.places.items w c.self.view_is T n e.ensures.image e.field-0 tells e.field-0-0 e.field-0-is (e.ensures.bound e.field-0-0 (ap Err e.field-0-is)))
      | in-Err-Deep b ↦ rw b.result-is tt
      | in-Err-OutOfMemory b ↦ rw b.result-is tt
    ]

pub invariant_of-self : goal.invariant_of-self
invariant_of-self c =
    let i = c.self.inside in
    let e = c.flush.ensures in
    let tells : FlushTells i.session c.flush.new.self c.flush.result = record { flushed = e.flushed; counts = e.counts; stands = e.stands; left = e.left; refused = e.refused; causes = e.causes; kept = e.kept } in
    let polls = all_polls i.session i.image i.attempts i.places.items c.args.self.now c.self.view_is c.flush.new.self c.flush.new.image e.image c.flush.result tells in (
      all_hold i.session i.image i.attempts i.places.items c.args.self.now c.self.view_is c.flush.new.self c.flush.new.image e.image c.flush.result tells c.self.invariant.0 e.room,
      kept_by i.session c.flush.new.self i.image c.flush.new.image i.attempts i.places.items i.places.items c.self.invariant.0 (polls ∙ sym (ap pollings_of c.self.view_is)) c.self.invariant.1,
    )

pub returns-clause-polls : goal.returns-clause-polls
returns-clause-polls c =
    let i = c.self.inside in
    let e = c.flush.ensures in
    all_polls i.session i.image i.attempts i.places.items c.args.self.now c.self.view_is c.flush.new.self c.flush.new.image e.image c.flush.result
    (record { flushed = e.flushed; counts = e.counts; stands = e.stands; left = e.left; refused = e.refused; causes = e.causes; kept = e.kept })

pub returns-clause-kept : goal.returns-clause-kept
returns-clause-kept c =
    let i = c.self.inside in
    elim c.match-flush.branch [
      | in-Ok b ↦ rw b.result-is tt
      | in-Err-Stopped b ↦ rw b.result-is tt
      | in-Err-Busy b ↦ rw b.result-is tt
      | in-Err-Space b ↦ rw b.result-is tt
      | in-Err-Deep b ↦
          let e = b.in-Err-Deep.ensures in
          rw b.result-is (all_held i.session i.image i.attempts i.places.items c.args.self.now c.self.view_is c.flush.new.self c.flush.new.image e.image e.kept e.left)
      | in-Err-OutOfMemory b ↦
          let e = b.in-Err-OutOfMemory.ensures in
          rw b.result-is (all_held i.session i.image i.attempts i.places.items c.args.self.now c.self.view_is c.flush.new.self c.flush.new.image e.image e.kept e.left)
    ]

pub returns-clause-memory : goal.returns-clause-memory
returns-clause-memory c =
    let i = c.self.inside in
    elim c.match-flush.branch [
      | in-Ok b ↦ rw b.result-is tt
      | in-Err-Stopped b ↦ rw b.result-is tt
      | in-Err-Busy b ↦ rw b.result-is tt
      | in-Err-Space b ↦ rw b.result-is tt
      | in-Err-Deep b ↦
          let e = b.in-Err-Deep in
          let tells : FlushTells i.session c.flush.new.self (Err e.field-0) = record { flushed = tt; counts = tt; stands = tt; left = e.ensures.left; refused = e.ensures.refused; causes = e.ensures.causes; kept = e.ensures.kept } in
          rw b.result-is (memory_free i.session i.image i.attempts i.places.items c.args.self.now c.self.view_is c.flush.new.self c.flush.new.image e.ensures.image e.field-0 tells errors.Deep e.field-0-is tt)
      | in-Err-OutOfMemory b ↦
          let e = b.in-Err-OutOfMemory in
          let tells : FlushTells i.session c.flush.new.self (Err e.field-0) = record { flushed = tt; counts = tt; stands = tt; left = e.ensures.left; refused = e.ensures.refused; causes = e.ensures.causes; kept = e.ensures.kept } in
          rw b.result-is (memory_free i.session i.image i.attempts i.places.items c.args.self.now c.self.view_is c.flush.new.self c.flush.new.image e.ensures.image e.field-0 tells errors.OutOfMemory e.field-0-is tt)
    ]

pub returns-clause-full : goal.returns-clause-full
returns-clause-full c =
    let i = c.self.inside in
    elim c.match-flush.branch [
      | in-Ok b ↦ rw b.result-is (λ full told. absurd cc)
      | in-Err-Stopped b ↦ rw b.result-is (λ full told. absurd cc)
      | in-Err-Busy b ↦ rw b.result-is (λ full told. absurd cc)
      | in-Err-Space b ↦
          let e = b.in-Err-Space in
          rw b.result-is
          (λ full told. full_told i.session i.image i.attempts i.places.items c.args.self.now c.self.view_is c.flush.new.self c.flush.new.image e.ensures.image e.field-0 e.field-0-0 full e.field-0-is e.ensures.full told)
      | in-Err-Deep b ↦ rw b.result-is (λ full told. absurd cc)
      | in-Err-OutOfMemory b ↦ rw b.result-is (λ full told. absurd cc)
    ]
