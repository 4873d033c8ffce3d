use Rattle.std.proofs.Common.{◌≡◌, ◌∙◌, ℤ, Ok, Err, ap, refl, rules, subst, sym, to_z, of_z}
use Rattle.std.specs.Int.{w128}
use Rattle.h5w_model.specs.declared.reply.Reply.TheVariants as replies
use Rattle.h5w_writer.specs.declared.refusal.AppendError.TheVariants as errors
use Rattle.h5w_several_script_laws.specs.Scripts.{says}
use Rattle.h5w_several_core.specs.Worlds.{FileSteps, pollings_of}
use Rattle.h5w_several_core.specs.declared.events.FileEvent.TheVariants as events
use Rattle.h5w_several_core.proofs.AppendLemmas.{AppendTells, added_steps, added_within, all_hold, all_kept, all_polls, never_past, refused_busy, refused_full, refused_outside, refused_stopped, rows_all, rows_inside, wants_memory}
use Rattle.h5w_several_core.proofs.KeptLemmas.{kept_by}
use Rattle.h5w_several_core.proofs.MachineLemmas.{world_of}
use Rattle.h5w_several_core.proofs.world.SeveralWorld.append.Goals as goal
use Rattle.h5w_several_core.proofs.world.SeveralWorld.append.Goals.{in-Ok, in-Err-Stopped, in-Err-Busy, in-Err-OutOfRange, in-Err-Chunks, in-Err-OutOfMemory}

pub append-requires-clause-inside : goal.append-requires-clause-inside
append-requires-clause-inside c =
    let i = c.self.inside in
    rows_inside i.session i.image i.attempts i.places.items c.args.self.now c.args.dataset c.args.values.now c.self.view_is c.requires

pub append-requires-clause-rows : goal.append-requires-clause-rows
append-requires-clause-rows c =
    let i = c.self.inside in
    rows_all i.session i.image i.attempts i.places.items c.args.self.now c.args.dataset c.args.values.now c.self.view_is c.requires

pub returns-clause-steps : goal.returns-clause-steps
returns-clause-steps c =
    let i = c.self.inside in
    let w = c.args.self.now in
    let d = c.args.dataset in
    let vs = c.args.values.now in
    let T = c.append.new.self in
    let n = c.append.new.image in
    elim c.match-append.branch [
      | in-Ok b ↦
          let e = b.in-Ok.ensures in
          let tells : AppendTells i.session T d vs (Ok b.in-Ok.rows) = record { added = e.added; rows = e.rows; stands = e.stands; within = e.within; refused = e.refused; causes = λ s there. tt; kept = tt } in
          rw b.result-is (added_steps i.session i.image i.attempts i.places.items w d vs c.self.view_is c.requires T n e.image b.in-Ok.rows tells)
      | in-Err-Stopped b ↦
          let e = b.in-Err-Stopped in
          let tells : AppendTells i.session T d vs (Err e.field-0) = record { added = tt; rows = tt; stands = tt; within = tt; refused = e.ensures.refused; causes = e.ensures.causes; kept = e.ensures.kept } in
          rw b.result-is (refused_stopped i.session i.image i.attempts i.places.items w d vs c.self.view_is c.requires T n e.ensures.image e.field-0 tells e.ensures.sessions e.field-0-is)
      | in-Err-Busy b ↦
          let e = b.in-Err-Busy in
          let tells : AppendTells i.session T d vs (Err e.field-0) = record { added = tt; rows = tt; stands = tt; within = tt; refused = e.ensures.refused; causes = e.ensures.causes; kept = e.ensures.kept } in
          rw b.result-is (refused_busy i.session i.image i.attempts i.places.items w d vs c.self.view_is c.requires T n e.ensures.image e.field-0 tells e.ensures.sessions e.pending e.field-0-is)
      | in-Err-OutOfRange b ↦
          let e = b.in-Err-OutOfRange in
          let tells : AppendTells i.session T d vs (Err e.field-0) = record { added = tt; rows = tt; stands = tt; within = tt; refused = e.ensures.refused; causes = e.ensures.causes; kept = e.ensures.kept } in
          let value : to_z w128 (of_z w128 e.value) ≡ e.value = search rules in
          let steps = refused_outside i.session i.image i.attempts i.places.items w d vs c.self.view_is c.requires T n e.ensures.image e.field-0 tells e.ensures.sessions e.index e.value e.field-0-is in
          rw b.result-is (subst (λ (v : ℤ). FileSteps w (events.Append d vs) (says (replies.OutOfRange e.index v)) (world_of T n i.attempts i.places.items)) (sym value) steps)
      | in-Err-Chunks b ↦
          let e = b.in-Err-Chunks in
          let tells : AppendTells i.session T d vs (Err e.field-0) = record { added = tt; rows = tt; stands = tt; within = tt; refused = e.ensures.refused; causes = e.ensures.causes; kept = e.ensures.kept } in
          rw b.result-is (refused_full i.session i.image i.attempts i.places.items w d vs c.self.view_is c.requires T n e.ensures.image e.field-0 tells e.ensures.sessions e.chunks e.limit e.field-0-is)
      | in-Err-OutOfMemory b ↦ rw b.result-is tt
    ]

pub invariant_of-self : goal.invariant_of-self
invariant_of-self c =
    let i = c.self.inside in
    let e = c.append.ensures in
    let tells : AppendTells i.session c.append.new.self c.args.dataset c.args.values.now c.append.result = record { added = e.added; rows = e.rows; stands = e.stands; within = e.within; refused = e.refused; causes = e.causes; kept = e.kept } in
    let polls = all_polls i.session i.image i.attempts i.places.items c.args.self.now c.args.dataset c.args.values.now c.self.view_is c.requires c.append.new.self c.append.new.image e.image c.append.result tells in (
      all_hold i.session i.image i.attempts i.places.items c.args.self.now c.args.dataset c.args.values.now c.self.view_is c.requires c.append.new.self c.append.new.image e.image c.append.result tells c.self.invariant.0 e.room,
      kept_by i.session c.append.new.self i.image c.append.new.image i.attempts i.places.items i.places.items c.self.invariant.0 (polls ∙ sym (ap pollings_of c.self.view_is)) c.self.invariant.1,
    )

pub returns-clause-polls : goal.returns-clause-polls
returns-clause-polls c =
    let i = c.self.inside in
    let e = c.append.ensures in
    all_polls i.session i.image i.attempts i.places.items c.args.self.now c.args.dataset c.args.values.now c.self.view_is c.requires c.append.new.self c.append.new.image e.image c.append.result
    (record { added = e.added; rows = e.rows; stands = e.stands; within = e.within; refused = e.refused; causes = e.causes; kept = e.kept })

pub returns-clause-kept : goal.returns-clause-kept
returns-clause-kept c =
    let i = c.self.inside in
    elim c.match-append.branch [
      | in-Ok b ↦ rw b.result-is tt
      | in-Err-Stopped b ↦ rw b.result-is tt
      | in-Err-Busy b ↦ rw b.result-is tt
      | in-Err-OutOfRange b ↦ rw b.result-is tt
      | in-Err-Chunks b ↦ rw b.result-is tt
      | in-Err-OutOfMemory b ↦
          let e = b.in-Err-OutOfMemory.ensures in
          rw b.result-is (all_kept i.session i.image i.attempts i.places.items c.args.self.now c.args.dataset c.args.values.now c.self.view_is c.requires c.append.new.self c.append.new.image e.image e.kept)
    ]

pub returns-clause-memory : goal.returns-clause-memory
returns-clause-memory c =
    let i = c.self.inside in
    elim c.match-append.branch [
      | in-Ok b ↦ rw b.result-is tt
      | in-Err-Stopped b ↦ rw b.result-is tt
      | in-Err-Busy b ↦ rw b.result-is tt
      | in-Err-OutOfRange b ↦ rw b.result-is tt
      | in-Err-Chunks b ↦ rw b.result-is tt
      | in-Err-OutOfMemory b ↦
          let e = b.in-Err-OutOfMemory in
          let tells : AppendTells i.session c.append.new.self c.args.dataset c.args.values.now (Err e.field-0) = record { added = tt; rows = tt; stands = tt; within = tt; refused = e.ensures.refused; causes = e.ensures.causes; kept = e.ensures.kept } in
          rw b.result-is
          (wants_memory i.session i.image i.attempts i.places.items c.args.self.now c.args.dataset c.args.values.now c.self.view_is c.requires c.append.new.self c.append.new.image e.ensures.image e.field-0 tells e.ensures.sessions e.field-0-is)
    ]

pub returns-clause-past : goal.returns-clause-past
returns-clause-past c =
    let i = c.self.inside in
    let w = c.args.self.now in
    let d = c.args.dataset in
    let vs = c.args.values.now in
    let T = c.append.new.self in
    let n = c.append.new.image in
    elim c.match-append.branch [
      | in-Ok b ↦
          let e = b.in-Ok.ensures in
          let tells : AppendTells i.session T d vs (Ok b.in-Ok.rows) = record { added = e.added; rows = e.rows; stands = e.stands; within = e.within; refused = e.refused; causes = λ s there. tt; kept = tt } in
          rw b.result-is (λ p. absurd (added_within i.session i.image i.attempts i.places.items w d vs c.self.view_is c.requires T n e.image b.in-Ok.rows tells p))
      | in-Err-Stopped b ↦
          let e = b.in-Err-Stopped in
          let tells : AppendTells i.session T d vs (Err e.field-0) = record { added = tt; rows = tt; stands = tt; within = tt; refused = e.ensures.refused; causes = e.ensures.causes; kept = e.ensures.kept } in
          rw b.result-is (λ p. absurd (never_past i.session i.image i.attempts i.places.items w d vs c.self.view_is c.requires T n e.ensures.image e.field-0 tells e.ensures.sessions errors.Stopped e.field-0-is tt p))
      | in-Err-Busy b ↦
          let e = b.in-Err-Busy in
          let tells : AppendTells i.session T d vs (Err e.field-0) = record { added = tt; rows = tt; stands = tt; within = tt; refused = e.ensures.refused; causes = e.ensures.causes; kept = e.ensures.kept } in
          rw b.result-is (λ p. absurd (never_past i.session i.image i.attempts i.places.items w d vs c.self.view_is c.requires T n e.ensures.image e.field-0 tells e.ensures.sessions (errors.Busy e.pending) e.field-0-is tt p))
      | in-Err-OutOfRange b ↦
          let e = b.in-Err-OutOfRange in
          let tells : AppendTells i.session T d vs (Err e.field-0) = record { added = tt; rows = tt; stands = tt; within = tt; refused = e.ensures.refused; causes = e.ensures.causes; kept = e.ensures.kept } in
          rw b.result-is (λ p. absurd (never_past i.session i.image i.attempts i.places.items w d vs c.self.view_is c.requires T n e.ensures.image e.field-0 tells e.ensures.sessions (errors.OutOfRange e.index e.value) e.field-0-is tt p))
      | in-Err-Chunks b ↦
          let e = b.in-Err-Chunks in
          let tells : AppendTells i.session T d vs (Err e.field-0) = record { added = tt; rows = tt; stands = tt; within = tt; refused = e.ensures.refused; causes = e.ensures.causes; kept = e.ensures.kept } in
          rw b.result-is (λ p. absurd (never_past i.session i.image i.attempts i.places.items w d vs c.self.view_is c.requires T n e.ensures.image e.field-0 tells e.ensures.sessions (errors.Chunks e.chunks e.limit) e.field-0-is tt p))
      | in-Err-OutOfMemory b ↦ rw b.result-is (λ p. refl)
    ]

pub returns-clause-no_space : goal.returns-clause-no_space
returns-clause-no_space c =
    elim c.match-append.branch [
      | in-Ok b ↦ rw b.result-is (λ full told. absurd cc)
      | in-Err-Stopped b ↦ rw b.result-is (λ full told. absurd cc)
      | in-Err-Busy b ↦ rw b.result-is (λ full told. absurd cc)
      | in-Err-OutOfRange b ↦ rw b.result-is (λ full told. absurd cc)
      | in-Err-Chunks b ↦ rw b.result-is (λ full told. absurd cc)
      | in-Err-OutOfMemory b ↦ rw b.result-is (λ full told. absurd cc)
    ]
