use Rattle.std.proofs.Common.{◌≡◌, ◌∙◌, None, Ok, Err, refl, ap, subst}
use Rattle.h5w_writer.specs.Refusals.{flush_refusal}
use Rattle.h5w_core.specs.Worlds.{WorldView}
use Rattle.h5w_core.proofs.FlushLemmas.{LeavesSession, busy_done, flush_done, full_done, full_told, memory_only, stopped_done}
use Rattle.h5w_core.proofs.NameLemmas.{flush_named}
use Rattle.h5w_core.proofs.HoldLemmas.{FlushTells, answered, flush_hold, held_stands, holds_more, planned_stands}
use Rattle.h5w_core.proofs.WritingLemmas.{flush_writing}
use Rattle.h5w_core.proofs.world.World.flush.Goals as goal
use Rattle.h5w_core.proofs.world.World.flush.Goals.{in-Ok, in-Err-Stopped, in-Err-Busy, in-Err-Space, in-Err-OutOfMemory}

pub unreachable-requires : goal.unreachable-requires
unreachable-requires c =
    let one = c.self.invariant.0.fits in
    c.flush.ensures.shallow one.log one.stands.stands one.stands.new (c.in-Err-Deep.is ∙ ap Err c.in-Err-Deep.field-0-is)

pub returns-clause-steps : goal.returns-clause-steps
returns-clause-steps c =
    let s = c.self.inside.session in
    let t = c.flush.new.self in
    let m = c.self.inside.image in
    let n = c.flush.new.image in
    let attempts = c.self.inside.attempts in
    let readers = c.self.inside.readers.items in
    let w = c.args.self.now in
    elim c.match-flush.branch [
      | in-Ok b ↦
          let e = b.in-Ok.ensures in
          rw b.result-is
          (flush_done s t m n attempts b.in-Ok.pieces readers w (Ok b.in-Ok.pieces) c.self.view_is e.image
          (answered s t b.in-Ok.pieces (record { flushed = e.flushed; pieces = e.pieces; some = e.some; nothing = e.nothing; stands = e.stands; bound = e.bound; refused = e.refused; kept = tt; left = tt })))
      | in-Err-Stopped b ↦
          let e = b.in-Err-Stopped in
          let left : LeavesSession s t = record { same = e.ensures.kept; stands = e.ensures.left } in
          rw b.result-is (stopped_done s t m n attempts readers w c.self.view_is e.ensures.image left e.field-0 e.ensures.causes e.field-0-is)
      | in-Err-Busy b ↦
          let e = b.in-Err-Busy in
          let left : LeavesSession s t = record { same = e.ensures.kept; stands = e.ensures.left } in
          rw b.result-is (busy_done s t m n attempts readers w c.self.view_is e.ensures.image left e.pending e.field-0 e.ensures.causes e.field-0-is)
      | in-Err-Space b ↦
          let e = b.in-Err-Space in
          let left : LeavesSession s t = record { same = e.ensures.kept; stands = e.ensures.left } in
          rw b.result-is (full_done s t m n attempts readers w c.self.view_is e.ensures.image left e.field-0 e.field-0-0 (Err e.field-0) e.field-0-is refl e.ensures.refused e.ensures.bounds)
      | in-Err-OutOfMemory b ↦ rw b.result-is tt
    ]

pub invariant_of-self : goal.invariant_of-self
invariant_of-self c =
    let i = c.self.inside in
    let e = c.flush.ensures in
    let tells : FlushTells i.session c.flush.new.self c.flush.result =
    record { flushed = e.flushed; pieces = e.pieces; some = e.some; nothing = e.nothing; stands = e.stands; bound = e.bound; refused = e.refused; kept = e.kept; left = e.left } in (
      flush_hold i.session c.flush.new.self i.image c.flush.new.image i.attempts i.readers.items c.flush.result c.self.invariant.0 e.image tells e.room,
      flush_writing i.session c.flush.new.self i.image c.flush.new.image i.attempts i.readers.items c.self.invariant.0 e.image c.self.invariant.1 c.flush.result tells e.planned,
    )

pub returns-clause-logged : goal.returns-clause-logged
returns-clause-logged c =
    let i = c.self.inside in
    let t = c.flush.new.self in
    let n = c.flush.new.image in
    elim c.match-flush.branch [
      | in-Ok b ↦
          let e = b.in-Ok.ensures in
          rw b.result-is (λ log stood. planned_stands i.session t i.image n i.attempts b.in-Ok.pieces i.readers.items c.args.self.now log c.self.view_is e.image e.stands stood)
      | in-Err-Stopped b ↦
          let e = b.in-Err-Stopped.ensures in
          rw b.result-is (λ log stood. held_stands i.session t i.image n i.attempts i.readers.items c.args.self.now log c.self.view_is e.image e.left stood)
      | in-Err-Busy b ↦
          let e = b.in-Err-Busy.ensures in
          rw b.result-is (λ log stood. held_stands i.session t i.image n i.attempts i.readers.items c.args.self.now log c.self.view_is e.image e.left stood)
      | in-Err-Space b ↦
          let e = b.in-Err-Space.ensures in
          rw b.result-is (λ log stood. held_stands i.session t i.image n i.attempts i.readers.items c.args.self.now log c.self.view_is e.image e.left stood)
      | in-Err-OutOfMemory b ↦ rw b.result-is tt
    ]

pub returns-clause-kept : goal.returns-clause-kept
returns-clause-kept c =
    let i = c.self.inside in
    elim c.match-flush.branch [
      | in-Ok b ↦ rw b.result-is tt
      | in-Err-Stopped b ↦ rw b.result-is tt
      | in-Err-Busy b ↦ rw b.result-is tt
      | in-Err-Space b ↦ rw b.result-is tt
      | in-Err-OutOfMemory b ↦
          let e = b.in-Err-OutOfMemory.ensures in
          rw b.result-is (holds_more i.session c.flush.new.self i.image c.flush.new.image i.attempts i.readers.items c.args.self.now c.self.view_is e.image e.kept)
    ]

pub returns-clause-memory : goal.returns-clause-memory
returns-clause-memory c =
    elim c.match-flush.branch [
      | in-Ok b ↦ rw b.result-is tt
      | in-Err-Stopped b ↦ rw b.result-is tt
      | in-Err-Busy b ↦ rw b.result-is tt
      | in-Err-Space b ↦ rw b.result-is tt
      | in-Err-OutOfMemory b ↦
          let e = b.in-Err-OutOfMemory in
          rw b.result-is
          (subst (λ (x : WorldView). flush_refusal x.session ≡ None) c.self.view_is
          (memory_only c.self.inside.session (Err e.field-0) e.ensures.refused (ap Err e.field-0-is)))
    ]

pub returns-clause-full : goal.returns-clause-full
returns-clause-full c =
    elim c.match-flush.branch [
      | in-Ok b ↦ rw b.result-is (λ full told. absurd cc)
      | in-Err-Stopped b ↦ rw b.result-is (λ full told. absurd cc)
      | in-Err-Busy b ↦ rw b.result-is (λ full told. absurd cc)
      | in-Err-Space b ↦
          let e = b.in-Err-Space in
          rw b.result-is (λ full told. full_told c.args.self.now c.self.inside.session e.field-0 e.field-0-0 full (ap (λ (x : WorldView). x.session) c.self.view_is) e.field-0-is e.ensures.full told)
      | in-Err-OutOfMemory b ↦ rw b.result-is (λ full told. absurd cc)
    ]

pub returns-clause-named : goal.returns-clause-named
returns-clause-named c =
    let e = c.flush.ensures in
    flush_named c.self.inside.session c.flush.new.self c.flush.result e.flushed e.kept ∙ ap (λ (x : WorldView). x.session.name) c.self.view_is
