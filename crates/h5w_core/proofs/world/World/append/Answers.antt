use Rattle.std.proofs.Common.{◌≡◌, ◌∙◌, ℤ, None, Ok, Err, ap, rules, subst, sym, to_z, of_z}
use Rattle.std.specs.Int.{w128}
use Rattle.h5w_model.specs.declared.event.Event.TheVariants as events
use Rattle.h5w_model.specs.declared.reply.Reply.TheVariants as replies
use Rattle.h5w_core.specs.Worlds.{AreRowsBy, Steps, WorldView, rules_of}
use Rattle.h5w_core.proofs.WorldLemmas.{world_of}
use Rattle.h5w_core.proofs.AppendLemmas.{AppendTells, append_done, append_memory, refused_done}
use Rattle.h5w_writer.specs.Refusals.{append_refusal}
use Rattle.h5w_writer.specs.declared.refusal.AppendError.TheVariants as errors
use Rattle.h5w_core.proofs.NameLemmas.{append_named}
use Rattle.h5w_core.proofs.HoldLemmas.{append_hold, appended_stands, same_stands}
use Rattle.h5w_core.proofs.WritingLemmas.{append_writing}
use Rattle.h5w_core.proofs.world.World.append.Goals as goal
use Rattle.h5w_core.proofs.world.World.append.Goals.{in-Ok, in-Err-Stopped, in-Err-Busy, in-Err-OutOfRange, in-Err-Chunks, in-Err-OutOfMemory}

pub returns-clause-steps : goal.returns-clause-steps
returns-clause-steps c =
    let s = c.self.inside.session in
    let t = c.append.new.self in
    let m = c.self.inside.image in
    let n = c.append.new.image in
    let attempts = c.self.inside.attempts in
    let vs = c.args.values.now in
    let rows = c.requires in
    elim c.match-append.branch [
      | in-Ok w ↦
          let e = w.in-Ok.ensures in
          let tells : AppendTells s t vs (Ok w.in-Ok.rows) = record { added = e.added; rows = e.rows; stands = e.stands; bound = e.bound; over = e.over; refused = e.refused; kept = tt } in
          rw w.result-is (append_done s t m n attempts w.in-Ok.rows w.pending.result c.self.inside.readers.items c.args.self.now vs rows c.self.view_is e.image tells w.pending.ensures)
      | in-Err-Stopped w ↦
          let e = w.in-Err-Stopped in
          rw w.result-is (refused_done s t m n attempts c.self.inside.readers.items c.args.self.now vs e.field-0 errors.Stopped rows c.self.view_is e.ensures.image e.ensures.kept e.ensures.causes e.field-0-is tt)
      | in-Err-Busy w ↦
          let e = w.in-Err-Busy in
          rw w.result-is (refused_done s t m n attempts c.self.inside.readers.items c.args.self.now vs e.field-0 (errors.Busy e.pending) rows c.self.view_is e.ensures.image e.ensures.kept e.ensures.causes e.field-0-is tt)
      | in-Err-OutOfRange w ↦
          let e = w.in-Err-OutOfRange in
          let value : to_z w128 (of_z w128 e.value) ≡ e.value = search rules in
          let steps = refused_done s t m n attempts c.self.inside.readers.items c.args.self.now vs e.field-0 (errors.OutOfRange e.index e.value) rows c.self.view_is e.ensures.image e.ensures.kept e.ensures.causes e.field-0-is tt in
          rw w.result-is (subst (λ (v : ℤ). Steps c.args.self.now (events.Append vs) (replies.OutOfRange e.index v) (world_of t n attempts c.self.inside.readers.items)) (sym value) steps)
      | in-Err-Chunks w ↦
          let e = w.in-Err-Chunks in
          rw w.result-is (refused_done s t m n attempts c.self.inside.readers.items c.args.self.now vs e.field-0 (errors.Chunks e.chunks e.limit) rows c.self.view_is e.ensures.image e.ensures.kept e.ensures.causes e.field-0-is tt)
      | in-Err-OutOfMemory w ↦ rw w.result-is tt
    ]

pub invariant_of-self : goal.invariant_of-self
invariant_of-self c =
    let i = c.self.inside in
    let e = c.append.ensures in
    let vs = c.args.values.now in
    let tells : AppendTells i.session c.append.new.self vs c.append.result = record { added = e.added; rows = e.rows; stands = e.stands; bound = e.bound; over = e.over; refused = e.refused; kept = e.kept } in (
      append_hold i.session c.append.new.self i.image c.append.new.image i.attempts i.readers.items vs c.append.result (subst (λ (x : WorldView). AreRowsBy (rules_of x) vs) (sym c.self.view_is) c.requires) c.self.invariant.0 e.image tells e.room,
      append_writing i.session c.append.new.self i.image c.append.new.image i.attempts i.readers.items c.self.invariant.0 e.image c.self.invariant.1 vs c.append.result tells e.written,
    )

pub append-requires : goal.append-requires
append-requires c =
    let i = c.self.inside in
    record { rows = subst (λ (x : WorldView). AreRowsBy (rules_of x) c.args.values.now) (sym c.self.view_is) c.requires }

pub returns-clause-logged : goal.returns-clause-logged
returns-clause-logged c =
    let i = c.self.inside in
    let t = c.append.new.self in
    let n = c.append.new.image in
    let places = i.readers.items in
    let vs = c.args.values.now in
    elim c.match-append.branch [
      | in-Ok b ↦
          let e = b.in-Ok.ensures in
          rw b.result-is (λ log stood. appended_stands i.session t i.image n i.attempts vs places c.args.self.now log c.self.view_is e.image e.stands stood)
      | in-Err-Stopped b ↦
          let e = b.in-Err-Stopped.ensures in
          rw b.result-is (λ log stood. same_stands i.session t i.image n i.attempts places places c.args.self.now log c.self.view_is e.image e.kept stood)
      | in-Err-Busy b ↦
          let e = b.in-Err-Busy.ensures in
          rw b.result-is (λ log stood. same_stands i.session t i.image n i.attempts places places c.args.self.now log c.self.view_is e.image e.kept stood)
      | in-Err-OutOfRange b ↦
          let e = b.in-Err-OutOfRange.ensures in
          rw b.result-is (λ log stood. same_stands i.session t i.image n i.attempts places places c.args.self.now log c.self.view_is e.image e.kept stood)
      | in-Err-Chunks b ↦
          let e = b.in-Err-Chunks.ensures in
          rw b.result-is (λ log stood. same_stands i.session t i.image n i.attempts places places c.args.self.now log c.self.view_is e.image e.kept stood)
      | in-Err-OutOfMemory b ↦ rw b.result-is tt
    ]

pub returns-clause-memory : goal.returns-clause-memory
returns-clause-memory c =
    elim c.match-append.branch [
      | in-Ok b ↦ rw b.result-is tt
      | in-Err-Stopped b ↦ rw b.result-is tt
      | in-Err-Busy b ↦ rw b.result-is tt
      | in-Err-OutOfRange b ↦ rw b.result-is tt
      | in-Err-Chunks b ↦ rw b.result-is tt
      | in-Err-OutOfMemory b ↦
          let e = b.in-Err-OutOfMemory in
          rw b.result-is
          (subst (λ (x : WorldView). append_refusal x.session c.args.values.now ≡ None) c.self.view_is
          (append_memory c.self.inside.session c.args.values.now (Err e.field-0) e.ensures.refused (ap Err e.field-0-is)))
    ]

pub returns-clause-no_space : goal.returns-clause-no_space
returns-clause-no_space c =
    elim c.match-append.branch [
      | in-Ok b ↦ rw b.result-is (λ full told. absurd cc)
      | in-Err-Stopped b ↦ rw b.result-is (λ full told. absurd cc)
      | in-Err-Busy b ↦ rw b.result-is (λ full told. absurd cc)
      | in-Err-OutOfRange b ↦ rw b.result-is (λ full told. absurd cc)
      | in-Err-Chunks b ↦ rw b.result-is (λ full told. absurd cc)
      | in-Err-OutOfMemory b ↦ rw b.result-is (λ full told. absurd cc)
    ]

pub returns-clause-named : goal.returns-clause-named
returns-clause-named c =
    let e = c.append.ensures in
    append_named c.self.inside.session c.append.new.self c.args.values.now c.append.result e.added e.kept ∙ ap (λ (x : WorldView). x.session.name) c.self.view_is
