use Rattle.std.proofs.Common.{ℕ, List, subst}
use Rattle.std.specs.Result.{IfOk}
use Rattle.h5w_model.specs.declared.reply.Reply.{Reply}
use Rattle.h5w_reader.specs.Readers.{reader_rules}
use Rattle.h5w_core.specs.Readers.{OpenGives, placed}
use Rattle.h5w_core.proofs.ReaderLemmas.{open_answers, open_hold, place_kept}
use Rattle.h5w_core.proofs.world.World.open.Goals as goal

pub invariant_of-self : goal.invariant_of-self
invariant_of-self c =
    let i = c.self.inside in (
      open_hold i.session i.image i.attempts c.args.reader i.readers.items c.self.invariant.0 c.requires c.index_mut.result.now c.open.new.place c.index_mut.ensures.value c.open.result
          (subst (λ (name : List ℕ). IfOk c.open.result (λ (reply : Reply). OpenGives c.args.reader (reader_rules name i.attempts) (placed c.index_mut.result.now) reply (placed c.open.new.place))) c.name.ensures c.open.ensures.gives)
          c.open.ensures.kept,
      c.self.invariant.1,
    )

pub returns-clause-steps : goal.returns-clause-steps
returns-clause-steps c =
    let i = c.self.inside in
    open_answers i.session i.image i.attempts c.args.reader i.readers.items c.self.invariant.0 c.requires c.index_mut.result.now c.open.new.place c.index_mut.ensures.value c.args.self.now c.open.result c.self.view_is
    (subst (λ (name : List ℕ). IfOk c.open.result (λ (reply : Reply). OpenGives c.args.reader (reader_rules name i.attempts) (placed c.index_mut.result.now) reply (placed c.open.new.place))) c.name.ensures c.open.ensures.gives)

pub returns-clause-kept : goal.returns-clause-kept
returns-clause-kept c =
    let i = c.self.inside in
    place_kept i.session i.image i.attempts c.args.reader i.readers.items c.self.invariant.0 c.requires c.index_mut.result.now c.open.new.place c.index_mut.ensures.value c.args.self.now c.open.result c.self.view_is c.open.ensures.kept
