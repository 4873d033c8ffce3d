use Rattle.std.proofs.Common.{ℕ, List, ap, subst}
use Rattle.std.specs.Result.{IfOk}
use Rattle.h5w_model.specs.declared.reply.Reply.{Reply}
use Rattle.h5w_reader.specs.Readers.{reader_rules}
use Rattle.h5w_several_world_laws.proofs.StepLemmas.{part_there}
use Rattle.h5w_several_core.specs.Places.{SeatOpens, seated}
use Rattle.h5w_several_core.specs.Worlds.{pollings_of}
use Rattle.h5w_several_core.proofs.ReaderLemmas.{opened_hold, opened_kept, opened_memory, opened_steps, told_full}
use Rattle.h5w_several_core.proofs.RuleLemmas.{set_inside}
use Rattle.h5w_several_core.proofs.world.SeveralWorld.open.Goals as goal

pub name-requires : goal.name-requires
name-requires c =
    let i = c.self.inside in
    set_inside i.session i.image i.attempts i.places.items c.args.self.now c.args.dataset c.self.view_is c.requires.dataset

pub invariant_of-self : goal.invariant_of-self
invariant_of-self c =
    let i = c.self.inside in
    let p = c.index_mut in
    let inside = set_inside i.session i.image i.attempts i.places.items c.args.self.now c.args.dataset c.self.view_is c.requires.dataset in
    let s = part_there i.session.parts c.args.dataset inside in
    let gives =
    subst (λ (name : List ℕ). IfOk c.open.result (λ (reply : Reply). SeatOpens c.args.reader c.args.dataset (reader_rules name i.attempts) (seated p.result.now) reply (seated c.open.new.place))) (c.name.ensures s.0 s.1) c.open.ensures.gives in (
      opened_hold i.session i.image i.attempts c.args.reader i.places.items c.self.invariant.0 c.requires.reader p.result.now p.ensures.value c.args.self.now c.self.view_is c.told.result c.open.result c.told.ensures c.open.new.place c.args.dataset inside s.0 s.1 gives c.open.ensures.kept,
      c.self.invariant.1,
    )

pub returns-clause-steps : goal.returns-clause-steps
returns-clause-steps c =
    let i = c.self.inside in
    let p = c.index_mut in
    let inside = set_inside i.session i.image i.attempts i.places.items c.args.self.now c.args.dataset c.self.view_is c.requires.dataset in
    let s = part_there i.session.parts c.args.dataset inside in
    let gives =
    subst (λ (name : List ℕ). IfOk c.open.result (λ (reply : Reply). SeatOpens c.args.reader c.args.dataset (reader_rules name i.attempts) (seated p.result.now) reply (seated c.open.new.place))) (c.name.ensures s.0 s.1) c.open.ensures.gives in
    opened_steps i.session i.image i.attempts c.args.reader i.places.items c.self.invariant.0 c.requires.reader p.result.now p.ensures.value c.args.self.now c.self.view_is c.told.result c.open.result c.told.ensures c.open.new.place c.args.dataset inside s.0 s.1 gives

pub returns-clause-kept : goal.returns-clause-kept
returns-clause-kept c =
    let i = c.self.inside in
    let p = c.index_mut in
    opened_kept i.session i.image i.attempts c.args.reader i.places.items c.self.invariant.0 c.requires.reader p.result.now p.ensures.value c.args.self.now c.self.view_is c.told.result c.open.result c.told.ensures c.open.new.place c.open.ensures.kept

pub returns-clause-memory : goal.returns-clause-memory
returns-clause-memory c =
    let i = c.self.inside in
    let p = c.index_mut in
    opened_memory i.session i.image i.attempts c.args.reader i.places.items c.self.invariant.0 c.requires.reader p.result.now p.ensures.value c.args.self.now c.self.view_is c.told.result c.open.result c.told.ensures c.open.new.place c.open.ensures.memory

pub returns-clause-no_space : goal.returns-clause-no_space
returns-clause-no_space c = told_full c.open.result c.told.result c.told.ensures c.open.ensures.no_space

pub returns-clause-polls : goal.returns-clause-polls
returns-clause-polls c = ap pollings_of c.self.view_is
