use Rattle.std.proofs.Common.{ap}
use Rattle.h5w_several_core.specs.Worlds.{pollings_of}
use Rattle.h5w_several_core.proofs.ReaderLemmas.{look_hold, look_left, look_may, look_memory, look_told, told_full}
use Rattle.h5w_several_core.proofs.world.SeveralWorld.look.Goals as goal

pub look-requires : goal.look-requires
look-requires c =
    let i = c.self.inside in
    let p = c.index_mut-place in
    look_may i.session i.image i.attempts c.args.reader i.places.items c.self.invariant.0 c.requires p.result.now p.ensures.value

pub invariant_of-self : goal.invariant_of-self
invariant_of-self c =
    let i = c.self.inside in
    let p = c.index_mut-place in
    let e = c.look.ensures in (
      look_hold i.session i.image i.attempts c.args.reader i.places.items c.self.invariant.0 c.requires p.result.now p.ensures.value c.look.new.image e.image c.look.new.place c.look.result e.gives e.ended,
      c.self.invariant.1,
    )

pub returns-clause-steps : goal.returns-clause-steps
returns-clause-steps c =
    let i = c.self.inside in
    let p = c.index_mut-place in
    let e = c.look.ensures in
    look_told i.session i.image i.attempts c.args.reader i.places.items c.self.invariant.0 c.requires p.result.now p.ensures.value c.args.self.now c.self.view_is c.told.result c.look.result c.told.ensures c.look.new.image e.image c.look.new.place e.gives

pub returns-clause-kept : goal.returns-clause-kept
returns-clause-kept c =
    let i = c.self.inside in
    let p = c.index_mut-place in
    let e = c.look.ensures in
    look_left i.session i.image i.attempts c.args.reader i.places.items c.self.invariant.0 c.requires p.result.now p.ensures.value c.args.self.now c.self.view_is c.told.result c.look.result c.told.ensures c.look.new.image e.image c.look.new.place e.ended

pub returns-clause-memory : goal.returns-clause-memory
returns-clause-memory c =
    let i = c.self.inside in
    let p = c.index_mut-place in
    let e = c.look.ensures in
    look_memory i.session i.image i.attempts c.args.reader i.places.items c.self.invariant.0 c.requires p.result.now p.ensures.value c.args.self.now c.self.view_is c.told.result c.look.result c.told.ensures c.look.new.image e.image c.look.new.place e.calling

pub returns-clause-no_space : goal.returns-clause-no_space
returns-clause-no_space c = told_full c.look.result c.told.result c.told.ensures c.look.ensures.no_space

pub returns-clause-polls : goal.returns-clause-polls
returns-clause-polls c = ap pollings_of c.self.view_is
