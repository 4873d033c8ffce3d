use Rattle.std.proofs.Common.{ap}
use Rattle.h5w_several_core.specs.Worlds.{pollings_of}
use Rattle.h5w_several_core.proofs.ReaderLemmas.{read_hold, read_left, read_may, read_memory, read_told, told_full}
use Rattle.h5w_several_core.proofs.world.SeveralWorld.read.Goals as goal

pub read-requires : goal.read-requires
read-requires c =
    let i = c.self.inside in
    let p = c.index_mut-place in
    read_may i.session i.image i.attempts c.args.reader i.places.items c.self.invariant.0 c.requires p.result.now p.ensures.value c.args.from c.args.count

pub invariant_of-self : goal.invariant_of-self
invariant_of-self c =
    let i = c.self.inside in
    let p = c.index_mut-place in (
      read_hold i.session i.image i.attempts c.args.reader i.places.items c.self.invariant.0 c.requires p.result.now p.ensures.value c.args.from c.args.count c.read.new.place c.read.result c.read.ensures.gives c.read.ensures.kept,
      c.self.invariant.1,
    )

pub returns-clause-steps : goal.returns-clause-steps
returns-clause-steps c =
    let i = c.self.inside in
    let p = c.index_mut-place in
    read_told i.session i.image i.attempts c.args.reader i.places.items c.self.invariant.0 c.requires p.result.now p.ensures.value c.args.self.now c.self.view_is c.told.result c.read.result c.told.ensures c.args.from c.args.count c.read.new.place c.read.ensures.gives

pub returns-clause-kept : goal.returns-clause-kept
returns-clause-kept c =
    let i = c.self.inside in
    let p = c.index_mut-place in
    read_left i.session i.image i.attempts c.args.reader i.places.items c.self.invariant.0 c.requires p.result.now p.ensures.value c.args.self.now c.self.view_is c.told.result c.read.result c.told.ensures c.args.from c.args.count c.read.new.place c.read.ensures.kept

pub returns-clause-memory : goal.returns-clause-memory
returns-clause-memory c =
    let i = c.self.inside in
    let p = c.index_mut-place in
    read_memory i.session i.image i.attempts c.args.reader i.places.items c.self.invariant.0 c.requires p.result.now p.ensures.value c.args.self.now c.self.view_is c.told.result c.read.result c.told.ensures c.args.from c.args.count c.read.new.place c.read.ensures.memory

pub returns-clause-no_space : goal.returns-clause-no_space
returns-clause-no_space c = told_full c.read.result c.told.result c.told.ensures c.read.ensures.no_space

pub returns-clause-polls : goal.returns-clause-polls
returns-clause-polls c = ap pollings_of c.self.view_is
