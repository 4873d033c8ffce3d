use Rattle.h5w_core.proofs.ReaderLemmas.{place_kept, read_answers, read_hold, read_may}
use Rattle.h5w_core.proofs.world.World.read.Goals as goal

pub read-requires : goal.read-requires
read-requires c =
    let i = c.self.inside in
    read_may i.session i.image i.attempts c.args.reader i.readers.items c.self.invariant.0 c.requires c.index_mut.result.now c.index_mut.result.now c.index_mut.ensures.value c.args.from c.args.count

pub invariant_of-self : goal.invariant_of-self
invariant_of-self c =
    let i = c.self.inside in (
      read_hold i.session i.image i.attempts c.args.reader i.readers.items c.self.invariant.0 c.requires c.index_mut.result.now c.read.new.place c.index_mut.ensures.value c.args.from c.args.count c.read.result c.read.ensures.gives c.read.ensures.kept,
      c.self.invariant.1,
    )

pub returns-clause-steps : goal.returns-clause-steps
returns-clause-steps c =
    let i = c.self.inside in
    read_answers i.session i.image i.attempts c.args.reader i.readers.items c.self.invariant.0 c.requires c.index_mut.result.now c.read.new.place c.index_mut.ensures.value c.args.from c.args.count c.args.self.now c.read.result c.self.view_is c.read.ensures.gives

pub returns-clause-kept : goal.returns-clause-kept
returns-clause-kept c =
    let i = c.self.inside in
    place_kept i.session i.image i.attempts c.args.reader i.readers.items c.self.invariant.0 c.requires c.index_mut.result.now c.read.new.place c.index_mut.ensures.value c.args.self.now c.read.result c.self.view_is c.read.ensures.kept
