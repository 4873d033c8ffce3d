use Rattle.std.proofs.Common.{refl}
use Rattle.h5w_core.proofs.ReaderLemmas.{look_answers, look_hold, look_kept, look_may}
use Rattle.h5w_core.proofs.WritingLemmas.{same_writing}
use Rattle.h5w_core.proofs.world.World.look.Goals as goal

pub look-requires : goal.look-requires
look-requires c =
    let i = c.self.inside in
    look_may i.session i.image i.attempts c.args.reader i.readers.items c.self.invariant.0 c.requires c.index_mut.result.now c.index_mut.result.now c.index_mut.ensures.value

pub invariant_of-self : goal.invariant_of-self
invariant_of-self c =
    let i = c.self.inside in
    let e = c.look.ensures in (
      look_hold i.session i.image i.attempts c.args.reader i.readers.items c.self.invariant.0 c.requires c.index_mut.result.now c.look.new.place c.index_mut.ensures.value c.look.new.image c.look.result e.image e.gives e.ended,
      same_writing i.session i.session i.image c.look.new.image e.image refl c.self.invariant.1,
    )

pub returns-clause-steps : goal.returns-clause-steps
returns-clause-steps c =
    let i = c.self.inside in
    let e = c.look.ensures in
    look_answers i.session i.image i.attempts c.args.reader i.readers.items c.self.invariant.0 c.requires c.index_mut.result.now c.look.new.place c.index_mut.ensures.value c.look.new.image c.args.self.now c.look.result c.self.view_is e.image e.gives

pub returns-clause-kept : goal.returns-clause-kept
returns-clause-kept c =
    let i = c.self.inside in
    let e = c.look.ensures in
    look_kept i.session i.image i.attempts c.args.reader i.readers.items c.self.invariant.0 c.requires c.index_mut.result.now c.look.new.place c.index_mut.ensures.value c.look.new.image c.args.self.now c.look.result c.self.view_is e.image e.ended
