use Rattle.h5w_core.proofs.CreationLemmas.{all_created, created_holds, created_new, created_world_fits}
use Rattle.h5w_core.proofs.WritingLemmas.{created_writing}
use Rattle.h5w_core.proofs.world.World.new.Goals as goal

pub invariant_of-result : goal.invariant_of-result
invariant_of-result c =
    let s = c.in_ok-session in (
      created_holds c.args.options.now c.args.attempts s.session s.image c.in_ok-readers.readers.items c.requires.attempts.some s.ensures c.in_ok-readers.ensures,
      created_writing c.args.options.now s.session s.image c.requires.options s.ensures,
    )

pub returns-clause-fits : goal.returns-clause-fits
returns-clause-fits c =
    let s = c.in_ok-session in
    created_world_fits c.args.options.now c.args.attempts s.session s.image c.in_ok-readers.readers.items c.requires.attempts.some s.ensures c.in_ok-readers.ensures

pub returns-clause-created : goal.returns-clause-created
returns-clause-created c = all_created c.args.options.now c.in_ok-session.session c.in_ok-session.image c.in_ok-session.ensures

pub returns-clause-new : goal.returns-clause-new
returns-clause-new c =
    let s = c.in_ok-session in
    created_new c.args.options.now c.args.attempts s.session s.image c.in_ok-readers.readers.items s.ensures
