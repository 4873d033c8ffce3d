use Rattle.h5w_several_core.proofs.CreationLemmas.{created_fits, created_holds, created_keeps, created_names, created_rules}
use Rattle.h5w_several_core.proofs.world.SeveralWorld.new.Goals as goal

pub invariant_of-result : goal.invariant_of-result
invariant_of-result c =
    let s = c.in_ok-session in
    let r = c.requires in (
      created_holds c.args.names.now c.args.options.now c.args.attempts s.session s.image c.in_ok-places.places.items r.attempts.some r.options.limit_high s.ensures c.in_ok-places.ensures,
      created_keeps c.args.names.now c.args.options.now s.session s.image r.options.limit_low s.ensures,
    )

pub returns-clause-fits : goal.returns-clause-fits
returns-clause-fits c =
    let s = c.in_ok-session in
    created_fits c.args.names.now c.args.options.now c.args.attempts s.session s.image c.in_ok-places.places.items s.ensures c.in_ok-places.ensures

pub returns-clause-rules : goal.returns-clause-rules
returns-clause-rules c =
    let s = c.in_ok-session in
    created_rules c.args.names.now c.args.options.now c.args.attempts s.session s.image c.in_ok-places.places.items s.ensures

pub returns-clause-names : goal.returns-clause-names
returns-clause-names c =
    let s = c.in_ok-session in
    created_names c.args.names.now c.args.options.now c.args.attempts s.session s.image c.in_ok-places.places.items s.ensures

pub returns-clause-created : goal.returns-clause-created
returns-clause-created c = c.in_ok-session.ensures.history
