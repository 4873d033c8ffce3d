use Rattle.std.proofs.Common.{◌∙◌, ◌<◌, ◌∷◌, ◌++◌, [], ap, length, take, arith}
use Rattle.std.proofs.lemmas.List.{take_all}
use Rattle.h5w_writer.specs.Sessions.{Session}
use Rattle.h5w_several_writer_laws.specs.Valid.{names_in}
use Rattle.h5w_several_world_laws.proofs.StepLemmas.{part_there}
use Rattle.h5w_several_core.proofs.TakeLemmas.{told_more}
use Rattle.h5w_several_core.proofs.taking.names.Goals as goal

pub loop-d-preserved : goal.loop-d-preserved
loop-d-preserved c =
    let ss = c.args.session.now.parts in
    let d = c.loop-d.d in
    let low : d < length ss = let count = c.count-d-end.ensures.count in omega (arith, c.loop-d-test.true, count) in
    let p = part_there ss d low in
    c.in_ok-push.ensures.ok ∙ ap (λ ns. ns ++ c.name.result.now ∷ []) c.loop-d.invariant ∙ ap (λ n. names_in (take d ss) ++ n ∷ []) (c.name.ensures p.0 p.1) ∙ told_more (λ (s : Session). s.name) ss d p.0 p.1

pub returns-clause-names : goal.returns-clause-names
returns-clause-names c = let count = c.count-d-end.ensures.count in c.loop-d.invariant ∙ ap names_in (take_all c.loop-d.d c.args.session.now.parts (omega (arith, c.loop-d-test.false, count)))

pub returns-clause-sessions : goal.returns-clause-sessions
returns-clause-sessions c = c.count-d-end.ensures.sessions
