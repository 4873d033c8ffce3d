use Rattle.std.proofs.Common.{◌∙◌, ◌<◌, ◌∷◌, ◌++◌, [], ap, length, take, arith}
use Rattle.std.proofs.lemmas.List.{length-map, length-take, take_all}
use Rattle.h5w_writer.specs.Sessions.{Session}
use Rattle.h5w_several_world_laws.proofs.StepLemmas.{part_there}
use Rattle.h5w_several_core.proofs.TakeLemmas.{rows_in, told_more}
use Rattle.h5w_several_core.proofs.taking.committed.Goals as goal

pub push-requires : goal.push-requires
push-requires c =
    let is = ap length c.loop-d.invariant in
    let count = length-map (take c.loop-d.d c.args.session.now.parts) (λ (s : Session). s.committed) in
    let few = length-take c.loop-d.d c.args.session.now.parts in
    let most = c.count-d-end.ensures.few in
    omega (arith, few, is, count, c.loop-d-test.true, most)

pub loop-d-preserved : goal.loop-d-preserved
loop-d-preserved c =
    let ss = c.args.session.now.parts in
    let d = c.loop-d.d in
    let low : d < length ss = let count = c.count-d-end.ensures.count in omega (arith, c.loop-d-test.true, count) in
    let p = part_there ss d low in
    c.push.ensures ∙ ap (λ ns. ns ++ c.committed.result ∷ []) c.loop-d.invariant ∙ ap (λ n. rows_in (take d ss) ++ n ∷ []) (c.committed.ensures p.0 p.1) ∙ told_more (λ (s : Session). s.committed) ss d p.0 p.1

pub returns : goal.returns
returns c = let count = c.count-d-end.ensures.count in c.loop-d.invariant ∙ ap rows_in (take_all c.loop-d.d c.args.session.now.parts (omega (arith, c.loop-d-test.false, count)))
