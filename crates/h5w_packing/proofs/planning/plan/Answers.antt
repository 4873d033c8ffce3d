use Rattle.std.proofs.Common.{arith, length}
use Rattle.std.specs.Prelude.{map}
use Rattle.h5w_packing.specs.Jobs.{IsPrepared}
use Rattle.h5w_packing.specs.Plans.{IsPlanned, wanted_of}
use Rattle.h5w_packing.proofs.PreparedLemmas.{prepared}
use Rattle.h5w_packing.proofs.ResultLemmas.{ok_by, ok_on, on_ok}
use Rattle.h5w_packing.proofs.SoFarLemmas.{all_chunks_low, count_of, links_short, names_short, plan_of}
use Rattle.h5w_packing.proofs.planning.plan.Goals as goal

pub planned-requires-clause-low : goal.planned-requires-clause-low
planned-requires-clause-low c = on_ok c.put_sets-all.result (λ all. all_chunks_low (map wanted_of c.args.sources.now) c.args.limit c.put_sets-all.new.so_far all c.requires.high) c.put_sets-all.ensures.all

pub planned-requires-clause-links : goal.planned-requires-clause-links
planned-requires-clause-links c =
    let ss = c.args.sources.now in
    let count = count_of ss in
    on_ok c.put_sets-all.result
    (λ all. links_short (map wanted_of ss) c.args.limit c.put_sets-all.new.so_far all (omega (arith, count, c.requires.sources.some)) (omega (arith, count, c.requires.sources.few)) (names_short ss c.requires.sources.each)) c.put_sets-all.ensures.all

pub returns-clause-planned : goal.returns-clause-planned
returns-clause-planned c =
    let ss = c.args.sources.now in
    let ws = map wanted_of ss in
    let count = count_of ss in
    ok_on c.planned.result c.put_sets-all.result (IsPlanned ws c.args.limit) c.planned.ensures.ok c.put_sets-all.ensures.all c.planned.ensures.plan
    (λ q is all. plan_of ws c.args.limit c.put_sets-all.new.so_far all (omega (arith, count, c.requires.sources.some)) (omega (arith, count, c.requires.sources.few)) (names_short ss c.requires.sources.each) q c.requires.high is)

pub returns-clause-prepared : goal.returns-clause-prepared
returns-clause-prepared c =
    let ss = c.args.sources.now in
    let ws = map wanted_of ss in
    let count = count_of ss in
    ok_by c.planned.result IsPrepared (λ q x. prepared ws c.args.limit q x)
    (ok_on c.planned.result c.put_sets-all.result (IsPlanned ws c.args.limit) c.planned.ensures.ok c.put_sets-all.ensures.all c.planned.ensures.plan
    (λ q is all. plan_of ws c.args.limit c.put_sets-all.new.so_far all (omega (arith, count, c.requires.sources.some)) (omega (arith, count, c.requires.sources.few)) (names_short ss c.requires.sources.each) q c.requires.high is))
