use Rattle.std.proofs.Common.{◌≡◌, Err, ap, arith, length, rules, subst, sym}
use Rattle.std.specs.Prelude.{map}
use Rattle.h5w_cache.specs.declared.plan.PlanError.TheVariants.{Full as Full_}
use Rattle.h5w_packing.specs.Plans.{IsSetOut, Wanted, front_size, wanted_of}
use Rattle.h5w_packing.specs.SoFar.{HasMore}
use Rattle.h5w_packing.proofs.SoFarLemmas.{count_of, made_all, made_begun, made_more, made_out, next_fits, next_item}
use Rattle.h5w_packing.proofs.planning.put_sets.Goals as goal

pub loop-source-init : goal.loop-source-init
loop-source-init c = made_begun (map wanted_of c.args.sources.now) c.args.limit c.args.so_far.now c.requires.begun c.requires.low

pub put_set-requires-clause-small : goal.put_set-requires-clause-small
put_set-requires-clause-small c =
    let ws = map wanted_of c.args.sources.now in
    let item = c.source-item.result in
    let k = c.loop-source.source-index in
    let fits = next_fits ws c.args.limit k c.loop-source.so_far c.loop-source.invariant (omega (arith, c.loop-source-test.true, count_of c.args.sources.now)) (wanted_of item) in
    omega (arith, fits, ap (λ (w : Wanted). front_size w.dataset) (next_item c.args.sources.now k item c.source-item.is), c.requires.small)

pub put_set-requires-clause-above : goal.put_set-requires-clause-above
put_set-requires-clause-above c =
    let ws = map wanted_of c.args.sources.now in
    let item = c.source-item.result in
    let k = c.loop-source.source-index in
    let fits = next_fits ws c.args.limit k c.loop-source.so_far c.loop-source.invariant (omega (arith, c.loop-source-test.true, count_of c.args.sources.now)) (wanted_of item) in
    omega (arith, fits, ap (λ (w : Wanted). front_size w.dataset) (next_item c.args.sources.now k item c.source-item.is), c.loop-source.invariant.above)

pub returns-in_err-put_set-clause-full : goal.returns-in_err-put_set-clause-full
returns-in_err-put_set-clause-full c full e =
    let ws = map wanted_of c.args.sources.now in
    let item = c.source-item.result in
    let k = c.loop-source.source-index in
    let s = c.loop-source.so_far in
    let same : c.put_set.result ≡ Err (Full_ full) = search rules in
    made_out ws c.args.limit k s c.loop-source.invariant (omega (arith, c.loop-source-test.true, count_of c.args.sources.now)) (wanted_of item) full
    (subst (λ (w : Wanted). IsSetOut w c.args.limit s.place s.end full) (sym (next_item c.args.sources.now k item c.source-item.is)) (c.put_set.ensures.full full same))

pub loop-source-preserved : goal.loop-source-preserved
loop-source-preserved c =
    let ws = map wanted_of c.args.sources.now in
    let item = c.source-item.result in
    let k = c.loop-source.source-index in
    let s = c.loop-source.so_far in
    let t = c.put_set.new.so_far in
    made_more ws c.args.limit k s c.loop-source.invariant (omega (arith, c.loop-source-test.true, count_of c.args.sources.now)) (wanted_of item) t
    (subst (λ (w : Wanted). HasMore c.args.limit w s t) (sym (next_item c.args.sources.now k item c.source-item.is)) c.in_ok-put_set.ensures.more)

pub returns-clause-all : goal.returns-clause-all
returns-clause-all c = made_all (map wanted_of c.args.sources.now) c.args.limit c.loop-source.source-index c.loop-source.so_far c.loop-source.invariant (omega (arith, c.loop-source-test.false, count_of c.args.sources.now))
