use Rattle.h5w_array_laws.proofs.ArrayPlanLemmas.{plans_array}
use Rattle.h5w_array_laws.proofs.NumberedLemmas.{plans_numbers}
use Rattle.h5w_ea_index.proofs.plan.finish.Goals as goal

pub returns-clause-planned : goal.returns-clause-planned
returns-clause-planned c s t told =
    plans_array c.args.cache.now s c.finish.result.moves.items c.finish.result.copies.items c.finish.result.in_place.items c.finish.new.self t
    c.requires.array (c.finish.ensures.planned s t told) (c.finish.ensures.keeps s t told)

pub returns-clause-array : goal.returns-clause-array
returns-clause-array c =
    let w = c.requires.begun in
    (plans_array c.args.cache.now w.from c.finish.result.moves.items c.finish.result.copies.items c.finish.result.in_place.items c.finish.new.self w.to
    c.requires.array (c.finish.ensures.planned w.from w.to w.begun) (c.finish.ensures.keeps w.from w.to w.begun)).array

pub returns-clause-numbered : goal.returns-clause-numbered
returns-clause-numbered c = λ h.
    let w = c.requires.begun in
    plans_numbers c.args.cache.now w.from c.finish.result.moves.items c.finish.result.copies.items c.finish.result.in_place.items c.finish.new.self w.to
    (plans_array c.args.cache.now w.from c.finish.result.moves.items c.finish.result.copies.items c.finish.result.in_place.items c.finish.new.self w.to
    c.requires.array (c.finish.ensures.planned w.from w.to w.begun) (c.finish.ensures.keeps w.from w.to w.begun)) c.requires.array h
