use Rattle.std.proofs.Common.{rules, ◌≡◌, inl, inr, Err}
use Rattle.h5w_cache.specs.declared.plan.PlanError.TheVariants.{Full as Full_}
use Rattle.h5w_index.specs.Held.{view_of}
use Rattle.h5w_index.specs.Steps.{HasNoPlace}
use Rattle.h5w_index.proofs.BegunLemmas.{was_begun}
use Rattle.h5w_packing.proofs.ResultLemmas.{full_of}
use Rattle.h5w_packing.proofs.placing.settle.Goals as goal

pub finish-plan-requires-clause-begun : goal.finish-plan-requires-clause-begun
finish-plan-requires-clause-begun c = was_begun (view_of c.place_chunks.new.index) c.place_chunks.new.places c.in_ok-begun.begun c.begin.new.places c.in_ok-begun.ensures.begun

pub returns-clause-settled : goal.returns-clause-settled
returns-clause-settled c = record {
  full = view_of c.place_chunks.new.index;
  sound = c.place_chunks.ensures.sound;
  named = c.in_ok-chunks.ensures.named;
  between = c.place_chunks.new.places;
  is = c.in_ok-chunks.ensures.places;
  low = c.in_ok-chunks.ensures.within;
  plan = c.finish-plan.ensures.planned c.place_chunks.new.places c.begin.new.places c.in_ok-begun.ensures.begun;
  when_clean = c.is_clean-clean.ensures.clean;
  chunks = c.in_ok-chunks.ensures.chunks;
}

pub returns-in_err-chunks-clause-full : goal.returns-in_err-chunks-clause-full
returns-in_err-chunks-clause-full c full e = let same : c.place_chunks.result ≡ Err (Full_ full) = search rules in inl (c.place_chunks.ensures.full full same)

pub returns-in_err-begun-clause-full : goal.returns-in_err-begun-clause-full
returns-in_err-begun-clause-full c full e =
    let same : c.begin.result ≡ Err (Full_ full) = search rules in
    inr (record {
      named = view_of c.place_chunks.new.index;
      names = c.in_ok-chunks.ensures.named;
      between = c.place_chunks.new.places;
      is = c.in_ok-chunks.ensures.places;
      refused = full_of c.begin.result full (HasNoPlace (view_of c.place_chunks.new.index) c.place_chunks.new.places) same c.begin.ensures.full;
    })
