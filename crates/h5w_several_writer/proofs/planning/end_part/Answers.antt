use Rattle.std.proofs.Common.{ℕ, ◌∙◌, ap}
use Rattle.h5w_writer.specs.Told.{told_of}
use Rattle.h5w_several_writer.specs.Opened.{places_from}
use Rattle.h5w_several_writer.proofs.PartLemmas.{flushed_root}
use Rattle.h5w_several_writer.proofs.planning.end_part.Goals as goal

pub returns-clause-turned : goal.returns-clause-turned
returns-clause-turned c old half =
    let n = c.carry_out.new.self in
    let has = c.carry_out.ensures.flushed old half in
    record {
      flushed = n;
      has = has;
      ends = c.carry_out.ensures.ends;
      places_are = c.carry_out.ensures.places;
      root_is = flushed_root old n has;
      new_is = c.set_aside.ensures.session ∙ ap (λ (e : ℕ). told_of n c.args.turn.root (places_from e c.args.limit)) c.end.ensures;
      is = c.set_aside.ensures.is;
    }
