use Rattle.std.proofs.Common.{Option, sym, ap, ◌∙◌}
use Rattle.std.specs.Option.{option_or}
use Rattle.h5w_space.specs.declared.Extent.{Extent}
use Rattle.h5w_writer_open.specs.OpenRanges.{first_past}
use Rattle.h5w_writer_open.proofs.OpenRangeLemmas.{past_joined}
use Rattle.h5w_writer_open.proofs.ranges.any_past.Goals as goal

pub returns-in-Some : goal.returns-in-Some
returns-in-Some c =
    let a = c.args in
    sym (past_joined a.end a.blocks.now a.chunks.now ∙ ap (λ (o : Option Extent). option_or o (first_past a.end a.chunks.now)) (sym c.first_past.ensures ∙ c.in-Some.is))

pub returns-in-None : goal.returns-in-None
returns-in-None c =
    let a = c.args in
    c.first_past-in-None.ensures ∙ sym (past_joined a.end a.blocks.now a.chunks.now ∙ ap (λ (o : Option Extent). option_or o (first_past a.end a.chunks.now)) (sym c.first_past.ensures ∙ c.in-None.is))
