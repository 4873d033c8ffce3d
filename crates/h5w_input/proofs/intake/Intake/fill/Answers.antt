use Rattle.std.proofs.Common.{arith, ap, sym, ◌∙◌, ◌-◌}
use Rattle.h5w_input.specs.LinesAhead.{IntakeView}
use Rattle.h5w_input.proofs.LineLemmas.{filled, slice_none}
use Rattle.h5w_input.proofs.intake.Intake.fill.Goals as goal

pub returns-clause-passed : goal.returns-clause-passed
returns-clause-passed g c = filled (g.S.Source.view c.args.source.now) (g.S.Source.view c.read_front.new.source) c.args.self.now c.read_front.new.buffer.items c.in_ok-n.n (c.self.inside.more - c.in_ok-n.n) c.self.inside.limit
    c.in_ok-n.ensures.took
    (sym (ap (λ (i : IntakeView). i.held) c.self.view_is) ∙ slice_none c.self.inside.at c.self.inside.end c.self.inside.buffer.items (omega arith))
    (omega (arith, c.in_ok-n.ensures.bound, c.how_many.ensures.most)) (omega (arith, ap (λ (i : IntakeView). i.more) c.self.view_is, c.in_ok-n.ensures.bound, c.how_many.ensures.within)) (omega (arith, ap (λ (i : IntakeView). i.more) c.self.view_is)) (ap (λ (i : IntakeView). i.limit) c.self.view_is)
