use Rattle.std.proofs.Common.{◌≡◌, true, false, rules, arith}
use Rattle.std.proofs.lemmas.Grind.{common_steps}
use Rattle.h5w_input.specs.LinesAhead.{lines_ahead}
use Rattle.h5w_input.proofs.LineLemmas.{last_of, open_of, whole_of}
use Rattle.h5w_input.proofs.lines.Lines.next.Goals as goal

pub returns-then-not-branch-clause-line : goal.returns-then-not-branch-clause-line
returns-then-not-branch-clause-line g c =
    let is : c.in_ok-fill.field-0 ≡ false = first_of (search rules, grind (arith, common_steps)) in
    last_of c.loop-line.line c.last.result c.in_ok-fill.field-0
    (lines_ahead (g.S.Source.view c.args.self.now.source.now) c.args.self.now.intake.now) (lines_ahead (g.S.Source.view c.loop-line.self.source.now) c.loop-line.self.intake.now) (g.S.Source.view c.fill.new.source) c.fill.new.self
    c.loop-line.invariant.before c.in_ok-fill.ensures.passed is c.in_ok-fill.ensures.more c.last.ensures

pub returns-then-branch-clause-line : goal.returns-then-branch-clause-line
returns-then-branch-clause-line g c =
    let is : c.in_ok-advance.field-0 ≡ true = first_of (search rules, grind (arith, common_steps)) in
    whole_of c.loop-line.line c.advance.new.line c.finish.result c.in_ok-advance.field-0
    (lines_ahead (g.S.Source.view c.args.self.now.source.now) c.args.self.now.intake.now) (lines_ahead (g.S.Source.view c.loop-line.self.source.now) c.loop-line.self.intake.now) (g.S.Source.view c.fill.new.source) c.fill.new.self c.advance.new.self
    c.loop-line.invariant.before c.in_ok-fill.ensures.passed is c.in_ok-advance.ensures.cut c.finish.ensures

pub loop-line-preserved : goal.loop-line-preserved
loop-line-preserved g c =
    let is : c.in_ok-advance.field-0 ≡ false = first_of (search rules, grind (arith, common_steps)) in
    record {
      before = open_of c.loop-line.line c.advance.new.line c.in_ok-advance.field-0
          (lines_ahead (g.S.Source.view c.args.self.now.source.now) c.args.self.now.intake.now) (lines_ahead (g.S.Source.view c.loop-line.self.source.now) c.loop-line.self.intake.now) (g.S.Source.view c.fill.new.source) c.fill.new.self c.advance.new.self
          c.loop-line.invariant.before c.in_ok-fill.ensures.passed is c.in_ok-advance.ensures.cut;
      same_reference = c.loop-line.invariant.same_reference;
      same_intake = c.loop-line.invariant.same_intake;
    }

pub new-line-requires : goal.new-line-requires
new-line-requires g c = omega arith

pub loop-line-init : goal.loop-line-init
loop-line-init g c = grind (arith, common_steps)

pub returns-in_err-fill-clause-line : goal.returns-in_err-fill-clause-line
returns-in_err-fill-clause-line g c = grind (arith, common_steps)

pub returns-in_err-fill-clause-stays : goal.returns-in_err-fill-clause-stays
returns-in_err-fill-clause-stays g c = grind (arith, common_steps)

pub returns-in_err-fill-clause-input : goal.returns-in_err-fill-clause-input
returns-in_err-fill-clause-input g c = grind (arith, common_steps)

pub returns-in_err-fill-clause-over : goal.returns-in_err-fill-clause-over
returns-in_err-fill-clause-over g c = grind (arith, common_steps)

pub returns-in_err-fill-clause-failed : goal.returns-in_err-fill-clause-failed
returns-in_err-fill-clause-failed g c = grind (arith, common_steps)

pub returns-in_err-fill-clause-cause : goal.returns-in_err-fill-clause-cause
returns-in_err-fill-clause-cause g c = grind (arith, common_steps)

pub returns-in_err-fill-clause-same_reference : goal.returns-in_err-fill-clause-same_reference
returns-in_err-fill-clause-same_reference g c = omega arith

pub returns-in_err-fill-clause-same_intake : goal.returns-in_err-fill-clause-same_intake
returns-in_err-fill-clause-same_intake g c = omega arith

pub last-requires : goal.last-requires
last-requires g c = omega arith

pub returns-then-not-branch-clause-stays : goal.returns-then-not-branch-clause-stays
returns-then-not-branch-clause-stays g c = grind (arith, common_steps)

pub returns-then-not-branch-clause-input : goal.returns-then-not-branch-clause-input
returns-then-not-branch-clause-input g c = grind (arith, common_steps)

pub returns-then-not-branch-clause-over : goal.returns-then-not-branch-clause-over
returns-then-not-branch-clause-over g c = grind (arith, common_steps)

pub returns-then-not-branch-clause-failed : goal.returns-then-not-branch-clause-failed
returns-then-not-branch-clause-failed g c = grind (arith, common_steps)

pub returns-then-not-branch-clause-cause : goal.returns-then-not-branch-clause-cause
returns-then-not-branch-clause-cause g c = grind (arith, common_steps)

pub returns-then-not-branch-clause-same_reference : goal.returns-then-not-branch-clause-same_reference
returns-then-not-branch-clause-same_reference g c = omega arith

pub returns-then-not-branch-clause-same_intake : goal.returns-then-not-branch-clause-same_intake
returns-then-not-branch-clause-same_intake g c = omega arith

pub advance-requires : goal.advance-requires
advance-requires g c = omega arith

pub returns-in_err-advance-clause-line : goal.returns-in_err-advance-clause-line
returns-in_err-advance-clause-line g c = grind (arith, common_steps)

pub returns-in_err-advance-clause-stays : goal.returns-in_err-advance-clause-stays
returns-in_err-advance-clause-stays g c = grind (arith, common_steps)

pub returns-in_err-advance-clause-input : goal.returns-in_err-advance-clause-input
returns-in_err-advance-clause-input g c = grind (arith, common_steps)

pub returns-in_err-advance-clause-over : goal.returns-in_err-advance-clause-over
returns-in_err-advance-clause-over g c = grind (arith, common_steps)

pub returns-in_err-advance-clause-failed : goal.returns-in_err-advance-clause-failed
returns-in_err-advance-clause-failed g c = grind (arith, common_steps)

pub returns-in_err-advance-clause-cause : goal.returns-in_err-advance-clause-cause
returns-in_err-advance-clause-cause g c = grind (arith, common_steps)

pub returns-in_err-advance-clause-same_reference : goal.returns-in_err-advance-clause-same_reference
returns-in_err-advance-clause-same_reference g c = omega arith

pub returns-in_err-advance-clause-same_intake : goal.returns-in_err-advance-clause-same_intake
returns-in_err-advance-clause-same_intake g c = omega arith

pub finish-requires : goal.finish-requires
finish-requires g c = omega arith

pub returns-then-branch-clause-stays : goal.returns-then-branch-clause-stays
returns-then-branch-clause-stays g c = grind (arith, common_steps)

pub returns-then-branch-clause-input : goal.returns-then-branch-clause-input
returns-then-branch-clause-input g c = grind (arith, common_steps)

pub returns-then-branch-clause-over : goal.returns-then-branch-clause-over
returns-then-branch-clause-over g c = grind (arith, common_steps)

pub returns-then-branch-clause-failed : goal.returns-then-branch-clause-failed
returns-then-branch-clause-failed g c = grind (arith, common_steps)

pub returns-then-branch-clause-cause : goal.returns-then-branch-clause-cause
returns-then-branch-clause-cause g c = grind (arith, common_steps)

pub returns-then-branch-clause-same_reference : goal.returns-then-branch-clause-same_reference
returns-then-branch-clause-same_reference g c = omega arith

pub returns-then-branch-clause-same_intake : goal.returns-then-branch-clause-same_intake
returns-then-branch-clause-same_intake g c = omega arith

pub loop-line-smaller : goal.loop-line-smaller
loop-line-smaller g c = grind (arith, common_steps)
