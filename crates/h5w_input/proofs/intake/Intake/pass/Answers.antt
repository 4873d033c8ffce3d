use Rattle.std.proofs.Common.{◌-◌, ap, sym, arith, drop, List, ℕ}
use Rattle.std.proofs.lemmas.List.{length-take}
use Rattle.h5w_input.specs.LinesAhead.{IntakeView}
use Rattle.h5w_input.proofs.LineLemmas.{rest_of_slice}
use Rattle.h5w_input.proofs.intake.Intake.pass.Goals as goal

pub returns : goal.returns
returns c = let i = c.self.inside in
    let within = rw (← c.self.view_is) at c.requires in
    rw (← c.self.view_is) (ap (λ (held : List ℕ). let v : IntakeView = record { held = held; more = i.more; limit = i.limit } in v) (sym (rest_of_slice i.at i.end c.args.bytes i.buffer.items (omega (arith, within, length-take (i.end - i.at) (drop i.at i.buffer.items))))))
