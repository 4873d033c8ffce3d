use Rattle.std.proofs.Common.{arith, false, ◌≡◌, ◌∙◌, [], ap, sym, subst}
use Rattle.std.proofs.lemmas.List.{nil_from_length}
use Rattle.h5w_writer.specs.Sessions.{Session}
use Rattle.h5w_writer.specs.Stands.{Stands}
use Rattle.h5w_writer.proofs.StandLemmas.{close_stands}
use Rattle.h5w_writer.proofs.state.WriterCore.close.Goals as goal

pub returns-clause-stands : goal.returns-clause-stands
returns-clause-stands c log stands =
    let s = c.args.self.now in
    let running : s.stopped ≡ false = sym (ap (λ (t : Session). t.stopped) c.self.view_is) ∙ c.if-self.false in
    let idle : s.pending ≡ [] = nil_from_length s.pending (omega (arith, c.pending-pending.ensures)) in
    subst (λ (t : Session). Stands t log) (sym c.clear.ensures.session) (close_stands s log c.clear.ensures.reads running idle stands)
