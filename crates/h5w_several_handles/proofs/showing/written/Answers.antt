use Rattle.std.proofs.Common.{rules, ◌≡◌, length, arith}
use Rattle.h5w_several_writer_laws.specs.Sessions.{all_pending}
use Rattle.h5w_several_handles.proofs.PieceLemmas.{written_none}
use Rattle.h5w_several_handles.proofs.showing.written.Goals as goal

pub returns-then-pending-eq0 : goal.returns-then-pending-eq0
returns-then-pending-eq0 c =
    let s = c.args.state.now in
    let none : length s.first.items ≡ 0 = first_of (search rules, grind arith) in
    let idle : length (all_pending s.session.parts) ≡ 0 = first_of (search rules, grind arith) in
    written_none s c.alone.result none idle c.alone.ensures
