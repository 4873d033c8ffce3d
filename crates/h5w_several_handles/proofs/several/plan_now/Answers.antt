use Rattle.std.proofs.Common.{refl}
use Rattle.h5w_several_handles.proofs.CallLemmas.{flush_causes}
use Rattle.h5w_several_handles.proofs.ListLemmas.{empty_of}
use Rattle.h5w_several_handles.proofs.several.plan_now.Goals as goal

pub returns : goal.returns
returns c =
    let so = c.flush.ensures in
    let s = c.args.state.now in
    record {
      creating = λ some. absurd (some (empty_of s.first.items c.requires));
      first = refl;
      flushed = so.flushed;
      counts = so.counts;
      rows = so.rows;
      stands = so.stands;
      refused = λ e none why. so.refused e why;
      causes = λ none. flush_causes s.session c.flush.result so.causes so.fault;
      full = so.full;
      bound = so.bound;
      deep = so.deep;
      kept = λ none. so.kept;
      left = so.left;
    }
