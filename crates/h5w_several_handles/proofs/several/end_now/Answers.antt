use Rattle.std.proofs.Common.{refl}
use Rattle.h5w_several_handles.proofs.CallLemmas.{kept_of}
use Rattle.h5w_several_handles.proofs.ListLemmas.{empty_of}
use Rattle.h5w_several_handles.proofs.several.end_now.Goals as goal

pub returns : goal.returns
returns c =
    let so = c.close.ensures in
    let s = c.args.state.now in
    record {
      creating = λ some. absurd (some (empty_of s.first.items c.requires));
      first = refl;
      refused = λ none. so.refused;
      closed = so.closed;
      pending = so.pending;
      reads = so.reads;
      stands = so.stands;
      kept = kept_of s c.close.new.self c.close.result so.kept;
    }
