use Rattle.std.proofs.Common.{◌≡◌, Some, refl}
use Rattle.h5w_writer.specs.declared.refusal.AppendError.{AppendError}
use Rattle.h5w_several_writer.specs.Refusals.{append_refusal_in}
use Rattle.h5w_several_handles.proofs.CallLemmas.{append_causes, kept_of}
use Rattle.h5w_several_handles.proofs.ListLemmas.{empty_of}
use Rattle.h5w_several_handles.proofs.several.append_now.Goals as goal

pub returns : goal.returns
returns c = λ part is.
    let so = c.append.ensures in
    let s = c.args.state.now in
    record {
      creating = λ some. absurd (some (empty_of s.first.items c.requires.none));
      first = refl;
      added = so.added;
      rows = so.rows;
      stands = so.stands;
      refused = λ e none why. so.refused part e is why;
      causes = λ none. append_causes (λ (e : AppendError). append_refusal_in s.session part c.args.values.now ≡ Some e) c.append.result (so.causes part is) so.fault;
      kept = kept_of s c.append.new.self c.append.result so.kept;
    }
