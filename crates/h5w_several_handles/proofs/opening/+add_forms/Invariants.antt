use Rattle.std.proofs.Common.{length}
use Rattle.h5w_several_handles.proofs.opening.+add_forms.Given as goal

abbrev pub decreases-add_forms : goal.decreases-add_forms
decreases-add_forms l = length l.options.now
