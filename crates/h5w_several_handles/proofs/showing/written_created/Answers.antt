use Rattle.std.proofs.Common.{◌∙◌, ℕ, ap}
use Rattle.h5w_handles.specs.Codes.{told}
use Rattle.h5w_handles.specs.declared.code.H5wCode.TheVariants as codes
use Rattle.h5w_several_handles.proofs.PieceLemmas.{written_first}
use Rattle.h5w_several_handles.proofs.showing.written_created.Goals as goal

pub returns : goal.returns
returns c = written_first c.args.state.now c.show_first.new.state c.with.result c.requires c.show_first.ensures.first c.show_first.ensures.session (c.with.ensures ∙ ap (λ (n : ℕ). told codes.Done 0 n) c.pending.ensures)
