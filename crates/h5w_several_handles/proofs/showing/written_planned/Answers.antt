use Rattle.std.proofs.Common.{◌∙◌, ℕ, ap, refl}
use Rattle.h5w_handles.specs.Codes.{told}
use Rattle.h5w_handles.specs.declared.code.H5wCode.TheVariants as codes
use Rattle.h5w_handles.specs.declared.several.SeveralState.{SeveralState}
use Rattle.h5w_several_handles.proofs.PieceLemmas.{written_piece}
use Rattle.h5w_several_handles.proofs.showing.written_planned.Goals as goal

pub returns : goal.returns
returns c =
    let so = c.written.ensures in
    let then : SeveralState = record c.args.state.now { session = c.written.new.self } in
    written_piece c.args.state.now then c.with.result c.requires.none c.requires.some refl (λ w ws e. (so.piece w ws e, so.left w ws e)) so.parts so.stands (c.with.ensures ∙ ap (λ (n : ℕ). told codes.Done 0 n) c.pending.ensures)
