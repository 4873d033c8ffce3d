use Rattle.std.proofs.Common.{sym, ap, ◌∙◌}
use Rattle.std.proofs.lemmas.Bool.{cond-true}
use Rattle.h5w_chunks.proofs.Geometry.{is_cut}
use Rattle.h5w_chunks.specs.Grids.{dataset_of}
use Rattle.h5w_pieces.specs.RowPieces.{own_pieces}
use Rattle.h5w_pieces.proofs.AllIn.{all_in}
use Rattle.h5w_pieces.proofs.rows.alone_pieces.Goals as goal

pub own_pieces-requires-clause-columns : goal.own_pieces-requires-clause-columns
own_pieces-requires-clause-columns c =
    let d = dataset_of c.args.grid.now in
    (all_in d d.shape.rows c.args.to (is_cut c.args.grid.now c.requires.grid) c.requires.all).narrow

pub returns-then-place : goal.returns-then-place
returns-then-place c =
    let d = dataset_of c.args.grid.now in
    let whole = all_in d d.shape.rows c.args.to (is_cut c.args.grid.now c.requires.grid) c.requires.all in
    record { exact = c.own_pieces.ensures ∙ ap (own_pieces d d.shape.rows c.args.to) (sym whole.columns) ∙ sym (cond-true c.args.place.now.stored _ _ c.if-place.true) }
