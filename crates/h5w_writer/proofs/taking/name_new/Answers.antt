use Rattle.std.proofs.Common.{rules, Err, List, [], ◌∙◌, ◌≡◌, ◌∷◌, ◌++◌, ap, sym}
use Rattle.h5w_chunks.specs.declared.grid.ChunkPlace.{ChunkPlace}
use Rattle.h5w_model.specs.declared.cell.Key.{Key}
use Rattle.h5w_index.specs.Held.{view_of}
use Rattle.h5w_index.proofs.DepthLemmas.{depth_laws}
use Rattle.h5w_index.proofs.ToldLemmas.{held_tells, set_tells}
use Rattle.h5w_writer.specs.Refusals.{insert_fault}
use Rattle.h5w_writer.proofs.TakingLemmas.{insert_deep, named_first, on_err, partly_kept, partly_refused}
use Rattle.h5w_writer.proofs.taking.name_new.Goals as goal

pub returns-in_err-make_room-clause-partly : goal.returns-in_err-make_room-clause-partly
returns-in_err-make_room-clause-partly c =
    on_err c.from_residual.result (λ d to v x touches. partly_kept d to v (view_of c.args.index.now) c.args.taking.now.added.items c.make_room.new.taking.added.items c.make_room.ensures.added x)

-- ---- No room in the index

pub returns-in_err-insert-clause-takes : goal.returns-in_err-insert-clause-takes
returns-in_err-insert-clause-takes c = (held_tells c.args.key (view_of c.args.index.now) (view_of c.insert.new.self) c.requires.sound c.in_err-insert.ensures.held).like.takes

pub returns-in_err-insert-clause-partly : goal.returns-in_err-insert-clause-partly
returns-in_err-insert-clause-partly c =
    on_err c.from_residual-in_err-insert.result (λ d to v x touches.
    partly_refused d to c.args.key v (view_of c.args.index.now) (view_of c.insert.new.self) c.args.taking.now.added.items c.make_room.new.taking.added.items c.in_err-insert.ensures.held c.make_room.ensures.added x touches)

pub returns-in_err-insert-clause-within : goal.returns-in_err-insert-clause-within
returns-in_err-insert-clause-within c lines across row column x =
    depth_laws.held lines across c.args.key (view_of c.args.index.now) (view_of c.insert.new.self) c.requires.sound row column c.in_err-insert.ensures.held x

pub returns-in_err-insert-clause-deep : goal.returns-in_err-insert-clause-deep
returns-in_err-insert-clause-deep c is =
    let told : c.from_residual-in_err-insert.result ≡ Err (insert_fault c.in_err-insert.field-0.0) = search rules in
    insert_deep c.in_err-insert.field-0.0 (sym told ∙ is) c.in_err-insert.ensures.deep

-- ---- The index names it

pub returns-clause-takes : goal.returns-clause-takes
returns-clause-takes c = (set_tells c.args.key c.args.place.address (view_of c.args.index.now) (view_of c.insert.new.self) c.requires.sound c.requires.defined c.in_ok-insert.ensures.set).like.takes

pub returns-clause-named : goal.returns-clause-named
returns-clause-named c d to v fits number inside fresh x =
    let chunks = c.push_reserved.ensures.items ∙ ap (λ (ps : List ChunkPlace). ps ++ c.args.place ∷ []) c.make_room.ensures.chunks in
    let added = c.push_reserved-2.ensures.items ∙ ap (λ (ks : List Key). ks ++ c.args.key ∷ []) c.make_room.ensures.added in
    named_first d to v (view_of c.args.index.now) (view_of c.insert.new.self) c.args.taking.now.chunks.items c.push_reserved.new.self.items c.args.taking.now.added.items c.push_reserved-2.new.self.items c.args.key c.args.place fits
    number inside c.requires.absent fresh c.requires.defined c.in_ok-insert.ensures.set chunks added x

pub returns-clause-within : goal.returns-clause-within
returns-clause-within c lines across row column x =
    depth_laws.set lines across c.args.key c.args.place.address (view_of c.args.index.now) (view_of c.insert.new.self) c.requires.sound row column c.in_ok-insert.ensures.set x
