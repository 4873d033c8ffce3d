use Rattle.std.proofs.Common.{◌≢◌, ℕ, ◌*◌, ◌≤◌, nat_lt, sym, ◌∙◌, subst}
use Rattle.h5w_model.specs.Numbers.{undefined}
use Rattle.h5w_chunks.specs.Grids.{dataset_of}
use Rattle.h5w_chunks.specs.declared.grid.ChunkPlace.{ChunkPlace}
use Rattle.h5w_laws.proofs.ResultLemmas.{map_ok}
use Rattle.h5w_index.specs.Held.{view_of}
use Rattle.h5w_index.specs.Views.{address_in}
use Rattle.h5w_index.proofs.DepthLemmas.{depth_laws}
use Rattle.h5w_index.proofs.PlacingLemmas.{placing_laws}
use Rattle.h5w_index.proofs.ToldLemmas.{held_tells}
use Rattle.h5w_writer.proofs.TakingLemmas.{found_none, found_some, named_there, not_less, on_err, taken_there}
use Rattle.h5w_writer.proofs.taking.place_chunk.Goals as goal

pub reach-requires-clause-defined : goal.reach-requires-clause-defined
reach-requires-clause-defined c = (found_some (address_in (view_of c.args.index.now) c.args.key) c.in-Some.address (sym c.get.ensures ∙ c.in-Some.is)).1

pub returns-in_err-keep-clause-partly : goal.returns-in_err-keep-clause-partly
returns-in_err-keep-clause-partly c =
    on_err c.from_residual.result (λ to v x touches.
    placing_laws.held (dataset_of c.args.grid.now) to c.args.key v (view_of c.args.index.now) (view_of c.reach.new.self) c.args.taking.now.added.items touches c.reach.ensures.held x)

pub returns-in_err-keep-clause-within : goal.returns-in_err-keep-clause-within
returns-in_err-keep-clause-within c lines across row column x =
    depth_laws.held lines across c.args.key (view_of c.args.index.now) (view_of c.reach.new.self) c.requires.sound row column c.reach.ensures.held x

pub returns-in-Some-clause-within : goal.returns-in-Some-clause-within
returns-in-Some-clause-within c lines across row column x =
    depth_laws.held lines across c.args.key (view_of c.args.index.now) (view_of c.reach.new.self) c.requires.sound row column c.reach.ensures.held x

pub returns-in_err-keep-clause-takes : goal.returns-in_err-keep-clause-takes
returns-in_err-keep-clause-takes c = (held_tells c.args.key (view_of c.args.index.now) (view_of c.reach.new.self) c.requires.sound c.reach.ensures.held).like.takes

pub returns-in-Some-clause-takes : goal.returns-in-Some-clause-takes
returns-in-Some-clause-takes c = (held_tells c.args.key (view_of c.args.index.now) (view_of c.reach.new.self) c.requires.sound c.reach.ensures.held).like.takes

pub returns-in-Some-clause-named : goal.returns-in-Some-clause-named
returns-in-Some-clause-named c to v fits number band inside x =
    let d = dataset_of c.args.grid.now in
    let w = view_of c.args.index.now in
    let u = view_of c.reach.new.self in
    let key = c.args.key in
    let chunks = c.args.taking.now.chunks.items in
    let added = c.args.taking.now.added.items in
    let p : ChunkPlace = record { address = c.in-Some.address; stored = nat_lt (c.args.band * c.args.grid.now.layout.chunk.0) c.args.grid.now.shape.rows } in
    let there = found_some (address_in w key) p.address (sym c.get.ensures ∙ c.in-Some.is) in
    let defined : p.address ≢ undefined = λ e. there.1 (there.0 ∙ e) in
    named_there d to v w u chunks c.keep.new.items.items added key p fits number inside there.0 defined
    (λ fresh. subst (λ (n : ℕ). d.shape.rows ≤ n * d.layout.chunk_rows) band (not_less (c.args.band * d.layout.chunk_rows) d.shape.rows fresh))
    c.reach.ensures.held c.reach.ensures.reached c.in_ok-keep.ensures.added x

pub returns-in-Some-clause-taken : goal.returns-in-Some-clause-taken
returns-in-Some-clause-taken c to v early s fits within number x y =
    let d = dataset_of c.args.grid.now in
    let w = view_of c.args.index.now in
    let key = c.args.key in
    let chunks = c.args.taking.now.chunks.items in
    let added = c.args.taking.now.added.items in
    let p : ChunkPlace = record { address = c.in-Some.address; stored = nat_lt (c.args.band * c.args.grid.now.layout.chunk.0) c.args.grid.now.shape.rows } in
    let there = found_some (address_in w key) p.address (sym c.get.ensures ∙ c.in-Some.is) in
    let defined : p.address ≢ undefined = λ e. there.1 (there.0 ∙ e) in
    taken_there d to v w early s c.args.taking.now.places chunks c.keep.new.items.items added key p fits within number there.0 defined c.in_ok-keep.ensures.added x y

pub place_new-requires-clause-absent : goal.place_new-requires-clause-absent
place_new-requires-clause-absent c = found_none (address_in (view_of c.args.index.now) c.args.key) (sym c.get.ensures ∙ c.in_default.is)

pub returns-clause-named : goal.returns-clause-named
returns-clause-named c = map_ok c.place_new.result (λ f to v fits number band inside x. f to v fits number inside x) c.place_new.ensures.named

pub returns-clause-taken : goal.returns-clause-taken
returns-clause-taken c = map_ok c.place_new.result (λ f to v early s fits within number x y. f to v early s fits number x y) c.place_new.ensures.taken

pub returns-clause-full : goal.returns-clause-full
returns-clause-full c full is = (found_none (address_in (view_of c.args.index.now) c.args.key) (sym c.get.ensures ∙ c.in_default.is), c.place_new.ensures.full full is)

pub returns-clause-deep : goal.returns-clause-deep
returns-clause-deep c is = (found_none (address_in (view_of c.args.index.now) c.args.key) (sym c.get.ensures ∙ c.in_default.is), c.place_new.ensures.deep is)
