use Rattle.std.proofs.Common.{arith, ◌*◌, ◌≤◌, false, nat_lt, sym, ap, ◌∙◌, subst, refl, length}
use Rattle.h5w_space.specs.Space.{extent}
use Rattle.h5w_cache.specs.Plans.{IsRefused, Took}
use Rattle.h5w_chunks.proofs.Geometry.{is_cut}
use Rattle.h5w_chunks.specs.Grids.{chunk_len, dataset_of}
use Rattle.h5w_chunks.specs.declared.grid.ChunkPlace.{ChunkPlace}
use Rattle.h5w_index.specs.Held.{view_of}
use Rattle.h5w_index.specs.Views.{TakesKey, address_in}
use Rattle.h5w_writer.proofs.IndexStarts.{refused_so}
use Rattle.h5w_writer.proofs.PlaceLemmas.{new_placed, next_full, next_new, next_there, there_placed}
use Rattle.h5w_writer.proofs.TakingLemmas.{found_none, found_some, key_in, not_less, sizes_of, taken_defined}
use Rattle.h5w_writer.proofs.early.next_place.Goals as goal

pub get-requires-clause-key : goal.get-requires-clause-key
get-requires-clause-key c =
    let d = dataset_of c.args.grid.now in
    let own = key_in d d.shape.rows c.args.to (length c.args.chunks.now) (is_cut c.args.grid.now c.requires.grid) c.requires.behind in
    subst (λ k. TakesKey (view_of c.args.index.now) k) (sym c.touched_key.ensures.exact) (c.requires.can.takes _ own.row)

pub overflow_mul-stored : goal.overflow_mul-stored
overflow_mul-stored c =
    let d = dataset_of c.args.grid.now in
    let own = key_in d d.shape.rows c.args.to (length c.args.chunks.now) (is_cut c.args.grid.now c.requires.grid) c.requires.behind in
    omega (arith, ap (λ n. n * d.layout.chunk_rows) c.touched_band.ensures, own.start)

pub returns-in-Some-clause-taken : goal.returns-in-Some-clause-taken
returns-in-Some-clause-taken c =
    let d = dataset_of c.args.grid.now in
    let v = view_of c.args.index.now in
    let key = c.touched_key.result in
    let p : ChunkPlace = record { address = c.in-Some.address; stored = nat_lt (c.touched_band.result * c.args.grid.now.layout.chunk.0) c.args.grid.now.shape.rows } in
    let there = found_some (address_in v key) p.address (sym c.get.ensures ∙ c.in-Some.is) in
    next_there d v c.args.places.now c.args.chunks.now key p c.requires.can.fits c.requires.can.inside c.touched_key.ensures.exact there.0 (λ e. there.1 (there.0 ∙ e))

pub returns-in-Some-clause-placed : goal.returns-in-Some-clause-placed
returns-in-Some-clause-placed c =
    let d = dataset_of c.args.grid.now in
    let v = view_of c.args.index.now in
    let key = c.touched_key.result in
    let p : ChunkPlace = record { address = c.in-Some.address; stored = nat_lt (c.touched_band.result * c.args.grid.now.layout.chunk.0) c.args.grid.now.shape.rows } in
    let there = found_some (address_in v key) p.address (sym c.get.ensures ∙ c.in-Some.is) in
    there_placed d v c.args.chunks.now key p c.touched_key.ensures.exact there.0 (λ e. there.1 (there.0 ∙ e))
    (λ fresh. subst (λ n. d.shape.rows ≤ n * d.layout.chunk_rows) c.touched_band.ensures (not_less (c.touched_band.result * d.layout.chunk_rows) d.shape.rows fresh))

pub returns-in-Ok-clause-taken : goal.returns-in-Ok-clause-taken
returns-in-Ok-clause-taken c =
    let d = dataset_of c.args.grid.now in
    let v = view_of c.args.index.now in
    let s = c.args.places.now in
    let t = c.take.new.self in
    let at = c.in-Ok.address in
    let p : ChunkPlace = record { address = at; stored = false } in
    let took_len : Took s t (extent at c.chunk_len.result) = record {
      takes = c.in-Ok.ensures.taken;
      off_live = c.in-Ok.ensures.off_live;
      off_retired = c.in-Ok.ensures.off_retired;
      live = c.in-Ok.ensures.live;
      stays_live = c.in-Ok.ensures.stays_live;
    } in
    let took : Took s t (extent at (chunk_len d)) = subst (λ n. Took s t (extent at n)) c.chunk_len.ensures.exact took_len in
    next_new d v s t c.args.chunks.now c.touched_key.result p (sizes_of c.args.grid.now c.requires.grid).some c.touched_key.ensures.exact (found_none (address_in v c.touched_key.result) (sym c.get.ensures ∙ c.in_default.is)) took

pub returns-in-Ok-clause-placed : goal.returns-in-Ok-clause-placed
returns-in-Ok-clause-placed c =
    let d = dataset_of c.args.grid.now in
    let v = view_of c.args.index.now in
    let p : ChunkPlace = record { address = c.in-Ok.address; stored = false } in
    let some = (sizes_of c.args.grid.now c.requires.grid).some in
    let defined = taken_defined c.args.places.now c.take.new.self c.in-Ok.address c.chunk_len.result c.in-Ok.ensures.taken c.in-Ok.ensures.live (omega (arith, some, c.chunk_len.ensures.exact)) c.requires.can.small c.requires.can.limit in
    new_placed d v c.args.chunks.now c.touched_key.result p c.touched_key.ensures.exact (found_none (address_in v c.touched_key.result) (sym c.get.ensures ∙ c.in_default.is)) defined refl

pub returns-in-Err-clause-full : goal.returns-in-Err-clause-full
returns-in-Err-clause-full c =
    let d = dataset_of c.args.grid.now in
    let v = view_of c.args.index.now in
    let s = c.args.places.now in
    let refused = refused_so s c.chunk_len.result c.in-Err.field-0 c.in-Err.ensures.refused c.in-Err.ensures.full in
    next_full d v s c.args.chunks.now c.touched_key.result c.in-Err.field-0 c.touched_key.ensures.exact (found_none (address_in v c.touched_key.result) (sym c.get.ensures ∙ c.in_default.is))
    (subst (λ n. IsRefused s n c.in-Err.field-0) c.chunk_len.ensures.exact refused)
