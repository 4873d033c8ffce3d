use Rattle.std.proofs.Common.{◌≡◌, ◌+◌, ◌^◌, ◌<◌, List, length, Some, slice_get, ap, ◌∙◌, subst, arith}
use Rattle.h5w_chunks.specs.Grids.{chunk_len, dataset_of}
use Rattle.h5w_chunks.specs.declared.grid.ChunkPlace.{ChunkPlace}
use Rattle.h5w_chunks.proofs.Geometry.{is_cut}
use Rattle.h5w_pieces.specs.NextPlaces.{next_places}
use Rattle.h5w_pieces.proofs.NextPlaces.{places_all, places_count, places_inside}
use Rattle.h5w_pieces.proofs.rows.put_behind.Goals as goal

pub next_places-requires-clause-inside : goal.next_places-requires-clause-inside
next_places-requires-clause-inside c =
    let a = c.args in
    let q = c.requires in
    places_inside (dataset_of a.grid.now) a.grid.now.shape.rows a.mid a.to a.chunks.now (is_cut a.grid.now q.grid) (omega (arith, q.first, q.order, c.if-mid-to.false)) (omega (arith, q.order, c.if-mid-to.false)) q.all

pub put_rows-requires-2-clause-all : goal.put_rows-requires-2-clause-all
put_rows-requires-2-clause-all c =
    let a = c.args in
    let q = c.requires in
    let d = dataset_of a.grid.now in
    let is : c.deref.result.now ≡ next_places d a.grid.now.shape.rows a.mid a.chunks.now = c.deref.ensures.value ∙ c.in_ok-later.ensures.exact in
    ap length is ∙ places_count d a.grid.now.shape.rows a.mid a.to a.chunks.now (is_cut a.grid.now q.grid) q.first (omega (arith, q.order, c.if-mid-to.false)) q.all

pub put_rows-requires-2-clause-ends : goal.put_rows-requires-2-clause-ends
put_rows-requires-2-clause-ends c k p found =
    let a = c.args in
    let q = c.requires in
    let d = dataset_of a.grid.now in
    let is : c.deref.result.now ≡ next_places d a.grid.now.shape.rows a.mid a.chunks.now = c.deref.ensures.value ∙ c.in_ok-later.ensures.exact in
    places_all d a.grid.now.shape.rows a.mid a.chunks.now (λ n. n + chunk_len d < 2 ^ 64) q.ends k p (subst (λ (ps : List ChunkPlace). slice_get ps k ≡ Some p) is found)
