use Rattle.std.proofs.Common.{rules, ◌≡◌, false, ◌||◌, ◌-◌, ◌*◌, ◌/◌, ◌<◌, drop, get_or, length, nat_lt, take, ap, ◌∙◌, arith, take_all, length-drop, length-take}
use Rattle.h5w_model.specs.Tables.{chunks_across}
use Rattle.h5w_chunks.specs.Early.{band_row, shift_of}
use Rattle.h5w_chunks.specs.Grids.{dataset_of}
use Rattle.h5w_chunks.specs.declared.grid.ChunkPlace.{ChunkPlace}
use Rattle.h5w_chunks.proofs.Geometry.{is_cut}
use Rattle.h5w_pieces.proofs.NextPlaces.{begun_none, begun_some, next_all, next_more, places_next, stored_before, stored_now}
use Rattle.h5w_pieces.proofs.rows.next_places.Goals as goal
use Rattle.h5w_pieces.proofs.rows.next_places.Goals.{then-mid-rows-gt0, else-mid-rows-gt0, then-place, else-place}

abbrev none : ChunkPlace
none = record { address = 0; stored = false }

pub loop-k-preserved : goal.loop-k-preserved
loop-k-preserved c =
    let a = c.args in
    let d = dataset_of a.grid.now in
    let k = c.loop-k.k in
    let skip = (a.mid / a.grid.now.layout.chunk.0 - a.grid.now.shape.rows / a.grid.now.layout.chunk.0) * c.across-across.result in
    let ps = take (length a.chunks.now - skip) (drop skip a.chunks.now) in
    let p = get_or ps k none in
    let cut = is_cut a.grid.now c.requires.grid in
    let inside : k < length ps = c.loop-k-test.true in
    let some : 0 < chunks_across d = c.requires.some (omega (arith, inside, length-take (length a.chunks.now - skip) (drop skip a.chunks.now), length-drop skip a.chunks.now)) in
    let begun : nat_lt k c.if-mid-rows-gt0.begun ≡ nat_lt (band_row d a.mid k) a.mid = elim c.if-mid-rows-gt0.branch [
      | then-mid-rows-gt0 w ↦ begun_some d a.mid k c.if-mid-rows-gt0.begun cut (w.if-mid-rows-gt0.true) (w.begun-is ∙ c.across-across.ensures) some
      | else-mid-rows-gt0 w ↦ begun_none d a.mid k c.if-mid-rows-gt0.begun (omega (arith, w.if-mid-rows-gt0.false)) w.begun-is
    ] in
    let stored : c.if-place.push_reserved ≡ (nat_lt (band_row d a.mid k) a.mid || p.stored) = elim c.if-place.branch [
      | then-place w ↦ stored_before (nat_lt (band_row d a.mid k) a.mid) p.stored c.if-place.push_reserved w.push_reserved-is w.if-place.true
      | else-place w ↦ stored_now (nat_lt (band_row d a.mid k) a.mid) p.stored c.if-place.push_reserved (w.push_reserved-is ∙ begun) w.if-place.false
    ] in
    (next_more d a.mid k ps c.loop-k.places.items c.push_reserved.new.self.items _ (record { address = p.address; stored = c.if-place.push_reserved }) none inside (ap (λ b. let q : ChunkPlace = record { address = p.address; stored = b } in q) stored) c.push_reserved.ensures.items c.loop-k.invariant.0, search rules, search rules)

pub returns : goal.returns
returns c =
    let a = c.args in
    let d = dataset_of a.grid.now in
    let skip = (a.mid / a.grid.now.layout.chunk.0 - a.grid.now.shape.rows / a.grid.now.layout.chunk.0) * c.across-across.result in
    let ps = take (length a.chunks.now - skip) (drop skip a.chunks.now) in
    let across : skip ≡ shift_of d a.grid.now.shape.rows a.mid = ap (λ n. (a.mid / a.grid.now.layout.chunk.0 - a.grid.now.shape.rows / a.grid.now.layout.chunk.0) * n) c.across-across.ensures in
    let whole : ps ≡ drop skip a.chunks.now = take_all (length a.chunks.now - skip) (drop skip a.chunks.now) (omega (arith, length-drop skip a.chunks.now)) in
    record { exact = places_next d a.grid.now.shape.rows a.mid skip ps a.chunks.now c.loop-k.places.items c.requires.order across whole (next_all d a.mid c.loop-k.k ps c.loop-k.places.items _ (omega (arith, c.loop-k-test.false)) c.loop-k.invariant.0) }
