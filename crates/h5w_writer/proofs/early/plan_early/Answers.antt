use Rattle.std.proofs.Common.{arith, ◌≡◌, ◌-◌, ◌*◌, ◌<◌, ◌≤◌, Err, List, length, take, ap, sym, subst, refl, ◌∙◌, ℕ, Some}
use Rattle.std.specs.List.{slice_get}
use Rattle.std.proofs.lemmas.List.{take_all}
use Rattle.h5w_space.specs.Space.{Space}
use Rattle.h5w_chunks.specs.Grids.{chunk_len, dataset_of}
use Rattle.h5w_chunks.specs.Rows.{RowsWritten}
use Rattle.h5w_chunks.specs.declared.grid.ChunkPlace.{ChunkPlace}
use Rattle.h5w_chunks.proofs.Geometry.{is_cut}
use Rattle.h5w_image.specs.declared.fault.ImageError.TheVariants.{Failed, OutOfMemory}
use Rattle.h5w_image.proofs.ViewLemmas.{same_itself}
use Rattle.h5w_index.specs.Held.{view_of}
use Rattle.h5w_index.specs.Views.{address_in}
use Rattle.h5w_pieces.specs.NextPlaces.{next_places, writes_behind}
use Rattle.h5w_writer.specs.ChunkPlaces.{AreBandsPlaced, CanPlace}
use Rattle.h5w_writer.proofs.ExitLemmas.{no_value, told_error}
use Rattle.h5w_writer.proofs.PlaceLemmas.{first_kept}
use Rattle.h5w_writer.proofs.PlanLemmas.{behind_pieces, behind_some, chunk_ends, few_touched, plan_bytes}
use Rattle.h5w_writer.proofs.TakingLemmas.{on_err}
use Rattle.h5w_writer.proofs.early.plan_early.Goals as goal

pub place_bands-requires : goal.place_bands-requires
place_bands-requires g c = record {
  grid = c.requires.grid;
  can = subst (λ (s : Space). CanPlace (dataset_of c.args.grid.now) (view_of c.args.index.now) c.args.to s) (sym c.in_ok-places.ensures) c.requires.can;
  first = c.requires.first;
  order = c.requires.order;
  known = c.requires.known;
}

pub overflow_mul-bytes : goal.overflow_mul-bytes
overflow_mul-bytes g c =
    let d = dataset_of c.args.grid.now in
    let row = c.in_ok-row.row in
    let x = c.in_ok-row.ensures.placed in
    let n = plan_bytes d c.args.cells.now c.args.mid row c.args.to d.int_type.size (is_cut c.args.grid.now c.requires.grid) refl x.high c.requires.chunks c.requires.count in
    omega (arith, n.cols)

pub overflow_mul-bytes-2 : goal.overflow_mul-bytes-2
overflow_mul-bytes-2 g c =
    let d = dataset_of c.args.grid.now in
    let row = c.in_ok-row.row in
    let x = c.in_ok-row.ensures.placed in
    let n = plan_bytes d c.args.cells.now c.args.mid row c.args.to c.from.result (is_cut c.args.grid.now c.requires.grid) c.from.ensures x.high c.requires.chunks c.requires.count in
    omega (arith, n.small)

pub slice_bounds-put_behind-end : goal.slice_bounds-put_behind-end
slice_bounds-put_behind-end g c =
    let d = dataset_of c.args.grid.now in
    let row = c.in_ok-row.row in
    let x = c.in_ok-row.ensures.placed in
    let n = plan_bytes d c.args.cells.now c.args.mid row c.args.to c.from.result (is_cut c.args.grid.now c.requires.grid) c.from.ensures x.high c.requires.chunks c.requires.count in
    sym n.long

pub put_behind-requires : goal.put_behind-requires
put_behind-requires g c =
    let d = dataset_of c.args.grid.now in
    let row = c.in_ok-row.row in
    let x = c.in_ok-row.ensures.placed in
    let n = plan_bytes d c.args.cells.now c.args.mid row c.args.to c.from.result (is_cut c.args.grid.now c.requires.grid) c.from.ensures x.high c.requires.chunks c.requires.count in
    let own : c.deref.result.now ≡ c.place_bands.new.chunks.items = c.deref.ensures.value in
    let copied = ap (λ (s : Space). s.end) c.in_ok-places.ensures in
    let ends = chunk_ends d (address_in (view_of c.args.index.now)) c.args.chunks.now.items c.in_ok-places.places c.place_bands.new.places c.place_bands.new.chunks.items x.taken (λ j q known. omega (arith, copied, c.requires.ends j q known)) in
    let small = x.grown.small in
    record {
      grid = c.requires.grid;
      first = c.requires.first;
      order = x.low;
      count = n.long ∙ n.same;
      all = ap length own ∙ x.all;
      few = omega (arith, ap length own, x.all, few_touched d d.shape.rows row c.args.to (is_cut c.args.grid.now c.requires.grid) x.high c.requires.chunks);
      ends = λ k p at. omega (arith, ends k p (subst (λ (cs : List ChunkPlace). slice_get cs k ≡ Some p) own at), small);
    }

pub returns-in_err-places : goal.returns-in_err-places
returns-in_err-places g c =
    let r = c.from_residual.result in
    let gone = c.from_residual.ensures.1 in
    record {
      placed = no_value _ _ r gone;
      writes = no_value _ _ r gone;
      list = no_value _ _ r gone;
      kept = on_err r (take_all (length c.args.chunks.now.items) c.args.chunks.now.items (omega arith));
      image = same_itself (g.W.PieceRead.view c.args.image.now);
      pieces = no_value _ _ r gone;
      reserved = no_value _ _ r gone;
      fault = λ told. let clash : OutOfMemory ≡ Failed = told_error r OutOfMemory Failed gone told in absurd cc;
    }

pub returns-in_err-row : goal.returns-in_err-row
returns-in_err-row g c =
    let r = c.from_residual-in_err-row.result in
    let gone = c.from_residual-in_err-row.ensures.1 in
    record {
      placed = no_value _ _ r gone;
      writes = no_value _ _ r gone;
      list = no_value _ _ r gone;
      kept = on_err r c.in_err-row.ensures.kept;
      image = same_itself (g.W.PieceRead.view c.args.image.now);
      pieces = no_value _ _ r gone;
      reserved = no_value _ _ r gone;
      fault = λ told. let clash : OutOfMemory ≡ Failed = told_error r OutOfMemory Failed gone told in absurd cc;
    }

pub returns-in_err-writes : goal.returns-in_err-writes
returns-in_err-writes g c =
    let r = c.from_residual-in_err-writes.result in
    let gone = c.from_residual-in_err-writes.ensures.1 in
    record {
      placed = no_value _ _ r gone;
      writes = no_value _ _ r gone;
      list = no_value _ _ r gone;
      kept = on_err r (first_kept (dataset_of c.args.grid.now) (address_in (view_of c.args.index.now)) c.args.chunks.now.items c.in_ok-places.places c.place_bands.new.places c.place_bands.new.chunks.items c.in_ok-row.ensures.placed.taken);
      image = same_itself (g.W.PieceRead.view c.args.image.now);
      pieces = no_value _ _ r gone;
      reserved = no_value _ _ r gone;
      fault = λ told. let clash : OutOfMemory ≡ Failed = told_error r OutOfMemory Failed gone told in absurd cc;
    }

pub returns-in_err-reserve : goal.returns-in_err-reserve
returns-in_err-reserve g c =
    let r = c.from_residual-in_err-reserve.result in
    let gone = c.from_residual-in_err-reserve.ensures.1 in
    record {
      placed = no_value _ _ r gone;
      writes = no_value _ _ r gone;
      list = no_value _ _ r gone;
      kept = on_err r (first_kept (dataset_of c.args.grid.now) (address_in (view_of c.args.index.now)) c.args.chunks.now.items c.in_ok-places.places c.place_bands.new.places c.place_bands.new.chunks.items c.in_ok-row.ensures.placed.taken);
      image = c.reserve.ensures.same;
      pieces = no_value _ _ r gone;
      reserved = no_value _ _ r gone;
      fault = λ told. c.reserve.ensures.cause (c.in_err-reserve.was ∙ ap (λ x. Err x) (told_error r c.in_err-reserve.field-0.0 Failed gone told));
    }

pub returns : goal.returns
returns g c =
    let d = dataset_of c.args.grid.now in
    let row = c.in_ok-row.row in
    let x = c.in_ok-row.ensures.placed in
    let n = plan_bytes d c.args.cells.now c.args.mid row c.args.to c.from.result (is_cut c.args.grid.now c.requires.grid) c.from.ensures x.high c.requires.chunks c.requires.count in
    let own : c.deref.result.now ≡ c.place_bands.new.chunks.items = c.deref.ensures.value in
    let chunks = c.place_bands.new.chunks.items in
    let ws = c.in_ok-writes.writes.items in
    let bytes = (row - c.args.mid) * c.args.grid.now.shape.cols * c.from.result in
    let cells = take bytes c.args.cells.now in
    let exact : ws ≡ writes_behind d cells d.shape.rows c.args.mid row chunks = subst (λ (cs : List ChunkPlace). ws ≡ writes_behind d cells d.shape.rows c.args.mid row cs) own c.in_ok-writes.ensures.exact in
    let does : c.args.mid < row → RowsWritten d cells c.args.mid row (next_places d d.shape.rows c.args.mid chunks) ws =
    subst (λ (cs : List ChunkPlace). c.args.mid < row → RowsWritten d cells c.args.mid row (next_places d d.shape.rows c.args.mid cs) ws) own c.in_ok-writes.ensures.does in
    let copied = ap (λ (s : Space). s.end) c.in_ok-places.ensures in
    let ends = chunk_ends d (address_in (view_of c.args.index.now)) c.args.chunks.now.items c.in_ok-places.places c.place_bands.new.places chunks x.taken (λ j q known. omega (arith, copied, c.requires.ends j q known)) in
    let pieces = c.in_ok-reserve.ensures.pieces in
    record {
      placed = subst (λ (s : Space). AreBandsPlaced d (address_in (view_of c.args.index.now)) c.args.mid c.args.to c.args.chunks.now.items s row chunks c.place_bands.new.places) c.in_ok-places.ensures x;
      writes = record {
        exact = subst (λ (k : ℕ). ws ≡ writes_behind d (take k c.args.cells.now) d.shape.rows c.args.mid row chunks) n.is exact;
        does = λ some. subst (λ (k : ℕ). RowsWritten d (take k c.args.cells.now) c.args.mid row (next_places d d.shape.rows c.args.mid chunks) ws) n.is (does some);
        bytes = n.is;
        inside = n.inside;
        sized = behind_pieces d cells d.shape.rows c.args.mid row c.place_bands.new.places.end chunks ws ends exact does;
        some = λ some none. behind_some d cells d.shape.rows c.args.mid row chunks ws (is_cut c.args.grid.now c.requires.grid) c.requires.can.fits.some c.requires.first some (n.long ∙ n.same) x.all exact none;
      };
      list = let room = c.in_ok-writes.ensures.room in omega (arith, room);
      kept = tt;
      image = c.reserve.ensures.same;
      pieces = omega (arith, pieces, c.len.ensures);
      reserved = omega (arith, c.in_ok-reserve.ensures.end, c.end.ensures);
      fault = λ told. absurd cc;
    }
