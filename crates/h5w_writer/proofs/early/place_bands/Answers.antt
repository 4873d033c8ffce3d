use Rattle.std.proofs.Common.{arith, ◌≡◌, ◌+◌, ◌-◌, ◌*◌, ◌/◌, ◌<◌, ◌≤◌, List, length, ap, sym, subst, refl, inl, inr, ◌∙◌}
use Rattle.h5w_model.specs.Logs.{div_up}
use Rattle.h5w_model.specs.Tables.{chunks_across}
use Rattle.h5w_space.specs.Space.{Space}
use Rattle.h5w_chunks.specs.Grids.{dataset_of}
use Rattle.h5w_chunks.specs.declared.grid.ChunkPlace.{ChunkPlace}
use Rattle.h5w_chunks.proofs.Geometry.{ceil_is_up, is_cut}
use Rattle.h5w_flush_laws.proofs.NewChunkLemmas.{touched_is}
use Rattle.h5w_index.specs.Held.{view_of}
use Rattle.h5w_index.specs.Naming.{AreTakenBehind}
use Rattle.h5w_index.specs.Views.{address_in}
use Rattle.h5w_index.proofs.BehindLemmas.{behind_laws}
use Rattle.h5w_writer.specs.ChunkPlaces.{AllEarly, CanPlace, IsGrown}
use Rattle.h5w_writer.proofs.ExitLemmas.{no_value}
use Rattle.h5w_writer.proofs.PlaceLemmas.{IsFirstBand, band_inside, can_on, first_kept, full_copied, grid_band, grown_none, grown_on, kept_on, next_band, nothing_taken, placed_row, up_small}
use Rattle.h5w_writer.proofs.TakingLemmas.{on_err}
use Rattle.h5w_writer.proofs.early.place_bands.Goals as goal

pub overflow_add-first : goal.overflow_add-first
overflow_add-first c =
    let d = dataset_of c.args.grid.now in
    let cut = is_cut c.args.grid.now c.requires.grid in
    let first = c.args.grid.now.shape.rows / c.args.grid.now.layout.chunk.0 + c.len.result / c.across.result in
    let b : IsFirstBand d c.args.mid first = grid_band c.args.grid.now c.args.mid c.len.result c.across.result c.requires.grid c.requires.can.fits.some c.requires.first (c.len.ensures ∙ c.args.chunks.now.ok.0 ∙ c.requires.known) c.across.ensures in
    let few = b.bound c.args.to c.requires.order in
    let small = up_small c.args.to d.layout.chunk_rows cut.rows (omega (arith, c.requires.order)) in
    omega (arith, few, small, c.ranges.to.fits)

pub loop-band-init : goal.loop-band-init
loop-band-init c =
    let d = dataset_of c.args.grid.now in
    let first = c.args.grid.now.shape.rows / c.args.grid.now.layout.chunk.0 + c.len.result / c.across.result in
    let b : IsFirstBand d c.args.mid first = grid_band c.args.grid.now c.args.mid c.len.result c.across.result c.requires.grid c.requires.can.fits.some c.requires.first (c.len.ensures ∙ c.args.chunks.now.ok.0 ∙ c.requires.known) c.across.ensures in
    record {
      taken = nothing_taken d (address_in (view_of c.args.index.now)) c.args.chunks.now.items c.args.places.now;
      placed = λ x. x;
      count = c.requires.known ∙ b.count;
      grown = grown_none c.args.places.now c.requires.can.small;
      same = λ e. (refl, refl);
    }

pub place_band-requires : goal.place_band-requires
place_band-requires c =
    let d = dataset_of c.args.grid.now in
    let v = view_of c.args.index.now in
    let cut = is_cut c.args.grid.now c.requires.grid in
    let first = c.args.grid.now.shape.rows / c.args.grid.now.layout.chunk.0 + c.len.result / c.across.result in
    let b : IsFirstBand d c.args.mid first = grid_band c.args.grid.now c.args.mid c.len.result c.across.result c.requires.grid c.requires.can.fits.some c.requires.first (c.len.ensures ∙ c.args.chunks.now.ok.0 ∙ c.requires.known) c.across.ensures in
    let up : c.div_ceil-band-end.result ≡ div_up c.args.to d.layout.chunk_rows = c.div_ceil-band-end.ensures ∙ ceil_is_up c.args.to d.layout.chunk_rows cut.rows in
    let inv = c.loop-band.invariant in
    let from : first ≤ c.loop-band.band = omega (arith, c.loop-band.auto.band) in
    let behind : c.loop-band.band < div_up c.args.to d.layout.chunk_rows = omega (arith, up, c.loop-band-test.true) in
    record {
      grid = c.requires.grid;
      can = subst (λ (s : Space). CanPlace d v c.args.to s) (sym c.in_ok-next.ensures) (can_on d v c.args.to c.args.places.now c.loop-band.places inv.grown c.requires.can);
      behind = band_inside d (length c.loop-band.chunks.items) first c.loop-band.band c.args.to c.requires.can.order b.low from behind inv.count;
    }

pub returns-in_err-next : goal.returns-in_err-next
returns-in_err-next c = record {
  placed = no_value _ _ c.from_residual.result c.from_residual.ensures.1;
  kept = on_err c.from_residual.result
      (first_kept (dataset_of c.args.grid.now) (address_in (view_of c.args.index.now)) c.args.chunks.now.items c.args.places.now c.loop-band.places c.loop-band.chunks.items c.loop-band.invariant.taken);
}

pub returns-in_err-place_band : goal.returns-in_err-place_band
returns-in_err-place_band c =
    let first = first_kept (dataset_of c.args.grid.now) (address_in (view_of c.args.index.now)) c.args.chunks.now.items c.args.places.now c.loop-band.places c.loop-band.chunks.items c.loop-band.invariant.taken in
    record {
      placed = no_value _ _ c.from_residual-in_err-place_band.result c.from_residual-in_err-place_band.ensures.1;
      kept = on_err c.from_residual-in_err-place_band.result (kept_on c.args.chunks.now.items c.loop-band.chunks.items c.place_band.new.chunks.items first c.in_err-place_band.ensures.kept);
    }

pub returns-then-not-branch : goal.returns-then-not-branch
returns-then-not-branch c =
    let d = dataset_of c.args.grid.now in
    let old = address_in (view_of c.args.index.now) in
    let cut = is_cut c.args.grid.now c.requires.grid in
    let first = c.args.grid.now.shape.rows / c.args.grid.now.layout.chunk.0 + c.len.result / c.across.result in
    let b : IsFirstBand d c.args.mid first = grid_band c.args.grid.now c.args.mid c.len.result c.across.result c.requires.grid c.requires.can.fits.some c.requires.first (c.len.ensures ∙ c.args.chunks.now.ok.0 ∙ c.requires.known) c.across.ensures in
    let up : c.div_ceil-band-end.result ≡ div_up c.args.to d.layout.chunk_rows = c.div_ceil-band-end.ensures ∙ ceil_is_up c.args.to d.layout.chunk_rows cut.rows in
    let inv = c.loop-band.invariant in
    let from : first ≤ c.loop-band.band = omega (arith, c.loop-band.auto.band) in
    let behind : c.loop-band.band < div_up c.args.to d.layout.chunk_rows = omega (arith, up, c.loop-band-test.true) in
    let at = placed_row d c.args.mid first c.loop-band.band c.args.to c.max.result cut.rows c.requires.first c.requires.order b from behind c.max.ensures in
    let told = c.in_ok-place_band.ensures.full c.if-not-branch.true in
    record {
      placed = record {
        low = at.low;
        high = at.high;
        whole = at.whole;
        all = ap length told.0 ∙ inv.count ∙ at.all;
        taken = subst (λ (cs : List ChunkPlace). AreTakenBehind d old c.args.chunks.now.items c.args.places.now cs c.loop-band.places) (sym told.0) inv.taken;
        placed = λ before. subst (λ (cs : List ChunkPlace). AllEarly d old cs) (sym told.0) (inv.placed before);
        grown = inv.grown;
        full = λ less. full_copied d old c.loop-band.places c.in_ok-next.next c.loop-band.chunks.items c.place_band.new.chunks.items c.in_ok-next.ensures told.0 told.1;
        same = λ e. let were = inv.same (at.same e) in (told.0 ∙ were.0, were.1);
      };
      kept = tt;
    }

pub loop-band-preserved : goal.loop-band-preserved
loop-band-preserved c =
    let d = dataset_of c.args.grid.now in
    let old = address_in (view_of c.args.index.now) in
    let first = c.args.grid.now.shape.rows / c.args.grid.now.layout.chunk.0 + c.len.result / c.across.result in
    let b : IsFirstBand d c.args.mid first = grid_band c.args.grid.now c.args.mid c.len.result c.across.result c.requires.grid c.requires.can.fits.some c.requires.first (c.len.ensures ∙ c.args.chunks.now.ok.0 ∙ c.requires.known) c.across.ensures in
    let inv = c.loop-band.invariant in
    let from : first ≤ c.loop-band.band = omega (arith, c.loop-band.auto.band) in
    let before = c.loop-band.chunks.items in
    let now = c.place_band.new.chunks.items in
    let t = c.place_band.new.places in
    let x = c.in_ok-place_band.ensures.placed c.if-not-branch.false in
    let copied : c.in_ok-next.next ≡ c.loop-band.places = c.in_ok-next.ensures in
    let own : AreTakenBehind d old before c.loop-band.places now t = subst (λ (s : Space). AreTakenBehind d old before s now t) copied x.taken in
    record {
      taken = behind_laws.behind_again d old c.args.chunks.now.items c.args.places.now c.loop-band.places t before now inv.taken own;
      placed = λ known. x.placed (inv.placed known);
      count = next_band d (length before) (length now) first c.loop-band.band b.low from inv.count x.count;
      grown = grown_on c.args.places.now c.loop-band.places t inv.grown (subst (λ (s : Space). IsGrown s t) copied x.grown);
      same = λ e. absurd (omega (arith, e, from));
    }

pub returns : goal.returns
returns c =
    let d = dataset_of c.args.grid.now in
    let cut = is_cut c.args.grid.now c.requires.grid in
    let first = c.args.grid.now.shape.rows / c.args.grid.now.layout.chunk.0 + c.len.result / c.across.result in
    let b : IsFirstBand d c.args.mid first = grid_band c.args.grid.now c.args.mid c.len.result c.across.result c.requires.grid c.requires.can.fits.some c.requires.first (c.len.ensures ∙ c.args.chunks.now.ok.0 ∙ c.requires.known) c.across.ensures in
    let up : c.div_ceil-band-end.result ≡ div_up c.args.to d.layout.chunk_rows = c.div_ceil-band-end.ensures ∙ ceil_is_up c.args.to d.layout.chunk_rows cut.rows in
    let inv = c.loop-band.invariant in
    let last : c.loop-band.band ≡ div_up c.args.to d.layout.chunk_rows = omega (arith, c.loop-band.auto.band-end, c.loop-band-test.false, up, b.bound c.args.to c.requires.order) in
    record {
      placed = record {
        low = omega (arith, c.requires.order);
        high = omega arith;
        whole = inr (inl refl);
        all = inv.count ∙ ap (λ k. (k - d.shape.rows / d.layout.chunk_rows) * chunks_across d) last ∙ sym (touched_is d d.shape.rows c.args.to c.requires.can.order);
        taken = inv.taken;
        placed = inv.placed;
        grown = inv.grown;
        full = λ less. absurd (omega (arith, less));
        same = λ e. absurd (omega (arith, e, c.requires.order));
      };
      kept = tt;
    }
