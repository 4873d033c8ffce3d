use Rattle.std.proofs.Common.{arith, ◌≡◌, [], ◌∷◌, ◌++◌, List, length, length-append, ap, sym, subst, ◌∙◌}
use Rattle.h5w_space.specs.Space.{Space}
use Rattle.h5w_chunks.specs.Grids.{dataset_of}
use Rattle.h5w_chunks.specs.declared.grid.ChunkPlace.{ChunkPlace}
use Rattle.h5w_flush_laws.specs.EarlyRows.{IsEarlyPlace}
use Rattle.h5w_index.specs.Held.{view_of}
use Rattle.h5w_index.specs.Naming.{AreTakenBehind}
use Rattle.h5w_index.specs.Views.{address_in}
use Rattle.h5w_index.proofs.BehindLemmas.{behind_laws}
use Rattle.h5w_writer.specs.ChunkPlaces.{AllEarly}
use Rattle.h5w_writer.proofs.ExitLemmas.{no_value}
use Rattle.h5w_writer.proofs.PlaceLemmas.{can_on, early_pushed, first_kept, grown_none, grown_on, nothing_taken}
use Rattle.h5w_writer.proofs.TakingLemmas.{on_err}
use Rattle.h5w_writer.proofs.early.place_band.Goals as goal

pub across-end-requires : goal.across-end-requires
across-end-requires c = c.requires.grid

pub loop-init : goal.loop-init
loop-init c = record {
  taken = nothing_taken (dataset_of c.args.grid.now) (address_in (view_of c.args.index.now)) c.args.chunks.now.items c.args.places.now;
  placed = λ x. x;
  count = omega arith;
  grown = grown_none c.args.places.now c.requires.can.small;
}

pub next_place-requires : goal.next_place-requires
next_place-requires c =
    let own = ap length c.deref.ensures.value in
    record {
      grid = c.requires.grid;
      can = can_on (dataset_of c.args.grid.now) (view_of c.args.index.now) c.args.to c.args.places.now c.loop.places c.loop.invariant.grown c.requires.can;
      behind = omega (arith, own, c.loop.invariant.count, c.loop-test.true, c.across-end.ensures, c.requires.behind);
    }

pub loop-preserved : goal.loop-preserved
loop-preserved c =
    let d = dataset_of c.args.grid.now in
    let old = address_in (view_of c.args.index.now) in
    let inv = c.loop.invariant in
    let first = c.args.chunks.now.items in
    let chunks = c.loop.chunks.items in
    let p : ChunkPlace = c.in-Some.place in
    let own : c.deref.result.now ≡ chunks = c.deref.ensures.value in
    let pushed : c.push.new.self.items ≡ chunks ++ p ∷ [] = c.in_ok-push-in-Some.ensures.items in
    let step : AreTakenBehind d old chunks c.loop.places (chunks ++ p ∷ []) c.next_place.new.places = subst (λ (cs : List ChunkPlace). AreTakenBehind d old cs c.loop.places (cs ++ p ∷ []) c.next_place.new.places) own c.in-Some.ensures.taken in
    let here : IsEarlyPlace d old d.shape.rows (length chunks) p = subst (λ (cs : List ChunkPlace). IsEarlyPlace d old d.shape.rows (length cs) p) own c.in-Some.ensures.placed in
    record {
      taken = subst (λ (cs : List ChunkPlace). AreTakenBehind d old first c.args.places.now cs c.next_place.new.places) (sym pushed)
          (behind_laws.behind_again d old first c.args.places.now c.loop.places c.next_place.new.places chunks (chunks ++ p ∷ []) inv.taken step);
      placed = λ before. subst (λ (cs : List ChunkPlace). AllEarly d old cs) (sym pushed) (early_pushed d old chunks p here (inv.placed before));
      count = omega (arith, ap length pushed, length-append chunks (p ∷ []), inv.count);
      grown = grown_on c.args.places.now c.loop.places c.next_place.new.places inv.grown c.in-Some.ensures.grown;
    }
