use Rattle.std.proofs.Common.{◌≡◌, ◌<◌, ◌-◌, ◌*◌, ◌^◌, ◌∙◌, ℕ, List, Some, Err, refl, ap, sym, subst, arith}
use Rattle.std.proofs.lemmas.Result.{err_from_is_err_and}
use Rattle.std.specs.List.{slice_get}
use Rattle.h5w_model.specs.Tables.{keys_across}
use Rattle.h5w_chunks.proofs.Geometry.{is_cut}
use Rattle.h5w_chunks.specs.Grids.{dataset_of}
use Rattle.h5w_chunks.specs.declared.grid.ChunkPlace.{ChunkPlace}
use Rattle.h5w_index.specs.Held.{view_of}
use Rattle.h5w_writer.specs.Sessions.{IsSession, IsUnmade, Session, most_lines, next_row, rows_of}
use Rattle.h5w_writer.proofs.SessionFields.{session_of}
use Rattle.h5w_writer.proofs.CarriedLemmas.{can_prepare, same_error}
use Rattle.h5w_writer.proofs.StartCarriedLemmas.{AsksOfMade, asks_of_made, asks_of_start, start_unfilled, start_unplaced}
use Rattle.h5w_space.specs.Space.{Space}
use Rattle.h5w_index.specs.Views.{IndexView}
use Rattle.h5w_writer.specs.Halves.{PlansStart}
use Rattle.h5w_writer.specs.Starts.{IsStartedAt}
use Rattle.h5w_writer.specs.declared.planned.Starting.{Starting}
use Rattle.h5w_writer.proofs.HalfLemmas.{ready_of}
use Rattle.h5w_writer.proofs.TakingLemmas.{shallow_causes}
use Rattle.h5w_writer.proofs.state.WriterCore.plan_starting.Goals as goal

pub returns-in_err-index-clause-full : goal.returns-in_err-index-clause-full
returns-in_err-index-clause-full c full told =
    let i = c.self.inside in
    let v = session_of i in
    let e = c.in_err-index.field-0.0 in
    let gone = err_from_is_err_and c.from_residual.result c.from_residual.ensures.1 in
    let is : c.from_residual.result ≡ Err e = gone.1 ∙ ap (λ x. Err x) gone.2 in
    start_unplaced v c.args.taking.places full (c.requires.places ∙ ap (λ (s : Session). s.places) (sym c.self.view_is)) (c.in_err-index.ensures.full full (same_error e _ (sym is ∙ told))) c.args.self.now c.self.view_is

pub start_index-requires-clause-head : goal.start_index-requires-clause-head
start_index-requires-clause-head c =
    let i = c.self.inside in
    let v = session_of i in
    (asks_of_start v c.args.taking.places c.self.invariant.0 (subst IsUnmade (sym c.self.view_is) c.requires.unmade) (c.requires.places ∙ ap (λ (s : Session). s.places) (sym c.self.view_is))).head

pub start_index-requires-clause-tree : goal.start_index-requires-clause-tree
start_index-requires-clause-tree c =
    let i = c.self.inside in
    let v = session_of i in
    (asks_of_start v c.args.taking.places c.self.invariant.0 (subst IsUnmade (sym c.self.view_is) c.requires.unmade) (c.requires.places ∙ ap (λ (s : Session). s.places) (sym c.self.view_is))).tree

-- what the places of the flush ask for, of the index that is made
asks_by : (c : goal.After-index-2-1) → AsksOfMade (session_of c.self.inside) c.rows-to.result (view_of c.in_ok-index.index) c.start_index.new.places
asks_by c =
    let v = session_of c.self.inside in
    let to_is : c.rows-to.result ≡ rows_of v = c.rows-to.ensures.value ∙ ap rows_of (sym c.self.view_is) in
    asks_of_made v c.rows-to.result c.args.taking.places c.in_ok-index.at (view_of c.in_ok-index.index) c.start_index.new.places c.self.invariant.0 (subst IsUnmade (sym c.self.view_is) c.requires.unmade) to_is
    (c.requires.places ∙ ap (λ (s : Session). s.places) (sym c.self.view_is)) c.in_ok-index.ensures.kind c.in_ok-index.ensures.started

pub prepare-requires-clause-can : goal.prepare-requires-clause-can
prepare-requires-clause-can c =
    let i = c.self.inside in
    let v = session_of i in
    let is : IsSession v = c.self.invariant.0 in
    let back = sym c.self.view_is in
    let asks = asks_by c in
    let to_is : c.rows-to.result ≡ rows_of v = c.rows-to.ensures.value ∙ ap rows_of back in
    let waits : 0 < v.waits = subst (λ (s : Session). 0 < s.waits) back c.requires.waits in
    can_prepare v is (is_cut i.grid c.self.invariant.1) waits (view_of c.in_ok-index.index) c.next_row-mid.result c.rows-to.result c.as_slice.result.now c.deref.result.now c.start_index.new.places (c.next_row-mid.ensures.exact ∙ ap next_row back) to_is
    c.as_slice.ensures c.deref.ensures.value asks.sound asks.fits asks.takes asks.inside asks.small asks.limit asks.placed asks.ends

pub returns-in-Err-clause-causes : goal.returns-in-Err-clause-causes
returns-in-Err-clause-causes c =
    let d = dataset_of c.self.inside.grid in
    let e = c.in-Err.e in
    shallow_causes {T = Starting} e (Err e) refl c.in-Err.ensures.causes (λ deep. (c.in-Err.ensures.deep (ap Err deep)).cramped (c.in_ok-index.ensures.within (most_lines d) (keys_across d)))

pub returns-in-Err-clause-full : goal.returns-in-Err-clause-full
returns-in-Err-clause-full c full told =
    let i = c.self.inside in
    let v = session_of i in
    let to = c.rows-to.result in
    let to_is : to ≡ rows_of v = c.rows-to.ensures.value ∙ ap rows_of (sym c.self.view_is) in
    start_unfilled v to c.args.taking.places c.in_ok-index.at (view_of c.in_ok-index.index) c.start_index.new.places full to_is (c.requires.places ∙ ap (λ (s : Session). s.places) (sym c.self.view_is)) c.in_ok-index.ensures.kind
    c.in_ok-index.ensures.started c.deref.result.now c.deref.ensures.value (c.in-Err.ensures.full full (same_error c.in-Err.e _ told)) c.args.self.now c.self.view_is

pub returns-in-Ok-clause-start : goal.returns-in-Ok-clause-start
returns-in-Ok-clause-start c =
    let i = c.self.inside in
    let v = session_of i in
    let back = sym c.self.view_is in
    let places_are : c.args.taking.places ≡ v.places = c.requires.places ∙ ap (λ (s : Session). s.places) back in
    let made : IndexView = view_of c.in_ok-index.index in
    let p : Starting = record { prepared = c.in-Ok.prepared; index = c.prepare.new.index; at = c.in_ok-index.at; places = c.prepare.new.taking.places } in
    let own : PlansStart v p = record {
      session = c.self.invariant.0;
      unmade = subst IsUnmade back c.requires.unmade;
      waits = subst (λ (s : Session). 0 < s.waits) back c.requires.waits;
      first = c.start_index.new.places;
      made = made;
      kind = c.in_ok-index.ensures.kind;
      start = subst (λ (s : Space). IsStartedAt v.dataset.layout.address s c.in_ok-index.at made c.start_index.new.places) places_are c.in_ok-index.ensures.started;
      added = c.prepare.new.taking.added.items;
      ready =
          ready_of v made c.start_index.new.places c.next_row-mid.result c.rows-to.result c.as_slice.result.now c.deref.result.now c.start_index.new.places c.in-Ok.prepared c.prepare.new.taking.chunks.items
          c.prepare.new.taking.added.items (view_of c.prepare.new.index) c.prepare.new.taking.places (c.next_row-mid.ensures.exact ∙ ap next_row back) (c.rows-to.ensures.value ∙ ap rows_of back) c.as_slice.ensures
          c.deref.ensures.value refl c.prepare.ensures.roomy c.in-Ok.ensures.prepared;
    } in
    subst (λ (s : Session). PlansStart s p) c.self.view_is own
