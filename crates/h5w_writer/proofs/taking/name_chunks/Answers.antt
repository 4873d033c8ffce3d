use Rattle.std.proofs.Common.{rules, ◌≡◌, ◌∙◌, [], List, length, sym, refl, subst, arith, ap, Err}
use Rattle.std.proofs.lemmas.Result.{err_from_is_err_and}
use Rattle.std.proofs.lemmas.List.{take_all}
use Rattle.h5w_model.specs.Logs.{div_up}
use Rattle.h5w_model.specs.Tables.{keys_across}
use Rattle.h5w_model.specs.declared.cell.Key.{Key}
use Rattle.h5w_chunks.specs.Grids.{dataset_of}
use Rattle.h5w_chunks.specs.Shares.{first_line}
use Rattle.h5w_chunks.specs.declared.grid.ChunkPlace.{ChunkPlace}
use Rattle.h5w_chunks.proofs.Geometry.{is_cut}
use Rattle.h5w_index.specs.Held.{view_of}
use Rattle.h5w_index.specs.Naming.{AreNamed}
use Rattle.h5w_index.specs.Steps.{IsDeep}
use Rattle.h5w_index.proofs.NamingLemmas.{naming_laws}
use Rattle.h5w_writer.specs.Sessions.{most_lines}
use Rattle.h5w_writer.proofs.TakingLemmas.{absent_before, early_next, line_below, not_deep, on_err, taken_long}
use Rattle.h5w_writer.proofs.taking.name_chunks.Goals as goal

pub loop-place-init : goal.loop-place-init
loop-place-init c =
    let d = dataset_of c.args.grid.now in
    let v = view_of c.args.index.now in
    record {
      chunks = c.requires.no_chunks;
      named = subst (λ (ps : List ChunkPlace). AreNamed d c.args.to v ps c.args.taking.now.added.items v) (sym c.requires.no_chunks)
          (subst (λ (ks : List Key). AreNamed d c.args.to v [] ks v) (sym c.requires.none_added) (naming_laws.named_none d c.args.to v c.requires.sound));
      places = refl;
      roomy = λ r. r;
    }

pub touched_key-key-requires-clause-known : goal.touched_key-key-requires-clause-known
touched_key-key-requires-clause-known c =
    let l = c.loop-place in
    let long : length l.taking.chunks.items ≡ l.place-index = taken_long c.args.early.now l.taking.chunks.items l.place-index l.invariant.chunks (omega (arith, c.loop-place-test.true)) in
    let count : c.len.result ≡ length l.taking.chunks.items = search rules in
    omega (arith, long, count, c.loop-place-test.true, c.requires.known)

pub name_chunk-requires-clause-sound : goal.name_chunk-requires-clause-sound
name_chunk-requires-clause-sound c = c.loop-place.invariant.named.partly.like.sound

pub name_chunk-requires-clause-takes : goal.name_chunk-requires-clause-takes
name_chunk-requires-clause-takes c =
    let d = dataset_of c.args.grid.now in
    let l = c.loop-place in
    let key = c.touched_key-key.result in
    let count : c.len.result ≡ length l.taking.chunks.items = search rules in
    let step = early_next d c.args.to l.place-index c.len.result (view_of c.args.index.now) c.args.early.now key l.taking.chunks.items (is_cut c.args.grid.now c.requires.grid) c.requires.known c.requires.early l.invariant.chunks
    c.loop-place-test.true count c.touched_key-key.ensures.exact in
    l.invariant.named.partly.like.takes key (c.requires.takes key step.next.row)

pub name_chunk-requires-clause-defined : goal.name_chunk-requires-clause-defined
name_chunk-requires-clause-defined c =
    let d = dataset_of c.args.grid.now in
    let l = c.loop-place in
    let key = c.touched_key-key.result in
    let count : c.len.result ≡ length l.taking.chunks.items = search rules in
    let step = early_next d c.args.to l.place-index c.len.result (view_of c.args.index.now) c.args.early.now key l.taking.chunks.items (is_cut c.args.grid.now c.requires.grid) c.requires.known c.requires.early l.invariant.chunks
    c.loop-place-test.true count c.touched_key-key.ensures.exact in
    step.place.defined

pub returns-in_err-name_chunk-clause-places : goal.returns-in_err-name_chunk-clause-places
returns-in_err-name_chunk-clause-places c = c.name_chunk.ensures.places ∙ c.loop-place.invariant.places

pub returns-in_err-name_chunk-clause-partly : goal.returns-in_err-name_chunk-clause-partly
returns-in_err-name_chunk-clause-partly c =
    let d = dataset_of c.args.grid.now in
    let l = c.loop-place in
    let v = view_of c.args.index.now in
    let key = c.touched_key-key.result in
    let count : c.len.result ≡ length l.taking.chunks.items = search rules in
    let step = early_next d c.args.to l.place-index c.len.result v c.args.early.now key l.taking.chunks.items (is_cut c.args.grid.now c.requires.grid) c.requires.known c.requires.early l.invariant.chunks
    c.loop-place-test.true count c.touched_key-key.ensures.exact in
    on_err c.from_residual.result (c.in_err-name_chunk.ensures.partly d c.args.to v l.invariant.named.partly step.next.touched_is)

pub returns-in_err-name_chunk-clause-roomy : goal.returns-in_err-name_chunk-clause-roomy
returns-in_err-name_chunk-clause-roomy c r =
    let d = dataset_of c.args.grid.now in
    let l = c.loop-place in
    let v = view_of c.args.index.now in
    let key = c.touched_key-key.result in
    let count : c.len.result ≡ length l.taking.chunks.items = search rules in
    let step = early_next d c.args.to l.place-index c.len.result v c.args.early.now key l.taking.chunks.items (is_cut c.args.grid.now c.requires.grid) c.requires.known c.requires.early l.invariant.chunks
    c.loop-place-test.true count c.touched_key-key.ensures.exact in
    c.name_chunk.ensures.within (most_lines d) (keys_across d) (line_below key.i (first_line d (div_up c.args.to d.layout.chunk_rows)) (most_lines d) step.next.row c.requires.few) step.next.column (l.invariant.roomy r)

pub returns-in_err-name_chunk-clause-deep : goal.returns-in_err-name_chunk-clause-deep
returns-in_err-name_chunk-clause-deep c is =
    let d = dataset_of c.args.grid.now in
    let l = c.loop-place in
    let v = view_of c.args.index.now in
    let w = view_of l.index in
    let inv = l.invariant in
    let chunks = l.taking.chunks.items in
    let added = l.taking.added.items in
    let key = c.touched_key-key.result in
    let count : c.len.result ≡ length chunks = search rules in
    let step = early_next d c.args.to l.place-index c.len.result v c.args.early.now key chunks (is_cut c.args.grid.now c.requires.grid) c.requires.known c.requires.early inv.chunks
    c.loop-place-test.true count c.touched_key-key.ensures.exact in
    let gone = err_from_is_err_and c.from_residual.result c.from_residual.ensures.1 in
    let same : c.name_chunk.result ≡ c.from_residual.result = c.in_err-name_chunk.was ∙ sym (gone.1 ∙ ap (λ x. Err x) gone.2) in
    let told = c.name_chunk.ensures.deep (same ∙ is) in
    record {
      chunks = chunks;
      added = added;
      w = w;
      named = inv.named;
      inside = step.next.inside;
      absent = absent_before d c.args.to v w chunks added key c.requires.fits inv.named step.next.number told.0;
      deep = subst (IsDeep w) step.next.number told.1;
      cramped = λ r. not_deep d key w inv.named.partly.like.sound (inv.roomy r) told.1;
    }

pub loop-place-preserved : goal.loop-place-preserved
loop-place-preserved c =
    let d = dataset_of c.args.grid.now in
    let l = c.loop-place in
    let v = view_of c.args.index.now in
    let inv = l.invariant in
    let chunks = l.taking.chunks.items in
    let key = c.touched_key-key.result in
    let count : c.len.result ≡ length chunks = search rules in
    let step = early_next d c.args.to l.place-index c.len.result v c.args.early.now key chunks (is_cut c.args.grid.now c.requires.grid) c.requires.known c.requires.early inv.chunks
    c.loop-place-test.true count c.touched_key-key.ensures.exact in
    record {
      chunks = c.in_ok-name_chunk.ensures.chunks ∙ step.pushed;
      named = c.in_ok-name_chunk.ensures.named d c.args.to v c.requires.fits step.next.number step.next.inside step.place inv.named;
      places = c.name_chunk.ensures.places ∙ inv.places;
      roomy = λ r. c.name_chunk.ensures.within (most_lines d) (keys_across d) (line_below key.i (first_line d (div_up c.args.to d.layout.chunk_rows)) (most_lines d) step.next.row c.requires.few) step.next.column (inv.roomy r);
    }

pub returns-clause-sound : goal.returns-clause-sound
returns-clause-sound c = c.loop-place.invariant.named.partly.like.sound

pub returns-clause-chunks : goal.returns-clause-chunks
returns-clause-chunks c = c.loop-place.invariant.chunks ∙ take_all c.loop-place.place-index c.args.early.now (omega (arith, c.loop-place-test.false))

pub returns-clause-named : goal.returns-clause-named
returns-clause-named c =
    let d = dataset_of c.args.grid.now in
    let l = c.loop-place in
    let all : l.taking.chunks.items ≡ c.args.early.now = l.invariant.chunks ∙ take_all l.place-index c.args.early.now (omega (arith, c.loop-place-test.false)) in
    subst (λ (ps : List ChunkPlace). AreNamed d c.args.to (view_of c.args.index.now) ps l.taking.added.items (view_of l.index)) all l.invariant.named

pub returns-clause-places : goal.returns-clause-places
returns-clause-places c = c.loop-place.invariant.places

pub returns-clause-roomy : goal.returns-clause-roomy
returns-clause-roomy c = c.loop-place.invariant.roomy
