use Rattle.std.proofs.Common.{rules, ◌≡◌, length, ◌∙◌, subst, arith, ap, Err, sym}
use Rattle.std.proofs.lemmas.Result.{err_from_is_err_and}
use Rattle.h5w_model.specs.Logs.{div_up}
use Rattle.h5w_model.specs.Tables.{keys_across}
use Rattle.h5w_chunks.specs.Grids.{dataset_of}
use Rattle.h5w_chunks.specs.Shares.{first_line}
use Rattle.h5w_chunks.proofs.Geometry.{is_cut}
use Rattle.h5w_index.specs.Held.{view_of}
use Rattle.h5w_index.specs.Steps.{IsDeep}
use Rattle.h5w_writer.specs.Sessions.{most_lines}
use Rattle.h5w_writer.proofs.TakingLemmas.{absent_before, line_below, lines_small, next_in, not_deep, on_err}
use Rattle.h5w_writer.proofs.taking.place_chunks.Goals as goal

-- an array counts all chunks, which are few
pub touched_key-key-requires-clause-lines : goal.touched_key-key-requires-clause-lines
touched_key-key-requires-clause-lines c =
    let d = dataset_of c.args.grid.now in
    lines_small d (first_line d (div_up c.args.to d.layout.chunk_rows)) c.requires.few

pub place_chunk-requires-clause-sound : goal.place_chunk-requires-clause-sound
place_chunk-requires-clause-sound c = c.loop-k.invariant.sound

pub place_chunk-requires-clause-takes : goal.place_chunk-requires-clause-takes
place_chunk-requires-clause-takes c =
    let d = dataset_of c.args.grid.now in
    let inv = c.loop-k.invariant in
    let key = c.touched_key-key.result in
    let next = next_in d c.args.to c.loop-k.k c.touched-k-end.result key c.touched_band-band.result c.loop-k.taking.chunks.items (is_cut c.args.grid.now c.requires.grid) c.touched-k-end.ensures c.loop-k-test.true inv.count c.touched_key-key.ensures.exact c.touched_band-band.ensures in
    inv.takes key next.row

pub place_chunk-requires-clause-row : goal.place_chunk-requires-clause-row
place_chunk-requires-clause-row c =
    let d = dataset_of c.args.grid.now in
    let inv = c.loop-k.invariant in
    let key = c.touched_key-key.result in
    let next = next_in d c.args.to c.loop-k.k c.touched-k-end.result key c.touched_band-band.result c.loop-k.taking.chunks.items (is_cut c.args.grid.now c.requires.grid) c.touched-k-end.ensures c.loop-k-test.true inv.count c.touched_key-key.ensures.exact c.touched_band-band.ensures in
    omega (arith, next.start)

pub loop-k-init : goal.loop-k-init
loop-k-init c = record {
  sound = c.requires.sound;
  takes = c.requires.takes;
  small = c.requires.small;
  limit = c.requires.limit;
  count = search rules;
  known = omega (arith, c.requires.known, c.len-k.ensures, (let e : length c.args.taking.now.chunks.items ≡ c.len-k.result = search rules in e));
  named = λ v fits x. x;
  taken = λ v early s fits within x y. y;
  roomy = λ r. r;
}

pub loop-k-preserved : goal.loop-k-preserved
loop-k-preserved c =
    let d = dataset_of c.args.grid.now in
    let inv = c.loop-k.invariant in
    let key = c.touched_key-key.result in
    let next = next_in d c.args.to c.loop-k.k c.touched-k-end.result key c.touched_band-band.result c.loop-k.taking.chunks.items (is_cut c.args.grid.now c.requires.grid) c.touched-k-end.ensures c.loop-k-test.true inv.count c.touched_key-key.ensures.exact c.touched_band-band.ensures in
    record {
      sound = c.place_chunk.ensures.sound;
      takes = λ other row. c.place_chunk.ensures.takes other (inv.takes other row);
      small = c.in_ok-place_chunk.ensures.small;
      limit = omega (arith, inv.limit, c.in_ok-place_chunk.ensures.limit);
      count = omega (arith, inv.count, c.in_ok-place_chunk.ensures.count);
      known = omega (arith, c.loop-k-test.true, c.touched-k-end.ensures);
      named = λ v fits x. c.in_ok-place_chunk.ensures.named c.args.to v fits next.number next.band_is next.inside (inv.named v fits x);
      taken = λ v early s fits within x y. c.in_ok-place_chunk.ensures.taken c.args.to v early s fits within next.number (inv.named v fits x) (inv.taken v early s fits within x y);
      roomy = λ r. c.place_chunk.ensures.within (most_lines d) (keys_across d) (line_below key.i (first_line d (div_up c.args.to d.layout.chunk_rows)) (most_lines d) next.row c.requires.few) next.column (inv.roomy r);
    }

pub returns-in_err-place_chunk-clause-partly : goal.returns-in_err-place_chunk-clause-partly
returns-in_err-place_chunk-clause-partly c =
    let d = dataset_of c.args.grid.now in
    let inv = c.loop-k.invariant in
    let key = c.touched_key-key.result in
    let next = next_in d c.args.to c.loop-k.k c.touched-k-end.result key c.touched_band-band.result c.loop-k.taking.chunks.items (is_cut c.args.grid.now c.requires.grid) c.touched-k-end.ensures c.loop-k-test.true inv.count c.touched_key-key.ensures.exact c.touched_band-band.ensures in
    on_err c.from_residual.result (λ v fits x. c.in_err-place_chunk.ensures.partly c.args.to v (inv.named v fits x).partly next.touched_is)

pub returns-in_err-place_chunk-clause-roomy : goal.returns-in_err-place_chunk-clause-roomy
returns-in_err-place_chunk-clause-roomy c r =
    let d = dataset_of c.args.grid.now in
    let inv = c.loop-k.invariant in
    let key = c.touched_key-key.result in
    let next = next_in d c.args.to c.loop-k.k c.touched-k-end.result key c.touched_band-band.result c.loop-k.taking.chunks.items (is_cut c.args.grid.now c.requires.grid) c.touched-k-end.ensures c.loop-k-test.true inv.count c.touched_key-key.ensures.exact c.touched_band-band.ensures in
    c.place_chunk.ensures.within (most_lines d) (keys_across d) (line_below key.i (first_line d (div_up c.args.to d.layout.chunk_rows)) (most_lines d) next.row c.requires.few) next.column (inv.roomy r)

pub returns-in_err-place_chunk-clause-full : goal.returns-in_err-place_chunk-clause-full
returns-in_err-place_chunk-clause-full c full is v early s fits within x y =
    let d = dataset_of c.args.grid.now in
    let inv = c.loop-k.invariant in
    let w = view_of c.loop-k.index in
    let chunks = c.loop-k.taking.chunks.items in
    let added = c.loop-k.taking.added.items in
    let key = c.touched_key-key.result in
    let next = next_in d c.args.to c.loop-k.k c.touched-k-end.result key c.touched_band-band.result chunks (is_cut c.args.grid.now c.requires.grid) c.touched-k-end.ensures c.loop-k-test.true inv.count c.touched_key-key.ensures.exact c.touched_band-band.ensures in
    let gone = err_from_is_err_and c.from_residual.result c.from_residual.ensures.1 in
    let same : c.place_chunk.result ≡ c.from_residual.result = c.in_err-place_chunk.was ∙ sym (gone.1 ∙ ap (λ x. Err x) gone.2) in
    let told = c.place_chunk.ensures.full full (same ∙ is) in
    let named = inv.named v fits x in
    record {
      chunks = chunks;
      added = added;
      w = w;
      t = c.loop-k.taking.places;
      named = named;
      taken = inv.taken v early s fits within x y;
      inside = next.inside;
      absent = absent_before d c.args.to v w chunks added key fits named next.number told.0;
      refused = told.1;
    }

pub returns-in_err-place_chunk-clause-deep : goal.returns-in_err-place_chunk-clause-deep
returns-in_err-place_chunk-clause-deep c is v fits roomy x =
    let d = dataset_of c.args.grid.now in
    let inv = c.loop-k.invariant in
    let w = view_of c.loop-k.index in
    let chunks = c.loop-k.taking.chunks.items in
    let added = c.loop-k.taking.added.items in
    let key = c.touched_key-key.result in
    let next = next_in d c.args.to c.loop-k.k c.touched-k-end.result key c.touched_band-band.result chunks (is_cut c.args.grid.now c.requires.grid) c.touched-k-end.ensures c.loop-k-test.true inv.count c.touched_key-key.ensures.exact c.touched_band-band.ensures in
    let gone = err_from_is_err_and c.from_residual.result c.from_residual.ensures.1 in
    let same : c.place_chunk.result ≡ c.from_residual.result = c.in_err-place_chunk.was ∙ sym (gone.1 ∙ ap (λ x. Err x) gone.2) in
    let told = c.place_chunk.ensures.deep (same ∙ is) in
    let named = inv.named v fits x in
    record {
      chunks = chunks;
      added = added;
      w = w;
      named = named;
      inside = next.inside;
      absent = absent_before d c.args.to v w chunks added key fits named next.number told.0;
      deep = subst (IsDeep w) next.number told.1;
      cramped = λ r. not_deep d key w inv.sound (inv.roomy (roomy r)) told.1;
    }

pub returns-clause-sound : goal.returns-clause-sound
returns-clause-sound c = c.loop-k.invariant.sound

pub returns-clause-all : goal.returns-clause-all
returns-clause-all c = omega (arith, c.loop-k.invariant.count, c.loop-k-test.false, c.loop-k.invariant.known, c.touched-k-end.ensures)
