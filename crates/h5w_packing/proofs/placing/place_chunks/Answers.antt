use Rattle.std.proofs.Common.{rules, ◌≡◌, ◌+◌, ◌∙◌, ◌++◌, ◌∷◌, [], ap, sym, subst, arith, ℕ, List, Err}
use Rattle.h5w_flush_laws.proofs.NewChunkLemmas.{same_len}
use Rattle.h5w_space.specs.Space.{Space}
use Rattle.h5w_cache.specs.declared.plan.PlanError.TheVariants.{Full as Full_}
use Rattle.h5w_chunks.specs.Grids.{dataset_of}
use Rattle.h5w_index.specs.Held.{view_of}
use Rattle.h5w_index.specs.Views.{IndexView}
use Rattle.h5w_packing.specs.declared.job.Copied.{Copied}
use Rattle.h5w_packing.proofs.PlaceLemmas.{IsHalfway, halfway_absent, halfway_chunks, halfway_full, halfway_limit, halfway_named, halfway_space, halfway_start, halfway_there, halfway_tight}
use Rattle.h5w_model.specs.Datasets.{Described}
use Rattle.h5w_index.specs.declared.index.Index.{Index}
use Rattle.h5w_packing.proofs.placing.place_chunks.Goals as goal
use Rattle.h5w_packing.proofs.placing.place_chunks.Goals.{then-from+in_ok-to+in_ok-keep, else-from}

moved_on : (d : Described) (table : List ℕ) (s : Space) (u : IndexView) (n : ℕ) (places : Space) (index : Index) (chunks : List Copied) (t : Space) (next : Index) (others : List Copied) → places ≡ t → index ≡ next → chunks ≡ others
    → IsHalfway d table s u (n + 1) t (view_of next) others → IsHalfway d table s u (n + 1) places (view_of index) chunks
moved_on d table s u n places index chunks t next others a b e h =
    subst (λ (x : Space). IsHalfway d table s u (n + 1) x (view_of index) chunks) (sym a)
    (subst (λ (i : Index). IsHalfway d table s u (n + 1) t (view_of i) chunks) (sym b) (subst (λ (cs : List Copied). IsHalfway d table s u (n + 1) t (view_of next) cs) (sym e) h))

pub loop-number-init : goal.loop-number-init
loop-number-init c =
    halfway_start (dataset_of c.args.grid.now) c.args.table.now c.args.places.now (view_of c.args.index.now) c.new-chunks.result.items c.requires.sound c.requires.takes c.requires.kind c.requires.within c.new-chunks.ensures.items

pub place_chunk-requires-clause-sound : goal.place_chunk-requires-clause-sound
place_chunk-requires-clause-sound c = c.loop-number.invariant.sound

pub place_chunk-requires-clause-takes : goal.place_chunk-requires-clause-takes
place_chunk-requires-clause-takes c = c.loop-number.invariant.takes

pub place_chunk-requires-clause-kind : goal.place_chunk-requires-clause-kind
place_chunk-requires-clause-kind c = c.loop-number.invariant.kind

pub place_chunk-requires-clause-tight : goal.place_chunk-requires-clause-tight
place_chunk-requires-clause-tight c =
    halfway_tight (dataset_of c.args.grid.now) c.args.table.now c.args.places.now (view_of c.args.index.now) c.loop-number.number c.loop-number.places (view_of c.loop-number.index) c.loop-number.chunks.items c.loop-number.invariant c.requires.tight

pub place_chunk-requires-clause-limit : goal.place_chunk-requires-clause-limit
place_chunk-requires-clause-limit c =
    let same = halfway_limit (dataset_of c.args.grid.now) c.args.table.now c.args.places.now (view_of c.args.index.now) c.loop-number.number c.loop-number.places (view_of c.loop-number.index) c.loop-number.chunks.items c.loop-number.invariant in
    omega (arith, same, c.requires.limit)

pub returns-in_err-to-clause-full : goal.returns-in_err-to-clause-full
returns-in_err-to-clause-full c full e =
    halfway_full (dataset_of c.args.grid.now) c.args.table.now c.args.places.now (view_of c.args.index.now) c.loop-number.number c.loop-number.places (view_of c.loop-number.index) c.loop-number.chunks.items c.loop-number.invariant full
    c.loop-number-test.true c.if-from.true (let same : c.place_chunk.result ≡ Err (Full_ full) = search rules in c.place_chunk.ensures.full full same)

pub loop-number-preserved : goal.loop-number-preserved
loop-number-preserved c =
    let d = dataset_of c.args.grid.now in
    let table = c.args.table.now in
    let s = c.args.places.now in
    let u = view_of c.args.index.now in
    let n = c.loop-number.number in
    let old = c.loop-number.places in
    let v = view_of c.loop-number.index in
    let chunks = c.loop-number.chunks.items in
    let h = c.loop-number.invariant in
    let same = halfway_limit d table s u n old v chunks h in
    elim c.if-from.branch [
      | then-from+in_ok-to+in_ok-keep w ↦
          let e = w.in_ok-to.ensures in
          let next = halfway_there d table s u n old v chunks h w.place_chunk.new.places (view_of w.place_chunk.new.index) w.in_ok-to.to w.keep.new.chunks.items c.requires.limit c.loop-number-test.true w.if-from.true e.sound e.takes e.kind e.place e.places e.fits e.named
          (w.in_ok-keep.ensures ∙ ap (λ (k : ℕ). chunks ++ record { from = _; to = w.in_ok-to.to; len = k } ∷ []) (w.chunk_len-len.ensures.exact ∙ same_len d)) in
          moved_on d table s u n c.if-from.places c.if-from.index c.if-from.chunks.items w.place_chunk.new.places w.place_chunk.new.index w.keep.new.chunks.items w.places-is w.index-is (ap (λ v. v.items) w.chunks-is) next
      | else-from w ↦
          moved_on d table s u n c.if-from.places c.if-from.index c.if-from.chunks.items old c.loop-number.index chunks w.places-is w.index-is (ap (λ v. v.items) w.chunks-is) (halfway_absent d table s u n old v chunks h c.loop-number-test.true w.if-from.false)
    ]

pub returns-clause-sound : goal.returns-clause-sound
returns-clause-sound c = c.loop-number.invariant.sound

pub returns-clause-chunks : goal.returns-clause-chunks
returns-clause-chunks c =
    halfway_chunks (dataset_of c.args.grid.now) c.args.table.now c.args.places.now (view_of c.args.index.now) c.loop-number.number c.loop-number.places (view_of c.loop-number.index) c.loop-number.chunks.items c.loop-number.invariant c.loop-number-test.false

pub returns-clause-places : goal.returns-clause-places
returns-clause-places c =
    halfway_space (dataset_of c.args.grid.now) c.args.table.now c.args.places.now (view_of c.args.index.now) c.loop-number.number c.loop-number.places (view_of c.loop-number.index) c.loop-number.chunks.items c.loop-number.invariant c.loop-number-test.false

pub returns-clause-within : goal.returns-clause-within
returns-clause-within c = c.loop-number.invariant.within

pub returns-clause-named : goal.returns-clause-named
returns-clause-named c =
    halfway_named (dataset_of c.args.grid.now) c.args.table.now c.args.places.now (view_of c.args.index.now) c.loop-number.number c.loop-number.places (view_of c.loop-number.index) c.loop-number.chunks.items c.loop-number.invariant c.loop-number-test.false
