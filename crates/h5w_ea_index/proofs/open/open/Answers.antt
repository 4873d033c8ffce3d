use Rattle.std.proofs.Common.{◌≡◌, ℕ, Err, Some, sym, subst, rules}
use Rattle.h5w_image.proofs.ViewLemmas.{looked_itself, looked_twice}
use Rattle.h5w_looks.proofs.ReadLemmas.{still_on}
use Rattle.h5w_ea_index.specs.declared.error.OpenArrayError.TheVariants.{OutOfMemory}
use Rattle.h5w_ea_index.proofs.LoadingLemmas.{Beginning, loaded_array, loading_begun, opened_begun}
use Rattle.h5w_ea_index.proofs.OpenedLemmas.{loads_as, loads_within, looks_alone, looks_memory}
use Rattle.h5w_ea_index.proofs.NamedLemmas.{header_damaged, index_damaged}
use Rattle.h5w_ea_index.specs.Opened.{IsDamaged, IsOpened, refused_on}
use Rattle.h5w_array_laws.specs.Parts.{header, index_block}
use Rattle.h5w_ea_index.proofs.open.open.Goals as goal

pub returns-in_err-top-clause-loads : goal.returns-in_err-top-clause-loads
returns-in_err-top-clause-loads g c =
    let at : ℕ = c.args.header in
    let is : c.from_residual.result ≡ Err c.in_err-top.field-0.0 = search rules in
    rw is (loads_within (λ img a f. (a ≡ at) × (refused_on img header at ≡ Some f)) (λ img a f. IsDamaged img c.args.header c.args.first a f) (Err c.in_err-top.field-0.0) (looked_itself (g.I.PieceRead.view c.args.image.now))
    (λ img still a f h. subst (λ q. IsDamaged img c.args.header c.args.first q f) (sym h.0) (header_damaged img c.args.first c.args.header f c.requires h.1))
    (loads_as (λ img a f. (a ≡ at) × (refused_on img header at ≡ Some f)) c.in_err-top.field-0.0 c.in_err-top.ensures.loads))

pub returns-in_err-index-clause-loads : goal.returns-in_err-index-clause-loads
returns-in_err-index-clause-loads g c =
    let at : ℕ = c.in_ok-top.place in
    let is : c.from_residual-in_err-index.result ≡ Err c.in_err-index.field-0.0 = search rules in
    rw is (loads_within (λ img a f. (a ≡ at) × (refused_on img index_block at ≡ Some f)) (λ img a f. IsDamaged img c.args.header c.args.first a f) (Err c.in_err-index.field-0.0) c.in_ok-top.ensures.loads.looked
    (λ img still a f h. subst (λ q. IsDamaged img c.args.header c.args.first q f) (sym h.0)
    (index_damaged img c.args.first c.args.header at c.in_ok-top.top.bytes f c.requires (c.in_ok-top.ensures.stands img still) (λ u. c.if-place.false u) h.1))
    (loads_as (λ img a f. (a ≡ at) × (refused_on img index_block at ≡ Some f)) c.in_err-index.field-0.0 c.in_err-index.ensures.loads))

pub returns-in_err-cache-clause-loads : goal.returns-in_err-cache-clause-loads
returns-in_err-cache-clause-loads g c =
    let is : c.from_residual-in_err-cache.result ≡ Err OutOfMemory = search (c.from_residual-in_err-cache.ensures, rules) in
    rw is (looks_memory (λ img a f. IsDamaged img c.args.header c.args.first a f) (looked_twice c.in_ok-top.ensures.loads.looked c.in_ok-index.ensures.loads.looked))

pub load_all-requires-clause-loading : goal.load_all-requires-clause-loading
load_all-requires-clause-loading g c =
    let b : Beginning c.args.header c.in_ok-top.place c.in_ok-top.top c.in_ok-index.index c.in_ok-cache.cache c.keep.new.cache c.keep-2.new.cache = record {
      bare = c.in_ok-cache.ensures;
      index_kept = c.keep.ensures;
      top_kept = c.keep-2.ensures;
      top_sound = c.in_ok-top.ensures.sound;
      index_sound = c.in_ok-index.ensures.sound;
      names = c.in_ok-top.ensures.names;
      top_fits = c.in_ok-top.ensures.fits;
      index_fits = c.in_ok-index.ensures.fits;
    } in
    loading_begun c.args.header c.in_ok-top.place c.in_ok-top.top c.in_ok-index.index c.in_ok-cache.cache c.keep.new.cache c.keep-2.new.cache b

pub returns-in_err-load_all-clause-loads : goal.returns-in_err-load_all-clause-loads
returns-in_err-load_all-clause-loads g c =
    let one = c.in_ok-top.ensures.loads.looked in
    let two = looked_twice c.in_ok-top.ensures.loads.looked c.in_ok-index.ensures.loads.looked in
    let b : Beginning c.args.header c.in_ok-top.place c.in_ok-top.top c.in_ok-index.index c.in_ok-cache.cache c.keep.new.cache c.keep-2.new.cache = record {
      bare = c.in_ok-cache.ensures;
      index_kept = c.keep.ensures;
      top_kept = c.keep-2.ensures;
      top_sound = c.in_ok-top.ensures.sound;
      index_sound = c.in_ok-index.ensures.sound;
      names = c.in_ok-top.ensures.names;
      top_fits = c.in_ok-top.ensures.fits;
      index_fits = c.in_ok-index.ensures.fits;
    } in
    let is : c.from_residual-in_err-load_all.result ≡ Err c.in_err-load_all.field-0.0 = search rules in
    rw is (loads_within (λ img a f. IsOpened img c.args.first c.keep-2.new.cache → IsDamaged img c.args.header c.args.first a f) (λ img a f. IsDamaged img c.args.header c.args.first a f) (Err c.in_err-load_all.field-0.0) two
    (λ img still a f h. h (opened_begun c.args.header c.in_ok-top.place c.in_ok-top.top c.in_ok-index.index c.in_ok-cache.cache c.keep.new.cache c.keep-2.new.cache b img c.args.first (c.in_ok-top.ensures.stands img still)
    (c.in_ok-index.ensures.stands img (still_on img one still))))
    (loads_as (λ img a f. IsOpened img c.args.first c.keep-2.new.cache → IsDamaged img c.args.header c.args.first a f) c.in_err-load_all.field-0.0 c.in_err-load_all.ensures.loads))

pub returns-clause-loads : goal.returns-clause-loads
returns-clause-loads g c = looks_alone (λ img a f. IsDamaged img c.args.header c.args.first a f) _ (looked_twice (looked_twice c.in_ok-top.ensures.loads.looked c.in_ok-index.ensures.loads.looked) c.load_all.ensures.loads.looked)

pub returns-clause-array : goal.returns-clause-array
returns-clause-array g c = loaded_array c.args.header c.load_all.new.cache c.in_ok-load_all.ensures.loading

pub returns-clause-at : goal.returns-clause-at
returns-clause-at g c = c.in_ok-load_all.ensures.loading.top

pub returns-clause-opened : goal.returns-clause-opened
returns-clause-opened g c = λ img still.
    let one = c.in_ok-top.ensures.loads.looked in
    let two = looked_twice c.in_ok-top.ensures.loads.looked c.in_ok-index.ensures.loads.looked in
    let b : Beginning c.args.header c.in_ok-top.place c.in_ok-top.top c.in_ok-index.index c.in_ok-cache.cache c.keep.new.cache c.keep-2.new.cache = record {
      bare = c.in_ok-cache.ensures;
      index_kept = c.keep.ensures;
      top_kept = c.keep-2.ensures;
      top_sound = c.in_ok-top.ensures.sound;
      index_sound = c.in_ok-index.ensures.sound;
      names = c.in_ok-top.ensures.names;
      top_fits = c.in_ok-top.ensures.fits;
      index_fits = c.in_ok-index.ensures.fits;
    } in
    c.in_ok-load_all.ensures.opened img (still_on img two still)
    (opened_begun c.args.header c.in_ok-top.place c.in_ok-top.top c.in_ok-index.index c.in_ok-cache.cache c.keep.new.cache c.keep-2.new.cache b img c.args.first (c.in_ok-top.ensures.stands img still) (c.in_ok-index.ensures.stands img (still_on img one still)))
