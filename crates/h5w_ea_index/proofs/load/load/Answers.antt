use Rattle.std.proofs.Common.{◌≡◌, ℕ, ◌^◌, ◌<◌, ◌∙◌, true, false, Err, refl, sym, subst, arith, rules}
use Rattle.h5w_image.proofs.ViewLemmas.{looked_itself}
use Rattle.h5w_model.specs.Numbers.{undefined}
use Rattle.h5w_cache.specs.Stores.{Store}
use Rattle.h5w_array_laws.specs.Parts.{Part, number_of}
use Rattle.h5w_ea_index.specs.Created.{Keeps}
use Rattle.h5w_ea_index.specs.Loading.{copied_part, named_place, rank}
use Rattle.h5w_ea_index.proofs.LoadingLemmas.{Keeping, copied_moves, loading_kept, loading_none, name_read, read_named}
use Rattle.h5w_ea_index.proofs.OpenedLemmas.{loads_as, loads_within, opened_kept}
use Rattle.h5w_ea_index.proofs.NamedLemmas.{next_damaged}
use Rattle.h5w_ea_index.specs.Opened.{IsDamaged, IsOpened, Refuses}
use Rattle.h5w_ea_index.proofs.load.load.Goals as goal

pub read-at-requires : goal.read-at-requires
read-at-requires g c =
    name_read c.args.header (rank (copied_part c.args.part)) c.args.cache.now (copied_part c.args.part) c.parent_number.result c.name_offset.result c.requires.loading c.requires.part (copied_moves c.args.part) c.parent_number.ensures c.name_offset.ensures

pub keep-requires-clause-fits : goal.keep-requires-clause-fits
keep-requires-clause-fits g c = λ is. let e : true ≡ false = sym is ∙ c.in_ok-block.ensures.sound.block.in_place ∙ copied_moves c.args.part in absurd (cc)

pub returns-then-at-clause-loading : goal.returns-then-at-clause-loading
returns-then-at-clause-loading g c =
    let k : Part = copied_part c.args.part in
    let v : Store = c.args.cache.now in
    let none : c.read-at.result ≡ undefined = omega (arith, c.if-at.true) in
    let named : c.read-at.result ≡ named_place v k = read_named v k c.parent_number.result c.name_offset.result c.read-at.result c.parent_number.ensures c.name_offset.ensures c.read-at.ensures in
    loading_none c.args.header (rank k) v k c.requires.loading c.requires.part (copied_moves c.args.part) refl (sym named ∙ none)

pub returns-clause-loading : goal.returns-clause-loading
returns-clause-loading g c =
    let k : Part = copied_part c.args.part in
    let v : Store = c.args.cache.now in
    let named : c.read-at.result ≡ named_place v k = read_named v k c.parent_number.result c.name_offset.result c.read-at.result c.parent_number.ensures c.name_offset.ensures c.read-at.ensures in
    let keeps : Keeps (number_of k) c.in_ok-block.block c.read-at.result v c.keep.new.cache = subst (λ n. Keeps n c.in_ok-block.block c.read-at.result v c.keep.new.cache) c.number.ensures.value c.keep.ensures in
    let low : c.read-at.result < 2 ^ 64 = c.read-at.type_inv in
    let h : Keeping c.args.header (rank k) v c.keep.new.cache k c.in_ok-block.block c.read-at.result = record {
      loading = c.requires.loading;
      part = c.requires.part;
      moves = copied_moves c.args.part;
      next = refl;
      named = named;
      defined = λ e. c.if-at.false e;
      low = low;
      sound = c.in_ok-block.ensures.sound;
      keeps = keeps;
    } in
    loading_kept c.args.header (rank k) v c.keep.new.cache k c.in_ok-block.block c.read-at.result h

pub returns-clause-opened : goal.returns-clause-opened
returns-clause-opened g c = λ img still o.
    let k : Part = copied_part c.args.part in
    let keeps : Keeps (number_of k) c.in_ok-block.block c.read-at.result c.args.cache.now c.keep.new.cache = subst (λ n. Keeps n c.in_ok-block.block c.read-at.result c.args.cache.now c.keep.new.cache) c.number.ensures.value c.keep.ensures in
    opened_kept img c.args.first c.args.cache.now c.keep.new.cache k c.in_ok-block.block c.read-at.result c.requires.part (copied_moves c.args.part) keeps (c.in_ok-block.ensures.stands img still) o

pub returns-in_err-block-clause-loads : goal.returns-in_err-block-clause-loads
returns-in_err-block-clause-loads g c =
    let k : Part = copied_part c.args.part in
    let named : c.read-at.result ≡ named_place c.args.cache.now k = read_named c.args.cache.now k c.parent_number.result c.name_offset.result c.read-at.result c.parent_number.ensures c.name_offset.ensures c.read-at.ensures in
    let is : c.from_residual.result ≡ Err c.in_err-block.field-0.0 = search rules in
    let at : ℕ = c.read-at.result in
    rw is (loads_within (λ img a f. (a ≡ at) × Refuses img c.args.first k at f) (λ img a f. IsOpened img c.args.first c.args.cache.now → IsDamaged img c.args.header c.args.first a f) (Err c.in_err-block.field-0.0) (looked_itself (g.I.PieceRead.view c.args.image.now))
    (λ img still a f h o. subst (λ q. IsDamaged img c.args.header c.args.first q f) (sym h.0)
    (next_damaged img c.args.header (rank k) c.args.first c.args.cache.now c.requires.loading o c.requires.low k at f c.requires.part (copied_moves c.args.part) refl named (λ u. c.if-at.false u) h.1))
    (loads_as (λ img a f. (a ≡ at) × Refuses img c.args.first k at f) c.in_err-block.field-0.0 c.in_err-block.ensures.loads))
