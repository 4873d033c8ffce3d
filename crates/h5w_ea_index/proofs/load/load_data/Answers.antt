use Rattle.std.proofs.Common.{◌≡◌, ℕ, ◌+◌, ◌*◌, Err, subst, arith, rules}
use Rattle.h5w_model.specs.Arrays.{super_block_of}
use Rattle.h5w_image.proofs.ViewLemmas.{looked_itself, looked_twice}
use Rattle.h5w_looks.proofs.ReadLemmas.{still_on}
use Rattle.h5w_ea_index.specs.Loading.{IsLoading}
use Rattle.h5w_ea_index.specs.Opened.{IsDamaged, IsOpened}
use Rattle.h5w_ea_index.proofs.LoadingLemmas.{loading_skip, no_more_data}
use Rattle.h5w_ea_index.proofs.PartLemmas.{blocks_few}
use Rattle.h5w_ea_index.proofs.OpenedLemmas.{loads_within, looks_alone}
use Rattle.h5w_ea_index.proofs.load.load_data.Goals as goal

pub loop-block-init : goal.loop-block-init
loop-block-init g c =
    let e : 65 * c.args.sblock + 1 ≡ 65 * c.args.sblock + 1 + 0 = omega arith in
    record { looked = looked_itself (g.I.PieceRead.view c.args.image.now); loading = subst (λ n. IsLoading c.args.header n c.args.cache.now) e c.requires.loading; opened = λ img still o. o }

pub load-requires-clause-loading : goal.load-requires-clause-loading
load-requires-clause-loading g c = c.loop-block.invariant.loading

pub returns-in_err-load-clause-loads : goal.returns-in_err-load-clause-loads
returns-in_err-load-clause-loads g c =
    let is : c.from_residual.result ≡ Err c.in_err-load.field-0.0 = search rules in
    rw is (loads_within (λ img a f. IsOpened img c.args.first c.loop-block.cache → IsDamaged img c.args.header c.args.first a f) (λ img a f. IsOpened img c.args.first c.args.cache.now → IsDamaged img c.args.header c.args.first a f)
    (Err c.in_err-load.field-0.0) c.loop-block.invariant.looked (λ img still a f h o. h (c.loop-block.invariant.opened img still o)) c.in_err-load.ensures.loads)

pub loop-block-preserved : goal.loop-block-preserved
loop-block-preserved g c =
    let b : ℕ = c.loop-block.block in
    let e : 65 * c.args.sblock + 1 + b + 1 ≡ 65 * c.args.sblock + 1 + (b + 1) = omega arith in
    record {
      looked = looked_twice c.loop-block.invariant.looked c.load.ensures.loads.looked;
      loading = subst (λ n. IsLoading c.args.header n c.load.new.cache) e c.in_ok-load.ensures.loading;
      opened = λ img still o. c.in_ok-load.ensures.opened img (still_on img c.loop-block.invariant.looked still) (c.loop-block.invariant.opened img still o);
    }

pub returns-clause-loads : goal.returns-clause-loads
returns-clause-loads g c = looks_alone (λ img a f. IsOpened img c.args.first c.args.cache.now → IsDamaged img c.args.header c.args.first a f) _ c.loop-block.invariant.looked

pub returns-clause-loading : goal.returns-clause-loading
returns-clause-loading g c =
    let s : ℕ = c.args.sblock in
    let few = blocks_few s c.requires.known in
    let blocks = c.super_block-blocks.ensures.blocks in
    let e : 65 * s + 1 + c.loop-block.block ≡ 65 * s + 1 + (super_block_of s).blocks = omega arith in
    loading_skip c.args.header (65 * s + 1 + (super_block_of s).blocks) (65 * (s + 1)) c.loop-block.cache (omega arith) (no_more_data s) (subst (λ n. IsLoading c.args.header n c.loop-block.cache) e c.loop-block.invariant.loading)

pub returns-clause-opened : goal.returns-clause-opened
returns-clause-opened g c = c.loop-block.invariant.opened
