use Rattle.std.proofs.Common.{◌≡◌, ◌*◌, Err, subst, arith, rules}
use Rattle.h5w_image.proofs.ViewLemmas.{looked_itself, looked_twice}
use Rattle.h5w_looks.proofs.ReadLemmas.{still_on}
use Rattle.h5w_ea_index.specs.Loading.{IsLoading}
use Rattle.h5w_ea_index.specs.Opened.{IsDamaged, IsOpened}
use Rattle.h5w_ea_index.proofs.OpenedLemmas.{loads_within, looks_alone}
use Rattle.h5w_ea_index.proofs.load.load_all.Goals as goal

pub loop-sblock-init : goal.loop-sblock-init
loop-sblock-init g c = record { looked = looked_itself (g.I.PieceRead.view c.args.image.now); loading = c.requires.loading; opened = λ img still o. o }

pub load_super_block-requires-clause-loading : goal.load_super_block-requires-clause-loading
load_super_block-requires-clause-loading g c = c.loop-sblock.invariant.loading

pub returns-in_err-load_super_block-clause-loads : goal.returns-in_err-load_super_block-clause-loads
returns-in_err-load_super_block-clause-loads g c =
    let is : c.from_residual.result ≡ Err c.in_err-load_super_block.field-0.0 = search rules in
    rw is (loads_within (λ img a f. IsOpened img c.args.first c.loop-sblock.cache → IsDamaged img c.args.header c.args.first a f) (λ img a f. IsOpened img c.args.first c.args.cache.now → IsDamaged img c.args.header c.args.first a f)
    (Err c.in_err-load_super_block.field-0.0) c.loop-sblock.invariant.looked (λ img still a f h o. h (c.loop-sblock.invariant.opened img still o)) c.in_err-load_super_block.ensures.loads)

pub loop-sblock-preserved : goal.loop-sblock-preserved
loop-sblock-preserved g c = record {
  looked = looked_twice c.loop-sblock.invariant.looked c.load_super_block.ensures.loads.looked;
  loading = c.in_ok-load_super_block.ensures.loading;
  opened = λ img still o. c.in_ok-load_super_block.ensures.opened img (still_on img c.loop-sblock.invariant.looked still) (c.loop-sblock.invariant.opened img still o);
}

pub returns-clause-loads : goal.returns-clause-loads
returns-clause-loads g c = looks_alone (λ img a f. IsOpened img c.args.first c.args.cache.now → IsDamaged img c.args.header c.args.first a f) _ c.loop-sblock.invariant.looked

pub returns-clause-loading : goal.returns-clause-loading
returns-clause-loading g c =
    let e : 65 * c.loop-sblock.sblock ≡ 845 = omega arith in
    subst (λ n. IsLoading c.args.header n c.loop-sblock.cache) e c.loop-sblock.invariant.loading

pub returns-clause-opened : goal.returns-clause-opened
returns-clause-opened g c = c.loop-sblock.invariant.opened
