use Rattle.std.proofs.Common.{sym, ap, take, length, set, get_or, ◌≡◌, ◌∙◌, ℕ, List, suc, ◌+◌, refl, arith}
use Rattle.h5w_lookup.specs.Unknown.{put_in}
use Rattle.h5w_lookup.proofs.UnknownLemmas.{put_none, put_room, put_step}
use Rattle.h5w_lookup.proofs.learning.put_at.Goals as goal

pub loop-n-init : goal.loop-n-init
loop-n-init c = record { items = sym (put_none c.args.table.items); same = refl; room = refl }

pub index_mut-requires : goal.index_mut-requires
index_mut-requires c =
    let t = c.args.table.items in
    let absent = c.args.absent.now in
    let found = c.args.found.now in
    let n = c.loop-n.n in
    let room = put_room t absent found n c.requires (omega (arith, c.loop-n-test.true, c.min-n-end.ensures)) (omega (arith, c.loop-n-test.true, c.min-n-end.ensures)) in
    let long = c.loop-n.table.ok.0 in
    omega (arith, room, ap length c.loop-n.invariant.items, long)

pub loop-n-preserved : goal.loop-n-preserved
loop-n-preserved c =
    let t = c.args.table.items in
    let absent = c.args.absent.now in
    let found = c.args.found.now in
    let n = c.loop-n.n in
    record {
      items = ap (λ (xs : List ℕ). set xs (get_or absent n 0) (get_or found n 0)) c.loop-n.invariant.items
          ∙ put_step t absent found n c.requires (omega (arith, c.loop-n-test.true, c.min-n-end.ensures)) (omega (arith, c.loop-n-test.true, c.min-n-end.ensures))
          ∙ ap (λ k. put_in t (take k found)) (let z : suc n ≡ n + 1 = omega arith in z);
      same = c.loop-n.invariant.same;
      room = c.loop-n.invariant.room;
    }
