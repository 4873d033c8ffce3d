use Rattle.std.proofs.Common.{refl, ◌∙◌, arith}
use Rattle.h5w_image.proofs.ViewLemmas.{looked_twice, looked_itself}
use Rattle.h5w_looks.proofs.ReadLemmas.{still_on, next_piece, short_piece, all_below}
use Rattle.h5w_looks.proofs.read.Goals as goal

pub loop-rest-init : goal.loop-rest-init
loop-rest-init g c = record {
  looked = looked_itself (g.I.PieceRead.view c.args.image.now);
  exact = λ img still. rw (c.new-bytes.ensures.items, c.below_end-rest.ensures) refl;
  behind = rw c.new-bytes.ensures.items (omega arith);
  few = rw (c.new-bytes.ensures.items, c.below_end-rest.ensures) (omega arith);
  inside = rw c.below_end-rest.ensures (omega (arith, c.ranges.at.fits));
}

pub returns-in_err-n-clause-looked : goal.returns-in_err-n-clause-looked
returns-in_err-n-clause-looked g c = looked_twice c.loop-rest.invariant.looked c.add_look.ensures.looked

pub returns-then-n-lt-PIECE-clause-looked : goal.returns-then-n-lt-PIECE-clause-looked
returns-then-n-lt-PIECE-clause-looked g c = looked_twice c.loop-rest.invariant.looked c.add_look.ensures.looked

pub returns-then-n-lt-PIECE-clause-exact : goal.returns-then-n-lt-PIECE-clause-exact
returns-then-n-lt-PIECE-clause-exact g c = λ img still.
    let e = c.in_ok-n.ensures in
    let more = e.exact img (still_on img c.loop-rest.invariant.looked still) in
    all_below img _ c.args.at c.args.len still.short
    (short_piece img c.loop-rest.bytes.items c.add_look.new.bytes.items c.loop-rest.place c.loop-rest.rest c.in_ok-n.n more e.counted c.if-n-lt-PIECE.true c.loop-rest-test.true ∙ c.loop-rest.invariant.exact img still)

pub loop-rest-preserved : goal.loop-rest-preserved
loop-rest-preserved g c =
    let e = c.in_ok-n.ensures in
    record {
      looked = looked_twice c.loop-rest.invariant.looked c.add_look.ensures.looked;
      exact = λ img still.
          let more = e.exact img (still_on img c.loop-rest.invariant.looked still) in
          next_piece img c.loop-rest.bytes.items c.add_look.new.bytes.items c.loop-rest.place c.loop-rest.rest c.in_ok-n.n more e.counted c.if-n-lt-PIECE.false c.loop-rest-test.true ∙ c.loop-rest.invariant.exact img still;
      behind = let i = c.loop-rest.invariant in omega (arith, e.counted, e.bound, i.behind);
      few = let i = c.loop-rest.invariant in omega (arith, e.counted, e.bound, i.few);
      inside = let i = c.loop-rest.invariant in omega (arith, i.inside);
    }

pub returns-in_err-add_look-clause-looked : goal.returns-in_err-add_look-clause-looked
returns-in_err-add_look-clause-looked g c = looked_twice c.loop-rest.invariant.looked c.add_look-2.ensures.looked

pub returns-clause-looked : goal.returns-clause-looked
returns-clause-looked g c = looked_twice c.loop-rest.invariant.looked c.add_look-2.ensures.looked
