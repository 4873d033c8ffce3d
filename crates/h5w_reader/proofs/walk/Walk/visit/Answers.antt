use Rattle.std.proofs.Common.{◌≡◌, ◌<◌, ◌-◌, refl, sym, arith}
use Rattle.h5w_model.specs.Datasets.{block_place, block_len}
use Rattle.h5w_dataset.specs.Founds.{found_of, founds, stack}
use Rattle.h5w_reader.proofs.WalkLemmas.{walk_full, walk_small, walk_enter}
use Rattle.h5w_reader.proofs.walk.Walk.visit.Goals as goal

pub returns-then-self-eq0 : goal.returns-then-self-eq0
returns-then-self-eq0 c =
    let s = c.args.self in
    rw c.if-self-eq0.true (sym (walk_full s.header s.tracked (founds s.done.items) (stack s.next.items) (found_of c.args.m.now) c.requires))

pub returns-then-len-lt-LEAST : goal.returns-then-len-lt-LEAST
returns-then-len-lt-LEAST c =
    let s = c.args.self in
    let m = found_of c.args.m.now in
    let place : c.number-place.result ≡ block_place m = cc in
    let len : c.number-len.result ≡ block_len m = cc in
    let some : 0 < s.more = omega arith in
    sym (walk_small s.more s.header s.tracked (founds s.done.items) (stack s.next.items) m c.number-place.result c.number-len.result c.requires some place len c.if-len-lt-LEAST.true)

pub returns : goal.returns
returns c =
    let s = c.args.self in
    let m = found_of c.args.m.now in
    let p = c.number-place.result in
    let l = c.number-len.result in
    let place : p ≡ block_place m = cc in
    let len : l ≡ block_len m = cc in
    let some : 0 < s.more = omega arith in
    let left = c.new-2.ensures.left in
    rw (left, c.new-2.ensures.start, c.new.ensures.items) (sym (walk_enter s.more (s.more - 1) s.header s.tracked (founds s.done.items) (stack s.next.items) m p l c.requires some refl place len c.if-len-lt-LEAST.false))
