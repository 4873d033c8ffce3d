use Rattle.std.proofs.Common.{◌≡◌, ◌<◌, None, Err, length, arith, rules, ap, subst, sym}
use Rattle.h5w_several_open.specs.Progress.{SoFar}
use Rattle.h5w_several_open.proofs.OpenLemmas.{begins, called_by, ends_unfit, ends_well, goes_on, stops}
use Rattle.h5w_image.proofs.ViewLemmas.{looked_twice}
use Rattle.h5w_several_open.proofs.opening.parts_at.Goals as goal

pub returns-in_err-part-clause-looked : goal.returns-in_err-part-clause-looked
returns-in_err-part-clause-looked g c = looked_twice c.loop-k.invariant.looked c.in_err-part.ensures.step.looked

pub returns-in_err-part-clause-exact : goal.returns-in_err-part-clause-exact
returns-in_err-part-clause-exact g c =
    let a = c.args in
    let l = c.loop-k in
    let e = c.in_err-part.field-0.0 in
    let inside : l.k < length a.names.now = (let n = ap length c.as_slice-name-items.ensures in let t = c.loop-k-test.true in omega (arith, n, t)) in
    let name = called_by a.names.now c.as_slice-name-items.result.now l.k c.as_slice.result.now c.name-item.result c.as_slice.ensures c.name-item.is c.as_slice-name-items.ensures inside in
    let is : c.from_residual.result ≡ Err e = search rules in
    rw is (stops (g.I.PieceRead.view a.image.now) a.root a.names.now a.places.now a.limit a.budget (g.I.PieceRead.view l.image) (g.I.PieceRead.view c.open_part.new.image) l.k inside c.requires.len c.as_slice.result.now name l.refused l.parts.items e l.invariant c.in_err-part.ensures.step)

pub returns-in_err-keep-clause-looked : goal.returns-in_err-keep-clause-looked
returns-in_err-keep-clause-looked g c = looked_twice c.loop-k.invariant.looked c.in_ok-part.ensures.step.looked

pub loop-k-init : goal.loop-k-init
loop-k-init g c =
    let a = c.args in
    let v = g.I.PieceRead.view a.image.now in
    subst (SoFar v v a.root a.names.now a.places.now a.limit a.budget 0 None) (sym c.new-parts.ensures.items) (begins v a.root a.names.now a.places.now a.limit a.budget)

pub loop-k-preserved : goal.loop-k-preserved
loop-k-preserved g c =
    let a = c.args in
    let l = c.loop-k in
    let p = c.in_ok-part in
    let inside : l.k < length a.names.now = (let n = ap length c.as_slice-name-items.ensures in let t = c.loop-k-test.true in omega (arith, n, t)) in
    let name = called_by a.names.now c.as_slice-name-items.result.now l.k c.as_slice.result.now c.name-item.result c.as_slice.ensures c.name-item.is c.as_slice-name-items.ensures inside in
    let so = goes_on (g.I.PieceRead.view a.image.now) a.root a.names.now a.places.now a.limit a.budget (g.I.PieceRead.view l.image) (g.I.PieceRead.view c.open_part.new.image) l.k inside c.requires.len c.as_slice.result.now name l.refused l.parts.items p.part
    l.invariant p.ensures.step p.ensures.cause p.ensures.kinds p.ensures.begun in
    rw (c.in_ok-keep.ensures.parts, c.in_ok-keep.ensures.refused) so

pub returns-in-Some-clause-exact : goal.returns-in-Some-clause-exact
returns-in-Some-clause-exact g c =
    let a = c.args in
    let l = c.loop-k in
    ends_unfit (g.I.PieceRead.view a.image.now) a.root a.names.now a.places.now a.limit a.budget (g.I.PieceRead.view l.image) l.k (let n = ap length c.as_slice-name-items.ensures in let t = c.loop-k-test.false in let k = l.auto.k-end in omega (arith, n, t, k)) c.requires.len l.parts.items c.in-Some.e (rw (c.in-Some.is) at l.invariant)

pub returns-in-None-clause-exact : goal.returns-in-None-clause-exact
returns-in-None-clause-exact g c =
    let a = c.args in
    let l = c.loop-k in
    ends_well (g.I.PieceRead.view a.image.now) a.root a.names.now a.places.now a.limit a.budget (g.I.PieceRead.view l.image) l.k (let n = ap length c.as_slice-name-items.ensures in let t = c.loop-k-test.false in let k = l.auto.k-end in omega (arith, n, t, k)) c.requires.len l.parts.items (rw (c.in-None.is) at l.invariant)
