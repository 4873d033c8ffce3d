use Rattle.std.proofs.Common.{◌≡◌, ◌<◌, ◌≤◌, ◌^◌, List, ℕ, length, get_or, subst, ◌∙◌, arith, rules}
use Rattle.h5w_deps.proofs.WalkLemmas.{IsWalked, IsWalked-none, IsWalked-more, IsWalked-not_found, IsWalked-few, get_or-any}
use Rattle.h5w_deps.specs.declared.Edge.{Edge}
use Rattle.h5w_deps.specs.Walk.{Follows}
use Rattle.h5w_deps.proofs.walk.reaches.Goals as goal

pub loop-next-init : goal.loop-next-init
loop-next-init c =
    subst (λ (l : List ℕ). IsWalked c.args.edges.now.items c.args.from c.args.to l 0) (search rules) (IsWalked-none c.args.edges.now.items c.args.from c.args.to c.ranges.from.fits)

pub loop-next-smaller : goal.loop-next-smaller
loop-next-smaller c =
    let few : length c.loop-next.reached.items ≤ 2 ^ 32 = IsWalked-few c.args.edges.now.items c.args.from c.args.to c.loop-next.reached.items c.loop-next.next c.loop-next.invariant in
    omega (arith, few)

pub loop-next-preserved : goal.loop-next-preserved
loop-next-preserved c =
    let reached = c.loop-next.reached.items in
    let next = c.loop-next.next in
    let inside : next < length c.loop-next.reached.items = omega (arith, c.loop-next-test.true, c.len.ensures) in
    let here : c.index-block.result.now ≡ get_or c.loop-next.reached.items c.loop-next.next 0 = c.index-block.ensures ∙ get_or-any reached next c.index-block.result.now 0 inside in
    IsWalked-more c.args.edges.now.items c.args.from c.args.to reached c.follow.new.reached.items next c.loop-next.invariant inside (λ e. c.if-block-to.false (here ∙ e))
    (subst (λ (es : List Edge). Follows es (get_or reached next 0) reached c.follow.new.reached.items) c.deref.ensures.value
    (subst (λ (block : ℕ). Follows c.deref.result.now block reached c.follow.new.reached.items) here c.in_ok-follow.ensures))

pub returns : goal.returns
returns c = (
  λ f. absurd cc,
  λ r. absurd (IsWalked-not_found c.args.edges.now.items c.args.from c.args.to c.loop-next.reached.items c.loop-next.next c.loop-next.invariant (omega arith) r),
)
