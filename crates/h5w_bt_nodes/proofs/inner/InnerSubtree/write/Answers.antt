use Rattle.std.proofs.Common.{◌<◌, ◌≤◌, ◌^◌, ◌+◌, ◌++◌, ◌∙◌, suc, ap, sym, refl, arith, add-one, append-nil, map, length, flat_map, ℕ, List}
use Rattle.std.proofs.lemmas.Bool.{both_ways, cond-true}
use Rattle.h5w_bt.specs.Parts.{child_of}
use Rattle.h5w_bt_nodes.specs.Typed.{inner_of}
use Rattle.h5w_bt_nodes.specs.Blocks.{news, pointer_of, stood, writes_of}
use Rattle.h5w_bt_nodes.proofs.Written.{inner_changes, inner_reads, inner_written, node_fits, place_has, place_same}
use Rattle.h5w_bt_nodes.proofs.inner.InnerSubtree.write.Goals as goal

-- ---- A node that did not change

pub returns-then-self-clause-count : goal.returns-then-self-clause-count
returns-then-self-clause-count g c = sym (ap length (cond-true c.args.self.now.clean _ _ c.if-self.true))

pub returns-then-self-clause-pointer : goal.returns-then-self-clause-pointer
returns-then-self-clause-pointer g c = c.pointer.ensures ∙ sym (ap (pointer_of (suc g.C.Subtree.depth)) (cond-true c.args.self.now.clean _ _ c.if-self.true))

pub returns-then-self-clause-written : goal.returns-then-self-clause-written
returns-then-self-clause-written g c =
    sym (append-nil c.args.out.now.items) ∙ ap (λ (l : List (ℕ × List ℕ)). c.args.out.now.items ++ writes_of l) (sym (cond-true c.args.self.now.clean _ _ c.if-self.true))

pub returns-then-self-clause-reads : goal.returns-then-self-clause-reads
returns-then-self-clause-reads g c = λ f. absurd (both_ways c.args.self.now.clean f c.if-self.true)

-- ---- One that changed

pub write_below-requires-clause-shallow : goal.write_below-requires-clause-shallow
write_below-requires-clause-shallow g c = omega (arith, c.requires.shallow)

pub write_below-requires-clause-shape : goal.write_below-requires-clause-shape
write_below-requires-clause-shape g c = c.requires.shape.each

pub write_below-requires-clause-enough : goal.write_below-requires-clause-enough
write_below-requires-clause-enough g c =
    omega (arith, inner_changes g.C.Subtree.depth (inner_of g.C.Subtree.depth g.C.Subtree.tree c.args.self.now) (length c.args.moves.now) c.if-self.false c.requires.enough)

pub bounds-moves-below : goal.bounds-moves-below
bounds-moves-below g c =
    omega (
      arith,
      inner_changes g.C.Subtree.depth (inner_of g.C.Subtree.depth g.C.Subtree.tree c.args.self.now) (length c.args.moves.now) c.if-self.false c.requires.enough,
      c.in_ok-below.ensures.count,
    )

pub put_inner-requires-clause-form : goal.put_inner-requires-clause-form
put_inner-requires-clause-form g c =
    let d = g.C.Subtree.depth in
    let t = g.C.Subtree.tree in
    node_fits d (c.depth.result + 1) (news c.args.moves.now) (inner_of d t c.args.self.now) (map child_of c.in_ok-below.children.items)
    (ap (λ (n : ℕ). n + 1) c.depth.ensures ∙ add-one d) c.requires.shallow c.requires.shape c.in_ok-below.ensures.pointers

pub put_inner-requires-clause-ends : goal.put_inner-requires-clause-ends
put_inner-requires-clause-ends g c =
    let inside : c.in_ok-below.below < length c.args.moves.now =
    omega (
      arith,
      inner_changes g.C.Subtree.depth (inner_of g.C.Subtree.depth g.C.Subtree.tree c.args.self.now) (length c.args.moves.now) c.if-self.false c.requires.enough,
      c.in_ok-below.ensures.count,
    ) in
    place_has (λ (p : ℕ). p + 2048 < 2 ^ 64) c.args.moves.now _ c.in_ok-below.below inside c.requires.ends

pub returns-clause-written : goal.returns-clause-written
returns-clause-written g c =
    let d = g.C.Subtree.depth in
    let t = g.C.Subtree.tree in
    let u = inner_of d t c.args.self.now in
    let ms = c.args.moves.now in
    let ps = news ms in
    let k = c.in_ok-below.below in
    let enough : suc (length (flat_map (stood d) u.children)) ≤ length ms = inner_changes d u (length ms) c.if-self.false c.requires.enough in
    inner_written d (c.depth.result + 1) ps u (map child_of c.in_ok-below.children.items) _ _ c.args.out.now.items c.write_below.new.out.items c.put_inner.new.out.items
    (ap (λ (n : ℕ). n + 1) c.depth.ensures ∙ add-one d) c.if-self.false (place_same ms _ k (length (flat_map (stood d) u.children)) c.in_ok-below.ensures.count enough)
    c.in_ok-below.ensures.pointers refl c.in_ok-below.ensures.written c.in_ok-put_inner.ensures.written

pub returns-clause-reads : goal.returns-clause-reads
returns-clause-reads g c =
    let d = g.C.Subtree.depth in
    let t = g.C.Subtree.tree in
    inner_reads d (c.depth.result + 1) (news c.args.moves.now) (inner_of d t c.args.self.now) (map child_of c.in_ok-below.children.items)
    (ap (λ (n : ℕ). n + 1) c.depth.ensures ∙ add-one d) c.in_ok-below.ensures.pointers c.in_ok-below.ensures.reads c.in_ok-put_inner.ensures.reads
