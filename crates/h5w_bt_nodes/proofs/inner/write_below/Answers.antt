use Rattle.std.proofs.Common.{◌≡◌, ◌<◌, ◌≤◌, ◌+◌, ◌^◌, ◌∙◌, ◌++◌, ◌∷◌, [], ap, ap₂, refl, sym, subst, arith, append-nil, drop, flat_map, length, length-drop, List, map, ℕ, slice_get}
use Rattle.std.proofs.lemmas.List.{drop_all, length-map, take_rest}
use Rattle.std.specs.List.{All}
use Rattle.h5w_model.specs.Trees.{ChildFields}
use Rattle.h5w_bt.specs.Parts.{child_of}
use Rattle.h5w_cache.specs.declared.moves.Move.{Move}
use Rattle.h5w_bt_nodes.specs.Blocks.{AllRead, EachBy, changes, each_by, joined_blocks, news, placed, pointer_of, stood, writes_of, written}
use Rattle.h5w_bt_nodes.proofs.Children.{child-there}
use Rattle.h5w_bt_nodes.proofs.Places.{All-dropped}
use Rattle.h5w_bt_nodes.proofs.Shapes.{shape_at}
use Rattle.h5w_bt_nodes.proofs.Turns.{all_turn, count_turn, each_turn, list_turn, news_rest, writes_turn}
use Rattle.h5w_bt_nodes.proofs.inner.write_below.Goals as goal

-- behind the last child none is left
ended : {A B : Type 0} (t : A → B) (xs ys : List A) (i : ℕ) → ys ≡ xs → length ys ≤ i → drop i (map t xs) ≡ []
ended t xs ys i e h = drop_all i (map t xs) (omega (arith, length-map xs t, ap (length {A = _}) e, h))

pub loop-child-init : goal.loop-child-init
loop-child-init g c =
    let d = g.C.Subtree.depth in
    let zs = map g.C.Subtree.tree c.args.children.now.items in
    record {
      count = omega arith;
      pointers = ap (λ (l : List _). map child_of l ++ map (pointer_of d) (each_by (placed d) (changes d) (news c.args.moves.now) zs)) c.in_ok-pointers.ensures.items;
      reads = λ h. h;
      written = refl;
    }

pub slice_bounds-write-count : goal.slice_bounds-write-count
slice_bounds-write-count g c = omega (arith, c.loop-child.invariant.count, c.requires.enough)

pub write-requires-clause-ends : goal.write-requires-clause-ends
write-requires-clause-ends g c =
    let P : ℕ → Type 0 = λ p. p + 2048 < 2 ^ 64 in
    subst (All P) (sym (news_rest c.args.moves.now c.loop-child.below)) (All-dropped P c.loop-child.below (news c.args.moves.now) c.requires.ends)

pub write-requires-clause-shape : goal.write-requires-clause-shape
write-requires-clause-shape g c =
    let t = g.C.Subtree.tree in
    let ys = c.deref-child-items.result.now in
    let i = c.loop-child.child-index in
    let x = c.child-item.result in
    let there = ap (λ (l : List _). slice_get (map t l) i) (sym c.deref-child-items.ensures.value) ∙ child-there t ys i x c.loop-child-test.true c.child-item.is in
    shape_at g.C.Subtree.depth (map t c.args.children.now.items) i (t x) c.requires.shape there

pub write-requires-clause-enough : goal.write-requires-clause-enough
write-requires-clause-enough g c =
    let d = g.C.Subtree.depth in
    let t = g.C.Subtree.tree in
    let ys = c.deref-child-items.result.now in
    let zs = map t c.args.children.now.items in
    let i = c.loop-child.child-index in
    let k = c.loop-child.below in
    let x = c.child-item.result in
    let ms = c.args.moves.now in
    let there = ap (λ (l : List _). slice_get (map t l) i) (sym c.deref-child-items.ensures.value) ∙ child-there t ys i x c.loop-child-test.true c.child-item.is in
    let left = count_turn (stood d) zs i (t x) there in
    let room : changes d (t x) ≤ length (drop k ms) = omega (arith, length-drop k ms, left, c.loop-child.invariant.count, c.requires.enough) in
    subst (λ (l : List Move). changes d (t x) ≤ length l) (sym (take_rest ms k)) room

pub overflow_add-below : goal.overflow_add-below
overflow_add-below g c =
    let d = g.C.Subtree.depth in
    let t = g.C.Subtree.tree in
    let ys = c.deref-child-items.result.now in
    let zs = map t c.args.children.now.items in
    let i = c.loop-child.child-index in
    let x = c.child-item.result in
    let there = ap (λ (l : List _). slice_get (map t l) i) (sym c.deref-child-items.ensures.value) ∙ child-there t ys i x c.loop-child-test.true c.child-item.is in
    let left = count_turn (stood d) zs i (t x) there in
    let few : c.loop-child.below + c.in_ok-count.count ≤ length c.args.moves.now = omega (arith, left, c.loop-child.invariant.count, c.requires.enough, c.in_ok-count.ensures.count) in
    omega (arith, few)

pub loop-child-preserved : goal.loop-child-preserved
loop-child-preserved g c =
    let d = g.C.Subtree.depth in
    let t = g.C.Subtree.tree in
    let ys = c.deref-child-items.result.now in
    let zs = map t c.args.children.now.items in
    let i = c.loop-child.child-index in
    let k = c.loop-child.below in
    let x = c.child-item.result in
    let ms = c.args.moves.now in
    let ps = news ms in
    let m = c.in_ok-count.count in
    let there = ap (λ (l : List _). slice_get (map t l) i) (sym c.deref-child-items.ensures.value) ∙ child-there t ys i x c.loop-child-test.true c.child-item.is in
    let left = count_turn (stood d) zs i (t x) there in
    let n : m ≡ changes d (t x) = c.in_ok-count.ensures.count in
    let all_pointers : List ChildFields = map (pointer_of d) (each_by (placed d) (changes d) ps zs) in
    let rest : List ChildFields = map (pointer_of d) (each_by (placed d) (changes d) (drop (k + m) ps) (drop (i + 1) zs)) in
    let own : child_of c.in_ok-count.pointer ≡ pointer_of d (placed d (drop k ps) (t x)) = c.in_ok-count.ensures.pointer ∙ ap (λ (l : List ℕ). pointer_of d (placed d l (t x))) (news_rest ms k) in
    let one : (child_of c.in_ok-count.pointer ∷ rest) ≡ map (pointer_of d) (each_by (placed d) (changes d) (drop k ps) (drop i zs)) =
    ap₂ (λ (p : ChildFields) (j : ℕ). p ∷ map (pointer_of d) (each_by (placed d) (changes d) (drop (k + j) ps) (drop (i + 1) zs))) own n ∙ sym (ap (map (pointer_of d)) (each_turn (placed d) (changes d) ps k zs i (t x) there)) in
    let bs : List (ℕ × List ℕ) = written d (drop k ps) (t x) in
    let more : List (List (ℕ × List ℕ)) = each_by (written d) (changes d) (drop (k + m) ps) (drop (i + 1) zs) in
    let next : (bs ∷ more) ≡ each_by (written d) (changes d) (drop k ps) (drop i zs) =
    ap (λ (j : ℕ). bs ∷ each_by (written d) (changes d) (drop (k + j) ps) (drop (i + 1) zs)) n ∙ sym (each_turn (written d) (changes d) ps k zs i (t x) there) in
    record {
      count = omega (arith, left, n, c.loop-child.invariant.count);
      pointers = list_turn child_of c.loop-child.pointers.items c.push.new.self.items c.in_ok-count.pointer rest all_pointers c.in_ok-push.ensures.items
          (ap (λ (l : List ChildFields). map child_of c.loop-child.pointers.items ++ l) one ∙ c.loop-child.invariant.pointers);
      reads = λ h.
          c.loop-child.invariant.reads (all_turn (AllRead d) (changes d) ps k zs i (t x) there (subst (λ (l : List ℕ). AllRead d l (t x)) (news_rest ms k) c.in_ok-count.ensures.reads)
          (subst (λ (j : ℕ). EachBy (AllRead d) (changes d) (drop (k + j) ps) (drop (i + 1) zs)) n h));
      written = writes_turn c.loop-child.out.items c.write.new.out.items (c.args.out.now.items ++ writes_of (joined_blocks (each_by (written d) (changes d) ps zs))) bs more
          (c.in_ok-count.ensures.written ∙ ap (λ (l : List ℕ). c.loop-child.out.items ++ writes_of (written d l (t x))) (news_rest ms k))
          (ap (λ (l : List (List (ℕ × List ℕ))). c.loop-child.out.items ++ writes_of (joined_blocks l)) next ∙ c.loop-child.invariant.written);
    }

pub returns-clause-count : goal.returns-clause-count
returns-clause-count g c =
    let d = g.C.Subtree.depth in
    let none = ended g.C.Subtree.tree c.args.children.now.items c.deref-child-items.result.now c.loop-child.child-index c.deref-child-items.ensures.value (omega (arith, c.loop-child-test.false)) in
    let rest : length (flat_map (stood d) (drop c.loop-child.child-index (map g.C.Subtree.tree c.args.children.now.items))) ≡ 0 = ap (λ (l : List _). length (flat_map (stood d) l)) none in
    omega (arith, rest, c.loop-child.invariant.count)

pub returns-clause-pointers : goal.returns-clause-pointers
returns-clause-pointers g c =
    let d = g.C.Subtree.depth in
    let none = ended g.C.Subtree.tree c.args.children.now.items c.deref-child-items.result.now c.loop-child.child-index c.deref-child-items.ensures.value (omega (arith, c.loop-child-test.false)) in
    let done = map child_of c.loop-child.pointers.items in
    sym (append-nil done) ∙ ap (λ (l : List _). done ++ map (pointer_of d) (each_by (placed d) (changes d) (drop c.loop-child.below (news c.args.moves.now)) l)) (sym none) ∙ c.loop-child.invariant.pointers

pub returns-clause-written : goal.returns-clause-written
returns-clause-written g c =
    let d = g.C.Subtree.depth in
    let none = ended g.C.Subtree.tree c.args.children.now.items c.deref-child-items.result.now c.loop-child.child-index c.deref-child-items.ensures.value (omega (arith, c.loop-child-test.false)) in
    let done = c.loop-child.out.items in
    sym (append-nil done) ∙ ap (λ (l : List _). done ++ writes_of (joined_blocks (each_by (written d) (changes d) (drop c.loop-child.below (news c.args.moves.now)) l))) (sym none) ∙ c.loop-child.invariant.written

pub returns-clause-reads : goal.returns-clause-reads
returns-clause-reads g c =
    let d = g.C.Subtree.depth in
    let none = ended g.C.Subtree.tree c.args.children.now.items c.deref-child-items.result.now c.loop-child.child-index c.deref-child-items.ensures.value (omega (arith, c.loop-child-test.false)) in
    c.loop-child.invariant.reads (subst (EachBy (AllRead d) (changes d) (drop c.loop-child.below (news c.args.moves.now))) (sym none) tt)
