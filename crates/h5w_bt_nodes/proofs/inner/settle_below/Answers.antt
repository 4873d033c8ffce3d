use Rattle.std.proofs.Common.{◌≡◌, ◌<◌, ◌≤◌, ◌+◌, ◌∙◌, ◌++◌, ap, sym, subst, arith, drop, take, length, length-drop, length-set, List, map, flat_map, set, ℕ}
use Rattle.std.proofs.lemmas.List.{map-set, take_rest}
use Rattle.h5w_cache.specs.declared.moves.Move.{Move}
use Rattle.h5w_bt_nodes.specs.Blocks.{changes, each_by, news, placed, stood}
use Rattle.h5w_bt_nodes.proofs.Children.{child-there}
use Rattle.h5w_bt_nodes.proofs.Turns.{count_set_turn, count_turn, news_rest, settle_turn}
use Rattle.h5w_bt_nodes.proofs.inner.settle_below.Goals as goal

pub settle-below-requires : goal.settle-below-requires
settle-below-requires g c =
    let d = g.C.Subtree.depth in
    let t = g.C.Subtree.tree in
    let cs = c.loop-at.children.items in
    let x = c.index_mut.result.now in
    let ms = c.args.moves.now in
    let inside : c.loop-at.at < length cs = omega (arith, c.loop-at-test.true, c.len-at-end.ensures, c.loop-at.invariant.long) in
    let there = child-there t cs c.loop-at.at x inside c.index_mut.ensures.value in
    let left = count_turn (stood d) (map t cs) c.loop-at.at (t x) there in
    let room : changes d (t x) ≤ length (drop c.loop-at.below ms) = omega (arith, length-drop c.loop-at.below ms, left, c.loop-at.invariant.count, c.requires) in
    subst (λ (l : List Move). changes d (t x) ≤ length l) (sym (take_rest ms c.loop-at.below)) room

pub overflow_add-below : goal.overflow_add-below
overflow_add-below g c =
    let d = g.C.Subtree.depth in
    let t = g.C.Subtree.tree in
    let cs = c.loop-at.children.items in
    let x = c.index_mut.result.now in
    let inside : c.loop-at.at < length cs = omega (arith, c.loop-at-test.true, c.len-at-end.ensures, c.loop-at.invariant.long) in
    let left = count_turn (stood d) (map t cs) c.loop-at.at (t x) (child-there t cs c.loop-at.at x inside c.index_mut.ensures.value) in
    let few : c.loop-at.below + c.settle-below.result ≤ length c.args.moves.now = omega (arith, left, c.loop-at.invariant.count, c.requires, c.settle-below.ensures.count) in
    omega (arith, few)

pub loop-at-preserved : goal.loop-at-preserved
loop-at-preserved g c =
    let d = g.C.Subtree.depth in
    let t = g.C.Subtree.tree in
    let cs = c.loop-at.children.items in
    let i = c.loop-at.at in
    let k = c.loop-at.below in
    let x = c.index_mut.result.now in
    let y = c.settle-below.new.self in
    let ms = c.args.moves.now in
    let ps = news ms in
    let inside : i < length cs = omega (arith, c.loop-at-test.true, c.len-at-end.ensures, c.loop-at.invariant.long) in
    let there = child-there t cs i x inside c.index_mut.ensures.value in
    let mapped : map t (set cs i y) ≡ set (map t cs) i (t y) = map-set t cs i y in
    let now : t y ≡ placed d (drop k ps) (t x) = c.settle-below.ensures.placed ∙ ap (λ (l : List ℕ). placed d l (t x)) (news_rest ms k) in
    let n : c.settle-below.result ≡ changes d (t x) = c.settle-below.ensures.count in
    let left = count_set_turn (stood d) (map t cs) i (t x) (t y) there in
    record {
      long = length-set cs i y ∙ c.loop-at.invariant.long;
      count =
          let same = ap (λ (l : List _). length (flat_map (stood d) (drop (i + 1) l))) mapped in
          omega (arith, same, left, n, c.loop-at.invariant.count);
      placed =
          ap (λ (l : List _). take (i + 1) l ++ each_by (placed d) (changes d) (drop (k + c.settle-below.result) ps) (drop (i + 1) l)) mapped
          ∙ ap (λ (j : ℕ). take (i + 1) (set (map t cs) i (t y)) ++ each_by (placed d) (changes d) (drop (k + j) ps) (drop (i + 1) (set (map t cs) i (t y)))) n
          ∙ settle_turn (placed d) (changes d) ps k (map t cs) i (t x) (t y) there now
          ∙ c.loop-at.invariant.placed;
    }
