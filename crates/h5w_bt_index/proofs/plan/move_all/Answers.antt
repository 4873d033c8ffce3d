use Rattle.std.proofs.Common.{◌≡◌, ◌<◌, ◌+◌, ◌++◌, ◌∷◌, [], ◌∙◌, ap, sym, arith, subst, get_or, take, List, ℕ, length}
use Rattle.std.proofs.lemmas.List.{map-append, take_more}
use Rattle.h5w_cache.specs.declared.moves.Move.{Move}
use Rattle.h5w_cache.proofs.PlanLemmas.{Chain-push}
use Rattle.h5w_bt_index.specs.Plans.{AreNodeMoves, IsNodeMove, olds}
use Rattle.h5w_bt_index.proofs.plan.move_all.Goals as goal

olds-more : (ms all : List Move) (m : Move) (stood : List ℕ) (i : ℕ) → i < length stood → all ≡ ms ++ m ∷ [] → olds ms ≡ take i stood → m.old ≡ get_or stood i 0 → olds all ≡ take (i + 1) stood
olds-more ms all m stood i h e n is =
    ap olds e ∙ map-append (λ (x : Move). x.old) ms (m ∷ []) ∙ ap (λ l. l ++ m.old ∷ []) n ∙ ap (λ x. take i stood ++ x ∷ []) is ∙ sym (take_more stood i 0 h)

pub loop-old-preserved : goal.loop-old-preserved
loop-old-preserved c =
    let all = c.push_reserved.ensures.items in
    record {
      old = olds-more c.loop-old.moves.items c.push_reserved.new.self.items c.in_ok-node_move.node_move c.args.stood.now c.loop-old.old-index c.loop-old-test.true all c.loop-old.invariant.old c.in_ok-node_move.ensures.old;
      moves = subst (λ l. AreNodeMoves c.args.places.now l c.move_from.new.places) (sym all)
          (Chain-push IsNodeMove c.args.places.now c.loop-old.moves.items c.in_ok-node_move.node_move c.loop-old.places c.move_from.new.places c.loop-old.invariant.moves c.in_ok-node_move.ensures.ok);
      count = omega (arith, c.loop-old.invariant.count, c.push_reserved.ensures.len, c.loop-old.moves.ok, c.push_reserved.new.self.ok);
      capacity = c.push_reserved.ensures.capacity ∙ c.loop-old.invariant.capacity;
    }
