use Rattle.std.proofs.Common.{arith, length-append, ◌+◌, ◌/◌, ◌≡◌, ◌++◌, ◌∷◌, [], ◌∙◌, ap, List, ℕ, length, min, vec_len}
use Rattle.h5w_model.specs.Images.{pieces}
use Rattle.h5w_model.specs.declared.piece.Write.{Write}
use Rattle.h5w_model.proofs.PieceLemmas.{pieces_all, pieces_next}
use Rattle.h5w_bytes.proofs.CountLemmas.{count_next}
use Rattle.h5w_bytes.proofs.pieces.put_pieces.Goals as goal

pub loop-part-preserved : goal.loop-part-preserved
loop-part-preserved c =
    let steps = c.in-Some.ensures.steps in
    let part = c.in-Some.part.now in
    let added = c.push_write.ensures.items in
    let all = c.args.out.now.items ++ pieces c.args.place c.args.bytes.now in
    let count = steps.1.1 ∙ ap (λ (n : ℕ). min n (length c.loop-part.part-iterator.rest.now)) c.loop-part.invariant.size in
    let lengths : length c.loop-part.part-iterator.rest.now ≡ length part + length c.next.new.self.rest.now = ap length steps.1.0 ∙ length-append part c.next.new.self.rest.now in
    record {
      size = steps.0 ∙ c.loop-part.invariant.size;
      goes = pieces_next c.loop-part.out.items c.push_write.new.out.items all c.loop-part.at c.loop-part.part-iterator.rest.now part c.next.new.self.rest.now steps.1.0 count steps.1.2 added c.loop-part.invariant.goes;
      fits = omega (arith, c.loop-part.invariant.fits, lengths);
      count = count_next (length c.loop-part.part-iterator.rest.now) (length part) (length c.next.new.self.rest.now) (vec_len c.loop-part.out) (vec_len c.push_write.new.out) (vec_len c.args.out.now + (length c.args.bytes.now + 511) / 512) lengths count steps.1.2 c.push_write.ensures.len c.loop-part.invariant.count;
      capacity = c.push_write.ensures.capacity ∙ c.loop-part.invariant.capacity;
    }

pub returns-clause-items : goal.returns-clause-items
returns-clause-items c =
    let steps = c.in-None.ensures.steps in
    pieces_all c.loop-part.out.items (c.args.out.now.items ++ pieces c.args.place c.args.bytes.now) c.loop-part.at c.loop-part.part-iterator.rest.now steps.1.0 c.loop-part.invariant.goes
