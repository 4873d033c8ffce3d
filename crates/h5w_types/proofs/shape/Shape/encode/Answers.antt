use Rattle.std.proofs.Common.{◌≡◌, ℕ, List, [], ◌∷◌, ◌++◌, ◌+◌, ◌*◌, take, drop, length, flat_map, refl, sym, ◌∙◌, ap, arith}
use Rattle.h5w_model.proofs.MessageLemmas.{shape_at-shape_bytes, length-shape_bytes, length-shape_numbers, shape_rank}
use Rattle.h5w_model.proofs.Writes.{written_more, length-flat_map_le}
use Rattle.h5w_types.specs.Numbers.{le}
use Rattle.h5w_types.specs.Messages.{shape_bytes, shape_numbers}
use Rattle.h5w_types.specs.Fields.{shape_of}
use Rattle.h5w_types.proofs.shape.Shape.encode.Goals as goal

pub returns-clause-len : goal.returns-clause-len
returns-clause-len c =
    (c.put_numbers.ensures.len, length-shape_bytes (shape_of c.args.self.now) c.requires.shaped ∙ sym c.put_numbers.ensures.len)

pub returns-clause-written : goal.returns-clause-written
unfolding shape_bytes
returns-clause-written c =
    let s = shape_of c.args.self.now in
    let out = c.args.out.now in
    let end = c.put_numbers.result in
    let header : List ℕ = 2 ∷ s.rank ∷ 1 ∷ 1 ∷ [] in
    let numbers = flat_map (le 8) (shape_numbers s.rank s.rows s.cols s.growing) in
    let count = length-shape_numbers s.rank s.rows s.cols s.growing (shape_rank s c.requires.shaped) in
    let long : length numbers ≡ 16 * s.rank = length-flat_map_le 8 (shape_numbers s.rank s.rows s.cols s.growing) ∙ omega arith in
    let sized : end ≡ 4 + 16 * s.rank = c.put_numbers.ensures.len in
    let room = c.requires.room in
    c.put_numbers.ensures.written
    ∙ ap (λ (front : List ℕ). (take 4 (front ++ drop 4 out) ++ numbers) ++ drop end (front ++ drop 4 out)) c.copy_from_slice.ensures.after
    ∙ written_more out header numbers 0 4 end refl (omega arith) (omega arith)

pub returns-clause-reads_back : goal.returns-clause-reads_back
returns-clause-reads_back c = λ rest.
    shape_at-shape_bytes (shape_of c.args.self.now) rest c.requires.shaped (omega arith) (omega arith)
