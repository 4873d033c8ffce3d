use Rattle.std.proofs.Common.{◌≡◌, ℕ, List, [], ◌∷◌, ◌+◌, ◌≤◌, ◌++◌, length, take, drop, refl, sym, ◌∙◌, ap, arith, rules}
use Rattle.h5w_model.proofs.MessageLemmas.{fill_value_bytes-is, fill_value_length}
use Rattle.h5w_model.proofs.IntegerLemmas.{int_size_bounds}
use Rattle.h5w_model.proofs.Writes.{written_then}
use Rattle.h5w_layout.specs.Integers.{cell_bytes}
use Rattle.h5w_layout.proofs.fill.put_value.Goals as goal

pub returns-clause-written : goal.returns-clause-written
returns-clause-written c =
    let cell = c.args.cell in
    let size = c.from-size.result in
    let header : List ℕ = 3 ∷ 0x2b ∷ cell.size ∷ 0 ∷ 0 ∷ 0 ∷ [] in
    let bounds = int_size_bounds cell.size c.requires.sized in
    let long : length (take size cell.bytes) ≡ size = search rules in
    let whole = fill_value_length (cell_bytes cell) in
    let same : take size cell.bytes ≡ cell_bytes cell = ap (λ (n : ℕ). take n cell.bytes) c.from-size.ensures in
    let count : length (cell_bytes cell) ≡ size = sym (ap length same) ∙ long in
    let given = c.requires.room in
    let room : 6 + size ≤ length c.args.out.now = omega arith in
    written_then c.args.out.now c.put_bytes.new.b c.put_bytes-2.new.b header (take size cell.bytes) 6 (6 + size) refl (omega arith) room
    c.put_bytes.ensures.written
    (c.put_bytes-2.ensures.written ∙ ap (λ (n : ℕ). (take 6 c.put_bytes.new.b ++ take size cell.bytes) ++ drop (6 + n) c.put_bytes.new.b) long)
    ∙ ap (λ (l : List ℕ). (header ++ l) ++ drop (6 + size) c.args.out.now) same
    ∙ ap (λ (l : List ℕ). l ++ drop (6 + size) c.args.out.now) (sym (fill_value_bytes-is (cell_bytes cell) cell.size (count ∙ c.from-size.ensures) (omega arith)))
