use Rattle.std.proofs.Common.{rules, ◌≡◌, ◌+◌, ◌^◌, ◌<◌, ◌≤◌, false, get_or, inl, inr, arith}
use Rattle.std.proofs.lemmas.Bool.{cases_lt}
use Rattle.h5w_chunks.specs.declared.grid.ChunkPlace.{ChunkPlace}
use Rattle.h5w_chunks.proofs.Geometry.{is_cut}
use Rattle.h5w_chunks.specs.Grids.{dataset_of}
use Rattle.h5w_pieces.specs.RowPieces.{chunk_pieces}
use Rattle.h5w_pieces.proofs.AllIn.{on_none}
use Rattle.h5w_pieces.proofs.RowPieces.{most_last, most_next, new_writes_most}
use Rattle.h5w_pieces.proofs.rows.most_pieces.Goals as goal

abbrev none : ChunkPlace
none = record { address = 0; stored = false }

pub loop-k-init : goal.loop-k-init
loop-k-init c = omega arith

pub loop-k-preserved : goal.loop-k-preserved
loop-k-preserved c =
    let a = c.args in
    let d = dataset_of a.grid.now in
    let one : c.chunk_pieces.result ≡ chunk_pieces d a.from a.to c.loop-k.k (get_or a.places.now c.loop-k.k none) = c.chunk_pieces.ensures in
    let sum : c.in_ok-count.count ≡ c.loop-k.count + c.chunk_pieces.result = search rules in
    omega (arith, c.loop-k.invariant, most_next d a.from a.to a.places.now c.loop-k.k none c.loop-k-test.true, one, sum)

pub returns-in_err-count-clause-none : goal.returns-in_err-count-clause-none
returns-in_err-count-clause-none c =
    let a = c.args in
    let d = dataset_of a.grid.now in
    let one : c.chunk_pieces.result ≡ chunk_pieces d a.from a.to c.loop-k.k (get_or a.places.now c.loop-k.k none) = c.chunk_pieces.ensures in
    let next = most_next d a.from a.to a.places.now c.loop-k.k none c.loop-k-test.true in
    let over : (c.loop-k.count + c.chunk_pieces.result < 2 ^ 64) → ⊥ = search rules in
    let past : 2 ^ 64 ≤ c.loop-k.count + c.chunk_pieces.result = elim (cases_lt (c.loop-k.count + c.chunk_pieces.result) (2 ^ 64)) [
      | inl less ↦ absurd (over less)
      | inr h ↦ h
    ] in
    on_none c.from_residual.result (omega (arith, c.loop-k.invariant, next, one, past))

pub returns-clause-sum : goal.returns-clause-sum
returns-clause-sum c =
    let a = c.args in
    let d = dataset_of a.grid.now in
    let last = most_last d a.from a.to a.places.now c.loop-k.k (omega (arith, c.loop-k-test.false)) in
    omega (arith, c.loop-k.invariant, last)

pub returns-clause-enough : goal.returns-clause-enough
returns-clause-enough c cells count =
    let a = c.args in
    let d = dataset_of a.grid.now in
    let last = most_last d a.from a.to a.places.now c.loop-k.k (omega (arith, c.loop-k-test.false)) in
    omega (arith, c.loop-k.invariant, last, new_writes_most d cells a.from a.to a.places.now (is_cut a.grid.now c.requires.grid) count c.requires.all)
