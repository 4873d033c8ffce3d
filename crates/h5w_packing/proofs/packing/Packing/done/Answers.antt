use Rattle.std.proofs.Common.{◌≡◌, ◌<◌, ap, ◌∙◌, arith, length}
use Rattle.std.specs.Prelude.{drop, slice_index_or}
use Rattle.h5w_packing.specs.Jobs.{PackingView}
use Rattle.h5w_packing.specs.declared.job.Copied.{Copied}
use Rattle.h5w_packing.proofs.LeftLemmas.{byte_of, first_byte, left_chunk, left_more, left_next, left_of, left_written, more_bytes, none, one_less, some_left}
use Rattle.h5w_packing.proofs.packing.Packing.done.Goals as goal

pub overflow_sub-self : goal.overflow_sub-self
overflow_sub-self c =
    let s = c.self.inside in
    let inside : s.copied < length s.chunks.items = omega (arith, c.if-self-len.true, c.len.ensures) in
    some_left (left_of s.at (drop s.copied s.chunks.items) (drop s.written s.writes.items)) _ _ s.left c.self.invariant.2
    (left_chunk s.at s.chunks.items (drop s.written s.writes.items) s.copied none inside (byte_of s.at s.chunks.items s.copied none inside c.self.invariant.0))

pub invariant_of-self : goal.invariant_of-self
invariant_of-self c =
    let s = c.self.inside in
    let inside : s.copied < length s.chunks.items = omega (arith, c.if-self-len.true, c.len.ensures) in
    let x : Copied = c.index.result.now in
    let here = byte_of s.at s.chunks.items s.copied x inside c.self.invariant.0 in
    let more = left_more s.at s.chunks.items (drop s.written s.writes.items) s.copied x inside here in
    let some = some_left (left_of s.at (drop s.copied s.chunks.items) (drop s.written s.writes.items)) _ _ s.left c.self.invariant.2 (left_chunk s.at s.chunks.items (drop s.written s.writes.items) s.copied x inside here) in (
      more_bytes _ s.chunks.items s.copied x inside (omega (arith, c.if-index-self.true, ap (λ (y : Copied). y.len) c.index.ensures)),
      c.self.invariant.1,
      one_less _ _ s.left c.self.invariant.2 more some,
    )

pub invariant_of-self-else-index-self : goal.invariant_of-self-else-index-self
invariant_of-self-else-index-self c =
    let s = c.self.inside in
    let inside : s.copied < length s.chunks.items = omega (arith, c.if-self-len.true, c.len.ensures) in
    let x : Copied = c.index.result.now in
    let here = byte_of s.at s.chunks.items s.copied x inside c.self.invariant.0 in
    let next = left_next s.at s.chunks.items (drop s.written s.writes.items) s.copied x inside here (omega (arith, c.if-index-self.false, ap (λ (y : Copied). y.len) c.index.ensures)) in
    let some = some_left (left_of s.at (drop s.copied s.chunks.items) (drop s.written s.writes.items)) _ _ s.left c.self.invariant.2 (left_chunk s.at s.chunks.items (drop s.written s.writes.items) s.copied x inside here) in
    (first_byte s.chunks.items _ c.self.invariant.1, c.self.invariant.1, one_less _ _ s.left c.self.invariant.2 next some)

pub returns-then-index-self-clause-left : goal.returns-then-index-self-clause-left
returns-then-index-self-clause-left c =
    let s = c.self.inside in
    let inside : s.copied < length s.chunks.items = omega (arith, c.if-self-len.true, c.len.ensures) in
    left_more s.at s.chunks.items (drop s.written s.writes.items) s.copied none inside (byte_of s.at s.chunks.items s.copied none inside c.self.invariant.0)
    ∙ ap (λ (p : PackingView). drop 1 p.left) c.self.view_is

pub returns-else-index-self-clause-left : goal.returns-else-index-self-clause-left
returns-else-index-self-clause-left c =
    let s = c.self.inside in
    let inside : s.copied < length s.chunks.items = omega (arith, c.if-self-len.true, c.len.ensures) in
    let x : Copied = c.index.result.now in
    left_next s.at s.chunks.items (drop s.written s.writes.items) s.copied x inside (byte_of s.at s.chunks.items s.copied x inside c.self.invariant.0) (omega (arith, c.if-index-self.false, ap (λ (y : Copied). y.len) c.index.ensures))
    ∙ ap (λ (p : PackingView). drop 1 p.left) c.self.view_is

pub returns-then-self-len-2-clause-left : goal.returns-then-self-len-2-clause-left
returns-then-self-len-2-clause-left c =
    let s = c.self.inside in
    left_written s.at s.chunks.items s.writes.items s.copied s.written (omega (arith, c.if-self-len.false, c.len.ensures)) (omega (arith, c.if-self-len-2.true, c.len-else-self-len.ensures))
    ∙ ap (λ (p : PackingView). drop 1 p.left) c.self.view_is
