use Rattle.std.proofs.Common.{◌≡◌, ◌+◌, ◌-◌, ◌<◌, ◌++◌, ◌∷◌, [], List, sym, ap, ◌∙◌, append_assoc, arith, rules}
use Rattle.h5w_space.specs.Space.{extent}
use Rattle.h5w_space.specs.declared.Extent.{Extent}
use Rattle.h5w_space.specs.Ranges.{range_at}
use Rattle.h5w_array_laws.specs.ArrayStores.{map_of}
use Rattle.h5w_writer_open.specs.OpenRanges.{chunks_from}
use Rattle.h5w_writer_open.proofs.OpenRangeLemmas.{found_range, next_chunk, unfound_range}
use Rattle.h5w_writer_open.proofs.ranges.array_chunks.Goals as goal
use Rattle.h5w_writer_open.proofs.ranges.array_chunks.Goals.{in-Some+in_ok-push, in_default}

pub loop-i-preserved : goal.loop-i-preserved
loop-i-preserved c =
    let a = c.args in
    let v = a.array.now in
    let i = c.loop-i.i in
    let low : i < 131060 = omega (arith, c.loop-i-test.true) in
    let before : List Extent = c.loop-i.chunks.items in
    let rest : List Extent = chunks_from v a.len (i + 1) (131060 - (i + 1)) in
    let here : List Extent = range_at (map_of v i) a.len in
    let added : c.match-get.chunks.items ≡ before ++ here = elim c.match-get.branch [
      | in-Some+in_ok-push w ↦
          let items : c.match-get.chunks.items ≡ before ++ extent w.in-Some.at a.len ∷ [] = search rules in
          items ∙ ap (λ (es : List Extent). before ++ es) (sym (found_range a.len (map_of v i) w.in-Some.at (sym c.get.ensures.exact ∙ w.in-Some.is)))
      | in_default w ↦
          let items : c.match-get.chunks.items ≡ before ++ [] = search rules in
          items ∙ ap (λ (es : List Extent). before ++ es) (sym (unfound_range a.len (map_of v i) (sym c.get.ensures.exact ∙ w.in_default.is)))
    ] in
    ap (λ (es : List Extent). es ++ rest) added
    ∙ append_assoc before here rest
    ∙ ap (λ (es : List Extent). before ++ es) (sym (next_chunk a.len v i low))
    ∙ c.loop-i.invariant
