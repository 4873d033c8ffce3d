use Rattle.std.proofs.Common.{◌≡◌, ◌++◌, ◌∷◌, [], ◌∙◌, ℕ, ap, rules}
use Rattle.std.specs.Prelude.{codes, slice_index_or}
use Rattle.h5w_text.specs.Table.{numbers_text}
use Rattle.h5w_packing.specs.declared.ranges.Range.{Range}
use Rattle.h5w_repacking.specs.Repacks.{ranges_text}
use Rattle.h5w_repacking.proofs.TextLemmas.{range_told, ranges_told}
use Rattle.h5w_repacking.proofs.repacking.write_ranges.Goals as goal

abbrev none : Range
none = record { at = 0; len = 0; kind = 0 }

pub loop-range-init : goal.loop-range-init
loop-range-init c = ap (λ ts. c.args.out.now.items ++ ranges_text ts) c.as_slice-range-items.ensures

pub loop-range-preserved : goal.loop-range-preserved
loop-range-preserved c =
    let rs = c.as_slice-range-items.result.now in
    let x : Range = slice_index_or rs c.loop-range.range-index none in
    let is : c.from.result ≡ x.kind = search rules in
    range_told rs c.loop-range.range-index none c.loop-range.out.items _ _ c.loop-range-test.true c.loop-range.invariant
    (c.in_ok-write_numbers.ensures ∙ ap (λ (k : ℕ). c.loop-range.out.items ++ numbers_text (codes "range") (x.at ∷ x.len ∷ k ∷ [])) is)

pub returns : goal.returns
returns c = ranges_told c.as_slice-range-items.result.now c.loop-range.range-index c.loop-range.out.items _ c.loop-range-test.false c.loop-range.invariant
