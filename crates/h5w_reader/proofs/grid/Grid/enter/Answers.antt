use Rattle.std.proofs.Common.{◌≡◌, ◌<◌, ◌≤◌, ◌∙◌, ◌∷◌, ◌++◌, [], List, Option, ℕ, Some, length, sym, ap, subst, arith}
use Rattle.std.proofs.lemmas.List.{length-append}
use Rattle.h5w_reader.specs.Bands.{reading_with}
use Rattle.h5w_reader.specs.Banding.{banded}
use Rattle.h5w_reader.specs.Values.{valued}
use Rattle.h5w_reader.specs.Grids.{AreWhole, grid_rest, touched_len}
use Rattle.h5w_dataset.specs.Described.{described_of}
use Rattle.h5w_reader.proofs.ReadLemmas.{valued_goes}
use Rattle.h5w_reader.proofs.SideLemmas.{grid_cut, grid_read, whole_some}
use Rattle.h5w_reader.proofs.grid.Grid.enter.Goals as goal

pub returns-then-got-len : goal.returns-then-got-len
returns-then-got-len c =
    let s = c.args.self in
    let r = reading_with c.args.known.now s.dataset in
    let long : c.args.ranges.len ≡ length c.args.ranges.items = omega (arith, c.args.ranges.ok.0) in
    let got : c.len-got.result ≡ length c.args.bytes.items = omega (arith, c.len-got.ensures, c.args.bytes.ok.0) in
    let short : length c.args.bytes.items < c.range-len.result.1 = omega (arith, got, c.if-got-len.true) in
    rw got (sym (grid_cut r s.from s.to c.args.band (length c.args.ranges.items) c.args.place c.range-len.result.1 c.args.values.items c.args.ranges.items c.args.bytes.items
    (subst (λ m. c.range-len.result.1 ≡ touched_len (described_of s.dataset) c.args.band m s.from s.to) (c.len.ensures ∙ long) c.range-len.ensures.len) short))

pub go_through-requires-clause-whole : goal.go_through-requires-clause-whole
go_through-requires-clause-whole c =
    let s = c.args.self in
    let d = described_of s.dataset in
    let i = c.args.band in
    let old = c.args.ranges.items in
    let b = c.args.bytes.items in
    let long : c.args.ranges.len ≡ length old = omega (arith, c.args.ranges.ok.0) in
    let size : c.range-len.result.1 ≡ touched_len d i (length old) s.from s.to = subst (λ m. c.range-len.result.1 ≡ touched_len d i m s.from s.to) (c.len.ensures ∙ long) c.range-len.ensures.len in
    let enough : c.range-len.result.1 ≤ length b = omega (arith, c.len-got.ensures, c.args.bytes.ok.0, c.if-got-len.false) in
    let whole_range : touched_len d i (length old) s.from s.to ≤ length b = subst (λ m. m ≤ length b) size enough in
    let items : c.push.new.self.items ≡ old ++ Some b ∷ [] = c.in_ok-push.ensures.items ∙ ap (λ (x : List ℕ). old ++ Some x ∷ []) c.from_vec-range.ensures in
    subst (AreWhole d i s.from s.to) (sym items) (whole_some d i s.from s.to old b c.requires.whole whole_range)

pub returns-in-Looks : goal.returns-in-Looks
returns-in-Looks c =
    let s = c.args.self in
    let k = c.args.known.now in
    let d = described_of s.dataset in
    let r = reading_with k s.dataset in
    let i = c.args.band in
    let old = c.args.ranges.items in
    let values = c.args.values.items in
    let b = c.args.bytes.items in
    let long : c.args.ranges.len ≡ length old = omega (arith, c.args.ranges.ok.0) in
    let size : c.range-len.result.1 ≡ touched_len d i (length old) s.from s.to = subst (λ m. c.range-len.result.1 ≡ touched_len d i m s.from s.to) (c.len.ensures ∙ long) c.range-len.ensures.len in
    let enough : c.range-len.result.1 ≤ length b = omega (arith, c.len-got.ensures, c.args.bytes.ok.0, c.if-got-len.false) in
    let items : c.push.new.self.items ≡ old ++ Some b ∷ [] = c.in_ok-push.ensures.items ∙ ap (λ (x : List ℕ). old ++ Some x ∷ []) c.from_vec-range.ensures in
    ap (banded k s i) (sym c.in-Looks.is)
    ∙ c.in_ok-through.ensures
    ∙ ap (λ (os : List (Option (List ℕ))). grid_rest r s.from s.to i (length os) values os) items
    ∙ ap (λ n. grid_rest r s.from s.to i n values (old ++ Some b ∷ [])) (length-append old (Some b ∷ []))
    ∙ sym (grid_read r s.from s.to i (length old) c.args.place c.range-len.result.1 values old b size enough)

pub returns : goal.returns
returns c =
    let s = c.args.self in
    let k = c.args.known.now in
    let d = described_of s.dataset in
    let r = reading_with k s.dataset in
    let i = c.args.band in
    let old = c.args.ranges.items in
    let values = c.args.values.items in
    let b = c.args.bytes.items in
    let long : c.args.ranges.len ≡ length old = omega (arith, c.args.ranges.ok.0) in
    let size : c.range-len.result.1 ≡ touched_len d i (length old) s.from s.to = subst (λ m. c.range-len.result.1 ≡ touched_len d i m s.from s.to) (c.len.ensures ∙ long) c.range-len.ensures.len in
    let enough : c.range-len.result.1 ≤ length b = omega (arith, c.len-got.ensures, c.args.bytes.ok.0, c.if-got-len.false) in
    let items : c.push.new.self.items ≡ old ++ Some b ∷ [] = c.in_ok-push.ensures.items ∙ ap (λ (x : List ℕ). old ++ Some x ∷ []) c.from_vec-range.ensures in
    ap (valued k) c.from.ensures
    ∙ valued_goes k c.in_ok-goes.goes
    ∙ c.in_ok-goes.ensures
    ∙ ap (banded k s i) (sym c.in-Done.is)
    ∙ c.in_ok-through.ensures
    ∙ ap (λ (os : List (Option (List ℕ))). grid_rest r s.from s.to i (length os) values os) items
    ∙ ap (λ n. grid_rest r s.from s.to i n values (old ++ Some b ∷ [])) (length-append old (Some b ∷ []))
    ∙ sym (grid_read r s.from s.to i (length old) c.args.place c.range-len.result.1 values old b size enough)
