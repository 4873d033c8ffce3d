use Rattle.std.proofs.Common.{◌≡◌, ◌++◌, sym, subst, ap, ap₂, ◌∙◌, OnOk, List, Option}
use Rattle.h5w_space.specs.declared.Extent.{Extent}
use Rattle.h5w_bt_index.specs.declared.root.Root.{Root}
use Rattle.h5w_bt_index.specs.declared.root.Root.TheVariants.{Zero, One, Two, Three}
use Rattle.h5w_bt_index.specs.Index.{IsShaped, index_of}
use Rattle.h5w_bt_open.specs.declared.span.Span.{Span}
use Rattle.h5w_bt_open.specs.Needed.{needed_ranges, ranges_from}
use Rattle.h5w_bt_open.proofs.kept.add_ranges.Goals as goal

pub add_ranges-requires-clause-shape : goal.add_ranges-requires-clause-shape
add_ranges-requires-clause-shape c = (subst (λ (r : Root). IsShaped (index_of r)) c.in-Zero.is c.requires).shape

pub returns-in-Zero : goal.returns-in-Zero
returns-in-Zero c =
    let a = c.args in
    let r = c.add_ranges in
    let at_keys = subst (λ (s : Option Span). OnOk r.result (r.new.out.items ≡ a.out.now.items ++ needed_ranges (index_of (Zero c.in-Zero.root)).depth s (index_of (Zero c.in-Zero.root)).root)) c.keys_from-keys.ensures.exact r.ensures in
    subst (λ (x : Root). OnOk r.result (r.new.out.items ≡ a.out.now.items ++ ranges_from a.first (index_of x))) (sym c.in-Zero.is) at_keys

pub add_ranges-requires-in-One-clause-shape : goal.add_ranges-requires-in-One-clause-shape
add_ranges-requires-in-One-clause-shape c = (subst (λ (r : Root). IsShaped (index_of r)) c.in-One.is c.requires).shape

pub returns-in-One : goal.returns-in-One
returns-in-One c =
    let a = c.args in
    let r = c.add_ranges-in-One in
    let at_keys = subst (λ (s : Option Span). OnOk r.result (r.new.out.items ≡ a.out.now.items ++ needed_ranges (index_of (One c.in-One.root)).depth s (index_of (One c.in-One.root)).root)) c.keys_from-keys.ensures.exact r.ensures in
    subst (λ (x : Root). OnOk r.result (r.new.out.items ≡ a.out.now.items ++ ranges_from a.first (index_of x))) (sym c.in-One.is) at_keys

pub add_ranges-requires-in-Two-clause-shape : goal.add_ranges-requires-in-Two-clause-shape
add_ranges-requires-in-Two-clause-shape c = (subst (λ (r : Root). IsShaped (index_of r)) c.in-Two.is c.requires).shape

pub returns-in-Two : goal.returns-in-Two
returns-in-Two c =
    let a = c.args in
    let r = c.add_ranges-in-Two in
    let at_keys = subst (λ (s : Option Span). OnOk r.result (r.new.out.items ≡ a.out.now.items ++ needed_ranges (index_of (Two c.in-Two.root)).depth s (index_of (Two c.in-Two.root)).root)) c.keys_from-keys.ensures.exact r.ensures in
    subst (λ (x : Root). OnOk r.result (r.new.out.items ≡ a.out.now.items ++ ranges_from a.first (index_of x))) (sym c.in-Two.is) at_keys

pub add_ranges-requires-in-Three-clause-shape : goal.add_ranges-requires-in-Three-clause-shape
add_ranges-requires-in-Three-clause-shape c = (subst (λ (r : Root). IsShaped (index_of r)) c.in-Three.is c.requires).shape

pub returns-in-Three : goal.returns-in-Three
returns-in-Three c =
    let a = c.args in
    let r = c.add_ranges-in-Three in
    let at_keys = subst (λ (s : Option Span). OnOk r.result (r.new.out.items ≡ a.out.now.items ++ needed_ranges (index_of (Three c.in-Three.root)).depth s (index_of (Three c.in-Three.root)).root)) c.keys_from-keys.ensures.exact r.ensures in
    subst (λ (x : Root). OnOk r.result (r.new.out.items ≡ a.out.now.items ++ ranges_from a.first (index_of x))) (sym c.in-Three.is) at_keys
