-- The order of keys.
use Rattle.std.proofs.Common.{◌≡◌, true, false, inl, inr, sym, arith}
use Rattle.std.proofs.lemmas.Bool.{cases_order, both_ways}
use Rattle.h5w_model.specs.declared.cell.Key.{Key}
use Rattle.h5w_model.specs.Tables.{key_below}
use Rattle.h5w_bt.proofs.KeyLemmas.{below_from, below_is, below-trans}

-- what is below a key is below one that is not below that
pub below_past : (a b c : Key) → key_below a b ≡ true → key_below c b ≡ false → key_below a c ≡ true
below_past a b c x y =
    elim (cases_order b.i c.i) [
      | inr (inl lt) ↦ below-trans a b c x (below_from b c (inl lt))
      | inr (inr gt) ↦ absurd (both_ways (key_below c b) y (below_from c b (inl gt)))
      | inl e ↦ elim (cases_order b.j c.j) [
        | inr (inl lt) ↦ below-trans a b c x (below_from b c (inr (e, lt)))
        | inr (inr gt) ↦ absurd (both_ways (key_below c b) y (below_from c b (inr (sym e, gt))))
        | inl f ↦ elim (below_is a b x) [ inl l ↦ below_from a c (inl (omega arith)) | inr r ↦ (let u = r.0 in let v = r.1 in below_from a c (inr (omega arith, omega arith))) ]
      ]
    ]
