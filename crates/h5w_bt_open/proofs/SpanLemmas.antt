-- The keys that lead to a node, and those that lead on.
use Rattle.std.proofs.Common.{◌≡◌, ◌⊎◌, inl, inr, suc, ◌<◌, ◌≤◌, Bool, true, false, nat_lt, Option, Some, None, refl, arith, if◌then◌else◌}
use Rattle.std.proofs.lemmas.Bool.{both_ways, cases_order, false_from_ne_true, ltb-false}
use Rattle.h5w_model.specs.declared.cell.Key.{Key}
use Rattle.h5w_model.specs.Numbers.{undefined}
use Rattle.h5w_model.specs.Tables.{key_below}
use Rattle.h5w_bt.proofs.KeyLemmas.{Less, below_from, below_is, below-trans, below-not_back}
use Rattle.h5w_bt_open.specs.declared.span.Span.{Span}
use Rattle.h5w_bt_open.specs.Spans.{IsFrom, IsKey, IsUpTo, Leads, after, before, greater, high_of, low_of, next_key, span_of}

-- ---- The order of keys

-- a key is not below another: it is at least that one
abbrev pub AtLeast : Key → Key → Type 0
AtLeast a b = (b.i < a.i) ⊎ ((a.i ≡ b.i) × (b.j ≤ a.j))

least_is : (a b : Key) → key_below a b ≡ false → AtLeast a b
least_is a b h = elim (cases_order a.i b.i) [
  | inr (inl lt) ↦ absurd (both_ways (key_below a b) h (below_from a b (inl lt)))
  | inr (inr gt) ↦ inl gt
  | inl e ↦ elim (cases_order a.j b.j) [
    | inr (inl lt) ↦ absurd (both_ways (key_below a b) h (below_from a b (inr (e, lt))))
    | inr (inr gt) ↦ inr (e, omega (arith, gt))
    | inl f ↦ inr (e, omega (arith, f))
  ]
]

clash : (a b : Key) → AtLeast a b → Less a b → ⊥
clash a b (inl x) (inl y) = omega arith
clash a b (inl x) (inr y) = omega arith
clash a b (inr x) (inl y) = omega arith
clash a b (inr x) (inr y) = omega arith

least_from : (a b : Key) → AtLeast a b → key_below a b ≡ false
least_from a b h = false_from_ne_true (key_below a b) (λ y. clash a b h (below_is a b y))

least_trans : (a b c : Key) → AtLeast a b → AtLeast b c → AtLeast a c
least_trans a b c (inl x) (inl y) = inl (omega arith)
least_trans a b c (inl x) (inr y) = inl (omega arith)
least_trans a b c (inr x) (inl y) = inl (omega arith)
least_trans a b c (inr x) (inr y) = inr (omega arith, omega arith)

less_least : (a b c : Key) → Less a b → AtLeast c b → Less a c
less_least a b c (inl x) (inl y) = inl (omega arith)
less_least a b c (inl x) (inr y) = inl (omega arith)
less_least a b c (inr x) (inl y) = inl (omega arith)
less_least a b c (inr x) (inr y) = inr (omega arith, omega arith)

least_less : (a b c : Key) → AtLeast b a → Less b c → Less a c
least_less a b c (inl x) (inl y) = inl (omega arith)
least_less a b c (inl x) (inr y) = inl (omega arith)
least_less a b c (inr x) (inl y) = inl (omega arith)
least_less a b c (inr x) (inr y) = inr (omega arith, omega arith)

-- k is at least n, which is at least l
pub at_least_both : (k n l : Key) → key_below k n ≡ false → key_below n l ≡ false → key_below k l ≡ false
at_least_both k n l x y = least_from k l (least_trans k n l (least_is k n x) (least_is n l y))

-- r is below n, and k at least n
pub below_least : (r n k : Key) → key_below r n ≡ true → key_below k n ≡ false → key_below r k ≡ true
below_least r n k x y = below_from r k (less_least r n k (below_is r n x) (least_is k n y))

-- l is at most k, which is below h
pub least_below : (l k h : Key) → key_below k l ≡ false → key_below k h ≡ true → key_below l h ≡ true
least_below l k h x y = below_from l h (least_less l k h (least_is k l x) (below_is k h y))

-- k is below h, which is at most r
pub below_before : (k h r : Key) → key_below k h ≡ true → key_below r h ≡ false → key_below k r ≡ true
below_before k h r x y = below_least k h r x y

-- ---- The next key

unless : {A : Type 0} (P : A → Type 0) (b : Bool) (x y : A) → (b ≡ true → P x) → (b ≡ false → P y) → P (if b then x else y)
unless P true x y p q = p refl
unless P false x y p q = q refl

behind_column : (r k : Key) → Less r k → Less k (record { i = r.i; j = suc r.j }) → ⊥
behind_column r k (inl x) (inl y) = omega arith
behind_column r k (inl x) (inr y) = omega arith
behind_column r k (inr x) (inl y) = omega arith
behind_column r k (inr x) (inr y) = omega arith

behind_row : (r k : Key) → IsKey k → undefined ≤ r.j → Less r k → Less k (record { i = suc r.i; j = 0 }) → ⊥
behind_row r k fits far (inl x) (inl y) = omega arith
behind_row r k fits far (inl x) (inr y) = omega arith
behind_row r k fits far (inr x) h = let c = fits.column in omega arith

behind_all : (r k : Key) → IsKey k → undefined ≤ r.j → undefined ≤ r.i → Less r k → ⊥
behind_all r k fits far more (inl x) = let c = fits.row in omega arith
behind_all r k fits far more (inr x) = let c = fits.column in omega arith

pub next_from : (r k : Key) → IsKey k → key_below r k ≡ true → IsFrom (next_key r) k
next_from r k fits h =
    let P : Option Key → Type 0 = λ o. IsFrom o k in
    unless P (nat_lt r.j undefined) _ _
    (λ t. false_from_ne_true (key_below k (record { i = r.i; j = suc r.j })) (λ y. behind_column r k (below_is r k h) (below_is k _ y)))
    (λ f. unless P (nat_lt r.i undefined) _ _
    (λ t. false_from_ne_true (key_below k (record { i = suc r.i; j = 0 })) (λ y. behind_row r k fits (ltb-false r.j undefined f) (below_is r k h) (below_is k _ y)))
    (λ g. absurd (behind_all r k fits (ltb-false r.j undefined f) (ltb-false r.i undefined g) (below_is r k h))))

pub from_next : (r k : Key) → IsFrom (next_key r) k → key_below r k ≡ true
from_next r k =
    let P : Option Key → Type 0 = λ o. IsFrom o k → key_below r k ≡ true in
    unless P (nat_lt r.j undefined) _ _
    (λ t. λ h. below_least r (record { i = r.i; j = suc r.j }) k (below_from r _ (inr (refl, omega arith))) h)
    (λ f. unless P (nat_lt r.i undefined) _ _
    (λ t. λ h. below_least r (record { i = suc r.i; j = 0 }) k (below_from r _ (inl (omega arith))) h)
    (λ g. λ h. absurd h))

-- ---- From a key on

pub from_greater : (low k : Key) (o : Option Key) → key_below k low ≡ false → IsFrom o k → IsFrom (greater low o) k
from_greater low k None h n = n
from_greater low k (Some next) h n = unless (λ (q : Key). key_below k q ≡ false) (key_below low next) next low (λ t. n) (λ f. h)

pub greater_from : (low k : Key) (o : Option Key) → IsFrom (greater low o) k → (key_below k low ≡ false) × IsFrom o k
greater_from low k None n = absurd n
greater_from low k (Some next) n =
    unless (λ (q : Key). key_below k q ≡ false → (key_below k low ≡ false) × (key_below k next ≡ false)) (key_below low next) next low
    (λ t. λ h. (at_least_both k next low h (below-not_back low next t), h))
    (λ f. λ h. (h, at_least_both k low next h f)) n

pub from_after : (low : Option Key) (r k : Key) → IsKey k → IsFrom low k → key_below r k ≡ true → IsFrom (after low r) k
from_after None r k fits h b = h
from_after (Some low) r k fits h b = from_greater low k (next_key r) h (next_from r k fits b)

pub after_from : (low : Option Key) (r k : Key) → IsFrom (after low r) k → IsFrom low k × (key_below r k ≡ true)
after_from None r k h = absurd h
after_from (Some low) r k h = let p = greater_from low k (next_key r) h in (p.0, from_next r k p.1)

-- ---- Up to a key

pub up_before : (high : Option Key) (r k : Key) → IsUpTo high k → key_below k r ≡ true → IsUpTo (before high r) k
up_before None r k h b = b
up_before (Some high) r k h b = unless (λ (q : Key). key_below k q ≡ true) (key_below r high) r high (λ t. b) (λ f. h)

pub before_up : (high : Option Key) (r k : Key) → IsUpTo (before high r) k → IsUpTo high k × (key_below k r ≡ true)
before_up None r k h = (tt, h)
before_up (Some high) r k n =
    unless (λ (q : Key). key_below k q ≡ true → (key_below k high ≡ true) × (key_below k r ≡ true)) (key_below r high) r high
    (λ t. λ h. (below-trans k r high h t, h))
    (λ f. λ h. (h, below_before k high r h f)) n

-- ---- Between

pub record IsBetween (from to : Option Key) (key : Key) : Type 0 where
  pub low : IsFrom from key
  pub high : IsUpTo to key

pub between_leads : (low high : Option Key) (k : Key) → IsBetween low high k → Leads (span_of low high) k
between_leads None high k b = absurd b.low
between_leads (Some low) None k b = (b.low, tt)
between_leads (Some low) (Some high) k b =
    unless (λ (o : Option Span). Leads o k) (key_below low high) _ _ (λ t. (b.low, b.high)) (λ f. absurd (both_ways (key_below low high) f (least_below low k high b.low b.high)))

pub leads_between : (low high : Option Key) (k : Key) → Leads (span_of low high) k → IsBetween low high k
leads_between None high k h = absurd h
leads_between (Some low) None k h = record { low = h.0; high = tt }
leads_between (Some low) (Some high) k n =
    unless (λ (o : Option Span). Leads o k → IsBetween (Some low) (Some high) k) (key_below low high) _ _ (λ t. λ h. record { low = h.0; high = h.1 }) (λ f. λ h. absurd h) n

pub of_span : (s : Option Span) (k : Key) → Leads s k → IsBetween (low_of s) (high_of s) k
of_span None k h = absurd h
of_span (Some s) k h = record { low = h.0; high = h.1 }

pub span_from : (s : Option Span) (k : Key) → IsBetween (low_of s) (high_of s) k → Leads s k
span_from None k b = absurd b.low
span_from (Some s) k b = (b.low, b.high)
