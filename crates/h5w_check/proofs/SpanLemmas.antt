-- The keys under two nodes, one behind the other.
use Rattle.std.proofs.Common.{◌≡◌, ℕ, ◌+◌, Bool, true, false, ◌&&◌, List, [], ◌∷◌, ◌++◌, length, Option, Some, None, refl, sym, ◌∙◌, ap, arith, length-append}
use Rattle.std.proofs.lemmas.List.{append-nil}
use Rattle.h5w_model.specs.Tables.{key_below}
use Rattle.h5w_model.specs.Findings.{are_rising}
use Rattle.h5w_model.specs.declared.cell.Key.{Key}
use Rattle.h5w_check.specs.Spans.{capped, last_of, ends_of, span_of, in_order, ends_joined, joined_spans}
use Rattle.h5w_check.specs.declared.span.Span.{Span}

pub and_assoc : (a b c : Bool) → (a && (b && c)) ≡ (a && b && c)
and_assoc true b c = refl
and_assoc false b c = refl

and_true : (a : Bool) → (a && true) ≡ a
and_true true = refl
and_true false = refl

capped_sum : (a b : ℕ) → capped (a + b) ≡ capped (capped a + capped b)
capped_sum a b = omega arith

capped_assoc : (a b c : ℕ) → capped (capped (a + b) + c) ≡ capped (a + capped (b + c))
capped_assoc a b c = omega arith

last_more : (k : Key) (xs : List Key) (y : Key) (ys : List Key) → last_of k (xs ++ y ∷ ys) ≡ last_of y ys
last_more k [] y ys = refl
last_more k (x ∷ xs) y ys = last_more x xs y ys

ends_more : (xs ys : List Key) → ends_of (xs ++ ys) ≡ ends_joined (ends_of xs) (ends_of ys)
ends_more [] ys = refl
ends_more (x ∷ xs) [] = ap (λ (zs : List Key). Some (x, last_of x zs)) (append-nil xs)
ends_more (x ∷ xs) (y ∷ ys) = ap (λ (l : Key). Some (x, l)) (last_more x xs y ys)

rising_more : (xs ys : List Key) → are_rising (xs ++ ys) ≡ (are_rising xs && in_order (ends_of xs) (ends_of ys) && are_rising ys)
rising_more [] ys = refl
rising_more (x ∷ []) [] = refl
rising_more (x ∷ []) (y ∷ ys) = refl
rising_more (x ∷ l ∷ xs) [] =
    ap (λ b. key_below x l && b) (rising_more (l ∷ xs) [] ∙ and_true (are_rising (l ∷ xs) && true) ∙ and_true (are_rising (l ∷ xs)))
    ∙ sym (and_true (key_below x l && are_rising (l ∷ xs) && true) ∙ and_true (key_below x l && are_rising (l ∷ xs)))
rising_more (x ∷ l ∷ xs) (y ∷ ys) =
    ap (λ b. key_below x l && b) (rising_more (l ∷ xs) (y ∷ ys))
    ∙ and_assoc (key_below x l) (are_rising (l ∷ xs) && in_order (ends_of (l ∷ xs)) (ends_of (y ∷ ys))) (are_rising (y ∷ ys))
    ∙ ap (λ b. b && are_rising (y ∷ ys)) (and_assoc (key_below x l) (are_rising (l ∷ xs)) (in_order (ends_of (l ∷ xs)) (ends_of (y ∷ ys))))

same_span : (a b : Span) → a.count ≡ b.count → a.ends ≡ b.ends → a.rising ≡ b.rising → a ≡ b
same_span a b c e r = λ i. record { count = c i; ends = e i; rising = r i }

pub span_more : (xs ys : List Key) → span_of (xs ++ ys) ≡ joined_spans (span_of xs) (span_of ys)
span_more xs ys =
    same_span (span_of (xs ++ ys)) (joined_spans (span_of xs) (span_of ys)) (ap capped (length-append xs ys) ∙ capped_sum (length xs) (length ys)) (ends_more xs ys) (rising_more xs ys)

ends_assoc : (a b c : Option (Key × Key)) → ends_joined (ends_joined a b) c ≡ ends_joined a (ends_joined b c)
ends_assoc None b c = refl
ends_assoc (Some a) None c = refl
ends_assoc (Some a) (Some b) None = refl
ends_assoc (Some a) (Some b) (Some c) = refl

behind_none : (q k r : Bool) → (q && k && r) ≡ (k && (q && true && r))
behind_none true true r = refl
behind_none true false r = refl
behind_none false true r = refl
behind_none false false r = refl

before_none : (k q r : Bool) → (k && q && true && r) ≡ (k && (q && true && r))
before_none true true r = refl
before_none true false r = refl
before_none false q r = refl

between : (k q l r : Bool) → (k && q && l && r) ≡ (k && (q && l && r))
between true q l r = refl
between false q l r = refl

order_assoc : (p q r : Bool) (a b c : Option (Key × Key))
    → ((p && in_order a b && q) && in_order (ends_joined a b) c && r) ≡ (p && in_order a (ends_joined b c) && (q && in_order b c && r))
order_assoc false q r a b c = refl
order_assoc true q r None b c = refl
order_assoc true q r (Some a) None None = refl
order_assoc true q r (Some a) None (Some c) = behind_none q (key_below a.1 c.0) r
order_assoc true q r (Some a) (Some b) None = before_none (key_below a.1 b.0) q r
order_assoc true q r (Some a) (Some b) (Some c) = between (key_below a.1 b.0) q (key_below b.1 c.0) r

pub span_assoc : (a b c : Span) → joined_spans (joined_spans a b) c ≡ joined_spans a (joined_spans b c)
span_assoc a b c =
    same_span (joined_spans (joined_spans a b) c) (joined_spans a (joined_spans b c)) (capped_assoc a.count b.count c.count) (ends_assoc a.ends b.ends c.ends) (order_assoc a.rising b.rising c.rising a.ends b.ends c.ends)
