-- One child after another, as they are loaded.
use Rattle.std.proofs.Common.{◌≡◌, ℕ, zero, suc, ◌+◌, ◌<◌, ◌≤◌, List, [], ◌∷◌, ◌++◌, drop, length, map, Option, Some, None, IfSome, Result, Ok, refl, sym, ap, subst, ◌∙◌, arith, append-nil, append_assoc, add-one, slice_index_or}
use Rattle.std.specs.List.{All}
use Rattle.std.proofs.lemmas.List.{map-append}
use Rattle.std.proofs.lemmas.List.Elements.{All-head, All-tail}
use Rattle.h5w_model.specs.Trees.{ChildFields}
use Rattle.h5w_model.specs.declared.cell.Key.{Key}
use Rattle.h5w_model.specs.declared.refusal.BlockFault.{BlockFault}
use Rattle.h5w_model.specs.declared.refusal.ReadError.{ReadError}
use Rattle.h5w_bt.specs.declared.records.Record.{Record}
use Rattle.h5w_bt.specs.declared.children.Child.{Child}
use Rattle.h5w_bt.specs.Parts.{child_of, record_of}
use Rattle.h5w_bt_open.specs.declared.span.Span.{Span}
use Rattle.h5w_bt_open.specs.Spans.{IsFrom, IsKey, IsProper, IsUpTo, Leads, high_of, low_behind, low_of, rest, span_here}
use Rattle.h5w_bt_open.specs.Opened.{EachOpened, IsChild, IsRefused, looked_below, looked_up}
use Rattle.h5w_bt_open.proofs.SpanLemmas.{IsBetween, of_span, span_from}
use Rattle.h5w_bt_open.proofs.RefusedLemmas.{refused_as_well, refused_behind, refused_child}

-- ---- Lists

pub drop_here : {A : Type 0} (xs : List A) (i : ℕ) (d : A) → i < length xs → drop i xs ≡ slice_index_or xs i d ∷ drop (suc i) xs
drop_here [] i d h = absurd (omega arith)
drop_here (x ∷ xs) zero d h = refl
drop_here (x ∷ xs) (suc i) d h = drop_here xs i d (omega (arith, h))

pub rest_dropped : (rs : List Record) (i : ℕ) → rest (drop i rs) ≡ drop (suc i) rs
rest_dropped [] zero = refl
rest_dropped [] (suc i) = refl
rest_dropped (r ∷ rs) zero = refl
rest_dropped (r ∷ rs) (suc i) = rest_dropped rs i

pub none_left : {A : Type 0} (xs : List A) (i : ℕ) → length xs ≤ i → drop i xs ≡ []
none_left [] zero h = refl
none_left [] (suc i) h = refl
none_left (x ∷ xs) zero h = absurd (omega (arith, h))
none_left (x ∷ xs) (suc i) h = none_left xs i (omega (arith, h))

some_left : {A : Type 0} (xs : List A) (i : ℕ) → drop i xs ≡ [] → length xs ≤ i
some_left [] i e = omega arith
some_left (x ∷ xs) zero e = cc
some_left (x ∷ xs) (suc i) e = omega (arith, some_left xs i e)

-- the pointer at a place
pub pointer_at : (d : ℕ) (cs : List Child) (i : ℕ) (c : Child) → i < length cs → All (IsChild d) (map child_of cs) → IsChild d (child_of (slice_index_or cs i c))
pointer_at d [] i c h all = absurd (omega arith)
pointer_at d (x ∷ cs) zero c h all = All-head (IsChild d) (child_of x) (map child_of cs) all
pointer_at d (x ∷ cs) (suc i) c h all = pointer_at d cs i c (omega (arith, h)) (All-tail (IsChild d) (child_of x) (map child_of cs) all)

-- ---- The first

pub low_fits : (s : Option Span) (low : Option Key) → low ≡ low_of s → IfSome s IsProper → IfSome low IsKey
low_fits s low e p = subst (λ (o : Option Key). IfSome o IsKey) (sym e) (go s p)
  where
    go : (s : Option Span) → IfSome s IsProper → IfSome (low_of s) IsKey
    go None p = tt
    go (Some s) p = p.fits

pub start_opened : {A T : Type 0} (R : ChildFields → Option Span → T → Type 0) (tree : A → T) (s : Option Span) (low high : Option Key) (rs : List Record) (ps : List ChildFields) (us : List A) (ts : List T)
    → low ≡ low_of s → high ≡ high_of s → us ≡ [] → EachOpened R low high rs ps ts → EachOpened R (low_of s) (high_of s) rs ps (map tree us ++ ts)
start_opened R tree s low high rs ps us ts e f g h =
    subst (λ (l : List _). EachOpened R (low_of s) (high_of s) rs ps (map tree l ++ ts)) (sym g)
    (subst (λ (o : Option Key). EachOpened R (low_of s) o rs ps ts) f (subst (λ (o : Option Key). EachOpened R o high rs ps ts) e h))

pub start_refused : (ask : Key → Result ℕ ReadError) (s : Option Span) (low high : Option Key) (at : ℕ) (f : BlockFault) → low ≡ low_of s → high ≡ high_of s → IsRefused ask (IsBetween low high) at f → IsRefused ask (Leads s) at f
start_refused ask s low high at f e g r =
    refused_as_well ask ask (IsBetween low high) (Leads s) at f (λ k. refl)
    (λ k b. span_from s k (record { low = subst (λ (o : Option Key). IsFrom o k) e b.low; high = subst (λ (o : Option Key). IsUpTo o k) g b.high }))
    (λ k l. let b = of_span s k l in record { low = subst (λ (o : Option Key). IsFrom o k) (sym e) b.low; high = subst (λ (o : Option Key). IsUpTo o k) (sym g) b.high }) r

-- ---- The next

pub step_opened : {A T : Type 0} (R : ChildFields → Option Span → T → Type 0) (tree : A → T) (low0 high0 low high : Option Key) (rs0 rs : List Record) (ps0 : List ChildFields) (cs : List Child) (i : ℕ) (c : Child) (here : Option Span) (next : Option Key) (xs ys : List A) (x : A) (ts : List T)
    → i < length cs → here ≡ span_here low high (drop i rs) → next ≡ low_behind low (drop i rs) → ys ≡ xs ++ x ∷ [] → R (child_of (slice_index_or cs i c)) here (tree x)
    → ((us : List T) → EachOpened R low high (drop i rs) (map child_of (drop i cs)) us → EachOpened R low0 high0 rs0 ps0 (map tree xs ++ us))
    → EachOpened R next high (drop (i + 1) rs) (map child_of (drop (i + 1) cs)) ts → EachOpened R low0 high0 rs0 ps0 (map tree ys ++ ts)
step_opened R tree low0 high0 low high rs0 rs ps0 cs i c here next xs ys x ts inside h n y is on rest_is =
    let p : Child = slice_index_or cs i c in
    let e : drop i cs ≡ p ∷ drop (suc i) cs = drop_here cs i c inside in
    let one : EachOpened R next high (rest (drop i rs)) (map child_of (drop (suc i) cs)) ts =
    subst (λ (l : List Record). EachOpened R next high l (map child_of (drop (suc i) cs)) ts) (sym (rest_dropped rs i)) (subst (λ (k : ℕ). EachOpened R next high (drop k rs) (map child_of (drop k cs)) ts) (add-one i) rest_is) in
    let two : EachOpened R low high (drop i rs) (child_of p ∷ map child_of (drop (suc i) cs)) (tree x ∷ ts) =
    (subst (λ (s : Option Span). R (child_of p) s (tree x)) h is, subst (λ (o : Option Key). EachOpened R o high (rest (drop i rs)) (map child_of (drop (suc i) cs)) ts) n one) in
    let all : EachOpened R low0 high0 rs0 ps0 (map tree xs ++ (tree x ∷ ts)) = on (tree x ∷ ts) (subst (λ (l : List Child). EachOpened R low high (drop i rs) (map child_of l) (tree x ∷ ts)) (sym e) two) in
    let q : map tree ys ++ ts ≡ map tree xs ++ (tree x ∷ ts) = ap (λ (l : List _). map tree l ++ ts) y ∙ ap (λ (l : List _). l ++ ts) (map-append tree xs (x ∷ [])) ∙ append_assoc (map tree xs) (tree x ∷ []) ts in
    subst (λ (l : List _). EachOpened R low0 high0 rs0 ps0 l) (sym q) all

pub step_refused : (img : List ℕ) (d : ℕ) (low high : Option Key) (rs : List Record) (cs : List Child) (i : ℕ) (c : Child) (here : Option Span) (next : Option Key) (at : ℕ) (f : BlockFault)
    → i < length cs → length cs ≡ length rs + 1 → here ≡ span_here low high (drop i rs) → next ≡ low_behind low (drop i rs)
    → ((k : Key) → IsKey k → Leads here k → (a : ℕ) × (looked_up img d (child_of (slice_index_or cs i c)) k ≡ Ok a))
    → IsRefused (looked_below img d (map record_of (drop (i + 1) rs)) (map child_of (drop (i + 1) cs))) (IsBetween next high) at f
    → IsRefused (looked_below img d (map record_of (drop i rs)) (map child_of (drop i cs))) (IsBetween low high) at f
step_refused img d low high rs cs i c here next at f inside count h n good r =
    let p : Child = slice_index_or cs i c in
    let e : drop i cs ≡ p ∷ drop (suc i) cs = drop_here cs i c inside in
    let one : IsRefused (looked_below img d (map record_of (rest (drop i rs))) (map child_of (drop (suc i) cs))) (IsBetween (low_behind low (drop i rs)) high) at f =
    subst (λ (o : Option Key). IsRefused (looked_below img d (map record_of (rest (drop i rs))) (map child_of (drop (suc i) cs))) (IsBetween o high) at f) n
    (subst (λ (l : List Record). IsRefused (looked_below img d (map record_of l) (map child_of (drop (suc i) cs))) (IsBetween next high) at f) (sym (rest_dropped rs i))
    (subst (λ (k : ℕ). IsRefused (looked_below img d (map record_of (drop k rs)) (map child_of (drop k cs))) (IsBetween next high) at f) (add-one i) r)) in
    subst (λ (l : List Child). IsRefused (looked_below img d (map record_of (drop i rs)) (map child_of l)) (IsBetween low high) at f) (sym e)
    (refused_behind img d low high (drop i rs) (child_of p) (map child_of (drop (suc i) cs)) at f
    (λ k fits led. good k fits (subst (λ (s : Option Span). Leads s k) (sym h) led))
    (λ none. ap (map child_of) (none_left cs (suc i) (omega (arith, count, some_left rs i none)))) one)

-- a child that is refused
pub child_refused : (img : List ℕ) (d : ℕ) (low high : Option Key) (rs : List Record) (cs : List Child) (i : ℕ) (c : Child) (here : Option Span) (at : ℕ) (f : BlockFault)
    → i < length cs → here ≡ span_here low high (drop i rs) → IsRefused (looked_up img d (child_of (slice_index_or cs i c))) (Leads here) at f
    → IsRefused (looked_below img d (map record_of (drop i rs)) (map child_of (drop i cs))) (IsBetween low high) at f
child_refused img d low high rs cs i c here at f inside h r =
    let p : Child = slice_index_or cs i c in
    subst (λ (l : List Child). IsRefused (looked_below img d (map record_of (drop i rs)) (map child_of l)) (IsBetween low high) at f) (sym (drop_here cs i c inside))
    (refused_child img d low high (drop i rs) (child_of p) (map child_of (drop (suc i) cs)) at f (subst (λ (s : Option Span). IsRefused (looked_up img d (child_of p)) (Leads s) at f) h r))

-- ---- The end

pub end_opened : {A T : Type 0} (R : ChildFields → Option Span → T → Type 0) (tree : A → T) (low0 high0 low high : Option Key) (rs0 rs : List Record) (ps0 : List ChildFields) (cs : List Child) (i : ℕ) (xs : List A) → length cs ≤ i
    → ((us : List T) → EachOpened R low high (drop i rs) (map child_of (drop i cs)) us → EachOpened R low0 high0 rs0 ps0 (map tree xs ++ us)) → EachOpened R low0 high0 rs0 ps0 (map tree xs)
end_opened R tree low0 high0 low high rs0 rs ps0 cs i xs past on =
    subst (λ (l : List _). EachOpened R low0 high0 rs0 ps0 l) (append-nil (map tree xs))
    (on [] (subst (λ (l : List Child). EachOpened R low high (drop i rs) (map child_of l) []) (sym (none_left cs i past)) tt))
