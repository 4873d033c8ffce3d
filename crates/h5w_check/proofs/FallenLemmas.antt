-- Visits of nodes where keys may have fallen, so that ranges no longer count.
use Rattle.std.proofs.Common.{◌≡◌, ℕ, ◌+◌, ◌^◌, ◌<◌, Bool, true, false, cond, not, ◌&&◌, ◌||◌, List, [], ◌∷◌, ◌++◌, length, drop, None, Result, Ok, Err, refl, sym, ◌∙◌, ap, subst}
use Rattle.std.specs.Prelude.{◌==◌, nat_lt}
use Rattle.h5w_model.specs.Numbers.{undefined}
use Rattle.h5w_model.specs.Programs.{Prog, eval}
use Rattle.h5w_model.specs.Trees.{RecordFields, ChildFields}
use Rattle.h5w_model.specs.Datasets.{then_also}
use Rattle.h5w_model.specs.Findings.{Used, Finding, Under, found, children_under, node_visit, wrong_total, keys_not_rising}
use Rattle.h5w_image.specs.View.{ImageView}
use Rattle.h5w_check.specs.Ran.{Ran}
use Rattle.h5w_check.specs.Spans.{span_of, joined_spans}
use Rattle.h5w_check.specs.Known.{known, Visits}
use Rattle.h5w_check.specs.Nodes.{Spanned, under_after, children_after, ended, add_found, counting, faded, all_faded}
use Rattle.h5w_check.specs.declared.span.Span.{Span}
use Rattle.h5w_check.specs.declared.known.KnownNodes.{KnownNodes}
use Rattle.h5w_check.specs.declared.error.CheckError.{CheckError}
use Rattle.h5w_check.specs.declared.error.CheckError.TheVariants as errors
use Rattle.h5w_headers.proofs.RanLemmas.{ran_begin, same_value}
use Rattle.h5w_check.proofs.KnownLemmas.{ran_visits}
use Rattle.h5w_check.proofs.TreeLemmas.{child_next, child_rest}

-- ---- Ranges that do not count

gone : (b : Bool) (us vs : List Used) → b ≡ true → counting b us ≡ counting b vs
gone true us vs h = refl
gone false us vs h = absurd cc

-- keys that do not rise do not rise with others
stays : (a b c f : Bool) → (not a || f) ≡ true → (not (a && b && c) || f) ≡ true
stays true true true f h = h
stays true true false f h = refl
stays true false c f h = refl
stays false b c f h = refl

joined_stays : (s t : Span) (f : Bool) → (not s.rising || f) ≡ true → (not (joined_spans s t).rising || f) ≡ true
joined_stays s t f h = stays s.rising _ t.rising f h

abbrev totaled : Bool → List Used → Span → Result (Bool × Spanned) Finding
totaled b us s = Ok (b, (us, s))

-- the ranges before make no difference then
behind : (down totals : Bool) (us vs : List Used) (s : Span) (r : Result (Bool × Under) Finding) → (not s.rising || down) ≡ true
    → all_faded down (children_after totals us s r) ≡ all_faded down (children_after totals vs s r)
behind down totals us vs s (Err f) h = refl
behind down totals us vs s (Ok u) h =
    let t = joined_spans s (span_of u.1.keys) in
    ap (λ xs. totaled (totals && u.0) xs t) (gone (not t.rising || down) (us ++ u.1.ranges) (vs ++ u.1.ranges) (joined_stays s (span_of u.1.keys) down h))

-- nor behind a child and a record
add_behind : (img : List ℕ) (end bytes : ℕ) (go : ChildFields → Prog (Result Under Finding)) (down totals : Bool) (s : Span) (total : ℕ) (x : Span) (us vs : List Used) (qs rs : List RecordFields) (cs : List ChildFields) → (not s.rising || down) ≡ true
    → all_faded down (then_also (add_found end bytes totals s total x qs us) (child_rest img end bytes go rs cs)) ≡ all_faded down (then_also (add_found end bytes totals s total x qs vs) (child_rest img end bytes go rs cs))
add_behind img end bytes go down totals s total x us vs [] rs cs h =
    behind down (totals && (total == x.count)) us vs (joined_spans s x) (eval img (children_under end bytes go rs cs)) (joined_stays s x down h)
add_behind img end bytes go down totals s total x us vs (r ∷ qs) rs cs h =
    let t = joined_spans (joined_spans s x) (span_of (r.key ∷ [])) in
    let same : (ls ks : List Used) → all_faded down (children_after (totals && (total == x.count)) ls t (eval img (children_under end bytes go rs cs))) ≡ all_faded down (children_after (totals && (total == x.count)) ks t (eval img (children_under end bytes go rs cs))) = λ ls ks.
    behind down (totals && (total == x.count)) ls ks t (eval img (children_under end bytes go rs cs)) (joined_stays (joined_spans s x) (span_of (r.key ∷ [])) down (joined_stays s x down h)) in
    let chunk : Used = record { place = r.address; len = bytes; chunk = true } in
    let past : Result (List Used) Finding = Err (found 17 r.address) in
    let on : Result (List Used) Finding → Result (Bool × Spanned) Finding = λ put.
    all_faded down (then_also (then_also (then_also put (λ mid. spanned mid t)) (λ y. with_total (totals && (total == x.count)) y)) (child_rest img end bytes go rs cs)) in
    elim (r.address == undefined) as (λ c. on (cond c (Ok us) (cond (nat_lt end (r.address + bytes)) past (Ok (us ++ chunk ∷ [])))) ≡ on (cond c (Ok vs) (cond (nat_lt end (r.address + bytes)) past (Ok (vs ++ chunk ∷ []))))) [
      | true ↦ same us vs
      | false ↦ elim (nat_lt end (r.address + bytes)) as (λ c. on (cond c past (Ok (us ++ chunk ∷ []))) ≡ on (cond c past (Ok (vs ++ chunk ∷ [])))) [
        | true ↦ refl
        | false ↦ same (us ++ chunk ∷ []) (vs ++ chunk ∷ [])
      ]
    ]
  where
    spanned : List Used → Span → Result Spanned Finding
    spanned ls k = Ok (ls, k)

    with_total : Bool → Spanned → Result (Bool × Spanned) Finding
    with_total b y = Ok (b, y)

abbrev spanned_ok : List Used → Span → Result Spanned Finding
spanned_ok us s = Ok (us, s)

same_pair : (us vs : List Used) (s t : Span) → spanned_ok us s ≡ spanned_ok vs t → (us ≡ vs) × (s ≡ t)
same_pair us vs s t h = let e = same_value (us, s) (vs, t) h in (ap (λ (x : Spanned). x.0) e, ap (λ (x : Spanned). x.1) e)

-- a child, behind which the ranges count or do not
child_ok : (img : List ℕ) (end bytes : ℕ) (go : ChildFields → Prog (Result Under Finding)) (down b totals : Bool) (s : Span) (total : ℕ) (x : Span) (old new : List Used) (qs rs : List RecordFields) (cs : List ChildFields) (r : Result Under Finding)
    → (not s.rising || down) ≡ b → faded b (under_after old r) ≡ spanned_ok (counting b new) x
    → all_faded down (then_also (under_after old r) (λ y. then_also (add_found end bytes totals s total y.1 qs y.0) (child_rest img end bytes go rs cs)))
    ≡ all_faded down (then_also (add_found end bytes totals s total x qs new) (child_rest img end bytes go rs cs))
child_ok img end bytes go down b totals s total x old new qs rs cs (Err f) is told = absurd cc
child_ok img end bytes go down true totals s total x old new qs rs cs (Ok u) is told =
    let same = same_pair [] [] (span_of u.keys) x told in
    ap (λ k. all_faded down (then_also (add_found end bytes totals s total k qs (old ++ u.ranges)) (child_rest img end bytes go rs cs))) same.1
    ∙ add_behind img end bytes go down totals s total x (old ++ u.ranges) new qs rs cs is
child_ok img end bytes go down false totals s total x old new qs rs cs (Ok u) is told =
    let same = same_pair (old ++ u.ranges) new (span_of u.keys) x told in
    ap (λ k. all_faded down (then_also (add_found end bytes totals s total k qs (old ++ u.ranges)) (child_rest img end bytes go rs cs))) same.1
    ∙ ap (λ us. all_faded down (then_also (add_found end bytes totals s total x qs us) (child_rest img end bytes go rs cs))) same.0

pub child_step : (img : List ℕ) (end bytes : ℕ) (go : ChildFields → Prog (Result Under Finding)) (down b : Bool) (i : ℕ) (c : ChildFields) (rs : List RecordFields) (cs : List ChildFields) (totals : Bool) (old new : List Used) (s x : Span)
    → b ≡ (not s.rising || down) → i < length cs → length cs ≡ length rs + 1 → c.total < 2 ^ 64 → drop i cs ≡ c ∷ drop (i + 1) cs → faded b (under_after old (eval img (go c))) ≡ spanned_ok (counting b new) x
    → all_faded down (children_after totals old s (eval img (children_under end bytes go (drop i rs) (drop i cs))))
    ≡ all_faded down (then_also (add_found end bytes totals s c.total x (drop i rs) new) (child_rest img end bytes go (drop (i + 1) rs) (drop (i + 1) cs)))
child_step img end bytes go down b i c rs cs totals old new s x is inside count low head told =
    ap (all_faded down) (child_next img end bytes go i c rs cs totals old s inside count low head)
    ∙ child_ok img end bytes go down b totals s c.total x old new (drop i rs) (drop (i + 1) rs) (drop (i + 1) cs) (eval img (go c)) (sym is) told

unfaded_err : (b : Bool) (r : Result Spanned Finding) (f : Finding) → faded b r ≡ Err f → r ≡ Err f
unfaded_err b (Ok x) f h = absurd cc
unfaded_err b (Err g) f h = cc

pub child_err : (img : List ℕ) (end bytes : ℕ) (go : ChildFields → Prog (Result Under Finding)) (down b : Bool) (i : ℕ) (c : ChildFields) (rs : List RecordFields) (cs : List ChildFields) (totals : Bool) (old : List Used) (s : Span) (f : Finding)
    → i < length cs → length cs ≡ length rs + 1 → c.total < 2 ^ 64 → drop i cs ≡ c ∷ drop (i + 1) cs → faded b (under_after old (eval img (go c))) ≡ Err f
    → all_faded down (children_after totals old s (eval img (children_under end bytes go (drop i rs) (drop i cs)))) ≡ Err f
child_err img end bytes go down b i c rs cs totals old s f inside count low head told =
    ap (all_faded down) (child_next img end bytes go i c rs cs totals old s inside count low head
    ∙ ap (λ r. then_also r (λ y. then_also (add_found end bytes totals s c.total y.1 (drop i rs) y.0) (child_rest img end bytes go (drop (i + 1) rs) (drop (i + 1) cs)))) (unfaded_err b (under_after old (eval img (go c))) f told))

-- ---- The end of a node

end_same : (at : ℕ) (down t rising : Bool) (us vs : List Used) (s : Span) → counting (not rising || down) us ≡ counting (not rising || down) vs
    → faded down (cond (not t) (Err (found wrong_total at)) (cond (not rising) (Err (found keys_not_rising at)) (Ok (us, s)))) ≡ faded down (cond (not t) (Err (found wrong_total at)) (cond (not rising) (Err (found keys_not_rising at)) (Ok (vs, s))))
end_same p down false rising us vs s h = refl
end_same p down true false us vs s h = refl
end_same p down true true us vs s h = ap (λ xs. spanned_ok xs s) h

same_all : (b c : Bool) (us vs : List Used) (s t : Span) → totaled b us s ≡ totaled c vs t → (b ≡ c) × (us ≡ vs) × (s ≡ t)
same_all b c us vs s t h = let e = same_value (b, (us, s)) (c, (vs, t)) h in (ap (λ (y : Bool × Spanned). y.0) e, ap (λ (y : Bool × Spanned). y.1.0) e, ap (λ (y : Bool × Spanned). y.1.1) e)

pub end_faded : (at : ℕ) (down : Bool) (r : Result (Bool × Spanned) Finding) (t : Bool) (new : List Used) (s : Span) → all_faded down r ≡ totaled t (counting (not s.rising || down) new) s
    → faded down (then_also r (λ y. ended at y.0 y.1.0 y.1.1)) ≡ faded down (ended at t new s)
end_faded p down (Err f) t new s h = absurd cc
end_faded p down (Ok y) t new s h =
    let same = same_all y.0 t (counting (not y.1.1.rising || down) y.1.0) (counting (not s.rising || down) new) y.1.1 s h in
    let us : counting (not s.rising || down) y.1.0 ≡ counting (not s.rising || down) new = subst (λ (k : Span). counting (not k.rising || down) y.1.0 ≡ counting (not s.rising || down) new) same.2 same.1 in
    ap (λ b. faded down (ended p b y.1.0 y.1.1)) same.0
    ∙ ap (λ k. faded down (ended p t y.1.0 k)) same.2
    ∙ end_same p down t s.rising y.1.0 new s us

pub all_faded_err : (down : Bool) (r : Result (Bool × Spanned) Finding) (f : Finding) → all_faded down r ≡ Err f → r ≡ Err f
all_faded_err b (Ok x) f h = absurd cc
all_faded_err b (Err g) f h = cc

-- ---- What is known

abbrev node_gives : ℕ → ℕ → Bool → ℕ → ℕ → ℕ → List Used → List ℕ → Result Spanned Finding
node_gives end bytes down depth at n old img = faded down (under_after old (eval img (node_visit end bytes depth at n)))

-- the root, above which no keys have fallen
counts : (r : Result Spanned Finding) → r ≡ faded false r
counts (Ok x) = refl
counts (Err f) = refl

pub ran_root : (end bytes : ℕ) (m n : KnownNodes) (v w : ImageView) (depth at k : ℕ) (old : List Used) (answer : Result Spanned CheckError) → ((depth at n : ℕ) → known m depth at n ≡ None)
    → Visits end bytes m n v w (node_gives end bytes false depth at k old) answer → Ran v w (λ img. under_after old (eval img (node_visit end bytes depth at k))) answer
ran_root end bytes m n v w depth p k old answer none one =
    ran_begin (node_gives end bytes false depth p k old) (λ img. under_after old (eval img (node_visit end bytes depth p k))) answer (ran_visits _ answer none one) (λ img. counts (under_after old (eval img (node_visit end bytes depth p k))))
