-- One program after another, along looks under which what the first visits stays: the first one's looks are few.
use Rattle.std.proofs.Common.{◌≡◌, ℕ, zero, suc, ◌+◌, ◌-◌, ◌*◌, ◌/◌, ◌^◌, ◌<◌, ◌≤◌, min, cond, List, [], ◌∷◌, ◌++◌, length, drop, sym, ◌∙◌, ap, subst, arith}
use Rattle.std.specs.Prelude.{◌==◌}
use Rattle.std.specs.List.{AllByRecursion}
use Rattle.std.proofs.lemmas.List.{append_assoc, append-nil, drop-drop, drop-map}
use Rattle.std.proofs.lemmas.Bool.{cond_both, eqb-true, eqb-false}
use Rattle.h5w_model.specs.Numbers.{range}
use Rattle.h5w_model.specs.Programs.{Prog, ret, whole, counted, stored, eval, bind, Visit, visits, all_of, Kept, lowered, below_end, cut_up, look_pieces, Look, Takes, IsLookAt}
use Rattle.h5w_laws.specs.Programs.{Taken, looks_of, AreTakenAs, IsUnstored}
use Rattle.h5w_laws.proofs.LoweringLemmas.{range_below, range_within, range_cut, range_short}
use Rattle.h5w_laws.proofs.LookLemmas.{takes_whole, taken_drop, taken_behind}
use Rattle.h5w_reader_laws.specs.Bounds.{looks_in}

-- a look that gave what its image has, in which a range is the same
record IsPart (old : List ℕ) (place len : ℕ) (t : Taken) : Type 0 where
  gave : IsLookAt t.image t.look
  same : range t.image place len ≡ range old place len

parts_of : (old : List ℕ) (place len : ℕ) (vs : List Visit) (ts : List Taken) → AreTakenAs old (record { place = place; len = len; counts = all_of } ∷ vs) ts → AllByRecursion (IsPart old place len) ts
parts_of old place len vs [] h = tt
parts_of old place len vs (t ∷ ts) h = (record { gave = h.0.gave; same = h.0.same.0 }, parts_of old place len vs ts h.1)

-- what is left after at most so many looks
record Few {A : Type 0} (p : Prog A) (most : ℕ) (ts : List Taken) (a : A) : Type 0 where
  count : ℕ
  few : count ≤ most
  takes : Takes p (drop count (looks_of ts)) a

few_none : {A : Type 0} (next : List ℕ → Prog A) (b c : List ℕ) (most : ℕ) (ts : List Taken) (a : A) → b ≡ c → Takes (next b) (looks_of ts) a → Few (next c) most ts a
few_none next b c most ts a e h = record { count = 0; few = omega arith; takes = subst (λ (x : List ℕ). Takes (next x) (looks_of ts) a) e h }

few_along : {A : Type 0} (next : List ℕ → Prog A) (b c : List ℕ) (most : ℕ) (ts : List Taken) (a : A) → b ≡ c → Few (next b) most ts a → Few (next c) most ts a
few_along next b c most ts a e h = subst (λ (x : List ℕ). Few (next x) most ts a) e h

few_after : {A : Type 0} (p : Prog A) (n most : ℕ) (t : Taken) (ts : List Taken) (a : A) → n + 1 ≤ most → Few p n ts a → Few p most (t ∷ ts) a
few_after p n most t ts a low h = record { count = suc h.count; few = omega (arith, h.few); takes = h.takes }

few_pieces : {A : Type 0} (old : List ℕ) (P L fuel place len : ℕ) (got : List ℕ) (next : List ℕ → Prog A) (ts : List Taken) (a : A)
    → len ≤ 512 * fuel → P ≤ place → (0 < len → place + len ≤ P + L) → AllByRecursion (IsPart old P L) ts
    → Takes (look_pieces fuel place len got next) (looks_of ts) a → Few (next (got ++ range old place len)) ((len + 511) / 512) ts a
few_pieces old P L zero place len got next ts a enough low high parts h =
    let e : 0 ≡ len = omega arith in
    let i : got ≡ got ++ range old place len = sym (append-nil got) ∙ ap (λ n. got ++ range old place n) e in
    few_none next got (got ++ range old place len) ((len + 511) / 512) ts a i h
few_pieces old P L (suc fuel) place zero got next ts a enough low high parts h =
    few_none next got (got ++ range old place 0) ((0 + 511) / 512) ts a (sym (append-nil got)) h
few_pieces old P L (suc fuel) place (suc rest) got next [] a enough low high parts h = cc
few_pieces {A} old P L (suc fuel) place (suc rest) got next (t ∷ ts) a enough low high parts h =
    let m : ℕ = min 512 (suc rest) in
    let r : List ℕ = range old place m in
    let fewer : ℕ = (suc rest - 512 + 511) / 512 in
    let onward : List ℕ → Prog A = λ b. cond (length b == m) (look_pieces fuel (place + 512) (suc rest - 512) (got ++ b) next) (next (got ++ b)) in
    let now = takes_whole place m onward t.look (looks_of ts) a h in
    let inside : place + suc rest ≤ P + L = high (omega arith) in
    let here : t.look.bytes ≡ r =
    parts.0.gave ∙ ap (λ p. range t.image p t.look.len) now.0.0 ∙ ap (λ n. range t.image place n) now.0.1
    ∙ range_within old t.image P L place m parts.0.same low (omega arith) in
    few_after (next (got ++ range old place (suc rest))) fewer ((suc rest + 511) / 512) t ts a (omega arith) (
    cond_both (length r == m) (look_pieces fuel (place + 512) (suc rest - 512) (got ++ r) next) (next (got ++ r))
    (λ (q : Prog A). Takes q (looks_of ts) a → Few (next (got ++ range old place (suc rest))) fewer ts a)
    (λ full s.
    few_along next ((got ++ r) ++ range old (place + 512) (suc rest - 512)) (got ++ range old place (suc rest)) fewer ts a
    (append_assoc got r (range old (place + 512) (suc rest - 512)) ∙ ap (λ (b : List ℕ). got ++ b) (range_cut old place (suc rest) (eqb-true (length r) m full)))
    (few_pieces old P L fuel (place + 512) (suc rest - 512) (got ++ r) next ts a (omega arith) (omega arith) (λ some. omega arith) parts.1 s))
    (λ short s.
    few_none next (got ++ r) (got ++ range old place (suc rest)) fewer ts a
    (ap (λ (b : List ℕ). got ++ b) (range_short old place m (suc rest) (eqb-false (length r) m short) (omega arith))) s)
    (subst (λ (b : List ℕ). Takes (onward b) (looks_of ts) a) here now.1))

few_cut_up : {A : Type 0} (old : List ℕ) (place len : ℕ) (vs : List Visit) (next : List ℕ → Prog A) (ts : List Taken) (a : A)
    → length old ≤ 2 ^ 64 → AreTakenAs old (record { place = place; len = len; counts = all_of } ∷ vs) ts
    → Takes (cut_up place len next) (looks_of ts) a → Few (next (range old place len)) ((len + 511) / 512) ts a
few_cut_up old place len vs next ts a fits taken h =
    let n : ℕ = below_end place len in
    let f = few_pieces old place len (n / 512 + 1) place n [] next ts a (omega arith) (omega arith) (λ some. omega arith) (parts_of old place len vs ts taken) h in
    few_along next (range old place n) (range old place len) ((len + 511) / 512) ts a (range_below old place len fits)
    (record { count = f.count; few = omega (arith, f.few); takes = f.takes })

-- The looks of the second program, behind few looks of the first.
pub record FewBefore (A B : Type 0) (cap : ℕ) (ks : List Kept) (old : List ℕ) (p : Prog A) (f : A → Prog B) (ts : List Taken) (b : B) : Type 0 where
  pub count : ℕ
  pub few : count ≤ looks_in (visits old p)
  pub takes : Takes (lowered cap ks (f (eval old p))) (looks_of (drop count ts)) b

dropped : (n : ℕ) (ts : List Taken) → drop n (looks_of ts) ≡ looks_of (drop n ts)
dropped n ts = drop-map (λ (t : Taken). t.look) n ts

pub few_before : {A B : Type 0} (old : List ℕ) (cap : ℕ) (ks : List Kept) (p : Prog A) (f : A → Prog B) (ts : List Taken) (b : B)
    → length old ≤ 2 ^ 64 → IsUnstored p → AreTakenAs old (visits old p) ts → Takes (lowered cap ks (bind p f)) (looks_of ts) b → FewBefore A B cap ks old p f ts b
few_before old cap ks (ret a) f ts b fits unstored taken h = record { count = 0; few = omega arith; takes = h }
few_before {A} {B} old cap ks (whole at len next) f ts b fits unstored taken h =
    let r : List ℕ = range old at len in
    let vs : List Visit = visits old (next r) in
    let here = few_cut_up old at len vs (λ x. lowered cap ks (bind (next x) f)) ts b fits taken h in
    let later = few_before old cap ks (next r) f (drop here.count ts) b fits (unstored r)
    (taken_drop old vs here.count ts (taken_behind old (record { place = at; len = len; counts = all_of }) vs ts taken))
    (subst (λ (ls : List Look). Takes (lowered cap ks (bind (next r) f)) ls b) (dropped here.count ts) here.takes) in
    record {
      count = here.count + later.count;
      few = omega (arith, here.few, later.few);
      takes = subst (λ (xs : List Taken). Takes (lowered cap ks (f (eval old (next r)))) (looks_of xs) b) (drop-drop later.count here.count ts) later.takes;
    }
few_before old cap ks (counted at counts next) f [] b fits unstored taken h = cc
few_before {A} {B} old cap ks (counted at counts next) f (t ∷ ts) b fits unstored taken h =
    let n : ℕ = below_end at 512 in
    let now = takes_whole at n (λ x. lowered cap ks (bind (next (counts x)) f)) t.look (looks_of ts) b h in
    let v : List ℕ = counts (range old at 512) in
    let e : counts t.look.bytes ≡ v =
    ap counts (taken.0.gave ∙ ap (λ p. range t.image p t.look.len) now.0.0 ∙ ap (λ m. range t.image at m) now.0.1 ∙ range_below t.image at 512 taken.0.fits)
    ∙ taken.0.same.0 in
    let later = few_before old cap ks (next v) f ts b fits (unstored v)
    (taken_behind old (record { place = at; len = 512; counts = counts }) (visits old (next v)) ts taken.1)
    (subst (λ (x : List ℕ). Takes (lowered cap ks (bind (next x) f)) (looks_of ts) b) e now.1) in
    record { count = suc later.count; few = omega (arith, later.few); takes = later.takes }
few_before old cap ks (stored kind at len next) f ts b fits unstored taken h = absurd unstored
