-- Lowered programs over looks that were taken, one program after another, and calls that are not at their end.
use Rattle.std.proofs.Common.{◌≡◌, ℕ, zero, suc, ◌+◌, ◌-◌, ◌*◌, ◌/◌, ◌^◌, ◌<◌, ◌≤◌, min, true, cond, ◌&&◌, List, [], ◌∷◌, ◌++◌, length, take, drop, Option, Some, None, refl, sym, ◌∙◌, ap, subst, arith}
use Rattle.std.specs.Prelude.{◌==◌}
use Rattle.std.specs.List.{AllByRecursion}
use Rattle.std.proofs.lemmas.List.{append_assoc, append-nil, drop-map, take-map, length-map}
use Rattle.std.proofs.lemmas.Bool.{cond_both, cond-true, and_parts, and_from, eqb-true, eqb-false, eq-eqb}
use Rattle.h5w_model.specs.Numbers.{range}
use Rattle.h5w_model.specs.Programs.{Prog, ret, whole, counted, stored, eval, bind, Visit, visits, all_of, Kept, kept_bytes, used, lowered, below_end, cut_up, look_pieces, Look, rest_after, Takes, IsLookAt}
use Rattle.h5w_laws.specs.Programs.{AreRight, lowered_leaving, store_after, Taken, looks_of, AreTakenAs, InTurn, TakenInTurn, KeptInTurn, looks_on}
use Rattle.h5w_laws.proofs.LoweringLemmas.{range_below, range_within, range_cut, range_short, option_both, found_right, used_right, lowered_bind, lowered_is}

-- ---- One program after another

-- what a look of a program of plain looks is
pub takes_whole : {A : Type 0} (place len : ℕ) (next : List ℕ → Prog A) (l : Look) (ls : List Look) (a : A)
    → Takes (whole place len next) (l ∷ ls) a → ((l.place ≡ place) × (l.len ≡ len)) × Takes (next l.bytes) ls a
takes_whole {A} place len next l ls a h =
    cond_both ((l.place == place) && (l.len == len)) (rest_after (next l.bytes) ls) None
    (λ (o : Option (Prog A)). o ≡ Some (ret a) → ((l.place ≡ place) × (l.len ≡ len)) × Takes (next l.bytes) ls a)
    (λ t s.
    let parts = and_parts (l.place == place) (l.len == len) t in
    ((eqb-true l.place place parts.0, eqb-true l.len len parts.1), s))
    (λ t s. cc)
    h

pub takes_more : {A : Type 0} (place len : ℕ) (next : List ℕ → Prog A) (l : Look) (ls : List Look) (a : A)
    → l.place ≡ place → l.len ≡ len → Takes (next l.bytes) ls a → Takes (whole place len next) (l ∷ ls) a
takes_more place len next l ls a e f h =
    cond-true ((l.place == place) && (l.len == len)) (rest_after (next l.bytes) ls) None
    (and_from (l.place == place) (l.len == len) (eq-eqb l.place place e) (eq-eqb l.len len f)) ∙ h

-- an answer takes no look
pub takes_ret : {A : Type 0} (x : A) (ls : List Look) (a : A) → Takes (ret x) ls a → (ls ≡ []) × (a ≡ x)
takes_ret x [] a h = (refl, cc)
takes_ret x (l ∷ ls) a h = cc

pub takes_split : {A B : Type 0} (p : Prog A) (f : A → Prog B) (ls : List Look) (b : B) → Takes (bind p f) ls b → InTurn A B p f ls b
takes_split (ret a) f ls b h = record { first_looks = 0; within = omega arith; left = a; first = refl; second = h }
takes_split (whole at len next) f [] b h = cc
takes_split (whole at len next) f (l ∷ ls) b h =
    let now = takes_whole at len (λ x. bind (next x) f) l ls b h in
    let later = takes_split (next l.bytes) f ls b now.1 in
    record {
      first_looks = suc later.first_looks;
      within = omega (arith, later.within);
      left = later.left;
      first = takes_more at len next l (take later.first_looks ls) later.left now.0.0 now.0.1 later.first;
      second = later.second;
    }
takes_split (counted at counts next) f [] b h = cc
takes_split (counted at counts next) f (l ∷ ls) b h = cc
takes_split (stored kind at len next) f [] b h = cc
takes_split (stored kind at len next) f (l ∷ ls) b h = cc

pub takes_bind : {A B : Type 0} (p : Prog A) (f : A → Prog B) (ls ms : List Look) (a : A) (b : B) → Takes p ls a → Takes (f a) ms b → Takes (bind p f) (ls ++ ms) b
takes_bind (ret x) f [] ms a b h g = let e : a ≡ x = cc in subst (λ y. Takes (f y) ms b) e g
takes_bind (ret x) f (l ∷ ls) ms a b h g = cc
takes_bind (whole at len next) f [] ms a b h g = cc
takes_bind (whole at len next) f (l ∷ ls) ms a b h g =
    let now = takes_whole at len next l ls a h in
    takes_more at len (λ x. bind (next x) f) l (ls ++ ms) b now.0.0 now.0.1 (takes_bind (next l.bytes) f ls ms a b now.1 g)
takes_bind (counted at counts next) f [] ms a b h g = cc
takes_bind (counted at counts next) f (l ∷ ls) ms a b h g = cc
takes_bind (stored kind at len next) f [] ms a b h g = cc
takes_bind (stored kind at len next) f (l ∷ ls) ms a b h g = cc

pub lowered_in_turn : {A B : Type 0} (cap : ℕ) (ks : List Kept) (p : Prog A) (f : A → Prog B) (ls : List Look) (b : B)
    → Takes (lowered cap ks (bind p f)) ls b → TakenInTurn A B cap ks p f ls b
lowered_in_turn {A} {B} cap ks p f ls b h =
    let s = takes_split (lowered_leaving cap ks p) (λ left. lowered cap left.1 (f left.0)) ls b
    (subst (λ (q : Prog B). Takes q ls b) (lowered_bind cap ks p f) h) in
    record { first_looks = s.first_looks; within = s.within; left = s.left; first = s.first; second = s.second }

-- ---- Over looks at images that change

pub taken_drop : (old : List ℕ) (vs : List Visit) (n : ℕ) (ts : List Taken) → AreTakenAs old vs ts → AreTakenAs old vs (drop n ts)
taken_drop old vs zero ts h = h
taken_drop old vs (suc n) [] h = tt
taken_drop old vs (suc n) (t ∷ ts) h = taken_drop old vs n ts h.1

pub taken_take : (old : List ℕ) (vs : List Visit) (n : ℕ) (ts : List Taken) → AreTakenAs old vs ts → AreTakenAs old vs (take n ts)
taken_take old vs zero ts h = tt
taken_take old vs (suc n) [] h = tt
taken_take old vs (suc n) (t ∷ ts) h = (h.0, taken_take old vs n ts h.1)

-- what is seen of the later visits
pub taken_behind : (old : List ℕ) (v : Visit) (vs : List Visit) (ts : List Taken) → AreTakenAs old (v ∷ vs) ts → AreTakenAs old vs ts
taken_behind old v vs [] h = tt
taken_behind old v vs (t ∷ ts) h = (record { gave = h.0.gave; fits = h.0.fits; same = h.0.same.1 }, taken_behind old v vs ts h.1)

-- a look that gave what its image has, in which a range is the same
pub record IsPart (old : List ℕ) (place len : ℕ) (t : Taken) : Type 0 where
  gave : IsLookAt t.image t.look
  same : range t.image place len ≡ range old place len

pub parts_of : (old : List ℕ) (place len : ℕ) (vs : List Visit) (ts : List Taken) → AreTakenAs old (record { place = place; len = len; counts = all_of } ∷ vs) ts → AllByRecursion (IsPart old place len) ts
parts_of old place len vs [] h = tt
parts_of old place len vs (t ∷ ts) h = (record { gave = h.0.gave; same = h.0.same.0 }, parts_of old place len vs ts h.1)

-- what is left after the looks at a range
pub record Left {A : Type 0} (p : Prog A) (ts : List Taken) (a : A) : Type 0 where
  count : ℕ
  takes : Takes p (drop count (looks_of ts)) a

pub after : {A : Type 0} (p : Prog A) (t : Taken) (ts : List Taken) (a : A) → Left p ts a → Left p (t ∷ ts) a
after p t ts a h = record { count = suc h.count; takes = h.takes }

pub left_along : {A : Type 0} (next : List ℕ → Prog A) (b c : List ℕ) (ts : List Taken) (a : A) → b ≡ c → Left (next b) ts a → Left (next c) ts a
left_along next b c ts a e h = subst (λ (x : List ℕ). Left (next x) ts a) e h

pub takes_pieces : {A : Type 0} (old : List ℕ) (P L fuel place len : ℕ) (got : List ℕ) (next : List ℕ → Prog A) (ts : List Taken) (a : A)
    → len ≤ 512 * fuel → P ≤ place → (0 < len → place + len ≤ P + L) → AllByRecursion (IsPart old P L) ts
    → Takes (look_pieces fuel place len got next) (looks_of ts) a → Left (next (got ++ range old place len)) ts a
takes_pieces old P L zero place len got next ts a enough low high parts h =
    let e : 0 ≡ len = omega arith in
    let i : got ≡ got ++ range old place len = sym (append-nil got) ∙ ap (λ n. got ++ range old place n) e in
    left_along next got (got ++ range old place len) ts a i (record { count = 0; takes = h })
takes_pieces old P L (suc fuel) place zero got next ts a enough low high parts h =
    left_along next got (got ++ range old place 0) ts a (sym (append-nil got)) (record { count = 0; takes = h })
takes_pieces old P L (suc fuel) place (suc rest) got next [] a enough low high parts h = cc
takes_pieces {A} old P L (suc fuel) place (suc rest) got next (t ∷ ts) a enough low high parts h =
    let m : ℕ = min 512 (suc rest) in
    let r : List ℕ = range old place m in
    let onward : List ℕ → Prog A = λ b. cond (length b == m) (look_pieces fuel (place + 512) (suc rest - 512) (got ++ b) next) (next (got ++ b)) in
    let now = takes_whole place m onward t.look (looks_of ts) a h in
    let inside : place + suc rest ≤ P + L = high (omega arith) in
    let here : t.look.bytes ≡ r =
    parts.0.gave ∙ ap (λ p. range t.image p t.look.len) now.0.0 ∙ ap (λ n. range t.image place n) now.0.1
    ∙ range_within old t.image P L place m parts.0.same low (omega arith) in
    after (next (got ++ range old place (suc rest))) t ts a (
    cond_both (length r == m) (look_pieces fuel (place + 512) (suc rest - 512) (got ++ r) next) (next (got ++ r))
    (λ (q : Prog A). Takes q (looks_of ts) a → Left (next (got ++ range old place (suc rest))) ts a)
    (λ full s.
    left_along next ((got ++ r) ++ range old (place + 512) (suc rest - 512)) (got ++ range old place (suc rest)) ts a
    (append_assoc got r (range old (place + 512) (suc rest - 512)) ∙ ap (λ (b : List ℕ). got ++ b) (range_cut old place (suc rest) (eqb-true (length r) m full)))
    (takes_pieces old P L fuel (place + 512) (suc rest - 512) (got ++ r) next ts a (omega arith) (omega arith) (λ some. omega arith) parts.1 s))
    (λ short s.
    left_along next (got ++ r) (got ++ range old place (suc rest)) ts a
    (ap (λ (b : List ℕ). got ++ b) (range_short old place m (suc rest) (eqb-false (length r) m short) (omega arith)))
    (record { count = 0; takes = s }))
    (subst (λ (b : List ℕ). Takes (onward b) (looks_of ts) a) here now.1))

-- the looks at a range come to its bytes in the old image
pub takes_cut_up : {A : Type 0} (old : List ℕ) (place len : ℕ) (vs : List Visit) (next : List ℕ → Prog A) (ts : List Taken) (a : A)
    → length old ≤ 2 ^ 64 → AreTakenAs old (record { place = place; len = len; counts = all_of } ∷ vs) ts
    → Takes (cut_up place len next) (looks_of ts) a → Left (next (range old place len)) ts a
takes_cut_up old place len vs next ts a fits taken h =
    let n : ℕ = below_end place len in
    left_along next (range old place n) (range old place len) ts a (range_below old place len fits)
    (takes_pieces old place len (n / 512 + 1) place n [] next ts a (omega arith) (omega arith) (λ some. omega arith) (parts_of old place len vs ts taken) h)

pub takes_left : {A : Type 0} (p : Prog A) (ts : List Taken) (a : A) (left : Left p ts a) → Takes p (looks_of (drop left.count ts)) a
takes_left p ts a left = subst (λ (ls : List Look). Takes p ls a) (drop-map (λ (t : Taken). t.look) left.count ts) left.takes

pub leaving_kept : {A : Type 0} (old : List ℕ) (cap : ℕ) (ks : List Kept) (p : Prog A) (ts : List Taken) (left : A × List Kept)
    → length old ≤ 2 ^ 64 → AreRight old ks → AreTakenAs old (visits old p) ts
    → Takes (lowered_leaving cap ks p) (looks_of ts) left → left ≡ (eval old p, store_after old cap ks p)
leaving_kept old cap ks (ret a) ts left fits right taken h = (takes_ret (a, ks) (looks_of ts) left h).1
leaving_kept old cap ks (whole at len next) ts left fits right taken h =
    let r : List ℕ = range old at len in
    let vs : List Visit = visits old (next r) in
    let l = takes_cut_up old at len vs (λ b. lowered_leaving cap ks (next b)) ts left fits taken h in
    leaving_kept old cap ks (next r) (drop l.count ts) left fits right
    (taken_drop old vs l.count ts (taken_behind old (record { place = at; len = len; counts = all_of }) vs ts taken))
    (takes_left (lowered_leaving cap ks (next r)) ts left l)
leaving_kept old cap ks (counted at counts next) [] left fits right taken h = cc
leaving_kept {A} old cap ks (counted at counts next) (t ∷ ts) left fits right taken h =
    let n : ℕ = below_end at 512 in
    let now = takes_whole at n (λ b. lowered_leaving cap ks (next (counts b))) t.look (looks_of ts) left h in
    let e : counts t.look.bytes ≡ counts (range old at 512) =
    ap counts (taken.0.gave ∙ ap (λ p. range t.image p t.look.len) now.0.0 ∙ ap (λ m. range t.image at m) now.0.1 ∙ range_below t.image at 512 taken.0.fits)
    ∙ taken.0.same.0 in
    leaving_kept old cap ks (next (counts (range old at 512))) ts left fits right
    (taken_behind old (record { place = at; len = 512; counts = counts }) (visits old (next (counts (range old at 512)))) ts taken.1)
    (subst (λ (b : List ℕ). Takes (lowered_leaving cap ks (next b)) (looks_of ts) left) e now.1)
leaving_kept {A} old cap ks (stored kind at len next) ts left fits right taken h =
    let r : List ℕ = range old at len in
    let vs : List Visit = visits old (next r) in
    let go : List ℕ → Prog (A × List Kept) = λ b. lowered_leaving cap (used cap kind at len b ks) (next b) in
    let behind = taken_behind old (record { place = at; len = len; counts = all_of }) vs ts taken in
    let later = used_right old cap kind at len r ks refl right in
    option_both (kept_bytes kind at len ks) go (cut_up at len go)
    (λ (q : Prog (A × List Kept)). Takes q (looks_of ts) left → left ≡ (eval old (next r), store_after old cap (used cap kind at len r ks) (next r)))
    (λ b e s.
    leaving_kept old cap (used cap kind at len r ks) (next r) ts left fits later behind
    (subst (λ (x : List ℕ). Takes (go x) (looks_of ts) left) (found_right old kind at len ks b right e) s))
    (λ e s.
    let l = takes_cut_up old at len vs go ts left fits taken s in
    leaving_kept old cap (used cap kind at len r ks) (next r) (drop l.count ts) left fits later (taken_drop old vs l.count ts behind) (takes_left (go r) ts left l))
    h

pub lowered_kept : {A : Type 0} (old : List ℕ) (cap : ℕ) (ks : List Kept) (p : Prog A) (ts : List Taken) (a : A)
    → length old ≤ 2 ^ 64 → AreRight old ks → AreTakenAs old (visits old p) ts
    → Takes (lowered cap ks p) (looks_of ts) a → a ≡ eval old p
lowered_kept {A} old cap ks p ts a fits right taken h =
    let s = takes_split (lowered_leaving cap ks p) (λ left. ret left.0) (looks_of ts) a
    (subst (λ (q : Prog A). Takes q (looks_of ts) a) (lowered_is cap ks p) h) in
    let e = leaving_kept old cap ks p (take s.first_looks ts) s.left fits right (taken_take old (visits old p) s.first_looks ts taken)
    (subst (λ (ls : List Look). Takes (lowered_leaving cap ks p) ls s.left) (take-map (λ (t : Taken). t.look) s.first_looks ts) s.first) in
    (takes_ret s.left.0 (drop s.first_looks (looks_of ts)) a s.second).1 ∙ ap (λ left. left.0) e

pub lowered_kept_in_turn : {A B : Type 0} (cap : ℕ) (ks : List Kept) (p : Prog A) (f : A → Prog B) (ts : List Taken) (b : B)
    → Takes (lowered cap ks (bind p f)) (looks_of ts) b → KeptInTurn A B cap ks p f ts b
lowered_kept_in_turn {A} {B} cap ks p f ts b h =
    let s = lowered_in_turn cap ks p f (looks_of ts) b h in
    let look : Taken → Look = λ t. t.look in
    record {
      first_looks = s.first_looks;
      within = let l : length (looks_of ts) ≡ length ts = length-map ts look in omega (arith, s.within);
      second = λ old fits right taken.
          let e = leaving_kept old cap ks p (take s.first_looks ts) s.left fits right taken
          (subst (λ (ls : List Look). Takes (lowered_leaving cap ks p) ls s.left) (take-map look s.first_looks ts) s.first) in
          subst (λ (ls : List Look). Takes (lowered cap (store_after old cap ks p) (f (eval old p))) ls b) (drop-map look s.first_looks ts)
          (subst (λ (left : A × List Kept). Takes (lowered cap left.1 (f left.0)) (drop s.first_looks (looks_of ts)) b) e s.second);
    }

-- ---- A call that is not at its end

-- a program of plain looks
abbrev pub IsPlain : {A : Type 0} → Prog A → Type 0
IsPlain (ret a) = Unit {0}
IsPlain (whole at len next) = (b : List ℕ) → IsPlain (next b)
IsPlain (counted at counts next) = ⊥
IsPlain (stored kind at len next) = ⊥

pub plain_pieces : {A : Type 0} (fuel place len : ℕ) (got : List ℕ) (next : List ℕ → Prog A) → ((b : List ℕ) → IsPlain (next b)) → IsPlain (look_pieces fuel place len got next)
plain_pieces zero place len got next h = h got
plain_pieces (suc fuel) place zero got next h = h got
plain_pieces {A} (suc fuel) place (suc rest) got next h =
    λ b. cond_both (length b == min 512 (suc rest)) (look_pieces fuel (place + 512) (suc rest - 512) (got ++ b) next) (next (got ++ b)) (λ (q : Prog A). IsPlain q)
    (λ t. plain_pieces fuel (place + 512) (suc rest - 512) (got ++ b) next h)
    (λ t. h (got ++ b))

pub plain_cut_up : {A : Type 0} (place len : ℕ) (next : List ℕ → Prog A) → ((b : List ℕ) → IsPlain (next b)) → IsPlain (cut_up place len next)
plain_cut_up place len next h = plain_pieces (below_end place len / 512 + 1) place (below_end place len) [] next h

pub plain_lowered : {A : Type 0} (cap : ℕ) (ks : List Kept) (p : Prog A) → IsPlain (lowered cap ks p)
plain_lowered cap ks (ret a) = tt
plain_lowered cap ks (whole at len next) = plain_cut_up at len (λ b. lowered cap ks (next b)) (λ b. plain_lowered cap ks (next b))
plain_lowered cap ks (counted at counts next) = λ b. plain_lowered cap ks (next (counts b))
plain_lowered {A} cap ks (stored kind at len next) =
    option_both (kept_bytes kind at len ks) (λ b. lowered cap (used cap kind at len b ks) (next b)) (cut_up at len (λ b. lowered cap (used cap kind at len b ks) (next b)))
    (λ (q : Prog A). IsPlain q)
    (λ b e. plain_lowered cap (used cap kind at len b ks) (next b))
    (λ e. plain_cut_up at len (λ b. lowered cap (used cap kind at len b ks) (next b)) (λ b. plain_lowered cap (used cap kind at len b ks) (next b)))

-- what is left after a look is left of the next program
pub rest_whole : {A : Type 0} (place len : ℕ) (next : List ℕ → Prog A) (l : Look) (ls : List Look) (q : Prog A)
    → rest_after (whole place len next) (l ∷ ls) ≡ Some q → ((l.place == place) && (l.len == len) ≡ true) × (rest_after (next l.bytes) ls ≡ Some q)
rest_whole {A} place len next l ls q h =
    cond_both ((l.place == place) && (l.len == len)) (rest_after (next l.bytes) ls) None
    (λ (o : Option (Prog A)). o ≡ Some q → ((l.place == place) && (l.len == len) ≡ true) × (rest_after (next l.bytes) ls ≡ Some q))
    (λ t s. (t, s)) (λ t s. cc) h

pub plain_rest : {A : Type 0} (p : Prog A) (ls : List Look) (q : Prog A) → IsPlain p → rest_after p ls ≡ Some q → IsPlain q
plain_rest {A} p [] q h e = let i : p ≡ q = cc in subst (λ (x : Prog A). IsPlain x) i h
plain_rest (ret a) (l ∷ ls) q h e = cc
plain_rest (whole at len next) (l ∷ ls) q h e = plain_rest (next l.bytes) ls q (h l.bytes) (rest_whole at len next l ls q e).1
plain_rest (counted at counts next) (l ∷ ls) q h e = absurd h
plain_rest (stored kind at len next) (l ∷ ls) q h e = absurd h

-- more looks go on with what is left
pub rest_append : {A : Type 0} (p : Prog A) (ls ms : List Look) (q : Prog A) → rest_after p ls ≡ Some q → rest_after p (ls ++ ms) ≡ rest_after q ms
rest_append {A} p [] ms q e = let i : p ≡ q = cc in ap (λ (x : Prog A). rest_after x ms) i
rest_append (ret a) (l ∷ ls) ms q e = cc
rest_append (whole at len next) (l ∷ ls) ms q e =
    let now = rest_whole at len next l ls q e in
    cond-true ((l.place == at) && (l.len == len)) (rest_after (next l.bytes) (ls ++ ms)) None now.0 ∙ rest_append (next l.bytes) ls ms q now.1
rest_append (counted at counts next) (l ∷ ls) ms q e = cc
rest_append (stored kind at len next) (l ∷ ls) ms q e = cc

-- on an image a program of plain looks takes these looks
pub takes_on : {A : Type 0} (img : List ℕ) (p : Prog A) → IsPlain p → Takes p (looks_on img p) (eval img p)
takes_on img (ret a) h = refl
takes_on img (whole place n next) h =
    takes_more place n next (record { place = place; len = n; bytes = range img place n }) (looks_on img (next (range img place n))) (eval img (next (range img place n)))
    refl refl (takes_on img (next (range img place n)) (h (range img place n)))
takes_on img (counted at counts next) h = absurd h
takes_on img (stored kind at len next) h = absurd h

pub lowered_ends : {A : Type 0} (img : List ℕ) (cap : ℕ) (ks : List Kept) (p : Prog A) (ls : List Look) (q : Prog A)
    → rest_after (lowered cap ks p) ls ≡ Some q → Takes (lowered cap ks p) (ls ++ looks_on img q) (eval img q)
lowered_ends img cap ks p ls q e =
    rest_append (lowered cap ks p) ls (looks_on img q) q e ∙ takes_on img q (plain_rest (lowered cap ks p) ls q (plain_lowered cap ks p) e)
