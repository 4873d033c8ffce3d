-- Looks of a call, each with the position of the log at which it was taken.
use Rattle.std.proofs.Common.{◌≡◌, ℕ, zero, suc, ◌+◌, ◌-◌, ◌/◌, ◌^◌, ◌<◌, ◌≤◌, min, cond, List, [], ◌∷◌, ◌++◌, length, take, drop, map, refl, sym, ◌∙◌, ap, subst, arith}
use Rattle.std.specs.Prelude.{◌==◌}
use Rattle.std.specs.List.{Any, AllByRecursion}
use Rattle.std.proofs.lemmas.List.{take-append-drop, take-map, drop-map}
use Rattle.std.proofs.lemmas.Bool.{cond_both}
use Rattle.h5w_model.specs.Programs.{Prog, eval, bind, Visit, visits, Same, below_end, cut_up, look_pieces, lowered, Look, Takes}
use Rattle.h5w_model.specs.Logs.{Log, hist}
use Rattle.h5w_model.specs.Prefixed.{image_at}
use Rattle.h5w_model.specs.Readers.{Placed, IsCall, looks_of}
use Rattle.h5w_laws.specs.Programs.{AreRight, store_after, IsUnstored, Taken, IsTakenAs, AreTakenAs, KeptInTurn}
use Rattle.h5w_laws.specs.Programs as laws
use Rattle.h5w_laws.proofs.LookLemmas.{takes_whole, takes_split, lowered_kept}
use Rattle.h5w_reader_laws.specs.Bounds.{looks_in}
use Rattle.h5w_reader_laws.proofs.TurnLemmas.{few_before}

-- ---- Lists of looks

pub any_here : {X : Type 0} (P : X → Type 0) (x : X) (xs : List X) → P x → Any P (x ∷ xs)
any_here P x xs h = (0, x, omega arith, refl, h)

pub any_there : {X : Type 0} (P : X → Type 0) (x : X) (xs : List X) → Any P xs → Any P (x ∷ xs)
any_there P x xs a = (suc a.0, a.1, omega (arith, a.2), a.3, a.4)

pub any_behind : {X : Type 0} (P : X → Type 0) (xs ys : List X) → Any P ys → Any P (xs ++ ys)
any_behind P [] ys h = h
any_behind P (x ∷ xs) ys h = any_there P x (xs ++ ys) (any_behind P xs ys h)

any_none : {X : Type 0} (P : X → Type 0) → Any P [] → ⊥
any_none P h = omega (arith, h.2)

-- of the first, or of a later one
any_cases : {X : Type 0} (P Q : X → Type 0) (x : X) (xs ys : List X) → ((y : X) → P y → Q y) → (P x → Any Q ys) → (Any P xs → Any Q ys) → Any P (x ∷ xs) → Any Q ys
any_cases P Q x xs ys f first later (zero, y, lt, e, h) = first (subst (λ z. P z) (sym e) h)
any_cases P Q x xs ys f first later (suc k, y, lt, e, h) = later (k, y, omega arith, e, h)

pub any_front : {X : Type 0} (P : X → Type 0) (xs ys : List X) → Any P xs → Any P (xs ++ ys)
any_front P [] ys h = absurd (any_none P h)
any_front P (x ∷ xs) ys h =
    any_cases P P x xs (x ∷ xs ++ ys) (λ y g. g) (λ here. any_here P x (xs ++ ys) here) (λ there. any_there P x (xs ++ ys) (any_front P xs ys there)) h

-- no look is behind this position
abbrev pub Until : ℕ → List Placed → Type 0
Until q ts = AllByRecursion (λ t. t.position ≤ q) ts

pub call_earlier : (log : Log) (from later : ℕ) (ts : List Placed) → from ≤ later → IsCall log later ts → IsCall log from ts
call_earlier log from later [] h c = tt
call_earlier log from later (t ∷ ts) h c = (omega (arith, c.0), c.1, c.2, c.3)

pub call_front : (log : Log) (from : ℕ) (xs ys : List Placed) → IsCall log from (xs ++ ys) → IsCall log from xs
call_front log from [] ys c = tt
call_front log from (x ∷ xs) ys c = (c.0, c.1, c.2, call_front log x.position xs ys c.3)

pub call_rest : (log : Log) (from : ℕ) (xs ys : List Placed) → IsCall log from (xs ++ ys) → IsCall log from ys
call_rest log from [] ys c = c
call_rest log from (x ∷ xs) ys c = call_earlier log from x.position ys c.0 (call_rest log x.position xs ys c.3)

pub call_until : (log : Log) (from : ℕ) (xs : List Placed) (y : Placed) (ys : List Placed) → IsCall log from (xs ++ y ∷ ys) → Until y.position xs
call_until log from [] y ys c = tt
call_until log from (x ∷ xs) y ys c = ((call_rest log x.position xs (y ∷ ys) c.3).0, call_until log x.position xs y ys c.3)

pub until_end : (log : Log) (from : ℕ) (ts : List Placed) → IsCall log from ts → Until (length (hist log.events)) ts
until_end log from [] c = tt
until_end log from (t ∷ ts) c = (c.1, until_end log t.position ts c.3)

-- ---- With their images

abbrev pub taken_of : Log → Placed → Taken
taken_of log t = record { look = t.look; image = image_at log t.position }

abbrev pub all_taken : Log → List Placed → List Taken
all_taken log ts = map (taken_of log) ts

looks_alike : (log : Log) (ts : List Placed) → laws.looks_of (all_taken log ts) ≡ looks_of ts
looks_alike log [] = refl
looks_alike log (t ∷ ts) = ap (λ (ls : List Look). t.look ∷ ls) (looks_alike log ts)

-- from one position to another these ranges are as in an old image, and no image ends past 2^64
abbrev pub AreSame : Log → ℕ → ℕ → List ℕ → List Visit → Type 0
AreSame log from to old vs = (p : ℕ) → from ≤ p → p ≤ to → (length (image_at log p) ≤ 2 ^ 64) × Same old (image_at log p) vs

are_taken : (log : Log) (from to : ℕ) (old : List ℕ) (vs : List Visit) (ts : List Placed) → IsCall log from ts → Until to ts → AreSame log from to old vs → AreTakenAs old vs (all_taken log ts)
are_taken log from to old vs [] c u same = tt
are_taken log from to old vs (t ∷ ts) c u same =
    let now = same t.position c.0 u.0 in
    (record { gave = c.2; fits = now.0; same = now.1 }, are_taken log from to old vs ts (call_earlier log from t.position ts c.0 c.3) u.1 same)

-- what is answered is what the old image gives
pub placed_kept : {A : Type 0} (log : Log) (from to : ℕ) (old : List ℕ) (cap : ℕ) (p : Prog A) (ts : List Placed) (a : A)
    → length old ≤ 2 ^ 64 → IsCall log from ts → Until to ts → AreSame log from to old (visits old p) → Takes (lowered cap [] p) (looks_of ts) a → a ≡ eval old p
placed_kept {A} log from to old cap p ts a fits c u same h =
    lowered_kept old cap [] p (all_taken log ts) a fits tt (are_taken log from to old (visits old p) ts c u same)
    (subst (λ (ls : List Look). Takes (lowered cap [] p) ls a) (sym (looks_alike log ts)) h)

-- The looks of one program after another: the first one's, and the second one's.
pub record Parts (A B : Type 0) (p : Prog A) (f : A → Prog B) (ts : List Placed) (b : B) : Type 0 where
  pub front : List Placed
  pub rest : List Placed
  pub are : front ++ rest ≡ ts
  pub left : A
  pub first : Takes p (looks_of front) left
  pub second : Takes (f left) (looks_of rest) b

pub placed_parts : {A B : Type 0} (p : Prog A) (f : A → Prog B) (ts : List Placed) (b : B) → Takes (bind p f) (looks_of ts) b → Parts A B p f ts b
placed_parts {A} {B} p f ts b h =
    let s = takes_split p f (looks_of ts) b h in
    let look : Placed → Look = λ t. t.look in
    record {
      front = take s.first_looks ts;
      rest = drop s.first_looks ts;
      are = take-append-drop s.first_looks ts;
      left = s.left;
      first = subst (λ (ls : List Look). Takes p ls s.left) (take-map look s.first_looks ts) s.first;
      second = subst (λ (ls : List Look). Takes (f s.left) ls b) (drop-map look s.first_looks ts) s.second;
    }

-- The looks of the second program, where what the first looks at is as in an old image, behind few looks of the first.
pub record Behind (A B : Type 0) (cap : ℕ) (old : List ℕ) (p : Prog A) (f : A → Prog B) (ts : List Placed) (b : B) : Type 0 where
  pub front : List Placed
  pub rest : List Placed
  pub are : front ++ rest ≡ ts
  pub few : length front ≤ looks_in (visits old p)
  pub takes : Takes (lowered cap [] (f (eval old p))) (looks_of rest) b

length_front : (n : ℕ) (ts : List Placed) → length (take n ts) ≤ n
length_front zero ts = omega arith
length_front (suc n) [] = omega arith
length_front (suc n) (t ∷ ts) = let l = length_front n ts in omega (arith, l)

pub placed_behind : {A B : Type 0} (log : Log) (from to : ℕ) (old : List ℕ) (cap : ℕ) (p : Prog A) (f : A → Prog B) (ts : List Placed) (b : B)
    → length old ≤ 2 ^ 64 → IsUnstored p → IsCall log from ts → Until to ts → AreSame log from to old (visits old p)
    → Takes (lowered cap [] (bind p f)) (looks_of ts) b → Behind A B cap old p f ts b
placed_behind {A} {B} log from to old cap p f ts b fits unstored c u same h =
    let s = few_before old cap [] p f (all_taken log ts) b fits unstored (are_taken log from to old (visits old p) ts c u same)
    (subst (λ (ls : List Look). Takes (lowered cap [] (bind p f)) ls b) (sym (looks_alike log ts)) h) in
    let n : ℕ = s.count in
    record {
      front = take n ts;
      rest = drop n ts;
      are = take-append-drop n ts;
      few = let l : length (take n ts) ≤ n = length_front n ts in omega (arith, l, s.few);
      takes =
          subst (λ (ls : List Look). Takes (lowered cap [] (f (eval old p))) ls b)
          (ap (λ (xs : List Taken). laws.looks_of xs) (drop-map (taken_of log) n ts) ∙ looks_alike log (drop n ts)) s.takes;
    }

-- ---- A block that one look shows

-- the first look, and those behind it
pub record OneLook (A : Type 0) (place len : ℕ) (next : List ℕ → Prog A) (ts : List Placed) (a : A) : Type 0 where
  pub look : Placed
  pub rest : List Placed
  pub are : ts ≡ look ∷ rest
  pub at_place : look.look.place ≡ place
  pub whole_len : look.look.len ≡ len
  pub takes : Takes (next look.look.bytes) (looks_of rest) a

pieces_none : {A : Type 0} (fuel place : ℕ) (got : List ℕ) (next : List ℕ → Prog A) → look_pieces fuel place 0 got next ≡ next got
pieces_none zero place got next = refl
pieces_none (suc fuel) place got next = refl

one_piece : {A : Type 0} (fuel place len : ℕ) (next : List ℕ → Prog A) (ts : List Placed) (a : A) → 0 < fuel → 0 < len → len ≤ 512
    → Takes (look_pieces fuel place len [] next) (looks_of ts) a → OneLook A place len next ts a
one_piece zero place len next ts a some more few h = absurd (omega arith)
one_piece (suc fuel) place zero next ts a some more few h = absurd (omega arith)
one_piece (suc fuel) place (suc m) next [] a some more few h = cc
one_piece {A} (suc fuel) place (suc m) next (t ∷ ts) a some more few h =
    let len : ℕ = min 512 (suc m) in
    let onward : List ℕ → Prog A = λ b. cond (length b == len) (look_pieces fuel (place + 512) (suc m - 512) b next) (next b) in
    let now = takes_whole place len onward t.look (looks_of ts) a h in
    let none : suc m - 512 ≡ 0 = omega arith in
    let b : List ℕ = t.look.bytes in
    record {
      look = t;
      rest = ts;
      are = refl;
      at_place = now.0.0;
      whole_len = now.0.1 ∙ (let e : len ≡ suc m = omega arith in e);
      takes =
          cond_both (length b == len) (look_pieces fuel (place + 512) (suc m - 512) b next) (next b) (λ (q : Prog A). Takes q (looks_of ts) a → Takes (next b) (looks_of ts) a)
          (λ t s. subst (λ (q : Prog A). Takes q (looks_of ts) a) (ap (λ n. look_pieces fuel (place + 512) n b next) none ∙ pieces_none fuel (place + 512) b next) s)
          (λ t s. s)
          now.1;
    }

pub one_look : {A : Type 0} (place len : ℕ) (next : List ℕ → Prog A) (ts : List Placed) (a : A) → 0 < len → len ≤ 512 → place + len ≤ 2 ^ 64
    → Takes (cut_up place len next) (looks_of ts) a → OneLook A place len next ts a
one_look {A} place len next ts a more few fits h =
    let all : below_end place len ≡ len = omega arith in
    one_piece (len / 512 + 1) place len next ts a (omega arith) more few
    (subst (λ n. Takes (look_pieces (n / 512 + 1) place n [] next) (looks_of ts) a) all h)
