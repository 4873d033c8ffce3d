-- How many looks a program takes at most, whatever bytes it is given.
use Rattle.std.proofs.Common.{◌≡◌, ℕ, zero, suc, ◌+◌, ◌-◌, ◌*◌, ◌/◌, ◌≤◌, min, cond, List, [], ◌∷◌, ◌++◌, length, Result, Ok, Err, refl, sym, ap, subst, arith}
use Rattle.std.specs.Prelude.{◌==◌}
use Rattle.std.specs.List.{AllByRecursion}
use Rattle.std.proofs.lemmas.Bool.{cond_both}
use Rattle.h5w_model.specs.Programs.{Prog, ret, whole, counted, stored, eval, bind, and_then, visits, below_end, cut_up, look_pieces, Kept, kept_bytes, used, lowered, Look, Takes}
use Rattle.h5w_model.specs.Tables.{each_of}
use Rattle.h5w_model.specs.declared.refusal.ReadError.{ReadError}
use Rattle.h5w_laws.proofs.LoweringLemmas.{option_both}
use Rattle.h5w_laws.proofs.LookLemmas.{takes_whole, takes_ret}
use Rattle.h5w_reader_laws.proofs.BlockLemmas.{onward}

-- so many looks of at most 512 bytes, and such answers
abbrev pub AtMost : {A : Type 0} → (A → Type 0) → ℕ → Prog A → Type 0
AtMost P n (ret a) = P a
AtMost P n (whole at len next) = (m : ℕ) × (len / 512 + 1 + m ≤ n) × ((b : List ℕ) → AtMost P m (next b))
AtMost P n (counted at counts next) = (m : ℕ) × (1 + m ≤ n) × ((b : List ℕ) → AtMost P m (next b))
AtMost P n (stored kind at len next) = (m : ℕ) × (len / 512 + 1 + m ≤ n) × ((b : List ℕ) → AtMost P m (next b))

-- any answer
abbrev pub AnyOf : {A : Type 0} → A → Type 0
AnyOf a = Unit {0}

pub at_most_more : {A : Type 0} (P : A → Type 0) (n k : ℕ) (p : Prog A) → n ≤ k → AtMost P n p → AtMost P k p
at_most_more P n k (ret a) h few = few
at_most_more P n k (whole at len next) h few = (few.0, omega (arith, few.1), few.2)
at_most_more P n k (counted at counts next) h few = (few.0, omega (arith, few.1), few.2)
at_most_more P n k (stored kind at len next) h few = (few.0, omega (arith, few.1), few.2)

pub at_most_bind : {A B : Type 0} (P : A → Type 0) (Q : B → Type 0) (n m : ℕ) (p : Prog A) (f : A → Prog B) → AtMost P n p → ((a : A) → P a → AtMost Q m (f a)) → AtMost Q (n + m) (bind p f)
at_most_bind P Q n m (ret a) f few h = at_most_more Q m (n + m) (f a) (omega arith) (h a few)
at_most_bind P Q n m (whole at len next) f few h = (few.0 + m, omega (arith, few.1), λ b. at_most_bind P Q few.0 m (next b) f (few.2 b) h)
at_most_bind P Q n m (counted at counts next) f few h = (few.0 + m, omega (arith, few.1), λ b. at_most_bind P Q few.0 m (next b) f (few.2 b) h)
at_most_bind P Q n m (stored kind at len next) f few h = (few.0 + m, omega (arith, few.1), λ b. at_most_bind P Q few.0 m (next b) f (few.2 b) h)

-- a program that goes on with an answer alone
abbrev pub IsAnswered : {A : Type 0} → (A → Type 0) → Result A ReadError → Type 0
IsAnswered P (Ok a) = P a
IsAnswered P (Err e) = Unit {0}

pub at_most_then : {A B : Type 0} (P : A → Type 0) (n m : ℕ) (p : Prog (Result A ReadError)) (f : A → Prog (Result B ReadError))
    → AtMost (IsAnswered P) n p → ((a : A) → P a → AtMost AnyOf m (f a)) → AtMost AnyOf (n + m) (and_then p f)
at_most_then {A} {B} P n m p f few h = at_most_bind (IsAnswered P) AnyOf n m p (onward f) few go
  where
    go : (r : Result A ReadError) → IsAnswered P r → AtMost {A = Result B ReadError} AnyOf m (onward f r)
    go (Ok a) g = h a g
    go (Err e) g = tt

pub any_answered : {A : Type 0} (n : ℕ) (p : Prog (Result A ReadError)) → AtMost AnyOf n p → AtMost (IsAnswered AnyOf) n p
any_answered n (ret (Ok a)) few = tt
any_answered n (ret (Err e)) few = tt
any_answered n (whole at len next) few = (few.0, few.1, λ b. any_answered few.0 (next b) (few.2 b))
any_answered n (counted at counts next) few = (few.0, few.1, λ b. any_answered few.0 (next b) (few.2 b))
any_answered n (stored kind at len next) few = (few.0, few.1, λ b. any_answered few.0 (next b) (few.2 b))

pub at_most_each : {K A : Type 0} (f : K → Prog (Result A ReadError)) (P : K → Type 0) (m : ℕ) (ks : List K) → AllByRecursion P ks → ((k : K) → P k → AtMost AnyOf m (f k))
    → AtMost AnyOf (length ks * m) (each_of f ks)
at_most_each f P m [] all h = tt
at_most_each {K} {A} f P m (k ∷ ks) all h =
    let rest : A → Prog (Result (List A) ReadError) = λ a. and_then (each_of f ks) (λ rs. ret (Ok (a ∷ rs))) in
    let few = at_most_then AnyOf m (length ks * m + 0) (f k) rest (any_answered m (f k) (h k all.0))
    (λ a any. at_most_then AnyOf (length ks * m) 0 (each_of f ks) (λ rs. ret (Ok (a ∷ rs))) (any_answered (length ks * m) (each_of f ks) (at_most_each f P m ks all.1 h)) (λ rs any. tt)) in
    let more : suc (length ks) ≡ length ks + 1 = omega arith in
    at_most_more AnyOf (m + (length ks * m + 0)) (suc (length ks) * m) (and_then (f k) rest) (subst (λ n. m + (length ks * m + 0) ≤ n * m) (sym more) (omega arith)) few

-- ---- Looks that were taken

-- the looks at a range, and those behind it
record Behind {A : Type 0} (next : List ℕ → Prog A) (most : ℕ) (ls : List Look) (a : A) : Type 0 where
  bytes : List ℕ
  count : ℕ
  few : count ≤ most
  rest : List Look
  all : length ls ≡ count + length rest
  takes : Takes (next bytes) rest a

behind_pieces : {A : Type 0} (fuel place len : ℕ) (got : List ℕ) (next : List ℕ → Prog A) (ls : List Look) (a : A) → Takes (look_pieces fuel place len got next) ls a → Behind next fuel ls a
behind_pieces zero place len got next ls a takes = record { bytes = got; count = 0; few = omega arith; rest = ls; all = omega arith; takes = takes }
behind_pieces (suc fuel) place zero got next ls a takes = record { bytes = got; count = 0; few = omega arith; rest = ls; all = omega arith; takes = takes }
behind_pieces (suc fuel) place (suc r) got next [] a takes = cc
behind_pieces {A} (suc fuel) place (suc r) got next (l ∷ ls) a takes =
    let m : ℕ = min 512 (suc r) in
    let go : List ℕ → Prog A = λ b. cond (length b == m) (look_pieces fuel (place + 512) (suc r - 512) (got ++ b) next) (next (got ++ b)) in
    let now = takes_whole place m go l ls a takes in
    let b : List ℕ = l.bytes in
    cond_both (length b == m) (look_pieces fuel (place + 512) (suc r - 512) (got ++ b) next) (next (got ++ b))
    (λ (q : Prog A). Takes q ls a → Behind next (suc fuel) (l ∷ ls) a)
    (λ t s.
    let later = behind_pieces fuel (place + 512) (suc r - 512) (got ++ b) next ls a s in
    record { bytes = later.bytes; count = later.count + 1; few = omega (arith, later.few); rest = later.rest; all = omega (arith, later.all); takes = later.takes })
    (λ t s. record { bytes = got ++ b; count = 1; few = omega arith; rest = ls; all = omega arith; takes = s })
    now.1

behind_cut : {A : Type 0} (place len : ℕ) (next : List ℕ → Prog A) (ls : List Look) (a : A) → Takes (cut_up place len next) ls a → Behind next (len / 512 + 1) ls a
behind_cut place len next ls a takes =
    let b = behind_pieces (below_end place len / 512 + 1) place (below_end place len) [] next ls a takes in
    record { bytes = b.bytes; count = b.count; few = omega (arith, b.few); rest = b.rest; all = b.all; takes = b.takes }

pub taken_at_most : {A : Type 0} (P : A → Type 0) (n cap : ℕ) (ks : List Kept) (p : Prog A) (ls : List Look) (a : A) → AtMost P n p → Takes (lowered cap ks p) ls a → length ls ≤ n
taken_at_most P n cap ks (ret x) ls a few takes = let e : length ls ≡ 0 = ap length (takes_ret x ls a takes).0 in omega arith
taken_at_most P n cap ks (whole at len next) ls a few takes =
    let b = behind_cut at len (λ b. lowered cap ks (next b)) ls a takes in
    let rest = taken_at_most P few.0 cap ks (next b.bytes) b.rest a (few.2 b.bytes) b.takes in
    omega (arith, few.1, b.all, b.few)
taken_at_most P n cap ks (counted at counts next) [] a few takes = omega arith
taken_at_most P n cap ks (counted at counts next) (l ∷ ls) a few takes =
    let now = takes_whole at (below_end at 512) (λ b. lowered cap ks (next (counts b))) l ls a takes in
    let rest = taken_at_most P few.0 cap ks (next (counts l.bytes)) ls a (few.2 (counts l.bytes)) now.1 in
    omega (arith, few.1)
taken_at_most {A} P n cap ks (stored kind at len next) ls a few takes =
    let go : List ℕ → Prog A = λ b. lowered cap (used cap kind at len b ks) (next b) in
    option_both (kept_bytes kind at len ks) go (cut_up at len go) (λ (q : Prog A). Takes q ls a → length ls ≤ n)
    (λ b e s.
    let rest = taken_at_most P few.0 cap (used cap kind at len b ks) (next b) ls a (few.2 b) s in
    omega (arith, few.1))
    (λ e s.
    let b = behind_cut at len go ls a s in
    let rest = taken_at_most P few.0 cap (used cap kind at len b.bytes ks) (next b.bytes) b.rest a (few.2 b.bytes) b.takes in
    omega (arith, few.1, b.all, b.few))
    takes

-- ---- Programs that look at nothing
