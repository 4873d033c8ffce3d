-- What holds of every program of looks: on an image, with a store and in looks of 512 bytes, and over looks at images
-- that change between them.
use Rattle.std.specs.Prelude.{◌≡◌, ℕ, ◌≤◌, ◌^◌, List, [], ◌∷◌, ◌++◌, length, take, drop, map, Some, None, Result}
use Rattle.std.specs.List.{AllByRecursion}
use Rattle.h5w_model.specs.Numbers.{range}
use Rattle.h5w_model.specs.Programs.{Prog, ret, whole, counted, stored, eval, bind, and_then, Visit, visits, Same, below_end, cut_up, Kept, kept_bytes, used, lowered, Look, rest_after, Takes, IsLookAt}
use Rattle.h5w_model.specs.Datasets.{then_also}

-- ---- One program after another

-- it gives what the second gives, begun with the first one's answer
abbrev pub BoundAnswers : (A B : Type 0) → Type 0
BoundAnswers A B = (img : List ℕ) (p : Prog A) (f : A → Prog B) → eval img (bind p f) ≡ eval img (f (eval img p))

-- a refusal of the first is the refusal of both
abbrev pub NextAnswers : (A B E : Type 0) → Type 0
NextAnswers A B E = (img : List ℕ) (p : Prog (Result A E)) (f : A → Prog (Result B E))
    → eval img (and_then p f) ≡ then_also (eval img p) (λ a. eval img (f a))

-- it looks at what the first looks at, and then at what the second does
abbrev pub BoundVisits : (A B : Type 0) → Type 0
BoundVisits A B = (img : List ℕ) (p : Prog A) (f : A → Prog B) → visits img (bind p f) ≡ visits img p ++ visits img (f (eval img p))

-- ---- What stays

-- Where what a program looks at in one image is the same in another, it looks at the same there, and gives the same.
pub record SameAnswers (A : Type 0) (old new : List ℕ) (p : Prog A) : Type 0 where
  pub answer : eval new p ≡ eval old p
  pub visited : visits new p ≡ visits old p

abbrev pub AnswersStay : Type 0 → Type 0
AnswersStay A = (old new : List ℕ) (p : Prog A) → Same old new (visits old p) → SameAnswers A old new p

-- Ranges are the same in an image and itself, from one image over another to a third, both ways, and in a list's parts.
pub record SameLaws : Type 0 where
  pub itself : (img : List ℕ) (vs : List Visit) → Same img img vs
  pub onward : (old mid new : List ℕ) (vs : List Visit) → Same old mid vs → Same mid new vs → Same old new vs
  pub back : (old new : List ℕ) (vs : List Visit) → Same old new vs → Same new old vs
  pub front : (old new : List ℕ) (vs ws : List Visit) → Same old new (vs ++ ws) → Same old new vs
  pub behind : (old new : List ℕ) (vs ws : List Visit) → Same old new (vs ++ ws) → Same old new ws
  pub joined : (old new : List ℕ) (vs ws : List Visit) → Same old new vs → Same old new ws → Same old new (vs ++ ws)

-- ---- With a store, in looks of at most 512 bytes

-- a kept block has the bytes that the image has there
abbrev pub IsRight : List ℕ → Kept → Type 0
IsRight img k = k.bytes ≡ range img k.place k.len

abbrev pub AreRight : List ℕ → List Kept → Type 0
AreRight img ks = AllByRecursion (IsRight img) ks

-- on a still image a program with a store, in looks of at most 512 bytes, gives what it gives in whole blocks
abbrev pub LoweredStill : Type 0 → Type 0
LoweredStill A = (img : List ℕ) (cap : ℕ) (ks : List Kept) (p : Prog A) → length img ≤ 2 ^ 64 → AreRight img ks → eval img (lowered cap ks p) ≡ eval img p

-- the same program, which also answers the store that it leaves
abbrev pub lowered_leaving : {A : Type 0} → ℕ → List Kept → Prog A → Prog (A × List Kept)
lowered_leaving cap ks (ret a) = ret (a, ks)
lowered_leaving cap ks (whole at len next) = cut_up at len (λ b. lowered_leaving cap ks (next b))
lowered_leaving cap ks (counted at counts next) = whole at (below_end at 512) (λ b. lowered_leaving cap ks (next (counts b)))
lowered_leaving cap ks (stored kind at len next) =
    elim (kept_bytes kind at len ks) [
      | Some b ↦ lowered_leaving cap (used cap kind at len b ks) (next b)
      | None ↦ cut_up at len (λ b. lowered_leaving cap (used cap kind at len b ks) (next b))
    ]

-- the store that it leaves where it finds the bytes of this image
abbrev pub store_after : {A : Type 0} → List ℕ → ℕ → List Kept → Prog A → List Kept
store_after img cap ks (ret a) = ks
store_after img cap ks (whole at len next) = store_after img cap ks (next (range img at len))
store_after img cap ks (counted at counts next) = store_after img cap ks (next (counts (range img at 512)))
store_after img cap ks (stored kind at len next) = store_after img cap (used cap kind at len (range img at len) ks) (next (range img at len))

-- nothing of it is kept
abbrev pub IsUnstored : {A : Type 0} → Prog A → Type 0
IsUnstored (ret a) = Unit {0}
IsUnstored (whole at len next) = (b : List ℕ) → IsUnstored (next b)
IsUnstored (counted at counts next) = (b : List ℕ) → IsUnstored (next b)
IsUnstored (stored kind at len next) = ⊥

-- A store that is right for an image stays so after a program that found the bytes of another one, where what it looked
-- at is the same in both. After a program of which nothing is kept it is as before.
pub record StoreLaws (A : Type 0) : Type 0 where
  pub right : (old new : List ℕ) (cap : ℕ) (ks : List Kept) (p : Prog A) → Same old new (visits old p) → AreRight new ks → AreRight new (store_after old cap ks p)
  pub unchanged : (img : List ℕ) (cap : ℕ) (ks : List Kept) (p : Prog A) → IsUnstored p → store_after img cap ks p ≡ ks

-- ---- Over looks at images that change

-- a look, and the image at which it was taken
pub record Taken : Type 0 where
  pub look : Look
  pub image : List ℕ

abbrev pub looks_of : List Taken → List Look
looks_of ts = map (λ t. t.look) ts

-- It gave what its image has there, and these ranges of the old image are the same in its image, which ends at 2^64 at most.
pub record IsTakenAs (old : List ℕ) (vs : List Visit) (t : Taken) : Type 0 where
  pub gave : IsLookAt t.image t.look
  pub fits : length t.image ≤ 2 ^ 64
  pub same : Same old t.image vs

abbrev pub AreTakenAs : List ℕ → List Visit → List Taken → Type 0
AreTakenAs old vs ts = AllByRecursion (IsTakenAs old vs) ts

-- where each look is at an image in which what the program looks at is as in the old one, it answers what the old one gives
abbrev pub LoweredKept : Type 0 → Type 0
LoweredKept A = (old : List ℕ) (cap : ℕ) (ks : List Kept) (p : Prog A) (ts : List Taken) (a : A)
    → length old ≤ 2 ^ 64 → AreRight old ks → AreTakenAs old (visits old p) ts
    → Takes (lowered cap ks p) (looks_of ts) a → a ≡ eval old p

-- and it leaves the store that the old one gives
abbrev pub LeavingKept : Type 0 → Type 0
LeavingKept A = (old : List ℕ) (cap : ℕ) (ks : List Kept) (p : Prog A) (ts : List Taken) (left : A × List Kept)
    → length old ≤ 2 ^ 64 → AreRight old ks → AreTakenAs old (visits old p) ts
    → Takes (lowered_leaving cap ks p) (looks_of ts) left → left ≡ (eval old p, store_after old cap ks p)

-- The looks of one program after another: so many are the first one's, and the others the second one's.
pub record InTurn (A B : Type 0) (p : Prog A) (f : A → Prog B) (ls : List Look) (b : B) : Type 0 where
  pub first_looks : ℕ
  pub within : first_looks ≤ length ls
  pub left : A
  pub first : Takes p (take first_looks ls) left
  pub second : Takes (f left) (drop first_looks ls) b

abbrev pub TakesInTurn : (A B : Type 0) → Type 0
TakesInTurn A B = (p : Prog A) (f : A → Prog B) (ls : List Look) (b : B) → Takes (bind p f) ls b → InTurn A B p f ls b

-- and looks of the one and then of the other are looks of both
abbrev pub TakesBoth : (A B : Type 0) → Type 0
TakesBoth A B = (p : Prog A) (f : A → Prog B) (ls ms : List Look) (a : A) (b : B) → Takes p ls a → Takes (f a) ms b → Takes (bind p f) (ls ++ ms) b

-- The same with a store: the second begins with the answer and the store that the first left.
pub record TakenInTurn (A B : Type 0) (cap : ℕ) (ks : List Kept) (p : Prog A) (f : A → Prog B) (ls : List Look) (b : B) : Type 0 where
  pub first_looks : ℕ
  pub within : first_looks ≤ length ls
  pub left : A × List Kept
  pub first : Takes (lowered_leaving cap ks p) (take first_looks ls) left
  pub second : Takes (lowered cap left.1 (f left.0)) (drop first_looks ls) b

abbrev pub LoweredInTurn : (A B : Type 0) → Type 0
LoweredInTurn A B = (cap : ℕ) (ks : List Kept) (p : Prog A) (f : A → Prog B) (ls : List Look) (b : B)
    → Takes (lowered cap ks (bind p f)) ls b → TakenInTurn A B cap ks p f ls b

-- The looks of one program after another, each with its image: so many are the first one's. Where they are at images in
-- which what the first looks at is as in an old one, the others are those of the second, begun with what the old one gives.
pub record KeptInTurn (A B : Type 0) (cap : ℕ) (ks : List Kept) (p : Prog A) (f : A → Prog B) (ts : List Taken) (b : B) : Type 0 where
  pub first_looks : ℕ
  pub within : first_looks ≤ length ts
  pub second : (old : List ℕ) → length old ≤ 2 ^ 64 → AreRight old ks → AreTakenAs old (visits old p) (take first_looks ts)
      → Takes (lowered cap (store_after old cap ks p) (f (eval old p))) (looks_of (drop first_looks ts)) b

abbrev pub LoweredKeptInTurn : (A B : Type 0) → Type 0
LoweredKeptInTurn A B = (cap : ℕ) (ks : List Kept) (p : Prog A) (f : A → Prog B) (ts : List Taken) (b : B)
    → Takes (lowered cap ks (bind p f)) (looks_of ts) b → KeptInTurn A B cap ks p f ts b

-- ---- A call that is not at its end

-- what a program of plain looks looks at on an image
abbrev pub looks_on : {A : Type 0} → List ℕ → Prog A → List Look
looks_on img (ret a) = []
looks_on img (whole at n next) = record { place = at; len = n; bytes = range img at n } ∷ looks_on img (next (range img at n))
looks_on img (counted at counts next) = []
looks_on img (stored kind at len next) = []

-- After some looks of a program what is left of it can be completed on any image, and this completes the program.
abbrev pub LoweredEnds : Type 0 → Type 0
LoweredEnds A = (img : List ℕ) (cap : ℕ) (ks : List Kept) (p : Prog A) (ls : List Look) (q : Prog A)
    → rest_after (lowered cap ks p) ls ≡ Some q → Takes (lowered cap ks p) (ls ++ looks_on img q) (eval img q)
