-- What is asked of the bytes of a file, look by look, and what it gives on an image or over looks.
use Rattle.std.specs.Prelude.{◌≡◌, ℕ, zero, suc, ◌+◌, ◌-◌, ◌/◌, ◌^◌, min, Bool, List, [], ◌∷◌, ◌++◌, length, take, ◌==◌, ◌&&◌, if◌then◌else◌, Option, Some, None, Result, Ok, Err}
use Rattle.h5w_model.specs.Numbers.{range}

-- A program of looks. `whole` asks for a block of any length, each time anew. `counted` asks for up to 512
-- bytes, of which only what `counts` takes of them counts. `stored` asks for a block of some kind, which an
-- attempt may have kept.
pub data Prog (A : Type 0) : Type 0 where
  ret : A → Prog A
  whole : (place len : ℕ) → (List ℕ → Prog A) → Prog A
  counted : (place : ℕ) → (counts : List ℕ → List ℕ) → (List ℕ → Prog A) → Prog A
  stored : (kind place len : ℕ) → (List ℕ → Prog A) → Prog A

-- what it gives on an image
abbrev pub eval : {A : Type 0} → List ℕ → Prog A → A
eval img (ret a) = a
eval img (whole place len next) = eval img (next (range img place len))
eval img (counted place counts next) = eval img (next (counts (range img place 512)))
eval img (stored kind place len next) = eval img (next (range img place len))

-- one program after another
abbrev pub bind : {A B : Type 0} → Prog A → (A → Prog B) → Prog B
bind (ret a) f = f a
bind (whole place len next) f = whole place len (λ b. bind (next b) f)
bind (counted place counts next) f = counted place counts (λ b. bind (next b) f)
bind (stored kind place len next) f = stored kind place len (λ b. bind (next b) f)

-- one program after another that may be refused
abbrev pub and_then : {A B E : Type 0} → Prog (Result A E) → (A → Prog (Result B E)) → Prog (Result B E)
and_then p f = bind p (λ r. elim r [ Ok a ↦ f a | Err e ↦ ret (Err e) ])

-- a range that a program looks at, and what of it counts
pub record Visit : Type 0 where
  pub place : ℕ
  pub len : ℕ
  pub counts : List ℕ → List ℕ

-- all of it
abbrev pub all_of : List ℕ → List ℕ
all_of bytes = bytes

-- what it looks at on an image, in order
abbrev pub visits : {A : Type 0} → List ℕ → Prog A → List Visit
visits img (ret a) = []
visits img (whole at len next) = record { place = at; len = len; counts = all_of } ∷ visits img (next (range img at len))
visits img (counted at what next) = record { place = at; len = 512; counts = what } ∷ visits img (next (what (range img at 512)))
visits img (stored kind at len next) = record { place = at; len = len; counts = all_of } ∷ visits img (next (range img at len))

-- what counts of these ranges is the same in both images
abbrev pub Same : List ℕ → List ℕ → List Visit → Type 0
Same old new [] = Unit {0}
Same old new (v ∷ vs) = (v.counts (range new v.place v.len) ≡ v.counts (range old v.place v.len)) × Same old new vs

-- how much of a range stands below 2^64
abbrev pub below_end : ℕ → ℕ → ℕ
below_end place len = min len (2 ^ 64 - place)

-- looks of at most 512 bytes from a place on; a look that gives fewer bytes than asked is the last
abbrev pub look_pieces : {A : Type 0} → ℕ → ℕ → ℕ → List ℕ → (List ℕ → Prog A) → Prog A
look_pieces zero place len got next = next got
look_pieces (suc fuel) place zero got next = next got
look_pieces (suc fuel) place (suc rest) got next =
    whole place (min 512 (suc rest)) (λ b.
    if length b == min 512 (suc rest) then look_pieces fuel (place + 512) (suc rest - 512) (got ++ b) next else next (got ++ b))

-- a range by looks of at most 512 bytes
abbrev pub cut_up : {A : Type 0} → ℕ → ℕ → (List ℕ → Prog A) → Prog A
cut_up place len next = look_pieces (below_end place len / 512 + 1) place (below_end place len) [] next

-- a block that an attempt keeps
pub record Kept : Type 0 where
  pub kind : ℕ
  pub place : ℕ
  pub len : ℕ
  pub bytes : List ℕ

abbrev pub is_of : ℕ → ℕ → ℕ → Kept → Bool
is_of kind at n k = (k.kind == kind) && (k.place == at) && (k.len == n)

-- the bytes of a kept block
abbrev pub kept_bytes : ℕ → ℕ → ℕ → List Kept → Option (List ℕ)
kept_bytes kind at n [] = None
kept_bytes kind at n (k ∷ ks) = if is_of kind at n k then Some k.bytes else kept_bytes kind at n ks

-- the kept blocks but this one
abbrev pub others : ℕ → ℕ → ℕ → List Kept → List Kept
others kind at n [] = []
others kind at n (k ∷ ks) = if is_of kind at n k then others kind at n ks else k ∷ others kind at n ks

-- the kept blocks after a use of this one, the newest first, at most `cap`
abbrev pub used : ℕ → ℕ → ℕ → ℕ → List ℕ → List Kept → List Kept
used cap sort at n b ks = take cap (record { kind = sort; place = at; len = n; bytes = b } ∷ others sort at n ks)

-- the same by looks of at most 512 bytes, with a store of at most `cap` blocks
abbrev pub lowered : {A : Type 0} → ℕ → List Kept → Prog A → Prog A
lowered cap ks (ret a) = ret a
lowered cap ks (whole at len next) = cut_up at len (λ b. lowered cap ks (next b))
lowered cap ks (counted at counts next) = whole at (below_end at 512) (λ b. lowered cap ks (next (counts b)))
lowered cap ks (stored kind at len next) =
    elim (kept_bytes kind at len ks) [
      | Some b ↦ lowered cap (used cap kind at len b ks) (next b)
      | None ↦ cut_up at len (λ b. lowered cap (used cap kind at len b ks) (next b))
    ]

-- a look that was taken, and what it gave
pub record Look : Type 0 where
  pub place : ℕ
  pub len : ℕ
  pub bytes : List ℕ

-- what is left of a program of plain looks after these looks, if they are its
abbrev pub rest_after : {A : Type 0} → Prog A → List Look → Option (Prog A)
rest_after p [] = Some p
rest_after (whole at len next) (l ∷ ls) = if (l.place == at) && (l.len == len) then rest_after (next l.bytes) ls else None
rest_after (ret a) (l ∷ ls) = None
rest_after (counted at counts next) (l ∷ ls) = None
rest_after (stored kind at len next) (l ∷ ls) = None

-- another look is to be taken
abbrev pub WantsMore : {A : Type 0} → Prog A → Type 0
WantsMore (ret a) = ⊥
WantsMore (whole at len next) = Unit {0}
WantsMore (counted at counts next) = ⊥
WantsMore (stored kind at len next) = ⊥

-- the place and the length of the next look of a program of plain looks; none where it has its answer
abbrev pub next_look : {A : Type 0} → Prog A → Option (ℕ × ℕ)
next_look (ret a) = None
next_look (whole at len next) = Some (at, len)
next_look (counted at counts next) = None
next_look (stored kind at len next) = None

-- what is left of it once its next look gave these bytes
abbrev pub fed : {A : Type 0} → List ℕ → Prog A → Prog A
fed b (ret a) = ret a
fed b (whole at len next) = next b
fed b (counted at counts next) = counted at counts next
fed b (stored kind at len next) = stored kind at len next

-- these looks are all that a program of plain looks takes, and it answers this
abbrev pub Takes : {A : Type 0} → Prog A → List Look → A → Type 0
Takes p ls a = rest_after p ls ≡ Some (ret a)

-- a look at an image
abbrev pub IsLookAt : List ℕ → Look → Type 0
IsLookAt img l = l.bytes ≡ range img l.place l.len
