-- Looks, and programs of looks of which no block is kept.
use Rattle.std.specs.Prelude.{◌≡◌, ℕ, ◌<◌, ◌≤◌, ◌⊎◌, [], Option, Some, None, Result, Ok, Err}
use Rattle.h5w_model.specs.Programs.{Prog, lowered}
use Rattle.h5w_model.specs.declared.message.Prefix.{Prefix}
use Rattle.h5w_model.specs.declared.refusal.HeaderError.{HeaderError}
use Rattle.h5w_lookup.specs.declared.look.Look.{Look}

-- the place and the length of a look
abbrev pub look_of : Look → ℕ × ℕ
look_of l = (l.at, l.len)

-- a program in plain looks of at most 512 bytes, of which no block is kept
abbrev pub plain : {A : Type 0} → Prog A → Prog A
plain p = lowered 0 [] p

-- a program in plain looks, of which 16 blocks are kept
abbrev pub with_store : {A : Type 0} → Prog A → Prog A
with_store p = lowered 16 [] p

-- these many bytes are no more than the look asks for
abbrev pub IsWithinLook : Option (ℕ × ℕ) → ℕ → Type 0
IsWithinLook None n = ⊥
IsWithinLook (Some look) n = n ≤ look.1

-- What counts of a look is no longer than it, unless chunk 0 is: then what counts says so too.
abbrev pub FitsLook : Result Prefix HeaderError → Result Prefix HeaderError → ℕ → ℕ → Type 0
FitsLook (Err e) counts n m = n ≤ m
FitsLook (Ok p) counts n m = (n ≤ m) ⊎ ((512 < p.total) × (counts ≡ Ok p))
