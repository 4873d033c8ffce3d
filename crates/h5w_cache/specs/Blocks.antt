-- One block as it is kept: its bytes with addresses of other blocks in them, and where those stand.
use Rattle.std.specs.Prelude.{ℕ, ◌+◌, ◌-◌, ◌≤◌, ◌==◌, Bool, true, false, List, [], ◌∷◌, ◌++◌, take, drop, if◌then◌else◌}
use Rattle.std.specs.List.{All}
use Rattle.h5w_model.specs.Numbers.{le, undefined}
use Rattle.h5w_model.specs.Checksum.{sealed_block}
use Rattle.h5w_cache.specs.declared.block.Link.{Link}
use Rattle.h5w_cache.specs.declared.block.Placement.{Placement}
use Rattle.h5w_cache.specs.declared.block.Placement.TheVariants.{Copied, InPlace}

-- what contracts see of a block
pub record BlockView : Type 0 where
  pub bytes : List ℕ
  -- where addresses of other blocks stand in them, and under which numbers those are kept
  pub links : List Link
  -- blocks are written by rising turn
  pub turn : ℕ
  -- it stays at the place that it has
  pub in_place : Bool
  -- so many bytes from the front end in their sum
  pub sealed : ℕ

-- a block in place stays at the place that it has, and a copied one gets a new place each time
abbrev pub stays_by : Placement → Bool
stays_by InPlace = true
stays_by Copied = false

-- each link lies in n bytes
abbrev pub AreInside : List Link → ℕ → Type 0
AreInside links n = All (λ (l : Link). l.offset + 8 ≤ n) links

-- the bytes with the number v in the eight bytes from a place on
abbrev pub with_number : ℕ → ℕ → List ℕ → List ℕ
with_number place v b = (take place b ++ le 8 v) ++ drop (place + 8) b

abbrev pub numbered : ℕ → ℕ → BlockView → BlockView
numbered place v b = record b { bytes = with_number place v b.bytes }

-- the place of the block that is linked stands where the link says; where it has none, the bytes stay
abbrev pub linked : (ℕ → ℕ) → Link → List ℕ → List ℕ
linked place l b = if place l.child == undefined then b else with_number l.offset (place l.child) b

-- the same for each link
abbrev pub patched : (ℕ → ℕ) → List Link → List ℕ → List ℕ
patched place [] b = b
patched place (l ∷ ls) b = patched place ls (linked place l b)

-- the first n bytes end in their sum
abbrev pub sealed_front : ℕ → List ℕ → List ℕ
sealed_front n b = sealed_block (take (n - 4) b) ++ drop n b

-- the block with the places of the blocks that it links to, and its sum
abbrev pub spelled : (ℕ → ℕ) → BlockView → BlockView
spelled place b = record b { bytes = sealed_front b.sealed (patched place b.links b.bytes) }
