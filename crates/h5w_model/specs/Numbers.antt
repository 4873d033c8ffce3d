-- Numbers as bytes, and the parts of a list of bytes. A byte is a number below 256.
use Rattle.std.specs.Prelude.{ℕ, zero, suc, ◌+◌, ◌-◌, ◌*◌, ◌/◌, ◌%◌, ◌^◌, ◌<◌, List, [], ◌∷◌, take, drop, nat_lt, if◌then◌else◌}
use Rattle.std.specs.List.{All}

-- each number of the list is a byte
abbrev pub AreBytes : List ℕ → Type 0
AreBytes bs = All (λ (b : ℕ). b < 256) bs

-- the number of some bytes, the least significant byte first
unfoldable pub num : List ℕ → ℕ
num [] = 0
num (b ∷ bs) = b + 256 * num bs

-- a number in w bytes, the least significant byte first
unfoldable pub le : ℕ → ℕ → List ℕ
le zero v = []
le (suc w) v = v % 256 ∷ le w (v / 256)

-- the n bytes from place `from` on, fewer where the bytes end
abbrev pub range : List ℕ → ℕ → ℕ → List ℕ
range b from n = take n (drop from b)

-- the number in the w bytes from place `from` on
abbrev pub field : List ℕ → ℕ → ℕ → ℕ
field b from w = num (range b from w)

-- the address of nothing: eight bytes ff
abbrev pub undefined : ℕ
undefined = 2 ^ 64 - 1

-- floor(log2 m), for m from 1 to 2^(n+1) - 1: how often m can be halved until it is 1
unfoldable pub halvings : ℕ → ℕ → ℕ
halvings zero m = 0
halvings (suc n) m = if nat_lt m 2 then 0 else suc (halvings n (m / 2))

-- floor(log2 m) div 8 + 1, for m from 1 to 2^64 - 1: the fewest bytes that m fits
unfoldable pub width_of : ℕ → ℕ
width_of m = halvings 63 m / 8 + 1
