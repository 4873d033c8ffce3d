-- The pieces of some bytes, one behind the other.
use Rattle.std.proofs.Common.{◌≡◌, ℕ, ◌+◌, ◌/◌, ◌<◌, min, [], ◌∷◌, ◌++◌, ◌∙◌, arith}

-- one piece less
pub count_next : (rest part more had has all : ℕ) → rest ≡ part + more → part ≡ min 512 rest → 0 < rest → has ≡ had + 1 → had + (rest + 511) / 512 ≡ all → has + (more + 511) / 512 ≡ all
count_next rest part more had has all e c some next goes = omega arith
