-- What a visit of a block gives, behind other ranges.
use Rattle.std.specs.Prelude.{ℕ, ◌+◌, false, List, [], ◌∷◌, ◌++◌, nat_lt, if◌then◌else◌, Result, Ok, Err}
use Rattle.h5w_model.specs.Numbers.{range}
use Rattle.h5w_model.specs.Arrays.{EaibFields, eahd_at, eaib_at, easb_at, eadb_at}
use Rattle.h5w_model.specs.Findings.{Used, Finding, found, chunk_ranges, block_past_end, bad_index_header, bad_index_block, bad_secondary_block, bad_data_block}
use Rattle.h5w_model.specs.declared.refusal.BlockFault.{BlockFault}
use Rattle.h5w_check.specs.Ranges.{after}

-- the bytes of a block, and its range behind the others
abbrev pub block_found : ℕ → ℕ → ℕ → ℕ → List Used → List ℕ → Result (List ℕ × List Used) Finding
block_found end at room len old img =
    if nat_lt end (at + room) then Err (found block_past_end at) else Ok (range img at len, old ++ record { place = at; len = room; chunk = false } ∷ [])

-- what was decoded, or the finding
abbrev pub decoded : {A B : Type 0} → ℕ → ℕ → (A → B) → Result A BlockFault → Result B Finding
decoded kind at f (Ok a) = Ok (f a)
decoded kind at f (Err e) = Err (found kind at)

-- the address of the index block
abbrev pub header_found : ℕ → List ℕ → Result ℕ Finding
header_found at b = decoded bad_index_header at (λ h. h.block) (eahd_at b at)

abbrev pub index_found : ℕ → List ℕ → Result EaibFields Finding
index_found at b = decoded bad_index_block at (λ e. e) (eaib_at b at)

-- the addresses of a secondary block
abbrev pub secondary_found : ℕ → ℕ → List ℕ → Result (List ℕ) Finding
secondary_found at n b = decoded bad_secondary_block at (λ s. s.slots) (easb_at b at n)

-- the chunks of a data block behind other ranges
abbrev pub data_found : ℕ → ℕ → ℕ → ℕ → List ℕ → List Used → Result (List Used) Finding
data_found end bytes at n b old = elim (eadb_at b at n) [ Ok d ↦ after old (chunk_ranges end bytes d.slots) | Err f ↦ Err (found bad_data_block at) ]
