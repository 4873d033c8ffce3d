-- The messages of a header and its ranges, as they are held.
use Rattle.std.specs.Prelude.{◌≡◌, ℕ, ◌+◌, ◌-◌, Bool, List, [], ◌∷◌, ◌++◌, map, take, nat_lt, if◌then◌else◌, Option, Some, None, Result, Ok, Err}
use Rattle.h5w_dataset.specs.Founds.{found_of, founds}
use Rattle.h5w_model.specs.Numbers.{range}
use Rattle.h5w_model.specs.Programs.{Prog, ret}
use Rattle.h5w_model.specs.Datasets.{HeaderFields, Range, splice, header_refusal, block_place, block_len}
use Rattle.h5w_model.specs.Datasets as model
use Rattle.h5w_model.specs.declared.refusal.ReadError.{ReadError}
use Rattle.h5w_model.specs.declared.refusal.HeaderError.TheVariants as header_errors
use Rattle.h5w_headers.specs.Walks.{block_for}
use Rattle.h5w_space.specs.declared.Extent.{Extent}
use Rattle.h5w_dataset.specs.declared.found.FoundMessage.{FoundMessage}
use Rattle.h5w_headers.specs.declared.walk.Header.{Header}

abbrev pub range_of : Extent → Range
range_of e = record { place = e.at; len = e.size }

abbrev pub ranges_of : List Extent → List Range
ranges_of es = map range_of es

abbrev pub header_of : Header → HeaderFields
header_of h = record { messages = founds h.messages.items; ranges = ranges_of h.extents.items }

-- what is done at a continuation
abbrev pub Visit : Type 0
Visit = List model.FoundMessage → model.FoundMessage → List model.FoundMessage → Prog (Result HeaderFields ReadError)

-- Messages were passed up to a continuation, or to the end: the splice goes on from here.
abbrev pub Passed : Option FoundMessage → List model.FoundMessage → List model.FoundMessage → List model.FoundMessage → List model.FoundMessage → Type 0
Passed None done ms done_now rest = (visit : Visit) (visited : List Range) → splice visit visited done ms ≡ ret (Ok (record { messages = done_now; ranges = visited }))
Passed (Some m) done ms done_now rest = (visit : Visit) (visited : List Range) → splice visit visited done ms ≡ visit done_now (found_of m) rest

-- a block's messages before those that come next, or the refusal
abbrev pub block_before : Bool → Bool → ℕ → ℕ → List ℕ → List model.FoundMessage → Result (List model.FoundMessage) ReadError
block_before writing tracked at len b next =
    elim (block_for writing tracked at len b) [ Ok inside ↦ Ok (inside ++ next) | Err e ↦ Err e ]

-- what is left to do after a continuation block: the messages that come next, and the ranges that were visited
abbrev pub entered : Bool → Bool → model.FoundMessage → List model.FoundMessage → List Range → List ℕ → Result (List model.FoundMessage × List Range) ReadError
entered writing tracked m next visited img =
    if nat_lt (block_len m) 8 then Err (header_refusal (block_place m) (header_errors.Short 8 (block_len m)))
    else elim (block_before writing tracked (block_place m) (block_len m) (range img (block_place m) (block_len m)) next) [
      | Ok ms ↦ Ok (ms, visited ++ record { place = block_place m; len = block_len m } ∷ [])
      | Err e ↦ Err e
    ]

-- all of chunk 0, given the first 512 bytes
abbrev pub whole_chunk_0 : List ℕ → ℕ → ℕ → List ℕ → List ℕ
whole_chunk_0 img place total first = if nat_lt 512 total then first ++ range img (place + 512) (total - 512) else take total first
