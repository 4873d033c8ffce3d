-- A header that is looked at to be read, or to be written too. Where it is to be written, a block with a message that is not known
-- here and has flag bit 3 is refused, right after what refuses the block where it is read.
use Rattle.std.specs.Prelude.{ℕ, zero, suc, ◌+◌, ◌-◌, Bool, true, false, List, [], ◌∷◌, ◌++◌, length, nat_lt, if◌then◌else◌, Result, Ok, Err}
use Rattle.h5w_model.specs.Programs.{Prog, ret, whole, counted}
use Rattle.h5w_model.specs.Headers.{prefix_at, messages_at, block_at, header_view, unless_refused, unknown_for_writing}
use Rattle.h5w_model.specs.Headers as headers
use Rattle.h5w_model.specs.Datasets.{FoundMessage, Range, HeaderFields, found_at, header_refusal, block_place, block_len, splice, root_view, then_also, refused_as}
use Rattle.h5w_model.specs.Messages.{unsupported}
use Rattle.h5w_model.specs.declared.message.Msg.{Msg}
use Rattle.h5w_model.specs.declared.message.Prefix.{Prefix}
use Rattle.h5w_model.specs.declared.refusal.ReadError.{ReadError}
use Rattle.h5w_model.specs.declared.refusal.ReadError.TheVariants.{Header}
use Rattle.h5w_model.specs.declared.refusal.ReadError.TheVariants as read_errors
use Rattle.h5w_model.specs.declared.refusal.HeaderError.{HeaderError}
use Rattle.h5w_model.specs.declared.refusal.HeaderError.TheVariants as header_errors

-- a block's messages, unless one asks to be known by who writes
abbrev pub known_by : Bool → Result (List Msg) HeaderError → Result (List Msg) HeaderError
known_by true given = headers.and_then given (λ ms. unless_refused (unknown_for_writing ms) ms)
known_by false given = given

-- the messages of a continuation block of this length, given the bytes found
abbrev pub block_for : Bool → Bool → ℕ → ℕ → List ℕ → Result (List FoundMessage) ReadError
block_for writing tracked place len b =
    if nat_lt (length b) len then Err (header_refusal place (header_errors.Short len (length b)))
    else then_also (refused_as (header_refusal place) (known_by writing (block_at tracked b))) (λ ms. Ok (found_at place false ms))

-- A header's messages, with at most so many continuation blocks more: each continuation's messages, which stand in its block,
-- come in its place, before those behind it.
abbrev pub walk_for : Bool → ℕ → ℕ → Bool → List Range → List FoundMessage → List FoundMessage → Prog (Result HeaderFields ReadError)
walk_for writing zero header tracked visited done ms = splice (λ before m rest. ret (Err (Header header header_errors.Continuations))) visited done ms
walk_for writing (suc more) header tracked visited done ms =
    splice (λ before m rest.
    if nat_lt (block_len m) 8 then ret (Err (header_refusal (block_place m) (header_errors.Short 8 (block_len m))))
    else whole (block_place m) (block_len m) (λ b.
    elim (block_for writing tracked (block_place m) (block_len m) b) [
      | Ok inside ↦ walk_for writing more header tracked (visited ++ record { place = block_place m; len = block_len m } ∷ []) before (inside ++ rest)
      | Err e ↦ ret (Err e)
    ])) visited done ms

-- the messages from chunk 0 on
abbrev pub from_chunk_0_for : Bool → ℕ → Prefix → List ℕ → Prog (Result HeaderFields ReadError)
from_chunk_0_for writing place p b =
    elim (known_by writing (messages_at b)) [
      | Ok ms ↦ walk_for writing 32 place p.tracked (record { place = place; len = p.total } ∷ []) [] (found_at place true ms)
      | Err e ↦ ret (Err (header_refusal place e))
    ]

abbrev pub root_header_for : Bool → ℕ → Prog (Result HeaderFields ReadError)
root_header_for writing place = counted place root_view (λ first.
    elim (prefix_at first) [
      | Ok p ↦ (if nat_lt 512 p.total then whole (place + 512) (p.total - 512) (λ rest. from_chunk_0_for writing place p (first ++ rest)) else from_chunk_0_for writing place p first)
      | Err e ↦ ret (Err (header_refusal place e))
    ])

-- chunk 0 of a dataset header; more than 512 bytes are unsupported right after what stands before the messages
abbrev pub dataset_messages_for : Bool → ℕ → List ℕ → Prog (Result HeaderFields ReadError)
dataset_messages_for writing place b =
    elim (prefix_at b) [
      | Ok p ↦ (if nat_lt 512 p.total then ret (Err (read_errors.Unsupported (unsupported 1))) else from_chunk_0_for writing place p b)
      | Err e ↦ ret (Err (header_refusal place e))
    ]

abbrev pub dataset_header_for : Bool → ℕ → Prog (Result HeaderFields ReadError)
dataset_header_for writing place = counted place header_view (dataset_messages_for writing place)
