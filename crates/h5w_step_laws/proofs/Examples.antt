-- A header with times, attribute info and an empty message, as another program writes one: what it is after a commit.
use Rattle.std.proofs.Common.{◌≡◌, ℕ, List, [], ◌∷◌, ◌++◌, Some, Ok, refl, lit≤}
use Rattle.h5w_model.specs.Numbers.{num, le, undefined}
use Rattle.h5w_model.specs.Checksum.{sum_of, rounds, mixed, mix_line, finished, finish_line, added, sealed_block}
use Rattle.h5w_model.specs.Headers.{prefix_at, header_at, messages_at, msgs_in, msgs_bytes, placed, zeros, header_signature, first_of, data_in_header, rows_in_header, index_in_header, rows_changed, with_rows_bytes}
use Rattle.h5w_model.specs.declared.message.Msg.{Msg}
use Rattle.h5w_step_laws.specs.Commits.{IsIndexWritten}
use Rattle.h5w_step_laws.specs.Spelled.{message}
use Rattle.h5w_step_laws.proofs.CommitLaws.{index_written}

-- the data of the dataspace and of the layout, with these rows and this index address
abbrev space : ℕ → List ℕ
space rows = 2 ∷ 1 ∷ 1 ∷ 1 ∷ (le 8 rows ++ le 8 undefined)

abbrev layout : ℕ → List ℕ
layout index = 4 ∷ 2 ∷ 0 ∷ 2 ∷ 1 ∷ 2 ∷ 4 ∷ 4 ∷ 32 ∷ 4 ∷ 4 ∷ 16 ∷ 10 ∷ le 8 index

abbrev messages : ℕ → ℕ → List Msg
messages rows index =
    message 1 (space rows) ∷ message 3 (48 ∷ 8 ∷ 0 ∷ 0 ∷ 4 ∷ 0 ∷ 0 ∷ 0 ∷ 0 ∷ 0 ∷ 32 ∷ 0 ∷ []) ∷ message 5 (3 ∷ 11 ∷ []) ∷ message 8 (layout index)
    ∷ message 21 (0 ∷ 0 ∷ (le 8 undefined ++ le 8 undefined)) ∷ message 0 (zeros 10) ∷ []

-- 16 bytes of times stand before the size
abbrev header : ℕ → ℕ → List ℕ
header rows index = sealed_block (header_signature ++ 2 ∷ 32 ∷ (zeros 16 ++ 107 ∷ msgs_bytes (messages rows index)))

pub is_read : messages_at (header 3 undefined) ≡ Ok (placed 23 (messages 3 undefined))
unfolding messages_at header_at prefix_at msgs_in num le sum_of rounds mixed mix_line finished finish_line added
is_read = refl

-- the law, of this header
pub by_law : IsIndexWritten (header 3 undefined) (with_rows_bytes (header 3 undefined) 5 (Some 240)) (placed 23 (messages 5 240))
unfolding le num
by_law =
    index_written (header 3 undefined) (placed 23 (messages 3 undefined)) (record { kind = 1; flags = 0; at = 23; body = space 3 }) (record { kind = 8; flags = 0; at = 69; body = layout undefined }) 5 240
    is_read refl (lit≤ tt) refl (lit≤ tt)

-- by computing: the header with these rows and this address
pub by_bytes : with_rows_bytes (header 3 undefined) 5 (Some 240) ≡ header 5 240
unfolding with_rows_bytes rows_changed rows_in_header index_in_header data_in_header first_of messages_at header_at prefix_at msgs_in num le sum_of rounds mixed mix_line finished finish_line added
by_bytes = refl
