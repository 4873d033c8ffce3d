-- Worked bytes of headers and links: what the definitions say of them.
use Rattle.std.proofs.Common.{◌≡◌, ℕ, List, [], ◌∷◌, Some, Ok, refl}
use Rattle.h5w_model.specs.Headers.{prefix_at, header_at, messages_at, msgs_in, header_bytes, prefix_bytes, rows_in_header, index_in_header, data_in_header, first_of}
use Rattle.h5w_model.specs.Links.{links_at}
use Rattle.h5w_model.specs.Numbers.{num, le}
use Rattle.h5w_model.specs.Checksum.{sum_of, rounds, mixed, mix_line, finished, finish_line, added}
use Rattle.h5w_model.specs.declared.message.Msg.{Msg}

abbrev pub root : List ℕ
root = 79 ∷ 72 ∷ 68 ∷ 82 ∷ 2 ∷ 0 ∷ 47 ∷ 2 ∷ 18 ∷ 0 ∷ 0 ∷ 0 ∷ 0 ∷ 255 ∷ 255 ∷ 255 ∷ 255 ∷ 255 ∷ 255 ∷ 255 ∷ 255 ∷ 255 ∷ 255 ∷ 255 ∷ 255 ∷ 255 ∷ 255 ∷ 255 ∷ 255 ∷ 10 ∷ 2 ∷ 0 ∷ 0 ∷ 0 ∷ 0 ∷ 6 ∷ 15 ∷ 0 ∷ 0 ∷ 1 ∷ 0 ∷ 4 ∷ 100 ∷ 97 ∷ 116 ∷ 97 ∷ 106 ∷ 0 ∷ 0 ∷ 0 ∷ 0 ∷ 0 ∷ 0 ∷ 0 ∷ 226 ∷ 193 ∷ 120 ∷ 148 ∷ []

abbrev pub dataset : List ℕ
dataset = 79 ∷ 72 ∷ 68 ∷ 82 ∷ 2 ∷ 0 ∷ 71 ∷ 1 ∷ 20 ∷ 0 ∷ 0 ∷ 2 ∷ 1 ∷ 1 ∷ 1 ∷ 0 ∷ 0 ∷ 0 ∷ 0 ∷ 0 ∷ 0 ∷ 0 ∷ 0 ∷ 255 ∷ 255 ∷ 255 ∷ 255 ∷ 255 ∷ 255 ∷ 255 ∷ 255 ∷ 3 ∷ 12 ∷ 0 ∷ 0 ∷ 48 ∷ 8 ∷ 0 ∷ 0 ∷ 4 ∷ 0 ∷ 0 ∷ 0 ∷ 0 ∷ 0 ∷ 32 ∷ 0 ∷ 5 ∷ 2 ∷ 0 ∷ 0 ∷ 3 ∷ 11 ∷ 8 ∷ 21 ∷ 0 ∷ 0 ∷ 4 ∷ 2 ∷ 0 ∷ 2 ∷ 1 ∷ 2 ∷ 4 ∷ 4 ∷ 32 ∷ 4 ∷ 4 ∷ 16 ∷ 10 ∷ 188 ∷ 0 ∷ 0 ∷ 0 ∷ 0 ∷ 0 ∷ 0 ∷ 0 ∷ 96 ∷ 157 ∷ 53 ∷ 52 ∷ []

abbrev pub root_messages : List Msg
root_messages =
    record { kind = 2; flags = 0; at = 7; body = 0 ∷ 0 ∷ 255 ∷ 255 ∷ 255 ∷ 255 ∷ 255 ∷ 255 ∷ 255 ∷ 255 ∷ 255 ∷ 255 ∷ 255 ∷ 255 ∷ 255 ∷ 255 ∷ 255 ∷ 255 ∷ [] }
    ∷ record { kind = 10; flags = 0; at = 29; body = 0 ∷ 0 ∷ [] }
    ∷ record { kind = 6; flags = 0; at = 35; body = 1 ∷ 0 ∷ 4 ∷ 100 ∷ 97 ∷ 116 ∷ 97 ∷ 106 ∷ 0 ∷ 0 ∷ 0 ∷ 0 ∷ 0 ∷ 0 ∷ 0 ∷ [] }
    ∷ []

pub root_reads : messages_at root ≡ Ok root_messages
unfolding messages_at header_at prefix_at msgs_in num sum_of rounds mixed mix_line finished finish_line added
root_reads = refl

pub root_spelled : header_bytes root_messages ≡ root
unfolding header_bytes prefix_bytes le num sum_of rounds mixed mix_line finished finish_line added
root_spelled = refl

pub root_links : links_at root_messages ≡ Ok (record { name = 100 ∷ 97 ∷ 116 ∷ 97 ∷ []; kind = 0; address = 106 } ∷ [])
unfolding links_at num
root_links = refl

pub rows_at : rows_in_header dataset ≡ Some 15
unfolding rows_in_header data_in_header first_of num messages_at header_at prefix_at msgs_in sum_of rounds mixed mix_line finished finish_line added
rows_at = refl

pub index_at : index_in_header dataset ≡ Some 70
unfolding index_in_header data_in_header first_of num messages_at header_at prefix_at msgs_in sum_of rounds mixed mix_line finished finish_line added
index_at = refl
