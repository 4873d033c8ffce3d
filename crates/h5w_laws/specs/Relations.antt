-- What a program finds on an image is what the plain relation says of it.
use Rattle.std.specs.Prelude.{◌≡◌, ◌↔◌, ℕ, List, Result, Ok}
use Rattle.h5w_model.specs.Programs.{Prog, eval, and_then}
use Rattle.h5w_model.specs.Tables.{array_in_place, address_behind}
use Rattle.h5w_model.specs.Datasets.{FoundMessage, HeaderFields, Described, root_header, dataset_place, dataset}
use Rattle.h5w_model.specs.Relations.{ArraySlot, HasMessages, HasDataset}
use Rattle.h5w_model.specs.declared.refusal.ReadError.{ReadError}

-- the address of chunk i of the array whose header is at an address
abbrev pub array_chunk : ℕ → ℕ → Prog (Result ℕ ReadError)
array_chunk address number = and_then (array_in_place address) (λ p. address_behind p (record { i = number; j = 0 }))

-- a chunk's address is found exactly where the blocks of the array say it
abbrev pub FindsArraySlots : Type 0
FindsArraySlots = (img : List ℕ) (address i x : ℕ) → (eval img (array_chunk address i) ≡ Ok x) ↔ ArraySlot img address i x

-- a header's messages are found exactly where they stand in it, in the image
abbrev pub FindsMessages : Type 0
FindsMessages = (img : List ℕ) (place : ℕ) (ms : List FoundMessage)
    → ((h : HeaderFields) × (eval img (root_header place) ≡ Ok h) × (h.messages ≡ ms)) ↔ HasMessages img place ms

-- a dataset of a name is found at a place, and described so, exactly where superblock, root header, link and its header say it
abbrev pub FindsDataset : Type 0
FindsDataset = (img name : List ℕ) (place : ℕ) (d : Described)
    → ((eval img (dataset_place name) ≡ Ok place) × (eval img (dataset place) ≡ Ok d)) ↔ HasDataset img name place d
