-- What a block says; nothing where it is of another kind.
use Rattle.std.specs.Prelude.{ℕ, List, []}
use Rattle.h5w_model.specs.Arrays.{numbers_in}
use Rattle.h5w_model.specs.Trees.{RecordFields, BtinFields}
use Rattle.h5w_bt.specs.Fields.{btin_of}
use Rattle.h5w_lookup.specs.declared.addresses.Addresses.{Addresses}
use Rattle.h5w_lookup.specs.declared.content.Content.{Content}
use Rattle.h5w_lookup.specs.declared.content.Content.TheVariants.{Slots, Leaf, Inner}

-- the addresses in slots, by the bytes of their block
abbrev pub addresses_in : Addresses → List ℕ
addresses_in a = numbers_in a.bytes.items a.n 18

-- its bytes
abbrev pub bytes_in : Content → List ℕ
bytes_in (Slots a) = a.bytes.items
bytes_in (Leaf rs b) = b.items
bytes_in (Inner t b) = b.items

-- the addresses of a data block or a secondary block
abbrev pub slots_in : Content → List ℕ
slots_in (Slots a) = addresses_in a
slots_in (Leaf rs b) = []
slots_in (Inner t b) = []

-- the records of a leaf
abbrev pub records_in : Content → List RecordFields
records_in (Slots a) = []
records_in (Leaf rs b) = rs
records_in (Inner t b) = []

-- an inner node
abbrev pub inner_in : Content → BtinFields
inner_in (Slots a) = record { records = []; children = [] }
inner_in (Leaf rs b) = record { records = []; children = [] }
inner_in (Inner t b) = btin_of t
