-- The slot that an index block leads to.
use Rattle.std.proofs.Common.{ℕ, ◌-◌, get_or, Result, Ok}
use Rattle.h5w_model.specs.Numbers.{undefined}
use Rattle.h5w_model.specs.Programs.{Prog, ret}
use Rattle.h5w_model.specs.Arrays.{EaibFields, super_block_of}
use Rattle.h5w_model.specs.Tables.{data_slot, secondary_slot, super_block_of_first}
use Rattle.h5w_model.specs.declared.cell.Place.{Place}
use Rattle.h5w_model.specs.declared.cell.Place.TheVariants.{Index, Direct, Second}
use Rattle.h5w_model.specs.declared.refusal.ReadError.{ReadError}

-- the slot at a place of the array
abbrev pub slot_of : EaibFields → Place → Prog (Result ℕ ReadError)
slot_of e p =
    elim p [
      | Index slot ↦ ret (Ok (get_or e.slots slot undefined))
      | Direct block slot ↦ data_slot (get_or e.first block undefined) (super_block_of (super_block_of_first block)).slots slot
      | Second sblock block slot ↦ secondary_slot (get_or e.second (sblock - 4) undefined) sblock block slot
    ]
