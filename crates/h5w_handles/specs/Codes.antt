-- What a call answers, as C has it.
use Rattle.std.specs.Prelude.{ℕ}
use Rattle.h5w_handles.specs.declared.code.H5wCode.{H5wCode}
use Rattle.h5w_handles.specs.declared.code.H5wCode.TheVariants as codes
use Rattle.h5w_handles.specs.declared.code.H5wTold.{H5wTold}

-- the number of a code
abbrev pub number_of : H5wCode → ℕ
number_of codes.Done = 0
number_of codes.More = 1
number_of codes.Values = 2
number_of codes.Again = 3
number_of codes.Shrunk = 4
number_of codes.Refused = 5
number_of codes.Memory = 6
number_of codes.Busy = 7
number_of codes.Rows = 8
number_of codes.Misuse = 9
number_of codes.Stopped = 10
number_of codes.Range = 11
number_of codes.Chunks = 12
number_of codes.Full = 13
number_of codes.Opened = 14

-- a code with its two numbers
abbrev pub told : H5wCode → (detail count : ℕ) → H5wTold
told code detail count = record { code = number_of code; detail = detail; count = count }

-- ---- Answers without numbers

-- the reader's call wants a look
abbrev pub wants_more : H5wTold
wants_more = told codes.More 0 0

-- memory is wanting
abbrev pub no_memory : H5wTold
no_memory = told codes.Memory 0 0

-- a reader's call is unfinished, or the handle is open
abbrev pub busy : H5wTold
busy = told codes.Busy 0 0

-- the handle holds nothing that has the call, a number is out of its bounds, or no look or piece is due
abbrev pub misuse : H5wTold
misuse = told codes.Misuse 0 0
