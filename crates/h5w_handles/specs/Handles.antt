-- A handle: what it holds, and what a call on it leaves there.
use Rattle.std.specs.Prelude.{◌≡◌, ◌⊎◌, ℕ, ◌&&◌, List, nat_le, Bool, true, false, is_some, Option, Some, None}
use Rattle.h5w_handles.specs.Codes.{busy, misuse, no_memory, wants_more}
use Rattle.h5w_handles.specs.ReaderCalls.{IsNewReader, IsQuit}
use Rattle.h5w_handles.specs.declared.code.H5wTold.{H5wTold}
use Rattle.h5w_handles.specs.declared.held.Held.{Held}
use Rattle.h5w_handles.specs.declared.held.Held.TheVariants.{Reader, Several, Writer}
use Rattle.h5w_handles.specs.declared.reader.ReaderState.{ReaderState}

abbrev pub has_reader : Option Held → Bool
has_reader None = false
has_reader (Some (Reader s)) = true
has_reader (Some (Writer s)) = false
has_reader (Some (Several s)) = false

-- a writer of one dataset
abbrev pub has_writer : Option Held → Bool
has_writer None = false
has_writer (Some (Reader s)) = false
has_writer (Some (Writer s)) = true
has_writer (Some (Several s)) = false

-- a writer of several datasets
abbrev pub has_several : Option Held → Bool
has_several None = false
has_several (Some (Reader s)) = false
has_several (Some (Writer s)) = false
has_several (Some (Several s)) = true

-- ---- A call on a handle

-- A call of a reader: where the handle holds one, this is so of the reader, of the answer and of the reader that the handle holds then. Of a
-- handle that holds none `none` is the answer, and it stays as it is.
pub record OnReader {A : Type 0} (none : A) (IsSo : ReaderState → A → ReaderState → Type 0) (old : Option Held) (answer : A) (new : Option Held) : Type 0 where
  pub called : (s t : ReaderState) → old ≡ Some (Reader s) → new ≡ Some (Reader t) → IsSo s answer t
  pub stays : has_reader new ≡ has_reader old
  pub other : has_reader old ≡ false → (answer ≡ none) × (new ≡ old)

-- a call that ends what a reader has not finished
pub record QuitsReader (old new : Option Held) : Type 0 where
  pub called : (s t : ReaderState) → old ≡ Some (Reader s) → new ≡ Some (Reader t) → IsQuit s t
  pub stays : has_reader new ≡ has_reader old
  pub other : has_reader old ≡ false → new ≡ old

-- ---- Opening a reader

-- the attempts of a reader's call are from 1 to 1,000
abbrev pub are_attempts : ℕ → Bool
are_attempts n = nat_le 1 n && nat_le n 1000

-- a reader is held, of which a look is wanted; or memory is wanting, and none is held
abbrev pub HoldsReader : ReaderState → H5wTold → Option Held → Type 0
HoldsReader s answer new = ((answer ≡ wants_more) × (new ≡ Some (Reader s))) ⊎ ((answer ≡ no_memory) × (new ≡ None))

-- A handle that holds something is busy, and one that holds nothing is misused if the attempts are out of their bounds. Else it holds a new
-- reader, of which a look is wanted, or memory is wanting.
pub record OpensReader (name : List ℕ) (attempts : ℕ) (old : Option Held) (answer : H5wTold) (new : Option Held) : Type 0 where
  pub taken : is_some old ≡ true → (answer ≡ busy) × (new ≡ old)
  pub bounds : old ≡ None → are_attempts attempts ≡ false → (answer ≡ misuse) × (new ≡ None)
  pub either : old ≡ None → are_attempts attempts ≡ true → (answer ≡ wants_more) ⊎ (answer ≡ no_memory)
  pub begun : answer ≡ wants_more → has_reader new ≡ true
  pub is_new : answer ≡ wants_more → (s : ReaderState) → new ≡ Some (Reader s) → IsNewReader name attempts s
  pub refused : answer ≡ no_memory → new ≡ None
