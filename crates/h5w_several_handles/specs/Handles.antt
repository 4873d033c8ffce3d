-- What a call of a writer of several datasets leaves in a handle.
use Rattle.std.specs.Prelude.{◌≡◌, ◌⊎◌, ℕ, Bool, true, false, List, [], length, is_some, Option, Some, None, Result, Ok, Err}
use Rattle.h5w_opening.specs.declared.error.OpenError.{OpenError}
use Rattle.h5w_several_writer_laws.specs.Sessions.{Sessions, all_pending}
use Rattle.h5w_handles.specs.Codes.{busy, misuse, no_memory, told}
use Rattle.h5w_handles.specs.Handles.{has_several}
use Rattle.h5w_handles.specs.declared.code.H5wCode.TheVariants as codes
use Rattle.h5w_handles.specs.declared.code.H5wTold.{H5wTold}
use Rattle.h5w_handles.specs.declared.held.Held.{Held}
use Rattle.h5w_handles.specs.declared.held.Held.TheVariants.{Several}
use Rattle.h5w_handles.specs.declared.several.SeveralState.{SeveralState}
use Rattle.h5w_writer_handles.specs.Handles.{Refuses, TellsOnly}
use Rattle.h5w_writer_handles.specs.declared.options.H5wOptions.{H5wOptions}
use Rattle.h5w_several_handles.specs.Names.{AreSetBounds, AreSetOptions, names_in}
use Rattle.h5w_several_handles.specs.Sets.{IsNewSet, IsOpenedSet, pending_of}

-- A call of a writer of several datasets: where the handle holds one, this is so of it, of the answer and of the one that the handle holds then. Of
-- a handle that holds none `none` is the answer, and it stays as it is.
pub record OnSeveral {A : Type 0} (none : A) (IsSo : SeveralState → A → SeveralState → Type 0) (old : Option Held) (answer : A) (new : Option Held) : Type 0 where
  pub called : (s t : SeveralState) → old ≡ Some (Several s) → new ≡ Some (Several t) → IsSo s answer t
  pub stays : has_several new ≡ has_several old
  pub other : has_several old ≡ false → (answer ≡ none) × (new ≡ old)

-- a session is held, and its pending pieces are told; or memory is wanting, and none is held
abbrev pub HoldsSet : SeveralState → H5wTold → Option Held → Type 0
HoldsSet s answer new = ((answer ≡ told codes.Done 0 (length (pending_of s))) × (new ≡ Some (Several s))) ⊎ ((answer ≡ no_memory) × (new ≡ None))

-- ---- Creating

-- a new session is held, whose pieces are told
pub record HoldsNew (names : List (List ℕ)) (os : List H5wOptions) (answer : H5wTold) (new : Option Held) : Type 0 where
  pub state : SeveralState
  pub held : new ≡ Some (Several state)
  pub told : answer ≡ told codes.Done 0 (length state.first.items)
  pub is_new : IsNewSet names os state

-- so it is, or memory is wanting, and nothing is held
pub record CreatesNamed (names : List (List ℕ)) (os : List H5wOptions) (answer : H5wTold) (new : Option Held) : Type 0 where
  pub either : HoldsNew names os answer new ⊎ ((answer ≡ no_memory) × (new ≡ None))

-- A handle that holds something is busy, and one that holds nothing is misused exactly if the names or an option are out of their bounds, or
-- these are not one for each name. Else it holds a new session. Memory may be wanting.
pub record CreatesSet (lens bytes : List ℕ) (os : List H5wOptions) (old : Option Held) (answer : H5wTold) (new : Option Held) : Type 0 where
  pub taken : is_some old ≡ true → (answer ≡ busy) × (new ≡ old)
  pub bounds : old ≡ None → ((names : List (List ℕ)) → names_in lens bytes ≡ Some names → AreSetOptions names os → ⊥) → ((answer ≡ misuse) ⊎ (answer ≡ no_memory)) × (new ≡ None)
  pub created : (names : List (List ℕ)) → old ≡ None → names_in lens bytes ≡ Some names → AreSetOptions names os → CreatesNamed names os answer new

-- ---- Opening

-- A session is held from now on, and no text is put.
pub record HoldsOpened (S : Sessions) (text : List ℕ) (answer : H5wTold) (left : List ℕ) (new : Option Held) : Type 0 where
  pub state : SeveralState
  pub held : new ≡ Some (Several state)
  pub session : state.session ≡ S
  pub first : state.first.items ≡ []
  pub told : answer ≡ told codes.Done 0 (length (all_pending S.parts))
  pub line : left ≡ text

-- It is held, or it is told why the file is not opened, and nothing is held.
abbrev pub TellsSet : Result Sessions OpenError → (text : List ℕ) → H5wTold → List ℕ → Option Held → Type 0
TellsSet (Ok S) text answer left new = HoldsOpened S text answer left new
TellsSet (Err e) text answer left new = Refuses e text answer left × (new ≡ None)

-- the answer for a file of these bytes
pub record AnswersSet (takes : Bool) (file : List ℕ) (names : List (List ℕ)) (limit budget : ℕ) (text : List ℕ) (answer : H5wTold) (left : List ℕ) (new : Option Held) : Type 0 where
  pub given : Result Sessions OpenError
  pub opened : IsOpenedSet takes file names limit budget given
  pub tells : TellsSet given text answer left new

-- nothing but want of memory is told, or that answer is
pub record OpensNamed (takes : Bool) (file : List ℕ) (names : List (List ℕ)) (limit budget : ℕ) (text : List ℕ) (answer : H5wTold) (left : List ℕ) (new : Option Held) : Type 0 where
  pub either : TellsOnly no_memory text answer left new ⊎ AnswersSet takes file names limit budget text answer left new

-- A handle that holds something is busy, and one that holds nothing is misused exactly if the names or a number are out of their bounds. Else it is
-- answered as the session, and holds that. Memory may be wanting. The line of a refusal goes in front of `text`.
pub record OpensSet (takes : Bool) (file lens bytes : List ℕ) (limit budget : ℕ) (text : List ℕ) (old : Option Held) (answer : H5wTold) (left : List ℕ) (new : Option Held) : Type 0 where
  pub taken : is_some old ≡ true → (answer ≡ busy) × (left ≡ text) × (new ≡ old)
  pub bounds : old ≡ None → ((names : List (List ℕ)) → names_in lens bytes ≡ Some names → AreSetBounds names limit budget → ⊥) → TellsOnly misuse text answer left new ⊎ TellsOnly no_memory text answer left new
  pub opened : (names : List (List ℕ)) → old ≡ None → names_in lens bytes ≡ Some names → AreSetBounds names limit budget → OpensNamed takes file names limit budget text answer left new
