-- A file that an append left, wherever it was stopped, is appended to again: once it is cleared, or at once, by a takeover.
use Rattle.std.specs.Prelude.{◌≡◌, ◌⊎◌, ℕ, ◌*◌, ◌^◌, ◌<◌, ◌≤◌, Bool, List, ◌++◌, length, take, Some, Ok, ℤ}
use Rattle.h5w_model.specs.Findings.{Summary, Valid}
use Rattle.h5w_model.specs.Images.{image}
use Rattle.h5w_model.specs.Numbers.{range}
use Rattle.h5w_model.specs.Superblock.{super_at}
use Rattle.h5w_model.specs.Tables.{Reads}
use Rattle.h5w_model.specs.declared.piece.Write.{Write}
use Rattle.h5w_model.specs.declared.root.Super.{Super}
use Rattle.h5w_image.specs.View.{DiskView}
use Rattle.h5w_text.specs.declared.error.ErrorLine.{ErrorLine}
use Rattle.h5w_opening.specs.declared.error.OpenError.{OpenError}
use Rattle.h5w_writer.specs.Sessions.{Session}
use Rattle.h5w_reopening_laws.specs.Reopens.{IsCleared, Reopens}
use Rattle.h5w_several_open.specs.Beginnings.{HadFlags, IsNotBegun, taken_over}
use Rattle.h5w_several_open.specs.declared.beginning.Beginning.{Beginning}
use Rattle.h5w_several_open.specs.declared.beginning.Beginning.TheVariants as beginnings
use Rattle.h5w_takeover_laws.specs.Refused.{IsLeftOpen}
use Rattle.h5w_batches.specs.Batches.{Batches}
use Rattle.h5w_files.specs.Clears.{ClearsTo}
use Rattle.h5w_files.specs.Images.{told_bytes}
use Rattle.h5w_files.specs.declared.flags.Clearing.{Clearing}
use Rattle.h5w_appending.specs.Appends.{Broke, ClosedUp, IsFree, IsOpenOver, Unopened}
use Rattle.h5w_appending.specs.Puts.{writes_of}
use Rattle.h5w_appending.specs.Taken.{values_of}

-- An append put these pieces, the oldest first, behind these batches, until the disk failed or the session was closed.
pub data AppendPut (name : List ℕ) (first : Session) (b : Batches) (v w : DiskView) : List Write → Type 0 where
  broke : (x : Broke name first b v w) → AppendPut name first b v w (writes_of x.puts)
  closed : (x : ClosedUp name first b v w) → AppendPut name first b v w (writes_of x.puts)

-- the values that a file had, and behind them those of an append's batches, also of one that was not closed
abbrev pub all_values : List ℤ → Batches → List ℤ
all_values values b = (values ++ values_of b.closed) ++ b.waiting

-- The file is opened with the rows that it had or more, which are its own and then the append's.
pub record Continues (img at : List ℕ) (rows columns : ℕ) (all : List ℤ) : Type 0 where
  pub count : ℕ
  pub more : rows ≤ count
  pub reopens : Reopens img at count columns (take (count * columns) all)

-- A valid file that reads as these values and that nothing refuses to who takes it over: so a takeover answers a session over these rows, or the
-- image failed, or memory ran out.
pub record TakesOver (img name : List ℕ) (rows columns : ℕ) (values : List ℤ) : Type 0 where
  pub summary : Summary
  pub valid : Valid img name summary
  pub reads : Reads img name rows columns values
  pub takes : (e : OpenError) → IsNotBegun taken_over img (length img) name e → ⊥

-- As it was left the file is taken over, with the rows that it had or more, which are its own and then the append's.
pub record ContinuesAtOnce (img at : List ℕ) (rows columns : ℕ) (all : List ℤ) : Type 0 where
  pub count : ℕ
  pub more : rows ≤ count
  pub takes : TakesOver img at count columns (take (count * columns) all)

-- ---- Laws

-- An append that opened a valid file, or took it over, and was stopped behind any of its pieces: once the flags of writers are cleared the file is
-- opened again.
abbrev pub StoppedContinues : Type 0
StoppedContinues = (by : Beginning) (name at : List ℕ) (limit budget : ℕ) (keeps : Bool) (first : Session) (b : Batches) (v w : DiskView) (img : List ℕ) (rows columns : ℕ) (values : List ℤ) (sm : Summary) → IsOpenOver by name at limit budget keeps v first
    → told_bytes v.told name ≡ Some img → Valid img at sm → Reads img at rows columns values → length img < 2 ^ 64 → (ws : List Write) (k : ℕ) (new : List ℕ) → AppendPut name first b v w ws → k ≤ length ws
    → IsCleared (image img (take k ws)) new → Continues new at rows columns (all_values values b)

-- and as it was left it is taken over, where it says that it is written
abbrev pub StoppedIsTaken : Type 0
StoppedIsTaken = (by : Beginning) (name at : List ℕ) (limit budget : ℕ) (keeps : Bool) (first : Session) (b : Batches) (v w : DiskView) (img : List ℕ) (rows columns : ℕ) (values : List ℤ) (sm : Summary) → IsOpenOver by name at limit budget keeps v first
    → told_bytes v.told name ≡ Some img → Valid img at sm → Reads img at rows columns values → length img < 2 ^ 64 → (ws : List Write) (k : ℕ) → AppendPut name first b v w ws → k ≤ length ws
    → IsLeftOpen (image img (take k ws)) → ContinuesAtOnce (image img (take k ws)) at rows columns (all_values values b)

-- So, of version 3, it goes on as it was left: it has no flag of a writer and is opened, or it has both and is taken over.
abbrev pub StoppedGoesOn : Type 0
StoppedGoesOn = (by : Beginning) (name at : List ℕ) (limit budget : ℕ) (keeps : Bool) (first : Session) (b : Batches) (v w : DiskView) (img : List ℕ) (rows columns : ℕ) (values : List ℤ) (sm : Summary) → IsOpenOver by name at limit budget keeps v first
    → told_bytes v.told name ≡ Some img → Valid img at sm → Reads img at rows columns values → length img < 2 ^ 64 → (ws : List Write) (k : ℕ) (root : Super) → AppendPut name first b v w ws → k ≤ length ws
    → super_at (range (image img (take k ws)) 0 48) ≡ Ok root → root.version ≡ 3
    → (HadFlags beginnings.Opened root.flags × Continues (image img (take k ws)) at rows columns (all_values values b)) ⊎ (HadFlags taken_over root.flags × ContinuesAtOnce (image img (take k ws)) at rows columns (all_values values b))

-- what a clear without an error leaves of a file is its bytes with the flags of writers cleared
abbrev pub ClearClears : Type 0
ClearClears = (name : List ℕ) (upgrade : Bool) (v w : DiskView) (found : Clearing) (img : List ℕ) → ClearsTo name upgrade v w (Ok found) → told_bytes v.told name ≡ Some img
    → (new : List ℕ) × (told_bytes w.told name ≡ Some new) × IsCleared img new

-- an append over a file that is opened fails to open it for no reason but the disk, or want of memory
abbrev pub AppendOpens : Type 0
AppendOpens = (name at : List ℕ) (v w : DiskView) (e : ErrorLine) (img : List ℕ) (rows columns : ℕ) (values : List ℤ) → Unopened beginnings.Opened name at v w e → told_bytes v.told name ≡ Some img → Reopens img at rows columns values → IsFree e

-- and so it is of one that takes over a file as it was left
abbrev pub TakeoverBegins : Type 0
TakeoverBegins = (name at : List ℕ) (v w : DiskView) (e : ErrorLine) (img : List ℕ) (rows columns : ℕ) (values : List ℤ) → Unopened beginnings.TakenOver name at v w e → told_bytes v.told name ≡ Some img → TakesOver img at rows columns values → IsFree e
