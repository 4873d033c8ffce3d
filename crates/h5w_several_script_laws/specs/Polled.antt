-- All readers of a script over several datasets, at each of its lines: each polls for the dataset that it was opened
-- for, over the log of what this dataset sees.
use Rattle.std.specs.Prelude.{◌≡◌, ◌≢◌, ℕ, ◌<◌, ◌≤◌, List, length, ◌==◌, if◌then◌else◌, Option, Some, None, slice_get, ℤ}
use Rattle.h5w_model.specs.Logs.{Log, appends, plans, shows, flushed_rows, and_now}
use Rattle.h5w_model.specs.Several.{up_to}
use Rattle.h5w_model.specs.Unfinished.{Reader}
use Rattle.h5w_model.specs.Lawful.{Line, adds, flushes, shows_up_to, ends, opens, refreshes, reads, looks, after_shows}
use Rattle.h5w_model.specs.declared.piece.Write.{Write}
use Rattle.h5w_model.specs.declared.reply.Reply.{Reply}
use Rattle.h5w_model.specs.declared.reply.Reply.TheVariants as replies
use Rattle.h5w_script_laws.specs.Polling.{Polling}
use Rattle.h5w_script_laws.specs.Scripts.{Readers, Polled, Moves, Refuses}
use Rattle.h5w_several_script_laws.specs.Scripts.{uses, asks, using, flushing_each, says, FileState, SetState, AllowedAll, added, next_all, set_asked, shown_sets}

-- each reader that was opened, by its number, with the number of its dataset, counted from 0
abbrev pub Places : Type 0
Places = ℕ → Option (ℕ × Reader)

-- the readers of one dataset
abbrev pub readers_of : ℕ → Places → Readers
readers_of d ps n = elim (ps n) [ None ↦ None | Some x ↦ if x.0 == d then Some x.1 else None ]

-- reader n is this one, of this dataset; the others are as before
abbrev pub and_place : ℕ → ℕ → Reader → Places → Places
and_place n d r ps k = if n == k then Some (d, r) else ps k

-- a dataset of a script over the log of what it sees; its readers poll it, by the rules of its lines
pub record IsPolled (g : Polling) (log : Log) (x : SetState) (rs : Readers) : Type 0 where
  pub rules : g.rules ≡ x.rules
  pub polled : Polled g log x.state rs

-- A script over a file: each dataset over a log of its own, with what is polled for in it. The dataset in use is there,
-- and so is each reader's.
pub record FilePolled (gs : ℕ → Polling) (logs : ℕ → Log) (F : FileState) (ps : Places) : Type 0 where
  pub each : (d : ℕ) (x : SetState) → slice_get F.sets d ≡ Some x → IsPolled (gs d) (logs d) x (readers_of d ps)
  pub used : F.used < length F.sets
  pub within : (n : ℕ) (p : ℕ × Reader) → ps n ≡ Some p → p.0 < length F.sets

-- ---- Lines of a reader

-- the line is one of this reader
abbrev pub IsOf : Line → ℕ → Type 0
IsOf (adds vs) n = ⊥
IsOf flushes n = ⊥
IsOf (shows_up_to k) n = ⊥
IsOf ends n = ⊥
IsOf (opens r) n = r ≡ n
IsOf (refreshes r) n = r ≡ n
IsOf (reads r from count) n = r ≡ n
IsOf (looks r k) n = r ≡ n

-- Of which dataset a reader is asked, and what a line of a script of this dataset alone makes of the file's script:
-- what may be replied there may be replied here, and all readers poll on.
pub record ReaderFileLaws : Type 0 where
  pub asked : (gs : ℕ → Polling) (logs : ℕ → Log) (F : FileState) (ps : Places) (n d : ℕ) (r : Reader) → FilePolled gs logs F ps → ps n ≡ Some (d, r) → set_asked F n ≡ d
  pub asked_none : (gs : ℕ → Polling) (logs : ℕ → Log) (F : FileState) (ps : Places) (n : ℕ) → FilePolled gs logs F ps → ps n ≡ None → set_asked F n ≡ F.used
  pub moves : (gs : ℕ → Polling) (logs : ℕ → Log) (F : FileState) (ps : Places) (n d : ℕ) (x : SetState) (line : Line) (reply : Reply) (r : Reader) → FilePolled gs logs F ps → IsOf line n
      → set_asked F n ≡ d → slice_get F.sets d ≡ Some x → Moves (gs d) (logs d) x.state (readers_of d ps) line reply n r
      → AllowedAll F (asks line) (says reply) × FilePolled gs logs (next_all F (asks line) (says reply)) (and_place n d r ps)
  pub refuses : (F : FileState) (g : Polling) (n d : ℕ) (x : SetState) (line : Line) (reply : Reply) → IsOf line n → set_asked F n ≡ d → slice_get F.sets d ≡ Some x → g.rules ≡ x.rules
      → Refuses g x.state line reply → AllowedAll F (asks line) (says reply) × (next_all F (asks line) (says reply) ≡ F)

-- ---- Lines of the writer

-- Each line of the writer, and what it adds to the logs, leaves all readers polling.
pub record WriterFileLaws : Type 0 where
  -- another dataset is in use
  pub used : (gs : ℕ → Polling) (logs : ℕ → Log) (F : FileState) (ps : Places) (i : ℕ) → FilePolled gs logs F ps → 1 ≤ i → i ≤ length F.sets
      → AllowedAll F (uses i) (using i) × FilePolled gs logs (next_all F (uses i) (using i)) ps
  -- values are appended to the dataset in use
  pub appended : (gs : ℕ → Polling) (old new : ℕ → Log) (F : FileState) (ps : Places) (vs : List ℤ) (rows pending : ℕ) → FilePolled gs old F ps → new F.used ≡ and_now (appends vs) (old F.used)
      → ((d : ℕ) → d ≢ F.used → new d ≡ old d) → FilePolled gs new (added F vs rows pending) ps
  -- a flush, which flushes no rows by itself
  pub planned : (gs : ℕ → Polling) (logs : ℕ → Log) (F : FileState) (ps : Places) (counts : List ℕ) → FilePolled gs logs F ps → length counts ≡ length F.sets
      → ((d : ℕ) (x : SetState) → slice_get F.sets d ≡ Some x → flushed_rows (and_now (plans (up_to d counts)) (logs d)) ≡ flushed_rows (logs d))
      → FilePolled gs (λ d. and_now (plans (up_to d counts)) (logs d)) (next_all F (asks flushes) (flushing_each counts)) ps
  -- a piece, after which as much is flushed of each dataset as its state says
  pub shown : (gs : ℕ → Polling) (logs : ℕ → Log) (F : FileState) (ps : Places) (w : Write) (k pieces pending : ℕ) → FilePolled gs logs F ps
      → ((d : ℕ) (x : SetState) → slice_get F.sets d ≡ Some x → (after_shows x.rules x.state pieces).flushed ≡ flushed_rows (and_now (shows w) (logs d)))
      → FilePolled gs (λ d. and_now (shows w) (logs d)) (next_all F (asks (shows_up_to k)) (says (replies.Written pieces pending))) ps
  -- the writer stops
  pub ended : (gs : ℕ → Polling) (logs : ℕ → Log) (F : FileState) (ps : Places) → FilePolled gs logs F ps → FilePolled gs logs (next_all F (asks ends) (says replies.Stopped)) ps
