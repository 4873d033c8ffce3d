-- What becomes of a reader's call at each event of a script.
use Rattle.std.specs.Prelude.{◌≡◌, ℕ, ◌+◌, ◌≤◌, List, Option, Some, None, option_map, Ok, Err, ℤ}
use Rattle.h5w_model.specs.Numbers.{range}
use Rattle.h5w_model.specs.Images.{image}
use Rattle.h5w_model.specs.Programs.{ret, whole, counted, stored}
use Rattle.h5w_model.specs.Logs.{Log, appends, plans, shows, hist, flushed_rows, and_now}
use Rattle.h5w_model.specs.Tables.{Reading}
use Rattle.h5w_model.specs.Calls.{values_call}
use Rattle.h5w_model.specs.Unfinished.{Unfinished, rows_left, values_left, next_look_of, fed_left, rows_program, Reader, with_left}
use Rattle.h5w_model.specs.Lawful.{ScriptState, ReaderState, CallKind, for_rows, for_values, begun_call, risen, reader_in, after_looks, LookAllowed}
use Rattle.h5w_model.specs.declared.piece.Write.{Write}
use Rattle.h5w_model.specs.declared.reply.Reply.{Reply}
use Rattle.h5w_model.specs.declared.reply.Reply.TheVariants as replies
use Rattle.h5w_model.specs.declared.refusal.ReadError.TheVariants as refusals
use Rattle.h5w_script_laws.specs.Polling.{Polling, reader_rules, now, Wants, Polls}
use Rattle.h5w_script_laws.specs.Premises.{LogHolds, Follows}

-- ---- A call begins

abbrev pub begun : ScriptState → CallKind → ReaderState → ReaderState
begun s what x = record x { call = Some (begun_call s what) }

-- a reader that begins to open
abbrev pub opening : Polling → Reader
opening g = record { rules = reader_rules g; known = None; left = Some (rows_left (rows_program (reader_rules g) None)) }

-- one that begins to refresh
abbrev pub refreshing : Reader → Reader
refreshing r = with_left r (Some (rows_left (rows_program r.rules r.known)))

-- one that begins to read rows of what it knows
abbrev pub reading : Reader → Reading → (from count : ℕ) → Reader
reading r what from count = with_left r (Some (values_left (values_call what from count)))

-- A call begins at the log's last position, with what the reader knows then.
pub record BeginLaws : Type 0 where
  pub opens : (g : Polling) (log : Log) (s : ScriptState) → Follows log s → log.first ≤ now log
      → Polls g log (begun s for_rows (record { seen = 0; call = None })) (opening g)
  pub refreshes : (g : Polling) (log : Log) (s : ScriptState) (x : ReaderState) (r : Reader) → Follows log s → log.first ≤ now log
      → Polls g log x r → r.left ≡ None → Polls g log (begun s for_rows x) (refreshing r)
  pub reads : (g : Polling) (log : Log) (s : ScriptState) (x : ReaderState) (r : Reader) (what : Reading) (from count : ℕ) → LogHolds g log → Follows log s → log.first ≤ now log
      → Polls g log x r → r.left ≡ None → r.known ≡ Some what → 1 ≤ count → from + count ≤ x.seen
      → Polls g log (begun s (for_values from count) x) (reading r what from count)

-- ---- Another event of the log

abbrev pub risen_reader : ReaderState → ReaderState
risen_reader x = elim x.call [ None ↦ x | Some c ↦ record x { call = Some (record c { rises = c.rises + 1 }) } ]

-- An event of the log leaves each reader as it was; a piece that may bring rows is counted.
pub record OtherEventLaws : Type 0 where
  pub appending : (g : Polling) (log : Log) (x : ReaderState) (r : Reader) (values : List ℤ) → Polls g log x r → Polls g (and_now (appends values) log) x r
  pub planning : (g : Polling) (log : Log) (x : ReaderState) (r : Reader) (pieces : ℕ) → 1 ≤ pieces → Polls g log x r → Polls g (and_now (plans pieces) log) x r
  pub showing : (g : Polling) (log : Log) (x : ReaderState) (r : Reader) (w : Write) → flushed_rows (and_now (shows w) log) ≡ flushed_rows log
      → Polls g log x r → Polls g (and_now (shows w) log) x r
  pub committing : (g : Polling) (log : Log) (x : ReaderState) (r : Reader) (w : Write) → Polls g log x r → Polls g (and_now (shows w) log) (risen_reader x) r
  pub risen : (r : ℕ) (xs : List (ℕ × ReaderState)) → reader_in r (risen xs) ≡ option_map risen_reader (reader_in r xs)

-- ---- A look

-- what a reader replies once this is left of its call; nothing to a refusal that no reader of a script meets
abbrev pub reply_to : ℕ → Unfinished → Option Reply
reply_to r (rows_left (ret (Ok x))) = Some (replies.Rows r x.dataset.shape.rows)
reply_to r (rows_left (ret (Err (refusals.Again attempts place first last)))) = Some (replies.Again r attempts)
reply_to r (rows_left (ret (Err e))) = None
reply_to r (rows_left (whole place len next)) = Some (replies.Looking r)
reply_to r (rows_left (counted place counts next)) = None
reply_to r (rows_left (stored kind place len next)) = None
reply_to r (values_left (ret (Ok values))) = Some (replies.Values r values)
reply_to r (values_left (ret (Err e))) = None
reply_to r (values_left (whole place len next)) = Some (replies.Looking r)
reply_to r (values_left (counted place counts next)) = None
reply_to r (values_left (stored kind place len next)) = None

-- and what it is then: with an answer its call is over, and rows are known
abbrev pub after_look : Reader → Unfinished → Reader
after_look r (rows_left (ret (Ok what))) = record r { known = Some what; left = None }
after_look r (rows_left (ret (Err e))) = with_left r None
after_look r (values_left (ret a)) = with_left r None
after_look r left = with_left r (Some left)

-- the reply is one that the script may be given, and the reader polls on
pub record Replies (g : Polling) (log : Log) (s : ScriptState) (reader : ℕ) (x : ReaderState) (r : Reader) (left : Unfinished) : Type 0 where
  pub reply : Reply
  pub is : reply_to reader left ≡ Some reply
  pub allowed : LookAllowed g.rules s reader 1 (Some x) reply
  pub polls : Polls g log (after_looks s 1 x reply) (after_look r left)

-- An unfinished call wants a look. Taken at the image of now, it comes to a lawful reply.
pub record LookLaws : Type 0 where
  pub wants : (g : Polling) (log : Log) (x : ReaderState) (r : Reader) (left : Unfinished) → Polls g log x r → r.left ≡ Some left → Wants (Some left)
  pub gives : (g : Polling) (log : Log) (s : ScriptState) (reader : ℕ) (x : ReaderState) (r : Reader) (left : Unfinished) (place len : ℕ)
      → LogHolds g log → Follows log s → Polls g log x r → r.left ≡ Some left → next_look_of left ≡ Some (place, len)
      → Replies g log s reader x r (fed_left (range (image log.start (hist log.events)) place len) left)
