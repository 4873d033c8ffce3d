-- What a reader's line makes of a session of several datasets, its readers and a script's state: its reply is lawful,
-- and they fit again.
use Rattle.std.specs.Prelude.{◌≡◌, ℕ, ◌+◌, ◌^◌, ◌<◌, ◌≤◌, [], None, Some}
use Rattle.h5w_model.specs.Lawful.{Line, looks, opens, reads, refreshes}
use Rattle.h5w_model.specs.Tables.{Reading}
use Rattle.h5w_model.specs.Calls.{rows_seen, values_call}
use Rattle.h5w_model.specs.Unfinished.{Reader, Unfinished, next_look_of, values_left}
use Rattle.h5w_model.specs.declared.reply.Reply.{Reply}
use Rattle.h5w_model.specs.declared.reply.Reply.TheVariants as replies
use Rattle.h5w_script_laws.specs.Laws.{after_look, opening, reading, refreshing, reply_to}
use Rattle.h5w_script_laws.specs.Polling.{Wants}
use Rattle.h5w_script_laws.specs.Scripts.{looked_now}
use Rattle.h5w_several_writer_laws.specs.Sessions.{Sessions}
use Rattle.h5w_several_script_laws.specs.Scripts.{FileState, asks, says}
use Rattle.h5w_several_script_laws.specs.Polled.{Places, and_place}
use Rattle.h5w_several_world_laws.specs.Worlds.{HaveOneFileLog}
use Rattle.h5w_several_world_laws.specs.Steps.{StepsTo}

-- Lines of reader n, of dataset d where it was opened.
pub record ReaderSteps (S : Sessions) (attempts : ℕ) (ps : Places) (F : FileState) (h : HaveOneFileLog S attempts ps F) (n : ℕ) : Type 0 where
  -- it was not opened: it begins to open the dataset in use
  pub opens_one : ps n ≡ None → StepsTo attempts (and_place n F.used (opening (h.state.pollings F.used)) ps) F (asks (opens n)) (says (replies.Opening n)) S
  pub refreshes_none : ps n ≡ None → StepsTo attempts ps F (asks (refreshes n)) (says (replies.NoReader n)) S
  pub reads_none : (from count : ℕ) → ps n ≡ None → StepsTo attempts ps F (asks (reads n from count)) (says (replies.NoReader n)) S
  pub looks_none : ps n ≡ None → StepsTo attempts ps F (asks (looks n 1)) (says (replies.NoReader n)) S
  -- it was opened
  pub opens_again : (d : ℕ) (r : Reader) → ps n ≡ Some (d, r) → StepsTo attempts ps F (asks (opens n)) (says (replies.ReaderExists n)) S
  -- no call is unfinished
  pub refreshes_one : (d : ℕ) (r : Reader) → ps n ≡ Some (d, r) → r.left ≡ None → StepsTo attempts (and_place n d (refreshing r) ps) F (asks (refreshes n)) (says (replies.Refreshing n)) S
  pub reads_some : (d : ℕ) (r : Reader) (what : Reading) (from count : ℕ) → ps n ≡ Some (d, r) → r.left ≡ None → r.known ≡ Some what → 1 ≤ count
      → from + count ≤ rows_seen r.known → StepsTo attempts (and_place n d (reading r what from count) ps) F (asks (reads n from count)) (says (replies.Reading n)) S
  -- rows that were seen are read by looks
  pub reads_want : (d : ℕ) (r : Reader) (what : Reading) (from count : ℕ) → ps n ≡ Some (d, r) → r.left ≡ None → r.known ≡ Some what → 1 ≤ count → from + count ≤ rows_seen r.known
      → Wants (Some (values_left (values_call what from count)))
  pub reads_nothing : (d : ℕ) (r : Reader) (from : ℕ) → ps n ≡ Some (d, r) → r.left ≡ None → from ≤ rows_seen r.known → StepsTo attempts ps F (asks (reads n from 0)) (says (replies.Values n [])) S
  pub reads_past : (d : ℕ) (r : Reader) (from count : ℕ) → ps n ≡ Some (d, r) → r.left ≡ None → rows_seen r.known < from + count
      → StepsTo attempts ps F (asks (reads n from count)) (says (replies.OutOfRows n from count (rows_seen r.known))) S
  pub looks_idle : (d : ℕ) (r : Reader) → ps n ≡ Some (d, r) → r.left ≡ None → StepsTo attempts ps F (asks (looks n 1)) (says (replies.Idle n)) S
  -- a call is unfinished
  pub refreshes_busy : (d : ℕ) (r : Reader) (left : Unfinished) → ps n ≡ Some (d, r) → r.left ≡ Some left → StepsTo attempts ps F (asks (refreshes n)) (says (replies.ReaderBusy n)) S
  pub reads_busy : (d : ℕ) (r : Reader) (left : Unfinished) (from count : ℕ) → ps n ≡ Some (d, r) → r.left ≡ Some left → StepsTo attempts ps F (asks (reads n from count)) (says (replies.ReaderBusy n)) S
  -- a look at the image of now: some reply comes of what is left of the call, and this it may be given
  pub looks_on : (d place len : ℕ) (r : Reader) (left : Unfinished) (reply : Reply) → ps n ≡ Some (d, r) → r.left ≡ Some left
      → next_look_of left ≡ Some (place, len) → reply_to n (looked_now (h.state.logs d) place len left) ≡ Some reply
      → StepsTo attempts (and_place n d (after_look r (looked_now (h.state.logs d) place len left)) ps) F (asks (looks n 1)) (says reply) S
  pub replies_one : (d place len : ℕ) (r : Reader) (left : Unfinished) → ps n ≡ Some (d, r) → r.left ≡ Some left → next_look_of left ≡ Some (place, len)
      → (reply : Reply) × (reply_to n (looked_now (h.state.logs d) place len left) ≡ Some reply)

-- of each reader, whose calls have at least one attempt
abbrev pub AllReaderSteps : Type 0
AllReaderSteps = (S : Sessions) (attempts : ℕ) (ps : Places) (F : FileState) (h : HaveOneFileLog S attempts ps F) → S.places.limit ≤ 2 ^ 40 → 1 ≤ attempts → (n : ℕ) → ReaderSteps S attempts ps F h n
