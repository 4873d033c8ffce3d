-- The readers of a world, each in its place: what an event makes of a reader, and the reply to it.
use Rattle.std.specs.Prelude.{◌≡◌, ◌⊎◌, ℕ, ◌+◌, ◌<◌, ◌≤◌, List, [], get_or, Option, Some, None, IsSome, option_map}
use Rattle.h5w_model.specs.Numbers.{range}
use Rattle.h5w_model.specs.Tables.{Reading}
use Rattle.h5w_model.specs.Calls.{rows_seen, values_call}
use Rattle.h5w_model.specs.Unfinished.{Unfinished, values_left, next_look_of, fed_left, ReaderRules, Reader, with_left}
use Rattle.h5w_model.specs.declared.reply.Reply.{Reply}
use Rattle.h5w_model.specs.declared.reply.Reply.TheVariants as replies
use Rattle.h5w_script_laws.specs.Laws.{refreshing, reading, reply_to, after_look}
use Rattle.h5w_reader.specs.Cores.{reader}
use Rattle.h5w_reader.specs.Readers.{new_reader, read_refusal}
use Rattle.h5w_reader.specs.declared.reader.ReaderCore.{ReaderCore}

-- what contracts see of a place for a reader
abbrev pub placed : Option ReaderCore → Option Reader
placed place = option_map reader place

-- the readers by number; who was not opened, or has no place, is none
abbrev pub reader_at : List (Option ReaderCore) → ℕ → Option Reader
reader_at places r = placed (get_or places r None)

-- ---- What an event makes of a place

-- a reader begins to open, where none is there
abbrev pub OpenGives : ℕ → ReaderRules → Option Reader → Reply → Option Reader → Type 0
OpenGives n rules None reply new = (reply ≡ replies.Opening n) × (new ≡ Some (new_reader rules))
OpenGives n rules (Some r) reply new = (reply ≡ replies.ReaderExists n) × (new ≡ Some r)

abbrev pub RefreshesTo : ℕ → Reader → Option Unfinished → Reply → Option Reader → Type 0
RefreshesTo n r None reply new = (reply ≡ replies.Refreshing n) × (new ≡ Some (refreshing r))
RefreshesTo n r (Some left) reply new = (reply ≡ replies.ReaderBusy n) × (new ≡ Some r)

abbrev pub RefreshGives : ℕ → Option Reader → Reply → Option Reader → Type 0
RefreshGives n None reply new = (reply ≡ replies.NoReader n) × (new ≡ None)
RefreshGives n (Some r) reply new = RefreshesTo n r r.left reply new

-- rows are asked for that were not seen
pub record ReadsPast (n from count : ℕ) (r : Reader) (reply : Reply) (new : Option Reader) : Type 0 where
  pub past : rows_seen r.known < from + count
  pub is : reply ≡ replies.OutOfRows n from count (rows_seen r.known)
  pub same : new ≡ Some r

-- no row is asked for
pub record ReadsNothing (n from count : ℕ) (r : Reader) (reply : Reply) (new : Option Reader) : Type 0 where
  pub none : count ≡ 0
  pub inside : from ≤ rows_seen r.known
  pub is : reply ≡ replies.Values n []
  pub same : new ≡ Some r

-- a read begins
pub record ReadBegins (n from count : ℕ) (r : Reader) (reply : Reply) (new : Option Reader) : Type 0 where
  pub what : Reading
  pub known : r.known ≡ Some what
  pub some : 1 ≤ count
  pub inside : from + count ≤ rows_seen r.known
  pub is : reply ≡ replies.Reading n
  pub begun : new ≡ Some (reading r what from count)

abbrev pub ReadsTo : (n from count : ℕ) → Reader → Option Unfinished → Reply → Option Reader → Type 0
ReadsTo n from count r None reply new = ReadsPast n from count r reply new ⊎ (ReadsNothing n from count r reply new ⊎ ReadBegins n from count r reply new)
ReadsTo n from count r (Some left) reply new = (reply ≡ replies.ReaderBusy n) × (new ≡ Some r)

abbrev pub ReadGives : (n from count : ℕ) → Option Reader → Reply → Option Reader → Type 0
ReadGives n from count None reply new = (reply ≡ replies.NoReader n) × (new ≡ None)
ReadGives n from count (Some r) reply new = ReadsTo n from count r r.left reply new

-- a read of rows that were seen needs a look
abbrev pub ReadLooks : (from count : ℕ) → Option Reader → Type 0
ReadLooks from count None = Unit {0}
ReadLooks from count (Some r) = (what : Reading) → r.left ≡ None → r.known ≡ Some what → 1 ≤ count → from + count ≤ rows_seen r.known
    → IsSome (next_look_of (values_left (values_call what from count)))

-- what is left of a call once its look gave an image's bytes
abbrev pub looked : List ℕ → Unfinished → Unfinished
looked b left = elim (next_look_of left) [ None ↦ left | Some at ↦ fed_left (range b at.0 at.1) left ]

-- the reader's call goes on, or was answered
pub record LooksOn (n : ℕ) (r : Reader) (left : Unfinished) (reply : Reply) (new : Option Reader) : Type 0 where
  pub is : reply_to n left ≡ Some reply
  pub new_is : new ≡ Some (after_look r left)

abbrev pub LooksTo : ℕ → List ℕ → Reader → Option Unfinished → Reply → Option Reader → Type 0
LooksTo n b r None reply new = (reply ≡ replies.Idle n) × (new ≡ Some r)
LooksTo n b r (Some left) reply new = LooksOn n r (looked b left) reply new

abbrev pub LookGives : ℕ → List ℕ → Option Reader → Reply → Option Reader → Type 0
LookGives n b None reply new = (reply ≡ replies.NoReader n) × (new ≡ None)
LookGives n b (Some r) reply new = LooksTo n b r r.left reply new

-- a look at these bytes comes to a reply
abbrev pub CallReplies : ℕ → List ℕ → Option Unfinished → Type 0
CallReplies n b None = Unit {0}
CallReplies n b (Some left) = IsSome (reply_to n (looked b left))

abbrev pub LookReplies : ℕ → List ℕ → Option Reader → Type 0
LookReplies n b None = Unit {0}
LookReplies n b (Some r) = CallReplies n b r.left

-- a reader whose unfinished call was taken away
abbrev pub ended : Reader → Reader
ended x = with_left x None

-- a read of these rows is not refused
abbrev pub MayRead : (from count : ℕ) → Option Reader → Type 0
MayRead from count None = ⊥
MayRead from count (Some x) = read_refusal x from count ≡ None

-- a call is unfinished
abbrev pub IsCalling : Option Reader → Type 0
IsCalling None = ⊥
IsCalling (Some x) = IsSome x.left
