-- Over which file the log of a part begins, beside the file that the session began over or created.
use Rattle.std.specs.Prelude.{◌≡◌, ◌⊎◌, ℕ, ◌*◌, ◌≤◌, max, [], length, Result, Ok, Err}
use Rattle.h5w_model.specs.Logs.{Log}
use Rattle.h5w_model.specs.Numbers.{range}
use Rattle.h5w_model.specs.Several.{FileLog}
use Rattle.h5w_model.specs.Superblock.{super_at}
use Rattle.h5w_model.specs.declared.refusal.SuperError.{SuperError}
use Rattle.h5w_model.specs.declared.root.Super.{Super}
use Rattle.h5w_writer.specs.Loads.{first_end_of}
use Rattle.h5w_space.specs.Space.{Space}

-- the end-of-file address in a superblock; of bytes that have none what no new file of so many datasets passes before
-- its first flush
abbrev pub end_among : ℕ → Result Super SuperError → ℕ
end_among k (Ok s) = s.end
end_among k (Err e) = 1024 * k

-- the end-of-file address of the file that the log began with
abbrev pub began_end : FileLog → ℕ
began_end log = end_among (length log.sets) (super_at (range log.start 0 48))

-- the file that the log began with ends within the limit, or within its bytes
abbrev pub IsAmple : Space → FileLog → Type 0
IsAmple t log = began_end log ≤ max t.limit (length log.start)

-- The session created its file, over which the part's log begins: neither its bytes nor its end-of-file address pass
-- what no new file does.
abbrev pub IsNewIn : FileLog → Log → Type 0
IsNewIn log l = (log.start ≡ []) × (first_end_of l ≤ began_end log) × (length l.start ≤ began_end log)

-- the part's log begins over the same file, or over that which the session created
abbrev pub BeginsOver : FileLog → Log → Type 0
BeginsOver log l = ((l.start ≡ log.start) × (first_end_of l ≡ began_end log)) ⊎ IsNewIn log l
