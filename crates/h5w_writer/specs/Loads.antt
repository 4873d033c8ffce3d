-- By how much calls raise the end of a session's file, by the load of its log.
use Rattle.std.specs.Prelude.{◌≡◌, ℕ, ◌+◌, ◌<◌, ◌≤◌, Result, Ok, Err}
use Rattle.h5w_model.specs.Numbers.{range}
use Rattle.h5w_model.specs.Logs.{Log, load, spent}
use Rattle.h5w_model.specs.Superblock.{super_at}
use Rattle.h5w_model.specs.declared.refusal.SuperError.{SuperError}
use Rattle.h5w_model.specs.declared.root.Super.{Super}
use Rattle.h5w_space.specs.declared.Full.{Full}
use Rattle.h5w_writer.specs.Sessions.{Session, cutting_of}

-- the end-of-file address in a superblock; of bytes that have none what no new file passes before its first flush
abbrev pub end_in : Result Super SuperError → ℕ
end_in (Ok s) = s.end
end_in (Err e) = 1024

-- the end-of-file address of the file that the log began with
abbrev pub first_end_of : Log → ℕ
first_end_of log = end_in (super_at (range log.start 0 48))

-- Rows wait, and the file has no place of this size there; both are bounded by the loads of the log.
pub record NoPlace (s : Session) (log : Log) (full : Full) : Type 0 where
  pub waits : 0 < s.waits
  pub some : 1 ≤ full.size
  pub limit : full.limit ≡ s.places.limit
  pub past : full.limit < full.at + full.size
  pub size_bound : full.size ≤ load (cutting_of s) log
  pub at_bound : full.at ≤ first_end_of log + spent (cutting_of s) log + load (cutting_of s) log
