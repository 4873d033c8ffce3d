-- Which sessions have logs that readers can rest on.
use Rattle.std.specs.Prelude.{◌^◌, ◌≤◌, length}
use Rattle.h5w_model.specs.Logs.{Log}
use Rattle.h5w_reader_laws.specs.Headline.{Served}
use Rattle.h5w_writer.specs.Sessions.{Session}
use Rattle.h5w_writer.specs.Stands.{Stands}

-- every session, by the name that it writes: of a created file, and of one that it began over and that ends by 2^64
abbrev pub SessionServes : Type 0
SessionServes = (s : Session) (log : Log) → Stands s log → length log.start ≤ 2 ^ 64 → Served s.name log
