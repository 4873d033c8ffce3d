use Rattle.std.proofs.Common.{rules, vec_len}
use Rattle.h5w_reader.specs.Readers.{reader_rules}
use Rattle.h5w_live_reading.proofs.ActorLemmas.{leave_at, read_more}
use denote.Exit.{yes}
use denote.Param.Send.{IsSync, arg_send, given_sync, param_send}
use Rattle.h5w_live_reading.proofs.Sent.{given, reading_sent}
use Rattle.h5w_shared.proofs.Sent.{reader_is_sent}
use Rattle.h5w_live_reading.proofs.actors.+fn-read_all-join+arg3+read_all.Goals as goal
use Rattle.h5w_live_reading.proofs.actors.+fn-read_all-join+arg3+read_all.Lts-read_all as lts

pub join-last-requires-send-F : goal.join-last-requires-send-F
join-last-requires-send-F g t c κs within =
    let r : IsSync g.row.R = search in
    let q : IsSync g.row.G = given_sync 1 g.row.G c.requires-raw.1.1.1.1.0 in
    param_send 1 (lts.arg-7-1 g.row.R g.row.G g.R.laws g.G.laws g.R.Threads-dict g.R.Wait-dict g.G.Gate-dict κs)
    (arg_send _ yes _ (reading_sent _ _ _ _ _ g.row.R _ g.row.G r reader_is_sent q))

pub join-last-requires-send-A : goal.join-last-requires-send-A
join-last-requires-send-A g t c κs within = search given depth 40

pub join+arg3-returns : goal.join+arg3-returns
join+arg3-returns g t c = leave_at _ _ _ _ c.read_all.result c.new.ensures c.new-readers.ensures c.read_all.ensures

pub returns : goal.returns
returns g t c =
    let image = c.into_parts-seats.result.0 in
    let seats = c.into_parts-seats.result.1 in
    let before = c.into_parts-seats.result.2 in
    let name = c.into_parts-attempts.result.0 in
    let attempts = c.into_parts-attempts.result.1 in
    let count = c.into_parts-attempts.result.2 in
    leave_at _ _ _ _ c.and_one.result c.into_parts-attempts.ensures c.into_parts-seats.ensures
    (λ seen all.
    read_more (reader_rules name.now attempts) image.now before count seats.items c.pop.new.self.items c.in-Some.seat (vec_len seats) (vec_len c.pop.new.self) c.number-reader.result seen
    c.join-last.result.1 c.join-last.result.0 c.and_one.result c.in-Some.ensures.items all (search rules) (search rules) c.join-last.ensures.first c.join-last.ensures.second c.and_one.ensures)
