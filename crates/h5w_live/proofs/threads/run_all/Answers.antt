use Rattle.std.proofs.Common.{◌≡◌, All, rules, ap, arith, subst, sym, vec_len}
use Rattle.std.specs.Prelude.{IfSome, Option}
use Rattle.h5w_shared.specs.Seats.{SeatView}
use Rattle.h5w_live.specs.Seconds.{IsWatched, watchers}
use Rattle.h5w_live.specs.declared.seats.Watched.{Watched}
use Rattle.h5w_live.proofs.SecondLemmas.{readers_there}
use Rattle.h5w_live.proofs.threads.run_all.Goals as goal

pub run_mirrored-follow-requires-clause-mirrored : goal.run_mirrored-follow-requires-clause-mirrored
run_mirrored-follow-requires-clause-mirrored g c κs within =
    let w : IsWatched c.args.writer.image.now c.in-Some.field-0 = subst (λ (o : Option Watched). IfSome o (IsWatched c.args.writer.image.now)) c.in-Some.is c.requires.watched in
    let before : c.len-before.result ≡ vec_len c.args.seats = search rules in
    record { first = w.second.first; second = w.second.second; readers = record { images = w.images; few = omega (arith, w.few, c.requires.few, before) } }

pub returns-clause-beside : goal.returns-clause-beside
returns-clause-beside g c = λ seen begun.
    let w : IsWatched c.args.writer.image.now c.in-Some.field-0 = subst (λ (o : Option Watched). IfSome o (IsWatched c.args.writer.image.now)) c.in-Some.is c.requires.watched in
    let seats : All (λ (s : SeatView). s.seen ≡ seen) c.in-Some.field-0.seats.items =
    subst (λ (o : Option Watched). IfSome o (λ w. All (λ (s : SeatView). s.seen ≡ seen) w.seats.items)) c.in-Some.is begun in
    let count : vec_len c.in-Some.field-0.seats ≡ watchers c.args.watched = sym (ap watchers c.in-Some.is) in
    record {
      second = record { first = c.run_mirrored-follow.ensures.first; second = c.run_mirrored-follow.ensures.second; start = w.second.start };
      ends = readers_there _ _ _ (vec_len c.args.seats) _ _ (watchers c.args.watched) seen _ (c.run_mirrored-follow.ensures.beside seen seats) (search rules) count;
    }
