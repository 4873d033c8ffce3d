use Rattle.std.proofs.Common.{◌≡◌, None}
use Rattle.h5w_reader.specs.Cores.{reader}
use Rattle.h5w_files.proofs.TimesLemmas.{Going}
use Rattle.h5w_files.proofs.polling.write_times.Given as goal

abbrev pub invariant-loop : goal.invariant-loop
invariant-loop g l = record {
  going : Going l.polls.times l.polls.values (g.I.PieceRead.view l.fn.image) (g.I.PieceRead.view l.image) (reader l.fn.reader) (reader l.reader) l.counter l.printed (g.K.Sink.view l.fn.sink) (g.K.Sink.view l.sink);
  idle : (reader l.reader).left ≡ None;
}
