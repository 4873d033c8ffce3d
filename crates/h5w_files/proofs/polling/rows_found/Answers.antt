use Rattle.std.proofs.Common.{◌≡◌, true, rules}
use Rattle.h5w_image.proofs.ViewLemmas.{looked_twice}
use Rattle.h5w_reader.specs.Cores.{reader}
use Rattle.h5w_files.specs.Polling.{is_doubtful}
use Rattle.h5w_files.proofs.PollLemmas.{begun_anew}
use Rattle.h5w_files.proofs.polling.rows_found.Goals as goal

pub returns-then-looks-eq0-clause-looked : goal.returns-then-looks-eq0-clause-looked
returns-then-looks-eq0-clause-looked g c = looked_twice c.again.invariant.looked c.rows_of_call-found.ensures.looked

pub again-preserved : goal.again-preserved
again-preserved g c =
    let doubtful : is_doubtful c.rows_of_call-found.result ≡ true = search rules in
    record {
      looked = looked_twice c.again.invariant.looked c.rows_of_call-found.ensures.looked;
      same = begun_anew (reader c.args.reader.now) (reader c.again.reader) (reader c.rows_of_call-found.new.reader) (reader c.refresh.new.reader) c.requires.fresh c.again.invariant.same (c.rows_of_call-found.ensures.ended doubtful) c.refresh.ensures.begun;
      wanting = c.refresh.ensures.wanting;
      call = c.refresh.ensures.call;
    }
