use Rattle.h5w_bt.specs.Parts.{record_of}
use Rattle.h5w_bt.proofs.Writing.{record-put}
use Rattle.h5w_bt.proofs.records.Record.write.Goals as goal

pub returns-clause-written : goal.returns-clause-written
returns-clause-written c =
    record-put c.args.out.now c.put.new.b c.put-2.new.b c.put-3.new.b c.args.at (record_of c.args.self.now) c.requires c.put.ensures.written c.put-2.ensures.written c.put-3.ensures.written
