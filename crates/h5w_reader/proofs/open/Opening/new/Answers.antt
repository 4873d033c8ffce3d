use Rattle.std.proofs.Common.{sym}
use Rattle.h5w_reader.proofs.OpenLemmas.{messages_begin}
use Rattle.h5w_reader.proofs.open.Opening.new.Goals as goal

pub returns : goal.returns
returns c = rw (c.new-2.ensures.left, c.new.ensures.items) (sym messages_begin)
