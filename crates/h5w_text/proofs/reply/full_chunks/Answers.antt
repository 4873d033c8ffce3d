use Rattle.std.specs.Prelude.{codes}
use Rattle.h5w_text.specs.Replies.{spaced}
use Rattle.h5w_text.proofs.StreamLemmas.{three_texts}
use Rattle.h5w_text.proofs.reply.full_chunks.Goals as goal

pub returns : goal.returns
returns c = three_texts c.number-2.result c.args.out.now.items (codes "full chunks") (spaced c.args.chunks) (spaced c.args.limit) c.text.new.out.items c.number.new.out.items c.number-2.new.out.items c.in_ok-text.ensures c.in_ok-number.ensures c.number-2.ensures
