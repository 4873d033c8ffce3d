use Rattle.std.specs.Prelude.{codes}
use Rattle.h5w_text.specs.Replies.{spaced}
use Rattle.h5w_text.proofs.StreamLemmas.{three_texts}
use Rattle.h5w_text.proofs.refusal.too_many.Goals as goal

pub returns : goal.returns
returns c =
    three_texts c.number.result c.args.out.now.items (codes "error toomanychunks") (spaced c.args.needed) (spaced c.args.limit) c.text.new.out.items c.large_number.new.out.items c.number.new.out.items c.in_ok-text.ensures c.in_ok-large_number.ensures c.number.ensures
