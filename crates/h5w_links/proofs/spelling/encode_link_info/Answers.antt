use Rattle.std.proofs.Common.{drop}
use Rattle.h5w_model.specs.Numbers.{le}
use Rattle.h5w_model.proofs.LinkLemmas.{link_info_written}
use Rattle.h5w_links.proofs.spelling.encode_link_info.Goals as goal

pub returns-clause-reads_back : goal.returns-clause-reads_back
unfolding le
returns-clause-reads_back c = rw (c.copy_from_slice.ensures.after) (link_info_written (drop 18 c.args.out.now))
