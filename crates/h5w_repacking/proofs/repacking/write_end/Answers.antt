use Rattle.std.proofs.Common.{ap, ◌∙◌}
use Rattle.std.specs.Prelude.{count_by}
use Rattle.h5w_repacking.specs.Repacks.{is_chunk}
use Rattle.h5w_repacking.proofs.TextLemmas.{blocks_counted, end_parts}
use Rattle.h5w_repacking.proofs.repacking.write_end.Goals as goal

pub returns : goal.returns
returns c =
    end_parts c.write_numbers.result c.args.out.now.items c.write_words.new.out.items c.write_words-2.new.out.items c.write_numbers.new.out.items c.args.end _ c.chunks_of-chunks.result c.args.ranges.now c.in_ok-write_words.ensures
    c.in_ok-write_words-2.ensures c.write_numbers.ensures (blocks_counted c.as_slice-list.result.now c.args.ranges.now c.chunks_of-chunks.result c.as_slice-list.ensures c.chunks_of-chunks.ensures.exact)
    (c.chunks_of-chunks.ensures.exact ∙ ap (count_by is_chunk) c.as_slice-list.ensures)
