-- By computing.
use Rattle.std.proofs.Common.{refl}
use Rattle.h5w_model.specs.Arrays.{numbers_in}
use Rattle.h5w_model.specs.Checksum.{mix_line, mixed, finish_line, finished, added, rounds, sum_of}
use Rattle.h5w_model.specs.Headers.{prefix_at, msgs_in, header_at, messages_at, block_at, header_view}
use Rattle.h5w_model.specs.Integers.{value_at}
use Rattle.h5w_model.specs.Links.{links_at, find_link}
use Rattle.h5w_model.specs.Messages.{shape_tests, shape_fields, shape_at, int_type_tests, int_type_fields, int_type_at, fill_tests, fill_fields, fill_at, layout_fields, layout_at}
use Rattle.h5w_model.specs.Numbers.{num, halvings}
use Rattle.h5w_vector_examples.proofs.damaged.overlaps.Goals as goal

pub returns-clause-overlapping_chunks : goal.returns-clause-overlapping_chunks
unfolding numbers_in mix_line mixed finish_line finished added rounds sum_of prefix_at msgs_in header_at messages_at block_at header_view value_at links_at find_link shape_tests shape_fields shape_at int_type_tests int_type_fields int_type_at fill_tests fill_fields fill_at layout_fields layout_at num halvings
returns-clause-overlapping_chunks c = record { shows = refl; cells = refl; finds = refl }

pub returns-clause-chunks_in_node : goal.returns-clause-chunks_in_node
unfolding numbers_in mix_line mixed finish_line finished added rounds sum_of prefix_at msgs_in header_at messages_at block_at header_view value_at links_at find_link shape_tests shape_fields shape_at int_type_tests int_type_fields int_type_at fill_tests fill_fields fill_at layout_fields layout_at num halvings
returns-clause-chunks_in_node c = record { shows = refl; cells = refl; finds = refl }
