-- By computing.
use Rattle.std.proofs.Common.{refl}
use Rattle.h5w_model.specs.Arrays.{numbers_in}
use Rattle.h5w_model.specs.Checksum.{mix_line, mixed, finish_line, finished, added, rounds, sum_of}
use Rattle.h5w_model.specs.Headers.{prefix_at, msgs_in, header_at, messages_at, block_at, header_view}
use Rattle.h5w_model.specs.Integers.{value_at}
use Rattle.h5w_model.specs.Links.{links_at, find_link}
use Rattle.h5w_model.specs.Messages.{shape_tests, shape_fields, shape_at, int_type_tests, int_type_fields, int_type_at, fill_tests, fill_fields, fill_at, layout_fields, layout_at}
use Rattle.h5w_model.specs.Numbers.{num, halvings}
use Rattle.h5w_vector_examples.proofs.headers.dataset_messages.Goals as goal

pub returns-clause-huge_chunk : goal.returns-clause-huge_chunk
unfolding numbers_in mix_line mixed finish_line finished added rounds sum_of prefix_at msgs_in header_at messages_at block_at header_view value_at links_at find_link shape_tests shape_fields shape_at int_type_tests int_type_fields int_type_at fill_tests fill_fields fill_at layout_fields layout_at num halvings
returns-clause-huge_chunk c = record { fails = refl; finds = refl }

pub returns-clause-long_dataset_header : goal.returns-clause-long_dataset_header
unfolding numbers_in mix_line mixed finish_line finished added rounds sum_of prefix_at msgs_in header_at messages_at block_at header_view value_at links_at find_link shape_tests shape_fields shape_at int_type_tests int_type_fields int_type_at fill_tests fill_fields fill_at layout_fields layout_at num halvings
returns-clause-long_dataset_header c = record { fails = refl; finds = refl }

pub returns-clause-moved_dataspace : goal.returns-clause-moved_dataspace
unfolding numbers_in mix_line mixed finish_line finished added rounds sum_of prefix_at msgs_in header_at messages_at block_at header_view value_at links_at find_link shape_tests shape_fields shape_at int_type_tests int_type_fields int_type_at fill_tests fill_fields fill_at layout_fields layout_at num halvings
returns-clause-moved_dataspace c = record { fails = refl; finds = refl }

pub returns-clause-filtered : goal.returns-clause-filtered
unfolding numbers_in mix_line mixed finish_line finished added rounds sum_of prefix_at msgs_in header_at messages_at block_at header_view value_at links_at find_link shape_tests shape_fields shape_at int_type_tests int_type_fields int_type_at fill_tests fill_fields fill_at layout_fields layout_at num halvings
returns-clause-filtered c = record { fails = refl; finds = refl }

pub returns-clause-shared_layout : goal.returns-clause-shared_layout
unfolding numbers_in mix_line mixed finish_line finished added rounds sum_of prefix_at msgs_in header_at messages_at block_at header_view value_at links_at find_link shape_tests shape_fields shape_at int_type_tests int_type_fields int_type_at fill_tests fill_fields fill_at layout_fields layout_at num halvings
returns-clause-shared_layout c = record { fails = refl; finds = refl }

pub returns-clause-two_layouts : goal.returns-clause-two_layouts
unfolding numbers_in mix_line mixed finish_line finished added rounds sum_of prefix_at msgs_in header_at messages_at block_at header_view value_at links_at find_link shape_tests shape_fields shape_at int_type_tests int_type_fields int_type_at fill_tests fill_fields fill_at layout_fields layout_at num halvings
returns-clause-two_layouts c = record { shows = refl; cells = refl; valid = refl }
