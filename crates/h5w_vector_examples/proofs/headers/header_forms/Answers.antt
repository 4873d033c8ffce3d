-- By computing.
use Rattle.std.proofs.Common.{refl}
use Rattle.h5w_model.specs.Arrays.{numbers_in}
use Rattle.h5w_model.specs.Checksum.{mix_line, mixed, finish_line, finished, added, rounds, sum_of}
use Rattle.h5w_model.specs.Headers.{prefix_at, msgs_in, header_at, messages_at, block_at, header_view}
use Rattle.h5w_model.specs.Integers.{value_at}
use Rattle.h5w_model.specs.Links.{links_at, find_link}
use Rattle.h5w_model.specs.Messages.{shape_tests, shape_fields, shape_at, int_type_tests, int_type_fields, int_type_at, fill_tests, fill_fields, fill_at, layout_fields, layout_at}
use Rattle.h5w_model.specs.Numbers.{num, halvings}
use Rattle.h5w_vector_examples.proofs.headers.header_forms.Goals as goal

pub returns-clause-gap : goal.returns-clause-gap
unfolding numbers_in mix_line mixed finish_line finished added rounds sum_of prefix_at msgs_in header_at messages_at block_at header_view value_at links_at find_link shape_tests shape_fields shape_at int_type_tests int_type_fields int_type_at fill_tests fill_fields fill_at layout_fields layout_at num halvings
returns-clause-gap c = record { shows = refl; cells = refl; valid = refl }

pub returns-clause-no_gap : goal.returns-clause-no_gap
unfolding numbers_in mix_line mixed finish_line finished added rounds sum_of prefix_at msgs_in header_at messages_at block_at header_view value_at links_at find_link shape_tests shape_fields shape_at int_type_tests int_type_fields int_type_at fill_tests fill_fields fill_at layout_fields layout_at num halvings
returns-clause-no_gap c = record { fails = refl; finds = refl }

pub returns-clause-long_root : goal.returns-clause-long_root
unfolding numbers_in mix_line mixed finish_line finished added rounds sum_of prefix_at msgs_in header_at messages_at block_at header_view value_at links_at find_link shape_tests shape_fields shape_at int_type_tests int_type_fields int_type_at fill_tests fill_fields fill_at layout_fields layout_at num halvings
returns-clause-long_root c = record { shows = refl; cells = refl; valid = refl }

pub returns-clause-tracked : goal.returns-clause-tracked
unfolding numbers_in mix_line mixed finish_line finished added rounds sum_of prefix_at msgs_in header_at messages_at block_at header_view value_at links_at find_link shape_tests shape_fields shape_at int_type_tests int_type_fields int_type_at fill_tests fill_fields fill_at layout_fields layout_at num halvings
returns-clause-tracked c = record { shows = refl; cells = refl; valid = refl }
