-- By computing.
use Rattle.std.proofs.Common.{refl}
use Rattle.h5w_model.specs.Arrays.{numbers_in}
use Rattle.h5w_model.specs.Checksum.{mix_line, mixed, finish_line, finished, added, rounds, sum_of}
use Rattle.h5w_model.specs.Headers.{prefix_at, msgs_in, header_at, messages_at, block_at, header_view}
use Rattle.h5w_model.specs.Integers.{value_at}
use Rattle.h5w_model.specs.Links.{links_at, find_link}
use Rattle.h5w_model.specs.Messages.{shape_tests, shape_fields, shape_at, int_type_tests, int_type_fields, int_type_at, fill_tests, fill_fields, fill_at, layout_fields, layout_at}
use Rattle.h5w_model.specs.Numbers.{num, halvings}
use Rattle.h5w_vector_examples.proofs.headers.links.Goals as goal

pub returns-clause-full_link : goal.returns-clause-full_link
unfolding numbers_in mix_line mixed finish_line finished added rounds sum_of prefix_at msgs_in header_at messages_at block_at header_view value_at links_at find_link shape_tests shape_fields shape_at int_type_tests int_type_fields int_type_at fill_tests fill_fields fill_at layout_fields layout_at num halvings
returns-clause-full_link c = record { shows = refl; cells = refl; valid = refl }

pub returns-clause-soft_link : goal.returns-clause-soft_link
unfolding numbers_in mix_line mixed finish_line finished added rounds sum_of prefix_at msgs_in header_at messages_at block_at header_view value_at links_at find_link shape_tests shape_fields shape_at int_type_tests int_type_fields int_type_at fill_tests fill_fields fill_at layout_fields layout_at num halvings
returns-clause-soft_link c = record { fails = refl; finds = refl }

pub returns-clause-dense_links : goal.returns-clause-dense_links
unfolding numbers_in mix_line mixed finish_line finished added rounds sum_of prefix_at msgs_in header_at messages_at block_at header_view value_at links_at find_link shape_tests shape_fields shape_at int_type_tests int_type_fields int_type_at fill_tests fill_fields fill_at layout_fields layout_at num halvings
returns-clause-dense_links c = record { fails = refl; finds = refl }

pub returns-clause-misspelt_link : goal.returns-clause-misspelt_link
unfolding numbers_in mix_line mixed finish_line finished added rounds sum_of prefix_at msgs_in header_at messages_at block_at header_view value_at links_at find_link shape_tests shape_fields shape_at int_type_tests int_type_fields int_type_at fill_tests fill_fields fill_at layout_fields layout_at num halvings
returns-clause-misspelt_link c = record { fails = refl; finds = refl }

pub returns-clause-other_link : goal.returns-clause-other_link
unfolding numbers_in mix_line mixed finish_line finished added rounds sum_of prefix_at msgs_in header_at messages_at block_at header_view value_at links_at find_link shape_tests shape_fields shape_at int_type_tests int_type_fields int_type_at fill_tests fill_fields fill_at layout_fields layout_at num halvings
returns-clause-other_link c = record { fails = refl; finds = refl }
