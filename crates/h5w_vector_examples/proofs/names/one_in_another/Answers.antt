-- By computing.
use Rattle.std.proofs.Common.{refl}
use Rattle.h5w_model.specs.Arrays.{numbers_in}
use Rattle.h5w_model.specs.Checksum.{mix_line, mixed, finish_line, finished, added, rounds, sum_of}
use Rattle.h5w_model.specs.Headers.{prefix_at, msgs_in, header_at, messages_at, block_at, header_view}
use Rattle.h5w_model.specs.Integers.{value_at}
use Rattle.h5w_model.specs.Links.{links_at, find_link}
use Rattle.h5w_model.specs.Messages.{shape_tests, shape_fields, shape_at, int_type_tests, int_type_fields, int_type_at, fill_tests, fill_fields, fill_at, layout_fields, layout_at}
use Rattle.h5w_model.specs.Numbers.{num, halvings}
use Rattle.h5w_vector_examples.proofs.names.one_in_another.Goals as goal

pub returns-clause-first : goal.returns-clause-first
unfolding numbers_in mix_line mixed finish_line finished added rounds sum_of prefix_at msgs_in header_at messages_at block_at header_view value_at links_at find_link shape_tests shape_fields shape_at int_type_tests int_type_fields int_type_at fill_tests fill_fields fill_at layout_fields layout_at num halvings
returns-clause-first c = refl

pub returns-clause-second : goal.returns-clause-second
unfolding numbers_in mix_line mixed finish_line finished added rounds sum_of prefix_at msgs_in header_at messages_at block_at header_view value_at links_at find_link shape_tests shape_fields shape_at int_type_tests int_type_fields int_type_at fill_tests fill_fields fill_at layout_fields layout_at num halvings
returns-clause-second c = refl

pub returns-clause-both : goal.returns-clause-both
unfolding numbers_in mix_line mixed finish_line finished added rounds sum_of prefix_at msgs_in header_at messages_at block_at header_view value_at links_at find_link shape_tests shape_fields shape_at int_type_tests int_type_fields int_type_at fill_tests fill_fields fill_at layout_fields layout_at num halvings
returns-clause-both c = refl
