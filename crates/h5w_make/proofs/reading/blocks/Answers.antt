use Rattle.std.proofs.Common.{rules, inl, inr}
use Rattle.h5w_check.specs.Verdicts.{summary_of}
use Rattle.h5w_make.specs.Commands.{data_name}
use Rattle.h5w_make.proofs.ReadingLemmas.{blocks_alone, none_found}
use Rattle.h5w_make.proofs.reading.blocks.Goals as goal

pub returns-in-Ok-clause-blocks : goal.returns-in-Ok-clause-blocks
returns-in-Ok-clause-blocks c = λ s valid. blocks_alone c.args.image.now.bytes data_name c.in_ok-names.names s (summary_of c.in-Ok.summary) c.in_ok-names.ensures valid (search rules)

pub unreachable-requires : goal.unreachable-requires
unreachable-requires c =
    elim (none_found c.args.image.now.bytes data_name c.in_ok-names.names c.requires.0 c.in-Err.field-0 c.in_ok-names.ensures c.requires.1 (search rules)) [
      | inl failed ↦ search (rules, failed)
      | inr memory ↦ search (rules, memory)
    ]
