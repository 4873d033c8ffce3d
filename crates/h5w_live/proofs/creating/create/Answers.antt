use Rattle.h5w_creation.proofs.OptionLemmas.{creatable}
use Rattle.h5w_creation.specs.NewFiles.{new_file}
use Rattle.h5w_live.proofs.creating.create.Goals as goal

pub shared-requires : goal.shared-requires
shared-requires g c = (
  new_file c.args.options.now,
  c.args.options.now.limit,
  record { is = creatable c.args.options.now c.requires; created = c.in-Ok.ensures.session; stands = c.in-Ok.ensures.stands },
)

pub returns-in-Ok-shared-clause-created : goal.returns-in-Ok-shared-clause-created
returns-in-Ok-shared-clause-created g c =
    c.in-Ok-shared.ensures.created (new_file c.args.options.now) c.args.options.now.limit
    (record { is = creatable c.args.options.now c.requires; created = c.in-Ok.ensures.session; stands = c.in-Ok.ensures.stands })
