use Rattle.std.proofs.Common.{◌∙◌, refl, ap}
use Rattle.h5w_lookup.specs.Attempts.{known_of, rules_of, described_rest, looking_up}
use Rattle.h5w_lookup.specs.Descents.{reading_news}
use Rattle.h5w_dataset.specs.Founds.{founds}
use Rattle.h5w_reader.specs.Calling.{behind_left}
use Rattle.h5w_reader.specs.declared.behind.Behind.TheVariants.{Lookup}
use Rattle.h5w_lookup.proofs.OutcomeLemmas.{mapped_left}
use Rattle.h5w_reader.proofs.behind.Behind.after_walk.Goals as goal

pub returns-in_ok-looked_up-in-Done : goal.returns-in_ok-looked_up-in-Done
returns-in_ok-looked_up-in-Done c =
    let g = rules_of c.args.rules.now (known_of c.args.known.now) in
    rw c.in-Done.is (mapped_left (reading_news g.known) (looking_up g) Lookup (behind_left g) c.in_ok-looked_up-in-Done.looked_up c.map_looks.result c.map_looks.ensures (λ l. refl)
    ∙ c.in_ok-looked_up-in-Done.ensures
    ∙ ap (λ xs. described_rest g (founds xs)) c.deref.ensures.value)
