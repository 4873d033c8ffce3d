use Rattle.std.proofs.Common.{map, subst, ap, ◌∙◌}
use Rattle.std.specs.List.{All}
use Rattle.std.proofs.lemmas.List.Elements.{All-map}
use Rattle.h5w_bt.specs.Parts.{record_of, IsRecord}
use Rattle.h5w_bt.proofs.records.Records.write.Goals as goal

pub returns-clause-fits : goal.returns-clause-fits
returns-clause-fits c =
    subst (λ l. All IsRecord l) (ap (map record_of) c.deref.ensures.value ∙ c.self.view_is) (All-map IsRecord record_of c.deref.result.now c.write_records.ensures.fits)
