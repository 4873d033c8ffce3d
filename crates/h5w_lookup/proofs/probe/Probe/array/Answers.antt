use Rattle.std.proofs.Common.{◌≡◌, sym}
use Rattle.h5w_model.specs.Arrays.{place_of}
use Rattle.h5w_model.specs.declared.cell.Place.TheVariants.{Index}
use Rattle.h5w_ea.specs.Fields.{eaib_of}
use Rattle.h5w_lookup.specs.Stores.{kept}
use Rattle.h5w_lookup.proofs.SeekLemmas.{seek_index}
use Rattle.h5w_lookup.proofs.probe.Probe.array.Goals as goal

pub returns-in-Index-clause-exact : goal.returns-in-Index-clause-exact
returns-in-Index-clause-exact c = λ next.
    let at : place_of c.args.i ≡ Index c.in-Index.slot = sym c.in-Index.ensures.exact in
    rw c.address_at.ensures (seek_index (kept c.args.store.now) (eaib_of c.args.index.now) c.args.i c.in-Index.slot next at)
