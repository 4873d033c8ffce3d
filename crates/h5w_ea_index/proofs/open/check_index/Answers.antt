use Rattle.std.proofs.Common.{◌≡◌, refl}
use Rattle.h5w_model.specs.Checked.{viewed}
use Rattle.h5w_model.specs.Arrays.{eaib_at}
use Rattle.h5w_ea.specs.Fields.{eaib_of}
use Rattle.h5w_ea_index.proofs.OpenedLemmas.{viewed_err, viewed_ok}
use Rattle.h5w_ea_index.proofs.open.check_index.Goals as goal

pub returns-in-Ok-clause-sound : goal.returns-in-Ok-clause-sound
returns-in-Ok-clause-sound c =
    let e : viewed eaib_of c.decode.result ≡ eaib_at c.args.bytes.now c.args.at = c.decode.ensures.exact in
    viewed_ok eaib_of c.decode.result (eaib_at c.args.bytes.now c.args.at) _ e c.in-Ok.is

pub returns-in-Err-clause-refused : goal.returns-in-Err-clause-refused
returns-in-Err-clause-refused c =
    let e : viewed eaib_of c.decode.result ≡ eaib_at c.args.bytes.now c.args.at = c.decode.ensures.exact in
    (refl, viewed_err eaib_of c.decode.result (eaib_at c.args.bytes.now c.args.at) c.in-Err.fault e c.in-Err.is)
