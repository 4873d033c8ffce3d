use Rattle.std.proofs.Common.{◌≡◌, ◌∙◌, refl, sym, ap}
use Rattle.h5w_model.specs.Checked.{viewed}
use Rattle.h5w_model.specs.Arrays.{eahd_at}
use Rattle.h5w_ea.specs.Fields.{eahd_of}
use Rattle.h5w_ea_index.proofs.OpenedLemmas.{viewed_err}
use Rattle.h5w_ea_index.proofs.open.named_block.Goals as goal

pub returns-in-Ok-clause-read : goal.returns-in-Ok-clause-read
returns-in-Ok-clause-read c =
    let e : viewed eahd_of c.decode.result ≡ eahd_at c.args.bytes.now c.args.at = c.decode.ensures.exact in
    record { fields = eahd_of c.in-Ok.found; read = sym e ∙ ap (viewed eahd_of) c.in-Ok.is; names = refl }

pub returns-in-Err-clause-refused : goal.returns-in-Err-clause-refused
returns-in-Err-clause-refused c =
    let e : viewed eahd_of c.decode.result ≡ eahd_at c.args.bytes.now c.args.at = c.decode.ensures.exact in
    (refl, viewed_err eahd_of c.decode.result (eahd_at c.args.bytes.now c.args.at) c.in-Err.fault e c.in-Err.is)
