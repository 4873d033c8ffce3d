use Rattle.std.proofs.Common.{◌<◌, ◌^◌, subst, refl}
use Rattle.std.specs.List.{All}
use Rattle.h5w_model.proofs.ArrayLaws.{easb_at-easb_bytes}
use Rattle.h5w_ea.specs.Fields.{easb_of}
use Rattle.h5w_ea.proofs.secondary_block.Easb.encode.Goals as goal

pub returns-clause-reads_back : goal.returns-clause-reads_back
returns-clause-reads_back c = λ place.
    let e = c.encode.ensures in
    easb_at-easb_bytes (easb_of c.args.self.now) place _ e.header_below e.offset_below refl (subst (λ l. All (λ n. n < 2 ^ 64) l) c.as_slice.ensures e.slots_below)
