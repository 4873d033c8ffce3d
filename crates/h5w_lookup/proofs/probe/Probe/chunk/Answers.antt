use Rattle.std.proofs.Common.{◌+◌, sym, subst}
use Rattle.h5w_model.specs.declared.cell.Key.{Key}
use Rattle.h5w_lookup.specs.Indexes.{IsIndexOf}
use Rattle.h5w_lookup.proofs.IndexLemmas.{index_quotient}
use Rattle.h5w_lookup.proofs.probe.Probe.chunk.Goals as goal

pub behind-requires : goal.behind-requires
behind-requires c =
    subst (λ (k : Key). IsIndexOf (k.i + 1) c.args.index.now) (sym c.key_of.ensures) (index_quotient c.args.index.now c.args.i c.args.across c.requires.some c.requires.indexed)
