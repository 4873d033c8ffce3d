use Rattle.std.proofs.Common.{◌≡◌, Ok, subst}
use Rattle.h5w_model.specs.Trees.{btin_at}
use Rattle.h5w_bt.specs.Fields.{btin_of}
use Rattle.h5w_lookup.specs.declared.content.Content.TheVariants.{Inner}
use Rattle.h5w_lookup.proofs.NodeLemmas.{inner_read}
use Rattle.h5w_lookup.proofs.block.Block.inner.Goals as goal

pub invariant_of-result : goal.invariant_of-result
invariant_of-result c =
    record {
      read = rw (c.node_kind.ensures, c.node_len.ensures.exact) (inner_read c.args.place c.args.depth c.args.n c.args.bytes.items (Inner c.in-Ok.block c.args.bytes) c.requires.deep c.requires.shallow (subst (λ b. btin_at b c.args.place c.args.n c.args.depth ≡ Ok (btin_of c.in-Ok.block)) c.deref.ensures.value c.in-Ok.ensures.exact));
      small = c.node_len.ensures.small;
      low = c.ranges.place.fits;
    }
