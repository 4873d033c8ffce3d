-- What looking up one chunk comes to.
use Rattle.std.specs.Prelude.{ℕ, List, Option, None, Result}
use Rattle.h5w_model.specs.Programs.{Prog, Kept}
use Rattle.h5w_model.specs.Tables.{Reading}
use Rattle.h5w_model.specs.declared.refusal.ReadError.{ReadError}
use Rattle.h5w_lookup.specs.Seeking.{next_rest, wait_rest}
use Rattle.h5w_lookup.specs.declared.probe.Probe.{Probe}
use Rattle.h5w_lookup.specs.declared.span.Span.{Span}
use Rattle.h5w_lookup.specs.declared.probe.Probe.TheVariants as probes

abbrev pub probed : List Kept → (ℕ → Prog (Result Reading ReadError)) → Probe → Prog (Result Reading ReadError)
probed ks next (probes.Hit a s) = next_rest ks next a
probed ks next (probes.Miss w) = wait_rest ks w next

-- the keys behind it whose addresses the same leaf has
abbrev pub span_of : Probe → Option Span
span_of (probes.Hit a s) = s
span_of (probes.Miss w) = None
