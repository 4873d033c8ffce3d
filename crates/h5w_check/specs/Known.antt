-- The nodes of a tree that are known, and what a call answers that may rest on them.
use Rattle.std.specs.Prelude.{◌≡◌, ℕ, List, Option, IfSome, Result, Ok, Err}
use Rattle.std.specs.declared.cmp.Ordering.{Ordering}
use Rattle.std.specs.Ordering.{nat_cmp, ordering_then}
use Rattle.std.specs.BTreeMap as tree
use Rattle.h5w_model.specs.Causes.{Rose}
use Rattle.h5w_model.specs.Programs.{eval}
use Rattle.h5w_model.specs.Datasets.{then_also}
use Rattle.h5w_model.specs.Findings.{Finding, Under, node_visit}
use Rattle.h5w_image.specs.View.{ImageView, Looked}
use Rattle.h5w_looks.specs.Still.{IsStill}
use Rattle.h5w_check.specs.Ran.{Tells}
use Rattle.h5w_check.specs.Spans.{span_of}
use Rattle.h5w_check.specs.declared.span.Span.{Span}
use Rattle.h5w_check.specs.declared.known.KnownNodes.{KnownNodes}
use Rattle.h5w_check.specs.declared.error.CheckError.{CheckError}
use Rattle.h5w_check.specs.declared.error.CheckError.TheVariants as errors

-- the order of names: by depth, then place, then the number of records
abbrev pub name_cmp : ℕ × (ℕ × ℕ) → ℕ × (ℕ × ℕ) → Ordering
name_cmp x y = ordering_then (nat_cmp x.0 y.0) (ordering_then (nat_cmp x.1.0 y.1.0) (nat_cmp x.1.1 y.1.1))

-- what is known of the keys under a node
abbrev pub known : KnownNodes → ℕ → ℕ → ℕ → Option Span
known m depth at n = tree.get name_cmp m.spans (depth, (at, n))

abbrev pub span_under : Result Under Finding → Result Span Finding
span_under given = then_also given (λ u. Ok (span_of u.keys))

-- what is known is what the image has
abbrev pub AreRight : ℕ → ℕ → KnownNodes → List ℕ → Type 0
AreRight end bytes m img = (depth at n : ℕ) → IfSome (known m depth at n) (λ s. span_under (eval img (node_visit end bytes depth at n)) ≡ Ok s)

-- The answer of a call that looked at an image, which was seen so before and is after, and that may rest on the nodes that
-- were known: on a still image, of which they are right, it is what that image gives, and those that are known then are right.
pub record Visits {B : Type 0} (end bytes : ℕ) (m n : KnownNodes) (v w : ImageView) (given : List ℕ → Result B Finding) (answer : Result B CheckError) : Type 0 where
  pub looked : Looked v w
  pub cause : answer ≡ Err errors.Failed → Rose v.faults w.faults
  pub exact : (img : List ℕ) → IsStill v img → AreRight end bytes m img → Tells (given img) answer
  pub kept : (img : List ℕ) → IsStill v img → AreRight end bytes m img → AreRight end bytes n img
