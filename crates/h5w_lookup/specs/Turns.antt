-- How the way to a key goes on from a node.
use Rattle.std.specs.Prelude.{◌≡◌, ℕ, true, List, Result, Ok}
use Rattle.h5w_model.specs.Programs.{Prog, ret}
use Rattle.h5w_model.specs.Tables.{in_node, key_below}
use Rattle.h5w_model.specs.Trees.{RecordFields, ChildFields}
use Rattle.h5w_model.specs.declared.cell.Key.{Key}
use Rattle.h5w_model.specs.declared.refusal.ReadError.{ReadError}
use Rattle.h5w_bt.specs.Parts.{child_of}
use Rattle.h5w_bt.specs.declared.children.Child.{Child}
use Rattle.h5w_lookup.specs.declared.content.Turn.{Turn}
use Rattle.h5w_lookup.specs.declared.content.Turn.TheVariants.{Found, Under}

-- with what it goes on under a child
abbrev pub turned_by : (ChildFields → Prog (Result ℕ ReadError)) → Turn → Prog (Result ℕ ReadError)
turned_by go (Found a) = ret (Ok a)
turned_by go (Under c bound) = go (child_of c)

-- what holds of the child, if it goes on
abbrev pub ForChild : (Child → Type 0) → Turn → Type 0
ForChild P (Found a) = Unit {0}
ForChild P (Under c bound) = P c

-- if it goes on under a child, so do the ways to the keys behind that key and before the bound
abbrev pub IsSameTurn : Key → List RecordFields → List ChildFields → Turn → Type 0
IsSameTurn key rs cs (Found a) = Unit {0}
IsSameTurn key rs cs (Under c bound) = (k : Key) → key_below key k ≡ true → key_below k bound ≡ true → (go : ChildFields → Prog (Result ℕ ReadError)) → in_node go k rs cs ≡ go (child_of c)
