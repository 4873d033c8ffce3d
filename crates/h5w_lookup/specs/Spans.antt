-- The keys behind one that was looked up in a tree, whose addresses the same leaf has.
use Rattle.std.specs.Prelude.{◌≡◌, ℕ, ◌+◌, ◌<◌, ◌≤◌, true, List, [], ◌∷◌, length, Some, Result, Ok}
use Rattle.h5w_model.specs.Programs.{Prog, Kept, kept_bytes, used}
use Rattle.h5w_model.specs.Trees.{RecordFields, btlf_at, btlf_len}
use Rattle.h5w_model.specs.Tables.{Reading, InPlace, address_behind, in_leaf, key_below, tree_leaf, tree_lookup}
use Rattle.h5w_model.specs.declared.cell.Key.{Key}
use Rattle.h5w_model.specs.declared.refusal.ReadError.{ReadError}
use Rattle.h5w_lookup.specs.Seeking.{store_rest, next_rest}
use Rattle.h5w_lookup.specs.declared.span.Span.{Span}

-- ---- A path of blocks

-- with these kept, the blocks of a path are used one behind another
abbrev pub walked : List Kept → List Kept → List Kept
walked [] ks = ks
walked (x ∷ xs) ks = walked xs (used 16 x.kind x.place x.len x.bytes ks)

-- each of them is kept when it is used
abbrev pub AreKept : List Kept → List Kept → Type 0
AreKept [] ks = Unit {0}
AreKept (x ∷ xs) ks = (kept_bytes x.kind x.place x.len ks ≡ Some x.bytes) × AreKept xs (used 16 x.kind x.place x.len x.bytes ks)

-- their kinds are below a number, and fall
abbrev pub Falls : ℕ → List Kept → Type 0
Falls m [] = Unit {0}
Falls m (x ∷ xs) = (x.kind < m) × Falls x.kind xs

-- ---- Keys that one leaf has

-- it is of the node of a depth, which is a leaf
pub record IsSpanOf (depth : ℕ) (key : Key) (at n : ℕ) (bound : Key) (s : Span) : Type 0 where
  pub depth_is : depth ≡ 0
  pub at_is : s.at ≡ at
  pub n_is : s.n ≡ n
  pub key_is : s.key ≡ key
  pub bound_is : s.bound ≡ bound

-- from the node of a depth on, the ways to the keys of a span lead over the same blocks to its leaf
pub record IsLed (depth : ℕ) (key : Key) (at n : ℕ) (bound : Key) (old new : List Kept) (s : Span) : Type 0 where
  pub key_is : s.key ≡ key
  pub narrow : (k : Key) → key_below k s.bound ≡ true → key_below k bound ≡ true
  pub bytes : List ℕ
  pub records : List RecordFields
  pub says : btlf_at bytes s.at s.n ≡ Ok records
  pub is_kept : kept_bytes tree_leaf s.at (btlf_len s.n) new ≡ Some bytes
  pub path : List Kept
  pub falls : Falls (3 + depth) path
  pub few : length path ≤ depth + 1
  pub are_kept : AreKept path old
  pub then_used : new ≡ walked path old
  pub led : (k : Key) → key_below key k ≡ true → key_below k s.bound ≡ true → (ks : List Kept) → AreKept path ks → (next : ℕ → Prog (Result Reading ReadError)) → store_rest ks (tree_lookup depth k at n) next ≡ next_rest (walked path ks) next (in_leaf k records)

-- with these blocks kept, its leaf has the addresses of its keys, and looking them up changes nothing
pub record IsSpan (ks : List Kept) (p : InPlace) (s : Span) : Type 0 where
  pub bytes : List ℕ
  pub records : List RecordFields
  pub says : btlf_at bytes s.at s.n ≡ Ok records
  pub is_kept : kept_bytes tree_leaf s.at (btlf_len s.n) ks ≡ Some bytes
  pub stand : (k : Key) → key_below s.key k ≡ true → key_below k s.bound ≡ true → (next : ℕ → Prog (Result Reading ReadError)) → store_rest ks (address_behind p k) next ≡ next_rest ks next (in_leaf k records)
