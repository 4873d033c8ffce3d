-- The keys of a tree whose addresses one leaf has.
use Rattle.std.proofs.Common.{◌≡◌, ℕ, zero, suc, ◌+◌, ◌-◌, ◌<◌, ◌≤◌, true, false, List, [], ◌∷◌, length, map, get_or, drop, Option, Some, None, Result, Ok, refl, sym, ◌∙◌, ap, subst, arith}
use Rattle.std.specs.Prelude.{IfSome}
use Rattle.h5w_model.specs.Programs.{Prog, Kept, kept_bytes, used}
use Rattle.h5w_model.specs.Tables.{Reading, InPlace, in_tree, in_leaf, in_node, key_below, tree_leaf, tree_lookup, tree_node}
use Rattle.h5w_model.specs.Trees.{ChildFields, BthdFields, btlf_at, btlf_len}
use Rattle.h5w_model.specs.declared.cell.Key.{Key}
use Rattle.h5w_model.specs.declared.refusal.ReadError.{ReadError}
use Rattle.h5w_bt.specs.declared.records.Record.{Record}
use Rattle.h5w_bt.specs.declared.children.Child.{Child}
use Rattle.h5w_bt.specs.Parts.{record_of, child_of}
use Rattle.h5w_bt.proofs.KeyLemmas.{below-not_back, above-not_equal}
use Rattle.h5w_lookup.specs.Blocks.{IsRead}
use Rattle.h5w_bt.specs.Lengths.{node_len}
use Rattle.h5w_lookup.specs.Contents.{records_in, inner_in}
use Rattle.h5w_lookup.specs.Seeking.{store_rest, next_rest}
use Rattle.h5w_lookup.specs.Spans.{walked, AreKept, Falls, IsSpanOf, IsLed, IsSpan}
use Rattle.h5w_lookup.specs.Turns.{IsSameTurn}
use Rattle.h5w_lookup.specs.declared.content.Content.{Content}
use Rattle.h5w_lookup.specs.declared.content.Turn.TheVariants as turns
use Rattle.h5w_lookup.specs.declared.span.Span.{Span}
use Rattle.h5w_lookup.proofs.AheadLemmas.{kept_block, kept_used}
use Rattle.h5w_lookup.proofs.NodeLemmas.{children_here, node_kept, turn_found}
use Rattle.h5w_lookup.proofs.PathLemmas.{settled}

-- ---- Keys behind another

-- at the first record that is not below a key: a key behind that one, but before the record, goes on under the same child
pub children_between : (go : ChildFields → Prog (Result ℕ ReadError)) (k : Key) (rs : List Record) (cs : List Child) (i : ℕ) (r : Record) (d : Child) → i < length rs → i < length cs → key_below k (get_or rs i r).key ≡ true
    → in_node go k (drop i (map record_of rs)) (drop i (map child_of cs)) ≡ go (child_of (get_or cs i d))
children_between go k rs cs i r d h l before =
    let key = (get_or rs i r).key in
    children_here go k rs cs i r d false h l (below-not_back k key before) (above-not_equal k key before)

-- ---- The way to a leaf

abbrev own_of : ℕ → ℕ → ℕ → List ℕ → Kept
own_of depth at n b = kept_block (tree_node depth) at (node_len depth n) b

leaf_led : (at n : ℕ) (b : List ℕ) (c : Content) → IsRead (tree_node 0) at (node_len 0 n) b c → (k : Key) (ks : List Kept) → AreKept (own_of 0 at n b ∷ []) ks → (next : ℕ → Prog (Result Reading ReadError))
    → store_rest ks (tree_lookup 0 k at n) next ≡ next_rest (walked (own_of 0 at n b ∷ []) ks) next (in_leaf k (records_in c))
leaf_led p n b c read k ks kept next =
    let new = used 16 (tree_node 0) p (node_len 0 n) b ks in
    sym (turn_found new next (in_leaf k (records_in c)) ∙ node_kept ks new 0 p n k b c next (omega arith) kept.0 read refl)

led_leaf : (key : Key) (at n : ℕ) (bound : Key) (old new : List Kept) (b : List ℕ) (c : Content) (s : Span) → IsSpanOf 0 key at n bound s → kept_bytes (tree_node 0) at (node_len 0 n) old ≡ Some b → IsRead (tree_node 0) at (node_len 0 n) b c
    → new ≡ used 16 (tree_node 0) at (node_len 0 n) b old → IsLed 0 key at n bound old new s
led_leaf key p n bound old new b c s is there read then_used = record {
  key_is = is.key_is;
  narrow = λ k h. subst (λ (x : Key). key_below k x ≡ true) is.bound_is h;
  bytes = b;
  records = records_in c;
  says = subst (λ m. btlf_at b s.at m ≡ Ok (records_in c)) (sym is.n_is) (subst (λ a. btlf_at b a n ≡ Ok (records_in c)) (sym is.at_is) (read.of_leaf n refl refl));
  is_kept = subst (λ m. kept_bytes tree_leaf s.at (btlf_len m) new ≡ Some b) (sym is.n_is) (subst (λ a. kept_bytes tree_leaf a (btlf_len n) new ≡ Some b) (sym is.at_is)
      (ap (kept_bytes tree_leaf p (btlf_len n)) then_used ∙ kept_used tree_leaf p (btlf_len n) b old));
  path = own_of 0 p n b ∷ [];
  falls = (omega arith, tt);
  few = omega arith;
  are_kept = (there, tt);
  then_used = then_used;
  led = λ k h low ks kept next. leaf_led p n b c read k ks kept next;
}

-- the node is the leaf, if it is one
pub led_here : (depth : ℕ) (key : Key) (at n : ℕ) (bound : Key) (old new : List Kept) (b : List ℕ) (c : Content) (o : Option Span) → IfSome o (IsSpanOf depth key at n bound) → kept_bytes (tree_node depth) at (node_len depth n) old ≡ Some b
    → IsRead (tree_node depth) at (node_len depth n) b c → new ≡ used 16 (tree_node depth) at (node_len depth n) b old → IfSome o (IsLed depth key at n bound old new)
led_here depth key p n bound old new b c None is there read then_used = tt
led_here zero key p n bound old new b c (Some s) is there read then_used = led_leaf key p n bound old new b c s is there read then_used
led_here (suc depth) key p n bound old new b c (Some s) is there read then_used = let z = is.depth_is in absurd (omega arith)

-- a node on the way, by what its child leads to
node_led : (depth at n : ℕ) (b : List ℕ) (c : Content) (child : ChildFields) → suc depth ≤ 3 → IsRead (tree_node (suc depth)) at (node_len (suc depth) n) b c → (k : Key)
    → ((go : ChildFields → Prog (Result ℕ ReadError)) → in_node go k (inner_in c).records (inner_in c).children ≡ go child) → (ks : List Kept) → kept_bytes (tree_node (suc depth)) at (node_len (suc depth) n) ks ≡ Some b
    → (next : ℕ → Prog (Result Reading ReadError)) → store_rest ks (tree_lookup (suc depth) k at n) next ≡ store_rest (used 16 (tree_node (suc depth)) at (node_len (suc depth) n) b ks) (tree_lookup depth k child.address child.records) next
node_led depth p n b c child h read k turns_there ks there next =
    let new = used 16 (tree_node (suc depth)) p (node_len (suc depth) n) b ks in
    sym (node_kept ks new (suc depth) p n k b c next h there read refl)
    ∙ ap (λ q. store_rest new q next) (turns_there (λ x. tree_lookup depth k x.address x.records))

led_node : (depth : ℕ) (key : Key) (at n : ℕ) (bound below : Key) (old mid new : List Kept) (b : List ℕ) (c : Content) (child : Child) (bound_there : Key) (s : Span) → suc depth ≤ 3
    → kept_bytes (tree_node (suc depth)) at (node_len (suc depth) n) old ≡ Some b → IsRead (tree_node (suc depth)) at (node_len (suc depth) n) b c → mid ≡ used 16 (tree_node (suc depth)) at (node_len (suc depth) n) b old
    → IsSameTurn key (inner_in c).records (inner_in c).children (turns.Under child below) → ((k : Key) → key_below k bound_there ≡ true → (key_below k below ≡ true) × (key_below k bound ≡ true))
    → IsLed depth key child.address child.records bound_there mid new s → IsLed (suc depth) key at n bound old new s
led_node depth key p n bound below old mid new b c child bound_there s h there read then_used same lower l =
    let own = own_of (suc depth) p n b in
    let kinds : 3 + depth ≡ 2 + suc depth = omega arith in
    let count = l.few in
    record {
      key_is = l.key_is;
      narrow = λ k x. (lower k (l.narrow k x)).1;
      bytes = l.bytes;
      records = l.records;
      says = l.says;
      is_kept = l.is_kept;
      path = own ∷ l.path;
      falls = (omega arith, subst (λ m. Falls m l.path) kinds l.falls);
      few = omega (arith, count);
      are_kept = (there, subst (AreKept l.path) then_used l.are_kept);
      then_used = l.then_used ∙ ap (walked l.path) then_used;
      led = λ k x y ks kept next.
          node_led depth p n b c (child_of child) h read k (same k x (lower k (l.narrow k y)).0) ks kept.0 next
          ∙ l.led k x y (used 16 (tree_node (suc depth)) p (node_len (suc depth) n) b ks) kept.1 next;
    }

led_if : (depth e : ℕ) (key : Key) (at n : ℕ) (bound : Key) (old new : List Kept) (o : Option Span) → e ≡ depth → IfSome o (IsLed e key at n bound old new) → IfSome o (IsLed depth key at n bound old new)
led_if depth e key p n bound old new o same h = subst (λ d. IfSome o (IsLed d key p n bound old new)) same h

pub led_under : (depth : ℕ) (key : Key) (at n : ℕ) (bound below : Key) (old mid new : List Kept) (b : List ℕ) (c : Content) (child : Child) (bound_there : Key) (o : Option Span) → 1 ≤ depth → depth ≤ 3
    → kept_bytes (tree_node depth) at (node_len depth n) old ≡ Some b → IsRead (tree_node depth) at (node_len depth n) b c → mid ≡ used 16 (tree_node depth) at (node_len depth n) b old
    → IsSameTurn key (inner_in c).records (inner_in c).children (turns.Under child below) → ((k : Key) → key_below k bound_there ≡ true → (key_below k below ≡ true) × (key_below k bound ≡ true))
    → IfSome o (IsLed (depth - 1) key child.address child.records bound_there mid new) → IfSome o (IsLed depth key at n bound old new)
led_under depth key p n bound below old mid new b c child bound_there None some h there read then_used same lower l = tt
led_under zero key p n bound below old mid new b c child bound_there (Some s) some h there read then_used same lower l = absurd (omega arith)
led_under (suc depth) key p n bound below old mid new b c child bound_there (Some s) some h there read then_used same lower l =
    let one : suc depth - 1 ≡ depth = omega arith in
    led_node depth key p n bound below old mid new b c child bound_there s h there read then_used same lower (led_if depth (suc depth - 1) key child.address child.records bound_there mid new (Some s) one l)

-- ---- A span

-- from the root on
span_led : (t : BthdFields) (key bound : Key) (old new : List Kept) (s : Span) → t.depth ≤ 3 → IsLed t.depth key t.root t.records bound old new s → IsSpan new (in_tree t) s
span_led t key bound old new s h l =
    let count = l.few in
    let a = settled l.path old (3 + t.depth) l.falls (omega (arith, count)) in
    let kept = subst (AreKept l.path) (sym l.then_used) a.kept in
    let same : walked l.path new ≡ new = ap (walked l.path) l.then_used ∙ a.same ∙ sym l.then_used in
    record {
      bytes = l.bytes;
      records = l.records;
      says = l.says;
      is_kept = l.is_kept;
      stand = λ k x y next. l.led k (subst (λ (z : Key). key_below z k ≡ true) l.key_is x) y new kept next ∙ ap (λ ks. next_rest ks next (in_leaf k l.records)) same;
    }

pub span_of_tree : (t : BthdFields) (key bound : Key) (old new : List Kept) (o : Option Span) → t.depth ≤ 3 → IfSome o (IsLed t.depth key t.root t.records bound old new) → IfSome o (IsSpan new (in_tree t))
span_of_tree t key bound old new None h l = tt
span_of_tree t key bound old new (Some s) h l = span_led t key bound old new s h l

pub no_span : (P : Span → Type 0) (o : Option Span) → o ≡ None → IfSome o P
no_span P o h = subst (λ (x : Option Span). IfSome x P) (sym h) tt

-- the records that were read of its leaf
pub span_records : (ks : List Kept) (p : InPlace) (s : Span) (bytes : List ℕ) (c : Content) → kept_bytes tree_leaf s.at (btlf_len s.n) ks ≡ Some bytes → IsRead tree_leaf s.at (btlf_len s.n) bytes c → (is : IsSpan ks p s) → is.records ≡ records_in c
span_records ks p s bytes c there read is =
    let some : Some is.bytes ≡ Some bytes = sym is.is_kept ∙ there in
    let same : is.bytes ≡ bytes = cc in
    let given : Ok is.records ≡ Ok (records_in c) = sym is.says ∙ ap (λ b. btlf_at b s.at s.n) same ∙ read.of_leaf s.n refl refl in
    cc
