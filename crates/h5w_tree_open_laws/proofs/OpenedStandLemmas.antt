-- A tree that a session keeps stands, where its nodes end by the file's end.
use Rattle.std.proofs.Common.{◌≡◌, inl, inr, ℕ, zero, suc, ◌+◌, ◌*◌, ◌<◌, ◌≤◌, ◌^◌, cond, eqb, List, [], ◌∷◌, ◌++◌, flat_map, length, map, Option, None, Result, Ok, refl, sym, ap, ap₂, subst, ◌∙◌, arith, leb-true}
use Rattle.std.specs.Prelude.{codes}
use Rattle.std.specs.List.{All}
use Rattle.std.proofs.lemmas.Bool.{cases_eq, cond-false, cond-true, eq-eqb, false_from_ne_true, eqb-true}
use Rattle.std.proofs.lemmas.List.{length-map}
use Rattle.std.proofs.lemmas.List.Elements.{All-cons, All-head, All-nil, All-tail}
use Rattle.h5w_model.specs.Numbers.{range, undefined}
use Rattle.h5w_model.specs.Blocks.{block_tests}
use Rattle.h5w_model.specs.Datasets.{refused_as}
use Rattle.h5w_model.specs.Tables.{InPlace, nowhere, in_tree}
use Rattle.h5w_model.specs.Trees.{BthdFields, BtinFields, ChildFields, RecordFields, bthd_at, bthd_len, btin_at, btin_fields, btin_len, btlf_at, btlf_len, capacity_of, child_tests, node_size, node_tests, records_in}
use Rattle.h5w_model.specs.declared.cell.Key.{Key}
use Rattle.h5w_model.specs.declared.refusal.BlockFault.{BlockFault}
use Rattle.h5w_model.specs.declared.refusal.ReadError.{ReadError}
use Rattle.h5w_model.specs.declared.refusal.ReadError.TheVariants.{Damaged}
use Rattle.h5w_model.proofs.CheckedLemmas.{checked-passed}
use Rattle.h5w_laws.proofs.LoweringLemmas.{length_range}
use Rattle.h5w_laws.proofs.ResultLemmas.{then_from}
use Rattle.h5w_laws.proofs.SlotLemmas.{refused_from}
use Rattle.h5w_space.specs.declared.Extent.{Extent}
use Rattle.h5w_bt.specs.declared.records.Record.{Record}
use Rattle.h5w_bt.specs.Parts.{record_of}
use Rattle.h5w_bt_nodes.specs.Nodes.{Tree, all_records, records_of, total_of}
use Rattle.h5w_bt_nodes.specs.Shapes.{IsShape, IsShapedChild}
use Rattle.h5w_bt_index.specs.Sound.{IsRising}
use Rattle.h5w_bt_index.specs.Index.{Index, no_tree}
use Rattle.h5w_bt_nodes.specs.Blocks.{node_of, place_of, pointer_of}
use Rattle.h5w_bt_index.specs.Plans.{header_of}
use Rattle.h5w_bt_index.proofs.Joined.{joined-each_rises}
use Rattle.h5w_bt_index.proofs.Laws.{index_shaped}
use Rattle.h5w_bt_open.specs.declared.span.Span.{Span}
use Rattle.h5w_bt_open.specs.Spans.{high_of, low_behind, low_of, rest, span_here}
use Rattle.h5w_bt_open.specs.Opened.{EachOpened, IsInner, IsLeaf, IsOpened, from_key, root_pointer, said, told_under}
use Rattle.h5w_bt_open.specs.Kept.{IsKeptTree, node_ranges, own_extent, ranges_of}
use Rattle.h5w_bt_open.proofs.HeldLemmas.{leaf_count}
use Rattle.h5w_tree_index_laws.specs.TreeFlushes.{TreeStands}
use Rattle.h5w_tree_index_laws.specs.TreeImages.{AllStand}
use Rattle.h5w_tree_index_laws.proofs.TreeHeaderLemmas.{header_gives}
use Rattle.h5w_tree_index_laws.proofs.TreeRestLemmas.{tree_stands}
use Rattle.h5w_tree_open_laws.specs.OpenedTrees.{OpenedStands}
use Rattle.h5w_tree_open_laws.proofs.PassedLemmas.{never_passed}
use Rattle.h5w_tree_open_laws.proofs.PointerLemmas.{Says, node_says}

-- ---- Ranges

-- each of these ends by a place
abbrev pub AllEnd : ℕ → List Extent → Type 0
AllEnd end rs = All (λ (r : Extent). r.at + r.size ≤ end) rs

pub both_parts : {A : Type 0} (P : A → Type 0) (xs ys : List A) → All P (xs ++ ys) → All P xs × All P ys
both_parts P [] ys h = (All-nil P, h)
both_parts P (x ∷ xs) ys h = let p = both_parts P xs ys (All-tail P x (xs ++ ys) h) in (All-cons P x xs (All-head P x (xs ++ ys) h) p.0, p.1)

each_part : {A B : Type 0} (P : B → Type 0) (f : A → List B) (xs : List A) → All P (flat_map f xs) → All (λ (x : A). All P (f x)) xs
each_part P f [] h = All-nil (λ (x : _). All P (f x))
each_part P f (x ∷ xs) h = let p = both_parts P (f x) (flat_map f xs) h in All-cons (λ (y : _). All P (f y)) x xs p.0 (each_part P f xs p.1)

-- a node that has a place ends by the end
own_ends : (end place : ℕ) → (place ≡ undefined → ⊥) → AllEnd end (own_extent place) → place + node_size ≤ end
own_ends end place some h =
    let is : own_extent place ≡ record { at = place; size = node_size } ∷ [] = cond-false (eqb place undefined) [] (record { at = place; size = node_size } ∷ []) (false_from_ne_true (eqb place undefined) (λ t. some (eqb-true place undefined t))) in
    All-head (λ (r : Extent). r.at + r.size ≤ end) (record { at = place; size = node_size }) [] (subst (λ (l : List Extent). AllEnd end l) is h)

-- behind the last place that a number can name nothing is read
nothing_there : (img : List ℕ) (place len n : ℕ) → length img < 2 ^ 64 → place ≡ undefined → n ≤ length (range img place len) → n ≡ 0
nothing_there img place len n short none h = let l = length_range img place len in omega (arith, l, short, none, h)

leaf_somewhere : (img : List ℕ) (c : ChildFields) (rs : List RecordFields) → length img < 2 ^ 64 → btlf_at (range img c.address (btlf_len c.records)) c.address c.records ≡ Ok rs → c.address ≡ undefined → ⊥
leaf_somewhere img c rs short e none =
    let b : List ℕ = range img c.address (btlf_len c.records) in
    let p = checked-passed (block_tests (codes "BTLF") (btlf_len c.records) b ++ node_tests b c.address) (records_in b c.records 6) rs e in
    let long : btlf_len c.records ≤ length b = leb-true (btlf_len c.records) (length b) p.0.0 in
    let zero_long = nothing_there img c.address (btlf_len c.records) (btlf_len c.records) short none long in
    omega (arith, zero_long)

node_somewhere : (img : List ℕ) (d : ℕ) (c : ChildFields) (v : BtinFields) → length img < 2 ^ 64 → btin_at (range img c.address (btin_len c.records (suc d))) c.address c.records (suc d) ≡ Ok v → c.address ≡ undefined → ⊥
node_somewhere img d c v short e none =
    let n : ℕ = c.records in
    let b : List ℕ = range img c.address (btin_len n (suc d)) in
    let p = checked-passed (block_tests (codes "BTIN") (btin_len n (suc d)) b ++ node_tests b c.address ++ child_tests b c.address (suc d) (n + 1) (6 + 24 * n)) (btin_fields b n (suc d)) v e in
    let long : btin_len n (suc d) ≤ length b = leb-true (btin_len n (suc d)) (length b) p.0.0 in
    let zero_long = nothing_there img c.address (btin_len n (suc d)) (btin_len n (suc d)) short none long in
    omega (arith, zero_long)

-- ---- Nodes

-- the tree behind a pointer stands, each node of it, and is what the pointer says of it
pub record IsAsRead (img : List ℕ) (d : ℕ) (c : ChildFields) (t : Tree d) : Type 0 where
  pub stands : AllStand img d t
  pub place : place_of d t ≡ c.address
  pub records : length (records_of d t) ≡ c.records
  pub total : total_of d t ≡ said d c

-- so are those behind the pointers of a node, which are what it says of its children
pub record AreAsRead (img : List ℕ) (d : ℕ) (cs : List ChildFields) (ts : List (Tree d)) : Type 0 where
  pub stand : All (AllStand img d) ts
  pub pointers : map (pointer_of d) ts ≡ cs

pointer_is : (img : List ℕ) (d : ℕ) (c : ChildFields) (t : Tree d) → Says d c → IsAsRead img d c t → pointer_of d t ≡ c
pointer_is img d c t says h =
    let total : total_of d t ≡ c.total = h.total ∙ says in
    λ i. record { address = h.place i; records = h.records i; total = total i }

leaf_as_read : (img : List ℕ) (end : ℕ) (c : ChildFields) (t : Tree zero) → end < 2 ^ 64 → c.address + node_size ≤ end → IsLeaf (btlf_at (range img c.address (btlf_len c.records)) c.address c.records) c t → IsAsRead img zero c t
leaf_as_read img end c t small ends leaf =
    let long : length t.records ≡ c.records = leaf_count (range img c.address (btlf_len c.records)) c.address c.records t.records leaf.records in
    record {
      stands = record {
        reads = ap₂ (λ (p n : ℕ). btlf_at (range img p (btlf_len n)) p n) leaf.place long ∙ leaf.records;
        ends = omega (arith, leaf.place, ends, small);
      };
      place = leaf.place;
      records = long;
      total = long;
    }

abbrev fields_ok : BtinFields → Result BtinFields BlockFault
fields_ok v = Ok v

inner_as_read : (img : List ℕ) (end d : ℕ) (c : ChildFields) (s : Option Span) (t : Tree (suc d)) → end < 2 ^ 64 → c.address + node_size ≤ end
    → (inner : IsInner d (btin_at (range img c.address (btin_len c.records (suc d))) c.address c.records (suc d)) (EachOpened (IsOpened img d) (low_of s) (high_of s)) c t) → AreAsRead img d inner.fields.children t.children → IsAsRead img (suc d) c t
inner_as_read img end d c s t small ends inner below =
    let says = node_says (range img c.address (btin_len c.records (suc d))) c.address c.records d inner.fields inner.reads in
    let long : length t.records ≡ c.records = sym (length-map t.records record_of) ∙ ap (length {A = RecordFields}) inner.records ∙ says.0 in
    let is : node_of d t ≡ inner.fields = λ i. record { records = inner.records i; children = below.pointers i } in
    record {
      stands = (
        record {
          reads = ap₂ (λ (p n : ℕ). btin_at (range img p (btin_len n (suc d))) p n (suc d)) inner.place long ∙ inner.reads ∙ ap fields_ok (sym is);
          ends = omega (arith, inner.place, ends, small);
        },
        below.stand,
      );
      place = inner.place;
      records = long;
      total = inner.total;
    }

-- what is known of a node below another, by its place among all
pub record IsFine (end d : ℕ) (t : Tree d) : Type 0 where
  pub shape : IsShape d (capacity_of d) t
  pub rises : IsRising (all_records d t)
  pub ends : AllEnd end (node_ranges d t)

-- the same of each below another
pub record AreFine (end d : ℕ) (ts : List (Tree d)) : Type 0 where
  pub shapes : All (IsShapedChild d) ts
  pub rise : All IsRising (map (all_records d) ts)
  pub ends : All (λ (t : Tree d). AllEnd end (node_ranges d t)) ts

first_fine : (end d : ℕ) (t : Tree d) (ts : List (Tree d)) → AreFine end d (t ∷ ts) → IsFine end d t
first_fine end d t ts h = record {
  shape = (All-head (IsShapedChild d) t ts h.shapes).0;
  rises = All-head IsRising (all_records d t) (map (all_records d) ts) h.rise;
  ends = All-head (λ (u : Tree d). AllEnd end (node_ranges d u)) t ts h.ends;
}

others_fine : (end d : ℕ) (t : Tree d) (ts : List (Tree d)) → AreFine end d (t ∷ ts) → AreFine end d ts
others_fine end d t ts h = record {
  shapes = All-tail (IsShapedChild d) t ts h.shapes;
  rise = All-tail IsRising (all_records d t) (map (all_records d) ts) h.rise;
  ends = All-tail (λ (u : Tree d). AllEnd end (node_ranges d u)) t ts h.ends;
}

module _ (img : List ℕ) (end d : ℕ)
    (reads : (c : ChildFields) (s : Option Span) (t : Tree d) → IsOpened img d c s t → IsFine end d t → IsAsRead img d c t) where
  each_read : (from to : Option Key) (rs : List Record) (cs : List ChildFields) (ts : List (Tree d)) → EachOpened (IsOpened img d) from to rs cs ts → AreFine end d ts → All (Says d) cs → AreAsRead img d cs ts
  each_read from to rs [] [] e fine says = record { stand = All-nil (AllStand img d); pointers = refl }
  each_read from to rs [] (t ∷ ts) e fine says = absurd e
  each_read from to rs (c ∷ cs) [] e fine says = absurd e
  each_read from to rs (c ∷ cs) (t ∷ ts) e fine says =
      let own = reads c (span_here from to rs) t e.0 (first_fine end d t ts fine) in
      let others = each_read (low_behind from rs) to (rest rs) cs ts e.1 (others_fine end d t ts fine) (All-tail (Says d) c cs says) in
      record {
        stand = All-cons (AllStand img d) t ts own.stands others.stand;
        pointers = ap₂ (λ (p : ChildFields) (l : List ChildFields). p ∷ l) (pointer_is img d c t (All-head (Says d) c cs says) own) others.pointers;
      }

below_fine : (end d : ℕ) (t : Tree (suc d)) → IsFine end (suc d) t → AreFine end d t.children
below_fine end d t h = record {
  shapes = h.shape.each;
  rise = joined-each_rises t.records (map (all_records d) t.children) (length-map t.children (all_records d) ∙ h.shape.children) h.rises;
  ends = each_part (λ (r : Extent). r.at + r.size ≤ end) (node_ranges d) t.children (both_parts (λ (r : Extent). r.at + r.size ≤ end) (own_extent t.place) (flat_map (node_ranges d) t.children) h.ends).1;
}

-- no node of a tree that is fine stands for another
pub opened_read : (img : List ℕ) (end d : ℕ) (c : ChildFields) (s : Option Span) (t : Tree d) → end < 2 ^ 64 → length img < 2 ^ 64 → IsOpened img d c s t → IsFine end d t → IsAsRead img d c t
opened_read img end zero c s t small short (inl leaf) h =
    let some : c.address ≡ undefined → ⊥ = leaf_somewhere img c (map record_of t.records) short leaf.records in
    leaf_as_read img end c t small (own_ends end c.address some (subst (λ (p : ℕ). AllEnd end (own_extent p)) leaf.place h.ends)) leaf
opened_read img end zero c s t small short (inr passed) h = absurd (never_passed zero c t h.rises passed.is)
opened_read img end (suc d) c s t small short (inl inner) h =
    let some : c.address ≡ undefined → ⊥ = node_somewhere img d c inner.fields short inner.reads in
    let own = (both_parts (λ (r : Extent). r.at + r.size ≤ end) (own_extent t.place) (flat_map (node_ranges d) t.children) h.ends).0 in
    let says = node_says (range img c.address (btin_len c.records (suc d))) c.address c.records d inner.fields inner.reads in
    inner_as_read img end d c s t small (own_ends end c.address some (subst (λ (p : ℕ). AllEnd end (own_extent p)) inner.place own)) inner
    (each_read img end d (λ b q u is fine. opened_read img end d b q u small short is fine) (low_of s) (high_of s) t.records inner.fields.children t.children inner.children
    (below_fine end d t h) says.1)
opened_read img end (suc d) c s t small short (inr passed) h = absurd (never_passed (suc d) c t h.rises passed.is)

-- ---- The tree

abbrev in_place_ok : InPlace → Result InPlace ReadError
in_place_ok p = Ok p

abbrev header_ok : BthdFields → Result BthdFields BlockFault
header_ok f = Ok f

-- a header that names no root is that of the tree without records
none_stands : (img : List ℕ) (header : ℕ) (f : BthdFields) → bthd_at (range img header bthd_len) header ≡ Ok f → f.root ≡ undefined → TreeStands header no_tree img
none_stands img header f read e = record {
  nodes = λ p clean. inl refl;
  header = λ clean. record {
    total = f.total;
    finds = then_from (refused_as (Damaged header) (bthd_at (range img header bthd_len) header)) (λ (t : BthdFields). in_place_ok (cond (eqb t.root undefined) nowhere (in_tree t))) f nowhere
        (refused_from (Damaged header) (bthd_at (range img header bthd_len) header) f read) (ap in_place_ok (cond-true (eqb f.root undefined) nowhere (in_tree f) (eq-eqb f.root undefined e)));
  };
}

module _ (img : List ℕ) (header end : ℕ) (first : Key) (v : Index) (k : IsKeptTree img header first v) (ends : AllEnd end (ranges_of v)) (small : end < 2 ^ 64) where
  abbrev f : BthdFields
  f = k.standing.fields

  some_stands : (f.root ≡ undefined → ⊥) → TreeStands header v img
  some_stands some =
      let p = k.standing.root some in
      let shaped = index_shaped v k.kept in
      let fine : IsFine end v.depth v.root = record { shape = shaped.shape; rises = k.kept.rises; ends = ends } in
      let read = opened_read img end v.depth (root_pointer f (told_under v.depth v.root)) (from_key first) v.root small k.short p.1 fine in
      let named : BthdFields = record (header_of v) { total = f.total } in
      let is : named ≡ f = λ i. record { depth = p.0 i; root = read.place i; records = read.records i; total = f.total } in
      record {
        nodes = tree_stands img v read.stands;
        header = λ clean. record { total = f.total; finds = header_gives v f.total (range img header bthd_len) header (k.standing.read ∙ ap header_ok (sym is)) };
      }

  stands_either : TreeStands header v img
  stands_either = elim (cases_eq f.root undefined) [
    | inl e ↦ subst (λ (w : Index). TreeStands header w img) (sym (k.standing.none e)) (none_stands img header f k.standing.read e)
    | inr e ↦ some_stands e
  ]

pub opened_stands : OpenedStands
opened_stands img header end first v k ends small = stands_either img header end first v k ends small
