-- A tree that did not change since it was written, on an image.
use Rattle.std.proofs.Common.{◌≡◌, ◌⊎◌, ℕ, zero, suc, ◌+◌, ◌<◌, ◌^◌, Bool, true, false, eqb, List, [], ◌∷◌, length, refl, sym, ap, subst, ◌∙◌, inl, inr, arith}
use Rattle.std.specs.List.{All}
use Rattle.std.proofs.lemmas.Bool.{cond-false, eqb-true}
use Rattle.std.proofs.lemmas.List.Elements.{All-cons, All-head, All-nil, All-tail}
use Rattle.h5w_model.specs.Numbers.{undefined}
use Rattle.h5w_model.specs.Programs.{ret, eval}
use Rattle.h5w_model.specs.Trees.{BthdFields, node_size}
use Rattle.h5w_model.specs.Tables.{in_tree, address_behind}
use Rattle.h5w_model.specs.Findings.{Under, node_visit}
use Rattle.h5w_laws.proofs.ResultLemmas.{and_then_from}
use Rattle.h5w_step_laws.specs.Indexes.{behind_visit}
use Rattle.h5w_bt.specs.declared.records.Record.{Record}
use Rattle.h5w_laws.proofs.EndLemmas.{ranges_are}
use Rattle.h5w_bt_nodes.specs.Nodes.{Tree, records_of}
use Rattle.h5w_bt_index.specs.Marks.{IsCleanPart, IsMarked, Part, Some_of, clean_of}
use Rattle.h5w_bt_index.specs.Index.{Index, IsClean, IsIndex, inserted, no_tree}
use Rattle.h5w_bt_nodes.specs.Blocks.{place_of}
use Rattle.h5w_bt_index.specs.Plans.{header_of}
use Rattle.h5w_tree_index_laws.specs.TreeImages.{AllStand, IsRead, StandsNode, StandsTree, TreeIsRead, behind_of, blocks_in_place}
use Rattle.h5w_tree_index_laws.proofs.TreeReadLemmas.{Good, lookup_gives}
use Rattle.h5w_tree_index_laws.proofs.TreeVisitLemmas.{node_under, visit_finds}

-- what is known of each clean node
abbrev pub PartStands : List ℕ → Index → Part → Type 0
PartStands img v p = (v ≡ no_tree) ⊎ StandsNode img p.depth p.tree

abbrev pub part_of : (d : ℕ) → Tree d → Part
part_of d t = record { depth = d; tree = t }

pub own_part : (d : ℕ) (t : Tree d) → clean_of d t ≡ true → IsCleanPart (part_of d t) d t
own_part zero t e = (e, refl)
own_part (suc d) t e = inl (e, refl)

-- where each clean node stands, and no node changed, all stand
abbrev Whole : List ℕ → (d : ℕ) → Tree d → Type 0
Whole img d t = IsMarked d t → clean_of d t ≡ true → ((p : Part) → IsCleanPart p d t → StandsNode img p.depth p.tree) → AllStand img d t

children_stand : (img : List ℕ) (d : ℕ) (cs : List (Tree d)) → ((c : Tree d) → Whole img d c) → All (IsMarked d) cs → All (λ (c : Tree d). clean_of d c ≡ true) cs
    → ((p : Part) → Some_of (IsCleanPart p d) cs → StandsNode img p.depth p.tree) → All (AllStand img d) cs
children_stand img d [] f m e all = All-nil (AllStand img d)
children_stand img d (c ∷ cs) f m e all =
    All-cons (AllStand img d) c cs
    (f c (All-head (IsMarked d) c cs m) (All-head (λ (c : Tree d). clean_of d c ≡ true) c cs e) (λ p q. all p (inl q)))
    (children_stand img d cs f (All-tail (IsMarked d) c cs m) (All-tail (λ (c : Tree d). clean_of d c ≡ true) c cs e) (λ p q. all p (inr q)))

pub nodes_stand : (img : List ℕ) (d : ℕ) (t : Tree d) → Whole img d t
nodes_stand img zero t m e all = all (part_of zero t) (own_part zero t e)
nodes_stand img (suc d) t m e all = (
  all (part_of (suc d) t) (own_part (suc d) t e),
  children_stand img d t.children (λ c. nodes_stand img d c) m.1 (m.0 e) (λ p q. all p (inr q)),
)

-- ---- The index

pub none_read : (img : List ℕ) → IsRead no_tree img
none_read img = record { visited = λ total end bytes h. refl; found = λ total key. refl }

pub node_place : (img : List ℕ) (d : ℕ) (t : Tree d) → AllStand img d t → place_of d t + node_size < 2 ^ 64
node_place img zero t s = s.ends
node_place img (suc d) t s = (s.0).ends

pub placed_differs : (place : ℕ) → place + node_size < 2 ^ 64 → eqb place undefined ≡ false
placed_differs place h = go (eqb place undefined) refl
  where
    go : (b : Bool) → eqb place undefined ≡ b → b ≡ false
    go true e = let n : place ≡ undefined = eqb-true place undefined e in absurd (omega (arith, h, n))
    go false e = refl

pub good_read : (v : Index) (img : List ℕ) → IsIndex v → AllStand img v.depth v.root → IsRead v img
good_read v img i s =
    let place : ℕ = place_of v.depth v.root in
    let g : Good img v.depth v.root = record { sound = i.sound; rises = i.rises; stands = s } in
    let header : ℕ → BthdFields = λ total. record (header_of v) { total = total } in
    let blocks : (total : ℕ) → blocks_in_place total v ≡ in_tree (header total) = λ total. cond-false (eqb place undefined) _ _ (placed_differs place (node_place img v.depth v.root s)) in
    record {
      visited = λ total end bytes h. ap (λ b. eval img (behind_visit end bytes b)) (blocks total)
          ∙ and_then_from img (node_visit end bytes v.depth place (length (records_of v.depth v.root))) (λ (u : Under). ret (ranges_are u.ranges)) (node_under bytes v.depth v.root) (behind_of bytes v)
          (visit_finds img end bytes v.depth v.root g h) refl;
      found = λ total key. ap (λ b. eval img (address_behind b key)) (blocks total) ∙ lookup_gives img v.depth v.root key g;
    }

-- a tree whose root has a place has records
not_none : (v : Index) → place_of v.depth v.root + node_size < 2 ^ 64 → v ≡ no_tree → ⊥
not_none v low e = let none : place_of v.depth v.root ≡ undefined = ap (λ (w : Index). place_of w.depth w.root) e in absurd (omega (arith, low, none))

-- each clean node stands, where the tree is not the one without records
pub clean_stand : (v : Index) (img : List ℕ) → (v ≡ no_tree → ⊥) → StandsTree v img → (p : Part) → IsClean p v → StandsNode img p.depth p.tree
clean_stand v img some stands p clean = elim (stands p clean) [ inl e ↦ absurd (some e) | inr s ↦ s ]

-- of a tree that got its first record no node is clean
pub first_changed : (x : Record) (p : Part) → IsClean p (inserted x no_tree) → ⊥
first_changed x p clean = let clash : ◌≡◌ {A = Bool} false true = clean.0 in cc

pub never_first : (x : Record) (v : Index) (p : Part) → v ≡ no_tree → IsClean p (inserted x v) → ⊥
never_first x v p e clean = first_changed x p (subst (λ (w : Index). IsClean p (inserted x w)) e clean)

read_either : (v : Index) (img : List ℕ) → IsIndex v → clean_of v.depth v.root ≡ true → StandsTree v img → PartStands img v (part_of v.depth v.root) → IsRead v img
read_either v img i clean stands (inl e) = subst (λ (w : Index). IsRead w img) (sym e) (none_read img)
read_either v img i clean stands (inr s) = good_read v img i (nodes_stand img v.depth v.root i.marked clean (clean_stand v img (not_none v s.ends) stands))

pub tree_is_read : TreeIsRead
tree_is_read v img i clean stands = read_either v img i clean stands (stands (part_of v.depth v.root) (own_part v.depth v.root clean))
