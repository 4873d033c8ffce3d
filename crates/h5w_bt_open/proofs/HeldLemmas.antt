-- The shape of nodes that were read, and of those that stand for others.
use Rattle.std.proofs.Common.{◌≡◌, inl, inr, ℕ, zero, suc, ◌+◌, ◌-◌, ◌*◌, ◌<◌, ◌≤◌, ◌^◌, Bool, true, List, [], ◌∷◌, ◌++◌, length, map, Option, Ok, refl, sym, ap, subst, ◌∙◌, arith, nat_le, leb-true, if◌then◌else◌}
use Rattle.std.specs.Prelude.{codes}
use Rattle.std.specs.List.{All}
use Rattle.std.proofs.lemmas.Bool.{cond-false, lt-leb}
use Rattle.std.proofs.lemmas.List.{length-map}
use Rattle.std.proofs.lemmas.List.Elements.{All-cons, All-head, All-nil, All-tail}
use Rattle.h5w_model.specs.Numbers.{AreBytes, field}
use Rattle.h5w_model.specs.Blocks.{block_tests}
use Rattle.h5w_model.specs.Trees.{BthdFields, BtinFields, ChildFields, RecordFields, bthd_at, bthd_fields, bthd_tests, btin_at, btin_fields, btin_len, btlf_at, btlf_len, capacity_of, child_tests, children_in, node_tests, pointer_size, records_in}
use Rattle.h5w_model.proofs.CheckedLemmas.{AllPass, checked-passed}
use Rattle.h5w_model.proofs.NumberLemmas.{field-lt}
use Rattle.h5w_bt.specs.declared.records.Record.{Record}
use Rattle.h5w_bt.specs.Parts.{IsHeader, record_of}
use Rattle.h5w_laws.proofs.NodeLemmas.{length-records_in, length-children_in}
use Rattle.h5w_bt_nodes.specs.Nodes.{Tree, total_of}
use Rattle.h5w_bt_index.specs.Marks.{IsMarked, clean_of}
use Rattle.h5w_bt_nodes.specs.Shapes.{IsShapedChild}
use Rattle.h5w_bt_open.specs.declared.span.Span.{Span}
use Rattle.h5w_bt_open.specs.Opened.{AreWhole, IsChild, IsHeld, IsLeafIn, IsOpened, IsRead, counted_node, nowhere_below, passed_of, said, told_under, with_total}

-- ---- What was read

pub leaf_count : (b : List ℕ) (at n : ℕ) (rs : List Record) → btlf_at b at n ≡ Ok (map record_of rs) → length rs ≡ n
leaf_count b at n rs e =
    let p = checked-passed (block_tests (codes "BTLF") (btlf_len n) b ++ node_tests b at) (records_in b n 6) (map record_of rs) e in
    sym (length-map rs record_of) ∙ ap (length {A = RecordFields}) (sym p.1) ∙ length-records_in b n 6

child_few : (b : List ℕ) (at d n from : ℕ) → AreBytes b → suc d ≤ 3 → from + n * pointer_size (suc d) ≤ length b → AllPass (child_tests b at (suc d) n from) → All (IsChild d) (children_in b (suc d) n from)
child_few b at d zero from bytes low inside pass = All-nil (IsChild d)
child_few b at d (suc n) from bytes low inside pass =
    let w : ℕ = pointer_size (suc d) in
    All-cons (IsChild d) _ (children_in b (suc d) n (from + w)) (record { few = let less : suc d - 1 ≡ d = omega arith in subst (λ (k : ℕ). field b (from + 8) 1 ≤ capacity_of k) less (leb-true (field b (from + 8) 1) (capacity_of (suc d - 1)) pass.0); fits = fits d low (omega (arith, inside)) })
    (child_few b at d n (from + w) bytes low (omega (arith, inside)) pass.1)
  where
    fits : (d : ℕ) → suc d ≤ 3 → from + pointer_size (suc d) ≤ length b
        → said d (record { address = field b from 8; records = field b (from + 8) 1; total = if nat_le (suc d) 1 then field b (from + 8) 1 else field b (from + 9) (suc d) }) < 256 ^ suc d
    fits zero low h = field-lt b (from + 8) 1 bytes (omega (arith, h))
    fits (suc e) low h =
        subst (λ (k : ℕ). k < 256 ^ suc (suc e)) (sym (cond-false (nat_le (suc (suc e)) 1) _ _ (lt-leb (suc (suc e)) 1 (omega arith)))) (field-lt b (from + 9) (suc (suc e)) bytes (omega (arith, h)))

pub node_read : (b : List ℕ) (at n d : ℕ) (v : BtinFields) → AreBytes b → suc d ≤ 3 → btin_at b at n (suc d) ≡ Ok v → IsRead d n v
node_read b at n d v bytes low e =
    let p = checked-passed (block_tests (codes "BTIN") (btin_len n (suc d)) b ++ node_tests b at ++ child_tests b at (suc d) (n + 1) (6 + 24 * n)) (btin_fields b n (suc d)) v e in
    let long : btin_len n (suc d) ≤ length b = leb-true (btin_len n (suc d)) (length b) p.0.0 in
    record {
      records = ap (λ (t : BtinFields). length t.records) (sym p.1) ∙ length-records_in b n 6;
      children = ap (λ (t : BtinFields). length t.children) (sym p.1) ∙ length-children_in b (suc d) (n + 1) (6 + 24 * n);
      pointers = subst (λ (t : BtinFields). All (IsChild d) t.children) p.1 (child_few b at d (n + 1) (6 + 24 * n) bytes low (omega (arith, long)) p.0.1.1.1.1.1);
    }

pub judged_node : (b : List ℕ) (at n depth d : ℕ) (v : BtinFields) → AreBytes b → depth ≡ suc d → suc d ≤ 3 → btin_at b at n depth ≡ Ok v → IsRead d n v
judged_node b at n depth d v bytes deep low e = node_read b at n d v bytes low (ap (btin_at b at n) (sym deep) ∙ e)

pub header_read : (b : List ℕ) (at : ℕ) (h : BthdFields) → bthd_at b at ≡ Ok h → IsHeader h
header_read b at h e =
    let p = checked-passed (bthd_tests b at) (bthd_fields b) h e in
    subst IsHeader p.1 (record { shallow = leb-true (field b 12 2) 3 p.0.1.1.1.1.1.1.1.0; few = leb-true (field b 24 2) (capacity_of (field b 12 2)) p.0.1.1.1.1.1.1.1.1.1.1.0 })

-- ---- What stands for others

none_fits : (d : ℕ) → d ≤ 3 → 0 < 256 ^ suc d
none_fits zero h = omega arith
none_fits (suc zero) h = omega arith
none_fits (suc (suc zero)) h = omega arith
none_fits (suc (suc (suc zero))) h = omega arith
none_fits (suc (suc (suc (suc d)))) h = absurd (omega (arith, h))

-- what a node says of how many records are under it fits where what its pointer says does
total_fits : (d : ℕ) (c : ChildFields) (t : Tree d) → IsHeld d c t → said d c < 256 ^ suc d → total_of d t < 256 ^ suc d
total_fits zero c t h fits = let few = h.shape in omega (arith, few)
total_fits (suc d) c t h fits = subst (λ (n : ℕ). n < 256 ^ suc (suc d)) (sym h.total) fits

none_said : (d : ℕ) → d ≤ 3 → said d nowhere_below < 256 ^ suc d
none_said zero low = none_fits zero low
none_said (suc d) low = none_fits (suc d) low

pub passed_held : (d : ℕ) (c : ChildFields) → d ≤ 3 → IsHeld d c (passed_of d c)
passed_held zero c low = record { shape = omega arith; total = tt; clean = refl; marked = tt }
passed_held (suc d) c low =
    let t : Tree d = passed_of d nowhere_below in
    let below : IsHeld d nowhere_below t = passed_held d nowhere_below (omega (arith, low)) in
    let fits : total_of d t < 256 ^ suc d = total_fits d nowhere_below t below (none_said d (omega (arith, low))) in
    record {
      shape = record { few = omega arith; children = refl; each = All-cons (IsShapedChild d) t [] (below.shape, fits) (All-nil (IsShapedChild d)) };
      total = refl;
      clean = refl;
      marked = (λ h. All-cons (λ (u : Tree d). clean_of d u ≡ true) t [] below.clean (All-nil (λ (u : Tree d). clean_of d u ≡ true)), All-cons (IsMarked d) t [] below.marked (All-nil (IsMarked d)));
    }

pub leaf_held : (b : List ℕ) (at n : ℕ) (c : ChildFields) (needed : Bool) (t : Tree zero) → n ≡ c.records → c.records ≤ capacity_of zero → IsLeafIn (btlf_at b at n) c needed t → IsHeld zero c t
leaf_held b at n c needed t e few (inl leaf) =
    let long = leaf_count b at n t.records leaf.records ∙ e in
    record { shape = subst (λ (k : ℕ). k ≤ capacity_of zero) (sym long) few; total = tt; clean = leaf.clean; marked = tt }
leaf_held b at n c needed t e few (inr p) = subst (IsHeld zero c) (sym p.1.1) (passed_held zero c (omega arith))

-- one more child
pub whole_more : (d : ℕ) (ts : List (Tree d)) (c : ChildFields) (t : Tree d) → AreWhole d ts → IsChild d c → IsHeld d c t → AreWhole d (ts ++ t ∷ [])
whole_more d ts c t w is h = record {
  shapes = behind (IsShapedChild d) ts t w.shapes (h.shape, total_fits d c t h is.fits);
  clean = behind (λ (u : Tree d). clean_of d u ≡ true) ts t w.clean h.clean;
  marked = behind (IsMarked d) ts t w.marked h.marked;
}
  where
    behind : {A : Type 0} (P : A → Type 0) (xs : List A) (x : A) → All P xs → P x → All P (xs ++ x ∷ [])
    behind P [] x all p = All-cons P x [] p (All-nil P)
    behind P (y ∷ xs) x all p = All-cons P y (xs ++ x ∷ []) (All-head P y xs all) (behind P xs x (All-tail P y xs all) p)

pub none_whole : (d : ℕ) → AreWhole d []
none_whole d = record { shapes = All-nil (IsShapedChild d); clean = All-nil (λ (t : Tree d). clean_of d t ≡ true); marked = All-nil (IsMarked d) }

pub counted_held : (d : ℕ) (c : ChildFields) (t : Tree d) → IsHeld d c t → IsHeld d (with_total c (told_under d (counted_node d t))) (counted_node d t)
counted_held zero c t h = record { shape = h.shape; total = tt; clean = h.clean; marked = h.marked }
counted_held (suc d) c t h = record { shape = record { few = h.shape.few; children = h.shape.children; each = h.shape.each }; total = refl; clean = h.clean; marked = h.marked }

pub counted_opened : (img : List ℕ) (d : ℕ) (c : ChildFields) (s : Option Span) (t : Tree d) → IsOpened img d c s t → IsOpened img d (with_total c (told_under d (counted_node d t))) s (counted_node d t)
counted_opened img zero c s t (inl leaf) = inl (record { records = leaf.records; place = leaf.place; clean = leaf.clean })
counted_opened img zero c s t (inr p) = inr (record { fault = p.fault; refused = p.refused; unneeded = p.unneeded; is = p.is })
counted_opened img (suc d) c s t (inl inner) =
    inl (record { fields = inner.fields; reads = inner.reads; records = inner.records; children = inner.children; total = refl; place = inner.place; clean = inner.clean })
counted_opened img (suc d) c s t (inr p) =
    let is : counted_node (suc d) t ≡ passed_of (suc d) (with_total c (told_under (suc d) (counted_node (suc d) t))) =
    subst (λ (u : Tree (suc d)). counted_node (suc d) u ≡ passed_of (suc d) (with_total c (told_under (suc d) (counted_node (suc d) u)))) (sym p.is) refl in
    inr (record { fault = p.fault; refused = p.refused; unneeded = p.unneeded; is = is })
