-- A root has a record too many only where each node on the way was full and the key had no record.
use Rattle.std.proofs.Common.{◌≡◌, ℕ, zero, suc, ◌+◌, ◌<◌, ◌≤◌, Bool, true, false, length, refl, ap, ◌∙◌, arith, Some, None, slice_get, eqb, eq-eqb}
use Rattle.std.proofs.lemmas.Bool.{ltb-true, and_from}
use Rattle.std.proofs.lemmas.List.Edits.{length-insert}
use Rattle.h5w_model.specs.declared.cell.Key.{Key}
use Rattle.h5w_model.specs.Trees.{capacity_of}
use Rattle.h5w_bt.specs.declared.records.Record.{Record}
use Rattle.h5w_bt_nodes.specs.Nodes.{Tree, records_of, rank, address_in, found}
use Rattle.h5w_bt_nodes.specs.Puts.{put_record, put, settled, is_over, middle_of, is_full_path}
use Rattle.h5w_bt_nodes.specs.Shapes.{IsShape}
use Rattle.h5w_bt_nodes.proofs.Records.{put-longer, put-as_long}
use Rattle.h5w_bt_nodes.proofs.Places.{there_is, get-changed}
use Rattle.h5w_bt_nodes.proofs.Steps.{settled_over, settled_not, went_down, put_here, put_below, found_below, full_below, rank-inside, there, not_there, is_there}
use Rattle.h5w_bt_nodes.proofs.Parts.{put-at_most}
use Rattle.h5w_bt_nodes.proofs.Shapes.{shape_at}

-- the child on the way, before and after
pub record OnTheWay (d : ℕ) (x : Record) (t : Tree (suc d)) : Type 0 where
  pub child : Tree d
  pub before : slice_get t.children (rank x.key t.records) ≡ Some child
  pub after : slice_get (went_down d x t).children (rank x.key t.records) ≡ Some (put d x child)
  pub shape : IsShape d (capacity_of d) child

pub on_the_way : (d : ℕ) (x : Record) (t : Tree (suc d)) → IsShape (suc d) (capacity_of (suc d)) t → OnTheWay d x t
on_the_way d x t s =
    let (c, e) = there_is t.children (rank x.key t.records) (omega (arith, s.children, rank-inside x.key t.records)) in
    record {
      child = c;
      before = e;
      after = get-changed (rank x.key t.records) (put d x) t.children c e;
      shape = shape_at d t.children (rank x.key t.records) c s.each e;
    }

-- a root has at most one record more
pub put-one_more : (d : ℕ) (x : Record) (t : Tree d) → IsShape d (capacity_of d) t → length (records_of d (put d x t)) ≤ length (records_of d t) + 1
put-one_more zero x t s = put-at_most x t.records
put-one_more (suc d) x t s = elim (is_there x.key t.records) [
  | there a e ↦ omega (arith, ap (λ (u : Tree (suc d)). length u.records) (put_here d x a t e), put-as_long x t.records a e)
  | not_there e ↦ (let w = on_the_way d x t s in go w (is_over d (put d x w.child)) refl (ap (λ (u : Tree (suc d)). length u.records) (put_below d x t e)))
]
  where
    go : (w : OnTheWay d x t) → (o : Bool) → is_over d (put d x w.child) ≡ o →
        length (put (suc d) x t).records ≡ length (settled d (rank x.key t.records) (went_down d x t)).records → length (put (suc d) x t).records ≤ length t.records + 1
    go w true o e = omega (
      arith,
      e,
      ap (λ (u : Tree (suc d)). length u.records) (settled_over d (rank x.key t.records) (went_down d x t) (put d x w.child) w.after o),
      length-insert t.records (rank x.key t.records) (middle_of d (put d x w.child)) (rank-inside x.key t.records),
    )
    go w false o e = omega (arith, e, ap (λ (u : Tree (suc d)). length u.records) (settled_not d (rank x.key t.records) (went_down d x t) (put d x w.child) w.after o))

pub record IsBlocked (d : ℕ) (key : Key) (t : Tree d) : Type 0 where
  pub full : is_full_path d key t ≡ true
  pub absent : found d key t ≡ None

pub over-blocked : (d : ℕ) (x : Record) (t : Tree d) → IsShape d (capacity_of d) t → is_over d (put d x t) ≡ true → IsBlocked d x.key t
over-blocked zero x t s o = elim (is_there x.key t.records) [
  | there a e ↦ absurd (omega (arith, ltb-true (capacity_of zero) (length (put_record x t.records)) o, put-as_long x t.records a e, s))
  | not_there e ↦ record {
    full = eq-eqb (length t.records) (capacity_of zero) (omega (arith, ltb-true (capacity_of zero) (length (put_record x t.records)) o, put-longer x t.records e, s));
    absent = e;
  }
]
over-blocked (suc d) x t s o = elim (is_there x.key t.records) [
  | there a e ↦ absurd (omega (arith, ltb-true (capacity_of (suc d)) (length (put (suc d) x t).records) o, ap (λ (u : Tree (suc d)). length u.records) (put_here d x a t e), put-as_long x t.records a e, s.few))
  | not_there e ↦ (let w = on_the_way d x t s in
      go w e (over-blocked d x w.child w.shape) (is_over d (put d x w.child)) refl (ap (λ (u : Tree (suc d)). length u.records) (put_below d x t e))
      (ltb-true (capacity_of (suc d)) (length (put (suc d) x t).records) o))
]
  where
    go : (w : OnTheWay d x t) → address_in x.key t.records ≡ None → (is_over d (put d x w.child) ≡ true → IsBlocked d x.key w.child) →
        (q : Bool) → is_over d (put d x w.child) ≡ q →
        length (put (suc d) x t).records ≡ length (settled d (rank x.key t.records) (went_down d x t)).records →
        capacity_of (suc d) < length (put (suc d) x t).records → IsBlocked (suc d) x.key t
    go w e ih true q n lt =
        let b = ih q in
        let l : length t.records ≡ capacity_of (suc d) =
        omega (
          arith,
          n,
          lt,
          s.few,
          ap (λ (u : Tree (suc d)). length u.records) (settled_over d (rank x.key t.records) (went_down d x t) (put d x w.child) w.after q),
          length-insert t.records (rank x.key t.records) (middle_of d (put d x w.child)) (rank-inside x.key t.records),
        ) in
        record {
          full = full_below d x.key t w.child w.before ∙ and_from (eqb (length t.records) (capacity_of (suc d))) (is_full_path d x.key w.child) (eq-eqb (length t.records) (capacity_of (suc d)) l) b.full;
          absent = found_below d x.key t w.child e w.before ∙ b.absent;
        }
    go w e ih false q n lt =
        absurd (omega (arith, n, lt, s.few, ap (λ (u : Tree (suc d)). length u.records) (settled_not d (rank x.key t.records) (went_down d x t) (put d x w.child) w.after q)))
