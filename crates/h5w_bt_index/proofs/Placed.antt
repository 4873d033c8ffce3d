-- A tree whose changed nodes got new places.
use Rattle.std.proofs.Common.{◌≡◌, ℕ, zero, suc, ◌+◌, ◌≤◌, true, List, [], length, map, refl, sym, ap, subst, ◌∙◌}
use Rattle.std.proofs.lemmas.Bool.{cond-true}
use Rattle.h5w_bt.specs.declared.records.Record.{Record}
use Rattle.h5w_bt_nodes.specs.Nodes.{Tree, all_records, joined, total_of}
use Rattle.h5w_bt_index.specs.Sound.{AtLeast, IsRising, IsSound}
use Rattle.h5w_bt_index.specs.Marks.{IsMarked, clean_of}
use Rattle.h5w_bt_index.specs.Index.{Index, KeepsShares, IsIndex, IsShaped, records}
use Rattle.h5w_bt_nodes.specs.Blocks.{changes, placed, stood}
use Rattle.h5w_bt_index.specs.Plans.{planned}
use Rattle.h5w_bt_nodes.proofs.Placed.{each_all, each_any, each_length, each_map, each_sum, either, placed_own, placed_shape, placed_total}

-- ---- What stays

pub placed_records : (d : ℕ) (ps : List ℕ) (t : Tree d) → all_records d (placed d ps t) ≡ all_records d t
placed_records zero ps t = placed_own zero ps t
placed_records (suc d) ps t =
    either (λ (u : Tree (suc d)). joined u.records (map (all_records d) u.children) ≡ joined t.records (map (all_records d) t.children)) t.clean _ _ (λ e. refl)
    (λ e. ap (joined t.records) (each_map (all_records d) (placed d) (changes d) ps t.children (placed_records d)))

pub placed_sound : (d m : ℕ) (ps : List ℕ) (t : Tree d) → IsSound d m t → IsSound d m (placed d ps t)
placed_sound zero m ps t s = subst (λ (l : List Record). length l ≤ m) (sym (placed_own zero ps t)) s
placed_sound (suc d) m ps t s =
    either (IsSound (suc d) m) t.clean _ _ (λ e. s) (λ e. record {
      few = s.few;
      children = each_length (placed d) (changes d) ps t.children ∙ s.children;
      total = s.total ∙ ap (λ (n : ℕ). length t.records + n) (sym (each_sum (total_of d) (placed d) (changes d) ps t.children (placed_total d)));
      each = each_all (IsSound d _) (IsSound d _) (placed d) (changes d) ps t.children (λ qs c p. placed_sound d _ qs c p) s.each;
    })

pub placed_least : (share : ℕ → ℕ) (d least : ℕ) (ps : List ℕ) (t : Tree d) → AtLeast share d least t → AtLeast share d least (placed d ps t)
placed_least share zero least ps t s = subst (λ (l : List Record). least ≤ length l) (sym (placed_own zero ps t)) s
placed_least share (suc d) least ps t s =
    either (AtLeast share (suc d) least) t.clean _ _ (λ e. s)
    (λ e. (s.0, each_all (AtLeast share d _) (AtLeast share d _) (placed d) (changes d) ps t.children (λ qs c p. placed_least share d _ qs c p) s.1))

-- ---- What is clean

pub placed_clean : (d : ℕ) (ps : List ℕ) (t : Tree d) → clean_of d (placed d ps t) ≡ true
placed_clean zero ps t = either (λ (u : Tree zero). u.clean ≡ true) t.clean _ _ (λ e. e) (λ e. refl)
placed_clean (suc d) ps t = either (λ (u : Tree (suc d)). u.clean ≡ true) t.clean _ _ (λ e. e) (λ e. refl)

pub clean_stood : (d : ℕ) (t : Tree d) → clean_of d t ≡ true → stood d t ≡ []
clean_stood zero t e = cond-true t.clean _ _ e
clean_stood (suc d) t e = cond-true t.clean _ _ e

pub placed_stood : (d : ℕ) (ps : List ℕ) (t : Tree d) → stood d (placed d ps t) ≡ []
placed_stood d ps t = clean_stood d (placed d ps t) (placed_clean d ps t)

pub placed_marked : (d : ℕ) (ps : List ℕ) (t : Tree d) → IsMarked d t → IsMarked d (placed d ps t)
placed_marked zero ps t m = tt
placed_marked (suc d) ps t m =
    either (IsMarked (suc d)) t.clean _ _ (λ e. m) (λ e. (
      λ k. each_any (λ (c : Tree d). clean_of d c ≡ true) (placed d) (changes d) ps t.children (placed_clean d),
      each_all (IsMarked d) (IsMarked d) (placed d) (changes d) ps t.children (placed_marked d) m.1,
    ))

-- ---- The index

pub planned_records : (ps : List ℕ) (v : Index) → records (planned ps v) ≡ records v
planned_records ps v = placed_records v.depth ps v.root

pub planned_index : (ps : List ℕ) (v : Index) → IsIndex v → IsIndex (planned ps v)
planned_index ps v i = record {
  shallow = i.shallow;
  sound = placed_sound v.depth _ ps v.root i.sound;
  rises = subst IsRising (sym (planned_records ps v)) i.rises;
  marked = placed_marked v.depth ps v.root i.marked;
}

pub planned_shaped : (ps : List ℕ) (v : Index) → IsShaped v → IsShaped (planned ps v)
planned_shaped ps v i = record {
  shallow = i.shallow;
  shape = placed_shape v.depth _ ps v.root i.shape;
  marked = placed_marked v.depth ps v.root i.marked;
}

pub planned_shares : (ps : List ℕ) (v : Index) → KeepsShares v (planned ps v)
planned_shares ps v share f h = placed_least share v.depth 0 ps v.root h
