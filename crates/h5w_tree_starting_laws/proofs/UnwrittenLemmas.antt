-- A tree of which no node was ever written.
use Rattle.std.proofs.Common.{◌≡◌, ℕ, zero, suc, ◌≤◌, false, eqb, List, [], ◌∷◌, ◌++◌, flat_map, length, refl, sym, ap, subst, ◌∙◌, inl, inr, arith, sum_by}
use Rattle.std.specs.List.{All}
use Rattle.std.proofs.lemmas.Bool.{cases_Bool, cond-false, eqb-true, both_ways}
use Rattle.std.proofs.lemmas.List.Elements.{All-head, All-tail}
use Rattle.std.proofs.lemmas.List.Sums.{sum_by-cons}
use Rattle.h5w_model.specs.Numbers.{undefined}
use Rattle.h5w_model.specs.Findings.{Used}
use Rattle.h5w_space.specs.Space.{Space}
use Rattle.h5w_cache.specs.Plans.{AreRetired, Retires}
use Rattle.h5w_cache.specs.declared.moves.Move.{Move}
use Rattle.h5w_bt_nodes.specs.Nodes.{Tree, records_of}
use Rattle.h5w_bt_index.specs.Marks.{IsCleanPart, Part, Some_of, clean_of}
use Rattle.h5w_bt_index.specs.Sound.{AtLeast, two_fifths}
use Rattle.h5w_bt_index.specs.Index.{Index}
use Rattle.h5w_bt_nodes.specs.Blocks.{stood}
use Rattle.h5w_bt_index.specs.Plans.{olds}
use Rattle.h5w_bt_index.proofs.Laws.{index_shaped, inserted-clean}
use Rattle.h5w_bt_nodes.proofs.Placed.{either}
use Rattle.h5w_tree_index_laws.specs.TreeImages.{blank, nodes_weigh, own_range, node_range}
use Rattle.h5w_tree_index_laws.proofs.TreeMapLemmas.{inserted_renews}
use Rattle.h5w_tree_starting_laws.specs.TreeStarting.{IsUnwritten, UnwrittenLaws}

-- each of these places is undefined
abbrev pub AllUndefined : List ℕ → Type 0
AllUndefined [] = Unit {0}
AllUndefined (p ∷ ps) = (p ≡ undefined) × AllUndefined ps

undefined_both : (ps qs : List ℕ) → AllUndefined ps → AllUndefined qs → AllUndefined (ps ++ qs)
undefined_both [] qs a b = b
undefined_both (p ∷ ps) qs a b = (a.0, undefined_both ps qs a.1 b)

-- each range weighs one
abbrev count : Used → ℕ
count u = 1

own_undefined : (place : ℕ) → sum_by count (own_range place) ≡ 0 → place ≡ undefined
own_undefined place none = elim (cases_Bool (eqb place undefined)) [
  | inl e ↦ eqb-true place undefined e
  | inr e ↦
      let is : own_range place ≡ node_range place ∷ [] = cond-false (eqb place undefined) [] (node_range place ∷ []) e in
      absurd (omega (arith, none, ap (sum_by count) is, sum_by-cons count (node_range place) []))
]

each_undefined : (d : ℕ) (cs : List (Tree d)) → ((c : Tree d) → nodes_weigh count d c ≡ 0 → AllUndefined (stood d c)) → sum_by (nodes_weigh count d) cs ≡ 0 → AllUndefined (flat_map (stood d) cs)
each_undefined d [] k none = tt
each_undefined d (c ∷ cs) k none =
    let all = sum_by-cons (nodes_weigh count d) c cs in
    undefined_both (stood d c) (flat_map (stood d) cs) (k c (omega (arith, none, all))) (each_undefined d cs k (omega (arith, none, all)))

stood_undefined : (d : ℕ) (t : Tree d) → nodes_weigh count d t ≡ 0 → AllUndefined (stood d t)
stood_undefined zero t none = either AllUndefined t.clean [] (t.place ∷ []) (λ e. tt) (λ e. (own_undefined t.place none, tt))
stood_undefined (suc d) t none =
    either AllUndefined t.clean [] (flat_map (stood d) t.children ++ t.place ∷ []) (λ e. tt)
    (λ e. undefined_both (flat_map (stood d) t.children) (t.place ∷ []) (each_undefined d t.children (stood_undefined d) (omega (arith, none))) (own_undefined t.place (omega (arith, none)), tt))

pub unwritten_undefined : (v : Index) → IsUnwritten v → AllUndefined (stood v.depth v.root)
unwritten_undefined v u = stood_undefined v.depth v.root (u.places count)

-- so nothing is retired by a plan
retired_one : (s : Space) (m : Move) (t : Space) → m.old ≡ undefined → Retires s m t → t ≡ s
retired_one s m t none (inl left) = absurd ((left.0).0 none)
retired_one s m t none (inr stays) = stays.1

pub retired_none : (s : Space) (ms : List Move) (t : Space) → AllUndefined (olds ms) → AreRetired s ms t → t ≡ s
retired_none s [] t none h = h
retired_none s (m ∷ ms) t none h = retired_none h.0 ms t none.1 h.2 ∙ retired_one s m h.0 none.0 h.1

-- ---- Nodes without records

abbrev count_of : Part → ℕ
count_of p = length (records_of p.depth p.tree)

share_some : (d : ℕ) → d ≤ 3 → 1 ≤ two_fifths d
share_some zero h = omega arith
share_some (suc zero) h = omega arith
share_some (suc (suc zero)) h = omega arith
share_some (suc (suc (suc zero))) h = omega arith
share_some (suc (suc (suc (suc d)))) h = absurd (omega arith)

some_below : (d : ℕ) (p : Part) (cs : List (Tree d)) → ((c : Tree d) → AtLeast two_fifths d (two_fifths d) c → IsCleanPart p d c → 1 ≤ count_of p) → All (AtLeast two_fifths d (two_fifths d)) cs → Some_of (IsCleanPart p d) cs → 1 ≤ count_of p
some_below d p [] f l h = absurd h
some_below d p (c ∷ cs) f l (inl h) = f c (All-head (AtLeast two_fifths d (two_fifths d)) c cs l) h
some_below d p (c ∷ cs) f l (inr h) = some_below d p cs f (All-tail (AtLeast two_fifths d (two_fifths d)) c cs l) h

part_some : (d least : ℕ) (t : Tree d) (p : Part) → d ≤ 3 → 1 ≤ least → AtLeast two_fifths d least t → IsCleanPart p d t → 1 ≤ count_of p
part_some zero least t p low some l c = subst (λ (q : Part). 1 ≤ count_of q) (sym c.1) (omega (arith, some, l))
part_some (suc d) least t p low some l (inl c) = subst (λ (q : Part). 1 ≤ count_of q) (sym c.1) (omega (arith, some, l.0))
part_some (suc d) least t p low some l (inr c) =
    some_below d p t.children (λ u k h. part_some d (two_fifths d) u p (omega (arith, low)) (share_some d (omega (arith, low))) k h) l.1 c

-- of a tree whose root changed no clean node is without records
pub no_blank : (d : ℕ) (t : Tree d) (p : Part) → d ≤ 3 → AtLeast two_fifths d 0 t → clean_of d t ≡ false → IsCleanPart p d t → p ≡ blank → ⊥
no_blank zero t p low l e c is = both_ways t.clean e c.0
no_blank (suc d) t p low l e (inl c) is = both_ways t.clean e c.0
no_blank (suc d) t p low l e (inr c) is =
    let some : 1 ≤ count_of p = some_below d p t.children (λ u k h. part_some d (two_fifths d) u p (omega (arith, low)) (share_some d (omega (arith, low))) k h) l.1 c in
    let none : count_of p ≡ 0 = ap count_of is in
    absurd (omega (arith, some, none))

pub unwritten_laws : UnwrittenLaws
unwritten_laws = record {
  none = record { places = λ f. refl; clean = λ p clean. clean.1 };
  inserted = λ x v i j u. record { places = λ f. (inserted_renews x v i j).nodes f ∙ u.places f; clean = λ p c. u.clean p (inserted-clean p x v (index_shaped v i) c) };
}
