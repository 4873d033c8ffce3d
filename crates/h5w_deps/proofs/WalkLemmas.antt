-- A walk up the edges that notes each block once, and what it has reached once none is left to visit.
use Rattle.std.proofs.Common.{◌≡◌, ℕ, zero, suc, ◌+◌, ◌<◌, ◌≤◌, ◌^◌, Bool, true, false, cond, nat_eq, ◌||◌, List, [], ◌∷◌, ◌++◌, length, get_or, refl, sym, ap, subst, ◌∙◌, inl, inr, arith, length-append, append_assoc}
use Rattle.std.specs.Cmp.{nat_eq_equiv}
use Rattle.std.specs.List.{All, Contains, IsDistinct, list_any}
use Rattle.std.proofs.lemmas.Bool.{cases_lt, eqb-true}
use Rattle.std.proofs.lemmas.List.{append-nil, get_or_append_left}
use Rattle.std.proofs.lemmas.List.Elements.{All-nil, All-push, All-append, All-weaker, All-contains, Contains-append_left, Contains-append_right, Contains-push, Contains-push_cases, Contains-get_or}
use Rattle.std.proofs.lemmas.Map.Keys.{IsDistinct-push}
use Rattle.std.proofs.lemmas.Map.Steps.{length-le_from_distinct_below}
use Rattle.h5w_deps.specs.declared.Edge.{Edge}
use Rattle.h5w_deps.specs.Edges.{edge, Reaches, here, up}
use Rattle.h5w_deps.specs.Walk.{Follows, noted}
use Rattle.h5w_deps.proofs.Paths.{Reaches-joined}

-- ---- One block noted

pub Contains-from_any : (xs : List ℕ) (q : ℕ) → list_any (nat_eq q) xs ≡ true → Contains xs q
Contains-from_any [] q h = absurd cc
Contains-from_any (x ∷ xs) q h = go (Contains-from_any xs q) (nat_eq q x) refl h
  where
    go : (list_any (nat_eq q) xs ≡ true → Contains xs q) → (b : Bool) → nat_eq q x ≡ b → (b || list_any (nat_eq q) xs) ≡ true → Contains (x ∷ xs) q
    go rest true e h = (0, omega arith, sym (eqb-true q x e))
    go rest false e h = Contains-append_right (x ∷ []) xs q (rest h)

-- what noting a block does to the list
pub record IsNoted (old new : List ℕ) (block : ℕ) : Type 0 where
  pub added : List ℕ
  pub grown : new ≡ old ++ added
  pub only : All (λ p. p ≡ block) added
  pub there : Contains new block
  pub once : IsDistinct nat_eq old → IsDistinct nat_eq new

pub IsNoted-noted : (old : List ℕ) (block : ℕ) → IsNoted old (noted old block) block
IsNoted-noted old block = go (list_any (nat_eq block) old) refl
  where
    go : (b : Bool) → list_any (nat_eq block) old ≡ b → IsNoted old (cond b old (old ++ block ∷ [])) block
    go true e = record { added = []; grown = sym (append-nil old); only = All-nil (λ p. p ≡ block); there = Contains-from_any old block e; once = λ d. d }
    go false e = record {
      added = block ∷ [];
      grown = refl;
      only = All-push (λ p. p ≡ block) [] block (All-nil (λ p. p ≡ block)) refl;
      there = Contains-push old block;
      once = λ d. IsDistinct-push nat_eq_equiv old block d e;
    }

-- ---- The parents of one block

pub Follows-other : (edges : List Edge) (e : Edge) (block : ℕ) (old new : List ℕ) → (e.child ≡ block → ⊥) → Follows edges block old new → Follows (edges ++ e ∷ []) block old new
Follows-other edges e block old new other f = record {
  added = f.added;
  grown = f.grown;
  parents = All-weaker (λ p. Contains edges (edge block p)) (λ p. Contains (edges ++ e ∷ []) (edge block p)) (λ p. Contains-append_left edges (e ∷ []) (edge block p)) f.added f.parents;
  below = f.below;
  whole = λ p c. elim (Contains-push_cases edges e (edge block p) c) [
    | inl there ↦ f.whole p there
    | inr is ↦ absurd (other (ap (λ (v : Edge). v.child) is))
  ];
  once = f.once;
}

pub Follows-parent : (edges : List Edge) (e : Edge) (block : ℕ) (old new : List ℕ) → e.child ≡ block → e.parent < 2 ^ 32 → Follows edges block old new → Follows (edges ++ e ∷ []) block old (noted new e.parent)
Follows-parent edges e block old new child fits f =
    let n = IsNoted-noted new e.parent in
    let is : e ≡ edge block e.parent = λ i. record { child = child i; parent = e.parent } in
    let here : (p : ℕ) → p ≡ e.parent → Contains (edges ++ e ∷ []) (edge block p) = λ p q. subst (λ v. Contains (edges ++ e ∷ []) (edge block v)) (sym q) (subst (λ v. Contains (edges ++ e ∷ []) v) is (Contains-push edges e)) in
    record {
      added = f.added ++ n.added;
      grown = n.grown ∙ ap (λ l. l ++ n.added) f.grown ∙ append_assoc old f.added n.added;
      parents = All-append (λ p. Contains (edges ++ e ∷ []) (edge block p)) f.added n.added
          (All-weaker (λ p. Contains edges (edge block p)) (λ p. Contains (edges ++ e ∷ []) (edge block p)) (λ p. Contains-append_left edges (e ∷ []) (edge block p)) f.added f.parents)
          (All-weaker (λ p. p ≡ e.parent) (λ p. Contains (edges ++ e ∷ []) (edge block p)) here n.added n.only);
      below = All-append (λ p. p < 2 ^ 32) f.added n.added f.below (All-weaker (λ p. p ≡ e.parent) (λ p. p < 2 ^ 32) (λ p q. omega (arith, fits)) n.added n.only);
      whole = λ p c. elim (Contains-push_cases edges e (edge block p) c) [
        | inl there ↦ subst (λ l. Contains l p) (sym n.grown) (Contains-append_left new n.added p (f.whole p there))
        | inr q ↦ subst (λ v. Contains (noted new e.parent) v) (ap (λ (v : Edge). v.parent) q) n.there
      ];
      once = λ d. n.once (f.once d);
    }

-- ---- The walk

-- the blocks that were reached, of which the first ones, as many as `next`, were visited
pub record IsWalked (edges : List Edge) (from to : ℕ) (reached : List ℕ) (next : ℕ) : Type 0 where
  pub begins : Contains reached from
  pub reaches : All (λ x. Reaches edges from x) reached
  pub once : IsDistinct nat_eq reached
  pub below : All (λ x. x < 2 ^ 32) reached
  pub inside : next ≤ length reached
  pub followed : (i p : ℕ) → i < next → Contains edges (edge (get_or reached i 0) p) → Contains reached p
  pub passed : (i : ℕ) → i < next → get_or reached i 0 ≡ to → ⊥

pub IsWalked-none : (edges : List Edge) (from to : ℕ) → from < 2 ^ 32 → IsWalked edges from to (from ∷ []) 0
unfolding IsDistinct
IsWalked-none edges from to fits = record {
  begins = Contains-push [] from;
  reaches = All-push (λ x. Reaches edges from x) [] from (All-nil (λ x. Reaches edges from x)) (here from);
  once = IsDistinct-push nat_eq_equiv [] from tt refl;
  below = All-push (λ x. x < 2 ^ 32) [] from (All-nil (λ x. x < 2 ^ 32)) fits;
  inside = omega arith;
  followed = λ i p h c. absurd (omega (arith, h));
  passed = λ i h e. omega (arith, h);
}

pub IsWalked-more : (edges : List Edge) (from to : ℕ) (reached new : List ℕ) (next : ℕ) → IsWalked edges from to reached next → next < length reached →
    (get_or reached next 0 ≡ to → ⊥) → Follows edges (get_or reached next 0) reached new → IsWalked edges from to new (next + 1)
IsWalked-more edges from to reached new next w inside other f =
    let block : ℕ = get_or reached next 0 in
    let there : Reaches edges from block = All-contains (λ x. Reaches edges from x) reached block w.reaches (Contains-get_or reached next 0 inside) in
    let same : (i : ℕ) → i < length reached → get_or new i 0 ≡ get_or reached i 0 = λ i h. ap (λ l. get_or l i 0) f.grown ∙ get_or_append_left reached f.added 0 i h in
    let keeps : (p : ℕ) → Contains reached p → Contains new p = λ p c. subst (λ l. Contains l p) (sym f.grown) (Contains-append_left reached f.added p c) in
    record {
      begins = keeps from w.begins;
      reaches = subst (λ l. All (λ x. Reaches edges from x) l) (sym f.grown) (All-append (λ x. Reaches edges from x) reached f.added w.reaches
          (All-weaker (λ p. Contains edges (edge block p)) (λ x. Reaches edges from x) (λ p c. Reaches-joined there (up block p p c (here p))) f.added f.parents));
      once = f.once w.once;
      below = subst (λ l. All (λ x. x < 2 ^ 32) l) (sym f.grown) (All-append (λ x. x < 2 ^ 32) reached f.added w.below f.below);
      inside = omega (arith, ap length f.grown, length-append reached f.added);
      followed = λ i p h c. elim (cases_lt i next) [
        | inl before ↦ keeps p (w.followed i p before (subst (λ v. Contains edges (edge v p)) (same i (omega (arith, inside, before))) c))
        | inr behind ↦
            let is : i ≡ next = omega (arith, h, behind) in
            f.whole p (subst (λ v. Contains edges (edge v p)) (ap (λ k. get_or new k 0) is ∙ same next inside) c)
      ];
      passed = λ i h e. elim (cases_lt i next) [
        | inl before ↦ w.passed i before (sym (same i (omega (arith, inside, before))) ∙ e)
        | inr behind ↦
            let is : i ≡ next = omega (arith, h, behind) in
            other (sym (ap (λ k. get_or new k 0) is ∙ same next inside) ∙ e)
      ];
    }

pub get_or-any : (xs : List ℕ) (i d e : ℕ) → i < length xs → get_or xs i d ≡ get_or xs i e
get_or-any [] i d e h = absurd (omega arith)
get_or-any (x ∷ xs) zero d e h = refl
get_or-any (x ∷ xs) (suc i) d e h = get_or-any xs i d e (omega arith)

-- once all were visited, each block to which one comes was reached
closed : {edges : List Edge} {from to : ℕ} {reached : List ℕ} {next : ℕ} → IsWalked edges from to reached next → length reached ≤ next → {x y : ℕ} → Contains reached x → Reaches edges x y → Contains reached y
closed w whole c (here _) = c
closed {edges} {from} {to} {reached} {next} w whole c (up a b y e s) =
    let place : get_or reached c.0 0 ≡ a = get_or-any reached c.0 0 a c.1 ∙ c.2 in
    closed w whole (w.followed c.0 b (omega (arith, c.1, whole)) (subst (λ v. Contains edges (edge v b)) (sym place) e)) s

pub IsWalked-not_found : (edges : List Edge) (from to : ℕ) (reached : List ℕ) (next : ℕ) → IsWalked edges from to reached next → length reached ≤ next → Reaches edges from to → ⊥
IsWalked-not_found edges from to reached next w whole r =
    let c : Contains reached to = closed w whole w.begins r in
    w.passed c.0 (omega (arith, c.1, whole)) (get_or-any reached c.0 0 to c.1 ∙ c.2)

-- numbers of 32 bits, none of them twice, are at most 2^32
pub IsWalked-few : (edges : List Edge) (from to : ℕ) (reached : List ℕ) (next : ℕ) → IsWalked edges from to reached next → length reached ≤ 2 ^ 32
IsWalked-few edges from to reached next w =
    length-le_from_distinct_below reached (2 ^ 32) w.once (λ q h. All-contains (λ x. x < 2 ^ 32) reached q w.below (Contains-from_any reached q h))
