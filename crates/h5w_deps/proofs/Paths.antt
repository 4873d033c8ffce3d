-- Ways up the edges, and what one more edge adds to them.
use Rattle.std.proofs.Common.{◌≡◌, ℕ, Bool, true, false, cond, ◌⊎◌, List, [], ◌∷◌, ◌++◌, sym, ap, subst, inl, inr}
use Rattle.std.specs.List.{Contains, filter}
use Rattle.std.proofs.lemmas.List.Elements.{Contains-append_left, Contains-append_right, Contains-append_cases, Contains-push_cases}
use Rattle.h5w_deps.specs.declared.Edge.{Edge}
use Rattle.h5w_deps.specs.Edges.{edge, Reaches, here, up, IsAcyclic}

-- one way after another
pub Reaches-joined : {edges : List Edge} {a b c : ℕ} → Reaches edges a b → Reaches edges b c → Reaches edges a c
Reaches-joined (here _) r = r
Reaches-joined (up a b _ e s) r = up a b _ e (Reaches-joined s r)

-- more edges, more ways
pub Reaches-more : {fewer more : List Edge} {a b : ℕ} → ((e : Edge) → Contains fewer e → Contains more e) → Reaches fewer a b → Reaches more a b
Reaches-more f (here a) = here a
Reaches-more f (up a b c e s) = up a b c (f (edge a b) e) (Reaches-more f s)

pub IsAcyclic-fewer : (fewer more : List Edge) → ((e : Edge) → Contains fewer e → Contains more e) → IsAcyclic more → IsAcyclic fewer
IsAcyclic-fewer fewer more f h = record { no_way_back = λ a b e r. h.no_way_back a b (f (edge a b) e) (Reaches-more f r) }

-- a way with the new edge goes without it, or up to its child and on from its parent
pub Reaches-split : {edges : List Edge} (c p : ℕ) {x y : ℕ} → Reaches (edges ++ edge c p ∷ []) x y → Reaches edges x y ⊎ Reaches edges x c × Reaches edges p y
Reaches-split c p (here a) = inl (here a)
Reaches-split {edges} c p (up a b y e s) =
    elim (Contains-push_cases edges (edge c p) (edge a b) e) [
      | inl old ↦
          elim (Reaches-split c p s) [
            | inl r ↦ inl (up a b y old r)
            | inr r ↦ inr (up a b c old r.0, r.1)
          ]
      | inr new ↦
          let child : c ≡ a = ap (λ (v : Edge). v.child) new in
          let parent : p ≡ b = ap (λ (v : Edge). v.parent) new in
          let first : Reaches edges a c = subst (λ v. Reaches edges a v) (sym child) (here a) in
          elim (Reaches-split c p s) [
            | inl r ↦ inr (first, subst (λ v. Reaches edges v y) (sym parent) r)
            | inr r ↦ inr (first, r.1)
          ]
    ]

-- an edge over which one does not come back closes no cycle
pub IsAcyclic-push : (edges : List Edge) (c p : ℕ) → IsAcyclic edges → (Reaches edges p c → ⊥) → IsAcyclic (edges ++ edge c p ∷ [])
IsAcyclic-push edges c p h apart = record { no_way_back = λ a b e r. back a b e r }
  where
    one : (a b : ℕ) → Contains edges (edge a b) → Reaches edges a b
    one a b e = up a b b e (here b)

    back : (a b : ℕ) → Contains (edges ++ edge c p ∷ []) (edge a b) → Reaches (edges ++ edge c p ∷ []) b a → ⊥
    back a b e r =
        elim (Contains-push_cases edges (edge c p) (edge a b) e) [
          | inl old ↦
              elim (Reaches-split c p r) [
                | inl s ↦ h.no_way_back a b old s
                | inr s ↦ apart (Reaches-joined s.1 (Reaches-joined (one a b old) s.0))
              ]
          | inr new ↦
              let child : c ≡ a = ap (λ (v : Edge). v.child) new in
              let parent : p ≡ b = ap (λ (v : Edge). v.parent) new in
              elim (Reaches-split c p r) [
                | inl s ↦ apart (subst (λ v. Reaches edges v c) (sym parent) (subst (λ v. Reaches edges b v) (sym child) s))
                | inr s ↦ apart (subst (λ v. Reaches edges v c) (sym parent) s.0)
              ]
        ]

-- what a filter keeps was there
pub Contains-filter : {X : Type 0} (test : X → Bool) (xs : List X) (x : X) → Contains (filter test xs) x → Contains xs x
Contains-filter test [] x h = h
Contains-filter test (y ∷ ys) x h = go (Contains-filter test ys x) (test y) h
  where
    go : (Contains (filter test ys) x → Contains ys x) → (b : Bool) → Contains (cond b (y ∷ filter test ys) (filter test ys)) x → Contains (y ∷ ys) x
    go rest true h =
        elim (Contains-append_cases (y ∷ []) (filter test ys) x h) [
          | inl c ↦ Contains-append_left (y ∷ []) ys x c
          | inr c ↦ Contains-append_right (y ∷ []) ys x (rest c)
        ]
    go rest false h = Contains-append_right (y ∷ []) ys x (rest h)
