-- What is kept under each number, where it stands and whether it is changed, after a change of a store.
use Rattle.std.proofs.Common.{◌≡◌, ◌≢◌, inl, inr, ℕ, ◌+◌, ◌<◌, List, [], ◌∷◌, ◌++◌, length, get_or, true, false, refl, sym, ap, subst, ◌∙◌, arith}
use Rattle.std.proofs.Math.ListN.{set}
use Rattle.std.proofs.lemmas.List.{get_or-set_same, get_or-set_other}
use Rattle.std.proofs.lemmas.List.Sums.{sum_by-append}
use Rattle.std.proofs.lemmas.Bool.{cases_eq, cases_Bool}
use Rattle.std.proofs.lemmas.Bool.Decides.{nat_tests}
use Rattle.std.specs.Prelude.{Option, Some, None, cond, nat_lt, ◌==◌}
use Rattle.h5w_model.specs.Numbers.{undefined}
use Rattle.h5w_cache.specs.Blocks.{BlockView}
use Rattle.h5w_cache.specs.Stores.{Store, is_listed, times, marked}
use Rattle.h5w_cache.proofs.PlannedLemmas.{times-same, times-other}

-- ---- Marks

pub times-push : (n m : ℕ) (c : List ℕ) → times n (c ++ m ∷ []) ≡ times n c + times n (m ∷ [])
times-push n m c = sum_by-append (λ (k : ℕ). cond (k == n) 1 0) c (m ∷ [])

pub listed-some : (n : ℕ) (c : List ℕ) → is_listed n c ≡ true → 0 < times n c
listed-some n c h = grind (arith, nat_tests)

pub listed-none : (n : ℕ) (c : List ℕ) → is_listed n c ≡ false → times n c ≡ 0
listed-none n c h = grind (arith, nat_tests)

pub some-listed : (n : ℕ) (c : List ℕ) → 0 < times n c → is_listed n c ≡ true
some-listed n c h = grind (arith, nat_tests)

pub none-listed : (n : ℕ) (c : List ℕ) → times n c ≡ 0 → is_listed n c ≡ false
none-listed n c h = grind (arith, nat_tests)

-- the numbers that are changed once this one is
abbrev pub marks : ℕ → List ℕ → List ℕ
marks n c = cond (is_listed n c) c (c ++ n ∷ [])

pub marked-is : (n : ℕ) (v : Store) → marked n v ≡ record v { changed = marks n v.changed }
marked-is n v =
    elim (cases_Bool (is_listed n v.changed)) [
      | inl e ↦ ap (λ t. cond t v (record v { changed = v.changed ++ n ∷ [] })) e ∙ sym (ap (λ t. record v { changed = cond t v.changed (v.changed ++ n ∷ []) }) e)
      | inr e ↦ ap (λ t. cond t v (record v { changed = v.changed ++ n ∷ [] })) e ∙ sym (ap (λ t. record v { changed = cond t v.changed (v.changed ++ n ∷ []) }) e)
    ]

pub marks-self : (n : ℕ) (c : List ℕ) → is_listed n (marks n c) ≡ true
marks-self n c =
    elim (cases_Bool (is_listed n c)) [
      | inl e ↦ ap (λ t. is_listed n (cond t c (c ++ n ∷ []))) e ∙ e
      | inr e ↦
          let p = times-push n n c in
          let q = times-same n n [] refl in
          ap (λ t. is_listed n (cond t c (c ++ n ∷ []))) e ∙ some-listed n (c ++ n ∷ []) (omega arith)
    ]

pub marks-more : (n m : ℕ) (c : List ℕ) → is_listed m c ≡ true → is_listed m (marks n c) ≡ true
marks-more n m c h =
    elim (cases_Bool (is_listed n c)) [
      | inl e ↦ ap (λ t. is_listed m (cond t c (c ++ n ∷ []))) e ∙ h
      | inr e ↦
          let p = times-push m n c in
          let q = listed-some m c h in
          ap (λ t. is_listed m (cond t c (c ++ n ∷ []))) e ∙ some-listed m (c ++ n ∷ []) (omega arith)
    ]

pub marks-other : (n m : ℕ) (c : List ℕ) → n ≢ m → is_listed m (marks n c) ≡ is_listed m c
marks-other n m c ne =
    elim (cases_Bool (is_listed n c)) [
      | inl e ↦ ap (λ t. is_listed m (cond t c (c ++ n ∷ []))) e
      | inr e ↦
          let p = times-push m n c in
          let q : times m (n ∷ []) ≡ 0 = times-other m n [] ne in
          let same : times m (c ++ n ∷ []) ≡ times m c = omega arith in
          ap (λ t. is_listed m (cond t c (c ++ n ∷ []))) e ∙ ap (nat_lt 0) same
    ]

-- ---- Blocks and places

pub set-same : (blocks : List (Option BlockView)) (n : ℕ) (b : BlockView) → n < length blocks → get_or (set blocks n (Some b)) n None ≡ Some b
set-same blocks n b h = get_or-set_same blocks n (Some b) None h

pub set-other : (blocks : List (Option BlockView)) (n m : ℕ) (b : BlockView) → n ≢ m → get_or (set blocks n (Some b)) m None ≡ get_or blocks m None
set-other blocks n m b ne = get_or-set_other blocks n m (Some b) None (λ e. ne (sym e))

pub place-same : (places : List ℕ) (n m p : ℕ) → n < length places → get_or places n undefined ≡ p → get_or (set places n p) m undefined ≡ get_or places m undefined
place-same places n m p h e =
    elim (cases_eq n m) [
      | inl s ↦ subst (λ k. get_or (set places n p) k undefined ≡ get_or places k undefined) s (get_or-set_same places n p undefined h ∙ sym e)
      | inr ne ↦ get_or-set_other places n m p undefined (λ s. ne (sym s))
    ]

-- what holds of the block under each number once another stands under one of them
pub set-cases : (P : Option BlockView → Type 0) (blocks : List (Option BlockView)) (n m : ℕ) (b : BlockView) → n < length blocks → (n ≡ m → P (Some b)) → (n ≢ m → P (get_or blocks m None)) → P (get_or (set blocks n (Some b)) m None)
set-cases P blocks n m b h here there =
    elim (cases_eq n m) [
      | inl e ↦ subst P (sym (subst (λ k. get_or (set blocks n (Some b)) k None ≡ Some b) e (set-same blocks n b h))) (here e)
      | inr ne ↦ subst P (sym (set-other blocks n m b ne)) (there ne)
    ]
