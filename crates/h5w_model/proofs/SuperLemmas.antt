-- A superblock as it is written, and that it is read back.
use Rattle.std.proofs.Common.{◌≡◌, ◌⊎◌, inl, inr, ℕ, ◌^◌, ◌<◌, Bool, true, false, List, [], ◌∷◌, ◌++◌, length, Ok, refl, sym, subst, ◌∙◌}
use Rattle.std.specs.Prelude.{◌==◌, ◌||◌}
use Rattle.std.proofs.lemmas.Bool.{eqb-true}
use Rattle.h5w_model.specs.Numbers.{num, le, field, undefined}
use Rattle.h5w_model.specs.Superblock.{super_signature, super_at, super_bytes, super_fields, super_tests}
use Rattle.h5w_model.specs.declared.root.Super.{Super}
use Rattle.h5w_model.proofs.NumberLemmas.{num-le, num-one}
use Rattle.h5w_model.proofs.ChecksumLemmas.{is_sealed-sealed_block}
use Rattle.h5w_model.proofs.CheckedLemmas.{checked-ok, checked-passed}

-- a superblock has 48 bytes
pub length-super_bytes : (s : Super) → length (super_bytes s) ≡ 48
unfolding le
length-super_bytes s = refl

abbrev pub body : Super → List ℕ
body s = super_signature ++ (s.version ∷ 8 ∷ 8 ∷ s.flags ∷ []) ++ le 8 0 ++ le 8 undefined ++ le 8 s.end ++ le 8 s.root

-- the version's byte is one of the two
either_version : (v : ℕ) → (v ≡ 2) ⊎ (v ≡ 3) → ((num (v ∷ []) == 2) || (num (v ∷ []) == 3)) ≡ true
unfolding num
either_version v (inl e) = subst (λ n. ((num (n ∷ []) == 2) || (num (n ∷ []) == 3)) ≡ true) (sym e) refl
either_version v (inr e) = subst (λ n. ((num (n ∷ []) == 2) || (num (n ∷ []) == 3)) ≡ true) (sym e) refl

-- it is read back
pub super_at-super_bytes : (s : Super) → (s.version ≡ 2) ⊎ (s.version ≡ 3) → s.end < 2 ^ 64 → s.root < 2 ^ 64 → super_at (super_bytes s) ≡ Ok s
unfolding le num
super_at-super_bytes s version end root =
    checked-ok (super_tests (super_bytes s)) (super_fields (super_bytes s)) (refl, (refl, (either_version s.version version, (refl, (is_sealed-sealed_block (body s), (refl, (refl, tt)))))))
    ∙ λ i. Ok (record { version = num-one s.version i; flags = num-one s.flags i; end = num-le 8 s.end end i; root = num-le 8 s.root root i })

-- ---- What is read is one of the two

one_of : (v : ℕ) → ((v == 2) || (v == 3)) ≡ true → (v ≡ 2) ⊎ (v ≡ 3)
one_of v h = by (v == 2) refl h
  where
    by : (b : Bool) → (v == 2) ≡ b → (b || (v == 3)) ≡ true → (v ≡ 2) ⊎ (v ≡ 3)
    by true e g = inl (eqb-true v 2 e)
    by false e g = inr (eqb-true v 3 g)

pub super_either : (b : List ℕ) (s : Super) → super_at b ≡ Ok s → (s.version ≡ 2) ⊎ (s.version ≡ 3)
super_either b s h =
    let p = checked-passed (super_tests b) (super_fields b) s h in
    subst (λ (t : Super). (t.version ≡ 2) ⊎ (t.version ≡ 3)) p.1 (one_of (field b 8 1) p.0.1.1.0)
