-- Names as C gives them: bytes one behind another, and how many each has.
use Rattle.std.proofs.Common.{◌≡◌, ◌∙◌, ℕ, ◌<◌, ◌≤◌, nat_le, if◌then◌else◌, Bool, true, List, [], ◌∷◌, ◌++◌, length, Option, Some, None, Result, Ok, Err, refl, ap, sym, subst, append-nil, append_assoc, arith}
use Rattle.std.specs.Prelude.{IfOk, option_map, take, drop}
use Rattle.std.proofs.lemmas.Bool.{le-leb, lt-leb}
use Rattle.h5w_several_handles.specs.Names.{cut_names}

-- what is put behind some names
abbrev pub IsCut : List (List ℕ) → (lens bytes : List ℕ) → Option (List (List ℕ)) → Type 0
IsCut names lens bytes all = all ≡ option_map (λ (more : List (List ℕ)). names ++ more) (cut_names lens bytes)

pub cut_all : (names : List (List ℕ)) (lens bytes : List ℕ) → length lens ≡ 0 → length bytes ≡ 0 → IsCut names lens bytes (Some names)
cut_all names [] [] e f = ap Some (sym (append-nil names))
cut_all names [] (b ∷ bytes) e f = absurd (omega (arith, f))
cut_all names (n ∷ lens) bytes e f = absurd (omega (arith, e))

pub cut_over : (names : List (List ℕ)) (lens bytes : List ℕ) → length lens ≡ 0 → 1 ≤ length bytes → IsCut names lens bytes None
cut_over names [] [] e f = absurd (omega (arith, f))
cut_over names [] (b ∷ bytes) e f = refl
cut_over names (n ∷ lens) bytes e f = absurd (omega (arith, e))

pub cut_short : (names : List (List ℕ)) (lens bytes : List ℕ) (n : ℕ) (rest : List ℕ) → lens ≡ n ∷ rest → length bytes < n → IsCut names lens bytes None
cut_short names lens bytes n rest is short =
    let f : List (List ℕ) → List (List ℕ) = λ more. names ++ more in
    let some : Option (List (List ℕ)) = option_map (λ (more : List (List ℕ)). take n bytes ∷ more) (cut_names rest (drop n bytes)) in
    let at : IsCut names (n ∷ rest) bytes None = sym (ap (λ (b : Bool). option_map f (if b then some else None)) (lt-leb n (length bytes) short)) in
    subst (λ (ns : List ℕ). IsCut names ns bytes None) (sym is) at

-- a name in front of more
moved : (names : List (List ℕ)) (name : List ℕ) (more : Option (List (List ℕ))) → option_map (λ (ns : List (List ℕ)). (names ++ name ∷ []) ++ ns) more ≡ option_map (λ (ns : List (List ℕ)). names ++ ns) (option_map (λ (ns : List (List ℕ)). name ∷ ns) more)
moved names name None = refl
moved names name (Some more) = ap Some (append_assoc names (name ∷ []) more)

cut_one : (names : List (List ℕ)) (lens bytes : List ℕ) (n : ℕ) (rest : List ℕ) (all : Option (List (List ℕ))) → lens ≡ n ∷ rest → n ≤ length bytes → IsCut (names ++ take n bytes ∷ []) rest (drop n bytes) all → IsCut names lens bytes all
cut_one names lens bytes n rest all is low cut =
    let f : List (List ℕ) → List (List ℕ) = λ more. names ++ more in
    let some : Option (List (List ℕ)) = option_map (λ (more : List (List ℕ)). take n bytes ∷ more) (cut_names rest (drop n bytes)) in
    let at : IsCut names (n ∷ rest) bytes all = cut ∙ moved names (take n bytes) (cut_names rest (drop n bytes)) ∙ sym (ap (λ (b : Bool). option_map f (if b then some else None)) (le-leb n (length bytes) low)) in
    subst (λ (ns : List ℕ). IsCut names ns bytes all) (sym is) at

-- one name, and then the others
pub cut_next : {E : Type 0} (names others : List (List ℕ)) (lens bytes : List ℕ) (n : ℕ) (rest name left : List ℕ) (r : Result (Option (List (List ℕ))) E) → lens ≡ n ∷ rest → n ≤ length bytes → name ≡ take n bytes → left ≡ drop n bytes → others ≡ names ++ name ∷ []
    → IfOk r (IsCut others rest left) → IfOk r (IsCut names lens bytes)
cut_next names others lens bytes n rest name left (Ok all) is low name_is left_is others_are cut =
    let behind : IsCut others rest (drop n bytes) all = subst (λ (bs : List ℕ). IsCut others rest bs all) left_is cut in
    let with_name : others ≡ names ++ take n bytes ∷ [] = others_are ∙ ap (λ (bs : List ℕ). names ++ bs ∷ []) name_is in
    cut_one names lens bytes n rest all is low (subst (λ (ns : List (List ℕ)). IsCut ns rest (drop n bytes) all) with_name behind)
cut_next names others lens bytes n rest name left (Err e) is low name_is left_is others_are cut = tt
