-- What counts of a look at a header that is refused is refused as the header is.
use Rattle.std.proofs.Common.{◌≡◌, ℕ, ◌-◌, ◌≤◌, Bool, true, false, cond, List, [], ◌∷◌, ◌++◌, length, take, Result, Ok, Err, refl, sym, ◌∙◌, ap, arith}
use Rattle.std.specs.Prelude.{nat_le, nat_lt, nat_eq, ◌==◌}
use Rattle.std.specs.List.{starts_with}
use Rattle.std.proofs.lemmas.Bool.{leb-true}
use Rattle.h5w_model.specs.Numbers.{field}
use Rattle.h5w_model.specs.Checked.{checked}
use Rattle.h5w_model.specs.Headers.{prefix_at, prefix_fields, header_flags, header_signature, messages_place, header_view, zeros}
use Rattle.h5w_model.specs.Datasets.{root_view}
use Rattle.h5w_model.specs.declared.message.Prefix.{Prefix}
use Rattle.h5w_model.specs.declared.refusal.HeaderError.{HeaderError}
use Rattle.h5w_model.specs.declared.refusal.HeaderError.TheVariants.{Short, Signature, Version}

-- what the tests say, by whether each holds
abbrev tried : List ℕ → Bool → Bool → Bool → Bool → Result Prefix HeaderError
tried b six signed versioned whole = checked ((six, Short 6 (length b)) ∷ (signed, Signature) ∷ (versioned, Version (field b 4 1)) ∷ (whole, Short (messages_place (header_flags b)) (length b)) ∷ []) (prefix_fields b)

abbrev is_signed : List ℕ → Bool
is_signed b = starts_with nat_eq b header_signature

abbrev is_version : List ℕ → Bool
is_version b = field b 4 1 == 2

abbrev is_whole : List ℕ → Bool
is_whole b = nat_le (messages_place (header_flags b)) (length b)

tries : (b : List ℕ) → prefix_at b ≡ tried b (nat_le 6 (length b)) (is_signed b) (is_version b) (is_whole b)
unfolding prefix_at
tries b = refl

-- the tests before the signature's hold, and it does not
no_signature : (b : List ℕ) (six signed versioned whole : Bool) → tried b six signed versioned whole ≡ Err Signature → (six ≡ true) × (signed ≡ false)
no_signature b false signed versioned whole h = absurd cc
no_signature b true false versioned whole h = (refl, refl)
no_signature b true true false whole h = absurd cc
no_signature b true true true false h = absurd cc
no_signature b true true true true h = absurd cc

no_version : (b : List ℕ) (n : ℕ) (six signed versioned whole : Bool) → tried b six signed versioned whole ≡ Err (Version n) → (six ≡ true) × (signed ≡ true) × (versioned ≡ false) × (field b 4 1 ≡ n)
no_version b n false signed versioned whole h = absurd cc
no_version b n true false versioned whole h = absurd cc
no_version b n true true false whole h = (refl, refl, refl, cc)
no_version b n true true true false h = absurd cc
no_version b n true true true true h = absurd cc

-- the first five bytes and a zero
abbrev front_of : List ℕ → List ℕ
front_of b = take 5 b ++ 0 ∷ []

record IsAlike (b : List ℕ) : Type 0 where
  signed : is_signed (front_of b) ≡ is_signed b
  version : field (front_of b) 4 1 ≡ field b 4 1
  long : nat_le 6 (length (front_of b)) ≡ true

alike : (b : List ℕ) → 6 ≤ length b → IsAlike b
alike [] h = absurd (omega arith)
alike (a ∷ []) h = absurd (omega arith)
alike (a ∷ b ∷ []) h = absurd (omega arith)
alike (a ∷ b ∷ c ∷ []) h = absurd (omega arith)
alike (a ∷ b ∷ c ∷ d ∷ []) h = absurd (omega arith)
alike (a ∷ b ∷ c ∷ d ∷ e ∷ []) h = absurd (omega arith)
alike (a ∷ b ∷ c ∷ d ∷ e ∷ f ∷ r) h = record { signed = refl; version = refl; long = refl }

front_unsigned : (b : List ℕ) → prefix_at b ≡ Err Signature → prefix_at (front_of b) ≡ Err Signature
front_unsigned b h =
    let parts = no_signature b (nat_le 6 (length b)) (is_signed b) (is_version b) (is_whole b) (sym (tries b) ∙ h) in
    let same = alike b (leb-true 6 (length b) parts.0) in
    let f = front_of b in
    tries f
    ∙ ap (λ c. tried f c (is_signed f) (is_version f) (is_whole f)) same.long
    ∙ ap (λ c. tried f true c (is_version f) (is_whole f)) (same.signed ∙ parts.1)

front_unversioned : (b : List ℕ) (n : ℕ) → prefix_at b ≡ Err (Version n) → prefix_at (front_of b) ≡ Err (Version n)
front_unversioned b n h =
    let parts = no_version b n (nat_le 6 (length b)) (is_signed b) (is_version b) (is_whole b) (sym (tries b) ∙ h) in
    let same = alike b (leb-true 6 (length b) parts.0) in
    let f = front_of b in
    tries f
    ∙ ap (λ c. tried f c (is_signed f) (is_version f) (is_whole f)) same.long
    ∙ ap (λ c. tried f true c (is_version f) (is_whole f)) (same.signed ∙ parts.1)
    ∙ ap (λ c. tried f true true c (is_whole f)) (ap (λ (v : ℕ). v == 2) same.version ∙ parts.2)
    ∙ ap (λ v. Err (Version v)) (same.version ∙ parts.3)

-- what counts of a look, given what it begins with
abbrev pub view_given : List ℕ → Result Prefix HeaderError → List ℕ
view_given b r = elim r [
  | Err e ↦ elim e [
    | Signature ↦ front_of b
    | Version n ↦ front_of b
    | _ ↦ b
  ]
  | Ok p ↦ cond (nat_lt 512 p.total) (b ++ zeros (512 - length b)) (take p.total b)
]

pub view_is : (b : List ℕ) → header_view b ≡ view_given b (prefix_at b)
unfolding header_view
view_is b = refl

by_error : (b : List ℕ) (e : HeaderError) → prefix_at b ≡ Err e → prefix_at (view_given b (Err e)) ≡ Err e
by_error b Signature h = front_unsigned b h
by_error b (Version n) h = front_unversioned b n h
by_error b _ h = h

pub view_refused : (b : List ℕ) (e : HeaderError) → prefix_at b ≡ Err e → prefix_at (header_view b) ≡ Err e
view_refused b e h = ap prefix_at (view_is b ∙ ap (view_given b) h) ∙ by_error b e h

-- the view of what is refused is that of a dataset header
pub root_view_refused : (b : List ℕ) (e : HeaderError) → prefix_at b ≡ Err e → root_view b ≡ header_view b
root_view_refused b e h = ap (λ (r : Result Prefix HeaderError). elim r as (λ _. List ℕ) [ Ok p ↦ cond (nat_lt 512 p.total) b (header_view b) | Err f ↦ header_view b ]) h
