-- Blocks after the places of the blocks that they link to were written in them, and their sum.
use Rattle.std.proofs.Common.{◌≡◌, ◌≢◌, ◌⊎◌, ℕ, ◌+◌, ◌≤◌, true, false, cond, List, [], ◌∷◌, length, refl, sym, ap, ◌∙◌, subst, inl, inr, arith}
use Rattle.std.specs.Prelude.{◌==◌}
use Rattle.std.specs.List.{All}
use Rattle.std.proofs.lemmas.Bool.{cases_eq}
use Rattle.std.proofs.lemmas.Bool.Decides.{eqb_tells}
use Rattle.std.proofs.lemmas.List.Elements.{All-head, All-tail}
use Rattle.h5w_model.specs.Numbers.{range, undefined}
use Rattle.h5w_model.specs.Images.{Apart}
use Rattle.h5w_cache.specs.Blocks.{AreInside, with_number, linked, patched}
use Rattle.h5w_cache.specs.declared.block.Link.{Link}
use Rattle.h5w_array_laws.proofs.NumberLemmas.{length-with_number, range-with_number}

-- these links are beside n bytes
abbrev pub AreBeside : List Link → ℕ → ℕ → Type 0
AreBeside links at n = All (λ (m : Link). Apart m.offset 8 at n) links

-- ---- One link

pub linked-none : (P : ℕ → ℕ) (l : Link) (b : List ℕ) → P l.child ≡ undefined → linked P l b ≡ b
linked-none P l b e = go (eqb_tells (P l.child) undefined)
  where
    go : ((P l.child == undefined) ≡ true) × (P l.child ≡ undefined) ⊎ ((P l.child == undefined) ≡ false) × (P l.child ≢ undefined) → linked P l b ≡ b
    go (inl t) = ap (λ c. cond c b (with_number l.offset (P l.child) b)) t.0
    go (inr t) = absurd (t.1 e)

pub linked-some : (P : ℕ → ℕ) (l : Link) (b : List ℕ) → P l.child ≢ undefined → linked P l b ≡ with_number l.offset (P l.child) b
linked-some P l b n = go (eqb_tells (P l.child) undefined)
  where
    go : ((P l.child == undefined) ≡ true) × (P l.child ≡ undefined) ⊎ ((P l.child == undefined) ≡ false) × (P l.child ≢ undefined) → linked P l b ≡ with_number l.offset (P l.child) b
    go (inl t) = absurd (n t.1)
    go (inr t) = ap (λ c. cond c b (with_number l.offset (P l.child) b)) t.0

pub length-linked : (P : ℕ → ℕ) (l : Link) (b : List ℕ) → l.offset + 8 ≤ length b → length (linked P l b) ≡ length b
length-linked P l b h = elim (cases_eq (P l.child) undefined) as (λ _. length (linked P l b) ≡ length b) [
  | inl e ↦ ap length (linked-none P l b e)
  | inr n ↦ ap length (linked-some P l b n) ∙ length-with_number l.offset (P l.child) b h
]

pub range-linked : (P : ℕ → ℕ) (l : Link) (b : List ℕ) (at n : ℕ) → l.offset + 8 ≤ length b → Apart l.offset 8 at n → at + n ≤ length b → range (linked P l b) at n ≡ range b at n
range-linked P l b at n h apart inside = elim (cases_eq (P l.child) undefined) as (λ _. range (linked P l b) at n ≡ range b at n) [
  | inl e ↦ ap (λ x. range x at n) (linked-none P l b e)
  | inr ne ↦ ap (λ x. range x at n) (linked-some P l b ne) ∙ range-with_number l.offset (P l.child) b at n h apart inside
]

-- ---- All links

abbrev pub inside : ℕ → Link → Type 0
inside n l = l.offset + 8 ≤ n

pub inside_tail : (P : ℕ → ℕ) (l : Link) (ls : List Link) (b : List ℕ) → AreInside (l ∷ ls) (length b) → AreInside ls (length (linked P l b))
inside_tail P l ls b h =
    subst (λ n. AreInside ls n) (sym (length-linked P l b (All-head (inside (length b)) l ls h)))
    (All-tail (inside (length b)) l ls h)

pub length-patched : (P : ℕ → ℕ) (ls : List Link) (b : List ℕ) → AreInside ls (length b) → length (patched P ls b) ≡ length b
length-patched P [] b h = refl
length-patched P (l ∷ ls) b h =
    length-patched P ls (linked P l b) (inside_tail P l ls b h)
    ∙ length-linked P l b (All-head (inside (length b)) l ls h)

pub range-patched : (P : ℕ → ℕ) (ls : List Link) (b : List ℕ) (at n : ℕ) → AreInside ls (length b) → AreBeside ls at n → at + n ≤ length b → range (patched P ls b) at n ≡ range b at n
range-patched P [] b at n h beside low = refl
range-patched P (l ∷ ls) b at n h beside low =
    let first = All-head (inside (length b)) l ls h in
    let same : length (linked P l b) ≡ length b = length-linked P l b first in
    range-patched P ls (linked P l b) at n (inside_tail P l ls b h) (All-tail (λ (m : Link). Apart m.offset 8 at n) l ls beside) (omega arith)
    ∙ range-linked P l b at n first (All-head (λ (m : Link). Apart m.offset 8 at n) l ls beside) low
