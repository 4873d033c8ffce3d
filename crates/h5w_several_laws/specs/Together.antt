-- The datasets of one file together: what the check for all their names finds.
use Rattle.std.specs.Prelude.{ℕ, ◌-◌, not, List, [], ◌∷◌, ◌++◌, map, count_by, sum_by}
use Rattle.h5w_model.specs.Images.{apply}
use Rattle.h5w_model.specs.Findings.{AllSummary, AllValid, Used, the_superblock}
use Rattle.h5w_model.specs.declared.piece.Write.{Write}
use Rattle.h5w_model.specs.declared.root.Super.{Super}
use Rattle.h5w_step_laws.specs.Moments.{Moment, Represents}
use Rattle.h5w_step_laws.specs.Steps.{OffAll}
use Rattle.h5w_step_laws.specs.Plans.{Flush}
use Rattle.h5w_several_laws.specs.Beside.{IsBeside, own_of}
use Rattle.h5w_several_laws.specs.Turns.{Entry, owns}

-- each dataset is at its moment in the image, whatever it is told of the others
abbrev pub AreThere : List ℕ → List Entry → Type 0
AreThere img [] = Unit {0}
AreThere img (e ∷ es) = Represents img e.name e.moment × AreThere img es

-- what one has does not meet what another has
abbrev pub IsClear : Entry → List Entry → Type 0
IsClear x [] = Unit {0}
IsClear x (e ∷ es) = OffAll (own_of e.moment) (own_of x.moment) × IsClear x es

abbrev pub AreClear : List Entry → Type 0
AreClear [] = Unit {0}
AreClear (e ∷ es) = IsClear e es × AreClear es

-- each stands beside this one, which is told of it
abbrev pub AreBeside : Moment → List Entry → Type 0
AreBeside m [] = Unit {0}
AreBeside m (e ∷ es) = IsBeside e.moment m × AreBeside m es

abbrev pub names_of : List Entry → List (List ℕ)
names_of es = map (λ (e : Entry). e.name) es

-- all ranges of the file, the root header's among them
abbrev pub ranges_with : List Used → List Entry → List Used
ranges_with root es = the_superblock ∷ root ++ owns es

-- what the file has of them
abbrev pub summary_of : Super → List Used → List Entry → AllSummary
summary_of s root es = record {
  rows = map (λ (e : Entry). e.moment.dataset.shape.rows) es;
  chunks = count_by (λ (u : Used). u.chunk) (ranges_with root es);
  blocks = count_by (λ (u : Used). not u.chunk) (ranges_with root es);
  end = s.end;
  lost = s.end - sum_by (λ (u : Used). u.len) (ranges_with root es);
}

-- no finding applies to these names
abbrev pub IsAllValid : List ℕ → List (List ℕ) → Type 0
IsAllValid img names = (t : AllSummary) × AllValid img names t

-- nor after any of these pieces, one after another
abbrev pub StaysValid : List ℕ → List (List ℕ) → List Write → Type 0
StaysValid img names [] = Unit {0}
StaysValid img names (w ∷ ws) = IsAllValid (apply w img) names × StaysValid (apply w img) names ws

-- the first list, back to front, and behind it the other
abbrev pub onto : {A : Type 0} → List A → List A → List A
onto [] ys = ys
onto (x ∷ xs) ys = onto xs (x ∷ ys)

-- ---- Laws

-- Datasets of one image, none of which meets another, make it valid for all their names: each has its link, no two lead to one header, and no
-- range meets another. The file has the rows of each.
abbrev pub AllFound : Type 0
AllFound = (img : List ℕ) (e : Entry) (es : List Entry) → (there : AreThere img (e ∷ es)) → AreClear (e ∷ es) → AllValid img (names_of (e ∷ es)) (summary_of e.moment.super there.0.root.own (e ∷ es))

-- It stays so after each piece of a flush of one of them, which is told of the others. Of these some stand before it, the last one first, and
-- some behind it.
abbrev pub FlushStaysValid : Type 0
FlushStaysValid = (img name : List ℕ) (m n : Moment) (held after : List Used) (ws : List Write) (ds es : List Entry) → Represents img name m → Flush img m held ws n after
    → AreThere img (ds ++ es) → AreBeside m (ds ++ es) → AreClear (ds ++ es) → StaysValid img (onto (names_of ds) (name ∷ names_of es)) ws
