-- That a reader's call ends over any images: of what is left of it, how many looks it takes at most, whatever bytes they give.
use Rattle.std.proofs.Common.{◌≡◌, ℕ, ◌<◌, ◌≤◌, List, [], ◌∷◌, length, Option, Some, None, subst, ap, sym}
use Rattle.std.specs.Prelude.{option_map}
use Rattle.h5w_model.specs.Numbers.{AreBytes}
use Rattle.h5w_model.specs.Unfinished.{Unfinished, Reader, rows_left, values_left, fed_left, wanted, with_left}
use Rattle.h5w_laws.specs.MostLooks.{most_looks}
use Rattle.h5w_laws.proofs.MostLooks.{most_fed}

-- the most looks of what is left of a call
abbrev most_looks_of : Unfinished → ℕ
most_looks_of (rows_left p) = most_looks p
most_looks_of (values_left p) = most_looks p

abbrev pub looks_left : Option Unfinished → ℕ
looks_left None = 0
looks_left (Some left) = most_looks_of left

one_taken : (left : Option Unfinished) (at len : ℕ) (bytes : List ℕ) → wanted left ≡ Some (at, len) → AreBytes bytes → length bytes ≤ len → looks_left (option_map (fed_left bytes) left) < looks_left left
one_taken None at len bytes e are short = cc
one_taken (Some (rows_left p)) at len bytes e are short = most_fed p at len bytes e are short
one_taken (Some (values_left p)) at len bytes e are short = most_fed p at len bytes e are short

-- fewer are left of a reader's call that wants more
pub fewer_left : (now new : Reader) (at len : ℕ) (bytes : List ℕ) → wanted now.left ≡ Some (at, len) → AreBytes bytes → length bytes ≤ len → new ≡ with_left now (option_map (fed_left bytes) now.left)
    → looks_left new.left < looks_left now.left
fewer_left now new at len bytes e are short next =
    subst (λ l. looks_left l < looks_left now.left) (sym (ap (λ (r : Reader). r.left) next)) (one_taken now.left at len bytes e are short)
