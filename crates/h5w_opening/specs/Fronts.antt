-- What is looked at of a file that is opened by several names, before the first dataset header.
use Rattle.std.specs.Prelude.{ℕ, true, List, Option, Some, None, Result, Ok, Err}
use Rattle.h5w_model.specs.Programs.{Prog, ret, whole, eval, and_then}
use Rattle.h5w_model.specs.Superblock.{super_at}
use Rattle.h5w_model.specs.Datasets.{FoundMessage, super_refusal, all_linked, same_link, then_also, refused_as}
use Rattle.h5w_model.specs.declared.root.Super.{Super}
use Rattle.h5w_headers.specs.Walks.{root_header_for}
use Rattle.h5w_opening.specs.Openings.{closed_super, reading, written_super}
use Rattle.h5w_opening.specs.declared.error.OpenError.{OpenError}
use Rattle.h5w_opening.specs.declared.error.OpenError.TheVariants.{Read, Same}

-- The superblock; the places of the dataset headers, in the order of the names.
pub record FrontFields : Type 0 where
  pub root : Super
  pub places : List ℕ

-- places of which no two are the same
abbrev pub unlike : List ℕ → Option (ℕ × ℕ) → Result (List ℕ) OpenError
unlike places (Some same) = Err (Same same.0 same.1)
unlike places None = Ok places

-- the places to which the links of these names lead, link after link, and once all are found no two of them the same
abbrev pub places_by : List (List ℕ) → List FoundMessage → Result (List ℕ) OpenError
places_by names ms = then_also (refused_as Read (all_linked names ms)) (λ places. unlike places (same_link places))

-- all that is looked at before the first dataset header, where the superblock is tested so
abbrev pub front_by : (Super → Result Super OpenError) → List (List ℕ) → Prog (Result FrontFields OpenError)
front_by tested names =
    and_then (reading (whole 0 48 (λ b. ret (refused_as super_refusal (super_at b))))) (λ s.
    and_then (ret (tested s)) (λ s.
    and_then (reading (root_header_for true s.root)) (λ h.
    ret (then_also (places_by names h.messages) (λ places. Ok (record { root = s; places = places }))))))

-- so of a file of this size that nobody writes
abbrev pub front_for : ℕ → List (List ℕ) → Prog (Result FrontFields OpenError)
front_for size names = front_by (closed_super size) names

-- and of one that somebody writes, or wrote and did not close
abbrev pub written_front : ℕ → List (List ℕ) → Prog (Result FrontFields OpenError)
written_front size names = front_by (written_super size) names

-- its last part on an image
abbrev pub places_found : List (List ℕ) → ℕ → List ℕ → Result (List ℕ) OpenError
places_found names root img = then_also (refused_as Read (eval img (root_header_for true root))) (λ h. places_by names h.messages)
