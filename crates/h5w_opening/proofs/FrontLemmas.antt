-- What is found of a file before the first dataset header, part after part.
use Rattle.std.proofs.Common.{◌≡◌, ℕ, true, List, Result, Ok, Err, refl, sym, ◌∙◌, ap}
use Rattle.h5w_model.specs.Numbers.{range}
use Rattle.h5w_model.specs.Programs.{Prog, ret, whole, eval, and_then}
use Rattle.h5w_model.specs.Superblock.{super_at}
use Rattle.h5w_model.specs.Datasets.{HeaderFields, super_refusal, then_also, refused_as}
use Rattle.h5w_model.specs.declared.root.Super.{Super}
use Rattle.h5w_model.specs.declared.refusal.ReadError.{ReadError}
use Rattle.h5w_laws.proofs.ProgramLemmas.{eval_and_then}
use Rattle.h5w_headers.specs.Walks.{root_header_for}
use Rattle.h5w_opening.specs.Fronts.{FrontFields, front_by, front_for, places_by, places_found}
use Rattle.h5w_opening.specs.Openings.{closed_super, reading, super_by, super_found}
use Rattle.h5w_opening.specs.declared.error.OpenError.{OpenError}
use Rattle.h5w_opening.specs.declared.error.OpenError.TheVariants.{Read}
use Rattle.h5w_opening.proofs.OpeningLemmas.{read_first, then_joined}

-- what is found, given the superblock and the places
abbrev pub fronted_by : Super → List ℕ → Result FrontFields OpenError
fronted_by s places = Ok (record { root = s; places = places })

abbrev pub places_behind : List (List ℕ) → List ℕ → Super → Result FrontFields OpenError
places_behind names img s = then_also (places_found names s.root img) (fronted_by s)

on_root : List (List ℕ) → Super → HeaderFields → Prog (Result FrontFields OpenError)
on_root names s h = ret (then_also (places_by names h.messages) (fronted_by s))

on_closed : List (List ℕ) → Super → Prog (Result FrontFields OpenError)
on_closed names s = and_then (reading (root_header_for true s.root)) (on_root names s)

closed_gives : (img : List ℕ) (names : List (List ℕ)) (s : Super) → eval img (on_closed names s) ≡ places_behind names img s
unfolding on_closed on_root
closed_gives img names s =
    read_first img (root_header_for true s.root) (on_root names s)
    ∙ then_joined (refused_as Read (eval img (root_header_for true s.root))) (λ h. places_by names h.messages) (fronted_by s)

pub fronts_give : (tested : Super → Result Super OpenError) (img : List ℕ) (names : List (List ℕ)) → eval img (front_by tested names) ≡ then_also (super_by tested img) (places_behind names img)
unfolding on_closed on_root
fronts_give tested img names =
    let top : Prog (Result Super ReadError) = whole 0 48 (λ b. ret (refused_as super_refusal (super_at b))) in
    let given : Result Super ReadError = refused_as super_refusal (super_at (range img 0 48)) in
    read_first img top (λ s. and_then (ret (tested s)) (on_closed names))
    ∙ ap (then_also (refused_as Read given)) (λ i s. eval_and_then img (ret (tested s)) (on_closed names) i)
    ∙ ap (then_also (refused_as Read given)) (λ i s. then_also (tested s) (λ t. closed_gives img names t i))
    ∙ then_joined (refused_as Read given) tested (places_behind names img)

pub front_gives : (img : List ℕ) (names : List (List ℕ)) (size : ℕ) → eval img (front_for size names) ≡ then_also (super_found size img) (places_behind names img)
front_gives img names size = fronts_give (closed_super size) img names
