-- What is found part after part is what the program of looks gives.
use Rattle.std.proofs.Common.{◌≡◌, ℕ, true, List, Result, Ok, Err, refl, ◌∙◌, ap, sym, subst}
use Rattle.std.specs.Prelude.{option_map, IfOk}
use Rattle.h5w_model.specs.Numbers.{range}
use Rattle.h5w_model.specs.Programs.{Prog, ret, whole, eval, and_then}
use Rattle.h5w_model.specs.Superblock.{super_at}
use Rattle.h5w_model.specs.Datasets.{FoundMessage, HeaderFields, super_refusal, linked, then_also, refused_as}
use Rattle.h5w_model.specs.declared.root.Super.{Super}
use Rattle.h5w_model.specs.declared.refusal.ReadError.{ReadError}
use Rattle.h5w_laws.proofs.ProgramLemmas.{eval_bind, eval_and_then}
use Rattle.h5w_headers.specs.Errors as found
use Rattle.h5w_headers.specs.Ran.{Told, seen}
use Rattle.h5w_headers.specs.Walks.{root_header_for, dataset_header_for}
use Rattle.h5w_headers.specs.declared.error.FindError.TheVariants as find_errors
use Rattle.h5w_headers.proofs.KindLemmas.{Become}
use Rattle.h5w_opening.specs.Errors.{open_error, open_errors, refusal_of}
use Rattle.h5w_opening.specs.Openings.{DatasetHeaderFields, IsSaid, Opened, chunk_0_len, closed_super, known, reading, looked_for, super_found, place_found, dataset_found}
use Rattle.h5w_opening.specs.Views.{header_fields_of}
use Rattle.h5w_opening.specs.declared.error.OpenError.{OpenError}
use Rattle.h5w_opening.specs.declared.error.OpenError.TheVariants.{Read, Failed}
use Rattle.h5w_opening.specs.declared.finding.DatasetHeader.{DatasetHeader}

pub all_read : Become found.find_errors open_errors Read open_error
all_read = record {
  refusal = λ e. elim e as (λ e. refusal_of (open_error e) ≡ option_map Read (found.refusal_of e)) [ find_errors.Refused r ↦ refl | find_errors.Failed ↦ refl | find_errors.OutOfMemory ↦ refl ];
  failed = λ e. elim e as (λ e. open_error e ≡ Failed → e ≡ find_errors.Failed) [ find_errors.Refused r ↦ λ h. absurd cc | find_errors.Failed ↦ λ h. refl | find_errors.OutOfMemory ↦ λ h. absurd cc ];
}

-- ---- The parts

-- what is opened, given its superblock, the header's place, and what the header says
abbrev pub opened_by : Super → ℕ → DatasetHeaderFields → Result Opened OpenError
opened_by s place d = Ok (record { root = s; place = place; header = d })

abbrev pub behind_place : Super → List ℕ → ℕ → Result Opened OpenError
behind_place s img place = then_also (dataset_found place img) (opened_by s place)

abbrev pub behind_super : List ℕ → List ℕ → Super → Result Opened OpenError
behind_super name img s = then_also (place_found name s.root img) (behind_place s img)

pub then_joined : {A B C E : Type 0} (r : Result A E) (f : A → Result B E) (g : B → Result C E) → then_also r (λ a. then_also (f a) g) ≡ then_also (then_also r f) g
then_joined (Ok a) f g = refl
then_joined (Err e) f g = refl

pub read_first : {A B : Type 0} (img : List ℕ) (p : Prog (Result A ReadError)) (f : A → Prog (Result B OpenError)) → eval img (and_then (reading p) f) ≡ then_also (refused_as Read (eval img p)) (λ a. eval img (f a))
read_first img p f = eval_and_then img (reading p) f ∙ ap (λ r. then_also r (λ a. eval img (f a))) (eval_bind img p (λ r. ret (refused_as Read r)))

on_header : Super → ℕ → HeaderFields → Prog (Result Opened OpenError)
on_header s place h = ret (then_also (known (chunk_0_len h.ranges) h.messages) (opened_by s place))

on_place : Super → ℕ → Prog (Result Opened OpenError)
on_place s place = and_then (reading (dataset_header_for true place)) (on_header s place)

on_root : List ℕ → Super → HeaderFields → Prog (Result Opened OpenError)
on_root name s h = and_then (ret (refused_as Read (linked name h.messages))) (on_place s)

on_closed : List ℕ → Super → Prog (Result Opened OpenError)
on_closed name s = and_then (reading (root_header_for true s.root)) (on_root name s)

place_gives : (img : List ℕ) (s : Super) (place : ℕ) → eval img (on_place s place) ≡ behind_place s img place
unfolding on_place on_header
place_gives img s place =
    read_first img (dataset_header_for true place) (on_header s place)
    ∙ then_joined (refused_as Read (eval img (dataset_header_for true place))) (λ h. known (chunk_0_len h.ranges) h.messages) (opened_by s place)

root_gives : (img name : List ℕ) (s : Super) (h : HeaderFields) → eval img (on_root name s h) ≡ then_also (refused_as Read (linked name h.messages)) (behind_place s img)
unfolding on_root
root_gives img name s h =
    eval_and_then img (ret (refused_as Read (linked name h.messages))) (on_place s)
    ∙ ap (then_also (refused_as Read (linked name h.messages))) (λ i place. place_gives img s place i)

closed_gives : (img name : List ℕ) (s : Super) → eval img (on_closed name s) ≡ behind_super name img s
unfolding on_closed
closed_gives img name s =
    read_first img (root_header_for true s.root) (on_root name s)
    ∙ ap (then_also (refused_as Read (eval img (root_header_for true s.root)))) (λ i h. root_gives img name s h i)
    ∙ then_joined (refused_as Read (eval img (root_header_for true s.root))) (λ h. refused_as Read (linked name h.messages)) (behind_place s img)

pub opening_gives : (img name : List ℕ) (size : ℕ) → eval img (looked_for size name) ≡ then_also (super_found size img) (behind_super name img)
unfolding on_closed on_root on_place on_header
opening_gives img name size =
    let top : Prog (Result Super ReadError) = whole 0 48 (λ b. ret (refused_as super_refusal (super_at b))) in
    let given : Result Super ReadError = refused_as super_refusal (super_at (range img 0 48)) in
    read_first img top (λ s. and_then (ret (closed_super size s)) (on_closed name))
    ∙ ap (then_also (refused_as Read given)) (λ i s. eval_and_then img (ret (closed_super size s)) (on_closed name) i)
    ∙ ap (then_also (refused_as Read given)) (λ i s. then_also (closed_super size s) (λ t. closed_gives img name t i))
    ∙ then_joined (refused_as Read given) (closed_super size) (behind_super name img)

-- what messages say of a dataset header with so many bytes in chunk 0
pub said_by : (len : ℕ) (ms : List FoundMessage) (r : Result DatasetHeader OpenError) → Told open_errors (known len ms) (seen header_fields_of r) → IfOk r (λ (h : DatasetHeader). h.len ≡ len)
    → IfOk r (λ (h : DatasetHeader). IsSaid (header_fields_of h))
said_by len ms (Ok h) told e = (ms, subst (λ (n : ℕ). known n ms ≡ Ok (header_fields_of h)) (sym e) told.exact)
said_by len ms (Err x) told e = tt
