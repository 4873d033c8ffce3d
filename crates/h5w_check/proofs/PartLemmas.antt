-- The datasets of a file, one after another.
use Rattle.std.proofs.Common.{◌≡◌, ℕ, ◌+◌, ◌<◌, List, [], ◌∷◌, ◌++◌, length, map, get_or, drop, Result, Ok, Err, refl, sym, ◌∙◌, ap, append_assoc, arith}
use Rattle.std.proofs.lemmas.List.{append-nil, drop_all}
use Rattle.h5w_model.specs.Programs.{Prog, ret, eval, and_then}
use Rattle.h5w_model.specs.Datasets.{Described, then_also}
use Rattle.h5w_model.specs.Tables.{each_of, format_limits}
use Rattle.h5w_model.specs.Findings.{Used, Finding, Part, checked_dataset, checked_part, index_visit}
use Rattle.h5w_model.specs.declared.root.Super.{Super}
use Rattle.h5w_laws.proofs.ProgramLemmas.{eval_and_then}
use Rattle.h5w_laws.proofs.SeveralLemmas.{flat_ranges}
use Rattle.h5w_check.specs.Ranges.{after}
use Rattle.h5w_check.specs.Roots.{dataset_after, part_after, parts_after}
use Rattle.h5w_check.proofs.RangeLemmas.{next_from}

-- ---- One dataset

-- what follows the dataset's header
abbrev pub part_rest : List ℕ → Super → Described × List Used → Result (ℕ × List Used) Finding
part_rest img s x = then_also (after x.1 (eval img (index_visit s.end x.0))) (λ us. Ok (x.0.shape.rows, us))

abbrev as_part : ℕ → Described × List Used → List Used → Result Part Finding
as_part at d us = Ok (record { place = at; dataset = d.0; ranges = d.1 ++ us })

index_given : (at : ℕ) (old : List Used) (d : Described × List Used) (r : Result (List Used) Finding)
    → part_after old (then_also r (as_part at d)) ≡ then_also (after (old ++ d.1) r) (λ us. Ok (d.0.shape.rows, us))
index_given place old d (Ok us) = ap (λ (vs : List Used). Ok (d.0.shape.rows, vs)) (sym (append_assoc old d.1 us))
index_given place old d (Err f) = refl

dataset_given : (img : List ℕ) (s : Super) (at : ℕ) (old : List Used) (r : Result (Described × List Used) Finding)
    → part_after old (then_also r (λ d. then_also (eval img (index_visit s.end d.0)) (as_part at d))) ≡ then_also (dataset_after old r) (part_rest img s)
dataset_given img s place old (Ok d) = index_given place old d (eval img (index_visit s.end d.0))
dataset_given img s place old (Err f) = refl

pub part_parts : (img : List ℕ) (s : Super) (at : ℕ) (old : List Used)
    → part_after old (eval img (checked_part format_limits s at)) ≡ then_also (dataset_after old (eval img (checked_dataset format_limits s at))) (part_rest img s)
part_parts img s place old =
    ap (part_after old) (eval_and_then img (checked_dataset format_limits s place) on_dataset)
    ∙ ap (λ (go : Described × List Used → Result Part Finding). part_after old (then_also (eval img (checked_dataset format_limits s place)) go)) (λ i d. eval_and_then img (index_visit s.end d.0) (λ us. ret (as_part place d us)) i)
    ∙ dataset_given img s place old (eval img (checked_dataset format_limits s place))
  where
    on_dataset : Described × List Used → Prog (Result Part Finding)
    on_dataset d = and_then (index_visit s.end d.0) (λ us. ret (as_part place d us))

-- ---- In a loop

abbrev rows_of : List Part → List ℕ
rows_of ps = map (λ (p : Part). p.dataset.shape.rows) ps

rest_given : (rows : List ℕ) (old : List Used) (p : Part) (r : Result (List Part) Finding)
    → parts_after rows old (then_also r (λ ps. Ok (p ∷ ps))) ≡ parts_after (rows ++ p.dataset.shape.rows ∷ []) (old ++ p.ranges) r
rest_given rows old p (Ok ps) =
    ap (λ (ns : List ℕ). Ok (ns, old ++ (p.ranges ++ flat_ranges ps))) (sym (append_assoc rows (p.dataset.shape.rows ∷ []) (rows_of ps)))
    ∙ ap (λ (us : List Used). Ok ((rows ++ p.dataset.shape.rows ∷ []) ++ rows_of ps, us)) (sym (append_assoc old p.ranges (flat_ranges ps)))
rest_given rows old p (Err f) = refl

first_given : (rows : List ℕ) (old : List Used) (r : Result Part Finding) (t : Result (List Part) Finding)
    → parts_after rows old (then_also r (λ p. then_also t (λ ps. Ok (p ∷ ps)))) ≡ then_also (part_after old r) (λ x. parts_after (rows ++ x.0 ∷ []) x.1 t)
first_given rows old (Ok p) t = rest_given rows old p t
first_given rows old (Err f) t = refl

-- what some datasets give behind others
abbrev pub given : List ℕ → Super → List ℕ → List Used → List ℕ → Result (List ℕ × List Used) Finding
given img s rows old places = parts_after rows old (eval img (each_of (checked_part format_limits s) places))

-- what follows the first of some datasets
abbrev pub given_then : List ℕ → Super → List ℕ → List ℕ → ℕ × List Used → Result (List ℕ × List Used) Finding
given_then img s rows places x = given img s (rows ++ x.0 ∷ []) x.1 places

given_step : (img : List ℕ) (s : Super) (rows : List ℕ) (old : List Used) (place : ℕ) (rest : List ℕ)
    → given img s rows old (place ∷ rest) ≡ then_also (part_after old (eval img (checked_part format_limits s place))) (given_then img s rows rest)
given_step img s rows old place rest =
    let more : Prog (Result (List Part) Finding) = each_of (checked_part format_limits s) rest in
    ap (parts_after rows old) (eval_and_then img (checked_part format_limits s place) on_part)
    ∙ ap (λ (go : Part → Result (List Part) Finding). parts_after rows old (then_also (eval img (checked_part format_limits s place)) go)) (λ i p. eval_and_then img more (λ ps. ret (Ok (p ∷ ps))) i)
    ∙ first_given rows old (eval img (checked_part format_limits s place)) (eval img more)
  where
    on_part : Part → Prog (Result (List Part) Finding)
    on_part p = and_then (each_of (checked_part format_limits s) rest) (λ ps. ret (Ok (p ∷ ps)))

pub given_next : (img : List ℕ) (s : Super) (rows : List ℕ) (old : List Used) (places : List ℕ) (i : ℕ) → i < length places
    → given img s rows old (drop i places) ≡ then_also (part_after old (eval img (checked_part format_limits s (get_or places i 0)))) (given_then img s rows (drop (i + 1) places))
given_next img s rows old places i h = ap (given img s rows old) (next_from places i 0 h) ∙ given_step img s rows old (get_or places i 0) (drop (i + 1) places)

pub given_end : (img : List ℕ) (s : Super) (rows : List ℕ) (old : List Used) (places : List ℕ) (i : ℕ) → length places ≡ i → given img s rows old (drop i places) ≡ Ok (rows, old)
given_end img s rows old places i h =
    ap (given img s rows old) (drop_all i places (omega arith))
    ∙ ap (λ (ns : List ℕ). Ok (ns, old ++ [])) (append-nil rows)
    ∙ ap (λ (us : List Used). Ok (rows, us)) (append-nil old)
