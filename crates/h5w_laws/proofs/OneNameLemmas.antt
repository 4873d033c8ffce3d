-- For one name the check for names is the check of that name.
use Rattle.std.proofs.Common.{◌≡◌, ℕ, List, [], ◌∷◌, ◌++◌, length, Option, Some, None, Result, Ok, Err, refl, sym, ◌∙◌, ap, append_assoc}
use Rattle.std.proofs.lemmas.List.{append-nil}
use Rattle.h5w_model.specs.Numbers.{range}
use Rattle.h5w_model.specs.Checked.{viewed}
use Rattle.h5w_model.specs.Programs.{Prog, ret, eval, and_then}
use Rattle.h5w_model.specs.Datasets.{FoundMessage, HeaderFields, Described, root_header, linked, then_also, refused_as}
use Rattle.h5w_model.specs.Tables.{Limits, format_limits, each_of}
use Rattle.h5w_model.specs.Findings.{Finding, Used, Summary, AllSummary, Part, check, check_all, checked_super, checked_root, checked_dataset, checked_names, checked_part, header_ranges, index_visit, by_place, overlap_of, summary, verdict, all_summary, all_verdict, the_superblock, found, no_link, bad_root}
use Rattle.h5w_model.specs.declared.root.Super.{Super}
use Rattle.h5w_model.specs.declared.refusal.ReadError.{ReadError}
use Rattle.h5w_laws.specs.Several.{alone, OneName}
use Rattle.h5w_laws.proofs.ProgramLemmas.{eval_bind, eval_and_then}
use Rattle.h5w_laws.proofs.LinkLemmas.{link_step, of_names, links_step, root_step, names_step, eval_names, of_all, parts_step, all_step}
use Rattle.h5w_laws.proofs.RangeLemmas.{of_root}

-- ---- Answers one after another

then_then : {A B C E : Type 0} (r : Result A E) (f : A → Result B E) (g : B → Result C E) → then_also (then_also r f) g ≡ then_also r (λ a. then_also (f a) g)
then_then (Ok a) f g = refl
then_then (Err e) f g = refl

then_as : {A B E : Type 0} (r : Result A E) (f g : A → Result B E) → ((a : A) → f a ≡ g a) → then_also r f ≡ then_also r g
then_as (Ok a) f g h = h a
then_as (Err e) f g h = refl

viewed_then : {A B C E : Type 0} (v : B → C) (r : Result A E) (f : A → Result B E) → viewed v (then_also r f) ≡ then_also r (λ a. viewed v (f a))
viewed_then v (Ok a) f = refl
viewed_then v (Err e) f = refl

-- ---- One link

-- one place as all places
abbrev as_names : ℕ × List Used → Result (List ℕ × List Used) Finding
as_names t = Ok (t.0 ∷ [], t.1)

abbrev own_link : Super → HeaderFields → List ℕ → List Used → Result (ℕ × List Used) Finding
own_link s h name us = then_also (refused_as (λ e. found no_link s.root) (linked name h.messages)) (λ at. of_root (at, us))

abbrev own_root : Super → List ℕ → HeaderFields → Result (ℕ × List Used) Finding
own_root s name h = then_also (header_ranges s.end h.ranges) (own_link s h name)

link_alone : (s : Super) (ms : List FoundMessage) (us : List Used) (q : Result ℕ Finding)
    → then_also (then_also q (link_step s.root [] [] ms)) (λ places. of_names (places, us)) ≡ then_also (then_also q (λ at. of_root (at, us))) as_names
link_alone s ms us (Ok at) = refl
link_alone s ms us (Err f) = refl

root_alone : (s : Super) (name : List ℕ) (r : Result HeaderFields ReadError)
    → names_step (name ∷ []) s r ≡ then_also (then_also (refused_as (λ e. found bad_root s.root) r) (own_root s name)) as_names
root_alone s name r =
    let q : Result HeaderFields Finding = refused_as (λ e. found bad_root s.root) r in
    then_as q (root_step (name ∷ []) s) (λ h. then_also (own_root s name h) as_names)
    (λ h.
    then_as (header_ranges s.end h.ranges) (links_step (name ∷ []) s h) (λ us. then_also (own_link s h name us) as_names)
    (λ us. link_alone s h.messages us (refused_as (λ e. found no_link s.root) (linked name h.messages)))
    ∙ sym (then_then (header_ranges s.end h.ranges) (own_link s h name) as_names))
    ∙ sym (then_then q (own_root s name) as_names)

names_alone : (img name : List ℕ) (s : Super) → eval img (checked_names (name ∷ []) s) ≡ then_also (eval img (checked_root name s)) as_names
names_alone img name s =
    eval_names img (name ∷ []) s
    ∙ root_alone s name (eval img (root_header s.root))
    ∙ ap (λ (r : Result (ℕ × List Used) Finding). then_also r as_names)
    (sym (eval_bind img (root_header s.root) (λ r. ret (then_also (refused_as (λ e. found bad_root s.root) r) (own_root s name)))))

-- ---- One dataset

-- the verdict of one is that of all
verdict_alone : (s : Super) (p : Part) (us : List Used) → all_verdict s (p ∷ []) us ≡ viewed alone (verdict s p.dataset us)
verdict_alone s p us = go (overlap_of (by_place us))
  where
    go : (o : Option Finding) → elim o as (λ _. Result AllSummary Finding) [ None ↦ Ok (all_summary s (p ∷ []) us) | Some f ↦ Err f ]
        ≡ viewed alone (elim o as (λ _. Result Summary Finding) [ None ↦ Ok (summary s p.dataset us) | Some f ↦ Err f ])
    go None = refl
    go (Some f) = refl

abbrev part_of : ℕ → Described × List Used → List Used → Part
part_of at d us = record { place = at; dataset = d.0; ranges = d.1 ++ us }

abbrev as_part : ℕ → Described × List Used → List Used → Result Part Finding
as_part at d us = Ok (part_of at d us)

abbrev as_parts : Part → Result (List Part) Finding
as_parts p = Ok (p ∷ [])

ranges_alone : (root own us : List Used) → the_superblock ∷ root ++ ((own ++ us) ++ []) ≡ the_superblock ∷ root ++ own ++ us
ranges_alone root own us =
    ap (λ (vs : List Used). the_superblock ∷ vs) (ap (λ (vs : List Used). root ++ vs) (append-nil (own ++ us)) ∙ sym (append_assoc root own us))

-- the check's verdict on one dataset
abbrev own_verdict : Super → List Used → Described × List Used → List Used → Result Summary Finding
own_verdict s root d us = verdict s d.0 (the_superblock ∷ root ++ d.1 ++ us)

part_verdict : (s : Super) (root : List Used) (at : ℕ) (d : Described × List Used) (us : List Used) → of_all s root (part_of at d us ∷ []) ≡ viewed alone (own_verdict s root d us)
part_verdict s root at d us =
    ap (all_verdict s (part_of at d us ∷ [])) (ranges_alone root d.1 us) ∙ verdict_alone s (part_of at d us) (the_superblock ∷ root ++ d.1 ++ us)

abbrev own_index : Super → List Used → Described × List Used → Prog (Result Summary Finding)
own_index s root d = and_then (index_visit s.end d.0) (λ us. ret (own_verdict s root d us))

abbrev own_dataset : Limits → Super → ℕ × List Used → Prog (Result Summary Finding)
own_dataset limits s root = and_then (checked_dataset limits s root.0) (own_index s root.1)

abbrev part_index : Super → ℕ → Described × List Used → Prog (Result Part Finding)
part_index s at d = and_then (index_visit s.end d.0) (λ us. ret (as_part at d us))

index_alone : (img : List ℕ) (s : Super) (root : List Used) (at : ℕ) (d : Described × List Used)
    → then_also (then_also (eval img (part_index s at d)) as_parts) (of_all s root) ≡ viewed alone (eval img (own_index s root d))
index_alone img s root at d =
    let y : Result (List Used) Finding = eval img (index_visit s.end d.0) in
    ap (λ (r : Result Part Finding). then_also (then_also r as_parts) (of_all s root)) (eval_and_then img (index_visit s.end d.0) (λ us. ret (as_part at d us)))
    ∙ ap (λ (r : Result (List Part) Finding). then_also r (of_all s root)) (then_then y (as_part at d) as_parts)
    ∙ then_then y (λ us. as_parts (part_of at d us)) (of_all s root)
    ∙ then_as y (λ us. of_all s root (part_of at d us ∷ [])) (λ us. viewed alone (own_verdict s root d us)) (λ us. part_verdict s root at d us)
    ∙ sym (viewed_then alone y (own_verdict s root d))
    ∙ ap (viewed alone) (sym (eval_and_then img (index_visit s.end d.0) (λ us. ret (own_verdict s root d us))))

dataset_alone : (img : List ℕ) (limits : Limits) (s : Super) (root : ℕ × List Used) → eval img (parts_step limits s (root.0 ∷ [], root.1)) ≡ viewed alone (eval img (own_dataset limits s root))
dataset_alone img limits s root =
    let at : ℕ = root.0 in
    let x : Result (Described × List Used) Finding = eval img (checked_dataset limits s at) in
    eval_and_then img (each_of (checked_part limits s) (at ∷ [])) (λ parts. ret (of_all s root.1 parts))
    ∙ ap (λ (r : Result (List Part) Finding). then_also r (of_all s root.1)) (eval_and_then img (checked_part limits s at) (λ p. ret (as_parts p)))
    ∙ ap (λ (r : Result Part Finding). then_also (then_also r as_parts) (of_all s root.1)) (eval_and_then img (checked_dataset limits s at) (part_index s at))
    ∙ ap (λ (r : Result (List Part) Finding). then_also r (of_all s root.1)) (then_then x (λ d. eval img (part_index s at d)) as_parts)
    ∙ then_then x (λ d. then_also (eval img (part_index s at d)) as_parts) (of_all s root.1)
    ∙ then_as x (λ d. then_also (then_also (eval img (part_index s at d)) as_parts) (of_all s root.1)) (λ d. viewed alone (eval img (own_index s root.1 d)))
    (λ d. index_alone img s root.1 at d)
    ∙ sym (viewed_then alone x (λ d. eval img (own_index s root.1 d)))
    ∙ ap (viewed alone) (sym (eval_and_then img (checked_dataset limits s at) (own_index s root.1)))

abbrev own_step : Limits → List ℕ → Super → Prog (Result Summary Finding)
own_step limits name s = and_then (checked_root name s) (own_dataset limits s)

super_alone : (img name : List ℕ) (limits : Limits) (s : Super) → eval img (all_step limits (name ∷ []) s) ≡ viewed alone (eval img (own_step limits name s))
super_alone img name limits s =
    let x : Result (ℕ × List Used) Finding = eval img (checked_root name s) in
    eval_and_then img (checked_names (name ∷ []) s) (parts_step limits s)
    ∙ ap (λ (r : Result (List ℕ × List Used) Finding). then_also r (λ root. eval img (parts_step limits s root))) (names_alone img name s)
    ∙ then_then x as_names (λ root. eval img (parts_step limits s root))
    ∙ then_as x (λ root. eval img (parts_step limits s (root.0 ∷ [], root.1))) (λ root. viewed alone (eval img (own_dataset limits s root))) (λ root. dataset_alone img limits s root)
    ∙ sym (viewed_then alone x (λ root. eval img (own_dataset limits s root)))
    ∙ ap (viewed alone) (sym (eval_and_then img (checked_root name s) (own_dataset limits s)))

-- ---- The check

check_alone : (limits : Limits) (img name : List ℕ) (size : ℕ) → eval img (check_all limits (name ∷ []) size) ≡ viewed alone (eval img (check limits name size))
check_alone limits img name size =
    let x : Result Super Finding = checked_super size (range img 0 48) in
    eval_and_then img (ret x) (all_step limits (name ∷ []))
    ∙ then_as x (λ s. eval img (all_step limits (name ∷ []) s)) (λ s. viewed alone (eval img (own_step limits name s))) (λ s. super_alone img name limits s)
    ∙ sym (viewed_then alone x (λ s. eval img (own_step limits name s)))
    ∙ ap (viewed alone) (sym (eval_and_then img (ret x) (own_step limits name)))

abbrev pub of_summary : AllSummary → Result AllSummary Finding
of_summary t = Ok t

pub same_summary : (t u : AllSummary) → of_summary t ≡ of_summary u → t ≡ u
same_summary t u h = cc

abbrev of_finding : Finding → Result AllSummary Finding
of_finding f = Err f

same_finding : (f g : Finding) → of_finding f ≡ of_finding g → f ≡ g
same_finding f g h = cc

abbrev own_summary : Summary → Result Summary Finding
own_summary s = Ok s

abbrev own_finding : Finding → Result Summary Finding
own_finding f = Err f

alone_back : (r : Result Summary Finding) (t : AllSummary) → viewed alone r ≡ of_summary t → (s : Summary) × (r ≡ own_summary s) × (t ≡ alone s)
alone_back (Ok s) t h = (s, refl, sym (same_summary (alone s) t h))
alone_back (Err f) t h = absurd cc

alone_found : (r : Result Summary Finding) (f : Finding) → viewed alone r ≡ of_finding f → r ≡ own_finding f
alone_found (Ok s) f h = absurd cc
alone_found (Err g) f h = ap own_finding (same_finding g f h)

pub one_name : OneName
one_name = record {
  same = check_alone;
  valid = λ img name s h. check_alone format_limits img name (length img) ∙ ap (viewed alone) h;
  back = λ img name t h. alone_back (eval img (check format_limits name (length img))) t (sym (check_alone format_limits img name (length img)) ∙ h);
  finds = λ img name f. (
    (λ h. check_alone format_limits img name (length img) ∙ ap (viewed alone) h),
    (λ h. alone_found (eval img (check format_limits name (length img))) f (sym (check_alone format_limits img name (length img)) ∙ h)),
  );
}
