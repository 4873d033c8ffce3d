-- The check of a whole file, step by step.
use Rattle.std.proofs.Common.{arith, ◌≡◌, ◌^◌, ◌<◌, ℕ, List, [], ◌∷◌, length, Option, Some, Result, Ok, Err, refl, ◌∙◌, ap, subst}
use Rattle.std.specs.Prelude.{IfSome, IsTrue}
use Rattle.h5w_model.specs.Numbers.{range}
use Rattle.h5w_model.specs.Programs.{Prog, ret, eval, and_then}
use Rattle.h5w_model.specs.Datasets.{then_also}
use Rattle.h5w_model.specs.Tables.{each_of, format_limits}
use Rattle.h5w_model.specs.Findings.{Used, Finding, Part, AllSummary, check_all, checked_super, checked_names, checked_part, the_superblock}
use Rattle.h5w_model.specs.declared.root.Super.{Super}
use Rattle.h5w_image.specs.View.{ImageView}
use Rattle.h5w_laws.proofs.ProgramLemmas.{eval_and_then}
use Rattle.h5w_laws.proofs.LinkLemmas.{of_all}
use Rattle.h5w_check.specs.Ran.{Ran, Tells}
use Rattle.h5w_check.specs.Roots.{names_after, parts_after}
use Rattle.h5w_check.specs.Verdicts.{datasets_found, verdict_with}
use Rattle.h5w_check.specs.declared.error.CheckError.{CheckError}

-- what follows the datasets
abbrev pub verdict_rest : Super → List ℕ × List Used → Result AllSummary Finding
verdict_rest s x = verdict_with s x.0 x.1

parts_given : (s : Super) (root : List Used) (r : Result (List Part) Finding) → then_also r (of_all s root) ≡ then_also (parts_after [] (the_superblock ∷ root) r) (verdict_rest s)
parts_given s root (Ok parts) = refl
parts_given s root (Err f) = refl

names_given : (img : List ℕ) (s : Super) (r : Result (List ℕ × List Used) Finding)
    → then_also r (λ root. then_also (eval img (each_of (checked_part format_limits s) root.0)) (of_all s root.1))
    ≡ then_also (then_also (names_after (the_superblock ∷ []) r) (λ x. parts_after [] x.1 (eval img (each_of (checked_part format_limits s) x.0)))) (verdict_rest s)
names_given img s (Ok root) = parts_given s root.1 (eval img (each_of (checked_part format_limits s) root.0))
names_given img s (Err f) = refl

-- what follows the superblock
abbrev pub super_rest : List ℕ → List (List ℕ) → Super → Result AllSummary Finding
super_rest img names s = then_also (datasets_found names s img) (verdict_rest s)

pub check_parts : (img : List ℕ) (names : List (List ℕ)) (size : ℕ) → eval img (check_all format_limits names size) ≡ then_also (checked_super size (range img 0 48)) (super_rest img names)
check_parts img names size =
    eval_and_then img (ret (checked_super size (range img 0 48))) on_super
    ∙ ap (then_also (checked_super size (range img 0 48))) (λ i s. eval_and_then img (checked_names names s) (on_names s) i)
    ∙ ap (then_also (checked_super size (range img 0 48))) (λ i s. then_also (eval img (checked_names names s)) (λ root. eval_and_then img (each_of (checked_part format_limits s) root.0) (λ parts. ret (of_all s root.1 parts)) i))
    ∙ ap (then_also (checked_super size (range img 0 48))) (λ i s. names_given img s (eval img (checked_names names s)) i)
  where
    on_names : Super → List ℕ × List Used → Prog (Result AllSummary Finding)
    on_names s root = and_then (each_of (checked_part format_limits s) root.0) (λ parts. ret (of_all s root.1 parts))

    on_super : Super → Prog (Result AllSummary Finding)
    on_super s = and_then (checked_names names s) (on_names s)

-- the size is the image's length
pub checks : {v w : ImageView} (names : List (List ℕ)) (size : ℕ) (answer : Result AllSummary CheckError) → size < 2 ^ 64 → IfSome v.bytes (λ img. size ≡ length img)
    → Ran v w (λ img. eval img (check_all format_limits names size)) answer → (img : List ℕ) → v.bytes ≡ Some img → IsTrue v.alone → Tells (eval img (check_all format_limits names (length img))) answer
checks {v} {w} names size answer low is ran img told alone =
    let e : size ≡ length img = subst (λ (o : Option (List ℕ)). IfSome o (λ x. size ≡ length x)) told is in
    let short : length img < 2 ^ 64 = omega arith in
    subst (λ n. Tells (eval img (check_all format_limits names n)) answer) e (ran.exact img (record { told = told; alone = alone; short = short }))
