-- The dataset header.
use Rattle.std.proofs.Common.{◌≡◌, ℕ, Bool, true, false, cond, List, ◌++◌, Result, Ok, Err, refl, ◌∙◌, ap}
use Rattle.std.specs.Prelude.{nat_lt}
use Rattle.h5w_model.specs.Numbers.{range}
use Rattle.h5w_model.specs.Programs.{ret, eval}
use Rattle.h5w_model.specs.Headers.{header_view}
use Rattle.h5w_model.specs.Datasets.{HeaderFields, Described, dataset_messages, described, then_also, refused_as}
use Rattle.h5w_model.specs.Tables.{format_limits, limit_of, needed}
use Rattle.h5w_model.specs.Findings.{Used, Finding, found, header_ranges, checked_dataset, dataset_finding}
use Rattle.h5w_model.specs.declared.root.Super.{Super}
use Rattle.h5w_model.specs.declared.refusal.Unsupported.{Unsupported}
use Rattle.h5w_model.specs.declared.refusal.ReadError.{ReadError}
use Rattle.h5w_laws.proofs.ProgramLemmas.{eval_bind}
use Rattle.h5w_check.specs.Described.{known}
use Rattle.h5w_check.specs.Ranges.{after}
use Rattle.h5w_check.specs.Roots.{dataset_after}

abbrev pub dataset_found : List ℕ → ℕ → Result HeaderFields Finding
dataset_found img place = refused_as (dataset_finding place) (eval img (dataset_messages place (header_view (range img place 512))))

-- what follows the dataset header's messages
abbrev pub dataset_rest : ℕ → ℕ → List Used → HeaderFields → Result (Described × List Used) Finding
dataset_rest end place old h = then_also (after old (header_ranges end h.ranges)) (λ mid. then_also (known place h.messages) (λ d. Ok (d, mid)))

few_enough : (at : ℕ) (d : Described) (old us : List Used) (c : Bool)
    → dataset_after old (cond c (Err (found 20 at)) (Ok (d, us))) ≡ then_also (cond c (Err (found 20 at)) (Ok d)) (λ d. Ok (d, old ++ us))
few_enough p d old us true = refl
few_enough p d old us false = refl

described_then : (at : ℕ) (old us : List Used) (r : Result Described Unsupported)
    → dataset_after old (then_also (refused_as (λ e. found 9 at) r) (λ d. cond (nat_lt (limit_of format_limits d.layout.index) (needed d)) (Err (found 20 at)) (Ok (d, us))))
    ≡ then_also (then_also (refused_as (λ e. found 9 at) r) (λ d. cond (nat_lt (limit_of format_limits d.layout.index) (needed d)) (Err (found 20 at)) (Ok d))) (λ d. Ok (d, old ++ us))
described_then p old us (Ok d) = few_enough p d old us (nat_lt (limit_of format_limits d.layout.index) (needed d))
described_then p old us (Err e) = refl

ranges_then : (at : ℕ) (old : List Used) (us : Result (List Used) Finding) (r : Result Described Unsupported)
    → dataset_after old (then_also us (λ us. then_also (refused_as (λ e. found 9 at) r) (λ d. cond (nat_lt (limit_of format_limits d.layout.index) (needed d)) (Err (found 20 at)) (Ok (d, us)))))
    ≡ then_also (after old us) (λ mid. then_also (then_also (refused_as (λ e. found 9 at) r) (λ d. cond (nat_lt (limit_of format_limits d.layout.index) (needed d)) (Err (found 20 at)) (Ok d))) (λ d. Ok (d, mid)))
ranges_then p old (Ok us) r = described_then p old us r
ranges_then p old (Err f) r = refl

messages_then : (end at : ℕ) (old : List Used) (r : Result HeaderFields ReadError)
    → dataset_after old (then_also (refused_as (dataset_finding at) r) (λ h. then_also (header_ranges end h.ranges) (λ us. then_also (refused_as (λ e. found 9 at) (described h.messages)) (λ d.
    cond (nat_lt (limit_of format_limits d.layout.index) (needed d)) (Err (found 20 at)) (Ok (d, us))))))
    ≡ then_also (refused_as (dataset_finding at) r) (dataset_rest end at old)
messages_then end p old (Ok h) = ranges_then p old (header_ranges end h.ranges) (described h.messages)
messages_then end p old (Err e) = refl

pub dataset_parts : (img : List ℕ) (s : Super) (at : ℕ) (old : List Used) → dataset_after old (eval img (checked_dataset format_limits s at)) ≡ then_also (dataset_found img at) (dataset_rest s.end at old)
dataset_parts img s p old =
    ap (dataset_after old) (eval_bind img (dataset_messages p (header_view (range img p 512))) (λ r. ret (
    then_also (refused_as (dataset_finding p) r) (λ h. then_also (header_ranges s.end h.ranges) (λ us. then_also (refused_as (λ e. found 9 p) (described h.messages)) (λ d.
    cond (nat_lt (limit_of format_limits d.layout.index) (needed d)) (Err (found 20 p)) (Ok (d, us))))))))
    ∙ messages_then s.end p old (eval img (dataset_messages p (header_view (range img p 512))))
