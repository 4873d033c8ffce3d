-- The dataset header.
use Rattle.std.proofs.Common.{◌≡◌, ℕ, ◌-◌, ◌<◌, ◌≤◌, Bool, cond, List, ◌++◌, length, take, Result, Ok, Err, refl, ◌∙◌, ap}
use Rattle.std.specs.Prelude.{nat_lt}
use Rattle.std.proofs.lemmas.Bool.{lt-ltb, le-ltb}
use Rattle.std.proofs.lemmas.List.{take_at}
use Rattle.h5w_model.specs.Numbers.{range}
use Rattle.h5w_model.specs.Programs.{Prog, ret, eval}
use Rattle.h5w_model.specs.Headers.{prefix_at, header_view, zeros}
use Rattle.h5w_model.specs.Datasets.{HeaderFields, header_refusal}
use Rattle.h5w_model.specs.declared.message.Prefix.{Prefix}
use Rattle.h5w_model.specs.declared.refusal.HeaderError.{HeaderError}
use Rattle.h5w_model.specs.declared.refusal.ReadError.{ReadError}
use Rattle.h5w_model.specs.declared.refusal.ReadError.TheVariants as read_errors
use Rattle.h5w_laws.proofs.PrefixLemmas.{header_view_short, prefix_front, prefix_whole, begins}
use Rattle.h5w_headers.specs.Walks.{from_chunk_0_for, dataset_header_for}
use Rattle.h5w_headers.proofs.ViewLemmas.{view_given, view_is, view_refused}

-- given what its first bytes say
headed : List ℕ → Bool → ℕ → List ℕ → Result Prefix HeaderError → Result HeaderFields ReadError
headed img writes place v r = eval img (elim r as (λ _. Prog (Result HeaderFields ReadError)) [
  | Ok p ↦ cond (nat_lt 512 p.total) (ret (Err (read_errors.Unsupported (record { 0 = 1 })))) (from_chunk_0_for writes place p v)
  | Err e ↦ ret (Err (header_refusal place e))
])

headed_is : (img : List ℕ) (writes : Bool) (place : ℕ) → eval img (dataset_header_for writes place) ≡ headed img writes place (header_view (range img place 512)) (prefix_at (header_view (range img place 512)))
unfolding headed
headed_is img writes place = refl

pub dataset_short : (img : List ℕ) (writes : Bool) (place : ℕ) (p : Prefix) → prefix_at (range img place 512) ≡ Ok p → p.total ≤ 512
    → eval img (dataset_header_for writes place) ≡ eval img (from_chunk_0_for writes place p (take p.total (range img place 512)))
unfolding headed
dataset_short img writes place p e short =
    let b = range img place 512 in
    let start = begins b p e in
    let view : header_view b ≡ take p.total b = header_view_short b p e short in
    let says : prefix_at (take p.total b) ≡ Ok p = prefix_front b p.total p start.inside e in
    headed_is img writes place
    ∙ ap (λ (v : List ℕ). headed img writes place v (prefix_at v)) view
    ∙ ap (headed img writes place (take p.total b)) says
    ∙ ap (λ c. eval img (cond c (ret (Err (read_errors.Unsupported (record { 0 = 1 })))) (from_chunk_0_for writes place p (take p.total b)))) (le-ltb 512 p.total short)

view_long : (b : List ℕ) (p : Prefix) → prefix_at b ≡ Ok p → 512 < p.total → header_view b ≡ b ++ zeros (512 - length b)
view_long b p e long = view_is b ∙ ap (view_given b) e ∙ ap (λ c. cond c (b ++ zeros (512 - length b)) (take p.total b)) (lt-ltb 512 p.total long)

pub dataset_long : (img : List ℕ) (writes : Bool) (place : ℕ) (p : Prefix) → prefix_at (range img place 512) ≡ Ok p → 512 < p.total
    → eval img (dataset_header_for writes place) ≡ Err (read_errors.Unsupported (record { 0 = 1 }))
unfolding headed
dataset_long img writes place p e long =
    let b = range img place 512 in
    let z = zeros (512 - length b) in
    let says : prefix_at (b ++ z) ≡ Ok p = prefix_whole (b ++ z) (length b) p (ap prefix_at (take_at b z (length b) refl) ∙ e) in
    headed_is img writes place
    ∙ ap (λ (v : List ℕ). headed img writes place v (prefix_at v)) (view_long b p e long)
    ∙ ap (headed img writes place (b ++ z)) says
    ∙ ap (λ c. eval img (cond c (ret (Err (read_errors.Unsupported (record { 0 = 1 })))) (from_chunk_0_for writes place p (b ++ z)))) (lt-ltb 512 p.total long)

pub dataset_err : (img : List ℕ) (writes : Bool) (place : ℕ) (e : HeaderError) → prefix_at (range img place 512) ≡ Err e → eval img (dataset_header_for writes place) ≡ Err (header_refusal place e)
unfolding headed
dataset_err img writes place e h = headed_is img writes place ∙ ap (headed img writes place (header_view (range img place 512))) (view_refused (range img place 512) e h)
