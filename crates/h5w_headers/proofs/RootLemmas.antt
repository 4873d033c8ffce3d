-- The root header, and the place that a link gives.
use Rattle.std.proofs.Common.{◌≡◌, ℕ, ◌+◌, ◌-◌, ◌<◌, ◌≤◌, Bool, cond, List, [], ◌∷◌, ◌++◌, map, take, Result, Ok, Err, refl, ◌∙◌, ap, inl, inr}
use Rattle.std.specs.Prelude.{nat_lt}
use Rattle.std.proofs.lemmas.Bool.{lt-ltb, le-ltb}
use Rattle.h5w_model.specs.Numbers.{range}
use Rattle.h5w_model.specs.Programs.{Prog, ret, whole, eval}
use Rattle.h5w_model.specs.Headers.{prefix_at, header_view}
use Rattle.h5w_model.specs.Datasets.{HeaderFields, header_refusal, root_view, linked, then_also, refused_as}
use Rattle.h5w_model.specs.Datasets as model
use Rattle.h5w_model.specs.Links.{LinkFields, links_at, find_link}
use Rattle.h5w_model.specs.declared.message.Msg.{Msg}
use Rattle.h5w_model.specs.declared.message.Prefix.{Prefix}
use Rattle.h5w_model.specs.declared.refusal.HeaderError.{HeaderError}
use Rattle.h5w_model.specs.declared.refusal.LinkError.{LinkError}
use Rattle.h5w_model.specs.declared.refusal.ReadError.{ReadError}
use Rattle.h5w_model.specs.declared.refusal.ReadError.TheVariants.{Link}
use Rattle.h5w_laws.proofs.PrefixLemmas.{root_view_says, prefix_front, begins}
use Rattle.h5w_headers.specs.Walks.{from_chunk_0_for, root_header_for}
use Rattle.h5w_dataset.specs.Founds.{found_of, founds, listed}
use Rattle.h5w_headers.specs.Headers.{whole_chunk_0}
use Rattle.h5w_dataset.specs.declared.found.FoundMessage.{FoundMessage}
use Rattle.h5w_headers.proofs.ViewLemmas.{view_refused, root_view_refused}

-- given what its first bytes say
rooted : List ℕ → Bool → ℕ → List ℕ → Result Prefix HeaderError → Result HeaderFields ReadError
rooted img writes place first r = eval img (elim r as (λ _. Prog (Result HeaderFields ReadError)) [
  | Ok p ↦ cond (nat_lt 512 p.total) (whole (place + 512) (p.total - 512) (λ rest. from_chunk_0_for writes place p (first ++ rest))) (from_chunk_0_for writes place p first)
  | Err e ↦ ret (Err (header_refusal place e))
])

root_is : (img : List ℕ) (writes : Bool) (place : ℕ) → eval img (root_header_for writes place) ≡ rooted img writes place (root_view (range img place 512)) (prefix_at (root_view (range img place 512)))
unfolding rooted
root_is img writes place = refl

rooted_long : (img : List ℕ) (writes : Bool) (place : ℕ) (first : List ℕ) (p : Prefix) → 512 < p.total
    → rooted img writes place first (Ok p) ≡ eval img (from_chunk_0_for writes place p (whole_chunk_0 img place p.total first))
unfolding rooted
rooted_long img writes place first p long = rw (lt-ltb 512 p.total long) refl

rooted_short : (img : List ℕ) (writes : Bool) (place : ℕ) (first b : List ℕ) (p : Prefix) → p.total ≤ 512 → first ≡ take p.total b
    → rooted img writes place first (Ok p) ≡ eval img (from_chunk_0_for writes place p (whole_chunk_0 img place p.total b))
unfolding rooted
rooted_short img writes place first b p short e = rw (le-ltb 512 p.total short, e) refl

pub root_ok : (img : List ℕ) (writes : Bool) (place : ℕ) (p : Prefix) → prefix_at (range img place 512) ≡ Ok p
    → eval img (root_header_for writes place) ≡ eval img (from_chunk_0_for writes place p (whole_chunk_0 img place p.total (range img place 512)))
root_ok img writes place p e =
    let b = range img place 512 in
    root_is img writes place
    ∙ elim (root_view_says b p e) as (λ _. rooted img writes place (root_view b) (prefix_at (root_view b)) ≡ eval img (from_chunk_0_for writes place p (whole_chunk_0 img place p.total b))) [
      | inl long ↦ ap (λ (v : List ℕ). rooted img writes place v (prefix_at v)) long.1 ∙ ap (rooted img writes place b) e ∙ rooted_long img writes place b p long.0
      | inr short ↦
          let start = begins b p e in
          let says : prefix_at (root_view b) ≡ Ok p = ap prefix_at short.1 ∙ prefix_front b p.total p start.inside e in
          ap (rooted img writes place (root_view b)) says ∙ rooted_short img writes place (root_view b) b p short.0 short.1
    ]

pub root_err : (img : List ℕ) (writes : Bool) (place : ℕ) (e : HeaderError) → prefix_at (range img place 512) ≡ Err e → eval img (root_header_for writes place) ≡ Err (header_refusal place e)
unfolding rooted
root_err img writes place e h =
    let b = range img place 512 in
    root_is img writes place ∙ ap (λ (v : List ℕ). rooted img writes place v (prefix_at v)) (root_view_refused b e h) ∙ ap (rooted img writes place (header_view b)) (view_refused b e h)
