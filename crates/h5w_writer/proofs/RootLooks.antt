-- A root header without continuation blocks, within 512 bytes: one look is all.
use Rattle.std.proofs.Common.{◌≡◌, ℕ, ◌+◌, ◌-◌, ◌<◌, ◌≤◌, cond, List, [], ◌∷◌, ◌++◌, length, Result, Ok, refl, sym, ◌∙◌, ap, inl, inr, arith}
use Rattle.std.specs.Prelude.{nat_lt, if◌then◌else◌}
use Rattle.std.proofs.lemmas.Bool.{ltb-true, cases_Bool}
use Rattle.h5w_model.specs.Numbers.{range}
use Rattle.h5w_model.specs.Programs.{Prog, whole, eval, visits, Visit}
use Rattle.h5w_model.specs.Headers.{prefix_at}
use Rattle.h5w_model.specs.Datasets.{Range, HeaderFields, from_chunk_0, root_view, root_header, header_refusal}
use Rattle.h5w_model.specs.Findings.{Used, checked_root}
use Rattle.h5w_model.specs.declared.message.Prefix.{Prefix}
use Rattle.h5w_model.specs.declared.root.Super.{Super}
use Rattle.h5w_model.specs.declared.refusal.ReadError.{ReadError}
use Rattle.h5w_laws.proofs.ResultLemmas.{choice_ok}
use Rattle.h5w_step_laws.specs.Ranges.{block_at}
use Rattle.h5w_step_laws.proofs.HeaderLaws.{root_parts}
use Rattle.h5w_step_laws.proofs.HeaderVisits.{used_of, looks_of, choice_looks, from_chunk_walked}

abbrev pub first_len : List Used → ℕ
first_len [] = 0
first_len (u ∷ us) = u.len

-- one range alone
one_range : (place a b : ℕ) (rs : List Range) → block_at place a ∷ [] ≡ used_of (record { place = place; len = b } ∷ rs) → (a ≡ b) × (rs ≡ [])
one_range place a b [] e = (ap (λ (us : List Used). first_len us) e, refl)
one_range place a b (r ∷ rs) e = absurd (omega (arith, ap length e))

look_alone : (img : List ℕ) (place n : ℕ) (h : HeaderFields) → eval img (root_header place) ≡ Ok h → block_at place n ∷ [] ≡ used_of h.ranges → n ≤ 512
    → visits img (root_header place) ≡ record { place = place; len = 512; counts = root_view } ∷ []
look_alone img place n h e all short =
    let first : List ℕ = root_view (range img place 512) in
    let more : Prefix → List ℕ → Prog (Result HeaderFields ReadError) = λ p rest. from_chunk_0 place p (first ++ rest) in
    let long_chunk : Prefix → Prog (Result HeaderFields ReadError) = λ p. whole (place + 512) (p.total - 512) (more p) in
    let go : Prefix → Prog (Result HeaderFields ReadError) = λ p. if nat_lt 512 p.total then long_chunk p else from_chunk_0 place p first in
    let d = choice_ok img (prefix_at first) go (header_refusal place) h e in
    let p : Prefix = d.0 in
    let look : Visit = record { place = place; len = 512; counts = root_view } in
    let seen : visits img (root_header place) ≡ look ∷ visits img (go p) = ap (λ (vs : List Visit). look ∷ vs) (choice_looks img (prefix_at first) go (header_refusal place) p d.1) in
    elim (cases_Bool (nat_lt 512 p.total)) [
      | inl t ↦
          let w = from_chunk_walked img place p (first ++ range img (place + 512) (p.total - 512)) h (ap (λ c. eval img (cond c (long_chunk p) (from_chunk_0 place p first))) (sym t) ∙ d.2) in
          let one = one_range place n p.total w.blocks (all ∙ ap (λ (rs : List Range). used_of rs) w.ranges) in
          let past : 512 < p.total = ltb-true 512 p.total t in
          absurd (omega (arith, one.0, short, past))
      | inr t ↦
          let w = from_chunk_walked img place p first h (ap (λ c. eval img (cond c (long_chunk p) (from_chunk_0 place p first))) (sym t) ∙ d.2) in
          let one = one_range place n p.total w.blocks (all ∙ ap (λ (rs : List Range). used_of rs) w.ranges) in
          seen
          ∙ ap (λ c. look ∷ visits img (cond c (long_chunk p) (from_chunk_0 place p first))) t
          ∙ ap (λ (vs : List Visit). look ∷ vs) (w.looks ∙ ap (λ (rs : List Range). looks_of rs) one.1)
    ]

pub root_alone : (img name : List ℕ) (s : Super) (place n : ℕ) → eval img (checked_root name s) ≡ Ok (place, block_at s.root n ∷ []) → n ≤ 512
    → visits img (root_header s.root) ≡ record { place = s.root; len = 512; counts = root_view } ∷ []
root_alone img name s place n checked short =
    let p = root_parts img name s place (block_at s.root n ∷ []) checked in
    look_alone img s.root n p.header p.read p.ranges short
