-- The way from the superblock to the messages of the root header.
use Rattle.std.proofs.Common.{◌≡◌, ℕ, ◌+◌, ◌-◌, ◌<◌, ◌≤◌, ◌^◌, true, false, cond, ltb, List, [], ◌++◌, Result, Ok, Err, refl, ◌∙◌, ap, arith}
use Rattle.std.specs.Global.{Vec}
use Rattle.std.proofs.lemmas.Bool.{lt-ltb, le-ltb}
use Rattle.h5w_model.specs.Programs.{Prog, ret, whole, bind, and_then, cut_up, below_end}
use Rattle.h5w_model.specs.Headers.{prefix_at}
use Rattle.h5w_model.specs.Datasets.{HeaderFields, super_of, root_header, root_view, from_chunk_0, header_refusal}
use Rattle.h5w_model.specs.Datasets as model
use Rattle.h5w_model.specs.declared.message.Prefix.{Prefix}
use Rattle.h5w_model.specs.declared.root.Super.{Super}
use Rattle.h5w_model.specs.declared.refusal.ReadError.{ReadError}
use Rattle.h5w_model.specs.declared.refusal.HeaderError.{HeaderError}
use Rattle.h5w_lookup.specs.Looks.{plain}
use Rattle.h5w_lookup.specs.Gathering.{gather_from, cut_behind}
use Rattle.h5w_lookup.specs.Outcomes.{IsMapped}
use Rattle.h5w_lookup.specs.declared.outcome.Outcome.{Outcome}
use Rattle.h5w_lookup.proofs.OutcomeLemmas.{mapped_left}
use Rattle.h5w_dataset.specs.Founds.{founds}
use Rattle.h5w_dataset.specs.declared.found.FoundMessage.{FoundMessage}
use Rattle.h5w_reader.specs.Walking.{messages_of, chunk_0_rest, walking, walked}
use Rattle.h5w_reader.specs.Opening.{root_messages, root_rest, super_rest, first_rest, look_rest, opening, opened}
use Rattle.h5w_reader.specs.declared.walk.Block.{Block}
use Rattle.h5w_reader.specs.declared.open.Opening.{Opening}
use Rattle.h5w_reader.specs.declared.open.Opening.TheVariants.{Visit}
use Rattle.h5w_lookup.proofs.PieceLemmas.{cut_up_is, cut_up_behind}

-- what a visit of the root header's messages comes to is what the way comes to
pub opened_walked : (w : Outcome (Vec FoundMessage) Block) (o : Outcome (Vec FoundMessage) Opening) → IsMapped (λ b v. v ≡ Visit b) w o → opened o ≡ walked w
opened_walked w o mapped = mapped_left (λ fs. founds fs.items) walking Visit opening w o mapped (λ b. refl)

-- ---- The root header

-- what follows the first look, given what stands before the messages
abbrev behind_first : ℕ → List ℕ → Result Prefix HeaderError → Prog (Result HeaderFields ReadError)
behind_first place first r = elim r [
  | Ok p ↦ cond (ltb 512 p.total) (whole (place + 512) (p.total - 512) (λ rest. from_chunk_0 place p (first ++ rest))) (from_chunk_0 place p first)
  | Err e ↦ ret (Err (header_refusal place e))
]

abbrev left_first : ℕ → List ℕ → Result Prefix HeaderError → Prog (Result (List model.FoundMessage) ReadError)
left_first place first r = elim r [
  | Ok p ↦ cond (ltb 512 p.total) (bind (cut_behind first (place + 512) (p.total - 512)) (chunk_0_rest place p)) (chunk_0_rest place p first)
  | Err e ↦ ret (Err (header_refusal place e))
]

first_alike : (place : ℕ) (first : List ℕ) (r : Result Prefix HeaderError) → plain (and_then (behind_first place first r) messages_of) ≡ left_first place first r
unfolding chunk_0_rest
first_alike place first (Ok p) =
    elim (ltb 512 p.total) as (λ c. plain (and_then (cond c (whole (place + 512) (p.total - 512) (λ rest. from_chunk_0 place p (first ++ rest))) (from_chunk_0 place p first)) messages_of)
    ≡ cond c (bind (cut_behind first (place + 512) (p.total - 512)) (chunk_0_rest place p)) (chunk_0_rest place p first)) [
      | true ↦ cut_up_behind (place + 512) (p.total - 512) first (chunk_0_rest place p)
      | false ↦ refl
    ]
first_alike place first (Err e) = refl

pub root_begins : (place : ℕ) → root_rest place ≡ whole place (below_end place 512) (look_rest place)
unfolding root_rest first_rest
root_begins place = ap (whole place (below_end place 512)) (λ i b. first_alike place (root_view b) (prefix_at (root_view b)) i)

pub first_err : (place : ℕ) (first : List ℕ) (e : HeaderError) → prefix_at first ≡ Err e → first_rest place first ≡ ret (Err (header_refusal place e))
unfolding first_rest
first_err place first e h = ap (left_first place first) h

pub first_small : (place : ℕ) (first : List ℕ) (p : Prefix) → prefix_at first ≡ Ok p → p.total ≤ 512 → first_rest place first ≡ chunk_0_rest place p first
unfolding first_rest
first_small place first p h small = ap (left_first place first) h ∙ rw (le-ltb 512 p.total small) refl

pub first_long : (place : ℕ) (first : List ℕ) (p : Prefix) → prefix_at first ≡ Ok p → 512 < p.total → first_rest place first ≡ bind (cut_behind first (place + 512) (p.total - 512)) (chunk_0_rest place p)
unfolding first_rest
first_long place first p h long = ap (left_first place first) h ∙ rw (lt-ltb 512 p.total long) refl

-- no look begins at 2^64
pub gather_none : (place : ℕ) (got : List ℕ) → gather_from place 0 got ≡ ret got
unfolding gather_from
gather_none place got = refl

pub first_edge : (place : ℕ) (first : List ℕ) (p : Prefix) → prefix_at first ≡ Ok p → 512 < p.total → 2 ^ 64 ≤ place + 512 → first_rest place first ≡ chunk_0_rest place p first
first_edge place first p h long edge =
    let none : below_end (place + 512) (p.total - 512) ≡ 0 = omega arith in
    first_long place first p h long ∙ ap (λ n. bind (gather_from (place + 512) n first) (chunk_0_rest place p)) none ∙ ap (λ (q : Prog (List ℕ)). bind q (chunk_0_rest place p)) (gather_none (place + 512) first)

-- ---- The superblock

abbrev behind_super : Result Super ReadError → Prog (Result (List model.FoundMessage) ReadError)
behind_super r = elim r [ Ok s ↦ and_then (root_header s.root) messages_of | Err e ↦ ret (Err e) ]

abbrev left_super : Result Super ReadError → Prog (Result (List model.FoundMessage) ReadError)
left_super r = elim r [ Ok s ↦ root_rest s.root | Err e ↦ ret (Err e) ]

super_alike : (r : Result Super ReadError) → plain (behind_super r) ≡ left_super r
unfolding root_rest
super_alike (Ok s) = refl
super_alike (Err e) = refl

pub messages_begin : root_messages ≡ bind (cut_behind [] 0 48) super_rest
unfolding root_messages super_rest
messages_begin = ap (cut_up 0 48) (λ i b. super_alike (super_of b) i) ∙ cut_up_is 0 48 super_rest

pub super_ok : (b : List ℕ) (s : Super) → super_of b ≡ Ok s → super_rest b ≡ whole s.root (below_end s.root 512) (look_rest s.root)
unfolding super_rest
super_ok b s e = ap left_super e ∙ root_begins s.root

pub super_err : (b : List ℕ) (e : ReadError) → super_of b ≡ Err e → super_rest b ≡ ret (Err e)
unfolding super_rest
super_err b e h = ap left_super h
