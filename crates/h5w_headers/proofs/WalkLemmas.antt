-- The messages of a header, one after another.
use Rattle.std.proofs.Common.{◌≡◌, ℕ, zero, suc, ◌-◌, ◌<◌, ◌≤◌, ◌⊎◌, inl, inr, Bool, true, false, cond, ltb, List, [], ◌∷◌, ◌++◌, length, Some, None, Result, Ok, Err, refl, sym, ◌∙◌, ap, arith}
use Rattle.std.proofs.lemmas.Bool.{le-ltb, ne_eqb}
use Rattle.h5w_model.specs.Numbers.{range}
use Rattle.h5w_model.specs.Programs.{Prog, ret, whole, eval}
use Rattle.h5w_model.specs.Headers.{block_at, messages_at}
use Rattle.h5w_model.specs.Datasets.{Range, HeaderFields, found_at, block_place, block_len, splice, header_refusal, then_also, refused_as}
use Rattle.h5w_model.specs.Datasets as model
use Rattle.h5w_model.specs.declared.message.Msg.{Msg}
use Rattle.h5w_model.specs.declared.message.Prefix.{Prefix}
use Rattle.h5w_model.specs.declared.refusal.ReadError.{ReadError}
use Rattle.h5w_model.specs.declared.refusal.HeaderError.{HeaderError}
use Rattle.h5w_model.specs.declared.refusal.HeaderError.TheVariants as header_errors
use Rattle.h5w_headers.specs.Ran.{Told, seen}
use Rattle.h5w_headers.specs.Errors.{IsFindKind, find_errors, refused_header}
use Rattle.h5w_headers.specs.declared.error.FindError.TheVariants.{Refused}
use Rattle.h5w_headers.specs.Walks.{known_by, block_for, walk_for, from_chunk_0_for}
use Rattle.h5w_dataset.specs.Founds.{found_of, founds, stack}
use Rattle.h5w_headers.specs.Headers.{Visit, Passed, block_before, entered}
use Rattle.h5w_dataset.specs.declared.found.FoundMessage.{FoundMessage}
use Rattle.h5w_dataset.proofs.ListedLemmas.{stack_push, founds_push}

-- ---- Up to a continuation

pub pass_step : (visit : Visit) (visited : List Range) (done next left : List FoundMessage) (m : FoundMessage) → next ≡ left ++ m ∷ [] → (m.kind ≡ 16 → ⊥)
    → splice visit visited (founds (done ++ m ∷ [])) (stack left) ≡ splice visit visited (founds done) (stack next)
pass_step visit visited done next left m e other = rw (e, founds_push, stack_push, ne_eqb m.kind 16 other) refl

pub pass_visit : (visit : Visit) (visited : List Range) (done next left : List FoundMessage) (m : FoundMessage) → next ≡ left ++ m ∷ [] → m.kind ≡ 16
    → splice visit visited (founds done) (stack next) ≡ visit (founds done) (found_of m) (stack left)
pass_visit visit visited done next left m e is = rw (e, stack_push, is) refl

pub pass_end : (visit : Visit) (visited : List Range) (done next : List FoundMessage) → next ≡ [] → splice visit visited (founds done) (stack next) ≡ ret (Ok (record { messages = founds done; ranges = visited }))
pass_end visit visited done next e = rw e refl

-- ---- The walk

-- at the end the messages are there
pub walk_done : (img : List ℕ) (writes : Bool) (more h : ℕ) (t : Bool) (v : List Range) (done ms now rest : List model.FoundMessage) → Passed None done ms now rest
    → eval img (walk_for writes more h t v done ms) ≡ Ok (record { messages = now; ranges = v })
walk_done img writes zero h t v done ms now rest passed = ap (λ p. eval img p) (passed _ v)
walk_done img writes (suc more) h t v done ms now rest passed = ap (λ p. eval img p) (passed _ v)

-- what is left after a block
abbrev pub walk_on : Bool → ℕ → ℕ → Bool → List model.FoundMessage → List ℕ → List model.FoundMessage × List Range → Result HeaderFields ReadError
walk_on writes more h t done img x = eval img (walk_for writes more h t x.1 done x.0)

-- a block's messages given
resumed : (img : List ℕ) (writes : Bool) (more h : ℕ) (t : Bool) (w : List Range) (done rest : List model.FoundMessage) (r : Result (List model.FoundMessage) ReadError)
    → eval img (elim r as (λ _. Prog (Result HeaderFields ReadError)) [ Ok inside ↦ walk_for writes more h t w done (inside ++ rest) | Err e ↦ ret (Err e) ])
    ≡ then_also (elim (elim r as (λ _. Result (List model.FoundMessage) ReadError) [ Ok inside ↦ Ok (inside ++ rest) | Err e ↦ Err e ]) as (λ _. Result (List model.FoundMessage × List Range) ReadError) [ Ok ms ↦ Ok (ms, w) | Err f ↦ Err f ]) (walk_on writes more h t done img)
resumed img writes more h t w done rest (Ok inside) = refl
resumed img writes more h t w done rest (Err e) = refl

step_suc : (img : List ℕ) (writes : Bool) (more h : ℕ) (t : Bool) (v : List Range) (done ms now rest : List model.FoundMessage) (m : FoundMessage) → Passed (Some m) done ms now rest
    → eval img (walk_for writes (suc more) h t v done ms) ≡ then_also (entered writes t (found_of m) rest v img) (walk_on writes more h t now img)
step_suc img writes more h t v done ms now rest m passed =
    let f = found_of m in
    let p = block_place f in
    let l = block_len f in
    let small : Prog (Result HeaderFields ReadError) = ret (Err (header_refusal p (header_errors.Short 8 l))) in
    let go : Prog (Result HeaderFields ReadError) = whole p l (λ b. elim (block_for writes t p l b) as (λ _. Prog (Result HeaderFields ReadError)) [
      | Ok inside ↦ walk_for writes more h t (v ++ record { place = p; len = l } ∷ []) now (inside ++ rest)
      | Err e ↦ ret (Err e)
    ]) in
    let next : Result (List model.FoundMessage × List Range) ReadError = elim (block_before writes t p l (range img p l) rest) as (λ _. Result (List model.FoundMessage × List Range) ReadError) [
      | Ok ms ↦ Ok (ms, v ++ record { place = p; len = l } ∷ [])
      | Err e ↦ Err e
    ] in
    ap (λ q. eval img q) (passed _ v)
    ∙ elim (ltb l 8) as (λ c. eval img (cond c small go) ≡ then_also (cond c (Err (header_refusal p (header_errors.Short 8 l))) next) (walk_on writes more h t now img)) [
      | true ↦ refl
      | false ↦ resumed img writes more h t (v ++ record { place = p; len = l } ∷ []) now rest (block_for writes t p l (range img p l))
    ]

-- a block is looked at, and what it holds comes before the other messages
pub walk_step : (img : List ℕ) (writes : Bool) (more less h : ℕ) (t : Bool) (v : List Range) (done ms now rest : List model.FoundMessage) (m : FoundMessage) → 0 < more → less ≡ more - 1 → Passed (Some m) done ms now rest
    → eval img (walk_for writes more h t v done ms) ≡ then_also (entered writes t (found_of m) rest v img) (walk_on writes less h t now img)
walk_step img writes more less h t v done ms now rest m some down passed =
    let n : more ≡ suc less = omega arith in
    rw n (step_suc img writes less h t v done ms now rest m passed)

-- ---- A block

-- a refusal that a header's decoder gave, or want of memory
pub told_header : {B : Type 0} (given : Result B ReadError) (place : ℕ) (f : HeaderError) → (given ≡ Err (header_refusal place f)) ⊎ (f ≡ header_errors.OutOfMemory) → Told find_errors given (Err (refused_header place f))
told_header given place header_errors.OutOfMemory h = record { exact = tt; quiet = λ e. absurd cc }
told_header given place (header_errors.Short need got) (inl e) = record { exact = e; quiet = λ g. absurd cc }
told_header given place (header_errors.Short need got) (inr e) = absurd cc
told_header given place (header_errors.Sum sums) (inl e) = record { exact = e; quiet = λ g. absurd cc }
told_header given place (header_errors.Sum sums) (inr e) = absurd cc
told_header given place (header_errors.Overrun there) (inl e) = record { exact = e; quiet = λ g. absurd cc }
told_header given place (header_errors.Overrun there) (inr e) = absurd cc
told_header given place header_errors.Signature (inl e) = record { exact = e; quiet = λ g. absurd cc }
told_header given place header_errors.Signature (inr e) = absurd cc
told_header given place (header_errors.Version n) (inl e) = record { exact = e; quiet = λ g. absurd cc }
told_header given place (header_errors.Version n) (inr e) = absurd cc
told_header given place (header_errors.Unknown kind) (inl e) = record { exact = e; quiet = λ g. absurd cc }
told_header given place (header_errors.Unknown kind) (inr e) = absurd cc
told_header given place header_errors.Continuations (inl e) = record { exact = e; quiet = λ g. absurd cc }
told_header given place header_errors.Continuations (inr e) = absurd cc

-- it is one of its bytes
pub header_kind : (place : ℕ) (f : HeaderError) → IsFindKind (refused_header place f)
header_kind place header_errors.OutOfMemory = tt
header_kind place (header_errors.Short need got) = tt
header_kind place (header_errors.Sum sums) = tt
header_kind place (header_errors.Overrun there) = tt
header_kind place header_errors.Signature = tt
header_kind place (header_errors.Version n) = tt
header_kind place (header_errors.Unknown kind) = tt
header_kind place header_errors.Continuations = tt

pub told_refused : {B : Type 0} (given : Result B ReadError) (e : ReadError) → given ≡ Err e → Told find_errors given (Err (Refused e))
told_refused given e h = record { exact = h; quiet = λ g. absurd cc }

pub gives_err : (r said : Result (List Msg) HeaderError) (f : HeaderError) → (r ≡ said) ⊎ (r ≡ Err header_errors.OutOfMemory) → r ≡ Err f → (said ≡ Err f) ⊎ (f ≡ header_errors.OutOfMemory)
gives_err r said f (inl e) h = inl (sym e ∙ h)
gives_err r said f (inr e) h = inr cc

before : List model.FoundMessage → Result (List model.FoundMessage) ReadError → Result (List model.FoundMessage) ReadError
before next r = elim r [ Ok inside ↦ Ok (inside ++ next) | Err e ↦ Err e ]

before_err : (writes t : Bool) (p len : ℕ) (b : List ℕ) (next : List model.FoundMessage) (f : HeaderError) → len ≤ length b → known_by writes (block_at t b) ≡ Err f
    → block_before writes t p len b next ≡ Err (header_refusal p f)
unfolding before
before_err writes t p len b next f long e =
    let said : block_for writes t p len b ≡ Err (header_refusal p f) = rw (le-ltb (length b) len long, e) refl in
    ap (before next) said

pub before_refused : (writes t : Bool) (p len : ℕ) (b : List ℕ) (next : List model.FoundMessage) (f : HeaderError) → len ≤ length b → (known_by writes (block_at t b) ≡ Err f) ⊎ (f ≡ header_errors.OutOfMemory)
    → Told find_errors (block_before writes t p len b next) (Err (refused_header p f))
before_refused writes t p len b next f long (inl e) = told_header (block_before writes t p len b next) p f (inl (before_err writes t p len b next f long e))
before_refused writes t p len b next f long (inr e) = told_header (block_before writes t p len b next) p f (inr e)

-- ---- Chunk 0

-- what chunk 0 lists, or the refusal
abbrev pub chunk_found : Bool → ℕ → List ℕ → Result (List model.FoundMessage) ReadError
chunk_found writes place b = seen (found_at place true) (refused_as (header_refusal place) (known_by writes (messages_at b)))

chunk_given : (img : List ℕ) (writes : Bool) (place : ℕ) (p : Prefix) (r : Result (List Msg) HeaderError)
    → eval img (elim r as (λ _. Prog (Result HeaderFields ReadError)) [
      | Ok ms ↦ walk_for writes 32 place p.tracked (record { place = place; len = p.total } ∷ []) [] (found_at place true ms)
      | Err e ↦ ret (Err (header_refusal place e))
    ])
    ≡ then_also (seen (found_at place true) (refused_as (header_refusal place) r)) (λ ms. eval img (walk_for writes 32 place p.tracked (record { place = place; len = p.total } ∷ []) [] ms))
chunk_given img writes place p (Ok ms) = refl
chunk_given img writes place p (Err e) = refl

pub chunk_walks : (img : List ℕ) (writes : Bool) (place : ℕ) (p : Prefix) (b : List ℕ)
    → eval img (from_chunk_0_for writes place p b)
    ≡ then_also (chunk_found writes place b) (λ ms. eval img (walk_for writes 32 place p.tracked (record { place = place; len = p.total } ∷ []) [] ms))
chunk_walks img writes place p b = chunk_given img writes place p (known_by writes (messages_at b))

chunk_err : (writes : Bool) (place : ℕ) (b : List ℕ) (f : HeaderError) → known_by writes (messages_at b) ≡ Err f → chunk_found writes place b ≡ Err (header_refusal place f)
chunk_err writes place b f e = ap (λ r. seen (found_at place true) (refused_as (header_refusal place) r)) e

pub chunk_refused : (writes : Bool) (place : ℕ) (b : List ℕ) (f : HeaderError) → (known_by writes (messages_at b) ≡ Err f) ⊎ (f ≡ header_errors.OutOfMemory)
    → Told find_errors (chunk_found writes place b) (Err (refused_header place f))
chunk_refused writes place b f (inl e) = told_header (chunk_found writes place b) place f (inl (chunk_err writes place b f e))
chunk_refused writes place b f (inr e) = told_header (chunk_found writes place b) place f (inr e)

-- the walk after chunk 0, whose messages and range are held
pub chunk_goes : (img : List ℕ) (writes : Bool) (place : ℕ) (p : Prefix) (b : List ℕ) (next : List model.FoundMessage) (visited : List Range)
    → chunk_found writes place b ≡ Ok next → visited ≡ record { place = place; len = p.total } ∷ []
    → eval img (from_chunk_0_for writes place p b) ≡ eval img (walk_for writes 32 place p.tracked visited [] next)
chunk_goes img writes place p b next visited said are =
    chunk_walks img writes place p b
    ∙ ap (λ r. then_also r (λ ms. eval img (walk_for writes 32 place p.tracked (record { place = place; len = p.total } ∷ []) [] ms))) said
    ∙ ap (λ v. eval img (walk_for writes 32 place p.tracked v [] next)) (sym are)
