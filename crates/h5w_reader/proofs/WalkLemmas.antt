-- The messages of a header, one after another.
use Rattle.std.proofs.Common.{◌≡◌, ℕ, zero, suc, ◌-◌, ◌<◌, ◌≤◌, ◌⊎◌, inl, inr, Bool, true, false, cond, ltb, List, [], ◌∷◌, ◌++◌, length, Result, Ok, Err, refl, sym, ◌∙◌, ap, arith}
use Rattle.std.specs.Prelude.{◌==◌}
use Rattle.std.proofs.lemmas.Bool.{lt-ltb, le-ltb, ne_eqb}
use Rattle.h5w_model.specs.Programs.{Prog, ret, whole, bind, and_then, cut_up}
use Rattle.h5w_model.specs.Headers.{block_at, messages_at}
use Rattle.h5w_model.specs.Datasets.{Range, HeaderFields, found_at, block_place, block_len, block_messages, walk, header_refusal}
use Rattle.h5w_model.specs.Datasets as model
use Rattle.h5w_model.specs.declared.message.Msg.{Msg}
use Rattle.h5w_model.specs.declared.refusal.ReadError.{ReadError}
use Rattle.h5w_model.specs.declared.refusal.ReadError.TheVariants.{Damaged, Header}
use Rattle.h5w_model.specs.declared.refusal.BlockFault.TheVariants.{Cut}
use Rattle.h5w_model.specs.declared.refusal.HeaderError.{HeaderError}
use Rattle.h5w_model.specs.declared.refusal.HeaderError.TheVariants.{Continuations, Short}
use Rattle.h5w_model.specs.declared.refusal.HeaderError.TheVariants as header_errors
use Rattle.h5w_lookup.specs.Looks.{plain}
use Rattle.h5w_lookup.specs.Gathering.{cut_behind}
use Rattle.h5w_dataset.specs.Founds.{found_of, founds, stack}
use Rattle.h5w_reader.specs.Walking.{messages_of, chunk_0_rest, walk_rest, block_rest}
use Rattle.h5w_dataset.specs.declared.found.FoundMessage.{FoundMessage}
use Rattle.h5w_model.specs.declared.message.Prefix.{Prefix}
use Rattle.h5w_dataset.proofs.ListedLemmas.{stack_push, founds_push}
use Rattle.h5w_lookup.proofs.PieceLemmas.{cut_up_is}

-- ---- Lists

-- what follows a continuation block, given its messages
abbrev entered : (more h : ℕ) (t : Bool) (v : List Range) (done ms : List model.FoundMessage) → Result (List model.FoundMessage) ReadError → Prog (Result HeaderFields ReadError)
entered more h t v done ms r = elim r [ Ok inside ↦ walk more h t v done (inside ++ ms) | Err e ↦ ret (Err e) ]

entered_alike : (more h : ℕ) (t : Bool) (v w : List Range) (done ms : List model.FoundMessage) (r : Result (List model.FoundMessage) ReadError)
    → ((inside : List model.FoundMessage) → and_then (walk more h t v done (inside ++ ms)) messages_of ≡ and_then (walk more h t w done (inside ++ ms)) messages_of)
    → and_then (entered more h t v done ms r) messages_of ≡ and_then (entered more h t w done ms r) messages_of
entered_alike more h t v w done ms (Ok inside) same = same inside
entered_alike more h t v w done ms (Err e) same = refl

-- which ranges were visited says nothing of the messages
same_messages : (more h : ℕ) (t : Bool) (v w : List Range) (done ms : List model.FoundMessage) → and_then (walk more h t v done ms) messages_of ≡ and_then (walk more h t w done ms) messages_of
same_messages zero h t v w done [] = refl
same_messages (suc more) h t v w done [] = refl
same_messages zero h t v w done (m ∷ ms) =
    elim (m.kind == 0x10) as (λ c. and_then (cond c (ret (Err (Header h Continuations))) (walk zero h t v (done ++ m ∷ []) ms)) messages_of
    ≡ and_then (cond c (ret (Err (Header h Continuations))) (walk zero h t w (done ++ m ∷ []) ms)) messages_of) [
      | true ↦ refl
      | false ↦ same_messages zero h t v w (done ++ m ∷ []) ms
    ]
same_messages (suc more) h t v w done (m ∷ ms) =
    let p = block_place m in
    let l = block_len m in
    let small : Prog (Result HeaderFields ReadError) = ret (Err (header_refusal p (Short 8 l))) in
    let go : List Range → Prog (Result HeaderFields ReadError) = λ x. whole p l (λ b. entered more h t (x ++ record { place = p; len = l } ∷ []) done ms (block_messages t p l b)) in
    elim (m.kind == 0x10) as (λ c. and_then (cond c (cond (ltb l 8) small (go v)) (walk (suc more) h t v (done ++ m ∷ []) ms)) messages_of
    ≡ and_then (cond c (cond (ltb l 8) small (go w)) (walk (suc more) h t w (done ++ m ∷ []) ms)) messages_of) [
      | true ↦ elim (ltb l 8) as (λ c. and_then (cond c small (go v)) messages_of ≡ and_then (cond c small (go w)) messages_of) [
        | true ↦ refl
        | false ↦ ap (whole p l) (λ i b. entered_alike more h t (v ++ record { place = p; len = l } ∷ []) (w ++ record { place = p; len = l } ∷ []) done ms (block_messages t p l b)
            (λ inside. same_messages more h t (v ++ record { place = p; len = l } ∷ []) (w ++ record { place = p; len = l } ∷ []) done (inside ++ ms)) i)
      ]
      | false ↦ same_messages (suc more) h t v w (done ++ m ∷ []) ms
    ]

-- at the end the messages are there
pub walk_done : (more h : ℕ) (t : Bool) (done : List model.FoundMessage) → walk_rest more h t done [] ≡ ret (Ok done)
unfolding walk_rest
walk_done zero h t done = refl
walk_done (suc more) h t done = refl

-- any message but a continuation is passed
pub walk_pass : (more h : ℕ) (t : Bool) (done ms : List model.FoundMessage) (m : model.FoundMessage) → (m.kind == 0x10) ≡ false → walk_rest more h t done (m ∷ ms) ≡ walk_rest more h t (done ++ m ∷ []) ms
unfolding walk_rest
walk_pass zero h t done ms m e = rw e refl
walk_pass (suc more) h t done ms m e = rw e refl

-- no block more may come
pub walk_full : (h : ℕ) (t : Bool) (done ms : List model.FoundMessage) (m : model.FoundMessage) → m.kind ≡ 16 → walk_rest 0 h t done (m ∷ ms) ≡ ret (Err (Header h Continuations))
unfolding walk_rest
walk_full h t done ms m e = rw e refl

-- a block that is too short
pub walk_small : (more h : ℕ) (t : Bool) (done ms : List model.FoundMessage) (m : model.FoundMessage) (p l : ℕ) → m.kind ≡ 16 → 0 < more → p ≡ block_place m → l ≡ block_len m → l < 8
    → walk_rest more h t done (m ∷ ms) ≡ ret (Err (Damaged p (Cut 8 l)))
unfolding walk_rest
walk_small zero h t done ms m p l e some at len small = absurd (omega arith)
walk_small (suc more) h t done ms m p l e some at len small = let k : block_len m < 8 = omega arith in rw (e, lt-ltb (block_len m) 8 k, at, len) refl

plain_entered : (more h : ℕ) (t : Bool) (v : List Range) (p l : ℕ) (done ms : List model.FoundMessage) (r : Result (List model.FoundMessage) ReadError)
    → plain (and_then (entered more h t v done ms r) messages_of) ≡ elim r as (λ _. Prog (Result (List model.FoundMessage) ReadError)) [ Ok inside ↦ walk_rest more h t done (inside ++ ms) | Err e ↦ ret (Err e) ]
unfolding walk_rest
plain_entered more h t v p l done ms (Ok inside) = ap plain (same_messages more h t v [] done (inside ++ ms))
plain_entered more h t v p l done ms (Err e) = refl

enter_suc : (more h : ℕ) (t : Bool) (done ms : List model.FoundMessage) (m : model.FoundMessage) → m.kind ≡ 16 → 8 ≤ block_len m
    → walk_rest (suc more) h t done (m ∷ ms) ≡ bind (cut_behind [] (block_place m) (block_len m)) (block_rest more h t done ms (block_place m) (block_len m))
unfolding walk_rest block_rest
enter_suc more h t done ms m e long =
    let p = block_place m in
    let l = block_len m in
    rw (e, le-ltb l 8 long)
    (ap (cut_up p l) (λ i b. plain_entered more h t (record { place = p; len = l } ∷ []) p l done ms (block_messages t p l b) i)
    ∙ cut_up_is p l (λ b. elim (block_messages t p l b) [ Ok inside ↦ walk_rest more h t done (inside ++ ms) | Err e ↦ ret (Err e) ]))

-- a block is looked at, and what it holds comes before the other messages
pub walk_enter : (more less h : ℕ) (t : Bool) (done ms : List model.FoundMessage) (m : model.FoundMessage) (p l : ℕ) → m.kind ≡ 16 → 0 < more → less ≡ more - 1 → p ≡ block_place m → l ≡ block_len m → 8 ≤ l
    → walk_rest more h t done (m ∷ ms) ≡ bind (cut_behind [] p l) (block_rest less h t done ms p l)
walk_enter more less h t done ms m p l e some down at len long =
    let n : more ≡ suc less = omega arith in
    let k : 8 ≤ block_len m = omega arith in
    rw (n, at, len) (enter_suc less h t done ms m e k)

-- a message that is no continuation goes to those that were visited
pub go_step : (more h : ℕ) (t : Bool) (done next left : List FoundMessage) (m : FoundMessage) → next ≡ left ++ m ∷ [] → (m.kind ≡ 16 → ⊥)
    → walk_rest more h t (founds (done ++ m ∷ [])) (stack left) ≡ walk_rest more h t (founds done) (stack next)
go_step more h t done next left m e other =
    rw (e, founds_push, stack_push) (sym (walk_pass more h t (founds done) (stack left) (found_of m) (ne_eqb m.kind 16 other)))

pub go_end : (more h : ℕ) (t : Bool) (done next left : List FoundMessage) → next ≡ [] → ret (Ok (founds done)) ≡ walk_rest more h t (founds done) (stack next)
go_end more h t done next left e = rw e (sym (walk_done more h t (founds done)))

-- ---- A block

-- what a decoder answered is what is said, where it was not want of memory
pub gives_ok : (r said : Result (List Msg) HeaderError) (ms : List Msg) → (r ≡ said) ⊎ (r ≡ Err header_errors.OutOfMemory) → r ≡ Ok ms → said ≡ Ok ms
gives_ok r said ms (inl e) h = sym e ∙ h
gives_ok r said ms (inr e) h = absurd cc

pub gives_err : (r said : Result (List Msg) HeaderError) (f : HeaderError) → (r ≡ said) ⊎ (r ≡ Err header_errors.OutOfMemory) → r ≡ Err f → (f ≡ header_errors.OutOfMemory → ⊥) → said ≡ Err f
gives_err r said f (inl e) h other = sym e ∙ h
gives_err r said f (inr e) h other = let k : f ≡ header_errors.OutOfMemory = cc in absurd (other k)

resume : (more h : ℕ) (t : Bool) (done ms : List model.FoundMessage) → Result (List model.FoundMessage) ReadError → Prog (Result (List model.FoundMessage) ReadError)
resume more h t done ms r = elim r [ Ok inside ↦ walk_rest more h t done (inside ++ ms) | Err e ↦ ret (Err e) ]

said_cut : (t : Bool) (place len : ℕ) (b : List ℕ) → length b < len → block_messages t place len b ≡ Err (Damaged place (Cut len (length b)))
said_cut t place len b short = rw (lt-ltb (length b) len short) refl

said_ok : (t : Bool) (place len : ℕ) (b : List ℕ) (inside : List Msg) → len ≤ length b → block_at t b ≡ Ok inside → block_messages t place len b ≡ Ok (found_at place false inside)
said_ok t place len b inside long e = rw (le-ltb (length b) len long, e) refl

said_err : (t : Bool) (place len : ℕ) (b : List ℕ) (f : HeaderError) → len ≤ length b → block_at t b ≡ Err f → block_messages t place len b ≡ Err (header_refusal place f)
said_err t place len b f long e = rw (le-ltb (length b) len long, e) refl

pub block_cut : (more h : ℕ) (t : Bool) (done ms : List model.FoundMessage) (place len : ℕ) (b : List ℕ) → length b < len → block_rest more h t done ms place len b ≡ ret (Err (Damaged place (Cut len (length b))))
unfolding block_rest resume
block_cut more h t done ms place len b short = ap (resume more h t done ms) (said_cut t place len b short)

pub block_read : (more h : ℕ) (t : Bool) (done ms : List model.FoundMessage) (place len : ℕ) (b : List ℕ) (inside : List Msg) → len ≤ length b → block_at t b ≡ Ok inside
    → block_rest more h t done ms place len b ≡ walk_rest more h t done (found_at place false inside ++ ms)
unfolding block_rest resume
block_read more h t done ms place len b inside long e = ap (resume more h t done ms) (said_ok t place len b inside long e)

pub block_refused : (more h : ℕ) (t : Bool) (done ms : List model.FoundMessage) (place len : ℕ) (b : List ℕ) (f : HeaderError) → len ≤ length b → block_at t b ≡ Err f
    → block_rest more h t done ms place len b ≡ ret (Err (header_refusal place f))
unfolding block_rest resume
block_refused more h t done ms place len b f long e = ap (resume more h t done ms) (said_err t place len b f long e)

-- ---- Chunk 0

-- a header whose messages are read, or refused
abbrev chunk_given : ℕ → Prefix → Result (List Msg) HeaderError → Prog (Result (List model.FoundMessage) ReadError)
chunk_given place p r = plain (and_then (elim r as (λ _. Prog (Result HeaderFields ReadError)) [
  | Ok ms ↦ walk 32 place p.tracked (record { place = place; len = p.total } ∷ []) [] (found_at place true ms)
  | Err e ↦ ret (Err (header_refusal place e))
]) messages_of)

pub chunk_ok : (place : ℕ) (p : Prefix) (b : List ℕ) (ms : List Msg) → messages_at b ≡ Ok ms → chunk_0_rest place p b ≡ walk_rest 32 place p.tracked [] (found_at place true ms)
unfolding chunk_0_rest walk_rest
chunk_ok place p b ms e = ap (chunk_given place p) e ∙ ap plain (same_messages 32 place p.tracked (record { place = place; len = p.total } ∷ []) [] [] (found_at place true ms))

pub chunk_err : (place : ℕ) (p : Prefix) (b : List ℕ) (f : HeaderError) → messages_at b ≡ Err f → chunk_0_rest place p b ≡ ret (Err (header_refusal place f))
unfolding chunk_0_rest
chunk_err place p b f e = ap (chunk_given place p) e
