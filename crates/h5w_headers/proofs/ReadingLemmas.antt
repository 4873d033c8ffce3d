-- A header that is looked at to be read alone is that of the definitions for reading.
use Rattle.std.proofs.Common.{◌≡◌, ℕ, zero, suc, ◌+◌, ◌-◌, Bool, true, false, cond, ltb, List, [], ◌∷◌, ◌++◌, Result, Ok, Err, refl}
use Rattle.std.specs.Prelude.{◌==◌, nat_lt}
use Rattle.h5w_model.specs.Numbers.{range}
use Rattle.h5w_model.specs.Programs.{Prog, ret, whole, eval}
use Rattle.h5w_model.specs.Headers.{prefix_at, messages_at, header_view}
use Rattle.h5w_model.specs.Datasets.{Range, HeaderFields, FoundMessage, found_at, block_place, block_len, block_messages, walk, from_chunk_0, root_header, root_view, dataset_messages, header_refusal}
use Rattle.h5w_model.specs.declared.message.Prefix.{Prefix}
use Rattle.h5w_model.specs.declared.refusal.HeaderError.TheVariants as header_errors
use Rattle.h5w_model.specs.declared.refusal.ReadError.{ReadError}
use Rattle.h5w_model.specs.declared.refusal.ReadError.TheVariants.{Header}
use Rattle.h5w_model.specs.declared.refusal.ReadError.TheVariants as read_errors
use Rattle.h5w_headers.specs.Walks.{walk_for, from_chunk_0_for, root_header_for, dataset_header_for}

-- two programs go on alike from what was decoded
alike : {A E : Type 0} (img : List ℕ) (f : E → ReadError) (r : Result A E) (one two : A → Prog (Result HeaderFields ReadError)) → ((a : A) → eval img (one a) ≡ eval img (two a))
    → eval img (elim r as (λ _. Prog (Result HeaderFields ReadError)) [ Ok a ↦ one a | Err e ↦ ret (Err (f e)) ])
    ≡ eval img (elim r as (λ _. Prog (Result HeaderFields ReadError)) [ Ok a ↦ two a | Err e ↦ ret (Err (f e)) ])
alike img f (Ok a) one two h = h a
alike img f (Err e) one two h = refl

both : (img : List ℕ) (c : Bool) (a b x y : Prog (Result HeaderFields ReadError)) → eval img a ≡ eval img x → eval img b ≡ eval img y → eval img (cond c a b) ≡ eval img (cond c x y)
both img true a b x y h g = h
both img false a b x y h g = g

walk_reading : (img : List ℕ) (more h : ℕ) (t : Bool) (v : List Range) (done ms : List FoundMessage) → eval img (walk_for false more h t v done ms) ≡ eval img (walk more h t v done ms)
walk_reading img zero h t v done [] = refl
walk_reading img (suc more) h t v done [] = refl
walk_reading img zero h t v done (m ∷ ms) =
    both img (m.kind == 0x10) (ret (Err (Header h header_errors.Continuations))) (walk_for false zero h t v (done ++ m ∷ []) ms) (ret (Err (Header h header_errors.Continuations))) (walk zero h t v (done ++ m ∷ []) ms)
    refl (walk_reading img zero h t v (done ++ m ∷ []) ms)
walk_reading img (suc more) h t v done (m ∷ ms) =
    let q = block_place m in
    let l = block_len m in
    let w : List Range = v ++ record { place = q; len = l } ∷ [] in
    let small : Prog (Result HeaderFields ReadError) = ret (Err (header_refusal q (header_errors.Short 8 l))) in
    let one : Prog (Result HeaderFields ReadError) = whole q l (λ b. elim (block_messages t q l b) as (λ _. Prog (Result HeaderFields ReadError)) [ Ok inside ↦ walk_for false more h t w done (inside ++ ms) | Err e ↦ ret (Err e) ]) in
    let two : Prog (Result HeaderFields ReadError) = whole q l (λ b. elim (block_messages t q l b) as (λ _. Prog (Result HeaderFields ReadError)) [ Ok inside ↦ walk more h t w done (inside ++ ms) | Err e ↦ ret (Err e) ]) in
    both img (m.kind == 0x10) (cond (ltb l 8) small one) (walk_for false (suc more) h t v (done ++ m ∷ []) ms) (cond (ltb l 8) small two) (walk (suc more) h t v (done ++ m ∷ []) ms)
    (both img (ltb l 8) small one small two refl
    (alike img (λ (e : ReadError). e) (block_messages t q l (range img q l)) (λ inside. walk_for false more h t w done (inside ++ ms)) (λ inside. walk more h t w done (inside ++ ms)) (λ inside. walk_reading img more h t w done (inside ++ ms))))
    (walk_reading img (suc more) h t v (done ++ m ∷ []) ms)

chunk_reading : (img : List ℕ) (place : ℕ) (p : Prefix) (b : List ℕ) → eval img (from_chunk_0_for false place p b) ≡ eval img (from_chunk_0 place p b)
chunk_reading img place p b =
    let v : List Range = record { place = place; len = p.total } ∷ [] in
    alike img (header_refusal place) (messages_at b) (λ ms. walk_for false 32 place p.tracked v [] (found_at place true ms)) (λ ms. walk 32 place p.tracked v [] (found_at place true ms))
    (λ ms. walk_reading img 32 place p.tracked v [] (found_at place true ms))

pub root_reading : (img : List ℕ) (place : ℕ) → eval img (root_header_for false place) ≡ eval img (root_header place)
root_reading img place =
    let first = root_view (range img place 512) in
    alike img (header_refusal place) (prefix_at first)
    (λ p. cond (nat_lt 512 p.total) (whole (place + 512) (p.total - 512) (λ rest. from_chunk_0_for false place p (first ++ rest))) (from_chunk_0_for false place p first))
    (λ p. cond (nat_lt 512 p.total) (whole (place + 512) (p.total - 512) (λ rest. from_chunk_0 place p (first ++ rest))) (from_chunk_0 place p first))
    (λ p. both img (nat_lt 512 p.total)
    (whole (place + 512) (p.total - 512) (λ rest. from_chunk_0_for false place p (first ++ rest))) (from_chunk_0_for false place p first)
    (whole (place + 512) (p.total - 512) (λ rest. from_chunk_0 place p (first ++ rest))) (from_chunk_0 place p first)
    (chunk_reading img place p (first ++ range img (place + 512) (p.total - 512))) (chunk_reading img place p first))

pub dataset_reading : (img : List ℕ) (place : ℕ) → eval img (dataset_header_for false place) ≡ eval img (dataset_messages place (header_view (range img place 512)))
dataset_reading img place =
    let v = header_view (range img place 512) in
    let long : Prog (Result HeaderFields ReadError) = ret (Err (read_errors.Unsupported (record { 0 = 1 }))) in
    alike img (header_refusal place) (prefix_at v)
    (λ p. cond (nat_lt 512 p.total) long (from_chunk_0_for false place p v))
    (λ p. cond (nat_lt 512 p.total) long (from_chunk_0 place p v))
    (λ p. both img (nat_lt 512 p.total) long (from_chunk_0_for false place p v) long (from_chunk_0 place p v) refl (chunk_reading img place p v))
