-- A header that is looked at to be written too is the one that is read, unless a message asks to be known then.
use Rattle.std.proofs.Common.{◌≡◌, ℕ, zero, suc, ◌+◌, ◌-◌, Bool, true, false, cond, ltb, List, [], ◌∷◌, ◌++◌, length, Option, Some, None, Result, Ok, Err, refl, sym, ◌∙◌, ap, subst}
use Rattle.std.specs.Prelude.{◌==◌, nat_lt}
use Rattle.h5w_model.specs.Numbers.{range}
use Rattle.h5w_model.specs.Programs.{Prog, ret, whole, eval}
use Rattle.h5w_model.specs.Headers.{prefix_at, messages_at, block_at, header_view, unless_refused, unknown_for_writing}
use Rattle.h5w_model.specs.Datasets.{Range, HeaderFields, FoundMessage, found_at, block_place, block_len, block_messages, walk, from_chunk_0, root_header, root_view, dataset_messages, header_refusal, then_also, refused_as}
use Rattle.h5w_model.specs.declared.message.Msg.{Msg}
use Rattle.h5w_model.specs.declared.message.Prefix.{Prefix}
use Rattle.h5w_model.specs.declared.refusal.HeaderError.{HeaderError}
use Rattle.h5w_model.specs.declared.refusal.HeaderError.TheVariants.{Unknown}
use Rattle.h5w_model.specs.declared.refusal.HeaderError.TheVariants as header_errors
use Rattle.h5w_model.specs.declared.refusal.ReadError.{ReadError}
use Rattle.h5w_model.specs.declared.refusal.ReadError.TheVariants.{Header}
use Rattle.h5w_model.specs.declared.refusal.ReadError.TheVariants as read_errors
use Rattle.h5w_headers.specs.Walks.{known_by, block_for, walk_for, from_chunk_0_for, root_header_for, dataset_header_for}

-- what is written too is what is read, or a message that is not known is refused
pub data Alike {A : Type 0} (read written : Result A ReadError) : Type 0 where
  same : written ≡ read → Alike read written
  unknown : (at kind : ℕ) → written ≡ Err (Header at (Unknown kind)) → Alike read written

abbrev Answer : Type 0
Answer = Result HeaderFields ReadError

-- ---- What was decoded

then_alike : {A B : Type 0} (read written : Result A ReadError) (f : A → Result B ReadError) → Alike read written → Alike (then_also read f) (then_also written f)
then_alike read written f (same e) = same (ap (λ r. then_also r f) e)
then_alike read written f (unknown at kind e) = unknown at kind (ap (λ r. then_also r f) e)

cond_alike : {A : Type 0} (c : Bool) (x read written : Result A ReadError) → Alike read written → Alike (cond c x read) (cond c x written)
cond_alike true x read written h = same refl
cond_alike false x read written h = h

unless_alike : (place : ℕ) (ms : List Msg) (o : Option ℕ) → Alike (Ok ms) (refused_as (header_refusal place) (unless_refused o ms))
unless_alike place ms None = same refl
unless_alike place ms (Some kind) = unknown place kind refl

known_alike : (place : ℕ) (given : Result (List Msg) HeaderError) → Alike (refused_as (header_refusal place) given) (refused_as (header_refusal place) (known_by true given))
known_alike place (Ok ms) = unless_alike place ms (unknown_for_writing ms)
known_alike place (Err e) = same refl

block_alike : (tracked : Bool) (place len : ℕ) (b : List ℕ) → Alike (block_messages tracked place len b) (block_for true tracked place len b)
block_alike tracked place len b =
    let found : List Msg → Result (List FoundMessage) ReadError = λ ms. Ok (found_at place false ms) in
    cond_alike (nat_lt (length b) len) (Err (header_refusal place (header_errors.Short len (length b))))
    (then_also (refused_as (header_refusal place) (block_at tracked b)) found) (then_also (refused_as (header_refusal place) (known_by true (block_at tracked b))) found)
    (then_alike (refused_as (header_refusal place) (block_at tracked b)) (refused_as (header_refusal place) (known_by true (block_at tracked b))) found (known_alike place (block_at tracked b)))

-- ---- Programs

both : (img : List ℕ) (c : Bool) (a b x y : Prog Answer) → Alike (eval img a) (eval img x) → Alike (eval img b) (eval img y) → Alike (eval img (cond c a b)) (eval img (cond c x y))
both img true a b x y h g = h
both img false a b x y h g = g

-- two programs go on from what was decoded
abbrev go_on : {A E : Type 0} → (E → ReadError) → (A → Prog Answer) → Result A E → Prog Answer
go_on f one r = elim r as (λ _. Prog Answer) [ Ok a ↦ one a | Err e ↦ ret (Err (f e)) ]

decoded : {A E : Type 0} (img : List ℕ) (f : E → ReadError) (r : Result A E) (one two : A → Prog Answer) → ((a : A) → Alike (eval img (one a)) (eval img (two a))) → Alike (eval img (go_on f one r)) (eval img (go_on f two r))
decoded img f (Ok a) one two h = h a
decoded img f (Err e) one two h = same refl

abbrev itself : ReadError → ReadError
itself e = e

step : {A : Type 0} (img : List ℕ) (read written : Result A ReadError) (one two : A → Prog Answer) → Alike read written → ((a : A) → Alike (eval img (one a)) (eval img (two a)))
    → Alike (eval img (go_on itself one read)) (eval img (go_on itself two written))
step img read written one two (same e) h = subst (λ r. Alike (eval img (go_on itself one read)) (eval img (go_on itself two r))) (sym e) (decoded img itself read one two h)
step img read written one two (unknown at kind e) h = unknown at kind (ap (λ r. eval img (go_on itself two r)) e)

-- the refusal is worded before it is passed on, or then
worded : {A E : Type 0} (img : List ℕ) (f : E → ReadError) (one : A → Prog Answer) (r : Result A E) → eval img (go_on itself one (refused_as f r)) ≡ eval img (go_on f one r)
worded img f one (Ok a) = refl
worded img f one (Err e) = refl

walk_alike : (img : List ℕ) (more h : ℕ) (t : Bool) (v : List Range) (done ms : List FoundMessage) → Alike (eval img (walk more h t v done ms)) (eval img (walk_for true more h t v done ms))
walk_alike img zero h t v done [] = same refl
walk_alike img (suc more) h t v done [] = same refl
walk_alike img zero h t v done (m ∷ ms) =
    both img (m.kind == 0x10) (ret (Err (Header h header_errors.Continuations))) (walk zero h t v (done ++ m ∷ []) ms) (ret (Err (Header h header_errors.Continuations))) (walk_for true zero h t v (done ++ m ∷ []) ms)
    (same refl) (walk_alike img zero h t v (done ++ m ∷ []) ms)
walk_alike img (suc more) h t v done (m ∷ ms) =
    let q = block_place m in
    let l = block_len m in
    let w : List Range = v ++ record { place = q; len = l } ∷ [] in
    let small : Prog Answer = ret (Err (header_refusal q (header_errors.Short 8 l))) in
    let one : List FoundMessage → Prog Answer = λ inside. walk more h t w done (inside ++ ms) in
    let two : List FoundMessage → Prog Answer = λ inside. walk_for true more h t w done (inside ++ ms) in
    let read : Prog Answer = whole q l (λ b. go_on itself one (block_messages t q l b)) in
    let written : Prog Answer = whole q l (λ b. go_on itself two (block_for true t q l b)) in
    both img (m.kind == 0x10) (cond (ltb l 8) small read) (walk (suc more) h t v (done ++ m ∷ []) ms) (cond (ltb l 8) small written) (walk_for true (suc more) h t v (done ++ m ∷ []) ms)
    (both img (ltb l 8) small read small written (same refl)
    (step img (block_messages t q l (range img q l)) (block_for true t q l (range img q l)) one two (block_alike t q l (range img q l)) (λ inside. walk_alike img more h t w done (inside ++ ms))))
    (walk_alike img (suc more) h t v (done ++ m ∷ []) ms)

chunk_alike : (img : List ℕ) (place : ℕ) (p : Prefix) (b : List ℕ) → Alike (eval img (from_chunk_0 place p b)) (eval img (from_chunk_0_for true place p b))
chunk_alike img place p b =
    let v : List Range = record { place = place; len = p.total } ∷ [] in
    let one : List Msg → Prog Answer = λ ms. walk 32 place p.tracked v [] (found_at place true ms) in
    let two : List Msg → Prog Answer = λ ms. walk_for true 32 place p.tracked v [] (found_at place true ms) in
    subst (λ r. Alike r (eval img (from_chunk_0_for true place p b))) (worded img (header_refusal place) one (messages_at b))
    (subst (λ r. Alike (eval img (go_on itself one (refused_as (header_refusal place) (messages_at b)))) r) (worded img (header_refusal place) two (known_by true (messages_at b)))
    (step img (refused_as (header_refusal place) (messages_at b)) (refused_as (header_refusal place) (known_by true (messages_at b))) one two (known_alike place (messages_at b))
    (λ ms. walk_alike img 32 place p.tracked v [] (found_at place true ms))))

pub root_alike : (img : List ℕ) (place : ℕ) → Alike (eval img (root_header place)) (eval img (root_header_for true place))
root_alike img place =
    let first = root_view (range img place 512) in
    decoded img (header_refusal place) (prefix_at first)
    (λ p. cond (nat_lt 512 p.total) (whole (place + 512) (p.total - 512) (λ rest. from_chunk_0 place p (first ++ rest))) (from_chunk_0 place p first))
    (λ p. cond (nat_lt 512 p.total) (whole (place + 512) (p.total - 512) (λ rest. from_chunk_0_for true place p (first ++ rest))) (from_chunk_0_for true place p first))
    (λ p. both img (nat_lt 512 p.total)
    (whole (place + 512) (p.total - 512) (λ rest. from_chunk_0 place p (first ++ rest))) (from_chunk_0 place p first)
    (whole (place + 512) (p.total - 512) (λ rest. from_chunk_0_for true place p (first ++ rest))) (from_chunk_0_for true place p first)
    (chunk_alike img place p (first ++ range img (place + 512) (p.total - 512))) (chunk_alike img place p first))

pub dataset_alike : (img : List ℕ) (place : ℕ) → Alike (eval img (dataset_messages place (header_view (range img place 512)))) (eval img (dataset_header_for true place))
dataset_alike img place =
    let v = header_view (range img place 512) in
    let long : Prog Answer = ret (Err (read_errors.Unsupported (record { 0 = 1 }))) in
    decoded img (header_refusal place) (prefix_at v)
    (λ p. cond (nat_lt 512 p.total) long (from_chunk_0 place p v))
    (λ p. cond (nat_lt 512 p.total) long (from_chunk_0_for true place p v))
    (λ p. both img (nat_lt 512 p.total) long (from_chunk_0 place p v) long (from_chunk_0_for true place p v) (same refl) (chunk_alike img place p v))

-- ---- What is found to be written is found

pub alike_ok : {A : Type 0} (read written : Result A ReadError) (a : A) → Alike read written → written ≡ Ok a → read ≡ Ok a
alike_ok read written a (same e) h = subst (λ r. r ≡ Ok a) e h
alike_ok read written a (unknown at kind e) h = let g = sym e ∙ h in absurd cc
