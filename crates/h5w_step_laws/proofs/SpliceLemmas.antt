-- The walk over continuation blocks, where a message of chunk 0 is changed and the blocks stay.
use Rattle.std.proofs.Common.{◌≡◌, ◌≢◌, ◌⊎◌, ℕ, zero, suc, ◌+◌, Bool, true, false, cond, ◌&&◌, List, [], ◌∷◌, ◌++◌, map, Option, Some, None, Result, Ok, Err, refl, ap, sym, ◌∙◌, subst, inl, inr}
use Rattle.std.specs.Prelude.{◌==◌, find, option_map, nat_lt}
use Rattle.std.proofs.lemmas.Bool.{cases_Bool, cond_both, eqb-true, ne_eqb, ltb-false}
use Rattle.std.proofs.lemmas.List.{map-append}
use Rattle.h5w_model.specs.Numbers.{range}
use Rattle.h5w_model.specs.Programs.{Prog, ret, whole, eval, visits, Same}
use Rattle.h5w_model.specs.Headers.{continuation_kind}
use Rattle.h5w_model.specs.Datasets.{FoundMessage, Range, HeaderFields, first_of, found_at, block_place, block_len, block_messages, splice, walk, header_refusal}
use Rattle.h5w_model.specs.Relations.{Spliced, no_message, message, continuation}
use Rattle.h5w_model.specs.declared.message.Msg.{Msg}
use Rattle.h5w_model.specs.declared.refusal.ReadError.{ReadError}
use Rattle.h5w_model.specs.declared.refusal.ReadError.TheVariants as read_errors
use Rattle.h5w_model.specs.declared.refusal.HeaderError.TheVariants as header_errors
use Rattle.h5w_laws.proofs.ResultLemmas.{choice_ok, choice_from}
use Rattle.h5w_laws.proofs.SpliceLemmas.{block_found, as_read}
use Rattle.h5w_step_laws.proofs.HeaderVisits.{choice_looks, same_header}
use Rattle.h5w_step_laws.proofs.ChunkLemmas.{of_kind}
use Rattle.h5w_step_laws.proofs.HeaderFoundLemmas.{in_image, some_found, and_false, and_true}

-- ---- The first message of a kind in chunk 0

abbrev pub is_own : ℕ → FoundMessage → Bool
is_own kind m = (m.kind == kind) && m.in_chunk_0

own_behind : (kind place : ℕ) (inside : List Msg) (ms : List FoundMessage) → find (is_own kind) (found_at place false inside ++ ms) ≡ find (is_own kind) ms
own_behind kind place [] ms = refl
own_behind kind place (m ∷ inside) ms =
    ap (λ t. cond t (Some (record { kind = m.kind; flags = m.flags; place = place + m.at; body = m.body; in_chunk_0 = false })) (find (is_own kind) (found_at place false inside ++ ms))) (and_false (m.kind == kind))
    ∙ own_behind kind place inside ms

pub own_spliced : (img : List ℕ) (tracked : Bool) (kind n : ℕ) (ms rs : List FoundMessage) → continuation_kind ≢ kind → Spliced img tracked n ms rs → find (is_own kind) ms ≡ find (is_own kind) rs
own_spliced img tracked kind _ _ _ differ no_message = refl
own_spliced img tracked kind _ _ _ differ (message n m ms rs other s) = ap (λ o. cond (is_own kind m) (Some m) o) (own_spliced img tracked kind n ms rs differ s)
own_spliced img tracked kind _ _ _ differ (continuation n m ms inside joined rs is b e s) =
    ap (λ t. cond (t && m.in_chunk_0) (Some m) (find (is_own kind) ms)) (ne_eqb m.kind kind (λ k. differ (sym is ∙ k)))
    ∙ sym (own_behind kind (block_place m) b.listed ms)
    ∙ ap (λ (xs : List FoundMessage). find (is_own kind) (xs ++ ms)) (sym b.are)
    ∙ ap (λ (xs : List FoundMessage). find (is_own kind) xs) (sym e)
    ∙ own_spliced img tracked kind n joined rs differ s

-- a first one that is in chunk 0
pub own_first : (kind : ℕ) (ms : List FoundMessage) (x : FoundMessage) → first_of kind ms ≡ Some x → x.in_chunk_0 ≡ true → find (is_own kind) ms ≡ Some x
own_first kind [] x h own = absurd cc
own_first kind (m ∷ ms) x h own = go (cases_Bool (m.kind == kind)) (own_first kind ms x)
  where
    go : ((m.kind == kind) ≡ true) ⊎ ((m.kind == kind) ≡ false) → (first_of kind ms ≡ Some x → x.in_chunk_0 ≡ true → find (is_own kind) ms ≡ Some x) → cond ((m.kind == kind) && m.in_chunk_0) (Some m) (find (is_own kind) ms) ≡ Some x
    go (inl t) later =
        let e : m ≡ x = some_found m x (ap (λ c. cond c (Some m) (first_of kind ms)) (sym t) ∙ h) in
        (λ i. cond (t i && (ap (λ (n : FoundMessage). n.in_chunk_0) e ∙ own) i) (Some m) (find (is_own kind) ms)) ∙ ap Some e
    go (inr t) later = ap (λ c. cond (c && m.in_chunk_0) (Some m) (find (is_own kind) ms)) t ∙ later (ap (λ c. cond c (Some m) (first_of kind ms)) (sym t) ∙ h) own

-- those of chunk 0 alone
pub own_here : (kind place : ℕ) (ms : List Msg) → find (is_own kind) (found_at place true ms) ≡ option_map (in_image place) (find (of_kind kind) ms)
own_here kind place [] = refl
own_here kind place (m ∷ ms) =
    ap (λ t. cond t (Some (in_image place m)) (find (is_own kind) (found_at place true ms))) (and_true (m.kind == kind)) ∙ go (m.kind == kind) (own_here kind place ms)
  where
    go : (t : Bool) → find (is_own kind) (found_at place true ms) ≡ option_map (in_image place) (find (of_kind kind) ms)
        → cond t (Some (in_image place m)) (find (is_own kind) (found_at place true ms)) ≡ option_map (in_image place) (cond t (Some m) (find (of_kind kind) ms))
    go true e = refl
    go false e = e

abbrev pub IsImage : ℕ → ℕ → List Msg → FoundMessage → Type 0
IsImage kind place ms x = (m : Msg) × (find (of_kind kind) ms ≡ Some m) × (in_image place m ≡ x)

from_image : (place : ℕ) (x : FoundMessage) (o : Option Msg) → option_map (in_image place) o ≡ Some x → (m : Msg) × (o ≡ Some m) × (in_image place m ≡ x)
from_image place x None h = absurd cc
from_image place x (Some m) h = (m, refl, some_found (in_image place m) x h)

-- the first message of a kind among all, where it stands in chunk 0, is the first of chunk 0's own
pub own_message : (img : List ℕ) (tracked : Bool) (kind n place : ℕ) (ms : List Msg) (rs : List FoundMessage) (x : FoundMessage) → continuation_kind ≢ kind → Spliced img tracked n (found_at place true ms) rs
    → first_of kind rs ≡ Some x → x.in_chunk_0 ≡ true → IsImage kind place ms x
own_message img tracked kind n place ms rs x differ s found own =
    from_image place x (find (of_kind kind) ms)
    (sym (own_here kind place ms) ∙ own_spliced img tracked kind n (found_at place true ms) rs differ s ∙ own_first kind rs x found own)

-- ---- The walk

-- a change of messages that leaves continuations, and all that stands outside chunk 0
pub record IsOwnChange (f : FoundMessage → FoundMessage) : Type 0 where
  pub kind : (m : FoundMessage) → (f m).kind ≡ m.kind
  pub block : (m : FoundMessage) → m.kind ≡ 0x10 → f m ≡ m
  pub outside : (m : FoundMessage) → m.in_chunk_0 ≡ false → f m ≡ m
  pub own : (m : FoundMessage) → (f m).in_chunk_0 ≡ m.in_chunk_0

abbrev pub with_messages : (FoundMessage → FoundMessage) → HeaderFields → HeaderFields
with_messages f h = record { messages = map f h.messages; ranges = h.ranges }

splice_changed : (f : FoundMessage → FoundMessage) (img new : List ℕ) (at_block : List FoundMessage → FoundMessage → List FoundMessage → Prog (Result HeaderFields ReadError)) (visited : List Range) (done ms : List FoundMessage) (h : HeaderFields)
    → IsOwnChange f
    → ((before : List FoundMessage) (m : FoundMessage) (rest : List FoundMessage) → eval img (at_block before m rest) ≡ Ok h → Same img new (visits img (at_block before m rest))
    → eval new (at_block (map f before) m (map f rest)) ≡ Ok (with_messages f h))
    → eval img (splice at_block visited done ms) ≡ Ok h → Same img new (visits img (splice at_block visited done ms))
    → eval new (splice at_block visited (map f done) (map f ms)) ≡ Ok (with_messages f h)
splice_changed f img new at_block visited done [] h own go e same =
    let all : HeaderFields = record { messages = done; ranges = visited } in
    ap (λ (x : HeaderFields). as_read (with_messages f x)) (same_header all h e)
splice_changed f img new at_block visited done (m ∷ ms) h own go e same =
    cond_both (m.kind == 0x10) (at_block done m ms) (splice at_block visited (done ++ m ∷ []) ms)
    (λ (q : Prog (Result HeaderFields ReadError)). eval img q ≡ Ok h → Same img new (visits img q) → eval new (splice at_block visited (map f done) (f m ∷ map f ms)) ≡ Ok (with_messages f h))
    (λ t e same.
    ap (λ (x : FoundMessage). eval new (splice at_block visited (map f done) (x ∷ map f ms))) (own.block m (eqb-true m.kind 0x10 t))
    ∙ ap (λ c. eval new (cond c (at_block (map f done) m (map f ms)) (splice at_block visited (map f done ++ m ∷ []) (map f ms)))) t
    ∙ go done m ms e same)
    (λ t e same.
    ap (λ c. eval new (cond c (at_block (map f done) (f m) (map f ms)) (splice at_block visited (map f done ++ f m ∷ []) (map f ms)))) (ap (λ n. n == 0x10) (own.kind m) ∙ t)
    ∙ ap (λ (xs : List FoundMessage). eval new (splice at_block visited xs (map f ms))) (sym (map-append f done (m ∷ [])))
    ∙ splice_changed f img new at_block visited (done ++ m ∷ []) ms h own go e same)
    e same

inside_kept : (f : FoundMessage → FoundMessage) (place : ℕ) (inside : List Msg) → IsOwnChange f → map f (found_at place false inside) ≡ found_at place false inside
inside_kept f place [] own = refl
inside_kept f place (m ∷ inside) own =
    λ i. own.outside (record { kind = m.kind; flags = m.flags; place = place + m.at; body = m.body; in_chunk_0 = false }) refl i ∷ inside_kept f place inside own i

pub walk_changed : (f : FoundMessage → FoundMessage) (img new : List ℕ) (more header : ℕ) (tracked : Bool) (visited : List Range) (done ms : List FoundMessage) (h : HeaderFields) → IsOwnChange f
    → eval img (walk more header tracked visited done ms) ≡ Ok h → Same img new (visits img (walk more header tracked visited done ms))
    → eval new (walk more header tracked visited (map f done) (map f ms)) ≡ Ok (with_messages f h)
walk_changed f img new zero header tracked visited done ms h own e same =
    splice_changed f img new (λ before m rest. ret (Err (read_errors.Header header header_errors.Continuations))) visited done ms h own (λ before m rest g s. absurd cc) e same
walk_changed f img new (suc more) header tracked visited done ms h own e same =
    let here : FoundMessage → Range = λ m. record { place = block_place m; len = block_len m } in
    let onward : List FoundMessage → FoundMessage → List FoundMessage → List FoundMessage → Prog (Result HeaderFields ReadError) = λ before m rest inside. walk more header tracked (visited ++ here m ∷ []) before (inside ++ rest) in
    let in_block : List FoundMessage → FoundMessage → List FoundMessage → List ℕ → Prog (Result HeaderFields ReadError) = λ before m rest b.
    elim (block_messages tracked (block_place m) (block_len m) b) as (λ _. Prog (Result HeaderFields ReadError)) [ Ok inside ↦ onward before m rest inside | Err e ↦ ret (Err e) ] in
    let short : FoundMessage → Prog (Result HeaderFields ReadError) = λ m. ret (Err (header_refusal (block_place m) (header_errors.Short 8 (block_len m)))) in
    let at_block : List FoundMessage → FoundMessage → List FoundMessage → Prog (Result HeaderFields ReadError) = λ before m rest.
    cond (nat_lt (block_len m) 8) (short m) (whole (block_place m) (block_len m) (in_block before m rest)) in
    splice_changed f img new at_block visited done ms h own
    (λ before m rest.
    cond_both (nat_lt (block_len m) 8) (short m) (whole (block_place m) (block_len m) (in_block before m rest))
    (λ (q : Prog (Result HeaderFields ReadError)). eval img q ≡ Ok h → Same img new (visits img q) → eval new (at_block (map f before) m (map f rest)) ≡ Ok (with_messages f h))
    (λ t g s. absurd cc)
    (λ t g s.
    let b : List ℕ = range img (block_place m) (block_len m) in
    let r = block_messages tracked (block_place m) (block_len m) b in
    let d = choice_ok img r (onward before m rest) (λ e. e) h g in
    let is = block_found img tracked (block_place m) (block_len m) d.0 (ltb-false (block_len m) 8 t) d.1 in
    let kept : map f d.0 ≡ d.0 = ap (map f) is.are ∙ inside_kept f (block_place m) is.listed own ∙ sym is.are in
    let seen = choice_looks img r (onward before m rest) (λ e. e) d.0 d.1 in
    let later = walk_changed f img new more header tracked (visited ++ here m ∷ []) before (d.0 ++ rest) h own d.2 (subst (λ vs. Same img new vs) seen s.1) in
    ap (λ c. eval new (cond c (short m) (whole (block_place m) (block_len m) (in_block (map f before) m (map f rest))))) t
    ∙ ap (λ (x : List ℕ). eval new (in_block (map f before) m (map f rest) x)) s.0
    ∙ choice_from new r (onward (map f before) m (map f rest)) (λ e. e) d.0 (with_messages f h) d.1
    (ap (λ (xs : List FoundMessage). eval new (walk more header tracked (visited ++ here m ∷ []) (map f before) xs)) (sym (map-append f d.0 rest ∙ ap (λ (xs : List FoundMessage). xs ++ map f rest) kept)) ∙ later)))
    e same
