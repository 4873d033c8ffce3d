-- The walk over a header's continuation blocks, as a program and as a relation.
use Rattle.std.proofs.Common.{◌≡◌, ◌≢◌, ◌⊎◌, ℕ, zero, suc, ◌<◌, ◌≤◌, Bool, true, false, cond, List, [], ◌∷◌, ◌++◌, length, Result, Ok, Err, refl, sym, ◌∙◌, ap, inl, inr, append_assoc, arith}
use Rattle.std.proofs.lemmas.List.{append-nil}
use Rattle.std.specs.Prelude.{nat_lt}
use Rattle.std.proofs.lemmas.Bool.{ltb-true, ltb-false}
use Rattle.h5w_model.specs.Numbers.{range}
use Rattle.h5w_model.specs.Programs.{Prog, ret, whole, eval}
use Rattle.h5w_model.specs.Headers.{block_at}
use Rattle.h5w_model.specs.Datasets.{FoundMessage, HeaderFields, Range, walk, block_place, block_len, block_messages, header_refusal, found_at, then_also, refused_as}
use Rattle.h5w_model.specs.Relations.{IsBlock, Spliced, no_message, message, continuation}
use Rattle.h5w_model.specs.declared.refusal.ReadError.{ReadError}
use Rattle.h5w_model.specs.declared.refusal.ReadError.TheVariants.{Header}
use Rattle.h5w_model.specs.declared.refusal.HeaderError.TheVariants as header_errors
use Rattle.h5w_laws.proofs.ResultLemmas.{then_ok, refused_ok, choice_ok}
use Rattle.h5w_laws.proofs.LoweringLemmas.{length_range}
use Rattle.h5w_laws.proofs.SlotLemmas.{by_test}

-- a program that goes on by a test: the test's answer is told
pub by_bool : {A : Type 0} (img : List ℕ) (t : Bool) (p q : Prog A) (x : A) → eval img (cond t p q) ≡ x → (t ≡ true) × (eval img p ≡ x) ⊎ (t ≡ false) × (eval img q ≡ x)
by_bool img true p q x h = inl (refl, h)
by_bool img false p q x h = inr (refl, h)

abbrev pub as_read : HeaderFields → Result HeaderFields ReadError
as_read h = Ok h

abbrev pub as_refused : ReadError → Result HeaderFields ReadError
as_refused e = Err e

abbrev pub as_list : List FoundMessage → Result (List FoundMessage) ReadError
as_list ms = Ok ms

pub by_order : {A : Type 0} (img : List ℕ) (a b : ℕ) (p q : Prog A) (x : A) → eval img (cond (nat_lt a b) p q) ≡ x → (a < b) × (eval img p ≡ x) ⊎ (b ≤ a) × (eval img q ≡ x)
by_order {A} img a b p q x h = go (by_bool img (nat_lt a b) p q x h)
  where
    go : (nat_lt a b ≡ true) × (eval img p ≡ x) ⊎ (nat_lt a b ≡ false) × (eval img q ≡ x) → (a < b) × (eval img p ≡ x) ⊎ (b ≤ a) × (eval img q ≡ x)
    go (inl t) = inl (ltb-true a b t.0, t.1)
    go (inr t) = inr (ltb-false a b t.0, t.1)

-- a refusal is no answer
pub no_answer : {Z : Type 0} (e : ReadError) (h : HeaderFields) → as_refused e ≡ as_read h → Z
no_answer e h i = cc

pub same_list : (xs ys : List FoundMessage) → as_list xs ≡ as_list ys → ys ≡ xs
same_list xs ys i = cc

pub same_fields : (f h : HeaderFields) → as_read f ≡ as_read h → h ≡ f
same_fields f h i = cc

-- ---- What the walk found

-- a list of messages, spliced by at most so many blocks, and what the walk makes of it
pub record Walked (img : List ℕ) (tracked : Bool) (most : ℕ) (done ms : List FoundMessage) (h : HeaderFields) : Type 0 where
  pub blocks : ℕ
  pub few : blocks ≤ most
  pub rest : List FoundMessage
  pub spliced : Spliced img tracked blocks ms rest
  pub joined : h.messages ≡ done ++ rest

-- the bytes of a block as a continuation block reads them
pub block_found : (img : List ℕ) (tracked : Bool) (place len : ℕ) (inside : List FoundMessage) → 8 ≤ len → block_messages tracked place len (range img place len) ≡ Ok inside → IsBlock img tracked place len inside
block_found img tracked place len inside long h = go (nat_lt (length (range img place len)) len) refl h
  where
    go : (t : Bool) → nat_lt (length (range img place len)) len ≡ t
        → cond t (Err (header_refusal place (header_errors.Short len (length (range img place len)))))
        (then_also (refused_as (header_refusal place) (block_at tracked (range img place len))) (λ ms. Ok (found_at place false ms))) ≡ Ok inside
        → IsBlock img tracked place len inside
    go true e i = cc
    go false e i =
        let m = then_ok (refused_as (header_refusal place) (block_at tracked (range img place len))) (λ ms. Ok (found_at place false ms)) inside i in
        record {
          whole = whole_from e;
          long = long;
          listed = m.0;
          read = refused_ok (header_refusal place) (block_at tracked (range img place len)) m.0 m.1;
          are = same_list (found_at place false m.0) inside m.2;
        }
      where
        whole_from : nat_lt (length (range img place len)) len ≡ false → length (range img place len) ≡ len
        whole_from e = omega (arith, ltb-false (length (range img place len)) len e, length_range img place len)

-- the message up to which the walk has come, behind those that are done
pub next_done : (done rest : List FoundMessage) (m : FoundMessage) (ms : List FoundMessage) → ms ≡ (done ++ m ∷ []) ++ rest → ms ≡ done ++ m ∷ rest
next_done done rest m ms e = e ∙ append_assoc done (m ∷ []) rest

pub walked_end : (img : List ℕ) (tracked : Bool) (most : ℕ) (done : List FoundMessage) (visited : List Range) (h : HeaderFields)
    → as_read (record { messages = done; ranges = visited }) ≡ as_read h → Walked img tracked most done [] h
walked_end img tracked most done visited h i =
    record {
      blocks = 0;
      few = omega arith;
      rest = [];
      spliced = no_message;
      joined = ap (λ (f : HeaderFields). f.messages) (same_fields (record { messages = done; ranges = visited }) h i) ∙ sym (append-nil done);
    }

pub walked_message : (img : List ℕ) (tracked : Bool) (most : ℕ) (done : List FoundMessage) (m : FoundMessage) (ms : List FoundMessage) (h : HeaderFields)
    → m.kind ≢ 0x10 → Walked img tracked most (done ++ m ∷ []) ms h → Walked img tracked most done (m ∷ ms) h
walked_message img tracked most done m ms h other w =
    record {
      blocks = w.blocks;
      few = w.few;
      rest = m ∷ w.rest;
      spliced = message w.blocks m ms w.rest other w.spliced;
      joined = next_done done w.rest m h.messages w.joined;
    }

pub walked_block : (img : List ℕ) (tracked : Bool) (most : ℕ) (done : List FoundMessage) (m : FoundMessage) (ms inside : List FoundMessage) (h : HeaderFields)
    → m.kind ≡ 0x10 → IsBlock img tracked (block_place m) (block_len m) inside → Walked img tracked most done (inside ++ ms) h → Walked img tracked (suc most) done (m ∷ ms) h
walked_block img tracked most done m ms inside h kind block w =
    record {
      blocks = suc w.blocks;
      few = le_suc w.blocks most w.few;
      rest = w.rest;
      spliced = continuation w.blocks m ms inside (inside ++ ms) w.rest kind block refl w.spliced;
      joined = w.joined;
    }
  where
    le_suc : (a b : ℕ) → a ≤ b → suc a ≤ suc b
    le_suc a b h = omega arith

-- what the walk does at a continuation
pub visit_program : ℕ → ℕ → Bool → List Range → List FoundMessage → FoundMessage → List FoundMessage → Prog (Result HeaderFields ReadError)
visit_program more header tracked visited done m ms =
    cond (nat_lt (block_len m) 8) (ret (Err (header_refusal (block_place m) (header_errors.Short 8 (block_len m)))))
    (whole (block_place m) (block_len m) (λ b.
    elim (block_messages tracked (block_place m) (block_len m) b) as (λ _. Prog (Result HeaderFields ReadError)) [
      | Ok inside ↦ walk more header tracked (visited ++ record { place = block_place m; len = block_len m } ∷ []) done (inside ++ ms)
      | Err e ↦ ret (Err e)
    ]))

-- what is found of a walk with so many blocks more
unfoldable pub WalkFound : List ℕ → ℕ → Bool → ℕ → Type 0
WalkFound img header tracked most =
    (visited : List Range) (done ms : List FoundMessage) (h : HeaderFields) → eval img (walk most header tracked visited done ms) ≡ Ok h → Walked img tracked most done ms h

pub at_last : (img : List ℕ) (header : ℕ) (tracked : Bool) (visited : List Range) (done : List FoundMessage) (m : FoundMessage) (ms : List FoundMessage) (h : HeaderFields)
    → ((d : List FoundMessage) → eval img (walk zero header tracked visited d ms) ≡ Ok h → Walked img tracked zero d ms h)
    → (m.kind ≡ 0x10) × (as_refused (Header header header_errors.Continuations) ≡ as_read h)
    ⊎ (m.kind ≢ 0x10) × (eval img (walk zero header tracked visited (done ++ m ∷ []) ms) ≡ as_read h)
    → Walked img tracked zero done (m ∷ ms) h
at_last img header tracked visited done m ms h again (inl t) = no_answer (Header header header_errors.Continuations) h t.1
at_last img header tracked visited done m ms h again (inr t) = walked_message img tracked zero done m ms h t.0 (again (done ++ m ∷ []) t.1)

pub walk_zero : (img : List ℕ) (header : ℕ) (tracked : Bool) (visited : List Range) (ms done : List FoundMessage) (h : HeaderFields)
    → eval img (walk zero header tracked visited done ms) ≡ Ok h → Walked img tracked zero done ms h
walk_zero img header tracked visited [] done h e = walked_end img tracked zero done visited h e
walk_zero img header tracked visited (m ∷ ms) done h e =
    at_last img header tracked visited done m ms h (λ d. walk_zero img header tracked visited ms d h)
    (by_test img m.kind 0x10 (ret (Err (Header header header_errors.Continuations))) (walk zero header tracked visited (done ++ m ∷ []) ms) (Ok h) e)

-- at a continuation
pub at_block : (img : List ℕ) (more header : ℕ) (tracked : Bool) (visited : List Range) (done : List FoundMessage) (m : FoundMessage) (ms : List FoundMessage) (h : HeaderFields)
    → WalkFound img header tracked more → m.kind ≡ 0x10
    → (block_len m < 8) × (as_refused (header_refusal (block_place m) (header_errors.Short 8 (block_len m))) ≡ as_read h)
    ⊎ (8 ≤ block_len m)
    × (eval img (elim (block_messages tracked (block_place m) (block_len m) (range img (block_place m) (block_len m))) as (λ _. Prog (Result HeaderFields ReadError)) [
      | Ok inside ↦ walk more header tracked (visited ++ record { place = block_place m; len = block_len m } ∷ []) done (inside ++ ms)
      | Err e ↦ ret (Err e)
    ]) ≡ as_read h)
    → Walked img tracked (suc more) done (m ∷ ms) h
unfolding WalkFound
at_block img more header tracked visited done m ms h found kind (inl t) = no_answer (header_refusal (block_place m) (header_errors.Short 8 (block_len m))) h t.1
at_block img more header tracked visited done m ms h found kind (inr t) =
    let b = choice_ok img (block_messages tracked (block_place m) (block_len m) (range img (block_place m) (block_len m)))
    (λ (inside : List FoundMessage). walk more header tracked (visited ++ record { place = block_place m; len = block_len m } ∷ []) done (inside ++ ms)) (λ (e : ReadError). e) h t.1 in
    walked_block img tracked more done m ms b.0 h kind (block_found img tracked (block_place m) (block_len m) b.0 t.0 b.1)
    (found (visited ++ record { place = block_place m; len = block_len m } ∷ []) done (b.0 ++ ms) h b.2)

pub at_message : (img : List ℕ) (more header : ℕ) (tracked : Bool) (visited : List Range) (done : List FoundMessage) (m : FoundMessage) (ms : List FoundMessage) (h : HeaderFields)
    → WalkFound img header tracked more
    → ((d : List FoundMessage) → eval img (walk (suc more) header tracked visited d ms) ≡ Ok h → Walked img tracked (suc more) d ms h)
    → (m.kind ≡ 0x10) × (eval img (visit_program more header tracked visited done m ms) ≡ as_read h)
    ⊎ (m.kind ≢ 0x10) × (eval img (walk (suc more) header tracked visited (done ++ m ∷ []) ms) ≡ as_read h)
    → Walked img tracked (suc more) done (m ∷ ms) h
unfolding visit_program
at_message img more header tracked visited done m ms h found again (inl t) =
    at_block img more header tracked visited done m ms h found t.0
    (by_order img (block_len m) 8 (ret (Err (header_refusal (block_place m) (header_errors.Short 8 (block_len m)))))
    (whole (block_place m) (block_len m) (λ b.
    elim (block_messages tracked (block_place m) (block_len m) b) as (λ _. Prog (Result HeaderFields ReadError)) [
      | Ok inside ↦ walk more header tracked (visited ++ record { place = block_place m; len = block_len m } ∷ []) done (inside ++ ms)
      | Err e ↦ ret (Err e)
    ])) (Ok h) t.1)
at_message img more header tracked visited done m ms h found again (inr t) = walked_message img tracked (suc more) done m ms h t.0 (again (done ++ m ∷ []) t.1)

pub walk_suc : (img : List ℕ) (more header : ℕ) (tracked : Bool) → WalkFound img header tracked more → (visited : List Range) (ms done : List FoundMessage) (h : HeaderFields)
    → eval img (walk (suc more) header tracked visited done ms) ≡ Ok h → Walked img tracked (suc more) done ms h
unfolding visit_program
walk_suc img more header tracked found visited [] done h e = walked_end img tracked (suc more) done visited h e
walk_suc img more header tracked found visited (m ∷ ms) done h e =
    at_message img more header tracked visited done m ms h found (λ d. walk_suc img more header tracked found visited ms d h)
    (by_test img m.kind 0x10 (visit_program more header tracked visited done m ms) (walk (suc more) header tracked visited (done ++ m ∷ []) ms) (Ok h) e)

pub walk_found : (img : List ℕ) (header : ℕ) (tracked : Bool) (most : ℕ) → WalkFound img header tracked most
unfolding WalkFound
walk_found img header tracked zero visited done ms h e = walk_zero img header tracked visited ms done h e
walk_found img header tracked (suc more) visited done ms h e = walk_suc img more header tracked (walk_found img header tracked more) visited ms done h e
