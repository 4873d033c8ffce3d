-- What is spliced is what the walk over continuation blocks gives.
use Rattle.std.proofs.Common.{◌≡◌, ◌≢◌, ℕ, zero, suc, ◌≤◌, Bool, false, cond, List, [], ◌∷◌, ◌++◌, length, Result, Ok, Err, refl, sym, ◌∙◌, ap, subst, append_assoc, arith}
use Rattle.std.specs.Prelude.{nat_lt}
use Rattle.std.proofs.lemmas.Bool.{le-ltb}
use Rattle.std.proofs.lemmas.List.{append-nil}
use Rattle.h5w_model.specs.Numbers.{range}
use Rattle.h5w_model.specs.Programs.{Prog, ret, whole, eval}
use Rattle.h5w_model.specs.Headers.{block_at}
use Rattle.h5w_model.specs.Datasets.{FoundMessage, HeaderFields, Range, walk, block_place, block_len, block_messages, header_refusal, found_at, then_also, refused_as}
use Rattle.h5w_model.specs.Relations.{IsBlock, Spliced, no_message, message, continuation}
use Rattle.h5w_model.specs.declared.refusal.ReadError.{ReadError}
use Rattle.h5w_model.specs.declared.refusal.ReadError.TheVariants.{Header}
use Rattle.h5w_model.specs.declared.refusal.HeaderError.TheVariants as header_errors
use Rattle.h5w_laws.proofs.ResultLemmas.{then_from, choice_from}
use Rattle.h5w_laws.proofs.SlotLemmas.{where_equal, where_other, refused_from}

-- the walk over these messages gives these, behind those that are done
pub record WalkReads (img : List ℕ) (header : ℕ) (tracked : Bool) (most : ℕ) (visited : List Range) (done ms rs : List FoundMessage) : Type 0 where
  pub fields : HeaderFields
  pub is : eval img (walk most header tracked visited done ms) ≡ Ok fields
  pub messages : fields.messages ≡ done ++ rs

unfoldable pub ReadsAs : List ℕ → ℕ → Bool → ℕ → List FoundMessage → List FoundMessage → Type 0
ReadsAs img header tracked n ms rs = (most : ℕ) → n ≤ most → (visited : List Range) (done : List FoundMessage) → WalkReads img header tracked most visited done ms rs

pub end_reads : (img : List ℕ) (header : ℕ) (tracked : Bool) (most : ℕ) (visited : List Range) (done : List FoundMessage) → WalkReads img header tracked most visited done [] []
end_reads img header tracked zero visited done = record { fields = record { messages = done; ranges = visited }; is = refl; messages = sym (append-nil done) }
end_reads img header tracked (suc more) visited done = record { fields = record { messages = done; ranges = visited }; is = refl; messages = sym (append-nil done) }

-- what the walk does at a continuation
abbrev pub at_continuation : ℕ → ℕ → Bool → List Range → List FoundMessage → FoundMessage → List FoundMessage → Prog (Result HeaderFields ReadError)
at_continuation more header tracked visited done m ms =
    cond (nat_lt (block_len m) 8) (ret (Err (header_refusal (block_place m) (header_errors.Short 8 (block_len m)))))
    (whole (block_place m) (block_len m) (λ b.
    elim (block_messages tracked (block_place m) (block_len m) b) as (λ _. Prog (Result HeaderFields ReadError)) [
      | Ok inside ↦ walk more header tracked (visited ++ record { place = block_place m; len = block_len m } ∷ []) done (inside ++ ms)
      | Err e ↦ ret (Err e)
    ]))

pub message_reads : (img : List ℕ) (header : ℕ) (tracked : Bool) (most : ℕ) (visited : List Range) (done : List FoundMessage) (m : FoundMessage) (ms rs : List FoundMessage)
    → m.kind ≢ 0x10 → WalkReads img header tracked most visited (done ++ m ∷ []) ms rs → WalkReads img header tracked most visited done (m ∷ ms) (m ∷ rs)
message_reads img header tracked zero visited done m ms rs other w =
    record {
      fields = w.fields;
      is = where_other img m.kind 0x10 (ret (Err (Header header header_errors.Continuations))) (walk zero header tracked visited (done ++ m ∷ []) ms) (Ok w.fields) other w.is;
      messages = w.messages ∙ append_assoc done (m ∷ []) rs;
    }
message_reads img header tracked (suc more) visited done m ms rs other w =
    record {
      fields = w.fields;
      is = where_other img m.kind 0x10 (at_continuation more header tracked visited done m ms) (walk (suc more) header tracked visited (done ++ m ∷ []) ms) (Ok w.fields) other w.is;
      messages = w.messages ∙ append_assoc done (m ∷ []) rs;
    }

-- a continuation block is read as what it is
pub block_reads : (img : List ℕ) (tracked : Bool) (place len : ℕ) (inside : List FoundMessage) → IsBlock img tracked place len inside → block_messages tracked place len (range img place len) ≡ Ok inside
block_reads img tracked place len inside b =
    ap (λ (t : Bool). cond t (Err (header_refusal place (header_errors.Short len (length (range img place len)))))
    (then_also (refused_as (header_refusal place) (block_at tracked (range img place len))) (λ ms. Ok (found_at place false ms))))
    (le-ltb (length (range img place len)) len (enough b.whole))
    ∙ then_from (refused_as (header_refusal place) (block_at tracked (range img place len))) (λ ms. Ok (found_at place false ms)) b.listed inside
    (refused_from (header_refusal place) (block_at tracked (range img place len)) b.listed b.read) (ap as_list (sym b.are))
  where
    as_list : List FoundMessage → Result (List FoundMessage) ReadError
    as_list ms = Ok ms

    enough : length (range img place len) ≡ len → len ≤ length (range img place len)
    enough e = omega arith

pub block_step : (img : List ℕ) (header : ℕ) (tracked : Bool) (more : ℕ) (visited : List Range) (done : List FoundMessage) (m : FoundMessage) (ms inside rs : List FoundMessage)
    → m.kind ≡ 0x10 → IsBlock img tracked (block_place m) (block_len m) inside
    → WalkReads img header tracked more (visited ++ record { place = block_place m; len = block_len m } ∷ []) done (inside ++ ms) rs
    → WalkReads img header tracked (suc more) visited done (m ∷ ms) rs
block_step img header tracked more visited done m ms inside rs kind b w =
    record {
      fields = w.fields;
      is = where_equal img m.kind 0x10 (at_continuation more header tracked visited done m ms) (walk (suc more) header tracked visited (done ++ m ∷ []) ms) (Ok w.fields) kind long;
      messages = w.messages;
    }
  where
    long : eval img (at_continuation more header tracked visited done m ms) ≡ Ok w.fields
    long =
        ap (λ (t : Bool). eval img (cond t (ret (Err (header_refusal (block_place m) (header_errors.Short 8 (block_len m)))))
        (whole (block_place m) (block_len m) (λ b.
        elim (block_messages tracked (block_place m) (block_len m) b) as (λ _. Prog (Result HeaderFields ReadError)) [
          | Ok inside ↦ walk more header tracked (visited ++ record { place = block_place m; len = block_len m } ∷ []) done (inside ++ ms)
          | Err e ↦ ret (Err e)
        ])))) (le-ltb (block_len m) 8 b.long)
        ∙ choice_from img (block_messages tracked (block_place m) (block_len m) (range img (block_place m) (block_len m)))
        (λ (inside : List FoundMessage). walk more header tracked (visited ++ record { place = block_place m; len = block_len m } ∷ []) done (inside ++ ms)) (λ (e : ReadError). e)
        inside w.fields (block_reads img tracked (block_place m) (block_len m) inside b) w.is

-- with a block, more than none are left
pub continuation_reads : (img : List ℕ) (header : ℕ) (tracked : Bool) (n most : ℕ) (visited : List Range) (done : List FoundMessage) (m : FoundMessage) (ms inside joined rs : List FoundMessage)
    → m.kind ≡ 0x10 → IsBlock img tracked (block_place m) (block_len m) inside → joined ≡ inside ++ ms → ReadsAs img header tracked n joined rs → suc n ≤ most
    → WalkReads img header tracked most visited done (m ∷ ms) rs
unfolding ReadsAs
continuation_reads img header tracked n zero visited done m ms inside joined rs kind b e again le = absurd (omega arith)
continuation_reads img header tracked n (suc more) visited done m ms inside joined rs kind b e again le =
    block_step img header tracked more visited done m ms inside rs kind b
    (subst (λ (js : List FoundMessage). WalkReads img header tracked more (visited ++ record { place = block_place m; len = block_len m } ∷ []) done js rs) e
    (again more (omega arith) (visited ++ record { place = block_place m; len = block_len m } ∷ []) done))

pub walk_reads : (img : List ℕ) (header : ℕ) (tracked : Bool) (n : ℕ) (ms rs : List FoundMessage) → Spliced img tracked n ms rs → ReadsAs img header tracked n ms rs
unfolding ReadsAs
walk_reads img header tracked _ _ _ no_message most le visited done = end_reads img header tracked most visited done
walk_reads img header tracked _ _ _ (message n m ms rs other s) most le visited done =
    message_reads img header tracked most visited done m ms rs other (walk_reads img header tracked n ms rs s most le visited (done ++ m ∷ []))
walk_reads img header tracked _ _ _ (continuation n m ms inside joined rs kind b e s) most le visited done =
    continuation_reads img header tracked n most visited done m ms inside joined rs kind b e (walk_reads img header tracked n joined rs s) le
