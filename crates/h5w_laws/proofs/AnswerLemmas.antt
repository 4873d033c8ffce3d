-- What an image is found to be, and which steps keep blocks.
use Rattle.std.proofs.Common.{◌≡◌, ℕ, zero, suc, Bool, true, List, [], ◌∷◌, ◌++◌, Result, Ok, Err, refl, inl, inr}
use Rattle.std.specs.Prelude.{◌==◌, nat_lt}
use Rattle.std.proofs.lemmas.Bool.{cond_both}
use Rattle.h5w_model.specs.Numbers.{undefined}
use Rattle.h5w_model.specs.Programs.{Prog, ret, whole, counted, stored, eval, bind, and_then}
use Rattle.h5w_model.specs.Headers.{prefix_at, messages_at}
use Rattle.h5w_model.specs.Datasets.{Described, FoundMessage, Range, HeaderFields, superblock, root_header, from_chunk_0, walk, splice, block_messages, block_place, block_len, found_at, linked, dataset_messages, dataset, dataset_place, described, refused_as}
use Rattle.h5w_model.specs.Tables.{reading, InPlace, in_place, array_in_place, tree_in_place}
use Rattle.h5w_model.specs.Findings.{check}
use Rattle.h5w_model.specs.declared.refusal.ReadError.{ReadError}
use Rattle.h5w_model.specs.declared.refusal.ReadError.TheVariants as errors
use Rattle.h5w_model.specs.declared.message.Prefix.{Prefix}
use Rattle.h5w_model.specs.declared.cell.IndexKind.{IndexKind}
use Rattle.h5w_model.specs.declared.cell.IndexKind.TheVariants.{Array, Tree}
use Rattle.h5w_model.specs.Arrays.{eahd_at}
use Rattle.h5w_laws.specs.Programs.{IsUnstored}
use Rattle.h5w_laws.specs.Answers.{ExactlyOne, OneAnswer, OneVerdict, UnstoredSteps}

-- a result is one of its two
pub one_of : {A E : Type 0} (r : Result A E) → ExactlyOne ((a : A) × (r ≡ Ok a)) ((e : E) × (r ≡ Err e))
one_of (Ok a) = inl ((a, refl), λ h. cc (h.1))
one_of (Err e) = inr ((e, refl), λ h. cc (h.1))

pub same_ok : {A E : Type 0} (r : Result A E) (a b : A) → r ≡ Ok a → r ≡ Ok b → a ≡ b
same_ok r a b h g = cc

pub same_err : {A E : Type 0} (r : Result A E) (e f : E) → r ≡ Err e → r ≡ Err f → e ≡ f
same_err r e f h g = cc

pub one_answer : OneAnswer
one_answer = record {
  one = λ limits img name. one_of (eval img (reading limits name));
  reading = λ limits img name. same_ok (eval img (reading limits name));
  refusal = λ limits img name. same_err (eval img (reading limits name));
}

pub one_verdict : OneVerdict
one_verdict = record {
  one = λ img name. one_of (eval img (check _ name _));
  summary = λ img name. same_ok (eval img (check _ name _));
  finding = λ img name. same_err (eval img (check _ name _));
}

-- ---- Steps of which nothing is kept

pub result_both : {A E Y : Type 0} (r : Result A E) (f : A → Y) (g : E → Y) (P : Y → Type 0)
    → ((a : A) → r ≡ Ok a → P (f a)) → ((e : E) → r ≡ Err e → P (g e)) → P (elim r as (λ _. Y) [ Ok a ↦ f a | Err e ↦ g e ])
result_both (Ok a) f g P h k = h a refl
result_both (Err e) f g P h k = k e refl

pub unstored_bind : {A B : Type 0} (p : Prog A) (f : A → Prog B) → IsUnstored p → ((a : A) → IsUnstored (f a)) → IsUnstored (bind p f)
unstored_bind (ret a) f h g = g a
unstored_bind (whole at len next) f h g = λ b. unstored_bind (next b) f (h b) g
unstored_bind (counted at counts next) f h g = λ b. unstored_bind (next b) f (h b) g
unstored_bind (stored kind at len next) f h g = h

pub unstored_and_then : {A B E : Type 0} (p : Prog (Result A E)) (f : A → Prog (Result B E)) → IsUnstored p → ((a : A) → IsUnstored (f a)) → IsUnstored (and_then p f)
unstored_and_then {A} {B} {E} p f h g =
    unstored_bind p (λ r. elim r [ Ok a ↦ f a | Err e ↦ ret (Err e) ]) h
    (λ r. result_both r f (λ e. ret (Err e)) (λ (q : Prog (Result B E)). IsUnstored q) (λ a e. g a) (λ e i. tt))

pub unstored_splice : (visit : List FoundMessage → FoundMessage → List FoundMessage → Prog (Result HeaderFields ReadError)) (visited : List Range) (done ms : List FoundMessage)
    → ((done : List FoundMessage) (m : FoundMessage) (rest : List FoundMessage) → IsUnstored (visit done m rest)) → IsUnstored (splice visit visited done ms)
unstored_splice visit visited done [] h = tt
unstored_splice visit visited done (m ∷ ms) h =
    cond_both (m.kind == 0x10) (visit done m ms) (splice visit visited (done ++ m ∷ []) ms) (λ (q : Prog (Result HeaderFields ReadError)). IsUnstored q)
    (λ t. h done m ms) (λ t. unstored_splice visit visited (done ++ m ∷ []) ms h)

pub unstored_walk : (more header : ℕ) (tracked : Bool) (visited : List Range) (done ms : List FoundMessage) → IsUnstored (walk more header tracked visited done ms)
unstored_walk zero header tracked visited done ms = unstored_splice _ visited done ms (λ done m rest. tt)
unstored_walk (suc more) header tracked visited done ms =
    unstored_splice _ visited done ms (λ done m rest.
    cond_both (nat_lt (block_len m) 8) _ _ (λ (q : Prog (Result HeaderFields ReadError)). IsUnstored q)
    (λ t. tt)
    (λ t b.
    result_both (block_messages tracked (block_place m) (block_len m) b) _ _ (λ (q : Prog (Result HeaderFields ReadError)). IsUnstored q)
    (λ inside e. unstored_walk more header tracked (visited ++ record { place = block_place m; len = block_len m } ∷ []) done (inside ++ rest))
    (λ e i. tt)))

pub unstored_from_chunk : (place : ℕ) (p : Prefix) (b : List ℕ) → IsUnstored (from_chunk_0 place p b)
unstored_from_chunk place p b =
    result_both (messages_at b) _ _ (λ (q : Prog (Result HeaderFields ReadError)). IsUnstored q)
    (λ ms e. unstored_walk 32 place p.tracked (record { place = place; len = p.total } ∷ []) [] (found_at place true ms))
    (λ e i. tt)

pub unstored_root_header : (place : ℕ) → IsUnstored (root_header place)
unstored_root_header place =
    λ first. result_both (prefix_at first) _ _ (λ (q : Prog (Result HeaderFields ReadError)). IsUnstored q)
    (λ p e.
    cond_both (nat_lt 512 p.total) _ _ (λ (q : Prog (Result HeaderFields ReadError)). IsUnstored q)
    (λ t rest. unstored_from_chunk place p (first ++ rest))
    (λ t. unstored_from_chunk place p first))
    (λ e i. tt)

pub unstored_dataset_messages : (place : ℕ) (b : List ℕ) → IsUnstored (dataset_messages place b)
unstored_dataset_messages place b =
    result_both (prefix_at b) _ _ (λ (q : Prog (Result HeaderFields ReadError)). IsUnstored q)
    (λ p e.
    cond_both (nat_lt 512 p.total) _ _ (λ (q : Prog (Result HeaderFields ReadError)). IsUnstored q)
    (λ t. tt)
    (λ t. unstored_from_chunk place p b))
    (λ e i. tt)

pub unstored_place : (name : List ℕ) → IsUnstored (dataset_place name)
unstored_place name =
    unstored_and_then superblock (λ s. and_then (root_header s.root) (λ h. ret (linked name h.messages))) (λ b. tt)
    (λ s. unstored_and_then (root_header s.root) (λ h. ret (linked name h.messages)) (unstored_root_header s.root) (λ h. tt))

pub unstored_dataset : (place : ℕ) → IsUnstored (dataset place)
unstored_dataset place =
    λ b. unstored_and_then (dataset_messages place b) (λ h. ret (refused_as errors.Unsupported (described h.messages))) (unstored_dataset_messages place b) (λ h. tt)

pub unstored_array : (address : ℕ) → IsUnstored (array_in_place address)
unstored_array address =
    λ h. result_both (eahd_at h address) _ _ (λ (q : Prog (Result InPlace ReadError)). IsUnstored q)
    (λ a e. cond_both (a.block == undefined) _ _ (λ (q : Prog (Result InPlace ReadError)). IsUnstored q) (λ t. tt) (λ t b. tt))
    (λ e i. tt)

pub by_kind : (kind : IndexKind) (address : ℕ) → IsUnstored (elim kind as (λ _. Prog (Result InPlace ReadError)) [ Array ↦ array_in_place address | Tree ↦ tree_in_place address ])
by_kind Array address = unstored_array address
by_kind Tree address = λ h. tt

pub unstored_blocks : (d : Described) → IsUnstored (in_place d)
unstored_blocks d =
    cond_both (d.layout.address == undefined) _ _ (λ (q : Prog (Result InPlace ReadError)). IsUnstored q)
    (λ t. tt)
    (λ t. by_kind d.layout.index d.layout.address)

pub unstored_steps : UnstoredSteps
unstored_steps = record { place = unstored_place; header = unstored_dataset; blocks = unstored_blocks }
