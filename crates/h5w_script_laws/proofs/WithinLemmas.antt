-- Programs that end within some looks, whatever they give.
use Rattle.std.proofs.Common.{◌≡◌, ℕ, zero, suc, ◌+◌, ◌-◌, ◌*◌, ◌/◌, ◌<◌, ◌≤◌, min, Bool, true, List, [], ◌∷◌, ◌++◌, length, Option, None, Some, Result, Ok, Err, refl, sym, subst, arith}
use Rattle.std.specs.Prelude.{◌==◌, ◌&&◌, nat_lt}
use Rattle.std.proofs.lemmas.Bool.{cond_both}
use Rattle.h5w_model.specs.Programs.{Prog, ret, whole, counted, stored, bind, and_then, below_end, cut_up, look_pieces, Kept, kept_bytes, used, lowered, Look, rest_after, Takes}
use Rattle.h5w_model.specs.Datasets.{HeaderFields, FoundMessage, Range, splice, walk, block_place, block_len, block_messages, found_at, from_chunk_0, root_header, super_of, superblock, linked, dataset_place, dataset_messages, dataset_from, Described, described, refused_as}
use Rattle.h5w_model.specs.Headers.{prefix_at, messages_at}
use Rattle.h5w_model.specs.declared.message.Prefix.{Prefix}
use Rattle.h5w_model.specs.declared.root.Super.{Super}
use Rattle.h5w_model.specs.declared.refusal.ReadError.{ReadError}
use Rattle.h5w_model.specs.declared.refusal.ReadError.TheVariants.{Header, Unsupported}
use Rattle.h5w_model.specs.declared.refusal.HeaderError.TheVariants as header_errors
use Rattle.h5w_model.specs.declared.refusal.Unsupported.{Unsupported as Refused}
use Rattle.h5w_laws.proofs.LookLemmas.{takes_ret, takes_whole}
use Rattle.h5w_laws.proofs.LoweringLemmas.{option_both}
use Rattle.h5w_laws.proofs.AnswerLemmas.{result_both}
use Rattle.h5w_reader_laws.proofs.BlockLemmas.{onward}
use Rattle.h5w_reader_laws.proofs.CountLemmas.{AtMost, AnyOf, IsAnswered}
use Rattle.h5w_reader_laws.proofs.KeyLemmas.{Sound, sound_described}
use Rattle.h5w_script_laws.specs.Endings.{TakesAtMost, range_most}

-- It ends within so many looks, whatever they give, with such an answer: fewer are left after each.
abbrev pub EndsWithin : {A : Type 0} → (A → Type 0) → ℕ → Prog A → Type 0
EndsWithin P n (ret a) = P a
EndsWithin P n (whole at len next) = (left : ℕ) × (left < n) × ((bytes : List ℕ) → EndsWithin P left (next bytes))
EndsWithin P n (counted at counts next) = ⊥
EndsWithin P n (stored kind at len next) = ⊥

-- no more looks are taken of it
pub within_takes : {A : Type 0} (P : A → Type 0) (n : ℕ) (p : Prog A) → EndsWithin P n p → TakesAtMost n p
within_takes P n p ends [] q left = omega arith
within_takes P n (ret a) ends (l ∷ ls) q left = cc
within_takes {A} P n (whole at len next) ends (l ∷ ls) q left =
    cond_both ((l.place == at) && (l.len == len)) (rest_after (next l.bytes) ls) None (λ (o : Option (Prog A)). o ≡ Some q → length (l ∷ ls) ≤ n)
    (λ t goes. let few : length ls ≤ ends.0 = within_takes P ends.0 (next l.bytes) (ends.2 l.bytes) ls q goes in omega (arith, ends.1))
    (λ t none. cc)
    left
within_takes P n (counted at counts next) ends (l ∷ ls) q left = absurd ends
within_takes P n (stored kind at len next) ends (l ∷ ls) q left = absurd ends

-- and it has such an answer
pub within_answers : {A : Type 0} (P : A → Type 0) (n : ℕ) (p : Prog A) (ls : List Look) (a : A) → EndsWithin P n p → Takes p ls a → P a
within_answers P n (ret x) ls a ends takes = subst P (sym (takes_ret x ls a takes).1) ends
within_answers P n (whole at len next) [] a ends takes = cc
within_answers P n (whole at len next) (l ∷ ls) a ends takes = within_answers P ends.0 (next l.bytes) ls a (ends.2 l.bytes) (takes_whole at len next l ls a takes).1
within_answers P n (counted at counts next) ls a ends takes = absurd ends
within_answers P n (stored kind at len next) ls a ends takes = absurd ends

pub within_more : {A : Type 0} (P : A → Type 0) (n m : ℕ) (p : Prog A) → n ≤ m → EndsWithin P n p → EndsWithin P m p
within_more P n m (ret a) h ends = ends
within_more P n m (whole at len next) h ends = (ends.0, omega (arith, ends.1), ends.2)
within_more P n m (counted at counts next) h ends = ends
within_more P n m (stored kind at len next) h ends = ends

pub within_bind : {A B : Type 0} (P : A → Type 0) (Q : B → Type 0) (n m : ℕ) (p : Prog A) (f : A → Prog B) → EndsWithin P n p → ((a : A) → P a → EndsWithin Q m (f a)) → EndsWithin Q (n + m) (bind p f)
within_bind P Q n m (ret a) f ends h = within_more Q m (n + m) (f a) (omega arith) (h a ends)
within_bind P Q n m (whole at len next) f ends h = (ends.0 + m, omega (arith, ends.1), λ b. within_bind P Q ends.0 m (next b) f (ends.2 b) h)
within_bind P Q n m (counted at counts next) f ends h = absurd ends
within_bind P Q n m (stored kind at len next) f ends h = absurd ends

-- ---- Ranges

-- the looks of at most 512 bytes at a range
abbrev range_looks : ℕ → ℕ
range_looks len = (len + 511) / 512

pieces_within : {A : Type 0} (P : A → Type 0) (fuel place len m : ℕ) (got : List ℕ) (next : List ℕ → Prog A) → ((b : List ℕ) → EndsWithin P m (next b))
    → EndsWithin P (range_looks len + m) (look_pieces fuel place len got next)
pieces_within P zero place len m got next h = within_more P m (range_looks len + m) (next got) (omega arith) (h got)
pieces_within P (suc fuel) place zero m got next h = within_more P m (range_looks 0 + m) (next got) (omega arith) (h got)
pieces_within {A} P (suc fuel) place (suc r) m got next h = (
  range_looks (suc r - 512) + m,
  omega arith,
  λ b.
      cond_both (length b == min 512 (suc r)) (look_pieces fuel (place + 512) (suc r - 512) (got ++ b) next) (next (got ++ b))
      (λ (q : Prog A). EndsWithin P (range_looks (suc r - 512) + m) q)
      (λ t. pieces_within P fuel (place + 512) (suc r - 512) m (got ++ b) next h)
      (λ t. within_more P m (range_looks (suc r - 512) + m) (next (got ++ b)) (omega arith) (h (got ++ b))),
)

cut_within : {A : Type 0} (P : A → Type 0) (n place len m : ℕ) (next : List ℕ → Prog A) → range_looks (below_end place len) + m ≤ n → ((b : List ℕ) → EndsWithin P m (next b))
    → EndsWithin P n (cut_up place len next)
cut_within P n place len m next few h =
    within_more P (range_looks (below_end place len) + m) n (cut_up place len next) few (pieces_within P (below_end place len / 512 + 1) place (below_end place len) m [] next h)

-- A program of ranges takes so many looks of at most 512 bytes, and has such an answer. Nothing is looked at from 2^64 on.
abbrev pub Costs : {A : Type 0} → (A → Type 0) → ℕ → Prog A → Type 0
Costs P n (ret a) = P a
Costs P n (whole at len next) = (m : ℕ) × (range_looks (below_end at len) + m ≤ n) × ((b : List ℕ) → Costs P m (next b))
Costs P n (counted at counts next) = (m : ℕ) × (1 + m ≤ n) × ((b : List ℕ) → Costs P m (next b))
Costs P n (stored kind at len next) = (m : ℕ) × (range_looks (below_end at len) + m ≤ n) × ((b : List ℕ) → Costs P m (next b))

pub costs_more : {A : Type 0} (P : A → Type 0) (n k : ℕ) (p : Prog A) → n ≤ k → Costs P n p → Costs P k p
costs_more P n k (ret a) h few = few
costs_more P n k (whole at len next) h few = (few.0, omega (arith, few.1), few.2)
costs_more P n k (counted at counts next) h few = (few.0, omega (arith, few.1), few.2)
costs_more P n k (stored kind at len next) h few = (few.0, omega (arith, few.1), few.2)

costs_bind : {A B : Type 0} (P : A → Type 0) (Q : B → Type 0) (n m : ℕ) (p : Prog A) (f : A → Prog B) → Costs P n p → ((a : A) → P a → Costs Q m (f a)) → Costs Q (n + m) (bind p f)
costs_bind P Q n m (ret a) f few h = costs_more Q m (n + m) (f a) (omega arith) (h a few)
costs_bind P Q n m (whole at len next) f few h = (few.0 + m, omega (arith, few.1), λ b. costs_bind P Q few.0 m (next b) f (few.2 b) h)
costs_bind P Q n m (counted at counts next) f few h = (few.0 + m, omega (arith, few.1), λ b. costs_bind P Q few.0 m (next b) f (few.2 b) h)
costs_bind P Q n m (stored kind at len next) f few h = (few.0 + m, omega (arith, few.1), λ b. costs_bind P Q few.0 m (next b) f (few.2 b) h)

pub costs_then : {A B : Type 0} (P : A → Type 0) (Q : B → Type 0) (n m : ℕ) (p : Prog (Result A ReadError)) (f : A → Prog (Result B ReadError)) → Costs (IsAnswered P) n p
    → ((a : A) → P a → Costs (IsAnswered Q) m (f a)) → Costs (IsAnswered Q) (n + m) (and_then p f)
costs_then {A} {B} P Q n m p f few h = costs_bind (IsAnswered P) (IsAnswered Q) n m p (onward f) few go
  where
    go : (r : Result A ReadError) → IsAnswered P r → Costs {A = Result B ReadError} (IsAnswered Q) m (onward f r)
    go (Ok a) is = h a is
    go (Err e) is = tt

pub lowered_within : {A : Type 0} (P : A → Type 0) (n cap : ℕ) (ks : List Kept) (p : Prog A) → Costs P n p → EndsWithin P n (lowered cap ks p)
lowered_within P n cap ks (ret a) few = few
lowered_within P n cap ks (whole at len next) few = cut_within P n at len few.0 (λ b. lowered cap ks (next b)) few.1 (λ b. lowered_within P few.0 cap ks (next b) (few.2 b))
lowered_within P n cap ks (counted at counts next) few = (few.0, omega (arith, few.1), λ b. lowered_within P few.0 cap ks (next (counts b)) (few.2 (counts b)))
lowered_within {A} P n cap ks (stored kind at len next) few =
    let go : List ℕ → Prog A = λ b. lowered cap (used cap kind at len b ks) (next b) in
    let each : (b : List ℕ) → EndsWithin P few.0 (go b) = λ b. lowered_within P few.0 cap (used cap kind at len b ks) (next b) (few.2 b) in
    option_both (kept_bytes kind at len ks) go (cut_up at len go) (λ (q : Prog A). EndsWithin P n q)
    (λ b e. within_more P few.0 n (go b) (omega (arith, few.1)) (each b))
    (λ e. cut_within P n at len few.0 go few.1 each)

-- one whose ranges are counted as if all of each were looked at
pub costs_at_most : {A : Type 0} (P : A → Type 0) (n : ℕ) (p : Prog A) → AtMost P n p → Costs P n p
costs_at_most P n (ret a) few = few
costs_at_most P n (whole at len next) few = (few.0, omega (arith, few.1), λ b. costs_at_most P few.0 (next b) (few.2 b))
costs_at_most P n (counted at counts next) few = (few.0, few.1, λ b. costs_at_most P few.0 (next b) (few.2 b))
costs_at_most P n (stored kind at len next) few = (few.0, omega (arith, few.1), λ b. costs_at_most P few.0 (next b) (few.2 b))

-- ---- Headers

-- it takes so many looks, whatever it answers
abbrev pub FewLooks : {A : Type 0} → ℕ → Prog (Result A ReadError) → Type 0
FewLooks n p = Costs (IsAnswered AnyOf) n p

any_answer : {A : Type 0} (r : Result A ReadError) → IsAnswered AnyOf r
any_answer (Ok a) = tt
any_answer (Err e) = tt

-- the looks at a range of any length, which is cut at 2^64
longest : (at len : ℕ) → range_looks (below_end at len) ≤ range_most
longest at len = omega arith

splice_costs : (n : ℕ) (at_block : List FoundMessage → FoundMessage → List FoundMessage → Prog (Result HeaderFields ReadError)) (visited : List Range) (done ms : List FoundMessage)
    → ((before : List FoundMessage) (m : FoundMessage) (rest : List FoundMessage) → FewLooks n (at_block before m rest)) → FewLooks n (splice at_block visited done ms)
splice_costs n at_block visited done [] h = tt
splice_costs n at_block visited done (m ∷ ms) h =
    cond_both (m.kind == 0x10) (at_block done m ms) (splice at_block visited (done ++ m ∷ []) ms) (λ (p : Prog (Result HeaderFields ReadError)). FewLooks n p)
    (λ t. h done m ms) (λ t. splice_costs n at_block visited (done ++ m ∷ []) ms h)

walk_costs : (more header : ℕ) (tracked : Bool) (visited : List Range) (done ms : List FoundMessage) → FewLooks (more * range_most) (walk more header tracked visited done ms)
walk_costs zero header tracked visited done ms =
    splice_costs (0 * range_most) (λ before m rest. ret (Err (Header header header_errors.Continuations))) visited done ms (λ before m rest. tt)
walk_costs (suc more) header tracked visited done ms =
    splice_costs (suc more * range_most) _ visited done ms (λ before m rest.
    cond_both (nat_lt (block_len m) 8) _ _ (λ (p : Prog (Result HeaderFields ReadError)). FewLooks (suc more * range_most) p)
    (λ t. tt)
    (λ t. (
      more * range_most,
      omega (arith, longest (block_place m) (block_len m)),
      λ b.
          result_both (block_messages tracked (block_place m) (block_len m) b) _ _ (λ (p : Prog (Result HeaderFields ReadError)). FewLooks (more * range_most) p)
          (λ inside e. walk_costs more header tracked (visited ++ record { place = block_place m; len = block_len m } ∷ []) before (inside ++ rest))
          (λ f e. tt),
    )))

chunk_0_costs : (place : ℕ) (p : Prefix) (b : List ℕ) → FewLooks (32 * range_most) (from_chunk_0 place p b)
chunk_0_costs place p b =
    result_both (messages_at b) _ _ (λ (q : Prog (Result HeaderFields ReadError)). FewLooks (32 * range_most) q)
    (λ ms e. walk_costs 32 place p.tracked (record { place = place; len = p.total } ∷ []) [] (found_at place true ms)) (λ f e. tt)

root_costs : (place : ℕ) → FewLooks (1 + 33 * range_most) (root_header place)
root_costs place = (
  33 * range_most,
  omega arith,
  λ first.
      result_both (prefix_at first) _ _ (λ (q : Prog (Result HeaderFields ReadError)). FewLooks (33 * range_most) q)
      (λ p e.
      cond_both (nat_lt 512 p.total) _ _ (λ (q : Prog (Result HeaderFields ReadError)). FewLooks (33 * range_most) q)
      (λ t. (32 * range_most, omega (arith, longest (place + 512) (p.total - 512)), λ rest. chunk_0_costs place p (first ++ rest)))
      (λ t. costs_more (IsAnswered AnyOf) (32 * range_most) (33 * range_most) (from_chunk_0 place p first) (omega arith) (chunk_0_costs place p first)))
      (λ f e. tt),
)

-- the way to the dataset header: the superblock, the root header, the rest of its chunk 0 and its continuation blocks
pub way_costs : (name : List ℕ) → FewLooks (2 + 33 * range_most) (dataset_place name)
way_costs name =
    let linking : HeaderFields → Prog (Result ℕ ReadError) = λ h. ret (linked name h.messages) in
    let from_root : Super → Prog (Result ℕ ReadError) = λ s. and_then (root_header s.root) linking in
    let behind : ℕ = 1 + 33 * range_most + 0 in
    costs_more (IsAnswered AnyOf) (1 + behind) (2 + 33 * range_most) (dataset_place name) (omega arith)
    (costs_then AnyOf AnyOf 1 behind superblock from_root (0, omega arith, λ b. any_answer (super_of b))
    (λ s any. costs_then AnyOf AnyOf (1 + 33 * range_most) 0 (root_header s.root) linking (root_costs s.root) (λ h more. any_answer (linked name h.messages))))

sound_or_refused : (r : Result Described Refused) → ((d : Described) → r ≡ Ok d → Sound d) → IsAnswered Sound (refused_as Unsupported r)
sound_or_refused (Ok d) h = h d refl
sound_or_refused (Err e) h = tt

-- the dataset header behind a look at it: its continuation blocks
pub header_costs : (place : ℕ) (v : List ℕ) → Costs (IsAnswered Sound) (32 * range_most) (dataset_from place v)
header_costs place v =
    let says : HeaderFields → Prog (Result Described ReadError) = λ h. ret (refused_as Unsupported (described h.messages)) in
    costs_more (IsAnswered Sound) (32 * range_most + 0) (32 * range_most) (dataset_from place v) (omega arith)
    (costs_then AnyOf Sound (32 * range_most) 0 (dataset_messages place v) says
    (result_both (prefix_at v) _ _ (λ (q : Prog (Result HeaderFields ReadError)). FewLooks (32 * range_most) q)
    (λ p e.
    cond_both (nat_lt 512 p.total) _ _ (λ (q : Prog (Result HeaderFields ReadError)). FewLooks (32 * range_most) q)
    (λ t. tt) (λ t. chunk_0_costs place p v))
    (λ f e. tt))
    (λ h any. sound_or_refused (described h.messages) (sound_described h.messages)))
