-- The needed keys, and the table of their addresses.
use Rattle.std.proofs.Common.{◌≡◌, ◌≢◌, ℕ, zero, suc, List, [], ◌∷◌, length, get_or, Result, Ok, Err, refl, sym, ◌∙◌, ap, subst, arith}
use Rattle.std.specs.List.{AllByRecursion}
use Rattle.std.proofs.lemmas.List.{get_or_past}
use Rattle.h5w_model.specs.Numbers.{undefined}
use Rattle.h5w_model.specs.Images.{apply}
use Rattle.h5w_model.specs.Programs.{Prog, ret, eval, and_then}
use Rattle.h5w_model.specs.Datasets.{Described, then_also}
use Rattle.h5w_model.specs.Tables.{InPlace, in_place, address_behind, each_of, table_of, needed_keys}
use Rattle.h5w_model.specs.Findings.{Used, chunk_bytes}
use Rattle.h5w_model.specs.declared.cell.Key.{Key}
use Rattle.h5w_model.specs.declared.refusal.ReadError.{ReadError}
use Rattle.h5w_laws.proofs.ProgramLemmas.{eval_and_then}
use Rattle.h5w_laws.proofs.ResultLemmas.{and_then_ok, and_then_from}
use Rattle.h5w_laws.proofs.ValidLemmas.{needed_reached}
use Rattle.h5w_step_laws.specs.Ranges.{Among, chunk_at}
use Rattle.h5w_step_laws.specs.Indexes.{IsNamed, IsIndex, IsAnswered}
use Rattle.h5w_step_laws.specs.Needed.{AreFew, NeededNamed, HasTable, TableLaws}
use Rattle.h5w_step_laws.proofs.IndexLaws.{index_missed}

pub needed_named : NeededNamed
needed_named d few = needed_reached d few

-- ---- A program for each key

abbrev pub addresses_are : List ℕ → Result (List ℕ) ReadError
addresses_are xs = Ok xs

pub same_addresses : (xs ys : List ℕ) → addresses_are xs ≡ addresses_are ys → xs ≡ ys
same_addresses xs ys h = cc

pub one_address : (a b : ℕ) → ◌≡◌ {A = Result ℕ ReadError} (Ok a) (Ok b) → a ≡ b
one_address a b h = cc

abbrev pub AnswersAll : List ℕ → Described → InPlace → List Used → Type 0
AnswersAll img d blocks behind = (key : Key) → IsNamed d key → IsAnswered img (chunk_bytes d) behind blocks key

pub each_there : (img : List ℕ) (d : Described) (blocks : InPlace) (behind : List Used) (ks : List Key) → AnswersAll img d blocks behind → AllByRecursion (IsNamed d) ks
    → (table : List ℕ) × (eval img (each_of (address_behind blocks) ks) ≡ Ok table)
each_there img d blocks behind [] a n = ([], refl)
each_there img d blocks behind (k ∷ ks) a n =
    let p = address_behind blocks in
    let first = a k n.0 in
    let rest = each_there img d blocks behind ks a n.1 in (
      first.address ∷ rest.0,
      and_then_from img (p k) (λ x. and_then (each_of p ks) (λ xs. ret (Ok (x ∷ xs)))) first.address (first.address ∷ rest.0) first.is
          (and_then_from img (each_of p ks) (λ xs. ret (Ok (first.address ∷ xs))) rest.0 (first.address ∷ rest.0) rest.1 refl),
    )

-- the addresses found are as many as the keys, and those that are defined are chunks
pub record Listed (d : Described) (behind : List Used) (ks : List Key) (table : List ℕ) : Type 0 where
  pub count : length table ≡ length ks
  pub chunks : (k : ℕ) → get_or table k undefined ≢ undefined → Among (chunk_at (get_or table k undefined) (chunk_bytes d)) behind

pub no_address : (d : Described) (behind : List Used) → Listed d behind [] []
no_address d behind = record { count = refl; chunks = λ k x. absurd (x (get_or_past [] k undefined (omega arith))) }

pub one_more : (d : Described) (behind : List Used) (key : Key) (ks : List Key) (a : ℕ) (rest : List ℕ) → (a ≢ undefined → Among (chunk_at a (chunk_bytes d)) behind) → Listed d behind ks rest
    → Listed d behind (key ∷ ks) (a ∷ rest)
one_more d behind key ks a rest own l = record { count = ap suc l.count; chunks = chunks }
  where
    chunks : (k : ℕ) → get_or (a ∷ rest) k undefined ≢ undefined → Among (chunk_at (get_or (a ∷ rest) k undefined) (chunk_bytes d)) behind
    chunks zero x = own x
    chunks (suc k) x = l.chunks k x

pub each_listed : (img : List ℕ) (d : Described) (blocks : InPlace) (behind : List Used) (ks : List Key) (table : List ℕ) → AnswersAll img d blocks behind → AllByRecursion (IsNamed d) ks
    → eval img (each_of (address_behind blocks) ks) ≡ Ok table → Listed d behind ks table
each_listed img d blocks behind [] table a n h = subst (λ (xs : List ℕ). Listed d behind [] xs) (same_addresses [] table h) (no_address d behind)
each_listed img d blocks behind (k ∷ ks) table a n h =
    let p = address_behind blocks in
    let first = and_then_ok img (p k) (λ x. and_then (each_of p ks) (λ xs. ret (Ok (x ∷ xs)))) table h in
    let rest = and_then_ok img (each_of p ks) (λ xs. ret (Ok (first.0 ∷ xs))) table first.2 in
    let known = a k n.0 in
    let same : known.address ≡ first.0 = one_address known.address first.0 (sym known.is ∙ first.1) in
    subst (λ (xs : List ℕ). Listed d behind (k ∷ ks) xs) (same_addresses (first.0 ∷ rest.0) table rest.2)
    (one_more d behind k ks first.0 rest.0 (subst (λ x. x ≢ undefined → Among (chunk_at x (chunk_bytes d)) behind) same known.chunk)
    (each_listed img d blocks behind ks rest.0 a n.1 rest.1))

pub by_blocks : (img : List ℕ) (d : Described) (blocks : InPlace) (ks : List Key) → eval img (in_place d) ≡ Ok blocks → eval img (table_of d ks) ≡ eval img (each_of (address_behind blocks) ks)
by_blocks img d blocks [] h = refl
by_blocks img d blocks (k ∷ ks) h =
    let go : InPlace → Prog (Result (List ℕ) ReadError) = λ p. each_of (address_behind p) (k ∷ ks) in
    eval_and_then img (in_place d) go ∙ ap (λ r. then_also r (λ p. eval img (go p))) h

pub each_same : (old new : List ℕ) (d : Described) (blocks : InPlace) (ks : List Key) → AllByRecursion (IsNamed d) ks
    → ((key : Key) → IsNamed d key → eval new (address_behind blocks key) ≡ eval old (address_behind blocks key)) → eval new (each_of (address_behind blocks) ks) ≡ eval old (each_of (address_behind blocks) ks)
each_same old new d blocks [] n h = refl
each_same old new d blocks (k ∷ ks) n h =
    let p = address_behind blocks in
    let last : ℕ → List ℕ → Prog (Result (List ℕ) ReadError) = λ x xs. ret (Ok (x ∷ xs)) in
    let rest : ℕ → Prog (Result (List ℕ) ReadError) = λ x. and_then (each_of p ks) (last x) in
    let on : List ℕ → ℕ → Result (List ℕ) ReadError → Result (List ℕ) ReadError = λ img x r. then_also r (λ xs. eval img (last x xs)) in
    let later : (x : ℕ) → eval new (rest x) ≡ eval old (rest x) =
    λ x. eval_and_then new (each_of p ks) (last x) ∙ ap (on new x) (each_same old new d blocks ks n.1 h) ∙ sym (eval_and_then old (each_of p ks) (last x)) in
    eval_and_then new (p k) rest
    ∙ ap (λ r. then_also r (λ x. eval new (rest x))) (h k n.0)
    ∙ by_answer (eval old (p k)) (λ x. eval new (rest x)) (λ x. eval old (rest x)) later
    ∙ sym (eval_and_then old (p k) rest)
  where
    by_answer : (r : Result ℕ ReadError) (f g : ℕ → Result (List ℕ) ReadError) → ((x : ℕ) → f x ≡ g x) → then_also r f ≡ then_also r g
    by_answer (Ok x) f g e = e x
    by_answer (Err e) f g h = refl

pub table_any : (img : List ℕ) (end : ℕ) (d : Described) (fixed behind : List Used) (table : List ℕ) → IsIndex img end d fixed behind → AreFew d → eval img (table_of d (needed_keys d)) ≡ Ok table
    → HasTable img d behind table
table_any img end d fixed behind table i few h =
    let l = each_listed img d i.blocks behind (needed_keys d) table i.answered (needed_named d few) (sym (by_blocks img d i.blocks (needed_keys d) i.read) ∙ h) in
    record { found = h; listed = l.count; chunks = l.chunks }

pub table_laws : TableLaws
table_laws = record {
  there = λ img end d fixed behind i few.
      let t = each_there img d i.blocks behind (needed_keys d) i.answered (needed_named d few) in
      (t.0, table_any img end d fixed behind t.0 i few (by_blocks img d i.blocks (needed_keys d) i.read ∙ t.1));
  any = table_any;
  missed = λ w img end d fixed behind table i few inside misses h.
      let left = index_missed w img end d fixed behind i inside misses in
      by_blocks (apply w img) d i.blocks (needed_keys d) left.read
      ∙ each_same img (apply w img) d i.blocks (needed_keys d) (needed_named d few) left.answers
      ∙ sym (by_blocks img d i.blocks (needed_keys d) i.read)
      ∙ h;
  by_blocks = by_blocks;
  behind = λ img end d blocks behind table b few h. (each_listed img d blocks behind (needed_keys d) table b.answered (needed_named d few) h).chunks;
  same = λ old new d blocks few h. each_same old new d blocks (needed_keys d) (needed_named d few) h;
}
