-- Visits of the blocks of an array, behind other ranges.
use Rattle.std.proofs.Common.{◌≡◌, ℕ, ◌+◌, ◌<◌, true, false, cond, List, [], ◌∷◌, ◌++◌, length, get_or, drop, Result, Ok, Err, refl, sym, ◌∙◌, ap, append_assoc, arith}
use Rattle.std.specs.Prelude.{◌==◌, nat_lt}
use Rattle.std.proofs.lemmas.Bool.{lt-ltb, le-ltb, ne_eqb, eq-eqb}
use Rattle.h5w_model.specs.Numbers.{range, undefined}
use Rattle.h5w_model.specs.Programs.{ret, whole, eval, and_then}
use Rattle.h5w_model.specs.Arrays.{EahdFields, EaibFields, SlotsFields, eahd_at, eaib_at, easb_at, eadb_at, eahd_len, eaib_len, slots_len, super_block_of}
use Rattle.h5w_model.specs.Tables.{super_block_of_first}
use Rattle.h5w_model.specs.Datasets.{then_also}
use Rattle.h5w_model.specs.Findings.{Used, Finding, Visited, found, chunk_ranges, block_in, both, visit_each, data_block_visit, secondary_block_visit, first_visits, second_visits, index_block_visit, array_visit, block_past_end, bad_index_header, bad_index_block, bad_secondary_block, bad_data_block}
use Rattle.h5w_model.specs.declared.refusal.BlockFault.{BlockFault}
use Rattle.h5w_laws.proofs.ProgramLemmas.{eval_and_then}
use Rattle.h5w_check.specs.Ranges.{after}
use Rattle.h5w_check.specs.Blocks.{block_found, data_found, decoded, header_found, index_found, secondary_found}
use Rattle.h5w_check.proofs.RangeLemmas.{after_nil, behind_one, next_from}

-- what a visit gives behind other ranges
abbrev pub run : List ℕ → List Used → Visited → Result (List Used) Finding
run img old p = after old (eval img p)

-- ---- One visit after another

both_results : (old : List Used) (r : Result (List Used) Finding) (s : Result (List Used) Finding)
    → after old (then_also r (λ us. then_also s (λ vs. Ok (us ++ vs)))) ≡ then_also (after old r) (λ mid. after mid s)
both_results old (Ok us) (Ok vs) = ap (λ ws. Ok ws) (sym (append_assoc old us vs))
both_results old (Ok us) (Err f) = refl
both_results old (Err f) s = refl

pub run_both : (img : List ℕ) (old : List Used) (p q : Visited) → run img old (both p q) ≡ then_also (run img old p) (λ mid. run img mid q)
run_both img old p q =
    ap (after old) (eval_and_then img p (λ us. and_then_all us) ∙ ap (then_also (eval img p)) (λ i us. eval_and_then img q (λ vs. ret (Ok (us ++ vs))) i))
    ∙ both_results old (eval img p) (eval img q)
  where
    and_then_all : List Used → Visited
    and_then_all us = and_then q (λ vs. ret (Ok (us ++ vs)))

-- ---- A block

pub run_block : (img : List ℕ) (old : List Used) (end at n : ℕ) (visit : List ℕ → Visited)
    → run img old (block_in end at n visit) ≡ then_also (block_found end at n n old img) (λ x. run img x.1 (visit x.0))
run_block img old end p n visit =
    let u : Used = record { place = p; len = n; chunk = false } in
    let b = range img p n in
    let there : List ℕ × List Used = (b, old ++ u ∷ []) in
    let past : Visited = ret (Err (found block_past_end p)) in
    let go : Visited = whole p n (λ c. and_then (visit c) (λ us. ret (Ok (u ∷ us)))) in
    elim (nat_lt end (p + n)) as (λ c. run img old (cond c past go) ≡ then_also (cond c (Err (found block_past_end p)) (Ok there)) (λ x. run img x.1 (visit x.0))) [
      | true ↦ refl
      | false ↦ ap (after old) (eval_and_then img (visit b) (λ us. ret (Ok (u ∷ us)))) ∙ behind_one old u (eval img (visit b))
    ]

-- what goes on with what was decoded
pub run_decoded : {A B : Type 0} (img : List ℕ) (old : List Used) (kind at : ℕ) (f : A → B) (r : Result A BlockFault) (go : B → Visited)
    → run img old (elim r as (λ _. Visited) [ Ok a ↦ go (f a) | Err e ↦ ret (Err (found kind at)) ]) ≡ then_also (decoded kind at f r) (λ b. run img old (go b))
run_decoded img old kind p f (Ok a) go = refl
run_decoded img old kind p f (Err e) go = refl

-- a visit of what is not there
pub run_absent : (img : List ℕ) (old : List Used) (at : ℕ) (go : Visited) → at ≡ undefined → run img old (cond (at == undefined) (ret (Ok [])) go) ≡ Ok old
run_absent img old p go e = ap (λ c. run img old (cond c (ret (Ok [])) go)) (eq-eqb p undefined e) ∙ after_nil old

pub run_there : (img : List ℕ) (old : List Used) (at : ℕ) (go : Visited) → (at ≡ undefined → ⊥) → run img old (cond (at == undefined) (ret (Ok [])) go) ≡ run img old go
run_there img old p go other = ap (λ c. run img old (cond c (ret (Ok [])) go)) (ne_eqb p undefined other)

-- ---- Data blocks

run_slots : (img : List ℕ) (old : List Used) (end bytes at : ℕ) (r : Result SlotsFields BlockFault)
    → run img old (elim r as (λ _. Visited) [ Ok d ↦ ret (chunk_ranges end bytes d.slots) | Err f ↦ ret (Err (found bad_data_block at)) ])
    ≡ elim r as (λ _. Result (List Used) Finding) [ Ok d ↦ after old (chunk_ranges end bytes d.slots) | Err f ↦ Err (found bad_data_block at) ]
run_slots img old end bytes p (Ok d) = refl
run_slots img old end bytes p (Err f) = refl

pub data_there : (img : List ℕ) (old : List Used) (end bytes n at : ℕ) → (at ≡ undefined → ⊥)
    → run img old (data_block_visit end bytes n at) ≡ then_also (block_found end at (slots_len n) (slots_len n) old img) (λ x. data_found end bytes at n x.0 x.1)
data_there img old end bytes n p other =
    let visit : List ℕ → Visited = λ b. elim (eadb_at b p n) as (λ _. Visited) [ Ok d ↦ ret (chunk_ranges end bytes d.slots) | Err f ↦ ret (Err (found bad_data_block p)) ] in
    run_there img old p (block_in end p (slots_len n) visit) other
    ∙ run_block img old end p (slots_len n) visit
    ∙ ap (then_also (block_found end p (slots_len n) (slots_len n) old img)) (λ i x. run_slots img x.1 end bytes p (eadb_at x.0 p n) i)

-- ---- In a loop

pub each_next : (img : List ℕ) (old : List Used) (visit : ℕ → Visited) (xs : List ℕ) (i : ℕ) → i < length xs
    → run img old (visit_each visit (drop i xs)) ≡ then_also (run img old (visit (get_or xs i 0))) (λ mid. run img mid (visit_each visit (drop (i + 1) xs)))
each_next img old visit xs i h = ap (λ ys. run img old (visit_each visit ys)) (next_from xs i 0 h) ∙ run_both img old (visit (get_or xs i 0)) (visit_each visit (drop (i + 1) xs))

pub first_next : (img : List ℕ) (old : List Used) (end bytes : ℕ) (xs : List ℕ) (i : ℕ) → i < length xs
    → run img old (first_visits end bytes i (drop i xs)) ≡ then_also (run img old (data_block_visit end bytes (super_block_of (super_block_of_first i)).slots (get_or xs i 0))) (λ mid. run img mid (first_visits end bytes (i + 1) (drop (i + 1) xs)))
first_next img old end bytes xs i h =
    ap (λ ys. run img old (first_visits end bytes i ys)) (next_from xs i 0 h)
    ∙ run_both img old (data_block_visit end bytes (super_block_of (super_block_of_first i)).slots (get_or xs i 0)) (first_visits end bytes (i + 1) (drop (i + 1) xs))

pub second_next : (img : List ℕ) (old : List Used) (end bytes sblock : ℕ) (xs : List ℕ) (i : ℕ) → i < length xs → sblock < 13
    → run img old (second_visits end bytes sblock (drop i xs)) ≡ then_also (run img old (secondary_block_visit end bytes sblock (get_or xs i 0))) (λ mid. run img mid (second_visits end bytes (sblock + 1) (drop (i + 1) xs)))
second_next img old end bytes sblock xs i h known =
    let rest : Visited = both (secondary_block_visit end bytes sblock (get_or xs i 0)) (second_visits end bytes (sblock + 1) (drop (i + 1) xs)) in
    ap (λ ys. run img old (second_visits end bytes sblock ys)) (next_from xs i 0 h)
    ∙ ap (λ c. run img old (cond c (ret (Ok [])) rest)) (le-ltb 12 sblock (omega arith))
    ∙ run_both img old (secondary_block_visit end bytes sblock (get_or xs i 0)) (second_visits end bytes (sblock + 1) (drop (i + 1) xs))

pub second_past : (img : List ℕ) (old : List Used) (end bytes sblock : ℕ) (xs : List ℕ) (i : ℕ) → i < length xs → 12 < sblock
    → run img old (second_visits end bytes sblock (drop i xs)) ≡ Ok old
second_past img old end bytes sblock xs i h past =
    let rest : Visited = both (secondary_block_visit end bytes sblock (get_or xs i 0)) (second_visits end bytes (sblock + 1) (drop (i + 1) xs)) in
    ap (λ ys. run img old (second_visits end bytes sblock ys)) (next_from xs i 0 h)
    ∙ ap (λ c. run img old (cond c (ret (Ok [])) rest)) (lt-ltb 12 sblock past)
    ∙ after_nil old

-- ---- Secondary blocks

-- what follows the bytes of a secondary block
abbrev pub second_rest : List ℕ → ℕ → ℕ → ℕ → ℕ → List ℕ × List Used → Result (List Used) Finding
second_rest img end bytes sblock at x =
    then_also (secondary_found at (super_block_of sblock).blocks x.0) (λ slots. run img x.1 (visit_each (data_block_visit end bytes (super_block_of sblock).slots) slots))

pub second_there : (img : List ℕ) (old : List Used) (end bytes sblock at : ℕ) → (at ≡ undefined → ⊥)
    → run img old (secondary_block_visit end bytes sblock at)
    ≡ then_also (block_found end at (slots_len (super_block_of sblock).blocks) (slots_len (super_block_of sblock).blocks) old img) (second_rest img end bytes sblock at)
second_there img old end bytes sblock p other =
    let n = (super_block_of sblock).blocks in
    let go : List ℕ → Visited = λ slots. visit_each (data_block_visit end bytes (super_block_of sblock).slots) slots in
    let visit : List ℕ → Visited = λ b. elim (easb_at b p n) as (λ _. Visited) [ Ok s ↦ go s.slots | Err f ↦ ret (Err (found bad_secondary_block p)) ] in
    run_there img old p (block_in end p (slots_len n) visit) other
    ∙ run_block img old end p (slots_len n) visit
    ∙ ap (then_also (block_found end p (slots_len n) (slots_len n) old img)) (λ i x. run_decoded img x.1 bad_secondary_block p (λ (s : SlotsFields). s.slots) (easb_at x.0 p n) go i)

-- ---- The index block and the header

-- what follows the fields of an index block
abbrev pub index_rest : List ℕ → ℕ → ℕ → List Used → EaibFields → Result (List Used) Finding
index_rest img end bytes old e =
    then_also (after old (chunk_ranges end bytes e.slots)) (λ mid. then_also (run img mid (first_visits end bytes 0 e.first)) (λ more. run img more (second_visits end bytes 4 e.second)))

run_index : (img : List ℕ) (end bytes : ℕ) (old : List Used) (e : EaibFields)
    → run img old (both (ret (chunk_ranges end bytes e.slots)) (both (first_visits end bytes 0 e.first) (second_visits end bytes 4 e.second))) ≡ index_rest img end bytes old e
run_index img end bytes old e =
    run_both img old (ret (chunk_ranges end bytes e.slots)) (both (first_visits end bytes 0 e.first) (second_visits end bytes 4 e.second))
    ∙ ap (then_also (after old (chunk_ranges end bytes e.slots))) (λ i mid. run_both img mid (first_visits end bytes 0 e.first) (second_visits end bytes 4 e.second) i)

pub index_there : (img : List ℕ) (old : List Used) (end bytes at : ℕ)
    → run img old (index_block_visit end bytes at) ≡ then_also (block_found end at eaib_len eaib_len old img) (λ x. then_also (index_found at x.0) (index_rest img end bytes x.1))
index_there img old end bytes p =
    let go : EaibFields → Visited = λ e. both (ret (chunk_ranges end bytes e.slots)) (both (first_visits end bytes 0 e.first) (second_visits end bytes 4 e.second)) in
    let visit : List ℕ → Visited = λ b. elim (eaib_at b p) as (λ _. Visited) [ Ok e ↦ go e | Err f ↦ ret (Err (found bad_index_block p)) ] in
    run_block img old end p eaib_len visit
    ∙ ap (then_also (block_found end p eaib_len eaib_len old img)) (λ i x. run_decoded img x.1 bad_index_block p (λ (e : EaibFields). e) (eaib_at x.0 p) go i)
    ∙ ap (then_also (block_found end p eaib_len eaib_len old img)) (λ i x. then_also (index_found p x.0) (λ e. run_index img end bytes x.1 e i))

-- what follows the address of the index block
abbrev pub block_rest : List ℕ → ℕ → ℕ → List Used → ℕ → Result (List Used) Finding
block_rest img end bytes old named = run img old (cond (named == undefined) (ret (Ok [])) (index_block_visit end bytes named))

pub array_there : (img : List ℕ) (old : List Used) (end bytes at : ℕ)
    → run img old (array_visit end bytes at) ≡ then_also (block_found end at eahd_len eahd_len old img) (λ x. then_also (header_found at x.0) (block_rest img end bytes x.1))
array_there img old end bytes p =
    let go : ℕ → Visited = λ named. cond (named == undefined) (ret (Ok [])) (index_block_visit end bytes named) in
    let visit : List ℕ → Visited = λ b. elim (eahd_at b p) as (λ _. Visited) [ Ok h ↦ go h.block | Err f ↦ ret (Err (found bad_index_header p)) ] in
    run_block img old end p eahd_len visit
    ∙ ap (then_also (block_found end p eahd_len eahd_len old img)) (λ i x. run_decoded img x.1 bad_index_header p (λ (h : EahdFields). h.block) (eahd_at x.0 p) go i)
