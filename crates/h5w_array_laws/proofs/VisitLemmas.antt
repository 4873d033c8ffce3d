-- Visits of data blocks and secondary blocks, one after another, by what each comes to.
use Rattle.std.proofs.Common.{◌≡◌, ◌≢◌, ◌⊎◌, ℕ, ◌+◌, ◌≤◌, Bool, true, false, cond, List, [], ◌∷◌, ◌++◌, Ok, Err, refl, sym, ap, ◌∙◌, subst, inl, inr}
use Rattle.std.specs.Prelude.{◌==◌, nat_lt, map, flat_map, if◌then◌else◌}
use Rattle.std.specs.List.{AllByRecursion}
use Rattle.std.proofs.lemmas.Bool.{le-ltb, cond-false}
use Rattle.std.proofs.lemmas.Bool.Decides.{eqb_tells}
use Rattle.h5w_model.specs.Numbers.{range, undefined}
use Rattle.h5w_model.specs.Images.{At}
use Rattle.h5w_model.specs.Programs.{ret, whole, eval, and_then}
use Rattle.h5w_model.specs.Arrays.{slots_fields, slots_len, numbers_in, super_block_of, eadb_at, easb_at}
use Rattle.h5w_model.specs.Datasets.{then_also}
use Rattle.h5w_model.specs.Findings.{found, Used, Visited, block_in, both, visit_each, data_block_visit, secondary_block_visit, chunk_ranges, chunk_past_end, block_past_end, bad_data_block, bad_secondary_block}
use Rattle.h5w_laws.proofs.ResultLemmas.{and_then_from, then_from, choice_from}
use Rattle.h5w_step_laws.specs.Ranges.{AllEndBy, block_at, chunk_at}
use Rattle.h5w_array_laws.specs.ArrayStores.{chunks_in}
use Rattle.h5w_array_laws.proofs.BlockLemmas.{IsSealed, data_head, secondary_head, data_decoded, secondary_decoded}

-- ---- Ranges

-- a block, where it has a place, and what stands behind it
abbrev pub with_behind : ℕ → ℕ → List Used → List Used
with_behind place len behind = if place == undefined then [] else block_at place len ∷ behind

pub ends_behind : (end : ℕ) (u : Used) (us : List Used) → AllEndBy end (u ∷ us) → AllEndBy end us
ends_behind end u us h v a = h v (inr a)

pub ends_first : (end : ℕ) (u : Used) (us : List Used) → AllEndBy end (u ∷ us) → u.place + u.len ≤ end
ends_first end u us h = h u (inl refl)

-- ---- Chunks

pub chunks_found : (end bytes : ℕ) (places : List ℕ) → AllEndBy end (chunks_in bytes places) → chunk_ranges end bytes places ≡ Ok (chunks_in bytes places)
chunks_found end bytes [] h = refl
chunks_found end bytes (a ∷ rest) h = go (a == undefined) h (chunks_found end bytes rest)
  where
    go : (b : Bool) → AllEndBy end (cond b (chunks_in bytes rest) (chunk_at a bytes ∷ chunks_in bytes rest)) → (AllEndBy end (chunks_in bytes rest) → chunk_ranges end bytes rest ≡ Ok (chunks_in bytes rest))
        → cond b (chunk_ranges end bytes rest) (cond (nat_lt end (a + bytes)) (Err (found chunk_past_end a)) (then_also (chunk_ranges end bytes rest) (λ us. Ok (chunk_at a bytes ∷ us))))
        ≡ Ok (cond b (chunks_in bytes rest) (chunk_at a bytes ∷ chunks_in bytes rest))
    go true e later = later e
    go false e later =
        ap (λ c. cond c (Err (found chunk_past_end a)) (then_also (chunk_ranges end bytes rest) (λ us. Ok (chunk_at a bytes ∷ us)))) (le-ltb end (a + bytes) (ends_first end (chunk_at a bytes) (chunks_in bytes rest) e))
        ∙ then_from (chunk_ranges end bytes rest) (λ us. Ok (chunk_at a bytes ∷ us)) (chunks_in bytes rest) (chunk_at a bytes ∷ chunks_in bytes rest)
        (later (ends_behind end (chunk_at a bytes) (chunks_in bytes rest) e)) refl

-- ---- One after another

pub both_from : (img : List ℕ) (p q : Visited) (us vs : List Used) → eval img p ≡ Ok us → eval img q ≡ Ok vs → eval img (both p q) ≡ Ok (us ++ vs)
both_from img p q us vs h g = and_then_from img p (λ us. and_then q (λ vs. ret (Ok (us ++ vs)))) us (us ++ vs) h (and_then_from img q (λ vs. ret (Ok (us ++ vs))) vs (us ++ vs) g refl)

-- visits of several places, by what each gives
pub each_found : {X : Type 0} (img : List ℕ) (visit : ℕ → Visited) (place : X → ℕ) (ranges : X → List Used) (xs : List X)
    → AllByRecursion (λ x. eval img (visit (place x)) ≡ Ok (ranges x)) xs → eval img (visit_each visit (map place xs)) ≡ Ok (flat_map ranges xs)
each_found img visit place ranges [] h = refl
each_found img visit place ranges (x ∷ xs) h = both_from img (visit (place x)) (visit_each visit (map place xs)) (ranges x) (flat_map ranges xs) h.0 (each_found img visit place ranges xs h.1)

-- ---- A block within the end

pub block_found : (img : List ℕ) (end place n : ℕ) (visit : List ℕ → Visited) (b : List ℕ) (us : List Used) → place + n ≤ end → range img place n ≡ b → eval img (visit b) ≡ Ok us
    → eval img (block_in end place n visit) ≡ Ok (block_at place n ∷ us)
block_found img end place n visit b us fits there h =
    let after : List ℕ → Visited = λ b. and_then (visit b) (λ us. ret (Ok (block_at place n ∷ us))) in
    ap (eval img) (cond-false (nat_lt end (place + n)) (ret (Err (found block_past_end place))) (whole place n after) (le-ltb end (place + n) fits))
    ∙ ap (λ x. eval img (after x)) there
    ∙ and_then_from img (visit b) (λ us. ret (Ok (block_at place n ∷ us))) us (block_at place n ∷ us) h refl

-- it stands on the image, if it has a place
pub record IsThere (img : List ℕ) (head : List ℕ) (len place : ℕ) (b : List ℕ) : Type 0 where
  pub spelled : IsSealed head len b
  pub there : At img place b

pub range_there : (img : List ℕ) (head : List ℕ) (len place : ℕ) (b : List ℕ) → IsThere img head len place b → range img place len ≡ b
range_there img head len place b t = ap (range img place) (sym t.spelled.long) ∙ t.there

pub data_found : (img : List ℕ) (end bytes n place : ℕ) (b : List ℕ) → (place ≢ undefined → IsThere img data_head (slots_len n) place b)
    → AllEndBy end (with_behind place (slots_len n) (chunks_in bytes (numbers_in b n 18)))
    → eval img (data_block_visit end bytes n place) ≡ Ok (with_behind place (slots_len n) (chunks_in bytes (numbers_in b n 18)))
data_found img end bytes n place b stands h = go (eqb_tells place undefined)
  where
    visit : List ℕ → Visited
    visit x = elim (eadb_at x place n) as (λ _. Visited) [ Ok d ↦ ret (chunk_ranges end bytes d.slots) | Err f ↦ ret (Err (found bad_data_block place)) ]

    chunks : List Used
    chunks = chunks_in bytes (numbers_in b n 18)

    all : List Used
    all = block_at place (slots_len n) ∷ chunks

    go : ((place == undefined) ≡ true) × (place ≡ undefined) ⊎ ((place == undefined) ≡ false) × (place ≢ undefined)
        → eval img (cond (place == undefined) (ret (Ok [])) (block_in end place (slots_len n) visit)) ≡ Ok (cond (place == undefined) [] all)
    go (inl t) = ap (λ c. eval img (cond c (ret (Ok [])) (block_in end place (slots_len n) visit))) t.0 ∙ ap (λ c. Ok (cond c [] all)) (sym t.0)
    go (inr t) =
        let s = stands t.1 in
        let ends : AllEndBy end all = subst (λ c. AllEndBy end (cond c [] all)) t.0 h in
        ap (λ c. eval img (cond c (ret (Ok [])) (block_in end place (slots_len n) visit))) t.0
        ∙ block_found img end place (slots_len n) visit b chunks (ends_first end (block_at place (slots_len n)) chunks ends) (range_there img data_head (slots_len n) place b s)
        (choice_from img (eadb_at b place n) (λ d. ret (chunk_ranges end bytes d.slots)) (λ f. found bad_data_block place) (slots_fields b n) chunks (data_decoded n place b s.spelled)
        (chunks_found end bytes (numbers_in b n 18) (ends_behind end (block_at place (slots_len n)) chunks ends)))
        ∙ ap (λ c. Ok (cond c [] all)) (sym t.0)

-- a secondary block, by what is found behind each of its addresses
pub secondary_found : (img : List ℕ) (end bytes sblock place : ℕ) (b : List ℕ) (behind : List Used)
    → (place ≢ undefined → IsThere img secondary_head (slots_len (super_block_of sblock).blocks) place b)
    → (place ≢ undefined → eval img (visit_each (data_block_visit end bytes (super_block_of sblock).slots) (numbers_in b (super_block_of sblock).blocks 18)) ≡ Ok behind)
    → AllEndBy end (with_behind place (slots_len (super_block_of sblock).blocks) behind)
    → eval img (secondary_block_visit end bytes sblock place) ≡ Ok (with_behind place (slots_len (super_block_of sblock).blocks) behind)
secondary_found img end bytes sblock place b behind stands found_behind h = go (eqb_tells place undefined)
  where
    n : ℕ
    n = (super_block_of sblock).blocks

    visit : List ℕ → Visited
    visit x = elim (easb_at x place (super_block_of sblock).blocks) as (λ _. Visited) [
      | Ok s ↦ visit_each (data_block_visit end bytes (super_block_of sblock).slots) s.slots
      | Err f ↦ ret (Err (found bad_secondary_block place))
    ]

    go : ((place == undefined) ≡ true) × (place ≡ undefined) ⊎ ((place == undefined) ≡ false) × (place ≢ undefined)
        → eval img (cond (place == undefined) (ret (Ok [])) (block_in end place (slots_len (super_block_of sblock).blocks) visit)) ≡ Ok (cond (place == undefined) [] (block_at place (slots_len (super_block_of sblock).blocks) ∷ behind))
    go (inl t) = ap (λ c. eval img (cond c (ret (Ok [])) (block_in end place (slots_len (super_block_of sblock).blocks) visit))) t.0 ∙ ap (λ c. Ok (cond c [] (block_at place (slots_len (super_block_of sblock).blocks) ∷ behind))) (sym t.0)
    go (inr t) =
        let s = stands t.1 in
        let ends : AllEndBy end (block_at place (slots_len (super_block_of sblock).blocks) ∷ behind) = subst (λ c. AllEndBy end (cond c [] (block_at place (slots_len (super_block_of sblock).blocks) ∷ behind))) t.0 h in
        ap (λ c. eval img (cond c (ret (Ok [])) (block_in end place (slots_len (super_block_of sblock).blocks) visit))) t.0
        ∙ block_found img end place (slots_len (super_block_of sblock).blocks) visit b behind (ends_first end (block_at place (slots_len (super_block_of sblock).blocks)) behind ends)
        (range_there img secondary_head (slots_len (super_block_of sblock).blocks) place b s)
        (choice_from img (easb_at b place (super_block_of sblock).blocks) (λ s. visit_each (data_block_visit end bytes (super_block_of sblock).slots) s.slots) (λ f. found bad_secondary_block place)
        (slots_fields b (super_block_of sblock).blocks) behind (secondary_decoded (super_block_of sblock).blocks place b s.spelled) (found_behind t.1))
        ∙ ap (λ c. Ok (cond c [] (block_at place (slots_len (super_block_of sblock).blocks) ∷ behind))) (sym t.0)
