-- The address of a chunk by kind of index, and a whole reading, as programs and as relations.
use Rattle.std.proofs.Common.{◌≡◌, ◌≢◌, ◌⊎◌, ℕ, zero, suc, ◌<◌, ◌≤◌, cond, List, [], ◌∷◌, length, get_or, Option, Some, Result, Ok, Err, refl, sym, ◌∙◌, ap, subst, inl, inr, arith}
use Rattle.std.specs.Prelude.{slice_get}
use Rattle.std.proofs.lemmas.Bool.{le-ltb}
use Rattle.h5w_model.specs.Numbers.{undefined}
use Rattle.h5w_model.specs.Programs.{Prog, ret, eval, and_then}
use Rattle.h5w_model.specs.Datasets.{Described, dataset, dataset_place}
use Rattle.h5w_model.specs.Tables.{Limits, Reading, Shows, InPlace, nowhere, in_place, array_in_place, tree_in_place, address_behind, each_of, limit_of, needed, needed_keys, needed_table, table_of}
use Rattle.h5w_model.specs.Relations.{ArraySlot, IndexChunk, HasChunk, HasReading}
use Rattle.h5w_model.specs.declared.cell.Key.{Key}
use Rattle.h5w_model.specs.declared.cell.IndexKind.{IndexKind}
use Rattle.h5w_model.specs.declared.cell.IndexKind.TheVariants.{Array, Tree}
use Rattle.h5w_model.specs.declared.refusal.ReadError.{ReadError}
use Rattle.h5w_model.specs.declared.refusal.ReadError.TheVariants.{TooManyChunks}
use Rattle.h5w_laws.specs.ChunkNumbers.{HasKeys}
use Rattle.h5w_laws.proofs.NumberLemmas.{needed_count, places_chunks}
use Rattle.h5w_laws.proofs.ResultLemmas.{and_then_ok, and_then_from}
use Rattle.h5w_laws.proofs.SlotLemmas.{by_test, where_equal, where_other, answered, number_key, same_place, array_by_row, array_found, array_read}
use Rattle.h5w_laws.proofs.SpliceLemmas.{by_order}
use Rattle.h5w_laws.proofs.DatasetReads.{dataset_found, dataset_reads}
use Rattle.h5w_lookup_laws.specs.Relations.{chunk_program, FindsChunks, FindsReadings}
use Rattle.h5w_lookup_laws.proofs.TreeLemmas.{finds_tree_slots}

-- ---- The chunk of a key by kind of index

array_chunk_found : (img : List ℕ) (address x : ℕ) (key : Key) → eval img (and_then (array_in_place address) (λ p. address_behind p key)) ≡ Ok x → ArraySlot img address key.i x
array_chunk_found img address x key h =
    let s = and_then_ok img (array_in_place address) (λ (p : InPlace). address_behind p key) x h in
    array_found img address key.i x
    (and_then_from img (array_in_place address) (λ (p : InPlace). address_behind p (number_key key.i)) s.0 x s.1
    (ap (eval img) (sym (array_by_row img address s.0 key s.1)) ∙ s.2))

array_chunk_read : (img : List ℕ) (address x : ℕ) (key : Key) → ArraySlot img address key.i x → eval img (and_then (array_in_place address) (λ p. address_behind p key)) ≡ Ok x
array_chunk_read img address x key h =
    let s = and_then_ok img (array_in_place address) (λ (p : InPlace). address_behind p (number_key key.i)) x (array_read img address key.i x h) in
    and_then_from img (array_in_place address) (λ (p : InPlace). address_behind p key) s.0 x s.1
    (ap (eval img) (array_by_row img address s.0 key s.1) ∙ s.2)

-- the blocks in place of an index that has an address
abbrev kind_in_place : IndexKind → ℕ → Prog (Result InPlace ReadError)
kind_in_place kind address = elim kind as (λ _. Prog (Result InPlace ReadError)) [ Array ↦ array_in_place address | Tree ↦ tree_in_place address ]

kind_found : (img : List ℕ) (kind : IndexKind) (address x : ℕ) (key : Key) → eval img (and_then (kind_in_place kind address) (λ p. address_behind p key)) ≡ Ok x → IndexChunk img kind address key x
kind_found img Array address x key h = array_chunk_found img address x key h
kind_found img Tree address x key h = (finds_tree_slots img address x key).0 h

kind_read : (img : List ℕ) (kind : IndexKind) (address x : ℕ) (key : Key) → IndexChunk img kind address key x → eval img (and_then (kind_in_place kind address) (λ p. address_behind p key)) ≡ Ok x
kind_read img Array address x key h = array_chunk_read img address x key h
kind_read img Tree address x key h = (finds_tree_slots img address x key).1 h

abbrev some_place : InPlace → Result InPlace ReadError
some_place p = Ok p

chunk_found : (img : List ℕ) (d : Described) (key : Key) (x : ℕ) → eval img (chunk_program d key) ≡ Ok x → HasChunk img d key x
chunk_found img d key x h = go (by_test img d.layout.address undefined (ret (Ok nowhere)) (kind_in_place d.layout.index d.layout.address) (Ok s.0) s.1)
  where
    s : (p : InPlace) × (eval img (in_place d) ≡ Ok p) × (eval img (address_behind p key) ≡ Ok x)
    s = and_then_ok img (in_place d) (λ (p : InPlace). address_behind p key) x h

    go : (d.layout.address ≡ undefined) × (some_place nowhere ≡ some_place s.0) ⊎ (d.layout.address ≢ undefined) × (eval img (kind_in_place d.layout.index d.layout.address) ≡ Ok s.0) → HasChunk img d key x
    go (inl t) = inl (t.0, answered undefined x (ap (λ (p : InPlace). eval img (address_behind p key)) (sym (same_place nowhere s.0 t.1)) ∙ s.2))
    go (inr t) = inr (t.0, kind_found img d.layout.index d.layout.address x key (and_then_from img (kind_in_place d.layout.index d.layout.address) (λ (p : InPlace). address_behind p key) s.0 x t.1 s.2))

chunk_read : (img : List ℕ) (d : Described) (key : Key) (x : ℕ) → HasChunk img d key x → eval img (chunk_program d key) ≡ Ok x
chunk_read img d key x (inl t) =
    and_then_from img (in_place d) (λ (p : InPlace). address_behind p key) nowhere x
    (where_equal img d.layout.address undefined (ret (Ok nowhere)) (kind_in_place d.layout.index d.layout.address) (Ok nowhere) t.0 refl)
    (ap Ok (sym t.1))
chunk_read img d key x (inr t) =
    let s = and_then_ok img (kind_in_place d.layout.index d.layout.address) (λ (p : InPlace). address_behind p key) x (kind_read img d.layout.index d.layout.address x key t.1) in
    and_then_from img (in_place d) (λ (p : InPlace). address_behind p key) s.0 x
    (where_other img d.layout.address undefined (ret (Ok nowhere)) (kind_in_place d.layout.index d.layout.address) (Ok s.0) t.0 s.1)
    s.2

-- the address of a chunk is found exactly where the index says it
pub finds_chunks : FindsChunks
finds_chunks img d key x = (chunk_found img d key x, chunk_read img d key x)

-- ---- The chunks of some keys

-- each key has the address that is listed
abbrev Listed : List ℕ → (Key → Prog (Result ℕ ReadError)) → List Key → List ℕ → Type 0
Listed img p ks xs = (k : ℕ) (key : Key) → slice_get ks k ≡ Some key → eval img (p key) ≡ Ok (get_or xs k undefined)

abbrev some_key : Key → Option Key
some_key key = Some key

one_key : (a b : Key) → some_key a ≡ some_key b → a ≡ b
one_key a b h = cc

abbrev some_list : List ℕ → Result (List ℕ) ReadError
some_list xs = Ok xs

same_listed : (xs ys : List ℕ) → some_list xs ≡ some_list ys → ys ≡ xs
same_listed xs ys h = cc

each_found : (img : List ℕ) (p : Key → Prog (Result ℕ ReadError)) (ks : List Key) (xs : List ℕ) → eval img (each_of p ks) ≡ Ok xs → (length xs ≡ length ks) × Listed img p ks xs
each_found img p [] xs h = (ap length (same_listed [] xs h), λ k key there. absurd cc)
each_found img p (key ∷ ks) xs h =
    let first = and_then_ok img (p key) (λ a. and_then (each_of p ks) (λ rest. ret (some_list (a ∷ rest)))) xs h in
    let rest = and_then_ok img (each_of p ks) (λ rest. ret (some_list (first.0 ∷ rest))) xs first.2 in
    let behind = each_found img p ks rest.0 rest.1 in
    let is : xs ≡ first.0 ∷ rest.0 = same_listed (first.0 ∷ rest.0) xs rest.2 in
    rw is (ap suc behind.0, listed_from img p key ks first.0 rest.0 first.1 behind.1)
  where
    listed_from : (img : List ℕ) (p : Key → Prog (Result ℕ ReadError)) (key : Key) (ks : List Key) (a : ℕ) (rest : List ℕ) → eval img (p key) ≡ Ok a → Listed img p ks rest → Listed img p (key ∷ ks) (a ∷ rest)
    listed_from img p key ks a rest h more zero other there = ap (λ (k : Key). eval img (p k)) (sym (one_key key other there)) ∙ h
    listed_from img p key ks a rest h more (suc k) other there = more k other there

each_read : (img : List ℕ) (p : Key → Prog (Result ℕ ReadError)) (ks : List Key) (xs : List ℕ) → length xs ≡ length ks → Listed img p ks xs → eval img (each_of p ks) ≡ Ok xs
each_read img p [] [] n h = refl
each_read img p [] (x ∷ xs) n h = absurd (omega (arith, n))
each_read img p (key ∷ ks) [] n h = absurd (omega (arith, n))
each_read img p (key ∷ ks) (x ∷ xs) n h =
    and_then_from img (p key) (λ a. and_then (each_of p ks) (λ rest. ret (some_list (a ∷ rest)))) x (x ∷ xs) (h 0 key refl)
    (and_then_from img (each_of p ks) (λ rest. ret (some_list (x ∷ rest))) xs (x ∷ xs)
    (each_read img p ks xs (omega (arith, n)) (λ k other there. h (suc k) other there)) refl)

table_found : (img : List ℕ) (d : Described) (ks : List Key) (xs : List ℕ) → eval img (table_of d ks) ≡ Ok xs → (length xs ≡ length ks) × HasKeys img d ks xs
table_found img d [] xs h = (ap length (same_listed [] xs h), λ k key there. absurd cc)
table_found img d (first ∷ ks) xs h =
    let s = and_then_ok img (in_place d) (λ (p : InPlace). each_of (address_behind p) (first ∷ ks)) xs h in
    let each = each_found img (address_behind s.0) (first ∷ ks) xs s.2 in
    (each.0, λ k key there. chunk_found img d key (get_or xs k undefined) (and_then_from img (in_place d) (λ (p : InPlace). address_behind p key) s.0 (get_or xs k undefined) s.1 (each.1 k key there)))

table_read : (img : List ℕ) (d : Described) (ks : List Key) (xs : List ℕ) → length xs ≡ length ks → HasKeys img d ks xs → eval img (table_of d ks) ≡ Ok xs
table_read img d [] [] n h = refl
table_read img d [] (x ∷ xs) n h = absurd (omega (arith, n))
table_read img d (first ∷ ks) xs n h =
    let s = and_then_ok img (in_place d) (λ (p : InPlace). address_behind p first) (get_or xs 0 undefined) (chunk_read img d first (get_or xs 0 undefined) (h 0 first refl)) in
    and_then_from img (in_place d) (λ (p : InPlace). each_of (address_behind p) (first ∷ ks)) s.0 xs s.1
    (each_read img (address_behind s.0) (first ∷ ks) xs n (λ k key there. behind s.0 s.1 k key (chunk_read img d key (get_or xs k undefined) (h k key there))))
  where
    -- the blocks in place are the same for each key
    behind : (p : InPlace) → eval img (in_place d) ≡ Ok p → (k : ℕ) (key : Key) → eval img (chunk_program d key) ≡ Ok (get_or xs k undefined) → eval img (address_behind p key) ≡ Ok (get_or xs k undefined)
    behind p e k key there =
        let t = and_then_ok img (in_place d) (λ (p : InPlace). address_behind p key) (get_or xs k undefined) there in
        ap (λ (q : InPlace). eval img (address_behind q key)) (same_place t.0 p (sym t.1 ∙ e)) ∙ t.2

-- ---- A reading

abbrev refused_table : ReadError → Result (List ℕ) ReadError
refused_table e = Err e

no_table : {Z : Type 0} (e : ReadError) (xs : List ℕ) → refused_table e ≡ some_list xs → Z
no_table e xs h = cc

needed_found : (limits : Limits) (img : List ℕ) (d : Described) (xs : List ℕ) → eval img (needed_table limits d) ≡ Ok xs → (needed d ≤ limit_of limits d.layout.index) × (eval img (table_of d (needed_keys d)) ≡ Ok xs)
needed_found limits img d xs h = go (by_order img (limit_of limits d.layout.index) (needed d) (ret (refused_table (TooManyChunks (needed d) (limit_of limits d.layout.index)))) (table_of d (needed_keys d)) (Ok xs) h)
  where
    go : (limit_of limits d.layout.index < needed d) × (refused_table (TooManyChunks (needed d) (limit_of limits d.layout.index)) ≡ some_list xs) ⊎ (needed d ≤ limit_of limits d.layout.index) × (eval img (table_of d (needed_keys d)) ≡ Ok xs)
        → (needed d ≤ limit_of limits d.layout.index) × (eval img (table_of d (needed_keys d)) ≡ Ok xs)
    go (inl t) = no_table (TooManyChunks (needed d) (limit_of limits d.layout.index)) xs t.1
    go (inr t) = t

needed_read : (limits : Limits) (img : List ℕ) (d : Described) (xs : List ℕ) → needed d ≤ limit_of limits d.layout.index → eval img (table_of d (needed_keys d)) ≡ Ok xs → eval img (needed_table limits d) ≡ Ok xs
needed_read limits img d xs within h =
    ap (λ s. eval img (cond s (ret (refused_table (TooManyChunks (needed d) (limit_of limits d.layout.index)))) (table_of d (needed_keys d)))) (le-ltb (limit_of limits d.layout.index) (needed d) within) ∙ h

-- what is known once place, dataset and table are
abbrev known : ℕ → Described → List ℕ → Result Reading ReadError
known at d t = Ok (record { place = at; dataset = d; table = t })

abbrev reading_of : Reading → Result Reading ReadError
reading_of r = Ok r

same_reading : (r s : Reading) → reading_of r ≡ reading_of s → r ≡ s
same_reading r s h = cc

shows_found : (limits : Limits) (img name : List ℕ) (r : Reading) → Shows limits img name r → HasReading limits img name r
shows_found limits img name r h =
    let at = and_then_ok img (dataset_place name) (λ (at : ℕ). and_then (dataset at) (λ (d : Described). and_then (needed_table limits d) (λ (t : List ℕ). ret (known at d t)))) r h in
    let d = and_then_ok img (dataset at.0) (λ (d : Described). and_then (needed_table limits d) (λ (t : List ℕ). ret (known at.0 d t))) r at.2 in
    let t = and_then_ok img (needed_table limits d.0) (λ (t : List ℕ). ret (known at.0 d.0 t)) r d.2 in
    let within = needed_found limits img d.0 t.0 t.1 in
    let table = table_found img d.0 (needed_keys d.0) t.0 within.1 in
    let shown : Reading = record { place = at.0; dataset = d.0; table = t.0 } in
    subst (λ (s : Reading). HasReading limits img name s) (same_reading shown r t.2)
    (record { dataset = dataset_found img name at.0 d.0 (at.1, d.1); within = within.0; listed = table.0 ∙ needed_count d.0; chunks = (places_chunks img t.0 d.0).0 table.1 })

shows_read : (limits : Limits) (img name : List ℕ) (r : Reading) → HasReading limits img name r → Shows limits img name r
shows_read limits img name r h =
    let d = dataset_reads img name r.place r.dataset h.dataset in
    and_then_from img (dataset_place name) (λ (at : ℕ). and_then (dataset at) (λ (d : Described). and_then (needed_table limits d) (λ (t : List ℕ). ret (known at d t)))) r.place r d.0
    (and_then_from img (dataset r.place) (λ (d : Described). and_then (needed_table limits d) (λ (t : List ℕ). ret (known r.place d t))) r.dataset r d.1
    (and_then_from img (needed_table limits r.dataset) (λ (t : List ℕ). ret (known r.place r.dataset t)) r.table r
    (needed_read limits img r.dataset r.table h.within (table_read img r.dataset (needed_keys r.dataset) r.table (h.listed ∙ sym (needed_count r.dataset)) ((places_chunks img r.table r.dataset).1 h.chunks))) refl))

-- an image shows a reading exactly where the plain relation holds
pub finds_readings : FindsReadings
finds_readings limits img name r = (shows_found limits img name r, shows_read limits img name r)
