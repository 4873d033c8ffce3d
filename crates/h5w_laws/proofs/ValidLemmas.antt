-- A valid image shows a reading, and in it every key that the index can name is reached.
use Rattle.std.proofs.Common.{◌≡◌, ℕ, zero, suc, ◌+◌, ◌/◌, ◌<◌, ◌≤◌, false, not, List, [], ◌∷◌, ◌++◌, length, map, Option, Some, None, Result, Ok, Err, refl, sym, ◌∙◌, ap, subst, inl, inr, arith}
use Rattle.std.specs.Prelude.{◌==◌, nat_lt, if◌then◌else◌}
use Rattle.std.specs.List.{AllByRecursion, range_with_len}
use Rattle.std.proofs.lemmas.Bool.{cond_both, cond-true, cond-false, ltb-false, cases_Bool, not-false}
use Rattle.h5w_model.specs.Numbers.{range, undefined}
use Rattle.h5w_model.specs.Programs.{Prog, ret, whole, eval, and_then}
use Rattle.h5w_model.specs.Superblock.{super_at}
use Rattle.h5w_model.specs.Headers.{header_view}
use Rattle.h5w_model.specs.Arrays.{EaibFields, eahd_at, eaib_at, eahd_len, eaib_len}
use Rattle.h5w_model.specs.Trees.{bthd_at, bthd_len}
use Rattle.h5w_model.specs.Datasets.{Described, HeaderFields, is_swmr, super_of, super_refusal, superblock, root_header, linked, dataset_messages, dataset, dataset_place, described, then_also, refused_as}
use Rattle.h5w_model.specs.Tables.{Reading, InPlace, nowhere, in_array, in_tree, in_place, array_in_place, tree_in_place, address_behind, each_of, limit_of, format_limits, chunks_across, index_key, needed, needed_keys, table_of, needed_table}
use Rattle.h5w_model.specs.Findings.{Finding, found, Used, Summary, Visited, checked_super, checked_root, checked_dataset, header_ranges, index_visit, array_visit, tree_visit, index_block_visit, both, first_visits, second_visits, node_visit, chunk_ranges, chunk_bytes, super_finding, dataset_finding, verdict, summary, the_superblock, overlap_of, by_place}
use Rattle.h5w_model.specs.Prefixed.{IsKey}
use Rattle.h5w_model.specs.declared.root.Super.{Super}
use Rattle.h5w_model.specs.declared.cell.Key.{Key}
use Rattle.h5w_model.specs.declared.cell.IndexKind.{IndexKind}
use Rattle.h5w_model.specs.declared.cell.IndexKind.TheVariants.{Array, Tree}
use Rattle.h5w_model.specs.declared.refusal.ReadError.{ReadError}
use Rattle.h5w_model.specs.declared.refusal.ReadError.TheVariants.{Damaged}
use Rattle.h5w_model.specs.declared.refusal.ReadError.TheVariants as read_errors
use Rattle.h5w_laws.specs.Held.{ValidShows}
use Rattle.h5w_laws.proofs.ProgramLemmas.{eval_bind}
use Rattle.h5w_laws.proofs.ResultLemmas.{HasAnswer, then_ok, then_from, refused_ok, fails, and_then_ok, and_then_from, choice_ok, choice_from}
use Rattle.h5w_laws.proofs.ReachLemmas.{Reaches, reaches_ret, block_ok, both_ok, IndexVisits, array_reached, tree_reached}

-- ---- Behind the blocks in place

-- what a visit of an index tells of its blocks in place, whose program this is
pub record Behind (img : List ℕ) (p : Prog (Result InPlace ReadError)) (Named : Key → Type 0) : Type 0 where
  blocks : InPlace
  read : eval img p ≡ Ok blocks
  reaches : (key : Key) → Named key → Reaches img (address_behind blocks key)

abbrev pub InArray : Key → Type 0
InArray key = key.i < 131060

abbrev pub Any : Key → Type 0
Any key = Unit {0}

pub no_blocks : (img : List ℕ) (p : Prog (Result InPlace ReadError)) (Named : Key → Type 0) → eval img p ≡ Ok nowhere → Behind img p Named
no_blocks img p Named h = record { blocks = nowhere; read = h; reaches = λ key n. reaches_ret img undefined }

-- the index block's fields
pub index_behind : (img : List ℕ) (end bytes place : ℕ) (us : List Used) → eval img (index_block_visit end bytes place) ≡ Ok us
    → (e : EaibFields) × (eaib_at (range img place eaib_len) place ≡ Ok e) × IndexVisits img end bytes e
index_behind img end bytes place us h =
    let visits_of : EaibFields → Visited = λ e. both (ret (chunk_ranges end bytes e.slots)) (both (first_visits end bytes 0 e.first) (second_visits end bytes 4 e.second)) in
    let there = block_ok img end place eaib_len (λ b. elim (eaib_at b place) as (λ _. Visited) [ Ok e ↦ visits_of e | Err f ↦ ret (Err (found 11 place)) ]) us h in
    let decoded = choice_ok img (eaib_at (range img place eaib_len) place) visits_of (λ f. found 11 place) there.0 there.1 in
    let e = decoded.0 in
    let outer = both_ok img (ret (chunk_ranges end bytes e.slots)) (both (first_visits end bytes 0 e.first) (second_visits end bytes 4 e.second)) there.0 decoded.2 in
    let inner = both_ok img (first_visits end bytes 0 e.first) (second_visits end bytes 4 e.second) outer.1.0 outer.1.1 in
    (e, decoded.1, record { first = inner.0; second = inner.1 })

pub array_behind : (img : List ℕ) (end bytes place : ℕ) (us : List Used) → eval img (array_visit end bytes place) ≡ Ok us → Behind img (array_in_place place) InArray
array_behind img end bytes place us h =
    let r = eahd_at (range img place eahd_len) place in
    let there = block_ok img end place eahd_len (λ b. elim (eahd_at b place) as (λ _. Visited) [
      | Ok a ↦ (if a.block == undefined then ret (Ok []) else index_block_visit end bytes a.block)
      | Err f ↦ ret (Err (found 10 place))
    ]) us h in
    let decoded = choice_ok img r (λ a. if a.block == undefined then ret (Ok []) else index_block_visit end bytes a.block) (λ f. found 10 place) there.0 there.1 in
    let block = decoded.0.block in
    let second : Prog (Result InPlace ReadError) = whole block eaib_len (λ b. ret (then_also (refused_as (Damaged block) (eaib_at b block)) (λ e. Ok (in_array e)))) in
    let first = choice_from img r (λ a. if a.block == undefined then ret (Ok nowhere) else
    whole a.block eaib_len (λ b. ret (then_also (refused_as (Damaged a.block) (eaib_at b a.block)) (λ e. Ok (in_array e))))) (λ f. Damaged place f) decoded.0 in
    elim (cases_Bool (block == undefined)) [
      | inl none_there ↦ no_blocks img (array_in_place place) InArray (first nowhere decoded.1 (ap (eval img) (cond-true (block == undefined) (ret (Ok nowhere)) second none_there)))
      | inr named ↦
          let v = index_behind img end bytes block there.0 (ap (eval img) (sym (cond-false (block == undefined) (ret (Ok [])) (index_block_visit end bytes block) named)) ∙ decoded.2) in
          record {
            blocks = in_array v.0;
            read = first (in_array v.0) decoded.1 (
                ap (eval img) (cond-false (block == undefined) (ret (Ok nowhere)) second named)
                ∙ ap (λ x. then_also (refused_as (Damaged block) x) (λ e. Ok (in_array e))) v.1);
            reaches = λ key n. array_reached img end bytes v.0 key.i v.2 n;
          }
    ]

pub tree_behind : (img : List ℕ) (end bytes place : ℕ) (us : List Used) → eval img (tree_visit end bytes place) ≡ Ok us → Behind img (tree_in_place place) Any
tree_behind img end bytes place us h =
    let r = bthd_at (range img place bthd_len) place in
    let there = block_ok img end place bthd_len (λ b. elim (bthd_at b place) as (λ _. Visited) [
      | Ok t ↦ (if t.root == undefined then ret (Ok []) else and_then (node_visit end bytes t.depth t.root t.records) (λ u. ret (Ok u.ranges)))
      | Err f ↦ ret (Err (found 10 place))
    ]) us h in
    let decoded = choice_ok img r (λ t. if t.root == undefined then ret (Ok []) else and_then (node_visit end bytes t.depth t.root t.records) (λ u. ret (Ok u.ranges))) (λ f. found 10 place) there.0 there.1 in
    let t = decoded.0 in
    record {
      blocks = if t.root == undefined then nowhere else in_tree t;
      read = ap (λ x. then_also (refused_as (Damaged place) x) (λ t. Ok (if t.root == undefined then nowhere else in_tree t))) decoded.1;
      reaches = λ key n.
          cond_both (t.root == undefined) nowhere (in_tree t) (λ b. Reaches img (address_behind b key))
          (λ s. reaches_ret img undefined)
          (λ s.
          let node = node_visit end bytes t.depth t.root t.records in
          let v = and_then_ok img node (λ u. ret (Ok u.ranges)) there.0
          (ap (eval img) (sym (cond-false (t.root == undefined) (ret (Ok [])) (and_then node (λ u. ret (Ok u.ranges))) s)) ∙ decoded.2) in
          tree_reached img end bytes t.depth t.root t.records key (v.0, v.1));
    }

-- the keys that an index reaches: an array by dimension 0 alone
abbrev pub Named : Described → Key → Type 0
Named d key = d.layout.index ≡ Array → key.i < 131060

pub behind_kind : (img : List ℕ) (end bytes place : ℕ) (kind : IndexKind) (us : List Used)
    → eval img (elim kind as (λ _. Visited) [ Array ↦ array_visit end bytes place | Tree ↦ tree_visit end bytes place ]) ≡ Ok us
    → Behind img (elim kind as (λ _. Prog (Result InPlace ReadError)) [ Array ↦ array_in_place place | Tree ↦ tree_in_place place ]) (λ key. kind ≡ Array → key.i < 131060)
behind_kind img end bytes place Array us h =
    let b = array_behind img end bytes place us h in
    record { blocks = b.blocks; read = b.read; reaches = λ key n. b.reaches key (n refl) }
behind_kind img end bytes place Tree us h =
    let b = tree_behind img end bytes place us h in
    record { blocks = b.blocks; read = b.read; reaches = λ key n. b.reaches key tt }

pub behind_of : (img : List ℕ) (end : ℕ) (d : Described) (us : List Used) → eval img (index_visit end d) ≡ Ok us → Behind img (in_place d) (Named d)
behind_of img end d us h =
    let a : ℕ = d.layout.address in
    let v : Visited = elim d.layout.index as (λ _. Visited) [ Array ↦ array_visit end (chunk_bytes d) a | Tree ↦ tree_visit end (chunk_bytes d) a ] in
    let p : Prog (Result InPlace ReadError) = elim d.layout.index as (λ _. Prog (Result InPlace ReadError)) [ Array ↦ array_in_place a | Tree ↦ tree_in_place a ] in
    cond_both (a == undefined) (ret (Ok nowhere)) p (λ (q : Prog (Result InPlace ReadError)). Behind img q (Named d))
    (λ t. no_blocks img (ret (Ok nowhere)) (Named d) refl)
    (λ t. behind_kind img end (chunk_bytes d) a d.layout.index us (ap (eval img) (sym (cond-false (a == undefined) (ret (Ok [])) v t)) ∙ h))

-- ---- From the check to the reading

pub ok_first : {A B E : Type 0} (a : A) (b : B) (p : A × B) → ◌≡◌ {A = Result (A × B) E} (Ok (a, b)) (Ok p) → a ≡ p.0
ok_first {A} {B} a b p h = let e : ◌≡◌ {A = A × B} (a, b) p = cc in ap (λ x. x.0) e

pub ok_same : {A E F : Type 0} (a b : A) → ◌≡◌ {A = Result A E} (Ok a) (Ok b) → ◌≡◌ {A = Result A F} (Ok a) (Ok b)
ok_same a b h = let e : a ≡ b = cc in ap Ok e

-- the superblock that is checked is read
pub super_ok : (size : ℕ) (b : List ℕ) (s : Super) → checked_super size b ≡ Ok s → super_of b ≡ Ok s
super_ok size b s h =
    let read = then_ok (refused_as super_finding (super_at b)) (λ s. if not (is_swmr s) then Err (found 4 0) else if nat_lt size s.end then Err (found 5 0) else Ok s) s h in
    let swmr = fails (not (is_swmr read.0)) (if nat_lt size read.0.end then Err (found 5 0) else Ok read.0) (found 4 0) s read.2 in
    let whole = fails (nat_lt size read.0.end) (Ok read.0) (found 5 0) s swmr.1 in
    let there : refused_as super_refusal (super_at b) ≡ Ok read.0 = ap (refused_as super_refusal) (refused_ok super_finding (super_at b) read.0 read.1) in
    then_from (refused_as super_refusal (super_at b)) (λ s. if is_swmr s then Ok s else Err (read_errors.NotSwmr s.flags)) read.0 s there
    (cond-true (is_swmr read.0) (Ok read.0) (Err (read_errors.NotSwmr read.0.flags)) (not-false (is_swmr read.0) swmr.0) ∙ ok_same read.0 s whole.1)

-- the dataset header's place that is checked is read
pub root_ok : (img name : List ℕ) (s : Super) (root : ℕ × List Used) → eval img (checked_root name s) ≡ Ok root
    → (h : HeaderFields) × (eval img (root_header s.root) ≡ Ok h) × (linked name h.messages ≡ Ok root.0)
root_ok img name s root h =
    let r = eval img (root_header s.root) in
    let last : HeaderFields → List Used → Result (ℕ × List Used) Finding = λ h us. then_also (refused_as (λ e. found 7 s.root) (linked name h.messages)) (λ at. Ok (at, us)) in
    let mid : HeaderFields → Result (ℕ × List Used) Finding = λ h. then_also (header_ranges s.end h.ranges) (last h) in
    let header = then_ok (refused_as (λ e. found 6 s.root) r) mid root
    (sym (eval_bind img (root_header s.root) (λ r. ret (then_also (refused_as (λ e. found 6 s.root) r) mid))) ∙ h) in
    let ranges = then_ok (header_ranges s.end header.0.ranges) (last header.0) root header.2 in
    let link = then_ok (refused_as (λ e. found 7 s.root) (linked name header.0.messages)) (λ at. Ok (at, ranges.0)) root ranges.2 in
    let same : link.0 ≡ root.0 = ok_first link.0 ranges.0 root link.2 in
    (header.0, refused_ok (λ e. found 6 s.root) r header.0 header.1, refused_ok (λ e. found 7 s.root) (linked name header.0.messages) link.0 link.1 ∙ ap Ok same)

pub place_ok : (img name : List ℕ) (s : Super) (root : ℕ × List Used) → checked_super (length img) (range img 0 48) ≡ Ok s → eval img (checked_root name s) ≡ Ok root
    → eval img (dataset_place name) ≡ Ok root.0
place_ok img name s root h g =
    let r = root_ok img name s root g in
    and_then_from img superblock (λ s. and_then (root_header s.root) (λ h. ret (linked name h.messages))) s root.0 (super_ok (length img) (range img 0 48) s h)
    (and_then_from img (root_header s.root) (λ h. ret (linked name h.messages)) r.0 root.0 r.1 r.2)

-- the dataset header that is checked is read, and its chunks are within the limits
pub dataset_ok : (img : List ℕ) (s : Super) (place : ℕ) (d : Described × List Used) → eval img (checked_dataset format_limits s place) ≡ Ok d
    → (eval img (dataset place) ≡ Ok d.0) × (nat_lt (limit_of format_limits d.0.layout.index) (needed d.0) ≡ false)
dataset_ok img s place d h =
    let b = header_view (range img place 512) in
    let r = eval img (dataset_messages place b) in
    let inner : List Used → Described → Result (Described × List Used) Finding = λ us d. if nat_lt (limit_of format_limits d.layout.index) (needed d) then Err (found 20 place) else Ok (d, us) in
    let last : HeaderFields → List Used → Result (Described × List Used) Finding = λ h us. then_also (refused_as (λ e. found 9 place) (described h.messages)) (inner us) in
    let mid : HeaderFields → Result (Described × List Used) Finding = λ h. then_also (header_ranges s.end h.ranges) (last h) in
    let header = then_ok (refused_as (dataset_finding place) r) mid d
    (sym (eval_bind img (dataset_messages place b) (λ r. ret (then_also (refused_as (dataset_finding place) r) mid))) ∙ h) in
    let ranges = then_ok (header_ranges s.end header.0.ranges) (last header.0) d header.2 in
    let said = then_ok (refused_as (λ e. found 9 place) (described header.0.messages)) (inner ranges.0) d ranges.2 in
    let within = fails (nat_lt (limit_of format_limits said.0.layout.index) (needed said.0)) (Ok (said.0, ranges.0)) (found 20 place) d said.2 in
    let same : said.0 ≡ d.0 = ok_first said.0 ranges.0 d within.1 in
    let says : described header.0.messages ≡ Ok d.0 = refused_ok (λ e. found 9 place) (described header.0.messages) said.0 said.1 ∙ ap Ok same in (
      and_then_from img (dataset_messages place b) (λ h. ret (refused_as read_errors.Unsupported (described h.messages))) header.0 d.0
          (refused_ok (dataset_finding place) r header.0 header.1) (ap (refused_as read_errors.Unsupported) says),
      subst (λ x. nat_lt (limit_of format_limits x.layout.index) (needed x) ≡ false) same within.0,
    )

-- ---- The needed keys

-- what is so of each number below an end, through its key
pub all_numbers : (P : Key → Type 0) (f : ℕ → Key) (end from count : ℕ) → ((n : ℕ) → n < end → P (f n)) → from + count ≤ end → AllByRecursion P (map f (range_with_len from count))
all_numbers P f end from zero each fits = tt
all_numbers P f end from (suc count) each fits = (each from (omega arith), all_numbers P f end (from + 1) count each (omega arith))

number_named : (kind : IndexKind) (across n most : ℕ) → n < most → most ≤ limit_of format_limits kind → kind ≡ Array → n / (elim kind as (λ _. ℕ) [ Array ↦ 1 | Tree ↦ across ]) < 131060
number_named Array across n most low few is = omega arith
number_named Tree across n most low few is = cc

-- within the limit each needed key is one that the index reaches
pub needed_reached : (d : Described) → nat_lt (limit_of format_limits d.layout.index) (needed d) ≡ false → AllByRecursion (Named d) (needed_keys d)
needed_reached d within =
    let few : needed d ≤ limit_of format_limits d.layout.index = ltb-false (limit_of format_limits d.layout.index) (needed d) within in
    all_numbers (Named d) (index_key d) (needed d) 0 (needed d) (λ n low is. number_named d.layout.index (chunks_across d) n (needed d) low few is) (omega arith)

-- a program for each key, where each answers
pub each_answers : (img : List ℕ) (p : Key → Prog (Result ℕ ReadError)) (P : Key → Type 0) (ks : List Key) → AllByRecursion P ks → ((key : Key) → P key → HasAnswer (eval img (p key)))
    → HasAnswer (eval img (each_of p ks))
each_answers img p P [] all go = ([], refl)
each_answers img p P (k ∷ ks) all go =
    let first = go k all.0 in
    let rest = each_answers img p P ks all.1 go in (
      first.0 ∷ rest.0,
      and_then_from img (p k) (λ a. and_then (each_of p ks) (λ rest. ret (Ok (a ∷ rest)))) first.0 (first.0 ∷ rest.0) first.1
          (and_then_from img (each_of p ks) (λ rest. ret (Ok (first.0 ∷ rest))) rest.0 (first.0 ∷ rest.0) rest.1 refl),
    )

pub table_answers : (img : List ℕ) (d : Described) (b : Behind img (in_place d) (Named d)) (ks : List Key) → AllByRecursion (Named d) ks → HasAnswer (eval img (table_of d ks))
table_answers img d b [] named = ([], refl)
table_answers img d b (k ∷ ks) named =
    let each = each_answers img (address_behind b.blocks) (Named d) (k ∷ ks) named (λ key g. let r = b.reaches key g in (r.answer, r.is)) in
    (each.0, and_then_from img (in_place d) (λ p. each_of (address_behind p) (k ∷ ks)) b.blocks each.0 b.read each.1)

pub needed_answers : (img : List ℕ) (d : Described) → Behind img (in_place d) (Named d) → nat_lt (limit_of format_limits d.layout.index) (needed d) ≡ false
    → HasAnswer (eval img (needed_table format_limits d))
needed_answers img d b within =
    let t = table_answers img d b (needed_keys d) (needed_reached d within) in
    (t.0, ap (eval img) (cond-false (nat_lt (limit_of format_limits d.layout.index) (needed d)) (ret (Err (read_errors.TooManyChunks (needed d) (limit_of format_limits d.layout.index)))) (table_of d (needed_keys d)) within) ∙ t.1)

-- ---- A valid image

pub named_key : (d : Described) (key : Key) → IsKey d.layout.index key → Named d key
named_key d key h is = (subst (λ kind. IsKey kind key) is h).0

pub verdict_rows : (s : Super) (d : Described) (us : List Used) (sm : Summary) (o : Option Finding)
    → elim o as (λ _. Result Summary Finding) [ None ↦ Ok (summary s d us) | Some f ↦ Err f ] ≡ Ok sm → d.shape.rows ≡ sm.rows
verdict_rows s d us sm None h = let e : summary s d us ≡ sm = cc in ap (λ x. x.rows) e
verdict_rows s d us sm (Some f) h = cc

pub summary_rows : (s : Super) (d : Described) (us : List Used) (sm : Summary) → verdict s d us ≡ Ok sm → d.shape.rows ≡ sm.rows
summary_rows s d us sm h = verdict_rows s d us sm (overlap_of (by_place us)) h

pub valid_shows : ValidShows
valid_shows img name sm valid =
    let size = length img in
    let b = range img 0 48 in
    let super = and_then_ok img (ret (checked_super size b)) (λ s.
    and_then (checked_root name s) (λ root.
    and_then (checked_dataset format_limits s root.0) (λ d.
    and_then (index_visit s.end d.0) (λ us.
    ret (verdict s d.0 (the_superblock ∷ root.1 ++ d.1 ++ us)))))) sm valid in
    let s = super.0 in
    let root = and_then_ok img (checked_root name s) (λ root.
    and_then (checked_dataset format_limits s root.0) (λ d.
    and_then (index_visit s.end d.0) (λ us.
    ret (verdict s d.0 (the_superblock ∷ root.1 ++ d.1 ++ us))))) sm super.2 in
    let data_of = and_then_ok img (checked_dataset format_limits s root.0.0) (λ d.
    and_then (index_visit s.end d.0) (λ us.
    ret (verdict s d.0 (the_superblock ∷ root.0.1 ++ d.1 ++ us)))) sm root.2 in
    let d = data_of.0.0 in
    let index = and_then_ok img (index_visit s.end d) (λ us. ret (verdict s d (the_superblock ∷ root.0.1 ++ data_of.0.1 ++ us))) sm data_of.2 in
    let header = dataset_ok img s root.0.0 data_of.0 data_of.1 in
    let behind = behind_of img s.end d index.0 index.1 in
    let table = needed_answers img d behind header.1 in
    let shown : Reading = record { place = root.0.0; dataset = d; table = table.0 } in
    record {
      shown = shown;
      shows =
          and_then_from img (dataset_place name) (λ at. and_then (dataset at) (λ d. and_then (needed_table format_limits d) (λ t. ret (Ok (record { place = at; dataset = d; table = t }))))) root.0.0 shown
          (place_ok img name s root.0 super.1 root.1)
          (and_then_from img (dataset root.0.0) (λ d. and_then (needed_table format_limits d) (λ t. ret (Ok (record { place = root.0.0; dataset = d; table = t })))) d shown header.0
          (and_then_from img (needed_table format_limits d) (λ t. ret (Ok (record { place = root.0.0; dataset = d; table = t }))) table.0 shown table.1 refl));
      rows = summary_rows s d (the_superblock ∷ root.0.1 ++ data_of.0.1 ++ index.0) sm index.2;
      reached = record {
        blocks = behind.blocks;
        read = behind.read;
        answered = λ key is. let r = behind.reaches key (named_key d key is) in (r.answer, r.is);
        inside = λ key is. (behind.reaches key (named_key d key is)).inside;
      };
    }
