-- The check of an index, in its blocks in place and in what stands behind them.
use Rattle.std.proofs.Common.{◌≡◌, ◌⊎◌, ℕ, ◌+◌, ◌<◌, ◌≤◌, Bool, true, false, cond, List, [], ◌∷◌, ◌++◌, Result, Ok, Err, refl, sym, ◌∙◌, ap, subst, inl, inr, arith, append-nil}
use Rattle.std.specs.Prelude.{◌==◌, if◌then◌else◌}
use Rattle.std.proofs.lemmas.Bool.{cases_Bool, leb-true}
use Rattle.h5w_model.specs.Numbers.{range, field, undefined}
use Rattle.h5w_model.specs.Programs.{Prog, ret, whole, eval, visits, Visit, all_of}
use Rattle.h5w_model.specs.Arrays.{EahdFields, EaibFields, eahd_at, eaib_at, eahd_len, eaib_len}
use Rattle.h5w_model.specs.Trees.{BthdFields, bthd_at, bthd_len, bthd_tests, bthd_fields, capacity_of}
use Rattle.h5w_model.specs.Datasets.{Described, then_also, refused_as}
use Rattle.h5w_model.specs.Tables.{InPlace, nowhere, in_array, in_tree, in_place, array_in_place, tree_in_place, address_behind}
use Rattle.h5w_model.specs.Findings.{Finding, found, Used, Visited, Under, both, first_visits, second_visits, chunk_ranges, node_visit, index_block_visit, array_visit, tree_visit, index_visit, chunk_bytes, bad_index_block, bad_index_header}
use Rattle.h5w_model.specs.declared.cell.Key.{Key}
use Rattle.h5w_model.specs.declared.cell.IndexKind.{IndexKind}
use Rattle.h5w_model.specs.declared.cell.IndexKind.TheVariants.{Array, Tree}
use Rattle.h5w_model.specs.declared.refusal.ReadError.{ReadError}
use Rattle.h5w_model.specs.declared.refusal.ReadError.TheVariants.{Damaged}
use Rattle.h5w_model.proofs.CheckedLemmas.{checked-passed}
use Rattle.h5w_laws.proofs.ResultLemmas.{then_ok, refused_ok, choice_ok, choice_from, and_then_ok}
use Rattle.h5w_laws.proofs.EndLemmas.{same_ranges}
use Rattle.h5w_step_laws.specs.Ranges.{Among, AllEndBy, block_at, blocks_of}
use Rattle.h5w_step_laws.specs.Indexes.{IsNamed, behind_visit}
use Rattle.h5w_step_laws.proofs.RangeLemmas.{ends_nil, ends_cons}
use Rattle.h5w_step_laws.proofs.VisitTells.{VisitTells, no_visit, told_nil, told_as, told_choice, told_other, told_one, told_block, block_parts}
use Rattle.h5w_step_laws.proofs.ArrayVisits.{Answers, answers_none, array_known, by_place}
use Rattle.h5w_step_laws.proofs.TreeVisits.{node_known}

-- ---- What the blocks in place say

-- a tree's header names a root within its depth's capacity
abbrev pub IsSound : InPlace → Type 0
IsSound nowhere = Unit {0}
IsSound (in_array e) = Unit {0}
IsSound (in_tree t) = (t.depth ≤ 3) × (t.records ≤ capacity_of t.depth)

-- the keys that they name
abbrev pub Names : InPlace → Key → Type 0
Names nowhere key = Unit {0}
Names (in_array e) key = key.i < 131060
Names (in_tree t) key = Unit {0}

pub header_sound : (b : List ℕ) (place : ℕ) (t : BthdFields) → bthd_at b place ≡ Ok t → (t.depth ≤ 3) × (t.records ≤ capacity_of t.depth)
header_sound b place t h =
    let p = checked-passed (bthd_tests b place) (bthd_fields b) t h in
    let depth = p.0.1.1.1.1.1.1.1.0 in
    let records = p.0.1.1.1.1.1.1.1.1.1.1.0 in
    subst (λ (v : BthdFields). (v.depth ≤ 3) × (v.records ≤ capacity_of v.depth)) p.1
    (leb-true (field b 12 2) 3 depth, leb-true (field b 24 2) (capacity_of (field b 12 2)) records)

-- ---- Behind them

pub record BehindKnown (img : List ℕ) (end bytes : ℕ) (blocks : InPlace) (us : List Used) : Type 0 where
  pub told : VisitTells img end bytes (λ e. behind_visit e bytes blocks) us us
  pub keys : (key : Key) → Names blocks key → Answers img bytes us (address_behind blocks key)

pub behind_known : (img : List ℕ) (end bytes : ℕ) (blocks : InPlace) (us : List Used) → IsSound blocks → eval img (behind_visit end bytes blocks) ≡ Ok us → BehindKnown img end bytes blocks us
behind_known img end bytes nowhere us sound h = record {
  told = subst (λ (xs : List Used). VisitTells img end bytes (λ e. no_visit) xs xs) (same_ranges [] us h) (told_nil img end bytes);
  keys = λ key n. answers_none img bytes us;
}
behind_known img end bytes (in_array e) us sound h = let a = array_known img end bytes e us h in record { told = a.told; keys = λ key n. a.slots key.i n }
behind_known img end bytes (in_tree t) us sound h =
    let ranges : Under → Result (List Used) Finding = λ u. Ok u.ranges in
    let step = and_then_ok img (node_visit end bytes t.depth t.root t.records) (λ u. ret (ranges u)) us h in
    let node = node_known img end bytes t.depth t.root t.records step.0 sound.0 sound.1 step.1 in
    subst (λ (xs : List Used). BehindKnown img end bytes (in_tree t) xs) (same_ranges step.0.ranges us step.2) (record {
      told = told_as img end bytes (λ e. node_visit e bytes t.depth t.root t.records) ranges step.0 step.0.ranges step.0.ranges refl node.told;
      keys = λ key n. node.keys key;
    })

pub nothing_behind : (img : List ℕ) (end bytes : ℕ) (blocks : InPlace) (us : List Used) → blocks ≡ nowhere → VisitTells img end bytes (λ e. behind_visit e bytes blocks) us us → [] ≡ us
nothing_behind img end bytes blocks us e t = same_ranges [] us (ap (λ b. eval img (behind_visit end bytes b)) (sym e) ∙ t.other end t.ends)

-- ---- An index, by the programs that read its blocks in place and visit it

-- what a visit was made of
pub record Parts (img : List ℕ) (end bytes : ℕ) (p : Prog (Result InPlace ReadError)) (ranges : List Used) : Type 0 where
  pub blocks : InPlace
  pub read : eval img p ≡ Ok blocks
  pub behind : List Used
  pub of_behind : eval img (behind_visit end bytes blocks) ≡ Ok behind
  pub parts : blocks_of (visits img p) ++ behind ≡ ranges
  pub ends : AllEndBy end (blocks_of (visits img p))

-- the two programs belong together
pub record Belong (img : List ℕ) (bytes : ℕ) (p : Prog (Result InPlace ReadError)) (q : ℕ → Visited) : Type 0 where
  pub sound : (blocks : InPlace) → eval img p ≡ Ok blocks → IsSound blocks
  pub build : (end : ℕ) (blocks : InPlace) (behind : List Used) → eval img p ≡ Ok blocks → AllEndBy end (blocks_of (visits img p))
      → VisitTells img end bytes (λ e. behind_visit e bytes blocks) behind behind → VisitTells img end bytes q (blocks_of (visits img p) ++ behind) (blocks_of (visits img p) ++ behind)
  pub parts : (end : ℕ) (ranges : List Used) → eval img (q end) ≡ Ok ranges → Parts img end bytes p ranges

abbrev pub place_is : InPlace → Result InPlace ReadError
place_is p = Ok p

pub same_place : (p q : InPlace) → place_is p ≡ place_is q → p ≡ q
same_place p q h = cc

-- ---- No index

pub belong_none : (img : List ℕ) (bytes : ℕ) → Belong img bytes (ret (Ok nowhere)) (λ e. no_visit)
belong_none img bytes = record {
  sound = λ blocks h. subst (λ (b : InPlace). IsSound b) (same_place nowhere blocks h) tt;
  build = λ end blocks behind h ends t. subst (λ (xs : List Used). VisitTells img end bytes (λ e. no_visit) xs xs) (nothing_behind img end bytes blocks behind (sym (same_place nowhere blocks h)) t) (told_nil img end bytes);
  parts = λ end ranges h. record { blocks = nowhere; read = refl; behind = ranges; of_behind = h; parts = refl; ends = λ u a. absurd a };
}

-- ---- An array

abbrev pub look_at : ℕ → ℕ → Visit
look_at place n = record { place = place; len = n; counts = all_of }

-- the program that goes on with the array's header
abbrev pub block_read : ℕ → Prog (Result InPlace ReadError)
block_read block = whole block eaib_len (λ b. ret (then_also (refused_as (Damaged block) (eaib_at b block)) (λ e. Ok (in_array e))))

-- what was read of an array: its header, and its index block where there is one
pub record NoBlock (img : List ℕ) (place : ℕ) (blocks : InPlace) : Type 0 where
  pub header : EahdFields
  pub of_header : eahd_at (range img place eahd_len) place ≡ Ok header
  pub none : (header.block == undefined) ≡ true
  pub is : blocks ≡ nowhere
  pub looks : visits img (array_in_place place) ≡ look_at place eahd_len ∷ []

pub record HasBlock (img : List ℕ) (place : ℕ) (blocks : InPlace) : Type 0 where
  pub header : EahdFields
  pub of_header : eahd_at (range img place eahd_len) place ≡ Ok header
  pub named : (header.block == undefined) ≡ false
  pub fields : EaibFields
  pub of_block : eaib_at (range img header.block eaib_len) header.block ≡ Ok fields
  pub is : blocks ≡ in_array fields
  pub looks : visits img (array_in_place place) ≡ look_at place eahd_len ∷ look_at header.block eaib_len ∷ []

pub array_looks : (img : List ℕ) (place : ℕ) (h : EahdFields) (b : Bool) → eahd_at (range img place eahd_len) place ≡ Ok h → (h.block == undefined) ≡ b
    → visits img (array_in_place place) ≡ look_at place eahd_len ∷ visits img (cond b (ret (Ok nowhere)) (block_read h.block))
array_looks img place h b e t =
    let go : EahdFields → Prog (Result InPlace ReadError) = λ h. if h.block == undefined then ret (Ok nowhere) else block_read h.block in
    ap (λ (x : Result EahdFields _). look_at place eahd_len ∷ visits img (elim x as (λ _. Prog (Result InPlace ReadError)) [ Ok a ↦ go a | Err f ↦ ret (Err (Damaged place f)) ])) e
    ∙ ap (λ c. look_at place eahd_len ∷ visits img (cond c (ret (Ok nowhere)) (block_read h.block))) t

pub array_cases : (img : List ℕ) (place : ℕ) (blocks : InPlace) → eval img (array_in_place place) ≡ Ok blocks → NoBlock img place blocks ⊎ HasBlock img place blocks
array_cases img place blocks h =
    let go : EahdFields → Prog (Result InPlace ReadError) = λ h. if h.block == undefined then ret (Ok nowhere) else block_read h.block in
    let d = choice_ok img (eahd_at (range img place eahd_len) place) go (λ f. Damaged place f) blocks h in
    let block = d.0.block in
    elim (cases_Bool (block == undefined)) [
      | inl t ↦ inl (record {
        header = d.0;
        of_header = d.1;
        none = t;
        is = sym (same_place nowhere blocks (ap (λ c. eval img (cond c (ret (Ok nowhere)) (block_read block))) (sym t) ∙ d.2));
        looks = array_looks img place d.0 true d.1 t;
      })
      | inr t ↦
          let e = then_ok (refused_as (Damaged block) (eaib_at (range img block eaib_len) block)) (λ e. place_is (in_array e)) blocks
          (ap (λ c. eval img (cond c (ret (Ok nowhere)) (block_read block))) (sym t) ∙ d.2) in
          inr (record {
            header = d.0;
            of_header = d.1;
            named = t;
            fields = e.0;
            of_block = refused_ok (Damaged block) (eaib_at (range img block eaib_len) block) e.0 e.1;
            is = sym (same_place (in_array e.0) blocks e.2);
            looks = array_looks img place d.0 false d.1 t;
          })
    ]

-- the visit of an index block, by its bytes
abbrev pub behind_block : ℕ → ℕ → ℕ → List ℕ → Visited
behind_block bytes place e b = elim (eaib_at b place) as (λ _. Visited) [
  | Ok x ↦ both (ret (chunk_ranges e bytes x.slots)) (both (first_visits e bytes 0 x.first) (second_visits e bytes 4 x.second))
  | Err f ↦ ret (Err (found bad_index_block place))
]

-- the visit of an array, by its header
abbrev pub behind_header : ℕ → ℕ → EahdFields → Visited
behind_header bytes e h = cond (h.block == undefined) no_visit (index_block_visit e bytes h.block)

abbrev pub header_visit : ℕ → ℕ → ℕ → List ℕ → Visited
header_visit bytes place e b = elim (eahd_at b place) as (λ _. Visited) [ Ok h ↦ behind_header bytes e h | Err f ↦ ret (Err (found bad_index_header place)) ]

pub told_header : (img : List ℕ) (bytes place end : ℕ) (h : EahdFields) (us : List Used) → eahd_at (range img place eahd_len) place ≡ Ok h → place + eahd_len ≤ end
    → VisitTells img end bytes (λ e. behind_header bytes e h) us us → VisitTells img end bytes (λ e. array_visit e bytes place) (block_at place eahd_len ∷ us) (block_at place eahd_len ∷ us)
told_header img bytes place end h us of_header fits t =
    told_block img end bytes place eahd_len (header_visit bytes place) us (block_at place eahd_len ∷ us) (omega arith) fits refl
    (told_choice img end bytes (eahd_at (range img place eahd_len) place) (behind_header bytes) (λ f. found bad_index_header place) h us us of_header t)

pub told_index_block : (img : List ℕ) (bytes place end : ℕ) (x : EaibFields) (us : List Used) → eaib_at (range img place eaib_len) place ≡ Ok x → place + eaib_len ≤ end
    → VisitTells img end bytes (λ e. behind_visit e bytes (in_array x)) us us → VisitTells img end bytes (λ e. index_block_visit e bytes place) (block_at place eaib_len ∷ us) (block_at place eaib_len ∷ us)
told_index_block img bytes place end x us of_block fits t =
    told_block img end bytes place eaib_len (behind_block bytes place) us (block_at place eaib_len ∷ us) (omega arith) fits refl
    (told_choice img end bytes (eaib_at (range img place eaib_len) place) (λ e x. behind_visit e bytes (in_array x)) (λ f. found bad_index_block place) x us us of_block t)

pub array_build : (img : List ℕ) (bytes place end : ℕ) (blocks : InPlace) (behind : List Used) → AllEndBy end (blocks_of (visits img (array_in_place place)))
    → VisitTells img end bytes (λ e. behind_visit e bytes blocks) behind behind → NoBlock img place blocks ⊎ HasBlock img place blocks
    → VisitTells img end bytes (λ e. array_visit e bytes place) (blocks_of (visits img (array_in_place place)) ++ behind) (blocks_of (visits img (array_in_place place)) ++ behind)
array_build img bytes place end blocks behind ends t (inl n) =
    let own : Used = block_at place eahd_len in
    let fixed : blocks_of (visits img (array_in_place place)) ≡ own ∷ [] = ap blocks_of n.looks in
    let fits : place + eahd_len ≤ end = ends own (subst (λ (xs : List Used). Among own xs) (sym fixed) (inl refl)) in
    let none : [] ≡ behind = nothing_behind img end bytes blocks behind n.is t in
    subst (λ (xs : List Used). VisitTells img end bytes (λ e. array_visit e bytes place) xs xs)
    (ap (λ (xs : List Used). own ∷ xs) none ∙ ap (λ (xs : List Used). xs ++ behind) (sym fixed))
    (told_header img bytes place end n.header [] n.of_header fits
    (told_one img end bytes (n.header.block == undefined) (λ e. no_visit) (λ e. index_block_visit e bytes n.header.block) [] [] n.none (told_nil img end bytes)))
array_build img bytes place end blocks behind ends t (inr n) =
    let own : Used = block_at place eahd_len in
    let index : Used = block_at n.header.block eaib_len in
    let fixed : blocks_of (visits img (array_in_place place)) ≡ own ∷ index ∷ [] = ap blocks_of n.looks in
    let fits : place + eahd_len ≤ end = ends own (subst (λ (xs : List Used). Among own xs) (sym fixed) (inl refl)) in
    let fits_too : n.header.block + eaib_len ≤ end = ends index (subst (λ (xs : List Used). Among index xs) (sym fixed) (inr (inl refl))) in
    subst (λ (xs : List Used). VisitTells img end bytes (λ e. array_visit e bytes place) xs xs)
    (ap (λ (xs : List Used). xs ++ behind) (sym fixed))
    (told_header img bytes place end n.header (index ∷ behind) n.of_header fits
    (told_other img end bytes (n.header.block == undefined) (λ e. no_visit) (λ e. index_block_visit e bytes n.header.block) (index ∷ behind) (index ∷ behind) n.named
    (told_index_block img bytes n.header.block end n.fields behind n.of_block fits_too
    (subst (λ (b : InPlace). VisitTells img end bytes (λ e. behind_visit e bytes b) behind behind) n.is t))))

pub ends_one : (end : ℕ) (u : Used) → u.place + u.len ≤ end → AllEndBy end (u ∷ [])
ends_one end u h = ends_cons end u [] h (ends_nil end)

pub array_parts : (img : List ℕ) (bytes place end : ℕ) (ranges : List Used) → eval img (array_visit end bytes place) ≡ Ok ranges → Parts img end bytes (array_in_place place) ranges
array_parts img bytes place end ranges h =
    let own : Used = block_at place eahd_len in
    let there = block_parts img end place eahd_len (header_visit bytes place end) ranges h in
    let d = choice_ok img (eahd_at (range img place eahd_len) place) (behind_header bytes end) (λ f. found bad_index_header place) there.behind there.of_behind in
    let block : ℕ = d.0.block in
    let read : (b : Bool) (blocks : InPlace) → (block == undefined) ≡ b → eval img (cond b (ret (Ok nowhere)) (block_read block)) ≡ Ok blocks → eval img (array_in_place place) ≡ Ok blocks =
    λ b blocks t e. choice_from img (eahd_at (range img place eahd_len) place) (λ h. if h.block == undefined then ret (Ok nowhere) else block_read h.block) (λ f. Damaged place f) d.0 blocks d.1
    (ap (λ c. eval img (cond c (ret (Ok nowhere)) (block_read block))) t ∙ e) in
    elim (by_place img there.behind (block == undefined) (index_block_visit end bytes block) d.2) [
      | inl t ↦
          let fixed : blocks_of (visits img (array_in_place place)) ≡ own ∷ [] = ap blocks_of (array_looks img place d.0 true d.1 t.0) in
          record {
            blocks = nowhere;
            read = read true nowhere t.0 refl;
            behind = [];
            of_behind = refl;
            parts = append-nil (blocks_of (visits img (array_in_place place))) ∙ fixed ∙ ap (λ (xs : List Used). own ∷ xs) t.1 ∙ there.parts;
            ends = subst (λ (xs : List Used). AllEndBy end xs) (sym fixed) (ends_one end own there.fits);
          }
      | inr t ↦
          let index : Used = block_at block eaib_len in
          let fixed : blocks_of (visits img (array_in_place place)) ≡ own ∷ index ∷ [] = ap blocks_of (array_looks img place d.0 false d.1 t.0) in
          let more = block_parts img end block eaib_len (behind_block bytes block end) there.behind t.1 in
          let e = choice_ok img (eaib_at (range img block eaib_len) block) (λ x. behind_visit end bytes (in_array x)) (λ f. found bad_index_block block) more.behind more.of_behind in
          record {
            blocks = in_array e.0;
            read = read false (in_array e.0) t.0 (ap (λ x. then_also (refused_as (Damaged block) x) (λ e. place_is (in_array e))) e.1);
            behind = more.behind;
            of_behind = e.2;
            parts = ap (λ (xs : List Used). xs ++ more.behind) fixed ∙ ap (λ (xs : List Used). own ∷ xs) more.parts ∙ there.parts;
            ends = subst (λ (xs : List Used). AllEndBy end xs) (sym fixed) (ends_cons end own (index ∷ []) there.fits (ends_one end index more.fits));
          }
    ]

pub array_sound : (img : List ℕ) (place : ℕ) (blocks : InPlace) → NoBlock img place blocks ⊎ HasBlock img place blocks → IsSound blocks
array_sound img place blocks (inl n) = subst (λ (b : InPlace). IsSound b) (sym n.is) tt
array_sound img place blocks (inr n) = subst (λ (b : InPlace). IsSound b) (sym n.is) tt

pub belong_array : (img : List ℕ) (bytes place : ℕ) → Belong img bytes (array_in_place place) (λ e. array_visit e bytes place)
belong_array img bytes place = record {
  sound = λ blocks h. array_sound img place blocks (array_cases img place blocks h);
  build = λ end blocks behind h ends t. array_build img bytes place end blocks behind ends t (array_cases img place blocks h);
  parts = array_parts img bytes place;
}

-- ---- A tree

-- the visit of a tree, by its header
abbrev pub behind_root : ℕ → ℕ → BthdFields → Visited
behind_root bytes e t = cond (t.root == undefined) no_visit (behind_visit e bytes (in_tree t))

abbrev pub root_visit : ℕ → ℕ → ℕ → List ℕ → Visited
root_visit bytes place e b = elim (bthd_at b place) as (λ _. Visited) [ Ok t ↦ behind_root bytes e t | Err f ↦ ret (Err (found bad_index_header place)) ]

-- what a tree's header says of the blocks in place
abbrev pub root_of : BthdFields → InPlace
root_of t = cond (t.root == undefined) nowhere (in_tree t)

pub tree_read : (img : List ℕ) (place : ℕ) (blocks : InPlace) → eval img (tree_in_place place) ≡ Ok blocks → (t : BthdFields) × (bthd_at (range img place bthd_len) place ≡ Ok t) × (root_of t ≡ blocks)
tree_read img place blocks h =
    let d = then_ok (refused_as (Damaged place) (bthd_at (range img place bthd_len) place)) (λ t. place_is (root_of t)) blocks h in
    (d.0, refused_ok (Damaged place) (bthd_at (range img place bthd_len) place) d.0 d.1, same_place (root_of d.0) blocks d.2)

pub root_sound : (t : BthdFields) (b : Bool) → (t.depth ≤ 3) × (t.records ≤ capacity_of t.depth) → IsSound (cond b nowhere (in_tree t))
root_sound t true h = tt
root_sound t false h = h

pub told_root : (img : List ℕ) (bytes end : ℕ) (t : BthdFields) (us : List Used) (b : Bool) → VisitTells img end bytes (λ e. behind_visit e bytes (cond b nowhere (in_tree t))) us us
    → VisitTells img end bytes (λ e. cond b no_visit (behind_visit e bytes (in_tree t))) us us
told_root img bytes end t us true h = h
told_root img bytes end t us false h = h

pub root_behind : (img : List ℕ) (bytes end : ℕ) (t : BthdFields) (us : List Used) (b : Bool) → eval img (cond b no_visit (behind_visit end bytes (in_tree t))) ≡ Ok us
    → eval img (behind_visit end bytes (cond b nowhere (in_tree t))) ≡ Ok us
root_behind img bytes end t us true h = h
root_behind img bytes end t us false h = h

pub tree_build : (img : List ℕ) (bytes place end : ℕ) (blocks : InPlace) (behind : List Used) → eval img (tree_in_place place) ≡ Ok blocks → AllEndBy end (block_at place bthd_len ∷ [])
    → VisitTells img end bytes (λ e. behind_visit e bytes blocks) behind behind → VisitTells img end bytes (λ e. tree_visit e bytes place) (block_at place bthd_len ∷ behind) (block_at place bthd_len ∷ behind)
tree_build img bytes place end blocks behind h ends t =
    let own : Used = block_at place bthd_len in
    let d = tree_read img place blocks h in
    told_block img end bytes place bthd_len (root_visit bytes place) behind (own ∷ behind) (omega arith) (ends own (inl refl)) refl
    (told_choice img end bytes (bthd_at (range img place bthd_len) place) (behind_root bytes) (λ f. found bad_index_header place) d.0 behind behind d.1
    (told_root img bytes end d.0 behind (d.0.root == undefined)
    (subst (λ (b : InPlace). VisitTells img end bytes (λ e. behind_visit e bytes b) behind behind) (sym d.2) t)))

pub tree_parts : (img : List ℕ) (bytes place end : ℕ) (ranges : List Used) → eval img (tree_visit end bytes place) ≡ Ok ranges → Parts img end bytes (tree_in_place place) ranges
tree_parts img bytes place end ranges h =
    let own : Used = block_at place bthd_len in
    let there = block_parts img end place bthd_len (root_visit bytes place end) ranges h in
    let d = choice_ok img (bthd_at (range img place bthd_len) place) (behind_root bytes end) (λ f. found bad_index_header place) there.behind there.of_behind in
    record {
      blocks = root_of d.0;
      read = ap (λ x. then_also (refused_as (Damaged place) x) (λ t. place_is (root_of t))) d.1;
      behind = there.behind;
      of_behind = root_behind img bytes end d.0 there.behind (d.0.root == undefined) d.2;
      parts = there.parts;
      ends = ends_one end own there.fits;
    }

pub belong_tree : (img : List ℕ) (bytes place : ℕ) → Belong img bytes (tree_in_place place) (λ e. tree_visit e bytes place)
belong_tree img bytes place = record {
  sound = λ blocks h.
      let d = tree_read img place blocks h in
      subst (λ (b : InPlace). IsSound b) d.2 (root_sound d.0 (d.0.root == undefined) (header_sound (range img place bthd_len) place d.0 d.1));
  build = λ end blocks behind h ends t. tree_build img bytes place end blocks behind h ends t;
  parts = tree_parts img bytes place;
}

-- ---- Any index

pub belong_kind : (img : List ℕ) (bytes place : ℕ) (kind : IndexKind)
    → Belong img bytes (elim kind as (λ _. Prog (Result InPlace ReadError)) [ Array ↦ array_in_place place | Tree ↦ tree_in_place place ])
    (λ e. elim kind as (λ _. Visited) [ Array ↦ array_visit e bytes place | Tree ↦ tree_visit e bytes place ])
belong_kind img bytes place Array = belong_array img bytes place
belong_kind img bytes place Tree = belong_tree img bytes place

pub belong : (img : List ℕ) (d : Described) → Belong img (chunk_bytes d) (in_place d) (λ e. index_visit e d)
belong img d =
    let a : ℕ = d.layout.address in
    let p : Prog (Result InPlace ReadError) = elim d.layout.index as (λ _. Prog (Result InPlace ReadError)) [ Array ↦ array_in_place a | Tree ↦ tree_in_place a ] in
    let q : ℕ → Visited = λ e. elim d.layout.index as (λ _. Visited) [ Array ↦ array_visit e (chunk_bytes d) a | Tree ↦ tree_visit e (chunk_bytes d) a ] in
    go (a == undefined) p q (belong_kind img (chunk_bytes d) a d.layout.index)
  where
    go : (b : Bool) (p : Prog (Result InPlace ReadError)) (q : ℕ → Visited) → Belong img (chunk_bytes d) p q → Belong img (chunk_bytes d) (cond b (ret (Ok nowhere)) p) (λ e. cond b no_visit (q e))
    go true p q h = belong_none img (chunk_bytes d)
    go false p q h = h

-- the keys of the dataset's index are named by its blocks in place
pub named_kind : (img : List ℕ) (place : ℕ) (kind : IndexKind) (blocks : InPlace) (key : Key) → (kind ≡ Array → key.i < 131060)
    → eval img (elim kind as (λ _. Prog (Result InPlace ReadError)) [ Array ↦ array_in_place place | Tree ↦ tree_in_place place ]) ≡ Ok blocks → Names blocks key
named_kind img place Array blocks key n h = go blocks (n refl)
  where
    go : (blocks : InPlace) → key.i < 131060 → Names blocks key
    go nowhere low = tt
    go (in_array e) low = low
    go (in_tree t) low = tt
named_kind img place Tree blocks key n h = let d = tree_read img place blocks h in subst (λ (b : InPlace). Names b key) d.2 (go d.0 (d.0.root == undefined))
  where
    go : (t : BthdFields) (b : Bool) → Names (cond b nowhere (in_tree t)) key
    go t true = tt
    go t false = tt

pub named : (img : List ℕ) (d : Described) (blocks : InPlace) (key : Key) → IsNamed d key → eval img (in_place d) ≡ Ok blocks → Names blocks key
named img d blocks key n h = go (d.layout.address == undefined) h
  where
    go : (b : Bool) → eval img (cond b (ret (Ok nowhere)) (elim d.layout.index as (λ _. Prog (Result InPlace ReadError)) [ Array ↦ array_in_place d.layout.address | Tree ↦ tree_in_place d.layout.address ])) ≡ Ok blocks → Names blocks key
    go true e = subst (λ (b : InPlace). Names b key) (same_place nowhere blocks e) tt
    go false e = named_kind img d.layout.address d.layout.index blocks key n e
