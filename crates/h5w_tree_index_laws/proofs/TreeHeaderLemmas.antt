-- The header of a tree, and nodes that other writes miss.
use Rattle.std.proofs.Common.{◌≡◌, ◌≢◌, ℕ, zero, suc, ◌+◌, ◌*◌, ◌<◌, ◌≤◌, ◌^◌, Bool, true, false, cond, eqb, List, [], ◌∷◌, ◌++◌, length, map, Result, Ok, refl, sym, ap, subst, ◌∙◌, inl, inr, arith, leb-true}
use Rattle.std.specs.Prelude.{codes}
use Rattle.std.specs.List.{All}
use Rattle.std.proofs.lemmas.Bool.{cond-false, eqb-true}
use Rattle.std.proofs.lemmas.List.{length-map}
use Rattle.std.proofs.lemmas.List.Elements.{All-head, All-tail}
use Rattle.h5w_model.specs.Numbers.{le, range, undefined}
use Rattle.h5w_model.specs.Blocks.{block_tests}
use Rattle.h5w_model.specs.Images.{AllMiss, Misses, apply, image}
use Rattle.h5w_model.specs.Programs.{Prog, eval, visits}
use Rattle.h5w_model.specs.Trees.{BthdFields, BtinFields, RecordFields, bthd_at, bthd_bytes, bthd_len, btin_at, btin_fields, btin_len, btlf_at, btlf_len, capacity_of, child_tests, node_size, node_tests, records_in}
use Rattle.h5w_model.specs.Datasets.{Described, refused_as, then_also}
use Rattle.h5w_model.specs.Tables.{InPlace, nowhere, in_tree, in_place, array_in_place, tree_in_place}
use Rattle.h5w_model.specs.Findings.{Used}
use Rattle.h5w_model.specs.declared.cell.IndexKind.{IndexKind}
use Rattle.h5w_model.specs.declared.cell.IndexKind.TheVariants.{Array, Tree as a_tree}
use Rattle.h5w_model.specs.declared.piece.Write.{Write}
use Rattle.h5w_model.specs.declared.refusal.ReadError.{ReadError}
use Rattle.h5w_model.specs.declared.refusal.ReadError.TheVariants.{Damaged}
use Rattle.h5w_model.proofs.CheckedLemmas.{checked-passed}
use Rattle.h5w_model.proofs.ChecksumLemmas.{length-sealed_block}
use Rattle.h5w_model.proofs.ImageLemmas.{At-apply, length-range, range-image_missed}
use Rattle.h5w_laws.proofs.ResultLemmas.{then_from}
use Rattle.h5w_laws.proofs.SlotLemmas.{refused_from}
use Rattle.h5w_step_laws.specs.Ranges.{Among, blocks_of}
use Rattle.h5w_step_laws.proofs.RangeLemmas.{among_left, among_right}
use Rattle.h5w_step_laws.proofs.TreeVisits.{inner_low, leaf_low}
use Rattle.h5w_flush_laws.specs.Parts.{SaysInPlace}
use Rattle.h5w_bt.proofs.Spelling.{bthd_at-bthd_body, bthd_body, bthd_bytes-is}
use Rattle.h5w_bt.specs.declared.records.Record.{Record}
use Rattle.h5w_bt.specs.Parts.{record_of}
use Rattle.h5w_bt_nodes.specs.Nodes.{Tree, records_of, total_of}
use Rattle.h5w_bt_index.specs.Sound.{IsSound}
use Rattle.h5w_bt_index.specs.Marks.{IsCleanPart, Part, Some_of}
use Rattle.h5w_bt_index.specs.Index.{Index, IsClean, IsIndex}
use Rattle.h5w_bt_nodes.specs.Blocks.{node_of, place_of}
use Rattle.h5w_bt_index.specs.Plans.{header_of}
use Rattle.h5w_tree_index_laws.specs.TreeImages.{StandsNode, StandsTree, around, blocks_in_place, chunk_of, chunks_of, own_range, ranges_under}
use Rattle.h5w_tree_index_laws.specs.TreeFlushes.{HeaderNames, header_range}
use Rattle.h5w_bt_nodes.proofs.Bounds.{room_small}
use Rattle.h5w_bt_index.proofs.Bounds.{total_fits}
use Rattle.h5w_tree_index_laws.specs.TreeImages.{node_range}
use Rattle.h5w_tree_index_laws.proofs.TreeStandLemmas.{PartStands, placed_differs}

-- ---- The header

pub header_long : (t : BthdFields) → length (bthd_bytes t) ≡ 38
unfolding le
header_long t = ap length (bthd_bytes-is t) ∙ length-sealed_block (bthd_body t)

pub root_few : (d m : ℕ) (t : Tree d) → IsSound d m t → length (records_of d t) ≤ m
root_few zero m t s = s
root_few (suc d) m t s = s.few

pub header_reads : (v : Index) (place : ℕ) → IsIndex v → place_of v.depth v.root < 2 ^ 64 → bthd_at (bthd_bytes (header_of v)) place ≡ Ok (header_of v)
header_reads v place i low =
    ap (λ b. bthd_at b place) (bthd_bytes-is (header_of v))
    ∙ bthd_at-bthd_body (header_of v) place (record { shallow = i.shallow; few = root_few v.depth (capacity_of v.depth) v.root i.sound }) low
    (total_fits v.depth (capacity_of v.depth) v.root i.shallow (omega (arith, room_small v.depth i.shallow)) i.sound)

abbrev in_place_ok : InPlace → Result InPlace ReadError
in_place_ok p = Ok p

pub address_other : (a place : ℕ) → a ≡ place → place ≢ undefined → eqb a undefined ≡ false
address_other a place e n = go (eqb a undefined) refl
  where
    go : (b : Bool) → eqb a undefined ≡ b → b ≡ false
    go true f = absurd (n (sym e ∙ eqb-true a undefined f))
    go false f = refl

abbrev by_kind : IndexKind → ℕ → Prog (Result InPlace ReadError)
by_kind kind a = elim kind as (λ _. Prog (Result InPlace ReadError)) [ Array ↦ array_in_place a | a_tree ↦ tree_in_place a ]

in_place_is : (d : Described) (place : ℕ) → d.layout.index ≡ a_tree → d.layout.address ≡ place → place ≢ undefined → in_place d ≡ tree_in_place place
in_place_is d place kind e n =
    cond-false (eqb d.layout.address undefined) _ _ (address_other d.layout.address place e n)
    ∙ ap (λ k. by_kind k d.layout.address) kind ∙ ap tree_in_place e

-- what a reader finds by these bytes of a header
abbrev pub in_place_by : ℕ → List ℕ → Result InPlace ReadError
in_place_by place b = then_also (refused_as (Damaged place) (bthd_at b place)) (λ (t : BthdFields). in_place_ok (cond (eqb t.root undefined) nowhere (in_tree t)))

-- where they say this tree, whatever its total, it is this tree
pub header_gives : (v : Index) (total : ℕ) (b : List ℕ) (place : ℕ) → bthd_at b place ≡ Ok (record (header_of v) { total = total }) → in_place_by place b ≡ Ok (blocks_in_place total v)
header_gives v total b place reads =
    let header : BthdFields = record (header_of v) { total = total } in
    then_from (refused_as (Damaged place) (bthd_at b place)) (λ (t : BthdFields). in_place_ok (cond (eqb t.root undefined) nowhere (in_tree t))) header (blocks_in_place total v)
    (refused_from (Damaged place) (bthd_at b place) header reads) refl

-- so it is where the same bytes stand
pub names_again : (place : ℕ) (v : Index) (img other : List ℕ) → range other place bthd_len ≡ range img place bthd_len → HeaderNames place v img → HeaderNames place v other
names_again place v img other same n = record { total = n.total; finds = ap (in_place_by place) same ∙ n.finds }

-- where a reader finds this tree by the header at its place, the block in place says it
pub header_says : (v : Index) (img : List ℕ) (d : Described) (place : ℕ) → d.layout.index ≡ a_tree → d.layout.address ≡ place → place ≢ undefined → (names : HeaderNames place v img)
    → SaysInPlace img d (blocks_in_place names.total v) (header_range place ∷ [])
header_says v img d place kind e n names =
    let is : in_place d ≡ tree_in_place place = in_place_is d place kind e n in
    record {
      says = ap (eval img) is ∙ names.finds;
      looks = sym (ap (λ p. blocks_of (visits img p)) is);
    }

-- the header once it is written
pub header_written : (v : Index) (img : List ℕ) (place : ℕ) → IsIndex v → place_of v.depth v.root < 2 ^ 64
    → HeaderNames place v (apply (record { at = place; piece = bthd_bytes (header_of v) }) img)
header_written v img place i low =
    let w : Write = record { at = place; piece = bthd_bytes (header_of v) } in
    let there : range (apply w img) place (length (bthd_bytes (header_of v))) ≡ bthd_bytes (header_of v) = At-apply w img in
    let reads : bthd_at (range (apply w img) place bthd_len) place ≡ Ok (header_of v) = ap (λ b. bthd_at b place) (ap (range (apply w img) place) (sym (header_long (header_of v))) ∙ there) ∙ header_reads v place i low in
    record { total = total_of v.depth v.root; finds = header_gives v (total_of v.depth v.root) (range (apply w img) place bthd_len) place reads }

-- ---- Nodes that writes miss

pub record PartIs (p : Part) : Type 0 where
  pub low : p.depth ≤ 3
  pub sound : IsSound p.depth (capacity_of p.depth) p.tree

some_sound : (d : ℕ) (p : Part) (cs : List (Tree d)) → ((c : Tree d) → IsSound d (capacity_of d) c → IsCleanPart p d c → PartIs p) → All (IsSound d (capacity_of d)) cs → Some_of (IsCleanPart p d) cs → PartIs p
some_sound d p [] f s h = absurd h
some_sound d p (c ∷ cs) f s (inl h) = f c (All-head (IsSound d (capacity_of d)) c cs s) h
some_sound d p (c ∷ cs) f s (inr h) = some_sound d p cs f (All-tail (IsSound d (capacity_of d)) c cs s) h

pub part_sound : (p : Part) (d : ℕ) (t : Tree d) → d ≤ 3 → IsSound d (capacity_of d) t → IsCleanPart p d t → PartIs p
part_sound p zero t low s h = subst PartIs (sym h.1) (record { low = low; sound = s })
part_sound p (suc d) t low s (inl h) = subst PartIs (sym h.1) (record { low = low; sound = s })
part_sound p (suc d) t low s (inr h) = some_sound d p t.children (λ c. part_sound p d c (omega (arith, low))) s.each h

-- writes that miss some bytes miss the first of them
pub miss_less : (ws : List Write) (place n m : ℕ) → m ≤ n → AllMiss ws place n → AllMiss ws place m
miss_less [] place n m h all = tt
miss_less (w ∷ ws) place n m h all = (less all.0, miss_less ws place n m h all.1)
  where
    less : Misses w place n → Misses w place m
    less (inl before) = inl before
    less (inr after) = inr (omega (arith, h, after))

-- bytes of which none is cut off stand within the image
inside : (img : List ℕ) (place n : ℕ) → 0 < n → n ≤ length (range img place n) → place + n ≤ length img
inside img place n some long = omega (arith, some, long, length-range img place n)

leaf_inside : (img : List ℕ) (place n : ℕ) (rs : List RecordFields) → btlf_at (range img place (btlf_len n)) place n ≡ Ok rs → place + btlf_len n ≤ length img
leaf_inside img place n rs e =
    let b : List ℕ = range img place (btlf_len n) in
    let p = checked-passed (block_tests (codes "BTLF") (btlf_len n) b ++ node_tests b place) (records_in b n 6) rs e in
    inside img place (btlf_len n) (omega arith) (leb-true (btlf_len n) (length b) p.0.0)

inner_inside : (img : List ℕ) (place n d : ℕ) (v : BtinFields) → btin_at (range img place (btin_len n (suc d))) place n (suc d) ≡ Ok v → place + btin_len n (suc d) ≤ length img
inner_inside img place n d v e =
    let b : List ℕ = range img place (btin_len n (suc d)) in
    let p = checked-passed (block_tests (codes "BTIN") (btin_len n (suc d)) b ++ node_tests b place ++ child_tests b place (suc d) (n + 1) (6 + 24 * n)) (btin_fields b n (suc d)) v e in
    inside img place (btin_len n (suc d)) (omega arith) (leb-true (btin_len n (suc d)) (length b) p.0.0)

-- a write that misses a node leaves it
pub node_left : (img : List ℕ) (ws : List Write) (d : ℕ) (t : Tree d) → d ≤ 3 → IsSound d (capacity_of d) t → AllMiss ws (place_of d t) node_size → StandsNode img d t → StandsNode (image img ws) d t
node_left img ws zero t low sound miss s =
    let n : ℕ = length t.records in
    record {
      reads = ap (λ (b : List ℕ). btlf_at b t.place n) (range-image_missed img ws t.place (btlf_len n) (miss_less ws t.place node_size (btlf_len n) (leaf_low n sound) miss) (leaf_inside img t.place n (map record_of t.records) s.reads)) ∙ s.reads;
      ends = s.ends;
    }
node_left img ws (suc d) t low sound miss s =
    let n : ℕ = length t.records in
    record {
      reads = ap (λ (b : List ℕ). btin_at b t.place n (suc d)) (range-image_missed img ws t.place (btin_len n (suc d)) (miss_less ws t.place node_size (btin_len n (suc d)) (inner_low d n low sound.few) miss) (inner_inside img t.place n d (node_of d t) s.reads)) ∙ s.reads;
      ends = s.ends;
    }

pub tree_left : (v : Index) (img : List ℕ) (ws : List Write) → IsIndex v → StandsTree v img → ((p : Part) → IsClean p v → StandsNode img p.depth p.tree → AllMiss ws (place_of p.depth p.tree) node_size) → StandsTree v (image img ws)
tree_left v img ws i stands miss p clean = go (stands p clean) (part_sound p v.depth v.root i.shallow i.sound clean)
  where
    go : PartStands img v p → PartIs p → PartStands (image img ws) v p
    go (inl b) is = inl b
    go (inr s) is = inr (node_left img ws p.depth p.tree is.low is.sound (miss p clean s) s)

-- ---- A node among the ranges

own_there : (place : ℕ) → place + node_size < 2 ^ 64 → Among (node_range place) (own_range place)
own_there place h = subst (λ (us : List Used). Among (node_range place) us) (sym (cond-false (eqb place undefined) [] (node_range place ∷ []) (placed_differs place h))) (inl refl)

around_has : (bytes : ℕ) (u : Used) (rs : List Record) (cs : List (List Used)) → Some_of (λ (l : List Used). Among u l) cs → length cs ≡ length rs + 1 → Among u (around bytes rs cs)
around_has bytes u rs [] h n = absurd h
around_has bytes u [] (c ∷ []) (inl h) n = h
around_has bytes u [] (c ∷ []) (inr h) n = absurd h
around_has bytes u [] (c ∷ d ∷ cs) h n = absurd (omega (arith, n))
around_has bytes u (r ∷ rs) (c ∷ cs) (inl h) n = among_left u c (chunk_of bytes r ++ around bytes rs cs) h
around_has bytes u (r ∷ rs) (c ∷ cs) (inr h) n = among_right u c (chunk_of bytes r ++ around bytes rs cs) (among_right u (chunk_of bytes r) (around bytes rs cs) (around_has bytes u rs cs h (omega (arith, n))))

some_range : (bytes : ℕ) (p : Part) (d : ℕ) (cs : List (Tree d)) → ((c : Tree d) → IsSound d (capacity_of d) c → place_of p.depth p.tree + node_size < 2 ^ 64 → IsCleanPart p d c → Among (node_range (place_of p.depth p.tree)) (ranges_under bytes d c))
    → All (IsSound d (capacity_of d)) cs → place_of p.depth p.tree + node_size < 2 ^ 64 → Some_of (IsCleanPart p d) cs → Some_of (λ (l : List Used). Among (node_range (place_of p.depth p.tree)) l) (map (ranges_under bytes d) cs)
some_range bytes p d [] f s low h = h
some_range bytes p d (c ∷ cs) f s low (inl h) = inl (f c (All-head (IsSound d (capacity_of d)) c cs s) low h)
some_range bytes p d (c ∷ cs) f s low (inr h) = inr (some_range bytes p d cs f (All-tail (IsSound d (capacity_of d)) c cs s) low h)

-- with all its nodes sound: a clean node's range
pub part_range : (bytes : ℕ) (p : Part) (d : ℕ) (t : Tree d) → IsSound d (capacity_of d) t → place_of p.depth p.tree + node_size < 2 ^ 64 → IsCleanPart p d t → Among (node_range (place_of p.depth p.tree)) (ranges_under bytes d t)
part_range bytes p zero t s low h =
    let e : place_of p.depth p.tree ≡ t.place = ap (λ (q : Part). place_of q.depth q.tree) h.1 in
    subst (λ (n : ℕ). Among (node_range n) (ranges_under bytes zero t)) (sym e) (among_left (node_range t.place) (own_range t.place) (chunks_of bytes t.records) (own_there t.place (subst (λ (n : ℕ). n + node_size < 2 ^ 64) e low)))
part_range bytes p (suc d) t s low (inl h) =
    let e : place_of p.depth p.tree ≡ t.place = ap (λ (q : Part). place_of q.depth q.tree) h.1 in
    subst (λ (n : ℕ). Among (node_range n) (ranges_under bytes (suc d) t)) (sym e) (among_left (node_range t.place) (own_range t.place) (around bytes t.records (map (ranges_under bytes d) t.children)) (own_there t.place (subst (λ (n : ℕ). n + node_size < 2 ^ 64) e low)))
part_range bytes p (suc d) t s low (inr h) =
    let u : Used = node_range (place_of p.depth p.tree) in
    among_right u (own_range t.place) (around bytes t.records (map (ranges_under bytes d) t.children))
    (around_has bytes u t.records (map (ranges_under bytes d) t.children) (some_range bytes p d t.children (λ c. part_range bytes p d c) s.each low h) (length-map t.children (ranges_under bytes d) ∙ s.children))
