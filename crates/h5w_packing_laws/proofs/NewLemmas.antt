-- A new index: once all its blocks are written it stands, on each image on which they do.
use Rattle.std.proofs.Common.{◌≡◌, ◌⊎◌, ℕ, zero, suc, ◌<◌, Bool, true, false, List, [], ◌∷◌, ◌++◌, length, refl, sym, ◌∙◌, ap, subst, inl, inr, arith}
use Rattle.std.specs.List.{All}
use Rattle.std.proofs.lemmas.Bool.{cases_Bool, cond-false, cond-true}
use Rattle.std.proofs.lemmas.List.{length-map}
use Rattle.std.proofs.lemmas.List.Elements.{All-head, All-tail}
use Rattle.std.proofs.lemmas.List.Sorted.{length_permutation}
use Rattle.h5w_model.specs.Numbers.{undefined}
use Rattle.h5w_model.specs.Images.{Holds, image}
use Rattle.h5w_model.specs.Trees.{bthd_bytes}
use Rattle.h5w_model.specs.Datasets.{Described}
use Rattle.h5w_model.specs.Findings.{Used, chunk_bytes}
use Rattle.h5w_model.specs.declared.cell.Key.{Key}
use Rattle.h5w_model.specs.declared.cell.IndexKind.TheVariants.{Array}
use Rattle.h5w_model.specs.declared.piece.Write.{Write}
use Rattle.h5w_model.proofs.ImageLemmas.{image-append}
use Rattle.h5w_step_laws.specs.Ranges.{AllSome, Disjoint}
use Rattle.h5w_space.specs.Space.{Space}
use Rattle.h5w_cache.specs.Plans.{numbers}
use Rattle.h5w_cache.specs.Stores.{Store, is_changed, times}
use Rattle.h5w_cache.specs.StoreLaws.{Standing}
use Rattle.h5w_cache.specs.declared.moves.Move.{Move}
use Rattle.h5w_cache.specs.Plans as block_plans
use Rattle.h5w_step_laws.specs.Moments.{Moment}
use Rattle.h5w_flush_laws.specs.Parts.{block_writes}
use Rattle.h5w_flush_laws.specs.Spaces.{AllLive}
use Rattle.h5w_array_laws.specs.Parts.{index_block, number_of}
use Rattle.h5w_array_laws.specs.ArrayStores as arrays
use Rattle.h5w_array_laws.specs.ArrayStores.{IsArray, IsCreated}
use Rattle.h5w_array_laws.specs.ArrayImages.{StandsArray}
use Rattle.h5w_array_laws.specs.ArrayPlans.{IsArrayPlan}
use Rattle.h5w_array_laws.proofs.CreatedLemmas.{created_stands, created_starts}
use Rattle.h5w_array_laws.proofs.PlannedLemmas.{is_marked}
use Rattle.h5w_first_flush_laws.specs.Starting.{IsBlank}
use Rattle.h5w_first_flush_laws.specs.StartFlushes.{HasStartingPart}
use Rattle.h5w_first_flush_laws.proofs.ArrayFirstLemmas.{all_written}
use Rattle.h5w_first_flush_laws.proofs.StartLemmas.{blank_standing, created_blank}
use Rattle.h5w_first_flush_laws.proofs.StartPieceLemmas.{holder_changed, start_part}
use Rattle.h5w_bt_index.specs.Marks.{Part, clean_of}
use Rattle.h5w_bt_nodes.specs.Nodes.{Tree as Node, address_in}
use Rattle.h5w_bt_nodes.specs.Blocks.{placed, written}
use Rattle.h5w_bt_index.specs.Index.{Index, IsFilled, IsThere, no_tree, records}
use Rattle.h5w_bt_index.specs.Plans.{IsTreePlan, header_of, news, planned}
use Rattle.h5w_bt_index.proofs.Shares.{filled_kept}
use Rattle.h5w_tree_index_laws.specs.TreeImages.{StandsTree, blank}
use Rattle.h5w_tree_index_laws.specs.TreeFlushes.{TreeStands}
use Rattle.h5w_tree_index_laws.proofs.TreeRestLemmas.{tree_stands}
use Rattle.h5w_tree_index_laws.proofs.TreeStandLemmas.{own_part, part_of}
use Rattle.h5w_index.specs.Views.{IndexView, an_array, a_tree, HasSlot, IsClean, IsSound, IsSoundTree, StandsOn, fixed_of, kind_of}
use Rattle.h5w_index.specs.Steps.{IsPlan}
use Rattle.h5w_index.specs.Flushes.{AreCopies, IsWhole}
use Rattle.h5w_index.proofs.FlushLemmas.{plan_tells}
use Rattle.h5w_creation.specs.Made.{IsNewIndex, index_writes}
use Rattle.h5w_tree_starting_laws.specs.TreeStarting.{IsUnwritten}
use Rattle.h5w_tree_starting_laws.proofs.TreeStartCallLemmas.{index_of_part}
use Rattle.h5w_packing_laws.specs.Growing.{own_blocks}
use Rattle.h5w_packing_laws.proofs.AgainLemmas.{AllFilled, blocks_again, writes_again}
use Rattle.h5w_packing_laws.proofs.GrownLemmas.{GrownTold}
use Rattle.h5w_packing_laws.proofs.RangeLemmas.{part_left}
use Rattle.h5w_packing_laws.proofs.TreePlanLemmas.{new_tree_stands, plan_names, plan_stands}

-- ---- The writes in place

fixed_some : (w : IndexView) → AllSome (fixed_of w)
fixed_some (an_array v) u (inl e) = subst (λ (x : Used). 0 < x.len) e (omega arith)
fixed_some (an_array v) u (inr (inl e)) = subst (λ (x : Used). 0 < x.len) e (omega arith)
fixed_some (an_array v) u (inr (inr a)) = absurd a
fixed_some (a_tree place v) u (inl e) = subst (λ (x : Used). 0 < x.len) e (omega arith)
fixed_some (a_tree place v) u (inr a) = absurd a

all_filled : (us : List Used) (ws : List Write) → AllSome us → All (IsWhole us) ws → AllFilled ws
all_filled us [] some all = tt
all_filled us (w ∷ ws) some all =
    let whole = All-head (IsWhole us) w ws all in
    (omega (arith, whole.long, some whole.used whole.among), all_filled us ws some (All-tail (IsWhole us) w ws all))

-- where copies and writes in place stand, all of them leave an image as it is
same_image : (v w : IndexView) (s t : Space) (ms : List Move) (copies : List (ℕ × List ℕ)) (fixed : List Write) (img : List ℕ) → IsSound v → IsPlan v s ms (block_writes copies) fixed w t → Holds img copies → Holds img (own_blocks fixed)
    → image img (block_writes copies ++ fixed) ≡ img
same_image v w s t ms copies fixed img sound plan holds tops =
    let told = plan_tells v s ms (block_writes copies) fixed w t sound plan in
    image-append img (block_writes copies) fixed ∙ ap (λ (x : List ℕ). image x fixed) (blocks_again img copies holds) ∙ writes_again img fixed (all_filled (fixed_of w) fixed (fixed_some w) told.whole) tops

-- ---- An array

array_changed : (u v : Store) (cs : List (Key × ℕ)) → GrownTold (an_array u) cs (an_array v) → 0 < length cs → is_changed v (number_of index_block) ≡ true
array_changed u v [] told some = absurd (omega (arith, some))
array_changed u v (c ∷ cs) told some =
    let a : IsArray v = told.like.sound in
    let slot : HasSlot (an_array v) c.0 = All-head (λ (x : Key × ℕ). HasSlot (an_array v) x.0) c cs told.slots in
    holder_changed v (c.0).i a slot.0 slot.1

-- some file of a dataset, of which only the size of a chunk is told
abbrev some_file : Described → Moment
some_file d = record { super = record { version = 3; flags = 0; end = 0; root = 0 }; place = 0; dataset = d; root = []; header = []; fixed = []; behind = []; table = []; values = [] }

array_stands : (d : Described) (at block : ℕ) (u v w : Store) (cs : List (Key × ℕ)) (s t : Space) (ms : List Move) (copies : List (ℕ × List ℕ)) (fixed : List Write) (img : List ℕ) → at < undefined → block < undefined
    → IsCreated at block u → AllLive s (arrays.fixed_of u) → Disjoint (arrays.fixed_of u) → GrownTold (an_array u) cs (an_array v) → 0 < length cs → IsArrayPlan v s ms (block_writes copies) fixed w t
    → image img (block_writes copies ++ fixed) ≡ img → StandsArray w img
array_stands d at block u v w cs s t ms copies fixed img low lower created live apart told some plan same =
    let blank : IsBlank u = created_blank at block u created low lower in
    let array : IsArray v = told.like.sound in
    let standing : Standing v s = told.like.stays s (blank_standing s u (created_starts at block u created low lower).array blank apart live) in
    let bytes : ℕ = chunk_bytes d in
    let own : List Used = arrays.behind_of bytes v in
    let part : HasStartingPart (some_file d) u v s ms w t own (block_writes copies) fixed =
    start_part (some_file d) u v w s t ms own (block_writes copies) fixed array standing told.like.blocks (array_changed u v cs told some) (part_left own (arrays.behind_of bytes u)) plan in
    let all : StandsArray w (image img (block_writes part.copies ++ fixed)) = all_written (some_file d) s t u v w ms own part.copies fixed blank part.part img in
    subst (λ (y : List ℕ). StandsArray w y) (ap (λ (ws : List Write). image img (ws ++ fixed)) (sym part.writes) ∙ same) all

-- ---- A tree

never_there : (v : Index) (key : Key) → part_of v.depth v.root ≡ blank → IsThere v key → ⊥
unfolding index_of_part
never_there v key e there = there (ap (λ (p : Part). address_in key (records (index_of_part p))) e)

pub tree_unwritten : (at q : ℕ) (v : Index) (cs : List (Key × ℕ)) → GrownTold (a_tree at no_tree) cs (a_tree q v) → IsUnwritten v
tree_unwritten at q v cs told = record { places = told.like.blocks; clean = λ p clean. (told.like.marks p clean).1 }

tree_changed : (at q : ℕ) (v : Index) (cs : List (Key × ℕ)) → GrownTold (a_tree at no_tree) cs (a_tree q v) → 0 < length cs → clean_of v.depth v.root ≡ false
tree_changed at q v [] told some = absurd (omega (arith, some))
tree_changed at q v (c ∷ cs) told some = go (cases_Bool (clean_of v.depth v.root))
  where
    slot : IsThere v c.0
    slot = All-head (λ (x : Key × ℕ). HasSlot (a_tree q v) x.0) c cs told.slots

    go : (clean_of v.depth v.root ≡ true) ⊎ (clean_of v.depth v.root ≡ false) → clean_of v.depth v.root ≡ false
    go (inl e) = absurd (never_there v c.0 ((tree_unwritten at q v (c ∷ cs) told).clean (part_of v.depth v.root) (own_part v.depth v.root e)) slot)
    go (inr e) = e

tree_stands_now : (at q : ℕ) (v w : Index) (cs : List (Key × ℕ)) (s t : Space) (ms : List Move) (copies : List (ℕ × List ℕ)) (fixed : List Write) (img : List ℕ) → GrownTold (a_tree at no_tree) cs (a_tree q v) → 0 < length cs
    → IsTreePlan q v s ms (block_writes copies) fixed w t → copies ≡ written v.depth (news ms) v.root → Holds img copies → Holds img (own_blocks fixed) → TreeStands q w img
tree_stands_now at q v w cs s t ms copies fixed img told some plan are holds tops =
    let sound : IsSoundTree q v = told.like.sound in
    let unwritten : IsUnwritten v = tree_unwritten at q v cs told in
    let changed : clean_of v.depth v.root ≡ false = tree_changed at q v cs told some in
    let filled : IsFilled v = filled_kept no_tree v told.like.shares (omega arith) in
    let nodes : Holds img (written v.depth (news ms) v.root) = subst (Holds img) are holds in
    let header : Holds img ((q, bthd_bytes (header_of w)) ∷ []) = subst (λ (ws : List Write). Holds img (own_blocks ws)) (plan.in_place ∙ cond-false (clean_of v.depth v.root) _ _ changed) tops in
    record {
      nodes = subst (λ (x : Index). StandsTree x img) (sym plan.index)
          (tree_stands img (planned (news ms) v) (plan_stands q v w s t ms (block_writes copies) fixed sound.index unwritten plan filled changed img nodes));
      header = λ clean. plan_names q v w s t ms (block_writes copies) fixed sound.index unwritten plan filled changed img nodes header.0;
    }

-- ---- Of either kind

same_store : (u v : Store) → ◌≡◌ {A = IndexView} (an_array u) (an_array v) → u ≡ v
same_store u v e = cc

pub same_place : (p q : ℕ) (u v : Index) → ◌≡◌ {A = IndexView} (a_tree p u) (a_tree q v) → p ≡ q
same_place p q u v e = cc

same_index : (p q : ℕ) (u v : Index) → ◌≡◌ {A = IndexView} (a_tree p u) (a_tree q v) → u ≡ v
same_index p q u v e = cc

pub new_array : (at block : ℕ) (u : Store) → IsNewIndex Array at block (an_array u) → IsCreated at block u
new_array at block u new = subst (IsCreated at block) (sym (same_store u new.0 new.1)) new.2

-- once chunks were named and planned
pub new_stands : (d : Described) (at block : ℕ) (u v w : IndexView) (cs : List (Key × ℕ)) (s t : Space) (ms : List Move) (copies : List (ℕ × List ℕ)) (fixed : List Write) (img : List ℕ) → at < undefined → block < undefined
    → IsNewIndex (kind_of u) at block u → AllLive s (fixed_of u) → Disjoint (fixed_of u) → GrownTold u cs v → 0 < length cs → IsPlan v s ms (block_writes copies) fixed w t → AreCopies v ms copies → Holds img copies
    → Holds img (own_blocks fixed) → StandsOn w img
new_stands d at block (an_array u) (an_array v) (an_array w) cs s t ms copies fixed img low lower new live apart told some plan are holds tops =
    array_stands d at block u v w cs s t ms copies fixed img low lower (new_array at block u new) live apart told some plan (same_image (an_array v) (an_array w) s t ms copies fixed img told.like.sound plan holds tops)
new_stands d at block (a_tree p u) (a_tree q v) (a_tree r w) cs s t ms copies fixed img low lower new live apart told some plan are holds tops =
    let from : GrownTold (a_tree at no_tree) cs (a_tree q v) = subst (λ (x : IndexView). GrownTold x cs (a_tree q v)) new told in
    subst (λ n. TreeStands n w img) (sym plan.0) (tree_stands_now at q v w cs s t ms copies fixed img from some plan.1 are holds tops)
new_stands d at block (an_array u) (a_tree q v) w cs s t ms copies fixed img low lower new live apart told some plan are holds tops = absurd told.like.blocks
new_stands d at block (a_tree p u) (an_array v) w cs s t ms copies fixed img low lower new live apart told some plan are holds tops = absurd told.like.blocks
new_stands d at block (an_array u) (an_array v) (a_tree r w) cs s t ms copies fixed img low lower new live apart told some plan are holds tops = absurd plan
new_stands d at block (a_tree p u) (a_tree q v) (an_array w) cs s t ms copies fixed img low lower new live apart told some plan are holds tops = absurd plan

-- without a chunk
pub empty_stands : (at block : ℕ) (u : IndexView) (img : List ℕ) → at < undefined → block < undefined → IsNewIndex (kind_of u) at block u → Holds img (own_blocks (index_writes (kind_of u) at block)) → StandsOn u img
empty_stands at block (an_array u) img low lower new holds = created_stands at block u img (new_array at block u new) (omega (arith, low)) (omega (arith, lower)) holds.1.0 holds.0
empty_stands at block (a_tree p u) img low lower new holds = subst (λ (x : IndexView). StandsOn x img) (sym new) (new_tree_stands img at holds.0)

-- ---- A plan of what did not change

placed_same : (d : ℕ) (ps : List ℕ) (t : Node d) → clean_of d t ≡ true → placed d ps t ≡ t
placed_same zero ps t e = cond-true t.clean _ _ e
placed_same (suc d) ps t e = cond-true t.clean _ _ e

no_moves : (ms : List Move) → length ms ≡ 0 → ms ≡ []
no_moves [] e = refl
no_moves (m ∷ ms) e = absurd (omega (arith, e))

array_same : (v w : Store) (s t : Space) (ms : List Move) (cs fs : List Write) → v.changed ≡ [] → block_plans.IsPlan v s ms cs fs w t → w ≡ v
array_same v w s t ms cs fs clean p =
    let long : length (numbers ms) ≡ length v.changed = length_permutation v.changed (numbers ms) p.order.all in
    let none : ms ≡ [] = no_moves ms (sym (length-map ms (λ (m : Move). m.number)) ∙ long ∙ ap length clean) in
    p.store ∙ ap (λ (l : List Move). block_plans.settled l v) none ∙ ap (λ (c : List ℕ). let x : Store = record v { changed = c } in x) (sym clean)

tree_same : (p : ℕ) (v w : Index) (s t : Space) (ms : List Move) (cs fs : List Write) → clean_of v.depth v.root ≡ true → IsTreePlan p v s ms cs fs w t → w ≡ v
tree_same p v w s t ms cs fs clean plan = plan.index ∙ ap (λ (r : Node v.depth). let x : Index = record v { root = r } in x) (placed_same v.depth (news ms) v.root clean)

-- it leaves the index as it is
pub plan_same : (v w : IndexView) (s t : Space) (ms : List Move) (cs fs : List Write) → IsClean v → IsPlan v s ms cs fs w t → w ≡ v
plan_same (an_array v) (an_array w) s t ms cs fs clean plan = let p : IsArrayPlan v s ms cs fs w t = plan in ap an_array (array_same v w s t ms cs fs clean p.plan)
plan_same (a_tree p v) (a_tree q w) s t ms cs fs clean plan = ap (λ n. a_tree n w) plan.0 ∙ ap (λ (x : Index). a_tree p x) (tree_same p v w s t ms cs fs clean plan.1)
plan_same (an_array v) (a_tree q w) s t ms cs fs clean plan = absurd plan
plan_same (a_tree p v) (an_array w) s t ms cs fs clean plan = absurd plan

-- Some chunk was named exactly where the index changed.
pub named_changes : (at block : ℕ) (u v : IndexView) (cs : List (Key × ℕ)) → IsNewIndex (kind_of u) at block u → GrownTold u cs v → 0 < length cs → IsClean v → ⊥
named_changes at block (an_array u) (an_array v) cs new told some clean =
    let marked = is_marked v 845 (array_changed u v cs told some) in
    let none : times 845 v.changed ≡ 0 = ap (times 845) clean in
    omega (arith, marked, none)
named_changes at block (a_tree p u) (a_tree q v) cs new told some clean =
    let from : GrownTold (a_tree at no_tree) cs (a_tree q v) = subst (λ (x : IndexView). GrownTold x cs (a_tree q v)) new told in
    never (clean_of v.depth v.root) (tree_changed at q v cs from some) clean
  where
    never : (b : Bool) → b ≡ false → b ≡ true → ⊥
    never b e f = let clash : false ≡ true = sym e ∙ f in cc
named_changes at block (an_array u) (a_tree q v) cs new told some clean = absurd told.like.blocks
named_changes at block (a_tree p u) (an_array v) cs new told some clean = absurd told.like.blocks

pub new_clean : (at block : ℕ) (u : IndexView) → IsNewIndex (kind_of u) at block u → IsClean u
new_clean at block (an_array u) new = (new_array at block u new).changed
new_clean at block (a_tree p u) new = ap (λ (x : Index). clean_of x.depth x.root) (same_index p at u no_tree new)
