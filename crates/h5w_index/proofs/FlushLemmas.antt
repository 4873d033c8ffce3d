-- A flush whose index is of either kind.
use Rattle.std.proofs.Common.{◌≡◌, ℕ, Bool, true, false, List, [], ◌∷◌, ◌++◌, length, map, refl, sym, ap, ◌∙◌, subst, inl, inr, sum_by, arith, Option, Some, None, IsSome, if◌then◌else◌}
use Rattle.std.specs.Option.{IfSome}
use Rattle.std.specs.List.{All}
use Rattle.std.proofs.lemmas.List.Elements.{All-cons, All-nil}
use Rattle.h5w_model.specs.Images.{image}
use Rattle.h5w_model.specs.Findings.{Used, chunk_bytes}
use Rattle.h5w_model.specs.declared.cell.Key.{Key}
use Rattle.h5w_model.specs.declared.piece.Write.{Write}
use Rattle.h5w_step_laws.specs.Ranges.{AllEndBy, block_at}
use Rattle.h5w_step_laws.proofs.RangeLemmas.{among_right}
use Rattle.h5w_space.specs.Space.{Apart, IsLive, Space}
use Rattle.h5w_space.specs.declared.Extent.{Extent}
use Rattle.h5w_cache.specs.StoreLaws.{Standing, range_of}
use Rattle.h5w_cache.specs.Stores.{Store}
use Rattle.h5w_cache.specs.Blocks.{BlockView}
use Rattle.h5w_cache.specs.Plans.{IsPlan, bytes_of}
use Rattle.h5w_cache.proofs.FinishLemmas.{retired_end}
use Rattle.h5w_cache.specs.declared.moves.Move.{Move}
use Rattle.h5w_step_laws.specs.Moments.{Moment}
use Rattle.h5w_array_laws.proofs.WriteLemmas.{plan_copies as array_copies}
use Rattle.h5w_array_laws.specs.ArrayPlans.{IsArrayPlan}
use Rattle.h5w_array_laws.specs.ArrayStores as arrays
use Rattle.h5w_array_laws.specs.ArrayStores.{IsArray, IsBlock, block_at_part, bytes_at_part, header_place, place_at_part}
use Rattle.h5w_array_laws.specs.ArrayImages.{AreInPlace}
use Rattle.h5w_array_laws.specs.Parts.{Part, IsPart, header, index_block, length_of, stays_in_place}
use Rattle.h5w_model.specs.Arrays.{eahd_len, eaib_len}
use Rattle.h5w_model.specs.Tables.{in_leaf}
use Rattle.h5w_model.specs.Trees.{bthd_bytes}
use Rattle.h5w_array_flush_laws.specs.ArrayFlushes.{ArrayRests, IsArrayPart}
use Rattle.h5w_array_flush_laws.proofs.ArrayLaws.{array_is_flush}
use Rattle.h5w_array_flush_laws.proofs.ArrayRestLemmas.{array_rests_then, standing_freed}
use Rattle.h5w_flush_laws.specs.Spaces.{Taken, extent_of}
use Rattle.h5w_flush_laws.specs.Knowledge.{Knows}
use Rattle.h5w_flush_laws.specs.Parts.{IsFlush, block_writes, flushed_to, pieces_of}
use Rattle.h5w_flush_laws.specs.Rows.{ArePlaced}
use Rattle.h5w_bt.specs.declared.records.Record.{Record}
use Rattle.h5w_bt.specs.Parts.{record_of}
use Rattle.h5w_flush_laws.specs.Chunks.{chunks_for}
use Rattle.h5w_bt_index.specs.Marks.{clean_of}
use Rattle.h5w_bt_index.specs.Index.{Index, IsIndex}
use Rattle.h5w_bt_index.proofs.Placed.{placed_clean, planned_index}
use Rattle.h5w_bt_nodes.specs.Blocks.{written}
use Rattle.h5w_bt_index.specs.Plans.{IsTreePlan, header_of, header_writes, news}
use Rattle.h5w_tree_index_laws.specs.TreeFlushes.{IsTreePart, TreeRests, header_range}
use Rattle.h5w_tree_index_laws.proofs.TreeHeaderLemmas.{header_long}
use Rattle.h5w_tree_index_laws.proofs.TreePlanLemmas.{moves_taken}
use Rattle.h5w_tree_index_laws.proofs.TreeLaws.{copies_are, tree_is_flush}
use Rattle.h5w_tree_index_laws.proofs.TreeRestLemmas.{tree_rests_then}
use Rattle.h5w_index.proofs.ArrayBoundLemmas.{moves_raised}
use Rattle.h5w_index.proofs.RaisedLemmas.{retired_raised}
use Rattle.h5w_index.proofs.TreeBoundLemmas.{nodes_raised}
use Rattle.h5w_index.specs.Views.{an_array, a_tree, IsSoundTree, address_in}
use Rattle.h5w_index.specs.Flushes.{IndexIsFlush, IndexRestsThen, IsIndexPart, IsWhole, PlanTells, PlanTold, RestsClean, RestsForgotten, RestsFreed, index_parts}

-- ---- A plan

block_long : (o : Option BlockView) (k : Part) → IsSome o → IfSome o (IsBlock k) → length (bytes_of o) ≡ length_of k
block_long None k some is = absurd (let clash : false ≡ true = some in cc)
block_long (Some b) k some is = is.len

-- index block or header
top_long : (v : Store) (k : Part) → IsArray v → IsPart k → stays_in_place k ≡ true → length (bytes_at_part v k) ≡ length_of k
top_long v k a part stays = block_long (block_at_part v k) k (a.in_place k part stays).0 (a.each k part)

abbrev first_place : List Used → ℕ
first_place [] = 0
first_place (u ∷ us) = u.place

array_whole : (v : Store) (ws : List Write) → IsArray v → AreInPlace v ws → All (IsWhole (arrays.fixed_of v)) ws
array_whole v ws a (inl none) = subst (All (IsWhole (arrays.fixed_of v))) (sym none) (All-nil (IsWhole (arrays.fixed_of v)))
array_whole v ws a (inr two) =
    let P : Write → Type 0 = IsWhole (arrays.fixed_of v) in
    let i : Write = record { at = place_at_part v index_block; piece = bytes_at_part v index_block } in
    let h : Write = record { at = header_place v; piece = bytes_at_part v header } in
    subst (All P) (sym two)
    (All-cons P i (h ∷ []) (record { used = block_at (place_at_part v index_block) eaib_len; among = inr (inl refl); at_place = refl; long = top_long v index_block a tt refl })
    (All-cons P h [] (record { used = block_at (header_place v) eahd_len; among = inl refl; at_place = refl; long = top_long v header a tt refl }) (All-nil P)))

array_limit : (v : Store) (s : Space) (ms : List Move) (cs fs : List Write) (w : Store) (t : Space) → IsArray v → IsPlan v s ms cs fs w t → t.limit ≡ s.limit
array_limit v s ms cs fs w t is p =
    (retired_raised p.roomy ms t p.retired).limit ∙ ap (λ (x : Space). x.limit) p.taken.roomy ∙ (moves_raised v is s ms p.taken.taken p.taken.moves).limit

array_told : (v : Store) (s : Space) (ms : List Move) (cs fs : List Write) (w : Store) (t : Space) → IsArray v → IsArrayPlan v s ms cs fs w t → PlanTold (an_array v) s ms cs fs (an_array w) t
array_told v s ms cs fs w t is p =
    let c = array_copies v s ms cs fs w t is p.plan in
    record {
      sound = p.array;
      clean = p.clean;
      kind = refl;
      place = ap first_place p.stay;
      stay = p.stay;
      map = λ key. p.map key.i;
      rises = p.end;
      limit = array_limit v s ms cs fs w t is p.plan;
      copied = record { placed = c.are.placed; writes = c.are.writes; are = c.are.ranges };
      ends = subst (λ (us : List Used). AllEndBy t.end us) c.are.ranges p.ends;
      whole = array_whole w fs p.array p.fixed;
    }

header_whole : (p : ℕ) (v w : Index) → All (IsWhole (header_range p ∷ [])) (header_writes p v w)
header_whole p v w = go (clean_of v.depth v.root)
  where
    go : (b : Bool) → All (IsWhole (header_range p ∷ [])) (let ws : List Write = if b then [] else record { at = p; piece = bthd_bytes (header_of w) } ∷ [] in ws)
    go true = All-nil (IsWhole (header_range p ∷ []))
    go false = All-cons (IsWhole (header_range p ∷ [])) _ [] (record { used = header_range p; among = inl refl; at_place = refl; long = header_long (header_of w) }) (All-nil (IsWhole (header_range p ∷ [])))

tree_limit : (p : ℕ) (v : Index) (s : Space) (ms : List Move) (cs fs : List Write) (w : Index) (t : Space) → IsTreePlan p v s ms cs fs w t → t.limit ≡ s.limit
tree_limit p v s ms cs fs w t plan =
    (retired_raised plan.roomy ms t plan.retired).limit ∙ ap (λ (x : Space). x.limit) plan.taken.roomy ∙ (nodes_raised s ms plan.taken.taken plan.taken.moves).limit

tree_told : (p : ℕ) (v : Index) (s : Space) (ms : List Move) (cs fs : List Write) (w : Index) (t : Space) → IsSoundTree p v → IsTreePlan p v s ms cs fs w t → PlanTold (a_tree p v) s ms cs fs (a_tree p w) t
tree_told p v s ms cs fs w t is plan =
    let taken = moves_taken s ms plan.taken.taken plan.taken.moves in
    let ranges = copies_are v ms (written v.depth (news ms) v.root) is.index plan.taken.old refl in
    let end : t.end ≡ plan.taken.taken.end = retired_end plan.roomy ms t plan.retired ∙ ap (λ (x : Space). x.end) plan.taken.roomy in
    record {
      sound = record {
        index = subst IsIndex (sym plan.index) (planned_index (news ms) v is.index);
        defined = is.defined;
      };
      clean = subst (λ (u : Index). clean_of u.depth u.root ≡ true) (sym plan.index) (placed_clean v.depth (news ms) v.root);
      kind = refl;
      place = refl;
      stay = refl;
      map = λ key. ap (λ (rs : List Record). in_leaf key (map record_of rs)) plan.records;
      rises = omega (arith, taken.rises, end);
      limit = tree_limit p v s ms cs fs w t plan;
      copied = record { placed = written v.depth (news ms) v.root; writes = plan.copies; are = refl };
      ends = subst (λ (us : List Used). AllEndBy t.end us) (sym ranges) (λ u among. let live = taken.live u among in omega (arith, live.within, end));
      whole = subst (All (IsWhole (header_range p ∷ []))) (sym plan.in_place) (header_whole p v w);
    }

pub plan_tells : PlanTells
plan_tells (an_array v) s ms cs fs (an_array w) t is x = array_told v s ms cs fs w t is x
plan_tells (a_tree p v) s ms cs fs (a_tree q w) t is x = subst (λ r. PlanTold (a_tree p v) s ms cs fs (a_tree r w) t) (sym x.0) (tree_told p v s ms cs fs w t is x.1)
plan_tells (an_array v) s ms cs fs (a_tree q w) t is x = absurd x
plan_tells (a_tree p v) s ms cs fs (an_array w) t is x = absurd x

-- ---- The part of each kind

array_part : (img : List ℕ) (m : Moment) (b t : Space) (v w : Store) (ms : List Move) (chunks : List Used) (copies : List (ℕ × List ℕ)) (fixed : List Write)
    → IsIndexPart img m (an_array v) b ms (an_array w) t chunks copies fixed → IsArrayPart img m v b ms w t chunks copies fixed
array_part img m b t v w ms chunks copies fixed x =
    let p : IsArrayPlan v b ms (block_writes copies) fixed w t = x.plan in
    record {
      kind = x.kind;
      at = x.at_place;
      stay = x.stay;
      stands = x.stands;
      behind = x.behind;
      plan = record { before = x.sound; after = p.array; standing = x.stays; plan = p.plan; fixed = p.fixed; keeps = p.keeps };
      copied = x.copied;
    }

tree_part : (img name : List ℕ) (m : Moment) (old : Key → ℕ) (s b t : Space) (p q : ℕ) (v w : Index) (ms : List Move) (chunks : List Used) (copies : List (ℕ × List ℕ)) (fixed : List Write)
    → Knows img name m old s → Taken s chunks b → IsIndexPart img m (a_tree p v) b ms (a_tree q w) t chunks copies fixed → IsTreePart img m p v b ms w t chunks copies fixed
tree_part img name m old s b t p q v w ms chunks copies fixed k first x =
    let sound : IsSoundTree p v = x.sound in
    record {
      kind = x.kind;
      at_place = x.at_place;
      defined = sound.defined;
      stay = x.stay;
      index = sound.index;
      stands = x.stands;
      live = λ u a. first.stays_live (extent_of u) (k.live u (inr (among_right u m.root (m.header ++ (m.fixed ++ m.behind)) (among_right u m.header (m.fixed ++ m.behind) a))));
      behind = record { among = x.behind.among; counts = x.behind.counts };
      plan = x.plan.1;
      copied = x.copied;
    }

-- ---- A flush

pub index_is_flush : IndexIsFlush
index_is_flush img name m old s b t (an_array v) (an_array w) ms rows more writes places copies supers fixed k first rises small few count placed ended x =
    array_is_flush img name m old s b t v w ms rows more writes places copies supers fixed k first rises small few count placed ended (array_part img m b t v w ms (chunks_for m old places) copies fixed x)
index_is_flush img name m old s b t (a_tree p v) (a_tree q w) ms rows more writes places copies supers fixed k first rises small few count placed ended x =
    let e : q ≡ p = x.plan.0 in
    let chunks : List Used = chunks_for m old places in
    subst (λ r. IsFlush img m old s (index_parts (chunk_bytes m.dataset) (a_tree r w) rows more writes chunks copies supers t.end fixed) t) (sym e)
    (tree_is_flush img name m old s b t p v w ms rows more writes places copies supers fixed k first rises small few count
    (subst (λ r. ArePlaced img m old (index_parts (chunk_bytes m.dataset) (a_tree r w) rows more writes chunks copies supers t.end fixed) places) e placed)
    ended (tree_part img name m old s b t p q v w ms chunks copies fixed k first x))
index_is_flush img name m old s b t (an_array v) (a_tree q w) ms rows more writes places copies supers fixed k first rises small few count placed ended x = absurd x.plan
index_is_flush img name m old s b t (a_tree p v) (an_array w) ms rows more writes places copies supers fixed k first rises small few count placed ended x = absurd x.plan

-- ---- After it

array_rests : (img : List ℕ) (m : Moment) (old : Key → ℕ) (s : Space) (v : Store) → ArrayRests img m old s v → RestsClean img m old s (an_array v)
array_rests img m old s v r = record {
  rests = record { kind = r.kind; at_place = r.at; sound = r.array; stands = r.stands; stays = r.standing; fixed = r.fixed; behind = λ f. ap (sum_by f) (sym r.behind); map = r.map };
  clean = r.clean;
}

tree_rests : (img : List ℕ) (m : Moment) (old : Key → ℕ) (s : Space) (p : ℕ) (v : Index) → TreeRests img m old s p v → RestsClean img m old s (a_tree p v)
tree_rests img m old s p v r = record {
  rests = record {
    kind = r.kind;
    at_place = r.at_place;
    sound = record { index = r.index; defined = r.defined };
    stands = r.stands;
    stays = tt;
    fixed = r.fixed;
    behind = λ f. ap (sum_by f) (sym r.behind);
    map = r.map;
  };
  clean = r.clean;
}

pub index_rests_then : IndexRestsThen
index_rests_then img name m old s b t (an_array v) (an_array w) ms rows more writes chunks copies supers fixed last k first are i missed x =
    array_rests _ _ _ t w (array_rests_then img name m old s b t v w ms rows more writes chunks copies supers fixed last k are i missed (array_part img m b t v w ms chunks copies fixed x))
index_rests_then img name m old s b t (a_tree p v) (a_tree q w) ms rows more writes chunks copies supers fixed last k first are i missed x =
    let e : q ≡ p = x.plan.0 in
    let parts : ℕ → _ = λ r. index_parts (chunk_bytes m.dataset) (a_tree r w) rows more writes chunks copies supers last fixed in
    subst (λ r. RestsClean (image img (pieces_of img m (parts r))) (flushed_to m (parts r)) (λ key. address_in (a_tree r w) key) t (a_tree r w)) (sym e)
    (tree_rests _ _ _ t p w (tree_rests_then img name m old s b t p v w ms rows more writes chunks copies supers fixed last k are (subst (λ r. IsFlush img m old s (parts r) t) e i) missed (tree_part img name m old s b t p q v w ms chunks copies fixed k first x)))
index_rests_then img name m old s b t (an_array v) (a_tree q w) ms rows more writes chunks copies supers fixed last k first are i missed x = absurd x.plan
index_rests_then img name m old s b t (a_tree p v) (an_array w) ms rows more writes chunks copies supers fixed last k first are i missed x = absurd x.plan

pub rests_freed : RestsFreed
rests_freed img m old s t (an_array v) c r = record { kind = r.kind; at_place = r.at_place; sound = r.sound; stands = r.stands; stays = standing_freed v s t c r.stays; fixed = r.fixed; behind = r.behind; map = r.map }
rests_freed img m old s t (a_tree p v) c r = record { kind = r.kind; at_place = r.at_place; sound = r.sound; stands = r.stands; stays = tt; fixed = r.fixed; behind = r.behind; map = r.map }

-- what was live stays so where what was retired is forgotten
forgotten_live : (s : Space) (r : Extent) → IsLive s r → IsLive (record s { retired = [] }) r
forgotten_live s r l = record { within = l.within; off_free = l.off_free; off_retired = All-nil (Apart r) }

pub rests_forgotten : RestsForgotten
rests_forgotten img m old s (an_array v) r =
    let stays : Standing v s = r.stays in
    record {
      kind = r.kind;
      at_place = r.at_place;
      sound = r.sound;
      stands = r.stands;
      stays = record { live = λ n placed. forgotten_live s (range_of v n) (stays.live n placed); some = stays.some; apart = stays.apart };
      fixed = r.fixed;
      behind = r.behind;
      map = r.map;
    }
rests_forgotten img m old s (a_tree p v) r = record { kind = r.kind; at_place = r.at_place; sound = r.sound; stands = r.stands; stays = tt; fixed = r.fixed; behind = r.behind; map = r.map }
