-- The plan of a tree's changed nodes as the index's part of a flush.
use Rattle.std.proofs.Common.{◌≡◌, ◌⊎◌, ℕ, zero, suc, ◌+◌, ◌<◌, ◌≤◌, ◌^◌, Bool, true, false, List, [], ◌∷◌, ◌++◌, length, map, take, None, refl, sym, ◌∙◌, ap, subst, inl, inr, arith, append-nil, sum_by}
use Rattle.std.specs.Prelude.{ℤ}
use Rattle.std.proofs.lemmas.Bool.{cases_Bool, cond-true, cond-false}
use Rattle.std.proofs.lemmas.List.{length-map}
use Rattle.std.proofs.lemmas.List.Elements.{All-cons, All-nil}
use Rattle.std.proofs.lemmas.List.Sums.{sum_by-append}
use Rattle.h5w_model.specs.Numbers.{range}
use Rattle.h5w_model.specs.Images.{AllMiss, Apart, Holds, apply, image}
use Rattle.h5w_model.specs.Trees.{bthd_bytes, bthd_len, node_size}
use Rattle.h5w_model.specs.Datasets.{Described}
use Rattle.h5w_model.specs.Findings.{Used, chunk_bytes}
use Rattle.h5w_model.specs.Prefixed.{StaysDefined}
use Rattle.h5w_model.specs.declared.cell.Key.{Key}
use Rattle.h5w_model.specs.declared.piece.Write.{Write}
use Rattle.h5w_model.specs.declared.cell.IndexKind.TheVariants.{Tree as a_tree}
use Rattle.h5w_model.proofs.ImageLemmas.{image-grows, range-image_missed}
use Rattle.h5w_step_laws.specs.Ranges.{Among, AllAmong, AllEndBy, Disjoint}
use Rattle.h5w_step_laws.proofs.RangeLemmas.{among_left, among_right, among_split}
use Rattle.h5w_space.specs.Space.{Space}
use Rattle.h5w_cache.specs.declared.moves.Move.{Move}
use Rattle.h5w_step_laws.specs.Moments.{Moment, all_used}
use Rattle.h5w_step_laws.specs.Steps.{LiesIn}
use Rattle.h5w_step_laws.specs.Counts.{count_at}
use Rattle.h5w_step_laws.proofs.MomentLemmas.{in_fixed, in_behind}
use Rattle.h5w_step_laws.proofs.PartLemmas.{count_joined}
use Rattle.h5w_flush_laws.specs.Spaces.{Taken, extent_of}
use Rattle.h5w_flush_laws.specs.Knowledge.{IsAsked, Knows}
use Rattle.h5w_flush_laws.specs.Parts.{AllUnseen, AreEnded, EachSays, IndexFlushed, Parts, SaysInPlace, block_ranges, block_writes, committed}
use Rattle.h5w_flush_laws.specs.Chunks.{AreChunks}
use Rattle.h5w_flush_laws.proofs.SpaceLemmas.{meet_nowhere}
use Rattle.h5w_flush_laws.proofs.EarlyLemmas.{blocks_miss}
use Rattle.h5w_flush_laws.proofs.FlushLemmas.{unseen_miss}
use Rattle.h5w_bt_nodes.specs.Nodes.{Tree}
use Rattle.h5w_bt_index.specs.Marks.{Part, clean_of}
use Rattle.h5w_bt_index.specs.Index.{Index, IsClean, IsIndex, address_of, no_tree}
use Rattle.h5w_bt_nodes.specs.Blocks.{changes, place_of, placed, written}
use Rattle.h5w_bt_index.specs.Plans.{AreNodeMoves, header_of, news, planned}
use Rattle.h5w_tree_index_laws.specs.TreeImages.{AllStand, AreAmong, IsRead, StandsTree, behind_of, blocks_in_place}
use Rattle.h5w_tree_index_laws.specs.TreeFlushes.{HeaderNames, IsTreePart, TreeFlushed, header_range, tree_parts}
use Rattle.h5w_bt_nodes.proofs.NodeBytes.{take_whole}
use Rattle.h5w_bt_index.proofs.Placed.{planned_index}
use Rattle.h5w_tree_index_laws.proofs.TreeHeaderLemmas.{header_says, header_long, header_written, names_again, part_range, tree_left}
use Rattle.h5w_tree_index_laws.proofs.TreePlanLemmas.{Ends, blocks_hold, moves_taken, placed_stands, takes}
use Rattle.h5w_tree_index_laws.specs.TreeImages.{node_range}
use Rattle.h5w_tree_index_laws.specs.TreeFlushes.{fresh}
use Rattle.h5w_tree_index_laws.proofs.TreeRangeLemmas.{by_weight, light}
use Rattle.h5w_tree_index_laws.proofs.TreeStandLemmas.{clean_stand, good_read, node_place, tree_is_read}

-- ---- Moves

pub moves_end : (s : Space) (ms : List Move) (t : Space) → AreNodeMoves s ms t → Ends (news ms)
moves_end s [] t h = All-nil (λ (p : ℕ). p + node_size < 2 ^ 64)
moves_end s (m ∷ ms) t h = All-cons (λ (p : ℕ). p + node_size < 2 ^ 64) m.new (news ms) (h.1).ends (moves_end h.0 ms t h.2)

pub take_them : (l : List ℕ) (n : ℕ) → n ≡ length l → take n l ≡ l
take_them l n e = ap (λ (j : ℕ). take j l) e ∙ take_whole l

pub same_news : (ms : List Move) → map node_range (news ms) ≡ fresh ms
same_news [] = refl
same_news (m ∷ ms) = ap (λ (l : List Used). node_range m.new ∷ l) (same_news ms)

pub fresh_some : (ms : List Move) (u : Used) → Among u (fresh ms) → 0 < u.len
fresh_some [] u a = absurd a
fresh_some (m ∷ ms) u (inl e) = subst (λ (x : Used). 0 < x.len) e (omega arith)
fresh_some (m ∷ ms) u (inr a) = fresh_some ms u a

-- a tree that did not change stays as it is
same_placed : (d : ℕ) (ps : List ℕ) (t : Tree d) → clean_of d t ≡ true → placed d ps t ≡ t
same_placed zero ps t e = cond-true t.clean _ _ e
same_placed (suc d) ps t e = cond-true t.clean _ _ e

pub planned_same : (ps : List ℕ) (v : Index) → clean_of v.depth v.root ≡ true → planned ps v ≡ v
planned_same ps v e = ap (λ (t : Tree v.depth). let u : Index = record { depth = v.depth; root = t } in u) (same_placed v.depth ps v.root e)

pub clean_differs : (v : Index) → clean_of v.depth v.root ≡ false → v ≡ no_tree → ⊥
clean_differs v f e = never (sym f ∙ ap (λ (w : Index). clean_of w.depth w.root) e)
  where
    never : ◌≡◌ {A = Bool} false true → ⊥
    never e = cc

-- ---- The index's part

module _ (img name : List ℕ) (m : Moment) (old : Key → ℕ) (s b c t : Space) (place : ℕ) (v w : Index) (ms : List Move) (writes : List Write) (chunks : List Used) (copies : List (ℕ × List ℕ))
    (supers : List Write) (last : ℕ) (fixed : List Write) (k : Knows img name m old s) (taken : Taken s (chunks ++ block_ranges copies) c) (end : last ≡ c.end) (ended : AreEnded m.super last supers)
    (unseen : AllUnseen m writes) (are : AreChunks chunks) (kept_by : (key : Key) → IsAsked m.dataset key → StaysDefined (old key) (address_of w key)) (x : IsTreePart img m place v b ms w t chunks copies fixed) where
  abbrev bytes : ℕ
  bytes = chunk_bytes m.dataset

  abbrev ps : List ℕ
  ps = news ms

  -- ---- The plan

  count : changes v.depth v.root ≡ length ps
  count = ap length (sym x.plan.taken.old) ∙ length-map ms (λ (m : Move). m.old) ∙ sym (length-map ms (λ (m : Move). m.new))

  enough : changes v.depth v.root ≤ length ps
  enough = omega (arith, count)

  abbrev copied_at : List ℕ
  copied_at = image (image img writes) (block_writes copies)

  ranges_are : block_ranges copies ≡ fresh ms
  ranges_are =
      ap block_ranges x.copied ∙ takes v.depth v.root ps x.index.shallow x.index.sound enough
      ∙ ap (map node_range) (take_them ps (changes v.depth v.root) count) ∙ same_news ms

  got : Taken b (fresh ms) x.plan.taken.taken
  got = moves_taken b ms x.plan.taken.taken x.plan.taken.moves

  ends : Ends ps
  ends = moves_end b ms x.plan.taken.taken x.plan.taken.moves

  pub after : IsIndex w
  after = subst IsIndex (sym x.plan.index) (planned_index ps v x.index)

  -- ---- What stays

  in_file : AllAmong (m.fixed ++ m.behind) (all_used m)
  in_file u a = elim (among_split u m.fixed m.behind a) [ inl q ↦ in_fixed m u q | inr q ↦ in_behind m u q ]

  part_in_file : (p : Part) → IsClean p v → place_of p.depth p.tree + node_size < 2 ^ 64 → Among (node_range (place_of p.depth p.tree)) (m.fixed ++ m.behind)
  part_in_file p clean low = go (among_split u chunks m.behind (x.behind.among u (part_range bytes p v.depth v.root x.index.sound low clean)))
    where
      u : Used
      u = node_range (place_of p.depth p.tree)

      never : ◌≡◌ {A = Bool} false true → ⊥
      never e = cc

      go : Among u chunks ⊎ Among u m.behind → Among u (m.fixed ++ m.behind)
      go (inl q) = absurd (never (are u q))
      go (inr q) = among_right u m.fixed m.behind q

  rows_stand : StandsTree v (image img writes)
  rows_stand =
      tree_left v img writes x.index x.stands.nodes
      (λ p clean stands. unseen_miss m writes (node_range (place_of p.depth p.tree)) unseen (in_file (node_range (place_of p.depth p.tree)) (part_in_file p clean stands.ends)) refl)

  -- the copies miss what the file uses
  copies_miss : (u : Used) → Among u (m.fixed ++ m.behind) → 0 < u.len → AllMiss (block_writes copies) u.place u.len
  copies_miss u a some =
      blocks_miss copies u.place u.len (λ q h. apart q (subst (λ (us : List Used). Among q us) ranges_are h))
    where
      apart : (q : Used) → Among q (fresh ms) → Apart q.place q.len u.place u.len
      apart q h = meet_nowhere q u (fresh_some ms q h) some (got.off_live q (extent_of u) h (x.live u a))

  -- the nodes that did not change stand after the copies
  pub copies_stand : StandsTree v copied_at
  copies_stand =
      tree_left v (image img writes) (block_writes copies) x.index rows_stand
      (λ p clean stands. copies_miss (node_range (place_of p.depth p.tree)) (part_in_file p clean stands.ends) (omega arith))

  -- ---- The tree as it is to be, once the copies are written

  holds : Holds copied_at (written v.depth ps v.root)
  holds = subst (λ (bs : List (ℕ × List ℕ)). Holds copied_at bs) x.copied (blocks_hold (image img writes) copies (subst Disjoint (sym ranges_are) got.apart))

  pub all_stand : clean_of v.depth v.root ≡ false → AllStand copied_at v.depth (placed v.depth ps v.root)
  all_stand e = placed_stands copied_at v.depth v.root ps (record {
    marked = x.index.marked;
    sound = x.index.sound;
    clean = clean_stand v copied_at (clean_differs v e) copies_stand;
    reads = x.plan.reads;
    holds = holds;
    enough = enough;
    ends = ends;
  })

  pub same_tree : clean_of v.depth v.root ≡ true → w ≡ v
  same_tree e = x.plan.index ∙ planned_same ps v e

  read : IsRead w copied_at
  read = go (cases_Bool (clean_of v.depth v.root))
    where
      go : (clean_of v.depth v.root ≡ true) ⊎ (clean_of v.depth v.root ≡ false) → IsRead w copied_at
      go (inl e) = subst (λ (u : Index). IsRead u copied_at) (sym (same_tree e)) (tree_is_read v copied_at x.index e copies_stand)
      go (inr e) = subst (λ (u : Index). IsRead u copied_at) (sym x.plan.index) (good_read (planned ps v) copied_at (planned_index ps v x.index) (all_stand e))

  -- ---- Ranges

  behind_light : AreAmong (behind_of bytes w) (fresh ms ++ behind_of bytes v)
  behind_light =
      subst (λ (u : Index). AreAmong (behind_of bytes u) (fresh ms ++ behind_of bytes v)) (sym x.plan.index)
      (by_weight (behind_of bytes (planned ps v)) (fresh ms ++ behind_of bytes v) (λ f.
      let l = light f bytes v.depth v.root ps x.index.sound enough in
      let e : sum_by f (map node_range (take (changes v.depth v.root) ps)) ≡ sum_by f (fresh ms) = ap (sum_by f) (ap (map node_range) (take_them ps (changes v.depth v.root) count) ∙ same_news ms) in
      omega (arith, l, e, sum_by-append f (fresh ms) (behind_of bytes v))))

  ends_by : AllEndBy last (behind_of bytes w)
  ends_by u a = go (among_split u (fresh ms) (behind_of bytes v) (behind_light.among u a))
    where
      new : Among u (chunks ++ block_ranges copies) → u.place + u.len ≤ last
      new q = let live = taken.live u q in let within = live.within in omega (arith, within, end)

      before : Among u chunks ⊎ Among u m.behind → u.place + u.len ≤ last
      before (inl q) = new (among_left u chunks (block_ranges copies) q)
      before (inr q) = omega (arith, k.file.index.ends u (among_right u m.fixed m.behind q), k.ended, taken.rises, end)

      go : Among u (fresh ms) ⊎ Among u (behind_of bytes v) → u.place + u.len ≤ last
      go (inl q) = new (among_right u chunks (block_ranges copies) (subst (λ (us : List Used). Among u us) (sym ranges_are) q))
      go (inr q) = before (among_split u chunks m.behind (x.behind.among u q))

  -- ---- The header

  abbrev ended_at : List ℕ
  ended_at = image copied_at supers

  lies : (piece : List ℕ) → length piece ≡ 38 → LiesIn (record { at = place; piece = piece }) m.fixed
  lies piece long = record {
    used = header_range place;
    among = subst (λ (us : List Used). Among (header_range place) us) (sym x.stay) (inl refl);
    from = omega arith;
    to = omega (arith, long);
  }

  pub root_low : clean_of v.depth v.root ≡ false → place_of w.depth w.root < 2 ^ 64
  root_low e =
      let low : place_of v.depth (placed v.depth ps v.root) + node_size < 2 ^ 64 = node_place copied_at v.depth (placed v.depth ps v.root) (all_stand e) in
      subst (λ (u : Index). place_of u.depth u.root < 2 ^ 64) (sym x.plan.index) (below (place_of v.depth (placed v.depth ps v.root)) low)
    where
      below : (n : ℕ) → n + node_size < 2 ^ 64 → n < 2 ^ 64
      below n h = omega (arith, h)

  -- what the header says, with this total, after each piece: it is written where some node changed, and else stays
  abbrev says_each : ℕ → List Write → Type 0
  says_each total ws = EachSays m.dataset m.fixed (blocks_in_place total w) (header_range place ∷ []) ended_at ws

  clean_says : clean_of v.depth v.root ≡ true → (total : ℕ) → says_each total fixed
  clean_says e total = subst (says_each total) (sym (x.plan.in_place ∙ cond-true (clean_of v.depth v.root) _ _ e)) tt

  header_piece : clean_of v.depth v.root ≡ false → fixed ≡ record { at = place; piece = bthd_bytes (header_of w) } ∷ []
  header_piece e = x.plan.in_place ∙ cond-false (clean_of v.depth v.root) _ _ e

  changed_names : clean_of v.depth v.root ≡ false → HeaderNames place w (apply (record { at = place; piece = bthd_bytes (header_of w) }) ended_at)
  changed_names e = header_written w ended_at place after (root_low e)

  changed_says : (e : clean_of v.depth v.root ≡ false) → says_each (changed_names e).total fixed
  changed_says e =
      subst (says_each (changed_names e).total) (sym (header_piece e)) (
        lies (bthd_bytes (header_of w)) (header_long (header_of w)),
        header_says w _ m.dataset place x.kind x.at_place x.defined (changed_names e),
        tt,
      )

  header_in : Among (header_range place) (m.fixed ++ m.behind)
  header_in = among_left (header_range place) m.fixed m.behind (subst (λ (us : List Used). Among (header_range place) us) (sym x.stay) (inl refl))

  header_inside : place + 38 ≤ length img
  header_inside = omega (arith, k.file.index.ends (header_range place) header_in, k.ended, k.covered)

  pub header_stays : range copied_at place bthd_len ≡ range img place bthd_len
  header_stays =
      range-image_missed (image img writes) (block_writes copies) place bthd_len (copies_miss (header_range place) header_in (omega arith)) (omega (arith, header_inside, image-grows img writes))
      ∙ range-image_missed img writes place bthd_len (unseen_miss m writes (header_range place) unseen (in_file (header_range place) header_in) refl) header_inside

  -- the header as it is said to be where no piece writes it
  abbrev said_by : Described → ℕ → Type 0
  said_by d total = SaysInPlace copied_at d (blocks_in_place total w) (header_range place ∷ [])

  clean_names : clean_of v.depth v.root ≡ true → HeaderNames place v copied_at
  clean_names e = names_again place v img copied_at header_stays (x.stands.header e)

  clean_said : (e : clean_of v.depth v.root ≡ true) (d : Described) → d.layout.index ≡ a_tree → d.layout.address ≡ place → said_by d (clean_names e).total
  clean_said e d kind at_place =
      subst (λ (u : Index). SaysInPlace copied_at d (blocks_in_place (clean_names e).total u) (header_range place ∷ [])) (sym (same_tree e)) (header_says v copied_at d place kind at_place x.defined (clean_names e))

  changed_said : clean_of v.depth v.root ≡ false → fixed ≡ [] → ⊥
  changed_said e none = never (record { at = place; piece = bthd_bytes (header_of w) }) [] (sym none ∙ header_piece e)
    where
      never : (y : Write) (ys : List Write) → ◌≡◌ {A = List Write} [] (y ∷ ys) → ⊥
      never y ys e = cc

  abbrev parts_of : ℕ → List ℤ → Parts
  parts_of rows more = tree_parts (chunk_bytes m.dataset) place w rows more writes chunks copies supers last fixed

  flushed_with : (rows : ℕ) (more : List ℤ) (total : ℕ) → says_each total fixed → (fixed ≡ [] → said_by (committed m.dataset rows None) total) → IndexFlushed img m old (parts_of rows more)
  flushed_with rows more total each_says said =
      record {
        blocks = blocks_in_place total w;
        behind = read.visited total last (chunk_bytes m.dataset) ends_by;
        answers = λ key n. read.found total key;
        each_says = each_says;
        said = said;
        added = [];
        begins = sym x.stay ∙ sym (append-nil m.fixed);
        added_fresh = λ u a. absurd a;
        known = λ u a. known u (among_split u (header_range place ∷ []) (behind_of bytes w) a);
        counts = λ p. counts p;
        kept = kept_by;
      }
    where
      copied : (u : Used) → Among u (fresh ms) → Among u ((chunks ++ block_ranges copies) ++ (m.fixed ++ m.behind))
      copied u a = among_left u (chunks ++ block_ranges copies) (m.fixed ++ m.behind) (among_right u chunks (block_ranges copies) (subst (λ (us : List Used). Among u us) (sym ranges_are) a))

      before : (u : Used) → Among u chunks ⊎ Among u m.behind → Among u ((chunks ++ block_ranges copies) ++ (m.fixed ++ m.behind))
      before u (inl a) = among_left u (chunks ++ block_ranges copies) (m.fixed ++ m.behind) (among_left u chunks (block_ranges copies) a)
      before u (inr a) = among_right u (chunks ++ block_ranges copies) (m.fixed ++ m.behind) (among_right u m.fixed m.behind a)

      later : (u : Used) → Among u (fresh ms) ⊎ Among u (behind_of bytes v) → Among u ((chunks ++ block_ranges copies) ++ (m.fixed ++ m.behind))
      later u (inl a) = copied u a
      later u (inr a) = before u (among_split u chunks m.behind (x.behind.among u a))

      known : (u : Used) → Among u (header_range place ∷ []) ⊎ Among u (behind_of bytes w) → Among u ((chunks ++ block_ranges copies) ++ (m.fixed ++ m.behind))
      known u (inl a) = among_right u (chunks ++ block_ranges copies) (m.fixed ++ m.behind) (among_left u m.fixed m.behind (subst (λ (us : List Used). Among u us) (sym x.stay) a))
      known u (inr a) = later u (among_split u (fresh ms) (behind_of bytes v) (behind_light.among u a))

      counts : (p : ℕ) → count_at p ((header_range place ∷ []) ++ behind_of bytes w) ≤ count_at p ((chunks ++ block_ranges copies) ++ (m.fixed ++ m.behind))
      counts p =
          all_in (count_at p ((header_range place ∷ []) ++ behind_of bytes w)) (count_at p ((chunks ++ block_ranges copies) ++ (m.fixed ++ m.behind))) (count_at p (header_range place ∷ [])) (count_at p (behind_of bytes w)) (count_at p chunks)
          (count_at p (block_ranges copies)) (count_at p m.fixed) (count_at p m.behind) (count_at p (fresh ms)) (count_at p (behind_of bytes v)) (count_joined p (header_range place ∷ []) (behind_of bytes w))
          (count_joined p (chunks ++ block_ranges copies) (m.fixed ++ m.behind) ∙ ap (λ n. n + count_at p (m.fixed ++ m.behind)) (count_joined p chunks (block_ranges copies)) ∙ ap (λ n. count_at p chunks + count_at p (block_ranges copies) + n) (count_joined p m.fixed m.behind))
          (subst (λ n. count_at p (behind_of bytes w) ≤ n) (count_joined p (fresh ms) (behind_of bytes v)) (behind_light.counts p)) (subst (λ n. count_at p (behind_of bytes v) ≤ n) (count_joined p chunks m.behind) (x.behind.counts p)) (ap (count_at p) x.stay) (ap (count_at p) (sym ranges_are))
        where
          all_in : (whole total fw bw c r fm bm fr bv : ℕ) → whole ≡ fw + bw → total ≡ c + r + (fm + bm) → bw ≤ fr + bv → bv ≤ c + bm → fm ≡ fw → fr ≡ r → whole ≤ total
          all_in whole total fw bw c r fm bm fr bv h1 h2 h3 h4 h5 h6 = omega (arith, h1, h2, h3, h4, h5, h6)

  index_flushed : (rows : ℕ) (more : List ℤ) → IndexFlushed img m old (parts_of rows more)
  index_flushed rows more = elim (cases_Bool (clean_of v.depth v.root)) [
    | inl e ↦ flushed_with rows more (clean_names e).total (clean_says e (clean_names e).total) (λ none. clean_said e (committed m.dataset rows None) x.kind x.at_place)
    | inr e ↦ flushed_with rows more (changed_names e).total (changed_says e) (λ none. absurd (changed_said e none))
  ]

pub tree_flushed : TreeFlushed
tree_flushed img name m old s b c t place v w ms rows more writes chunks copies supers last fixed k taken end ended unseen are kept_by x =
    index_flushed img name m old s b c t place v w ms writes chunks copies supers last fixed k taken end ended unseen are kept_by x rows more
