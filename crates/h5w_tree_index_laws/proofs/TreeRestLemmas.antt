-- A tree once all pieces of a flush are shown.
use Rattle.std.proofs.Common.{◌≡◌, ◌⊎◌, ℕ, zero, suc, ◌+◌, ◌<◌, ◌≤◌, ◌^◌, true, false, List, [], ◌∷◌, ◌++◌, length, None, Ok, refl, sym, ◌∙◌, ap, subst, inl, inr, arith}
use Rattle.std.specs.Prelude.{ℤ}
use Rattle.std.specs.List.{All}
use Rattle.std.proofs.lemmas.Bool.{cases_Bool, cond-true, cond-false}
use Rattle.std.proofs.lemmas.List.Elements.{All-head, All-tail}
use Rattle.h5w_model.specs.Numbers.{range}
use Rattle.h5w_model.specs.Images.{AllMiss, Misses, image}
use Rattle.h5w_model.specs.Trees.{bthd_bytes, bthd_len, node_size}
use Rattle.h5w_model.specs.Findings.{Used, chunk_bytes}
use Rattle.h5w_model.specs.declared.cell.Key.{Key}
use Rattle.h5w_model.specs.declared.piece.Write.{Write}
use Rattle.h5w_model.proofs.ImageLemmas.{image-grows, range-image_missed}
use Rattle.h5w_step_laws.specs.Ranges.{Among, AreApart}
use Rattle.h5w_step_laws.proofs.RangeLemmas.{among_left, among_right}
use Rattle.h5w_space.specs.Space.{Space}
use Rattle.h5w_cache.specs.declared.moves.Move.{Move}
use Rattle.h5w_step_laws.specs.Files.{commit_at}
use Rattle.h5w_step_laws.specs.Moments.{Moment, all_used}
use Rattle.h5w_step_laws.proofs.MomentLemmas.{in_behind, in_fixed, parts_of}
use Rattle.h5w_flush_laws.specs.Spaces.{AllLive}
use Rattle.h5w_flush_laws.specs.Knowledge.{HeldMissed, Knows}
use Rattle.h5w_flush_laws.specs.Parts.{IsFlush, Parts, block_writes, flushed_to, pieces_of}
use Rattle.h5w_flush_laws.specs.Chunks.{AreChunks}
use Rattle.h5w_flush_laws.proofs.FlushLemmas.{after_apart, supers_miss}
use Rattle.h5w_flush_laws.proofs.FlushLaws.{final_image, index_missed_by_header, live_after}
use Rattle.h5w_bt_nodes.specs.Nodes.{Tree}
use Rattle.h5w_bt_index.specs.Marks.{IsCleanPart, Part, Some_of, clean_of}
use Rattle.h5w_bt_index.specs.Index.{Index, IsClean, IsIndex, no_tree}
use Rattle.h5w_bt_nodes.specs.Blocks.{place_of}
use Rattle.h5w_bt_index.specs.Plans.{header_of, header_writes, news, planned}
use Rattle.h5w_bt_index.proofs.Placed.{placed_clean}
use Rattle.h5w_tree_index_laws.specs.TreeImages.{AllStand, StandsNode, StandsTree, behind_of, node_range}
use Rattle.h5w_tree_index_laws.specs.TreeFlushes.{HeaderNames, IsTreePart, TreeBegins, TreeRestsThen, TreeStands, header_range, tree_parts}
use Rattle.h5w_tree_index_laws.proofs.TreeFlushLemmas.{all_stand, after, copies_stand, header_stays, root_low, same_tree}
use Rattle.h5w_tree_index_laws.proofs.TreeHeaderLemmas.{header_gives, header_long, header_written, names_again, part_range, tree_left}

-- ---- Nodes

some_stand : (img : List ℕ) (d : ℕ) (p : Part) (cs : List (Tree d)) → ((c : Tree d) → AllStand img d c → IsCleanPart p d c → StandsNode img p.depth p.tree) → All (AllStand img d) cs → Some_of (IsCleanPart p d) cs → StandsNode img p.depth p.tree
some_stand img d p [] f s h = absurd h
some_stand img d p (c ∷ cs) f s (inl h) = f c (All-head (AllStand img d) c cs s) h
some_stand img d p (c ∷ cs) f s (inr h) = some_stand img d p cs f (All-tail (AllStand img d) c cs s) h

-- where all nodes stand each clean one does
part_stands : (img : List ℕ) (p : Part) (d : ℕ) (t : Tree d) → AllStand img d t → IsCleanPart p d t → StandsNode img p.depth p.tree
part_stands img p zero t s h = subst (λ (q : Part). StandsNode img q.depth q.tree) (sym h.1) s
part_stands img p (suc d) t s (inl h) = subst (λ (q : Part). StandsNode img q.depth q.tree) (sym h.1) s.0
part_stands img p (suc d) t s (inr h) = some_stand img d p t.children (λ c. part_stands img p d c) s.1 h

pub tree_stands : (img : List ℕ) (v : Index) → AllStand img v.depth v.root → StandsTree v img
tree_stands img v s p clean = inr (part_stands img p v.depth v.root s clean)

-- a header's write misses what is apart from the header
header_misses : (place : ℕ) (piece : List ℕ) (u : Used) → length piece ≡ 38 → AreApart (header_range place) u → Misses (record { at = place; piece = piece }) u.place u.len
header_misses place piece u long (inl h) = inl (omega (arith, h, long))
header_misses place piece u long (inr h) = inr (omega (arith, h))

pub tree_begins : TreeBegins
tree_begins img place h = record { nodes = λ p clean. inl refl; header = λ e. record { total = 0; finds = header_gives no_tree 0 (range img place bthd_len) place h } }

module _ (img name : List ℕ) (m : Moment) (old : Key → ℕ) (s b t : Space) (place : ℕ) (v w : Index) (ms : List Move) (rows : ℕ) (more : List ℤ) (writes : List Write) (chunks : List Used) (copies : List (ℕ × List ℕ))
    (supers fixed : List Write) (last : ℕ) (k : Knows img name m old s) (are : AreChunks chunks) (i : IsFlush img m old s (tree_parts (chunk_bytes m.dataset) place w rows more writes chunks copies supers last fixed) t)
    (missed : HeldMissed k.held writes) (x : IsTreePart img m place v b ms w t chunks copies fixed) where
  abbrev bytes : ℕ
  bytes = chunk_bytes m.dataset

  abbrev f : Parts
  f = tree_parts bytes place w rows more writes chunks copies supers last fixed

  abbrev copied_at : List ℕ
  copied_at = image (image img writes) (block_writes copies)

  abbrev ended_at : List ℕ
  ended_at = image copied_at supers

  is_index : IsIndex w
  is_index = after img name m old s b i.between t place v w ms writes chunks copies supers last fixed k i.taken i.end i.super i.written.unseen are i.index.kept x

  is_clean : clean_of w.depth w.root ≡ true
  is_clean = subst (λ (u : Index). clean_of u.depth u.root ≡ true) (sym x.plan.index) (placed_clean v.depth (news ms) v.root)

  unchanged : clean_of v.depth v.root ≡ true → w ≡ v
  unchanged e = same_tree img name m old s b i.between t place v w ms writes chunks copies supers last fixed k i.taken i.end i.super i.written.unseen are i.index.kept x e

  -- once the copies are written
  nodes_copied : StandsTree w copied_at
  nodes_copied = go (cases_Bool (clean_of v.depth v.root))
    where
      go : (clean_of v.depth v.root ≡ true) ⊎ (clean_of v.depth v.root ≡ false) → StandsTree w copied_at
      go (inl e) =
          subst (λ (u : Index). StandsTree u copied_at) (sym (unchanged e))
          (copies_stand img name m old s b i.between t place v w ms writes chunks copies supers last fixed k i.taken i.end i.super i.written.unseen are i.index.kept x)
      go (inr e) =
          subst (λ (u : Index). StandsTree u copied_at) (sym x.plan.index)
          (tree_stands copied_at (planned (news ms) v) (all_stand img name m old s b i.between t place v w ms writes chunks copies supers last fixed k i.taken i.end i.super i.written.unseen are i.index.kept x e))

  node_in : (p : Part) → IsClean p w → place_of p.depth p.tree + node_size < 2 ^ 64 → Among (node_range (place_of p.depth p.tree)) (behind_of bytes w)
  node_in p clean low = part_range bytes p w.depth w.root is_index.sound low clean

  nodes_ended : StandsTree w ended_at
  nodes_ended =
      tree_left w copied_at supers is_index nodes_copied
      (λ p clean n. supers_miss img name m old s t f k i missed (node_range (place_of p.depth p.tree)) (among_right (node_range (place_of p.depth p.tree)) (header_range place ∷ []) (behind_of bytes w) (node_in p clean n.ends)))

  -- the header's write meets no node
  off_header : (u : Used) → Among u (behind_of bytes w) → AreApart (header_range place) u
  off_header u a = (parts_of (flushed_to m f) (after_apart img name m old s t f k i missed)).fixed (header_range place) u (inl refl) a

  fixed_miss : (u : Used) → Among u (behind_of bytes w) → AllMiss fixed u.place u.len
  fixed_miss u a = subst (λ (ws : List Write). AllMiss ws u.place u.len) (sym x.plan.in_place) (go (cases_Bool (clean_of v.depth v.root)))
    where
      go : (clean_of v.depth v.root ≡ true) ⊎ (clean_of v.depth v.root ≡ false) → AllMiss (header_writes place v w) u.place u.len
      go (inl e) = subst (λ (ws : List Write). AllMiss ws u.place u.len) (sym (cond-true (clean_of v.depth v.root) _ _ e)) tt
      go (inr e) = subst (λ (ws : List Write). AllMiss ws u.place u.len) (sym (cond-false (clean_of v.depth v.root) _ _ e)) (header_misses place (bthd_bytes (header_of w)) u (header_long (header_of w)) (off_header u a), tt)

  abbrev last_at : List ℕ
  last_at = image ended_at fixed

  nodes_last : StandsTree w last_at
  nodes_last = tree_left w ended_at fixed is_index nodes_ended (λ p clean n. fixed_miss (node_range (place_of p.depth p.tree)) (node_in p clean n.ends))

  nodes_all : StandsTree w (image last_at (commit_at last_at m.place rows None ∷ []))
  nodes_all =
      tree_left w last_at (commit_at last_at m.place rows None ∷ []) is_index nodes_last
      (λ p clean n. (index_missed_by_header img name m old s t f k i missed (node_range (place_of p.depth p.tree)) (among_right (node_range (place_of p.depth p.tree)) (header_range place ∷ []) (behind_of bytes w) (node_in p clean n.ends)), tt))

  -- ---- The header

  header_among : Among (header_range place) (header_range place ∷ behind_of bytes w)
  header_among = inl refl

  header_before : Among (header_range place) (m.fixed ++ m.behind)
  header_before = among_left (header_range place) m.fixed m.behind (subst (λ (us : List Used). Among (header_range place) us) (sym x.stay) (inl refl))

  header_end : place + 38 ≤ length copied_at
  header_end = omega (arith, k.file.index.ends (header_range place) header_before, k.ended, k.covered, image-grows img writes, image-grows (image img writes) (block_writes copies))

  abbrev found_on : List ℕ → Type 0
  found_on y = HeaderNames place w y

  header_ended : clean_of v.depth v.root ≡ true → found_on ended_at
  header_ended e =
      names_again place w img ended_at
      (range-image_missed copied_at supers place bthd_len (supers_miss img name m old s t f k i missed (header_range place) header_among) header_end
      ∙ header_stays img name m old s b i.between t place v w ms writes chunks copies supers last fixed k i.taken i.end i.super i.written.unseen are i.index.kept x)
      (subst (λ (u : Index). HeaderNames place u img) (sym (unchanged e)) (x.stands.header e))

  header_last : found_on last_at
  header_last = subst (λ (ws : List Write). found_on (image ended_at ws)) (sym x.plan.in_place) (go (cases_Bool (clean_of v.depth v.root)))
    where
      go : (clean_of v.depth v.root ≡ true) ⊎ (clean_of v.depth v.root ≡ false) → found_on (image ended_at (header_writes place v w))
      go (inl e) = subst (λ (ws : List Write). found_on (image ended_at ws)) (sym (cond-true (clean_of v.depth v.root) _ _ e)) (header_ended e)
      go (inr e) =
          subst (λ (ws : List Write). found_on (image ended_at ws)) (sym (cond-false (clean_of v.depth v.root) _ _ e))
          (header_written w ended_at place is_index (root_low img name m old s b i.between t place v w ms writes chunks copies supers last fixed k i.taken i.end i.super i.written.unseen are i.index.kept x e))

  header_all : found_on (image last_at (commit_at last_at m.place rows None ∷ []))
  header_all =
      names_again place w last_at (image last_at (commit_at last_at m.place rows None ∷ []))
      (range-image_missed last_at (commit_at last_at m.place rows None ∷ []) place bthd_len (index_missed_by_header img name m old s t f k i missed (header_range place) header_among, tt)
      (omega (arith, header_end, image-grows copied_at supers, image-grows ended_at fixed)))
      header_last

  all_stands : TreeStands place w (image img (pieces_of img m f))
  all_stands = subst (λ (y : List ℕ). TreeStands place w y) (sym (final_image img name m old s t f k i missed)) (record { nodes = nodes_all; header = λ e. header_all })

  all_live : AllLive t ((header_range place ∷ []) ++ behind_of bytes w)
  all_live u a = live_after img name m old s t f k i missed u (in_index u a)
    where
      in_index : (u : Used) → Among u ((header_range place ∷ []) ++ behind_of bytes w) → Among u (all_used (flushed_to m f))
      in_index u (inl e) = in_fixed (flushed_to m f) u (inl e)
      in_index u (inr a) = in_behind (flushed_to m f) u a

pub tree_rests_then : TreeRestsThen
tree_rests_then img name m old s b t place v w ms rows more writes chunks copies supers fixed last k are i missed x = record {
  kind = x.kind;
  at_place = x.at_place;
  defined = x.defined;
  index = is_index img name m old s b t place v w ms rows more writes chunks copies supers fixed last k are i missed x;
  clean = is_clean img name m old s b t place v w ms rows more writes chunks copies supers fixed last k are i missed x;
  stands = all_stands img name m old s b t place v w ms rows more writes chunks copies supers fixed last k are i missed x;
  live = all_live img name m old s b t place v w ms rows more writes chunks copies supers fixed last k are i missed x;
  fixed = refl;
  behind = refl;
  map = λ key. refl;
}
