-- The first flush of a file whose tree is not there yet is a flush.
use Rattle.std.proofs.Common.{◌≡◌, ℕ, ◌+◌, ◌<◌, ◌^◌, List, [], ◌∷◌, ◌++◌, length, map, take, refl, sym, ◌∙◌, ap, subst, arith, sum_by}
use Rattle.std.specs.Prelude.{Some, ℤ}
use Rattle.std.proofs.lemmas.List.{length-map, map-append}
use Rattle.std.proofs.lemmas.List.Sums.{sum_by-append}
use Rattle.h5w_model.specs.Numbers.{range, undefined}
use Rattle.h5w_model.specs.Images.{At, Holds, image}
use Rattle.h5w_model.specs.Trees.{bthd_at, bthd_bytes, bthd_len, node_size}
use Rattle.h5w_model.specs.Findings.{Used, chunk_bytes}
use Rattle.h5w_model.specs.declared.piece.Write.{Write}
use Rattle.h5w_model.proofs.ImageLemmas.{Holds-front, Holds-rest}
use Rattle.h5w_step_laws.specs.Ranges.{block_at}
use Rattle.h5w_space.specs.Space.{Space}
use Rattle.h5w_cache.specs.declared.moves.Move.{Move}
use Rattle.h5w_chunks.specs.declared.grid.ChunkPlace.{ChunkPlace}
use Rattle.h5w_step_laws.specs.Moments.{Moment}
use Rattle.h5w_step_laws.proofs.PartLemmas.{disjoint_right}
use Rattle.h5w_flush_laws.specs.Spaces.{LetGo, Taken}
use Rattle.h5w_flush_laws.specs.Parts.{Parts, block_ranges, block_writes, committed}
use Rattle.h5w_flush_laws.specs.Chunks.{chunks_for}
use Rattle.h5w_flush_laws.proofs.SpaceLemmas.{taken_laws}
use Rattle.h5w_array_laws.proofs.AmongLemmas.{part_as, part_itself, part_joined, part_onward}
use Rattle.h5w_first_flush_laws.specs.FirstFlushes.{IsFirstFlush, IsNowhere, SaysFirst, TakesFirst, no_chunk}
use Rattle.h5w_first_flush_laws.proofs.FirstFlushLemmas.{first_is_flush, first_taken, unnamed_nowhere}
use Rattle.h5w_bt_nodes.specs.Nodes.{total_of}
use Rattle.h5w_bt_index.specs.Index.{Index, IsIndex}
use Rattle.h5w_bt_nodes.specs.Blocks.{changes, place_of, placed}
use Rattle.h5w_bt_index.specs.Plans.{header_of, news, planned}
use Rattle.h5w_bt_index.proofs.Placed.{planned_index}
use Rattle.h5w_tree_index_laws.specs.TreeImages.{AllStand, AreAmong, IsRead, behind_of, blocks_in_place, node_range}
use Rattle.h5w_tree_index_laws.specs.TreeFlushes.{HeaderNames, fresh, header_range}
use Rattle.h5w_tree_index_laws.proofs.TreeFlushLemmas.{moves_end, same_news, take_them}
use Rattle.h5w_tree_index_laws.proofs.TreeHeaderLemmas.{header_gives, header_long, header_reads, header_says}
use Rattle.h5w_tree_index_laws.proofs.TreeLaws.{copies_are}
use Rattle.h5w_tree_index_laws.proofs.TreePlanLemmas.{blocks_hold, moves_taken, placed_stands}
use Rattle.h5w_tree_index_laws.proofs.TreeRangeLemmas.{by_weight, light}
use Rattle.h5w_tree_index_laws.proofs.TreeStandLemmas.{good_read, node_place}
use Rattle.h5w_tree_starting_laws.specs.TreeStarting.{IsTreeStart, TreeStartIsFlush, TreeStartKnows, parts_for}
use Rattle.h5w_tree_starting_laws.proofs.UnwrittenLemmas.{no_blank, retired_none, unwritten_undefined, AllUndefined}

module _ (img name : List ℕ) (m : Moment) (base b t : Space) (place : ℕ) (v w : Index) (ms : List Move) (rows : ℕ) (more : List ℤ) (writes : List Write) (places : List ChunkPlace) (copies : List (ℕ × List ℕ))
    (fixed supers : List Write) (r : TreeStartKnows img name m base) (x : IsTreeStart img m base b place v ms w t rows more writes places copies fixed supers) where
  abbrev f : Parts
  f = parts_for m place w rows more writes places copies supers t.end

  abbrev chunks : List Used
  chunks = chunks_for m no_chunk places

  abbrev bytes : ℕ
  bytes = chunk_bytes m.dataset

  abbrev ps : List ℕ
  ps = news ms

  abbrev head : Used
  head = header_range place

  abbrev header_block : ℕ × List ℕ
  header_block = (place, bthd_bytes (header_of w))

  nowhere : IsNowhere img m
  nowhere = unnamed_nowhere img name m r.knows.file r.unnamed.address

  pub defined : place ≡ undefined → ⊥
  defined e = let ends = x.ends in absurd (omega (arith, e, ends))

  -- ---- The plan

  count : changes v.depth v.root ≡ length ps
  count = ap length (sym x.plan.taken.old) ∙ length-map ms (λ (m : Move). m.old) ∙ sym (length-map ms (λ (m : Move). m.new))

  ranges_are : block_ranges copies ≡ fresh ms
  ranges_are = copies_are v ms copies x.index x.plan.taken.old x.copied

  got : Taken b (fresh ms) x.plan.taken.taken
  got = moves_taken b ms x.plan.taken.taken x.plan.taken.moves

  -- nothing is retired
  none_left : t ≡ x.plan.roomy
  none_left = retired_none x.plan.roomy ms t (subst AllUndefined (sym x.plan.taken.old) (unwritten_undefined v x.unwritten)) x.plan.retired

  let_go : LetGo x.plan.taken.taken [] t
  let_go =
      let roomy : t ≡ record (x.plan.taken.taken) { spare = x.plan.roomy.spare } = none_left ∙ roomy_is in
      let room = taken_laws.none_taken x.plan.taken.taken t (ap (λ (y : Space). y.end) roomy) (ap (λ (y : Space). y.free) roomy) (ap (λ (y : Space). y.retired) roomy) in
      record { stays_live = λ y live apart. room.stays_live y live; end = ap (λ (y : Space). y.end) roomy }
    where
      roomy_is : x.plan.roomy ≡ record (x.plan.taken.taken) { spare = x.plan.roomy.spare }
      roomy_is = x.plan.taken.roomy ∙ ap (λ (n : ℕ). let y : Space = record (x.plan.taken.taken) { spare = n } in y) (sym (ap (λ (y : Space). y.spare) x.plan.taken.roomy))

  pub after : IsIndex w
  after = subst IsIndex (sym x.plan.index) (planned_index ps v x.index)

  -- ---- Its ranges

  -- the ranges of all blocks that are written
  blocks_are : block_ranges (copies ++ header_block ∷ []) ≡ fresh ms ++ head ∷ []
  blocks_are =
      map-append (λ (c : ℕ × List ℕ). block_at c.0 (length c.1)) copies (header_block ∷ [])
      ∙ ap (λ (us : List Used). us ++ block_at place (length (bthd_bytes (header_of w))) ∷ []) ranges_are
      ∙ ap (λ n. fresh ms ++ block_at place n ∷ []) (header_long (header_of w))

  behind_light : AreAmong (behind_of bytes w) (fresh ms ++ behind_of bytes v)
  behind_light =
      subst (λ (u : Index). AreAmong (behind_of bytes u) (fresh ms ++ behind_of bytes v)) (sym x.plan.index)
      (by_weight (behind_of bytes (planned ps v)) (fresh ms ++ behind_of bytes v) (λ g.
      let l = light g bytes v.depth v.root ps x.index.sound (omega (arith, count)) in
      let e : sum_by g (map node_range (take (changes v.depth v.root) ps)) ≡ sum_by g (fresh ms) = ap (sum_by g) (ap (map node_range) (take_them ps (changes v.depth v.root) count) ∙ same_news ms) in
      omega (arith, l, e, sum_by-append g (fresh ms) (behind_of bytes v))))

  takes : TakesFirst m base t f (head ∷ []) (fresh ms)
  takes = record {
    before = b;
    between = x.plan.taken.taken;
    taken = x.taken;
    planned = got;
    into = part_as (block_ranges f.copies) (fresh ms ++ head ∷ []) blocks_are;
    back = part_as (fresh ms ++ head ∷ []) (block_ranges f.copies) (sym blocks_are);
    end = let_go.end;
    left = [];
    let_go = let_go;
    left_before = λ l a. absurd a;
    left_after = λ l a among. absurd a;
    fixed = ap (λ (us : List Used). us ++ head ∷ []) (sym nowhere.fixed);
    behind = part_onward (behind_of bytes w) (fresh ms ++ behind_of bytes v) (fresh ms ++ chunks) (record { among = behind_light.among; counts = behind_light.counts })
        (part_joined (fresh ms) (behind_of bytes v) (fresh ms) chunks (part_itself (fresh ms)) (record { among = x.behind.among; counts = x.behind.counts }));
  }

  -- ---- The tree on the image once its blocks are written

  abbrev now : List ℕ
  now = image (image img writes) (block_writes (copies ++ header_block ∷ []))

  holds : Holds now (copies ++ header_block ∷ [])
  holds = blocks_hold (image img writes) (copies ++ header_block ∷ []) (disjoint_right chunks (block_ranges (copies ++ header_block ∷ [])) (first_taken m base t f (head ∷ []) (fresh ms) takes).apart)

  pub all_stand : AllStand now v.depth (placed v.depth ps v.root)
  all_stand = placed_stands now v.depth v.root ps (record {
    marked = x.index.marked;
    sound = x.index.sound;
    clean = λ p c. absurd (no_blank v.depth v.root p x.index.shallow x.filled x.changed c (x.unwritten.clean p c));
    reads = x.plan.reads;
    holds = subst (Holds now) x.copied (Holds-front now copies (header_block ∷ []) holds);
    enough = omega (arith, count);
    ends = moves_end b ms x.plan.taken.taken x.plan.taken.moves;
  })

  read : IsRead w now
  read = subst (λ (u : Index). IsRead u now) (sym x.plan.index) (good_read (planned ps v) now (planned_index ps v x.index) all_stand)

  pub root_low : place_of w.depth w.root < 2 ^ 64
  root_low =
      let low : place_of v.depth (placed v.depth ps v.root) + node_size < 2 ^ 64 = node_place now v.depth (placed v.depth ps v.root) all_stand in
      subst (λ (u : Index). place_of u.depth u.root < 2 ^ 64) (sym x.plan.index) (below (place_of v.depth (placed v.depth ps v.root)) low)
    where
      below : (n : ℕ) → n + node_size < 2 ^ 64 → n < 2 ^ 64
      below n h = omega (arith, h)

  pub header_at : At now place (bthd_bytes (header_of w))
  header_at = (Holds-rest now copies (header_block ∷ []) holds).0

  -- where its header stands it names the tree
  pub header_names : (other : List ℕ) → At other place (bthd_bytes (header_of w)) → HeaderNames place w other
  header_names other at =
      let there : range other place bthd_len ≡ bthd_bytes (header_of w) = ap (range other place) (sym (header_long (header_of w))) ∙ at in
      record {
        total = total_of w.depth w.root;
        finds = header_gives w (total_of w.depth w.root) (range other place bthd_len) place (ap (λ (l : List ℕ). bthd_at l place) there ∙ header_reads w place after root_low);
      }

  abbrev header_now : HeaderNames place w now
  header_now = header_names now header_at

  -- ---- The flush

  says : SaysFirst img m f
  says =
      let said = header_says w now (committed m.dataset rows (Some place)) place r.unnamed.kind refl defined header_now in
      record {
        blocks = blocks_in_place header_now.total w;
        visited = read.visited header_now.total t.end bytes;
        answers = λ key n. read.found header_now.total key;
        each_says = tt;
        said = λ none. said;
        named = (r.unnamed.address, let ends = x.ends in omega (arith, ends));
      }

  pub start_first : IsFirstFlush img m r.knows.held base t f
  start_first =
      first_is_flush img name m base t f (head ∷ []) (fresh ms) places r.knows x.rising takes says

pub tree_start_is_flush : TreeStartIsFlush
tree_start_is_flush img name m base b t place v w ms rows more writes places copies fixed supers r x = (start_first img name m base b t place v w ms rows more writes places copies fixed supers r x).flush
