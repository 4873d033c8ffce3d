-- All blocks of a packed file in the order of writing: the pieces that write them, and their ranges.
use Rattle.std.proofs.Common.{◌≡◌, ◌≢◌, ◌⊎◌, ℕ, ◌+◌, ◌<◌, ◌≤◌, ◌^◌, List, [], ◌∷◌, ◌++◌, get_or, length, refl, sym, ◌∙◌, ap, subst, inl, inr, arith, append-nil, append_assoc}
use Rattle.std.specs.Prelude.{flat_map, map}
use Rattle.std.specs.List.{All, AllByRecursion}
use Rattle.std.proofs.lemmas.List.{map-append}
use Rattle.std.proofs.lemmas.List.Elements.{All-append, All-nil}
use Rattle.std.proofs.lemmas.Grind.{flat_map-append}
use Rattle.h5w_model.specs.Numbers.{range, undefined}
use Rattle.h5w_model.specs.Images.{Holds, pieces}
use Rattle.h5w_model.specs.Superblock.{super_bytes}
use Rattle.h5w_model.specs.Tables.{Reading}
use Rattle.h5w_model.specs.Findings.{Used, chunk_bytes, the_superblock}
use Rattle.h5w_model.specs.declared.piece.Write.{Write}
use Rattle.h5w_model.proofs.ImageLemmas.{Holds-front, Holds-rest}
use Rattle.h5w_model.proofs.SuperLemmas.{length-super_bytes}
use Rattle.h5w_step_laws.specs.Ranges.{AllAmong, Among, block_at}
use Rattle.h5w_step_laws.proofs.RangeLemmas.{among_left, among_right, among_split}
use Rattle.h5w_step_laws.specs.Spelled.{spelled_header}
use Rattle.h5w_step_laws.proofs.SpelledLemmas.{spelled_read}
use Rattle.h5w_flush_laws.specs.Parts.{block_ranges, block_writes}
use Rattle.h5w_array_laws.specs.Among.{AreAmong}
use Rattle.h5w_array_laws.specs.ArrayPlans.{fresh}
use Rattle.h5w_array_laws.specs.ArrayStores.{chunks_in}
use Rattle.h5w_array_laws.proofs.AmongLemmas.{part_as, part_itself, part_joined, part_more, part_none, part_onward}
use Rattle.h5w_array_laws.proofs.FixedLemmas.{one_piece}
use Rattle.h5w_packing_laws.specs.Growing.{own_blocks}
use Rattle.h5w_packing_laws.specs.Packing.{PackedSet, behind_ranges, front_ranges, header_block, packed_super, root_bytes, tops_of}
use Rattle.h5w_packing_laws.specs.PackingLaws.{SetHolds, TopsWritten}
use Rattle.h5w_packing_laws.specs.Sources.{IsSource}
use Rattle.h5w_packing_laws.proofs.FileLemmas.{front_some, set_tight}
use Rattle.h5w_packing_laws.proofs.RangeLemmas.{part_turned}
use Rattle.h5w_packing.specs.Plans.{IsPlannedSet, PlannedSet, Wanted, head_writes, header_write, planned_writes, set_chunks, sets_of}
use Rattle.h5w_packing.specs.declared.job.Copied.{Copied}
use Rattle.h5w_packing.proofs.CellLemmas.{bytes_same}
use Rattle.h5w_packing.proofs.FrontLemmas.{spelled_short}
use Rattle.h5w_packing.proofs.JobLemmas.{own_pieces}
use Rattle.h5w_packing.proofs.PlainLemmas.{chunks_plain, plain, plain_of_blocks, tops_plain}
use Rattle.h5w_packing.proofs.SoFarLemmas.{set_end}
use Rattle.h5w_packing.proofs.TableLemmas.{StandsIn, chunk_blocks, copied_inside}

-- ---- What a dataset is in both files

pub record Trio : Type 0 where
  pub name : List ℕ
  pub reading : Reading
  pub set : PackedSet

abbrev pub planned_of : Trio → PlannedSet
planned_of t = record { source = record { name = t.name; dataset = t.reading.dataset; table = t.reading.table }; set = t.set }

abbrev pub plans_of : List Trio → List PlannedSet
plans_of ts = map planned_of ts

-- ---- Of a dataset

abbrev chunk_writes : List ℕ → PlannedSet → List (ℕ × List ℕ)
chunk_writes img x = chunk_blocks img (set_chunks x)

abbrev copy_blocks : PlannedSet → List (ℕ × List ℕ)
copy_blocks x = x.set.copies

abbrev top_blocks : PlannedSet → List (ℕ × List ℕ)
top_blocks x = own_blocks x.set.tops

abbrev head_block : PlannedSet → ℕ × List ℕ
head_block x = header_block x.set

abbrev range_of : ℕ × List ℕ → Used
range_of b = block_at b.0 (length b.1)

-- in the order of writing: all chunks, all indexes' blocks at new places and then in place, the headers, the root header and the superblock
abbrev pub all_blocks : List ℕ → List PlannedSet → ℕ → List (ℕ × List ℕ)
all_blocks img xs end =
    chunk_blocks img (flat_map set_chunks xs)
    ++ (flat_map copy_blocks xs ++ (flat_map top_blocks xs ++ (map head_block xs ++ (48, root_bytes (sets_of xs)) ∷ (0, super_bytes (packed_super end)) ∷ [])))

-- ---- As pieces

blocks_joined : (xs ys : List (ℕ × List ℕ)) → block_writes (xs ++ ys) ≡ block_writes xs ++ block_writes ys
blocks_joined xs ys = flat_map-append (λ (b : ℕ × List ℕ). pieces b.0 b.1) xs ys

copies_written : (xs : List PlannedSet) → flat_map (λ (x : PlannedSet). block_writes x.set.copies) xs ≡ block_writes (flat_map copy_blocks xs)
copies_written [] = refl
copies_written (x ∷ xs) = ap (λ (ws : List Write). block_writes x.set.copies ++ ws) (copies_written xs) ∙ sym (blocks_joined x.set.copies (flat_map copy_blocks xs))

tops_written : (xs : List PlannedSet) → AllByRecursion TopsWritten (sets_of xs) → flat_map (λ (x : PlannedSet). x.set.tops) xs ≡ block_writes (flat_map top_blocks xs)
tops_written [] t = refl
tops_written (x ∷ xs) t = (λ i. own_pieces x.set.tops (t.0).pieces i ++ tops_written xs t.1 i) ∙ sym (blocks_joined (top_blocks x) (flat_map top_blocks xs))

header_piece : (limit : ℕ) (x : PlannedSet) → IsPlannedSet limit x → pieces x.set.place (spelled_header x.set.dataset) ≡ header_write x ∷ []
header_piece limit x h =
    let own : Used = block_at x.set.place (length (spelled_header x.set.dataset)) in
    one_piece x.set.place (spelled_header x.set.dataset) (front_some x.set h.packed own (inl refl)) (omega (arith, spelled_short x.set.dataset h.packed.laid.spellable))

headers_written : (limit : ℕ) (xs : List PlannedSet) → AllByRecursion (IsPlannedSet limit) xs → map header_write xs ≡ block_writes (map head_block xs)
headers_written limit [] h = refl
headers_written limit (x ∷ xs) h = (λ i. header_write x ∷ headers_written limit xs h.1 i) ∙ ap (λ (ws : List Write). ws ++ block_writes (map head_block xs)) (sym (header_piece limit x h.0))

super_piece : (end : ℕ) → pieces 0 (super_bytes (packed_super end)) ≡ record { at = 0; piece = super_bytes (packed_super end) } ∷ []
super_piece end = let long = length-super_bytes (packed_super end) in one_piece 0 (super_bytes (packed_super end)) (omega (arith, long)) (omega (arith, long))

pub all_written : (limit : ℕ) (img : List ℕ) (xs : List PlannedSet) (end : ℕ) → AllByRecursion (IsPlannedSet limit) xs → AllByRecursion TopsWritten (sets_of xs)
    → block_writes (chunk_blocks img (flat_map set_chunks xs)) ++ planned_writes xs end ≡ block_writes (all_blocks img xs end)
all_written limit img xs end h t =
    let chunks : List (ℕ × List ℕ) = chunk_blocks img (flat_map set_chunks xs) in
    let heads : List (ℕ × List ℕ) = map head_block xs in
    let two : List (ℕ × List ℕ) = (48, root_bytes (sets_of xs)) ∷ (0, super_bytes (packed_super end)) ∷ [] in
    let last : pieces 48 (root_bytes (sets_of xs)) ++ record { at = 0; piece = super_bytes (packed_super end) } ∷ [] ≡ block_writes two =
    ap (λ (ws : List Write). pieces 48 (root_bytes (sets_of xs)) ++ ws) (sym (append-nil (pieces 0 (super_bytes (packed_super end))) ∙ super_piece end)) in
    let fourth : head_writes xs end ≡ block_writes (heads ++ two) = (λ i. headers_written limit xs h i ++ last i) ∙ sym (blocks_joined heads two) in
    let third = (λ i. tops_written xs t i ++ fourth i) ∙ sym (blocks_joined (flat_map top_blocks xs) (heads ++ two)) in
    let second = (λ i. copies_written xs i ++ third i) ∙ sym (blocks_joined (flat_map copy_blocks xs) (flat_map top_blocks xs ++ (heads ++ two))) in
    ap (λ (ws : List Write). block_writes chunks ++ ws) second ∙ sym (blocks_joined chunks (flat_map copy_blocks xs ++ (flat_map top_blocks xs ++ (heads ++ two))))

-- ---- Their ranges

-- a dataset's chunks and its index's blocks at new places, as blocks
module _ (limit : ℕ) (img : List ℕ) (t : Trio) (h : IsPlannedSet limit (planned_of t)) (high : limit ≤ 2 ^ 40) (source : IsSource img t.reading) where
  abbrev x : PlannedSet
  x = planned_of t

  abbrev bytes : ℕ
  bytes = chunk_bytes t.reading.dataset

  behind_are : block_ranges (chunk_writes img x) ++ block_ranges (copy_blocks x) ≡ plain (behind_ranges t.set)
  behind_are =
      let tight = set_tight t.set h.packed in
      let news : block_ranges (copy_blocks x) ≡ plain (fresh t.set.moves) = sym (plain_of_blocks t.set.copies) ∙ ap plain tight.blocks in
      let chunks : block_ranges (chunk_writes img x) ≡ plain (chunks_in (chunk_bytes t.set.dataset) t.set.table) =
      chunks_plain bytes img t.set.first.end t.reading.table source.chunks (omega (arith, set_end limit x h, h.within, high))
      ∙ (λ i. plain (chunks_in (sym (bytes_same t.reading.dataset t.set.dataset h.same) i) (sym h.table i))) in
      (λ i. chunks i ++ news i) ∙ sym (map-append (λ (u : Used). block_at u.place u.len) (chunks_in (chunk_bytes t.set.dataset) t.set.table) (fresh t.set.moves))

  pub inside : All (StandsIn img) (set_chunks x)
  inside = copied_inside bytes img t.set.first.end t.reading.table source.chunks

front_plain : (x : PackedSet) → plain (front_ranges x) ≡ front_ranges x
front_plain x = ap (λ (us : List Used). block_at x.place (length (spelled_header x.dataset)) ∷ us) (tops_plain x.dataset.layout.index x.dataset.layout.address x.block)

ranges_joined : (xs ys : List (ℕ × List ℕ)) → block_ranges (xs ++ ys) ≡ block_ranges xs ++ block_ranges ys
ranges_joined xs ys = map-append range_of xs ys

chunks_joined : (img : List ℕ) (xs ys : List Copied) → chunk_blocks img (xs ++ ys) ≡ chunk_blocks img xs ++ chunk_blocks img ys
chunks_joined img xs ys = map-append (λ (c : Copied). (c.to, range img c.from c.len)) xs ys

plain_joined : (us vs : List Used) → plain (us ++ vs) ≡ plain us ++ plain vs
plain_joined us vs = map-append (λ (u : Used). block_at u.place u.len) us vs

module _ (limit : ℕ) (img : List ℕ) (high : limit ≤ 2 ^ 40) where
  abbrev chunk_ranges : List Trio → List Used
  chunk_ranges ts = block_ranges (chunk_blocks img (flat_map set_chunks (plans_of ts)))

  abbrev copy_ranges : List Trio → List Used
  copy_ranges ts = block_ranges (flat_map copy_blocks (plans_of ts))

  abbrev top_ranges : List Trio → List Used
  top_ranges ts = block_ranges (flat_map top_blocks (plans_of ts))

  abbrev head_ranges : List Trio → List Used
  head_ranges ts = block_ranges (map head_block (plans_of ts))

  abbrev behinds : List Trio → List Used
  behinds ts = flat_map behind_ranges (sets_of (plans_of ts))

  abbrev fronts : List Trio → List Used
  fronts ts = flat_map front_ranges (sets_of (plans_of ts))

  chunks_first : (t : Trio) (ts : List Trio) → chunk_ranges (t ∷ ts) ≡ block_ranges (chunk_writes img (planned_of t)) ++ chunk_ranges ts
  chunks_first t ts =
      ap block_ranges (chunks_joined img (set_chunks (planned_of t)) (flat_map set_chunks (plans_of ts))) ∙ ranges_joined (chunk_writes img (planned_of t)) (chunk_blocks img (flat_map set_chunks (plans_of ts)))

  copies_first : (t : Trio) (ts : List Trio) → copy_ranges (t ∷ ts) ≡ block_ranges t.set.copies ++ copy_ranges ts
  copies_first t ts = ranges_joined t.set.copies (flat_map copy_blocks (plans_of ts))

  tops_first : (t : Trio) (ts : List Trio) → top_ranges (t ∷ ts) ≡ block_ranges (own_blocks t.set.tops) ++ top_ranges ts
  tops_first t ts = ranges_joined (own_blocks t.set.tops) (flat_map top_blocks (plans_of ts))

  pub behind_part : (ts : List Trio) → AllByRecursion (IsPlannedSet limit) (plans_of ts) → AllByRecursion (λ (t : Trio). IsSource img t.reading) ts → AreAmong (chunk_ranges ts ++ copy_ranges ts) (plain (behinds ts))
  behind_part [] h s = part_none []
  behind_part (t ∷ ts) h s =
      let a : List Used = block_ranges (chunk_writes img (planned_of t)) in
      let b : List Used = block_ranges t.set.copies in
      let one : AreAmong (a ++ b) (plain (behind_ranges t.set)) = part_as (a ++ b) (plain (behind_ranges t.set)) (behind_are limit img t h.0 high s.0) in
      let swapped : AreAmong ((a ++ chunk_ranges ts) ++ (b ++ copy_ranges ts)) ((a ++ b) ++ (chunk_ranges ts ++ copy_ranges ts)) =
      part_more (a ++ chunk_ranges ts) (b ++ copy_ranges ts) a b (chunk_ranges ts) (copy_ranges ts) (part_itself (a ++ chunk_ranges ts)) (part_itself (b ++ copy_ranges ts)) in
      let whole : AreAmong ((a ++ chunk_ranges ts) ++ (b ++ copy_ranges ts)) (plain (behind_ranges t.set) ++ plain (behinds ts)) =
      part_onward ((a ++ chunk_ranges ts) ++ (b ++ copy_ranges ts)) ((a ++ b) ++ (chunk_ranges ts ++ copy_ranges ts)) (plain (behind_ranges t.set) ++ plain (behinds ts)) swapped
      (part_joined (a ++ b) (chunk_ranges ts ++ copy_ranges ts) (plain (behind_ranges t.set)) (plain (behinds ts)) one (behind_part ts h.1 s.1)) in
      subst (λ (us : List Used). AreAmong us (plain (behinds (t ∷ ts)))) (λ i. sym (chunks_first t ts) i ++ sym (copies_first t ts) i)
      (subst (λ (us : List Used). AreAmong ((a ++ chunk_ranges ts) ++ (b ++ copy_ranges ts)) us) (sym (plain_joined (behind_ranges t.set) (behinds ts))) whole)

  pub front_part : (ts : List Trio) → AllByRecursion TopsWritten (sets_of (plans_of ts)) → AreAmong (top_ranges ts ++ head_ranges ts) (plain (fronts ts))
  front_part [] w = part_none []
  front_part (t ∷ ts) w =
      let a : List Used = block_ranges (own_blocks t.set.tops) in
      let own : Used = block_at t.set.place (length (spelled_header t.set.dataset)) in
      let b : List Used = own ∷ [] in
      let tops : List Used = tops_of t.set.dataset.layout.index t.set.dataset.layout.address t.set.block in
      let one : AreAmong (a ++ b) (front_ranges t.set) =
      part_onward (a ++ b) (b ++ a) (front_ranges t.set) (part_turned a b) (part_joined b a b tops (part_itself b) (w.0).part) in
      let swapped : AreAmong ((a ++ top_ranges ts) ++ (b ++ head_ranges ts)) ((a ++ b) ++ (top_ranges ts ++ head_ranges ts)) =
      part_more (a ++ top_ranges ts) (b ++ head_ranges ts) a b (top_ranges ts) (head_ranges ts) (part_itself (a ++ top_ranges ts)) (part_itself (b ++ head_ranges ts)) in
      let whole : AreAmong ((a ++ top_ranges ts) ++ (b ++ head_ranges ts)) (front_ranges t.set ++ plain (fronts ts)) =
      part_onward ((a ++ top_ranges ts) ++ (b ++ head_ranges ts)) ((a ++ b) ++ (top_ranges ts ++ head_ranges ts)) (front_ranges t.set ++ plain (fronts ts)) swapped
      (part_joined (a ++ b) (top_ranges ts ++ head_ranges ts) (front_ranges t.set) (plain (fronts ts)) one (front_part ts w.1)) in
      subst (λ (us : List Used). AreAmong us (plain (fronts (t ∷ ts)))) (λ i. sym (tops_first t ts) i ++ (b ++ head_ranges ts))
      (subst (λ (us : List Used). AreAmong ((a ++ top_ranges ts) ++ (b ++ head_ranges ts)) us) (ap (λ (us : List Used). us ++ plain (fronts ts)) (sym (front_plain t.set)) ∙ sym (plain_joined (front_ranges t.set) (fronts ts))) whole)

  -- each range behind all blocks in place is written
  pub behind_back : (ts : List Trio) → AllByRecursion (IsPlannedSet limit) (plans_of ts) → AllByRecursion (λ (t : Trio). IsSource img t.reading) ts → AllAmong (plain (behinds ts)) (chunk_ranges ts ++ copy_ranges ts)
  behind_back [] h s u a = absurd a
  behind_back (t ∷ ts) h s u a =
      subst (λ (us : List Used). Among u us) (λ i. sym (chunks_first t ts) i ++ sym (copies_first t ts) i)
      (go (behind_back ts h.1 s.1 u) (among_split u (plain (behind_ranges t.set)) (plain (behinds ts)) (subst (λ (us : List Used). Among u us) (plain_joined (behind_ranges t.set) (behinds ts)) a)))
    where
      c : List Used
      c = block_ranges (chunk_writes img (planned_of t))

      b : List Used
      b = block_ranges t.set.copies

      own : Among u c ⊎ Among u b → Among u ((c ++ chunk_ranges ts) ++ (b ++ copy_ranges ts))
      own (inl e) = among_left u (c ++ chunk_ranges ts) (b ++ copy_ranges ts) (among_left u c (chunk_ranges ts) e)
      own (inr e) = among_right u (c ++ chunk_ranges ts) (b ++ copy_ranges ts) (among_left u b (copy_ranges ts) e)

      other : Among u (chunk_ranges ts) ⊎ Among u (copy_ranges ts) → Among u ((c ++ chunk_ranges ts) ++ (b ++ copy_ranges ts))
      other (inl e) = among_left u (c ++ chunk_ranges ts) (b ++ copy_ranges ts) (among_right u c (chunk_ranges ts) e)
      other (inr e) = among_right u (c ++ chunk_ranges ts) (b ++ copy_ranges ts) (among_right u b (copy_ranges ts) e)

      go : (Among u (plain (behinds ts)) → Among u (chunk_ranges ts ++ copy_ranges ts)) → Among u (plain (behind_ranges t.set)) ⊎ Among u (plain (behinds ts)) → Among u ((c ++ chunk_ranges ts) ++ (b ++ copy_ranges ts))
      go later (inl e) = own (among_split u c b (subst (λ (us : List Used). Among u us) (sym (behind_are limit img t h.0 high s.0)) e))
      go later (inr e) = other (among_split u (chunk_ranges ts) (copy_ranges ts) (later e))

  none_first : (us vs : List Used) → us ++ vs ≡ [] → (us ≡ []) × (vs ≡ [])
  none_first [] vs e = (refl, e)
  none_first (u ∷ us) vs e = absurd (omega (arith, ap length e))

  -- where there is nothing behind them all of these are written
  pub front_back : (ts : List Trio) → AllByRecursion TopsWritten (sets_of (plans_of ts)) → behinds ts ≡ [] → AllAmong (plain (fronts ts)) (top_ranges ts ++ head_ranges ts)
  front_back [] w none u a = absurd a
  front_back (t ∷ ts) w none u a =
      subst (λ (us : List Used). Among u us) (λ i. sym (tops_first t ts) i ++ (own ∷ head_ranges ts))
      (go (front_back ts w.1 (none_first (behind_ranges t.set) (behinds ts) none).1 u) (among_split u (front_ranges t.set) (plain (fronts ts)) (subst (λ (us : List Used). Among u us) (plain_joined (front_ranges t.set) (fronts ts) ∙ ap (λ (us : List Used). us ++ plain (fronts ts)) (front_plain t.set)) a)))
    where
      own : Used
      own = block_at t.set.place (length (spelled_header t.set.dataset))

      c : List Used
      c = block_ranges (own_blocks t.set.tops)

      all : List Used
      all = (c ++ top_ranges ts) ++ (own ∷ head_ranges ts)

      both : (behind_ranges t.set ≡ []) × (behinds ts ≡ [])
      both = none_first (behind_ranges t.set) (behinds ts) none

      other : Among u (top_ranges ts) ⊎ Among u (head_ranges ts) → Among u all
      other (inl e) = among_left u (c ++ top_ranges ts) (own ∷ head_ranges ts) (among_right u c (top_ranges ts) e)
      other (inr e) = among_right u (c ++ top_ranges ts) (own ∷ head_ranges ts) (inr e)

      first : (own ≡ u) ⊎ Among u (tops_of t.set.dataset.layout.index t.set.dataset.layout.address t.set.block) → Among u all
      first (inl e) = among_right u (c ++ top_ranges ts) (own ∷ head_ranges ts) (inl e)
      first (inr e) = among_left u (c ++ top_ranges ts) (own ∷ head_ranges ts) (among_left u c (top_ranges ts) ((w.0).whole both.0 u e))

      go : (Among u (plain (fronts ts)) → Among u (top_ranges ts ++ head_ranges ts)) → Among u (front_ranges t.set) ⊎ Among u (plain (fronts ts)) → Among u all
      go later (inl e) = first e
      go later (inr e) = other (among_split u (top_ranges ts) (head_ranges ts) (later e))

  pub all_inside : (ts : List Trio) → AllByRecursion (IsPlannedSet limit) (plans_of ts) → AllByRecursion (λ (t : Trio). IsSource img t.reading) ts → All (StandsIn img) (flat_map set_chunks (plans_of ts))
  all_inside [] h s = All-nil (StandsIn img)
  all_inside (t ∷ ts) h s = All-append (StandsIn img) (set_chunks (planned_of t)) (flat_map set_chunks (plans_of ts)) (inside limit img t h.0 high s.0) (all_inside ts h.1 s.1)

-- ---- What stands of each

pub record Stands (img to : List ℕ) (t : Trio) : Type 0 where
  pub set : SetHolds to t.set
  pub chunks : Holds to (chunk_blocks img (set_chunks (planned_of t)))

pub each_stands : (img to : List ℕ) (ts : List Trio) → Holds to (chunk_blocks img (flat_map set_chunks (plans_of ts))) → Holds to (flat_map copy_blocks (plans_of ts)) → Holds to (flat_map top_blocks (plans_of ts)) → Holds to (map head_block (plans_of ts))
    → AllByRecursion (Stands img to) ts
each_stands img to [] chunks copies tops heads = tt
each_stands img to (t ∷ ts) chunks copies tops heads =
    let all : Holds to (chunk_blocks img (set_chunks (planned_of t)) ++ chunk_blocks img (flat_map set_chunks (plans_of ts))) = subst (Holds to) (chunks_joined img (set_chunks (planned_of t)) (flat_map set_chunks (plans_of ts))) chunks in
    let own : List (ℕ × List ℕ) = chunk_blocks img (set_chunks (planned_of t)) in
    let rest : List (ℕ × List ℕ) = chunk_blocks img (flat_map set_chunks (plans_of ts)) in (
      record {
        set = record { header = heads.0; copies = Holds-front to t.set.copies (flat_map copy_blocks (plans_of ts)) copies; tops = Holds-front to (own_blocks t.set.tops) (flat_map top_blocks (plans_of ts)) tops };
        chunks = Holds-front to own rest all;
      },
      each_stands img to ts (Holds-rest to own rest all) (Holds-rest to t.set.copies (flat_map copy_blocks (plans_of ts)) copies) (Holds-rest to (own_blocks t.set.tops) (flat_map top_blocks (plans_of ts)) tops) heads.1,
    )
