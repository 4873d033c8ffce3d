-- A flush up to its header piece.
use Rattle.std.proofs.Common.{◌≡◌, ◌⊎◌, ℕ, ◌+◌, ◌<◌, ◌≤◌, true, false, List, [], ◌∷◌, ◌++◌, length, get_or, Ok, refl, sym, ◌∙◌, ap, subst, inl, inr, arith}
use Rattle.std.specs.Prelude.{map}
use Rattle.h5w_model.specs.Numbers.{range, undefined}
use Rattle.h5w_model.specs.Images.{apply, image, AllMiss}
use Rattle.h5w_model.specs.Programs.{eval, Visit}
use Rattle.h5w_model.specs.Datasets.{Described}
use Rattle.h5w_model.specs.Tables.{InPlace, in_place, needed_keys}
use Rattle.h5w_model.specs.Findings.{Used, the_superblock, chunk_bytes}
use Rattle.h5w_model.specs.Prefixed.{StaysDefined}
use Rattle.h5w_model.specs.declared.cell.Key.{Key}
use Rattle.h5w_model.specs.declared.root.Super.{Super}
use Rattle.h5w_model.specs.declared.piece.Write.{Write}
use Rattle.h5w_model.proofs.ImageLemmas.{image-grows, Apart-part}
use Rattle.h5w_laws.proofs.ProgramLemmas.{same_eval, same_visits}
use Rattle.h5w_step_laws.specs.Ranges.{Among, AllAmong, AllEndBy, AreApart, Disjoint, MissesBlocks, blocks_of}
use Rattle.h5w_step_laws.specs.Indexes.{IsBehind, behind_visit}
use Rattle.h5w_step_laws.specs.Needed.{AreFew}
use Rattle.h5w_step_laws.specs.Headers.{IsSized}
use Rattle.h5w_step_laws.proofs.RangeLemmas.{among_left, among_right, among_split}
use Rattle.h5w_step_laws.proofs.IndexLaws.{visited_behind, place_same}
use Rattle.h5w_step_laws.proofs.NeededLaws.{table_laws}
use Rattle.h5w_space.specs.Space.{Space}
use Rattle.h5w_step_laws.specs.Moments.{Moment, all_used, Represents, HasCells, row_of, column_of}
use Rattle.h5w_step_laws.specs.Steps.{Ends, ends}
use Rattle.h5w_step_laws.specs.Plans.{UnseenRange}
use Rattle.h5w_step_laws.proofs.PartLemmas.{apart_sym, disjoint_part, disjoint_some}
use Rattle.h5w_step_laws.proofs.MomentLemmas.{super_parts, few, header_of, in_behind, parts_of}
use Rattle.h5w_step_laws.proofs.StepRepresents.{ends_missed}
use Rattle.h5w_step_laws.proofs.PlanLaws.{plan_leads}
use Rattle.h5w_flush_laws.specs.Knowledge.{HeldMissed, Knows}
use Rattle.h5w_flush_laws.proofs.SpaceLemmas.{meet_nowhere}
use Rattle.h5w_flush_laws.specs.Spaces.{extent_of}
use Rattle.h5w_flush_laws.specs.Parts.{Parts, fresh_of, block_writes, block_ranges, committed, flushed_to, copied, ended, AreEnded, SaysInPlace, EachSays, IsFlush, AllUnseen}
use Rattle.h5w_flush_laws.proofs.SpaceLemmas.{taken_disjoint}
use Rattle.h5w_flush_laws.proofs.KeyLemmas.{table_behind, stay_defined, needed_asked, found_table}
use Rattle.h5w_flush_laws.proofs.PartLemmas.{parts_among, parts_count, apart_kinds}
use Rattle.h5w_flush_laws.proofs.EarlyLemmas.{Stage, header_kept, kept_itself, unseen_stage, fresh_unseen, blocks_unseen, blocks_are, blocks_whole, blocks_miss, blocks_off_held, cells_over}
use Rattle.h5w_flush_laws.proofs.IndexLemmas.{behind_of_other, BehindBy, behind_by_missed, turned, Turning}
use Rattle.h5w_flush_laws.proofs.CellLemmas.{HasChunks, all_chunks_missed, cell_of_value, cell_same, more_values, first_values}

-- ---- What blocks in place say, after a write that misses them

pub says_missed : (w : Write) (img : List ℕ) (end : ℕ) (d : Described) (blocks : InPlace) (fixed : List Used) → SaysInPlace img d blocks fixed → end ≤ length img → AllEndBy end fixed → MissesBlocks w fixed
    → SaysInPlace (apply w img) d blocks fixed
says_missed w img end d blocks fixed s fits by_end misses =
    let same = place_same w img end d fixed s.looks fits by_end misses in
    record {
      says = same_eval img (apply w img) (in_place d) same ∙ s.says;
      looks = s.looks ∙ ap (λ (vs : List Visit). blocks_of vs) (sym (same_visits img (apply w img) (in_place d) same));
    }

-- blocks in place are read somewhere, of a dataset of this index and these chunks
pub record Seen (d : Described) (blocks : InPlace) : Type 0 where
  pub of : Described
  pub where_read : List ℕ
  pub read : eval where_read (in_place of) ≡ Ok blocks
  pub index : of.layout.index ≡ d.layout.index
  pub bytes : chunk_bytes of ≡ chunk_bytes d

pub seen_behind : (img : List ℕ) (end : ℕ) (d : Described) (blocks : InPlace) (behind : List Used) → Seen d blocks → eval img (behind_visit end (chunk_bytes d) blocks) ≡ Ok behind → IsBehind img end d blocks behind
seen_behind img end d blocks behind s h =
    behind_of_other img end s.of d blocks behind (sym s.index) (sym s.bytes)
    (visited_behind img s.where_read end s.of blocks behind s.read (subst (λ n. eval img (behind_visit end n blocks) ≡ Ok behind) (sym s.bytes) h))

pub seen_missed : (w : Write) (img : List ℕ) (end : ℕ) (d : Described) (blocks : InPlace) (behind : List Used) (f : Key → ℕ) → Seen d blocks → BehindBy img end d blocks behind f → end ≤ length img → MissesBlocks w behind
    → BehindBy (apply w img) end d blocks behind f
seen_missed w img end d blocks behind f s b fits misses =
    let other : BehindBy img end s.of blocks behind f = record { stands = behind_of_other img end d s.of blocks behind s.index s.bytes b.stands; answers = λ key n. b.answers key (λ is. n (s.index ∙ is)) } in
    let left = behind_by_missed w img s.where_read end s.of blocks behind f s.read other fits misses in
    record { stands = behind_of_other (apply w img) end s.of d blocks behind (sym s.index) (sym s.bytes) left.stands; answers = λ key n. left.answers key (λ is. n (sym s.index ∙ is)) }

-- ---- The superblock

-- a file with another end
abbrev pub with_end : ℕ → Moment → Moment
with_end e m = record m { super = record (m.super) { end = e } }

pub end_stage : (img name : List ℕ) (m : Moment) (held : List Used) (e : ℕ) (ws : List Write) → Represents img name m → AreEnded m.super e ws → m.super.end ≤ e → e ≤ length img → Stage img m held ws (with_end e m) held
end_stage img name m held e [] r same rises fits = record { plan = (ap (λ n. with_end n m) same, refl); header = kept_itself img m.place }
end_stage img name m held e (w ∷ ws) r is rises fits = subst (λ (vs : List Write). Stage img m held (w ∷ vs) (with_end e m) held) (sym is.1) one
  where
    safe : Ends img m w (with_end e m)
    safe = record {
      is = refl;
      place = is.0.place;
      len = is.0.len;
      reads = is.0.reads;
      root = refl;
      swmr = (super_parts (length img) (range img 0 48) m.super r.super).swmr;
      rises = rises;
      there = fits;
    }

    one : Stage img m held (w ∷ []) (with_end e m) held
    one = record {
      plan = (with_end e m, held, ends safe refl, refl, (refl, refl));
      header = header_kept img name m w r (λ u a b. ends_missed img m (with_end e m) w r.apart safe u (among_right u m.root (m.header ++ (m.fixed ++ m.behind)) (among_left u m.header (m.fixed ++ m.behind) a)));
    }

-- it meets nothing that the superblock does not
pub end_misses : (s : Super) (e : ℕ) (ws : List Write) (u : Used) → AreEnded s e ws → AreApart the_superblock u → AllMiss ws u.place u.len
end_misses s e [] u is apart = tt
end_misses s e (w ∷ ws) u is apart =
    let place = is.0.place in
    let len = is.0.len in (
      Apart-part 0 48 u.place u.len w.at (length w.piece) u.place u.len (omega arith) (omega (arith, place, len)) (omega arith) (omega arith) apart,
      subst (λ (vs : List Write). AllMiss vs u.place u.len) (sym is.1) tt,
    )

-- ---- What holds before the blocks in place are written

module _ (img name : List ℕ) (m : Moment) (old : Key → ℕ) (s t : Space) (f : Parts) (k : Knows img name m old s) (i : IsFlush img m old s f t) (missed : HeldMissed k.held f.writes) where
  pub all_apart : Disjoint (fresh_of f ++ all_used m)
  all_apart = taken_disjoint s i.between (fresh_of f) (all_used m) i.taken k.live k.file.apart

  pub after_among : AllAmong (all_used (flushed_to m f)) (fresh_of f ++ all_used m)
  after_among = parts_among m.root m.header (m.fixed ++ m.behind) (f.fixed ++ f.behind) (fresh_of f) i.index.known

  pub after_apart : Disjoint (all_used (flushed_to m f))
  after_apart = disjoint_part (fresh_of f ++ all_used m) (all_used (flushed_to m f)) all_apart after_among (λ p. parts_count m.root m.header (m.fixed ++ m.behind) (f.fixed ++ f.behind) (fresh_of f) p (i.index.counts p))

  -- new rows and copies

  pub copies_range : (u : Used) → Among u (block_ranges f.copies) → Among u (fresh_of f)
  copies_range u a = among_right u f.chunks (block_ranges f.copies) a

  pub rows_stage : Stage img m k.held f.writes m k.held
  rows_stage = unseen_stage img name m k.held f.writes k.file i.written.unseen missed

  pub file_rows : Represents (image img f.writes) name m
  file_rows = plan_leads img name m m k.held k.held f.writes k.file rows_stage.plan

  copies_fresh : (u : Used) → Among u (block_ranges f.copies) → UnseenRange m k.held u.place u.len
  copies_fresh u a = fresh_unseen img name m k.held s i.between (fresh_of f) k.file k.live k.holding i.taken u (copies_range u a)

  pub copies_stage : Stage (image img f.writes) m k.held (block_writes f.copies) m k.held
  copies_stage = unseen_stage (image img f.writes) name m k.held (block_writes f.copies) file_rows (blocks_unseen m k.held f.copies copies_fresh) (blocks_off_held m k.held f.copies copies_fresh)

  pub file_copied : Represents (copied img f) name m
  file_copied = plan_leads (image img f.writes) name m m k.held k.held (block_writes f.copies) file_rows copies_stage.plan

  -- the new end is in the image

  pub end_rises : m.super.end ≤ f.end
  end_rises = omega (arith, k.ended, i.taken.rises, i.end)

  pub fresh_there : (u : Used) → Among u (fresh_of f) → u.place + u.len ≤ length (copied img f)
  fresh_there u a = go (among_split u f.chunks (block_ranges f.copies) a)
    where
      go : Among u f.chunks ⊎ Among u (block_ranges f.copies) → u.place + u.len ≤ length (copied img f)
      go (inl b) = omega (arith, i.written.whole u b, image-grows (image img f.writes) (block_writes f.copies))
      go (inr b) = blocks_whole (image img f.writes) f.copies u b (disjoint_some (fresh_of f) i.taken.apart u a)

  pub end_there : f.end ≤ length (copied img f)
  end_there = go i.taken.end
    where
      go : (i.between.end ≡ s.end) ⊎ ((u : Used) × Among u (fresh_of f) × (u.place + u.len ≡ i.between.end)) → f.end ≤ length (copied img f)
      go (inl e) = omega (arith, i.end, e, k.covered, image-grows img f.writes, image-grows (image img f.writes) (block_writes f.copies))
      go (inr e) = omega (arith, i.end, e.2, fresh_there e.0 e.1)

  -- the superblock

  pub ended_stage : Stage (copied img f) m k.held f.supers (with_end f.end m) k.held
  ended_stage = end_stage (copied img f) name m k.held f.end f.supers file_copied i.super end_rises end_there

  pub file_ended : Represents (ended img f) name (with_end f.end m)
  file_ended = plan_leads (copied img f) name m (with_end f.end m) k.held k.held f.supers file_copied ended_stage.plan

  pub end_there_too : f.end ≤ length (ended img f)
  end_there_too = omega (arith, end_there, image-grows (copied img f) f.supers)

  -- all ranges after the flush end by the new end

  pub after_ends : AllEndBy f.end (f.fixed ++ f.behind)
  after_ends u a = go (among_split u (fresh_of f) (m.fixed ++ m.behind) (i.index.known u a))
    where
      go : Among u (fresh_of f) ⊎ Among u (m.fixed ++ m.behind) → u.place + u.len ≤ f.end
      go (inl b) = let live = i.taken.live u b in let within = live.within in let end = i.end in omega arith
      go (inr b) = omega (arith, k.file.index.ends u b, end_rises)

  -- what the index says

  pub seen : Seen m.dataset i.index.blocks
  seen = go f.in_place i.index.each_says i.index.said
    where
      go : (ws : List Write) → EachSays m.dataset m.fixed i.index.blocks f.fixed (ended img f) ws → (ws ≡ [] → SaysInPlace (copied img f) (committed m.dataset f.rows f.named) i.index.blocks f.fixed) → Seen m.dataset i.index.blocks
      go [] says said = record { of = committed m.dataset f.rows f.named; where_read = copied img f; read = (said refl).says; index = refl; bytes = refl }
      go (w ∷ ws) says said = record { of = m.dataset; where_read = apply w (ended img f); read = says.1.says; index = refl; bytes = refl }

  pub behind_copied : BehindBy (copied img f) f.end m.dataset i.index.blocks f.behind f.address
  behind_copied = record { stands = seen_behind (copied img f) f.end m.dataset i.index.blocks f.behind seen i.index.behind; answers = i.index.answers }

  pub super_off : (u : Used) → Among u (f.fixed ++ f.behind) → AreApart the_superblock u
  super_off u a = (parts_of (flushed_to m f) after_apart).super u (among_right u m.root (m.header ++ (f.fixed ++ f.behind)) (among_right u m.header (f.fixed ++ f.behind) a))

  pub supers_miss : (u : Used) → Among u (f.fixed ++ f.behind) → AllMiss f.supers u.place u.len
  supers_miss u a = end_misses m.super f.end f.supers u i.super (super_off u a)

  pub behind_ended : BehindBy (ended img f) f.end m.dataset i.index.blocks f.behind f.address
  behind_ended = go (copied img f) f.supers behind_copied end_there (λ u a. supers_miss u (among_right u f.fixed f.behind a))
    where
      go : (img : List ℕ) (ws : List Write) → BehindBy img f.end m.dataset i.index.blocks f.behind f.address → f.end ≤ length img → ((u : Used) → Among u f.behind → AllMiss ws u.place u.len)
          → BehindBy (image img ws) f.end m.dataset i.index.blocks f.behind f.address
      go img [] b fits misses = b
      go img (w ∷ ws) b fits misses =
          go (apply w img) ws (seen_missed w img f.end m.dataset i.index.blocks f.behind f.address seen b fits (λ u a block. (misses u a).0)) (omega (arith, fits, image-grows img (w ∷ []))) (λ u a. (misses u a).1)

  pub said_ended : f.in_place ≡ [] → SaysInPlace (ended img f) (committed m.dataset f.rows f.named) i.index.blocks f.fixed
  said_ended h = go (copied img f) f.supers (i.index.said h) end_there (λ u a. supers_miss u (among_left u f.fixed f.behind a))
    where
      go : (img : List ℕ) (ws : List Write) → SaysInPlace img (committed m.dataset f.rows f.named) i.index.blocks f.fixed → f.end ≤ length img → ((u : Used) → Among u f.fixed → AllMiss ws u.place u.len)
          → SaysInPlace (image img ws) (committed m.dataset f.rows f.named) i.index.blocks f.fixed
      go img [] b fits misses = b
      go img (w ∷ ws) b fits misses =
          go (apply w img) ws (says_missed w img f.end (committed m.dataset f.rows f.named) i.index.blocks f.fixed b fits (λ u a. after_ends u (among_left u f.fixed f.behind a)) (λ u a block. (misses u a).0)) (omega (arith, fits, image-grows img (w ∷ []))) (λ u a. (misses u a).1)

  -- the cells

  pub sized : IsSized m.dataset
  sized = (header_of img name m k.file).sized

  pub has_chunks : HasChunks (flushed_to m f)
  has_chunks =
      let e : Described = committed m.dataset f.rows f.named in
      record {
        sized = record { rows = sized.rows; cols = sized.cols; size = sized.size; bytes = sized.bytes };
        chunks =
            table_laws.behind (copied img f) f.end e i.index.blocks f.behind (map f.address (needed_keys e)) (behind_of_other (copied img f) f.end m.dataset e i.index.blocks f.behind refl refl behind_copied.stands) i.few
            (table_behind (copied img f) e i.index.blocks f.address i.few i.index.answers);
      }

  pub cells_copied : HasCells (copied img f) (flushed_to m f)
  cells_copied =
      cells_over (image img f.writes) (flushed_to m f) (block_writes f.copies) sized.size
      (all_chunks_missed (block_writes f.copies) (flushed_to m f) has_chunks
      (λ v a chunk. blocks_miss f.copies v.place v.len
      (λ u b. apart_kinds (fresh_of f ++ all_used m) u v all_apart (among_left u (fresh_of f) (all_used m) (copies_range u b)) (after_among v (in_behind (flushed_to m f) v a)) (blocks_are f.copies u b) chunk)))
      i.written.cells

  pub cells_ended : HasCells (ended img f) (flushed_to m f)
  cells_ended =
      cells_over (copied img f) (flushed_to m f) f.supers sized.size
      (all_chunks_missed f.supers (flushed_to m f) has_chunks (λ v a chunk. supers_miss v (among_right v f.fixed f.behind a))) cells_copied

  -- the values of before, by the new map
  pub cells_turned : HasCells (ended img f) (turned (with_end f.end m) f.fixed f.behind f.address)
  cells_turned n low =
      let rises = i.rises in
      cell_same (ended img f) m.place m.dataset f.rows f.named f.address (row_of m n) (column_of m n) sized (omega arith) (cell_of_value m.dataset n (subst (λ c. n < c) k.file.count low))
      ∙ cells_ended n (more_values m.values f.more n low) ∙ first_values m.values f.more n low

  pub turning : Turning (ended img f) name (with_end f.end m) k.held f.fixed f.behind i.index.blocks f.address
  turning = record {
    file = file_ended;
    added = i.index.added;
    begins = i.index.begins;
    stands = behind_ended;
    off = λ u v a b. off u v a (among_split v m.fixed i.index.added (subst (λ (us : List Used). Among v us) i.index.begins b));
    clear = λ u v a block b chunk. clear u v a block chunk (among_split v (fresh_of f) (m.fixed ++ m.behind) (i.index.known v (among_right v f.fixed f.behind b)));
    ends = λ u a. after_ends u (among_left u f.fixed f.behind a);
    apart = after_apart;
    addresses = λ n low. stays n (found_table img m.dataset old m.table few_now k.index k.file.table) low;
    cells = cells_turned;
  }
    where
      held_fresh : (x u : Used) → Among x (fresh_of f) → Among u k.held → AreApart x u
      held_fresh x u a b = meet_nowhere x u (disjoint_some (fresh_of f) i.taken.apart x a) (k.holding.some u b) (i.taken.off_live x (extent_of u) a (k.holding.live u b))

      held_fixed : (u v : Used) → Among u k.held → Among v m.fixed → AreApart u v
      held_fixed u v a b = k.holding.off_front u v a (inr (among_right v m.header m.fixed b))

      off : (u v : Used) → Among u k.held → Among v m.fixed ⊎ Among v i.index.added → AreApart u v
      off u v a (inl b) = held_fixed u v a b
      off u v a (inr b) = apart_sym v u (held_fresh v u (i.index.added_fresh v b) a)

      old_clear : (u v : Used) → Among u k.held → u.chunk ≡ false → v.chunk ≡ true → Among v m.fixed ⊎ Among v m.behind → AreApart u v
      old_clear u v a block chunk (inl b) = held_fixed u v a b
      old_clear u v a block chunk (inr b) = k.holding.clear u v a block b chunk

      clear : (u v : Used) → Among u k.held → u.chunk ≡ false → v.chunk ≡ true → Among v (fresh_of f) ⊎ Among v (m.fixed ++ m.behind) → AreApart u v
      clear u v a block chunk (inl b) = apart_sym v u (held_fresh v u b a)
      clear u v a block chunk (inr b) = old_clear u v a block chunk (among_split v m.fixed m.behind b)

      few_now : AreFew m.dataset
      few_now = few img name m k.file

      stays : (n : ℕ) → m.table ≡ map old (needed_keys m.dataset) → n < length m.table → StaysDefined (get_or m.table n undefined) (get_or (map f.address (needed_keys m.dataset)) n undefined)
      stays n is low =
          subst (λ (xs : List ℕ). StaysDefined (get_or xs n undefined) (get_or (map f.address (needed_keys m.dataset)) n undefined)) (sym is)
          (stay_defined m.dataset old f.address (needed_keys m.dataset) (needed_asked m.dataset few_now) i.index.kept n (subst (λ (xs : List ℕ). n < length xs) is low))

pub unseen_miss : (m : Moment) (ws : List Write) (u : Used) → AllUnseen m ws → Among u (all_used m) → u.chunk ≡ false → AllMiss ws u.place u.len
unseen_miss m [] u h a block = tt
unseen_miss m (w ∷ ws) u h a block = (h.0.off_blocks u a block, unseen_miss m ws u h.1 a block)
