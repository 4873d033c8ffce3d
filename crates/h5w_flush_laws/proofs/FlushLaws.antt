-- A flush is safe, and the file after it is known.
use Rattle.std.proofs.Common.{◌≡◌, ◌≢◌, ◌⊎◌, ℕ, ◌<◌, ◌≤◌, List, [], ◌∷◌, ◌++◌, length, Option, Some, None, refl, sym, ◌∙◌, ap, subst, inl, inr, arith}
use Rattle.std.specs.Prelude.{unwrap_or, IfSome, ◌^◌}
use Rattle.h5w_model.specs.Numbers.{undefined}
use Rattle.h5w_model.specs.Images.{apply, image, Misses}
use Rattle.h5w_model.specs.Headers.{with_rows_bytes}
use Rattle.h5w_model.specs.Datasets.{Described}
use Rattle.h5w_model.specs.Findings.{Used, the_superblock}
use Rattle.h5w_model.specs.declared.cell.Key.{Key}
use Rattle.h5w_model.specs.declared.piece.Write.{Write}
use Rattle.h5w_model.proofs.ImageLemmas.{image-push, image-grows}
use Rattle.h5w_step_laws.specs.Ranges.{Among, AreApart}
use Rattle.h5w_step_laws.proofs.RangeLemmas.{among_left, among_right, among_split}
use Rattle.h5w_space.specs.Space.{Space, IsLive}
use Rattle.h5w_step_laws.specs.Files.{chunk_0, commit_at, LayoutInChunk0}
use Rattle.h5w_step_laws.specs.Moments.{Moment, all_used, Represents}
use Rattle.h5w_step_laws.specs.Steps.{Step}
use Rattle.h5w_step_laws.specs.Plans.{Flush}
use Rattle.h5w_step_laws.proofs.PartLemmas.{apart_sym, disjoint_two}
use Rattle.h5w_step_laws.proofs.MomentLemmas.{in_behind, parts_of}
use Rattle.h5w_step_laws.proofs.StepRepresents.{MissesEach, header_off}
use Rattle.h5w_step_laws.proofs.PlanLaws.{flush_from, flush_leads}
use Rattle.h5w_flush_laws.specs.Spaces.{extent_of}
use Rattle.h5w_flush_laws.specs.Knowledge.{HeldMissed, IsMap, KnownHeld, Knows}
use Rattle.h5w_flush_laws.proofs.KnownLaws.{holding_behind}
use Rattle.h5w_flush_laws.specs.Parts.{Parts, fresh_of, block_writes, committed, flushed_to, early_of, pieces_of, copied, ended, IsFlush}
use Rattle.h5w_flush_laws.specs.Flushes.{FlushSafe, FreedKnown, KnowsAgain, KnowsThen}
use Rattle.h5w_flush_laws.proofs.SpaceLemmas.{have_no_byte, committed_live}
use Rattle.h5w_flush_laws.proofs.PartLemmas.{fresh_off}
use Rattle.h5w_flush_laws.proofs.EarlyLemmas.{Stage, stages_join}
use Rattle.h5w_flush_laws.proofs.FlushLemmas.{with_end, says_missed, seen_missed, rows_stage, copies_stage, ended_stage, end_there_too, all_apart, after_among, after_apart, after_ends, seen}
use Rattle.h5w_flush_laws.proofs.HeaderLemmas.{last_image, early_image, Before, before_header}

module _ (img name : List ℕ) (m : Moment) (old : Key → ℕ) (s t : Space) (f : Parts) (k : Knows img name m old s) (i : IsFlush img m old s f t) (missed : HeldMissed k.held f.writes) where
  pub before : Before img name m k.held f i.index.blocks
  before = before_header img name m old s t f f.named f.in_place k i missed

  pub early_stage : Stage img m k.held (early_of f) before.last before.held
  early_stage =
      stages_join img m m before.last k.held k.held before.held f.writes (block_writes f.copies ++ (f.supers ++ f.in_place)) refl (rows_stage img name m old s t f k i missed)
      (stages_join (image img f.writes) m m before.last k.held k.held before.held (block_writes f.copies) (f.supers ++ f.in_place) refl (copies_stage img name m old s t f k i missed)
      (stages_join (copied img f) m (with_end f.end m) before.last k.held k.held before.held f.supers f.in_place refl (ended_stage img name m old s t f k i missed) before.stage))

  pub same_chunk : chunk_0 (last_image img f) m.place ≡ chunk_0 img m.place
  same_chunk = ap (λ (x : List ℕ). chunk_0 x m.place) (sym (early_image img f)) ∙ early_stage.header.chunk

  -- the header piece is that of the image before the flush
  pub same_piece : commit_at (last_image img f) m.place f.rows f.named ≡ commit_at img m.place f.rows f.named
  same_piece =
      let written : List ℕ → Write = λ b. record { at = m.place; piece = with_rows_bytes b f.rows f.named } in
      ap written same_chunk

  pub last_step : Step (image img (early_of f)) before.last before.held (commit_at img m.place f.rows f.named) (flushed_to m f) f.behind
  last_step =
      subst (λ (x : List ℕ). Step x before.last before.held (commit_at img m.place f.rows f.named) (flushed_to m f) f.behind) (sym (early_image img f))
      (subst (λ (w : Write). Step (last_image img f) before.last before.held w (flushed_to m f) f.behind) same_piece before.step)

  pub safe : Flush img m k.held (pieces_of img m f) (flushed_to m f) f.behind
  safe = flush_from img m before.last (flushed_to m f) k.held before.held f.behind (early_of f) (commit_at img m.place f.rows f.named) early_stage.plan last_step

  -- ---- The image after all pieces

  pub final_image : image img (pieces_of img m f) ≡ apply (commit_at (last_image img f) m.place f.rows f.named) (last_image img f)
  final_image =
      image-push img (early_of f) (commit_at img m.place f.rows f.named)
      ∙ ap (λ (w : Write). apply w (image img (early_of f))) (sym same_piece)
      ∙ ap (λ (x : List ℕ). apply (commit_at (last_image img f) m.place f.rows f.named) x) (early_image img f)

  pub header_misses : MissesEach (commit_at (last_image img f) m.place f.rows f.named) (the_superblock ∷ (m.root ++ (f.fixed ++ f.behind)))
  header_misses = header_off (flushed_to m f) (commit_at (last_image img f) m.place f.rows f.named) (after_apart img name m old s t f k i missed) before.lies

  pub index_missed_by_header : (u : Used) → Among u (f.fixed ++ f.behind) → Misses (commit_at (last_image img f) m.place f.rows f.named) u.place u.len
  index_missed_by_header u a = header_misses u (inr (among_right u m.root (f.fixed ++ f.behind) a))

  pub last_fits : f.end ≤ length (last_image img f)
  last_fits = omega (arith, end_there_too img name m old s t f k i missed, image-grows (ended img f) f.in_place)

  pub map_after : IsMap (apply (commit_at (last_image img f) m.place f.rows f.named) (last_image img f)) (committed m.dataset f.rows f.named) f.address
  map_after =
      let w : Write = commit_at (last_image img f) m.place f.rows f.named in
      let e : Described = committed m.dataset f.rows f.named in
      record {
        blocks = i.index.blocks;
        read = (says_missed w (last_image img f) f.end e i.index.blocks f.fixed before.says last_fits (λ u a. after_ends img name m old s t f k i missed u (among_left u f.fixed f.behind a)) (λ u a block. index_missed_by_header u (among_left u f.fixed f.behind a))).says;
        answers = (seen_missed w (last_image img f) f.end m.dataset i.index.blocks f.behind f.address (seen img name m old s t f k i missed) before.stands last_fits (λ u a block. index_missed_by_header u (among_right u f.fixed f.behind a))).answers;
      }

  -- ---- Places after it

  -- what is let go is apart from all that the file has then
  pub left_off : (l u : Used) → Among l i.left → Among u (all_used (flushed_to m f)) → AreApart l u
  left_off l u gone a = go (among_split u m.root (m.header ++ (f.fixed ++ f.behind))) a
    where
      was : Among l (fresh_of f ++ all_used m)
      was = among_right l (fresh_of f) (all_used m) (in_behind m l (i.left_before l gone))

      own : Among l (m.fixed ++ m.behind)
      own = among_right l m.fixed m.behind (i.left_before l gone)

      differ : Among u f.behind → l ≢ u
      differ b e = i.left_after l gone (subst (λ (x : Used). Among x f.behind) (sym e) b)

      fixed : Among u m.fixed ⊎ Among u i.index.added → AreApart l u
      fixed (inl b) = apart_sym u l ((parts_of m k.file.apart).fixed u l b (i.left_before l gone))
      fixed (inr b) = apart_sym u l (fresh_off m (fresh_of f) (all_apart img name m old s t f k i missed) u l (i.index.added_fresh u b) (in_behind m l (i.left_before l gone)))

      third : Among u f.fixed ⊎ Among u f.behind → AreApart l u
      third (inl b) = fixed (among_split u m.fixed i.index.added (subst (λ (us : List Used). Among u us) i.index.begins b))
      third (inr b) = disjoint_two (fresh_of f ++ all_used m) l u (all_apart img name m old s t f k i missed) was (after_among img name m old s t f k i missed u (in_behind (flushed_to m f) u b)) (differ b)

      second : Among u m.header ⊎ Among u (f.fixed ++ f.behind) → AreApart l u
      second (inl b) = apart_sym u l ((parts_of m k.file.apart).header u l b own)
      second (inr b) = third (among_split u f.fixed f.behind b)

      rest : Among u m.root ⊎ Among u (m.header ++ (f.fixed ++ f.behind)) → AreApart l u
      rest (inl b) = apart_sym u l ((parts_of m k.file.apart).root u l b (among_right l m.header (m.fixed ++ m.behind) own))
      rest (inr b) = second (among_split u m.header (f.fixed ++ f.behind) b)

      go : (Among u (m.root ++ (m.header ++ (f.fixed ++ f.behind))) → Among u m.root ⊎ Among u (m.header ++ (f.fixed ++ f.behind))) → (the_superblock ≡ u) ⊎ Among u (m.root ++ (m.header ++ (f.fixed ++ f.behind))) → AreApart l u
      go cut (inl e) = apart_sym u l (subst (λ (x : Used). AreApart x l) e ((parts_of m k.file.apart).super l (among_right l m.root (m.header ++ (m.fixed ++ m.behind)) (among_right l m.header (m.fixed ++ m.behind) own))))
      go cut (inr b) = rest (cut b)

  pub live_after : (u : Used) → Among u (all_used (flushed_to m f)) → IsLive t (extent_of u)
  live_after u a =
      i.let_go.stays_live (extent_of u) (taken (among_split u (fresh_of f) (all_used m) (after_among img name m old s t f k i missed u a))) (λ l gone. have_no_byte l u (left_off l u gone a))
    where
      taken : Among u (fresh_of f) ⊎ Among u (all_used m) → IsLive i.between (extent_of u)
      taken (inl b) = i.taken.live u b
      taken (inr b) = i.taken.stays_live (extent_of u) (k.live u b)

  pub layout_after : (committed m.dataset f.rows f.named).layout.address ≡ undefined → LayoutInChunk0 (apply (commit_at (last_image img f) m.place f.rows f.named) (last_image img f)) m.place
  layout_after h =
      before.layout (subst (λ (x : List ℕ). LayoutInChunk0 x m.place) (early_image img f) (early_stage.header.layout (k.layout (was f.named m.dataset.layout.address i.named h))))
    where
      was : (named : Option ℕ) (a : ℕ) → IfSome named (λ x. (a ≡ undefined) × (x < 2 ^ 64)) → unwrap_or named a ≡ undefined → a ≡ undefined
      was None a n h = h
      was (Some x) a n h = n.0

  pub known : KnownHeld (image img (pieces_of img m f)) name (flushed_to m f) f.address t f.behind
  known =
      let now : List ℕ = apply (commit_at (last_image img f) m.place f.rows f.named) (last_image img f) in
      let file : Represents now name (flushed_to m f) =
      subst (λ (x : List ℕ). Represents x name (flushed_to m f)) final_image (flush_leads img name m (flushed_to m f) k.held f.behind (pieces_of img m f) k.file safe) in
      let same_end : t.end ≡ f.end = i.let_go.end ∙ sym i.end in
      subst (λ (x : List ℕ). KnownHeld x name (flushed_to m f) f.address t f.behind) (sym final_image) (record {
        is = refl;
        knows = record {
          file = file;
          index = map_after;
          live = live_after;
          held = f.behind;
          holding = holding_behind now name (flushed_to m f) t file live_after;
          ended = omega (arith, same_end);
          covered = omega (arith, same_end, last_fits, image-grows (last_image img f) (commit_at (last_image img f) m.place f.rows f.named ∷ []));
          layout = layout_after;
        };
      })

  -- chunk 0 of the header is what its piece wrote
  pub header_then : chunk_0 (image img (pieces_of img m f)) m.place ≡ with_rows_bytes (chunk_0 img m.place) f.rows f.named
  header_then =
      ap (λ (x : List ℕ). chunk_0 x m.place) final_image
      ∙ before.now
      ∙ ap (λ (b : List ℕ). with_rows_bytes b f.rows f.named) same_chunk

pub flush_safe : FlushSafe
flush_safe img name m old s t f k i missed = safe img name m old s t f k i missed

pub knows_then : KnowsThen
knows_then img name m old s t f k i missed = record { knows = (known img name m old s t f k i missed).knows; held = (known img name m old s t f k i missed).is; header = header_then img name m old s t f k i missed }

pub freed_known : FreedKnown
freed_known img name m address t v c k = record {
  is = refl;
  knows = record {
    file = k.file;
    index = k.index;
    live = λ u among. committed_live t v c (extent_of u) (k.live u among);
    held = k.held;
    holding = record { reaches = k.holding.reaches; off_front = k.holding.off_front; clear = k.holding.clear; some = k.holding.some; live = λ u among. committed_live t v c (extent_of u) (k.holding.live u among) };
    ended = omega (arith, k.ended, c.end);
    covered = omega (arith, k.covered, c.end);
    layout = k.layout;
  };
}

pub knows_again : KnowsAgain
knows_again img name m old s t v f k i missed c =
    let x = known img name m old s t f k i missed in
    let y = freed_known (image img (pieces_of img m f)) name (flushed_to m f) f.address t v c x.knows in
    record { knows = y.knows; is = y.is ∙ x.is }
