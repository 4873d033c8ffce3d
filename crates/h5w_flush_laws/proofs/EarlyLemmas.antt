-- The pieces of a flush that no reader reaches, and what stays of the header before it is written.
use Rattle.std.proofs.Common.{◌≡◌, ◌≢◌, ℕ, ◌+◌, ◌<◌, ◌≤◌, max, false, List, [], ◌∷◌, ◌++◌, length, refl, sym, ◌∙◌, ap, subst, inl, inr, arith}
use Rattle.h5w_model.specs.Numbers.{undefined}
use Rattle.h5w_model.specs.Images.{apply, image, pieces, AllMiss, Apart}
use Rattle.h5w_model.specs.Tables.{format_limits}
use Rattle.h5w_model.specs.Findings.{Used}
use Rattle.h5w_model.specs.declared.piece.Write.{Write}
use Rattle.h5w_model.proofs.ImageLemmas.{image-append, image-pieces, image-grows, length-apply, AllMiss-append, pieces-miss}
use Rattle.h5w_step_laws.specs.Ranges.{Among, MissesBlocks, block_at}
use Rattle.h5w_step_laws.proofs.HeaderLaws.{header_missed}
use Rattle.h5w_space.specs.Space.{Space}
use Rattle.h5w_step_laws.specs.Files.{chunk_0, LayoutInChunk0}
use Rattle.h5w_step_laws.proofs.FileLaws.{layout_missed}
use Rattle.h5w_step_laws.specs.Moments.{Moment, all_used, Represents, HasCells, chunk_of, cell_place}
use Rattle.h5w_step_laws.specs.Steps.{unseen}
use Rattle.h5w_step_laws.specs.Plans.{Plan, UnseenRange}
use Rattle.h5w_step_laws.proofs.MomentLemmas.{inside, cells_missed, in_header}
use Rattle.h5w_step_laws.proofs.StepRepresents.{unseen_represents, blocks_missed}
use Rattle.h5w_step_laws.proofs.PlanLaws.{plans_join, free_place, EachMisses}
use Rattle.h5w_flush_laws.specs.Spaces.{AllLive, Taken, extent_of}
use Rattle.h5w_flush_laws.specs.Knowledge.{HeldMissed, Holding}
use Rattle.h5w_flush_laws.specs.Parts.{AllUnseen, block_writes, block_ranges}
use Rattle.h5w_step_laws.proofs.PartLemmas.{disjoint_some}
use Rattle.h5w_flush_laws.proofs.SpaceLemmas.{meet_nowhere, taken_apart}

-- ---- The header stays

-- chunk 0 is the same, and the layout stands in it as before
pub record HeaderKept (old new : List ℕ) (place : ℕ) : Type 0 where
  pub chunk : chunk_0 new place ≡ chunk_0 old place
  pub layout : LayoutInChunk0 old place → LayoutInChunk0 new place

pub kept_itself : (img : List ℕ) (place : ℕ) → HeaderKept img img place
kept_itself img place = record { chunk = refl; layout = λ h. h }

pub kept_on : (old between new : List ℕ) (place : ℕ) → HeaderKept old between place → HeaderKept between new place → HeaderKept old new place
kept_on old between new place h g = record { chunk = g.chunk ∙ h.chunk; layout = λ own. g.layout (h.layout own) }

pub header_kept : (img name : List ℕ) (m : Moment) (w : Write) → Represents img name m → MissesBlocks w m.header → HeaderKept img (apply w img) m.place
header_kept img name m w r off = record {
  chunk = (header_missed w img format_limits m.super m.place m.dataset m.header r.header (inside img name m r) off).view;
  layout = layout_missed w img format_limits m.super m.place m.dataset m.header r.header (inside img name m r) off;
}

-- ---- Stages of a plan

-- pieces that take a file to another, with the header as it is
pub record Stage (img : List ℕ) (m : Moment) (held : List Used) (ws : List Write) (n : Moment) (after : List Used) : Type 0 where
  pub plan : Plan img m held ws n after
  pub header : HeaderKept img (image img ws) m.place

pub stages_join : (img : List ℕ) (m n o : Moment) (held now after : List Used) (ws vs : List Write) → n.place ≡ m.place → Stage img m held ws n now → Stage (image img ws) n now vs o after
    → Stage img m held (ws ++ vs) o after
stages_join img m n o held now after ws vs same p q = record {
  plan = plans_join img m n o held now after ws vs p.plan q.plan;
  header = subst (λ (x : List ℕ). HeaderKept img x m.place) (sym (image-append img ws vs))
      (kept_on img (image img ws) (image (image img ws) vs) m.place p.header (subst (λ place. HeaderKept (image img ws) (image (image img ws) vs) place) same q.header));
}

-- ---- What no reader reaches

pub unseen_append : (m : Moment) (ws vs : List Write) → AllUnseen m ws → AllUnseen m vs → AllUnseen m (ws ++ vs)
unseen_append m [] vs h g = g
unseen_append m (w ∷ ws) vs h g = (h.0, unseen_append m ws vs h.1 g)

pub unseen_each : (m : Moment) (held : List Used) (ws : List Write) → EachMisses ws m held → AllUnseen m ws
unseen_each m held [] e = tt
unseen_each m held (w ∷ ws) e = (
  record { off_blocks = λ u a b. (e.0 u a b).0; off_cells = λ k low d. (e.2 k low d).0 },
  unseen_each m held ws (λ u a b. (e.0 u a b).1, λ u a b. (e.1 u a b).1, λ k low d. (e.2 k low d).1),
)

pub unseen_range : (m : Moment) (held : List Used) (place : ℕ) (bytes : List ℕ) → UnseenRange m held place (length bytes) → AllUnseen m (pieces place bytes)
unseen_range m held place bytes r =
    unseen_each m held (pieces place bytes)
    (λ u a b. pieces-miss place bytes u.place u.len (r.off_blocks u a b), λ u a b. pieces-miss place bytes u.place u.len (r.off_held u a b), λ k low d. pieces-miss place bytes (cell_place m k) m.dataset.int_type.size (r.off_cells k low d))

-- at such pieces a file stays, also for readers that hold what stands behind its blocks in place
pub unseen_stage : (img name : List ℕ) (m : Moment) (held : List Used) (ws : List Write) → Represents img name m → AllUnseen m ws → HeldMissed held ws → Stage img m held ws m held
unseen_stage img name m held [] r u h = record { plan = (refl, refl); header = kept_itself img m.place }
unseen_stage img name m held (w ∷ ws) r u h =
    let next = unseen_stage (apply w img) name m held ws (unseen_represents img name m w r u.0) u.1 (λ x a b. (h x a b).1) in
    record {
      plan = (m, held, unseen u.0 (λ x a b. (h x a b).0) refl refl, refl, next.plan);
      header = kept_on img (apply w img) (image (apply w img) ws) m.place (header_kept img name m w r (blocks_missed w m.header (all_used m) (in_header m) u.0.off_blocks)) next.header;
    }

-- ---- Blocks at new places

pub fresh_unseen : (img name : List ℕ) (m : Moment) (held : List Used) (s t : Space) (us : List Used) → Represents img name m → AllLive s (all_used m) → Holding m s held → Taken s us t → (u : Used) → Among u us
    → UnseenRange m held u.place u.len
fresh_unseen img name m held s t us r live holding taken u a =
    let off = taken_apart s t us (all_used m) taken live r.apart u in
    free_place img name m held u.place u.len r (λ v b. off v a b) (λ v b. meet_nowhere u v (disjoint_some us taken.apart u a) (holding.some v b) (taken.off_live u (extent_of v) a (holding.live v b)))

pub blocks_unseen : (m : Moment) (held : List Used) (bs : List (ℕ × List ℕ)) → ((u : Used) → Among u (block_ranges bs) → UnseenRange m held u.place u.len) → AllUnseen m (block_writes bs)
blocks_unseen m held [] h = tt
blocks_unseen m held (b ∷ bs) h = unseen_append m (pieces b.0 b.1) (block_writes bs) (unseen_range m held b.0 b.1 (h (block_at b.0 (length b.1)) (inl refl))) (blocks_unseen m held bs (λ u a. h u (inr a)))

-- their ranges are no chunks
pub blocks_are : (bs : List (ℕ × List ℕ)) (u : Used) → Among u (block_ranges bs) → u.chunk ≡ false
blocks_are [] u a = absurd a
blocks_are (b ∷ bs) u (inl e) = ap (λ (x : Used). x.chunk) (sym e)
blocks_are (b ∷ bs) u (inr a) = blocks_are bs u a

-- each is written to its end
pub blocks_whole : (img : List ℕ) (bs : List (ℕ × List ℕ)) (u : Used) → Among u (block_ranges bs) → 0 < u.len → u.place + u.len ≤ length (image img (block_writes bs))
blocks_whole img [] u a some = absurd a
blocks_whole img (b ∷ bs) u (inl e) some =
    let middle : List ℕ = image img (pieces b.0 b.1) in
    let all : image img (block_writes (b ∷ bs)) ≡ image middle (block_writes bs) = image-append img (pieces b.0 b.1) (block_writes bs) in
    let own : 0 < length b.1 = subst (λ (x : Used). 0 < x.len) (sym e) some in
    let long : length middle ≡ max (length img) (b.0 + length b.1) = ap length (image-pieces img b.0 b.1 own) ∙ length-apply (record { at = b.0; piece = b.1 }) img in
    let longer = image-grows middle (block_writes bs) in
    let is : u.place + u.len ≡ b.0 + length b.1 = ap (λ (x : Used). x.place + x.len) (sym e) in
    let same = ap length all in
    omega arith
blocks_whole img (b ∷ bs) u (inr a) some =
    let middle : List ℕ = image img (pieces b.0 b.1) in
    subst (λ (x : List ℕ). u.place + u.len ≤ length x) (sym (image-append img (pieces b.0 b.1) (block_writes bs))) (blocks_whole middle bs u a some)

-- and misses what its range misses
pub blocks_miss : (bs : List (ℕ × List ℕ)) (place n : ℕ) → ((u : Used) → Among u (block_ranges bs) → Apart u.place u.len place n) → AllMiss (block_writes bs) place n
blocks_miss [] place n h = tt
blocks_miss (b ∷ bs) place n h =
    AllMiss-append (pieces b.0 b.1) (block_writes bs) place n (pieces-miss b.0 b.1 place n (h (block_at b.0 (length b.1)) (inl refl))) (blocks_miss bs place n (λ u a. h u (inr a)))

-- the blocks miss what is held
pub blocks_off_held : (m : Moment) (held : List Used) (bs : List (ℕ × List ℕ)) → ((u : Used) → Among u (block_ranges bs) → UnseenRange m held u.place u.len) → HeldMissed held (block_writes bs)
blocks_off_held m held bs h u a block = blocks_miss bs u.place u.len (λ v b. (h v b).off_held u a block)

-- ---- Cells

-- no write meets a cell of the file's rows
abbrev pub AllMissCells : List Write → Moment → Type 0
AllMissCells ws m = (k : ℕ) → k < length m.values → chunk_of m k ≢ undefined → AllMiss ws (cell_place m k) m.dataset.int_type.size

pub cells_over : (img : List ℕ) (m : Moment) (ws : List Write) → 0 < m.dataset.int_type.size → AllMissCells ws m → HasCells img m → HasCells (image img ws) m
cells_over img m [] some h c = c
cells_over img m (w ∷ ws) some h c = cells_over (apply w img) m ws some (λ k low d. (h k low d).1) (cells_missed w img m some (λ k low d. (h k low d).0) c)
