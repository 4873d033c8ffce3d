-- The pieces of one flush keep the front of a file.
use Rattle.std.proofs.Common.{ℕ, List, [], ◌∷◌, ◌++◌, refl, sym, subst, inl, inr}
use Rattle.h5w_model.specs.Images.{apply}
use Rattle.h5w_model.specs.Findings.{the_superblock}
use Rattle.h5w_model.specs.Tables.{InPlace}
use Rattle.h5w_model.specs.declared.cell.Key.{Key}
use Rattle.h5w_model.specs.declared.piece.Write.{Write}
use Rattle.h5w_model.specs.declared.root.Super.{Super}
use Rattle.h5w_space.specs.Space.{Space}
use Rattle.h5w_step_laws.specs.Files.{commit_at}
use Rattle.h5w_step_laws.specs.Moments.{Moment}
use Rattle.h5w_step_laws.proofs.StepRepresents.{fixed_missed, header_off}
use Rattle.h5w_flush_laws.specs.Knowledge.{HeldMissed, Knows}
use Rattle.h5w_flush_laws.specs.Parts.{AreEnded, EachSays, IsFlush, Parts, block_writes, ended, fresh_of, pieces_of}
use Rattle.h5w_flush_laws.proofs.EarlyLemmas.{blocks_miss, fresh_unseen}
use Rattle.h5w_flush_laws.proofs.FlushLaws.{before, same_piece}
use Rattle.h5w_flush_laws.proofs.FlushLemmas.{copies_range, unseen_miss}
use Rattle.h5w_flush_laws.proofs.HeaderLemmas.{last_image}
use Rattle.h5w_front_laws.specs.Fronts.{AllKeepFront, KeepsFront, SaysWritten}
use Rattle.h5w_front_laws.proofs.FrontLemmas.{fronts_joined, missed_fronts, says_with_end}

-- the superblock with another end
supers_keep : (root : Super) (end : ℕ) (ws : List Write) → SaysWritten root → AreEnded root end ws → AllKeepFront ws
supers_keep root end [] says is = tt
supers_keep root end (w ∷ ws) says is =
    let new : KeepsFront w = inr (record { place = is.0.place; len = is.0.len; root = record root { end = end }; read = is.0.reads; says = says_with_end root end says }) in
    (new, subst AllKeepFront (sym is.1) tt)

module _ (img name : List ℕ) (m : Moment) (old : Key → ℕ) (s t : Space) (f : Parts) (k : Knows img name m old s) (i : IsFlush img m old s f t) (missed : HeldMissed k.held f.writes) (says : SaysWritten m.super) where
  rows_keep : AllKeepFront f.writes
  rows_keep = missed_fronts f.writes (unseen_miss m f.writes the_superblock i.written.unseen (inl refl) refl)

  copies_keep : AllKeepFront (block_writes f.copies)
  copies_keep =
      missed_fronts (block_writes f.copies) (blocks_miss f.copies 0 48 (λ u a.
      (fresh_unseen img name m k.held s i.between (fresh_of f) k.file k.live k.holding i.taken u (copies_range img name m old s t f k i missed u a)).off_blocks the_superblock (inl refl) refl))

  in_place_keep : (now : List ℕ) (blocks : InPlace) (ws : List Write) → EachSays m.dataset m.fixed blocks f.fixed now ws → AllKeepFront ws
  in_place_keep now blocks [] each = tt
  in_place_keep now blocks (w ∷ ws) each = (inl (fixed_missed m w k.file.apart each.0 the_superblock (inl refl)), in_place_keep (apply w now) blocks ws each.2)

  header_keeps : KeepsFront (commit_at img m.place f.rows f.named)
  header_keeps =
      let b = before img name m old s t f k i missed in
      subst KeepsFront (same_piece img name m old s t f k i missed) (inl (header_off m (commit_at (last_image img f) m.place f.rows f.named) k.file.apart b.lies the_superblock (inl refl)))

  pub flush_keeps : AllKeepFront (pieces_of img m f)
  flush_keeps =
      fronts_joined (f.writes ++ (block_writes f.copies ++ (f.supers ++ f.in_place))) (commit_at img m.place f.rows f.named ∷ [])
      (fronts_joined f.writes (block_writes f.copies ++ (f.supers ++ f.in_place)) rows_keep
      (fronts_joined (block_writes f.copies) (f.supers ++ f.in_place) copies_keep
      (fronts_joined f.supers f.in_place (supers_keep m.super f.end f.supers says i.super) (in_place_keep (ended img f) i.index.blocks f.in_place i.index.each_says))))
      (header_keeps, tt)
