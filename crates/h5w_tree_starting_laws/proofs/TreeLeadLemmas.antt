-- What a first flush of a tree leads to.
use Rattle.std.proofs.Common.{◌≡◌, ℕ, true, List, [], ◌∷◌, ◌++◌, refl, sym, subst, inl, inr}
use Rattle.std.specs.Prelude.{ℤ}
use Rattle.h5w_model.specs.Images.{AllMiss, At, image}
use Rattle.h5w_model.specs.Trees.{bthd_bytes}
use Rattle.h5w_model.specs.Findings.{Used, chunk_bytes}
use Rattle.h5w_model.specs.declared.piece.Write.{Write}
use Rattle.h5w_model.proofs.ImageLemmas.{At-image_missed}
use Rattle.h5w_step_laws.specs.Ranges.{Among}
use Rattle.h5w_space.specs.Space.{Space}
use Rattle.h5w_cache.specs.declared.moves.Move.{Move}
use Rattle.h5w_chunks.specs.declared.grid.ChunkPlace.{ChunkPlace}
use Rattle.h5w_step_laws.specs.Moments.{Moment, all_used}
use Rattle.h5w_step_laws.specs.Logs.{image_now}
use Rattle.h5w_step_laws.proofs.MomentLemmas.{in_behind, in_fixed}
use Rattle.h5w_flush_laws.specs.Spaces.{AllLive}
use Rattle.h5w_flush_laws.specs.Parts.{Parts, copied, flushed_to, pieces_of}
use Rattle.h5w_flush_laws.proofs.FlushLaws.{flush_safe, knows_then, live_after}
use Rattle.h5w_first_flush_laws.specs.FirstFlushes.{IsFirstFlush, no_chunk}
use Rattle.h5w_first_flush_laws.proofs.FirstFlushLemmas.{first_runs, stands_ended, stands_shown}
use Rattle.h5w_bt_index.specs.Marks.{clean_of}
use Rattle.h5w_bt_index.specs.Index.{Index, IsIndex, address_of}
use Rattle.h5w_bt_nodes.specs.Blocks.{place_of}
use Rattle.h5w_bt_index.specs.Plans.{header_of, news, planned}
use Rattle.h5w_bt_index.proofs.Placed.{placed_clean}
use Rattle.h5w_tree_index_laws.specs.TreeImages.{StandsTree, behind_of, node_range}
use Rattle.h5w_tree_index_laws.specs.TreeFlushes.{TreeRests, header_range}
use Rattle.h5w_tree_index_laws.proofs.TreeHeaderLemmas.{header_long, part_range, tree_left}
use Rattle.h5w_tree_index_laws.proofs.TreeRestLemmas.{tree_stands}
use Rattle.h5w_tree_starting_laws.specs.TreeStarting.{IsTreeStart, IsTreeStarted, TreeStartKnows, TreeStartLeads, TreeStartRuns, parts_for}
use Rattle.h5w_tree_starting_laws.proofs.TreeStartLemmas.{after, all_stand, defined, header_at, header_names, start_first}

module _ (img name : List ℕ) (m : Moment) (base b t : Space) (place : ℕ) (v w : Index) (ms : List Move) (rows : ℕ) (more : List ℤ) (writes : List Write) (places : List ChunkPlace) (copies : List (ℕ × List ℕ))
    (fixed supers : List Write) (r : TreeStartKnows img name m base) (x : IsTreeStart img m base b place v ms w t rows more writes places copies fixed supers) where
  abbrev f : Parts
  f = parts_for m place w rows more writes places copies supers t.end

  abbrev bytes : ℕ
  bytes = chunk_bytes m.dataset

  abbrev head : Used
  head = header_range place

  abbrev spelled : List ℕ
  spelled = bthd_bytes (header_of w)

  i : IsFirstFlush img m r.knows.held base t f
  i = start_first img name m base b t place v w ms rows more writes places copies fixed supers r x

  is_index : IsIndex w
  is_index = after img name m base b t place v w ms rows more writes places copies fixed supers r x

  -- ---- Its nodes and its header stand

  abbrev Both : List ℕ → Type 0
  Both other = StandsTree w other × At other place spelled

  stays : (other : List ℕ) (ws : List Write) → ((u : Used) → Among u (head ∷ behind_of bytes w) → AllMiss ws u.place u.len) → Both other → Both (image other ws)
  stays other ws off both = (
    tree_left w other ws is_index both.0 (λ p clean n. off (node_range (place_of p.depth p.tree)) (inr (part_range bytes p w.depth w.root is_index.sound n.ends clean))),
    At-image_missed other ws place spelled (subst (λ (n : ℕ). AllMiss ws place n) (sym (header_long (header_of w))) (off head (inl refl))) both.1,
  )

  both_now : Both (copied img f)
  both_now = (
    subst (λ (u : Index). StandsTree u (copied img f)) (sym x.plan.index)
        (tree_stands (copied img f) (planned (news ms) v) (all_stand img name m base b t place v w ms rows more writes places copies fixed supers r x)),
    header_at img name m base b t place v w ms rows more writes places copies fixed supers r x,
  )

  both_shown : Both (image img (pieces_of img m f))
  both_shown = stands_shown Both img name m base t f r.knows i stays (stands_ended Both img name m base t f r.knows i stays both_now)

  -- ---- It rests

  all_live : AllLive t ((head ∷ []) ++ behind_of bytes w)
  all_live u a = live_after img name m no_chunk base t f r.knows i.flush i.missed u (used u a)
    where
      used : (u : Used) → Among u ((head ∷ []) ++ behind_of bytes w) → Among u (all_used (flushed_to m f))
      used u (inl e) = in_fixed (flushed_to m f) u (inl e)
      used u (inr a) = in_behind (flushed_to m f) u a

  rests : TreeRests (image img (pieces_of img m f)) (flushed_to m f) (λ key. address_of w key) t place w
  rests = record {
    kind = r.unnamed.kind;
    at_place = refl;
    defined = defined img name m base b t place v w ms rows more writes places copies fixed supers r x;
    index = is_index;
    clean = subst (λ (u : Index). clean_of u.depth u.root ≡ true) (sym x.plan.index) (placed_clean v.depth (news ms) v.root);
    stands = record { nodes = both_shown.0; header = λ e. header_names img name m base b t place v w ms rows more writes places copies fixed supers r x (image img (pieces_of img m f)) both_shown.1 };
    live = all_live;
    fixed = refl;
    behind = refl;
    map = λ key. refl;
  }

  started : IsTreeStarted img name m r.knows.held t place w f
  started =
      let known = knows_then img name m no_chunk base t f r.knows i.flush i.missed in
      record { safe = flush_safe img name m no_chunk base t f r.knows i.flush i.missed; knows = known.knows; held = known.held; rests = rests; header = known.header }

pub tree_start_leads : TreeStartLeads
tree_start_leads img name m base b t place v w ms rows more writes places copies fixed supers r x = started img name m base b t place v w ms rows more writes places copies fixed supers r x

pub tree_start_runs : TreeStartRuns
tree_start_runs name log m base b t place v w ms rows more writes places copies fixed supers r runs x values =
    first_runs name log m base t (parts_for m place w rows more writes places copies supers t.end) r.knows runs
    (start_first (image_now log) name m base b t place v w ms rows more writes places copies fixed supers r x) values
