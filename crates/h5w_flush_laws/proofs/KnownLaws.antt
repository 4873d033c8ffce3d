-- What a session knows when it begins, and after pieces that no reader reaches.
use Rattle.std.proofs.Common.{◌≡◌, ◌⊎◌, ℕ, ◌+◌, ◌≤◌, List, [], ◌∷◌, ◌++◌, length, Result, Ok, refl, sym, ◌∙◌, subst, inl, inr, arith}
use Rattle.std.proofs.lemmas.List.Elements.{All-nil}
use Rattle.std.specs.List.{All}
use Rattle.h5w_model.specs.Images.{apply, image}
use Rattle.h5w_model.specs.Datasets.{Described}
use Rattle.h5w_model.specs.Tables.{InPlace}
use Rattle.h5w_model.specs.Findings.{Used}
use Rattle.h5w_model.specs.declared.cell.Key.{Key}
use Rattle.h5w_model.specs.declared.refusal.ReadError.{ReadError}
use Rattle.h5w_model.specs.declared.piece.Write.{Write}
use Rattle.h5w_model.proofs.ImageLemmas.{apply-grows, image-grows}
use Rattle.h5w_step_laws.specs.Ranges.{Among, MissesBlocks}
use Rattle.h5w_step_laws.specs.Indexes.{IsIndex}
use Rattle.h5w_step_laws.proofs.RangeLemmas.{among_left, among_right}
use Rattle.h5w_step_laws.proofs.IndexLaws.{index_missed}
use Rattle.h5w_space.specs.Space.{Apart, Space}
use Rattle.h5w_space.specs.declared.Extent.{Extent}
use Rattle.h5w_step_laws.specs.Moments.{Moment, all_used, Represents}
use Rattle.h5w_step_laws.proofs.PartLemmas.{disjoint_some}
use Rattle.h5w_step_laws.proofs.MomentLemmas.{inside, in_index}
use Rattle.h5w_step_laws.proofs.StepRepresents.{ends_represents, ends_missed, unseen_represents, blocks_missed}
use Rattle.h5w_step_laws.proofs.PlanLaws.{all_end, end_long, plan_leads}
use Rattle.h5w_flush_laws.specs.Spaces.{extent_of}
use Rattle.h5w_flush_laws.specs.Knowledge.{AnswersBy, Holding, IsMap, KnownHeld}
use Rattle.h5w_flush_laws.specs.Spaces.{AllLive}
use Rattle.h5w_step_laws.proofs.GoesLemmas.{holds_behind, moved_front}
use Rattle.h5w_step_laws.proofs.MomentLemmas.{in_behind}
use Rattle.h5w_flush_laws.specs.Parts.{AllUnseen, block_writes, block_ranges}
use Rattle.h5w_flush_laws.specs.Flushes.{BeginKnows, EndKnown, EarlyBlocks, UnseenKnown, IsBegun}
use Rattle.h5w_flush_laws.proofs.EarlyLemmas.{header_kept, unseen_stage, fresh_unseen, blocks_unseen, blocks_off_held, blocks_whole}

-- ---- The index's map

pub one_answer : (p q : InPlace) → ◌≡◌ {A = Result InPlace ReadError} (Ok p) (Ok q) → p ≡ q
one_answer p q h = cc

pub answers_of : (img : List ℕ) (end : ℕ) (d : Described) (fixed behind : List Used) (f : Key → ℕ) → (i : IsIndex img end d fixed behind) → IsMap img d f → AnswersBy img d i.blocks f
answers_of img end d fixed behind f i m = subst (λ (p : InPlace). AnswersBy img d p f) (one_answer m.blocks i.blocks (sym m.read ∙ i.read)) m.answers

pub map_missed : (w : Write) (img name : List ℕ) (m : Moment) (f : Key → ℕ) → Represents img name m → IsMap img m.dataset f → MissesBlocks w (m.fixed ++ m.behind) → IsMap (apply w img) m.dataset f
map_missed w img name m f r x misses =
    let left = index_missed w img m.super.end m.dataset m.fixed m.behind r.index (inside img name m r) misses in
    let answers = answers_of img m.super.end m.dataset m.fixed m.behind f r.index x in
    record { blocks = r.index.blocks; read = left.read; answers = λ key n. left.answers key n ∙ answers key n }

pub map_unseen : (img name : List ℕ) (m : Moment) (f : Key → ℕ) (ws : List Write) → Represents img name m → IsMap img m.dataset f → AllUnseen m ws → IsMap (image img ws) m.dataset f
map_unseen img name m f [] r x u = x
map_unseen img name m f (w ∷ ws) r x u =
    map_unseen (apply w img) name m f ws (unseen_represents img name m w r u.0) (map_missed w img name m f r x (blocks_missed w (m.fixed ++ m.behind) (all_used m) (in_index m) u.0.off_blocks)) u.1

-- what stands behind the blocks in place may be held
pub holding_behind : (img name : List ℕ) (m : Moment) (s : Space) → Represents img name m → AllLive s (all_used m) → Holding m s m.behind
holding_behind img name m s r live =
    let h = holds_behind img name m r in
    record { reaches = h.reaches; off_front = λ u v a b. h.off_front u v a (moved_front m v b); clear = h.clear; some = λ u a. disjoint_some (all_used m) r.apart u (in_behind m u a); live = λ u a. live u (in_behind m u a) }

-- ---- A session begins

pub begin_live : (img name : List ℕ) (m : Moment) (s : Space) → Represents img name m → IsBegun m s → AllLive s (all_used m)
begin_live img name m s r begun u a =
    let ends = all_end img name m r (end_long img name m r) u a in
    let same = begun.end in
    record {
      within = omega arith;
      off_free = subst (λ (xs : List Extent). All (Apart (extent_of u)) xs) (sym begun.none_free) (All-nil (Apart (extent_of u)));
      off_retired = subst (λ (xs : List Extent). All (Apart (extent_of u)) xs) (sym begun.none_retired) (All-nil (Apart (extent_of u)));
    }

pub begin_knows : BeginKnows
begin_knows img name m address s r index begun layout = record {
  is = refl;
  knows = record {
    file = r;
    index = index;
    live = begin_live img name m s r begun;
    ended = let same = begun.end in omega arith;
    covered = omega (arith, begun.end, inside img name m r);
    held = m.behind;
    holding = holding_behind img name m s r (begin_live img name m s r begun);
    layout = layout;
  };
}

-- ---- The superblock again

pub end_known : EndKnown
end_known img name m n old s w k e fits =
    let file = ends_represents img name m n w k.file e in
    let off = ends_missed img m n w k.file.apart e in
    subst (λ (x : Moment). KnownHeld (apply w img) name x old s k.held) (sym e.is) (record {
      is = refl;
      knows = record {
        file = subst (λ (x : Moment). Represents (apply w img) name x) e.is file;
        index = map_missed w img name m old k.file k.index (λ u a b. off u (among_right u m.root (m.header ++ (m.fixed ++ m.behind)) (among_right u m.header (m.fixed ++ m.behind) a)));
        live = k.live;
        ended = fits;
        covered = omega (arith, k.covered, apply-grows w img);
        held = k.held;
        holding = record { reaches = k.holding.reaches; off_front = k.holding.off_front; clear = k.holding.clear; some = k.holding.some; live = k.holding.live };
        layout = λ h. (header_kept img name m w k.file (λ u a b. off u (among_right u m.root (m.header ++ (m.fixed ++ m.behind)) (among_left u m.header (m.fixed ++ m.behind) a)))).layout (k.layout h);
      };
    })

-- ---- Early blocks

pub early_blocks : EarlyBlocks
early_blocks img name m old s t bs k taken =
    let fresh = fresh_unseen img name m k.held s t (block_ranges bs) k.file k.live k.holding taken in
    let unseen = blocks_unseen m k.held bs fresh in
    let stage = unseen_stage img name m k.held (block_writes bs) k.file unseen (blocks_off_held m k.held bs fresh) in
    record {
      plan = stage.plan;
      known = record {
        file = plan_leads img name m m k.held k.held (block_writes bs) k.file stage.plan;
        index = map_unseen img name m old (block_writes bs) k.file k.index unseen;
        live = λ u a. taken.stays_live (extent_of u) (k.live u a);
        ended = omega (arith, k.ended, taken.rises);
        covered = covered taken.end;
        held = k.held;
        holding = record { reaches = k.holding.reaches; off_front = k.holding.off_front; clear = k.holding.clear; some = k.holding.some; live = λ u a. taken.stays_live (extent_of u) (k.holding.live u a) };
        layout = λ h. stage.header.layout (k.layout h);
      };
      holds = refl;
    }
  where
    covered : (t.end ≡ s.end) ⊎ ((u : Used) × Among u (block_ranges bs) × (u.place + u.len ≡ t.end)) → t.end ≤ length (image img (block_writes bs))
    covered (inl e) = omega (arith, e, k.covered, image-grows img (block_writes bs))
    covered (inr e) = omega (arith, e.2, blocks_whole img bs e.0 e.1 (disjoint_some (block_ranges bs) taken.apart e.0 e.1))

-- ---- Writes that no reader reaches

pub unseen_known : UnseenKnown
unseen_known img name m old s ws k unseen missed =
    let stage = unseen_stage img name m k.held ws k.file unseen missed in
    record {
      plan = stage.plan;
      known = record {
        file = plan_leads img name m m k.held k.held ws k.file stage.plan;
        index = map_unseen img name m old ws k.file k.index unseen;
        live = k.live;
        ended = k.ended;
        covered = omega (arith, k.covered, image-grows img ws);
        held = k.held;
        holding = record { reaches = k.holding.reaches; off_front = k.holding.off_front; clear = k.holding.clear; some = k.holding.some; live = k.holding.live };
        layout = λ h. stage.header.layout (k.layout h);
      };
      holds = refl;
      unseen = unseen;
      off_held = missed;
    }
