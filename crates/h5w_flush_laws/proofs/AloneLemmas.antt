-- A flush of new rows whose chunks all have addresses.
use Rattle.std.proofs.Common.{◌≡◌, ℕ, ◌≤◌, List, [], ◌∷◌, ◌++◌, length, Ok, refl, sym, ◌∙◌, subst, arith, append-nil}
use Rattle.h5w_model.specs.Images.{apply, image}
use Rattle.h5w_model.specs.Programs.{eval}
use Rattle.h5w_model.specs.Tables.{InPlace}
use Rattle.h5w_model.specs.Findings.{chunk_bytes}
use Rattle.h5w_model.specs.declared.cell.Key.{Key}
use Rattle.h5w_model.specs.declared.piece.Write.{Write}
use Rattle.h5w_model.proofs.ImageLemmas.{apply-grows}
use Rattle.h5w_step_laws.specs.Ranges.{AllEndBy}
use Rattle.h5w_step_laws.specs.Indexes.{behind_visit}
use Rattle.h5w_step_laws.proofs.RangeLemmas.{among_left, among_right, ends_later}
use Rattle.h5w_step_laws.proofs.IndexLaws.{index_by_end}
use Rattle.h5w_space.specs.Space.{Space}
use Rattle.h5w_step_laws.specs.Moments.{Moment, all_used}
use Rattle.h5w_step_laws.proofs.MomentLemmas.{in_index}
use Rattle.h5w_step_laws.proofs.StepRepresents.{blocks_missed}
use Rattle.h5w_flush_laws.specs.Knowledge.{Knows}
use Rattle.h5w_flush_laws.specs.Parts.{AllUnseen, SaysInPlace}
use Rattle.h5w_flush_laws.specs.Flushes.{RowsAloneFlush}
use Rattle.h5w_flush_laws.proofs.SpaceLemmas.{taken_laws}
use Rattle.h5w_flush_laws.proofs.IndexLemmas.{BehindBy}
use Rattle.h5w_flush_laws.proofs.FlushLemmas.{Seen, says_missed, seen_behind, seen_missed}
use Rattle.h5w_flush_laws.proofs.KnownLaws.{one_answer}

-- what the blocks in place say, and what stands behind them, after writes that are unseen
pub record IndexHere (img : List ℕ) (m : Moment) (end : ℕ) (blocks : InPlace) (f : Key → ℕ) : Type 0 where
  pub says : SaysInPlace img m.dataset blocks m.fixed
  pub stands : BehindBy img end m.dataset blocks m.behind f

pub here_unseen : (img : List ℕ) (m : Moment) (end : ℕ) (blocks : InPlace) (f : Key → ℕ) (ws : List Write) → AllEndBy end m.fixed → end ≤ length img → AllUnseen m ws → IndexHere img m end blocks f
    → IndexHere (image img ws) m end blocks f
here_unseen img m end blocks f [] ends fits u h = h
here_unseen img m end blocks f (w ∷ ws) ends fits u h =
    let off = blocks_missed w (m.fixed ++ m.behind) (all_used m) (in_index m) u.0.off_blocks in
    let seen : Seen m.dataset blocks = record { of = m.dataset; where_read = img; read = h.says.says; index = refl; bytes = refl } in
    here_unseen (apply w img) m end blocks f ws ends (omega (arith, fits, apply-grows w img)) u.1 (record {
      says = says_missed w img end m.dataset blocks m.fixed h.says fits ends (λ v a b. off v (among_left v m.fixed m.behind a) b);
      stands = seen_missed w img end m.dataset blocks m.behind f seen h.stands fits (λ v a b. off v (among_right v m.fixed m.behind a) b);
    })

pub index_here : (img name : List ℕ) (m : Moment) (old : Key → ℕ) (s : Space) → (k : Knows img name m old s) → IndexHere img m s.end k.index.blocks old
index_here img name m old s k =
    let i = index_by_end img m.super.end s.end m.dataset m.fixed m.behind k.file.index (ends_later m.super.end s.end (m.fixed ++ m.behind) k.ended k.file.index.ends) in
    let same : i.blocks ≡ k.index.blocks = one_answer i.blocks k.index.blocks (sym i.read ∙ k.index.read) in
    let stands : eval img (behind_visit s.end (chunk_bytes m.dataset) k.index.blocks) ≡ Ok m.behind = subst (λ (p : InPlace). eval img (behind_visit s.end (chunk_bytes m.dataset) p) ≡ Ok m.behind) same i.stands in
    record {
      says = record { says = k.index.read; looks = k.file.index.fixed_are };
      stands = record {
        stands = seen_behind img s.end m.dataset k.index.blocks m.behind (record { of = m.dataset; where_read = img; read = k.index.read; index = refl; bytes = refl }) stands;
        answers = k.index.answers;
      };
    }

pub rows_alone_flush : RowsAloneFlush
rows_alone_flush img name m old s rows more writes supers k rises small few count ended r =
    let ends : AllEndBy s.end m.fixed = λ u a. omega (arith, k.file.index.ends u (among_left u m.fixed m.behind a), k.ended) in
    let here = here_unseen img m s.end k.index.blocks old writes ends k.covered r.unseen (index_here img name m old s k) in
    record {
      rises = rises;
      small = small;
      few = few;
      count = count;
      named = tt;
      written = r;
      index = record {
        blocks = k.index.blocks;
        behind = here.stands.stands.stands;
        answers = here.stands.answers;
        each_says = tt;
        said = λ h. record { says = here.says.says; looks = here.says.looks };
        added = [];
        begins = sym (append-nil m.fixed);
        added_fresh = λ u a. absurd a;
        known = λ u a. a;
        counts = λ p. omega arith;
        kept = λ key asked defined. refl;
      };
      between = s;
      taken = taken_laws.none_taken s s refl refl refl;
      end = refl;
      super = ended;
      left = [];
      let_go = record { stays_live = λ x l off. l; end = refl };
      left_before = λ u a. absurd a;
      left_after = λ u a. absurd a;
    }
