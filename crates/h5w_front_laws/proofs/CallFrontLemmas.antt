-- What the calls of a session leave of its superblock and of the pieces that are pending.
use Rattle.std.proofs.Common.{◌≡◌, ℕ, Bool, true, false, List, [], ◌∷◌, ℤ, refl, sym, ◌∙◌, ap, subst}
use Rattle.h5w_model.specs.declared.piece.Write.{Write}
use Rattle.h5w_writer.specs.Sessions.{AfterPiece, Session, Settles, with_values}
use Rattle.h5w_writer.proofs.PartLemmas.{part_laws}
use Rattle.h5w_writer_laws.proofs.PieceLemmas.{after_pending}
use Rattle.h5w_several_writer_laws.specs.Sessions.{AfterPieceOf, AppendsTo, Sessions, all_pending, stopped_all}
use Rattle.h5w_several_writer_laws.proofs.ShownLemmas.{shown_left}
use Rattle.h5w_several_writer.proofs.EndLemmas.{set_pending, stopped_none}
use Rattle.h5w_several_writer.proofs.PartLemmas.{pending_same}
use Rattle.h5w_front_laws.specs.Fronts.{AllKeepFront, KeepsFront, SaysWritten}
use Rattle.h5w_front_laws.specs.Laws.{AllKeepWritten, CallsKeepAll, CallsKeepFront, FrontStays, KeepsWritten}
use Rattle.h5w_front_laws.proofs.FrontLemmas.{piece_stays, pieces_stay}
use Rattle.h5w_front_laws.proofs.OneFrontLemmas.{one_flush_keeps}
use Rattle.h5w_front_laws.proofs.EarlyFrontLemmas.{early_keeps}
use Rattle.h5w_front_laws.proofs.AllFrontLemmas.{all_flush_keeps}

pub front_stays : FrontStays
front_stays = record { piece = piece_stays; pieces = pieces_stay }

-- ---- One dataset

settled_root : (b : Bool) (s t : Session) → Settles b s t → t.root ≡ s.root
settled_root true s t x = ap (λ (y : Session). y.root) x.1
settled_root false s t x = ap (λ (y : Session). y.root) x

after_root : (s t : Session) (ws : List Write) → AfterPiece s ws t → t.root ≡ s.root
after_root s t [] x = settled_root s.flushing s t x
after_root s t (w ∷ ws) x = ap (λ (y : Session). y.root) x

one_shown : (s t : Session) (w : Write) (ws : List Write) → s.pending ≡ w ∷ ws → AfterPiece s ws t → KeepsWritten s → KeepsFront w × KeepsWritten t
one_shown s t w ws pending x keeps =
    let pieces : AllKeepFront (w ∷ ws) = subst AllKeepFront pending keeps.pieces in (
      pieces.0,
      record { root = subst SaysWritten (sym (after_root s t ws x)) keeps.root; pieces = subst AllKeepFront (sym (after_pending s t ws x)) pieces.1 },
    )

pub calls_keep_front : CallsKeepFront
calls_keep_front = record {
  flush = one_flush_keeps;
  early = early_keeps;
  refused = λ s t x keeps. record { root = subst (λ (y : Session). SaysWritten y.root) (sym x.session) keeps.root; pieces = subst (λ (y : Session). AllKeepFront y.pending) (sym x.session) keeps.pieces };
  shown = one_shown;
  stopped = λ s keeps. record { root = keeps.root; pieces = tt };
}

-- ---- Several datasets

-- the same superblock, and these pieces
with_root_of : (S T : Sessions) (ws : List Write) → T.root ≡ S.root → all_pending T.parts ≡ ws → AllKeepFront ws → SaysWritten S.root → AllKeepWritten T
with_root_of S T ws root pending pieces says = record { root = subst SaysWritten (sym root) says; pieces = subst AllKeepFront (sym pending) pieces }

all_shown : (S T : Sessions) (w : Write) → AfterPieceOf w S T → AllKeepWritten S → KeepsFront w × AllKeepWritten T
all_shown S T w x keeps =
    let pieces : AllKeepFront (w ∷ all_pending T.parts) = subst AllKeepFront (shown_left w S.parts T.parts x.parts) keeps.pieces in
    (pieces.0, record { root = subst SaysWritten (sym (ap (λ (y : Sessions). y.root) x.session)) keeps.root; pieces = pieces.1 })

all_appended : (S T : Sessions) (d : ℕ) (values : List ℤ) → AppendsTo d values S T → AllKeepWritten S → AllKeepWritten T
all_appended S T d values x keeps =
    with_root_of S T (all_pending S.parts) (ap (λ (y : Sessions). y.root) x.session) (ap (λ (y : Sessions). all_pending y.parts) x.session ∙ set_pending S.parts d x.part (with_values x.part values) x.is refl) keeps.pieces keeps.root

pub calls_keep_all : CallsKeepAll
calls_keep_all = record {
  flush = all_flush_keeps part_laws;
  append = all_appended;
  refused = λ S T x keeps. with_root_of S T (all_pending S.parts) (ap (λ (y : Sessions). y.root) x.session) (pending_same S.parts T.parts x.parts) keeps.pieces keeps.root;
  shown = all_shown;
  stopped = λ S keeps. with_root_of S (stopped_all S) [] refl (stopped_none S.parts) tt keeps.root;
}
