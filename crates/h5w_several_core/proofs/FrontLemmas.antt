-- The file says that it is written, and so it does once what is pending became visible, whatever a call makes of the session.
use Rattle.std.proofs.Common.{◌≡◌, ℕ, false, List, [], ◌∷◌, ℤ, sym, ap, ◌∙◌, subst}
use Rattle.h5w_model.specs.Images.{image}
use Rattle.h5w_model.specs.Several.{FileLog}
use Rattle.h5w_model.specs.declared.piece.Write.{Write}
use Rattle.h5w_front_laws.specs.Fronts.{AllKeepFront, IsLeftOpen, SaysWritten}
use Rattle.h5w_front_laws.proofs.CallFrontLemmas.{calls_keep_all, front_stays}
use Rattle.h5w_several_writer_laws.specs.Sessions.{AfterPieceOf, AppendsTo, FlushesAll, SameButHeld, Sessions, all_pending, stopped_all}
use Rattle.h5w_several_writer_laws.specs.Standing.{StandsAll}
use Rattle.h5w_several_open.specs.Taken.{IsTakenAll}
use Rattle.h5w_several_core.specs.Worlds.{HasFront}

module _ (S T : Sessions) (b c : List ℕ) (same : c ≡ b) (h : HasFront S b) where
  -- the session is the same
  pub front_moved : HasFront S c
  front_moved = subst (HasFront S) (sym same) h

  pub front_appended : (d : ℕ) (vs : List ℤ) → AppendsTo d vs S T → HasFront T c
  front_appended d vs x = record { begins = front_moved.begins; keeps = calls_keep_all.append S T d vs x h.keeps }

  pub front_flushed : (log : FileLog) → StandsAll S log → S.stopped ≡ false → all_pending S.parts ≡ [] → FlushesAll S T → HasFront T c
  front_flushed log stands going none x = record { begins = front_moved.begins; keeps = calls_keep_all.flush S T log stands going none x h.keeps.root }

  pub front_held : SameButHeld S T → HasFront T c
  front_held x = record { begins = front_moved.begins; keeps = calls_keep_all.refused S T x h.keeps }

pub front_shown : (S T : Sessions) (b c : List ℕ) (w : Write) → c ≡ image b (w ∷ []) → AfterPieceOf w S T → HasFront S b → HasFront T c
front_shown S T b c w is x h =
    let after = calls_keep_all.shown S T w x h.keeps in
    front_moved T T (image b (w ∷ [])) c is (record { begins = front_stays.pieces (w ∷ []) b (after.0, tt) h.begins; keeps = after.1 })

pub front_stopped : (S : Sessions) (b : List ℕ) → HasFront S b → HasFront (stopped_all S) b
front_stopped S b h = record { begins = h.begins; keeps = calls_keep_all.stopped S h.keeps }

-- a session that takes the file over has the file's superblock, and nothing is pending
pub front_taken : (b : List ℕ) (size : ℕ) (names : List (List ℕ)) (limit budget : ℕ) (T : Sessions) → IsLeftOpen b → IsTakenAll b size names limit budget T → all_pending T.parts ≡ [] → HasFront T b
front_taken b size names limit budget T left taken idle =
    let same : left.root ≡ taken.front.root = let both = sym left.read ∙ taken.super in cc in
    let root : T.root ≡ taken.front.root = ap (λ (U : Sessions). U.root) taken.session in
    record { begins = left; keeps = record { root = subst SaysWritten (same ∙ sym root) left.says; pieces = subst AllKeepFront (sym idle) tt } }
