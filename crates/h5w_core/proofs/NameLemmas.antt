-- The writer's calls leave the dataset's name.
use Rattle.std.proofs.Common.{◌≡◌, ℕ, List, [], ◌∷◌, ℤ, Result, Ok, Err, refl, ap}
use Rattle.std.specs.Result.{OnOk, OnErr}
use Rattle.h5w_model.specs.declared.piece.Write.{Write}
use Rattle.h5w_writer.specs.Flushes.{SameBut}
use Rattle.h5w_writer.specs.Sessions.{AddsValues, AfterPiece, Session, TakesRows}
use Rattle.h5w_writer.specs.declared.refusal.AppendError.{AppendError}
use Rattle.h5w_writer.specs.declared.refusal.FlushError.{FlushError}
use Rattle.h5w_writer_laws.proofs.LeavingLemmas.{piece_leaves}

pub append_named : (s t : Session) (vs : List ℤ) (r : Result ℕ AppendError) → OnOk r (AddsValues s vs t) → OnErr r (t ≡ s) → t.name ≡ s.name
append_named s t vs (Ok rows) added kept = ap (λ (x : Session). x.name) added.session
append_named s t vs (Err e) added kept = ap (λ (x : Session). x.name) kept

pub flush_named : (s t : Session) (r : Result ℕ FlushError) → OnOk r (TakesRows s t) → OnErr r (SameBut s t) → t.name ≡ s.name
flush_named s t (Ok pieces) takes kept = takes.name
flush_named s t (Err e) takes kept = ap (λ (x : Session). x.name) kept.session

pub shown_named : (s t : Session) → (s.pending ≡ [] → t ≡ s) → ((w : Write) (ws : List Write) → s.pending ≡ w ∷ ws → AfterPiece s ws t) → t.name ≡ s.name
shown_named s t nothing piece = go s.pending refl
  where
    go : (ws : List Write) → s.pending ≡ ws → t.name ≡ s.name
    go [] is = ap (λ (x : Session). x.name) (nothing is)
    go (w ∷ ws) is = (piece_leaves s t ws (piece w ws is)).name
