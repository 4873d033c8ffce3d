-- A session's pieces become visible one after another: what each of them leaves.
use Rattle.std.proofs.Common.{◌≡◌, ◌<◌, Bool, true, false, List, [], ◌∷◌, length, Option, Some, None, refl, ap, arith}
use Rattle.std.specs.Prelude.{slice_get}
use Rattle.h5w_model.specs.declared.piece.Write.{Write}
use Rattle.h5w_space.specs.Space.{Space}
use Rattle.h5w_writer.specs.Sessions.{AfterPiece, Freed, Session, Settles}
pub use Rattle.h5w_writer.proofs.StateLemmas.{some_is, oldest}

pub none_some : {A : Type 0} (a : A) → ◌≡◌ {A = Option A} None (Some a) → ⊥
none_some a e = cc

-- ---- The oldest of some pieces

pub no_piece : (ws : List Write) → None ≡ slice_get ws 0 → ws ≡ []
no_piece [] none = refl
no_piece (w ∷ ws) none = cc

-- ---- What a piece leaves

-- what was freed leaves the end and the limit
pub freed_end : (b : Bool) (s t : Space) → Freed b s t → t.end ≡ s.end
freed_end true s t is = ap (λ (x : Space). x.end) is
freed_end false s t is = is.end

pub freed_limit : (b : Bool) (s t : Space) → Freed b s t → t.limit ≡ s.limit
freed_limit true s t is = ap (λ (x : Space). x.limit) is
freed_limit false s t is = is.limit

-- before the first of them
pub itself : (s : Session) (ws : List Write) → s.pending ≡ ws → 0 < length ws → AfterPiece s ws s
itself s [] is some = absurd (omega arith)
itself s (w ∷ ws) is some = ap (λ (ps : List Write). record s { pending = ps }) is

-- one after another
settles_onward : (b : Bool) (s : Session) (ws : List Write) (t : Session) → Settles b (record s { pending = ws }) t → Settles b s t
settles_onward true s ws t after = after
settles_onward false s ws t after = after

pub onward : (s : Session) (w : Write) (ws vs : List Write) (t : Session) → AfterPiece (record s { pending = w ∷ ws }) vs t → AfterPiece s vs t
onward s w ws [] t after = settles_onward s.flushing s (w ∷ ws) t after
onward s w ws (v ∷ vs) t after = after

-- what is pending then
settled_pending : (b : Bool) (s t : Session) → Settles b s t → t.pending ≡ []
settled_pending true s t after = ap (λ (x : Session). x.pending) after.1
settled_pending false s t is = ap (λ (x : Session). x.pending) is

pub after_pending : (s t : Session) (ws : List Write) → AfterPiece s ws t → t.pending ≡ ws
after_pending s t [] after = settled_pending s.flushing s t after
after_pending s t (w ∷ ws) after = ap (λ (x : Session). x.pending) after
