-- What each piece of a session leaves of it.
use Rattle.std.proofs.Common.{◌≡◌, Bool, true, false, List, [], ◌∷◌, refl, sym, ◌∙◌, subst}
use Rattle.h5w_model.specs.declared.piece.Write.{Write}
use Rattle.h5w_writer.specs.Sessions.{AfterPiece, Session, Settles}
use Rattle.h5w_writer_laws.specs.Leaves.{EachLeaves, PieceLeaves}
use Rattle.h5w_writer_laws.proofs.PieceLemmas.{freed_end, freed_limit}

-- one that leaves nothing but other pieces
plain_leaves : (s t : Session) (ws : List Write) → (ws ≡ [] → s.flushing ≡ false) → t ≡ record s { pending = ws } → PieceLeaves s ws t
plain_leaves s t ws none is =
    subst (λ (x : Session). PieceLeaves s ws x) (sym is)
    (record {
      session = refl;
      name = refl;
      root = refl;
      dataset = refl;
      budget = refl;
      waits = refl;
      stopped = refl;
      end = refl;
      limit = refl;
      pending = refl;
      brings = λ flush last. let clash : true ≡ false = sym flush ∙ none last in cc;
      idle = none;
      still = λ still. refl;
    })

-- the last one of a flush
flush_leaves : (s t : Session) → s.flushing ≡ true → Settles true s t → PieceLeaves s [] t
flush_leaves s t flush settles =
    subst (λ (x : Session). PieceLeaves s [] x) (sym settles.1)
    (record {
      session = refl;
      name = refl;
      root = refl;
      dataset = refl;
      budget = refl;
      waits = refl;
      stopped = refl;
      end = freed_end s.keeps s.places t.places settles.0;
      limit = freed_limit s.keeps s.places t.places settles.0;
      pending = refl;
      brings = λ flushes last. refl;
      idle = λ last. refl;
      still = λ still. let clash : true ≡ false = sym flush ∙ still in cc;
    })

last_leaves : (b : Bool) (s t : Session) → s.flushing ≡ b → Settles b s t → PieceLeaves s [] t
last_leaves true s t flush settles = flush_leaves s t flush settles
last_leaves false s t still is = plain_leaves s t [] (λ last. still) is

cons_some : (w : Write) (ws : List Write) (s : Session) → w ∷ ws ≡ [] → s.flushing ≡ false
cons_some w ws s e = cc

pub piece_leaves : (s t : Session) (ws : List Write) → AfterPiece s ws t → PieceLeaves s ws t
piece_leaves s t [] settles = last_leaves s.flushing s t refl settles
piece_leaves s t (w ∷ ws) is = plain_leaves s t (w ∷ ws) (cons_some w ws s) is

pub each_leaves : EachLeaves
each_leaves = piece_leaves
