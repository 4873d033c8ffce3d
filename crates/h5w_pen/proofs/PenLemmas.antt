-- Pieces of the end of a mirror that are short.
use Rattle.std.proofs.Common.{◌≡◌, ◌≤◌, length, sym, ap, subst}
use Rattle.std.proofs.lemmas.List.Elements.{All-push}
use Rattle.h5w_model.specs.declared.piece.Write.{Write}
use Rattle.h5w_replica.specs.Batches.{AreShort}
use Rattle.h5w_replica.specs.Feeds.{FeedView, with_piece}

-- a piece was written
pub short_put : (f g : FeedView) (w : Write) → g ≡ with_piece w f → length w.piece ≤ 512 → AreShort f.seat.seen → AreShort g.seat.seen
short_put f g w wrote short h = subst AreShort (sym (ap (λ (x : FeedView). x.seat.seen) wrote)) (All-push (λ (v : Write). length v.piece ≤ 512) f.seat.seen w h short)
