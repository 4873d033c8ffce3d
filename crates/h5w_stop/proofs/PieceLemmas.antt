-- The image of a journal behind one more piece.
use Rattle.std.proofs.Common.{◌≡◌, ℕ, suc, ◌+◌, ◌<◌, List, [], length, take, Option, Some, sym, ap, ◌∙◌, arith}
use Rattle.std.specs.Prelude.{slice_get, OnOk, Result, Ok, Err}
use Rattle.std.specs.Option.{unwrap_or}
use Rattle.h5w_model.specs.Images.{apply, image}
use Rattle.h5w_model.specs.declared.piece.Write.{Write}
use Rattle.h5w_model.proofs.ImageLemmas.{image-push}
use Rattle.h5w_laws.proofs.HeldLemmas.{next_piece}

pub piece_put : (k : ℕ) (ws : List Write) (w : Write) (old new : List ℕ) → k < length ws → slice_get ws k ≡ Some w → old ≡ image [] (take k ws) → new ≡ apply w old → new ≡ image [] (take (k + 1) ws)
piece_put k ws w old new within is before put =
    let n = next_piece k ws within in
    let same : w ≡ n.0 = ap (λ (o : Option Write). unwrap_or o w) (sym is ∙ n.1) in
    let more : k + 1 ≡ suc k = omega arith in
    put ∙ ap (apply w) before ∙ ap (λ (x : Write). apply x (image [] (take k ws))) same ∙ sym (image-push [] (take k ws) n.0) ∙ ap (image []) (sym n.2) ∙ ap (λ m. image [] (take m ws)) (sym more)

pub put_ok : {T E : Type 0} (r : Result T E) (k : ℕ) (ws : List Write) (w : Write) (old new : List ℕ) → k < length ws → slice_get ws k ≡ Some w → old ≡ image [] (take k ws) → OnOk r (new ≡ apply w old)
    → OnOk r (new ≡ image [] (take (k + 1) ws))
put_ok (Ok x) k ws w old new within is before put = piece_put k ws w old new within is before put
put_ok (Err e) k ws w old new within is before put = tt
