-- What a call through a seat leaves of the image that the traits see.
use Rattle.std.proofs.Common.{◌≡◌, ℕ, ◌-◌, Bool, true, false, true≢false, List, [], ◌∷◌, ◌++◌, Some, Ok, Err, sym, refl, ap, ◌∙◌, subst, arith}
use Rattle.std.specs.Prelude.{Result, OnOk, OnErr}
use Rattle.h5w_model.specs.declared.piece.Write.{Write}
use Rattle.h5w_model.specs.Images.{image}
use Rattle.h5w_model.proofs.ImageLemmas.{image-append}
use Rattle.h5w_image.specs.View.{Looked, Same, Wrote}
use Rattle.h5w_image.proofs.ViewLemmas.{looked_if_same}
use Rattle.h5w_shared.specs.Turns.{StartsWith}
use Rattle.h5w_shared.specs.Seats.{FailedSeat, SeatView, seen_through}

looked_on : (name : ℕ) (s : SeatView) (xs : List Write) → StartsWith xs s.seen → Looked (seen_through false name s) (seen_through false name (record s { seen = xs }))
looked_on name s xs p = record {
  grown = (p.0, ap (λ (l : List Write). Some (image s.image.start l)) p.1 ∙ ap Some (image-append s.image.start s.seen p.0), ap Some p.1);
  still = λ no. absurd (true≢false (sym no));
  alone = refl;
  faults = omega arith;
  through = refl;
  pieces = omega arith;
  end = omega arith;
}

failed_same : (alone : Bool) (name : ℕ) (s t : SeatView) → FailedSeat s t → Same (seen_through alone name s) (seen_through alone name t)
failed_same alone name s t f = subst (λ (z : SeatView). Same (seen_through alone name s) (seen_through alone name z)) (sym f.same) record {
  bytes = refl;
  history = refl;
  disk = refl;
  alone = refl;
  faults = f.kept;
  through = refl;
  pieces = omega arith;
  end = omega arith;
}

-- a reader's look, whether or not it failed
pub looked_through : {A E : Type 0} (X : Type 0) (r : Result A E) (name : ℕ) (s t : SeatView) → OnOk r (t ≡ record s { seen = t.seen }) → OnOk r (StartsWith t.seen s.seen)
    → OnErr r (FailedSeat s t × X) → Looked (seen_through false name s) (seen_through false name t)
looked_through X (Ok x) name s t same grown refused =
    subst (λ (z : SeatView). Looked (seen_through false name s) (seen_through false name z)) (sym same) (looked_on name s t.seen grown)
looked_through X (Err e) name s t same grown refused = looked_if_same (failed_same false name s t refused.0)

wrote_on : (name : ℕ) (w : Write) (s : SeatView)
    → Wrote (w ∷ []) (seen_through true name s) (seen_through true name (record s { seen = s.seen ++ w ∷ []; pieces = s.pieces - 1 }))
wrote_on name w s = record {
  bytes = ap Some (image-append s.image.start s.seen (w ∷ []));
  history = refl;
  alone = refl;
  faults = omega arith;
  through = refl;
  pieces = omega arith;
  end = omega arith;
}

-- a piece that was written
pub wrote_through : {A E : Type 0} (r : Result A E) (name : ℕ) (w : Write) (s t : SeatView) → OnOk r (t ≡ record s { seen = s.seen ++ w ∷ []; pieces = s.pieces - 1 })
    → OnOk r (Wrote (w ∷ []) (seen_through true name s) (seen_through true name t))
wrote_through (Ok x) name w s t is = subst (λ (z : SeatView). Wrote (w ∷ []) (seen_through true name s) (seen_through true name z)) (sym is) (wrote_on name w s)
wrote_through (Err e) name w s t is = tt
