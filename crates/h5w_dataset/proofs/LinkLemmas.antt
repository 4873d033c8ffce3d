-- Messages as links are read from them.
use Rattle.std.proofs.Common.{◌≡◌, List, [], ◌∷◌, map, refl, ap}
use Rattle.h5w_model.specs.declared.message.Msg.{Msg}
use Rattle.h5w_dataset.specs.Founds.{found_of, founds, listed}
use Rattle.h5w_dataset.specs.declared.found.FoundMessage.{FoundMessage}

pub listed_founds : (fs : List FoundMessage) → map (λ (f : FoundMessage). listed (found_of f)) fs ≡ map listed (founds fs)
listed_founds [] = refl
listed_founds (f ∷ fs) = ap (λ (ms : List Msg). listed (found_of f) ∷ ms) (listed_founds fs)
