-- The spots of pieces, as entries of a journal.
use Rattle.std.proofs.Common.{ℕ, ◌<◌, ◌≤◌, ◌≡◌, refl, length, get_or, Some, None, List, [], ◌∷◌, ◌++◌, ap, ◌∙◌, sym}
use Rattle.std.specs.Prelude.{map, slice_get}
use Rattle.std.specs.Option.{option_map}
use Rattle.std.proofs.lemmas.List.{map-append}
use Rattle.std.proofs.lemmas.Option.{slice_get-map, slice_get_past, slice_get_read}
use Rattle.h5w_replica.specs.declared.pieces.Spot.{Spot}
use Rattle.h5w_replica.specs.Waiting.{entry_of}

-- with one spot more
pub spot_last : (ss fuller : List Spot) (s : Spot) → fuller ≡ ss ++ s ∷ [] → map entry_of fuller ≡ map entry_of ss ++ entry_of s ∷ []
spot_last ss fuller s is = ap (map entry_of) is ∙ map-append entry_of ss (s ∷ [])

-- the spot that was read at a place
pub spot_at : (read ss : List Spot) (k : ℕ) (s : Spot) → read ≡ ss → k < length read → s ≡ get_or read k s → slice_get (map entry_of ss) k ≡ Some (entry_of s)
spot_at read ss k s same inside is =
    slice_get-map entry_of ss k
    ∙ ap (option_map entry_of) (ap (λ (l : List Spot). slice_get l k) (sym same) ∙ slice_get_read read (length read) k s refl inside is)

-- there is no spot past the last
pub no_spot : (ss : List Spot) (k : ℕ) → length ss ≤ k → slice_get (map entry_of ss) k ≡ None
no_spot ss k past = slice_get-map entry_of ss k ∙ ap (option_map entry_of) (slice_get_past ss k past)
