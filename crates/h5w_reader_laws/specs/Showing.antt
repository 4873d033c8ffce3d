-- What happens while pieces become visible.
use Rattle.std.specs.Prelude.{List, [], ◌∷◌}
use Rattle.h5w_model.specs.Logs.{Happening, shows}
use Rattle.h5w_model.specs.declared.piece.Write.{Write}

-- these pieces became visible, one after another; the newest event comes first
abbrev pub showing : List Write → List Happening → List Happening
showing [] es = es
showing (w ∷ ws) es = showing ws (shows w ∷ es)
