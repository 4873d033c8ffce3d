-- The writes of a journal, whose bytes stand one behind another.
use Rattle.std.specs.Prelude.{ℕ, ◌+◌, ◌≤◌, List, [], ◌∷◌, length}
use Rattle.h5w_model.specs.Numbers.{range}
use Rattle.h5w_model.specs.declared.piece.Write.{Write}
use Rattle.h5w_image.specs.declared.journal.Entry.{Entry}
use Rattle.h5w_image.specs.declared.journal.WriteRef.{WriteRef}

-- the write that an entry names, of all writes' bytes
abbrev pub write_of : List ℕ → Entry → Write
write_of bytes e = record { at = e.at; piece = range bytes e.from e.len }

-- what each entry names is among these bytes
abbrev pub AreAmong : List ℕ → List Entry → Type 0
AreAmong bytes [] = Unit {0}
AreAmong bytes (e ∷ es) = (e.from + e.len ≤ length bytes) × AreAmong bytes es

-- a write that is seen where it stands
abbrev pub write_seen : WriteRef → Write
write_seen w = record { at = w.at; piece = w.piece.now }
