-- What a call of the session, or a write, leaves of the world.
use Rattle.std.proofs.Common.{◌≡◌, ℕ, List, [], ◌∷◌, ◌++◌, Option, sym, ap, ◌∙◌}
use Rattle.h5w_model.specs.Images.{image}
use Rattle.h5w_model.specs.declared.piece.Write.{Write}
use Rattle.h5w_model.proofs.ImageLemmas.{image-push}
use Rattle.h5w_image.specs.Memory.{MemView}
use Rattle.h5w_image.specs.View.{Same, Wrote}
use Rattle.h5w_writer.specs.Sessions.{Session}
use Rattle.h5w_reader.specs.declared.reader.ReaderCore.{ReaderCore}
use Rattle.h5w_steady.specs.Steady.{steady}
use Rattle.h5w_writer.proofs.StateLemmas.{some_is}
use Rattle.h5w_core.specs.Worlds.{WorldView, shown_world}

-- a world by its parts
abbrev pub world_of : Session → MemView → ℕ → List (Option ReaderCore) → WorldView
world_of s m attempts readers = record { session = s; bytes = m.bytes; journal = m.history; attempts = attempts; readers = readers }

-- the world with another session
abbrev pub with_session : WorldView → Session → WorldView
with_session w t = record w { session = t }

-- the image is as before, and the session is changed
pub changed : (s t : Session) (m n : MemView) (attempts : ℕ) (readers : List (Option ReaderCore)) → Same (steady m) (steady n) → (next : Session → Session) → t ≡ next s
    → world_of t n attempts readers ≡ record (world_of s m attempts readers) { session = next s }
changed s t m n attempts readers same next is =
    let bytes = some_is n.bytes m.bytes same.bytes in
    let journal = some_is n.history m.history same.history in
    λ i. record { session = is i; bytes = bytes i; journal = journal i; attempts = attempts; readers = readers }

-- the image is as before, whatever the session is
pub replaced : (s t : Session) (m n : MemView) (attempts : ℕ) (readers : List (Option ReaderCore)) → Same (steady m) (steady n) → world_of t n attempts readers ≡ with_session (world_of s m attempts readers) t
replaced s t m n attempts readers same =
    let bytes = some_is n.bytes m.bytes same.bytes in
    let journal = some_is n.history m.history same.history in
    λ i. record { session = t; bytes = bytes i; journal = journal i; attempts = attempts; readers = readers }

-- a piece became visible
pub shown_is : (s t : Session) (m n : MemView) (attempts : ℕ) (readers : List (Option ReaderCore)) (piece : Write) → Wrote (piece ∷ []) (steady m) (steady n)
    → world_of t n attempts readers ≡ shown_world (world_of s m attempts readers) piece t
shown_is s t m n attempts readers piece wrote =
    let bytes = some_is n.bytes (image m.bytes (piece ∷ [])) wrote.bytes in
    let journal = some_is n.history (m.history ++ piece ∷ []) wrote.history in
    λ i. record { session = t; bytes = bytes i; journal = journal i; attempts = attempts; readers = readers }

-- the image is what its journal makes of no bytes
pub still_folded : (m n : MemView) (piece : Write) → Wrote (piece ∷ []) (steady m) (steady n) → m.bytes ≡ image [] m.history → n.bytes ≡ image [] n.history
still_folded m n piece wrote folds =
    let bytes = some_is n.bytes (image m.bytes (piece ∷ [])) wrote.bytes in
    let journal = some_is n.history (m.history ++ piece ∷ []) wrote.history in
    bytes ∙ ap (λ (b : List ℕ). image b (piece ∷ [])) folds ∙ sym (image-push [] m.history piece) ∙ ap (image []) (sym journal)

pub same_folded : (m n : MemView) → Same (steady m) (steady n) → m.bytes ≡ image [] m.history → n.bytes ≡ image [] n.history
same_folded m n same folds = some_is n.bytes m.bytes same.bytes ∙ folds ∙ ap (image []) (sym (some_is n.history m.history same.history))
