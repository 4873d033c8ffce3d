-- What a session knows of a file whose array is a header alone: the layout names it, and it names no index block, so all chunks are absent.
use Rattle.std.specs.Prelude.{◌≡◌, ◌≢◌, ℕ, ◌≤◌, List, [], ◌∷◌, Ok}
use Rattle.h5w_model.specs.Numbers.{range, undefined}
use Rattle.h5w_model.specs.Arrays.{EahdFields, eahd_at, eahd_len}
use Rattle.h5w_model.specs.Datasets.{Described}
use Rattle.h5w_model.specs.Images.{apply}
use Rattle.h5w_model.specs.declared.cell.IndexKind.TheVariants.{Array}
use Rattle.h5w_model.specs.declared.piece.Write.{Write}
use Rattle.h5w_step_laws.specs.Ranges.{block_at}
use Rattle.h5w_space.specs.Space.{Space, Commits}
use Rattle.h5w_step_laws.specs.Moments.{Moment, Represents}
use Rattle.h5w_step_laws.specs.Steps.{Ends}
use Rattle.h5w_flush_laws.specs.Flushes.{IsBegun}
use Rattle.h5w_flush_laws.specs.Knowledge.{IsMap, Knows}
use Rattle.h5w_first_flush_laws.specs.FirstFlushes.{no_chunk}

-- The dataset's index is an array. Its layout names a place, and the header that stands there names no index block.
pub record IsHeaderAlone (img : List ℕ) (d : Described) : Type 0 where
  pub kind : d.layout.index ≡ Array
  pub named : d.layout.address ≢ undefined
  pub fields : EahdFields
  pub read : eahd_at (range img d.layout.address eahd_len) d.layout.address ≡ Ok fields
  pub none : fields.block ≡ undefined

-- what is known of such a file when nothing is pending: it is known as any other
pub record AloneKnows (img name : List ℕ) (m : Moment) (s : Space) : Type 0 where
  pub knows : Knows img name m no_chunk s
  pub alone : IsHeaderAlone img m.dataset

-- ---- Laws

-- Its index is the map by which no chunk has an address; its ranges are that of the header.
pub record IsAlone (img : List ℕ) (m : Moment) : Type 0 where
  pub map : IsMap img m.dataset no_chunk
  pub fixed : m.fixed ≡ block_at m.dataset.layout.address eahd_len ∷ []
  pub behind : m.behind ≡ []

abbrev pub AloneNowhere : Type 0
AloneNowhere = (img name : List ℕ) (m : Moment) → Represents img name m → IsHeaderAlone img m.dataset → IsAlone img m

-- A session begins with such a file: the places begin at its end, and readers hold no more than what it has.
abbrev pub AloneBegins : Type 0
AloneBegins = (img name : List ℕ) (m : Moment) (s : Space) → Represents img name m → IsHeaderAlone img m.dataset → IsBegun m s → (x : AloneKnows img name m s) × (x.knows.held ≡ m.behind)

-- The superblock with other flags leaves that known.
abbrev pub AloneEnds : Type 0
AloneEnds = (img name : List ℕ) (m n : Moment) (s : Space) (w : Write) → (k : AloneKnows img name m s) → Ends img m w n → n.super.end ≤ s.end → (x : AloneKnows (apply w img) name n s) × (x.knows.held ≡ k.knows.held)

-- So do places where what was let go is free.
abbrev pub AloneFreed : Type 0
AloneFreed = (img name : List ℕ) (m : Moment) (s t : Space) → (k : AloneKnows img name m s) → Commits s t → (x : AloneKnows img name m t) × (x.knows.held ≡ k.knows.held)
