-- What a session knows of other datasets over a flush of one.
use Rattle.std.specs.Prelude.{◌≡◌, ℕ, ◌<◌, false, List}
use Rattle.h5w_model.specs.Images.{image}
use Rattle.h5w_model.specs.Findings.{Used}
use Rattle.h5w_model.specs.declared.cell.Key.{Key}
use Rattle.h5w_step_laws.specs.Ranges.{Among}
use Rattle.h5w_space.specs.Space.{Space}
use Rattle.h5w_step_laws.specs.Moments.{Moment}
use Rattle.h5w_step_laws.specs.Steps.{OffAll}
use Rattle.h5w_step_laws.specs.Plans.{Plan}
use Rattle.h5w_flush_laws.specs.Knowledge.{HeldMissed, Knows}
use Rattle.h5w_flush_laws.specs.Parts.{Parts, IsFlush, flushed_to, pieces_of}
use Rattle.h5w_several_laws.specs.Beside.{IsBeside, own_of}

-- the file of another dataset once the pieces of a flush are shown
abbrev pub and_then : Moment → Parts → Moment → Moment
and_then m f e = record e { super = (flushed_to m f).super }

-- The pieces are a plan for the other dataset; once all are shown it is known as before, with the places as the flush left them; and what
-- it has is apart from what the flushed one has then.
pub record IsKnownBeside (img name other : List ℕ) (m e : Moment) (held : List Used) (a : Key → ℕ) (t : Space) (f : Parts) : Type 0 where
  pub plan : Plan img e held (pieces_of img m f) (and_then m f e) held
  pub knows : Knows (image img (pieces_of img m f)) other (and_then m f e) a t
  pub held_is : knows.held ≡ held
  pub beside : IsBeside (and_then m f e) (flushed_to m f)
  pub apart : OffAll (own_of e) (own_of (flushed_to m f))
  pub held_apart : OffAll held (own_of (flushed_to m f))

-- The flushed dataset is told of the others; the other one is told of none, as readers know it.
abbrev pub OthersKnow : Type 0
OthersKnow = (img name other : List ℕ) (m e : Moment) (old a : Key → ℕ) (s t : Space) (f : Parts) → (k : Knows img name m old s) → IsFlush img m old s f t → HeldMissed k.held f.writes
    → (o : Knows img other e a s) → IsBeside e m → ((u : Used) → Among u e.root → u.chunk ≡ false) → 0 < m.dataset.shape.cols → ((u : Used) → Among u o.held → u.chunk ≡ false → Among u k.held) → OffAll o.held (own_of m)
    → IsKnownBeside img name other m e o.held a t f
