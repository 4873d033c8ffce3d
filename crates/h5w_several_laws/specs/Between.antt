-- In the middle of one part of a flush.
use Rattle.std.specs.Prelude.{◌≡◌, ◌≢◌, ◌⊎◌, ℕ, false, List, [], ◌++◌}
use Rattle.h5w_model.specs.Images.{image}
use Rattle.h5w_model.specs.Findings.{Used}
use Rattle.h5w_model.specs.declared.cell.Key.{Key}
use Rattle.h5w_model.specs.declared.piece.Write.{Write}
use Rattle.h5w_step_laws.specs.Ranges.{Among}
use Rattle.h5w_space.specs.Space.{Space}
use Rattle.h5w_step_laws.specs.Moments.{Moment, Represents}
use Rattle.h5w_step_laws.specs.Plans.{Flush}
use Rattle.h5w_flush_laws.specs.Knowledge.{HeldMissed, Knows}
use Rattle.h5w_flush_laws.specs.Parts.{Parts, IsFlush, flushed_to, pieces_of}
use Rattle.h5w_several_laws.specs.Beside.{own_of}
use Rattle.h5w_several_laws.specs.Turns.{AreKnown, AreOff, ArePlans, Entry, IsOff, IsOne, all_then, flushed, helds, part_of, told}

-- a dataset with what is known of it after some pieces of its part
abbrev pub between_of : Entry → Moment → List Used → Entry
between_of e m held = record e { moment = m; held = held }

-- Some pieces of a dataset's part are shown, and some are left. Its flush leads through a moment; the pieces are a plan of each other dataset; and what
-- readers of one may hold is off what another has.
pub record IsBetween (img : List ℕ) (e : Entry) (es : List Entry) (f : Parts) (ws vs : List Write) : Type 0 where
  pub moment : Moment
  pub held : List Used
  pub path : Flush img e.moment e.held ws moment held
  pub rest : Flush (image img ws) moment held vs (flushed e f).moment f.behind
  pub still : vs ≢ [] → moment.values ≡ e.moment.values
  pub plans : ArePlans img ws moment.super es
  pub off : IsOff (between_of e moment held) (all_then moment.super es)

-- ---- Laws

-- In the middle of a flush a dataset has the ranges of before it or those of behind it.
abbrev pub OwnBetween : Type 0
OwnBetween = (img name : List ℕ) (m b : Moment) (old : Key → ℕ) (s t : Space) (f : Parts) (ws vs : List Write) → (k : Knows img name m old s) → IsFlush img m old s f t → HeldMissed k.held f.writes → ws ++ vs ≡ pieces_of img m f
    → Represents (image img ws) name b → (own_of b ≡ own_of m) ⊎ (own_of b ≡ own_of (flushed_to m f))

-- So it is apart from all others there, as it is at its ends.
abbrev pub TurnBetween : Type 0
TurnBetween = (img : List ℕ) (e : Entry) (es : List Entry) (f : Parts) (s t : Space) (ws vs : List Write) → IsOne img s e.moment.super e.moment.root e → AreKnown img s e.moment.super e.moment.root es
    → IsOff e es → AreOff es → ((u : Used) → Among u e.moment.root → u.chunk ≡ false) → IsFlush img (told e.moment es) e.address s f t → HeldMissed (e.held ++ helds es) f.writes → ws ++ vs ≡ part_of img e f → IsBetween img e es f ws vs
