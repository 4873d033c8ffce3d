-- What is known where a session of several datasets begins over a file that is valid for all of them.
use Rattle.std.specs.Prelude.{◌≡◌, ◌^◌, ◌≤◌, ℕ, false, List, [], ◌∷◌}
use Rattle.h5w_model.specs.Findings.{AllSummary, AllValid, Used}
use Rattle.h5w_model.specs.Images.{image}
use Rattle.h5w_model.specs.Prefixed.{PrefixedEach}
use Rattle.h5w_model.specs.Relations.{AllPaired}
use Rattle.h5w_model.specs.Several.{Begun}
use Rattle.h5w_model.specs.Tables.{Reads}
use Rattle.h5w_model.specs.declared.root.Super.{Super}
use Rattle.h5w_step_laws.specs.Ranges.{Among}
use Rattle.h5w_step_laws.specs.Plans.{Plan}
use Rattle.h5w_step_laws.specs.Sessions.{Runs}
use Rattle.h5w_several_laws.specs.Turns.{AreKnown, AreOff, Entry, all_then, then_as}
use Rattle.h5w_writer.specs.Openings.{opened_log}
use Rattle.h5w_writer.specs.PartLaws.{RunsAs, super_piece}
use Rattle.h5w_writer.specs.Sessions.{Session}
use Rattle.h5w_writer.specs.Told.{told_log}
use Rattle.h5w_writer_open.specs.OpenAnswers.{IsOpenedOver}
use Rattle.h5w_several_open.specs.Answers.{HasBegunWith}
use Rattle.h5w_several_open.specs.Datasets.{IsEntry}

-- the file reads as these values under the name
abbrev pub ReadsIt : List ℕ → List ℕ → Begun → Type 0
ReadsIt img name b = (rows : ℕ) × Reads img name rows b.columns b.values

-- A dataset of the file is known by a moment that is told of no other; and the session over it, with nothing pending, runs over the log of the file that it
-- opened, told of the superblock by which the file says that it is written.
pub record BeginsPart (img name : List ℕ) (b : Begun) (s : Session) (e : Entry) : Type 0 where
  pub entry : IsEntry img s.places name e
  pub prefixed : PrefixedEach name (opened_log img b.columns b.values)
  -- nothing happened yet, and the superblock's piece brings no rows
  pub run : Runs name (opened_log img b.columns b.values) [] e.moment e.held
  pub plan : Plan img e.moment e.held (super_piece s.root ∷ []) (then_as s.root e).moment e.held
  pub times : ℕ
  pub runs : RunsAs (record s { pending = [] }) [] (told_log times (super_piece s.root ∷ []) (opened_log img b.columns b.values)) (then_as s.root e).moment e.address e.held s.places

-- each of them
pub data EachBegins (img : List ℕ) : List (List ℕ) → List Begun → List Session → List Entry → Type 0 where
  no_part : EachBegins img [] [] [] []
  a_part : (name : List ℕ) (b : Begun) (s : Session) (e : Entry) (names : List (List ℕ)) (bs : List Begun) (ss : List Session) (es : List Entry) → BeginsPart img name b s e → EachBegins img names bs ss es
      → EachBegins img (name ∷ names) (b ∷ bs) (s ∷ ss) (e ∷ es)

-- Each begins so. Once the superblock is shown all are known, with the superblock and the places of all, and the ranges of the root header; and what one has
-- does not meet what another has.
pub record BeginApart (img : List ℕ) (names : List (List ℕ)) (bs : List Begun) (ss : List Session) (root : Super) (limit : ℕ) : Type 0 where
  pub entries : List Entry
  pub each : EachBegins img names bs ss entries
  pub ranges : List Used
  pub blocks : (u : Used) → Among u ranges → u.chunk ≡ false
  pub known : AreKnown (image img (super_piece root ∷ [])) (record { end = root.end; limit = limit; free = []; retired = []; spare = 0 }) root ranges (all_then root entries)
  pub off : AreOff (all_then root entries)

-- ---- Laws

-- The sessions that are opened over a valid file begin so.
abbrev pub OpensAll : Type 0
OpensAll = (img : List ℕ) (size : ℕ) (names : List (List ℕ)) (t : AllSummary) (bs : List Begun) (ss : List Session) (limit budget : ℕ) (root : Super) → AllValid img names t → AllPaired (ReadsIt img) names bs
    → AllPaired (λ (name : List ℕ) (s : Session). IsOpenedOver img size name limit budget s) names ss → AllPaired (HasBegunWith limit budget root) names ss → 1024 ≤ limit → limit ≤ 2 ^ 40
    → BeginApart img names bs ss root limit
