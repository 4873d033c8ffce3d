-- A session of several datasets that was opened over a file that is valid for all of them.
use Rattle.std.specs.Prelude.{ℕ, ◌^◌, ◌≤◌, List, [], length}
use Rattle.h5w_model.specs.Findings.{AllSummary, AllValid}
use Rattle.h5w_model.specs.Relations.{AllPaired}
use Rattle.h5w_model.specs.Several.{Begun, FileLog}
use Rattle.h5w_model.specs.declared.root.Super.{Super}
use Rattle.h5w_writer.specs.Sessions.{Session}
use Rattle.h5w_writer_open.specs.OpenAnswers.{IsOpenedOver}
use Rattle.h5w_several_writer_laws.specs.Standing.{StandsAll}
use Rattle.h5w_several_open.specs.Answers.{HasBegunWith}
use Rattle.h5w_several_open.specs.Begins.{ReadsIt}
use Rattle.h5w_several_writer.specs.Opened.{sessions_over}

-- the log of a file that was opened, whose datasets these are, to which nothing happened yet
abbrev pub opened_file : List ℕ → List Begun → FileLog
opened_file img bs = record { start = img; sets = bs; first = 0; events = [] }

-- The session of all of them stands for the log of the file that was opened, to which nothing happened yet.
abbrev pub OpensStanding : Type 0
OpensStanding = (img : List ℕ) (size : ℕ) (names : List (List ℕ)) (t : AllSummary) (bs : List Begun) (ss : List Session) (limit budget : ℕ) (root : Super) → AllValid img names t → AllPaired (ReadsIt img) names bs
    → AllPaired (λ (name : List ℕ) (s : Session). IsOpenedOver img size name limit budget s) names ss → AllPaired (HasBegunWith limit budget root) names ss → 1 ≤ length ss → 1024 ≤ limit → limit ≤ 2 ^ 40
    → StandsAll (sessions_over root limit ss) (opened_file img bs)
