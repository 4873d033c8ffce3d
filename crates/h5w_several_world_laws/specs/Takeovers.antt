-- What a line that takes a file over makes of a session of several datasets and of a script's state.
use Rattle.std.specs.Prelude.{◌≡◌, ℕ, ◌≤◌, true, false, List, [], ◌∷◌}
use Rattle.h5w_model.specs.Several.{takes_over}
use Rattle.h5w_writer.specs.Sessions.{Session}
use Rattle.h5w_several_writer_laws.specs.Sessions.{Sessions}
use Rattle.h5w_several_writer_laws.specs.Standing.{StandsAll, and_then}
use Rattle.h5w_several_script_laws.specs.Scripts.{FileState, flushed_of, goes_on, takes, took_over}
use Rattle.h5w_several_script_laws.specs.Polled.{Places}
use Rattle.h5w_several_world_laws.specs.Worlds.{HaveOneFileLog, polling_in}
use Rattle.h5w_several_world_laws.specs.Steps.{StepsTo}

-- a part of the session that takes over: of the same name and with the same rules, and nothing is pending
pub record IsPartTaken (s u : Session) : Type 0 where
  pub polling : (limit attempts : ℕ) → polling_in limit attempts u ≡ polling_in limit attempts s
  pub pending : u.pending ≡ []
  pub flushing : u.flushing ≡ false

abbrev pub ArePartsTaken : List Session → List Session → Type 0
ArePartsTaken [] [] = Unit {0}
ArePartsTaken [] (u ∷ uu) = ⊥
ArePartsTaken (s ∷ ss) [] = ⊥
ArePartsTaken (s ∷ ss) (u ∷ uu) = IsPartTaken s u × ArePartsTaken ss uu

-- The session that takes over has the limit of the one before, and begins at an end of the file that is no more than that session's.
pub record IsTakenFrom (S T : Sessions) : Type 0 where
  pub limit : T.places.limit ≡ S.places.limit
  pub end : T.places.end ≤ S.places.end
  pub going : T.stopped ≡ false
  pub parts : ArePartsTaken S.parts T.parts

-- ---- Laws

pub record TakeSteps : Type 0 where
  -- the writer was not stopped
  pub going : (S : Sessions) (attempts : ℕ) (ps : Places) (F : FileState) → HaveOneFileLog S attempts ps F → S.stopped ≡ false → StepsTo attempts ps F takes goes_on S
  -- another session takes over, and stands for the log with the takeover: readers of each dataset poll on
  pub taken : (S T : Sessions) (attempts : ℕ) (ps : Places) (F : FileState) → (h : HaveOneFileLog S attempts ps F) → S.stopped ≡ true → StandsAll T (and_then takes_over h.log) → IsTakenFrom S T
      → StepsTo attempts ps F takes (took_over (flushed_of F.sets)) T
