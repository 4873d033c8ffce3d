-- Another writer takes over the file of a session of one dataset: from there on it is a file of several datasets, which has one.
use Rattle.std.specs.Prelude.{◌≡◌, ◌^◌, ◌≤◌, ◌+◌, ◌*◌, ℕ, [], ◌∷◌, length, None, Result, IfErr}
use Rattle.h5w_model.specs.Logs.{Log, flushed, flushed_rows, hist, spent}
use Rattle.h5w_model.specs.Several.{file_log, takes_over}
use Rattle.h5w_step_laws.specs.Logs.{image_now}
use Rattle.h5w_opening.specs.Errors.{refusal_of}
use Rattle.h5w_opening.specs.declared.error.OpenError.{OpenError}
use Rattle.h5w_writer.specs.Loads.{first_end_of}
use Rattle.h5w_writer.specs.Past.{HasCreated, IsNew}
use Rattle.h5w_writer.specs.Sessions.{Session, cutting_of}
use Rattle.h5w_writer.specs.Stands.{Stands}
use Rattle.h5w_several_writer_laws.specs.Sessions.{Sessions}
use Rattle.h5w_several_writer_laws.specs.Standing.{StandsAll, and_then}
use Rattle.h5w_several_open.specs.Taken.{HasTakenAll, IsTakenAll, IsTakenAnswer}
use Rattle.h5w_takeover_laws.specs.Refused.{IsLeftOpen}
use Rattle.h5w_takeover_laws.specs.Several.{IsAlike}

-- What a session tells of the file that it created: its log began with the creation; the limit is one that a file may have; the file grew by no more than
-- the loads so far; and what is flushed are whole rows.
pub record ToldOfCreated (s : Session) (log : Log) : Type 0 where
  pub created : HasCreated s log
  pub low : 1024 ≤ s.places.limit
  pub high : s.places.limit ≤ 2 ^ 40
  pub first_end : first_end_of log ≡ 1024
  pub grew : s.places.end ≤ first_end_of log + spent (cutting_of s) log
  pub whole : length (flushed log) ≡ flushed_rows log * log.columns

-- The session of several datasets that takes the file over has one part, which is alike and has nothing pending. It stands for the log of before with the
-- takeover, and begins at an end of the file that is no more than that of the session before.
pub record CarriesFile (s : Session) (T : Sessions) (log : Log) : Type 0 where
  pub stands : StandsAll T (and_then takes_over (file_log log))
  pub end : T.places.end ≤ s.places.end
  pub part : Session
  pub parts : T.parts ≡ part ∷ []
  pub name : part.name ≡ s.name
  pub alike : IsAlike s part
  pub pending : part.pending ≡ []

-- ---- Laws

-- once a reader finds the file
abbrev pub CreatedTold : Type 0
CreatedTold = (s : Session) (log : Log) → Stands s log → IsNew log → log.first ≤ length (hist log.events) → ToldOfCreated s log

-- The session that takes over the file where it is now, by the one name and with no smaller limit, goes on with the log, also where rows were
-- written before their flush.
abbrev pub CarriesOne : Type 0
CarriesOne = (s : Session) (T : Sessions) (log : Log) (limit budget : ℕ) → Stands s log → IsNew log → log.first ≤ length (hist log.events) → s.places.limit ≤ limit → limit ≤ 2 ^ 40
    → IsTakenAll (image_now log) (length (image_now log)) (s.name ∷ []) limit budget T → HasTakenAll (s.name ∷ []) limit budget T → CarriesFile s T log

-- Where that image has both flags of a writer it answers a session, unless the image fails or memory runs out.
abbrev pub AnswersOne : Type 0
AnswersOne = (s : Session) (log : Log) (limit budget : ℕ) (r : Result Sessions OpenError) → Stands s log → IsNew log → log.first ≤ length (hist log.events) → IsLeftOpen (image_now log)
    → IsTakenAnswer (image_now log) (length (image_now log)) (s.name ∷ []) limit budget r → IfErr r (λ e. refusal_of e ≡ None)
