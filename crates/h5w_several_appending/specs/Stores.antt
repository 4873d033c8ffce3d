-- A session of several datasets that stores batches, its log, and its pieces in a file.
use Rattle.std.specs.Prelude.{◌≡◌, ◌⊎◌, ℕ, suc, ◌*◌, ◌<◌, ◌≤◌, List, [], ◌∷◌, ◌++◌, length, map, Ok, option_map}
use Rattle.h5w_model.specs.Causes.{Rose}
use Rattle.h5w_model.specs.Datasets.{Described}
use Rattle.h5w_model.specs.Logs.{appended_in, flushed_in}
use Rattle.h5w_model.specs.Several.{Begun, FileLog, Happened, pieces_in, seen_by}
use Rattle.h5w_model.specs.Superblock.{super_at, super_bytes}
use Rattle.h5w_model.specs.declared.piece.Write.{Write}
use Rattle.h5w_model.specs.declared.root.Super.{Super}
use Rattle.h5w_image.specs.View.{DiskView}
use Rattle.h5w_writer.specs.Sessions.{Session, cleared}
use Rattle.h5w_files.specs.Images.{LeavesFiles}
use Rattle.h5w_batches.specs.Batches.{Batches, end_batch}
use Rattle.h5w_appending.specs.Appends.{grown}
use Rattle.h5w_appending.specs.Puts.{AgreesAtFirst, AllAre, ComesFirst, after_puts, counts_of, writes_of}
use Rattle.h5w_appending.specs.Taken.{rows_after, values_of}
use Rattle.h5w_several_open.specs.Stands.{opened_file}
use Rattle.h5w_several_writer_laws.specs.Sessions.{Sessions, all_pending}
use Rattle.h5w_several_writer_laws.specs.Standing.{StandsAll}
use Rattle.h5w_several_writer_laws.specs.Valid.{names_in}
use Rattle.h5w_several_appending.specs.Taken.{SetBatches}

-- ---- Its datasets

abbrev pub datasets_of : List Session → List Described
datasets_of ss = map (λ (s : Session). s.dataset) ss

-- A dataset, as it was when the session began, once these batches were closed, and these values wait.
pub record IsTaken (d : Described) (s : Session) (b : Batches) : Type 0 where
  pub dataset : s.dataset ≡ grown s.dataset.shape.rows s.dataset.layout.address d
  pub rows : s.dataset.shape.rows ≡ rows_after d.shape.cols d.shape.rows b.closed
  pub waits : length b.waiting ≡ s.waits * d.shape.cols
  pub some : 1 ≤ d.shape.cols

abbrev pub EachTaken : List Described → List Session → List Batches → Type 0
EachTaken [] [] [] = Unit {0}
EachTaken [] [] (b ∷ bs) = ⊥
EachTaken [] (s ∷ ss) bs = ⊥
EachTaken (d ∷ ds) [] bs = ⊥
EachTaken (d ∷ ds) (s ∷ ss) [] = ⊥
EachTaken (d ∷ ds) (s ∷ ss) (b ∷ bs) = IsTaken d s b × EachTaken ds ss bs

-- The session is the one that began, once these batches were closed, and these values wait. The file may grow to the limit that it had.
pub record HasTaken (first S : Sessions) (b : SetBatches) : Type 0 where
  pub names : names_in S.parts ≡ names_in first.parts
  pub root : S.root ≡ record (first.root) { end = S.root.end }
  pub limit : S.places.limit ≡ first.places.limit
  pub parts : EachTaken (datasets_of first.parts) S.parts b.sets
  pub used : b.used < length S.parts

-- ---- Its log

-- what is told of each dataset of a file, from this number on, by the values that it began with and its batches
abbrev pub EachSet : (ℕ → Begun → Batches → Type 0) → ℕ → List Begun → List Batches → Type 0
EachSet P d [] [] = Unit {0}
EachSet P d [] (b ∷ bs) = ⊥
EachSet P d (s ∷ ss) [] = ⊥
EachSet P d (s ∷ ss) (b ∷ bs) = P d s b × EachSet P (suc d) ss bs

-- By these events the batches that were closed are flushed, whatever pieces come, and the values that wait are appended behind them.
pub record IsSettled (es : List Happened) (d : ℕ) (s : Begun) (b : Batches) : Type 0 where
  pub flushed_are : (n : ℕ) → flushed_in n s.values (seen_by d es) ≡ s.values ++ values_of b.closed
  pub appended_are : appended_in (seen_by d es) ≡ values_of b.closed ++ b.waiting

-- they are flushed
pub record IsStored (es : List Happened) (d : ℕ) (s : Begun) (b : Batches) : Type 0 where
  pub flushed_are : flushed_in 0 s.values (seen_by d es) ≡ s.values ++ values_of b.closed
  pub appended_are : appended_in (seen_by d es) ≡ values_of b.closed ++ b.waiting

-- they are, and the values that wait with them or not
pub record IsEither (es : List Happened) (d : ℕ) (s : Begun) (b : Batches) : Type 0 where
  pub flushed_are : (flushed_in 0 s.values (seen_by d es) ≡ s.values ++ values_of b.closed) ⊎ (flushed_in 0 s.values (seen_by d es) ≡ s.values ++ values_of (end_batch b).closed)
  pub appended_are : appended_in (seen_by d es) ≡ values_of b.closed ++ b.waiting

-- a log of the session over a file with these bytes and datasets, by which these pieces became visible
pub record IsLogOf (img : List ℕ) (sets : List Begun) (S : Sessions) (ws : List Write) (log : FileLog) : Type 0 where
  pub stands : StandsAll S log
  pub begun : log ≡ record (opened_file img sets) { events = log.events }
  pub pieces : pieces_in log.events ≡ ws

-- The session is that of such a log.
pub record Settled (img : List ℕ) (sets : List Begun) (S : Sessions) (ws : List Write) (b : SetBatches) : Type 0 where
  pub log : FileLog
  pub of : IsLogOf img sets S ws log
  pub each : EachSet (IsSettled log.events) 0 sets b.sets

-- a session of such a log, of datasets of these names, which may grow to this limit
pub record IsHalted (P : List Happened → ℕ → Begun → Batches → Type 0) (img : List ℕ) (sets : List Begun) (names : List (List ℕ)) (limit : ℕ) (ws : List Write) (b : SetBatches) : Type 0 where
  pub session : Sessions
  pub names_are : names_in session.parts ≡ names
  pub limit_is : session.places.limit ≡ limit
  pub log : FileLog
  pub of : IsLogOf img sets session ws log
  pub each : EachSet (P log.events) 0 sets b.sets

-- where the file was valid, a log of the session
abbrev pub OfEachLog : Sessions → (List ℕ → List Begun → Type 0) → Type 0
OfEachLog first P = (img : List ℕ) (sets : List Begun) → StandsAll first (opened_file img sets) → P img sets

-- ---- Its pieces

-- The session's first pieces were put into the file, one after another, those of these batches, each before the disk failed. Before them
-- come those that were pending when it began.
pub record Stored (name : List ℕ) (first S : Sessions) (b : SetBatches) (v w : DiskView) : Type 0 where
  pub taken : HasTaken first S b
  pub puts : List (Write × ℕ)
  pub disk : LeavesFiles (option_map (after_puts name puts) v.told) v w
  pub since : AllAre v.faults (counts_of puts)
  pub begins : ComesFirst (all_pending first.parts) (writes_of puts ++ all_pending S.parts)
  pub logs : OfEachLog first (λ img sets. Settled img sets S (writes_of puts) b)

-- The disk failed: the puts that were done are the session's first pieces, of which those come first that were pending when it began.
-- Each of them came before the first fault.
pub record Broke (name : List ℕ) (first : Sessions) (b : SetBatches) (v w : DiskView) : Type 0 where
  pub puts : List (Write × ℕ)
  pub disk : LeavesFiles (option_map (after_puts name puts) v.told) v w
  pub since : AllAre v.faults (counts_of puts)
  pub rose : Rose v.faults w.faults
  pub begins : AgreesAtFirst (all_pending first.parts) (writes_of puts)
  pub logs : OfEachLog first (λ img sets. IsHalted IsEither img sets (names_in first.parts) first.places.limit (writes_of puts) b)

-- The session was closed: its first pieces are those that were pending when it began, and its last piece is the superblock without the
-- flags of writers, else as the session had it, but for its end. The disk did not fail.
pub record ClosedUp (name : List ℕ) (first : Sessions) (b : SetBatches) (v w : DiskView) : Type 0 where
  pub puts : List (Write × ℕ)
  pub disk : LeavesFiles (option_map (after_puts name puts) v.told) v w
  pub since : AllAre v.faults (counts_of puts)
  pub calm : w.faults ≡ v.faults
  pub begins : ComesFirst (all_pending first.parts) (writes_of puts)
  pub front : List Write
  pub root : Super
  pub last : writes_of puts ≡ front ++ record { at = 0; piece = super_bytes root } ∷ []
  pub reads : super_at (super_bytes root) ≡ Ok root
  pub root_is : root ≡ record (first.root) { end = root.end; flags = cleared first.root.flags }
  pub logs : OfEachLog first (λ img sets. IsHalted IsStored img sets (names_in first.parts) first.places.limit (writes_of puts) b)
