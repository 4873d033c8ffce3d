-- What can be written at the first position of a log can be written at each later one.
use Rattle.std.proofs.Common.{◌≡◌, ◌≢◌, ◌⊎◌, ℕ, ◌+◌, ◌≤◌, List, [], ◌∷◌, length, length-append, refl, ap, sym, ◌∙◌, subst, inl, inr, arith}
use Rattle.h5w_model.specs.Logs.{Log, first_rows, flushed_at, hist}
use Rattle.h5w_model.specs.Datasets.{Described}
use Rattle.h5w_model.specs.Findings.{chunk_bytes}
use Rattle.h5w_model.specs.Prefixed.{Held, IsPosition, SameDescribed, Stays, image_at}
use Rattle.h5w_model.specs.Tables.{Shows, format_limits}
use Rattle.h5w_model.specs.declared.piece.Write.{Write}
use Rattle.h5w_step_laws.specs.Moments.{Moment, Represents, reading_of}
use Rattle.h5w_step_laws.proofs.FoundLemmas.{moment_shows, opens}
use Rattle.h5w_opening.specs.Openings.{most_chunk_bytes}
use Rattle.h5w_creation_laws.specs.CreatedFiles.{CreatedFile, created_blocks, created_moment, created_writes}
use Rattle.h5w_creation_laws.proofs.CreatedLaws.{created_new}
use Rattle.h5w_writer.specs.Past.{HasCreated, HasOpened}
use Rattle.h5w_writer.specs.Sessions.{Session}
use Rattle.h5w_writer.specs.Stands.{Creating, Stands}
use Rattle.h5w_writer.proofs.BeginLemmas.{new_image, since_first}
use Rattle.h5w_writer.proofs.LawLemmas.{standing_laws}
use Rattle.h5w_writer.proofs.PastLemmas.{one_each}
use Rattle.h5w_writable_laws.specs.Writable.{CanBeWritten}
use Rattle.h5w_writable_laws.proofs.CreatedLemmas.{created_writable}
use Rattle.h5w_writable_laws.proofs.KeptFiles.{writable_stays}
use Rattle.h5w_reopening_laws.specs.Reopens.{IsWritableFile}
use Rattle.h5w_reopening_laws.proofs.UnrefusedLemmas.{found_small, found_writable}

-- the chunks and the columns are the same
pub same_chunks : (old new : Described) → SameDescribed old new → chunk_bytes new ≡ chunk_bytes old
same_chunks old new d = ap (λ (x : Described). chunk_bytes x) d.rows_alone

-- An image can be written, and its chunks are not too large.
pub record IsWritten (img : List ℕ) (m : Moment) : Type 0 where
  pub can : CanBeWritten img (reading_of m)
  pub small : chunk_bytes m.dataset ≤ most_chunk_bytes

pub onward : (img new name : List ℕ) (m n : Moment) → Represents img name m → Represents new name n → Stays img (reading_of m) new (reading_of n) → IsWritten img m → IsWritten new n
onward img new name m n r s stays w =
    let same = same_chunks m.dataset n.dataset stays.described in
    let small = w.small in
    record { can = writable_stays img new name m n r s stays w.can; small = omega (arith, same, small) }

-- a file at a position
pub record IsAt (s : Session) (log : Log) (p : ℕ) : Type 0 where
  pub moment : Moment
  pub file : Represents (image_at log p) s.name moment
  pub rows : moment.dataset.shape.rows ≡ flushed_at log p
  pub columns : moment.dataset.shape.cols ≡ log.columns
  pub values : moment.values ≡ first_rows log (flushed_at log p)

pub file_at : (s : Session) (log : Log) (p : ℕ) → Stands s log → IsPosition log p → IsAt s log p
file_at s log p st at =
    let here = standing_laws.prefixed s log st p at in
    let f = opens (image_at log p) s.name (flushed_at log p) log.columns (first_rows log (flushed_at log p)) here.summary here.valid here.reads in
    record { moment = f.0; file = f.1; values = f.2; rows = f.3; columns = f.4 }

-- a log with a position began with a created file, or with one that was opened
none_yet : (f : CreatedFile) (s : Session) (left : List Write) (log : Log) (p : ℕ) → Creating f s left log → IsPosition log p → ⊥
none_yet f s left log p c at =
    let all : length (hist log.events) + length left ≡ length (created_writes f) = sym (length-append (hist log.events) left) ∙ ap length c.pieces in
    let first : log.first ≡ length (created_blocks f) = ap (λ (l : Log). l.first) c.log_is in
    let count = one_each f in
    let some = c.some in
    absurd (none left c.some (omega (arith, all, first, count, at.begun, at.reached)))
  where
    none : (xs : List Write) → xs ≢ [] → length xs ≡ 0 → ⊥
    none [] ne e = ne refl
    none (x ∷ xs) ne e = absurd (omega (arith, e))

begun_at : (s : Session) (log : Log) (p : ℕ) → Stands s log → IsPosition log p → HasCreated s log ⊎ HasOpened s log
begun_at s log p st at = elim st.phase [
  | inl c ↦ absurd (none_yet c.0 s st.left log p c.1 at)
  | inr r ↦ r.past.begun
]

module _ (s : Session) (log : Log) (p : ℕ) (st : Stands s log) (at : IsPosition log p) (here : IsAt s log p) where
  shows : Shows format_limits (image_at log p) s.name (reading_of here.moment)
  shows = moment_shows (image_at log p) s.name here.moment here.file

  held : Held s.name log
  held = standing_laws.held s log st

  -- over a created file
  of_created : HasCreated s log → IsWritten (image_at log p) here.moment
  of_created b =
      let f = b.file in
      let m = created_moment f in
      let stays = (since_first s log p (reading_of here.moment) b held at shows).stays in
      let new = subst (λ (n : List ℕ). Represents (new_image f) n m) (sym b.name) (created_new f b.is).represents in
      onward (new_image f) (image_at log p) s.name m here.moment new here.file stays (record { can = created_writable f b.is; small = b.is.small })

  -- over one that was opened, of which nothing was refused
  of_opened : HasOpened s log → IsWritableFile log.start s.name → IsWritten (image_at log p) here.moment
  of_opened b w =
      let f = opens log.start s.name b.rows log.columns log.values b.summary b.valid b.reads in
      let m = f.0 in
      let there : Shows format_limits (image_at log 0) s.name (reading_of m) = moment_shows log.start s.name m f.1 in
      let first : IsPosition log 0 = record { begun = omega (arith, b.first); reached = omega arith } in
      let stays = (held 0 p (reading_of m) (reading_of here.moment) first at (omega arith) there shows).stays in
      onward log.start (image_at log p) s.name m here.moment f.1 here.file stays
      (record { can = found_writable log.start s.name (length log.start) w.found m w.is f.1 w.unrefused; small = found_small log.start s.name (length log.start) w.found m w.is f.1 w.unrefused })

  pub written_at : (HasOpened s log → IsWritableFile log.start s.name) → IsWritten (image_at log p) here.moment
  written_at given = elim (begun_at s log p st at) [
    | inl b ↦ of_created b
    | inr b ↦ of_opened b (given b)
  ]
