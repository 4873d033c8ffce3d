-- The image goes on to say that it is written.
use Rattle.std.proofs.Common.{◌≡◌, ℕ, ◌<◌, List, [], ◌∷◌, length, ℤ, Option, Result, Ok, Err, sym, refl, ap, ◌∙◌, subst, inl, inr, arith}
use Rattle.std.specs.Result.{OnOk}
use Rattle.std.proofs.lemmas.Bool.{cases_lt}
use Rattle.h5w_model.specs.Images.{image}
use Rattle.h5w_model.specs.Logs.{and_now, appends, plans}
use Rattle.h5w_model.specs.declared.piece.Write.{Write}
use Rattle.h5w_image.specs.Memory.{MemView}
use Rattle.h5w_image.specs.View.{Same}
use Rattle.h5w_options.specs.Options.{AreOptions}
use Rattle.h5w_options.specs.declared.options.Options.{Options}
use Rattle.h5w_creation_laws.specs.CreatedFiles.{created_writes}
use Rattle.h5w_creation.specs.NewFiles.{new_file}
use Rattle.h5w_creation.proofs.OptionLemmas.{creatable}
use Rattle.h5w_reader.specs.declared.reader.ReaderCore.{ReaderCore}
use Rattle.h5w_writer.specs.Early.{WrittenEarly}
use Rattle.h5w_writer.specs.Refusals.{append_refusal}
use Rattle.h5w_writer.specs.Sessions.{Session, stopped_of, with_values}
use Rattle.h5w_writer.specs.Starts.{HasFlushed}
use Rattle.h5w_writer.specs.Stands.{Stands}
use Rattle.h5w_writer.specs.declared.refusal.AppendError.{AppendError}
use Rattle.h5w_writer.specs.declared.refusal.FlushError.{FlushError}
use Rattle.h5w_writer.proofs.StateLemmas.{accepted_by, some_is}
use Rattle.h5w_writer_laws.proofs.LeavingLemmas.{piece_leaves}
use Rattle.h5w_steady.specs.Steady.{steady}
use Rattle.h5w_front_laws.specs.Fronts.{AllKeepFront, IsLeftOpen, SaysWritten}
use Rattle.h5w_front_laws.specs.Laws.{KeepsWritten}
use Rattle.h5w_front_laws.proofs.CallFrontLemmas.{calls_keep_front, front_stays}
use Rattle.h5w_front_laws.proofs.NewFrontLemmas.{new_fronts}
use Rattle.h5w_core.specs.Creation.{Creates}
use Rattle.h5w_core.specs.Worlds.{HoldsTogether, IsBudget, IsWriting}
use Rattle.h5w_core.proofs.AppendLemmas.{AppendTells, not_refused}
use Rattle.h5w_core.proofs.CreationLemmas.{all_created, all_shown, total}
use Rattle.h5w_core.proofs.FlushLemmas.{IsAnswered, ready}
use Rattle.h5w_core.proofs.HoldLemmas.{FlushTells, ShowsCount, answered}

-- the image has these bytes as before, and the session is changed
still_writing : (s t : Session) (m n : MemView) → n.bytes ≡ m.bytes → t.budget ≡ s.budget → KeepsWritten t → IsWriting s m → IsWriting t n
still_writing s t m n bytes budget keeps w = record {
  front = subst IsLeftOpen (sym bytes) w.front;
  keeps = keeps;
  allowed = subst IsBudget (sym budget) w.allowed;
}

-- nothing happened
pub same_writing : (s t : Session) (m n : MemView) → Same (steady m) (steady n) → t ≡ s → IsWriting s m → IsWriting t n
same_writing s t m n same is w = still_writing s t m n (some_is n.bytes m.bytes same.bytes) (ap (λ (x : Session). x.budget) is) (subst KeepsWritten (sym is) w.keeps) w

-- ---- The writer's calls

module _ (s t : Session) (m n : MemView) (attempts : ℕ) (places : List (Option ReaderCore)) (h : HoldsTogether s m attempts places) (same : Same (steady m) (steady n)) (w : IsWriting s m) where
  bytes : n.bytes ≡ m.bytes
  bytes = some_is n.bytes m.bytes same.bytes

  stood : Stands s h.fits.log
  stood = h.fits.stands.stands

  pub append_writing : (vs : List ℤ) (r : Result ℕ AppendError) → AppendTells s t vs r → OnOk r (WrittenEarly (with_values s vs) t) → IsWriting t n
  append_writing vs (Err e) tells early = same_writing s t m n same tells.kept w
  append_writing vs (Ok rows) tells early =
      let is = tells.added.session in
      let by = accepted_by s vs (not_refused (append_refusal s vs) (Ok rows) rows tells.refused refl) in
      still_writing s t m n bytes (ap (λ (x : Session). x.budget) is)
      (calls_keep_front.early (with_values s vs) t (and_now (appends vs) h.fits.log) early by.idle (tells.stands h.fits.log stood) w.keeps.root) w

  flushed_keeps : (pieces : ℕ) → IsAnswered s t (Ok pieces) pieces → (0 < s.waits → HasFlushed s t) → KeepsWritten t
  flushed_keeps pieces tells planned =
      let own = ready s t (Ok pieces) pieces tells in
      let next : Stands t (and_now (plans (length t.pending)) h.fits.log) = subst (λ (k : ℕ). Stands t (and_now (plans k) h.fits.log)) tells.count (tells.stands h.fits.log stood) in
      elim (cases_lt 0 s.waits) [
        | inl some ↦ calls_keep_front.flush s t h.fits.log (planned some) own.0 own.1 stood next w.keeps.root
        | inr none ↦ subst KeepsWritten (sym (tells.nothing (omega (arith, none)))) w.keeps
      ]

  pub flush_writing : (r : Result ℕ FlushError) → FlushTells s t r → (0 < s.waits → OnOk r (HasFlushed s t)) → IsWriting t n
  flush_writing (Ok pieces) tells planned =
      let takes = tells.flushed in
      still_writing s t m n bytes takes.budget (flushed_keeps pieces (answered s t pieces tells) planned) w
  flush_writing (Err e) tells planned =
      let is = tells.kept.session in
      still_writing s t m n bytes (ap (λ (x : Session). x.budget) is)
      (calls_keep_front.refused s t tells.kept w.keeps) w

-- ---- A piece, and a stop

shown_writing : (s t : Session) (m n : MemView) (count : ℕ) (ws : List Write) → s.pending ≡ ws → ShowsCount s t m n count → IsWriting s m → IsWriting t n
shown_writing s t m n count [] pending shown w =
    let h = shown.nothing pending in
    subst (λ (x : Session). IsWriting x n) (sym h.1) (subst (λ (v : MemView). IsWriting s v) (sym h.2) w)
shown_writing s t m n count (p ∷ ws) pending shown w =
    let h = shown.piece p ws pending in
    let after = piece_leaves s t ws h.1 in
    let keeps = calls_keep_front.shown s t p ws pending h.1 w.keeps in
    record {
      front = subst IsLeftOpen (sym (some_is n.bytes (image m.bytes (p ∷ [])) h.2.bytes)) (front_stays.piece p m.bytes keeps.0 w.front);
      keeps = keeps.1;
      allowed = subst IsBudget (sym after.budget) w.allowed;
    }

pub show_writing : (s t : Session) (m n : MemView) (count : ℕ) → ShowsCount s t m n count → IsWriting s m → IsWriting t n
show_writing s t m n count shown w = shown_writing s t m n count s.pending refl shown w

pub stop_writing : (s t : Session) (m : MemView) → t ≡ stopped_of s → IsWriting s m → IsWriting t m
stop_writing s t m is w = still_writing s t m m refl (ap (λ (x : Session). x.budget) is) (subst KeepsWritten (sym is) (calls_keep_front.stopped s w.keeps)) w

-- ---- A new file

pub created_writing : (o : Options) (s : Session) (m : MemView) → AreOptions o → Creates o (total o) s m → IsWriting s m
created_writing o s m by start =
    let new = new_fronts.one (new_file o) (creatable o by) in
    let bytes : m.bytes ≡ image [] (created_writes (new_file o)) = start.bytes ∙ ap (image []) (sym start.history ∙ all_created o s m start) in
    record {
      front = subst IsLeftOpen (sym bytes) new.0;
      keeps = record { root = subst SaysWritten (sym start.root) new.1; pieces = subst AllKeepFront (sym (all_shown o s m start)) tt };
      allowed = subst IsBudget (sym start.budget) (by.budget_low, by.budget_high);
    }
