-- A file that is opened to append to it.
use Rattle.std.proofs.Common.{◌≡◌, ◌⊎◌, ℕ, ◌+◌, ◌<◌, ◌≤◌, ◌^◌, Bool, false, List, length, ℤ, Option, Some, None, Result, Ok, Err, refl, sym, ap, ◌∙◌, subst, inl, inr, arith}
use Rattle.std.specs.Prelude.{IfSome, IsSome, option_map}
use Rattle.h5w_model.specs.Causes.{Rose}
use Rattle.h5w_model.specs.Findings.{Summary, Valid}
use Rattle.h5w_model.specs.Logs.{Log}
use Rattle.h5w_model.specs.Tables.{Reads}
use Rattle.h5w_image.specs.View.{DiskState, DiskView, IsThere, Leaves, Looked, file}
use Rattle.h5w_looks.specs.Still.{IsStill}
use Rattle.h5w_opening.specs.Errors.{IsOpenKind}
use Rattle.h5w_opening.specs.declared.error.OpenError.{OpenError}
use Rattle.h5w_opening.specs.declared.error.OpenError.TheVariants as opens
use Rattle.h5w_several_open.specs.Beginnings.{HasBegunBy, IsBeginAnswer, IsNotBegun}
use Rattle.h5w_writer.specs.Openings.{opened_log}
use Rattle.h5w_writer.specs.Sessions.{Session}
use Rattle.h5w_writer.specs.Stands.{Stands}
use Rattle.h5w_writer_lines.specs.Lines.{open_line}
use Rattle.h5w_text.specs.declared.error.ErrorLine.{ErrorLine}
use Rattle.h5w_text.specs.declared.error.ErrorLine.TheVariants as errors
use Rattle.h5w_files.specs.Images.{LeavesFiles, file_image, told_bytes}
use Rattle.h5w_several_open.specs.declared.beginning.Beginning.{Beginning}
use Rattle.h5w_appending.specs.Appends.{IsFree, IsOpenOver, NotOpened, Unopened}
use Rattle.h5w_appending.specs.Appending.{HasSize, IsBegun}
use Rattle.h5w_files.proofs.ClearLemmas.{any_told, leaves_files}
use Rattle.h5w_files.proofs.ImageLemmas.{leaves_on, looked_files}

-- the bytes of a file have its size
sized_bytes : (t : Option DiskState) (name : List ℕ) (size : ℕ) (img : List ℕ) → IfSome t (λ d. Some size ≡ option_map length (file d name)) → told_bytes t name ≡ Some img → size ≡ length img
sized_bytes None name size img h e = absurd (cc)
sized_bytes (Some d) name size img h e = inner (file d name) h e
  where
    inner : (o : Option (List ℕ)) → Some size ≡ option_map length o → o ≡ Some img → size ≡ length img
    inner None h e = absurd (cc)
    inner (Some b) h e = let is : b ≡ img = cc in let count : size ≡ length b = cc in count ∙ ap length is

still : (r : ℕ) (v : DiskView) (name : List ℕ) (size : ℕ) (img : List ℕ) → size < 2 ^ 64 → HasSize v name size → told_bytes v.told name ≡ Some img → IsStill (file_image r name v) img
still r v name size img small sized told = let count = sized_bytes v.told name size img sized told in record { told = told; alone = refl; short = omega (arith, count, small) }

pub opened_over : {v : DiskView} {by : Beginning} (r : ℕ) (name at : List ℕ) (limit budget size : ℕ) (s : Session) → IsThere v name → size < 2 ^ 64 → HasSize v name size → HasBegunBy by at limit budget s → ((img : List ℕ) → IsStill (file_image r name v) img → IsBeginAnswer by img size at limit budget (Ok s))
    → ((img : List ℕ) (rows columns : ℕ) (values : List ℤ) (sm : Summary) → IsStill (file_image r name v) img → Valid img at sm → Reads img at rows columns values → Stands s (opened_log img columns values)) → IsOpenOver by name at limit budget false v s
opened_over {v = v} {by = by} r name at limit budget size s there small sized begun exact stands = record {
  there = there;
  opened = s;
  begun = begun;
  is = λ i. record s { keeps = begun.frees i };
  exact = λ img told. subst (λ n. IsBeginAnswer by img n at limit budget (Ok s)) (sized_bytes v.told name size img sized told) (exact img (still r v name size img small sized told));
  stands = λ img rows columns values sm told valid reads. stands img rows columns values sm (still r v name size img small sized told) valid reads;
}

refusal_case : (by : Beginning) (img : List ℕ) (size limit budget : ℕ) (at : List ℕ) (e : OpenError) → IsBeginAnswer by img size at limit budget (Err e) → IsFree (open_line e) ⊎ ((x : OpenError) × (open_line x ≡ open_line e) × IsNotBegun by img size at x)
refusal_case by img size limit budget at (opens.Read e) h = inr (opens.Read e, refl, h)
refusal_case by img size limit budget at (opens.Version version) h = inr (opens.Version version, refl, h)
refusal_case by img size limit budget at (opens.Flags flags) h = inr (opens.Flags flags, refl, h)
refusal_case by img size limit budget at (opens.Cut end n) h = inr (opens.Cut end n, refl, h)
refusal_case by img size limit budget at opens.Layout h = inr (opens.Layout, refl, h)
refusal_case by img size limit budget at (opens.ChunkBytes bytes most) h = inr (opens.ChunkBytes bytes most, refl, h)
refusal_case by img size limit budget at opens.NoColumns h = inr (opens.NoColumns, refl, h)
refusal_case by img size limit budget at (opens.Same one other) h = inr ((opens.Same one other), refl, h)
refusal_case by img size limit budget at (opens.Finding kind place) h = inr (opens.Finding kind place, refl, h)
refusal_case by img size limit budget at opens.Failed h = inl (inl refl)
refusal_case by img size limit budget at opens.OutOfMemory h = inl (inr refl)

disk_failed : (e : OpenError) → open_line e ≡ errors.Disk → e ≡ opens.Failed
disk_failed (opens.Read e) h = absurd (cc)
disk_failed (opens.Version version) h = absurd (cc)
disk_failed (opens.Flags flags) h = absurd (cc)
disk_failed (opens.Cut end n) h = absurd (cc)
disk_failed opens.Layout h = absurd (cc)
disk_failed (opens.ChunkBytes bytes most) h = absurd (cc)
disk_failed opens.NoColumns h = absurd (cc)
disk_failed (opens.Same one other) h = absurd (cc)
disk_failed (opens.Finding kind place) h = absurd (cc)
disk_failed opens.Failed h = refl
disk_failed opens.OutOfMemory h = absurd (cc)

there_cases : (by : Beginning) (t : Option DiskState) (name at : List ℕ) (e : ErrorLine) (size : ℕ) → IfSome t (λ d. Some size ≡ option_map length (file d name))
    → ((img : List ℕ) → told_bytes t name ≡ Some img → IsFree e ⊎ ((x : OpenError) × (open_line x ≡ e) × IsNotBegun by img (length img) at x)) → IfSome t (λ d. IsFree e ⊎ NotOpened by at (file d name) e)
there_cases by None name at e size h f = tt
there_cases by (Some d) name at e size h f = inner (file d name) h f
  where
    inner : (o : Option (List ℕ)) → Some size ≡ option_map length o → ((img : List ℕ) → o ≡ Some img → IsFree e ⊎ ((x : OpenError) × (open_line x ≡ e) × IsNotBegun by img (length img) at x)) → IsFree e ⊎ NotOpened by at o e
    inner None h f = absurd (cc)
    inner (Some img) h f = f img refl

pub unopened_over : {S : Type 0} {v w : DiskView} {by : Beginning} (r q : ℕ) (name other at : List ℕ) (limit budget size : ℕ) (x : OpenError) (e : ErrorLine) → size < 2 ^ 64 → HasSize v name size → e ≡ open_line x → Looked (file_image r name v) (file_image q other w)
    → ((img : List ℕ) → IsStill (file_image r name v) img → IsBeginAnswer by img size at limit budget (Err x)) → (◌≡◌ {A = Result S OpenError} (Err x) (Err opens.Failed) → Rose v.faults w.faults) → IsOpenKind x → Unopened by name at v w e
unopened_over {S = S} {v = v} {w = w} {by = by} r q name other at limit budget size x e small sized is looked exact cause kind = record {
  disk = looked_files r q name other looked;
  exact = there_cases by v.told name at e size sized (λ img told. subst (λ (y : ErrorLine). IsFree y ⊎ ((z : OpenError) × (open_line z ≡ y) × IsNotBegun by img (length img) at z)) (sym is)
      (refusal_case by img (length img) limit budget at x (subst (λ n. IsBeginAnswer by img n at limit budget (Err x)) (sized_bytes v.told name size img sized told) (exact img (still r v name size img small sized told)))));
  kinds = inr (x, sym is, kind);
  cause = λ h. cause (ap Err (disk_failed x (sym is ∙ h)));
}

-- ---- Before it is opened

pub open_failed : {v w : DiskView} {by : Beginning} (name at : List ℕ) → Leaves 0 v.told v w → Rose v.faults w.faults → Unopened by name at v w errors.Disk
open_failed {v = v} name at p rose = record { disk = leaves_files 0 v.told p; exact = any_told v.told (λ d. inl (inl refl)); kinds = inr (opens.Failed, refl, tt); cause = λ h. rose }

-- ---- From one state to another

pub opened_before : {u v : DiskView} {by : Beginning} (name at : List ℕ) (limit budget : ℕ) (s : Session) → LeavesFiles u.told u v → IsOpenOver by name at limit budget false v s → IsOpenOver by name at limit budget false u s
opened_before {u = u} {v = v} name at limit budget s p h = record {
  there = subst (λ t. IfSome t (λ d. IsSome (file d name))) p.told h.there;
  opened = h.opened;
  begun = h.begun;
  is = h.is;
  exact = λ img told. h.exact img (ap (λ t. told_bytes t name) p.told ∙ told);
  stands = λ img rows columns values sm told valid reads. h.stands img rows columns values sm (ap (λ t. told_bytes t name) p.told ∙ told) valid reads;
}

-- room was refused
pub open_wanting : {v w : DiskView} {by : Beginning} (name at : List ℕ) → LeavesFiles v.told v w → Unopened by name at v w errors.Memory
open_wanting {v = v} name at p = record { disk = p; exact = any_told v.told (λ d. inl (inr refl)); kinds = inr (opens.OutOfMemory, refl, tt); cause = λ h. cc }

-- what is retired stays so
pub opened_keeping : {v : DiskView} {by : Beginning} (name at : List ℕ) (limit budget : ℕ) (keeps : Bool) (s t : Session) → t ≡ record s { keeps = keeps } → ((log : Log) → Stands s log → Stands t log) → IsOpenOver by name at limit budget false v s → IsOpenOver by name at limit budget keeps v t
opened_keeping name at limit budget keeps s t is stands h = record {
  there = h.there;
  opened = h.opened;
  begun = h.begun;
  is = is ∙ ap (λ (x : Session). record x { keeps = keeps }) h.is;
  exact = h.exact;
  stands = λ img rows columns values sm told valid reads. stands (opened_log img columns values) (h.stands img rows columns values sm told valid reads);
}

pub left_first : {u v : DiskView} → Leaves 0 u.told u v → LeavesFiles u.told u v
left_first {u} p = leaves_files 0 u.told p

pub left_on : {u v x w : DiskView} → Leaves 0 u.told u v → LeavesFiles v.told v x → Leaves 0 x.told x w → LeavesFiles u.told u w
left_on {u} {v} {x} p q r = leaves_on (leaves_on (leaves_files 0 u.told p) q) (leaves_files 0 x.told r)

pub there_on : {v w : DiskView} (name : List ℕ) → LeavesFiles v.told v w → IsThere v name → IsThere w name
there_on name p there = subst (λ t. IfSome t (λ d. IsSome (file d name))) (sym p.told) there

pub begun_ready : {w : DiskView} {by : Beginning} (name at : List ℕ) (limit budget n : ℕ) (keeps : Bool) (s t : Session) → HasBegunBy by at limit budget s → t ≡ record s { keeps = keeps } → IsThere w name → n ≡ length s.pending → n + 1 ≤ w.pieces → s.places.end ≤ w.end name → IsBegun name t w
begun_ready {w = w} name at limit budget n keeps s t begun is there count room end =
    subst (λ (x : Session). IsBegun name x w) (sym is) (record { there = there; running = begun.running; waits = begun.waits; room = omega (arith, count, room); end = end })

pub opened_begun : {v : DiskView} {name at : List ℕ} {limit budget : ℕ} {s : Session} {by : Beginning} → IsOpenOver by name at limit budget false v s → HasBegunBy by at limit budget s
opened_begun {at = at} {limit = limit} {budget = budget} {by = by} h = subst (λ (x : Session). HasBegunBy by at limit budget x) ((λ i. record (h.opened) { keeps = h.begun.frees i }) ∙ sym h.is) h.begun
