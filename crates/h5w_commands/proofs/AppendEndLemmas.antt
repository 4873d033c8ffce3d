-- How an append to a file ends.
use Rattle.std.proofs.Common.{◌≡◌, ◌⊎◌, ℕ, Bool, List, [], ◌∷◌, ◌++◌, append_assoc, Option, Some, None, Result, Ok, Err, refl, sym, subst, ap, ◌∙◌, inl, inr, arith}
use Rattle.std.specs.Prelude.{◌≤◌, IfSome, length}
use Rattle.std.specs.List.{All}
use Rattle.std.proofs.lemmas.List.Elements.{All-head, All-tail}
use Rattle.h5w_model.specs.Causes.{Rose}
use Rattle.h5w_model.specs.Datasets.{Described}
use Rattle.h5w_image.specs.View.{DiskState, DiskView, file}
use Rattle.h5w_opening.specs.Openings.{Opened}
use Rattle.h5w_opening.specs.declared.error.OpenError.TheVariants as opens
use Rattle.h5w_writer.specs.Sessions.{Session}
use Rattle.h5w_text.specs.Errors.{error_text}
use Rattle.h5w_input.specs.Lines.{lines_of}
use Rattle.h5w_text.specs.Says.{Said, whole, failed}
use Rattle.h5w_text.specs.Statuses.{status_of}
use Rattle.h5w_text.specs.Streams.{SourceView, SinkView}
use Rattle.h5w_text.specs.declared.error.ErrorLine.{ErrorLine}
use Rattle.h5w_text.specs.declared.error.ErrorLine.TheVariants as errors
use Rattle.h5w_text.specs.declared.status.Status.{Status}
use Rattle.h5w_text.specs.declared.status.Status.TheVariants as statuses
use Rattle.h5w_appending.specs.Appends.{AppendEnds, AppendsNone, AppendsSome, AppendsTo, AppendsUpTo, InputRefuses, IsFree, IsOpenOver, NotOpened, Unopened}
use Rattle.h5w_batches.specs.Batches.{Batches}
use Rattle.h5w_batches.specs.Inputs.{AreFirst, AreWithin, input_limit}
use Rattle.h5w_files.specs.Ends.{EndsBehind, status_by}
use Rattle.h5w_files.specs.Images.{told_bytes}
use Rattle.h5w_files.proofs.ClearLemmas.{any_told}
use Rattle.h5w_step_laws.specs.Files.{chunk_0}
use Rattle.h5w_several_open.specs.declared.beginning.Beginning.{Beginning}
use Rattle.h5w_several_open.proofs.BeginningLemmas.{begun_dataset}
use Rattle.h5w_commands.specs.Appending.{AppendEndsWell, HasInput, HasRows}
use Rattle.h5w_batches.proofs.InputLemmas.{rose_before}
use Rattle.h5w_files.proofs.SinkLemmas.{gave_nothing}

-- memory was wanting before the file was looked at
pub appends_nothing : {s : SourceView} {v : DiskView} {k l : SinkView} {by : Beginning} (name at : List ℕ) (limit budget : ℕ) (keeps : Bool) (status : Status) → Said (error_text errors.Memory) statuses.Memory status k l
    → AppendEnds by name at limit budget keeps s s v v status k l
appends_nothing {s = s} {v = v} {k = k} name at limit budget keeps status said = inl (record {
  answer = Err errors.Memory;
  front = [];
  last = error_text errors.Memory;
  comes = inl (record {
    unopened = record { disk = record { told = refl; faults = omega arith; through = refl }; exact = any_told v.told (λ d. inl (inr refl)); kinds = inr (opens.OutOfMemory, refl, tt); cause = λ h. cc };
    unread = refl;
    front_is = refl;
    last_is = refl;
  });
  middle = k;
  gave = gave_nothing k;
  said = said;
})

-- ---- Where nothing stands in its way

among : (P : List ℕ → Type 0) (xs ys : List (List ℕ)) (y : List ℕ) → All P (xs ++ y ∷ ys) → P y
among P [] ys y h = All-head P y ys h
among P (x ∷ xs) ys y h = among P xs ys y (All-tail P x (xs ++ y ∷ ys) h)

pub at_file : (o : Option DiskState) (name bytes : List ℕ) (P : Option (List ℕ) → Type 0) → told_bytes o name ≡ Some bytes → IfSome o (λ d. P (file d name)) → P (Some bytes)
at_file None name bytes P e h = absurd (cc)
at_file (Some d) name bytes P e h = subst P e h

-- the session that begins has the dataset that was found
found_dataset : {name at : List ℕ} {limit budget : ℕ} {keeps : Bool} {s : SourceView} {v : DiskView} {by : Beginning} (first : Session) → IsOpenOver by name at limit budget keeps v first → (h : HasInput by name at s v) → first.dataset ≡ h.found.header.dataset
found_dataset {at = at} {limit = limit} {budget = budget} {by = by} first o h =
    let x = o.exact h.bytes h.told in
    let same : x.found ≡ h.found = let e = sym x.is ∙ h.is in cc in
    ap (λ (s : Session). s.dataset) o.is ∙ ap (λ (s : Session). s.dataset) x.session ∙ begun_dataset by x.found (chunk_0 h.bytes x.found.place) x.kept at limit budget ∙ ap (λ (f : Opened). f.header.dataset) same

-- the lines of an input that is not too long begin with the first ones
pub first_lines : (lines : List (List ℕ)) (input : List ℕ) → length input ≤ input_limit → AreFirst lines input → (behind : List (List ℕ)) × (lines_of input ≡ lines ++ behind)
first_lines lines input bound (behind, inl all) = (behind, all.1)
first_lines lines input bound (behind, inr long) = let over = long.0 in absurd (omega (arith, over, bound))

-- a line that was read has rows of the dataset
line_rows : {name at : List ℕ} {s : SourceView} {v : DiskView} {by : Beginning} (h : HasInput by name at s v) (d : Described) → d ≡ h.found.header.dataset → (lines : List (List ℕ)) (line : List ℕ)
    → IfSome s.left (AreFirst (lines ++ line ∷ [])) → HasRows d line
line_rows h d same lines line first =
    let begins = first_lines (lines ++ line ∷ []) h.input h.bound (subst (λ (o : Option (List ℕ)). IfSome o (AreFirst (lines ++ line ∷ []))) h.given first) in
    let all : All (HasRows h.found.header.dataset) (lines ++ line ∷ begins.0) = subst (All (HasRows h.found.header.dataset)) (begins.1 ∙ append_assoc lines (line ∷ []) begins.0) h.lines in
    subst (λ (x : Described). HasRows x line) (sym same) (among (HasRows h.found.header.dataset) lines begins.0 line all)

input_ends : {name at : List ℕ} {s : SourceView} {v : DiskView} {by : Beginning} (t : SourceView) (first : Session) (b : Batches) (h : HasInput by name at s v) → first.dataset ≡ h.found.header.dataset → (Rose s.faults t.faults → ⊥) → (e : ErrorLine)
    → InputRefuses name first s t b v e → (status_of e ≡ statuses.Limit) ⊎ (status_of e ≡ statuses.Memory)
input_ends t first b h same source errors.Usage r = absurd r
input_ends t first b h same source errors.Missing r = absurd r
input_ends t first b h same source errors.Exists r = absurd r
input_ends t first b h same source (errors.Read e) r = absurd r
input_ends t first b h same source (errors.Finding kind at) r = absurd r
input_ends t first b h same source (errors.Overlap at len other other_len) r = absurd r
input_ends t first b h same source (errors.Cut end size) r = absurd r
input_ends t first b h same source (errors.WriterVersion version) r = absurd r
input_ends t first b h same source errors.Layout r = absurd r
input_ends t first b h same source (errors.ChunkBytes bytes) r = absurd r
input_ends t first b h same source errors.NoColumns r = absurd r
input_ends t first b h same source (errors.Same one other) r = absurd r
input_ends t first b h same source (errors.FullChunks chunks limit) r = inl refl
input_ends t first b h same source (errors.FullSpace at size limit) r = inl refl
input_ends t first b h same source errors.Deep r = inl refl
input_ends t first b h same source (errors.Line n) r =
    let rows = line_rows h first.dataset same r.1.reads.lines r.0 r.1.reads.first in let spelled = rows.1 in let none = r.2 in absurd (cc)
input_ends t first b h same source (errors.Range n i x) r =
    let at = r.1.at in
    let rows = line_rows h first.dataset same at.reads.lines r.1.line at.reads.first in
    let spelled = rows.1 in let within = rows.2 in let other = r.1.spelled in let outside = r.2 in absurd (cc)
input_ends t first b h same source (errors.Input limit) r =
    let long = subst (λ (o : Option (List ℕ)). IfSome o (AreWithin r.2.lines)) h.given r.2.long in
    let over = long.0 in let bound = h.bound in absurd (omega (arith, over, bound))
input_ends t first b h same source errors.Disk r = absurd r
input_ends t first b h same source errors.Image r = absurd r
input_ends t first b h same source errors.Source r = absurd (source r.0)
input_ends t first b h same source errors.Memory r = inr refl

opened_so : {name at : List ℕ} {s : SourceView} {v w : DiskView} {by : Beginning} (h : HasInput by name at s v) → (Rose v.faults w.faults → ⊥) → (e : ErrorLine) → Unopened by name at v w e → IsFree e ⊎ NotOpened by at (Some h.bytes) e
    → status_of e ≡ statuses.Memory
opened_so h disk e u (inl (inl broke)) = absurd (disk (u.cause broke))
opened_so h disk e u (inl (inr wanting)) = ap status_of wanting
opened_so h disk e u (inr refused) = absurd (h.unrefused refused.0 refused.2)

error_ends : {name at : List ℕ} {limit budget : ℕ} {keeps : Bool} {s t : SourceView} {v w : DiskView} {by : Beginning} (front last : List ℕ) (h : HasInput by name at s v) → (Rose s.faults t.faults → ⊥) → (Rose v.faults w.faults → ⊥) → (e : ErrorLine)
    → AppendsNone by name at s t v w e front last ⊎ (AppendsSome by name at limit budget keeps s t v w e front last ⊎ ((e ≡ errors.Disk) × AppendsUpTo by name at limit budget keeps s t v w front last))
    → (status_of e ≡ statuses.Limit) ⊎ (status_of e ≡ statuses.Memory)
error_ends {name = name} {at = at} {limit = limit} {budget = budget} {keeps = keeps} {s = s} {t = t} {v = v} {by = by} front last h source disk e (inl none) =
    inr (opened_so h disk e none.unopened (at_file v.told name h.bytes (λ (o : Option (List ℕ)). IsFree e ⊎ NotOpened by at o e) h.told none.unopened.exact))
error_ends {t = t} front last h source disk e (inr (inl some)) = input_ends t some.first some.batches h (found_dataset some.first some.opened h) source e some.refused
error_ends front last h source disk e (inr (inr broke)) = absurd (disk broke.1.broken.broke.rose)

append_ends : {name at : List ℕ} {s : SourceView} {v : DiskView} {by : Beginning} (limit budget : ℕ) (keeps : Bool) (t : SourceView) (w : DiskView) (front last : List ℕ) → HasInput by name at s v → (Rose s.faults t.faults → ⊥) → (Rose v.faults w.faults → ⊥) → (answer : Result (Unit {0}) ErrorLine)
    → AppendsTo by name at limit budget keeps s t v w answer front last → (status_by answer ≡ statuses.Done) ⊎ ((status_by answer ≡ statuses.Limit) ⊎ (status_by answer ≡ statuses.Memory))
append_ends limit budget keeps t w front last h source disk (Ok a) p = inl refl
append_ends limit budget keeps t w front last h source disk (Err e) p = inr (error_ends front last h source disk e p)

pub known : (status given : Status) → status ≡ given → (given ≡ statuses.Done) ⊎ ((given ≡ statuses.Limit) ⊎ (given ≡ statuses.Memory)) → (status ≡ statuses.Done) ⊎ ((status ≡ statuses.Limit) ⊎ (status ≡ statuses.Memory))
known status given is (inl done) = inl (is ∙ done)
known status given is (inr (inl limit)) = inr (inl (is ∙ limit))
known status given is (inr (inr memory)) = inr (inr (is ∙ memory))

pub appends_whole : {s t : SourceView} {k l : SinkView} {v w : DiskView} {by : Beginning} (name at : List ℕ) (limit budget : ℕ) (keeps : Bool) (status : Status) → AppendEnds by name at limit budget keeps s t v w status k l
    → AppendEndsWell by name at status s t k l v w
appends_whole {s = s} {t = t} {k = k} {l = l} {v = v} {w = w} {by = by} name at limit budget keeps status e = λ h source sink disk. go h source sink disk e
  where
    spoken : HasInput by name at s v → (Rose s.faults t.faults → ⊥) → (Rose k.faults l.faults → ⊥) → (Rose v.faults w.faults → ⊥) → (p : EndsBehind {A = Unit {0}} (AppendsTo by name at limit budget keeps s t v w) status k l)
        → Said p.last (status_by p.answer) status p.middle l → (status ≡ statuses.Done) ⊎ ((status ≡ statuses.Limit) ⊎ (status ≡ statuses.Memory))
    spoken h source sink disk p (failed is rose some) = absurd (sink (rose_before k.faults p.middle.faults l.faults p.gave.faults rose))
    spoken h source sink disk p (whole is gave) = known status (status_by p.answer) is (append_ends limit budget keeps t w p.front p.last h source disk p.answer p.comes)

    go : HasInput by name at s v → (Rose s.faults t.faults → ⊥) → (Rose k.faults l.faults → ⊥) → (Rose v.faults w.faults → ⊥) → AppendEnds by name at limit budget keeps s t v w status k l
        → (status ≡ statuses.Done) ⊎ ((status ≡ statuses.Limit) ⊎ (status ≡ statuses.Memory))
    go h source sink disk (inl p) = spoken h source sink disk p p.said
    go h source sink disk (inr cut) = let stops = cut.1.stops in absurd (sink (rose_before k.faults stops.middle.faults l.faults stops.gave.faults stops.rose))
