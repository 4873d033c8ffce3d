-- What a check of a file tells.
use Rattle.std.proofs.Common.{◌≡◌, ◌≤◌, ℕ, true, ◌∷◌, ◌++◌, List, [], length, append-nil, Option, Some, None, Result, Ok, Err, refl, sym, ap, ◌∙◌, subst, arith}
use Rattle.std.specs.Prelude.{IfSome, IsSome, IsTrue, OnOk, codes, flat_map, option_map}
use Rattle.h5w_text.specs.Replies.{spaced}
use Rattle.h5w_text.specs.Table.{numbers_text}
use Rattle.h5w_model.specs.Causes.{Rose}
use Rattle.h5w_model.specs.Programs.{eval}
use Rattle.h5w_model.specs.Tables.{format_limits}
use Rattle.h5w_model.specs.Datasets.{refused_as}
use Rattle.h5w_model.specs.Findings.{AllSummary, Finding, check_all, found, overlap}
use Rattle.h5w_image.specs.View.{DiskState, DiskView, IsThere, Leaves, Looked, file}
use Rattle.h5w_image.proofs.DiskLemmas.{rose_from}
use Rattle.h5w_check.specs.Ran.{Tells}
use Rattle.h5w_check.specs.Verdicts.{summary_of}
use Rattle.h5w_check.specs.declared.error.Summary as checked
use Rattle.h5w_check.specs.declared.error.CheckError.{CheckError}
use Rattle.h5w_check.specs.declared.error.CheckError.TheVariants as check_errors
use Rattle.h5w_text.specs.Errors.{error_text}
use Rattle.h5w_text.specs.Says.{Said, SaidUnlessMemory}
use Rattle.h5w_text.specs.Statuses.{status_of}
use Rattle.h5w_text.specs.Streams.{SinkView}
use Rattle.h5w_text.specs.declared.error.ErrorLine.{ErrorLine}
use Rattle.h5w_text.specs.declared.error.ErrorLine.TheVariants as errors
use Rattle.h5w_text.specs.declared.status.Status.{Status}
use Rattle.h5w_text.specs.declared.status.Status.TheVariants as statuses
use Rattle.h5w_batches.proofs.AnswerLemmas.{joined}
use Rattle.h5w_files.specs.Images.{LeavesFiles, file_image, told_bytes}
use Rattle.h5w_files.specs.Ends.{IsGivenBy, EndsWell}
use Rattle.h5w_files.specs.Checks.{CheckEnds, ChecksTo, IsOfCheck, check_line, check_of, finding_line, valid_text}
use Rattle.h5w_files.proofs.EndLemmas.{completes, ends_done, ends_error}
use Rattle.h5w_files.proofs.ClearLemmas.{any_told, leaves_files, none_of}
use Rattle.h5w_files.proofs.ImageLemmas.{leaves_on, looked_files}

pub checks_missing : {v w : DiskView} (name : List ℕ) (names : List (List ℕ)) → Leaves 0 v.told v w → IfSome v.told (λ d. None ≡ option_map length (file d name)) → ChecksTo name names v w (Err errors.Missing)
checks_missing {v} name names p none = record { disk = leaves_files 0 v.told p; exact = told v.told none; kinds = tt; cause = λ e. cc }
  where
    told : (t : Option DiskState) → IfSome t (λ d. None ≡ option_map length (file d name)) → IfSome t (λ d. IsGivenBy (check_of names (file d name)) (Err errors.Missing))
    told None h = tt
    told (Some d) h = ap (check_of names) (none_of (file d name) h)

pub checks_failed : {v w : DiskView} (name : List ℕ) (names : List (List ℕ)) → Leaves 0 v.told v w → Rose v.faults w.faults → ChecksTo name names v w (Err errors.Disk)
checks_failed {v} name names p rose = record { disk = leaves_files 0 v.told p; exact = any_told v.told (λ d. tt); kinds = tt; cause = λ e. rose }

-- what is said of the bytes of an image is said of those of the file that it is
pub of_file : (u v : DiskView) (name : List ℕ) (P : List ℕ → Type 0) → v.told ≡ u.told → IfSome v.told (λ d. IsSome (file d name))
    → ((img : List ℕ) → told_bytes v.told name ≡ Some img → P img) → IfSome u.told (λ d. (img : List ℕ) × (file d name ≡ Some img) × P img)
of_file u v name P same there says = subst (λ t. IfSome t (λ d. (img : List ℕ) × (file d name ≡ Some img) × P img)) same (cases v.told there says)
  where
    there_is : (o : Option (List ℕ)) → IsSome o → (img : List ℕ) × (o ≡ Some img)
    there_is None h = absurd (cc)
    there_is (Some img) h = (img, refl)

    cases : (t : Option DiskState) → IfSome t (λ d. IsSome (file d name)) → ((img : List ℕ) → told_bytes t name ≡ Some img → P img)
        → IfSome t (λ d. (img : List ℕ) × (file d name ≡ Some img) × P img)
    cases None h f = tt
    cases (Some d) h f = let one = there_is (file d name) h in (one.0, one.1, f one.0 one.1)

finding_refused : (given : Result AllSummary Finding) (f : Finding) → given ≡ Err f → refused_as finding_line given ≡ Err (finding_line f)
finding_refused given f e = ap (refused_as finding_line) e

-- a finding, an overlap, a failed disk or want of memory
line_told : (given : Result AllSummary Finding) (e : CheckError) → Tells {B = AllSummary} given (Err e) → IsGivenBy (refused_as finding_line given) (Err (check_line e))
line_told given (check_errors.Finding kind at) t = finding_refused given (found kind at) t
line_told given (check_errors.Overlap at len other other_len) t = finding_refused given (overlap at len other other_len) t
line_told given check_errors.Failed t = tt
line_told given check_errors.OutOfMemory t = tt

line_kind : (e : CheckError) → IsOfCheck (check_line e)
line_kind (check_errors.Finding kind at) = tt
line_kind (check_errors.Overlap at len other other_len) = tt
line_kind check_errors.Failed = tt
line_kind check_errors.OutOfMemory = tt

line_failed : (e : CheckError) → ◌≡◌ {A = Result AllSummary ErrorLine} (Err (check_line e)) (Err errors.Disk) → e ≡ check_errors.Failed
line_failed (check_errors.Finding kind at) h = cc
line_failed (check_errors.Overlap at len other other_len) h = cc
line_failed check_errors.Failed h = refl
line_failed check_errors.OutOfMemory h = cc

by_file : (names : List (List ℕ)) (answer : Result AllSummary ErrorLine) (t : Option DiskState) (name : List ℕ)
    → IfSome t (λ d. (img : List ℕ) × (file d name ≡ Some img) × IsGivenBy (refused_as finding_line (eval img (check_all format_limits names (length img)))) answer)
    → IfSome t (λ d. IsGivenBy (check_of names (file d name)) answer)
by_file names answer None name h = tt
by_file names answer (Some d) name h = subst (λ (o : Option (List ℕ)). IsGivenBy (check_of names o) answer) (sym h.1) h.2

-- the check of the image that a file is
pub checks_valid : {u v w : DiskView} (r q : ℕ) (name other : List ℕ) (names : List (List ℕ)) (s : checked.Summary) → Leaves 0 u.told u v → IsThere v name
    → Looked (file_image r name v) (file_image q other w)
    → ((img : List ℕ) → told_bytes v.told name ≡ Some img → IsTrue true → Tells (eval img (check_all format_limits names (length img))) (Ok (summary_of s)))
    → ChecksTo name names u w (Ok (summary_of s))
checks_valid {u} {v} {w} r q name other names s p there looked exact = record {
  disk = leaves_on (leaves_files 0 u.told p) (looked_files r q name other looked);
  exact = by_file names (Ok (summary_of s)) u.told name (of_file u v name (λ img. IsGivenBy (refused_as finding_line (eval img (check_all format_limits names (length img)))) (Ok (summary_of s))) p.told there
      (λ img told. ap (refused_as finding_line) (exact img told refl)));
  kinds = tt;
  cause = λ e. cc;
}

pub checks_refused : {u v w : DiskView} (r q : ℕ) (name other : List ℕ) (names : List (List ℕ)) (e : CheckError) → Leaves 0 u.told u v → IsThere v name
    → Looked (file_image r name v) (file_image q other w)
    → ((img : List ℕ) → told_bytes v.told name ≡ Some img → IsTrue true → Tells {B = AllSummary} (eval img (check_all format_limits names (length img))) (Err e))
    → (e ≡ check_errors.Failed → Rose v.faults w.faults) → ChecksTo name names u w (Err (check_line e))
checks_refused {u} {v} {w} r q name other names e p there looked exact failed = record {
  disk = leaves_on (leaves_files 0 u.told p) (looked_files r q name other looked);
  exact = by_file names (Err (check_line e)) u.told name (of_file u v name (λ img. IsGivenBy (refused_as finding_line (eval img (check_all format_limits names (length img)))) (Err (check_line e))) p.told there
      (λ img told. line_told (eval img (check_all format_limits names (length img))) e (exact img told refl)));
  kinds = line_kind e;
  cause = λ h. rose_from u.faults v.faults w.faults p.faults (failed (line_failed e h));
}

-- ---- Its line

pub wants_memory : {v w : DiskView} (name : List ℕ) (names : List (List ℕ)) (answer : Result AllSummary ErrorLine) → ChecksTo name names v w answer → ChecksTo name names v w (Err errors.Memory)
wants_memory {v} name names answer p = record { disk = p.disk; exact = any_told v.told (λ d. tt); kinds = tt; cause = λ e. cc }

pub checks_done : {v w : DiskView} {k l : SinkView} (name : List ℕ) (names : List (List ℕ)) (s : AllSummary) (text : List ℕ) (status : Status) → ChecksTo name names v w (Ok s) → text ≡ valid_text s
    → Said text statuses.Done status k l → CheckEnds name names v w status k l
checks_done name names s text status p is said = ends_done s text status (p, is) said

pub checks_told : {v w : DiskView} {k l : SinkView} (name : List ℕ) (names : List (List ℕ)) (answer : Result AllSummary ErrorLine) (e : ErrorLine) (status : Status) → ChecksTo name names v w answer → ChecksTo name names v w (Err e)
    → SaidUnlessMemory (error_text e) (status_of e) status k l → CheckEnds name names v w status k l
checks_told name names answer e status p q said = ends_error e status (q, refl) (wants_memory name names answer p, refl) said

pub checks_whole : {v w : DiskView} {k l : SinkView} (name : List ℕ) (names : List (List ℕ)) (status : Status) → CheckEnds name names v w status k l → EndsWell (check_of names) name v w status k l
checks_whole {v} {w} name names status e = completes w (check_of names) name status e (λ answer text c. c.0.exact) (λ answer text c. c.0.cause)

-- memory was wanting before the file was looked at
pub leaves_itself : (v : DiskView) → LeavesFiles v.told v v
leaves_itself v = record { told = refl; faults = omega arith; through = refl }

pub checks_nothing : {v : DiskView} {k l : SinkView} (name : List ℕ) (names : List (List ℕ)) (status : Status) → Said (error_text errors.Memory) statuses.Memory status k l → CheckEnds name names v v status k l
checks_nothing {v} name names status said = record {
  answer = Err errors.Memory;
  text = error_text errors.Memory;
  comes = (record { disk = leaves_itself v; exact = any_told v.told (λ d. tt); kinds = tt; cause = λ h. cc }, refl);
  said = said;
}

pub part : (out mid name : List ℕ) (n : ℕ) → mid ≡ out ++ (name ++ flat_map spaced (n ∷ [])) → mid ≡ out ++ (name ++ spaced n)
part out mid name n e = e ∙ ap (λ x. out ++ (name ++ x)) (append-nil (spaced n))

-- the five parts of the line of a valid file
pub valid_parts : {T E : Type 0} (r : Result T E) (out a b c d e : List ℕ) (s : AllSummary) → a ≡ out ++ (codes "valid rows" ++ flat_map spaced s.rows) → b ≡ a ++ (codes " chunks" ++ flat_map spaced (s.chunks ∷ []))
    → c ≡ b ++ (codes " blocks" ++ flat_map spaced (s.blocks ∷ [])) → d ≡ c ++ (codes " end" ++ flat_map spaced (s.end ∷ [])) → OnOk r (e ≡ d ++ numbers_text (codes " lost") (s.lost ∷ [])) → OnOk r (e ≡ out ++ valid_text s)
valid_parts (Ok x) out a b c d e s pa pb pc pd pe =
    let rows : List ℕ = codes "valid rows" ++ flat_map spaced s.rows in
    let chunks : List ℕ = codes " chunks" ++ spaced s.chunks in
    let blocks : List ℕ = codes " blocks" ++ spaced s.blocks in
    let end : List ℕ = codes " end" ++ spaced s.end in
    let lost : List ℕ = numbers_text (codes " lost") (s.lost ∷ []) in
    let two = joined out a b rows chunks pa (part a b (codes " chunks") s.chunks pb) in
    let three = joined out b c (rows ++ chunks) blocks two (part b c (codes " blocks") s.blocks pc) in
    let four = joined out c d (rows ++ chunks ++ blocks) end three (part c d (codes " end") s.end pd) in
    joined out d e (rows ++ chunks ++ blocks ++ end) lost four pe
valid_parts (Err x) out a b c d e s pa pb pc pd pe = tt
