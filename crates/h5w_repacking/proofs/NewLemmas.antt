-- A source that is surveyed, and a new file that is made and filled.
use Rattle.std.proofs.Common.{◌≡◌, ◌≢◌, ℕ, ◌≤◌, ◌<◌, ◌^◌, Bool, true, List, [], ◌∷◌, ◌++◌, length, map, Option, Some, None, Result, Ok, Err, refl, sym, ap, ◌∙◌, subst, arith, append-nil, append_assoc}
use Rattle.std.specs.Prelude.{IfOk, IfSome, IsSome, OnOk, is_none, option_map}
use Rattle.std.specs.Option.{unwrap_or}
use Rattle.std.specs.FinMap as finite
use Rattle.h5w_model.specs.Images.{apply, image}
use Rattle.h5w_model.specs.declared.piece.Write.{Write}
use Rattle.h5w_image.specs.View.{DiskState, DiskView, IsThere, Leaves, file, made, put}
use Rattle.h5w_image.proofs.DiskLemmas.{there_when_made, rose_from, missing_file, insert_twice}
use Rattle.h5w_image.proofs.Names.{get-insert_same, some-insert}
use Rattle.h5w_files.specs.Images.{LeavesFiles, file_image, told_bytes}
use Rattle.h5w_files.proofs.ClearLemmas.{leaves_files}
use Rattle.h5w_files.proofs.ImageLemmas.{leaves_on, looked_files}
use Rattle.h5w_text.specs.declared.error.ErrorLine.{ErrorLine}
use Rattle.h5w_text.specs.declared.error.ErrorLine.TheVariants as errors
use Rattle.h5w_survey.specs.Steps.{Says, SurveyStep}
use Rattle.h5w_survey.specs.Surveys.{IsRefusedFor, IsSurvey, IsSurveyOf}
use Rattle.h5w_survey.specs.declared.error.SurveyError.{SurveyError}
use Rattle.h5w_survey.specs.declared.error.SurveyError.TheVariants as surveys
use Rattle.std.specs.Global.{Vec}
use Rattle.h5w_packing.specs.declared.source.Source.{Source}
use Rattle.h5w_repack.specs.Copies.{put_each}
use Rattle.h5w_repacking.specs.Repacks.{HasNew, HasPut, IsOfSurvey, SurveyedBy, SurveysTo, line_of_survey, with_new}

-- ---- The source

abbrev lined : Result (Vec Source) SurveyError → Result (Vec Source) ErrorLine
lined (Ok s) = Ok s
lined (Err e) = Err (line_of_survey e)

said_by : (img : List ℕ) (names : List (List ℕ)) (answer : Result (Vec Source) SurveyError) → length img < 2 ^ 64 → Says (λ (s : Vec Source). IsSurveyOf img names s.items) (IsRefusedFor img names) answer → SurveyedBy names (Some img) (lined answer)
said_by img names (Ok s) short h = (h, short)
said_by img names (Err (surveys.Finding kind at)) short h = h
said_by img names (Err (surveys.Overlap at len other other_len)) short h = h
said_by img names (Err (surveys.Flags flags)) short h = h
said_by img names (Err surveys.Failed) short h = tt
said_by img names (Err surveys.OutOfMemory) short h = tt

kinds_of : (answer : Result (Vec Source) SurveyError) → IsOfSurvey (lined answer)
kinds_of (Ok s) = tt
kinds_of (Err (surveys.Finding kind at)) = tt
kinds_of (Err (surveys.Overlap at len other other_len)) = tt
kinds_of (Err (surveys.Flags flags)) = tt
kinds_of (Err surveys.Failed) = tt
kinds_of (Err surveys.OutOfMemory) = tt

failed_of : (answer : Result (Vec Source) SurveyError) → lined answer ≡ Err errors.Disk → answer ≡ Err surveys.Failed
failed_of (Ok s) e = cc
failed_of (Err (surveys.Finding kind at)) e = cc
failed_of (Err (surveys.Overlap at len other other_len)) e = cc
failed_of (Err (surveys.Flags flags)) e = cc
failed_of (Err surveys.Failed) e = refl
failed_of (Err surveys.OutOfMemory) e = cc

sound_of : (names : List (List ℕ)) (answer : Result (Vec Source) SurveyError) → IfOk answer (λ s. IsSurvey names s.items) → IfOk (lined answer) (λ s. IsSurvey names s.items)
sound_of names (Ok s) h = h
sound_of names (Err e) h = tt

on_ok : (answer : Result (Vec Source) ErrorLine) {P : Type 0} → P → OnOk answer P
on_ok (Ok s) p = p
on_ok (Err e) p = tt

-- by the survey of the image that the file is
pub surveys_by : {u v w : DiskView} (r q n : ℕ) (file_name other : List ℕ) (names : List (List ℕ)) (answer : Result (Vec Source) SurveyError) → n < 2 ^ 64 → Leaves 0 u.told u v → IfSome u.told (λ d. Some n ≡ option_map length (file d file_name)) → IsThere v file_name
    → SurveyStep (file_image r file_name v) (file_image q other w) (λ img s. IsSurveyOf img names s.items) (λ img e. IsRefusedFor img names e) answer → IfOk answer (λ s. IsSurvey names s.items) → SurveysTo file_name names u w (lined answer)
surveys_by {u} {v} {w} r q n file_name other names answer low p sized there step sound =
    let left : LeavesFiles v.told v w = looked_files r q file_name other step.looked in
    record {
      disk = leaves_on (leaves_files 0 u.told p) left;
      there = on_ok (lined answer) (subst (λ t. IfSome t (λ d. IsSome (file d file_name))) (sym left.told) there);
      sound = sound_of names answer sound;
      kinds = kinds_of answer;
      exact = told u.told p.told sized;
      cause = λ e. rose_from u.faults v.faults w.faults p.faults (step.cause (failed_of answer e));
    }
  where
    short_of : (o : Option (List ℕ)) (img : List ℕ) → o ≡ Some img → Some n ≡ option_map length o → length img < 2 ^ 64
    short_of o img e s = let is : ◌≡◌ {A = Option ℕ} (Some n) (Some (length img)) = s ∙ ap (option_map length) e in let same : n ≡ length img = cc in subst (λ k. k < 2 ^ 64) same low

    of_none : (o : Option (List ℕ)) → o ≡ None → Some n ≡ option_map length o → ⊥
    of_none o e s = let is : ◌≡◌ {A = Option ℕ} (Some n) None = s ∙ ap (option_map length) e in cc

    by_bytes : (t : Option DiskState) (d : DiskState) → v.told ≡ Some d → (o : Option (List ℕ)) → file d file_name ≡ o → Some n ≡ option_map length (file d file_name) → SurveyedBy names o (lined answer)
    by_bytes t d e None f s = absurd (of_none (file d file_name) f s)
    by_bytes t d e (Some img) f s =
        let short = short_of (file d file_name) img f s in
        said_by img names answer short (step.exact img (record { told = ap (λ x. told_bytes x file_name) e ∙ f; alone = refl; short = short }))

    told : (t : Option DiskState) → v.told ≡ t → IfSome t (λ d. Some n ≡ option_map length (file d file_name)) → IfSome t (λ d. SurveyedBy names (file d file_name) (lined answer))
    told None e s = tt
    told (Some d) e s = by_bytes (Some d) d e (file d file_name) refl s

-- ---- The new file

made_new : (name : List ℕ) (t : Option DiskState) → option_map (made name) t ≡ option_map (with_new name [] []) t
made_new name None = refl
made_new name (Some d) = λ i. Some (record { files = finite.insert d.files name []; puts = sym (append-nil d.puts) i })

pub makes_new : {v w : DiskView} (to : List ℕ) (new : Bool) → new ≡ true → IfSome v.told (λ d. new ≡ is_none (file d to)) → Leaves 0 (option_map (made to) v.told) v w → HasNew to [] v w × IsThere w to
makes_new {v} {w} to new is none p = (
  record {
    counts = [];
    missing = missing_file to v.told (subst (λ b. IfSome v.told (λ d. b ≡ is_none (file d to))) is none);
    disk = record { told = p.told ∙ made_new to v.told; faults = p.faults; through = p.through };
  },
  there_when_made {v = v} {w = w} to p,
)

-- it is left
pub new_left : {u v w : DiskView} (to bytes : List ℕ) → HasNew to bytes u v → LeavesFiles v.told v w → HasNew to bytes u w
new_left to bytes h l = record {
  counts = h.counts;
  missing = h.missing;
  disk = record { told = l.told ∙ h.disk.told; faults = omega (arith, l.faults, h.disk.faults); through = l.through ∙ h.disk.through };
}

-- nothing was done before
pub new_after : {u v w : DiskView} (to bytes : List ℕ) → LeavesFiles u.told u v → HasNew to bytes v w → HasNew to bytes u w
new_after {u} {v} to bytes l h = record {
  counts = h.counts;
  missing = subst (λ t. IfSome t (λ d. file d to ≡ None)) l.told h.missing;
  disk = record { told = h.disk.told ∙ ap (option_map (with_new to bytes h.counts)) l.told; faults = omega (arith, l.faults, h.disk.faults); through = h.disk.through ∙ l.through };
}

put_new : (name b : List ℕ) (cs : List ℕ) (w : Write) (c : ℕ) (d : DiskState) → put name w c (with_new name b cs d) ≡ with_new name (apply w b) (cs ++ c ∷ []) d
put_new name b cs w c d =
    let bytes : unwrap_or (file (with_new name b cs d) name) [] ≡ b = ap (λ o. unwrap_or o []) (get-insert_same d.files name b) in
    let files : finite.insert (finite.insert d.files name b) name (apply w (unwrap_or (file (with_new name b cs d) name) [])) ≡ finite.insert d.files name (apply w b) =
    ap (λ x. finite.insert (finite.insert d.files name b) name (apply w x)) bytes ∙ insert_twice d.files name b (apply w b) in
    λ i. record { files = files i; puts = append_assoc d.puts cs (c ∷ []) i }

abbrev writes_in : List (Write × ℕ) → List Write
writes_in ps = map (λ (p : Write × ℕ). p.0) ps

abbrev faults_in : List (Write × ℕ) → List ℕ
faults_in ps = map (λ (p : Write × ℕ). p.1) ps

puts_new : (name b : List ℕ) (cs : List ℕ) (ps : List (Write × ℕ)) (d : DiskState) → put_each name ps (with_new name b cs d) ≡ with_new name (image b (writes_in ps)) (cs ++ faults_in ps) d
puts_new name b cs [] d = ap (λ xs. with_new name b xs d) (sym (append-nil cs))
puts_new name b cs (p ∷ ps) d =
    ap (put_each name ps) (put_new name b cs p.0 p.1 d) ∙ puts_new name (apply p.0 b) (cs ++ p.1 ∷ []) ps d
    ∙ ap (λ xs. with_new name (image (apply p.0 b) (writes_in ps)) xs d) (append_assoc cs (p.1 ∷ []) (faults_in ps))

told_new : (name b : List ℕ) (cs : List ℕ) (ps : List (Write × ℕ)) (t : Option DiskState) → option_map (put_each name ps) (option_map (with_new name b cs) t) ≡ option_map (with_new name (image b (writes_in ps)) (cs ++ faults_in ps)) t
told_new name b cs ps None = refl
told_new name b cs ps (Some d) = ap Some (puts_new name b cs ps d)

-- some was put into it
pub new_put : {u v w : DiskView} (to bytes : List ℕ) (ws : List Write) → HasNew to bytes u v → HasPut to ws v w → HasNew to (image bytes ws) u w
new_put {u} to bytes ws h p = record {
  counts = h.counts ++ faults_in p.puts;
  missing = h.missing;
  disk = record {
    told = p.disk.told ∙ ap (option_map (put_each to p.puts)) h.disk.told ∙ told_new to bytes h.counts p.puts u.told
        ∙ ap (λ (xs : List Write). option_map (with_new to (image bytes xs) (h.counts ++ faults_in p.puts)) u.told) p.are;
    faults = omega (arith, p.disk.faults, h.disk.faults);
    through = p.disk.through ∙ h.disk.through;
  };
}

-- ---- The source beside a new file

some_other : (d : DiskState) (from to : List ℕ) → IsSome (file d from) → file d to ≡ None → from ≢ to
some_other d from to some none e = let is : file d from ≡ None = ap (λ name. file d name) e ∙ none in absurd (no (file d from) some is)
  where
    no : (o : Option (List ℕ)) → IsSome o → o ≡ None → ⊥
    no None s i = absurd cc
    no (Some b) s i = absurd cc

pub new_apart : {u v : DiskView} (from to bytes : List ℕ) → IsThere u from → HasNew to bytes u v → IfSome v.told (λ d. from ≢ to)
new_apart {u} from to bytes there h = subst (λ t. IfSome t (λ d. from ≢ to)) (sym h.disk.told) (cases u.told there h.missing)
  where
    cases : (t : Option DiskState) → IfSome t (λ d. IsSome (file d from)) → IfSome t (λ d. file d to ≡ None) → IfSome (option_map (with_new to bytes h.counts) t) (λ d. from ≢ to)
    cases None s n = tt
    cases (Some d) s n = some_other d from to s n

pub new_there : {u v : DiskView} (from to bytes : List ℕ) → IsThere u from → HasNew to bytes u v → IsThere v from
new_there {u} from to bytes there h = subst (λ t. IfSome t (λ d. IsSome (file d from))) (sym h.disk.told) (cases u.told there)
  where
    cases : (t : Option DiskState) → IfSome t (λ d. IsSome (file d from)) → IfSome (option_map (with_new to bytes h.counts) t) (λ d. IsSome (file d from))
    cases None s = tt
    cases (Some d) s = some-insert d.files to from bytes s
