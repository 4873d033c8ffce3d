-- How the steps of a survey compose.
use Rattle.std.proofs.Common.{◌≡◌, ℕ, zero, suc, ◌+◌, ◌^◌, ◌<◌, ◌≤◌, List, [], ◌∷◌, length, Some, None, Result, Ok, Err, refl, sym, ap, ◌∙◌, subst, arith}
use Rattle.std.specs.Prelude.{◌++◌, IfErr, IfOk, IsTrue, map, slice_index_or, take}
use Rattle.std.specs.List.{AllByRecursion}
use Rattle.std.specs.Global.{Vec}
use Rattle.std.proofs.lemmas.List.{map-append, take_all, take_more}
use Rattle.h5w_model.specs.Numbers.{range}
use Rattle.h5w_model.specs.Programs.{eval}
use Rattle.h5w_model.specs.Superblock.{super_at}
use Rattle.h5w_model.specs.Datasets.{refused_as, super_refusal, superblock}
use Rattle.h5w_model.specs.Tables.{Reading, Shows, format_limits}
use Rattle.h5w_model.specs.Relations.{AllPaired}
use Rattle.h5w_model.specs.Findings.{AllSummary, check_all}
use Rattle.h5w_model.specs.declared.root.Super.{Super}
use Rattle.h5w_model.specs.declared.refusal.ReadError.{ReadError}
use Rattle.h5w_model.specs.Causes.{Rose}
use Rattle.h5w_image.specs.View.{ImageView, Looked}
use Rattle.h5w_image.proofs.ViewLemmas.{looked_itself, looked_twice}
use Rattle.h5w_looks.specs.Still.{IsStill}
use Rattle.h5w_looks.proofs.ReadLemmas.{still_on}
use Rattle.h5w_headers.specs.Errors.{find_errors}
use Rattle.h5w_headers.specs.Ran.{Ran}
use Rattle.h5w_headers.specs.declared.error.FindError.{FindError}
use Rattle.h5w_headers.specs.declared.error.FindError.TheVariants as finds
use Rattle.h5w_headers.proofs.RanLemmas.{later, tells_along}
use Rattle.h5w_check.specs.Ran.{Tells}
use Rattle.h5w_check.specs.declared.error.CheckError.{CheckError}
use Rattle.h5w_check.specs.declared.error.CheckError.TheVariants as checks
use Rattle.h5w_chunks.specs.Grids.{dataset_of}
use Rattle.h5w_lookup.specs.Descents.{reading_news}
use Rattle.h5w_lookup.specs.declared.news.News.{News}
use Rattle.h5w_packing.proofs.SoFarLemmas.{each_more}
use Rattle.h5w_survey.specs.Errors.{of_check, of_found}
use Rattle.h5w_survey.specs.Lookups.{behind_root}
use Rattle.h5w_survey.specs.Steps.{Says, SurveyStep}
use Rattle.h5w_survey.specs.declared.error.SurveyError.{SurveyError}
use Rattle.h5w_survey.specs.declared.error.SurveyError.TheVariants.{Finding, Overlap, Flags, Failed, OutOfMemory}
use Rattle.h5w_packing.specs.Plans.{wanted_of}
use Rattle.h5w_packing.specs.Whole.{AllWanted}
use Rattle.h5w_packing.specs.declared.source.Source.{Source}
use Rattle.h5w_several_laws.specs.Together.{IsAllValid}
use Rattle.h5w_survey.specs.Surveys.{AllReadAs, ClosedSuper, IsOutside, IsRead, IsRefusedFor, IsSurvey, IsSurveyOf, IsSurveyed, IsWhole, ReadsAs, RefusedAll, RefusedReading, RefusedSuper}
use Rattle.h5w_survey.proofs.ReadingLemmas.{behind_super}
use Rattle.h5w_survey.proofs.WholeLemmas.{closed_read, shown_whole, valid_shown, valid_super}

abbrev as_error : {A : Type 0} → SurveyError → Result A SurveyError
as_error e = Err e

same_failure : {A B : Type 0} (e : SurveyError) → as_error {A = B} e ≡ Err Failed → as_error {A = A} e ≡ Err Failed
same_failure e h = cc

-- a step was answered, and the next one refused
pub step_then_stop : {A B C : Type 0} {v w x : ImageView} (P : List ℕ → A → Type 0) (Q : List ℕ → SurveyError → Type 0) (a : A) (S : List ℕ → B → Type 0) (T : List ℕ → C → Type 0) (R U : List ℕ → SurveyError → Type 0) (e : SurveyError)
    → SurveyStep v w P Q (Ok a) → SurveyStep w x S R (Err e) → ((img : List ℕ) → IsStill v img → P img a → R img e → U img e) → SurveyStep v x T U (Err e)
step_then_stop {B = B} {C = C} {v = v} {w = w} {x = x} P Q a S T R U e one two joined = record {
  looked = looked_twice one.looked two.looked;
  cause = λ h. later v.faults w.faults x.faults one.looked.faults (two.cause (same_failure {A = B} {B = C} e h));
  exact = λ img still. joined img still (one.exact img still) (two.exact img (still_on img one.looked still));
}

-- ---- What was looked for, and is not there

pub found_stop : {A B : Type 0} {v w : ImageView} (given : List ℕ → Result A ReadError) (e : FindError) (P : List ℕ → B → Type 0) (Q : List ℕ → SurveyError → Type 0) → Ran find_errors v w given (Err e)
    → ((img : List ℕ) → IsStill v img → (r : ReadError) → given img ≡ Err r → Q img (Finding 8 0)) → ((img : List ℕ) → Q img Failed) → ((img : List ℕ) → Q img OutOfMemory) → SurveyStep v w P Q (Err (of_found e))
found_stop given (finds.Refused r) P Q ran refused failed memory = record { looked = ran.looked; cause = λ h. absurd cc; exact = λ img still. refused img still r (ran.exact img still) }
found_stop given finds.Failed P Q ran refused failed memory = record { looked = ran.looked; cause = λ h. ran.cause refl; exact = λ img still. failed img }
found_stop given finds.OutOfMemory P Q ran refused failed memory = record { looked = ran.looked; cause = λ h. absurd cc; exact = λ img still. memory img }

-- one call answered, and another goes on, on images that end below 2^64
pub ran_on_short : {A B : Type 0} {v w x : ImageView} (p : List ℕ → Result A ReadError) (a : A) (q r : List ℕ → Result B ReadError) (answer : Result B FindError)
    → Ran find_errors v w p (Ok a) → Ran find_errors w x q answer → ((img : List ℕ) → length img ≤ 2 ^ 64 → p img ≡ Ok a → r img ≡ q img) → Ran find_errors v x r answer
ran_on_short {v = v} {w = w} {x = x} p a q r answer one two joined = record {
  looked = looked_twice one.looked two.looked;
  cause = λ e. later v.faults w.faults x.faults one.looked.faults (two.cause e);
  exact = λ img still.
      let short = still.short in
      tells_along find_errors (q img) (r img) answer (joined img (omega (arith, short)) (one.exact img still)) (two.exact img (still_on img one.looked still));
}

-- ---- The check

pub checked_ok : {v w : ImageView} (names : List (List ℕ)) (t : AllSummary) → Looked v w
    → ((img : List ℕ) → v.bytes ≡ Some img → IsTrue v.alone → eval img (check_all format_limits names (length img)) ≡ Ok t)
    → SurveyStep {A = Unit {0}} v w (λ img a. IsAllValid img names) (λ img e. IsRefusedFor img names e) (Ok tt)
checked_ok names t looked exact = record { looked = looked; cause = λ h. absurd cc; exact = λ img still. (t, exact img still.told still.alone) }

pub checked_err : {v w : ImageView} (names : List (List ℕ)) (error : CheckError) → Looked v w
    → ((img : List ℕ) → v.bytes ≡ Some img → IsTrue v.alone → Tells {B = AllSummary} (eval img (check_all format_limits names (length img))) (Err error))
    → (error ≡ checks.Failed → Rose v.faults w.faults)
    → SurveyStep {A = Unit {0}} v w (λ img a. IsAllValid img names) (λ img e. IsRefusedFor img names e) (Err (of_check error))
checked_err names (checks.Finding kind at) looked exact failed = record { looked = looked; cause = λ h. absurd cc; exact = λ img still. exact img still.told still.alone }
checked_err names (checks.Overlap at len other other_len) looked exact failed = record { looked = looked; cause = λ h. absurd cc; exact = λ img still. exact img still.told still.alone }
checked_err names checks.Failed looked exact failed = record { looked = looked; cause = λ h. failed refl; exact = λ img still. tt }
checked_err names checks.OutOfMemory looked exact failed = record { looked = looked; cause = λ h. absurd cc; exact = λ img still. tt }

-- ---- The superblock

pub super_there : (img : List ℕ) (names : List (List ℕ)) (r : ReadError) → IsAllValid img names → refused_as super_refusal (super_at (range img 0 48)) ≡ Err r → ⊥
super_there img names r valid h = let ok = ap (refused_as super_refusal) (valid_super img names valid).1 in cc

-- ---- The reading

same_reading : (r s : Reading) (given : Result Reading ReadError) → given ≡ Ok r → given ≡ Ok s → r ≡ s
same_reading r s given e g = cc

pub no_refusal : (r : Reading) (f : ReadError) (given : Result Reading ReadError) → given ≡ Ok r → given ≡ Err f → ⊥
no_refusal r f given e g = cc

-- what was found, and what is made of it
pub shown_as : {v w : ImageView} (root : ℕ) (name : List ℕ) (news : News) (result : Result Source SurveyError) → Ran find_errors v w (λ img. eval img (behind_root root name)) (Ok (reading_news None news))
    → IfOk result (λ s. s.name ≡ name) → IfOk result (λ s. dataset_of s.grid ≡ (reading_news None news).dataset) → IfOk result (λ s. s.table.items ≡ (reading_news None news).table) → IfErr result (λ e. IsWhole (reading_news None news) → ⊥)
    → (result ≡ Err Failed → ⊥) → SurveyStep v w (λ img s. ReadsAs img root name s) (λ img e. RefusedReading img root name e) result
shown_as root name news (Ok s) ran named dataset table refused quiet = record {
  looked = ran.looked;
  cause = λ h. absurd (quiet h);
  exact = λ img still. record { named = named; shown = reading_news None news; shows = ran.exact img still; dataset = dataset; table = table };
}
shown_as root name news (Err e) ran named dataset table refused quiet = record {
  looked = ran.looked;
  cause = λ h. absurd (quiet h);
  exact = λ img still r said whole. absurd (refused (subst IsWhole (same_reading r (reading_news None news) (eval img (behind_root root name)) said (ran.exact img still)) whole));
}

-- ---- One name after another

pub all_taken : {X : Type 0} (xs : List X) (k : ℕ) → length xs ≤ k → take k xs ≡ xs
all_taken xs k past = take_all k xs past

pub paired_more : {A B : Type 0} (P : A → B → Type 0) (xs : List A) (ys : List B) (x : A) (y : B) → AllPaired P xs ys → P x y → AllPaired P (xs ++ x ∷ []) (ys ++ y ∷ [])
paired_more P [] [] x y h p = (p, tt)
paired_more P [] (b ∷ ys) x y h p = absurd h
paired_more P (a ∷ xs) [] x y h p = absurd h
paired_more P (a ∷ xs) (b ∷ ys) x y h p = (h.0, paired_more P xs ys x y h.1 p)

pub paired_at : {A B : Type 0} (P : A → B → Type 0) (xs : List A) (ys : List B) (k : ℕ) (d : A) → k < length xs → AllPaired P xs ys → (y : B) × P (slice_index_or xs k d) y
paired_at P [] ys k d inside h = absurd (omega (arith, inside))
paired_at P (a ∷ xs) [] k d inside h = absurd h
paired_at P (a ∷ xs) (b ∷ ys) zero d inside h = (b, h.0)
paired_at P (a ∷ xs) (b ∷ ys) (suc k) d inside h = paired_at P xs ys k d (omega (arith, inside)) h.1

-- The first k names are shown.
pub record AreShown (names : List (List ℕ)) (root k : ℕ) (v w : ImageView) (ss : List Source) : Type 0 where
  pub looked : Looked v w
  pub exact : (img : List ℕ) → IsStill v img → AllReadAs img root (take k names) ss
  pub survey : IsSurvey (take k names) ss

pub shown_begun : (names : List (List ℕ)) (root : ℕ) (v : ImageView) (ss : List Source) → ss ≡ [] → AreShown names root 0 v v ss
shown_begun names root v ss none =
    subst (λ (l : List Source). AreShown names root 0 v v l) (sym none) (record { looked = looked_itself v; exact = λ img still. tt; survey = record { named = refl; each = tt } })

module _ (names : List (List ℕ)) (root k : ℕ) (v w x : ImageView) (ss : List Source) (h : AreShown names root k v w ss) (inside : k < length names) (name : List ℕ) (is : slice_index_or names k name ≡ name) where
  taken : take (k + 1) names ≡ take k names ++ name ∷ []
  taken = take_more names k name inside ∙ ap (λ (n : List ℕ). take k names ++ n ∷ []) is

  pub shown_more : (s : Source) (ts : List Source) → ts ≡ ss ++ s ∷ [] → SurveyStep w x (λ img y. ReadsAs img root name y) (λ img e. RefusedReading img root name e) (Ok s) → IsSurveyed s → s.name ≡ name → AreShown names root (k + 1) v x ts
  shown_more s ts put step sound named = record {
    looked = looked_twice h.looked step.looked;
    exact = λ img still.
        subst (λ (l : List Source). AllReadAs img root (take (k + 1) names) l) (sym put)
        (subst (λ (ns : List (List ℕ)). AllReadAs img root ns (ss ++ s ∷ [])) (sym taken)
        (paired_more (ReadsAs img root) (take k names) ss name s (h.exact img still) (step.exact img (still_on img h.looked still))));
    survey = record {
      named = ap (map (λ (y : Source). y.name)) put ∙ map-append (λ (y : Source). y.name) ss (s ∷ []) ∙ (λ i. h.survey.named i ++ named i ∷ []) ∙ sym taken;
      each = subst (λ (l : List Source). AllByRecursion IsSurveyed l) (sym put) (each_more IsSurveyed ss s h.survey.each sound);
    };
  }

  pub shown_stop : {A : Type 0} (P : List ℕ → A → Type 0) (e : SurveyError) → SurveyStep w x (λ img y. ReadsAs img root name y) (λ img f. RefusedReading img root name f) (Err e) → SurveyStep {A = A} v x P (λ img f. RefusedAll img root names f) (Err e)
  shown_stop {A = A} P e step = record {
    looked = looked_twice h.looked step.looked;
    cause = λ f. later v.faults w.faults x.faults h.looked.faults (step.cause (same_failure {A = Source} {B = A} e f));
    exact = λ img still rs reads.
        let one = paired_at (IsRead img root) names rs k name inside reads in
        let read : IsRead img root name one.0 = subst (λ (n : List ℕ). IsRead img root n one.0) is one.1 in
        step.exact img (still_on img h.looked still) one.0 read.shows read.whole;
  }

-- the name that is next
pub name_at : (names items : List (List ℕ)) (k : ℕ) (name item : List ℕ) → items ≡ names → name ≡ item → item ≡ slice_index_or items k item → slice_index_or names k name ≡ name
name_at names items k name item are is there = (λ i. slice_index_or (sym are i) k (is i)) ∙ sym there ∙ sym is

-- there is no memory for one more
pub shown_wanting : {A : Type 0} (names : List (List ℕ)) (root : ℕ) (v w : ImageView) (P : List ℕ → A → Type 0) (e : SurveyError) → Looked v w → e ≡ OutOfMemory → SurveyStep {A = A} v w P (λ img f. RefusedAll img root names f) (Err e)
shown_wanting {A = A} names root v w P e looked is =
    subst (λ (f : SurveyError). SurveyStep {A = A} v w P (λ img g. RefusedAll img root names g) (Err f)) (sym is) (record { looked = looked; cause = λ f. absurd cc; exact = λ img still rs reads. tt })

-- ---- All of it

outside_refused : (img : List ℕ) (names : List (List ℕ)) (e : SurveyError) → IsOutside e → IsRefusedFor img names e
outside_refused img names (Finding kind at) h = absurd h
outside_refused img names (Overlap at len other other_len) h = absurd h
outside_refused img names (Flags flags) h = absurd h
outside_refused img names Failed h = tt
outside_refused img names OutOfMemory h = tt

-- what was read by each name, as what the file shows
record AreRead (img : List ℕ) (names : List (List ℕ)) (ss : List Source) : Type 0 where
  readings : List Reading
  shows : AllPaired (Shows format_limits img) names readings
  wanted : AllWanted names readings (map wanted_of ss)

are_read : (img : List ℕ) (s : Super) (names : List (List ℕ)) (ss : List Source) → eval img superblock ≡ Ok s → AllReadAs img s.root names ss → AreRead img names ss
are_read img s [] [] read h = record { readings = []; shows = tt; wanted = refl }
are_read img s [] (x ∷ ss) read h = absurd h
are_read img s (name ∷ names) [] read h = absurd h
are_read img s (name ∷ names) (x ∷ ss) read h =
    let rest = are_read img s names ss read h.1 in
    let one : ReadsAs img s.root name x = h.0 in
    record {
      readings = one.shown ∷ rest.readings;
      shows = (behind_super img name s read ∙ one.shows, rest.shows);
      wanted = ((λ i. record { name = one.named i; dataset = one.dataset i; table = one.table i }), rest.wanted);
    }

reads_whole : (img : List ℕ) (s : Super) (names : List (List ℕ)) (rs : List Reading) → eval img superblock ≡ Ok s → AllPaired (Shows format_limits img) names rs → AllPaired (IsRead img s.root) names rs
reads_whole img s [] [] read h = tt
reads_whole img s [] (r ∷ rs) read h = absurd h
reads_whole img s (name ∷ names) [] read h = absurd h
reads_whole img s (name ∷ names) (r ∷ rs) read h = (record { shows = sym (behind_super img name s read) ∙ h.0; whole = shown_whole img name r h.0 }, reads_whole img s names rs read h.1)

pub survey_says : (img : List ℕ) (names : List (List ℕ)) (s : Super) (result : Result (Vec Source) SurveyError) → IsAllValid img names → ClosedSuper img s → Says (λ v. AllReadAs img s.root names v.items) (λ e. RefusedAll img s.root names e) result
    → Says (λ v. IsSurveyOf img names v.items) (λ e. IsRefusedFor img names e) result
survey_says img names s (Ok v) valid closed reads =
    let read = are_read img s names v.items (closed_read img s closed.decoded closed.closed) reads in
    record {
      shown = read.readings;
      file = record { valid = valid; super = s; decoded = closed.decoded; closed = closed.closed; shows = read.shows };
      are = read.wanted;
    }
survey_says img names s (Err e) valid closed refused =
    let all = valid_shown img names valid in
    outside_refused img names e (refused all.readings (reads_whole img s names all.readings (closed_read img s closed.decoded closed.closed) all.each))

pub survey_done : {v w x y : ImageView} (names : List (List ℕ)) (s : Super) (result : Result (Vec Source) SurveyError) → SurveyStep {A = Unit {0}} v w (λ img a. IsAllValid img names) (λ img e. IsRefusedFor img names e) (Ok tt)
    → SurveyStep w x ClosedSuper RefusedSuper (Ok s) → SurveyStep x y (λ img z. AllReadAs img s.root names z.items) (λ img e. RefusedAll img s.root names e) result
    → SurveyStep v y (λ img z. IsSurveyOf img names z.items) (λ img e. IsRefusedFor img names e) result
survey_done {v} {w} {x} {y} names s result one two three = record {
  looked = looked_twice one.looked (looked_twice two.looked three.looked);
  cause = λ h. later v.faults x.faults y.faults (looked_twice one.looked two.looked).faults (three.cause h);
  exact = λ img still.
      let on = still_on img one.looked still in
      survey_says img names s result (one.exact img still) (two.exact img on) (three.exact img (still_on img two.looked on));
}
