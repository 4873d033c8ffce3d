-- A file that is opened by several names to append to it.
use Rattle.std.proofs.Common.{◌≡◌, ◌⊎◌, ℕ, ◌+◌, ◌<◌, ◌≤◌, ◌^◌, List, [], ◌∷◌, length, Option, Some, None, Result, Ok, Err, refl, sym, ap, ◌∙◌, subst, inl, inr, arith}
use Rattle.std.specs.Prelude.{IfSome, IsSome, option_map}
use Rattle.h5w_model.specs.Causes.{Rose}
use Rattle.h5w_model.specs.Findings.{AllSummary, AllValid}
use Rattle.h5w_model.specs.Relations.{AllPaired}
use Rattle.h5w_model.specs.Several.{Begun}
use Rattle.h5w_model.specs.declared.root.Super.{Super}
use Rattle.h5w_image.specs.View.{DiskState, DiskView, IsThere, Leaves, Looked, file}
use Rattle.h5w_looks.specs.Still.{IsStill}
use Rattle.h5w_opening.specs.Errors.{IsOpenKind}
use Rattle.h5w_opening.specs.declared.error.OpenError.{OpenError}
use Rattle.h5w_opening.specs.declared.error.OpenError.TheVariants as opens
use Rattle.h5w_writer.specs.Sessions.{Session}
use Rattle.h5w_text.specs.declared.error.ErrorLine.{ErrorLine}
use Rattle.h5w_text.specs.declared.error.ErrorLine.TheVariants as errors
use Rattle.h5w_files.specs.Images.{LeavesFiles, file_image, told_bytes}
use Rattle.h5w_files.proofs.ClearLemmas.{any_told, leaves_files}
use Rattle.h5w_files.proofs.ImageLemmas.{looked_files}
use Rattle.h5w_writer_lines.specs.Lines.{open_line}
use Rattle.h5w_appending.specs.Appends.{IsFree}
use Rattle.h5w_appending.specs.Appending.{HasSize}
use Rattle.h5w_several_open.specs.Beginnings.{HaveBegunBy, IsAllAnswer, IsBegunAll, IsNoneBegun}
use Rattle.h5w_several_open.specs.Begins.{ReadsIt}
use Rattle.h5w_several_open.specs.Sessions.{BeginsWith}
use Rattle.h5w_several_open.specs.Stands.{opened_file}
use Rattle.h5w_several_writer.specs.Flows.{all_waits}
use Rattle.h5w_several_writer_laws.specs.Sessions.{Sessions, all_pending, keeping}
use Rattle.h5w_several_writer_laws.specs.Standing.{StandsAll}
use Rattle.h5w_several_open.specs.declared.beginning.Beginning.{Beginning}
use Rattle.h5w_several_appending.specs.Appending.{IsBegun, IsKept, IsOpenOver}
use Rattle.h5w_several_appending.specs.Tells.{TellsWhy, Unopened}

-- the bytes of a file are as many as its size
bytes_sized : (t : Option DiskState) (name : List ℕ) (size : ℕ) (img : List ℕ) → told_bytes t name ≡ Some img → IfSome t (λ d. Some size ≡ option_map length (file d name)) → size ≡ length img
bytes_sized None name size img e h = absurd (cc)
bytes_sized (Some d) name size img e h = let count : Some size ≡ Some (length img) = h ∙ ap (option_map length) e in cc

still_image : (r : ℕ) (v : DiskView) (name : List ℕ) (size : ℕ) (img : List ℕ) → told_bytes v.told name ≡ Some img → HasSize v name size → size < 2 ^ 64 → IsStill (file_image r name v) img
still_image r v name size img told sized small = record { told = told; alone = refl; short = let count = bytes_sized v.told name size img told sized in omega (arith, count, small) }

-- ---- It is opened

kept_itself : (S : Sessions) → IsKept S S
kept_itself S = record { session = inl refl; stands = λ log h. h }

pub opens_over : {v : DiskView} {by : Beginning} (r : ℕ) (name : List ℕ) (names : List (List ℕ)) (limit budget size : ℕ) (S : Sessions) → IsThere v name → size < 2 ^ 64 → HasSize v name size → HaveBegunBy by names limit budget S
    → ((img : List ℕ) → IsStill (file_image r name v) img → IsAllAnswer by img size names limit budget (Ok S))
    → ((img : List ℕ) (t : AllSummary) (sets : List Begun) → IsStill (file_image r name v) img → AllValid img names t → AllPaired (ReadsIt img) names sets → StandsAll S (opened_file img sets)) → IsOpenOver by name names limit v S
opens_over {v = v} {by = by} r name names limit budget size S there small sized begun exact stands = record {
  there = there;
  budget = budget;
  opened = S;
  begun = begun;
  kept = kept_itself S;
  exact = λ img told. subst (λ n. IsBegunAll by img n names S) (bytes_sized v.told name size img told sized) (exact img (still_image r v name size img told sized small));
  stands = λ img t sets told valid reads. stands img t sets (still_image r v name size img told sized small) valid reads;
}

-- ---- It is not

refusal_told : (by : Beginning) (img : List ℕ) (size limit budget : ℕ) (names : List (List ℕ)) (e : OpenError) → IsAllAnswer by img size names limit budget (Err e) → IsFree (open_line e) ⊎ ((x : OpenError) × (open_line x ≡ open_line e) × IsNoneBegun by img size names x)
refusal_told by img size limit budget names (opens.Read e) h = inr (opens.Read e, refl, h)
refusal_told by img size limit budget names (opens.Version version) h = inr (opens.Version version, refl, h)
refusal_told by img size limit budget names (opens.Flags flags) h = inr (opens.Flags flags, refl, h)
refusal_told by img size limit budget names (opens.Cut end n) h = inr (opens.Cut end n, refl, h)
refusal_told by img size limit budget names opens.Layout h = inr (opens.Layout, refl, h)
refusal_told by img size limit budget names (opens.ChunkBytes bytes most) h = inr (opens.ChunkBytes bytes most, refl, h)
refusal_told by img size limit budget names opens.NoColumns h = inr (opens.NoColumns, refl, h)
refusal_told by img size limit budget names (opens.Same one other) h = inr ((opens.Same one other), refl, h)
refusal_told by img size limit budget names (opens.Finding kind place) h = inr (opens.Finding kind place, refl, h)
refusal_told by img size limit budget names opens.Failed h = inl (inl refl)
refusal_told by img size limit budget names opens.OutOfMemory h = inl (inr refl)

failed_line : (e : OpenError) → open_line e ≡ errors.Disk → e ≡ opens.Failed
failed_line (opens.Read e) h = absurd (cc)
failed_line (opens.Version version) h = absurd (cc)
failed_line (opens.Flags flags) h = absurd (cc)
failed_line (opens.Cut end n) h = absurd (cc)
failed_line opens.Layout h = absurd (cc)
failed_line (opens.ChunkBytes bytes most) h = absurd (cc)
failed_line opens.NoColumns h = absurd (cc)
failed_line (opens.Same one other) h = absurd (cc)
failed_line (opens.Finding kind place) h = absurd (cc)
failed_line opens.Failed h = refl
failed_line opens.OutOfMemory h = absurd (cc)

why_there : (by : Beginning) (names : List (List ℕ)) (e : ErrorLine) (size : ℕ) (o : Option (List ℕ)) → Some size ≡ option_map length o → ((img : List ℕ) → o ≡ Some img → IsFree e ⊎ ((x : OpenError) × (open_line x ≡ e) × IsNoneBegun by img (length img) names x)) → IsFree e ⊎ TellsWhy by names o e
why_there by names e size None h f = absurd (cc)
why_there by names e size (Some img) h f = f img refl

why_told : (by : Beginning) (t : Option DiskState) (name : List ℕ) (names : List (List ℕ)) (e : ErrorLine) (size : ℕ) → IfSome t (λ d. Some size ≡ option_map length (file d name))
    → ((img : List ℕ) → told_bytes t name ≡ Some img → IsFree e ⊎ ((x : OpenError) × (open_line x ≡ e) × IsNoneBegun by img (length img) names x)) → IfSome t (λ d. IsFree e ⊎ TellsWhy by names (file d name) e)
why_told by None name names e size h f = tt
why_told by (Some d) name names e size h f = why_there by names e size (file d name) h f

pub unopened_by : {A : Type 0} {v w : DiskView} {by : Beginning} (r q : ℕ) (name other : List ℕ) (names : List (List ℕ)) (limit budget size : ℕ) (x : OpenError) (e : ErrorLine) → size < 2 ^ 64 → HasSize v name size → e ≡ open_line x → Looked (file_image r name v) (file_image q other w)
    → ((img : List ℕ) → IsStill (file_image r name v) img → IsAllAnswer by img size names limit budget (Err x)) → (◌≡◌ {A = Result A OpenError} (Err x) (Err opens.Failed) → Rose v.faults w.faults) → IsOpenKind x → Unopened by name names v w e
unopened_by {A = A} {v = v} {w = w} {by = by} r q name other names limit budget size x e small sized is looked exact cause kind = record {
  disk = looked_files r q name other looked;
  exact = why_told by v.told name names e size sized (λ img told. subst (λ (y : ErrorLine). IsFree y ⊎ ((z : OpenError) × (open_line z ≡ y) × IsNoneBegun by img (length img) names z)) (sym is)
      (refusal_told by img (length img) limit budget names x (subst (λ n. IsAllAnswer by img n names limit budget (Err x)) (bytes_sized v.told name size img told sized) (exact img (still_image r v name size img told sized small)))));
  kinds = inr (x, sym is, kind);
  cause = λ h. cause (ap Err (failed_line x (sym is ∙ h)));
}

-- ---- Before it is looked at

pub size_failed : {v w : DiskView} {by : Beginning} (name : List ℕ) (names : List (List ℕ)) → Leaves 0 v.told v w → Rose v.faults w.faults → Unopened by name names v w errors.Disk
size_failed {v = v} name names p rose = record { disk = leaves_files 0 v.told p; exact = any_told v.told (λ d. inl (inl refl)); kinds = inr (opens.Failed, refl, tt); cause = λ h. rose }

pub room_wanting : {v w : DiskView} {by : Beginning} (name : List ℕ) (names : List (List ℕ)) → LeavesFiles v.told v w → Unopened by name names v w errors.Memory
room_wanting {v = v} name names p = record { disk = p; exact = any_told v.told (λ d. inl (inr refl)); kinds = inr (opens.OutOfMemory, refl, tt); cause = λ h. absurd (cc) }

-- ---- From one state to another

pub opened_earlier : {u v : DiskView} {by : Beginning} (name : List ℕ) (names : List (List ℕ)) (limit : ℕ) (S : Sessions) → LeavesFiles u.told u v → IsOpenOver by name names limit v S → IsOpenOver by name names limit u S
opened_earlier {u = u} {v = v} name names limit S p h = record {
  there = subst (λ (t : Option DiskState). IfSome t (λ d. IsSome (file d name))) p.told h.there;
  budget = h.budget;
  opened = h.opened;
  begun = h.begun;
  kept = h.kept;
  exact = λ img told. h.exact img (ap (λ (t : Option DiskState). told_bytes t name) p.told ∙ told);
  stands = λ img t sets told valid reads. h.stands img t sets (ap (λ (x : Option DiskState). told_bytes x name) p.told ∙ told) valid reads;
}

kept_twice : (R S T : Sessions) → ((T ≡ S) ⊎ (T ≡ keeping S)) → ((S ≡ R) ⊎ (S ≡ keeping R)) → ((T ≡ R) ⊎ (T ≡ keeping R))
kept_twice R S T (inl p) (inl q) = inl (p ∙ q)
kept_twice R S T (inl p) (inr q) = inr (p ∙ q)
kept_twice R S T (inr p) (inl q) = inr (p ∙ ap keeping q)
kept_twice R S T (inr p) (inr q) = inr (p ∙ ap keeping q)

-- what is retired stays so
pub opened_kept : {v : DiskView} {by : Beginning} (name : List ℕ) (names : List (List ℕ)) (limit : ℕ) (S T : Sessions) → IsKept S T → IsOpenOver by name names limit v S → IsOpenOver by name names limit v T
opened_kept name names limit S T k h = record {
  there = h.there;
  budget = h.budget;
  opened = h.opened;
  begun = h.begun;
  kept = record { session = kept_twice h.opened S T k.session h.kept.session; stands = λ log x. k.stands log (h.kept.stands log x) };
  exact = h.exact;
  stands = λ img t sets told valid reads. k.stands (opened_file img sets) (h.stands img t sets told valid reads);
}

none_begun : (limit_of : Super) (budget : ℕ) (names : List (List ℕ)) (ss : List Session) → AllPaired (BeginsWith budget limit_of) names ss → all_waits ss ≡ 0
none_begun root budget [] [] h = refl
none_begun root budget [] (s ∷ ss) h = absurd h
none_begun root budget (name ∷ names) [] h = absurd h
none_begun root budget (name ∷ names) (s ∷ ss) h = let one = h.0.waits in let rest = none_begun root budget names ss h.1 in omega (arith, one, rest)

kept_has : {w : DiskView} (name : List ℕ) (S T : Sessions) → ((T ≡ S) ⊎ (T ≡ keeping S)) → IsBegun name S w → IsBegun name T w
kept_has {w} name S T (inl same) h = subst (λ (x : Sessions). IsBegun name x w) (sym same) h
kept_has {w} name S T (inr same) h = subst (λ (x : Sessions). IsBegun name x w) (sym same) (record { there = h.there; running = h.running; some = h.some; waits = h.waits; room = h.room; end = h.end })

pub begun_kept : {w : DiskView} {by : Beginning} (name : List ℕ) (names : List (List ℕ)) (limit budget n : ℕ) (S T : Sessions) → HaveBegunBy by names limit budget S → IsKept S T → IsThere w name → n ≡ length (all_pending S.parts) → n + 1 ≤ w.pieces → S.places.end ≤ w.end name → IsBegun name T w
begun_kept {w = w} name names limit budget n S T begun k there count room end =
    kept_has name S T k.session (record { there = there; running = begun.going; some = begun.sessions.some; waits = none_begun S.root budget names S.parts begun.each; room = omega (arith, count, room); end = end })
