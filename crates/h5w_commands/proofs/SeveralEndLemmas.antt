-- How an append to several datasets of a file ends.
use Rattle.std.proofs.Common.{◌≡◌, ◌⊎◌, ℕ, Bool, true, false, List, [], ◌∷◌, ◌++◌, append_assoc, Option, Some, Result, Ok, Err, refl, sym, subst, ap, ap₂, ◌∙◌, inl, inr, arith}
use Rattle.std.specs.Prelude.{IfSome, if◌then◌else◌}
use Rattle.h5w_model.specs.Causes.{Rose}
use Rattle.h5w_model.specs.Datasets.{Described}
use Rattle.h5w_model.specs.Relations.{AllPaired}
use Rattle.h5w_image.specs.View.{DiskView}
use Rattle.h5w_opening.specs.Openings.{Opened}
use Rattle.h5w_opening.specs.declared.error.OpenError.TheVariants as opens
use Rattle.h5w_text.specs.Errors.{error_text}
use Rattle.h5w_text.specs.Says.{Said, whole, failed}
use Rattle.h5w_text.specs.Statuses.{status_of}
use Rattle.h5w_text.specs.Streams.{SourceView, SinkView}
use Rattle.h5w_text.specs.declared.error.ErrorLine.{ErrorLine}
use Rattle.h5w_text.specs.declared.error.ErrorLine.TheVariants as errors
use Rattle.h5w_text.specs.declared.status.Status.{Status}
use Rattle.h5w_text.specs.declared.status.Status.TheVariants as statuses
use Rattle.h5w_batches.specs.Inputs.{AreFirst, AreWithin}
use Rattle.h5w_files.specs.Ends.{EndsBehind, status_by}
use Rattle.h5w_files.proofs.ClearLemmas.{any_told}
use Rattle.h5w_files.proofs.SinkLemmas.{gave_nothing}
use Rattle.h5w_batches.proofs.InputLemmas.{rose_before}
use Rattle.h5w_appending.specs.Appends.{IsFree}
use Rattle.h5w_appending.specs.Tells.{IsDatasetIn}
use Rattle.h5w_several_batches.specs.SetLines.{set_line_of, used_after, used_by}
use Rattle.h5w_several_batches.specs.SetInputs.{AreSaid}
use Rattle.h5w_several_batches.specs.declared.line.SetLine.{SetLine}
use Rattle.h5w_several_batches.specs.declared.line.SetLine.TheVariants.{Numbers, Use}
use Rattle.h5w_several_appending.specs.Taken.{SetBatches, after_all, after_said, close_each, columns_of, end_each, no_sets, none_waits, rows_with}
use Rattle.h5w_several_appending.specs.Tells.{AtLine, IsWhy, SeveralEnds, TellsNone, TellsSome, TellsTo, TellsUpTo, TellsWhy, Unopened, of_line, of_range, of_chunks, of_room, of_depth, of_input, of_source, of_memory}
use Rattle.h5w_several_open.specs.declared.beginning.Beginning.{Beginning}
use Rattle.h5w_commands.specs.Appending.{AllSay, HasSeveralInput, IsWithin, SeveralEndsWell}
use Rattle.h5w_commands.proofs.AppendEndLemmas.{at_file, first_lines, known}

-- memory was wanting before the file was looked at
pub several_nothing : {s : SourceView} {v : DiskView} {k l : SinkView} {by : Beginning} (name : List ℕ) (names : List (List ℕ)) (limit : ℕ) (status : Status) → Said (error_text errors.Memory) statuses.Memory status k l → SeveralEnds by name names limit s s v v status k l
several_nothing {s = s} {v = v} {k = k} name names limit status said = inl (record {
  answer = Err errors.Memory;
  front = [];
  last = error_text errors.Memory;
  comes = inl (record {
    unopened = record { disk = record { told = refl; faults = omega arith; through = refl }; exact = any_told v.told (λ d. inl (inr refl)); kinds = inr (opens.OutOfMemory, refl, tt); cause = λ h. cc };
    unread = refl;
    front_is = refl;
    last_is = refl;
  });
  middle = k;
  gave = gave_nothing k;
  said = said;
})

-- ---- Where nothing stands in its way

one_dataset : {by : Beginning} (img at : List ℕ) (d e : Described) → IsDatasetIn by img at d → IsDatasetIn by img at e → d ≡ e
one_dataset img at d e p q =
    let same : p.found ≡ q.found = (let x = sym p.is ∙ q.is in cc) in
    sym p.dataset ∙ ap (λ (o : Opened). o.header.dataset) same ∙ q.dataset

-- the datasets of some names are known by the file's bytes
same_datasets : (by : Beginning) (img : List ℕ) (names : List (List ℕ)) (ds es : List Described) → AllPaired (IsDatasetIn by img) names ds → AllPaired (IsDatasetIn by img) names es → ds ≡ es
same_datasets by img [] [] [] p q = refl
same_datasets by img [] [] (e ∷ es) p q = absurd q
same_datasets by img [] (d ∷ ds) es p q = absurd p
same_datasets by img (name ∷ names) [] es p q = absurd p
same_datasets by img (name ∷ names) (d ∷ ds) [] p q = absurd q
same_datasets by img (name ∷ names) (d ∷ ds) (e ∷ es) p q = ap₂ (λ (x : Described) (xs : List Described). x ∷ xs) (one_dataset img name d e p.0 q.0) (same_datasets by img names ds es p.1 q.1)

-- which dataset is in use behind some lines
used_close : (ds : List Described) (b : SetBatches) → (close_each ds b).used ≡ b.used
used_close ds b = go (none_waits b.sets)
  where
    go : (none : Bool) → (if none then b else record b { sets = end_each b.sets; told = b.told ++ rows_with ds (end_each b.sets) ∷ [] }).used ≡ b.used
    go true = refl
    go false = refl

used_said : (ds : List Described) (b : SetBatches) (said : SetLine) → (after_said ds b said).used ≡ used_after b.used said
used_said ds b (Numbers []) = used_close ds b
used_said ds b (Numbers (v ∷ vs)) = refl
used_said ds b (Use d) = refl

used_all : (ds : List Described) (b : SetBatches) (said : List SetLine) → (after_all ds b said).used ≡ used_by b.used said
used_all ds b [] = refl
used_all ds b (x ∷ xs) = used_all ds (after_said ds b x) xs ∙ ap (λ (u : ℕ). used_by u xs) (used_said ds b x)

-- a line says something within the types, where the dataset is in use that the lines before it leave so
abbrev Says : List Described → ℕ → List ℕ → Type 0
Says ds used line = (said : SetLine) × (set_line_of (columns_of ds) used line ≡ Some said) × IsWithin ds used said

line_among : (ds : List Described) (used : ℕ) (lines : List (List ℕ)) (said : List SetLine) (line : List ℕ) (behind : List (List ℕ)) → AllSay ds used (lines ++ line ∷ behind) → AreSaid (columns_of ds) used lines said → Says ds (used_by used said) line
line_among ds used [] [] line behind all are = (all.0, all.1, all.2)
line_among ds used [] (x ∷ xs) line behind all are = absurd are
line_among ds used (l ∷ ls) [] line behind all are = absurd are
line_among ds used (l ∷ ls) (x ∷ xs) line behind all are =
    let same : all.0 ≡ x = (let e = sym all.1 ∙ are.0 in cc) in
    line_among ds (used_after used x) ls xs line behind (subst (λ (y : SetLine). AllSay ds (used_after used y) (ls ++ line ∷ behind)) same all.3) are.1

line_says : {name : List ℕ} {names : List (List ℕ)} {s : SourceView} {v : DiskView} {by : Beginning} (h : HasSeveralInput by name names s v) (b : SetBatches) (n : ℕ) (line : List ℕ) → AtLine h.ds s b n line → Says h.ds b.used line
line_says h b n line at =
    let lines = at.before.lines in
    let begins = first_lines (lines ++ line ∷ []) h.input h.bound (subst (λ (o : Option (List ℕ)). IfSome o (AreFirst (lines ++ line ∷ []))) h.given at.before.first) in
    let all : AllSay h.ds 0 (lines ++ line ∷ begins.0) = subst (AllSay h.ds 0) (begins.1 ∙ append_assoc lines (line ∷ []) begins.0) h.lines in
    let used : b.used ≡ used_by 0 at.said = ap (λ (c : SetBatches). c.used) at.batches ∙ used_all h.ds (no_sets h.ds) at.said in
    subst (λ (u : ℕ). Says h.ds u line) (sym used) (line_among h.ds 0 lines at.said line begins.0 all at.before.are)

why_ends : {name : List ℕ} {names : List (List ℕ)} {s : SourceView} {v : DiskView} {by : Beginning} (limit : ℕ) (t : SourceView) (b : SetBatches) (h : HasSeveralInput by name names s v) → (Rose s.faults t.faults → ⊥) → (e : ErrorLine)
    → IsWhy name names limit h.ds s t b v e → (status_of e ≡ statuses.Limit) ⊎ (status_of e ≡ statuses.Memory)
why_ends limit t b h source _ (of_line n line at none) = let says = line_says h b n line at in let spelled = says.1 in absurd (cc)
why_ends limit t b h source _ (of_range n i x values d at is outside) =
    let says = line_says h b n at.line at.at in
    let same : says.0 ≡ Numbers values = (let e = sym says.1 ∙ at.spelled in cc) in
    let within = subst (IsWithin h.ds b.used) same says.2 d is in absurd (cc)
why_ends limit t b h source _ (of_chunks chunks most lacks) = inl refl
why_ends limit t b h source _ (of_room full closes lacks) = inl refl
why_ends limit t b h source _ (of_depth closes) = inl refl
why_ends limit t b h source _ (of_input said much is) =
    let long = subst (λ (o : Option (List ℕ)). IfSome o (AreWithin much.lines)) h.given much.long in
    let over = long.0 in let bound = h.bound in absurd (omega (arith, over, bound))
why_ends limit t b h source _ (of_source said rose words is) = absurd (source rose)
why_ends limit t b h source _ of_memory = inr refl

unopened_so : {name : List ℕ} {names : List (List ℕ)} {s : SourceView} {v w : DiskView} {by : Beginning} (h : HasSeveralInput by name names s v) → (Rose v.faults w.faults → ⊥) → (e : ErrorLine) → Unopened by name names v w e → IsFree e ⊎ TellsWhy by names (Some h.bytes) e
    → status_of e ≡ statuses.Memory
unopened_so h disk e u (inl (inl broke)) = absurd (disk (u.cause broke))
unopened_so h disk e u (inl (inr wanting)) = ap status_of wanting
unopened_so h disk e u (inr refused) = absurd (h.unrefused refused.0 refused.2)

error_ends : {name : List ℕ} {names : List (List ℕ)} {s : SourceView} {v : DiskView} {by : Beginning} (limit : ℕ) (t : SourceView) (w : DiskView) (front last : List ℕ) (h : HasSeveralInput by name names s v) → (Rose s.faults t.faults → ⊥) → (Rose v.faults w.faults → ⊥) → (e : ErrorLine)
    → TellsNone by name names s t v w e front last ⊎ (TellsSome by name names limit s t v w e front last ⊎ ((e ≡ errors.Disk) × TellsUpTo by name names s t v w front last))
    → (status_of e ≡ statuses.Limit) ⊎ (status_of e ≡ statuses.Memory)
error_ends {name = name} {names = names} {s = s} {v = v} {by = by} limit t w front last h source disk e (inl none) =
    inr (unopened_so h disk e none.unopened (at_file v.told name h.bytes (λ (o : Option (List ℕ)). IsFree e ⊎ TellsWhy by names o e) h.told none.unopened.exact))
error_ends {name = name} {names = names} {s = s} {v = v} {by = by} limit t w front last h source disk e (inr (inl some)) =
    let same = same_datasets by h.bytes names some.ds h.ds (some.datasets.are h.bytes h.told) h.are in
    why_ends limit t some.batches h source e (subst (λ (ds : List Described). IsWhy name names limit ds s t some.batches v e) same some.refused)
error_ends limit t w front last h source disk e (inr (inr broke)) = absurd (disk broke.1.broken.rose)

tells_ends : {name : List ℕ} {names : List (List ℕ)} {s : SourceView} {v : DiskView} {by : Beginning} (limit : ℕ) (t : SourceView) (w : DiskView) (front last : List ℕ) → HasSeveralInput by name names s v → (Rose s.faults t.faults → ⊥) → (Rose v.faults w.faults → ⊥) → (answer : Result (Unit {0}) ErrorLine)
    → TellsTo by name names limit s t v w answer front last → (status_by answer ≡ statuses.Done) ⊎ ((status_by answer ≡ statuses.Limit) ⊎ (status_by answer ≡ statuses.Memory))
tells_ends limit t w front last h source disk (Ok a) p = inl refl
tells_ends limit t w front last h source disk (Err e) p = inr (error_ends limit t w front last h source disk e p)

pub several_whole : {s t : SourceView} {k l : SinkView} {v w : DiskView} {by : Beginning} (name : List ℕ) (names : List (List ℕ)) (limit : ℕ) (status : Status) → SeveralEnds by name names limit s t v w status k l → SeveralEndsWell by name names status s t k l v w
several_whole {s = s} {t = t} {k = k} {l = l} {v = v} {w = w} {by = by} name names limit status e = λ h source sink disk. go h source sink disk e
  where
    spoken : HasSeveralInput by name names s v → (Rose s.faults t.faults → ⊥) → (Rose k.faults l.faults → ⊥) → (Rose v.faults w.faults → ⊥) → (p : EndsBehind {A = Unit {0}} (TellsTo by name names limit s t v w) status k l)
        → Said p.last (status_by p.answer) status p.middle l → (status ≡ statuses.Done) ⊎ ((status ≡ statuses.Limit) ⊎ (status ≡ statuses.Memory))
    spoken h source sink disk p (failed is rose some) = absurd (sink (rose_before k.faults p.middle.faults l.faults p.gave.faults rose))
    spoken h source sink disk p (whole is gave) = known status (status_by p.answer) is (tells_ends limit t w p.front p.last h source disk p.answer p.comes)

    go : HasSeveralInput by name names s v → (Rose s.faults t.faults → ⊥) → (Rose k.faults l.faults → ⊥) → (Rose v.faults w.faults → ⊥) → SeveralEnds by name names limit s t v w status k l
        → (status ≡ statuses.Done) ⊎ ((status ≡ statuses.Limit) ⊎ (status ≡ statuses.Memory))
    go h source sink disk (inl p) = spoken h source sink disk p p.said
    go h source sink disk (inr cut) = let stops = cut.1.stops in absurd (sink (rose_before k.faults stops.middle.faults l.faults stops.gave.faults stops.rose))
