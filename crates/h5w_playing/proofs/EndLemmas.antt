-- The last line of a script, and when it ends well.
use Rattle.std.proofs.Common.{ℕ, ◌≡◌, ◌≢◌, ◌⊎◌, List, [], ◌∷◌, ◌++◌, length, map, take, Option, Some, None, Err, refl, ap, ◌∙◌, subst, sym, inl, inr, arith, append_assoc, append-nil}
use Rattle.std.specs.Prelude.{◌<◌, IfSome}
use Rattle.h5w_text.specs.Streams.{SourceView, SinkView}
use Rattle.h5w_text.specs.Errors.{error_text}
use Rattle.h5w_text.specs.declared.error.ErrorLine.TheVariants as errors
use Rattle.h5w_text.specs.Says.{Said, SaidUnlessMemory, whole, failed}
use Rattle.h5w_text.specs.declared.status.Status.{Status}
use Rattle.h5w_text.specs.declared.status.Status.TheVariants.{Done, Usage, Missing, Exists, Format, Damaged, Flags, Again, Input, Limit, Disk, Source, Sink, Memory}
use Rattle.h5w_input.specs.Lines.{lines_of, whole_lines_of}
use Rattle.h5w_batches.specs.Inputs.{input_limit}
use Rattle.h5w_batches.proofs.InputLemmas.{rose_before}
use Rattle.h5w_files.proofs.SinkLemmas.{gave_both, gave_nothing, gave_then_some}
use Rattle.h5w_several_script_laws.specs.Scripts.{FileLine, FileState}
use Rattle.h5w_playing.specs.Lines.{Spelling, file_line_of}
use Rattle.h5w_playing.specs.Endings.{Leaves, Runs}
use Rattle.h5w_playing.specs.Plays.{Begun, Completes, Finished, HasFirst, HasScript, Plays, Refused, TooLong}
use Rattle.h5w_playing.specs.declared.ending.Ending.{Ending}
use Rattle.h5w_playing.proofs.PlayLemmas.{replied_nothing}

-- any other bytes behind the answers
begun_with : (g : Spelling) (F : FileState) (s : SourceView) (last text : List ℕ) → Begun g F s [] text → Begun g F s last (text ++ last)
begun_with g F s last text b = record {
  lines = b.lines;
  first = b.first;
  answers = b.answers;
  replied = b.replied;
  is = ap (λ x. x ++ last) (b.is ∙ append-nil b.answers);
}

all_first : (o : Option (List ℕ)) → IfSome o (HasFirst [])
all_first None = tt
all_first (Some input) = record { taken = []; rest = input; is = refl; bound = omega arith; lines_are = refl }

-- before the first line
begun_first : (g : Spelling) (F : FileState) (s : SourceView) (last : List ℕ) → Begun g F s last last
begun_first g F s last = record { lines = []; first = all_first s.left; answers = []; replied = replied_nothing g F; is = refl }

pub leaves_first : (g : Spelling) (F : FileState) (s : SourceView) (k : SinkView) → Leaves g F Memory (error_text errors.Memory) s s k k
leaves_first g F s k = record { text = []; begun = begun_first g F s []; writes = begun_first g F s (error_text errors.Memory); gave = gave_nothing k }

pub plays_finished : (g : Spelling) (F : FileState) (status : Status) (s t : SourceView) (k l : SinkView) → status ≢ Sink → Finished g F status s t k l → Plays g F status s t k l
plays_finished g F Done s t k l n h = h
plays_finished g F Usage s t k l n h = h
plays_finished g F Missing s t k l n h = h
plays_finished g F Exists s t k l n h = h
plays_finished g F Format s t k l n h = h
plays_finished g F Damaged s t k l n h = h
plays_finished g F Flags s t k l n h = h
plays_finished g F Again s t k l n h = h
plays_finished g F Limit s t k l n h = h
plays_finished g F Disk s t k l n h = h
plays_finished g F Input s t k l n h = h
plays_finished g F Source s t k l n h = h
plays_finished g F Sink s t k l n h = absurd (n refl)
plays_finished g F Memory s t k l n h = h

-- a script that ended, and its last line
ends_said : (g : Spelling) (F : FileState) (status result : Status) (last : List ℕ) (s t : SourceView) (k l m : SinkView) → status ≢ Sink → Leaves g F status last s t k l → Said last status result l m → Plays g F result s t k m
ends_said g F status result last s t k l m n h (whole e gave) = subst (λ (r : Status). Plays g F r s t k m) (sym e)
    (plays_finished g F status s t k m n (record { text = h.text ++ last; writes = h.writes; gave = gave_both h.text last h.gave gave }))
ends_said g F status result last s t k l m n h (failed e rose some) = subst (λ (r : Status). Plays g F r s t k m) (sym e) (record {
  rose = rose_before k.faults l.faults m.faults h.gave.faults rose;
  status = status;
  text = h.text ++ last;
  writes = h.writes;
  gave = gave_then_some h.text last h.gave some;
})

pub ends : (g : Spelling) (F : FileState) (status result : Status) (last : List ℕ) (s t : SourceView) (k l m : SinkView) → status ≢ Sink → Leaves g F status last s t k l → SaidUnlessMemory last status result l m → Plays g F result s t k m
ends g F status result last s t k l m n h (inl said) = ends_said g F status result last s t k l m n h said
ends g F status result last s t k l m n h (inr said) = ends_said g F Memory result (error_text errors.Memory) s t k l m (λ e. cc)
    (record { text = h.text; begun = h.begun; writes = begun_with g F s (error_text errors.Memory) h.text h.begun; gave = h.gave }) said

-- at an ending that is known
pub runs_at : (g : Spelling) (F : FileState) (e x : Ending) (s t : SourceView) (k l : SinkView) → e ≡ x → Runs {A = Unit {0}} g F (Err e) s t k l → Runs {A = Unit {0}} g F (Err x) s t k l
runs_at g F e x s t k l q r = subst (λ (x : Ending). Runs {A = Unit {0}} g F (Err x) s t k l) q r

-- memory was refused before the first line
pub plays_nothing : (g : Spelling) (F : FileState) (status : Status) (s : SourceView) (k l : SinkView) → Said (error_text errors.Memory) Memory status k l → Plays g F status s s k l
plays_nothing g F status s k l said = ends_said g F Memory status (error_text errors.Memory) s s k k l (λ e. cc) (leaves_first g F s k) said

pub cannot : (g : Spelling) (F : FileState) (status : Status) (s : SourceView) (k l : SinkView) → SaidUnlessMemory (error_text errors.Memory) Memory status k l → Plays g F status s s k l
cannot g F status s k l said = ends g F Memory status (error_text errors.Memory) s s k k l (λ e. cc) (leaves_first g F s k) said

-- ---- Completeness

-- each line of a script spells one
no_gap : (g : Spelling) (lines more : List (List ℕ)) (line : List ℕ) (script : List FileLine) → file_line_of g line ≡ None → map (file_line_of g) (lines ++ line ∷ more) ≡ map Some script → ⊥
no_gap g [] more line [] none e = cc
no_gap g [] more line (l ∷ script) none e = cc
no_gap g (x ∷ lines) more line [] none e = cc
no_gap g (x ∷ lines) more line (l ∷ script) none e = let f : map (file_line_of g) (lines ++ line ∷ more) ≡ map Some script = cc in no_gap g lines more line script none f

not_refused : (g : Spelling) (F : FileState) (s : SourceView) (text : List ℕ) → HasScript g s → Refused g F s text → ⊥
not_refused g F s text h r =
    let first : HasFirst (r.lines ++ r.line ∷ []) h.input = subst (λ (o : Option (List ℕ)). IfSome o (HasFirst (r.lines ++ r.line ∷ []))) h.told r.first in
    no_gap g r.lines (lines_of first.rest) r.line h.script r.outside (sym (ap (map (file_line_of g)) (first.lines_are ∙ append_assoc r.lines (r.line ∷ []) (lines_of first.rest))) ∙ h.spelled)

not_long : (g : Spelling) (F : FileState) (s : SourceView) (text : List ℕ) → HasScript g s → TooLong g F s text → ⊥
not_long g F s text h r =
    let long : (input_limit < length h.input) × (whole_lines_of (take input_limit h.input) ≡ r.lines) = subst (λ (o : Option (List ℕ)). IfSome o (λ input. (input_limit < length input) × (whole_lines_of (take input_limit input) ≡ r.lines))) h.told r.long in
    let bound = h.bound in let over = long.0 in omega (arith, bound, over)

no_input : (g : Spelling) (F : FileState) (s : SourceView) (text : List ℕ) → HasScript g s → Refused g F s text ⊎ TooLong g F s text → ⊥
no_input g F s text h (inl r) = not_refused g F s text h r
no_input g F s text h (inr r) = not_long g F s text h r

pub plays_whole : (g : Spelling) (F : FileState) (status : Status) (s t : SourceView) (k l : SinkView) → Plays g F status s t k l → Completes g F status s t k l
plays_whole g F Done s t k l p = λ h source sink. inl refl
plays_whole g F Usage s t k l p = absurd p.writes
plays_whole g F Missing s t k l p = absurd p.writes
plays_whole g F Exists s t k l p = absurd p.writes
plays_whole g F Format s t k l p = absurd p.writes
plays_whole g F Damaged s t k l p = absurd p.writes
plays_whole g F Flags s t k l p = absurd p.writes
plays_whole g F Again s t k l p = absurd p.writes
plays_whole g F Limit s t k l p = absurd p.writes
plays_whole g F Disk s t k l p = absurd p.writes
plays_whole g F Input s t k l p = λ h source sink. absurd (no_input g F s p.text h p.writes)
plays_whole g F Source s t k l p = λ h source sink. absurd (source p.writes.0)
plays_whole g F Sink s t k l p = λ h source sink. absurd (sink p.rose)
plays_whole g F Memory s t k l p = λ h source sink. inr refl
