-- How commands end.
use Rattle.std.proofs.Common.{◌≡◌, ◌⊎◌, ℕ, List, Option, Result, Ok, Err, refl, ◌∙◌, subst, inl, inr}
use Rattle.std.specs.Prelude.{IfSome}
use Rattle.h5w_model.specs.Causes.{Rose}
use Rattle.h5w_image.specs.View.{DiskView, file}
use Rattle.h5w_text.specs.Streams.{SinkView}
use Rattle.h5w_text.specs.Says.{Said, SaidUnlessMemory, whole, failed}
use Rattle.h5w_text.specs.Errors.{error_text}
use Rattle.h5w_text.specs.Statuses.{status_of}
use Rattle.h5w_text.specs.declared.error.ErrorLine.{ErrorLine}
use Rattle.h5w_text.specs.declared.error.ErrorLine.TheVariants as errors
use Rattle.h5w_text.specs.declared.status.Status.{Status}
use Rattle.h5w_text.specs.declared.status.Status.TheVariants as statuses
use Rattle.h5w_files.specs.Ends.{IsGivenBy, EndsWell, EndsBy, HasGood, status_by}

-- an answer that is what is given
pub answers_same : {A : Type 0} (given answer : Result A ErrorLine) → given ≡ answer → IsGivenBy given answer
answers_same given (Ok a) e = e
answers_same given (Err errors.Usage) e = e
answers_same given (Err errors.Missing) e = e
answers_same given (Err errors.Exists) e = e
answers_same given (Err (errors.Read r)) e = e
answers_same given (Err (errors.Finding kind at)) e = e
answers_same given (Err (errors.Overlap at len other other_len)) e = e
answers_same given (Err (errors.Cut end size)) e = e
answers_same given (Err (errors.WriterVersion version)) e = e
answers_same given (Err errors.Layout) e = e
answers_same given (Err (errors.ChunkBytes bytes)) e = e
answers_same given (Err errors.NoColumns) e = e
answers_same given (Err (errors.Same one other)) e = e
answers_same given (Err (errors.FullChunks chunks limit)) e = e
answers_same given (Err (errors.FullSpace at size limit)) e = e
answers_same given (Err errors.Deep) e = e
answers_same given (Err (errors.Line n)) e = e
answers_same given (Err (errors.Range n i v)) e = e
answers_same given (Err (errors.Input n)) e = e
answers_same given (Err errors.Disk) e = tt
answers_same given (Err errors.Image) e = e
answers_same given (Err errors.Source) e = e
answers_same given (Err errors.Memory) e = tt

-- with all done
pub ends_done : {A : Type 0} {Comes : Result A ErrorLine → List ℕ → Type 0} {k l : SinkView} (a : A) (text : List ℕ) (status : Status)
    → Comes (Ok a) text → Said text statuses.Done status k l → EndsBy Comes status k l
ends_done a text status comes said = record { answer = Ok a; text = text; comes = comes; said = said }

-- with an error, or for want of memory for its line
pub ends_error : {A : Type 0} {Comes : Result A ErrorLine → List ℕ → Type 0} {k l : SinkView} (e : ErrorLine) (status : Status)
    → Comes (Err e) (error_text e) → Comes (Err errors.Memory) (error_text errors.Memory) → SaidUnlessMemory (error_text e) (status_of e) status k l → EndsBy Comes status k l
ends_error e status comes memory (inl said) = record { answer = Err e; text = error_text e; comes = comes; said = said }
ends_error e status comes memory (inr said) = record { answer = Err errors.Memory; text = error_text errors.Memory; comes = memory; said = said }

-- where an answer that is no error is given, and the disk did not fail
good_status : {A : Type 0} (given answer : Result A ErrorLine) (a : A) → given ≡ Ok a → IsGivenBy given answer → (answer ≡ Err errors.Disk → ⊥)
    → (status_by answer ≡ statuses.Done) ⊎ (status_by answer ≡ statuses.Memory)
good_status given (Ok b) a good is quiet = inl refl
good_status given (Err errors.Usage) a good is quiet = absurd (cc)
good_status given (Err errors.Missing) a good is quiet = absurd (cc)
good_status given (Err errors.Exists) a good is quiet = absurd (cc)
good_status given (Err (errors.Read r)) a good is quiet = absurd (cc)
good_status given (Err (errors.Finding kind at)) a good is quiet = absurd (cc)
good_status given (Err (errors.Overlap at len other other_len)) a good is quiet = absurd (cc)
good_status given (Err (errors.Cut end size)) a good is quiet = absurd (cc)
good_status given (Err (errors.WriterVersion version)) a good is quiet = absurd (cc)
good_status given (Err errors.Layout) a good is quiet = absurd (cc)
good_status given (Err (errors.ChunkBytes bytes)) a good is quiet = absurd (cc)
good_status given (Err errors.NoColumns) a good is quiet = absurd (cc)
good_status given (Err (errors.Same one other)) a good is quiet = absurd (cc)
good_status given (Err (errors.FullChunks chunks limit)) a good is quiet = absurd (cc)
good_status given (Err (errors.FullSpace at size limit)) a good is quiet = absurd (cc)
good_status given (Err errors.Deep) a good is quiet = absurd (cc)
good_status given (Err (errors.Line n)) a good is quiet = absurd (cc)
good_status given (Err (errors.Range n i v)) a good is quiet = absurd (cc)
good_status given (Err (errors.Input n)) a good is quiet = absurd (cc)
good_status given (Err errors.Disk) a good is quiet = absurd (quiet refl)
good_status given (Err errors.Image) a good is quiet = absurd (cc)
good_status given (Err errors.Source) a good is quiet = absurd (cc)
good_status given (Err errors.Memory) a good is quiet = inr refl

-- a command that ends so, whose answer is what is given of the file
pub completes : {A : Type 0} {Comes : Result A ErrorLine → List ℕ → Type 0} {v : DiskView} {k l : SinkView} (w : DiskView) (given : Option (List ℕ) → Result A ErrorLine) (name : List ℕ) (status : Status)
    → EndsBy Comes status k l
    → ((answer : Result A ErrorLine) (text : List ℕ) → Comes answer text → IfSome v.told (λ d. IsGivenBy (given (file d name)) answer))
    → ((answer : Result A ErrorLine) (text : List ℕ) → Comes answer text → answer ≡ Err errors.Disk → Rose v.faults w.faults)
    → EndsWell given name v w status k l
completes {A} {Comes} {v} {k} {l} w given name status e exact cause = λ good disk sink. go good disk sink e.said
  where
    go : HasGood given name v → (Rose v.faults w.faults → ⊥) → (Rose k.faults l.faults → ⊥) → Said e.text (status_by e.answer) status k l → (status ≡ statuses.Done) ⊎ (status ≡ statuses.Memory)
    go good disk sink (failed is rose some) = absurd (sink rose)
    go good disk sink (whole is gave) =
        let told : IsGivenBy (given (file good.state name)) e.answer = subst (λ t. IfSome t (λ d. IsGivenBy (given (file d name)) e.answer)) good.told (exact e.answer e.text e.comes) in
        elim (good_status (given (file good.state name)) e.answer good.value good.good told (λ failed. disk (cause e.answer e.text e.comes failed))) [
          | inl d ↦ inl (is ∙ d)
          | inr m ↦ inr (is ∙ m)
        ]
