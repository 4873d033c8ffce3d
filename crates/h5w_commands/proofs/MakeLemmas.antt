-- How the making of a file in memory ends.
use Rattle.std.proofs.Common.{◌≡◌, ◌⊎◌, ℕ, ◌∷◌, ◌++◌, List, [], Result, Ok, Err, refl, ap, ◌∙◌, inl, inr}
use Rattle.std.specs.Prelude.{codes, flat_map}
use Rattle.h5w_model.specs.Causes.{Rose}
use Rattle.h5w_text.specs.Errors.{error_text}
use Rattle.h5w_text.specs.Replies.{spaced}
use Rattle.h5w_text.specs.Says.{Said, whole, failed}
use Rattle.h5w_text.specs.Statuses.{status_of}
use Rattle.h5w_text.specs.Streams.{SinkView}
use Rattle.h5w_text.specs.Table.{numbers_text}
use Rattle.h5w_text.specs.declared.error.ErrorLine.{ErrorLine}
use Rattle.h5w_text.specs.declared.error.ErrorLine.TheVariants as errors
use Rattle.h5w_text.specs.declared.status.Status.{Status}
use Rattle.h5w_text.specs.declared.status.Status.TheVariants as statuses
use Rattle.h5w_batches.proofs.AnswerLemmas.{joined}
use Rattle.h5w_files.specs.Ends.{status_by}
use Rattle.h5w_make.specs.Makes.{IsMade}
use Rattle.h5w_make.specs.declared.made.Made.{Made}
use Rattle.h5w_files.proofs.CheckLemmas.{part}
use Rattle.h5w_commands.specs.Makes.{MakeEnds, MakeEndsWell, MakesTo, made_line}

-- ---- Its line

-- the four parts of the line
pub made_parts : (out a b c d : List ℕ) (made : Made) → d ≡ c ++ numbers_text (codes " blocks") (made.blocks ∷ []) → c ≡ b ++ (codes " pieces" ++ flat_map spaced (made.pieces ∷ []))
    → b ≡ a ++ (codes " sum" ++ flat_map spaced (made.sum ∷ [])) → a ≡ out ++ (codes "rows" ++ flat_map spaced (made.rows ∷ [])) → out ≡ [] → d ≡ made_line made
made_parts out a b c d made pd pc pb pa none =
    let rows : List ℕ = codes "rows" ++ spaced made.rows in
    let sum : List ℕ = codes " sum" ++ spaced made.sum in
    let pieces : List ℕ = codes " pieces" ++ spaced made.pieces in
    let blocks : List ℕ = numbers_text (codes " blocks") (made.blocks ∷ []) in
    let one = part out a (codes "rows") made.rows pa in
    let two = joined out a b rows sum one (part a b (codes " sum") made.sum pb) in
    let three = joined out b c (rows ++ sum) pieces two (part b c (codes " pieces") made.pieces pc) in
    joined out c d (rows ++ sum ++ pieces) blocks three pd ∙ ap (λ l. l ++ made_line made) none

-- ---- Its end

pub makes_done : {k l : SinkView} (n seed : ℕ) (made : Made) (line bytes : List ℕ) (status : Status) → IsMade n seed made → line ≡ made_line made → bytes ≡ line → Said bytes statuses.Done status k l
    → MakeEnds n seed status k l
makes_done n seed made line bytes status is tells same said = record { answer = Ok made; text = bytes; comes = (is, same ∙ tells); said = said }

pub makes_nothing : {k l : SinkView} (n seed : ℕ) (status : Status) → Said (error_text errors.Memory) statuses.Memory status k l → MakeEnds n seed status k l
makes_nothing n seed status said = record { answer = Err errors.Memory; text = error_text errors.Memory; comes = (refl, refl); said = said }

told : (n seed : ℕ) (answer : Result Made ErrorLine) → MakesTo n seed answer → (status_by answer ≡ statuses.Done) ⊎ (status_by answer ≡ statuses.Memory)
told n seed (Ok made) m = inl refl
told n seed (Err e) m = inr (ap status_of m)

pub makes_whole : {k l : SinkView} (n seed : ℕ) (status : Status) → MakeEnds n seed status k l → MakeEndsWell status k l
makes_whole {k} {l} n seed status e = λ sink. go sink e.said
  where
    go : (Rose k.faults l.faults → ⊥) → Said e.text (status_by e.answer) status k l → (status ≡ statuses.Done) ⊎ (status ≡ statuses.Memory)
    go sink (failed is rose some) = absurd (sink rose)
    go sink (whole is gave) =
        elim (told n seed e.answer e.comes.0) [
          | inl d ↦ inl (is ∙ d)
          | inr m ↦ inr (is ∙ m)
        ]
