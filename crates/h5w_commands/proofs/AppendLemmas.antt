-- What an append leaves, by how many datasets it names.
use Rattle.std.proofs.Common.{◌≡◌, ℕ, Bool, List, [], ◌∷◌, Some, None, subst}
use Rattle.h5w_image.specs.View.{DiskView}
use Rattle.h5w_text.specs.Errors.{error_text}
use Rattle.h5w_text.specs.Says.{Said}
use Rattle.h5w_text.specs.Streams.{SourceView, SinkView}
use Rattle.h5w_text.specs.declared.error.ErrorLine.TheVariants as errors
use Rattle.h5w_text.specs.declared.status.Status.{Status}
use Rattle.h5w_text.specs.declared.status.Status.TheVariants as statuses
use Rattle.h5w_appending.specs.Appends.{AppendEnds}
use Rattle.h5w_appending.proofs.TellLemmas.{tells_end}
use Rattle.h5w_several_appending.specs.Tells.{SeveralEnds}
use Rattle.h5w_several_appending.proofs.OuterLemmas.{several_tells_end}
use Rattle.h5w_several_open.specs.declared.beginning.Beginning.{Beginning}
use Rattle.h5w_commands.specs.Appending.{AppendTells, AppendTellsInside, AppendTellsWhole, only_of}
use Rattle.h5w_commands.proofs.AppendEndLemmas.{appends_nothing, appends_whole}
use Rattle.h5w_commands.proofs.SeveralEndLemmas.{several_nothing, several_whole}

-- memory was wanting before the file was looked at
pub none_appended : (by : Beginning) (s : SourceView) (v : DiskView) (k l : SinkView) (file : List ℕ) (names : List (List ℕ)) (limit budget : ℕ) (keeps : Bool) (status : Status) → Said (error_text errors.Memory) statuses.Memory status k l
    → AppendTellsInside by file names limit budget keeps s s v v status k l
none_appended by s v k l file [] limit budget keeps status said = several_nothing file [] limit status said
none_appended by s v k l file (name ∷ []) limit budget keeps status said = appends_nothing file name limit budget keeps status said
none_appended by s v k l file (name ∷ other ∷ names) limit budget keeps status said = several_nothing file (name ∷ other ∷ names) limit status said

pub append_told : (by : Beginning) (s t : SourceView) (k l : SinkView) (v w : DiskView) (file : List ℕ) (names : List (List ℕ)) (limit budget : ℕ) (keeps : Bool) (status : Status) → AppendTellsInside by file names limit budget keeps s t v w status k l
    → AppendTells by file names limit s t v w status k l
append_told by s t k l v w file [] limit budget keeps status told = several_tells_end file [] limit status told
append_told by s t k l v w file (name ∷ []) limit budget keeps status told = tells_end file name limit budget keeps status told
append_told by s t k l v w file (name ∷ other ∷ names) limit budget keeps status told = several_tells_end file (name ∷ other ∷ names) limit status told

pub append_whole : (by : Beginning) (s t : SourceView) (k l : SinkView) (v w : DiskView) (file : List ℕ) (names : List (List ℕ)) (limit budget : ℕ) (keeps : Bool) (status : Status) → AppendTellsInside by file names limit budget keeps s t v w status k l
    → AppendTellsWhole by file names status s t k l v w
append_whole by s t k l v w file [] limit budget keeps status told = several_whole file [] limit status told
append_whole by s t k l v w file (name ∷ []) limit budget keeps status told = appends_whole file name limit budget keeps status told
append_whole by s t k l v w file (name ∷ other ∷ names) limit budget keeps status told = several_whole file (name ∷ other ∷ names) limit status told

-- one name
pub only_told : (by : Beginning) (s t : SourceView) (k l : SinkView) (v w : DiskView) (file : List ℕ) (names : List (List ℕ)) (name : List ℕ) (limit budget : ℕ) (keeps : Bool) (status : Status) → Some name ≡ only_of names
    → AppendEnds by file name limit budget keeps s t v w status k l → AppendTellsInside by file names limit budget keeps s t v w status k l
only_told by s t k l v w file [] name limit budget keeps status is told = absurd (cc)
only_told by s t k l v w file (x ∷ []) name limit budget keeps status is told =
    let same : name ≡ x = cc in subst (λ (y : List ℕ). AppendEnds by file y limit budget keeps s t v w status k l) same told
only_told by s t k l v w file (x ∷ y ∷ names) name limit budget keeps status is told = absurd (cc)

-- several
pub several_told : (by : Beginning) (s t : SourceView) (k l : SinkView) (v w : DiskView) (file : List ℕ) (names : List (List ℕ)) (limit budget : ℕ) (keeps : Bool) (status : Status) → None ≡ only_of names
    → SeveralEnds by file names limit s t v w status k l → AppendTellsInside by file names limit budget keeps s t v w status k l
several_told by s t k l v w file [] limit budget keeps status is told = told
several_told by s t k l v w file (x ∷ []) limit budget keeps status is told = absurd (cc)
several_told by s t k l v w file (x ∷ y ∷ names) limit budget keeps status is told = told
