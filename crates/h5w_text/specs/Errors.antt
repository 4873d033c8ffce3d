-- The texts of error lines; each is a line.
use Rattle.std.specs.Prelude.{ℕ, Bool, true, false, List, [], ◌∷◌, ◌++◌, codes}
use Rattle.h5w_text.specs.Replies.{spaced, spaced_value}
use Rattle.h5w_text.specs.Refusals.{refusal_words}
use Rattle.h5w_text.specs.declared.error.ErrorLine.{ErrorLine}
use Rattle.h5w_text.specs.declared.error.ErrorLine.TheVariants.{Usage, Missing, Exists, Read, Finding, Overlap, Cut, WriterVersion, Layout, ChunkBytes, NoColumns, Same, FullChunks, FullSpace, Deep, Line, Range, Input, Disk, Image, Source, Memory}

-- the text of an error, without the byte 0a that ends it
abbrev pub error_words : ErrorLine → List ℕ
error_words Usage = codes "error usage"
error_words Missing = codes "error missing"
error_words Exists = codes "error exists"
error_words (Read e) = refusal_words e
error_words (Finding kind at) = codes "finding" ++ spaced kind ++ spaced at
error_words (Overlap at len other other_len) = codes "finding 19" ++ spaced at ++ spaced len ++ spaced other ++ spaced other_len
error_words (Cut end size) = codes "error cut" ++ spaced end ++ spaced size
error_words (WriterVersion version) = codes "error writer version" ++ spaced version
error_words Layout = codes "error writer layout"
error_words (ChunkBytes bytes) = codes "error writer chunk" ++ spaced bytes
error_words NoColumns = codes "error writer columns"
error_words (Same first second) = codes "error writer same" ++ spaced first ++ spaced second
error_words (FullChunks chunks limit) = codes "error full chunks" ++ spaced chunks ++ spaced limit
error_words (FullSpace at size limit) = codes "error full space" ++ spaced at ++ spaced size ++ spaced limit
error_words Deep = codes "error deep"
error_words (Line line) = codes "error line" ++ spaced line
error_words (Range line index value) = codes "error range" ++ spaced line ++ spaced index ++ spaced_value value
error_words (Input limit) = codes "error input" ++ spaced limit
error_words Disk = codes "error disk"
error_words Image = codes "error image"
error_words Source = codes "error source"
error_words Memory = codes "error memory"

abbrev pub error_text : ErrorLine → List ℕ
error_text error = error_words error ++ 10 ∷ []

-- the line tells no more than the error's kind
abbrev pub is_fixed : ErrorLine → Bool
is_fixed Usage = true
is_fixed Missing = true
is_fixed Exists = true
is_fixed Layout = true
is_fixed NoColumns = true
is_fixed Deep = true
is_fixed Disk = true
is_fixed Image = true
is_fixed Source = true
is_fixed Memory = true
is_fixed error = false
