-- The texts of a reader's refusals, without the byte 0a that ends a line. Sums and signatures are told in hexadecimal
-- digits, all else in decimal.
use Rattle.std.specs.Prelude.{ℕ, zero, suc, ◌+◌, ◌/◌, ◌%◌, List, [], ◌∷◌, ◌++◌, flat_map, nat_lt, if◌then◌else◌, codes}
use Rattle.h5w_model.specs.declared.refusal.Sums.{Sums}
use Rattle.h5w_model.specs.declared.refusal.BlockFault.{BlockFault}
use Rattle.h5w_model.specs.declared.refusal.BlockFault.TheVariants as faults
use Rattle.h5w_model.specs.declared.refusal.SuperError.{SuperError}
use Rattle.h5w_model.specs.declared.refusal.SuperError.TheVariants as supers
use Rattle.h5w_model.specs.declared.refusal.HeaderError.{HeaderError}
use Rattle.h5w_model.specs.declared.refusal.HeaderError.TheVariants as headers
use Rattle.h5w_model.specs.declared.refusal.LinkError.{LinkError}
use Rattle.h5w_model.specs.declared.refusal.LinkError.TheVariants as links
use Rattle.h5w_model.specs.declared.refusal.ReadError.{ReadError}
use Rattle.h5w_model.specs.declared.refusal.ReadError.TheVariants as reads
use Rattle.h5w_text.specs.Replies.{spaced}

-- a digit of 0 to 15: 0 to 9, a to f
abbrev pub hex_digit : ℕ → ℕ
hex_digit n = if nat_lt n 10 then 48 + n else 87 + n

-- the last so many hexadecimal digits of a number
abbrev pub hex_digits : ℕ → ℕ → List ℕ
hex_digits zero n = []
hex_digits (suc k) n = hex_digits k (n / 16) ++ hex_digit (n % 16) ∷ []

-- a space and a word of four bytes behind it
abbrev pub spaced_hex : ℕ → List ℕ
spaced_hex n = 32 ∷ hex_digits 8 n

abbrev pub sums_words : Sums → List ℕ
sums_words s = codes " sum" ++ spaced_hex s.stored ++ spaced_hex s.computed

abbrev pub fault_words : BlockFault → List ℕ
fault_words (faults.Cut need got) = codes " cut" ++ spaced need ++ spaced got
fault_words (faults.Signature found) = codes " signature " ++ flat_map (hex_digits 2) found
fault_words (faults.Sum sums) = sums_words sums
fault_words (faults.Field at found) = codes " field" ++ spaced at ++ spaced found
fault_words faults.OutOfMemory = codes " memory"

abbrev pub super_words : SuperError → List ℕ
super_words supers.NotHdf5 = codes " nothdf5"
super_words (supers.Short got) = codes " cut 48" ++ spaced got
super_words (supers.Version n) = codes " version" ++ spaced n
super_words (supers.Sizes o l) = codes " sizes" ++ spaced o ++ spaced l
super_words (supers.Sum sums) = sums_words sums
super_words (supers.Base at) = codes " base" ++ spaced at
super_words (supers.Extension at) = codes " extension" ++ spaced at

abbrev pub header_words : HeaderError → List ℕ
header_words (headers.Short need got) = codes " cut" ++ spaced need ++ spaced got
header_words headers.Signature = codes " signature"
header_words (headers.Version n) = codes " version" ++ spaced n
header_words (headers.Sum sums) = sums_words sums
header_words (headers.Overrun at) = codes " overrun" ++ spaced at
header_words (headers.Unknown kind) = codes " unknown" ++ spaced kind
header_words headers.Continuations = codes " continuations"
header_words headers.OutOfMemory = codes " memory"

abbrev pub link_words : LinkError → List ℕ
link_words links.Dense = codes " dense"
link_words (links.Malformed at) = codes " malformed" ++ spaced at
link_words links.NoSuchName = codes " none"
link_words (links.NotHard kind) = codes " kind" ++ spaced kind
link_words links.OutOfMemory = codes " memory"

abbrev pub refusal_words : ReadError → List ℕ
refusal_words reads.NotHdf5 = codes "error nothdf5"
refusal_words (reads.Super e) = codes "error super" ++ super_words e
refusal_words (reads.NotSwmr flags) = codes "error flags" ++ spaced flags
refusal_words (reads.Header at e) = codes "error header" ++ spaced at ++ header_words e
refusal_words (reads.Link e) = codes "error link" ++ link_words e
refusal_words (reads.Unsupported n) = codes "error unsupported" ++ spaced n.0
refusal_words (reads.TooManyChunks needed limit) = codes "error toomanychunks" ++ spaced needed ++ spaced limit
refusal_words (reads.Damaged at fault) = codes "error damaged" ++ spaced at ++ fault_words fault
refusal_words (reads.Again attempts at first last) = codes "error again" ++ spaced attempts ++ spaced at ++ spaced first ++ spaced last
refusal_words (reads.Shrunk seen found) = codes "error shrunk" ++ spaced seen ++ spaced found
refusal_words reads.OutOfMemory = codes "error memory"
