-- What a reader of lines has before it, and what taking a line leaves.
use Rattle.std.specs.Prelude.{◌≡◌, ◌⊎◌, ℕ, ◌+◌, ◌<◌, ◌≤◌, Bool, false, List, [], ◌∷◌, ◌++◌, length, take, drop, if◌then◌else◌, MatchBool, Option, Some, IfSome, option_map, ℤ}
use Rattle.h5w_input.specs.Bytes.{Lacks}
use Rattle.h5w_input.specs.Lines.{last_line, line_limit, lines_of}
use Rattle.h5w_input.specs.Scripts.{number_line_of}
use Rattle.h5w_text.specs.Streams.{SourceView}
use Rattle.h5w_input.specs.declared.line.TextLine as lines
use Rattle.h5w_input.specs.declared.line.TextLine.TheVariants.{Whole, Long}
use Rattle.h5w_input.specs.declared.line.Next.{Next}
use Rattle.h5w_input.specs.declared.line.Next.TheVariants.{Line, Last, End}
use Rattle.h5w_input.specs.declared.line.Partial.{Partial}

-- the bytes that were taken from a source and not given yet, how many more may be taken, and the limit of all
pub record IntakeView : Type 0 where
  pub held : List ℕ
  pub more : ℕ
  pub limit : ℕ

-- what a reader of lines has before it
pub record LinesAhead : Type 0 where
  -- the bytes that are not given yet, where the source tells its own
  pub left : Option (List ℕ)
  -- how many of them may be given
  pub room : ℕ
  -- the most bytes that may be taken from the source in all
  pub limit : ℕ
  -- how often the source failed
  pub faults : ℕ
  -- the references that the source works through
  pub through : List ℕ

abbrev pub lines_ahead : SourceView → IntakeView → LinesAhead
lines_ahead s i = record {
  left = option_map (λ rest. i.held ++ rest) s.left;
  room = length i.held + i.more;
  limit = i.limit;
  faults = s.faults;
  through = s.through;
}

-- the lines that are left
abbrev pub lines_left : LinesAhead → Option (List (List ℕ))
lines_left v = option_map lines_of v.left

-- the line, or that it is longer than the limit
abbrev pub IsLine : lines.TextLine → List ℕ → Type 0
IsLine (Whole bytes) line = (bytes ≡ line) × (length line ≤ line_limit)
IsLine Long line = line_limit < length line

-- the outside is the same, but for more faults
pub record Stays (v w : LinesAhead) : Type 0 where
  pub limit : w.limit ≡ v.limit
  pub faults : v.faults ≤ w.faults
  pub through : w.through ≡ v.through

-- these bytes were given
pub record Passed (bytes : List ℕ) (v w : LinesAhead) : Type 0 where
  pub left : v.left ≡ option_map (λ rest. bytes ++ rest) w.left
  pub room : v.room ≡ w.room + length bytes
  pub stays : Stays v w

-- this line was given
pub record Given (line : List ℕ) (v w : LinesAhead) : Type 0 where
  pub lines : lines_left v ≡ option_map (λ ls. line ∷ ls) (lines_left w)
  pub room : w.room < v.room
  -- the line and its end are within the room
  pub within : IfSome v.left (λ left. (v.room < length left) × Lacks 10 (take v.room left) → ⊥)
  -- the line was passed over, and its end where it has one
  pub passed : Passed line v w ⊎ Passed (line ++ 10 ∷ []) v w

-- this line has an end, and was passed over with it
pub record IsWhole (line : List ℕ) (v w : LinesAhead) : Type 0 where
  pub lacks : Lacks 10 line
  pub passed : Passed (line ++ 10 ∷ []) v w

-- this line was taken with its end, and these are its values
pub record TakesNumbers (columns : ℕ) (values : List ℤ) (v w : LinesAhead) : Type 0 where
  pub line : List ℕ
  pub spelled : number_line_of columns line ≡ Some values
  pub given : Given line v w
  pub whole : IsWhole line v w

-- nothing was left
pub record Ended (v w : LinesAhead) : Type 0 where
  pub before : IfSome v.left (λ left. left ≡ [])
  pub now : IfSome w.left (λ left. left ≡ [])

-- the line under way has more bytes than may be given
abbrev pub IsOver : LinesAhead → Type 0
IsOver v = IfSome v.left (λ left. (v.room < length left) × Lacks 10 (take v.room left))

-- What the next step of a reader of lines is: a line that is ended, the last one that is not, or the end of the input. Behind
-- the last two nothing is left.
abbrev pub NextGives : Next → LinesAhead → LinesAhead → Type 0
NextGives (Line l) v w = (line : List ℕ) × IsLine l line × Given line v w × IsWhole line v w
NextGives (Last l) v w = (line : List ℕ) × IsLine l line × Given line v w × IfSome w.left (λ left. left ≡ [])
NextGives End v w = Ended v w

-- The line under way was given up: these bytes of it were taken, and its end is not among them. Nothing more is held, so that
-- the source stands right behind them.
pub record GivenUp (v w : LinesAhead) (held : List ℕ) : Type 0 where
  pub front : List ℕ
  pub lacks : Lacks 10 front
  pub passed : Passed front v w
  pub none : held ≡ []

-- The same where no more bytes may be given: the byte behind them was taken too.
pub record GivenUpOver (v w : LinesAhead) (held : List ℕ) : Type 0 where
  pub front : List ℕ
  pub lacks : Lacks 10 front
  pub all : length front ≡ v.room
  pub behind : ℕ
  pub left : v.left ≡ option_map (λ rest. (front ++ behind ∷ []) ++ rest) w.left
  pub room : w.room ≡ 0
  pub stays : Stays v w
  pub none : held ≡ []

-- what is kept of a line: its bytes, none once it is too long
abbrev pub Keeps : Partial → List ℕ → Type 0
Keeps p front = MatchBool p.long (line_limit < length front) ((p.bytes.items ≡ front) × (length front ≤ line_limit))

-- what these bytes are at the end of an input: its last line, where there are any
abbrev pub IsLast : Next → List ℕ → Type 0
IsLast (Line l) front = ⊥
IsLast (Last l) front = IsLine l front × (last_line front ≡ front ∷ [])
IsLast End front = front ≡ []

-- a piece of a line was taken, and the line's end if it is there
pub record Cut (piece : List ℕ) (ended : Bool) (i j : IntakeView) : Type 0 where
  pub lacks : Lacks 10 piece
  pub held : i.held ≡ (if ended then piece ++ 10 ∷ j.held else piece)
  pub rest : ended ≡ false → j.held ≡ []
  pub more : j.more ≡ i.more
  pub limit : j.limit ≡ i.limit

-- lines of one value each stand next, with these values, before these bytes
abbrev pub AreSingles : List ℤ → List ℕ → List ℕ → Type 0
AreSingles [] held behind = held ≡ behind
AreSingles (v ∷ vs) held behind =
    (line : List ℕ) × (middle : List ℕ) × Lacks 10 line × (number_line_of 1 line ≡ Some (v ∷ [])) × (held ≡ line ++ 10 ∷ middle) × AreSingles vs middle behind

-- they stand next among the held bytes, and so many bytes are theirs
pub record StandNext (values : List ℤ) (bytes : ℕ) (held : List ℕ) : Type 0 where
  pub within : bytes ≤ length held
  pub lines : AreSingles values held (drop bytes held)
