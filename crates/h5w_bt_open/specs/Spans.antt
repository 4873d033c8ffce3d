-- Keys from one on, up to another: those that lead to a node.
use Rattle.std.specs.Prelude.{◌≡◌, suc, ◌<◌, ◌^◌, true, false, List, [], ◌∷◌, nat_lt, if◌then◌else◌, Option, Some, None}
use Rattle.h5w_model.specs.declared.cell.Key.{Key}
use Rattle.h5w_model.specs.Numbers.{undefined}
use Rattle.h5w_model.specs.Tables.{key_below}
use Rattle.h5w_bt.specs.declared.records.Record.{Record}
use Rattle.h5w_bt_open.specs.declared.span.Span.{Span}

-- each of its two numbers fits eight bytes
pub record IsKey (key : Key) : Type 0 where
  pub row : key.i < 2 ^ 64
  pub column : key.j < 2 ^ 64

-- from a key on; from none, there is no such key
abbrev pub IsFrom : Option Key → Key → Type 0
IsFrom None key = ⊥
IsFrom (Some low) key = key_below key low ≡ false

-- up to a key; without one, each is
abbrev pub IsUpTo : Option Key → Key → Type 0
IsUpTo None key = Unit {0}
IsUpTo (Some high) key = key_below key high ≡ true

-- the key leads there
abbrev pub Leads : Option Span → Key → Type 0
Leads None key = ⊥
Leads (Some s) key = (key_below key s.from ≡ false) × IsUpTo s.to key

-- keys of which there is one: the first leads there
pub record IsProper (s : Span) : Type 0 where
  pub fits : IsKey s.from
  pub some : IsUpTo s.to s.from

-- the next key, none after the greatest
abbrev pub next_key : Key → Option Key
next_key key =
    if nat_lt key.j undefined then Some (record { i = key.i; j = suc key.j })
    else if nat_lt key.i undefined then Some (record { i = suc key.i; j = 0 })
    else None

-- the least key behind a key, of those from another on
abbrev pub greater : Key → Option Key → Option Key
greater low None = None
greater low (Some next) = Some (if key_below low next then next else low)

abbrev pub after : Option Key → Key → Option Key
after None key = None
after (Some low) key = greater low (next_key key)

-- up to the lesser of two
abbrev pub before : Option Key → Key → Option Key
before None key = Some key
before (Some high) key = Some (if key_below key high then key else high)

-- the keys between: none where there are none
abbrev pub span_of : Option Key → Option Key → Option Span
span_of None high = None
span_of (Some low) None = Some (record { from = low; to = None })
span_of (Some low) (Some high) = if key_below low high then Some (record { from = low; to = Some high }) else None

abbrev pub low_of : Option Span → Option Key
low_of None = None
low_of (Some s) = Some s.from

abbrev pub high_of : Option Span → Option Key
high_of None = None
high_of (Some s) = s.to

-- the keys that lead to the first of a node's children, before its records, and the least key that leads on
abbrev pub span_here : Option Key → Option Key → List Record → Option Span
span_here low high [] = span_of low high
span_here low high (r ∷ rs) = span_of low (before high r.key)

abbrev pub low_behind : Option Key → List Record → Option Key
low_behind low [] = low
low_behind low (r ∷ rs) = after low r.key

abbrev pub rest : List Record → List Record
rest [] = []
rest (r ∷ rs) = rs
