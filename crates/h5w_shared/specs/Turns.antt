-- The rule of the table under the shared image, and what each step on its words tells.
-- The words are the ticket that is drawn next and the ticket that is served. The slot has the store, or is out with the seat that is served.
use Rattle.std.specs.Prelude.{◌≡◌, ◌⊎◌, ℕ, ◌<◌, ◌≤◌, ◌^◌, true, false, List, [], ◌∷◌, ◌++◌, ◌==◌, length, nat_lt, if◌then◌else◌, Option, Some, None, MatchBool}
use mathlib.Core.Option.{none, some}
use lib.ListN.{get_elem?}
use Rattle.atomic_table.specs.Table.{State, Me, Step}
use Rattle.h5w_model.specs.Images.{image}
use Rattle.h5w_model.specs.declared.piece.Write.{Write}
use Rattle.h5w_image.specs.Memory.{MemView}
use Rattle.h5w_shared.specs.declared.table.Knowledge.{Knowledge}
use Rattle.h5w_shared.specs.declared.table.Stage.{Stage}
use Rattle.h5w_shared.specs.declared.table.Stage.TheVariants.{Idle, Waiting, Serving}

-- the ticket word's last value: a seat that was shown it draws no more
abbrev pub last_ticket : ℕ
last_ticket = 2 ^ 63

-- the list begins with these pieces
abbrev pub StartsWith : List Write → List Write → Type 0
StartsWith writes front = (rest : List Write) × (writes ≡ front ++ rest)

-- the store's bytes are the image after its pieces, and none of its calls is to fail
abbrev pub Sound : MemView → Type 0
Sound m = (m.bytes ≡ image m.start m.history) × (m.failing ≡ [])

-- the seat has seen all pieces, and knows the room
abbrev pub Current : MemView → Knowledge → Type 0
Current m v = (v.seen ≡ m.history) × (v.pieces ≡ m.pieces) × (v.end ≡ m.end)

abbrev pub ticket_of : Stage → Option ℕ
ticket_of Idle = None
ticket_of (Waiting t) = Some t
ticket_of (Serving t) = Some t

-- a seat's ticket is not served yet, or is the one that is served, and then the seat knows the store
abbrev pub InStage : MemView → ℕ → ℕ → Knowledge → Stage → Type 0
InStage m ticket serving v Idle = Unit {0}
InStage m ticket serving v (Waiting t) = (serving ≤ t) × (t < ticket)
InStage m ticket serving v (Serving t) = (t ≡ serving) × (t < ticket) × Current m v

-- what is true of the seat with this number
pub record Knows (start : List ℕ) (m : MemView) (writer ticket serving seat : ℕ) (v : Knowledge) : Type 0 where
  pub begun : v.spent ≡ false → v.start ≡ start
  pub seen : StartsWith m.history v.seen
  pub told : StartsWith v.seen v.told
  pub stage : InStage m ticket serving v v.stage
  pub alone : v.writes ≡ true → (seat ≡ writer) × Current m v
  pub worn : v.worn ≡ true → ticket ≡ last_ticket

abbrev pub State' : Type 0
State' = State (Option MemView) Knowledge

-- no two seats have one ticket
abbrev pub Apart : List Knowledge → Type 0
Apart views =
    (i j t : ℕ) (v w : Knowledge) → get_elem? views i ≡ some v → get_elem? views j ≡ some w → ticket_of v.stage ≡ Some t → ticket_of w.stage ≡ Some t → i ≡ j

-- the store is at home, or out with a seat that is served
abbrev pub Placed : MemView → ℕ → State' → Type 0
Placed m serving s =
    (get_elem? s.homes 0 ≡ some (some (Some m)))
    ⊎ (j : ℕ) × (v : Knowledge) × (get_elem? s.views j ≡ some v) × (v.stage ≡ Serving serving) × (get_elem? s.homes 0 ≡ some none)

pub record Ruled (start : List ℕ) (s : State') : Type 0 where
  pub store : MemView
  pub writer : ℕ
  pub ticket : ℕ
  pub serving : ℕ
  pub begun : store.start ≡ start
  pub sound : Sound store
  pub words : s.words ≡ ticket ∷ serving ∷ []
  pub order : serving ≤ ticket
  pub bound : ticket ≤ last_ticket
  pub knows : (j : ℕ) (v : Knowledge) → get_elem? s.views j ≡ some v → Knows start store writer ticket serving j v
  pub apart : Apart s.views
  pub slot : Placed store serving s

-- ---- What seats know at the start, and as notes are made and met

abbrev pub opening : MemView → Knowledge
opening m = record {
  start = m.start;
  seen = [];
  told = [];
  stage = Idle;
  writes = true;
  spent = false;
  worn = false;
  pieces = m.pieces;
  end = m.end;
}

abbrev pub newcomer : Knowledge → Knowledge
newcomer v = record v { told = []; stage = Idle; writes = false; worn = false }

abbrev pub spent : Knowledge
spent = record {
  start = [];
  seen = [];
  told = [];
  stage = Idle;
  writes = false;
  spent = true;
  worn = false;
  pieces = 0;
  end = 0;
}

-- the longer list is seen and the shorter told of; a writer keeps its own
abbrev pub informed : Knowledge → Knowledge → Knowledge
informed v w =
    if v.writes then record v { told = w.seen }
    else if nat_lt (length v.seen) (length w.seen) then record v { seen = w.seen; told = v.seen }
    else record v { told = w.seen }

-- ---- What a step tells

abbrev pub Sat : Type 0
Sat = Me (Option MemView) Knowledge

abbrev pub At : Type 0
At = Step (Option MemView)

abbrev pub after_draw : ℕ → ℕ → Knowledge → Knowledge
after_draw t found v = if found == t then record v { stage = Waiting t } else if found == last_ticket then record v { worn = true } else v

abbrev pub drawn : At → Sat → ℕ → Sat → Type 0
drawn st m found m' = m' ≡ (after_draw st.first found m.0, m.1)

abbrev pub serving_with : ℕ → MemView → Knowledge → Knowledge
serving_with t x v = record v { stage = Serving t; seen = x.history; pieces = x.pieces; end = x.end }

-- the store as a seat finds it: what was seen begins its pieces, and a writer finds what it left
pub record FoundStore (v : Knowledge) (x : MemView) : Type 0 where
  pub sound : Sound x
  pub begun : x.start ≡ v.start
  pub grown : StartsWith x.history v.seen
  pub still : v.writes ≡ true → Current x v

abbrev pub looked : At → Sat → ℕ → Sat → Type 0
looked st m found m' =
    (t : ℕ) → m.0.stage ≡ Waiting t
    → MatchBool (found == t) ((x : MemView) × FoundStore m.0 x × (m' ≡ (serving_with t x m.0, (0, Some x) ∷ m.1))) (m' ≡ m)

abbrev pub told : At → Sat → ℕ → Sat → Type 0
told st m found m' = (m' ≡ m) × StartsWith m.0.seen m.0.told

abbrev pub finished : MemView → Knowledge → Knowledge
finished x v = record v { stage = Idle; seen = x.history; pieces = x.pieces; end = x.end }

abbrev pub ended : At → Sat → ℕ → Sat → Type 0
ended st m found m' = (x : MemView) → m.1 ≡ (0, Some x) ∷ [] → m' ≡ (finished x m.0, [])

-- what a seat may put back: the store as it found it, or, where it is the writer's, with more pieces and other room
pub record Returned (v : Knowledge) (x : MemView) : Type 0 where
  pub sound : Sound x
  pub begun : x.start ≡ v.start
  pub same : ((v.writes ≡ true) × StartsWith x.history v.seen) ⊎ Current x v
