-- Another writer takes the machine's file over.
use Rattle.std.proofs.Common.{◌≡◌, ℕ, suc, ◌+◌, ◌≤◌, ◌^◌, Bool, true, false, List, [], ◌∷◌, ◌++◌, get_or, length, map, take, Some, Result, refl, sym, ap, subst, ◌∙◌, arith}
use Rattle.std.specs.Prelude.{slice_get, IfErr, None}
use Rattle.std.specs.List.{All, AllByRecursion}
use Rattle.std.proofs.lemmas.List.{length-map, map_more}
use Rattle.std.proofs.lemmas.List.Elements.{All-cons, All-nil}
use Rattle.std.proofs.lemmas.Option.{slice_get-get_or, slice_get_within}
use Rattle.h5w_model.specs.Images.{image}
use Rattle.h5w_model.specs.Logs.{Cutting}
use Rattle.h5w_model.specs.Messages.{IntTypeFields}
use Rattle.h5w_model.specs.Relations.{AllPaired}
use Rattle.h5w_model.specs.Several.{FileLog, pieces_in, takes_over}
use Rattle.h5w_model.specs.declared.piece.Write.{Write}
use Rattle.h5w_model.specs.declared.root.Super.{Super}
use Rattle.h5w_image.specs.Memory.{MemView}
use Rattle.h5w_image.specs.View.{Same}
use Rattle.h5w_steady.specs.Steady.{steady}
use Rattle.h5w_opening.specs.Errors.{refusal_of}
use Rattle.h5w_opening.specs.declared.error.OpenError.{OpenError}
use Rattle.h5w_script_laws.specs.Polling.{Polling}
use Rattle.h5w_creation_laws.specs.CreatedFiles.{CreatedFile, IsCreatable}
use Rattle.h5w_reader.specs.Readers.{reader_rules}
use Rattle.h5w_writer.specs.Sessions.{Session}
use Rattle.h5w_writer_laws.proofs.PieceLemmas.{some_is}
use Rattle.h5w_several_writer_laws.specs.Sessions.{AreParts, AreSessions, Sessions, all_pending}
use Rattle.h5w_several_writer_laws.specs.Standing.{and_then}
use Rattle.h5w_several_writer_laws.specs.Valid.{names_in}
use Rattle.h5w_several_writer_laws.proofs.FlushAllLemmas.{back_nil, front_nil}
use Rattle.h5w_several_writer_laws.proofs.GiveLemmas.{standing_all}
use Rattle.h5w_several_writer.specs.Refusals.{HasRoomForAll}
use Rattle.h5w_several_open.specs.Sessions.{BeginsWith}
use Rattle.h5w_several_open.specs.Taken.{HasTakenAll, IsTakenAll, IsTakenAnswer}
use Rattle.h5w_front_laws.specs.Fronts.{IsLeftOpen}
use Rattle.h5w_takeover_laws.specs.Created.{IsCreatedFor}
use Rattle.h5w_takeover_laws.specs.Several.{CarriesOn, IsAlike}
use Rattle.h5w_takeover_laws.proofs.AlikeLemmas.{stays_alike}
use Rattle.h5w_takeover_laws.proofs.CarryAllLemmas.{carries_all}
use Rattle.h5w_takeover_laws.proofs.CreatedLemmas.{answers_all}
use Rattle.h5w_several_script_laws.specs.Scripts.{FileState, SetState, flushed_of, goes_on, settled_in, settled_set, takes, took_over}
use Rattle.h5w_several_script_laws.specs.Polled.{Places}
use Rattle.h5w_several_world_laws.specs.Takeovers.{ArePartsTaken, IsTakenFrom}
use Rattle.h5w_several_world_laws.specs.Worlds.{HaveOneFileLog, polling_in}
use Rattle.h5w_several_world_laws.proofs.StepLemmas.{begun_there, states_length, tells_of}
use Rattle.h5w_several_world_laws.proofs.TakenLemmas.{going_steps, taken_log, taken_steps}
use Rattle.h5w_several_core.specs.Places.{place_at}
use Rattle.h5w_several_core.specs.Worlds.{FileSteps, HasFront, HasOneBudget, HoldsAll, SeveralView, StandsForFile, pollings_of}
use Rattle.h5w_several_core.specs.declared.events.FileEvent.TheVariants as events
use Rattle.h5w_several_core.specs.declared.places.Place.{Place}
use Rattle.h5w_several_core.proofs.FrontLemmas.{front_moved, front_taken}
use Rattle.h5w_several_core.proofs.KeptLemmas.{kept_by, some_parts, told_budgets}
use Rattle.h5w_several_core.proofs.MachineLemmas.{StepsOn, file_steps, same_logs, steps_hold, world_of}
use Rattle.h5w_several_core.proofs.RuleLemmas.{polls_in}

-- ---- The writer was not stopped

going_done : (S : Sessions) (m : MemView) (attempts : ℕ) (ps : List Place) → S.stopped ≡ false → FileSteps (world_of S m attempts ps) events.Takeover goes_on (world_of S m attempts ps)
going_done S m attempts ps going =
    file_steps S S m m attempts ps ps events.Takeover goes_on refl (λ log stood. stood)
    (λ F h file used.
    let s = going_steps S attempts (place_at ps) F h going in
    record { allowed = s.allowed; fits = s.fits; log_is = refl })

-- ---- Rows

abbrev pub rows_in : List Session → List ℕ
rows_in ss = map (λ (s : Session). s.committed) ss

rows_are : (ss : List Session) (xs : List SetState) → length xs ≡ length ss → ((d : ℕ) (s : Session) (x : SetState) → slice_get ss d ≡ Some s → slice_get xs d ≡ Some x → s.committed ≡ x.state.flushed) → rows_in ss ≡ flushed_of xs
rows_are [] [] count each = refl
rows_are [] (x ∷ xs) count each = absurd (omega (arith, count))
rows_are (s ∷ ss) [] count each = absurd (omega (arith, count))
rows_are (s ∷ ss) (x ∷ xs) count each =
    let own = each 0 s x refl refl in
    let rest = rows_are ss xs (omega (arith, count)) (λ d t y at there. each (suc d) t y at there) in
    λ i. own i ∷ rest i

-- what is told of the parts up to one, and of that
pub told_more : {T : Type 0} (f : Session → T) (ss : List Session) (d : ℕ) (s : Session) → slice_get ss d ≡ Some s → map f (take d ss) ++ f s ∷ [] ≡ map f (take (d + 1) ss)
told_more f ss d s at =
    let inside = slice_get_within ss d s at in
    let same : get_or ss d s ≡ s = some_is (get_or ss d s) s (sym (slice_get-get_or ss d s inside) ∙ at) in
    ap (λ (t : Session). map f (take d ss) ++ f t ∷ []) (sym same) ∙ sym (map_more f ss d s inside)

-- the rows that are in the file are those that are flushed in each state that fits
pub committed_all : (S : Sessions) (attempts : ℕ) (ps : Places) (F : FileState) → HaveOneFileLog S attempts ps F → rows_in S.parts ≡ flushed_of F.sets
committed_all S attempts ps F h =
    rows_are S.parts F.sets (states_length S.places.limit attempts 0 S.parts F.sets h.state.states)
    (λ d s x at there.
    let t = tells_of S attempts ps F h.log h.state h.stands d x there in
    let same : t.part ≡ s = some_is t.part s (sym t.part_is ∙ at) in
    ap (λ (v : Session). v.committed) (sym same) ∙ sym t.rows)

pub settled_rows : (xs : List SetState) → flushed_of (map settled_set xs) ≡ flushed_of xs
settled_rows [] = refl
settled_rows (x ∷ xs) = ap (λ (ns : List ℕ). x.state.flushed ∷ ns) (settled_rows xs)

-- ---- The parts

-- what is polled for in a dataset, by its name and by what its rules say of it
abbrev polled_by : (limit attempts : ℕ) → List ℕ → Cutting → IntTypeFields → (chunks budget : ℕ) → Polling
polled_by limit attempts name cutting t chunks budget =
    let by = reader_rules name attempts in
    record {
      name = name;
      limits = by.limits;
      keeps = by.keeps;
      rules = record { cutting = cutting; int_type = t; chunk_limit = chunks; space_limit = limit; budget = budget; attempts = attempts };
    }

pub alike_polls : (s u : Session) → u.name ≡ s.name → u.budget ≡ s.budget → IsAlike s u → (limit attempts : ℕ) → polling_in limit attempts u ≡ polling_in limit attempts s
alike_polls s u name budget x limit attempts =
    let cutting = x.cutting in
    let t = x.int_type in
    let chunks = x.chunk_limit in
    λ i. polled_by limit attempts (name i) (cutting i) (t i) (chunks i) (budget i)

are_taken : (budget : ℕ) (root : Super) (ss uu : List Session) → AllPaired (BeginsWith budget root) (names_in ss) uu → AllByRecursion (λ (s : Session). s.budget ≡ budget) ss → all_pending uu ≡ []
    → ((d : ℕ) (s u : Session) → slice_get ss d ≡ Some s → slice_get uu d ≡ Some u → u.name ≡ s.name → IsAlike s u) → ArePartsTaken ss uu
are_taken budget root [] [] begins budgets idle alike = tt
are_taken budget root [] (u ∷ uu) begins budgets idle alike = absurd begins
are_taken budget root (s ∷ ss) [] begins budgets idle alike = absurd begins
are_taken budget root (s ∷ ss) (u ∷ uu) begins budgets idle alike =
    let x = begins.0 in (
      record {
        polling = alike_polls s u x.named (x.budgeted ∙ sym budgets.0) (alike 0 s u refl refl x.named);
        pending = front_nil u.pending (all_pending uu) idle;
        flushing = x.flushing;
      },
      are_taken budget root ss uu begins.1 budgets.1 (back_nil u.pending (all_pending uu) idle) (λ d t v at there named. alike (suc d) t v at there named),
    )

taken_polls : (limit attempts : ℕ) (ss uu : List Session) → ArePartsTaken ss uu → polls_in limit attempts uu ≡ polls_in limit attempts ss
taken_polls limit attempts [] [] h = refl
taken_polls limit attempts [] (u ∷ uu) h = absurd h
taken_polls limit attempts (s ∷ ss) [] h = absurd h
taken_polls limit attempts (s ∷ ss) (u ∷ uu) h =
    let own = h.0.polling limit attempts in
    let rest = taken_polls limit attempts ss uu h.1 in
    λ i. own i ∷ rest i

-- ---- By what the file is taken over

-- the budget of a session is one that a session may have
budget_bounds : (S : Sessions) (ss : List Session) (budget : ℕ) → AreParts S ss → AllByRecursion (λ (s : Session). s.budget ≡ budget) ss → 1 ≤ length ss → (1024 ≤ budget) × (budget ≤ 2 ^ 30)
budget_bounds S [] budget are budgets some = absurd (omega (arith, some))
budget_bounds S (s ∷ ss) budget are budgets some =
    subst (λ (b : ℕ). (1024 ≤ b) × (b ≤ 2 ^ 30)) budgets.0 (are.0.session.budget_low, are.0.session.budget_high)

abbrev pub Fits : List ℕ → Type 0
Fits name = length name ≤ 512

-- datasets have the names of files that can be created
names_fit : (fs : List CreatedFile) (ss : List Session) → length fs ≡ length ss → AllByRecursion IsCreatable fs → ((d : ℕ) (f : CreatedFile) (s : Session) → slice_get fs d ≡ Some f → slice_get ss d ≡ Some s → s.name ≡ f.name) → All Fits (names_in ss)
names_fit [] [] count can named = All-nil Fits
names_fit [] (s ∷ ss) count can named = absurd (omega (arith, count))
names_fit (f ∷ fs) [] count can named = absurd (omega (arith, count))
names_fit (f ∷ fs) (s ∷ ss) count can named =
    let few = can.0.name_bound in
    let same = ap length (named 0 f s refl refl) in
    All-cons Fits s.name (names_in ss) (omega (arith, few, same)) (names_fit fs ss (omega (arith, count)) can.1 (λ d g t at there. named (suc d) g t at there))

-- what a takeover by these names asks of an image of these bytes
pub record MayTake (b : List ℕ) (names : List (List ℕ)) (limit budget : ℕ) : Type 0 where
  pub some : 1 ≤ length names
  pub few : length names ≤ 8
  pub short : All (λ (name : List ℕ). length name ≤ 512) names
  pub low : 1024 ≤ limit
  pub high : limit ≤ 2 ^ 40
  pub budgets : (1024 ≤ budget) × (budget ≤ 2 ^ 30)
  pub unrefused : (r : Result Sessions OpenError) → IsTakenAnswer b (length b) names limit budget r → IfErr r (λ e. refusal_of e ≡ None)

module _ (S : Sessions) (m : MemView) (attempts : ℕ) (ps : List Place) (h : HoldsAll S m attempts ps) where
  abbrev have : HaveOneFileLog S attempts (place_at ps) h.script
  have = h.fits.have

  sets_count : length have.log.sets ≡ length S.parts
  sets_count = standing_all.sets S have.log have.stands

  -- each dataset has the name of its file
  file_name : (d : ℕ) (f : CreatedFile) (s : Session) → slice_get have.new.files d ≡ Some f → slice_get S.parts d ≡ Some s → s.name ≡ f.name
  file_name d f s at there =
      let inside = slice_get_within S.parts d s there in
      let b = begun_there have.log.sets d (omega (arith, inside, sets_count)) in
      let own = have.state.own d b.0 s b.1 there in
      ap (λ (g : Polling). g.name) (sym own.0) ∙ have.new.names d f at

  created_for : IsCreatedFor S.parts have.log
  created_for = record {
    files = have.new.files;
    are = have.new.are;
    start = have.new.start;
    first = have.new.first;
    later = have.new.later;
    pieces = have.new.pieces;
    sets = have.new.sets;
    names = file_name;
  }

  names_short : All (λ (name : List ℕ). length name ≤ 512) (names_in S.parts)
  names_short = names_fit have.new.files S.parts (sym have.new.sets ∙ sets_count) have.new.are.each file_name

  names_many : length (names_in S.parts) ≡ length S.parts
  names_many = length-map S.parts (λ (s : Session). s.name)

  -- the bytes are those of each log
  now_is : (log : FileLog) → StandsForFile (world_of S m attempts ps) log → m.bytes ≡ image log.start (pieces_in log.events)
  now_is log st = st.bytes ∙ ap (λ (b : List ℕ). image b (pieces_in log.events)) (sym st.start)

  -- nothing is refused
  unrefused_all : (limit budget : ℕ) (r : Result Sessions OpenError) → AreSessions S → IsTakenAnswer m.bytes (length m.bytes) (names_in S.parts) limit budget r → IfErr r (λ e. refusal_of e ≡ None)
  unrefused_all limit budget r sessions answer =
      let is = now_is have.log h.fits.file in
      answers_all S have.log limit budget r have.stands sessions created_for (subst IsLeftOpen is h.front.begins)
      (subst (λ (b : List ℕ). IsTakenAnswer b (length b) (names_in S.parts) limit budget r) is answer)

  -- so the session may be taken over by its names
  pub may_take : (limit budget : ℕ) (names : List (List ℕ)) → HasOneBudget S → limit ≡ S.places.limit → ((s : Session) → slice_get S.parts 0 ≡ Some s → budget ≡ s.budget) → AreSessions S → names ≡ names_in S.parts → MayTake m.bytes names limit budget
  may_take limit budget names kept limited budgeted sessions is =
      subst (λ (ns : List (List ℕ)). MayTake m.bytes ns limit budget) (sym is)
      (let some = sessions.some in
      let few = sessions.few in
      record {
        some = omega (arith, some, names_many);
        few = omega (arith, few, names_many);
        short = names_short;
        low = subst (λ (l : ℕ). 1024 ≤ l) (sym limited) kept.low;
        high = subst (λ (l : ℕ). l ≤ 2 ^ 40) (sym limited) h.limit;
        budgets = budget_bounds S S.parts budget sessions.each (told_budgets S budget kept some budgeted) some;
        unrefused = λ r answer. unrefused_all limit budget r sessions answer;
      })

  -- ---- It was taken over

  module _ (T : Sessions) (n : MemView) (limit budget : ℕ) (kept : HasOneBudget S) (limited : limit ≡ S.places.limit) (budgets : AllByRecursion (λ (s : Session). s.budget ≡ budget) S.parts) (stops : S.stopped ≡ true) (same : Same (steady m) (steady n)) (taken : IsTakenAll m.bytes (length m.bytes) (names_in S.parts) limit budget T) (begun : HasTakenAll (names_in S.parts) limit budget T) where
    abbrev old : SeveralView
    old = world_of S m attempts ps

    abbrev then : SeveralView
    then = world_of T n attempts ps

    carried : (log : FileLog) → StandsForFile old log → CarriesOn S T log
    carried log st =
        carries_all S T log limit budget st.stands (some_parts S m attempts ps h) st.begun (omega (arith, limited))
        (subst (λ (b : List ℕ). IsTakenAll b (length b) (names_in S.parts) limit budget T) (now_is log st) taken) (subst (λ (l : ℕ). 1024 ≤ l) (sym limited) kept.low) (subst (λ (l : ℕ). l ≤ 2 ^ 40) (sym limited) h.limit)

    abbrev goes : CarriesOn S T have.log
    goes = carried have.log h.fits.file

    alike : (d : ℕ) (s u : Session) → slice_get S.parts d ≡ Some s → slice_get T.parts d ≡ Some u → u.name ≡ s.name → IsAlike s u
    alike d s u at there named =
        let inside = slice_get_within S.parts d s at in
        let b = begun_there have.log.sets d (omega (arith, inside, sets_count)) in
        stays_alike S T have.log have.stands goes.stands h.fits.file.begun d b.0 s u b.1 at there named

    from : IsTakenFrom S T
    from = record {
      limit = begun.limited ∙ limited;
      end = goes.end;
      going = begun.going;
      parts = are_taken budget T.root S.parts T.parts begun.each budgets begun.idle alike;
    }

    take_polls : pollings_of then ≡ pollings_of old
    take_polls = ap (λ (l : ℕ). polls_in l attempts T.parts) from.limit ∙ taken_polls S.places.limit attempts S.parts T.parts from.parts

    taken_on : (F : FileState) (x : HaveOneFileLog S attempts (place_at ps) F) → StandsForFile old x.log → StepsOn attempts (place_at ps) F takes (took_over (rows_in T.parts)) T (and_then takes_over x.log)
    taken_on F x file =
        let stands = (carried x.log file).stands in
        let s = taken_steps S T attempts (place_at ps) F x stops stands from in
        let rows : rows_in T.parts ≡ flushed_of F.sets = committed_all T attempts (place_at ps) (settled_in F) s.fits ∙ settled_rows F.sets in
        subst (λ (ns : List ℕ). StepsOn attempts (place_at ps) F takes (took_over ns) T (and_then takes_over x.log)) (sym rows)
        (record { allowed = s.allowed; fits = s.fits; log_is = taken_log S T attempts (place_at ps) F x stops stands from })

    take_done : FileSteps old events.Takeover (took_over (rows_in T.parts)) then
    take_done =
        file_steps S T m n attempts ps ps events.Takeover (took_over (rows_in T.parts)) take_polls
        (λ log stood. same_logs S T m n attempts ps ps log (and_then takes_over log) same (λ x. (carried log stood).stands) refl refl refl stood)
        (λ F x file used. taken_on F x file)

    take_room : HasRoomForAll T (steady n)
    take_room =
        let none : length (all_pending T.parts) ≡ 0 = ap (λ (ws : List Write). length ws) begun.idle in
        let end = from.end in
        record { pieces = omega (arith, none, h.room.pieces, same.pieces); end = omega (arith, end, h.room.end, same.end) }

    take_front : HasFront T n.bytes
    take_front =
        front_moved T T m.bytes n.bytes (some_is n.bytes m.bytes same.bytes) (front_taken m.bytes (length m.bytes) (names_in S.parts) limit budget T h.front.begins taken begun.idle)

    take_hold : HoldsAll T n attempts ps
    take_hold = steps_hold S T m n attempts ps ps events.Takeover (took_over (rows_in T.parts)) h tt take_done take_room from.limit take_front h.count

-- ---- By the value of the machine

module _ (S : Sessions) (m : MemView) (attempts : ℕ) (ps : List Place) (w : SeveralView) (view : world_of S m attempts ps ≡ w) (h : HoldsAll S m attempts ps) where
  -- the writer was not stopped
  pub running_done : S.stopped ≡ false → FileSteps w events.Takeover goes_on (world_of S m attempts ps)
  running_done going = subst (λ (x : SeveralView). FileSteps x events.Takeover goes_on (world_of S m attempts ps)) view (going_done S m attempts ps going)

  module _ (stops : S.stopped ≡ true) (kept : HasOneBudget S) (limit budget : ℕ) (limited : limit ≡ S.places.limit) (budgeted : (s : Session) → slice_get S.parts 0 ≡ Some s → budget ≡ s.budget) (names : List (List ℕ)) (named : names ≡ names_in S.parts) (T : Sessions) (n : MemView)
      (same : Same (steady m) (steady n)) (taken : IsTakenAll m.bytes (length m.bytes) names limit budget T) (begun : HasTakenAll names limit budget T) where
    budgets : AllByRecursion (λ (s : Session). s.budget ≡ budget) S.parts
    budgets = told_budgets S budget kept (some_parts S m attempts ps h) budgeted

    taken_here : IsTakenAll m.bytes (length m.bytes) (names_in S.parts) limit budget T
    taken_here = subst (λ (ns : List (List ℕ)). IsTakenAll m.bytes (length m.bytes) ns limit budget T) named taken

    begun_here : HasTakenAll (names_in S.parts) limit budget T
    begun_here = subst (λ (ns : List (List ℕ)). HasTakenAll ns limit budget T) named begun

    own_polls : pollings_of (world_of T n attempts ps) ≡ pollings_of (world_of S m attempts ps)
    own_polls = take_polls S m attempts ps h T n limit budget kept limited budgets stops same taken_here begun_here

    pub taken_steps_of : (rows : List ℕ) → rows ≡ rows_in T.parts → FileSteps w events.Takeover (took_over rows) (world_of T n attempts ps)
    taken_steps_of rows told =
        subst (λ (ns : List ℕ). FileSteps w events.Takeover (took_over ns) (world_of T n attempts ps)) (sym told)
        (subst (λ (x : SeveralView). FileSteps x events.Takeover (took_over (rows_in T.parts)) (world_of T n attempts ps)) view (take_done S m attempts ps h T n limit budget kept limited budgets stops same taken_here begun_here))

    pub taken_polls_of : pollings_of (world_of T n attempts ps) ≡ pollings_of w
    taken_polls_of = own_polls ∙ ap pollings_of view

    pub taken_holds : HoldsAll T n attempts ps × HasOneBudget T
    taken_holds = (take_hold S m attempts ps h T n limit budget kept limited budgets stops same taken_here begun_here, kept_by S T m n attempts ps ps h own_polls kept)
