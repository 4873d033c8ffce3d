-- Another writer takes over the file of a world of one dataset: the machine of its one name.
use Rattle.std.proofs.Common.{◌≡◌, ℕ, zero, suc, ◌+◌, ◌*◌, ◌≤◌, ◌^◌, true, false, List, [], ◌∷◌, ◌++◌, length, map, drop, Option, Some, None, refl, sym, ap, subst, ◌∙◌, arith}
use Rattle.std.specs.Prelude.{◌==◌, nat_lt, slice_get}
use Rattle.std.specs.List.{AllByRecursion}
use Rattle.std.proofs.lemmas.Bool.{cond-true, eq-eqb}
use Rattle.std.proofs.lemmas.List.{length-map, take-append-drop}
use Rattle.std.proofs.lemmas.List.Elements.{All-cons, All-nil}
use Rattle.h5w_model.specs.Images.{image}
use Rattle.h5w_model.specs.Lawful.{ScriptState, reader_in}
use Rattle.h5w_model.specs.Logs.{Happening, Log, hist}
use Rattle.h5w_model.specs.Relations.{AllPaired}
use Rattle.h5w_model.specs.Several.{Begun, FileLog, alone as alone_events, file_log, log_of, pieces_in, settled, settled_log, takes_over}
use Rattle.h5w_model.specs.Unfinished.{Reader}
use Rattle.h5w_model.specs.declared.piece.Write.{Write}
use Rattle.h5w_image.specs.Memory.{MemView}
use Rattle.h5w_image.specs.View.{Same}
use Rattle.h5w_steady.specs.Steady.{steady}
use Rattle.h5w_step_laws.specs.Logs.{image_now}
use Rattle.h5w_script_laws.specs.Polling.{MayPoll, Polling}
use Rattle.h5w_creation_laws.specs.CreatedFiles.{CreatedFile, block_write, created_blocks, created_writes as one_writes}
use Rattle.h5w_reader.specs.declared.reader.ReaderCore.{ReaderCore}
use Rattle.h5w_writer.specs.Past.{IsNew}
use Rattle.h5w_writer.specs.Room.{HasRoomFor}
use Rattle.h5w_writer.specs.Sessions.{Session}
use Rattle.h5w_writer.specs.Stands.{Stands}
use Rattle.h5w_writer.proofs.LawLemmas.{standing_laws}
use Rattle.h5w_writer_laws.proofs.PieceLemmas.{some_is}
use Rattle.h5w_front_laws.specs.Fronts.{IsLeftOpen}
use Rattle.h5w_several_laws.proofs.SeenLemmas.{seen_laws}
use Rattle.h5w_several_creation_laws.specs.SeveralFiles.{AreCreatable, created_writes}
use Rattle.h5w_several_creation_laws.specs.SeveralLaws.{IsOneDataset}
use Rattle.h5w_several_creation_laws.proofs.OneLemmas.{one_dataset}
use Rattle.h5w_several_writer_laws.specs.Sessions.{Sessions, all_pending, counts_of}
use Rattle.h5w_several_writer_laws.specs.Standing.{and_then}
use Rattle.h5w_several_writer_laws.proofs.SeenLemmas.{length_pieces}
use Rattle.h5w_several_open.specs.Sessions.{BeginsWith}
use Rattle.h5w_several_open.specs.Taken.{HasTakenAll, IsTakenAll, IsTakenAnswer}
use Rattle.h5w_takeover_laws.specs.One.{CarriesFile, ToldOfCreated}
use Rattle.h5w_takeover_laws.proofs.OneLemmas.{answers_one, carries_one, created_told}
use Rattle.h5w_several_script_laws.specs.Alone.{alone}
use Rattle.h5w_several_script_laws.specs.Polled.{FilePolled, IsPolled, Places, readers_of}
use Rattle.h5w_several_script_laws.specs.Scripts.{FileState, SetState, due, settled_in, settled_set}
use Rattle.h5w_several_world_laws.specs.Beginnings.{IsNewFor}
use Rattle.h5w_several_world_laws.specs.Worlds.{AreStatesOf, HaveOneFileLog, IsFileStateOf, IsStateOfPart, polling_in}
use Rattle.h5w_several_world_laws.proofs.TakenLemmas.{settled_set_polled}
use Rattle.h5w_core.specs.Parts.{IsApart}
use Rattle.h5w_core.specs.Readers.{reader_at}
use Rattle.h5w_core.specs.Worlds.{HaveOneLog, IsBudget, WorldView, polling_of, rules_of as world_rules}
use Rattle.h5w_core.specs.declared.parts.WorldParts.{WorldParts}
use Rattle.h5w_several_core.specs.Places.{only_place, place_at, seat_of}
use Rattle.h5w_several_core.specs.Worlds.{HasOneBudget, HaveFileLog, HoldsAll, SeveralView, names_of, rules_of}
use Rattle.h5w_several_core.specs.declared.places.Place.{Place}
use Rattle.h5w_several_core.proofs.EndedLemmas.{of_place}
use Rattle.h5w_several_core.proofs.FrontLemmas.{front_moved, front_taken}
use Rattle.h5w_several_core.proofs.MachineLemmas.{world_of}
use Rattle.h5w_several_core.proofs.RuleLemmas.{polls_in}
use Rattle.h5w_several_core.proofs.TakeLemmas.{Fits, MayTake, alike_polls, committed_all, rows_in}

-- ---- Readers, each in its place

-- the readers by number are those of before, of dataset 0
seats : (rs : List (Option ReaderCore)) (r : ℕ) → place_at (map only_place rs) r ≡ seat_of 0 (reader_at rs r)
seats [] r = refl
seats (x ∷ xs) zero = refl
seats (x ∷ xs) (suc r) = seats xs r

own_readers : (o : Option Reader) (d : ℕ) → d ≡ 0 → of_place d (seat_of 0 o) ≡ o
own_readers None d is = refl
own_readers (Some x) d is = cond-true (0 == d) (Some x) None (eq-eqb 0 d (sym is))

-- each is of dataset 0
all_first : (o : Option Reader) (p : ℕ × Reader) → seat_of 0 o ≡ Some p → p.0 ≡ 0
all_first None p at = absurd (cc)
all_first (Some x) p at = ap (λ (q : ℕ × Reader). q.0) (sym (some_is (0, x) p at))

-- ---- The log of a file with one dataset

alone_pieces : (es : List Happening) → pieces_in (alone_events es) ≡ hist es
alone_pieces es = sym (seen_laws.pieces 0 (alone_events es)) ∙ ap hist (seen_laws.one es)

-- what the dataset sees of it once the file was taken over
alone_settled : (log : Log) → log_of 0 (record { columns = log.columns; values = log.values }) (and_then takes_over (file_log log)) ≡ settled_log log
alone_settled log = ap (λ (es : List Happening). record log { events = settled 0 es }) (seen_laws.one log.events)

-- ---- A list of one

module _ (w : WorldView) (s : ScriptState) (h : HaveOneLog w s) where
  abbrev log : Log
  log = h.log

  abbrev own : Session
  own = w.session

  stands : Stands own log
  stands = h.stands.stands

  new : IsNew log
  new = h.stands.new

  begun_log : ToldOfCreated own log
  begun_log = created_told own log stands new h.state.begun

  start : log.start ≡ []
  start = ap (λ (l : Log). l.start) new.log_is

  now_is : w.bytes ≡ image_now log
  now_is = h.stands.bytes ∙ ap (λ (b : List ℕ). image b (hist log.events)) (sym start)

  high : own.places.limit ≤ 2 ^ 40
  high = begun_log.high

  -- it may be taken over by its name
  pub one_may_take : (limit budget : ℕ) (b : List ℕ) (names : List (List ℕ)) → limit ≡ own.places.limit → b ≡ w.bytes → IsLeftOpen b → IsBudget budget → names ≡ own.name ∷ [] → MayTake b names limit budget
  one_may_take limit budget b names limited same left budgets is =
      subst (λ (ns : List (List ℕ)). MayTake b ns limit budget) (sym is)
      (record {
        some = omega arith;
        few = omega arith;
        short = All-cons Fits own.name [] name_fits (All-nil Fits);
        low = subst (λ (l : ℕ). 1024 ≤ l) (sym limited) begun_log.low;
        high = subst (λ (l : ℕ). l ≤ 2 ^ 40) (sym limited) high;
        budgets = budgets;
        unrefused = λ r answer.
            let now_is = same ∙ now_is in
            answers_one own log limit budget r stands new h.state.begun (subst IsLeftOpen now_is left) (subst (λ (c : List ℕ). IsTakenAnswer c (length c) (own.name ∷ []) limit budget r) now_is answer);
      })
    where
      name_fits : Fits own.name
      name_fits =
          let few = begun_log.created.is.name_bound in
          let same = ap length begun_log.created.name in
          omega (arith, few, same)

  module _ (T : Sessions) (limit budget : ℕ) (limited : limit ≡ own.places.limit) (budgeted : budget ≡ own.budget) (taken : IsTakenAll w.bytes (length w.bytes) (own.name ∷ []) limit budget T) (begun : HasTakenAll (own.name ∷ []) limit budget T) where
    carried : CarriesFile own T log
    carried =
        carries_one own T log limit budget stands new h.state.begun (omega (arith, limited)) (subst (λ (l : ℕ). l ≤ 2 ^ 40) (sym limited) high)
        (subst (λ (b : List ℕ). IsTakenAll b (length b) (own.name ∷ []) limit budget T) now_is taken) begun

    abbrev part : Session
    part = carried.part

    abbrev next : FileLog
    next = and_then takes_over (file_log log)

    part_begins : BeginsWith budget T.root own.name part
    part_begins = (subst (AllPaired (BeginsWith budget T.root) (own.name ∷ [])) carried.parts begun.each).0

    limit_is : T.places.limit ≡ own.places.limit
    limit_is = begun.limited ∙ limited

    polling_is : polling_in T.places.limit w.attempts part ≡ polling_of w
    polling_is = alike_polls own part carried.name (part_begins.budgeted ∙ budgeted) carried.alike T.places.limit w.attempts ∙ ap (λ (l : ℕ). polling_in l w.attempts own) limit_is

    abbrev after : FileState
    after = settled_in (alone (world_rules w) s)

    abbrev first : SetState
    first = record { rules = world_rules w; state = s }

    abbrev ps : Places
    ps = place_at (map only_place w.readers)

    readers_are : (n : ℕ) → readers_of 0 ps n ≡ reader_at w.readers n
    readers_are n = ap (of_place 0) (seats w.readers n) ∙ own_readers (reader_at w.readers n) 0 refl

    -- ---- The state fits

    part_state : IsStateOfPart T.places.limit w.attempts 0 part (settled_set first)
    part_state =
        let none : 0 ≡ length part.pending = sym (ap length carried.pending) in
        record {
          rules = sym (ap (λ (g : Polling). g.rules) polling_is);
          pending = ap (due 0) none;
          ends_flush = ap (nat_lt 0) none;
          flushing = part_begins.flushing ∙ ap (nat_lt 0) none;
          taken = λ t. let clash : false ≡ true = sym part_begins.flushing ∙ t in absurd (cc);
        }

    first_polled : IsPolled (polling_of w) log first (readers_of 0 ps)
    first_polled = record {
      rules = refl;
      polled = record {
        follows = record { appended = h.state.appended; flushed = h.state.flushed };
        begun = h.state.begun;
        all = λ n. subst (λ (o : Option Reader). MayPoll (polling_of w) log (reader_in n s.readers) o) (sym (readers_are n)) (h.state.polls n);
      };
    }

    settled_polled : IsPolled (polling_of w) (settled_log log) (settled_set first) (readers_of 0 ps)
    settled_polled = settled_set_polled (polling_of w) log first (readers_of 0 ps) (sym (standing_laws.columns own log stands)) begun_log.whole first_polled

    all_polled : FilePolled (λ d. polling_of w) (λ d. settled_log log) after ps
    all_polled = record { each = each; used = omega arith; within = λ n p at. omega (arith, all_first (reader_at w.readers n) p (sym (seats w.readers n) ∙ at)) }
      where
        each : (d : ℕ) (x : SetState) → slice_get after.sets d ≡ Some x → IsPolled (polling_of w) (settled_log log) x (readers_of d ps)
        each zero x at = subst (λ (y : SetState). IsPolled (polling_of w) (settled_log log) y (readers_of 0 ps)) (some_is (settled_set first) x at) settled_polled
        each (suc d) x at = absurd (cc)

    own_is : (d : ℕ) (b : Begun) (u : Session) → slice_get next.sets d ≡ Some b → slice_get T.parts d ≡ Some u → (polling_of w ≡ polling_in T.places.limit w.attempts u) × (settled_log log ≡ log_of d b next)
    own_is zero b u at there =
        let same : part ≡ u = some_is part u (ap (λ (ss : List Session). slice_get ss 0) (sym carried.parts) ∙ there) in
        let set : record { columns = log.columns; values = log.values } ≡ b = some_is (record { columns = log.columns; values = log.values }) b at in (
          sym polling_is ∙ ap (polling_in T.places.limit w.attempts) same,
          sym (alone_settled log) ∙ ap (λ (c : Begun). log_of 0 c next) set,
        )
    own_is (suc d) b u at there = absurd (cc)

    grown : T.places.end ≤ 1024 * length next.sets + after.spent
    grown =
        let end = carried.end in
        let spent = h.state.spent in
        omega (arith, end, spent, begun_log.grew, begun_log.first_end)

    state : IsFileStateOf T w.attempts ps after next
    state = record {
      states = subst (λ (ss : List Session). AreStatesOf T.places.limit w.attempts 0 ss after.sets) (sym carried.parts) (part_state, tt);
      left = ap (λ (n : ℕ). n ∷ []) (sym (ap length carried.pending)) ∙ sym (ap counts_of carried.parts);
      stopped = sym begun.going;
      limit = sym limit_is;
      pollings = λ d. polling_of w;
      logs = λ d. settled_log log;
      own = own_is;
      polls = all_polled;
      grown = grown;
    }

    -- ---- The file is a new one of this name

    abbrev file : CreatedFile
    file = begun_log.created.file

    creatable : AreCreatable (file ∷ [])
    creatable = record { some = omega arith; few = omega arith; each = (begun_log.created.is, tt); named = (tt, tt) }

    one : IsOneDataset file
    one = one_dataset file begun_log.created.is

    next_pieces : pieces_in next.events ≡ created_writes (file ∷ []) ++ drop (length (one_writes file)) (hist log.events)
    next_pieces =
        let k = length (one_writes file) in
        alone_pieces log.events ∙ sym (take-append-drop k (hist log.events))
        ∙ ap (λ (ws : List Write). ws ++ drop k (hist log.events)) (begun_log.created.pieces ∙ sym one.writes)

    new_for : IsNewFor (λ d. polling_of w) next
    new_for = record {
      files = file ∷ [];
      are = creatable;
      start = start;
      first = ap (λ (l : Log). l.first) begun_log.created.log_is ∙ first_of file ∙ ap length (sym one.writes);
      later = drop (length (one_writes file)) (hist log.events);
      pieces = next_pieces;
      sets = refl;
      empty = empty;
      names = names;
    }
      where
        first_of : (f : CreatedFile) → length (created_blocks f) ≡ length (one_writes f)
        first_of f = sym (length-map (created_blocks f) block_write)

        empty : (d : ℕ) (b : Begun) → slice_get next.sets d ≡ Some b → b.values ≡ []
        empty zero b at = ap (λ (c : Begun). c.values) (sym (some_is (record { columns = log.columns; values = log.values }) b at)) ∙ ap (λ (l : Log). l.values) new.log_is
        empty (suc d) b at = absurd (cc)

        names : (d : ℕ) (f : CreatedFile) → slice_get (file ∷ []) d ≡ Some f → own.name ≡ f.name
        names zero f at = begun_log.created.name ∙ ap (λ (g : CreatedFile). g.name) (some_is file f at)
        names (suc d) f at = absurd (cc)

    one_have : HaveOneFileLog T w.attempts ps after
    unfolding state
    one_have = record { log = next; stands = carried.stands; state = state; new = new_for }

    pub one_rows : (k : ℕ) → ((u : Session) → slice_get T.parts 0 ≡ Some u → k ≡ u.committed) → k ≡ s.flushed
    unfolding one_have
    one_rows k told =
        let rows : rows_in T.parts ≡ s.flushed ∷ [] = committed_all T w.attempts ps after one_have in
        let row : part.committed ∷ [] ≡ s.flushed ∷ [] = sym (ap rows_in carried.parts) ∙ rows in
        let same : part.committed ≡ s.flushed = cc in
        told part (ap (λ (ss : List Session). slice_get ss 0) carried.parts) ∙ same

    pub one_fits : (n : MemView) → n.bytes ≡ w.bytes → n.history ≡ w.journal → HaveFileLog (world_of T n w.attempts (map only_place w.readers)) after
    unfolding one_have
    one_fits n bytes journal =
        let pieces = alone_pieces log.events in
        record {
          have = one_have;
          file = record {
            stands = carried.stands;
            start = start;
            begun = let many = ap length pieces in let begun = h.state.begun in omega (arith, begun, many, length_pieces (alone_events log.events));
            journal = journal ∙ h.stands.journal ∙ sym pieces;
            bytes = bytes ∙ h.stands.bytes ∙ ap (image []) (sym pieces);
          };
        }

    pub one_rules : (n : MemView) → rules_of (world_of T n w.attempts (map only_place w.readers)) ≡ world_rules w ∷ []
    one_rules n =
        ap (λ (ss : List Session). map (λ (g : Polling). g.rules) (polls_in T.places.limit w.attempts ss)) carried.parts ∙ ap (λ (g : Polling). g.rules ∷ []) polling_is

    pub one_names : (n : MemView) → names_of (world_of T n w.attempts (map only_place w.readers)) ≡ own.name ∷ []
    one_names n =
        ap (λ (ss : List Session). map (λ (g : Polling). g.name) (polls_in T.places.limit w.attempts ss)) carried.parts ∙ ap (λ (name : List ℕ). name ∷ []) carried.name

    pub one_hold : (n : MemView) → IsLeftOpen w.bytes → n.bytes ≡ w.bytes → n.history ≡ w.journal → HasRoomFor own (steady n) → length w.readers ≡ 17 → HoldsAll T n w.attempts (map only_place w.readers)
    one_hold n left bytes journal room many =
        let none : length (all_pending T.parts) ≡ 0 = ap length begun.idle in
        let end = carried.end in
        record {
          room = record { pieces = omega (arith, none, room.pieces); end = omega (arith, end, room.end) };
          count = length-map w.readers only_place ∙ many;
          tries = h.state.tries;
          limit = subst (λ (l : ℕ). l ≤ 2 ^ 40) (sym limit_is) high;
          front = front_moved T T w.bytes n.bytes bytes (front_taken w.bytes (length w.bytes) (own.name ∷ []) limit budget T left taken begun.idle);
          script = after;
          fits = one_fits n bytes journal;
        }

    pub one_keeps : HasOneBudget T
    one_keeps = record {
      low = subst (λ (l : ℕ). 1024 ≤ l) (sym limit_is) begun_log.low;
      budget = budget;
      budgets = subst (AllByRecursion (λ (u : Session). u.budget ≡ budget)) (sym carried.parts) (part_begins.budgeted, tt);
    }

-- ---- By the parts of the world

only_name : (w : WorldView) (p : WorldParts) → IsApart w p → (names : List (List ℕ)) (name : List ℕ) → names ≡ name ∷ [] → name ≡ p.session.name → names ≡ w.session.name ∷ []
only_name w p apart names name only called = only ∙ ap (λ (n : List ℕ). n ∷ []) (called ∙ ap (λ (x : Session). x.name) apart.session)

-- the limit and the budget that its session tells
own_limit : (w : WorldView) (p : WorldParts) → IsApart w p → (limit : ℕ) → limit ≡ p.session.places.limit → limit ≡ w.session.places.limit
own_limit w p apart limit is = is ∙ ap (λ (x : Session). x.places.limit) apart.session

own_budget : (w : WorldView) (p : WorldParts) → IsApart w p → (budget : ℕ) → budget ≡ p.session.budget → budget ≡ w.session.budget
own_budget w p apart budget is = is ∙ ap (λ (x : Session). x.budget) apart.session

pub apart_may_take : (w : WorldView) (p : WorldParts) → IsApart w p → (limit budget : ℕ) → limit ≡ p.session.places.limit → budget ≡ p.session.budget → (s : ScriptState) → HaveOneLog w s → IsLeftOpen p.image.bytes → (names : List (List ℕ)) (name : List ℕ) → names ≡ name ∷ []
    → name ≡ p.session.name → MayTake p.image.bytes names limit budget
apart_may_take w p apart limit budget limit_is budget_is s h left names name only called =
    one_may_take w s h limit budget p.image.bytes names (own_limit w p apart limit limit_is) apart.bytes left (subst IsBudget (sym (own_budget w p apart budget budget_is)) apart.allowed) (only_name w p apart names name only called)

module _ (w : WorldView) (p : WorldParts) (apart : IsApart w p) (limit budget : ℕ) (limit_is : limit ≡ p.session.places.limit) (budget_is : budget ≡ p.session.budget) (T : Sessions) (n : MemView) (same : Same (steady p.image) (steady n)) (names : List (List ℕ)) (name : List ℕ) (only : names ≡ name ∷ []) (called : name ≡ p.session.name) (qs : List Place) (placed : qs ≡ map only_place p.readers.items)
    (taken : IsTakenAll p.image.bytes (length p.image.bytes) names limit budget T) (begun : HasTakenAll names limit budget T) where
  limited : limit ≡ w.session.places.limit
  limited = own_limit w p apart limit limit_is

  budgeted : budget ≡ w.session.budget
  budgeted = own_budget w p apart budget budget_is

  named : names ≡ w.session.name ∷ []
  named = only_name w p apart names name only called

  taken_here : IsTakenAll w.bytes (length w.bytes) (w.session.name ∷ []) limit budget T
  taken_here = subst (λ (b : List ℕ). IsTakenAll b (length b) (w.session.name ∷ []) limit budget T) apart.bytes (subst (λ (ns : List (List ℕ)). IsTakenAll p.image.bytes (length p.image.bytes) ns limit budget T) named taken)

  begun_here : HasTakenAll (w.session.name ∷ []) limit budget T
  begun_here = subst (λ (ns : List (List ℕ)). HasTakenAll ns limit budget T) named begun

  bytes : n.bytes ≡ w.bytes
  bytes = some_is n.bytes p.image.bytes same.bytes ∙ apart.bytes

  history : n.history ≡ w.journal
  history = some_is n.history p.image.history same.history ∙ apart.journal

  abbrev machine : SeveralView
  machine = world_of T n p.attempts qs

  machine_is : machine ≡ world_of T n w.attempts (map only_place w.readers)
  machine_is =
      let attempts = apart.attempts in
      let places = placed ∙ ap (map only_place) apart.readers in
      λ i. world_of T n (attempts i) (places i)

  module _ (s : ScriptState) (h : HaveOneLog w s) where
    pub apart_fits : HaveFileLog machine (settled_in (alone (world_rules w) s))
    apart_fits =
        subst (λ (x : SeveralView). HaveFileLog x (settled_in (alone (world_rules w) s))) (sym machine_is)
        (one_fits w s h T limit budget limited budgeted taken_here begun_here n bytes history)

    pub apart_rows : (k : ℕ) → ((u : Session) → slice_get T.parts 0 ≡ Some u → k ≡ u.committed) → k ≡ s.flushed
    apart_rows k told = one_rows w s h T limit budget limited budgeted taken_here begun_here k told

    pub apart_rules : rules_of machine ≡ world_rules w ∷ []
    apart_rules = ap rules_of machine_is ∙ one_rules w s h T limit budget limited budgeted taken_here begun_here n

    pub apart_names : names_of machine ≡ w.session.name ∷ []
    apart_names = ap names_of machine_is ∙ one_names w s h T limit budget limited budgeted taken_here begun_here n

    pub apart_keeps : HasOneBudget T
    apart_keeps = one_keeps w s h T limit budget limited budgeted taken_here begun_here

    pub apart_hold : IsLeftOpen p.image.bytes → HasRoomFor p.session (steady p.image) → HoldsAll T n p.attempts qs
    apart_hold left room =
        let places = placed ∙ ap (map only_place) apart.readers in
        let pieces = room.pieces in
        let end = room.end in
        let last : p.session.places.end ≡ w.session.places.end = ap (λ (x : Session). x.places.end) apart.session in
        let own : HasRoomFor w.session (steady n) =
        record { pieces = (let many : length p.session.pending ≡ length w.session.pending = ap (λ (x : Session). length x.pending) apart.session in omega (arith, pieces, many, same.pieces)); end = omega (arith, end, last, same.end) } in
        subst (λ (x : List Place). HoldsAll T n p.attempts x) (sym places)
        (subst (λ (a : ℕ). HoldsAll T n a (map only_place w.readers)) (sym apart.attempts)
        (one_hold w s h T limit budget limited budgeted taken_here begun_here n (subst IsLeftOpen apart.bytes left) bytes history own apart.places))

  pub apart_journal : machine.journal ≡ w.journal
  apart_journal = history
