-- A machine whose session just created its file fits a script's first state.
use Rattle.std.proofs.Common.{◌≡◌, ℕ, zero, suc, ◌+◌, ◌^◌, ◌<◌, ◌≤◌, true, false, List, [], ◌∷◌, ◌++◌, ℤ, length, map, replicate, get_or, Option, Some, None, refl, sym, ap, subst, ◌∙◌, arith, append-nil, append_assoc}
use Rattle.std.specs.Prelude.{nat_lt, slice_get}
use Rattle.std.specs.List.{AllByRecursion}
use Rattle.std.proofs.lemmas.Option.{slice_get-get_or, slice_get_within}
use Rattle.h5w_model.specs.Images.{AllSized, image}
use Rattle.h5w_model.specs.Lawful.{Rules, ScriptState, at_first, reader_in}
use Rattle.h5w_model.specs.Logs.{Log, appended, appended_in, flushed_rows}
use Rattle.h5w_model.specs.Several.{Begun, FileLog, Happened, log_of, pieces_in, seen_by, shows_all}
use Rattle.h5w_model.specs.Tables.{format_limits}
use Rattle.h5w_model.specs.Unfinished.{Reader}
use Rattle.h5w_model.specs.declared.piece.Write.{Write}
use Rattle.h5w_model.specs.declared.root.Super.{Super}
use Rattle.h5w_image.specs.Memory.{MemView, fresh}
use Rattle.h5w_image.specs.View.{Same, Wrote}
use Rattle.h5w_space.specs.Space.{Space}
use Rattle.h5w_steady.specs.Steady.{steady}
use Rattle.h5w_index.specs.Views.{IndexView}
use Rattle.h5w_creation.specs.Forms.{IsForm, created_by}
use Rattle.h5w_creation.specs.declared.form.Form.{Form}
use Rattle.h5w_creation_laws.specs.CreatedFiles.{CreatedFile}
use Rattle.h5w_creation.specs.NewFiles.{new_file}
use Rattle.h5w_options.specs.declared.options.Options.{Options}
use Rattle.h5w_script_laws.specs.Polling.{MayPoll, Polling, now}
use Rattle.h5w_writer.specs.Creations.{places_to}
use Rattle.h5w_writer.specs.Sessions.{AllEndBy, Session}
use Rattle.h5w_writer.proofs.CreatingLemmas.{writes_end}
use Rattle.h5w_writer.proofs.PastLemmas.{ends_later}
use Rattle.h5w_writer_laws.proofs.PieceLemmas.{some_is}
use Rattle.h5w_several_creation.specs.Forms.{AreNames, all_by, each_by}
use Rattle.h5w_several_creation.proofs.SetLemmas.{are_creatable, same_forms}
use Rattle.h5w_several_creation_laws.specs.SeveralFiles.{AllNamed, AreCreatable, created_writes, end_behind, end_of, first_place, super_of}
use Rattle.h5w_several_creation_laws.proofs.StandLaws.{several_sizes}
use Rattle.h5w_several_creating.specs.Created.{AreIndexes, IsShownAll, begun_of, created_part, created_parts, shown_all, shown_file, showing_all}
use Rattle.h5w_several_creating.proofs.StandLemmas.{many_begun, many_parts, none_pending}
use Rattle.h5w_front_laws.specs.Fronts.{AllKeepFront, IsLeftOpen}
use Rattle.h5w_front_laws.proofs.NewFrontLemmas.{new_fronts}
use Rattle.h5w_several_laws.proofs.SeenLemmas.{seen_laws}
use Rattle.h5w_several_writer_laws.specs.Sessions.{Sessions, all_pending, counts_of}
use Rattle.h5w_several_writer_laws.specs.Standing.{StandsAll}
use Rattle.h5w_several_writer_laws.proofs.GiveLemmas.{standing_all}
use Rattle.h5w_several_writer_laws.proofs.SeenLemmas.{length_pieces}
use Rattle.h5w_several_script_laws.specs.Scripts.{FileState, SetState, due, first_in}
use Rattle.h5w_several_script_laws.specs.Polled.{FilePolled, IsPolled, Places, readers_of}
use Rattle.h5w_several_script_laws.proofs.PolledLemmas.{not_placed}
use Rattle.h5w_several_world_laws.specs.Beginnings.{IsNewFor}
use Rattle.h5w_several_world_laws.specs.Worlds.{AreStatesOf, HaveOneFileLog, polling_in, rules_in}
use Rattle.h5w_several_world_laws.proofs.StepLemmas.{begun_there, part_there, state_at, states_length}
use Rattle.h5w_core.specs.Worlds.{rules_for}
use Rattle.h5w_several_core.specs.Creation.{AllSome, CreatesAll, new_files}
use Rattle.h5w_several_core.specs.Places.{nobody, place_at, seated, vacant}
use Rattle.h5w_several_core.specs.Worlds.{HasFront, HasOneBudget, HaveFileLog, HoldsAll, names_of, rules_of}
use Rattle.h5w_several_core.specs.declared.places.Place.{Place}
use Rattle.h5w_several_core.proofs.MachineLemmas.{world_of}
use Rattle.h5w_several_core.proofs.RuleLemmas.{polls_in, rules_by}

-- ---- Lists

get_is : {T : Type 0} (xs : List T) (d : ℕ) (x y : T) → slice_get xs d ≡ Some x → get_or xs d y ≡ x
get_is xs d x y at = some_is (get_or xs d y) x (sym (slice_get-get_or xs d y (slice_get_within xs d x at)) ∙ at)

nowhere : (n r : ℕ) → get_or (replicate n vacant) r vacant ≡ vacant
nowhere zero r = refl
nowhere (suc n) zero = refl
nowhere (suc n) (suc r) = nowhere n r

nobody_at : (r : ℕ) → place_at nobody r ≡ None
nobody_at r = ap seated (nowhere 17 r)

-- ---- The log

shown_pieces : (ws : List Write) (es : List Happened) → pieces_in (showing_all ws es) ≡ pieces_in es ++ ws
shown_pieces [] es = sym (append-nil (pieces_in es))
shown_pieces (w ∷ ws) es = shown_pieces ws (shows_all w ∷ es) ∙ append_assoc (pieces_in es) (w ∷ []) ws

shown_values : (d : ℕ) (ws : List Write) (es : List Happened) → appended_in (seen_by d (showing_all ws es)) ≡ appended_in (seen_by d es)
shown_values d [] es = refl
shown_values d (w ∷ ws) es = shown_values d ws (shows_all w ∷ es)

no_values : (fs : List CreatedFile) (d : ℕ) (b : Begun) → slice_get (map begun_of fs) d ≡ Some b → b.values ≡ []
no_values [] d b at = absurd (cc)
no_values (f ∷ fs) zero b at = let is : begun_of f ≡ b = some_is (begun_of f) b at in ap (λ (c : Begun). c.values) (sym is)
no_values (f ∷ fs) (suc d) b at = no_values fs d b at

-- ---- The parts

-- nothing is pending, and no row is there
record IsFresh (s : Session) : Type 0 where
  idle : s.pending ≡ []
  calm : s.flushing ≡ false
  none : s.committed ≡ 0

abbrev AreFresh : List Session → Type 0
AreFresh [] = Unit {0}
AreFresh (s ∷ ss) = IsFresh s × AreFresh ss

made_fresh : (root : Super) (t : Space) (budget place : ℕ) (fs : List CreatedFile) (vs : List IndexView) → AreFresh (created_parts root t budget place fs vs)
made_fresh root t budget place [] vs = tt
made_fresh root t budget place (f ∷ fs) [] = tt
made_fresh root t budget place (f ∷ fs) (v ∷ vs) = (record { idle = refl; calm = refl; none = refl }, made_fresh root t budget (end_behind place f) fs vs)

fresh_at : (ss : List Session) (d : ℕ) (s : Session) → AreFresh ss → slice_get ss d ≡ Some s → IsFresh s
fresh_at [] d s h at = absurd (cc)
fresh_at (x ∷ xs) zero s h at = subst IsFresh (some_is x s at) h.0
fresh_at (x ∷ xs) (suc d) s h at = fresh_at xs d s h.1 at

-- each has the name of its file
named_at : (root : Super) (t : Space) (budget place : ℕ) (fs : List CreatedFile) (vs : List IndexView) (d : ℕ) (f : CreatedFile) (s : Session) → slice_get fs d ≡ Some f → slice_get (created_parts root t budget place fs vs) d ≡ Some s → s.name ≡ f.name
named_at root t budget place [] vs d f s at there = absurd (cc)
named_at root t budget place (g ∷ fs) [] d f s at there = absurd (cc)
named_at root t budget place (g ∷ fs) (v ∷ vs) zero f s at there =
    let part : created_part root t budget place g v ≡ s = some_is (created_part root t budget place g v) s there in
    let file : g ≡ f = some_is g f at in
    ap (λ (x : Session). x.name) (sym part) ∙ ap (λ (x : CreatedFile). x.name) file
named_at root t budget place (g ∷ fs) (v ∷ vs) (suc d) f s at there = named_at root t budget (end_behind place g) fs vs d f s at there

-- and this budget
made_budgets : (root : Super) (t : Space) (budget place : ℕ) (fs : List CreatedFile) (vs : List IndexView) → AllByRecursion (λ (s : Session). s.budget ≡ budget) (created_parts root t budget place fs vs)
made_budgets root t budget place [] vs = tt
made_budgets root t budget place (f ∷ fs) [] = tt
made_budgets root t budget place (f ∷ fs) (v ∷ vs) = (refl, made_budgets root t budget (end_behind place f) fs vs)

-- ---- The first state

abbrev first_set : Rules → SetState
first_set g = record { rules = g; state = at_first }

first_states : (limit attempts before : ℕ) (ss : List Session) → AreFresh ss → AreStatesOf limit attempts before ss (map first_set (rules_by limit attempts ss))
first_states limit attempts before [] h = tt
first_states limit attempts before (s ∷ ss) h =
    let none : nat_lt 0 (length s.pending) ≡ false = ap (λ (ws : List Write). nat_lt 0 (length ws)) h.0.idle in (
      record {
        rules = refl;
        pending = sym (ap (λ (ws : List Write). due before (length ws)) h.0.idle);
        ends_flush = sym none;
        flushing = h.0.calm ∙ sym none;
        taken = λ flush. absurd (let clash : false ≡ true = sym h.0.calm ∙ flush in cc);
      },
      first_states limit attempts (before + length s.pending) ss h.1,
    )

first_at : (gs : List Rules) (d : ℕ) (x : SetState) → slice_get (map first_set gs) d ≡ Some x → x.state ≡ at_first
first_at [] d x at = absurd (cc)
first_at (g ∷ gs) zero x at = ap (λ (y : SetState). y.state) (sym (some_is (first_set g) x at))
first_at (g ∷ gs) (suc d) x at = first_at gs d x at

first_left : (limit attempts : ℕ) (ss : List Session) → AreFresh ss → map (λ (g : Rules). 0) (rules_by limit attempts ss) ≡ counts_of ss
first_left limit attempts [] h = refl
first_left limit attempts (s ∷ ss) h =
    let none : 0 ≡ length s.pending = sym (ap (λ (ws : List Write). length ws) h.0.idle) in
    let rest = first_left limit attempts ss h.1 in
    λ i. none i ∷ rest i

-- what no reader polls for
abbrev nothing : Polling
nothing = record {
  name = [];
  limits = format_limits;
  keeps = 0;
  rules = record {
    cutting = record { chunk_rows = 0; chunk_columns = 0; columns = 0; value_size = 0 };
    int_type = record { size = 0; big = false; signed = false };
    chunk_limit = 0;
    space_limit = 0;
    budget = 0;
    attempts = 0;
  };
}

module _ (fs : List CreatedFile) (limit budget attempts : ℕ) (vs : List IndexView) (are : AreCreatable fs) (indexes : AreIndexes (first_place fs) fs vs) (stands : StandsAll (shown_all fs limit budget vs) (shown_file fs)) where
  abbrev S : Sessions
  S = shown_all fs limit budget vs

  abbrev log : FileLog
  log = shown_file fs

  abbrev polls : List Polling
  polls = polls_in limit attempts S.parts

  abbrev first : FileState
  first = first_in (rules_by limit attempts S.parts) limit budget

  abbrev pollings : ℕ → Polling
  pollings d = get_or polls d nothing

  abbrev logs : ℕ → Log
  logs d = log_of d (get_or log.sets d (record { columns = 0; values = [] })) log

  all_fresh : AreFresh S.parts
  all_fresh = made_fresh (super_of 5 fs) (places_to (end_of fs) limit) budget (first_place fs) fs vs

  states : AreStatesOf limit attempts 0 S.parts first.sets
  states = first_states limit attempts 0 S.parts all_fresh

  pub pieces : pieces_in log.events ≡ created_writes fs
  pieces = shown_pieces (created_writes fs) []

  polled_at : (d : ℕ) (s : Session) → slice_get S.parts d ≡ Some s → pollings d ≡ polling_in limit attempts s
  polled_at d s at = get_is polls d (polling_in limit attempts s) nothing (polls_at S.parts d at)
    where
      polls_at : (ss : List Session) (d : ℕ) → slice_get ss d ≡ Some s → slice_get (polls_in limit attempts ss) d ≡ Some (polling_in limit attempts s)
      polls_at [] d at = absurd (cc)
      polls_at (x ∷ xs) zero at = ap (λ (v : Session). Some (polling_in limit attempts v)) (some_is x s at)
      polls_at (x ∷ xs) (suc d) at = polls_at xs d at

  log_at : (d : ℕ) (b : Begun) → slice_get log.sets d ≡ Some b → logs d ≡ log_of d b log
  log_at d b at = ap (λ (c : Begun). log_of d c log) (get_is log.sets d b (record { columns = 0; values = [] }) at)

  -- no reader was opened
  module _ (ps : Places) (empty : (n : ℕ) → ps n ≡ None) where
    each : (d : ℕ) (x : SetState) → slice_get first.sets d ≡ Some x → IsPolled (pollings d) (logs d) x (readers_of d ps)
    each d x at =
        let inside : d < length first.sets = slice_get_within first.sets d x at in
        let count = states_length limit attempts 0 S.parts first.sets states in
        let sets = standing_all.sets S log stands in
        let s = part_there S.parts d (omega (arith, inside, count)) in
        let b = begun_there log.sets d (omega (arith, inside, count, sets)) in
        let told = standing_all.tells S log stands d b.0 s.0 b.1 s.1 in
        let rules : x.rules ≡ rules_in limit attempts s.0 = (state_at limit attempts 0 S.parts first.sets states d s.0 x s.1 at).1.rules in
        let made : x.state ≡ at_first = first_at (rules_by limit attempts S.parts) d x at in
        let own = log_at d b.0 b.1 in
        let values : appended (log_of d b.0 log) ≡ [] = ap (λ (xs : List ℤ). xs ++ appended_in (seen_by d log.events)) (no_values fs d b.0 b.1) ∙ shown_values d (created_writes fs) [] in
        let rows : flushed_rows (log_of d b.0 log) ≡ 0 = sym told.flushed_rows ∙ (fresh_at S.parts d s.0 all_fresh s.1).none in
        record {
          rules = ap (λ (g : Polling). g.rules) (polled_at d s.0 s.1) ∙ sym rules;
          polled = record {
            follows = record {
              appended = ap (λ (t : ScriptState). t.appended) made ∙ sym (ap appended own ∙ values);
              flushed = ap (λ (t : ScriptState). t.flushed) made ∙ sym (ap flushed_rows own ∙ rows);
            };
            begun = subst (λ (l : Log). l.first ≤ now l) (sym own) (reached d b.0);
            all = λ n.
                subst (λ (t : ScriptState). MayPoll (pollings d) (logs d) (reader_in n t.readers) (readers_of d ps n)) (sym made)
                (subst (λ (o : Option Reader). MayPoll (pollings d) (logs d) None o) (sym (not_placed d ps n (empty n))) tt);
          };
        }
      where
        reached : (d : ℕ) (b : Begun) → length (created_writes fs) ≤ now (log_of d b log)
        reached d b = let many = ap (λ (ws : List Write). length ws) (seen_laws.pieces d log.events ∙ pieces) in omega (arith, many)

    first_polled : FilePolled pollings logs first ps
    first_polled =
        let many = many_parts (super_of 5 fs) (places_to (end_of fs) limit) budget (first_place fs) fs vs indexes in
        let count = states_length limit attempts 0 S.parts first.sets states in
        let some = are.some in
        record { each = each; used = omega (arith, many, count, some); within = λ n p there. absurd (let clash : None ≡ Some p = sym (empty n) ∙ there in cc) }

    is_new : IsNewFor pollings log
    is_new =
        let root = super_of 5 fs in
        let t = places_to (end_of fs) limit in
        record {
          files = fs;
          are = are;
          start = refl;
          first = refl;
          later = [];
          pieces = pieces ∙ sym (append-nil (created_writes fs));
          sets = many_begun fs;
          empty = no_values fs;
          names = λ d f at.
              let many = many_parts root t budget (first_place fs) fs vs indexes in
              let inside = slice_get_within fs d f at in
              let s = part_there S.parts d (omega (arith, many, inside)) in
              ap (λ (g : Polling). g.name) (polled_at d s.0 s.1) ∙ named_at root t budget (first_place fs) fs vs d f s.0 at s.1;
        }

    pub first_fits : HaveOneFileLog S attempts ps first
    first_fits = record {
      log = log;
      stands = stands;
      new = is_new;
      state = record {
        states = states;
        left = first_left limit attempts S.parts all_fresh;
        stopped = refl;
        limit = refl;
        pollings = pollings;
        logs = logs;
        own = λ d b s at there. (polled_at d s there, log_at d b at);
        polls = first_polled;
        grown = let low = (several_sizes fs are).end in let many = many_begun fs in omega (arith, low, many);
      };
    }

-- ---- The machine

pub created_fits : (names : List (List ℕ)) (o : Options) (attempts : ℕ) (S : Sessions) (m : MemView) (places : List Place) → CreatesAll names o S m → places ≡ nobody
    → HaveFileLog (world_of S m attempts places) (first_in (rules_of (world_of S m attempts places)) o.limit o.budget)
unfolding first_fits
created_fits names o attempts S m places x none =
    let fs = new_files names o in
    let vs = x.is.indexes in
    let stands : StandsAll (shown_all fs o.limit o.budget vs) (shown_file fs) = subst (λ (U : Sessions). StandsAll U (shown_file fs)) x.is.is x.stands in
    subst (λ (ps : List Place). HaveFileLog (world_of S m attempts ps) (first_in (rules_of (world_of S m attempts ps)) o.limit o.budget)) (sym none)
    (subst (λ (U : Sessions). HaveFileLog (world_of U m attempts nobody) (first_in (rules_of (world_of U m attempts nobody)) o.limit o.budget)) (sym x.is.is)
    (record {
      have = first_fits fs o.limit o.budget attempts vs x.creatable x.is.are stands (place_at nobody) nobody_at;
      file = record {
        stands = stands;
        start = refl;
        begun = let many = ap (λ (ws : List Write). length ws) (shown_pieces (created_writes fs) []) in omega (arith, many, length_pieces (shown_file fs).events);
        journal = x.history ∙ sym (shown_pieces (created_writes fs) []);
        bytes = x.bytes ∙ ap (image []) (sym (shown_pieces (created_writes fs) []));
      };
    }))

created_front : (names : List (List ℕ)) (o : Options) (S : Sessions) (m : MemView) → CreatesAll names o S m → HasFront S m.bytes
created_front names o S m x =
    let fs = new_files names o in
    let new = new_fronts.several fs x.creatable in
    let none = none_pending (super_of 5 fs) (places_to (end_of fs) o.limit) o.budget (first_place fs) fs x.is.indexes in
    subst (λ (U : Sessions). HasFront U m.bytes) (sym x.is.is)
    (record { begins = subst IsLeftOpen (sym x.bytes) new.0; keeps = record { root = new.1; pieces = subst AllKeepFront (sym none) tt } })

pub created_holds : (names : List (List ℕ)) (o : Options) (attempts : ℕ) (S : Sessions) (m : MemView) (places : List Place) → 1 ≤ attempts → o.limit ≤ 2 ^ 40 → CreatesAll names o S m → places ≡ nobody
    → HoldsAll S m attempts places
created_holds names o attempts S m places tries high x none =
    let fs = new_files names o in
    let vs = x.is.indexes in
    let stands : StandsAll (shown_all fs o.limit o.budget vs) (shown_file fs) = subst (λ (U : Sessions). StandsAll U (shown_file fs)) x.is.is x.stands in
    let limit : S.places.limit ≡ o.limit = ap (λ (U : Sessions). U.places.limit) x.is.is in
    record {
      room = x.room;
      count = ap (λ (ps : List Place). length ps) none;
      tries = tries;
      limit = subst (λ (l : ℕ). l ≤ 2 ^ 40) (sym limit) high;
      front = created_front names o S m x;
      script = first_in (rules_of (world_of S m attempts places)) o.limit o.budget;
      fits = created_fits names o attempts S m places x none;
    }

-- the limit and the budget are those of the options
pub created_keeps : (names : List (List ℕ)) (o : Options) (S : Sessions) (m : MemView) → 1024 ≤ o.limit → CreatesAll names o S m → HasOneBudget S
created_keeps names o S m low x =
    let fs = new_files names o in
    subst HasOneBudget (sym x.is.is)
    (record { low = low; budget = o.budget; budgets = made_budgets (super_of 5 fs) (places_to (end_of fs) o.limit) o.budget (first_place fs) fs x.is.indexes })

-- ---- Its rules and names

rules_made : (o : Options) (attempts : ℕ) (root : Super) (t : Space) (place : ℕ) (names : List (List ℕ)) (vs : List IndexView) → t.limit ≡ o.limit → AreIndexes place (new_files names o) vs
    → rules_by t.limit attempts (created_parts root t o.budget place (new_files names o) vs) ≡ map (λ (name : List ℕ). rules_for o attempts) names
rules_made o attempts root t place [] vs limit x = refl
rules_made o attempts root t place (name ∷ names) [] limit x = absurd x
rules_made o attempts root t place (name ∷ names) (v ∷ vs) limit x =
    let own : rules_in t.limit attempts (created_part root t o.budget place (record (new_file o) { name = name }) v) ≡ rules_for o attempts =
    ap (λ (l : ℕ). record (rules_for o attempts) { space_limit = l }) limit in
    let rest = rules_made o attempts root t (end_behind place (record (new_file o) { name = name })) names vs limit x.1 in
    λ i. own i ∷ rest i

names_made : (o : Options) (limit attempts : ℕ) (root : Super) (t : Space) (place : ℕ) (names : List (List ℕ)) (vs : List IndexView) → AreIndexes place (new_files names o) vs
    → map (λ (g : Polling). g.name) (polls_in limit attempts (created_parts root t o.budget place (new_files names o) vs)) ≡ names
names_made o limit attempts root t place [] vs x = refl
names_made o limit attempts root t place (name ∷ names) [] x = absurd x
names_made o limit attempts root t place (name ∷ names) (v ∷ vs) x = ap (λ (ns : List (List ℕ)). name ∷ ns) (names_made o limit attempts root t (end_behind place (record (new_file o) { name = name })) names vs x.1)

module _ (names : List (List ℕ)) (o : Options) (attempts : ℕ) (S : Sessions) (m : MemView) (places : List Place) (x : CreatesAll names o S m) where
  pub created_rules : rules_of (world_of S m attempts places) ≡ map (λ (name : List ℕ). rules_for o attempts) names
  created_rules =
      let fs = new_files names o in
      ap (λ (U : Sessions). rules_by U.places.limit attempts U.parts) x.is.is ∙ rules_made o attempts (super_of 5 fs) (places_to (end_of fs) o.limit) (first_place fs) names x.is.indexes refl x.is.are

  pub created_names : names_of (world_of S m attempts places) ≡ names
  created_names =
      let fs = new_files names o in
      ap (λ (U : Sessions). map (λ (g : Polling). g.name) (polls_in U.places.limit attempts U.parts)) x.is.is
      ∙ names_made o o.limit attempts (super_of 5 fs) (places_to (end_of fs) o.limit) (first_place fs) names x.is.indexes x.is.are

-- ---- The pieces become visible

all_some : (ws : List Write) → AllSized ws → AllSome ws
all_some [] h = tt
all_some (w ∷ ws) h = (h.0.0, all_some ws h.1)

files_are : (names : List (List ℕ)) (o : Options) (form : Form) → created_by o.name form ≡ new_file o → all_by names form ≡ new_files names o
files_are [] o form is = refl
files_are (name ∷ names) o form is =
    let own : created_by name form ≡ record (new_file o) { name = name } = ap (λ (f : CreatedFile). record f { name = name }) is in
    let rest = files_are names o form is in
    λ i. own i ∷ rest i

module _ (names : List (List ℕ)) (o : Options) (form : Form) (forms : List Form) (S : Sessions) (ws : List Write) (form_is : IsForm form) (file_is : created_by o.name form ≡ new_file o) (each_is : forms ≡ replicate (length names) form) (are : AreNames names)
    (named : AllNamed names) (writes : ws ≡ created_writes (each_by names forms)) (shown : IsShownAll (each_by names forms) o.limit o.budget S) (stands : StandsAll S (shown_file (each_by names forms))) where
  abbrev fs : List CreatedFile
  fs = new_files names o

  same : each_by names forms ≡ fs
  same = ap (each_by names) each_is ∙ files_are names o form file_is

  all_creatable : AreCreatable fs
  all_creatable = subst AreCreatable (files_are names o form file_is) (are_creatable names (replicate (length names) form) (same_forms names form form_is) are named)

  is_shown : IsShownAll fs o.limit o.budget S
  is_shown = subst (λ (gs : List CreatedFile). IsShownAll gs o.limit o.budget S) same shown

  writes_are : ws ≡ created_writes fs
  writes_are = writes ∙ ap created_writes same

  ends_are : S.places.end ≡ end_of fs
  ends_are = ap (λ (U : Sessions). U.places.end) is_shown.is

  -- each piece ends within the room that is made, and has a byte
  pub put_ends : (end : ℕ) → S.places.end ≤ end → AllEndBy end ws
  put_ends end inside =
      let sizes = several_sizes fs all_creatable in
      subst (AllEndBy end) (sym writes_are) (ends_later (end_of fs) end (created_writes fs) (omega (arith, inside, ends_are)) (writes_end (end_of fs) (created_writes fs) sizes.within))

  pub put_some : AllSome ws
  put_some = subst AllSome (sym writes_are) (all_some (created_writes fs) (several_sizes fs all_creatable).sized)

  pub creates_all : (m p q : MemView) → m ≡ fresh [] [] → Same (steady m) (steady p) → length ws + 1 ≤ p.pieces → S.places.end ≤ p.end → Wrote ws (steady p) (steady q) → CreatesAll names o S q
  creates_all m p q empty made pieces end wrote =
      let before : p.history ≡ [] = some_is p.history m.history made.history ∙ ap (λ (v : MemView). v.history) empty in
      let bytes : p.bytes ≡ [] = some_is p.bytes m.bytes made.bytes ∙ ap (λ (v : MemView). v.bytes) empty in
      let parts = x_parts in
      let none : length (all_pending S.parts) ≡ 0 = ap (λ (us : List Write). length us) parts in
      record {
        creatable = all_creatable;
        is = is_shown;
        stands = subst (λ (gs : List CreatedFile). StandsAll S (shown_file gs)) same stands;
        history = some_is q.history (p.history ++ ws) wrote.history ∙ ap (λ (us : List Write). us ++ ws) before ∙ writes_are;
        bytes = some_is q.bytes (image p.bytes ws) wrote.bytes ∙ ap (λ (b : List ℕ). image b ws) bytes ∙ ap (image []) writes_are;
        room = record { pieces = omega (arith, none, wrote.pieces, pieces); end = omega (arith, wrote.end, end) };
      }
    where
      x_parts : all_pending S.parts ≡ []
      x_parts =
          ap (λ (U : Sessions). all_pending U.parts) is_shown.is ∙ none_pending (super_of 5 fs) (places_to (end_of fs) o.limit) o.budget (first_place fs) fs is_shown.indexes
