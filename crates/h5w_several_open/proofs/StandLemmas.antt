-- A session of several datasets that was opened over a file that is valid for all of them stands for its log.
use Rattle.std.proofs.Common.{◌≡◌, ◌≢◌, ℕ, suc, ◌≤◌, List, [], ◌∷◌, ◌++◌, length, Ok, refl, sym, ap, ◌∙◌, subst, inl, inr, arith, append-nil}
use Rattle.h5w_model.specs.Images.{image}
use Rattle.h5w_model.specs.Findings.{AllSummary, AllValid, Used}
use Rattle.h5w_model.specs.Logs.{Log}
use Rattle.h5w_model.specs.Numbers.{range}
use Rattle.h5w_model.specs.Prefixed.{PrefixedEach}
use Rattle.h5w_model.specs.Relations.{AllPaired}
use Rattle.h5w_model.specs.Several.{Begun, FileLog, log_of}
use Rattle.h5w_model.specs.Superblock.{super_at}
use Rattle.h5w_model.specs.declared.piece.Write.{Write}
use Rattle.h5w_model.specs.declared.root.Super.{Super}
use Rattle.h5w_model.proofs.SuperLemmas.{length-super_bytes}
use Rattle.h5w_space.specs.Space.{Space}
use Rattle.h5w_several_laws.specs.Together.{IsAllValid, names_of}
use Rattle.h5w_step_laws.specs.Logs.{Goes}
use Rattle.h5w_step_laws.proofs.SessionLaws.{rests}
use Rattle.h5w_step_laws.specs.Plans.{Plan}
use Rattle.h5w_several_laws.specs.Dues.{RunsTo}
use Rattle.h5w_several_laws.specs.Turns.{AreKnown, AreOff, Entry, IsOff, all_then, then_as}
use Rattle.h5w_opening.proofs.FoundParts.{parts}
use Rattle.h5w_writer.specs.Loads.{end_in, first_end_of}
use Rattle.h5w_writer.specs.Openings.{opened_log}
use Rattle.h5w_writer.specs.PartLaws.{RunsAs, super_piece}
use Rattle.h5w_writer.specs.Sessions.{Session, AllEndBy as WritesEndBy}
use Rattle.h5w_writer.specs.Told.{told_log}
use Rattle.h5w_writer_open.specs.OpenAnswers.{IsOpenedOver}
use Rattle.h5w_several_writer_laws.specs.Began.{IsAmple, began_end, end_among}
use Rattle.h5w_several_writer_laws.specs.Seen.{IsOwn}
use Rattle.h5w_several_writer_laws.specs.Sessions.{all_pending}
use Rattle.h5w_several_writer_laws.proofs.RunLemmas.{planned_run}
use Rattle.h5w_several_writer_laws.specs.Courses.{AreThrough, IsAt, stands_of}
use Rattle.h5w_several_writer_laws.specs.Standing.{AreStandingParts, IsDone, IsStandingPart, most_in}
use Rattle.h5w_several_writer_laws.proofs.FlushAllLemmas.{stands_all}
use Rattle.h5w_several_writer_laws.specs.Valid.{AreValidFrom}
use Rattle.h5w_several_writer_laws.proofs.SightLemmas.{seen_opened}
use Rattle.h5w_several_writer_laws.proofs.PastLemmas.{past_opened}
use Rattle.h5w_laws.proofs.SeveralLemmas.{all_ranges}
use Rattle.h5w_step_laws.proofs.MomentLemmas.{super_parts}
use Rattle.h5w_several_writer_laws.proofs.ValidLemmas.{begun_valid}
use Rattle.h5w_several_open.specs.Answers.{HasBegunWith}
use Rattle.h5w_several_open.specs.Begins.{BeginsPart, EachBegins, a_part, no_part}
use Rattle.h5w_several_writer.specs.Opened.{places_from, rested, sessions_over, settled}
use Rattle.h5w_several_open.specs.Stands.{OpensStanding, opened_file}
use Rattle.h5w_several_open.proofs.BeginLemmas.{opens_all}

pub none_rested : (root : Super) (t : Space) (ss : List Session) → all_pending (rested root t ss) ≡ []
none_rested root t [] = refl
none_rested root t (s ∷ ss) = none_rested root t ss

-- the file's superblock before ends where the written one does
record BeganAt (img : List ℕ) (root : Super) : Type 0 where
  was : Super
  is : super_at (range img 0 48) ≡ Ok was
  end : was.end ≡ root.end

-- the log of a part ends where that of the file does
pub opened_end : (img : List ℕ) (sets : List Begun) (b : Begun) (was : Super) → super_at (range img 0 48) ≡ Ok was → first_end_of (opened_log img b.columns b.values) ≡ began_end (opened_file img sets)
opened_end img sets b was is = ap end_in is ∙ sym (ap (end_among (length sets)) is)

module _ (img : List ℕ) (limit budget : ℕ) (root : Super) (ranges : List Used) (all : List Begun) (left : List Write) (left_is : left ≡ super_piece root ∷ []) (at : BeganAt img root) where
  abbrev t : Space
  t = places_from root.end limit

  abbrev log : FileLog
  log = opened_file img all

  -- a part that was told of the superblock
  part : (d : ℕ) (b : Begun) (name : List ℕ) (s : Session) (e : Entry) (before : List Write) (behind : List Write) (pending : List Write) → BeginsPart img name b s e → HasBegunWith limit budget root name s
      → IsStandingPart root t ranges left log d b before (record s { root = root; places = t; pending = pending }) behind (then_as root e)
  part d b name s e before behind pending p w =
      let own : Log = told_log p.times (super_piece root ∷ []) (opened_log img b.columns b.values) in
      let named : name ≡ s.name = sym w.begun.named in
      let seen : IsOwn t.limit log d b own left = subst (IsOwn t.limit log d b own) (sym left_is) (seen_opened t.limit img all d b p.times (super_piece root ∷ []) (opened_end img all b at.was at.is)) in
      let by_root : RunsAs (record s { root = root; pending = [] }) [] own (then_as root e).moment e.address e.held s.places =
      subst (λ (x : Super). RunsAs (record s { root = x; pending = [] }) [] (told_log p.times (super_piece x ∷ []) (opened_log img b.columns b.values)) (then_as x e).moment e.address e.held s.places) w.root_is p.runs in
      let runs : RunsAs (record s { root = root; places = t; pending = [] }) [] own (then_as root e).moment e.address e.held t =
      subst (λ (x : Space). RunsAs (record s { root = root; places = x; pending = [] }) [] own (then_as root e).moment e.address e.held x) w.places by_root in
      let own_plan : Plan img e.moment e.held (super_piece root ∷ []) (then_as root e).moment e.held = subst (λ (x : Super). Plan img e.moment e.held (super_piece x ∷ []) (then_as x e).moment e.held) w.root_is p.plan in
      let led : RunsTo name (log_of d b log) 0 left (then_as root e).moment e.held =
      subst (λ (ws : List Write). RunsTo name (log_of d b log) 0 ws (then_as root e).moment e.held) (sym left_is)
      (planned_run name (log_of d b log) e.moment (then_as root e).moment e.held e.held (super_piece root ∷ []) p.run own_plan) in
      let done : IsDone root t left log d b (record s { root = root; places = t; pending = pending }) (then_as root e) = record { calm = inr w.begun.flushing; own = own; seen = seen; runs = runs } in
      record {
        name = p.entry.name_is ∙ named;
        early = w.begun.early;
        going = w.begun.running;
        each = subst (λ (n : List ℕ). PrefixedEach n (log_of d b log)) named p.prefixed;
        run = inl (record { due = 0; runs = subst (λ (n : List ℕ). RunsTo n (log_of d b log) 0 left (then_as root e).moment e.held) named led });
        past = past_opened img all b at.was at.is (record s { root = root; places = t; pending = [] }) p.times (super_piece root ∷ []) (then_as root e) t runs (p.entry.name_is ∙ named);
        phase = inl done;
      }

  later : (d : ℕ) (names : List (List ℕ)) (bs : List Begun) (ss : List Session) (es : List Entry) (before : List Write) → EachBegins img names bs ss es → AllPaired (HasBegunWith limit budget root) names ss
      → AreStandingParts root t ranges left log d bs before (rested root t ss) (all_then root es)
  later d _ _ _ _ before no_part h = tt
  later d _ _ _ _ before (a_part name b s e names bs ss es p rest) h = (part d b name s e before (all_pending (rested root t ss)) [] p h.0, later (suc d) names bs ss es (before ++ []) rest h.1)

  first : (names : List (List ℕ)) (bs : List Begun) (ss : List Session) (es : List Entry) → EachBegins img names bs ss es → AllPaired (HasBegunWith limit budget root) names ss
      → AreStandingParts root t ranges left log 0 bs [] (settled root t ss) (all_then root es)
  first _ _ _ _ no_part h = tt
  first _ _ _ _ (a_part name b s e names bs ss es p rest) h = (part 0 b name s e [] (all_pending (rested root t ss)) s.pending p h.0, later 1 names bs ss es s.pending rest h.1)

pub pending_of : (limit budget : ℕ) (root : Super) (t : Space) (names : List (List ℕ)) (ss : List Session) → 1 ≤ length ss → AllPaired (HasBegunWith limit budget root) names ss → all_pending (settled root t ss) ≡ super_piece root ∷ []
pending_of limit budget root t names [] some h = absurd (omega (arith, some))
pending_of limit budget root t [] (s ∷ ss) some h = absurd h
pending_of limit budget root t (name ∷ names) (s ∷ ss) some h =
    let w : HasBegunWith limit budget root name s = h.0 in
    ap (λ (ws : List Write). s.pending ++ ws) (none_rested root t ss) ∙ append-nil s.pending ∙ w.begun.pending ∙ ap (λ (x : Super). super_piece x ∷ []) w.root_is

-- the file ends where the superblock says
began_at : (img : List ℕ) (size limit budget : ℕ) (root : Super) (names : List (List ℕ)) (ss : List Session) → 1 ≤ length ss → AllPaired (λ (name : List ℕ) (s : Session). IsOpenedOver img size name limit budget s) names ss
    → AllPaired (HasBegunWith limit budget root) names ss → BeganAt img root
began_at img size limit budget root names [] some x h = absurd (omega (arith, some))
began_at img size limit budget root [] (s ∷ ss) some x h = absurd h
began_at img size limit budget root (name ∷ names) (s ∷ ss) some x h =
    let w : HasBegunWith limit budget root name s = h.0 in
    let o : IsOpenedOver img size name limit budget s = x.0 in
    record { was = o.found.root; is = (parts img size name o.found o.is).super; end = ap (λ (y : Session). y.root.end) (sym o.session) ∙ ap (λ (y : Super). y.end) w.root_is }

pub end_of : (img : List ℕ) (size limit budget : ℕ) (root : Super) (names : List (List ℕ)) (ss : List Session) → 1 ≤ length ss → AllPaired (λ (name : List ℕ) (s : Session). IsOpenedOver img size name limit budget s) names ss
    → AllPaired (HasBegunWith limit budget root) names ss → (sets : List Begun) → began_end (opened_file img sets) ≡ root.end
end_of img size limit budget root names ss some x h sets =
    let at = began_at img size limit budget root names ss some x h in
    ap (end_among (length sets)) at.is ∙ at.end

-- a valid file ends within its bytes
pub opened_ample : (img : List ℕ) (names : List (List ℕ)) (summary : AllSummary) → AllValid img names summary → (sets : List Begun) (t : Space) → IsAmple t (opened_file img sets)
opened_ample img names summary valid sets t =
    let h = (all_ranges img names summary valid).all in
    let front = super_parts (length img) (range img 0 48) h.superblock h.found in
    let end = ap (end_among (length sets)) front.read in
    omega (arith, end, front.inside)

-- the names of the entries, of which there are as many as parts
begun_names : (img : List ℕ) (root : Super) (names : List (List ℕ)) (bs : List Begun) (ss : List Session) (es : List Entry) → EachBegins img names bs ss es → names_of (all_then root es) ≡ names
begun_names img root _ _ _ _ no_part = refl
begun_names img root _ _ _ _ (a_part name b s e names bs ss es p rest) =
    ap (λ (n : List ℕ). n ∷ names_of (all_then root es)) p.entry.name_is ∙ ap (λ (ns : List (List ℕ)). name ∷ ns) (begun_names img root names bs ss es rest)

some_entries : (img : List ℕ) (root : Super) (names : List (List ℕ)) (bs : List Begun) (ss : List Session) (es : List Entry) → EachBegins img names bs ss es → 1 ≤ length ss → all_then root es ≢ []
some_entries img root _ _ _ _ no_part some = absurd (omega (arith, some))
some_entries img root _ _ _ _ (a_part name b s e names bs ss es p rest) some = λ none. cc

-- before the superblock is shown each is where the file has it
begun_at : (img : List ℕ) (all : List Begun) (d : ℕ) (names : List (List ℕ)) (bs : List Begun) (ss : List Session) (es : List Entry) → EachBegins img names bs ss es → AllPaired (IsAt (opened_file img all)) (stands_of d bs names) es
begun_at img all d _ _ _ _ no_part = tt
begun_at img all d _ _ _ _ (a_part name b s e names bs ss es p rest) =
    let goes = (rests name (opened_log img b.columns b.values) e.moment e.held p.run).goes in (
      record { named = p.entry.name_is; goes = subst (λ (n : List ℕ). Goes n (opened_log img b.columns b.values) e.moment e.held) (sym p.entry.name_is) goes },
      begun_at img all (suc d) names bs ss es rest,
    )

off_before : (super : Super) (e : Entry) (es : List Entry) → IsOff (then_as super e) (all_then super es) → IsOff e es
off_before super e [] off = tt
off_before super e (x ∷ es) off = (record { own = off.0.own; held = off.0.held; other = off.0.other }, off_before super e es off.1)

all_off_before : (super : Super) (es : List Entry) → AreOff (all_then super es) → AreOff es
all_off_before super [] off = tt
all_off_before super (e ∷ es) off = (off_before super e es off.0, all_off_before super es off.1)

pub opens_standing : OpensStanding
opens_standing img size names summary bs ss limit budget root valid reads opened begun some low high =
    let a = opens_all img size names summary bs ss limit budget root valid reads opened begun low high in
    let t : Space = places_from root.end limit in
    let left : List Write = all_pending (settled root t ss) in
    let left_is : left ≡ super_piece root ∷ [] = pending_of limit budget root t names ss some begun in
    let at = began_at img size limit budget root names ss some opened begun in
    let ends_at = end_of img size limit budget root names ss some opened begun bs in
    let long = length-super_bytes root in
    let es = all_then root a.entries in
    let named = begun_names img root names bs ss a.entries a.each in
    let none_before : IsAllValid img (names_of es) = subst (λ (ns : List (List ℕ)). IsAllValid img ns) (sym named) (summary, valid) in
    let stays = begun_valid img bs (super_piece root) t root a.ranges es (some_entries img root names bs ss a.entries a.each some) none_before a.known a.off in
    stands_all (sessions_over root limit ss) (opened_file img bs)
    (record {
      ranges = a.ranges;
      entries = all_then root a.entries;
      known = subst (λ (ws : List Write). AreKnown (image img ws) t root a.ranges (all_then root a.entries)) (sym left_is) a.known;
      off = a.off;
      blocks = a.blocks;
      parts = first img limit budget root a.ranges bs left left_is at names bs ss a.entries a.each begun;
      fits = omega (arith, ends_at);
      low = opened_ample img names summary valid bs t;
      ends = subst (λ (ws : List Write). WritesEndBy (most_in t (opened_file img bs)) ws) (sym left_is) (omega (arith, long, low), tt);
      going = refl;
      valid = subst (λ (ws : List Write). AreValidFrom 0 img (names_of es) ws) (sym left_is) stays;
      course = subst (λ (ws : List Write). AreThrough (opened_file img bs) (stands_of 0 bs (names_of es)) ws) (sym left_is)
          (subst (λ (ns : List (List ℕ)). AreThrough (opened_file img bs) (stands_of 0 bs ns) (super_piece root ∷ [])) (sym named)
          ((λ begun_here. record { entries = a.entries; each = begun_at img bs 0 names bs ss a.entries a.each; off = all_off_before root a.entries a.off }), tt));
    })
