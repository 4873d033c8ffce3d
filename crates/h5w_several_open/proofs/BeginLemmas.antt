-- What is known where a session of several datasets begins over a file that is valid for all of them.
use Rattle.std.proofs.Common.{◌≡◌, ◌^◌, ℕ, ◌+◌, ◌<◌, ◌≤◌, List, [], ◌∷◌, ◌++◌, None, Result, Ok, Err, refl, sym, ap, ◌∙◌, subst, inr, arith}
use Rattle.std.specs.List.{AllByRecursion}
use Rattle.std.specs.Option.{option_or}
use Rattle.std.proofs.lemmas.Bool.{ltb-false}
use Rattle.h5w_model.specs.Images.{image}
use Rattle.h5w_model.specs.Findings.{AllSummary, Summary, Used, Valid, checked_root, the_superblock}
use Rattle.h5w_model.specs.Logs.{Log}
use Rattle.h5w_model.specs.Programs.{eval}
use Rattle.h5w_model.specs.Datasets.{Described}
use Rattle.h5w_model.specs.Relations.{AllPaired}
use Rattle.h5w_model.specs.Several.{Begun}
use Rattle.h5w_model.specs.Superblock.{super_at, super_bytes}
use Rattle.h5w_model.specs.Tables.{format_limits, limit_of, needed}
use Rattle.h5w_model.specs.declared.cell.Key.{Key}
use Rattle.h5w_model.specs.declared.root.Super.{Super}
use Rattle.h5w_laws.specs.Several.{IsShare}
use Rattle.h5w_laws.proofs.SeveralLemmas.{each_valid}
use Rattle.h5w_step_laws.specs.Ranges.{Among}
use Rattle.h5w_step_laws.proofs.HeaderLaws.{root_places}
use Rattle.h5w_step_laws.proofs.RangeLemmas.{among_left, among_right}
use Rattle.h5w_space.specs.Space.{Space}
use Rattle.h5w_step_laws.specs.Logs.{image_now}
use Rattle.h5w_step_laws.specs.Plans.{Plan}
use Rattle.h5w_step_laws.specs.Moments.{Moment, Represents, all_used}
use Rattle.h5w_step_laws.specs.Steps.{OffAll}
use Rattle.h5w_step_laws.proofs.FoundLemmas.{opens}
use Rattle.h5w_step_laws.proofs.MomentLemmas.{in_root}
use Rattle.h5w_step_laws.proofs.PartLemmas.{apart_sym, disjoint_apart}
use Rattle.h5w_flush_laws.specs.Knowledge.{KnownHeld}
use Rattle.h5w_flush_laws.specs.Spaces.{AllLive}
use Rattle.h5w_step_laws.specs.Files.{chunk_0}
use Rattle.h5w_index.specs.Views.{IndexView, address_in, an_array, a_tree}
use Rattle.h5w_several_laws.specs.Beside.{own_of}
use Rattle.h5w_several_laws.specs.Turns.{AreKnown, AreOff, Entry, IsOff, IsOne, all_then, then_as}
use Rattle.h5w_several_laws.proofs.BesideLemmas.{settled_apart}
use Rattle.h5w_opening.specs.Openings.{Opened, refused_dataset}
use Rattle.h5w_writer.specs.Openings.{IsOver, flagged_root, opened_log}
use Rattle.h5w_writer.specs.PartLaws.{RunsAs, rooted, super_piece}
use Rattle.h5w_writer.specs.Sessions.{Session}
use Rattle.h5w_writer.specs.Told.{moved_to, told_log, told_of}
use Rattle.h5w_writer.proofs.PartLemmas.{part_laws}
use Rattle.h5w_writer.proofs.ToldLemmas.{told_laws}
use Rattle.h5w_writer_open.specs.declared.index.NoIndex.{NoIndex}
use Rattle.h5w_writer_open.specs.declared.index.NoIndex.TheVariants.{Unnamed, Empty, WrongTotals, Unordered}
use Rattle.h5w_writer_open.specs.OpenAnswers.{IsArrayOf, IsEmptyOf, IsIndexOf, IsKeptIndexOf, IsOpenedOver, session_over, writing_flags}
use Rattle.h5w_writer_open.specs.OpenRanges.{ranges_refused, refused_index, refused_open}
use Rattle.h5w_writer_open.proofs.OpenLineLemmas.{open_few}
use Rattle.h5w_writer_open.proofs.OpenRangeLemmas.{or_none}
use Rattle.h5w_writer_open.proofs.OverFile.{HasParts, IsFirst, checked, cut_here, dataset_same, has_parts, is_bare, is_begun, is_over, swmr}
use Rattle.h5w_writer_open.proofs.SessionOver.{in_chunk, near_of, some_columns, unrefused_parts}
use Rattle.h5w_several_writer_laws.proofs.RunLemmas.{runs_of}
use Rattle.h5w_several_open.specs.Answers.{HasBegunWith}
use Rattle.h5w_several_open.specs.Begins.{BeginsPart, EachBegins, OpensAll, ReadsIt, a_part, no_part}
use Rattle.h5w_several_open.specs.Datasets.{IsEntry}
use Rattle.h5w_several_open.proofs.DatasetLemmas.{all_apart}

-- ---- What is known of a session that runs

-- the same told of equal things
pub runs_as : (s : Session) (log : Log) (m n : Moment) (a b : Key → ℕ) (h k : List Used) (t x : Space) → RunsAs s [] log m a h t → m ≡ n → a ≡ b → h ≡ k → t ≡ x → RunsAs s [] log n b k x
runs_as s log m n a b h k t x r e f g i = record { running = r.running; after = r.after ∙ e; address_is = r.address_is ∙ f; held_is = r.held_is ∙ g; rest_is = r.rest_is ∙ i }

pub known_of : (s : Session) (log : Log) (m : Moment) (a : Key → ℕ) (h : List Used) (t : Space) → RunsAs s [] log m a h t → KnownHeld (image_now log) s.name m a t h
known_of s log m a h t r =
    let q = r.running in
    let all : KnownHeld (image_now log) s.name q.after q.address q.rest q.held = record { knows = q.knows; is = q.holds } in
    subst (λ (x : Moment). KnownHeld (image_now log) s.name x a t h) r.after
    (subst (λ (x : Key → ℕ). KnownHeld (image_now log) s.name q.after x t h) r.address_is
    (subst (λ (x : Space). KnownHeld (image_now log) s.name q.after q.address x h) r.rest_is (subst (λ (x : List Used). KnownHeld (image_now log) s.name q.after q.address q.rest x) r.held_is all)))

-- ---- One dataset

module _ (img name : List ℕ) (limit budget : ℕ) (o : Opened) (v : IndexView) (found : HasParts img name o) (low : 1024 ≤ limit) (high : limit ≤ 2 ^ 40) where
  abbrev plain : Session
  plain = session_over o (chunk_0 img o.place) v name limit budget

  -- a session over it has what the file has
  pub over_by : (a : Result IndexView NoIndex) → IsIndexOf img o.header.dataset a → IsKeptIndexOf o.header.dataset a v → refused_open o a ≡ None → (m : Moment) → Represents img name m → IsOver plain img m
  over_by (Ok w) x kept none m file =
      let rest = unrefused_parts o (Ok w) none in
      let own : IsIndexOf img o.header.dataset (Ok v) = subst (λ (y : IndexView). IsIndexOf img o.header.dataset (Ok y)) (sym kept) x in
      is_over img name o m found file v own (first v own) limit budget (some_columns o rest.dataset) low high
    where
      first : (y : IndexView) → IsIndexOf img o.header.dataset (Ok y) → IsFirst o.header.dataset y
      first (an_array y) z =
          let array : IsArrayOf img o.header.dataset y = z in
          let c = checked img name o m found file in
          let few : needed m.dataset ≤ limit_of format_limits m.dataset.layout.index = ltb-false (limit_of format_limits m.dataset.layout.index) (needed m.dataset) c.within in
          open_few o.header.dataset (cut_here img name o m found file).chunked.rows (subst (λ (d : Described). needed d ≤ limit_of format_limits d.layout.index) (dataset_same img name o m found file) few) array.kind
      first (a_tree place y) z = tt
  over_by (Err Unnamed) x kept none m file =
      let rest = unrefused_parts o (Err Unnamed) none in
      is_begun img name o m found file v x kept (in_chunk o x rest.dataset) limit budget (some_columns o rest.dataset) low high
  over_by (Err Empty) x kept none m file =
      let rest = unrefused_parts o (Err Empty) none in
      let here : IsEmptyOf img o.header.dataset = x in
      let near : o.header.dataset.layout.address + 72 < 2 ^ 64 = near_of o (Err Empty) (record { kind = here.kind; named = here.named }) (or_none (ranges_refused o (Err Empty)) (option_or (refused_dataset o) (refused_index o.header.dataset (Err Empty))) none).0 in
      is_bare img name o m found file v here kept (omega (arith, near)) limit budget (some_columns o rest.dataset) low high
  over_by (Err WrongTotals) x kept none m file = let rest = unrefused_parts o (Err WrongTotals) none in absurd (let e = rest.index in cc)
  over_by (Err Unordered) x kept none m file = let rest = unrefused_parts o (Err Unordered) none in absurd (let e = rest.index in cc)

-- what the file has is told of no other
pub own_is : (img name : List ℕ) (s : Super) (place : ℕ) (us vs : List Used) → eval img (checked_root name s) ≡ Ok (place, us) → eval img (checked_root name s) ≡ Ok (place, vs) → us ≡ vs
own_is img name s place us vs h g = (root_places place place us vs (sym h ∙ g)).1

pub off_own : (img name : List ℕ) (m : Moment) → (file : Represents img name m) → OffAll m.behind file.root.own
off_own img name m file u v a b =
    let among : Among v (the_superblock ∷ m.root) = inr (subst (λ (us : List Used). Among v us) (sym file.root.is) (among_left v file.root.own file.root.others b)) in
    apart_sym v u (disjoint_apart (the_superblock ∷ m.root) (own_of m) v u file.apart among (among_right u m.header (m.fixed ++ m.behind) (among_right u m.fixed m.behind a)))

pub live_own : (img name : List ℕ) (m : Moment) (t : Space) → (file : Represents img name m) → AllLive t (all_used m) → AllLive t file.root.own
live_own img name m t file live u a = live u (in_root m u (subst (λ (us : List Used). Among u us) (sym file.root.is) (among_left u file.root.own file.root.others a)))

module _ (img name : List ℕ) (b : Begun) (s : Session) (size limit budget : ℕ) (sm : Summary) (valid : Valid img name sm) (reads : ReadsIt img name b) (opened : IsOpenedOver img size name limit budget s) (low : 1024 ≤ limit) (high : limit ≤ 2 ^ 40)
    (back : super_at (super_bytes s.root) ≡ Ok s.root) where
  abbrev o : Opened
  o = opened.found

  abbrev u : Session
  u = session_over o (chunk_0 img o.place) opened.kept name limit budget

  abbrev root : Super
  root = flagged_root (writing_flags o.root.flags) u

  abbrev log : Log
  log = opened_log img b.columns b.values

  root_is : s.root ≡ root
  root_is = ap (λ (x : Session). x.root) opened.session

  dataset_fit : refused_dataset o ≡ None
  dataset_fit = (unrefused_parts o opened.index opened.unrefused).dataset

  columns : 0 < b.columns
  columns =
      let first = opens img name reads.0 b.columns b.values sm valid reads.1 in
      let same : o.header.dataset.shape.cols ≡ b.columns = ap (λ (d : Described). d.shape.cols) (sym (dataset_same img name o first.0 (has_parts img name size o opened.is) first.1)) ∙ first.4 in
      let some = some_columns o dataset_fit in
      omega (arith, some, same)

  begun_at : (m : Moment) → (file : Represents img name m) → RunsAs u [] log m (λ key. address_in opened.kept key) m.behind u.places → (e : Entry) × BeginsPart img name b s e
  begun_at m file r =
      let own : List Used = file.root.own in
      let a : Key → ℕ = λ key. address_in opened.kept key in
      let n : Moment = rooted own m in
      let untold : RunsAs u [] log n a m.behind u.places =
      runs_as u log (rooted own r.running.after) n r.running.address a r.running.held m.behind r.running.rest u.places
      (part_laws.others u log r.running own (subst (λ (x : Moment). Represents img name (rooted own x)) (sym r.after) (settled_apart.untold img name m file))
      (subst (λ (us : List Used). OffAll us own) (sym r.held_is) (off_own img name m file))
      (live_own img name m r.running.rest file (subst (λ (x : Moment). AllLive r.running.rest (all_used x)) r.after r.running.knows.live)))
      (ap (rooted own) r.after) r.address_is r.held_is r.rest_is in
      let super = part_laws.super u log untold.running (writing_flags o.root.flags) refl (subst (λ (x : Super). super_at (super_bytes x) ≡ Ok x) root_is back) (swmr o.root) in
      let told = part_laws.told u log untold.running (super_piece root ∷ []) root u.places super.0 in
      let e : Entry = record { name = name; moment = n; address = a; held = m.behind } in
      let known : KnownHeld img name n a u.places m.behind = known_of u log n a m.behind u.places untold in
      let columns_here : 0 < m.dataset.shape.cols = subst (λ (d : Described). 0 < d.shape.cols) (sym (dataset_same img name o m (has_parts img name size o opened.is) file)) (some_columns o dataset_fit) in
      let entry : IsEntry img u.places name e = record {
        name_is = refl;
        knows = known.knows;
        untold = own_is img name m.super m.place own known.knows.file.root.own file.root.checked known.knows.file.root.checked;
        held_is = known.is;
        behind = refl;
        cols = columns_here;
      } in
      let runs : RunsAs (told_of u root u.places) [] (told_log told.0 (super_piece root ∷ []) log) (moved_to root n) a m.behind u.places =
      runs_as (told_of u root u.places) (told_log told.0 (super_piece root ∷ []) log) (moved_to root untold.running.after) (moved_to root n) untold.running.address a untold.running.held m.behind (super.0).rest u.places told.1 (ap (moved_to root) untold.after)
      untold.address_is untold.held_is super.1 in (
        e,
        record {
          entry = subst (λ (x : Session). IsEntry img x.places name e) (sym opened.session) entry;
          prefixed = (part_laws.stands u [] log refl untold.running).prefixed;
          run = runs_of u [] log n a m.behind u.places untold;
          plan = subst (λ (x : Super). Plan img n m.behind (super_piece x ∷ []) (moved_to x n) m.behind) (sym root_is) (known_plan untold.after untold.held_is super.0.plan);
          times = told.0;
          runs = subst (λ (x : Session). RunsAs (record x { pending = [] }) [] (told_log told.0 (super_piece x.root ∷ []) log) (then_as x.root e).moment a m.behind x.places) (sym opened.session) runs;
        },
      )
    where
      known_plan : {k o : Moment} {us vs : List Used} → k ≡ o → us ≡ vs → Plan img k us (super_piece root ∷ []) (moved_to root k) us → Plan img o vs (super_piece root ∷ []) (moved_to root o) vs
      known_plan {o = o} {us = us} e h p = subst (λ (x : List Used). Plan img o x (super_piece root ∷ []) (moved_to root o) x) h (subst (λ (x : Moment). Plan img x us (super_piece root ∷ []) (moved_to root x) us) e p)

  pub part_begins : (e : Entry) × BeginsPart img name b s e
  part_begins =
      let k = part_laws.over img name reads.0 b.columns b.values sm valid reads.1 columns in
      begun_at k.0 k.1 (k.2 u refl (over_by img name limit budget o opened.kept (has_parts img name size o opened.is) low high opened.index opened.is_index opened.is_kept opened.unrefused k.0 k.1))

-- ---- All of them

abbrev pub HasSummary : List ℕ → List ℕ → Type 0
HasSummary img name = (sm : Summary) × Valid img name sm

pub valid_names : (img : List ℕ) (t : AllSummary) (names : List (List ℕ)) (rows : List ℕ) → AllPaired (λ (name : List ℕ) (n : ℕ). (s : Summary) × Valid img name s × IsShare t n s) names rows → AllByRecursion (HasSummary img) names
valid_names img t [] rows h = tt
valid_names img t (name ∷ names) [] h = absurd h
valid_names img t (name ∷ names) (n ∷ rows) h = ((h.0.0, h.0.1), valid_names img t names rows h.1)

-- the places of all
abbrev places_by : Super → ℕ → Space
places_by root limit = record { end = root.end; limit = limit; free = []; retired = []; spare = 0 }

module _ (img : List ℕ) (size limit budget : ℕ) (root : Super) (low : 1024 ≤ limit) (high : limit ≤ 2 ^ 40) where
  -- their entries
  record AreBegun (names : List (List ℕ)) (bs : List Begun) (ss : List Session) : Type 0 where
    entries : List Entry
    each : EachBegins img names bs ss entries
    here : AllPaired (IsEntry img (places_by root limit)) names entries

  abbrev IsOpen : List ℕ → Session → Type 0
  IsOpen name s = IsOpenedOver img size name limit budget s

  are_begun : (names : List (List ℕ)) (bs : List Begun) (ss : List Session) → AllByRecursion (HasSummary img) names → AllPaired (ReadsIt img) names bs → AllPaired IsOpen names ss → AllPaired (HasBegunWith limit budget root) names ss → AreBegun names bs ss
  are_begun [] [] [] v r x h = record { entries = []; each = no_part; here = tt }
  are_begun [] (b ∷ bs) ss v r x h = absurd r
  are_begun [] [] (s ∷ ss) v r x h = absurd x
  are_begun (name ∷ names) [] ss v r x h = absurd r
  are_begun (name ∷ names) (b ∷ bs) [] v r x h = absurd x
  are_begun (name ∷ names) (b ∷ bs) (s ∷ ss) v r x h =
      let w : HasBegunWith limit budget root name s = h.0 in
      let back : super_at (super_bytes s.root) ≡ Ok s.root = subst (λ (y : Super). super_at (super_bytes y) ≡ Ok y) (sym w.root_is) w.reads in
      let p = part_begins img name b s size limit budget v.0.0 v.0.1 r.0 x.0 low high back in
      let rest = are_begun names bs ss v.1 r.1 x.1 h.1 in
      record {
        entries = p.0 ∷ rest.entries;
        each = a_part name b s p.0 names bs ss rest.entries p.1 rest.each;
        here = (subst (λ (t : Space). IsEntry img t name p.0) w.places (p.1).entry, rest.here);
      }

  -- once the superblock is shown
  abbrev shown : List ℕ
  shown = image img (super_piece root ∷ [])

  one_known : (super : Super) (ranges : List Used) (name : List ℕ) (b : Begun) (s : Session) (e : Entry) → BeginsPart img name b s e → HasBegunWith limit budget root name s → IsOne img (places_by root limit) super ranges e
      → IsOne shown (places_by root limit) root ranges (then_as root e)
  one_known super ranges name b s e p w one =
      let log : Log = told_log p.times (super_piece s.root ∷ []) (opened_log img b.columns b.values) in
      let known : KnownHeld (image_now log) s.name (then_as s.root e).moment e.address s.places e.held = known_of (record s { pending = [] }) log (then_as s.root e).moment e.address e.held s.places p.runs in
      let image_is : image_now log ≡ image img (super_piece s.root ∷ []) = ap (image img) (told_laws.pieces p.times (super_piece s.root ∷ []) (opened_log img b.columns b.values)) in
      let here : KnownHeld (image img (super_piece s.root ∷ [])) s.name (then_as s.root e).moment e.address s.places e.held = subst (λ (x : List ℕ). KnownHeld x s.name (then_as s.root e).moment e.address s.places e.held) image_is known in
      let named : s.name ≡ e.name = w.begun.named ∙ sym p.entry.name_is in
      let by_root : KnownHeld shown s.name (then_as root e).moment e.address s.places e.held = subst (λ (x : Super). KnownHeld (image img (super_piece x ∷ [])) s.name (then_as x e).moment e.address s.places e.held) w.root_is here in
      let all : KnownHeld shown e.name (then_as root e).moment e.address (places_by root limit) e.held =
      subst (λ (n : List ℕ). KnownHeld shown n (then_as root e).moment e.address (places_by root limit) e.held) named (subst (λ (t : Space). KnownHeld shown s.name (then_as root e).moment e.address t e.held) w.places by_root) in
      record { knows = all.knows; super_is = refl; root_is = one.root_is; held_is = all.is; cols = one.cols }

  all_known : (super : Super) (ranges : List Used) (names : List (List ℕ)) (bs : List Begun) (ss : List Session) (es : List Entry) → EachBegins img names bs ss es → AllPaired (HasBegunWith limit budget root) names ss
      → AreKnown img (places_by root limit) super ranges es → AreKnown shown (places_by root limit) root ranges (all_then root es)
  all_known super ranges _ _ _ _ no_part h k = tt
  all_known super ranges _ _ _ _ (a_part name b s e names bs ss es p rest) h k = (one_known super ranges name b s e p h.0 k.0, all_known super ranges names bs ss es rest h.1 k.1)

still_off : (super : Super) (e : Entry) (es : List Entry) → IsOff e es → IsOff (then_as super e) (all_then super es)
still_off super e [] off = tt
still_off super e (f ∷ es) off = (record { own = off.0.own; held = off.0.held; other = off.0.other }, still_off super e es off.1)

all_off : (super : Super) (es : List Entry) → AreOff es → AreOff (all_then super es)
all_off super [] off = tt
all_off super (e ∷ es) off = (still_off super e es off.0, all_off super es off.1)

pub opens_all : OpensAll
opens_all img size names t bs ss limit budget root valid reads opened begun low high =
    let a = are_begun img size limit budget root low high names bs ss (valid_names img t names t.rows (each_valid img names t valid)) reads opened begun in
    let apart = all_apart img names t (places_by root limit) a.entries valid a.here in
    record {
      entries = a.entries;
      each = a.each;
      ranges = apart.root;
      blocks = apart.blocks;
      known = all_known img size limit budget root low high apart.super apart.root names bs ss a.entries a.each begun apart.known;
      off = all_off root a.entries apart.off;
    }
