-- A takeover of a file of several datasets is never refused on the image of a session.
use Rattle.std.proofs.Common.{◌≡◌, ◌^◌, ℕ, zero, suc, ◌<◌, ◌≤◌, true, false, List, [], ◌∷◌, get_or, length, Option, Some, None, Result, Ok, Err, refl, sym, ap, ◌∙◌, subst, arith}
use Rattle.std.specs.Prelude.{map, slice_get, ◌==◌}
use Rattle.std.specs.List.{AllByRecursion, list_any}
use Rattle.std.specs.Option.{option_or}
use Rattle.h5w_model.specs.Datasets.{HeaderFields, all_linked, linked, refused_as, root_header, same_link, then_also}
use Rattle.h5w_model.specs.Findings.{AllSummary, AllValid, Part}
use Rattle.h5w_model.specs.Logs.{Log, first_rows, flushed_at}
use Rattle.h5w_model.specs.Numbers.{range}
use Rattle.h5w_model.specs.Prefixed.{image_at}
use Rattle.h5w_model.specs.Programs.{eval}
use Rattle.h5w_model.specs.Relations.{AllPaired, HasAll, IsPart}
use Rattle.h5w_model.specs.Several.{Begun, FileLog, log_of, shown_in}
use Rattle.h5w_model.specs.Superblock.{super_at}
use Rattle.h5w_model.specs.Tables.{format_limits}
use Rattle.h5w_model.specs.declared.root.Super.{Super}
use Rattle.h5w_laws.proofs.LinkLemmas.{IsLinked, links_from, same_links}
use Rattle.h5w_laws.proofs.ResultLemmas.{then_ok}
use Rattle.h5w_laws.proofs.SeveralLemmas.{all_ranges}
use Rattle.h5w_step_laws.specs.Moments.{Moment, Represents, reading_of}
use Rattle.h5w_step_laws.proofs.FoundLemmas.{moment_shows, opens}
use Rattle.h5w_step_laws.proofs.MomentLemmas.{super_parts}
use Rattle.h5w_several_laws.proofs.SeenLemmas.{seen_laws}
use Rattle.h5w_headers.specs.Walks.{root_header_for}
use Rattle.h5w_headers.proofs.RanLemmas.{same_value, step_ok}
use Rattle.h5w_index.specs.Views.{IndexView}
use Rattle.h5w_opening.specs.Fronts.{FrontFields, places_by, places_found, unlike, written_front}
use Rattle.h5w_opening.specs.Openings.{DatasetHeaderFields, Opened, dataset_found, place_found, refused_dataset, super_by, written_super}
use Rattle.h5w_opening.specs.declared.error.OpenError.{OpenError}
use Rattle.h5w_opening.specs.declared.error.OpenError.TheVariants.{Read}
use Rattle.h5w_opening.proofs.FrontLemmas.{fronted_by, fronts_give, places_behind}
use Rattle.h5w_opening.proofs.WritingLemmas.{alike_ok, root_alike}
use Rattle.h5w_writer.specs.Sessions.{Session}
use Rattle.h5w_writer_open.specs.declared.index.NoIndex.{NoIndex}
use Rattle.h5w_writer_open.specs.declared.index.NoIndex.TheVariants.{Unnamed, Empty, WrongTotals, Unordered}
use Rattle.h5w_writer_open.specs.OpenAnswers.{IsBadBlock, IsIndexOf}
use Rattle.h5w_writer_open.specs.OpenParts.{IsReadAt, IsUnread, bad_block, bad_range, no_header, opened_at, refused_part}
use Rattle.h5w_writer_open.specs.OpenRanges.{ranges_refused, refused_index}
use Rattle.h5w_writer_open.proofs.OverFile.{HasParts, same_answer}
use Rattle.h5w_several_writer_laws.specs.Laws.{PartTells}
use Rattle.h5w_several_writer_laws.specs.Sessions.{AreSessions, Sessions}
use Rattle.h5w_several_writer_laws.specs.Standing.{StandsAll}
use Rattle.h5w_several_writer_laws.specs.Together.{file_at}
use Rattle.h5w_several_writer_laws.specs.Valid.{names_in}
use Rattle.h5w_several_writer_laws.proofs.GiveLemmas.{standing_all}
use Rattle.h5w_several_writer_laws.proofs.SeenLemmas.{length_pieces}
use Rattle.h5w_several_writer_laws.proofs.TogetherLemmas.{all_names_laws, many_names}
use Rattle.h5w_several_open.specs.Beginnings.{HadFlags, taken_over, written_at, written_found}
use Rattle.h5w_several_open.specs.Taken.{IsNotTakenBy, closed_front, no_front, unfit, unread}
use Rattle.h5w_several_open.specs.declared.beginning.Beginning.TheVariants as beginnings
use Rattle.h5w_several_open.proofs.AloneLemmas.{WrittenAt, behind_at, found_at, with_root, written_at_tells}
use Rattle.h5w_several_open.proofs.TakeAnswers.{super_written, written_tells}
use Rattle.h5w_reopening_laws.proofs.SinceLemmas.{IsWritten, onward}
use Rattle.h5w_takeover_laws.specs.Refused.{IsBegunFile, IsLeftOpen}
use Rattle.h5w_takeover_laws.specs.Several.{NeverRefusedAll}
use Rattle.h5w_takeover_laws.proofs.AnewLemmas.{seen_image}
use Rattle.h5w_writer_open.proofs.LeftLemmas.{never_unordered, never_wrong, no_bad, no_range}
use Rattle.h5w_takeover_laws.proofs.RefusedLemmas.{begun_parts, finds, found_written, had_both, unrefused_here}

-- ---- One dataset

-- It is at a moment, and can be written.
pub record CanTake (img name : List ℕ) : Type 0 where
  pub moment : Moment
  pub file : Represents img name moment
  pub written : IsWritten img moment
  pub some : 0 < moment.dataset.shape.cols

-- it is found as one that is written, and nothing refuses it
pub record IsLeftFile (img name : List ℕ) : Type 0 where
  found : Opened
  is : written_found (length img) name img ≡ Ok found
  unrefused : refused_dataset found ≡ None
  moment : Moment
  file : Represents img name moment

pack : (img name : List ℕ) (m : Moment) (o : Opened) → written_found (length img) name img ≡ Ok o → refused_dataset o ≡ None → Represents img name m → IsLeftFile img name
pack img name m o is fit file = record { found = o; is = is; unrefused = fit; moment = m; file = file }

pub left_file : (img name : List ℕ) → IsLeftOpen img → CanTake img name → IsLeftFile img name
left_file img name left x =
    let m = x.moment in
    let same : left.root ≡ m.super = same_answer (super_at (range img 0 48)) left.root m.super left.read (super_parts (length img) (range img 0 48) m.super x.file.super).read in
    let version : m.super.version ≡ 3 = sym (ap (λ (s : Super). s.version) same) ∙ left.says.version in
    pack img name m _ (finds img name m x.file x.written.can version (subst (λ (s : Super). HadFlags taken_over s.flags) same (had_both left.root left.says))) (unrefused_here img name m x.file x.written.can x.written.small x.some) x.file

module _ (img name : List ℕ) (x : IsLeftFile img name) (short : length img < 2 ^ 64) (root : Super) (place : ℕ) (h : HeaderFields) (super : super_at (range img 0 48) ≡ Ok root) (read : eval img (root_header_for true root.root) ≡ Ok h) (link : linked name h.messages ≡ Ok place) where
  abbrev at : (y : Super × ℕ) × (written_at (length img) name img ≡ Ok y) × (behind_at img y ≡ Ok x.found)
  at = then_ok (written_at (length img) name img) (behind_at img) x.found x.is

  abbrev told : WrittenAt img name at.0.0 at.0.1
  told = written_at_tells img name (length img) at.0.0 at.0.1 at.1

  abbrev held : (g : DatasetHeaderFields) × (dataset_found at.0.1 img ≡ Ok g) × (found_at at.0.0 at.0.1 g ≡ Ok x.found)
  held = then_ok (dataset_found at.0.1 img) (found_at at.0.0 at.0.1) x.found at.2

  abbrev said : DatasetHeaderFields
  said = held.0

  root_is : at.0.0 ≡ root
  root_is = same_answer (super_at (range img 0 48)) at.0.0 root told.super super

  place_is : at.0.1 ≡ place
  place_is =
      let header : told.header ≡ h = same_answer (eval img (root_header_for true root.root)) told.header h (ap (λ (s : Super). eval img (root_header_for true s.root)) (sym root_is) ∙ told.read) read in
      same_answer (linked name h.messages) at.0.1 place (subst (λ (g : HeaderFields). linked name g.messages ≡ Ok at.0.1) header told.link) link

  there : dataset_found place img ≡ Ok said
  there = ap (λ (n : ℕ). dataset_found n img) (sym place_is) ∙ held.1

  abbrev o : Opened
  o = opened_at root place said

  o_is : o ≡ x.found
  o_is =
      ap (λ (s : Super). opened_at s place said) (sym root_is) ∙ ap (λ (n : ℕ). opened_at at.0.0 n said) (sym place_is)
      ∙ same_value {E = OpenError} (opened_at at.0.0 at.0.1 said) x.found held.2

  own : HasParts img name o
  own = subst (HasParts img name) (sym o_is) (begun_parts beginnings.TakenOver img name (length img) x.found x.is)

  fit : refused_dataset o ≡ None
  fit = ap refused_dataset o_is ∙ x.unrefused

  same_said : (g : DatasetHeaderFields) → dataset_found place img ≡ Ok g → g ≡ said
  same_said g is = same_answer (dataset_found place img) g said is there

  -- it is read
  never_unread : (e : OpenError) → IsUnread img (closed_front root) place e → ⊥
  never_unread e (no_header f is) = let clash : ◌≡◌ {A = Result DatasetHeaderFields OpenError} (Ok said) (Err f) = sym there ∙ is in absurd cc
  never_unread e (bad_block g at_block f is bad) =
      no_bad img name o x.moment own x.file short at_block f (subst (λ (y : DatasetHeaderFields). IsBadBlock img y.dataset at_block f) (same_said g is) bad)
  never_unread e (bad_range g a f is index refused) =
      let same = same_said g is in
      let none : ranges_refused o a ≡ None = no_range img name o x.moment own x.file short a (subst (λ (y : DatasetHeaderFields). IsIndexOf img y.dataset a) same index) in
      let some : ranges_refused o a ≡ Some f = subst (λ (y : DatasetHeaderFields). ranges_refused (opened_at (closed_front root) place y) a ≡ Some f) same refused in
      let clash : ◌≡◌ {A = Option OpenError} None (Some f) = sym none ∙ some in
      absurd cc

  no_index : (a : Result IndexView NoIndex) (e : OpenError) → IsIndexOf img said.dataset a → refused_index said.dataset a ≡ Some e → ⊥
  no_index (Ok v) e y h = absurd cc
  no_index (Err Unnamed) e y h = absurd cc
  no_index (Err Empty) e y h = absurd cc
  no_index (Err WrongTotals) e y h = never_wrong img name o x.moment own x.file short y
  no_index (Err Unordered) e y h = never_unordered img name o x.moment own x.file short y

  -- rows may be appended to it
  never_unfit : (p : Opened) (a : Result IndexView NoIndex) (e : OpenError) → IsReadAt img (closed_front root) place p a → refused_part p a ≡ Some e → ⊥
  never_unfit p a e r why =
      let same = same_said p.header r.header in
      let none : refused_dataset p ≡ None = ap (λ (y : DatasetHeaderFields). refused_dataset (opened_at root place y)) same ∙ fit in
      let index : refused_index p.header.dataset a ≡ Some e = sym (ap (λ (r : Option OpenError). option_or r (refused_index p.header.dataset a)) none) ∙ why in
      no_index a e (subst (λ (y : DatasetHeaderFields). IsIndexOf img y.dataset a) same r.index) (subst (λ (y : DatasetHeaderFields). refused_index y.dataset a ≡ Some e) same index)

-- ---- All of them

record IsOneOf (P : List ℕ → ℕ → Type 0) (Q : List ℕ → Type 0) (place : ℕ) : Type 0 where
  name : List ℕ
  paired : P name place
  alone : Q name

one_of : (P : List ℕ → ℕ → Type 0) (Q : List ℕ → Type 0) (names : List (List ℕ)) (places : List ℕ) (i : ℕ) → AllPaired P names places → AllByRecursion Q names → i < length places → IsOneOf P Q (get_or places i 0)
one_of P Q names [] i h g low = absurd (omega (arith, low))
one_of P Q [] (p ∷ places) i h g low = absurd h
one_of P Q (name ∷ names) (p ∷ places) zero h g low = record { name = name; paired = h.0; alone = g.0 }
one_of P Q (name ∷ names) (p ∷ places) (suc i) h g low = one_of P Q names places i h.1 g.1 (omega (arith, low))

all_as : (P Q : List ℕ → Type 0) (names : List (List ℕ)) → ((name : List ℕ) → P name → Q name) → AllByRecursion P names → AllByRecursion Q names
all_as P Q [] f h = tt
all_as P Q (name ∷ names) f h = (f name h.0, all_as P Q names f h.1)

links_of : (img : List ℕ) (s : Super) (h : HeaderFields) (names : List (List ℕ)) (ps : List Part) → AllPaired (IsPart format_limits img s h.messages) names ps → AllPaired (IsLinked h.messages) names (map (λ (p : Part). p.place) ps)
links_of img s h [] [] x = tt
links_of img s h [] (p ∷ ps) x = absurd x
links_of img s h (name ∷ names) [] x = absurd x
links_of img s h (name ∷ names) (p ∷ ps) x = (x.0.link, links_of img s h names ps x.1)

none_before : (places : List ℕ) → AllByRecursion (λ (p : ℕ). list_any (λ a. a == p) [] ≡ false) places
none_before [] = tt
none_before (p ∷ places) = (refl, none_before places)

module _ (img : List ℕ) (names : List (List ℕ)) (t : AllSummary) (valid : AllValid img names t) (left : IsLeftOpen img) (each : AllByRecursion (IsLeftFile img) names) (short : length img < 2 ^ 64) where
  abbrev all : HasAll format_limits img names t
  all = (all_ranges img names t valid).all

  abbrev places : List ℕ
  places = map (λ (p : Part). p.place) all.parts

  super_is : all.superblock ≡ left.root
  super_is = same_answer (super_at (range img 0 48)) all.superblock left.root (super_parts (length img) (range img 0 48) all.superblock all.found).read left.read

  no_two : (all_linked names all.root.messages ≡ Ok places) × (same_link places ≡ None)
  no_two =
      (same_links.found left.root.root names all.root.messages places).0
      (links_from left.root.root all.root.messages [] names places (record { are = links_of img all.superblock all.root names all.parts all.linked_to; differ = all.differ; anew = none_before places }))

  -- the front is found, as it is by one name
  front_found : (name : List ℕ) → IsLeftFile img name → eval img (written_front (length img) names) ≡ Ok (record { root = left.root; places = places })
  front_found name x =
      let at = then_ok (written_at (length img) name img) (behind_at img) x.found x.is in
      let w = written_at_tells img name (length img) at.0.0 at.0.1 at.1 in
      let s = then_ok (super_by (written_super (length img)) img) (λ (s : Super). then_also (place_found name s.root img) (with_root s)) at.0 at.1 in
      let super_same : s.0 ≡ left.root = same_answer (super_at (range img 0 48)) s.0 left.root (super_written img (length img) s.0 s.1).super left.read in
      let root_same : at.0.0 ≡ left.root = same_answer (super_at (range img 0 48)) at.0.0 left.root w.super left.read in
      let tested : super_by (written_super (length img)) img ≡ Ok left.root = s.1 ∙ ap (λ (r : Super). let y : Result Super OpenError = Ok r in y) super_same in
      let read : eval img (root_header_for true left.root.root) ≡ Ok w.header = ap (λ (r : Super). eval img (root_header_for true r.root)) (sym root_same) ∙ w.read in
      let known : eval img (root_header left.root.root) ≡ Ok all.root = ap (λ (r : Super). eval img (root_header r.root)) (sym super_is) ∙ all.read in
      let header : w.header ≡ all.root = same_answer (eval img (root_header left.root.root)) w.header all.root (alike_ok (eval img (root_header left.root.root)) (eval img (root_header_for true left.root.root)) w.header (root_alike img left.root.root) read) known in
      let own : eval img (root_header_for true left.root.root) ≡ Ok all.root = read ∙ ap (λ (g : HeaderFields). Ok g) header in
      let told : places_by names all.root.messages ≡ Ok places =
      step_ok (refused_as Read (all_linked names all.root.messages)) places (λ ps. unlike ps (same_link ps)) (ap (refused_as Read) no_two.0) ∙ ap (unlike places) no_two.1 in
      let here : places_found names left.root.root img ≡ Ok places =
      step_ok (refused_as Read (eval img (root_header_for true left.root.root))) all.root (λ (g : HeaderFields). places_by names g.messages) (ap (refused_as Read) own) ∙ told in
      fronts_give (written_super (length img)) img names
      ∙ step_ok (super_by (written_super (length img)) img) left.root (places_behind names img) tested
      ∙ step_ok (places_found names left.root.root img) places (fronted_by left.root) here

  pub nothing_refuses : 1 ≤ length names → (e : OpenError) → IsNotTakenBy img (length img) names e → ⊥
  nothing_refuses some e (no_front f is) = none_front names each some (λ name x. front_found name x) f is
    where
      none_front : (ns : List (List ℕ)) → AllByRecursion (IsLeftFile img) ns → 1 ≤ length ns → ((name : List ℕ) → IsLeftFile img name → eval img (written_front (length img) names) ≡ Ok (record { root = left.root; places = places })) → (g : OpenError)
          → eval img (written_front (length img) names) ≡ Err g → ⊥
      none_front [] h many found g bad = absurd (omega (arith, many))
      none_front (n ∷ ns) h many found g bad =
          let clash : ◌≡◌ {A = Result FrontFields OpenError} (Ok (record { root = left.root; places = places })) (Err g) = sym (found n h.0) ∙ bad in absurd cc
  nothing_refuses some e (unread f g is u) =
      let w = written_tells img (length img) f.root names f.places is in
      let one = one_of (IsLinked w.header.messages) (IsLeftFile img) names f.places u.number w.each each u.inside in
      never_unread img one.name one.alone short f.root (get_or f.places u.number 0) w.header w.super w.read one.paired g u.why
  nothing_refuses some e (unfit f g is ok u) =
      let w = written_tells img (length img) f.root names f.places is in
      let one = one_of (IsLinked w.header.messages) (IsLeftFile img) names f.places u.number w.each each u.inside in
      never_unfit img one.name one.alone short f.root (get_or f.places u.number 0) w.header w.super w.read one.paired u.found u.index g u.read u.why

-- ---- At each position

module _ (S : Sessions) (log : FileLog) (p : ℕ) (st : StandsAll S log) (begun : log.first ≤ p) (reached : p ≤ shown_in log.events) where
  -- a dataset at a position
  record IsThere (img name : List ℕ) : Type 0 where
    moment : Moment
    file : Represents img name moment
    columns : 0 < moment.dataset.shape.cols

  there_at : (q : ℕ) → log.first ≤ q → q ≤ shown_in log.events → (d : ℕ) (b : Begun) (s : Session) → PartTells log d b s → IsThere (file_at log q) s.name
  there_at q first last d b s told =
      let l : Log = log_of d b log in
      let here = told.prefixed q (record { begun = first; reached = omega (arith, last, length_pieces log.events, ap length (seen_laws.pieces d log.events)) }) in
      let f = opens (image_at l q) s.name (flushed_at l q) b.columns (first_rows l (flushed_at l q)) here.summary here.valid here.reads in
      let same = told.columns in
      let some = told.some_columns in
      record { moment = f.0; file = subst (λ (i : List ℕ). Represents i s.name f.0) (seen_image log d b q) f.1; columns = omega (arith, f.4, same, some) }

  -- it can be written at the first position
  first_take : (d : ℕ) (b : Begun) (s : Session) → slice_get log.sets d ≡ Some b → slice_get S.parts d ≡ Some s → IsBegunFile (file_at log log.first) s.name → CanTake (file_at log log.first) s.name
  first_take d b s set part given =
      let was = there_at log.first (omega arith) (omega (arith, begun, reached)) d b s (standing_all.tells S log st d b s set part) in
      let written = found_written (file_at log log.first) s.name given.found was.moment (begun_parts given.by (file_at log log.first) s.name (length (file_at log log.first)) given.found given.is) was.file given.unrefused in
      record { moment = was.moment; file = was.file; written = written; some = was.columns }

  -- so it can at the later one
  can_take : (d : ℕ) (b : Begun) (s : Session) → slice_get log.sets d ≡ Some b → slice_get S.parts d ≡ Some s → CanTake (file_at log log.first) s.name → CanTake (file_at log p) s.name
  can_take d b s set part was =
      let told : PartTells log d b s = standing_all.tells S log st d b s set part in
      let l : Log = log_of d b log in
      let now = there_at p begun reached d b s told in
      let early : log.first ≤ shown_in log.events = omega (arith, begun, reached) in
      let count = ap length (seen_laws.pieces d log.events) in
      let old_file : Represents (image_at l log.first) s.name was.moment = subst (λ (i : List ℕ). Represents i s.name was.moment) (sym (seen_image log d b log.first)) was.file in
      let new_file : Represents (image_at l p) s.name now.moment = subst (λ (i : List ℕ). Represents i s.name now.moment) (sym (seen_image log d b p)) now.file in
      let stays = (told.held log.first p (reading_of was.moment) (reading_of now.moment) (record { begun = omega arith; reached = omega (arith, early, length_pieces log.events, count) }) (record { begun = begun; reached = omega (arith, reached, length_pieces log.events, count) }) begun
      (moment_shows (image_at l log.first) s.name was.moment old_file) (moment_shows (image_at l p) s.name now.moment new_file)).stays in
      let by_log : IsWritten (image_at l log.first) was.moment = subst (λ (i : List ℕ). IsWritten i was.moment) (sym (seen_image log d b log.first)) was.written in
      let written = onward (image_at l log.first) (image_at l p) s.name was.moment now.moment old_file new_file stays by_log in
      record { moment = now.moment; file = now.file; written = subst (λ (i : List ℕ). IsWritten i now.moment) (seen_image log d b p) written; some = now.columns }

all_take : (P Q : List ℕ → Type 0) (bs : List Begun) (ss : List Session) → length bs ≡ length ss → ((i : ℕ) (b : Begun) (s : Session) → slice_get bs i ≡ Some b → slice_get ss i ≡ Some s → P s.name → Q s.name) → AllByRecursion P (names_in ss)
    → AllByRecursion Q (names_in ss)
all_take P Q bs [] same each given = tt
all_take P Q [] (s ∷ ss) same each given = absurd (omega (arith, same))
all_take P Q (b ∷ bs) (s ∷ ss) same each given = (each 0 b s refl refl given.0, all_take P Q bs ss (omega (arith, same)) (λ i c t set part h. each (suc i) c t set part h) given.1)

-- where each dataset can be written at the first position
pub refuses_none : (S : Sessions) (log : FileLog) (p : ℕ) (e : OpenError) → StandsAll S log → AreSessions S → log.first ≤ p → p ≤ shown_in log.events → AllByRecursion (CanTake (file_at log log.first)) (names_in S.parts) → length log.start < 2 ^ 64
    → IsLeftOpen (file_at log p) → IsNotTakenBy (file_at log p) (length (file_at log p)) (names_in S.parts) e → ⊥
refuses_none S log p e st are begun reached given short left why =
    let img = file_at log p in
    let names = names_in S.parts in
    let found = all_names_laws.each S log st p begun reached in
    let can = all_take (CanTake (file_at log log.first)) (CanTake img) log.sets S.parts (standing_all.sets S log st) (can_take S log p st begun reached) given in
    let each = all_as (CanTake img) (IsLeftFile img) names (λ name x. left_file img name left x) can in
    nothing_refuses img names found.summary found.valid left each (fits S.parts log.sets (standing_all.sets S log st) are.some (λ b s set part. fits_at b s set part)) (omega (arith, are.some, many_names S.parts)) e why
  where
    fits_at : (b : Begun) (s : Session) → slice_get log.sets 0 ≡ Some b → slice_get S.parts 0 ≡ Some s → length (file_at log p) < 2 ^ 64
    fits_at b s set part =
        let low = standing_all.fits S log st 0 b s set part p (record { begun = begun; reached = omega (arith, reached, length_pieces log.events, ap length (seen_laws.pieces 0 log.events)) }) in
        let limit = are.limit in
        omega (arith, low, limit, short, ap length (seen_image log 0 b p))

    fits : (ss : List Session) (bs : List Begun) → length bs ≡ length ss → 1 ≤ length ss → ((b : Begun) (s : Session) → slice_get bs 0 ≡ Some b → slice_get ss 0 ≡ Some s → length (file_at log p) < 2 ^ 64) → length (file_at log p) < 2 ^ 64
    fits [] bs same some each = absurd (omega (arith, some))
    fits (s ∷ ss) [] same some each = absurd (omega (arith, same))
    fits (s ∷ ss) (b ∷ bs) same some each = each b s refl refl

pub never_refused_all : NeverRefusedAll
never_refused_all S log p e st are begun reached given short left why =
    refuses_none S log p e st are begun reached
    (all_take (IsBegunFile (file_at log log.first)) (CanTake (file_at log log.first)) log.sets S.parts (standing_all.sets S log st) (first_take S log p st begun reached) given) short left why
