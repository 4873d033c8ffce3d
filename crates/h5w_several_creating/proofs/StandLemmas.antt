-- A session of several datasets that creates its file stands for the log to which nothing happened yet.
use Rattle.std.proofs.Common.{◌≡◌, ℕ, suc, ◌+◌, ◌*◌, ◌^◌, ◌<◌, ◌≤◌, Bool, false, List, [], ◌∷◌, ◌++◌, length, Ok, refl, sym, ◌∙◌, ap, subst, inl, inr, arith, append-nil, length-append}
use Rattle.std.specs.Prelude.{map, take}
use Rattle.std.specs.List.{AllByRecursion}
use Rattle.std.proofs.lemmas.List.{take_all}
use Rattle.h5w_model.specs.Findings.{Used}
use Rattle.h5w_model.specs.Images.{Holds, image, pieces}
use Rattle.h5w_model.specs.Numbers.{range}
use Rattle.h5w_model.specs.Relations.{AllPaired}
use Rattle.h5w_model.specs.Several.{FileLog, shown_in, shows_all}
use Rattle.h5w_model.specs.Superblock.{super_at}
use Rattle.h5w_model.specs.declared.piece.Write.{Write}
use Rattle.h5w_model.specs.declared.root.Super.{Super}
use Rattle.h5w_model.proofs.ImageLemmas.{Holds-front, Holds-rest}
use Rattle.h5w_space.specs.Space.{Space}
use Rattle.h5w_index.specs.Views.{IndexView}
use Rattle.h5w_creation_laws.specs.CreatedFiles.{CreatedFile, IsCreatable, block_write, root_place}
use Rattle.h5w_several_creation_laws.specs.SeveralFiles.{AreCreatable, all_sets, created_writes, end_behind, end_from, end_of, first_place, names_of, new_summary, root_block, root_bytes, root_ranges, set_at, sets_from, super_block, super_of}
use Rattle.h5w_several_creation_laws.specs.SeveralLaws.{AreNewFiles, EachStands}
use Rattle.h5w_several_creation_laws.proofs.PlaceLemmas.{end_above, end_small}
use Rattle.h5w_several_creation_laws.proofs.StandLaws.{several_sizes, several_stand}
use Rattle.h5w_several_laws.specs.Together.{IsAllValid, names_of as entry_names}
use Rattle.h5w_several_laws.specs.Turns.{AreKnown, Entry}
use Rattle.h5w_writer.specs.Creations.{places_to}
use Rattle.h5w_writer.specs.Loads.{end_in, first_end_of}
use Rattle.h5w_writer.specs.Openings.{opened_log}
use Rattle.h5w_writer.specs.Sessions.{AllEndBy, Session, Settles}
use Rattle.h5w_writer.proofs.CreatingLemmas.{writes_end}
use Rattle.h5w_writer.proofs.PastLemmas.{ends_later}
use Rattle.h5w_several_writer_laws.specs.Began.{BeginsOver, IsAmple, began_end}
use Rattle.h5w_several_writer_laws.specs.Seen.{IsOwn}
use Rattle.h5w_several_writer_laws.specs.Sessions.{AfterPieceOf, AreFlushing, Sessions, all_pending}
use Rattle.h5w_several_writer_laws.specs.Courses.{AreThrough, Stand, stands_of, then_shows}
use Rattle.h5w_several_writer_laws.specs.Standing.{AreStandingParts, IsStandingPart, StandsAll, StandsOn, and_then, most_in}
use Rattle.h5w_several_writer_laws.specs.Valid.{AreValidFrom}
use Rattle.h5w_several_writer_laws.proofs.CallLemmas.{calls_stand}
use Rattle.h5w_several_writer_laws.proofs.FlushAllLemmas.{stands_all}
use Rattle.h5w_several_writer_laws.proofs.SightLemmas.{seen_begun, seen_owns}
use Rattle.h5w_several_writer_laws.proofs.PastLemmas.{past_created}
use Rattle.h5w_several_open.specs.Datasets.{IsEntry}
use Rattle.h5w_several_open.proofs.DatasetLemmas.{all_apart}
use Rattle.h5w_several_creating.specs.Created.{AreIndexes, begun_of, created_all, created_file, created_part, created_parts, leading, showing_all}
use Rattle.h5w_several_creating.specs.Laws.{CreatesEach, CreatesStanding, IsCreating}
use Rattle.h5w_several_creating.proofs.PartLemmas.{is_entry, part_entry, read_here, untold}

-- ---- Lists

pub none_pending : (root : Super) (t : Space) (budget place : ℕ) (gs : List CreatedFile) (vs : List IndexView) → all_pending (created_parts root t budget place gs vs) ≡ []
none_pending root t budget place [] vs = refl
none_pending root t budget place (f ∷ gs) [] = refl
none_pending root t budget place (f ∷ gs) (v ∷ vs) = none_pending root t budget (end_behind place f) gs vs

led_pending : (ws : List Write) (ss : List Session) → 1 ≤ length ss → all_pending ss ≡ [] → all_pending (leading ws ss) ≡ ws
led_pending ws [] some none = absurd (omega (arith, some))
led_pending ws (s ∷ ss) some none = ap (λ (us : List Write). ws ++ us) (behind s.pending (all_pending ss) none) ∙ append-nil ws
  where
    behind : (us vs : List Write) → us ++ vs ≡ [] → vs ≡ []
    behind [] vs e = e
    behind (u ∷ us) vs e = cc

pub many_parts : (root : Super) (t : Space) (budget place : ℕ) (gs : List CreatedFile) (vs : List IndexView) → AreIndexes place gs vs → length (created_parts root t budget place gs vs) ≡ length gs
many_parts root t budget place [] vs x = refl
many_parts root t budget place (f ∷ gs) [] x = absurd x
many_parts root t budget place (f ∷ gs) (v ∷ vs) x = ap suc (many_parts root t budget (end_behind place f) gs vs x.1)

pub many_begun : (fs : List CreatedFile) → length (map begun_of fs) ≡ length fs
many_begun [] = refl
many_begun (f ∷ fs) = ap suc (many_begun fs)

entries_named : (img : List ℕ) (t : Space) (names : List (List ℕ)) (es : List Entry) → AllPaired (IsEntry img t) names es → entry_names es ≡ names
entries_named img t [] [] x = refl
entries_named img t [] (e ∷ es) x = absurd x
entries_named img t (name ∷ names) [] x = absurd x
entries_named img t (name ∷ names) (e ∷ es) x = ap (λ (n : List ℕ). n ∷ entry_names es) x.0.name_is ∙ ap (λ (ns : List (List ℕ)). name ∷ ns) (entries_named img t names es x.1)

-- known with whichever superblock they have
known_as : (img : List ℕ) (t : Space) (super root : Super) (us : List Used) (es : List Entry) → AllByRecursion (λ (e : Entry). e.moment.super ≡ root) es → AreKnown img t super us es → AreKnown img t root us es
known_as img t super root us [] is x = tt
known_as img t super root us (e ∷ es) is x =
    (record { knows = x.0.knows; super_is = is.0; root_is = x.0.root_is; held_is = x.0.held_is; cols = x.0.cols }, known_as img t super root us es is.1 x.1)

some_writes : (fs : List CreatedFile) → 1 ≤ length (created_writes fs)
some_writes fs =
    let sets = map block_write (all_sets fs) in
    let root = pieces root_place (root_bytes fs) in
    let last : List Write = block_write (super_block 5 fs) ∷ [] in
    omega (arith, length-append sets (root ++ last), length-append root last)

-- ---- All datasets

-- before all is shown no reader finds a file
unbegun_through : (log : FileLog) (xs : List Stand) (ws : List Write) → shown_in log.events + length ws ≤ log.first → AreThrough log xs ws
unbegun_through log xs [] few = tt
unbegun_through log xs (w ∷ ws) few = ((λ begun. absurd (omega (arith, begun, few))), unbegun_through (then_shows w log) xs ws (omega (arith, few)))

module _ (fs : List CreatedFile) (limit budget : ℕ) (h : AreCreatable fs) (low : 1024 * length fs ≤ limit) (high : limit ≤ 2 ^ 40) where
  abbrev img : List ℕ
  img = image [] (created_writes fs)

  abbrev root : Super
  root = super_of 5 fs

  abbrev t : Space
  t = places_to (end_of fs) limit

  abbrev log : FileLog
  log = created_file fs

  new : AreNewFiles 5 fs img
  new = (several_stand fs h).created

  began : began_end log ≡ 1024 * length fs
  began = ap (λ (n : ℕ). 1024 * n) (many_begun fs)

  ample : IsAmple t log
  ample = omega (arith, began, low)

  begins_over : (columns : ℕ) → super_at (range img 0 48) ≡ Ok root → BeginsOver log (opened_log img columns [])
  begins_over columns read =
      let end = (several_sizes fs h).end in
      let size = new.size in
      let ends : first_end_of (opened_log img columns []) ≡ end_of fs = ap end_in read in
      inr (refl, omega (arith, end, began, ends), omega (arith, end, size, began))

  record AreMade (place : ℕ) (gs : List CreatedFile) (vs : List IndexView) : Type 0 where
    entries : List Entry
    are : AllPaired (IsEntry img t) (names_of gs) entries
    supers : AllByRecursion (λ (e : Entry). e.moment.super ≡ root) entries
    stand : (us : List Used) (left : List Write) → left ≡ created_writes fs → (d : ℕ) (before : List Write) → AreStandingParts root t us left log d (map begun_of gs) before (created_parts root t budget place gs vs) entries
    lead : (us : List Used) (left : List Write) → left ≡ created_writes fs → (ws : List Write) → AreStandingParts root t us left log 0 (map begun_of gs) [] (leading ws (created_parts root t budget place gs vs)) entries

  all_made : (place : ℕ) (gs : List CreatedFile) (vs : List IndexView) → AllByRecursion IsCreatable gs → end_from place gs ≤ end_of fs → Holds img (sets_from place gs) → EachStands img root (root_ranges fs) place gs → AreIndexes place gs vs → AreMade place gs vs
  all_made place [] [] is within holds each index = record { entries = []; are = tt; supers = tt; stand = λ us left left_is d before. tt; lead = λ us left left_is ws. tt }
  all_made place [] (v ∷ vs) is within holds each index = absurd index
  all_made place (f ∷ gs) [] is within holds each index = absurd index
  all_made place (f ∷ gs) (v ∷ vs) is within holds each index =
      let next = end_behind place f in
      let more = end_above next gs in
      let small = end_small fs h in
      let inside : next ≤ end_of fs = omega (arith, more, within) in
      let bound : next < 2 ^ 62 = omega (arith, inside, small) in
      let own = Holds-front img (set_at place f) (sets_from next gs) holds in
      let s = created_part root t budget place f v in
      let e = part_entry fs limit budget img h.some low high place f v is.0 bound inside own each.0 index.0.0 index.0.1 in
      let entry = is_entry fs limit budget img h.some low high place f v is.0 bound inside own each.0 index.0.0 index.0.1 in
      let runs = untold fs limit budget img h.some low high place f v is.0 bound inside own each.0 index.0.0 index.0.1 in
      let read = read_here fs limit budget img h.some low high place f v is.0 bound inside own each.0 index.0.0 index.0.1 in
      let rest = all_made next gs vs is.1 within (Holds-rest img (set_at place f) (sets_from next gs) holds) each.1 index.1 in
      let b = begun_of f in
      let own_log = opened_log img f.columns [] in
      let seen : (d : ℕ) (left : List Write) → left ≡ created_writes fs → IsOwn t.limit log d b own_log left = λ d left left_is. subst (IsOwn t.limit log d b own_log) (sym left_is) (seen_owns t log d b own_log (created_writes fs) ample (seen_begun log d b (created_writes fs) refl refl (begins_over f.columns read))) in
      let part : (us : List Used) (left : List Write) → left ≡ created_writes fs → (d : ℕ) (before ws behind : List Write) → IsStandingPart root t us left log d b before (record s { pending = ws }) behind e = λ us left left_is d before ws behind. record {
        name = refl;
        early = refl;
        going = refl;
        each = λ begun. absurd (omega (arith, begun, some_writes fs));
        run = inr (record { calm = refl; some = λ none. absurd (let count = ap length (sym left_is ∙ none) in omega (arith, count, some_writes fs)); new = refl; first = let count = ap length left_is in omega (arith, count) });
        past = past_created log b (record s { root = root; places = t; pending = [] }) own_log e t refl (omega (arith, some_writes fs)) refl runs;
        phase = inl (record { calm = inr refl; own = own_log; seen = seen d left left_is; runs = runs });
      } in
      record {
        entries = e ∷ rest.entries;
        are = (entry, rest.are);
        supers = (refl, rest.supers);
        stand = λ us left left_is d before. (part us left left_is d before [] (all_pending (created_parts root t budget next gs vs)), rest.stand us left left_is (suc d) (before ++ []));
        lead = λ us left left_is ws. (part us left left_is 0 [] ws (all_pending (created_parts root t budget next gs vs)), rest.stand us left left_is 1 ws);
      }

  module _ (vs : List IndexView) (index : AreIndexes (first_place fs) fs vs) where
    abbrev S : Sessions
    S = created_all fs limit budget vs

    abbrev left : List Write
    left = all_pending S.parts

    made : AreMade (first_place fs) fs vs
    made =
        let reach : end_from (first_place fs) fs ≤ end_of fs = omega arith in
        all_made (first_place fs) fs vs h.each reach (Holds-front img (all_sets fs) (root_block fs ∷ super_block 5 fs ∷ []) new.blocks) new.stands index

    pub left_is : left ≡ created_writes fs
    left_is =
        let parts = created_parts root t budget (first_place fs) fs vs in
        led_pending (created_writes fs) parts (let n = many_parts root t budget (first_place fs) fs vs index in let some = h.some in omega (arith, n, some)) (none_pending root t budget (first_place fs) fs vs)

    named : entry_names made.entries ≡ names_of fs
    named = entries_named img t (names_of fs) made.entries made.are

    valid : AreValidFrom log.first [] (entry_names made.entries) ([] ++ left)
    valid p begun reached =
        let all : take p left ≡ created_writes fs = ap (take p) left_is ∙ take_all p (created_writes fs) (omega (arith, begun)) in
        subst (λ (ns : List (List ℕ)). IsAllValid (image [] (take p left)) ns) (sym named)
        (subst (λ (ws : List Write). IsAllValid (image [] ws) (names_of fs)) (sym all) (new_summary fs, new.valid))

    stands_on : StandsOn S log
    stands_on =
        let apart = all_apart img (names_of fs) (new_summary fs) t made.entries new.valid made.are in
        let sizes = several_sizes fs h in
        let end = sizes.end in
        record {
          ranges = apart.root;
          entries = made.entries;
          known = subst (λ (ws : List Write). AreKnown (image [] ws) t root apart.root made.entries) (sym left_is) (known_as img t apart.super root apart.root made.entries made.supers apart.known);
          off = apart.off;
          blocks = apart.blocks;
          parts = made.lead apart.root left left_is (created_writes fs);
          fits = omega (arith, end, low);
          low = ample;
          ends = subst (λ (ws : List Write). AllEndBy (most_in t log) ws) (sym left_is) (ends_later (end_of fs) (most_in t log) (created_writes fs) (omega (arith, end, low)) (writes_end (end_of fs) (created_writes fs) sizes.within));
          going = refl;
          valid = valid;
          course = unbegun_through log (stands_of 0 log.sets (entry_names made.entries)) left (let count = ap length left_is in omega (arith, count));
        }

    pub creating : IsCreating fs S
    creating =
        let end = (several_sizes fs h).end in
        record { pending = left_is; stands = stands_all S log stands_on; grown = omega (arith, end, began) }

pub creates_standing : CreatesStanding
creates_standing fs limit budget S h low high x = subst (IsCreating fs) (sym x.is) (creating fs limit budget h low high x.indexes x.are)

-- ---- Its pieces are shown

-- one of them
shows_one : (S : Sessions) (s : Session) (ss : List Session) (w : Write) (ws : List Write) → s.flushing ≡ false → (AreFlushing ss → ⊥)
    → AfterPieceOf w (record S { parts = record s { pending = w ∷ ws } ∷ ss }) (record S { parts = record s { pending = ws } ∷ ss })
shows_one S s ss w [] calm none = record {
  parts = inr ([], refl, subst (λ (b : Bool). Settles b (record s { pending = w ∷ [] }) (record s { pending = [] })) (sym calm) refl, refl);
  places = inr (inr (λ x. elim x [ inl own ↦ absurd (let e = sym calm ∙ own.1 in cc) | inr other ↦ none other ]), refl);
  session = refl;
}
shows_one S s ss w (x ∷ xs) calm none = record { parts = inr (x ∷ xs, refl, refl, refl); places = inr (inl (λ e. cc), refl); session = refl }

-- some of them, one after another
shows_some : (S : Sessions) (s : Session) (ss : List Session) → s.flushing ≡ false → (AreFlushing ss → ⊥) → (us ws : List Write) (log : FileLog) → StandsAll (record S { parts = record s { pending = us ++ ws } ∷ ss }) log
    → StandsAll (record S { parts = record s { pending = ws } ∷ ss }) (record log { events = showing_all us log.events })
shows_some S s ss calm none [] ws log st = st
shows_some S s ss calm none (u ∷ us) ws log st =
    let next = calls_stand.shown (record S { parts = record s { pending = u ∷ (us ++ ws) } ∷ ss }) (record S { parts = record s { pending = us ++ ws } ∷ ss }) u log st (shows_one S s ss u (us ++ ws) calm none) in
    shows_some S s ss calm none us ws (and_then (shows_all u) log) next

no_flush : (root : Super) (t : Space) (budget place : ℕ) (gs : List CreatedFile) (vs : List IndexView) → AreFlushing (created_parts root t budget place gs vs) → ⊥
no_flush root t budget place [] vs x = x
no_flush root t budget place (f ∷ gs) [] x = x
no_flush root t budget place (f ∷ gs) (v ∷ vs) (inl x) = absurd (let e = x.1 in cc)
no_flush root t budget place (f ∷ gs) (v ∷ vs) (inr x) = no_flush root t budget (end_behind place f) gs vs x

pub creates_each : CreatesEach
creates_each [] limit budget vs h low high index us ws is = absurd (let some = h.some in omega (arith, some))
creates_each (f ∷ gs) limit budget [] h low high index us ws is = absurd index
creates_each (f ∷ gs) limit budget (v ∷ vs) h low high index us ws is =
    let fs : List CreatedFile = f ∷ gs in
    let S = created_all fs limit budget (v ∷ vs) in
    let root = super_of 5 fs in
    let t = places_to (end_of fs) limit in
    let place = first_place fs in
    let s = created_part root t budget place f v in
    let ss = created_parts root t budget (end_behind place f) gs vs in
    let begun = (creating fs limit budget h low high (v ∷ vs) index).stands in
    shows_some S s ss refl (no_flush root t budget (end_behind place f) gs vs) us ws (created_file fs) (subst (λ (ps : List Write). StandsAll (record S { parts = record s { pending = ps } ∷ ss }) (created_file fs)) (sym is) begun)
