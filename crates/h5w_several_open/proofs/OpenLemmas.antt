-- The datasets of a file that is opened by several names, one after another.
use Rattle.std.proofs.Common.{◌≡◌, ℕ, zero, suc, ◌+◌, ◌<◌, ◌≤◌, true, List, [], ◌∷◌, ◌++◌, get_or, length, take, Option, Some, None, Result, Ok, Err, refl, sym, ap, ◌∙◌, subst, arith}
use Rattle.std.specs.Prelude.{IfErr, IfOk, IfSome}
use Rattle.std.specs.List.{AllByRecursion}
use Rattle.std.proofs.lemmas.List.{take_all, take_more}
use Rattle.h5w_model.specs.Causes.{Rose}
use Rattle.h5w_model.specs.Numbers.{range}
use Rattle.h5w_model.specs.Programs.{eval}
use Rattle.h5w_model.specs.Datasets.{FoundMessage, HeaderFields, all_linked, linked, refused_as, same_link, then_also}
use Rattle.h5w_model.specs.Relations.{AllPaired}
use Rattle.h5w_model.specs.Superblock.{super_at, super_bytes}
use Rattle.h5w_model.specs.declared.root.Super.{Super}
use Rattle.h5w_model.specs.declared.refusal.ReadError.{ReadError}
use Rattle.h5w_laws.proofs.ApartLemmas.{all_joined}
use Rattle.h5w_laws.proofs.ResultLemmas.{refused_ok, then_ok}
use Rattle.h5w_image.specs.View.{ImageView, Looked}
use Rattle.h5w_image.proofs.ViewLemmas.{looked_itself, looked_twice}
use Rattle.h5w_looks.specs.Still.{IsStill}
use Rattle.h5w_looks.proofs.ReadLemmas.{still_on}
use Rattle.h5w_headers.specs.Walks.{root_header_for}
use Rattle.h5w_headers.proofs.RanLemmas.{later, same_value, step_ok}
use Rattle.h5w_headers.specs.Ran.{Refuses, seen}
use Rattle.h5w_index.specs.Held.{view_of}
use Rattle.h5w_index.specs.Views.{IndexView}
use Rattle.h5w_index.specs.declared.index.Index.{Index as HeldIndex}
use Rattle.h5w_opening.specs.Views.{opened_of}
use Rattle.h5w_opening.specs.declared.finding.Opening.{Opening}
use Rattle.h5w_space.specs.Space.{Space}
use Rattle.h5w_laws.proofs.LinkLemmas.{IsLinked}
use Rattle.h5w_opening.specs.Errors.{IsOpenKind, refusal_of}
use Rattle.h5w_opening.specs.Fronts.{FrontFields, front_by, front_for, places_by, places_found, unlike}
use Rattle.h5w_opening.specs.Openings.{Opened, closed_super, dataset_found, looked_for, place_found, super_by, super_found}
use Rattle.h5w_opening.specs.declared.error.OpenError.{OpenError}
use Rattle.h5w_opening.specs.declared.error.OpenError.TheVariants.{Failed, Read}
use Rattle.h5w_opening.proofs.FoundParts.{parts, super_found_by}
use Rattle.h5w_opening.proofs.FrontLemmas.{fronted_by, fronts_give, places_behind}
use Rattle.h5w_opening.proofs.OpeningLemmas.{behind_place, behind_super, opened_by, opening_gives}
use Rattle.h5w_writer.specs.Sessions.{Session}
use Rattle.h5w_writer_open.specs.declared.index.NoIndex.{NoIndex}
use Rattle.h5w_writer_open.specs.OpenAnswers.{HasBegun, IfRefusal, IsOpenedOver, opened_session}
use Rattle.h5w_writer_open.specs.OpenParts.{IsPartOver, IsReadAt, IsUnfit, IsUnread, refused_part}
use Rattle.h5w_writer_open.specs.OpenSteps.{OpenStep, Says, front_of, versioned}
use Rattle.h5w_writer_open.proofs.OpenAnswerLemmas.{own_version}
use Rattle.h5w_writer_open.proofs.OpenStepLemmas.{refusal_map}
use Rattle.h5w_writer_open.proofs.PartLemmas.{kept_at, open_part, read_bad, read_good}
use Rattle.h5w_several_open.specs.Answers.{CanRead, FirstUnfit, HasBegunWith, HaveBegun, IsFit, IsNotOpenedBy, IsOpenAnswerOf, no_front, unfit, unread}
use Rattle.h5w_several_open.specs.Progress.{ArePartsAnswer, AreSessionsAt, AreTold, IsPartAt, IsRefusedAt, IsSessionAt, SoFar, a_session, first_refusal, joined, no_session, unfit_at, unread_at, writing_root}

-- ---- Lists

pub paired_more : {A B : Type 0} (P : A → B → Type 0) (xs : List A) (ys : List B) (x : A) (y : B) → AllPaired P xs ys → P x y → AllPaired P (xs ++ x ∷ []) (ys ++ y ∷ [])
paired_more P [] [] x y h p = (p, tt)
paired_more P [] (z ∷ ys) x y h p = absurd h
paired_more P (w ∷ xs) [] x y h p = absurd h
paired_more P (w ∷ xs) (z ∷ ys) x y h p = (h.0, paired_more P xs ys x y h.1 p)

same_get : {A : Type 0} (xs : List A) (i : ℕ) (a b : A) → i < length xs → get_or xs i a ≡ get_or xs i b
same_get [] i a b lt = absurd (omega (arith, lt))
same_get (x ∷ xs) zero a b lt = refl
same_get (x ∷ xs) (suc i) a b lt = same_get xs i a b (omega (arith, lt))

-- the name of this number, as a loop tells it
pub called_by : (names items : List (List ℕ)) (i : ℕ) (called item : List ℕ) → called ≡ item → item ≡ get_or items i item → items ≡ names → i < length names → called ≡ get_or names i []
called_by names items i called item e f g lt = e ∙ f ∙ ap (λ (xs : List (List ℕ)). get_or xs i item) g ∙ same_get names i item [] lt

take_length_or : {A : Type 0} (xs : List A) (i : ℕ) → i ≡ length xs → take i xs ≡ xs
take_length_or xs i e = take_all i xs (omega (arith, e))

-- one session more
sessions_more : (img : List ℕ) (root : Super) (limit budget : ℕ) (n : List ℕ) (p : ℕ) (s : Session) (names : List (List ℕ)) (places : List ℕ) (ss : List Session) → IsSessionAt img root limit budget n p s → AreSessionsAt img root limit budget names places ss
    → AreSessionsAt img root limit budget (names ++ n ∷ []) (places ++ p ∷ []) (ss ++ s ∷ [])
sessions_more img root limit budget n p s _ _ _ x no_session = a_session n p s [] [] [] x no_session
sessions_more img root limit budget n p s _ _ _ x (a_session m q t names places ss y rest) = a_session m q t (names ++ n ∷ []) (places ++ p ∷ []) (ss ++ s ∷ []) y (sessions_more img root limit budget n p s names places ss x rest)

-- ---- What the front tells of each name

abbrev as_places : List ℕ → Result (List ℕ) ReadError
as_places ps = Ok ps

linked_each : (names : List (List ℕ)) (ms : List FoundMessage) (places : List ℕ) → all_linked names ms ≡ Ok places → AllPaired (IsLinked ms) names places
linked_each [] ms places h = subst (AllPaired (IsLinked ms) []) (same_value {E = ReadError} [] places h) tt
linked_each (name ∷ names) ms places h =
    let one = then_ok (linked name ms) (λ at. then_also (all_linked names ms) (λ rest. as_places (at ∷ rest))) places h in
    let more = then_ok (all_linked names ms) (λ rest. as_places (one.0 ∷ rest)) places one.2 in
    subst (AllPaired (IsLinked ms) (name ∷ names)) (same_value {E = ReadError} (one.0 ∷ more.0) places more.2) (one.1, linked_each names ms more.0 more.1)

unlike_same : (places ps : List ℕ) (o : Option (ℕ × ℕ)) → unlike places o ≡ Ok ps → places ≡ ps
unlike_same places ps None h = same_value {E = OpenError} places ps h
unlike_same places ps (Some same) h = absurd cc

-- the superblock and the places of the front, where the superblock is tested so
pub record IsFront (tested : Super → Result Super OpenError) (img : List ℕ) (root : Super) (names : List (List ℕ)) (places : List ℕ) : Type 0 where
  pub super : super_by tested img ≡ Ok root
  pub header : HeaderFields
  pub read : eval img (root_header_for true root.root) ≡ Ok header
  pub each : AllPaired (IsLinked header.messages) names places

abbrev as_front : FrontFields → Result FrontFields OpenError
as_front f = Ok f

same_front : (f g : FrontFields) → as_front f ≡ as_front g → f ≡ g
same_front f g h = cc

pub fronts_tell : (tested : Super → Result Super OpenError) (img : List ℕ) (root : Super) (names : List (List ℕ)) (places : List ℕ) → eval img (front_by tested names) ≡ Ok (record { root = root; places = places }) → IsFront tested img root names places
fronts_tell tested img root names places h =
    let t = then_ok (super_by tested img) (places_behind names img) (record { root = root; places = places }) (sym (fronts_give tested img names) ∙ h) in
    let u = then_ok (places_found names t.0.root img) (fronted_by t.0) (record { root = root; places = places }) t.2 in
    let r = then_ok (refused_as Read (eval img (root_header_for true t.0.root))) (λ (x : HeaderFields). places_by names x.messages) u.0 u.1 in
    let l = then_ok (refused_as Read (all_linked names r.0.messages)) (λ ps. unlike ps (same_link ps)) u.0 r.2 in
    let all = linked_each names r.0.messages l.0 (refused_ok Read (all_linked names r.0.messages) l.0 l.1) in
    let same : l.0 ≡ u.0 = unlike_same l.0 u.0 (same_link l.0) l.2 in
    let made : FrontFields = record { root = t.0; places = u.0 } in
    let is : made ≡ record { root = root; places = places } = same_front made (record { root = root; places = places }) u.2 in
    subst (λ (f : FrontFields). IsFront tested img f.root names f.places) is
    (record { super = t.1; header = r.0; read = refused_ok Read (eval img (root_header_for true t.0.root)) r.0 r.1; each = subst (AllPaired (IsLinked r.0.messages) names) same all })

pub front_tells : (img : List ℕ) (size : ℕ) (root : Super) (names : List (List ℕ)) (places : List ℕ) → eval img (front_for size names) ≡ Ok (record { root = root; places = places }) → IsFront (closed_super size) img root names places
front_tells img size root names places h = fronts_tell (closed_super size) img root names places h

-- all that is looked at by one of the names is its dataset header, behind the front
pub looked_at : (img : List ℕ) (size : ℕ) (root : Super) (name : List ℕ) (place : ℕ) (h : HeaderFields) → super_found size img ≡ Ok root → eval img (root_header_for true root.root) ≡ Ok h → linked name h.messages ≡ Ok place
    → eval img (looked_for size name) ≡ behind_place root img place
looked_at img size root name place h super read link =
    opening_gives img name size
    ∙ step_ok (super_found size img) root (behind_super name img) super
    ∙ step_ok (place_found name root.root img) place (behind_place root img)
    (step_ok (refused_as Read (eval img (root_header_for true root.root))) h (λ (x : HeaderFields). refused_as Read (linked name x.messages)) (ap (refused_as Read) read) ∙ ap (refused_as Read) link)

-- ---- One dataset

-- what was read, with the session over it, is what is opened by its name
pub opened_one : (img : List ℕ) (size : ℕ) (root : Super) (name : List ℕ) (place : ℕ) (limit budget : ℕ) (o : Opened) (a : Result IndexView NoIndex) (s : Session) → eval img (looked_for size name) ≡ behind_place root img place → IsReadAt img root place o a
    → IsPartOver img o a name limit budget s → IsOpenedOver img size name limit budget s
opened_one img size root name place limit budget o a s looked read over =
    let found : eval img (looked_for size name) ≡ Ok o = looked ∙ step_ok (dataset_found place img) o.header (opened_by root place) read.header ∙ ap (λ (x : Opened). let r : Result Opened OpenError = Ok x in r) (sym read.is) in
    let here : dataset_found o.place img ≡ Ok o.header = ap (λ (x : Opened). dataset_found x.place img) read.is ∙ read.header in
    let version : versioned o ≡ o = own_version o (parts img size name o found).version in
    record {
      found = o;
      is = found;
      index = a;
      is_index = read.index;
      unrefused = open_part o a read.within ∙ over.fit;
      kept = over.kept;
      is_kept = over.is_kept;
      session = over.session ∙ ap (λ (x : Opened). opened_session x (front_of img o.place o.header.len) over.kept name limit budget) version ∙ ap (λ (h : List ℕ). opened_session o h over.kept name limit budget) (kept_at img o here).same;
    }

-- one step reads it, and another begins the session
pub part_step : {v w x : ImageView} (root : Super) (place : ℕ) (name : List ℕ) (limit budget : ℕ) (found : Opening) (index : Result HeldIndex NoIndex) (r : Result Session OpenError)
    → OpenStep v w (read_good root place) (read_bad root place) (Ok (found, index))
    → OpenStep w x (λ img s. IsPartOver img (opened_of found) (seen view_of index) name limit budget s) (λ img e. IsUnfit img (opened_of found) (seen view_of index) e) r
    → OpenStep v x (λ img t. IsPartAt img root place name limit budget t) (λ img e. (s : Super) → super_at (range img 0 48) ≡ Ok s → IsUnread img root place e) (Ok r)
part_step root place name limit budget found index r one two = record {
  looked = looked_twice one.looked two.looked;
  cause = λ e. absurd cc;
  kinds = tt;
  exact = λ img still.
      let read = one.exact img still in
      let o : Opened = opened_of found in
      let a : Result IndexView NoIndex = seen view_of index in
      let here : dataset_found o.place img ≡ Ok o.header = ap (λ (y : Opened). dataset_found y.place img) read.is ∙ read.header in
      record { found = o; index = a; read = read; says = told img o a here r (two.exact img (still_on img one.looked still)) };
}
  where
    told : (img : List ℕ) (o : Opened) (a : Result IndexView NoIndex) → dataset_found o.place img ≡ Ok o.header → (t : Result Session OpenError) → Says (IsPartOver img o a name limit budget) (IsUnfit img o a) t
        → Says (IsPartOver img o a name limit budget) (λ e. refused_part o a ≡ Some e) t
    told img o a here (Ok s) h = h
    told img o a here (Err e) h = refusal_map (refusal_of e) (IsUnfit img o a) (λ f. refused_part o a ≡ Some f) (λ f why. why here) h

-- and so it begins
pub begun_with : (limit budget : ℕ) (given root : Super) (name : List ℕ) (r : Result Session OpenError) → given ≡ root → IfOk r (HasBegun name limit budget) → IfOk r (λ s. s.root ≡ writing_root given)
    → IfOk r (λ s. s.places ≡ record { end = s.root.end; limit = limit; free = []; retired = []; spare = 0 }) → IfOk r (λ s. super_at (super_bytes s.root) ≡ Ok s.root) → IfOk r (λ s. 48 ≤ s.root.end) → IfOk r (HasBegunWith limit budget (writing_root root) name)
begun_with limit budget given root name (Ok s) same begun is places reads long =
    let own : s.root ≡ writing_root root = is ∙ ap writing_root same in
    record {
      begun = begun;
      root_is = own;
      places = places ∙ ap (λ (x : Super). let t : Space = record { end = x.end; limit = limit; free = []; retired = []; spare = 0 } in t) own;
      reads = subst (λ (x : Super). super_at (super_bytes x) ≡ Ok x) own reads;
      long = subst (λ (x : Super). 48 ≤ x.end) own long;
    }
begun_with limit budget given root name (Err e) same begun is places reads long = tt

-- ---- The loop

pub root_stands : (img : List ℕ) (size : ℕ) (root : Super) → super_found size img ≡ Ok root → super_at (range img 0 48) ≡ Ok root
root_stands img size root h = (super_found_by img size root h).read

module _ (v : ImageView) (root : Super) (names : List (List ℕ)) (places : List ℕ) (limit budget : ℕ) where
  pub begins : SoFar v v root names places limit budget 0 None []
  begins = record { looked = looked_itself v; cause = λ e. absurd cc; kinds = tt; begun = λ e. tt; exact = λ img still. (tt, (no_session, tt)) }

  module _ (w x : ImageView) (i : ℕ) (inside : i < length names) (same : length places ≡ length names) where
    abbrev name : List ℕ
    name = get_or names i []

    abbrev place : ℕ
    place = get_or places i 0

    low : i < length places
    low = omega (arith, inside, same)

    more_names : (ss : List Session) (s : Session) (P : List ℕ → Session → Type 0) → AllPaired P (take i names) ss → P name s → AllPaired P (take (i + 1) names) (ss ++ s ∷ [])
    more_names ss s P h p = subst (λ (ns : List (List ℕ)). AllPaired P ns (ss ++ s ∷ [])) (sym (take_more names i [] inside)) (paired_more P (take i names) ss name s h p)

    more_places : (P : ℕ → Type 0) → AllByRecursion P (take i places) → P place → AllByRecursion P (take (i + 1) places)
    more_places P h p = subst (AllByRecursion P) (sym (take_more places i 0 low)) (all_joined P (take i places) (place ∷ []) h (p, tt))

    -- what is told of one more
    told_more : (img : List ℕ) (refused : Option OpenError) (ss : List Session) (r : Result Session OpenError) → IsPartAt img root place name limit budget r → AreTold img root names places limit budget i refused ss
        → AreTold img root names places limit budget (i + 1) (first_refusal refused r) (joined ss r)
    told_more img (Some e) ss r part h = h
    told_more img None ss (Ok s) part h = (
      subst (λ (ns : List (List ℕ)). AreSessionsAt img root limit budget ns (take (i + 1) places) (ss ++ s ∷ [])) (sym (take_more names i [] inside))
          (subst (λ (ps : List ℕ). AreSessionsAt img root limit budget (take i names ++ name ∷ []) ps (ss ++ s ∷ [])) (sym (take_more places i 0 low))
          (sessions_more img root limit budget name place s (take i names) (take i places) ss (record { found = part.found; index = part.index; read = part.read; over = part.says }) h.0)),
      more_places (IsFit img root) h.1 (record { found = part.found; index = part.index; read = part.read; fit = part.says.fit }),
    )
    told_more img None ss (Err e) part h =
        refusal_map (refusal_of e) (λ f. refused_part part.found part.index ≡ Some f) (FirstUnfit img root places) (λ f why. record { number = i; inside = low; before = h.1; found = part.found; index = part.index; read = part.read; why = why }) part.says

    so_cause : (refused : Option OpenError) (r : Result Session OpenError) → (refused ≡ Some Failed → Rose v.faults w.faults) → (r ≡ Err Failed → Rose w.faults x.faults) → Looked v w → Looked w x → first_refusal refused r ≡ Some Failed → Rose v.faults x.faults
    so_cause (Some e) r old new one two h = let before = old h in let more = two.faults in omega (arith, before, more)
    so_cause None (Ok s) old new one two h = absurd cc
    so_cause None (Err e) old new one two h =
        let same_error : e ≡ Failed = cc in
        later v.faults w.faults x.faults one.faults (new (ap (λ (f : OpenError). let t : Result Session OpenError = Err f in t) same_error))

    so_kinds : (refused : Option OpenError) (r : Result Session OpenError) → IfSome refused IsOpenKind → IfErr r IsOpenKind → IfSome (first_refusal refused r) IsOpenKind
    so_kinds (Some e) r old new = old
    so_kinds None (Ok s) old new = tt
    so_kinds None (Err e) old new = new

    so_begun : (refused : Option OpenError) (ss : List Session) (r : Result Session OpenError) → (refused ≡ None → AllPaired (HasBegunWith limit budget (writing_root root)) (take i names) ss) → IfOk r (HasBegunWith limit budget (writing_root root) name)
        → first_refusal refused r ≡ None → AllPaired (HasBegunWith limit budget (writing_root root)) (take (i + 1) names) (joined ss r)
    so_begun (Some e) ss r old new h = absurd cc
    so_begun None ss (Ok s) old new h = more_names ss s (HasBegunWith limit budget (writing_root root)) (old refl) new
    so_begun None ss (Err e) old new h = absurd cc

    module _ (called : List ℕ) (is : called ≡ name) where
      abbrev Part : List ℕ → List ℕ → Result Session OpenError → Type 0
      Part n img t = IsPartAt img root place n limit budget t

      abbrev Bad : List ℕ → OpenError → Type 0
      Bad img e = (s : Super) → super_at (range img 0 48) ≡ Ok s → IsUnread img root place e

      pub goes_on : (refused : Option OpenError) (ss : List Session) (r : Result Session OpenError) → SoFar v w root names places limit budget i refused ss → OpenStep w x (Part called) Bad (Ok r)
          → (r ≡ Err Failed → Rose w.faults x.faults) → IfErr r IsOpenKind → IfOk r (HasBegunWith limit budget (writing_root root) called)
          → SoFar v x root names places limit budget (i + 1) (first_refusal refused r) (joined ss r)
      goes_on refused ss r so step cause kinds begun = record {
        looked = looked_twice so.looked step.looked;
        cause = so_cause refused r so.cause cause so.looked step.looked;
        kinds = so_kinds refused r so.kinds kinds;
        begun = so_begun refused ss r so.begun (subst (λ (n : List ℕ). IfOk r (HasBegunWith limit budget (writing_root root) n)) is begun);
        exact = λ img still.
            let h = so.exact img still in
            let part = subst (λ (n : List ℕ). Part n img r) is (step.exact img (still_on img so.looked still)) in (
              more_places (CanRead img root) h.0 (record { found = part.found; index = part.index; read = part.read }),
              told_more img refused ss r part h.1,
            );
      }

      pub stops : (refused : Option OpenError) (ss : List Session) (e : OpenError) → SoFar v w root names places limit budget i refused ss → OpenStep {A = Result Session OpenError} w x (Part called) Bad (Err e)
          → (img : List ℕ) → IsStill v img → ArePartsAnswer img root names places limit budget (Err e)
      stops refused ss e so step img still = λ s super.
          let h = so.exact img still in
          refusal_map (refusal_of e) (Bad img) (IsRefusedAt img root places) (λ g bad. unread_at g (record { number = i; inside = low; before = h.0; why = bad s super })) (step.exact img (still_on img so.looked still))

  -- all datasets were read
  module _ (w : ImageView) (i : ℕ) (end : i ≡ length names) (same : length places ≡ length names) where
    all_names : take i names ≡ names
    all_names = take_length_or names i end

    all_places : take i places ≡ places
    all_places = take_length_or places i (omega (arith, end, same))

    pub ends_well : (ss : List Session) → SoFar v w root names places limit budget i None ss → (img : List ℕ) → IsStill v img → ArePartsAnswer img root names places limit budget (Ok ss)
    ends_well ss so img still =
        subst (λ (ns : List (List ℕ)). AreSessionsAt img root limit budget ns places ss) all_names (subst (λ (ps : List ℕ). AreSessionsAt img root limit budget (take i names) ps ss) all_places (so.exact img still).1.0)

    pub ends_unfit : (ss : List Session) (e : OpenError) → SoFar v w root names places limit budget i (Some e) ss → (img : List ℕ) → IsStill v img → ArePartsAnswer img root names places limit budget (Err e)
    ends_unfit ss e so img still = λ s super.
        let h = so.exact img still in
        refusal_map (refusal_of e) (FirstUnfit img root places) (IsRefusedAt img root places) (λ f why. unfit_at f (subst (AllByRecursion (CanRead img root)) all_places h.0) why) h.1

    pub have_begun : (ss : List Session) → SoFar v w root names places limit budget i None ss → HaveBegun names limit budget ss
    have_begun ss so = record { root = writing_root root; version = refl; each = subst (λ (ns : List (List ℕ)). AllPaired (HasBegunWith limit budget (writing_root root)) ns ss) all_names (so.begun refl) }

-- ---- The file that is opened by all of them

-- the front refuses it
pub no_front_answer : (img : List ℕ) (size : ℕ) (names : List (List ℕ)) (limit budget : ℕ) (e : OpenError) → Refuses (eval img (front_for size names)) (refusal_of e) → IsOpenAnswerOf img size names limit budget (Err e)
no_front_answer img size names limit budget e h = by (refusal_of e) h
  where
    by : (o : Option OpenError) → Refuses (eval img (front_for size names)) o → IfRefusal o (IsNotOpenedBy img size names)
    by (Some f) given = no_front f given
    by None given = tt

-- each is what is opened by its name
opened_each : (img : List ℕ) (size : ℕ) (root : Super) (limit budget : ℕ) (h : HeaderFields) (names : List (List ℕ)) (places : List ℕ) (ss : List Session) → super_found size img ≡ Ok root → eval img (root_header_for true root.root) ≡ Ok h
    → AllPaired (IsLinked h.messages) names places → AreSessionsAt img root limit budget names places ss → AllPaired (λ (name : List ℕ) (s : Session). IsOpenedOver img size name limit budget s) names ss
opened_each img size root limit budget h _ _ _ super read links no_session = tt
opened_each img size root limit budget h _ _ _ super read links (a_session name place s names places ss x rest) = (
  opened_one img size root name place limit budget x.found x.index s (looked_at img size root name place h super read links.0) x.read x.over,
  opened_each img size root limit budget h names places ss super read links.1 rest,
)

pub open_answer : (img : List ℕ) (size : ℕ) (names : List (List ℕ)) (limit budget : ℕ) (root : Super) (places : List ℕ) (r : Result (List Session) OpenError) → eval img (front_for size names) ≡ Ok (record { root = root; places = places })
    → ArePartsAnswer img root names places limit budget r → IsOpenAnswerOf img size names limit budget r
open_answer img size names limit budget root places (Ok ss) is x =
    let f = front_tells img size root names places is in
    record { front = record { root = root; places = places }; is = is; each = opened_each img size root limit budget f.header names places ss f.super f.read f.each x }
open_answer img size names limit budget root places (Err e) is x =
    let f = front_tells img size root names places is in
    refusal_map (refusal_of e) (IsRefusedAt img root places) (IsNotOpenedBy img size names) why (x root (root_stands img size root f.super))
  where
    why : (g : OpenError) → IsRefusedAt img root places g → IsNotOpenedBy img size names g
    why g (unread_at _ u) = unread (record { root = root; places = places }) g is u
    why g (unfit_at _ all u) = unfit (record { root = root; places = places }) g is all u
