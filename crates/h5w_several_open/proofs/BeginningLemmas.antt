-- What begins by an open, and by a takeover, told by the way in which it begins.
use Rattle.std.proofs.Common.{◌≡◌, ℕ, ◌/◌, ◌%◌, false, List, [], ◌∷◌, Result, Ok, Err, refl, sym, ap, ◌∙◌, tests, arith}
use Rattle.std.specs.Prelude.{IfOk}
use Rattle.h5w_model.specs.Datasets.{then_also}
use Rattle.h5w_model.specs.Relations.{AllPaired}
use Rattle.h5w_model.specs.declared.root.Super.{Super}
use Rattle.h5w_headers.proofs.RanLemmas.{step_ok}
use Rattle.h5w_opening.specs.Errors.{refusal_of}
use Rattle.h5w_opening.specs.Fronts.{FrontFields}
use Rattle.h5w_opening.specs.Openings.{Opened, dataset_found, is_open, place_found, super_by, written_super}
use Rattle.h5w_opening.specs.declared.error.OpenError.{OpenError}
use Rattle.h5w_opening.proofs.FoundParts.{parts}
use Rattle.h5w_index.specs.Views.{IndexView}
use Rattle.h5w_writer.specs.Sessions.{Session, cleared}
use Rattle.h5w_writer_open.specs.OpenAnswers.{IsNotOpened, IsOpenAnswer, IsOpenedOver, damaged, refused, unfound, writing_flags}
use Rattle.h5w_writer_open.specs.OpenParts.{opened_at}
use Rattle.h5w_writer_open.proofs.OpenStepLemmas.{refusal_map}
use Rattle.h5w_several_writer_laws.specs.Sessions.{Sessions}
use Rattle.h5w_several_open.specs.Beginnings.{HadFlags, HasDatasetBy, HaveBegunBy, IsAllAnswer, IsBeginAnswer, IsBegunAll, IsBegunOver, IsNotBegun, is_damaged, is_refused, not_found, root_by, session_by, shut_by, written_at}
use Rattle.h5w_several_open.specs.Progress.{writing_root}
use Rattle.h5w_several_open.specs.Sessions.{HasBegunAll, HasDatasetAt, IsOpenedAll, IsSessionAnswer}
use Rattle.h5w_several_open.specs.Taken.{HasDatasetOf, HasTakenAll, IsTakenAll, IsTakenAnswer}
use Rattle.h5w_several_open.specs.declared.beginning.Beginning.{Beginning}
use Rattle.h5w_several_open.specs.declared.beginning.Beginning.TheVariants as beginnings
use Rattle.h5w_several_open.proofs.AloneLemmas.{behind_at, found_at, with_root}
use Rattle.h5w_several_open.proofs.OpenLemmas.{fronts_tell}
use Rattle.h5w_several_open.proofs.TakeAnswers.{written_bits}

-- ---- The session that begins

pub begun_root : (by : Beginning) (o : Opened) (header : List ℕ) (v : IndexView) (name : List ℕ) (limit budget : ℕ) → (session_by by o header v name limit budget).root ≡ root_by by o.root
begun_root beginnings.Opened o header v name limit budget = refl
begun_root beginnings.TakenOver o header v name limit budget = refl

pub begun_dataset : (by : Beginning) (o : Opened) (header : List ℕ) (v : IndexView) (name : List ℕ) (limit budget : ℕ) → (session_by by o header v name limit budget).dataset ≡ o.header.dataset
begun_dataset beginnings.Opened o header v name limit budget = refl
begun_dataset beginnings.TakenOver o header v name limit budget = refl

-- its superblock without the flags of a writer
pub shut_root : (by : Beginning) (s : Super) → HadFlags by s.flags → ◌≡◌ {A = Super} (record (root_by by s) { flags = cleared (root_by by s).flags }) (shut_by by s)
shut_root beginnings.Opened s h =
    let low : s.flags % 2 ≡ 0 = h.writing in
    let high : s.flags / 4 % 2 ≡ 0 = h.swmr in
    let back : cleared (writing_flags s.flags) ≡ s.flags = omega (arith, low, high) in
    ap (λ n. record s { flags = n }) back
shut_root beginnings.TakenOver s h = refl

-- ---- An open of one dataset

pub closed_bits : (flags : ℕ) → is_open flags ≡ false → HadFlags beginnings.Opened flags
closed_bits flags e =
    let low : flags % 2 ≡ 0 = grind (arith, tests) in
    let high : flags / 4 % 2 ≡ 0 = grind (arith, tests) in
    record { writing = low; swmr = high }

opened_over : (img : List ℕ) (size : ℕ) (name : List ℕ) (limit budget : ℕ) (s : Session) → IsOpenedOver img size name limit budget s → IsBegunOver beginnings.Opened img size name limit budget s
opened_over img size name limit budget s x =
    let p = parts img size name x.found x.is in
    record {
      found = x.found;
      is = x.is;
      flags = closed_bits x.found.root.flags p.closed;
      super = p.super;
      index = x.index;
      is_index = x.is_index;
      unrefused = x.unrefused;
      kept = x.kept;
      is_kept = x.is_kept;
      session = x.session;
    }

not_opened : (img : List ℕ) (size : ℕ) (name : List ℕ) (e : OpenError) → IsNotOpened img size name e → IsNotBegun beginnings.Opened img size name e
not_opened img size name e (unfound _ h) = not_found e h
not_opened img size name _ (damaged o at f is bad) = is_damaged o at f is bad
not_opened img size name e (refused o a _ is index why) = is_refused o a e is index why

-- and the same the other way
pub was_opened : (img : List ℕ) (size : ℕ) (name : List ℕ) (limit budget : ℕ) (s : Session) → IsBegunOver beginnings.Opened img size name limit budget s → IsOpenedOver img size name limit budget s
was_opened img size name limit budget s x = record { found = x.found; is = x.is; index = x.index; is_index = x.is_index; unrefused = x.unrefused; kept = x.kept; is_kept = x.is_kept; session = x.session }

pub not_begun : (img : List ℕ) (size : ℕ) (name : List ℕ) (e : OpenError) → IsNotBegun beginnings.Opened img size name e → IsNotOpened img size name e
not_begun img size name e (not_found _ h) = unfound e h
not_begun img size name _ (is_damaged o at f is bad) = damaged o at f is bad
not_begun img size name e (is_refused o a _ is index why) = refused o a e is index why

pub open_answers : (img : List ℕ) (size : ℕ) (name : List ℕ) (limit budget : ℕ) (r : Result Session OpenError) → IsOpenAnswer img size name limit budget r → IsBeginAnswer beginnings.Opened img size name limit budget r
open_answers img size name limit budget (Ok s) h = opened_over img size name limit budget s h
open_answers img size name limit budget (Err e) h = refusal_map (refusal_of e) (IsNotOpened img size name) (IsNotBegun beginnings.Opened img size name) (not_opened img size name) h

-- ---- An open of several

map_paired : {A B : Type 0} (P Q : A → B → Type 0) → ((a : A) (b : B) → P a b → Q a b) → (xs : List A) (ys : List B) → AllPaired P xs ys → AllPaired Q xs ys
map_paired P Q f [] [] h = tt
map_paired P Q f [] (y ∷ ys) h = absurd h
map_paired P Q f (x ∷ xs) [] h = absurd h
map_paired P Q f (x ∷ xs) (y ∷ ys) h = (f x y h.0, map_paired P Q f xs ys h.1)

dataset_at : (img : List ℕ) (size : ℕ) (name : List ℕ) (s : Session) → HasDatasetAt img size name s → HasDatasetBy beginnings.Opened img size name s
dataset_at img size name s h = record { found = h.found; is = h.is; place = h.place; dataset = h.dataset; unrefused = h.unrefused }

opened_all : (img : List ℕ) (size : ℕ) (names : List (List ℕ)) (limit budget : ℕ) (S : Sessions) → IsOpenedAll img size names limit budget S → IsBegunAll beginnings.Opened img size names S
opened_all img size names limit budget S x =
    let front : Super = x.opened.front.root in
    let root : S.root ≡ writing_root front = ap (λ (y : Sessions). y.root) x.is ∙ x.root_is in
    let own : ◌≡◌ {A = Super} (writing_root front) (record front { flags = writing_flags front.flags }) = ap (λ (n : ℕ). record front { version = n; flags = writing_flags front.flags }) (sym x.version) in
    record {
      root = front;
      super = x.super;
      flags = closed_bits front.flags x.closed;
      root_is = root ∙ own;
      datasets = map_paired (HasDatasetAt img size) (HasDatasetBy beginnings.Opened img size) (dataset_at img size) names S.parts x.datasets;
    }

pub session_answers : (img : List ℕ) (size : ℕ) (names : List (List ℕ)) (limit budget : ℕ) (r : Result Sessions OpenError) → IsSessionAnswer img size names limit budget r → IsAllAnswer beginnings.Opened img size names limit budget r
session_answers img size names limit budget (Ok S) h = opened_all img size names limit budget S h
session_answers img size names limit budget (Err e) h = h

all_begun : (names : List (List ℕ)) (limit budget : ℕ) (S : Sessions) → HasBegunAll names limit budget S → HaveBegunBy beginnings.Opened names limit budget S
all_begun names limit budget S h = record { parts = h.parts; begun = h.begun; session = h.is; sessions = h.sessions; pending = h.pending; each = h.each; end = h.end; limited = h.limited; going = h.going }

-- ---- A takeover of several

dataset_of : (img : List ℕ) (size : ℕ) (root : Super) (name : List ℕ) (s : Session) → super_by (written_super size) img ≡ Ok root → HasDatasetOf img root name s → HasDatasetBy beginnings.TakenOver img size name s
dataset_of img size root name s super h =
    let at : written_at size name img ≡ Ok (root, s.place) =
    step_ok (super_by (written_super size) img) root (λ (y : Super). then_also (place_found name y.root img) (with_root y)) super ∙ step_ok (place_found name root.root img) s.place (with_root root) h.place in
    record {
      found = opened_at root s.place h.header;
      is = step_ok (written_at size name img) (root, s.place) (behind_at img) at ∙ step_ok (dataset_found s.place img) h.header (found_at root s.place) h.read;
      place = refl;
      dataset = h.dataset;
      unrefused = h.unrefused;
    }

taken_all : (img : List ℕ) (size : ℕ) (names : List (List ℕ)) (limit budget : ℕ) (S : Sessions) → IsTakenAll img size names limit budget S → IsBegunAll beginnings.TakenOver img size names S
taken_all img size names limit budget S x =
    let front : FrontFields = x.front in
    let bits = written_bits front.root.flags x.written in
    let f = fronts_tell (written_super size) img front.root names front.places x.is in
    record {
      root = front.root;
      super = x.super;
      flags = record { writing = bits.0; swmr = bits.1 };
      root_is = ap (λ (y : Sessions). y.root) x.session;
      datasets = map_paired (HasDatasetOf img front.root) (HasDatasetBy beginnings.TakenOver img size) (λ name s h. dataset_of img size front.root name s f.super h) names S.parts x.datasets;
    }

pub taken_answers : (img : List ℕ) (size : ℕ) (names : List (List ℕ)) (limit budget : ℕ) (r : Result Sessions OpenError) → IsTakenAnswer img size names limit budget r → IsAllAnswer beginnings.TakenOver img size names limit budget r
taken_answers img size names limit budget (Ok S) h = taken_all img size names limit budget S h
taken_answers img size names limit budget (Err e) h = h

taken_begun_all : (names : List (List ℕ)) (limit budget : ℕ) (S : Sessions) → HasTakenAll names limit budget S → HaveBegunBy beginnings.TakenOver names limit budget S
taken_begun_all names limit budget S h = record { parts = h.parts; begun = h.begun; session = h.session; sessions = h.sessions; pending = h.idle; each = h.each; end = h.end; limited = h.limited; going = h.going }

-- the same of the answers
pub all_begins : (names : List (List ℕ)) (limit budget : ℕ) (r : Result Sessions OpenError) → IfOk r (HasBegunAll names limit budget) → IfOk r (λ s. HaveBegunBy beginnings.Opened names limit budget s)
all_begins names limit budget (Ok S) h = all_begun names limit budget S h
all_begins names limit budget (Err e) h = tt

pub taken_begins : (names : List (List ℕ)) (limit budget : ℕ) (r : Result Sessions OpenError) → IfOk r (HasTakenAll names limit budget) → IfOk r (λ s. HaveBegunBy beginnings.TakenOver names limit budget s)
taken_begins names limit budget (Ok S) h = taken_begun_all names limit budget S h
taken_begins names limit budget (Err e) h = tt
