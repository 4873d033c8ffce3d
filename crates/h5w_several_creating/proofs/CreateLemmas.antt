-- The session that is answered where a file is created.
use Rattle.std.proofs.Common.{◌≡◌, ℕ, ◌*◌, ◌^◌, ◌≤◌, false, List, [], ◌∷◌, length, refl, sym, ◌∙◌, ap, subst, arith, append-nil}
use Rattle.h5w_model.specs.declared.piece.Write.{Write}
use Rattle.h5w_model.specs.declared.root.Super.{Super}
use Rattle.h5w_space.specs.Space.{Space}
use Rattle.h5w_index.specs.Views.{IndexView}
use Rattle.h5w_creation_laws.specs.CreatedFiles.{CreatedFile}
use Rattle.h5w_several_creation_laws.specs.SeveralFiles.{AreCreatable, created_writes, end_from, end_of, first_place, super_of}
use Rattle.h5w_several_creation_laws.proofs.PlaceLemmas.{end_above, end_small}
use Rattle.h5w_writer.specs.Creations.{places_to}
use Rattle.h5w_writer.specs.Sessions.{Session}
use Rattle.h5w_several_writer.specs.Opened.{AreOpened, sessions_at_rest}
use Rattle.h5w_several_writer_laws.specs.Sessions.{Sessions}
use Rattle.h5w_several_writer_laws.specs.Standing.{StandsAll}
use Rattle.h5w_several_creating.specs.Created.{IsCreatedAll, IsShownAll, created_all, created_file, created_parts, leading, led, shown_file}
use Rattle.h5w_several_creating.specs.Parts.{AddsParts, IsShared}
use Rattle.h5w_several_creating.specs.declared.parts.Shared.{Shared}
use Rattle.h5w_several_creating.proofs.SessionLemmas.{all_opened, all_rest, many_over}
use Rattle.h5w_several_creating.proofs.StandLemmas.{creates_each, creates_standing}

-- ---- The datasets

-- what all sessions have alike
pub is_shared : (fs : List CreatedFile) (t : Shared) → AreCreatable fs → t.root ≡ super_of 5 fs → t.limit ≤ 2 ^ 40 → (1024 ≤ t.budget) × (t.budget ≤ 2 ^ 30) → IsShared t
is_shared fs t are root high budget =
    let small = end_small fs are in
    let end = ap (λ (r : Super). r.end) root in
    record {
      version = ap (λ (r : Super). r.version) root;
      small = omega (arith, small, end);
      limit = high;
      budget_low = budget.0;
      budget_high = budget.1;
    }

-- the first stands behind the superblock, and the last ends by the file's end
pub first_begun : (fs : List CreatedFile) (first : ℕ) → first ≡ first_place fs → 48 ≤ first
first_begun fs first is = omega (arith, is)

pub last_ends : (fs : List CreatedFile) (first : ℕ) (root : Super) → first ≡ first_place fs → root ≡ super_of 5 fs → end_from first fs ≤ root.end
last_ends fs first root at is =
    let here = ap (λ (n : ℕ). end_from n fs) at in
    let end = ap (λ (r : Super). r.end) is in
    omega (arith, here, end)

pub root_begun : (fs : List CreatedFile) (root : Super) → root ≡ super_of 5 fs → 48 ≤ root.end
root_begun fs root is =
    let above = end_above (first_place fs) fs in
    let end = ap (λ (r : Super). r.end) is in
    omega (arith, above, end)

-- ---- The sessions

pub parts_made : (t : Shared) (first : ℕ) (gs fs : List CreatedFile) (old new : List Session) → first ≡ first_place fs → gs ≡ fs → old ≡ [] → AddsParts t first gs old new → AddsParts t (first_place fs) fs [] new
parts_made t first gs fs old new place same none x =
    subst (λ (n : ℕ). AddsParts t n fs [] new) place (subst (λ (hs : List CreatedFile). AddsParts t first hs [] new) same (subst (λ (ss : List Session). AddsParts t first gs ss new) none x))

pub parts_many : (t : Shared) (place : ℕ) (fs : List CreatedFile) (new : List Session) → AddsParts t place fs [] new → length new ≡ length fs
parts_many t place fs new x = ap length x.is ∙ many_over t place fs x.indexes x.are

pub parts_opened : (t : Shared) (place : ℕ) (fs : List CreatedFile) (new : List Session) → AddsParts t place fs [] new → AreOpened t.root.end new
parts_opened t place fs new x = subst (AreOpened t.root.end) (sym x.is) (all_opened t place fs x.indexes)

leading_none : (ws : List Write) (root : Super) (t : Space) (budget place : ℕ) (fs : List CreatedFile) (vs : List IndexView) → leading [] (leading ws (created_parts root t budget place fs vs)) ≡ created_parts root t budget place fs vs
leading_none ws root t budget place [] vs = refl
leading_none ws root t budget place (f ∷ fs) [] = refl
leading_none ws root t budget place (f ∷ fs) (v ∷ vs) = refl

module _ (fs : List CreatedFile) (t : Shared) (new : List Session) (S : Sessions) (are : AreCreatable fs) (low : 1024 * length fs ≤ t.limit) (high : t.limit ≤ 2 ^ 40) (root : t.root ≡ super_of 5 fs)
    (x : AddsParts t (first_place fs) fs [] new) (rest : S ≡ sessions_at_rest t.root t.limit new) where
  abbrev with_root : Super → Sessions
  with_root r = record { root = r; places = places_to r.end t.limit; parts = created_parts r (places_to r.end t.limit) t.budget (first_place fs) fs x.indexes; stopped = false; keeps = false }

  made : S ≡ with_root (super_of 5 fs)
  made = rest ∙ ap (sessions_at_rest t.root t.limit) x.is ∙ all_rest t (first_place fs) fs x.indexes ∙ ap with_root root

  pub is_created : (ws : List Write) → ws ≡ created_writes fs → IsCreatedAll fs t.limit t.budget (led ws S)
  is_created ws all = record { indexes = x.indexes; are = x.are; is = ap (led ws) made ∙ ap (λ (us : List Write). led us (with_root (super_of 5 fs))) all }

  pub is_shown : IsShownAll fs t.limit t.budget S
  is_shown = record { indexes = x.indexes; are = x.are; is = made }

  pub begins : (ws : List Write) → ws ≡ created_writes fs → StandsAll (led ws S) (created_file fs)
  begins ws all = (creates_standing fs t.limit t.budget (led ws S) are low high (is_created ws all)).stands

  pub stands : StandsAll S (shown_file fs)
  stands =
      let C = created_writes fs in
      let root_5 = super_of 5 fs in
      let p = places_to (end_of fs) t.limit in
      let shown = creates_each fs t.limit t.budget x.indexes are low high x.are C [] (append-nil C) in
      let none : led [] (created_all fs t.limit t.budget x.indexes) ≡ with_root root_5 =
      ap (λ (ss : List Session). let y : Sessions = record { root = root_5; places = p; parts = ss; stopped = false; keeps = false } in y) (leading_none C root_5 p t.budget (first_place fs) fs x.indexes) in
      subst (λ (y : Sessions). StandsAll y (shown_file fs)) (none ∙ sym made) shown
