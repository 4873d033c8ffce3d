-- A created file of several datasets can be written, under each name.
use Rattle.std.proofs.Common.{◌≡◌, ℕ, ◌+◌, ◌^◌, ◌<◌, ◌≤◌, true, List, [], ◌∷◌, length, Ok, refl, ap, ◌∙◌, arith}
use Rattle.std.specs.List.{AllByRecursion}
use Rattle.h5w_model.specs.Images.{At, Holds, image}
use Rattle.h5w_model.specs.Programs.{eval}
use Rattle.h5w_model.specs.Headers.{placed}
use Rattle.h5w_model.specs.Links.{group_info_bytes, link_bytes, link_info_bytes}
use Rattle.h5w_model.specs.Datasets.{HeaderFields, found_at}
use Rattle.h5w_model.specs.declared.root.Super.{Super}
use Rattle.h5w_model.proofs.ImageLemmas.{Holds-front, Holds-rest}
use Rattle.h5w_step_laws.specs.Moments.{Represents, reading_of}
use Rattle.h5w_step_laws.proofs.MomentLemmas.{root_at}
use Rattle.h5w_step_laws.specs.Spelled.{spelled_header}
use Rattle.h5w_headers.specs.Walks.{root_header_for}
use Rattle.h5w_creation_laws.specs.CreatedFiles.{CreatedFile, IsCreatable, root_place}
use Rattle.h5w_several_creation_laws.specs.Links.{link_messages, linking}
use Rattle.h5w_several_creation_laws.specs.SeveralFiles.{AreCreatable, all_sets, created_writes, described_at, end_behind, end_from, end_of, first_place, header_at, index_at, moment_at, root_block, root_bytes, root_ranges, set_at, sets_from, super_block, super_of}
use Rattle.h5w_several_creation_laws.specs.SeveralLaws.{AreNewFiles, EachStands}
use Rattle.h5w_several_creation_laws.proofs.PlaceLemmas.{end_above, end_small}
use Rattle.h5w_several_creation_laws.proofs.RootLemmas.{header_found, root_found}
use Rattle.h5w_several_creation_laws.proofs.SetLemmas.{long_at, spellable_at}
use Rattle.h5w_several_creation_laws.proofs.StandLaws.{several_stand}
use Rattle.h5w_writable_laws.specs.Writable.{CanBeWritten, EachWritable, SeveralWritable}
use Rattle.h5w_writable_laws.proofs.CreatedLemmas.{spelled_taken}
use Rattle.h5w_writable_laws.proofs.KnownWalks.{AreKnown, root_known}

-- ---- The root header

links_known : (at : ℕ) (ls : List (List ℕ × ℕ)) → AreKnown (found_at root_place true (placed at (link_messages ls)))
links_known at [] = tt
links_known at (l ∷ ls) = (refl, links_known (at + (4 + length (link_bytes l.0 l.1))) ls)

linking_known : (at : ℕ) (ls : List (List ℕ × ℕ)) → AreKnown (found_at root_place true (placed at (linking ls)))
linking_known at ls = (refl, (refl, links_known (at + (4 + length link_info_bytes) + (4 + length group_info_bytes)) ls))

-- ---- Each dataset

module _ (fs : List CreatedFile) (h : AreCreatable fs) where
  abbrev img : List ℕ
  img = image [] (created_writes fs)

  abbrev super : Super
  super = super_of 5 fs

  made : AreNewFiles 5 fs img
  made = (several_stand fs h).created

  low : end_of fs ≤ 8192
  low = end_small fs h

  root_taken : (g : HeaderFields) × (eval img (root_header_for true root_place) ≡ Ok g)
  root_taken =
      let there : At img root_place (root_bytes fs) = (Holds-rest img (all_sets fs) (root_block fs ∷ super_block 5 fs ∷ []) made.blocks).0 in
      (root_found fs, root_known img root_place (root_found fs) (header_found img fs h (omega (arith, low)) there) (linking_known _ _))

  one_can : (place : ℕ) (f : CreatedFile) → IsCreatable f → end_behind place f ≤ end_of fs → At img place (spelled_header (described_at place f)) → Represents img f.name (moment_at super (root_ranges fs) place f)
      → CanBeWritten img (reading_of (moment_at super (root_ranges fs) place f))
  one_can place f is within at file =
      let m = moment_at super (root_ranges fs) place f in
      let small : end_behind place f < 2 ^ 62 = omega (arith, within, low) in
      let long = long_at place f is small in
      record {
        root = (root_taken.0, ap (λ a. eval img (root_header_for true a)) (root_at img f.name m file) ∙ root_taken.1);
        header = spelled_taken img f.name m file (spellable_at place f is small) at (omega (arith, long, within));
        layout = λ none. absurd (omega (arith, none, small));
      }

  each_can : (place : ℕ) (gs : List CreatedFile) → AllByRecursion IsCreatable gs → end_from place gs ≤ end_of fs → Holds img (sets_from place gs) → EachStands img super (root_ranges fs) place gs → EachWritable img super (root_ranges fs) place gs
  each_can place [] is within holds stand = tt
  each_can place (f ∷ gs) is within holds stand =
      let next = end_behind place f in
      let own = Holds-rest img (index_at f.index place f) (header_at place f ∷ []) (Holds-front img (set_at place f) (sets_from next gs) holds) in (
        one_can place f is.0 (omega (arith, end_above next gs, within)) own.0 stand.0,
        each_can next gs is.1 within (Holds-rest img (set_at place f) (sets_from next gs) holds) stand.1,
      )

pub several_writable : SeveralWritable
several_writable fs h =
    each_can fs h (first_place fs) fs h.each (omega arith) (Holds-front (img fs h) (all_sets fs) (root_block fs ∷ super_block 5 fs ∷ []) (made fs h).blocks) (made fs h).stands
