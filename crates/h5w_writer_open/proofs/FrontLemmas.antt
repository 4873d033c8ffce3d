-- No image has an index block where its superblock stands.
use Rattle.std.proofs.Common.{◌≡◌, ◌≢◌, ◌⊎◌, ◌&&◌, ℕ, Bool, true, false, List, [], ◌∷◌, ◌++◌, Option, Some, None, Result, Ok, Err, codes, refl, sym, subst, inl, inr, arith}
use Rattle.std.specs.Prelude.{IfSome, IsSome, nat_eq, ◌==◌}
use Rattle.std.specs.List.{starts_with}
use Rattle.std.proofs.lemmas.Bool.{eqb-true}
use Rattle.h5w_model.specs.Arrays.{array_tests, eaib_at, eaib_fields, eaib_len}
use Rattle.h5w_model.specs.Blocks.{block_tests}
use Rattle.h5w_model.specs.Numbers.{range}
use Rattle.h5w_model.specs.Superblock.{super_at, super_fields, super_signature, super_tests}
use Rattle.h5w_model.specs.declared.root.Super.{Super}
use Rattle.h5w_model.proofs.CheckedLemmas.{checked-passed}
use Rattle.h5w_cache.specs.Blocks.{BlockView}
use Rattle.h5w_cache.specs.Stores.{Store}
use Rattle.h5w_array_laws.specs.ArrayStores.{block_at_part, place_at_part}
use Rattle.h5w_array_laws.specs.Parts.{index_block}
use Rattle.h5w_ea_index.specs.Opened.{StandsAt, refused_on}
use Rattle.h5w_ea_index.proofs.DecodedLemmas.{refusal_none}
use Rattle.h5w_index.specs.Views.{IndexView, an_array, a_tree}
use Rattle.h5w_opening.specs.Openings.{IsFound, Opened}
use Rattle.h5w_opening.specs.declared.error.OpenError.{OpenError}
use Rattle.h5w_opening.proofs.FoundParts.{parts}
use Rattle.h5w_writer_open.specs.declared.index.NoIndex.{NoIndex}
use Rattle.h5w_writer_open.specs.OpenAnswers.{IsArrayOf, IsIndexOf}
use Rattle.h5w_writer_open.specs.OpenRanges.{first_open_line}
use Rattle.h5w_writer_open.specs.OpenSteps.{IsFoundIn, LacksItsBlock, no_block_error}
use Rattle.h5w_writer_open.proofs.OpenStepLemmas.{IsQuiet}
use Rattle.h5w_writer_open.proofs.SessionOver.{open_below}

-- its refusal is one of a file's bytes
pub no_block_quiet : (e : OpenError) → e ≡ no_block_error → IsQuiet e
no_block_quiet e is = subst IsQuiet (sym is) (tt, λ f. absurd (cc))

and_left : (a b : Bool) → (a && b) ≡ true → a ≡ true
and_left true b h = refl
and_left false b h = h

-- the signatures differ in their first byte
front : (img : List ℕ) → starts_with nat_eq (range img 0 eaib_len) (codes "EAIB") ≡ true → starts_with nat_eq (range img 0 48) super_signature ≡ true → ⊥
front [] index super = cc
front (x ∷ xs) index super =
    let one : 69 ≡ x = eqb-true 69 x (and_left (69 == x) _ index) in
    let other : 137 ≡ x = eqb-true 137 x (and_left (137 == x) _ super) in
    omega (arith, one, other)

kept : (o : Option BlockView) (P : BlockView → Type 0) → IsSome o → IfSome o P → (b : BlockView) × P b
kept (Some b) P some h = (b, h)
kept None P some h = absurd (cc)

not_there : (img : List ℕ) (s : Super) → refused_on img index_block 0 ≡ None → super_at (range img 0 48) ≡ Ok s → ⊥
not_there img s sound super =
    let b = range img 0 eaib_len in
    let t = refusal_none (eaib_at b 0) sound in
    let index = checked-passed (block_tests (codes "EAIB") eaib_len b ++ array_tests b 0) (eaib_fields b) t.0 t.1 in
    let first = checked-passed (super_tests (range img 0 48)) (super_fields (range img 0 48)) s super in
    front img index.0.1.0 first.0.0

lacks_array : (img : List ℕ) (s : Super) (o : Opened) (v : Store) → IsFound o → super_at (range img 0 48) ≡ Ok s → IsArrayOf img o.header.dataset v → place_at_part v index_block ≡ 0 → ⊥
lacks_array img s o v found super x lacks =
    let here = kept (block_at_part v index_block) (StandsAt img (first_open_line o.header.dataset) index_block (place_at_part v index_block)) (x.array.in_place index_block tt refl).0 (x.opened.each index_block tt) in
    elim here.1 [
      | inl there ↦ not_there img s (subst (λ n. refused_on img index_block n ≡ None) lacks there.sound) super
      | inr passed ↦ (let early = passed.early in let below = open_below o.header found.said x.kind in omega (arith, early, below))
    ]

-- whichever superblock that is
pub lacks_front : (img : List ℕ) (s : Super) (o : Opened) (a : Result IndexView NoIndex) → IsFound o → super_at (range img 0 48) ≡ Ok s → IsIndexOf img o.header.dataset a → LacksItsBlock a → ⊥
lacks_front img s o (Ok (an_array v)) found super x lacks = lacks_array img s o v found super x (eqb-true (place_at_part v index_block) 0 lacks)
lacks_front img s o (Ok (a_tree place v)) found super x lacks = cc
lacks_front img s o (Err why) found super x lacks = lacks

pub lacks_none : (img : List ℕ) (size : ℕ) (name : List ℕ) (o : Opened) (a : Result IndexView NoIndex) → IsFound o → IsFoundIn img size name o a → LacksItsBlock a → ⊥
lacks_none img size name o a found f lacks = lacks_front img o.root o a found (parts img size name o f.is).super f.index lacks
