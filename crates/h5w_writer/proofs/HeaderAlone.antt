-- An array that lacks its index block.
use Rattle.std.proofs.Common.{◌≡◌, ◌≢◌, ◌⊎◌, ℕ, ◌+◌, ◌≤◌, ◌==◌, Bool, true, false, List, [], ◌∷◌, ◌++◌, length, Option, Some, None, append_assoc, append-nil, length-append, refl, sym, ◌∙◌, ap, subst, inl, inr, arith}
use Rattle.std.specs.Prelude.{unwrap_or}
use Rattle.std.proofs.lemmas.Bool.{ne_eqb}
use Rattle.std.proofs.lemmas.Bool.Decides.{eqb_tells}
use Rattle.h5w_model.specs.Numbers.{undefined}
use Rattle.h5w_model.specs.Arrays.{eahd_len, eaib_len}
use Rattle.h5w_model.specs.Findings.{Used, the_superblock}
use Rattle.h5w_model.specs.declared.cell.Key.{Key}
use Rattle.h5w_model.specs.declared.piece.Write.{Write}
use Rattle.h5w_step_laws.specs.Ranges.{Among, AllEndBy, block_at}
use Rattle.h5w_step_laws.proofs.RangeLemmas.{among_left, among_right}
use Rattle.h5w_space.specs.Space.{Space, IsLive, extent}
use Rattle.h5w_cache.specs.Plans.{Took}
use Rattle.h5w_step_laws.specs.Moments.{Moment}
use Rattle.h5w_step_laws.proofs.MomentLemmas.{parts_of}
use Rattle.h5w_array_laws.specs.Parts.{index_block}
use Rattle.h5w_array_laws.specs.ArrayStores.{place_at_part}
use Rattle.h5w_flush_laws.specs.Knowledge.{Knows}
use Rattle.h5w_flush_laws.specs.Spaces.{extent_of}
use Rattle.h5w_first_flush_laws.proofs.ArrayFirstLemmas.{second_of}
use Rattle.h5w_index.specs.Blocks.{has_no_block}
use Rattle.h5w_index.specs.Flushes.{Rests}
use Rattle.h5w_index.specs.Views.{IndexView, an_array, a_tree, fixed_of, header_place}
use Rattle.h5w_pieces.specs.Joined.{AreJoined, IsNaming}
use Rattle.h5w_writer.specs.Starts.{IsArrayMade, IsMadeAt, TookTops, both, block_alone}

pub never : {A : Type 0} (b : Bool) → b ≡ true → b ≡ false → A
never b is other = let clash : true ≡ false = sym is ∙ other in cc

-- an index with the blocks in place of another lacks its index block where that does
pub same_block : (v w : IndexView) → fixed_of w ≡ fixed_of v → has_no_block w ≡ has_no_block v
same_block (an_array v) (an_array w) same = ap (λ (us : List Used). second_of us == 0) same
same_block (a_tree p v) (a_tree q w) same = refl
same_block (an_array v) (a_tree q w) same = absurd (let n = ap length same in omega (arith, n))
same_block (a_tree p v) (an_array w) same = absurd (let n = ap length same in omega (arith, n))

-- the index that is in a file has its blocks: the superblock stands at 0
pub rests_whole : (img name : List ℕ) (m : Moment) (address : Key → ℕ) (s : Space) (v : IndexView) → Knows img name m address s → Rests img m address s v → has_no_block v ≡ false
rests_whole img name m address s (a_tree p v) k rest = refl
rests_whole img name m address s (an_array v) k rest = go (eqb_tells (place_at_part v index_block) 0)
  where
    u : Used
    u = block_at (place_at_part v index_block) eaib_len

    behind : Among u (m.root ++ (m.header ++ (m.fixed ++ m.behind)))
    behind =
        among_right u m.root (m.header ++ (m.fixed ++ m.behind)) (among_right u m.header (m.fixed ++ m.behind) (among_left u m.fixed m.behind (subst (λ (us : List Used). Among u us) (sym rest.fixed) (inr (inl refl)))))

    meets : (48 ≤ place_at_part v index_block) ⊎ (place_at_part v index_block + 298 ≤ 0) → place_at_part v index_block ≡ 0 → ⊥
    meets (inl h) e = omega (arith, h, e)
    meets (inr h) e = omega (arith, h)

    go : ((place_at_part v index_block == 0) ≡ true) × (place_at_part v index_block ≡ 0) ⊎ ((place_at_part v index_block == 0) ≡ false) × (place_at_part v index_block ≢ 0) → has_no_block (an_array v) ≡ false
    go (inl t) = absurd (meets ((parts_of m k.file.apart).super u behind) t.1)
    go (inr t) = t.0

-- an array's header ends where its blocks in place do
pub head_ends : (v : IndexView) (end : ℕ) → has_no_block v ≡ true → AllEndBy end (fixed_of v) → header_place v + eahd_len ≤ end
head_ends (an_array v) end none tops = tops (block_at (header_place (an_array v)) eahd_len) (inl refl)
head_ends (a_tree p v) end none tops = absurd cc

-- an index that is made has its blocks: nothing is taken where the superblock stands
pub made_whole : (address : ℕ) (s : Space) (at : ℕ) (v : IndexView) (t : Space) → IsMadeAt address s at v t → IsLive s (extent_of the_superblock) → has_no_block v ≡ false
made_whole address s at (a_tree p v) t made live = refl
made_whole address s at (an_array v) t made live = ap (λ p. p == 0) is_made.is_made.created.index_at ∙ ne_eqb is_made.block 0 (far is_made.tops)
  where
    is_made : IsArrayMade address s at v t
    is_made = made

    off : (u : Space) → Took s u (extent is_made.block eaib_len) → is_made.block ≢ 0
    off u took e = let apart = took.off_live (extent_of the_superblock) live in absurd (omega (arith, apart, e))

    far : TookTops address s at is_made.block t → is_made.block ≢ 0
    far (both none two) = off two.between two.first
    far (block_alone named there took) = off t took

-- its header is where the layout says, if it says so
pub made_there : (address : ℕ) (s : Space) (at : ℕ) (v : IndexView) (t : Space) → IsMadeAt address s at v t → address ≢ undefined → at ≡ address
made_there address s at (an_array v) t made named = by is_made.tops
  where
    is_made : IsArrayMade address s at v t
    is_made = made

    by : TookTops address s at is_made.block t → at ≡ address
    by (both none two) = absurd (named none)
    by (block_alone there is took) = is
made_there address s at (a_tree p v) t made named = absurd (named made.unnamed)

-- so that it is the address that the layout has then
pub named_at : (address : ℕ) (s : Space) (at : ℕ) (v : IndexView) (t : Space) (naming : Option ℕ) → IsMadeAt address s at v t → IsNaming address at naming → unwrap_or naming address ≡ at
named_at address s at v t naming made names = go (eqb_tells address undefined)
  where
    go : ((address == undefined) ≡ true) × (address ≡ undefined) ⊎ ((address == undefined) ≡ false) × (address ≢ undefined) → unwrap_or naming address ≡ at
    go (inl t) = ap (λ (o : Option ℕ). unwrap_or o address) (names.unnamed t.1)
    go (inr n) = ap (λ (o : Option ℕ). unwrap_or o address) (names.named n.1) ∙ sym (made_there address s at v t made n.1)
