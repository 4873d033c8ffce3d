-- A created file of one dataset, as one of several.
use Rattle.std.proofs.Common.{◌≡◌, ℕ, ◌+◌, ◌/◌, ◌≤◌, cond, List, [], ◌∷◌, ◌++◌, length, refl, ap, ◌∙◌, arith}
use Rattle.std.specs.Prelude.{map}
use Rattle.std.proofs.lemmas.Bool.{le-leb}
use Rattle.std.proofs.lemmas.List.{take_all}
use Rattle.h5w_model.specs.Images.{pieces, first_pieces}
use Rattle.h5w_model.specs.Headers.{header_bytes}
use Rattle.h5w_model.specs.Links.{link_info_bytes, group_info_bytes, link_bytes, link_info_kind, link_message_kind}
use Rattle.h5w_model.specs.Superblock.{super_bytes}
use Rattle.h5w_model.specs.Findings.{Used}
use Rattle.h5w_model.specs.declared.cell.IndexKind.{IndexKind}
use Rattle.h5w_model.specs.declared.cell.IndexKind.TheVariants.{Array, Tree}
use Rattle.h5w_model.specs.declared.root.Super.{Super}
use Rattle.h5w_model.specs.declared.piece.Write.{Write}
use Rattle.h5w_step_laws.specs.Ranges.{block_at}
use Rattle.h5w_step_laws.specs.Spelled.{message}
use Rattle.h5w_step_laws.specs.Moments.{Moment}
use Rattle.h5w_creation_laws.specs.CreatedFiles as one
use Rattle.h5w_creation_laws.specs.CreatedFiles.{CreatedFile, IsCreatable, root_place, header_place, header_len, group_info_kind, header_block, block_write, index_blocks, fixed_of}
use Rattle.h5w_creation_laws.proofs.SizeLemmas as sizes
use Rattle.h5w_several_creation_laws.specs.SeveralFiles.{end_behind, messages_len, root_len, header_at, index_at, set_at, fixed_at, moment_at}
use Rattle.h5w_several_creation_laws.specs.SeveralLaws.{OneDataset}

-- what the root header of one has
abbrev one_root : CreatedFile → List CreatedFile
one_root f = f ∷ []

root_same : (f : CreatedFile) → IsCreatable f → root_len (one_root f) ≡ one.root_len f
root_same f h =
    let short = h.name_bound in
    ap (λ t. cond t 11 12 + messages_len (one_root f)) (le-leb (messages_len (one_root f)) 255 (omega arith)) ∙ omega arith

-- bytes of at most 512 are one piece
pub one_piece : (place : ℕ) (bytes : List ℕ) → 1 ≤ length bytes → length bytes ≤ 512 → pieces place bytes ≡ record { at = place; piece = bytes } ∷ []
unfolding pieces first_pieces
one_piece place bytes some few =
    let count : (length bytes + 511) / 512 ≡ 1 = omega arith in
    ap (λ (k : ℕ). first_pieces k place bytes) count ∙ ap (λ (b : List ℕ). record { at = place; piece = b } ∷ []) (take_all 512 bytes few)

-- the superblock of a file whose dataset's header stands at a place
abbrev super_at : ℕ → CreatedFile → Super
super_at place f = record { version = 3; flags = 5; end = end_behind place f; root = root_place }

-- and its root header
abbrev root_at : ℕ → CreatedFile → List ℕ
root_at place f = header_bytes (message link_info_kind link_info_bytes ∷ message group_info_kind group_info_bytes ∷ message link_message_kind (link_bytes f.name place) ∷ [])

abbrev writes_at : ℕ → CreatedFile → List Write
writes_at place f = map block_write (set_at place f ++ []) ++ (pieces root_place (root_at place f) ++ block_write (0, super_bytes (super_at place f)) ∷ [])

blocks_same : (k : IndexKind) (f : CreatedFile) (ws : List Write) → map block_write ((index_at k (header_place f) f ++ header_at (header_place f) f ∷ []) ++ []) ++ ws ≡ map block_write (index_blocks k f ++ header_block f ∷ []) ++ ws
blocks_same Array f ws = refl
blocks_same Tree f ws = refl

joined : (k : IndexKind) (f : CreatedFile) → map block_write (index_blocks k f ++ header_block f ∷ []) ++ (block_write (one.root_block f) ∷ block_write (one.super_block f) ∷ [])
    ≡ map block_write (index_blocks k f ++ header_block f ∷ one.root_block f ∷ one.super_block f ∷ [])
joined Array f = refl
joined Tree f = refl

fixed_same : (k : IndexKind) (f : CreatedFile) → fixed_at k (header_place f) f ≡ fixed_of k f
fixed_same Array f = refl
fixed_same Tree f = refl

abbrev moment_with : ℕ → CreatedFile → Moment
moment_with n f = moment_at (super_at (root_place + n) f) (block_at root_place n ∷ []) (root_place + n) f

pub one_dataset : OneDataset
one_dataset f h =
    let e = root_same f h in
    let short = h.name_bound in
    let long = sizes.root_long f h.name_bound in
    let last : List Write = block_write (one.super_block f) ∷ [] in
    record {
      end = ap (λ (n : ℕ). end_behind (root_place + n) f) e;
      writes =
          ap (λ (n : ℕ). writes_at (root_place + n) f) e
          ∙ blocks_same f.index f (pieces root_place (root_at (header_place f) f) ++ last)
          ∙ ap (λ (ws : List Write). map block_write (index_blocks f.index f ++ header_block f ∷ []) ++ (ws ++ last)) (one_piece root_place (root_at (header_place f) f) (omega (arith, long)) (omega (arith, long)))
          ∙ joined f.index f;
      moment = ap (λ (n : ℕ). moment_with n f) e ∙ ap (λ (us : List Used). record (one.created_moment f) { fixed = us }) (fixed_same f.index f);
    }
