-- Before the first superblock there is no file.
use Rattle.std.proofs.Common.{◌≡◌, ◌≢◌, ℕ, ◌≤◌, List, [], ◌∷◌, ◌++◌, length, length-append, get_or, Ok, Err, refl, sym, ◌∙◌, ap, subst, arith}
use Rattle.std.specs.Prelude.{map}
use Rattle.std.specs.List.{All}
use Rattle.std.proofs.lemmas.List.Elements.{All-cons, All-head, All-nil, All-tail}
use Rattle.h5w_model.specs.Numbers.{range}
use Rattle.h5w_model.specs.Images.{apply, image}
use Rattle.h5w_model.specs.Programs.{eval, and_then, ret}
use Rattle.h5w_model.specs.Arrays.{eaib_bytes, eahd_bytes}
use Rattle.h5w_model.specs.Trees.{bthd_bytes}
use Rattle.h5w_model.specs.Datasets.{dataset, dataset_place, linked, root_header, super_of, superblock, then_also}
use Rattle.h5w_model.specs.Tables.{needed_table}
use Rattle.h5w_model.specs.declared.piece.Write.{Write}
use Rattle.h5w_model.specs.declared.root.Super.{Super}
use Rattle.h5w_model.specs.declared.cell.IndexKind.{IndexKind}
use Rattle.h5w_model.specs.declared.cell.IndexKind.TheVariants.{Array, Tree}
use Rattle.h5w_model.specs.declared.refusal.ReadError.TheVariants.{NotHdf5}
use Rattle.h5w_model.proofs.ImageLemmas.{get_or-apply_before}
use Rattle.h5w_laws.proofs.ProgramLemmas.{eval_and_then}
use Rattle.h5w_creation_laws.specs.CreatedFiles.{CreatedFile, index_place, block_place, root_block, header_block, super_block, empty_array, empty_index_block, empty_tree, block_write}
use Rattle.h5w_creation_laws.specs.Born.{Born, CreatedBorn}
use Rattle.h5w_creation_laws.proofs.LogLaws.{before_super, super_last}

-- ---- The signature is not there

first_zero : (img : List ℕ) (ws : List Write) → get_or img 0 0 ≡ 0 → All (λ (w : Write). 8 ≤ w.at) ws → get_or (image img ws) 0 0 ≡ 0
first_zero img [] h far = h
first_zero img (w ∷ ws) h far =
    let low : 8 ≤ w.at = All-head (λ (w : Write). 8 ≤ w.at) w ws far in
    first_zero (apply w img) ws (get_or-apply_before w img 0 (omega (arith, low)) ∙ h) (All-tail (λ (w : Write). 8 ≤ w.at) w ws far)

no_super : (img : List ℕ) → get_or img 0 0 ≡ 0 → super_of (range img 0 48) ≡ Err NotHdf5
no_super [] h = refl
no_super (x ∷ xs) h = subst (λ y. super_of (range (y ∷ xs) 0 48) ≡ Err NotHdf5) (sym h) refl

pub born : Born
born limits name ws far =
    let img : List ℕ = image [] ws in
    let none : eval img superblock ≡ Err NotHdf5 = no_super img (first_zero [] ws refl far) in
    let place : eval img (dataset_place name) ≡ Err NotHdf5 =
    eval_and_then img superblock (λ s. and_then (root_header s.root) (λ h. ret (linked name h.messages)))
    ∙ ap (λ r. then_also r (λ (s : Super). eval img (and_then (root_header s.root) (λ h. ret (linked name h.messages))))) none in
    eval_and_then img (dataset_place name) (λ at. and_then (dataset at) (λ d. and_then (needed_table limits d) (λ t. ret (Ok (record { place = at; dataset = d; table = t })))))
    ∙ ap (λ r. then_also r (λ (at : ℕ). eval img (and_then (dataset at) (λ d. and_then (needed_table limits d) (λ t. ret (Ok (record { place = at; dataset = d; table = t }))))))) place

-- ---- The pieces of a creation but the last

abbrev Far : List Write → Type 0
Far ws = All (λ (w : Write). 8 ≤ w.at) ws

far_one : (b : ℕ × List ℕ) (ws : List Write) → 8 ≤ b.0 → Far ws → Far (block_write b ∷ ws)
far_one b ws low far = All-cons (λ (w : Write). 8 ≤ w.at) (block_write b) ws low far

headers_far : (f : CreatedFile) → Far (map block_write (header_block f ∷ root_block f ∷ []))
headers_far f = far_one (header_block f) (block_write (root_block f) ∷ []) (omega arith) (far_one (root_block f) [] (omega arith) (All-nil (λ (w : Write). 8 ≤ w.at)))

all_far : (k : IndexKind) (f : CreatedFile) → Far (before_super k f)
all_far Array f =
    let header : ℕ × List ℕ = (index_place f, eahd_bytes (empty_array (block_place f))) in
    let rest : List Write = map block_write (header_block f ∷ root_block f ∷ []) in
    far_one (block_place f, eaib_bytes (empty_index_block (index_place f))) (block_write header ∷ rest) (omega arith) (far_one header rest (omega arith) (headers_far f))
all_far Tree f = far_one (index_place f, bthd_bytes empty_tree) (map block_write (header_block f ∷ root_block f ∷ [])) (omega arith) (headers_far f)

-- some first elements, but not all, are among those before the last
front_far : (done pending ws : List Write) (last : Write) → done ++ pending ≡ ws ++ last ∷ [] → pending ≢ [] → Far ws → Far done
front_far [] pending ws last parts some far = All-nil (λ (w : Write). 8 ≤ w.at)
front_far (d ∷ done) [] [] last parts some far = absurd (some refl)
front_far (d ∷ done) (p ∷ pending) [] last parts some far = absurd (omega (arith, ap length parts, length-append done (p ∷ pending)))
front_far (d ∷ done) pending (w ∷ ws) last parts some far =
    let same : w ≡ d = cc in
    let rest : done ++ pending ≡ ws ++ last ∷ [] = cc in
    let low : 8 ≤ w.at = All-head (λ (w : Write). 8 ≤ w.at) w ws far in
    All-cons (λ (w : Write). 8 ≤ w.at) d done (subst (λ (v : Write). 8 ≤ v.at) same low) (front_far done pending ws last rest some (All-tail (λ (w : Write). 8 ≤ w.at) w ws far))

pub created_born : CreatedBorn
created_born limits name f done pending parts some =
    born limits name done (front_far done pending (before_super f.index f) (block_write (super_block f)) (parts ∙ super_last f.index f) some (all_far f.index f))
