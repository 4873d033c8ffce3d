-- The front of an image after pieces that keep it.
use Rattle.std.proofs.Common.{◌≡◌, ℕ, ◌≤◌, List, [], ◌∷◌, ◌++◌, length, Ok, sym, ◌∙◌, ap, inl, inr, arith}
use Rattle.std.proofs.lemmas.Bool.{leb-true}
use Rattle.h5w_model.specs.Images.{AllMiss, apply, image}
use Rattle.h5w_model.specs.Numbers.{range}
use Rattle.h5w_model.specs.Superblock.{super_at, super_fields, super_tests}
use Rattle.h5w_model.specs.declared.piece.Write.{Write}
use Rattle.h5w_model.specs.declared.root.Super.{Super}
use Rattle.h5w_model.proofs.CheckedLemmas.{checked-passed}
use Rattle.h5w_model.proofs.ImageLemmas.{At-apply, length-range, range-apply_missed}
use Rattle.h5w_front_laws.specs.Fronts.{AllKeepFront, IsLeftOpen, KeepsFront, SaysWritten}

-- ---- One piece after another

-- a superblock that is read is there
front_long : (img : List ℕ) (s : Super) → super_at (range img 0 48) ≡ Ok s → 48 ≤ length img
front_long img s h =
    let b : List ℕ = range img 0 48 in
    let p = checked-passed (super_tests b) (super_fields b) s h in
    omega (arith, leb-true 48 (length b) p.0.1.0, length-range img 0 48)

pub piece_stays : (w : Write) (img : List ℕ) → KeepsFront w → IsLeftOpen img → IsLeftOpen (apply w img)
piece_stays w img (inl misses) left = record {
  root = left.root;
  read = ap super_at (range-apply_missed w img 0 48 misses (omega (arith, front_long img left.root left.read))) ∙ left.read;
  says = left.says;
}
piece_stays w img (inr new) left =
    let there : range (apply w img) 0 48 ≡ w.piece =
    ap (λ (n : ℕ). range (apply w img) 0 n) (sym new.len) ∙ ap (λ (at : ℕ). range (apply w img) at (length w.piece)) (sym new.place) ∙ At-apply w img in
    record { root = new.root; read = ap super_at there ∙ new.read; says = new.says }

pub pieces_stay : (ws : List Write) (img : List ℕ) → AllKeepFront ws → IsLeftOpen img → IsLeftOpen (image img ws)
pieces_stay [] img keep left = left
pieces_stay (w ∷ ws) img keep left = pieces_stay ws (apply w img) keep.1 (piece_stays w img keep.0 left)

-- ---- Lists of pieces

pub fronts_joined : (ws vs : List Write) → AllKeepFront ws → AllKeepFront vs → AllKeepFront (ws ++ vs)
fronts_joined [] vs first second = second
fronts_joined (w ∷ ws) vs first second = (first.0, fronts_joined ws vs first.1 second)

pub missed_fronts : (ws : List Write) → AllMiss ws 0 48 → AllKeepFront ws
missed_fronts [] miss = tt
missed_fronts (w ∷ ws) miss = (inl miss.0, missed_fronts ws miss.1)

-- another end is no other version and no other flags
pub says_with_end : (root : Super) (end : ℕ) → SaysWritten root → SaysWritten (record root { end = end })
says_with_end root end says = record { version = says.version; writing = says.writing; swmr = says.swmr }
