-- All names at each position: pieces that come to others, and datasets that are known.
use Rattle.std.proofs.Common.{◌≡◌, ℕ, zero, suc, ◌+◌, ◌-◌, ◌<◌, ◌≢◌, List, [], ◌∷◌, ◌++◌, length, sym, subst, inl, inr, arith, length-append}
use Rattle.std.specs.Prelude.{take}
use Rattle.std.proofs.lemmas.List.{take-append-le}
use Rattle.std.proofs.lemmas.Bool.Decides.{leb_tells}
use Rattle.std.proofs.Math.Seq.{take-append-add}
use Rattle.h5w_model.specs.Images.{apply, image}
use Rattle.h5w_model.specs.Findings.{Used}
use Rattle.h5w_model.specs.Several.{Begun, FileLog, pieces_in}
use Rattle.h5w_model.specs.declared.piece.Write.{Write}
use Rattle.h5w_model.specs.declared.root.Super.{Super}
use Rattle.h5w_model.proofs.ImageLemmas.{image-append}
use Rattle.h5w_space.specs.Space.{Space}
use Rattle.h5w_several_laws.specs.Together.{AreClear, AreThere, IsAllValid, IsClear, StaysValid, names_of}
use Rattle.h5w_several_laws.specs.Turns.{AreKnown, AreOff, Entry, IsOff}
use Rattle.h5w_several_laws.proofs.TogetherLemmas.{some_valid}
use Rattle.h5w_several_writer_laws.specs.Standing.{last_image}
use Rattle.h5w_several_writer_laws.specs.Valid.{AreValidFrom}

-- ---- Datasets that are known

pub known_there : (img : List ℕ) (t : Space) (root : Super) (us : List Used) (es : List Entry) → AreKnown img t root us es → AreThere img es
known_there img t root us [] x = tt
known_there img t root us (e ∷ es) x = (x.0.knows.file, known_there img t root us es x.1)

is_clear : (e : Entry) (es : List Entry) → IsOff e es → IsClear e es
is_clear e [] off = tt
is_clear e (x ∷ es) off = (off.0.own, is_clear e es off.1)

pub off_clear : (es : List Entry) → AreOff es → AreClear es
off_clear [] off = tt
off_clear (e ∷ es) off = (is_clear e es off.0, off_clear es off.1)

-- ---- Pieces one after another

pub stays_joined : (img : List ℕ) (names : List (List ℕ)) (ws vs : List Write) → StaysValid img names ws → StaysValid (image img ws) names vs → StaysValid img names (ws ++ vs)
stays_joined img names [] vs x y = y
stays_joined img names (w ∷ ws) vs x y = (x.0, stays_joined (apply w img) names ws vs x.1 y)

stays_at : (img : List ℕ) (names : List (List ℕ)) (ws : List Write) (k : ℕ) → k < length ws → StaysValid img names ws → IsAllValid (image img (take (suc k) ws)) names
stays_at img names [] k low x = absurd (omega (arith, low))
stays_at img names (w ∷ ws) zero low x = x.0
stays_at img names (w ∷ ws) (suc k) low x = stays_at (apply w img) names ws k (omega (arith, low)) x.1

-- more pieces come behind those of before
pub valid_more : (first : ℕ) (img : List ℕ) (names : List (List ℕ)) (ws vs : List Write) → AreValidFrom first img names ws → StaysValid (image img ws) names vs → AreValidFrom first img names (ws ++ vs)
valid_more first img names ws vs x y p begun reached = elim (leb_tells p (length ws)) [
  | inl low ↦ subst (λ (us : List Write). IsAllValid (image img us) names) (sym (take-append-le p ws vs low.1)) (x p begun low.1)
  | inr high ↦
      let k : ℕ = p - suc (length ws) in
      let long = length-append ws vs in
      let here : p ≡ length ws + suc k = omega (arith, high.1) in
      let there : IsAllValid (image (image img ws) (take (suc k) vs)) names = stays_at (image img ws) names vs k (omega (arith, high.1, reached, long)) y in
      subst (λ (q : ℕ). IsAllValid (image img (take q (ws ++ vs))) names) (sym here)
      (subst (λ (us : List Write). IsAllValid (image img us) names) (sym (take-append-add ws vs (suc k))) (subst (λ (i : List ℕ). IsAllValid i names) (sym (image-append img ws (take (suc k) vs))) there))
]

-- one piece behind which all datasets are known
pub valid_last : (first : ℕ) (log : FileLog) (w : Write) (t : Space) (root : Super) (us : List Used) (es : List Entry) → es ≢ [] → AreKnown (last_image log (w ∷ [])) t root us es → AreOff es
    → AreValidFrom first log.start (names_of es) (pieces_in log.events) → AreValidFrom first log.start (names_of es) (pieces_in log.events ++ w ∷ [])
valid_last first log w t root us es some known off before =
    let there = known_there (last_image log (w ∷ [])) t root us es known in
    let shown = subst (λ (i : List ℕ). IsAllValid i (names_of es)) (image-append log.start (pieces_in log.events) (w ∷ [])) (some_valid (last_image log (w ∷ [])) es some there (off_clear es off)) in
    valid_more first log.start (names_of es) (pieces_in log.events) (w ∷ []) before (shown, tt)

-- so it is where a session begins over a file that is valid for all names, and the superblock is written
pub begun_valid : (img : List ℕ) (bs : List Begun) (w : Write) (t : Space) (root : Super) (us : List Used) (es : List Entry) → es ≢ [] → IsAllValid img (names_of es)
    → AreKnown (last_image (record { start = img; sets = bs; first = 0; events = [] }) (w ∷ [])) t root us es → AreOff es → AreValidFrom 0 img (names_of es) (w ∷ [])
begun_valid img bs w t root us es some valid known off = valid_last 0 (record { start = img; sets = bs; first = 0; events = [] }) w t root us es some known off first
  where
    first : AreValidFrom 0 img (names_of es) []
    first zero begun reached = valid
    first (suc p) begun reached = absurd (omega (arith, reached))
