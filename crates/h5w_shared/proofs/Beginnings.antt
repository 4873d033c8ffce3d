-- Beginnings of a list of pieces.
use Rattle.std.proofs.Common.{◌≡◌, ◌≤◌, List, [], ◌∷◌, ◌++◌, length, sym, refl, ap, ◌∙◌, arith, length-append}
use Rattle.std.proofs.lemmas.List.{append_assoc, append-nil}
use Rattle.h5w_model.specs.declared.piece.Write.{Write}
use Rattle.h5w_shared.specs.Turns.{StartsWith}

pub starts_itself : (xs : List Write) → StartsWith xs xs
starts_itself xs = ([], sym (append-nil xs))

pub starts_same : (xs ys : List Write) → xs ≡ ys → StartsWith xs ys
starts_same xs ys e = ([], e ∙ sym (append-nil ys))

pub starts_nothing : (xs : List Write) → StartsWith xs []
starts_nothing xs = (xs, refl)

pub starts_both : (xs ys zs : List Write) → StartsWith xs ys → StartsWith ys zs → StartsWith xs zs
starts_both xs ys zs p q = (q.0 ++ p.0, p.1 ∙ (ap (λ w. w ++ p.0) q.1 ∙ append_assoc zs q.0 p.0))

-- of two beginnings of one list the shorter begins the longer
pub starts_shorter : (log xs ys : List Write) → StartsWith log xs → StartsWith log ys → length ys ≤ length xs → StartsWith xs ys
starts_shorter log xs [] p q le = (xs, refl)
starts_shorter log [] (y ∷ ys) p q le = absurd (omega arith)
starts_shorter [] (x ∷ xs) (y ∷ ys) p q le = absurd (cc (p.1))
starts_shorter (z ∷ log) (x ∷ xs) (y ∷ ys) p q le =
    let heads : x ≡ y = cc (p.1, q.1) in
    let rest = starts_shorter log xs ys (p.0, cc (p.1)) (q.0, cc (q.1)) (omega arith) in
    (rest.0, cc (heads, rest.1))

pub starts_length : (xs ys : List Write) → StartsWith xs ys → length ys ≤ length xs
starts_length xs ys p = omega (arith, ap length p.1, length-append ys p.0)
