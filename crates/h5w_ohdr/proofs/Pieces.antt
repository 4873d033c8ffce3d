-- Pieces that are written one after another over the front of some bytes.
use Rattle.std.proofs.Common.{◌≡◌, ℕ, ◌+◌, ◌-◌, ◌<◌, ◌≤◌, List, [], ◌∷◌, ◌++◌, length, get_or, take, drop, refl, ap, sym, ◌∙◌, append_assoc, arith}
use Rattle.std.specs.List.{flat_map}
use Rattle.std.proofs.lemmas.List.{append-nil, take_more, take_at, drop_at, take_rest, drop-drop, drop_all, length-append, length-drop, length-take, take-take, take-append-drop}
use Rattle.h5w_model.specs.Checksum.{sealed_block}
use Rattle.h5w_model.proofs.ChecksumLemmas.{length-sealed_block}
use Rattle.std.proofs.lemmas.List.Concat.{flat_map-append}
use borrow.Rule.Slice.PartMut.{put_mid}

-- the pieces of one element more
pub pieces_more : {X A : Type 0} (f : X → List A) (xs : List X) (i : ℕ) (x : X) → i < length xs → x ≡ get_or xs i x → flat_map f (take (i + 1) xs) ≡ flat_map f (take i xs) ++ f x
pieces_more f xs i x h r =
    ap (flat_map f) (take_more xs i x h)
    ∙ flat_map-append f (take i xs) (get_or xs i x ∷ [])
    ∙ ap (λ y. flat_map f (take i xs) ++ y) (append-nil (f (get_or xs i x)) ∙ ap f (sym r))

-- they are a part of all
pub pieces_within : {X A : Type 0} (f : X → List A) (xs : List X) (i : ℕ) (x : X) → i < length xs → x ≡ get_or xs i x → length (flat_map f (take i xs)) + length (f x) ≤ length (flat_map f xs)
pieces_within f xs i x h r =
    let whole = ap (λ ys. length (flat_map f ys)) (sym (take-append-drop (i + 1) xs)) in
    let cut = ap length (flat_map-append f (take (i + 1) xs) (drop (i + 1) xs)) in
    let more = ap length (pieces_more f xs i x h r) in
    omega (arith, length-append (flat_map f (take (i + 1) xs)) (flat_map f (drop (i + 1) xs)), length-append (flat_map f (take i xs)) (f x))

-- one piece more, written behind those that stand at the front
pub written_more : (front piece old out part : List ℕ) (end : ℕ) → end ≡ length front → out ≡ front ++ drop (length front) old
    → part ≡ piece ++ drop (length piece) (take (length out - end) (drop end out)) → put_mid end (length out - end) out part ≡ (front ++ piece) ++ drop (length (front ++ piece)) old
written_more front piece old out part end e o p =
    let start : take end out ≡ front = ap (take end) o ∙ take_at front (drop (length front) old) end (sym e) in
    let rest : drop end out ≡ drop (length front) old = ap (drop end) o ∙ drop_at front (drop (length front) old) end (sym e) in
    let left : take (length out - end) (drop end out) ≡ drop (length front) old = take_rest out end ∙ rest in
    let new : part ≡ piece ++ drop (length (front ++ piece)) old =
    p ∙ ap (λ xs. piece ++ drop (length piece) xs) left
    ∙ ap (λ xs. piece ++ xs) (drop-drop (length piece) (length front) old ∙ ap (λ n. drop n old) (sym (length-append front piece))) in
    let nothing : drop (length out - end) (drop end out) ≡ [] = drop_all (length out - end) (drop end out) (omega (arith, length-drop end out)) in
    rw (start, nothing, new) (ap (λ xs. front ++ xs) (append-nil (piece ++ drop (length (front ++ piece)) old)) ∙ sym (append_assoc front piece (drop (length (front ++ piece)) old)))

-- a body at the front and its sum behind it
pub sealed_front : (body old out part : List ℕ) (end : ℕ) → end ≡ length body + 4 → out ≡ body ++ drop (length body) old → length body + 4 ≤ length old
    → part ≡ sealed_block (take (length (take end out) - 4) (take end out)) → part ++ drop end out ≡ sealed_block body ++ drop (length (sealed_block body)) old
sealed_front body old out part end e o room p =
    let long : length out ≡ length old = ap length o ∙ length-append body (drop (length body) old) ∙ omega (arith, length-drop (length body) old) in
    let short : length (take end out) - 4 ≡ length body = omega (arith, length-take end out) in
    let front : take (length (take end out) - 4) (take end out) ≡ body =
    ap (λ n. take n (take end out)) short ∙ take-take (length body) end out (omega arith) ∙ ap (take (length body)) o ∙ take_at body (drop (length body) old) (length body) refl in
    let rest : drop end out ≡ drop (length (sealed_block body)) old =
    ap (λ n. drop n out) e ∙ sym (drop-drop 4 (length body) out) ∙ ap (λ xs. drop 4 (drop (length body) xs)) o ∙ ap (drop 4) (drop_at body (drop (length body) old) (length body) refl)
    ∙ drop-drop 4 (length body) old ∙ ap (λ n. drop n old) (sym (length-sealed_block body)) in
    rw (p, front, rest) refl
