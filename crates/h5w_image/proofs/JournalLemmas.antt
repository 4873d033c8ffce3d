-- The writes of a journal whose bytes grow.
use Rattle.std.proofs.Common.{ℕ, zero, suc, ◌+◌, ◌-◌, ◌<◌, ◌≤◌, ◌≡◌, arith, length, length-append, get_or, Some, None, List, [], ◌∷◌, ◌++◌, sym, refl, ap, ◌∙◌, subst}
use Rattle.std.specs.Prelude.{map, slice_get}
use Rattle.std.specs.Option.{option_map}
use Rattle.std.proofs.lemmas.List.{map-append, take_all}
use Rattle.std.proofs.lemmas.Option.{same_Some, slice_get-map, slice_get_read}
use Rattle.h5w_model.specs.Numbers.{range}
use Rattle.h5w_model.specs.declared.piece.Write.{Write}
use Rattle.h5w_model.proofs.NumberLemmas.{range-append-left, range-append-right}
use Rattle.h5w_image.specs.declared.journal.Entry.{Entry}
use Rattle.h5w_image.specs.Journals.{AreAmong, write_of}

abbrev pub write_with : ℕ → List ℕ → Write
write_with at piece = record { at = at; piece = piece }

-- what stood among the bytes stands there still
kept : (bytes more : List ℕ) (es : List Entry) → AreAmong bytes es → map (write_of (bytes ++ more)) es ≡ map (write_of bytes) es
kept bytes more [] among = refl
kept bytes more (e ∷ es) among =
    ap (λ (piece : List ℕ). write_with e.at piece ∷ map (write_of (bytes ++ more)) es) (range-append-left bytes more e.from e.len among.0)
    ∙ ap (λ (ws : List Write). write_of bytes e ∷ ws) (kept bytes more es among.1)

among_more : (bytes more : List ℕ) (es : List Entry) → AreAmong bytes es → AreAmong (bytes ++ more) es
among_more bytes more [] among = among
among_more bytes more (e ∷ es) among = (omega (arith, among.0, length-append bytes more), among_more bytes more es among.1)

among_last : (bytes : List ℕ) (es : List Entry) (e : Entry) → AreAmong bytes es → e.from + e.len ≤ length bytes → AreAmong bytes (es ++ e ∷ [])
among_last bytes [] e among last = (last, tt)
among_last bytes (x ∷ es) e among last = (among.0, among_last bytes es e among.1 last)

-- the entry of a piece whose bytes are the last
pub among_push : (bytes piece grown : List ℕ) (es fuller : List Entry) (e : Entry) → AreAmong bytes es
    → grown ≡ bytes ++ piece → fuller ≡ es ++ e ∷ [] → e.from ≡ length bytes → e.len ≡ length piece → AreAmong grown fuller
among_push bytes piece grown es fuller e among more last from len =
    subst (λ (b : List ℕ). AreAmong b fuller) (sym more)
    (subst (λ (xs : List Entry). AreAmong (bytes ++ piece) xs) (sym last)
    (among_last (bytes ++ piece) es e (among_more bytes piece es among) (omega (arith, from, len, length-append bytes piece))))

range_last : (bytes piece : List ℕ) → range (bytes ++ piece) (length bytes) (length piece) ≡ piece
range_last bytes piece =
    let none : length bytes - length bytes ≡ 0 = omega arith in
    range-append-right bytes piece (length bytes) (length bytes) (length piece) refl (omega arith)
    ∙ ap (λ (k : ℕ). range piece k (length piece)) none
    ∙ take_all (length piece) piece (omega arith)

pub writes_push : (bytes grown : List ℕ) (es fuller : List Entry) (e : Entry) (w : Write) → AreAmong bytes es
    → grown ≡ bytes ++ w.piece → fuller ≡ es ++ e ∷ [] → e.at ≡ w.at → e.from ≡ length bytes → e.len ≡ length w.piece
    → map (write_of grown) fuller ≡ map (write_of bytes) es ++ w ∷ []
writes_push bytes grown es fuller e w among more last at from len =
    let piece : range (bytes ++ w.piece) e.from e.len ≡ w.piece =
    ap (λ (k : ℕ). range (bytes ++ w.piece) k e.len) from ∙ ap (λ (n : ℕ). range (bytes ++ w.piece) (length bytes) n) len ∙ range_last bytes w.piece in
    let same : write_of (bytes ++ w.piece) e ≡ w = λ i. record { at = at i; piece = piece i } in
    ap (λ (b : List ℕ). map (write_of b) fuller) more
    ∙ ap (λ (xs : List Entry). map (write_of (bytes ++ w.piece)) xs) last
    ∙ map-append (write_of (bytes ++ w.piece)) es (e ∷ [])
    ∙ ap (λ (ws : List Write). ws ++ write_of (bytes ++ w.piece) e ∷ []) (kept bytes w.piece es among)
    ∙ ap (λ (x : Write). map (write_of bytes) es ++ x ∷ []) same

-- the entry that was read at a place
pub entry_at : (read es : List Entry) (k : ℕ) (e : Entry) → read ≡ es → k < length read → e ≡ get_or read k e → slice_get es k ≡ Some e
entry_at read es k e same inside is = ap (λ (xs : List Entry). slice_get xs k) (sym same) ∙ slice_get_read read (length read) k e refl inside is

-- what an entry of the list names is among the bytes
pub among_at : (bytes : List ℕ) (es : List Entry) (k : ℕ) (e : Entry) → AreAmong bytes es → slice_get es k ≡ Some e → e.from + e.len ≤ length bytes
among_at bytes [] k e among is = absurd cc
among_at bytes (x ∷ es) zero e among is = subst (λ (y : Entry). y.from + y.len ≤ length bytes) (same_Some x e is) among.0
among_at bytes (x ∷ es) (suc k) e among is = among_at bytes es k e among.1 is

-- the write at a place of the list
pub write_at : (bytes piece : List ℕ) (es : List Entry) (k at : ℕ) (e : Entry) → slice_get es k ≡ Some e → at ≡ e.at → piece ≡ range bytes e.from e.len
    → Some (write_with at piece) ≡ slice_get (map (write_of bytes) es) k
write_at bytes piece es k at e is place bytes_are =
    let same : write_of bytes e ≡ write_with at piece =
    λ i. record { at = sym place i; piece = sym bytes_are i } in
    sym (slice_get-map (write_of bytes) es k ∙ ap (option_map (write_of bytes)) is ∙ ap Some same)

pub nothing_at : (bytes : List ℕ) (es : List Entry) (k : ℕ) → slice_get es k ≡ None → None ≡ slice_get (map (write_of bytes) es) k
nothing_at bytes es k is = sym (slice_get-map (write_of bytes) es k ∙ ap (option_map (write_of bytes)) is)
