-- A piece of one of the parts becomes visible.
use Rattle.std.proofs.Common.{◌≡◌, ◌≢◌, ◌⊎◌, ◌+◌, ◌<◌, ◌++◌, suc, Bool, true, false, List, [], ◌∷◌, length, refl, sym, ap, subst, ◌∙◌, inl, inr, arith, length-append}
use Rattle.std.proofs.lemmas.List.{nil_from_length}
use Rattle.std.proofs.lemmas.List.Sorted.{length_permutation}
use Rattle.h5w_model.specs.declared.piece.Write.{Write}
use Rattle.h5w_space.specs.Space.{Space}
use Rattle.h5w_writer.specs.Sessions.{AfterPiece, Freed, IsSession, Session, Settles}
use Rattle.h5w_writer.proofs.StandLemmas.{freed_keeps, freed_live}
use Rattle.h5w_writer.proofs.StateLemmas.{freed_is, still_is}
use Rattle.h5w_several_writer_laws.specs.Sessions.{AreFlushing, AreParts, AreShown, IsPart, Sessions, all_pending, bare}

-- ---- The lists of pieces

pub split_pending : (xs ys : List Write) (w : Write) (ws : List Write) → 0 < length xs → xs ++ ys ≡ w ∷ ws → (vs : List Write) × (xs ≡ w ∷ vs) × (ws ≡ vs ++ ys)
split_pending [] ys w ws some same = absurd (omega arith)
split_pending (x ∷ xs) ys w ws some same = (xs, cc, cc)

pub behind_none : (xs ys zs : List Write) → length xs ≡ 0 → xs ++ ys ≡ zs → ys ≡ zs
behind_none [] ys zs none same = same
behind_none (x ∷ xs) ys zs none same = absurd (omega arith)

left_settled : (b : Bool) (s u : Session) → Settles b s u → u.pending ≡ []
left_settled true s u x = ap (λ (v : Session). v.pending) x.1
left_settled false s u x = ap (λ (v : Session). v.pending) x

pub piece_left : (s u : Session) (ws : List Write) → AfterPiece s ws u → u.pending ≡ ws
piece_left s u [] x = left_settled s.flushing s u x
piece_left s u (w ∷ ws) x = ap (λ (v : Session). v.pending) x

pub none_flushing : (ss : List Session) → length (all_pending ss) ≡ 0 → AreFlushing ss → ⊥
none_flushing [] none f = f
none_flushing (s ∷ ss) none (inl f) = f.0 (nil_from_length s.pending (omega (arith, length-append s.pending (all_pending ss), none)))
none_flushing (s ∷ ss) none (inr f) = none_flushing ss (omega (arith, length-append s.pending (all_pending ss), none)) f

-- a piece of no flush leaves the rest
pub settles_calm : (s u : Session) → s.flushing ≡ false → Settles s.flushing s u → u ≡ record s { pending = [] }
settles_calm s u calm x = subst (λ (b : Bool). Settles b s u) calm x

-- ---- What holds of every part

-- nothing of a part's own places is free or retired, so that none becomes so
pub bare_freed : (keeps : Bool) (t u : Space) → Freed keeps (bare t) u → u ≡ bare t
bare_freed true t u freed = freed
bare_freed false t u freed =
    let none : u.free ≡ [] = nil_from_length u.free (length_permutation [] u.free freed.free) in
    λ i. record { end = freed.end i; limit = freed.limit i; free = none i; retired = freed.retired i; spare = freed.spare i }

settled_session : (b : Bool) (s u : Session) → s.flushing ≡ b → IsSession s → Settles b s u → IsSession u
settled_session true s u flag is x =
    let k = freed_keeps s.keeps s.places u.places x.0 in
    let placed = freed_is s u.places k.0 k.1 (freed_live s.keeps s.places u.places x.0) is in
    subst IsSession (sym x.1) (still_is (record s { places = u.places }) s.root s.dataset.shape.rows [] s.stopped s.keeps false refl (λ e. absurd cc) placed)
settled_session false s u flag is x = subst IsSession (sym x) (still_is s s.root s.committed [] s.stopped s.keeps s.flushing refl (λ e. absurd cc) is)

pub piece_session : (s u : Session) (ws : List Write) → IsSession s → AfterPiece s ws u → IsSession u
piece_session s u [] is x = settled_session s.flushing s u refl is x
piece_session s u (w ∷ ws) is x = subst IsSession (sym x) (still_is s s.root s.committed (w ∷ ws) s.stopped s.keeps s.flushing refl (λ e. (is.flushing e, λ none. absurd cc)) is)

-- what of a part is looked at there
record IsKept (s u : Session) : Type 0 where
  root : u.root ≡ s.root
  stopped : u.stopped ≡ s.stopped
  early : u.early ≡ s.early

settled_kept : (b : Bool) (s u : Session) → Settles b s u → IsKept s u
settled_kept true s u x = record { root = ap (λ (v : Session). v.root) x.1; stopped = ap (λ (v : Session). v.stopped) x.1; early = ap (λ (v : Session). v.early) x.1 }
settled_kept false s u x = record { root = ap (λ (v : Session). v.root) x; stopped = ap (λ (v : Session). v.stopped) x; early = ap (λ (v : Session). v.early) x }

piece_kept : (s u : Session) (ws : List Write) → AfterPiece s ws u → IsKept s u
piece_kept s u [] x = settled_kept s.flushing s u x
piece_kept s u (w ∷ ws) x = record { root = ap (λ (v : Session). v.root) x; stopped = ap (λ (v : Session). v.stopped) x; early = ap (λ (v : Session). v.early) x }

settled_places : (b : Bool) (s u : Session) (t : Space) → s.places ≡ bare t → Settles b s u → u.places ≡ bare t
settled_places true s u t are x = bare_freed s.keeps t u.places (subst (λ (v : Space). Freed s.keeps v u.places) are x.0)
settled_places false s u t are x = ap (λ (v : Session). v.places) x ∙ are

piece_places : (s u : Session) (ws : List Write) (t : Space) → s.places ≡ bare t → AfterPiece s ws u → u.places ≡ bare t
piece_places s u [] t are x = settled_places s.flushing s u t are x
piece_places s u (w ∷ ws) t are x = ap (λ (v : Session). v.places) x ∙ are

pub piece_part : (S : Sessions) (s u : Session) (ws : List Write) → IsPart S s → AfterPiece s ws u → IsPart S u
piece_part S s u ws p x =
    let k = piece_kept s u ws x in
    record { session = piece_session s u ws p.session x; root = k.root ∙ p.root; places = piece_places s u ws S.places p.places x; stopped = k.stopped ∙ p.stopped; early = k.early ∙ p.early }

pub shown_parts : (S : Sessions) (w : Write) (ss us : List Session) → AreShown w ss us → AreParts S ss → AreParts S us
shown_parts S w (s ∷ ss) (u ∷ us) (inl x) parts = (subst (IsPart S) (sym x.1) parts.0, shown_parts S w ss us x.2 parts.1)
shown_parts S w (s ∷ ss) (u ∷ us) (inr x) parts = (piece_part S s u x.0 parts.0 x.2, subst (AreParts S) (sym x.3) parts.1)
shown_parts S w (s ∷ ss) [] x parts = absurd x
shown_parts S w [] us x parts = absurd x

pub length_shown : (w : Write) (ss us : List Session) → AreShown w ss us → length us ≡ length ss
length_shown w (s ∷ ss) (u ∷ us) (inl x) = ap suc (length_shown w ss us x.2)
length_shown w (s ∷ ss) (u ∷ us) (inr x) = ap (λ (vs : List Session). suc (length vs)) x.3
length_shown w (s ∷ ss) [] x = absurd x
length_shown w [] us x = absurd x

-- ---- The first part that has a piece

pub first_of : (xs : List Write) → 0 < length xs → (w : Write) × (ws : List Write) × (xs ≡ w ∷ ws)
first_of [] some = absurd (omega arith)
first_of (x ∷ xs) some = (x, xs, refl)

module _ (s u : Session) (ss : List Session) (some : 0 < length s.pending) (after : (w : Write) (ws : List Write) → s.pending ≡ w ∷ ws → AfterPiece s ws u) where
  pub shown_here : (w : Write) (ws : List Write) → all_pending (s ∷ ss) ≡ w ∷ ws → AreShown w (s ∷ ss) (u ∷ ss)
  shown_here w ws same = let x = split_pending s.pending (all_pending ss) w ws some same in inr (x.0, x.1, after w x.0 x.1, refl)

  pub left_here : (w : Write) (ws : List Write) → all_pending (s ∷ ss) ≡ w ∷ ws → all_pending (u ∷ ss) ≡ ws
  left_here w ws same =
      let x = split_pending s.pending (all_pending ss) w ws some same in
      ap (λ (vs : List Write). vs ++ all_pending ss) (piece_left s u x.0 (after w x.0 x.1)) ∙ sym x.2

  one_less : length u.pending + 1 ≡ length s.pending
  one_less =
      let x = first_of s.pending some in
      let left = ap (λ (ws : List Write). length ws) (piece_left s u x.1 (after x.0 x.1 x.2)) in
      omega (arith, left, ap (λ (ws : List Write). length ws) x.2)

  pub last_here : (s.flushing ≡ true) × (length s.pending ≡ 1) × (length (all_pending ss) ≡ 0) → AreFlushing (s ∷ ss) × (all_pending (u ∷ ss) ≡ [])
  last_here x =
      (inl ((λ e. absurd (let n = ap (λ (ws : List Write). length ws) e in omega (arith, n, some))), x.0), nil_from_length (all_pending (u ∷ ss)) (omega (arith, length-append u.pending (all_pending ss), one_less, x.1, x.2)))

  more_left : ((length s.pending ≡ 1) × (length (all_pending ss) ≡ 0) → ⊥) → all_pending (u ∷ ss) ≢ []
  more_left more e =
      let n = ap (λ (ws : List Write). length ws) e in
      more (omega (arith, length-append u.pending (all_pending ss), one_less, n), omega (arith, length-append u.pending (all_pending ss), n))

  calm_here : s.flushing ≡ false → length (all_pending ss) ≡ 0 → AreFlushing (s ∷ ss) → ⊥
  calm_here calm none (inl f) = absurd (let e = f.1 in cc)
  calm_here calm none (inr f) = none_flushing ss none f

  pub more_here : ((length s.pending ≡ 1) × (length (all_pending ss) ≡ 0) → ⊥) ⊎ ((s.flushing ≡ false) × (length (all_pending ss) ≡ 0)) → (all_pending (u ∷ ss) ≢ []) ⊎ (AreFlushing (s ∷ ss) → ⊥)
  more_here (inl more) = inl (more_left more)
  more_here (inr x) = inr (calm_here x.0 x.1)

-- a part without a piece is none that is flushed
pub behind_flushing : (s : Session) (ss : List Session) → length s.pending ≡ 0 → AreFlushing (s ∷ ss) → AreFlushing ss
behind_flushing s ss none (inl f) = absurd (f.0 (nil_from_length s.pending none))
behind_flushing s ss none (inr f) = f
