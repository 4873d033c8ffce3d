-- A session of several datasets appends to one of them, is stopped, or is closed.
use Rattle.std.proofs.Common.{◌≡◌, ◌<◌, ◌≤◌, ◌++◌, ℕ, true, false, List, [], ◌∷◌, ℤ, length, map, Some, slice_get, slice_set, slice_index_or, refl, sym, ap, subst, ◌∙◌, zero, suc, arith}
use Rattle.h5w_model.specs.Superblock.{super_bytes}
use Rattle.h5w_model.specs.declared.piece.Write.{Write}
use Rattle.h5w_model.specs.declared.root.Super.{Super}
use Rattle.h5w_writer.specs.Sessions.{IsSession, Session, cleared, closed_of, closed_root, stopped_of, with_values}
use Rattle.h5w_writer.specs.Refusals.{append_refusal}
use Rattle.h5w_writer.proofs.StateLemmas.{idle_unplanned, still_is}
use Rattle.h5w_several_writer.specs.Opened.{places_from}
use Rattle.h5w_several_writer.specs.Parts.{AllSessions, AreEnded}
use Rattle.h5w_several_writer.specs.Refusals.{append_refusal_in}
use Rattle.h5w_several_writer_laws.specs.Sessions.{AreParts, IsPart, Sessions, all_pending, closed_all, closed_part, closed_parts, closed_super, stopped_all}

-- ---- A part is another

pub get_at : (ss : List Session) (d : ℕ) (s : Session) → d < length ss → slice_get ss d ≡ Some (slice_index_or ss d s)
get_at [] d s inside = absurd (omega arith)
get_at (x ∷ xs) zero s inside = refl
get_at (x ∷ xs) (suc d) s inside = get_at xs d s (omega arith)

pub part_of : (S : Sessions) (ss : List Session) (d : ℕ) (s : Session) → slice_get ss d ≡ Some s → AreParts S ss → IsPart S s
part_of S [] d s at parts = absurd cc
part_of S (x ∷ xs) zero s at parts = let is : x ≡ s = cc in subst (IsPart S) is parts.0
part_of S (x ∷ xs) (suc d) s at parts = part_of S xs d s at parts.1

pub set_parts : (S : Sessions) (ss : List Session) (d : ℕ) (u : Session) → IsPart S u → AreParts S ss → AreParts S (slice_set ss d u)
set_parts S [] d u p parts = tt
set_parts S (x ∷ xs) zero u p parts = (p, parts.1)
set_parts S (x ∷ xs) (suc d) u p parts = (parts.0, set_parts S xs d u p parts.1)

pub set_pending : (ss : List Session) (d : ℕ) (s u : Session) → slice_get ss d ≡ Some s → u.pending ≡ s.pending → all_pending (slice_set ss d u) ≡ all_pending ss
set_pending [] d s u at same = absurd cc
set_pending (x ∷ xs) zero s u at same = let is : s ≡ x = cc in ap (λ (ws : List Write). ws ++ all_pending xs) (same ∙ ap (λ (v : Session). v.pending) is)
set_pending (x ∷ xs) (suc d) s u at same = ap (λ (ws : List Write). x.pending ++ ws) (set_pending xs d s u at same)

pub set_length : (ss : List Session) (d : ℕ) (u : Session) → length (slice_set ss d u) ≡ length ss
set_length [] d u = refl
set_length (x ∷ xs) zero u = refl
set_length (x ∷ xs) (suc d) u = ap suc (set_length xs d u)

pub get_set : (ss : List Session) (d : ℕ) (u : Session) → d < length ss → slice_get (slice_set ss d u) d ≡ Some u
get_set [] d u inside = absurd (omega arith)
get_set (x ∷ xs) zero u inside = refl
get_set (x ∷ xs) (suc d) u inside = get_set xs d u (omega arith)

-- the values of one of them wait
pub added_part : (S : Sessions) (s u : Session) (values : List ℤ) → IsPart S s → IsSession u → u ≡ with_values s values → IsPart S u
added_part S s u values p is same = record {
  session = is;
  root = ap (λ (v : Session). v.root) same ∙ p.root;
  places = ap (λ (v : Session). v.places) same ∙ p.places;
  stopped = ap (λ (v : Session). v.stopped) same ∙ p.stopped;
  early = ap (λ (v : Session). v.early) same ∙ p.early;
}

pub set_same : (ss : List Session) (d : ℕ) (s : Session) → slice_get ss d ≡ Some s → slice_set ss d s ≡ ss
set_same [] d s at = refl
set_same (x ∷ xs) zero s at = let is : s ≡ x = cc in ap (λ (v : Session). v ∷ xs) is
set_same (x ∷ xs) (suc d) s at = ap (λ (vs : List Session). x ∷ vs) (set_same xs d s at)

pub same_part : (ss : List Session) (d : ℕ) (s u : Session) → slice_get ss d ≡ Some s → slice_get ss d ≡ Some u → s ≡ u
same_part ss d s u here there = cc

-- where nothing is pending in a session that goes on, an append is refused as its dataset refuses it
pub refusal_in : (S : Sessions) (s : Session) (values : List ℤ) → S.stopped ≡ false → length (all_pending S.parts) ≡ 0 → append_refusal_in S s values ≡ append_refusal s values
refusal_in S s values going idle = rw (going, idle) refl

-- ---- Stopped

stopped_session : (s : Session) → IsSession s → IsSession (stopped_of s)
stopped_session s is = still_is s s.root s.committed [] true s.keeps false refl (λ e. absurd cc) is

stopped_part : (S : Sessions) (s : Session) → IsPart S s → IsPart (stopped_all S) (stopped_of s)
stopped_part S s p = record { session = stopped_session s p.session; root = p.root; places = p.places; stopped = refl; early = p.early }

pub stopped_parts : (S : Sessions) (ss : List Session) → AreParts S ss → AreParts (stopped_all S) (map stopped_of ss)
stopped_parts S [] parts = tt
stopped_parts S (s ∷ ss) parts = (stopped_part S s parts.0, stopped_parts S ss parts.1)

pub stopped_none : (ss : List Session) → all_pending (map stopped_of ss) ≡ []
stopped_none [] = refl
stopped_none (s ∷ ss) = stopped_none ss

-- ---- Closed

pub ended_parts : (S : Sessions) (e limit : ℕ) (ss : List Session) → e ≡ S.places.end → limit ≡ S.places.limit → AreParts S ss → AreEnded e limit ss
ended_parts S e limit [] e_is limit_is parts = tt
ended_parts S e limit (s ∷ ss) e_is limit_is parts = (parts.0.places ∙ (λ i. places_from (sym e_is i) (sym limit_is i)), ended_parts S e limit ss e_is limit_is parts.1)

pub closed_session : (s : Session) → IsSession s → s.pending ≡ [] → IsSession (closed_of s)
closed_session s is idle = still_is s (closed_root s) s.committed (record { at = 0; piece = super_bytes (closed_root s) } ∷ []) true s.keeps s.flushing refl (λ e. absurd (let calm = idle_unplanned s is idle in cc)) is

closed_behind : (S : Sessions) (ss : List Session) → AreParts S ss → AllSessions (map (closed_part (closed_super S)) ss) → AreParts (closed_all S) (map (closed_part (closed_super S)) ss)
closed_behind S [] parts are = tt
closed_behind S (s ∷ ss) parts are = (record { session = are.0; root = refl; places = parts.0.places; stopped = refl; early = parts.0.early }, closed_behind S ss parts.1 are.1)

pub closed_all_parts : (S : Sessions) (ss : List Session) → AreParts S ss → AllSessions (closed_parts (closed_super S) ss) → AreParts (closed_all S) (closed_parts (closed_super S) ss)
closed_all_parts S [] parts are = tt
closed_all_parts S (s ∷ ss) parts are =
    let p = parts.0 in
    (record { session = are.0; root = ap (λ (r : Super). record r { flags = cleared r.flags }) p.root; places = p.places; stopped = refl; early = p.early }, closed_behind S ss parts.1 are.1)

behind_length : (root : Super) (ss : List Session) → length (map (closed_part root) ss) ≡ length ss
behind_length root [] = refl
behind_length root (s ∷ ss) = ap suc (behind_length root ss)

pub closed_length : (root : Super) (ss : List Session) → length (closed_parts root ss) ≡ length ss
closed_length root [] = refl
closed_length root (s ∷ ss) = ap suc (behind_length root ss)

pub stopped_length : (ss : List Session) → length (map stopped_of ss) ≡ length ss
stopped_length [] = refl
stopped_length (s ∷ ss) = ap suc (stopped_length ss)

pub behind_none_pending : (root : Super) (ss : List Session) → all_pending (map (closed_part root) ss) ≡ []
behind_none_pending root [] = refl
behind_none_pending root (s ∷ ss) = behind_none_pending root ss

pub closed_few : (root : Super) (ss : List Session) → length (all_pending (closed_parts root ss)) ≤ 1
closed_few root [] = omega arith
closed_few root (s ∷ ss) = let none = ap (λ (ws : List Write). length ws) (behind_none_pending root ss) in omega (arith, none)
