-- The parts of a session of several datasets: what holds of each is kept.
use Rattle.std.proofs.Common.{◌≡◌, ◌^◌, ◌<◌, ◌≤◌, ◌++◌, ℕ, suc, List, [], ◌∷◌, length, refl, sym, ap, subst, ◌∙◌, inl, inr, arith}
use Rattle.h5w_model.specs.declared.piece.Write.{Write}
use Rattle.h5w_model.specs.declared.root.Super.{Super}
use Rattle.h5w_space.specs.Space.{Space}
use Rattle.h5w_writer.specs.Flushes.{SameBut}
use Rattle.h5w_writer.specs.Sessions.{IsSession, Session, rows_of}
use Rattle.h5w_writer.specs.Starts.{HasFlushed}
use Rattle.h5w_writer.specs.Told.{told_of}
use Rattle.h5w_writer.proofs.CarriedLemmas.{refused_is}
use Rattle.h5w_writer.proofs.HalfLemmas.{same_kept}
use Rattle.h5w_several_writer.specs.Parts.{AllSessions, AreIdle}
use Rattle.h5w_several_writer_laws.specs.Sessions.{AreFlushed, AreParts, AreSameBut, AreSessions, IsPart, SameButHeld, Sessions, all_pending, bare}

-- ---- A refused flush

pub same_back : (s : Session) (r : Super) (t : Space) (m : Session) → SameBut (told_of s r t) m → SameBut s (told_of m s.root s.places)
same_back s r t m x = record {
  session = ap (λ (u : Session). told_of u s.root s.places) x.session;
  held = x.held;
  unmade = λ lacks. x.unmade lacks;
  roomy = x.roomy;
}

pub same_session : (s u : Session) → IsSession s → SameBut s u → IsSession u
same_session s u is x = subst IsSession (sym x.session) (refused_is s (rows_of s) u.index refl x.held is)

pub same_all : (end : ℕ) (ss : List Session) → AreIdle end ss → AreSameBut ss ss
same_all end [] idle = tt
same_all end (s ∷ ss) idle = (same_kept s idle.0.0, same_all end ss idle.1)

pub parts_same : (S : Sessions) (ss us : List Session) → AreParts S ss → AreSameBut ss us → AreParts S us
parts_same S [] [] parts same = tt
parts_same S (s ∷ ss) (u ∷ us) parts same =
    let p = parts.0 in
    let x = same.0 in (
      record {
        session = same_session s u p.session x;
        root = ap (λ (v : Session). v.root) x.session ∙ p.root;
        places = ap (λ (v : Session). v.places) x.session ∙ p.places;
        stopped = ap (λ (v : Session). v.stopped) x.session ∙ p.stopped;
        early = ap (λ (v : Session). v.early) x.session ∙ p.early;
      },
      parts_same S ss us parts.1 same.1,
    )
parts_same S [] (u ∷ us) parts same = absurd same
parts_same S (s ∷ ss) [] parts same = absurd same

pub pending_same : (ss us : List Session) → AreSameBut ss us → all_pending us ≡ all_pending ss
pending_same [] [] same = refl
pending_same (s ∷ ss) (u ∷ us) same = ap (λ (ws : List Write). ws ++ all_pending us) (ap (λ (v : Session). v.pending) same.0.session) ∙ ap (λ (ws : List Write). s.pending ++ ws) (pending_same ss us same.1)
pending_same [] (u ∷ us) same = absurd same
pending_same (s ∷ ss) [] same = absurd same

pub length_same : (ss us : List Session) → AreSameBut ss us → length us ≡ length ss
length_same [] [] same = refl
length_same (s ∷ ss) (u ∷ us) same = ap suc (length_same ss us same.1)
length_same [] (u ∷ us) same = absurd same
length_same (s ∷ ss) [] same = absurd same

-- ---- Parts at rest

none_before : (xs ys : List Write) → length (xs ++ ys) ≡ 0 → (xs ≡ []) × (length ys ≡ 0)
none_before [] ys none = (refl, none)
none_before (x ∷ xs) ys none = absurd (omega arith)

pub idle_parts : (S : Sessions) (ss : List Session) → AreParts S ss → length (all_pending ss) ≡ 0 → AreIdle S.places.end ss
idle_parts S [] parts none = tt
idle_parts S (s ∷ ss) parts none =
    let n = none_before s.pending (all_pending ss) none in
    let p = parts.0 in
    ((p.session, n.0, omega (arith, ap (λ (t : Space). t.end) p.places)), idle_parts S ss parts.1 n.1)

-- ---- A flush

pub flushed_root : (s n : Session) → HasFlushed s n → n.root ≡ record (s.root) { end = n.places.end }
flushed_root s n (inl f) = ap (λ (v : Session). v.root) f.session
flushed_root s n (inr f) = ap (λ (v : Session). v.root) f.session

flushed_stopped : (s n : Session) → HasFlushed s n → n.stopped ≡ s.stopped
flushed_stopped s n (inl f) = ap (λ (v : Session). v.stopped) f.session
flushed_stopped s n (inr f) = ap (λ (v : Session). v.stopped) f.session

flushed_early : (s n : Session) → HasFlushed s n → n.early ≡ 0
flushed_early s n (inl f) = ap (λ (v : Session). v.early) f.session
flushed_early s n (inr f) = ap (λ (v : Session). v.early) f.session

abbrev left_by : Sessions → Super → Space → Sessions
left_by S last end = record S { root = last; places = end }

-- a part that was told of the last superblock and places, as it was stopped before
told_part : (S : Sessions) (last : Super) (end : Space) (n u : Session) → IsSession u → u ≡ told_of n last (bare end) → n.stopped ≡ S.stopped → n.early ≡ 0 → IsPart (left_by S last end) u
told_part S last end n u is same stopped early = record {
  session = is;
  root = ap (λ (v : Session). v.root) same;
  places = ap (λ (v : Session). v.places) same;
  stopped = ap (λ (v : Session). v.stopped) same ∙ stopped;
  early = ap (λ (v : Session). v.early) same ∙ early;
}

pub flushed_parts : (S : Sessions) (root : Super) (t : Space) (ss : List Session) (last : Super) (end : Space) (us : List Session) → AreFlushed root t ss last end us → AreParts S ss → AllSessions us → AreParts (left_by S last end) us
flushed_parts S root t [] last end [] f parts are = tt
flushed_parts S root t (s ∷ ss) last end (u ∷ us) (inl f) parts are =
    (told_part S last end s u are.0 f.1 parts.0.stopped parts.0.early, flushed_parts S root t ss last end us f.2 parts.1 are.1)
flushed_parts S root t (s ∷ ss) last end (u ∷ us) (inr f) parts are =
    let n = f.0 in
    let h = f.1.flushed in
    (told_part S last end n u are.0 f.2 (flushed_stopped (told_of s root t) n h ∙ parts.0.stopped) (flushed_early (told_of s root t) n h), flushed_parts S n.root n.places ss last end us f.3 parts.1 are.1)
flushed_parts S root t [] last end (u ∷ us) f parts are = absurd f
flushed_parts S root t (s ∷ ss) last end [] f parts are = absurd f

pub length_flushed : (root : Super) (t : Space) (ss : List Session) (last : Super) (end : Space) (us : List Session) → AreFlushed root t ss last end us → length us ≡ length ss
length_flushed root t [] last end [] f = refl
length_flushed root t (s ∷ ss) last end (u ∷ us) (inl f) = ap suc (length_flushed root t ss last end us f.2)
length_flushed root t (s ∷ ss) last end (u ∷ us) (inr f) = ap suc (length_flushed f.0.root f.0.places ss last end us f.3)
length_flushed root t [] last end (u ∷ us) f = absurd f
length_flushed root t (s ∷ ss) last end [] f = absurd f

-- ---- The places of all of them

pub first_begun : (S : Sessions) (ss : List Session) → 1 ≤ length ss → AreParts S ss → 48 ≤ S.places.end
first_begun S [] some parts = absurd (omega arith)
first_begun S (s ∷ ss) some parts = omega (arith, parts.0.session.begun, ap (λ (t : Space). t.end) parts.0.places)

pub first_small : (S : Sessions) (ss : List Session) → 1 ≤ length ss → AreParts S ss → S.places.end < 2 ^ 64
first_small S [] some parts = absurd (omega arith)
first_small S (s ∷ ss) some parts = omega (arith, parts.0.session.small, ap (λ (t : Space). t.end) parts.0.places)

-- ---- A call that is refused at once

parts_themselves : (S : Sessions) (ss : List Session) → AreParts S ss → AreSameBut ss ss
parts_themselves S [] parts = tt
parts_themselves S (s ∷ ss) parts = (same_kept s parts.0.session, parts_themselves S ss parts.1)

pub same_held : (S : Sessions) → AreSessions S → SameButHeld S S
same_held S are = record { parts = parts_themselves S S.parts are.each; session = refl }
