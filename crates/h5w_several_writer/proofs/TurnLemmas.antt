-- A part takes its turn in a flush.
use Rattle.std.proofs.Common.{◌≡◌, ◌⊎◌, ◌+◌, ◌<◌, ◌≤◌, ℕ, List, ◌∷◌, length, Result, Ok, Err, sym, ap, subst, ◌∙◌, inl, inr, arith, length-append}
use Rattle.h5w_model.specs.declared.root.Super.{Super}
use Rattle.h5w_space.specs.Space.{Space}
use Rattle.h5w_writer.specs.Halves.{IsHalf, places_of}
use Rattle.h5w_writer.specs.Refusals.{IsSpace}
use Rattle.h5w_writer.specs.Sessions.{Session}
use Rattle.h5w_writer.specs.Told.{told_of}
use Rattle.h5w_writer.specs.declared.planned.Planned.{Planned}
use Rattle.h5w_writer.specs.declared.planned.Planned.TheVariants.{Alone, Grows, Starts}
use Rattle.h5w_writer.specs.declared.refusal.FlushError.{FlushError}
use Rattle.h5w_writer.specs.declared.refusal.FlushError.TheVariants as flushes
use Rattle.h5w_several_writer.specs.Opened.{places_from}
use Rattle.h5w_several_writer.specs.Turns.{HasTurned}
use Rattle.h5w_several_writer.specs.declared.planning.Turn.{Turn}
use Rattle.h5w_several_writer_laws.specs.Sessions.{AreFlushed, all_pending, bare}

-- places that end there
pub bared : (e limit : ℕ) (end : Space) → e ≡ end.end → end.limit ≡ limit → places_from e limit ≡ bare end
bared e limit end e_is limit_is = λ i. places_from (e_is i) (sym limit_is i)

-- another is flushed over what those before it left, which it leaves otherwise to those behind it
pub turned : (root : Super) (t : Space) (s : Session) (ss : List Session) (mid : Session) (p : Planned) (then_root : Super) (then : Space) (last : Super) (end : Space) (u : Session) (us : List Session) (e limit : ℕ)
    → 0 < s.waits → HasTurned (told_of s root t) mid p last e limit u → e ≡ end.end → end.limit ≡ limit
    → then_root ≡ record root { end = then.end } → then ≡ places_of mid p → AreFlushed then_root then ss last end us → AreFlushed root t (s ∷ ss) last end (u ∷ us)
turned root t s ss mid p then_root then last end u us e limit waits h e_is limit_is root_is then_is f =
    let n = h.flushed in
    let places : then ≡ n.places = then_is ∙ sym h.places_are in
    let super : then_root ≡ n.root = root_is ∙ ap (λ (v : Space). record root { end = v.end }) places ∙ sym h.root_is in
    inr (
      n,
      record { waits = waits; flushed = h.has; ends = h.ends },
      h.new_is ∙ ap (λ (v : Space). told_of n last v) (bared e limit end e_is limit_is),
      subst (λ (r : Super). AreFlushed r n.places ss last end us) super (subst (λ (v : Space). AreFlushed then_root v ss last end us) places f),
    )

-- the superblock is not another between the halves
pub half_root : (old mid : Session) (p : Planned) → IsHalf old mid p → mid.root ≡ old.root
half_root old mid (Alone ws) h = ap (λ (v : Session). v.root) h.0
half_root old mid (Grows p) h = ap (λ (v : Session). v.root) h.grown
half_root old mid (Starts p) h = ap (λ (v : Session). v.root) h.0

-- ---- How many pieces there are

-- another has no more than so many
pub some_before : (pieces most then room : ℕ) (u : Session) (us : List Session) → length u.pending ≤ most → then ≡ pieces + most → then + length (all_pending us) + 1 ≤ room
    → pieces + length (all_pending (u ∷ us)) + 1 ≤ room
some_before pieces most then room u us few is h = omega (arith, length-append u.pending (all_pending us))

pub fewer_before : (pieces most then room : ℕ) (u : Session) (us : List Session) → length u.pending ≤ most → then ≡ pieces + most → then + length (all_pending us) + 1 < room
    → pieces + length (all_pending (u ∷ us)) + 1 < room
fewer_before pieces most then room u us few is h = omega (arith, length-append u.pending (all_pending us))

-- ---- Refusals

-- what is done is not refused
pub done_not : (e : FlushError) → ◌≡◌ {A = Result Unit FlushError} (Ok tt) (Err e) → ⊥
done_not e is = cc

pub planned_not : (t : Turn) (e : FlushError) → ◌≡◌ {A = Result Turn FlushError} (Ok t) (Err e) → ⊥
planned_not t e is = cc

-- no plan fails for the image
pub planned_not_failed : (e : FlushError) → IsSpace e ⊎ ((e ≡ flushes.Deep) ⊎ (e ≡ flushes.OutOfMemory)) → ◌≡◌ {A = Result Unit FlushError} (Err e) (Err flushes.Failed) → ⊥
planned_not_failed e (inl why) is = let no : flushes.Space why.0 ≡ e = sym why.1 in cc
planned_not_failed e (inr (inl deep)) is = cc
planned_not_failed e (inr (inr out)) is = cc

-- a plan that is refused is a flush that is refused
pub planned_cause : (e : FlushError) → IsSpace e ⊎ ((e ≡ flushes.Deep) ⊎ (e ≡ flushes.OutOfMemory)) → IsSpace e ⊎ ((e ≡ flushes.Deep) ⊎ ((e ≡ flushes.Failed) ⊎ (e ≡ flushes.OutOfMemory)))
planned_cause e (inl why) = inl why
planned_cause e (inr (inl deep)) = inr (inl deep)
planned_cause e (inr (inr out)) = inr (inr (inr out))
