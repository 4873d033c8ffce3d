-- Whoever takes a file over goes on with its log.
use Rattle.std.proofs.Common.{◌≡◌, ◌⊎◌, ℕ, suc, ◌+◌, ◌≤◌, max, List, [], ◌∷◌, ◌++◌, length, refl, sym, ap, ◌∙◌, subst, inl, inr, arith, append-nil, length-append}
use Rattle.std.specs.Prelude.{take}
use Rattle.std.proofs.lemmas.List.{take-append-le}
use Rattle.h5w_model.specs.Findings.{Used}
use Rattle.h5w_model.specs.Images.{image}
use Rattle.h5w_model.specs.Logs.{Log, flushed}
use Rattle.h5w_model.specs.Numbers.{range}
use Rattle.h5w_model.specs.Relations.{AllPaired}
use Rattle.h5w_model.specs.Several.{Begun, FileLog, log_of, pieces_in, seen_by, shown_in}
use Rattle.h5w_model.specs.Superblock.{super_at}
use Rattle.h5w_model.specs.declared.piece.Write.{Write}
use Rattle.h5w_model.specs.declared.root.Super.{Super}
use Rattle.h5w_space.specs.Space.{Space}
use Rattle.h5w_step_laws.specs.Logs.{image_now}
use Rattle.h5w_several_laws.specs.Together.{IsAllValid, names_of}
use Rattle.h5w_several_laws.specs.Turns.{AreKnown, Entry}
use Rattle.h5w_several_laws.proofs.SeenLemmas.{seen_laws}
use Rattle.h5w_several_laws.proofs.SettledLemmas.{settled_laws}
use Rattle.h5w_writer.specs.Loads.{end_in}
use Rattle.h5w_writer.specs.Sessions.{Session}
use Rattle.h5w_writer.proofs.PastLemmas.{ends_front, ends_later}
use Rattle.h5w_several_writer.specs.Opened.{places_from}
use Rattle.h5w_several_writer_laws.specs.Began.{IsAmple, began_end}
use Rattle.h5w_several_writer_laws.specs.Courses.{AreAt, AreThrough, stands_of}
use Rattle.h5w_several_writer_laws.specs.Sessions.{Sessions, all_pending}
use Rattle.h5w_several_writer_laws.specs.Standing.{AreStandingParts, HasRun, StandsOn, end_now, most_in}
use Rattle.h5w_several_writer_laws.specs.Valid.{AreValidFrom, names_in}
use Rattle.h5w_several_writer_laws.proofs.CourseLemmas.{standing_at}
use Rattle.h5w_several_writer_laws.proofs.FlushAllLemmas.{stands_all}
use Rattle.h5w_several_writer_laws.proofs.GiveLemmas.{same_places, standing_all}
use Rattle.h5w_several_writer_laws.proofs.PastLemmas.{run_end}
use Rattle.h5w_several_writer_laws.proofs.RunLemmas.{some_count}
use Rattle.h5w_several_writer_laws.proofs.TogetherLemmas.{all_names, all_names_laws, many_names}
use Rattle.h5w_takeover_laws.specs.Several.{CarriesAll}
use Rattle.h5w_takeover_laws.proofs.CarryLemmas.{BeginsThere, HadPast, carries_from}

-- ---- The log of a part

-- it begins at the takeover, where the file may come to the same end by both logs
pub begins_there : (limit : ℕ) (log : FileLog) → max limit (end_now log) ≡ max limit (began_end log) → BeginsThere limit log
begins_there limit log most d b =
    let es = seen_by d log.events in
    let view : Log = log_of d b log in
    let same : image_now view ≡ image log.start (pieces_in log.events) = ap (image log.start) (seen_laws.pieces d log.events) in
    record {
      lead = pieces_in log.events;
      start = same;
      most = ap (λ (i : List ℕ). max limit (end_in (super_at (range i 0 48)))) same ∙ most;
      columns = refl;
      pieces = refl;
      appended = append-nil (flushed view) ∙ sym (settled_laws.appended 0 b.values es);
      now = sym (settled_laws.later 0 0 b.values es (omega arith));
      ahead = λ k. sym (settled_laws.later (0 + k) 0 b.values es (omega arith));
    }

-- ---- Where each dataset is

-- no reader finds a file before the first position
at_now : (S : Sessions) (log : FileLog) (on : StandsOn S log) → log.first ≤ shown_in log.events → AreAt log (stands_of 0 log.sets (names_of on.entries))
at_now S log on begun = go (all_pending S.parts) refl
  where
    go : (ws : List Write) → ws ≡ all_pending S.parts → AreAt log (stands_of 0 log.sets (names_of on.entries))
    go [] is = record {
      entries = on.entries;
      each = standing_at S.root S.places on.ranges log 0 log.sets [] S.parts on.entries (subst (λ (vs : List Write). AreStandingParts S.root S.places on.ranges vs log 0 log.sets [] S.parts on.entries) (sym is) on.parts);
      off = on.off;
    }
    go (w ∷ ws) is = (subst (λ (vs : List Write). AreThrough log (stands_of 0 log.sets (names_of on.entries)) vs) (sym is) on.course).0 begun

all_past : (root : Super) (t : Space) (us : List Used) (left : List Write) (log : FileLog) (d : ℕ) (bs : List Begun) (before : List Write) (ss : List Session) (es : List Entry) → AreStandingParts root t us left log d bs before ss es → AllPaired (HadPast log) bs (names_of es)
all_past root t us left log d [] before [] [] x = tt
all_past root t us left log d (b ∷ bs) before (s ∷ ss) (e ∷ es) x = (record { raised = x.0.past.raised; addressed = x.0.past.addressed }, all_past root t us left log (suc d) bs (before ++ s.pending) ss es x.1)
all_past root t us left log d [] before (s ∷ ss) es x = absurd x
all_past root t us left log d [] before [] (e ∷ es) x = absurd x
all_past root t us left log d (b ∷ bs) before [] es x = absurd x
all_past root t us left log d (b ∷ bs) before (s ∷ ss) [] x = absurd x

-- ---- The end of the file

-- It is no more than once all that is left became visible; and that of a file that was opened has not fallen.
record IsBetweenEnds (t : Space) (log : FileLog) : Type 0 where
  most : end_now log ≤ t.end
  raised : (log.start ≡ []) ⊎ (began_end log ≤ end_now log)

first_end : (root : Super) (t : Space) (us : List Used) (img : List ℕ) (left : List Write) (log : FileLog) (bs : List Begun) (before : List Write) (ss : List Session) (es : List Entry) → 1 ≤ length ss → log.first ≤ shown_in log.events → AreStandingParts root t us left log 0 bs before ss es
    → AreKnown img t root us es → IsBetweenEnds t log
first_end root t us img left log (b ∷ bs) before (s ∷ ss) (e ∷ es) some begun x known =
    let run : HasRun s.name (log_of 0 b log) left e = elim x.0.run [
      | inl h ↦ h
      | inr u ↦ let first = u.first in let more = some_count left u.some in absurd (omega (arith, first, more, begun))
    ] in
    let low = run_end s.name (log_of 0 b log) left e run in
    let same = ap (λ (ws : List Write). end_in (super_at (range (image log.start ws) 0 48))) (seen_laws.pieces 0 log.events) in
    let ended = known.0.knows.ended in
    record { most = omega (arith, low, same, ended); raised = x.0.past.raised }
first_end root t us img left log [] before [] [] some begun x known = absurd (omega (arith, some))
first_end root t us img left log [] before (s ∷ ss) es some begun x known = absurd x
first_end root t us img left log [] before [] (e ∷ es) some begun x known = absurd x
first_end root t us img left log (b ∷ bs) before [] es some begun x known = absurd x
first_end root t us img left log (b ∷ bs) before (s ∷ ss) [] some begun x known = absurd x

-- ---- The takeover

pub carries_all : CarriesAll
carries_all S T log limit budget st some begun wide taken low high =
    let was = st.was in
    let on = st.stands in
    let names = names_in S.parts in
    let img : List ℕ = image log.start (pieces_in log.events) in
    let left : List Write = all_pending was.parts in
    let named : names_of on.entries ≡ names = all_names S log st in
    let at : AreAt log (stands_of 0 log.sets names) = subst (λ (ns : List (List ℕ)). AreAt log (stands_of 0 log.sets ns)) named (at_now was log on begun) in
    let had : AllPaired (HadPast log) log.sets names = subst (λ (ns : List (List ℕ)). AllPaired (HadPast log) log.sets ns) named (all_past was.root was.places on.ranges left log 0 log.sets [] was.parts on.entries on.parts) in
    let now = all_names_laws.now S log st begun in
    let sets = standing_all.sets S log st in
    let many : length log.sets ≡ length names = sets ∙ sym (many_names S.parts) in
    let as_many = standing_all.sets was log (stands_all was log on) in
    let ends = first_end was.root was.places on.ranges (image log.start (pieces_in log.events ++ left)) left log log.sets [] was.parts on.entries (omega (arith, some, sets, as_many)) begun on.parts on.known in
    let limits : S.places.limit ≡ was.places.limit = ap (λ (t : Space). t.limit) (same_places S log st) in
    let root = taken.front.root in
    let t : Space = places_from root.end limit in
    let end : end_now log ≡ root.end = ap end_in taken.super in
    let more : was.places.limit ≤ limit = omega (arith, wide, limits) in
    let fits : root.end ≤ most_in t log = let bound = on.fits in let most = ends.most in omega (arith, bound, most, end, more) in
    let ample : IsAmple t log = let bound = on.low in omega (arith, bound, more) in
    let most : max limit (end_now log) ≡ max limit (began_end log) = elim ends.raised [
      | inl new ↦ let bound = on.low in let none = ap length new in let up = ends.most in let most_up = on.fits in omega (arith, bound, none, more, up, most_up)
      | inr raised ↦ let up = ends.most in let most_up = on.fits in omega (arith, raised, more, up, most_up)
    ] in
    let later : most_in was.places log ≤ most_in t log = omega (arith, more) in
    let whole : AreValidFrom log.first log.start names (pieces_in log.events) = λ p first last.
    let both = length-append (pieces_in log.events) left in
    let there = on.valid p first (omega (arith, last, both)) in
    let front = subst (λ (ws : List Write). IsAllValid (image log.start ws) (names_of on.entries)) (take-append-le p (pieces_in log.events) left last) there in
    subst (λ (ns : List (List ℕ)). IsAllValid (image log.start (take p (pieces_in log.events))) ns) named front in
    let same_end : T.places.end ≡ root.end = ap (λ (x : Sessions). x.places.end) taken.session in
    let old_end : S.places.end ≡ was.places.end = ap (λ (x : Space). x.end) (same_places S log st) in
    let own = carries_from log names now.summary limit budget T (begins_there limit log most) begun had at many now.valid taken low high fits ample
    (ends_later (most_in was.places log) (most_in t log) (pieces_in log.events) later (ends_front (most_in was.places log) (pieces_in log.events) left on.ends)) whole in
    record { stands = own; end = let up = ends.most in omega (arith, same_end, old_end, end, up) }
