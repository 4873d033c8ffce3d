-- What the second image has of the first.
use Rattle.std.proofs.Common.{◌≡◌, ◌⊎◌, ℕ, zero, suc, ◌+◌, ◌-◌, ◌<◌, ◌≤◌, List, [], ◌∷◌, ◌++◌, length, Some, None, sym, refl, ap, ◌∙◌, subst, arith, append_assoc, append-nil, length-append, inl, inr}
use Rattle.std.specs.Prelude.{IfSome, Option, drop}
use Rattle.std.proofs.lemmas.Bool.{cases_lt}
use Rattle.std.proofs.lemmas.List.{drop-append-le, drop_all, drop_at, length-drop}
use Rattle.h5w_model.specs.declared.piece.Write.{Write}
use Rattle.h5w_shared.specs.Seats.{ImageId, SeatView}
use Rattle.h5w_shared.specs.Turns.{StartsWith}
use Rattle.h5w_shared.proofs.Beginnings.{starts_both, starts_shorter}
use Rattle.h5w_replica.specs.Batches.{BatchView, IsPartOf, Leads, PortionView}
use Rattle.h5w_replica.specs.Follows.{FollowView, HasStepped, IsFollow, Takes, lacking}
use Rattle.h5w_replica.specs.Mirrors.{Mirrored}
use Rattle.h5w_replica.specs.Putting.{HasPut}
use Rattle.h5w_replica.proofs.PutLemmas.{no_front}

-- what comes behind a front and some more
past : (front ys : List Write) (n k : ℕ) → n ≡ length front + k → drop n (front ++ ys) ≡ drop k ys
past [] ys n k e = ap (λ m. drop m ys) (let same : n ≡ k = omega (arith, e) in same)
past (x ∷ front) ys zero k e = absurd (omega (arith, e))
past (x ∷ front) ys (suc n) k e = past front ys n k (omega (arith, e))

-- a list that begins another, and then more of the other's pieces
begins_more : (all front pieces rest has done left : List Write) (skip : ℕ) → all ≡ front ++ (pieces ++ rest) → StartsWith all has → length has ≡ length front + skip → skip ≤ length pieces → drop skip pieces ≡ done ++ left
    → StartsWith all (has ++ done)
begins_more all front pieces rest has done left skip is begins count within cut =
    let behind_has : begins.0 ≡ drop (length has) all = sym (drop_at has begins.0 (length has) refl) ∙ ap (drop (length has)) (sym begins.1) in
    let behind_front : drop (length has) all ≡ drop skip (pieces ++ rest) = ap (drop (length has)) is ∙ past front (pieces ++ rest) (length has) skip count in
    let more : begins.0 ≡ done ++ (left ++ rest) =
    behind_has ∙ (behind_front ∙ (drop-append-le skip pieces rest within ∙ (ap (λ (l : List Write). l ++ rest) cut ∙ append_assoc done left rest))) in
    (left ++ rest, begins.1 ∙ (ap (λ (l : List Write). has ++ l) more ∙ sym (append_assoc has done (left ++ rest))))

-- what lacked of a portion was written, in part or whole
pub mirrored_more : (all has done left : List Write) (p : PortionView) → IsPartOf all p → Mirrored all has → p.first ≤ length has → lacking (length has) p ≡ done ++ left → Mirrored all (has ++ done)
mirrored_more all has done left p part m begins cut = go (cases_lt (length p.pieces) (length has - p.first)) where
  go : (length p.pieces < length has - p.first) ⊎ (length has - p.first ≤ length p.pieces) → Mirrored all (has ++ done)
  go (inr le) = begins_more all part.before p.pieces part.after has done left (length has - p.first) part.seen_is m (omega (arith, part.first_is, begins)) le cut
  go (inl lt) =
      let none : done ≡ [] = no_front done left (sym (drop_all (length has - p.first) p.pieces (omega (arith, lt))) ∙ cut) in
      subst (λ (l : List Write). StartsWith all (has ++ l)) (sym none) (subst (StartsWith all) (sym (append-nil has)) m)

-- a portion is a part of the longer list that begins with its list
pub part_later : (seen more : List Write) (p : PortionView) → StartsWith more seen → IsPartOf seen p → IsPartOf more p
part_later seen more p b s = record {
  before = s.before;
  after = s.after ++ b.0;
  seen_is = b.1 ∙ (ap (λ (l : List Write). l ++ b.0) s.seen_is ∙ (append_assoc s.before (p.pieces ++ s.after) b.0 ∙ ap (λ (l : List Write). s.before ++ l) (append_assoc p.pieces s.after b.0)));
  first_is = s.first_is;
}

-- a portion of a list is a part of a beginning that is as long as to its end
pub part_of_beginning : (all has : List Write) (p : PortionView) → IsPartOf all p → Mirrored all has → p.first + length p.pieces ≤ length has → IsPartOf has p
part_of_beginning all has p part m le =
    let front = part.before ++ p.pieces in
    let here : StartsWith all front = (part.after, part.seen_is ∙ sym (append_assoc part.before p.pieces part.after)) in
    let b = starts_shorter all has front m here (omega (arith, length-append part.before p.pieces, part.first_is, le)) in record {
      before = part.before;
      after = b.0;
      seen_is = b.1 ∙ append_assoc part.before p.pieces b.0;
      first_is = part.first_is;
    }

-- a second history that has what it lacked of a portion has all of it
pub holds_all : (all has : List Write) (p : PortionView) → IsPartOf all p → Mirrored all has → p.first ≤ length has → IsPartOf (has ++ lacking (length has) p) p
holds_all all has p part m begins =
    let more = mirrored_more all has (lacking (length has) p) [] p part m begins (sym (append-nil (lacking (length has) p))) in
    part_of_beginning all (has ++ lacking (length has) p) p part more (omega (arith, begins, length-append has (lacking (length has) p), length-drop (length has - p.first) p.pieces))

-- ---- A step

-- what lacks of a portion, in words of its parts
pub lacks : (p : PortionView) (first have : ℕ) (pieces has : List Write) → have ≡ length has → record { first = first; pieces = pieces } ≡ p → drop (have - first) pieces ≡ lacking (length has) p
lacks p first have pieces has count view = ap (λ k. drop (k - first) pieces) count ∙ ap (λ (q : PortionView). lacking (length has) q) view

-- the batch was taken on, and none is kept: m is the follower as it was before it wrote
pub record Began (f m : FollowView) (p : PortionView) : Type 0 where
  pub takes : Takes f m p
  pub part : IsPartOf m.seat.seen p
  pub second : m.second ≡ f.second
  pub none : m.kept ≡ None

-- from what the call gave, by the view of the parts
pub began : (f v m : FollowView) (p : PortionView) → m ≡ v → v ≡ record f { seat = record (f.seat) { seen = v.seat.seen }; got = v.got; known = v.known; kept = None } → Takes f v p × IsPartOf v.seat.seen p → Began f m p
began f v m p view same t = record {
  takes = subst (λ (u : FollowView). Takes f u p) (sym view) t.0;
  part = subst (λ (u : FollowView). IsPartOf u.seat.seen p) (sym view) t.1;
  second = ap (λ (u : FollowView). u.second) (view ∙ same);
  none = ap (λ (u : FollowView). u.kept) (view ∙ same);
}

-- what lacked of the batch was written
pub stepped : (f m : FollowView) (s : SeatView) (p : PortionView) (n : ℕ) → Began f m p → Mirrored m.seat.seen m.second.seen → p.first ≤ length m.second.seen → HasPut (lacking (length m.second.seen) p) m.second s → n ≡ length p.pieces
    → HasStepped n f (record m { second = s })
stepped f m s p n b mirrored begins put count = record {
  batch = p;
  takes = record { some = b.takes.some; from = b.takes.from };
  count = count;
  some = omega (arith, count, b.takes.some);
  begins = subst (λ (z : SeatView). p.first ≤ length z.seen) b.second begins;
  put = subst (λ (z : SeatView). HasPut (lacking (length z.seen) p) z s) b.second put;
  holds = subst (λ (l : List Write). IsPartOf l p) (sym (ap (λ (z : SeatView). z.seen) put.same)) (holds_all m.seat.seen m.second.seen p b.part mirrored begins);
  kept = b.none;
}

-- a follower stays one as what lacked of a portion is written, in part or whole; the portion is kept or not
pub followed : (seat second s : SeatView) (received : List BatchView) (old kept : Option PortionView) (p : PortionView) (done left : List Write) → IsFollow seat second received old → IsPartOf seat.seen p → 1 ≤ length p.pieces → (kept ≡ old) ⊎ (kept ≡ Some p)
    → p.first ≤ length second.seen → lacking (length second.seen) p ≡ done ++ left → s.seen ≡ second.seen ++ done → IsFollow seat s received kept
followed seat second s received old kept p done left h part some now begins cut seen = record {
  leads = h.leads;
  mirrored = subst (Mirrored seat.seen) (sym seen) (mirrored_more seat.seen second.seen done left p part h.mirrored begins cut);
  part = still now;
}
  where
    still : (kept ≡ old) ⊎ (kept ≡ Some p) → IfSome kept (λ q. IsPartOf seat.seen q × (1 ≤ length q.pieces))
    still (inl e) = subst (λ (o : Option PortionView). IfSome o (λ q. IsPartOf seat.seen q × (1 ≤ length q.pieces))) (sym e) h.part
    still (inr e) = subst (λ (o : Option PortionView). IfSome o (λ q. IsPartOf seat.seen q × (1 ≤ length q.pieces))) (sym e) (part, some)

-- ---- A journal

-- the second history has what it lacked of a beginning of the first, in part or whole
caught : (all has j done left : List Write) → StartsWith all has → StartsWith all j → drop (length has) j ≡ done ++ left → StartsWith all (has ++ done) × (left ≡ [] → StartsWith (has ++ done) j)
caught all has j done left h n cut = go (cases_lt (length has) (length j)) where
  go : (length has < length j) ⊎ (length j ≤ length has) → StartsWith all (has ++ done) × (left ≡ [] → StartsWith (has ++ done) j)
  go (inl lt) =
      let b = starts_shorter all j has n h (omega (arith, lt)) in
      let r : b.0 ≡ done ++ left = sym (drop_at has b.0 (length has) refl) ∙ (ap (drop (length has)) (sym b.1) ∙ cut) in
      let is : j ≡ (has ++ done) ++ left = b.1 ∙ (ap (λ (l : List Write). has ++ l) r ∙ sym (append_assoc has done left)) in
      (starts_both all j (has ++ done) n (left, is), λ none. ([], (sym (append-nil (has ++ done)) ∙ (ap (λ (l : List Write). (has ++ done) ++ l) (sym none) ∙ sym is)) ∙ sym (append-nil j)))
  go (inr le) =
      let none : done ≡ [] = no_front done left (sym (drop_all (length has) j le) ∙ cut) in
      let same : has ++ done ≡ has = ap (λ (l : List Write). has ++ l) none ∙ append-nil has in
      (subst (StartsWith all) (sym same) h, λ e. subst (λ (l : List Write). StartsWith l j) (sym same) (starts_shorter all has j h n le))

-- a follower stays one as its seat takes in a note and what lacked of the note's list is written, in part or whole
pub caught_up : (seat seat' second s : SeatView) (received : List BatchView) (kept : Option PortionView) (j : List Write) (n : ℕ) (done left : List Write) → IsFollow seat second received kept → seat'.image ≡ seat.image → StartsWith seat'.seen seat.seen → StartsWith seat'.seen j
    → n ≡ length second.seen → drop n j ≡ done ++ left → s.seen ≡ second.seen ++ done → IsFollow seat' s received kept
caught_up seat seat' second s received kept j n done left h image own met count cut seen = record {
  leads = subst (λ (i : ImageId). Leads i received) (sym image) h.leads;
  mirrored = subst (Mirrored seat'.seen) (sym seen) (caught seat'.seen second.seen j done left (starts_both seat'.seen seat.seen second.seen own h.mirrored) met (ap (λ m. drop m j) (sym count) ∙ cut)).0;
  part = later kept h.part;
}
  where
    later : (o : Option PortionView) → IfSome o (λ p. IsPartOf seat.seen p × (1 ≤ length p.pieces)) → IfSome o (λ p. IsPartOf seat'.seen p × (1 ≤ length p.pieces))
    later None h = tt
    later (Some p) h = (part_later seat.seen seat'.seen p own h.0, h.1)

-- the second history has all of the note's list
pub caught_whole : (seat seat' second s : SeatView) (j : List Write) (n : ℕ) → Mirrored seat.seen second.seen → StartsWith seat'.seen seat.seen → StartsWith seat'.seen j → n ≡ length second.seen → s.seen ≡ second.seen ++ drop n j → StartsWith s.seen j
caught_whole seat seat' second s j n h own met count seen =
    subst (λ (l : List Write). StartsWith l j) (sym seen)
    ((caught seat'.seen second.seen j (drop n j) [] (starts_both seat'.seen seat.seen second.seen own h) met (ap (λ m. drop m j) (sym count) ∙ sym (append-nil (drop n j)))).1 refl)
