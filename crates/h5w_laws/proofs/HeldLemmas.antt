-- What holds from each position to the next holds from each to each later one.
use Rattle.std.proofs.Common.{◌≡◌, ℕ, zero, suc, ◌+◌, ◌-◌, ◌<◌, ◌≤◌, List, [], ◌∷◌, ◌++◌, length, take, drop, Some, Result, Ok, refl, sym, ◌∙◌, ap, subst, arith}
use Rattle.std.specs.Prelude.{slice_get}
use Rattle.std.proofs.Math.Seq.{take-add}
use Rattle.h5w_model.specs.Images.{apply, image}
use Rattle.h5w_model.specs.Programs.{Visit, eval, visits, Same}
use Rattle.h5w_model.specs.Logs.{Log, hist}
use Rattle.h5w_model.specs.Tables.{Reading, Shows, InPlace, in_place, address_behind, format_limits}
use Rattle.h5w_model.specs.Prefixed.{image_at, IsPosition, Prefixed, IsKey, SameBehind, Keeps, Held, MissesAll, MissesBehind, StillAt, Still}
use Rattle.h5w_model.specs.declared.piece.Write.{Write}
use Rattle.h5w_model.specs.declared.cell.Key.{Key}
use Rattle.h5w_model.proofs.ImageLemmas.{range-apply_missed, image-push, image-append, image-grows}
use Rattle.h5w_laws.specs.Held.{AreInside, IsReached, StillGivesHeld}
use Rattle.h5w_laws.proofs.ProgramLemmas.{same_itself}
use Rattle.h5w_laws.proofs.AnswerLemmas.{one_answer}
use Rattle.h5w_laws.proofs.ValidLemmas.{valid_shows}
use Rattle.h5w_laws.proofs.StaysLemmas.{stays_itself, stays_onward}

-- the piece behind the k-th
pub next_piece : (k : ℕ) (ws : List Write) → k < length ws → (w : Write) × (slice_get ws k ≡ Some w) × (take (suc k) ws ≡ take k ws ++ w ∷ [])
next_piece k [] h = absurd (omega arith)
next_piece zero (w ∷ ws) h = (w, refl, refl)
next_piece (suc k) (w ∷ ws) h =
    let n = next_piece k ws (omega arith) in
    (n.0, n.1, ap (λ (xs : List Write). w ∷ xs) n.2)

-- the image at the next position
pub image_next : (log : Log) (k : ℕ) → k < length (hist log.events) → (w : Write) × (slice_get (hist log.events) k ≡ Some w) × (image_at log (k + 1) ≡ apply w (image_at log k))
image_next log k h =
    let n = next_piece k (hist log.events) h in
    let more : k + 1 ≡ suc k = omega arith in
    (n.0, n.1, ap (λ m. image_at log m) more ∙ ap (image log.start) n.2 ∙ image-push log.start (take k (hist log.events)) n.0)

-- no image is shorter than an earlier one
pub image_longer : (log : Log) (i k : ℕ) → i ≤ k → length (image_at log i) ≤ length (image_at log k)
image_longer log i k h =
    let ws = hist log.events in
    let e : i + (k - i) ≡ k = omega arith in
    let more = take (k - i) (drop i ws) in
    let cut : image_at log k ≡ image (image_at log i) more =
    ap (λ n. image log.start (take n ws)) (sym e) ∙ ap (image log.start) (take-add i (k - i) ws) ∙ image-append log.start (take i ws) more in
    omega (arith, ap length cut, image-grows (image_at log i) more)

-- ranges that a write misses stay
pub same_missed : (w : Write) (old mid : List ℕ) (vs : List Visit) → Same old mid vs → MissesAll w vs → AreInside old vs → length old ≤ length mid → Same old (apply w mid) vs
same_missed w old mid [] same misses inside longer = tt
same_missed w old mid (v ∷ vs) same misses inside longer =
    (ap v.counts (range-apply_missed w mid v.place v.len misses.0 (omega (arith, inside.0))) ∙ same.0, same_missed w old mid vs same.1 misses.1 inside.1 longer)

-- what is reached behind the blocks in place ends within the image
abbrev pub BehindInside : List ℕ → Reading → Type 0
BehindInside img r =
    (p : InPlace) (key : Key) → eval img (in_place r.dataset) ≡ Ok p → IsKey r.dataset.layout.index key → AreInside img (visits img (address_behind p key))

abbrev pub AllInside : List ℕ → Log → Type 0
AllInside name log = (k : ℕ) (r : Reading) → IsPosition log k → Shows format_limits (image_at log k) name r → BehindInside (image_at log k) r

pub behind_next : (w : Write) (old mid : List ℕ) (r : Reading) → SameBehind old r mid → MissesBehind w old r → BehindInside old r → length old ≤ length mid → SameBehind old r (apply w mid)
behind_next w old mid r same misses inside longer p key shows is =
    same_missed w old mid (visits old (address_behind p key)) (same p key shows is) (misses p key shows is) (inside p key shows is) longer

-- from a position to itself
pub kept_itself : (img name : List ℕ) (r s : Reading) → Shows format_limits img name r → Shows format_limits img name s → Keeps img r img s
kept_itself img name r s h g =
    let e : r ≡ s = one_answer.reading format_limits img name r s h g in
    subst (λ (x : Reading). Keeps img r img x) e
    (record { stays = stays_itself img r; behind = λ rows p key shows is. same_itself img (visits img (address_behind p key)) })

-- and on to the next position
pub kept_next : (name : List ℕ) (log : Log) (i k : ℕ) (r t s : Reading) → AllInside name log → IsPosition log i → i ≤ k → k < length (hist log.events)
    → Shows format_limits (image_at log i) name r → Shows format_limits (image_at log k) name t → Shows format_limits (image_at log (k + 1)) name s
    → StillAt name log k → Keeps (image_at log i) r (image_at log k) t → Keeps (image_at log i) r (image_at log (k + 1)) s
kept_next name log i k r t s inside at below within shows_r shows_t shows_s still kept =
    let step = still.steps t s shows_t shows_s in
    let n = image_next log k within in
    record {
      stays = stays_onward (image_at log i) (image_at log k) (image_at log (k + 1)) r t s kept.stays step;
      behind = λ rows.
          let same : r.dataset.shape.rows ≡ t.dataset.shape.rows = omega (arith, kept.stays.rows, step.rows) in
          subst (λ (img : List ℕ). SameBehind (image_at log i) r img) (sym n.2)
          (behind_next n.0 (image_at log i) (image_at log k) r (kept.behind same) (still.misses n.0 i r t n.1 at.begun below shows_r shows_t same)
          (inside i r at shows_r) (image_longer log i k below));
    }

pub kept_from : (n i j : ℕ) (name : List ℕ) (log : Log) (r s : Reading) → AllInside name log → Prefixed name log → Still name log → IsPosition log i → i + n ≡ j → j ≤ length (hist log.events)
    → Shows format_limits (image_at log i) name r → Shows format_limits (image_at log j) name s → Keeps (image_at log i) r (image_at log j) s
kept_from zero i j name log r s inside prefixed still at e within shows_r shows_s =
    let same : i ≡ j = omega arith in
    let there = subst (λ k. Shows format_limits (image_at log k) name s) (sym same) shows_s in
    subst (λ k. Keeps (image_at log i) r (image_at log k) s) same (kept_itself (image_at log i) name r s shows_r there)
kept_from (suc m) i j name log r s inside prefixed still at e within shows_r shows_s =
    let same : (i + m) + 1 ≡ j = omega arith in
    let mid : IsPosition log (i + m) = record { begun = omega (arith, at.begun); reached = omega arith } in
    let reads = (prefixed (i + m) mid).reads in
    let there = subst (λ k. Shows format_limits (image_at log k) name s) (sym same) shows_s in
    let kept = kept_from m i (i + m) name log r reads.shown inside prefixed still at refl (omega arith) shows_r reads.shows in
    subst (λ k. Keeps (image_at log i) r (image_at log k) s) same
    (kept_next name log i (i + m) r reads.shown s inside at (omega arith) (omega arith) shows_r reads.shows there (still (i + m) (omega (arith, at.begun)) (omega arith)) kept)

pub held_from : (name : List ℕ) (log : Log) → AllInside name log → Prefixed name log → Still name log → Held name log
held_from name log inside prefixed still i j r s at to below shows_r shows_s =
    kept_from (j - i) i j name log r s inside prefixed still at (omega arith) to.reached shows_r shows_s

pub ok_is : {A E : Type 0} (a b : A) → ◌≡◌ {A = Result A E} (Ok a) (Ok b) → a ≡ b
ok_is a b h = cc

pub inside_reached : (img : List ℕ) (r : Reading) → IsReached img r.dataset → BehindInside img r
inside_reached img r reached p key is named =
    let same : reached.blocks ≡ p = ok_is reached.blocks p (sym (reached.read) ∙ is) in
    subst (λ (b : InPlace). AreInside img (visits img (address_behind b key))) same (reached.inside key named)

-- a valid image's reading reaches nothing past its end
pub inside_of : (img name : List ℕ) (r : Reading) (whole : (s : Reading) × Shows format_limits img name s × IsReached img s.dataset) → Shows format_limits img name r → BehindInside img r
inside_of img name r whole shows =
    let same : whole.0 ≡ r = one_answer.reading format_limits img name whole.0 r whole.1 shows in
    inside_reached img r (subst (λ (s : Reading). IsReached img s.dataset) same whole.2)

pub still_gives_held : StillGivesHeld
still_gives_held name log prefixed still =
    held_from name log (λ k r at shows.
    let valid = prefixed k at in
    let whole = valid_shows (image_at log k) name valid.summary valid.valid in
    inside_of (image_at log k) name r (whole.shown, whole.shows, whole.reached) shows) prefixed still
