-- What is true of a part's own log is true of what its dataset sees of the file's log.
use Rattle.std.proofs.Common.{◌≡◌, ℕ, zero, suc, ◌+◌, ◌-◌, ◌*◌, ◌/◌, ◌<◌, ◌≤◌, List, [], ◌∷◌, ◌++◌, length, take, refl, sym, ◌∙◌, ap, subst, arith, length-append}
use Rattle.std.specs.Prelude.{slice_get, ℤ}
use Rattle.std.proofs.lemmas.List.{take-append-le, take_all, length_push}
use Rattle.std.proofs.Math.Seq.{take-append-add}
use Rattle.h5w_model.specs.Images.{image}
use Rattle.h5w_model.specs.Logs.{Log, hist, shown, appended, flushed, flushed_rows, flushed_at, first_rows, at_position}
use Rattle.h5w_model.specs.Several.{Begun, FileLog, Happened, appends_to, log_of, pieces_in, plans_each, seen_by, shown_in, shows_all, takes_over}
use Rattle.h5w_model.specs.Prefixed.{Held, IsPosition, MissesBehind, Prefixed, PrefixedAt, PrefixedEach, ReadsNow, Stays, Still, StillAt, image_at}
use Rattle.h5w_model.specs.Tables.{Reads, Shows, format_limits}
use Rattle.h5w_model.specs.Findings.{Valid}
use Rattle.h5w_model.specs.declared.piece.Write.{Write}
use Rattle.h5w_model.proofs.ImageLemmas.{image-append}
use Rattle.h5w_laws.proofs.LogLemmas.{each_at, length_hist, position_laws, shown_events_at}
use Rattle.h5w_laws.proofs.HeldLemmas.{still_gives_held}
use Rattle.h5w_several_laws.proofs.SeenLemmas.{seen_laws}
use Rattle.h5w_several_writer_laws.specs.Seen.{IsOwnPosition, IsSeen, PartSeen}

-- as many pieces as are counted
pub length_pieces : (es : List Happened) → length (pieces_in es) ≡ shown_in es
length_pieces [] = refl
length_pieces (appends_to e vs ∷ es) = length_pieces es
length_pieces (plans_each counts ∷ es) = length_pieces es
length_pieces (shows_all w ∷ es) = length_push (pieces_in es) w ∙ ap (λ n. n + 1) (length_pieces es)
length_pieces (takes_over ∷ es) = length_pieces es

-- a dataset sees as many
pub shown_seen : (d : ℕ) (es : List Happened) → shown (seen_by d es) ≡ shown_in es
shown_seen d es = sym (length_hist (seen_by d es)) ∙ ap length (seen_laws.pieces d es) ∙ length_pieces es

slice_front : (ws vs : List Write) (k : ℕ) → k < length ws → slice_get (ws ++ vs) k ≡ slice_get ws k
slice_front [] vs k h = absurd (omega (arith, h))
slice_front (w ∷ ws) vs zero h = refl
slice_front (w ∷ ws) vs (suc k) h = slice_front ws vs k (omega (arith, h))

slice_behind : (ws vs : List Write) (k : ℕ) → slice_get (ws ++ vs) (length ws + k) ≡ slice_get vs k
slice_behind [] vs k = ap (slice_get vs) (let e : 0 + k ≡ k = omega arith in e)
slice_behind (w ∷ ws) vs k = ap (slice_get (w ∷ (ws ++ vs))) (let e : suc (length ws) + k ≡ suc (length ws + k) = omega arith in e) ∙ slice_behind ws vs k

-- what is still at a piece of one log is still at the piece of another that stands so far behind it, where the images are alike
still_moved : (name : List ℕ) (old new : Log) (n k : ℕ) → new.first ≡ n + old.first → ((p : ℕ) → p ≤ k + 1 → image_at new (n + p) ≡ image_at old p) → slice_get (hist new.events) (n + k) ≡ slice_get (hist old.events) k → StillAt name old k → StillAt name new (n + k)
still_moved name old new n k first same piece still = record {
  steps = λ r s shows_r shows_s.
      let here = same k (omega arith) in
      let there = ap (image_at new) (let e : (n + k) + 1 ≡ n + (k + 1) = omega arith in e) ∙ same (k + 1) (omega arith) in
      let stays = still.steps r s (subst (λ (i : List ℕ). Shows format_limits i name r) here shows_r) (subst (λ (i : List ℕ). Shows format_limits i name s) there shows_s) in
      subst (λ (i : List ℕ). Stays i r (image_at new ((n + k) + 1)) s) (sym here) (subst (λ (i : List ℕ). Stays (image_at old k) r i s) (sym there) stays);
  misses = λ w p r s is begun below shows_r shows_s rows.
      let q : ℕ = p - n in
      let at : p ≡ n + q = omega (arith, begun, first) in
      let at_p = ap (image_at new) at ∙ same q (omega (arith, below, at)) in
      let here = same k (omega arith) in
      subst (λ (i : List ℕ). MissesBehind w i r) (sym at_p)
      (still.misses w q r s (sym piece ∙ is) (omega (arith, begun, first, at)) (omega (arith, below, at)) (subst (λ (i : List ℕ). Shows format_limits i name r) at_p shows_r)
      (subst (λ (i : List ℕ). Shows format_limits i name s) here shows_s) rows);
}

module _ (log : FileLog) (d : ℕ) (b : Begun) (l : Log) (later : List Write) (s : IsSeen log d b l later) where
  abbrev sight : Log
  sight = log_of d b log

  abbrev count : ℕ
  count = shown_in log.events

  -- how many pieces lead its log
  abbrev led : ℕ
  led = length s.lead

  pub many : length (hist sight.events) ≡ count
  many = length_hist sight.events ∙ shown_seen d log.events

  pub many_own : led + length (hist l.events) ≡ count + length later
  many_own = sym (length-append s.lead (hist l.events)) ∙ ap length s.pieces ∙ length-append (pieces_in log.events) later ∙ (let n = length_pieces log.events in omega (arith, n))

  pub image_seen : (p : ℕ) → led + p ≤ count → image_at l p ≡ image_at sight (led + p)
  image_seen p low =
      ap (λ (st : List ℕ). image st (take p (hist l.events))) s.start
      ∙ sym (image-append log.start s.lead (take p (hist l.events)))
      ∙ ap (image log.start) (sym (take-append-add s.lead (hist l.events) p))
      ∙ ap (λ (ws : List Write). image log.start (take (led + p) ws)) s.pieces
      ∙ ap (image log.start) (take-append-le (led + p) (pieces_in log.events) later (omega (arith, low, length_pieces log.events)))
      ∙ ap (λ (ws : List Write). image log.start (take (led + p) ws)) (sym (seen_laws.pieces d log.events))

  pub position_seen : (p : ℕ) → IsPosition sight p → IsOwnPosition s.lead l p
  position_seen p at = record {
    own = record { begun = omega (arith, at.begun, s.first); reached = omega (arith, at.reached, many, many_own) };
    is = omega (arith, at.begun, s.first);
  }

  below : (p : ℕ) → IsPosition sight p → p ≤ count
  below p at = omega (arith, at.reached, many)

  flushed_seen : (p : ℕ) → led + p ≤ count → flushed_at l p ≡ flushed_at sight (led + p)
  flushed_seen p low = ap (λ (c : ℕ). length (flushed (at_position l p)) / c) s.columns ∙ ap (λ (vs : List ℤ). length vs / b.columns) (s.alike p low)

  rows_seen : (n : ℕ) → first_rows l n ≡ first_rows sight n
  rows_seen n = ap (λ (c : ℕ). take (n * c) (appended l)) s.columns ∙ ap (take (n * b.columns)) s.appended

  reads_seen : (name : List ℕ) (p : ℕ) → led + p ≤ count → Reads (image_at l p) name (flushed_at l p) l.columns (first_rows l (flushed_at l p))
      → Reads (image_at sight (led + p)) name (flushed_at sight (led + p)) sight.columns (first_rows sight (flushed_at sight (led + p)))
  reads_seen name p low reads =
      let q : ℕ = led + p in
      let a = subst (λ (img : List ℕ). Reads img name (flushed_at l p) l.columns (first_rows l (flushed_at l p))) (image_seen p low) reads in
      let c = subst (λ (n : ℕ). Reads (image_at sight q) name n l.columns (first_rows l n)) (flushed_seen p low) a in
      let e = subst (λ (vs : List ℤ). Reads (image_at sight q) name (flushed_at sight q) l.columns vs) (rows_seen (flushed_at sight q)) c in
      subst (λ (k : ℕ). Reads (image_at sight q) name (flushed_at sight q) k (first_rows sight (flushed_at sight q))) s.columns e

  at_seen : (name : List ℕ) (p : ℕ) → led + p ≤ count → PrefixedAt name l p → PrefixedAt name sight (led + p)
  at_seen name p low x = record {
    summary = x.summary;
    valid = subst (λ (img : List ℕ). Valid img name x.summary) (image_seen p low) x.valid;
    reads = reads_seen name p low x.reads;
  }

  pub prefixed_seen : (name : List ℕ) → Prefixed name l → Prefixed name sight
  prefixed_seen name prefixed p at =
      let o = position_seen p at in
      let low = below p at in
      subst (λ (n : ℕ). PrefixedAt name sight n) (sym o.is) (at_seen name (p - led) (omega (arith, low, o.is)) (prefixed (p - led) o.own))

  piece_seen : (k : ℕ) → led + k < count → slice_get (hist sight.events) (led + k) ≡ slice_get (hist l.events) k
  piece_seen k low =
      ap (λ (ws : List Write). slice_get ws (led + k)) (seen_laws.pieces d log.events)
      ∙ sym (slice_front (pieces_in log.events) later (led + k) (omega (arith, low, length_pieces log.events)))
      ∙ ap (λ (ws : List Write). slice_get ws (led + k)) (sym s.pieces)
      ∙ slice_behind s.lead (hist l.events) k

  pub still_seen : (name : List ℕ) → Still name l → Still name sight
  still_seen name still k begun within =
      let q : ℕ = k - led in
      let is : led + q ≡ k = omega (arith, begun, s.first) in
      let low : led + q < count = omega (arith, within, many, is) in
      subst (λ (n : ℕ). StillAt name sight n) is
      (still_moved name l sight led q s.first (λ p h. sym (image_seen p (omega (arith, h, low)))) (piece_seen q low) (still q (omega (arith, begun, s.first, is)) (omega (arith, low, many_own))))

  pub held_seen : (name : List ℕ) → Prefixed name l → Still name l → Held name sight
  held_seen name prefixed still = still_gives_held name sight (prefixed_seen name prefixed) (still_seen name still)

  -- at the last position it is the whole log
  whole_sight : at_position sight count ≡ sight
  whole_sight = position_laws.now sight count (omega (arith, shown_seen d log.events))

  image_whole : image_at sight count ≡ image sight.start (hist sight.events)
  image_whole = ap (image log.start) (take_all count (hist sight.events) (omega (arith, many)))

  pub all_flushed : flushed l ≡ flushed sight
  all_flushed = s.now

  pub all_rows : flushed_rows l ≡ flushed_rows sight
  all_rows = ap (λ (c : ℕ). length (flushed l) / c) s.columns ∙ ap (λ (vs : List ℤ). length vs / b.columns) all_flushed

  -- at the last position that the file has reached, of which so many pieces lead the log
  module _ (q : ℕ) (is : led + q ≡ count) where
    image_now : image l.start (hist (at_position l q).events) ≡ image sight.start (hist sight.events)
    image_now = ap (image l.start) (position_laws.pieces l q) ∙ image_seen q (omega (arith, is)) ∙ ap (image_at sight) is ∙ image_whole

    now_flushed : flushed (at_position l q) ≡ flushed sight
    now_flushed = s.alike q (omega (arith, is)) ∙ ap (λ (n : ℕ). flushed (at_position sight n)) is ∙ ap flushed whole_sight

    now_rows : flushed_rows (at_position l q) ≡ flushed_rows sight
    now_rows = flushed_seen q (omega (arith, is)) ∙ ap (flushed_at sight) is ∙ ap flushed_rows whole_sight

    now_at : (name : List ℕ) → PrefixedEach name l → log.first ≤ count → ReadsNow name sight
    now_at name each begun =
        let there : l.first ≤ shown (at_position l q).events = omega (arith, begun, s.first, is, shown_events_at q l.events, many_own, length_hist l.events) in
        let at = each_at name l q l.events each there in
        let i = subst (λ (img : List ℕ). Reads img name (flushed_rows (at_position l q)) l.columns (flushed (at_position l q))) image_now at.reads in
        let r = subst (λ (n : ℕ). Reads (image sight.start (hist sight.events)) name n l.columns (flushed (at_position l q))) now_rows i in
        let c = subst (λ (n : ℕ). Reads (image sight.start (hist sight.events)) name (flushed_rows sight) n (flushed (at_position l q))) s.columns r in
        record {
          summary = at.summary;
          valid = subst (λ (img : List ℕ). Valid img name at.summary) image_now at.valid;
          reads = subst (λ (vs : List ℤ). Reads (image sight.start (hist sight.events)) name (flushed_rows sight) sight.columns vs) now_flushed c;
        }

  pub now_seen : (name : List ℕ) → PrefixedEach name l → log.first ≤ count → ReadsNow name sight
  now_seen name each begun = now_at (count - led) (omega (arith, begun, s.first)) name each begun

pub part_seen : PartSeen
part_seen = record {
  images = image_seen;
  position = position_seen;
  prefixed = λ name log d b l later s. prefixed_seen log d b l later s name;
  still = λ name log d b l later s. still_seen log d b l later s name;
  held = λ name log d b l later s. held_seen log d b l later s name;
  now = λ name log d b l later s. now_seen log d b l later s name;
  flushed = all_flushed;
  rows = all_rows;
}
