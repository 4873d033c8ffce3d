-- A flush that is refused since the file has no place, by the loads of the log.
use Rattle.std.proofs.Common.{◌≡◌, ◌+◌, ◌<◌, ◌≤◌, max, ℕ, suc, false, List, [], ◌∷◌, refl, sym, ap, subst, ◌∙◌, inl, inr, arith}
use Rattle.h5w_model.specs.Arrays.{eahd_len, eaib_len}
use Rattle.h5w_model.specs.Findings.{Used}
use Rattle.h5w_model.specs.Logs.{Log, load}
use Rattle.h5w_model.specs.Several.{Begun, FileLog, load_from}
use Rattle.h5w_model.specs.Trees.{bthd_len}
use Rattle.h5w_model.specs.declared.cell.IndexKind.{IndexKind}
use Rattle.h5w_model.specs.declared.cell.IndexKind.TheVariants.{Array, Tree}
use Rattle.h5w_model.specs.declared.piece.Write.{Write}
use Rattle.h5w_model.specs.declared.root.Super.{Super}
use Rattle.h5w_step_laws.specs.Ranges.{Among}
use Rattle.h5w_space.specs.Space.{Space}
use Rattle.h5w_space.specs.declared.Full.{Full}
use Rattle.h5w_cache.specs.Plans.{IsRefused}
use Rattle.h5w_index.specs.Full.{IsFullPart, most_of}
use Rattle.h5w_index.specs.Marks.{IsMarked, IsRaised}
use Rattle.h5w_index.specs.Views.{IndexView, kind_of}
use Rattle.h5w_index.proofs.MarkLemmas.{mark_laws}
use Rattle.h5w_index.proofs.PlacingLemmas.{placing_laws}
use Rattle.h5w_index.proofs.RaisedLemmas.{raised_more, raised_none, raised_on}
use Rattle.h5w_creation_laws.specs.CreatedFiles.{index_len}
use Rattle.h5w_creation_laws.proofs.SizeLemmas.{index_lens}
use Rattle.h5w_several_laws.specs.Turns.{Entry}
use Rattle.h5w_writer.specs.Halves.{IsHalf, places_of}
use Rattle.h5w_writer.specs.Lent.{IsFurther}
use Rattle.h5w_writer.specs.Refusals.{IsFullFor, IsUnfilled, IsUnplaced, no_block, no_header}
use Rattle.h5w_writer.specs.Sessions.{Session, cutting_of, rows_of}
use Rattle.h5w_writer.specs.Stands.{Running, Stands}
use Rattle.h5w_writer.specs.Told.{told_of}
use Rattle.h5w_writer.specs.declared.planned.Planned.{Planned}
use Rattle.h5w_writer.proofs.HalfLoads.{half_raised}
use Rattle.h5w_writer.proofs.LentLemmas.{half_further}
use Rattle.h5w_writer.proofs.LoadLemmas.{at_most, counted, load_is, some_touched}
use Rattle.h5w_writer.proofs.PartLemmas.{part_laws}
use Rattle.h5w_writer.proofs.StartLoads.{made_clean}
use Rattle.h5w_several_writer.specs.Flows.{all_waits}
use Rattle.h5w_several_writer.specs.Refusals.{IsFullAmong, NoPlaceAll}
use Rattle.h5w_several_writer_laws.specs.Bounds.{cuttings_of}
use Rattle.h5w_several_writer_laws.specs.Sessions.{Sessions, all_pending}
use Rattle.h5w_several_writer_laws.specs.Standing.{StandsAll, rested}
use Rattle.h5w_several_writer_laws.proofs.FlushAllLemmas.{at_rest, goes_on}
use Rattle.h5w_several_writer_laws.proofs.FoldPartLemmas.{AllRest, is_done}
use Rattle.h5w_several_writer_laws.proofs.TurnPartLemmas.{own_load}

-- ---- One part

-- over these places there is none of this size, which is bounded
record IsLacking (t : Space) (most : ℕ) (full : Full) : Type 0 where
  some : 1 ≤ full.size
  limit : full.limit ≡ t.limit
  past : full.limit < full.at + full.size
  size : full.size ≤ most
  at_bound : full.at ≤ max t.end t.limit
  load_bound : full.at ≤ t.end + most

lacking : (t u : Space) (n size most : ℕ) (full : Full) → IsRaised t u n → n ≤ most → IsRefused u size full → 1 ≤ size → size ≤ most → IsLacking t most full
lacking t u n size most full raised little refused some few =
    let at = ap (λ (f : Full). f.at) refused.is in
    let bytes = ap (λ (f : Full). f.size) refused.is in
    let limit = ap (λ (f : Full). f.limit) refused.is ∙ raised.limit in
    record {
      some = omega (arith, bytes, some);
      limit = limit;
      past = omega (arith, at, bytes, limit, raised.limit, refused.no_room);
      size = omega (arith, bytes, few);
      at_bound = omega (arith, at, raised.fits, raised.limit);
      load_bound = omega (arith, at, raised.bound, little);
    }

-- a session that runs, whose rows are planned over other places
module _ (s : Session) (log : Log) (going : s.stopped ≡ false) (idle : s.pending ≡ []) (r : Running s [] log) (waits : 0 < s.waits) (t : Space) (full : Full) where
  abbrev top : ℕ
  top = load (cutting_of s) log

  standing : Stands s log
  standing = part_laws.stands s [] log (sym idle) r

  loads : top ≡ 1000 + most_of s.dataset (rows_of s)
  loads = load_is s log going idle standing

  short : (n : ℕ) → n ≤ 1000 → n ≤ top
  short n few = at_most n (1000 + most_of s.dataset (rows_of s)) top (omega (arith, few)) loads

  of_rows : (v : IndexView) → IsMarked s.dataset s.dataset.shape.rows (rows_of s) v → (base : Space) (taken : ℕ) → taken ≤ 1000 → IsRaised t base taken → IsFullPart s.dataset (rows_of s) v s.chunks base full → IsLacking t top full
  of_rows v marks base taken small risen none =
      let c = counted s r.past.counted in
      let most = most_of s.dataset (rows_of s) in
      let b = placing_laws.full s.dataset (rows_of s) v s.chunks base full (let bytes = c.bytes in let same = c.same in omega (arith, bytes, same)) (some_touched s c waits) marks none in
      lacking t b.before (taken + most) b.size top full (raised_on t base b.before taken most risen b.raised) (at_most (taken + most) (1000 + most) top (omega (arith, small)) loads) b.refused b.some (at_most b.size (1000 + most) top (let few = b.few in omega (arith, few)) loads)

  unplaced : (k : IndexKind) → IsUnplaced k s.dataset.layout.address t full → IsLacking t top full
  unplaced Array (no_block refused) = lacking t t 0 eaib_len top full (raised_none t t refl refl) (omega arith) refused (omega arith) (short eaib_len (omega arith))
  unplaced Array (no_header block a none took raised refused) = lacking t a eaib_len eahd_len top full raised (short eaib_len (omega arith)) refused (omega arith) (short eahd_len (omega arith))
  unplaced Tree refused = lacking t t 0 bthd_len top full (raised_none t t refl refl) (omega arith) refused (omega arith) (short bthd_len (omega arith))

  unfilled : (root : Super) → IsUnfilled (told_of s root t) full → IsLacking t top full
  unfilled root x =
      let d = s.dataset in
      let low : index_len (kind_of x.made) ≤ 370 = index_lens (kind_of x.made) in
      of_rows x.made (mark_laws.clean d d.shape.rows (rows_of s) x.made (made_clean d.layout.address t x.at x.made x.first x.start.made)) x.first (index_len (kind_of x.made)) (omega (arith, low)) x.start.raised x.none

  for_part : (root : Super) → IsFullFor (told_of s root t) full → IsLacking t top full
  for_part root (inl there) = of_rows s.index r.marks t 0 (omega arith) (raised_none t t refl refl) there.1
  for_part root (inr starts) = elim starts.1 [ inl none ↦ unplaced s.dataset.layout.index none | inr few ↦ unfilled root few ]

  -- rows that are planned instead raise the end by no more
  planned_part : (root : Super) (m : Session) (p : Planned) → IsHalf (told_of s root t) m p → IsRaised t (places_of m p) top
  planned_part root m p half =
      let most = 1000 + most_of s.dataset (rows_of s) in
      raised_more t (places_of m p) most top (at_most most most top (omega arith) loads) (half_raised (told_of s root t) m p half r.marks)

-- ---- All parts

module _ (S : Sessions) (us : List Used) (blocks : (u : Used) → Among u us → u.chunk ≡ false) (log : FileLog) (full : Full) where
  record AreLacking (t : Space) (d : ℕ) (bs : List Begun) (ss : List Session) : Type 0 where
    waits : 0 < all_waits ss
    some : 1 ≤ full.size
    limit : full.limit ≡ S.places.limit
    past : full.limit < full.at + full.size
    size : full.size ≤ load_from d (cuttings_of ss) bs log
    at_bound : full.at ≤ max S.places.end S.places.limit
    load_bound : full.at ≤ t.end + load_from d (cuttings_of ss) bs log

  -- places that one may come to from those of the session
  record IsReached (t : Space) : Type 0 where
    limit : t.limit ≡ S.places.limit
    fits : t.end ≤ max S.places.end S.places.limit

  reached_on : (t u : Space) → IsFurther t u → IsReached t → IsReached u
  reached_on t u f r = record { limit = f.limit ∙ r.limit; fits = omega (arith, f.fits, r.fits, r.limit) }

  among : (root : Super) (t : Space) (d : ℕ) (bs : List Begun) (ss : List Session) (es : List Entry) → AllRest S.root S.places us [] log d bs ss es → IsReached t → IsFullAmong root t ss full → AreLacking t d bs ss
  among root t d [] [] [] rest at x = absurd x
  among root t d (b ∷ bs) (s ∷ ss) (e ∷ es) rest at (inl x) =
      let i = rest.0.0 in
      let done = is_done part_laws log us blocks S.root S.places [] d b s e rest.0.1 i in
      let own : Session = rested S.root S.places s in
      let none = subst (λ (ws : List Write). IsFullFor (record (told_of s root t) { pending = ws }) full) rest.0.1 x.1 in
      let y = for_part own done.own i.going refl done.runs.running x.0 t full root none in
      let same = own_load log d b done.own [] (cutting_of s) done.seen in
      record {
        waits = omega (arith, x.0);
        some = y.some;
        limit = y.limit ∙ at.limit;
        past = y.past;
        size = omega (arith, y.size, same);
        at_bound = omega (arith, y.at_bound, at.fits, at.limit);
        load_bound = omega (arith, y.load_bound, same);
      }
  among root t d (b ∷ bs) (s ∷ ss) (e ∷ es) rest at (inr (inl x)) =
      let y = among root t (suc d) bs ss es rest.1 at x.1 in
      record { waits = omega (arith, y.waits); some = y.some; limit = y.limit; past = y.past; size = omega (arith, y.size); at_bound = y.at_bound; load_bound = omega (arith, y.load_bound) }
  among root t d (b ∷ bs) (s ∷ ss) (e ∷ es) rest at (inr (inr x)) =
      let m = x.0 in
      let p = x.1 in
      let u = places_of m p in
      let i = rest.0.0 in
      let done = is_done part_laws log us blocks S.root S.places [] d b s e rest.0.1 i in
      let own : Session = rested S.root S.places s in
      let half = subst (λ (ws : List Write). IsHalf (record (told_of s root t) { pending = ws }) m p) rest.0.1 (x.2).half in
      let raised = planned_part own done.own i.going refl done.runs.running (x.2).waits t full root m p half in
      let same = own_load log d b done.own [] (cutting_of s) done.seen in
      let y = among (record root { end = u.end }) u (suc d) bs ss es rest.1 (reached_on t u (half_further (told_of s root t) m p (x.2).half) at) x.3 in
      record {
        waits = omega (arith, y.waits);
        some = y.some;
        limit = y.limit;
        past = y.past;
        size = omega (arith, y.size);
        at_bound = y.at_bound;
        load_bound = omega (arith, y.load_bound, raised.bound, same);
      }
  among root t d [] (s ∷ ss) es rest at x = absurd rest
  among root t d [] [] (e ∷ es) rest at x = absurd rest
  among root t d (b ∷ bs) [] es rest at x = absurd rest
  among root t d (b ∷ bs) (s ∷ ss) [] rest at x = absurd rest

pub lacks_place : (S : Sessions) (log : FileLog) (full : Full) → StandsAll S log → S.stopped ≡ false → all_pending S.parts ≡ [] → IsFullAmong S.root S.places S.parts full → NoPlaceAll S log full
lacks_place S log full st going idle x =
    let on = goes_on S log st going in
    let rest = at_rest S.root S.places on.ranges (all_pending S.parts) log 0 log.sets [] S.parts on.entries idle idle on.parts in
    let y = among S on.ranges on.blocks log full S.root S.places 0 log.sets S.parts on.entries rest (record { limit = refl; fits = omega arith }) x in
    record { waits = y.waits; some = y.some; limit = y.limit; past = y.past; size_bound = y.size; at_bound = y.at_bound; load_bound = y.load_bound }
