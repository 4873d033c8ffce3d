-- What holds of a session of several datasets holds of it after each call.
use Rattle.std.proofs.Common.{◌≡◌, ◌^◌, ◌+◌, ◌<◌, ◌≤◌, ◌++◌, ℕ, suc, List, [], ◌∷◌, ℤ, length, take, drop, Result, Ok, Err, IfOk, OnOk, OnErr, Some, slice_get, slice_set, refl, sym, ap, subst, ◌∙◌, arith, length-append}
use Rattle.std.proofs.lemmas.List.{take-append-le, take_all}
use Rattle.h5w_model.specs.declared.piece.Write.{Write}
use Rattle.h5w_model.specs.declared.root.Super.{Super}
use Rattle.h5w_space.specs.Space.{Space}
use Rattle.h5w_image.specs.View.{ImageView}
use Rattle.h5w_writer.specs.Early.{dirty_of}
use Rattle.h5w_writer.specs.Room.{HasRoomFor}
use Rattle.h5w_writer.specs.Sessions.{IsSession, Session, rows_of, with_values}
use Rattle.h5w_several_writer.specs.Opened.{AreOpened, places_from, rested, sessions_at_rest, sessions_over, settled}
use Rattle.h5w_several_writer.specs.Parts.{AllSessions, AreCounted}
use Rattle.h5w_several_writer.specs.Refusals.{HasRoomForAll}
use Rattle.h5w_several_writer_laws.specs.Sessions.{AppendsTo, AreFlushed, AreParts, AreSameBut, AreShown, IsPart, Sessions, all_pending, closed_all, closed_parts, closed_super, keeping, stopped_all}
use Rattle.h5w_several_writer.proofs.PartLemmas.{first_small, flushed_parts, length_flushed, length_same, parts_same, pending_same}
use Rattle.h5w_several_writer.proofs.ShownLemmas.{first_of, length_shown, shown_parts}
use Rattle.h5w_several_writer.proofs.EndLemmas.{added_part, closed_all_parts, closed_few, closed_length, get_set, part_of, same_part, set_length, set_parts, set_pending, set_same, stopped_length, stopped_none, stopped_parts}

-- A part looks at the superblock, at where the places end and their limit, and at whether the session was stopped.
part_like : (S T : Sessions) (s : Session) → T.root ≡ S.root → T.places.end ≡ S.places.end → T.places.limit ≡ S.places.limit → T.stopped ≡ S.stopped → IsPart S s → IsPart T s
part_like S T s root end limit stopped p = record {
  session = p.session;
  root = p.root ∙ sym root;
  places = p.places ∙ (λ i. places_from (sym end i) (sym limit i));
  stopped = p.stopped ∙ sym stopped;
  early = p.early;
}

pub parts_like : (S T : Sessions) (ss : List Session) → T.root ≡ S.root → T.places.end ≡ S.places.end → T.places.limit ≡ S.places.limit → T.stopped ≡ S.stopped → AreParts S ss → AreParts T ss
parts_like S T [] root end limit stopped parts = tt
parts_like S T (s ∷ ss) root end limit stopped parts = (part_like S T s root end limit stopped parts.0, parts_like S T ss root end limit stopped parts.1)

pub counted_keeping : (S : Sessions) → AreCounted S → AreCounted (keeping S)
counted_keeping S k =
    let s = k.sessions in
    record { sessions = record { some = s.some; few = s.few; version = s.version; small = s.small; limit = s.limit; each = parts_like S (keeping S) S.parts refl refl refl refl s.each }; few = k.few }

pub counted_stopped : (S : Sessions) → AreCounted S → AreCounted (stopped_all S)
counted_stopped S k =
    let s = k.sessions in
    let long = stopped_length S.parts in
    let none = ap (λ (ws : List Write). length ws) (stopped_none S.parts) in
    record {
      sessions = record { some = omega (arith, s.some, long); few = omega (arith, s.few, long); version = s.version; small = s.small; limit = s.limit; each = stopped_parts S S.parts s.each };
      few = omega (arith, none);
    }

pub counted_closed : (S : Sessions) → AreCounted S → AllSessions (closed_parts (closed_super S) S.parts) → AreCounted (closed_all S)
counted_closed S k are =
    let s = k.sessions in
    let long = closed_length (closed_super S) S.parts in
    record {
      sessions = record { some = omega (arith, s.some, long); few = omega (arith, s.few, long); version = s.version; small = s.small; limit = s.limit; each = closed_all_parts S S.parts s.each are };
      few = omega (arith, closed_few (closed_super S) S.parts);
    }

abbrev with_parts : Sessions → List Session → Sessions
with_parts S us = record S { parts = us }

pub counted_set : (S : Sessions) (d : ℕ) (s u : Session) → AreCounted S → slice_get S.parts d ≡ Some s → IsPart S u → u.pending ≡ s.pending → AreCounted (record S { parts = slice_set S.parts d u })
counted_set S d s u k at p same =
    let x = k.sessions in
    let us = slice_set S.parts d u in
    let long = set_length S.parts d u in
    let pending = ap (λ (ws : List Write). length ws) (set_pending S.parts d s u at same) in
    record {
      sessions = record { some = omega (arith, x.some, long); few = omega (arith, x.few, long); version = x.version; small = x.small; limit = x.limit; each = parts_like S (with_parts S us) us refl refl refl refl (set_parts S S.parts d u p x.each) };
      few = omega (arith, k.few, pending);
    }

pub counted_same : (S : Sessions) (us : List Session) → AreCounted S → AreSameBut S.parts us → AreCounted (record S { parts = us })
counted_same S us k same =
    let x = k.sessions in
    let long = length_same S.parts us same in
    let pending = ap (λ (ws : List Write). length ws) (pending_same S.parts us same) in
    record {
      sessions = record { some = omega (arith, x.some, long); few = omega (arith, x.few, long); version = x.version; small = x.small; limit = x.limit; each = parts_like S (with_parts S us) us refl refl refl refl (parts_same S S.parts us x.each same) };
      few = omega (arith, k.few, pending);
    }

pub counted_shown : (S : Sessions) (w : Write) (us : List Session) (t : Space) → AreCounted S → AreShown w S.parts us → t.end ≡ S.places.end → t.limit ≡ S.places.limit → length (all_pending us) < 2 ^ 64 → AreCounted (record S { places = t; parts = us })
counted_shown S w us t k shown end limit few =
    let x = k.sessions in
    let long = length_shown w S.parts us shown in
    record {
      sessions = record {
        some = omega (arith, x.some, long);
        few = omega (arith, x.few, long);
        version = x.version;
        small = omega (arith, x.small, end);
        limit = omega (arith, x.limit, limit);
        each = parts_like S (record S { places = t; parts = us }) us refl end limit refl (shown_parts S w S.parts us shown x.each);
      };
      few = few;
    }

pub counted_flushed : (S : Sessions) (root : Super) (t : Space) (us : List Session) → AreCounted S → AreFlushed S.root S.places S.parts root t us → AllSessions us → root.version ≡ 3 → t.limit ≡ S.places.limit → length (all_pending us) < 2 ^ 64
    → AreCounted (record S { root = root; places = t; parts = us })
counted_flushed S root t us k f are version limit few =
    let x = k.sessions in
    let T : Sessions = record S { root = root; places = t; parts = us } in
    let long = length_flushed S.root S.places S.parts root t us f in
    let some : 1 ≤ length us = omega (arith, x.some, long) in
    let each = parts_like (record S { root = root; places = t }) T us refl refl refl refl (flushed_parts S S.root S.places S.parts root t us f x.each are) in
    record {
      sessions = record { some = some; few = omega (arith, x.few, long); version = version; small = first_small T us some each; limit = omega (arith, x.limit, limit); each = each };
      few = few;
    }

-- ---- After calls that may be refused

-- the parts as the list has them that was lent
pub back : {A : Type 0} (len : ℕ) (us ss : List A) → length us ≡ length ss → len ≡ length ss → take len (us ++ drop (length us) ss) ≡ us
back len us ss same is = take-append-le len us (drop (length us) ss) (omega (arith, same, is)) ∙ take_all len us (omega (arith, same, is))

pub flushed_length : {T E : Type 0} (S : Sessions) (r : Result T E) (root : Super) (t : Space) (us : List Session) → OnOk r (AreFlushed S.root S.places S.parts root t us) → OnErr r (AreSameBut S.parts us) → length us ≡ length S.parts
flushed_length S (Ok x) root t us f same = length_flushed S.root S.places S.parts root t us f
flushed_length S (Err e) root t us f same = length_same S.parts us same

pub flushed_either : {T E : Type 0} (S : Sessions) (r : Result T E) (root : Super) (t : Space) (us : List Session) → AreCounted S → OnOk r (AreFlushed S.root S.places S.parts root t us) → OnOk r (AllSessions us) → OnOk r (root.version ≡ 3)
    → OnOk r (t.limit ≡ S.places.limit) → OnOk r (0 + length (all_pending us) + 1 < 2 ^ 64) → OnErr r (AreSameBut S.parts us) → OnErr r (root ≡ S.root) → OnErr r (t ≡ S.places)
    → AreCounted (record S { root = root; places = t; parts = us })
flushed_either S (Ok x) root t us k f are version limit few same root_is places_are = counted_flushed S root t us k f are version limit (omega (arith, few))
flushed_either S (Err e) root t us k f are version limit few same root_is places_are =
    subst AreCounted (λ i. record S { root = sym root_is i; places = sym places_are i; parts = us }) (counted_same S us k same)

pub added_either : {T E : Type 0} (S : Sessions) (d : ℕ) (s u : Session) (values : List ℤ) (r : Result T E) → AreCounted S → slice_get S.parts d ≡ Some s → OnOk r (u ≡ with_values s values) → OnOk r (IsSession u) → OnErr r (u ≡ s)
    → AreCounted (record S { parts = slice_set S.parts d u })
added_either S d s u values (Ok x) k at same is kept = counted_set S d s u k at (added_part S s u values (part_of S S.parts d s at k.sessions.each) is same) (ap (λ (v : Session). v.pending) same)
added_either S d s u values (Err e) k at same is kept =
    subst (λ (us : List Session). AreCounted (record S { parts = us })) (sym (ap (λ (v : Session). slice_set S.parts d v) kept ∙ set_same S.parts d s at)) k

pub added_to : {T E : Type 0} (S : Sessions) (d : ℕ) (s u : Session) (values : List ℤ) (r : Result T E) → slice_get S.parts d ≡ Some s → OnOk r (u ≡ with_values s values) → OnOk r (AppendsTo d values S (record S { parts = slice_set S.parts d u }))
added_to S d s u values (Ok x) at same = record { part = s; is = at; session = ap (λ (v : Session). record S { parts = slice_set S.parts d v }) same }
added_to S d s u values (Err e) at same = tt

pub rows_at : {E : Type 0} (ss : List Session) (d : ℕ) (u : Session) (r : Result ℕ E) → d < length ss → IfOk r (λ rows. rows ≡ rows_of u) → IfOk r (λ rows. (s : Session) → slice_get (slice_set ss d u) d ≡ Some s → rows ≡ rows_of s)
rows_at ss d u (Ok rows) inside is = λ s at. is ∙ ap rows_of (same_part (slice_set ss d u) d u s (get_set ss d u inside) at)
rows_at ss d u (Err e) inside is = tt

-- no more bytes of it wait than the budget has
pub within_at : {T E : Type 0} (ss : List Session) (d : ℕ) (u : Session) (r : Result T E) → d < length ss → OnOk r (dirty_of u ≤ u.budget) → OnOk r ((s : Session) → slice_get (slice_set ss d u) d ≡ Some s → dirty_of s ≤ s.budget)
within_at ss d u (Ok x) inside is = λ s at. subst (λ (v : Session). dirty_of v ≤ v.budget) (same_part (slice_set ss d u) d u s (get_set ss d u inside) at) is
within_at ss d u (Err e) inside is = tt

pub room_at : {T E : Type 0} (S : Sessions) (d : ℕ) (s u : Session) (values : List ℤ) (r : Result T E) (v : ImageView) → AreCounted S → slice_get S.parts d ≡ Some s → length (all_pending S.parts) ≡ 0 → OnOk r (u ≡ with_values s values) → OnOk r (HasRoomFor u v)
    → OnOk r (HasRoomForAll (record S { parts = slice_set S.parts d u }) v)
room_at S d s u values (Ok x) v k at idle same room =
    let p = part_of S S.parts d s at k.sessions.each in
    let pending = ap (λ (ws : List Write). length ws) (set_pending S.parts d s u at (ap (λ (w : Session). w.pending) same)) in
    let end = ap (λ (w : Session). w.places.end) same ∙ ap (λ (t : Space). t.end) p.places in
    record { pieces = omega (arith, pending, idle, room.pieces); end = omega (arith, end, room.end) }
room_at S d s u values (Err e) v k at idle same room = tt

pub counted_written : (S : Sessions) (us : List Session) (t : Space) → AreCounted S → 0 < length (all_pending S.parts) → ((w : Write) (ws : List Write) → all_pending S.parts ≡ w ∷ ws → AreShown w S.parts us)
    → ((w : Write) (ws : List Write) → all_pending S.parts ≡ w ∷ ws → all_pending us ≡ ws) → t.end ≡ S.places.end → t.limit ≡ S.places.limit → AreCounted (record S { places = t; parts = us }) × (length us ≡ length S.parts)
counted_written S us t k some shown left end limit =
    let x = first_of (all_pending S.parts) some in
    let here = shown x.0 x.1 x.2 in
    let fewer = ap (λ (ws : List Write). length ws) (left x.0 x.1 x.2) in
    let all = ap (λ (ws : List Write). length ws) x.2 in
    (counted_shown S x.0 us t k here end limit (omega (arith, fewer, all, k.few)), length_shown x.0 S.parts us here)

-- ---- Over sessions that were opened

module _ (root : Super) (limit : ℕ) where
  abbrev from : Space
  from = places_from root.end limit

  abbrev over : List Session → Sessions
  over ss = sessions_over root limit ss

  rested_parts : (all ss : List Session) → AreOpened root.end ss → AllSessions (rested root from ss) → AreParts (over all) (rested root from ss)
  rested_parts all [] opened are = tt
  rested_parts all (s ∷ ss) opened are = (record { session = are.0; root = refl; places = refl; stopped = opened.0.going; early = opened.0.early }, rested_parts all ss opened.1 are.1)

  settled_parts : (all ss : List Session) → AreOpened root.end ss → AllSessions (settled root from ss) → AreParts (over all) (settled root from ss)
  settled_parts all [] opened are = tt
  settled_parts all (s ∷ ss) opened are = (record { session = are.0; root = refl; places = refl; stopped = opened.0.going; early = opened.0.early }, rested_parts all ss opened.1 are.1)

  rested_none : (ss : List Session) → all_pending (rested root from ss) ≡ []
  rested_none [] = refl
  rested_none (s ∷ ss) = rested_none ss

  settled_few : (ss : List Session) → AreOpened root.end ss → length (all_pending (settled root from ss)) ≤ 1
  settled_few [] opened = omega arith
  settled_few (s ∷ ss) opened =
      let none = ap (λ (ws : List Write). length ws) (rested_none ss) in
      let one = ap (λ (ws : List Write). length ws) opened.0.pending in
      omega (arith, length-append s.pending (all_pending (rested root from ss)), none, one)

  pub rested_length : (ss : List Session) → length (rested root from ss) ≡ length ss
  rested_length [] = refl
  rested_length (s ∷ ss) = ap suc (rested_length ss)

  pub settled_length : (ss : List Session) → length (settled root from ss) ≡ length ss
  settled_length [] = refl
  settled_length (s ∷ ss) = ap suc (rested_length ss)

  settled_small : (ss : List Session) → 1 ≤ length ss → AllSessions (settled root from ss) → root.end < 2 ^ 64
  settled_small [] some are = absurd (omega arith)
  settled_small (s ∷ ss) some are = are.0.small

  pub counted_over : (ss : List Session) → 1 ≤ length ss → length ss ≤ 8 → AreOpened root.end ss → root.version ≡ 3 → limit ≤ 2 ^ 40 → AllSessions (settled root from ss) → AreCounted (over ss)
  counted_over ss some few opened version high are =
      let long = settled_length ss in
      record {
        sessions = record { some = omega (arith, some, long); few = omega (arith, few, long); version = version; small = settled_small ss some are; limit = high; each = settled_parts ss ss opened are };
        few = omega (arith, settled_few ss opened);
      }

  rested_small : (ss : List Session) → 1 ≤ length ss → AllSessions (rested root from ss) → root.end < 2 ^ 64
  rested_small [] some are = absurd (omega arith)
  rested_small (s ∷ ss) some are = are.0.small

  pub counted_at_rest : (ss : List Session) → 1 ≤ length ss → length ss ≤ 8 → AreOpened root.end ss → root.version ≡ 3 → limit ≤ 2 ^ 40 → AllSessions (rested root from ss) → AreCounted (sessions_at_rest root limit ss)
  counted_at_rest ss some few opened version high are =
      let us = rested root from ss in
      let long = rested_length ss in
      let none = ap (λ (ws : List Write). length ws) (rested_none ss) in
      record {
        sessions = record {
          some = omega (arith, some, long);
          few = omega (arith, few, long);
          version = version;
          small = rested_small ss some are;
          limit = high;
          each = parts_like (over ss) (sessions_at_rest root limit ss) us refl refl refl refl (rested_parts ss ss opened are);
        };
        few = omega (arith, none);
      }
