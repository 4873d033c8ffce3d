-- What calls leave of each dataset.
use Rattle.std.proofs.Common.{◌≡◌, ◌<◌, ◌≤◌, ◌++◌, true, false, Bool, List, [], ◌∷◌, length, Result, Ok, Err, OnOk, refl, sym, ap, subst, ◌∙◌, inl, inr, arith, length-append}
use Rattle.h5w_model.specs.Relations.{AllPaired}
use Rattle.h5w_model.specs.declared.piece.Write.{Write}
use Rattle.h5w_model.specs.declared.root.Super.{Super}
use Rattle.h5w_space.specs.Space.{Space}
use Rattle.h5w_writer.specs.Sessions.{AfterPiece, AllEndBy, Session, Settles, TakesRows, cleared, closed_root}
use Rattle.h5w_writer.specs.PartLaws.{super_piece}
use Rattle.h5w_writer.specs.Told.{told_of}
use Rattle.h5w_writer.proofs.FlushCalls.{takes_none, told_rows, told_some}
use Rattle.h5w_writer.proofs.PastLemmas.{ends_joined, ends_later}
use Rattle.h5w_writer.proofs.StandLemmas.{freed_keeps}
use Rattle.h5w_several_writer.specs.Flows.{KeepsPart, KeepsParts, PlansAll, PlansPart, all_waits}
use Rattle.h5w_several_writer.proofs.EndLemmas.{behind_none_pending}
use Rattle.h5w_several_writer.proofs.PartLemmas.{flushed_root}
use Rattle.h5w_several_writer_laws.specs.Sessions.{AfterPieceOf, AreFlushed, AreParts, AreSessions, AreShown, FlushesAll, Sessions, all_pending, bare, closed_all, closed_parts, closed_super}
use Rattle.h5w_several_writer_laws.proofs.FlushAllLemmas.{back_nil, front_nil}

-- ---- A flush

-- what a part takes over a superblock and places it takes over its own as well, once it is told of those that the last part left
retold_rows : (s : Session) (root : Super) (t : Space) (n u : Session) (last : Super) (end : Space) → TakesRows (told_of s root t) n → u ≡ told_of n last (bare end) → last ≡ record (s.root) { end = last.end }
    → end.limit ≡ s.places.limit → s.places.end ≤ end.end → TakesRows s u
retold_rows s root t n u last end x is root_is limit rises = subst (TakesRows s) (sym is) (record {
  name = x.name;
  root = root_is;
  place = x.place;
  dataset = x.dataset;
  address = x.address;
  named = x.named;
  made = x.made;
  waiting = x.waiting;
  waits = x.waits;
  committed = x.committed;
  stopped = x.stopped;
  keeps = x.keeps;
  limit = limit;
  rises = rises;
  budget = x.budget;
  early = x.early;
  chunks = x.chunks;
  flushing = x.flushing;
  still = x.still;
})

-- parts that were flushed over a superblock and places, whose last part left others
record Flowed (root : Super) (t : Space) (ss : List Session) (last : Super) (end : Space) (us : List Session) : Type 0 where
  each : AllPaired PlansPart ss us
  root_is : last ≡ record root { end = last.end }
  end_is : root.end ≡ t.end → last.end ≡ end.end
  limit : end.limit ≡ t.limit
  rises : t.end ≤ end.end
  ends : AllEndBy end.end (all_pending us)
  some : 0 < all_waits ss → 1 ≤ length (all_pending us)

module _ (S : Sessions) (last : Super) (end : Space) where
  -- over these they are flushed, beside those of the session
  record IsFrom (root : Super) (t : Space) : Type 0 where
    root_is : root ≡ record (S.root) { end = root.end }
    limit : t.limit ≡ S.places.limit
    rises : S.places.end ≤ t.end

  flowed : (root : Super) (t : Space) (ss us : List Session) → IsFrom root t → AreParts S ss → all_pending ss ≡ [] → AreFlushed root t ss last end us → Flowed root t ss last end us
  flowed root t [] [] from parts idle f = record {
    each = tt;
    root_is = f.0 ∙ ap (λ (r : Super). record root { end = r.end }) (sym f.0);
    end_is = λ here. ap (λ (r : Super). r.end) f.0 ∙ here ∙ ap (λ (v : Space). v.end) (sym f.1);
    limit = ap (λ (v : Space). v.limit) f.1;
    rises = omega (arith, ap (λ (v : Space). v.end) f.1);
    ends = tt;
    some = λ some. absurd (omega (arith, some));
  }
  flowed root t (s ∷ ss) (u ∷ us) from parts idle (inl f) =
      let p = parts.0 in
      let none = front_nil s.pending (all_pending ss) idle in
      let x = flowed root t ss us from parts.1 (back_nil s.pending (all_pending ss) idle) f.2 in
      let own = takes_none s p.session f.0 in
      let own_root : last ≡ record (s.root) { end = last.end } = x.root_is ∙ ap (λ (r : Super). record r { end = last.end }) (from.root_is ∙ ap (λ (r : Super). record r { end = root.end }) (sym p.root)) in
      let limit : end.limit ≡ s.places.limit = x.limit ∙ from.limit ∙ ap (λ (v : Space). v.limit) (sym p.places) in
      let at = ap (λ (v : Space). v.end) p.places in
      let pending : u.pending ≡ [] = ap (λ (v : Session). v.pending) f.1 ∙ none in
      record {
        each = (
          record {
            rows = retold_rows s s.root s.places s u last end own f.1 own_root limit (omega (arith, at, from.rises, x.rises));
            some = λ some. absurd (omega (arith, some, f.0));
            none = λ waits. pending;
          },
          x.each,
        );
        root_is = x.root_is;
        end_is = x.end_is;
        limit = x.limit;
        rises = x.rises;
        ends = subst (λ (ws : List Write). AllEndBy end.end (ws ++ all_pending us)) (sym pending) x.ends;
        some = λ some. let more = x.some (omega (arith, some, f.0)) in omega (arith, more, length-append u.pending (all_pending us));
      }
  flowed root t (s ∷ ss) (u ∷ us) from parts idle (inr f) =
      let p = parts.0 in
      let n = f.0 in
      let own = told_rows (told_of s root t) n (Ok 0) f.1.flushed in
      let next : IsFrom n.root n.places = record {
        root_is = own.root ∙ ap (λ (r : Super). record r { end = n.root.end }) from.root_is;
        limit = own.limit ∙ from.limit;
        rises = omega (arith, from.rises, own.rises);
      } in
      let x = flowed n.root n.places ss us next parts.1 (back_nil s.pending (all_pending ss) idle) f.3 in
      let root_here : last ≡ record root { end = last.end } = x.root_is ∙ ap (λ (r : Super). record r { end = last.end }) own.root in
      let own_root : last ≡ record (s.root) { end = last.end } = root_here ∙ ap (λ (r : Super). record r { end = last.end }) (from.root_is ∙ ap (λ (r : Super). record r { end = root.end }) (sym p.root)) in
      let limit : end.limit ≡ s.places.limit = x.limit ∙ own.limit ∙ from.limit ∙ ap (λ (v : Space). v.limit) (sym p.places) in
      let at = ap (λ (v : Space). v.end) p.places in
      let pending : u.pending ≡ n.pending = ap (λ (v : Session). v.pending) f.2 in
      let count = ap (λ (ws : List Write). length ws) pending in
      let pieces : 1 ≤ length n.pending = told_some (told_of s root t) n (Ok (length n.pending)) f.1.flushed refl in
      record {
        each = (
          record {
            rows = retold_rows s root t n u last end own f.2 own_root limit (omega (arith, at, from.rises, own.rises, x.rises));
            some = λ some. omega (arith, pieces, count);
            none = λ none. absurd (let some = f.1.waits in omega (arith, some, none));
          },
          x.each,
        );
        root_is = root_here;
        end_is = λ here. x.end_is (ap (λ (r : Super). r.end) (flushed_root (told_of s root t) n f.1.flushed));
        limit = x.limit ∙ own.limit;
        rises = omega (arith, own.rises, x.rises);
        ends = ends_joined end.end u.pending (all_pending us) (subst (AllEndBy end.end) (sym pending) (ends_later n.places.end end.end n.pending x.rises f.1.ends)) x.ends;
        some = λ some. omega (arith, pieces, count, length-append u.pending (all_pending us));
      }
  flowed root t [] (u ∷ us) from parts idle f = absurd f
  flowed root t (s ∷ ss) [] from parts idle f = absurd f

  -- where no row waits nothing is another
  record StaysAs (us ss : List Session) : Type 0 where
    root_is : last ≡ S.root
    places_are : end ≡ S.places
    parts_are : us ≡ ss

  stays : (ss us : List Session) → AreParts S ss → all_waits ss ≡ 0 → AreFlushed (S.root) (S.places) ss last end us → StaysAs us ss
  stays [] [] parts none f = record { root_is = f.0; places_are = f.1; parts_are = refl }
  stays (s ∷ ss) (u ∷ us) parts none (inl f) =
      let p = parts.0 in
      let x = stays ss us parts.1 (omega (arith, none)) f.2 in
      let same : u ≡ s = f.1 ∙ (λ i. told_of s (x.root_is i) (bare (x.places_are i))) ∙ (λ i. told_of s (sym p.root i) (sym p.places i)) in
      record { root_is = x.root_is; places_are = x.places_are; parts_are = λ i. same i ∷ x.parts_are i }
  stays (s ∷ ss) (u ∷ us) parts none (inr f) = absurd (let some = f.1.waits in omega (arith, some, none))
  stays [] (u ∷ us) parts none f = absurd f
  stays (s ∷ ss) [] parts none f = absurd f

pub plans_all : (S T : Sessions) → AreParts S S.parts → all_pending S.parts ≡ [] → FlushesAll S T → PlansAll S T
plans_all S T parts idle f =
    let x = flowed S T.root T.places S.root S.places S.parts T.parts (record { root_is = refl; limit = refl; rises = omega arith }) parts idle f.parts in
    record {
      each = x.each;
      root = x.root_is;
      end = x.end_is;
      limit = x.limit;
      rises = x.rises;
      session = f.session;
      ends = x.ends;
      some = x.some;
      none = λ none.
          let y = stays S T.root T.places S.parts T.parts parts none f.parts in
          f.session ∙ (λ i. record S { root = y.root_is i; places = y.places_are i; parts = y.parts_are i });
    }

pub flush_plans : {A E : Type 0} (r : Result A E) (S T : Sessions) → AreParts S S.parts → all_pending S.parts ≡ [] → OnOk r (FlushesAll S T) → OnOk r (PlansAll S T)
flush_plans (Ok a) S T parts idle f = plans_all S T parts idle f
flush_plans (Err e) S T parts idle f = tt

-- ---- A piece

settled_keeps : (flushing : Bool) (s u : Session) → Settles flushing s u → KeepsPart s u
settled_keeps true s u x =
    let e = x.1 in
    record {
      session = e ∙ (λ i. record s { places = u.places; committed = (sym e i).committed; pending = (sym e i).pending; flushing = (sym e i).flushing });
    }
settled_keeps false s u e = record { session = e ∙ (λ i. record s { places = (sym e i).places; committed = (sym e i).committed; pending = (sym e i).pending; flushing = (sym e i).flushing }) }

piece_keeps : (s u : Session) (ws : List Write) → AfterPiece s ws u → KeepsPart s u
piece_keeps s u [] x = settled_keeps s.flushing s u x
piece_keeps s u (w ∷ ws) e = record { session = e ∙ (λ i. record s { places = (sym e i).places; committed = (sym e i).committed; pending = (sym e i).pending; flushing = (sym e i).flushing }) }

themselves : (ss : List Session) → AllPaired KeepsPart ss ss
themselves [] = tt
themselves (s ∷ ss) = (record { session = refl }, themselves ss)

shown_keeps : (w : Write) (ss us : List Session) → AreShown w ss us → AllPaired KeepsPart ss us
shown_keeps w (s ∷ ss) (u ∷ us) (inl x) = (subst (KeepsPart s) (sym x.1) (record { session = refl }), shown_keeps w ss us x.2)
shown_keeps w (s ∷ ss) (u ∷ us) (inr x) = (piece_keeps s u x.0 x.2, subst (AllPaired KeepsPart ss) (sym x.3) (themselves ss))
shown_keeps w (s ∷ ss) [] x = absurd x
shown_keeps w [] us x = absurd x

pub keeps_parts : (S T : Sessions) (w : Write) → AfterPieceOf w S T → KeepsParts S T
keeps_parts S T w x =
    let places : (T.places.end ≡ S.places.end) × (T.places.limit ≡ S.places.limit) = elim x.places [
      | inl y ↦ freed_keeps S.keeps S.places T.places y.2
      | inr y ↦ (ap (λ (t : Space). t.end) y.1, ap (λ (t : Space). t.limit) y.1)
    ] in
    record { each = shown_keeps w S.parts T.parts x.parts; session = x.session; end = places.0; limit = places.1 }

-- ---- A close

-- the superblock is pending, and nothing else
pub close_pending : (S : Sessions) (ss : List Session) → 1 ≤ length ss → AreParts S ss → all_pending (closed_parts (closed_super S) ss) ≡ super_piece (closed_super S) ∷ []
close_pending S [] some parts = absurd (omega (arith, some))
close_pending S (s ∷ ss) some parts =
    ap (λ (ws : List Write). super_piece (closed_root s) ∷ ws) (behind_none_pending (closed_super S) ss) ∙ ap (λ (r : Super). let q : Super = record r { flags = cleared r.flags } in super_piece q ∷ []) parts.0.root

pub close_pends : {A E : Type 0} (r : Result A E) (S T : Sessions) → AreSessions S → OnOk r (T ≡ closed_all S) → OnOk r (all_pending T.parts ≡ super_piece (closed_super S) ∷ [])
close_pends (Ok a) S T are closed = ap (λ (x : Sessions). all_pending x.parts) closed ∙ close_pending S S.parts are.some are.each
close_pends (Err e) S T are closed = tt
