-- The superblock and the places of a file, which a session takes on and gives back.
use Rattle.std.proofs.Common.{◌≡◌, ◌^◌, ◌<◌, ◌≤◌, ℕ, refl, sym, ap, subst, ◌∙◌, arith}
use Rattle.h5w_model.specs.Findings.{the_superblock}
use Rattle.h5w_model.specs.declared.root.Super.{Super}
use Rattle.h5w_space.specs.Space.{IsLive, Space}
use Rattle.h5w_flush_laws.specs.Spaces.{extent_of}
use Rattle.h5w_writer.specs.Halves.{IsHalf, places_of}
use Rattle.h5w_writer.specs.Lent.{IsFurther, WasLent}
use Rattle.h5w_writer.specs.Sessions.{IsSession, IsUnmade, Session, rows_of}
use Rattle.h5w_writer.specs.Told.{told_of}
use Rattle.h5w_writer.specs.declared.planned.Planned.{Planned}
use Rattle.h5w_writer.specs.declared.planned.Planned.TheVariants.{Alone, Grows, Starts}
use Rattle.h5w_writer.proofs.CarriedLemmas.{refused_is}
use Rattle.h5w_writer.proofs.HalfLemmas.{begun_further, far, further, further_on}

-- ---- What holds of every session is kept

-- under another superblock, at places that end no earlier
pub told_is : (s : Session) (root : Super) (t : Space) → root.version ≡ 3 → s.places.end ≤ t.end → t.end < 2 ^ 64 → t.limit ≤ 2 ^ 40 → (IsUnmade s → IsLive t (extent_of the_superblock)) → IsSession s → IsSession (told_of s root t)
told_is s root t version rises small limit live is = record {
  some_columns = is.some_columns;
  cells = is.cells;
  few = is.few;
  version = version;
  begun = omega (arith, is.begun, rises);
  kind = is.kind;
  sound = is.sound;
  fits = is.fits;
  header = is.header;
  addressed = is.addressed;
  header_ends = omega (arith, is.header_ends, rises);
  small = small;
  limit = limit;
  inside = λ k from named. omega (arith, is.inside k from named, rises);
  tops = λ whole u among. omega (arith, is.tops (record { named = whole.named; made = whole.made }) u among, rises);
  head = λ named lacking. omega (arith, is.head named lacking, rises);
  blank = is.blank;
  live = live;
  early = is.early;
  chunks = is.chunks;
  placed = is.placed;
  ends = λ k p at. omega (arith, is.ends k p at, rises);
  flushing = is.flushing;
  busy = is.busy;
  budget_low = is.budget_low;
  budget_high = is.budget_high;
}

-- what took on a superblock and places, with those that it had again
pub returned_is : (m : Session) (root : Super) (t : Space) → WasLent m root t → IsSession (told_of m root t)
returned_is m root t w =
    let s = w.old in
    let kept : IsSession (record s { index = m.index }) = refused_is s (rows_of s) m.index refl w.same.held w.session in
    let same : told_of m root t ≡ record s { index = m.index } = ap (λ (u : Session). told_of u root t) w.same.session ∙ (λ i. record s { root = w.root_is i; places = w.places i; index = m.index }) in
    subst IsSession (sym same) kept

-- ---- Where a flush that is planned ends

pub half_further : (old mid : Session) (p : Planned) → IsHalf old mid p → IsFurther old.places (places_of mid p)
half_further old mid (Alone ws) h = subst (λ (m : Session). IsFurther old.places m.places) (sym h.0) (record { rises = omega arith; limit = refl; fits = omega arith })
half_further old mid (Grows p) h = far old h.session h.there p.prepared p.added.items mid.index mid.places h.ready
half_further old mid (Starts p) h =
    let x = h.1 in
    let r = x.ready in
    further_on old.places x.first p.places (further old.places x.first _ x.start.raised)
    (further_on x.first r.prepared.between p.places (further x.first r.prepared.between _ r.prepared.taken.raised)
    (begun_further _ r.prepared.between p.prepared.begun p.places r.prepared.names.partly.like.sound r.prepared.begun))
