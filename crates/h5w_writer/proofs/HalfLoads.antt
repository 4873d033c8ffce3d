-- By how much rows that are planned raise the file's end.
use Rattle.std.proofs.Common.{◌≡◌, ◌≤◌, ◌+◌, ℕ, List, refl, sym, subst, arith}
use Rattle.h5w_model.specs.declared.cell.Key.{Key}
use Rattle.h5w_space.specs.Space.{Space}
use Rattle.h5w_index.specs.Full.{most_of}
use Rattle.h5w_index.specs.Held.{view_of}
use Rattle.h5w_index.specs.Marks.{IsMarked, IsRaised}
use Rattle.h5w_index.specs.Views.{IndexView, kind_of}
use Rattle.h5w_index.proofs.MarkLemmas.{mark_laws}
use Rattle.h5w_index.proofs.PlacingLemmas.{placing_laws}
use Rattle.h5w_index.proofs.RaisedLemmas.{raised_more, raised_none, raised_on}
use Rattle.h5w_creation_laws.specs.CreatedFiles.{index_len}
use Rattle.h5w_creation_laws.proofs.SizeLemmas.{index_lens}
use Rattle.h5w_writer.specs.Halves.{IsHalf, IsReady, places_of}
use Rattle.h5w_writer.specs.Sessions.{Session, rows_of}
use Rattle.h5w_writer.specs.declared.planned.Planned.{Planned}
use Rattle.h5w_writer.specs.declared.planned.Planned.TheVariants.{Alone, Grows, Starts}
use Rattle.h5w_writer.specs.declared.planned.Prepared.{Prepared}
use Rattle.h5w_writer.proofs.StartLoads.{made_clean}

ready_raised : (s : Session) (v : IndexView) (before : Space) (p : Prepared) (added : List Key) (named : IndexView) (t : Space) → IsReady s v before p added named t → IsMarked s.dataset s.dataset.shape.rows (rows_of s) v
    → IsRaised before t (most_of s.dataset (rows_of s))
ready_raised s v before p added named t r marks =
    let x = r.prepared in
    placing_laws.begun s.dataset (rows_of s) v named before x.between t s.chunks r.chunks added p.begun r.all marks x.names x.taken x.once x.begun

-- by no more than the load of its rows
pub half_raised : (old mid : Session) (p : Planned) → IsHalf old mid p → IsMarked old.dataset old.dataset.shape.rows (rows_of old) old.index → IsRaised old.places (places_of mid p) (1000 + most_of old.dataset (rows_of old))
half_raised old mid (Alone ws) h marks =
    let top = 1000 + most_of old.dataset (rows_of old) in
    subst (λ (m : Session). IsRaised old.places m.places top) (sym h.0) (raised_more old.places old.places 0 top (omega arith) (raised_none old.places old.places refl refl))
half_raised old mid (Grows p) h marks =
    let most = most_of old.dataset (rows_of old) in
    raised_more old.places mid.places most (1000 + most) (omega arith) (ready_raised old old.index old.places p.prepared p.added.items mid.index mid.places h.ready marks)
half_raised old mid (Starts p) h marks =
    let x = h.1 in
    let d = old.dataset in
    let most = most_of d (rows_of old) in
    let first = index_len (kind_of x.made) in
    let low : first ≤ 370 = index_lens (kind_of x.made) in
    let clean = mark_laws.clean d d.shape.rows (rows_of old) x.made (made_clean d.layout.address old.places p.at x.made x.first x.start.made) in
    raised_more old.places p.places (first + most) (1000 + most) (omega (arith, low))
    (raised_on old.places x.first p.places first most x.start.raised (ready_raised old x.made x.first p.prepared x.added (view_of p.index) p.places x.ready clean))
