use Rattle.std.proofs.Common.{◌≡◌, Err, Option, IfSome, sym, ap, subst, rules}
use Rattle.h5w_image.proofs.ViewLemmas.{looked_itself, looked_twice}
use Rattle.h5w_looks.proofs.ReadLemmas.{still_on}
use Rattle.h5w_model.specs.Numbers.{range}
use Rattle.h5w_model.specs.Trees.{bthd_at, bthd_len}
use Rattle.h5w_bt.specs.Fields.{bthd_of}
use Rattle.h5w_bt_index.specs.Held.{view_of}
use Rattle.h5w_bt_index.specs.Index.{Index, index_of}
use Rattle.h5w_bt_index.specs.Marks.{clean_of}
use Rattle.h5w_bt_open.specs.declared.span.Span.{Span}
use Rattle.h5w_bt_open.specs.Spans.{IsKey, IsProper, Leads}
use Rattle.h5w_bt_open.specs.Opened.{IsOpened, IsRefused, IsStanding, from_key, looked_in, looked_up, root_pointer, told_under}
use Rattle.h5w_bt_open.proofs.CallLemmas.{loads_within, looks_alone}
use Rattle.h5w_bt_open.proofs.TreeLemmas.{root_refused, stands_empty, stands_root, top_refused}
use Rattle.h5w_bt_open.proofs.tree.open.Goals as goal

pub returns-in_err-found-clause-loads : goal.returns-in_err-found-clause-loads
returns-in_err-found-clause-loads g c =
    let fits : IsKey c.args.first = (subst (λ (o : Option Span). IfSome o IsProper) c.keys_from-keys.ensures.exact c.keys_from-keys.ensures.proper).fits in
    let is : c.from_residual.result ≡ Err c.in_err-found.field-0.0 = search rules in
    rw is (loads_within (λ img a f. (a ≡ c.args.header) × (bthd_at (range img c.args.header bthd_len) c.args.header ≡ Err f)) (λ img a f. IsRefused (looked_in img c.args.header) (Leads (from_key c.args.first)) a f) c.in_err-found.field-0.0
    (looked_itself (g.I.PieceRead.view c.args.image.now)) (λ img still a f h. top_refused img c.args.header c.args.first a f fits h) c.in_err-found.ensures.loads)

pub returns-then-found-clause-clean : goal.returns-then-found-clause-clean
returns-then-found-clause-clean g c = ap (λ (v : Index). clean_of v.depth v.root) c.new.ensures.tree

pub returns-then-found-clause-opened : goal.returns-then-found-clause-opened
returns-then-found-clause-opened g c = λ img still.
    stands_empty img c.args.header c.args.first (bthd_of c.in_ok-found.found) (view_of c.new.result) (c.in_ok-found.ensures.stands img still) c.if-found.true c.new.ensures.tree

pub returns-in-Err-clause-loads : goal.returns-in-Err-clause-loads
returns-in-Err-clause-loads g c =
    loads_within (λ img a f. IsRefused (looked_up img c.in_ok-found.found.depth (root_pointer (bthd_of c.in_ok-found.found) c.in_ok-found.found.total)) (Leads c.keys_from-keys.result) a f) (λ img a f. IsRefused (looked_in img c.args.header) (Leads (from_key c.args.first)) a f)
    c.in-Err.error c.in_ok-found.ensures.loads.looked
    (λ img still a f h. root_refused img c.args.header c.args.first (bthd_of c.in_ok-found.found) a f (c.in_ok-found.ensures.stands img still) (λ u. c.if-found.false u)
    (subst (λ (o : Option Span). IsRefused (looked_up img c.in_ok-found.found.depth (root_pointer (bthd_of c.in_ok-found.found) c.in_ok-found.found.total)) (Leads o) a f) c.keys_from-keys.ensures.exact h)) c.in-Err.ensures.loads

pub returns-in-Ok-clause-loads : goal.returns-in-Ok-clause-loads
returns-in-Ok-clause-loads g c = looks_alone (λ img a f. IsRefused (looked_in img c.args.header) (Leads (from_key c.args.first)) a f) _ (looked_twice c.in_ok-found.ensures.loads.looked c.root_at.ensures.loads.looked)

pub returns-in-Ok-clause-opened : goal.returns-in-Ok-clause-opened
returns-in-Ok-clause-opened g c = λ img still.
    let r = index_of c.in-Ok.root in
    subst (λ (v : Index). IsStanding img c.args.header c.args.first v) (sym c.standing.ensures.tree)
    (stands_root img c.args.header c.args.first (bthd_of c.in_ok-found.found) r (c.in_ok-found.ensures.stands img still) (λ u. c.if-found.false u) c.in-Ok.ensures.depth
    (subst (λ (o : Option Span). IsOpened img (index_of c.in-Ok.root).depth (root_pointer (bthd_of c.in_ok-found.found) (told_under (index_of c.in-Ok.root).depth (index_of c.in-Ok.root).root)) o (index_of c.in-Ok.root).root) c.keys_from-keys.ensures.exact (c.in-Ok.ensures.opened img (still_on img c.in_ok-found.ensures.loads.looked still))))
