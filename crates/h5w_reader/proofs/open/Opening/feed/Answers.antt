use Rattle.std.proofs.Common.{◌≡◌, ◌∙◌, sym, length}
use Rattle.h5w_model.specs.Datasets.{super_of}
use Rattle.h5w_reader.specs.Walking.{chunk_0_rest}
use Rattle.h5w_reader.specs.Opening.{super_rest}
use Rattle.h5w_lookup.proofs.GatherLemmas.{fed_more, fed_whole, fits_gather}
use Rattle.h5w_reader.proofs.OpenLemmas.{super_ok, super_err, opened_walked}
use Rattle.h5w_reader.proofs.open.Opening.feed.Goals as goal
use Rattle.h5w_reader.proofs.open.Opening.feed.Goals.{in-Ok, in-Err}

pub feed-requires : goal.feed-requires
feed-requires c = fits_gather c.in-Super.gather super_rest (length c.args.piece.now) (rw c.in-Super.is at c.requires)

pub feed-requires-in-Rest : goal.feed-requires-in-Rest
feed-requires-in-Rest c = fits_gather c.in-Rest.gather (chunk_0_rest c.in-Rest.gather.start c.in-Rest.p) (length c.args.piece.now) (rw c.in-Rest.is at c.requires)

pub returns-in-Looks : goal.returns-in-Looks
returns-in-Looks c =
    let e = rw c.in-Looks.is at c.in_ok-gather-in-Super.ensures in
    rw c.in-Super.is (fed_more c.in-Super.gather c.in-Looks.gather c.args.piece.now super_rest e.left)

pub returns-after-read_super : goal.returns-after-read_super
returns-after-read_super c =
    let e = rw c.in-Done.is at c.in_ok-gather-in-Super.ensures in
    let whole = fed_whole c.in-Super.gather c.in-Done.bytes.items c.args.piece.now super_rest e.left in
    let exact : c.read_super.result ≡ super_of c.in-Done.bytes.items = rw (← c.deref.ensures.value) c.read_super.ensures.exact in
    rw c.in-Super.is (elim c.match-read_super.branch [
      | in-Ok w ↦ rw w.result-is (sym (super_ok c.in-Done.bytes.items w.in-Ok.s (sym exact ∙ w.in-Ok.is)) ∙ whole)
      | in-Err w ↦ rw w.result-is (sym (super_err c.in-Done.bytes.items w.in-Err.error (sym exact ∙ w.in-Err.is)) ∙ whole)
    ])

pub returns-in-Looks-2 : goal.returns-in-Looks-2
returns-in-Looks-2 c =
    let e = rw c.in-Looks-2.is at c.in_ok-gather-in-Rest.ensures in
    rw (c.in-Rest.is, e.start) (fed_more c.in-Rest.gather c.in-Looks-2.gather c.args.piece.now (chunk_0_rest c.in-Rest.gather.start c.in-Rest.p) e.left)

pub returns-in_ok-walked-in-Done-2 : goal.returns-in_ok-walked-in-Done-2
returns-in_ok-walked-in-Done-2 c =
    let e = rw c.in-Done-2.is at c.in_ok-gather-in-Rest.ensures in
    let whole = fed_whole c.in-Rest.gather c.in-Done-2.bytes.items c.args.piece.now (chunk_0_rest c.in-Rest.gather.start c.in-Rest.p) e.left in
    rw c.in-Rest.is (opened_walked c.in_ok-walked-in-Done-2.walked c.map_looks.result c.map_looks.ensures ∙ c.in_ok-walked-in-Done-2.ensures ∙ rw (c.start-place.ensures, c.deref-in-Done-2.ensures.value) whole)
