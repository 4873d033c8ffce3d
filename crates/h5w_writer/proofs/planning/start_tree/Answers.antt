use Rattle.std.proofs.Common.{◌≡◌, Err, refl, arith, ◌∙◌, ap}
use Rattle.std.proofs.lemmas.Result.{err_from_is_err_and}
use Rattle.h5w_model.specs.Numbers.{undefined}
use Rattle.h5w_cache.specs.Plans.{Took}
use Rattle.h5w_space.specs.Space.{extent}
use Rattle.h5w_index.specs.Held.{view_of}
use Rattle.h5w_index.proofs.RaisedLemmas.{raised_one}
use Rattle.h5w_writer.proofs.IndexStarts.{end_small, refused_so, tree_begun}
use Rattle.h5w_writer.proofs.planning.start_tree.Goals as goal

pub new_tree-requires : goal.new_tree-requires
new_tree-requires c =
    let s = c.args.places.now in
    let t = c.take.new.self in
    let small = end_small s t 38 (raised_one s t c.in_ok-header.header 38 c.in_ok-header.ensures.taken) c.requires.small c.requires.limit in
    record { defined = λ e. absurd (omega (arith, c.in_ok-header.ensures.live.within, small, e)) }

pub returns-in_err-header-clause-full : goal.returns-in_err-header-clause-full
returns-in_err-header-clause-full c =
    let e = c.in_err-header.field-0.0 in
    let gone = err_from_is_err_and c.from_residual.result c.from_residual.ensures.1 in
    let is : c.from_residual.result ≡ Err e = gone.1 ∙ ap (λ x. Err x) gone.2 in
    rw is (refused_so c.args.places.now 38 e c.in_err-header.ensures.refused c.in_err-header.ensures.full)

pub returns-clause-started : goal.returns-clause-started
returns-clause-started c =
    let s = c.args.places.now in
    let t = c.take.new.self in
    let at = c.in_ok-header.header in
    let took : Took s t (extent at 38) = record {
      takes = c.in_ok-header.ensures.taken;
      off_live = c.in_ok-header.ensures.off_live;
      off_retired = c.in_ok-header.ensures.off_retired;
      live = c.in_ok-header.ensures.live;
      stays_live = c.in_ok-header.ensures.stays_live;
    } in
    (tree_begun undefined s t at (view_of c.new_tree.result) refl c.new_tree.ensures.tree c.new_tree.ensures.sound took c.requires.small c.requires.limit).started

pub returns-clause-kind : goal.returns-clause-kind
returns-clause-kind c =
    let s = c.args.places.now in
    let t = c.take.new.self in
    let at = c.in_ok-header.header in
    let took : Took s t (extent at 38) = record {
      takes = c.in_ok-header.ensures.taken;
      off_live = c.in_ok-header.ensures.off_live;
      off_retired = c.in_ok-header.ensures.off_retired;
      live = c.in_ok-header.ensures.live;
      stays_live = c.in_ok-header.ensures.stays_live;
    } in
    (tree_begun undefined s t at (view_of c.new_tree.result) refl c.new_tree.ensures.tree c.new_tree.ensures.sound took c.requires.small c.requires.limit).is_kind

pub returns-clause-within : goal.returns-clause-within
returns-clause-within c =
    let s = c.args.places.now in
    let t = c.take.new.self in
    let at = c.in_ok-header.header in
    let took : Took s t (extent at 38) = record {
      takes = c.in_ok-header.ensures.taken;
      off_live = c.in_ok-header.ensures.off_live;
      off_retired = c.in_ok-header.ensures.off_retired;
      live = c.in_ok-header.ensures.live;
      stays_live = c.in_ok-header.ensures.stays_live;
    } in
    (tree_begun undefined s t at (view_of c.new_tree.result) refl c.new_tree.ensures.tree c.new_tree.ensures.sound took c.requires.small c.requires.limit).within
