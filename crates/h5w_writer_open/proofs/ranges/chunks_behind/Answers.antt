use Rattle.std.proofs.Common.{◌≡◌, ◌<◌, ◌++◌, ◌∷◌, [], List, get_or, length, sym, ap, ◌∙◌, rules, take}
use Rattle.std.proofs.lemmas.List.{take_more}
use Rattle.h5w_space.specs.Space.{extent}
use Rattle.h5w_space.specs.declared.Extent.{Extent}
use Rattle.h5w_bt.specs.declared.records.Record.{Record}
use Rattle.h5w_writer_open.specs.OpenRanges.{chunks_behind}
use Rattle.h5w_writer_open.proofs.OpenRangeLemmas.{behind_absent, behind_early, behind_more, behind_one, behind_there}
use Rattle.h5w_writer_open.proofs.ranges.chunks_behind.Goals as goal
use Rattle.h5w_writer_open.proofs.ranges.chunks_behind.Goals.{then-r-line+then-r+in_ok-push, else-r-line, else-r-line-via-then-r-line+else-r, else-r-line-via-else-r-line}

pub loop-r-preserved : goal.loop-r-preserved
loop-r-preserved c =
    let a = c.args in
    let rs : List Record = a.records.now in
    let i = c.loop-r.r-index in
    let inside : i < length rs = c.loop-r-test.true in
    let none : Record = record { address = 0; key = record { i = 0; j = 0 } } in
    let r : Record = get_or rs i none in
    let before : List Extent = c.loop-r.chunks.items in
    let added : c.if-r-line.chunks.items ≡ before ++ behind_one a.len a.line r = elim c.if-r-line.branch [
      | then-r-line+then-r+in_ok-push w ↦
          let items : c.if-r-line.chunks.items ≡ before ++ extent r.address a.len ∷ [] = search rules in
          items ∙ ap (λ (es : List Extent). before ++ es) (sym (behind_there a.len a.line r w.if-r-line.true w.if-r.true))
      | else-r-line w ↦
          let items : c.if-r-line.chunks.items ≡ before ++ [] = search rules in
          items ∙ ap (λ (es : List Extent). before ++ es) (sym (elim w.else-r-line.branch [
            | else-r-line-via-then-r-line+else-r w' ↦ behind_absent a.len a.line r w'.if-r.false
            | else-r-line-via-else-r-line w' ↦ behind_early a.len a.line r w'.if-r-line.false
          ]))
    ] in
    added
    ∙ ap (λ (es : List Extent). es ++ behind_one a.len a.line r) c.loop-r.invariant
    ∙ sym (behind_more a.len a.line (take i rs) r)
    ∙ ap (chunks_behind a.len a.line) (sym (take_more rs i none inside))
