use Rattle.std.proofs.Common.{◌∙◌, ◌++◌, ◌-◌, ℕ, List, length, take, drop, get_or, ap, arith}
use Rattle.std.proofs.lemmas.List.{length-drop, take_all}
use Rattle.h5w_lookup.proofs.UnknownLemmas.{put_few, put_all}
use Rattle.h5w_lookup.proofs.learning.joined.Goals as goal

pub returns-then-found-absent : goal.returns-then-found-absent
returns-then-found-absent c =
    let absent = c.args.absent.now in
    let found = c.args.found.now in
    c.truncate.ensures.items
    ∙ ap (take (get_or absent (length found) 0)) c.put_at-table.ensures.items
    ∙ put_few c.args.table.items absent found c.requires.listed c.if-found-absent.true

pub returns : goal.returns
returns c =
    let absent = c.args.absent.now in
    let found = c.args.found.now in
    let rest = length-drop (length absent) found in
    c.in-Ok.ensures.items
    ∙ ap (λ (xs : List ℕ). c.put_at-table.result.items ++ xs) (take_all (length found - length absent) (drop (length absent) found) (omega (arith, rest)))
    ∙ ap (λ (xs : List ℕ). xs ++ drop (length absent) found) c.put_at-table.ensures.items
    ∙ put_all c.args.table.items absent found c.requires.listed c.if-found-absent.false
