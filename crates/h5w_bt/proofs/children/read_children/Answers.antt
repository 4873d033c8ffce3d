use Rattle.std.proofs.Common.{◌≡◌, ◌+◌, ◌*◌, ◌++◌, ◌∷◌, [], map, sym, ap, ◌∙◌, arith}
use Rattle.std.proofs.lemmas.List.{map-append}
use Rattle.h5w_model.specs.Trees.{ChildFields, children_in, pointer_size}
use Rattle.h5w_bt.specs.Parts.{child_of, child_in}
use Rattle.h5w_bt.proofs.Reading.{children_in-more}
use Rattle.h5w_bt.proofs.Writing.{room}
use Rattle.h5w_bt.proofs.children.read_children.Goals as goal

pub loop-i-preserved : goal.loop-i-preserved
loop-i-preserved c =
    let b = c.args.b.now in
    let i = c.loop-i.i in
    let from = c.args.from in
    let depth = c.args.depth in
    let place : from + i * c.pointer_size-width.result ≡ from + i * pointer_size c.args.depth = ap (λ k. from + i * k) c.pointer_size-width.ensures.exact in
    ap (map child_of) c.in_ok-push.ensures.items
    ∙ map-append child_of c.loop-i.children.items (c.read.result ∷ [])
    ∙ ap (λ l. l ++ child_of c.read.result ∷ []) c.loop-i.invariant
    ∙ ap (λ (v : ChildFields). children_in b depth i from ++ v ∷ []) (c.read.ensures ∙ ap (child_in b depth) place)
    ∙ sym (children_in-more b depth i from)

pub read-requires-clause-inside : goal.read-requires-clause-inside
read-requires-clause-inside c =
    let i = c.loop-i.i in
    let low : i * c.pointer_size-width.result ≡ i * pointer_size c.args.depth = ap (λ k. i * k) c.pointer_size-width.ensures.exact in
    omega (arith, c.requires.inside, low, room i c.args.n (pointer_size c.args.depth) c.loop-i-test.true)
