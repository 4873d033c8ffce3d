use Rattle.std.proofs.Common.{rules, ◌≡◌, ◌∙◌, ◌++◌, drop, length, take, get_or, suc, ◌+◌, ◌<◌, [], ◌∷◌, slice_set, Some, None, pos, ap, sym, arith}
use Rattle.std.proofs.lemmas.List.{length-append}
use Rattle.h5w_handles.specs.Copies.{front}
use Rattle.h5w_handles.proofs.CopyLemmas.{front_end, front_more, put_next}
use Rattle.h5w_handles.proofs.copying.copy.Goals as goal

pub returns-in_default-clause-copied : goal.returns-in_default-clause-copied
returns-in_default-clause-copied g c =
    let vs = c.args.values.now in
    let out = c.args.out.now in
    let k = c.loop-k.k in
    let f = g.T.Narrow.narrowed in
    let none : f (get_or vs k (pos 0)) ≡ None = search rules in
    c.loop-k.invariant.1
    ∙ ap (λ xs. xs ++ drop k out) (sym (front_end f vs k (length out) (omega (arith, c.loop-k-test.true, c.min-end.ensures)) (omega (arith, c.loop-k-test.true, c.min-end.ensures)) none c.loop-k.invariant.0))

pub returns-in_default-clause-count : goal.returns-in_default-clause-count
returns-in_default-clause-count g c =
    let vs = c.args.values.now in
    let out = c.args.out.now in
    let k = c.loop-k.k in
    let f = g.T.Narrow.narrowed in
    let none : f (get_or vs k (pos 0)) ≡ None = search rules in
    sym (ap length (front_end f vs k (length out) (omega (arith, c.loop-k-test.true, c.min-end.ensures)) (omega (arith, c.loop-k-test.true, c.min-end.ensures)) none c.loop-k.invariant.0) ∙ c.loop-k.invariant.0)

pub loop-k-preserved : goal.loop-k-preserved
loop-k-preserved g c =
    let vs = c.args.values.now in
    let out = c.args.out.now in
    let k = c.loop-k.k in
    let a = c.in-Some.number in
    let f = g.T.Narrow.narrowed in
    let xs = front f (take k vs) in
    let is : f (get_or vs k (pos 0)) ≡ Some a = search rules in
    let inside : k < length vs = omega (arith, c.loop-k-test.true, c.min-end.ensures) in
    let room : k < length out = omega (arith, c.loop-k-test.true, c.min-end.ensures) in
    let next : suc k ≡ k + 1 = omega arith in
    let more : front f (take (k + 1) vs) ≡ xs ++ a ∷ [] = ap (λ n. front f (take n vs)) (sym next) ∙ front_more f vs k a inside is c.loop-k.invariant.0 in (
      omega (arith, ap length more, length-append xs (a ∷ []), c.loop-k.invariant.0),
      ap (λ ys. slice_set ys k a) c.loop-k.invariant.1
          ∙ put_next xs out k a c.loop-k.invariant.0 room
          ∙ ap (λ n. (xs ++ a ∷ []) ++ drop n out) next
          ∙ ap (λ ys. ys ++ drop (k + 1) out) (sym more),
    )
