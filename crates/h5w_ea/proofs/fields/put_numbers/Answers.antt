use Rattle.std.proofs.Common.{◌≡◌, ◌+◌, ◌*◌, ◌++◌, sym, ap, ◌∙◌, take, drop, length, length-append, append_assoc, get_or, arith}
use Rattle.std.proofs.lemmas.List.{append-nil, take-append-drop, take_more, length-take-le}
use Rattle.h5w_model.specs.Numbers.{le}
use Rattle.h5w_model.specs.Arrays.{number_bytes}
use Rattle.h5w_model.proofs.ArrayLemmas.{number_bytes-nil, number_bytes-push, length-number_bytes}
use Rattle.h5w_model.proofs.PutLemmas.{put-next}
use Rattle.h5w_ea.proofs.fields.put_numbers.Goals as goal

pub loop-i-init : goal.loop-i-init
loop-i-init c =
    let old = c.args.out.now in
    let at = c.args.at in
    sym (ap (λ l. (take at old ++ l) ++ drop (at + 0) old) number_bytes-nil
    ∙ ap (λ l. l ++ drop (at + 0) old) (append-nil (take at old))
    ∙ ap (λ n. take at old ++ drop n old) (let e : at + 0 ≡ at = omega arith in e)
    ∙ take-append-drop at old)

pub loop-i-preserved : goal.loop-i-preserved
loop-i-preserved c =
    let old = c.args.out.now in
    let at = c.args.at in
    let i = c.loop-i.i in
    let numbers = c.args.numbers.now in
    let x = get_or numbers i 0 in
    let front = take at old ++ number_bytes (take i numbers) in
    let count : length (take at old ++ number_bytes (take i numbers)) ≡ at + 8 * i = omega (arith, length-append (take at old) (number_bytes (take i numbers)), length-number_bytes (take i numbers), length-take-le at old (omega arith), length-take-le i numbers (omega arith)) in
    let k : at + 8 * i + 8 ≡ at + 8 * (i + 1) = omega arith in
    c.put.ensures.written
    ∙ put-next old c.loop-i.out front (le 8 x) (at + 8 * i) 8 c.loop-i.invariant count
    ∙ ap (λ l. l ++ drop (at + 8 * i + 8) old) (append_assoc (take at old) (number_bytes (take i numbers)) (le 8 x) ∙ ap (λ l. take at old ++ l) (sym (number_bytes-push (take i numbers) x) ∙ ap number_bytes (sym (take_more numbers i 0 c.loop-i-test.true))))
    ∙ ap (λ n. (take at old ++ number_bytes (take (i + 1) numbers)) ++ drop n old) k
