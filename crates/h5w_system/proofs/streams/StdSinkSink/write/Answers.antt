use Rattle.std.proofs.Common.{◌≡◌, ℕ, List, ◌++◌, Option, Result, Ok, Err, length, take, drop, sym, ap, ◌∙◌, subst, append_assoc, take-append-drop}
use Rattle.std.proofs.Math.Seq.{take-append_seam}
use Rattle.std.proofs.lemmas.List.{take_rest}
use Rattle.std.specs.Io.KnownBytes.{Appends, WriteAppends}
use Rattle.std.proofs.KnownBytes.{Appends-kept, Appends-trans}
use Rattle.h5w_system.proofs.streams.StdSinkSink.write.Goals as goal

moves_front : (all done rest : List ℕ) (n : ℕ) → all ≡ done ++ rest → all ≡ (done ++ take n rest) ++ drop n rest
moves_front all done rest n split = split ∙ ap (λ l. done ++ l) (sym (take-append-drop n rest)) ∙ sym (append_assoc done (take n rest) (drop n rest))

cut : (all front more : List ℕ) → all ≡ front ++ more → take (length front) all ≡ front
cut all front more split = ap (take (length front)) split ∙ take-append_seam front more

-- where a write is the last, some first part was written
stops : {E : Type 0} (a b c : Option (List ℕ)) (all done rest : List ℕ) (r : Result ℕ E) → all ≡ done ++ rest → Appends a b done → WriteAppends b c r rest → (n : ℕ) × Appends a c (take n all)
stops a b c all done rest (Ok n) split before now =
    let front = done ++ take n rest in
    (length front, subst (Appends a c) (sym (cut all front (drop n rest) (moves_front all done rest n split))) (Appends-trans a b c done (take n rest) before now))
stops a b c all done rest (Err e) split before now = (length done, subst (Appends a c) (sym (cut all done rest split)) (Appends-kept a b c done before now))

pub loop-rest-preserved : goal.loop-rest-preserved
loop-rest-preserved g c =
    let (done, split, appended, same) = c.loop-rest.invariant in
    let rest = c.loop-rest.rest.now in
    let n = c.in-Ok.count in
    (done ++ take n rest, moves_front _ done rest n split ∙ ap (λ l. (done ++ take n rest) ++ l) (sym (take_rest rest n)), Appends-trans _ _ _ _ _ appended c.in-Ok.ensures.bytes, same)

pub returns-in_default-clause-some : goal.returns-in_default-clause-some
returns-in_default-clause-some g c =
    let (done, split, appended, same) = c.loop-rest.invariant in
    stops _ _ _ _ done c.loop-rest.rest.now c.write.result split appended c.write.ensures.bytes
