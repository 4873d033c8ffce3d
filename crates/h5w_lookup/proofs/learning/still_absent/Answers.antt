use Rattle.std.proofs.Common.{◌≡◌, ◌∙◌, ◌<◌, ℕ, List, suc, ◌+◌, take, length, get_or, ap, sym, arith}
use Rattle.h5w_model.specs.Calls.{known_table}
use Rattle.h5w_model.specs.Tables.{needed}
use Rattle.h5w_model.specs.Numbers.{undefined}
use Rattle.h5w_lookup.specs.Attempts.{known_of}
use Rattle.h5w_dataset.specs.Described.{described_of}
use Rattle.h5w_lookup.specs.Unknown.{absent_from, needed_with}
use Rattle.h5w_lookup.proofs.UnknownLemmas.{absent_known, absent_there, absent_past, absent_push}
use Rattle.h5w_lookup.proofs.learning.still_absent.Goals as goal
use Rattle.h5w_lookup.proofs.learning.still_absent.Goals.{then-address_at+then-number-needed+in_ok-push, then-address_at+else-number-needed, else-address_at}

pub loop-n-init : goal.loop-n-init
loop-n-init c =
    let d = described_of c.args.news.now.dataset in
    c.new-absent.ensures.items ∙ sym (absent_known (known_table (known_of c.args.known.now) d) 0 (needed d))

pub loop-n-preserved : goal.loop-n-preserved
loop-n-preserved c =
    let d = described_of c.args.news.now.dataset in
    let t = known_table (known_of c.args.known.now) d in
    let found = c.args.news.now.found.items in
    let n = c.loop-n.n in
    let m = needed d in
    let less : n < length found = omega (arith, c.loop-n-test.true, c.len-n-end.ensures, c.args.news.now.found.ok.0) in
    let end : suc n ≡ n + 1 = omega arith in
    let at : get_or found n undefined ≡ c.address_at.result = sym (c.address_at.ensures ∙ ap (λ (xs : List ℕ). get_or xs n undefined) c.deref.ensures.value) in
    let step : c.if-address_at.absent.items ≡ absent_from 0 (needed_with t d (take (suc n) found)) = elim c.if-address_at.branch [
      | then-address_at+then-number-needed+in_ok-push w ↦ ap (λ (v : _). v.items) w.absent-is ∙ w.in_ok-push.ensures.items
          ∙ absent_push t found c.loop-n.absent.items m n w.unknown-number.result less w.unknown-number.ensures (omega (arith, w.if-number-needed.true, c.needed-needed.ensures)) (at ∙ w.if-address_at.true) c.loop-n.invariant
      | then-address_at+else-number-needed w ↦ ap (λ (v : _). v.items) w.absent-is
          ∙ absent_past t found c.loop-n.absent.items m n less (omega (arith, w.if-number-needed.false, c.needed-needed.ensures, w.unknown-number.ensures)) c.loop-n.invariant
      | else-address_at w ↦ ap (λ (v : _). v.items) w.absent-is
          ∙ absent_there t found c.loop-n.absent.items m n less (λ z. w.if-address_at.false (sym at ∙ z)) c.loop-n.invariant
    ] in
    step ∙ ap (λ k. absent_from 0 (needed_with t d (take k found))) end
