use Rattle.std.proofs.Common.{◌≡◌, ◌+◌, ℕ, List, length, arith, ap, sym}
use Rattle.std.specs.Option.{option_map}
use Rattle.h5w_ohdr.proofs.Sought.{sought_more, sought_found, sought_none, sought_overrun, body_of}
use Rattle.h5w_ohdr.proofs.walk.first.Goals as goal

pub returns-in_err-head-clause-found : goal.returns-in_err-head-clause-found
returns-in_err-head-clause-found c ms e =
    let h = c.in_err-head.ensures.found in
    absurd (sought_overrun c.args.before c.args.start c.args.kind c.args.b.now c.loop-head.place c.loop-head.rest.now c.requires.low h.0 h.1 c.loop-head.invariant.sought ms e)

pub returns-then-head-kind-clause-found : goal.returns-then-head-kind-clause-found
returns-then-head-kind-clause-found c ms e =
    let h = rw (c.in-Some.is) at c.in_ok-head.ensures.found in
    let found = sought_found c.args.before c.args.start c.args.kind c.args.b.now c.loop-head.place c.loop-head.rest.now c.in-Some.head.kind c.in-Some.head.flags c.in-Some.head.size c.requires.low h c.if-head-kind.true c.loop-head.invariant.sought ms e in
    let body = body_of c.args.before c.in-Some.head.size c.loop-head.rest.now c.split_at.result.0.now c.split_at.ensures.front c.split_at.ensures.front_len in
    let is = ap (option_map {U = ℕ × List ℕ} (λ m. (m.at + c.args.before, m.body))) found in
    rw (body, h.size_is) (sym is)

pub loop-head-preserved : goal.loop-head-preserved
loop-head-preserved c =
    let h = rw (c.in-Some.is) at c.in_ok-head.ensures.found in
    let len : length c.split_at.result.0.now ≡ c.args.before + c.in-Some.head.size = c.split_at.ensures.front_len in
    record {
      places = omega arith;
      sought = sought_more c.args.before c.args.start c.args.kind c.args.b.now c.loop-head.place c.loop-head.rest.now c.split_at.result.1.now (c.loop-head.place + length c.split_at.result.0.now) c.in-Some.head.kind c.in-Some.head.flags c.in-Some.head.size
          c.requires.low h c.if-head-kind.false c.split_at.ensures.back (omega arith) c.loop-head.invariant.sought;
    }

pub returns-clause-found : goal.returns-clause-found
returns-clause-found c ms e =
    let gap = rw (c.in_default.is) at c.in_ok-head.ensures.found in
    let none = sought_none c.args.before c.args.start c.args.kind c.args.b.now c.loop-head.place c.loop-head.rest.now gap c.loop-head.invariant.sought ms e in
    sym (ap (option_map {U = ℕ × List ℕ} (λ m. (m.at + c.args.before, m.body))) none)
