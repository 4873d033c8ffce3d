use Rattle.std.proofs.Common.{◌≡◌, ◌+◌, length, arith, inl, sym, ◌∙◌}
use Rattle.std.proofs.lemmas.Result.{err_from_is_err_and}
use Rattle.h5w_ohdr.proofs.Sought.{body_of}
use Rattle.h5w_ohdr.proofs.Listed.{listed_more, listed_gap, listed_overrun}
use Rattle.h5w_ohdr.proofs.walk.walk.Goals as goal

pub returns-in_err-head : goal.returns-in_err-head
returns-in_err-head c =
    let p = err_from_is_err_and c.from_residual.result c.from_residual.ensures.1 in
    let h = c.in_err-head.ensures.found in
    let refused = listed_overrun c.args.before c.args.start c.args.b.now c.loop-msgs.place c.loop-msgs.rest.now c.loop-msgs.msgs c.requires.low h.0 h.1 c.loop-msgs.invariant.listed in
    record { exact = inl (rw (p.1, p.2, h.2) (sym refused)) }

pub loop-msgs-preserved : goal.loop-msgs-preserved
loop-msgs-preserved c =
    let h = rw (c.in-Some.is) at c.in_ok-head.ensures.found in
    let body = body_of c.args.before c.in-Some.head.size c.loop-msgs.rest.now c.split_at.result.0.now c.split_at.ensures.front c.split_at.ensures.front_len in
    let len : length c.split_at.result.0.now ≡ c.args.before + c.in-Some.head.size = c.split_at.ensures.front_len in
    let data_is = c.from_vec-body.ensures ∙ c.in_ok-from_slice.ensures.items ∙ body in
    record {
      places = omega arith;
      listed = rw (c.in_ok-push.ensures.ok) (listed_more c.args.before c.args.start c.args.b.now c.loop-msgs.place c.loop-msgs.rest.now c.split_at.result.1.now (c.loop-msgs.place + length c.split_at.result.0.now)
          c.in-Some.head.kind c.in-Some.head.flags c.in-Some.head.size c.from_vec-body.result c.loop-msgs.msgs c.requires.low h c.split_at.ensures.back (omega arith) data_is c.loop-msgs.invariant.listed);
    }

pub returns : goal.returns
returns c =
    let gap = rw (c.in_default.is) at c.in_ok-head.ensures.found in
    record { exact = inl (sym (listed_gap c.args.before c.args.start c.args.b.now c.loop-msgs.place c.loop-msgs.rest.now c.loop-msgs.msgs gap c.loop-msgs.invariant.listed)) }
