use Rattle.std.proofs.Common.{rules, ℕ, ◌≤◌, length, arith}
use Rattle.h5w_several_handles.proofs.NameLemmas.{cut_next}
use Rattle.h5w_several_handles.proofs.names.+add_names.Goals as goal

pub returns-in_ok-push-in-Some : goal.returns-in_ok-push-in-Some
returns-in_ok-push-in-Some t c =
    let n = c.in-Some.len.now in
    let low : n ≤ length c.args.bytes.now = first_of (search rules, grind arith) in
    cut_next c.args.names c.push.new.self c.args.lens.now c.args.bytes.now n c.in-Some.rest.now c.front.result.now c.behind.result.now c.add_names.result c.in-Some.ensures.cases.0 low c.front.ensures c.behind.ensures c.in_ok-push-in-Some.ensures.ok c.add_names.ensures
