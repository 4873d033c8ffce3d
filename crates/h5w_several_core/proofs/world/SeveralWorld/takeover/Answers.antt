use Rattle.std.proofs.Common.{◌∙◌, sym}
use Rattle.h5w_several_core.proofs.TakeLemmas.{may_take, taken_holds, taken_polls_of, taken_steps_of}
use Rattle.h5w_several_core.proofs.world.SeveralWorld.takeover.Goals as goal

pub taken-requires-clause-names : goal.taken-requires-clause-names
taken-requires-clause-names c =
    let i = c.self.inside in
    let k = c.self.invariant in
    (may_take i.session i.image i.attempts i.places.items k.0 c.limit-limit.result c.budget-budget.result c.in_ok-names.names k.1 c.limit-limit.ensures c.budget-budget.ensures c.in_ok-names.ensures.sessions c.in_ok-names.ensures.names).short

pub taken-requires-clause-budget : goal.taken-requires-clause-budget
taken-requires-clause-budget c =
    let i = c.self.inside in
    let k = c.self.invariant in
    (may_take i.session i.image i.attempts i.places.items k.0 c.limit-limit.result c.budget-budget.result c.in_ok-names.names k.1 c.limit-limit.ensures c.budget-budget.ensures c.in_ok-names.ensures.sessions c.in_ok-names.ensures.names).budgets

pub taken-requires-clause-unrefused : goal.taken-requires-clause-unrefused
taken-requires-clause-unrefused c =
    let i = c.self.inside in
    let k = c.self.invariant in
    (may_take i.session i.image i.attempts i.places.items k.0 c.limit-limit.result c.budget-budget.result c.in_ok-names.names k.1 c.limit-limit.ensures c.budget-budget.ensures c.in_ok-names.ensures.sessions c.in_ok-names.ensures.names).unrefused

pub invariant_of-self-2 : goal.invariant_of-self-2
invariant_of-self-2 c =
    let i = c.self.inside in
    let k = c.self.invariant in
    let s = c.in_ok-session in
    taken_holds i.session i.image i.attempts i.places.items c.args.self.now c.self.view_is k.0 (sym c.is_stopped.ensures ∙ c.if-not-is_stopped.false) k.1 c.limit-limit.result c.budget-budget.result c.limit-limit.ensures c.budget-budget.ensures c.in_ok-names.names c.in_ok-names.ensures.names s.session c.taken.new.image s.ensures.same s.ensures.taken s.ensures.begun

pub returns-clause-steps : goal.returns-clause-steps
returns-clause-steps c =
    let i = c.self.inside in
    let k = c.self.invariant in
    let s = c.in_ok-session in
    taken_steps_of i.session i.image i.attempts i.places.items c.args.self.now c.self.view_is k.0 (sym c.is_stopped.ensures ∙ c.if-not-is_stopped.false) k.1 c.limit-limit.result c.budget-budget.result c.limit-limit.ensures c.budget-budget.ensures c.in_ok-names.names c.in_ok-names.ensures.names s.session c.taken.new.image s.ensures.same s.ensures.taken s.ensures.begun
    c.committed-rows.result c.committed-rows.ensures

pub returns-clause-polls : goal.returns-clause-polls
returns-clause-polls c =
    let i = c.self.inside in
    let k = c.self.invariant in
    let s = c.in_ok-session in
    taken_polls_of i.session i.image i.attempts i.places.items c.args.self.now c.self.view_is k.0 (sym c.is_stopped.ensures ∙ c.if-not-is_stopped.false) k.1 c.limit-limit.result c.budget-budget.result c.limit-limit.ensures c.budget-budget.ensures c.in_ok-names.names c.in_ok-names.ensures.names s.session c.taken.new.image s.ensures.same s.ensures.taken s.ensures.begun
