use Rattle.std.proofs.Common.{sym, ◌∙◌, arith}
use Rattle.h5w_ohdr.proofs.Parts.{is_read, is_begun}
use Rattle.h5w_ohdr.proofs.rows.whole.Goals as goal

pub overflow_add-result : goal.overflow_add-result
overflow_add-result c =
    let h = is_read c.args.chunk.now c.in-Ok.p c.requires (sym c.prefix.ensures.exact ∙ c.in-Ok.is) in
    let end = h.1.end in
    let long = h.1.long in
    omega arith

pub overflow_add-result-in-Ok : goal.overflow_add-result-in-Ok
overflow_add-result-in-Ok c =
    let h = is_read c.args.chunk.now c.in-Ok.p c.requires (sym c.prefix.ensures.exact ∙ c.in-Ok.is) in
    let end = h.1.end in
    let long = h.1.long in
    omega arith

pub returns-in-Ok-clause-exact : goal.returns-in-Ok-clause-exact
returns-in-Ok-clause-exact c =
    let h = is_read c.args.chunk.now c.in-Ok.p c.requires (sym c.prefix.ensures.exact ∙ c.in-Ok.is) in
    h.1.end

pub returns-in-Ok-clause-inside : goal.returns-in-Ok-clause-inside
returns-in-Ok-clause-inside c =
    let h = is_read c.args.chunk.now c.in-Ok.p c.requires (sym c.prefix.ensures.exact ∙ c.in-Ok.is) in
    let end = h.1.end in
    let long = h.1.long in
    omega arith

pub returns-in-Err-clause-exact : goal.returns-in-Err-clause-exact
returns-in-Err-clause-exact c = absurd (is_begun c.args.chunk.now c.requires c.in-Err.field-0 (sym c.prefix.ensures.exact ∙ c.in-Err.is))
