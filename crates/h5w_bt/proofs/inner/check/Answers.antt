use Rattle.std.proofs.Common.{◌≡◌, ◌+◌, ◌*◌, sym, ap}
use Rattle.std.proofs.lemmas.Result.{err_from_is_err_and}
use Rattle.h5w_model.specs.Trees.{btin_len}
use Rattle.h5w_bt.proofs.Refusals.{inner-block, inner-node, inner-counts}
use Rattle.h5w_bt.proofs.inner.check.Goals as goal

pub returns-in_err-check_block : goal.returns-in_err-check_block
returns-in_err-check_block c =
    let p = err_from_is_err_and c.from_residual.result c.from_residual.ensures.1 in
    let n = c.args.n in
    let len : 10 + 24 * n + (n + 1) * c.pointer_size.result ≡ btin_len c.args.n c.args.depth = ap (λ w. 10 + 24 * n + (n + 1) * w) c.pointer_size.ensures.exact in
    record { exact = rw (p.1, p.2) (sym (inner-block c.args.b.now c.args.at n c.args.depth _ c.in_err-check_block.field-0.0 len c.in_err-check_block.ensures.exact)) }

pub returns-in_err-check_node : goal.returns-in_err-check_node
returns-in_err-check_node c =
    let p = err_from_is_err_and c.from_residual-in_err-check_node.result c.from_residual-in_err-check_node.ensures.1 in
    let n = c.args.n in
    let len : 10 + 24 * n + (n + 1) * c.pointer_size.result ≡ btin_len c.args.n c.args.depth = ap (λ w. 10 + 24 * n + (n + 1) * w) c.pointer_size.ensures.exact in
    record { exact = rw (p.1, p.2) (sym (inner-node c.args.b.now c.args.at n c.args.depth _ c.in_err-check_node.field-0.0 _ len c.in_ok-check_block.ensures.exact c.in_err-check_node.ensures.exact)) }

pub returns : goal.returns
returns c =
    let n = c.args.n in
    let len : 10 + 24 * n + (n + 1) * c.pointer_size.result ≡ btin_len c.args.n c.args.depth = ap (λ w. 10 + 24 * n + (n + 1) * w) c.pointer_size.ensures.exact in
    record { exact = inner-counts c.args.b.now c.args.at n c.args.depth _ c.check_counts.result _ _ len c.in_ok-check_block.ensures.exact c.in_ok-check_node.ensures.exact c.check_counts.ensures.exact }
