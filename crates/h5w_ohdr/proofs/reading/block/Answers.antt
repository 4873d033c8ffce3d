use Rattle.std.proofs.Common.{sym, ◌∙◌, ap, inl, length}
use Rattle.std.proofs.lemmas.Result.{err_from_is_err_and}
use Rattle.h5w_model.specs.Headers.{msgs_in, block_at, and_then, all_known}
use Rattle.h5w_ohdr.proofs.Read.{gives_by, refused_block, block_by}
use Rattle.h5w_ohdr.proofs.reading.block.Goals as goal

pub returns-in_err-whole_block : goal.returns-in_err-whole_block
returns-in_err-whole_block c =
    let p = err_from_is_err_and c.from_residual.result c.from_residual.ensures.1 in
    record { exact = inl (rw (p.1, p.2) (sym (refused_block c.args.tracked c.args.bytes.now c.in_err-whole_block.field-0.0 (sym c.whole_block.ensures.exact ∙ c.in_err-whole_block.was)))) }

pub returns-in_err-walk : goal.returns-in_err-walk
returns-in_err-walk c =
    let p = err_from_is_err_and c.from_residual-in_err-walk.result c.from_residual-in_err-walk.ensures.1 in
    let whole = block_by c.args.tracked c.args.bytes.now c.inside_block-inside.result.now c.before_data.result (sym c.whole_block.ensures.exact ∙ c.in_ok-whole_block.was)
    c.inside_block-inside.ensures.bytes c.inside_block-inside.ensures.length c.before_data.ensures.exact in
    record {
      exact = gives_by c.walk.result (msgs_in (length c.inside_block-inside.result.now) c.before_data.result 4 c.inside_block-inside.result.now) (block_at c.args.tracked c.args.bytes.now) c.from_residual-in_err-walk.result c.walk.ensures.exact
          (rw (p.1, p.2) (ap (λ r. and_then r all_known) c.in_err-walk.was)) whole;
    }

pub returns : goal.returns
returns c =
    let whole = block_by c.args.tracked c.args.bytes.now c.inside_block-inside.result.now c.before_data.result (sym c.whole_block.ensures.exact ∙ c.in_ok-whole_block.was)
    c.inside_block-inside.ensures.bytes c.inside_block-inside.ensures.length c.before_data.ensures.exact in
    record {
      exact = gives_by c.walk.result (msgs_in (length c.inside_block-inside.result.now) c.before_data.result 4 c.inside_block-inside.result.now) (block_at c.args.tracked c.args.bytes.now) c.all_known.result c.walk.ensures.exact
          (ap (λ r. and_then r all_known) c.in_ok-walk.was ∙ sym c.all_known.ensures) whole;
    }
