use Rattle.std.proofs.Common.{◌++◌, ℕ, List, ap, ◌∙◌}
use Rattle.std.specs.Prelude.{codes, flat_map}
use Rattle.h5w_text.specs.Replies.{spaced}
use Rattle.h5w_check.specs.Verdicts.{summary_of}
use Rattle.h5w_files.proofs.CheckLemmas.{valid_parts}
use Rattle.h5w_files.proofs.checking.write_valid.Goals as goal

pub returns : goal.returns
returns c =
    valid_parts c.write_numbers.result c.args.out.now.items c.write_words.new.out.items c.write_words-2.new.out.items c.write_words-3.new.out.items c.write_words-4.new.out.items c.write_numbers.new.out.items (summary_of c.args.s.now)
    (c.in_ok-write_words.ensures ∙ ap (λ (rows : List ℕ). c.args.out.now.items ++ (codes "valid rows" ++ flat_map spaced rows)) c.deref.ensures.value) c.in_ok-write_words-2.ensures c.in_ok-write_words-3.ensures c.in_ok-write_words-4.ensures
    c.write_numbers.ensures
