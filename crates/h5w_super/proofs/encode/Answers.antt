use Rattle.std.proofs.Common.{◌∙◌, ap, rules}
use Rattle.h5w_model.specs.Superblock.{super_at}
use Rattle.h5w_model.proofs.SuperLemmas.{super_at-super_bytes}
use Rattle.h5w_super.proofs.Spelling.{front, spelled}
use Rattle.h5w_super.proofs.encode.Goals as goal

pub returns-clause-spelled : goal.returns-clause-spelled
returns-clause-spelled c =
    spelled c.args.s.now _ c.put.new.b c.put-2.new.b c.put-3.new.b c.put-4.new.b c.seal.new.b
    (front c.args.s.now c.copy_from_slice.new.self c.copy_from_slice-2.new.self c.copy_from_slice.ensures.after c.copy_from_slice-2.ensures.after)
    c.put.ensures.written c.put-2.ensures.written c.put-3.ensures.written c.put-4.ensures.written c.seal.ensures

pub returns-clause-reads_back : goal.returns-clause-reads_back
returns-clause-reads_back c =
    ap super_at (returns-clause-spelled c) ∙ super_at-super_bytes c.args.s.now c.requires (search rules) (search rules)
