use Rattle.std.proofs.Common.{◌++◌, ◌∷◌, [], ◌∙◌, List, ap}
use Rattle.h5w_model.specs.declared.piece.Write.{Write}
use Rattle.h5w_packing.proofs.gathering.gather.Goals as goal

pub returns-clause-writes : goal.returns-clause-writes
returns-clause-writes c =
    let s = c.args.so_far.now in
    let headers = c.in_ok-push.ensures.items ∙ (λ i. c.in_ok-put_root.ensures i ++ c.superblock_write.ensures i ∷ []) in
    c.in_ok-append-2.ensures.items
    ∙ ap (λ (l : List Write). s.copies.items ++ l) (c.in_ok-append.ensures.items ∙ ap (λ (l : List Write). s.tops.items ++ l) headers)
