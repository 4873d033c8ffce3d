use Rattle.std.proofs.Common.{◌≡◌, ◌+◌, ◌++◌, ◌∷◌, [], ◌∙◌, List, ap, sym, append_assoc}
use Rattle.h5w_model.specs.declared.cell.IndexKind.{IndexKind}
use Rattle.h5w_model.specs.declared.piece.Write.{Write}
use Rattle.h5w_model.specs.Arrays.{eaib_bytes}
use Rattle.h5w_creation_laws.specs.CreatedFiles.{empty_index_block}
use Rattle.h5w_creation.specs.Made.{index_writes}
use Rattle.h5w_several_creation.proofs.index.put_index.Goals as goal

pub returns-in_ok-push-in-Array-2 : goal.returns-in_ok-push-in-Array-2
returns-in_ok-push-in-Array-2 c =
    let old = c.args.writes.now.items in
    let block : Write = c.index_block.result in
    let head : Write = c.array_header.result in
    let first = c.in_ok-push-in-Array.ensures.items in
    let second = c.in_ok-push-in-Array-2.ensures.items in
    let both : c.push-in-Array.new.self.items ≡ old ++ block ∷ head ∷ [] = second ∙ ap (λ (l : List Write). l ++ head ∷ []) first ∙ append_assoc old (block ∷ []) (head ∷ []) in
    both ∙ ap (λ (w : Write). old ++ w ∷ head ∷ []) c.index_block.ensures ∙ ap (λ (w : Write). old ++ record { at = (c.args.header + 72); piece = eaib_bytes (empty_index_block c.args.header) } ∷ w ∷ []) c.array_header.ensures
    ∙ ap (λ (k : IndexKind). old ++ index_writes k c.args.header (c.args.header + 72)) (sym c.in-Array.is)
