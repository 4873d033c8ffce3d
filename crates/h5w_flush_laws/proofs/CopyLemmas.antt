-- The copies of a plan of a store as blocks at new places.
use Rattle.std.proofs.Common.{◌≡◌, List, [], ◌∷◌, ◌++◌, length, Option, refl, sym, ◌∙◌, ap}
use Rattle.std.proofs.lemmas.List.Elements.{All-head, All-tail}
use Rattle.std.specs.List.{All}
use Rattle.h5w_model.specs.Images.{pieces}
use Rattle.h5w_model.specs.Findings.{Used}
use Rattle.h5w_step_laws.specs.Ranges.{block_at}
use Rattle.h5w_cache.specs.Blocks.{BlockView}
use Rattle.h5w_cache.specs.Plans.{bytes_in, writes_of}
use Rattle.h5w_cache.specs.declared.moves.Move.{Move}
use Rattle.h5w_flush_laws.specs.Spaces.{moved_ranges}
use Rattle.h5w_flush_laws.specs.Parts.{block_ranges, block_writes}
use Rattle.h5w_flush_laws.specs.Copies.{moved_blocks, CopyLaws}

written : (blocks : List (Option BlockView)) (ms : List Move) → writes_of blocks ms ≡ block_writes (moved_blocks blocks ms)
written blocks [] = refl
written blocks (m ∷ ms) = ap (λ ws. pieces m.new (bytes_in blocks m.number) ++ ws) (written blocks ms)

ranged : (blocks : List (Option BlockView)) (ms : List Move) → All (λ (m : Move). m.len ≡ length (bytes_in blocks m.number)) ms → block_ranges (moved_blocks blocks ms) ≡ moved_ranges ms
ranged blocks [] all = refl
ranged blocks (m ∷ ms) all =
    let long : Move → Type 0 = λ (x : Move). x.len ≡ length (bytes_in blocks x.number) in
    ap (λ (us : List Used). block_at m.new (length (bytes_in blocks m.number)) ∷ us) (ranged blocks ms (All-tail long m ms all))
    ∙ ap (λ n. block_at m.new n ∷ moved_ranges ms) (sym (All-head long m ms all))

pub copy_laws : CopyLaws
copy_laws = record { writes = written; ranges = ranged }
