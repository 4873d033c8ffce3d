-- The headers of a packed file: they are as long whatever the addresses in them are.
use Rattle.std.proofs.Common.{◌≡◌, ℕ, ◌+◌, ◌*◌, ◌≤◌, List, length, Option, None, Some, sym, ◌∙◌, ap, subst, inl, inr, arith}
use Rattle.std.specs.Prelude.{IfSome, option_map}
use Rattle.h5w_model.specs.Datasets.{Described}
use Rattle.h5w_model.specs.Integers.{cell_bytes}
use Rattle.h5w_model.specs.Messages.{fill_bytes, fill_value_bytes, index_bytes, int_type_bytes, layout_width, shape_bytes}
use Rattle.h5w_model.specs.Tables.{format_limits, limit_of, needed}
use Rattle.h5w_model.specs.declared.cell.Cell.{Cell}
use Rattle.h5w_model.proofs.IntegerLemmas.{int_size_bounds}
use Rattle.h5w_model.proofs.LayoutLemmas.{layout_length_bound, length-layout_bytes}
use Rattle.h5w_model.proofs.MessageLemmas.{fill_none_bytes, fill_value_length, length-int_type_bytes, length-shape_bytes, shape_rank}
use Rattle.h5w_step_laws.specs.Spelled.{IsSpellable, spelled_header}
use Rattle.h5w_step_laws.proofs.SpelledLemmas.{spelled_read}
use Rattle.h5w_packing.specs.Plans.{SameDataset, header_size}
use Rattle.h5w_packing.proofs.CellLemmas.{same_is_moved}

pub fill_spelled : (o : Option Cell) (n : ℕ) → IfSome o (λ c. (c.size ≡ n) × (length (cell_bytes c) ≡ n)) → IfSome (option_map cell_bytes o) (λ bytes. length bytes ≡ n)
fill_spelled None n h = tt
fill_spelled (Some c) n h = h.1

fill_short : (o : Option (List ℕ)) (n : ℕ) → n ≤ 8 → IfSome o (λ bytes. length bytes ≡ n) → length (fill_value_bytes o) ≤ 14
fill_short None n high h = omega (arith, ap length fill_none_bytes)
fill_short (Some bytes) n high h = omega (arith, fill_value_length bytes, high, h)

pub spelled_short : (d : Described) → IsSpellable d → length (spelled_header d) ≤ 145
spelled_short d s =
    let size = int_size_bounds d.int_type.size s.int_type in
    let rank : d.shape.rank ≤ 2 = elim (shape_rank d.shape s.shape) [ inl e ↦ omega (arith, e) | inr e ↦ omega (arith, e) ] in
    omega (arith, (spelled_read d s).long, length-shape_bytes d.shape s.shape, rank, length-int_type_bytes d.int_type, fill_short d.fill.value d.int_type.size size.1 s.fill, layout_length_bound d.layout d.shape d.int_type s.shape s.int_type s.layout)

-- how long the header is, whatever the index's address
long_by : (d : Described) → IsSpellable d → length (spelled_header d) ≡ header_size d
long_by d s =
    (spelled_read d s).long
    ∙ ap (λ n. 27 + (length (shape_bytes d.shape) + (length (int_type_bytes d.int_type) + (length (fill_bytes d.fill) + n)))) (length-layout_bytes d.layout d.shape d.int_type s.shape s.int_type s.layout)

pub header_long : (d e : Described) → SameDataset d e → IsSpellable e → length (spelled_header e) ≡ header_size d
header_long d e same s = long_by e s ∙ ap header_size (same_is_moved d e same)

pub needed_same : (d e : Described) → SameDataset d e → needed d ≤ limit_of format_limits d.layout.index → needed e ≤ limit_of format_limits e.layout.index
needed_same d e s h = subst (λ (x : Described). needed x ≤ limit_of format_limits x.layout.index) (sym (same_is_moved d e s)) h
