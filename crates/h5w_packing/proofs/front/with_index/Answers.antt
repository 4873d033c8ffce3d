use Rattle.std.proofs.Common.{◌≡◌, ◌-◌, ◌∙◌, ap, sym, subst, arith, length}
use Rattle.h5w_model.specs.Messages.{IsLayout, IsShape, LayoutFields, layout_bytes}
use Rattle.h5w_model.proofs.LayoutLemmas.{layout_length_bound, length-layout_bytes}
use Rattle.h5w_types.specs.Fields.{int_type_of, shape_of}
use Rattle.h5w_types.specs.declared.shape.Shape.{Shape}
use Rattle.h5w_layout.specs.Layouts.{layout_of}
use Rattle.h5w_packing.proofs.FrontLemmas.{fill_spelled}
use Rattle.h5w_packing.proofs.front.with_index.Goals as goal

pub encode-len-requires-clause-room : goal.encode-len-requires-clause-room
encode-len-requires-clause-room c =
    let g = c.args.grid.now in
    layout_length_bound (layout_of g.layout) (shape_of g.shape) (int_type_of g.int_type) c.requires.shaped c.requires.typed c.requires.chunked

pub overflow_sub-result : goal.overflow_sub-result
overflow_sub-result c =
    let g = c.args.grid.now in
    omega (arith, c.encode-len.ensures.len, length-layout_bytes (layout_of g.layout) (shape_of g.shape) (int_type_of g.int_type) c.requires.shaped c.requires.typed c.requires.chunked)

pub returns-clause-spellable : goal.returns-clause-spellable
returns-clause-spellable c =
    let g = c.args.grid.now in
    let same = c.shape_with.ensures.same in
    let shape : IsShape (shape_of c.shape_with.result) = subst (λ (s : Shape). IsShape (shape_of s)) (sym same) c.requires.shaped in
    let new : LayoutFields = record (layout_of g.layout) { address = c.args.address; place = c.encode-len.result - 8 } in
    let old_layout : IsLayout (layout_of g.layout) (shape_of c.shape_with.result) (int_type_of g.int_type) = subst (λ (s : Shape). IsLayout (layout_of g.layout) (shape_of s) (int_type_of g.int_type)) (sym same) c.requires.chunked in
    let layout : IsLayout new (shape_of c.shape_with.result) (int_type_of g.int_type) = record { rows = old_layout.rows; cols = old_layout.cols; line = old_layout.line; small = old_layout.small; index = old_layout.index } in
    let long : c.encode-len.result ≡ length (layout_bytes new (shape_of c.shape_with.result) (int_type_of g.int_type)) =
    c.encode-len.ensures.len ∙ ap (λ (s : Shape). length (layout_bytes (layout_of g.layout) (shape_of s) (int_type_of g.int_type))) (sym same)
    ∙ length-layout_bytes (layout_of g.layout) (shape_of c.shape_with.result) (int_type_of g.int_type) shape c.requires.typed old_layout
    ∙ sym (length-layout_bytes new (shape_of c.shape_with.result) (int_type_of g.int_type) shape c.requires.typed layout) in
    record {
      shape = shape;
      rows = c.shape_with.ensures.rows;
      cols = c.shape_with.ensures.cols;
      int_type = c.requires.typed;
      fill = fill_spelled g.fill.value g.int_type.size c.requires.filled;
      layout = layout;
      address = omega (arith, c.ranges.address.fits);
      place = ap (λ n. n - 8) long;
    }
