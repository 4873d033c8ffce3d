use Rattle.h5w_model.proofs.LayoutLemmas.{layout_length_bound}
use Rattle.h5w_types.specs.Fields.{int_type_of, shape_of}
use Rattle.h5w_layout.specs.Layouts.{layout_of}
use Rattle.h5w_creation.proofs.headers.layout_message.Goals as goal

pub encode-len-requires-clause-room : goal.encode-len-requires-clause-room
encode-len-requires-clause-room c =
    let g = c.args.grid.now in
    layout_length_bound (layout_of g.layout) (shape_of g.shape) (int_type_of g.int_type) c.requires.shaped c.requires.typed c.requires.chunked
