-- What a dataset's messages say of the sizes of its chunks and values.
use Rattle.std.proofs.Common.{◌≡◌, ℕ, zero, suc, ◌<◌, true, List, Result, Ok, subst, arith}
use Rattle.std.proofs.lemmas.Bool.{ltb-true}
use Rattle.h5w_model.specs.Messages.{unsupported, IntTypeFields, LayoutFields, ShapeFields, shape_at, int_type_tests, int_type_fields, int_type_at, is_int_size, chunk_size, chunk_cols_at, layout_tests, layout_fields, layout_at}
use Rattle.h5w_model.specs.Datasets.{FoundMessage, Described, described, dataspace_of, or_refuse, body_of, fill_of, is_filtered, shares_a_message, datatype_kind, layout_kind}
use Rattle.h5w_model.specs.declared.refusal.Unsupported.{Unsupported}
use Rattle.h5w_model.proofs.CheckedLemmas.{checked-passed}
use Rattle.h5w_model.proofs.LayoutLemmas.{product_bounds}
use Rattle.h5w_laws.proofs.ResultLemmas.{then_ok, fails}
use Rattle.h5w_step_laws.specs.Headers.{IsSized}

pub ok_described : (d e : Described) → ◌≡◌ {A = Result Described Unsupported} (Ok d) (Ok e) → d ≡ e
ok_described d e h = cc

pub some_size : (n : ℕ) → is_int_size n ≡ true → 0 < n
some_size zero h = absurd cc
some_size (suc n) h = omega arith

pub sized_by : (datatype layout : List ℕ) (s : ShapeFields) (t : IntTypeFields) (l : LayoutFields) → int_type_at datatype ≡ Ok t → layout_at layout s t ≡ Ok l
    → (0 < l.chunk_rows) × (0 < l.chunk_cols) × (0 < t.size)
unfolding int_type_at int_type_tests int_type_fields layout_at layout_fields
sized_by datatype layout s t l h g =
    let int_type = checked-passed (int_type_tests datatype) (int_type_fields datatype) t h in
    let laid = checked-passed (layout_tests layout s t) (layout_fields layout s) l g in (
      subst (λ (x : LayoutFields). 0 < x.chunk_rows) laid.1 (ltb-true 0 (chunk_size layout 0) laid.0.1.1.1.1.1.0),
      subst (λ (x : LayoutFields). 0 < x.chunk_cols) laid.1 (ltb-true 0 (chunk_cols_at layout s) laid.0.1.1.1.1.1.1.0),
      some_size t.size (subst (λ (x : IntTypeFields). is_int_size x.size ≡ true) int_type.1 int_type.0.1.1.1.0),
    )

pub sizes : (d : Described) → (0 < d.layout.chunk_rows) × (0 < d.layout.chunk_cols) × (0 < d.int_type.size) → IsSized d
sizes d h =
    let low = product_bounds d.layout.chunk_rows d.layout.chunk_cols d.int_type.size h.0 h.1 h.2 in
    record { rows = h.0; cols = h.1; size = h.2; bytes = omega (arith, low.0, h.0) }

pub sized : (ms : List FoundMessage) (d : Described) → described ms ≡ Ok d → IsSized d
sized ms d h =
    let a = fails (is_filtered ms) _ (unsupported 2) d h in
    let b = fails (shares_a_message ms) _ (unsupported 3) d a.1 in
    let space = then_ok (dataspace_of ms) _ d b.1 in
    let datatype = then_ok (or_refuse (body_of datatype_kind ms) (unsupported 4)) _ d space.2 in
    let layout = then_ok (or_refuse (body_of layout_kind ms) (unsupported 4)) _ d datatype.2 in
    let s = then_ok (shape_at space.0) _ d layout.2 in
    let t = then_ok (int_type_at datatype.0) _ d s.2 in
    let f = then_ok (fill_of ms t.0) _ d t.2 in
    let l = then_ok (layout_at layout.0 s.0 t.0) _ d f.2 in
    subst (λ (x : Described). IsSized x) (ok_described (record { shape = s.0; int_type = t.0; fill = f.0; layout = l.0 }) d l.2)
    (sizes (record { shape = s.0; int_type = t.0; fill = f.0; layout = l.0 }) (sized_by datatype.0 layout.0 s.0 t.0 l.0 t.1 l.1))
