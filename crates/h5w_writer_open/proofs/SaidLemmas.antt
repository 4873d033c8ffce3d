-- What the messages of a dataset header say of the dataset.
use Rattle.std.proofs.Common.{◌≡◌, ◌⊎◌, ℕ, ◌+◌, ◌*◌, ◌^◌, ◌≤◌, Bool, true, false, cond, ◌&&◌, ◌||◌, List, length, Option, Some, None, Result, Ok, refl, sym, ap, ◌∙◌, subst, inl, inr, arith}
use Rattle.std.specs.Prelude.{IfSome, IsTrue, ◌==◌, nat_le, if◌then◌else◌}
use Rattle.std.proofs.lemmas.Bool.{ltb-true, leb-true, eqb-true, or_cases}
use Rattle.h5w_model.specs.Numbers.{range, field}
use Rattle.h5w_model.specs.Messages.{FillFields, IntTypeFields, LayoutFields, ShapeFields, IsIntType, IsLayout, IsShape, byte, chunk_cols_at, chunk_size, fill_at, fill_fields, fill_size, fill_tests, int_type_at, int_type_fields, int_type_tests, is_int_size, is_shape, layout_at, layout_fields, layout_tests, shape_at, shape_fields, shape_tests}
use Rattle.h5w_model.specs.Datasets.{Described, FoundMessage, body_of, described, fill_value_kind}
use Rattle.h5w_model.specs.declared.refusal.Unsupported.{Unsupported}
use Rattle.h5w_model.proofs.CheckedLemmas.{checked-passed}
use Rattle.h5w_laws.proofs.LoweringLemmas.{length_range}
use Rattle.h5w_step_laws.proofs.HeaderDescribedLemmas.{parts_of}
use Rattle.h5w_step_laws.proofs.ShapeLemmas.{by_rank}
use Rattle.h5w_writer_open.specs.OpenSteps.{IsCut}

-- ---- The shape

as_true : (b : Bool) → b ≡ true → IsTrue b
as_true b e = e

shaped_by : (space : List ℕ) (s : ShapeFields) → shape_at space ≡ Ok s → IsShape s
unfolding shape_at shape_tests shape_fields
shaped_by space s h =
    let shape = checked-passed (shape_tests space) (shape_fields space) s h in
    let ranked = or_cases (byte space 1 == 1) (byte space 1 == 2) shape.0.1.1.0 in
    let rank : (byte space 1 ≡ 1) ⊎ (byte space 1 ≡ 2) = elim ranked [ inl t ↦ inl (eqb-true (byte space 1) 1 t) | inr t ↦ inr (eqb-true (byte space 1) 2 t) ] in
    as_true (is_shape s) (subst (λ (x : ShapeFields). is_shape x ≡ true) shape.1 (by_rank (byte space 1) (field space 4 8) (field space 12 8) (field space 28 8) rank shape.0.1.1.1.1.1.1.1.0))

-- ---- The type

typed_by : (datatype : List ℕ) (t : IntTypeFields) → int_type_at datatype ≡ Ok t → IsIntType t
unfolding int_type_at int_type_tests int_type_fields
typed_by datatype t h =
    let type = checked-passed (int_type_tests datatype) (int_type_fields datatype) t h in
    as_true (is_int_size t.size) (subst (λ (x : IntTypeFields). is_int_size x.size ≡ true) type.1 type.0.1.1.1.0)

-- ---- The layout

lined : (rank n : ℕ) → rank ≡ 1 → cond (rank == 1) 1 n ≡ 1
lined rank n e = subst (λ r. cond (r == 1) 1 n ≡ 1) (sym e) refl

laid_by : (layout : List ℕ) (s : ShapeFields) (t : IntTypeFields) (l : LayoutFields) → layout_at layout s t ≡ Ok l → IsLayout l s t
unfolding layout_at layout_fields
laid_by layout s t l g =
    let laid = checked-passed (layout_tests layout s t) (layout_fields layout s) l g in
    subst (λ (x : LayoutFields). IsLayout x s t) laid.1
    (record {
      rows = ltb-true 0 (chunk_size layout 0) laid.0.1.1.1.1.1.0;
      cols = ltb-true 0 (chunk_cols_at layout s) laid.0.1.1.1.1.1.1.0;
      line = λ e. lined s.rank (chunk_size layout 1) e;
      small = ltb-true (chunk_size layout 0 * chunk_cols_at layout s * t.size) (2 ^ 32) laid.0.1.1.1.1.1.1.1.1.0;
      index = refl;
    })

-- ---- The fill

filled_when : (n : ℕ) (t : IntTypeFields) (b : List ℕ) (c : Bool) → (n == 0) ≡ c → ((n == 0) || (n == t.size)) ≡ true → ((n == 0) || nat_le (6 + n) (length b)) ≡ true
    → IfSome (cond c None (Some (range b 6 n))) (λ (x : List ℕ). length x ≡ t.size)
filled_when n t b true e h g = tt
filled_when n t b false e h g =
    let size : n ≡ t.size = eqb-true n t.size (ap (λ c. c || (n == t.size)) (sym e) ∙ h) in
    let room : 6 + n ≤ length b = leb-true (6 + n) (length b) (ap (λ c. c || nat_le (6 + n) (length b)) (sym e) ∙ g) in
    omega (arith, length_range b 6 n, size, room)

filled_by : (b : List ℕ) (t : IntTypeFields) (f : FillFields) → fill_at b t ≡ Ok f → IfSome f.value (λ (x : List ℕ). length x ≡ t.size)
unfolding fill_at fill_tests fill_fields
filled_by b t f h =
    let fill = checked-passed (fill_tests b t) (fill_fields b) f h in
    subst (λ (x : FillFields). IfSome x.value (λ (y : List ℕ). length y ≡ t.size)) fill.1 (filled_when (fill_size b) t b (fill_size b == 0) refl fill.0.1.1.1.0 fill.0.1.1.1.1.0)

fill_said : (o : Option (List ℕ)) (t : IntTypeFields) (f : FillFields) → ◌≡◌ {A = Result FillFields Unsupported} (elim o as (λ _. Result FillFields Unsupported) [ Some b ↦ fill_at b t | None ↦ Ok (record { value = None }) ]) (Ok f)
    → IfSome f.value (λ (x : List ℕ). length x ≡ t.size)
fill_said (Some b) t f h = filled_by b t f h
fill_said None t f h = let e : record { value = None } ≡ f = cc in subst (λ (x : FillFields). IfSome x.value (λ (y : List ℕ). length y ≡ t.size)) e tt

-- ---- All of it

pub said : (ms : List FoundMessage) (d : Described) → described ms ≡ Ok d → IsCut d
said ms d h =
    let p = parts_of ms d h in
    record {
      shaped = shaped_by p.space d.shape p.shape;
      typed = typed_by p.datatype d.int_type p.int_type;
      chunked = laid_by p.layout d.shape d.int_type d.layout p.laid;
      filled = fill_said (body_of fill_value_kind ms) d.int_type d.fill p.fill;
    }

pub is_true : (b : Bool) → IsTrue b → b ≡ true
is_true b t = t
