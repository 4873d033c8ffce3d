-- What changed messages of a dataset say.
use Rattle.std.proofs.Common.{◌≡◌, ℕ, ◌^◌, ◌<◌, true, false, cond, ◌||◌, List, [], ◌∷◌, map, Option, Some, None, Result, Ok, Err, refl, ap, sym, ◌∙◌, subst, arith}
use Rattle.std.specs.Prelude.{◌==◌, option_map}
use Rattle.h5w_model.specs.Headers.{has, with_number, index_address_place}
use Rattle.h5w_model.specs.Messages.{unsupported, ShapeFields, IntTypeFields, FillFields, LayoutFields, shape_at, int_type_at, fill_at, layout_at}
use Rattle.h5w_model.specs.Datasets.{FoundMessage, Described, described, dataspace_of, or_refuse, body_of, first_of, is_shared, fill_of, is_filtered, shares_a_message, then_also, dataspace_kind, datatype_kind, fill_value_kind, layout_kind, filter_pipeline_kind}
use Rattle.h5w_model.specs.declared.refusal.Unsupported.{Unsupported}
use Rattle.h5w_laws.proofs.ResultLemmas.{then_ok, then_from, fails, passes}
use Rattle.h5w_step_laws.proofs.DescribedLemmas.{ok_described}
use Rattle.h5w_step_laws.proofs.HeaderFoundLemmas.{KeepsKinds, replaced, replaced_keeps, replaced_same, first_map, first_other, first_is}
use Rattle.h5w_step_laws.proofs.MessageLemmas.{is_space, shape_kept, layout_by_rows, layout_kept}

-- ---- The parts

pub record Parts (ms : List FoundMessage) (d : Described) : Type 0 where
  pub filtered : is_filtered ms ≡ false
  pub shared : shares_a_message ms ≡ false
  pub space : List ℕ
  pub space_is : dataspace_of ms ≡ Ok space
  pub datatype : List ℕ
  pub datatype_is : or_refuse (body_of datatype_kind ms) (unsupported 4) ≡ Ok datatype
  pub layout : List ℕ
  pub layout_is : or_refuse (body_of layout_kind ms) (unsupported 4) ≡ Ok layout
  pub shape : shape_at space ≡ Ok d.shape
  pub int_type : int_type_at datatype ≡ Ok d.int_type
  pub fill : fill_of ms d.int_type ≡ Ok d.fill
  pub laid : layout_at layout d.shape d.int_type ≡ Ok d.layout

parts_as : (ms : List FoundMessage) (c d : Described) → c ≡ d → Parts ms c → Parts ms d
parts_as ms c d e p = subst (λ (x : Described). Parts ms x) e p

pub parts_of : (ms : List FoundMessage) (d : Described) → described ms ≡ Ok d → Parts ms d
parts_of ms d h =
    let a = fails (is_filtered ms) _ (unsupported 2) d h in
    let b = fails (shares_a_message ms) _ (unsupported 3) d a.1 in
    let space = then_ok (dataspace_of ms) _ d b.1 in
    let datatype = then_ok (or_refuse (body_of datatype_kind ms) (unsupported 4)) _ d space.2 in
    let layout = then_ok (or_refuse (body_of layout_kind ms) (unsupported 4)) _ d datatype.2 in
    let s = then_ok (shape_at space.0) _ d layout.2 in
    let t = then_ok (int_type_at datatype.0) _ d s.2 in
    let f = then_ok (fill_of ms t.0) _ d t.2 in
    let l = then_ok (layout_at layout.0 s.0 t.0) _ d f.2 in
    let whole : Described = record { shape = s.0; int_type = t.0; fill = f.0; layout = l.0 } in
    parts_as ms whole d (ok_described whole d l.2)
    (record {
      filtered = a.0;
      shared = b.0;
      space = space.0;
      space_is = space.1;
      datatype = datatype.0;
      datatype_is = datatype.1;
      layout = layout.0;
      layout_is = layout.1;
      shape = s.1;
      int_type = t.1;
      fill = f.1;
      laid = l.1;
    })

laid_then : ShapeFields → IntTypeFields → FillFields → LayoutFields → Result Described Unsupported
laid_then s t f l = Ok (record { shape = s; int_type = t; fill = f; layout = l })

filled_then : List ℕ → ShapeFields → IntTypeFields → FillFields → Result Described Unsupported
filled_then layout s t f = then_also (layout_at layout s t) (laid_then s t f)

typed_then : List FoundMessage → List ℕ → ShapeFields → IntTypeFields → Result Described Unsupported
typed_then ms layout s t = then_also (fill_of ms t) (filled_then layout s t)

shaped_then : List FoundMessage → List ℕ → List ℕ → ShapeFields → Result Described Unsupported
shaped_then ms datatype layout s = then_also (int_type_at datatype) (typed_then ms layout s)

layout_then : List FoundMessage → List ℕ → List ℕ → List ℕ → Result Described Unsupported
layout_then ms space datatype layout = then_also (shape_at space) (shaped_then ms datatype layout)

datatype_then : List FoundMessage → List ℕ → List ℕ → Result Described Unsupported
datatype_then ms space datatype = then_also (or_refuse (body_of layout_kind ms) (unsupported 4)) (layout_then ms space datatype)

space_then : List FoundMessage → List ℕ → Result Described Unsupported
space_then ms space = then_also (or_refuse (body_of datatype_kind ms) (unsupported 4)) (datatype_then ms space)

refused_by : ℕ → Result Described Unsupported
refused_by n = Err (unsupported n)

pub from_parts : (ms : List FoundMessage) (d : Described) → Parts ms d → described ms ≡ Ok d
unfolding space_then datatype_then layout_then shaped_then typed_then filled_then laid_then refused_by
from_parts ms d p =
    ap (λ t. cond t (refused_by 2) (cond (shares_a_message ms) (refused_by 3) (then_also (dataspace_of ms) (space_then ms)))) p.filtered
    ∙ ap (λ t. cond t (refused_by 3) (then_also (dataspace_of ms) (space_then ms))) p.shared
    ∙ then_from (dataspace_of ms) (space_then ms) p.space d p.space_is
    (then_from (or_refuse (body_of datatype_kind ms) (unsupported 4)) (datatype_then ms p.space) p.datatype d p.datatype_is
    (then_from (or_refuse (body_of layout_kind ms) (unsupported 4)) (layout_then ms p.space p.datatype) p.layout d p.layout_is
    (then_from (shape_at p.space) (shaped_then ms p.datatype p.layout) d.shape d p.shape
    (then_from (int_type_at p.datatype) (typed_then ms p.layout d.shape) d.int_type d p.int_type
    (then_from (fill_of ms d.int_type) (filled_then p.layout d.shape d.int_type) d.fill d p.fill
    (then_from (layout_at p.layout d.shape d.int_type) (laid_then d.shape d.int_type d.fill) d.layout d p.laid refl))))))

-- ---- Changed messages

-- the data of the first dataspace
space_by : Option FoundMessage → Result (List ℕ) Unsupported
space_by o = elim o [ Some m ↦ cond m.in_chunk_0 (Ok m.body) (Err (unsupported 4)) | None ↦ Err (unsupported 4) ]

space_found : (ms : List FoundMessage) (x : FoundMessage) → first_of dataspace_kind ms ≡ Some x → x.in_chunk_0 ≡ true → dataspace_of ms ≡ Ok x.body
unfolding space_by
space_found ms x e own = ap (λ o. space_by o) e ∙ ap (λ t. cond t (space_ok x.body) (Err (unsupported 4))) own
  where
    space_ok : List ℕ → Result (List ℕ) Unsupported
    space_ok b = Ok b

same_data : (a b : List ℕ) → ◌≡◌ {A = Result (List ℕ) Unsupported} (Ok a) (Ok b) → a ≡ b
same_data a b h = cc

data_found : (kind : ℕ) (ms : List FoundMessage) (x : FoundMessage) → first_of kind ms ≡ Some x → or_refuse (body_of kind ms) (unsupported 4) ≡ Ok x.body
data_found kind ms x e = ap (λ o. or_refuse (option_map (λ (m : FoundMessage). m.body) o) (unsupported 4)) e

filtered_kept : (f : FoundMessage → FoundMessage) (ms : List FoundMessage) → KeepsKinds f → is_filtered (map f ms) ≡ is_filtered ms
filtered_kept f [] h = refl
filtered_kept f (m ∷ ms) h = λ i. ((h m).kind i == filter_pipeline_kind) || filtered_kept f ms h i

shared_one : (f : FoundMessage → FoundMessage) (o : Option FoundMessage) → KeepsKinds f → is_shared (option_map f o) ≡ is_shared o
shared_one f None h = refl
shared_one f (Some m) h = ap (λ n. has n 2) (h m).flags

shared_kind : (f : FoundMessage → FoundMessage) (kind : ℕ) (ms : List FoundMessage) → KeepsKinds f → is_shared (first_of kind (map f ms)) ≡ is_shared (first_of kind ms)
shared_kind f kind ms h = ap (λ o. is_shared o) (first_map f kind ms h) ∙ shared_one f (first_of kind ms) h

shared_kept : (f : FoundMessage → FoundMessage) (ms : List FoundMessage) → KeepsKinds f → shares_a_message (map f ms) ≡ shares_a_message ms
shared_kept f ms h = λ i.
    ((shared_kind f dataspace_kind ms h i || shared_kind f datatype_kind ms h i) || shared_kind f fill_value_kind ms h i) || shared_kind f layout_kind ms h i

fill_kept : (ms ns : List FoundMessage) (t : IntTypeFields) → first_of fill_value_kind ns ≡ first_of fill_value_kind ms → fill_of ns t ≡ fill_of ms t
fill_kept ms ns t e = ap (λ o. fill_by o) e
  where
    fill_by : Option FoundMessage → Result FillFields Unsupported
    fill_by o = elim (option_map (λ (m : FoundMessage). m.body) o) [ Some b ↦ fill_at b t | None ↦ Ok (record { value = None }) ]

body_kept : (kind : ℕ) (ms ns : List FoundMessage) → first_of kind ns ≡ first_of kind ms → or_refuse (body_of kind ns) (unsupported 4) ≡ or_refuse (body_of kind ms) (unsupported 4)
body_kept kind ms ns e = ap (λ o. or_refuse (option_map (λ (m : FoundMessage). m.body) o) (unsupported 4)) e

-- other rows
pub described_rows : (ms : List FoundMessage) (d : Described) (x : FoundMessage) (rows : ℕ) → described ms ≡ Ok d → first_of dataspace_kind ms ≡ Some x → x.in_chunk_0 ≡ true → rows < 2 ^ 64
    → described (map (replaced dataspace_kind x.place 4 rows) ms) ≡ Ok (record d { shape = record (d.shape) { rows = rows } })
described_rows ms d x rows says found own fits =
    let p = parts_of ms d says in
    let f = replaced dataspace_kind x.place 4 rows in
    let ns = map f ms in
    let keeps = replaced_keeps dataspace_kind x.place 4 rows in
    let space : x.body ≡ p.space = same_data x.body p.space (sym (space_found ms x found own) ∙ p.space_is) in
    let first : first_of dataspace_kind ns ≡ Some (record x { body = with_number x.body 4 rows }) =
    first_map f dataspace_kind ms keeps ∙ ap (option_map f) found ∙ ap Some (replaced_same dataspace_kind x.place 4 rows x (first_is dataspace_kind ms x found) refl own) in
    from_parts ns (record d { shape = record (d.shape) { rows = rows } }) (record {
      filtered = filtered_kept f ms keeps ∙ p.filtered;
      shared = shared_kept f ms keeps ∙ p.shared;
      space = with_number x.body 4 rows;
      space_is = space_found ns (record x { body = with_number x.body 4 rows }) first own;
      datatype = p.datatype;
      datatype_is = body_kept datatype_kind ms ns (first_other dataspace_kind x.place 4 rows datatype_kind ms (λ e. absurd (omega arith))) ∙ p.datatype_is;
      layout = p.layout;
      layout_is = body_kept layout_kind ms ns (first_other dataspace_kind x.place 4 rows layout_kind ms (λ e. absurd (omega arith))) ∙ p.layout_is;
      shape = shape_kept x.body d.shape rows fits (ap shape_at space ∙ p.shape);
      int_type = p.int_type;
      fill = fill_kept ms ns d.int_type (first_other dataspace_kind x.place 4 rows fill_value_kind ms (λ e. absurd (omega arith))) ∙ p.fill;
      laid = layout_by_rows p.layout d.shape d.int_type rows ∙ p.laid;
    })

-- another index address
pub described_index : (ms : List FoundMessage) (d : Described) (y : FoundMessage) (index : ℕ) → described ms ≡ Ok d → first_of layout_kind ms ≡ Some y → y.in_chunk_0 ≡ true → index < 2 ^ 64
    → described (map (replaced layout_kind y.place (index_address_place y.body) index) ms) ≡ Ok (record d { layout = record (d.layout) { address = index } })
described_index ms d y index says found own fits =
    let p = parts_of ms d says in
    let k = index_address_place y.body in
    let f = replaced layout_kind y.place k index in
    let ns = map f ms in
    let keeps = replaced_keeps layout_kind y.place k index in
    let layout : y.body ≡ p.layout = same_data y.body p.layout (sym (data_found layout_kind ms y found) ∙ p.layout_is) in
    let first : first_of layout_kind ns ≡ Some (record y { body = with_number y.body k index }) =
    first_map f layout_kind ms keeps ∙ ap (option_map f) found ∙ ap Some (replaced_same layout_kind y.place k index y (first_is layout_kind ms y found) refl own) in
    let some = (is_space p.space d.shape p.shape).some in
    from_parts ns (record d { layout = record (d.layout) { address = index } }) (record {
      filtered = filtered_kept f ms keeps ∙ p.filtered;
      shared = shared_kept f ms keeps ∙ p.shared;
      space = p.space;
      space_is = ap (λ o. space_by_all o) (first_other layout_kind y.place k index dataspace_kind ms (λ e. absurd (omega arith))) ∙ p.space_is;
      datatype = p.datatype;
      datatype_is = body_kept datatype_kind ms ns (first_other layout_kind y.place k index datatype_kind ms (λ e. absurd (omega arith))) ∙ p.datatype_is;
      layout = with_number y.body k index;
      layout_is = data_found layout_kind ns (record y { body = with_number y.body k index }) first;
      shape = p.shape;
      int_type = p.int_type;
      fill = fill_kept ms ns d.int_type (first_other layout_kind y.place k index fill_value_kind ms (λ e. absurd (omega arith))) ∙ p.fill;
      laid = layout_kept y.body d.shape d.int_type d.layout index some fits (ap (λ b. layout_at b d.shape d.int_type) layout ∙ p.laid);
    })
  where
    space_by_all : Option FoundMessage → Result (List ℕ) Unsupported
    space_by_all o = elim o [ Some m ↦ cond m.in_chunk_0 (Ok m.body) (Err (unsupported 4)) | None ↦ Err (unsupported 4) ]

-- what the first dataspace is
pub space_of : (ms : List FoundMessage) (d : Described) → described ms ≡ Ok d → (x : FoundMessage) × (first_of dataspace_kind ms ≡ Some x) × (x.in_chunk_0 ≡ true) × (shape_at x.body ≡ Ok d.shape)
space_of ms d says =
    let p = parts_of ms d says in
    go (first_of dataspace_kind ms) p.space refl p.space_is p.shape
  where
    go : (o : Option FoundMessage) (space : List ℕ) → first_of dataspace_kind ms ≡ o
        → (elim o as (λ _. Result (List ℕ) Unsupported) [ Some m ↦ cond m.in_chunk_0 (Ok m.body) (Err (unsupported 4)) | None ↦ Err (unsupported 4) ]) ≡ Ok space
        → shape_at space ≡ Ok d.shape → (x : FoundMessage) × (first_of dataspace_kind ms ≡ Some x) × (x.in_chunk_0 ≡ true) × (shape_at x.body ≡ Ok d.shape)
    go None space e is s = absurd (none_of (unsupported 4) space is)
      where
        none_of : (u : Unsupported) (b : List ℕ) → ◌≡◌ {A = Result (List ℕ) Unsupported} (Err u) (Ok b) → ⊥
        none_of u b h = cc
    go (Some m) space e is s =
        let t = passes m.in_chunk_0 (Ok m.body) (unsupported 4) space is in
        (m, e, t.0, ap shape_at (same_data m.body space t.1) ∙ s)

pub layout_of : (ms : List FoundMessage) (d : Described) → described ms ≡ Ok d → (y : FoundMessage) × (first_of layout_kind ms ≡ Some y) × (layout_at y.body d.shape d.int_type ≡ Ok d.layout)
layout_of ms d says =
    let p = parts_of ms d says in
    go (first_of layout_kind ms) p.layout refl p.layout_is p.laid
  where
    go : (o : Option FoundMessage) (layout : List ℕ) → first_of layout_kind ms ≡ o → or_refuse (option_map (λ (m : FoundMessage). m.body) o) (unsupported 4) ≡ Ok layout
        → layout_at layout d.shape d.int_type ≡ Ok d.layout → (y : FoundMessage) × (first_of layout_kind ms ≡ Some y) × (layout_at y.body d.shape d.int_type ≡ Ok d.layout)
    go None layout e is l = absurd (none_of (unsupported 4) layout is)
      where
        none_of : (u : Unsupported) (b : List ℕ) → ◌≡◌ {A = Result (List ℕ) Unsupported} (Err u) (Ok b) → ⊥
        none_of u b h = cc
    go (Some m) layout e is l = (m, e, ap (λ b. layout_at b d.shape d.int_type) (same_data m.body layout is) ∙ l)
