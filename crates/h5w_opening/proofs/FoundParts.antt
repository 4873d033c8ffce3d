-- What was found, part after part.
use Rattle.std.proofs.Common.{◌≡◌, ℕ, ◌≤◌, true, false, cond, List, Result, Ok, Err, refl, sym, ◌∙◌, subst, inl, inr}
use Rattle.std.specs.Prelude.{nat_lt, ◌==◌}
use Rattle.std.proofs.lemmas.Bool.{eqb-false, ltb-false}
use Rattle.h5w_model.specs.Numbers.{range}
use Rattle.h5w_model.specs.Programs.{eval}
use Rattle.h5w_model.specs.Superblock.{super_at}
use Rattle.h5w_model.specs.Datasets.{Described, HeaderFields, described, super_refusal, linked, refused_as}
use Rattle.h5w_model.specs.Tables.{format_limits, limit_of, needed}
use Rattle.h5w_model.specs.declared.root.Super.{Super}
use Rattle.h5w_model.specs.declared.refusal.ReadError.TheVariants as read_errors
use Rattle.h5w_model.proofs.SuperLemmas.{super_either}
use Rattle.h5w_laws.proofs.ResultLemmas.{fails, refused_ok, then_ok}
use Rattle.h5w_headers.specs.Walks.{root_header_for, dataset_header_for}
use Rattle.h5w_opening.specs.Openings.{DatasetHeaderFields, Opened, chunk_0_len, closed_super, dataset_found, in_chunk_0, is_open, known, looked_for, place_found, super_found}
use Rattle.h5w_opening.specs.declared.error.OpenError.{OpenError}
use Rattle.h5w_opening.specs.declared.error.OpenError.TheVariants.{Read, Version, Flags, Cut}
use Rattle.h5w_opening.proofs.OpeningLemmas.{behind_place, behind_super, opened_by, opening_gives}

pub record Parts (img : List ℕ) (size : ℕ) (name : List ℕ) (o : Opened) : Type 0 where
  pub super : super_at (range img 0 48) ≡ Ok o.root
  pub version : o.root.version ≡ 3
  pub closed : is_open o.root.flags ≡ false
  pub inside : o.root.end ≤ size
  pub root : HeaderFields
  pub root_read : eval img (root_header_for true o.root.root) ≡ Ok root
  pub link : linked name root.messages ≡ Ok o.place
  pub header : HeaderFields
  pub header_read : eval img (dataset_header_for true o.place) ≡ Ok header
  pub says : described header.messages ≡ Ok o.header.dataset
  pub len : o.header.len ≡ chunk_0_len header.ranges
  pub in_chunk : o.header.in_chunk_0 ≡ in_chunk_0 header.messages

abbrev as_super : Super → Result Super OpenError
as_super s = Ok s

same_super : (s t : Super) → as_super s ≡ as_super t → s ≡ t
same_super s t e = cc

abbrev as_opened : Opened → Result Opened OpenError
as_opened o = Ok o

same_opened : (o p : Opened) → as_opened o ≡ as_opened p → o ≡ p
same_opened o p e = cc

abbrev as_header : DatasetHeaderFields → Result DatasetHeaderFields OpenError
as_header h = Ok h

same_header : (g h : DatasetHeaderFields) → as_header g ≡ as_header h → g ≡ h
same_header g h e = cc

pub record SuperFound (img : List ℕ) (size : ℕ) (s : Super) : Type 0 where
  pub read : super_at (range img 0 48) ≡ Ok s
  pub version : s.version ≡ 3
  pub closed : is_open s.flags ≡ false
  pub inside : s.end ≤ size

-- of the two versions that are read the older is refused
newer : (b : List ℕ) (s : Super) → super_at b ≡ Ok s → (s.version == 2) ≡ false → s.version ≡ 3
newer b s read other = elim (super_either b s read) [
  | inl two ↦ absurd (eqb-false s.version 2 other two)
  | inr three ↦ three
]

pub super_found_by : (img : List ℕ) (size : ℕ) (s : Super) → super_found size img ≡ Ok s → SuperFound img size s
super_found_by img size s h =
    let t = then_ok (refused_as Read (refused_as super_refusal (super_at (range img 0 48)))) (closed_super size) s h in
    let read = refused_ok super_refusal (super_at (range img 0 48)) t.0 (refused_ok Read (refused_as super_refusal (super_at (range img 0 48))) t.0 t.1) in
    let new = fails (t.0.version == 2) (cond (is_open t.0.flags) (Err (Flags t.0.flags)) (cond (nat_lt size t.0.end) (Err (Cut t.0.end size)) (as_super t.0))) (Version 2) s t.2 in
    let shut = fails (is_open t.0.flags) (cond (nat_lt size t.0.end) (Err (Cut t.0.end size)) (as_super t.0)) (Flags t.0.flags) s new.1 in
    let whole = fails (nat_lt size t.0.end) (as_super t.0) (Cut t.0.end size) s shut.1 in
    subst (λ (x : Super). SuperFound img size x) (same_super t.0 s whole.1) (record { read = read; version = newer (range img 0 48) t.0 read new.0; closed = shut.0; inside = ltb-false size t.0.end whole.0 })

pub record HeaderFound (img : List ℕ) (place : ℕ) (d : DatasetHeaderFields) : Type 0 where
  pub header : HeaderFields
  pub read : eval img (dataset_header_for true place) ≡ Ok header
  pub says : described header.messages ≡ Ok d.dataset
  pub len : d.len ≡ chunk_0_len header.ranges
  pub in_chunk : d.in_chunk_0 ≡ in_chunk_0 header.messages

pub header_found_by : (img : List ℕ) (place : ℕ) (d : DatasetHeaderFields) → dataset_found place img ≡ Ok d → HeaderFound img place d
header_found_by img place d h =
    let t = then_ok (refused_as Read (eval img (dataset_header_for true place))) (λ (x : HeaderFields). known (chunk_0_len x.ranges) x.messages) d h in
    let x : HeaderFields = t.0 in
    let asked : Described → Result DatasetHeaderFields OpenError = λ y. cond (nat_lt (limit_of format_limits y.layout.index) (needed y)) (Err (Read (read_errors.TooManyChunks (needed y) (limit_of format_limits y.layout.index))))
    (as_header (record { len = chunk_0_len x.ranges; dataset = y; in_chunk_0 = in_chunk_0 x.messages })) in
    let u = then_ok (refused_as (λ e. Read (read_errors.Unsupported e)) (described x.messages)) asked d t.2 in
    let y : Described = u.0 in
    let made : DatasetHeaderFields = record { len = chunk_0_len x.ranges; dataset = y; in_chunk_0 = in_chunk_0 x.messages } in
    let f = fails (nat_lt (limit_of format_limits y.layout.index) (needed y)) (as_header made) (Read (read_errors.TooManyChunks (needed y) (limit_of format_limits y.layout.index))) d u.2 in
    subst (λ (z : DatasetHeaderFields). HeaderFound img place z) (same_header made d f.1)
    (record {
      header = x;
      read = refused_ok Read (eval img (dataset_header_for true place)) x t.1;
      says = refused_ok (λ e. Read (read_errors.Unsupported e)) (described x.messages) y u.1;
      len = refl;
      in_chunk = refl;
    })

pub parts : (img : List ℕ) (size : ℕ) (name : List ℕ) (o : Opened) → eval img (looked_for size name) ≡ Ok o → Parts img size name o
parts img size name o h =
    let t = then_ok (super_found size img) (behind_super name img) o (sym (opening_gives img name size) ∙ h) in
    let s : Super = t.0 in
    let u = then_ok (place_found name s.root img) (behind_place s img) o t.2 in
    let w = then_ok (dataset_found u.0 img) (opened_by s u.0) o u.2 in
    let made : Opened = record { root = s; place = u.0; header = w.0 } in
    let sf = super_found_by img size s t.1 in
    let r = then_ok (refused_as Read (eval img (root_header_for true s.root))) (λ (x : HeaderFields). refused_as Read (linked name x.messages)) u.0 u.1 in
    let hf = header_found_by img u.0 w.0 w.1 in
    subst (λ (x : Opened). Parts img size name x) (same_opened made o w.2)
    (record {
      super = sf.read;
      version = sf.version;
      closed = sf.closed;
      inside = sf.inside;
      root = r.0;
      root_read = refused_ok Read (eval img (root_header_for true s.root)) r.0 r.1;
      link = refused_ok Read (linked name r.0.messages) u.0 r.2;
      header = hf.header;
      header_read = hf.read;
      says = hf.says;
      len = hf.len;
      in_chunk = hf.in_chunk;
    })
