-- A file at a moment is valid and reads as its values; and a valid file is one at a moment.
use Rattle.std.proofs.Common.{◌≡◌, ℕ, ◌*◌, ◌/◌, ◌%◌, ◌<◌, ◌⊎◌, List, [], ◌∷◌, ◌++◌, length, Option, Some, None, Result, Ok, Err, refl, sym, ◌∙◌, ap, subst, inl, inr, arith, append_assoc, append-nil}
use Rattle.std.specs.Prelude.{nat_lt, ℤ, slice_get}
use Rattle.std.proofs.lemmas.Bool.{cond-false}
use Rattle.h5w_model.specs.Numbers.{range}
use Rattle.h5w_model.specs.Programs.{ret, eval, and_then}
use Rattle.h5w_model.specs.Datasets.{Described, dataset, dataset_place}
use Rattle.h5w_model.specs.Tables.{Reading, Shows, Reads, needed_table, table_of, needed_keys, needed, limit_of, format_limits, cell}
use Rattle.h5w_model.specs.Findings.{Finding, Used, Summary, Valid, checked_super, checked_root, checked_dataset, index_visit, verdict, summary, the_superblock, overlap_of, by_place}
use Rattle.h5w_model.specs.declared.root.Super.{Super}
use Rattle.h5w_model.specs.declared.refusal.ReadError.TheVariants as read_errors
use Rattle.h5w_laws.proofs.AnswerLemmas.{same_ok}
use Rattle.h5w_laws.proofs.ResultLemmas.{and_then_ok, and_then_from}
use Rattle.h5w_laws.proofs.ValidLemmas.{place_ok, dataset_ok}
use Rattle.h5w_step_laws.specs.Ranges.{Among, AllSome, Disjoint}
use Rattle.h5w_step_laws.specs.Indexes.{IsIndex}
use Rattle.h5w_step_laws.proofs.RangeLemmas.{among_left, among_right, among_split, some_cons, some_joined}
use Rattle.h5w_step_laws.proofs.OverlapLemmas.{overlap_laws}
use Rattle.h5w_step_laws.proofs.HeaderLaws.{root_tells, header_tells}
use Rattle.h5w_step_laws.proofs.IndexLaws.{checked_index}
use Rattle.h5w_step_laws.proofs.NeededLaws.{table_laws}
use Rattle.h5w_step_laws.specs.Moments.{Moment, HasRoot, Represents, reading_of, all_used}
use Rattle.h5w_step_laws.specs.Logs.{MomentFound}
use Rattle.h5w_step_laws.specs.Sessions.{Opens}
use Rattle.h5w_step_laws.proofs.PartLemmas.{disjoint_right}

-- ---- From a moment

-- a file but for its values
pub record Bare (img name : List ℕ) (m : Moment) : Type 0 where
  pub super : checked_super (length img) (range img 0 48) ≡ Ok m.super
  pub root : HasRoot img name m.super m.place m.root
  pub header : eval img (checked_dataset format_limits m.super m.place) ≡ Ok (m.dataset, m.header)
  pub index : IsIndex img m.super.end m.dataset m.fixed m.behind
  pub apart : Disjoint (all_used m)
  pub table : eval img (table_of m.dataset (needed_keys m.dataset)) ≡ Ok m.table

pub bare_of : (img name : List ℕ) (m : Moment) → Represents img name m → Bare img name m
bare_of img name m r = record { super = r.super; root = r.root; header = r.header; index = r.index; apart = r.apart; table = r.table }

pub bare_shows : (img name : List ℕ) (m : Moment) → Bare img name m → Shows format_limits img name (reading_of m)
bare_shows img name m r =
    let d : Described = m.dataset in
    let shown : Reading = reading_of m in
    let header = dataset_ok img m.super m.place (d, m.header) r.header in
    let table = ap (eval img) (cond-false (nat_lt (limit_of format_limits d.layout.index) (needed d)) (ret (Err (read_errors.TooManyChunks (needed d) (limit_of format_limits d.layout.index)))) (table_of d (needed_keys d)) header.1) ∙ r.table in
    and_then_from img (dataset_place name) (λ at. and_then (dataset at) (λ d. and_then (needed_table format_limits d) (λ t. ret (Ok (record { place = at; dataset = d; table = t }))))) m.place shown
    (place_ok img name m.super (m.place, r.root.own) r.super r.root.checked)
    (and_then_from img (dataset m.place) (λ d. and_then (needed_table format_limits d) (λ t. ret (Ok (record { place = m.place; dataset = d; table = t })))) d shown header.0
    (and_then_from img (needed_table format_limits d) (λ t. ret (Ok (record { place = m.place; dataset = d; table = t }))) m.table shown table refl))

pub moment_shows : (img name : List ℕ) (m : Moment) → Represents img name m → Shows format_limits img name (reading_of m)
moment_shows img name m r = bare_shows img name m (bare_of img name m r)

abbrev pub verdict_of : Super → Described → List Used → Option Finding → Result Summary Finding
verdict_of s d us o = elim o [ None ↦ Ok (summary s d us) | Some f ↦ Err f ]

-- ranges that do not meet, without some among them
pub disjoint_drop : (us vs ws : List Used) → Disjoint ((us ++ vs) ++ ws) → Disjoint (us ++ ws)
disjoint_drop [] vs ws d = disjoint_right vs ws d
disjoint_drop (x ∷ us) vs ws d = (d.0, λ v a. d.1 v (go v (among_split v us ws a)), disjoint_drop us vs ws d.2)
  where
    go : (v : Used) → Among v us ⊎ Among v ws → Among v ((us ++ vs) ++ ws)
    go v (inl a) = among_left v (us ++ vs) ws (among_left v us vs a)
    go v (inr a) = among_right v (us ++ vs) ws a

-- the ranges as the check lists them
pub listed : (m : Moment) → the_superblock ∷ m.root ++ m.header ++ (m.fixed ++ m.behind) ≡ all_used m
listed m = ap (λ (us : List Used). the_superblock ∷ us) (append_assoc m.root m.header (m.fixed ++ m.behind))

-- those of the dataset alone
abbrev pub own_used : Moment → List Used → List Used
own_used m root = the_superblock ∷ root ++ m.header ++ (m.fixed ++ m.behind)

own_apart : (img name : List ℕ) (m : Moment) → (r : Represents img name m) → Disjoint (own_used m r.root.own)
own_apart img name m r =
    let h = r.root in
    let rest : List Used = m.header ++ (m.fixed ++ m.behind) in
    let all : Disjoint (the_superblock ∷ ((h.own ++ h.others) ++ rest)) = subst (λ (us : List Used). Disjoint (the_superblock ∷ (us ++ rest))) h.is r.apart in
    let joined : the_superblock ∷ h.own ++ m.header ++ (m.fixed ++ m.behind) ≡ the_superblock ∷ (h.own ++ rest) = ap (λ (us : List Used). the_superblock ∷ us) (append_assoc h.own m.header (m.fixed ++ m.behind)) in
    subst (λ (us : List Used). Disjoint us) (sym joined) (disjoint_drop (the_superblock ∷ h.own) h.others rest all)

pub moment_valid : (img name : List ℕ) (m : Moment) → (r : Represents img name m) → Valid img name (summary m.super m.dataset (own_used m r.root.own))
moment_valid img name m r =
    let s : Super = m.super in
    let d : Described = m.dataset in
    let own : List Used = r.root.own in
    let us : List Used = own_used m own in
    let sm : Summary = summary s d us in
    let none : overlap_of (by_place us) ≡ None = overlap_laws.none us (own_apart img name m r) in
    and_then_from img (ret (checked_super (length img) (range img 0 48))) (λ s.
    and_then (checked_root name s) (λ root.
    and_then (checked_dataset format_limits s root.0) (λ d.
    and_then (index_visit s.end d.0) (λ us.
    ret (verdict s d.0 (the_superblock ∷ root.1 ++ d.1 ++ us)))))) s sm r.super
    (and_then_from img (checked_root name s) (λ root.
    and_then (checked_dataset format_limits s root.0) (λ d.
    and_then (index_visit s.end d.0) (λ us.
    ret (verdict s d.0 (the_superblock ∷ root.1 ++ d.1 ++ us))))) (m.place, own) sm r.root.checked
    (and_then_from img (checked_dataset format_limits s m.place) (λ d.
    and_then (index_visit s.end d.0) (λ us.
    ret (verdict s d.0 (the_superblock ∷ own ++ d.1 ++ us)))) (d, m.header) sm r.header
    (and_then_from img (index_visit s.end d) (λ us. ret (verdict s d (the_superblock ∷ own ++ m.header ++ us))) (m.fixed ++ m.behind) sm r.index.checked
    (ap (verdict_of s d us) none))))

pub moment_reads : (img name : List ℕ) (m : Moment) → Represents img name m → Reads img name m.dataset.shape.rows m.dataset.shape.cols m.values
moment_reads img name m r = record { shown = reading_of m; shows = moment_shows img name m r; rows_are = refl; columns_are = refl; count = r.count; values_are = r.cells }

pub moment_found : MomentFound
moment_found img name m r =
    record { summary = summary m.super m.dataset (own_used m r.root.own); valid = moment_valid img name m r; reads = moment_reads img name m r }

-- whatever the image shows is what is known of it
pub shown_is : (img name : List ℕ) (m : Moment) (r : Reading) → Represents img name m → Shows format_limits img name r → r ≡ reading_of m
shown_is img name m r here shows = same_ok _ r (reading_of m) shows (moment_shows img name m here)

-- ---- From a valid file

pub none_of : (s : Super) (d : Described) (us : List Used) (sm : Summary) (o : Option Finding) → verdict_of s d us o ≡ Ok sm → o ≡ None
none_of s d us sm None h = refl
none_of s d us sm (Some f) h = absurd cc

-- what a valid file is, but for its values
pub record Opened (img name : List ℕ) : Type 0 where
  pub super : Super
  pub place : ℕ
  pub dataset : Described
  pub root : List Used
  pub header : List Used
  pub of_super : checked_super (length img) (range img 0 48) ≡ Ok super
  pub of_root : eval img (checked_root name super) ≡ Ok (place, root)
  pub of_header : eval img (checked_dataset format_limits super place) ≡ Ok (dataset, header)
  pub ranges : List Used
  pub of_index : eval img (index_visit super.end dataset) ≡ Ok ranges
  pub none : overlap_of (by_place (the_superblock ∷ root ++ header ++ ranges)) ≡ None

pub valid_opened : (img name : List ℕ) (sm : Summary) → Valid img name sm → Opened img name
valid_opened img name sm valid =
    let b = range img 0 48 in
    let super = and_then_ok img (ret (checked_super (length img) b)) (λ s.
    and_then (checked_root name s) (λ root.
    and_then (checked_dataset format_limits s root.0) (λ d.
    and_then (index_visit s.end d.0) (λ us.
    ret (verdict s d.0 (the_superblock ∷ root.1 ++ d.1 ++ us)))))) sm valid in
    let s = super.0 in
    let root = and_then_ok img (checked_root name s) (λ root.
    and_then (checked_dataset format_limits s root.0) (λ d.
    and_then (index_visit s.end d.0) (λ us.
    ret (verdict s d.0 (the_superblock ∷ root.1 ++ d.1 ++ us))))) sm super.2 in
    let header = and_then_ok img (checked_dataset format_limits s root.0.0) (λ d.
    and_then (index_visit s.end d.0) (λ us.
    ret (verdict s d.0 (the_superblock ∷ root.0.1 ++ d.1 ++ us)))) sm root.2 in
    let d = header.0.0 in
    let index = and_then_ok img (index_visit s.end d) (λ us. ret (verdict s d (the_superblock ∷ root.0.1 ++ header.0.1 ++ us))) sm header.2 in
    let us : List Used = the_superblock ∷ root.0.1 ++ header.0.1 ++ index.0 in
    record {
      super = s;
      place = root.0.0;
      dataset = d;
      root = root.0.1;
      header = header.0.1;
      of_super = super.1;
      of_root = root.1;
      of_header = header.1;
      ranges = index.0;
      of_index = index.1;
      none = none_of s d us sm (overlap_of (by_place us)) index.2;
    }

pub bare_opened : (img name : List ℕ) (values : List ℤ) → Opened img name → (m : Moment) × Bare img name m × (m.values ≡ values)
bare_opened img name values o =
    let d : Described = o.dataset in
    let root = root_tells img name o.super o.place o.root o.of_root in
    let header = header_tells img format_limits o.super o.place d o.header o.of_header in
    let c = checked_index img o.super.end d o.ranges o.of_index in
    let table = table_laws.there img o.super.end d c.fixed c.behind c.index header.few in
    let m : Moment = record { super = o.super; place = o.place; dataset = d; root = o.root; header = o.header; fixed = c.fixed; behind = c.behind; table = table.0; values = values } in
    let some : AllSome (all_used m) =
    some_cons the_superblock (o.root ++ (o.header ++ (c.fixed ++ c.behind))) (let e : 0 < 48 = omega arith in e)
    (some_joined o.root (o.header ++ (c.fixed ++ c.behind)) root.some (some_joined o.header (c.fixed ++ c.behind) header.some (c.index.some header.sized.bytes))) in
    let all : the_superblock ∷ o.root ++ o.header ++ o.ranges ≡ all_used m = ap (λ (us : List Used). the_superblock ∷ o.root ++ o.header ++ us) c.parts ∙ listed m in
    let none : overlap_of (by_place (all_used m)) ≡ None = subst (λ (us : List Used). overlap_of (by_place us) ≡ None) all o.none in
    (m, record { super = o.of_super; root = record { own = o.root; others = []; is = sym (append-nil o.root); checked = o.of_root; ends = λ u a. absurd a }; header = o.of_header; index = c.index; apart = overlap_laws.apart (all_used m) some none; table = table.1.found }, refl)

-- what an image reads as, told of what it shows
abbrev pub ReadsAs : List ℕ → ℕ → ℕ → List ℤ → Reading → Type 0
ReadsAs img rows columns values r =
    (r.dataset.shape.rows ≡ rows) × (r.dataset.shape.cols ≡ columns) × (length values ≡ r.dataset.shape.rows * r.dataset.shape.cols)
    × ((k : ℕ) → k < length values → cell img r (k / r.dataset.shape.cols) (k % r.dataset.shape.cols) ≡ slice_get values k)

pub opens : Opens
opens img name rows columns values sm valid reads =
    let b = bare_opened img name values (valid_opened img name sm valid) in
    go b.0 b.1 b.2
  where
    go : (m : Moment) → Bare img name m → m.values ≡ values → (m : Moment) × Represents img name m × (m.values ≡ values) × (m.dataset.shape.rows ≡ rows) × (m.dataset.shape.cols ≡ columns)
    go m bare are =
        let same : reads.shown ≡ reading_of m = same_ok _ reads.shown (reading_of m) reads.shows (bare_shows img name m bare) in
        let all : ReadsAs img rows columns values (reading_of m) = subst (λ (r : Reading). ReadsAs img rows columns values r) same (reads.rows_are, reads.columns_are, reads.count, reads.values_are) in
        let also : ReadsAs img rows columns m.values (reading_of m) = subst (λ (vs : List ℤ). ReadsAs img rows columns vs (reading_of m)) (sym are) all in
        (m, record { super = bare.super; root = bare.root; header = bare.header; index = bare.index; apart = bare.apart; table = bare.table; count = also.2; cells = also.3 }, are, also.0, also.1)
