-- What a reading of a valid file is.
use Rattle.std.proofs.Common.{◌≡◌, ◌⊎◌, ℕ, suc, ◌%◌, ◌/◌, ◌≤◌, Bool, true, false, cond, ◌&&◌, ◌||◌, not, List, [], ◌∷◌, length, Result, Ok, Err, refl, sym, ap, ◌∙◌, subst, inl, inr}
use Rattle.std.specs.Prelude.{◌==◌, if◌then◌else◌, nat_lt}
use Rattle.std.proofs.lemmas.Bool.{cases_Bool, cond-false, cond-true, eqb-true, ltb-false, or_cases}
use Rattle.h5w_laws.proofs.NumberLemmas.{needed_count}
use Rattle.h5w_model.specs.Numbers.{range, field}
use Rattle.h5w_model.specs.Programs.{Prog, ret, eval, and_then}
use Rattle.h5w_model.specs.Superblock.{super_at}
use Rattle.h5w_model.specs.Headers.{header_view}
use Rattle.h5w_model.specs.Messages.{ShapeFields, byte, is_shape, shape_at, shape_fields, shape_tests}
use Rattle.h5w_model.specs.Datasets.{Described, FoundMessage, dataset, dataset_messages, dataset_place, described, is_swmr, linked, root_header, super_refusal, superblock, refused_as, then_also}
use Rattle.h5w_model.specs.Tables.{Reading, Shows, address_behind, each_of, format_limits, in_place, limit_of, needed, needed_keys, needed_table, table_of}
use Rattle.h5w_model.specs.declared.cell.Key.{Key}
use Rattle.h5w_model.specs.declared.root.Super.{Super}
use Rattle.h5w_model.specs.declared.refusal.ReadError.{ReadError}
use Rattle.h5w_model.specs.declared.refusal.ReadError.TheVariants.{NotSwmr, TooManyChunks, Unsupported}
use Rattle.h5w_model.proofs.CheckedLemmas.{checked-passed}
use Rattle.h5w_laws.proofs.ResultLemmas.{and_then_ok, refused_ok, then_ok}
use Rattle.h5w_laws.proofs.ValidLemmas.{valid_shows}
use Rattle.h5w_step_laws.proofs.HeaderDescribedLemmas.{parts_of}
use Rattle.h5w_laws.proofs.SeveralLemmas.{each_valid, finds_all}
use Rattle.h5w_laws.specs.Several.{IsShare}
use Rattle.h5w_step_laws.proofs.MomentLemmas.{super_parts}
use Rattle.h5w_model.specs.Findings.{AllSummary, Summary, Valid}
use Rattle.h5w_model.specs.Relations.{AllPaired}
use Rattle.h5w_step_laws.proofs.ShapeLemmas.{by_rank}
use Rattle.h5w_several_laws.specs.Together.{IsAllValid}
use Rattle.h5w_survey.specs.Surveys.{IsWhole, is_written}

-- ---- The shape

shaped_by : (space : List ℕ) (s : ShapeFields) → shape_at space ≡ Ok s → is_shape s ≡ true
unfolding shape_at shape_tests shape_fields
shaped_by space s h =
    let shape = checked-passed (shape_tests space) (shape_fields space) s h in
    let ranked = or_cases (byte space 1 == 1) (byte space 1 == 2) shape.0.1.1.0 in
    let rank : (byte space 1 ≡ 1) ⊎ (byte space 1 ≡ 2) = elim ranked [ inl t ↦ inl (eqb-true (byte space 1) 1 t) | inr t ↦ inr (eqb-true (byte space 1) 2 t) ] in
    subst (λ (x : ShapeFields). is_shape x ≡ true) shape.1 (by_rank (byte space 1) (field space 4 8) (field space 12 8) (field space 28 8) rank shape.0.1.1.1.1.1.1.1.0)

-- ---- A reading

-- each program of a list answers once
each_count : (img : List ℕ) (p : Key → Prog (Result ℕ ReadError)) (ks : List Key) (xs : List ℕ) → eval img (each_of p ks) ≡ Ok xs → length xs ≡ length ks
each_count img p [] xs h = let e : [] ≡ xs = cc in sym (ap length e)
each_count img p (k ∷ ks) xs h =
    let first = and_then_ok img (p k) (λ a. and_then (each_of p ks) (λ rest. ret (Ok (a ∷ rest)))) xs h in
    let rest = and_then_ok img (each_of p ks) (λ rest. ret (Ok (first.0 ∷ rest))) xs first.2 in
    let e : first.0 ∷ rest.0 ≡ xs = (let g = rest.2 in cc) in
    sym (ap length e) ∙ ap (λ n. suc n) (each_count img p ks rest.0 rest.1)

table_count : (img : List ℕ) (d : Described) (ks : List Key) (xs : List ℕ) → eval img (table_of d ks) ≡ Ok xs → length xs ≡ length ks
table_count img d [] xs h = let e : [] ≡ xs = cc in sym (ap length e)
table_count img d (k ∷ ks) xs h =
    let place = and_then_ok img (in_place d) (λ p. each_of (address_behind p) (k ∷ ks)) xs h in
    each_count img (address_behind place.0) (k ∷ ks) xs place.2

-- a table within the limit
pub record TableFound (d : Described) (xs : List ℕ) : Type 0 where
  pub few : needed d ≤ limit_of format_limits d.layout.index
  pub listed : length xs ≡ needed d

abbrev too_many : Described → Prog (Result (List ℕ) ReadError)
too_many d = ret (Err (TooManyChunks (needed d) (limit_of format_limits d.layout.index)))

abbrev is_past : Described → Bool
is_past d = nat_lt (limit_of format_limits d.layout.index) (needed d)

no_table : (d : Described) (xs : List ℕ) → ◌≡◌ {A = Result (List ℕ) ReadError} (Err (TooManyChunks (needed d) (limit_of format_limits d.layout.index))) (Ok xs) → ⊥
no_table d xs e = cc

table_found : (img : List ℕ) (d : Described) (xs : List ℕ) → eval img (needed_table format_limits d) ≡ Ok xs → TableFound d xs
table_found img d xs h = go (cases_Bool (is_past d))
  where
    go : (is_past d ≡ true) ⊎ (is_past d ≡ false) → TableFound d xs
    go (inl past) = absurd (no_table d xs (sym (ap (eval img) (cond-true (is_past d) (too_many d) (table_of d (needed_keys d)) past)) ∙ h))
    go (inr within) = record {
      few = ltb-false (limit_of format_limits d.layout.index) (needed d) within;
      listed = table_count img d (needed_keys d) xs (sym (ap (eval img) (cond-false (is_past d) (too_many d) (table_of d (needed_keys d)) within)) ∙ h) ∙ needed_count d;
    }

-- the parts of what is shown
pub record Shown (img name : List ℕ) (r : Reading) : Type 0 where
  pub super : Super
  pub decoded : super_at (range img 0 48) ≡ Ok super
  pub messages : List FoundMessage
  pub says : described messages ≡ Ok r.dataset
  pub table : TableFound r.dataset r.table

shown_parts : (img name : List ℕ) (r : Reading) → Shows format_limits img name r → Shown img name r
shown_parts img name r h =
    let behind : ℕ → Described → Prog (Result Reading ReadError) = λ at d. and_then (needed_table format_limits d) (λ t. ret (Ok (record { place = at; dataset = d; table = t }))) in
    let at = and_then_ok img (dataset_place name) (λ at. and_then (dataset at) (behind at)) r h in
    let d = and_then_ok img (dataset at.0) (behind at.0) r at.2 in
    let t = and_then_ok img (needed_table format_limits d.0) (λ t. ret (Ok (record { place = at.0; dataset = d.0; table = t }))) r d.2 in
    let s = and_then_ok img superblock (λ s. and_then (root_header s.root) (λ h. ret (linked name h.messages))) at.0 at.1 in
    let read = then_ok (refused_as super_refusal (super_at (range img 0 48))) (λ s. if is_swmr s then Ok s else Err (NotSwmr s.flags)) s.0 s.1 in
    let v = header_view (range img at.0 512) in
    let m = and_then_ok img (dataset_messages at.0 v) (λ h. ret (refused_as Unsupported (described h.messages))) d.0 d.1 in
    let made : Reading = record { place = at.0; dataset = d.0; table = t.0 } in
    let same : made ≡ r = (let e = t.2 in cc) in
    subst (λ (x : Reading). Shown img name x) same
    (record {
      super = read.0;
      decoded = refused_ok super_refusal (super_at (range img 0 48)) read.0 read.1;
      messages = m.0.messages;
      says = refused_ok Unsupported (described m.0.messages) d.0 m.2;
      table = table_found img d.0 t.0 t.1;
    })

-- what an image shows is whole
pub shown_whole : (img name : List ℕ) (r : Reading) → Shows format_limits img name r → IsWhole r
shown_whole img name r shows =
    let h = shown_parts img name r shows in
    let parts = parts_of h.messages r.dataset h.says in
    record { shaped = shaped_by parts.space r.dataset.shape parts.shape; listed = h.table.listed; few = h.table.few }

-- what a valid file shows by each of its names
pub record AllShown (img : List ℕ) (names : List (List ℕ)) : Type 0 where
  pub readings : List Reading
  pub each : AllPaired (Shows format_limits img) names readings

shown_each : (img : List ℕ) (t : AllSummary) (names : List (List ℕ)) (rows : List ℕ) → AllPaired (λ (name : List ℕ) (n : ℕ). (s : Summary) × Valid img name s × IsShare t n s) names rows → AllShown img names
shown_each img t [] rows h = record { readings = []; each = tt }
shown_each img t (name ∷ names) [] h = absurd h
shown_each img t (name ∷ names) (n ∷ rows) h =
    let one = valid_shows img name (h.0).0 (h.0).1 in
    let rest = shown_each img t names rows h.1 in
    record { readings = one.shown ∷ rest.readings; each = (one.shows, rest.each) }

pub valid_shown : (img : List ℕ) (names : List (List ℕ)) → IsAllValid img names → AllShown img names
valid_shown img names valid = shown_each img valid.0 names valid.0.rows (each_valid img names valid.0 valid.1)

-- and it has a superblock
pub valid_super : (img : List ℕ) (names : List (List ℕ)) → IsAllValid img names → (s : Super) × (super_at (range img 0 48) ≡ Ok s)
valid_super img names valid =
    let has = (finds_all format_limits img names valid.0).0 valid.1 in
    (has.superblock, (super_parts (length img) (range img 0 48) has.superblock has.found).read)

-- ---- The superblock

swmr_by : (version flags : ℕ) (a b c : Bool) → (version == 2) ≡ a → (flags % 2 == 0) ≡ b → (flags / 4 % 2 == 0) ≡ c → (not a && (not b || not c)) ≡ false → ((version == 2) || (flags % 2 == flags / 4 % 2)) ≡ true
swmr_by version flags true b c e f g h = ap (λ x. x || (flags % 2 == flags / 4 % 2)) e
swmr_by version flags false true true e f g h =
    let low : flags % 2 ≡ 0 = eqb-true (flags % 2) 0 f in
    let high : flags / 4 % 2 ≡ 0 = eqb-true (flags / 4 % 2) 0 g in
    ap (λ x. x || (flags % 2 == flags / 4 % 2)) e ∙ ap (λ n. n == flags / 4 % 2) low ∙ ap (λ n. 0 == n) high
swmr_by version flags false true false e f g h = absurd cc
swmr_by version flags false false c e f g h = absurd cc

-- of a file that nobody writes the superblock is read
pub closed_read : (img : List ℕ) (s : Super) → super_at (range img 0 48) ≡ Ok s → is_written s ≡ false → eval img superblock ≡ Ok s
closed_read img s decoded closed =
    let swmr : is_swmr s ≡ true = swmr_by s.version s.flags (s.version == 2) (s.flags % 2 == 0) (s.flags / 4 % 2 == 0) refl refl refl closed in
    ap (λ r. then_also (refused_as super_refusal r) (λ x. if is_swmr x then Ok x else Err (NotSwmr x.flags))) decoded ∙ ap (λ b. cond b (Ok s) (Err (NotSwmr s.flags))) swmr
