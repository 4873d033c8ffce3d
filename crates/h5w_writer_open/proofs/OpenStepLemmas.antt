-- How the steps of an opening compose, and what each of them means for the whole.
use Rattle.std.proofs.Common.{◌≡◌, ◌≢◌, ◌⊎◌, ℕ, ◌-◌, ◌^◌, min, Bool, true, false, cond, not, ◌&&◌, List, [], ◌∷◌, ◌++◌, take, Option, Some, None, Result, Ok, Err, refl, sym, ap, ◌∙◌, subst, inl, inr, arith}
use Rattle.std.specs.Prelude.{IfErr, nat_lt, option_map, ◌==◌}
use Rattle.std.specs.Option.{option_or}
use Rattle.h5w_model.specs.Causes.{Rose}
use Rattle.h5w_model.specs.Numbers.{range, undefined}
use Rattle.h5w_model.specs.Programs.{eval}
use Rattle.h5w_model.specs.Headers.{header_view}
use Rattle.h5w_model.specs.Datasets.{Described, dataset_messages, FoundMessage}
use Rattle.h5w_model.specs.Findings.{chunk_bytes}
use Rattle.h5w_image.specs.View.{ImageView, Looked}
use Rattle.h5w_image.proofs.ViewLemmas.{looked_itself, looked_twice}
use Rattle.h5w_looks.specs.Still.{IsStill}
use Rattle.h5w_looks.proofs.ReadLemmas.{still_on}
use Rattle.h5w_headers.specs.Ran.{Ran, Refuses, seen}
use Rattle.h5w_headers.specs.Walks.{dataset_header_for}
use Rattle.h5w_headers.proofs.RanLemmas.{later}
use Rattle.h5w_model.specs.declared.cell.IndexKind.TheVariants.{Array, Tree}
use Rattle.h5w_model.specs.declared.cell.Key.{Key}
use Rattle.h5w_array_laws.specs.ArrayStores.{IsArray, header_place}
use Rattle.h5w_ea_index.specs.Opened.{IsDamaged, IsOpened, IfDamaged as IfArrayDamaged, Loads as ArrayLoads, NamesNone}
use Rattle.h5w_cache.specs.Stores.{Store}
use Rattle.h5w_bt_index.specs.Held as trees
use Rattle.h5w_bt_index.specs.Marks.{clean_of}
use Rattle.h5w_bt_index.specs.declared.index.TreeIndex.{TreeIndex}
use Rattle.h5w_bt_open.specs.Kept.{IsKeptTree, KeptOrOther}
use Rattle.h5w_bt_open.specs.declared.kept.Kept.{Kept}
use Rattle.h5w_bt_open.specs.declared.kept.Kept.TheVariants as keeps
use Rattle.h5w_bt_open.specs.Calls.{IfDamaged as IfTreeDamaged, Loads as TreeLoads}
use Rattle.h5w_bt_open.specs.Opened.{IsRefused, from_key, looked_in}
use Rattle.h5w_bt_open.specs.Spans.{Leads}
use Rattle.h5w_bt_open.specs.declared.error.OpenTreeError.{OpenTreeError}
use Rattle.h5w_bt_open.specs.declared.error.OpenTreeError.TheVariants as tree_errors
use Rattle.h5w_index.specs.Held.{view_of}
use Rattle.h5w_index.specs.Views.{IndexView}
use Rattle.h5w_index.specs.declared.index.Index.{Index as HeldIndex}
use Rattle.h5w_index.specs.declared.index.Index.TheVariants.{Array as HeldArray, Tree as HeldTree}
use Rattle.h5w_ea_index.specs.declared.error.OpenArrayError.{OpenArrayError}
use Rattle.h5w_ea_index.specs.declared.error.OpenArrayError.TheVariants as array_errors
use Rattle.h5w_step_laws.specs.Files.{chunk_0}
use Rattle.h5w_step_laws.proofs.FileLaws.{has_space, has_layout}
use Rattle.h5w_step_laws.proofs.ImageLemmas.{header_read}
use Rattle.h5w_space.specs.declared.Extent.{Extent}
use Rattle.h5w_opening.specs.Errors.{IsOpenKind, open_errors, refusal_of}
use Rattle.h5w_opening.specs.Openings.{Opened, chunk_0_len, looked_for, most_chunk_bytes, refused_dataset, in_chunk_0}
use Rattle.h5w_opening.specs.Views.{opened_of}
use Rattle.h5w_opening.specs.declared.error.OpenError.{OpenError}
use Rattle.h5w_opening.specs.declared.error.OpenError.TheVariants.{Read, Version, Flags, Cut, Same, Failed, OutOfMemory, Layout, ChunkBytes, NoColumns, Finding}
use Rattle.h5w_opening.specs.declared.finding.Opening.{Opening}
use Rattle.h5w_opening.proofs.FoundParts.{HeaderFound, parts}
use Rattle.h5w_opening.proofs.WritingLemmas.{alike_ok, dataset_alike}
use Rattle.h5w_writer_open.specs.declared.index.NoIndex.{NoIndex}
use Rattle.h5w_writer_open.specs.declared.index.NoIndex.TheVariants as whys
use Rattle.h5w_writer_open.specs.OpenAnswers.{IfRefusal, IsIndexOf, IsKeptIndexOf, IsNotOpened, array, damaged, refused, tree}
use Rattle.h5w_writer_open.specs.OpenRanges.{chunk_0_range, cut_at, first_key, first_open_line, first_past, open_blocks, open_chunks, ranges_refused, refused_index, refused_open, is_starting}
use Rattle.h5w_writer_open.specs.OpenSteps.{IsBadIndex, IsFoundIn, IsOpenedFile, OpenStep, array_error, front_of, tree_error, IsKeptHeader}
use Rattle.h5w_writer.specs.Sessions.{IsWritable, HasAddress}
use Rattle.h5w_writer_open.proofs.SessionOver.{in_chunk, starts_so, unrefused_parts}

-- ---- Refusals

pub refusal_map : (o : Option OpenError) (P Q : OpenError → Type 0) → ((e : OpenError) → P e → Q e) → IfRefusal o P → IfRefusal o Q
refusal_map (Some e) P Q f h = f e h
refusal_map None P Q f h = tt

abbrev as_error : {A : Type 0} → OpenError → Result A OpenError
as_error e = Err e

same_error : {A B : Type 0} (e : OpenError) → as_error {A = A} e ≡ Err Failed → as_error {A = B} e ≡ Err Failed
same_error e h = let g : e ≡ Failed = cc in ap (λ x. Err x) g

-- no failed image, and where it refuses to read for its bytes
abbrev pub IsQuiet : OpenError → Type 0
IsQuiet e = IsOpenKind e × (e ≢ Failed)

-- ---- Steps

-- one step answered, and another was refused, whose answer would have been another's
pub step_then_stop : {A B C : Type 0} {v w x : ImageView} {P : List ℕ → A → Type 0} {Q : List ℕ → OpenError → Type 0} {R : List ℕ → B → Type 0} {S : List ℕ → OpenError → Type 0} (T : List ℕ → C → Type 0) (U : List ℕ → OpenError → Type 0) (a : A)
    (e : OpenError) → OpenStep v w P Q (Ok a) → OpenStep w x R S (Err e) → ((img : List ℕ) → P img a → (f : OpenError) → S img f → U img f) → OpenStep {A = C} v x T U (Err e)
step_then_stop {B = B} {C = C} {v = v} {w = w} {x = x} {P = P} {S = S} T U a e one two bad = record {
  looked = looked_twice one.looked two.looked;
  cause = λ h. later v.faults w.faults x.faults one.looked.faults (two.cause (same_error {A = C} {B = B} e h));
  kinds = two.kinds;
  exact = λ img still. refusal_map (refusal_of e) (S img) (U img) (bad img (one.exact img still)) (two.exact img (still_on img one.looked still));
}

-- a step was refused
pub step_stop : {A B : Type 0} {v w : ImageView} {P : List ℕ → A → Type 0} {Q : List ℕ → OpenError → Type 0} (T : List ℕ → B → Type 0) (U : List ℕ → OpenError → Type 0) (e : OpenError)
    → OpenStep {A = A} v w P Q (Err e) → ((img : List ℕ) (f : OpenError) → Q img f → U img f) → OpenStep {A = B} v w T U (Err e)
step_stop {A = A} {B = B} {Q = Q} T U e one bad = record {
  looked = one.looked;
  cause = λ h. one.cause (same_error {A = B} {B = A} e h);
  kinds = one.kinds;
  exact = λ img still. refusal_map (refusal_of e) (Q img) (U img) (bad img) (one.exact img still);
}

-- a step answered, and then what looks at no image was refused
pub step_refused : {A B : Type 0} {v w : ImageView} {P : List ℕ → A → Type 0} {Q : List ℕ → OpenError → Type 0} (T : List ℕ → B → Type 0) (U : List ℕ → OpenError → Type 0) (a : A) (e : OpenError)
    → OpenStep v w P Q (Ok a) → IsQuiet e → ((img : List ℕ) → P img a → IfRefusal (refusal_of e) (U img)) → OpenStep {A = B} v w T U (Err e)
step_refused {B = B} T U a e one quiet bad = record {
  looked = one.looked;
  cause = λ h. absurd (quiet.1 (is_failed h));
  kinds = quiet.0;
  exact = λ img still. bad img (one.exact img still);
}
  where
    is_failed : as_error {A = B} e ≡ Err Failed → e ≡ Failed
    is_failed h = cc

-- two steps answered
pub step_both : {A B C : Type 0} {v w x : ImageView} {P : List ℕ → A → Type 0} {Q : List ℕ → OpenError → Type 0} {R : List ℕ → B → Type 0} {S : List ℕ → OpenError → Type 0} (T : List ℕ → C → Type 0) (U : List ℕ → OpenError → Type 0) (a : A) (b : B)
    (c : C) → OpenStep v w P Q (Ok a) → OpenStep w x R S (Ok b) → ((img : List ℕ) → P img a → R img b → T img c) → OpenStep v x T U (Ok c)
step_both T U a b c one two good = record {
  looked = looked_twice one.looked two.looked;
  cause = λ e. absurd cc;
  kinds = tt;
  exact = λ img still. good img (one.exact img still) (two.exact img (still_on img one.looked still));
}

as_refusal : {A : Type 0} (given : Result A OpenError) (o : Option OpenError) → Refuses given o → IfRefusal o (λ e. given ≡ Err e)
as_refusal given (Some e) h = h
as_refusal given None h = tt

-- a step that is told by what an image gives
pub told_step : {A B : Type 0} {v w : ImageView} (given : List ℕ → Result B OpenError) (f : A → B) (r : Result A OpenError) → Ran open_errors v w given (seen f r) → IfErr r IsOpenKind
    → OpenStep v w (λ img a. given img ≡ Ok (f a)) (λ img e. given img ≡ Err e) r
told_step given f (Ok a) ran kinds = record { looked = ran.looked; cause = λ e. absurd cc; kinds = tt; exact = ran.exact }
told_step {A = A} {B = B} given f (Err e) ran kinds = record {
  looked = ran.looked;
  cause = λ h. ran.cause (same_error {A = A} {B = B} e h);
  kinds = kinds;
  exact = λ img still. as_refusal (given img) (refusal_of e) (ran.exact img still);
}

pub ran_step : {v w : ImageView} (size : ℕ) (name : List ℕ) (r : Result Opening OpenError) → Ran open_errors v w (λ img. eval img (looked_for size name)) (seen opened_of r) → IfErr r IsOpenKind
    → OpenStep v w (λ img o. eval img (looked_for size name) ≡ Ok (opened_of o)) (λ img e. eval img (looked_for size name) ≡ Err e) r
ran_step size name r ran kinds = told_step (λ img. eval img (looked_for size name)) opened_of r ran kinds

-- what looks at no image was refused
pub step_none : {A : Type 0} {v : ImageView} (T : List ℕ → A → Type 0) (U : List ℕ → OpenError → Type 0) (e : OpenError) → IsQuiet e → ((img : List ℕ) → IfRefusal (refusal_of e) (U img)) → OpenStep {A = A} v v T U (Err e)
step_none {A = A} {v = v} T U e quiet bad = record { looked = looked_itself v; cause = λ h. absurd (quiet.1 (is_failed h)); kinds = quiet.0; exact = λ img still. bad img }
  where
    is_failed : as_error {A = A} e ≡ Err Failed → e ≡ Failed
    is_failed h = cc

-- a step answered, and nothing more is looked at
pub step_on : {A B : Type 0} {v w : ImageView} {P : List ℕ → A → Type 0} {Q : List ℕ → OpenError → Type 0} (T : List ℕ → B → Type 0) (U : List ℕ → OpenError → Type 0) (a : A) (b : B) → OpenStep v w P Q (Ok a) → ((img : List ℕ) → P img a → T img b)
    → OpenStep v w T U (Ok b)
step_on T U a b one good = record { looked = one.looked; cause = λ e. absurd cc; kinds = tt; exact = λ img still. good img (one.exact img still) }

-- chunk 0 of what was found can be written
pub record IsKeptFront (img : List ℕ) (o : Opened) : Type 0 where
  pub same : front_of img o.place o.header.len ≡ chunk_0 img o.place
  pub writable : IsWritable (chunk_0 img o.place)
  pub addressed : o.header.in_chunk_0 ≡ true → HasAddress (chunk_0 img o.place)

pub front_kept : (img : List ℕ) (o : Opened) → HeaderFound img o.place o.header → IsKeptFront img o
front_kept img o p =
    let read = alike_ok (eval img (dataset_messages o.place (header_view (range img o.place 512)))) (eval img (dataset_header_for true o.place)) p.header (dataset_alike img o.place) p.read in
    let r = header_read img o.place p.header read in
    let x = has_space img o.place p.header o.header.dataset r p.says in
    let len : o.header.len ≡ r.prefix.total = p.len ∙ ap chunk_0_len r.ranges in
    let short : min o.header.len 512 ≡ r.prefix.total = omega (arith, len, r.short) in
    record {
      same = ap (range img o.place) short ∙ sym r.view;
      addressed = λ inside.
          let chosen : Option FoundMessage → Bool = λ f. elim f [ Some y ↦ y.in_chunk_0 | None ↦ false ] in
          let here : in_chunk_0 p.header.messages ≡ true = sym p.in_chunk ∙ inside in
          let y = has_layout img o.place p.header o.header.dataset r p.says (λ y first. sym (ap chosen first) ∙ here) in
          record { list = r.listed; layout = y.layout; read = r.read; first = y.found; room = y.room };
      writable = record { some = omega (arith, r.long, r.some); list = r.listed; space = x.space; read = r.read; first = x.found; long = x.long };
    }

pub kept_front : (img : List ℕ) (size : ℕ) (name : List ℕ) (o : Opened) → eval img (looked_for size name) ≡ Ok o → IsKeptFront img o
kept_front img size name o is =
    let p = parts img size name o is in
    front_kept img o (record { header = p.header; read = p.header_read; says = p.says; len = p.len; in_chunk = p.in_chunk })

-- ---- What refuses an opening is no failed image, and is refused for its bytes

or_some : {A : Type 0} (a b : Option A) (x : A) → option_or a b ≡ Some x → (a ≡ Some x) ⊎ (b ≡ Some x)
or_some (Some a) b x h = inl h
or_some None b x h = inr h

abbrev some_error : OpenError → Option OpenError
some_error e = Some e

quiet_so : (x e : OpenError) → some_error x ≡ Some e → IsQuiet x → IsQuiet e
quiet_so x e h quiet = let same : x ≡ e = cc in subst IsQuiet same quiet

cut_quiet : (end : ℕ) (o : Option Extent) (e : OpenError) → option_map (cut_at end) o ≡ Some e → IsQuiet e
cut_quiet end (Some r) e h = quiet_so (cut_at end r) e h (tt, λ f. absurd cc)
cut_quiet end None e h = absurd cc

dataset_quiet : (a b c : Bool) (n : ℕ) (e : OpenError) → cond a (Some Layout) (cond b (Some (ChunkBytes n most_chunk_bytes)) (cond c (Some NoColumns) None)) ≡ Some e → IsQuiet e
dataset_quiet true b c n e h = quiet_so Layout e h (tt, λ f. absurd cc)
dataset_quiet false true c n e h = quiet_so (ChunkBytes n most_chunk_bytes) e h (tt, λ f. absurd cc)
dataset_quiet false false true n e h = quiet_so NoColumns e h (tt, λ f. absurd cc)
dataset_quiet false false false n e h = absurd cc

index_quiet : (d : Described) (a : Result IndexView NoIndex) (e : OpenError) → refused_index d a ≡ Some e → IsQuiet e
index_quiet d (Ok v) e h = absurd cc
index_quiet d (Err whys.Unnamed) e h = absurd cc
index_quiet d (Err whys.Empty) e h = absurd cc
index_quiet d (Err whys.WrongTotals) e h = quiet_so (Finding 15 d.layout.address) e h (inl refl, λ f. absurd cc)
index_quiet d (Err whys.Unordered) e h = quiet_so (Finding 16 d.layout.address) e h (inr refl, λ f. absurd cc)

ranges_quiet : (end : ℕ) (far past : Option Extent) (e : OpenError) → option_or (option_map (cut_at 0) far) (option_map (cut_at end) past) ≡ Some e → IsQuiet e
ranges_quiet end far past e h = elim (or_some (option_map (cut_at 0) far) (option_map (cut_at end) past) e h) [
  | inl f ↦ cut_quiet 0 far e f
  | inr p ↦ cut_quiet end past e p
]

pub refused_quiet : (o : Opened) (a : Result IndexView NoIndex) (e : OpenError) → refused_open o a ≡ Some e → IsQuiet e
refused_quiet o a e h = elim (or_some (ranges_refused o a) (option_or (refused_dataset o) (refused_index o.header.dataset a)) e h) [
  | inl r ↦ ranges_quiet o.root.end (first_past (2 ^ 64 - 1) (take 3 (chunk_0_range o ∷ open_blocks o.header.dataset a) ++ open_chunks o.header.dataset a))
      (first_past o.root.end ((chunk_0_range o ∷ open_blocks o.header.dataset a) ++ open_chunks o.header.dataset a)) e r
  | inr r ↦ elim (or_some (refused_dataset o) (refused_index o.header.dataset a) e r) [
    | inl d ↦ dataset_quiet ((o.header.dataset.layout.address == undefined) && not o.header.in_chunk_0) (nat_lt most_chunk_bytes (chunk_bytes o.header.dataset)) (o.header.dataset.shape.cols == 0) (chunk_bytes o.header.dataset) e d
    | inr i ↦ index_quiet o.header.dataset a e i
  ]
]

-- what is said of each refusal
pub some_refusal : (P : OpenError → Type 0) (e : OpenError) → P e → IfRefusal (refusal_of e) P
some_refusal P (Read x) h = h
some_refusal P (Version version) h = h
some_refusal P (Flags flags) h = h
some_refusal P (Cut end size) h = h
some_refusal P (Same first second) h = h
some_refusal P Layout h = h
some_refusal P (ChunkBytes bytes limit) h = h
some_refusal P NoColumns h = h
some_refusal P (Finding kind at) h = h
some_refusal P Failed h = tt
some_refusal P OutOfMemory h = tt

-- a refusal of what was found refuses the file
pub refused_file : (img : List ℕ) (size : ℕ) (name : List ℕ) (o : Opened) (a : Result IndexView NoIndex) (e : OpenError) → IsFoundIn img size name o a → (refused_open o a ≡ Some e) ⊎ (e ≡ OutOfMemory) → IfRefusal (refusal_of e) (IsNotOpened img size name)
refused_file img size name o a e f (inl h) = some_refusal (IsNotOpened img size name) e (refused o a e f.is f.index h)
refused_file img size name o a e f (inr h) = subst (λ g. IfRefusal (refusal_of g) (IsNotOpened img size name)) (sym h) tt

-- ---- The index

-- what is said of a step that opens the index
abbrev pub index_good : Described → List ℕ → Result HeldIndex NoIndex → Type 0
index_good d img a = IsIndexOf img d (seen view_of a)

abbrev pub index_bad : Described → List ℕ → OpenError → Type 0
index_bad d img e = IsBadIndex img d e

abbrev as_array : OpenArrayError → Result (Option Store) OpenArrayError
as_array e = Err e

abbrev as_tree : OpenTreeError → Result Kept OpenTreeError
as_tree e = Err e

-- an array that is not opened
pub bad_array : {v w : ImageView} (d : Described) (first : ℕ) (e : OpenArrayError) (out : OpenError) → d.layout.index ≡ Array → d.layout.address ≢ undefined → first ≡ first_open_line d → out ≡ array_error e
    → ArrayLoads {A = Option Store} v w (λ img a f. IsDamaged img d.layout.address first a f) (Err e) → OpenStep {A = Result HeldIndex NoIndex} v w (index_good d) (index_bad d) (Err out)
bad_array {v = v} {w = w} d first e out kind named from is loads =
    subst (λ x. OpenStep {A = Result HeldIndex NoIndex} v w (index_good d) (index_bad d) (Err x)) (sym is)
    (record {
      looked = loads.looked;
      cause = λ h. failed e h loads.cause;
      kinds = by_bytes e;
      exact = λ img still. told img e (loads.damaged img still);
    })
  where
    by_bytes : (f : OpenArrayError) → IsOpenKind (array_error f)
    by_bytes (array_errors.Damaged a f) = tt
    by_bytes array_errors.Failed = tt
    by_bytes array_errors.OutOfMemory = tt

    failed : (f : OpenArrayError) → as_error {A = Result HeldIndex NoIndex} (array_error f) ≡ Err Failed → (as_array f ≡ Err array_errors.Failed → Rose v.faults w.faults) → Rose v.faults w.faults
    failed (array_errors.Damaged a f) h rose = absurd cc
    failed array_errors.Failed h rose = rose refl
    failed array_errors.OutOfMemory h rose = absurd cc

    told : (img : List ℕ) (f : OpenArrayError) → IfArrayDamaged f (λ a x. IsDamaged img d.layout.address first a x) → IfRefusal (refusal_of (array_error f)) (index_bad d img)
    told img (array_errors.Damaged a f) h = record { at = a; fault = f; bad = array kind named (subst (λ n. IsDamaged img d.layout.address n a f) from h); is = refl }
    told img array_errors.Failed h = tt
    told img array_errors.OutOfMemory h = tt

-- an array that is opened, or whose header names no index block
module _ {v w : ImageView} (d : Described) (first : ℕ) (array_is : d.layout.index ≡ Array) (named : d.layout.address ≢ undefined) (looked : Looked v w) where
  pub good_array : (a : Store) → first ≡ first_open_line d → header_place a ≡ d.layout.address → IsArray a → a.changed ≡ [] → ((img : List ℕ) → IsStill v img → IsOpened img first a) → OpenStep v w (index_good d) (index_bad d) (Ok (Ok (HeldArray a)))
  good_array a from at is clean opened = record {
    looked = looked;
    cause = λ h. absurd cc;
    kinds = tt;
    exact = λ img still. record { kind = array_is; named = named; at = at; array = is; clean = clean; opened = subst (λ n. IsOpened img n a) from (opened img still) };
  }

  pub empty_array : ((img : List ℕ) → IsStill v img → NamesNone img d.layout.address) → OpenStep v w (index_good d) (index_bad d) (Ok (Err whys.Empty))
  empty_array none = record { looked = looked; cause = λ h. absurd cc; kinds = tt; exact = λ img still. record { kind = array_is; named = named; empty = none img still } }

-- and a tree
pub bad_tree : {v w : ImageView} (d : Described) (first : Key) (e : OpenTreeError) (out : OpenError) → d.layout.index ≡ Tree → d.layout.address ≢ undefined → first ≡ first_key d → out ≡ tree_error e
    → TreeLoads {A = Kept} v w (λ img a f. IsRefused (looked_in img d.layout.address) (Leads (from_key first)) a f) (Err e) → OpenStep {A = Result HeldIndex NoIndex} v w (index_good d) (index_bad d) (Err out)
bad_tree {v = v} {w = w} d first e out kind named from is loads =
    subst (λ x. OpenStep {A = Result HeldIndex NoIndex} v w (index_good d) (index_bad d) (Err x)) (sym is)
    (record {
      looked = loads.looked;
      cause = λ h. failed e h loads.cause;
      kinds = by_bytes e;
      exact = λ img still. told img e (loads.damaged img still);
    })
  where
    by_bytes : (f : OpenTreeError) → IsOpenKind (tree_error f)
    by_bytes (tree_errors.Damaged a f) = tt
    by_bytes tree_errors.Failed = tt
    by_bytes tree_errors.OutOfMemory = tt

    failed : (f : OpenTreeError) → as_error {A = Result HeldIndex NoIndex} (tree_error f) ≡ Err Failed → (as_tree f ≡ Err tree_errors.Failed → Rose v.faults w.faults) → Rose v.faults w.faults
    failed (tree_errors.Damaged a f) h rose = absurd cc
    failed tree_errors.Failed h rose = rose refl
    failed tree_errors.OutOfMemory h rose = absurd cc

    told : (img : List ℕ) (f : OpenTreeError) → IfTreeDamaged f (λ a x. IsRefused (looked_in img d.layout.address) (Leads (from_key first)) a x) → IfRefusal (refusal_of (tree_error f)) (index_bad d img)
    told img (tree_errors.Damaged a f) h = record { at = a; fault = f; bad = tree kind named (subst (λ k. IsRefused (looked_in img d.layout.address) (Leads (from_key k)) a f) from h); is = refl }
    told img tree_errors.Failed h = tt
    told img tree_errors.OutOfMemory h = tt

-- a tree that is opened, or why it is not kept
module _ {v w : ImageView} (d : Described) (first : Key) (tree_is : d.layout.index ≡ Tree) (named : d.layout.address ≢ undefined) (from : first ≡ first_key d) (looked : Looked v w) (found : Kept)
    (exact : (img : List ℕ) → IsStill v img → KeptOrOther img d.layout.address first found) where
  exact_as : (k : Kept) → found ≡ k → (img : List ℕ) → IsStill v img → KeptOrOther img d.layout.address (first_key d) k
  exact_as k is img still = subst (λ (key : Key). KeptOrOther img d.layout.address key k) from (subst (λ (x : Kept). KeptOrOther img d.layout.address first x) is (exact img still))

  pub good_tree : (t : TreeIndex) → found ≡ keeps.Tree t → trees.header_place t ≡ d.layout.address → clean_of (trees.view_of t).depth (trees.view_of t).root ≡ true → OpenStep v w (index_good d) (index_bad d) (Ok (Ok (HeldTree t)))
  good_tree t is at clean = record {
    looked = looked;
    cause = λ h. absurd cc;
    kinds = tt;
    exact = λ img still. record {
      kind = tree_is;
      named = named;
      at = at;
      clean = clean;
      tree = subst (λ n. IsKeptTree img n (first_key d) (trees.view_of t)) (sym at) (exact_as (keeps.Tree t) is img still);
    };
  }

  pub wrong_tree : found ≡ keeps.WrongTotals → OpenStep v w (index_good d) (index_bad d) (Ok (Err whys.WrongTotals))
  wrong_tree is = record { looked = looked; cause = λ h. absurd cc; kinds = tt; exact = λ img still. record { kind = tree_is; named = named; other = exact_as keeps.WrongTotals is img still } }

  pub unordered_tree : found ≡ keeps.Unordered → OpenStep v w (index_good d) (index_bad d) (Ok (Err whys.Unordered))
  unordered_tree is = record { looked = looked; cause = λ h. absurd cc; kinds = tt; exact = λ img still. record { kind = tree_is; named = named; other = exact_as keeps.Unordered is img still } }

-- a bad index refuses the file
pub bad_index : (img : List ℕ) (size : ℕ) (name : List ℕ) (o : Opened) (e : OpenError) → eval img (looked_for size name) ≡ Ok o → IsBadIndex img o.header.dataset e → IsNotOpened img size name e
bad_index img size name o e is bad = subst (IsNotOpened img size name) (sym bad.is) (damaged o bad.at bad.fault is bad.bad)

-- ---- All of it

abbrev pub found_good : ℕ → List ℕ → List ℕ → Opening × Result HeldIndex NoIndex → Type 0
found_good size name img x = IsFoundIn img size name (opened_of x.0) (seen view_of x.1)

abbrev pub file_good : ℕ → List ℕ → List ℕ → Opening × List ℕ × HeldIndex → Type 0
file_good size name img x = IsOpenedFile img size name (opened_of x.0) x.1 (view_of x.2)

abbrev pub not_opened : ℕ → List ℕ → List ℕ → OpenError → Type 0
not_opened size name img e = IsNotOpened img size name e

pub first_quiet : (o : Opened) (a : Result IndexView NoIndex) (e : OpenError) → (refused_open o a ≡ Some e) ⊎ (e ≡ OutOfMemory) → IsQuiet e
first_quiet o a e (inl h) = refused_quiet o a e h
first_quiet o a e (inr h) = subst IsQuiet (sym h) (tt, λ f. absurd cc)

pub writable_front : (img : List ℕ) (size : ℕ) (name : List ℕ) (o : Opened) (a : Result IndexView NoIndex) → eval img (looked_for size name) ≡ Ok o → refused_open o a ≡ None → IsKeptHeader (is_starting o.header.dataset) (front_of img o.place o.header.len)
writable_front img size name o a is none =
    let k = kept_front img size name o is in
    let parts = unrefused_parts o a none in
    subst (IsKeptHeader (is_starting o.header.dataset)) (sym k.same) (k.writable, λ starts. k.addressed (in_chunk o (starts_so o.header.dataset starts) parts.dataset))

pub file_is : (img : List ℕ) (size : ℕ) (name : List ℕ) (o : Opened) (a : Result IndexView NoIndex) (v : IndexView) (header : List ℕ) → IsFoundIn img size name o a → IsKeptIndexOf o.header.dataset a v → refused_open o a ≡ None → header ≡ front_of img o.place o.header.len
    → IsOpenedFile img size name o header v
file_is img size name o a v header f same none kept = record {
  is = f.is;
  index = a;
  is_index = f.index;
  unrefused = none;
  is_kept = same;
  kept = kept ∙ (kept_front img size name o f.is).same;
}
