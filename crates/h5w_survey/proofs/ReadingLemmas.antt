-- What is looked at of a dataset, part by part, is what a reading looks at.
use Rattle.std.proofs.Common.{◌≡◌, ℕ, ◌^◌, ◌≤◌, cond, false, List, [], length, None, Result, Ok, Err, refl, sym, ap, ◌∙◌, arith}
use Rattle.std.specs.Prelude.{nat_lt}
use Rattle.std.proofs.lemmas.Bool.{cond-false, le-ltb}
use Rattle.h5w_model.specs.Numbers.{range}
use Rattle.h5w_model.specs.Programs.{Prog, ret, eval, and_then}
use Rattle.h5w_model.specs.Headers.{header_view}
use Rattle.h5w_model.specs.Datasets.{Described, FoundMessage, HeaderFields, dataset, dataset_messages, dataset_place, described, linked, refused_as, root_header, superblock, then_also}
use Rattle.h5w_model.specs.Tables.{Reading, format_limits, limit_of, needed, needed_keys, reading}
use Rattle.h5w_model.specs.Calls.{needed_from, not_shrunk}
use Rattle.h5w_model.specs.declared.root.Super.{Super}
use Rattle.h5w_model.specs.declared.refusal.ReadError.{ReadError}
use Rattle.h5w_model.specs.declared.refusal.ReadError.TheVariants.{Shrunk, TooManyChunks, Unsupported}
use Rattle.h5w_laws.proofs.ProgramLemmas.{eval_and_then}
use Rattle.h5w_laws.proofs.LoweringLemmas.{lowered_still}
use Rattle.h5w_reader_laws.proofs.KnownLemmas.{from_nothing}
use Rattle.h5w_headers.specs.Walks.{dataset_header_for, root_header_for}
use Rattle.h5w_headers.proofs.ReadingLemmas.{dataset_reading, root_reading}
use Rattle.h5w_lookup.specs.Attempts.{described_rest, rules_of}
use Rattle.h5w_lookup.specs.declared.known.Rules.{Rules}
use Rattle.h5w_survey.specs.Lookups.{behind_place, behind_root, place_behind, table_behind}

-- behind a superblock that is read a reading is what the root header gives
pub behind_super : (img name : List ℕ) (s : Super) → eval img superblock ≡ Ok s → eval img (reading format_limits name) ≡ eval img (behind_root s.root name)
behind_super img name s read =
    let next : Super → Prog (Result ℕ ReadError) = λ x. place_behind x.root name in
    eval_and_then img (dataset_place name) behind_place
    ∙ ap (λ r. then_also r (λ at. eval img (behind_place at))) (eval_and_then img superblock next ∙ ap (λ r. then_also r (λ x. eval img (next x))) read)
    ∙ sym (eval_and_then img (place_behind s.root name) behind_place)

-- the place, by the root header as it is found
pub place_of_root : (img name : List ℕ) (root : ℕ) (h : HeaderFields) → eval img (root_header_for false root) ≡ Ok h → eval img (place_behind root name) ≡ linked name h.messages
place_of_root img name root h read =
    eval_and_then img (root_header root) (λ x. ret (linked name x.messages)) ∙ ap (λ r. then_also r (λ (x : HeaderFields). linked name x.messages)) (sym (root_reading img root) ∙ read)

pub place_refused : (img name : List ℕ) (root : ℕ) (e : ReadError) → eval img (root_header_for false root) ≡ Err e → eval img (place_behind root name) ≡ Err e
place_refused img name root e read =
    eval_and_then img (root_header root) (λ x. ret (linked name x.messages)) ∙ ap (λ r. then_also r (λ (x : HeaderFields). linked name x.messages)) (sym (root_reading img root) ∙ read)

-- what is told of a dataset and its table
abbrev told : ℕ → Described → List ℕ → Prog (Result Reading ReadError)
told at d t = ret (Ok (record { place = at; dataset = d; table = t }))

abbrev after : Result Described ReadError → (Described → Prog (Result Reading ReadError)) → Prog (Result Reading ReadError)
after r f = and_then (ret r) f

-- who knows nothing is not refused for fewer rows, and looks up each address
from_none : (at : ℕ) (d : Described) → and_then (ret (not_shrunk 0 d)) (λ d. and_then (needed_from format_limits [] d) (told at d)) ≡ table_behind at d
from_none at d =
    let refused : Prog (Result (List ℕ) ReadError) = ret (Err (TooManyChunks (needed d) (limit_of format_limits d.layout.index))) in
    ap (λ r. after r (λ d. and_then (needed_from format_limits [] d) (told at d))) (cond-false (nat_lt d.shape.rows 0) (Err (Shrunk 0 d.shape.rows)) (Ok d) (le-ltb d.shape.rows 0 (omega arith)))
    ∙ ap (λ (p : Prog (Result (List ℕ) ReadError)). and_then (cond (nat_lt (limit_of format_limits d.layout.index) (needed d)) refused p) (told at d)) (from_nothing d (needed_keys d))

-- what the messages say, and the addresses, once nothing was known
pub rest_still : (img : List ℕ) (r : Rules) (ms : List FoundMessage) → length img ≤ 2 ^ 64
    → eval img (described_rest (rules_of r None) ms) ≡ then_also (refused_as Unsupported (described ms)) (λ d. eval img (table_behind r.place d))
unfolding described_rest
rest_still img r ms fits =
    let next : Described → Prog (Result Reading ReadError) = λ d. and_then (ret (not_shrunk 0 d)) (λ d. and_then (needed_from format_limits [] d) (told r.place d)) in
    let p : Prog (Result Reading ReadError) = and_then (ret (refused_as Unsupported (described ms))) next in
    lowered_still img 16 [] p fits tt
    ∙ eval_and_then img (ret (refused_as Unsupported (described ms))) next
    ∙ ap (λ (f : Described → Prog (Result Reading ReadError)). then_also (refused_as Unsupported (described ms)) (λ d. eval img (f d))) (λ i d. from_none r.place d i)

-- from the dataset header on, as it is found
place_eval : (img : List ℕ) (place : ℕ)
    → eval img (behind_place place) ≡ then_also (eval img (dataset_header_for false place)) (λ h. then_also (refused_as Unsupported (described h.messages)) (λ d. eval img (table_behind place d)))
place_eval img place =
    let v = header_view (range img place 512) in
    let says : HeaderFields → Prog (Result Described ReadError) = λ h. ret (refused_as Unsupported (described h.messages)) in
    eval_and_then img (dataset place) (table_behind place)
    ∙ ap (λ r. then_also r (λ d. eval img (table_behind place d))) (eval_and_then img (dataset_messages place v) says ∙ ap (λ r. then_also r (λ (h : HeaderFields). refused_as Unsupported (described h.messages))) (sym (dataset_reading img place)))
    ∙ both (eval img (dataset_header_for false place))
  where
    both : (r : Result HeaderFields ReadError) → then_also (then_also r (λ (h : HeaderFields). refused_as Unsupported (described h.messages))) (λ d. eval img (table_behind place d))
        ≡ then_also r (λ h. then_also (refused_as Unsupported (described h.messages)) (λ d. eval img (table_behind place d)))
    both (Ok h) = refl
    both (Err e) = refl

pub described_place : (img : List ℕ) (r : Rules) (h : HeaderFields) → length img ≤ 2 ^ 64 → eval img (dataset_header_for false r.place) ≡ Ok h → eval img (behind_place r.place) ≡ eval img (described_rest (rules_of r None) h.messages)
described_place img r h fits read =
    place_eval img r.place
    ∙ ap (λ x. then_also x (λ (h : HeaderFields). then_also (refused_as Unsupported (described h.messages)) (λ d. eval img (table_behind r.place d)))) read
    ∙ sym (rest_still img r h.messages fits)

pub described_refused : (img : List ℕ) (place : ℕ) (e : ReadError) → eval img (dataset_header_for false place) ≡ Err e → eval img (behind_place place) ≡ Err e
described_refused img place e read =
    place_eval img place ∙ ap (λ x. then_also x (λ (h : HeaderFields). then_also (refused_as Unsupported (described h.messages)) (λ d. eval img (table_behind place d)))) read

-- behind the link
pub root_ok : (img name : List ℕ) (root at : ℕ) → eval img (place_behind root name) ≡ Ok at → eval img (behind_root root name) ≡ eval img (behind_place at)
root_ok img name root at h = eval_and_then img (place_behind root name) behind_place ∙ ap (λ r. then_also r (λ x. eval img (behind_place x))) h

pub root_err : (img name : List ℕ) (root : ℕ) (e : ReadError) → eval img (place_behind root name) ≡ Err e → eval img (behind_root root name) ≡ Err e
root_err img name root e h = eval_and_then img (place_behind root name) behind_place ∙ ap (λ r. then_also r (λ x. eval img (behind_place x))) h
