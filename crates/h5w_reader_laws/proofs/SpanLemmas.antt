-- Between two positions at which the dataset header is the same: an attempt's answer is what some position in between shows.
use Rattle.std.proofs.Common.{◌≡◌, ◌≢◌, ◌⊎◌, ℕ, ◌≤◌, List, [], ◌∷◌, length, take, get_or, Result, Ok, Err, refl, sym, ◌∙◌, ap, subst, inl, arith}
use Rattle.std.specs.Prelude.{◌==◌}
use Rattle.std.specs.List.{Any, AllByRecursion}
use Rattle.std.proofs.lemmas.Bool.{cond_both}
use Rattle.h5w_model.specs.Numbers.{undefined}
use Rattle.h5w_model.specs.Programs.{Prog, ret, whole, counted, stored, eval, bind, and_then, Visit, visits, Same, lowered, Takes}
use Rattle.h5w_model.specs.Logs.{Log}
use Rattle.h5w_model.specs.Datasets.{Described, then_also}
use Rattle.h5w_model.specs.Tables.{Reading, InPlace, in_place, address_behind, needed_keys, table_of}
use Rattle.h5w_model.specs.Prefixed.{image_at, IsKey, NamesBlock, StaysDefined}
use Rattle.h5w_model.specs.Readers.{Placed, IsCall, looks_of, Quiet}
use Rattle.h5w_model.specs.Calls.{some_unknown, address_or, each_unknown, table_from}
use Rattle.h5w_model.specs.declared.cell.Key.{Key}
use Rattle.h5w_model.specs.declared.cell.IndexKind.TheVariants.{Array}
use Rattle.h5w_model.specs.declared.refusal.ReadError.{ReadError}
use Rattle.h5w_laws.specs.Held.{IsReached}
use Rattle.h5w_laws.proofs.ProgramLemmas.{visits_bind, same_joined, eval_and_then}
use Rattle.h5w_laws.proofs.AnswerLemmas.{result_both}
use Rattle.h5w_laws.proofs.ResultLemmas.{HasAnswer, then_from}
use Rattle.h5w_laws.proofs.LookLemmas.{takes_ret}
use Rattle.h5w_reader_laws.specs.Headline.{Served, IsTakenAt}
use Rattle.h5w_reader_laws.proofs.LookLemmas.{Until, AreSame, placed_kept}
use Rattle.h5w_reader_laws.proofs.MomentLemmas.{Moment, moment, keeps, same_dataset, quiet_between}
use Rattle.h5w_reader_laws.proofs.BlockLemmas.{AreRead, KeepsName, BlocksFound, blocks_taken, onward}
use Rattle.h5w_reader_laws.proofs.KeyLemmas.{keys_named}
use Rattle.h5w_reader_laws.proofs.KnownLemmas.{gives_known, table_known}

-- ---- Programs one after another

pub bind_bind : {A B C : Type 0} (p : Prog A) (f : A → Prog B) (g : B → Prog C) → bind (bind p f) g ≡ bind p (λ a. bind (f a) g)
bind_bind (ret a) f g = refl
bind_bind (whole at len next) f g = ap (whole at len) (λ i b. bind_bind (next b) f g i)
bind_bind (counted at counts next) f g = ap (counted at counts) (λ i b. bind_bind (next b) f g i)
bind_bind (stored kind at len next) f g = ap (stored kind at len) (λ i b. bind_bind (next b) f g i)

onward_bind : {A B C : Type 0} (r : Result A ReadError) (f : A → Prog (Result B ReadError)) (g : B → Prog (Result C ReadError))
    → bind (onward f r) (onward g) ≡ onward (λ a. and_then (f a) g) r
onward_bind (Ok a) f g = refl
onward_bind (Err e) f g = refl

pub and_then_twice : {A B C : Type 0} (p : Prog (Result A ReadError)) (f : A → Prog (Result B ReadError)) (g : B → Prog (Result C ReadError))
    → and_then (and_then p f) g ≡ and_then p (λ a. and_then (f a) g)
and_then_twice p f g = bind_bind p (onward f) (onward g) ∙ ap (bind p) (λ i r. onward_bind r f g i)

pub same_and_then : {A B : Type 0} (old new : List ℕ) (p : Prog (Result A ReadError)) (f : A → Prog (Result B ReadError)) → Same old new (visits old p)
    → ((a : A) → Same old new (visits old (f a))) → Same old new (visits old (and_then p f))
same_and_then {A} {B} old new p f h g =
    subst (λ (vs : List Visit). Same old new vs) (sym (visits_bind old p (onward f)))
    (same_joined old new (visits old p) (visits old (onward f (eval old p))) h
    (result_both (eval old p) f (λ e. ret (Err e)) (λ (q : Prog (Result B ReadError)). Same old new (visits old q)) (λ a e. g a) (λ e i. tt)))

same_unknown : (old new : List ℕ) (b : InPlace) (known : List ℕ) (P : Key → Type 0) (ks : List Key) → AllByRecursion P ks
    → ((key : Key) → P key → Same old new (visits old (address_behind b key))) → Same old new (visits old (each_unknown b known ks))
same_unknown old new b known P [] all h = none_kept known
  where
    none_kept : (known : List ℕ) → Same old new (visits old (each_unknown b known []))
    none_kept [] = tt
    none_kept (a ∷ known) = tt
same_unknown old new b [] P (k ∷ ks) all h =
    same_and_then old new (address_behind b k) (λ a. and_then (each_unknown b [] ks) (λ rest. ret (Ok (a ∷ rest)))) (h k all.0)
    (λ a. same_and_then old new (each_unknown b [] ks) (λ rest. ret (Ok (a ∷ rest))) (same_unknown old new b [] P ks all.1 h) (λ rest. tt))
same_unknown old new b (a ∷ known) P (k ∷ ks) all h =
    same_and_then old new (address_or b a k) (λ x. and_then (each_unknown b known ks) (λ rest. ret (Ok (x ∷ rest))))
    (cond_both (a == undefined) (address_behind b k) (ret (Ok a)) (λ (p : Prog (Result ℕ ReadError)). Same old new (visits old p)) (λ t. h k all.0) (λ t. tt))
    (λ x. same_and_then old new (each_unknown b known ks) (λ rest. ret (Ok (x ∷ rest))) (same_unknown old new b known P ks all.1 h) (λ rest. tt))

-- ---- Between two positions

-- two positions with the same dataset header
pub record Span (name : List ℕ) (log : Log) (p q : ℕ) : Type 0 where
  pub served : Served name log
  pub first : Moment name log p
  pub last : Moment name log q
  pub ordered : p ≤ q
  pub quiet : Quiet log first.shown.place p q

-- a position between them
pub record Inside (name : List ℕ) (log : Log) (p q u : ℕ) (s : Span name log p q) : Type 0 where
  pub low : p ≤ u
  pub high : u ≤ q
  pub here : Moment name log u
  pub place : here.shown.place ≡ s.first.shown.place
  pub quiet : Quiet log s.first.shown.place p u
  pub same : here.shown.dataset ≡ s.first.shown.dataset

pub inside : (name : List ℕ) (log : Log) (p q u : ℕ) (s : Span name log p q) → p ≤ u → u ≤ q → Inside name log p q u s
inside name log p q u s low high =
    let m = moment name log u s.served (record { begun = omega (arith, s.first.position.begun); reached = omega (arith, s.last.position.reached) }) in
    let quiet = quiet_between name log p u q s.first m s.last s.served low high s.quiet in
    record {
      low = low;
      high = high;
      here = m;
      place = (keeps name log p u s.first m s.served low).stays.place;
      quiet = quiet;
      same = same_dataset name log p u s.first m s.served low quiet;
    }

read_inside : (name : List ℕ) (log : Log) (p q u : ℕ) (s : Span name log p q) → Inside name log p q u s → HasAnswer (eval (image_at log u) (in_place s.first.shown.dataset))
read_inside name log p q u s i =
    let img : List ℕ = image_at log u in
    let reached = subst (λ (d : Described). IsReached img d) i.same i.here.reached in
    (reached.blocks, reached.read)

are_read : (name : List ℕ) (log : Log) (p q : ℕ) (s : Span name log p q) → AreRead log p q (in_place s.first.shown.dataset)
are_read name log p q s = record {
  ordered = s.ordered;
  read = λ u low high. read_inside name log p q u s (inside name log p q u s low high);
  fits = λ u low high. (inside name log p q u s low high).here.fits;
}

names_kept : (name : List ℕ) (log : Log) (p q : ℕ) (s : Span name log p q) → s.first.shown.dataset.layout.index ≡ Array → (s.first.shown.dataset.layout.address ≡ undefined → ⊥)
    → KeepsName log p q s.first.shown.dataset.layout.address
names_kept name log p q s array defined u w a b low mid high =
    let i = inside name log p q u s low (omega arith) in
    let j = inside name log p q w s (omega arith) high in
    let k = (keeps name log u w i.here j.here s.served mid).stays in
    let f = λ (d : Described). d.layout.index ≡ Array → d.layout.address ≢ undefined → NamesBlock (image_at log u) d.layout.address a → NamesBlock (image_at log w) d.layout.address b → StaysDefined a b in
    subst (λ (d : Described). f d) i.same (k.index_block a b) array defined

-- what is reached behind the blocks in place stays
behind_kept : (name : List ℕ) (log : Log) (p q u w : ℕ) (s : Span name log p q) → p ≤ u → u ≤ w → w ≤ q → (b : InPlace) (key : Key)
    → eval (image_at log u) (in_place s.first.shown.dataset) ≡ Ok b → IsKey s.first.shown.dataset.layout.index key → Same (image_at log u) (image_at log w) (visits (image_at log u) (address_behind b key))
behind_kept name log p q u w s low mid high b key =
    let i = inside name log p q u s low (omega arith) in
    let j = inside name log p q w s (omega arith) high in
    let rows : i.here.shown.dataset.shape.rows ≡ j.here.shown.dataset.shape.rows = ap (λ (d : Described). d.shape.rows) (i.same ∙ sym (j.same)) in
    subst (λ (d : Described). eval (image_at log u) (in_place d) ≡ Ok b → IsKey d.layout.index key → Same (image_at log u) (image_at log w) (visits (image_at log u) (address_behind b key))) i.same
    ((keeps name log u w i.here j.here s.served mid).behind rows b key)

-- ---- The addresses

abbrev pub reading_with : ℕ → Described → List ℕ → Reading
reading_with at d t = record { place = at; dataset = d; table = t }

-- The addresses that a program gives at some position, and an answer of them.
record TableFound (log : Log) (p q at_place : ℕ) (d : Described) (addresses : Prog (Result (List ℕ) ReadError)) (ts : List Placed) (a : Result Reading ReadError) : Type 0 where
  at : ℕ
  low : p ≤ at
  high : at ≤ q
  looked : (at ≡ p) ⊎ Any (IsTakenAt at) ts
  table : List ℕ
  is : eval (image_at log at) addresses ≡ Ok table
  answer : a ≡ Ok (reading_with at_place d table)

-- what the attempt does with them
abbrev pub told : ℕ → Described → List ℕ → Prog (Result Reading ReadError)
told at d t = ret (Ok (reading_with at d t))

-- the addresses that are not known, from the blocks in place on
abbrev looked_up : Described → List ℕ → List Key → Prog (Result (List ℕ) ReadError)
looked_up d known ks = and_then (in_place d) (λ b. each_unknown b known ks)

-- behind the blocks in place of some position all is as there
behind_taken : (name : List ℕ) (log : Log) (p q cap at_place : ℕ) (s : Span name log p q) (known : List ℕ) (ks : List Key) (ts : List Placed) (a : Result Reading ReadError)
    → AllByRecursion (IsKey s.first.shown.dataset.layout.index) ks
    → ((u : ℕ) → p ≤ u → u ≤ q → HasAnswer (eval (image_at log u) (looked_up s.first.shown.dataset known ks)))
    → BlocksFound Reading log p q cap (in_place s.first.shown.dataset) (λ b. and_then (each_unknown b known ks) (told at_place s.first.shown.dataset)) ts a
    → TableFound log p q at_place s.first.shown.dataset (looked_up s.first.shown.dataset known ks) ts a
behind_taken name log p q cap at_place s known ks ts a all found f =
    let d : Described = s.first.shown.dataset in
    let img : List ℕ = image_at log f.at in
    let each = each_unknown f.blocks known ks in
    let i = inside name log p q f.at s f.low f.high in
    let table = found f.at f.low f.high in
    let same : AreSame log f.at q img (visits img (and_then each (told at_place d))) =
    (λ w low high.
    let j = inside name log p q w s (omega (arith, f.low)) high in (
      j.here.fits,
      same_and_then img (image_at log w) each (told at_place d)
          (same_unknown img (image_at log w) f.blocks known (IsKey d.layout.index) ks all (λ key named. behind_kept name log p q f.at w s f.low low high f.blocks key f.read named))
          (λ t. tt),
    )) in
    let gives = placed_kept log f.at q img cap (and_then each (told at_place d)) f.rest a i.here.fits f.call f.until same f.takes in
    let says : eval img each ≡ Ok table.0 =
    sym (ap (λ (r : Result InPlace ReadError). then_also r (λ b. eval img (each_unknown b known ks))) f.read)
    ∙ sym (eval_and_then img (in_place d) (λ b. each_unknown b known ks)) ∙ table.1 in
    record {
      at = f.at;
      low = f.low;
      high = f.high;
      looked = f.looked;
      table = table.0;
      is = table.1;
      answer =
          gives ∙ eval_and_then img each (told at_place d)
          ∙ then_from (eval img each) (λ t. eval img (told at_place d t)) table.0 (reading_with at_place d table.0) says refl;
    }

keys_taken : (name : List ℕ) (log : Log) (p q cap at_place : ℕ) (s : Span name log p q) (known : List ℕ) (ks : List Key) (ts : List Placed) (a : Result Reading ReadError)
    → AllByRecursion (IsKey s.first.shown.dataset.layout.index) ks
    → ((u : ℕ) → p ≤ u → u ≤ q → HasAnswer (eval (image_at log u) (table_from known s.first.shown.dataset ks)))
    → IsCall log p ts → Until q ts
    → Takes (lowered cap [] (and_then (table_from known s.first.shown.dataset ks) (told at_place s.first.shown.dataset))) (looks_of ts) a
    → TableFound log p q at_place s.first.shown.dataset (table_from known s.first.shown.dataset ks) ts a
keys_taken name log p q cap at_place s known ks ts a all found call until =
    let d : Described = s.first.shown.dataset in
    let settled : List ℕ = take (length ks) known in
    cond_both (some_unknown known ks) (looked_up d known ks) (ret (Ok settled))
    (λ (x : Prog (Result (List ℕ) ReadError)). ((u : ℕ) → p ≤ u → u ≤ q → HasAnswer (eval (image_at log u) x)) → Takes (lowered cap [] (and_then x (told at_place d))) (looks_of ts) a → TableFound log p q at_place d x ts a)
    (λ t found takes.
    behind_taken name log p q cap at_place s known ks ts a all found
    (blocks_taken log p q cap d (λ b. and_then (each_unknown b known ks) (told at_place d)) ts a (are_read name log p q s) (names_kept name log p q s) call until
    (subst (λ (x : Prog (Result Reading ReadError)). Takes (lowered cap [] x) (looks_of ts) a) (and_then_twice (in_place d) (λ b. each_unknown b known ks) (told at_place d)) takes)))
    (λ t found takes. record {
      at = p;
      low = omega arith;
      high = s.ordered;
      looked = inl refl;
      table = settled;
      is = refl;
      answer = (takes_ret (Ok (reading_with at_place d settled)) (looks_of ts) a takes).1;
    })
    found

-- An answer that some position between them shows.
pub record AnswerShown (name : List ℕ) (log : Log) (p q : ℕ) (ts : List Placed) (a : Result Reading ReadError) : Type 0 where
  pub at : ℕ
  pub low : p ≤ at
  pub high : at ≤ q
  pub looked : (at ≡ p) ⊎ Any (IsTakenAt at) ts
  pub here : Moment name log at
  pub answer : a ≡ Ok here.shown

same_table : (x : Result (List ℕ) ReadError) (t u : List ℕ) → x ≡ Ok t → x ≡ Ok u → t ≡ u
same_table x t u h g = cc

pub table_taken : (name : List ℕ) (log : Log) (p q cap : ℕ) (s : Span name log p q) (known : List ℕ) (ts : List Placed) (a : Result Reading ReadError)
    → ((u : ℕ) (i : Inside name log p q u s) (k : ℕ) → StaysDefined (get_or known k undefined) (get_or i.here.shown.table k undefined)) → IsCall log p ts → Until q ts
    → Takes (lowered cap [] (and_then (table_from known s.first.shown.dataset (needed_keys s.first.shown.dataset)) (told s.first.shown.place s.first.shown.dataset))) (looks_of ts) a
    → AnswerShown name log p q ts a
table_taken name log p q cap s known ts a are call until takes =
    let d : Described = s.first.shown.dataset in
    let steps = s.first.steps in
    let shown : (u : ℕ) (i : Inside name log p q u s) → eval (image_at log u) (table_from known d (needed_keys d)) ≡ Ok i.here.shown.table =
    (λ u i.
    let is : eval (image_at log u) (table_of d (needed_keys d)) ≡ Ok i.here.shown.table =
    subst (λ (x : Described). eval (image_at log u) (table_of x (needed_keys x)) ≡ Ok i.here.shown.table) i.same i.here.steps.table in
    gives_known (image_at log u) d known (needed_keys d) (table_known (image_at log u) d known i.here.shown.table (needed_keys d) is (are u i)) ∙ is) in
    let t = keys_taken name log p q cap s.first.shown.place s known (needed_keys d) ts a (keys_named d steps.within)
    (λ u low high. let i = inside name log p q u s low high in (i.here.shown.table, shown u i)) call until takes in
    let i = inside name log p q t.at s t.low t.high in
    let same : t.table ≡ i.here.shown.table = same_table (eval (image_at log t.at) (table_from known d (needed_keys d))) t.table i.here.shown.table t.is (shown t.at i) in
    record {
      at = t.at;
      low = t.low;
      high = t.high;
      looked = t.looked;
      here = i.here;
      answer =
          t.answer ∙ ap (λ (x : List ℕ). Ok (reading_with s.first.shown.place d x)) same
          ∙ ap (λ (x : Described). Ok (reading_with s.first.shown.place x i.here.shown.table)) (sym (i.same))
          ∙ ap (λ (x : ℕ). Ok (reading_with x i.here.shown.dataset i.here.shown.table)) (sym (i.place));
    }
