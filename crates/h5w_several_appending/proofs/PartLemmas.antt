-- The datasets of a session that stores batches.
use Rattle.std.proofs.Common.{◌≡◌, ℕ, zero, suc, ◌+◌, ◌*◌, ◌/◌, ◌≤◌, true, false, List, [], ◌∷◌, ◌++◌, length, map, ℤ, Some, refl, sym, ap, ◌∙◌, subst, arith, length-append}
use Rattle.std.specs.Prelude.{slice_get, slice_set}
use Rattle.std.proofs.lemmas.List.{length-map}
use Rattle.std.proofs.Math.Nat.{zero-mul}
use Rattle.h5w_model.specs.Datasets.{Described}
use Rattle.h5w_model.specs.Relations.{AllPaired}
use Rattle.h5w_model.specs.declared.piece.Write.{Write}
use Rattle.h5w_writer.specs.Sessions.{Session, rows_of, with_values}
use Rattle.h5w_batches.specs.Batches.{Batches, no_batches}
use Rattle.h5w_appending.specs.Appends.{grown}
use Rattle.h5w_appending.specs.Taken.{rows_after}
use Rattle.h5w_several_batches.specs.SetLines.{columns_at}
use Rattle.h5w_several_writer.specs.Flows.{PlansPart, all_waits}
use Rattle.h5w_several_writer_laws.specs.Sessions.{AreSameBut, all_pending}
use Rattle.h5w_several_writer_laws.specs.Valid.{names_in}
use Rattle.h5w_appending.proofs.ShutLemmas.{none_waiting}
use Rattle.h5w_several_appending.specs.Puts.{AreAlike, IsAlike}
use Rattle.h5w_several_appending.specs.Stores.{EachTaken, IsTaken, datasets_of}
use Rattle.h5w_several_appending.specs.Taken.{add_to, columns_in, columns_of, end_each, none_waits, rows_with}
use Rattle.h5w_several_appending.proofs.SetLemmas.{ended_rows, none_again, none_first, none_others, waits_first, waits_others}

-- ---- What stays

pub alike_but : (ss us : List Session) → AreSameBut ss us → AreAlike ss us
alike_but [] [] h = tt
alike_but [] (u ∷ us) h = absurd h
alike_but (s ∷ ss) [] h = absurd h
alike_but (s ∷ ss) (u ∷ us) h =
    let is = h.0.session in (record { name = ap (λ (x : Session). x.name) is; dataset = ap (λ (x : Session). x.dataset) is; waits = ap (λ (x : Session). x.waits) is }, alike_but ss us h.1)

pub but_pending : (ss us : List Session) → AreSameBut ss us → all_pending us ≡ all_pending ss
but_pending [] [] h = refl
but_pending [] (u ∷ us) h = absurd h
but_pending (s ∷ ss) [] h = absurd h
but_pending (s ∷ ss) (u ∷ us) h =
    let one : u.pending ≡ s.pending = ap (λ (x : Session). x.pending) h.0.session in
    ap (λ (ws : List Write). ws ++ all_pending us) one ∙ ap (λ (ws : List Write). s.pending ++ ws) (but_pending ss us h.1)

-- what a list has of each dataset, where both lists have the same
alike_each : {A : Type 0} (f : Session → A) (ss ts : List Session) → ((s t : Session) → IsAlike s t → f t ≡ f s) → AreAlike ss ts → map f ts ≡ map f ss
alike_each f [] [] same h = refl
alike_each f [] (t ∷ ts) same h = absurd h
alike_each f (s ∷ ss) [] same h = absurd h
alike_each f (s ∷ ss) (t ∷ ts) same h = ap (λ x. x ∷ map f ts) (same s t h.0) ∙ ap (λ xs. f s ∷ xs) (alike_each f ss ts same h.1)

pub alike_names : (ss ts : List Session) → AreAlike ss ts → names_in ts ≡ names_in ss
alike_names ss ts h = alike_each (λ (s : Session). s.name) ss ts (λ s t x. x.name) h

pub alike_columns : (ss ts : List Session) → AreAlike ss ts → columns_in ts ≡ columns_in ss
alike_columns ss ts h = alike_each (λ (s : Session). s.dataset.shape.cols) ss ts (λ s t x. ap (λ (d : Described). d.shape.cols) x.dataset) h

planned_each : {A : Type 0} (f : Session → A) (ss ts : List Session) → ((s t : Session) → PlansPart s t → f t ≡ f s) → AllPaired PlansPart ss ts → map f ts ≡ map f ss
planned_each f [] [] same h = refl
planned_each f [] (t ∷ ts) same h = absurd h
planned_each f (s ∷ ss) [] same h = absurd h
planned_each f (s ∷ ss) (t ∷ ts) same h = ap (λ x. x ∷ map f ts) (same s t h.0) ∙ ap (λ xs. f s ∷ xs) (planned_each f ss ts same h.1)

pub planned_names : (ss ts : List Session) → AllPaired PlansPart ss ts → names_in ts ≡ names_in ss
planned_names ss ts h = planned_each (λ (s : Session). s.name) ss ts (λ s t x. x.rows.name) h

pub planned_columns : (ss ts : List Session) → AllPaired PlansPart ss ts → columns_in ts ≡ columns_in ss
planned_columns ss ts h = planned_each (λ (s : Session). s.dataset.shape.cols) ss ts (λ s t x. ap (λ (d : Described). d.shape.cols) x.rows.dataset) h

-- what values that are appended to one of them leave
added_each : {A : Type 0} (f : Session → A) (ss : List Session) (d : ℕ) (s t : Session) → slice_get ss d ≡ Some s → f t ≡ f s → map f (slice_set ss d t) ≡ map f ss
added_each f [] d s t is same = refl
added_each f (x ∷ ss) zero s t is same = let first : x ≡ s = cc in ap (λ y. y ∷ map f ss) (same ∙ ap f (sym first))
added_each f (x ∷ ss) (suc d) s t is same = ap (λ ys. f x ∷ ys) (added_each f ss d s t is same)

pub added_names : (ss : List Session) (d : ℕ) (s : Session) (values : List ℤ) → slice_get ss d ≡ Some s → names_in (slice_set ss d (with_values s values)) ≡ names_in ss
added_names ss d s values is = added_each (λ (x : Session). x.name) ss d s (with_values s values) is refl

pub added_columns : (ss : List Session) (d : ℕ) (s : Session) (values : List ℤ) → slice_get ss d ≡ Some s → columns_in (slice_set ss d (with_values s values)) ≡ columns_in ss
added_columns ss d s values is = added_each (λ (x : Session). x.dataset.shape.cols) ss d s (with_values s values) is refl

pub added_pending : (ss : List Session) (d : ℕ) (s : Session) (values : List ℤ) → slice_get ss d ≡ Some s → all_pending (slice_set ss d (with_values s values)) ≡ all_pending ss
added_pending [] d s values is = refl
added_pending (x ∷ ss) zero s values is = let first : x ≡ s = cc in ap (λ (y : Session). y.pending ++ all_pending ss) (sym first)
added_pending (x ∷ ss) (suc d) s values is = ap (λ (ws : List Write). x.pending ++ ws) (added_pending ss d s values is)

-- as many datasets as there were
pub names_count : (ss ts : List Session) → names_in ts ≡ names_in ss → length ts ≡ length ss
names_count ss ts e = sym (length-map ts (λ (s : Session). s.name)) ∙ ap length e ∙ length-map ss (λ (s : Session). s.name)

-- ---- What was taken

pub taken_alike : (ds : List Described) (ss ts : List Session) (bs : List Batches) → AreAlike ss ts → EachTaken ds ss bs → EachTaken ds ts bs
taken_alike [] [] [] [] p h = tt
taken_alike [] [] [] (b ∷ bs) p h = absurd h
taken_alike [] [] (t ∷ ts) bs p h = absurd p
taken_alike [] (s ∷ ss) ts bs p h = absurd h
taken_alike (d ∷ ds) [] ts bs p h = absurd h
taken_alike (d ∷ ds) (s ∷ ss) [] bs p h = absurd p
taken_alike (d ∷ ds) (s ∷ ss) (t ∷ ts) [] p h = absurd h
taken_alike (d ∷ ds) (s ∷ ss) (t ∷ ts) (b ∷ bs) p h =
    let same = p.0.dataset in (
      record {
        dataset = same ∙ h.0.dataset ∙ ap (λ (x : Described). grown x.shape.rows x.layout.address d) (sym same);
        rows = ap (λ (x : Described). x.shape.rows) same ∙ h.0.rows;
        waits = h.0.waits ∙ ap (λ n. n * d.shape.cols) (sym p.0.waits);
        some = h.0.some;
      },
      taken_alike ds ss ts bs p.1 h.1,
    )

-- the batch that is flushed is closed
pub taken_planned : (ds : List Described) (ss ts : List Session) (bs : List Batches) → AllPaired PlansPart ss ts → EachTaken ds ss bs → EachTaken ds ts (end_each bs)
taken_planned [] [] [] [] p h = tt
taken_planned [] [] [] (b ∷ bs) p h = absurd h
taken_planned [] [] (t ∷ ts) bs p h = absurd p
taken_planned [] (s ∷ ss) ts bs p h = absurd h
taken_planned (d ∷ ds) [] ts bs p h = absurd h
taken_planned (d ∷ ds) (s ∷ ss) [] bs p h = absurd p
taken_planned (d ∷ ds) (s ∷ ss) (t ∷ ts) [] p h = absurd h
taken_planned (d ∷ ds) (s ∷ ss) (t ∷ ts) (b ∷ bs) p h =
    let r = p.0.rows in
    let dataset : t.dataset ≡ grown (rows_of s) t.dataset.layout.address d = r.dataset ∙ ap (grown (rows_of s) t.dataset.layout.address) h.0.dataset in
    let rows : t.dataset.shape.rows ≡ rows_of s = ap (λ (x : Described). x.shape.rows) dataset in (
      record {
        dataset = dataset ∙ ap (λ n. grown n t.dataset.layout.address d) (sym rows);
        rows = rows ∙ ap (λ n. n + s.waits) h.0.rows ∙ sym (ended_rows d.shape.cols d.shape.rows s.waits b h.0.some h.0.waits);
        waits = sym (zero-mul d.shape.cols) ∙ ap (λ n. n * d.shape.cols) (sym r.waits);
        some = h.0.some;
      },
      taken_planned ds ss ts bs p.1 h.1,
    )

-- more values of a dataset wait
one_added : (d : Described) (s : Session) (b : Batches) (values : List ℤ) (n : ℕ) → length values ≡ n * s.dataset.shape.cols → IsTaken d s b → IsTaken d (with_values s values) (record b { waiting = b.waiting ++ values })
one_added d s b values n rows h =
    let c = d.shape.cols in
    let same : s.dataset.shape.cols ≡ c = ap (λ (x : Described). x.shape.cols) h.dataset in
    let count : length values ≡ n * c = rows ∙ ap (λ k. n * k) same in
    let quotient : length values / s.dataset.shape.cols ≡ n = ap (λ k. length values / k) same ∙ ap (λ k. k / c) count ∙ divides n c h.some in
    record {
      dataset = h.dataset;
      rows = h.rows;
      waits = length-append b.waiting values ∙ ap (λ k. k + length values) h.waits ∙ ap (λ k. s.waits * c + k) count ∙ distributes s.waits n c ∙ ap (λ k. (s.waits + k) * c) (sym quotient);
      some = h.some;
    }
  where
    divides : (n c : ℕ) → 1 ≤ c → n * c / c ≡ n
    divides n c some = grind arith

    distributes : (a b c : ℕ) → a * c + b * c ≡ (a + b) * c
    distributes a b c = grind arith

pub taken_added : (ds : List Described) (ss : List Session) (bs : List Batches) (k : ℕ) (s : Session) (values : List ℤ) (n : ℕ) → slice_get ss k ≡ Some s → length values ≡ n * s.dataset.shape.cols → EachTaken ds ss bs
    → EachTaken ds (slice_set ss k (with_values s values)) (add_to k values bs)
taken_added [] [] [] k s values n is rows h = tt
taken_added [] [] (b ∷ bs) k s values n is rows h = absurd h
taken_added [] (x ∷ ss) bs k s values n is rows h = absurd h
taken_added (d ∷ ds) [] bs k s values n is rows h = absurd h
taken_added (d ∷ ds) (x ∷ ss) [] k s values n is rows h = absurd h
taken_added (d ∷ ds) (x ∷ ss) (b ∷ bs) zero s values n is rows h =
    let first : x ≡ s = cc in
    (one_added d s b values n rows (subst (λ (y : Session). IsTaken d y b) first h.0), h.1)
taken_added (d ∷ ds) (x ∷ ss) (b ∷ bs) (suc k) s values n is rows h = (h.0, taken_added ds ss bs k s values n is rows h.1)

-- ---- What is there of a dataset

pub record TakenAt (ds : List Described) (s : Session) (bs : List Batches) (k : ℕ) : Type 0 where
  pub set : Described
  pub is : slice_get ds k ≡ Some set
  pub own : Batches
  pub own_is : slice_get bs k ≡ Some own
  pub taken : IsTaken set s own

pub taken_at : (ds : List Described) (ss : List Session) (bs : List Batches) (k : ℕ) (s : Session) → slice_get ss k ≡ Some s → EachTaken ds ss bs → TakenAt ds s bs k
taken_at [] [] [] k s is h = absurd (cc)
taken_at [] [] (b ∷ bs) k s is h = absurd h
taken_at [] (x ∷ ss) bs k s is h = absurd h
taken_at (d ∷ ds) [] bs k s is h = absurd h
taken_at (d ∷ ds) (x ∷ ss) [] k s is h = absurd h
taken_at (d ∷ ds) (x ∷ ss) (b ∷ bs) zero s is h = let first : x ≡ s = cc in record { set = d; is = refl; own = b; own_is = refl; taken = subst (λ (y : Session). IsTaken d y b) first h.0 }
taken_at (d ∷ ds) (x ∷ ss) (b ∷ bs) (suc k) s is h =
    let t = taken_at ds ss bs k s is h.1 in record { set = t.set; is = t.is; own = t.own; own_is = t.own_is; taken = t.taken }

pub taken_columns : (ds : List Described) (ss : List Session) (bs : List Batches) → EachTaken ds ss bs → columns_of ds ≡ columns_in ss
taken_columns [] [] [] h = refl
taken_columns [] [] (b ∷ bs) h = absurd h
taken_columns [] (s ∷ ss) bs h = absurd h
taken_columns (d ∷ ds) [] bs h = absurd h
taken_columns (d ∷ ds) (s ∷ ss) [] h = absurd h
taken_columns (d ∷ ds) (s ∷ ss) (b ∷ bs) h =
    ap (λ n. n ∷ columns_of ds) (sym (ap (λ (x : Described). x.shape.cols) h.0.dataset)) ∙ ap (λ ns. s.dataset.shape.cols ∷ ns) (taken_columns ds ss bs h.1)

-- how many rows there are with those that wait
pub taken_rows : (ds : List Described) (ss : List Session) (bs : List Batches) → EachTaken ds ss bs → rows_with ds (end_each bs) ≡ map rows_of ss
taken_rows [] [] [] h = refl
taken_rows [] [] (b ∷ bs) h = absurd h
taken_rows [] (s ∷ ss) bs h = absurd h
taken_rows (d ∷ ds) [] bs h = absurd h
taken_rows (d ∷ ds) (s ∷ ss) [] h = absurd h
taken_rows (d ∷ ds) (s ∷ ss) (b ∷ bs) h =
    ap (λ n. n ∷ rows_with ds (end_each bs)) (ended_rows d.shape.cols d.shape.rows s.waits b h.0.some h.0.waits ∙ ap (λ n. n + s.waits) (sym h.0.rows)) ∙ ap (λ ns. rows_of s ∷ ns) (taken_rows ds ss bs h.1)

-- how many there are where none wait
pub taken_done : (ds : List Described) (ss : List Session) (bs : List Batches) → none_waits bs ≡ true → EachTaken ds ss bs → rows_with ds bs ≡ map rows_of ss
taken_done [] [] [] none h = refl
taken_done [] [] (b ∷ bs) none h = absurd h
taken_done [] (s ∷ ss) bs none h = absurd h
taken_done (d ∷ ds) [] bs none h = absurd h
taken_done (d ∷ ds) (s ∷ ss) [] none h = absurd h
taken_done (d ∷ ds) (s ∷ ss) (b ∷ bs) none h =
    let empty : 0 ≡ s.waits * d.shape.cols = sym (ap length (none_first b bs none)) ∙ h.0.waits in
    let zero_waits : s.waits ≡ 0 = none_waiting d.shape.cols s.waits h.0.some empty in
    let rows = h.0.rows in
    let one : rows_after d.shape.cols d.shape.rows b.closed ≡ rows_of s = omega (arith, rows, zero_waits) in
    ap (λ n. n ∷ rows_with ds bs) one ∙ ap (λ ns. rows_of s ∷ ns) (taken_done ds ss bs (none_others b bs none) h.1)

-- where no row waits no value does
pub none_taken : (ds : List Described) (ss : List Session) (bs : List Batches) → all_waits ss ≡ 0 → EachTaken ds ss bs → none_waits bs ≡ true
none_taken [] [] [] none h = refl
none_taken [] [] (b ∷ bs) none h = absurd h
none_taken [] (s ∷ ss) bs none h = absurd h
none_taken (d ∷ ds) [] bs none h = absurd h
none_taken (d ∷ ds) (s ∷ ss) [] none h = absurd h
none_taken (d ∷ ds) (s ∷ ss) (b ∷ bs) none h =
    let first : s.waits ≡ 0 = omega (arith, none) in
    let rest : all_waits ss ≡ 0 = omega (arith, none) in
    none_again b bs (h.0.waits ∙ ap (λ n. n * d.shape.cols) first ∙ zero-mul d.shape.cols) (none_taken ds ss bs rest h.1)

some_product : (n c : ℕ) → 1 ≤ c → 1 ≤ suc n * c
some_product n c some = grind (arith, some)

-- and where rows wait values do
pub some_taken : (ds : List Described) (ss : List Session) (bs : List Batches) → 1 ≤ all_waits ss → EachTaken ds ss bs → none_waits bs ≡ false
some_taken [] [] [] some h = absurd (omega (arith, some))
some_taken [] [] (b ∷ bs) some h = absurd h
some_taken [] (s ∷ ss) bs some h = absurd h
some_taken (d ∷ ds) [] bs some h = absurd h
some_taken (d ∷ ds) (s ∷ ss) [] some h = absurd h
some_taken (d ∷ ds) (s ∷ ss) (b ∷ bs) some h = cases s.waits refl (λ more. some_taken ds ss bs more h.1)
  where
    cases : (n : ℕ) → s.waits ≡ n → (1 ≤ all_waits ss → none_waits bs ≡ false) → none_waits (b ∷ bs) ≡ false
    cases zero e rest = waits_others b bs (rest (omega (arith, some, e)))
    cases (suc n) e rest = waits_first b bs (subst (λ k. 1 ≤ k) (sym (h.0.waits ∙ ap (λ k. k * d.shape.cols) e)) (some_product n d.shape.cols h.0.some))

-- ---- Where a session begins

pub taken_none : (ss : List Session) → ((k : ℕ) → 1 ≤ columns_at (columns_in ss) k) → all_waits ss ≡ 0 → EachTaken (datasets_of ss) ss (map (λ (d : Described). no_batches) (datasets_of ss))
taken_none [] some none = tt
taken_none (s ∷ ss) some none = (
  record { dataset = refl; rows = refl; waits = sym (ap (λ n. n * s.dataset.shape.cols) (let e : s.waits ≡ 0 = omega (arith, none) in e) ∙ zero-mul s.dataset.shape.cols); some = some 0 },
  taken_none ss (λ k. some (suc k)) (omega (arith, none)),
)
