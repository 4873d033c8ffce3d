-- The addresses of the needed chunks, as an array's map has them.
use Rattle.std.proofs.Common.{◌≡◌, ℕ, List, [], ◌∷◌, Result, Ok, refl}
use Rattle.std.specs.Prelude.{map}
use Rattle.std.specs.List.{AllByRecursion}
use Rattle.h5w_model.specs.Images.{image}
use Rattle.h5w_model.specs.Programs.{Prog, ret, eval, and_then}
use Rattle.h5w_model.specs.Tables.{address_behind, each_of, needed_keys}
use Rattle.h5w_model.specs.declared.refusal.ReadError.{ReadError}
use Rattle.h5w_laws.proofs.ResultLemmas.{and_then_from}
use Rattle.h5w_step_laws.specs.Indexes.{IsNamed}
use Rattle.h5w_step_laws.proofs.NeededLaws.{needed_named}
use Rattle.h5w_array_laws.specs.ArrayStores.{map_of, blocks_in_place}
use Rattle.h5w_array_laws.specs.ArrayTables.{ArrayTable, PlanIsRead}
use Rattle.h5w_array_laws.proofs.FoundLemmas.{address_found}
use Rattle.h5w_array_laws.proofs.VisitedLemmas.{visited}
use Rattle.h5w_array_laws.proofs.PlanLemmas.{all_clean, copies_stand}
use Rattle.h5w_array_laws.proofs.PlannedLemmas.{for_all}

-- answers of a reader, one after another
pub each_answered : {K : Type 0} (img : List ℕ) (p : K → Prog (Result ℕ ReadError)) (f : K → ℕ) (ks : List K) → AllByRecursion (λ k. eval img (p k) ≡ Ok (f k)) ks → eval img (each_of p ks) ≡ Ok (map f ks)
each_answered img p f [] h = refl
each_answered img p f (k ∷ ks) h =
    and_then_from img (p k) (λ a. and_then (each_of p ks) (λ rest. ret (Ok (a ∷ rest)))) (f k) (f k ∷ map f ks) h.0
    (and_then_from img (each_of p ks) (λ rest. ret (Ok (f k ∷ rest))) (map f ks) (f k ∷ map f ks) (each_answered img p f ks h.1) refl)

pub array_table : ArrayTable
array_table v img d read few kind =
    each_answered img (address_behind (blocks_in_place v)) (λ key. map_of v key.i) (needed_keys d)
    (for_all (IsNamed d) (λ key. eval img (address_behind (blocks_in_place v) key) ≡ Ok (map_of v key.i)) (needed_keys d) (λ key n. read.found key (n kind)) (needed_named d few))

pub plan_is_read : PlanIsRead
plan_is_read v s ms cs fs w t img planned stands =
    let clean = all_clean v s ms cs fs w t planned.plan in
    let behind = copies_stand v s ms cs fs w t img planned stands in
    record { visited = visited w (image img cs) planned.after clean behind; found = address_found w (image img cs) planned.after clean behind }
