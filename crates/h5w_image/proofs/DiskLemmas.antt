-- Which files are there after a call of a disk.
use Rattle.std.proofs.Common.{ℕ, ◌≡◌, length, List, [], Option, Some, None, sym, refl, subst, ◌≤◌, arith, true, Bool, false, cond, ap, ◌∙◌}
use Rattle.std.specs.Prelude.{IfSome, IsSome, is_none}
use Rattle.std.specs.Option.{option_map, unwrap_or}
use Rattle.std.specs.Ordering.{nat_cmp, eq_by_cmp}
use Rattle.std.specs.Cmp.Lexicographic.{slice_cmp, nat_list_cmp_total}
use Rattle.h5w_model.specs.Images.{apply}
use Rattle.h5w_model.specs.declared.piece.Write.{Write}
use Rattle.h5w_model.specs.Causes.{Rose}
use Rattle.h5w_image.specs.View.{DiskView, IsThere, Leaves, DiskState, file, made, put, Files}
use Rattle.h5w_image.proofs.Names.{get-insert_same, some-insert}
use Rattle.std.specs.FinMap as finite

-- a file that is there stays
pub there_kept : {v w : DiskView} (n : ℕ) (name : List ℕ) → Leaves n v.told v w → IsThere v name → IsThere w name
there_kept n name p there = subst (λ t. IfSome t (λ d. IsSome (file d name))) (sym p.told) there

-- a write into a file leaves each that is there
pub there_after_put : {v w : DiskView} (name q : List ℕ) (wr : Write) (faults : ℕ) → Leaves 1 (option_map (put name wr faults) v.told) v w → IsThere v q → IsThere w q
there_after_put {v} name q wr faults p there = subst (λ t. IfSome t (λ d. IsSome (file d q))) (sym p.told) (cases v.told there)
  where
    cases : (t : Option DiskState) → IfSome t (λ d. IsSome (file d q)) → IfSome (option_map (put name wr faults) t) (λ d. IsSome (file d q))
    cases None h = tt
    cases (Some d) h = some-insert d.files name q (apply wr (unwrap_or (file d name) [])) h

-- a file that was made is there
pub there_when_made : {v w : DiskView} (name : List ℕ) → Leaves 0 (option_map (made name) v.told) v w → IsThere w name
there_when_made {v} name p = subst (λ t. IfSome t (λ d. IsSome (file d name))) (sym p.told) (cases v.told)
  where
    cases : (t : Option DiskState) → IfSome (option_map (made name) t) (λ d. IsSome (file d name))
    cases None = tt
    cases (Some d) = subst (λ o. IsSome o) (sym (get-insert_same d.files name [])) refl

-- a file that has a size is there
pub there_when_sized : {v w : DiskView} (name : List ℕ) (n : ℕ) → Leaves 0 v.told v w → IfSome v.told (λ d. Some n ≡ option_map length (file d name)) → IsThere w name
there_when_sized {v} name n p sized = subst (λ t. IfSome t (λ d. IsSome (file d name))) (sym p.told) (cases v.told sized)
  where
    some : (o : Option (List ℕ)) → Some n ≡ option_map length o → IsSome o
    some None e = absurd (cc)
    some (Some b) e = refl

    cases : (t : Option DiskState) → IfSome t (λ d. Some n ≡ option_map length (file d name)) → IfSome t (λ d. IsSome (file d name))
    cases None h = tt
    cases (Some d) h = some (file d name) h

-- for the attribute of a function that calls a disk
pub ruleset kept = (there_kept, there_after_put, there_when_made, there_when_sized)

pub rose_from : (a b c : ℕ) → a ≤ b → Rose b c → Rose a c
rose_from a b c low rose = omega arith

pub none_is : (o : Option (List ℕ)) → true ≡ is_none o → o ≡ None
none_is None e = refl
none_is (Some b) e = absurd (cc)

pub missing_file : (name : List ℕ) (t : Option DiskState) → IfSome t (λ d. true ≡ is_none (file d name)) → IfSome t (λ d. file d name ≡ None)
missing_file name None h = tt
missing_file name (Some d) h = none_is (file d name) h

pub insert_twice : (m : Files) (name b c : List ℕ) → finite.insert (finite.insert m name b) name c ≡ finite.insert m name c
insert_twice m name b c =
    finite.same_map nat_list_cmp_total (finite.slice_cmp-IsAntisymmetric finite.nat_cmp-IsAntisymmetric) _ _
    (λ q. finite.get-insert nat_list_cmp_total (finite.insert m name b) name c q
    ∙ ap (cond (eq_by_cmp (slice_cmp nat_cmp) q name) (Some c)) (finite.get-insert nat_list_cmp_total m name b q)
    ∙ twice (eq_by_cmp (slice_cmp nat_cmp) q name) (finite.get m q)
    ∙ sym (finite.get-insert nat_list_cmp_total m name c q))
  where
    twice : (e : Bool) (o : Option (List ℕ)) → cond e (Some c) (cond e (Some b) o) ≡ cond e (Some c) o
    twice true o = refl
    twice false o = refl
