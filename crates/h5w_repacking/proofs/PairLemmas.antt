-- Two files of one disk as a source and a new file.
use Rattle.std.proofs.Common.{◌≡◌, ◌≢◌, ℕ, Bool, true, false, List, [], ◌∷◌, ◌++◌, length, map, cond, Option, Some, None, Err, refl, sym, ap, ◌∙◌, subst, arith}
use Rattle.std.specs.Prelude.{IfSome, option_map}
use Rattle.std.specs.Option.{unwrap_or}
use Rattle.std.specs.Ordering.{nat_cmp, eq_by_cmp}
use Rattle.std.specs.Cmp.Lexicographic.{slice_cmp, nat_list_cmp_total}
use Rattle.std.specs.FinMap as finite
use Rattle.h5w_model.specs.Causes.{Rose}
use Rattle.h5w_model.specs.Images.{apply, image}
use Rattle.h5w_model.specs.declared.piece.Write.{Write}
use Rattle.h5w_image.specs.View.{DiskState, DiskView, Files, IsThere, Leaves, Looked, file, put}
use Rattle.h5w_image.proofs.Names.{equal_of}
use Rattle.h5w_files.specs.Images.{LeavesFiles, file_image, told_bytes}
use Rattle.h5w_files.proofs.ImageLemmas.{same_name, wrote_file}
use Rattle.h5w_packing.specs.declared.job.Job.{Job}
use Rattle.h5w_repack.specs.Copies.{AreDone, Carries, CarriesSome, put_each}
use Rattle.h5w_repack.specs.Pairs.{PutsOne}
use Rattle.h5w_repack.specs.declared.error.CopyError.{CopyError}
use Rattle.h5w_repack.specs.declared.error.CopyError.TheVariants as copies
use Rattle.h5w_repacking.specs.Pairs.{pair_of}
use Rattle.h5w_repacking.specs.Repacks.{CopiesTo, HasCopied, HasSome, line_of_copy}

-- what is inserted under a name leaves what stands under another one
pub get_insert-other : (m : Files) (name q b : List ℕ) → q ≢ name → finite.get (finite.insert m name b) q ≡ finite.get m q
get_insert-other m name q b other = finite.get-insert nat_list_cmp_total m name b q ∙ cases (eq_by_cmp (slice_cmp nat_cmp) q name) refl
  where
    cases : (e : Bool) → eq_by_cmp (slice_cmp nat_cmp) q name ≡ e → cond e (Some b) (finite.get m q) ≡ finite.get m q
    cases true e = absurd (other (finite.slice_cmp-IsAntisymmetric finite.nat_cmp-IsAntisymmetric q name (equal_of (slice_cmp nat_cmp q name) e)))
    cases false e = refl

-- ---- A piece that is put

-- what is so of a disk's files by names alone stays so
pub apart_kept : {v w : DiskView} (P : Type 0) → Leaves 0 v.told v w → IfSome v.told (λ d. P) → IfSome w.told (λ d. P)
apart_kept P p apart = subst (λ t. IfSome t (λ d. P)) (sym p.told) apart

pub apart_put : {v w : DiskView} (P : Type 0) (name : List ℕ) (wr : Write) (faults : ℕ) → Leaves 1 (option_map (put name wr faults) v.told) v w → IfSome v.told (λ d. P) → IfSome w.told (λ d. P)
apart_put {v} P name wr faults p apart = subst (λ t. IfSome t (λ d. P)) (sym p.told) (cases v.told apart)
  where
    cases : (t : Option DiskState) → IfSome t (λ d. P) → IfSome (option_map (put name wr faults) t) (λ d. P)
    cases None h = tt
    cases (Some d) h = h

pub ruleset stays_apart = (apart_kept, apart_put)

same_image : (o : Option (List ℕ)) → o ≡ option_map (λ b. image b []) o
same_image None = refl
same_image (Some b) = refl

other_bytes : (from to : List ℕ) (wr : Write) (faults : ℕ) (t : Option DiskState) → IfSome t (λ d. from ≢ to) → told_bytes (option_map (put to wr faults) t) from ≡ told_bytes t from
other_bytes from to wr faults None h = refl
other_bytes from to wr faults (Some d) h = get_insert-other d.files to from (apply wr (unwrap_or (file d to) [])) h

-- the source is another file
pub looked_other : {v w : DiskView} (r : ℕ) (from to : List ℕ) (wr : Write) (faults : ℕ) → IfSome v.told (λ d. from ≢ to) → Leaves 1 (option_map (put to wr faults) v.told) v w
    → Looked (pair_of r from to v).from (pair_of r from to w).from
looked_other {v} {w} r from to wr faults apart p =
    let same : told_bytes w.told from ≡ told_bytes v.told from = ap (λ t. told_bytes t from) p.told ∙ other_bytes from to wr faults v.told apart in
    let through = ap (λ t. r ∷ length from ∷ from ++ t) p.through in
    record {
      grown = ([], same ∙ same_image (told_bytes v.told from), refl);
      still = λ alone. record { bytes = same; history = refl; disk = refl; alone = refl; faults = p.faults; through = through; pieces = omega arith; end = omega arith };
      alone = refl;
      faults = p.faults;
      through = through;
      pieces = omega arith;
      end = omega arith;
    }

pub puts_one : {v w : DiskView} (r : ℕ) (to : List ℕ) (wr : Write) → IsThere v to → Leaves 1 (option_map (put to wr v.faults) v.told) v w → PutsOne to wr (file_image r to v) (file_image r to w)
puts_one {v} {w} r to wr there p = record { wrote = wrote_file r to wr v.faults there p; disk = p.told }

-- ---- The copying

pub copies_all : {v w : DiskView} (r q : ℕ) (from other to new : List ℕ) (left : List Job) → AreDone left (pair_of r from to v) (pair_of q other new w) → HasCopied from to left v w
copies_all {v} {w} r q from other to new left done = record {
  writes = done.writes;
  put = record {
    puts = done.carries.puts;
    are = done.carries.are;
    disk = record { told = done.carries.disk; faults = done.carries.wrote.faults; through = (same_name r q to new v.through w.through done.carries.wrote.through).1 };
  };
  are = λ img told short inside. done.are img (record { told = told; alone = refl; short = short }) inside;
}

copies_some : {v w : DiskView} (r q : ℕ) (from other to new : List ℕ) → CarriesSome (pair_of r from to v) (pair_of q other new w) → HasSome to v w
copies_some {v} {w} r q from other to new some = record {
  writes = some.writes;
  behind = some.behind;
  put = record {
    puts = some.carries.puts;
    are = some.carries.are;
    disk = record { told = some.carries.disk; faults = some.carries.wrote.faults; through = (same_name r q to new v.through w.through some.carries.wrote.through).1 };
  };
}

none_put : (to : List ℕ) (ps : List (Write × ℕ)) (t : Option DiskState) → map (λ (p : Write × ℕ). p.0) ps ≡ [] → option_map (put_each to ps) t ≡ t
none_put to [] None e = refl
none_put to [] (Some d) e = refl
none_put to (p ∷ ps) t e = absurd (cc)

copies_nothing : {v w : DiskView} (r q : ℕ) (from other to new : List ℕ) → Carries [] (pair_of r from to v) (pair_of q other new w) → LeavesFiles v.told v w
copies_nothing {v} {w} r q from other to new none = record {
  told = none.disk ∙ none_put to none.puts v.told none.are;
  faults = none.wrote.faults;
  through = (same_name r q to new v.through w.through none.wrote.through).1;
}

pub copies_error : (v w : DiskView) (r q : ℕ) (from other to new : List ℕ) (left : List Job) (e : CopyError) → CarriesSome (pair_of r from to v) (pair_of q other new w)
    → (e ≡ copies.OutOfMemory → Carries [] (pair_of r from to v) (pair_of q other new w)) → (e ≡ copies.From → Rose v.faults w.faults) → (e ≡ copies.To → Rose v.faults w.faults)
    → CopiesTo from to left v w (Err (line_of_copy e))
copies_error v w r q from other to new left copies.From some before from_fault to_fault = (copies_some {v = v} {w = w} r q from other to new some, from_fault refl)
copies_error v w r q from other to new left copies.To some before from_fault to_fault = (copies_some {v = v} {w = w} r q from other to new some, to_fault refl)
copies_error v w r q from other to new left copies.OutOfMemory some before from_fault to_fault = copies_nothing {v = v} {w = w} r q from other to new (before refl)
