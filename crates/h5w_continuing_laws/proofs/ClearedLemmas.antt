-- What a clear leaves of a file.
use Rattle.std.proofs.Common.{◌≡◌, ℕ, suc, ◌/◌, ◌%◌, ◌≤◌, Bool, true, false, not, cond, ◌||◌, List, [], ◌∷◌, ◌++◌, length, take, Option, Some, None, Result, Ok, Err, refl, ap, sym, ◌∙◌, subst, arith, length-append, length-take}
use Rattle.std.specs.Prelude.{◌==◌, IfOk, IfSome, option_map}
use Rattle.std.specs.Option.{unwrap_or}
use Rattle.std.proofs.lemmas.Bool.{eq-eqb, eqb-true, leb-true}
use Rattle.h5w_model.specs.Numbers.{range}
use Rattle.h5w_model.specs.Images.{apply}
use Rattle.h5w_model.specs.Superblock.{super_at, super_fields, super_tests}
use Rattle.h5w_model.specs.Datasets.{refused_as, super_refusal}
use Rattle.h5w_model.specs.declared.piece.Write.{Write}
use Rattle.h5w_model.specs.declared.root.Super.{Super}
use Rattle.h5w_model.proofs.CheckedLemmas.{checked-passed}
use Rattle.h5w_model.proofs.ChecksumLemmas.{length-sealed_block}
use Rattle.h5w_model.proofs.ImageLemmas.{length-range}
use Rattle.h5w_laws.proofs.ResultLemmas.{refused_ok, then_ok}
use Rattle.h5w_image.specs.View.{DiskState, DiskView, file, put}
use Rattle.h5w_image.proofs.Names.{get-insert_same}
use Rattle.h5w_opening.specs.Openings.{is_open}
use Rattle.h5w_text.specs.declared.error.ErrorLine.{ErrorLine}
use Rattle.h5w_text.specs.declared.error.ErrorLine.TheVariants as errors
use Rattle.h5w_reopening_laws.specs.Reopens.{ClearsFlags, IsCleared, by_write, was_clear}
use Rattle.h5w_files.specs.Clears.{ClearsTo, ReadsWith, after_clear, cleared, clears_at, clears_by, clears_of, flags_put, front_of, rewritten, with_flags}
use Rattle.h5w_files.specs.Ends.{IsGivenBy}
use Rattle.h5w_files.specs.Images.{told_bytes}
use Rattle.h5w_files.specs.declared.flags.Clearing.{Clearing}
use Rattle.h5w_files.specs.declared.flags.Clearing.TheVariants.{Flags, Upgraded}
use Rattle.h5w_continuing_laws.specs.Continues.{ClearClears}

-- a disk that tells a file's bytes tells its files
told_file : (t : Option DiskState) (name img : List ℕ) → told_bytes t name ≡ Some img → (d : DiskState) × (t ≡ Some d) × (file d name ≡ Some img)
told_file None name img h = absurd cc
told_file (Some d) name img h = (d, refl, h)

-- ---- The flags

-- no bit of a writer is set in what is cleared
shut_cleared : (flags : ℕ) → is_open (cleared flags) ≡ false
shut_cleared flags =
    let low : cleared flags % 2 ≡ 0 = omega arith in
    let high : cleared flags / 4 % 2 ≡ 0 = omega arith in
    λ i. not (eq-eqb (cleared flags % 2) 0 low i) || not (eq-eqb (cleared flags / 4 % 2) 0 high i)

-- nor in flags that are cleared already
shut_same : (flags : ℕ) → cleared flags ≡ flags → is_open flags ≡ false
shut_same flags e = ap is_open (sym e) ∙ shut_cleared flags

-- what was found of a superblock
pub record IsOfSuper (s : Super) (found : Clearing) : Type 0 where
  -- the flags that are put are those of no writer
  pub shut : (flags : ℕ) → flags_put found ≡ Some flags → is_open flags ≡ false
  -- where none are put, none were set, and the version is not 2
  pub idle : flags_put found ≡ None → ((s.version == 2) ≡ false) × (is_open s.flags ≡ false)

some_flags : (a b : ℕ) → ◌≡◌ {A = Option ℕ} (Some a) (Some b) → a ≡ b
some_flags a b e = cc

of_upgrade : (s : Super) → IsOfSuper s Upgraded
of_upgrade s = record { shut = λ flags e. ap is_open (sym (some_flags 0 flags e)); idle = λ e. absurd cc }

of_flags : (s : Super) → (s.version == 2) ≡ false → IsOfSuper s (Flags s.flags)
of_flags s new = record { shut = λ flags e. put_by (cleared s.flags == s.flags) flags e; idle = λ e. (new, idle_by (cleared s.flags == s.flags) refl e) }
  where
    put_by : (t : Bool) (flags : ℕ) → cond t None (Some (cleared s.flags)) ≡ Some flags → is_open flags ≡ false
    put_by true flags e = absurd cc
    put_by false flags e = ap is_open (sym (some_flags (cleared s.flags) flags e)) ∙ shut_cleared s.flags

    idle_by : (t : Bool) → (cleared s.flags == s.flags) ≡ t → cond t None (Some (cleared s.flags)) ≡ None → is_open s.flags ≡ false
    idle_by true is e = shut_same s.flags (eqb-true (cleared s.flags) s.flags is)
    idle_by false is e = absurd cc

one_found : (f g : Clearing) → ◌≡◌ {A = Result Clearing ErrorLine} (Ok f) (Ok g) → f ≡ g
one_found f g e = cc

of_super : (upgrade : Bool) (s : Super) (found : Clearing) → clears_by upgrade s ≡ Ok found → IsOfSuper s found
of_super upgrade s found h = by (s.version == 2) upgrade refl h
  where
    by : (old up : Bool) → (s.version == 2) ≡ old → cond old (cond up (Ok Upgraded) (Err (errors.WriterVersion s.version))) (Ok (Flags s.flags)) ≡ Ok found → IsOfSuper s found
    by true true is e = subst (IsOfSuper s) (one_found Upgraded found e) (of_upgrade s)
    by true false is e = absurd cc
    by false up is e = subst (IsOfSuper s) (one_found (Flags s.flags) found e) (of_flags s is)

-- ---- The superblock

long_super : (b : List ℕ) (s : Super) → super_at b ≡ Ok s → 48 ≤ length b
long_super b s h = leb-true 48 (length b) (checked-passed (super_tests b) (super_fields b) s h).0.1.0

long_rewritten : (b : List ℕ) (flags : ℕ) → length b ≡ 48 → length (rewritten b 3 flags) ≡ 48
long_rewritten b flags e =
    let eight = length-take 8 b in
    let two = length-range b 9 2 in
    let rest = length-range b 12 32 in
    let front = take 8 b ++ 3 ∷ range b 9 2 in
    let behind = flags ∷ range b 12 32 in
    let one : length (3 ∷ range b 9 2) ≡ suc (length (range b 9 2)) = refl in
    let last : length behind ≡ suc (length (range b 12 32)) = refl in
    length-sealed_block (front ++ behind) ∙ omega (arith, length-append front behind, length-append (take 8 b) (3 ∷ range b 9 2), one, last, eight, two, rest, e)

-- ---- The file

module _ (name : List ℕ) (upgrade : Bool) (v w : DiskView) (found : Clearing) (img : List ℕ) (c : ClearsTo name upgrade v w (Ok found)) (d : DiskState) (told : v.told ≡ Some d) (there : file d name ≡ Some img) where
  read : (s : Super) × (super_at (range img 0 48) ≡ Ok s) × (clears_by upgrade s ≡ Ok found)
  read =
      let given : clears_of upgrade (file d name) ≡ Ok found = subst (λ t. IfSome t (λ d. IsGivenBy (clears_of upgrade (file d name)) (Ok found))) told c.exact in
      let asked : clears_at upgrade (range img 0 48) ≡ Ok found = ap (clears_of upgrade) (sym there) ∙ given in
      let t = then_ok (refused_as (λ e. errors.Read (super_refusal e)) (super_at (range img 0 48))) (clears_by upgrade) found asked in
      (t.0, refused_ok (λ e. errors.Read (super_refusal e)) (super_at (range img 0 48)) t.0 t.1, t.2)

  front : front_of name d ≡ range img 0 48
  front = ap (λ o. range (unwrap_or o []) 0 48) there

  left : w.told ≡ Some (with_flags name (flags_put found) v.faults d)
  left = c.disk.told ∙ ap (option_map (after_clear name (Ok found) v.faults)) told

  by_put : (o : Option ℕ) → flags_put found ≡ o → (new : List ℕ) × (told_bytes w.told name ≡ Some new) × IsCleared img new
  by_put None is =
      let idle = (of_super upgrade read.0 found read.2).idle is in
      let same : w.told ≡ Some d = left ∙ ap (λ o. Some (with_flags name o v.faults d)) is in
      (img, ap (λ t. told_bytes t name) same ∙ there, was_clear read.0 read.1 idle.0 idle.1 refl)
  by_put (Some flags) is =
      let piece = rewritten (front_of name d) 3 flags in
      let write : Write = record { at = 0; piece = piece } in
      let s = read.0 in
      let long = long_super (range img 0 48) s read.1 in
      let short = length-range img 0 48 in
      let whole : length (front_of name d) ≡ 48 = ap length front ∙ omega (arith, long, short) in
      let reads_with : ReadsWith (front_of name d) flags =
      subst (λ o. IfSome o (ReadsWith (front_of name d))) is (subst (λ t. IfSome t (λ d. IfOk {E = ErrorLine} (Ok found) (λ found. IfSome (flags_put found) (ReadsWith (front_of name d))))) told c.reads) in
      let put_told : w.told ≡ Some (put name write v.faults d) = left ∙ ap (λ o. Some (with_flags name o v.faults d)) is in
      let clears : ClearsFlags img write = record {
        flags = flags;
        closed = (of_super upgrade s found read.2).shut flags is;
        place = refl;
        len = long_rewritten (front_of name d) flags whole;
        reads = λ t e. reads_with t (ap super_at front ∙ e);
      } in (
        apply write img,
        ap (λ t. told_bytes t name) put_told ∙ get-insert_same d.files name (apply write (unwrap_or (file d name) [])) ∙ ap (λ o. Some (apply write (unwrap_or o []))) there,
        by_write write clears refl,
      )

  pub clears_it : (new : List ℕ) × (told_bytes w.told name ≡ Some new) × IsCleared img new
  clears_it = by_put (flags_put found) refl

pub clear_clears : ClearClears
clear_clears name upgrade v w found img c told = let t = told_file v.told name img told in clears_it name upgrade v w found img c t.0 t.1 t.2
