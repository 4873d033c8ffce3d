-- What a clearing finds and leaves.
use Rattle.std.proofs.Common.{◌≡◌, ◌⊎◌, ℕ, zero, suc, ◌-◌, ◌%◌, ◌≤◌, ◌<◌, Bool, List, [], ◌∷◌, ◌++◌, length, take, drop, Option, Some, None, Result, Ok, Err, refl, sym, ap, ap₂, ◌∙◌, subst, inl, inr, arith}
use Rattle.std.specs.Prelude.{IfSome, IfOk, IsSome, IfErr, OnOk, option_map}
use Rattle.std.specs.Option.{unwrap_or}
use Rattle.std.proofs.lemmas.Bool.{leb-true}
use Rattle.h5w_model.specs.Checksum.{sealed_block}
use Rattle.h5w_model.specs.Numbers.{field, le, num, range}
use Rattle.h5w_model.specs.Superblock.{super_at, super_fields, super_tests}
use Rattle.h5w_model.specs.declared.root.Super.{Super}
use Rattle.h5w_model.proofs.CheckedLemmas.{checked-ok, checked-passed}
use Rattle.h5w_model.proofs.ChecksumLemmas.{is_sealed-sealed_block}
use Rattle.h5w_model.proofs.NumberLemmas.{num-one}
use Rattle.h5w_image.specs.View.{DiskState, DiskView, IsThere, Leaves, FileGivesRange, file, put}
use Rattle.h5w_image.proofs.DiskLemmas.{rose_from}
use Rattle.h5w_text.specs.Errors.{error_text}
use Rattle.h5w_text.specs.Says.{Said, SaidUnlessMemory}
use Rattle.h5w_text.specs.Statuses.{status_of}
use Rattle.h5w_text.specs.Streams.{SinkView}
use Rattle.h5w_text.specs.declared.error.ErrorLine.{ErrorLine}
use Rattle.h5w_text.specs.declared.error.ErrorLine.TheVariants as errors
use Rattle.h5w_text.specs.declared.status.Status.{Status}
use Rattle.h5w_text.specs.declared.status.Status.TheVariants as statuses
use Rattle.h5w_files.specs.Images.{LeavesFiles}
use Rattle.h5w_files.specs.Ends.{IsGivenBy, EndsWell}
use Rattle.h5w_files.specs.declared.flags.Clearing.{Clearing}
use Rattle.h5w_files.specs.Clears.{ClearEnds, ClearsTo, FindsSuperblock, Puts, IsOfClear, ReadsWith, after_clear, clear_text, clears_at, clears_of, flags_put, front_of, rewritten, with_flags}
use Rattle.h5w_files.proofs.EndLemmas.{answers_same, completes, ends_done, ends_error}

pub leaves_files : {v w : DiskView} (n : ℕ) (after : Option DiskState) → Leaves n after v w → LeavesFiles after v w
leaves_files n after p = record { told = p.told; faults = p.faults; through = p.through }

leaves_twice : {u v w : DiskView} → Leaves 0 u.told u v → Leaves 0 v.told v w → LeavesFiles u.told u w
leaves_twice p q = record { told = q.told ∙ p.told; faults = omega (arith, p.faults, q.faults); through = q.through ∙ p.through }

pub none_of : (o : Option (List ℕ)) → None ≡ option_map length o → o ≡ None
none_of None e = refl
none_of (Some x) e = cc

-- the disk failed
pub any_told : {P : DiskState → Type 0} (t : Option DiskState) → ((d : DiskState) → P d) → IfSome t P
any_told None h = tt
any_told (Some d) h = h d

-- its first 48 bytes, or fewer where it ends, are what its superblock is read from
there_bytes : (bytes : List ℕ) (upgrade : Bool) (r : Result Clearing ErrorLine) (o : Option (List ℕ)) → IsSome o → bytes ≡ range (unwrap_or o []) 0 48 → r ≡ clears_at upgrade bytes → IsGivenBy (clears_of upgrade o) r
there_bytes bytes upgrade r None some is e = cc
there_bytes bytes upgrade r (Some img) some is e = answers_same (clears_at upgrade (range img 0 48)) r (sym (e ∙ ap (clears_at upgrade) is))

if_ok : {A E : Type 0} (r : Result A E) {P : Type 0} → P → OnOk r P
if_ok (Ok a) p = p
if_ok (Err e) p = tt

if_both : {A E : Type 0} (r : Result A E) {P Q : Type 0} → (P → Q) → OnOk r P → OnOk r Q
if_both (Ok a) f p = f p
if_both (Err e) f p = tt

pub finds_superblock : {u v w : DiskView} (name bytes : List ℕ) (upgrade : Bool) (r : Result Clearing ErrorLine) → Leaves 0 u.told u v → v.faults ≡ u.faults → Leaves 0 v.told v w → w.faults ≡ v.faults → IsThere v name
    → FileGivesRange v name 0 48 bytes → length bytes ≤ 48 → r ≡ clears_at upgrade bytes → IfErr r IsOfClear → OnOk r (48 ≤ length bytes) → (r ≡ Err errors.Disk → ⊥)
    → FindsSuperblock name upgrade u w bytes r
finds_superblock {u} {v} {w} name bytes upgrade r p calm q calmer there given bound e kinds whole quiet = record {
  disk = leaves_twice p q;
  calm = if_ok r (calmer ∙ calm);
  exact = told u.told (subst (λ t. IfSome t (λ d. IsSome (file d name))) p.told there) (subst (λ t. IfSome t (λ d. bytes ≡ front_of name d)) p.told given);
  kinds = kinds;
  cause = λ failed. absurd (quiet failed);
  there = if_ok r (subst (λ t. IfSome t (λ d. IsSome (file d name))) (sym q.told) there);
  whole = if_both r (λ low. omega (arith, low, bound)) whole;
  bytes_are = if_ok r (subst (λ t. IfSome t (λ d. bytes ≡ front_of name d)) p.told given);
}
  where
    told : (t : Option DiskState) → IfSome t (λ d. IsSome (file d name)) → IfSome t (λ d. bytes ≡ front_of name d) → IfSome t (λ d. IsGivenBy (clears_of upgrade (file d name)) r)
    told None some is = tt
    told (Some d) some is = there_bytes bytes upgrade r (file d name) some is e

-- ---- The superblock that is put

-- what holds of each list of at least n numbers, number by number
abbrev Fronted : ℕ → (List ℕ → Type 0) → Type 0
Fronted zero P = (rest : List ℕ) → P rest
Fronted (suc n) P = (x : ℕ) → Fronted n (λ rest. P (x ∷ rest))

fronted : (n : ℕ) (P : List ℕ → Type 0) (b : List ℕ) → n ≤ length b → Fronted n P → P b
fronted zero P b long f = f b
fronted (suc n) P [] long f = absurd (omega (arith, long))
fronted (suc n) P (x ∷ b) long f = fronted n (λ rest. P (x ∷ rest)) b (omega (arith, long)) (f x)

-- it is read as the one before, but for its version and its flags
read_again : (b : List ℕ) (flags : ℕ) (s : Super) → 44 ≤ length b → super_at b ≡ Ok s → super_at (rewritten b 3 flags) ≡ Ok (record s { version = 3; flags = flags })
unfolding le num
read_again b flags s long = fronted 44 (λ b. super_at b ≡ Ok s → super_at (rewritten b 3 flags) ≡ Ok (record s { version = 3; flags = flags })) b long
    (λ b0 b1 b2 b3 b4 b5 b6 b7 b8 b9 b10 b11 b12 b13 b14 b15 b16 b17 b18 b19 b20 b21
    b22 b23 b24 b25 b26 b27 b28 b29 b30 b31 b32 b33 b34 b35 b36 b37 b38 b39 b40 b41 b42 b43 rest is.
    let c : List ℕ = b0 ∷ b1 ∷ b2 ∷ b3 ∷ b4 ∷ b5 ∷ b6 ∷ b7 ∷ b8 ∷ b9 ∷ b10 ∷ b11 ∷ b12 ∷ b13 ∷ b14 ∷ b15 ∷ b16 ∷ b17 ∷ b18 ∷ b19 ∷ b20 ∷ b21
    ∷ b22 ∷ b23 ∷ b24 ∷ b25 ∷ b26 ∷ b27 ∷ b28 ∷ b29 ∷ b30 ∷ b31 ∷ b32 ∷ b33 ∷ b34 ∷ b35 ∷ b36 ∷ b37 ∷ b38 ∷ b39 ∷ b40 ∷ b41 ∷ b42 ∷ b43 ∷ rest in
    let p = checked-passed (super_tests c) (super_fields c) s is in
    let body : List ℕ = take 8 c ++ 3 ∷ range c 9 2 ++ flags ∷ range c 12 32 in
    let q = p.0.1.1.1.1 in
    let moved : ◌≡◌ {A = Super} (super_fields (rewritten c 3 flags)) (record (super_fields c) { version = 3; flags = flags }) =
    λ i. record { version = num-one 3 i; flags = num-one flags i; end = field c 28 8; root = field c 36 8 } in
    checked-ok (super_tests (rewritten c 3 flags)) (super_fields (rewritten c 3 flags)) (p.0.0, (refl, (refl, (p.0.1.1.1.0, (is_sealed-sealed_block body, (q.1.0, (q.1.1.0, tt)))))))
    ∙ ap Ok moved
    ∙ ap (λ (t : Super). Ok (record t { version = 3; flags = flags })) p.1)

reads_with : (b : List ℕ) (flags : ℕ) → ReadsWith b flags
reads_with b flags = λ s is.
    let p = checked-passed (super_tests b) (super_fields b) s is in
    let whole : 48 ≤ length b = leb-true 48 (length b) p.0.1.0 in
    read_again b flags s (omega (arith, whole)) is

byte_in_one : (f : ℕ) → f < 256 → f % 256 ≡ f
byte_in_one f low = omega arith

-- a block in which the version and the flags are put
abbrev put_version : List ℕ → List ℕ
put_version b = (take 8 b ++ le 1 3) ++ drop 9 b

abbrev put_both : List ℕ → ℕ → List ℕ
put_both b flags = (take 11 (put_version b) ++ le 1 flags) ++ drop 12 (put_version b)

-- and that is sealed again
sealed_again : (b : List ℕ) (flags : ℕ) → 44 ≤ length b → length b ≡ 48 → flags < 256 → sealed_block (take (length (put_both b flags) - 4) (put_both b flags)) ≡ rewritten b 3 flags
unfolding le
sealed_again b flags long n low =
    fronted 44 (λ b. length b ≡ 48 → sealed_block (take (length (put_both b flags) - 4) (put_both b flags)) ≡ rewritten b 3 flags) b long
    (λ b0 b1 b2 b3 b4 b5 b6 b7 b8 b9 b10 b11 b12 b13 b14 b15 b16 b17 b18 b19 b20 b21
    b22 b23 b24 b25 b26 b27 b28 b29 b30 b31 b32 b33 b34 b35 b36 b37 b38 b39 b40 b41 b42 b43 rest n.
    let c : List ℕ = b0 ∷ b1 ∷ b2 ∷ b3 ∷ b4 ∷ b5 ∷ b6 ∷ b7 ∷ b8 ∷ b9 ∷ b10 ∷ b11 ∷ b12 ∷ b13 ∷ b14 ∷ b15 ∷ b16 ∷ b17 ∷ b18 ∷ b19 ∷ b20 ∷ b21
    ∷ b22 ∷ b23 ∷ b24 ∷ b25 ∷ b26 ∷ b27 ∷ b28 ∷ b29 ∷ b30 ∷ b31 ∷ b32 ∷ b33 ∷ b34 ∷ b35 ∷ b36 ∷ b37 ∷ b38 ∷ b39 ∷ b40 ∷ b41 ∷ b42 ∷ b43 ∷ rest in
    ap (λ k. sealed_block (take (k - 4) (put_both c flags))) n
    ∙ ap (λ f. sealed_block (take 8 c ++ 3 ∷ range c 9 2 ++ f ∷ range c 12 32)) (byte_in_one flags low)) n

pub rewritten_is : (b x y z : List ℕ) (flags : ℕ) → length b ≡ 48 → flags < 256 → x ≡ put_version b → y ≡ (take 11 x ++ le 1 flags) ++ drop 12 x → z ≡ sealed_block (take (length y - 4) y) → z ≡ rewritten b 3 flags
rewritten_is b x y z flags n low is_x is_y is_z =
    let both : y ≡ put_both b flags = is_y ∙ ap (λ (l : List ℕ). (take 11 l ++ le 1 flags) ++ drop 12 l) is_x in
    is_z ∙ ap (λ (l : List ℕ). sealed_block (take (length l - 4) l)) both ∙ sealed_again b flags (omega (arith, n)) n low

-- ---- Clearing

-- what is put reads as it should, whatever the answer
reads_any : (name : List ℕ) (t : Option DiskState) (answer : Result Clearing ErrorLine) → IfSome t (λ d. IfOk answer (λ found. IfSome (flags_put found) (ReadsWith (front_of name d))))
reads_any name None answer = tt
reads_any name (Some d) (Err e) = tt
reads_any name (Some d) (Ok found) = each (flags_put found)
  where
    each : (o : Option ℕ) → IfSome o (ReadsWith (front_of name d))
    each None = tt
    each (Some flags) = reads_with (front_of name d) flags

-- what was found is refused
pub clears_refused : {v w : DiskView} (name bytes : List ℕ) (upgrade : Bool) (e : ErrorLine) → FindsSuperblock name upgrade v w bytes (Err e) → ClearsTo name upgrade v w (Err e)
clears_refused {v} {w} name bytes upgrade e p = record {
  calm = tt;
  disk = record { told = p.disk.told ∙ same v.told; faults = p.disk.faults; through = p.disk.through };
  exact = p.exact;
  reads = reads_any name v.told (Err e);
  kinds = p.kinds;
  cause = p.cause;
}
  where
    same : (t : Option DiskState) → t ≡ option_map (after_clear name (Err e) v.faults) t
    same None = refl
    same (Some d) = refl

-- memory is wanting before anything is put
pub clears_wanting : {v w : DiskView} (name bytes : List ℕ) (upgrade : Bool) (found : Clearing) → FindsSuperblock name upgrade v w bytes (Ok found) → ClearsTo name upgrade v w (Err errors.Memory)
clears_wanting {v} {w} name bytes upgrade found p = record {
  calm = tt;
  disk = record { told = p.disk.told ∙ same v.told; faults = p.disk.faults; through = p.disk.through };
  exact = any_told v.told (λ d. tt);
  reads = reads_any name v.told (Err errors.Memory);
  kinds = tt;
  cause = λ e. cc;
}
  where
    same : (t : Option DiskState) → t ≡ option_map (after_clear name (Err errors.Memory) v.faults) t
    same None = refl
    same (Some d) = refl

-- none of the flags is set
pub clears_nothing : {v w : DiskView} (name bytes : List ℕ) (upgrade : Bool) (found : Clearing) → FindsSuperblock name upgrade v w bytes (Ok found) → flags_put found ≡ None → ClearsTo name upgrade v w (Ok found)
clears_nothing {v} {w} name bytes upgrade found p none = record {
  calm = p.calm;
  disk = record { told = p.disk.told ∙ same v.told; faults = p.disk.faults; through = p.disk.through };
  exact = p.exact;
  reads = reads_any name v.told (Ok found);
  kinds = tt;
  cause = λ e. cc;
}
  where
    same : (t : Option DiskState) → t ≡ option_map (after_clear name (Ok found) v.faults) t
    same None = refl
    same (Some d) = ap Some (sym (ap (λ o. with_flags name o v.faults d) none))

-- the put of the superblock
pub clears_put : {u v w : DiskView} (name bytes : List ℕ) (upgrade : Bool) (found : Clearing) (flags : ℕ) (done : Unit {0}) → FindsSuperblock name upgrade u v bytes (Ok found) → flags_put found ≡ Some flags → Puts name bytes flags v w (Ok done)
    → ClearsTo name upgrade u w (Ok found)
clears_put {u} {v} {w} name bytes upgrade found flags done p some q = record {
  calm = q.calm ∙ p.calm;
  disk = record {
    told = q.ok.told ∙ ap₂ (λ n t. option_map (put name (record { at = 0; piece = rewritten bytes 3 flags }) n) t) p.calm p.disk.told ∙ same u.told p.bytes_are;
    faults = omega (arith, p.disk.faults, q.ok.faults);
    through = q.ok.through ∙ p.disk.through;
  };
  exact = p.exact;
  reads = reads_any name u.told (Ok found);
  kinds = tt;
  cause = λ e. cc;
}
  where
    same : (t : Option DiskState) → IfSome t (λ d. bytes ≡ front_of name d)
        → option_map (put name (record { at = 0; piece = rewritten bytes 3 flags }) u.faults) t ≡ option_map (after_clear name (Ok found) u.faults) t
    same None is = refl
    same (Some d) is =
        ap (λ b. Some (put name (record { at = 0; piece = rewritten b 3 flags }) u.faults d)) is
        ∙ ap Some (sym (ap (λ o. with_flags name o u.faults d) some))

-- the put is refused
free_error : (e : ErrorLine) → (e ≡ errors.Disk) ⊎ (e ≡ errors.Memory) → (given : Result Clearing ErrorLine) → IsGivenBy given (Err e)
free_error e (inl disk) given = subst (λ x. IsGivenBy given (Err x)) (sym disk) tt
free_error e (inr memory) given = subst (λ x. IsGivenBy given (Err x)) (sym memory) tt

free_kind : (e : ErrorLine) → (e ≡ errors.Disk) ⊎ (e ≡ errors.Memory) → IsOfClear e
free_kind e (inl disk) = subst (λ x. IsOfClear x) (sym disk) tt
free_kind e (inr memory) = subst (λ x. IsOfClear x) (sym memory) tt

pub clears_failed : {u v w : DiskView} (name bytes : List ℕ) (upgrade : Bool) (found : Clearing) (flags : ℕ) (e : ErrorLine) → FindsSuperblock name upgrade u v bytes (Ok found) → Puts name bytes flags v w (Err e) → ClearsTo name upgrade u w (Err e)
clears_failed {u} {v} {w} name bytes upgrade found flags e p q = record {
  calm = tt;
  disk = record {
    told = q.refused.told ∙ p.disk.told ∙ same u.told;
    faults = omega (arith, p.disk.faults, q.refused.faults);
    through = q.refused.through ∙ p.disk.through;
  };
  exact = any_told u.told (λ d. free_error e q.kinds (clears_of upgrade (file d name)));
  reads = reads_any name u.told (Err e);
  kinds = free_kind e q.kinds;
  cause = λ failed. rose_from u.faults v.faults w.faults p.disk.faults (q.cause (let f : e ≡ errors.Disk = cc in ap Err f));
}
  where
    same : (t : Option DiskState) → t ≡ option_map (after_clear name (Err e) u.faults) t
    same None = refl
    same (Some d) = refl

-- an error's line may want memory
memory_too : {v w : DiskView} (name : List ℕ) (upgrade : Bool) (e : ErrorLine) → ClearsTo name upgrade v w (Err e) → ClearsTo name upgrade v w (Err errors.Memory)
memory_too {v} {w} name upgrade e p = record {
  calm = tt;
  disk = record { told = p.disk.told ∙ same v.told; faults = p.disk.faults; through = p.disk.through };
  exact = any_told v.told (λ d. tt);
  reads = reads_any name v.told (Err errors.Memory);
  kinds = tt;
  cause = λ failed. cc;
}
  where
    same : (t : Option DiskState) → option_map (after_clear name (Err e) v.faults) t ≡ option_map (after_clear name (Err errors.Memory) v.faults) t
    same None = refl
    same (Some d) = refl

pub clears_done : {v w : DiskView} {k l : SinkView} (name : List ℕ) (upgrade : Bool) (found : Clearing) (text : List ℕ) (status : Status) → ClearsTo name upgrade v w (Ok found) → text ≡ clear_text (Ok found)
    → Said text statuses.Done status k l → ClearEnds name upgrade v w status k l
clears_done name upgrade found text status p is said = ends_done found text status (p, is) said

pub clears_told : {v w : DiskView} {k l : SinkView} (name : List ℕ) (upgrade : Bool) (e : ErrorLine) (status : Status) → ClearsTo name upgrade v w (Err e)
    → SaidUnlessMemory (error_text e) (status_of e) status k l → ClearEnds name upgrade v w status k l
clears_told name upgrade e status p said = ends_error e status (p, refl) (memory_too name upgrade e p, refl) said

-- memory was wanting before the file was looked at
pub clears_wanted : {v : DiskView} {k l : SinkView} (name : List ℕ) (upgrade : Bool) (status : Status) → Said (error_text errors.Memory) statuses.Memory status k l → ClearEnds name upgrade v v status k l
clears_wanted {v} name upgrade status said = record {
  answer = Err errors.Memory;
  text = error_text errors.Memory;
  comes = (
    record {
      calm = tt;
      disk = record { told = same v.told; faults = omega arith; through = refl };
      exact = any_told v.told (λ d. tt);
      reads = reads_any name v.told (Err errors.Memory);
      kinds = tt;
      cause = λ h. cc;
    },
    refl,
  );
  said = said;
}
  where
    same : (t : Option DiskState) → t ≡ option_map (after_clear name (Err errors.Memory) v.faults) t
    same None = refl
    same (Some d) = refl

pub clears_whole : {v w : DiskView} {k l : SinkView} (name : List ℕ) (upgrade : Bool) (status : Status) → ClearEnds name upgrade v w status k l → EndsWell (clears_of upgrade) name v w status k l
clears_whole {v} {w} name upgrade status e = completes w (clears_of upgrade) name status e (λ answer text c. c.0.exact) (λ answer text c. c.0.cause)
