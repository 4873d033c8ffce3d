-- What calls say of an image while an array is opened.
use Rattle.std.proofs.Common.{◌≡◌, ◌≢◌, inl, inr, ℕ, ◌+◌, ◌-◌, ◌^◌, ◌<◌, ◌≤◌, min, Bool, true, false, List, ◌++◌, length, Result, Ok, Err, refl, sym, ap, subst, ◌∙◌, arith}
use Rattle.std.proofs.lemmas.Bool.{cases_eq}
use Rattle.std.specs.Prelude.{Option, Some, None, IfSome, OnOk, codes}
use Rattle.h5w_model.specs.Numbers.{field, range}
use Rattle.h5w_model.specs.Images.{At}
use Rattle.h5w_model.specs.Blocks.{block_tests}
use Rattle.h5w_model.specs.Checked.{viewed}
use Rattle.h5w_model.specs.Arrays.{EahdFields, eahd_at, eahd_fields, eahd_len, parameter_tests}
use Rattle.h5w_model.proofs.CheckedLemmas.{checked-passed}
use Rattle.h5w_model.specs.declared.refusal.BlockFault.{BlockFault}
use Rattle.h5w_image.specs.View.{ImageView, Looked}
use Rattle.h5w_image.proofs.ViewLemmas.{looked_twice}
use Rattle.h5w_laws.proofs.LoweringLemmas.{length_range}
use Rattle.h5w_looks.specs.Still.{IsStill}
use Rattle.h5w_looks.proofs.ReadLemmas.{still_on}
use Rattle.h5w_cache.specs.Blocks.{BlockView}
use Rattle.h5w_cache.specs.Stores.{Store}
use Rattle.h5w_array_laws.specs.Parts.{Part, data_of, secondary_of, IsPart, index_block, header, number_of, length_of, stays_in_place}
use Rattle.h5w_array_laws.specs.ArrayStores.{block_at_part, place_at_part, header_place}
use Rattle.h5w_ea_index.specs.Created.{Keeps}
use Rattle.h5w_ea_index.specs.Opened.{IfDamaged, IsHeaderAt, IsJudged, IsMade, IsOpened, IsSound, IsThere, NamesBlock, refusal, Loads, OnDamaged, StandsAt, refusal_of, refused_on}
use Rattle.h5w_ea_index.specs.declared.error.OpenArrayError.{OpenArrayError}
use Rattle.h5w_ea_index.specs.declared.error.OpenArrayError.TheVariants.{Damaged, Failed, OutOfMemory}
use Rattle.h5w_ea_index.proofs.DecodedLemmas.{decoded}
use Rattle.h5w_ea_index.proofs.PartLemmas.{number_decides}

-- ---- Refusals

pub damaged_map : (e : OpenArrayError) (P Q : ℕ → BlockFault → Type 0) → ((a : ℕ) (f : BlockFault) → P a f → Q a f) → IfDamaged e P → IfDamaged e Q
damaged_map (Damaged a f) P Q up h = up a f h
damaged_map Failed P Q up h = tt
damaged_map OutOfMemory P Q up h = tt

abbrev as_error : {B : Type 0} → OpenArrayError → Result B OpenArrayError
as_error e = Err e

pub same_error : {A B : Type 0} (e : OpenArrayError) → as_error {B = B} e ≡ Err Failed → as_error {B = A} e ≡ Err Failed
same_error e h = let k : e ≡ Failed = cc in ap (λ x. Err x) k

-- what a decoder without memory answers
pub viewed_ok : {A B : Type 0} (f : A → B) (r : Result A BlockFault) (given : Result B BlockFault) (a : A) → viewed f r ≡ given → r ≡ Ok a → refusal given ≡ None
viewed_ok f r given a e is = ap refusal (sym e) ∙ ap (λ x. refusal (viewed f x)) is

pub viewed_err : {A B : Type 0} (f : A → B) (r : Result A BlockFault) (given : Result B BlockFault) (fault : BlockFault) → viewed f r ≡ given → r ≡ Err fault → refusal given ≡ Some fault
viewed_err f r given fault e is = ap refusal (sym e) ∙ ap (λ x. refusal (viewed f x)) is

-- ---- Calls

pub on_damaged_map : {A : Type 0} (r : Result A OpenArrayError) (P Q : ℕ → BlockFault → Type 0) → ((a : ℕ) (f : BlockFault) → P a f → Q a f) → OnDamaged r P → OnDamaged r Q
on_damaged_map (Ok a) P Q up h = tt
on_damaged_map (Err e) P Q up h = damaged_map e P Q up h

pub loads_as : {A B : Type 0} {v w : ImageView} (P : List ℕ → ℕ → BlockFault → Type 0) (e : OpenArrayError) → Loads {A = A} v w P (Err e) → Loads {A = B} v w P (Err e)
loads_as {A} {B} P e h = record { looked = h.looked; cause = λ x. h.cause (same_error {A = A} {B = B} e x); damaged = h.damaged }

-- nothing was refused
pub looks_alone : {A : Type 0} {v w : ImageView} (P : List ℕ → ℕ → BlockFault → Type 0) (a : A) → Looked v w → Loads {A = A} v w P (Ok a)
looks_alone P a h = record { looked = h; cause = λ e. absurd (cc); damaged = λ img still. tt }

-- want of memory after a look
pub looks_memory : {A : Type 0} {v w : ImageView} (P : List ℕ → ℕ → BlockFault → Type 0) → Looked v w → Loads {A = A} v w P (Err OutOfMemory)
looks_memory P h = record { looked = h; cause = λ e. absurd (cc); damaged = λ img still. tt }

-- after looks, what a call says is more than what is asked
pub loads_within : {B : Type 0} {v w x : ImageView} (P Q : List ℕ → ℕ → BlockFault → Type 0) (r : Result B OpenArrayError) → Looked v w → ((img : List ℕ) → IsStill v img → (a : ℕ) (f : BlockFault) → P img a f → Q img a f)
    → Loads {A = B} w x P r → Loads {A = B} v x Q r
loads_within {B} {v} {w} {x} P Q r one up two = record {
  looked = looked_twice one two.looked;
  cause = λ e. let c = two.cause e in let f = one.faults in omega arith;
  damaged = λ img still. on_damaged_map r (P img) (Q img) (up img still) (two.damaged img (still_on img one still));
}

-- a refusal that is none of the image
pub loads_quiet : {B : Type 0} {v w : ImageView} (P : List ℕ → ℕ → BlockFault → Type 0) (S : ℕ → BlockFault → Type 0) (e : OpenArrayError) → Looked v w → (e ≢ Failed)
    → ((img : List ℕ) → IsStill v img → (a : ℕ) (f : BlockFault) → S a f → P img a f) → IfDamaged e S → Loads {A = B} v w P (Err e)
loads_quiet {B} P S e looked quiet up h = record {
  looked = looked;
  cause = λ x. absurd (quiet (let y : e ≡ Failed = cc in y));
  damaged = λ img still. damaged_map e S (P img) (up img still) h;
}

-- ---- A block that was read

some_length : (k : Part) → 0 < length_of k
some_length (data_of s b) = omega arith
some_length (secondary_of s) = omega arith
some_length index_block = omega arith
some_length header = omega arith

module _ (img : List ℕ) (place n : ℕ) (k : Part) (bytes : List ℕ) (len : n ≡ length_of k) (read : bytes ≡ range img place n) where
  pub as_read : (o : Option BlockFault) → refusal_of k bytes place ≡ o → refused_on img k place ≡ o
  as_read o h = ap (λ q. refusal_of k (range img place q) place) (sym len) ∙ ap (λ b. refusal_of k b place) (sym read) ∙ h

  -- a block that stands there ends below 2^64
  pub read_inside : length img < 2 ^ 64 → refusal_of k bytes place ≡ None → place + n < 2 ^ 64
  read_inside short sound =
      let long = (decoded k bytes place sound).long in
      let some = some_length k in
      let l : length bytes ≡ min n (length img - place) = ap length read ∙ length_range img place n in
      omega arith

  pub read_there : (b : BlockView) → b.bytes ≡ bytes → refusal_of k bytes place ≡ None → length bytes ≤ n → IsThere img k place b
  read_there b e sound few =
      let long = (decoded k bytes place sound).long in
      let whole : length bytes ≡ n = omega arith in
      record {
        there = subst (λ x. At img place x) (sym e) (ap (range img place) whole ∙ sym read);
        sound = as_read None sound;
      }

  pub read_stands : (first top : ℕ) (whole : Bool) (b : BlockView) → IsJudged k bytes place first whole → IsMade top k bytes whole b → length bytes ≤ n → StandsAt img first k place b
  read_stands first top true b j made few = inl (read_there b (made.same refl).bytes_are (j.sound refl) few)
  read_stands first top false b j made few =
      let r = j.refused refl in
      inr (record { early = j.early refl; fault = r.0; refused = as_read (Some r.0) r.1; unnamed = (made.fresh refl).unnamed })

pub made_sound : (k : Part) (bytes : List ℕ) (place first top : ℕ) (whole : Bool) (b : BlockView) → IsJudged k bytes place first whole → IsMade top k bytes whole b → IsSound k b
made_sound k bytes place first top true b j made = (made.same refl).sound place (j.sound refl)
made_sound k bytes place first top false b j made = let f = made.fresh refl in record { block = f.block; sealed = f.whole }

-- under Ok
pub on_ok_map : {A E : Type 0} (r : Result A E) (P Q : Type 0) → (P → Q) → OnOk r P → OnOk r Q
on_ok_map (Ok a) P Q up h = up h
on_ok_map (Err e) P Q up h = tt

-- ---- A store

-- a block more, which stands on the image or was passed over
pub opened_kept : (img : List ℕ) (first : ℕ) (v w : Store) (k : Part) (b : BlockView) (p : ℕ) → IsPart k → stays_in_place k ≡ false → Keeps (number_of k) b p v w → StandsAt img first k p b → IsOpened img first v → IsOpened img first w
opened_kept img first v w k b p part moves keeps stands o =
    let top : header_place w ≡ header_place v = (keeps.others 846 (λ e. let t : header ≡ k = number_decides header k tt part e in let f : true ≡ stays_in_place k = ap stays_in_place t in absurd (cc))).1 in
    let second : place_at_part w index_block ≡ place_at_part v index_block = (keeps.others 845 (λ e. let t : index_block ≡ k = number_decides index_block k tt part e in let f : true ≡ stays_in_place k = ap stays_in_place t in absurd (cc))).1 in
    record {
      headed = record {
        fields = o.headed.fields;
        read = subst (λ q. eahd_at (range img q eahd_len) q ≡ Ok o.headed.fields) (sym top) o.headed.read;
        names = o.headed.names ∙ sym second;
      };
      each = λ j q. elim (cases_eq (number_of j) (number_of k)) [
        | inl e ↦
            let same : k ≡ j = number_decides k j part q (sym e) in
            subst (λ (x : Part). IfSome (block_at_part w x) (StandsAt img first x (place_at_part w x))) same
            (subst (λ y. IfSome y (StandsAt img first k (place_at_part w k))) (sym keeps.here) (subst (λ a. StandsAt img first k a b) (sym keeps.place) stands))
        | inr ne ↦
            let x = keeps.others (number_of j) ne in
            subst (λ y. IfSome y (StandsAt img first j (place_at_part w j))) (sym x.0) (subst (λ a. IfSome (block_at_part v j) (StandsAt img first j a)) (sym x.1) (o.each j q))
      ];
    }

-- ---- The header and the index block

pub named_long : (bytes : List ℕ) (place p : ℕ) → NamesBlock bytes place p → 72 ≤ length bytes
named_long bytes place p n = (decoded header bytes place (ap refusal n.read)).long

pub named_field : (bytes : List ℕ) (place p : ℕ) → NamesBlock bytes place p → field bytes 60 8 ≡ p
named_field bytes place p n =
    ap (λ (f : EahdFields). f.block) (checked-passed (block_tests (codes "EAHD") eahd_len bytes ++ parameter_tests bytes place) (eahd_fields bytes) n.fields n.read).1 ∙ n.names

pub header_there : (img : List ℕ) (place p : ℕ) (bytes : List ℕ) → NamesBlock bytes place p → length bytes ≡ 72 → bytes ≡ range img place 72 → IsHeaderAt img place bytes p
header_there img place p bytes n len e = record {
  there = ap (range img place) len ∙ sym e;
  fields = n.fields;
  read = ap (λ b. eahd_at b place) (sym e) ∙ n.read;
  names = n.names;
}

pub index_long : (bytes : List ℕ) (place : ℕ) → refusal_of index_block bytes place ≡ None → 298 ≤ length bytes
index_long bytes place h = (decoded index_block bytes place h).long
