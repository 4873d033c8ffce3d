-- Messages of an image, one of which is changed.
use Rattle.std.proofs.Common.{◌≡◌, ◌≢◌, ◌⊎◌, ℕ, ◌+◌, Bool, true, false, cond, eqb, ◌&&◌, List, [], ◌∷◌, map, Option, Some, None, refl, ap, sym, ◌∙◌, inl, inr, arith}
use Rattle.std.specs.Prelude.{◌==◌, option_map}
use Rattle.std.proofs.lemmas.Bool.{eq-eqb, ne_eqb}
use Rattle.std.proofs.lemmas.Bool.Decides.{eqb_tells}
use Rattle.h5w_model.specs.Headers.{with_number}
use Rattle.h5w_model.specs.Datasets.{FoundMessage, first_of, found_at}
use Rattle.h5w_model.specs.declared.message.Msg.{Msg}
use Rattle.h5w_step_laws.specs.Commits.{renumbered}

-- the message of chunk 0 of a kind at a place, with a number written over 8 bytes of its data
abbrev pub replaced : ℕ → ℕ → ℕ → ℕ → FoundMessage → FoundMessage
replaced kind place k v m = cond (((m.kind == kind) && (m.place == place)) && m.in_chunk_0) (record m { body = with_number m.body k v }) m

-- kind and flags stay
pub record IsKept (m n : FoundMessage) : Type 0 where
  pub kind : n.kind ≡ m.kind
  pub flags : n.flags ≡ m.flags

abbrev pub KeepsKinds : (FoundMessage → FoundMessage) → Type 0
KeepsKinds f = (m : FoundMessage) → IsKept m (f m)

pub replaced_keeps : (kind place k v : ℕ) → KeepsKinds (replaced kind place k v)
replaced_keeps kind place k v m = go (((m.kind == kind) && (m.place == place)) && m.in_chunk_0)
  where
    go : (t : Bool) → IsKept m (cond t (record m { body = with_number m.body k v }) m)
    go true = record { kind = refl; flags = refl }
    go false = record { kind = refl; flags = refl }

pub replaced_own : (kind place k v : ℕ) (m : FoundMessage) → (replaced kind place k v m).in_chunk_0 ≡ m.in_chunk_0
replaced_own kind place k v m = go (((m.kind == kind) && (m.place == place)) && m.in_chunk_0)
  where
    go : (t : Bool) → (cond t (record m { body = with_number m.body k v }) m).in_chunk_0 ≡ m.in_chunk_0
    go true = refl
    go false = refl

pub and_false : (t : Bool) → (t && false) ≡ false
and_false true = refl
and_false false = refl

pub replaced_outside : (kind place k v : ℕ) (m : FoundMessage) → m.in_chunk_0 ≡ false → replaced kind place k v m ≡ m
replaced_outside kind place k v m h =
    ap (λ t. cond (((m.kind == kind) && (m.place == place)) && t) (record m { body = with_number m.body k v }) m) h
    ∙ ap (λ t. cond t (record m { body = with_number m.body k v }) m) (and_false ((m.kind == kind) && (m.place == place)))

pub replaced_kind : (kind place k v : ℕ) (m : FoundMessage) → m.kind ≢ kind → replaced kind place k v m ≡ m
replaced_kind kind place k v m h = ap (λ t. cond ((t && (m.place == place)) && m.in_chunk_0) (record m { body = with_number m.body k v }) m) (ne_eqb m.kind kind h)

pub replaced_same : (kind place k v : ℕ) (m : FoundMessage) → m.kind ≡ kind → m.place ≡ place → m.in_chunk_0 ≡ true → replaced kind place k v m ≡ record m { body = with_number m.body k v }
replaced_same kind place k v m h g own = λ i. cond ((eq-eqb m.kind kind h i && eq-eqb m.place place g i) && own i) (record m { body = with_number m.body k v }) m

-- ---- The first of a kind

pub first_map : (f : FoundMessage → FoundMessage) (kind : ℕ) (ms : List FoundMessage) → KeepsKinds f → first_of kind (map f ms) ≡ option_map f (first_of kind ms)
first_map f kind [] h = refl
first_map f kind (m ∷ ms) h = ap (λ n. cond (n == kind) (Some (f m)) (first_of kind (map f ms))) (h m).kind ∙ go (m.kind == kind) (first_map f kind ms h)
  where
    go : (t : Bool) → first_of kind (map f ms) ≡ option_map f (first_of kind ms) → cond t (Some (f m)) (first_of kind (map f ms)) ≡ option_map f (cond t (Some m) (first_of kind ms))
    go true e = refl
    go false e = e

pub some_found : (x y : FoundMessage) → ◌≡◌ {A = Option FoundMessage} (Some x) (Some y) → x ≡ y
some_found x y e = cc

-- it has the kind
pub first_is : (kind : ℕ) (ms : List FoundMessage) (x : FoundMessage) → first_of kind ms ≡ Some x → x.kind ≡ kind
first_is kind [] x h = absurd cc
first_is kind (m ∷ ms) x h = go (eqb_tells m.kind kind) (first_is kind ms x)
  where
    go : ((eqb m.kind kind ≡ true) × (m.kind ≡ kind)) ⊎ ((eqb m.kind kind ≡ false) × (m.kind ≢ kind)) → (first_of kind ms ≡ Some x → x.kind ≡ kind) → x.kind ≡ kind
    go (inl t) later = ap (λ (n : FoundMessage). n.kind) (sym (some_found m x (ap (λ c. cond c (Some m) (first_of kind ms)) (sym t.0) ∙ h))) ∙ t.1
    go (inr t) later = later (ap (λ c. cond c (Some m) (first_of kind ms)) (sym t.0) ∙ h)

pub first_other : (kind place k v other : ℕ) (ms : List FoundMessage) → kind ≢ other → first_of other (map (replaced kind place k v) ms) ≡ first_of other ms
first_other kind place k v other ms differ =
    first_map (replaced kind place k v) other ms (replaced_keeps kind place k v) ∙ go (first_of other ms) (first_is other ms)
  where
    go : (o : Option FoundMessage) → ((x : FoundMessage) → o ≡ Some x → x.kind ≡ other) → option_map (replaced kind place k v) o ≡ o
    go None tells = refl
    go (Some m) tells = ap Some (replaced_kind kind place k v m (λ e. differ (sym e ∙ tells m refl)))

-- ---- Messages of chunk 0

-- a message of chunk 0 in the image
abbrev pub in_image : ℕ → Msg → FoundMessage
in_image base m = record { kind = m.kind; flags = m.flags; place = base + m.at; body = m.body; in_chunk_0 = true }

same_eqb : (base a b : ℕ) → eqb (base + a) (base + b) ≡ eqb a b
same_eqb base a b = go (eqb_tells a b)
  where
    go : ((eqb a b ≡ true) × (a ≡ b)) ⊎ ((eqb a b ≡ false) × (a ≢ b)) → eqb (base + a) (base + b) ≡ eqb a b
    go (inl t) = eq-eqb (base + a) (base + b) (ap (λ n. base + n) t.1) ∙ sym t.0
    go (inr t) = ne_eqb (base + a) (base + b) (λ e. t.1 (omega (arith, e))) ∙ sym t.0

pub and_true : (t : Bool) → (t && true) ≡ t
and_true true = refl
and_true false = refl

replaced_one : (base kind at k v : ℕ) (m : Msg) → replaced kind (base + at) k v (in_image base m) ≡ in_image base (renumbered kind at k v m)
replaced_one base kind at k v m =
    ap (λ t. cond t (in_image base (record m { body = with_number m.body k v })) (in_image base m)) (and_true ((m.kind == kind) && eqb (base + m.at) (base + at)) ∙ ap (λ t. (m.kind == kind) && t) (same_eqb base m.at at))
    ∙ go ((m.kind == kind) && (m.at == at))
  where
    go : (t : Bool) → cond t (in_image base (record m { body = with_number m.body k v })) (in_image base m) ≡ in_image base (cond t (record m { body = with_number m.body k v }) m)
    go true = refl
    go false = refl

pub replaced_all : (base kind at k v : ℕ) (ms : List Msg) → map (replaced kind (base + at) k v) (found_at base true ms) ≡ found_at base true (map (renumbered kind at k v) ms)
replaced_all base kind at k v [] = refl
replaced_all base kind at k v (m ∷ ms) = λ i. replaced_one base kind at k v m i ∷ replaced_all base kind at k v ms i
