-- What readers poll for, and so the rules and the names of the datasets, stay whatever a call makes of the session.
use Rattle.std.proofs.Common.{◌≡◌, ℕ, zero, suc, ◌<◌, List, [], ◌∷◌, ℤ, length, map, Some, refl, sym, ap, ◌∙◌, inl, inr, arith}
use Rattle.std.specs.Prelude.{slice_get, slice_set}
use Rattle.h5w_model.specs.Lawful.{Rules}
use Rattle.h5w_model.specs.Relations.{AllPaired}
use Rattle.h5w_model.specs.declared.root.Super.{Super}
use Rattle.h5w_image.specs.Memory.{MemView}
use Rattle.h5w_space.specs.Space.{Space}
use Rattle.h5w_script_laws.specs.Polling.{Polling}
use Rattle.h5w_writer.specs.Sessions.{AreRows, Session, rows_of, stopped_of, with_values}
use Rattle.h5w_writer.specs.Told.{told_of}
use Rattle.h5w_writer_laws.proofs.PieceLemmas.{some_is}
use Rattle.h5w_several_writer.specs.Flows.{KeepsPart}
use Rattle.h5w_several_writer_laws.specs.Sessions.{AreFlushed, AreSameBut, Sessions}
use Rattle.h5w_several_world_laws.specs.Worlds.{polling_in, rules_in}
use Rattle.h5w_several_world_laws.proofs.FlushLemmas.{flush_polling}
use Rattle.h5w_several_core.specs.Worlds.{AreRowsIn, SeveralView, rules_of}
use Rattle.h5w_several_core.specs.declared.places.Place.{Place}
use Rattle.h5w_several_core.proofs.MachineLemmas.{world_of}

-- what is polled for in each dataset of a session
abbrev pub polls_in : (limit attempts : ℕ) → List Session → List Polling
polls_in limit attempts ss = map (polling_in limit attempts) ss

abbrev pub rules_by : (limit attempts : ℕ) → List Session → List Rules
rules_by limit attempts ss = map (λ (g : Polling). g.rules) (polls_in limit attempts ss)

-- ---- Calls

pub polls_flushed : (limit attempts : ℕ) (root last : Super) (t end : Space) (ss uu : List Session) → AreFlushed root t ss last end uu → polls_in limit attempts uu ≡ polls_in limit attempts ss
polls_flushed limit attempts root last t end [] [] f = refl
polls_flushed limit attempts root last t end [] (u ∷ uu) f = absurd f
polls_flushed limit attempts root last t end (s ∷ ss) [] f = absurd f
polls_flushed limit attempts root last t end (s ∷ ss) (u ∷ uu) f = elim f [
  | inl y ↦
      let own : polling_in limit attempts u ≡ polling_in limit attempts s = ap (polling_in limit attempts) y.1 in
      let rest = polls_flushed limit attempts root last t end ss uu y.2 in
      λ i. own i ∷ rest i
  | inr y ↦
      let own : polling_in limit attempts u ≡ polling_in limit attempts s = ap (polling_in limit attempts) y.2 ∙ flush_polling (told_of s root t) y.0 limit attempts y.1.flushed in
      let rest = polls_flushed limit attempts y.0.root last y.0.places end ss uu y.3 in
      λ i. own i ∷ rest i
]

pub polls_held : (limit attempts : ℕ) (ss uu : List Session) → AreSameBut ss uu → polls_in limit attempts uu ≡ polls_in limit attempts ss
polls_held limit attempts [] [] x = refl
polls_held limit attempts [] (u ∷ uu) x = absurd x
polls_held limit attempts (s ∷ ss) [] x = absurd x
polls_held limit attempts (s ∷ ss) (u ∷ uu) x =
    let own : polling_in limit attempts u ≡ polling_in limit attempts s = ap (polling_in limit attempts) x.0.session in
    let rest = polls_held limit attempts ss uu x.1 in
    λ i. own i ∷ rest i

pub polls_kept : (limit attempts : ℕ) (ss uu : List Session) → AllPaired KeepsPart ss uu → polls_in limit attempts uu ≡ polls_in limit attempts ss
polls_kept limit attempts [] [] x = refl
polls_kept limit attempts [] (u ∷ uu) x = absurd x
polls_kept limit attempts (s ∷ ss) [] x = absurd x
polls_kept limit attempts (s ∷ ss) (u ∷ uu) x =
    let own : polling_in limit attempts u ≡ polling_in limit attempts s = ap (polling_in limit attempts) x.0.session in
    let rest = polls_kept limit attempts ss uu x.1 in
    λ i. own i ∷ rest i

pub polls_added : (limit attempts : ℕ) (ss : List Session) (d : ℕ) (s : Session) (values : List ℤ) → slice_get ss d ≡ Some s → polls_in limit attempts (slice_set ss d (with_values s values)) ≡ polls_in limit attempts ss
polls_added limit attempts [] d s values at = refl
polls_added limit attempts (x ∷ xs) zero s values at =
    let is : x ≡ s = cc in
    ap (λ (g : Polling). g ∷ polls_in limit attempts xs) (ap (polling_in limit attempts) (sym is))
polls_added limit attempts (x ∷ xs) (suc d) s values at = ap (λ (gs : List Polling). polling_in limit attempts x ∷ gs) (polls_added limit attempts xs d s values at)

pub polls_stopped : (limit attempts : ℕ) (ss : List Session) → polls_in limit attempts (map stopped_of ss) ≡ polls_in limit attempts ss
polls_stopped limit attempts [] = refl
polls_stopped limit attempts (s ∷ ss) = ap (λ (gs : List Polling). polling_in limit attempts s ∷ gs) (polls_stopped limit attempts ss)

-- ---- By number

pub count_rules : (limit attempts : ℕ) (ss : List Session) → length (rules_by limit attempts ss) ≡ length ss
count_rules limit attempts [] = refl
count_rules limit attempts (s ∷ ss) = ap suc (count_rules limit attempts ss)

pub rules_at : (limit attempts : ℕ) (ss : List Session) (d : ℕ) (s : Session) → slice_get ss d ≡ Some s → slice_get (rules_by limit attempts ss) d ≡ Some (rules_in limit attempts s)
rules_at limit attempts [] d s at = absurd (cc)
rules_at limit attempts (x ∷ xs) zero s at = let is : x ≡ s = cc in ap (λ (v : Session). Some (rules_in limit attempts v)) is
rules_at limit attempts (x ∷ xs) (suc d) s at = rules_at limit attempts xs d s at

pub rows_here : (limit attempts : ℕ) (ss : List Session) (d : ℕ) (values : List ℤ) (s : Session) → AreRowsIn (rules_by limit attempts ss) d values → slice_get ss d ≡ Some s → AreRows s values
rows_here limit attempts ss d values s are at = are.rows (rules_in limit attempts s) (rules_at limit attempts ss d s at)

-- the rules of a number are those of a part
rules_got : (limit attempts : ℕ) (ss : List Session) (d : ℕ) (g : Rules) → slice_get (rules_by limit attempts ss) d ≡ Some g → (s : Session) × (slice_get ss d ≡ Some s) × (rules_in limit attempts s ≡ g)
rules_got limit attempts [] d g at = absurd (cc)
rules_got limit attempts (s ∷ ss) zero g at = (s, refl, some_is (rules_in limit attempts s) g at)
rules_got limit attempts (s ∷ ss) (suc d) g at = rules_got limit attempts ss d g at

pub columns_are : (limit attempts : ℕ) (ss : List Session) (d c : ℕ) → ((s : Session) → slice_get ss d ≡ Some s → c ≡ s.dataset.shape.cols) → (g : Rules) → slice_get (rules_by limit attempts ss) d ≡ Some g → c ≡ g.cutting.columns
columns_are limit attempts ss d c told g at = let r = rules_got limit attempts ss d g at in told r.0 r.1 ∙ ap (λ (h : Rules). h.cutting.columns) r.2

-- ---- By the value of the machine

module _ (S : Sessions) (m : MemView) (attempts : ℕ) (ps : List Place) (w : SeveralView) (d : ℕ) (view : world_of S m attempts ps ≡ w) where
  pub set_inside : d < length (rules_of w) → d < length S.parts
  set_inside few =
      let count : length (rules_of w) ≡ length S.parts = sym (ap (λ (x : SeveralView). length (rules_of x)) view) ∙ count_rules S.places.limit attempts S.parts in
      omega (arith, few, count)

  pub count_told : (n : ℕ) → n ≡ length S.parts → n ≡ length (rules_of w)
  count_told n is = is ∙ sym (count_rules S.places.limit attempts S.parts) ∙ ap (λ (x : SeveralView). length (rules_of x)) view

  pub columns_told : (c : ℕ) → ((s : Session) → slice_get S.parts d ≡ Some s → c ≡ s.dataset.shape.cols) → (g : Rules) → slice_get (rules_of w) d ≡ Some g → c ≡ g.cutting.columns
  columns_told c told g at = columns_are S.places.limit attempts S.parts d c told g (ap (λ (x : SeveralView). slice_get (rules_of x) d) view ∙ at)

  pub rows_told : (n : ℕ) → ((s : Session) → slice_get S.parts d ≡ Some s → n ≡ rows_of s) → (s : Session) → slice_get w.session.parts d ≡ Some s → n ≡ rows_of s
  rows_told n told s at = told s (ap (λ (x : SeveralView). slice_get x.session.parts d) view ∙ at)
