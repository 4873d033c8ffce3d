-- The limit and the budgets of the session stay, whatever a call makes of it.
use Rattle.std.proofs.Common.{◌≡◌, ℕ, ◌≤◌, List, [], ◌∷◌, length, Some, refl, sym, ap, ◌∙◌, subst, arith}
use Rattle.std.specs.Prelude.{slice_get}
use Rattle.std.specs.List.{AllByRecursion}
use Rattle.h5w_image.specs.Memory.{MemView}
use Rattle.h5w_script_laws.specs.Polling.{Polling}
use Rattle.h5w_writer.specs.Sessions.{Session}
use Rattle.h5w_several_writer_laws.specs.Sessions.{Sessions}
use Rattle.h5w_several_world_laws.specs.Worlds.{polling_in}
use Rattle.h5w_several_world_laws.proofs.StepLemmas.{states_length}
use Rattle.h5w_several_core.specs.Worlds.{HasOneBudget, HoldsAll, pollings_of}
use Rattle.h5w_several_core.specs.declared.places.Place.{Place}
use Rattle.h5w_several_core.proofs.MachineLemmas.{world_of}
use Rattle.h5w_several_core.proofs.RuleLemmas.{polls_in}

-- the rules have the budgets
budgets_stay : (l k attempts budget : ℕ) (ss uu : List Session) → polls_in l attempts uu ≡ polls_in k attempts ss → AllByRecursion (λ (s : Session). s.budget ≡ budget) ss → AllByRecursion (λ (s : Session). s.budget ≡ budget) uu
budgets_stay l k attempts budget [] [] same h = tt
budgets_stay l k attempts budget [] (u ∷ uu) same h = absurd (cc)
budgets_stay l k attempts budget (s ∷ ss) [] same h = tt
budgets_stay l k attempts budget (s ∷ ss) (u ∷ uu) same h =
    let own : polling_in l attempts u ≡ polling_in k attempts s = cc in
    let rest : polls_in l attempts uu ≡ polls_in k attempts ss = cc in
    (ap (λ (g : Polling). g.rules.budget) own ∙ h.0, budgets_stay l k attempts budget ss uu rest h.1)

-- and the limit
limits_stay : (l k attempts : ℕ) (ss uu : List Session) → 1 ≤ length ss → polls_in l attempts uu ≡ polls_in k attempts ss → l ≡ k
limits_stay l k attempts [] uu some same = absurd (omega (arith, some))
limits_stay l k attempts (s ∷ ss) [] some same = absurd (cc)
limits_stay l k attempts (s ∷ ss) (u ∷ uu) some same =
    let own : polling_in l attempts u ≡ polling_in k attempts s = cc in
    ap (λ (g : Polling). g.rules.space_limit) own

-- a machine has a dataset
pub some_parts : (S : Sessions) (m : MemView) (attempts : ℕ) (ps : List Place) → HoldsAll S m attempts ps → 1 ≤ length S.parts
some_parts S m attempts ps h =
    let st = h.fits.have.state in
    let used = st.polls.used in
    let sets = states_length S.places.limit attempts 0 S.parts h.script.sets st.states in
    omega (arith, used, sets)

-- where readers poll for what they did
pub kept_by : (S T : Sessions) (m n : MemView) (attempts : ℕ) (ps qs : List Place) → HoldsAll S m attempts ps → pollings_of (world_of T n attempts qs) ≡ pollings_of (world_of S m attempts ps) → HasOneBudget S → HasOneBudget T
kept_by S T m n attempts ps qs h polls k = record {
  low = subst (λ (l : ℕ). 1024 ≤ l) (sym (limits_stay T.places.limit S.places.limit attempts S.parts T.parts (some_parts S m attempts ps h) polls)) k.low;
  budget = k.budget;
  budgets = budgets_stay T.places.limit S.places.limit attempts k.budget S.parts T.parts polls k.budgets;
}

-- the budget of the first dataset is that of each
pub told_budgets : (S : Sessions) (told : ℕ) → HasOneBudget S → 1 ≤ length S.parts → ((s : Session) → slice_get S.parts 0 ≡ Some s → told ≡ s.budget) → AllByRecursion (λ (s : Session). s.budget ≡ told) S.parts
told_budgets S told k some is = go S.parts some k.budgets is
  where
    go : (ss : List Session) → 1 ≤ length ss → AllByRecursion (λ (s : Session). s.budget ≡ k.budget) ss → ((s : Session) → slice_get ss 0 ≡ Some s → told ≡ s.budget) → AllByRecursion (λ (s : Session). s.budget ≡ told) ss
    go [] some all is = absurd (omega (arith, some))
    go (s ∷ ss) some all is = subst (λ (b : ℕ). AllByRecursion (λ (u : Session). u.budget ≡ b) (s ∷ ss)) (sym (is s refl ∙ all.0)) all
