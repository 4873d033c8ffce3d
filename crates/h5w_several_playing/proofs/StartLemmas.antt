-- What a new machine of several datasets begins with.
use Rattle.std.proofs.Common.{ℕ, zero, suc, ◌≤◌, ◌≡◌, ◌∙◌, List, [], ◌∷◌, length, map, Some, refl, sym, ap, subst, arith}
use Rattle.std.proofs.lemmas.List.{length-map}
use Rattle.std.specs.Prelude.{slice_get}
use Rattle.h5w_model.specs.Lawful.{Rules}
use Rattle.h5w_options.specs.Options.{cutting_by}
use Rattle.h5w_options.specs.declared.options.Options.{Options}
use Rattle.h5w_core.specs.Worlds.{rules_for}
use Rattle.h5w_several_creation.specs.Forms.{AreNames}
use Rattle.h5w_several_script_laws.specs.Scripts.{first_in}
use Rattle.h5w_several_core.specs.Worlds.{HaveFileLog, SeveralView, rules_of}
use Rattle.h5w_playing.specs.Starts.{spelling_for, state_for}
use Rattle.h5w_several_playing.specs.Sets.{FitsAll, IsScript, spelling_in}

-- the same rules for each name
abbrev rules_each : Rules → List (List ℕ) → List Rules
rules_each g names = map (λ (name : List ℕ). g) names

first_rules : (g : Rules) (names : List (List ℕ)) → 1 ≤ length names → slice_get (rules_each g names) 0 ≡ Some g
first_rules g [] some = absurd (omega (arith, some))
first_rules g (name ∷ names) some = refl

same_rules : (g : Rules) (names : List (List ℕ)) (d : ℕ) (h : Rules) → slice_get (rules_each g names) d ≡ Some h → h ≡ g
same_rules g [] d h at = absurd (cc)
same_rules g (name ∷ names) zero h at = let is : h ≡ g = cc in is
same_rules g (name ∷ names) (suc d) h at = same_rules g names d h at

module _ (w : SeveralView) (names : List (List ℕ)) (options : Options) (attempts columns : ℕ) (rules : rules_of w ≡ rules_each (rules_for options attempts) names) where
  count_is : length (rules_of w) ≡ length names
  count_is = ap length rules ∙ length-map names (λ (name : List ℕ). rules_for options attempts)

  -- the first dataset is there
  pub first_inside : AreNames names → 1 ≤ length (rules_of w)
  first_inside are = let some = are.some in omega (arith, some, count_is)

  module _ (are : AreNames names) (told : (g : Rules) → slice_get (rules_of w) 0 ≡ Some g → columns ≡ g.cutting.columns) where
    columns_is : columns ≡ (cutting_by options).columns
    columns_is = told (rules_for options attempts) (ap (λ (gs : List Rules). slice_get gs 0) rules ∙ first_rules (rules_for options attempts) names are.some)

    pub new_script : 1 ≤ columns → IsScript (rules_of w) 0 columns
    new_script some = record {
      inside = first_inside are;
      few = let few = are.few in omega (arith, few, count_is);
      some = some;
      each = λ d g at.
          ap (λ (h : Rules). h.cutting.columns) (same_rules (rules_for options attempts) names d g (ap (λ (gs : List Rules). slice_get gs d) (sym rules) ∙ at)) ∙ sym columns_is;
    }

    pub new_spelling : spelling_in (record { world = w; used = 0; columns = columns }) ≡ spelling_for names options
    new_spelling =
        ap (λ (c : ℕ). record { columns = c; sets = length (rules_of w) }) columns_is
        ∙ ap (λ (n : ℕ). record { columns = (cutting_by options).columns; sets = n }) count_is

  pub new_fits : HaveFileLog w (first_in (rules_of w) options.limit options.budget) → FitsAll (record { world = w; used = 0; columns = columns }) (state_for names options attempts)
  new_fits fits = record { fits = subst (λ (gs : List Rules). HaveFileLog w (first_in gs options.limit options.budget)) rules fits; used = refl }
