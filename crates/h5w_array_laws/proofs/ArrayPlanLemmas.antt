-- Every plan of an array's blocks does what a writer rests on.
use Rattle.h5w_array_laws.specs.ArrayPlans.{PlansArray}
use Rattle.h5w_array_laws.proofs.BehindLemmas.{behind_after}
use Rattle.h5w_array_laws.proofs.FixedLemmas.{fixed_after, fixed_writes, off_writes}
use Rattle.h5w_array_laws.proofs.FreshLemmas.{end_rises, plan_disjoint, plan_ends, plan_live, plan_off_live, plan_off_retired}
use Rattle.h5w_array_laws.proofs.MapLemmas.{map_stays}
use Rattle.h5w_array_laws.proofs.PlanLemmas.{all_clean}
use Rattle.h5w_array_laws.proofs.PlannedLemmas.{array_after, headed_after}

pub plans_array : PlansArray
plans_array v s ms cs fs w t a p keeps = record {
  plan = p;
  keeps = keeps;
  array = array_after v s ms cs fs w t p a;
  headed = headed_after v s ms cs fs w t p a;
  clean = all_clean v s ms cs fs w t p;
  map = map_stays v s ms cs fs w t p a;
  stay = fixed_after v s ms cs fs w t p a;
  fixed = fixed_writes v s ms cs fs w t p a;
  behind = behind_after v s ms cs fs w t p a;
  off_live = plan_off_live v s ms cs fs w t p;
  off_retired = plan_off_retired v s ms cs fs w t p;
  disjoint = plan_disjoint v s ms cs fs w t p;
  ends = plan_ends v s ms cs fs w t p;
  live = plan_live v s ms cs fs w t p;
  end = end_rises v s ms cs fs w t p;
  off = off_writes v s ms cs fs w t p a keeps;
}
