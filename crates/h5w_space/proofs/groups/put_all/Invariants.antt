use Rattle.std.proofs.Common.{◌≡◌, ◌+◌, ◌≤◌, ◌++◌, take, vec_len, vec_capacity}
use Rattle.std.specs.List.Sorted.{IsPermutation}
use Rattle.h5w_space.specs.Groups.{IsGrouped}
use Rattle.h5w_space.proofs.groups.put_all.Given as goal

abbrev pub invariant-loop-place : goal.invariant-loop-place
invariant-loop-place l = record {
  order : IsPermutation (l.fn.places.items ++ take l.place-index l.more) l.places.items;
  grouped : IsGrouped l.groups.items l.places.items;
  groups_len : vec_len l.groups ≤ vec_len l.fn.groups + l.place-index;
  len : vec_len l.places ≡ vec_len l.fn.places + l.place-index;
  groups_capacity : vec_capacity l.groups ≡ vec_capacity l.fn.groups;
  capacity : vec_capacity l.places ≡ vec_capacity l.fn.places;
}
