-- What a call leaves of a disk in memory, as the trait says it.
use Rattle.std.proofs.Common.{ℕ, ◌≤◌, ◌≡◌, max, false, List, [], Some, arith, sym, refl, ap, subst}
use Rattle.std.specs.Prelude.{Option, None, is_some}
use Rattle.std.specs.Option.{unwrap_or}
use Rattle.std.specs.FinMap as finite
use Rattle.h5w_image.specs.View.{Leaves, made}
use Rattle.h5w_image.specs.MemoryDisk.{MemDiskView, disk_in_memory, with_file, with_room}
use Rattle.h5w_image.proofs.Names.{get-insert_same, insert-grows}

absent_end : (o : Option ℕ) → is_some o ≡ false → unwrap_or o 0 ≤ 0
absent_end None e = omega arith
absent_end (Some n) e = absurd (cc)

-- a file that was not there is made
pub made_leaves : (name : List ℕ) (v u w : MemDiskView) → w ≡ with_file name [] u → u.told ≡ v.told → u.ends ≡ v.ends → u.pieces ≡ v.pieces → v.faults ≤ u.faults
    → is_some (finite.get v.ends name) ≡ false → Leaves 0 (Some (made name v.told)) (disk_in_memory v) (disk_in_memory w)
made_leaves name v u w is told ends pieces faults absent =
    subst (λ (x : MemDiskView). Leaves 0 (Some (made name v.told)) (disk_in_memory v) (disk_in_memory x)) (sym is)
    (record {
      told = ap (λ d. Some (made name d)) told;
      faults = faults;
      through = refl;
      pieces = omega arith;
      end = λ q. subst (λ e. unwrap_or (finite.get v.ends q) 0 ≤ unwrap_or (finite.get (finite.insert e name 0) q) 0) (sym ends) (insert-grows v.ends name 0 (absent_end (finite.get v.ends name) absent) q);
    })

-- room is made
pub room_leaves : (name : List ℕ) (pieces end : ℕ) (v w : MemDiskView) → w ≡ with_room name pieces end v → Leaves 0 (Some v.told) (disk_in_memory v) (disk_in_memory w)
room_leaves name pieces end v w is =
    subst (λ (x : MemDiskView). Leaves 0 (Some v.told) (disk_in_memory v) (disk_in_memory x)) (sym is)
    (record {
      told = refl;
      faults = omega arith;
      through = refl;
      pieces = omega arith;
      end = insert-grows v.ends name (max (unwrap_or (finite.get v.ends name) 0) end) (omega arith);
    })

pub room_ends : (name : List ℕ) (pieces end : ℕ) (v w : MemDiskView) → w ≡ with_room name pieces end v → end ≤ unwrap_or (finite.get w.ends name) 0
room_ends name pieces end v w is =
    let n : ℕ = max (unwrap_or (finite.get v.ends name) 0) end in
    subst (λ (x : MemDiskView). end ≤ unwrap_or (finite.get x.ends name) 0) (sym is)
    (subst (λ o. end ≤ unwrap_or o 0) (sym (get-insert_same v.ends name n)) (omega arith))
