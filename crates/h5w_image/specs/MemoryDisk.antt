-- What contracts see of a disk in memory, and what a call leaves of it.
use Rattle.std.specs.Prelude.{ℕ, ◌-◌, max, Bool, List, [], Some, if◌then◌else◌, refl}
use Rattle.std.specs.Option.{unwrap_or}
use Rattle.std.specs.FinMap as map
use Rattle.std.specs.Coded.{Coded, code_by, coded×, coded_ℕ, coded_list}
use Rattle.h5w_model.specs.declared.piece.Write.{Write}
use Rattle.h5w_image.specs.View.{DiskView, Files, DiskState, put}
use Rattle.h5w_image.specs.NamedFiles.{Named, named_code}
use Rattle.h5w_image.specs.Memory.{counted, is_failing}

pub record MemDiskView : Type 0 where
  pub told : DiskState
  -- the calls that are to fail, counted from 1
  pub failing : List ℕ
  -- how many calls were made, and how many of them failed
  pub calls : ℕ
  pub faults : ℕ
  -- the room that is reserved: so many puts, which end by this place in the file of a name
  pub pieces : ℕ
  pub ends : Named ℕ

-- a disk without files that was not called yet
abbrev pub blank : List ℕ → MemDiskView
blank failing = record { told = record { files = map.empty; puts = [] }; failing = failing; calls = 0; faults = 0; pieces = 0; ends = map.empty }

-- the next call is one that is to fail
abbrev pub fails : MemDiskView → Bool
fails v = is_failing v.failing v.calls

-- after one more call that changes no file
abbrev pub called : MemDiskView → MemDiskView
called v = record v { calls = counted v.calls; faults = if fails v then counted v.faults else v.faults }

-- with these bytes, and no room, under a name
abbrev pub with_file : List ℕ → List ℕ → MemDiskView → MemDiskView
with_file name bytes v = record v { told = record v.told { files = map.insert v.told.files name bytes }; ends = map.insert v.ends name 0 }

-- with a write put into the file of a name
abbrev pub with_put : List ℕ → Write → MemDiskView → MemDiskView
with_put name w v = record v { told = put name w v.faults v.told; pieces = v.pieces - 1 }

-- with room
abbrev pub with_room : List ℕ → ℕ → ℕ → MemDiskView → MemDiskView
with_room name pieces end v = record v { pieces = max v.pieces pieces; ends = map.insert v.ends name (max (unwrap_or (map.get v.ends name) 0) end) }

-- a disk in memory as the trait sees it
abbrev pub disk_in_memory : MemDiskView → DiskView
disk_in_memory v = record { told = Some v.told; faults = v.faults; through = []; pieces = v.pieces; end = λ name. unwrap_or (map.get v.ends name) 0 }

abbrev pub told_code : Coded DiskState
told_code = code_by (Files × List ℕ) (coded× (named_code (coded_list coded_ℕ)) (coded_list coded_ℕ)) (λ d. (d.files, d.puts)) (λ p. record { files = p.0; puts = p.1 }) (λ _. refl)

abbrev pub disk_code : Coded MemDiskView
disk_code =
    code_by (DiskState × (List ℕ × (ℕ × (ℕ × (ℕ × Named ℕ)))))
    (coded× told_code (coded× (coded_list coded_ℕ) (coded× coded_ℕ (coded× coded_ℕ (coded× coded_ℕ (named_code coded_ℕ))))))
    (λ v. (v.told, (v.failing, (v.calls, (v.faults, (v.pieces, v.ends))))))
    (λ p. record { told = p.0; failing = p.1.0; calls = p.1.1.0; faults = p.1.1.1.0; pieces = p.1.1.1.1.0; ends = p.1.1.1.1.1 })
    (λ _. refl)
