-- A session that begins with an array that stands in its file, which it created or opened.
use Rattle.std.specs.Prelude.{◌≡◌, ℕ, List, []}
use Rattle.h5w_model.specs.declared.cell.IndexKind.TheVariants.{Array}
use Rattle.h5w_space.specs.Space.{Space}
use Rattle.h5w_cache.specs.Stores.{Store}
use Rattle.h5w_step_laws.specs.Moments.{Moment, Represents}
use Rattle.h5w_array_laws.specs.ArrayStores.{IsArray, header_place, map_of}
use Rattle.h5w_array_laws.specs.ArrayImages.{StandsArray}
use Rattle.h5w_flush_laws.specs.Flushes.{IsBegun}
use Rattle.h5w_flush_laws.specs.Knowledge.{Knows}
use Rattle.h5w_array_flush_laws.specs.ArrayFlushes.{ArrayRests}

-- it knows its file by the array's map, of which readers hold no more than what it has, and the array rests
pub record Begins (img name : List ℕ) (m : Moment) (s : Space) (v : Store) : Type 0 where
  pub knows : Knows img name m (λ key. map_of v key.i) s
  pub held : knows.held ≡ m.behind
  pub rests : ArrayRests img m (λ key. map_of v key.i) s v

-- ---- Laws

-- Where an array stands, unchanged, at the place that the dataset of a file names, and the places begin at the file's end.
abbrev pub ArrayBegins : Type 0
ArrayBegins = (img name : List ℕ) (m : Moment) (s : Space) (v : Store) → IsArray v → v.changed ≡ [] → StandsArray v img → Represents img name m → m.dataset.layout.index ≡ Array → m.dataset.layout.address ≡ header_place v
    → IsBegun m s → Begins img name m s v
