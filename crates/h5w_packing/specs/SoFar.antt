-- What is planned so far of a packed file, and one dataset more.
use Rattle.std.specs.Prelude.{◌≡◌, ℕ, ◌+◌, ◌-◌, ◌≤◌, List, [], ◌∷◌, ◌++◌, drop, flat_map, length, map, if◌then◌else◌}
use Rattle.std.specs.List.{All, AllByRecursion}
use Rattle.h5w_model.specs.Headers.{header_bytes}
use Rattle.h5w_model.specs.Images.{pieces}
use Rattle.h5w_model.specs.Superblock.{super_bytes}
use Rattle.h5w_model.specs.Tables.{format_limits, limit_of, needed}
use Rattle.h5w_model.specs.declared.piece.Write.{Write}
use Rattle.h5w_chunks.specs.Grids.{IsGrid, dataset_of}
use Rattle.h5w_flush_laws.specs.Parts.{block_writes}
use Rattle.h5w_several_creation_laws.specs.Links.{link_message, linking}
use Rattle.h5w_packing_laws.specs.Packing.{BehindsFrom, FrontsFrom, packed_super, set_links}
use Rattle.h5w_packing.specs.Jobs.{PackingView, all_jobs}
use Rattle.h5w_packing.specs.Plans.{IsPlannedSet, PlannedSet, Wanted, chunk_tiles, first_place, front_size, front_tiles, fronts_end, fronts_size, head_tiles, header_write, move_tiles, set_chunks, set_front_tiles, set_tiles, sets_of, sources_of}
use Rattle.h5w_packing.specs.declared.front.Front.{Front}
use Rattle.h5w_packing.specs.declared.gathering.Planning.{Planning}
use Rattle.h5w_packing.specs.declared.placing.Settled.{Settled}
use Rattle.h5w_packing.specs.declared.source.Source.{Source}

-- ---- What is wanted

-- a dataset whose grid is one, with the addresses of its needed chunks, which are within the limit
pub record IsSource (s : Source) : Type 0 where
  pub grid : IsGrid s.grid
  pub listed : length s.table.items ≡ needed (dataset_of s.grid)
  pub few : needed (dataset_of s.grid) ≤ limit_of format_limits (dataset_of s.grid).layout.index
  pub named : length s.name ≤ 255

-- 1 to 8 of them
pub record AreSources (ss : List Source) : Type 0 where
  pub some : 1 ≤ length ss
  pub few : length ss ≤ 8
  pub each : All IsSource ss

-- ---- So far

-- no dataset is planned
pub record IsBegun (place top : ℕ) (p : Planning) : Type 0 where
  pub place_is : p.place ≡ place
  pub end : p.end ≡ top
  pub links : p.links ≡ linking []
  pub chunks : p.chunks.items ≡ []
  pub copies : p.copies.items ≡ []
  pub tops : p.tops.items ≡ []
  pub headers : p.headers.items ≡ []
  pub fronts : p.fronts ≡ head_tiles (place - 48)
  pub behinds : p.behinds ≡ []

-- The first k datasets are planned.
pub record AreMade (ws : List Wanted) (limit k : ℕ) (p : Planning) : Type 0 where
  pub sets : List PlannedSet
  pub are : sources_of sets ++ drop k ws ≡ ws
  pub each : AllByRecursion (IsPlannedSet limit) sets
  pub fronts_from : FrontsFrom (first_place ws) (sets_of sets) p.place
  pub behinds_from : BehindsFrom (fronts_end ws) (sets_of sets) p.end
  pub left : p.place + fronts_size (drop k ws) ≡ fronts_end ws
  pub behind : first_place ws ≤ p.place
  pub above : fronts_end ws ≤ p.end
  pub within : p.end ≤ limit
  pub links : p.links ≡ linking (set_links (sets_of sets))
  pub chunks : p.chunks.items ≡ flat_map set_chunks sets
  pub copies : p.copies.items ≡ flat_map (λ (x : PlannedSet). block_writes x.set.copies) sets
  pub tops : p.tops.items ≡ flat_map (λ (x : PlannedSet). x.set.tops) sets
  pub headers : p.headers.items ≡ map header_write sets
  pub fronts : p.fronts ≡ head_tiles (first_place ws - 48) ++ flat_map set_front_tiles sets
  pub behinds : p.behinds ≡ flat_map set_tiles sets

-- all of them
abbrev pub AreAll : List Wanted → ℕ → Planning → Type 0
AreAll ws limit p = AreMade ws limit (length ws) p

-- ---- One more

-- all of a dataset stands behind the others, by what the code has of it
pub record IsAdded (name : List ℕ) (f : Front) (x : Settled) (unchanged : List Write) (end : ℕ) (s t : Planning) : Type 0 where
  pub next : t.place ≡ f.end
  pub last : t.end ≡ end
  pub links : t.links ≡ s.links ++ link_message (name, f.place) ∷ []
  pub chunks : t.chunks.items ≡ s.chunks.items ++ x.chunks.items
  pub copies : t.copies.items ≡ s.copies.items ++ x.plan.copies.items
  pub tops : t.tops.items ≡ s.tops.items ++ (if x.clean then unchanged else x.plan.in_place.items)
  pub headers : t.headers.items ≡ s.headers.items ++ record { at = f.place; piece = f.header } ∷ []
  pub fronts : t.fronts ≡ s.fronts ++ front_tiles (length f.header) (dataset_of f.grid) f.place f.block
  pub behinds : t.behinds ≡ s.behinds ++ (chunk_tiles x.chunks.items ++ move_tiles (dataset_of f.grid).layout.index x.plan.moves.items)

-- a dataset is planned behind the others
pub record HasMore (limit : ℕ) (w : Wanted) (s t : Planning) : Type 0 where
  pub set : PlannedSet
  pub source : set.source ≡ w
  pub planned : IsPlannedSet limit set
  pub place_is : set.set.place ≡ s.place
  pub next : t.place ≡ set.set.top
  pub size : set.set.top ≡ s.place + front_size w.dataset
  pub first : set.set.first.end ≡ s.end
  pub last : t.end ≡ set.set.last.end
  pub links : t.links ≡ s.links ++ link_message (set.set.name, set.set.place) ∷ []
  pub chunks : t.chunks.items ≡ s.chunks.items ++ set_chunks set
  pub copies : t.copies.items ≡ s.copies.items ++ block_writes set.set.copies
  pub tops : t.tops.items ≡ s.tops.items ++ set.set.tops
  pub headers : t.headers.items ≡ s.headers.items ++ header_write set ∷ []
  pub fronts : t.fronts ≡ s.fronts ++ set_front_tiles set
  pub behinds : t.behinds ≡ s.behinds ++ set_tiles set

-- ---- Put together

-- all that is written behind the indexes' blocks at new places
abbrev pub behind_writes : Planning → List Write
behind_writes p = p.tops.items ++ ((p.headers.items ++ pieces 48 (header_bytes p.links)) ++ record { at = 0; piece = super_bytes (packed_super p.end) } ∷ [])

pub record IsPlanOf (p : Planning) (q : PackingView) : Type 0 where
  pub left : q.left ≡ all_jobs p.chunks.items (p.copies.items ++ behind_writes p)
  pub ranges : q.ranges ≡ p.fronts ++ p.behinds
  pub end : q.end ≡ p.end
