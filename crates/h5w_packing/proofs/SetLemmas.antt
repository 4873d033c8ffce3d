-- A dataset of a packed file, once its chunks and its index's blocks have their places.
use Rattle.std.proofs.Common.{◌≡◌, ◌⊎◌, ◌↔◌, ℕ, ◌+◌, ◌*◌, ◌<◌, ◌≤◌, ◌^◌, Bool, true, false, List, [], ◌∷◌, ◌++◌, length, refl, sym, ◌∙◌, ap, subst, inl, inr, arith}
use Rattle.std.specs.Prelude.{if◌then◌else◌, IsTrue}
use Rattle.std.proofs.lemmas.Nat.{mul-le}
use Rattle.h5w_model.specs.Datasets.{Described}
use Rattle.h5w_model.specs.Tables.{needed}
use Rattle.h5w_model.specs.Findings.{chunk_bytes}
use Rattle.h5w_chunks.specs.Grids.{dataset_of}
use Rattle.h5w_model.specs.declared.cell.IndexKind.{IndexKind}
use Rattle.h5w_model.specs.declared.cell.IndexKind.TheVariants.{Array, Tree}
use Rattle.h5w_model.specs.declared.piece.Write.{Write}
use Rattle.h5w_model.proofs.IntegerLemmas.{int_size_bounds}
use Rattle.h5w_step_laws.specs.Spelled.{spelled_header}
use Rattle.h5w_space.specs.Space.{Space}
use Rattle.h5w_space.specs.declared.Full.{Full}
use Rattle.h5w_array_laws.specs.ArrayStores.{chunks_in}
use Rattle.h5w_index.specs.Views.{IndexView, IsClean, IsSound, kind_of}
use Rattle.h5w_index.specs.Steps.{HasNoPlace, IsPlan}
use Rattle.h5w_index.specs.Depths.{AreWithin}
use Rattle.h5w_index.specs.Flushes.{PlanTold}
use Rattle.h5w_index.proofs.DepthLemmas.{depth_laws}
use Rattle.h5w_index.proofs.FlushLemmas.{plan_tells}
use Rattle.h5w_creation.specs.Made.{IsNewIndex, index_writes}
use Rattle.h5w_packing_laws.specs.Growing.{AreNamed, RangesFrom, named_from}
use Rattle.h5w_packing_laws.specs.Packing.{AreInPlace, IsLaidOut, IsPacking}
use Rattle.h5w_packing.specs.Plans.{IsBlockOut, IsChunkOut, IsOfKind, IsPlannedSet, IsSetOut, IsSettled, IsUnplacedBlock, IsUnsettled, PlannedSet, SameDataset, Wanted, chunk_tiles, chunks_end, copied_from, first_space, front_size, front_tiles, move_tiles, packed_table, set_chunks}
use Rattle.h5w_packing.specs.SoFar.{HasMore, IsAdded}
use Rattle.h5w_packing.specs.declared.front.Front.{Front}
use Rattle.h5w_packing.specs.declared.gathering.Planning.{Planning}
use Rattle.h5w_packing.specs.declared.placing.Settled.{Settled}
use Rattle.h5w_packing.specs.declared.job.Copied.{Copied}
use Rattle.h5w_packing.proofs.CellLemmas.{bytes_same, same_is_moved}
use Rattle.h5w_packing.proofs.FitLemmas.{plan_fits}
use Rattle.h5w_packing.proofs.TableLemmas.{chunks_from, table_long}

-- ---- A new index

kind_by : (k : IndexKind) (at block lines wide : ℕ) (v : IndexView) → IsNewIndex k at block v → (k ≡ kind_of v) × AreWithin lines wide v
kind_by Array at block lines wide v new = subst (λ (w : IndexView). (Array ≡ kind_of w) × AreWithin lines wide w) (sym new.1) (refl, tt)
kind_by Tree at block lines wide v new = subst (λ (w : IndexView). (Tree ≡ kind_of w) × AreWithin lines wide w) (sym new) (refl, depth_laws.none lines wide at)

pub new_of_kind : (d : Described) (block : ℕ) (v : IndexView) → IsNewIndex d.layout.index d.layout.address block v → IsOfKind d v
new_of_kind d block v new = let k = kind_by d.layout.index d.layout.address block _ _ v new in record { kind = k.0; within = k.1 }

-- ---- All of it

which_by : (b : Bool) (full : IndexView) (k : IndexKind) (at block : ℕ) (fixed unchanged : List Write) → IsTrue b ↔ IsClean full → unchanged ≡ index_writes k at block → AreInPlace full k at block fixed (if b then unchanged else fixed)
which_by true full k at block fixed unchanged clean un = record { clean = λ x. un; changed = λ no. absurd (no (clean.0 refl)) }
which_by false full k at block fixed unchanged clean un = record { clean = λ x. absurd (never (clean.1 x)); changed = λ no. refl }
  where
    never : IsTrue false → ⊥
    never e = cc

-- ---- A dataset that is settled

module _ (limit : ℕ) (w : Wanted) (f : Front) (s : Planning) (same : SameDataset w.dataset (dataset_of f.grid)) (laid : IsLaidOut (dataset_of f.grid) f.place f.block f.end) (header : f.header ≡ spelled_header (dataset_of f.grid))
    (place_is : f.place ≡ s.place) (end_is : f.end ≡ s.place + front_size w.dataset) (listed : length w.table ≡ needed w.dataset) (above : s.place + front_size w.dataset ≤ s.end) (high : limit ≤ 2 ^ 40)
    (new : IndexView) (made : IsNewIndex (dataset_of f.grid).layout.index (dataset_of f.grid).layout.address f.block new) (sound : IsSound new) where
  abbrev e : Described
  e = dataset_of f.grid

  abbrev bytes : ℕ
  bytes = chunk_bytes w.dataset

  abbrev space : Space
  space = first_space s.end limit

  same_bytes : chunk_bytes e ≡ bytes
  same_bytes = bytes_same w.dataset e same

  pub out_of : (full : Full) → IsUnsettled e w.table space new full → IsSetOut w limit s.place s.end full
  out_of full out = record { dataset = e; block = f.block; top = f.end; same = same; laid = subst (λ n. IsLaidOut e n f.block f.end) place_is laid; which = which out }
    where
      which : IsChunkOut (chunk_bytes e) s.end limit w.table full ⊎ IsUnplacedBlock e w.table space new full → IsChunkOut bytes s.end limit w.table full ⊎ IsBlockOut e f.block s.end limit w.table full
      which (inl x) = inl (subst (λ n. IsChunkOut n s.end limit w.table full) same_bytes x)
      which (inr x) = inr (record { new = new; made = made; named = x.named; names = x.names; refused = subst (λ (y : Space). HasNoPlace x.named y full) x.is x.refused })

  module _ (x : Settled) (index : IndexView) (last : Space) (unchanged : List Write) (un : unchanged ≡ index_writes e.layout.index e.layout.address f.block)
      (settled : IsSettled e w.table space new x.chunks.items x.plan.moves.items x.plan.copies.items x.plan.in_place.items x.clean index last) where
    abbrev tops : List Write
    tops = if x.clean then unchanged else x.plan.in_place.items

    abbrev table : List ℕ
    table = packed_table bytes s.end w.table

    some_bytes : 0 < bytes
    some_bytes = subst (λ n. 0 < n) same_bytes (product (e.layout.chunk_rows * e.layout.chunk_cols) e.int_type.size (product e.layout.chunk_rows e.layout.chunk_cols laid.spellable.layout.rows laid.spellable.layout.cols) (omega (arith, (int_size_bounds e.int_type.size laid.spellable.int_type).0)))
      where
        product : (m n : ℕ) → 0 < m → 0 < n → 0 < m * n
        product m n h g = let one : 1 * 1 ≤ m * n = mul-le 1 1 m n (omega (arith, h)) (omega (arith, g)) in omega (arith, one)

    between_is : settled.between.end ≡ chunks_end bytes s.end w.table
    between_is = ap (λ (y : Space). y.end) settled.is ∙ ap (λ n. chunks_end n s.end w.table) same_bytes

    told : PlanTold settled.full settled.between x.plan.moves.items x.plan.copies.items x.plan.in_place.items index last
    told = plan_tells settled.full settled.between x.plan.moves.items x.plan.copies.items x.plan.in_place.items index last settled.sound settled.plan

    abbrev set : PlannedSet
    set = record {
      source = w;
      set = record {
        name = w.name;
        dataset = e;
        place = f.place;
        block = f.block;
        top = f.end;
        table = table;
        first = space;
        moves = x.plan.moves.items;
        copies = told.copied.placed;
        fixed = x.plan.in_place.items;
        tops = tops;
        index = index;
        last = last;
      };
    }

    abbrev packing : IsPacking e f.block table space x.plan.moves.items told.copied.placed x.plan.in_place.items index last
    packing = record {
      listed = table_long bytes s.end w.table ∙ listed ∙ sym (ap needed (same_is_moved w.dataset e same));
      new = new;
      made = made;
      sound = sound;
      full = settled.full;
      named = subst (λ n. AreNamed new (named_from e 0 (packed_table n s.end w.table)) settled.full) same_bytes settled.named;
      tight = record { free = refl; retired = refl };
      s = settled.between;
      chunks = subst (λ n. RangesFrom s.end (chunks_in n table) settled.between.end) (sym same_bytes)
          (subst (λ n. RangesFrom s.end (chunks_in bytes table) n) (sym between_is) (chunks_from bytes s.end w.table some_bytes (omega (arith, between_is, settled.low, high))));
      none_free = record { free = ap (λ (y : Space). y.free) settled.is; retired = ap (λ (y : Space). y.retired) settled.is };
      plan = subst (λ (ws : List Write). IsPlan settled.full settled.between x.plan.moves.items ws x.plan.in_place.items index last) told.copied.writes settled.plan;
      copied = told.copied.are;
    }

    planned : IsPlannedSet limit set
    planned = record {
      named = refl;
      same = same;
      packed = record {
        laid = laid;
        above = omega (arith, end_is, above);
        packing = packing;
        which = which_by x.clean settled.full e.layout.index e.layout.address f.block x.plan.in_place.items unchanged settled.when_clean un;
      };
      first = refl;
      table = refl;
      placed = between_is;
      within =
          let most : settled.between.limit ≡ limit = ap (λ (y : Space). y.limit) settled.is in
          omega (arith, plan_fits settled.full index settled.between last x.plan.moves.items x.plan.copies.items x.plan.in_place.items settled.plan (omega (arith, settled.low, most)), most);
    }

    chunks_are : x.chunks.items ≡ set_chunks set
    chunks_are = settled.chunks ∙ ap (λ n. copied_from n s.end w.table) same_bytes

    pub more_of : (t : Planning) → IsAdded w.name f x unchanged last.end s t → HasMore limit w s t
    more_of t a = record {
      set = set;
      source = refl;
      planned = planned;
      place_is = place_is;
      next = a.next;
      size = end_is;
      first = refl;
      last = a.last;
      links = a.links;
      chunks = a.chunks ∙ ap (λ (cs : List Copied). s.chunks.items ++ cs) chunks_are;
      copies = a.copies ∙ ap (λ (ws : List Write). s.copies.items ++ ws) told.copied.writes;
      tops = a.tops;
      headers = a.headers ∙ ap (λ (b : List ℕ). s.headers.items ++ record { at = f.place; piece = b } ∷ []) header;
      fronts = a.fronts ∙ ap (λ (b : List ℕ). s.fronts ++ front_tiles (length b) e f.place f.block) header;
      behinds = a.behinds ∙ ap (λ (cs : List Copied). s.behinds ++ (chunk_tiles cs ++ move_tiles e.layout.index x.plan.moves.items)) chunks_are;
    }
