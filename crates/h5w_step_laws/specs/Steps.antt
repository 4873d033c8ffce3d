-- What one safe piece does to a file, and what readers may still hold of earlier ones.
use Rattle.std.specs.Prelude.{◌≡◌, ◌≢◌, ℕ, ◌+◌, ◌*◌, ◌<◌, ◌≤◌, true, false, List, ◌∷◌, ◌++◌, length, get_or, Ok, ℤ}
use Rattle.h5w_model.specs.Numbers.{range, undefined}
use Rattle.h5w_model.specs.Images.{apply}
use Rattle.h5w_model.specs.Programs.{eval, visits}
use Rattle.h5w_model.specs.Superblock.{super_at}
use Rattle.h5w_model.specs.Headers.{header_view}
use Rattle.h5w_model.specs.Datasets.{is_swmr}
use Rattle.h5w_model.specs.Tables.{Reading, InPlace, in_place, address_behind, table_of, needed_keys, format_limits}
use Rattle.h5w_model.specs.Findings.{Used, checked_dataset}
use Rattle.h5w_model.specs.Prefixed.{IsKey, StaysDefined, NamesBlock, SameDescribed, SameHeader}
use Rattle.h5w_model.specs.declared.cell.Key.{Key}
use Rattle.h5w_model.specs.declared.cell.IndexKind.TheVariants.{Array}
use Rattle.h5w_model.specs.declared.piece.Write.{Write}
use Rattle.h5w_step_laws.specs.Ranges.{Among, AreApart, Disjoint, MissesBlocks, AllWithin}
use Rattle.h5w_step_laws.specs.Indexes.{IsIndex}
use Rattle.h5w_step_laws.specs.Moments.{Moment, all_used, HasCells, MissesCells}

-- bytes that no reader reaches: new chunks, copies of blocks at new places, own cells of stored chunks
pub record Unseen (m : Moment) (w : Write) : Type 0 where
  pub off_blocks : MissesBlocks w (all_used m)
  pub off_cells : MissesCells w m

-- the superblock is written again, with another end or other flags
pub record Ends (img : List ℕ) (m : Moment) (w : Write) (n : Moment) : Type 0 where
  pub is : n ≡ record m { super = n.super }
  pub place : w.at ≡ 0
  pub len : length w.piece ≡ 48
  pub reads : super_at w.piece ≡ Ok n.super
  pub root : n.super.root ≡ m.super.root
  pub swmr : is_swmr n.super ≡ true
  pub rises : m.super.end ≤ n.super.end
  pub there : n.super.end ≤ length img

-- a write lies in one of these ranges
pub record LiesIn (w : Write) (us : List Used) : Type 0 where
  pub used : Used
  pub among : Among used us
  pub from : used.place ≤ w.at
  pub to : w.at + length w.piece ≤ used.place + used.len

-- a block in place names what stands there already
pub record Switches (img : List ℕ) (m : Moment) (w : Write) (n : Moment) : Type 0 where
  pub is : n ≡ record m { fixed = n.fixed; behind = n.behind; table = n.table }
  pub inside : LiesIn w m.fixed
  pub index : IsIndex (apply w img) m.super.end m.dataset n.fixed n.behind
  pub apart : Disjoint (all_used n)
  pub table : eval (apply w img) (table_of m.dataset (needed_keys m.dataset)) ≡ Ok n.table
  pub addresses : (k : ℕ) → k < length m.table → StaysDefined (get_or m.table k undefined) (get_or n.table k undefined)
  pub cells : HasCells (apply w img) n
  pub index_block : (a b : ℕ) → m.dataset.layout.index ≡ Array → m.dataset.layout.address ≢ undefined
      → NamesBlock img m.dataset.layout.address a → NamesBlock (apply w img) m.dataset.layout.address b → StaysDefined a b

-- a write lies in chunk 0 of the dataset header
pub record InChunk0 (m : Moment) (w : Write) : Type 0 where
  pub first : Used
  pub continued : List Used
  pub header_is : m.header ≡ first ∷ continued
  pub from : first.place ≤ w.at
  pub to : w.at + length w.piece ≤ first.place + first.len

-- the rows rise, over cells that are there
pub record Commits (img : List ℕ) (m : Moment) (w : Write) (n : Moment) : Type 0 where
  pub more : List ℤ
  pub is : n ≡ record m { dataset = n.dataset; fixed = n.fixed; behind = n.behind; table = n.table; values = m.values ++ more }
  pub inside : InChunk0 m w
  pub header : eval (apply w img) (checked_dataset format_limits m.super m.place) ≡ Ok (n.dataset, m.header)
  pub described : SameDescribed m.dataset n.dataset
  pub chunk_0 : SameHeader (header_view (range img m.place 512)) (header_view (range (apply w img) m.place 512)) m.dataset.layout.address
  pub rises : m.dataset.shape.rows < n.dataset.shape.rows
  pub index : IsIndex (apply w img) m.super.end n.dataset n.fixed n.behind
  pub apart : Disjoint (all_used n)
  pub table : eval (apply w img) (table_of n.dataset (needed_keys n.dataset)) ≡ Ok n.table
  pub addresses : (k : ℕ) → k < length m.table → StaysDefined (get_or m.table k undefined) (get_or n.table k undefined)
  pub count : length n.values ≡ n.dataset.shape.rows * n.dataset.shape.cols
  pub cells : HasCells (apply w img) n

-- ---- What readers may still hold

-- none of these ranges meets one of those
abbrev pub OffAll : List Used → List Used → Type 0
OffAll held us = (u v : Used) → Among u held → Among v us → AreApart u v

-- blocks that are held meet no chunk of a file
abbrev pub Clear : List Used → Moment → Type 0
Clear held m = (u v : Used) → Among u held → u.chunk ≡ false → Among v m.behind → v.chunk ≡ true → AreApart u v

-- What one piece does. `held` are the ranges that were reached behind the blocks in place since the last header piece:
-- no piece may meet them, and only a header piece lets them go.
pub data Step (img : List ℕ) (m : Moment) (held : List Used) (w : Write) (n : Moment) (after : List Used) : Type 0 where
  unseen : Unseen m w → MissesBlocks w held → n ≡ m → after ≡ held → Step img m held w n after
  ends : Ends img m w n → after ≡ held → Step img m held w n after
  switches : Switches img m w n → OffAll held n.fixed → Clear held n → after ≡ n.behind ++ held → Step img m held w n after
  commits : Commits img m w n → after ≡ n.behind → Step img m held w n after

-- what is reached behind the blocks in place lies in these ranges
abbrev pub HeldBehind : List ℕ → Reading → List Used → Type 0
HeldBehind img r held =
    (p : InPlace) (key : Key) → eval img (in_place r.dataset) ≡ Ok p → IsKey r.dataset.layout.index key → AllWithin held (visits img (address_behind p key))
