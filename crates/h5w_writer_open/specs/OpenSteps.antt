-- What the steps of an opening answer.
use Rattle.std.specs.Prelude.{◌≡◌, ◌≢◌, ℕ, ◌≤◌, min, List, [], length, find, take, ◌==◌, IfErr, IfSome, Option, Some, None, Result, Ok, Err, Bool, true, false, ◌+◌}
use Rattle.h5w_model.specs.Causes.{Rose}
use Rattle.h5w_model.specs.Numbers.{range, undefined}
use Rattle.h5w_model.specs.Programs.{eval}
use Rattle.h5w_model.specs.Datasets.{Described, dataspace_kind, layout_kind}
use Rattle.h5w_model.specs.declared.message.Msg.{Msg}
use Rattle.h5w_model.specs.Messages.{IsIntType, IsLayout, IsShape}
use Rattle.h5w_model.specs.declared.cell.IndexKind.TheVariants.{Array, Tree}
use Rattle.h5w_model.specs.Superblock.{super_signature}
use Rattle.h5w_model.specs.declared.refusal.BlockFault.{BlockFault}
use Rattle.h5w_model.specs.declared.refusal.BlockFault.TheVariants.{Signature}
use Rattle.h5w_model.specs.declared.refusal.ReadError.TheVariants.{Damaged}
use Rattle.h5w_image.specs.View.{ImageView, Looked}
use Rattle.h5w_looks.specs.Still.{IsStill}
use Rattle.h5w_step_laws.specs.Files.{chunk_0}
use Rattle.h5w_cache.specs.Stores.{Store}
use Rattle.h5w_array_laws.specs.ArrayStores.{IsArray, header_place}
use Rattle.h5w_bt_index.specs.Marks.{clean_of}
use Rattle.h5w_bt_index.specs.Index.{Index, IsIndex}
use Rattle.h5w_bt_open.specs.declared.error.OpenTreeError.{OpenTreeError}
use Rattle.h5w_bt_open.specs.declared.error.OpenTreeError.TheVariants as tree_errors
use Rattle.h5w_index.specs.Blocks.{has_no_block}
use Rattle.h5w_index.specs.Views.{IndexView, an_array, a_tree}
use Rattle.h5w_ea_index.specs.declared.error.OpenArrayError.{OpenArrayError}
use Rattle.h5w_ea_index.specs.declared.error.OpenArrayError.TheVariants as array_errors
use Rattle.h5w_opening.specs.Errors.{IsOpenKind, refusal_of}
use Rattle.h5w_opening.specs.Openings.{IsFound, Opened, looked_for}
use Rattle.h5w_opening.specs.declared.error.OpenError.{OpenError}
use Rattle.h5w_opening.specs.declared.error.OpenError.TheVariants.{Read, Failed, OutOfMemory}
use Rattle.h5w_writer_open.specs.declared.index.NoIndex.{NoIndex}
use Rattle.h5w_writer_open.specs.declared.index.NoIndex.TheVariants.{Unnamed, Empty}
use Rattle.h5w_writer_open.specs.OpenRanges.{refused_open, is_starting}
use Rattle.h5w_writer_open.specs.OpenAnswers.{IfRefusal, IsBadBlock, IsBare, IsBlankOf, IsIndexOf, IsKeptIndexOf}
use Rattle.h5w_writer.specs.Sessions.{IsWritable, HasAddress}
use Rattle.h5w_model.specs.Headers.{index_address_place}

-- why a tree is not opened, as why a file is not
abbrev pub tree_error : OpenTreeError → OpenError
tree_error (tree_errors.Damaged at f) = Read (Damaged at f)
tree_error tree_errors.Failed = Failed
tree_error tree_errors.OutOfMemory = OutOfMemory

-- and why an array is not
abbrev pub array_error : OpenArrayError → OpenError
array_error (array_errors.Damaged at f) = Read (Damaged at f)
array_error array_errors.Failed = Failed
array_error array_errors.OutOfMemory = OutOfMemory

abbrev pub Says : {A : Type 0} → (A → Type 0) → (OpenError → Type 0) → Result A OpenError → Type 0
Says P Q (Ok a) = P a
Says P Q (Err e) = IfRefusal (refusal_of e) Q

-- A step that looked at an image: a refusal to read is none of NotSwmr, Again, Shrunk and OutOfMemory. On a still one its answer is told, and so is its refusal.
pub record OpenStep {A : Type 0} (v w : ImageView) (P : List ℕ → A → Type 0) (Q : List ℕ → OpenError → Type 0) (answer : Result A OpenError) : Type 0 where
  pub looked : Looked v w
  pub cause : answer ≡ Err Failed → Rose v.faults w.faults
  pub kinds : IfErr answer IsOpenKind
  pub exact : (img : List ℕ) → IsStill v img → Says (P img) (Q img) answer

-- a block of the index that the dataset names is refused
pub record IsBadIndex (img : List ℕ) (d : Described) (e : OpenError) : Type 0 where
  pub at : ℕ
  pub fault : BlockFault
  pub bad : IsBadBlock img d at fault
  pub is : e ≡ Read (Damaged at fault)

-- an array that was read is the one that the dataset names, and no block of it changed
pub record IsNamedArray (d : Described) (v : Store) : Type 0 where
  pub kind : d.layout.index ≡ Array
  pub named : d.layout.address ≢ undefined
  pub at : header_place v ≡ d.layout.address
  pub array : IsArray v
  pub clean : v.changed ≡ []

-- and so is a tree
pub record IsNamedTree (d : Described) (place : ℕ) (v : Index) : Type 0 where
  pub kind : d.layout.index ≡ Tree
  pub named : d.layout.address ≢ undefined
  pub at : place ≡ d.layout.address
  pub kept : IsIndex v
  pub clean : clean_of v.depth v.root ≡ true

abbrev pub IsNamedIndex : Described → IndexView → Type 0
IsNamedIndex d (an_array v) = IsNamedArray d v
IsNamedIndex d (a_tree place v) = IsNamedTree d place v

-- the layout names an array
pub record NamesArray (d : Described) : Type 0 where
  pub kind : d.layout.index ≡ Array
  pub named : d.layout.address ≢ undefined

abbrev pub IfNamedIndex : Described → Result IndexView NoIndex → Type 0
IfNamedIndex d (Ok v) = IsNamedIndex d v
IfNamedIndex d (Err Unnamed) = d.layout.address ≡ undefined
IfNamedIndex d (Err Empty) = NamesArray d
IfNamedIndex d (Err why) = Unit {0}

-- an index that was read has its index block, where it is an array; nothing is said of one that was not
abbrev pub HasItsBlock : Result IndexView NoIndex → Type 0
HasItsBlock (Ok v) = has_no_block v ≡ false
HasItsBlock (Err why) = Unit {0}

-- an array was read that has none: it was looked at where the superblock stands
abbrev pub LacksItsBlock : Result IndexView NoIndex → Type 0
LacksItsBlock (Ok v) = has_no_block v ≡ true
LacksItsBlock (Err why) = ⊥

-- the signature of the superblock stands there
abbrev pub no_block_error : OpenError
no_block_error = Read (Damaged 0 (Signature (take 4 super_signature)))

-- what a file has, and its index
pub record IsFoundIn (img : List ℕ) (size : ℕ) (name : List ℕ) (o : Opened) (a : Result IndexView NoIndex) : Type 0 where
  pub is : eval img (looked_for size name) ≡ Ok o
  pub index : IsIndexOf img o.header.dataset a

-- the first dataspace message of these has rows
pub record HasRows (list : List Msg) : Type 0 where
  pub space : Msg
  pub first : find (λ (m : Msg). m.kind == dataspace_kind) list ≡ Some space
  pub long : 12 ≤ length space.body

-- an index address can be written in the first layout message of these
pub record HasLayout (list : List Msg) : Type 0 where
  pub layout : Msg
  pub first : find (λ (m : Msg). m.kind == layout_kind) list ≡ Some layout
  pub room : index_address_place layout.body + 8 ≤ length layout.body

-- the bytes of chunk 0 that are looked at, at most a piece
abbrev pub front_of : List ℕ → ℕ → ℕ → List ℕ
front_of img place len = range img place (min len 512)

-- the parts of a dataset belong together: so what messages say
pub record IsCut (d : Described) : Type 0 where
  pub shaped : IsShape d.shape
  pub typed : IsIntType d.int_type
  pub chunked : IsLayout d.layout d.shape d.int_type
  pub filled : IfSome d.fill.value (λ (b : List ℕ). length b ≡ d.int_type.size)

-- a blank one is kept where the layout names none, or names an array that has no index block
abbrev pub IsReadyStart : Described → NoIndex → IndexView → Type 0
IsReadyStart d Empty v = NamesArray d × IsBare d.layout.address v
IsReadyStart d why v = (d.layout.address ≡ undefined) × IsBlankOf d.layout.index v

-- the index that is kept: that which was read, or a blank one of its kind
abbrev pub IsReadyIndex : Described → Result IndexView NoIndex → IndexView → Type 0
IsReadyIndex d (Ok u) v = IsNamedIndex d u × (v ≡ u)
IsReadyIndex d (Err why) v = IsReadyStart d why v

-- chunk 0 can be written with rows, and where it is asked for with an index address
abbrev pub IsKeptHeader : Bool → List ℕ → Type 0
IsKeptHeader starts b = IsWritable b × (starts ≡ true → HasAddress b)

-- what a session over a file that is there begins with, whatever the image is
pub record IsReady (o : Opened) (header : List ℕ) (v : IndexView) : Type 0 where
  pub found : IsFound o
  pub index : Result IndexView NoIndex
  pub ready : IsReadyIndex o.header.dataset index v
  pub made : HasItsBlock index
  pub unrefused : refused_open o index ≡ None
  pub header_kept : IsKeptHeader (is_starting o.header.dataset) header
  pub few : length header ≤ o.header.len

-- a superblock of version 3
abbrev pub versioned : Opened → Opened
versioned o = record o { root = record (o.root) { version = 3 } }

-- all of a file that is opened, where nothing refuses it
pub record IsOpenedFile (img : List ℕ) (size : ℕ) (name : List ℕ) (o : Opened) (header : List ℕ) (v : IndexView) : Type 0 where
  pub is : eval img (looked_for size name) ≡ Ok o
  pub index : Result IndexView NoIndex
  pub is_index : IsIndexOf img o.header.dataset index
  pub unrefused : refused_open o index ≡ None
  pub is_kept : IsKeptIndexOf o.header.dataset index v
  pub kept : header ≡ chunk_0 img o.place
