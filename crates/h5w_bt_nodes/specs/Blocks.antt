-- The changed nodes of a tree: the places that they get, and what is written there.
use Rattle.std.specs.Prelude.{◌≡◌, ℕ, zero, suc, ◌-◌, true, false, List, [], ◌∷◌, ◌++◌, length, map, flat_map, drop, replicate, slice_index_or, if◌then◌else◌, Ok}
use Rattle.h5w_model.specs.Numbers.{undefined}
use Rattle.h5w_model.specs.Images.{pieces}
use Rattle.h5w_model.specs.Trees.{BtinFields, ChildFields, btlf_at, btlf_bytes, btin_at, btin_bytes, node_size}
use Rattle.h5w_model.specs.declared.piece.Write.{Write}
use Rattle.h5w_cache.specs.declared.moves.Move.{Move}
use Rattle.h5w_bt.specs.Parts.{record_of}
use Rattle.h5w_bt_nodes.specs.Nodes.{Tree, records_of, total_of}

-- where a node stands, undefined while it was never written
abbrev pub place_of : (d : ℕ) → Tree d → ℕ
place_of zero t = t.place
place_of (suc d) t = t.place

-- The places that changed nodes leave, in the order in which the nodes are written: children before their parent. Under a node
-- that did not change none did.
abbrev pub stood : (d : ℕ) → Tree d → List ℕ
stood zero t = if t.clean then [] else t.place ∷ []
stood (suc d) t = if t.clean then [] else flat_map (stood d) t.children ++ t.place ∷ []

-- how many changed
abbrev pub changes : (d : ℕ) → Tree d → ℕ
changes d t = length (stood d t)

-- the places that nodes get
abbrev pub news : List Move → List ℕ
news ms = map (λ (m : Move). m.new) ms

-- what each of these gives by a list of places, of which each takes so many before the next
abbrev pub each_by : {T A : Type 0} → (List ℕ → T → A) → (T → ℕ) → List ℕ → List T → List A
each_by f n ps [] = []
each_by f n ps (c ∷ cs) = f ps c ∷ each_by f n (drop (n c) ps) cs

-- the changed nodes at these places, in their order, and clean
abbrev pub placed : (d : ℕ) → List ℕ → Tree d → Tree d
placed zero ps t = if t.clean then t else record t { place = slice_index_or ps 0 undefined; clean = true }
placed (suc d) ps t =
    if t.clean then t
    else record t {
      children = each_by (placed d) (changes d) ps t.children;
      place = slice_index_or ps (length (flat_map (stood d) t.children)) undefined;
      clean = true;
    }

-- what a node's parent says of it
abbrev pub pointer_of : (d : ℕ) → Tree d → ChildFields
pointer_of d t = record { address = place_of d t; records = length (records_of d t); total = total_of d t }

-- an inner node as it is written
abbrev pub node_of : (d : ℕ) → Tree (suc d) → BtinFields
node_of d t = record { records = map record_of t.records; children = map (pointer_of d) t.children }

-- a node takes 2,048 bytes, with zeros behind its sum
abbrev pub padded : List ℕ → List ℕ
padded b = b ++ replicate (node_size - length b) 0

-- the bytes of a node
unfoldable pub node_bytes : (d : ℕ) → Tree d → List ℕ
node_bytes zero t = padded (btlf_bytes (map record_of t.records))
node_bytes (suc d) t = padded (btin_bytes (node_of d t) (suc d))

-- read again at any place, a node gives its records, and an inner node its pointers
abbrev pub ReadsBack : (d : ℕ) → Tree d → Type 0
ReadsBack zero t = (from : ℕ) → btlf_at (btlf_bytes (map record_of t.records)) from (length t.records) ≡ Ok (map record_of t.records)
ReadsBack (suc d) t = (from : ℕ) → btin_at (btin_bytes (node_of d t) (suc d)) from (length t.records) (suc d) ≡ Ok (node_of d t)

-- what holds of each of these by a list of places, of which each takes so many before the next
abbrev pub EachBy : {T : Type 0} → (List ℕ → T → Type 0) → (T → ℕ) → List ℕ → List T → Type 0
EachBy R n ps [] = Unit {0}
EachBy R n ps (c ∷ cs) = R ps c × EachBy R n (drop (n c) ps) cs

-- each changed node reads back as it is written
abbrev pub AllRead : (d : ℕ) → List ℕ → Tree d → Type 0
AllRead zero ps t = t.clean ≡ false → ReadsBack zero (placed zero ps t)
AllRead (suc d) ps t = t.clean ≡ false → EachBy (AllRead d) (changes d) ps t.children × ReadsBack (suc d) (placed (suc d) ps t)

-- the node at its place
abbrev pub block_of : (d : ℕ) → Tree d → ℕ × List ℕ
block_of d t = (place_of d t, node_bytes d t)

-- blocks, one list after another
abbrev pub joined_blocks : List (List (ℕ × List ℕ)) → List (ℕ × List ℕ)
joined_blocks bss = flat_map (λ (bs : List (ℕ × List ℕ)). bs) bss

-- the changed nodes as they are written, in their order: each once, children before their parent
abbrev pub written : (d : ℕ) → List ℕ → Tree d → List (ℕ × List ℕ)
written zero ps t = if t.clean then [] else block_of zero (placed zero ps t) ∷ []
written (suc d) ps t = if t.clean then [] else joined_blocks (each_by (written d) (changes d) ps t.children) ++ block_of (suc d) (placed (suc d) ps t) ∷ []

-- the writes of some blocks, each in pieces of 512 bytes and a rest
abbrev pub writes_of : List (ℕ × List ℕ) → List Write
writes_of bs = flat_map (λ (b : ℕ × List ℕ). pieces b.0 b.1) bs
