-- A first flush by its calls, whichever the kind of its index: its pieces lead to a file whose index rests.
use Rattle.std.proofs.Common.{◌≡◌, ◌≢◌, ℕ, ◌*◌, ◌^◌, ◌<◌, ◌==◌, true, false, List, [], ◌∷◌, ◌++◌, length, map, refl, sym, ap, ◌∙◌, subst, sum_by, arith, append-nil}
use Rattle.std.specs.Prelude.{Option, Some, None, IsSome, ℤ}
use Rattle.std.specs.List.{All, slice_get}
use Rattle.std.proofs.lemmas.Bool.{ne_eqb}
use Rattle.std.proofs.lemmas.List.Elements.{All-cons, All-head, All-map, All-nil, All-tail}
use Rattle.h5w_model.specs.Images.{image}
use Rattle.h5w_model.specs.Headers.{with_rows_bytes}
use Rattle.h5w_model.specs.Messages.{IsIntType}
use Rattle.h5w_model.specs.Numbers.{undefined}
use Rattle.h5w_model.specs.Arrays.{eahd_len, eaib_len}
use Rattle.h5w_model.specs.Trees.{bthd_len}
use Rattle.h5w_model.specs.Tables.{needed_keys}
use Rattle.h5w_model.specs.Logs.{Log, plans, appended, and_now}
use Rattle.h5w_model.specs.Findings.{Used, chunk_bytes}
use Rattle.h5w_model.specs.declared.cell.Key.{Key}
use Rattle.h5w_model.specs.declared.piece.Write.{Write}
use Rattle.h5w_step_laws.specs.Ranges.{block_at}
use Rattle.h5w_step_laws.specs.Needed.{AreFew}
use Rattle.h5w_space.specs.Space.{Space, extent}
use Rattle.h5w_cache.specs.Plans.{Took}
use Rattle.h5w_cache.specs.Stores.{Store, is_changed}
use Rattle.h5w_cache.specs.declared.moves.Move.{Move}
use Rattle.h5w_chunks.specs.Grids.{FitsType, cells_of, fill_cell}
use Rattle.h5w_chunks.specs.Shares.{touched, touched_key}
use Rattle.h5w_chunks.specs.Early.{RowsStand}
use Rattle.h5w_chunks.specs.declared.grid.ChunkPlace.{ChunkPlace}
use Rattle.h5w_step_laws.specs.Files.{chunk_0, commit_at, with_rows}
use Rattle.h5w_step_laws.specs.Moments.{Moment}
use Rattle.h5w_step_laws.specs.Logs.{image_now}
use Rattle.h5w_step_laws.specs.Sessions.{Runs}
use Rattle.h5w_array_laws.specs.Among.{AreAmong}
use Rattle.h5w_array_laws.specs.Parts.{holder, index_block, number_of}
use Rattle.h5w_array_laws.specs.ArrayStores as arrays
use Rattle.h5w_flush_laws.specs.Spaces.{Taken}
use Rattle.h5w_flush_laws.specs.Knowledge.{Knows}
use Rattle.h5w_flush_laws.specs.Parts.{AreEnded, Parts, committed, pieces_of}
use Rattle.h5w_flush_laws.specs.Rows.{IsOutside, IsPlaced, new_chunks}
use Rattle.h5w_flush_laws.proofs.SpaceLemmas.{taken_laws}
use Rattle.h5w_first_flush_laws.specs.Starting as starts
use Rattle.h5w_first_flush_laws.specs.FirstFlushes.{RisesTo, no_chunk}
use Rattle.h5w_first_flush_laws.specs.Starting.{StartKnows}
use Rattle.h5w_first_flush_laws.specs.StartCalls.{ArePending, AreStartCalls, IsMade, NamesChunks}
use Rattle.h5w_first_flush_laws.specs.StartFlushes as starts_parts
use Rattle.h5w_first_flush_laws.specs.HeaderAlone.{IsHeaderAlone}
use Rattle.h5w_first_flush_laws.specs.BlockFlushes.{new_block, top_piece}
use Rattle.h5w_first_flush_laws.specs.BlockCalls.{AreBlockCalls, AreOrdered}
use Rattle.h5w_first_flush_laws.proofs.BlockCallLemmas.{block_pending}
use Rattle.h5w_first_flush_laws.proofs.StartLemmas.{blank_map, created_blank}
use Rattle.h5w_first_flush_laws.proofs.StartPieceLemmas.{named_changed}
use Rattle.h5w_first_flush_laws.proofs.StartCallLemmas.{start_pending, two_taken}
use Rattle.h5w_bt_index.specs.Index.{Index, no_tree}
use Rattle.h5w_index.specs.Views.{IndexView, an_array, a_tree, address_in, behind_of, fixed_of, header_place, kind_of}
use Rattle.h5w_index.specs.Steps.{IsPlan}
use Rattle.h5w_index.specs.Flushes.{Begins}
use Rattle.h5w_index.specs.Naming.{AreNamed}
use Rattle.h5w_tree_starting_laws.specs.TreeStarting as tree_starts
use Rattle.h5w_tree_starting_laws.specs.TreeStarting.{TreeStartKnows}
use Rattle.h5w_tree_starting_laws.specs.TreeStartCalls.{AreTreeStartCalls}
use Rattle.h5w_tree_starting_laws.proofs.TreeStartCallLemmas.{tree_start_calls, first_of}
use Rattle.h5w_tree_starting_laws.proofs.TreeLeadLemmas.{tree_start_leads, tree_start_runs}
use Rattle.h5w_writer.specs.Indexes.{IsBlank}
use Rattle.h5w_pieces.specs.Joined.{AreJoined, IsNaming}
use Rattle.h5w_flush_laws.specs.Chunks.{chunks_for}
use Rattle.h5w_writer.specs.Starts.{IsArrayMade, IsMadeAt, IsTreeMade, TookTops, TookTwo, both, block_alone}

-- ---- An index without chunks

-- a blank index has no chunk
pub blank_none : (v : IndexView) → IsBlank v → (key : Key) → address_in v key ≡ undefined
blank_none (an_array v) blank key = blank.map key.i
blank_none (a_tree place v) blank key = ap (λ (u : Index). address_in (a_tree place u) key) blank

-- an index that was just made is blank
pub made_blank : (address : ℕ) (s : Space) (at : ℕ) (v : IndexView) (t : Space) → IsMadeAt address s at v t → IsBlank v
made_blank address s at (an_array v) t made =
    let m : IsArrayMade address s at v t = made in
    created_blank at m.block v m.is_made.created (let e = m.is_made.header_ends in omega (arith, e)) (let e = m.is_made.block_ends in omega (arith, e))
made_blank address s at (a_tree place v) t made = made.empty

pub made_none : (address : ℕ) (s : Space) (at : ℕ) (v : IndexView) (t : Space) → IsMadeAt address s at v t → (key : Key) → address_in v key ≡ undefined
made_none address s at v t made key = blank_none v (made_blank address s at v t made) key

-- ---- The calls

-- What the calls of a first flush show, over a file that is known, the places that it came to rest with and those before the flush: the index
-- that is made, that index once each chunk has its address, and once its blocks are planned.
pub record AreFirstCalls (img : List ℕ) (m : Moment) (rest base first b : Space) (at : ℕ) (naming : Option ℕ) (u v : IndexView) (ms : List Move) (w : IndexView) (t : Space) (rows : ℕ) (more : List ℤ) (writes : List Write)
    (places : List ChunkPlace) (added : List Key) (cs fixed supers ws : List Write) : Type 0 where
  pub kind : m.dataset.layout.index ≡ kind_of u
  pub alone : m.dataset.layout.address ≢ undefined → IsHeaderAlone img m.dataset
  pub made : IsMadeAt m.dataset.layout.address base at u first
  pub names : IsNaming m.dataset.layout.address (header_place w) naming
  pub rises : m.dataset.shape.rows < rows
  pub small : rows < 2 ^ 64
  pub few : AreFew (with_rows rows m.dataset)
  pub count : length (m.values ++ more) ≡ rows * m.dataset.shape.cols
  pub some : 0 < length places
  -- the index names the chunks, whose places were taken in part before those of its blocks
  pub named : AreNamed m.dataset rows u places added v
  pub taken : (tops : List Used) → Taken base tops first → Taken rest (tops ++ chunks_for m no_chunk places) b
  pub stand : RowsStand img m.dataset (cells_of m.dataset more) m.dataset.shape.rows rows places writes
  pub all : length places ≡ touched m.dataset m.dataset.shape.rows rows
  pub placed : (k : ℕ) (p : ChunkPlace) → slice_get places k ≡ Some p → IsPlaced m.dataset (λ key. address_in u key) (λ key. address_in w key) m.dataset.shape.rows k p
  pub others : (key : Key) → IsOutside m.dataset m.dataset.shape.rows rows key → address_in w key ≡ address_in u key
  pub typed : IsIntType m.dataset.int_type
  pub filled : length (fill_cell m.dataset) ≡ m.dataset.int_type.size
  pub fit : (k : ℕ) (n : ℤ) → slice_get more k ≡ Some n → FitsType m.dataset n
  pub plan : IsPlan v b ms cs fixed w t
  pub ended : AreEnded m.super t.end supers
  pub pieces : AreJoined naming writes cs fixed supers (commit_at img m.place rows naming) ws

-- The file once all pieces of such a flush are shown: it has the new rows, its header names the index, and its ranges are the index's.
abbrev pub first_named : Moment → Option ℕ → IndexView → ℕ → List ℤ → ℕ → Moment
first_named m naming w rows more last = record m {
  super = record (m.super) { end = last };
  dataset = committed m.dataset rows naming;
  fixed = fixed_of w;
  behind = behind_of (chunk_bytes m.dataset) w;
  table = map (λ key. address_in w key) (needed_keys (committed m.dataset rows naming));
  values = m.values ++ more;
}

-- Its pieces are safe steps to that file, whose index rests, and chunk 0 of whose header is what the last of them writes.
pub record AreFirstPending (name : List ℕ) (log : Log) (m : Moment) (naming : Option ℕ) (w : IndexView) (t : Space) (rows : ℕ) (more : List ℤ) (ws : List Write) : Type 0 where
  pub runs : Runs name (and_now (plans (length ws)) log) ws (first_named m naming w rows more t.end) (behind_of (chunk_bytes m.dataset) w)
  pub begins : Begins (image (image_now log) ws) name (first_named m naming w rows more t.end) t w
  pub header : chunk_0 (image (image_now log) ws) m.place ≡ with_rows_bytes (chunk_0 (image_now log) m.place) rows naming

-- where the dataset header is to name the index all its blocks in place come before the superblock
all_before : (naming : Option ℕ) (n : ℕ) (writes cs fixed supers : List Write) (header : Write) (ws : List Write) → naming ≡ Some n → AreJoined naming writes cs fixed supers header ws → ws ≡ writes ++ (cs ++ (fixed ++ (supers ++ header ∷ [])))
all_before naming n writes cs fixed supers header ws is j =
    let none : j.behind ≡ [] = j.unnamed (subst (λ (o : Option ℕ). IsSome o) (sym is) refl) in
    let front : j.front ≡ fixed = sym (append-nil j.front) ∙ ap (λ (vs : List Write). j.front ++ vs) (sym none) ∙ j.cut in
    j.all ∙ ap (λ (vs : List Write). writes ++ (cs ++ (j.front ++ (supers ++ (vs ++ header ∷ []))))) none ∙ ap (λ (vs : List Write). writes ++ (cs ++ (vs ++ (supers ++ header ∷ [])))) front

-- ---- Of an array

-- none of the keys has this number
none_is : (k : ℕ) (added : List Key) → All (λ j. j ≢ k) (map (λ (key : Key). key.i) added) → All (λ (other : Key). (k == other.i) ≡ false) added
none_is k [] off = All-nil (λ (other : Key). (k == other.i) ≡ false)
none_is k (x ∷ xs) off =
    let is : x.i ≢ k = All-head (λ (j : ℕ). j ≢ k) x.i (map (λ (key : Key). key.i) xs) off in
    All-cons (λ (other : Key). (k == other.i) ≡ false) x xs (ne_eqb k x.i (λ e. is (sym e))) (none_is k xs (All-tail (λ (j : ℕ). j ≢ k) x.i (map (λ (key : Key). key.i) xs) off))

module _ (name : List ℕ) (log : Log) (m : Moment) (rest base first b t : Space) (at : ℕ) (naming : Option ℕ) (u v w : Store) (ms : List Move) (rows : ℕ) (more : List ℤ) (writes : List Write) (places : List ChunkPlace) (added : List Key)
    (cs fixed supers ws : List Write) (c : AreFirstCalls (image_now log) m rest base first b at naming (an_array u) (an_array v) ms (an_array w) t rows more writes places added cs fixed supers ws) where
  abbrev pub array_made : IsArrayMade m.dataset.layout.address base at u first
  array_made = c.made

  array_blank : starts.IsBlank u
  array_blank = made_blank m.dataset.layout.address base at (an_array u) first c.made

  array_none : ◌≡◌ {A = Key → ℕ} (λ key. address_in (an_array u) key) no_chunk
  array_none = blank_map u array_blank

  array_chunks : new_chunks m.dataset (λ key. address_in (an_array u) key) m.dataset.shape.rows 0 places ≡ chunks_for m no_chunk places
  array_chunks = ap (λ (f : Key → ℕ). new_chunks m.dataset f m.dataset.shape.rows 0 places) array_none

  -- some chunk got an address, and so the index block is changed
  array_changed : is_changed v (number_of index_block) ≡ true
  array_changed =
      let one = first_of places c.some in
      let placed = c.named.placed 0 one.0 one.1 in
      named_changed u v (map (λ (key : Key). key.i) added) (touched_key m.dataset m.dataset.shape.rows 0).i c.named.partly.like.sound
      (All-map (λ (j : ℕ). (j < 131060) × (is_changed v (number_of (holder j)) ≡ true)) (λ (key : Key). key.i) added c.named.partly.slots)
      (λ k off. c.named.partly.rest (record { i = k; j = 0 }) (none_is k added off)) (array_blank.map (touched_key m.dataset m.dataset.shape.rows 0).i) (λ e. placed.defined (sym placed.named ∙ e))

  names_chunks : NamesChunks (chunk_bytes m.dataset) u (chunks_for m no_chunk places) v
  names_chunks = record {
    array = c.named.partly.like.sound;
    standing = c.named.partly.like.stays;
    places = c.named.partly.like.blocks;
    changed = array_changed;
    behind = subst (λ (us : List Used). AreAmong (arrays.behind_of (chunk_bytes m.dataset) v) (us ++ arrays.behind_of (chunk_bytes m.dataset) u)) array_chunks c.named.behind;
  }

  -- the rows of such a flush, whatever its index block and header are written as
  array_rising : (copies first : List (ℕ × List ℕ)) (in_place : List Write) (o : Option ℕ)
      → RisesTo (image_now log) m (starts_parts.first_parts (chunk_bytes m.dataset) w rows more writes (chunks_for m no_chunk places) copies first supers t.end in_place o) places
  array_rising copies first in_place o = record {
    rises = c.rises;
    small = c.small;
    few = c.few;
    count = c.count;
    placed = record {
      written = c.stand;
      all = c.all;
      placed = λ k p here. subst (λ (g : Key → ℕ). IsPlaced m.dataset g (λ key. address_in (an_array w) key) m.dataset.shape.rows k p) array_none (c.placed k p here);
      others = λ key asked outside. c.others key outside ∙ array_blank.map key.i;
      chunks = refl;
      typed = c.typed;
      filled = c.filled;
      fit = c.fit;
    };
    ended = c.ended;
  }

  as_index : (o : Option ℕ) → ArePending name log m o w t rows more ws → AreFirstPending name log m o (an_array w) t rows more ws
  as_index o p =
      let r = p.begins.rests in
      record {
        runs = p.runs;
        begins = record {
          knows = p.begins.knows;
          held = p.begins.held;
          rests = record { kind = r.kind; at_place = r.at; sound = r.array; stands = r.stands; stays = r.standing; fixed = r.fixed; behind = λ f. ap (sum_by f) (sym r.behind); map = r.map };
        };
        header = p.header;
      }

  -- where the layout names none, the dataset header names it
  pub named_calls : m.dataset.layout.address ≡ undefined → TookTwo base at array_made.block first → AreStartCalls (image_now log) m rest b at array_made.block u v ms w t rows more writes places cs fixed supers
  named_calls none two = record {
    rising = λ copies. array_rising copies (starts_parts.first_blocks w) [] (Some (arrays.header_place w));
    taken = c.taken (block_at at eahd_len ∷ block_at array_made.block eaib_len ∷ []) (two_taken base two.between first at array_made.block two.first two.second);
    made = array_made.is_made;
    names = names_chunks;
    plan = c.plan;
  }

  pub named_pieces : m.dataset.layout.address ≡ undefined → ws ≡ writes ++ (cs ++ (fixed ++ (supers ++ commit_at (image_now log) m.place rows (Some (arrays.header_place w)) ∷ [])))
  named_pieces none =
      let is : naming ≡ Some (arrays.header_place w) = c.names.unnamed none in
      all_before naming (arrays.header_place w) writes cs fixed supers (commit_at (image_now log) m.place rows naming) ws is c.pieces
      ∙ ap (λ (o : Option ℕ). writes ++ (cs ++ (fixed ++ (supers ++ commit_at (image_now log) m.place rows o ∷ [])))) is

  array_named : m.dataset.layout.address ≡ undefined → TookTwo base at array_made.block first → (k : Knows (image_now log) name m no_chunk rest) → Runs name log [] m k.held → m.values ++ more ≡ appended log
      → AreFirstPending name log m naming (an_array w) t rows more ws
  array_named none two knows runs values =
      let is : naming ≡ Some (arrays.header_place w) = c.names.unnamed none in
      let known : StartKnows (image_now log) name m rest u = record { knows = knows; unnamed = record { kind = c.kind; address = none }; blank = array_blank } in
      let p = start_pending name log m rest b t at array_made.block u u v w ms rows more writes places cs fixed supers ws known runs (named_calls none two) values (named_pieces none) in
      subst (λ (o : Option ℕ). AreFirstPending name log m o (an_array w) t rows more ws) (sym is) (as_index (Some (arrays.header_place w)) p)

  -- else its header, which is there, names its index block
  pub alone_calls : at ≡ m.dataset.layout.address → Took base first (extent array_made.block eaib_len) → AreBlockCalls (image_now log) m rest b array_made.block u v ms w t rows more writes places cs fixed supers
  alone_calls there took = record {
    rising = λ copies. array_rising copies (new_block w) (top_piece w ∷ []) None;
    taken = c.taken (block_at array_made.block eaib_len ∷ []) (taken_laws.one base first (block_at array_made.block eaib_len) (omega arith) took);
    made = subst (λ (n : ℕ). IsMade n array_made.block u) there array_made.is_made;
    names = names_chunks;
    plan = c.plan;
  }

  pub ordered_pieces : m.dataset.layout.address ≢ undefined → AreOrdered (image_now log) m rows writes cs fixed supers ws
  ordered_pieces named =
      let is : naming ≡ None = c.names.named named in
      let j = c.pieces in
      record {
        front = j.front;
        behind = j.behind;
        cut = j.cut;
        one = j.named is;
        all = j.all ∙ ap (λ (o : Option ℕ). writes ++ (cs ++ (j.front ++ (supers ++ (j.behind ++ commit_at (image_now log) m.place rows o ∷ []))))) is;
      }

  array_block : m.dataset.layout.address ≢ undefined → at ≡ m.dataset.layout.address → Took base first (extent array_made.block eaib_len) → (k : Knows (image_now log) name m no_chunk rest) → Runs name log [] m k.held
      → m.values ++ more ≡ appended log → AreFirstPending name log m naming (an_array w) t rows more ws
  array_block named there took knows runs values =
      let is : naming ≡ None = c.names.named named in
      let p = block_pending name log m rest b t array_made.block u v w ms rows more writes places cs fixed supers ws (record { knows = knows; alone = c.alone named }) runs (alone_calls there took) values (ordered_pieces named) in
      subst (λ (o : Option ℕ). AreFirstPending name log m o (an_array w) t rows more ws) (sym is) (as_index None p)

  array_pending : (k : Knows (image_now log) name m no_chunk rest) → Runs name log [] m k.held → m.values ++ more ≡ appended log → AreFirstPending name log m naming (an_array w) t rows more ws
  array_pending knows runs values = go array_made.tops
    where
      go : TookTops m.dataset.layout.address base at array_made.block first → AreFirstPending name log m naming (an_array w) t rows more ws
      go (both none two) = array_named none two knows runs values
      go (block_alone named there took) = array_block named there took knows runs values

-- ---- Of a tree

module _ (name : List ℕ) (log : Log) (m : Moment) (rest base first b t : Space) (at p : ℕ) (naming : Option ℕ) (v w : Index) (ms : List Move) (rows : ℕ) (more : List ℤ) (writes : List Write) (places : List ChunkPlace) (added : List Key)
    (cs fixed supers ws : List Write) (c : AreFirstCalls (image_now log) m rest base first b at naming (a_tree p no_tree) (a_tree p v) ms (a_tree p w) t rows more writes places added cs fixed supers ws) where
  abbrev pub tree_made : IsTreeMade m.dataset.layout.address base at p no_tree first
  tree_made = c.made

  tree_none : ◌≡◌ {A = Key → ℕ} (λ key. address_in (a_tree p no_tree) key) no_chunk
  tree_none = λ i key. made_none m.dataset.layout.address base at (a_tree p no_tree) first c.made key i

  pub tree_calls : AreTreeStartCalls (image_now log) m rest b p v ms w t rows more writes places added cs fixed supers
  tree_calls = record {
    taken = c.taken (block_at p bthd_len ∷ []) (taken_laws.one base first (block_at p bthd_len) (omega arith) (subst (λ (n : ℕ). Took base first (extent n bthd_len)) (sym tree_made.place_is) tree_made.header));
    ends = omega (arith, tree_made.ends, tree_made.place_is);
    some = c.some;
    named = c.named;
    rising = λ copies. record {
      rises = c.rises;
      small = c.small;
      few = c.few;
      count = c.count;
      placed = record {
        written = c.stand;
        all = c.all;
        placed = λ k q here. subst (λ (f : Key → ℕ). IsPlaced m.dataset f (λ key. address_in (a_tree p w) key) m.dataset.shape.rows k q) tree_none (c.placed k q here);
        others = λ key asked outside. c.others key outside ∙ made_none m.dataset.layout.address base at (a_tree p no_tree) first c.made key;
        chunks = refl;
        typed = c.typed;
        filled = c.filled;
        fit = c.fit;
      };
      ended = c.ended;
    };
    plan = c.plan;
  }

  pub tree_pieces : ws ≡ writes ++ (cs ++ (fixed ++ (supers ++ commit_at (image_now log) m.place rows (Some p) ∷ [])))
  tree_pieces =
      let is : naming ≡ Some p = c.names.unnamed tree_made.unnamed in
      all_before naming p writes cs fixed supers (commit_at (image_now log) m.place rows naming) ws is c.pieces ∙ ap (λ (o : Option ℕ). writes ++ (cs ++ (fixed ++ (supers ++ commit_at (image_now log) m.place rows o ∷ [])))) is

  tree_pending : (k : Knows (image_now log) name m no_chunk rest) → Runs name log [] m k.held → m.values ++ more ≡ appended log → AreFirstPending name log m naming (a_tree p w) t rows more ws
  tree_pending knows runs values =
      let now : List ℕ = image_now log in
      let known : TreeStartKnows now name m rest = record { knows = knows; unnamed = record { kind = c.kind; address = tree_made.unnamed } } in
      let is : naming ≡ Some p = c.names.unnamed tree_made.unnamed in
      let calls = tree_start_calls now m rest b t p v w ms rows more writes places added cs fixed supers tree_calls in
      let f : Parts = tree_starts.parts_for m p w rows more writes places calls.copies supers t.end in
      let same : pieces_of now m f ≡ ws = calls.pieces ∙ sym tree_pieces in
      let over = tree_start_runs name log m rest b t p v w ms rows more writes places calls.copies fixed supers known runs calls.start values in
      let leads = tree_start_leads now name m rest b t p v w ms rows more writes places calls.copies fixed supers known calls.start in
      let after : Moment = first_named m (Some p) (a_tree p w) rows more t.end in
      let r = leads.rests in
      let begins : Begins (image now (pieces_of now m f)) name after t (a_tree p w) = record {
        knows = leads.knows;
        held = leads.held;
        rests = record {
          kind = r.kind;
          at_place = r.at_place;
          sound = record { index = r.index; defined = r.defined };
          stands = r.stands;
          stays = tt;
          fixed = r.fixed;
          behind = λ g. ap (sum_by g) (sym r.behind);
          map = r.map;
        };
      } in
      subst (λ (o : Option ℕ). AreFirstPending name log m o (a_tree p w) t rows more ws) (sym is) (record {
        runs = subst (λ (xs : List Write). Runs name (and_now (plans (length xs)) log) xs after (behind_of (chunk_bytes m.dataset) (a_tree p w))) same over.runs;
        begins = subst (λ (xs : List Write). Begins (image now xs) name after t (a_tree p w)) same begins;
        header = subst (λ (xs : List Write). chunk_0 (image now xs) m.place ≡ with_rows_bytes (chunk_0 now m.place) rows (Some p)) same leads.header;
      })

-- the header of a tree stays where it was made
tree_first : (name : List ℕ) (log : Log) (m : Moment) (rest base first b t : Space) (at p q r : ℕ) (naming : Option ℕ) (u v w : Index) (ms : List Move) (rows : ℕ) (more : List ℤ) (writes : List Write) (places : List ChunkPlace) (added : List Key)
    (cs fixed supers ws : List Write) → (k : Knows (image_now log) name m no_chunk rest) → Runs name log [] m k.held → m.values ++ more ≡ appended log
    → AreFirstCalls (image_now log) m rest base first b at naming (a_tree p u) (a_tree q v) ms (a_tree r w) t rows more writes places added cs fixed supers ws → AreFirstPending name log m naming (a_tree r w) t rows more ws
tree_first name log m rest base first b t at p q r naming u v w ms rows more writes places added cs fixed supers ws knows runs values c =
    let made : IsTreeMade m.dataset.layout.address base at p u first = c.made in
    let here : q ≡ p = c.named.partly.like.place in
    let there : r ≡ p = c.plan.0 ∙ here in
    let Calls : Index → ℕ → ℕ → Type 0 = λ x y z. AreFirstCalls (image_now log) m rest base first b at naming (a_tree p x) (a_tree y v) ms (a_tree z w) t rows more writes places added cs fixed supers ws in
    let one : Calls no_tree q r = subst (λ (x : Index). Calls x q r) made.empty c in
    let two : Calls no_tree p r = subst (λ (y : ℕ). Calls no_tree y r) here one in
    let three : Calls no_tree p p = subst (λ (z : ℕ). Calls no_tree p z) there two in
    subst (λ (z : ℕ). AreFirstPending name log m naming (a_tree z w) t rows more ws) (sym there)
    (tree_pending name log m rest base first b t at p naming v w ms rows more writes places added cs fixed supers ws three knows runs values)

-- ---- Of either

-- A session whose log has come to such a file plans that flush, of all values that were appended.
pub first_pending : (name : List ℕ) (log : Log) (m : Moment) (rest base first b t : Space) (at : ℕ) (naming : Option ℕ) (u v w : IndexView) (ms : List Move) (rows : ℕ) (more : List ℤ) (writes : List Write) (places : List ChunkPlace) (added : List Key)
    (cs fixed supers ws : List Write) → (k : Knows (image_now log) name m no_chunk rest) → Runs name log [] m k.held → m.values ++ more ≡ appended log
    → AreFirstCalls (image_now log) m rest base first b at naming u v ms w t rows more writes places added cs fixed supers ws → AreFirstPending name log m naming w t rows more ws
first_pending name log m rest base first b t at naming (an_array u) (an_array v) (an_array w) ms rows more writes places added cs fixed supers ws knows runs values c =
    array_pending name log m rest base first b t at naming u v w ms rows more writes places added cs fixed supers ws c knows runs values
first_pending name log m rest base first b t at naming (a_tree p u) (a_tree q v) (a_tree r w) ms rows more writes places added cs fixed supers ws knows runs values c =
    tree_first name log m rest base first b t at p q r naming u v w ms rows more writes places added cs fixed supers ws knows runs values c
first_pending name log m rest base first b t at naming (an_array u) (an_array v) (a_tree r w) ms rows more writes places added cs fixed supers ws knows runs values c = absurd c.plan
first_pending name log m rest base first b t at naming (a_tree p u) (a_tree q v) (an_array w) ms rows more writes places added cs fixed supers ws knows runs values c = absurd c.plan
first_pending name log m rest base first b t at naming (an_array u) (a_tree q v) w ms rows more writes places added cs fixed supers ws knows runs values c = absurd c.named.partly.like.blocks
first_pending name log m rest base first b t at naming (a_tree p u) (an_array v) w ms rows more writes places added cs fixed supers ws knows runs values c = absurd c.named.partly.like.blocks
