-- A first flush in the words of h5w_flush_laws, whichever the kind of its index.
use Rattle.std.proofs.Common.{◌≡◌, ◌≢◌, ℕ, List, [], ◌∷◌, ◌++◌, refl, sym, ap, ◌∙◌, subst}
use Rattle.std.specs.Prelude.{Option, Some, None, ℤ}
use Rattle.h5w_model.specs.Numbers.{undefined}
use Rattle.h5w_model.specs.Arrays.{eaib_len}
use Rattle.h5w_model.specs.Logs.{Log}
use Rattle.h5w_model.specs.Findings.{Used, chunk_bytes}
use Rattle.h5w_model.specs.declared.cell.Key.{Key}
use Rattle.h5w_model.specs.declared.piece.Write.{Write}
use Rattle.h5w_space.specs.Space.{Space, extent}
use Rattle.h5w_cache.specs.Plans.{Took}
use Rattle.h5w_cache.specs.Stores.{Store}
use Rattle.h5w_cache.specs.declared.moves.Move.{Move}
use Rattle.h5w_chunks.specs.declared.grid.ChunkPlace.{ChunkPlace}
use Rattle.h5w_step_laws.specs.Moments.{Moment}
use Rattle.h5w_step_laws.specs.Logs.{image_now}
use Rattle.h5w_array_laws.specs.ArrayStores as arrays
use Rattle.h5w_flush_laws.specs.Knowledge.{HeldMissed, Holding, Knows}
use Rattle.h5w_flush_laws.specs.Parts.{IsFlush, Parts, flushed_to, pieces_of}
use Rattle.h5w_first_flush_laws.specs.FirstFlushes.{no_chunk}
use Rattle.h5w_first_flush_laws.specs.Starting.{StartKnows}
use Rattle.h5w_first_flush_laws.specs.StartFlushes as starts_parts
use Rattle.h5w_first_flush_laws.proofs.StartCallLemmas.{start_calls}
use Rattle.h5w_first_flush_laws.proofs.StartFlushLemmas.{start_first}
use Rattle.h5w_first_flush_laws.specs.BlockFlushes.{block_parts_for}
use Rattle.h5w_first_flush_laws.specs.HeaderAlone.{AloneKnows}
use Rattle.h5w_first_flush_laws.proofs.BlockCallLemmas.{block_calls}
use Rattle.h5w_first_flush_laws.proofs.BlockFlushLemmas.{block_first}
use Rattle.h5w_bt_index.specs.Index.{Index, no_tree}
use Rattle.h5w_index.specs.Views.{IndexView, an_array, a_tree, address_in, behind_of}
use Rattle.h5w_tree_starting_laws.specs.TreeStarting as tree_starts
use Rattle.h5w_tree_starting_laws.specs.TreeStarting.{TreeStartKnows}
use Rattle.h5w_tree_starting_laws.proofs.TreeStartCallLemmas.{tree_start_calls}
use Rattle.h5w_tree_starting_laws.proofs.TreeStartLemmas as trees
use Rattle.h5w_writer.specs.Starts.{IsArrayMade, IsTreeMade, TookTops, TookTwo, both, block_alone}
use Rattle.h5w_writer.proofs.StartKinds.{AreFirstCalls, alone_calls, first_named, made_blank, named_calls, named_pieces, ordered_pieces, tree_calls, tree_pieces}

-- The parts of such a flush, which lead to the file that names the index: its writes meet nothing of whatever readers may hold, and these are its
-- pieces.
pub record HasFirstParts (img : List ℕ) (m : Moment) (rest : Space) (naming : Option ℕ) (w : IndexView) (t : Space) (rows : ℕ) (more : List ℤ) (ws : List Write) : Type 0 where
  pub parts : Parts
  pub flush : IsFlush img m no_chunk rest parts t
  pub missed : (held : List Used) → Holding m rest held → HeldMissed held parts.writes
  pub pieces : pieces_of img m parts ≡ ws
  pub leads : flushed_to m parts ≡ first_named m naming w rows more t.end
  pub address : ◌≡◌ {A = Key → ℕ} parts.address (λ key. address_in w key)
  pub behind : parts.behind ≡ behind_of (chunk_bytes m.dataset) w

-- what is known of a file of which readers may hold this
abbrev held_known : (img name : List ℕ) (m : Moment) (rest : Space) → Knows img name m no_chunk rest → (held : List Used) → Holding m rest held → Knows img name m no_chunk rest
held_known img name m rest k held h = record { file = k.file; index = k.index; live = k.live; ended = k.ended; covered = k.covered; held = held; holding = h; layout = k.layout }

-- ---- Of an array

module _ (name : List ℕ) (log : Log) (m : Moment) (rest base first b t : Space) (at : ℕ) (naming : Option ℕ) (u v w : Store) (ms : List Move) (rows : ℕ) (more : List ℤ) (writes : List Write) (places : List ChunkPlace) (added : List Key)
    (cs fixed supers ws : List Write) (c : AreFirstCalls (image_now log) m rest base first b at naming (an_array u) (an_array v) ms (an_array w) t rows more writes places added cs fixed supers ws) (k : Knows (image_now log) name m no_chunk rest) where
  abbrev now : List ℕ
  now = image_now log

  abbrev made : IsArrayMade m.dataset.layout.address base at u first
  made = c.made

  abbrev unnamed : m.dataset.layout.address ≡ undefined → Knows now name m no_chunk rest → StartKnows now name m rest u
  unnamed none knows = record { knows = knows; unnamed = record { kind = c.kind; address = none }; blank = made_blank m.dataset.layout.address base at (an_array u) first c.made }

  named_parts : m.dataset.layout.address ≡ undefined → TookTwo base at made.block first → HasFirstParts now m rest naming (an_array w) t rows more ws
  named_parts none two =
      let is : naming ≡ Some (arrays.header_place w) = c.names.unnamed none in
      let calls =
      start_calls now name m rest b t at made.block u u v w ms rows more writes places cs fixed supers (unnamed none k)
      (named_calls name log m rest base first b t at naming u v w ms rows more writes places added cs fixed supers ws c none two) in
      record {
        parts = starts_parts.parts_for m w rows more writes places calls.copies supers t.end;
        flush = (start_first now name m rest b t u v w ms rows more writes places calls.copies fixed supers (unnamed none k) calls.start).flush;
        missed = λ held h. (start_first now name m rest b t u v w ms rows more writes places calls.copies fixed supers (unnamed none (held_known now name m rest k held h)) calls.start).missed;
        pieces = calls.pieces ∙ sym (named_pieces name log m rest base first b t at naming u v w ms rows more writes places added cs fixed supers ws c none);
        leads = ap (λ (o : Option ℕ). first_named m o (an_array w) rows more t.end) (sym is);
        address = refl;
        behind = refl;
      }

  abbrev alone : m.dataset.layout.address ≢ undefined → Knows now name m no_chunk rest → AloneKnows now name m rest
  alone named knows = record { knows = knows; alone = c.alone named }

  block_parts : m.dataset.layout.address ≢ undefined → at ≡ m.dataset.layout.address → Took base first (extent made.block eaib_len) → HasFirstParts now m rest naming (an_array w) t rows more ws
  block_parts named there took =
      let is : naming ≡ None = c.names.named named in
      let calls =
      block_calls now name m rest b t made.block u v w ms rows more writes places cs fixed supers (alone named k)
      (alone_calls name log m rest base first b t at naming u v w ms rows more writes places added cs fixed supers ws c there took) in
      record {
        parts = block_parts_for m w rows more writes places calls.copies supers t.end;
        flush = (block_first now name m rest b t u v w ms rows more writes places calls.copies fixed supers (alone named k) calls.start).flush;
        missed = λ held h. (block_first now name m rest b t u v w ms rows more writes places calls.copies fixed supers (alone named (held_known now name m rest k held h)) calls.start).missed;
        pieces = calls.pieces ws (ordered_pieces name log m rest base first b t at naming u v w ms rows more writes places added cs fixed supers ws c named);
        leads = ap (λ (o : Option ℕ). first_named m o (an_array w) rows more t.end) (sym is);
        address = refl;
        behind = refl;
      }

  array_parts : HasFirstParts now m rest naming (an_array w) t rows more ws
  array_parts = go made.tops
    where
      go : TookTops m.dataset.layout.address base at made.block first → HasFirstParts now m rest naming (an_array w) t rows more ws
      go (both none two) = named_parts none two
      go (block_alone named there took) = block_parts named there took

-- ---- Of a tree

module _ (name : List ℕ) (log : Log) (m : Moment) (rest base first b t : Space) (at p : ℕ) (naming : Option ℕ) (v w : Index) (ms : List Move) (rows : ℕ) (more : List ℤ) (writes : List Write) (places : List ChunkPlace) (added : List Key)
    (cs fixed supers ws : List Write) (c : AreFirstCalls (image_now log) m rest base first b at naming (a_tree p no_tree) (a_tree p v) ms (a_tree p w) t rows more writes places added cs fixed supers ws) (k : Knows (image_now log) name m no_chunk rest) where
  abbrev tree_made : IsTreeMade m.dataset.layout.address base at p no_tree first
  tree_made = c.made

  abbrev tree_known : Knows (image_now log) name m no_chunk rest → TreeStartKnows (image_now log) name m rest
  tree_known knows = record { knows = knows; unnamed = record { kind = c.kind; address = tree_made.unnamed } }

  tree_parts : HasFirstParts (image_now log) m rest naming (a_tree p w) t rows more ws
  tree_parts =
      let now : List ℕ = image_now log in
      let is : naming ≡ Some p = c.names.unnamed tree_made.unnamed in
      let calls =
      tree_start_calls now m rest b t p v w ms rows more writes places added cs fixed supers (tree_calls name log m rest base first b t at p naming v w ms rows more writes places added cs fixed supers ws c) in
      record {
        parts = tree_starts.parts_for m p w rows more writes places calls.copies supers t.end;
        flush = (trees.start_first now name m rest b t p v w ms rows more writes places calls.copies fixed supers (tree_known k) calls.start).flush;
        missed = λ held h. (trees.start_first now name m rest b t p v w ms rows more writes places calls.copies fixed supers (tree_known (held_known now name m rest k held h)) calls.start).missed;
        pieces = calls.pieces ∙ sym (tree_pieces name log m rest base first b t at p naming v w ms rows more writes places added cs fixed supers ws c);
        leads = ap (λ (o : Option ℕ). first_named m o (a_tree p w) rows more t.end) (sym is);
        address = refl;
        behind = refl;
      }

-- the header of a tree stays where it was made
tree_first_parts : (name : List ℕ) (log : Log) (m : Moment) (rest base first b t : Space) (at p q r : ℕ) (naming : Option ℕ) (u v w : Index) (ms : List Move) (rows : ℕ) (more : List ℤ) (writes : List Write) (places : List ChunkPlace)
    (added : List Key) (cs fixed supers ws : List Write) → Knows (image_now log) name m no_chunk rest
    → AreFirstCalls (image_now log) m rest base first b at naming (a_tree p u) (a_tree q v) ms (a_tree r w) t rows more writes places added cs fixed supers ws → HasFirstParts (image_now log) m rest naming (a_tree r w) t rows more ws
tree_first_parts name log m rest base first b t at p q r naming u v w ms rows more writes places added cs fixed supers ws knows c =
    let made : IsTreeMade m.dataset.layout.address base at p u first = c.made in
    let here : q ≡ p = c.named.partly.like.place in
    let there : r ≡ p = c.plan.0 ∙ here in
    let Calls : Index → ℕ → ℕ → Type 0 = λ x y z. AreFirstCalls (image_now log) m rest base first b at naming (a_tree p x) (a_tree y v) ms (a_tree z w) t rows more writes places added cs fixed supers ws in
    let one : Calls no_tree q r = subst (λ (x : Index). Calls x q r) made.empty c in
    let two : Calls no_tree p r = subst (λ (y : ℕ). Calls no_tree y r) here one in
    let three : Calls no_tree p p = subst (λ (z : ℕ). Calls no_tree p z) there two in
    subst (λ (z : ℕ). HasFirstParts (image_now log) m rest naming (a_tree z w) t rows more ws) (sym there)
    (tree_parts name log m rest base first b t at p naming v w ms rows more writes places added cs fixed supers ws three knows)

-- ---- Of either

pub first_parts : (name : List ℕ) (log : Log) (m : Moment) (rest base first b t : Space) (at : ℕ) (naming : Option ℕ) (u v w : IndexView) (ms : List Move) (rows : ℕ) (more : List ℤ) (writes : List Write) (places : List ChunkPlace)
    (added : List Key) (cs fixed supers ws : List Write) → Knows (image_now log) name m no_chunk rest
    → AreFirstCalls (image_now log) m rest base first b at naming u v ms w t rows more writes places added cs fixed supers ws → HasFirstParts (image_now log) m rest naming w t rows more ws
first_parts name log m rest base first b t at naming (an_array u) (an_array v) (an_array w) ms rows more writes places added cs fixed supers ws knows c =
    array_parts name log m rest base first b t at naming u v w ms rows more writes places added cs fixed supers ws c knows
first_parts name log m rest base first b t at naming (a_tree p u) (a_tree q v) (a_tree r w) ms rows more writes places added cs fixed supers ws knows c =
    tree_first_parts name log m rest base first b t at p q r naming u v w ms rows more writes places added cs fixed supers ws knows c
first_parts name log m rest base first b t at naming (an_array u) (an_array v) (a_tree r w) ms rows more writes places added cs fixed supers ws knows c = absurd c.plan
first_parts name log m rest base first b t at naming (a_tree p u) (a_tree q v) (an_array w) ms rows more writes places added cs fixed supers ws knows c = absurd c.plan
first_parts name log m rest base first b t at naming (an_array u) (a_tree q v) w ms rows more writes places added cs fixed supers ws knows c = absurd c.named.partly.like.blocks
first_parts name log m rest base first b t at naming (a_tree p u) (an_array v) w ms rows more writes places added cs fixed supers ws knows c = absurd c.named.partly.like.blocks
