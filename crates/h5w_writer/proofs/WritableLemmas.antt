-- Chunk 0 of a dataset header can be written again with its rows, and again.
use Rattle.std.proofs.Common.{◌≡◌, ℕ, ◌+◌, ◌≤◌, ◌==◌, ◌&&◌, Bool, true, false, cond, List, length, Option, Result, None, Some, Ok, IsSome, refl, ap, sym, ◌∙◌, subst, arith}
use Rattle.std.specs.Option.{option_map}
use Rattle.std.specs.Prelude.{find, option_and_then}
use Rattle.h5w_model.specs.Datasets.{dataspace_kind, layout_kind}
use Rattle.h5w_model.specs.Headers.{index_address_place, index_in_data, index_in_header, messages_at, with_number, with_rows_bytes}
use Rattle.h5w_model.specs.declared.message.Msg.{Msg}
use Rattle.h5w_model.specs.declared.refusal.HeaderError.{HeaderError}
use Rattle.h5w_step_laws.specs.Commits.{IsIndexWritten, renumbered, with_index_in, with_rows_in}
use Rattle.h5w_step_laws.proofs.ChunkLemmas.{find_map, find_other, renumbered_kinds}
use Rattle.h5w_step_laws.proofs.CommitLaws.{index_place_is, index_there, index_written, rows_written, the_data}
use Rattle.h5w_model.proofs.HeaderLemmas.{length-with_number, messages_at-ok}
use Rattle.h5w_writer.specs.Sessions.{HasAddress, IsWritable}

renumbered_long : (kind at k v : ℕ) (m : Msg) (test : Bool) → k + 8 ≤ length m.body → length (cond test (record m { body = with_number m.body k v }) m).body ≡ length m.body
renumbered_long kind at k v m true long = length-with_number m.body k v long
renumbered_long kind at k v m false long = refl

pub writable_again : (b : List ℕ) (rows : ℕ) → IsWritable b → IsWritable (with_rows_bytes b rows None)
writable_again b rows w =
    let new = rows_written b w.list w.space rows w.read w.first w.long in
    let change = renumbered dataspace_kind w.space.at 4 rows in
    let same : length (change w.space).body ≡ length w.space.body =
    renumbered_long dataspace_kind w.space.at 4 rows w.space ((w.space.kind == dataspace_kind) && (w.space.at == w.space.at)) (omega (arith, w.long)) in
    record {
      some = omega (arith, new.committed.size, w.some);
      list = with_rows_in w.space rows w.list;
      space = change w.space;
      read = new.committed.messages;
      first = find_map change dataspace_kind w.list (renumbered_kinds dataspace_kind w.space.at 4 rows) ∙ ap (option_map change) w.first;
      long = omega (arith, same, w.long);
    }

pub written_length : (b : List ℕ) (rows : ℕ) → IsWritable b → length (with_rows_bytes b rows None) ≡ length b
written_length b rows w = (rows_written b w.list w.space rows w.read w.first w.long).committed.size

-- ---- With an index address

same_list : (b : List ℕ) (xs ys : List Msg) → messages_at b ≡ Ok xs → messages_at b ≡ Ok ys → xs ≡ ys
same_list b xs ys one two = let same : ◌≡◌ {A = Result (List Msg) HeaderError} (Ok xs) (Ok ys) = sym one ∙ two in cc

-- an index address has its place
pub has_address : (b : List ℕ) → HasAddress b → IsSome (index_in_header b)
has_address b a =
    let h = messages_at-ok b a.list a.read in
    subst (λ (o : Option ℕ). IsSome o)
    (sym (index_place_is b h.0 a.list h.1.header a.read ∙ ap (λ o. option_and_then index_in_data (option_map (the_data h.0) o)) a.first ∙ index_there h.0 a.layout a.room)) refl

module _ (b : List ℕ) (rows at : ℕ) (w : IsWritable b) (a : HasAddress b) where
  laid : find (λ (m : Msg). m.kind == layout_kind) w.list ≡ Some a.layout
  laid = subst (λ (ms : List Msg). find (λ (m : Msg). m.kind == layout_kind) ms ≡ Some a.layout) (same_list b a.list w.list a.read w.read) a.first

  new : IsIndexWritten b (with_rows_bytes b rows (Some at)) (with_index_in a.layout at (with_rows_in w.space rows w.list))
  new = index_written b w.list w.space a.layout rows at w.read w.first w.long laid a.room

  pub named_length : length (with_rows_bytes b rows (Some at)) ≡ length b
  named_length = new.committed.size

  pub named_writable : IsWritable (with_rows_bytes b rows (Some at))
  named_writable =
      let change = renumbered dataspace_kind w.space.at 4 rows in
      let lay = renumbered layout_kind a.layout.at (index_address_place a.layout.body) at in
      let same : length (change w.space).body ≡ length w.space.body =
      renumbered_long dataspace_kind w.space.at 4 rows w.space ((w.space.kind == dataspace_kind) && (w.space.at == w.space.at)) (omega (arith, w.long)) in
      let first : find (λ (m : Msg). m.kind == dataspace_kind) (with_rows_in w.space rows w.list) ≡ Some (change w.space) =
      find_map change dataspace_kind w.list (renumbered_kinds dataspace_kind w.space.at 4 rows) ∙ ap (option_map change) w.first in
      record {
        some = omega (arith, new.committed.size, w.some);
        list = with_index_in a.layout at (with_rows_in w.space rows w.list);
        space = change w.space;
        read = new.committed.messages;
        first = find_other layout_kind a.layout.at (index_address_place a.layout.body) at dataspace_kind (with_rows_in w.space rows w.list) (λ e. absurd (omega (arith, e))) ∙ first;
        long = omega (arith, same, w.long);
      }
