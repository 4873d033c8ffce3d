-- The bytes of a created file of two datasets.
use Rattle.std.proofs.Common.{◌≡◌, ◌≢◌, ℕ, List, [], ◌∷◌, ◌++◌, get_or, refl, ap, ◌∙◌, arith}
use Rattle.std.specs.Prelude.{map, codes}
use Rattle.h5w_model.specs.Checksum.{mix_line, mixed, finish_line, finished, added, rounds, sum_of}
use Rattle.h5w_model.specs.declared.piece.Write.{Write}
use Rattle.h5w_model.specs.Headers.{prefix_bytes, header_bytes}
use Rattle.h5w_model.specs.Messages.{shape_bytes, int_type_bytes, fill_value_bytes, layout_bytes}
use Rattle.h5w_model.specs.Numbers.{range, num, le, halvings, width_of}
use Rattle.h5w_model.specs.Arrays.{number_bytes}
use Rattle.h5w_examples.specs.Readings.{piece_of}
use Rattle.h5w_creation_laws.specs.CreatedFiles.{IsCreatable, root_place, block_write}
use Rattle.h5w_several_creation_laws.specs.SeveralFiles.{AreCreatable, first_place, end_of, set_at, all_sets, root_bytes, super_block, created_writes}
use Rattle.h5w_several_creation_laws.specs.SeveralExamples.{twos_named, pair, pair_file, eight, AreAsOutside}
use Rattle.h5w_several_creation_laws.proofs.RootLemmas.{root_long}
use Rattle.h5w_several_creation_laws.proofs.OneLemmas.{one_piece}

one_sound : (x : ℕ) → IsCreatable (twos_named (x ∷ []))
one_sound x = record {
  named = omega arith;
  name_bound = omega arith;
  int_type = refl;
  fill = tt;
  some_rows = omega arith;
  rows_bound = omega arith;
  some_cols = omega arith;
  cols_bound = omega arith;
  some_columns = omega arith;
  columns_bound = omega arith;
  small = omega arith;
  shaped = refl;
  line = λ e. refl;
  indexed = refl;
}

differ : (let a : List ℕ = 97 ∷ [] in a) ≢ 98 ∷ []
differ = λ e. absurd (omega (arith, ap (λ (xs : List ℕ). get_or xs 0 0) e))

pair_sound : AreCreatable pair
pair_sound = record {
  some = omega arith;
  few = omega arith;
  each = (one_sound 97, (one_sound 98, tt));
  named = ((differ, tt), (tt, tt));
}

pair_end : end_of pair ≡ 1023
unfolding halvings width_of
pair_end = refl

first_set : map block_write (set_at 119 (twos_named (codes "a"))) ≡ piece_of pair_file 273 298 ∷ piece_of pair_file 201 72 ∷ piece_of pair_file 119 82 ∷ []
unfolding mix_line mixed finish_line finished added rounds sum_of prefix_bytes header_bytes shape_bytes int_type_bytes fill_value_bytes layout_bytes num le halvings width_of number_bytes
first_set = refl

second_set : map block_write (set_at 571 (twos_named (codes "b"))) ≡ piece_of pair_file 725 298 ∷ piece_of pair_file 653 72 ∷ piece_of pair_file 571 82 ∷ []
unfolding mix_line mixed finish_line finished added rounds sum_of prefix_bytes header_bytes shape_bytes int_type_bytes fill_value_bytes layout_bytes num le halvings width_of number_bytes
second_set = refl

pair_root : root_bytes pair ≡ range pair_file 48 71
unfolding mix_line mixed finish_line finished added rounds sum_of prefix_bytes header_bytes shape_bytes int_type_bytes fill_value_bytes layout_bytes num le halvings width_of number_bytes
pair_root = refl

pair_super : block_write (super_block 5 pair) ≡ piece_of pair_file 0 48
unfolding mix_line mixed finish_line finished added rounds sum_of prefix_bytes header_bytes shape_bytes int_type_bytes fill_value_bytes layout_bytes num le halvings width_of number_bytes
pair_super = refl

-- with the root header as one piece
blocks_are : map block_write (all_sets pair) ++ (record { at = root_place; piece = root_bytes pair } ∷ block_write (super_block 5 pair) ∷ [])
    ≡ piece_of pair_file 273 298 ∷ piece_of pair_file 201 72 ∷ piece_of pair_file 119 82 ∷ piece_of pair_file 725 298 ∷ piece_of pair_file 653 72 ∷ piece_of pair_file 571 82
    ∷ piece_of pair_file 48 71 ∷ piece_of pair_file 0 48 ∷ []
unfolding halvings width_of
blocks_are = λ i. first_set i ++ (second_set i ++ (record { at = root_place; piece = pair_root i } ∷ pair_super i ∷ []))

pair_pieces : created_writes pair
    ≡ piece_of pair_file 273 298 ∷ piece_of pair_file 201 72 ∷ piece_of pair_file 119 82 ∷ piece_of pair_file 725 298 ∷ piece_of pair_file 653 72 ∷ piece_of pair_file 571 82
    ∷ piece_of pair_file 48 71 ∷ piece_of pair_file 0 48 ∷ []
pair_pieces =
    let long = root_long pair in
    ap (λ (ws : List Write). map block_write (all_sets pair) ++ (ws ++ block_write (super_block 5 pair) ∷ [])) (one_piece root_place (root_bytes pair) (omega (arith, long)) (omega (arith, long)))
    ∙ blocks_are

eight_first : first_place eight ≡ 720
eight_first = refl

eight_end : end_of eight ≡ 4336
unfolding halvings width_of
eight_end = refl

pub as_outside : AreAsOutside
as_outside = record { pair_sound = pair_sound; pair_end = pair_end; pair_pieces = pair_pieces; eight_first = eight_first; eight_end = eight_end }
