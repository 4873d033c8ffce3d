-- All pieces of a first flush in their order.
use Rattle.std.proofs.Common.{◌≡◌, ℕ, List, [], ◌∷◌, ◌++◌, length, Option, Some, None, append_assoc, append-nil, length-append, refl, sym, ◌∙◌, ap, subst, arith}
use Rattle.h5w_model.specs.declared.piece.Write.{Write}
use Rattle.h5w_pieces.specs.Joined.{AreJoined}

-- the last block in place comes behind the superblock
pub joined_behind : (rows copies front fixed supers : List Write) (top header : Write) (ws : List Write) → fixed ≡ front ++ top ∷ [] → ws ≡ rows ++ (copies ++ (front ++ (supers ++ top ∷ header ∷ []))) → AreJoined None rows copies fixed supers header ws
joined_behind rows copies front fixed supers top header ws split is = record {
  front = front;
  behind = top ∷ [];
  cut = sym split;
  unnamed = λ some. absurd cc;
  named = λ none. omega (arith, ap length split, length-append front (top ∷ []));
  all = is;
}

-- where there is none the superblock comes behind the copies
pub joined_alone : (rows copies fixed supers : List Write) (header : Write) (before ws : List Write) → length fixed ≡ 0 → before ≡ rows ++ copies → ws ≡ before ++ (supers ++ header ∷ []) → AreJoined None rows copies fixed supers header ws
joined_alone rows copies [] supers header before ws none split is = record {
  front = [];
  behind = [];
  cut = refl;
  unnamed = λ some. refl;
  named = λ none. refl;
  all = is ∙ ap (λ (vs : List Write). vs ++ (supers ++ header ∷ [])) split ∙ append_assoc rows copies (supers ++ header ∷ []);
}
joined_alone rows copies (w ∷ fixed) supers header before ws none split is = absurd (omega (arith, none))

-- where the dataset header names the index the superblock comes behind all blocks in place
pub joined_start : (naming : Option ℕ) (n : ℕ) (rows copies fixed supers : List Write) (header : Write) (ws : List Write) → naming ≡ Some n → ws ≡ rows ++ (copies ++ (fixed ++ (supers ++ header ∷ []))) → AreJoined naming rows copies fixed supers header ws
joined_start naming n rows copies fixed supers header ws named is =
    subst (λ (o : Option ℕ). AreJoined o rows copies fixed supers header ws) (sym named) (record {
      front = fixed;
      behind = [];
      cut = append-nil fixed;
      unnamed = λ some. refl;
      named = λ none. absurd cc;
      all = is;
    })
