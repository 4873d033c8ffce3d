-- An index in which chunks are named, one after another.
use Rattle.std.proofs.Common.{◌≡◌, ◌⊎◌, ℕ, List, [], ◌∷◌, ◌++◌, refl, sym, ◌∙◌, ap, subst, inl, inr, arith}
use Rattle.std.specs.Prelude.{if◌then◌else◌}
use Rattle.std.specs.List.{All}
use Rattle.std.proofs.lemmas.List.Elements.{All-cons, All-nil}
use Rattle.h5w_model.specs.Findings.{Used}
use Rattle.h5w_model.specs.declared.cell.Key.{Key}
use Rattle.h5w_step_laws.specs.Ranges.{Among, chunk_at}
use Rattle.h5w_step_laws.proofs.RangeLemmas.{among_left, among_right, among_split}
use Rattle.h5w_step_laws.proofs.PartLemmas.{count_joined}
use Rattle.h5w_array_laws.specs.Among.{AreAmong}
use Rattle.h5w_array_laws.proofs.AmongLemmas.{part_itself, part_joined, part_onward}
use Rattle.h5w_index.specs.Views.{IndexView, HasSlot, IsSound, address_in, behind_of, is_key}
use Rattle.h5w_index.specs.Told.{IsLike}
use Rattle.h5w_index.proofs.ToldLemmas.{like_laws, set_tells}
use Rattle.h5w_packing_laws.specs.Growing.{AreNamed}

-- the ranges of chunks of so many bytes, by key and address
abbrev pub chunks_of : ℕ → List (Key × ℕ) → List Used
chunks_of bytes [] = []
chunks_of bytes (a ∷ cs) = chunk_at a.1 bytes ∷ chunks_of bytes cs

-- the address of a key once these chunks are named, where it had one before
abbrev pub address_after : IndexView → List (Key × ℕ) → Key → ℕ → ℕ
address_after u [] key old = old
address_after u (a ∷ cs) key old = address_after u cs key (if is_key u a.0 key then a.1 else old)

-- the same where another index takes the same keys for one
same_after : (u w : IndexView) (cs : List (Key × ℕ)) (key : Key) (old : ℕ) → ((k other : Key) → is_key w k other ≡ is_key u k other) → address_after w cs key old ≡ address_after u cs key old
same_after u w [] key old one = refl
same_after u w (a ∷ cs) key old one =
    ap (λ b. address_after w cs key (if b then a.1 else old)) (one a.0 key) ∙ same_after u w cs key (if is_key u a.0 key then a.1 else old) one

-- a range in the middle is among those with it in front
moved_front : (c : Used) (us vs : List Used) → AreAmong (us ++ (c ∷ vs)) (c ∷ (us ++ vs))
moved_front c us vs = record { among = λ u a. go u (among_split u us (c ∷ vs) a); counts = λ p. omega (arith, count_joined p us (c ∷ vs), count_joined p us vs) }
  where
    go : (u : Used) → Among u us ⊎ ((c ≡ u) ⊎ Among u vs) → (c ≡ u) ⊎ Among u (us ++ vs)
    go u (inl b) = inr (among_left u us vs b)
    go u (inr (inl e)) = inl e
    go u (inr (inr b)) = inr (among_right u us vs b)

-- What all of them tell: the index is as it was but for the map, whose keys have these addresses; its ranges are those of before and the
-- chunks', none of them more often; and a place is held for each.
pub record GrownTold (u : IndexView) (cs : List (Key × ℕ)) (v : IndexView) : Type 0 where
  pub like : IsLike u v
  pub map : (key : Key) → address_in v key ≡ address_after u cs key (address_in u key)
  pub behind : (bytes : ℕ) → AreAmong (behind_of bytes v) (chunks_of bytes cs ++ behind_of bytes u)
  pub slots : All (λ (a : Key × ℕ). HasSlot v a.0) cs

pub grown : (u : IndexView) (cs : List (Key × ℕ)) (v : IndexView) → IsSound u → AreNamed u cs v → GrownTold u cs v
grown u [] v is e =
    subst (GrownTold u []) (sym e) (record { like = like_laws.itself u is; map = λ key. refl; behind = λ bytes. part_itself (behind_of bytes u); slots = All-nil (λ (a : Key × ℕ). HasSlot u a.0) })
grown u (a ∷ cs) v is n =
    let first = set_tells a.0 a.1 u n.0 is n.1.defined n.1.sets in
    let like = first.like in
    let rest = grown n.0 cs v like.sound n.2 in
    record {
      like = like_laws.onward u n.0 v like rest.like;
      map = λ key. rest.map key ∙ ap (λ x. address_after n.0 cs key x) (first.map key) ∙ same_after u n.0 cs key (if is_key u a.0 key then a.1 else address_in u key) like.one;
      behind = λ bytes.
          let c : Used = chunk_at a.1 bytes in
          let ranges : List Used = chunks_of bytes cs in
          let old : List Used = behind_of bytes u in
          part_onward (behind_of bytes v) (ranges ++ behind_of bytes n.0) (c ∷ (ranges ++ old)) (rest.behind bytes)
          (part_onward (ranges ++ behind_of bytes n.0) (ranges ++ (c ∷ old)) (c ∷ (ranges ++ old)) (part_joined ranges (behind_of bytes n.0) ranges (c ∷ old) (part_itself ranges) (first.behind bytes)) (moved_front c ranges old));
      slots = All-cons (λ (x : Key × ℕ). HasSlot v x.0) a cs (rest.like.slots a.0 first.slot) rest.slots;
    }
