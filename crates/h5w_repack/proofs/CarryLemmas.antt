-- How pieces that were carried to a new file compose.
use Rattle.std.proofs.Common.{◌≡◌, ℕ, List, [], ◌∷◌, ◌++◌, Option, Some, None, refl, sym, ap, ap₂, ◌∙◌}
use Rattle.std.specs.Prelude.{option_map}
use Rattle.std.proofs.lemmas.List.{map-append}
use Rattle.h5w_model.specs.declared.piece.Write.{Write}
use Rattle.h5w_image.specs.View.{DiskState, Looked, Same, put}
use Rattle.h5w_image.proofs.ViewLemmas.{looked_itself, looked_twice, same_itself, wrote_more, wrote_nothing}
use Rattle.h5w_repack.specs.Pairs.{PairView, PutsOne}
use Rattle.h5w_repack.specs.Copies.{Carries, put_each}

abbrev write_in : Write × ℕ → Write
write_in p = p.0

none_put : (name : List ℕ) (t : Option DiskState) → t ≡ option_map (put_each name []) t
none_put name None = refl
none_put name (Some d) = refl

put_both : (name : List ℕ) (ps qs : List (Write × ℕ)) (d : DiskState) → put_each name (ps ++ qs) d ≡ put_each name qs (put_each name ps d)
put_both name [] qs d = refl
put_both name (p ∷ ps) qs d = put_both name ps qs (put name p.0 p.1 d)

puts_both : (name : List ℕ) (ps qs : List (Write × ℕ)) (t : Option DiskState) → option_map (put_each name qs) (option_map (put_each name ps) t) ≡ option_map (put_each name (ps ++ qs)) t
puts_both name ps qs None = refl
puts_both name ps qs (Some d) = ap Some (sym (put_both name ps qs d))

-- nothing was done
pub carries_nothing : {u v : PairView} → Looked u.from v.from → v.name ≡ u.name → Same u.to v.to → Carries [] u v
carries_nothing {u} {v} looked name same = record {
  from = looked;
  name = name;
  wrote = wrote_nothing same;
  puts = [];
  are = refl;
  disk = same.disk ∙ none_put u.name u.to.disk;
}

pub carries_itself : (u : PairView) → Carries [] u u
carries_itself u = carries_nothing {u = u} {v = u} (looked_itself u.from) refl (same_itself u.to)

-- one piece was written
pub carries_one : {u v : PairView} (w : Write) → Looked u.from v.from → v.name ≡ u.name → PutsOne u.name w u.to v.to → Carries (w ∷ []) u v
carries_one {u} {v} w looked name put = record {
  from = looked;
  name = name;
  wrote = put.wrote;
  puts = (w, u.to.faults) ∷ [];
  are = refl;
  disk = put.disk;
}

-- some, and then more
pub carries_more : {u v w : PairView} (ws vs : List Write) → Carries ws u v → Carries vs v w → Carries (ws ++ vs) u w
carries_more {u} {v} {w} ws vs p q = record {
  from = looked_twice p.from q.from;
  name = q.name ∙ p.name;
  wrote = wrote_more ws vs p.wrote q.wrote;
  puts = p.puts ++ q.puts;
  are = map-append write_in p.puts q.puts ∙ ap₂ (λ (x y : List Write). x ++ y) p.are q.are;
  disk = q.disk ∙ ap (λ name. option_map (put_each name q.puts) v.to.disk) p.name ∙ ap (option_map (put_each u.name q.puts)) p.disk ∙ puts_both u.name p.puts q.puts u.to.disk;
}
