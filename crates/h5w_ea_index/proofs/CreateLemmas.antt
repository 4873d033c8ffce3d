-- The store of a new array.
use Rattle.std.proofs.Common.{◌≡◌, ℕ, zero, suc, ◌+◌, ◌-◌, ◌*◌, ◌^◌, ◌<◌, ◌≤◌, List, [], ◌∷◌, ◌++◌, length, take, get_or, replicate, refl, sym, ap, subst, ◌∙◌, arith, length-take}
use Rattle.std.proofs.lemmas.List.{length-replicate, length-set, get_or-set_same, get_or-set_other}
use Rattle.std.proofs.lemmas.List.Elements.{All-nil, All-cons}
use Rattle.std.specs.Prelude.{Some, None}
use Rattle.h5w_model.specs.Numbers.{undefined}
use Rattle.h5w_cache.specs.Blocks.{BlockView, AreInside}
use Rattle.h5w_cache.specs.Stores.{Store, block_of, place_of, grown, no_blocks, kept_under}
use Rattle.h5w_cache.specs.declared.block.Link.{Link}
use Rattle.h5w_array_laws.specs.ArrayStores.{IsCreated, created_header, created_index}
use Rattle.h5w_array_laws.specs.ArrayImages.{StartsArray}
use Rattle.h5w_array_laws.proofs.CreatedLemmas.{created_starts}
use Rattle.h5w_ea_index.specs.Created.{IsBare, Keeps, links_to}
use Rattle.h5w_ea_index.proofs.StoreLemmas.{set-same, set-other}

pub created_from : (at place numbers : ℕ) (top index : BlockView) (v u w : Store) → numbers ≡ 847 → IsBare numbers v → index ≡ created_index at → top ≡ created_header place → Keeps 845 index place v u → Keeps 846 top at u w → IsCreated at place w
created_from at place numbers top index v u w count bare ei et a b =
    let other = b.others 845 (λ e. absurd (omega (arith, e))) in
    record {
      count = b.count ∙ a.count ∙ bare.count ∙ count;
      each_place = b.each_place ∙ a.each_place ∙ bare.each_place ∙ count;
      has_header = b.here ∙ ap (λ x. Some x) et;
      has_index = other.0 ∙ a.here ∙ ap (λ x. Some x) ei;
      header_at = b.place;
      index_at = other.1 ∙ a.place;
      none = λ n nh ni. ((b.others n nh).0 ∙ (a.others n ni).0 ∙ bare.none n, (b.others n nh).1 ∙ (a.others n ni).1 ∙ bare.unplaced n);
      changed = b.changed ∙ a.changed ∙ bare.changed;
    }

pub starts_from : (at place : ℕ) (w : Store) → IsCreated at place w → at + 72 < 2 ^ 64 → place + 298 < 2 ^ 64 → StartsArray w
starts_from at place w c h i = created_starts at place w c (let a : at < 2 ^ 64 - 1 = omega arith in a) (let a : place < 2 ^ 64 - 1 = omega arith in a)

-- ---- Links

pub links_to-push : (p : ℕ) (ns : List ℕ) (n : ℕ) → links_to p (ns ++ n ∷ []) ≡ links_to p ns ++ record { offset = p + 8 * length ns; child = n } ∷ []
links_to-push p [] n = let e : p ≡ p + 8 * 0 = omega arith in ap (λ o. record { offset = o; child = n } ∷ []) e
links_to-push p (x ∷ ns) n =
    let e : p + 8 + 8 * length ns ≡ p + 8 * suc (length ns) = omega arith in
    ap (λ l. record { offset = p; child = x } ∷ l) (links_to-push (p + 8) ns n ∙ ap (λ o. links_to (p + 8) ns ++ record { offset = o; child = n } ∷ []) e)

take-more : (ns : List ℕ) (i d : ℕ) → i < length ns → take (i + 1) ns ≡ take i ns ++ get_or ns i d ∷ []
take-more [] i d h = absurd (omega arith)
take-more (n ∷ ns) zero d h = refl
take-more (n ∷ ns) (suc i) d h = let e : suc i + 1 ≡ suc (i + 1) = omega arith in ap (λ k. take k (n ∷ ns)) e ∙ ap (λ l. n ∷ l) (take-more ns i d (omega arith))

pub links_more : (p i d : ℕ) (ns : List ℕ) (before after : List Link) → i < length ns → before ≡ links_to p (take i ns) → after ≡ before ++ record { offset = p + 8 * i; child = get_or ns i d } ∷ [] → after ≡ links_to p (take (i + 1) ns)
links_more p i d ns before after lt e f =
    let l : length (take i ns) ≡ i = (let t = length-take i ns in omega arith) in
    f ∙ ap (λ xs. xs ++ record { offset = p + 8 * i; child = get_or ns i d } ∷ []) e
    ∙ sym (ap (links_to p) (take-more ns i d lt) ∙ links_to-push p (take i ns) (get_or ns i d) ∙ ap (λ k. links_to p (take i ns) ++ record { offset = p + 8 * k; child = get_or ns i d } ∷ []) l)

pub links_to-inside : (p : ℕ) (ns : List ℕ) (n : ℕ) → p + 8 * length ns ≤ n → AreInside (links_to p ns) n
links_to-inside p [] n h = All-nil (λ (l : Link). l.offset + 8 ≤ n)
links_to-inside p (x ∷ ns) n h = All-cons (λ (l : Link). l.offset + 8 ≤ n) (record { offset = p; child = x }) (links_to (p + 8) ns) (omega arith) (links_to-inside (p + 8) ns n (omega arith))

pub links_fit : (p : ℕ) (ns bytes : List ℕ) (links : List Link) (n : ℕ) → links ≡ links_to p ns → length bytes ≡ n → p + 8 * length ns ≤ n → AreInside links (length bytes)
links_fit p ns bytes links n e len h = subst (λ ls. AreInside ls (length bytes)) (sym e) (subst (AreInside (links_to p ns)) (sym len) (links_to-inside p ns n h))
