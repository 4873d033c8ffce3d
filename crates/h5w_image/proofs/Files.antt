-- The files of a disk in memory, by name.
use Rattle.std.proofs.Common.{ℕ, ◌≡◌, Bool, true, false, List, [], ◌∷◌, Option, Some, None, cond, sym, refl, ap, ◌∙◌, subst}
use Rattle.std.specs.Prelude.{map, IsSome, Result, Ok, Err, OnErr}
use Rattle.std.specs.Option.{option_copied_mut, option_map, unwrap_or}
use Rattle.std.specs.Borrow.{MutBor}
use Rattle.std.specs.Map.{lookup}
use Rattle.std.specs.Ordering.{nat_cmp, eq_by_cmp}
use Rattle.std.specs.Cmp.Lexicographic.{slice_cmp, nat_list_cmp_total}
use Rattle.std.specs.Cmp.{eq_by_cmp_equiv}
use Rattle.std.specs.FinMap as finite
use Rattle.std.specs.BTreeMap as tree
use Rattle.std.specs.BTreeMap.{BTreeMap, is_at}
use Rattle.std.specs.Str.{bytes_eq}
use Rattle.std.specs.declared.string.String.{String}
use Rattle.std.specs.String.{string_bytes, string_cmp}
use Rattle.std.proofs.lemmas.Map.Text.{btree_map_updates_text, is_eq-slice_cmp}
use Rattle.h5w_image.specs.declared.mem_files.MemFile.{MemFile}
use Rattle.h5w_image.proofs.Names.{equal_of}
use Rattle.h5w_image.specs.NamedFiles.{Named}
use Rattle.h5w_image.specs.MemoryFiles.{of_each}

mapped : {X Y : Type 0} (f : X → Y) (b : Bool) (x : X) (rest : Option X) (others : Option Y) → others ≡ option_map f rest
    → cond b (Some (f x)) others ≡ option_map f (cond b (Some x) rest)
mapped f true x rest others e = refl
mapped f false x rest others e = e

-- what stands under the name q, by the first entry of that name
found : {A X : Type 0} (f : MemFile → X) (q : List ℕ) (entries : List (String A × MemFile))
    → finite.find (slice_cmp nat_cmp) q (map (λ e. (string_bytes e.0, f e.1)) entries) ≡ option_map f (lookup (is_at (λ k. slice_cmp nat_cmp q (string_bytes k))) entries)
found f q [] = refl
found {A} f q (e ∷ es) = mapped f (is_at {K = String A} (λ k. slice_cmp nat_cmp q (string_bytes k)) e.0) e.1 _ _ (found f q es)

pub get-of_each : {A X : Type 0} (f : MemFile → X) (m : BTreeMap (String A) MemFile) (q : List ℕ) → finite.get (of_each f m.entries) q ≡ option_map f (tree.get_by_text m q)
get-of_each f m q = finite.get-from_entries nat_list_cmp_total _ q ∙ found f q m.entries

-- after a change at one name
pub of_each-updates : {A X : Type 0} (f : MemFile → X) (name : List ℕ) (m n : BTreeMap (String A) MemFile) (x : MemFile)
    → tree.UpdatesBy string_cmp (λ k. slice_cmp nat_cmp name (string_bytes k)) m n (Some x)
    → of_each f n.entries ≡ finite.insert (of_each f m.entries) name (f x)
of_each-updates f name m n x up =
    finite.same_map nat_list_cmp_total (finite.slice_cmp-IsAntisymmetric finite.nat_cmp-IsAntisymmetric) _ _
    (λ q.
    get-of_each f n q
    ∙ ap (option_map f) (btree_map_updates_text name m n (Some x) up q)
    ∙ sym (mapped f (bytes_eq name q) x (tree.get_by_text m q) (finite.get (of_each f m.entries) q) (get-of_each f m q))
    ∙ ap (λ b. cond b (Some (f x)) (finite.get (of_each f m.entries) q)) (sym (is_eq-slice_cmp name q) ∙ (eq_by_cmp_equiv nat_list_cmp_total).symm name q)
    ∙ sym (finite.get-insert nat_list_cmp_total (of_each f m.entries) name (f x) q))

-- a name that stands among the files
pub there : {A X : Type 0} (f : MemFile → X) (m : BTreeMap (String A) MemFile) (q : List ℕ) (v : Named X) → of_each f m.entries ≡ v
    → IsSome (finite.get v q) → IsSome (tree.get_by_text m q)
there f m q v is some = from_map (tree.get_by_text m q) (subst (λ o. IsSome o) (ap (λ w. finite.get w q) (sym is) ∙ get-of_each f m q) some)
  where
    from_map : (o : Option MemFile) → IsSome (option_map f o) → IsSome o
    from_map None h = h
    from_map (Some x) h = h

-- what stands under a name
pub value_there : {A X : Type 0} (f : MemFile → X) (m : BTreeMap (String A) MemFile) (q : List ℕ) (v : Named X) (x : MemFile) (d : X)
    → of_each f m.entries ≡ v → Some x ≡ tree.get_by_text m q → unwrap_or (finite.get v q) d ≡ f x
value_there f m q v x d is e = ap (λ o. unwrap_or o d) (ap (λ w. finite.get w q) (sym is) ∙ get-of_each f m q ∙ ap (option_map f) (sym e))

pub some_lent : {X : Type 0} (r : Option (MutBor X)) (o : Option X) → option_copied_mut r ≡ o → IsSome o → IsSome r
some_lent None o e h = subst (λ x. IsSome x) (sym e) h
some_lent (Some r) o e h = refl

-- an entry whose value does not change under f
pub of_each-kept : {A X : Type 0} (f : MemFile → X) (name : List ℕ) (m n : BTreeMap (String A) MemFile) (x : MemFile)
    → tree.UpdatesBy string_cmp (λ k. slice_cmp nat_cmp name (string_bytes k)) m n (Some x)
    → option_map f (tree.get_by_text m name) ≡ Some (f x)
    → of_each f n.entries ≡ of_each f m.entries
of_each-kept f name m n x up same =
    of_each-updates f name m n x up
    ∙ finite.same_map nat_list_cmp_total (finite.slice_cmp-IsAntisymmetric finite.nat_cmp-IsAntisymmetric) _ _
    (λ q. finite.get-insert nat_list_cmp_total (of_each f m.entries) name (f x) q ∙ kept q (eq_by_cmp (slice_cmp nat_cmp) q name) refl)
  where
    kept : (q : List ℕ) (b : Bool) → eq_by_cmp (slice_cmp nat_cmp) q name ≡ b → cond b (Some (f x)) (finite.get (of_each f m.entries) q) ≡ finite.get (of_each f m.entries) q
    kept q true e =
        sym same ∙ sym (get-of_each f m name) ∙ finite.get_tied nat_list_cmp_total (of_each f m.entries) q name (equal_of (slice_cmp nat_cmp q name) e)
    kept q false e = refl

-- a fact that holds anyway
pub at_error : {T E : Type 0} (r : Result T E) {P : Type 0} → P → OnErr r P
at_error (Ok x) p = tt
at_error (Err e) p = p
