-- What is found on an image where all nodes of a tree stand.
use Rattle.std.proofs.Common.{◌≡◌, ℕ, zero, suc, ◌+◌, List, [], ◌∷◌, ◌++◌, length, map, Result, Ok, refl, sym, ap, subst, ◌∙◌, arith, Option}
use Rattle.std.specs.Option.{unwrap_or}
use Rattle.std.specs.List.{All}
use Rattle.std.proofs.lemmas.Bool.{cond-true, cond-false}
use Rattle.std.proofs.lemmas.List.{length-map}
use Rattle.std.proofs.lemmas.List.Elements.{All-cons, All-head, All-nil, All-tail}
use Rattle.h5w_model.specs.Numbers.{range, undefined}
use Rattle.h5w_model.specs.Programs.{Prog, eval}
use Rattle.h5w_model.specs.Trees.{RecordFields, ChildFields, BtinFields, capacity_of, btlf_at, btlf_len, btin_at, btin_len}
use Rattle.h5w_model.specs.Datasets.{refused_as}
use Rattle.h5w_model.specs.Tables.{in_leaf, in_node, tree_lookup, key_below, key_equal}
use Rattle.h5w_model.specs.declared.cell.Key.{Key}
use Rattle.h5w_model.specs.declared.refusal.ReadError.{ReadError}
use Rattle.h5w_model.specs.declared.refusal.ReadError.TheVariants.{Damaged}
use Rattle.h5w_laws.proofs.ResultLemmas.{then_from, choice_from}
use Rattle.h5w_laws.proofs.SlotLemmas.{refused_from}
use Rattle.h5w_bt.specs.declared.records.Record.{Record}
use Rattle.h5w_bt.specs.Parts.{record_of}
use Rattle.h5w_bt.proofs.KeyLemmas.{equal-is}
use Rattle.h5w_bt_nodes.specs.Nodes.{Tree, all_records, records_of, joined, address_in}
use Rattle.h5w_bt_index.specs.Sound.{IsRising, IsSound}
use Rattle.h5w_bt_nodes.specs.Blocks.{node_of, place_of, pointer_of}
use Rattle.h5w_tree_index_laws.specs.TreeImages.{AllStand}
use Rattle.h5w_bt_nodes.proofs.Records.{under, here, past, side, in-under, in-here}
use Rattle.h5w_bt_index.proofs.Rising.{in-behind, in-before, below_all, rises-around, AreBelow}
use Rattle.h5w_bt_nodes.proofs.Places.{All-each}
use Rattle.h5w_bt_index.proofs.Joined.{joined-each_rises}
use Rattle.h5w_bt_index.proofs.Laws.{in_leaf-is}

-- ---- A lookup

abbrev pub address_ok : ℕ → Result ℕ ReadError
address_ok a = Ok a

-- what each child gives
abbrev pub EachGives : {C : Type 0} → List ℕ → (C → ChildFields) → (C → List Record) → (ChildFields → Prog (Result ℕ ReadError)) → Key → C → Type 0
EachGives img ptr below_it go key c = eval img (go (ptr c)) ≡ Ok (in_leaf key (map record_of (below_it c)))

leaf_said : (key : Key) (rs ss : List Record) → address_in key rs ≡ address_in key ss → in_leaf key (map record_of rs) ≡ in_leaf key (map record_of ss)
leaf_said key rs ss e = in_leaf-is key rs ∙ ap (λ (o : Option ℕ). unwrap_or o undefined) e ∙ sym (in_leaf-is key ss)

pub node_gives : {C : Type 0} (img : List ℕ) (ptr : C → ChildFields) (below_it : C → List Record) (go : ChildFields → Prog (Result ℕ ReadError)) (key : Key) (rs : List Record) (cs : List C) → length cs ≡ length rs + 1
    → IsRising (joined rs (map below_it cs)) → All (EachGives img ptr below_it go key) cs → eval img (in_node go key (map record_of rs) (map ptr cs)) ≡ Ok (in_leaf key (map record_of (joined rs (map below_it cs))))
node_gives img ptr below_it go key [] [] n h all = absurd (omega arith)
node_gives img ptr below_it go key [] (c ∷ cs) n h all = All-head (EachGives img ptr below_it go key) c cs all
node_gives img ptr below_it go key (r ∷ rs) [] n h all = absurd (omega arith)
node_gives img ptr below_it go key (r ∷ rs) (c ∷ cs) n h all =
    let p = rises-around (below_it c) r (joined rs (map below_it cs)) h in
    let rest : List Record = joined rs (map below_it cs) in
    let whole : List Record = below_it c ++ r ∷ rest in
    elim (side r.key key) [
      | under u ↦
          ap (eval img) (cond-true (key_below r.key key) _ _ u)
          ∙ node_gives img ptr below_it go key rs cs (omega (arith, n)) p.behind (All-tail (EachGives img ptr below_it go key) c cs all)
          ∙ ap address_ok (leaf_said key rest whole (sym (in-behind key (below_it c) (r ∷ rest) (below_all r.key key (below_it c) u p.below) ∙ in-under key r rest u)))
      | here u f ↦
          ap (eval img) (cond-false (key_below r.key key) _ _ u ∙ cond-true (key_equal r.key key) _ _ f)
          ∙ ap address_ok (sym (in_leaf-is key whole ∙ ap (λ (o : Option ℕ). unwrap_or o undefined) (in-behind key (below_it c) (r ∷ rest) (subst (λ (k : Key). AreBelow k (below_it c)) (equal-is r.key key f) p.below) ∙ in-here key r rest u f)))
      | past u f ↦
          ap (eval img) (cond-false (key_below r.key key) _ _ u ∙ cond-false (key_equal r.key key) _ _ f)
          ∙ All-head (EachGives img ptr below_it go key) c cs all
          ∙ ap address_ok (leaf_said key (below_it c) whole (sym (in-before key r (below_it c) rest u f)))
    ]

-- what holds of each, with another fact of each
pub all_two : {A : Type 0} (P Q R : A → Type 0) (xs : List A) → ((x : A) → P x → Q x → R x) → All P xs → All Q xs → All R xs
all_two P Q R [] f p q = All-nil R
all_two P Q R (x ∷ xs) f p q = All-cons R x xs (f x (All-head P x xs p) (All-head Q x xs q)) (all_two P Q R xs f (All-tail P x xs p) (All-tail Q x xs q))

pub all_mapped : {A B : Type 0} (P : B → Type 0) (f : A → B) (xs : List A) → All P (map f xs) → All (λ (x : A). P (f x)) xs
all_mapped P f [] h = All-nil (λ x. P (f x))
all_mapped P f (x ∷ xs) h = All-cons (λ x. P (f x)) x xs (All-head P (f x) (map f xs) h) (all_mapped P f xs (All-tail P (f x) (map f xs) h))

-- a tree that rises, is sound, and stands
pub record Good (img : List ℕ) (d : ℕ) (t : Tree d) : Type 0 where
  pub sound : IsSound d (capacity_of d) t
  pub rises : IsRising (all_records d t)
  pub stands : AllStand img d t

pub good_children : (img : List ℕ) (d : ℕ) (t : Tree (suc d)) → Good img (suc d) t → All (Good img d) t.children
good_children img d t g =
    let rising : All (λ (c : Tree d). IsRising (all_records d c)) t.children = all_mapped IsRising (all_records d) t.children (joined-each_rises t.records (map (all_records d) t.children) (length-map t.children (all_records d) ∙ g.sound.children) g.rises) in
    let both : All (λ (c : Tree d). IsSound d (capacity_of d) c × IsRising (all_records d c)) t.children = all_two (IsSound d (capacity_of d)) (λ (c : Tree d). IsRising (all_records d c)) (λ (c : Tree d). IsSound d (capacity_of d) c × IsRising (all_records d c)) t.children (λ c p q. (p, q)) g.sound.each rising in
    all_two (λ (c : Tree d). IsSound d (capacity_of d) c × IsRising (all_records d c)) (AllStand img d) (Good img d) t.children (λ c p q. record { sound = p.0; rises = p.1; stands = q }) both g.stands.1

pub lookup_gives : (img : List ℕ) (d : ℕ) (t : Tree d) (key : Key) → Good img d t → eval img (tree_lookup d key (place_of d t) (length (records_of d t))) ≡ Ok (in_leaf key (map record_of (all_records d t)))
lookup_gives img zero t key g =
    let rs : List RecordFields = map record_of t.records in
    then_from (refused_as (Damaged t.place) (btlf_at (range img t.place (btlf_len (length t.records))) t.place (length t.records))) (λ rs. address_ok (in_leaf key rs)) rs (in_leaf key rs)
    (refused_from (Damaged t.place) (btlf_at (range img t.place (btlf_len (length t.records))) t.place (length t.records)) rs g.stands.reads) refl
lookup_gives img (suc d) t key g =
    let go : ChildFields → Prog (Result ℕ ReadError) = λ c. tree_lookup d key c.address c.records in
    choice_from img (btin_at (range img t.place (btin_len (length t.records) (suc d))) t.place (length t.records) (suc d)) (λ (v : BtinFields). in_node go key v.records v.children) (Damaged t.place) (node_of d t) (in_leaf key (map record_of (all_records (suc d) t)))
    (g.stands.0).reads
    (node_gives img (pointer_of d) (all_records d) go key t.records t.children g.sound.children g.rises (All-each (Good img d) (EachGives img (pointer_of d) (all_records d) go key) (λ c h. lookup_gives img d c key h) t.children (good_children img d t g)))
