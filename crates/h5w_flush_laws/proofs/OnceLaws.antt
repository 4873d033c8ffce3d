-- In a file no two keys have one chunk.
use Rattle.std.proofs.Common.{◌≡◌, ◌⊎◌, ℕ, Bool, true, false, cond, List, Result, Ok, refl, sym, ◌∙◌, ap, subst, inl, inr, arith}
use Rattle.std.specs.Prelude.{◌==◌}
use Rattle.std.proofs.lemmas.Bool.Decides.{eqb_tells}
use Rattle.h5w_model.specs.Numbers.{undefined}
use Rattle.h5w_model.specs.Programs.{Prog, ret, eval}
use Rattle.h5w_model.specs.Arrays.{EaibFields}
use Rattle.h5w_model.specs.Trees.{BthdFields}
use Rattle.h5w_model.specs.Datasets.{Described}
use Rattle.h5w_model.specs.Tables.{InPlace, nowhere, in_array, in_tree, in_place, array_in_place, tree_in_place, tree_lookup}
use Rattle.h5w_model.specs.Findings.{Used, Under, Finding, chunk_bytes, node_visit}
use Rattle.h5w_model.specs.declared.cell.Key.{Key}
use Rattle.h5w_model.specs.declared.cell.IndexKind.{IndexKind}
use Rattle.h5w_model.specs.declared.cell.IndexKind.TheVariants.{Array, Tree}
use Rattle.h5w_model.specs.declared.refusal.ReadError.{ReadError}
use Rattle.h5w_chunks.proofs.KeyLemmas.{array_keys}
use Rattle.h5w_laws.proofs.ResultLemmas.{and_then_ok}
use Rattle.h5w_laws.proofs.EndLemmas.{same_ranges}
use Rattle.h5w_step_laws.specs.Ranges.{Disjoint, chunk_at}
use Rattle.h5w_step_laws.specs.Indexes.{behind_visit}
use Rattle.h5w_step_laws.proofs.IndexVisits.{tree_read}
use Rattle.h5w_step_laws.proofs.MomentLemmas.{parts_of}
use Rattle.h5w_flush_laws.specs.Knowledge.{AnswersBy, FileOnce}
use Rattle.h5w_flush_laws.proofs.KnownLaws.{answers_of}
use Rattle.h5w_flush_laws.proofs.OnceArrays.{Sep, Always, answer, address_in, array_once, twice_never}
use Rattle.h5w_flush_laws.proofs.OnceTrees.{node_apart}

-- ---- The kind of index that blocks in place are of

array_kind : (img : List ℕ) (d : Described) (e : EaibFields) → eval img (in_place d) ≡ Ok (in_array e) → d.layout.index ≡ Array
array_kind img d e h = by (d.layout.address == undefined) d.layout.index h
  where
    of_tree : (t : BthdFields) (b : Bool) → cond b nowhere (in_tree t) ≡ in_array e → ⊥
    of_tree t true x = cc
    of_tree t false x = cc

    by : (b : Bool) (kind : IndexKind) → eval img (cond b (ret (Ok nowhere)) (elim kind as (λ _. Prog (Result InPlace ReadError)) [ Array ↦ array_in_place d.layout.address | Tree ↦ tree_in_place d.layout.address ])) ≡ Ok (in_array e) → kind ≡ Array
    by true kind x = absurd (never x)
      where
        never : ◌≡◌ {A = Result InPlace ReadError} (Ok nowhere) (Ok (in_array e)) → ⊥
        never y = cc
    by false Array x = refl
    by false Tree x = let t = tree_read img d.layout.address (in_array e) x in absurd (of_tree t.0 (t.0.root == undefined) t.2)

-- ---- No two keys have one chunk

same_parts : (k l : Key) → l.i ≡ k.i → l.j ≡ k.j → l ≡ k
same_parts k l row column = λ i. record { i = row i; j = column i }

pub file_once : FileOnce
file_once img name m f r x k l a b defined same = go r.index.blocks r.index.read r.index.stands (answers_of img m.super.end m.dataset m.fixed m.behind f r.index x)
  where
    apart : Disjoint m.behind
    apart = (parts_of m r.apart).behind

    ok_is : (y z : ℕ) → ◌≡◌ {A = Result ℕ ReadError} (Ok y) (Ok z) → y ≡ z
    ok_is y z e = cc

    keys_differ : (p q : Key) → (p ≡ q → ⊥) ⊎ (p ≡ q)
    keys_differ p q = elim (eqb_tells p.i q.i) [
      | inl s ↦ elim (eqb_tells p.j q.j) [ inl t ↦ inr (same_parts q p s.1 t.1) | inr t ↦ inl (λ e. t.1 (ap (λ (y : Key). y.j) e)) ]
      | inr s ↦ inl (λ e. s.1 (ap (λ (y : Key). y.i) e))
    ]

    go : (p : InPlace) → eval img (in_place m.dataset) ≡ Ok p → eval img (behind_visit m.super.end (chunk_bytes m.dataset) p) ≡ Ok m.behind → AnswersBy img m.dataset p f → l ≡ k
    go nowhere read stands answers = absurd (defined (sym (ok_is undefined (f k) (answers k a.named))))
    go (in_array e) read stands answers =
        let kind = array_kind img m.dataset e read in
        let one = array_keys m.dataset kind in
        let row : l.i ≡ k.i = array_once img m.super.end (chunk_bytes m.dataset) e m.behind apart stands k.i l.i (f k) (a.named kind) (b.named kind) defined (answers k a.named) (answers l b.named ∙ ap Ok same) in
        same_parts k l row (omega (arith, a.across, b.across, one))
    go (in_tree t) read stands answers = by (keys_differ l k)
      where
        ranges : Under → Result (List Used) Finding
        ranges u = Ok u.ranges

        step : (u : Under) × (eval img (node_visit m.super.end (chunk_bytes m.dataset) t.depth t.root t.records) ≡ Ok u) × (eval img (ret (ranges u)) ≡ Ok m.behind)
        step = and_then_ok img (node_visit m.super.end (chunk_bytes m.dataset) t.depth t.root t.records) (λ u. ret (ranges u)) m.behind stands

        s : Sep {K = Key} (chunk_bytes m.dataset) m.behind Always (λ key. answer img (tree_lookup t.depth key t.root t.records))
        s = subst (λ (us : List Used). Sep {K = Key} (chunk_bytes m.dataset) us Always (λ key. answer img (tree_lookup t.depth key t.root t.records))) (same_ranges step.0.ranges m.behind step.2)
            (node_apart img m.super.end (chunk_bytes m.dataset) t.depth t.root t.records step.0 step.1)

        by : (l ≡ k → ⊥) ⊎ (l ≡ k) → l ≡ k
        by (inr e) = e
        by (inl differ) =
            let one : answer img (tree_lookup t.depth k t.root t.records) ≡ f k = ap address_in (answers k a.named) in
            let two : answer img (tree_lookup t.depth l t.root t.records) ≡ f l = ap address_in (answers l b.named) in
            absurd (twice_never (chunk_at (answer img (tree_lookup t.depth k t.root t.records)) (chunk_bytes m.dataset)) m.behind apart
            (s.twice k l tt tt (λ e. differ (sym e)) (λ none. defined (sym one ∙ none)) (two ∙ same ∙ sym one)))
