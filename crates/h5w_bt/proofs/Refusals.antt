-- Lists of tests one after another: the first refusal of all is that of the first list that refuses.
use Rattle.std.proofs.Common.{◌≡◌, ℕ, ◌+◌, ◌*◌, Bool, true, false, cond, List, [], ◌∷◌, ◌++◌, Result, Ok, Err, refl, sym, ap, ◌∙◌, codes}
use Rattle.h5w_model.specs.Checked.{checked}
use Rattle.h5w_model.specs.Blocks.{block_tests}
use Rattle.h5w_model.specs.Trees.{btin_len, node_tests, child_tests}
use Rattle.h5w_model.specs.declared.refusal.BlockFault.{BlockFault}
use Rattle.h5w_model.proofs.CheckedLemmas.{AllPass, checked-passed}
use Rattle.h5w_model.proofs.ArrayLaws.{AllPass-append}
use Rattle.h5w_bt.specs.Parts.{btin_tests}

-- behind tests that all pass
pub checked-append : {E A : Type 0} (xs ys : List (Bool × E)) (fields : A) → AllPass xs → checked (xs ++ ys) fields ≡ checked ys fields
checked-append [] ys fields pass = refl
checked-append (x ∷ xs) ys fields pass = rw pass.0 (checked-append xs ys fields pass.1)

refused : {E A B : Type 0} (test : Bool) (refusal e : E) (rest : Result A E) (more : Result B E) → (rest ≡ Err e → more ≡ Err e) → cond test rest (Err refusal) ≡ Err e → cond test more (Err refusal) ≡ Err e
refused true refusal e rest more f h = f h
refused false refusal e rest more f h = cc

-- a refusal is that of all, whatever follows and whatever the fields
pub refused-append : {E A B : Type 0} (xs ys : List (Bool × E)) (fields : A) (others : B) (e : E) → checked xs fields ≡ Err e → checked (xs ++ ys) others ≡ Err e
refused-append [] ys fields others e h = absurd cc
refused-append (x ∷ xs) ys fields others e h = refused x.0 x.1 e (checked xs fields) (checked (xs ++ ys) others) (refused-append xs ys fields others e) h

pub refused-other : {E A B : Type 0} (xs : List (Bool × E)) (fields : A) (others : B) (e : E) → checked xs fields ≡ Err e → checked xs others ≡ Err e
refused-other [] fields others e h = absurd cc
refused-other (x ∷ xs) fields others e h = refused x.0 x.1 e (checked xs fields) (checked xs others) (refused-other xs fields others e) h

-- ---- An inner node

abbrev pub none : Unit {0}
none = tt

-- refused as a block
pub inner-block : (b : List ℕ) (place n depth len : ℕ) (e : BlockFault) → len ≡ btin_len n depth → Err e ≡ checked (block_tests (codes "BTIN") len b) none → checked (btin_tests b place n depth) none ≡ Err e
inner-block b place n depth len e is h =
    let block = block_tests (codes "BTIN") (btin_len n depth) b in
    let rest = child_tests b place depth (n + 1) (6 + 24 * n) in
    refused-append (block ++ node_tests b place) rest none none e
    (refused-append block (node_tests b place) none none e (ap (λ k. checked (block_tests (codes "BTIN") k b) none) (sym is) ∙ sym h))

-- refused as a node
pub inner-node : (b : List ℕ) (place n depth len : ℕ) (e : BlockFault) (u : Unit {0}) → len ≡ btin_len n depth → Ok u ≡ checked (block_tests (codes "BTIN") len b) none → Err e ≡ checked (node_tests b place) none →
    checked (btin_tests b place n depth) none ≡ Err e
inner-node b place n depth len e u is block_ok h =
    let block = block_tests (codes "BTIN") (btin_len n depth) b in
    let rest = child_tests b place depth (n + 1) (6 + 24 * n) in
    let pass = (checked-passed block none u (ap (λ k. checked (block_tests (codes "BTIN") k b) none) (sym is) ∙ sym block_ok)).0 in
    refused-append (block ++ node_tests b place) rest none none e (checked-append block (node_tests b place) none pass ∙ sym h)

-- and what the counts of its children say else
pub inner-counts : (b : List ℕ) (place n depth len : ℕ) (r : Result (Unit {0}) BlockFault) (u v : Unit {0}) → len ≡ btin_len n depth → Ok u ≡ checked (block_tests (codes "BTIN") len b) none → Ok v ≡ checked (node_tests b place) none →
    r ≡ checked (child_tests b place depth (n + 1) (6 + 24 * n)) none → r ≡ checked (btin_tests b place n depth) none
inner-counts b place n depth len r u v is block_ok node_ok h =
    let block = block_tests (codes "BTIN") (btin_len n depth) b in
    let rest = child_tests b place depth (n + 1) (6 + 24 * n) in
    let pass = (checked-passed block none u (ap (λ k. checked (block_tests (codes "BTIN") k b) none) (sym is) ∙ sym block_ok)).0 in
    let passes = (checked-passed (node_tests b place) none v (sym node_ok)).0 in
    h ∙ sym (checked-append (block ++ node_tests b place) rest none (AllPass-append block (node_tests b place) pass passes))
