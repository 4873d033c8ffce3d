-- What a lookup waits for.
use Rattle.std.proofs.Common.{◌≡◌, ℕ, min, List, Some, Result, refl, sym, ◌∙◌, ap}
use Rattle.h5w_model.specs.Programs.{Prog, bind, fed, next_look}
use Rattle.h5w_model.specs.Calls.{CallRules, known_table}
use Rattle.h5w_model.specs.Tables.{Reading}
use Rattle.h5w_model.specs.declared.refusal.ReadError.{ReadError}
use Rattle.h5w_lookup.specs.Attempts.{array_rest, index_rest, tree_rest, looking_up}
use Rattle.h5w_dataset.specs.Described.{described_of}
use Rattle.h5w_lookup.specs.Descents.{waiting, after_next}
use Rattle.h5w_lookup.specs.Gathering.{gathering}
use Rattle.h5w_lookup.specs.Seeking.{wait_given}
use Rattle.h5w_lookup.specs.Stores.{kept}
use Rattle.h5w_lookup.specs.declared.descent.Waiting.{Waiting}
use Rattle.h5w_lookup.specs.declared.gather.Gather.{Gather}
use Rattle.h5w_lookup.specs.declared.lookup.Lookup.{Lookup}
use Rattle.h5w_lookup.specs.declared.lookup.Lookup.TheVariants as lookup_by
use Rattle.h5w_lookup.proofs.DescentLemmas.{waiting_wants}
use Rattle.h5w_lookup.proofs.PieceLemmas.{fed_gather, wants_gather}

-- something is looked at
pub record IsLooking {A : Type 0} (p : Prog A) : Type 0 where
  pub look : ℕ × ℕ
  pub next : next_look p ≡ Some look

pub lookup_looks : (g : CallRules) (l : Lookup) → IsLooking (looking_up g l)
lookup_looks g (lookup_by.Array s k) =
    record { look = (k.place, min 512 k.rest); next = wants_gather k.place k.rest (min 512 k.rest) k.got.items (array_rest g.place (known_table g.known (described_of s.dataset)) (described_of s.dataset) k.start) k.more refl }
lookup_looks g (lookup_by.Index s k) =
    record { look = (k.place, min 512 k.rest); next = wants_gather k.place k.rest (min 512 k.rest) k.got.items (index_rest g.place (known_table g.known (described_of s.dataset)) (described_of s.dataset) k.start) k.more refl }
lookup_looks g (lookup_by.Tree l k) =
    record { look = (k.place, min 512 k.rest); next = wants_gather k.place k.rest (min 512 k.rest) k.got.items (tree_rest g.place (known_table g.known (described_of l.dataset)) (described_of l.dataset) k.start) k.more refl }
lookup_looks g (lookup_by.Block w) = record { look = (w.value.gather.place, min 512 w.value.gather.rest); next = waiting_wants g w.value (min 512 w.value.gather.rest) refl }

-- ---- A piece behind which a range goes on

-- a range that took up these bytes
pub record TookUp (g h : Gather) (b : List ℕ) : Type 0 where
  pub left : gathering h ≡ fed b (gathering g)
  pub start : h.start ≡ g.start

-- what follows it goes on as the range does
pub range_goes : {A : Type 0} (g h : Gather) (b : List ℕ) (f : ℕ → List ℕ → Prog A) → TookUp g h b → bind (gathering h) (f h.start) ≡ fed b (bind (gathering g) (f g.start))
range_goes g h b f t =
    ap (λ n. bind (gathering h) (f n)) t.start
    ∙ ap (λ (p : Prog (List ℕ)). bind p (f g.start)) t.left
    ∙ sym (fed_gather g.place g.rest g.got.items b (f g.start) g.more)

-- what is left of a descent that waits, once what is gathered is this
abbrev pub waiting_by : CallRules → Waiting → Gather → Prog (Result Reading ReadError)
waiting_by g w h = bind (gathering h) (wait_given (kept w.descent.store) w.wait (after_next g w.descent))

pub waiting_goes : (g : CallRules) (w : Waiting) (h : Gather) (b : List ℕ) → TookUp w.gather h b → waiting_by g w h ≡ fed b (waiting g w)
waiting_goes g w h b t =
    let next : List ℕ → Prog (Result Reading ReadError) = wait_given (kept w.descent.store) w.wait (after_next g w.descent) in
    range_goes w.gather h b (λ n. next) t

pub waiting_same : (g : CallRules) (w : Waiting) (h : Gather) → h ≡ w.gather → waiting_by g w h ≡ waiting g w
waiting_same g w h e = ap (waiting_by g w) e
