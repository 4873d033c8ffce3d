-- What a dataset sees of the log of its file.
use Rattle.std.proofs.Common.{◌≡◌, ℕ, ◌+◌, ◌≤◌, false, List, [], ◌∷◌, ◌++◌, refl, ◌∙◌, ap, arith}
use Rattle.std.specs.Prelude.{nat_le, ◌==◌, ℤ}
use Rattle.std.proofs.lemmas.Bool.{cond_both, cond-false, leb-true}
use Rattle.h5w_model.specs.Logs.{Log, Happening, Cutting, appends, plans, shows, hist, shown, flushed_in, events_at, load, spent_in}
use Rattle.h5w_model.specs.declared.piece.Write.{Write}
use Rattle.h5w_laws.proofs.LogLemmas.{events_at_now}
use Rattle.h5w_model.specs.Several.{Happened, alone, appends_to, file_log, happened_at, load_all, pieces_in, plans_each, seen_by, shown_in, shows_all, spent_by, takes_over, up_to}
use Rattle.h5w_several_laws.specs.Seen.{SeenLaws}
use Rattle.h5w_several_laws.proofs.SettledLemmas.{settled_at, settled_pieces, settled_shown}

seen_pieces : (d : ℕ) (es : List Happened) → hist (seen_by d es) ≡ pieces_in es
seen_pieces d [] = refl
seen_pieces d (appends_to e vs ∷ es) = cond_both (e == d) (appends vs ∷ seen_by d es) (seen_by d es) (λ (xs : List Happening). hist xs ≡ pieces_in es) (λ t. seen_pieces d es) (λ t. seen_pieces d es)
seen_pieces d (plans_each counts ∷ es) = seen_pieces d es
seen_pieces d (shows_all w ∷ es) = ap (λ (ws : List Write). ws ++ w ∷ []) (seen_pieces d es)
seen_pieces d (takes_over ∷ es) = settled_pieces 0 (seen_by d es) ∙ seen_pieces d es

seen_shown : (d : ℕ) (es : List Happened) → shown (seen_by d es) ≡ shown_in es
seen_shown d [] = refl
seen_shown d (appends_to e vs ∷ es) = cond_both (e == d) (appends vs ∷ seen_by d es) (seen_by d es) (λ (xs : List Happening). shown xs ≡ shown_in es) (λ t. seen_shown d es) (λ t. seen_shown d es)
seen_shown d (plans_each counts ∷ es) = seen_shown d es
seen_shown d (shows_all w ∷ es) = ap (λ (k : ℕ). k + 1) (seen_shown d es)
seen_shown d (takes_over ∷ es) = settled_shown 0 (seen_by d es) ∙ seen_shown d es

-- where all pieces are behind a position, all that is seen is
at_now : (d p : ℕ) (base : List ℤ) (es : List Happened) → shown_in es ≤ p → flushed_in 0 base (events_at p (seen_by d es)) ≡ flushed_in 0 base (seen_by d es)
at_now d p base es low = ap (flushed_in 0 base) (events_at_now p (seen_by d es) (omega (arith, low, seen_shown d es)))

-- as many pieces were seen
before : (d p : ℕ) (es : List Happened) → nat_le (shown_in es) p ≡ false → nat_le (shown (seen_by d es)) p ≡ false
before d p es t = ap (λ (k : ℕ). nat_le k p) (seen_shown d es) ∙ t

seen_positions : (d p : ℕ) (base : List ℤ) (es : List Happened) → flushed_in 0 base (events_at p (seen_by d es)) ≡ flushed_in 0 base (seen_by d (happened_at p es))
seen_positions d p base [] = refl
seen_positions d p base (appends_to e vs ∷ es) =
    cond_both (nat_le (shown_in es) p) (appends_to e vs ∷ es) (happened_at p es) (λ (xs : List Happened). flushed_in 0 base (events_at p (seen_by d (appends_to e vs ∷ es))) ≡ flushed_in 0 base (seen_by d xs))
    (λ t. at_now d p base (appends_to e vs ∷ es) (leb-true (shown_in es) p t))
    (λ t.
    cond_both (e == d) (appends vs ∷ seen_by d es) (seen_by d es) (λ (ys : List Happening). flushed_in 0 base (events_at p ys) ≡ flushed_in 0 base (seen_by d (happened_at p es)))
    (λ s. ap (flushed_in 0 base) (cond-false (nat_le (shown (seen_by d es)) p) (appends vs ∷ seen_by d es) (events_at p (seen_by d es)) (before d p es t)) ∙ seen_positions d p base es)
    (λ s. seen_positions d p base es))
seen_positions d p base (plans_each counts ∷ es) =
    cond_both (nat_le (shown_in es) p) (plans_each counts ∷ es) (happened_at p es) (λ (xs : List Happened). flushed_in 0 base (events_at p (seen_by d (plans_each counts ∷ es))) ≡ flushed_in 0 base (seen_by d xs))
    (λ t. at_now d p base (plans_each counts ∷ es) (leb-true (shown_in es) p t))
    (λ t. ap (flushed_in 0 base) (cond-false (nat_le (shown (seen_by d es)) p) (plans (up_to d counts) ∷ seen_by d es) (events_at p (seen_by d es)) (before d p es t)) ∙ seen_positions d p base es)
seen_positions d p base (shows_all w ∷ es) =
    cond_both (nat_le (shown_in es + 1) p) (shows_all w ∷ es) (happened_at p es) (λ (xs : List Happened). flushed_in 0 base (events_at p (seen_by d (shows_all w ∷ es))) ≡ flushed_in 0 base (seen_by d xs))
    (λ t. at_now d p base (shows_all w ∷ es) (leb-true (shown_in es + 1) p t))
    (λ t. ap (flushed_in 0 base) (cond-false (nat_le (shown (seen_by d es) + 1) p) (shows w ∷ seen_by d es) (events_at p (seen_by d es)) (ap (λ (k : ℕ). nat_le (k + 1) p) (seen_shown d es) ∙ t)) ∙ seen_positions d p base es)
seen_positions d p base (takes_over ∷ es) =
    cond_both (nat_le (shown_in es) p) (takes_over ∷ es) (happened_at p es) (λ (xs : List Happened). flushed_in 0 base (events_at p (seen_by d (takes_over ∷ es))) ≡ flushed_in 0 base (seen_by d xs))
    (λ t. at_now d p base (takes_over ∷ es) (leb-true (shown_in es) p t))
    (λ t. settled_at p 0 base (seen_by d es) ∙ seen_positions d p base es)

-- ---- One dataset

one_count : (k : ℕ) → up_to 0 (k ∷ []) ≡ k
one_count k = omega arith

seen_one : (es : List Happening) → seen_by 0 (alone es) ≡ es
seen_one [] = refl
seen_one (appends vs ∷ es) = ap (λ (xs : List Happening). appends vs ∷ xs) (seen_one es)
seen_one (plans k ∷ es) = ap (λ (n : ℕ). plans n ∷ seen_by 0 (alone es)) (one_count k) ∙ ap (λ (xs : List Happening). plans k ∷ xs) (seen_one es)
seen_one (shows w ∷ es) = ap (λ (xs : List Happening). shows w ∷ xs) (seen_one es)

-- the load of a file with one dataset
one_load : (c : Cutting) (log : Log) (es : List Happening) → load_all (c ∷ []) (record (file_log log) { events = alone es }) ≡ load c (record log { events = es })
one_load c log es =
    let same : load c (record log { events = seen_by 0 (alone es) }) ≡ load c (record log { events = es }) = ap (λ (xs : List Happening). load c (record log { events = xs })) (seen_one es) in
    omega (arith, same)

seen_spends : (c : Cutting) (log : Log) (es : List Happening) → spent_by (c ∷ []) (file_log log) (alone es) ≡ spent_in c log es
seen_spends c log [] = refl
seen_spends c log (appends vs ∷ es) = omega (arith, seen_spends c log es, one_load c log (appends vs ∷ es))
seen_spends c log (plans k ∷ es) = omega (arith, seen_spends c log es, one_load c log es)
seen_spends c log (shows w ∷ es) = seen_spends c log es

pub seen_laws : SeenLaws
seen_laws = record {
  pieces = seen_pieces;
  positions = seen_positions;
  one = seen_one;
  spends = λ c log. seen_spends c log log.events;
}
