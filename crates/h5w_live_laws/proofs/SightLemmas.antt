-- Looks through a reader's seat, at positions of a log.
use Rattle.std.proofs.Common.{◌≡◌, ℕ, zero, suc, ◌<◌, ◌≤◌, List, [], ◌∷◌, length, refl, sym, ap, subst, arith}
use Rattle.std.specs.Prelude.{slice_index_or}
use Rattle.std.specs.List.{Any}
use Rattle.h5w_model.specs.Logs.{Log, hist}
use Rattle.h5w_model.specs.Readers.{Placed, IsCall, looks_of}
use Rattle.h5w_model.specs.declared.piece.Write.{Write}
use Rattle.h5w_shared.specs.Threads.{Sight, Sights, placed, seen_after}
use Rattle.h5w_shared.specs.Turns.{StartsWith}
use Rattle.h5w_shared.proofs.Beginnings.{starts_length}
use Rattle.h5w_shared.proofs.ThreadLemmas.{readers_call, after_starts}
use Rattle.h5w_live_laws.specs.Polls.{LooksThrough, looks_in}

pub looks_placed : (ss : List Sight) → looks_of (placed ss) ≡ looks_in ss
looks_placed [] = refl
looks_placed (s ∷ ss) = ap (λ ls. s.look ∷ ls) (looks_placed ss)

-- a look is at a position between what was seen before and after
placed_within : (start : List ℕ) (from : List Write) (ss : List Sight) → Sights start from ss → (k : ℕ) (x : Placed) → k < length (placed ss) → slice_index_or (placed ss) k x ≡ x
    → (length from ≤ x.position) × (x.position ≤ length (seen_after from ss))
placed_within start from [] h k x within is = absurd (omega arith)
placed_within start from (s ∷ ss) h zero x within is =
    let at : length s.seen ≡ x.position = ap (λ (p : Placed). p.position) is in
    (omega (arith, at, starts_length s.seen from h.0), omega (arith, at, starts_length (seen_after s.seen ss) s.seen (after_starts start s.seen ss h.2)))
placed_within start from (s ∷ ss) h (suc k) x within is =
    let rest = placed_within start s.seen ss h.2 k x (omega arith) is in
    (omega (arith, rest.0, starts_length s.seen from h.0), rest.1)

pub any_within : (P : Placed → Type 0) (start : List ℕ) (before after : List Write) (ss : List Sight) → LooksThrough start before after ss → (any : Any P (placed ss))
    → (length before ≤ any.1.position) × (any.1.position ≤ length after)
any_within P start before after ss h any =
    let b = placed_within start before ss h.sights any.0 any.1 any.2 any.3 in
    (b.0, subst (λ (n : ℕ). any.1.position ≤ n) (sym (ap length h.ends)) b.1)

pub through_starts : (start : List ℕ) (before after : List Write) (ss : List Sight) → LooksThrough start before after ss → StartsWith after before
through_starts start before after ss h = subst (λ (l : List Write). StartsWith l before) (sym h.ends) (after_starts start before ss h.sights)

pub through_call : (log : Log) (before after : List Write) (ss : List Sight) → LooksThrough log.start before after ss → StartsWith (hist log.events) after → IsCall log (length before) (placed ss)
through_call log before after ss h starts = readers_call log before ss h.sights (subst (λ (l : List Write). StartsWith (hist log.events) l) h.ends starts)
