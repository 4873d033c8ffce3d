-- Each step keeps the rule of the table.
use Rattle.std.proofs.Common.{◌≡◌, ◌≢◌, ◌⊎◌, ℕ, zero, suc, ◌+◌, ◌%◌, ◌^◌, ◌<◌, ◌≤◌, List, [], ◌∷◌, ◌++◌, length, set, Some, None, Bool, true, false, true≢false, refl, sym, ap, ◌∙◌, subst, inl, inr, ⊎_elim, arith}
use Rattle.std.specs.Prelude.{slice_index, MatchBool, nat_lt, Option, if◌then◌else◌, ◌==◌}
use Rattle.std.proofs.lemmas.Bool.{cases_eq, ltb-true, ltb-false}
use Rattle.std.proofs.lemmas.Bool.Decides.{nat_tests}
use mathlib.Core.Option.{some, none, some-ne-none, some-injective}
use lib.ListN.{get_elem?}
use prog.Atomic.{either}
use Rattle.atomic_table.specs.Table.{step, Act, Valid, Allows, Splits, Joins, keeps, takes, gives, carried_after, stepped}
use Rattle.atomic_table.proofs.Lists.{at_set, at_snoc, at_longer, set_again, set_else, set_here}
use Rattle.h5w_model.specs.declared.piece.Write.{Write}
use Rattle.h5w_image.specs.Memory.{MemView}
use Rattle.h5w_shared.specs.declared.table.Knowledge.{Knowledge}
use Rattle.h5w_shared.specs.declared.table.Stage.{Stage}
use Rattle.h5w_shared.specs.declared.table.Stage.TheVariants.{Idle, Waiting, Serving}
use Rattle.h5w_shared.specs.Turns.{Apart, Current, FoundStore, InStage, Knows, Placed, Returned, Ruled, Sat, StartsWith, State', after_draw, drawn, ended, finished, informed, last_ticket, looked, newcomer, serving_with, spent, ticket_of, told}
use Rattle.h5w_shared.proofs.Beginnings.{starts_itself, starts_same, starts_nothing, starts_both, starts_shorter}

off : false ≡ true → ⊥
off e = true≢false (sym e)

-- ---- Lists of views

seats_stay : (F : ℕ → Knowledge → Type 0) (views : List Knowledge) (id : ℕ) (w : Knowledge) → F id w → ((j : ℕ) (v : Knowledge) → j ≢ id → get_elem? views j ≡ some v → F j v)
    → (j : ℕ) (v : Knowledge) → get_elem? (set views id w) j ≡ some v → F j v
seats_stay F views id w own others j v at =
    ⊎_elim (λ (t : (j ≡ id) × (w ≡ v)). subst (λ (z : ℕ × Knowledge). F z.0 z.1) (λ c. (sym t.0 c, t.1 c)) own)
    (λ (t : (j ≢ id) × (get_elem? views j ≡ some v)). others j v t.0 t.1)
    (at_set views id j w v at)

same_view : {A : Type 0} (views : List A) (j : ℕ) (v w : A) → get_elem? views j ≡ some v → get_elem? views j ≡ some w → v ≡ w
same_view views j v w p q = some-injective v w (sym p ∙ q)

here : {A : Type 0} (xs : List A) (i : ℕ) (a b : A) → get_elem? xs i ≡ some a → get_elem? (set xs i b) i ≡ some b
here [] i a b e = absurd (some-ne-none a (sym e))
here (x ∷ xs) zero a b e = refl
here (x ∷ xs) (suc i) a b e = here xs i a b e

-- nobody but the seat has the ticket that it has from now on
abbrev Free : List Knowledge → ℕ → Knowledge → Type 0
Free views id w = (j t : ℕ) (v : Knowledge) → j ≢ id → get_elem? views j ≡ some v → ticket_of v.stage ≡ Some t → ticket_of w.stage ≡ Some t → ⊥

apart_set : (views : List Knowledge) (id : ℕ) (w : Knowledge) → Apart views → Free views id w → Apart (set views id w)
apart_set views id w apart free i j t v u ati atj pi pj =
    ⊎_elim
    (λ (a : (i ≡ id) × (w ≡ v)). ⊎_elim
    (λ (b : (j ≡ id) × (w ≡ u)). a.0 ∙ sym b.0)
    (λ (b : (j ≢ id) × (get_elem? views j ≡ some u)). absurd (free j t u b.0 b.1 pj (ap (λ (z : Knowledge). ticket_of z.stage) a.1 ∙ pi)))
    (at_set views id j w u atj))
    (λ (a : (i ≢ id) × (get_elem? views i ≡ some v)). ⊎_elim
    (λ (b : (j ≡ id) × (w ≡ u)). absurd (free i t v a.0 a.1 pi (ap (λ (z : Knowledge). ticket_of z.stage) b.1 ∙ pj)))
    (λ (b : (j ≢ id) × (get_elem? views j ≡ some u)). apart i j t v u a.1 b.1 pi pj)
    (at_set views id j w u atj))
    (at_set views id i w v ati)

-- the ticket of a seat's new view is the one that it had, or none
free_as_before : (views : List Knowledge) (id : ℕ) (old w : Knowledge) → Apart views → get_elem? views id ≡ some old → w.stage ≡ old.stage → Free views id w
free_as_before views id old w apart at same j t v other atj pj pw = other (apart j id t v old atj at pj (ap ticket_of (sym same) ∙ pw))

free_without : (views : List Knowledge) (id : ℕ) (w : Knowledge) → w.stage ≡ Idle → Free views id w
free_without views id w idle j t v other atj pj pw =
    let no : None ≡ Some t = ap ticket_of (sym idle) ∙ pw in absurd (cc no)

-- ---- A step that moves no slot

stage_later : (m : MemView) (ticket ticket' serving : ℕ) (v : Knowledge) (stage : Stage) → ticket ≤ ticket' → InStage m ticket serving v stage → InStage m ticket' serving v stage
stage_later m ticket ticket' serving v Idle le p = tt
stage_later m ticket ticket' serving v (Waiting t) le p = (p.0, omega arith)
stage_later m ticket ticket' serving v (Serving t) le p = (p.0, omega arith, p.2)

knows_later : (start : List ℕ) (m : MemView) (writer ticket ticket' serving j : ℕ) (v : Knowledge) → ticket ≤ ticket' → ticket' ≤ last_ticket
    → Knows start m writer ticket serving j v → Knows start m writer ticket' serving j v
knows_later start m writer ticket ticket' serving j v le bound k = record {
  begun = k.begun;
  seen = k.seen;
  told = k.told;
  stage = stage_later m ticket ticket' serving v v.stage le k.stage;
  alone = k.alone;
  worn = λ w. let e : ticket ≡ last_ticket = k.worn w in omega arith;
}

placed_set : (m : MemView) (serving : ℕ) (s : State') (words : List ℕ) (id : ℕ) (old w : Knowledge) → get_elem? s.views id ≡ some old
    → (old.stage ≡ Serving serving → w.stage ≡ Serving serving) → Placed m serving s → Placed m serving record { words = words; homes = s.homes; views = set s.views id w }
placed_set m serving s words id old w at same (inl home) = inl home
placed_set m serving s words id old w at same (inr (j, v, atj, serves, out)) =
    ⊎_elim
    (λ (e : j ≡ id).
    let old_is : v ≡ old = same_view s.views j v old atj (subst (λ (i : ℕ). get_elem? s.views i ≡ some old) (sym e) at) in
    inr (id, w, here s.views id old w at, same (ap (λ (z : Knowledge). z.stage) (sym old_is) ∙ serves), out))
    (λ (n : j ≢ id). inr (j, v, set_else s.views id j w n ∙ atj, serves, out))
    (cases_eq j id)

stays : (start : List ℕ) (s : State') (r : Ruled start s) (words : List ℕ) (ticket id : ℕ) (old w : Knowledge) → get_elem? s.views id ≡ some old → words ≡ ticket ∷ r.serving ∷ []
    → r.ticket ≤ ticket → ticket ≤ last_ticket → Knows start r.store r.writer ticket r.serving id w → Free s.views id w → (old.stage ≡ Serving r.serving → w.stage ≡ Serving r.serving)
    → Ruled start record { words = words; homes = s.homes; views = set s.views id w }
stays start s r words ticket id old w at same le bound own free slot = record {
  store = r.store;
  writer = r.writer;
  ticket = ticket;
  serving = r.serving;
  begun = r.begun;
  sound = r.sound;
  words = same;
  order = let o = r.order in omega arith;
  bound = bound;
  knows = seats_stay (Knows start r.store r.writer ticket r.serving) s.views id w own (λ j v other atj. knows_later start r.store r.writer r.ticket ticket r.serving j v le bound (r.knows j v atj));
  apart = apart_set s.views id w r.apart free;
  slot = placed_set r.store r.serving s words id old w at slot r.slot;
}

-- ---- Drawing a ticket

-- the words of a table under the rule
ticket_is : (start : List ℕ) (s : State') (r : Ruled start s) → slice_index s.words 0 ≡ r.ticket
ticket_is start s r = ap (λ (ws : List ℕ). slice_index ws 0) r.words

serving_is : (start : List ℕ) (s : State') (r : Ruled start s) → slice_index s.words 1 ≡ r.serving
serving_is start s r = ap (λ (ws : List ℕ). slice_index ws 1) r.words

-- a load puts back what it found
loaded : (start : List ℕ) (s : State') (r : Ruled start s) → set s.words 1 (slice_index s.words 1) ≡ r.ticket ∷ r.serving ∷ []
loaded start s r = ap (λ (ws : List ℕ). set ws 1 (slice_index ws 1)) r.words

knows_waiting : (start : List ℕ) (m : MemView) (writer serving id : ℕ) (v : Knowledge) (t : ℕ) → serving ≤ t → t < last_ticket → Knows start m writer t serving id v
    → Knows start m writer (t + 1) serving id (record v { stage = Waiting t })
knows_waiting start m writer serving id v t le below k = record {
  begun = k.begun;
  seen = k.seen;
  told = k.told;
  stage = (le, omega arith);
  alone = k.alone;
  worn = λ w. let e : t ≡ last_ticket = k.worn w in absurd (omega arith);
}

knows_worn : (start : List ℕ) (m : MemView) (writer ticket serving id : ℕ) (v : Knowledge) → ticket ≡ last_ticket → Knows start m writer ticket serving id v
    → Knows start m writer ticket serving id (record v { worn = true })
knows_worn start m writer ticket serving id v at k = record {
  begun = k.begun;
  seen = k.seen;
  told = k.told;
  stage = stage_again v.stage k.stage;
  alone = k.alone;
  worn = λ _. at;
}
  where
    stage_again : (stage : Stage) → InStage m ticket serving v stage → InStage m ticket serving (record v { worn = true }) stage
    stage_again Idle p = tt
    stage_again (Waiting t) p = p
    stage_again (Serving t) p = p

-- every ticket that a seat has is below the next one
ticket_below : (m : MemView) (ticket serving : ℕ) (v : Knowledge) (stage : Stage) (t : ℕ) → InStage m ticket serving v stage → ticket_of stage ≡ Some t → t < ticket
ticket_below m ticket serving v Idle t p e = absurd (cc e)
ticket_below m ticket serving v (Waiting u) t p e = let same : u ≡ t = cc e in omega arith
ticket_below m ticket serving v (Serving u) t p e = let same : u ≡ t = cc e in omega arith

draws_rule : (start : List ℕ) (s : State') (r : Ruled start s) (id t : ℕ) (v : Knowledge) → t < last_ticket → v.stage ≡ Idle → get_elem? s.views id ≡ some v
    → (hit full : Bool) → (r.ticket == t) ≡ hit → (r.ticket == last_ticket) ≡ full
    → Ruled start record { words = set s.words 0 (either hit (t + 1) r.ticket); homes = s.homes; views = set s.views id (if hit then record v { stage = Waiting t } else if full then record v { worn = true } else v) }
draws_rule start s r id t v below idle at true full is _ =
    let same : r.ticket ≡ t = grind (arith, nat_tests) in
    let o = r.order in
    let own = subst (λ (n : ℕ). Knows start r.store r.writer n r.serving id v) same (r.knows id v at) in
    stays start s r (set s.words 0 (t + 1)) (t + 1) id v (record v { stage = Waiting t }) at (ap (λ (ws : List ℕ). set ws 0 (t + 1)) r.words) (omega arith) (omega arith)
    (knows_waiting start r.store r.writer r.serving id v t (omega arith) below own)
    (λ j u w other atj pj pw.
    let under = ticket_below r.store r.ticket r.serving w w.stage u (r.knows j w atj).stage pj in
    let is : t ≡ u = cc pw in absurd (omega arith))
    (λ e. let no : Idle ≡ Serving r.serving = sym idle ∙ e in absurd (cc no))
draws_rule start s r id t v below idle at false true is full =
    let top : r.ticket ≡ last_ticket = grind (arith, nat_tests) in
    stays start s r (set s.words 0 r.ticket) r.ticket id v (record v { worn = true }) at (ap (λ (ws : List ℕ). set ws 0 r.ticket) r.words) (omega arith) r.bound
    (knows_worn start r.store r.writer r.ticket r.serving id v top (r.knows id v at))
    (free_without s.views id (record v { worn = true }) idle)
    (λ e. e)
draws_rule start s r id t v below idle at false false is full =
    stays start s r (set s.words 0 r.ticket) r.ticket id v v at (ap (λ (ws : List ℕ). set ws 0 r.ticket) r.words) (omega arith) r.bound
    (r.knows id v at) (free_without s.views id v idle) (λ e. e)

pub draws : (start : List ℕ) (n id t : ℕ) (v : Knowledge) (c : List (ℕ × Option MemView)) → t < last_ticket → v.stage ≡ Idle
    → Allows (Ruled start) n id (v, c) 0 (λ k. either (k == t) (t + 1) k) (drawn (step n 0 t (t + 1) none) (v, c))
draws start n id t v c below idle s r size at low =
    let is = ticket_is start s r in (
      after_draw t (slice_index s.words 0) v,
      keeps,
      tt,
      subst (λ (n : ℕ). Ruled start record { words = set s.words 0 (either (n == t) (t + 1) n); homes = s.homes; views = set s.views id (after_draw t n v) }) (sym is)
          (draws_rule start s r id t v below idle at (r.ticket == t) (r.ticket == last_ticket) refl refl),
      refl,
    )

-- ---- Looking at the ticket that is served

took_rule : (start : List ℕ) (s : State') (r : Ruled start s) (id t : ℕ) (v : Knowledge) → length s.homes ≡ 1 → get_elem? s.views id ≡ some v → v.stage ≡ Waiting t → r.serving ≡ t
    → Ruled start record { words = set s.words 1 (slice_index s.words 1); homes = set s.homes 0 none; views = set s.views id (serving_with t r.store v) }
took_rule start s r id t v size at waits now =
    let k = r.knows id v at in
    let w = serving_with t r.store v in
    let stage = subst (InStage r.store r.ticket r.serving v) waits k.stage in record {
      store = r.store;
      writer = r.writer;
      ticket = r.ticket;
      serving = r.serving;
      begun = r.begun;
      sound = r.sound;
      words = loaded start s r;
      order = r.order;
      bound = r.bound;
      knows = seats_stay (Knows start r.store r.writer r.ticket r.serving) s.views id w record {
        begun = k.begun;
        seen = starts_itself r.store.history;
        told = starts_both r.store.history v.seen v.told k.seen k.told;
        stage = (sym now, stage.1, (refl, refl, refl));
        alone = λ writes. ((k.alone writes).0, (refl, refl, refl));
        worn = k.worn;
      } (λ j u other atj. r.knows j u atj);
      apart = apart_set s.views id w r.apart (λ j n u other atj pj pw. other (r.apart j id n u v atj at pj (ap ticket_of waits ∙ pw)));
      slot = inr (id, w, here s.views id v w at, ap Serving (sym now), set_here s.homes 0 none (omega arith));
    }

abbrev pub sat : Knowledge → List (ℕ × Option MemView) → Sat
sat v c = (v, c)

-- the seat that waits for the ticket that is served finds the store at home
at_home : (start : List ℕ) (s : State') (r : Ruled start s) (id t : ℕ) (v : Knowledge) → get_elem? s.views id ≡ some v → v.stage ≡ Waiting t → r.serving ≡ t
    → Placed r.store r.serving s → get_elem? s.homes 0 ≡ some (some (Some r.store))
at_home start s r id t v at waits now (inl home) = home
at_home start s r id t v at waits now (inr (j, u, atj, serves, out)) =
    let one : j ≡ id = r.apart j id t u v atj at (ap ticket_of serves ∙ ap Some now) (ap ticket_of waits) in
    let same : u ≡ v = same_view s.views id u v (subst (λ (i : ℕ). get_elem? s.views i ≡ some u) one atj) at in
    let clash : Serving r.serving ≡ Waiting t = sym serves ∙ (ap (λ (z : Knowledge). z.stage) same ∙ waits) in absurd (cc clash)

found_store : (start : List ℕ) (s : State') (r : Ruled start s) (id : ℕ) (v : Knowledge) → v.spent ≡ false → get_elem? s.views id ≡ some v → FoundStore v r.store
found_store start s r id v there at =
    let k = r.knows id v at in record {
      sound = r.sound;
      begun = r.begun ∙ sym (k.begun there);
      grown = k.seen;
      still = λ writes. (k.alone writes).1;
    }

looks_goes : (start : List ℕ) (s : State') (r : Ruled start s) (id t : ℕ) (v : Knowledge) (c : List (ℕ × Option MemView)) → v.spent ≡ false → v.stage ≡ Waiting t → length s.homes ≡ 1
    → get_elem? s.views id ≡ some v → (hit : Bool) → (r.serving == t) ≡ hit
    → (w : Knowledge) × (a : Act (Option MemView)) × Valid s.homes c a
    × Ruled start (stepped s 1 (slice_index s.words 1) id c w a)
    × MatchBool hit ((x : MemView) × FoundStore v x × (sat w (carried_after c a) ≡ sat (serving_with t x v) ((0, Some x) ∷ c))) (sat w (carried_after c a) ≡ sat v c)
looks_goes start s r id t v c there waits size at true is =
    let now : r.serving ≡ t = grind (arith, nat_tests) in (
      serving_with t r.store v,
      takes 0 (Some r.store),
      at_home start s r id t v at waits now r.slot,
      took_rule start s r id t v size at waits now,
      (r.store, found_store start s r id v there at, refl),
    )
looks_goes start s r id t v c there waits size at false is = (
  v,
  keeps,
  tt,
  stays start s r (set s.words 1 (slice_index s.words 1)) r.ticket id v v at (loaded start s r) (omega arith) r.bound (r.knows id v at)
      (free_as_before s.views id v v r.apart at refl) (λ e. e),
  refl,
)

pub looks : (start : List ℕ) (n id t : ℕ) (v : Knowledge) (c : List (ℕ × Option MemView)) → n ≡ 1 → v.spent ≡ false → v.stage ≡ Waiting t
    → Allows (Ruled start) n id (v, c) 1 (λ k. k) (looked (step n 1 0 0 none) (v, c))
looks start n id t v c one there waits s r size at low =
    let goes = looks_goes start s r id t v c there waits (size ∙ one) at (r.serving == t) refl in
    let is = serving_is start s r in (
      goes.0,
      goes.1,
      goes.2,
      goes.3,
      λ u waits'.
          let same : t ≡ u = (let e : Waiting t ≡ Waiting u = sym waits ∙ waits' in cc e) in
          subst (λ (z : ℕ × ℕ). MatchBool (z.1 == z.0) ((x : MemView) × FoundStore v x × (sat goes.0 (carried_after c goes.1) ≡ sat (serving_with z.0 x v) ((0, Some x) ∷ c))) (sat goes.0 (carried_after c goes.1) ≡ sat v c))
          (λ i. (same i, sym is i)) goes.4,
    )

pub tells : (start : List ℕ) (n id : ℕ) (v : Knowledge) (c : List (ℕ × Option MemView)) → Allows (Ruled start) n id (v, c) 1 (λ k. k) (told (step n 1 0 0 none) (v, c))
tells start n id v c s r size at low = (
  v,
  keeps,
  tt,
  stays start s r (set s.words 1 (slice_index s.words 1)) r.ticket id v v at (loaded start s r) (omega arith) r.bound (r.knows id v at)
      (free_as_before s.views id v v r.apart at refl) (λ e. e),
  (refl, (r.knows id v at).told),
)

-- ---- Ending a turn

grown : (v : Knowledge) (x : MemView) → Returned v x → StartsWith x.history v.seen
grown v x b = ⊎_elim (λ p. p.1) (λ c. starts_same x.history v.seen (sym c.0)) b.same

-- what is true of another seat, once a turn has ended
others_later : (start : List ℕ) (m x : MemView) (writer ticket serving id j : ℕ) (v u : Knowledge) → Returned v x → Current m v → (v.writes ≡ true → id ≡ writer) → j ≢ id
    → ((t : ℕ) → ticket_of u.stage ≡ Some t → t ≢ serving) → Knows start m writer ticket serving j u → Knows start x writer ticket (serving + 1) j u
others_later start m x writer ticket serving id j v u back now mine other apart k = record {
  begun = k.begun;
  seen = starts_both x.history m.history u.seen (subst (λ (l : List Write). StartsWith x.history l) now.0 (grown v x back)) k.seen;
  told = k.told;
  stage = stage_then u.stage apart k.stage;
  alone = λ writes. ((k.alone writes).0, current writes back.same);
  worn = k.worn;
}
  where
    stage_then : (stage : Stage) → ((t : ℕ) → ticket_of stage ≡ Some t → t ≢ serving) → InStage m ticket serving u stage → InStage x ticket (serving + 1) u stage
    stage_then Idle a p = tt
    stage_then (Waiting t) a p = let n = a t refl in (let le = p.0 in omega (arith, n), p.1)
    stage_then (Serving t) a p = absurd (a t refl p.0)

    current : u.writes ≡ true → ((v.writes ≡ true) × StartsWith x.history v.seen) ⊎ Current x v → Current x u
    current writes (inl w) = absurd (other ((k.alone writes).0 ∙ sym (mine w.0)))
    current writes (inr c) = let was = (k.alone writes).1 in (was.0 ∙ (sym now.0 ∙ c.0), was.1 ∙ (sym now.1 ∙ c.1), was.2 ∙ (sym now.2 ∙ c.2))

ends_rule : (start : List ℕ) (s : State') (r : Ruled start s) (id t : ℕ) (v : Knowledge) (x : MemView) → v.spent ≡ false → v.stage ≡ Serving t → Returned v x → length s.homes ≡ 1
    → get_elem? s.views id ≡ some v
    → Ruled start record { words = set s.words 1 ((slice_index s.words 1 + 1) % 2 ^ 64); homes = set s.homes 0 (some (Some x)); views = set s.views id (finished x v) }
ends_rule start s r id t v x there serves back size at =
    let k = r.knows id v at in
    let stage = subst (InStage r.store r.ticket r.serving v) serves k.stage in
    let w = finished x v in
    let up : (slice_index s.words 1 + 1) % 2 ^ 64 ≡ r.serving + 1 = (let is = serving_is start s r in let b = r.bound in let o = stage.1 in let e = stage.0 in omega arith) in record {
      store = x;
      writer = r.writer;
      ticket = r.ticket;
      serving = r.serving + 1;
      begun = back.begun ∙ k.begun there;
      sound = back.sound;
      words = ap (λ (n : ℕ). set s.words 1 n) up ∙ ap (λ (ws : List ℕ). set ws 1 (r.serving + 1)) r.words;
      order = let o = stage.1 in let e = stage.0 in omega arith;
      bound = r.bound;
      knows = seats_stay (Knows start x r.writer r.ticket (r.serving + 1)) s.views id w record {
        begun = k.begun;
        seen = starts_itself x.history;
        told = starts_both x.history v.seen v.told (grown v x back) k.told;
        stage = tt;
        alone = λ writes. ((k.alone writes).0, (refl, refl, refl));
        worn = k.worn;
      } (λ j u other atj. others_later start r.store x r.writer r.ticket r.serving id j v u back stage.2 (λ writes. (k.alone writes).0) other
          (λ t' has e. other (r.apart j id t' u v atj at has (ap ticket_of serves ∙ ap Some (stage.0 ∙ sym e)))) (r.knows j u atj));
      apart = apart_set s.views id w r.apart (free_without s.views id w refl);
      slot = inl (set_here s.homes 0 (some (Some x)) (omega arith));
    }

abbrev carried_store : MemView → List (ℕ × Option MemView) → MemView
carried_store d [] = d
carried_store d ((k, None) ∷ c) = d
carried_store d ((k, Some x) ∷ c) = x

pub ends : (start : List ℕ) (n id t : ℕ) (v : Knowledge) (x : MemView) → n ≡ 1 → v.spent ≡ false → v.stage ≡ Serving t → Returned v x
    → Allows (Ruled start) n id (v, (0, Some x) ∷ []) 1 (λ k. (k + 1) % 2 ^ 64) (ended (step n 1 1 0 none) (v, (0, Some x) ∷ []))
ends start n id t v x one there serves back s r size at low = (
  finished x v,
  gives,
  tt,
  ends_rule start s r id t v x there serves back (size ∙ one) at,
  λ y e. let same : x ≡ y = ap (carried_store x) e in ap (λ (z : MemView). (finished z v, [])) same,
)

-- the seat in question has put this store back
pub ends_as : (start : List ℕ) (n id t : ℕ) (m : Sat) (v : Knowledge) (x : MemView) → m ≡ sat v ((0, Some x) ∷ []) → n ≡ 1 → v.spent ≡ false → v.stage ≡ Serving t → Returned v x
    → Allows (Ruled start) n id m 1 (λ k. (k + 1) % 2 ^ 64) (ended (step n 1 1 0 none) m)
ends_as start n id t m v x is one there serves back =
    subst (λ (z : Sat). Allows (Ruled start) n id z 1 (λ k. (k + 1) % 2 ^ 64) (ended (step n 1 1 0 none) z)) (sym is) (ends start n id t v x one there serves back)

-- ---- The first seat, and notes

pub splits : (start : List ℕ) (id : ℕ) (v : Knowledge) → Splits (Ruled start) id v v (newcomer v)
splits start id v s r at =
    subst (λ (views : List Knowledge). Ruled start record { words = s.words; homes = s.homes; views = views ++ newcomer v ∷ [] }) (sym (set_again s.views id v at)) record {
      store = r.store;
      writer = r.writer;
      ticket = r.ticket;
      serving = r.serving;
      begun = r.begun;
      sound = r.sound;
      words = r.words;
      order = r.order;
      bound = r.bound;
      knows = λ j u atj. ⊎_elim (r.knows j u) (λ e. subst (Knows start r.store r.writer r.ticket r.serving j) e (new j)) (at_snoc s.views (newcomer v) u j atj);
      apart = λ i j t u w ati atj pi pj. r.apart i j t u w (old i t u ati pi) (old j t w atj pj) pi pj;
      slot = later r.slot;
    }
  where
    k : Knows start r.store r.writer r.ticket r.serving id v
    k = r.knows id v at

    new : (j : ℕ) → Knows start r.store r.writer r.ticket r.serving j (newcomer v)
    new j = record {
      begun = k.begun;
      seen = k.seen;
      told = starts_nothing v.seen;
      stage = tt;
      alone = λ e. absurd (off e);
      worn = λ e. absurd (off e);
    }

    old : (i t : ℕ) (u : Knowledge) → get_elem? (s.views ++ newcomer v ∷ []) i ≡ some u → ticket_of u.stage ≡ Some t → get_elem? s.views i ≡ some u
    old i t u ati has = ⊎_elim (λ e. e) (λ e. absurd (let no : None ≡ Some t = ap (λ (z : Knowledge). ticket_of z.stage) e ∙ has in cc no)) (at_snoc s.views (newcomer v) u i ati)

    later : Placed r.store r.serving s → Placed r.store r.serving record { words = s.words; homes = s.homes; views = s.views ++ newcomer v ∷ [] }
    later (inl home) = inl home
    later (inr (j, u, atj, serves, out)) = inr (j, u, at_longer s.views (newcomer v ∷ []) j u atj, serves, out)

knows_informed : (start : List ℕ) (m : MemView) (writer ticket serving id other : ℕ) (v w : Knowledge) → v.stage ≡ Idle → (b shorter : Bool) → v.writes ≡ b
    → nat_lt (length v.seen) (length w.seen) ≡ shorter → Knows start m writer ticket serving id v → Knows start m writer ticket serving other w
    → Knows start m writer ticket serving id (if b then record v { told = w.seen } else if shorter then record v { seen = w.seen; told = v.seen } else record v { told = w.seen })
knows_informed start m writer ticket serving id other v w idle true shorter writes is k l = record {
  begun = k.begun;
  seen = k.seen;
  told = subst (λ (xs : List Write). StartsWith xs w.seen) (sym ((k.alone writes).1.0)) l.seen;
  stage = subst (InStage m ticket serving (record v { told = w.seen })) (sym idle) tt;
  alone = k.alone;
  worn = k.worn;
}
knows_informed start m writer ticket serving id other v w idle false true writes is k l = record {
  begun = k.begun;
  seen = l.seen;
  told = starts_shorter m.history w.seen v.seen l.seen k.seen (let lt = ltb-true (length v.seen) (length w.seen) is in omega arith);
  stage = subst (InStage m ticket serving (record v { seen = w.seen; told = v.seen })) (sym idle) tt;
  alone = λ e. absurd (off (sym writes ∙ e));
  worn = k.worn;
}
knows_informed start m writer ticket serving id other v w idle false false writes is k l = record {
  begun = k.begun;
  seen = k.seen;
  told = starts_shorter m.history v.seen w.seen k.seen l.seen (ltb-false (length v.seen) (length w.seen) is);
  stage = subst (InStage m ticket serving (record v { told = w.seen })) (sym idle) tt;
  alone = k.alone;
  worn = k.worn;
}

informed_stage : (v w : Knowledge) (b shorter : Bool)
    → (if b then record v { told = w.seen } else if shorter then record v { seen = w.seen; told = v.seen } else record v { told = w.seen }).stage ≡ v.stage
informed_stage v w true shorter = refl
informed_stage v w false true = refl
informed_stage v w false false = refl

knows_spent : (start : List ℕ) (m : MemView) (writer ticket serving id : ℕ) → Knows start m writer ticket serving id spent
knows_spent start m writer ticket serving id = record {
  begun = λ e. absurd (true≢false e);
  seen = starts_nothing m.history;
  told = starts_nothing [];
  stage = tt;
  alone = λ e. absurd (off e);
  worn = λ e. absurd (off e);
}

pub joins : (start : List ℕ) (id other : ℕ) (v w : Knowledge) → v.stage ≡ Idle → w.stage ≡ Idle → Joins (Ruled start) id v other w (informed v w) spent
joins start id other v w idle idle' s r at apart at' =
    let both = informed v w in
    let there : get_elem? s.views other ≡ some w = sym (set_else s.views id other both apart) ∙ at' in
    let stage : both.stage ≡ Idle = informed_stage v w v.writes (nat_lt (length v.seen) (length w.seen)) ∙ idle in
    let first = stays start s r s.words r.ticket id v both at r.words (omega arith) r.bound
    (knows_informed start r.store r.writer r.ticket r.serving id other v w idle v.writes (nat_lt (length v.seen) (length w.seen)) refl refl (r.knows id v at) (r.knows other w there))
    (free_without s.views id both stage) (λ e. absurd (let no : Idle ≡ Serving r.serving = sym idle ∙ e in cc no)) in
    let s' : State' = record { words = s.words; homes = s.homes; views = set s.views id both } in
    stays start s' first s'.words first.ticket other w spent at' first.words (omega arith) first.bound
    (knows_spent start first.store first.writer first.ticket first.serving other)
    (free_without s'.views other spent refl) (λ e. absurd (let no : Idle ≡ Serving first.serving = sym idle' ∙ e in cc no))

-- what a look at the served ticket told the seat that waits
pub saw_turn : (n : ℕ) (m old m' : Sat) (seen t : ℕ) → looked (step n 1 0 0 none) m seen m' → m ≡ old → old.0.stage ≡ Waiting t → old.1 ≡ [] → seen ≡ t
    → (x : MemView) × FoundStore old.0 x × (m' ≡ sat (serving_with t x old.0) ((0, Some x) ∷ []))
saw_turn n m old m' seen t says same waits bare is =
    let tells : MatchBool (seen == t) ((x : MemView) × FoundStore old.0 x × (m' ≡ sat (serving_with t x old.0) ((0, Some x) ∷ old.1))) (m' ≡ old) =
    subst (λ (z : Sat). looked (step n 1 0 0 none) z seen m') same says t waits in
    let yes : (seen == t) ≡ true = grind (arith, nat_tests, is) in
    let got = subst (λ (b : Bool). MatchBool b ((x : MemView) × FoundStore old.0 x × (m' ≡ sat (serving_with t x old.0) ((0, Some x) ∷ old.1))) (m' ≡ old)) yes tells in
    (got.0, got.1, got.2 ∙ ap (λ (c : List (ℕ × Option MemView)). sat (serving_with t got.0 old.0) ((0, Some got.0) ∷ c)) bare)

pub saw_none : (n : ℕ) (m old m' : Sat) (seen t : ℕ) → looked (step n 1 0 0 none) m seen m' → m ≡ old → old.0.stage ≡ Waiting t → (seen ≡ t → ⊥) → m' ≡ old
saw_none n m old m' seen t says same waits not =
    let tells : MatchBool (seen == t) ((x : MemView) × FoundStore old.0 x × (m' ≡ sat (serving_with t x old.0) ((0, Some x) ∷ old.1))) (m' ≡ old) =
    subst (λ (z : Sat). looked (step n 1 0 0 none) z seen m') same says t waits in
    let no : (seen == t) ≡ false = grind (arith, nat_tests, not) in
    subst (λ (b : Bool). MatchBool b ((x : MemView) × FoundStore old.0 x × (m' ≡ sat (serving_with t x old.0) ((0, Some x) ∷ old.1))) (m' ≡ old)) no tells
