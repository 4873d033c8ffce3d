use Rattle.std.proofs.Common.{◌≡◌, ◌+◌, ◌<◌, suc, ◌∷◌, drop, length, get_or, ◌∙◌, ap, subst, arith, ℕ, List}
use Rattle.std.specs.List.{All}
use Rattle.std.proofs.lemmas.List.{drop_all}
use Rattle.std.proofs.lemmas.List.Elements.{All-head, All-tail, All-weaker}
use Rattle.std.proofs.Math.Seq.{drop-cons}
use Rattle.h5w_model.specs.declared.cell.Key.{Key}
use Rattle.h5w_index.specs.Held.{view_of}
use Rattle.h5w_index.specs.Views.{HasSlot}
use Rattle.h5w_index.specs.Placing.{IsPartly}
use Rattle.h5w_index.proofs.DepthLemmas.{depth_laws}
use Rattle.h5w_index.proofs.PlacingLemmas.{placing_laws}
use Rattle.h5w_index.proofs.ToldLemmas.{unset_tells}
use Rattle.h5w_writer.proofs.taking.unset.Goals as goal

abbrev no_key : Key
no_key = record { i = 0; j = 0 }

-- the first of those that are left
next_number : (xs : List Key) (i : ℕ) → i < length xs → drop i xs ≡ get_or xs i no_key ∷ drop (i + 1) xs
next_number xs i inside = drop-cons xs i no_key inside ∙ ap (λ (n : ℕ). get_or xs i no_key ∷ drop n xs) (let e : suc i ≡ i + 1 = omega arith in e)

pub unset-requires-clause-slot : goal.unset-requires-clause-slot
unset-requires-clause-slot c =
    let l = c.loop-key in
    let added = c.args.added.now in
    All-head (HasSlot (view_of l.index)) (get_or added l.key-index no_key) (drop (l.key-index + 1) added) (subst (λ (xs : List Key). All (HasSlot (view_of l.index)) xs) (next_number added l.key-index c.loop-key-test.true) l.invariant.slots)

pub loop-key-init : goal.loop-key-init
loop-key-init c = record { sound = c.requires.sound; slots = c.requires.slots; goes = λ d to v p. p; within = λ lines across x. x }

pub loop-key-preserved : goal.loop-key-preserved
loop-key-preserved c =
    let l = c.loop-key in
    let added = c.args.added.now in
    let w = view_of l.index in
    let u = view_of c.unset.new.self in
    let x = get_or added l.key-index no_key in
    let rest = drop (l.key-index + 1) added in
    let split = next_number added l.key-index c.loop-key-test.true in
    let here = subst (λ (xs : List Key). All (HasSlot w) xs) split l.invariant.slots in
    let slot = All-head (HasSlot w) x rest here in
    let told = unset_tells x w u l.invariant.sound slot c.unset.ensures.unset in
    record {
      sound = c.unset.ensures.sound;
      slots = All-weaker (HasSlot w) (HasSlot u) told.like.slots rest (All-tail (HasSlot w) x rest here);
      goes = λ d to v p. placing_laws.unset d to x v w u rest c.unset.ensures.unset (subst (λ (xs : List Key). IsPartly d to v xs w) split (l.invariant.goes d to v p));
      within = λ lines across y. depth_laws.unset lines across x w u l.invariant.sound slot c.unset.ensures.unset (l.invariant.within lines across y);
    }

pub returns-clause-sound : goal.returns-clause-sound
returns-clause-sound c = c.loop-key.invariant.sound

pub returns-clause-within : goal.returns-clause-within
returns-clause-within c = c.loop-key.invariant.within

pub returns-clause-taken_back : goal.returns-clause-taken_back
returns-clause-taken_back c d to v p =
    let l = c.loop-key in
    subst (λ (xs : List Key). IsPartly d to v xs (view_of l.index)) (drop_all l.key-index c.args.added.now (omega (arith, c.loop-key-test.false))) (l.invariant.goes d to v p)
