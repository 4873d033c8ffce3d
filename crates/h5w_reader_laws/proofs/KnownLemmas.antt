-- Known addresses on one image.
use Rattle.std.proofs.Common.{◌≡◌, ◌≢◌, ℕ, suc, false, List, [], ◌∷◌, ◌++◌, length, take, get_or, Result, Ok, Err, refl, sym, ◌∙◌, ap, subst, inl, inr}
use Rattle.std.specs.Prelude.{◌==◌}
use Rattle.std.proofs.lemmas.Bool.{cond_both, eqb-false, or_parts, true≢false}
use Rattle.std.proofs.lemmas.List.{append-nil}
use Rattle.h5w_model.specs.Numbers.{undefined}
use Rattle.h5w_model.specs.Programs.{Prog, ret, eval, bind, and_then, Visit, visits}
use Rattle.h5w_model.specs.Datasets.{Described, then_also}
use Rattle.h5w_model.specs.Tables.{InPlace, in_place, address_behind, each_of, table_of}
use Rattle.h5w_model.specs.Prefixed.{StaysDefined}
use Rattle.h5w_model.specs.Calls.{some_unknown, address_or, each_unknown, table_from}
use Rattle.h5w_model.specs.declared.cell.Key.{Key}
use Rattle.h5w_model.specs.declared.refusal.ReadError.{ReadError}
use Rattle.h5w_laws.proofs.ProgramLemmas.{visits_bind, eval_and_then}
use Rattle.h5w_laws.proofs.ResultLemmas.{and_then_ok, and_then_from}
use Rattle.h5w_reader_laws.specs.Known.{AreKnown, AreAmong, KnownAddresses}
use Rattle.h5w_reader_laws.proofs.BlockLemmas.{onward}

-- ---- Visits among others

among_itself : (vs : List Visit) → AreAmong vs vs
among_itself [] = tt
among_itself (v ∷ vs) = inl (refl, among_itself vs)

among_one_more : (vs : List Visit) (w : Visit) (ws : List Visit) → AreAmong vs ws → AreAmong vs (w ∷ ws)
among_one_more [] w ws h = tt
among_one_more (v ∷ vs) w ws h = inr h

among_joined : (vs ws xs ys : List Visit) → AreAmong vs ws → AreAmong xs ys → AreAmong (vs ++ xs) (ws ++ ys)
among_joined [] [] xs ys h g = g
among_joined [] (w ∷ ws) xs ys h g = among_one_more xs w (ws ++ ys) (among_joined [] ws xs ys tt g)
among_joined (v ∷ vs) [] xs ys h g = absurd h
among_joined (v ∷ vs) (w ∷ ws) xs ys (inl h) g = inl (h.0, among_joined vs ws xs ys h.1 g)
among_joined (v ∷ vs) (w ∷ ws) xs ys (inr h) g = inr (among_joined (v ∷ vs) ws xs ys h g)

-- ---- An address, and those behind it

abbrev told_first : ℕ → Prog (Result (List ℕ) ReadError) → Prog (Result (List ℕ) ReadError)
told_first a q = and_then q (λ rest. ret (Ok (a ∷ rest)))

abbrev joined : Prog (Result ℕ ReadError) → Prog (Result (List ℕ) ReadError) → Prog (Result (List ℕ) ReadError)
joined p q = and_then p (λ a. told_first a q)

told_first_gives : (img : List ℕ) (a : ℕ) (p q : Prog (Result (List ℕ) ReadError)) → eval img p ≡ eval img q → eval img (told_first a p) ≡ eval img (told_first a q)
told_first_gives img a p q h =
    let f : List ℕ → Prog (Result (List ℕ) ReadError) = λ rest. ret (Ok (a ∷ rest)) in
    eval_and_then img p f ∙ ap (λ (r : Result (List ℕ) ReadError). then_also r (λ rest. eval img (f rest))) h ∙ sym (eval_and_then img q f)

joined_gives : (img : List ℕ) (p q : Prog (Result ℕ ReadError)) (r s : Prog (Result (List ℕ) ReadError)) → eval img p ≡ eval img q → eval img r ≡ eval img s → eval img (joined p r) ≡ eval img (joined q s)
joined_gives img p q r s h g =
    eval_and_then img p (λ a. told_first a r)
    ∙ ap (λ (x : Result ℕ ReadError). then_also x (λ a. eval img (told_first a r))) h
    ∙ ap (λ (f : ℕ → Result (List ℕ) ReadError). then_also (eval img q) f) (λ i a. told_first_gives img a r s g i)
    ∙ sym (eval_and_then img q (λ a. told_first a s))

none_visited : (img : List ℕ) (a : ℕ) (r : Result (List ℕ) ReadError) → visits img (onward (λ rest. ret (Ok (a ∷ rest))) r) ≡ []
none_visited img a (Ok rest) = refl
none_visited img a (Err e) = refl

told_first_visits : (img : List ℕ) (a : ℕ) (q : Prog (Result (List ℕ) ReadError)) → visits img (told_first a q) ≡ visits img q
told_first_visits img a q =
    visits_bind img q (onward (λ rest. ret (Ok (a ∷ rest)))) ∙ ap (λ (vs : List Visit). visits img q ++ vs) (none_visited img a (eval img q)) ∙ append-nil (visits img q)

told_among : (img : List ℕ) (r s : Prog (Result (List ℕ) ReadError)) (x : Result ℕ ReadError) → AreAmong (visits img r) (visits img s)
    → AreAmong (visits img (onward (λ a. told_first a r) x)) (visits img (onward (λ a. told_first a s) x))
told_among img r s (Ok a) h =
    subst (λ (vs : List Visit). AreAmong vs (visits img (told_first a s))) (sym (told_first_visits img a r))
    (subst (λ (vs : List Visit). AreAmong (visits img r) vs) (sym (told_first_visits img a s)) h)
told_among img r s (Err e) h = tt

-- with looks of the first that are among those of another with the same answer
bind_among : {A B : Type 0} (img : List ℕ) (p q : Prog A) (f g : A → Prog B) → eval img p ≡ eval img q → AreAmong (visits img p) (visits img q)
    → AreAmong (visits img (f (eval img q))) (visits img (g (eval img q))) → AreAmong (visits img (bind p f)) (visits img (bind q g))
bind_among {A} img p q f g e first second =
    subst (λ (vs : List Visit). AreAmong vs (visits img (bind q g))) (sym (visits_bind img p f))
    (subst (λ (vs : List Visit). AreAmong (visits img p ++ visits img (f (eval img p))) vs) (sym (visits_bind img q g))
    (among_joined (visits img p) (visits img q) (visits img (f (eval img p))) (visits img (g (eval img q))) first
    (subst (λ (x : A). AreAmong (visits img (f x)) (visits img (g (eval img q)))) (sym e) second)))

-- ---- Behind the blocks in place

-- each address that is known and defined is the one behind these blocks in place
abbrev pub AreBehind : List ℕ → InPlace → List ℕ → List Key → Type 0
AreBehind img b known [] = Unit {0}
AreBehind img b [] (k ∷ ks) = Unit {0}
AreBehind img b (a ∷ known) (k ∷ ks) = (a ≢ undefined → eval img (address_behind b k) ≡ Ok a) × AreBehind img b known ks

-- what is not known is looked up as without
nothing_known : (b : InPlace) (ks : List Key) → each_unknown b [] ks ≡ each_of (address_behind b) ks
nothing_known b [] = refl
nothing_known b (k ∷ ks) = ap (λ (q : Prog (Result (List ℕ) ReadError)). joined (address_behind b k) q) (nothing_known b ks)

address_gives : (img : List ℕ) (b : InPlace) (a : ℕ) (k : Key) → (a ≢ undefined → eval img (address_behind b k) ≡ Ok a) → eval img (address_or b a k) ≡ eval img (address_behind b k)
address_gives img b a k h =
    cond_both (a == undefined) (address_behind b k) (ret (Ok a)) (λ (p : Prog (Result ℕ ReadError)). eval img p ≡ eval img (address_behind b k))
    (λ t. refl) (λ t. sym (h (eqb-false a undefined t)))

each_gives : (img : List ℕ) (b : InPlace) (known : List ℕ) (ks : List Key) → AreBehind img b known ks → eval img (each_unknown b known ks) ≡ eval img (each_of (address_behind b) ks)
each_gives img b [] ks h = ap (eval img) (nothing_known b ks)
each_gives img b (a ∷ known) [] h = refl
each_gives img b (a ∷ known) (k ∷ ks) h =
    joined_gives img (address_or b a k) (address_behind b k) (each_unknown b known ks) (each_of (address_behind b) ks) (address_gives img b a k h.0) (each_gives img b known ks h.1)

each_among : (img : List ℕ) (b : InPlace) (known : List ℕ) (ks : List Key) → AreBehind img b known ks → AreAmong (visits img (each_unknown b known ks)) (visits img (each_of (address_behind b) ks))
each_among img b [] ks h =
    subst (λ (p : Prog (Result (List ℕ) ReadError)). AreAmong (visits img p) (visits img (each_of (address_behind b) ks))) (sym (nothing_known b ks))
    (among_itself (visits img (each_of (address_behind b) ks)))
each_among img b (a ∷ known) [] h = tt
each_among img b (a ∷ known) (k ∷ ks) h =
    bind_among img (address_or b a k) (address_behind b k) (onward (λ x. told_first x (each_unknown b known ks))) (onward (λ x. told_first x (each_of (address_behind b) ks)))
    (address_gives img b a k h.0)
    (cond_both (a == undefined) (address_behind b k) (ret (Ok a)) (λ (p : Prog (Result ℕ ReadError)). AreAmong (visits img p) (visits img (address_behind b k)))
    (λ t. among_itself (visits img (address_behind b k))) (λ t. tt))
    (told_among img (each_unknown b known ks) (each_of (address_behind b) ks) (eval img (address_behind b k)) (each_among img b known ks h.1))

-- where all are known
all_known : (img : List ℕ) (b : InPlace) (known : List ℕ) (ks : List Key) → AreBehind img b known ks → some_unknown known ks ≡ false
    → eval img (each_of (address_behind b) ks) ≡ Ok (take (length ks) known)
all_known img b known [] h all = refl
all_known img b [] (k ∷ ks) h all = absurd (true≢false all)
all_known img b (a ∷ known) (k ∷ ks) h all =
    let parts = or_parts (a == undefined) (some_unknown known ks) all in
    let rest : List ℕ = take (length ks) known in
    and_then_from img (address_behind b k) (λ x. told_first x (each_of (address_behind b) ks)) a (a ∷ rest) (h.0 (eqb-false a undefined parts.0))
    (and_then_from img (each_of (address_behind b) ks) (λ xs. ret (Ok (a ∷ xs))) rest (a ∷ rest) (all_known img b known ks h.1 parts.1) refl)

-- ---- From the blocks in place on

behind_place : (img : List ℕ) (d : Described) (b : InPlace) (known : List ℕ) (ks : List Key) → eval img (in_place d) ≡ Ok b → AreKnown img d known ks → AreBehind img b known ks
behind_place img d b known [] is h = tt
behind_place img d b [] (k ∷ ks) is h = tt
behind_place img d b (a ∷ known) (k ∷ ks) is h = (
  λ some.
      sym (ap (λ (r : Result InPlace ReadError). then_also r (λ p. eval img (address_behind p k))) is) ∙ sym (eval_and_then img (in_place d) (λ p. address_behind p k)) ∙ h.0 some,
  behind_place img d b known ks is h.1,
)

pub known_place : (img : List ℕ) (d : Described) (b : InPlace) (known : List ℕ) (ks : List Key) → eval img (in_place d) ≡ Ok b → AreBehind img b known ks → AreKnown img d known ks
known_place img d b known [] is h = tt
known_place img d b [] (k ∷ ks) is h = tt
known_place img d b (a ∷ known) (k ∷ ks) is h = (
  λ some. and_then_from img (in_place d) (λ p. address_behind p k) b a is (h.0 some),
  known_place img d b known ks is h.1,
)

place_both : (img : List ℕ) (d : Described) (P : Result InPlace ReadError → Type 0) → ((b : InPlace) → eval img (in_place d) ≡ Ok b → P (Ok b)) → ((e : ReadError) → P (Err e))
    → P (eval img (in_place d))
place_both img d P f g = go (eval img (in_place d)) refl
  where
    go : (r : Result InPlace ReadError) → eval img (in_place d) ≡ r → P r
    go (Ok b) is = f b is
    go (Err e) is = g e

from_gives : (img : List ℕ) (d : Described) (known : List ℕ) (ks : List Key) → AreKnown img d known ks → eval img (and_then (in_place d) (λ b. each_unknown b known ks)) ≡ eval img (and_then (in_place d) (λ b. each_of (address_behind b) ks))
from_gives img d known ks h =
    eval_and_then img (in_place d) (λ b. each_unknown b known ks)
    ∙ place_both img d (λ r. then_also r (λ b. eval img (each_unknown b known ks)) ≡ then_also r (λ b. eval img (each_of (address_behind b) ks)))
    (λ b is. each_gives img b known ks (behind_place img d b known ks is h)) (λ e. refl)
    ∙ sym (eval_and_then img (in_place d) (λ b. each_of (address_behind b) ks))

from_among : (img : List ℕ) (d : Described) (known : List ℕ) (ks : List Key) → AreKnown img d known ks
    → AreAmong (visits img (and_then (in_place d) (λ b. each_unknown b known ks))) (visits img (and_then (in_place d) (λ b. each_of (address_behind b) ks)))
from_among img d known ks h =
    bind_among img (in_place d) (in_place d) (onward (λ b. each_unknown b known ks)) (onward (λ b. each_of (address_behind b) ks)) refl (among_itself (visits img (in_place d)))
    (place_both img d (λ r. AreAmong (visits img (onward (λ b. each_unknown b known ks) r)) (visits img (onward (λ b. each_of (address_behind b) ks) r)))
    (λ b is. each_among img b known ks (behind_place img d b known ks is h)) (λ e. tt))

-- without a look
settled_gives : (img : List ℕ) (d : Described) (known : List ℕ) (ks : List Key) → AreKnown img d known ks → some_unknown known ks ≡ false
    → eval img (table_of d ks) ≡ Ok (take (length ks) known)
settled_gives img d known [] h all = refl
settled_gives img d [] (k ∷ ks) h all = absurd (true≢false all)
settled_gives img d (a ∷ known) (k ∷ ks) h all =
    let parts = or_parts (a == undefined) (some_unknown known ks) all in
    let place = and_then_ok img (in_place d) (λ p. address_behind p k) a (h.0 (eqb-false a undefined parts.0)) in
    and_then_from img (in_place d) (λ b. each_of (address_behind b) (k ∷ ks)) place.0 (take (length (k ∷ ks)) (a ∷ known)) place.1
    (all_known img place.0 (a ∷ known) (k ∷ ks) (behind_place img d place.0 (a ∷ known) (k ∷ ks) place.1 h) all)

pub gives_known : (img : List ℕ) (d : Described) (known : List ℕ) (ks : List Key) → AreKnown img d known ks → eval img (table_from known d ks) ≡ eval img (table_of d ks)
gives_known img d known [] h = refl
gives_known img d known (k ∷ ks) h =
    let look : Prog (Result (List ℕ) ReadError) = and_then (in_place d) (λ b. each_unknown b known (k ∷ ks)) in
    cond_both (some_unknown known (k ∷ ks)) look (ret (Ok (take (length (k ∷ ks)) known))) (λ (p : Prog (Result (List ℕ) ReadError)). eval img p ≡ eval img (table_of d (k ∷ ks)))
    (λ t. from_gives img d known (k ∷ ks) h)
    (λ t. sym (settled_gives img d known (k ∷ ks) h t))

looks_known : (img : List ℕ) (d : Described) (known : List ℕ) (ks : List Key) → AreKnown img d known ks → AreAmong (visits img (table_from known d ks)) (visits img (table_of d ks))
looks_known img d known [] h = tt
looks_known img d known (k ∷ ks) h =
    let look : Prog (Result (List ℕ) ReadError) = and_then (in_place d) (λ b. each_unknown b known (k ∷ ks)) in
    cond_both (some_unknown known (k ∷ ks)) look (ret (Ok (take (length (k ∷ ks)) known))) (λ (p : Prog (Result (List ℕ) ReadError)). AreAmong (visits img p) (visits img (table_of d (k ∷ ks))))
    (λ t. from_among img d known (k ∷ ks) h)
    (λ t. tt)

pub from_nothing : (d : Described) (ks : List Key) → table_from [] d ks ≡ table_of d ks
from_nothing d [] = refl
from_nothing d (k ∷ ks) = ap (λ (f : InPlace → Prog (Result (List ℕ) ReadError)). and_then (in_place d) f) (λ i b. nothing_known b (k ∷ ks) i)

pub known_addresses : KnownAddresses
known_addresses = record { gives = gives_known; looks = looks_known; from_nothing = from_nothing }

-- ---- By the addresses that an image gives

-- known addresses that are still those of a table are right
each_known : (img : List ℕ) (b : InPlace) (known table : List ℕ) (ks : List Key) → eval img (each_of (address_behind b) ks) ≡ Ok table
    → ((k : ℕ) → StaysDefined (get_or known k undefined) (get_or table k undefined)) → AreBehind img b known ks
each_known img b known table [] is stays = tt
each_known img b [] table (k ∷ ks) is stays = tt
each_known img b (a ∷ known) table (k ∷ ks) is stays =
    let first = and_then_ok img (address_behind b k) (λ x. told_first x (each_of (address_behind b) ks)) table is in
    let rest = and_then_ok img (each_of (address_behind b) ks) (λ xs. ret (Ok (first.0 ∷ xs))) table first.2 in
    let are : first.0 ∷ rest.0 ≡ table = told_list (first.0 ∷ rest.0) table rest.2 in
    let kept : (n : ℕ) → StaysDefined (get_or (a ∷ known) n undefined) (get_or (first.0 ∷ rest.0) n undefined) =
    (λ n. subst (λ (t : List ℕ). StaysDefined (get_or (a ∷ known) n undefined) (get_or t n undefined)) (sym are) (stays n)) in (
      λ some. first.1 ∙ ap (λ x. Ok x) (kept 0 some),
      each_known img b known rest.0 ks rest.1 (λ n. kept (suc n)),
    )
  where
    told_list : (xs ys : List ℕ) → ◌≡◌ {A = Result (List ℕ) ReadError} (Ok xs) (Ok ys) → xs ≡ ys
    told_list xs ys h = cc

pub table_known : (img : List ℕ) (d : Described) (known table : List ℕ) (ks : List Key) → eval img (table_of d ks) ≡ Ok table
    → ((k : ℕ) → StaysDefined (get_or known k undefined) (get_or table k undefined)) → AreKnown img d known ks
table_known img d known table [] is stays = tt
table_known img d known table (k ∷ ks) is stays =
    let place = and_then_ok img (in_place d) (λ b. each_of (address_behind b) (k ∷ ks)) table is in
    known_place img d place.0 known (k ∷ ks) place.1 (each_known img place.0 known table (k ∷ ks) place.2 stays)
