-- What a turn of a loop over children does.
use Rattle.std.proofs.Common.{◌≡◌, ℕ, zero, suc, ◌+◌, ◌-◌, List, [], ◌∷◌, ◌++◌, length, map, flat_map, take, drop, set, refl, sym, ap, ap₂, ◌∙◌, subst, Some, slice_get, add-one, append_assoc, drop-drop, length-append}
use Rattle.std.proofs.lemmas.List.{drop-map, map-append, take_rest}
use Rattle.std.proofs.lemmas.Grind.{flat_map-append}
use Rattle.h5w_model.specs.Images.{pieces}
use Rattle.h5w_model.specs.declared.piece.Write.{Write}
use Rattle.h5w_cache.specs.declared.moves.Move.{Move}
use Rattle.h5w_bt_nodes.specs.Blocks.{EachBy, each_by, joined_blocks, news, writes_of}
use Rattle.h5w_bt_nodes.proofs.Places.{some_same, none_is_not}

-- places behind those that were taken, and behind as many more
further : (k n : ℕ) (ps : List ℕ) → drop n (drop k ps) ≡ drop (k + n) ps
further k n ps = drop-drop n k ps

-- the places of the moves behind those that were taken
pub news_rest : (ms : List Move) (k : ℕ) → news (take (length ms - k) (drop k ms)) ≡ drop k (news ms)
news_rest ms k = ap news (take_rest ms k) ∙ sym (drop-map (λ (m : Move). m.new) k ms)

pub drop_at_place : {T : Type 0} (cs : List T) (i : ℕ) (c : T) → slice_get cs i ≡ Some c → drop i cs ≡ c ∷ drop (suc i) cs
drop_at_place [] i c e = absurd (none_is_not c e)
drop_at_place (x ∷ cs) zero c e = ap (λ y. y ∷ cs) (some_same x c e)
drop_at_place (x ∷ cs) (suc i) c e = drop_at_place cs i c e

-- one more of them
pub each_turn : {T A : Type 0} (f : List ℕ → T → A) (n : T → ℕ) (ps : List ℕ) (k : ℕ) (cs : List T) (i : ℕ) (c : T) → slice_get cs i ≡ Some c →
    each_by f n (drop k ps) (drop i cs) ≡ f (drop k ps) c ∷ each_by f n (drop (k + n c) ps) (drop (i + 1) cs)
each_turn f n ps k cs i c e =
    ap (each_by f n (drop k ps)) (drop_at_place cs i c e)
    ∙ ap₂ (λ (l : List ℕ) (j : ℕ). f (drop k ps) c ∷ each_by f n l (drop j cs)) (further k (n c) ps) (sym (add-one i))

pub all_turn : {T : Type 0} (R : List ℕ → T → Type 0) (n : T → ℕ) (ps : List ℕ) (k : ℕ) (cs : List T) (i : ℕ) (c : T) → slice_get cs i ≡ Some c → R (drop k ps) c →
    EachBy R n (drop (k + n c) ps) (drop (i + 1) cs) → EachBy R n (drop k ps) (drop i cs)
all_turn R n ps k cs i c e r h =
    let a : EachBy R n (drop (k + n c) ps) (drop (suc i) cs) = subst (λ (j : ℕ). EachBy R n (drop (k + n c) ps) (drop j cs)) (add-one i) h in
    let b : EachBy R n (drop (n c) (drop k ps)) (drop (suc i) cs) = subst (λ (l : List ℕ). EachBy R n l (drop (suc i) cs)) (sym (further k (n c) ps)) a in
    subst (EachBy R n (drop k ps)) (sym (drop_at_place cs i c e)) (r, b)

-- how many places are left for the rest
pub count_turn : {T X : Type 0} (s : T → List X) (cs : List T) (i : ℕ) (c : T) → slice_get cs i ≡ Some c → length (flat_map s (drop i cs)) ≡ length (s c) + length (flat_map s (drop (i + 1) cs))
count_turn s cs i c e =
    ap (λ (l : List _). length (flat_map s l)) (drop_at_place cs i c e)
    ∙ length-append (s c) (flat_map s (drop (suc i) cs))
    ∙ ap (λ (j : ℕ). length (s c) + length (flat_map s (drop j cs))) (sym (add-one i))

pub drop_set_turn : {T : Type 0} (cs : List T) (i : ℕ) (y : T) → drop (suc i) (set cs i y) ≡ drop (suc i) cs
drop_set_turn [] i y = refl
drop_set_turn (x ∷ cs) zero y = refl
drop_set_turn (x ∷ cs) (suc i) y = drop_set_turn cs i y

pub take_set_turn : {T : Type 0} (cs : List T) (i : ℕ) (c y : T) → slice_get cs i ≡ Some c → take (suc i) (set cs i y) ≡ take i cs ++ y ∷ []
take_set_turn [] i c y e = absurd (none_is_not c e)
take_set_turn (x ∷ cs) zero c y e = refl
take_set_turn (x ∷ cs) (suc i) c y e = ap (λ l. x ∷ l) (take_set_turn cs i c y e)

-- one more of them is changed
pub settle_turn : {T : Type 0} (f : List ℕ → T → T) (n : T → ℕ) (ps : List ℕ) (k : ℕ) (cs : List T) (i : ℕ) (c y : T) → slice_get cs i ≡ Some c → y ≡ f (drop k ps) c →
    take (i + 1) (set cs i y) ++ each_by f n (drop (k + n c) ps) (drop (i + 1) (set cs i y)) ≡ take i cs ++ each_by f n (drop k ps) (drop i cs)
settle_turn f n ps k cs i c y e h =
    ap (λ (j : ℕ). take j (set cs i y) ++ each_by f n (drop (k + n c) ps) (drop j (set cs i y))) (add-one i)
    ∙ ap₂ (λ (a b : List _). a ++ each_by f n (drop (k + n c) ps) b) (take_set_turn cs i c y e) (drop_set_turn cs i y)
    ∙ append_assoc (take i cs) (y ∷ []) (each_by f n (drop (k + n c) ps) (drop (suc i) cs))
    ∙ ap (λ (l : List _). take i cs ++ l) (ap (λ (z : _). z ∷ each_by f n (drop (k + n c) ps) (drop (suc i) cs)) h
    ∙ ap (λ (j : ℕ). f (drop k ps) c ∷ each_by f n (drop (k + n c) ps) (drop j cs)) (sym (add-one i)) ∙ sym (each_turn f n ps k cs i c e))

pub count_set_turn : {T X : Type 0} (s : T → List X) (cs : List T) (i : ℕ) (c y : T) → slice_get cs i ≡ Some c → length (flat_map s (drop i cs)) ≡ length (s c) + length (flat_map s (drop (i + 1) (set cs i y)))
count_set_turn s cs i c y e =
    count_turn s cs i c e ∙ ap (λ (l : List _). length (s c) + length (flat_map s l)) (ap (λ (j : ℕ). drop j cs) (add-one i) ∙ sym (drop_set_turn cs i y) ∙ ap (λ (j : ℕ). drop j (set cs i y)) (sym (add-one i)))

-- a list that grew by one, and what is still to come
pub list_turn : {X Y : Type 0} (g : X → Y) (done now : List X) (x : X) (rest all : List Y) → now ≡ done ++ x ∷ [] → map g done ++ (g x ∷ rest) ≡ all → map g now ++ rest ≡ all
list_turn g done now x rest all e h =
    ap (λ (l : List _). map g l ++ rest) e ∙ ap (λ (l : List _). l ++ rest) (map-append g done (x ∷ [])) ∙ append_assoc (map g done) (g x ∷ []) rest ∙ h

-- writes of one more node, and those still to come
pub writes_turn : (done now all : List Write) (bs : List (ℕ × List ℕ)) (more : List (List (ℕ × List ℕ))) → now ≡ done ++ writes_of bs → done ++ writes_of (joined_blocks (bs ∷ more)) ≡ all → now ++ writes_of (joined_blocks more) ≡ all
writes_turn done now all bs more e h =
    ap (λ (l : List _). l ++ writes_of (joined_blocks more)) e ∙ append_assoc done (writes_of bs) (writes_of (joined_blocks more))
    ∙ ap (λ (l : List _). done ++ l) (sym (flat_map-append (λ (b : ℕ × List ℕ). pieces b.0 b.1) bs (joined_blocks more))) ∙ h
