-- Two looks at the dataset header.
use Rattle.std.proofs.Common.{◌≡◌, ℕ, zero, suc, ◌+◌, ◌-◌, ◌<◌, ◌≤◌, ◌^◌, inl, inr, min, Bool, true, false, cond, ltb, leb, List, [], ◌∷◌, ◌++◌, length, take, drop, Option, Some, None, Result, Ok, Err, refl, sym, ◌∙◌, ap, arith, length-append, length-take, subst, bit_and}
use Rattle.std.specs.Prelude.{nat_eq, ◌==◌}
use Rattle.std.specs.Cmp.Lexicographic.{pointwise}
use Rattle.std.specs.List.{starts_with}
use Rattle.std.proofs.lemmas.Bool.{cases_lt, leb-true, le-leb, lt-ltb, le-ltb, eq-eqb}
use Rattle.std.proofs.lemmas.Nat.{pow_pos}
use Rattle.std.proofs.lemmas.List.{take-append-drop, take-append-le, take_all}
use Rattle.std.proofs.Math.Seq.{drop-append-add}
use Rattle.h5w_model.specs.Headers.{prefix_at, prefix_tests, prefix_fields, header_view, header_flags, header_signature, messages_place, size_place, zeros}
use Rattle.h5w_model.specs.Numbers.{field}
use Rattle.h5w_model.specs.Programs.{below_end}
use Rattle.h5w_model.specs.Calls.{cut_header}
use Rattle.h5w_model.specs.declared.message.Prefix.{Prefix}
use Rattle.h5w_model.specs.declared.refusal.HeaderError.{HeaderError}
use Rattle.h5w_model.specs.declared.refusal.HeaderError.TheVariants as header_errors
use Rattle.h5w_model.specs.declared.refusal.ReadError.{ReadError}
use Rattle.h5w_model.specs.declared.refusal.ReadError.TheVariants.{Damaged}
use Rattle.h5w_model.specs.declared.refusal.BlockFault.TheVariants.{Cut}
use Rattle.h5w_model.proofs.CheckedLemmas.{checked-passed}
use Rattle.h5w_reader.specs.Headers.{IsView, IsWhole}
use Rattle.h5w_reader.proofs.ViewLemmas.{short_prefix, prefix_more, front_short, signature_long, version_long}

-- ---- What stands before the messages

-- whether chunk 0 is longer than a look
pub data Kind (v : List ℕ) : Type 0 where
  long : (p : Prefix) → prefix_at v ≡ Ok p → 512 < p.total → Kind v
  short : (p : Prefix) → prefix_at v ≡ Ok p → p.total ≤ 512 → Kind v
  other : (e : HeaderError) → prefix_at v ≡ Err e → Kind v

pub kind_of : (v : List ℕ) (r : Result Prefix HeaderError) → prefix_at v ≡ r → Kind v
kind_of v (Ok p) e = elim (cases_lt 512 p.total) [ inl h ↦ long p e h | inr h ↦ short p e h ]
kind_of v (Err f) e = other f e

-- other bytes behind it change no refusal but that of too few bytes
chosen : (t₁ u₁ t₂ t₃ t₄ u₄ : Bool) (e₂ e₃ : HeaderError) (got more need : ℕ) (p q : Prefix) (g : HeaderError) → u₁ ≡ true
    → cond t₁ (cond t₂ (cond t₃ (cond t₄ (Ok p) (Err (header_errors.Short need got))) (Err e₃)) (Err e₂)) (Err (header_errors.Short 6 got)) ≡ Err g
    → ((need got : ℕ) → g ≡ header_errors.Short need got → ⊥)
    → cond u₁ (cond t₂ (cond t₃ (cond u₄ (Ok q) (Err (header_errors.Short need more))) (Err e₃)) (Err e₂)) (Err (header_errors.Short 6 more)) ≡ Err g
chosen false u₁ t₂ t₃ t₄ u₄ e₂ e₃ got more need p q g six h some = absurd (some 6 got cc)
chosen true u₁ false t₃ t₄ u₄ e₂ e₃ got more need p q g six h some = rw six h
chosen true u₁ true false t₄ u₄ e₂ e₃ got more need p q g six h some = rw six h
chosen true u₁ true true true u₄ e₂ e₃ got more need p q g six h some = absurd cc
chosen true u₁ true true false u₄ e₂ e₃ got more need p q g six h some = absurd (some need got cc)

six_refused : (a b c d e f : ℕ) (rest z : List ℕ) (g : HeaderError) → prefix_at (a ∷ b ∷ c ∷ d ∷ e ∷ f ∷ rest) ≡ Err g
    → ((need got : ℕ) → g ≡ header_errors.Short need got → ⊥) → prefix_at ((a ∷ b ∷ c ∷ d ∷ e ∷ f ∷ rest) ++ z) ≡ Err g
unfolding prefix_at
six_refused a b c d e f rest z g h some =
    let x : List ℕ = a ∷ b ∷ c ∷ d ∷ e ∷ f ∷ rest in
    let place = messages_place (header_flags x) in
    chosen (leb 6 (length x)) (leb 6 (length (x ++ z))) (starts_with nat_eq x header_signature) (field x 4 1 == 2) (leb place (length x)) (leb place (length (x ++ z)))
    header_errors.Signature (header_errors.Version (field x 4 1)) (length x) (length (x ++ z)) place (prefix_fields x) (prefix_fields (x ++ z)) g
    (le-leb 6 (length (x ++ z)) (omega arith)) h some

pub refused_more : (v z : List ℕ) (g : HeaderError) → prefix_at v ≡ Err g → ((need got : ℕ) → g ≡ header_errors.Short need got → ⊥) → prefix_at (v ++ z) ≡ Err g
refused_more (a ∷ b ∷ c ∷ d ∷ e ∷ f ∷ rest) z g h some = six_refused a b c d e f rest z g h some
refused_more [] z g h some = let s = short_prefix [] (omega arith) in absurd (some 6 0 cc)
refused_more (a ∷ []) z g h some = let s = short_prefix (a ∷ []) (omega arith) in absurd (some 6 1 cc)
refused_more (a ∷ b ∷ []) z g h some = let s = short_prefix (a ∷ b ∷ []) (omega arith) in absurd (some 6 2 cc)
refused_more (a ∷ b ∷ c ∷ []) z g h some = let s = short_prefix (a ∷ b ∷ c ∷ []) (omega arith) in absurd (some 6 3 cc)
refused_more (a ∷ b ∷ c ∷ d ∷ []) z g h some = let s = short_prefix (a ∷ b ∷ c ∷ d ∷ []) (omega arith) in absurd (some 6 4 cc)
refused_more (a ∷ b ∷ c ∷ d ∷ e ∷ []) z g h some = let s = short_prefix (a ∷ b ∷ c ∷ d ∷ e ∷ []) (omega arith) in absurd (some 6 5 cc)

-- it takes 7 bytes or more
pub prefix_long : (v : List ℕ) (p : Prefix) → prefix_at v ≡ Ok p → 7 ≤ length v
unfolding prefix_at
prefix_long v p e =
    let s = checked-passed (prefix_tests v) (prefix_fields v) p e in
    let inside : messages_place (header_flags v) ≤ length v = leb-true (messages_place (header_flags v)) (length v) s.0.1.1.1.0 in
    let width = pow_pos (bit_and (header_flags v) 3) in
    let start : 6 ≤ size_place (header_flags v) = omega arith in
    omega arith

-- ---- A look

zeros_long : (n : ℕ) → length (zeros n) ≡ n
zeros_long zero = refl
zeros_long (suc n) = ap suc (zeros_long n) ∙ sym (omega arith)

zeros_drop : (k n : ℕ) → drop k (zeros n) ≡ zeros (n - k)
zeros_drop zero n = let e : n ≡ n - 0 = omega arith in ap zeros e
zeros_drop (suc k) zero = let e : 0 ≡ 0 - suc k = omega arith in ap zeros e
zeros_drop (suc k) (suc n) = let e : n - k ≡ suc n - suc k = omega arith in zeros_drop k n ∙ ap zeros e

-- what counts where the prefix is refused
abbrev refused_view : List ℕ → HeaderError → List ℕ
refused_view b e = elim e [ header_errors.Signature ↦ take 5 b ++ 0 ∷ [] | header_errors.Version n ↦ take 5 b ++ 0 ∷ [] | _ ↦ b ]

view_given : List ℕ → Result Prefix HeaderError → List ℕ
view_given b r = elim r [ Err e ↦ refused_view b e | Ok p ↦ cond (ltb 512 p.total) (b ++ zeros (512 - length b)) (take p.total b) ]

view_long : (look : List ℕ) (p : Prefix) → prefix_at look ≡ Ok p → 512 < p.total → header_view look ≡ look ++ zeros (512 - length look)
unfolding header_view view_given
view_long look p e h = ap (view_given look) e ∙ rw (lt-ltb 512 p.total h) refl

pub view_short : (look : List ℕ) (p : Prefix) → prefix_at look ≡ Ok p → p.total ≤ 512 → header_view look ≡ take p.total look
unfolding header_view view_given
view_short look p e h = ap (view_given look) e ∙ rw (le-ltb 512 p.total h) refl

view_refused : (look : List ℕ) (e : HeaderError) → prefix_at look ≡ Err e → header_view look ≡ refused_view look e
unfolding header_view view_given
view_refused look e h = ap (view_given look) h

-- a view that is no longer than the look, and shows no long chunk
within_look : (place : ℕ) (look v : List ℕ) → length look ≤ below_end place 512 → length v ≤ length look → ((p : Prefix) → prefix_at v ≡ Ok p → p.total ≤ 512) → place < 2 ^ 64 → IsView place v
within_look place look v fits less brief low = record {
  small = omega arith;
  long = λ p e h. let s = brief p e in absurd (omega arith);
  filled = λ p e h. let s = brief p e in absurd (omega arith);
  inside = λ _. omega arith;
}

view_tall : (place : ℕ) (look : List ℕ) (p : Prefix) → length look ≤ below_end place 512 → prefix_at look ≡ Ok p → 512 < p.total → IsView place (look ++ zeros (512 - length look))
view_tall place look p fits e h =
    let n = length look in
    let zs = zeros (512 - n) in
    let most = below_end place 512 in
    let few : n ≤ 512 = omega arith in
    let all : length (look ++ zs) ≡ length look + length zs = length-append look zs in
    let rest : length zs ≡ 512 - n = zeros_long (512 - n) in
    let full : length (look ++ zs) ≡ 512 = omega arith in
    let at_most : most ≡ n + (most - n) = omega arith in
    let behind : 512 - n - (most - n) ≡ 512 - most = omega arith in
    record {
      small = omega arith;
      long = λ _ _ _. full;
      filled = λ _ _ _. ap (λ k. drop k (look ++ zs)) at_most ∙ drop-append-add look zs (most - n) ∙ zeros_drop (most - n) (512 - n) ∙ ap zeros behind;
      inside = λ brief. let s = brief p (prefix_more look zs p e) in absurd (omega arith);
    }

same_prefix : (v : List ℕ) (p q : Prefix) → prefix_at v ≡ Ok p → prefix_at v ≡ Ok q → q.total ≡ p.total
same_prefix v p q e f = let x : q ≡ p = cc in ap (λ (r : Prefix). r.total) x

view_brief : (place : ℕ) (look : List ℕ) (p : Prefix) → length look ≤ below_end place 512 → place < 2 ^ 64 → prefix_at look ≡ Ok p → p.total ≤ 512 → IsView place (take p.total look)
view_brief place look p fits low e h =
    let n : length (take p.total look) ≡ min p.total (length look) = length-take p.total look in
    within_look place look (take p.total look) fits (omega arith)
    (λ q f. let g = subst (λ (b : List ℕ). prefix_at b ≡ Ok q) (take-append-drop p.total look) (prefix_more (take p.total look) (drop p.total look) q f) in
    let same = same_prefix look p q e g in omega arith)
    low

front_view : (place : ℕ) (look : List ℕ) → length look ≤ below_end place 512 → place < 2 ^ 64 → 6 ≤ length look → IsView place (take 5 look ++ 0 ∷ [])
front_view place look fits low six =
    let all : length (take 5 look ++ 0 ∷ []) ≡ length (take 5 look) + 1 = length-append (take 5 look) (0 ∷ []) in
    let n : length (take 5 look) ≡ min 5 (length look) = length-take 5 look in
    within_look place look (take 5 look ++ 0 ∷ []) fits (front_short look six) (λ q f. let seven = prefix_long (take 5 look ++ 0 ∷ []) q f in absurd (omega arith)) low

whole_view : (place : ℕ) (look : List ℕ) (f : HeaderError) → length look ≤ below_end place 512 → place < 2 ^ 64 → prefix_at look ≡ Err f → IsView place look
whole_view place look f fits low e = within_look place look look fits (omega arith) (λ q h. absurd cc) low

refused_seen : (place : ℕ) (look : List ℕ) (f : HeaderError) → length look ≤ below_end place 512 → place < 2 ^ 64 → prefix_at look ≡ Err f → IsView place (refused_view look f)
refused_seen place look header_errors.Signature fits low e = front_view place look fits low (signature_long look e)
refused_seen place look (header_errors.Version n) fits low e = front_view place look fits low (version_long look n e)
refused_seen place look f fits low e = whole_view place look f fits low e

view_by : (place : ℕ) (look : List ℕ) → Kind look → length look ≤ below_end place 512 → place < 2 ^ 64 → IsView place (header_view look)
view_by place look (long p e h) fits low = subst (IsView place) (sym (view_long look p e h)) (view_tall place look p fits e h)
view_by place look (short p e h) fits low = subst (IsView place) (sym (view_short look p e h)) (view_brief place look p fits low e h)
view_by place look (other f e) fits low = subst (IsView place) (sym (view_refused look f e)) (refused_seen place look f fits low e)

pub view_of : (place : ℕ) (look : List ℕ) → length look ≤ below_end place 512 → place < 2 ^ 64 → IsView place (header_view look)
view_of place look fits low = view_by place look (kind_of look (prefix_at look) refl) fits low

-- ---- Two looks

cut_given : ℕ → List ℕ → Result Prefix HeaderError → Option ReadError
cut_given place v r = elim r [
  | Ok p ↦ cond (ltb 512 p.total) None (cond (ltb (length v) p.total) (Some (Damaged place (Cut p.total (length v)))) None)
  | Err e ↦ elim e [ header_errors.Short need got ↦ Some (Damaged place (Cut need got)) | _ ↦ None ]
]

cut_short : (place : ℕ) (v : List ℕ) (need got : ℕ) → prefix_at v ≡ Err (header_errors.Short need got) → cut_header place v ≡ Some (Damaged place (Cut need got))
unfolding cut_given
cut_short place v need got e = ap (cut_given place v) e

-- a header that is not cut is no beginning of one whose chunk 0 is longer than a look
no_longer : (place : ℕ) (v z : List ℕ) (p : Prefix) → Kind v → IsWhole place v → ((q : Prefix) → prefix_at v ≡ Ok q → q.total ≤ 512) → prefix_at (v ++ z) ≡ Ok p → 512 < p.total → ⊥
no_longer place v z p (long q e h) whole brief f k = let s = brief q e in absurd (omega arith)
no_longer place v z p (short q e h) whole brief f k = let same = same_prefix (v ++ z) q p (prefix_more v z q e) f in absurd (omega arith)
no_longer place v z p (other g e) whole brief f k =
    let s : prefix_at (v ++ z) ≡ Err g = refused_more v z g e (λ need got is. whole (Damaged place (Cut need got)) (cut_short place v need got (e ∙ ap Err is))) in
    absurd cc

-- whether chunk 0 is longer than a look
data Size (v : List ℕ) : Type 0 where
  tall : (p : Prefix) → prefix_at v ≡ Ok p → 512 < p.total → Size v
  brief : ((q : Prefix) → prefix_at v ≡ Ok q → q.total ≤ 512) → Size v

size_of : (v : List ℕ) → Kind v → Size v
size_of v (long p e h) = tall p e h
size_of v (short p e h) = brief (λ q f. let same = same_prefix v p q e f in omega arith)
size_of v (other g e) = brief (λ q f. absurd cc)

-- one that ends by 2^64 is its first bytes up to there
all_front : (place n : ℕ) (v w : List ℕ) → IsView place v → ((q : Prefix) → prefix_at v ≡ Ok q → q.total ≤ 512) → 2 ^ 64 ≤ place + n → take n v ≡ take n w → v ≡ take n w
all_front place n v w seen small far same =
    let ends = seen.inside small in
    let few : length v ≤ n = omega arith in
    sym (take_all n v few) ∙ same

grows : (place n : ℕ) (v w : List ℕ) (p : Prefix) → IsView place v → IsWhole place v → ((q : Prefix) → prefix_at v ≡ Ok q → q.total ≤ 512) → prefix_at w ≡ Ok p → 512 < p.total → 2 ^ 64 ≤ place + n → take n v ≡ take n w → ⊥
grows place n v w p seen whole small e h far same =
    let front : v ≡ take n w = all_front place n v w seen small far same in
    let joined : v ++ drop n w ≡ w = ap (λ (b : List ℕ). b ++ drop n w) front ∙ take-append-drop n w in
    no_longer place v (drop n w) p (kind_of v (prefix_at v) refl) whole small (ap prefix_at joined ∙ e) h

front_of : (m n : ℕ) (v : List ℕ) → m ≤ n → n ≤ length v → take m v ≡ take m (take n v)
front_of m n v less inside =
    let k : length (take n v) ≡ min n (length v) = length-take n v in
    ap (take m) (sym (take-append-drop n v)) ∙ take-append-le m (take n v) (drop n v) (omega arith)

same_tall : (place n : ℕ) (v w : List ℕ) (p q : Prefix) → IsView place v → IsView place w → prefix_at v ≡ Ok p → 512 < p.total → prefix_at w ≡ Ok q → 512 < q.total
    → 2 ^ 64 ≤ place + n → n ≤ length v → n ≤ length w → take n v ≡ take n w → v ≡ w
same_tall place n v w p q a b e h f k far inside within same =
    let m = below_end place 512 in
    let less : m ≤ n = omega arith in
    let front : take m v ≡ take m w = front_of m n v less inside ∙ ap (take m) same ∙ sym (front_of m n w less within) in
    sym (take-append-drop m v) ∙ ap (λ (b : List ℕ). b ++ drop m v) front ∙ ap (λ (b : List ℕ). take m w ++ b) (a.filled p e h ∙ sym (b.filled q f k)) ∙ take-append-drop m w

same_far : (place n : ℕ) (v w : List ℕ) → Size v → Size w → IsView place v → IsView place w → IsWhole place v → IsWhole place w
    → 2 ^ 64 ≤ place + n → n ≤ length v → n ≤ length w → take n v ≡ take n w → v ≡ w
same_far place n v w (tall p e h) (tall q f k) a b x y far inside within same = same_tall place n v w p q a b e h f k far inside within same
same_far place n v w (tall p e h) (brief k) a b x y far inside within same = absurd (grows place n w v p b y k e h far (sym same))
same_far place n v w (brief h) (tall q f k) a b x y far inside within same = absurd (grows place n v w q a x h f k far same)
same_far place n v w (brief h) (brief k) a b x y far inside within same = all_front place n v w a h far same ∙ sym (all_front place n w w b k far refl)

same_pointwise : (v : List ℕ) → pointwise nat_eq v v ≡ true
same_pointwise [] = refl
same_pointwise (x ∷ xs) = rw (eq-eqb x x refl) (same_pointwise xs)

-- two that differ do so below 2^64
pub differ_below : (place n : ℕ) (v w : List ℕ) → IsView place v → IsView place w → IsWhole place v → IsWhole place w → pointwise nat_eq w v ≡ false
    → n ≤ length v → n ≤ length w → take n v ≡ take n w → place + n < 2 ^ 64
differ_below place n v w a b x y unlike inside within same = elim (cases_lt (place + n) (2 ^ 64)) [
  | inl h ↦ h
  | inr far ↦
      let e = same_far place n v w (size_of v (kind_of v (prefix_at v) refl)) (size_of w (kind_of w (prefix_at w) refl)) a b x y far inside within same in
      let k : pointwise nat_eq w v ≡ true = subst (λ (b : List ℕ). pointwise nat_eq w b ≡ true) (sym e) (same_pointwise w) in
      absurd cc
]
