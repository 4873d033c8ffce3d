-- The place of the index address in a layout message, and of rows and index address in a header.
use Rattle.std.proofs.Common.{◌≡◌, ◌⊎◌, ℕ, zero, suc, ◌+◌, ◌-◌, ◌*◌, ◌<◌, ◌≤◌, min, Bool, true, false, cond, eqb, ◌&&◌, ◌||◌, List, [], ◌∷◌, length, drop, take, Option, Some, None, Result, Ok, Err, refl, sym, ◌∙◌, ap, subst, inl, inr, arith}
use Rattle.std.specs.Prelude.{nat_eq, nat_le, nat_lt, ◌==◌, find, option_map, option_and_then}
use Rattle.std.specs.List.{starts_with, AllByRecursion}
use Rattle.std.specs.Cmp.Lexicographic.{pointwise}
use Rattle.std.proofs.lemmas.Bool.{eqb-true, leb-true, le-leb, ltb-false, cases_Bool, cases_lt, or_parts}
use Rattle.std.proofs.lemmas.List.{drop-drop, drop-take}
use Rattle.h5w_model.specs.Numbers.{num, field, range}
use Rattle.h5w_model.specs.Headers.{has, header_flags, messages_at, msgs_in, msg_at, data_size, before_data, overruns, continuation_kind, data_in_header, rows_in_data, rows_in_header, index_in_data, index_in_header, index_address_place}
use Rattle.h5w_model.specs.Headers as headers
use Rattle.h5w_model.specs.Messages.{byte, ShapeFields, shape_at, shape_tests, shape_fields, LayoutFields, index_of, index_bytes, index_place, address_place, layout_tests, layout_fields, layout_at}
use Rattle.h5w_model.specs.Datasets.{dataspace_kind, layout_kind}
use Rattle.h5w_model.specs.declared.message.Msg.{Msg}
use Rattle.h5w_model.specs.declared.message.Prefix.{Prefix}
use Rattle.h5w_model.specs.declared.refusal.HeaderError.{HeaderError}
use Rattle.h5w_model.specs.declared.refusal.HeaderError.TheVariants.{Overrun}
use Rattle.h5w_model.specs.declared.cell.IndexKind.{IndexKind}
use Rattle.h5w_model.specs.declared.cell.IndexKind.TheVariants.{Array, Tree}
use Rattle.h5w_model.proofs.NumberLemmas.{num-one, range-take}
use Rattle.h5w_model.proofs.HeaderLemmas.{and_then-ok, msgs_in-gap, msgs_in-overrun, msgs_in-more, messages_at-ok}
use Rattle.h5w_model.proofs.CheckedLemmas.{checked-passed}
use Rattle.h5w_laws.specs.Places.{OneIndexPlace, OneHeaderPlace}
use Rattle.h5w_laws.proofs.LoweringLemmas.{length_range}

-- the first of two tests
first_holds : (s t : Bool) → (s && t) ≡ true → s ≡ true
first_holds true t h = refl
first_holds false t h = absurd cc

-- how many bytes an index type takes with its parameters, by its number
parameters : (kind : IndexKind) (bytes : List ℕ) → starts_with nat_eq bytes (index_bytes kind) ≡ true → cond (eqb (num (take 1 bytes)) 4) 6 7 ≡ length (index_bytes kind)
parameters Array [] h = absurd cc
parameters Array (b ∷ bs) h =
    let first : 4 ≡ b = eqb-true 4 b (first_holds (eqb 4 b) (pointwise nat_eq (32 ∷ 4 ∷ 4 ∷ 16 ∷ 10 ∷ []) (take 5 bs)) h) in
    ap (λ n. cond (eqb n 4) 6 7) (num-one b ∙ sym first)
parameters Tree [] h = absurd cc
parameters Tree (b ∷ bs) h =
    let first : 5 ≡ b = eqb-true 5 b (first_holds (eqb 5 b) (pointwise nat_eq (0 ∷ 8 ∷ 0 ∷ 0 ∷ 100 ∷ 40 ∷ []) (take 6 bs)) h) in
    ap (λ n. cond (eqb n 4) 6 7) (num-one b ∙ sym first)

pub one_index_place : OneIndexPlace
unfolding layout_at layout_fields
one_index_place body s t l h =
    let c = checked-passed (layout_tests body s t) (layout_fields body s) l h in
    let spelled : starts_with nat_eq (drop (index_place body) body) (index_bytes (index_of s)) ≡ true = c.0.1.1.1.1.1.1.1.1.1.0 in
    let room : nat_le (index_place body + length (index_bytes (index_of s)) + 8) (length body) ≡ true = c.0.1.1.1.1.1.1.1.1.1.1.0 in
    let same : index_address_place body ≡ address_place body s = ap (λ n. index_place body + n) (parameters (index_of s) (drop (index_place body) body) spelled) in
    record {
      written = same ∙ ap (λ (f : LayoutFields). f.place) c.1;
      inside = subst (λ (f : LayoutFields). f.place + 8 ≤ length body) c.1 (leb-true (index_place body + length (index_bytes (index_of s)) + 8) (length body) room);
      read = subst (λ (f : LayoutFields). field body f.place 8 ≡ f.address) c.1 refl;
    }

-- ---- In a header

-- the data of a message are bytes of the header: each part of them, by its place there
abbrev Stands : List ℕ → ℕ → Msg → Type 0
Stands b before m = (k w : ℕ) → k + w ≤ length m.body → range m.body k w ≡ range b (m.at + before + k) w

abbrev pub listed : List Msg → Result (List Msg) HeaderError
listed ms = Ok ms

same_messages : (ms ns : List Msg) → listed ms ≡ listed ns → ms ≡ ns
same_messages ms ns h = cc

-- the first message of the bytes from a place on
first_stands : (b : List ℕ) (before place n : ℕ) → before + data_size (range b place n) ≤ length (range b place n) → Stands b before (msg_at before place (range b place n))
first_stands b before place n fits k w low =
    let c = range b place n in
    let size = data_size c in
    let short : length (range c before size) ≡ min size (length c - before) = length_range c before size in
    let whole : length c ≡ min n (length b - place) = length_range b place n in
    let inside : k + w ≤ size = omega (arith, low, short) in
    let further : before + k + w ≤ n = omega (arith, inside, fits, whole) in
    range-take (drop before c) size k w inside
    ∙ ap (λ (xs : List ℕ). take w xs) (drop-drop k before c)
    ∙ range-take (drop place b) n (before + k) w further
    ∙ ap (λ (xs : List ℕ). take w xs) (drop-drop (before + k) place b)
    ∙ ap (λ i. range b i w) (omega arith)

-- what is left behind it
rest_is : (b : List ℕ) (place n k : ℕ) → k ≤ n → drop k (range b place n) ≡ range b (place + k) (n - k)
rest_is b place n k low =
    let whole : k + (n - k) ≡ n = omega (arith, low) in
    ap (λ m. drop k (take m (drop place b))) (sym whole)
    ∙ drop-take k (n - k) (drop place b)
    ∙ ap (λ (xs : List ℕ). take (n - k) xs) (drop-drop k place b)

pub refused_list : {Z : Type 0} (e : HeaderError) (ms : List Msg) → ◌≡◌ {A = Result (List Msg) HeaderError} (Err e) (Ok ms) → Z
refused_list e ms h = cc

-- the messages from a place on, where those behind the first do
stand_step : (b : List ℕ) (before fuel place n : ℕ) (ms : List Msg) → ((at m : ℕ) (rest : List Msg) → msgs_in fuel before at (range b at m) ≡ Ok rest → AllByRecursion (Stands b before) rest)
    → msgs_in (suc fuel) before place (range b place n) ≡ Ok ms → (length (range b place n) < before) ⊎ (before ≤ length (range b place n))
    → (overruns before (range b place n) ≡ true) ⊎ (overruns before (range b place n) ≡ false) → AllByRecursion (Stands b before) ms
stand_step b before fuel place n ms behind h (inl short) over =
    subst (AllByRecursion (Stands b before)) (same_messages [] ms (sym (msgs_in-gap (suc fuel) before place (range b place n) short) ∙ h)) tt
stand_step b before fuel place n ms behind h (inr long) (inl over) =
    refused_list (Overrun place) ms (sym (msgs_in-overrun fuel before place (range b place n) long over) ∙ h)
stand_step b before fuel place n ms behind h (inr long) (inr ends) =
    let c = range b place n in
    let next = before + data_size c in
    let fits : next ≤ length c = ltb-false (length c) next ((or_parts (nat_lt (length c) next) ((field c 0 1 == continuation_kind) && nat_lt (data_size c) 16) ends).0) in
    let low : next ≤ n = omega (arith, fits, length_range b place n) in
    let more = and_then-ok (msgs_in fuel before (place + next) (drop next c)) (λ rest. listed (msg_at before place c ∷ rest)) ms (sym (msgs_in-more fuel before place c long ends) ∙ h) in
    let rest = behind (place + next) (n - next) more.0 (ap (msgs_in fuel before (place + next)) (sym (rest_is b place n next low)) ∙ more.1) in
    subst (AllByRecursion (Stands b before)) (same_messages (msg_at before place c ∷ more.0) ms more.2) (first_stands b before place n fits, rest)

no_fuel : (before place : ℕ) (c : List ℕ) → msgs_in zero before place c ≡ Ok []
unfolding msgs_in
no_fuel before place c = refl

all_stand : (b : List ℕ) (before fuel place n : ℕ) (ms : List Msg) → msgs_in fuel before place (range b place n) ≡ Ok ms → AllByRecursion (Stands b before) ms
all_stand b before zero place n ms h = subst (AllByRecursion (Stands b before)) (same_messages [] ms (sym (no_fuel before place (range b place n)) ∙ h)) tt
all_stand b before (suc fuel) place n ms h =
    stand_step b before fuel place n ms (λ at m rest. all_stand b before fuel at m rest) h (cases_lt (length (range b place n)) before) (cases_Bool (overruns before (range b place n)))

-- one that is found
found_stands : {A : Type 0} (P : A → Type 0) (test : A → Bool) (xs : List A) (x : A) → AllByRecursion P xs → find test xs ≡ Some x → P x
found_stands P test [] x all h = absurd cc
found_stands P test (y ∷ ys) x all h = go (found_stands P test ys x all.1) (test y) h
  where
    go : (find test ys ≡ Some x → P x) → (t : Bool) → cond t (Some y) (find test ys) ≡ Some x → P x
    go rest true e = subst P (one y x e) all.0
      where
        one : {A : Type 0} (a b : A) → ◌≡◌ {A = Option A} (Some a) (Some b) → a ≡ b
        one a b e = cc
    go rest false e = rest e

-- the data of a message that counts, and where they begin in the header
data_found : (b : List ℕ) (ms : List Msg) (m : Msg) (kind : ℕ) → messages_at b ≡ Ok ms → find (λ (v : Msg). v.kind == kind) ms ≡ Some m
    → (place : ℕ) × (data_in_header kind b ≡ Some (place, m.body)) × ((k w : ℕ) → k + w ≤ length m.body → field m.body k w ≡ field b (place + k) w)
unfolding data_in_header headers.first_of
data_found b ms m kind read is =
    let h = messages_at-ok b ms read in
    let p = h.0 in
    let before = before_data p.tracked in
    let stands = found_stands (Stands b before) (λ (v : Msg). v.kind == kind) ms m (all_stand b before p.len p.at p.len ms h.1.listed) is in
    let flag : p.tracked ≡ has (header_flags b) 4 = ap (λ (q : Prefix). q.tracked) h.1.whole.fields in (
      m.at + before,
      ap (λ (r : Result (List Msg) HeaderError). option_map (λ (v : Msg). (v.at + before_data (has (header_flags b) 4), v.body)) (elim r as (λ _. Option Msg) [ Err e ↦ None | Ok vs ↦ find (λ (v : Msg). v.kind == kind) vs ])) read
          ∙ ap (λ (o : Option Msg). option_map (λ (v : Msg). (v.at + before_data (has (header_flags b) 4), v.body)) o) is
          ∙ ap (λ t. Some (m.at + before_data t, m.body)) (sym flag),
      λ k w low. ap num (stands k w low),
    )

-- the size of dimension 0 stands behind 4 bytes, and no dataspace is shorter
rows_in_space : (body : List ℕ) (s : ShapeFields) → shape_at body ≡ Ok s → (12 ≤ length body) × (field body 4 8 ≡ s.rows)
unfolding shape_at shape_tests shape_fields
rows_in_space body s h =
    let c = checked-passed (shape_tests body) (shape_fields body) s h in
    (long c.0.1.1.0 (leb-true (4 + 16 * byte body 1) (length body) c.0.1.1.1.1.1.0), ap (λ (f : ShapeFields). f.rows) c.1)
  where
    long : ((byte body 1 == 1) || (byte body 1 == 2)) ≡ true → 4 + 16 * byte body 1 ≤ length body → 12 ≤ length body
    long rank room = some (cases_Bool (byte body 1 == 1))
      where
        some : ((byte body 1 == 1) ≡ true) ⊎ ((byte body 1 == 1) ≡ false) → 12 ≤ length body
        some (inl one) = omega (arith, eqb-true (byte body 1) 1 one, room)
        some (inr other) = omega (arith, eqb-true (byte body 1) 2 (ap (λ s. s || (byte body 1 == 2)) (sym other) ∙ rank), room)

pub one_header_place : OneHeaderPlace
unfolding rows_in_header index_in_header
one_header_place b ms space layout s t l read space_is says layout_is lays =
    let rows = data_found b ms space dataspace_kind read space_is in
    let index = data_found b ms layout layout_kind read layout_is in
    let size = rows_in_space space.body s says in
    let address = one_index_place layout.body s t l lays in
    let place = l.place in
    let inside = address.inside in
    record {
      rows = rows.0 + 4;
      rows_written =
          ap (option_and_then rows_in_data) rows.1
          ∙ ap (λ t. cond t (Some (rows.0 + 4)) None) (le-leb 12 (length space.body) size.0);
      rows_read = sym (rows.2 4 8 size.0) ∙ size.1;
      index = index.0 + l.place;
      index_written =
          ap (option_and_then index_in_data) index.1
          ∙ ap (λ n. cond (nat_le (n + 8) (length layout.body)) (Some (index.0 + n)) None) address.written
          ∙ ap (λ t. cond t (Some (index.0 + l.place)) None) (le-leb (l.place + 8) (length layout.body) address.inside);
      index_read = sym (index.2 l.place 8 address.inside) ∙ address.read;
    }
