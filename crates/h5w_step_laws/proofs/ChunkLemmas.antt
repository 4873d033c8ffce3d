-- Chunk 0 with changed numbers and its sum.
use Rattle.std.proofs.Common.{◌≡◌, ◌≢◌, ◌⊎◌, ℕ, ◌+◌, ◌-◌, ◌*◌, ◌<◌, ◌≤◌, Bool, true, false, not, cond, eqb, ◌&&◌, List, [], ◌∷◌, ◌++◌, length, map, get_or, take, drop, Option, Some, None, Result, Ok, Err, refl, ap, sym, ◌∙◌, inl, inr, arith, lit≤}
use Rattle.std.specs.Prelude.{◌==◌, find, option_map, nat_le}
use Rattle.std.proofs.lemmas.Bool.{cases_Bool, le-leb, eqb-true}
use Rattle.std.proofs.lemmas.List.{take_at, take-take, length-append, length-take, length-drop, take-append-le, get_or-take}
use Rattle.h5w_model.specs.Numbers.{le, range, field}
use Rattle.h5w_model.specs.Checked.{checked}
use Rattle.h5w_model.specs.Checksum.{is_sealed, sealed_block, sum_of}
use Rattle.h5w_model.specs.Headers.{and_then, has, prefix_at, header_tests, header_at, end_of, inside_of, messages_at, msgs_in, before_data, header_length, header_flags, all_known, unless_refused, first_unknown, is_known, first_of, data_in_header, rows_in_data, index_in_data, index_type_place, index_address_place, with_number}
use Rattle.h5w_model.specs.declared.message.Msg.{Msg}
use Rattle.h5w_model.specs.declared.message.Prefix.{Prefix}
use Rattle.h5w_model.specs.declared.refusal.HeaderError.{HeaderError}
use Rattle.h5w_model.proofs.CheckedLemmas.{checked-ok}
use Rattle.h5w_model.proofs.ChecksumLemmas.{is_sealed-sealed_block, length-sealed_block}
use Rattle.h5w_model.proofs.NumberLemmas.{range-take}
use Rattle.h5w_model.proofs.HeaderLemmas.{IsWhole, IsHeader, header_at-ok}
use Rattle.h5w_model.proofs.HeaderRoundTrip.{kind_of, none_refused}
use Rattle.h5w_laws.proofs.PrefixLemmas.{prefix_front, prefix_whole}
use Rattle.h5w_step_laws.specs.Commits.{renumbered}
use Rattle.h5w_step_laws.proofs.NumberLemmas.{length_number, number_beside, field_beside}
use Rattle.h5w_step_laws.proofs.WalkLemmas.{IsAmong, all_from, renumber, renumbered_kind}

-- ---- Kinds and flags stay

pub renumbered_kinds : (kind at k v : ℕ) (m : Msg) → ((renumbered kind at k v m).kind ≡ m.kind) × ((renumbered kind at k v m).flags ≡ m.flags)
renumbered_kinds kind at k v m = go ((m.kind == kind) && (m.at == at))
  where
    go : (t : Bool) → ((cond t (record m { body = with_number m.body k v }) m).kind ≡ m.kind) × ((cond t (record m { body = with_number m.body k v }) m).flags ≡ m.flags)
    go true = (refl, refl)
    go false = (refl, refl)

-- a change of messages that keeps kinds and flags
abbrev pub KeepsKinds : (Msg → Msg) → Type 0
KeepsKinds f = (m : Msg) → ((f m).kind ≡ m.kind) × ((f m).flags ≡ m.flags)

unknown_kept : (bit : ℕ) (f : Msg → Msg) (ms : List Msg) → KeepsKinds f → first_unknown bit (map f ms) ≡ first_unknown bit ms
unknown_kept bit f [] h = refl
unknown_kept bit f (m ∷ ms) h =
    let test : Msg → Bool = λ m. not (is_known m.kind) && has m.flags bit in
    ap (λ t. option_map (λ (n : Msg). n.kind) (cond t (Some (f m)) (find test (map f ms)))) (λ i. not (is_known ((h m).0 i)) && has ((h m).1 i) bit)
    ∙ kind_of (test m) (f m) m (find test (map f ms)) (find test ms) (h m).0 (unknown_kept bit f ms h)

pub known_kept : (f : Msg → Msg) (ms : List Msg) → KeepsKinds f → all_known ms ≡ Ok ms → all_known (map f ms) ≡ Ok (map f ms)
known_kept f ms h known = ap (λ o. unless_refused o (map f ms)) (unknown_kept 0x80 f ms h ∙ none_refused (first_unknown 0x80 ms) ms known)

-- ---- What is found by its kind

abbrev pub of_kind : ℕ → Msg → Bool
of_kind kind m = m.kind == kind

pub find_map : (f : Msg → Msg) (kind : ℕ) (ms : List Msg) → KeepsKinds f → find (of_kind kind) (map f ms) ≡ option_map f (find (of_kind kind) ms)
find_map f kind [] h = refl
find_map f kind (m ∷ ms) h =
    ap (λ n. cond (n == kind) (Some (f m)) (find (of_kind kind) (map f ms))) (h m).0 ∙ go (m.kind == kind) (find_map f kind ms h)
  where
    go : (t : Bool) → find (of_kind kind) (map f ms) ≡ option_map f (find (of_kind kind) ms)
        → cond t (Some (f m)) (find (of_kind kind) (map f ms)) ≡ option_map f (cond t (Some m) (find (of_kind kind) ms))
    go true e = refl
    go false e = e

pub some_same : {A : Type 0} (x y : A) → ◌≡◌ {A = Option A} (Some x) (Some y) → x ≡ y
some_same x y e = cc

abbrev pub Tells : (Msg → Bool) → List Msg → Msg → Type 0
Tells test ms x = (test x ≡ true) × IsAmong x ms

pub found_tells : (test : Msg → Bool) (ms : List Msg) (x : Msg) → find test ms ≡ Some x → Tells test ms x
found_tells test [] x h = absurd cc
found_tells test (m ∷ ms) x h = go (cases_Bool (test m)) (found_tells test ms x)
  where
    go : (test m ≡ true) ⊎ (test m ≡ false) → (find test ms ≡ Some x → Tells test ms x) → Tells test (m ∷ ms) x
    go (inl t) later =
        let e : m ≡ x = some_same m x (ap (λ c. cond c (Some m) (find test ms)) (sym t) ∙ h) in
        (ap test (sym e) ∙ t, inl e)
    go (inr t) later = let l = later (ap (λ c. cond c (Some m) (find test ms)) (sym t) ∙ h) in (l.0, inr l.1)

-- a change of another kind is not seen
pub find_other : (kind at k v other : ℕ) (ms : List Msg) → kind ≢ other → find (of_kind other) (map (renumbered kind at k v) ms) ≡ find (of_kind other) ms
find_other kind at k v other ms differ = find_map (renumbered kind at k v) other ms (renumbered_kinds kind at k v) ∙ go (find (of_kind other) ms) (found_tells (of_kind other) ms)
  where
    go : (o : Option Msg) → ((x : Msg) → o ≡ Some x → Tells (of_kind other) ms x) → option_map (renumbered kind at k v) o ≡ o
    go None tells = refl
    go (Some m) tells = ap Some (renumbered_kind kind at k v m (λ e. differ (sym e ∙ eqb-true m.kind other (tells m refl).0)))

-- ---- Bytes in between: numbers are changed, and the sum is not yet

before_bounds : (t : Bool) → 4 ≤ before_data t
before_bounds true = lit≤ tt
before_bounds false = lit≤ tt

pub record IsChanged (b c : List ℕ) (p : Prefix) (ms : List Msg) : Type 0 where
  pub long : length c ≡ length b
  pub front : take p.at c ≡ take p.at b
  pub listed : msgs_in p.len (before_data p.tracked) p.at (range c p.at p.len) ≡ Ok ms
  pub known : all_known ms ≡ Ok ms

pub not_changed : (b : List ℕ) (ms : List Msg) (p : Prefix) → IsHeader b ms p → IsChanged b b p ms
not_changed b ms p h = record { long = refl; front = refl; listed = h.listed; known = h.known }

-- where 8 bytes of a message's data stand
abbrev pub place_in : Prefix → Msg → ℕ → ℕ
place_in p x k = x.at + before_data p.tracked + k

pub record StandsIn (b : List ℕ) (p : Prefix) (x : Msg) : Type 0 where
  pub from : p.at ≤ x.at
  pub to : x.at + before_data p.tracked + length x.body ≤ p.at + p.len

pub stands_in : (b c : List ℕ) (p : Prefix) (ms : List Msg) (x : Msg) → IsWhole b p → IsChanged b c p ms → IsAmong x ms → StandsIn b p x
stands_in b c p ms x whole is among =
    let long = whole.long in
    let same = is.long in
    let l = all_from c (before_data p.tracked) p.len p.at p.len ms (omega arith) is.listed x among in
    record { from = l.from; to = l.to }

pub changed_once : (b c : List ℕ) (p : Prefix) (ms : List Msg) (x : Msg) (kind k v : ℕ) → IsWhole b p → IsChanged b c p ms → IsAmong x ms → x.kind ≡ kind → k + 8 ≤ length x.body
    → IsChanged b (with_number c (place_in p x k) v) p (map (renumbered kind x.at k v) ms)
changed_once b c p ms x kind k v whole is among e room =
    let before = before_data p.tracked in
    let long = whole.long in
    let same = is.long in
    let stands = stands_in b c p ms x whole is among in
    let from = stands.from in
    let to = stands.to in
    record {
      long = length_number c (place_in p x k) v (omega arith) ∙ is.long;
      front = number_beside c (place_in p x k) v 0 p.at (omega arith) (omega arith) (inr (omega arith)) ∙ is.front;
      listed = renumber c before kind k v p.len p.at p.len x ms (record { enough = before_bounds p.tracked; is_kind = e; inside = room; fits = omega arith }) (omega arith) is.listed among;
      known = known_kept (renumbered kind x.at k v) ms (renumbered_kinds kind x.at k v) is.known;
    }

-- ---- The sum

abbrev pub resealed : List ℕ → List ℕ → List ℕ
resealed b c = sealed_block (take (header_length b - 4) c) ++ drop (header_length b) b

pub record IsResealed (b c new : List ℕ) (p : Prefix) (ms : List Msg) : Type 0 where
  pub long : length new ≡ length b
  pub front : take (p.at + p.len) new ≡ take (p.at + p.len) c
  pub prefix : prefix_at new ≡ Ok p
  pub header : header_at new ≡ Ok p
  pub messages : messages_at new ≡ Ok ms

header_passes : (new : List ℕ) (p : Prefix) → prefix_at new ≡ Ok p → end_of p ≤ length new → is_sealed (take (end_of p) new) ≡ true → header_at new ≡ Ok p
unfolding header_at
header_passes new p e long sealed =
    ap (λ r. and_then r (λ q. checked (header_tests new q) q)) e ∙ checked-ok (header_tests new p) p (le-leb (end_of p) (length new) long, (sealed, tt))

messages_pass : (new : List ℕ) (p : Prefix) (ms : List Msg) → header_at new ≡ Ok p → msgs_in p.len (before_data p.tracked) p.at (inside_of new p) ≡ Ok ms → all_known ms ≡ Ok ms → messages_at new ≡ Ok ms
unfolding messages_at
messages_pass new p ms header listed known =
    ap (λ r. and_then r (λ p. and_then (msgs_in p.len (before_data p.tracked) p.at (inside_of new p)) all_known)) header
    ∙ ap (λ r. and_then r all_known) listed ∙ known

pub reseal : (b c : List ℕ) (p : Prefix) (ms : List Msg) → IsWhole b p → IsChanged b c p ms → IsResealed b c (resealed b c) p ms
reseal b c p ms whole is =
    let e = header_length b in
    let n = p.at + p.len in
    let end = whole.end in
    let long = whole.long in
    let same = is.long in
    let body = take (e - 4) c in
    let new = resealed b c in
    let size : e - 4 ≡ n = omega arith in
    let l : length body ≡ n = length-take (e - 4) c ∙ omega arith in
    let l2 : length (sealed_block body) ≡ n + 4 = length-sealed_block body ∙ omega arith in
    let l3 : length new ≡ length b = length-append (sealed_block body) (drop e b) ∙ omega (arith, length-drop e b) in
    let cut : take (end_of p) new ≡ sealed_block body = take_at (sealed_block body) (drop e b) (end_of p) (omega arith) in
    let front : take n new ≡ take n c =
    take-append-le n (sealed_block body) (drop e b) (omega arith) ∙ take_at body (le 4 (sum_of body)) n l ∙ ap (λ k. take k c) size in
    let begin : take p.at new ≡ take p.at b =
    sym (take-take p.at n new (omega arith)) ∙ ap (take p.at) front ∙ take-take p.at n c (omega arith) ∙ is.front in
    let prefix : prefix_at new ≡ Ok p =
    prefix_whole new p.at p (ap prefix_at begin ∙ prefix_front b p.at p (omega arith) whole.prefix) in
    let header = header_passes new p prefix (omega arith) (ap is_sealed cut ∙ is_sealed-sealed_block body) in
    let inside : range new p.at p.len ≡ range c p.at p.len =
    sym (range-take new n p.at p.len (omega arith)) ∙ ap (λ x. range x p.at p.len) front ∙ range-take c n p.at p.len (omega arith) in
    record {
      long = l3;
      front = front;
      prefix = prefix;
      header = header;
      messages = messages_pass new p ms header (ap (msgs_in p.len (before_data p.tracked) p.at) inside ∙ is.listed) is.known;
    }

pub byte_kept : (b c new : List ℕ) (p : Prefix) (ms : List Msg) (k : ℕ) → IsResealed b c new p ms → k < p.at + p.len → get_or new k 0 ≡ get_or c k 0
byte_kept b c new p ms k is low =
    let n = p.at + p.len in
    sym (get_or-take n new k 0 low) ∙ ap (λ x. get_or x k 0) is.front ∙ get_or-take n c k 0 low

-- ---- Places in the header

first_by : ℕ → Result (List Msg) HeaderError → Option Msg
first_by kind r = elim r [ Err e ↦ None | Ok ms ↦ find (λ m. m.kind == kind) ms ]

pub data_is : (b : List ℕ) (p : Prefix) (ms : List Msg) (kind : ℕ) → header_at b ≡ Ok p → messages_at b ≡ Ok ms
    → data_in_header kind b ≡ option_map (λ (m : Msg). (m.at + before_data p.tracked, m.body)) (find (of_kind kind) ms)
unfolding data_in_header first_of first_by
data_is b p ms kind header read =
    let whole = header_at-ok b p header in
    ap (λ r. option_map (λ (m : Msg). (m.at + before_data (has (header_flags b) 4), m.body)) (first_by kind r)) read
    ∙ ap (λ t. option_map (λ (m : Msg). (m.at + before_data t, m.body)) (find (of_kind kind) ms)) (sym (ap (λ (q : Prefix). q.tracked) whole.fields))

-- the same data, found at the same place
pub rows_place_kept : (place : ℕ) (body : List ℕ) (v : ℕ) → 12 ≤ length body → rows_in_data (place, with_number body 4 v) ≡ rows_in_data (place, body)
rows_place_kept place body v h = ap (λ n. cond (nat_le 12 n) (Some (place + 4)) None) (length_number body 4 v (omega arith))

index_by : ℕ → ℕ → ℕ
index_by type_place type = type_place + cond (eqb type 4) 6 7

index_low : (type_place type : ℕ) → type_place + 6 ≤ index_by type_place type
unfolding index_by
index_low type_place type = go (eqb type 4)
  where
    go : (t : Bool) → type_place + 6 ≤ type_place + cond t 6 7
    go true = omega arith
    go false = omega arith

pub index_place_kept : (body : List ℕ) (v : ℕ) → index_address_place body + 8 ≤ length body → index_address_place (with_number body (index_address_place body) v) ≡ index_address_place body
unfolding index_by
index_place_kept body v h =
    let k = index_address_place body in
    let new = with_number body k v in
    let low : index_type_place body + 6 ≤ k = index_low (index_type_place body) (field body (index_type_place body) 1) in
    let count : field new 3 1 ≡ field body 3 1 = field_beside body k v 3 1 h (omega arith) (inr (omega arith)) in
    let width : field new 4 1 ≡ field body 4 1 = field_beside body k v 4 1 h (omega arith) (inr (omega arith)) in
    let place : index_type_place new ≡ index_type_place body = λ i. 5 + count i * width i in
    let kind : field new (index_type_place body) 1 ≡ field body (index_type_place body) 1 = field_beside body k v (index_type_place body) 1 h (omega arith) (inr (omega arith)) in
    ap (λ t. index_by t (field new t 1)) place ∙ ap (index_by (index_type_place body)) kind

pub index_data_kept : (place : ℕ) (body : List ℕ) (v : ℕ) → index_address_place body + 8 ≤ length body
    → index_in_data (place, with_number body (index_address_place body) v) ≡ index_in_data (place, body)
index_data_kept place body v h =
    let k = index_address_place body in
    ap (λ n. cond (nat_le (n + 8) (length (with_number body k v))) (Some (place + n)) None) (index_place_kept body v h)
    ∙ ap (λ n. cond (nat_le (k + 8) n) (Some (place + k)) None) (length_number body k v h)
