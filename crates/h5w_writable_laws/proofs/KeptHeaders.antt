-- Chunk 0 of a dataset header in which rows, an index address and the sum are written: what stands before the messages is the same, and so
-- is what a writer must know of them.
use Rattle.std.proofs.Common.{◌≡◌, ◌≢◌, ◌⊎◌, ℕ, ◌+◌, ◌<◌, ◌≤◌, true, false, cond, List, length, take, get_or, Option, Some, None, Result, Ok, Err, refl, ap, sym, ◌∙◌, subst, inl, inr, arith}
use Rattle.std.specs.Prelude.{find, nat_le, option_and_then, option_map, nat_lt}
use Rattle.std.proofs.lemmas.Bool.{cond_both, eqb-true, le-ltb, leb-true}
use Rattle.h5w_model.specs.Programs.{Prog, ret, eval, visits, Same}
use Rattle.h5w_model.specs.Headers.{before_data, continuation_kind, header_at, index_address_place, index_in_data, index_in_header, messages_at, prefix_at, rows_in_data, rows_in_header}
use Rattle.h5w_model.specs.Datasets.{HeaderFields, dataset_messages, dataspace_kind, from_chunk_0, header_refusal, layout_kind}
use Rattle.h5w_model.specs.Messages.{unsupported}
use Rattle.h5w_model.specs.Prefixed.{IsOutside, SameHeader}
use Rattle.h5w_model.specs.declared.message.Msg.{Msg}
use Rattle.h5w_model.specs.declared.message.Prefix.{Prefix}
use Rattle.h5w_model.specs.declared.refusal.HeaderError.{HeaderError}
use Rattle.h5w_model.specs.declared.refusal.ReadError.{ReadError}
use Rattle.h5w_model.specs.declared.refusal.ReadError.TheVariants as read_errors
use Rattle.h5w_model.proofs.HeaderLemmas.{IsHeader, messages_at-ok}
use Rattle.h5w_laws.proofs.PrefixLemmas.{begins, one_prefix, prefix_front, prefix_whole}
use Rattle.h5w_laws.proofs.ResultLemmas.{choice_from, choice_ok}
use Rattle.h5w_step_laws.proofs.HeaderVisits.{choice_looks}
use Rattle.h5w_step_laws.specs.Files.{chunk_0}
use Rattle.h5w_step_laws.proofs.ChunkLemmas.{data_is, found_tells, of_kind}
use Rattle.h5w_step_laws.proofs.CommitLaws.{index_place_is, the_data}
use Rattle.h5w_step_laws.proofs.ImageLemmas.{HeaderRead, walk_from}
use Rattle.h5w_step_laws.proofs.WalkLemmas.{AllFrom, IsAmong, all_from}
use Rattle.h5w_headers.specs.Walks.{dataset_header_for, from_chunk_0_for}
use Rattle.h5w_writable_laws.proofs.HeadLemmas.{AreLeft, AreOne, AreSame, apart_messages, range_same, same_kept}
use Rattle.h5w_writable_laws.proofs.KeptWalks.{Kept, chunk_kept}

-- ---- Places that are written

-- byte k is none of the 8 bytes from a place on
abbrev pub IsOff : ℕ → ℕ → Type 0
IsOff k q = (k < q) ⊎ (q + 8 ≤ k)

rows_off : (d : ℕ × List ℕ) (k : ℕ) → ((q : ℕ) → d.0 ≤ q → q + 8 ≤ d.0 + length d.1 → IsOff k q) → IsOutside (rows_in_data d) k
rows_off d k all =
    cond_both (nat_le 12 (length d.1)) (Some (d.0 + 4)) None (λ (o : Option ℕ). IsOutside o k)
    (λ t. let n = leb-true 12 (length d.1) t in all (d.0 + 4) (omega arith) (omega (arith, n))) (λ t. tt)

index_off : (d : ℕ × List ℕ) (k : ℕ) → ((q : ℕ) → d.0 ≤ q → q + 8 ≤ d.0 + length d.1 → IsOff k q) → IsOutside (index_in_data d) k
index_off d k all =
    cond_both (nat_le (index_address_place d.1 + 8) (length d.1)) (Some (d.0 + index_address_place d.1)) None (λ (o : Option ℕ). IsOutside o k)
    (λ t. let n = leb-true (index_address_place d.1 + 8) (length d.1) t in all (d.0 + index_address_place d.1) (omega arith) (omega (arith, n))) (λ t. tt)

rows_place : (b : List ℕ) (p : Prefix) (ms : List Msg) → header_at b ≡ Ok p → messages_at b ≡ Ok ms → rows_in_header b ≡ option_and_then rows_in_data (option_map (the_data p) (find (of_kind dataspace_kind) ms))
unfolding rows_in_header
rows_place b p ms header read = ap (option_and_then rows_in_data) (data_is b p ms dataspace_kind header read)

-- 8 bytes of the data of a message of a kind
abbrev pub IsWithin : ℕ → List Msg → ℕ → ℕ → Type 0
IsWithin before ms kind q = (y : Msg) × IsAmong y ms × (y.kind ≡ kind) × (y.at + before ≤ q) × (q + 8 ≤ y.at + before + length y.body)

module _ (b : List ℕ) (p : Prefix) (ms : List Msg) (h : IsHeader b ms p) (read : messages_at b ≡ Ok ms) where
  abbrev before : ℕ
  before = before_data p.tracked

  kind_off : (kind k : ℕ) (in_data : ℕ × List ℕ → Option ℕ) → ((d : ℕ × List ℕ) → ((q : ℕ) → d.0 ≤ q → q + 8 ≤ d.0 + length d.1 → IsOff k q) → IsOutside (in_data d) k)
      → ((q : ℕ) → IsWithin before ms kind q → IsOff k q) → (o : Option Msg) → find (of_kind kind) ms ≡ o → IsOutside (option_and_then in_data (option_map (the_data p) o)) k
  kind_off kind k in_data off all None e = tt
  kind_off kind k in_data off all (Some y) e =
      let t = found_tells (of_kind kind) ms y e in
      off (the_data p y) (λ q low high. all q (y, t.1, eqb-true y.kind kind t.0, low, high))

  pub off_rows : (k : ℕ) → ((q : ℕ) → IsWithin before ms dataspace_kind q → IsOff k q) → IsOutside (rows_in_header b) k
  off_rows k all = subst (λ (o : Option ℕ). IsOutside o k) (sym (rows_place b p ms h.header read)) (kind_off dataspace_kind k rows_in_data (λ d. rows_off d k) all (find (of_kind dataspace_kind) ms) refl)

  pub off_index : (k : ℕ) → ((q : ℕ) → IsWithin before ms layout_kind q → IsOff k q) → IsOutside (index_in_header b) k
  off_index k all = subst (λ (o : Option ℕ). IsOutside o k) (sym (index_place_is b p ms h.header read)) (kind_off layout_kind k index_in_data (λ d. index_off d k) all (find (of_kind layout_kind) ms) refl)

  long : p.at + p.len + 4 ≤ length b
  long = h.whole.long

  lies : AllFrom before p.at (p.at + p.len) ms
  lies = all_from b before p.len p.at p.len ms (let l = long in omega (arith, l)) h.listed

  apart : AreOne before ms
  apart = apart_messages b before p.len p.at p.len ms (let l = long in omega (arith, l)) h.listed

  -- what stands before the messages, a message's head, and the data of a message of another kind are not written
  front_off : (kind k : ℕ) → k < p.at → (q : ℕ) → IsWithin before ms kind q → IsOff k q
  front_off kind k low q w =
      let from = (lies w.0 w.1).from in
      let at = w.3 in
      inl (omega (arith, low, from, at))

  head_off : (kind k : ℕ) (x : Msg) → IsAmong x ms → x.at ≤ k → k < x.at + before → (q : ℕ) → IsWithin before ms kind q → IsOff k q
  head_off kind k x a from to q w =
      let low = w.3 in
      let high = w.4 in
      elim (apart x w.0 a w.1) [
        | inl is ↦ let at : x.at ≡ w.0.at = ap (λ (m : Msg). m.at) is in inl (omega (arith, to, low, at))
        | inr (inl e) ↦ inl (omega (arith, to, low, e))
        | inr (inr e) ↦ inr (omega (arith, from, high, e))
      ]

  body_off : (kind k : ℕ) (x : Msg) → IsAmong x ms → x.kind ≢ kind → x.at + before ≤ k → k < x.at + before + length x.body → (q : ℕ) → IsWithin before ms kind q → IsOff k q
  body_off kind k x a other from to q w =
      let low = w.3 in
      let high = w.4 in
      elim (apart x w.0 a w.1) [
        | inl is ↦ absurd (other (ap (λ (m : Msg). m.kind) is ∙ w.2))
        | inr (inl e) ↦ inl (omega (arith, to, low, e))
        | inr (inr e) ↦ inr (omega (arith, from, high, e))
      ]

  module _ (c : List ℕ) (address : ℕ) (same : SameHeader b c address) where
    byte_same : (k : ℕ) → k < p.at + p.len → ((kind q : ℕ) → (kind ≡ dataspace_kind) ⊎ (kind ≡ layout_kind) → IsWithin before ms kind q → IsOff k q) → get_or c k 0 ≡ get_or b k 0
    byte_same k low off =
        let l = long in
        same.bytes k (omega (arith, low, l)) (off_rows k (λ q w. off dataspace_kind q (inl refl) w)) (inr (off_index k (λ q w. off layout_kind q (inr refl) w)))

    enough : 4 ≤ before
    enough = cond_both p.tracked 6 4 (λ n. 4 ≤ n) (λ t. omega arith) (λ t. omega arith)

    left : AreLeft b c before ms
    left x a =
        let from = (lies x a).from in
        let to = (lies x a).to in
        let four = enough in
        record {
          head = λ k low high. byte_same k (omega (arith, high, to, four)) (λ kind q is w. head_off kind k x a low (omega (arith, high, four)) q w);
          block = λ k_is k low high. byte_same k (omega (arith, high, to)) (λ kind q is w. body_off kind k x a (differs kind is k_is) low high q w);
        }
      where
        differs : (kind : ℕ) → (kind ≡ dataspace_kind) ⊎ (kind ≡ layout_kind) → x.kind ≡ continuation_kind → x.kind ≢ kind
        differs kind (inl e) is h = absurd (omega (arith, e, is, h))
        differs kind (inr e) is h = absurd (omega (arith, e, is, h))

    -- what stands before the messages is the same
    pub begins_same : prefix_at c ≡ Ok p
    begins_same =
        let start = begins b p h.whole.prefix in
        let inside = start.inside in
        let front : take p.at c ≡ take p.at b = range_same b c 0 p.at same.size (λ k low high. byte_same k (omega (arith, high)) (λ kind q is w. front_off kind k (omega (arith, high)) q w)) in
        prefix_whole c p.at p (ap prefix_at front ∙ prefix_front b p.at p (omega arith) h.whole.prefix)

    -- and so are kinds and flags of the messages
    pub messages_same : (ns : List Msg) → messages_at c ≡ Ok ns → AreSame ms ns
    messages_same ns also =
        let g = messages_at-ok c ns also in
        let one : g.0 ≡ p = one_prefix p g.0 (sym g.1.whole.prefix ∙ begins_same) in
        let l = long in
        let listed = subst (λ (q : Prefix). IsHeader c ns q) one g.1 in
        same_kept b c before p.len p.at p.len ms ns enough (omega (arith, l)) same.size h.listed listed.listed left

-- ---- The dataset header

abbrev Answer : Type 0
Answer = Result HeaderFields ReadError

pub dataset_kept : (img new : List ℕ) (place address : ℕ) (h k : HeaderFields) → HeaderRead img place h → HeaderRead new place k → eval img (dataset_header_for true place) ≡ Ok h
    → SameHeader (chunk_0 img place) (chunk_0 new place) address → Same img new (visits img (dataset_messages place (chunk_0 img place))) → Kept new (dataset_header_for true place) h
dataset_kept img new place address h k r s written same seen =
    let b = chunk_0 img place in
    let c = chunk_0 new place in
    let word : HeaderError → ReadError = header_refusal place in
    let large : Prog Answer = ret (Err (read_errors.Unsupported (unsupported 1))) in
    let p : Prefix = r.prefix in
    let go : List ℕ → Prefix → Prog Answer = λ b p. cond (nat_lt 512 p.total) large (from_chunk_0 place p b) in
    let go_for : List ℕ → Prefix → Prog Answer = λ b p. cond (nat_lt 512 p.total) large (from_chunk_0_for true place p b) in
    let small : nat_lt 512 p.total ≡ false = le-ltb 512 p.total r.short in
    let m = messages_at-ok b r.listed r.read in
    let is : IsHeader b r.listed p = subst (λ (q : Prefix). IsHeader b r.listed q) (one_prefix p m.0 (sym m.1.whole.prefix ∙ r.begins_so)) m.1 in
    let y = choice_ok img (prefix_at b) (go_for b) word h written in
    let one : y.0 ≡ p = one_prefix p y.0 (sym y.1 ∙ r.begins_so) in
    let g : eval img (from_chunk_0_for true place p b) ≡ Ok h = ap (λ t. eval img (cond t large (from_chunk_0_for true place p b))) (sym small) ∙ subst (λ (q : Prefix). eval img (go_for b q) ≡ Ok h) one y.2 in
    let e : eval img (from_chunk_0 place p b) ≡ Ok h = choice_from img (messages_at b) (walk_from place p) word r.listed h r.read r.walked in
    let looks : Same img new (visits img (from_chunk_0 place p b)) =
    subst (λ t. Same img new (visits img (cond t large (from_chunk_0 place p b)))) small (subst (λ vs. Same img new vs) (choice_looks img (prefix_at b) (go b) word p r.begins_so) seen) in
    let later = chunk_kept img new place p b c r.listed s.listed h r.read s.read (messages_same b p r.listed is r.read c address same s.listed s.read) e g looks in (
      later.0,
      choice_from new (prefix_at c) (go_for c) word p later.0 (begins_same b p r.listed is r.read c address same) (ap (λ t. eval new (cond t large (from_chunk_0_for true place p c))) small ∙ later.1),
      later.2,
    )
