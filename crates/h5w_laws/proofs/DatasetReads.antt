-- The messages of a header and the dataset, as programs and as relations.
use Rattle.std.proofs.Common.{◌≡◌, ◌⊎◌, ℕ, ◌+◌, ◌-◌, ◌<◌, ◌≤◌, Bool, true, cond, List, [], ◌∷◌, ◌++◌, length, take, drop, Result, Ok, Err, sym, ◌∙◌, ap, subst, inl, inr, arith}
use Rattle.std.specs.Prelude.{nat_lt}
use Rattle.std.proofs.lemmas.Bool.{lt-ltb, le-ltb, cases_lt}
use Rattle.std.proofs.lemmas.List.{take-take, drop-drop}
use Rattle.std.proofs.Math.Seq.{take-add}
use Rattle.h5w_model.specs.Numbers.{range}
use Rattle.h5w_model.specs.Programs.{Prog, ret, whole, eval, and_then}
use Rattle.h5w_model.specs.Superblock.{super_at}
use Rattle.h5w_model.specs.Headers.{prefix_at, messages_at, header_view}
use Rattle.h5w_model.specs.Datasets.{FoundMessage, HeaderFields, Described, walk, from_chunk_0, root_header, root_view, header_refusal, found_at, refused_as, super_refusal, is_swmr, superblock, linked, described, dataset_messages, dataset, dataset_place}
use Rattle.h5w_model.specs.Relations.{Spliced, HasMessages, HasDataset}
use Rattle.h5w_model.specs.declared.message.Msg.{Msg}
use Rattle.h5w_model.specs.declared.message.Prefix.{Prefix}
use Rattle.h5w_model.specs.declared.root.Super.{Super}
use Rattle.h5w_model.specs.declared.refusal.ReadError.{ReadError}
use Rattle.h5w_model.specs.declared.refusal.ReadError.TheVariants as read_errors
use Rattle.h5w_model.proofs.HeaderLemmas.{messages_at-ok}
use Rattle.h5w_laws.specs.Relations.{FindsMessages, FindsDataset}
use Rattle.h5w_laws.proofs.ResultLemmas.{then_ok, then_from, refused_ok, passes, and_then_ok, and_then_from, choice_ok, choice_from}
use Rattle.h5w_laws.proofs.LoweringLemmas.{length_range}
use Rattle.h5w_laws.proofs.SlotLemmas.{refused_from}
use Rattle.h5w_laws.proofs.SpliceLemmas.{WalkFound, walk_found, by_order, as_read, as_refused}
use Rattle.h5w_laws.proofs.SpliceReads.{ReadsAs, walk_reads}
use Rattle.h5w_laws.proofs.PrefixLemmas.{begins, prefix_front, prefix_whole, IsCut, header_view_found, header_view_short, IsRootView, root_view_says, root_view_found}

-- ---- The bytes of chunk 0 and of the first look

-- a first look and the bytes behind it
pub look_and_rest : (img : List ℕ) (place n : ℕ) → 512 < n → range img place 512 ++ range img (place + 512) (n - 512) ≡ range img place n
look_and_rest img place n long =
    let b : 512 + (n - 512) ≡ n = omega arith in
    ap (λ (r : List ℕ). range img place 512 ++ take (n - 512) r) (sym (drop-drop 512 place img))
    ∙ sym (take-add 512 (n - 512) (drop place img))
    ∙ ap (λ m. range img place m) b

-- what stands before the messages is in the first look as in chunk 0
pub look_says : (img : List ℕ) (place : ℕ) (p : Prefix) → prefix_at (range img place (p.total)) ≡ Ok p → prefix_at (range img place 512) ≡ Ok p
look_says img place p e = go (cases_lt 512 p.total)
  where
    go : (512 < p.total) ⊎ (p.total ≤ 512) → prefix_at (range img place 512) ≡ Ok p
    go (inl long) =
        let b = begins (range img place (p.total)) p e in
        let high = b.high in
        ap (λ (xs : List ℕ). prefix_at xs) (sym (take-take 512 (p.total) (drop place img) (omega arith))) ∙ prefix_front (range img place (p.total)) 512 p (omega arith) e
    go (inr short) = prefix_whole (range img place 512) (p.total) p (ap (λ (xs : List ℕ). prefix_at xs) (take-take (p.total) 512 (drop place img) short) ∙ e)

pub chunk_says : (img : List ℕ) (place : ℕ) (p : Prefix) → prefix_at (range img place 512) ≡ Ok p → prefix_at (range img place (p.total)) ≡ Ok p
chunk_says img place p e = go (cases_lt 512 p.total)
  where
    go : (512 < p.total) ⊎ (p.total ≤ 512) → prefix_at (range img place (p.total)) ≡ Ok p
    go (inl long) = prefix_whole (range img place (p.total)) 512 p (ap (λ (xs : List ℕ). prefix_at xs) (take-take 512 (p.total) (drop place img) (omega arith)) ∙ e)
    go (inr short) =
        let b = begins (range img place 512) p e in
        ap (λ (xs : List ℕ). prefix_at xs) (sym (take-take (p.total) 512 (drop place img) short)) ∙ prefix_front (range img place 512) (p.total) p b.inside e

-- a chunk 0 of at most 512 bytes is the front of the first look
pub chunk_in_look : (img : List ℕ) (place n : ℕ) → n ≤ 512 → take n (range img place 512) ≡ range img place n
chunk_in_look img place n short = take-take n 512 (drop place img) short

-- a chunk 0 whose messages are read has all its bytes
pub chunk_whole : (img : List ℕ) (place : ℕ) (p : Prefix) (ms : List Msg) → prefix_at (range img place (p.total)) ≡ Ok p → messages_at (range img place (p.total)) ≡ Ok ms
    → length (range img place (p.total)) ≡ p.total
chunk_whole img place p ms e m =
    let read = messages_at-ok (range img place (p.total)) ms m in
    let header = (read.1).whole in
    let end = header.end in
    let long = header.long in
    let b = begins (range img place (p.total)) p e in
    let total = b.total in
    let length = length_range img place (p.total) in
    omega arith

-- ---- From chunk 0

-- the program that goes on with the messages
pub walk_from : ℕ → Prefix → List Msg → Prog (Result HeaderFields ReadError)
walk_from place p ms = walk 32 place p.tracked (record { place = place; len = p.total } ∷ []) [] (found_at place true ms)

pub chunk_found : (img : List ℕ) (place : ℕ) (p : Prefix) (h : HeaderFields) → prefix_at (range img place (p.total)) ≡ Ok p
    → eval img (from_chunk_0 place p (range img place (p.total))) ≡ Ok h → HasMessages img place h.messages
unfolding walk_from WalkFound
chunk_found img place p h e f =
    let m = choice_ok img (messages_at (range img place (p.total))) (walk_from place p) (header_refusal place) h f in
    let w = walk_found img place (p.tracked) 32 (record { place = place; len = p.total } ∷ []) [] (found_at place true m.0) h m.2 in
    record {
      prefix = p;
      begins = e;
      whole = chunk_whole img place p m.0 e m.1;
      listed = m.0;
      read = m.1;
      blocks = w.blocks;
      few = w.few;
      spliced = subst (λ (rs : List FoundMessage). Spliced img (p.tracked) w.blocks (found_at place true m.0) rs) (sym w.joined) w.spliced;
    }

-- a header is read as these messages
pub record ChunkReads (img : List ℕ) (place : ℕ) (p : Prefix) (ms : List FoundMessage) : Type 0 where
  fields : HeaderFields
  is : eval img (from_chunk_0 place p (range img place (p.total))) ≡ Ok fields
  messages : fields.messages ≡ ms

pub chunk_reads : (img : List ℕ) (place : ℕ) (ms : List FoundMessage) (h : HasMessages img place ms) → ChunkReads img place h.prefix ms
unfolding walk_from ReadsAs
chunk_reads img place ms h =
    let p = h.prefix in
    let w = walk_reads img place (p.tracked) h.blocks (found_at place true h.listed) ms h.spliced 32 h.few (record { place = place; len = p.total } ∷ []) [] in
    record {
      fields = w.fields;
      is = choice_from img (messages_at (range img place (p.total))) (walk_from place p) (header_refusal place) h.listed w.fields h.read w.is;
      messages = w.messages;
    }

-- ---- The root header

-- the program that goes on with what stands before the messages
pub root_from : ℕ → List ℕ → Prefix → Prog (Result HeaderFields ReadError)
root_from place first p =
    cond (nat_lt 512 p.total) (whole (place + 512) (p.total - 512) (λ rest. from_chunk_0 place p (first ++ rest))) (from_chunk_0 place p first)

pub root_is_chunk : (img : List ℕ) (place : ℕ) (p : Prefix) → IsRootView (range img place 512) (root_view (range img place 512)) p
    → eval img (root_from place (root_view (range img place 512)) p) ≡ eval img (from_chunk_0 place p (range img place (p.total)))
unfolding root_from
root_is_chunk img place p (inl long) =
    ap (λ (t : Bool). eval img (cond t (whole (place + 512) (p.total - 512) (λ rest. from_chunk_0 place p (root_view (range img place 512) ++ rest))) (from_chunk_0 place p (root_view (range img place 512))))) (lt-ltb 512 p.total long.0)
    ∙ ap (λ (xs : List ℕ). eval img (from_chunk_0 place p (xs ++ range img (place + 512) (p.total - 512)))) long.1
    ∙ ap (λ (xs : List ℕ). eval img (from_chunk_0 place p xs)) (look_and_rest img place (p.total) long.0)
root_is_chunk img place p (inr short) =
    ap (λ (t : Bool). eval img (cond t (whole (place + 512) (p.total - 512) (λ rest. from_chunk_0 place p (root_view (range img place 512) ++ rest))) (from_chunk_0 place p (root_view (range img place 512))))) (le-ltb 512 p.total short.0)
    ∙ ap (λ (xs : List ℕ). eval img (from_chunk_0 place p xs)) (short.1 ∙ chunk_in_look img place (p.total) short.0)

pub root_found : (img : List ℕ) (place : ℕ) (h : HeaderFields) → eval img (root_header place) ≡ Ok h → HasMessages img place h.messages
unfolding root_from
root_found img place h e =
    let p = choice_ok img (prefix_at (root_view (range img place 512))) (root_from place (root_view (range img place 512))) (header_refusal place) h e in
    let look = root_view_found (range img place 512) p.0 p.1 in
    chunk_found img place p.0 h (chunk_says img place p.0 look)
    (sym (root_is_chunk img place p.0 (root_view_says (range img place 512) p.0 look)) ∙ p.2)

-- what counts of the look says it too
pub root_view_reads : (b : List ℕ) (p : Prefix) → prefix_at b ≡ Ok p → IsRootView b (root_view b) p → prefix_at (root_view b) ≡ Ok p
root_view_reads b p e (inl long) = ap (λ (xs : List ℕ). prefix_at xs) long.1 ∙ e
root_view_reads b p e (inr short) =
    let start = begins b p e in
    ap (λ (xs : List ℕ). prefix_at xs) short.1 ∙ prefix_front b (p.total) p start.inside e

pub root_reads : (img : List ℕ) (place : ℕ) (ms : List FoundMessage) → HasMessages img place ms → (h : HeaderFields) × (eval img (root_header place) ≡ Ok h) × (h.messages ≡ ms)
unfolding root_from
root_reads img place ms h =
    let p = h.prefix in
    let look = look_says img place p h.begins in
    let view = root_view_says (range img place 512) p look in
    let chunk = chunk_reads img place ms h in (
      chunk.fields,
      choice_from img (prefix_at (root_view (range img place 512))) (root_from place (root_view (range img place 512))) (header_refusal place) p chunk.fields
          (root_view_reads (range img place 512) p look view) (root_is_chunk img place p view ∙ chunk.is),
      chunk.messages,
    )

pub messages_found : (img : List ℕ) (place : ℕ) (ms : List FoundMessage) → (h : HeaderFields) × (eval img (root_header place) ≡ Ok h) × (h.messages ≡ ms) → HasMessages img place ms
messages_found img place ms t = subst (λ (rs : List FoundMessage). HasMessages img place rs) t.2 (root_found img place t.0 t.1)

pub finds_messages : FindsMessages
finds_messages img place ms = (messages_found img place ms, root_reads img place ms)

-- ---- The dataset header

-- the program that goes on with what stands before the messages
pub small_from : ℕ → List ℕ → Prefix → Prog (Result HeaderFields ReadError)
small_from place b p = cond (nat_lt 512 p.total) (ret (Err (read_errors.Unsupported (record { 0 = 1 })))) (from_chunk_0 place p b)

-- a header of at most 512 bytes with these messages
pub record HasSmall (img : List ℕ) (place : ℕ) (messages : List FoundMessage) : Type 0 where
  header : HasMessages img place messages
  small : header.prefix.total ≤ 512

pub small_found : (img : List ℕ) (place : ℕ) (h : HeaderFields) → eval img (dataset_messages place (header_view (range img place 512))) ≡ Ok h → HasSmall img place h.messages
unfolding small_from chunk_found
small_found img place h e =
    let view = header_view (range img place 512) in
    let p = choice_ok img (prefix_at view) (small_from place view) (header_refusal place) h e in
    let look = header_view_found (range img place 512) p.0 p.1 in
    go p.0 look.0 look.1 (by_order img 512 p.0.total (ret (Err (read_errors.Unsupported (record { 0 = 1 })))) (from_chunk_0 place p.0 view) (Ok h) p.2)
  where
    never : {Z : Type 0} (e : ReadError) → as_refused e ≡ as_read h → Z
    never e i = cc

    go : (p : Prefix) → prefix_at (range img place 512) ≡ Ok p → IsCut (range img place 512) (header_view (range img place 512)) p
        → (512 < p.total) × (as_refused (read_errors.Unsupported (record { 0 = 1 })) ≡ as_read h)
        ⊎ (p.total ≤ 512) × (eval img (from_chunk_0 place p (header_view (range img place 512))) ≡ Ok h)
        → HasSmall img place h.messages
    go p look cut (inl long) = never (read_errors.Unsupported (record { 0 = 1 })) long.1
    go p look (inl long) (inr short) = absurd (omega arith)
    go p look (inr cut) (inr short) = record {
      header = chunk_found img place p h (chunk_says img place p look)
          (ap (λ (xs : List ℕ). eval img (from_chunk_0 place p xs)) (sym (cut.1 ∙ chunk_in_look img place (p.total) cut.0)) ∙ short.1);
      small = cut.0;
    }

pub small_reads : (img : List ℕ) (place : ℕ) (ms : List FoundMessage) (h : HasMessages img place ms) → h.prefix.total ≤ 512
    → (f : HeaderFields) × (eval img (dataset_messages place (header_view (range img place 512))) ≡ Ok f) × (f.messages ≡ ms)
unfolding small_from
small_reads img place ms h small =
    let p = h.prefix in
    let look = look_says img place p h.begins in
    let chunk = chunk_reads img place ms h in
    let view : header_view (range img place 512) ≡ range img place (p.total) = header_view_short (range img place 512) p look small ∙ chunk_in_look img place (p.total) small in (
      chunk.fields,
      choice_from img (prefix_at (header_view (range img place 512))) (small_from place (header_view (range img place 512))) (header_refusal place) p chunk.fields
          (ap (λ (xs : List ℕ). prefix_at xs) view ∙ h.begins)
          (ap (λ (t : Bool). eval img (cond t (ret (Err (read_errors.Unsupported (record { 0 = 1 })))) (from_chunk_0 place p (header_view (range img place 512))))) (le-ltb 512 p.total small)
          ∙ ap (λ (xs : List ℕ). eval img (from_chunk_0 place p xs)) view ∙ chunk.is),
      chunk.messages,
    )

-- ---- The dataset

-- what the superblock says, of version 2, or open for writing and for SWMR writing, or for neither
pub super_found : (img : List ℕ) (s : Super) → eval img superblock ≡ Ok s → (super_at (range img 0 48) ≡ Ok s) × (is_swmr s ≡ true)
super_found img s e =
    let r = then_ok (refused_as super_refusal (super_at (range img 0 48))) swmr s e in
    let t = passes (is_swmr r.0) (of_super r.0) (read_errors.NotSwmr (r.0.flags)) s r.2 in
    let same = one_super r.0 s t.1 in
    subst (λ (q : Super). (super_at (range img 0 48) ≡ Ok q) × (is_swmr q ≡ true)) same (refused_ok super_refusal (super_at (range img 0 48)) r.0 r.1, t.0)
  where
    of_super : Super → Result Super ReadError
    of_super q = Ok q

    swmr : Super → Result Super ReadError
    swmr q = cond (is_swmr q) (Ok q) (Err (read_errors.NotSwmr (q.flags)))

    one_super : (p q : Super) → of_super p ≡ of_super q → p ≡ q
    one_super p q h = cc

pub super_reads : (img : List ℕ) (s : Super) → super_at (range img 0 48) ≡ Ok s → is_swmr s ≡ true → eval img superblock ≡ Ok s
super_reads img s e f =
    then_from (refused_as super_refusal (super_at (range img 0 48))) swmr s s (refused_from super_refusal (super_at (range img 0 48)) s e)
    (ap (λ (t : Bool). of_test t) f)
  where
    of_test : Bool → Result Super ReadError
    of_test t = cond t (Ok s) (Err (read_errors.NotSwmr (s.flags)))

    swmr : Super → Result Super ReadError
    swmr q = cond (is_swmr q) (Ok q) (Err (read_errors.NotSwmr (q.flags)))

-- what the messages say, by a reader
pub says_of : HeaderFields → Prog (Result Described ReadError)
says_of h = ret (refused_as read_errors.Unsupported (described h.messages))

pub link_of : List ℕ → HeaderFields → Prog (Result ℕ ReadError)
link_of name h = ret (linked name h.messages)

pub place_from : List ℕ → Super → Prog (Result ℕ ReadError)
place_from name s = and_then (root_header s.root) (link_of name)

pub dataset_found : (img name : List ℕ) (place : ℕ) (d : Described) → (eval img (dataset_place name) ≡ Ok place) × (eval img (dataset place) ≡ Ok d) → HasDataset img name place d
unfolding says_of link_of place_from
dataset_found img name place d t =
    let s = and_then_ok img superblock (place_from name) place t.0 in
    let super = super_found img s.0 s.1 in
    let root = and_then_ok img (root_header (s.0.root)) (link_of name) place s.2 in
    let m = and_then_ok img (dataset_messages place (header_view (range img place 512))) says_of d t.1 in
    let header = small_found img place m.0 m.1 in
    record {
      superblock = s.0;
      found = super.0;
      flags = super.1;
      root = root.0.messages;
      root_header = root_found img (s.0.root) root.0 root.1;
      link = root.2;
      messages = m.0.messages;
      header = header.header;
      small = header.small;
      says = refused_ok read_errors.Unsupported (described m.0.messages) d m.2;
    }

pub dataset_reads : (img name : List ℕ) (place : ℕ) (d : Described) → HasDataset img name place d → (eval img (dataset_place name) ≡ Ok place) × (eval img (dataset place) ≡ Ok d)
unfolding says_of link_of place_from
dataset_reads img name place d h =
    let root = root_reads img (h.superblock.root) h.root h.root_header in
    let header = small_reads img place h.messages h.header h.small in (
      and_then_from img superblock (place_from name) h.superblock place (super_reads img h.superblock h.found h.flags)
          (and_then_from img (root_header (h.superblock.root)) (link_of name) root.0 place root.1 (ap (λ (ms : List FoundMessage). linked name ms) root.2 ∙ h.link)),
      and_then_from img (dataset_messages place (header_view (range img place 512))) says_of header.0 d header.1
          (ap (λ (ms : List FoundMessage). refused_as read_errors.Unsupported (described ms)) header.2 ∙ refused_from read_errors.Unsupported (described h.messages) d h.says),
    )

pub finds_dataset : FindsDataset
finds_dataset img name place d = (dataset_found img name place d, dataset_reads img name place d)

-- the walk that gave a header's fields, from its chunk 0 on
pub root_walked : (img : List ℕ) (place : ℕ) (h : HeaderFields) → eval img (root_header place) ≡ Ok h
    → (p : Prefix) × (ms : List FoundMessage) × (prefix_at (range img place (p.total)) ≡ Ok p) × (eval img (walk 32 place p.tracked (record { place = place; len = p.total } ∷ []) [] ms) ≡ Ok h)
unfolding root_from walk_from
root_walked img place h e =
    let p = choice_ok img (prefix_at (root_view (range img place 512))) (root_from place (root_view (range img place 512))) (header_refusal place) h e in
    let look = root_view_found (range img place 512) p.0 p.1 in
    let begun = chunk_says img place p.0 look in
    let chunk = sym (root_is_chunk img place p.0 (root_view_says (range img place 512) p.0 look)) ∙ p.2 in
    let m = choice_ok img (messages_at (range img place (p.0.total))) (walk_from place p.0) (header_refusal place) h chunk in
    (p.0, found_at place true m.0, begun, m.2)
