-- A header that is looked at to be written, over two images: where chunk 0 has alike messages and the continuation blocks are the same,
-- it is taken in both.
use Rattle.std.proofs.Common.{◌≡◌, ℕ, zero, suc, ◌+◌, ◌-◌, Bool, true, false, not, cond, ◌&&◌, List, [], ◌∷◌, ◌++◌, length, Option, Some, None, Result, Ok, Err, refl, ap, sym, ◌∙◌, subst, inl, inr}
use Rattle.std.specs.Prelude.{◌==◌, find, option_map, nat_lt}
use Rattle.std.proofs.lemmas.Bool.{cases_Bool, eqb-true}
use Rattle.h5w_model.specs.Numbers.{range, field}
use Rattle.h5w_model.specs.Programs.{Prog, ret, whole, eval, visits, Same}
use Rattle.h5w_model.specs.Headers.{block_at, first_unknown, has, is_known, messages_at, prefix_at, unknown_for_writing, unless_refused}
use Rattle.h5w_model.specs.Datasets.{FoundMessage, HeaderFields, Range, block_len, block_messages, block_place, first_of, found_at, from_chunk_0, header_refusal, refused_as, root_header, root_view, splice, then_also, walk}
use Rattle.h5w_model.specs.declared.message.Msg.{Msg}
use Rattle.h5w_model.specs.declared.message.Prefix.{Prefix}
use Rattle.h5w_model.specs.declared.refusal.HeaderError.{HeaderError}
use Rattle.h5w_model.specs.declared.refusal.HeaderError.TheVariants as header_errors
use Rattle.h5w_model.specs.declared.refusal.ReadError.{ReadError}
use Rattle.h5w_model.specs.declared.refusal.ReadError.TheVariants.{Header}
use Rattle.h5w_model.proofs.HeaderRoundTrip.{kind_of}
use Rattle.h5w_laws.proofs.PrefixLemmas.{one_prefix}
use Rattle.h5w_laws.proofs.ResultLemmas.{choice_from, choice_ok, fails, refused_ok, then_from, then_ok}
use Rattle.h5w_step_laws.proofs.HeaderVisits.{choice_looks, same_header}
use Rattle.h5w_headers.specs.Walks.{block_for, from_chunk_0_for, known_by, root_header_for, walk_for}
use Rattle.h5w_step_laws.proofs.WalkLemmas.{same_messages}
use Rattle.h5w_writable_laws.proofs.HeadLemmas.{AreSame}

abbrev Answer : Type 0
Answer = Result HeaderFields ReadError

-- ---- Messages

-- of one kind, both in chunk 0 or both not; a continuation names the same block
pub record IsAlike (m n : FoundMessage) : Type 0 where
  pub kind : n.kind ≡ m.kind
  pub own : n.in_chunk_0 ≡ m.in_chunk_0
  pub block : m.kind ≡ 0x10 → n.body ≡ m.body

abbrev pub AreAlike : List FoundMessage → List FoundMessage → Type 0
AreAlike [] [] = Unit {0}
AreAlike (m ∷ ms) (n ∷ ns) = IsAlike m n × AreAlike ms ns
AreAlike [] (n ∷ ns) = ⊥
AreAlike (m ∷ ms) [] = ⊥

alike_itself : (ms : List FoundMessage) → AreAlike ms ms
alike_itself [] = tt
alike_itself (m ∷ ms) = (record { kind = refl; own = refl; block = λ k. refl }, alike_itself ms)

alike_joined : (xs ys zs ws : List FoundMessage) → AreAlike xs ys → AreAlike zs ws → AreAlike (xs ++ zs) (ys ++ ws)
alike_joined [] [] zs ws a b = b
alike_joined [] (y ∷ ys) zs ws a b = absurd a
alike_joined (x ∷ xs) [] zs ws a b = absurd a
alike_joined (x ∷ xs) (y ∷ ys) zs ws a b = (a.0, alike_joined xs ys zs ws a.1 b)

-- where the first of a kind is in one, it is in the other
pub first_alike : (kind : ℕ) (ms ns : List FoundMessage) (y : FoundMessage) → AreAlike ms ns → first_of kind ns ≡ Some y → (x : FoundMessage) × (first_of kind ms ≡ Some x) × (y.in_chunk_0 ≡ x.in_chunk_0)
first_alike kind [] [] y a h = absurd cc
first_alike kind [] (n ∷ ns) y a h = absurd a
first_alike kind (m ∷ ms) [] y a h = absurd a
first_alike kind (m ∷ ms) (n ∷ ns) y a h =
    go (m.kind == kind) (ap (λ k. cond (k == kind) (Some n) (first_of kind ns)) (sym a.0.kind) ∙ h) (first_alike kind ms ns y a.1)
  where
    same : (p q : FoundMessage) → ◌≡◌ {A = Option FoundMessage} (Some p) (Some q) → p ≡ q
    same p q e = cc

    go : (t : Bool) → cond t (Some n) (first_of kind ns) ≡ Some y → (first_of kind ns ≡ Some y → (x : FoundMessage) × (first_of kind ms ≡ Some x) × (y.in_chunk_0 ≡ x.in_chunk_0))
        → (x : FoundMessage) × (cond t (Some m) (first_of kind ms) ≡ Some x) × (y.in_chunk_0 ≡ x.in_chunk_0)
    go true e later = (m, refl, ap (λ (z : FoundMessage). z.in_chunk_0) (sym (same n y e)) ∙ a.0.own)
    go false e later = later e

found_alike : (place : ℕ) (ms ns : List Msg) → AreSame ms ns → AreAlike (found_at place true ms) (found_at place true ns)
found_alike place [] [] a = tt
found_alike place [] (n ∷ ns) a = absurd a
found_alike place (m ∷ ms) [] a = absurd a
found_alike place (m ∷ ms) (n ∷ ns) a = (record { kind = a.0.kind; own = refl; block = a.0.block }, found_alike place ms ns a.1)

same_itself : (ms : List Msg) → AreSame ms ms
same_itself [] = tt
same_itself (m ∷ ms) = (record { kind = refl; flags = refl; block = λ k. refl }, same_itself ms)

-- ---- What a writer must know

unknown_same : (bit : ℕ) (ms ns : List Msg) → AreSame ms ns → first_unknown bit ns ≡ first_unknown bit ms
unknown_same bit [] [] a = refl
unknown_same bit [] (n ∷ ns) a = absurd a
unknown_same bit (m ∷ ms) [] a = absurd a
unknown_same bit (m ∷ ms) (n ∷ ns) a =
    let test : Msg → Bool = λ m. not (is_known m.kind) && has m.flags bit in
    ap (λ t. option_map (λ (x : Msg). x.kind) (cond t (Some n) (find test ns))) (λ i. not (is_known (a.0.kind i)) && has (a.0.flags i) bit)
    ∙ kind_of (test m) n m (find test ns) (find test ms) a.0.kind (unknown_same bit ms ns a.1)

unless_ok : (o : Option ℕ) (xs ms : List Msg) → unless_refused o xs ≡ Ok ms → (o ≡ None) × (xs ≡ ms)
unless_ok None xs ms h = (refl, same_messages xs ms h)
unless_ok (Some kind) xs ms h = absurd cc

known_ok : (r : Result (List Msg) HeaderError) (ms : List Msg) → known_by true r ≡ Ok ms → (r ≡ Ok ms) × (unknown_for_writing ms ≡ None)
known_ok (Ok xs) ms h =
    let u = unless_ok (unknown_for_writing xs) xs ms h in
    (ap (λ (z : List Msg). Ok z) u.1, ap (λ (z : List Msg). unknown_for_writing z) (sym u.1) ∙ u.0)
known_ok (Err e) ms h = absurd cc

block_same : (tracked : Bool) (place len : ℕ) (b : List ℕ) (found : List FoundMessage) → block_for true tracked place len b ≡ Ok found → block_messages tracked place len b ≡ Ok found
block_same tracked place len b found h =
    let says : List Msg → Result (List FoundMessage) ReadError = λ ms. Ok (found_at place false ms) in
    let word : HeaderError → ReadError = header_refusal place in
    let r : Result (List Msg) HeaderError = block_at tracked b in
    let cut : ReadError = header_refusal place (header_errors.Short len (length b)) in
    let p = fails (nat_lt (length b) len) (then_also (refused_as word (known_by true r)) says) cut found h in
    let q = then_ok (refused_as word (known_by true r)) says found p.1 in
    let k = known_ok r q.0 (refused_ok word (known_by true r) q.0 q.1) in
    ap (λ t. cond t (Err cut) (then_also (refused_as word r) says)) p.0 ∙ then_from (refused_as word r) says q.0 found (ap (refused_as word) k.0) q.2

-- ---- The walk

-- it is taken in the new image, with alike messages
abbrev pub Kept : List ℕ → Prog Answer → HeaderFields → Type 0
Kept new p h = (k : HeaderFields) × (eval new p ≡ Ok k) × AreAlike h.messages k.messages

one_list : (xs ys : List FoundMessage) → ◌≡◌ {A = Result (List FoundMessage) ReadError} (Ok xs) (Ok ys) → xs ≡ ys
one_list xs ys h = cc

abbrev AtBlock : Type 0
AtBlock = List FoundMessage → FoundMessage → List FoundMessage → Prog Answer

splice_kept : (img new : List ℕ) (read write : AtBlock) (visited : List Range) (done also ms ns : List FoundMessage) (h : HeaderFields) → AreAlike done also → AreAlike ms ns
    → ((before others : List FoundMessage) (m n : FoundMessage) (rest more : List FoundMessage) → AreAlike before others → IsAlike m n → m.kind ≡ 0x10 → AreAlike rest more
    → eval img (read before m rest) ≡ Ok h → eval img (write before m rest) ≡ Ok h → Same img new (visits img (read before m rest)) → Kept new (write others n more) h)
    → eval img (splice read visited done ms) ≡ Ok h → eval img (splice write visited done ms) ≡ Ok h → Same img new (visits img (splice read visited done ms)) → Kept new (splice write visited also ns) h
splice_kept img new read write visited done also [] [] h d a go e g same =
    let all : HeaderFields = record { messages = done; ranges = visited } in
    (record { messages = also; ranges = visited }, refl, subst (λ (x : HeaderFields). AreAlike x.messages also) (same_header all h e) d)
splice_kept img new read write visited done also [] (n ∷ ns) h d a go e g same = absurd a
splice_kept img new read write visited done also (m ∷ ms) [] h d a go e g same = absurd a
splice_kept img new read write visited done also (m ∷ ms) (n ∷ ns) h d a go e g same =
    let reads : Bool → Prog Answer = λ c. cond c (read done m ms) (splice read visited (done ++ m ∷ []) ms) in
    let writes : Bool → Prog Answer = λ c. cond c (write done m ms) (splice write visited (done ++ m ∷ []) ms) in
    let also_writes : Bool → Prog Answer = λ c. cond c (write also n ns) (splice write visited (also ++ n ∷ []) ns) in
    let kind : (n.kind == 0x10) ≡ (m.kind == 0x10) = ap (λ j. j == 0x10) a.0.kind in
    elim (cases_Bool (m.kind == 0x10)) [
      | inl is ↦
          subst (λ c. Kept new (also_writes c) h) (sym (kind ∙ is))
          (go done also m n ms ns d a.0 (eqb-true m.kind 0x10 is) a.1 (ap (λ c. eval img (reads c)) (sym is) ∙ e) (ap (λ c. eval img (writes c)) (sym is) ∙ g)
          (subst (λ c. Same img new (visits img (reads c))) is same))
      | inr is ↦
          subst (λ c. Kept new (also_writes c) h) (sym (kind ∙ is))
          (splice_kept img new read write visited (done ++ m ∷ []) (also ++ n ∷ []) ms ns h (alike_joined done also (m ∷ []) (n ∷ []) d (a.0, tt)) a.1 go
          (ap (λ c. eval img (reads c)) (sym is) ∙ e) (ap (λ c. eval img (writes c)) (sym is) ∙ g) (subst (λ c. Same img new (visits img (reads c))) is same))
    ]

pub walk_kept : (img new : List ℕ) (more header : ℕ) (tracked : Bool) (visited : List Range) (done also ms ns : List FoundMessage) (h : HeaderFields) → AreAlike done also → AreAlike ms ns
    → eval img (walk more header tracked visited done ms) ≡ Ok h → eval img (walk_for true more header tracked visited done ms) ≡ Ok h → Same img new (visits img (walk more header tracked visited done ms))
    → Kept new (walk_for true more header tracked visited also ns) h
walk_kept img new zero header tracked visited done also ms ns h d a e g same =
    let stop : AtBlock = λ before m rest. ret (Err (Header header header_errors.Continuations)) in
    splice_kept img new stop stop visited done also ms ns h d a (λ before others m n rest more b i k r e g s. absurd cc) e g same
walk_kept img new (suc more) header tracked visited done also ms ns h d a e g same =
    let here : ℕ → ℕ → List Range = λ q l. visited ++ record { place = q; len = l } ∷ [] in
    let short : ℕ → ℕ → Prog Answer = λ q l. ret (Err (header_refusal q (header_errors.Short 8 l))) in
    let onward : ℕ → ℕ → List FoundMessage → List FoundMessage → List FoundMessage → Prog Answer = λ q l before rest inside. walk more header tracked (here q l) before (inside ++ rest) in
    let outward : ℕ → ℕ → List FoundMessage → List FoundMessage → List FoundMessage → Prog Answer = λ q l before rest inside. walk_for true more header tracked (here q l) before (inside ++ rest) in
    let in_block : ℕ → ℕ → List FoundMessage → List FoundMessage → List ℕ → Prog Answer = λ q l before rest b.
    elim (block_messages tracked q l b) as (λ _. Prog Answer) [ Ok inside ↦ onward q l before rest inside | Err e ↦ ret (Err e) ] in
    let for_block : ℕ → ℕ → List FoundMessage → List FoundMessage → List ℕ → Prog Answer = λ q l before rest b.
    elim (block_for true tracked q l b) as (λ _. Prog Answer) [ Ok inside ↦ outward q l before rest inside | Err e ↦ ret (Err e) ] in
    let read_at : ℕ → ℕ → List FoundMessage → List FoundMessage → Prog Answer = λ q l before rest. cond (nat_lt l 8) (short q l) (whole q l (in_block q l before rest)) in
    let write_at : ℕ → ℕ → List FoundMessage → List FoundMessage → Prog Answer = λ q l before rest. cond (nat_lt l 8) (short q l) (whole q l (for_block q l before rest)) in
    splice_kept img new (λ before m rest. read_at (block_place m) (block_len m) before rest) (λ before m rest. write_at (block_place m) (block_len m) before rest) visited done also ms ns h d a
    (λ before others m n rest after b i k r e g s.
    let q = block_place m in
    let l = block_len m in
    let moved : write_at (block_place n) (block_len n) others after ≡ write_at q l others after = ap (λ (x : List ℕ). write_at (field x 0 8) (field x 8 8) others after) (i.block k) in
    elim (cases_Bool (nat_lt l 8)) [
      | inl t ↦
          let e : eval img (short q l) ≡ Ok h = ap (λ c. eval img (cond c (short q l) (whole q l (in_block q l before rest)))) (sym t) ∙ e in
          absurd cc
      | inr t ↦
          let bytes = range img q l in
          let e : eval img (in_block q l before rest bytes) ≡ Ok h = ap (λ c. eval img (cond c (short q l) (whole q l (in_block q l before rest)))) (sym t) ∙ e in
          let g : eval img (for_block q l before rest bytes) ≡ Ok h = ap (λ c. eval img (cond c (short q l) (whole q l (for_block q l before rest)))) (sym t) ∙ g in
          let s : Same img new (visits img (whole q l (in_block q l before rest))) = subst (λ c. Same img new (visits img (cond c (short q l) (whole q l (in_block q l before rest))))) t s in
          let x = choice_ok img (block_messages tracked q l bytes) (onward q l before rest) (λ e. e) h e in
          let y = choice_ok img (block_for true tracked q l bytes) (outward q l before rest) (λ e. e) h g in
          let one : y.0 ≡ x.0 = one_list y.0 x.0 (sym (block_same tracked q l bytes y.0 y.1) ∙ x.1) in
          let written : eval img (outward q l before rest x.0) ≡ Ok h = subst (λ z. eval img (outward q l before rest z) ≡ Ok h) one y.2 in
          let seen = choice_looks img (block_messages tracked q l bytes) (onward q l before rest) (λ e. e) x.0 x.1 in
          let later : Kept new (outward q l others after x.0) h =
          walk_kept img new more header tracked (here q l) before others (x.0 ++ rest) (x.0 ++ after) h b (alike_joined x.0 x.0 rest after (alike_itself x.0) r) x.2 written (subst (λ vs. Same img new vs) seen s.1) in (
            later.0,
            ap (λ p. eval new p) moved
                ∙ ap (λ c. eval new (cond c (short q l) (whole q l (for_block q l others after)))) t
                ∙ ap (λ (z : List ℕ). eval new (for_block q l others after z)) s.0
                ∙ choice_from new (block_for true tracked q l bytes) (outward q l others after) (λ e. e) x.0 later.0 (y.1 ∙ ap (λ z. Ok z) one) later.1,
            later.2,
          )
    ])
    e g same

-- ---- From chunk 0 on

abbrev starts : ℕ → Prefix → List Range
starts place p = record { place = place; len = p.total } ∷ []

abbrev walks : ℕ → Prefix → List Msg → Prog Answer
walks place p ms = walk 32 place p.tracked (starts place p) [] (found_at place true ms)

abbrev walks_for : ℕ → Prefix → List Msg → Prog Answer
walks_for place p ms = walk_for true 32 place p.tracked (starts place p) [] (found_at place true ms)

pub chunk_kept : (img new : List ℕ) (place : ℕ) (p : Prefix) (b c : List ℕ) (ms ns : List Msg) (h : HeaderFields) → messages_at b ≡ Ok ms → messages_at c ≡ Ok ns → AreSame ms ns
    → eval img (from_chunk_0 place p b) ≡ Ok h → eval img (from_chunk_0_for true place p b) ≡ Ok h → Same img new (visits img (from_chunk_0 place p b)) → Kept new (from_chunk_0_for true place p c) h
chunk_kept img new place p b c ms ns h read also same e g seen =
    let word : HeaderError → ReadError = header_refusal place in
    let x = choice_ok img (messages_at b) (walks place p) word h e in
    let y = choice_ok img (known_by true (messages_at b)) (walks_for place p) word h g in
    let k = known_ok (messages_at b) y.0 y.1 in
    let one : x.0 ≡ ms = same_messages x.0 ms (sym x.1 ∙ read) in
    let two : y.0 ≡ ms = same_messages y.0 ms (sym k.0 ∙ read) in
    let none : unknown_for_writing ns ≡ None = unknown_same 8 ms ns same ∙ ap (λ (z : List Msg). unknown_for_writing z) (sym two) ∙ k.1 in
    let later : Kept new (walks_for place p ns) h =
    walk_kept img new 32 place p.tracked (starts place p) [] [] (found_at place true ms) (found_at place true ns) h tt (found_alike place ms ns same)
    (subst (λ z. eval img (walks place p z) ≡ Ok h) one x.2) (subst (λ z. eval img (walks_for place p z) ≡ Ok h) two y.2)
    (subst (λ vs. Same img new vs) (choice_looks img (messages_at b) (walks place p) word ms read) seen) in (
      later.0,
      choice_from new (known_by true (messages_at c)) (walks_for place p) word ns later.0 (ap (known_by true) also ∙ ap (λ o. unless_refused o ns) none) later.1,
      later.2,
    )

-- with the same chunk 0
same_chunk_kept : (img new : List ℕ) (place : ℕ) (p : Prefix) (b : List ℕ) (h : HeaderFields) → eval img (from_chunk_0 place p b) ≡ Ok h → eval img (from_chunk_0_for true place p b) ≡ Ok h
    → Same img new (visits img (from_chunk_0 place p b)) → Kept new (from_chunk_0_for true place p b) h
same_chunk_kept img new place p b h e g seen =
    let x = choice_ok img (messages_at b) (walks place p) (header_refusal place) h e in
    chunk_kept img new place p b b x.0 x.0 h x.1 x.1 (same_itself x.0) e g seen

-- ---- The root header

pub root_kept : (img new : List ℕ) (place : ℕ) (h : HeaderFields) → eval img (root_header place) ≡ Ok h → eval img (root_header_for true place) ≡ Ok h → Same img new (visits img (root_header place))
    → Kept new (root_header_for true place) h
root_kept img new place h e g same =
    let first : List ℕ = root_view (range img place 512) in
    let word : HeaderError → ReadError = header_refusal place in
    let more : Prefix → List ℕ → List ℕ → Prog Answer = λ p b rest. from_chunk_0 place p (b ++ rest) in
    let more_for : Prefix → List ℕ → List ℕ → Prog Answer = λ p b rest. from_chunk_0_for true place p (b ++ rest) in
    let go : List ℕ → Prefix → Prog Answer = λ b p. cond (nat_lt 512 p.total) (whole (place + 512) (p.total - 512) (more p b)) (from_chunk_0 place p b) in
    let go_for : List ℕ → Prefix → Prog Answer = λ b p. cond (nat_lt 512 p.total) (whole (place + 512) (p.total - 512) (more_for p b)) (from_chunk_0_for true place p b) in
    let body : List ℕ → Prog Answer = λ b. elim (prefix_at b) as (λ _. Prog Answer) [ Ok p ↦ go_for b p | Err e ↦ ret (Err (word e)) ] in
    let x = choice_ok img (prefix_at first) (go first) word h e in
    let y = choice_ok img (prefix_at first) (go_for first) word h g in
    let p : Prefix = x.0 in
    let one : y.0 ≡ p = one_prefix p y.0 (sym y.1 ∙ x.1) in
    let written : eval img (go_for first p) ≡ Ok h = subst (λ z. eval img (go_for first z) ≡ Ok h) one y.2 in
    let seen : Same img new (visits img (go first p)) = subst (λ vs. Same img new vs) (choice_looks img (prefix_at first) (go first) word p x.1) same.1 in
    let long = whole (place + 512) (p.total - 512) (more p first) in
    let long_for = whole (place + 512) (p.total - 512) (more_for p first) in
    let later : Kept new (go_for first p) h = elim (cases_Bool (nat_lt 512 p.total)) [
      | inl t ↦
          let b : List ℕ = first ++ range img (place + 512) (p.total - 512) in
          let s : Same img new (visits img long) = subst (λ c. Same img new (visits img (cond c long (from_chunk_0 place p first)))) t seen in
          let k = same_chunk_kept img new place p b h (ap (λ c. eval img (cond c long (from_chunk_0 place p first))) (sym t) ∙ x.2)
          (ap (λ c. eval img (cond c long_for (from_chunk_0_for true place p first))) (sym t) ∙ written) s.1 in (
            k.0,
            ap (λ c. eval new (cond c long_for (from_chunk_0_for true place p first))) t ∙ ap (λ (z : List ℕ). eval new (from_chunk_0_for true place p (first ++ z))) s.0 ∙ k.1,
            k.2,
          )
      | inr t ↦
          let k = same_chunk_kept img new place p first h (ap (λ c. eval img (cond c long (from_chunk_0 place p first))) (sym t) ∙ x.2)
          (ap (λ c. eval img (cond c long_for (from_chunk_0_for true place p first))) (sym t) ∙ written) (subst (λ c. Same img new (visits img (cond c long (from_chunk_0 place p first)))) t seen) in
          (k.0, ap (λ c. eval new (cond c long_for (from_chunk_0_for true place p first))) t ∙ k.1, k.2)
    ] in
    (later.0, ap (λ (z : List ℕ). eval new (body z)) same.0 ∙ choice_from new (prefix_at first) (go_for first) word p later.0 x.1 later.1, later.2)
