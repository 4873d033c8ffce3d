-- How many looks a call takes before its answer.
use Rattle.std.proofs.Common.{◌≡◌, ◌⊎◌, ℕ, zero, suc, ◌+◌, ◌-◌, ◌*◌, ◌<◌, ◌≤◌, cond, List, [], ◌∷◌, ◌++◌, length, map, Option, None, Some, Result, Ok, Err, refl, sym, ◌∙◌, ap, subst, inl, inr, arith, length-append}
use Rattle.std.specs.Prelude.{nat_lt, nat_eq}
use Rattle.std.specs.List.{range_with_len}
use Rattle.std.specs.Cmp.Lexicographic.{pointwise}
use Rattle.std.proofs.lemmas.Bool.{cases_lt, cond_both, cond-false, le-ltb}
use Rattle.std.proofs.lemmas.List.{append-nil, length-map}
use Rattle.h5w_model.specs.Numbers.{range}
use Rattle.h5w_model.specs.Programs.{Prog, ret, whole, counted, stored, eval, bind, and_then, Visit, visits, Same, Look, lowered, rest_after, Takes}
use Rattle.h5w_model.specs.Logs.{Log, hist}
use Rattle.h5w_model.specs.Datasets.{Described, HeaderFields, root_header, dataset_from, dataset_place, super_of, superblock}
use Rattle.h5w_model.specs.Tables.{Limits, Reading, Shows, format_limits, index_key, limit_of, needed, needed_keys}
use Rattle.h5w_model.specs.Prefixed.{image_at, IsPosition, continuation_blocks, root_address}
use Rattle.h5w_model.specs.Readers.{Placed, IsCall, looks_of, header_at}
use Rattle.h5w_model.specs.Calls.{CallRules, rows_seen, known_table, table_from, needed_from, header_look, cut_header, not_shrunk, again, is_settled, attempts_from, rows_call, open_rules, open_call}
use Rattle.h5w_model.specs.declared.root.Super.{Super}
use Rattle.h5w_model.specs.declared.refusal.ReadError.{ReadError}
use Rattle.h5w_model.specs.declared.refusal.ReadError.TheVariants.{Shrunk, TooManyChunks}
use Rattle.h5w_laws.proofs.ProgramLemmas.{visits_bind}
use Rattle.h5w_laws.proofs.ResultLemmas.{and_then_ok}
use Rattle.h5w_laws.proofs.AnswerLemmas.{unstored_steps, unstored_root_header}
use Rattle.h5w_laws.proofs.LookLemmas.{takes_ret}
use Rattle.h5w_reader_laws.specs.Headline.{Served, IsHeaderPlace}
use Rattle.h5w_reader_laws.specs.Bounds.{NeedsAtMost, looks_in, way_looks, continuation_looks, IsUnfinished, ShortHeaders, OpensInLooks, RefreshesInLooks, ShortBounds}
use Rattle.h5w_reader_laws.proofs.LookLemmas.{AreSame, call_front, call_rest, until_end, one_look, placed_parts, placed_behind}
use Rattle.h5w_reader_laws.proofs.MomentLemmas.{Moment, moment, keeps, shown_is}
use Rattle.h5w_reader_laws.proofs.BlockLemmas.{onward}
use Rattle.h5w_reader_laws.proofs.KeyLemmas.{keys_named}
use Rattle.h5w_reader_laws.proofs.SpanLemmas.{reading_with, told}
use Rattle.h5w_reader_laws.proofs.AttemptLemmas.{header_whole, header_taken, behind_of, attempt_of, unless_cut, ends_with}
use Rattle.h5w_reader_laws.proofs.CallLemmas.{same_place, says_root, place_from, link_of, place_taken}
use Rattle.h5w_reader_laws.proofs.CountLemmas.{AtMost, AnyOf, at_most_more, at_most_then, any_answered, taken_at_most}
use Rattle.h5w_reader_laws.proofs.EndLemmas.{left_on, complete, more_looks, plain_rows, plain_open}
use Rattle.h5w_reader_laws.proofs.DescentLemmas.{table_looks}
use Rattle.h5w_reader_laws.proofs.PremiseLemmas.{looked_alike}

-- ---- An attempt

-- What the counts rest on: no more chunks are needed, and an attempt takes no more looks, its last one at the header among
-- them.
record Counted (name : List ℕ) (log : Log) (n each : ℕ) : Type 0 where
  served : Served name log
  needs : NeedsAtMost name log n
  looks : (p : ℕ) (m : Moment name log p) → continuation_looks (image_at log p) m.shown + (21 * n - 1) + 1 ≤ each

placed_length : (ts : List Placed) → length (looks_of ts) ≡ length ts
placed_length ts = length-map ts (λ t. t.look)

-- behind what the header says at most 21 looks for each needed chunk, but one
described_looks : (name : List ℕ) (log : Log) (n each p : ℕ) (known : Option Reading) (limits : Limits) (m : Moment name log p) → Counted name log n each
    → AtMost AnyOf (21 * n - 1) (and_then (ret (not_shrunk (rows_seen known) m.shown.dataset)) (λ d. and_then (needed_from limits (known_table known d) d) (told m.shown.place d)))
described_looks name log n each p known limits m c =
    let most : ℕ = 21 * n - 1 in
    let place : ℕ = m.shown.place in
    let d : Described = m.shown.dataset in
    let seen : ℕ = rows_seen known in
    let addresses : List ℕ = known_table known d in
    let table : Described → Prog (Result Reading ReadError) = λ d. and_then (needed_from limits (known_table known d) d) (told place d) in
    let few : needed d ≤ n = c.needs p m.shown m.position m.shows in
    let found : AtMost AnyOf most (table_from addresses d (needed_keys d)) =
    at_most_more AnyOf (21 * needed d - 1) most (table_from addresses d (needed_keys d)) (omega (arith, few)) (table_looks d addresses (keys_named d m.steps.within)) in
    let within : AtMost AnyOf most (needed_from limits addresses d) =
    cond_both (nat_lt (limit_of limits d.layout.index) (needed d)) (ret (Err (TooManyChunks (needed d) (limit_of limits d.layout.index)))) (table_from addresses d (needed_keys d))
    (λ (x : Prog (Result (List ℕ) ReadError)). AtMost AnyOf most x) (λ t. tt) (λ t. found) in
    let reads : AtMost AnyOf most (table d) =
    at_most_more AnyOf (most + 0) most (table d) (omega arith) (at_most_then AnyOf most 0 (needed_from limits addresses d) (told place d) (any_answered most (needed_from limits addresses d) within) (λ t any. tt)) in
    cond_both (nat_lt d.shape.rows seen) (Err (Shrunk seen d.shape.rows)) (Ok d) (λ (r : Result Described ReadError). AtMost AnyOf most (onward table r)) (λ t. tt) (λ t. reads)

-- behind a header few looks at continuation blocks, and those
behind_looks : (name : List ℕ) (log : Log) (n each p cap : ℕ) (known : Option Reading) (limits : Limits) (m : Moment name log p) (ts : List Placed) (a : Result Reading ReadError)
    → Counted name log n each → IsCall log p ts
    → Takes (lowered cap [] (behind_of limits known m.shown.place (header_at log m.shown.place p))) (looks_of ts) a → length ts + 1 ≤ each
behind_looks name log n each p cap known limits m ts a c call takes =
    let img : List ℕ = image_at log p in
    let place : ℕ = m.shown.place in
    let v : List ℕ = header_at log place p in
    let d : Described = m.shown.dataset in
    let last : ℕ = length (hist log.events) in
    let after : Described → Prog (Result Reading ReadError) = λ d. and_then (ret (not_shrunk (rows_seen known) d)) (λ d. and_then (needed_from limits (known_table known d) d) (told place d)) in
    let same : AreSame log p last img (visits img (dataset_from place v)) =
    (λ w low high.
    let w_moment = moment name log w c.served (record { begun = omega (arith, m.position.begun); reached = high }) in
    (w_moment.fits, (keeps name log p w m w_moment c.served low).stays.continuations)) in
    let b = placed_behind log p last img cap (dataset_from place v) (onward after) ts a m.fits (unstored_steps.header place v) call (until_end log p ts call) same takes in
    let described = subst (λ (r : Result Described ReadError). Takes (lowered cap [] (onward after r)) (looks_of b.rest) a) m.steps.header b.takes in
    let rest = taken_at_most AnyOf (21 * n - 1) cap [] (after d) (looks_of b.rest) a (described_looks name log n each p known limits m c) described in
    let all : length ts ≡ length b.front + length b.rest = sym (ap length b.are) ∙ length-append b.front b.rest in
    omega (arith, b.few, c.looks p m, rest, placed_length b.rest)

-- the looks of an attempt are few, or others come behind few looks and one at the header
record OneMore (name : List ℕ) (log : Log) (each p place : ℕ) (next : List ℕ → Prog (Result Reading ReadError)) (ts : List Placed) (a : Result Reading ReadError) : Type 0 where
  position : ℕ
  here : Moment name log position
  rest : List Placed
  few : length ts ≤ each + length rest
  call : IsCall log position rest
  takes : Takes (next (header_at log place position)) (looks_of rest) a

attempt_looks : (name : List ℕ) (log : Log) (n each p cap : ℕ) (known : Option Reading) (limits : Limits) (m : Moment name log p) (next : List ℕ → Prog (Result Reading ReadError)) (ts : List Placed) (a : Result Reading ReadError)
    → Counted name log n each → IsCall log p ts
    → Takes (attempt_of limits cap known m.shown.place next (header_at log m.shown.place p)) (looks_of ts) a
    → (length ts ≤ each) ⊎ OneMore name log each p m.shown.place next ts a
attempt_looks name log n each p cap known limits m next ts a c call takes =
    let place : ℕ = m.shown.place in
    let v : List ℕ = header_at log place p in
    let x : Prog (Result Reading ReadError) = lowered cap [] (behind_of limits known place v) in
    let confirms : Result Reading ReadError → Prog (Result Reading ReadError) = λ answer. header_look place (λ w. unless_cut (cut_header place w) (ends_with v next answer w)) in
    let goes = subst (λ (o : Option ReadError). Takes (unless_cut o (cond (is_settled x) x (bind x confirms))) (looks_of ts) a) (header_whole name log p m) takes in
    cond_both (is_settled x) x (bind x confirms)
    (λ (y : Prog (Result Reading ReadError)). Takes y (looks_of ts) a → (length ts ≤ each) ⊎ OneMore name log each p place next ts a)
    (λ t s. let few : length ts + 1 ≤ each = behind_looks name log n each p cap known limits m ts a c call s in inl (omega (arith, few)))
    (λ t s.
    let parts = placed_parts x confirms ts a s in
    let whole_call = subst (λ (xs : List Placed). IsCall log p xs) (sym (parts.are)) call in
    let few : length parts.front + 1 ≤ each = behind_looks name log n each p cap known limits m parts.front parts.left c (call_front log p parts.front parts.rest whole_call) parts.first in
    let h = header_taken name log p place (λ w. unless_cut (cut_header place w) (ends_with v next parts.left w)) parts.rest a c.served m.position.begun
    (call_rest log p parts.front parts.rest whole_call) parts.second in
    later parts.front parts.rest parts.are parts.left few h.look h.rest h.are h.low h.here h.call h.takes)
    goes
  where
    later : (front rest : List Placed) → front ++ rest ≡ ts → (left : Result Reading ReadError) → length front + 1 ≤ each → (t : Placed) (more : List Placed) → rest ≡ t ∷ more
        → p ≤ t.position → Moment name log t.position → IsCall log t.position more
        → Takes (unless_cut (cut_header m.shown.place (header_at log m.shown.place t.position)) (ends_with (header_at log m.shown.place p) next left (header_at log m.shown.place t.position))) (looks_of more) a
        → (length ts ≤ each) ⊎ OneMore name log each p m.shown.place next ts a
    later front rest are left few t more cut low here calls takes =
        let place : ℕ = m.shown.place in
        let v : List ℕ = header_at log place p in
        let w : List ℕ = header_at log place t.position in
        let same : here.shown.place ≡ place = (keeps name log p t.position m here c.served low).stays.place in
        let whole_there : cut_header place w ≡ None = subst (λ x. cut_header x (header_at log x t.position) ≡ None) same (header_whole name log t.position here) in
        let ends = subst (λ (o : Option ReadError). Takes (unless_cut o (ends_with v next left w)) (looks_of more) a) whole_there takes in
        let all : length ts ≡ length front + length rest = sym (ap length are) ∙ length-append front rest in
        let one : length rest ≡ length more + 1 = ap length cut ∙ (let e : suc (length more) ≡ length more + 1 = omega arith in e) in
        cond_both (pointwise nat_eq w v) (ret left) (next w)
        (λ (x : Prog (Result Reading ReadError)). Takes x (looks_of more) a → (length ts ≤ each) ⊎ OneMore name log each p place next ts a)
        (λ equal s.
        let none : length (looks_of more) ≡ 0 = ap length (takes_ret left (looks_of more) a s).0 in
        inl (omega (arith, few, placed_length more)))
        (λ other s. inr (record { position = t.position; here = here; rest = more; few = omega (arith, few); call = calls; takes = s }))
        ends

-- ---- The attempts of a call

multiple_more : (m k n : ℕ) → n ≤ m → n ≤ (k + 1) * m
multiple_more m k n h = grind arith

one_multiple : (m k n r : ℕ) → n ≤ m + r → r ≤ k * m → n ≤ (k + 1) * m
one_multiple m k n r h g = grind arith

attempts_looks : (more : ℕ) (name : List ℕ) (log : Log) (n each : ℕ) (g : CallRules) (p : ℕ) (m : Moment name log p) (ts : List Placed) (a : Result Reading ReadError)
    → Counted name log n each → IsHeaderPlace name log g.place → IsCall log p ts → Takes (attempts_from g more (header_at log g.place p)) (looks_of ts) a
    → length ts ≤ (more + 1) * each
attempts_looks zero name log n each g p m ts a c found call takes =
    let same : m.shown.place ≡ g.place = found p m.shown m.position m.shows in
    let last : List ℕ → Prog (Result Reading ReadError) = λ w. ret (Err (again g (header_at log g.place p) w)) in
    go (subst (λ x. (length ts ≤ each) ⊎ OneMore name log each p x last ts a) same
    (attempt_looks name log n each p g.keeps g.known g.limits m last ts a c call
    (subst (λ x. Takes (attempt_of g.limits g.keeps g.known x last (header_at log x p)) (looks_of ts) a) (sym same) takes)))
  where
    go : (length ts ≤ each) ⊎ OneMore name log each p g.place (λ w. ret (Err (again g (header_at log g.place p) w))) ts a → length ts ≤ (0 + 1) * each
    go (inl few) = omega arith
    go (inr o) =
        let none : length (looks_of o.rest) ≡ 0 = ap length (takes_ret (Err (again g (header_at log g.place p) (header_at log g.place o.position))) (looks_of o.rest) a o.takes).0 in
        omega (arith, o.few, placed_length o.rest)
attempts_looks (suc more) name log n each g p m ts a c found call takes =
    let same : m.shown.place ≡ g.place = found p m.shown m.position m.shows in
    let next : suc more ≡ more + 1 = omega arith in
    subst (λ k. length ts ≤ (k + 1) * each) (sym next)
    (go (λ o. attempts_looks more name log n each g o.position o.here o.rest a c found o.call o.takes)
    (subst (λ x. (length ts ≤ each) ⊎ OneMore name log each p x (attempts_from g more) ts a) same
    (attempt_looks name log n each p g.keeps g.known g.limits m (attempts_from g more) ts a c call
    (subst (λ x. Takes (attempt_of g.limits g.keeps g.known x (attempts_from g more) (header_at log x p)) (looks_of ts) a) (sym same) takes))))
  where
    go : ((o : OneMore name log each p g.place (attempts_from g more) ts a) → length o.rest ≤ (more + 1) * each)
        → (length ts ≤ each) ⊎ OneMore name log each p g.place (attempts_from g more) ts a → length ts ≤ ((more + 1) + 1) * each
    go rest (inl few) = multiple_more each (more + 1) (length ts) few
    go rest (inr o) = one_multiple each (more + 1) (length ts) (length o.rest) (omega (arith, o.few)) (rest o)

rows_looks : (name : List ℕ) (log : Log) (n each : ℕ) (g : CallRules) (from : ℕ) (ts : List Placed) (a : Result Reading ReadError) → Counted name log n each → IsHeaderPlace name log g.place → 1 ≤ g.attempts
    → log.first ≤ from → IsCall log from ts → Takes (rows_call g) (looks_of ts) a → length ts ≤ 1 + g.attempts * each
rows_looks name log n each g from ts a c found some begun call takes =
    let h = header_taken name log from g.place (attempts_from g (g.attempts - 1)) ts a c.served begun call takes in
    let rest = attempts_looks (g.attempts - 1) name log n each g h.look.position h.here h.rest a c found h.call h.takes in
    let e : g.attempts - 1 + 1 ≡ g.attempts = omega arith in
    let few : length h.rest ≤ g.attempts * each = subst (λ k. length h.rest ≤ k * each) e rest in
    let all : length ts ≡ length h.rest + 1 = ap length h.are ∙ (let e : suc (length h.rest) ≡ length h.rest + 1 = omega arith in e) in
    omega arith

-- ---- From the superblock on

abbrev linked_on : List ℕ → Result HeaderFields ReadError → Prog (Result ℕ ReadError)
linked_on name r = onward (link_of name) r

-- an answer takes no look
linked_none : (name : List ℕ) (cap : ℕ) (r : Result HeaderFields ReadError) (ls : List Look) (a : Result ℕ ReadError) → Takes (lowered cap [] (linked_on name r)) ls a → length ls ≡ 0
linked_none name cap (Ok h) ls a takes = ap length (takes_ret _ ls a takes).0
linked_none name cap (Err e) ls a takes = ap length (takes_ret _ ls a takes).0

-- what the way looks at
way_is : (name : List ℕ) (log : Log) (p : ℕ) (m : Moment name log p)
    → way_looks (image_at log p) name ≡ 1 + looks_in (visits (image_at log p) (root_header (root_address (image_at log p))))
way_is name log p m =
    let img : List ℕ = image_at log p in
    let s = and_then_ok img superblock (place_from name) m.shown.place m.steps.place in
    let root : root_address img ≡ s.0.root = says_root (range img 0 48) s.0 s.1 in
    let header : List Visit = visits img (root_header s.0.root) in
    let from_root : visits img (place_from name s.0) ≡ header =
    visits_bind img (root_header s.0.root) (linked_on name) ∙ ap (λ (vs : List Visit). header ++ vs) (none_linked img (eval img (root_header s.0.root))) ∙ append-nil header in
    visits_counted (visits img (place_from name s.0)) s.1
    ∙ ap (λ (vs : List Visit). 1 + looks_in vs) from_root
    ∙ ap (λ at. 1 + looks_in (visits img (root_header at))) (sym root)
  where
    none_linked : (img : List ℕ) (r : Result HeaderFields ReadError) → visits img (linked_on name r) ≡ []
    none_linked img (Ok h) = refl
    none_linked img (Err e) = refl

    visits_counted : {s : Super} (vs : List Visit) → super_of (range (image_at log p) 0 48) ≡ Ok s → looks_in (visits (image_at log p) (dataset_place name)) ≡ 1 + looks_in (visits (image_at log p) (place_from name s))
    visits_counted {s} vs is = ap (λ (r : Result Super ReadError). 1 + looks_in (visits (image_at log p) (onward (place_from name) r))) is

-- the way to the dataset header takes few looks
place_looks : (name : List ℕ) (log : Log) (from cap : ℕ) (ts : List Placed) (left : Result ℕ ReadError) (way : ℕ) → Served name log
    → ((p : ℕ) (m : Moment name log p) → way_looks (image_at log p) name ≤ way) → log.first ≤ from → IsCall log from ts
    → Takes (lowered cap [] (dataset_place name)) (looks_of ts) left → length ts ≤ way
place_looks name log from cap ts left way served alike begun call takes =
    let one = one_look 0 48 (λ b. lowered cap [] (onward (place_from name) (super_of b))) ts left (omega arith) (omega arith) (omega arith) takes in
    later one.look one.rest one.are one.at_place one.whole_len one.takes
  where
    later : (l : Placed) (rest : List Placed) → ts ≡ l ∷ rest → l.look.place ≡ 0 → l.look.len ≡ 48
        → Takes (lowered cap [] (onward (place_from name) (super_of l.look.bytes))) (looks_of rest) left → length ts ≤ way
    later l rest cut at_place whole_len then_takes =
        let c = subst (λ (xs : List Placed). IsCall log from xs) cut call in
        let p : ℕ = l.position in
        let img : List ℕ = image_at log p in
        let last : ℕ = length (hist log.events) in
        let at : IsPosition log p = record { begun = omega (arith, c.0); reached = c.1 } in
        let m = moment name log p served at in
        let bytes : l.look.bytes ≡ range img 0 48 = c.2 ∙ ap (λ a. range img a l.look.len) at_place ∙ ap (λ n. range img 0 n) whole_len in
        let s = and_then_ok img superblock (place_from name) m.shown.place m.steps.place in
        let root : root_address img ≡ s.0.root = says_root (range img 0 48) s.0 s.1 in
        let goes = subst (λ (r : Result Super ReadError). Takes (lowered cap [] (onward (place_from name) r)) (looks_of rest) left) (ap super_of bytes ∙ s.1) then_takes in
        let same : AreSame log p last img (visits img (root_header s.0.root)) =
        (λ w low high.
        let n = moment name log w served (record { begun = omega (arith, at.begun); reached = high }) in
        (n.fits, subst (λ x. Same img (image_at log w) (visits img (root_header x))) root (keeps name log p w m n served low).stays.root_header)) in
        let b = placed_behind log p last img cap (root_header s.0.root) (linked_on name) rest left m.fits (unstored_root_header s.0.root) c.3 (until_end log p rest c.3) same goes in
        let none : length (looks_of b.rest) ≡ 0 = linked_none name cap (eval img (root_header s.0.root)) (looks_of b.rest) left b.takes in
        let few : length b.front ≤ looks_in (visits img (root_header (root_address img))) = subst (λ x. length b.front ≤ looks_in (visits img (root_header x))) (sym root) b.few in
        let all : length rest ≡ length b.front + length b.rest = sym (ap length b.are) ∙ length-append b.front b.rest in
        let one : length ts ≡ length rest + 1 = ap length cut ∙ (let e : suc (length rest) ≡ length rest + 1 = omega arith in e) in
        omega (arith, few, placed_length b.rest, way_is name log p m, alike p m)

-- so many, and those of a call for rows
open_looks : (name : List ℕ) (log : Log) (way most : ℕ) (limits : Limits) (kept attempts from : ℕ) (ls : List Placed) (a : Result Reading ReadError) → Served name log
    → ((p : ℕ) (m : Moment name log p) → way_looks (image_at log p) name ≤ way)
    → ((at : ℕ) (ts : List Placed) → IsHeaderPlace name log at → IsCall log from ts → Takes (rows_call (open_rules limits kept attempts at)) (looks_of ts) a → length ts ≤ most)
    → log.first ≤ from → IsCall log from ls → Takes (open_call limits kept attempts name) (looks_of ls) a → length ls ≤ way + most
open_looks name log way most limits kept attempts from ls a served alike rows begun call takes =
    let after : ℕ → Prog (Result Reading ReadError) = λ at. rows_call (open_rules limits kept attempts at) in
    let parts = placed_parts (lowered kept [] (dataset_place name)) (onward after) ls a takes in
    let all = subst (λ (xs : List Placed). IsCall log from xs) (sym (parts.are)) call in
    let front = call_front log from parts.front parts.rest all in
    let place = place_taken name log from kept parts.front parts.left served begun front parts.first in
    let goes = subst (λ (r : Result ℕ ReadError). Takes (onward after r) (looks_of parts.rest) a) place.2 parts.second in
    let few = place_looks name log from kept parts.front parts.left way served alike begun front parts.first in
    let rest = rows place.1.shown.place parts.rest (same_place name log place.0 place.1 served) (call_rest log from parts.front parts.rest all) goes in
    let l : length ls ≡ length parts.front + length parts.rest = sym (ap length (parts.are)) ∙ length-append parts.front parts.rest in
    omega (arith, few, rest)

-- ---- As at one position

-- the way and the continuation blocks are the same at all positions
record AtAll (name : List ℕ) (log : Log) (at : ℕ) (shown : Reading) : Type 0 where
  way : (p : ℕ) (m : Moment name log p) → way_looks (image_at log p) name ≡ way_looks (image_at log at) name
  continued : (p : ℕ) (m : Moment name log p) → continuation_looks (image_at log p) m.shown ≡ continuation_looks (image_at log at) shown

at_all : (name : List ℕ) (log : Log) (at : ℕ) (shown : Reading) → Served name log → IsPosition log at → Shows format_limits (image_at log at) name shown → AtAll name log at shown
at_all name log at shown served there shows =
    let n = moment name log at served there in
    let is : shown ≡ n.shown = shown_is name log at n shown shows in
    record {
      way = λ p m. way_is name log p m ∙ ap (λ (vs : List Visit). 1 + looks_in vs) (looked_alike name log at p n m served).root ∙ sym (way_is name log at n);
      continued = λ p m. ap looks_in ((looked_alike name log at p n m served).dataset) ∙ ap (λ (x : Reading). continuation_looks (image_at log at) x) (sym is);
    }

attempts_bound : (attempts blocks m : ℕ) → attempts * (blocks + m + 1) + attempts ≡ attempts * (2 + blocks + m)
attempts_bound attempts blocks m = grind arith

-- ---- Calls that are not at their end

pub opens_in_looks : OpensInLooks
opens_in_looks name log limits kept attempts from n at shown ls q served needs some here call there shows left unfinished =
    let p : Prog (Result Reading ReadError) = open_call limits kept attempts name in
    let plain = plain_open limits kept attempts name in
    let same = at_all name log at shown served there shows in
    let way : ℕ = way_looks (image_at log at) name in
    let blocks : ℕ = continuation_looks (image_at log at) shown in
    let each : ℕ = blocks + 21 * n + 1 in
    let c = complete log from p ls q plain here.reached call left in
    let counted : Counted name log n each = record { served = served; needs = needs; looks = λ u m. omega (arith, same.continued u m) } in
    let all = open_looks name log way (1 + attempts * each) limits kept attempts from (ls ++ left_on log q) c.answer served (λ u m. omega (arith, same.way u m))
    (λ place ts found calls takes. rows_looks name log n each (open_rules limits kept attempts place) from ts c.answer counted found some here.begun calls takes) here.begun c.call c.takes in
    omega (arith, all, more_looks log p ls q plain left unfinished, attempts_bound attempts blocks (21 * n))

pub refreshes_in_looks : RefreshesInLooks
refreshes_in_looks name log g seen r from n at shown ls q served needs some here call before shows_r place there shows left unfinished =
    let m = moment name log seen served before in
    let is : r ≡ m.shown = shown_is name log seen m r shows_r in
    let found : IsHeaderPlace name log g.place = subst (λ x. IsHeaderPlace name log x) (sym (place ∙ ap (λ (x : Reading). x.place) is)) (same_place name log seen m served) in
    let same = at_all name log at shown served there shows in
    let blocks : ℕ = continuation_looks (image_at log at) shown in
    let each : ℕ = blocks + 21 * n + 1 in
    let c = complete log from (rows_call g) ls q (plain_rows g) here.reached call left in
    let counted : Counted name log n each = record { served = served; needs = needs; looks = λ u m. omega (arith, same.continued u m) } in
    let all = rows_looks name log n each g from (ls ++ left_on log q) c.answer counted found some here.begun c.call c.takes in
    omega (arith, all, more_looks log (rows_call g) ls q (plain_rows g) left unfinished, attempts_bound g.attempts blocks (21 * n))

-- ---- A dataset that needs no chunk

-- a program that looks at nothing is its answer
answer_alone : {A : Type 0} (img : List ℕ) (p : Prog A) → visits img p ≡ [] → p ≡ ret (eval img p)
answer_alone img (ret a) none = refl
answer_alone img (whole at len next) none = absurd cc
answer_alone img (counted at counts next) none = absurd cc
answer_alone img (stored kind at len next) none = absurd cc

-- no address is looked for
none_needed : (limits : Limits) (known : List ℕ) (d : Described) → needed d ≡ 0 → needed_from limits known d ≡ ret (Ok [])
none_needed limits known d none =
    cond-false (nat_lt (limit_of limits d.layout.index) (needed d)) (ret (Err (TooManyChunks (needed d) (limit_of limits d.layout.index)))) (table_from known d (needed_keys d))
    (le-ltb (limit_of limits d.layout.index) (needed d) (omega (arith, none)))
    ∙ ap (λ (n : ℕ). table_from known d (map (index_key d) (range_with_len 0 n))) none

-- an attempt of an open ends with its first look at the header
none_behind_header : (name : List ℕ) (log : Log) (p : ℕ) (limits : Limits) (m : Moment name log p) → continuation_blocks (image_at log p) m.shown ≡ [] → needed m.shown.dataset ≡ 0
    → (r : Reading) × (behind_of limits None m.shown.place (header_at log m.shown.place p) ≡ ret (Ok r))
none_behind_header name log p limits m alone none =
    let img : List ℕ = image_at log p in
    let place : ℕ = m.shown.place in
    let d : Described = m.shown.dataset in
    let table : Described → Prog (Result Reading ReadError) = λ d. and_then (needed_from limits (known_table None d) d) (told place d) in
    let after : Described → Prog (Result Reading ReadError) = λ d. and_then (ret (not_shrunk 0 d)) table in
    let read : dataset_from place (header_at log place p) ≡ ret (Ok d) = answer_alone img (dataset_from place (header_at log place p)) alone ∙ ap ret m.steps.header in
    let enough : not_shrunk 0 d ≡ Ok d = cond-false (nat_lt d.shape.rows 0) (Err (Shrunk 0 d.shape.rows)) (Ok d) (le-ltb d.shape.rows 0 (omega arith)) in (
      reading_with place d [],
      ap (λ (x : Prog (Result Described ReadError)). and_then x after) read
          ∙ ap (λ (r : Result Described ReadError). onward table r) enough
          ∙ ap (λ (x : Prog (Result (List ℕ) ReadError)). and_then x (told place d)) (none_needed limits (known_table None d) d none),
    )

attempt_alone : (name : List ℕ) (log : Log) (p cap : ℕ) (limits : Limits) (m : Moment name log p) (next : List ℕ → Prog (Result Reading ReadError)) (ts : List Placed) (a : Result Reading ReadError)
    → continuation_blocks (image_at log p) m.shown ≡ [] → needed m.shown.dataset ≡ 0 → Takes (attempt_of limits cap None m.shown.place next (header_at log m.shown.place p)) (looks_of ts) a → length ts ≡ 0
attempt_alone name log p cap limits m next ts a alone none takes =
    let place : ℕ = m.shown.place in
    let v : List ℕ = header_at log place p in
    let confirms : Result Reading ReadError → Prog (Result Reading ReadError) = λ answer. header_look place (λ w. unless_cut (cut_header place w) (ends_with v next answer w)) in
    let confirmed : Prog (Result Reading ReadError) → Prog (Result Reading ReadError) = λ x. cond (is_settled x) x (bind x confirms) in
    let ends = none_behind_header name log p limits m alone none in
    let goes = subst (λ (o : Option ReadError). Takes (unless_cut o (confirmed (lowered cap [] (behind_of limits None place v)))) (looks_of ts) a) (header_whole name log p m) takes in
    let answer = subst (λ (x : Prog (Result Reading ReadError)). Takes (confirmed (lowered cap [] x)) (looks_of ts) a) ends.1 goes in
    sym (placed_length ts) ∙ ap length (takes_ret (Ok ends.0) (looks_of ts) a answer).0

attempts_alone : (more : ℕ) (name : List ℕ) (log : Log) (limits : Limits) (kept attempts at p : ℕ) (m : Moment name log p) (ts : List Placed) (a : Result Reading ReadError)
    → m.shown.place ≡ at → continuation_blocks (image_at log p) m.shown ≡ [] → needed m.shown.dataset ≡ 0
    → Takes (attempts_from (open_rules limits kept attempts at) more (header_at log at p)) (looks_of ts) a → length ts ≡ 0
attempts_alone zero name log limits kept attempts at p m ts a same alone none takes =
    let last : List ℕ → Prog (Result Reading ReadError) = λ w. ret (Err (again (open_rules limits kept attempts at) (header_at log at p) w)) in
    attempt_alone name log p kept limits m last ts a alone none (subst (λ x. Takes (attempt_of limits kept None x last (header_at log x p)) (looks_of ts) a) (sym same) takes)
attempts_alone (suc more) name log limits kept attempts at p m ts a same alone none takes =
    let next : List ℕ → Prog (Result Reading ReadError) = attempts_from (open_rules limits kept attempts at) more in
    attempt_alone name log p kept limits m next ts a alone none (subst (λ x. Takes (attempt_of limits kept None x next (header_at log x p)) (looks_of ts) a) (sym same) takes)

rows_alone : (name : List ℕ) (log : Log) (limits : Limits) (kept attempts at from : ℕ) (ts : List Placed) (a : Result Reading ReadError) → Served name log → ShortHeaders name log → NeedsAtMost name log 0
    → IsHeaderPlace name log at → log.first ≤ from → IsCall log from ts → Takes (rows_call (open_rules limits kept attempts at)) (looks_of ts) a → length ts ≤ 1
rows_alone name log limits kept attempts at from ts a served headers needs found begun call takes =
    let h = header_taken name log from at (attempts_from (open_rules limits kept attempts at) (attempts - 1)) ts a served begun call takes in
    let p : ℕ = h.look.position in
    let m = h.here in
    let none : needed m.shown.dataset ≤ 0 = needs p m.shown m.position m.shows in
    let rest = attempts_alone (attempts - 1) name log limits kept attempts at p m h.rest a (found p m.shown m.position m.shows) (headers.dataset p m.shown m.position m.shows) (omega (arith, none)) h.takes in
    let all : length ts ≡ length h.rest + 1 = ap length h.are ∙ (let e : suc (length h.rest) ≡ length h.rest + 1 = omega arith in e) in
    omega (arith, rest, all)

-- ---- Short headers

short_way : (name : List ℕ) (log : Log) (p : ℕ) (m : Moment name log p) → ShortHeaders name log → way_looks (image_at log p) name ≤ 3
short_way name log p m headers = let few = headers.root p m.position in omega (arith, few, way_is name log p m)

none_continued : (name : List ℕ) (log : Log) (p : ℕ) (m : Moment name log p) → ShortHeaders name log → continuation_looks (image_at log p) m.shown ≡ 0
none_continued name log p m headers = ap looks_in (headers.dataset p m.shown m.position m.shows)

short_bound : (attempts m : ℕ) → attempts * (2 + m) ≡ attempts * m + attempts + attempts
short_bound attempts m = grind arith

module _ (name : List ℕ) (log : Log) (limits : Limits) (kept attempts from n : ℕ) (ls : List Placed) (q : Prog (Result Reading ReadError)) (served : Served name log) (headers : ShortHeaders name log)
    (needs : NeedsAtMost name log n) (some : 1 ≤ attempts) (here : IsPosition log from) (call : IsCall log from ls)
    (left : rest_after (open_call limits kept attempts name) (looks_of ls) ≡ Some q) (unfinished : IsUnfinished q) where
  -- with its way and these looks an open ends
  within_looks : (most : ℕ) → ((a : Result Reading ReadError) (at : ℕ) (ts : List Placed) → IsHeaderPlace name log at → IsCall log from ts → Takes (rows_call (open_rules limits kept attempts at)) (looks_of ts) a → length ts ≤ most)
      → length ls < 3 + most
  within_looks most rows =
      let p : Prog (Result Reading ReadError) = open_call limits kept attempts name in
      let plain = plain_open limits kept attempts name in
      let c = complete log from p ls q plain here.reached call left in
      let all = open_looks name log 3 most limits kept attempts from (ls ++ left_on log q) c.answer served (λ u m. short_way name log u m headers) (rows c.answer) here.begun c.call c.takes in
      omega (arith, all, more_looks log p ls q plain left unfinished)

  short_opens : length ls < 2 + attempts * (2 + 21 * n)
  short_opens =
      let product = short_bound attempts (21 * n) in
      elim (cases_lt 0 n) [
        | inl more ↦
            let counted : Counted name log n (21 * n) = record { served = served; needs = needs; looks = λ p m. omega (arith, none_continued name log p m headers, more) } in
            let few = within_looks (1 + attempts * (21 * n)) (λ a at ts found calls takes. rows_looks name log n (21 * n) (open_rules limits kept attempts at) from ts a counted found some here.begun calls takes) in
            omega (arith, few, some, product)
        | inr none ↦
            let empty : NeedsAtMost name log 0 = λ p r at shows. let few = needs p r at shows in omega (arith, few, none) in
            let few = within_looks 1 (λ a at ts found calls takes. rows_alone name log limits kept attempts at from ts a served headers empty found here.begun calls takes) in
            omega (arith, few, some, product)
      ]

pub short_bounds : ShortBounds
short_bounds = record {
  opens = short_opens;
  refreshes = λ name log g seen r from n ls q served headers needs some here call before shows place left unfinished.
      let m = moment name log from served here in
      let few = refreshes_in_looks name log g seen r from n from m.shown ls q served needs some here call before shows place here m.shows left unfinished in
      subst (λ blocks. length ls < g.attempts * (2 + blocks + 21 * n)) (none_continued name log from m headers) few;
}
