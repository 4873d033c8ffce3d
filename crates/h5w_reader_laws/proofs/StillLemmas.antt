-- Calls over looks at one image.
use Rattle.std.proofs.Common.{◌≡◌, ℕ, zero, suc, ◌-◌, ◌^◌, ◌<◌, ◌≤◌, min, Bool, true, false, cond, List, [], ◌∷◌, length, Option, Some, None, Result, Ok, Err, refl, sym, ◌∙◌, ap, inl, inr, arith}
use Rattle.std.specs.Prelude.{nat_lt, nat_le, nat_eq}
use Rattle.std.specs.List.{AllByRecursion}
use Rattle.std.specs.Cmp.Lexicographic.{pointwise, bytes_decides}
use Rattle.std.proofs.lemmas.Bool.{cond_both, cond-true, cond-false, cases_Bool, ltb-true, ltb-false, le-ltb, lt-leb}
use Rattle.h5w_model.specs.Numbers.{range}
use Rattle.h5w_model.specs.Programs.{Prog, ret, whole, counted, stored, eval, bind, and_then, below_end, Look, lowered, Takes, IsLookAt}
use Rattle.h5w_model.specs.Headers.{prefix_at, prefix_tests, prefix_fields, header_length, end_of, header_at, messages_at, header_view}
use Rattle.h5w_model.specs.Datasets.{Described, HeaderFields, header_refusal, from_chunk_0, dataset_messages, dataset_from, dataset, dataset_place, described, refused_as, then_also}
use Rattle.h5w_model.specs.Tables.{Limits, Reading, reading, limit_of, needed, needed_keys, needed_table, table_of}
use Rattle.h5w_model.specs.Calls.{CallRules, rows_seen, known_table, same_cut, table_from, needed_from, header_look, cut_header, not_shrunk, behind_header, again, is_settled, attempts_from, rows_call, open_rules, open_call}
use Rattle.h5w_model.specs.declared.message.Prefix.{Prefix}
use Rattle.h5w_model.specs.declared.refusal.ReadError.{ReadError}
use Rattle.h5w_model.specs.declared.refusal.ReadError.TheVariants.{Damaged, Shrunk, TooManyChunks, Unsupported}
use Rattle.h5w_model.specs.declared.refusal.BlockFault.TheVariants.{Cut}
use Rattle.h5w_model.specs.declared.refusal.HeaderError.{HeaderError}
use Rattle.h5w_model.specs.declared.refusal.HeaderError.TheVariants.{Short}
use Rattle.h5w_model.proofs.CheckedLemmas.{checked-passed}
use Rattle.h5w_laws.proofs.ProgramLemmas.{eval_bind, eval_and_then}
use Rattle.h5w_laws.proofs.ResultLemmas.{and_then_from}
use Rattle.h5w_laws.proofs.AnswerLemmas.{result_both}
use Rattle.h5w_laws.proofs.LoweringLemmas.{range_below, option_both, lowered_still}
use Rattle.h5w_laws.proofs.LookLemmas.{takes_whole, takes_ret, IsPlain}
use Rattle.h5w_reader_laws.specs.Known.{AreKnown}
use Rattle.h5w_reader_laws.specs.Still.{StillCalls, StillRefresh}
use Rattle.h5w_reader_laws.proofs.BlockLemmas.{onward}
use Rattle.h5w_reader_laws.proofs.SpanLemmas.{told}
use Rattle.h5w_reader_laws.proofs.AttemptLemmas.{cut_by, behind_of, unless_cut, ends_with, attempt_of}
use Rattle.h5w_reader_laws.proofs.EndLemmas.{plain_rows, plain_open}
use Rattle.h5w_reader_laws.proofs.KnownLemmas.{from_nothing, gives_known, table_known}
use Rattle.h5w_reader_laws.proofs.MomentLemmas.{steps}

-- ---- Looks at one image

pub still_takes : {A : Type 0} (img : List ℕ) (p : Prog A) (ls : List Look) (a : A) → IsPlain p → AllByRecursion (IsLookAt img) ls → Takes p ls a → a ≡ eval img p
still_takes img (ret x) ls a plain all takes = (takes_ret x ls a takes).1
still_takes img (whole at len next) [] a plain all takes = cc
still_takes {A} img (whole at len next) (l ∷ ls) a plain all takes =
    let now = takes_whole at len next l ls a takes in
    let bytes : l.bytes ≡ range img at len = all.0 ∙ ap (λ p. range img p l.len) now.0.0 ∙ ap (λ n. range img at n) now.0.1 in
    still_takes img (next l.bytes) ls a (plain l.bytes) all.1 now.1 ∙ ap (λ (b : List ℕ). eval img (next b)) bytes
still_takes img (counted at counts next) ls a plain all takes = absurd plain
still_takes img (stored kind at len next) ls a plain all takes = absurd plain

-- ---- A header that is cut

some_refusal : (e f : ReadError) → ◌≡◌ {A = Option ReadError} (Some e) (Some f) → e ≡ f
some_refusal e f h = cc

none_refusal : (f : ReadError) → ◌≡◌ {A = Option ReadError} None (Some f) → ⊥
none_refusal f h = cc

-- of a refusal of what stands before the messages
cut_prefix : (place : ℕ) (f : HeaderError) (e : ReadError) → elim f as (λ _. Option ReadError) [ Short need got ↦ Some (Damaged place (Cut need got)) | _ ↦ None ] ≡ Some e → header_refusal place f ≡ e
cut_prefix place (Short need got) e h = some_refusal (Damaged place (Cut need got)) e h
cut_prefix place f e h = cc

-- of fewer bytes than chunk 0 has
cut_chunk : (b : List ℕ) (p : Prefix) → prefix_at b ≡ Ok p → p.total ≤ 512 → length b < p.total → messages_at b ≡ Err (Short p.total (length b))
unfolding prefix_at header_at messages_at
cut_chunk b p is few short =
    let fields = checked-passed (prefix_tests b) (prefix_fields b) p is in
    let total : min (header_length b) (2 ^ 64 - 1) ≡ p.total = ap (λ (x : Prefix). x.total) fields.1 in
    let whole_header : header_length b ≡ end_of p = ap (λ (x : Prefix). end_of x) fields.1 in
    let fails : nat_le (end_of p) (length b) ≡ false = lt-leb (end_of p) (length b) (omega arith) in
    rw (is, fails) refl

not_both : {A E : Type 0} (r : Result A E) (a : A) (e : E) → r ≡ Ok a → r ≡ Err e → ⊥
not_both r a e h g = cc

one_refusal : {A E : Type 0} (r : Result A E) (e f : E) → r ≡ Err e → r ≡ Err f → e ≡ f
one_refusal r e f h g = cc

abbrev messages_left : ℕ → List ℕ → Result Prefix HeaderError → Prog (Result HeaderFields ReadError)
messages_left place v r =
    elim r as (λ _. Prog (Result HeaderFields ReadError)) [
      | Ok p ↦ cond (nat_lt 512 p.total) (ret (Err (Unsupported (record { 0 = 1 })))) (from_chunk_0 place p v)
      | Err e ↦ ret (Err (header_refusal place e))
    ]

cut_says : (img : List ℕ) (place : ℕ) (v : List ℕ) (e : ReadError) (r : Result Prefix HeaderError) → prefix_at v ≡ r → cut_by place v r ≡ Some e → eval img (messages_left place v r) ≡ Err e
cut_says img place v e (Err f) is h = ap Err (cut_prefix place f e h)
cut_says img place v e (Ok p) is h =
    let refusal : Option ReadError = Some (Damaged place (Cut p.total (length v))) in
    let inner : Option ReadError = cond (nat_lt (length v) p.total) refusal None in
    elim (cases_Bool (nat_lt 512 p.total)) [
      | inl long ↦ absurd (none_refusal e (sym (cond-true (nat_lt 512 p.total) None inner long) ∙ h))
      | inr small ↦
          let low : p.total ≤ 512 = ltb-false 512 p.total small in
          let next : inner ≡ Some e = sym (cond-false (nat_lt 512 p.total) None inner small) ∙ h in
          ap (eval img) (cond-false (nat_lt 512 p.total) (ret (Err (Unsupported (record { 0 = 1 })))) (from_chunk_0 place p v) small)
          ∙ elim (cases_Bool (nat_lt (length v) p.total)) [
            | inl short ↦
                let says : messages_at v ≡ Err (Short p.total (length v)) = cut_chunk v p is low (ltb-true (length v) p.total short) in
                let is_it : Damaged place (Cut p.total (length v)) ≡ e = some_refusal (Damaged place (Cut p.total (length v))) e (sym (cond-true (nat_lt (length v) p.total) refusal None short) ∙ next) in
                result_both (messages_at v) _ _ (λ (q : Prog (Result HeaderFields ReadError)). eval img q ≡ Err e)
                (λ ms ok. absurd (not_both (messages_at v) ms (Short p.total (length v)) ok says))
                (λ f bad. ap (λ (x : HeaderError). Err (header_refusal place x)) (one_refusal (messages_at v) f (Short p.total (length v)) bad says) ∙ ap Err is_it)
            | inr full ↦ absurd (none_refusal e (sym (cond-false (nat_lt (length v) p.total) refusal None full) ∙ next))
          ]
    ]

-- where the header is cut, this is the refusal of all that comes behind it
behind_cut : (img : List ℕ) (limits : Limits) (known : Option Reading) (place : ℕ) (v : List ℕ) (e : ReadError) → cut_header place v ≡ Some e → eval img (behind_of limits known place v) ≡ Err e
behind_cut img limits known place v e h =
    let table : Described → Prog (Result Reading ReadError) = λ d. and_then (needed_from limits (known_table known d) d) (told place d) in
    let after : Described → Prog (Result Reading ReadError) = λ d. and_then (ret (not_shrunk (rows_seen known) d)) table in
    let says : HeaderFields → Prog (Result Described ReadError) = λ h. ret (refused_as Unsupported (described h.messages)) in
    let messages : eval img (dataset_messages place v) ≡ Err e = cut_says img place v e (prefix_at v) refl h in
    let header : eval img (dataset_from place v) ≡ Err e =
    eval_and_then img (dataset_messages place v) says ∙ ap (λ (r : Result HeaderFields ReadError). then_also r (λ h. eval img (says h))) messages in
    eval_and_then img (dataset_from place v) after ∙ ap (λ (r : Result Described ReadError). then_also r (λ d. eval img (after d))) header

-- ---- Attempts

still_attempt : (img : List ℕ) (g : CallRules) (next : List ℕ → Prog (Result Reading ReadError)) (v : List ℕ) → length img ≤ 2 ^ 64 → header_view (range img g.place 512) ≡ v
    → eval img (attempt_of g.limits g.keeps g.known g.place next v) ≡ eval img (behind_of g.limits g.known g.place v)
still_attempt img g next v fits view =
    let place : ℕ = g.place in
    let behind : Prog (Result Reading ReadError) = behind_of g.limits g.known place v in
    let x : Prog (Result Reading ReadError) = lowered g.keeps [] behind in
    let ends : Result Reading ReadError → List ℕ → Prog (Result Reading ReadError) = λ answer w. unless_cut (cut_header place w) (ends_with v next answer w) in
    let confirms : Result Reading ReadError → Prog (Result Reading ReadError) = λ answer. header_look place (ends answer) in
    let still : eval img x ≡ eval img behind = lowered_still img g.keeps [] behind fits tt in
    let again : header_view (range img place (below_end place 512)) ≡ v = ap header_view (range_below img place 512 fits) ∙ view in
    option_both (cut_header place v) (λ e. ret (Err e)) (cond (is_settled x) x (bind x confirms)) (λ (q : Prog (Result Reading ReadError)). eval img q ≡ eval img behind)
    (λ e cut. sym (behind_cut img g.limits g.known place v e cut))
    (λ cut.
    cond_both (is_settled x) x (bind x confirms) (λ (q : Prog (Result Reading ReadError)). eval img q ≡ eval img behind)
    (λ t. still)
    (λ t.
    let answer : Result Reading ReadError = eval img x in
    eval_bind img x confirms
    ∙ ap (λ (w : List ℕ). eval img (ends answer w)) again
    ∙ ap (λ (o : Option ReadError). eval img (unless_cut o (ends_with v next answer v))) cut
    ∙ ap (eval img) (cond-true (pointwise nat_eq v v) (ret answer) (next v) ((bytes_decides v v).1 refl))
    ∙ still))

still_attempts : (img : List ℕ) (g : CallRules) (more : ℕ) (v : List ℕ) → length img ≤ 2 ^ 64 → header_view (range img g.place 512) ≡ v
    → eval img (attempts_from g more v) ≡ eval img (behind_of g.limits g.known g.place v)
still_attempts img g zero v fits view = still_attempt img g (λ w. ret (Err (again g v w))) v fits view
still_attempts img g (suc more) v fits view = still_attempt img g (attempts_from g more) v fits view

still_rows : (img : List ℕ) (g : CallRules) → length img ≤ 2 ^ 64 → eval img (rows_call g) ≡ eval img (behind_header g (header_view (range img g.place 512)))
still_rows img g fits =
    ap (λ (b : List ℕ). eval img (attempts_from g (g.attempts - 1) (header_view b))) (range_below img g.place 512 fits)
    ∙ still_attempts img g (g.attempts - 1) (header_view (range img g.place 512)) fits refl

-- ---- From the superblock on

-- who knows nothing is not refused for fewer rows, and looks up each address
nothing_known : (limits : Limits) (place : ℕ) (d : Described)
    → and_then (ret (not_shrunk 0 d)) (λ d. and_then (needed_from limits [] d) (told place d)) ≡ and_then (needed_table limits d) (told place d)
nothing_known limits place d =
    let refused : Prog (Result (List ℕ) ReadError) = ret (Err (TooManyChunks (needed d) (limit_of limits d.layout.index))) in
    ap (onward (λ d. and_then (needed_from limits [] d) (told place d))) (cond-false (nat_lt d.shape.rows 0) (Err (Shrunk 0 d.shape.rows)) (Ok d) (le-ltb d.shape.rows 0 (omega arith)))
    ∙ ap (λ (p : Prog (Result (List ℕ) ReadError)). and_then (cond (nat_lt (limit_of limits d.layout.index) (needed d)) refused p) (told place d)) (from_nothing d (needed_keys d))

still_open : (img name : List ℕ) (limits : Limits) (kept attempts : ℕ) → length img ≤ 2 ^ 64 → eval img (open_call limits kept attempts name) ≡ eval img (reading limits name)
still_open img name limits kept attempts fits =
    let rows : ℕ → Prog (Result Reading ReadError) = λ at. rows_call (open_rules limits kept attempts at) in
    let table : ℕ → Described → Prog (Result Reading ReadError) = λ at d. and_then (needed_table limits d) (told at d) in
    let shows : ℕ → Prog (Result Reading ReadError) = λ at. and_then (dataset at) (table at) in
    let alike : (at : ℕ) → eval img (rows at) ≡ eval img (shows at) = (λ at.
    still_rows img (open_rules limits kept attempts at) fits
    ∙ ap (λ (f : Described → Prog (Result Reading ReadError)). eval img (and_then (dataset_from at (header_view (range img at 512))) f)) (λ i d. nothing_known limits at d i)) in
    eval_and_then img (lowered kept [] (dataset_place name)) rows
    ∙ ap (λ (r : Result ℕ ReadError). then_also r (λ at. eval img (rows at))) (lowered_still img kept [] (dataset_place name) fits tt)
    ∙ ap (λ (f : ℕ → Result Reading ReadError). then_also (eval img (dataset_place name)) f) (λ i at. alike at i)
    ∙ sym (eval_and_then img (dataset_place name) shows)

pub still_calls : StillCalls
still_calls = record {
  opens = λ img name limits kept attempts ls a fits all takes.
      still_takes img (open_call limits kept attempts name) ls a (plain_open limits kept attempts name) all takes ∙ still_open img name limits kept attempts fits;
  refreshes = λ img g ls a fits all takes. still_takes img (rows_call g) ls a (plain_rows g) all takes ∙ still_rows img g fits;
}

-- ---- A refresh of what is shown

-- what is known of an image that shows it is right there
shown_known : (img : List ℕ) (d : Described) (table : List ℕ) (b : Bool) → eval img (table_of d (needed_keys d)) ≡ Ok table → AreKnown img d (cond b table []) (needed_keys d)
shown_known img d table true is = table_known img d table table (needed_keys d) is (λ k some. refl)
shown_known img d table false is = table_known img d [] table (needed_keys d) is (λ k some. absurd (some refl))

pub still_refresh : StillRefresh
still_refresh img name g r ls a fits shows known place all takes =
    let s = steps g.limits img name r shows in
    let d : Described = r.dataset in
    let v : List ℕ = header_view (range img r.place 512) in
    let table : Described → Prog (Result Reading ReadError) = λ d. and_then (needed_from g.limits (known_table (Some r) d) d) (told r.place d) in
    let after : Described → Prog (Result Reading ReadError) = λ d. and_then (ret (not_shrunk d.shape.rows d)) table in
    let addresses : List ℕ = known_table (Some r) d in
    let few : needed_from g.limits addresses d ≡ table_from addresses d (needed_keys d) =
    cond-false (nat_lt (limit_of g.limits d.layout.index) (needed d)) (ret (Err (TooManyChunks (needed d) (limit_of g.limits d.layout.index)))) (table_from addresses d (needed_keys d)) s.within in
    let found : eval img (needed_from g.limits addresses d) ≡ Ok r.table =
    ap (eval img) few ∙ gives_known img d addresses (needed_keys d) (shown_known img d r.table (same_cut d d) s.table) ∙ s.table in
    let enough : not_shrunk d.shape.rows d ≡ Ok d = cond-false (nat_lt d.shape.rows d.shape.rows) (Err (Shrunk d.shape.rows d.shape.rows)) (Ok d) (le-ltb d.shape.rows d.shape.rows (omega arith)) in
    let rows : eval img (and_then (ret (not_shrunk d.shape.rows d)) table) ≡ Ok r =
    ap (λ (x : Result Described ReadError). eval img (onward table x)) enough ∙ and_then_from img (needed_from g.limits addresses d) (told r.place d) r.table r found refl in
    let answer : eval img (behind_of g.limits (Some r) r.place v) ≡ Ok r =
    and_then_from img (dataset_from r.place v) (λ d. and_then (ret (not_shrunk r.dataset.shape.rows d)) table) d r s.header rows in
    still_takes img (rows_call g) ls a (plain_rows g) all takes ∙ still_rows img g fits
    ∙ ap (λ (o : Option Reading). eval img (behind_of g.limits o g.place (header_view (range img g.place 512)))) known
    ∙ ap (λ at. eval img (behind_of g.limits (Some r) at (header_view (range img at 512)))) place
    ∙ answer
