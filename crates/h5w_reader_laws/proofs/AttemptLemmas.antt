-- Attempts: each ends with what some position of the call shows, or with a header that differs from its first.
use Rattle.std.proofs.Common.{◌≡◌, ◌⊎◌, ℕ, ◌≤◌, true, cond, List, [], ◌∷◌, ◌++◌, length, take, drop, get_or, Option, Some, None, Result, Ok, Err, refl, sym, ◌∙◌, ap, subst, inl, inr, arith}
use Rattle.std.specs.Prelude.{nat_lt, nat_eq, if◌then◌else◌}
use Rattle.std.specs.List.{Any}
use Rattle.std.specs.Cmp.Lexicographic.{pointwise, bytes_decides}
use Rattle.std.proofs.lemmas.Bool.{cond_both, cond-false, le-ltb, true≢false}
use Rattle.std.proofs.lemmas.List.{take-take}
use Rattle.h5w_model.specs.Numbers.{range, undefined}
use Rattle.h5w_model.specs.Programs.{Prog, ret, whole, counted, stored, bind, and_then, visits, below_end, lowered, Takes}
use Rattle.h5w_model.specs.Headers.{prefix_at, header_view}
use Rattle.h5w_model.specs.Logs.{Log}
use Rattle.h5w_model.specs.Datasets.{Described, dataset_from}
use Rattle.h5w_model.specs.Tables.{Limits, Reading, needed, needed_keys, limit_of}
use Rattle.h5w_model.specs.Prefixed.{image_at, StaysDefined}
use Rattle.h5w_model.specs.Readers.{Placed, IsCall, looks_of, header_at, Quiet}
use Rattle.h5w_model.specs.Calls.{rows_seen, known_table, table_from, needed_from, header_look, cut_header, not_shrunk, is_settled}
use Rattle.h5w_model.specs.Relations.{HasMessages}
use Rattle.h5w_model.specs.declared.message.Prefix.{Prefix}
use Rattle.h5w_model.specs.declared.refusal.ReadError.{ReadError}
use Rattle.h5w_model.specs.declared.refusal.ReadError.TheVariants.{Damaged, Shrunk, TooManyChunks}
use Rattle.h5w_model.specs.declared.refusal.BlockFault.TheVariants.{Cut}
use Rattle.h5w_model.specs.declared.refusal.HeaderError.{HeaderError}
use Rattle.h5w_model.specs.declared.refusal.HeaderError.TheVariants.{Short}
use Rattle.h5w_laws.proofs.PrefixLemmas.{prefix_whole, header_view_short}
use Rattle.h5w_laws.proofs.DatasetReads.{finds_dataset}
use Rattle.h5w_laws.proofs.AnswerLemmas.{unstored_steps}
use Rattle.h5w_laws.proofs.LookLemmas.{takes_whole, takes_ret}
use Rattle.h5w_laws.proofs.LoweringLemmas.{range_below}
use Rattle.h5w_reader_laws.specs.Headline.{Served, WithinLimits, IsTakenAt, IsHeaderLook}
use Rattle.h5w_reader_laws.proofs.LookLemmas.{Until, AreSame, any_front, any_behind, call_front, call_rest, call_until, placed_parts, placed_behind}
use Rattle.h5w_reader_laws.proofs.MomentLemmas.{Moment, moment, keeps}
use Rattle.h5w_reader_laws.proofs.BlockLemmas.{onward}
use Rattle.h5w_reader_laws.proofs.SpanLemmas.{Span, Inside, inside, AnswerShown, told, table_taken}

-- ---- A look at the header

abbrev pub cut_by : ℕ → List ℕ → Result Prefix HeaderError → Option ReadError
cut_by place v r =
    elim r as (λ _. Option ReadError) [
      | Ok p ↦ (if nat_lt 512 p.total then None else if nat_lt (length v) p.total then Some (Damaged place (Cut p.total (length v))) else None)
      | Err e ↦ elim e [ Short need got ↦ Some (Damaged place (Cut need got)) | _ ↦ None ]
    ]

cut_none : (place : ℕ) (v : List ℕ) (p : Prefix) → prefix_at v ≡ Ok p → p.total ≤ length v → cut_header place v ≡ None
cut_none place v p is long =
    let inner : Option ReadError = cond (nat_lt (length v) p.total) (Some (Damaged place (Cut p.total (length v)))) None in
    ap (cut_by place v) is
    ∙ cond_both (nat_lt 512 p.total) None inner (λ (o : Option ReadError). o ≡ None)
    (λ t. refl)
    (λ t. cond-false (nat_lt (length v) p.total) (Some (Damaged place (Cut p.total (length v)))) None (le-ltb (length v) p.total long))

-- a dataset header that is shown is not cut
pub header_whole : (name : List ℕ) (log : Log) (p : ℕ) (m : Moment name log p) → cut_header m.shown.place (header_at log m.shown.place p) ≡ None
header_whole name log p m =
    let img : List ℕ = image_at log p in
    let place : ℕ = m.shown.place in
    let has = (finds_dataset img name place m.shown.dataset).0 (m.steps.place, m.steps.header) in
    let h : HasMessages img place has.messages = has.header in
    let n : ℕ = h.prefix.total in
    let cut : take n (range img place 512) ≡ range img place n = take-take n 512 (drop place img) has.small in
    let look : prefix_at (range img place 512) ≡ Ok h.prefix = prefix_whole (range img place 512) n h.prefix (ap (λ (b : List ℕ). prefix_at b) cut ∙ h.begins) in
    let view : header_at log place p ≡ range img place n = header_view_short (range img place 512) h.prefix look has.small ∙ cut in
    let long : length (header_at log place p) ≡ n = ap length view ∙ h.whole in
    cut_none place (header_at log place p) h.prefix (ap (λ (b : List ℕ). prefix_at b) view ∙ h.begins) (omega (arith, long))

-- the look at the header, and those behind it
pub record HeaderTaken (name : List ℕ) (log : Log) (from place : ℕ) (next : List ℕ → Prog (Result Reading ReadError)) (ts : List Placed) (a : Result Reading ReadError) : Type 0 where
  pub look : Placed
  pub rest : List Placed
  pub are : ts ≡ look ∷ rest
  pub low : from ≤ look.position
  pub here : Moment name log look.position
  pub header : IsHeaderLook place look.position look
  pub call : IsCall log look.position rest
  pub takes : Takes (next (header_at log place look.position)) (looks_of rest) a

pub header_taken : (name : List ℕ) (log : Log) (from place : ℕ) (next : List ℕ → Prog (Result Reading ReadError)) (ts : List Placed) (a : Result Reading ReadError)
    → Served name log → log.first ≤ from → IsCall log from ts → Takes (header_look place next) (looks_of ts) a → HeaderTaken name log from place next ts a
header_taken name log from place next [] a served begun call takes = cc
header_taken name log from place next (t ∷ ts) a served begun call takes =
    let n : ℕ = below_end place 512 in
    let now = takes_whole place n (λ b. next (header_view b)) t.look (looks_of ts) a takes in
    let m = moment name log t.position served (record { begun = omega (arith, call.0); reached = call.1 }) in
    let img : List ℕ = image_at log t.position in
    let bytes : t.look.bytes ≡ range img place 512 =
    call.2 ∙ ap (λ x. range img x t.look.len) now.0.0 ∙ ap (λ x. range img place x) now.0.1 ∙ range_below img place 512 m.fits in
    record {
      look = t;
      rest = ts;
      are = refl;
      low = call.0;
      here = m;
      header = record { position = refl; header = now.0.0; bytes = now.0.1 };
      call = call.3;
      takes = subst (λ (b : List ℕ). Takes (next (header_view b)) (looks_of ts) a) bytes now.1;
    }

-- ---- Behind a header that stays

-- What is known of a reading: no more rows, and no address that is defined and another one.
pub record IsSeen (known : Option Reading) (r : Reading) : Type 0 where
  pub rows : rows_seen known ≤ r.dataset.shape.rows
  pub addresses : (k : ℕ) → StaysDefined (get_or (known_table known r.dataset) k undefined) (get_or r.table k undefined)

-- of what is shown from a position on
abbrev pub AreSeen : List ℕ → Log → Option Reading → ℕ → Type 0
AreSeen name log known from = (u : ℕ) (m : Moment name log u) → from ≤ u → IsSeen known m.shown

abbrev pub behind_of : Limits → Option Reading → ℕ → List ℕ → Prog (Result Reading ReadError)
behind_of limits known place v =
    and_then (dataset_from place v) (λ d.
    and_then (ret (not_shrunk (rows_seen known) d)) (λ d.
    and_then (needed_from limits (known_table known d) d) (told place d)))

until_rest : (q : ℕ) (xs ys : List Placed) → Until q (xs ++ ys) → Until q ys
until_rest q [] ys h = h
until_rest q (x ∷ xs) ys h = until_rest q xs ys h.1

behind_taken : (name : List ℕ) (log : Log) (p q cap : ℕ) (known : Option Reading) (limits : Limits) (s : Span name log p q) (ts : List Placed) (a : Result Reading ReadError)
    → WithinLimits limits name log → AreSeen name log known p → IsCall log p ts → Until q ts
    → Takes (lowered cap [] (behind_of limits known s.first.shown.place (header_at log s.first.shown.place p))) (looks_of ts) a → AnswerShown name log p q ts a
behind_taken name log p q cap known limits s ts a within seen_before call until takes =
    let m = s.first in
    let place : ℕ = m.shown.place in
    let v : List ℕ = header_at log place p in
    let img : List ℕ = image_at log p in
    let d : Described = m.shown.dataset in
    let seen : ℕ = rows_seen known in
    let addresses : List ℕ = known_table known d in
    let table : Described → Prog (Result Reading ReadError) = λ d. and_then (needed_from limits (known_table known d) d) (told place d) in
    let after : Described → Prog (Result Reading ReadError) = λ d. and_then (ret (not_shrunk seen d)) table in
    let same : AreSame log p q img (visits img (dataset_from place v)) =
    (λ w low high.
    let i = inside name log p q w s low high in
    (i.here.fits, (keeps name log p w m i.here s.served low).stays.continuations)) in
    let b = placed_behind log p q img cap (dataset_from place v) (onward after) ts a m.fits (unstored_steps.header place v) call until same takes in
    let described = subst (λ (r : Result Described ReadError). Takes (lowered cap [] (onward after r)) (looks_of b.rest) a) m.steps.header b.takes in
    let enough : not_shrunk seen d ≡ Ok d = cond-false (nat_lt d.shape.rows seen) (Err (Shrunk seen d.shape.rows)) (Ok d) (le-ltb d.shape.rows seen (seen_before p m (omega arith)).rows) in
    let counted = subst (λ (r : Result Described ReadError). Takes (lowered cap [] (onward table r)) (looks_of b.rest) a) enough described in
    let few : needed_from limits addresses d ≡ table_from addresses d (needed_keys d) =
    cond-false (nat_lt (limit_of limits d.layout.index) (needed d)) (ret (Err (TooManyChunks (needed d) (limit_of limits d.layout.index)))) (table_from addresses d (needed_keys d))
    (le-ltb (limit_of limits d.layout.index) (needed d) (within p m.shown m.position m.shows)) in
    let looked = subst (λ (x : Prog (Result (List ℕ) ReadError)). Takes (lowered cap [] (and_then x (told place d))) (looks_of b.rest) a) few counted in
    let known_there : (u : ℕ) (i : Inside name log p q u s) (k : ℕ) → StaysDefined (get_or addresses k undefined) (get_or i.here.shown.table k undefined) =
    (λ u i k.
    subst (λ (x : Described). StaysDefined (get_or (known_table known x) k undefined) (get_or i.here.shown.table k undefined)) i.same
    ((seen_before u i.here i.low).addresses k)) in
    let found = table_taken name log p q cap s addresses b.rest a known_there (call_rest log p b.front b.rest (subst (λ (xs : List Placed). IsCall log p xs) (sym (b.are)) call))
    (until_rest q b.front b.rest (subst (λ (xs : List Placed). Until q xs) (sym (b.are)) until)) looked in
    record {
      at = found.at;
      low = found.low;
      high = found.high;
      looked = among b.front b.rest b.are found.at found.looked;
      here = found.here;
      answer = found.answer;
    }
  where
    among : (front rest : List Placed) → front ++ rest ≡ ts → (at : ℕ) → (at ≡ p) ⊎ Any (IsTakenAt at) rest → (at ≡ p) ⊎ Any (IsTakenAt at) ts
    among front rest are at (inl first) = inl first
    among front rest are at (inr later) = inr (subst (λ (xs : List Placed). Any (IsTakenAt at) xs) are (any_behind (IsTakenAt at) front rest later))

-- ---- One attempt

-- it is answered with what a position shows at which the header is as in its first look
pub record Answered (name : List ℕ) (log : Log) (place p : ℕ) (ts : List Placed) (a : Result Reading ReadError) : Type 0 where
  pub at : ℕ
  pub low : p ≤ at
  pub quiet : Quiet log place p at
  pub looked : (at ≡ p) ⊎ Any (IsTakenAt at) ts
  pub here : Moment name log at
  pub answer : a ≡ Ok here.shown

-- or its last look is at a header that differs
pub record Differs (name : List ℕ) (log : Log) (place p : ℕ) (next : List ℕ → Prog (Result Reading ReadError)) (ts : List Placed) (a : Result Reading ReadError) : Type 0 where
  pub front : List Placed
  pub look : Placed
  pub rest : List Placed
  pub are : front ++ look ∷ rest ≡ ts
  pub low : p ≤ look.position
  pub here : Moment name log look.position
  pub header : IsHeaderLook place look.position look
  pub call : IsCall log look.position rest
  pub changed : Quiet log place p look.position → ⊥
  pub takes : Takes (next (header_at log place look.position)) (looks_of rest) a

answered_by : (name : List ℕ) (log : Log) (p q : ℕ) (s : Span name log p q) (front rest ts : List Placed) (a : Result Reading ReadError) → front ++ rest ≡ ts
    → AnswerShown name log p q front a → Answered name log s.first.shown.place p ts a
answered_by name log p q s front rest ts a are f =
    record {
      at = f.at;
      low = f.low;
      quiet = (inside name log p q f.at s f.low f.high).quiet;
      looked = among f.looked;
      here = f.here;
      answer = f.answer;
    }
  where
    among : (f.at ≡ p) ⊎ Any (IsTakenAt f.at) front → (f.at ≡ p) ⊎ Any (IsTakenAt f.at) ts
    among (inl first) = inl first
    among (inr later) = inr (subst (λ (xs : List Placed). Any (IsTakenAt f.at) xs) are (any_front (IsTakenAt f.at) front rest later))

settled_none : (x : Prog (Result Reading ReadError)) (ts : List Placed) (a : Result Reading ReadError) → is_settled x ≡ true → Takes x (looks_of ts) a → [] ≡ ts
settled_none x [] a is takes = refl
settled_none (ret (Ok r)) (t ∷ ts) a is takes = cc
settled_none (ret (Err e)) (t ∷ ts) a is takes = cc
settled_none (whole at n next) (t ∷ ts) a is takes = cc
settled_none (counted at counts next) (t ∷ ts) a is takes = cc
settled_none (stored kind at n next) (t ∷ ts) a is takes = cc

-- an attempt that looks at nothing
settled_answer : (name : List ℕ) (log : Log) (p cap : ℕ) (known : Option Reading) (limits : Limits) (m : Moment name log p) (ts : List Placed) (a : Result Reading ReadError)
    → Served name log → WithinLimits limits name log → AreSeen name log known p
    → is_settled (lowered cap [] (behind_of limits known m.shown.place (header_at log m.shown.place p))) ≡ true
    → Takes (lowered cap [] (behind_of limits known m.shown.place (header_at log m.shown.place p))) (looks_of ts) a → Answered name log m.shown.place p ts a
settled_answer name log p cap known limits m ts a served within seen_before settled takes =
    let x : Prog (Result Reading ReadError) = lowered cap [] (behind_of limits known m.shown.place (header_at log m.shown.place p)) in
    let none : [] ≡ ts = settled_none x ts a settled takes in
    let s : Span name log p p = record { served = served; first = m; last = m; ordered = omega arith; quiet = refl } in
    answered_by name log p p s [] [] ts a none
    (behind_taken name log p p cap known limits s [] a within seen_before tt tt (subst (λ (xs : List Placed). Takes x (looks_of xs) a) (sym none) takes))

abbrev pub ends_with : List ℕ → (List ℕ → Prog (Result Reading ReadError)) → Result Reading ReadError → List ℕ → Prog (Result Reading ReadError)
ends_with v next answer w = cond (pointwise nat_eq w v) (ret answer) (next w)

abbrev pub unless_cut : Option ReadError → Prog (Result Reading ReadError) → Prog (Result Reading ReadError)
unless_cut o x = elim o as (λ _. Prog (Result Reading ReadError)) [ Some e ↦ ret (Err e) | None ↦ x ]

confirmed_answer : (name : List ℕ) (log : Log) (p cap : ℕ) (known : Option Reading) (limits : Limits) (m : Moment name log p) (next : List ℕ → Prog (Result Reading ReadError))
    (ts front rest : List Placed) (a left : Result Reading ReadError)
    → Served name log → WithinLimits limits name log → AreSeen name log known p → IsCall log p (front ++ rest) → front ++ rest ≡ ts
    → Takes (lowered cap [] (behind_of limits known m.shown.place (header_at log m.shown.place p))) (looks_of front) left
    → Takes (header_look m.shown.place (λ w. unless_cut (cut_header m.shown.place w) (ends_with (header_at log m.shown.place p) next left w))) (looks_of rest) a
    → Answered name log m.shown.place p ts a ⊎ Differs name log m.shown.place p next ts a
confirmed_answer name log p cap known limits m next ts front rest a left served within seen_before call are first second =
    let place : ℕ = m.shown.place in
    let v : List ℕ = header_at log place p in
    let h = header_taken name log p place (λ w. unless_cut (cut_header place w) (ends_with v next left w)) rest a served m.position.begun (call_rest log p front rest call) second in
    later h.look h.rest h.are h.low h.here h.header h.call h.takes
  where
    later : (t : Placed) (more : List Placed) → rest ≡ t ∷ more → p ≤ t.position → Moment name log t.position → IsHeaderLook m.shown.place t.position t → IsCall log t.position more
        → Takes (unless_cut (cut_header m.shown.place (header_at log m.shown.place t.position)) (ends_with (header_at log m.shown.place p) next left (header_at log m.shown.place t.position))) (looks_of more) a
        → Answered name log m.shown.place p ts a ⊎ Differs name log m.shown.place p next ts a
    later t more cut low n header calls takes =
        let place : ℕ = m.shown.place in
        let v : List ℕ = header_at log place p in
        let w : List ℕ = header_at log place t.position in
        let same : n.shown.place ≡ place = (keeps name log p t.position m n served low).stays.place in
        let whole_there : cut_header place w ≡ None = subst (λ x. cut_header x (header_at log x t.position) ≡ None) same (header_whole name log t.position n) in
        let ends = subst (λ (o : Option ReadError). Takes (unless_cut o (ends_with v next left w)) (looks_of more) a) whole_there takes in
        let calls_all = subst (λ (xs : List Placed). IsCall log p (front ++ xs)) cut call in
        cond_both (pointwise nat_eq w v) (ret left) (next w)
        (λ (x : Prog (Result Reading ReadError)). Takes x (looks_of more) a → Answered name log place p ts a ⊎ Differs name log place p next ts a)
        (λ equal s.
        let quiet : Quiet log place p t.position = (bytes_decides w v).0 equal in
        let span : Span name log p t.position = record { served = served; first = m; last = n; ordered = low; quiet = quiet } in
        let told_it : a ≡ left = (takes_ret left (looks_of more) a s).1 in
        inl (answered_by name log p t.position span front rest ts a are
        (behind_taken name log p t.position cap known limits span front a within seen_before (call_front log p front (t ∷ more) calls_all) (call_until log p front t more calls_all)
        (subst (λ (x : Result Reading ReadError). Takes (lowered cap [] (behind_of limits known place v)) (looks_of front) x) (sym told_it) first))))
        (λ other s. inr (record {
          front = front;
          look = t;
          rest = more;
          are = subst (λ (xs : List Placed). front ++ xs ≡ ts) cut are;
          low = low;
          here = n;
          header = header;
          call = calls;
          changed = λ quiet. true≢false (sym ((bytes_decides w v).1 quiet) ∙ other);
          takes = s;
        }))
        ends

abbrev pub attempt_of : Limits → ℕ → Option Reading → ℕ → (List ℕ → Prog (Result Reading ReadError)) → List ℕ → Prog (Result Reading ReadError)
attempt_of limits cap known place next v =
    unless_cut (cut_header place v) (let x = lowered cap [] (behind_of limits known place v) in
    cond (is_settled x) x (bind x (λ answer. header_look place (λ w. unless_cut (cut_header place w) (ends_with v next answer w)))))

pub attempt_answer : (name : List ℕ) (log : Log) (p cap : ℕ) (known : Option Reading) (limits : Limits) (m : Moment name log p) (next : List ℕ → Prog (Result Reading ReadError)) (ts : List Placed) (a : Result Reading ReadError)
    → Served name log → WithinLimits limits name log → AreSeen name log known p → IsCall log p ts
    → Takes (attempt_of limits cap known m.shown.place next (header_at log m.shown.place p)) (looks_of ts) a
    → Answered name log m.shown.place p ts a ⊎ Differs name log m.shown.place p next ts a
attempt_answer name log p cap known limits m next ts a served within seen_before call takes =
    let place : ℕ = m.shown.place in
    let v : List ℕ = header_at log place p in
    let x : Prog (Result Reading ReadError) = lowered cap [] (behind_of limits known place v) in
    let confirms : Result Reading ReadError → Prog (Result Reading ReadError) = λ answer. header_look place (λ w. unless_cut (cut_header place w) (ends_with v next answer w)) in
    let goes = subst (λ (o : Option ReadError). Takes (unless_cut o (cond (is_settled x) x (bind x confirms))) (looks_of ts) a) (header_whole name log p m) takes in
    cond_both (is_settled x) x (bind x confirms)
    (λ (y : Prog (Result Reading ReadError)). Takes y (looks_of ts) a → Answered name log place p ts a ⊎ Differs name log place p next ts a)
    (λ t s. inl (settled_answer name log p cap known limits m ts a served within seen_before t s))
    (λ t s.
    let parts = placed_parts x confirms ts a s in
    confirmed_answer name log p cap known limits m next ts parts.front parts.rest a parts.left served within seen_before
    (subst (λ (xs : List Placed). IsCall log p xs) (sym (parts.are)) call) parts.are parts.first parts.second)
    goes
