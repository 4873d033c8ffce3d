-- Calls for rows: attempts one after another, from a header's place that is known, or from the superblock on.
use Rattle.std.proofs.Common.{◌≡◌, ◌⊎◌, ℕ, zero, suc, ◌+◌, ◌<◌, ◌-◌, ◌≤◌, cond, List, [], ◌∷◌, ◌++◌, length, get_or, Option, Some, None, Result, Ok, Err, refl, sym, ◌∙◌, ap, subst, inl, inr, arith}
use Rattle.std.specs.List.{Any, AllByRecursion}
use Rattle.std.proofs.lemmas.Bool.{cond_both, cases_lt}
use Rattle.std.proofs.lemmas.List.{get_or_past}
use Rattle.h5w_model.specs.Numbers.{range, undefined}
use Rattle.h5w_model.specs.Programs.{Prog, ret, and_then, visits, Same, lowered, Takes}
use Rattle.h5w_model.specs.Superblock.{super_at, super_tests, super_fields}
use Rattle.h5w_model.specs.Logs.{Log, hist, flushed_at}
use Rattle.h5w_model.specs.Datasets.{Described, HeaderFields, is_swmr, super_of, super_refusal, superblock, root_header, linked, dataset_place, refused_as}
use Rattle.h5w_model.specs.Tables.{Reading}
use Rattle.h5w_model.specs.Prefixed.{image_at, root_address, StaysDefined}
use Rattle.h5w_model.specs.Readers.{Placed, IsCall, looks_of, header_at, Quiet}
use Rattle.h5w_model.specs.Calls.{CallRules, rows_seen, same_cut, again, attempts_from, rows_call, open_rules}
use Rattle.h5w_model.specs.declared.root.Super.{Super}
use Rattle.h5w_model.specs.declared.refusal.ReadError.{ReadError}
use Rattle.h5w_model.specs.declared.refusal.ReadError.TheVariants.{NotSwmr}
use Rattle.h5w_model.proofs.CheckedLemmas.{checked-passed}
use Rattle.h5w_laws.proofs.ResultLemmas.{then_ok, refused_ok, passes, and_then_ok}
use Rattle.h5w_laws.proofs.LookLemmas.{takes_ret}
use Rattle.h5w_laws.proofs.LogLemmas.{flushed_laws}
use Rattle.h5w_reader_laws.specs.Headline.{Served, WithinLimits, IsTakenAt, IsHeaderLook, IsHeaderPlace, GetsRows, Changes, EachChanges, rises, again_between, GivesUp, IsAnswer, OpensOnRows, RefreshesToRows}
use Rattle.h5w_reader_laws.proofs.LookLemmas.{AreSame, any_here, any_there, any_behind, call_front, call_rest, until_end, one_look, placed_kept, placed_parts}
use Rattle.h5w_reader_laws.proofs.MomentLemmas.{Moment, moment, shown_is, keeps, same_dataset, changes}
use Rattle.h5w_reader_laws.proofs.RiseLemmas.{rises_onward, rise_between}
use Rattle.h5w_reader_laws.proofs.BlockLemmas.{onward}
use Rattle.h5w_reader_laws.proofs.SpanLemmas.{same_and_then}
use Rattle.h5w_reader_laws.proofs.AttemptLemmas.{AreSeen, Answered, Differs, attempt_of, attempt_answer, header_taken}

-- ---- Attempts one after another

-- rows that a position shows, among these looks
record Shown (name : List ℕ) (log : Log) (place p : ℕ) (ls : List Placed) (a : Result Reading ReadError) : Type 0 where
  header : ℕ
  low : p ≤ header
  header_looked : Any (IsHeaderLook place header) ls
  at : ℕ
  later : header ≤ at
  quiet : Quiet log place header at
  looked : Any (IsTakenAt at) ls
  first : Moment name log header
  here : Moment name log at
  answer : a ≡ Ok here.shown

-- a header that changed in each attempt, among these looks, of which the first is at a position
record Refused (name : List ℕ) (log : Log) (place attempts most p : ℕ) (ls : List Placed) (a : Result Reading ReadError) : Type 0 where
  earlier : List ℕ
  before : ℕ
  last : ℕ
  rest : List ℕ
  begins : earlier ++ before ∷ last ∷ [] ≡ p ∷ rest
  attempted : length earlier ≡ attempts
  looked : AllByRecursion (λ u. Any (IsHeaderLook place u) ls) (earlier ++ before ∷ last ∷ [])
  changed : EachChanges name log place (earlier ++ before ∷ last ∷ [])
  low : p ≤ before
  between : before ≤ last
  ended : last ≤ length (hist log.events)
  commits : attempts + 1 ≤ rises log p (last - p)
  answer : a ≡ Err (again_between log most place before last)

shown_answered : (name : List ℕ) (log : Log) (place p : ℕ) (m : Moment name log p) (l : Placed) (ts : List Placed) (a : Result Reading ReadError)
    → IsHeaderLook place p l → Answered name log place p ts a → Shown name log place p (l ∷ ts) a
shown_answered name log place p m l ts a header f =
    record {
      header = p;
      low = omega arith;
      header_looked = any_here (IsHeaderLook place p) l ts header;
      at = f.at;
      later = f.low;
      quiet = f.quiet;
      looked = among f.looked;
      first = m;
      here = f.here;
      answer = f.answer;
    }
  where
    among : (f.at ≡ p) ⊎ Any (IsTakenAt f.at) ts → Any (IsTakenAt f.at) (l ∷ ts)
    among (inl first) = any_here (IsTakenAt f.at) l ts (header.position ∙ sym first)
    among (inr later) = any_there (IsTakenAt f.at) l ts later

all_behind : (place : ℕ) (xs ys : List Placed) (us : List ℕ) → AllByRecursion (λ u. Any (IsHeaderLook place u) ys) us → AllByRecursion (λ u. Any (IsHeaderLook place u) (xs ++ ys)) us
all_behind place xs ys [] h = tt
all_behind place xs ys (u ∷ us) h = (any_behind (IsHeaderLook place u) xs ys h.0, all_behind place xs ys us h.1)

shown_behind : (name : List ℕ) (log : Log) (place p q : ℕ) (xs ys : List Placed) (a : Result Reading ReadError) → p ≤ q → Shown name log place q ys a → Shown name log place p (xs ++ ys) a
shown_behind name log place p q xs ys a h f =
    record {
      header = f.header;
      low = omega (arith, f.low);
      header_looked = any_behind (IsHeaderLook place f.header) xs ys f.header_looked;
      at = f.at;
      later = f.later;
      quiet = f.quiet;
      looked = any_behind (IsTakenAt f.at) xs ys f.looked;
      first = f.first;
      here = f.here;
      answer = f.answer;
    }

-- one attempt more before
refused_before : (name : List ℕ) (log : Log) (place attempts most p q : ℕ) (m : Moment name log p) (l : Placed) (xs ys : List Placed) (a : Result Reading ReadError) → IsHeaderLook place p l → Changes name log place p q
    → Refused name log place attempts most q ys a → Refused name log place (suc attempts) most p (l ∷ xs ++ ys) a
refused_before name log place attempts most p q m l xs ys a header change f =
    let all : List ℕ = f.earlier ++ f.before ∷ f.last ∷ [] in
    record {
      earlier = p ∷ f.earlier;
      before = f.before;
      last = f.last;
      rest = all;
      begins = refl;
      attempted = ap suc f.attempted;
      looked = (any_here (IsHeaderLook place p) l (xs ++ ys) header, all_behind place (l ∷ xs) ys all f.looked);
      changed =
          subst (λ (us : List ℕ). EachChanges name log place (p ∷ us)) (sym (f.begins))
          (change, subst (λ (us : List ℕ). EachChanges name log place us) f.begins f.changed);
      low = omega (arith, change.later, f.low);
      between = f.between;
      ended = f.ended;
      commits =
          let one = rise_between log p q change.later change.flushed in
          let onward = rises_onward log p q f.last change.later (let l : q ≤ f.last = omega (arith, f.low, f.between) in l) in
          omega (arith, one, onward, f.commits);
      answer = f.answer;
    }

seen_later : (name : List ℕ) (log : Log) (known : Option Reading) (p q : ℕ) → p ≤ q → AreSeen name log known p → AreSeen name log known q
seen_later name log known p q h s u m low = s u m (omega arith)

-- the header looks of the attempts
attempts_answer : (more : ℕ) (name : List ℕ) (log : Log) (g : CallRules) (p : ℕ) (m : Moment name log p) (l : Placed) (ts : List Placed) (a : Result Reading ReadError)
    → Served name log → WithinLimits g.limits name log → IsHeaderPlace name log g.place → AreSeen name log g.known p → IsHeaderLook g.place p l → IsCall log p ts
    → Takes (attempts_from g more (header_at log g.place p)) (looks_of ts) a → Shown name log g.place p (l ∷ ts) a ⊎ Refused name log g.place more g.attempts p (l ∷ ts) a
attempts_answer zero name log g p m l ts a served within found seen header call takes =
    let same : m.shown.place ≡ g.place = found p m.shown m.position m.shows in
    let last : List ℕ → Prog (Result Reading ReadError) = λ w. ret (Err (again g (header_at log g.place p) w)) in
    go (subst (λ x. Answered name log x p ts a ⊎ Differs name log x p last ts a) same
    (attempt_answer name log p g.keeps g.known g.limits m last ts a served within seen call
    (subst (λ x. Takes (attempt_of g.limits g.keeps g.known x last (header_at log x p)) (looks_of ts) a) (sym same) takes)))
  where
    go : Answered name log g.place p ts a ⊎ Differs name log g.place p (λ w. ret (Err (again g (header_at log g.place p) w))) ts a
        → Shown name log g.place p (l ∷ ts) a ⊎ Refused name log g.place 0 g.attempts p (l ∷ ts) a
    go (inl f) = inl (shown_answered name log g.place p m l ts a header f)
    go (inr d) =
        let q : ℕ = d.look.position in
        let there : Any (IsHeaderLook g.place q) ts =
        subst (λ (xs : List Placed). Any (IsHeaderLook g.place q) xs) d.are (any_behind (IsHeaderLook g.place q) d.front (d.look ∷ d.rest) (any_here (IsHeaderLook g.place q) d.look d.rest d.header)) in
        let same : m.shown.place ≡ g.place = found p m.shown m.position m.shows in
        let change : Changes name log g.place p q =
        subst (λ x. Changes name log x p q) same (changes name log p q m d.here served d.low (subst (λ x. Quiet log x p q → ⊥) (sym same) d.changed)) in
        inr (record {
          earlier = [];
          before = p;
          last = q;
          rest = q ∷ [];
          begins = refl;
          attempted = refl;
          looked = (any_here (IsHeaderLook g.place p) l ts header, (any_there (IsHeaderLook g.place q) l ts there, tt));
          changed = (change, tt);
          low = omega arith;
          between = d.low;
          ended = d.here.position.reached;
          commits = rise_between log p q d.low change.flushed;
          answer = (takes_ret (Err (again g (header_at log g.place p) (header_at log g.place q))) (looks_of d.rest) a d.takes).1;
        })
attempts_answer (suc more) name log g p m l ts a served within found seen header call takes =
    let same : m.shown.place ≡ g.place = found p m.shown m.position m.shows in
    go (λ d. attempts_answer more name log g d.look.position d.here d.look d.rest a served within found (seen_later name log g.known p d.look.position d.low seen) d.header d.call d.takes)
    (subst (λ x. Answered name log x p ts a ⊎ Differs name log x p (attempts_from g more) ts a) same
    (attempt_answer name log p g.keeps g.known g.limits m (attempts_from g more) ts a served within seen call
    (subst (λ x. Takes (attempt_of g.limits g.keeps g.known x (attempts_from g more) (header_at log x p)) (looks_of ts) a) (sym same) takes)))
  where
    again_from : (d : Differs name log g.place p (attempts_from g more) ts a)
        → Shown name log g.place d.look.position (d.look ∷ d.rest) a ⊎ Refused name log g.place more g.attempts d.look.position (d.look ∷ d.rest) a
        → Shown name log g.place p (l ∷ ts) a ⊎ Refused name log g.place (suc more) g.attempts p (l ∷ ts) a
    again_from d (inl f) =
        inl (subst (λ (xs : List Placed). Shown name log g.place p (l ∷ xs) a) d.are
        (shown_behind name log g.place p d.look.position (l ∷ d.front) (d.look ∷ d.rest) a d.low f))
    again_from d (inr f) =
        let q : ℕ = d.look.position in
        let same : m.shown.place ≡ g.place = found p m.shown m.position m.shows in
        let change : Changes name log g.place p q =
        subst (λ x. Changes name log x p q) same (changes name log p q m d.here served d.low (subst (λ x. Quiet log x p q → ⊥) (sym same) d.changed)) in
        inr (subst (λ (xs : List Placed). Refused name log g.place (suc more) g.attempts p (l ∷ xs) a) d.are
        (refused_before name log g.place more g.attempts p q m l d.front (d.look ∷ d.rest) a header change f))

    go : ((d : Differs name log g.place p (attempts_from g more) ts a)
        → Shown name log g.place d.look.position (d.look ∷ d.rest) a ⊎ Refused name log g.place more g.attempts d.look.position (d.look ∷ d.rest) a)
        → Answered name log g.place p ts a ⊎ Differs name log g.place p (attempts_from g more) ts a
        → Shown name log g.place p (l ∷ ts) a ⊎ Refused name log g.place (suc more) g.attempts p (l ∷ ts) a
    go rest (inl f) = inl (shown_answered name log g.place p m l ts a header f)
    go rest (inr d) = again_from d (rest d)

-- ---- A call of a reader that knows the header's place

gets_rows : (name : List ℕ) (log : Log) (place from p : ℕ) (known : Option Reading) (ls : List Placed) (a : Result Reading ReadError) (f : Shown name log place p ls a)
    → Served name log → IsHeaderPlace name log place → AreSeen name log known from → from ≤ p → GetsRows name log from (rows_seen known) ls f.here.shown
gets_rows name log place from p known ls a f served found seen_before h =
    let r : Reading = f.here.shown in
    let there : r.place ≡ place = found f.at r f.here.position f.here.shows in
    let first : f.first.shown.place ≡ place = found f.header f.first.shown f.first.position f.first.shows in
    let same : r.dataset ≡ f.first.shown.dataset =
    same_dataset name log f.header f.at f.first f.here served f.later (subst (λ x. Quiet log x f.header f.at) (sym first) f.quiet) in
    let rows : r.dataset.shape.rows ≡ flushed_at log f.header = ap (λ (d : Described). d.shape.rows) same ∙ f.first.rows in
    record {
      header = f.header;
      begun = omega (arith, f.low);
      header_looked = subst (λ x. Any (IsHeaderLook x f.header) ls) (sym there) f.header_looked;
      rows = rows;
      since_begin = subst (λ n. flushed_at log from ≤ n) (sym rows) (flushed_laws.rises log from f.header (omega (arith, f.low)));
      since_seen = (seen_before f.at f.here (omega (arith, f.low, f.later))).rows;
      shown = f.at;
      position = f.here.position;
      looked = f.looked;
      later = f.later;
      quiet = subst (λ x. Quiet log x f.header f.at) (sym there) f.quiet;
      shows = f.here.shows;
      values = f.here.values;
    }

gives_up : (name : List ℕ) (log : Log) (place from attempts p : ℕ) (ls : List Placed) (a : Result Reading ReadError) → 1 ≤ attempts → Served name log → IsHeaderPlace name log place
    → log.first ≤ from → from ≤ p → Refused name log place (attempts - 1) attempts p ls a → GivesUp name log from attempts ls a
gives_up name log place from attempts p ls a some served found begun low f = record {
  place = place;
  found = found;
  earlier = f.earlier;
  before = f.before;
  last = f.last;
  attempted = omega (arith, f.attempted);
  looked = f.looked;
  changed = f.changed;
  begun = omega (arith, f.low);
  ended = f.ended;
  commits = omega (arith, f.commits, rises_onward log from p f.last low (let l : p ≤ f.last = omega (arith, f.low, f.between) in l));
  answer = f.answer;
}

rows_answer : (name : List ℕ) (log : Log) (g : CallRules) (from : ℕ) (ts : List Placed) (a : Result Reading ReadError)
    → Served name log → WithinLimits g.limits name log → IsHeaderPlace name log g.place → AreSeen name log g.known from → 1 ≤ g.attempts → log.first ≤ from → IsCall log from ts
    → Takes (rows_call g) (looks_of ts) a → IsAnswer name log from (rows_seen g.known) g.attempts ts a
rows_answer name log g from ts a served within found seen some begun call takes =
    let h = header_taken name log from g.place (attempts_from g (g.attempts - 1)) ts a served begun call takes in
    subst (λ (xs : List Placed). IsAnswer name log from (rows_seen g.known) g.attempts xs a) (sym (h.are))
    (go h.look h.rest h.low
    (attempts_answer (g.attempts - 1) name log g h.look.position h.here h.look h.rest a served within found (seen_later name log g.known from h.look.position h.low seen) h.header h.call h.takes))
  where
    go : (l : Placed) (rest : List Placed) → from ≤ l.position → Shown name log g.place l.position (l ∷ rest) a ⊎ Refused name log g.place (g.attempts - 1) g.attempts l.position (l ∷ rest) a
        → IsAnswer name log from (rows_seen g.known) g.attempts (l ∷ rest) a
    go l rest low (inl f) = inl (f.here.shown, f.answer, gets_rows name log g.place from l.position g.known (l ∷ rest) a f served found seen low)
    go l rest low (inr f) = inr (gives_up name log g.place from g.attempts l.position (l ∷ rest) a some served found begun low f)

-- the place is the same at every position
pub same_place : (name : List ℕ) (log : Log) (p : ℕ) (m : Moment name log p) → Served name log → IsHeaderPlace name log m.shown.place
same_place name log p m served u r at shows =
    let n = moment name log u served at in
    let is : r ≡ n.shown = shown_is name log u n r shows in
    ap (λ (x : Reading). x.place) is ∙ elim (cases_lt p u) [
      | inl less ↦ (keeps name log p u m n served (omega arith)).stays.place
      | inr more ↦ sym ((keeps name log u p n m served more).stays.place)
    ]

-- what was shown at a position is seen from it on
pub shown_seen : (name : List ℕ) (log : Log) (seen : ℕ) (m : Moment name log seen) → Served name log → AreSeen name log (Some m.shown) seen
shown_seen name log seen m served u n low =
    let k = (keeps name log seen u m n served low).stays in
    record {
      rows = k.rows;
      addresses = λ i. cond_both (same_cut m.shown.dataset n.shown.dataset) m.shown.table [] (λ (known : List ℕ). StaysDefined (get_or known i undefined) (get_or n.shown.table i undefined))
          (λ t. kept_address i k.addresses) (λ t some. absurd (some refl));
    }
  where
    kept_address : (i : ℕ) → ((j : ℕ) → j < length m.shown.table → StaysDefined (get_or m.shown.table j undefined) (get_or n.shown.table j undefined))
        → StaysDefined (get_or m.shown.table i undefined) (get_or n.shown.table i undefined)
    kept_address i h =
        elim (cases_lt i (length m.shown.table)) [
          | inl inside ↦ h i inside
          | inr past ↦ λ some. absurd (some (get_or_past m.shown.table i undefined past))
        ]

-- nothing is known
nothing_seen : (name : List ℕ) (log : Log) (from : ℕ) → AreSeen name log None from
nothing_seen name log from u m low = record { rows = omega arith; addresses = λ k some. absurd (some refl) }

pub refreshes_to_rows : RefreshesToRows
refreshes_to_rows name log g seen r from ls a served within some at before call shows place known takes =
    let m = moment name log seen served at in
    let is : r ≡ m.shown = shown_is name log seen m r shows in
    let found : IsHeaderPlace name log g.place = subst (λ x. IsHeaderPlace name log x) (sym (place ∙ ap (λ (x : Reading). x.place) is)) (same_place name log seen m served) in
    let all : AreSeen name log g.known seen = subst (λ (o : Option Reading). AreSeen name log o seen) (sym (known ∙ ap (λ (x : Reading). Some x) is)) (shown_seen name log seen m served) in
    subst (λ (o : Option Reading). IsAnswer name log from (rows_seen o) g.attempts ls a) known
    (rows_answer name log g from ls a served within found (seen_later name log g.known seen from before all) some (omega (arith, at.begun)) call takes)

-- ---- From the superblock on

gets_behind : (name : List ℕ) (log : Log) (from seen : ℕ) (xs ys : List Placed) (r : Reading) → GetsRows name log from seen ys r → GetsRows name log from seen (xs ++ ys) r
gets_behind name log from seen xs ys r g = record {
  header = g.header;
  begun = g.begun;
  header_looked = any_behind (IsHeaderLook r.place g.header) xs ys g.header_looked;
  rows = g.rows;
  since_begin = g.since_begin;
  since_seen = g.since_seen;
  shown = g.shown;
  position = g.position;
  looked = any_behind (IsTakenAt g.shown) xs ys g.looked;
  later = g.later;
  quiet = g.quiet;
  shows = g.shows;
  values = g.values;
}

gives_behind : (name : List ℕ) (log : Log) (from attempts : ℕ) (xs ys : List Placed) (a : Result Reading ReadError) → GivesUp name log from attempts ys a → GivesUp name log from attempts (xs ++ ys) a
gives_behind name log from attempts xs ys a g = record {
  place = g.place;
  found = g.found;
  earlier = g.earlier;
  before = g.before;
  last = g.last;
  attempted = g.attempted;
  looked = all_behind g.place xs ys (g.earlier ++ g.before ∷ g.last ∷ []) g.looked;
  changed = g.changed;
  begun = g.begun;
  ended = g.ended;
  commits = g.commits;
  answer = g.answer;
}

answer_behind : (name : List ℕ) (log : Log) (from seen attempts : ℕ) (xs ys : List Placed) (a : Result Reading ReadError) → IsAnswer name log from seen attempts ys a → IsAnswer name log from seen attempts (xs ++ ys) a
answer_behind name log from seen attempts xs ys a (inl f) = inl (f.0, f.1, gets_behind name log from seen xs ys f.0 f.2)
answer_behind name log from seen attempts xs ys a (inr f) = inr (gives_behind name log from attempts xs ys a f)

ok_is : {A E : Type 0} (a b : A) → ◌≡◌ {A = Result A E} (Ok a) (Ok b) → a ≡ b
ok_is a b h = cc

-- a superblock that is read says where the root header stands
pub says_root : (b : List ℕ) (s : Super) → super_of b ≡ Ok s → (super_fields b).root ≡ s.root
says_root b s h =
    let read = then_ok (refused_as super_refusal (super_at b)) (λ s. cond (is_swmr s) (Ok s) (Err (NotSwmr s.flags))) s h in
    let swmr = passes (is_swmr read.0) (Ok read.0) (NotSwmr read.0.flags) s read.2 in
    let fields = checked-passed (super_tests b) (super_fields b) read.0 (refused_ok super_refusal (super_at b) read.0 read.1) in
    ap (λ (x : Super). x.root) (fields.1 ∙ ok_is read.0 s swmr.1)

abbrev pub link_of : List ℕ → HeaderFields → Prog (Result ℕ ReadError)
link_of name h = ret (linked name h.messages)

abbrev pub place_from : List ℕ → Super → Prog (Result ℕ ReadError)
place_from name s = and_then (root_header s.root) (link_of name)

-- the way to the dataset header leads to its place
pub place_taken : (name : List ℕ) (log : Log) (from cap : ℕ) (ts : List Placed) (left : Result ℕ ReadError) → Served name log → log.first ≤ from → IsCall log from ts
    → Takes (lowered cap [] (dataset_place name)) (looks_of ts) left → (p : ℕ) × (m : Moment name log p) × (left ≡ Ok m.shown.place)
place_taken name log from cap ts left served begun call takes =
    let one = one_look 0 48 (λ b. lowered cap [] (onward (place_from name) (super_of b))) ts left (omega arith) (omega arith) (omega arith) takes in
    later one.look one.rest one.are one.at_place one.whole_len one.takes
  where
    later : (l : Placed) (rest : List Placed) → ts ≡ l ∷ rest → l.look.place ≡ 0 → l.look.len ≡ 48
        → Takes (lowered cap [] (onward (place_from name) (super_of l.look.bytes))) (looks_of rest) left → (p : ℕ) × (m : Moment name log p) × (left ≡ Ok m.shown.place)
    later l rest cut at_place whole_len then_takes =
        let c = subst (λ (xs : List Placed). IsCall log from xs) cut call in
        let p : ℕ = l.position in
        let img : List ℕ = image_at log p in
        let m = moment name log p served (record { begun = omega (arith, c.0); reached = c.1 }) in
        let bytes : l.look.bytes ≡ range img 0 48 = c.2 ∙ ap (λ a. range img a l.look.len) at_place ∙ ap (λ n. range img 0 n) whole_len in
        let s = and_then_ok img superblock (place_from name) m.shown.place m.steps.place in
        let root : root_address img ≡ s.0.root = says_root (range img 0 48) s.0 s.1 in
        let goes = subst (λ (r : Result Super ReadError). Takes (lowered cap [] (onward (place_from name) r)) (looks_of rest) left) (ap super_of bytes ∙ s.1) then_takes in
        let last : ℕ = length (hist log.events) in
        let same : AreSame log p last img (visits img (place_from name s.0)) = (λ w low high.
        let n = moment name log w served (record { begun = omega (arith, c.0); reached = high }) in (
          n.fits,
          same_and_then img (image_at log w) (root_header s.0.root) (link_of name)
              (subst (λ x. Same img (image_at log w) (visits img (root_header x))) root (keeps name log p w m n served low).stays.root_header) (λ h. tt),
        )) in
        (p, m, placed_kept log p last img cap (place_from name s.0) rest left m.fits c.3 (until_end log p rest c.3) same goes ∙ s.2)

pub opens_on_rows : OpensOnRows
opens_on_rows name log limits kept attempts from ls a served within some begun call takes =
    let after : ℕ → Prog (Result Reading ReadError) = λ at. rows_call (open_rules limits kept attempts at) in
    let parts = placed_parts (lowered kept [] (dataset_place name)) (onward after) ls a takes in
    let all = subst (λ (xs : List Placed). IsCall log from xs) (sym (parts.are)) call in
    let place = place_taken name log from kept parts.front parts.left served begun (call_front log from parts.front parts.rest all) parts.first in
    let goes = subst (λ (r : Result ℕ ReadError). Takes (onward after r) (looks_of parts.rest) a) place.2 parts.second in
    subst (λ (xs : List Placed). IsAnswer name log from 0 attempts xs a) parts.are
    (answer_behind name log from 0 attempts parts.front parts.rest a
    (rows_answer name log (open_rules limits kept attempts place.1.shown.place) from parts.rest a served within (same_place name log place.0 place.1 served) (nothing_seen name log from) some begun
    (call_rest log from parts.front parts.rest all) goes))
