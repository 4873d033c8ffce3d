-- Sessions over their logs, opened files, and several datasets in one file.
use Rattle.std.proofs.Common.{◌≡◌, ◌≢◌, ◌⊎◌, ℕ, suc, ◌+◌, ◌*◌, ◌/◌, ◌<◌, ◌≤◌, Bool, true, false, List, [], ◌∷◌, ◌++◌, length, refl, sym, ◌∙◌, ap, subst, inl, inr, arith}
use Rattle.std.specs.Prelude.{nat_le, nat_lt, if◌then◌else◌, ℤ}
use Rattle.std.proofs.Math.Nat.{mul-div_cancel}
use Rattle.std.proofs.lemmas.Bool.{cond-true, cond-false, cases_lt, lt-ltb, le-ltb, ltb-true, le-leb, cases_Bool, leb-true}
use Rattle.h5w_model.specs.Images.{apply}
use Rattle.h5w_model.specs.Logs.{Log, appends, plans, shows, appended_in, flushed, flushed_in, and_now}
use Rattle.h5w_model.specs.Tables.{Reads}
use Rattle.h5w_model.specs.Findings.{Used}
use Rattle.h5w_model.specs.Prefixed.{PrefixedEach}
use Rattle.h5w_model.specs.declared.piece.Write.{Write}
use Rattle.h5w_step_laws.specs.Moments.{Moment, Represents, all_used}
use Rattle.h5w_step_laws.specs.Steps.{unseen, ends}
use Rattle.h5w_step_laws.specs.Logs.{image_now, Goes}
use Rattle.h5w_step_laws.specs.Plans.{Flush}
use Rattle.h5w_step_laws.specs.Sessions.{Runs, PieceRuns, AppendRuns, FlushRuns, GoesRuns, RunsLead, OpenedGoes, OtherLaws}
use Rattle.h5w_step_laws.proofs.MomentLemmas.{cell_chunk, chunk_missed, header_of, table_of_file, in_behind, lies_missed}
use Rattle.h5w_step_laws.proofs.FoundLemmas.{opens}
use Rattle.h5w_step_laws.proofs.GoesLemmas.{image_pushed, same_images, piece_goes, event_goes, begin_goes}
use Rattle.h5w_step_laws.proofs.PlanLaws.{plan_values, plan_flush, flush_leads}

-- ---- One piece

pub lt-leb-false : (a b : ℕ) → b < a → nat_le a b ≡ false
lt-leb-false a b h = go (cases_Bool (nat_le a b))
  where
    go : (nat_le a b ≡ true) ⊎ (nat_le a b ≡ false) → nat_le a b ≡ false
    go (inl t) = absurd (omega (arith, h, leb-true a b t))
    go (inr t) = t

pub some_piece : (w : Write) (ws : List Write) → w ∷ ws ≢ []
some_piece w ws e = cc

pub piece_runs : PieceRuns
piece_runs name log w ws n after r =
    let f = r.flush in
    let between : Moment = f.0 in
    let new : Log = and_now (shows w) log in
    let now : between.values ≡ flushed new = before_last ws f.3 f.4 ∙ sym (r.flushed 1) in
    record {
      before = between;
      held = f.1;
      goes = piece_goes name log r.before r.held w between f.1 r.goes f.2 now;
      flush = subst (λ (img : List ℕ). Flush img between f.1 ws n after) (sym (image_pushed log w)) f.4;
      flushed = λ k. r.flushed (k + 1) ∙ later ws f.3 k;
    }
  where
    before_last : (vs : List Write) → (vs ≢ [] → r.flush.0.values ≡ r.before.values) → Flush (apply w (image_now log)) r.flush.0 r.flush.1 vs n after
        → r.flush.0.values ≡ (if nat_lt 1 (length (w ∷ vs)) then r.before.values else n.values)
    before_last [] same g = ap (λ (x : Moment). x.values) (sym g.0) ∙ sym (cond-false (nat_lt 1 1) r.before.values n.values refl)
    before_last (v ∷ vs) same g = same (some_piece v vs) ∙ sym (cond-true (nat_lt 1 (length (w ∷ v ∷ vs))) r.before.values n.values (lt-ltb 1 (length (w ∷ v ∷ vs)) (omega arith)))

    by_test : (a b : Bool) (x y z : List ℤ) → a ≡ b → (b ≡ true → x ≡ y) → (if a then x else z) ≡ (if b then y else z)
    by_test true true x y z e h = h refl
    by_test false false x y z e h = refl
    by_test true false x y z e h = absurd cc
    by_test false true x y z e h = absurd cc

    shifted : (k n : ℕ) → nat_lt (k + 1) (suc n) ≡ nat_lt k n
    shifted k n = go (cases_lt k n)
      where
        go : (k < n) ⊎ (n ≤ k) → nat_lt (k + 1) (suc n) ≡ nat_lt k n
        go (inl h) = lt-ltb (k + 1) (suc n) (omega (arith, h)) ∙ sym (lt-ltb k n h)
        go (inr h) = le-ltb (k + 1) (suc n) (omega (arith, h)) ∙ sym (le-ltb k n h)

    some_left : (vs : List Write) (k : ℕ) → nat_lt k (length vs) ≡ true → vs ≢ []
    some_left [] k h = absurd (omega (arith, ltb-true k 0 h))
    some_left (v ∷ vs) k h = some_piece v vs

    later : (vs : List Write) → (vs ≢ [] → r.flush.0.values ≡ r.before.values) → (k : ℕ)
        → (if nat_lt (k + 1) (length (w ∷ vs)) then r.before.values else n.values) ≡ (if nat_lt k (length vs) then r.flush.0.values else n.values)
    later vs same k = by_test (nat_lt (k + 1) (length (w ∷ vs))) (nat_lt k (length vs)) r.before.values r.flush.0.values n.values (shifted k (length vs)) (λ t. sym (same (some_left vs k t)))

-- ---- An append, and a flush

-- a run without pending pieces is at its moment
pub record Rests (name : List ℕ) (log : Log) (m : Moment) (held : List Used) : Type 0 where
  pub goes : Goes name log m held
  pub flushed : (k : ℕ) → flushed_in k log.values log.events ≡ m.values

pub rests : (name : List ℕ) (log : Log) (m : Moment) (held : List Used) → Runs name log [] m held → Rests name log m held
rests name log m held r = record {
  goes = subst (λ (us : List Used). Goes name log m us) (sym r.flush.1) (subst (λ (x : Moment). Goes name log x r.held) (sym r.flush.0) r.goes);
  flushed = λ k. r.flushed k ∙ none k;
}
  where
    none : (k : ℕ) → (if nat_lt k 0 then r.before.values else m.values) ≡ m.values
    none k = cond-false (nat_lt k 0) r.before.values m.values (le-ltb k 0 (omega arith))

pub both_same : (b : Bool) (x y z : List ℤ) → y ≡ x → z ≡ x → x ≡ (if b then y else z)
both_same true x y z h g = sym h
both_same false x y z h g = sym g

pub append_runs : AppendRuns
append_runs name log vs m n held after ws r p =
    let q = rests name log m held r in
    let new : Log = and_now (appends vs) log in
    record {
      before = m;
      held = held;
      goes = event_goes name (appends vs) log m held refl (sym (q.flushed 0)) q.goes;
      flush = subst (λ (img : List ℕ). Flush img m held ws n after) (sym (same_images (appends vs) log refl)) (plan_flush (image_now log) m n held after ws p);
      flushed = λ k. q.flushed k ∙ both_same (nat_lt k (length ws)) m.values m.values n.values refl (plan_values (image_now log) m n held after ws p);
    }

pub flush_runs : FlushRuns
flush_runs name log m n held after ws r f some values =
    let q = rests name log m held r in
    let count : ℕ = length ws in
    record {
      before = m;
      held = held;
      goes = event_goes name (plans count) log m held refl (sym (at_start ∙ q.flushed 0)) q.goes;
      flush = subst (λ (img : List ℕ). Flush img m held ws n after) (sym (same_images (plans count) log refl)) f;
      flushed = λ k. by_count k (cases_lt k count);
    }
  where
    least : (vs : List Write) → vs ≢ [] → 0 < length vs
    least [] h = absurd (h refl)
    least (v ∷ vs) h = omega arith

    chosen : ℕ → Bool → List ℤ
    chosen k b = if b then log.values ++ appended_in log.events else flushed_in k log.values log.events

    at_start : flushed (and_now (plans (length ws)) log) ≡ flushed_in 0 log.values log.events
    at_start = ap (chosen 0) (lt-leb-false (length ws) 0 (least ws some))

    by_count : (k : ℕ) → (k < length ws) ⊎ (length ws ≤ k) → flushed_in k log.values (plans (length ws) ∷ log.events) ≡ (if nat_lt k (length ws) then m.values else n.values)
    by_count k (inl low) = ap (chosen k) (lt-leb-false (length ws) k low) ∙ (rests name log m held r).flushed k ∙ sym (cond-true (nat_lt k (length ws)) m.values n.values (lt-ltb k (length ws) low))
    by_count k (inr high) = ap (chosen k) (le-leb (length ws) k high) ∙ sym values ∙ sym (cond-false (nat_lt k (length ws)) m.values n.values (le-ltb k (length ws) high))

pub goes_runs : GoesRuns
goes_runs name log m held g same = record {
  before = m;
  held = held;
  goes = g;
  flush = (refl, refl);
  flushed = λ k. same k ∙ both_same (nat_lt k 0) m.values m.values m.values refl refl;
}

pub runs_lead : RunsLead
runs_lead name log pending n after r = flush_leads (image_now log) name r.before n r.held after pending r.goes.now r.flush

-- ---- Opening a file

pub opened_goes : OpenedGoes
opened_goes img name rows columns values sm valid reads some =
    let o = opens img name rows columns values sm valid reads in
    go o.0 o.1 o.2 o.3 o.4
  where
    log : Log
    log = record { start = img; columns = columns; values = values; first = 0; events = [] }

    go : (m : Moment) → Represents img name m → m.values ≡ values → m.dataset.shape.rows ≡ rows → m.dataset.shape.cols ≡ columns
        → (m : Moment) × (m.values ≡ values) × Goes name (record { start = img; columns = columns; values = values; first = 0; events = [] }) m m.behind
    go m here are its_rows its_columns =
        let count : rows ≡ length values / columns =
        sym (mul-div_cancel rows some) ∙ ap (λ c. rows * c / columns) (sym its_columns) ∙ ap (λ r. r * m.dataset.shape.cols / columns) (sym its_rows) ∙ ap (λ n. n / columns) (sym here.count)
        ∙ ap (λ (vs : List ℤ). length vs / columns) are in
        let each : PrefixedEach name log = λ low. record { summary = sm; valid = valid; reads = subst (λ n. Reads img name n columns values) count reads } in
        (m, are, begin_goes name log m refl here are some its_columns each)

-- ---- Several datasets in one file

pub other_laws : OtherLaws
other_laws = record {
  own = λ img name m other held w r inside off off_held.
      let missed = lies_missed w (m.header ++ m.fixed) (all_used other) inside off in
      unseen (record {
        off_blocks = λ u a b. missed u a;
        off_cells = λ k low d.
            let c = cell_chunk img other k (header_of img name other r).sized (table_of_file img name other r) d in
            chunk_missed w other k c (missed c.chunk (in_behind other c.chunk c.among));
      }) (λ u a b. lies_missed w (m.header ++ m.fixed) held inside off_held u a) refl refl;
  ends = λ img m n other held w same e.
      ends (record {
        is = refl;
        place = e.place;
        len = e.len;
        reads = e.reads;
        root = e.root ∙ ap (λ s. s.root) (sym same);
        swmr = e.swmr;
        rises = subst (λ s. s.end ≤ n.super.end) (sym same) e.rises;
        there = e.there;
      }) refl;
}
