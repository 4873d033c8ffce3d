-- A session of several datasets over the log of one of them.
use Rattle.std.proofs.Common.{◌≡◌, ◌≢◌, ◌⊎◌, ℕ, suc, ◌+◌, ◌-◌, ◌<◌, ◌≤◌, Bool, true, false, List, [], ◌∷◌, ◌++◌, length, refl, sym, ◌∙◌, ap, subst, inl, inr, arith}
use Rattle.std.specs.Prelude.{nat_le, nat_lt, if◌then◌else◌, ℤ}
use Rattle.std.proofs.lemmas.Bool.{cond-true, cond-false, cases_lt, lt-ltb, le-ltb, ltb-true, le-leb}
use Rattle.h5w_model.specs.Images.{apply, image}
use Rattle.h5w_model.specs.Logs.{Log, plans, shows, appended, appended_in, flushed, flushed_in, and_now}
use Rattle.h5w_model.specs.Findings.{Used}
use Rattle.h5w_model.specs.declared.piece.Write.{Write}
use Rattle.h5w_step_laws.specs.Moments.{Moment}
use Rattle.h5w_step_laws.specs.Logs.{Goes, image_now}
use Rattle.h5w_step_laws.specs.Plans.{Plan, Flush}
use Rattle.h5w_step_laws.proofs.GoesLemmas.{event_goes, image_pushed, piece_goes, same_images}
use Rattle.h5w_step_laws.proofs.PlanLaws.{plan_from, plan_values}
use Rattle.h5w_step_laws.proofs.SessionLaws.{both_same, lt-leb-false, some_piece}
use Rattle.h5w_several_laws.specs.Dues.{PieceDue, PlanDue, RunsTo, Waits}

pub heads : (a b : Write) (xs ys : List Write) → a ∷ xs ≡ b ∷ ys → a ≡ b
heads a b xs ys h = cc

pub tails : (a b : Write) (xs ys : List Write) → a ∷ xs ≡ b ∷ ys → xs ≡ ys
tails a b xs ys h = cc

by_test : (a b : Bool) (x y z : List ℤ) → a ≡ b → (b ≡ true → x ≡ y) → (if a then x else z) ≡ (if b then y else z)
by_test true true x y z e h = h refl
by_test false false x y z e h = refl
by_test true false x y z e h = absurd cc
by_test false true x y z e h = absurd cc

shifted : (k n : ℕ) → nat_lt (k + 1) (suc n) ≡ nat_lt k n
shifted k n = go (cases_lt k n)
  where
    go : (k < n) ⊎ (n ≤ k) → nat_lt (k + 1) (suc n) ≡ nat_lt k n
    go (inl h) = lt-ltb (k + 1) (suc n) (omega (arith, h)) ∙ sym (lt-ltb k n h)
    go (inr h) = le-ltb (k + 1) (suc n) (omega (arith, h)) ∙ sym (le-ltb k n h)

some_left : (vs : List Write) (k : ℕ) → nat_lt k (length vs) ≡ true → vs ≢ []
some_left [] k h = absurd (omega (arith, ltb-true k 0 h))
some_left (v ∷ vs) k h = some_piece v vs

-- ---- One piece

-- where no rows are due any more
piece_none : (name : List ℕ) (log : Log) (w : Write) (ws : List Write) (n b : Moment) (held after : List Used) → Goes name log b held → Plan (image_now log) b held (w ∷ ws) n after
    → ((k : ℕ) → flushed_in k log.values log.events ≡ n.values) → RunsTo name (and_now (shows w) log) 0 ws n after
piece_none name log w ws n b held after g p fl =
    let same : n.values ≡ b.values = plan_values (image_now log) b n held after (w ∷ ws) p in
    let now : p.0.values ≡ flushed (and_now (shows w) log) = p.3 ∙ sym same ∙ sym (fl 1) in
    record {
      before = p.0;
      held = p.1;
      goes = piece_goes name log b held w p.0 p.1 g p.2 now;
      own = [];
      others = ws;
      cut = refl;
      due_is = refl;
      middle = p.0;
      now = p.1;
      flush = (refl, refl);
      plan = subst (λ (img : List ℕ). Plan img p.0 p.1 ws n after) (sym (image_pushed log w)) p.4;
      flushed = λ k. fl (k + 1) ∙ both_same (nat_lt k 0) n.values p.0.values n.values (p.3 ∙ sym same) refl;
    }

-- where the piece is one of those that bring them
piece_own : (name : List ℕ) (log : Log) (w : Write) (own us : List Write) (n m b : Moment) (held now after : List Used) → Goes name log b held → Flush (image_now log) b held (w ∷ own) m now
    → Plan (image (image_now log) (w ∷ own)) m now us n after → ((k : ℕ) → flushed_in k log.values log.events ≡ (if nat_lt k (suc (length own)) then b.values else n.values))
    → RunsTo name (and_now (shows w) log) (length own) (own ++ us) n after
piece_own name log w own us n m b held now after g f p fl =
    let same : n.values ≡ m.values = plan_values (image (image_now log) (w ∷ own)) m n now after us p in
    let values : f.0.values ≡ flushed (and_now (shows w) log) = before_last own same f.3 f.4 ∙ sym (fl 1) in
    record {
      before = f.0;
      held = f.1;
      goes = piece_goes name log b held w f.0 f.1 g f.2 values;
      own = own;
      others = us;
      cut = refl;
      due_is = refl;
      middle = m;
      now = now;
      flush = subst (λ (img : List ℕ). Flush img f.0 f.1 own m now) (sym (image_pushed log w)) f.4;
      plan = subst (λ (img : List ℕ). Plan (image img own) m now us n after) (sym (image_pushed log w)) p;
      flushed = λ k. fl (k + 1) ∙ by_test (nat_lt (k + 1) (suc (length own))) (nat_lt k (length own)) b.values f.0.values n.values (shifted k (length own)) (λ t. sym (f.3 (some_left own k t)));
    }
  where
    before_last : (vs : List Write) → n.values ≡ m.values → (vs ≢ [] → f.0.values ≡ b.values) → Flush (apply w (image_now log)) f.0 f.1 vs m now → f.0.values ≡ (if nat_lt 1 (suc (length vs)) then b.values else n.values)
    before_last [] same kept g = ap (λ (x : Moment). x.values) (sym g.0) ∙ sym same ∙ sym (cond-false (nat_lt 1 1) b.values n.values refl)
    before_last (v ∷ vs) same kept g = kept (some_piece v vs) ∙ sym (cond-true (nat_lt 1 (suc (length (v ∷ vs)))) b.values n.values (lt-ltb 1 (suc (length (v ∷ vs))) (omega arith)))

pub piece_due : PieceDue
piece_due name log due w ws n after r = go r.own r.cut r.due_is r.flush r.plan
  where
    by_due : (x : ℕ) → due ≡ x → (k : ℕ) → flushed_in k log.values log.events ≡ (if nat_lt k x then r.before.values else n.values)
    by_due x is = subst (λ (y : ℕ). (k : ℕ) → flushed_in k log.values log.events ≡ (if nat_lt k y then r.before.values else n.values)) is r.flushed

    go : (own : List Write) → w ∷ ws ≡ own ++ r.others → due ≡ length own → Flush (image_now log) r.before r.held own r.middle r.now → Plan (image (image_now log) own) r.middle r.now r.others n after
        → RunsTo name (and_now (shows w) log) (due - 1) ws n after
    go [] cut due_is f p =
        let q : Plan (image_now log) r.before r.held r.others n after = plan_from (image_now log) r.before r.middle n r.held r.now after r.others f.0 f.1 p in
        let own : Plan (image_now log) r.before r.held (w ∷ ws) n after = subst (λ (xs : List Write). Plan (image_now log) r.before r.held xs n after) (sym cut) q in
        let none : due - 1 ≡ 0 = omega (arith, due_is) in
        let fl : (k : ℕ) → flushed_in k log.values log.events ≡ (if nat_lt k 0 then r.before.values else n.values) = by_due 0 due_is in
        subst (λ (x : ℕ). RunsTo name (and_now (shows w) log) x ws n after) (sym none)
        (piece_none name log w ws n r.before r.held after r.goes own (λ k. fl k ∙ cond-false (nat_lt k 0) r.before.values n.values (le-ltb k 0 (omega arith))))
    go (v ∷ own) cut due_is f p =
        let same : v ≡ w = sym (heads w v ws (own ++ r.others) cut) in
        let rest : own ++ r.others ≡ ws = sym (tails w v ws (own ++ r.others) cut) in
        let one : due - 1 ≡ length own = omega (arith, due_is) in
        let fl : (k : ℕ) → flushed_in k log.values log.events ≡ (if nat_lt k (suc (length own)) then r.before.values else n.values) = by_due (suc (length own)) due_is in
        subst (λ (x : ℕ). RunsTo name (and_now (shows w) log) x ws n after) (sym one)
        (subst (λ (xs : List Write). RunsTo name (and_now (shows w) log) (length own) xs n after) rest
        (piece_own name log w own r.others n r.middle r.before r.held r.now after r.goes
        (subst (λ (x : Write). Flush (image_now log) r.before r.held (x ∷ own) r.middle r.now) same f)
        (subst (λ (x : Write). Plan (image (image_now log) (x ∷ own)) r.middle r.now r.others n after) same p) fl))

-- ---- A flush

flush_behind : (img : List ℕ) (b m n : Moment) (was held after : List Used) (ws vs : List Write) → Plan img b was ws m held → Flush (image img ws) m held vs n after → Flush img b was (ws ++ vs) n after
flush_behind img b m n was held after [] vs p f = subst (λ (x : Moment). Flush img x was vs n after) p.0 (subst (λ (us : List Used). Flush img m us vs n after) p.1 f)
flush_behind img b m n was held after (w ∷ ws) vs p f = (p.0, p.1, p.2, λ some. p.3, flush_behind (apply w img) p.0 m n p.1 held after ws vs p.4 f)

least : (ws vs : List Write) → vs ≢ [] → 0 < length (ws ++ vs)
least [] [] h = absurd (h refl)
least [] (v ∷ vs) h = omega arith
least (w ∷ ws) vs h = omega arith

module _ (name : List ℕ) (log : Log) (count : ℕ) where
  abbrev chosen : ℕ → Bool → List ℤ
  chosen k b = if b then log.values ++ appended_in log.events else flushed_in k log.values log.events

  by_either : (b : Bool) (k : ℕ) (x : List ℤ) → appended log ≡ x → flushed_in k log.values log.events ≡ x → chosen k b ≡ x
  by_either true k x h g = h
  by_either false k x h g = g

  plan_part : (ws vs us : List Write) (m n o : Moment) (held after last : List Used) → count ≡ length (ws ++ vs) → Waits name log ws m held → Flush (image (image_now log) ws) m held vs n after → vs ≢ [] → n.values ≡ appended log
      → Plan (image (image_now log) (ws ++ vs)) n after us o last → RunsTo name (and_now (plans count) log) count ((ws ++ vs) ++ us) o last
  plan_part ws vs us m n o held after last is q f some values p =
      let joined = flush_behind (image_now log) q.before m n q.was held after ws vs q.plan f in
      let last_values : o.values ≡ n.values = plan_values (image (image_now log) (ws ++ vs)) n o after last us p in
      let at_start : flushed (and_now (plans count) log) ≡ flushed_in 0 log.values log.events = ap (chosen 0) (lt-leb-false count 0 (omega (arith, is, least ws vs some))) in
      record {
        before = q.before;
        held = q.was;
        goes = event_goes name (plans count) log q.before q.was refl (sym (at_start ∙ q.flushed 0)) q.goes;
        own = ws ++ vs;
        others = us;
        cut = refl;
        due_is = is;
        middle = n;
        now = after;
        flush = subst (λ (img : List ℕ). Flush img q.before q.was (ws ++ vs) n after) (sym (same_images (plans count) log refl)) joined;
        plan = subst (λ (img : List ℕ). Plan (image img (ws ++ vs)) n after us o last) (sym (same_images (plans count) log refl)) p;
        flushed = λ k. by_count k last_values (cases_lt k count);
      }
    where
      by_count : (k : ℕ) → o.values ≡ n.values → (k < count) ⊎ (count ≤ k) → flushed_in k log.values (plans count ∷ log.events) ≡ (if nat_lt k count then q.before.values else o.values)
      by_count k same (inl low) = ap (chosen k) (lt-leb-false count k low) ∙ q.flushed k ∙ sym (cond-true (nat_lt k count) q.before.values o.values (lt-ltb k count low))
      by_count k same (inr high) = ap (chosen k) (le-leb count k high) ∙ sym values ∙ sym same ∙ sym (cond-false (nat_lt k count) q.before.values o.values (le-ltb k count high))

  plan_none : (ws : List Write) (m : Moment) (held : List Used) → Waits name log ws m held → m.values ≡ appended log → RunsTo name (and_now (plans count) log) 0 ws m held
  plan_none ws m held q all =
      let same : m.values ≡ q.before.values = plan_values (image_now log) q.before m q.was held ws q.plan in
      let each : (k : ℕ) → flushed_in k log.values (plans count ∷ log.events) ≡ q.before.values = λ k. by_either (nat_le count k) k q.before.values (sym all ∙ same) (q.flushed k) in
      record {
        before = q.before;
        held = q.was;
        goes = event_goes name (plans count) log q.before q.was refl (sym (each 0)) q.goes;
        own = [];
        others = ws;
        cut = refl;
        due_is = refl;
        middle = q.before;
        now = q.was;
        flush = (refl, refl);
        plan = subst (λ (img : List ℕ). Plan img q.before q.was ws m held) (sym (same_images (plans count) log refl)) q.plan;
        flushed = λ k. each k ∙ both_same (nat_lt k 0) q.before.values q.before.values m.values refl same;
      }

pub plan_due : PlanDue
plan_due = record {
  part = λ name log ws vs us m n o held after last q f some values p. plan_part name log (length (ws ++ vs)) ws vs us m n o held after last refl q f some values p;
  none = λ name log ws count m held q all. plan_none name log count ws m held q all;
}
