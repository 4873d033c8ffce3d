-- Places that were taken, in another order and in part.
use Rattle.std.proofs.Common.{◌≡◌, ◌⊎◌, ℕ, ◌+◌, ◌<◌, ◌≤◌, List, [], ◌∷◌, ◌++◌, refl, subst, inl, inr, arith}
use Rattle.std.proofs.lemmas.Bool.{cases_lt}
use Rattle.h5w_model.specs.Findings.{Used}
use Rattle.h5w_step_laws.specs.Ranges.{Among}
use Rattle.h5w_step_laws.proofs.RangeLemmas.{among_right}
use Rattle.h5w_space.specs.Space.{Space}
use Rattle.h5w_step_laws.proofs.PartLemmas.{disjoint_part, disjoint_right}
use Rattle.h5w_flush_laws.specs.Spaces.{Taken}
use Rattle.h5w_first_flush_laws.specs.Starting.{TakenAgain}

pub taken_again : TakenAgain
taken_again s t us vs k there back = record {
  apart = disjoint_part us vs k.apart back.among back.counts;
  off_live = λ u x a live. k.off_live u x (back.among u a) live;
  live = λ u a. k.live u (back.among u a);
  stays_live = k.stays_live;
  rises = k.rises;
  end = ends k.end;
}
  where
    ends : (t.end ≡ s.end) ⊎ ((u : Used) × Among u us × (u.place + u.len ≡ t.end)) → (t.end ≡ s.end) ⊎ ((u : Used) × Among u vs × (u.place + u.len ≡ t.end))
    ends (inl e) = inl e
    ends (inr e) = inr (e.0, there.among e.0 e.1, e.2)

-- the end of the last of some ranges, or of those before them
record LastEnd (from : ℕ) (us : List Used) : Type 0 where
  pub end : ℕ
  pub rises : from ≤ end
  pub each : (u : Used) → Among u us → u.place + u.len ≤ end
  pub is : (end ≡ from) ⊎ ((u : Used) × Among u us × (u.place + u.len ≡ end))

further : (from : ℕ) (v : Used) (us : List Used) → LastEnd from us → LastEnd from (v ∷ us)
further from v us e = go (cases_lt e.end (v.place + v.len))
  where
    behind : e.end < v.place + v.len → (u : Used) → Among u (v ∷ us) → u.place + u.len ≤ v.place + v.len
    behind h u (inl i) = subst (λ (x : Used). x.place + x.len ≤ v.place + v.len) i (omega arith)
    behind h u (inr a) = omega (arith, h, e.each u a)

    before : v.place + v.len ≤ e.end → (u : Used) → Among u (v ∷ us) → u.place + u.len ≤ e.end
    before h u (inl i) = subst (λ (x : Used). x.place + x.len ≤ e.end) i h
    before h u (inr a) = e.each u a

    ends : (e.end ≡ from) ⊎ ((u : Used) × Among u us × (u.place + u.len ≡ e.end)) → (e.end ≡ from) ⊎ ((u : Used) × Among u (v ∷ us) × (u.place + u.len ≡ e.end))
    ends (inl i) = inl i
    ends (inr i) = inr (i.0, inr i.1, i.2)

    go : (e.end < v.place + v.len) ⊎ (v.place + v.len ≤ e.end) → LastEnd from (v ∷ us)
    go (inl h) = record { end = v.place + v.len; rises = omega (arith, h, e.rises); each = behind h; is = inr (v, inl refl, refl) }
    go (inr h) = record { end = e.end; rises = e.rises; each = before h; is = ends e.is }

last_end : (from : ℕ) (us : List Used) → LastEnd from us
last_end from [] = record { end = from; rises = omega arith; each = λ u a. absurd a; is = inl refl }
last_end from (v ∷ us) = further from v us (last_end from us)

-- some of what was taken, as if nothing else had been
pub taken_right : (s t : Space) (us vs : List Used) → Taken s (us ++ vs) t → (v : Space) × Taken s vs v
taken_right s t us vs k =
    let last = last_end s.end vs in (
      record t { end = last.end },
      record {
        apart = disjoint_right us vs k.apart;
        off_live = λ u x a live. k.off_live u x (among_right u us vs a) live;
        live = λ u a.
            let live = k.live u (among_right u us vs a) in
            record { within = last.each u a; off_free = live.off_free; off_retired = live.off_retired };
        stays_live = λ x live.
            let later = k.stays_live x live in
            record { within = omega (arith, live.within, last.rises); off_free = later.off_free; off_retired = later.off_retired };
        rises = last.rises;
        end = last.is;
      },
    )
