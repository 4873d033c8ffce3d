-- The messages of a header with a number written over 8 bytes of one message's data.
use Rattle.std.proofs.Common.{◌≡◌, ◌≢◌, ◌⊎◌, ℕ, zero, suc, ◌+◌, ◌-◌, ◌<◌, ◌≤◌, min, Bool, true, false, cond, ◌&&◌, ◌||◌, List, [], ◌∷◌, length, map, take, drop, Ok, refl, ap, sym, ◌∙◌, subst, inl, inr, arith}
use Rattle.std.specs.Prelude.{◌==◌, nat_lt}
use Rattle.std.proofs.lemmas.Bool.{cases_Bool, cases_lt, ltb-false, eq-eqb, ne_eqb, or_parts}
use Rattle.h5w_model.specs.Numbers.{range, field}
use Rattle.h5w_model.specs.Headers.{and_then, with_number, msgs_in, msg_at, data_size, overruns, continuation_kind}
use Rattle.h5w_model.specs.declared.message.Msg.{Msg}
use Rattle.h5w_model.specs.declared.refusal.HeaderError.TheVariants.{Overrun}
use Rattle.h5w_model.proofs.NumberLemmas.{field-take}
use Rattle.h5w_model.proofs.HeaderLemmas.{and_then-ok, msgs_in-gap, msgs_in-overrun, msgs_in-more}
use Rattle.h5w_model.proofs.ImageLemmas.{length-range}
use Rattle.h5w_laws.proofs.PlaceLemmas.{listed, refused_list}
use Rattle.h5w_step_laws.specs.Commits.{renumbered}
use Rattle.h5w_step_laws.proofs.NumberLemmas.{length_number, number_beside, number_inside, rest_of, part_of}

-- ---- One message

pub same_messages : (ms ns : List Msg) → listed ms ≡ listed ns → ms ≡ ns
same_messages ms ns h = cc

pub no_fuel : (before place : ℕ) (c : List ℕ) → msgs_in zero before place c ≡ Ok []
unfolding msgs_in
no_fuel before place c = refl

-- a walk of one step or more: the gap, or a message and those behind it
pub data Stepped (before place : ℕ) (b : List ℕ) (fuel : ℕ) (ms : List Msg) : Type 0 where
  gap : length b < before → ms ≡ [] → Stepped before place b fuel ms
  one : (rest : List Msg) → before ≤ length b → overruns before b ≡ false → before + data_size b ≤ length b
      → msgs_in fuel before (place + (before + data_size b)) (drop (before + data_size b) b) ≡ Ok rest → ms ≡ msg_at before place b ∷ rest → Stepped before place b fuel ms

pub stepped : (fuel before place : ℕ) (b : List ℕ) (ms : List Msg) → msgs_in (suc fuel) before place b ≡ Ok ms → Stepped before place b fuel ms
stepped fuel before place b ms h = go (cases_lt (length b) before) (cases_Bool (overruns before b))
  where
    go : (length b < before) ⊎ (before ≤ length b) → (overruns before b ≡ true) ⊎ (overruns before b ≡ false) → Stepped before place b fuel ms
    go (inl short) over = gap short (same_messages ms [] (sym h ∙ msgs_in-gap (suc fuel) before place b short))
    go (inr long) (inl over) = refused_list (Overrun place) ms (sym (msgs_in-overrun fuel before place b long over) ∙ h)
    go (inr long) (inr ends) =
        let next = before + data_size b in
        let more = and_then-ok (msgs_in fuel before (place + next) (drop next b)) (λ rest. listed (msg_at before place b ∷ rest)) ms (sym (msgs_in-more fuel before place b long ends) ∙ h) in
        one more.0 long ends (ltb-false (length b) next ((or_parts (nat_lt (length b) next) ((field b 0 1 == continuation_kind) && nat_lt (data_size b) 16) ends).0)) more.1
        (sym (same_messages (msg_at before place b ∷ more.0) ms more.2))

pub one_more : (fuel before place : ℕ) (b : List ℕ) (rest : List Msg) → before ≤ length b → overruns before b ≡ false
    → msgs_in fuel before (place + (before + data_size b)) (drop (before + data_size b) b) ≡ Ok rest → msgs_in (suc fuel) before place b ≡ Ok (msg_at before place b ∷ rest)
one_more fuel before place b rest long ends h =
    msgs_in-more fuel before place b long ends ∙ ap (λ r. and_then r (λ rest. listed (msg_at before place b ∷ rest))) h

-- ---- Where messages stand

-- one of these messages
abbrev pub IsAmong : Msg → List Msg → Type 0
IsAmong x [] = ⊥
IsAmong x (m ∷ ms) = (m ≡ x) ⊎ IsAmong x ms

-- a message's bytes lie from a place on, up to an end
pub record LiesFrom (before place end : ℕ) (x : Msg) : Type 0 where
  pub from : place ≤ x.at
  pub to : x.at + before + length x.body ≤ end

abbrev pub AllFrom : ℕ → ℕ → ℕ → List Msg → Type 0
AllFrom before place end ms = (x : Msg) → IsAmong x ms → LiesFrom before place end x

none_lies : (before place end : ℕ) (ms : List Msg) → ms ≡ [] → AllFrom before place end ms
none_lies before place end ms e = subst (λ (ms : List Msg). AllFrom before place end ms) (sym e) (λ x a. absurd a)

-- the first message of the bytes at a place
body_long : (b : List ℕ) (before place n : ℕ) → place + n ≤ length b → before + data_size (range b place n) ≤ length (range b place n)
    → (length (range (range b place n) before (data_size (range b place n))) ≡ data_size (range b place n)) × (before + data_size (range b place n) ≤ n)
body_long b before place n fits inside =
    let c = range b place n in
    let whole = length-range b place n in
    (length-range c before (data_size c) ∙ omega arith, omega arith)

all_from_step : (b : List ℕ) (before fuel place n : ℕ) (ms : List Msg) → place + n ≤ length b
    → ((at m : ℕ) (rest : List Msg) → at + m ≤ length b → msgs_in fuel before at (range b at m) ≡ Ok rest → AllFrom before at (at + m) rest)
    → Stepped before place (range b place n) fuel ms → AllFrom before place (place + n) ms
all_from_step b before fuel place n ms fits behind (gap short e) = none_lies before place (place + n) ms e
all_from_step b before fuel place n ms fits behind (one rest long ends inside h e) =
    let c = range b place n in
    let next = before + data_size c in
    let len = body_long b before place n fits inside in
    let low = len.1 in
    let size = len.0 in
    let later = behind (place + next) (n - next) rest (omega arith) (ap (msgs_in fuel before (place + next)) (sym (rest_of b place n next low)) ∙ h) in
    let first : LiesFrom before place (place + n) (msg_at before place c) = record { from = omega arith; to = omega arith } in
    subst (λ (ms : List Msg). AllFrom before place (place + n) ms) (sym e)
    (λ x a. elim a [
      | inl same ↦ subst (λ (y : Msg). LiesFrom before place (place + n) y) same first
      | inr a ↦
          let l = later x a in
          let from = l.from in
          let to = l.to in
          record { from = omega arith; to = omega arith }
    ])

pub all_from : (b : List ℕ) (before fuel place n : ℕ) (ms : List Msg) → place + n ≤ length b → msgs_in fuel before place (range b place n) ≡ Ok ms → AllFrom before place (place + n) ms
all_from b before zero place n ms fits h = none_lies before place (place + n) ms (same_messages ms [] (sym h ∙ no_fuel before place (range b place n)))
all_from b before (suc fuel) place n ms fits h =
    all_from_step b before fuel place n ms fits (λ at m rest. all_from b before fuel at m rest) (stepped fuel before place (range b place n) ms h)

-- ---- With a number written over

-- what a step rests on: the length, and the first four bytes
pub record SameHead (b c : List ℕ) : Type 0 where
  pub kind : field c 0 1 ≡ field b 0 1
  pub size : data_size c ≡ data_size b
  pub flags : field c 3 1 ≡ field b 3 1
  pub long : length c ≡ length b

same_field : (b c : List ℕ) (at w : ℕ) → at + w ≤ 4 → take 4 c ≡ take 4 b → field c at w ≡ field b at w
same_field b c at w low e = sym (field-take c 4 at w low) ∙ ap (λ (x : List ℕ). field x at w) e ∙ field-take b 4 at w low

pub same_head : (b c : List ℕ) → take 4 c ≡ take 4 b → length c ≡ length b → SameHead b c
same_head b c e l = record { kind = same_field b c 0 1 (omega arith) e; size = same_field b c 1 2 (omega arith) e; flags = same_field b c 3 1 (omega arith) e; long = l }

overruns_by : ℕ → ℕ → ℕ → ℕ → Bool
overruns_by before len kind size = nat_lt len (before + size) || ((kind == continuation_kind) && nat_lt size 16)

same_overruns : (before : ℕ) (b c : List ℕ) → SameHead b c → overruns before c ≡ overruns before b
unfolding overruns_by
same_overruns before b c h = λ i. overruns_by before (h.long i) (h.kind i) (h.size i)

message_by : ℕ → ℕ → ℕ → List ℕ → Msg
message_by kind flags place data_bytes = record { kind = kind; flags = flags; at = place; body = data_bytes }

-- a message with other data
pub same_message : (before place : ℕ) (b c body : List ℕ) → SameHead b c → range c before (data_size b) ≡ body → msg_at before place c ≡ record (msg_at before place b) { body = body }
unfolding message_by
same_message before place b c body h e =
    (λ i. message_by (h.kind i) (h.flags i) place (range c before (h.size i))) ∙ ap (λ (x : List ℕ). message_by (field b 0 1) (field b 3 1) place x) e

-- a message that is another one
pub renumbered_other : (kind at k v : ℕ) (m : Msg) → m.at ≢ at → renumbered kind at k v m ≡ m
renumbered_other kind at k v m h = go (m.kind == kind)
  where
    go : (t : Bool) → cond (t && (m.at == at)) (record m { body = with_number m.body k v }) m ≡ m
    go true = ap (λ (c : Bool). cond c (record m { body = with_number m.body k v }) m) (ne_eqb m.at at h)
    go false = refl

-- of another kind
pub renumbered_kind : (kind at k v : ℕ) (m : Msg) → m.kind ≢ kind → renumbered kind at k v m ≡ m
renumbered_kind kind at k v m h = ap (λ (c : Bool). cond (c && (m.at == at)) (record m { body = with_number m.body k v }) m) (ne_eqb m.kind kind h)

pub renumbered_same : (kind at k v : ℕ) (m : Msg) → m.kind ≡ kind → m.at ≡ at → renumbered kind at k v m ≡ record m { body = with_number m.body k v }
renumbered_same kind at k v m h g = λ i. cond (eq-eqb m.kind kind h i && eq-eqb m.at at g i) (record m { body = with_number m.body k v }) m

-- those that stand behind
pub renumbered_behind : (before kind at k v next end : ℕ) (ms : List Msg) → at < next → AllFrom before next end ms → map (renumbered kind at k v) ms ≡ ms
renumbered_behind before kind at k v next end [] low h = refl
renumbered_behind before kind at k v next end (m ∷ ms) low h =
    let l = h m (inl refl) in
    let from = l.from in
    (λ i. renumbered_other kind at k v m (λ e. omega arith) i ∷ renumbered_behind before kind at k v next end ms low (λ x a. h x (inr a)) i)

-- what a walk over the changed bytes rests on
pub record IsPlace (b : List ℕ) (before kind k : ℕ) (x : Msg) : Type 0 where
  pub enough : 4 ≤ before
  pub is_kind : x.kind ≡ kind
  pub inside : k + 8 ≤ length x.body
  pub fits : x.at + before + length x.body ≤ length b

-- the changed bytes of a range
abbrev pub changed : List ℕ → ℕ → ℕ → ℕ → Msg → List ℕ
changed b before k v x = with_number b (x.at + before + k) v

changed_long : (b : List ℕ) (before kind k v place n : ℕ) (x : Msg) → IsPlace b before kind k x → length (range (changed b before k v x) place n) ≡ length (range b place n)
changed_long b before kind k v place n x is =
    let inside = is.inside in
    let fits = is.fits in
    length-range (changed b before k v x) place n ∙ ap (λ (l : ℕ). min n (l - place)) (length_number b (x.at + before + k) v (omega arith)) ∙ sym (length-range b place n)

-- at a message that is not the one: it stands before the number
renumber_other : (b : List ℕ) (before kind k v fuel place n : ℕ) (x : Msg) (rest : List Msg) → IsPlace b before kind k x → place + n ≤ length b
    → before ≤ length (range b place n) → overruns before (range b place n) ≡ false → before + data_size (range b place n) ≤ n
    → place + (before + data_size (range b place n)) ≤ x.at
    → msgs_in fuel before (place + (before + data_size (range b place n))) (range (changed b before k v x) (place + (before + data_size (range b place n))) (n - (before + data_size (range b place n))))
    ≡ Ok (map (renumbered kind x.at k v) rest)
    → msgs_in (suc fuel) before place (range (changed b before k v x) place n) ≡ Ok (map (renumbered kind x.at k v) (msg_at before place (range b place n) ∷ rest))
renumber_other b before kind k v fuel place n x rest is fits long ends low behind h =
    let c = range b place n in
    let q = x.at + before + k in
    let new = changed b before k v x in
    let d = range new place n in
    let next = before + data_size c in
    let inside = is.inside in
    let high = is.fits in
    let enough = is.enough in
    let l : length d ≡ length c = changed_long b before kind k v place n x is in
    let front : take 4 d ≡ take 4 c =
    part_of new place n 0 4 (omega arith)
    ∙ number_beside b q v (place + 0) 4 (omega arith) (omega arith) (inr (omega arith))
    ∙ sym (part_of b place n 0 4 (omega arith)) in
    let head = same_head c d front l in
    let body : range d before (data_size c) ≡ range c before (data_size c) =
    part_of new place n before (data_size c) (omega arith)
    ∙ number_beside b q v (place + before) (data_size c) (omega arith) (omega arith) (inr (omega arith))
    ∙ sym (part_of b place n before (data_size c) (omega arith)) in
    let first : msg_at before place d ≡ renumbered kind x.at k v (msg_at before place c) =
    same_message before place c d (range c before (data_size c)) head body ∙ sym (renumbered_other kind x.at k v (msg_at before place c) (λ e. omega arith)) in
    let next_same : before + data_size d ≡ next = ap (λ s. before + s) head.size in
    one_more fuel before place d (map (renumbered kind x.at k v) rest) (omega arith) (same_overruns before c d head ∙ ends)
    (ap (λ s. msgs_in fuel before (place + s) (drop s d)) next_same ∙ ap (msgs_in fuel before (place + next)) (rest_of new place n next low) ∙ h)
    ∙ ap (λ m. Ok (m ∷ map (renumbered kind x.at k v) rest)) first

-- at the message itself: what stands behind it is the same
renumber_here : (b : List ℕ) (before kind k v fuel place n : ℕ) (x : Msg) (rest : List Msg) → IsPlace b before kind k x → place + n ≤ length b
    → before ≤ length (range b place n) → overruns before (range b place n) ≡ false → before + data_size (range b place n) ≤ n → msg_at before place (range b place n) ≡ x
    → AllFrom before (place + (before + data_size (range b place n))) (place + n) rest
    → msgs_in fuel before (place + (before + data_size (range b place n))) (range b (place + (before + data_size (range b place n))) (n - (before + data_size (range b place n)))) ≡ Ok rest
    → msgs_in (suc fuel) before place (range (changed b before k v x) place n) ≡ Ok (map (renumbered kind x.at k v) (msg_at before place (range b place n) ∷ rest))
renumber_here b before kind k v fuel place n x rest is fits long ends low same later h =
    let c = range b place n in
    let q = x.at + before + k in
    let new = changed b before k v x in
    let d = range new place n in
    let next = before + data_size c in
    let enough = is.enough in
    let at : place ≡ x.at = ap (λ (m : Msg). m.at) same in
    let body_is : range c before (data_size c) ≡ x.body = ap (λ (m : Msg). m.body) same in
    let size : length x.body ≡ data_size c = ap length (sym body_is) ∙ length-range c before (data_size c) ∙ omega (arith, length-range b place n) in
    let inside = is.inside in
    let high = is.fits in
    let l : length d ≡ length c = changed_long b before kind k v place n x is in
    let front : take 4 d ≡ take 4 c =
    part_of new place n 0 4 (omega arith)
    ∙ number_beside b q v (place + 0) 4 (omega arith) (omega arith) (inr (omega arith))
    ∙ sym (part_of b place n 0 4 (omega arith)) in
    let head = same_head c d front l in
    let body : range d before (data_size c) ≡ with_number (range c before (data_size c)) k v =
    part_of new place n before (data_size c) (omega arith)
    ∙ ap (λ (p : ℕ). range (with_number b p v) (place + before) (data_size c)) (omega arith)
    ∙ number_inside b (place + before) (data_size c) k v (omega arith) (omega arith)
    ∙ ap (λ (y : List ℕ). with_number y k v) (sym (part_of b place n before (data_size c) (omega arith))) in
    let first : msg_at before place d ≡ renumbered kind x.at k v (msg_at before place c) =
    same_message before place c d (with_number (range c before (data_size c)) k v) head body
    ∙ sym (renumbered_same kind x.at k v (msg_at before place c) (ap (λ (m : Msg). m.kind) same ∙ is.is_kind) at) in
    let next_same : before + data_size d ≡ next = ap (λ s. before + s) head.size in
    let rest_same : range new (place + next) (n - next) ≡ range b (place + next) (n - next) = number_beside b q v (place + next) (n - next) (omega arith) (omega arith) (inl (omega arith)) in
    one_more fuel before place d rest (omega arith) (same_overruns before c d head ∙ ends)
    (ap (λ s. msgs_in fuel before (place + s) (drop s d)) next_same ∙ ap (msgs_in fuel before (place + next)) (rest_of new place n next low ∙ rest_same) ∙ h)
    ∙ (λ i. Ok (first i ∷ sym (renumbered_behind before kind x.at k v (place + next) (place + n) rest (omega arith) later) i))

renumber_step : (b : List ℕ) (before kind k v fuel place n : ℕ) (x : Msg) (ms : List Msg) → IsPlace b before kind k x → place + n ≤ length b
    → ((at m : ℕ) (rest : List Msg) → at + m ≤ length b → msgs_in fuel before at (range b at m) ≡ Ok rest → IsAmong x rest
    → msgs_in fuel before at (range (changed b before k v x) at m) ≡ Ok (map (renumbered kind x.at k v) rest))
    → Stepped before place (range b place n) fuel ms → IsAmong x ms → msgs_in (suc fuel) before place (range (changed b before k v x) place n) ≡ Ok (map (renumbered kind x.at k v) ms)
renumber_step b before kind k v fuel place n x ms is fits behind (gap short e) among = absurd (subst (λ (ms : List Msg). IsAmong x ms) e among)
renumber_step b before kind k v fuel place n x ms is fits behind (one rest long ends inside h e) among =
    let c = range b place n in
    let next = before + data_size c in
    let low = (body_long b before place n fits inside).1 in
    let h : msgs_in fuel before (place + next) (range b (place + next) (n - next)) ≡ Ok rest = ap (msgs_in fuel before (place + next)) (sym (rest_of b place n next low)) ∙ h in
    let lies : AllFrom before (place + next) (place + next + (n - next)) rest = all_from b before fuel (place + next) (n - next) rest (omega arith) h in
    let end : place + next + (n - next) ≡ place + n = omega arith in
    subst (λ (ms : List Msg). msgs_in (suc fuel) before place (range (changed b before k v x) place n) ≡ Ok (map (renumbered kind x.at k v) ms)) (sym e)
    (elim (subst (λ (ms : List Msg). IsAmong x ms) e among) [
      | inl same ↦ renumber_here b before kind k v fuel place n x rest is fits long ends low same (subst (λ (n : ℕ). AllFrom before (place + next) n rest) end lies) h
      | inr a ↦
          let l = lies x a in
          renumber_other b before kind k v fuel place n x rest is fits long ends low l.from (behind (place + next) (n - next) rest (omega arith) h a)
    ])

-- the messages with the number written over 8 bytes of one of them
pub renumber : (b : List ℕ) (before kind k v fuel place n : ℕ) (x : Msg) (ms : List Msg) → IsPlace b before kind k x → place + n ≤ length b
    → msgs_in fuel before place (range b place n) ≡ Ok ms → IsAmong x ms → msgs_in fuel before place (range (changed b before k v x) place n) ≡ Ok (map (renumbered kind x.at k v) ms)
renumber b before kind k v zero place n x ms is fits h among =
    absurd (subst (λ (ms : List Msg). IsAmong x ms) (same_messages ms [] (sym h ∙ no_fuel before place (range b place n))) among)
renumber b before kind k v (suc fuel) place n x ms is fits h among =
    renumber_step b before kind k v fuel place n x ms is fits (λ at m rest. renumber b before kind k v fuel at m x rest is) (stepped fuel before place (range b place n) ms h) among
