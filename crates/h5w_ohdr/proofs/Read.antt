-- What a decoder answers is what the definition says, unless memory ran out.
use Rattle.std.proofs.Common.{◌≡◌, ℕ, ◌-◌, Bool, ◌⊎◌, inl, inr, List, length, Result, Ok, Err, refl, ap, sym, ◌∙◌}
use Rattle.h5w_model.specs.Headers.{and_then, before_data, header_at, inside_of, messages_at, block_at, whole_block, inside_block, msgs_in, all_known}
use Rattle.h5w_model.specs.declared.message.Msg.{Msg}
use Rattle.h5w_model.specs.declared.message.Prefix.{Prefix}
use Rattle.h5w_model.specs.declared.refusal.HeaderError.{HeaderError}
use Rattle.h5w_model.specs.declared.refusal.HeaderError.TheVariants.{OutOfMemory}

-- the answer is what is said, or memory ran out
abbrev pub GivesMessages : Result (List Msg) HeaderError → Result (List Msg) HeaderError → Type 0
GivesMessages answer said = (answer ≡ said) ⊎ (answer ≡ Err OutOfMemory)

-- the list is checked where it is there, and its refusal goes on
pub gives_next : (list said : Result (List Msg) HeaderError) → GivesMessages list said → GivesMessages (and_then list all_known) (and_then said all_known)
gives_next list said (inl e) = inl (ap (λ r. and_then r all_known) e)
gives_next list said (inr e) = inr (ap (λ r. and_then r all_known) e)

gives_from : (answer list said whole : Result (List Msg) HeaderError) → list ≡ answer → whole ≡ said → GivesMessages list said → GivesMessages answer whole
gives_from answer list said whole a w (inl e) = inl (sym a ∙ e ∙ sym w)
gives_from answer list said whole a w (inr e) = inr (sym a ∙ e)

-- the answer of a call whose result is known
pub gives_by : (list said whole : Result (List Msg) HeaderError) (answer : Result (List Msg) HeaderError) → GivesMessages list said → and_then list all_known ≡ answer → whole ≡ and_then said all_known → GivesMessages answer whole
gives_by list said whole answer g a w = gives_from answer (and_then list all_known) (and_then said all_known) whole a w (gives_next list said g)

-- a header that is refused has no messages
pub refused_header : (b : List ℕ) (e : HeaderError) → header_at b ≡ Err e → messages_at b ≡ Err e
unfolding messages_at
refused_header b e h = rw h refl

-- the messages of a whole header, by the bytes that were cut off
pub messages_by : (b : List ℕ) (p : Prefix) (inside : List ℕ) (before : ℕ) → header_at b ≡ Ok p → inside ≡ inside_of b p → length inside ≡ p.len → before ≡ before_data p.tracked
    → messages_at b ≡ and_then (msgs_in (length inside) before p.at inside) all_known
unfolding messages_at
messages_by b p inside before h t n e = rw (h, n, t, e) refl

-- a block that is refused has no messages
pub refused_block : (tracked : Bool) (b : List ℕ) (e : HeaderError) → whole_block b ≡ Err e → block_at tracked b ≡ Err e
unfolding block_at
refused_block tracked b e h = rw h refl

-- the messages of a whole block, by the bytes that were cut off
pub block_by : (tracked : Bool) (b inside : List ℕ) (before : ℕ) → whole_block b ≡ Ok tt → inside ≡ inside_block b → length inside ≡ length b - 8 → before ≡ before_data tracked
    → block_at tracked b ≡ and_then (msgs_in (length inside) before 4 inside) all_known
unfolding block_at
block_by tracked b inside before h t n e = rw (h, n, t, e) refl
