-- A header that is read, seen from what stands before its messages.
use Rattle.std.proofs.Common.{◌≡◌, ℕ, ◌+◌, ◌≤◌, List, length, Result, Ok, Err, refl, ap, sym, subst, ◌∙◌, eqb}
use Rattle.std.specs.List.{find}
use Rattle.std.specs.Option.{option_map}
use Rattle.std.specs.Result.{IsOk}
use Rattle.h5w_model.specs.Headers.{end_of, inside_of, prefix_at, messages_at, msgs_in, before_data, header_flags, header_length, has, first_of, data_in_header}
use Rattle.h5w_model.specs.declared.message.Msg.{Msg}
use Rattle.h5w_model.specs.declared.message.Prefix.{Prefix}
use Rattle.h5w_model.specs.declared.refusal.HeaderError.{HeaderError}
use Rattle.h5w_model.proofs.HeaderLemmas.{messages_at-ok}

pub record IsReadBy (b : List ℕ) (p : Prefix) (ms : List Msg) : Type 0 where
  pub read : messages_at b ≡ Ok ms
  pub end : end_of p ≡ header_length b
  pub long : end_of p ≤ length b
  pub listed : msgs_in p.len (before_data p.tracked) p.at (inside_of b p) ≡ Ok ms
  pub tracked : before_data p.tracked ≡ before_data (has (header_flags b) 4)

ok_of : {A : Type 0} (r : Result A HeaderError) → IsOk r → (x : A) × (r ≡ Ok x)
ok_of (Ok x) h = (x, refl)
ok_of (Err e) h = absurd cc

same_ok : (p q : Prefix) → (let r : Result Prefix HeaderError = Ok p in r ≡ Ok q) → p ≡ q
same_ok p q e = cc

pub is_read : (b : List ℕ) (p : Prefix) → IsOk (messages_at b) → prefix_at b ≡ Ok p → (ms : List Msg) × IsReadBy b p ms
is_read b p ok e =
    let found = ok_of (messages_at b) ok in
    let h = messages_at-ok b found.0 found.1 in
    let same = same_ok h.0 p (sym h.1.whole.prefix ∙ e) in
    let IsListed = λ (q : Prefix). msgs_in q.len (before_data q.tracked) q.at (inside_of b q) ≡ Ok found.0 in
    let Ends = λ (q : Prefix). end_of q ≡ header_length b in
    let Fits = λ (q : Prefix). end_of q ≤ length b in (
      found.0,
      record {
        read = found.1;
        end = subst Ends same h.1.whole.end;
        long = subst Fits same h.1.whole.long;
        listed = subst IsListed same h.1.listed;
        tracked = ap (λ (q : Prefix). before_data q.tracked) (sym same ∙ h.1.whole.fields);
      },
    )

-- a header that is read has what stands before its messages
pub is_begun : (b : List ℕ) → IsOk (messages_at b) → (e : HeaderError) → prefix_at b ≡ Err e → ⊥
is_begun b ok e f =
    let found = ok_of (messages_at b) ok in
    let h = messages_at-ok b found.0 found.1 in
    let p = h.1.whole.prefix in
    cc

-- the walk is over the bytes that were cut off
pub listed_inside : (b : List ℕ) (p : Prefix) (ms : List Msg) (inside : List ℕ) (before : ℕ) → IsReadBy b p ms → inside ≡ inside_of b p → length inside ≡ p.len → before ≡ before_data p.tracked
    → msgs_in (length inside) before p.at inside ≡ Ok ms
listed_inside b p ms inside before h t n e = rw (n, t, e) h.listed

-- the first of the list is the first of the header
pub data_in_header-read : (b : List ℕ) (p : Prefix) (kind before : ℕ) (ms : List Msg) → IsReadBy b p ms → before ≡ before_data p.tracked
    → option_map {U = ℕ × List ℕ} (λ m. (m.at + before, m.body)) (find (λ m. eqb m.kind kind) ms) ≡ data_in_header kind b
unfolding data_in_header first_of
data_in_header-read b p kind before ms h t = rw (t, h.tracked, first_of, h.read) refl
