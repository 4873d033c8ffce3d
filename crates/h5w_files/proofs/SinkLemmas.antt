-- What sinks were given, one text behind the other.
use Rattle.std.proofs.Common.{◌≡◌, ◌≤◌, ℕ, ◌+◌, List, [], ◌++◌, length, take, min, Option, Some, None, refl, sym, ap, ◌∙◌, subst, inl, inr, arith, append_assoc, append-nil}
use Rattle.std.specs.Prelude.{option_map}
use Rattle.std.proofs.Math.Seq.{take-append-add}
use Rattle.std.proofs.lemmas.List.{take-append-le, take_min}
use Rattle.h5w_text.specs.Says.{Said, failed, whole}
use Rattle.h5w_text.specs.Streams.{SinkView, Gave, GaveSome, Grows}
use Rattle.h5w_text.specs.declared.status.Status.{Status}
use Rattle.h5w_batches.proofs.InputLemmas.{rose_before}

grows_nothing : (o : Option (List ℕ)) → Grows [] o o
grows_nothing None = inl refl
grows_nothing (Some l) = inr (ap Some (sym (append-nil l)))

then_cases : (xs ys : List ℕ) (o : Option (List ℕ)) → option_map (λ front. front ++ ys) (option_map (λ front. front ++ xs) o) ≡ option_map (λ front. front ++ (xs ++ ys)) o
then_cases xs ys None = refl
then_cases xs ys (Some l) = ap Some (append_assoc l xs ys)

grows_both : (xs ys : List ℕ) (o p q : Option (List ℕ)) → Grows xs o p → Grows ys p q → Grows (xs ++ ys) o q
grows_both xs ys o p q g (inl none) = inl none
grows_both xs ys o p q (inl none) (inr e) = inl (e ∙ ap (option_map (λ front. front ++ ys)) none)
grows_both xs ys o p q (inr d) (inr e) = inr (e ∙ ap (option_map (λ front. front ++ ys)) d ∙ then_cases xs ys o)

pub gave_both : {k l m : SinkView} (xs ys : List ℕ) → Gave xs k l → Gave ys l m → Gave (xs ++ ys) k m
gave_both {k} {l} {m} xs ys p q = record {
  written = grows_both xs ys k.written l.written m.written p.written q.written;
  faults = omega arith;
  through = q.through ∙ p.through;
}

pub gave_nothing : (k : SinkView) → Gave [] k k
gave_nothing k = record { written = grows_nothing k.written; faults = omega arith; through = refl }

pub gave_then_some : {k l m : SinkView} (xs ys : List ℕ) → Gave xs k l → GaveSome ys l m → GaveSome (xs ++ ys) k m
gave_then_some {k} {l} {m} xs ys p q = (length xs + q.0, subst (λ (bytes : List ℕ). Gave bytes k m) (sym (take-append-add xs ys q.0)) (gave_both xs (take q.0 ys) p q.1))

-- some first part of a text is one of a longer text
pub gave_some_more : {k l : SinkView} (xs ys : List ℕ) → GaveSome xs k l → GaveSome (xs ++ ys) k l
gave_some_more {k} {l} xs ys g =
    let n : ℕ = min g.0 (length xs) in
    let low : n ≤ length xs = omega arith in
    (n, subst (λ (bytes : List ℕ). Gave bytes k l) (sym (take_min g.0 xs) ∙ sym (take-append-le n xs ys low)) g.1)

-- the text of a list that was empty
pub from_nothing : (bytes out old more : List ℕ) → bytes ≡ out → out ≡ old ++ more → old ≡ [] → bytes ≡ more
from_nothing bytes out old more same added none = same ∙ added ∙ ap (λ l. l ++ more) none

-- a last text behind another
pub said_behind : {k l m : SinkView} (text last : List ℕ) (status result : Status) → Gave text k l → Said last status result l m → Said (text ++ last) status result k m
said_behind text last status result g (whole e gave) = whole e (gave_both text last g gave)
said_behind {k} {l} {m} text last status result g (failed e rose some) = failed e (rose_before k.faults l.faults m.faults g.faults rose) (gave_then_some text last g some)
