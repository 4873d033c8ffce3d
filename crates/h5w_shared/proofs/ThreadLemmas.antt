-- What calls through seats come to.
use Rattle.std.proofs.Common.{◌≡◌, ℕ, List, [], ◌∷◌, ◌++◌, length, sym, refl, ap, ◌∙◌, subst, arith}
use Rattle.std.specs.Prelude.{take}
use Rattle.std.proofs.lemmas.List.{append-nil}
use Rattle.h5w_model.specs.declared.piece.Write.{Write}
use Rattle.h5w_model.specs.Images.{image}
use Rattle.h5w_model.specs.Logs.{Log, hist}
use Rattle.h5w_model.specs.Prefixed.{image_at}
use Rattle.h5w_model.specs.Programs.{IsLookAt}
use Rattle.h5w_shared.specs.Turns.{StartsWith}
use Rattle.h5w_shared.specs.Seats.{ImageId, SeatView, numbers_of}
use Rattle.h5w_shared.specs.Threads.{ReadersCall, Sight, Sights, ThroughSeats, WritersLog, seen_after}
use Rattle.h5w_shared.proofs.Beginnings.{starts_both, starts_itself, starts_length}

take_front : (xs ys : List Write) → take (length xs) (xs ++ ys) ≡ xs
take_front [] [] = refl
take_front [] (y ∷ ys) = refl
take_front (x ∷ xs) ys = ap (λ (l : List Write). x ∷ l) (take_front xs ys)

-- the image of a log after pieces that begin its own
image_there : (log : Log) (seen : List Write) → StartsWith (hist log.events) seen → image_at log (length seen) ≡ image log.start seen
image_there log seen p = ap (λ (l : List Write). image log.start l) (ap (λ (l : List Write). take (length seen) l) p.1 ∙ take_front seen p.0)

pub after_starts : (start : List ℕ) (from : List Write) (sights : List Sight) → Sights start from sights → StartsWith (seen_after from sights) from
after_starts start from [] s = starts_itself from
after_starts start from (s ∷ ss) p = starts_both (seen_after s.seen ss) s.seen from (after_starts start s.seen ss p.2) p.0

pub readers_call : ReadersCall
readers_call log from [] p ends = tt
readers_call log from (s ∷ ss) p ends =
    let within = starts_both (hist log.events) (seen_after s.seen ss) s.seen ends (after_starts log.start s.seen ss p.2) in (
      starts_length s.seen from p.0,
      starts_length (hist log.events) s.seen within,
      subst (λ (img : List ℕ). IsLookAt img s.look) (sym (image_there log s.seen within)) p.1,
      readers_call log s.seen ss p.2 ends,
    )

pub writers_log : WritersLog
writers_log = record {
  appended = λ s log is vs. record { start = is.start; pieces = is.pieces };
  planned = λ s log is k. record { start = is.start; pieces = is.pieces };
  shown = λ s t log w is same seen. record { start = is.start ∙ ap (λ (i : ImageId). i.start) (sym same); pieces = ap (λ (l : List Write). l ++ w ∷ []) is.pieces ∙ sym seen };
  image = λ s log is. image_there log s.seen ([], is.pieces ∙ sym (append-nil s.seen)) ∙ ap (λ (b : List ℕ). image b s.seen) is.start;
  begins = λ s log seen is p. (p.0, is.pieces ∙ p.1);
}

-- two lists that begin with lists of one length
split_same : (a b c d : List ℕ) → length a ≡ length b → a ++ c ≡ b ++ d → (a ≡ b) × (c ≡ d)
split_same [] [] c d n e = (refl, e)
split_same [] (y ∷ b) c d n e = absurd (omega arith)
split_same (x ∷ a) [] c d n e = absurd (omega arith)
split_same (x ∷ a) (y ∷ b) c d n e =
    let rest = split_same a b c d (omega arith) (cc e) in
    let head : x ≡ y = cc e in ((λ i. head i ∷ rest.0 i), rest.1)

-- the numbers of an image tell which it is
pub same_image : (i j : ImageId) → numbers_of i ≡ numbers_of j → i ≡ j
same_image i j e =
    let rest : i.table.slot_names ++ i.start ≡ j.table.slot_names ++ j.start = cc e in
    let count : length i.table.slot_names ≡ length j.table.slot_names = cc e in
    let lists = split_same i.table.slot_names j.table.slot_names i.start j.start count rest in
    let words : i.table.words ≡ j.table.words = cc e in
    let slots : i.table.slots ≡ j.table.slots = cc e in
    let views : i.table.views_name ≡ j.table.views_name = cc e in
    let atom : i.table.atom ≡ j.table.atom = cc e in
    let block : i.table.block ≡ j.table.block = cc e in
    let offset : i.table.offset ≡ j.table.offset = cc e in
    λ k. record {
      table = record { words = words k; slots = slots k; views_name = views k; atom = atom k; block = block k; offset = offset k; slot_names = lists.0 k };
      start = lists.1 k;
    }

same_through : (m n : ℕ) (s t : SeatView) → n ∷ numbers_of t.image ≡ m ∷ numbers_of s.image → (n ≡ m) × (t.image ≡ s.image)
same_through m n s t e = (cc e, same_image t.image s.image (cc e))

pub through_seats : ThroughSeats
through_seats = record {
  same = λ alone m n s t p. ((same_through m n s t p.through).0, (same_through m n s t p.through).1, cc (p.history));
  wrote = λ m n ws s t p. ((same_through m n s t p.through).0, (same_through m n s t p.through).1, cc (p.history));
  looked = λ m n s t p. ((same_through m n s t p.through).0, (same_through m n s t p.through).1, (p.grown.0, cc (p.grown.2)));
}
