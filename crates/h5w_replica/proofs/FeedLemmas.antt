-- Batches end to end, and what a feed keeps as they go into the ring.
use Rattle.std.proofs.Common.{◌≡◌, ◌⊎◌, ℕ, ◌+◌, ◌-◌, ◌≤◌, List, [], ◌∷◌, ◌++◌, length, Some, None, Ok, Err, sym, refl, ap, ◌∙◌, subst, arith, append_assoc, append-nil, length-append, inl, inr}
use Rattle.std.specs.Prelude.{IfSome, OnOk, Option, Result}
use Rattle.std.proofs.lemmas.List.{drop_at}
use Rattle.std.proofs.lemmas.List.Elements.{All-drop, All-push}
use Rattle.h5w_model.specs.declared.piece.Write.{Write}
use Rattle.h5w_shared.specs.Seats.{ImageId, SeatView}
use Rattle.h5w_replica.specs.Batches.{AreShort, BatchView, GoesOn, IsPartOf, Leads, batches_in, end_to_end, pieces_back}
use Rattle.h5w_replica.specs.Feeds.{FeedView, HasTaken, IsFeed, fed_seat, with_piece}

-- one batch more
end_more : (bs : List BatchView) (x : BatchView) → end_to_end (bs ++ x ∷ []) ≡ end_to_end bs ++ x.portion.pieces
end_more [] x = append-nil x.portion.pieces
end_more (b ∷ bs) x = ap (λ (l : List Write). b.portion.pieces ++ l) (end_more bs x) ∙ sym (append_assoc b.portion.pieces (end_to_end bs) x.portion.pieces)

-- the batches among more items
behind : (image : ImageId) (items more : List BatchView) → Leads image items → batches_in (items ++ more) ≡ batches_in items ++ more
behind image items more l = ap (λ (is : List BatchView). batches_in (is ++ more)) l.items_are

-- more items stay led
pub leads_more : (image : ImageId) (items more : List BatchView) → Leads image items → Leads image (items ++ more)
leads_more image items more l = record {
  greeting = l.greeting;
  items_are = ap (λ (is : List BatchView). is ++ more) l.items_are ∙ ap (λ (bs : List BatchView). l.greeting ∷ bs) (sym (behind image items more l));
  image_is = l.image_is;
}

-- ---- A batch that was offered

-- the ring took the batch, or gave it back
abbrev pub Offered : List BatchView → List BatchView → Option BatchView → BatchView → ℕ → ℕ → Type 0
Offered items items' back x n n' = ((back ≡ None) × (items' ≡ items ++ x ∷ []) × (n ≤ n' + 1)) ⊎ ((back ≡ Some x) × (items' ≡ items) × (n ≡ 0))

pub offered : (items items' : List BatchView) (back : Option BatchView) (x : BatchView) (n n' : ℕ)
    → (back ≡ None → (items' ≡ items ++ x ∷ []) × (n ≤ n' + 1)) → IfSome back (λ b. (b ≡ x) × (items' ≡ items) × ((n ≡ 0) × (n' ≡ 0))) → Offered items items' back x n n'
offered items items' None x n n' taken given = inl (refl, (taken refl).0, (taken refl).1)
offered items items' (Some b) x n n' taken given = inr (ap Some given.0, given.1, given.2.0)

module _ (image : ImageId) (items items' : List BatchView) (back : Option BatchView) (x : BatchView) (n n' : ℕ) (leads : Leads image items) where
  offered_leads : Offered items items' back x n n' → Leads image items'
  offered_leads (inl t) = subst (λ (is : List BatchView). Leads image is) (sym t.1) (leads_more image items (x ∷ []) leads)
  offered_leads (inr g) = subst (λ (is : List BatchView). Leads image is) (sym g.1) leads

  offered_whole : Offered items items' back x n n' → end_to_end (batches_in items') ++ pieces_back back ≡ end_to_end (batches_in items) ++ x.portion.pieces
  offered_whole (inl t) =
      ap (λ (o : Option BatchView). end_to_end (batches_in items') ++ pieces_back o) t.0
      ∙ (append-nil (end_to_end (batches_in items'))
      ∙ (ap (λ (is : List BatchView). end_to_end (batches_in is)) t.1 ∙ (ap end_to_end (behind image items (x ∷ []) leads) ∙ end_more (batches_in items) x)))
  offered_whole (inr g) = ap (λ (o : Option BatchView). end_to_end (batches_in items') ++ pieces_back o) g.0 ∙ ap (λ (is : List BatchView). end_to_end (batches_in is) ++ x.portion.pieces) g.1

  offered_follows : Offered items items' back x n n' → GoesOn image (end_to_end (batches_in items)) x → IfSome back (λ b. GoesOn image (end_to_end (batches_in items')) b)
  offered_follows (inl t) f = subst (λ (o : Option BatchView). IfSome o (λ b. GoesOn image (end_to_end (batches_in items')) b)) (sym t.0) tt
  offered_follows (inr g) f =
      subst (λ (o : Option BatchView). IfSome o (λ b. GoesOn image (end_to_end (batches_in items')) b)) (sym g.0)
      (subst (λ (is : List BatchView). GoesOn image (end_to_end (batches_in is)) x) (sym g.1) f)

  -- in words of what contracts see before and after
  pub has_taken : Offered items items' back x n n' → (f g : FeedView) → batches_in items ≡ f.took → n ≡ f.free → g.took ≡ batches_in items' → g.free ≡ n' → HasTaken f g
  has_taken (inl t) f g old free new free' = record {
    taken = x ∷ [];
    took = new ∙ (ap batches_in t.1 ∙ (behind image items (x ∷ []) leads ∙ ap (λ (bs : List BatchView). bs ++ x ∷ []) old));
    free = omega (arith, t.2, free, free');
  }
  has_taken (inr t) f g old free new free' = record {
    taken = [];
    took = new ∙ (ap batches_in t.1 ∙ (old ∙ sym (append-nil f.took)));
    free = omega (arith, t.2, free);
  }

-- what the ring gave back went in again, or came back again
pub resent : (seat : SeatView) (items items' : List BatchView) (old back : Option BatchView) (x : BatchView) (n n' : ℕ) (unsent : List Write) → IsFeed seat items old unsent → old ≡ Some x → Offered items items' back x n n' → IsFeed seat items' back unsent
resent seat items items' old back x n n' unsent h was o = record {
  leads = offered_leads seat.image items items' back x n n' h.leads o;
  list = h.list ∙ ap (λ (l : List Write). l ++ unsent)
      (ap (λ (b : Option BatchView). end_to_end (batches_in items) ++ pieces_back b) was ∙ sym (offered_whole seat.image items items' back x n n' h.leads o));
  follows = offered_follows seat.image items items' back x n n' h.leads o (subst (λ (p : Option BatchView). IfSome p (λ b. GoesOn seat.image (end_to_end (batches_in items)) b)) was h.follows);
  short = h.short;
}

-- the list of a feed to which the ring gave nothing back
pub nothing_back : (seat : SeatView) (items : List BatchView) (back : Option BatchView) (unsent : List Write) → IsFeed seat items back unsent → back ≡ None → seat.seen ≡ end_to_end (batches_in items) ++ unsent
nothing_back seat items back unsent h none =
    h.list ∙ ap (λ (l : List Write). l ++ unsent) (ap (λ (o : Option BatchView). end_to_end (batches_in items) ++ pieces_back o) none ∙ append-nil (end_to_end (batches_in items)))

-- all that was not sent went in as one batch, or is kept as one
pub sent_all : (seat : SeatView) (items items' : List BatchView) (old back : Option BatchView) (x : BatchView) (n n' : ℕ) (unsent left : List Write) → IsFeed seat items old unsent → old ≡ None → left ≡ [] → x.portion.pieces ≡ unsent
    → GoesOn seat.image (end_to_end (batches_in items)) x → Offered items items' back x n n' → IsFeed seat items' back left
sent_all seat items items' old back x n n' unsent left h none empty all goes o = record {
  leads = offered_leads seat.image items items' back x n n' h.leads o;
  list =
      nothing_back seat items old unsent h none
      ∙ (ap (λ (l : List Write). end_to_end (batches_in items) ++ l) (sym all)
      ∙ (sym (offered_whole seat.image items items' back x n n' h.leads o)
      ∙ (sym (append-nil (end_to_end (batches_in items') ++ pieces_back back))
      ∙ ap (λ (l : List Write). (end_to_end (batches_in items') ++ pieces_back back) ++ l) (sym empty))));
  follows = offered_follows seat.image items items' back x n n' h.leads o goes;
  short = h.short;
}

-- a batch of all that was not sent is behind those that went in
pub goes : (seat : SeatView) (items : List BatchView) (back : Option BatchView) (x : BatchView) (unsent : List Write) (n m : ℕ) → IsFeed seat items back unsent → back ≡ None → n ≡ length seat.seen → m ≡ length unsent
    → x.portion.first ≡ n - m → x.portion.pieces ≡ unsent → x.note.image ≡ seat.image → 1 ≤ length unsent → GoesOn seat.image (end_to_end (batches_in items)) x
goes seat items back x unsent n m h none seen count first all image some =
    let whole = ap length (nothing_back seat items back unsent h none) in
    let both = length-append (end_to_end (batches_in items)) unsent in record {
      image_is = image;
      first_is = omega (arith, whole, both, seen, count, first);
      some = omega (arith, some, ap length all);
    }

-- pieces at the end of a list of short ones are short
pub short_behind : (xs ys zs : List Write) → zs ≡ xs ++ ys → AreShort zs → AreShort ys
short_behind xs ys zs is h = subst AreShort (drop_at xs ys (length xs) refl) (All-drop (λ (w : Write). length w.piece ≤ 512) (length xs) (xs ++ ys) (subst AreShort is h))

-- the last pieces of a list are a part of it
pub last_part : (xs ys seen pieces : List Write) (n m : ℕ) → seen ≡ xs ++ ys → pieces ≡ ys → n ≡ length (xs ++ ys) → m ≡ length ys → IsPartOf seen (record { first = n - m; pieces = pieces })
last_part xs ys seen pieces n m is all whole count = record {
  before = xs;
  after = [];
  seen_is = is ∙ ap (λ (l : List Write). xs ++ l) (sym all ∙ sym (append-nil pieces));
  first_is = omega (arith, whole, count, length-append xs ys);
}

-- ---- Pieces

-- one more piece was written, which is not sent
pub fed_more : (seat seat' : SeatView) (items : List BatchView) (back : Option BatchView) (unsent : List Write) (w : Write) → IsFeed seat items back unsent → seat'.image ≡ seat.image → seat'.seen ≡ seat.seen ++ w ∷ [] → length w.piece ≤ 512
    → IsFeed seat' items back (unsent ++ w ∷ [])
fed_more seat seat' items back unsent w h image seen short = record {
  leads = subst (λ (i : ImageId). Leads i items) (sym image) h.leads;
  list = seen ∙ (ap (λ (l : List Write). l ++ w ∷ []) h.list ∙ append_assoc (end_to_end (batches_in items) ++ pieces_back back) unsent (w ∷ []));
  follows = subst (λ (i : ImageId). IfSome back (λ b. GoesOn i (end_to_end (batches_in items)) b)) (sym image) h.follows;
  short = subst AreShort (sym seen) (All-push (λ (v : Write). length v.piece ≤ 512) seat.seen w h.short short);
}

-- the seat as it is seen through the feed
pub seat_with_piece : {A E : Type 0} (r : Result A E) (w : Write) (f g : FeedView) → OnOk r (g ≡ with_piece w f) → OnOk r (fed_seat g ≡ record (fed_seat f) { seen = (fed_seat f).seen ++ w ∷ []; pieces = (fed_seat f).pieces - 1 })
seat_with_piece (Ok x) w f g is = ap fed_seat is
seat_with_piece (Err e) w f g is = tt

-- ---- What goes in in order

-- batches that were taken in two calls
pub taken_both : (f m g : FeedView) → HasTaken f m → HasTaken m g → HasTaken f g
taken_both f m g h k = record {
  taken = h.taken ++ k.taken;
  took = k.took ∙ (ap (λ (l : List BatchView). l ++ k.taken) h.took ∙ append_assoc f.took h.taken k.taken);
  free = omega (arith, h.free, k.free, length-append h.taken k.taken);
}
