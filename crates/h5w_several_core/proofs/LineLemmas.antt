-- A line of a reader, by what is made of its place.
use Rattle.std.proofs.Common.{◌≡◌, ◌⊎◌, ℕ, ◌<◌, ◌≤◌, ◌^◌, List, [], length, Option, Some, None, refl, sym, ap, subst, ◌∙◌, inl, inr, arith}
use Rattle.std.specs.Prelude.{IsSome, slice_get}
use Rattle.h5w_model.specs.Numbers.{range}
use Rattle.h5w_model.specs.Images.{image}
use Rattle.h5w_model.specs.Logs.{Log, hist}
use Rattle.h5w_model.specs.Several.{log_of, pieces_in}
use Rattle.h5w_model.specs.Unfinished.{Unfinished, Reader, fed_left, next_look_of}
use Rattle.h5w_model.specs.Lawful.{Line, ReaderState, looks, opens, reader_in, reads, refreshes}
use Rattle.h5w_model.specs.declared.piece.Write.{Write}
use Rattle.h5w_model.specs.declared.reply.Reply.{Reply}
use Rattle.h5w_model.specs.declared.reply.Reply.TheVariants as replies
use Rattle.h5w_script_laws.specs.Laws.{after_look, opening, reading, refreshing, reply_to}
use Rattle.h5w_script_laws.specs.Polling.{MayPoll, Polling, Wants}
use Rattle.h5w_script_laws.specs.Scripts.{looked_now}
use Rattle.h5w_script_laws.proofs.LookLemmas.{look_laws}
use Rattle.h5w_reader.specs.Readers.{reader_rules}
use Rattle.h5w_writer.specs.Sessions.{Session}
use Rattle.h5w_several_laws.proofs.SeenLemmas.{seen_laws}
use Rattle.h5w_several_writer_laws.specs.Sessions.{Sessions}
use Rattle.h5w_several_writer_laws.proofs.GiveLemmas.{standing_all}
use Rattle.h5w_several_script_laws.specs.Scripts.{FileState, asks, says}
use Rattle.h5w_several_script_laws.specs.Polled.{Places, and_place, readers_of}
use Rattle.h5w_several_script_laws.proofs.PolledLemmas.{placed_here, set_there}
use Rattle.h5w_several_world_laws.specs.Worlds.{HaveOneFileLog, polling_in}
use Rattle.h5w_several_world_laws.specs.ReaderSteps.{ReaderSteps}
use Rattle.h5w_several_world_laws.proofs.ReaderLemmas.{all_reader_steps}
use Rattle.h5w_several_world_laws.proofs.StepLemmas.{begun_there, part_there, states_length}
use Rattle.h5w_core.specs.Readers.{CallReplies, LookGives, LookReplies, LooksTo, ReadBegins, ReadGives, ReadLooks, ReadsNothing, ReadsPast, ReadsTo, RefreshGives, RefreshesTo, looked}
use Rattle.h5w_several_core.specs.Places.{SeatOpens, seat_of}
use Rattle.h5w_several_core.proofs.MachineLemmas.{StepsOn}
use Rattle.h5w_several_core.proofs.SeatLemmas.{same_seat, with_seat}

module _ (S : Sessions) (attempts : ℕ) (ps : Places) (F : FileState) (h : HaveOneFileLog S attempts ps F) (small : S.places.limit ≤ 2 ^ 40) (tries : 1 ≤ attempts) (n : ℕ) where
  abbrev law : ReaderSteps S attempts ps F h n
  law = all_reader_steps S attempts ps F h small tries n

  -- a step over the log that was
  abbrev On : Places → Line → Reply → Type 0
  On qs line reply = StepsOn attempts qs F (asks line) (says reply) S h.log

  given : (qs : Places) (line : Line) (reply other : Reply) → reply ≡ other → On qs line other → On qs line reply
  given qs line reply other is s = subst (λ (x : Reply). On qs line x) (sym is) s

  refuse : (line : Line) (reply : Reply) (old new : Option (ℕ × Reader)) → ps n ≡ old → new ≡ old → On ps line reply → On (with_seat n new ps) line reply
  refuse line reply old new there same s = subst (λ (qs : Places). On qs line reply) (sym (same_seat n new ps (there ∙ sym same))) s

  move : (line : Line) (reply : Reply) (new : Option (ℕ × Reader)) (d : ℕ) (r : Reader) → new ≡ Some (d, r) → On (and_place n d r ps) line reply → On (with_seat n new ps) line reply
  move line reply new d r is s = subst (λ (o : Option (ℕ × Reader)). On (with_seat n o ps) line reply) (sym is) s

  -- ---- Open

  module _ (d : ℕ) (used : F.used ≡ d) (part : Session) (at : slice_get S.parts d ≡ Some part) where
    polled_for : h.state.pollings F.used ≡ polling_in S.places.limit attempts part
    polled_for =
        let sets = standing_all.sets S h.log h.stands in
        let here : slice_get S.parts F.used ≡ Some part = ap (slice_get S.parts) used ∙ at in
        let inside = h.state.polls.used in
        let count = states_length S.places.limit attempts 0 S.parts F.sets h.state.states in
        let b = begun_there h.log.sets F.used (omega (arith, sets, inside, count)) in
        (h.state.own F.used b.0 part b.1 here).0

    pub open_on : (old new : Option (ℕ × Reader)) (reply : Reply) → ps n ≡ old → SeatOpens n d (reader_rules part.name attempts) old reply new → On (with_seat n new ps) (opens n) reply
    open_on None new reply there gives =
        let s = law.opens_one there in
        let seat : Some (F.used, opening (h.state.pollings F.used)) ≡ Some (d, opening (polling_in S.places.limit attempts part)) = λ i. Some (used i, opening (polled_for i)) in
        given (with_seat n new ps) (opens n) reply (replies.Opening n) gives.0
        (move (opens n) (replies.Opening n) new F.used (opening (h.state.pollings F.used)) (gives.1 ∙ sym seat) (record { allowed = s.allowed; fits = s.fits; log_is = refl }))
    open_on (Some p) new reply there gives =
        let s = law.opens_again p.0 p.1 there in
        given (with_seat n new ps) (opens n) reply (replies.ReaderExists n) gives.0
        (refuse (opens n) (replies.ReaderExists n) (Some p) new there gives.1 (record { allowed = s.allowed; fits = s.fits; log_is = refl }))

  module _ (d : ℕ) where
    -- ---- Refresh

    refresh_to : (r : Reader) (left : Option Unfinished) (new : Option Reader) (reply : Reply) → r.left ≡ left → ps n ≡ Some (d, r) → RefreshesTo n r left reply new → On (with_seat n (seat_of d new) ps) (refreshes n) reply
    refresh_to r None new reply is there gives =
        let s = law.refreshes_one d r there is in
        given (with_seat n (seat_of d new) ps) (refreshes n) reply (replies.Refreshing n) gives.0
        (move (refreshes n) (replies.Refreshing n) (seat_of d new) d (refreshing r) (ap (seat_of d) gives.1) (record { allowed = s.allowed; fits = s.fits; log_is = refl }))
    refresh_to r (Some left) new reply is there gives =
        let s = law.refreshes_busy d r left there is in
        given (with_seat n (seat_of d new) ps) (refreshes n) reply (replies.ReaderBusy n) gives.0
        (refuse (refreshes n) (replies.ReaderBusy n) (Some (d, r)) (seat_of d new) there (ap (seat_of d) gives.1) (record { allowed = s.allowed; fits = s.fits; log_is = refl }))

    pub refresh_on : (old new : Option Reader) (reply : Reply) → ps n ≡ seat_of d old → RefreshGives n old reply new → On (with_seat n (seat_of d new) ps) (refreshes n) reply
    refresh_on None new reply there gives =
        let s = law.refreshes_none there in
        given (with_seat n (seat_of d new) ps) (refreshes n) reply (replies.NoReader n) gives.0
        (refuse (refreshes n) (replies.NoReader n) None (seat_of d new) there (ap (seat_of d) gives.1) (record { allowed = s.allowed; fits = s.fits; log_is = refl }))
    refresh_on (Some r) new reply there gives = refresh_to r r.left new reply refl there gives

    -- ---- Read

    module _ (from count : ℕ) where
      reads_on : (r : Reader) (new : Option Reader) (reply : Reply) → r.left ≡ None → ps n ≡ Some (d, r)
          → ReadsPast n from count r reply new ⊎ (ReadsNothing n from count r reply new ⊎ ReadBegins n from count r reply new) → On (with_seat n (seat_of d new) ps) (reads n from count) reply
      reads_on r new reply is there (inl x) =
          let s = law.reads_past d r from count there is x.past in
          given (with_seat n (seat_of d new) ps) (reads n from count) reply _ x.is
          (refuse (reads n from count) _ (Some (d, r)) (seat_of d new) there (ap (seat_of d) x.same) (record { allowed = s.allowed; fits = s.fits; log_is = refl }))
      reads_on r new reply is there (inr (inl x)) =
          let s = law.reads_nothing d r from there is x.inside in
          given (with_seat n (seat_of d new) ps) (reads n from count) reply _ x.is
          (refuse (reads n from count) _ (Some (d, r)) (seat_of d new) there (ap (seat_of d) x.same)
          (subst (λ (c : ℕ). On ps (reads n from c) (replies.Values n [])) (sym x.none) (record { allowed = s.allowed; fits = s.fits; log_is = refl })))
      reads_on r new reply is there (inr (inr x)) =
          let s = law.reads_some d r x.what from count there is x.known x.some x.inside in
          given (with_seat n (seat_of d new) ps) (reads n from count) reply _ x.is
          (move (reads n from count) (replies.Reading n) (seat_of d new) d (reading r x.what from count) (ap (seat_of d) x.begun) (record { allowed = s.allowed; fits = s.fits; log_is = refl }))

      read_to : (r : Reader) (left : Option Unfinished) (new : Option Reader) (reply : Reply) → r.left ≡ left → ps n ≡ Some (d, r) → ReadsTo n from count r left reply new → On (with_seat n (seat_of d new) ps) (reads n from count) reply
      read_to r None new reply is there gives = reads_on r new reply is there gives
      read_to r (Some left) new reply is there gives =
          let s = law.reads_busy d r left from count there is in
          given (with_seat n (seat_of d new) ps) (reads n from count) reply (replies.ReaderBusy n) gives.0
          (refuse (reads n from count) (replies.ReaderBusy n) (Some (d, r)) (seat_of d new) there (ap (seat_of d) gives.1) (record { allowed = s.allowed; fits = s.fits; log_is = refl }))

      pub read_on : (old new : Option Reader) (reply : Reply) → ps n ≡ seat_of d old → ReadGives n from count old reply new → On (with_seat n (seat_of d new) ps) (reads n from count) reply
      read_on None new reply there gives =
          let s = law.reads_none from count there in
          given (with_seat n (seat_of d new) ps) (reads n from count) reply (replies.NoReader n) gives.0
          (refuse (reads n from count) (replies.NoReader n) None (seat_of d new) there (ap (seat_of d) gives.1) (record { allowed = s.allowed; fits = s.fits; log_is = refl }))
      read_on (Some r) new reply there gives = read_to r r.left new reply refl there gives

      -- a read of rows that were seen needs a look
      pub read_looks : (old : Option Reader) → ps n ≡ seat_of d old → ReadLooks from count old
      read_looks None there = tt
      read_looks (Some r) there = λ what left known some inside.
          let w = law.reads_want d r what from count there left known some inside in
          subst (λ (o : Option (ℕ × ℕ)). IsSome o) (sym w.is) refl

    -- ---- Look

    module _ (b : List ℕ) (start : h.log.start ≡ []) (bytes : b ≡ image [] (pieces_in h.log.events)) where
      inside_of : (r : Reader) → ps n ≡ Some (d, r) → d < length F.sets
      inside_of r there = h.state.polls.within n (d, r) there

      -- the image's bytes are those of the last image of what the dataset sees
      bytes_are : (r : Reader) → ps n ≡ Some (d, r) → b ≡ image (h.state.logs d).start (hist (h.state.logs d).events)
      bytes_are r there =
          let inside = inside_of r there in
          let count = states_length S.places.limit attempts 0 S.parts F.sets h.state.states in
          let sets = standing_all.sets S h.log h.stands in
          let s = part_there S.parts d (omega (arith, inside, count)) in
          let g = begun_there h.log.sets d (omega (arith, inside, count, sets)) in
          let own : h.state.logs d ≡ log_of d g.0 h.log = (h.state.own d g.0 s.0 g.1 s.1).1 in
          bytes ∙ ap (λ (a : List ℕ). image a (pieces_in h.log.events)) (sym start)
          ∙ ap (λ (ws : List Write). image h.log.start ws) (sym (seen_laws.pieces d h.log.events))
          ∙ ap (λ (l : Log). image l.start (hist l.events)) (sym own)

      left_wants : (g : Polling) (log : Log) (o : Option Reader) (x : Option ReaderState) (r : Reader) (left : Unfinished) → o ≡ Some r → r.left ≡ Some left → MayPoll g log x o → Wants (Some left)
      left_wants g log None None r left there is polls = absurd (cc)
      left_wants g log None (Some x) r left there is polls = absurd polls
      left_wants g log (Some y) None r left there is polls = absurd polls
      left_wants g log (Some y) (Some x) r left there is polls =
          look_laws.wants g log x y left polls (ap (λ (o : Option Reader). elim o as (λ _. Option Unfinished) [ None ↦ None | Some z ↦ z.left ]) there ∙ is)

      wants_look : (r : Reader) (left : Unfinished) → r.left ≡ Some left → ps n ≡ Some (d, r) → Wants (Some left)
      wants_look r left is there =
          let x = set_there F.sets d (inside_of r there) in
          left_wants (h.state.pollings d) (h.state.logs d) (readers_of d ps n) (reader_in n x.0.state.readers) r left (placed_here d r ps n there) is ((h.state.polls.each d x.0 x.1).polled.all n)

      looked_is_now : (r : Reader) (left : Unfinished) (place len : ℕ) → ps n ≡ Some (d, r) → next_look_of left ≡ Some (place, len) → looked b left ≡ looked_now (h.state.logs d) place len left
      looked_is_now r left place len there wants =
          ap (λ (o : Option (ℕ × ℕ)). elim o as (λ _. Unfinished) [ None ↦ left | Some x ↦ fed_left (range b x.0 x.1) left ]) wants
          ∙ ap (λ (a : List ℕ). fed_left (range a place len) left) (bytes_are r there)

      look_to : (r : Reader) (left : Option Unfinished) (new : Option Reader) (reply : Reply) → r.left ≡ left → ps n ≡ Some (d, r) → LooksTo n b r left reply new → On (with_seat n (seat_of d new) ps) (looks n 1) reply
      look_to r None new reply is there gives =
          let s = law.looks_idle d r there is in
          given (with_seat n (seat_of d new) ps) (looks n 1) reply (replies.Idle n) gives.0
          (refuse (looks n 1) (replies.Idle n) (Some (d, r)) (seat_of d new) there (ap (seat_of d) gives.1) (record { allowed = s.allowed; fits = s.fits; log_is = refl }))
      look_to r (Some left) new reply is there gives =
          let w = wants_look r left is there in
          let now_is = looked_is_now r left w.place w.len there w.is in
          let s = law.looks_on d w.place w.len r left reply there is w.is (ap (reply_to n) (sym now_is) ∙ gives.is) in
          move (looks n 1) reply (seat_of d new) d (after_look r (looked_now (h.state.logs d) w.place w.len left)) (ap (seat_of d) gives.new_is ∙ ap (λ (u : Unfinished). Some (d, after_look r u)) now_is)
          (record { allowed = s.allowed; fits = s.fits; log_is = refl })

      pub look_on : (old new : Option Reader) (reply : Reply) → ps n ≡ seat_of d old → LookGives n b old reply new → On (with_seat n (seat_of d new) ps) (looks n 1) reply
      look_on None new reply there gives =
          let s = law.looks_none there in
          given (with_seat n (seat_of d new) ps) (looks n 1) reply (replies.NoReader n) gives.0
          (refuse (looks n 1) (replies.NoReader n) None (seat_of d new) there (ap (seat_of d) gives.1) (record { allowed = s.allowed; fits = s.fits; log_is = refl }))
      look_on (Some r) new reply there gives = look_to r r.left new reply refl there gives

      replies_by : (r : Reader) (left : Option Unfinished) → r.left ≡ left → ps n ≡ Some (d, r) → CallReplies n b left
      replies_by r None is there = tt
      replies_by r (Some left) is there =
          let w = wants_look r left is there in
          let reply = law.replies_one d w.place w.len r left there is w.is in
          subst (λ (o : Option Reply). IsSome o) (sym (ap (reply_to n) (looked_is_now r left w.place w.len there w.is) ∙ reply.1)) refl

      pub look_replies : (old : Option Reader) → ps n ≡ seat_of d old → LookReplies n b old
      look_replies None there = tt
      look_replies (Some r) there = replies_by r r.left refl there
