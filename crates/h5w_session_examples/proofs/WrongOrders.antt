-- Pieces in a wrong order.
use Rattle.std.proofs.Common.{◌≡◌, ℕ, ◌+◌, ◌/◌, ◌%◌, ◌<◌, ◌≤◌, List, [], ◌∷◌, ◌++◌, length, Option, Some, Result, Ok, Err, pos, ℤ, refl, sym, ◌∙◌, ap, subst, inl, inr, arith, lit≤}
use Rattle.std.specs.Prelude.{slice_get}
use Rattle.h5w_model.specs.Arrays.{numbers_in}
use Rattle.h5w_model.specs.Checksum.{mix_line, mixed, finish_line, finished, added, rounds, sum_of}
use Rattle.h5w_model.specs.Headers.{prefix_at, msgs_in, header_at, messages_at, prefix_bytes, data_in_header, rows_in_header, index_in_header, rows_changed, header_view}
use Rattle.h5w_model.specs.Headers as headers
use Rattle.h5w_model.specs.Images.{apply, Apart, first_pieces, pieces}
use Rattle.h5w_model.specs.Integers.{value_at}
use Rattle.h5w_model.specs.Links.{links_at, find_link}
use Rattle.h5w_model.specs.Logs.{Log, appends, plans, shows, and_now}
use Rattle.h5w_model.specs.Messages.{shape_tests, shape_fields, shape_at, int_type_tests, int_type_fields, int_type_at, fill_tests, fill_fields, fill_at, fill_value_bytes, layout_fields, layout_at}
use Rattle.h5w_model.specs.Numbers.{num, le, halvings, width_of, undefined}
use Rattle.h5w_model.specs.Programs.{eval}
use Rattle.h5w_model.specs.Tables.{Reading, cell, table_of, needed_keys, format_limits}
use Rattle.h5w_model.specs.Findings.{Finding, found, Used, checked_dataset, index_visit, block_past_end}
use Rattle.h5w_model.specs.declared.piece.Write.{Write}
use Rattle.h5w_examples.specs.OneRowFiles.{six_of_ones}
use Rattle.h5w_examples.specs.Readings.{described_by, piece_of, data_name}
use Rattle.h5w_step_laws.specs.Ranges.{Among, block_at}
use Rattle.h5w_step_laws.specs.Moments.{Moment, reading_of, all_used}
use Rattle.h5w_step_laws.specs.Steps.{Step, unseen, ends, switches, commits, Commits, LiesIn, InChunk0}
use Rattle.h5w_step_laws.specs.Logs.{Goes, image_now}
use Rattle.h5w_step_laws.proofs.GoesLemmas.{event_goes, piece_goes}
use Rattle.h5w_model.specs.Datasets.{Described}
use Rattle.h5w_laws.proofs.AnswerLemmas.{same_ok}
use Rattle.h5w_session_examples.specs.SevenOfOnes.{third_block}
use Rattle.h5w_session_examples.specs.Moments.{behind_five, behind_six, values_of_six, ones_of_five, ones_ended, ones_named, five_flushed, copied_only, copy_named, never_named}
use Rattle.h5w_session_examples.specs.Orders.{HeaderTooEarly, BlockTooEarly, TakenTooEarly}
use Rattle.h5w_session_examples.proofs.Decisions.{among_by}
use Rattle.h5w_session_examples.proofs.StepHelpers.{past_goes}
use Rattle.h5w_session_examples.proofs.OnesFive.{goes_five_10}
use Rattle.h5w_session_examples.proofs.OnesSix.{goes_six_2, goes_six_4}

-- some bytes meet themselves
meets : (a n : ℕ) → 0 < n → Apart a n a n → ⊥
meets a n some (inl h) = omega (arith, some, h)
meets a n some (inr h) = omega (arith, some, h)

-- a write that lies in no block in place
lies_nowhere : (w : Write) (us : List Used) → ((u : Used) → Among u us → u.place ≤ w.at → w.at + length w.piece ≤ u.place + u.len → ⊥) → LiesIn w us → ⊥
lies_nowhere w us none l = none l.used l.among l.from l.to

-- and not in chunk 0 of the dataset header
first_is : (m : Moment) (w : Write) (i : InChunk0 m w) (u : Used) → m.header ≡ u ∷ [] → (u.place ≤ w.at) × (w.at + length w.piece ≤ u.place + u.len)
first_is m w i u e =
    let same : i.first ≡ u = one i.first u i.continued (sym i.header_is ∙ e) in
    subst (λ (x : Used). (x.place ≤ w.at) × (w.at + length w.piece ≤ x.place + x.len)) same (i.from, i.to)
  where
    one : (x y : Used) (xs : List Used) → x ∷ xs ≡ y ∷ [] → x ≡ y
    one x y xs h = cc

-- ---- A place that is not let go yet

early_take : (n : Moment) (after : List Used) → Step (image_now copy_named) ones_named (behind_six ++ behind_five) (record { at = 578; piece = third_block }) n after → ⊥
early_take n after (unseen u off is same) = meets 578 150 (lit≤ tt) (off (block_at 578 150) (among_by (block_at 578 150) (behind_six ++ behind_five) refl) refl)
early_take n after (ends e same) = let place = e.place in absurd (omega (arith, place))
early_take n after (switches s off clear same) = lies_nowhere (record { at = 578; piece = third_block }) ones_named.fixed outside s.inside
  where
    outside : (u : Used) → Among u ones_named.fixed → u.place ≤ 578 → 578 + 150 ≤ u.place + u.len → ⊥
    outside u (inl e) from to = let f : 578 + 150 ≤ 188 + 72 = subst (λ (x : Used). 578 + 150 ≤ x.place + x.len) (sym e) to in omega (arith, f)
    outside u (inr (inl e)) from to = let f : 578 + 150 ≤ 260 + 298 = subst (λ (x : Used). 578 + 150 ≤ x.place + x.len) (sym e) to in omega (arith, f)
    outside u (inr (inr a)) from to = a
early_take n after (commits c same) = let i = first_is ones_named (record { at = 578; piece = third_block }) c.inside (block_at 106 82) refl in let to : 578 + 150 ≤ 106 + 82 = i.1 in omega (arith, to)

pub taken_too_early : TakenTooEarly
taken_too_early = record { here = goes_six_4; refused = λ n after s values. early_take n after s }

-- ---- A block in place before the superblock

early_index : eval (apply (piece_of six_of_ones 260 298) (image_now copied_only)) (index_visit 728 (described_by 1 5 188)) ≡ Err (found block_past_end 732)
unfolding headers.first_of numbers_in mix_line mixed finish_line finished added rounds sum_of prefix_at msgs_in header_at messages_at prefix_bytes data_in_header rows_in_header index_in_header rows_changed header_view apply first_pieces pieces value_at links_at find_link shape_tests shape_fields shape_at int_type_tests int_type_fields int_type_at fill_tests fill_fields fill_at fill_value_bytes layout_fields layout_at num le halvings width_of
early_index = refl

not_both : (r : Result (List Used) Finding) (f : Finding) (us : List Used) → r ≡ Err f → r ≡ Ok us → ⊥
not_both r f us h g = cc

early_block : (n : Moment) (after : List Used) → Step (image_now copied_only) ones_of_five behind_five (piece_of six_of_ones 260 298) n after → ⊥
early_block n after (unseen u off is same) = meets 260 298 (lit≤ tt) (u.off_blocks (block_at 260 298) (among_by (block_at 260 298) (all_used ones_of_five) refl) refl)
early_block n after (ends e same) = let place = e.place in absurd (omega (arith, place))
early_block n after (switches s off clear same) = not_both _ (found block_past_end 732) (n.fixed ++ n.behind) early_index s.index.checked
early_block n after (commits c same) = let i = first_is ones_of_five (piece_of six_of_ones 260 298) c.inside (block_at 106 82) refl in let to : 260 + 298 ≤ 106 + 82 = i.1 in omega (arith, to)

pub block_too_early : BlockTooEarly
block_too_early = record { here = goes_six_2; refused = λ n after s values. early_block n after s }

-- ---- A header before the copy is named

abbrev pub never_appended : Log
never_appended = and_now (appends (pos 6 ∷ [])) five_flushed

abbrev pub never_planned : Log
never_planned = and_now (plans 4) never_appended

abbrev pub never_1 : Log
never_1 = and_now (shows (piece_of six_of_ones 728 4)) never_planned

abbrev pub never_2 : Log
never_2 = and_now (shows (piece_of six_of_ones 732 150)) never_1

goes_never_2 : Goes data_name never_2 ones_of_five behind_five
goes_never_2 =
    past_goes data_name never_1 ones_of_five behind_five (piece_of six_of_ones 732 150)
    (past_goes data_name never_planned ones_of_five behind_five (piece_of six_of_ones 728 4)
    (event_goes data_name (plans 4) never_appended ones_of_five behind_five refl refl (event_goes data_name (appends (pos 6 ∷ [])) five_flushed ones_of_five behind_five refl refl goes_five_10))
    (lit≤ tt) refl) (lit≤ tt) refl

step_never : Step (image_now never_2) ones_of_five behind_five (piece_of six_of_ones 0 48) ones_ended behind_five
unfolding headers.first_of numbers_in mix_line mixed finish_line finished added rounds sum_of prefix_at msgs_in header_at messages_at prefix_bytes data_in_header rows_in_header index_in_header rows_changed header_view apply first_pieces pieces value_at links_at find_link shape_tests shape_fields shape_at int_type_tests int_type_fields int_type_at fill_tests fill_fields fill_at fill_value_bytes layout_fields layout_at num le halvings width_of
step_never = ends (record { is = refl; place = refl; len = refl; reads = refl; root = refl; swmr = refl; rises = lit≤ tt; there = lit≤ tt }) refl

goes_never : Goes data_name never_named ones_ended behind_five
goes_never = piece_goes data_name never_2 ones_of_five behind_five (piece_of six_of_ones 0 48) ones_ended behind_five goes_never_2 step_never refl

abbrev pub header_written : List ℕ
header_written = apply (piece_of six_of_ones 106 82) (image_now never_named)

-- what the header says, which chunks are found, and what the sixth row reads as
header_says : eval header_written (checked_dataset format_limits (ones_ended.super) 106) ≡ Ok (described_by 1 6 188, block_at 106 82 ∷ [])
unfolding headers.first_of numbers_in mix_line mixed finish_line finished added rounds sum_of prefix_at msgs_in header_at messages_at prefix_bytes data_in_header rows_in_header index_in_header rows_changed header_view apply first_pieces pieces value_at links_at find_link shape_tests shape_fields shape_at int_type_tests int_type_fields int_type_at fill_tests fill_fields fill_at fill_value_bytes layout_fields layout_at num le halvings width_of
header_says = refl

table_says : eval header_written (table_of (described_by 1 6 188) (needed_keys (described_by 1 6 188))) ≡ Ok (558 ∷ 562 ∷ 566 ∷ 570 ∷ 574 ∷ undefined ∷ [])
unfolding headers.first_of numbers_in mix_line mixed finish_line finished added rounds sum_of prefix_at msgs_in header_at messages_at prefix_bytes data_in_header rows_in_header index_in_header rows_changed header_view apply first_pieces pieces value_at links_at find_link shape_tests shape_fields shape_at int_type_tests int_type_fields int_type_at fill_tests fill_fields fill_at fill_value_bytes layout_fields layout_at num le halvings width_of
table_says = refl

abbrev pub six_read : Reading
six_read = record { place = 106; dataset = described_by 1 6 188; table = 558 ∷ 562 ∷ 566 ∷ 570 ∷ 574 ∷ undefined ∷ [] }

sixth_reads : cell header_written six_read 5 0 ≡ Some (pos 0)
unfolding headers.first_of numbers_in mix_line mixed finish_line finished added rounds sum_of prefix_at msgs_in header_at messages_at prefix_bytes data_in_header rows_in_header index_in_header rows_changed header_view apply first_pieces pieces value_at links_at find_link shape_tests shape_fields shape_at int_type_tests int_type_fields int_type_at fill_tests fill_fields fill_at fill_value_bytes layout_fields layout_at num le halvings width_of
sixth_reads = refl

both_said : (d e : Described) (us vs : List Used) → ◌≡◌ {A = Result (Described × List Used) Finding} (Ok (d, us)) (Ok (e, vs)) → d ≡ e
both_said d e us vs h = let p : ◌≡◌ {A = Described × List Used} (d, us) (e, vs) = cc in ap (λ x. x.0) p

not_six : ◌≡◌ {A = Option ℤ} (Some (pos 0)) (Some (pos 6)) → ⊥
not_six h = cc

-- what is read there, told of the next moment
sixth_of : (n : Moment) (r : Reading) → reading_of n ≡ r → r.dataset.shape.cols ≡ 1 → cell header_written (reading_of n) (5 / n.dataset.shape.cols) (5 % n.dataset.shape.cols) ≡ slice_get n.values 5
    → cell header_written r (5 / r.dataset.shape.cols) (5 % r.dataset.shape.cols) ≡ slice_get n.values 5
sixth_of n r e cols h = subst (λ (x : Reading). cell header_written x (5 / x.dataset.shape.cols) (5 % x.dataset.shape.cols) ≡ slice_get n.values 5) e h

early_commit : (n : Moment) → Commits (image_now never_named) ones_ended (piece_of six_of_ones 106 82) n → n.values ≡ values_of_six → ⊥
early_commit n c values =
    let d : n.dataset ≡ described_by 1 6 188 = both_said n.dataset (described_by 1 6 188) ones_ended.header (block_at 106 82 ∷ []) (sym c.header ∙ header_says) in
    let t : n.table ≡ 558 ∷ 562 ∷ 566 ∷ 570 ∷ 574 ∷ undefined ∷ [] =
    same_ok (eval header_written (table_of (described_by 1 6 188) (needed_keys (described_by 1 6 188)))) n.table (558 ∷ 562 ∷ 566 ∷ 570 ∷ 574 ∷ undefined ∷ [])
    (subst (λ (x : Described). eval header_written (table_of x (needed_keys x)) ≡ Ok n.table) d c.table) table_says in
    let p : n.place ≡ 106 = ap (λ (x : Moment). x.place) c.is in
    let r : reading_of n ≡ six_read = λ i. record { place = p i; dataset = d i; table = t i } in
    let low : 5 < length n.values = subst (λ (vs : List ℤ). 5 < length vs) (sym values) (lit≤ tt) in
    let read = sixth_of n six_read r refl (c.cells 5 low) in
    not_six (sym sixth_reads ∙ read ∙ ap (λ (vs : List ℤ). slice_get vs 5) values)

early_header : (n : Moment) (after : List Used) → Step (image_now never_named) ones_ended behind_five (piece_of six_of_ones 106 82) n after → n.values ≡ values_of_six → ⊥
early_header n after (unseen u off is same) values = meets 106 82 (lit≤ tt) (u.off_blocks (block_at 106 82) (among_by (block_at 106 82) (all_used ones_ended) refl) refl)
early_header n after (ends e same) values = let place = e.place in absurd (omega (arith, place))
early_header n after (switches s off clear same) values = lies_nowhere (piece_of six_of_ones 106 82) ones_ended.fixed outside s.inside
  where
    outside : (u : Used) → Among u ones_ended.fixed → u.place ≤ 106 → 106 + 82 ≤ u.place + u.len → ⊥
    outside u (inl e) from to = let f : 188 ≤ 106 = subst (λ (x : Used). x.place ≤ 106) (sym e) from in omega (arith, f)
    outside u (inr (inl e)) from to = let f : 260 ≤ 106 = subst (λ (x : Used). x.place ≤ 106) (sym e) from in omega (arith, f)
    outside u (inr (inr a)) from to = a
early_header n after (commits c same) values = early_commit n c values

pub header_too_early : HeaderTooEarly
header_too_early = record { here = goes_never; refused = early_header }
