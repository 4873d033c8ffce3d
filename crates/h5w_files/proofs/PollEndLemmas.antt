-- How a poll of a file ends.
use Rattle.std.proofs.Common.{◌≡◌, ◌⊎◌, ℕ, ◌<◌, ◌^◌, Bool, List, [], ◌++◌, length, Option, Some, None, Result, Ok, Err, refl, sym, ap, ◌∙◌, subst, inl, inr, arith}
use Rattle.std.specs.Prelude.{IfSome, IfErr, option_map}
use Rattle.h5w_model.specs.Causes.{Rose}
use Rattle.h5w_model.specs.Datasets.{refused_as, then_also}
use Rattle.h5w_model.specs.Unfinished.{Reader, ReaderRules}
use Rattle.h5w_image.specs.View.{DiskState, DiskView, Leaves, Looked, file}
use Rattle.h5w_reader.specs.Readers.{new_reader, reader_rules}
use Rattle.h5w_text.specs.Errors.{error_text}
use Rattle.h5w_text.specs.Says.{Said, SaidUnlessMemory, whole, failed}
use Rattle.h5w_text.specs.Statuses.{status_of}
use Rattle.h5w_text.specs.Streams.{SinkView}
use Rattle.h5w_text.specs.declared.error.ErrorLine.{ErrorLine}
use Rattle.h5w_text.specs.declared.error.ErrorLine.TheVariants as errors
use Rattle.h5w_text.specs.declared.status.Status.{Status}
use Rattle.h5w_text.specs.declared.status.Status.TheVariants as statuses
use Rattle.h5w_files.specs.Images.{file_image, told_bytes}
use Rattle.h5w_files.specs.Ends.{IsGivenBy, EndsWell}
use Rattle.h5w_files.specs.Polls.{PollBegins, IsOfPoll, PollEnds, PollWrites, PollWritesOf, new_lines, poll_of}
use Rattle.h5w_files.specs.Polls as polls
use Rattle.h5w_files.specs.Polling.{IsOfCall, IsOfEnding, IsOfPollEnding, PollGives, PolledOf, TimesGive, TimesRefused, TimesText}
use Rattle.h5w_files.specs.Polling as calls
use Rattle.h5w_files.specs.declared.polling.Ending.{Ending}
use Rattle.h5w_files.specs.declared.polling.Ending.TheVariants as endings
use Rattle.h5w_files.proofs.ClearLemmas.{any_told, leaves_files, none_of}
use Rattle.h5w_files.proofs.ImageLemmas.{leaves_on, looked_files}
use Rattle.h5w_files.proofs.EndLemmas.{completes}
use Rattle.h5w_batches.proofs.InputLemmas.{rose_before}
use Rattle.h5w_files.proofs.SinkLemmas.{gave_nothing, gave_some_more, said_behind}

-- ---- Before the first call

pub polls_missing : {v w : DiskView} (name at : List ℕ) (times attempts : ℕ) (values : Bool) (k : SinkView) → Leaves 0 v.told v w → IfSome v.told (λ d. None ≡ option_map length (file d name))
    → PollGives name at times attempts values v w (Err (endings.Error errors.Missing)) k k
polls_missing {v} name at times attempts values k p none = record {
  text = [];
  wrote = gave_nothing k;
  disk = leaves_files 0 v.told p;
  kinds = tt;
  cause = λ h. cc;
  exact = told v.told none;
}
  where
    told : (t : Option DiskState) → IfSome t (λ d. None ≡ option_map length (file d name)) → IfSome t (λ d. PolledOf (reader_rules at attempts) values times (file d name) (Err (endings.Error errors.Missing)) [])
    told None h = tt
    told (Some d) h = subst (λ o. PolledOf (reader_rules at attempts) values times o (Err (endings.Error errors.Missing)) []) (sym (none_of (file d name) h)) (refl, refl)

-- the disk failed, or memory was wanting
free_polled : (g : ReaderRules) (values : Bool) (times : ℕ) (e : ErrorLine) → (e ≡ errors.Disk) ⊎ (e ≡ errors.Memory) → (o : Option (List ℕ)) → PolledOf g values times o (Err (endings.Error e)) []
free_polled g values times e (inl disk) None = subst (λ x. PolledOf g values times None (Err (endings.Error x)) []) (sym disk) (refl, tt)
free_polled g values times e (inr memory) None = subst (λ x. PolledOf g values times None (Err (endings.Error x)) []) (sym memory) (refl, tt)
free_polled g values times e free (Some img) = calls.free e [] free polls.nothing

pub polls_failed : {v w : DiskView} (name at : List ℕ) (times attempts : ℕ) (values : Bool) (k : SinkView) → Leaves 0 v.told v w → Rose v.faults w.faults
    → PollGives name at times attempts values v w (Err (endings.Error errors.Disk)) k k
polls_failed {v} name at times attempts values k p rose = record {
  text = [];
  wrote = gave_nothing k;
  disk = leaves_files 0 v.told p;
  kinds = tt;
  cause = λ h. rose;
  exact = any_told v.told (λ d. free_polled (reader_rules at attempts) values times errors.Disk (inl refl) (file d name));
}

pub polls_wanting : {v w : DiskView} (name at : List ℕ) (times attempts : ℕ) (values : Bool) (k : SinkView) → Leaves 0 v.told v w
    → PollGives name at times attempts values v w (Err (endings.Error errors.Memory)) k k
polls_wanting {v} name at times attempts values k p = record {
  text = [];
  wrote = gave_nothing k;
  disk = leaves_files 0 v.told p;
  kinds = tt;
  cause = λ h. cc;
  exact = any_told v.told (λ d. free_polled (reader_rules at attempts) values times errors.Memory (inr refl) (file d name));
}

call_kind : (e : ErrorLine) → IsOfCall e → IsOfPoll e
call_kind errors.Usage h = absurd h
call_kind errors.Missing h = absurd h
call_kind errors.Exists h = absurd h
call_kind (errors.Read e) h = tt
call_kind (errors.Finding kind at) h = absurd h
call_kind (errors.Overlap at len other other_len) h = absurd h
call_kind (errors.Cut end size) h = absurd h
call_kind (errors.WriterVersion version) h = absurd h
call_kind errors.Layout h = absurd h
call_kind (errors.ChunkBytes bytes) h = absurd h
call_kind errors.NoColumns h = absurd h
call_kind (errors.Same one other) h = absurd h
call_kind (errors.FullChunks chunks limit) h = absurd h
call_kind (errors.FullSpace at size limit) h = absurd h
call_kind errors.Deep h = absurd h
call_kind (errors.Line n) h = absurd h
call_kind (errors.Range n i v) h = absurd h
call_kind (errors.Input n) h = absurd h
call_kind errors.Disk h = tt
call_kind errors.Image h = absurd h
call_kind errors.Source h = absurd h
call_kind errors.Memory h = tt

ending_kind : (r : Result (Unit {0}) Ending) → IfErr r IsOfEnding → IfErr r IsOfPollEnding
ending_kind (Ok a) h = tt
ending_kind (Err (endings.Error e)) h = call_kind e h
ending_kind (Err endings.Sink) h = tt

sized : (n : ℕ) (o : Option (List ℕ)) → Some n ≡ option_map length o → (img : List ℕ) × (o ≡ Some img) × (length img ≡ n)
sized n None e = absurd (cc)
sized n (Some img) e = let is : length img ≡ n = cc in (img, refl, is)

-- the calls on the image that the file is
pub polls_calls : {u v w : DiskView} {k l : SinkView} (r q : ℕ) (name other at : List ℕ) (size times attempts : ℕ) (values : Bool) (first : Reader) (result : Result (Unit {0}) Ending)
    → Leaves 0 u.told u v → size < 2 ^ 64 → IfSome u.told (λ d. Some size ≡ option_map length (file d name)) → Looked (file_image r name v) (file_image q other w) → first ≡ new_reader (reader_rules at attempts)
    → TimesGive times values (file_image r name v) (file_image q other w) first result k l → PollGives name at times attempts values u w result k l
polls_calls {u} {v} {w} {k} {l} r q name other at size times attempts values first result p small size_is looked is t = record {
  text = t.text;
  wrote = t.wrote;
  disk = leaves_on (leaves_files 0 u.told p) (looked_files r q name other looked);
  kinds = ending_kind result t.kinds;
  cause = λ h. rose_before u.faults v.faults w.faults p.faults (t.cause h);
  exact = told u.told size_is (λ img bytes short. t.still img (record { told = ap (λ o. told_bytes o name) p.told ∙ bytes; alone = refl; short = short }) (reader_rules at attempts) is);
}
  where
    told : (o : Option DiskState) → IfSome o (λ d. Some size ≡ option_map length (file d name))
        → ((img : List ℕ) → told_bytes o name ≡ Some img → length img < 2 ^ 64 → TimesText img (reader_rules at attempts) values times result t.text)
        → IfSome o (λ d. PolledOf (reader_rules at attempts) values times (file d name) result t.text)
    told None h f = tt
    told (Some d) h f =
        let one = sized size (file d name) h in
        let e : length one.0 ≡ size = one.2 in
        subst (λ (o : Option (List ℕ)). PolledOf (reader_rules at attempts) values times o result t.text) (sym one.1) (f one.0 one.1 (omega (arith, e, small)))

-- ---- Its end

begins_refused : (img : List ℕ) (g : ReaderRules) (values : Bool) (times : ℕ) (e : ErrorLine) (text : List ℕ) → TimesRefused img g values times e text → PollBegins img g values times text
begins_refused img g values times e text (calls.unopened f gives) = polls.nothing
begins_refused img g values times e text (calls.unread r f shown are) = polls.counted r shown
begins_refused img g values times e text (calls.free f t free begins) = begins

writes_refused : (img : List ℕ) (g : ReaderRules) (values : Bool) (times : ℕ) (e : ErrorLine) (text : List ℕ) → TimesRefused img g values times e text → PollWrites img g values times (Err e) (text ++ error_text e)
writes_refused img g values times e text (calls.unopened f gives) = polls.unopened f gives
writes_refused img g values times e text (calls.unread r f shown are) = polls.unread r f shown are
writes_refused img g values times e text (calls.free f t free begins) = polls.broken f t free begins

of_refused : (g : ReaderRules) (values : Bool) (times : ℕ) (e : ErrorLine) (text : List ℕ) (o : Option (List ℕ)) → PolledOf g values times o (Err (endings.Error e)) text → PollWritesOf g values times o (Err e) (text ++ error_text e)
of_refused g values times e text None h = record { error = e; is = refl; gives = h.1; text_is = ap (λ t. t ++ error_text e) h.0 }
of_refused g values times e text (Some img) h = writes_refused img g values times e text h

of_wanting : (g : ReaderRules) (values : Bool) (times : ℕ) (e : ErrorLine) (text : List ℕ) (o : Option (List ℕ)) → PolledOf g values times o (Err (endings.Error e)) text
    → PollWritesOf g values times o (Err errors.Memory) (text ++ error_text errors.Memory)
of_wanting g values times e text None h = record { error = errors.Memory; is = refl; gives = tt; text_is = ap (λ t. t ++ error_text errors.Memory) h.0 }
of_wanting g values times e text (Some img) h = polls.broken errors.Memory text (inr refl) (begins_refused img g values times e text h)

of_broken : (g : ReaderRules) (values : Bool) (times : ℕ) (text : List ℕ) (o : Option (List ℕ)) → PolledOf g values times o (Err endings.Sink) text → PollWritesOf g values times o (Err errors.Memory) (text ++ error_text errors.Memory)
of_broken g values times text None h = absurd h.1
of_broken g values times text (Some img) h = polls.broken errors.Memory text (inr refl) h

of_whole : (g : ReaderRules) (values : Bool) (times : ℕ) (text : List ℕ) (o : Option (List ℕ)) → PolledOf g values times o (Ok tt) text → PollWritesOf g values times o (Ok tt) text
of_whole g values times text None h = absurd h.1
of_whole g values times text (Some img) h = subst (λ t. PollWrites img g values times (Ok tt) t) (sym h.text_is) (polls.whole h.found h.lines h.shown h.lines_are)

each_told : {P Q : DiskState → Type 0} (t : Option DiskState) → ((d : DiskState) → P d → Q d) → IfSome t P → IfSome t Q
each_told None f h = tt
each_told (Some d) f h = f d h

pub polls_done : {v w : DiskView} {k l : SinkView} (name at : List ℕ) (times attempts : ℕ) (values : Bool) → PollGives name at times attempts values v w (Ok tt) k l → PollEnds name at times attempts values v w statuses.Done k l
polls_done {v} name at times attempts values p = record {
  answer = Ok tt;
  text = p.text;
  comes = record { disk = p.disk; exact = each_told v.told (λ d h. of_whole (reader_rules at attempts) values times p.text (file d name) h) p.exact; kinds = tt; cause = λ h. cc };
  said = whole refl p.wrote;
}

pub polls_told : {v w : DiskView} {k l m : SinkView} (name at : List ℕ) (times attempts : ℕ) (values : Bool) (e : ErrorLine) (status : Status) → PollGives name at times attempts values v w (Err (endings.Error e)) k l
    → SaidUnlessMemory (error_text e) (status_of e) status l m → PollEnds name at times attempts values v w status k m
polls_told {v} name at times attempts values e status p (inl said) = record {
  answer = Err e;
  text = p.text ++ error_text e;
  comes = record {
    disk = p.disk;
    exact = each_told v.told (λ d h. of_refused (reader_rules at attempts) values times e p.text (file d name) h) p.exact;
    kinds = p.kinds;
    cause = λ h. p.cause (let f : e ≡ errors.Disk = cc in ap (λ y. Err (endings.Error y)) f);
  };
  said = said_behind p.text (error_text e) (status_of e) status p.wrote said;
}
polls_told {v} name at times attempts values e status p (inr said) = record {
  answer = Err errors.Memory;
  text = p.text ++ error_text errors.Memory;
  comes = record { disk = p.disk; exact = each_told v.told (λ d h. of_wanting (reader_rules at attempts) values times e p.text (file d name) h) p.exact; kinds = tt; cause = λ h. cc };
  said = said_behind p.text (error_text errors.Memory) statuses.Memory status p.wrote said;
}

pub polls_broken : {v w : DiskView} {k l : SinkView} (name at : List ℕ) (times attempts : ℕ) (values : Bool) → PollGives name at times attempts values v w (Err endings.Sink) k l → PollEnds name at times attempts values v w statuses.Sink k l
polls_broken {v} name at times attempts values p = record {
  answer = Err errors.Memory;
  text = p.text ++ error_text errors.Memory;
  comes = record { disk = p.disk; exact = each_told v.told (λ d h. of_broken (reader_rules at attempts) values times p.text (file d name) h) p.exact; kinds = tt; cause = λ h. cc };
  said = failed refl p.wrote.0 (gave_some_more p.text (error_text errors.Memory) p.wrote.1);
}

-- memory was wanting before the file was looked at
none_written : (g : ReaderRules) (values : Bool) (times : ℕ) (o : Option (List ℕ)) → PollWritesOf g values times o (Err errors.Memory) (error_text errors.Memory)
none_written g values times None = record { error = errors.Memory; is = refl; gives = tt; text_is = refl }
none_written g values times (Some img) = polls.broken errors.Memory [] (inr refl) polls.nothing

pub polls_nothing : {v : DiskView} {k l : SinkView} (name at : List ℕ) (times attempts : ℕ) (values : Bool) (status : Status) → Said (error_text errors.Memory) statuses.Memory status k l → PollEnds name at times attempts values v v status k l
polls_nothing {v} name at times attempts values status said = record {
  answer = Err errors.Memory;
  text = error_text errors.Memory;
  comes = record {
    disk = record { told = refl; faults = omega arith; through = refl };
    exact = any_told v.told (λ d. none_written (reader_rules at attempts) values times (file d name));
    kinds = tt;
    cause = λ h. cc;
  };
  said = said;
}

-- ---- Completeness

writes_answer : (img : List ℕ) (g : ReaderRules) (values : Bool) (times : ℕ) (answer : Result (Unit {0}) ErrorLine) (text : List ℕ) → PollWrites img g values times answer text → IsGivenBy (poll_of g values (Some img)) answer
writes_answer img g values times answer text (polls.whole r lines shown are) =
    ap (λ x. then_also (refused_as errors.Read x) (λ r. then_also (refused_as errors.Read (new_lines values img r 0)) (λ lines. Ok tt))) shown
    ∙ ap (λ x. then_also (refused_as errors.Read x) (λ (lines : List ℕ). Ok tt)) are
writes_answer img g values times answer text (polls.unopened e gives) =
    ap (λ x. then_also (refused_as errors.Read x) (λ r. then_also (refused_as errors.Read (new_lines values img r 0)) (λ lines. Ok tt))) gives
writes_answer img g values times answer text (polls.unread r e shown are) =
    ap (λ x. then_also (refused_as errors.Read x) (λ r. then_also (refused_as errors.Read (new_lines values img r 0)) (λ lines. Ok tt))) shown
    ∙ ap (λ x. then_also (refused_as errors.Read x) (λ (lines : List ℕ). Ok tt)) are
writes_answer img g values times answer text (polls.broken e t (inl disk) begins) = subst (λ x. IsGivenBy (poll_of g values (Some img)) (Err x)) (sym disk) tt
writes_answer img g values times answer text (polls.broken e t (inr memory) begins) = subst (λ x. IsGivenBy (poll_of g values (Some img)) (Err x)) (sym memory) tt

of_answer : (g : ReaderRules) (values : Bool) (times : ℕ) (answer : Result (Unit {0}) ErrorLine) (text : List ℕ) (o : Option (List ℕ)) → PollWritesOf g values times o answer text → IsGivenBy (poll_of g values o) answer
of_answer g values times answer text None h = subst (λ a. IsGivenBy (Err errors.Missing) a) (sym h.is) h.gives
of_answer g values times answer text (Some img) h = writes_answer img g values times answer text h

pub polls_whole : {v w : DiskView} {k l : SinkView} (name at : List ℕ) (times attempts : ℕ) (values : Bool) (status : Status) → PollEnds name at times attempts values v w status k l
    → EndsWell (poll_of (reader_rules at attempts) values) name v w status k l
polls_whole {v} {w} name at times attempts values status e =
    completes w (poll_of (reader_rules at attempts) values) name status e
    (λ answer text c. each_told v.told (λ d h. of_answer (reader_rules at attempts) values times answer text (file d name) h) c.exact) (λ answer text c. c.cause)
