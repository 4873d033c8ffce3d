-- What each call makes of a session of several datasets.
use Rattle.std.proofs.Common.{ap, subst, inl, inr}
use Rattle.h5w_model.specs.Several.{FileLog, appends_to, plans_each, shows_all}
use Rattle.h5w_model.specs.declared.piece.Write.{Write}
use Rattle.h5w_several_writer_laws.specs.Laws.{CallsStand}
use Rattle.h5w_writer.specs.PartLaws.{PartLaws}
use Rattle.h5w_writer.proofs.PartLemmas.{part_laws}
use Rattle.h5w_several_writer_laws.specs.Sessions.{AfterPieceOf, Sessions, counts_of, keeping}
use Rattle.h5w_several_writer_laws.specs.Standing.{StandsAll, StandsOn, and_then}
use Rattle.h5w_several_writer_laws.proofs.AppendAllLemmas.{appends_stand, refused_stands}
use Rattle.h5w_several_writer_laws.proofs.EndLemmas.{closes_stand, halted_shown, stopped_none, stops_stand}
use Rattle.h5w_several_writer_laws.proofs.FlushAllLemmas.{flushes_stand, goes_on, stands_all}
use Rattle.h5w_several_writer_laws.proofs.ShownAllLemmas.{shown_stands}

all_shown : PartLaws → (old new : Sessions) (w : Write) (log : FileLog) → StandsAll old log → AfterPieceOf w old new → StandsAll new (and_then (shows_all w) log)
all_shown p old new w log st x = elim st.is [
  | inl same ↦ stands_all new (and_then (shows_all w) log) (shown_stands p st.was new w log st.stands (subst (λ (y : Sessions). AfterPieceOf w y new) same x))
  | inr ended ↦
      elim ended [
        | inl same ↦
            let next = halted_shown st.was new w log st.stands (subst (λ (y : Sessions). AfterPieceOf w y new) same x) in
            record { was = next.next; stands = shown_stands p st.was next.next w log st.stands next.shown; is = inr (inl next.is) }
        | inr same ↦ absurd (stopped_none w st.was.parts new.parts (subst (λ (y : Sessions). AfterPieceOf w y new) same x).parts)
      ]
]

keeps_on : (S : Sessions) (log : FileLog) → StandsOn S log → StandsOn (keeping S) log
keeps_on S log st = record { ranges = st.ranges; entries = st.entries; known = st.known; off = st.off; blocks = st.blocks; parts = st.parts; fits = st.fits; low = st.low; ends = st.ends; going = st.going; valid = st.valid; course = st.course }

all_keep : (S : Sessions) (log : FileLog) → StandsAll S log → StandsAll (keeping S) log
all_keep S log st = record {
  was = keeping st.was;
  stands = keeps_on st.was log st.stands;
  is = elim st.is [
    | inl same ↦ inl (ap keeping same)
    | inr ended ↦
        elim ended [
          | inl same ↦ inr (inl (ap keeping same))
          | inr same ↦ inr (inr (ap keeping same))
        ]
  ];
}

pub calls_by : PartLaws → CallsStand
calls_by p = record {
  appends = λ old new d values log st going idle x rows accepted. stands_all new (and_then (appends_to d values) log) (appends_stand p old new d values log (goes_on old log st going) idle x rows accepted);
  flushes = λ old new log st going idle x. stands_all new (and_then (plans_each (counts_of new.parts)) log) (flushes_stand p old new log (goes_on old log st going) idle x);
  refused = λ old new log st going idle x. stands_all new log (refused_stands p old new log (goes_on old log st going) idle x);
  shown = all_shown p;
  stops = stops_stand;
  closes = λ S log st going idle x reads. closes_stand p S log (goes_on S log st going) idle x reads;
  keeps = all_keep;
}

pub calls_stand : CallsStand
calls_stand = calls_by part_laws
