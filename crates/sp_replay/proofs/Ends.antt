-- How a replay ends that came to the end of its text, to its first bad line or to a forged event.
use Rattle.std.proofs.Common.{ℕ, ◌≡◌, List, ◌++◌, take, Option, Some, None, append_assoc, inl, inr, refl, sym, ap, subst, IfSome}
use Rattle.std.specs.Prelude.{◌≢◌}
use Rattle.std.specs.Io.KnownBytes.{Appends}
use Rattle.std.proofs.KnownBytes.{Appends-trans}
use Rattle.sp_journal.specs.JournalText.{journal_lines}
use Rattle.sp_outside.specs.Streams.{AppendsFront}
use Rattle.sp_schedule.proofs.LawLemmas.{good_texts_are_read, one_reading, readings_are_of_their_text}
use Rattle.sp_schedule.specs.declared.stage.Ending.{Ending}
use Rattle.sp_schedule.specs.declared.stage.Ending.TheVariants as endings
use Rattle.sp_schedule.specs.declared.stage.Stage.{Stage}
use Rattle.sp_world.specs.Past.{Past}
use Rattle.sp_world.specs.declared.refused.WorldRefused.{WorldRefused}
use Rattle.sp_replay.specs.declared.halt.Halt.TheVariants as halts
use Rattle.sp_words.specs.declared.status.Status.{Status}
use Rattle.sp_words.specs.declared.status.Status.TheVariants as statuses
use Rattle.sp_replay.specs.Claims.{Replays, WorldClaims, WroteUpTo}
use Rattle.sp_replay.specs.Complete.{IsCompleteReplay}
use Rattle.sp_replay.specs.Outputs.{AreDone, IsOutput, lines_before, lines_but_last}
use Rattle.sp_replay.specs.Played.{HasBuffers, IsPlayed, IsPlayedBy, ToldBy, status_by}
use Rattle.sp_replay.specs.Playing.{CanEnd, IsForgedTo, IsReadTo, IsStopped, TellsEnd, line_after, line_at, line_of_stop, status_at}
use Rattle.sp_replay.proofs.Begun.{all_of_it, begins_more, then_begins, whole_begins}
use Rattle.sp_replay.proofs.Complete.{complete_output}
use Rattle.sp_replay.proofs.Lines.{all_fit, fit}
use Rattle.sp_replay.proofs.Outputs.{ended_well, played_output, wrote_whole}
use Rattle.sp_replay.proofs.Ways.{last_piece}

-- ---- the output

-- a text that was read whole has a world
no_world_at_end : (left : Option (List ℕ)) (start after : Option (List ℕ)) → IsReadTo left None start after endings.Whole → ⊥
no_world_at_end left start after is =
    let well = ended_well is.is_cut is.stage is.reading.line is.reading.stop is.reading.ends in
    subst (λ (z : Stage). AreDone z None) well.end is.done

module _ (left : Option (List ℕ)) (start after : Option (List ℕ)) where
  played_read : (world : Option Past) (ending : Ending) (is : IsReadTo left world start after ending) → IfSome world WorldClaims
      → IsPlayed is.text is.is_cut world (status_at (halts.Read ending)) (lines_before world ++ line_at world ending)
  played_read None endings.Whole is claims = absurd (no_world_at_end left start after is)
  played_read None (endings.Refused line kind) is claims =
      record { stage = is.stage; ending = endings.Refused line kind; reading = is.reading; run = is.done; claims = tt; status_is = refl; text_is = refl }
  played_read (Some p) endings.Whole is claims = record {
    stage = is.stage;
    ending = endings.Whole;
    reading = is.reading;
    run = subst (IsPlayedBy is.stage p) (sym is.done.1) is.done;
    claims = claims;
    status_is = ap (λ (s : Option WorldRefused). status_by s endings.Whole) (sym is.done.1);
    text_is = subst (λ (s : Option WorldRefused). ToldBy p endings.Whole s (lines_before (Some p) ++ line_at (Some p) endings.Whole)) (sym is.done.1) refl;
  }
  played_read (Some p) (endings.Refused line kind) is claims = record {
    stage = is.stage;
    ending = endings.Refused line kind;
    reading = is.reading;
    run = subst (IsPlayedBy is.stage p) (sym is.done.1) is.done;
    claims = claims;
    status_is = ap (λ (s : Option WorldRefused). status_by s (endings.Refused line kind)) (sym is.done.1);
    text_is = subst
        (λ (s : Option WorldRefused). ToldBy p (endings.Refused line kind) s (lines_before (Some p) ++ line_at (Some p) (endings.Refused line kind)))
        (sym is.done.1) refl;
  }

  pub read_output : (world : Option Past) (ending : Ending) → IsReadTo left world start after ending → IfSome world WorldClaims
      → IsOutput left world (status_at (halts.Read ending)) (lines_before world ++ line_at world ending)
  read_output world ending is claims =
      played_output readings_are_of_their_text good_texts_are_read one_reading left is.text is.is_cut world (status_at (halts.Read ending))
      (lines_before world ++ line_at world ending)
      is.input (played_read world ending is claims)

  pub forged_output : (world : Option Past) → IsForgedTo left world start after → IfSome world WorldClaims
      → IsOutput left world statuses.Forged (lines_before world ++ line_after halts.Forged world)
  forged_output world is claims =
      let p = is.past in
      let at = is.forged in
      let known : WorldClaims p = subst (λ (w : Option Past). IfSome w WorldClaims) is.is claims in
      rw is.is
      (played_output readings_are_of_their_text good_texts_are_read one_reading left is.text is.is_cut (Some p) statuses.Forged
      (journal_lines p.journal ++ line_of_stop p.stopped) is.input
      (record {
        stage = at.reading.stage;
        ending = at.reading.ending;
        reading = at.is;
        run = subst (IsPlayedBy at.reading.stage p) (sym at.forged.next.stopped) at.forged;
        claims = known;
        status_is = ap (λ (s : Option WorldRefused). status_by s at.reading.ending) (sym at.forged.next.stopped);
        text_is = subst (λ (s : Option WorldRefused). ToldBy p at.reading.ending s (journal_lines p.journal ++ line_of_stop s)) (sym at.forged.next.stopped)
            refl;
      }))

-- ---- what must hold for its last line

pub read_can_end : (left : Option (List ℕ)) (world : Option Past) (start after : Option (List ℕ)) (ending : Ending) → IsReadTo left world start after ending
    → CanEnd (halts.Read ending) world
read_can_end left None start after endings.Whole is = absurd (no_world_at_end left start after is)
read_can_end left None start after (endings.Refused line kind) is = tt
read_can_end left (Some p) start after endings.Whole is = (fit is.stage p is.good is.done.0).short
read_can_end left (Some p) start after (endings.Refused line kind) is = tt

pub read_buffers : (left : Option (List ℕ)) (world : Option Past) (start after : Option (List ℕ)) (ending : Ending) → IsReadTo left world start after ending
    → IfSome world HasBuffers
read_buffers left world start after ending is = all_fit is.stage world is.good is.done

pub forged_can_end : (left : Option (List ℕ)) (world : Option Past) (start after : Option (List ℕ)) → IsForgedTo left world start after
    → CanEnd halts.Forged world
forged_can_end left world start after is = rw is.is (subst IsStopped (sym is.forged.forged.next.stopped) tt)

pub forged_buffers : (left : Option (List ℕ)) (world : Option Past) (start after : Option (List ℕ)) → IsForgedTo left world start after
    → IfSome world HasBuffers
forged_buffers left world start after is = rw is.is is.buffers

pub forged_written : (left : Option (List ℕ)) (world : Option Past) (start after : Option (List ℕ)) → IsForgedTo left world start after
    → Appends start after (lines_before world)
forged_written left world start after is = rw is.is is.written

-- ---- what was written, and the status

-- the whole journal was written, and a beginning of the last line
wrote_all : (world : Option Past) (start middle after : Option (List ℕ)) (line : List ℕ) → Appends start middle (lines_before world)
    → AppendsFront middle after line
    → WroteUpTo world world start after
wrote_all None start middle after line written front = refl
wrote_all (Some p) start middle after line written front =
    let piece = last_piece p.journal in
    let lines : Appends start middle (lines_but_last p.journal ++ piece.0) = subst (Appends start middle) piece.1 written in
    let all = Appends-trans start middle after (lines_but_last p.journal ++ piece.0) (take front.count line) lines front.appended in
    ((piece.0 ++ take front.count line, subst (Appends start after) (append_assoc (lines_but_last p.journal) piece.0 (take front.count line)) all), inl refl)

module _ (left : Option (List ℕ)) (would : Status) (line : List ℕ) (world : Option Past) (start middle after : Option (List ℕ))
    (output : IsOutput left world would (lines_before world ++ line)) where
  pub end_wrote : (now : Option Past) (status : Status) → IfSome world WorldClaims → Appends start middle (lines_before world)
      → TellsEnd would line world now status middle after
      → Replays left now status start after
  end_wrote now status claims written (inl whole) =
      rw (whole.0, whole.1)
      (wrote_whole left world would (lines_before world ++ line) start after output
      (Appends-trans start middle after (lines_before world) line written whole.2))
  end_wrote now status claims written (inr (inl sink)) = rw (sink.0, sink.1) (record {
    begun = record {
      whole = world;
      claims = claims;
      goes_on = all_of_it world;
      status = would;
      output = lines_before world ++ line;
      is_output = output;
      begun = then_begins start middle after (lines_before world) line written sink.2;
    };
    wrote = wrote_all world start middle after line written sink.2;
  })
  end_wrote now status claims written (inr (inr memory)) = rw (memory.0, memory.1, memory.2) (record {
    whole = world;
    claims = claims;
    goes_on = tt;
    status = would;
    output = lines_before world ++ line;
    is_output = output;
    begun = begins_more start middle (lines_before world) line (whole_begins start middle (lines_before world) written);
  })

  pub end_complete : (now : Option Past) (status : Status) → TellsEnd would line world now status middle after → status ≢ statuses.Sink
      → IsCompleteReplay left status
  end_complete now status (inl whole) written =
      rw whole.0 (complete_output good_texts_are_read one_reading left world would (lines_before world ++ line) output)
  end_complete now status (inr (inl sink)) written = absurd (written sink.0)
  end_complete now status (inr (inr memory)) written = record { honest = λ tells. inr memory.0; bad = λ tells. inr memory.0 }
