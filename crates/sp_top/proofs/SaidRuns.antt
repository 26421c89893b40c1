-- What is claimed of each run, from what its command ended with.
use Rattle.std.proofs.Common.{◌≡◌, ℕ, List, Option, Some, None, inl, inr, refl}
use Rattle.std.specs.Prelude.{◌≢◌, ◌⊎◌}
use Rattle.std.specs.Io.KnownBytes.{Appends}
use Rattle.sp_offline.specs.declared.command.Offline.{Offline}
use Rattle.sp_keystate.proofs.Since.{since_none}
use Rattle.sp_keystate.specs.Changes.{MayLeave}
use Rattle.sp_keystate.specs.Slots.{place}
use Rattle.sp_keystate.specs.States.{FormatMoments, first_numbers}
use Rattle.sp_keystate.specs.declared.slot.Slot.TheVariants.{First}
use Rattle.sp_outside.specs.Disk.{Disk, IsImage, bytes_of}
use Rattle.sp_outside.specs.Streams.{AppendsFront}
use Rattle.sp_service.proofs.Endings.{kept_quiet}
use Rattle.sp_service_turns.specs.Outside.{Outside}
use Rattle.sp_words.specs.declared.command_line.Ask.{Ask}
use Rattle.sp_world.specs.Past.{Past}
use Rattle.sp_top.specs.Claims.{SaidClaims, Wrote}
use Rattle.sp_top.specs.Commands.{BySaid, Says}
use Rattle.sp_replay.specs.Claims.{Generates, Replays}
use Rattle.sp_replay.specs.Complete.{IsCompleteReplay, IsDoneOrFailed}
use Rattle.sp_top.specs.Outputs.{usage_line}
use Rattle.sp_keystate.specs.RefusedLines.{refused_line}
use Rattle.sp_keystate.specs.declared.refused.KeyRefused.TheVariants as keys
use Rattle.sp_top.proofs.Daemons.{runs}
use Rattle.sp_top.specs.Daemons.{DaemonEnds}
use Rattle.sp_top.specs.Services.{AskEnds, FormatEnds, Keeper_failed, KeepsFile}
use Rattle.sp_top.specs.declared.command.Command.{Command}
use Rattle.sp_top.specs.declared.command.Command.TheVariants as commands
use Rattle.sp_words.specs.declared.status.Status.{Status}
use Rattle.sp_words.specs.declared.status.Status.TheVariants as statuses
use Rattle.sp_replay.proofs.Begun.{nothing_begun}
use Rattle.sp_top.proofs.Outputs.{usage_written}

-- what was claimed of what the words say holds by the words
pub by_said : (words : List (List ℕ)) (said : Option Command) (Holds : Option Command → Type 0) → Says words said → Holds said → BySaid words Holds
by_said words said Holds says holds = inl (said, says, holds)

-- ---- commands that write an output

pub replayed : (left : Option (List ℕ)) (past : Option Past) (status : Status) (o0 o1 : Outside)
    → Replays left past status o0.text o1.text → (status ≢ statuses.Source → status ≢ statuses.Sink → IsCompleteReplay left status) → status ≢ statuses.Usage
    → SaidClaims (Some commands.Replay) left past status o0 o1
replayed left past status o0 o1 wrote complete usage = record {
  wrote = λ _ _. wrote;
  worldless = λ runs. absurd (cc);
  served = tt;
  complete = complete;
  generated = tt;
  usage = λ is. absurd (usage is);
  only_usage = λ none. absurd (cc);
}

done_or_failed : (status : Status) → IsDoneOrFailed status → status ≢ statuses.Usage
done_or_failed status (inl done) is = absurd (cc)
done_or_failed status (inr (inl sink)) is = absurd (cc)
done_or_failed status (inr (inr memory)) is = absurd (cc)

pub generated : (number : ℕ) (left : Option (List ℕ)) (past : Option Past) (status : Status) (o0 o1 : Outside)
    → Generates number past status o0.text o1.text → IsDoneOrFailed status
    → SaidClaims (Some (commands.Generate number)) left past status o0 o1
generated number left past status o0 o1 wrote ends = record {
  wrote = λ _ _. wrote;
  worldless = λ runs. absurd (cc);
  served = tt;
  complete = λ read written. tt;
  generated = ends;
  usage = λ is. absurd (done_or_failed status ends is);
  only_usage = λ none. absurd (cc);
}

pub answered : (command : Offline) (left : Option (List ℕ)) (past : Option Past) (status : Status) (o0 o1 : Outside)
    → Wrote (Some (commands.Offline command)) left past status o0.text o1.text → past ≡ None → status ≢ statuses.Usage
    → SaidClaims (Some (commands.Offline command)) left past status o0 o1
answered command left past status o0 o1 wrote worldless usage = record {
  wrote = λ _ _. wrote;
  worldless = λ runs. worldless;
  served = tt;
  complete = λ read written. tt;
  generated = tt;
  usage = λ is. absurd (usage is);
  only_usage = λ none. absurd (cc);
}

pub verified : (left : Option (List ℕ)) (past : Option Past) (status : Status) (o0 o1 : Outside)
    → Wrote (Some commands.Verify) left past status o0.text o1.text → past ≡ None → status ≢ statuses.Usage
    → SaidClaims (Some commands.Verify) left past status o0 o1
verified left past status o0 o1 wrote worldless usage = record {
  wrote = λ _ _. wrote;
  worldless = λ runs. worldless;
  served = tt;
  complete = λ read written. tt;
  generated = tt;
  usage = λ is. absurd (usage is);
  only_usage = λ none. absurd (cc);
}

-- ---- commands that call the wire

pub served : (turns : ℕ) (left : Option (List ℕ)) (past : Option Past) (status : Status) (o0 o1 : Outside)
    → DaemonEnds left turns status o0 o1 → past ≡ None → status ≢ statuses.Usage → SaidClaims (Some (commands.Daemon turns)) left past status o0 o1
served turns left past status o0 o1 ends worldless usage = record {
  wrote = λ uncalled _. absurd (cc);
  worldless = λ runs. worldless;
  served = runs left turns status o0 o1 ends;
  complete = λ read written. tt;
  generated = tt;
  usage = λ is. absurd (usage is);
  only_usage = λ none. absurd (cc);
}

pub asked : (a : Ask) (left : Option (List ℕ)) (past : Option Past) (status : Status) (o0 o1 : Outside)
    → AskEnds a status o0 o1 → past ≡ None → status ≢ statuses.Usage → SaidClaims (Some (commands.Ask a)) left past status o0 o1
asked a left past status o0 o1 ends worldless usage = record {
  wrote = λ uncalled _. absurd (cc);
  worldless = λ runs. worldless;
  served = ends;
  complete = λ read written. tt;
  generated = tt;
  usage = λ is. absurd (usage is);
  only_usage = λ none. absurd (cc);
}

pub formatted : (left : Option (List ℕ)) (past : Option Past) (status : Status) (o0 o1 : Outside)
    → FormatEnds status o0 o1 → past ≡ None → status ≢ statuses.Usage → SaidClaims (Some commands.Format) left past status o0 o1
formatted left past status o0 o1 ends worldless usage = record {
  wrote = λ _ uncalled. absurd (cc);
  worldless = λ runs. worldless;
  served = ends;
  complete = λ read written. tt;
  generated = tt;
  usage = λ is. absurd (usage is);
  only_usage = λ none. absurd (cc);
}

-- ---- no command

usage_or_sink : (status : Status) → (status ≡ statuses.Usage) ⊎ (status ≡ statuses.Sink)
    → (status ≡ statuses.Usage) ⊎ ((status ≡ statuses.Sink) ⊎ (status ≡ statuses.Memory))
usage_or_sink status (inl usage) = inl usage
usage_or_sink status (inr sink) = inr (inl sink)

pub no_command : (left : Option (List ℕ)) (past : Option Past) (status : Status) (o0 o1 : Outside) → past ≡ None
    → (status ≡ statuses.Usage) ⊎ (status ≡ statuses.Sink) → (status ≡ statuses.Usage → Appends o0.text o1.text usage_line)
    → (status ≡ statuses.Sink → AppendsFront o0.text o1.text usage_line) → SaidClaims None left past status o0 o1
no_command left past status o0 o1 worldless is written begun = record {
  wrote = λ _ _. usage_written left status o0.text o1.text is written begun;
  worldless = λ runs. worldless;
  served = tt;
  complete = λ read unwritten. tt;
  generated = tt;
  usage = λ _. refl;
  only_usage = λ _. usage_or_sink status is;
}

-- nothing was done to a key file
nothing_made : (told : Option Disk) (past : Option (List Disk)) → FormatMoments told past past
nothing_made None past = tt
nothing_made (Some disk) past = since_none past (λ image. IsImage disk image ⊎ MayLeave (bytes_of disk) (place First) first_numbers image)

-- where no memory was left to read the words, all holds of the run that they may say
claimed : (said : Option Command) (left : Option (List ℕ)) (o : Outside) → SaidClaims said left None statuses.Memory o o
claimed None left o = record {
  wrote = λ _ _. refl;
  worldless = λ runs. refl;
  served = tt;
  complete = λ read written. tt;
  generated = tt;
  usage = λ _. refl;
  only_usage = λ _. inr (inr refl);
}
claimed (Some commands.Replay) left o = record {
  wrote = λ _ _. nothing_begun left o.text;
  worldless = λ runs. refl;
  served = tt;
  complete = λ read written. record { honest = λ tells. inr refl; bad = λ tells. inr refl };
  generated = tt;
  usage = λ is. absurd (cc);
  only_usage = λ _. inr (inr refl);
}
claimed (Some (commands.Generate number)) left o = record {
  wrote = λ _ _. refl;
  worldless = λ runs. refl;
  served = tt;
  complete = λ read written. tt;
  generated = inr (inr refl);
  usage = λ is. absurd (cc);
  only_usage = λ _. inr (inr refl);
}
claimed (Some (commands.Offline command)) left o = record {
  wrote = λ _ _. refl;
  worldless = λ runs. refl;
  served = tt;
  complete = λ read written. tt;
  generated = tt;
  usage = λ is. absurd (cc);
  only_usage = λ _. inr (inr refl);
}
claimed (Some commands.Verify) left o = record {
  wrote = λ _ _. refl;
  worldless = λ runs. refl;
  served = tt;
  complete = λ read written. tt;
  generated = tt;
  usage = λ is. absurd (cc);
  only_usage = λ _. inr (inr refl);
}
claimed (Some (commands.Daemon turns)) left o = record {
  wrote = λ _ _. refl;
  worldless = λ runs. refl;
  served = runs left turns statuses.Memory o o (inr (record { cause = inr refl; quiet = (refl, refl, refl); unwritten = refl }));
  complete = λ read written. tt;
  generated = tt;
  usage = λ is. absurd (cc);
  only_usage = λ _. inr (inr refl);
}
claimed (Some (commands.Ask a)) left o = record {
  wrote = λ _ _. refl;
  worldless = λ runs. refl;
  served = inr (inr (record { memory = refl; called = inl refl; unwritten = refl }));
  complete = λ read written. tt;
  generated = tt;
  usage = λ is. absurd (cc);
  only_usage = λ _. inr (inr refl);
}
claimed (Some commands.Format) left o = record {
  wrote = λ _ uncalled. absurd (cc);
  worldless = λ runs. refl;
  served = record { would = statuses.Keeper; line = refused_line keys.KeeperFault; makes = Keeper_failed; told = inr (inr (refl, refl)) };
  complete = λ read written. tt;
  generated = tt;
  usage = λ is. absurd (cc);
  only_usage = λ _. inr (inr refl);
}

pub forgotten : (words : List (List ℕ)) (left : Option (List ℕ)) (past : Option Past) (status : Status) (o : Outside) → past ≡ None → status ≡ statuses.Memory
    → BySaid words (λ said. SaidClaims said left past status o o)
forgotten words left past status o worldless memory = rw (worldless, memory) (inr (λ (said : Option Command). claimed said left o))

-- ---- the key file

-- where no memory was left to read the words, nothing was called
pub kept_by_said : (words : List (List ℕ)) (told : Option Disk) (past : Option (List Disk)) → BySaid words (λ said. KeepsFile said told past past)
kept_by_said words told past = inr (λ (said : Option Command). kept said)
  where
    kept : (said : Option Command) → KeepsFile said told past past
    kept None = refl
    kept (Some commands.Replay) = refl
    kept (Some (commands.Generate number)) = refl
    kept (Some (commands.Offline command)) = refl
    kept (Some commands.Verify) = refl
    kept (Some (commands.Daemon turns)) = kept_quiet told past
    kept (Some (commands.Ask a)) = refl
    kept (Some commands.Format) = nothing_made told past
