-- What is read as the text of a recording is what a daemon writes: its first line, the lines of its turns, and its end line, where it has one.
use Rattle.std.specs.Prelude.{ℕ, ◌≡◌, List, ◌++◌, None, Some}
use Rattle.sp_recording.specs.RecordingText.{lines_text, recording_text}
use Rattle.sp_recording.specs.declared.line.Closing.{Closing}
use Rattle.sp_recording.specs.declared.line.Line.{Line}
use Rattle.sp_recording.specs.declared.line.Opening.{Opening}
use Rattle.sp_service_turns.specs.Daemons.{first_text, last_text}

abbrev pub RecordingsAreWritten : Type 0
RecordingsAreWritten = (o : Opening) (ls : List Line) (c : Closing)
    → (recording_text o ls (Some c) ≡ first_text o ++ (lines_text ls ++ last_text c)) × (recording_text o ls None ≡ first_text o ++ lines_text ls)
