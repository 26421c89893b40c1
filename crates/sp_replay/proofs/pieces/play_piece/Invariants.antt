use Rattle.std.proofs.Common.{◌≡◌, ◌≤◌, ◌-◌, ◌++◌, ℕ, List, Option, false, length, take}
use Rattle.std.specs.Io.KnownBytes.{Appends}
use Rattle.sp_schedule.specs.Feeds.{is_ready, text_of}
use Rattle.sp_replay.specs.Outputs.{lines_before}
use Rattle.sp_replay.specs.Playing.{SoFar}
use Rattle.sp_replay.proofs.pieces.play_piece.Given as goal

abbrev pub invariant-lines : goal.invariant-lines
invariant-lines g l = record {
  within : l.done ≤ length l.piece;
  text : text_of l.feed ≡ text_of l.fn.feed ++ take l.done l.piece;
  next : is_ready l.feed.waiting ≡ false;
  so_far : SoFar l.feed l.world;
  written : (start : Option (List ℕ)) → Appends start (g.K.Sink.contents l.fn.sink) (lines_before l.fn.world)
      → Appends start (g.K.Sink.contents l.sink) (lines_before l.world);
  counts : g.K.Sink.faults l.sink ≡ g.K.Sink.faults l.fn.sink;
}

abbrev pub decreases-lines : goal.decreases-lines
decreases-lines g l = length l.piece - l.done
