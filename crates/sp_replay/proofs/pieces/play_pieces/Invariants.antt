use Rattle.std.proofs.Common.{◌≡◌, ◌<◌, ◌≤◌, ◌-◌, false, length}
use Rattle.std.specs.Io.KnownBytes.{Appends, Consumes}
use Rattle.sp_base.specs.declared.limits.TheConstants.{MAX_INPUT_BYTES}
use Rattle.sp_schedule.specs.Feeds.{is_ready, text_of}
use Rattle.sp_replay.specs.Outputs.{lines_before}
use Rattle.sp_replay.specs.Playing.{SoFar}
use Rattle.sp_replay.proofs.pieces.play_pieces.Given as goal

abbrev pub invariant-pieces : goal.invariant-pieces
invariant-pieces g l = record {
  total : length (text_of l.feed) ≡ l.total;
  within : l.total ≤ MAX_INPUT_BYTES;
  next : is_ready l.feed.waiting ≡ false;
  so_far : SoFar l.feed l.world;
  taken : Consumes (g.S.Source.left l.fn.source) (g.S.Source.left l.source) (text_of l.feed);
  written : Appends (g.K.Sink.contents l.fn.sink) (g.K.Sink.contents l.sink) (lines_before l.world);
  counts : g.K.Sink.faults l.sink ≡ g.K.Sink.faults l.fn.sink;
  read : g.S.Source.faults l.source ≡ g.S.Source.faults l.fn.source;
  room : 0 < length l.buffer;
}

abbrev pub decreases-pieces : goal.decreases-pieces
decreases-pieces g l = MAX_INPUT_BYTES - l.total
