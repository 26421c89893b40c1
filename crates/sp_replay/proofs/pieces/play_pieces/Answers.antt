use Rattle.std.proofs.Common.{◌∙◌, ◌++◌, true, false, refl, ap, arith, length, take}
use Rattle.std.proofs.KnownBytes.{Appends-nil}
use Rattle.sp_schedule.specs.Feeds.{text_of}
use Rattle.sp_replay.proofs.Begun.{halts_at}
use Rattle.sp_replay.proofs.Feeding.{broken_off, consumes_none, fresh, input_ended, not_whole, piece_all, piece_cut, piece_input, piece_length, read_to}
use Rattle.sp_replay.proofs.pieces.play_pieces.Goals as goal

pub pieces-init : goal.pieces-init
pieces-init g c =
    let first = fresh c.args.feed.now (g.S.Source.left c.args.source.now) c.requires.unfed in
    record {
      total = first.total;
      within = omega arith;
      next = first.next;
      so_far = rw c.requires.worldless first.so_far;
      taken = first.taken;
      written = rw c.requires.worldless (Appends-nil (g.K.Sink.contents c.args.sink.now));
      counts = refl;
      read = refl;
      room = c.requires.room;
    }

pub returns-in_default-clause-halts : goal.returns-in_default-clause-halts
returns-in_default-clause-halts g c =
    let i = c.pieces.invariant in
    broken_off _ _ _ c.pieces.feed c.pieces.world _ _ i.taken c.in_default.ensures.bytes (omega (arith, i.total, i.within)) i.so_far i.next i.written
    c.reads_on.ensures.more c.are_runs.ensures

pub returns-then-count-eq0-clause-halts : goal.returns-then-count-eq0-clause-halts
returns-then-count-eq0-clause-halts g c =
    let i = c.pieces.invariant in
    let none = c.if-count-eq0.true in
    let taken = consumes_none _ _ _ (text_of c.pieces.feed) (take c.in-Ok.count c.read.new.buf) i.taken c.in-Ok.ensures.bytes.0 (rw none refl) in
    read_to _ c.pieces.feed false c.pieces.world _ _ c.finish.result
    (input_ended _ _ (text_of c.pieces.feed) taken (c.in-Ok.ensures.bytes.1 none (omega (arith, i.room))) (omega (arith, i.total, i.within)))
    i.so_far c.finish.ensures i.written

pub returns-in-Err-clause-halts : goal.returns-in-Err-clause-halts
returns-in-Err-clause-halts g c =
    let i = c.pieces.invariant in
    halts_at _ _ (text_of c.pieces.feed ++ take c.min-taken.result c.read.new.buf) c.play_piece.new.world _ _ c.in-Err.halt
    (piece_input _ _ _ (text_of c.pieces.feed) c.read.new.buf c.in-Ok.count c.min-taken.result c.pieces.total i.taken c.in-Ok.ensures.bytes.0 i.total
    i.within c.in-Ok.ensures.bound.0 c.min-taken.ensures)
    (c.in-Err.ensures.plays _ i.written)

pub returns-then-taken-count-clause-halts : goal.returns-then-taken-count-clause-halts
returns-then-taken-count-clause-halts g c =
    let i = c.pieces.invariant in
    let text = c.in_default-play_piece.ensures.text in
    let cut = piece_cut _ _ _ (text_of c.pieces.feed) c.read.new.buf c.in-Ok.count c.min-taken.result c.pieces.total i.taken c.in-Ok.ensures.bytes.0 i.total
    i.within c.in-Ok.ensures.bound.0 c.min-taken.ensures c.if-taken-count.true in
    read_to _ c.play_piece.new.feed true c.play_piece.new.world _ _ c.finish-then-taken-count.result (rw text cut) c.in_default-play_piece.ensures.so_far
    c.finish-then-taken-count.ensures
    (c.in_default-play_piece.ensures.plays _ i.written)

pub pieces-preserved : goal.pieces-preserved
pieces-preserved g c =
    let i = c.pieces.invariant in
    let text = c.in_default-play_piece.ensures.text in
    let all = piece_all _ _ _ (text_of c.pieces.feed) c.read.new.buf c.in-Ok.count c.min-taken.result c.pieces.total i.taken c.in-Ok.ensures.bytes.0 i.total
    i.within c.in-Ok.ensures.bound.0 c.min-taken.ensures c.if-taken-count.false in
    let long = piece_length _ _ _ (text_of c.pieces.feed) c.read.new.buf c.in-Ok.count c.min-taken.result c.pieces.total i.taken c.in-Ok.ensures.bytes.0 i.total
    i.within c.in-Ok.ensures.bound.0 c.min-taken.ensures in
    record {
      total = ap length text ∙ long;
      within = omega (arith, c.min-taken.ensures, i.within);
      next = c.in_default-play_piece.ensures.next;
      so_far = c.in_default-play_piece.ensures.so_far;
      taken = rw text all;
      written = c.in_default-play_piece.ensures.plays _ i.written;
      counts = c.in_default-play_piece.ensures.counts ∙ i.counts;
      read = c.in-Ok.ensures.cause.fine ∙ i.read;
      room = omega (arith, i.room);
    }

pub returns-in-Err-clause-ended : goal.returns-in-Err-clause-ended
returns-in-Err-clause-ended g c = λ is.
    absurd (not_whole _ _ _ _ c.in-Err.halt (c.in-Err.ensures.plays _ c.pieces.invariant.written) is)
