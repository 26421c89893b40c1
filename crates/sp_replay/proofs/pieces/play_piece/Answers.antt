use Rattle.std.proofs.Common.{◌∙◌, sym, arith, length-drop}
use Rattle.std.proofs.lemmas.List.{take_rest}
use Rattle.sp_schedule.specs.Feeds.{text_of}
use Rattle.sp_replay.proofs.Feeding.{halts_in, plays_err, so_far_push, text_on}
use Rattle.sp_replay.proofs.pieces.play_piece.Goals as goal

pub play_line-requires-clause-so_far : goal.play_line-requires-clause-so_far
play_line-requires-clause-so_far g c =
    so_far_push c.lines.feed c.push-done.new.self c.lines.world _ c.push-done.result c.lines.invariant.so_far c.push-done.ensures.piece

pub lines-preserved-in-Continue-1 : goal.lines-preserved-in-Continue-1
lines-preserved-in-Continue-1 g c =
    let takes = rw take_rest at c.push-done.ensures.piece in
    let text = text_on (text_of c.args.feed.now) (text_of c.lines.feed) (text_of c.push-done.new.self) c.args.piece.now c.lines.done c.push-done.result
    c.lines.invariant.text
    (rw take_rest at c.push-done.ensures.text) in
    record {
      within = omega (arith, takes.within, length-drop c.lines.done c.args.piece.now, c.lines.invariant.within);
      text = c.in_ok-play_line.ensures.text ∙ text;
      next = c.in_ok-play_line.ensures.next;
      so_far = c.in_ok-play_line.ensures.so_far;
      written = λ start written. c.in_ok-play_line.ensures.plays start (c.lines.invariant.written start written);
      counts = c.in_ok-play_line.ensures.counts ∙ c.lines.invariant.counts;
    }

pub returns-in_err-play_line-clause-plays : goal.returns-in_err-play_line-clause-plays
returns-in_err-play_line-clause-plays g c =
    let text = text_on (text_of c.args.feed.now) (text_of c.lines.feed) (text_of c.push-done.new.self) c.args.piece.now c.lines.done c.push-done.result
    c.lines.invariant.text
    (rw take_rest at c.push-done.ensures.text) in
    plays_err _ c.args.world.now c.play_line.new.world _ _ c.from_residual.result c.in_err-play_line.field-0.0 c.from_residual.ensures.1
    (λ start written.
    halts_in (text_of c.args.feed.now) (text_of c.push-done.new.self) c.args.piece.now _ c.play_line.new.world start _ c.in_err-play_line.field-0.0 text
    (c.in_err-play_line.ensures.plays start (c.lines.invariant.written start written)))

pub lines-preserved : goal.lines-preserved
lines-preserved g c =
    let takes = rw take_rest at c.push-done.ensures.piece in
    let text = text_on (text_of c.args.feed.now) (text_of c.lines.feed) (text_of c.push-done.new.self) c.args.piece.now c.lines.done c.push-done.result
    c.lines.invariant.text
    (rw take_rest at c.push-done.ensures.text) in
    record {
      within = omega (arith, takes.within, length-drop c.lines.done c.args.piece.now, c.lines.invariant.within);
      text = text;
      next = sym c.ready.ensures ∙ c.if-ready.false;
      so_far = so_far_push c.lines.feed c.push-done.new.self c.lines.world _ c.push-done.result c.lines.invariant.so_far c.push-done.ensures.piece;
      written = c.lines.invariant.written;
      counts = c.lines.invariant.counts;
    }
