use Rattle.std.proofs.Common.{ap}
use Rattle.sp_schedule.specs.Feeds.{is_ready}
use Rattle.sp_replay.proofs.Begun.{whole_begins}
use Rattle.sp_replay.proofs.Lines.{forgotten_there, in_any_case, next_in_range, no_event_without_world, plays_begun, plays_event, so_far_begun, so_far_end}
use Rattle.sp_replay.proofs.Lines.{so_far_event, so_far_header}
use Rattle.sp_replay.proofs.line.play_line.Goals as goal

pub play_event-requires-clause-range : goal.play_event-requires-clause-range
play_event-requires-clause-range g c =
    let line = rw c.in-Ok-Event.field-0-is at c.in-Ok-Event.ensures.line in
    next_in_range c.scheduled_events_are_in_range.ensures c.args.feed.now.stage c.line.new.self.stage c.in-Some.world c.in-Ok-Event.event line.0.leads.parsed
    (rw c.in-Some.is at c.requires.so_far.done) c.in-Ok-Event.ensures.good_stage

pub returns-in-Ok-Header-clause-so_far : goal.returns-in-Ok-Header-clause-so_far
returns-in-Ok-Header-clause-so_far g c =
    let line = rw c.in-Ok-Header.field-0-is at c.in-Ok-Header.ensures.line in
    so_far_header c.args.feed.now c.line.new.self c.args.world.now c.requires.so_far line.0 c.in-Ok-Header.ensures.good_stage

pub returns-in-Ok-Ended-clause-so_far : goal.returns-in-Ok-Ended-clause-so_far
returns-in-Ok-Ended-clause-so_far g c =
    let line = rw c.in-Ok-Ended.field-0-is at c.in-Ok-Ended.ensures.line in
    so_far_end c.args.feed.now c.line.new.self c.args.world.now c.requires.so_far line.0 c.in-Ok-Ended.ensures.good_stage

pub returns-in-Ok-Began-clause-so_far : goal.returns-in-Ok-Began-clause-so_far
returns-in-Ok-Began-clause-so_far g c =
    let line = rw c.in-Ok-Began.field-0-is at c.in-Ok-Began.ensures.line in
    so_far_begun c.args.feed.now c.line.new.self c.args.world.now c.begin.new.world c.in-Ok-Began.scenario _ _ c.begin.result c.requires.so_far line.0
    c.in-Ok-Began.ensures.good_stage c.begin.ensures.begins

pub returns-in-Ok-Began-clause-plays : goal.returns-in-Ok-Began-clause-plays
returns-in-Ok-Began-clause-plays g c =
    let line = rw c.in-Ok-Began.field-0-is at c.in-Ok-Began.ensures.line in
    plays_begun c.args.feed.now c.line.new.self c.args.world.now c.begin.new.world c.in-Ok-Began.scenario _ _ c.begin.result c.requires.so_far line.0
    c.in-Ok-Began.ensures.good_stage line.1
    c.reads_on.ensures.more c.reads_on-in-Ok-Began.ensures.more c.begin.ensures.begins

pub returns-in-Err-Memory-clause-plays : goal.returns-in-Err-Memory-clause-plays
returns-in-Err-Memory-clause-plays g c = λ start written.
    forgotten_there c.args.feed.now c.args.world.now start _ c.reads_on.ensures.more c.requires.so_far.done c.are_runs.ensures (whole_begins start _ _ written)

pub returns-in-Some-clause-so_far : goal.returns-in-Some-clause-so_far
returns-in-Some-clause-so_far g c =
    let line = rw c.in-Ok-Event.field-0-is at c.in-Ok-Event.ensures.line in
    so_far_event c.args.feed.now c.line.new.self c.in-Some.world c.play_event.new.world c.in-Ok-Event.event _ _ c.play_event.result
    (rw c.in-Some.is at c.requires.so_far) line.0
    c.in-Ok-Event.ensures.good_stage c.play_event.ensures.notes

pub returns-in-Some-clause-plays : goal.returns-in-Some-clause-plays
returns-in-Some-clause-plays g c =
    let line = rw c.in-Ok-Event.field-0-is at c.in-Ok-Event.ensures.line in
    rw c.in-Some.is
    (plays_event c.args.feed.now c.line.new.self c.in-Some.world c.play_event.new.world c.in-Ok-Event.event _ _ (rw c.in-Some.is at c.requires.so_far) line.0
    c.in-Ok-Event.ensures.good_stage line.1 c.reads_on.ensures.more c.reads_on-in-Ok-Event.ensures.more (rw c.in-Some.is at c.are_runs.ensures)
    c.play_event.ensures.run c.play_event.result
    c.play_event.ensures.notes)

pub returns-in-Ok-Header-clause-next : goal.returns-in-Ok-Header-clause-next
returns-in-Ok-Header-clause-next g c = ap is_ready (rw c.in-Ok-Header.field-0-is at c.in-Ok-Header.ensures.line).0.waiting

pub returns-in-Ok-Header-clause-text : goal.returns-in-Ok-Header-clause-text
returns-in-Ok-Header-clause-text g c = (rw c.in-Ok-Header.field-0-is at c.in-Ok-Header.ensures.line).1

pub returns-in-Ok-Header-clause-plays : goal.returns-in-Ok-Header-clause-plays
returns-in-Ok-Header-clause-plays g c = λ start written. written

pub returns-in-Ok-Ended-clause-next : goal.returns-in-Ok-Ended-clause-next
returns-in-Ok-Ended-clause-next g c = ap is_ready (rw c.in-Ok-Ended.field-0-is at c.in-Ok-Ended.ensures.line).0.waiting

pub returns-in-Ok-Ended-clause-text : goal.returns-in-Ok-Ended-clause-text
returns-in-Ok-Ended-clause-text g c = (rw c.in-Ok-Ended.field-0-is at c.in-Ok-Ended.ensures.line).1

pub returns-in-Ok-Ended-clause-plays : goal.returns-in-Ok-Ended-clause-plays
returns-in-Ok-Ended-clause-plays g c = λ start written. written

pub returns-in-Ok-Began-clause-next : goal.returns-in-Ok-Began-clause-next
returns-in-Ok-Began-clause-next g c =
    in_any_case c.begin.result (ap is_ready (rw c.in-Ok-Began.field-0-is at c.in-Ok-Began.ensures.line).0.waiting)

pub returns-in-Ok-Began-clause-text : goal.returns-in-Ok-Began-clause-text
returns-in-Ok-Began-clause-text g c = in_any_case c.begin.result (rw c.in-Ok-Began.field-0-is at c.in-Ok-Began.ensures.line).1

pub returns-in-Some-clause-next : goal.returns-in-Some-clause-next
returns-in-Some-clause-next g c =
    in_any_case c.play_event.result (ap is_ready (rw c.in-Ok-Event.field-0-is at c.in-Ok-Event.ensures.line).0.waiting)

pub returns-in-Some-clause-text : goal.returns-in-Some-clause-text
returns-in-Some-clause-text g c = in_any_case c.play_event.result (rw c.in-Ok-Event.field-0-is at c.in-Ok-Event.ensures.line).1

pub unreachable-requires : goal.unreachable-requires
unreachable-requires g c =
    let line = rw c.in-Ok-Event.field-0-is at c.in-Ok-Event.ensures.line in
    no_event_without_world c.args.feed.now.stage c.line.new.self.stage c.in-Ok-Event.event line.0.leads.parsed (rw c.in-None.is at c.requires.so_far.done)
