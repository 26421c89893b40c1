use Rattle.std.proofs.Common.{refl, vec_capacity}
use Rattle.sp_forgery.specs.Whats.{IsShort, what_of}
use Rattle.sp_world.proofs.Arriving.{is_found, is_heard, when_heard}
use Rattle.sp_world.proofs.arrivals.arrive.Goals as goal

pub copied-what-requires-clause-short : goal.copied-what-requires-clause-short
copied-what-requires-clause-short c =
    let known = c.args.known.now in
    let room = vec_capacity c.in_ok-words.field-0.kept in
    when_heard known.scenario.now known.events.now known.journal.now c.args.nodes.now.items c.hear.new.nodes.items c.args.directions.now c.args.u c.args.v
    c.args.bytes.now c.in_ok-step.step known.signature_len (IsShort room c.in-Some.found) c.requires.can c.in_ok-step.ensures.heard
    (λ n new long same called gave. c.in-Some.ensures.short n new long same called gave room c.in_ok-words.ensures.kept.1 c.in_ok-words.ensures.kept.2)

pub copied-told-requires-clause-short : goal.copied-told-requires-clause-short
copied-told-requires-clause-short c =
    let known = c.args.known.now in
    let room = vec_capacity c.in_ok-words.field-0.told in
    when_heard known.scenario.now known.events.now known.journal.now c.args.nodes.now.items c.hear.new.nodes.items c.args.directions.now c.args.u c.args.v
    c.args.bytes.now c.in_ok-step.step known.signature_len (IsShort room c.in-Some.found) c.requires.can c.in_ok-step.ensures.heard
    (λ n new long same called gave. c.in-Some.ensures.short n new long same called gave room c.in_ok-words.ensures.told.1 c.in_ok-words.ensures.told.2)

pub returns-in-Some-clause-arrives : goal.returns-in-Some-clause-arrives
returns-in-Some-clause-arrives c =
    let known = c.args.known.now in
    rw (c.forget.ensures, c.copied-what.ensures, c.copied-told.ensures) (
      is_found known.scenario.now known.events.now known.journal.now c.args.nodes.now.items c.hear.new.nodes.items c.args.directions.now c.args.u c.args.v
          c.args.bytes.now c.in_ok-step.step known.signature_len (what_of c.in-Some.found) c.requires.can c.in_ok-step.ensures.heard c.in-Some.ensures.judged,
      refl,
    )

pub returns-in-None-clause-arrives : goal.returns-in-None-clause-arrives
returns-in-None-clause-arrives c =
    let known = c.args.known.now in
    is_heard known.scenario.now known.events.now known.journal.now c.args.nodes.now.items c.hear.new.nodes.items c.args.directions.now c.args.u c.args.v
    c.args.bytes.now c.in_ok-step.step known.signature_len c.arrived.result c.requires.can c.in_ok-step.ensures.heard c.in-None.ensures.judged
    c.arrived.ensures
