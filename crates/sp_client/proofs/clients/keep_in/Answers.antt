use Rattle.std.proofs.Common.{◌≡◌, ◌∙◌, ◌+◌, ap, arith, length, sym}
use Rattle.std.proofs.lemmas.List.{length_push}
use Rattle.sp_rules.proofs.ChoiceLemmas.{find-no_position}
use Rattle.sp_client.specs.Tables.{has_port}
use Rattle.sp_client.proofs.TableLemmas.{begun, went_on}
use Rattle.sp_client.proofs.clients.keep_in.Goals as goal

pub push_in_room-requires : goal.push_in_room-requires
push_in_room-requires c =
    omega (
      arith,
      c.requires.room,
      c.requires.begins (find-no_position (has_port c.args.port) c.args.sessions.now.items (sym (rw c.deref.ensures.value at c.in_default.ensures.place))),
    )

pub returns-in_default-clause-sessions : goal.returns-in_default-clause-sessions
returns-in_default-clause-sessions c =
    rw (c.push_in_room.ensures.items, c.new-session.ensures)
    (begun c.args.sessions.now.items c.args.port c.args.request.now c.args.kept.items (sym (rw c.deref.ensures.value at c.in_default.ensures.place)))

pub returns-in_default-clause-few : goal.returns-in_default-clause-few
returns-in_default-clause-few c =
    let begins =
    c.requires.begins (find-no_position (has_port c.args.port) c.args.sessions.now.items (sym (rw c.deref.ensures.value at c.in_default.ensures.place))) in
    let longer : length c.push_in_room.new.items.items ≡ length c.args.sessions.now.items + 1 =
    ap length c.push_in_room.ensures.items ∙ length_push c.args.sessions.now.items c.new-session.result in
    omega (arith, longer, begins)

pub returns-else-is_close-clause-sessions : goal.returns-else-is_close-clause-sessions
returns-else-is_close-clause-sessions c =
    rw c.new-session.ensures
    (went_on c.args.sessions.now.items c.args.port c.args.request.now c.args.kept.items c.in-Some.place
    (sym (rw c.deref.ensures.value at c.in-Some.ensures.place)) (sym c.if-is_close.ensures))
