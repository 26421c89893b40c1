use Rattle.std.proofs.Common.{rules}
use Rattle.sp_keystate.specs.Starting.{NoStart}
use Rattle.sp_keystate.proofs.StartingLemmas.{keeps_boot, keeps_open, keeps_reserve, starts, starts_safely, unbooted, unreserved}
use Rattle.sp_keystate.proofs.starts.start.Goals as goal

pub returns-clause-started : goal.returns-clause-started
returns-clause-started g c =
    starts _ _ _ _ c.in_ok-state.state c.next_boot.new.self c.reserve.new.self c.args.n c.args.total c.in_ok-state.ensures.state
    c.in_ok-next_boot.ensures.answer
    c.in_ok-next_boot.ensures.state c.in_ok-reserve.ensures.answer c.in_ok-reserve.ensures.state c.in_ok-reserve.ensures.serial c.in_ok-next_boot.ensures.file
    c.in_ok-reserve.ensures.file

pub returns-clause-safe : goal.returns-clause-safe
returns-clause-safe g c =
    starts_safely _ _ _ _ _ _ _ _ _ _ c.in_ok-state.ensures.state c.in_ok-next_boot.ensures.file c.in_ok-reserve.ensures.file c.in_ok-reserve.ensures.sound

pub returns-in_err-state-clause-kept : goal.returns-in_err-state-clause-kept
returns-in_err-state-clause-kept g c = keeps_open _ _ _ c.in_err-state.ensures.moments

pub returns-in_err-next_boot-clause-kept : goal.returns-in_err-next_boot-clause-kept
returns-in_err-next_boot-clause-kept g c =
    keeps_boot _ _ _ _ _ c.in_ok-state.state c.in_ok-state.ensures.state (keeps_open _ _ _ c.in_ok-state.ensures.moments) c.in_err-next_boot.ensures.kept

pub returns-in_err-reserve-clause-kept : goal.returns-in_err-reserve-clause-kept
returns-in_err-reserve-clause-kept g c =
    keeps_reserve _ _ _ _ _ _ c.in_ok-state.state c.next_boot.new.self _ _ c.in_ok-state.ensures.state c.in_ok-next_boot.ensures.state
    c.in_ok-next_boot.ensures.file c.in_ok-next_boot.ensures.sound
    (keeps_boot _ _ _ _ _ c.in_ok-state.state c.in_ok-state.ensures.state (keeps_open _ _ _ c.in_ok-state.ensures.moments) c.in_ok-next_boot.ensures.kept)
    c.in_err-reserve.ensures.kept

pub returns-clause-kept : goal.returns-clause-kept
returns-clause-kept g c =
    keeps_reserve _ _ _ _ _ _ c.in_ok-state.state c.next_boot.new.self _ _ c.in_ok-state.ensures.state c.in_ok-next_boot.ensures.state
    c.in_ok-next_boot.ensures.file c.in_ok-next_boot.ensures.sound
    (keeps_boot _ _ _ _ _ c.in_ok-state.state c.in_ok-state.ensures.state (keeps_open _ _ _ c.in_ok-state.ensures.moments) c.in_ok-next_boot.ensures.kept)
    c.in_ok-reserve.ensures.kept

pub returns-in_err-next_boot-clause-refused : goal.returns-in_err-next_boot-clause-refused
returns-in_err-next_boot-clause-refused g c =
    let no : NoStart (g.P.Keeper.disk c.args.keeper.now) c.args.total c.in_err-next_boot.field-0.0 =
    unbooted _ _ c.args.total c.in_ok-state.state c.in_err-next_boot.field-0.0 c.in_ok-state.ensures.state c.in_err-next_boot.ensures.answer in
    search rules

pub returns-in_err-reserve-clause-refused : goal.returns-in_err-reserve-clause-refused
returns-in_err-reserve-clause-refused g c =
    let no : NoStart (g.P.Keeper.disk c.args.keeper.now) c.args.total c.in_err-reserve.field-0.0 =
    unreserved _ _ c.args.total c.in_ok-state.state c.next_boot.new.self c.in_err-reserve.field-0.0 c.in_ok-state.ensures.state c.in_ok-next_boot.ensures.state
    c.in_err-reserve.ensures.answer in
    search rules
