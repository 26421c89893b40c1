use Rattle.std.proofs.Common.{rules}
use Rattle.sp_keystate.proofs.StateLemmas.{keeps_meanwhile, sound_after, stands_found}
use Rattle.sp_keystate.proofs.key_state.KeyState.change_to.Goals as goal

pub returns-clause-stands : goal.returns-clause-stands
returns-clause-stands g c =
    stands_found _ _ c.args.self.now c.found.result c.other-slot.result c.args.bound c.args.boot c.other-slot.ensures
    (record { serial = c.requires.serial; bound = search rules; boot = search rules })
    c.requires.stands c.in_ok-change.ensures.done c.found.ensures.state c.found.ensures.current

pub returns-clause-sound : goal.returns-clause-sound
returns-clause-sound g c =
    sound_after _ _ c.args.self.now c.found.result c.other-slot.result c.args.bound c.args.boot c.other-slot.ensures
    (record { serial = c.requires.serial; bound = search rules; boot = search rules })
    c.requires.stands c.in_ok-change.ensures.done c.found.ensures.state

pub returns-clause-kept : goal.returns-clause-kept
returns-clause-kept g c =
    keeps_meanwhile _ _ _ c.args.self.now c.other-slot.result c.args.bound c.args.boot c.other-slot.ensures
    (record { serial = c.requires.serial; bound = search rules; boot = search rules })
    c.requires.bound c.requires.boot c.in_ok-change.ensures.moments

pub returns-in_err-change-clause-kept : goal.returns-in_err-change-clause-kept
returns-in_err-change-clause-kept g c =
    keeps_meanwhile _ _ _ c.args.self.now c.other-slot.result c.args.bound c.args.boot c.other-slot.ensures
    (record { serial = c.requires.serial; bound = search rules; boot = search rules })
    c.requires.bound c.requires.boot c.in_err-change.ensures.moments
