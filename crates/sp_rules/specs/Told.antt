-- Effects that an event tells one after another.
use Rattle.std.specs.Prelude.{◌-◌, List, ◌++◌, length}
use Rattle.sp_msg.specs.Caused.{Caused}
use Rattle.sp_msg.specs.declared.effect.Effect.{Effect}

-- these effects are told after the ones before; each uses one of the room
abbrev pub told : Caused → List Effect → Caused
told c effects = record { list = c.list ++ effects; room = c.room - length effects }
