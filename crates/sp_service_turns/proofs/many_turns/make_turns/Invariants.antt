use Rattle.std.proofs.Common.{◌≡◌, ◌≤◌}
use Rattle.sp_service_turns.specs.Daemons.{HasMade}
use Rattle.sp_service_turns.specs.Keys.{HoldsKeys, KeepsKeys, KeysGoOn}
use Rattle.sp_service_turns.proofs.many_turns.make_turns.Given as goal

abbrev pub invariant-turns : goal.invariant-turns
invariant-turns g l = record {
  made : HasMade g.N.Core.steps g.N.Core.indexes l._made l.fn.daemon l.daemon
      (record {
        wire = g.W.Wire.told l.fn.wire;
        clock = g.C.Clock.told l.fn.clock;
        text = g.K.Sink.contents l.fn.sink;
        file = record { disk = g.P.Keeper.disk l.fn.keeper; past = g.P.Keeper.past l.fn.keeper; faults = g.P.Keeper.faults l.fn.keeper };
      })
      (record {
        wire = g.W.Wire.told l.wire;
        clock = g.C.Clock.told l.clock;
        text = g.K.Sink.contents l.sink;
        file = record { disk = g.P.Keeper.disk l.keeper; past = g.P.Keeper.past l.keeper; faults = g.P.Keeper.faults l.keeper };
      });
  counted : l.daemon.turns ≡ l._made;
  held : HoldsKeys (g.P.Keeper.disk l.keeper) l.daemon.keys (g.N.Core.indexes l.daemon.node);
  later : g.K.Sink.faults l.fn.sink ≤ g.K.Sink.faults l.sink;
  sunk : g.K.Sink.faults l.sink ≡ g.K.Sink.faults l.fn.sink;
  on : KeysGoOn l.fn.daemon.keys l.daemon.keys (g.P.Keeper.disk l.fn.keeper) (g.P.Keeper.disk l.keeper);
  kept : KeepsKeys l.fn.daemon.keys (g.P.Keeper.disk l.fn.keeper) (g.P.Keeper.past l.fn.keeper) (g.P.Keeper.past l.keeper);
  faultless : g.P.Keeper.faults l.keeper ≡ g.P.Keeper.faults l.fn.keeper;
  opens : g.W.Wire.failed_opens l.wire ≡ g.W.Wire.failed_opens l.fn.wire;
}
