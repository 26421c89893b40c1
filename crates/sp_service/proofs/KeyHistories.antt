-- The runs of daemons as starts of a history of their key.
use Rattle.std.proofs.Common.{◌≡◌, ℕ, ◌<◌, List, [], Option, Some, sym, subst, lit<}
use Rattle.std.proofs.lemmas.Bool.{eqb-true}
use Rattle.std.specs.Prelude.{◌^◌}
use Rattle.laws_keystate.specs.Histories.{IsSomeSound}
use Rattle.laws_keystate.specs.RunMoments.{LeavesBetween}
use Rattle.laws_keystate.specs.Runs.{IsStopped, TakesNext, indexes_at}
use Rattle.laws_keystate.proofs.MomentLemmas.{each_moment, start_moments}
use Rattle.laws_keystate.proofs.StoppedLemmas.{no_run_signs_again}
use Rattle.sp_base.specs.declared.format.TheConstants.{FORMAT_2}
use Rattle.sp_config.specs.declared.config.Config.{Config}
use Rattle.sp_hss.specs.KeyTree.{total}
use Rattle.sp_keystate.proofs.Since.{since_none}
use Rattle.sp_keystate.specs.Starting.{KeepsAll, Starts}
use Rattle.sp_keystate.specs.declared.starts.Started.{Started}
use Rattle.sp_keystate.specs.declared.starts.TheConstants.{RESERVED}
use Rattle.sp_outside.specs.Disk.{Disk, still}
use Rattle.sp_service.specs.KeyLaws.{DaemonsAreRuns, NoDaemonSignsAgain}
use Rattle.sp_service.specs.NodeParts.{node_signer, peers_of}
use Rattle.sp_service.specs.Served.{Is_served, No_memory, No_node, Refusal, Unopened, ports_of}
use Rattle.sp_service.specs.Starts.{IsStarted, node_config, total_of}
use Rattle.sp_service.proofs.Openings.{is_opening}
use Rattle.sp_service_station.specs.Stations.{Station, StationStep, indexes_in, node_of}
use Rattle.sp_service_station.proofs.Boots.{takes_at_start}
use Rattle.sp_service_station.proofs.Order.{in_order}
use Rattle.sp_service_turns.specs.Outside.{KeptFile, Outside}
use Rattle.sp_service_turns.specs.Served.{FailsToOpen, No_start, No_wire, opening_of}
use Rattle.sp_service_turns.specs.declared.served.Served.{Served}
use Rattle.sp_sign.specs.Heights.{param_of}
use Rattle.sp_topology.specs.declared.topology.LmsHeight.{LmsHeight}
use Rattle.sp_topology.specs.declared.topology.LmsHeight.TheVariants as heights
use Rattle.sp_topology.specs.declared.topology.Topology.{Topology}

few_indexes : (height : LmsHeight) → total (param_of height) < 2 ^ 64
few_indexes heights.Five = lit< tt
few_indexes heights.Ten = lit< tt

-- the node that starts took the next of the start's indexes, or none
takes_first : {told now : Option Disk} (c : Config) (t : Topology) (started : Started) (start : Station) → Starts told now RESERVED (total_of t) started
    → IsStarted c t (opening_of started) start → TakesNext (indexes_at (total_of t) started) (indexes_in start)
takes_first c t started start starts is =
    let opens = is_opening t _ _ started starts in
    takes_at_start (node_config c t) (node_signer c t.height started.first started.state.bound) started.state.boot (node_of start) is.node
    (λ on. opens.announces (eqb-true t.format FORMAT_2 on))

module _ (found : List ℕ) (sound : IsSomeSound found) where
  abbrev Leaves : KeptFile → KeptFile → Type 0
  Leaves before after = LeavesBetween StationStep indexes_in found [] before after

  untouched : (before after : KeptFile) → after ≡ before → Leaves before after
  untouched before after same = subst (λ (f : KeptFile). Leaves before f) (sym same) (since_none before.past (IsStopped StationStep indexes_in found []))

  started : (before after : KeptFile) → before.disk ≡ Some (still found) → KeepsAll before.disk before.past after.past → Leaves before after
  started before after is kept =
      start_moments StationStep indexes_in found before after sound (subst (λ (d : Option Disk). KeepsAll d before.past after.past) is kept)

  fails : (c : Config) (t : Topology) (before after : Outside) (ended : Served) → before.file.disk ≡ Some (still found)
      → FailsToOpen (ports_of c) (total_of t) before after ended → Leaves before.file after.file
  fails c t before after ended is (No_wire unopened told) = untouched before.file after.file unopened.untouched
  fails c t before after ended is (No_start refused unstarted told) = started before.file after.file is unstarted.kept

pub they_are_runs : DaemonsAreRuns
they_are_runs text is_cut count before after ended (Refusal out refusal quiet told) found is sound = untouched found sound before.file after.file quiet.2
they_are_runs text is_cut count before after ended (Unopened c t whole configured fails_so) found is sound =
    fails found sound c t before after ended is fails_so
they_are_runs text is_cut count before after ended (No_node c t taken whole configured opened memory) found is sound =
    started found sound before.file after.file is opened.kept
they_are_runs text is_cut count before after ended (Is_served c t whole configured opened) found is sound =
    each_moment StationStep indexes_in in_order (ports_of c) (total_of t) found opened.started (peers_of c) count opened.start ended before opened.between after
    (few_indexes t.height) is sound opened.opened (takes_first c t opened.started opened.start opened.opened.starts opened.is_start) opened.ends
they_are_runs text is_cut count before after ended (No_memory quiet unwritten memory) found is sound = untouched found sound before.file after.file quiet.2

pub none_signs_again : NoDaemonSignsAgain
none_signs_again = no_run_signs_again StationStep indexes_in in_order
