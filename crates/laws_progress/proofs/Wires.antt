-- What a frame tells of a flow, as its head and sections are read; and that a frame which was made tells the same in every later state.
use Rattle.std.proofs.Common.{◌≡◌, ◌≤◌, ℕ, ◌==◌, ◌&&◌, Bool, true, false, List, [], ◌∷◌, Option, Some, None, Result, Ok, Err, ap, if◌then◌else◌}
use Rattle.sp_base.specs.declared.id.NodeId.{NodeId}
use Rattle.sp_base.specs.declared.id.Flow.{Flow}
use Rattle.sp_frame.specs.Reliable.{Report}
use Rattle.sp_frame.specs.Sections.{Contents}
use Rattle.sp_frame.specs.declared.refused.SectionRefused.{SectionRefused}
use Rattle.sp_msg.specs.declared.kept.Kept.{Kept}
use Rattle.sp_rules.specs.Arts.{Arts}
use Rattle.sp_rules.specs.Flow.{number_said}
use Rattle.sp_runs.specs.Runs.{polls}
use Rattle.sp_runs.specs.Settings.{Setting}
use Rattle.sp_runs.specs.Worlds.{frame_in}
use Rattle.sp_schedule_events.specs.declared.event.Event.{Event}
use Rattle.laws_progress.proofs.Hops.{Told, Wires}
use Rattle.laws_progress.proofs.States.{Era, Leads, Watched, at_node, heard_of}
use Rattle.laws_progress.proofs.Made.{frames_stay}
use Rattle.sp_rules.specs.declared.kflow.FlowKind.{FlowKind}
use Rattle.laws_progress.proofs.EitherKind.{slot_of_kind}

abbrev pub has_ack : Option Kept → Bool
has_ack None = false
has_ack (Some o) = true

-- the number of the first message
abbrev pub number_in : List Kept → ℕ
number_in [] = 0
number_in (o ∷ os) = number_said o.body

abbrev pub is_mine : Flow → Flow → Bool
is_mine flow f = (f.src.0 == flow.src.0) && (f.dst.0 == flow.dst.0)

-- it is a report on the flow under the boots that count
abbrev pub is_slot : Era → Flow → Report → Bool
is_slot era flow r = is_mine flow r.flow && ((r.sboot == era.sboot) && (r.dboot == era.dboot))

abbrev pub told_slot : Era → Flow → Bool → Option Report → Told
told_slot era flow echo None = record { here = true; mine = false; echo = echo; base = 0; have = 0; ack = false; next = 0 }
told_slot era flow echo (Some r) =
    record { here = true; mine = echo && is_slot era flow r; echo = echo; base = r.base; have = r.have; ack = has_ack r.ack; next = number_in r.rels }

abbrev pub slot_in : FlowKind → Result Contents SectionRefused → Option Report
slot_in kind (Ok contents) = slot_of_kind kind contents
slot_in kind (Err refused) = None

abbrev pub nothing_told : Told
nothing_told = record { here = false; mine = false; echo = false; base = 0; have = 0; ack = false; next = 0 }

-- it counts where its head has the version
abbrev pub of_version : Bool → Told → Told
of_version now f = record f { here = now }

-- what a frame of u for v tells, where u made it in its life. What echoes another life of v is of no use there
abbrev pub told_of : Arts → Setting → Era → Flow → NodeId → NodeId → Option (List ℕ) → Told
told_of arts x era flow u v None = nothing_told
told_of arts x era flow u v (Some bytes) =
    if (arts.head bytes).boot == era.life u
    then of_version ((arts.head bytes).topology == era.version)
    (told_slot era flow ((arts.head bytes).echo == era.life v) (slot_in era.kind (arts.sections x.signature_len bytes)))
    else nothing_told

abbrev pub wires : (arts : Arts) (x : Setting) (all : List Event) (era : Era) → Flow → Wires (Watched arts x all era)
wires arts x all era flow = record {
  told = λ w u v k. told_of arts x era flow u v (frame_in w.at.world.directions u v k);
  seen = λ w v u. at_node arts x all era 0 (heard_of era v u) w v;
}

pub told_stays : (arts : Arts) (x : Setting) (all : List Event) (era : Era) (flow : Flow) → (w y : Watched arts x all era) (e : Event) (u v : NodeId) (k : ℕ)
    → Leads arts x all era w e y → k ≤ polls w.at.events u v
    → (wires arts x all era flow).told y u v k ≡ (wires arts x all era flow).told w u v k
told_stays arts x all era flow w y e u v k leads low = ap (told_of arts x era flow u v) (frames_stay arts x all w.at y.at e u v k leads low)
