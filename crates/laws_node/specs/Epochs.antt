-- What an Epoch object leaves that is answered as new: another life of its origin began.
use Rattle.std.specs.Prelude.{ℕ, ◌≡◌, ◌≢◌, ◌<◌, ◌≤◌, [], if◌then◌else◌}
use Rattle.sp_base.specs.declared.id.Flow.{Flow}
use Rattle.sp_base.specs.declared.id.NodeId.{NodeId}
use Rattle.sp_msg.specs.declared.kept.Kept.{Kept}
use Rattle.sp_rules.specs.Answers.{epoch_answer}
use Rattle.sp_rules.specs.Arts.{Arts}
use Rattle.sp_rules.specs.Flow.{no_flow}
use Rattle.sp_rules.specs.Handle.{Arrival, handle}
use Rattle.sp_rules.specs.Lives.{boot_said, held_boot, judge_epoch, origin_said}
use Rattle.sp_rules.specs.Node.{NodeState}
use Rattle.sp_rules.specs.Parts.{Parts, flows_of, is_signed}
use Rattle.sp_rules.specs.Pieces.{EpochPiece}
use Rattle.sp_rules.specs.Prio.{window_in}
use Rattle.sp_rules.specs.Rel.{flow_in, is_end}
use Rattle.sp_rules.specs.Steps.{Input, NodeStep, Output}
use Rattle.sp_rules.specs.declared.answers.EpochAnswer.TheVariants as epoch
use Rattle.sp_rules.specs.declared.kflow.FlowKind.{FlowKind}

-- one life of a node came after another
pub record Follows (v : NodeId) (boot : ℕ) (old new : Parts) : Type 0 where
  -- its boot is held, which is above the one before; those of other nodes stay
  pub above : held_boot old.lives v < boot
  pub held : held_boot new.lives v ≡ boot
  pub others : (u : NodeId) → u.0 ≢ v.0 → held_boot new.lives u ≡ held_boot old.lives u
  -- none of its numbers was seen; its flows are as before their first message, and other flows stay
  pub window : window_in new.prio v.0 ≡ []
  pub flows : (kind : FlowKind) (flow : Flow)
      → flow_in (flows_of kind new).flows flow ≡ (if is_end v flow then no_flow flow else flow_in (flows_of kind old).flows flow)

-- the law of what a new Epoch object leaves: its boot is held, and flows with that end begin anew
abbrev pub EpochTaken : Type 0
EpochTaken = (arts : Arts) (at : Arrival) (p : Parts) (o : Kept)
    → epoch_answer (is_signed arts at.fixed o) (judge_epoch at.fixed.me p.lives o.body) ≡ epoch.New
    → Follows (origin_said o.body) (boot_said o.body) p (handle arts at p (EpochPiece o)).parts

-- the boot that is held of a node never falls in a life of this one, and that of this one stays
abbrev pub BootsNeverFall : Type 0
BootsNeverFall = (arts : Arts) (old : NodeState) (input : Input) (output : Output) (new : NodeState) (v : NodeId) → NodeStep arts old input output new
    → held_boot old.parts.lives v ≤ held_boot new.parts.lives v

-- the law that no step changes the boot that a node holds of itself
abbrev pub OwnBootStays : Type 0
OwnBootStays = (arts : Arts) (old : NodeState) (input : Input) (output : Output) (new : NodeState) → NodeStep arts old input output new
    → held_boot new.parts.lives old.fixed.me ≡ held_boot old.parts.lives old.fixed.me
