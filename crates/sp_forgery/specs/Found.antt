-- What a node answered to a datagram, and what a walk over the datagram's objects finds.
use Rattle.std.specs.Prelude.{ℕ, List, Option, None, Result, Ok, Err}
use Rattle.laws_node.specs.Objects.{objects_in}
use Rattle.sp_base.specs.declared.id.NodeId.{NodeId}
use Rattle.sp_frame.specs.Sections.{Contents}
use Rattle.sp_frame.specs.declared.refused.FrameRefused.{FrameRefused}
use Rattle.sp_frame.specs.declared.refused.SectionRefused.{SectionRefused}
use Rattle.sp_journal.specs.declared.entry.Entry.{Entry}
use Rattle.sp_node_format.specs.Format.{format_in}
use Rattle.sp_rules.specs.Arrivals.{before_document, document_at, handled, pieces_beside}
use Rattle.sp_rules.specs.Node.{NodeState}
use Rattle.sp_rules.specs.Pieces.{pieces_of}
use Rattle.sp_rules.specs.Steps.{Arrived, Datagram, NodeStep, Output, document_adopted}
use Rattle.sp_rules.specs.declared.answers.Item.{Item}
use Rattle.sp_rules.specs.declared.node.Step.{Step}
use Rattle.sp_rules.specs.declared.node.Taken.{Taken}
use Rattle.sp_runs.specs.Settings.{Setting}
use Rattle.sp_schedule_events.specs.declared.event.Event.{Event}
use Rattle.sp_forgery.specs.Turns.{forged_in_turn, handled_of}

-- the output of an arrival that was answered so, in a format
abbrev pub answered : (format : ℕ) → NodeState → NodeId → List ℕ → Step Taken → Output
answered format n u bytes step =
    let arts = format_in format in
    record {
      reply = Arrived step.reply.link step.reply.items;
      effects = step.effects.list;
      answered = (handled arts n u bytes).answered;
      adopted = document_adopted arts (before_document arts n u bytes) (document_at arts n u bytes);
    }

-- the node answered so to a datagram of u
abbrev pub Answered : (format : ℕ) → NodeState → NodeId → List ℕ → Step Taken → NodeState → Type 0
Answered format n u bytes step new = NodeStep (format_in format) n (Datagram u bytes) (answered format n u bytes step) new

-- the first object that is forged, of bytes that open so and have these sections
abbrev pub found_at : Setting → List Event → List Entry → Result (List ℕ) FrameRefused → Result Contents SectionRefused → List Item → Option (List ℕ)
found_at x es js (Ok frame) (Ok contents) items =
    forged_in_turn x es js (objects_in (pieces_beside contents.document (pieces_of (handled_of x.epochs contents)))) items
found_at x es js (Ok frame) (Err refused) items = None
found_at x es js (Err refused) sections items = None
