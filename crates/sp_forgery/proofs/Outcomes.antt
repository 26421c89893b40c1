-- What an arrival came to.
use Rattle.std.proofs.Common.{◌≡◌, ℕ, ◌&&◌, true, false, List, ◌++◌, map, Option, None, Some, refl, sym, ap, ◌∙◌, not}
use Rattle.std.specs.Prelude.{option_map}
use Rattle.sp_base.specs.Cursor.{or_else}
use Rattle.sp_base.specs.declared.id.NodeId.{NodeId}
use Rattle.sp_rules.specs.Arrivals.{before_document, document_at, handled, reply_at}
use Rattle.sp_rules.specs.Node.{NodeState, call_refusal}
use Rattle.sp_rules.specs.Steps.{Arrived, Datagram, Output, arrived, document_items, refused_call}
use Rattle.sp_rules.specs.declared.node.LinkReply.{LinkReply}
use Rattle.sp_rules.specs.declared.node.Step.{Step}
use Rattle.sp_rules.specs.declared.node.Taken.{Taken}
use Rattle.sp_runs.specs.Forgery.{forged, forged_document, forged_object, has_forged_tag, is_made, is_tagged}
use Rattle.sp_runs.specs.Settings.{Setting, is_correct}
use Rattle.sp_runs.specs.Worlds.{Direction, World, frames_in}
use Rattle.sp_journal.specs.declared.entry.Entry.{Entry}
use Rattle.sp_schedule_events.specs.declared.event.Event.{Event}
use Rattle.sp_runs.specs.declared.what.What.TheVariants as whats
use Rattle.sp_node_format.specs.Format.{format_in}
use Rattle.sp_forgery.specs.Found.{Answered}

reply_is : (format : ℕ) (n new : NodeState) (u : NodeId) (bytes : List ℕ) (step : Step Taken) → call_refusal n u ≡ None → Answered format n u bytes step new
    → Arrived step.reply.link step.reply.items ≡ Arrived (reply_at (format_in format) n u bytes) (map (λ a. a.1) (handled (format_in format) n u bytes).answered
    ++ document_items (format_in format) (before_document (format_in format) n u bytes) (document_at (format_in format) n u bytes))
reply_is format n new u bytes step called gave =
    ap (λ (o : Output). o.reply) (gave.0 ∙ ap (λ r. refused_call r (arrived (format_in format) n u bytes)) called)

pub link_is : (format : ℕ) (n new : NodeState) (u : NodeId) (bytes : List ℕ) (step : Step Taken) → call_refusal n u ≡ None → Answered format n u bytes step new
    → step.reply.link ≡ reply_at (format_in format) n u bytes
link_is format n new u bytes step called gave = let r = reply_is format n new u bytes step called gave in cc

pub items_are : (format : ℕ) (n new : NodeState) (u : NodeId) (bytes : List ℕ) (step : Step Taken) → call_refusal n u ≡ None
    → Answered format n u bytes step new
    → step.reply.items ≡ map (λ a. a.1) (handled (format_in format) n u bytes).answered
    ++ document_items (format_in format) (before_document (format_in format) n u bytes) (document_at (format_in format) n u bytes)
items_are format n new u bytes step called gave = let r = reply_is format n new u bytes step called gave in cc

module _ (x : Setting) (es : List Event) (js : List Entry) (n : NodeState) (u v : NodeId) (bytes : List ℕ) (w : World) (ds : List Direction) (link : LinkReply)
  where
    has_is : n.fixed.me ≡ v → w.directions ≡ ds → link ≡ reply_at (format_in x.topology.format) n u bytes
        → (is_correct x u && is_tagged link && not (is_made bytes (frames_in ds u v))) ≡ has_forged_tag (format_in x.topology.format) x w n (Datagram u bytes)
    has_is me rows is = rw (is, ← rows, ← me) refl

    pub tag_is : (o : Output) → n.fixed.me ≡ v → w.directions ≡ ds → link ≡ reply_at (format_in x.topology.format) n u bytes
        → (is_correct x u && is_tagged link && not (is_made bytes (frames_in ds u v))) ≡ true
        → Some whats.Tag ≡ forged (format_in x.topology.format) x es js w n (Datagram u bytes) o
    tag_is o me rows is has = rw (sym (has_is me rows is) ∙ has) refl

    pub object_is : (o : Output) (found document : Option (List ℕ)) → n.fixed.me ≡ v → w.directions ≡ ds
        → link ≡ reply_at (format_in x.topology.format) n u bytes
        → (is_correct x u && is_tagged link && not (is_made bytes (frames_in ds u v))) ≡ false
        → found ≡ forged_object (format_in x.topology.format) x es js o.answered
        → document ≡ forged_document (format_in x.topology.format) es o.adopted
        → option_map whats.Object (or_else found document) ≡ forged (format_in x.topology.format) x es js w n (Datagram u bytes) o
    object_is o found document me rows is has same adopted = rw (sym (has_is me rows is) ∙ has, ← same, ← adopted) refl
