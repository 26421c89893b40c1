use Rattle.std.proofs.Common.{ℕ, ◌∙◌, None, sym, subst, ap, map}
use Rattle.sp_frame.specs.Writing.{AreWritable}
use Rattle.sp_frame.specs.declared.kind.Kind.TheVariants as kinds
use Rattle.sp_frame.specs.declared.writing.OutSections.{OutSections}
use Rattle.sp_rules.specs.Lives as lives
use Rattle.sp_rules.specs.Parts.{Parts, place_of}
use Rattle.sp_rules.specs.Polls.{as_message}
use Rattle.sp_rules.specs.Prio.{next_prios}
use Rattle.sp_rules.specs.Weights.{next}
use Rattle.sp_node.proofs.Written.{writable_all, writable_later, writable_one, writable_paths, writable_slot}
use Rattle.sp_node.proofs.poll.in_turn.Goals as goal

pub write-requires : goal.write-requires
write-requires c =
    let format : ℕ = c.args.fixed.now.topology.format in
    let len : ℕ = c.args.fixed.now.signature_len in
    let sections : OutSections = record {
      weight = c.next-weight.result;
      prio_ack = c.heard_of.result;
      prios = c.messages_for.result;
      slot = c.slot_for.result;
      paths = c.paths_for.result;
      probe = None;
      epoch = c.next-epoch.result;
    } in
    subst (λ (format : ℕ). AreWritable format sections) (sym c.requires.format) (record {
      weight = writable_one format c.next-weight.result _ kinds.Weight len
          (c.next-weight.ensures
          ∙ ap (λ (k : ℕ). next c.core.inside.weights k) c.place_of-at.ensures
          ∙ ap (λ (p : Parts). next p.weights (place_of c.args.fixed.now c.args.v)) c.core.view_is)
          c.requires.contents.weights;
      prios = writable_all format c.messages_for.result _ len
          (c.messages_for.ensures ∙ ap (λ (p : Parts). map as_message (next_prios p.prio c.args.v.0)) c.core.view_is) c.requires.contents.prios;
      slot = writable_slot format kinds.Ack kinds.Rel c.slot_for.result _ len c.slot_for.ensures c.requires.contents.slot;
      paths = writable_paths format c.paths_for.result _ len c.paths_for.ensures c.requires.contents.paths;
      epoch = writable_later format c.next-epoch.result _ kinds.Epoch len
          (c.next-epoch.ensures
          ∙ ap (λ (k : ℕ). lives.next c.core.inside.lives c.core.inside.origins k) c.place_of-at.ensures
          ∙ ap (λ (p : Parts). lives.next p.lives p.origins (place_of c.args.fixed.now c.args.v)) c.core.view_is)
          c.requires.contents.epoch;
    })
