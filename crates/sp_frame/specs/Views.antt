-- Sections that are borrowed from a datagram, as values.
use Rattle.std.specs.Prelude.{ℕ, Option, None, Some, List, [], ◌∷◌, map, option_map}
use Rattle.sp_msg.specs.Views.{as_body}
use Rattle.sp_msg.specs.declared.kept.Kept.{Kept}
use Rattle.sp_frame.specs.Reliable.{Report}
use Rattle.sp_frame.specs.Sections.{Contents}
use Rattle.sp_frame.specs.declared.object.ObjectRef.{ObjectRef}
use Rattle.sp_frame.specs.declared.sections.Sections.{Sections}
use Rattle.sp_frame.specs.declared.sections.Slot.{Slot}

-- one, or none
abbrev pub as_list : {X : Type 0} → Option X → List X
as_list None = []
as_list (Some x) = x ∷ []

-- a borrowed signed message as a value
abbrev pub as_object : ObjectRef → Kept
as_object o = record { body = as_body o.body; signature = o.signature.now }

-- a borrowed priority message with its link number as a value
abbrev pub as_numbered : ℕ × ObjectRef → ℕ × Kept
as_numbered message = (message.0, as_object message.1)

-- a borrowed report as a value
abbrev pub as_report : Slot → Report
as_report s = record {
  flow = s.flow;
  sboot = s.sboot;
  dboot = s.dboot;
  base = s.base;
  have = s.have;
  ack = option_map as_object s.ack;
  rels = map as_object s.rels;
}

-- borrowed sections as a value
abbrev pub as_contents : Sections → Contents
as_contents s = record {
  document = option_map (λ d. d.now) s.document;
  weights = as_list (option_map as_object s.weight);
  prio_ack = s.prio_ack;
  prios = map as_numbered s.prios;
  slot = option_map as_report s.slot;
  paths = option_map as_report s.paths;
  probe = s.probe;
  epoch = option_map as_object s.epoch;
}
