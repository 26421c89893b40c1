-- What a node puts into a frame, as values.
use Rattle.std.specs.Prelude.{ℕ, ◌<◌, All, IfSome, None, length, map, option_map}
use Rattle.sp_msg.specs.Bodies.{HasGoodFieldsIn}
use Rattle.sp_msg.specs.declared.kept.Kept.{Kept}
use Rattle.sp_frame.specs.Reliable.{Report}
use Rattle.sp_frame.specs.Sections.{Contents}
use Rattle.sp_frame.specs.Views.{as_list}
use Rattle.sp_frame.specs.declared.writing.OutSections.{OutSections}
use Rattle.sp_frame.specs.declared.writing.OutSlot.{OutSlot}

-- a message whose fields are in their ranges, with a signature whose length has room in two bytes
pub record IsWritable (format : ℕ) (o : Kept) : Type 0 where
  pub fields : HasGoodFieldsIn format o.body
  pub short : length o.signature < 65536

-- a report that is written, as a value
abbrev pub out_report : OutSlot → Report
out_report s = record {
  flow = s.flow;
  sboot = s.sboot;
  dboot = s.dboot;
  base = s.base;
  have = s.have;
  ack = option_map (λ o. o.now) s.ack;
  rels = map (λ o. o.now) s.rels;
}

-- what a slot carries can be written under this format
pub record IsWritableSlot (format : ℕ) (s : OutSlot) : Type 0 where
  pub ack : IfSome s.ack (λ o. IsWritable format o.now)
  pub rels : All (λ o. IsWritable format o.now) s.rels

-- sections that are written, as a value
abbrev pub out_contents : OutSections → Contents
out_contents s = record {
  document = None;
  weights = as_list (option_map (λ o. o.now) s.weight);
  prio_ack = s.prio_ack;
  prios = map (λ p. (p.0, p.1.now)) s.prios;
  slot = option_map out_report s.slot;
  paths = option_map out_report s.paths;
  probe = s.probe;
  epoch = option_map (λ o. o.now) s.epoch;
}

-- all objects of the sections can be written under this format
pub record AreWritable (format : ℕ) (s : OutSections) : Type 0 where
  pub weight : IfSome s.weight (λ o. IsWritable format o.now)
  pub prios : All (λ p. IsWritable format p.1.now) s.prios
  pub slot : IfSome s.slot (IsWritableSlot format)
  pub paths : IfSome s.paths (IsWritableSlot format)
  pub epoch : IfSome s.epoch (λ o. IsWritable format o.now)
