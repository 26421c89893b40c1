-- What is ready of each object of a frame before anything is taken: a copy with its memory. It is there exactly where the signature is right, wherever
-- the object can be new when its turn comes; elsewhere nobody asks. An object that names other boots than those that are held can't be new.
use Rattle.std.specs.Prelude.{map, IfSome, option_map}
use Rattle.sp_frame.specs.Views.{as_numbered, as_object}
use Rattle.sp_frame.specs.declared.sections.Sections.{Sections}
use Rattle.sp_rules.specs.Handle as rules
use Rattle.sp_rules.specs.Parts.{Parts}
use Rattle.sp_node_arrivals.specs.Epoch.{IsEpochReady}
use Rattle.sp_node_arrivals.specs.Prio.{ArePriosReady}
use Rattle.sp_node_arrivals.specs.Rel.{ground_of}
use Rattle.sp_node_arrivals.specs.Slot.{IsSlotReady}
use Rattle.sp_node_arrivals.specs.Weight.{IsWeightReady}
use Rattle.sp_node_arrivals.specs.declared.arriving.Ready.{Ready}

pub record IsReady (at : rules.Arrival) (p : Parts) (sections : Sections) (ready : Ready) : Type 0 where
  pub update : IfSome (option_map as_object sections.weight) (λ o. IsWeightReady at.fixed p.weights o ready.weight)
  pub messages : ArePriosReady at p.lives p.prio (map as_numbered sections.prios) ready.prios
  pub slot : IfSome sections.slot (λ s. IsSlotReady (ground_of at p) p.rel s ready.slot)
  pub paths : IfSome sections.paths (λ s. IsSlotReady (ground_of at p) p.kflow.flows s ready.paths)
  pub epoch : IfSome (option_map as_object sections.epoch) (λ o. IsEpochReady at.fixed p.lives o ready.epoch)
