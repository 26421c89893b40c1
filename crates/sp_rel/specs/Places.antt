-- Where the row of a flow stands in a table.
use Rattle.std.specs.Prelude.{◌≡◌, List}
use Rattle.std.specs.List.{position}
use Rattle.sp_base.specs.declared.id.Flow.{Flow}
use Rattle.sp_rel.specs.declared.place.Place.{Place}
use Rattle.sp_rules.specs.Flow.{FlowState, is_flow}

-- the place of the first row of the flow
abbrev pub place_in : List FlowState → Flow → Place
place_in flows flow = record { flow = flow; at = position (is_flow flow) flows }

-- it is the place of its flow
abbrev pub IsPlace : List FlowState → Place → Type 0
IsPlace flows place = place.at ≡ position (is_flow place.flow) flows
