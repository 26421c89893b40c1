use Rattle.std.proofs.Common.{inl, inr}
use Rattle.sp_graph.specs.Lines.{In_range, No_number, Out_of_range}
use Rattle.sp_graph.proofs.fields.number_in.Goals as goal

pub returns-in_default-clause-field : goal.returns-in_default-clause-field
returns-in_default-clause-field c = No_number c.in_default.ensures.none

pub returns-clause-field : goal.returns-clause-field
returns-clause-field c = In_range c.in-Some.n c.in-Some.ensures.found c.in-Some.ensures.small c.if-n-low.false c.if-high-n.false

pub returns-then-n-low-clause-field : goal.returns-then-n-low-clause-field
returns-then-n-low-clause-field c =
    Out_of_range c.in-Some.n c.in-Some.ensures.found c.in-Some.ensures.small (elim c.then-n-low.either [ inl below ↦ inl below | inr above ↦ inr above.1 ])
