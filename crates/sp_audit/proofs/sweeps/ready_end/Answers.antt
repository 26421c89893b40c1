use Rattle.std.proofs.Common.{◌≡◌, true, false, nat_eq, sym, subst, ap, ◌∙◌}
use Rattle.std.proofs.lemmas.Bool.{eq-eqb}
use Rattle.sp_base.specs.declared.id.NodeId.{NodeId}
use Rattle.sp_audit.proofs.Nodes.{same_node}
use Rattle.sp_audit.specs.Ends.{IsFirstEnd, IsReady}
use Rattle.sp_audit.proofs.Hops.{ready_inner, ready_last}
use Rattle.sp_audit.proofs.sweeps.ready_end.Goals as goal

pub returns-then-eq : goal.returns-then-eq
returns-then-eq c = λ before is.
    subst (IsFirstEnd (IsReady c.args.least c.args.flow.src c.args.flow.dst c.args.u c.args.v before) c.args.during.now) (sym c.max.ensures)
    (ready_last c.args.least c.args.flow.src c.args.flow.dst c.args.u c.args.v before c.args.during.now c.sweep_end-back.result c.take_end.result
    (c.sweep_end-back.ensures before is) c.take_end.ensures (same_node c.args.v c.args.flow.dst (sym c.eq.ensures ∙ c.if-eq.true)))

pub returns-else-eq : goal.returns-else-eq
returns-else-eq c = λ before is.
    ready_inner c.args.least c.args.flow.src c.args.flow.dst c.args.u c.args.v before c.args.during.now c.sweep_end-back.result
    (c.sweep_end-back.ensures before is) other
  where
    other : c.args.v ≡ c.args.flow.dst → ⊥
    other same = let is : nat_eq c.args.v.0 c.args.flow.dst.0 ≡ true = eq-eqb c.args.v.0 c.args.flow.dst.0 (ap (λ (n : NodeId). n.0) same) in
        let is_not : nat_eq c.args.v.0 c.args.flow.dst.0 ≡ false = sym c.eq.ensures ∙ c.if-eq.false in cc
